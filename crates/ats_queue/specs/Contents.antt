use Rattle.std.specs.Prelude.{ℕ, List}
use Rattle.ats_queue.specs.declared.queued.Queued.{Queued}

-- a class queue: the frames that it holds, in an order that means nothing, how many it may hold, and its tie
pub record Contents (T : Type 0) : Type 0 where
  pub held : List Queued
  pub capacity : ℕ
  pub tie : T
