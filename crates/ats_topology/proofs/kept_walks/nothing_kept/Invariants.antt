use Rattle.std.proofs.Common.{◌≡◌, ℕ, length, Option, None}
use Rattle.std.specs.List.{All}
use Rattle.std.specs.Global.{Vec}
use Rattle.ats_topology.proofs.kept_walks.nothing_kept.Given as goal

-- so many places so far, with nothing in them
abbrev pub invariant-loop : goal.invariant-loop
invariant-loop l = record {
  count : length l.kept.items ≡ l.counter;
  nothing : All (λ (one : Option (Vec (Option ℕ))). one ≡ None) l.kept.items;
}
