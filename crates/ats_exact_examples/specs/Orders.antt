use Rattle.std.specs.Prelude.{◌≡◌, ◌≢◌, ℕ, ◌+◌, ◌<◌, ◌^◌, [], ◌∷◌, bit_xor, codes, map, replicate}
use Rattle.ats_num.specs.Tie.{late_key, mixed_key}
use Rattle.ats_network.specs.Network.{DeclaredNetwork, declared_network}
use Rattle.ats_trace.specs.declared.journey.Release.{Release}
use Rattle.ats_gen.specs.Made.{made, stream_of}
use Rattle.ats_witness.specs.Last.{last_key}
use Rattle.ats_command_input.specs.Order.{key_of, wait_of}
use Rattle.ats_command_input.specs.declared.order.Order.TheVariants.{Late, Mixed}
use Rattle.ats_examples.specs.Networks.{line, stream}
use Rattle.ats_tree_examples.specs.Networks.{split_and_stream}

-- Keys, waits and turns beyond a few senders, streams and frames.

-- of two senders the later one goes first by the order `late`. Refuses a key by few bits of the sender
abbrev pub LaterGoFirst : Type 0
LaterGoFirst = (sender other frame next : ℕ) → sender < other → other < 2 ^ 32 → frame < 2 ^ 32
    → late_key other frame < late_key sender next

-- and by a mixed order the one whose number is less after the exclusive or, whatever the numbers
abbrev pub MixedGoByNumber : Type 0
MixedGoByNumber = (n sender other frame next : ℕ) → bit_xor sender n < bit_xor other n → frame < 2 ^ 32
    → mixed_key n sender frame < mixed_key n other next

-- senders, frames and spreads that are not small: streams 5118 and 5119, and frame 199999. Refuses
-- `(7 - sender) * 2 ^ 32 + frame`, by which both tie, and waits or keys by the lowest bits
pub record GreatNumbersCount : Type 0 where
  pub late : key_of Late 5119 5 < key_of Late 5118 4
  pub mixed : key_of (Mixed 4294967295) 5119 5 < key_of (Mixed 4294967295) 5118 4
  pub wait : wait_of (Mixed 4294967295) 199999 1000000000 ≡ 294767292

-- the frames of the other senders go by their numbers alone, and all of the last sender's behind them. Refuses a
-- witness by whose order the later of the others goes first, as by `late`
pub record OthersKeepTheirOrder : Type 0 where
  pub others : (last sender frame : ℕ) → sender ≢ last → last_key last sender frame ≡ frame
  pub own : (last frame : ℕ) → last_key last last frame ≡ 2 ^ 32 + frame
  pub before : last_key 0 1 3 < last_key 0 2 5
  pub behind : last_key 0 2 3 < last_key 0 1 5

-- the line with three streams, and with five
abbrev pub crowd : DeclaredNetwork
crowd = declared_network line.topology
    (stream (codes "a") (0 ∷ 2 ∷ []) ∷ stream (codes "b") (0 ∷ 2 ∷ []) ∷ stream (codes "c") (0 ∷ 2 ∷ []) ∷ []) []

abbrev pub crowd_of_five : DeclaredNetwork
crowd_of_five = declared_network line.topology (replicate 5 (stream (codes "a") (0 ∷ 2 ∷ []))) []

-- all streams take turns, each once, however many listeners it has: of two streams, the first of which has two
-- listeners, each has every second frame. Refuses turns of the first two streams alone, and turns of listeners
pub record AllTakeTurns : Type 0 where
  pub three : map (stream_of crowd) (0 ∷ 1 ∷ 2 ∷ 3 ∷ 4 ∷ 5 ∷ []) ≡ 0 ∷ 1 ∷ 2 ∷ 0 ∷ 1 ∷ 2 ∷ []
  pub five : map (stream_of crowd_of_five) (0 ∷ 1 ∷ 2 ∷ 3 ∷ 4 ∷ 5 ∷ []) ≡ 0 ∷ 1 ∷ 2 ∷ 3 ∷ 4 ∷ 0 ∷ []
  pub of_both : map (stream_of split_and_stream) (0 ∷ 1 ∷ 2 ∷ 3 ∷ []) ≡ 0 ∷ 1 ∷ 0 ∷ 1 ∷ []
  pub made_of_both : map (λ (r : Release). r.sender) (made split_and_stream 7 4) ≡ 0 ∷ 1 ∷ 0 ∷ 1 ∷ []
  pub made : map (λ (r : Release). r.sender) (made crowd 7 4) ≡ 0 ∷ 1 ∷ 2 ∷ 0 ∷ []

pub record OrdersAreExact : Type 0 where
  pub late : LaterGoFirst
  pub mixed : MixedGoByNumber
  pub great : GreatNumbersCount
  pub others : OthersKeepTheirOrder
  pub turns : AllTakeTurns
