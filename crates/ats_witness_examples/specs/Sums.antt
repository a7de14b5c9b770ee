use Rattle.std.specs.Prelude.{◌≡◌, ◌↔◌, ℕ, ◌≤◌, slice_index_or}
use Rattle.ats_network.specs.Edits.{no_stream}
use Rattle.ats_network.specs.Network.{DeclaredNetwork}
use Rattle.ats_network.specs.Sender.{stream_sender}
use Rattle.ats_certificate.specs.Certificate.{bound_on}
use Rattle.ats_bound.specs.Least.{least_certificate}
use Rattle.ats_trace.specs.Ways.{route_to}
use Rattle.ats_witness.specs.Found.{IsWithinBound}
use Rattle.ats_command_due.specs.Witnessed.{least_sum}
use Rattle.ats_examples.specs.ClockedRuns.{slow_line}
use Rattle.ats_text_examples.specs.Worked.{wide}
use Rattle.ats_tree_examples.specs.Networks.{tree}

-- the sum of which it is said that a found delay is at most so much, and no other number: each delay is within the
-- stream's bound for the listener where it is at most that, and only there
pub record SumIsOfBound (network : DeclaredNetwork) (stream listener : ℕ) : Type 0 where
  pub is_within : (delay : ℕ) → delay ≤ least_sum network stream listener
      → IsWithinBound network stream listener delay
  pub at_most : (delay : ℕ) → IsWithinBound network stream listener delay
      → delay ≤ least_sum network stream listener

-- the sum of a stream's bounds along the route to the listener with a number, by the network's own least certificate
abbrev pub own_sum : DeclaredNetwork → ℕ → ℕ → ℕ
own_sum network stream listener =
    bound_on (least_certificate network) (slice_index_or network.streams stream no_stream)
    (route_to (stream_sender (slice_index_or network.streams stream no_stream)) listener)

-- so it is whatever clocks the nodes of the network have, and the same number is the one that a delay is within: over
-- the line whose bridge has a slow clock it is 13836000 and 12838000, of which 2000 are for the clock. Refuses the sum
-- of the network with ideal clocks
pub record SumsAreOfLeast : Type 0 where
  pub sum : (network : DeclaredNetwork) (stream listener : ℕ)
      → least_sum network stream listener ≡ own_sum network stream listener
  pub within : (network : DeclaredNetwork) (stream listener delay : ℕ)
      → IsWithinBound network stream listener delay ↔ (delay ≤ own_sum network stream listener)
  pub slow : least_sum slow_line 0 0 ≡ 26674000
  pub most : IsWithinBound slow_line 0 0 26674000

-- the sum beside the delays of a stream for a listener is that of its own least bounds along the route there
pub record SumsAreOwn : Type 0 where
  pub first : least_sum wide 0 0 ≡ 467673029
  pub second : least_sum wide 1 0 ≡ 261014682
  pub to_first : least_sum tree 0 0 ≡ 40508000
  pub to_second : least_sum tree 0 1 ≡ 26672000
  pub to_third : least_sum tree 0 2 ≡ 54344000
  pub of_bound : (network : DeclaredNetwork) (stream listener : ℕ) → SumIsOfBound network stream listener
  pub of_least : SumsAreOfLeast
