use Rattle.std.specs.Prelude.{◌≡◌, ℕ, List, [], ◌∷◌, ◌++◌, codes, None}
use Rattle.ats_streams.specs.Stream.{DeclaredStream, declared_stream}
use Rattle.ats_network.specs.Network.{DeclaredNetwork, declared_network}
use Rattle.ats_tally.specs.declared.reason.Reason.TheVariants.{Deadline}
use Rattle.ats_requests.specs.Requests.{after_all, answers}
use Rattle.ats_requests.specs.declared.answer.Answer.TheVariants.{Admitted, Withdrawn, Refused}
use Rattle.ats_requests.specs.declared.denied.Denied.TheVariants.{NameTaken, NameUnknown, Because}
use Rattle.ats_requests.specs.declared.request.Request.TheVariants.{Admit, Lowest, Withdraw}
use Rattle.ats_examples.specs.Networks.{flow}
use Rattle.ats_verdict_examples.specs.Networks.{line_until, of_three, of_two}

-- Requests that tell apart what each of them asks, and the networks that come of them.

-- the line, whose stream has a deadline of 30,000 ns, and with a flow
abbrev pub bridged : DeclaredNetwork
bridged = line_until 30000

abbrev pub with_flow : DeclaredNetwork
with_flow = declared_network bridged.topology bridged.streams (flow (codes "f") (0 ∷ 2 ∷ []) ∷ [])

-- a stream on the same path with frames of 64 octets, of this name, classes and deadline
abbrev pub small : List ℕ → ℕ → ℕ → DeclaredStream
small name class deadline_ns =
    declared_stream name (0 ∷ 2 ∷ []) (class ∷ class ∷ []) 10000000 672 64 64 deadline_ns None

-- the network with this stream behind the others
abbrev pub and_stream : DeclaredNetwork → DeclaredStream → DeclaredNetwork
and_stream network stream = declared_network network.topology (network.streams ++ stream ∷ []) network.flows

-- in classes 1 to 5 the stream itself would be late, and in class 6 its bounds are just its deadline: so it gets that
-- one, at each port. With a deadline of 1 ns less it is late there too
pub record LowestIsHigher : Type 0 where
  pub given : answers bridged (Lowest (small (codes "c") 1 28016) ∷ []) ≡ Admitted 6 28016000 ∷ []
  pub after : after_all bridged (Lowest (small (codes "c") 1 28016) ∷ [])
      ≡ and_stream bridged (small (codes "c") 6 28016)
  pub in_class_five : answers bridged (Admit (small (codes "c") 5 28016) ∷ [])
      ≡ Refused (Because (Deadline (codes "c") None 30757334)) ∷ []
  pub in_class_six : answers bridged (Admit (small (codes "c") 6 28015) ∷ [])
      ≡ Refused (Because (Deadline (codes "c") None 28016000)) ∷ []

-- a stream that is admitted stands last, with the class that it asks for, and a denial leaves all as it was; of one
-- name with a flow none is admitted, and a flow is no stream to withdraw. One that is withdrawn leaves the others in
-- their order, and its name may come again
pub record NetworksFollow : Type 0 where
  pub admitted : after_all bridged (Admit (small (codes "c") 7 1000000) ∷ [])
      ≡ and_stream bridged (small (codes "c") 7 1000000)
  pub two : after_all bridged (Admit (small (codes "c") 7 1000000) ∷ Admit (small (codes "d") 6 1000000) ∷ [])
      ≡ and_stream (and_stream bridged (small (codes "c") 7 1000000)) (small (codes "d") 6 1000000)
  pub denied : after_all bridged (Admit (small (codes "a") 7 1000000) ∷ []) ≡ bridged
  pub late : after_all bridged (Admit (small (codes "c") 6 28015) ∷ []) ≡ bridged
  pub as_flow : answers with_flow (Admit (small (codes "f") 7 1000000) ∷ Lowest (small (codes "f") 1 1000000)
      ∷ Withdraw (codes "f") ∷ []) ≡ Refused NameTaken ∷ Refused NameTaken ∷ Refused NameUnknown ∷ []
  pub withdrawn : after_all (of_three 91352) (Withdraw (codes "y") ∷ []) ≡ of_two 91352
  pub first_withdrawn : after_all bridged (Withdraw (codes "a") ∷ []) ≡ declared_network bridged.topology [] []
  pub again : answers bridged (Withdraw (codes "a") ∷ Admit (small (codes "a") 7 1000000) ∷ Withdraw (codes "a") ∷ [])
      ≡ Withdrawn ∷ Admitted 7 3344000 ∷ Withdrawn ∷ []

pub record StreamsAreAdmitted : Type 0 where
  pub lowest : LowestIsHigher
  pub networks : NetworksFollow
