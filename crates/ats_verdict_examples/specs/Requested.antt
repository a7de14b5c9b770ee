use Rattle.std.specs.Prelude.{◌≡◌, ℕ, List, [], ◌∷◌, codes, All, Some, None}
use Rattle.ats_streams.specs.Stream.{DeclaredStream, declared_stream}
use Rattle.ats_network.specs.Network.{DeclaredNetwork}
use Rattle.ats_tally.specs.declared.reason.Reason.{Reason}
use Rattle.ats_tally.specs.declared.reason.Reason.TheVariants.{Deadline}
use Rattle.ats_network.specs.Pushes.{with_stream}
use Rattle.ats_admission_law.specs.Near.{reason_judged}
use Rattle.ats_requests.specs.Admission.{reason_with}
use Rattle.ats_requests.specs.Laws.{IsCertified, StaysCertified, AreReasons, IsFirstAccepted}
use Rattle.ats_requests.specs.Requests.{MayAsk, answers, after_all}
use Rattle.ats_requests.specs.declared.answer.Answer.{Answer}
use Rattle.ats_requests.specs.declared.answer.Answer.TheVariants.{Admitted, Withdrawn, Refused}
use Rattle.ats_requests.specs.declared.denied.Denied.TheVariants.{NameTaken, NameUnknown, Because, NoClass}
use Rattle.ats_requests.specs.declared.request.Request.{Request}
use Rattle.ats_requests.specs.declared.request.Request.TheVariants.{Admit, Lowest, Withdraw}
use Rattle.ats_verdict_examples.specs.Networks.{line_until}

-- Requests to a worked network, and what is answered.

-- the line, whose stream has a deadline of 30,000 ns
abbrev pub bridged : DeclaredNetwork
bridged = line_until 30000

-- streams on the same path: of 100 Mb/s with frames of up to 1522 octets, and of 10 Mb/s with frames of 64 octets
abbrev pub large : List ℕ → ℕ → DeclaredStream
large name class =
    declared_stream name (0 ∷ 2 ∷ []) (class ∷ class ∷ []) 100000000 12336 64 1522 1000000 None

abbrev pub small : List ℕ → ℕ → DeclaredStream
small name class = declared_stream name (0 ∷ 2 ∷ []) (class ∷ class ∷ []) 10000000 672 64 64 1000000 None

-- requests, and what is answered
abbrev pub asked : List Request
asked =
    Admit (large (codes "c") 5) ∷ Admit (small (codes "c") 7) ∷ Admit (small (codes "c") 7) ∷ Withdraw (codes "c")
    ∷ Withdraw (codes "c") ∷ Lowest (small (codes "c") 1) ∷ Withdraw (codes "c") ∷ Lowest (large (codes "d") 1) ∷ []

abbrev pub late_a : ℕ → Reason
late_a sum = Deadline (codes "a") None sum

-- by a large stream in any class the first one is late, in class 7 by more
abbrev pub late_in_each : List Reason
late_in_each =
    late_a 51344000 ∷ late_a 51344000 ∷ late_a 51344000 ∷ late_a 51344000 ∷ late_a 51344000 ∷ late_a 51344000
    ∷ late_a 56677334 ∷ []

abbrev pub expected : List Answer
expected =
    Refused (Because (late_a 51344000)) ∷ Admitted 7 28016000 ∷ Refused NameTaken ∷ Withdrawn ∷ Refused NameUnknown
    ∷ Admitted 1 30757334 ∷ Withdrawn ∷ Refused (NoClass late_in_each) ∷ []

-- what the laws of requests ask is met: a certificate holds for the network, and each stream may enter. So the requests
-- are answered, at the end the network is what it was, and a certificate holds for it. The class that is given is the
-- first that is accepted, with none there is a reason in each, and a stream is judged along its path
pub record RequestsAreMet : Type 0 where
  pub certified : IsCertified bridged
  pub may_ask : All (MayAsk bridged) asked
  pub answered : answers bridged asked ≡ expected
  pub left : after_all bridged asked ≡ bridged
  pub stays : StaysCertified bridged (after_all bridged asked)
  pub lowest : IsFirstAccepted bridged (small (codes "c") 1) 1 30757334
  pub no_class : AreReasons bridged (large (codes "d") 1) late_in_each
  pub reason : reason_with bridged (large (codes "c") 5) ≡ Some (late_a 51344000)
  pub judged : reason_judged (with_stream bridged (large (codes "c") 5)) (large (codes "c") 5)
      ≡ Some (late_a 51344000)
