use Rattle.std.specs.Prelude.{◌≡◌, ℕ, List, [], ◌∷◌, length, codes}
use Rattle.ats_streams.specs.Stream.{DeclaredStream}
use Rattle.ats_requests.specs.Requests.{after_all, answers}
use Rattle.ats_requests.specs.declared.answer.Answer.TheVariants.{Admitted, Withdrawn, Refused}
use Rattle.ats_requests.specs.declared.denied.Denied.TheVariants.{NameTaken, NameUnknown}
use Rattle.ats_requests.specs.declared.request.Request.{Request}
use Rattle.ats_requests.specs.declared.request.Request.TheVariants.{Admit, Lowest, Withdraw}
use Rattle.ats_examples.specs.OwnFrames.{own, own_stream}
use Rattle.ats_own_examples.specs.Networks.{local}

-- What is answered to requests, where frames begin or end at bridges.

-- a stream from s1 to s2 with this class at both ports
abbrev pub asked : List ℕ → ℕ → DeclaredStream
asked name class = own_stream name (0 ∷ 2 ∷ []) (class ∷ class ∷ [])

-- a stream of the bridge is withdrawn, and none by the name that an entry for all ports has
abbrev pub local_requests : List Request
local_requests = Withdraw (codes "g") ∷ Withdraw (codes "g-2") ∷ Admit (asked (codes "l-0") 5) ∷ []

-- streams of the bridge and those that end there count for one that comes: without the former its sum is less. They are
-- withdrawn as any
pub record OthersAreAdmitted : Type 0 where
  pub beside : answers own (Admit (asked (codes "c") 7) ∷ Withdraw (codes "g") ∷ Admit (asked (codes "d") 7) ∷ [])
      ≡ Admitted 7 29360000 ∷ Withdrawn ∷ Admitted 7 30032000 ∷ []
  pub lowest : answers own (Lowest (asked (codes "c") 1) ∷ []) ≡ Admitted 1 32575462 ∷ []
  pub of_local : answers local local_requests ≡ Refused NameUnknown ∷ Withdrawn ∷ Refused NameTaken ∷ []
  pub left : length (after_all local local_requests).streams ≡ 4
