use Rattle.std.proofs.Common.{◌≡◌, List, [], ◌∷◌, ◌++◌, ap, arith, length-append}
use Rattle.std.proofs.lemmas.List.{get_or_push}
use Rattle.ats_transmit.specs.declared.sent.Sent.{Sent}
use Rattle.ats_transmit.specs.Sending.{never, last_of, IsLast}

-- a transmission that was added is the last
last-pushed : (sent : List Sent) (x : Sent) → last_of (sent ++ x ∷ []) ≡ x
last-pushed sent x = get_or_push sent x never _ (omega (arith, length-append sent (x ∷ [])))

pub past_pushed : (sent : List Sent) (x : Sent) → IsLast (sent ++ x ∷ []) x.end.0 x.frame
past_pushed sent x = record {
  ends = ap (λ (y : Sent). y.end.0) (last-pushed sent x);
  named = ap (λ (y : Sent). y.frame) (last-pushed sent x);
}
