use Rattle.std.proofs.Common.{Bool, true, false, cond, List, [], ◌∷◌, refl, arith}
use Rattle.std.specs.Prelude.{nat_le, IsPermutation}
use Rattle.std.proofs.lemmas.List.Sorted.{IsPermutation-refl, IsPermutation-cons, IsPermutation-trans}
use Rattle.std.proofs.lemmas.List.Sorted.{IsPermutation-swap}
use Rattle.ats_trace.specs.Projections.{Handed}

-- frames in the order of their arrivals: one frame put before the first that is no earlier
abbrev pub put : Handed → List Handed → List Handed
put h [] = h ∷ []
put h (k ∷ ks) = cond (nat_le h.crossing.arrival k.crossing.arrival) (h ∷ k ∷ ks) (k ∷ put h ks)

-- and each in turn
abbrev pub by_arrival : List Handed → List Handed
by_arrival [] = []
by_arrival (h ∷ hs) = put h (by_arrival hs)

swap_first : (h k : Handed) (ks : List Handed) → IsPermutation (h ∷ k ∷ ks) (k ∷ h ∷ ks)
swap_first h k ks = IsPermutation-swap (h ∷ k ∷ ks) (k ∷ h ∷ ks) 0 1 (omega arith) (omega arith) refl

same_put : (h : Handed) (ks : List Handed) → IsPermutation (h ∷ ks) (put h ks)
same_put h [] = IsPermutation-refl (h ∷ [])
same_put h (k ∷ ks) = by (nat_le h.crossing.arrival k.crossing.arrival) (same_put h ks)
  where
    by : (b : Bool) → IsPermutation (h ∷ ks) (put h ks)
        → IsPermutation (h ∷ k ∷ ks) (cond b (h ∷ k ∷ ks) (k ∷ put h ks))
    by true rest = IsPermutation-refl (h ∷ k ∷ ks)
    by false rest = IsPermutation-trans (h ∷ k ∷ ks) (k ∷ h ∷ ks) (k ∷ put h ks) (swap_first h k ks)
        (IsPermutation-cons k (h ∷ ks) (put h ks) rest)

pub same_frames : (hs : List Handed) → IsPermutation hs (by_arrival hs)
same_frames [] = IsPermutation-refl []
same_frames (h ∷ hs) =
    IsPermutation-trans (h ∷ hs) (h ∷ by_arrival hs) (put h (by_arrival hs))
    (IsPermutation-cons h hs (by_arrival hs) (same_frames hs)) (same_put h (by_arrival hs))
