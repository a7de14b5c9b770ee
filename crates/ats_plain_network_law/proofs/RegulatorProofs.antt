use Rattle.std.proofs.Common.{ℕ, zero, suc, ◌<◌, List, [], ◌∷◌, length, get_or, refl, subst, arith}
use Rattle.ats_bucket.specs.Conforming.{Frame}
use Rattle.ats_lrq.specs.Judge.{AreSpaced}
use Rattle.ats_lrq.specs.Spacing.{IsSpaced}
use Rattle.ats_plain_network_law.specs.Regulators.{LastFramesAreKnown, RegulatorsAreKnown, TalkersAreKnown}

-- What the other regulator keeps of each member, and what a spaced talker keeps.

last_frames : LastFramesAreKnown
last_frames = record {
  first = refl;
  at_first = λ rate. refl;
  accepts = λ state offer e. refl;
}

-- the frame at a place keeps its distance from the one at another
abbrev AreApart : ℕ → List Frame → Frame → ℕ → ℕ → Type 0
AreApart rate frames d k n =
    IsSpaced rate (get_or frames k d).bits (get_or frames k d).at (get_or frames n d).at

by_places : (rate : ℕ) (frames : List Frame) → AreSpaced rate frames → (k : ℕ) (d : Frame) → suc k < length frames
    → AreApart rate frames d k (suc k)
by_places rate [] are k d within = absurd (omega arith)
by_places rate (f ∷ []) are k d within = absurd (omega arith)
by_places rate (f ∷ g ∷ frames) are zero d within = are.0
by_places rate (f ∷ g ∷ frames) are (suc k) d within = by_places rate (g ∷ frames) are.1 k d (omega arith)

one_by_one : (rate : ℕ) (frames : List Frame)
    → ((k : ℕ) (d : Frame) → suc k < length frames → AreApart rate frames d k (suc k)) → AreSpaced rate frames
one_by_one rate [] each = tt
one_by_one rate (f ∷ []) each = tt
one_by_one rate (f ∷ g ∷ frames) each = (
  each zero f (omega arith),
  one_by_one rate (g ∷ frames) (λ k d within. each (suc k) d (omega arith)),
)

talkers : TalkersAreKnown
talkers = record {
  rule = λ declared frames. (
    (λ is. (
      is.bits,
      λ k d within. subst (AreApart declared.rate frames d k) (omega arith)
          (by_places declared.rate frames is.spaced k d (omega arith)),
    )),
    (λ is. record {
      bits = is.0;
      spaced = one_by_one declared.rate frames
          (λ k d within. subst (AreApart declared.rate frames d k) (omega arith) (is.1 k d (omega arith)));
    }),
  );
}

pub regulators_are_known : RegulatorsAreKnown
regulators_are_known = record {
  last_frames = last_frames;
  talkers = talkers;
}
