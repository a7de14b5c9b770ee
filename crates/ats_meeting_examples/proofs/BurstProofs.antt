use Rattle.std.proofs.Common.{◌≡◌, ℕ, zero, suc, ◌<◌, List, [], ◌∷◌, refl, ◌∙◌, arith, lit<, lit≤, inl, inr}
use Rattle.std.specs.List.{AllPairs}
use Rattle.std.proofs.lemmas.List.Elements.{All-cons, All-nil}
use Rattle.std.proofs.lemmas.List.Kept.{AllPairs-cons}
use Rattle.ats_trace.specs.declared.journey.Release.{Release}
use Rattle.ats_witness.specs.Burst.{ComesBefore, burst_of, releases_by}
use Rattle.ats_witness_law.proofs.WorkedBursts.{skips, two_releases}
use Rattle.ats_text_examples.specs.Runs.{release}
use Rattle.ats_meeting_examples.specs.Bursts.{EachFlowIsInTheBurst}
use Rattle.ats_meeting_examples.specs.Networks.{two_flows}

-- Bursts with two flows, by computation.

three_releases : (x y z : Release) → ComesBefore x y → ComesBefore x z → ComesBefore y z
    → AllPairs ComesBefore (x ∷ y ∷ z ∷ [])
three_releases x y z next last between = AllPairs-cons ComesBefore x (y ∷ z ∷ [])
    (All-cons (ComesBefore x) y (z ∷ []) next (All-cons (ComesBefore x) z [] last (All-nil (ComesBefore x))))
    (two_releases y z between)

-- a sender whose number is above those of all releases has none of them
past_three : (i : ℕ) (x y z : Release) → x.sender < i → y.sender < i → z.sender < i
    → releases_by i (x ∷ y ∷ z ∷ []) ≡ []
past_three i x y z first second third =
    skips i x (y ∷ z ∷ []) first ∙ skips i y (z ∷ []) second ∙ skips i z [] third

-- the releases of each sender are its frames in the burst at a port of the stream's class
abbrev Each : ℕ → List Release → Type 0
Each port releases = (i : ℕ) → releases_by i releases ≡ burst_of two_flows port 6 i

at_station : Each 0 (release 0 1 1522 ∷ release 0 2 400 ∷ release 1 0 1522 ∷ [])
at_station zero = refl
at_station (suc zero) = refl
at_station (suc (suc zero)) = refl
at_station (suc (suc (suc i))) =
    past_three (suc (suc (suc i))) (release 0 1 1522) (release 0 2 400) (release 1 0 1522)
    (omega arith) (omega arith) (omega arith)

at_bridge : Each 2 (release 0 1 1522 ∷ release 1 0 1522 ∷ release 8976000 2 400 ∷ [])
at_bridge zero = refl
at_bridge (suc zero) = refl
at_bridge (suc (suc zero)) = refl
at_bridge (suc (suc (suc i))) =
    past_three (suc (suc (suc i))) (release 0 1 1522) (release 1 0 1522) (release 8976000 2 400)
    (omega arith) (omega arith) (omega arith)

pub each_flow_is_in_the_burst : EachFlowIsInTheBurst
each_flow_is_in_the_burst = record {
  at_station = record {
    of_each = at_station;
    in_order = three_releases (release 0 1 1522) (release 0 2 400) (release 1 0 1522)
        (inr (refl, lit≤ tt)) (inl (lit< tt)) (inl (lit< tt));
  };
  at_bridge = record {
    of_each = at_bridge;
    in_order = three_releases (release 0 1 1522) (release 1 0 1522) (release 8976000 2 400)
        (inl (lit< tt)) (inl (lit< tt)) (inl (lit< tt));
  };
}
