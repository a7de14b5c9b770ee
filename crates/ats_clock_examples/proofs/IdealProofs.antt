use Rattle.std.proofs.Common.{◌≡◌, ℕ, ◌<◌, [], ◌∷◌, refl, ap, arith, lit<}
use Rattle.std.specs.Prelude.{codes}
use Rattle.std.proofs.lemmas.List.Elements.{All-nil, All-cons}
use Rattle.ats_clock.specs.Clock.{DeclaredClock, declared_clock, ideal}
use Rattle.ats_topology.specs.Node.{clock_of}
use Rattle.ats_topology.specs.Topology.{AreIdeal}
use Rattle.ats_topology.specs.declared.node.Node.{Node}
use Rattle.ats_examples.specs.Networks.{bridge, ranged_bridge, station}
use Rattle.ats_examples.specs.SlowClocks.{slow_bridge}
use Rattle.ats_clock_examples.specs.IdealClocks.{IdealClocksAreShown}
use Rattle.ats_clock_examples.specs.Needs.{clocked_bridge}

-- Which clocks are ideal, node by node.

abbrev GoesIdeally : Node → Type 0
GoesIdeally node = clock_of node.kind ≡ ideal

-- those of two stations and a bridge are where that of the bridge is
of_three : (b : Node) → GoesIdeally b → AreIdeal (station (codes "s1") ∷ station (codes "s2") ∷ b ∷ [])
of_three b is =
    All-cons GoesIdeally (station (codes "s1")) (station (codes "s2") ∷ b ∷ []) refl
    (All-cons GoesIdeally (station (codes "s2")) (b ∷ []) refl
    (All-cons GoesIdeally b [] is (All-nil GoesIdeally)))

-- no clock is that deviates or steps
deviates : (ppm step : ℕ) → 0 < ppm → ¬ (declared_clock ppm step ≡ ideal)
deviates ppm step some same =
    let none : ppm ≡ 0 = ap (λ (c : DeclaredClock). c.deviation_ppm) same in
    absurd (omega (arith, some, none))

steps : (ppm step : ℕ) → 0 < step → ¬ (declared_clock ppm step ≡ ideal)
steps ppm step some same =
    let none : step ≡ 0 = ap (λ (c : DeclaredClock). c.step_ps) same in
    absurd (omega (arith, some, none))

pub ideal_clocks_are_shown : IdealClocksAreShown
ideal_clocks_are_shown = record {
  of_line = of_three (bridge (codes "b1") 1000000) refl;
  of_spread = of_three (ranged_bridge (codes "b1") 12464) refl;
  of_talker = of_three (bridge (codes "b1") 1000000) refl;
  not_slow = λ all. deviates 100 8000 (lit< tt) (all 2 (slow_bridge (codes "b1")) (lit< tt));
  not_deviating = λ all.
      deviates 100 0 (lit< tt) (all 2 (clocked_bridge (codes "b1") 1000000 100 0) (lit< tt));
  not_ticking = λ all.
      steps 0 8000 (lit< tt) (all 2 (clocked_bridge (codes "b1") 1000000 0 8000) (lit< tt));
  not_first = λ all. deviates 100 8000 (lit< tt) (all 4 (slow_bridge (codes "b1")) (lit< tt));
  not_second = λ all. deviates 100 8000 (lit< tt) (all 5 (slow_bridge (codes "b2")) (lit< tt));
}
