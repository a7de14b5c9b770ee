use Rattle.std.proofs.Common.{◌≡◌, ℕ, ◌+◌, ◌*◌, ◌<◌, ◌≤◌, List, [], ◌∷◌, refl, arith, inl, lit<, lit≤}
use Rattle.std.specs.Prelude.{All, AllPairs}
use Rattle.std.proofs.lemmas.List.Elements.{All-cons, All-nil}
use Rattle.std.proofs.lemmas.List.Kept.{AllPairs-cons}
use Rattle.ats_port_rule.specs.PortRule.{AreApart, IsAheadBy, KeepsPortRuleBy, StartsAfterGap}
use Rattle.ats_port_rule.specs.Transmission.{Transmission}
use Rattle.ats_order_examples.specs.Clocked.{ClockIsEachPart, LegalByClocksIsEachPart, LegalByClocksIsMeant}
use Rattle.ats_order_examples.specs.Clocked.{PortRuleIsEachPart, RunIsEachPart, TickIsByToldTimes}
use Rattle.ats_order_examples.specs.Clocked.{after_tick, told_in_tick}

-- Legal runs by clocks: of any network by the words themselves, of two frames of a tick by computation.

port_rule : PortRuleIsEachPart
port_rule told ps_per_bit sent = (
  λ is. (
    is.waits,
    is.takes,
    is.apart,
    λ n x h m y g before there.
        ((is.chosen n x h m y g before there).class, (is.chosen n x h m y g before there).no_later),
    is.prompt,
  ),
  λ h. record {
    waits = h.0;
    takes = h.1;
    apart = h.2;
    chosen = λ n x at m y other before there. record {
      class = (h.3 n x at m y other before there).0;
      no_later = (h.3 n x at m y other before there).1;
    };
    prompt = h.4;
  },
)

clock : ClockIsEachPart
clock declared shows = (
  λ is. (is.in_order, is.no_slower, is.no_faster),
  λ h. record { in_order = h.0; no_slower = h.1; no_faster = h.2 },
)

run : RunIsEachPart
run network travels = (
  λ is. (
    is.in_order,
    is.journeys,
    (
      is.clocks,
      is.told,
      is.keeps,
      is.own,
      is.ports,
      is.links,
      is.groups,
      λ port within n handed at. (is.flows port within n handed at, is.passed port within n handed at),
    ),
  ),
  λ h. record {
    in_order = h.0;
    journeys = h.1;
    clocks = h.2.0;
    told = h.2.1;
    keeps = h.2.2;
    own = h.2.3;
    ports = h.2.4;
    links = h.2.5;
    groups = h.2.6;
    flows = λ port within n handed at. (h.2.7 port within n handed at).0;
    passed = λ port within n handed at. (h.2.7 port within n handed at).1;
  },
)

parts : LegalByClocksIsEachPart
parts = record {
  run = run;
  station = λ shows. (λ h. h, λ h. h);
  bridge = λ processing_min_ns processing_max_ns residence_ns deviation_ppm step_ps shows. (λ h. h, λ h. h);
  clock = clock;
  port_rule = port_rule;
  told = λ told h at. (λ is. is, λ is. is);
  late = λ told h at. tt;
  size = λ told h. tt;
}

-- what is so of each of two
of_two : {X : Type 0} (P : X → Type 0) (x y : X) → P x → P y → All P (x ∷ y ∷ [])
of_two P x y first second = All-cons P x (y ∷ []) first (All-cons P y [] second (All-nil P))

-- and of the one with the other
pair_of : {X : Type 0} (R : X → X → Type 0) (x y : X) → R x y → AllPairs R (x ∷ y ∷ [])
pair_of R x y is =
    AllPairs-cons R x (y ∷ []) (All-cons (R x) y [] is (All-nil (R x)))
    (AllPairs-cons R y [] (All-nil (R y)) (λ i j d before within. absurd (omega arith)))

abbrev earlier : Transmission
earlier = after_tick 0 8000

abbrev later : Transmission
later = after_tick 1 680000

abbrev both : List Transmission
both = earlier ∷ later ∷ []

abbrev IsChosen : Transmission → Transmission → Type 0
IsChosen x y = x.start < y.start → y.eligible ≤ x.start → IsAheadBy told_in_tick x y

abbrev IsPrompt : Transmission → Transmission → Type 0
IsPrompt x y = StartsAfterGap both x → x.start ≤ y.start → x.start ≤ y.eligible

-- none starts before itself, nor the later before the earlier
not_before : (a b : ℕ) → b ≤ a → a < b → ⊥
not_before a b le lt = omega arith

chosen : All (λ (x : Transmission). All (IsChosen x) both) both
chosen =
    of_two (λ (x : Transmission). All (IsChosen x) both) earlier later
    (of_two (IsChosen earlier) earlier later
    (λ before there. absurd (not_before 8000 8000 (lit≤ tt) before))
    (λ before there. record { class = lit≤ tt; no_later = λ e. lit≤ tt }))
    (of_two (IsChosen later) earlier later
    (λ before there. absurd (not_before 680000 8000 (lit≤ tt) before))
    (λ before there. absurd (not_before 680000 680000 (lit≤ tt) before)))

prompt : All (λ (x : Transmission). All (IsPrompt x) both) both
prompt =
    of_two (λ (x : Transmission). All (IsPrompt x) both) earlier later
    (of_two (IsPrompt earlier) earlier later (λ gap from. lit≤ tt) (λ gap from. lit≤ tt))
    (of_two (IsPrompt later) earlier later
    (λ gap from. absurd (gap 0 earlier (lit< tt) refl))
    (λ gap from. absurd (gap 0 earlier (lit< tt) refl)))

in_turn : KeepsPortRuleBy told_in_tick 1000 both
in_turn = record {
  waits = of_two (λ (x : Transmission). x.eligible ≤ x.start) earlier later (lit≤ tt) (lit≤ tt);
  takes = of_two (λ (x : Transmission). x.end ≡ x.start + 1000 * x.bits) earlier later refl refl;
  apart = pair_of AreApart earlier later (inl (lit≤ tt));
  chosen = chosen;
  prompt = prompt;
}

not_by_others : ¬ KeepsPortRuleBy told_in_tick 1000 (after_tick 0 680000 ∷ after_tick 1 8000 ∷ [])
not_by_others keeps =
    let ahead : IsAheadBy told_in_tick (after_tick 1 8000) (after_tick 0 680000) =
    keeps.chosen 1 later (lit< tt) 0 later (lit< tt) (lit< tt) (lit≤ tt) in
    let no_later : 7999 ≤ 7000 = ahead.no_later refl in
    absurd (omega arith)

in_tick : TickIsByToldTimes
in_tick = record { in_turn = in_turn; not_by_others = not_by_others }

pub legal_by_clocks_is_meant : LegalByClocksIsMeant
legal_by_clocks_is_meant = record { parts = parts; in_tick = in_tick }
