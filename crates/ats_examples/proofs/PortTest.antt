use Rattle.std.proofs.Common.{◌≡◌, ◌≢◌, ℕ, ◌+◌, ◌*◌, ◌<◌, ◌≤◌, Bool, true, ◌&&◌, ◌||◌, List, All, arith}
use Rattle.std.proofs.Common.{inl, inr}
use Rattle.std.specs.Prelude.{AllPairs, not, nat_le, nat_lt, ◌==◌}
use Rattle.std.specs.List.{list_all}
use Rattle.std.proofs.lemmas.Bool.{and_parts, le-leb, and_from}
use Rattle.std.proofs.lemmas.Bool.Decides.{nat_tests}
use Rattle.ats_port_rule.specs.Transmission.{Transmission}
use Rattle.ats_port_rule.specs.PortRule.{AreApart, IsAhead, StartsAfterGap, KeepsPortRule, TieAgrees, KeepsTie}
use Rattle.ats_examples.proofs.Tests.{le_of, lt_of, eq_of, implied, either, all_by, test_of_all, pairs_pass, pairs_by}

-- A test of the port rule on closed lists, and of a tie.

abbrev pub waits : Transmission → Bool
waits x = nat_le x.eligible x.start

abbrev pub takes : ℕ → Transmission → Bool
takes ps x = x.end == x.start + ps * x.bits

abbrev pub apart : Transmission → Transmission → Bool
apart x y = nat_le x.end y.start || nat_le y.end x.start

abbrev pub ahead : Transmission → Transmission → Bool
ahead x y = nat_le y.class x.class && (not (x.class == y.class) || nat_le x.eligible y.eligible)

abbrev pub chosen : Transmission → Transmission → Bool
chosen x y = not (nat_lt x.start y.start && nat_le y.eligible x.start) || ahead x y

abbrev pub after_gap : List Transmission → Transmission → Bool
after_gap sent x = list_all (λ (z : Transmission). not (z.end == x.start)) sent

abbrev pub prompt : List Transmission → Transmission → Transmission → Bool
prompt sent x y = not (after_gap sent x && nat_le x.start y.start) || nat_le x.start y.eligible

abbrev pub of_each : (Transmission → Transmission → Bool) → List Transmission → Bool
of_each test sent = list_all (λ (x : Transmission). list_all (test x) sent) sent

abbrev pub waits_pass : ℕ → List Transmission → Bool
waits_pass ps sent = list_all waits sent

abbrev pub takes_pass : ℕ → List Transmission → Bool
takes_pass ps sent = list_all (takes ps) sent

abbrev pub apart_pass : ℕ → List Transmission → Bool
apart_pass ps sent = pairs_pass apart sent

abbrev pub chosen_pass : ℕ → List Transmission → Bool
chosen_pass ps sent = of_each chosen sent

abbrev pub prompt_pass : ℕ → List Transmission → Bool
prompt_pass ps sent = of_each (prompt sent) sent

abbrev pub keeps_port_rule : ℕ → List Transmission → Bool
keeps_port_rule ps sent =
    waits_pass ps sent && (takes_pass ps sent && (apart_pass ps sent && (chosen_pass ps sent && prompt_pass ps sent)))

pub of_each_by : (R : Transmission → Transmission → Type 0) (test : Transmission → Transmission → Bool)
    → ((x y : Transmission) → test x y ≡ true → R x y) → (sent : List Transmission) → of_each test sent ≡ true
    → All (λ (x : Transmission). All (λ (y : Transmission). R x y) sent) sent
of_each_by R test shows sent passed =
    all_by (λ (x : Transmission). All (λ (y : Transmission). R x y) sent) (λ (x : Transmission). list_all (test x) sent)
    (λ x h. all_by (R x) (test x) (shows x) sent h) sent passed

pub of_lt : (a b : ℕ) → a < b → nat_lt a b ≡ true
of_lt a b h = grind (arith, nat_tests)

pub of_eq : (a b : ℕ) → a ≡ b → (a == b) ≡ true
of_eq a b h = grind (arith, nat_tests)

of_ne : (a b : ℕ) → a ≢ b → not (a == b) ≡ true
of_ne a b h = grind (arith, nat_tests)

apart_by : (x y : Transmission) → apart x y ≡ true → AreApart x y
apart_by x y h = elim (either (nat_le x.end y.start) (nat_le y.end x.start) h) [
  | inl p ↦ inl (le_of x.end y.start p)
  | inr p ↦ inr (le_of y.end x.start p)
]

ahead_by : (x y : Transmission) → ahead x y ≡ true → IsAhead x y
ahead_by x y h =
    let parts : (nat_le y.class x.class ≡ true) × ((not (x.class == y.class) || nat_le x.eligible y.eligible) ≡ true) =
    and_parts (nat_le y.class x.class) (not (x.class == y.class) || nat_le x.eligible y.eligible) h in
    record {
      class = le_of y.class x.class parts.0;
      no_later = λ same. le_of x.eligible y.eligible
          (implied (x.class == y.class) (nat_le x.eligible y.eligible) parts.1 (of_eq x.class y.class same));
    }

chosen_by : (x y : Transmission) → chosen x y ≡ true → x.start < y.start → y.eligible ≤ x.start → IsAhead x y
chosen_by x y h before eligible =
    ahead_by x y (implied (nat_lt x.start y.start && nat_le y.eligible x.start) (ahead x y) h
    (and_from (nat_lt x.start y.start) (nat_le y.eligible x.start) (of_lt x.start y.start before)
    (le-leb y.eligible x.start eligible)))

prompt_by : (sent : List Transmission) (x y : Transmission) → prompt sent x y ≡ true → StartsAfterGap sent x
    → x.start ≤ y.start → x.start ≤ y.eligible
prompt_by sent x y h gap before =
    let passes : after_gap sent x ≡ true = test_of_all (λ (z : Transmission). z.end ≢ x.start)
    (λ (z : Transmission). not (z.end == x.start)) (λ z. of_ne z.end x.start) sent gap in
    le_of x.start y.eligible (implied (after_gap sent x && nat_le x.start y.start) (nat_le x.start y.eligible) h
    (and_from (after_gap sent x) (nat_le x.start y.start) passes (le-leb x.start y.start before)))

pub waits_by : (ps : ℕ) (sent : List Transmission) → waits_pass ps sent ≡ true
    → All (λ (x : Transmission). x.eligible ≤ x.start) sent
waits_by ps sent h = all_by (λ (x : Transmission). x.eligible ≤ x.start) waits (λ x. le_of x.eligible x.start) sent h

pub takes_by : (ps : ℕ) (sent : List Transmission) → takes_pass ps sent ≡ true
    → All (λ (x : Transmission). x.end ≡ x.start + ps * x.bits) sent
takes_by ps sent h = all_by (λ (x : Transmission). x.end ≡ x.start + ps * x.bits) (takes ps)
    (λ x. eq_of x.end (x.start + ps * x.bits)) sent h

pub all_apart_by : (ps : ℕ) (sent : List Transmission) → apart_pass ps sent ≡ true → AllPairs AreApart sent
all_apart_by ps sent h = pairs_by AreApart apart apart_by sent h

pub all_chosen_by : (ps : ℕ) (sent : List Transmission) → chosen_pass ps sent ≡ true → All
    (λ (x : Transmission). All (λ (y : Transmission). x.start < y.start → y.eligible ≤ x.start → IsAhead x y) sent) sent
all_chosen_by ps sent h =
    of_each_by (λ (x y : Transmission). x.start < y.start → y.eligible ≤ x.start → IsAhead x y) chosen chosen_by sent h

pub all_prompt_by : (ps : ℕ) (sent : List Transmission) → prompt_pass ps sent ≡ true → All (λ (x : Transmission).
    All (λ (y : Transmission). StartsAfterGap sent x → x.start ≤ y.start → x.start ≤ y.eligible) sent) sent
all_prompt_by ps sent h = of_each_by (λ (x y : Transmission). StartsAfterGap sent x → x.start ≤ y.start
    → x.start ≤ y.eligible) (prompt sent) (prompt_by sent) sent h

pub port_rule_by : (ps : ℕ) (sent : List Transmission) → keeps_port_rule ps sent ≡ true → KeepsPortRule ps sent
port_rule_by ps sent h =
    let parts_0 : (waits_pass ps sent ≡ true)
    × ((takes_pass ps sent && (apart_pass ps sent && (chosen_pass ps sent && prompt_pass ps sent))) ≡ true) =
    and_parts (waits_pass ps sent) _ h in
    let parts_1 : (takes_pass ps sent ≡ true)
    × ((apart_pass ps sent && (chosen_pass ps sent && prompt_pass ps sent)) ≡ true) =
    and_parts (takes_pass ps sent) _ parts_0.1 in
    let parts_2 : (apart_pass ps sent ≡ true) × ((chosen_pass ps sent && prompt_pass ps sent) ≡ true) =
    and_parts (apart_pass ps sent) _ parts_1.1 in
    let parts_3 : (chosen_pass ps sent ≡ true) × (prompt_pass ps sent ≡ true) =
    and_parts (chosen_pass ps sent) _ parts_2.1 in
    record {
      waits = waits_by ps sent parts_0.0;
      takes = takes_by ps sent parts_1.0;
      apart = all_apart_by ps sent parts_2.0;
      chosen = all_chosen_by ps sent parts_3.0;
      prompt = all_prompt_by ps sent parts_3.1;
    }

-- where class, eligibility time and order make a tie, the key of the first is less
abbrev pub tie_agrees : (ℕ → ℕ → ℕ) → Transmission → Transmission → Bool
tie_agrees key x y = not (x.class == y.class && (x.eligible == y.eligible && nat_lt x.start y.start))
    || nat_lt (key x.sender x.frame) (key y.sender y.frame)

tie_by : (key : ℕ → ℕ → ℕ) (x y : Transmission) → tie_agrees key x y ≡ true → TieAgrees key x y
tie_by key x y h class eligible before =
    lt_of (key x.sender x.frame) (key y.sender y.frame)
    (implied (x.class == y.class && (x.eligible == y.eligible && nat_lt x.start y.start))
    (nat_lt (key x.sender x.frame) (key y.sender y.frame)) h
    (and_from (x.class == y.class) _ (of_eq x.class y.class class)
    (and_from (x.eligible == y.eligible) _ (of_eq x.eligible y.eligible eligible) (of_lt x.start y.start before))))

pub keeps_tie_by : (key : ℕ → ℕ → ℕ) (sent : List Transmission) → of_each (tie_agrees key) sent ≡ true
    → KeepsTie key sent
keeps_tie_by key sent h = of_each_by (TieAgrees key) (tie_agrees key) (tie_by key) sent h
