use Rattle.std.proofs.Common.{◌≡◌, ℕ, zero, suc, ◌+◌, ◌*◌, ◌<◌, ◌≤◌, Bool, true, false, cond, List, [], ◌∷◌, length}
use Rattle.std.proofs.Common.{get_or, take, sum_by, refl, ap, ◌∙◌, subst, inl, inr, add-one, arith}
use Rattle.std.specs.Prelude.{◌-◌, max, ◌&&◌, not, nat_le, nat_lt}
use Rattle.std.specs.List.Sorted.{IsNonDecreasingBy}
use Rattle.std.proofs.lemmas.Bool.{cases_Bool, cases_lt, and_parts, and_from, and_right, le-leb, lt-leb}
use Rattle.std.proofs.lemmas.Bool.{le-ltb}
use Rattle.std.proofs.lemmas.List.{take_more, take_all}
use Rattle.std.proofs.lemmas.List.Sums.{fold-append, sum_by_more}
use Rattle.ats_buffer.specs.Occupancy.{IsPeak}
use Rattle.ats_buffer.specs.Moments.{order_of, bits_where, comes_before, comes_by, ends_by}
use Rattle.ats_buffer.specs.Levels.{no_level, level_after, level_of}
use Rattle.ats_buffer.specs.declared.levels.Level.{Level}
use Rattle.ats_buffer.specs.declared.moments.Moment.{Moment}
use Rattle.ats_buffer.proofs.Cuts.{weight, bits_are, comes, ends, times_ascend, Cut, cut, comes_until, ends_until}
use Rattle.ats_buffer.proofs.Cuts.{no_moment, take-le, le-take}

-- the moments of one port and class, in their order
pub record AreAtPlace (ms : List Moment) : Type 0 where
  pub in_order : IsNonDecreasingBy order_of ms
  pub balanced : (time : ℕ) → bits_where (ends_by time) ms ≤ bits_where (comes_before time) ms

-- what has ended with an end had come before it
pub ended_before : (ms : List Moment) → AreAtPlace ms → (k : ℕ) (d : Moment) → k < length ms
    → (get_or ms k d).comes ≡ false → sum_by (weight ends) (take (k + 1) ms) ≤ sum_by (weight comes) (take k ms)
ended_before ms a k d h end =
    let time : ℕ = (get_or ms k d).at.0 in
    let ended = take-le ends (ends_by time) ms (k + 1) d (omega arith)
    (λ i below is. and_from (not (get_or ms i d).comes) (nat_le (get_or ms i d).at.0 time) is
    (le-leb (get_or ms i d).at.0 time
    (times_ascend (get_or ms i d) (get_or ms k d) (a.in_order i k d (omega arith) h)))) in
    let came = le-take (comes_before time) comes ms k d (omega arith)
    (λ m e. (and_parts m.comes (nat_lt m.at.0 time) e).0)
    (λ i after below. and_right (get_or ms i d).comes (nat_lt (get_or ms i d).at.0 time)
    (le-ltb (get_or ms i d).at.0 time
    (times_ascend (get_or ms k d) (get_or ms i d) (a.in_order k i d after below)))) in
    omega (arith, ended, came, a.balanced time, bits_are (ends_by time) ms, bits_are (comes_before time) ms)

-- after an end comes nothing of its time, and before a coming is all that ends by its time
late_end : (came : Bool) (at time : ℕ) → 2 * time + 1 ≤ 2 * at + cond came 1 0 → (not came && nat_le at time) ≡ false
late_end true at time le = refl
late_end false at time le = lt-leb at time (omega arith)

-- where as much has come by each time as has ended by it and is there
abbrev pub IsThere : List Moment → (ℕ → ℕ) → Type 0
IsThere ms there = (time : ℕ) → bits_where (comes_by time) ms ≡ bits_where (ends_by time) ms + there time

-- what has come with a coming, and has not ended, is there then
came_there : (ms : List Moment) (there : ℕ → ℕ) → AreAtPlace ms → IsThere ms there → (k : ℕ) (d : Moment)
    → k < length ms → (get_or ms k d).comes ≡ true
    → sum_by (weight comes) (take (k + 1) ms)
    ≤ sum_by (weight ends) (take (k + 1) ms) + there (get_or ms k d).at.0
came_there ms there a is k d h come =
    let time : ℕ = (get_or ms k d).at.0 in
    let came = take-le comes (comes_by time) ms (k + 1) d (omega arith)
    (λ i below e. and_from (get_or ms i d).comes (nat_le (get_or ms i d).at.0 time) e
    (le-leb (get_or ms i d).at.0 time
    (times_ascend (get_or ms i d) (get_or ms k d) (a.in_order i k d (omega arith) h)))) in
    let flag : ◌≡◌ {A = ℕ} (cond (get_or ms k d).comes 1 0) 1 = ap (λ (b : Bool). cond b 1 0) come in
    let ended = le-take (ends_by time) ends ms (k + 1) d (omega arith)
    (λ m e. (and_parts (not m.comes) (nat_le m.at.0 time) e).0)
    (λ i after below. late_end (get_or ms i d).comes (get_or ms i d).at.0 time
    (omega (arith, flag, a.in_order k i d (omega arith) below))) in
    omega (arith, came, ended, is time, bits_are (comes_by time) ms, bits_are (ends_by time) ms)

-- the level after one moment more
pub level_more : (ms : List Moment) (k : ℕ) (d : Moment) → k < length ms
    → level_of (take (k + 1) ms) ≡ level_after (level_of (take k ms)) (get_or ms k d)
level_more ms k d h =
    ap level_of (take_more ms k d h) ∙ fold-append level_after no_level (take k ms) (get_or ms k d ∷ [])

-- by whether it comes or ends
abbrev level_if : Bool → Level → ℕ → Level
level_if b level bits = cond b (record { held = level.held + bits; peak = max level.peak (level.held + bits) })
    (record { held = level.held - bits; peak = level.peak })

step : (ms : List Moment) (k : ℕ) (d : Moment) → k < length ms → (b : Bool) → (get_or ms k d).comes ≡ b
    → level_of (take (k + 1) ms) ≡ level_if b (level_of (take k ms)) (get_or ms k d).bits
step ms k d h b e =
    level_more ms k d h ∙ ap (λ (c : Bool). level_if c (level_of (take k ms)) (get_or ms k d).bits) e

-- what is held is what has come and not ended
abbrev pub IsHeld : List Moment → ℕ → Type 0
IsHeld ms k = (level_of (take k ms)).held + sum_by (weight ends) (take k ms) ≡ sum_by (weight comes) (take k ms)

-- the bits of a moment, where it comes and where it ends
counts_come : (m : Moment) → m.comes ≡ true → (weight comes m ≡ m.bits) × (weight ends m ≡ 0)
counts_come m e = (ap (λ (b : Bool). cond b m.bits 0) e, ap (λ (b : Bool). cond (not b) m.bits 0) e)

counts_end : (m : Moment) → m.comes ≡ false → (weight comes m ≡ 0) × (weight ends m ≡ m.bits)
counts_end m e = (ap (λ (b : Bool). cond b m.bits 0) e, ap (λ (b : Bool). cond (not b) m.bits 0) e)

-- an end takes no more than is held
pub end_is_held : (ms : List Moment) → AreAtPlace ms → (k : ℕ) (d : Moment) → k < length ms → IsHeld ms k
    → (get_or ms k d).comes ≡ false → (get_or ms k d).bits ≤ (level_of (take k ms)).held
end_is_held ms a k d h before end =
    let enough = ended_before ms a k d h end in
    let counts = counts_end (get_or ms k d) end in
    omega (arith, before, enough, counts.1, sum_by_more (weight ends) ms k d h)

held_more : (ms : List Moment) → AreAtPlace ms → (k : ℕ) (d : Moment) → k < length ms → IsHeld ms k → IsHeld ms (k + 1)
held_more ms a k d h before =
    let come_sum = sum_by_more (weight comes) ms k d h in
    let end_sum = sum_by_more (weight ends) ms k d h in
    elim (cases_Bool (get_or ms k d).comes) as (λ _. IsHeld ms (k + 1)) [
      | inl come ↦ (
          let now = ap (λ (l : Level). l.held) (step ms k d h true come) in
          let counts = counts_come (get_or ms k d) come in
          omega (arith, before, now, counts.0, counts.1, come_sum, end_sum))
      | inr end ↦ (
          let now = ap (λ (l : Level). l.held) (step ms k d h false end) in
          let counts = counts_end (get_or ms k d) end in
          let enough = end_is_held ms a k d h before end in
          omega (arith, before, now, counts.0, counts.1, come_sum, end_sum, enough))
    ]

pub held_is : (ms : List Moment) → AreAtPlace ms → (d : Moment) (k : ℕ) → k ≤ length ms → IsHeld ms k
held_is ms a d zero h = omega arith
held_is ms a d (suc k) h =
    rw (← add-one k) (held_more ms a k d (omega arith) (held_is ms a d k (omega arith)))

-- the peak is no less than what was held at any place so far, and no more than what is there at some time
record IsHighest (ms : List Moment) (there : ℕ → ℕ) (k : ℕ) : Type 0 where
  most : (j : ℕ) → j ≤ k
      → sum_by (weight comes) (take j ms) ≤ sum_by (weight ends) (take j ms) + (level_of (take k ms)).peak
  time : ℕ
  reached : (level_of (take k ms)).peak ≤ there time

-- so after one moment more, by the new peak
highest_by : (ms : List Moment) (there : ℕ → ℕ) → AreAtPlace ms → (k : ℕ) (d : Moment) → k < length ms
    → IsHighest ms there k → (level_of (take k ms)).peak ≤ (level_of (take (k + 1) ms)).peak
    → (level_of (take (k + 1) ms)).held ≤ (level_of (take (k + 1) ms)).peak
    → (time : ℕ) → (level_of (take (k + 1) ms)).peak ≤ there time → IsHighest ms there (k + 1)
highest_by ms there a k d h before grows covers time reached = record {
  most = λ j le. elim (cases_lt k j) as (λ _. sum_by (weight comes) (take j ms)
      ≤ sum_by (weight ends) (take j ms) + (level_of (take (k + 1) ms)).peak) [
        | inl last ↦ (
            let same : k + 1 ≡ j = omega arith in
            let At : ℕ → Type 0 = λ (n : ℕ). sum_by (weight comes) (take n ms)
            ≤ sum_by (weight ends) (take n ms) + (level_of (take (k + 1) ms)).peak in
            subst At same (let held = held_is ms a d (k + 1) (omega arith) in omega (arith, held, covers)))
        | inr earlier ↦ (let old = before.most j earlier in omega (arith, old, grows))
      ];
  time = time;
  reached = reached;
}

highest_more : (ms : List Moment) (there : ℕ → ℕ) → AreAtPlace ms → IsThere ms there → (k : ℕ) (d : Moment)
    → k < length ms → IsHighest ms there k → IsHighest ms there (k + 1)
highest_more ms there a is k d h before =
    let held = held_is ms a d k (omega arith) in
    let now_held = held_is ms a d (k + 1) (omega arith) in
    let kept = before.most k (omega arith) in
    elim (cases_Bool (get_or ms k d).comes) as (λ _. IsHighest ms there (k + 1)) [
      | inl come ↦ (
          let level = ap (λ (l : Level). l.held) (step ms k d h true come) in
          let peak = ap (λ (l : Level). l.peak) (step ms k d h true come) in
          let came = came_there ms there a is k d h come in
          elim (cases_lt (level_of (take k ms)).peak (level_of (take (k + 1) ms)).held)
          as (λ _. IsHighest ms there (k + 1)) [
            | inl higher ↦ highest_by ms there a k d h before (omega (arith, peak)) (omega (arith, level, peak))
                (get_or ms k d).at.0 (omega (arith, higher, level, peak, came, now_held))
            | inr lower ↦ highest_by ms there a k d h before (omega (arith, peak)) (omega (arith, level, peak))
                before.time (omega (arith, lower, level, peak, before.reached))
          ])
      | inr end ↦ (
          let level = ap (λ (l : Level). l.held) (step ms k d h false end) in
          let peak = ap (λ (l : Level). l.peak) (step ms k d h false end) in
          highest_by ms there a k d h before (omega (arith, peak)) (omega (arith, level, peak, held, kept))
          before.time (omega (arith, peak, before.reached)))
    ]

highest : (ms : List Moment) (there : ℕ → ℕ) → AreAtPlace ms → IsThere ms there → (d : Moment) (k : ℕ) → k ≤ length ms
    → IsHighest ms there k
highest ms there a is d zero h =
    record { most = λ j le. (let none : j ≡ 0 = omega arith in rw none (omega arith)); time = 0; reached = omega arith }
highest ms there a is d (suc k) h =
    rw (← add-one k) (highest_more ms there a is k d (omega arith) (highest ms there a is d k (omega arith)))

-- when all moments are over, the peak is the greatest of what is there at any time
pub peak_is : (ms : List Moment) (there : ℕ → ℕ) → AreAtPlace ms → IsThere ms there → IsPeak there (level_of ms).peak
peak_is ms there a is =
    let all : take (length ms) ms ≡ ms = take_all (length ms) ms (omega arith) in
    let last : IsHighest ms there (length ms) = highest ms there a is no_moment (length ms) (omega arith) in
    let peak : (level_of (take (length ms) ms)).peak ≡ (level_of ms).peak =
    ap (λ (l : List Moment). (level_of l).peak) all in
    let most : (time : ℕ) → there time ≤ (level_of ms).peak = λ time. (
    let c : Cut ms time = cut ms a.in_order time in
    omega (arith, last.most c.place c.within, peak, is time, comes_until ms time c, ends_until ms time c)) in
    record { most = most; reached = (last.time, omega (arith, most last.time, last.reached, peak)) }
