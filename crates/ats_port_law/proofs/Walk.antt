use Rattle.std.proofs.Common.{◌≡◌, ℕ, zero, suc, ◌+◌, ◌*◌, ◌<◌, ◌≤◌, Bool, true, cond, List, length, get_or, sum_by}
use Rattle.std.proofs.Common.{All, inl, inr, arith}
use Rattle.std.specs.Prelude.{◌&&◌, nat_le}
use Rattle.std.proofs.Math.Nat.{mul-le-mul_left}
use Rattle.std.proofs.lemmas.Bool.{cases_Bool, cases_lt, and_parts, and_from, and_right, and_left, leb-true, le-leb}
use Rattle.std.proofs.lemmas.Bool.{lt-leb, cond-true, cond-false}
use Rattle.ats_port_rule.specs.Transmission.{Transmission}
use Rattle.ats_port_rule.specs.PortRule.{KeepsPortRuleBy, StartsAfterGap}
use Rattle.ats_port_law.proofs.Pairs.{TakesTime, EndsAt, gap_or_end}
use Rattle.ats_port_law.proofs.Sums.{sum_by-one_more}

-- of this class or a higher one, and started in the time from first to last
abbrev pub is_in_walk : ℕ → ℕ → ℕ → Transmission → Bool
is_in_walk class first last y = nat_le class y.class && (nat_le first y.start && nat_le y.start last)

-- what such a transmission adds to the bits of a walk
abbrev pub bits_in_walk : ℕ → ℕ → ℕ → Transmission → ℕ
bits_in_walk class first last y = cond (is_in_walk class first last y) y.bits 0

abbrev pub walk_bits : ℕ → ℕ → ℕ → List Transmission → ℕ
walk_bits class first last sent = sum_by (bits_in_walk class first last) sent

-- the head of a walk back from x: from its start on, the port sent only such bits until x ended
pub record Head (ps class : ℕ) (sent : List Transmission) (d x : Transmission) (limit : ℕ) : Type 0 where
  pub place : ℕ
  pub within : place < length sent
  pub limited : (get_or sent place d).start ≤ limit
  pub ranked : class ≤ (get_or sent place d).class
  pub before : (get_or sent place d).start ≤ x.start
  pub fills : x.end ≤ (get_or sent place d).start + ps * walk_bits class (get_or sent place d).start x.start sent

-- the end of a walk back from x: since a moment the port sent at most one lower frame and the bits of the walk until x
-- ended, and all frames of the walk became eligible at that moment or later
pub record Walked (ps class lower : ℕ) (sent : List Transmission) (x : Transmission) : Type 0 where
  pub since : ℕ
  pub first : ℕ
  pub reaches : first ≤ x.start
  pub fills : x.end ≤ since + ps * (lower + walk_bits class first x.start sent)
  pub late : All (λ (y : Transmission). class ≤ y.class → first ≤ y.start → since ≤ y.eligible) sent

-- the parts of the test
pub record InWalk (class first last : ℕ) (y : Transmission) : Type 0 where
  pub ranked : class ≤ y.class
  pub after : first ≤ y.start
  pub before : y.start ≤ last

pub in_walk-parts : (class first last : ℕ) (y : Transmission) → is_in_walk class first last y ≡ true
    → InWalk class first last y
in_walk-parts class first last y e =
    let p = and_parts (nat_le class y.class) (nat_le first y.start && nat_le y.start last) e in
    let q = and_parts (nat_le first y.start) (nat_le y.start last) p.1 in
    record {
      ranked = leb-true class y.class p.0;
      after = leb-true first y.start q.0;
      before = leb-true y.start last q.1;
    }

pub in_walk : (class first last : ℕ) (y : Transmission) → class ≤ y.class → first ≤ y.start → y.start ≤ last
    → bits_in_walk class first last y ≡ y.bits
in_walk class first last y c f l =
    cond-true (is_in_walk class first last y) y.bits 0
    (and_from (nat_le class y.class) (nat_le first y.start && nat_le y.start last) (le-leb class y.class c)
    (and_from (nat_le first y.start) (nat_le y.start last) (le-leb first y.start f) (le-leb y.start last l)))

not_in_walk : (class first last : ℕ) (y : Transmission) → y.start < first → bits_in_walk class first last y ≡ 0
not_in_walk class first last y h =
    cond-false (is_in_walk class first last y) y.bits 0
    (and_right (nat_le class y.class) (nat_le first y.start && nat_le y.start last)
    (and_left (nat_le first y.start) (nat_le y.start last) (lt-leb first y.start h)))

-- a longer walk has no fewer bits of each
longer_walk : (class first last earlier : ℕ) (y : Transmission) → earlier ≤ first
    → bits_in_walk class first last y ≤ bits_in_walk class earlier last y
longer_walk class first last earlier y h = elim (cases_Bool (is_in_walk class first last y)) [
  | inl e ↦ (
      let p = in_walk-parts class first last y e in
      let short = cond-true (is_in_walk class first last y) y.bits 0 e in
      let long = in_walk class earlier last y p.ranked (omega (arith, p.after)) p.before in
      omega (arith, short, long))
  | inr e ↦ (let none = cond-false (is_in_walk class first last y) y.bits 0 e in omega (arith, none))
]

-- one transmission further back
further : (class first last : ℕ) (sent : List Transmission) (i : ℕ) (d : Transmission) → i < length sent
    → class ≤ (get_or sent i d).class → (get_or sent i d).start < first → first ≤ last
    → walk_bits class first last sent + (get_or sent i d).bits ≤ walk_bits class (get_or sent i d).start last sent
further class first last sent i d h c before order =
    let z : Transmission = get_or sent i d in
    let more = sum_by-one_more (bits_in_walk class first last) (bits_in_walk class z.start last) sent i d h
    (λ (y : Transmission). longer_walk class first last z.start y (omega (arith, before)))
    (not_in_walk class first last z before) in
    omega (arith, more, in_walk class z.start last z c (omega arith) (omega (arith, before, order)))

-- after a gap the walk ends
ends_at_gap : {told : Transmission → ℕ} (ps class lower : ℕ) (sent : List Transmission) (d x : Transmission)
    (limit : ℕ) → KeepsPortRuleBy told ps sent
    → (h : Head ps class sent d x limit) → StartsAfterGap sent (get_or sent h.place d) → Walked ps class lower sent x
ends_at_gap ps class lower sent d x limit r h gap =
    let head : Transmission = get_or sent h.place d in
    record {
      since = head.start;
      first = head.start;
      reaches = h.before;
      fills = omega (arith, h.fills);
      late = λ k e hk c f. r.prompt h.place d h.within k e hk gap f;
    }

-- behind a lower frame too
ends_at_lower : {told : Transmission → ℕ} (ps class lower : ℕ) (sent : List Transmission) (d x : Transmission)
    (limit : ℕ) → KeepsPortRuleBy told ps sent
    → TakesTime ps sent → All (λ (y : Transmission). y.class < class → y.bits ≤ lower) sent
    → (h : Head ps class sent d x limit) → (z : EndsAt sent d (get_or sent h.place d).start)
    → (get_or sent z.place d).class < class → Walked ps class lower sent x
ends_at_lower ps class lower sent d x limit r long short h z below =
    let head : Transmission = get_or sent h.place d in
    let one : Transmission = get_or sent z.place d in
    let takes : one.end ≡ one.start + ps * one.bits = r.takes z.place d z.within in
    let some : 1 ≤ ps * one.bits = long z.place d z.within in
    let product : ps * one.bits ≤ ps * lower = mul-le-mul_left ps (short z.place d z.within below) in
    record {
      since = one.start;
      first = head.start;
      reaches = h.before;
      fills = omega (arith, h.fills, z.end, takes, product);
      late = λ k e hk c f.
          elim (cases_lt one.start (get_or sent k e).eligible) as (λ _. one.start ≤ (get_or sent k e).eligible) [
            | inl after ↦ omega (arith, after)
            | inr known ↦ absurd (
                let ahead = r.chosen z.place d z.within k e hk (omega (arith, takes, some, z.end, f)) known in
                omega (arith, ahead.class, c, below))
          ];
    }

-- to a frame of the class or higher it goes on
goes_on : {told : Transmission → ℕ} (ps class : ℕ) (sent : List Transmission) (d x : Transmission) (limit : ℕ)
    → KeepsPortRuleBy told ps sent
    → TakesTime ps sent
    → (h : Head ps class sent d x (suc limit)) → (z : EndsAt sent d (get_or sent h.place d).start)
    → class ≤ (get_or sent z.place d).class → Head ps class sent d x limit
goes_on ps class sent d x limit r long h z above =
    let head : Transmission = get_or sent h.place d in
    let one : Transmission = get_or sent z.place d in
    let takes : one.end ≡ one.start + ps * one.bits = r.takes z.place d z.within in
    let some : 1 ≤ ps * one.bits = long z.place d z.within in
    let more = mul-le-mul_left ps
    (further class head.start x.start sent z.place d z.within above (omega (arith, takes, some, z.end)) h.before) in
    record {
      place = z.place;
      within = z.within;
      limited = omega (arith, takes, some, z.end, h.limited);
      ranked = above;
      before = omega (arith, takes, z.end, h.before);
      fills = omega (arith, h.fills, takes, z.end, more);
    }

-- the walk back from a head, which starts by a limit
pub walk : {told : Transmission → ℕ} (ps class lower : ℕ) (sent : List Transmission) (d x : Transmission)
    → KeepsPortRuleBy told ps sent
    → TakesTime ps sent → All (λ (y : Transmission). y.class < class → y.bits ≤ lower) sent
    → (limit : ℕ) → Head ps class sent d x limit → Walked ps class lower sent x
walk ps class lower sent d x r long short zero h =
    elim (gap_or_end sent d (get_or sent h.place d).start) as (λ _. Walked ps class lower sent x) [
      | inl gap ↦ ends_at_gap ps class lower sent d x zero r h gap
      | inr z ↦ absurd (omega (arith, h.limited, z.end, r.takes z.place d z.within, long z.place d z.within))
    ]
walk ps class lower sent d x r long short (suc limit) h =
    elim (gap_or_end sent d (get_or sent h.place d).start) as (λ _. Walked ps class lower sent x) [
      | inl gap ↦ ends_at_gap ps class lower sent d x (suc limit) r h gap
      | inr z ↦ elim (cases_lt (get_or sent z.place d).class class) as (λ _. Walked ps class lower sent x) [
        | inl below ↦ ends_at_lower ps class lower sent d x (suc limit) r long short h z below
        | inr above ↦ walk ps class lower sent d x r long short limit (goes_on ps class sent d x limit r long h z above)
      ]
    ]
