use Rattle.std.proofs.Common.{◌≡◌, ℕ, ◌+◌, ◌*◌, ◌<◌, ◌≤◌, min, max, Bool, true, false, cond, List, [], ◌∷◌, ◌++◌}
use Rattle.std.proofs.Common.{length, get_or, map, filter, sum_by, Option, Some, refl, sym, ap, subst, ◌∙◌, inl, inr}
use Rattle.std.proofs.Common.{arith}
use Rattle.std.specs.Prelude.{fold, unwrap_or, ◌||◌}
use Rattle.std.specs.List.{All}
use Rattle.std.proofs.Math.Nat.{mul-le-mul_right}
use Rattle.std.proofs.lemmas.Bool.{cases_order, eqb-true, eq-eqb, ne_eqb, lt-ltb, le-ltb, ltb-true, or_cases, or_from}
use Rattle.std.proofs.lemmas.Bool.{or_left, or_right}
use Rattle.std.proofs.lemmas.List.{map-append, append-nil}
use Rattle.std.proofs.lemmas.List.Elements.{All-head, All-tail, All-filter, filter_passes, filter-append}
use Rattle.std.proofs.lemmas.List.Sums.{fold-append, sum_by-append, sum_by-cons, sum_by-le, length-filter}
use Rattle.std.proofs.lemmas.List.Sums.{count_by-le-length}
use Rattle.ats_num.specs.declared.rate.TheConstants.{MAX_BPS, MAX_BURST_BITS}
use Rattle.ats_num.specs.declared.wire.TheConstants.{MAX_WIRE_BITS}
use Rattle.ats_network.specs.Class.{PortSender}
use Rattle.ats_certificate.specs.PortSums.{PortSums, is_above, is_of, is_below, longest, shortest, sum_where}
use Rattle.ats_certificate.specs.PortSums.{greatest_where, least_of, least_where, sums_over}
use Rattle.ats_tally.proofs.SeenLemmas.{IsSeen}
use Rattle.ats_tally.specs.Tally.{no_tally, least_with, least_known, tally_with, IsTally, IsWithin, sums_of}
use Rattle.ats_tally.specs.declared.tally.Tally.{Tally}
use Rattle.ats_tally.specs.declared.tally.TheConstants.{MAX_SENDERS}

-- a sender more passes a test, or doesn't
where_push : {X : Type 0} (test : X → Bool) (xs : List X) (x : X)
    → filter test (xs ++ x ∷ []) ≡ filter test xs ++ cond (test x) (x ∷ []) []
where_push test xs x = filter-append test xs (x ∷ [])

-- so a sum has its amount more or not, and so it is with the greatest
pub sum_more : (test : PortSender → Bool) (amount : PortSender → ℕ) (senders : List PortSender) (s : PortSender)
    (b : Bool) → test s ≡ b
    → sum_where test amount (senders ++ s ∷ []) ≡ sum_where test amount senders + cond b (amount s) 0
sum_more test amount senders s b e =
    ap (sum_by amount) (where_push test senders s ∙ ap (λ (t : Bool). filter test senders ++ cond t (s ∷ []) []) e)
    ∙ sum_by-append amount (filter test senders) (cond b (s ∷ []) []) ∙ by b
  where
    by : (b : Bool) → sum_by amount (filter test senders) + sum_by amount (cond b (s ∷ []) [])
        ≡ sum_where test amount senders + cond b (amount s) 0
    by true = omega (arith, sum_by-cons amount s [])
    by false = omega arith

pub greatest_more : (test : PortSender → Bool) (amount : PortSender → ℕ) (senders : List PortSender) (s : PortSender)
    (b : Bool) → test s ≡ b → greatest_where test amount (senders ++ s ∷ [])
    ≡ cond b (max (greatest_where test amount senders) (amount s)) (greatest_where test amount senders)
greatest_more test amount senders s b e =
    ap (λ (t : List PortSender). fold max 0 (map amount t))
    (where_push test senders s ∙ ap (λ (t : Bool). filter test senders ++ cond t (s ∷ []) []) e)
    ∙ ap (fold max 0) (map-append amount (filter test senders) (cond b (s ∷ []) []))
    ∙ fold-append max 0 (map amount (filter test senders)) (map amount (cond b (s ∷ []) []))
    ∙ by b
  where
    by : (b : Bool) → fold max (greatest_where test amount senders) (map amount (cond b (s ∷ []) []))
        ≡ cond b (max (greatest_where test amount senders) (amount s)) (greatest_where test amount senders)
    by true = refl
    by false = refl

-- the least of numbers with one more
least_push : (ns : List ℕ) (n : ℕ) → least_known (ns ++ n ∷ []) ≡ Some (least_with (least_known ns) n)
least_push [] n = refl
least_push (m ∷ ns) n = ap Some (fold-append min m ns (n ∷ []))

pub least_more : (test : PortSender → Bool) (amount : PortSender → ℕ) (senders : List PortSender) (s : PortSender)
    (b : Bool) → test s ≡ b
    → least_known (map amount (filter test (senders ++ s ∷ [])))
    ≡ cond b (Some (least_with (least_known (map amount (filter test senders))) (amount s)))
    (least_known (map amount (filter test senders)))
least_more test amount senders s b e =
    ap (λ (t : List PortSender). least_known (map amount t))
    (where_push test senders s ∙ ap (λ (t : Bool). filter test senders ++ cond t (s ∷ []) []) e)
    ∙ ap least_known (map-append amount (filter test senders) (cond b (s ∷ []) []))
    ∙ by b
  where
    by : (b : Bool) → least_known (map amount (filter test senders) ++ map amount (cond b (s ∷ []) []))
        ≡ cond b (Some (least_with (least_known (map amount (filter test senders))) (amount s)))
        (least_known (map amount (filter test senders)))
    by true = least_push (map amount (filter test senders)) (amount s)
    by false = ap least_known (append-nil (map amount (filter test senders)))

at_below : (class : ℕ) (senders : List PortSender) (tally : Tally) (s : PortSender) → IsTally class senders tally
    → s.class < class → IsTally class (senders ++ s ∷ []) (record tally { lower = max tally.lower (longest s) })
at_below class senders tally s h below =
    let above : is_above class s ≡ false = le-ltb class s.class (omega arith) in
    let of : is_of class s ≡ false = ne_eqb s.class class (λ e. omega arith) in
    record {
      above = omega (arith, h.above, sum_more (is_above class) (λ (s : PortSender). s.rate) senders s false above);
      equal = omega (arith, h.equal, sum_more (is_of class) (λ (s : PortSender). s.rate) senders s false of);
      bursts = omega (
        arith,
        h.bursts,
        sum_more (λ (s : PortSender). is_above class s || is_of class s)
            (λ (s : PortSender). s.burst_bits) senders s false (or_from (is_above class s) (is_of class s) above of),
      );
      lower = ap (λ (n : ℕ). max n (longest s)) h.lower
          ∙ sym (greatest_more (is_below class) longest senders s true (lt-ltb s.class class below));
      least = h.least ∙ sym (least_more (is_of class) shortest senders s false of);
    }

at_above : (class : ℕ) (senders : List PortSender) (tally : Tally) (s : PortSender) → IsTally class senders tally
    → class < s.class
    → IsTally class (senders ++ s ∷ [])
    (record tally { above = tally.above + s.rate; bursts = tally.bursts + s.burst_bits })
at_above class senders tally s h higher =
    let above : is_above class s ≡ true = lt-ltb class s.class higher in
    let of : is_of class s ≡ false = ne_eqb s.class class (λ e. omega arith) in
    record {
      above = omega (arith, h.above, sum_more (is_above class) (λ (s : PortSender). s.rate) senders s true above);
      equal = omega (arith, h.equal, sum_more (is_of class) (λ (s : PortSender). s.rate) senders s false of);
      bursts = omega (
        arith,
        h.bursts,
        sum_more (λ (s : PortSender). is_above class s || is_of class s)
            (λ (s : PortSender). s.burst_bits) senders s true (or_left (is_above class s) (is_of class s) above),
      );
      lower =
          h.lower ∙ sym (greatest_more (is_below class) longest senders s false (le-ltb s.class class (omega arith)));
      least = h.least ∙ sym (least_more (is_of class) shortest senders s false of);
    }

at_same : (class : ℕ) (senders : List PortSender) (tally : Tally) (s : PortSender) → IsTally class senders tally
    → s.class ≡ class
    → IsTally class (senders ++ s ∷ []) (record tally {
      equal = tally.equal + s.rate;
      bursts = tally.bursts + s.burst_bits;
      least = Some (least_with tally.least (shortest s));
    })
at_same class senders tally s h same =
    let above : is_above class s ≡ false = le-ltb class s.class (omega (arith, same)) in
    let of : is_of class s ≡ true = eq-eqb s.class class same in
    record {
      above = omega (arith, h.above, sum_more (is_above class) (λ (s : PortSender). s.rate) senders s false above);
      equal = omega (arith, h.equal, sum_more (is_of class) (λ (s : PortSender). s.rate) senders s true of);
      bursts = omega (
        arith,
        h.bursts,
        sum_more (λ (s : PortSender). is_above class s || is_of class s)
            (λ (s : PortSender). s.burst_bits) senders s true (or_right (is_above class s) (is_of class s) of),
      );
      lower = h.lower
          ∙ sym (greatest_more (is_below class) longest senders s false (le-ltb s.class class (omega (arith, same))));
      least = ap (λ (o : Option ℕ). Some (least_with o (shortest s))) h.least
          ∙ sym (least_more (is_of class) shortest senders s true of);
    }

-- a tally with one sender more is that of the senders with one more
pub tally_more : (class : ℕ) (senders : List PortSender) (tally : Tally) (s : PortSender) → IsTally class senders tally
    → IsTally class (senders ++ s ∷ []) (tally_with class s tally)
tally_more class senders tally s h =
    let lower : Tally = record tally { lower = max tally.lower (longest s) } in
    let upper : Tally = record tally { above = tally.above + s.rate; bursts = tally.bursts + s.burst_bits } in
    let same : Tally = record tally {
      equal = tally.equal + s.rate;
      bursts = tally.bursts + s.burst_bits;
      least = Some (least_with tally.least (shortest s));
    } in
    let Is : Tally → Type 0 = IsTally class (senders ++ s ∷ []) in
    elim (cases_order s.class class) as (λ _. Is (tally_with class s tally)) [
      | inl e ↦ subst Is (sym (ap (λ (b : Bool). cond b lower (cond (is_above class s) upper same)) (le-ltb s.class
          class (omega (arith, e))) ∙ ap (λ (b : Bool). cond b upper same) (le-ltb class s.class (omega (arith, e)))))
          (at_same class senders tally s h e)
      | inr other ↦ elim other as (λ _. Is (tally_with class s tally)) [
        | inl below ↦ subst Is
            (sym (ap (λ (b : Bool). cond b lower (cond (is_above class s) upper same)) (lt-ltb s.class class below)))
            (at_below class senders tally s h below)
        | inr above ↦ subst Is (sym (ap (λ (b : Bool). cond b lower (cond (is_above class s) upper same)) (le-ltb
            s.class class (omega (arith, above))) ∙ ap (λ (b : Bool). cond b upper same) (lt-ltb class s.class above)))
            (at_above class senders tally s h above)
      ]
    ]

pub tally_none : (class : ℕ) → IsTally class [] no_tally
tally_none class = record { above = refl; equal = refl; bursts = refl; lower = refl; least = refl }

-- bounds
sum_within : (test : PortSender → Bool) (amount : PortSender → ℕ) (most count : ℕ) (senders : List PortSender)
    → All (λ (s : PortSender). test s ≡ true → amount s ≤ most) senders → length senders ≤ count
    → sum_where test amount senders ≤ count * most
sum_within test amount most count senders all few =
    let each : All (λ (s : PortSender). amount s ≤ most) (filter test senders) =
    (λ k d h. All-filter test (λ (s : PortSender). test s ≡ true → amount s ≤ most) senders all k d h
    (filter_passes test senders k d h)) in
    let total = sum_by-le amount most (filter test senders) each in
    let fewer : length (filter test senders) ≤ count =
    omega (arith, length-filter test senders, count_by-le-length test senders, few) in
    omega (arith, total, mul-le-mul_right most fewer)

greatest_within : (amount : PortSender → ℕ) (most start : ℕ) (senders : List PortSender) → start ≤ most
    → All (λ (s : PortSender). amount s ≤ most) senders → fold max start (map amount senders) ≤ most
greatest_within amount most start [] le all = le
greatest_within amount most start (s ∷ senders) le all =
    greatest_within amount most (max start (amount s)) senders
    (omega (arith, le, All-head (λ (s : PortSender). amount s ≤ most) s senders all))
    (All-tail (λ (s : PortSender). amount s ≤ most) s senders all)

least_within : (amount : PortSender → ℕ) (most start : ℕ) (senders : List PortSender) → start ≤ most
    → fold min start (map amount senders) ≤ most
least_within amount most start [] le = le
least_within amount most start (s ∷ senders) le =
    least_within amount most (min start (amount s)) senders (omega (arith, le))

known_within : (amount : PortSender → ℕ) (most : ℕ) (senders : List PortSender)
    → All (λ (s : PortSender). amount s ≤ most) senders
    → unwrap_or (least_known (map amount senders)) 0 ≤ most
known_within amount most [] all = omega arith
known_within amount most (s ∷ senders) all =
    least_within amount most (amount s) senders (All-head (λ (s : PortSender). amount s ≤ most) s senders all)

-- what few senders that a port sees make of a class
pub tally_within : (class : ℕ) (senders : List PortSender) (tally : Tally)
    → 1 ≤ class → All IsSeen senders → length senders ≤ MAX_SENDERS → IsTally class senders tally
    → IsWithin MAX_SENDERS tally
tally_within class senders tally shaped all few h =
    record {
      above = omega (
        arith,
        h.above,
        sum_within (is_above class) (λ (s : PortSender). s.rate) MAX_BPS MAX_SENDERS senders
            (λ k d i e. ((all k d i).shaped (omega (arith, ltb-true class (get_or senders k d).class e))).rate.within)
            few,
      );
      equal = omega (
        arith,
        h.equal,
        sum_within (is_of class) (λ (s : PortSender). s.rate) MAX_BPS MAX_SENDERS senders
            (λ k d i e. ((all k d i).shaped
            (omega (arith, shaped, eqb-true (get_or senders k d).class class e))).rate.within) few,
      );
      bursts = omega (
        arith,
        h.bursts,
        sum_within (λ (s : PortSender). is_above class s || is_of class s) (λ (s : PortSender). s.burst_bits)
            MAX_BURST_BITS MAX_SENDERS senders
            (λ k d i e. ((all k d i).shaped (elim (or_cases (is_above class (get_or senders k d))
            (is_of class (get_or senders k d)) e) as (λ _. 1 ≤ (get_or senders k d).class) [
              | inl above ↦ omega (arith, ltb-true class (get_or senders k d).class above)
              | inr of ↦ omega (arith, shaped, eqb-true (get_or senders k d).class class of)
            ])).burst) few,
      );
      lower = omega (
        arith,
        h.lower,
        greatest_within longest MAX_WIRE_BITS 0 (filter (is_below class) senders) (omega arith)
            (All-filter (is_below class) (λ (s : PortSender). longest s ≤ MAX_WIRE_BITS) senders
            (λ k d i. (let z = all k d i in omega (arith, z.sizes.most)))),
      );
      least = omega (
        arith,
        ap (λ (o : Option ℕ). unwrap_or o 0) h.least,
        known_within shortest MAX_WIRE_BITS (filter (is_of class) senders)
            (All-filter (is_of class) (λ (s : PortSender). shortest s ≤ MAX_WIRE_BITS) senders
            (λ k d i. (let z = all k d i in omega (arith, z.sizes.ordered, z.sizes.most)))),
      );
    }

known_is : (ns : List ℕ) → unwrap_or (least_known ns) 0 ≡ least_of ns
known_is [] = refl
known_is (n ∷ ns) = refl

-- a tally's sums are the port's sums
pub sums_are : (ps class : ℕ) (senders : List PortSender) (tally : Tally) → IsTally class senders tally
    → sums_of ps tally ≡ sums_over ps class senders
sums_are ps class senders tally h =
    let least : unwrap_or tally.least 0 ≡ least_where (is_of class) shortest senders =
    ap (λ (o : Option ℕ). unwrap_or o 0) h.least ∙ known_is (map shortest (filter (is_of class) senders)) in
    let sums : PortSums = sums_of ps tally in
    ap (λ (n : ℕ). record sums { higher = ps * n }) h.above
    ∙ ap (λ (n : ℕ). record sums { higher = (sums_over ps class senders).higher; equal = ps * n }) h.equal
    ∙ ap (λ (n : ℕ). record sums {
      higher = (sums_over ps class senders).higher;
      equal = (sums_over ps class senders).equal;
      bursts = n;
    }) h.bursts
    ∙ ap (λ (n : ℕ). record sums {
      higher = (sums_over ps class senders).higher;
      equal = (sums_over ps class senders).equal;
      bursts = (sums_over ps class senders).bursts;
      lower = n;
    }) h.lower
    ∙ ap (λ (n : ℕ). record sums {
      higher = (sums_over ps class senders).higher;
      equal = (sums_over ps class senders).equal;
      bursts = (sums_over ps class senders).bursts;
      lower = (sums_over ps class senders).lower;
      least = n;
    }) least
