-- What the shares of the classes at a port add up to, and the tallies that follow.
use Rattle.std.proofs.Common.{◌≡◌, ℕ, zero, suc, ◌+◌, ◌*◌, ◌<◌, ◌≤◌, max, Bool, true, false, cond, eqb, ltb, List, []}
use Rattle.std.proofs.Common.{◌∷◌, ◌++◌, length, map, filter, get_or, take, drop, refl, sym, ap, ◌∙◌, ◌⊎◌}
use Rattle.std.proofs.Common.{inl, inr, arith}
use Rattle.std.proofs.Math.Nat.{mul-le-mul_right}
use Rattle.std.specs.Prelude.{fold, ◌||◌}
use Rattle.std.specs.List.{All, sum_by}
use Rattle.std.proofs.lemmas.Bool.{cases_order, eq-eqb, ne_eqb, lt-ltb, le-ltb}
use Rattle.std.proofs.lemmas.List.{map-append, take_more, get_or-drop, length-drop}
use Rattle.std.proofs.lemmas.List.Elements.{All-head, All-tail}
use Rattle.std.proofs.lemmas.List.Sums.{fold-append, sum_by-cons, sum_by-le}
use Rattle.std.proofs.lemmas.Option.{get_or_from_slice_get}
use Rattle.ats_num.specs.declared.rate.TheConstants.{MAX_BPS, MAX_BURST_BITS}
use Rattle.ats_network.specs.Class.{PortSender}
use Rattle.ats_certificate.specs.PortSums.{is_above, is_of, is_below, longest, sum_where, greatest_where}
use Rattle.ats_tally.specs.Tally.{IsTally}
use Rattle.ats_tally.specs.Shares.{no_share, share_of, AreShares, IsLimited}
use Rattle.ats_tally.specs.declared.share.Share.{Share}

-- the sums of at most eight classes
pub rates_within : (count : ℕ) (shares : List Share) → length shares ≤ 8 → All (IsLimited count) shares
    → sum_by (λ (s : Share). s.rate) shares ≤ 8 * (count * MAX_BPS)
rates_within count shares few limits =
    let sum = sum_by-le (λ (s : Share). s.rate) (count * MAX_BPS) shares (λ k d inside. (limits k d inside).rate) in
    let most = mul-le-mul_right (count * MAX_BPS) few in
    omega (arith, sum, most)

pub bursts_within : (count : ℕ) (shares : List Share) → length shares ≤ 8 → All (IsLimited count) shares
    → sum_by (λ (s : Share). s.bursts) shares ≤ 8 * (count * MAX_BURST_BITS)
bursts_within count shares few limits =
    let sum = sum_by-le (λ (s : Share). s.bursts) (count * MAX_BURST_BITS) shares
    (λ k d inside. (limits k d inside).bursts) in
    let most = mul-le-mul_right (count * MAX_BURST_BITS) few in
    omega (arith, sum, most)

-- a test is one of two others, which are never both
abbrev Parts : Bool → Bool → Bool → Type 0
Parts t u v = ((t ≡ true) × ((u ≡ true) × (v ≡ false)))
    ⊎ (((t ≡ true) × ((u ≡ false) × (v ≡ true))) ⊎ ((t ≡ false) × ((u ≡ false) × (v ≡ false))))

above_parts : (k m : ℕ) → Parts (ltb k m) (eqb m (k + 1)) (ltb (k + 1) m)
above_parts k m = by (cases_order m (k + 1))
  where
    by : (m ≡ k + 1) ⊎ ((m < k + 1) ⊎ (k + 1 < m)) → Parts (ltb k m) (eqb m (k + 1)) (ltb (k + 1) m)
    by (inl e) = inl
        (lt-ltb k m (omega (arith, e)), (eq-eqb m (k + 1) e, le-ltb (k + 1) m (omega (arith, e))))
    by (inr (inl low)) = inr (inr (
      le-ltb k m (omega (arith, low)),
      (ne_eqb m (k + 1) (λ e. omega (arith, e, low)), le-ltb (k + 1) m (omega (arith, low))),
    ))
    by (inr (inr high)) = inr (inl (
      lt-ltb k m (omega (arith, high)),
      (ne_eqb m (k + 1) (λ e. omega (arith, e, high)), lt-ltb (k + 1) m high),
    ))

below_parts : (k m : ℕ) → Parts (ltb m (k + 1)) (ltb m k) (eqb m k)
below_parts k m = by (cases_order m k)
  where
    by : (m ≡ k) ⊎ ((m < k) ⊎ (k < m)) → Parts (ltb m (k + 1)) (ltb m k) (eqb m k)
    by (inl e) = inr (inl
        (lt-ltb m (k + 1) (omega (arith, e)), (le-ltb m k (omega (arith, e)), eq-eqb m k e)))
    by (inr (inl low)) = inl
        (lt-ltb m (k + 1) (omega (arith, low)), (lt-ltb m k low, ne_eqb m k (λ e. omega (arith, e, low))))
    by (inr (inr high)) = inr (inr (
      le-ltb m (k + 1) (omega (arith, high)),
      (le-ltb m k (omega (arith, high)), ne_eqb m k (λ e. omega (arith, e, high))),
    ))

from_parts : (k m : ℕ) → Parts (ltb k m || eqb m k) (ltb k m) (eqb m k)
from_parts k m = by (cases_order m k)
  where
    by : (m ≡ k) ⊎ ((m < k) ⊎ (k < m)) → Parts (ltb k m || eqb m k) (ltb k m) (eqb m k)
    by (inl e) =
        let no : ltb k m ≡ false = le-ltb k m (omega (arith, e)) in
        let of : eqb m k ≡ true = eq-eqb m k e in
        inr (inl (ap (λ (b : Bool). b || eqb m k) no ∙ of, (no, of)))
    by (inr (inl low)) =
        let no : ltb k m ≡ false = le-ltb k m (omega (arith, low)) in
        let other : eqb m k ≡ false = ne_eqb m k (λ e. omega (arith, e, low)) in
        inr (inr (ap (λ (b : Bool). b || eqb m k) no ∙ other, (no, other)))
    by (inr (inr high)) =
        let is : ltb k m ≡ true = lt-ltb k m high in
        inl (ap (λ (b : Bool). b || eqb m k) is, (is, ne_eqb m k (λ e. omega (arith, e, high))))

-- a sum over senders, by the first of them
sum_cons : (test : PortSender → Bool) (amount : PortSender → ℕ) (s : PortSender) (senders : List PortSender) (b : Bool)
    → test s ≡ b → sum_where test amount (s ∷ senders) ≡ cond b (amount s) 0 + sum_where test amount senders
sum_cons test amount s senders b e =
    ap (λ (t : Bool). sum_by amount (cond t (s ∷ filter test senders) (filter test senders))) e ∙ by b
  where
    by : (b : Bool) → sum_by amount (cond b (s ∷ filter test senders) (filter test senders))
        ≡ cond b (amount s) 0 + sum_where test amount senders
    by true = sum_by-cons amount s (filter test senders)
    by false = omega arith

sum_parts : (t u v : PortSender → Bool) (amount : PortSender → ℕ) → ((s : PortSender) → Parts (t s) (u s) (v s))
    → (senders : List PortSender)
    → sum_where t amount senders ≡ sum_where u amount senders + sum_where v amount senders
sum_parts t u v amount parts [] = refl
sum_parts t u v amount parts (s ∷ senders) = by (parts s) (sum_parts t u v amount parts senders)
  where
    by : Parts (t s) (u s) (v s)
        → sum_where t amount senders ≡ sum_where u amount senders + sum_where v amount senders
        → sum_where t amount (s ∷ senders) ≡ sum_where u amount (s ∷ senders) + sum_where v amount (s ∷ senders)
    by (inl p) h = omega (
      arith,
      h,
      sum_cons t amount s senders true p.0,
      sum_cons u amount s senders true p.1.0,
      sum_cons v amount s senders false p.1.1,
    )
    by (inr (inl p)) h = omega (
      arith,
      h,
      sum_cons t amount s senders true p.0,
      sum_cons u amount s senders false p.1.0,
      sum_cons v amount s senders true p.1.1,
    )
    by (inr (inr p)) h = omega (
      arith,
      h,
      sum_cons t amount s senders false p.0,
      sum_cons u amount s senders false p.1.0,
      sum_cons v amount s senders false p.1.1,
    )

-- the same of the greatest
abbrev greatest_from : ℕ → (PortSender → Bool) → (PortSender → ℕ) → List PortSender → ℕ
greatest_from start test amount senders = fold max start (map amount (filter test senders))

greatest_cons : (start : ℕ) (test : PortSender → Bool) (amount : PortSender → ℕ) (s : PortSender)
    (senders : List PortSender) (b : Bool) → test s ≡ b → greatest_from start test amount (s ∷ senders)
    ≡ greatest_from (cond b (max start (amount s)) start) test amount senders
greatest_cons start test amount s senders b e =
    ap (λ (t : Bool). fold max start (map amount (cond t (s ∷ filter test senders) (filter test senders)))) e ∙ by b
  where
    by : (b : Bool) → fold max start (map amount (cond b (s ∷ filter test senders) (filter test senders)))
        ≡ greatest_from (cond b (max start (amount s)) start) test amount senders
    by true = refl
    by false = refl

greatest_parts : (t u v : PortSender → Bool) (amount : PortSender → ℕ) → ((s : PortSender) → Parts (t s) (u s) (v s))
    → (a b : ℕ) (senders : List PortSender) → greatest_from (max a b) t amount senders
    ≡ max (greatest_from a u amount senders) (greatest_from b v amount senders)
greatest_parts t u v amount parts a b [] = refl
greatest_parts t u v amount parts a b (s ∷ senders) =
    by (parts s) (λ a' b'. greatest_parts t u v amount parts a' b' senders)
  where
    x : ℕ
    x = amount s

    by : Parts (t s) (u s) (v s)
        → ((a' b' : ℕ) → greatest_from (max a' b') t amount senders
        ≡ max (greatest_from a' u amount senders) (greatest_from b' v amount senders))
        → greatest_from (max a b) t amount (s ∷ senders)
        ≡ max (greatest_from a u amount (s ∷ senders)) (greatest_from b v amount (s ∷ senders))
    by (inl p) h =
        let same : max (max a b) x ≡ max (max a x) b = omega arith in
        greatest_cons (max a b) t amount s senders true p.0
        ∙ ap (λ (n : ℕ). greatest_from n t amount senders) same
        ∙ h (max a x) b
        ∙ sym (ap (λ (n : ℕ). max n (greatest_from b v amount (s ∷ senders)))
        (greatest_cons a u amount s senders true p.1.0)
        ∙ ap (λ (n : ℕ). max (greatest_from (max a x) u amount senders) n)
        (greatest_cons b v amount s senders false p.1.1))
    by (inr (inl p)) h =
        let same : max (max a b) x ≡ max a (max b x) = omega arith in
        greatest_cons (max a b) t amount s senders true p.0
        ∙ ap (λ (n : ℕ). greatest_from n t amount senders) same
        ∙ h a (max b x)
        ∙ sym (ap (λ (n : ℕ). max n (greatest_from b v amount (s ∷ senders)))
        (greatest_cons a u amount s senders false p.1.0)
        ∙ ap (λ (n : ℕ). max (greatest_from a u amount senders) n)
        (greatest_cons b v amount s senders true p.1.1))
    by (inr (inr p)) h =
        greatest_cons (max a b) t amount s senders false p.0
        ∙ h a b
        ∙ sym (ap (λ (n : ℕ). max n (greatest_from b v amount (s ∷ senders)))
        (greatest_cons a u amount s senders false p.1.0)
        ∙ ap (λ (n : ℕ). max (greatest_from a u amount senders) n)
        (greatest_cons b v amount s senders false p.1.1))

-- where no sender passes, none is kept
pub none_kept : (test : PortSender → Bool) (senders : List PortSender)
    → All (λ (s : PortSender). test s ≡ false) senders → filter test senders ≡ []
none_kept test [] all = refl
none_kept test (s ∷ senders) all =
    ap (λ (b : Bool). cond b (s ∷ filter test senders) (filter test senders))
    (All-head (λ (t : PortSender). test t ≡ false) s senders all)
    ∙ none_kept test senders (All-tail (λ (t : PortSender). test t ≡ false) s senders all)

-- what the shares of the classes above one add up to
sum_above : (amount : PortSender → ℕ) (given : Share → ℕ) (senders : List PortSender) (k : ℕ) (list : List Share)
    → length list + (k + 1) ≡ 8 → All (λ (s : PortSender). s.class ≤ 7) senders
    → ((i : ℕ) → i < length list
    → given (get_or list i no_share) ≡ sum_where (is_of ((k + 1) + i)) amount senders)
    → sum_by given list ≡ sum_where (is_above k) amount senders
sum_above amount given senders k [] long most are =
    sym (ap (sum_by amount) (none_kept (is_above k) senders
    (λ i d inside. le-ltb k (get_or senders i d).class (let le = most i d inside in omega (arith, le, long)))))
sum_above amount given senders k (share ∷ list) long most are =
    let first : given share ≡ sum_where (is_of (k + 1)) amount senders =
    are 0 (omega arith)
    ∙ ap (λ (n : ℕ). sum_where (is_of n) amount senders) (let z : (k + 1) + 0 ≡ k + 1 = omega arith in z) in
    let rest : sum_by given list ≡ sum_where (is_above (k + 1)) amount senders =
    sum_above amount given senders (k + 1) list (omega (arith, long)) most
    (λ i inside. are (suc i) (omega (arith, inside))
    ∙ ap (λ (n : ℕ). sum_where (is_of n) amount senders)
    (let z : (k + 1) + suc i ≡ ((k + 1) + 1) + i = omega arith in z)) in
    let parts = sum_parts (is_above k) (is_of (k + 1)) (is_above (k + 1)) amount (λ s. above_parts k s.class) senders in
    omega (arith, sum_by-cons given share list, first, rest, parts)

-- the longest frame in the shares of the classes below one
longest_below : (senders : List PortSender) (shares : List Share) (k : ℕ) → k ≤ length shares
    → ((i : ℕ) → i < k → (get_or shares i no_share).longest ≡ greatest_where (is_of i) longest senders)
    → fold max 0 (map (λ (s : Share). s.longest) (take k shares)) ≡ greatest_where (is_below k) longest senders
longest_below senders shares zero fits are =
    sym (ap (λ (l : List PortSender). fold max 0 (map longest l)) (none_kept (is_below 0) senders
    (λ i d inside. le-ltb (get_or senders i d).class 0 (omega arith))))
longest_below senders shares (suc k) fits are =
    let of : Share → ℕ = λ s. s.longest in
    let next : suc k ≡ k + 1 = omega arith in
    let list : take (suc k) shares ≡ take k shares ++ get_or shares k no_share ∷ [] =
    ap (λ (n : ℕ). take n shares) next ∙ take_more shares k no_share (omega (arith, fits)) in
    ap (λ (l : List Share). fold max 0 (map of l)) list
    ∙ ap (fold max 0) (map-append of (take k shares) (get_or shares k no_share ∷ []))
    ∙ fold-append max 0 (map of (take k shares)) ((get_or shares k no_share).longest ∷ [])
    ∙ ap (λ (n : ℕ). max n (get_or shares k no_share).longest)
    (longest_below senders shares k (omega (arith, fits)) (λ i below. are i (omega (arith, below))))
    ∙ ap (max (greatest_where (is_below k) longest senders)) (are k (omega arith))
    ∙ sym (greatest_parts (is_below (k + 1)) (is_below k) (is_of k) longest (λ s. below_parts k s.class) 0 0 senders)
    ∙ ap (λ (n : ℕ). greatest_where (is_below n) longest senders) (sym next)

-- the tally of a class, from the shares
pub tally_is : (senders : List PortSender) (shares : List Share) (class : ℕ) → class ≤ 7 → length shares ≡ 8
    → All (λ (s : PortSender). s.class ≤ 7) senders → AreShares senders shares → IsTally class senders (record {
      above = sum_by (λ (s : Share). s.rate) (drop (class + 1) shares);
      equal = (get_or shares class no_share).rate;
      bursts = (get_or shares class no_share).bursts + sum_by (λ (s : Share). s.bursts) (drop (class + 1) shares);
      lower = fold max 0 (map (λ (s : Share). s.longest) (take class shares));
      least = (get_or shares class no_share).shortest;
    })
tally_is senders shares class most long all are =
    let each : (k : ℕ) → k ≤ 7 → get_or shares k no_share ≡ share_of k senders =
    (λ k low. get_or_from_slice_get shares k (share_of k senders) no_share (are k low)) in
    let own : get_or shares class no_share ≡ share_of class senders = each class most in
    let rest : length (drop (class + 1) shares) + (class + 1) ≡ 8 =
    omega (arith, length-drop (class + 1) shares, long, most) in
    let at : (i : ℕ) → i < length (drop (class + 1) shares)
    → get_or (drop (class + 1) shares) i no_share ≡ share_of ((class + 1) + i) senders =
    (λ i inside. get_or-drop (class + 1) shares i no_share
    ∙ each ((class + 1) + i) (omega (arith, rest, inside))) in
    let bursts : sum_by (λ (s : Share). s.bursts) (drop (class + 1) shares)
    ≡ sum_where (is_above class) (λ (s : PortSender). s.burst_bits) senders =
    sum_above (λ (s : PortSender). s.burst_bits) (λ (s : Share). s.bursts) senders class (drop (class + 1) shares) rest
    all (λ i inside. ap (λ (s : Share). s.bursts) (at i inside)) in
    let parts = sum_parts (λ (s : PortSender). is_above class s || is_of class s) (is_above class) (is_of class)
    (λ (s : PortSender). s.burst_bits) (λ s. from_parts class s.class) senders in
    record {
      above = sum_above (λ (s : PortSender). s.rate) (λ (s : Share). s.rate) senders class (drop (class + 1) shares)
          rest all (λ i inside. ap (λ (s : Share). s.rate) (at i inside));
      equal = ap (λ (s : Share). s.rate) own;
      bursts = omega (arith, ap (λ (s : Share). s.bursts) own, bursts, parts);
      lower = longest_below senders shares class (omega (arith, long, most))
          (λ i below. ap (λ (s : Share). s.longest) (each i (omega (arith, below, most))));
      least = ap (λ (s : Share). s.shortest) own;
    }
