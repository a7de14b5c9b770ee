-- The burst, as it is made and put in order.
use Rattle.std.proofs.Common.{◌≡◌, ◌⊎◌, inl, inr, ℕ, zero, suc, ◌+◌, ◌^◌, ◌<◌, ◌≤◌, Bool, cond, List}
use Rattle.std.proofs.Common.{[], ◌∷◌, ◌++◌, get_or, map, filter, length, replicate, refl, sym, ap, subst, ◌∙◌}
use Rattle.std.proofs.Common.{arith, eqb}
use Rattle.std.specs.Prelude.{nat_lt}
use Rattle.std.specs.List.{All, flat_map, range_with_len}
use Rattle.std.specs.List.Sorted.{IsNonDecreasing}
use Rattle.std.proofs.lemmas.Bool.{cases_lt, cases_order, cond-true, cond-false, eq-eqb, lt-ltb, le-ltb, ne_eqb}
use Rattle.std.proofs.lemmas.List.{append-nil, flat_map_more, get_or-map, get_or_past, length-map, map-id}
use Rattle.std.proofs.lemmas.List.Elements.{All-nil, All-replicate, filter-append}
use Rattle.std.proofs.lemmas.List.FromFn.{map-range_with_len_more}
use Rattle.ats_facts.proofs.Lists.{All-from_filter}
use Rattle.ats_network.specs.Sender.{Sender}
use Rattle.ats_network.specs.Network.{DeclaredNetwork, senders_of}
use Rattle.ats_network.specs.Senders.{no_sender, sender_at}
use Rattle.ats_trace.specs.declared.journey.Release.{Release}
use Rattle.ats_witness.specs.Burst.{ComesBefore, IsBurst, burst_of, frames_in_burst, releases_by, time_in_burst}
use Rattle.ats_witness.specs.Made.{AreReordered, by_sender, order_of}
use Rattle.ats_witness.proofs.CopyLemmas.{copies_permuted, filter-copies}

-- the release of a sender in the burst
abbrev pub release_in : DeclaredNetwork → ℕ → ℕ → ℕ → Release
release_in network port class i = record {
  at = record { 0 = time_in_burst network port class (sender_at network i) };
  sender = i;
  octets = (sender_at network i).max_octets;
}

range_more : (n : ℕ) → range_with_len 0 (n + 1) ≡ range_with_len 0 n ++ n ∷ []
range_more n = sym (map-id (range_with_len 0 (n + 1))) ∙ map-range_with_len_more (λ (k : ℕ). k) 0 n n (omega arith)
    ∙ ap (λ (l : List ℕ). l ++ n ∷ []) (map-id (range_with_len 0 n))

-- the frames of one sender more
pub by_sender_more : (network : DeclaredNetwork) (port class n : ℕ)
    → by_sender network port class (n + 1) ≡ by_sender network port class n ++ burst_of network port class n
by_sender_more network port class n =
    ap (flat_map (burst_of network port class)) (range_more n)
    ∙ sym (flat_map_more (burst_of network port class) [] (range_with_len 0 n) n)

pub sender_more : (network : DeclaredNetwork) (port class n : ℕ) (before after : List Release)
    → before ≡ by_sender network port class n → after ≡ before ++ burst_of network port class n
    → after ≡ by_sender network port class (n + 1)
sender_more network port class n before after so_far more =
    more ∙ ap (λ (l : List Release). l ++ burst_of network port class n) so_far
    ∙ sym (by_sender_more network port class n)

-- the frames of a sender among those of the first so many
own_frames : (network : DeclaredNetwork) (port class i n : ℕ) → releases_by i (by_sender network port class n)
    ≡ cond (nat_lt i n) (burst_of network port class i) []
own_frames network port class i zero =
    sym (cond-false (nat_lt i 0) (burst_of network port class i) [] (le-ltb i 0 (omega arith)))
own_frames network port class i (suc n) =
    ap (λ (k : ℕ). releases_by i (by_sender network port class k)) (let e : suc n ≡ n + 1 = omega arith in e)
    ∙ ap (releases_by i) (by_sender_more network port class n)
    ∙ filter-append own (by_sender network port class n) (burst_of network port class n)
    ∙ ap (λ (l : List Release). l ++ releases_by i (burst_of network port class n))
    (own_frames network port class i n)
    ∙ ap (λ (l : List Release). cond (nat_lt i n) (burst_of network port class i) [] ++ l)
    (filter-copies own (frames_in_burst port class (sender_at network n)) (release_in network port class n))
    ∙ by (cases_order i n)
  where
    own : Release → Bool
    own r = eqb r.sender i

    mine : List Release
    mine = burst_of network port class i

    by : (i ≡ n) ⊎ ((i < n) ⊎ (n < i))
        → cond (nat_lt i n) mine [] ++ cond (eqb n i) (burst_of network port class n) []
        ≡ cond (nat_lt i (suc n)) mine []
    by (inl same) =
        ap (λ (b : Bool). cond b mine [] ++ cond (eqb n i) (burst_of network port class n) [])
        (le-ltb i n (omega (arith, same)))
        ∙ ap (λ (b : Bool). cond b (burst_of network port class n) []) (eq-eqb n i (sym same))
        ∙ sym (ap (burst_of network port class) same)
        ∙ sym (ap (λ (b : Bool). cond b mine []) (lt-ltb i (suc n) (omega (arith, same))))
    by (inr (inl less)) =
        ap (λ (b : Bool). cond b mine [] ++ cond (eqb n i) (burst_of network port class n) []) (lt-ltb i n less)
        ∙ ap (λ (b : Bool). mine ++ cond b (burst_of network port class n) [])
        (ne_eqb n i (λ same. (let no : i < i = omega (arith, less, same) in omega (arith, no))))
        ∙ append-nil mine
        ∙ sym (ap (λ (b : Bool). cond b mine []) (lt-ltb i (suc n) (omega (arith, less))))
    by (inr (inr more)) =
        ap (λ (b : Bool). cond b mine [] ++ cond (eqb n i) (burst_of network port class n) [])
        (le-ltb i n (omega (arith, more)))
        ∙ ap (λ (b : Bool). cond b (burst_of network port class n) [])
        (ne_eqb n i (λ same. (let no : i < i = omega (arith, more, same) in omega (arith, no))))
        ∙ sym (ap (λ (b : Bool). cond b mine []) (le-ltb i (suc n) (omega (arith, more))))

-- there is none of a number that no sender has
pub no_frames : (network : DeclaredNetwork) (port class i : ℕ) → length (senders_of network) ≤ i
    → burst_of network port class i ≡ []
no_frames network port class i past =
    ap (λ (s : Sender). replicate (frames_in_burst port class s)
    (record { at = record { 0 = time_in_burst network port class s }; sender = i; octets = s.max_octets }))
    (get_or_past (senders_of network) i no_sender past)

all_frames : (network : DeclaredNetwork) (port class i : ℕ)
    → releases_by i (by_sender network port class (length (senders_of network))) ≡ burst_of network port class i
all_frames network port class i =
    own_frames network port class i (length (senders_of network))
    ∙ by (cases_lt i (length (senders_of network)))
  where
    by : (i < length (senders_of network)) ⊎ (length (senders_of network) ≤ i)
        → cond (nat_lt i (length (senders_of network))) (burst_of network port class i) []
        ≡ burst_of network port class i
    by (inl less) = cond-true (nat_lt i (length (senders_of network))) (burst_of network port class i) []
        (lt-ltb i (length (senders_of network)) less)
    by (inr past) = cond-false (nat_lt i (length (senders_of network))) (burst_of network port class i) []
        (le-ltb i (length (senders_of network)) past) ∙ sym (no_frames network port class i past)

-- in the order of times and senders one comes before the other, or is as early
comes_before : (x y : Release) → x.sender < 2 ^ 32 → y.sender < 2 ^ 32 → order_of x ≤ order_of y → ComesBefore x y
comes_before x y few many le = elim (cases_lt x.at.0 y.at.0) as (λ _. ComesBefore x y) [
  | inl less ↦ inl less
  | inr more ↦ inr (omega (arith, few, many, le, more), omega (arith, few, many, le, more))
]

-- what is known of each frame: it is its sender's in the burst
pub own_release : (network : DeclaredNetwork) (port class : ℕ) (releases : List Release)
    → ((i : ℕ) → releases_by i releases ≡ burst_of network port class i)
    → All (λ (r : Release). r ≡ release_in network port class r.sender) releases
own_release network port class releases of_each k d h =
    let r : Release = get_or releases k d in
    let own = λ (x : Release). eqb x.sender r.sender in
    let Same : Release → Type 0 = λ (x : Release). x ≡ release_in network port class r.sender in
    let all : All Same (filter own releases) = subst (All Same) (sym (of_each r.sender))
    (All-replicate Same (frames_in_burst port class (sender_at network r.sender))
    (release_in network port class r.sender) refl) in
    All-from_filter own Same releases all k d h (eq-eqb r.sender r.sender refl)

-- and its sender is one of the network
pub own_sender : (network : DeclaredNetwork) (port class : ℕ) (releases : List Release)
    → ((i : ℕ) → releases_by i releases ≡ burst_of network port class i)
    → All (λ (r : Release). r.sender < length (senders_of network)) releases
own_sender network port class releases of_each k d h =
    let r : Release = get_or releases k d in
    let own = λ (x : Release). eqb x.sender r.sender in
    elim (cases_lt r.sender (length (senders_of network))) as (λ _. r.sender < length (senders_of network)) [
      | inl less ↦ less
      | inr past ↦
          (let none : filter own releases ≡ [] =
          of_each r.sender ∙ no_frames network port class r.sender past in
          let all : All (λ (x : Release). ⊥) (filter own releases) =
          subst (All (λ (x : Release). ⊥)) (sym none) (All-nil (λ (x : Release). ⊥)) in
          absurd (All-from_filter own (λ (x : Release). ⊥) releases all k d h (eq-eqb r.sender r.sender refl)))
    ]

-- the frames of all senders in order are the burst
pub made_is_burst : (network : DeclaredNetwork) (port class : ℕ) (made releases : List Release)
    → length (senders_of network) ≤ 2 ^ 32 → made ≡ by_sender network port class (length (senders_of network))
    → AreReordered made releases → IsBurst network port class releases
made_is_burst network port class made releases few is order = record {
  of_each = of_each;
  in_order = λ i j d less within.
      comes_before (get_or releases i d) (get_or releases j d)
      (small i d (omega (arith, less, within))) (small j d within)
      (order.in_order i j d (omega (arith, less)) within);
}
  where
    of_each : (i : ℕ) → releases_by i releases ≡ burst_of network port class i
    of_each i =
        copies_permuted (λ (r : Release). eqb r.sender i) (frames_in_burst port class (sender_at network i))
        (release_in network port class i) made releases order.same
        (ap (releases_by i) is ∙ all_frames network port class i)

    small : (k : ℕ) (d : Release) → k < length releases → (get_or releases k d).sender < 2 ^ 32
    small k d h =
        let own : (get_or releases k d).sender < length (senders_of network) =
        own_sender network port class releases of_each k d h in
        omega (arith, own, few)

-- the times of a burst do not fall
pub burst_times : (network : DeclaredNetwork) (port class : ℕ) (releases : List Release)
    → IsBurst network port class releases → IsNonDecreasing (map (λ (r : Release). r.at.0) releases)
burst_times network port class releases burst i j d le within =
    let time : Release → ℕ = λ (r : Release). r.at.0 in
    let none : Release = record { at = record { 0 = 0 }; sender = 0; octets = 0 } in
    let inside : j < length releases = omega (arith, within, length-map releases time) in
    let at_i = get_or-map time releases i none d (omega (arith, le, inside)) in
    let at_j = get_or-map time releases j none d inside in
    elim (cases_lt i j)
    as (λ _. get_or (map (λ (r : Release). r.at.0) releases) i d
    ≤ get_or (map (λ (r : Release). r.at.0) releases) j d) [
      | inl less ↦ (let one = earlier (get_or releases i none) (get_or releases j none)
          (burst.in_order i j none less inside) in omega (arith, one, at_i, at_j))
      | inr same ↦ (let e : i ≡ j = omega (arith, le, same) in
          let level = ap (λ (k : ℕ). get_or (map (λ (r : Release). r.at.0) releases) k d) e in omega (arith, level))
    ]
  where
    earlier : (x y : Release) → ComesBefore x y → x.at.0 ≤ y.at.0
    earlier x y (inl less) = omega (arith, less)
    earlier x y (inr same) = omega (arith, same.0)
