use Rattle.std.proofs.Common.{◌≡◌, ℕ, ◌+◌, ◌<◌, ◌≤◌, Bool, true, false, ◌&&◌, ◌||◌, not, List, length, filter}
use Rattle.std.proofs.Common.{All, get_or, Option, Some, None, refl, sym, ap, ◌∙◌, subst, inl, inr, arith}
use Rattle.std.specs.Prelude.{◌==◌, zip, nat_le, Contains}
use Rattle.std.proofs.lemmas.Bool.{ltb-false, le-ltb, leb-true, le-leb, and_parts, and_from, not-false, eqb-true}
use Rattle.std.proofs.lemmas.Bool.{eq-eqb, false≢true, true≢false, cases_Bool}
use Rattle.std.proofs.lemmas.List.Elements.{All-map, All-filter, All-contains, All-nil, filter_passes}
use Rattle.std.proofs.lemmas.Slice.Zip.{length-zip, get_or-zip}
use Rattle.ats_facts.proofs.Lists.{all_unmapped, All-from_filter}
use Rattle.ats_bucket.specs.Conforming.{Frame, Conforms}
use Rattle.ats_streams.specs.Traffic.{is_declared_size}
use Rattle.ats_streams.specs.declared.traffic.Declared.{Declared}
use Rattle.ats_network.specs.Sender.{Sender}
use Rattle.ats_network.specs.Network.{DeclaredNetwork, senders_of}
use Rattle.ats_network.specs.Senders.{no_sender, sender_at}
use Rattle.ats_trace.specs.Eligibility.{declared_by}
use Rattle.ats_trace.specs.Talker.{frames_of, IsDeclaredSize}
use Rattle.ats_trace.specs.declared.journey.Release.{Release}
use Rattle.ats_fit.specs.Measured.{IsMeasured, AreSizesOf, IsBurstOf, octets_of}
use Rattle.ats_fit.specs.Over.{are_sizes_over, is_burst_over, is_over}
use Rattle.ats_fit.specs.declared.measured.Measured.{Measured}
use Rattle.ats_fit.specs.declared.measured.Sizes.{Sizes}
use Rattle.ats_fit_law.specs.Laws.{SenderKeeps, OverIsNotKept, OverCounts}
use Rattle.ats_fit_law.proofs.Places.{places_from, length-places, places_ascend, IsPlace, all_places, contains_place}

-- What is measured of a sender is over what it declares exactly where its releases are not as it declares.

-- frames that conform with a burst conform with a greater one
with_more : (rate burst more : ℕ) (frames : List Frame) → burst ≤ more → Conforms rate burst frames
    → Conforms rate more frames
with_more rate burst more frames le conforms = record {
  in_order = conforms.in_order;
  within = λ i j h below. omega (arith, conforms.within i j h below);
}

-- a stream conforms exactly where its least burst is not over the declared one

bucket_kept : (network : DeclaredNetwork) (releases : List Release) (i : ℕ) (burst : Option ℕ)
    → IsBurstOf network releases i burst → is_burst_over (declared_by network i).burst_bits burst ≡ false
    → i < length network.streams
    → Conforms (declared_by network i).rate (declared_by network i).burst_bits (frames_of i releases)
bucket_kept network releases i None flow within stream = absurd (omega arith)
bucket_kept network releases i (Some burst) is within stream =
    with_more (declared_by network i).rate burst (declared_by network i).burst_bits (frames_of i releases)
    (ltb-false (declared_by network i).burst_bits burst within) is.1.conforms

burst_within : (network : DeclaredNetwork) (releases : List Release) (i : ℕ) (burst : Option ℕ)
    → IsBurstOf network releases i burst
    → (i < length network.streams
    → Conforms (declared_by network i).rate (declared_by network i).burst_bits (frames_of i releases))
    → is_burst_over (declared_by network i).burst_bits burst ≡ false
burst_within network releases i None flow kept = refl
burst_within network releases i (Some burst) is kept =
    le-ltb (declared_by network i).burst_bits burst (is.1.least (declared_by network i).burst_bits (kept is.0))

-- octets are declared sizes exactly where their least and greatest are

between : (d : Declared) (least greatest octets : ℕ) → is_declared_size d least ≡ true
    → is_declared_size d greatest ≡ true → least ≤ octets → octets ≤ greatest → is_declared_size d octets ≡ true
between d least greatest octets low high above below =
    let a = and_parts (nat_le d.min_octets least) (nat_le least d.max_octets) low in
    let b = and_parts (nat_le d.min_octets greatest) (nat_le greatest d.max_octets) high in
    let from = leb-true d.min_octets least a.0 in
    let to = leb-true greatest d.max_octets b.1 in
    and_from (nat_le d.min_octets octets) (nat_le octets d.max_octets)
    (le-leb d.min_octets octets (omega arith)) (le-leb octets d.max_octets (omega arith))

sizes_kept : (d : Declared) (octets : List ℕ) (sizes : Option Sizes) → AreSizesOf octets sizes
    → are_sizes_over d sizes ≡ false → All (λ n. is_declared_size d n ≡ true) octets
sizes_kept d octets None none within =
    subst (All (λ n. is_declared_size d n ≡ true)) (sym none) (All-nil (λ n. is_declared_size d n ≡ true))
sizes_kept d octets (Some sizes) are within = λ k e below. (
    let ends = and_parts (is_declared_size d sizes.least) (is_declared_size d sizes.greatest)
    (not-false (is_declared_size d sizes.least && is_declared_size d sizes.greatest) within) in
    between d sizes.least sizes.greatest (get_or octets k e) ends.0 ends.1 (are.none_less k e below)
    (are.none_greater k e below))

sizes_within : (d : Declared) (octets : List ℕ) (sizes : Option Sizes) → AreSizesOf octets sizes
    → All (λ n. is_declared_size d n ≡ true) octets → are_sizes_over d sizes ≡ false
sizes_within d octets None none declared = refl
sizes_within d octets (Some sizes) are declared =
    ap not (and_from (is_declared_size d sizes.least) (is_declared_size d sizes.greatest)
    (All-contains (λ n. is_declared_size d n ≡ true) octets sizes.least declared are.least)
    (All-contains (λ n. is_declared_size d n ≡ true) octets sizes.greatest declared are.greatest))

-- the octets of a sender's releases are declared sizes exactly where its releases have declared sizes

of_releases : (network : DeclaredNetwork) (i : ℕ) (releases : List Release)
    → All (λ n. is_declared_size (declared_by network i) n ≡ true) (octets_of i releases)
    → All (λ (r : Release). r.sender ≡ i → IsDeclaredSize network r) releases
of_releases network i releases all =
    let mine : Release → Bool = λ r. r.sender == i in
    let Fits : ℕ → Type 0 = λ n. is_declared_size (declared_by network i) n ≡ true in
    let fits : All (λ (r : Release). mine r ≡ true → Fits r.octets) releases =
    All-from_filter mine (λ (r : Release). Fits r.octets) releases
    (all_unmapped Fits (λ (r : Release). r.octets) (filter mine releases) all) in
    λ k d h own. subst (λ (j : ℕ). is_declared_size (declared_by network j) (get_or releases k d).octets ≡ true)
    (sym own) (fits k d h (eq-eqb (get_or releases k d).sender i own))

of_octets : (network : DeclaredNetwork) (i : ℕ) (releases : List Release)
    → All (λ (r : Release). r.sender ≡ i → IsDeclaredSize network r) releases
    → All (λ n. is_declared_size (declared_by network i) n ≡ true) (octets_of i releases)
of_octets network i releases all =
    let mine : Release → Bool = λ r. r.sender == i in
    let kept : List Release = filter mine releases in
    let some = All-filter mine (λ (r : Release). r.sender ≡ i → IsDeclaredSize network r) releases all in
    All-map (λ n. is_declared_size (declared_by network i) n ≡ true) (λ (r : Release). r.octets) kept
    (λ k d h. (
    let own : (get_or kept k d).sender ≡ i =
    eqb-true (get_or kept k d).sender i (filter_passes mine releases k d h) in
    subst (λ (j : ℕ). is_declared_size (declared_by network j) (get_or kept k d).octets ≡ true) own
    (some k d h own)))

neither : (a b : Bool) → (a || b) ≡ false → (a ≡ false) × (b ≡ false)
neither true b e = absurd (true≢false e)
neither false b e = (refl, e)

none_of : (a b : Bool) → a ≡ false → b ≡ false → (a || b) ≡ false
none_of true b a_false b_false = absurd (true≢false a_false)
none_of false b a_false b_false = b_false

kept_where_within : (network : DeclaredNetwork) (releases : List Release) (i : ℕ) (m : Measured)
    → IsMeasured network releases i m → is_over (sender_at network i, m) ≡ false → SenderKeeps network releases i
kept_where_within network releases i m is within =
    let d : Declared = declared_by network i in
    let parts = neither (is_burst_over d.burst_bits m.burst_bits) (are_sizes_over d m.sizes) within in
    record {
      bucket = bucket_kept network releases i m.burst_bits is.burst parts.0;
      sizes = of_releases network i releases (sizes_kept d (octets_of i releases) m.sizes is.sizes parts.1);
    }

within_where_kept : (network : DeclaredNetwork) (releases : List Release) (i : ℕ) (m : Measured)
    → IsMeasured network releases i m → SenderKeeps network releases i → is_over (sender_at network i, m) ≡ false
within_where_kept network releases i m is keeps =
    let d : Declared = declared_by network i in
    none_of (is_burst_over d.burst_bits m.burst_bits) (are_sizes_over d m.sizes)
    (burst_within network releases i m.burst_bits is.burst keeps.bucket)
    (sizes_within d (octets_of i releases) m.sizes is.sizes (of_octets network i releases keeps.sizes))

pub over_is_not_kept : OverIsNotKept
over_is_not_kept network releases measured i d are exists =
    let m : Measured = get_or measured i d in
    let over : Bool = is_over (sender_at network i, m) in
    let is : IsMeasured network releases i m = are.each i d (omega (arith, are.count)) in (
      λ passed keeps. false≢true (sym (within_where_kept network releases i m is keeps) ∙ passed),
      λ broken. elim (cases_Bool over) as (λ _. over ≡ true) [
        | inl passed ↦ passed
        | inr failed ↦ absurd (broken (kept_where_within network releases i m is failed))
      ],
    )

-- a sender and what is measured of it
pair_at : (network : DeclaredNetwork) (measured : List Measured) (i : ℕ) (d : Measured)
    → length measured ≡ length (senders_of network) → i < length measured
    → get_or (zip (senders_of network) measured) i (no_sender, d) ≡ (sender_at network i, get_or measured i d)
pair_at network measured i d count h =
    get_or-zip (senders_of network) measured i (no_sender, d) (omega arith) h

pub over_counts : OverCounts
over_counts network releases measured are =
    let pairs : List (Sender × Measured) = zip (senders_of network) measured in
    let nothing : Measured = record { frames = 0; sizes = None; burst_bits = None } in
    let long = length-zip (senders_of network) measured in
    let numbers : List ℕ = places_from is_over 0 pairs in (
      numbers,
      record {
        in_order = places_ascend is_over 0 pairs;
        each = λ i. (
          λ has. (
              let is : IsPlace is_over 0 pairs i = All-contains (IsPlace is_over 0 pairs) numbers i
              (all_places is_over 0 pairs) has in
              let same : is.offset ≡ i = omega (arith, is.place) in
              let exists : i < length (senders_of network) = omega (arith, is.within, long, are.count, same) in
              let passed : is_over (get_or pairs i (no_sender, nothing)) ≡ true =
              subst (λ (k : ℕ). is_over (get_or pairs k (no_sender, nothing)) ≡ true) same
              (is.passes (no_sender, nothing)) in
              let pair = pair_at network measured i nothing are.count (omega (arith, are.count, exists)) in (
                exists,
                (over_is_not_kept network releases measured i nothing are exists).0
                    (subst (λ (p : Sender × Measured). is_over p ≡ true) pair passed),
              )),
          λ not_kept. (
              let exists : i < length (senders_of network) = not_kept.0 in
              let passed = (over_is_not_kept network releases measured i nothing are exists).1 not_kept.1 in
              let pair = pair_at network measured i nothing are.count (omega (arith, are.count, exists)) in
              let first : 0 + i ≡ i = omega arith in
              subst (Contains numbers) first
              (contains_place is_over 0 pairs i (no_sender, nothing) (omega (arith, long, are.count, exists))
              (subst (λ (p : Sender × Measured). is_over p ≡ true) (sym pair) passed))),
        );
      },
      length-places is_over 0 pairs,
    )
