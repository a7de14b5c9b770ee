use Rattle.std.proofs.Common.{◌≡◌, ℕ, ◌+◌, ◌<◌, ◌≤◌, ◌==◌, Bool, true, false, ◌||◌, ◌&&◌, not, cond, List, length}
use Rattle.std.proofs.Common.{map, filter, take, All, get_or, sum_by, Option, Some, None, refl, sym, ap, ◌∙◌, subst}
use Rattle.std.proofs.Common.{arith}
use Rattle.std.specs.Prelude.{count_by, zip, nat_le}
use Rattle.std.proofs.lemmas.Bool.{ltb-false, le-ltb, leb-true, le-leb, and_parts, and_from, not-false, eqb-true}
use Rattle.std.proofs.lemmas.Bool.{eq-eqb, true≢false}
use Rattle.std.proofs.lemmas.List.{length-append, length-map, same_lists, get_or_default, take_all}
use Rattle.std.proofs.lemmas.List.Elements.{All-map, All-filter, All-contains, All-nil, filter_passes}
use Rattle.std.proofs.lemmas.List.Sums.{get_or-le-sum_by, sum_by-le, sum_by_more}
use Rattle.std.proofs.lemmas.Slice.Zip.{length-zip, get_or-zip}
use Rattle.ats_facts.proofs.Lists.{all_unmapped, All-from_filter}
use Rattle.ats_bucket.specs.Conforming.{Frame, Conforms}
use Rattle.ats_streams.specs.Traffic.{is_declared_size}
use Rattle.ats_streams.specs.declared.traffic.Declared.{Declared}
use Rattle.ats_network.specs.Sender.{Sender, stream_sender, flow_sender}
use Rattle.ats_network.specs.Network.{DeclaredNetwork, senders_of}
use Rattle.ats_network.specs.Senders.{no_sender, sender_at}
use Rattle.ats_trace.specs.Eligibility.{declared_by}
use Rattle.ats_trace.specs.Talker.{frames_of, talker_of}
use Rattle.ats_trace.specs.declared.journey.Release.{Release}
use Rattle.ats_conform.specs.Releases.{AllKeepBuckets}
use Rattle.ats_fit.proofs.Least.{least_is_one}
use Rattle.ats_fit.specs.Laws.{MeasuredIsOne, NoneOverIsKept}
use Rattle.ats_fit.specs.Measured.{AreMeasured, AreSizesOf, IsBurstOf, octets_of}
use Rattle.ats_fit.specs.Over.{are_sizes_over, is_burst_over, is_over, senders_over}
use Rattle.ats_fit.specs.declared.measured.Measured.{Measured}
use Rattle.ats_fit.specs.declared.measured.Sizes.{Sizes}

-- frames that conform with a burst conform with a greater one
more-burst : (rate burst more : ℕ) (frames : List Frame) → burst ≤ more → Conforms rate burst frames
    → Conforms rate more frames
more-burst rate burst more frames le conforms = record {
  in_order = conforms.in_order;
  within = λ i j h below. omega (arith, conforms.within i j h below);
}

one-or-none : (b : Bool) → cond b 1 0 ≤ 0 → b ≡ false
one-or-none true h = absurd (omega arith)
one-or-none false h = refl

none-more : (b : Bool) → b ≡ false → cond b 1 0 ≤ 0
none-more true h = absurd (true≢false h)
none-more false h = omega arith

-- where none of some is counted, each fails the test
none-counted : (test : Sender × Measured → Bool) (pairs : List (Sender × Measured)) (i : ℕ) (d : Sender × Measured)
    → count_by test pairs ≡ 0 → i < length pairs → test (get_or pairs i d) ≡ false
none-counted test pairs i d none h =
    let one : Sender × Measured → ℕ = λ p. cond (test p) 1 0 in
    let le : one (get_or pairs i d) ≤ sum_by one pairs = get_or-le-sum_by one pairs i d h in
    one-or-none (test (get_or pairs i d)) (omega (arith, le, none))

-- and the other way round
count-none : (test : Sender × Measured → Bool) (pairs : List (Sender × Measured))
    → All (λ p. test p ≡ false) pairs → count_by test pairs ≡ 0
count-none test pairs fails =
    let one : Sender × Measured → ℕ = λ p. cond (test p) 1 0 in
    omega (arith, sum_by-le one 0 pairs (λ k d h. none-more (test (get_or pairs k d)) (fails k d h)))

neither : (a b : Bool) → (a || b) ≡ false → (a ≡ false) × (b ≡ false)
neither true b e = absurd (true≢false e)
neither false b e = (refl, e)

none-of : (a b : Bool) → a ≡ false → b ≡ false → (a || b) ≡ false
none-of true b a_false b_false = absurd (true≢false a_false)
none-of false b a_false b_false = b_false

-- a number between two declared sizes is one
between : (d : Declared) (least greatest octets : ℕ) → is_declared_size d least ≡ true
    → is_declared_size d greatest ≡ true → least ≤ octets → octets ≤ greatest → is_declared_size d octets ≡ true
between d least greatest octets low high above below =
    let a = and_parts (nat_le d.min_octets least) (nat_le least d.max_octets) low in
    let b = and_parts (nat_le d.min_octets greatest) (nat_le greatest d.max_octets) high in
    let from = leb-true d.min_octets least a.0 in
    let to = leb-true greatest d.max_octets b.1 in
    and_from (nat_le d.min_octets octets) (nat_le octets d.max_octets)
    (le-leb d.min_octets octets (omega arith)) (le-leb octets d.max_octets (omega arith))

-- the number of senders
senders-count : (network : DeclaredNetwork)
    → length (senders_of network) ≡ length network.streams + length network.flows
senders-count network = omega (
  arith,
  length-append (map stream_sender network.streams) (map flow_sender network.flows),
  length-map network.streams stream_sender,
  length-map network.flows flow_sender,
)

-- a sender and what is measured of it
pair-at : (network : DeclaredNetwork) (measured : List Measured) (i : ℕ) (d : Measured)
    → length measured ≡ length (senders_of network) → i < length measured
    → get_or (zip (senders_of network) measured) i (no_sender, d) ≡ (sender_at network i, get_or measured i d)
pair-at network measured i d count h =
    get_or-zip (senders_of network) measured i (no_sender, d) (omega arith) h

-- a least burst that is not over the declared one: the frames conform to what is declared
kept-bucket : (network : DeclaredNetwork) (releases : List Release) (i : ℕ) (burst : Option ℕ)
    → i < length network.streams → IsBurstOf network releases i burst
    → is_burst_over (declared_by network i).burst_bits burst ≡ false
    → Conforms (declared_by network i).rate (declared_by network i).burst_bits (frames_of i releases)
kept-bucket network releases i None stream flow within = absurd (omega arith)
kept-bucket network releases i (Some burst) stream is within =
    more-burst (declared_by network i).rate burst (declared_by network i).burst_bits (frames_of i releases)
    (ltb-false (declared_by network i).burst_bits burst within) is.1.conforms

-- and the other way round
bucket-kept : (network : DeclaredNetwork) (releases : List Release) (i : ℕ) (burst : Option ℕ)
    → IsBurstOf network releases i burst
    → (i < length network.streams
    → Conforms (declared_by network i).rate (declared_by network i).burst_bits (frames_of i releases))
    → is_burst_over (declared_by network i).burst_bits burst ≡ false
bucket-kept network releases i None flow kept = refl
bucket-kept network releases i (Some burst) is kept =
    le-ltb (declared_by network i).burst_bits burst
    (is.1.least (declared_by network i).burst_bits (kept is.0))

-- octets are declared sizes
abbrev AreDeclared : Declared → List ℕ → Type 0
AreDeclared d octets = All (λ n. is_declared_size d n ≡ true) octets

-- they are where their least and greatest are
kept-sizes : (d : Declared) (octets : List ℕ) (sizes : Option Sizes) → AreSizesOf octets sizes
    → are_sizes_over d sizes ≡ false → AreDeclared d octets
kept-sizes d octets None none within = subst (AreDeclared d) (sym none) (All-nil (λ n. is_declared_size d n ≡ true))
kept-sizes d octets (Some sizes) are within = λ k e below. (
    let ends = and_parts (is_declared_size d sizes.least) (is_declared_size d sizes.greatest)
    (not-false (is_declared_size d sizes.least && is_declared_size d sizes.greatest) within) in
    between d sizes.least sizes.greatest (get_or octets k e) ends.0 ends.1 (are.none_less k e below)
    (are.none_greater k e below))

sizes-kept : (d : Declared) (octets : List ℕ) (sizes : Option Sizes) → AreSizesOf octets sizes
    → AreDeclared d octets → are_sizes_over d sizes ≡ false
sizes-kept d octets None none declared = refl
sizes-kept d octets (Some sizes) are declared =
    ap not (and_from (is_declared_size d sizes.least) (is_declared_size d sizes.greatest)
    (All-contains (λ n. is_declared_size d n ≡ true) octets sizes.least declared are.least)
    (All-contains (λ n. is_declared_size d n ≡ true) octets sizes.greatest declared are.greatest))

-- what holds of the octets of a sender holds of its releases
of-releases : (P : ℕ → Type 0) (i : ℕ) (releases : List Release) → All P (octets_of i releases)
    → All (λ (r : Release). (r.sender == i) ≡ true → P r.octets) releases
of-releases P i releases all =
    let mine : Release → Bool = λ r. r.sender == i in
    All-from_filter mine (λ (r : Release). P r.octets) releases
    (all_unmapped P (λ (r : Release). r.octets) (filter mine releases) all)

-- and the other way round
of-octets : (P : ℕ → Type 0) (i : ℕ) (releases : List Release)
    → All (λ (r : Release). r.sender ≡ i → P r.octets) releases → All P (octets_of i releases)
of-octets P i releases all =
    let mine : Release → Bool = λ r. r.sender == i in
    let passes : All (λ (r : Release). mine r ≡ true) (filter mine releases) = filter_passes mine releases in
    let some : All (λ (r : Release). r.sender ≡ i → P r.octets) (filter mine releases) =
    All-filter mine (λ (r : Release). r.sender ≡ i → P r.octets) releases all in
    All-map P (λ (r : Release). r.octets) (filter mine releases)
    (λ k d h. some k d h (eqb-true (get_or (filter mine releases) k d).sender i (passes k d h)))

-- what is measured of a sender is within what it declares
record IsWithin (network : DeclaredNetwork) (i : ℕ) (m : Measured) : Type 0 where
  burst : is_burst_over (declared_by network i).burst_bits m.burst_bits ≡ false
  sizes : are_sizes_over (declared_by network i) m.sizes ≡ false

-- so it is of each where no sender is over what it declares
each-within : (network : DeclaredNetwork) (measured : List Measured) (i : ℕ) (d : Measured)
    → length measured ≡ length (senders_of network) → senders_over network measured ≡ 0
    → i < length (senders_of network) → IsWithin network i (get_or measured i d)
each-within network measured i d count none h =
    let pairs : List (Sender × Measured) = zip (senders_of network) measured in
    let inside : i < length pairs = omega (arith, length-zip (senders_of network) measured) in
    let fails : is_over (get_or pairs i (no_sender, d)) ≡ false =
    none-counted is_over pairs i (no_sender, d) none inside in
    let here : is_over (sender_at network i, get_or measured i d) ≡ false =
    subst (λ (p : Sender × Measured). is_over p ≡ false) (pair-at network measured i d count (omega arith)) fails in
    let parts = neither (is_burst_over (declared_by network i).burst_bits (get_or measured i d).burst_bits)
    (are_sizes_over (declared_by network i) (get_or measured i d).sizes) here in
    record { burst = parts.0; sizes = parts.1 }

-- and the other way round
none-over : (network : DeclaredNetwork) (measured : List Measured) → length measured ≡ length (senders_of network)
    → ((i : ℕ) (d : Measured) → i < length measured → IsWithin network i (get_or measured i d))
    → senders_over network measured ≡ 0
none-over network measured count within =
    count-none is_over (zip (senders_of network) measured) (λ k d h. (
    let below : k < length measured = omega (arith, h, length-zip (senders_of network) measured) in
    let pair = pair-at network measured k d.1 count below in
    let is = within k d.1 below in
    let same : get_or (zip (senders_of network) measured) k d
    ≡ get_or (zip (senders_of network) measured) k (no_sender, d.1) =
    get_or_default (zip (senders_of network) measured) k d (no_sender, d.1) h in
    subst (λ (p : Sender × Measured). is_over p ≡ false) (sym (same ∙ pair))
    (none-of _ _ is.burst is.sizes)))

-- where no sender is over what it declares, every node keeps its buckets
kept : (network : DeclaredNetwork) (releases : List Release) (measured : List Measured)
    → AreMeasured network releases measured → senders_over network measured ≡ 0 → AllKeepBuckets network releases
kept network releases measured are none station =
    let nothing : Measured = record { frames = 0; sizes = None; burst_bits = None } in
    record {
      streams = λ i h talks. (
          let inside : i < length (senders_of network) = omega (arith, senders-count network) in
          kept-bucket network releases i (get_or measured i nothing).burst_bits h
          (are.each i nothing (omega (arith, are.count))).burst
          (each-within network measured i nothing are.count none inside).burst);
      sizes = λ k d below exists talks. (
          let r : Release = get_or releases k d in
          let i : ℕ = r.sender in
          let sizes = kept-sizes (declared_by network i) (octets_of i releases) (get_or measured i nothing).sizes
          (are.each i nothing (omega (arith, are.count))).sizes
          (each-within network measured i nothing are.count none exists).sizes in
          of-releases (λ n. is_declared_size (declared_by network i) n ≡ true) i releases sizes k d below
          (eq-eqb i i refl));
    }

-- and the other way round
none-where-kept : (network : DeclaredNetwork) (releases : List Release) (measured : List Measured)
    → AreMeasured network releases measured → AllKeepBuckets network releases → senders_over network measured ≡ 0
none-where-kept network releases measured are keep =
    none-over network measured are.count (λ i d below. (
    let is = are.each i d below in
    let station : ℕ = talker_of network i in
    let sized : All (λ (r : Release). r.sender ≡ i → is_declared_size (declared_by network i) r.octets ≡ true)
    releases =
    λ k e h mine. (
    let r : Release = get_or releases k e in
    subst (λ (j : ℕ). is_declared_size (declared_by network j) r.octets ≡ true) mine
    ((keep station).sizes k e h (omega (arith, are.count)) (ap (talker_of network) mine))) in
    record {
      burst = bucket-kept network releases i (get_or measured i d).burst_bits is.burst
          (λ stream. (keep station).streams i stream refl);
      sizes = sizes-kept (declared_by network i) (octets_of i releases) (get_or measured i d).sizes is.sizes
          (of-octets (λ n. is_declared_size (declared_by network i) n ≡ true) i releases sized);
    }))

pub none_over : NoneOverIsKept
none_over network releases measured are =
    (kept network releases measured are, none-where-kept network releases measured are)

-- two that are the least bursts of one sender are the same
one-burst : (network : DeclaredNetwork) (releases : List Release) (i : ℕ) (a b : Option ℕ)
    → IsBurstOf network releases i a → IsBurstOf network releases i b → a ≡ b
one-burst network releases i None None is_a is_b = refl
one-burst network releases i None (Some b) is_a is_b = absurd (omega (arith, is_b.0))
one-burst network releases i (Some a) None is_a is_b = absurd (omega (arith, is_a.0))
one-burst network releases i (Some a) (Some b) is_a is_b =
    ap (λ (n : ℕ). Some n) (least_is_one (declared_by network i).rate (frames_of i releases) a b is_a.1 is_b.1)

-- records with the same fields are the same
abbrev sizes-of : ℕ → ℕ → Sizes
sizes-of least greatest = record { least = least; greatest = greatest }

same-sizes : (a b : Sizes) → a.least ≡ b.least → a.greatest ≡ b.greatest → a ≡ b
same-sizes a b least greatest =
    ap (λ (n : ℕ). sizes-of n a.greatest) least ∙ ap (λ (n : ℕ). sizes-of b.least n) greatest

abbrev measured-of : ℕ → Option Sizes → Option ℕ → Measured
measured-of frames sizes burst = record { frames = frames; sizes = sizes; burst_bits = burst }

same-measured : (a b : Measured) → a.frames ≡ b.frames → a.sizes ≡ b.sizes → a.burst_bits ≡ b.burst_bits → a ≡ b
same-measured a b frames sizes bursts =
    ap (λ (n : ℕ). measured-of n a.sizes a.burst_bits) frames
    ∙ ap (λ (s : Option Sizes). measured-of b.frames s a.burst_bits) sizes
    ∙ ap (λ (n : Option ℕ). measured-of b.frames b.sizes n) bursts

-- two that are the sizes of the same frames are the same
one-size : (octets : List ℕ) (a b : Option Sizes) → AreSizesOf octets a → AreSizesOf octets b → a ≡ b
one-size octets None None is_a is_b = refl
one-size octets None (Some b) is_a is_b =
    absurd (omega (arith, is_b.least.1, ap (λ (l : List ℕ). length l) is_a))
one-size octets (Some a) None is_a is_b =
    absurd (omega (arith, is_a.least.1, ap (λ (l : List ℕ). length l) is_b))
one-size octets (Some a) (Some b) is_a is_b =
    ap (λ (s : Sizes). Some s)
    (same-sizes a b
    (omega (
      arith,
      All-contains (λ n. a.least ≤ n) octets b.least is_a.none_less is_b.least,
      All-contains (λ n. b.least ≤ n) octets a.least is_b.none_less is_a.least,
    ))
    (omega (
      arith,
      All-contains (λ n. n ≤ a.greatest) octets b.greatest is_a.none_greater is_b.greatest,
      All-contains (λ n. n ≤ b.greatest) octets a.greatest is_b.none_greater is_a.greatest,
    )))

pub measured_is_one : MeasuredIsOne
measured_is_one network releases a b are_a are_b =
    same_lists a b (are_a.count ∙ sym are_b.count) (λ k d h. (
    let one = are_a.each k d h in
    let two = are_b.each k d (omega (arith, are_a.count, are_b.count)) in
    same-measured (get_or a k d) (get_or b k d) (one.frames ∙ sym two.frames)
    (one-size (octets_of k releases) (get_or a k d).sizes (get_or b k d).sizes one.sizes two.sizes)
    (one-burst network releases k (get_or a k d).burst_bits (get_or b k d).burst_bits one.burst two.burst)))

-- one pair more, which is over or not
pub over-more : (network : DeclaredNetwork) (measured : List Measured) (i : ℕ) (s : Sender) (d : Measured) (b : Bool)
    → length measured ≡ length (senders_of network) → i < length measured → s ≡ sender_at network i
    → is_over (s, get_or measured i d) ≡ b
    → count_by is_over (take (i + 1) (zip (senders_of network) measured))
    ≡ count_by is_over (take i (zip (senders_of network) measured)) + cond b 1 0
over-more network measured i s d b count h is_s is =
    let pairs : List (Sender × Measured) = zip (senders_of network) measured in
    let inside : i < length pairs = omega (arith, length-zip (senders_of network) measured) in
    let pair = pair-at network measured i d count h in
    let here : is_over (get_or pairs i (no_sender, d)) ≡ b =
    ap is_over (pair ∙ ap (λ (t : Sender). (t, get_or measured i d)) (sym is_s)) ∙ is in
    sum_by_more (λ (p : Sender × Measured). cond (is_over p) 1 0) pairs i (no_sender, d) inside
    ∙ ap (λ (t : Bool). count_by is_over (take i pairs) + cond t 1 0) here

-- all pairs are the first so many
pub over-all : (network : DeclaredNetwork) (measured : List Measured) (n over : ℕ) → length (senders_of network) ≤ n
    → over ≡ count_by is_over (take n (zip (senders_of network) measured)) → over ≡ senders_over network measured
over-all network measured n over end is =
    is ∙ ap (count_by is_over) (take_all n (zip (senders_of network) measured)
    (omega (arith, length-zip (senders_of network) measured)))
