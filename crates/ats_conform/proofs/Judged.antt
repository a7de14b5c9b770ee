use Rattle.std.proofs.Common.{◌≡◌, ℕ, ◌+◌, ◌<◌, ◌≤◌, List, [], ◌∷◌, ◌++◌, length, take, set, get_or, All, refl, sym, ap}
use Rattle.std.proofs.Common.{◌∙◌, subst, inl, inr, arith}
use Rattle.std.proofs.lemmas.Bool.{cases_eq}
use Rattle.std.proofs.lemmas.List.{take_more, take_all, length-take-le, get_or-take}
use Rattle.std.proofs.lemmas.List.{length-set, get_or-set_same, get_or-set_other}
use Rattle.std.proofs.lemmas.List.Elements.{All-push}
use Rattle.ats_network.specs.Network.{DeclaredNetwork, senders_of}
use Rattle.ats_bucket.specs.Conforming.{Frame, Conforms}
use Rattle.ats_trace.specs.Eligibility.{declared_by}
use Rattle.ats_trace.specs.Talker.{IsDeclaredSize, KeepsBuckets, talker_of}
use Rattle.ats_trace.specs.declared.journey.Release.{Release}
use Rattle.ats_conform.specs.declared.meter.Metered.{Metered}
use Rattle.ats_conform.specs.Metering.{Metering, Names, counted}
use Rattle.ats_conform.specs.Releases.{AllKeepBuckets, no_release, release_at, metered_at, metered_from}
use Rattle.ats_conform.specs.Broken.{BreaksSize, BreaksBucket}
use Rattle.ats_conform.specs.Steps.{AreMeters, KeepSoFar, meter_after}
use Rattle.ats_conform.proofs.Lists.{counted-frames, metered-mine, metered-other}
use Rattle.ats_conform.proofs.Found.{named-breaks}

-- each node keeps its buckets by the releases so far
pub all_keep : (network : DeclaredNetwork) (releases : List Release) (n : ℕ) → KeepSoFar network releases n
    → AllKeepBuckets network (take n releases)
all_keep network releases n keep station = record {
  streams = λ i h talks. subst
      (Conforms (declared_by network i).rate (declared_by network i).burst_bits)
      (counted-frames i 0 (take n releases)) (keep.streams i h);
  sizes = λ k d below exists talks. keep.sizes k d below;
}

-- and by all of them at the end
pub all_kept : (network : DeclaredNetwork) (releases : List Release) (n : ℕ) → length releases ≤ n
    → KeepSoFar network releases n → AllKeepBuckets network releases
all_kept network releases n end keep station =
    subst (λ (rs : List Release). KeepsBuckets network rs station) (take_all n releases end)
    (all_keep network releases n keep station)

-- at first there are no releases
pub none_so_far : (network : DeclaredNetwork) (releases : List Release) → KeepSoFar network releases 0
none_so_far network releases = record {
  sizes = λ k d below. absurd (omega arith);
  streams = λ i h. record {
    in_order = λ a b d le below. absurd (omega arith);
    within = λ a b le below. absurd (omega arith);
  };
}

-- a release of no declared size is the first that breaks its sender's declaration
pub size-broken : (network : DeclaredNetwork) (releases : List Release) (n : ℕ) → n < length releases
    → KeepSoFar network releases n → (release_at releases n).sender < length (senders_of network)
    → ¬ IsDeclaredSize network (release_at releases n) → BreaksSize network releases n
size-broken network releases n h keep exists size = record {
  first = record {
    within = h;
    before = all_keep network releases n keep;
    broken = λ all. (
        let r : Release = release_at releases n in
        let here : get_or (take (n + 1) releases) n no_release ≡ r =
        get_or-take (n + 1) releases n no_release (omega arith) in
        let Sized : Release → Type 0 = λ s. s.sender < length (senders_of network)
        → talker_of network s.sender ≡ talker_of network r.sender → IsDeclaredSize network s in
        let sized : Sized (get_or (take (n + 1) releases) n no_release) =
        (all (talker_of network r.sender)).sizes n no_release
        (omega (arith, length-take-le (n + 1) releases (omega arith))) in
        absurd (size (subst Sized here sized exists refl)));
  };
  size = size;
}

-- a release of a declared size for which its stream's meter names a frame
pub bucket-broken : (network : DeclaredNetwork) (releases : List Release) (n i since : ℕ) → n < length releases
    → KeepSoFar network releases n → (release_at releases n).sender ≡ i → i < length network.streams
    → IsDeclaredSize network (release_at releases n)
    → Names (declared_by network i).rate (declared_by network i).burst_bits (metered_from i 0 (take n releases))
    (metered_at n (release_at releases n)) since
    → BreaksBucket network releases since n
bucket-broken network releases n i since h keep mine stream size names = record {
  first = record {
    within = h;
    before = all_keep network releases n keep;
    broken = λ all. (
        let Good : List Frame → Type 0 = Conforms (declared_by network i).rate (declared_by network i).burst_bits in
        let conforms : Good (counted (metered_from i 0 (take (n + 1) releases))) =
        subst Good (sym (counted-frames i 0 (take (n + 1) releases)))
        ((all (talker_of network i)).streams i stream refl) in
        absurd (named-breaks (declared_by network i).rate (declared_by network i).burst_bits
        (metered_from i 0 (take n releases)) (metered_at n (release_at releases n)) since names
        (subst (λ (l : List Metered). Good (counted l)) (metered-mine i n releases h mine) conforms)));
  };
  size = size;
  bucket = subst
      (λ (j : ℕ). Names (declared_by network j).rate (declared_by network j).burst_bits
      (metered_from j 0 (take n releases)) (metered_at n (release_at releases n)) since) (sym mine) names;
}

-- one release more keeps what is declared: it has a declared size, and conforms where it is a stream's
pub keep-more : (network : DeclaredNetwork) (releases : List Release) (n : ℕ) → n < length releases
    → KeepSoFar network releases n → IsDeclaredSize network (release_at releases n)
    → ((release_at releases n).sender < length network.streams
    → Conforms (declared_by network (release_at releases n).sender).rate
    (declared_by network (release_at releases n).sender).burst_bits
    (counted (metered_from (release_at releases n).sender 0 (take n releases)
    ++ metered_at n (release_at releases n) ∷ [])))
    → KeepSoFar network releases (n + 1)
keep-more network releases n h keep size conforms =
    let s : ℕ = (release_at releases n).sender in
    record {
      sizes = subst (All (IsDeclaredSize network)) (sym (take_more releases n no_release h))
          (All-push (IsDeclaredSize network) (take n releases) (release_at releases n) keep.sizes size);
      streams = λ i stream. (
          let Good : List Metered → Type 0 =
          λ l. Conforms (declared_by network i).rate (declared_by network i).burst_bits (counted l) in
          elim (cases_eq s i) as (λ _. Good (metered_from i 0 (take (n + 1) releases))) [
            | inl mine ↦ subst Good (sym (metered-mine i n releases h mine))
                (subst (λ (j : ℕ). j < length network.streams → Conforms (declared_by network j).rate
                (declared_by network j).burst_bits (counted (metered_from j 0 (take n releases)
                ++ metered_at n (release_at releases n) ∷ []))) mine conforms stream)
            | inr other ↦ subst Good (sym (metered-other i n releases h other)) (keep.streams i stream)
          ]);
    }

-- the meters after a release of no stream
pub meters-other : (network : DeclaredNetwork) (releases : List Release) (n : ℕ) (meters : List Metering)
    → n < length releases → AreMeters network releases n meters
    → length meters ≤ (release_at releases n).sender → AreMeters network releases (n + 1) meters
meters-other network releases n meters h are flow = record {
  count = are.count;
  each = λ i d below. are.each i d below ∙ ap
      (λ (l : List Metered). let m : Metering = record (meter_after network releases n i) { taken = l } in m)
      (sym (metered-other i n releases h (λ e. absurd (omega arith))));
}

-- and after one of a stream, which its meter took
pub meters-mine : (network : DeclaredNetwork) (releases : List Release) (n i : ℕ) (meters : List Metering)
    (new : Metering) → n < length releases → AreMeters network releases n meters
    → (release_at releases n).sender ≡ i → i < length meters
    → new ≡ record (meter_after network releases n i)
    { taken = metered_from i 0 (take n releases) ++ metered_at n (release_at releases n) ∷ [] }
    → AreMeters network releases (n + 1) (set meters i new)
meters-mine network releases n i meters new h are mine stream is = record {
  count = length-set meters i new ∙ are.count;
  each = λ j d below. (
      let with : List Metered → ℕ → Metering = λ l k. record (meter_after network releases n k) { taken = l } in
      elim (cases_eq j i) as (λ _. get_or (set meters i new) j d ≡ meter_after network releases (n + 1) j) [
        | inl same ↦ (
            subst (λ (k : ℕ). get_or (set meters i new) k d ≡ meter_after network releases (n + 1) k) (sym same)
            (get_or-set_same meters i new d stream ∙ is
            ∙ ap (λ (l : List Metered). with l i) (sym (metered-mine i n releases h mine))))
        | inr apart ↦ (
            get_or-set_other meters i j new d apart ∙ are.each j d (omega (arith, length-set meters i new))
            ∙ ap (λ (l : List Metered). with l j)
            (sym (metered-other j n releases h (λ e. apart (sym e ∙ mine)))))
      ]);
}
