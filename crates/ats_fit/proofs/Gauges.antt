use Rattle.std.proofs.Common.{◌≡◌, ◌≢◌, ℕ, ◌+◌, ◌<◌, ◌≤◌, ◌==◌, Bool, true, false, cond, if◌then◌else◌, List, [], ◌∷◌}
use Rattle.std.proofs.Common.{◌++◌, length, map, filter, take, get_or, set, All, Option, Some, None, refl, sym, ap, ◌∙◌}
use Rattle.std.proofs.Common.{subst, append-nil, inl, inr, arith}
use Rattle.std.specs.Prelude.{nat_lt}
use Rattle.std.specs.List.Sorted.{IsNonDecreasing}
use Rattle.std.proofs.lemmas.Bool.{cases_eq, cases_lt, eq-eqb, ne_eqb, ltb-true, ltb-false}
use Rattle.std.proofs.lemmas.List.{length-take-le, get_or-take, get_or-map, length-map, length-set, get_or-set_same}
use Rattle.std.proofs.lemmas.List.{get_or-set_other, get_or_append_left, get_or_default, get_or_push, take_all}
use Rattle.std.proofs.lemmas.List.Elements.{filter_more, All-filter}
use Rattle.std.proofs.lemmas.List.Sums.{length-filter, count_by-le-length}
use Rattle.ats_network.specs.Network.{DeclaredNetwork}
use Rattle.ats_trace.specs.declared.journey.Release.{Release}
use Rattle.ats_conform.specs.Releases.{no_release, release_at}
use Rattle.ats_trace.specs.Eligibility.{declared_by}
use Rattle.ats_trace.specs.Talker.{frame_of}
use Rattle.ats_trace.specs.declared.run.TheConstants.{MAX_FRAMES}
use Rattle.ats_fit.specs.Measured.{AreMeasured, AreSizesOf, IsBurstOf}
use Rattle.ats_fit.specs.Steps.{Gauging, AreFirst, AreGauges, AreTold, IsBurstBy, IsTold, first_gauge, gauge_after}
use Rattle.ats_fit.specs.Steps.{octets_in, rate_of}
use Rattle.ats_fit.specs.declared.measured.Measured.{Measured}

-- the releases of a sender among the first n
abbrev pub mine : ℕ → ℕ → List Release → List Release
mine i n releases = filter (λ (r : Release). r.sender == i) (take n releases)

-- with the next one, where it is the sender's
pub mine-more : (i n : ℕ) (releases : List Release) → n < length releases → (release_at releases n).sender ≡ i
    → mine i (n + 1) releases ≡ mine i n releases ++ release_at releases n ∷ []
mine-more i n releases h e =
    filter_more (λ (r : Release). r.sender == i) releases n no_release h
    ∙ ap (λ (b : Bool). mine i n releases ++ cond b (release_at releases n ∷ []) [])
    (eq-eqb (release_at releases n).sender i e)

-- and without it, where it is another's
pub mine-other : (i n : ℕ) (releases : List Release) → n < length releases → (release_at releases n).sender ≢ i
    → mine i (n + 1) releases ≡ mine i n releases
mine-other i n releases h e =
    filter_more (λ (r : Release). r.sender == i) releases n no_release h
    ∙ ap (λ (b : Bool). mine i n releases ++ cond b (release_at releases n ∷ []) [])
    (ne_eqb (release_at releases n).sender i e)
    ∙ append-nil (mine i n releases)

-- they are not more than all before
pub mine-few : (i n : ℕ) (releases : List Release) → n < length releases → length (mine i n releases) ≤ n
mine-few i n releases h =
    let mine_test : Release → Bool = λ r. r.sender == i in
    omega (
      arith,
      length-filter mine_test (take n releases),
      count_by-le-length mine_test (take n releases),
      length-take-le n releases (omega arith),
    )

-- and none is later than the next
pub mine-earlier : (i n : ℕ) (releases : List Release) → IsNonDecreasing (map (λ (r : Release). r.at.0) releases)
    → n < length releases → All (λ (r : Release). r.at.0 ≤ (release_at releases n).at.0) (mine i n releases)
mine-earlier i n releases sorted h =
    let time : Release → ℕ = λ r. r.at.0 in
    let Early : Release → Type 0 = λ r. r.at.0 ≤ (release_at releases n).at.0 in
    All-filter (λ (r : Release). r.sender == i) Early (take n releases) (λ k d below. (
    let k_below : k < n = omega (arith, length-take-le n releases (omega arith)) in
    let at_k : get_or (map time releases) k 0 ≡ time (get_or releases k d) =
    get_or-map time releases k d 0 (omega arith) in
    let at_n : get_or (map time releases) n 0 ≡ time (release_at releases n) =
    get_or-map time releases n no_release 0 h in
    let up : get_or (map time releases) k 0 ≤ get_or (map time releases) n 0 =
    sorted k n 0 (omega arith) (omega (arith, length-map releases time)) in
    rw (get_or-take n releases k d k_below) (omega arith)))

-- the gauge of a sender, as it is read
pub gauge-at : (network : DeclaredNetwork) (releases : List Release) (n i : ℕ) (gauges : List Gauging) (g : Gauging)
    → AreGauges network releases n gauges → i < length gauges → g ≡ get_or gauges i g
    → g ≡ gauge_after network releases n i
gauge-at network releases n i gauges g are h is = is ∙ are.each i g h

-- has room for the next release
pub gauge-few : (network : DeclaredNetwork) (releases : List Release) (n i : ℕ) (g : Gauging)
    → g ≡ gauge_after network releases n i → length releases ≤ MAX_FRAMES → n < length releases
    → length g.taken < MAX_FRAMES
gauge-few network releases n i g is few h =
    omega (arith, ap (λ (x : Gauging). length x.taken) is, mine-few i n releases h)

-- and took none that is later
pub gauge-early : (network : DeclaredNetwork) (releases : List Release) (n i : ℕ) (g : Gauging)
    → g ≡ gauge_after network releases n i → IsNonDecreasing (map (λ (r : Release). r.at.0) releases)
    → n < length releases → All (λ (r : Release). r.at.0 ≤ (release_at releases n).at.0) g.taken
gauge-early network releases n i g is sorted h =
    subst (λ (x : Gauging). All (λ (r : Release). r.at.0 ≤ (release_at releases n).at.0) x.taken) (sym is)
    (mine-earlier i n releases sorted h)

-- the gauges after one release more, which its sender's gauge took
pub gauges-more : (network : DeclaredNetwork) (releases : List Release) (n i : ℕ) (gauges : List Gauging)
    (new : Gauging)
    → n < length releases → AreGauges network releases n gauges → (release_at releases n).sender ≡ i
    → i < length gauges
    → (g : Gauging) → g ≡ gauge_after network releases n i
    → new ≡ record g { taken = g.taken ++ release_at releases n ∷ [] }
    → AreGauges network releases (n + 1) (set gauges i new)
gauges-more network releases n i gauges new h are is within g was taken = record {
  count = length-set gauges i new ∙ are.count;
  each = λ j d below. (
      let with : List Release → ℕ → Gauging = λ l k. record (gauge_after network releases n k) { taken = l } in
      elim (cases_eq j i) as (λ _. get_or (set gauges i new) j d ≡ gauge_after network releases (n + 1) j) [
        | inl same ↦ (
            subst (λ (k : ℕ). get_or (set gauges i new) k d ≡ gauge_after network releases (n + 1) k) (sym same)
            (get_or-set_same gauges i new d within ∙ taken
            ∙ ap (λ (x : Gauging). let y : Gauging = record x { taken = x.taken ++ release_at releases n ∷ [] } in y)
            was
            ∙ ap (λ (l : List Release). with l i) (sym (mine-more i n releases h is))))
        | inr apart ↦ (
            get_or-set_other gauges i j new d apart ∙ are.each j d (omega (arith, length-set gauges i new))
            ∙ ap (λ (l : List Release). with l j) (sym (mine-other j n releases h (λ e. apart (sym e ∙ is)))))
      ]);
}

-- the first gauges have taken none of any releases
pub gauges-first : (network : DeclaredNetwork) (releases : List Release) (gauges : List Gauging)
    → AreFirst network gauges → AreGauges network releases 0 gauges
gauges-first network releases gauges are = record {
  count = are.count;
  each = λ i d below. are.each i d below;
}

-- one first gauge more
pub first-more : (network : DeclaredNetwork) (n : ℕ) (gauges : List Gauging) (new : Gauging) → length gauges ≡ n
    → ((i : ℕ) (d : Gauging) → i < n → get_or gauges i d ≡ first_gauge network i) → new ≡ first_gauge network n
    → (i : ℕ) (d : Gauging) → i < n + 1 → get_or (gauges ++ new ∷ []) i d ≡ first_gauge network i
first-more network n gauges new size each one i d h =
    elim (cases_lt i n) as (λ _. get_or (gauges ++ new ∷ []) i d ≡ first_gauge network i) [
      | inl old ↦ (get_or_append_left gauges (new ∷ []) d i (omega arith) ∙ each i d old)
      | inr end ↦ (
          let last : n ≡ i = omega arith in
          subst (λ (k : ℕ). get_or (gauges ++ new ∷ []) k d ≡ first_gauge network k) last
          (get_or_push gauges new d n size ∙ one))
    ]

-- what a gauge of all releases tells of a burst
burst-told : (network : DeclaredNetwork) (releases : List Release) (i : ℕ) (stream : Bool) (burst : Option ℕ)
    → nat_lt i (length network.streams) ≡ stream
    → IsBurstBy (if stream then Some (declared_by network i).rate else None)
    (filter (λ (r : Release). r.sender == i) releases) burst
    → IsBurstOf network releases i burst
burst-told network releases i true None is told = absurd told
burst-told network releases i true (Some burst) is told = (ltb-true i (length network.streams) is, told)
burst-told network releases i false None is told = ltb-false i (length network.streams) is
burst-told network releases i false (Some burst) is told = absurd told

-- what one gauge more tells
pub told-more : (gauges : List Gauging) (measured : List Measured) (n : ℕ) (h : Gauging) (m : Measured)
    → length measured ≡ n → n < length gauges → h ≡ get_or gauges n h → IsTold h m
    → ((i : ℕ) (g : Gauging) (d : Measured) → i < n → IsTold (get_or gauges i g) (get_or measured i d))
    → (i : ℕ) (g : Gauging) (d : Measured) → i < n + 1
    → IsTold (get_or gauges i g) (get_or (measured ++ m ∷ []) i d)
told-more gauges measured n h m size within is one each i g d below =
    elim (cases_lt i n) as (λ _. IsTold (get_or gauges i g) (get_or (measured ++ m ∷ []) i d)) [
      | inl old ↦ (
          subst (IsTold (get_or gauges i g)) (sym (get_or_append_left measured (m ∷ []) d i (omega arith)))
          (each i g d old))
      | inr end ↦ (
          let last : n ≡ i = omega arith in
          let here : h ≡ get_or gauges n g = is ∙ get_or_default gauges n h g within in
          let there : m ≡ get_or (measured ++ m ∷ []) n d = sym (get_or_push measured m d n size) in
          subst (λ (k : ℕ). IsTold (get_or gauges k g) (get_or (measured ++ m ∷ []) k d)) last
          (subst (λ (x : Gauging). IsTold x (get_or (measured ++ m ∷ []) n d)) here (subst (IsTold h) there one)))
    ]

-- what the gauges of all releases tell is measured of them
pub told-measured : (network : DeclaredNetwork) (releases : List Release) (n : ℕ) (gauges : List Gauging)
    (measured : List Measured) → length releases ≤ n → AreGauges network releases n gauges → AreTold gauges measured
    → AreMeasured network releases measured
told-measured network releases n gauges measured end are told = record {
  count = told.count ∙ are.count;
  each = λ i d below. (
      let inside : i < length gauges = omega (arith, told.count) in
      let g : Gauging = gauge_after network releases n i in
      let is : IsTold g (get_or measured i d) =
      subst (λ (x : Gauging). IsTold x (get_or measured i d)) (are.each i g inside) (told.each i g d inside) in
      let all : take n releases ≡ releases = take_all n releases end in
      let mine_all : mine i n releases ≡ filter (λ (r : Release). r.sender == i) releases =
      ap (filter (λ (r : Release). r.sender == i)) all in
      record {
        frames = is.frames ∙ ap length mine_all
            ∙ sym (length-map (filter (λ (r : Release). r.sender == i) releases) frame_of);
        sizes = subst (λ (rs : List Release). AreSizesOf (octets_in rs) (get_or measured i d).sizes) mine_all is.sizes;
        burst = burst-told network releases i (nat_lt i (length network.streams)) (get_or measured i d).burst_bits refl
            (subst (λ (rs : List Release). IsBurstBy (rate_of network i) rs (get_or measured i d).burst_bits) mine_all
            is.burst);
      });
}
