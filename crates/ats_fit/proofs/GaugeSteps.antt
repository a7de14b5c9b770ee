use Rattle.std.proofs.Common.{ℕ, ◌+◌, ◌*◌, ◌<◌, ◌≤◌, List, [], ◌∷◌, ◌++◌, length, map, All, IfSome, Option}
use Rattle.std.proofs.Common.{Some, None, sym, subst, arith}
use Rattle.std.specs.Option.{option_map}
use Rattle.std.proofs.lemmas.List.{map-append, length-map, length_push}
use Rattle.std.proofs.lemmas.List.Elements.{All-push, All-map, All-weaker}
use Rattle.std.proofs.lemmas.List.Sums.{sum_by-le}
use Rattle.ats_num.specs.Wire.{IsFrameSize, bits_of}
use Rattle.ats_num.specs.declared.time.TheConstants.{PS_PER_SECOND}
use Rattle.ats_num.specs.declared.wire.TheConstants.{MAX_WIRE_BITS}
use Rattle.ats_bucket.specs.Conforming.{Frame}
use Rattle.ats_trace.specs.Talker.{frame_of}
use Rattle.ats_trace.specs.declared.journey.Release.{Release}
use Rattle.ats_trace.specs.declared.run.TheConstants.{MAX_FRAMES}
use Rattle.ats_fit.specs.Deficit.{IsDeficit, bits_in, deficit_after, most_bits}
use Rattle.ats_fit.specs.Measured.{AreSizesOf}
use Rattle.ats_fit.specs.Steps.{IsDeficitOf, IsGauged, octets_in, sizes_with}
use Rattle.ats_fit.specs.declared.deficit.Deficit.{Deficit}
use Rattle.ats_fit.specs.declared.measured.Sizes.{Sizes}
use Rattle.ats_fit.proofs.Deficits.{deficit-push}
use Rattle.ats_fit.proofs.SizesMore.{sizes-push}

-- no releases of a run have more bits together
bits-most : (taken : List Release) → length taken ≤ MAX_FRAMES
    → All (λ (r : Release). IsFrameSize r.octets) taken → bits_in (map frame_of taken) ≤ most_bits
bits-most taken few octets =
    let Small : Frame → Type 0 = λ f. f.bits ≤ MAX_WIRE_BITS in
    let small : All Small (map frame_of taken) =
    All-map Small frame_of taken
    (All-weaker (λ (r : Release). IsFrameSize r.octets) (λ (r : Release). Small (frame_of r))
    (λ r size. omega (arith, size.most)) taken octets) in
    omega (
      arith,
      sum_by-le (λ (f : Frame). f.bits) MAX_WIRE_BITS (map frame_of taken) small,
      length-map taken frame_of,
    )

-- what a gauge keeps of its bucket is within its range
pub lacks-most : (taken : List Release) (frames : ℕ) (sizes : Option Sizes) (lack : Option Deficit)
    → IsGauged taken frames sizes lack
    → IfSome lack (λ (d : Deficit). d.lacks ≤ PS_PER_SECOND * most_bits)
lacks-most taken frames sizes None is = tt
lacks-most taken frames sizes (Some d) is =
    let most = bits-most taken is.few is.octets in
    omega (arith, is.deficit.few, most)

pub most-most : (taken : List Release) (frames : ℕ) (sizes : Option Sizes) (d : Deficit)
    → IsGauged taken frames sizes (Some d) → d.most ≤ PS_PER_SECOND * most_bits
most-most taken frames sizes d is =
    let most = bits-most taken is.few is.octets in
    omega (arith, is.deficit.small, most)

-- the frames of releases none of which is later
frames-early : (taken : List Release) (at : ℕ) → All (λ (r : Release). r.at.0 ≤ at) taken
    → All (λ (f : Frame). f.at ≤ at) (map frame_of taken)
frames-early taken at early = All-map (λ (f : Frame). f.at ≤ at) frame_of taken early

-- the last one came no later
pub last-early : (taken : List Release) (frames : ℕ) (sizes : Option Sizes) (lack : Option Deficit) (at : ℕ)
    → IsGauged taken frames sizes lack → All (λ (r : Release). r.at.0 ≤ at) taken
    → IfSome lack (λ (d : Deficit). d.at.0 ≤ at)
last-early taken frames sizes None at is early = tt
last-early taken frames sizes (Some d) at is early = is.deficit.last at (frames-early taken at early)

-- the bucket after one release more
deficit-more : (taken : List Release) (r : Release) (lack : Option Deficit) → IsDeficitOf taken lack
    → All (λ (s : Release). s.at.0 ≤ r.at.0) taken
    → IsDeficitOf (taken ++ r ∷ []) (option_map (λ (d : Deficit). deficit_after d r.at.0 (bits_of r.octets)) lack)
deficit-more taken r None is early = tt
deficit-more taken r (Some d) is early =
    subst (λ (l : List Frame). IsDeficit l (deficit_after d r.at.0 (bits_of r.octets)))
    (sym (map-append frame_of taken (r ∷ [])))
    (deficit-push (map frame_of taken) (frame_of r) d is (frames-early taken r.at.0 early))

-- what a gauge keeps after one release more
pub gauged-more : (taken : List Release) (frames : ℕ) (sizes : Option Sizes) (lack : Option Deficit) (r : Release)
    → IsGauged taken frames sizes lack → length taken < MAX_FRAMES → All (λ (s : Release). s.at.0 ≤ r.at.0) taken
    → IsFrameSize r.octets
    → IsGauged (taken ++ r ∷ []) (frames + 1) (Some (sizes_with sizes r.octets))
    (option_map (λ (d : Deficit). deficit_after d r.at.0 (bits_of r.octets)) lack)
gauged-more taken frames sizes lack r is few early size = record {
  few = omega (arith, length_push taken r);
  count = omega (arith, length_push taken r, is.count);
  octets = All-push (λ (s : Release). IsFrameSize s.octets) taken r is.octets size;
  sizes = subst (λ (l : List ℕ). AreSizesOf l (Some (sizes_with sizes r.octets)))
      (sym (map-append (λ (s : Release). s.octets) taken (r ∷ [])))
      (sizes-push (octets_in taken) sizes r.octets is.sizes);
  deficit = deficit-more taken r lack is.deficit early;
}
