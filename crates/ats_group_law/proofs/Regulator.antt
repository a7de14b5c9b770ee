use Rattle.std.proofs.Common.{◌≡◌, ℕ, Bool, true, false, List, [], ◌∷◌, refl, mul-le-mul_right, arith}
use Rattle.std.specs.Prelude.{◌≤◌, nat_le, if◌then◌else◌}
use Rattle.std.specs.List.{AllZip}
use Rattle.ats_bucket.specs.Conforming.{Frame, Conforms, time_between}
use Rattle.ats_streams.specs.declared.traffic.Declared.{Declared}
use Rattle.ats_group.specs.declared.verdict.Verdict.{Verdict}
use Rattle.ats_group.specs.declared.verdict.Verdict.TheVariants.{Eligible, Late, Size}
use Rattle.ats_group.specs.Group.{Offer, State, first, next, verdicts_of, verdict_by}
use Rattle.ats_streams.specs.Traffic.{is_declared_size}
use Rattle.ats_group.specs.Judge.{OnEligible, bucket_rule}
use Rattle.ats_group_law.specs.Regulator.{IsEligibleSized, IsEligibleArrived, IsRule, IsDelayedBy, AtsIsRegulator}
use Rattle.ats_group_law.specs.Shaping.{Passage, IsDelayed}
use Rattle.ats_group_law.proofs.WindowBits.{bits_in, bits_within-sum}
use Rattle.ats_group_law.proofs.WindowParts.{KeepsWindows-fewer}
use Rattle.ats_group_law.proofs.WindowPlaces.{windows_from_places, places_from_windows}
use Rattle.ats_group_law.proofs.OutputLaws.{output_conforms}
use Rattle.ats_group_law.proofs.ShapingFree.{shaping_free}

on_any : (verdict : Verdict) (Z : Type 0) → Z → OnEligible verdict (λ e. Z)
on_any (Eligible e) Z z = z
on_any (Late e) Z z = tt
on_any Size Z z = tt

-- a verdict by a test of the size is eligible only where the test passes
pub by_size : (size : Bool) (verdict : Verdict) → OnEligible (if size then verdict else Size) (λ e. size ≡ true)
by_size true verdict = on_any verdict (true ≡ true) refl
by_size false verdict = tt

-- so is each verdict of a group
sized_from : (declared : ℕ → Declared) (residence_ns : ℕ) (state : State) (offers : List Offer)
    → AllZip (IsEligibleSized declared) offers (verdicts_of declared residence_ns state offers)
sized_from declared residence_ns state [] = tt
sized_from declared residence_ns state (offer ∷ offers) = (
  by_size (is_declared_size (declared offer.member) offer.octets) _,
  sized_from declared residence_ns (next declared residence_ns state offer) offers,
)

-- an eligible frame has arrived where its time is no earlier
arrived_in : (in_time : Bool) (eligible arrival : ℕ) → arrival ≤ eligible
    → OnEligible (if in_time then Eligible (record { 0 = eligible }) else Late (record { 0 = eligible }))
    (λ e. arrival ≤ e)
arrived_in true eligible arrival h = h
arrived_in false eligible arrival h = tt

arrived_by : (size : Bool) (latest eligible arrival : ℕ) → arrival ≤ eligible
    → OnEligible (if size then verdict_by latest eligible else Size) (λ e. arrival ≤ e)
arrived_by true latest eligible arrival h = arrived_in (nat_le eligible latest) eligible arrival h
arrived_by false latest eligible arrival h = tt

arrived_from : (declared : ℕ → Declared) (residence_ns : ℕ) (state : State) (offers : List Offer)
    → AllZip IsEligibleArrived offers (verdicts_of declared residence_ns state offers)
arrived_from declared residence_ns state [] = tt
arrived_from declared residence_ns state (offer ∷ offers) = (
  arrived_by (is_declared_size (declared offer.member) offer.octets) _ _ offer.arrival (omega arith),
  arrived_from declared residence_ns (next declared residence_ns state offer) offers,
)

-- frames that conform to a rate and a burst conform to greater ones
pub conforms_wider : (rate burst more longer : ℕ) (frames : List Frame) → rate ≤ more → burst ≤ longer
    → Conforms rate burst frames → Conforms more longer frames
conforms_wider rate burst more longer frames r b c = record {
  in_order = c.in_order;
  within = λ i j h k. (
      let within = c.within i j h k in
      omega (arith, mul-le-mul_right (time_between frames i j) r));
}

bucket_is_rule : IsRule bucket_rule
bucket_is_rule = record {
  fewer = λ d frames others conforms ascends no_more.
      places_from_windows d.rate d.burst_bits frames (record {
        in_order = ascends;
        windows = KeepsWindows-fewer d.rate d.burst_bits others frames
            (λ from to.
            omega (arith, bits_within-sum frames from to, bits_within-sum others from to, no_more (bits_in from to)))
            (windows_from_places d.rate d.burst_bits others conforms).windows;
      });
  wider = λ d e frames less conforms. conforms_wider d.rate d.burst_bits e.rate e.burst_bits frames less.rate less.burst
      conforms;
  conforms = λ d frames ruled sized conforms. conforms;
}

-- frames that conform keep all windows
delayed_by : (declared : ℕ → Declared) (residence_ns bound : ℕ) (passages : List Passage)
    → IsDelayedBy bucket_rule declared residence_ns bound passages → IsDelayed declared residence_ns bound passages
delayed_by declared residence_ns bound passages d = record {
  ruled = d.ruled;
  sized = d.sized;
  in_order = d.in_order;
  conformed = λ k e h. (windows_from_places _ _ _ (d.kept k e h)).windows;
  arrives = d.arrives;
  may_stay = d.may_stay;
}

pub ats_is_regulator : AtsIsRegulator
ats_is_regulator = record {
  rule = bucket_is_rule;
  regulator = record {
    sized = λ declared residence_ns offers. sized_from declared residence_ns (first declared) offers;
    arrived = λ declared residence_ns offers. arrived_from declared residence_ns (first declared) offers;
    keeps = λ declared residence_ns offers member ruled. output_conforms declared residence_ns offers member ruled;
    free = λ declared residence_ns bound passages delayed.
        shaping_free declared residence_ns bound passages (delayed_by declared residence_ns bound passages delayed);
  };
}
