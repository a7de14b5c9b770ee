use Rattle.std.proofs.Common.{◌≡◌, ℕ, ◌+◌, ◌*◌, ◌≤◌, List, [], ◌∷◌, ◌++◌, All, sym, arith}
use Rattle.std.specs.Prelude.{ℤ, fold}
use Rattle.std.proofs.lemmas.Int.{ints}
use Rattle.std.proofs.lemmas.List.Elements.{All-push, All-nil}
use Rattle.ats_num.specs.declared.time.TheConstants.{PS_PER_SECOND}
use Rattle.ats_bucket.specs.Conforming.{Frame}
use Rattle.ats_bucket.specs.Scheduler.{first_empty, eligibility_time, empty_after}
use Rattle.ats_bucket.proofs.Eligibility.{eligibility_time-is}
use Rattle.ats_bucket.proofs.EmptyAfter.{empty_after-is}
use Rattle.ats_streams.specs.declared.traffic.Declared.{Declared}
use Rattle.ats_streams.specs.Traffic.{IsRuled}
use Rattle.ats_group_law.specs.Windows.{ConformsByWindows}
use Rattle.ats_group_law.specs.Full.{IsFullEligibility, full_after, full_time}
use Rattle.ats_group_law.proofs.FullStep.{IsEarlier, full-from_signed}
use Rattle.ats_group_law.proofs.Push.{conforms_push, full_time-push}
use Rattle.ats_gen.specs.Made.{empty_by}

-- the bucket-empty time after frames is the bucket-full time less the burst
empty-full : (d : Declared) (empty : ℤ) (full : ℕ) (frames : List Frame) → IsEarlier empty full d.burst_bits
    → IsEarlier (fold (λ (e : ℤ) (f : Frame). empty_after d.rate d.burst_bits e f.at f.bits) empty frames)
    (full_time d.rate full frames) d.burst_bits
empty-full d empty full [] e = e
empty-full d empty full (f ∷ fs) e =
    empty-full d (empty_after d.rate d.burst_bits empty f.at f.bits) (full_after d.rate full f.at f.bits) fs
    (sym (empty_after-is d.rate d.burst_bits full f.at f.bits empty e))

pub empty-is : (d : Declared) (frames : List Frame) → IsEarlier (empty_by d frames) (full_time d.rate 0 frames)
    d.burst_bits
empty-is d frames = empty-full d (first_empty d.burst_bits) 0 frames (omega (arith, ints))

-- what the frames of a stream keep as long as the clock stands here: they conform, and each time from the clock on at
-- which the bucket may be full is no earlier than any of them
pub record IsKept (d : Declared) (clock : ℕ) (frames : List Frame) : Type 0 where
  pub conforms : ConformsByWindows d.rate d.burst_bits frames
  pub past : (t : ℕ) → clock ≤ t → full_time d.rate 0 frames ≤ t * d.rate + PS_PER_SECOND * d.burst_bits
      → All (λ (f : Frame). f.at ≤ t) frames

-- at first
pub kept-none : (d : Declared) (clock : ℕ) → IsKept d clock []
kept-none d clock = record {
  conforms = record {
    in_order = λ i j e h k. absurd (omega arith);
    windows = record { within = λ from to h. omega arith };
  };
  past = λ t h b. All-nil (λ (f : Frame). f.at ≤ t);
}

-- as the clock is raised
pub kept-later : (d : Declared) (clock later : ℕ) (frames : List Frame) → clock ≤ later → IsKept d clock frames
    → IsKept d later frames
kept-later d clock later frames h k = record {
  conforms = k.conforms;
  past = λ t l b. k.past t (omega arith) b;
}

-- one more frame, at its eligibility time
pub kept-push : (d : Declared) (clock bits : ℕ) (frames : List Frame) → IsRuled d → bits ≤ d.burst_bits
    → IsKept d clock frames → IsKept d clock (frames ++ record {
      at = eligibility_time d.rate (empty_by d frames) 0 clock bits;
      bits = bits;
    } ∷ [])
kept-push d clock bits frames ruled small kept =
    let at : ℕ = eligibility_time d.rate (empty_by d frames) 0 clock bits in
    let f : Frame = record { at = at; bits = bits } in
    let full : ℕ = full_time d.rate 0 frames in
    let e : IsFullEligibility d.rate d.burst_bits full 0 clock bits at =
    full-from_signed d.rate d.burst_bits full (empty_by d frames) 0 clock bits at (empty-is d frames)
    (eligibility_time-is d.rate (empty_by d frames) 0 clock bits ruled.rate.positive) in
    let before : All (λ (x : Frame). x.at ≤ at) frames = kept.past at e.arrived (omega (arith, e.bucket)) in
    record {
      conforms = conforms_push d.rate d.burst_bits frames f kept.conforms before small e.bucket;
      past = λ t h b. (
          let after : full_time d.rate 0 (frames ++ f ∷ []) ≡ full_after d.rate full at bits =
          full_time-push d.rate 0 frames f in
          let first : at ≤ t = e.least t h (omega arith) (omega arith) in
          All-push (λ (x : Frame). x.at ≤ t) frames f
          (kept.past t h (omega arith)) first);
    }
