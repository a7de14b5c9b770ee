use Rattle.std.specs.Prelude.{ℕ, List}
use Rattle.ats_bucket.specs.Conforming.{Frame, Conforms}
use Rattle.ats_streams.specs.declared.traffic.Declared.{Declared}
use Rattle.ats_group.specs.declared.verdict.Verdict.{Verdict}
use Rattle.ats_group.specs.declared.verdict.Verdict.TheVariants.{Eligible, Late, Size}
use Rattle.ats_group.specs.Group.{Offer, first, verdicts_of}

-- where a verdict is eligible, this holds of its time
abbrev pub OnEligible : Verdict → (ℕ → Type 0) → Type 0
OnEligible (Eligible e) next = next e.0
OnEligible (Late e) next = Unit {0}
OnEligible Size next = Unit {0}

-- how a group judges frames that come one after another: by what its members declare and its maximum residence time in
-- nanoseconds, the verdict on each of them
abbrev pub Judge : Type 0
Judge = (ℕ → Declared) → ℕ → List Offer → List Verdict

-- as Asynchronous Traffic Shaping does: by the members' schedulers and the group eligibility time
abbrev pub ats_judge : Judge
ats_judge declared residence_ns offers = verdicts_of declared residence_ns (first declared) offers

-- the rule of a token bucket: frames conform to the declared rate and burst
abbrev pub bucket_rule : Declared → List Frame → Type 0
bucket_rule declared frames = Conforms declared.rate declared.burst_bits frames
