use Rattle.ats_lrq.specs.Fold.{first}
use Rattle.ats_lrq.specs.Judge.{spacing_rule}
use Rattle.ats_group_law.specs.Regulator.{IsRule}
use Rattle.std.proofs.Common.{◌≤◌, List, All, arith}
use Rattle.ats_num.specs.Wire.{bits_of}
use Rattle.ats_bucket.specs.Conforming.{Frame, Conforms}
use Rattle.ats_streams.specs.Traffic.{IsRuled}
use Rattle.ats_streams.specs.declared.traffic.Declared.{Declared}
use Rattle.ats_lrq_law.specs.Laws.{LrqIsRegulator}
use Rattle.ats_lrq_law.proofs.Conforming.{spaced-conforms}
use Rattle.ats_lrq_law.proofs.Free.{spacing-free}
use Rattle.ats_lrq_law.proofs.Output.{output-spaced}
use Rattle.ats_lrq_law.proofs.Rule.{spacing-fewer}
use Rattle.ats_lrq_law.proofs.Spaced.{spaced-wider}
use Rattle.ats_lrq_law.proofs.Verdicts.{arrived-from, sized-from}

-- a burst covers the longest frame
conforms_by : (d : Declared) (frames : List Frame) → IsRuled d
    → All (λ (f : Frame). f.bits ≤ bits_of d.max_octets) frames → spacing_rule d frames
    → Conforms d.rate d.burst_bits frames
conforms_by d frames r sized k =
    let covers = r.covers in
    spaced-conforms d.rate d.burst_bits frames k.spaced (λ i e h. (let s = sized i e h in omega arith))

spacing_is_rule : IsRule spacing_rule
spacing_is_rule = record {
  fewer = λ d frames others kept ascends no_more. spacing-fewer d.rate frames others kept ascends no_more;
  wider = λ d e frames less kept.
      record { bits = kept.bits; spaced = spaced-wider d.rate e.rate frames less.rate kept.spaced };
  conforms = conforms_by;
}

pub lrq_is_regulator : LrqIsRegulator
lrq_is_regulator = record {
  rule = spacing_is_rule;
  regulator = record {
    sized = λ declared residence_ns offers. sized-from declared residence_ns first offers;
    arrived = λ declared residence_ns offers. arrived-from declared residence_ns first offers;
    keeps = output-spaced;
    free = spacing-free;
  };
}
