use Rattle.ats_examples.proofs.PremiseProofs.{port_rule_counts, conforming_counts, sizes_count, streams_count}
use Rattle.ats_examples.proofs.port_laws.premises_count.Goals as goal

pub returns : goal.returns
returns c = record {
  port_rule = port_rule_counts;
  conforming = conforming_counts;
  sizes = sizes_count;
  streams = streams_count;
}
