use Rattle.std.proofs.Common.{refl}
use Rattle.ats_first_examples.specs.Rules.{EntriesAreJudged, FlowRulesAreFirst, FlowsComeIn, RatesComeIn, RulesAreFirst}
use Rattle.ats_first_examples.specs.Rules.{StreamRulesAreFirst, StreamsComeIn}

-- Rules of streams and flows by computation.

stream_rules_are_first : StreamRulesAreFirst
stream_rules_are_first = record {
  class = refl;
  count = refl;
  no_class = refl;
  rate = refl;
  sizes = refl;
  burst = refl;
  ports = refl;
  deadline = refl;
  none = refl;
  class_over_limit = refl;
  rate_over_limit = refl;
  sizes_over_limit = refl;
  rate_alone = refl;
  sizes_alone = refl;
  burst_alone = refl;
  burst_over = refl;
  rate_and_over = refl;
  none_alone = refl;
}

flow_rules_are_first : FlowRulesAreFirst
flow_rules_are_first = record {
  both = refl;
  ports = refl;
  none = refl;
}

streams_come_in : StreamsComeIn
streams_come_in = record {
  all = refl;
  of_flow = refl;
  two = refl;
  over = refl;
  unidentified = refl;
  last = refl;
}

flows_come_in : FlowsComeIn
flows_come_in = record {
  both = refl;
  of_stream = refl;
  over = refl;
  last = refl;
}

rates_come_in : RatesComeIn
rates_come_in = record {
  most = refl;
  over = refl;
  burst_most = refl;
  burst_over = refl;
  ends_most = refl;
  ends_over = refl;
  ideal = refl;
  taken = refl;
  asked_most = refl;
  asked = refl;
}

entries_are_judged : EntriesAreJudged
entries_are_judged = record {
  both = refl;
  of_flow = refl;
  over = refl;
  last = refl;
}

pub rules_are_first : RulesAreFirst
rules_are_first = record {
  streams = stream_rules_are_first;
  flows = flow_rules_are_first;
  streams_come = streams_come_in;
  flows_come = flows_come_in;
  rates_come = rates_come_in;
  entries = entries_are_judged;
}
