use Rattle.std.proofs.Common.{refl}
use Rattle.ats_meaning_examples.specs.Faulted.{FlowsGoInOrder, RulesGoInOrder, SenderFaultsAreMeant, StreamsGoInOrder}

-- Which fault of a stream or a flow is told where several rules are broken.

rules_go_in_order : RulesGoInOrder
rules_go_in_order = record { rules = λ rate burst least greatest. refl }

streams_go_in_order : StreamsGoInOrder
streams_go_in_order = record {
  classes = λ ports given. refl;
  stream = λ given s. refl;
  limits = λ routes deadline. refl;
  route = λ most route. refl;
  routes = λ most routes. refl;
  within = λ most given s. refl;
}

flows_go_in_order : FlowsGoInOrder
flows_go_in_order = record {
  flow = λ f. refl;
  within = λ most f. refl;
}

pub sender_faults_are_meant : SenderFaultsAreMeant
sender_faults_are_meant = record {
  rules = rules_go_in_order;
  streams = streams_go_in_order;
  flows = flows_go_in_order;
}
