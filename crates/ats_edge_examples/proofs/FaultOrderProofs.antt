use Rattle.std.proofs.Common.{◌∷◌, [], Option, refl, ap}
use Rattle.std.specs.Option.{option_or}
use Rattle.ats_streams.specs.Stream.{route_fault}
use Rattle.ats_streams.specs.Branches.{routes_of}
use Rattle.ats_streams.specs.declared.fault.StreamFault.{StreamFault}
use Rattle.ats_edge_examples.specs.FaultOrders.{FaultsAreInOrder, LimitsComeLast, RulesComeFirst, SizesComeFirst}

-- Faults in their order, by computation.

sizes : SizesComeFirst
sizes = record {
  short = refl;
  long = refl;
  of_each = refl;
  of_none = refl;
  route = refl;
  route_of_each = refl;
  within = refl;
}

rules : RulesComeFirst
rules = record {
  class = refl;
  rate = refl;
  sizes = refl;
  burst = refl;
  rate_of_each = refl;
  sizes_of_each = refl;
  burst_of_each = refl;
  route = refl;
  within = refl;
}

last : LimitsComeLast
last = record {
  flow = λ most flow fault told.
      ap (λ (first : Option StreamFault). option_or first (route_fault most (flow.path ∷ []))) told;
  stream = λ most given stream fault told.
      ap (λ (first : Option StreamFault). option_or first (route_fault most (routes_of stream.ports stream.branches)))
      told;
}

pub faults_are_in_order : FaultsAreInOrder
faults_are_in_order = record { sizes = sizes; rules = rules; last = last }
