use Rattle.std.proofs.Common.{refl, ap}
use Rattle.std.specs.Prelude.{Option}
use Rattle.std.specs.Option.{option_or}
use Rattle.ats_streams.specs.declared.fault.StreamFault.{StreamFault}
use Rattle.ats_network_file.specs.Senders.{rate_fault}
use Rattle.ats_plain_law.specs.Faults.{FaultsArePlain, NamesAreCompared, NumbersAreCompared, RulesComeFirst}

-- What the tests of nodes and links ask, and which fault of a stream is told.

names : NamesAreCompared
names = record {
  name = λ names i. refl;
  ends = λ a b link. refl;
  link = λ links i. refl;
  self = λ link. refl;
  unknown = λ names link. refl;
  linked = λ links node. refl;
}

numbers : NumbersAreCompared
numbers = record {
  rate = λ link. refl;
  processing = λ node. refl;
  kind = λ kind. refl;
  node = λ node. refl;
  link = λ link. refl;
  all = λ nodes links. refl;
}

streams : RulesComeFirst
streams = record {
  rules = λ topology most given s fault is.
      ap (λ (o : Option StreamFault). option_or o (rate_fault topology s)) is;
  clocks = λ topology most given s is. ap (λ (o : Option StreamFault). option_or o (rate_fault topology s)) is;
}

pub faults_are_plain : FaultsArePlain
faults_are_plain = record {
  names = names;
  numbers = numbers;
  streams = streams;
}
