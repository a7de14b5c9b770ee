use Rattle.std.proofs.Common.{refl}
use Rattle.ats_command_input.specs.Command.{lrq_with_one, lrq_with_two, with_four, with_one, with_three, with_two}
use Rattle.ats_plain_answer_law.specs.Verbs.{OrdersAreAsked, VerbsAreNamed, VerbsAreRead}

-- Which command words name.

read : VerbsAreRead
unfolding lrq_with_one lrq_with_two with_four with_one with_three with_two
read = record {
  alone = λ verb. refl;
  one = λ verb file. refl;
  two = λ verb net file. refl;
  three = λ verb net second third. refl;
  four = λ verb net second third fourth. refl;
  more = λ a b c d e f words. refl;
}

orders : OrdersAreAsked
orders = record {
  replay = λ net file order. refl;
  no_replay = λ net file. refl;
  capture = λ net station file order. refl;
  no_capture = λ net station file. refl;
  peaks = λ net rows file order. refl;
  no_peaks = λ net rows file. refl;
  port_record = λ net file port order. refl;
  no_record = λ net file port. refl;
  generate = λ net seed count. refl;
  no_count = λ net seed. refl;
  no_seed = λ net count. refl;
  neither = λ net. refl;
}

pub verbs_are_named : VerbsAreNamed
verbs_are_named = record {
  read = read;
  orders = orders;
}
