use Rattle.std.proofs.Common.{◌∙◌, ℕ, Option, Some, refl, ap}
use Rattle.ats_command_input.specs.Command.{capture_in, generate_in, peaks_in, record_in, replay_in}
use Rattle.ats_command_input.specs.Command.{lrq_with_one, lrq_with_two, with_four, with_one, with_three, with_two}
use Rattle.ats_command_input.specs.Making.{count_named}
use Rattle.ats_command_input.specs.declared.order.Order.{Order}
use Rattle.ats_exact_examples.specs.AnyWords.{FilesAreReached, OrdersAreNeeded, OrdersAreTaken, WordsAreAny}
use Rattle.ats_exact_examples.specs.AnyWords.{WordsAreTaken}

-- Commands by computation, and by what their words name.

words_are_taken : WordsAreTaken
unfolding lrq_with_one lrq_with_two with_four with_one with_three with_two
words_are_taken = record {
  shape = λ file. refl;
  show = λ net. refl;
  bound = λ net. refl;
  explain = λ net. refl;
  settings = λ net. refl;
  check = λ net file. refl;
  buffers = λ net file. refl;
  conform = λ net file. refl;
  admit = λ net file. refl;
  found = λ net name. refl;
  fit = λ net file. refl;
  releases = λ net station file. refl;
  lrq_shape = λ file. refl;
  lrq_bound = λ net. refl;
  lrq_check = λ net file. refl;
}

orders_are_taken : OrdersAreTaken
unfolding lrq_with_one lrq_with_two with_four with_one with_three with_two
orders_are_taken = record {
  replay = λ net file word order named. ap (λ (o : Option Order). replay_in net file o) named;
  capture = λ net station file word order named. ap (λ (o : Option Order). capture_in net station file o) named;
  peaks = λ net rows file word order named. ap (λ (o : Option Order). peaks_in net rows file o) named;
  port_record = λ net file word port order named. ap (λ (o : Option Order). record_in net file o port) named;
  generate = λ net first second seed count from many.
      ap (λ (o : Option ℕ). generate_in net o (count_named second)) from
      ∙ ap (λ (o : Option ℕ). generate_in net (Some seed) o) many;
}

orders_are_needed : OrdersAreNeeded
unfolding lrq_with_one lrq_with_two with_four with_one with_three with_two
orders_are_needed = record {
  replay = λ net file word none. ap (λ (o : Option Order). replay_in net file o) none;
  capture = λ net station file word none. ap (λ (o : Option Order). capture_in net station file o) none;
  peaks = λ net rows file word none. ap (λ (o : Option Order). peaks_in net rows file o) none;
  port_record = λ net file word port none. ap (λ (o : Option Order). record_in net file o port) none;
  no_seed = λ net first second none. ap (λ (o : Option ℕ). generate_in net o (count_named second)) none;
  no_count = λ net first second seed from none.
      ap (λ (o : Option ℕ). generate_in net o (count_named second)) from
      ∙ ap (λ (o : Option ℕ). generate_in net (Some seed) o) none;
}

files_are_reached : FilesAreReached
files_are_reached = record {
  shape = λ file. refl;
  show = λ net. refl;
  bound = λ net. refl;
  explain = λ net. refl;
  settings = λ net. refl;
  check = λ net file. refl;
  buffers = λ net file. refl;
  conform = λ net file. refl;
  admit = λ net file. refl;
  found = λ net name. refl;
  fit = λ net file. refl;
  releases = λ net station file. refl;
  lrq_shape = λ file. refl;
  lrq_bound = λ net. refl;
  lrq_check = λ net file. refl;
  replay = λ net file order. refl;
  capture = λ net station file order. refl;
  peaks = λ net rows file order. refl;
  port_record = λ net file port order. refl;
  generate = λ net seed count. refl;
  unknown = refl;
}

pub words_are_any : WordsAreAny
words_are_any = record {
  files = words_are_taken;
  orders = orders_are_taken;
  needed = orders_are_needed;
  reached = files_are_reached;
}
