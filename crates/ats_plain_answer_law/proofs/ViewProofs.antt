use Rattle.std.proofs.Common.{refl}
use Rattle.ats_plain_answer_law.specs.Views.{ViewsAreNamed}

-- Which line of the table a value of the program stands for.

pub views_are_named : ViewsAreNamed
views_are_named = record {
  shape = λ file. refl;
  show = λ net. refl;
  bound = λ net. refl;
  explain = λ net. refl;
  settings = λ net. refl;
  check = λ net certificate. refl;
  buffers = λ net certificate. refl;
  conform = λ net schedule. refl;
  admit = λ net requests. refl;
  replay = λ net schedule order. refl;
  capture = λ net station file order. refl;
  generate = λ net seed count. refl;
  peaks = λ net certificate schedule order. refl;
  lrq_shape = λ file. refl;
  lrq_bound = λ net. refl;
  lrq_check = λ net certificate. refl;
  of_port = λ net schedule port order. refl;
  witness = λ net name. refl;
  releases = λ net station file. refl;
  fit = λ net schedule. refl;
}
