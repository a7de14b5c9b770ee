use Rattle.ats_answer_law.specs.DueMeaning.{DuesAreMeant}

-- What each law of an answer that is due comes to, both ways.

pub dues_are_meant : DuesAreMeant
dues_are_meant = record {
  shape = (λ is. is, λ is. is);
  show = (λ is. is, λ is. is);
  bound = (λ is. is, λ is. is);
  explain = (λ is. is, λ is. is);
  check = (λ is. is, λ is. is);
  conform = (λ is. is, λ is. is);
  admit = (λ is. is, λ is. is);
  replay = (λ is. is, λ is. is);
  capture = (λ is. is, λ is. is);
  generate = (λ is. is, λ is. is);
  settings = (λ is. is, λ is. is);
  buffers = (λ is. is, λ is. is);
  peaks = (λ is. is, λ is. is);
  lrq_shape = (λ is. is, λ is. is);
  lrq_bound = (λ is. is, λ is. is);
  lrq_check = (λ is. is, λ is. is);
  port_record = (λ is. is, λ is. is);
  witness = (λ is. is, λ is. is);
  releases = (λ is. is, λ is. is);
  fit = (λ is. is, λ is. is);
  words = (λ is. is, λ is. is);
}
