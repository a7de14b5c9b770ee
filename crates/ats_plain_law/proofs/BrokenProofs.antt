use Rattle.ats_plain_law.specs.Broken.{BrokenArePlain}

-- Which frame breaks a bucket or a size.

pub broken_are_plain : BrokenArePlain
broken_are_plain = record {
  first = λ network releases frame. (
    (λ is. (is.within, is.before, is.broken)),
    (λ is. record { within = is.0; before = is.1; broken = is.2 }),
  );
  size = λ network releases frame. ((λ is. (is.first, is.size)), (λ is. record { first = is.0; size = is.1 }));
  bucket = λ network releases since frame. (
    (λ is. (is.first, is.size, is.bucket)),
    (λ is. record { first = is.0; size = is.1; bucket = is.2 }),
  );
}
