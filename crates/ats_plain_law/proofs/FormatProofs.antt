use Rattle.ats_plain_law.specs.Formats.{FormatsArePlain}

-- Which texts are not of format 3.
pub formats_are_plain : FormatsArePlain
formats_are_plain = record { before = λ text. ((λ is. is), (λ is. is)) }
