use Rattle.std.proofs.Common.{refl}
use Rattle.ats_text_examples.specs.Asked.{RequestsAreRead}

-- A request file by computation.

pub requests_are_read : RequestsAreRead
requests_are_read = record { read = refl; unknown = refl; short = refl }
