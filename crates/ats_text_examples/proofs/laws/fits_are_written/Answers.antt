use Rattle.ats_text_examples.proofs.FitsWritten.{fits_are_written}
use Rattle.ats_text_examples.proofs.laws.fits_are_written.Goals as goal

pub returns : goal.returns
returns c = fits_are_written
