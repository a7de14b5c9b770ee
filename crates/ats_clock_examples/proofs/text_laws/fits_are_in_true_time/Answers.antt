use Rattle.ats_clock_examples.proofs.FittedProofs.{fits_are_in_true_time}
use Rattle.ats_clock_examples.proofs.text_laws.fits_are_in_true_time.Goals as goal

pub returns : goal.returns
returns c = fits_are_in_true_time
