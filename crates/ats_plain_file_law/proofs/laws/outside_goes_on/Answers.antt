use Rattle.ats_plain_file_law.proofs.OutsideProofs.{outside_goes_on}
use Rattle.ats_plain_file_law.proofs.laws.outside_goes_on.Goals as goal

pub returns : goal.returns
returns g c = outside_goes_on g.F.Files.told g.F.Files.faults
