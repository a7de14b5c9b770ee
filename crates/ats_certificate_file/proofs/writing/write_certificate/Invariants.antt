use Rattle.std.proofs.Common.{◌≡◌, take}
use Rattle.ats_certificate_file.specs.Text.{certificate_text}
use Rattle.ats_certificate_file.proofs.writing.write_certificate.Given as goal

abbrev pub invariant-loop-row : goal.invariant-loop-row
invariant-loop-row l = l.out.items ≡ certificate_text l.topology (take l.row-index l.certificate)
