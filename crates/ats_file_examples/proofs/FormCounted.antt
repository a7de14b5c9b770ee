use Rattle.std.proofs.Common.{◌++◌, refl}
use Rattle.std.specs.Prelude.{codes, Err}
use Rattle.ats_network_table.specs.declared.fault.DocumentFault.TheVariants as form
use Rattle.ats_network_table.specs.declared.key.Key.TheVariants as key
use Rattle.ats_network_table.specs.declared.table.Table.TheVariants as table
use Rattle.ats_file_examples.specs.Network.{FormIsCounted}
use Rattle.ats_file_examples.specs.NetworkText.{network_text}
use Rattle.ats_file_examples.proofs.Parsing.{parsed}
use Rattle.ats_file_examples.proofs.Steps.{document_is}

-- Faults of form behind many tables, by computation.

pub form_is_counted : FormIsCounted
unfolding parsed
form_is_counted = record {
  station = document_is (network_text ++ codes "[[station]]\n") (Err (form.Missing table.Station 5 key.Name)) refl refl;
  bridge = document_is (network_text ++ codes "[[bridge]]\nname = \"b4\"\n")
      (Err (form.Missing table.Bridge 4 key.ProcessingMinNs)) refl refl;
  link = document_is
      (network_text ++ codes "[[link]]\na = \"s5\"\nb = \"b3\"\nmbps = \"1\"\npropagation_ns = 1\n")
      (Err (form.WrongKind table.Link 7 key.Mbps)) refl refl;
  stream = document_is (network_text ++ codes "[[stream]]\nname = \"w\"\nto = \"s1\"\n")
      (Err (form.Missing table.Stream 5 key.From)) refl refl;
  flow = document_is
      (network_text ++ codes "[[flow]]\nname = \"i\"\nfrom = \"s1\"\nto = \"s2\"\nmax_octets = 64\nx = 0\n")
      (Err (form.Unknown table.Flow 4)) refl refl;
}
