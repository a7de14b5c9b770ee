use Rattle.std.proofs.Common.{◌++◌, refl}
use Rattle.std.specs.Prelude.{codes, Ok, Err}
use Rattle.ats_network_table.specs.declared.fault.DocumentFault.TheVariants.{Missing, WrongKind}
use Rattle.ats_network_table.specs.declared.key.Key.TheVariants as key
use Rattle.ats_network_table.specs.declared.table.Table.TheVariants.{Flow, Stream}
use Rattle.ats_file_examples.specs.Together.{KeysGoTogether, ends_text, identified, identity_text, path_text}
use Rattle.ats_file_examples.specs.Together.{stream_with}
use Rattle.ats_file_examples.proofs.Parsing.{parsed}
use Rattle.ats_file_examples.proofs.Steps.{document_is}

-- Keys that go together, by computation.

pub keys_go_together : KeysGoTogether
unfolding parsed
keys_go_together = record {
  vlan_alone = document_is (stream_with (ends_text ++ codes "class = 1\nvlan = 5\n"))
      (Err (Missing Stream 1 key.Address)) refl refl;
  address_alone = document_is (stream_with (ends_text ++ codes "class = 1\naddress = \"02:00:00:00:00:01\"\n"))
      (Err (Missing Stream 1 key.Vlan)) refl refl;
  no_class = document_is (stream_with ends_text) (Err (Missing Stream 1 key.Class)) refl refl;
  both_classes = document_is (stream_with (ends_text ++ codes "class = 1\nclasses = [1, 1]\n"))
      (Err (WrongKind Stream 1 key.Classes)) refl refl;
  no_path = document_is (stream_with (codes "class = 1\n")) (Err (Missing Stream 1 key.Path)) refl refl;
  path_and_from = document_is (stream_with (path_text ++ codes "from = \"s1\"\nclass = 1\n"))
      (Err (Missing Stream 1 key.To)) refl refl;
  path_and_ends = document_is (stream_with (path_text ++ ends_text ++ codes "class = 1\n"))
      (Err (WrongKind Stream 1 key.Path)) refl refl;
  flow_no_path = document_is (codes "format = 2\n[[flow]]\nname = \"i\"\nmax_octets = 64\n")
      (Err (Missing Flow 1 key.Path)) refl refl;
  flow_path_and_ends = document_is
      (codes "format = 2\n[[flow]]\nname = \"i\"\nmax_octets = 64\n" ++ path_text ++ ends_text)
      (Err (WrongKind Flow 1 key.Path)) refl refl;
  least_vlan = document_is (stream_with (identity_text (codes "1"))) (Ok (identified 1)) refl refl;
  greatest_vlan = document_is (stream_with (identity_text (codes "4094"))) (Ok (identified 4094)) refl refl;
  vlan_below = document_is (stream_with (identity_text (codes "0"))) (Err (WrongKind Stream 1 key.Vlan)) refl refl;
  vlan_over = document_is (stream_with (identity_text (codes "4095"))) (Err (WrongKind Stream 1 key.Vlan)) refl refl;
}
