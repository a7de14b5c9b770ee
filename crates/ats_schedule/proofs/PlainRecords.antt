-- The records that are written are plain.
use Rattle.std.proofs.Common.{◌^◌, ◌<◌, [], ◌∷◌}
use Rattle.std.proofs.Common.{refl}
use Rattle.std.specs.Prelude.{IsTrue, decimal}
use Rattle.std.specs.List.{All}
use Rattle.std.proofs.lemmas.List.Elements.{All-cons, All-nil}
use Rattle.ats_num.specs.Name.{is_name}
use Rattle.ats_network.specs.Network.{DeclaredNetwork}
use Rattle.ats_network.specs.Senders.{sender_at}
use Rattle.ats_trace.specs.declared.journey.Release.{Release}
use Rattle.ats_csv.proofs.PlainFields.{plain_name, plain_number, plain_words}
use Rattle.ats_csv.specs.Plain.{IsPlain, IsPlainByte}
use Rattle.ats_schedule.specs.Reading.{header}
use Rattle.ats_schedule.specs.Text.{fields_of}

-- the fields of a release are plain
pub plain_release : (network : DeclaredNetwork) (r : Release) → IsTrue (is_name (sender_at network r.sender).name)
    → r.at.0 < 10 ^ 36 → r.octets < 10 ^ 36 → IsPlain (fields_of network r)
plain_release network r named timely sized =
    let name = (sender_at network r.sender).name in
    let octets = decimal r.octets ∷ [] in
    record {
      bytes = All-cons (All IsPlainByte) (decimal r.at.0) (name ∷ octets) (plain_number r.at.0 timely)
          (All-cons (All IsPlainByte) name octets (plain_name name named)
          (All-cons (All IsPlainByte) (decimal r.octets) [] (plain_number r.octets sized) (All-nil (All IsPlainByte))));
      some = λ e. cc e;
      visible = λ e. cc e;
    }

-- and those of the header
pub plain_header : IsPlain header
unfolding header
plain_header = record {
  bytes = plain_words header refl;
  some = λ e. cc e;
  visible = λ e. cc e;
}
