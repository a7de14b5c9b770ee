use Rattle.std.specs.Prelude.{ℕ, List, [], ◌∷◌, map, decimal}
use Rattle.ats_csv.specs.Plain.{text_of}
use Rattle.ats_network.specs.Network.{DeclaredNetwork}
use Rattle.ats_network.specs.Senders.{sender_at}
use Rattle.ats_trace.specs.declared.journey.Release.{Release}
use Rattle.ats_schedule.specs.Reading.{header}

-- the fields that a release is written with
abbrev pub fields_of : DeclaredNetwork → Release → List (List ℕ)
fields_of network r = decimal r.at.0 ∷ (sender_at network r.sender).name ∷ decimal r.octets ∷ []

-- the plain text of releases: the header, and a record for each
abbrev pub schedule_text : DeclaredNetwork → List Release → List ℕ
schedule_text network releases = text_of (header ∷ map (fields_of network) releases)
