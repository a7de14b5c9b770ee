use Rattle.std.specs.Prelude.{ℕ, List, [], ◌∷◌, map, codes, decimal, Option, Some, None}
use Rattle.std.specs.Option.{option_map}
use Rattle.ats_topology.specs.Topology.{node_at}
use Rattle.ats_port_names.specs.PortName.{port_name}
use Rattle.ats_csv.specs.Plain.{text_of}
use Rattle.ats_network.specs.Network.{DeclaredNetwork}
use Rattle.ats_network.specs.Senders.{sender_at}
use Rattle.ats_settings.specs.declared.setting.Setting.{Setting}
use Rattle.ats_settings.specs.declared.setting.Shaping.{Shaping}

-- the fields of the first record
unfoldable pub header : List (List ℕ)
header =
    codes "bridge" ∷ codes "received_from" ∷ codes "class" ∷ codes "stream" ∷ codes "rate_bps" ∷ codes "burst_bits"
    ∷ codes "max_octets" ∷ codes "residence_ns" ∷ codes "sent_to" ∷ codes "class_there" ∷ []

-- a number in decimal, or nothing where there is none
abbrev pub number_text : Option ℕ → List ℕ
number_text None = []
number_text (Some n) = decimal n

-- the fields that a setting is written with: numbers of nodes, ports and senders by their names, and nothing of a
-- scheduler where there is none
abbrev pub fields_of : DeclaredNetwork → Setting → List (List ℕ)
fields_of network s =
    (node_at network.topology.nodes s.bridge).name
    ∷ port_name network.topology s.received_from
    ∷ decimal s.class
    ∷ (sender_at network s.sender).name
    ∷ number_text (option_map (λ (x : Shaping). x.rate_bps) s.scheduler)
    ∷ number_text (option_map (λ (x : Shaping). x.burst_bits) s.scheduler)
    ∷ decimal s.max_octets
    ∷ number_text (option_map (λ (x : Shaping). x.residence_ns) s.scheduler)
    ∷ port_name network.topology s.sent_to
    ∷ decimal s.class_there
    ∷ []

-- the plain text of settings: the header, and a record for each of them
abbrev pub settings_text : DeclaredNetwork → List Setting → List ℕ
settings_text network settings = text_of (header ∷ map (fields_of network) settings)
