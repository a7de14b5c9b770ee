use Rattle.std.specs.Prelude.{ℕ, List, ◌++◌, codes, decimal}
use Rattle.ats_network_table.specs.Words.{table_text, key_text}
use Rattle.ats_network_table.specs.declared.table.Table.{Table}
use Rattle.ats_network_table.specs.declared.fault.DocumentFault.{DocumentFault}
use Rattle.ats_network_table.specs.declared.fault.DocumentFault.TheVariants.{NotToml, Missing, Unknown, WrongKind}
use Rattle.ats_network_table.specs.declared.fault.DocumentFault.TheVariants.{Limit}

-- a table and its number
abbrev pub place_text : Table → ℕ → List ℕ
place_text t n = table_text t ++ codes " " ++ decimal n

-- the words for a fault, with its place
abbrev pub fault_text : DocumentFault → List ℕ
fault_text NotToml = codes "not-toml"
fault_text (Missing t n k) = codes "missing " ++ place_text t n ++ codes " " ++ key_text k
fault_text (Unknown t n) = codes "unknown " ++ place_text t n
fault_text (WrongKind t n k) = codes "kind " ++ place_text t n ++ codes " " ++ key_text k
fault_text (Limit t) = codes "limit " ++ table_text t
