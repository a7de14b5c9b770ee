use Rattle.std.specs.Prelude.{◌≡◌, ℕ, List, pos, if◌then◌else◌, None, Some, All, Result, Ok}
use Rattle.std.specs.Str.{bytes_eq}
use Rattle.toml.specs.Data.{Data, Members, as_array, get_member, integer, member, no_members}
use Rattle.ats_num.specs.Failure.{◌>>=◌}
use Rattle.ats_network_table.specs.Words.{key_text}
use Rattle.ats_network_table.specs.declared.key.Key.TheVariants as key
use Rattle.ats_network_table.specs.declared.fault.DocumentFault.{DocumentFault}
use Rattle.ats_network_table.specs.declared.format.Format.TheVariants.{Three}
use Rattle.ats_network_toml.specs.Document.{DeclaredDocument}
use Rattle.ats_network_toml.specs.Reading.{document_of, tree_of}
use Rattle.ats_network_file_law.specs.FormFaults.{tables_told, top_of}

-- a stream's table says nothing that only format 3 can: it has no `paths`, and what stands with `to` is no array
pub record SaysNothingNew (stream : Members) : Type 0 where
  pub paths : get_member (key_text key.Paths) stream ≡ None
  pub to : (d : Data) → get_member (key_text key.To) stream ≡ Some d → as_array d ≡ None

-- a bridge's table says nothing that only format 3 can: it has no clock
pub record SaysNoClock (bridge : Members) : Type 0 where
  pub deviation : get_member (key_text key.ClockPpm) bridge ≡ None
  pub step : get_member (key_text key.ClockStepPs) bridge ≡ None

-- a top table with another number of the format
abbrev pub with_format : ℕ → Members → Members
with_format n no_members = no_members
with_format n (member text d ms) =
    member text (if bytes_eq (key_text key.Format) text then integer (pos n) else d) (with_format n ms)

-- a text of format 3, and one with the same tables in format 2, of which no stream and no bridge says what only format
-- 3 can, and which has no tables for each port
pub record AreOfOneMeaning (three two : List ℕ) : Type 0 where
  pub tree : Members
  pub in_three : tree_of three ≡ Some tree
  pub in_two : tree_of two ≡ Some (with_format 2 tree)
  pub format : get_member (key_text key.Format) tree ≡ Some (integer (pos 3))
  pub nothing_new : All SaysNothingNew (tables_told (top_of tree) key.Stream)
  pub no_clocks : All SaysNoClock (tables_told (top_of tree) key.Bridge)
  pub no_streams_for_ports : get_member (key_text key.LinkLocal) tree ≡ None
  pub no_flows_for_ports : get_member (key_text key.LinkLocalFlow) tree ≡ None

-- what is declared, as in format 3
abbrev pub in_format_three : Result DeclaredDocument DocumentFault → Result DeclaredDocument DocumentFault
in_format_three read = read >>= λ d. Ok (record d { format = Three })

-- they declare the same but for the format, or have the same first fault
abbrev pub FormatThreeIsFormatTwo : Type 0
FormatThreeIsFormatTwo =
    (three two : List ℕ) → AreOfOneMeaning three two → document_of three ≡ in_format_three (document_of two)
