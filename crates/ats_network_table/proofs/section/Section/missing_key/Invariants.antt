use Rattle.std.proofs.Common.{◌≡◌, drop}
use Rattle.std.specs.List.{find}
use Rattle.ats_network_table.specs.Words.{keys_of}
use Rattle.ats_network_table.specs.Walk.{is_missing, missing_key}
use Rattle.ats_network_table.specs.SectionView.{entry_of}
use Rattle.ats_network_table.proofs.section.Section.missing_key.Given as goal

-- the first missing key among those left is the first of all
abbrev pub invariant-loop-key : goal.invariant-loop-key
invariant-loop-key l = record {
  keys : l.key-items ≡ keys_of l.self.format l.self.table;
  first : find (is_missing (entry_of l.self)) (drop l.key-index l.key-items) ≡ missing_key (entry_of l.self);
}
