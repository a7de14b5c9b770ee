use Rattle.std.proofs.Common.{◌≡◌, ◌+◌, length, drop}
use Rattle.ats_network_toml.specs.Views.{tables_of}
use Rattle.ats_network_toml.specs.Reading.{entries_from}
use Rattle.ats_network_toml.proofs.Joined.{behind}
use Rattle.ats_network_toml.proofs.arrays.entries_of.Given as goal

-- there is an entry for each table before, and the entries left, behind those read, are all entries
abbrev pub invariant-loop-place : goal.invariant-loop-place
invariant-loop-place g l = record {
  few : length l.entries.items ≡ l.place;
  read : behind l.entries.items (entries_from g.E.FromSection.reads l.format l.table (l.place + 1)
      (drop l.place (tables_of l.tables))) ≡ entries_from g.E.FromSection.reads l.format l.table 1 (tables_of l.tables);
}
