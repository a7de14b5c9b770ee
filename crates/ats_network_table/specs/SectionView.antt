use Rattle.toml.specs.View.{members_view}
use Rattle.ats_network_table.specs.Walk.{Entry}
use Rattle.ats_network_table.specs.declared.section.Section.{Section}

-- the table that a section stands for
abbrev pub entry_of : Section → Entry
entry_of s = record { format = s.format; table = s.table; number = s.number; members = members_view s.slots }
