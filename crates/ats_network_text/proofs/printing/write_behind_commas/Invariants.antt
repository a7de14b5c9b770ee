use Rattle.std.proofs.Common.{◌≡◌, ◌++◌, take}
use Rattle.ats_network_text.specs.Text.{behind_commas}
use Rattle.ats_network_text.proofs.printing.write_behind_commas.Given as goal

-- the text has the classes so far
abbrev pub invariant-loop-class : goal.invariant-loop-class
invariant-loop-class l = l.out.items ≡ l.initial.out.items ++ behind_commas (take l.class-index l.classes)
