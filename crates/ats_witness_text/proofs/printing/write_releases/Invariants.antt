use Rattle.std.proofs.Common.{◌≡◌, ◌++◌, take}
use Rattle.std.specs.List.{flat_map}
use Rattle.ats_witness_text.specs.Text.{release_line}
use Rattle.ats_witness_text.proofs.printing.write_releases.Given as goal

-- the text has the lines of the releases so far
abbrev pub invariant-loop-release : goal.invariant-loop-release
invariant-loop-release l = l.out.items
    ≡ l.initial.out.items ++ flat_map (release_line l.network) (take l.release-index l.releases)
