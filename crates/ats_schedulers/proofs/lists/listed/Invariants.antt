use Rattle.std.proofs.Common.{◌≡◌, map, take}
use Rattle.std.specs.List.{flat_map, range_with_len}
use Rattle.ats_schedulers.specs.Schedulers.{first_of, stream_members}
use Rattle.ats_schedulers.proofs.lists.listed.Given as goal

-- the schedulers of the streams so far, and their first places
abbrev pub invariant-loop-stream : goal.invariant-loop-stream
invariant-loop-stream l = record {
  all : l.members.items ≡ flat_map (stream_members l.topology) (take l.stream-index l.streams);
  places : l.firsts.items ≡ map (first_of l.topology l.streams) (range_with_len 0 l.stream-index);
}
