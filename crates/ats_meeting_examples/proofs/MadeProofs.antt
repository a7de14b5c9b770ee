use Rattle.std.proofs.Common.{refl}
use Rattle.ats_meeting_examples.specs.Made.{ReleasesAreOfEachStream}

-- Made releases by computation.

pub releases_are_of_each_stream : ReleasesAreOfEachStream
releases_are_of_each_stream = record { way = refl; bursts = refl; talker = refl }
