-- Records of which no more is kept than a run goes by.
use Rattle.std.specs.Prelude.{◌≡◌, ℕ, ◌+◌, ◌<◌, ◌≤◌, List, [], ◌++◌, length, map, All, slice_index_or}
use Rattle.std.specs.List.{range_with_len, zip}
use Rattle.ats_network.specs.Network.{DeclaredNetwork}
use Rattle.ats_trace.specs.Stored.{AreFirsts}
use Rattle.ats_trace.specs.declared.journey.Ending.TheVariants.{Discard}
use Rattle.ats_trace.specs.declared.journey.Release.{Release}
use Rattle.ats_trace.specs.declared.run.TheConstants.{MAX_FRAMES, MAX_HOPS}
use Rattle.ats_run_records.specs.Progress.{Ledger, Progress, copies_opened, trunks_opened}
use Rattle.ats_run_records.specs.Track.{Along}
use Rattle.ats_run_records.specs.declared.tracks.Tracks.{Tracks}

-- for numbers past the last frame
abbrev pub no_release : Release
no_release = record { at = record { 0 = 0 }; sender = 0; octets = 0 }

-- the numbers of the frames of all rows, where there are so many frames, and the copies are of these
abbrev pub frames_of : ℕ → List ℕ → List ℕ
frames_of frames copies = range_with_len 0 frames ++ copies

-- what the number of a frame and one of its legs tell
abbrev pub progress_by : List Release → ℕ × Along → Progress
progress_by releases row = record {
  frame = row.0;
  leg = row.1.leg;
  release = slice_index_or releases row.0 no_release;
  room = row.1.room;
  hops = row.1.hops;
  ending = row.1.ending;
}

-- what is told of all legs, where the first copies of each frame have these places
abbrev pub ledger_of : List Release → List ℕ → List ℕ → List Along → Ledger
ledger_of releases firsts copies tracks = record {
  legs = map (progress_by releases) (zip (frames_of (length releases) copies) tracks);
  firsts = firsts;
}

-- each row has a frame, and the copies of each frame have their rows
pub record AreKept (releases : List Release) (firsts copies : List ℕ) (tracks : List Along) : Type 0 where
  pub few : length releases ≤ MAX_FRAMES
  pub few_legs : length tracks ≤ MAX_HOPS
  pub framed : length releases + length copies ≡ length tracks
  pub frames : All (λ frame. frame < length releases) copies
  pub numbered : length firsts ≡ length releases
  pub copied : AreFirsts (length firsts) (length tracks) firsts

-- a leg along which nothing has happened
abbrev pub begun : Progress → Along
begun leg = record { leg = leg.leg; room = leg.room; hops = []; ending = Discard }

-- legs of frames are added, and for each the number of its frame
pub record AreBegun (legs : List Progress) (old new : Tracks) : Type 0 where
  pub begun : new.legs.items ≡ old.legs.items ++ map begun legs
  pub frames : new.frames.items ≡ old.frames.items ++ map (λ (leg : Progress). leg.frame) legs

-- those of all frames with these releases: first the trunks, and then the copies, whose frames are numbered
pub record AreAllBegun (network : DeclaredNetwork) (releases : List Release) (tracks : Tracks) : Type 0 where
  pub legs : tracks.legs.items
      ≡ map begun (trunks_opened network 0 releases) ++ map begun (copies_opened network 0 releases)
  pub frames : tracks.frames.items ≡ map (λ (leg : Progress). leg.frame) (copies_opened network 0 releases)
