use Rattle.std.specs.Prelude.{ℕ, ◌+◌, ◌-◌, List, [], ◌∷◌, ◌++◌, length, map, slice_index_or, slice_set, Some, None}
use Rattle.std.specs.List.{range_with_len}
use Rattle.ats_num.specs.declared.time.Ps.{Ps}
use Rattle.ats_streams.specs.Branches.{leg_at}
use Rattle.ats_network.specs.Network.{DeclaredNetwork}
use Rattle.ats_network.specs.Senders.{sender_at}
use Rattle.ats_group.specs.declared.verdict.Verdict.TheVariants.{Size}
use Rattle.ats_trace.specs.Journey.{Leg, Travel, legs_at}
use Rattle.ats_trace.specs.Stored.{gathered}
use Rattle.ats_trace.specs.declared.journey.Release.{Release}
use Rattle.ats_trace.specs.HopRecord.{HopRecord}
use Rattle.ats_trace.specs.declared.journey.Ending.{Ending}
use Rattle.ats_trace.specs.declared.journey.Ending.TheVariants.{Discard}

-- what has happened to a frame along a leg so far: the frame's number, that of the leg among the legs of its sender,
-- the frame's release, how many hop records there may be along the leg, those that there are, and how it ended; as long
-- as it has not, `Discard`
pub record Progress : Type 0 where
  pub frame : ℕ
  pub leg : ℕ
  pub release : Release
  pub room : ℕ
  pub hops : List HopRecord
  pub ending : Ending

-- what has happened to all frames so far: a row for each leg, first those of the trunks, frame by frame, and then those
-- of the copies, frame by frame; and for each frame the place of its first copy among the rows
pub record Ledger : Type 0 where
  pub legs : List Progress
  pub firsts : List ℕ

-- a leg of a frame along which nothing has happened yet
abbrev pub unmoved : ℕ → ℕ → Release → ℕ → Progress
unmoved frame leg release room =
    record { frame = frame; leg = leg; release = release; room = room; hops = []; ending = Discard }

-- for numbers past the last row
abbrev pub no_progress : Progress
no_progress = unmoved 0 0 (record { at = record { 0 = 0 }; sender = 0; octets = 0 }) 0

-- what has happened to the leg with a row
abbrev pub progress_at : List Progress → ℕ → Progress
progress_at legs row = slice_index_or legs row no_progress

-- a leg of a frame with this release, along which there may be a hop record for each of its ports
abbrev pub leg_opened : DeclaredNetwork → ℕ → Release → ℕ → Progress
leg_opened network frame release leg =
    unmoved frame leg release (length (leg_at (legs_at network release.sender) leg))

-- how many copies a frame has: one for each branch of its sender
abbrev pub copies_count : DeclaredNetwork → Release → ℕ
copies_count network release = length (sender_at network release.sender).branches

-- these copies of the frame with a number
abbrev pub copies_of_frame : DeclaredNetwork → ℕ → Release → List Progress
copies_of_frame network frame release =
    map (leg_opened network frame release) (range_with_len 1 (copies_count network release))

-- the trunks of frames with these releases, and their copies, where the frames are numbered from this number on
abbrev pub trunks_opened : DeclaredNetwork → ℕ → List Release → List Progress
trunks_opened network frame [] = []
trunks_opened network frame (r ∷ releases) =
    leg_opened network frame r 0 ∷ trunks_opened network (frame + 1) releases

abbrev pub copies_opened : DeclaredNetwork → ℕ → List Release → List Progress
copies_opened network frame [] = []
copies_opened network frame (r ∷ releases) =
    copies_of_frame network frame r ++ copies_opened network (frame + 1) releases

-- the place of the first copy of each, where that of the first frame is this one
abbrev pub firsts_from : DeclaredNetwork → ℕ → List Release → List ℕ
firsts_from network first [] = []
firsts_from network first (r ∷ releases) = first ∷ firsts_from network (first + copies_count network r) releases

-- nothing has happened yet to frames with these releases
abbrev pub opened : DeclaredNetwork → List Release → Ledger
opened network releases = record {
  legs = trunks_opened network 0 releases ++ copies_opened network 0 releases;
  firsts = firsts_from network (length releases) releases;
}

-- a leg stands so
abbrev pub with_leg : Ledger → ℕ → Progress → Ledger
with_leg ledger row progress = record ledger { legs = slice_set ledger.legs row progress }

-- one hop record more
abbrev pub with_hop : Progress → HopRecord → Progress
with_hop progress hop = record progress { hops = progress.hops ++ hop ∷ [] }

-- for a leg without hop records
abbrev pub no_hop : HopRecord
no_hop = record { arrival = record { 0 = 0 }; verdict = Size; sent = None }

-- the last hop record
abbrev pub last_hop : Progress → HopRecord
last_hop progress = slice_index_or progress.hops (length progress.hops - 1) no_hop

-- the last hop record tells when a transmission starts and ends
abbrev pub with_sent : Progress → Ps → Ps → Progress
with_sent progress start end = record progress {
  hops = slice_set progress.hops (length progress.hops - 1)
      (record (last_hop progress) { sent = Some (start, end) });
}

-- it has ended so
abbrev pub with_ending : Progress → Ending → Progress
with_ending progress ending = record progress { ending = ending }

-- what is told of a leg in the end: the frame's release, its records, and how it ended
abbrev pub told_of : Progress → Release × Leg
told_of progress = (progress.release, record { hops = progress.hops; ending = progress.ending })

-- the run that they make
abbrev pub finished : Ledger → List Travel
finished ledger = gathered (map told_of ledger.legs) ledger.firsts
