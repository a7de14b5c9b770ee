use Rattle.std.specs.Prelude.{◌≡◌, ◌↔◌, ℕ, zero, suc, ◌<◌, List, [], ◌∷◌, length, map, take}
use Rattle.std.specs.Prelude.{slice_index_or}
use Rattle.ats_num.specs.Wire.{IsFrameSize}
use Rattle.ats_streams.specs.declared.branch.Branch.{Branch}
use Rattle.ats_network.specs.Network.{DeclaredNetwork, senders_of}
use Rattle.ats_network.specs.Senders.{sender_at}
use Rattle.ats_group.specs.declared.verdict.Verdict.TheVariants.{Eligible}
use Rattle.ats_trace.specs.Journey.{AreCopies, IsJourney, IsOfStream, IsWay, Travel, legs_in, no_leg, trunk_at}
use Rattle.ats_trace.specs.HopRecord.{HopRecord}
use Rattle.ats_trace.specs.Stored.{leg_in}
use Rattle.ats_trace.specs.declared.journey.Ending.TheVariants.{Discard}

-- leg 0 of a frame is its trunk, and its copies are the legs from 1 on; where there is no leg with a number, it has no
-- record and counts as discarded
pub record LegsAreTraced : Type 0 where
  pub none : no_leg ≡ record { hops = []; ending = Discard }
  pub all : (j : Travel) → legs_in j ≡ record { hops = j.hops; ending = j.ending } ∷ j.copies
  pub trunk : (j : Travel) → leg_in j zero ≡ record { hops = j.hops; ending = j.ending }
  pub copy : (j : Travel) (n : ℕ)
      → leg_in j (suc n) ≡ slice_index_or j.copies n (record { hops = []; ending = Discard })

-- the ports of a trunk are those in front of the first branch's, and all where there is no branch
abbrev pub TrunksAreTraced : Type 0
TrunksAreTraced = (network : DeclaredNetwork) (i : ℕ) → trunk_at network i
    ≡ take (slice_index_or (map (λ (b : Branch). b.first) (sender_at network i).branches) 0
    (length (sender_at network i).ports)) (sender_at network i).ports

-- a journey is that of a sender that there is, with the octets of a frame: along the trunk it has a first record, of
-- the time of its release, when the frame is eligible too, and makes its way from there; and so do its copies
abbrev pub OneJourneyIsTraced : Type 0
OneJourneyIsTraced = (network : DeclaredNetwork) (j : Travel) → IsJourney network j
    ↔ ((j.release.sender < length (senders_of network)) × IsFrameSize j.release.octets
    × ((first : HopRecord) × (rest : List HopRecord) × (j.hops ≡ first ∷ rest)
    × (first.arrival ≡ j.release.at) × (first.verdict ≡ Eligible j.release.at))
    × IsWay (trunk_at network j.release.sender) j.hops j.ending
    × AreCopies (sender_at network j.release.sender) j)

-- the first senders are the streams, in their order, and a frame of one of these is one of a stream
abbrev pub StreamFramesAreTraced : Type 0
StreamFramesAreTraced = (network : DeclaredNetwork) (j : Travel) → IsOfStream network j
    ↔ (j.release.sender < length network.streams)

pub record JourneysAreTraced : Type 0 where
  pub legs : LegsAreTraced
  pub trunks : TrunksAreTraced
  pub journey : OneJourneyIsTraced
  pub of_stream : StreamFramesAreTraced
