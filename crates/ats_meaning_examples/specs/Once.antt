use Rattle.std.specs.Prelude.{ℕ, List, [], ◌∷◌, codes, None}
use Rattle.ats_streams.specs.Stream.{declared_stream}
use Rattle.ats_network.specs.Network.{DeclaredNetwork, declared_network}
use Rattle.ats_trace.specs.Journey.{Travel}
use Rattle.ats_trace.specs.OneVerdict.{SendsOnce}
use Rattle.ats_trace.specs.declared.journey.Ending.{Ending}
use Rattle.ats_trace.specs.declared.journey.Ending.TheVariants.{Sink, Discard}
use Rattle.ats_trace.specs.HopRecord.{HopRecord}
use Rattle.ats_replay.specs.Laws.{CountsEachOnce}
use Rattle.ats_legal_law.specs.Once.{IsToldOnce}
use Rattle.ats_examples.specs.BrokenRuns.{too_long}
use Rattle.ats_examples.specs.Networks.{fork, line}
use Rattle.ats_examples.specs.Runs.{hop, one_frame}

-- What it comes to that a frame is sent, told of and counted once.

-- the line with a stream of class 6 that has these ports, some of them twice, so that it is no network
abbrev pub line_over : List ℕ → DeclaredNetwork
line_over ports = declared_network line.topology
    (declared_stream (codes "a") ports (6 ∷ 6 ∷ 6 ∷ []) 100000000 12336 64 1522 1000000 None ∷ []) []

-- a frame of this sender, with these records and this ending
abbrev pub frame_of : ℕ → List HopRecord → Ending → Travel
frame_of sender hops ending = record {
  release = record { at = record { 0 = 0 }; sender = sender; octets = 64 };
  hops = hops;
  ending = ending;
  copies = [];
}

-- a frame that its station has sent, and of which nothing more is told
abbrev pub sent_alone : ℕ → Travel
sent_alone sender = frame_of sender (hop 0 0 0 672000 ∷ []) Discard

-- behind such a frame one with three records, which arrives
abbrev pub thrice : List Travel
thrice =
    sent_alone 0
    ∷ frame_of 0
    (hop 0 0 672000 1344000 ∷ hop 2844000 2844000 2844000 3516000 ∷ hop 5016000 5016000 5016000 5688000 ∷ [])
    (Sink (record { 0 = 6188000 }))
    ∷ []

-- frames are sent once by their ports. The second frame here is sent twice by the port that stands twice in its path:
-- by the bridge's, or by the station's
pub record SendingOnceIsMeant : Type 0 where
  pub once : SendsOnce line one_frame
  pub twice_by_bridge : ¬ SendsOnce (line_over (0 ∷ 2 ∷ 2 ∷ [])) thrice
  pub twice_by_station : ¬ SendsOnce (line_over (0 ∷ 0 ∷ 2 ∷ [])) thrice

-- it crosses that port twice, and is handed on once by it, or twice
pub record TellingOnceIsMeant : Type 0 where
  pub crossed_twice : ¬ IsToldOnce (line_over (0 ∷ 2 ∷ 2 ∷ [])) thrice
  pub handed_twice : ¬ IsToldOnce (line_over (0 ∷ 0 ∷ 2 ∷ [])) thrice

-- a frame that is discarded for its size, and arrives
abbrev pub both_ways : ℕ → Travel
both_ways sender = frame_of sender (hop 0 0 0 672000 ∷ too_long 2172000 ∷ []) (Sink (record { 0 = 2172000 }))

-- a frame of which nothing more is told than that it was sent is not counted. One that arrives and is discarded counts
-- twice, which beside one that is not counted is right together, and not for each. And of a sender that is none, a
-- frame that is not counted is wrong together
pub record CountingOnceIsMeant : Type 0 where
  pub lost : ¬ CountsEachOnce line (sent_alone 0 ∷ [])
  pub counted_twice : ¬ CountsEachOnce line (both_ways 0 ∷ [])
  pub not_for_each : ¬ CountsEachOnce fork (both_ways 0 ∷ sent_alone 1 ∷ [])
  pub not_together : ¬ CountsEachOnce line (sent_alone 7 ∷ [])

pub record OnceIsMeant : Type 0 where
  pub sending : SendingOnceIsMeant
  pub telling : TellingOnceIsMeant
  pub counting : CountingOnceIsMeant
