use Rattle.std.specs.Prelude.{◌≡◌, ℕ, ◌+◌, List, [], ◌∷◌, codes, Some, None, Ok}
use Rattle.ats_topology.specs.Topology.{DeclaredTopology, topology_of}
use Rattle.ats_streams.specs.Stream.{DeclaredStream, declared_stream}
use Rattle.ats_streams.specs.declared.traffic.Declared.{Declared}
use Rattle.ats_network.specs.Network.{DeclaredNetwork, declared_network}
use Rattle.ats_network.specs.Path.{IsValidPath}
use Rattle.ats_network_table.specs.declared.format.Format.TheVariants.{Two}
use Rattle.ats_network_file.specs.Senders.{legs_in, path_in}
use Rattle.ats_network_file.specs.declared.senders.Place.{Place}
use Rattle.ats_network_file.specs.declared.senders.SenderTable.TheVariants as entry_of
use Rattle.ats_network_toml.specs.Document.{path}
use Rattle.ats_group.specs.Group.{Offer}
use Rattle.ats_group.specs.declared.verdict.Verdict.TheVariants.{Eligible, Late, Size}
use Rattle.ats_lrq.specs.Fold.{first, verdicts_of}
use Rattle.ats_trace.specs.Journey.{Travel}
use Rattle.ats_trace.specs.Run.{HasReleases}
use Rattle.ats_trace.specs.Talker.{KeepsBuckets}
use Rattle.ats_trace.specs.declared.journey.Ending.TheVariants.{Discard}
use Rattle.ats_trace.specs.HopRecord.{HopRecord}
use Rattle.ats_trace.specs.declared.journey.Release.{Release}
use Rattle.ats_checker.specs.InTime.{ArrivesInTime}
use Rattle.ats_gen.specs.Made.{gen_fault}
use Rattle.ats_gen.specs.declared.fault.GenFault.TheVariants.{Limit}
use Rattle.ats_replay.specs.Totals.{totals_of}
use Rattle.ats_examples.specs.Networks.{fork, line_links, line_nodes, link, over_two, station}
use Rattle.ats_examples.specs.Rows.{line_rows}
use Rattle.ats_examples.specs.Runs.{first_goes_first, hop, sunk}

-- Talkers, journeys and runs at edges of what is asked of them.

abbrev pub release : ℕ → ℕ → ℕ → Release
release at sender octets = record { at = record { 0 = at }; sender = sender; octets = octets }

-- a frame of each stream of the fork; the one of the second, which begins at the third station, is an octet too long
abbrev pub second_is_long : List Release
second_is_long = release 0 0 1522 ∷ release 0 1 1523 ∷ []

-- a talker answers for the frames of its own streams alone
pub record TalkersAreApart : Type 0 where
  pub other : KeepsBuckets fork second_is_long 0
  pub own : ¬ KeepsBuckets fork second_is_long 2

-- the stream of the line with this deadline in nanoseconds, and a frame of it that is released at one time and arrives
-- at another
abbrev pub until : ℕ → DeclaredStream
until deadline_ns =
    declared_stream (codes "a") (0 ∷ 2 ∷ []) (6 ∷ 6 ∷ []) 100000000 12336 64 1522 deadline_ns None

abbrev pub arrives : ℕ → ℕ → Travel
arrives released arrival =
    sunk released 0 1522
    (hop released released released (released + 12336000)
    ∷ hop (released + 13836000) (released + 13836000) (released + 13836000) (released + 26172000) ∷ []) arrival

-- and one that a bridge discards
abbrev pub ends_early : Travel
ends_early = record { release = release 0 0 1522; hops = []; ending = Discard; copies = [] }

-- a frame arrives in time at the last moment of its bounds and of its deadline, counted from its release; not 1 ps
-- later, not where the deadline is 1 ns shorter, and never where it is discarded
pub record TimeIsOver : Type 0 where
  pub at_last : ArrivesInTime line_rows (until 26672) (arrives 0 26672000)
  pub since : ArrivesInTime line_rows (until 26672) (arrives 7 26672007)
  pub deadline : ¬ ArrivesInTime line_rows (until 26671) (arrives 0 26672000)
  pub bounds : ¬ ArrivesInTime line_rows (until 1000000) (arrives 0 26672001)
  pub discarded : ¬ ArrivesInTime line_rows (until 1000000) ends_early

-- releases have their order, also at one time
pub record ReleasesAreInOrder : Type 0 where
  pub so : HasReleases (release 0 0 1522 ∷ release 0 1 1522 ∷ []) first_goes_first
  pub turned : ¬ HasReleases (release 0 1 1522 ∷ release 0 0 1522 ∷ []) first_goes_first

-- a frame that was sent from two nodes, and got this verdict at the third
abbrev pub ends_third : HopRecord → List Travel
ends_third last =
    record {
      release = release 0 0 1522;
      hops = hop 0 0 0 12336000 ∷ hop 13836000 13836000 13836000 26172000 ∷ last ∷ [];
      ending = Discard;
      copies = [];
    }
    ∷ []

-- why a frame ended is told by its last verdict
pub record LastVerdictCounts : Type 0 where
  pub late : totals_of over_two (ends_third
      (record { arrival = record { 0 = 27672000 }; verdict = Late (record { 0 = 90000000 }); sent = None }))
      ≡ record { frames = 1; sunk = 0; late = 1; size = 0 }
  pub size : totals_of over_two (ends_third (record { arrival = record { 0 = 27672000 }; verdict = Size; sent = None }))
      ≡ record { frames = 1; sunk = 0; late = 0; size = 1 }

-- a stream of 50 Mb/s with 64 to 900 octets, and frames of it
abbrev pub spaced : ℕ → Declared
spaced member = record { rate = 50000000; burst_bits = 8000; min_octets = 64; max_octets = 900 }

abbrev pub offer : ℕ → ℕ → Offer
offer arrival octets = record { member = 0; arrival = arrival; octets = octets }

-- a frame that is too long moves nothing: the next is eligible at once, when the rate has given the 960 bits of the
-- first
pub record LongMovesNothing : Type 0 where
  pub verdicts : verdicts_of spaced 1000000 first (offer 0 100 ∷ offer 1 901 ∷ offer 19200000 64 ∷ [])
      ≡ Eligible (record { 0 = 0 }) ∷ Size ∷ Eligible (record { 0 = 19200000 }) ∷ []
  pub waits : verdicts_of spaced 1000000 first (offer 0 100 ∷ offer 1 901 ∷ offer 19199999 64 ∷ [])
      ≡ Eligible (record { 0 = 0 }) ∷ Size ∷ Eligible (record { 0 = 19200000 }) ∷ []

-- two stations and a link
abbrev pub pair : DeclaredTopology
pair = topology_of (station (codes "a") ∷ station (codes "b") ∷ []) (link (codes "a") (codes "b") ∷ [])

-- the first stream of a file, and the first flow
abbrev pub first_stream : Place
first_stream = record { table = entry_of.Stream; number = 1 }

abbrev pub first_flow : Place
first_flow = record { table = entry_of.Flow; number = 1 }

-- a path may be one port
pub record PathsAreShort : Type 0 where
  pub valid : IsValidPath pair (0 ∷ [])
  pub stream : legs_in Two pair first_stream (path (codes "a" ∷ codes "b" ∷ []) ∷ [])
      ≡ Ok (record { ports = 0 ∷ []; branches = [] })
  pub flow : path_in Two pair first_flow (path (codes "b" ∷ codes "a" ∷ [])) ≡ Ok (1 ∷ [])

-- a stream of 1 bit per second over the line, whose frames of 10,000 bits take 10^16 ps each
abbrev pub slow : DeclaredNetwork
slow = declared_network (topology_of line_nodes line_links)
    (declared_stream (codes "a") (0 ∷ 2 ∷ []) (6 ∷ 6 ∷ []) 1 10000 1230 1230 1000000 None ∷ []) []

-- the eleventh is released at 10^17 ps, which is not over
pub record LastReleaseIsMade : Type 0 where
  pub at_last : gen_fault slow 7 11 ≡ None
  pub over : gen_fault slow 7 12 ≡ Some Limit

pub record RunsAreAtEdges : Type 0 where
  pub talkers : TalkersAreApart
  pub time : TimeIsOver
  pub releases : ReleasesAreInOrder
  pub totals : LastVerdictCounts
  pub spacing : LongMovesNothing
  pub paths : PathsAreShort
  pub made : LastReleaseIsMade
