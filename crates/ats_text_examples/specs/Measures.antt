use Rattle.std.specs.Prelude.{◌≡◌, ℕ, ◌+◌, ◌-◌, ◌*◌, ◌≤◌, ◌<◌, ◌⊎◌, List, [], ◌∷◌, All, Contains, codes, Some, None}
use Rattle.std.specs.Prelude.{slice_get, Option}
use Rattle.std.specs.Option.{option_map}
use Rattle.ats_num.specs.declared.time.Ps.{Ps}
use Rattle.ats_num.specs.declared.time.TheConstants.{PS_PER_NS}
use Rattle.ats_streams.specs.Stream.{DeclaredStream, declared_stream, with_burst}
use Rattle.ats_network.specs.Network.{DeclaredNetwork, IsNetwork, declared_network}
use Rattle.ats_network.specs.Sender.{stream_sender}
use Rattle.ats_lrq.specs.Narrow.{narrowed}
use Rattle.ats_certificate.specs.Certificate.{Holds, bound_on}
use Rattle.ats_certificate.specs.declared.row.Row.{Row}
use Rattle.ats_tally.specs.Delays.{sums_for}
use Rattle.ats_tally.specs.declared.reason.Reason.{Reason}
use Rattle.ats_bound.specs.Least.{least_certificate}
use Rattle.ats_bound.specs.Reason.{reason_of}
use Rattle.ats_explain.specs.Margins.{StreamListener, all_listeners, tightest_listener}
use Rattle.ats_trace.specs.Journey.{Travel}
use Rattle.ats_trace.specs.Stored.{leg_in}
use Rattle.ats_trace.specs.Ways.{listener_count, route_to}
use Rattle.ats_trace.specs.declared.journey.Ending.TheVariants.{Sink}
use Rattle.ats_replay.specs.Report.{bound_of}
use Rattle.ats_replay.specs.Summary.{summary_for}
use Rattle.ats_command_due.specs.Generated.{least_sums}
use Rattle.ats_text_examples.specs.Worked.{u, v, way, wide, way_with}

-- What the tightest listener, the worst delay and a printed bound are.

-- the sum of a stream's least bounds along the route to one of its listeners
abbrev pub least_sum : DeclaredNetwork → StreamListener → ℕ
least_sum network one = bound_on (least_certificate network) one.0 one.1.route

-- a listener has no more slack than another: the deadline of each one's stream less its sum
abbrev pub HasNoMoreSlack : DeclaredNetwork → StreamListener → StreamListener → Type 0
HasNoMoreSlack network one other =
    PS_PER_NS * one.0.deadline_ns + least_sum network other ≤ PS_PER_NS * other.0.deadline_ns + least_sum network one

-- the tightest listener is one of the network's, and none has less slack
pub record IsTightest (network : DeclaredNetwork) (one : StreamListener) : Type 0 where
  pub there : Contains (all_listeners network) one
  pub least : All (HasNoMoreSlack network one) (all_listeners network)

abbrev pub TightestIsTightest : Type 0
TightestIsTightest = (network : DeclaredNetwork) (one : StreamListener)
    → tightest_listener network ≡ Some one → IsTightest network one

-- the stream of the tightest listener
abbrev pub tightest_stream : DeclaredNetwork → Option DeclaredStream
tightest_stream network = option_map (λ (one : StreamListener). one.0) (tightest_listener network)

-- a stream like `v` but for its name
abbrev pub twin : DeclaredStream
twin = declared_stream (codes "w") (0 ∷ 2 ∷ 4 ∷ []) (5 ∷ 5 ∷ 5 ∷ []) 30000000 10003 100 1200 300000 None

-- the streams of the worked network, in this order
abbrev pub with_streams : List DeclaredStream → DeclaredNetwork
with_streams streams = declared_network way.topology streams way.flows

-- of the worked network: where one stream is late, where none is, also in the other order; the first of two that are
-- alike; and where there is no stream
pub record TightestIsWorked : Type 0 where
  pub one_late : tightest_stream way ≡ Some (v 200000)
  pub none_late : tightest_stream wide ≡ Some (v 300000)
  pub other_order : tightest_stream (with_streams (v 300000 ∷ u ∷ [])) ≡ Some (v 300000)
  pub first_twin : tightest_stream (with_streams (v 300000 ∷ twin ∷ [])) ≡ Some (v 300000)
  pub second_twin : tightest_stream (with_streams (twin ∷ v 300000 ∷ [])) ≡ Some twin
  pub no_stream : tightest_stream (with_streams []) ≡ None

-- a frame of a sender arrived at the listener with this number so long after its release
pub record ArrivedAfter (run : List Travel) (sender listener took : ℕ) (journey : Travel) : Type 0 where
  pub there : Contains run journey
  pub sent : journey.release.sender ≡ sender
  pub at : Ps
  pub arrived : (leg_in journey listener).ending ≡ Sink at
  pub after : took ≡ at.0 - journey.release.at.0

-- a sender's worst delay to a listener: none of its frames that arrived there took longer, and one took as long, or it
-- is 0
pub record IsWorst (run : List Travel) (sender listener worst : ℕ) : Type 0 where
  pub none_longer : (journey : Travel) (took : ℕ) → ArrivedAfter run sender listener took journey → took ≤ worst
  pub one : (worst ≡ 0) ⊎ ((journey : Travel) × ArrivedAfter run sender listener worst journey)

abbrev pub SummaryHasWorst : Type 0
SummaryHasWorst = (network : DeclaredNetwork) (run : List Travel) (sender listener : ℕ)
    → IsWorst run sender listener (summary_for network run sender listener).worst.0

-- where a certificate holds, the bound that is printed of a stream for a listener is the sum of its least bounds along
-- the route there
abbrev pub BoundIsLeastSum : Type 0
BoundIsLeastSum = (network : DeclaredNetwork) (rows : List Row) (place listener : ℕ) (stream : DeclaredStream)
    → IsNetwork network → Holds network rows → slice_get network.streams place ≡ Some stream
    → listener < listener_count (stream_sender stream)
    → bound_of network (least_sums network) place listener
    ≡ Some (bound_on (least_certificate network) stream (route_to (stream_sender stream) listener))

-- the sums of both streams, which are told of neither where one is late, nor where one may have to stay for too long;
-- and both bursts narrowed to a longest frame
pub record SumsAreWorked : Type 0 where
  pub free : least_sums wide ≡ Some (467673029 ∷ 261014682 ∷ [])
  pub one_late : least_sums (way_with 40000 200000) ≡ None
  pub one_stays : least_sums (way_with 30000 300000) ≡ None
  pub narrow : narrowed wide
      ≡ declared_network wide.topology (with_burst u 8160 ∷ with_burst (v 300000) 9760 ∷ []) wide.flows

-- no sum is told where there is a reason why no certificate holds, whichever; else all are. Refuses sums where only a
-- residence is too short, by true time or by a clock
pub record SumsAreOfReason : Type 0 where
  pub none : (network : DeclaredNetwork) (reason : Reason) → reason_of network ≡ Some reason
      → least_sums network ≡ None
  pub all : (network : DeclaredNetwork) → reason_of network ≡ None
      → least_sums network ≡ Some (sums_for network (least_certificate network))

pub record MeasuresAreMeant : Type 0 where
  pub tightest : TightestIsTightest
  pub worked : TightestIsWorked
  pub worst : SummaryHasWorst
  pub bound : BoundIsLeastSum
  pub sums : SumsAreWorked
  pub reasons : SumsAreOfReason
