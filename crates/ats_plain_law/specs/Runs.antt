use Rattle.std.specs.Prelude.{◌≡◌, ◌↔◌, ℕ, ◌+◌, ◌<◌, ◌≤◌, ◌==◌, List, Contains, count_by, length, map, sum_by}
use Rattle.std.specs.Option.{option_map}
use Rattle.ats_topology.specs.Port.{port_at}
use Rattle.ats_network.specs.Network.{DeclaredNetwork, senders_of}
use Rattle.ats_network.specs.Senders.{sender_at}
use Rattle.ats_port_rule.specs.Transmission.{Transmission}
use Rattle.ats_trace.specs.Clocks.{IsLegal}
use Rattle.ats_trace.specs.Journey.{Travel}
use Rattle.ats_trace.specs.OneVerdict.{HasOneVerdict, OneVerdictIn, SendsOnce, judged_as, record_of}
use Rattle.ats_trace.specs.Projections.{Crossing, Handed, crossings_by, handed_by, sent_by}
use Rattle.ats_trace.specs.Ways.{listener_count}
use Rattle.ats_clock_run_law.specs.Laws.{IsLegalInTrueTime}
use Rattle.ats_legal_law.specs.Once.{IsToldOnce}
use Rattle.ats_replay.specs.Laws.{CountsEachOnce, counted_in, listeners_together}
use Rattle.ats_replay.specs.Summary.{summary_for}
use Rattle.ats_replay.specs.Totals.{totals_of}
use Rattle.ats_replay.specs.declared.totals.Totals.{Totals}
use Rattle.ats_lrq.specs.Narrow.{narrowed, narrowed_stream}

-- of all ports of a frame's sender that leave one node each has a record of it or none has, with one arrival and one
-- verdict; and each port sends it, is crossed by it and hands it on once, in whichever class
pub record OnceIsPlain : Type 0 where
  pub judged : (network : DeclaredNetwork) (journey : Travel) → HasOneVerdict network journey
      ↔ ((p q : ℕ) → Contains (sender_at network journey.release.sender).ports p
      → Contains (sender_at network journey.release.sender).ports q
      → (port_at network.topology.ports p).from ≡ (port_at network.topology.ports q).from
      → option_map judged_as (record_of network journey p) ≡ option_map judged_as (record_of network journey q))
  pub sent : (network : DeclaredNetwork) (run : List Travel) → SendsOnce network run
      ↔ ((port frame : ℕ) → count_by (λ (x : Transmission). x.frame == frame) (sent_by network run port) ≤ 1)
  pub both : (network : DeclaredNetwork) (run : List Travel) → OneVerdictIn network run
      ↔ (((journey : Travel) → Contains run journey → HasOneVerdict network journey) × SendsOnce network run)
  pub told : (network : DeclaredNetwork) (run : List Travel) → IsToldOnce network run
      ↔ (((port frame : ℕ) → count_by (λ (c : Crossing). c.sent.frame == frame) (crossings_by network run port) ≤ 1)
      × ((port class frame : ℕ)
      → count_by (λ (h : Handed). h.crossing.sent.frame == frame) (handed_by network run port class) ≤ 1))

-- with narrowed bursts a network is what it was but for the bursts: its nodes, their clocks and its flows stay
pub record NarrowingIsPlain : Type 0 where
  pub streams : (network : DeclaredNetwork) → (narrowed network).streams ≡ map narrowed_stream network.streams
  pub topology : (network : DeclaredNetwork) → (narrowed network).topology ≡ network.topology
  pub flows : (network : DeclaredNetwork) → (narrowed network).flows ≡ network.flows
  pub most_ports : (network : DeclaredNetwork) → (narrowed network).most_ports ≡ network.most_ports

-- of the frames of a run each listener's are counted once, as arrived, as late or for their size: those of all, and
-- those of each listener of each sender; and a run is legal in true time where the clocks of a legal run show it
pub record CountingIsPlain : Type 0 where
  pub in_all : (t : Totals) → counted_in t ≡ t.sunk + t.late + t.size
  pub listeners : (network : DeclaredNetwork) (run : List Travel) → listeners_together network run
      ≡ sum_by (λ (j : Travel). listener_count (sender_at network j.release.sender)) run
  pub each : (network : DeclaredNetwork) (run : List Travel) → CountsEachOnce network run
      ↔ ((counted_in (totals_of network run) ≡ listeners_together network run)
      × ((sender listener : ℕ) → sender < length (senders_of network)
      → listener < listener_count (sender_at network sender)
      → counted_in (summary_for network run sender listener).totals
      ≡ (summary_for network run sender listener).totals.frames))
  pub in_true_time : (network : DeclaredNetwork) (run : List Travel) → IsLegalInTrueTime network run
      ↔ ((legal : IsLegal network run) × ((node t : ℕ) → legal.clocks node t ≡ t))

pub record RunsArePlain : Type 0 where
  pub once : OnceIsPlain
  pub counting : CountingIsPlain
  pub narrowing : NarrowingIsPlain
