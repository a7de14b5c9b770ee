-- Rates and bursts at the ports of a stream, and where its frames are counted.
use Rattle.std.proofs.Common.{◌≡◌, ℕ, ◌<◌, ◌≤◌, true, length, get_or, Option, Some, None, refl, sym, subst, arith}
use Rattle.std.specs.Prelude.{◌==◌, unwrap_or}
use Rattle.std.specs.List.{list_any}
use Rattle.std.proofs.lemmas.Bool.{eq-eqb, eqb-true}
use Rattle.std.proofs.lemmas.List.Folds.{list_any_at}
use Rattle.ats_topology.specs.Topology.{DeclaredTopology, IsTopology}
use Rattle.ats_streams.specs.Stream.{DeclaredStream}
use Rattle.ats_network.specs.Class.{port_before}
use Rattle.ats_network.specs.Edits.{no_stream}
use Rattle.ats_network.specs.Network.{DeclaredNetwork, IsNetwork}
use Rattle.ats_network.specs.Rates.{IsRated}
use Rattle.ats_network.specs.Sender.{Sender, stream_sender}
use Rattle.ats_network.specs.Senders.{IsSender}
use Rattle.ats_network.proofs.RateLemmas.{committed_no_greater, declared_no_greater}
use Rattle.ats_trace.specs.Journey.{legs_at}
use Rattle.ats_trace.proofs.Legs.{place_of}
use Rattle.ats_route_law.proofs.Steps.{scheduled_no_greater}
use Rattle.ats_tally.proofs.Lists.{any_gives}
use Rattle.ats_buffer.specs.Buffer.{counted_at}
use Rattle.ats_buffer.proofs.Hops.{IsHop, stream_is, stream_keeps}
use Rattle.ats_buffer.proofs.ShareLemmas.{stream_at}

-- rates and bursts are within their limits at the port before, where they are so at a port: they never fall
rated_before : (topology : DeclaredTopology) (s : Sender) (port before : ℕ) → IsTopology topology
    → IsSender topology s → 1 ≤ s.rate → IsRated topology s port → port_before s port ≡ Some before
    → IsRated topology s before
rated_before topology s port before lawful is some rated has =
    let declared = declared_no_greater topology s before lawful in
    let seen = committed_no_greater topology s before lawful in
    let next = scheduled_no_greater topology s port before lawful is has in
    record {
      seen = record {
        rate = record {
          positive = omega (arith, some, declared.rate);
          within = omega (arith, seen.rate, next.rate, rated.seen.rate.within);
        };
        burst = omega (arith, seen.burst, next.burst, rated.seen.burst);
      };
      scheduled = record {
        rate = record {
          positive = omega (arith, some, declared.rate, seen.rate);
          within = omega (arith, next.rate, rated.seen.rate.within);
        };
        burst = omega (arith, next.burst, rated.seen.burst);
      };
    }

-- so they are where the frames at a port are counted
counted_rated : (topology : DeclaredTopology) (s : Sender) (port : ℕ) → IsTopology topology → IsSender topology s
    → 1 ≤ s.rate → IsRated topology s port → IsRated topology s (counted_at s port)
counted_rated topology s port lawful is some rated = by (port_before s port) refl
  where
    by : (o : Option ℕ) → port_before s port ≡ o → IsRated topology s (unwrap_or o port)
    by None e = rated
    by (Some before) e = rated_before topology s port before lawful is some rated e

-- of a stream that has the port
pub stream_rated : (network : DeclaredNetwork) (n port : ℕ) → IsNetwork network → n < length network.streams
    → list_any (λ p. p == port) (stream_at network n).ports ≡ true
    → IsRated network.topology (stream_sender (stream_at network n))
    (counted_at (stream_sender (stream_at network n)) port)
stream_rated network n port net h has =
    let stream : DeclaredStream = stream_at network n in
    let s : Sender = stream_sender stream in
    counted_rated network.topology s port net.topology
    (subst (IsSender network.topology) (stream_is network n h) (stream_keeps network n net h))
    (net.streams n no_stream h).rules.rate.positive
    (any_gives (λ p. p == port) (IsRated network.topology s port) stream.ports
    (λ k d within e. subst (IsRated network.topology s) (eqb-true (get_or stream.ports k d) port e)
    (net.rates n no_stream h k d within)) has)

-- so at a hop of the stream, of what the code reads
pub rated_there : (network : DeclaredNetwork) (n leg hop port class : ℕ) (topology : DeclaredTopology)
    (declared : DeclaredStream) (counted : ℕ) → IsNetwork network → n < length network.streams
    → IsHop network n leg hop port class → topology ≡ network.topology → declared ≡ stream_at network n
    → counted ≡ counted_at (stream_sender (stream_at network n)) port
    → IsRated topology (stream_sender declared) counted
rated_there network n leg hop port class topology declared counted net h at same_topology same counted_is =
    let stream : DeclaredStream = stream_at network n in
    let place : ℕ = place_of (legs_at network n) leg hop in
    let has : list_any (λ p. p == port) stream.ports ≡ true =
    list_any_at (λ p. p == port) stream.ports place 0 at.within (eq-eqb (get_or stream.ports place 0) port at.there) in
    subst (λ (t : DeclaredTopology). IsRated t (stream_sender declared) counted) (sym same_topology)
    (subst (λ (x : DeclaredStream). IsRated network.topology (stream_sender x) counted) (sym same)
    (subst (IsRated network.topology (stream_sender stream)) (sym counted_is) (stream_rated network n port net h has)))
