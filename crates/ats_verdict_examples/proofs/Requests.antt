use Rattle.std.proofs.Common.{◌≡◌, ℕ, ◌≤◌, Bool, true, ◌&&◌, List, [], length, All, Option, Some, None, refl, sym}
use Rattle.std.specs.Prelude.{codes, is_none, nat_le}
use Rattle.std.proofs.lemmas.Bool.{and_parts, false≢true}
use Rattle.ats_streams.specs.Branches.{routes_of}
use Rattle.ats_streams.specs.Stream.{DeclaredStream}
use Rattle.ats_network.proofs.TreeLemmas.{alone_tree}
use Rattle.ats_requests.specs.Laws.{IsCertified}
use Rattle.ats_requests.specs.Requests.{MayEnter, MayAsk}
use Rattle.ats_requests.specs.declared.request.Request.{Request}
use Rattle.ats_requests.specs.declared.request.Request.TheVariants.{Admit, Lowest, Withdraw}
use Rattle.ats_requests.proofs.Classes.{lowest_is_first, no_class_has_reasons}
use Rattle.ats_requests.proofs.Keeps.{admit_is_judged}
use Rattle.ats_requests.proofs.Requests.{requests_keep}
use Rattle.ats_examples.specs.Networks.{line_nodes, line_links}
use Rattle.ats_examples.proofs.NetworkTest.{network_by, is_stream, stream_by, one_listener_by, is_valid_from}
use Rattle.ats_examples.proofs.NetworkTest.{has_short_routes, valid_from_by}
use Rattle.ats_examples.proofs.Tests.{all_by, le_of}
use Rattle.ats_verdict_examples.specs.Requested.{bridged, large, small, asked, late_in_each, RequestsAreMet}

-- Requests by computation, and what the laws say of them.

certified : IsCertified bridged
certified = record { rules = network_by line_nodes line_links bridged.streams [] refl refl; free = refl }

-- a stream may enter
abbrev enters : DeclaredStream → Bool
enters stream =
    is_stream stream
    && (is_valid_from bridged.topology 0 stream.ports
    && (has_short_routes bridged.most_ports stream && is_none stream.identity))

none_by : {A : Type 0} (given : Option A) → is_none given ≡ true → given ≡ None
none_by None h = refl
none_by (Some a) h = absurd (false≢true h)

enters_by : (stream : DeclaredStream) → enters stream ≡ true → MayEnter bridged stream
enters_by stream h =
    let path : Bool = is_valid_from bridged.topology 0 stream.ports in
    let short : Bool = has_short_routes bridged.most_ports stream in
    let first = and_parts (is_stream stream) (path && (short && is_none stream.identity)) h in
    let second = and_parts path (short && is_none stream.identity) first.1 in
    let third = and_parts short (is_none stream.identity) second.1 in
    let alone : stream.branches ≡ [] = one_listener_by stream first.0 in
    record {
      rules = stream_by stream first.0;
      tree = alone_tree bridged.topology stream.ports stream.branches alone
          (valid_from_by bridged.topology 0 stream.ports second.0);
      short = all_by (λ (route : List ℕ). length route ≤ bridged.most_ports)
          (λ (route : List ℕ). nat_le (length route) bridged.most_ports)
          (λ route. le_of (length route) bridged.most_ports) (routes_of stream.ports stream.branches) third.0;
      one_listener = alone;
      unidentified = none_by stream.identity third.1;
    }

-- a request may be made
abbrev asks : Request → Bool
asks (Admit stream) = enters stream
asks (Lowest stream) = enters stream
asks (Withdraw name) = true

asks_by : (request : Request) → asks request ≡ true → MayAsk bridged request
asks_by (Admit stream) h = enters_by stream h
asks_by (Lowest stream) h = enters_by stream h
asks_by (Withdraw name) h = tt

may_ask : All (MayAsk bridged) asked
may_ask = all_by (MayAsk bridged) asks asks_by asked refl

pub requests_are_met : RequestsAreMet
requests_are_met = record {
  certified = certified;
  may_ask = may_ask;
  answered = refl;
  left = refl;
  stays = requests_keep bridged asked certified may_ask;
  lowest = lowest_is_first bridged (small (codes "c") 1) 1 30757334 refl;
  no_class = no_class_has_reasons bridged (large (codes "d") 1) late_in_each refl;
  reason = refl;
  judged = sym (admit_is_judged bridged (large (codes "c") 5) certified (enters_by (large (codes "c") 5) refl) refl);
}
