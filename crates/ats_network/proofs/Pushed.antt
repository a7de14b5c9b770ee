use Rattle.std.proofs.Common.{◌≡◌, ℕ, ◌+◌, ◌<◌, ◌≤◌, false, List, [], ◌∷◌, ◌++◌, map, length, Option, None, sym, arith}
use Rattle.std.proofs.Common.{ap, ◌∙◌, append_assoc, length-append}
use Rattle.std.specs.Prelude.{is_some, nat_le, nat_lt}
use Rattle.std.proofs.lemmas.Bool.{leb-false, ltb-false, or_parts}
use Rattle.std.proofs.lemmas.List.{map-append, append-nil}
use Rattle.std.proofs.lemmas.List.Elements.{All-append, All-push}
use Rattle.std.proofs.lemmas.List.Sums.{sum_by_push}
use Rattle.ats_facts.proofs.Lists.{all_left, all_right}
use Rattle.ats_facts.proofs.Options.{is_some-false}
use Rattle.ats_num.specs.Places.{place_of}
use Rattle.ats_topology.specs.Node.{AreApart}
use Rattle.ats_streams.specs.Stream.{DeclaredStream, IsStream}
use Rattle.ats_streams.specs.Flow.{DeclaredFlow, IsFlow}
use Rattle.ats_network.specs.Sender.{Sender, stream_sender, flow_sender}
use Rattle.ats_network.specs.Path.{IsTree, IsValidPath}
use Rattle.ats_network.specs.Network.{DeclaredNetwork, HasShortPath, HasShortRoutes, IsNetwork, senders_of, names_of}
use Rattle.ats_network.specs.Network.{ports_together}
use Rattle.ats_network.specs.Pushes.{with_stream, with_flow, is_beyond, is_full, is_identity_taken}
use Rattle.ats_network.specs.Rates.{HasRates, is_overrated}
use Rattle.ats_network.specs.Tables.{stream_names, flow_names}
use Rattle.ats_network.specs.declared.network.TheConstants.{MAX_STREAMS, MAX_FLOWS, MAX_PORTS_TOGETHER}
use Rattle.ats_network.proofs.NameLemmas.{names_of-senders, apart_insert}
use Rattle.ats_network.proofs.IdentityLemmas.{share_push}
use Rattle.ats_network.proofs.Rated.{has_rates}
use Rattle.ats_network.proofs.TreeLemmas.{tree_of_path}

-- there is room for one more stream with these ports
pub record Fits (streams : List DeclaredStream) (ports : List ℕ) : Type 0 where
  pub few_streams : length streams < MAX_STREAMS
  pub few_ports : ports_together streams + length ports ≤ MAX_PORTS_TOGETHER

pub not_full : (streams : List DeclaredStream) (ports : List ℕ) → is_full streams ports ≡ false → Fits streams ports
not_full streams ports room =
    let together : ℕ = ports_together streams + length ports in
    let parts : (nat_le MAX_STREAMS (length streams) ≡ false) × (nat_lt MAX_PORTS_TOGETHER together ≡ false) =
    or_parts (nat_le MAX_STREAMS (length streams)) (nat_lt MAX_PORTS_TOGETHER together) room in
    record {
      few_streams = leb-false MAX_STREAMS (length streams) parts.0;
      few_ports = ltb-false MAX_PORTS_TOGETHER together parts.1;
    }

pub fits_beside : (network : DeclaredNetwork) (stream : DeclaredStream) → is_beyond network stream ≡ false
    → Fits network.streams stream.ports
fits_beside network stream room =
    not_full network.streams stream.ports
    (or_parts (is_full network.streams stream.ports) (is_overrated network.topology (stream_sender stream)) room).0

stream_names-push : (streams : List DeclaredStream) (stream : DeclaredStream)
    → stream_names (streams ++ stream ∷ []) ≡ stream_names streams ++ stream.name ∷ []
stream_names-push streams stream = map-append (λ (s : DeclaredStream). s.name) streams (stream ∷ [])

flow_names-push : (flows : List DeclaredFlow) (flow : DeclaredFlow)
    → flow_names (flows ++ flow ∷ []) ≡ flow_names flows ++ flow.name ∷ []
flow_names-push flows flow = map-append (λ (f : DeclaredFlow). f.name) flows (flow ∷ [])

-- a network with one stream more keeps what a network keeps
pub pushed_stream : (network : DeclaredNetwork) (stream : DeclaredStream) → IsNetwork network → IsStream stream
    → IsTree network.topology stream.ports stream.branches → HasShortRoutes network.most_ports stream
    → place_of stream.name (names_of (senders_of network)) ≡ None → is_identity_taken network.streams stream.identity
    ≡ false → is_beyond network stream ≡ false → IsNetwork (with_stream network stream)
pushed_stream network stream is keeps tree short absent free room = record {
  topology = is.topology;
  streams = All-push IsStream network.streams stream is.streams keeps;
  flows = is.flows;
  trees =
      rw (map-append stream_sender network.streams (stream ∷ []))
      (All-append Goes (streams ++ stream_sender stream ∷ []) flows
      (All-push Goes streams (stream_sender stream) (all_left Goes streams flows is.trees) tree)
      (all_right Goes streams flows is.trees));
  names = rw (names_of-senders (with_stream network stream), stream_names-push network.streams stream)
      (apart_insert (stream_names network.streams) (flow_names network.flows) stream.name
      (rw (names_of-senders network) at is.names) (rw (names_of-senders network) at absent));
  identities = share_push network.streams stream is.identities free;
  few_streams = omega (arith, length-append network.streams (stream ∷ []), fits.few_streams);
  few_flows = is.few_flows;
  few_ports = omega (
    arith,
    fits.few_ports,
    sum_by_push (λ (s : DeclaredStream). length s.ports) network.streams
        stream,
  );
  most_ports = is.most_ports;
  short_streams =
      All-push (HasShortRoutes network.most_ports) network.streams stream is.short_streams short;
  short_flows = is.short_flows;
  rates = All-push (HasRates network.topology) network.streams stream is.rates
      (has_rates network.topology stream is.topology keeps.rules.rate.positive small);
}
  where
    small : is_overrated network.topology (stream_sender stream) ≡ false
    small =
        (or_parts (is_full network.streams stream.ports) (is_overrated network.topology (stream_sender stream)) room).1

    streams : List Sender
    streams = map stream_sender network.streams

    flows : List Sender
    flows = map flow_sender network.flows

    Goes : Sender → Type 0
    Goes s = IsTree network.topology s.ports s.branches

    fits : Fits network.streams stream.ports
    fits = fits_beside network stream room

-- a network with one flow more keeps what a network keeps
pub pushed_flow : (network : DeclaredNetwork) (flow : DeclaredFlow) → IsNetwork network → IsFlow flow
    → IsValidPath network.topology flow.path → HasShortPath network.most_ports flow
    → place_of flow.name (names_of (senders_of network)) ≡ None → length network.flows < MAX_FLOWS
    → IsNetwork (with_flow network flow)
pushed_flow network flow is keeps valid short absent room = record {
  topology = is.topology;
  streams = is.streams;
  flows = All-push IsFlow network.flows flow is.flows keeps;
  trees =
      rw (map-append flow_sender network.flows (flow ∷ []))
      (All-append Goes streams (flows ++ flow_sender flow ∷ []) (all_left Goes streams flows is.trees)
      (All-push Goes flows (flow_sender flow) (all_right Goes streams flows is.trees)
      (tree_of_path network.topology flow.path valid)));
  names = rw (names_of-senders (with_flow network flow), flow_names-push network.flows flow) apart;
  identities = is.identities;
  few_streams = is.few_streams;
  few_flows = omega (arith, length-append network.flows (flow ∷ []));
  few_ports = is.few_ports;
  most_ports = is.most_ports;
  short_streams = is.short_streams;
  short_flows = All-push (HasShortPath network.most_ports) network.flows flow is.short_flows short;
  rates = is.rates;
}
  where
    streams : List Sender
    streams = map stream_sender network.streams

    flows : List Sender
    flows = map flow_sender network.flows

    Goes : Sender → Type 0
    Goes s = IsTree network.topology s.ports s.branches

    names : List (List ℕ)
    names = stream_names network.streams ++ flow_names network.flows

    last : AreApart ((names ++ flow.name ∷ []) ++ [])
    last = apart_insert names [] flow.name (rw (append-nil names) (rw (names_of-senders network) at is.names))
        (rw (append-nil names) (rw (names_of-senders network) at absent))

    apart : AreApart (stream_names network.streams ++ (flow_names network.flows ++ flow.name ∷ []))
    apart = rw (← append_assoc (stream_names network.streams) (flow_names network.flows) (flow.name ∷ []))
        (rw (append-nil (names ++ flow.name ∷ [])) at last)

-- a name that a look-up did not find
pub not_found : (found : Option ℕ) (asked name : List ℕ) (network told : DeclaredNetwork) → network ≡ told
    → asked ≡ name → found ≡ place_of asked (names_of (senders_of told)) → is_some found ≡ false
    → place_of name (names_of (senders_of network)) ≡ None
not_found found asked name network told same is at none =
    ap (λ (n : DeclaredNetwork). place_of name (names_of (senders_of n))) same
    ∙ sym (at ∙ ap (λ (t : List ℕ). place_of t (names_of (senders_of told))) is) ∙ is_some-false found none
