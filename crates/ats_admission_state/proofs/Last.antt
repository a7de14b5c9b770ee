-- A network and the same without its last stream.
use Rattle.std.proofs.Common.{◌≡◌, ℕ, suc, ◌+◌, ◌<◌, ◌≤◌, List, [], ◌∷◌, ◌++◌, length, get_or, map, take, drop}
use Rattle.std.proofs.Common.{refl, sym, ap, ◌∙◌, arith, length-append}
use Rattle.std.specs.List.{All}
use Rattle.std.proofs.Math.Seq.{split_at}
use Rattle.std.proofs.lemmas.List.{append-nil, drop_all, get_or_append_left, get_or_default, map-append}
use Rattle.std.proofs.lemmas.List.Elements.{All-weaker}
use Rattle.std.proofs.lemmas.List.Sums.{get_or-le-sum_by}
use Rattle.ats_topology.proofs.Rules.{ports_are_lawful}
use Rattle.ats_topology.specs.Topology.{HasLawfulPorts}
use Rattle.ats_streams.proofs.BranchLemmas.{some_port}
use Rattle.ats_streams.specs.Stream.{DeclaredStream}
use Rattle.ats_network.specs.Edits.{no_stream}
use Rattle.ats_network.specs.Network.{DeclaredNetwork, IsNetwork}
use Rattle.ats_tally.proofs.Paths.{paths_inside}
use Rattle.ats_admission_law.specs.Less.{IsLessBy}
use Rattle.ats_admission_shares.specs.PortShares.{stream_at, stream_paths, without_at}
use Rattle.ats_admission_state.specs.Routes.{route_of, routes_of}

-- a network is less without the stream of a number
pub less_by : (network : DeclaredNetwork) (n : ℕ) → n < length network.streams
    → IsLessBy network (without_at network n) (stream_at network n)
less_by network n within = record {
  topology = refl;
  most_ports = refl;
  flows = refl;
  streams = record {
    front = take n network.streams;
    back = drop (suc n) network.streams;
    old_is = split_at network.streams n no_stream within;
    new_is = refl;
  };
}

module _ (network : DeclaredNetwork) (n : ℕ) (last : n + 1 ≡ length network.streams) where
  abbrev pub others : List DeclaredStream
  others = (without_at network n).streams

  others_are : others ≡ take n network.streams
  others_are =
      ap (λ (back : List DeclaredStream). take n network.streams ++ back)
      (drop_all (suc n) network.streams (omega (arith, last)))
      ∙ append-nil (take n network.streams)

  -- the streams are the others, and it
  pub streams_are : network.streams ≡ others ++ stream_at network n ∷ []
  streams_are =
      split_at network.streams n no_stream (omega (arith, last))
      ∙ ap (λ (back : List DeclaredStream). take n network.streams ++ stream_at network n ∷ back)
      (drop_all (suc n) network.streams (omega (arith, last)))
      ∙ ap (λ (front : List DeclaredStream). front ++ stream_at network n ∷ []) (sym others_are)

  pub others-length : length others ≡ n
  others-length = omega (
    arith,
    last,
    ap (λ (streams : List DeclaredStream). length streams) streams_are,
    length-append others (stream_at network n ∷ []),
  )

  pub paths_are : stream_paths network ≡ stream_paths (without_at network n) ++ (stream_at network n).ports ∷ []
  paths_are =
      ap (λ (streams : List DeclaredStream). map (λ (s : DeclaredStream). s.ports) streams) streams_are
      ∙ map-append (λ (s : DeclaredStream). s.ports) others (stream_at network n ∷ [])

  pub routes_more : routes_of network ≡ routes_of (without_at network n) ++ route_of (stream_at network n) ∷ []
  routes_more =
      ap (λ (streams : List DeclaredStream). map route_of streams) streams_are
      ∙ map-append route_of others (stream_at network n ∷ [])

  -- the others keep their numbers
  pub other_at : (m : ℕ) → m < n → stream_at network m ≡ stream_at (without_at network n) m
  other_at m less =
      ap (λ (streams : List DeclaredStream). get_or streams m no_stream) streams_are
      ∙ get_or_append_left others (stream_at network n ∷ []) no_stream m (omega (arith, less, others-length))

-- what is read at a place of the streams is the stream of this number
pub stream_is : (network : DeclaredNetwork) (listed : List DeclaredStream) (n : ℕ) (s : DeclaredStream)
    → n < length network.streams → listed ≡ network.streams → s ≡ get_or listed n s → s ≡ stream_at network n
stream_is network listed n s within same is =
    is ∙ ap (λ (streams : List DeclaredStream). get_or streams n s) same
    ∙ get_or_default network.streams n s no_stream within

-- so are its ports, as they are read
pub path_is : (network : DeclaredNetwork) (listed : List DeclaredStream) (n : ℕ) (s : DeclaredStream) (path : List ℕ)
    → n < length network.streams → listed ≡ network.streams → s ≡ get_or listed n s → path ≡ s.ports
    → path ≡ (stream_at network n).ports
path_is network listed n s path within same is read =
    read ∙ ap (λ (t : DeclaredStream). t.ports) (stream_is network listed n s within same is)

-- the ports of a stream are below 4,096
pub few_ports : (network : DeclaredNetwork) (n : ℕ) → IsNetwork network → n < length network.streams
    → All (λ p. p < 4096) (stream_at network n).ports
few_ports network n rules within =
    let kept : HasLawfulPorts network.topology = ports_are_lawful network.topology rules.topology in
    All-weaker (λ p. p < length network.topology.ports) (λ p. p < 4096)
    (λ p inside. omega (arith, inside, kept.two_each, rules.topology.few_links)) (stream_at network n).ports
    (paths_inside network rules n no_stream within)

-- there is one, and there are no more than those of all streams together
pub some_hop : (network : DeclaredNetwork) (n : ℕ) → IsNetwork network → n < length network.streams
    → 1 ≤ length (stream_at network n).ports
some_hop network n rules within = some_port (stream_at network n) (rules.streams n no_stream within)

pub few_hops : (network : DeclaredNetwork) (n : ℕ) → IsNetwork network → n < length network.streams
    → length (stream_at network n).ports ≤ 65536
few_hops network n rules within =
    omega (
      arith,
      rules.few_ports,
      get_or-le-sum_by (λ (s : DeclaredStream). length s.ports) network.streams n no_stream within,
    )
