-- A network less one stream is a network.
use Rattle.std.proofs.Common.{◌≡◌, ◌≢◌, ℕ, List, ◌∷◌, ◌++◌, map, length, sym, ap, ◌∙◌, subst, arith}
use Rattle.std.proofs.Common.{append_assoc, length-append}
use Rattle.std.specs.List.{All}
use Rattle.std.proofs.lemmas.List.{map-append}
use Rattle.std.proofs.lemmas.List.Sums.{sum_by-append, sum_by-cons}
use Rattle.ats_topology.specs.Node.{AreApart}
use Rattle.ats_topology.specs.Topology.{DeclaredTopology}
use Rattle.ats_streams.specs.Stream.{DeclaredStream, IsStream}
use Rattle.ats_streams.specs.Flow.{DeclaredFlow}
use Rattle.ats_network.specs.Sender.{Sender, stream_sender, flow_sender}
use Rattle.ats_network.specs.Path.{IsTree}
use Rattle.ats_network.specs.Network.{DeclaredNetwork, HasShortRoutes, IsNetwork, Share, names_of, network_within}
use Rattle.ats_network.specs.Rates.{HasRates}
use Rattle.ats_network.specs.Network.{senders_of}
use Rattle.ats_network.proofs.NameLemmas.{pairs_from_apart, apart_from_pairs}
use Rattle.ats_admission_law.specs.Less.{IsLessBy}
use Rattle.ats_admission_law.proofs.Lists.{all_less, pairs_less}

-- streams in front, streams behind and flows, over a topology, where a route may have so many ports
pub record Parts : Type 0 where
  pub topology : DeclaredTopology
  pub most : ℕ
  pub front : List DeclaredStream
  pub back : List DeclaredStream
  pub flows : List DeclaredFlow

-- the network of them, and that with one stream more between those in front and those behind
abbrev pub less : Parts → DeclaredNetwork
less p = network_within p.topology p.most (p.front ++ p.back) p.flows

abbrev pub more : Parts → DeclaredStream → DeclaredNetwork
more p x = network_within p.topology p.most (p.front ++ x ∷ p.back) p.flows

-- two networks of which one is less by a stream are made of such parts
abbrev pub parts_of : (old new : DeclaredNetwork) (x : DeclaredStream) → IsLessBy old new x → Parts
parts_of old new x is = record {
  topology = old.topology;
  most = old.most_ports;
  front = is.streams.front;
  back = is.streams.back;
  flows = old.flows;
}

pub by_parts : (P : DeclaredNetwork → DeclaredNetwork → Type 0) (old new : DeclaredNetwork) (x : DeclaredStream)
    (is : IsLessBy old new x) → P (more (parts_of old new x is) x) (less (parts_of old new x is)) → P old new
by_parts P old new x is so =
    let p : Parts = parts_of old new x is in
    let before : old ≡ more p x =
    ap (λ (ss : List DeclaredStream). network_within old.topology old.most_ports ss old.flows) is.streams.old_is in
    let after : new ≡ less p =
    ap (λ (t : DeclaredTopology). network_within t new.most_ports new.streams new.flows) is.topology
    ∙ ap (λ (n : ℕ). network_within old.topology n new.streams new.flows) is.most_ports
    ∙ ap (λ (ss : List DeclaredStream). network_within old.topology old.most_ports ss new.flows) is.streams.new_is
    ∙ ap (λ (fs : List DeclaredFlow).
    network_within old.topology old.most_ports (is.streams.front ++ is.streams.back) fs) is.flows in
    subst (λ (n : DeclaredNetwork). P n new) (sym before) (subst (λ (n : DeclaredNetwork). P (more p x) n)
    (sym after) so)

-- the senders that stand behind a stream that comes or goes
abbrev pub behind : Parts → List Sender
behind p = map stream_sender p.back ++ map flow_sender p.flows

pub senders_less : (p : Parts) → senders_of (less p) ≡ map stream_sender p.front ++ behind p
senders_less p =
    ap (λ (ss : List Sender). ss ++ map flow_sender p.flows) (map-append stream_sender p.front p.back)
    ∙ append_assoc (map stream_sender p.front) (map stream_sender p.back) (map flow_sender p.flows)

pub senders_more : (p : Parts) (x : DeclaredStream)
    → senders_of (more p x) ≡ map stream_sender p.front ++ stream_sender x ∷ behind p
senders_more p x =
    ap (λ (ss : List Sender). ss ++ map flow_sender p.flows) (map-append stream_sender p.front (x ∷ p.back))
    ∙ append_assoc (map stream_sender p.front) (stream_sender x ∷ map stream_sender p.back) (map flow_sender p.flows)

-- what holds of each sender holds of each of the others
all_senders_less : (P : Sender → Type 0) (p : Parts) (x : DeclaredStream) → All P (senders_of (more p x))
    → All P (senders_of (less p))
all_senders_less P p x all =
    subst (λ (ss : List Sender). All P ss) (sym (senders_less p))
    (all_less P (map stream_sender p.front) (stream_sender x) (behind p)
    (subst (λ (ss : List Sender). All P ss) (senders_more p x) all))

-- and names that are apart stay so
names_less : (p : Parts) (x : DeclaredStream) → AreApart (names_of (senders_of (more p x)))
    → AreApart (names_of (senders_of (less p)))
names_less p x apart =
    let name : Sender → List ℕ = λ (s : Sender). s.name in
    let front : List (List ℕ) = map name (map stream_sender p.front) in
    let rest : List (List ℕ) = map name (behind p) in
    let all : names_of (senders_of (more p x)) ≡ front ++ x.name ∷ rest =
    ap (map name) (senders_more p x)
    ∙ map-append name (map stream_sender p.front) (stream_sender x ∷ behind p) in
    let others : names_of (senders_of (less p)) ≡ front ++ rest =
    ap (map name) (senders_less p) ∙ map-append name (map stream_sender p.front) (behind p) in
    subst (λ (ns : List (List ℕ)). AreApart ns) (sym others)
    (apart_from_pairs (front ++ rest) (pairs_less (λ (a b : List ℕ). a ≢ b) front x.name rest
    (pairs_from_apart (front ++ x.name ∷ rest) (subst (λ (ns : List (List ℕ)). AreApart ns) all apart))))

pub less_is : (p : Parts) (x : DeclaredStream) → IsNetwork (more p x) → IsNetwork (less p)
less_is p x is = record {
  topology = is.topology;
  streams = all_less IsStream p.front x p.back is.streams;
  flows = is.flows;
  trees = all_senders_less (λ (s : Sender). IsTree p.topology s.ports s.branches) p x is.trees;
  names = names_less p x is.names;
  identities = pairs_less (λ (s t : DeclaredStream). (identity : ℕ × ℕ) → ¬ Share s t identity) p.front x p.back
      is.identities;
  few_streams = omega (arith, is.few_streams, length-append p.front (x ∷ p.back), length-append p.front p.back);
  few_flows = is.few_flows;
  few_ports = omega (
    arith,
    is.few_ports,
    sum_by-append many p.front (x ∷ p.back),
    sum_by-cons many x p.back,
    sum_by-append many p.front p.back,
  );
  most_ports = is.most_ports;
  short_streams = all_less (HasShortRoutes p.most) p.front x p.back is.short_streams;
  short_flows = is.short_flows;
  rates = all_less (HasRates p.topology) p.front x p.back is.rates;
}
  where
    many : DeclaredStream → ℕ
    many s = length s.ports

pub less_is_network : (old new : DeclaredNetwork) (x : DeclaredStream) → IsLessBy old new x → IsNetwork old
    → IsNetwork new
less_is_network old new x less =
    by_parts (λ (o n : DeclaredNetwork). IsNetwork o → IsNetwork n) old new x less (less_is (parts_of old new x less) x)
