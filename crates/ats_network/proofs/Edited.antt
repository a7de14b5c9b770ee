use Rattle.std.proofs.Common.{◌≡◌, ◌≢◌, ℕ, zero, suc, ◌+◌, ◌<◌, List, [], ◌∷◌, ◌++◌, map, length, get_or, set}
use Rattle.std.proofs.Common.{Option, Some}
use Rattle.std.proofs.Common.{None, refl, sym, ap, subst, ◌∙◌, arith, length-append}
use Rattle.std.specs.List.{All, remove}
use Rattle.std.proofs.Math.Seq.{map-set_same}
use Rattle.std.proofs.lemmas.List.{get_or-map, get_or_append_left, length-map, length-replicate, length-set, map-set}
use Rattle.std.proofs.lemmas.List.Edits.{length-remove}
use Rattle.std.proofs.lemmas.List.Elements.{All-append, All-cons, All-head, All-replicate, All-set, All-tail}
use Rattle.std.proofs.lemmas.List.Quantifiers.{all_pairs_remove}
use Rattle.std.proofs.lemmas.List.Sums.{sum_by-remove, sum_by-set}
use Rattle.ats_facts.proofs.Lists.{all_left, all_right}
use Rattle.ats_num.specs.Places.{place_of}
use Rattle.ats_num.proofs.Numbered.{place_of-lt}
use Rattle.ats_topology.specs.Node.{AreApart}
use Rattle.ats_topology.specs.Topology.{DeclaredTopology}
use Rattle.ats_streams.specs.Branches.{AreShort, routes_of}
use Rattle.ats_streams.specs.Rules.{CoversLongest, IsBurst}
use Rattle.ats_streams.specs.declared.branch.Branch.{Branch}
use Rattle.ats_streams.specs.Stream.{DeclaredStream, IsClass, IsStream, with_burst, with_class}
use Rattle.ats_network.specs.Edits.{less_at, no_stream, with_burst_at, with_class_at, without_named}
use Rattle.ats_network.specs.Network.{AreIdentified, DeclaredNetwork, HasShortRoutes, IsNetwork, Share}
use Rattle.ats_network.specs.Path.{IsTree}
use Rattle.ats_network.specs.Rates.{HasRates}
use Rattle.ats_network.specs.Sender.{Sender, stream_sender, flow_sender}
use Rattle.ats_network.specs.Tables.{flow_names, stream_identities, stream_names}
use Rattle.ats_network.proofs.NameLemmas.{apart_from_pairs, names_of-senders, pairs_from_apart}
use Rattle.ats_network.proofs.Rated.{burst_of_rates, classed_rates}
use Rattle.ats_network.proofs.TableLemmas.{map-remove}

abbrev name : DeclaredStream → List ℕ
name s = s.name

abbrev many : DeclaredStream → ℕ
many s = length s.ports

abbrev identity : DeclaredStream → Option (ℕ × ℕ)
identity s = s.identity

abbrev Goes : DeclaredTopology → Sender → Type 0
Goes topology s = IsTree topology s.ports s.branches

-- a stream with another class keeps a stream's rules
is_classed : (s : DeclaredStream) (class : ℕ) → IsStream s → IsClass class → IsStream (with_class s class)
is_classed s class is valid = record {
  classes = All-replicate IsClass (length s.ports) class valid;
  each_port = length-replicate (length s.ports) class;
  rules = is.rules;
  branches = is.branches;
  routes = is.routes;
  deadline = is.deadline;
  identity = is.identity;
}

-- whether identities are apart is seen from what streams declare
identified_alike : (xs ys : List DeclaredStream) → stream_identities ys ≡ stream_identities xs → AreIdentified xs
    → AreIdentified ys
identified_alike xs ys same apart i j d before within it shared =
    apart i j d before (omega (arith, many, within)) it (record {
      one = at i (omega (arith, before, within)) ∙ shared.one;
      other = at j within ∙ shared.other;
    })
  where
    many : length ys ≡ length xs
    many = sym (length-map ys identity) ∙ ap length same ∙ length-map xs identity

    at : (k : ℕ) → k < length ys → (get_or xs k d).identity ≡ (get_or ys k d).identity
    at k below =
        sym (get_or-map identity xs k d None (omega (arith, many, below)))
        ∙ ap (λ (l : List (Option (ℕ × ℕ))). get_or l k None) (sym same) ∙ get_or-map identity ys k d None below

-- a stream with another burst, which covers its longest frame, keeps a stream's rules
is_burst_changed : (s : DeclaredStream) (burst_bits : ℕ) → IsStream s → CoversLongest burst_bits s.max_octets
    → IsBurst burst_bits → IsStream (with_burst s burst_bits)
is_burst_changed s burst_bits is covers most = record {
  classes = is.classes;
  each_port = is.each_port;
  rules = record { rate = is.rules.rate; sizes = is.rules.sizes; covers = covers; burst = most };
  branches = is.branches;
  routes = is.routes;
  deadline = is.deadline;
  identity = is.identity;
}

-- a network in which another stream with the same name, ports, branches and identity, and with its rates, stands in the
-- place of one keeps what a network keeps
replaced_network : (network : DeclaredNetwork) (n : ℕ) (it : DeclaredStream) → IsNetwork network
    → n < length network.streams → IsStream it → it.name ≡ (get_or network.streams n no_stream).name
    → it.ports ≡ (get_or network.streams n no_stream).ports
    → it.branches ≡ (get_or network.streams n no_stream).branches
    → it.identity ≡ (get_or network.streams n no_stream).identity → HasRates network.topology it
    → IsNetwork (record network {
      streams = set
          network.streams n it;
    })
replaced_network network n it is within keeps same_name same_ports same_branches same_identity rated = record {
  topology = is.topology;
  streams = All-set IsStream network.streams n it keeps is.streams;
  flows = is.flows;
  trees =
      rw (map-set stream_sender network.streams n it)
      (All-append (Goes network.topology) (set streams n (stream_sender it)) flows
      (All-set (Goes network.topology) streams n (stream_sender it) tree left)
      (all_right (Goes network.topology) streams flows is.trees));
  names = subst AreApart (sym (names_of-senders (record network { streams = set network.streams n it })
      ∙ ap (λ (t : List (List ℕ)). t ++ flow_names network.flows)
      (map-set_same name network.streams n it no_stream same_name) ∙ sym (names_of-senders network))) is.names;
  identities = identified_alike network.streams (set network.streams n it)
      (map-set_same identity network.streams n it no_stream same_identity) is.identities;
  few_streams = omega (arith, length-set network.streams n it, is.few_streams);
  few_flows = is.few_flows;
  few_ports = omega (arith, sum_by-set many network.streams n it no_stream within, ap length same_ports, is.few_ports);
  most_ports = is.most_ports;
  short_streams =
      All-set (HasShortRoutes network.most_ports) network.streams n it short is.short_streams;
  short_flows = is.short_flows;
  rates = All-set (HasRates network.topology) network.streams n it rated is.rates;
}
  where
    streams : List Sender
    streams = map stream_sender network.streams

    flows : List Sender
    flows = map flow_sender network.flows

    left : All (Goes network.topology) (map stream_sender network.streams)
    left = all_left (Goes network.topology) (map stream_sender network.streams) (map flow_sender network.flows) is.trees

    before : IsTree network.topology (get_or network.streams n no_stream).ports
        (get_or network.streams n no_stream).branches
    before = subst (Goes network.topology)
        (get_or-map stream_sender network.streams n no_stream (stream_sender no_stream) within)
        (left n (stream_sender no_stream) (omega (arith, length-map network.streams stream_sender, within)))

    short : HasShortRoutes network.most_ports it
    short = subst (λ (ports : List ℕ). AreShort network.most_ports (routes_of ports it.branches)) (sym same_ports)
        (subst (λ (branches : List Branch). AreShort network.most_ports
        (routes_of (get_or network.streams n no_stream).ports branches)) (sym same_branches)
        (is.short_streams n no_stream within))

    tree : IsTree network.topology it.ports it.branches
    tree = subst (λ (ports : List ℕ). IsTree network.topology ports it.branches) (sym same_ports)
        (subst (IsTree network.topology (get_or network.streams n no_stream).ports) (sym same_branches) before)

-- a network in which a stream has another class keeps what a network keeps
pub classed_network : (network : DeclaredNetwork) (n class : ℕ) → IsNetwork network → n < length network.streams
    → IsClass class → IsNetwork (with_class_at network n class)
classed_network network n class is within valid =
    let before : DeclaredStream = get_or network.streams n no_stream in
    replaced_network network n (with_class before class) is within
    (is_classed before class (is.streams n no_stream within) valid) refl refl refl refl
    (classed_rates network.topology before class (is.rates n no_stream within))

-- a network in which a stream has another burst, which covers its longest frame and leaves it its rates, keeps what a
-- network keeps
pub burst_changed_network : (network : DeclaredNetwork) (n burst_bits : ℕ) → IsNetwork network
    → n < length network.streams → CoversLongest burst_bits (get_or network.streams n no_stream).max_octets
    → HasRates network.topology (with_burst (get_or network.streams n no_stream) burst_bits)
    → IsNetwork (with_burst_at network n burst_bits)
burst_changed_network network n burst_bits is within covers rates =
    let before : DeclaredStream = get_or network.streams n no_stream in
    let keeps : IsStream before = is.streams n no_stream within in
    replaced_network network n (with_burst before burst_bits) is within
    (is_burst_changed before burst_bits keeps covers
    (burst_of_rates network.topology before burst_bits is.topology keeps rates)) refl refl refl refl rates

-- what holds of each element holds of each of the others without one
all_remove : {X : Type 0} (P : X → Type 0) (xs : List X) (n : ℕ) → n < length xs → All P xs → All P (remove xs n)
all_remove P [] n within all = absurd (omega arith)
all_remove P (x ∷ xs) zero within all = All-tail P x xs all
all_remove P (x ∷ xs) (suc n) within all =
    All-cons P x (remove xs n) (All-head P x xs all) (all_remove P xs n (omega arith) (All-tail P x xs all))

-- an element of the first of two joined lists is taken out of the first
remove-append : {X : Type 0} (xs ys : List X) (n : ℕ) → n < length xs → remove (xs ++ ys) n ≡ remove xs n ++ ys
remove-append [] ys n within = absurd (omega arith)
remove-append (x ∷ xs) ys zero within = refl
remove-append (x ∷ xs) ys (suc n) within = ap (λ (t : List _). x ∷ t) (remove-append xs ys n (omega arith))

-- names stay apart where one is taken out, and where all behind them are
apart_less : (xs ys : List (List ℕ)) (n : ℕ) → n < length xs → AreApart (xs ++ ys) → AreApart (remove xs n ++ ys)
apart_less xs ys n within apart =
    subst AreApart (remove-append xs ys n within)
    (apart_from_pairs (remove (xs ++ ys) n)
    (all_pairs_remove (λ a b. a ≢ b) (xs ++ ys) n (omega (arith, length-append xs ys, within))
    (pairs_from_apart (xs ++ ys) apart)))

apart_first : (xs ys : List (List ℕ)) → AreApart (xs ++ ys) → AreApart xs
apart_first xs ys apart = apart_from_pairs xs (λ i j d before within same. pairs_from_apart
    (xs ++ ys) apart i j d before
    (omega (arith, length-append xs ys, within))
    (get_or_append_left xs ys d i (omega (arith, before, within)) ∙ same ∙ sym (get_or_append_left xs ys d j within)))

-- the names of a network's streams are apart
pub streams_apart : (network : DeclaredNetwork) → IsNetwork network → AreApart (stream_names network.streams)
streams_apart network is = apart_first (stream_names network.streams) (flow_names network.flows)
    (subst AreApart (names_of-senders network) is.names)

-- a network without one of its streams keeps what a network keeps
less_network : (network : DeclaredNetwork) (n : ℕ) → IsNetwork network → n < length network.streams
    → IsNetwork (record network { streams = remove network.streams n })
less_network network n is within = record {
  topology = is.topology;
  streams = all_remove IsStream network.streams n within is.streams;
  flows = is.flows;
  trees =
      rw (map-remove stream_sender network.streams n)
      (All-append (Goes network.topology) (remove streams n) flows
      (all_remove (Goes network.topology) streams n (omega (arith, length-map network.streams stream_sender, within))
      (all_left (Goes network.topology) streams flows is.trees))
      (all_right (Goes network.topology) streams flows is.trees));
  names = subst AreApart (sym (names_of-senders (record network { streams = remove network.streams n })
      ∙ ap (λ (t : List (List ℕ)). t ++ flow_names network.flows) (map-remove name network.streams n)))
      (apart_less (stream_names network.streams) (flow_names network.flows) n
      (omega (arith, length-map network.streams name, within)) (subst AreApart (names_of-senders network) is.names));
  identities =
      all_pairs_remove (λ (s t : DeclaredStream). (it : ℕ × ℕ) → ¬ Share s t it) network.streams n within is.identities;
  few_streams = let less : length (remove network.streams n) + 1 ≡ length network.streams =
      length-remove network.streams n within in
      omega (arith, less, is.few_streams);
  few_flows = is.few_flows;
  few_ports = omega (arith, sum_by-remove many network.streams n no_stream within, is.few_ports);
  most_ports = is.most_ports;
  short_streams = all_remove (HasShortRoutes network.most_ports) network.streams n within is.short_streams;
  short_flows = is.short_flows;
  rates = all_remove (HasRates network.topology) network.streams n within is.rates;
}
  where
    streams : List Sender
    streams = map stream_sender network.streams

    flows : List Sender
    flows = map flow_sender network.flows

-- a network without the stream that has a name, where one has it, keeps what a network keeps
pub without_network : (network : DeclaredNetwork) (q : List ℕ) → IsNetwork network
    → IsNetwork (without_named network q)
without_network network q is = by (place_of q (stream_names network.streams)) refl
  where
    by : (o : Option ℕ) → place_of q (stream_names network.streams) ≡ o
        → IsNetwork (record network { streams = less_at o network.streams })
    by None e = is
    by (Some n) e = less_network network n is
        (omega (arith, place_of-lt q (stream_names network.streams) n e, length-map network.streams name))
