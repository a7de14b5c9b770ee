-- The lists of residences, schedulers and first places, and one entry more.
use Rattle.std.proofs.Common.{◌≡◌, ◌∙◌, ℕ, zero, suc, ◌+◌, ◌-◌, ◌*◌, ◌<◌, ◌≤◌, List, [], ◌∷◌, ◌++◌, length}
use Rattle.std.proofs.Common.{get_or, map, take, drop}
use Rattle.std.proofs.Common.{sym, ap, subst, arith, length-append}
use Rattle.std.specs.List.{All, flat_map, range_with_len, slice_range}
use Rattle.std.proofs.lemmas.List.{append_assoc, flat_map_more, map-append, take_more}
use Rattle.std.proofs.lemmas.List.Elements.{All-append, All-cons, All-drop, All-head, All-nil, All-tail, All-take}
use Rattle.std.proofs.lemmas.List.Folds.{length-flat_map-take}
use Rattle.std.proofs.lemmas.List.FromFn.{map-range_with_len_more}
use Rattle.std.proofs.lemmas.List.Sums.{sum_by-cons}
use Rattle.ats_facts.proofs.Lists.{all_left, all_unmapped}
use Rattle.ats_group.specs.GroupsState.{IsMember}
use Rattle.ats_streams.specs.declared.traffic.Declared.{Declared}
use Rattle.ats_group.specs.declared.member.Member.{Member}
use Rattle.ats_group.specs.declared.member.TheConstants.{MAX_RESIDENCE_NS}
use Rattle.ats_topology.specs.Topology.{DeclaredTopology, IsTopology, HasLawfulPorts}
use Rattle.ats_topology.proofs.Rules.{ports_are_lawful}
use Rattle.ats_streams.specs.Branches.{legs_from}
use Rattle.ats_streams.specs.declared.branch.Branch.{Branch}
use Rattle.ats_streams.specs.Rules.{KeepsRules}
use Rattle.ats_streams.specs.Traffic.{IsRuled}
use Rattle.ats_streams.specs.Stream.{DeclaredStream, IsStream}
use Rattle.ats_streams.specs.declared.stream.TheConstants.{MAX_CLASS}
use Rattle.ats_network.specs.Network.{DeclaredNetwork, IsNetwork, ports_together}
use Rattle.ats_network.specs.Rates.{HasRates, IsRated, declared_with, scheduled_at}
use Rattle.ats_network.specs.Sender.{Sender, stream_sender, flow_sender}
use Rattle.ats_network.specs.Senders.{IsSender}
use Rattle.ats_network.specs.Class.{class_at}
use Rattle.ats_network.proofs.ClassLemmas.{class_along-at, class_at-le}
use Rattle.ats_network.proofs.RateLemmas.{committed_no_greater, declared_no_greater}
use Rattle.ats_network.proofs.SenderLemmas.{each_is_sender}
use Rattle.ats_schedulers.specs.Inside.{IsListable}
use Rattle.ats_schedulers.specs.Schedulers.{first_of, leg_members, member_behind, members_of, residence_of}
use Rattle.ats_schedulers.specs.Schedulers.{stream_members}
use Rattle.ats_schedulers.proofs.LegPlaces.{counted_all}

-- one residence more
pub residences_more : (network : DeclaredNetwork) (group : ℕ)
    → map (residence_of network) (range_with_len 0 (group + 1))
    ≡ map (residence_of network) (range_with_len 0 group) ++ residence_of network group ∷ []
residences_more network group = map-range_with_len_more (residence_of network) 0 group group (omega arith)

pub most_more : (residences : List ℕ) (r : ℕ) → All (λ (r : ℕ). r ≤ MAX_RESIDENCE_NS) residences → r ≤ MAX_RESIDENCE_NS
    → All (λ (r : ℕ). r ≤ MAX_RESIDENCE_NS) (residences ++ r ∷ [])
most_more residences r each most = All-append (λ (r : ℕ). r ≤ MAX_RESIDENCE_NS) residences (r ∷ []) each
    (All-cons (λ (r : ℕ). r ≤ MAX_RESIDENCE_NS) r [] most (All-nil (λ (r : ℕ). r ≤ MAX_RESIDENCE_NS)))

-- a topology has at most 4,096 ports
pub ports_few : (topology : DeclaredTopology) → IsTopology topology → length topology.ports ≤ 4096
ports_few topology is =
    let kept : HasLawfulPorts topology = ports_are_lawful topology is in
    omega (arith, kept.two_each, is.few_links)

-- one first place more
pub firsts_more : (topology : DeclaredTopology) (streams : List DeclaredStream) (i : ℕ)
    → map (first_of topology streams) (range_with_len 0 (i + 1))
    ≡ map (first_of topology streams) (range_with_len 0 i) ++ first_of topology streams i ∷ []
firsts_more topology streams i = map-range_with_len_more (first_of topology streams) 0 i i (omega arith)

-- the scheduler behind the port of a hop, by the class at this hop
pub member_is : (topology : DeclaredTopology) (stream : DeclaredStream) (hop : ℕ) (made : Member)
    → IsListable topology stream
    → length stream.classes ≡ length stream.ports → hop < length stream.ports
    → made.group ≡ 8 * get_or stream.ports hop 0 + get_or stream.classes hop 0
    → made.declared ≡ declared_with (scheduled_at topology (get_or stream.ports hop 0) (stream_sender stream))
    (stream_sender stream)
    → made ≡ member_behind topology (stream_sender stream) (get_or stream.ports hop 0)
member_is topology stream hop made is many within group declared =
    let class = class_along-at stream.ports stream.classes hop is.apart many within in
    ap (λ (n : ℕ). record { group = n; declared = made.declared })
    (group ∙ ap (λ (c : ℕ). 8 * get_or stream.ports hop 0 + c) (sym class))
    ∙ ap (λ (d : Declared). record {
      group = (member_behind topology (stream_sender stream) (get_or stream.ports hop 0)).group;
      declared = d;
    }) declared

-- each stream of a network may be listed
pub each_listable : (network : DeclaredNetwork) → IsNetwork network
    → All (IsListable network.topology) network.streams
each_listable network is =
    let Is : Sender → Type 0 = IsSender network.topology in
    let streams : List Sender = map stream_sender network.streams in
    let flows : List Sender = map flow_sender network.flows in
    λ k d lt.
    let sender : IsSender network.topology (stream_sender (get_or network.streams k d)) =
    all_unmapped Is stream_sender network.streams (all_left Is streams flows (each_is_sender network is)) k d lt in
    record {
      apart = sender.apart;
      few = λ j e within. below (get_or (get_or network.streams k d).ports j e) (length network.topology.ports)
          (sender.ports j e within) (ports_few network.topology is.topology);
      rates = is.rates k d lt;
    }
  where
    below : (p n : ℕ) → p < n → n ≤ 4096 → p < 4096
    below p n within few = omega arith

-- streams have at most as many schedulers as they have ports together
all_few : (topology : DeclaredTopology) (streams : List DeclaredStream) → All IsStream streams
    → length (flat_map (stream_members topology) streams) ≤ ports_together streams
all_few topology [] each = omega arith
all_few topology (s ∷ streams) each =
    omega (
      arith,
      length-append (stream_members topology s) (flat_map (stream_members topology) streams),
      counted_all topology (stream_sender s) 0 s.ports s.branches (All-head IsStream s streams each).branches.places,
      sum_by-cons (λ (t : DeclaredStream). length t.ports) s streams,
      all_few topology streams (All-tail IsStream s streams each),
    )

-- and those of a network fewer than 100,000
pub members_few : (network : DeclaredNetwork) → IsNetwork network
    → length (flat_map (stream_members network.topology) network.streams) < 100000
members_few network is =
    let few = all_few network.topology network.streams is.streams in omega (arith, few, is.few_ports)

-- the first streams have no more
pub so_far_few : (topology : DeclaredTopology) (streams : List DeclaredStream) (i : ℕ) (d : DeclaredStream)
    → length (flat_map (stream_members topology) streams) < 100000 → i < length streams
    → length (flat_map (stream_members topology) (take i streams)) < 100000
so_far_few topology streams i d few within =
    let less = length-flat_map-take (stream_members topology) streams i d within in omega (arith, few, less)

-- an element of a list keeps what each keeps
pub element : (topology : DeclaredTopology) (streams : List DeclaredStream) (i : ℕ) (s : DeclaredStream)
    → All (IsListable topology) streams → i < length streams → s ≡ get_or streams i s → IsListable topology s
element topology streams i s each within e = subst (IsListable topology) (sym e) (each i s within)

-- the schedulers of one stream more
pub all_more : (topology : DeclaredTopology) (streams : List DeclaredStream) (i : ℕ) (s : DeclaredStream)
    (members after : List Member)
    → i < length streams → s ≡ get_or streams i s → members ≡ flat_map (stream_members topology) (take i streams)
    → after ≡ members ++ stream_members topology s → after ≡ flat_map (stream_members topology) (take (i + 1) streams)
all_more topology streams i s members after within e so_far more =
    more ∙ ap (λ (before : List Member). before ++ stream_members topology s) so_far
    ∙ flat_map_more (stream_members topology) [] (take i streams) s
    ∙ ap (λ (x : DeclaredStream). flat_map (stream_members topology) (take i streams ++ x ∷ [])) e
    ∙ sym (ap (flat_map (stream_members topology)) (take_more streams i s within))

-- and their first place
pub places_more : (topology : DeclaredTopology) (streams : List DeclaredStream) (i n : ℕ) (members : List Member)
    (firsts after : List ℕ)
    → members ≡ flat_map (stream_members topology) (take i streams)
    → firsts ≡ map (first_of topology streams) (range_with_len 0 i) → n ≡ length members
    → after ≡ firsts ++ n ∷ [] → after ≡ map (first_of topology streams) (range_with_len 0 (i + 1))
places_more topology streams i n members firsts after so_far places count more =
    more ∙ ap (λ (before : List ℕ). before ++ n ∷ []) places
    ∙ ap (λ (k : ℕ). map (first_of topology streams) (range_with_len 0 i) ++ k ∷ []) (count ∙ ap length so_far)
    ∙ sym (firsts_more topology streams i)

-- one port more of a leg
pub port_more : (topology : DeclaredTopology) (s : Sender) (path : List ℕ) (hop : ℕ) (front members after : List Member)
    (m : Member)
    → hop < length path → members ≡ front ++ map (member_behind topology s) (take hop path) → after ≡ members ++ m ∷ []
    → m ≡ member_behind topology s (get_or path hop 0)
    → after ≡ front ++ map (member_behind topology s) (take (hop + 1) path)
port_more topology s path hop front members after m within so_far more is =
    let before : List Member = map (member_behind topology s) (take hop path) in
    more ∙ ap (λ (ms : List Member). ms ++ m ∷ []) so_far
    ∙ append_assoc front before (m ∷ [])
    ∙ ap (λ (own : List Member). front ++ own)
    (ap (λ (x : Member). before ++ x ∷ []) is
    ∙ sym (map-append (member_behind topology s) (take hop path) (get_or path hop 0 ∷ []))
    ∙ sym (ap (map (member_behind topology s)) (take_more path hop 0 within)))

-- one leg more
pub legs_more : (topology : DeclaredTopology) (s : Sender) (legs : List (List ℕ)) (i : ℕ)
    (front members after : List Member) → i < length legs
    → members ≡ front ++ flat_map (leg_members topology s) (take i legs)
    → after ≡ members ++ leg_members topology s (get_or legs i [])
    → after ≡ front ++ flat_map (leg_members topology s) (take (i + 1) legs)
legs_more topology s legs i front members after within so_far more =
    more ∙ ap (λ (before : List Member). before ++ leg_members topology s (get_or legs i [])) so_far
    ∙ append_assoc front (flat_map (leg_members topology s) (take i legs)) (leg_members topology s (get_or legs i []))
    ∙ ap (λ (own : List Member). front ++ own)
    (flat_map_more (leg_members topology s) [] (take i legs) (get_or legs i [])
    ∙ sym (ap (flat_map (leg_members topology s)) (take_more legs i [] within)))

-- what a scheduler of a stream has keeps the rules of a stream
ruled : (topology : DeclaredTopology) (s : Sender) (port : ℕ) → IsTopology topology
    → KeepsRules s.rate s.burst_bits s.min_octets s.max_octets → IsRated topology s port
    → IsRuled (declared_with (scheduled_at topology port s) s)
ruled topology s port is keeps rated =
    let seen = (declared_no_greater topology s port is).burst in
    let more = (committed_no_greater topology s port is).burst in
    record {
      rate = rated.scheduled.rate;
      sizes = keeps.sizes;
      covers = omega (arith, keeps.covers, seen, more);
      burst = rated.scheduled.burst;
    }

-- the schedulers of a stream are members of groups behind its ports
stream_members_are : (topology : DeclaredTopology) (ports : ℕ) (s : DeclaredStream) → IsTopology topology
    → IsStream s → HasRates topology s → All (λ class. class ≤ MAX_CLASS) s.classes → All (λ p. p < ports) s.ports
    → All (IsMember (8 * ports)) (stream_members topology s)
stream_members_are topology ports s is keeps rates classes within = over 0 s.branches
  where
    Has : ℕ → Type 0
    Has p = IsMember (8 * ports) (member_behind topology (stream_sender s) p)

    made : (p : ℕ) → p < ports → IsRated topology (stream_sender s) p → Has p
    made p below rated =
        let class : class_at (stream_sender s) p ≤ 7 = class_at-le (stream_sender s) p classes in
        record {
          group = omega (arith, below, class);
          declared = ruled topology (stream_sender s) p is keeps.rules rated;
        }

    each : All Has s.ports
    each k d h = made (get_or s.ports k d) (within k d h) (rates k d h)

    along : (n : ℕ) (path : List ℕ) → All Has path
        → All (IsMember (8 * ports)) (map (member_behind topology (stream_sender s)) (take n path))
    along zero path all = All-nil (IsMember (8 * ports))
    along (suc n) [] all = All-nil (IsMember (8 * ports))
    along (suc n) (p ∷ path) all = All-cons (IsMember (8 * ports)) (member_behind topology (stream_sender s) p)
        (map (member_behind topology (stream_sender s)) (take n path)) (All-head Has p path all)
        (along n path (All-tail Has p path all))

    leg : (path : List ℕ) → All Has path
        → All (IsMember (8 * ports)) (leg_members topology (stream_sender s) path)
    leg path all = along (length path - 1) path all

    over : (at : ℕ) (branches : List Branch)
        → All (IsMember (8 * ports)) (flat_map (leg_members topology (stream_sender s)) (legs_from at s.ports branches))
    over at [] = All-append (IsMember (8 * ports)) (leg_members topology (stream_sender s) (drop at s.ports)) []
        (leg (drop at s.ports) (All-drop Has at s.ports each)) (All-nil (IsMember (8 * ports)))
    over at (b ∷ branches) =
        let own : List ℕ = slice_range s.ports at b.first in
        All-append (IsMember (8 * ports)) (leg_members topology (stream_sender s) own)
        (flat_map (leg_members topology (stream_sender s)) (legs_from b.first s.ports branches))
        (leg own (All-take Has (b.first - at) (drop at s.ports) (All-drop Has at s.ports each)))
        (over b.first branches)

-- and so are those of all streams
pub members_are : (network : DeclaredNetwork) → IsNetwork network
    → All (IsMember (8 * length network.topology.ports)) (members_of network)
members_are network is = along network.streams is.streams is.rates
    (all_left (IsSender topology) (map stream_sender network.streams) (map flow_sender network.flows)
    (each_is_sender network is))
  where
    topology : DeclaredTopology
    topology = network.topology

    groups : ℕ
    groups = 8 * length network.topology.ports

    along : (streams : List DeclaredStream) → All IsStream streams → All (HasRates topology) streams
        → All (IsSender topology) (map stream_sender streams)
        → All (IsMember groups) (flat_map (stream_members topology) streams)
    along [] each rates senders = All-nil (IsMember groups)
    along (s ∷ streams) each rates senders =
        let sender = All-head (IsSender topology) (stream_sender s) (map stream_sender streams) senders in
        All-append (IsMember groups) (stream_members topology s) (flat_map (stream_members topology) streams)
        (stream_members_are topology (length network.topology.ports) s is.topology (All-head IsStream s streams each)
        (All-head (HasRates topology) s streams rates) sender.classes sender.ports)
        (along streams (All-tail IsStream s streams each) (All-tail (HasRates topology) s streams rates)
        (All-tail (IsSender topology) (stream_sender s) (map stream_sender streams) senders))
