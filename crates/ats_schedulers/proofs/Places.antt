-- Where the schedulers of streams stand.
use Rattle.std.proofs.Common.{◌≡◌, ◌∙◌, ℕ, zero, suc, ◌+◌, ◌-◌, ◌<◌, ◌≤◌, List, [], ◌∷◌, length, get_or, map, take}
use Rattle.std.proofs.Common.{refl, sym, ap, subst, arith, None, ◌⊎◌, inl, inr}
use Rattle.std.specs.List.{flat_map}
use Rattle.std.proofs.lemmas.Bool.{cases_order}
use Rattle.std.proofs.lemmas.List.{get_or-map, get_or-take, get_or_append_left, get_or_default, length-append}
use Rattle.std.proofs.lemmas.List.{length-map, length-take}
use Rattle.std.proofs.lemmas.List.Concat.{get_or-flat_map}
use Rattle.std.proofs.lemmas.List.Folds.{length-flat_map-take}
use Rattle.std.proofs.lemmas.List.FromFn.{get_or-map-range_with_len, length-map-range_with_len}
use Rattle.ats_group.specs.GroupsState.{member_at, no_member}
use Rattle.ats_streams.specs.Branches.{first_from, leg_at, legs_of}
use Rattle.ats_streams.specs.Stream.{DeclaredStream}
use Rattle.ats_streams.proofs.BranchLemmas.{legs-length}
use Rattle.ats_topology.specs.Topology.{DeclaredTopology}
use Rattle.ats_network.specs.Network.{DeclaredNetwork, IsNetwork, senders_of}
use Rattle.ats_network.specs.Sender.{Sender, stream_sender, flow_sender}
use Rattle.ats_network.specs.Senders.{IsSender, no_sender, sender_at}
use Rattle.ats_network.proofs.SenderLemmas.{each_is_sender}
use Rattle.ats_schedulers.specs.Inside.{firsts_of}
use Rattle.ats_schedulers.specs.Laws.{SchedulersAreApart}
use Rattle.ats_schedulers.specs.Schedulers.{IsHop, first_in, first_of, leg_members, leg_ports, member_behind}
use Rattle.ats_schedulers.specs.Schedulers.{members_of, ports_to_bridges, scheduler_of, stream_members}
use Rattle.ats_schedulers.proofs.LegPlaces.{counted_before, leg_count}
use Rattle.ats_schedulers.proofs.Listing.{members_few}

pub no_stream : DeclaredStream
no_stream = record {
  name = [];
  ports = [];
  branches = [];
  classes = [];
  rate = 0;
  burst_bits = 0;
  min_octets = 0;
  max_octets = 0;
  deadline_ns = 0;
  identity = None;
}

pub stream_at : DeclaredNetwork → ℕ → DeclaredStream
stream_at network stream = get_or network.streams stream no_stream

-- the first senders are the streams
sender_is : (network : DeclaredNetwork) (stream : ℕ) → stream < length network.streams
    → sender_at network stream ≡ stream_sender (stream_at network stream)
unfolding stream_at
sender_is network stream within =
    let senders : List Sender = map stream_sender network.streams in
    let long : length senders ≡ length network.streams = simp length-map in
    get_or_append_left senders (map flow_sender network.flows) no_sender stream (omega arith)
    ∙ get_or-map stream_sender network.streams stream no_stream no_sender within

-- a sender has a leg for its trunk and one for each branch
in_legs : (s : Sender) (leg : ℕ) → leg ≤ length s.branches → leg < length (legs_of s.ports s.branches)
in_legs s leg within = omega (arith, legs-length 0 s.ports s.branches, within)

-- a hop's scheduler is one of its leg's, and its leg's are some of its stream's
pub record InStream (network : DeclaredNetwork) (stream leg hop : ℕ) : Type 0 where
  pub own : hop - 1 < length (leg_members network.topology (sender_at network stream) (leg_ports network stream leg))
  pub within : first_in network.topology (sender_at network stream) leg + (hop - 1)
      < length (stream_members network.topology (stream_at network stream))

in_stream : (network : DeclaredNetwork) (stream leg hop : ℕ) → IsHop network stream leg hop
    → InStream network stream leg hop
unfolding stream_at
in_stream network stream leg hop is =
    let s : Sender = sender_at network stream in
    let legs : List (List ℕ) = legs_of s.ports s.branches in
    let own : hop - 1 < length (leg_members network.topology s (leg_at legs leg)) =
    omega (arith, leg_count network.topology s (leg_at legs leg), is.later, is.within) in
    let whole = length-flat_map-take (leg_members network.topology s) legs leg [] (in_legs s leg is.of_stream) in
    let same : length (flat_map (leg_members network.topology s) legs)
    ≡ length (stream_members network.topology (stream_at network stream)) =
    ap (λ (t : Sender). length (flat_map (leg_members network.topology t) (legs_of t.ports t.branches)))
    (sender_is network stream is.exists) in
    record { own = own; within = omega (arith, whole, own, same) }

-- a hop's scheduler is one of the network's
pub scheduler_within : (network : DeclaredNetwork) (stream leg hop : ℕ) → IsHop network stream leg hop
    → scheduler_of network stream leg hop < length (members_of network)
unfolding stream_at
scheduler_within network stream leg hop is =
    let whole = length-flat_map-take (stream_members network.topology) network.streams stream no_stream is.exists in
    omega (arith, whole, (in_stream network stream leg hop is).within)

-- it is the one behind the port before the hop
pub scheduler_there : (network : DeclaredNetwork) (stream leg hop : ℕ) → IsHop network stream leg hop
    → member_at (members_of network) (scheduler_of network stream leg hop)
    ≡ member_behind network.topology (sender_at network stream) (get_or (leg_ports network stream leg) (hop - 1) 0)
unfolding stream_at
scheduler_there network stream leg hop is =
    let own : DeclaredStream = stream_at network stream in
    let s : Sender = sender_at network stream in
    let same : s ≡ stream_sender own = sender_is network stream is.exists in
    let legs : List (List ℕ) = legs_of s.ports s.branches in
    let path : List ℕ = leg_at legs leg in
    let place = in_stream network stream leg hop is in
    let at : scheduler_of network stream leg hop
    ≡ first_of network.topology network.streams stream + (first_in network.topology s leg + (hop - 1)) = omega arith in
    let in_all : member_at (members_of network)
    (first_of network.topology network.streams stream + (first_in network.topology s leg + (hop - 1)))
    ≡ member_at (stream_members network.topology own) (first_in network.topology s leg + (hop - 1)) =
    get_or-flat_map (stream_members network.topology) network.streams stream
    (first_in network.topology s leg + (hop - 1)) no_stream no_member is.exists
    place.within in
    let in_own : member_at (flat_map (leg_members network.topology s) legs)
    (first_in network.topology s leg + (hop - 1))
    ≡ member_at (leg_members network.topology s path) (hop - 1) =
    get_or-flat_map (leg_members network.topology s) legs leg (hop - 1) [] no_member (in_legs s leg is.of_stream)
    place.own in
    let cut = length-take (length path - 1) path in
    ap (member_at (members_of network)) at
    ∙ in_all
    ∙ sym (ap (λ (t : Sender). member_at (flat_map (leg_members network.topology t) (legs_of t.ports t.branches))
    (first_in network.topology s leg + (hop - 1))) same)
    ∙ in_own
    ∙ get_or-map (member_behind network.topology s) (ports_to_bridges path) (hop - 1) 0 no_member
    (omega (arith, cut, is.later, is.within))
    ∙ ap (member_behind network.topology s) (get_or-take (length path - 1) path (hop - 1) 0
    (omega (arith, is.later, is.within)))

-- the place that is kept for a stream
pub first_there : (topology : DeclaredTopology) (streams : List DeclaredStream) (firsts : List ℕ) (stream d : ℕ)
    → firsts ≡ firsts_of topology streams
    → stream < length streams → get_or firsts stream d ≡ first_of topology streams stream
first_there topology streams firsts stream d kept within =
    rw kept (get_or-map-range_with_len (first_of topology streams) 0 (length streams) stream stream d within
    (omega arith))

-- each stream has one
pub firsts_long : (topology : DeclaredTopology) (streams : List DeclaredStream) (firsts : List ℕ)
    → firsts ≡ firsts_of topology streams
    → length firsts ≡ length streams
firsts_long topology streams firsts kept =
    rw kept (length-map-range_with_len (first_of topology streams) 0 (length streams))

-- what is known of a place that is made of a stream's first one
pub record IsPlace (network : DeclaredNetwork) (stream leg hop made : ℕ) : Type 0 where
  pub place : made ≡ scheduler_of network stream leg hop
  pub within : made < length (members_of network)
  pub small : made < 100000
  pub member : member_at (members_of network) made
      ≡ member_behind network.topology (sender_at network stream) (get_or (leg_ports network stream leg) (hop - 1) 0)

-- the schedulers of the legs before one are as many as their ports, but one for each
before_is : (network : DeclaredNetwork) (stream leg : ℕ) → IsNetwork network → stream < length network.streams
    → leg ≤ length (sender_at network stream).branches
    → first_in network.topology (sender_at network stream) leg + leg
    ≡ first_from 0 (sender_at network stream).branches leg
before_is network stream leg rules exists within =
    let s : Sender = sender_at network stream in
    let senders : stream < length (senders_of network) =
    omega (
      arith,
      exists,
      length-append (map stream_sender network.streams) (map flow_sender network.flows),
      length-map network.streams stream_sender,
    ) in
    let is : IsSender network.topology s = each_is_sender network rules stream no_sender senders in
    omega (arith, counted_before network.topology s 0 s.ports s.branches leg is.branches.places within)

pub placed : (network inside : DeclaredNetwork) (firsts items : List ℕ) (stream leg hop ports d : ℕ)
    → network ≡ inside → items ≡ firsts → firsts ≡ firsts_of inside.topology inside.streams → IsNetwork inside
    → IsHop network stream leg hop → ports ≡ first_from 0 (sender_at network stream).branches leg
    → IsPlace network stream leg hop (get_or items stream d + (ports - leg) + (hop - 1))
placed network inside firsts items stream leg hop ports d e i kept rules is first =
    let exists : stream < length inside.streams =
    subst (λ (n : DeclaredNetwork). stream < length n.streams) e is.exists in
    let read : get_or items stream d ≡ first_of network.topology network.streams stream =
    ap (λ (places : List ℕ). get_or places stream d) i
    ∙ first_there inside.topology inside.streams firsts stream d kept exists
    ∙ sym (ap (λ (n : DeclaredNetwork). first_of n.topology n.streams stream) e) in
    let lawful : IsNetwork network = subst IsNetwork (sym e) rules in
    let before = before_is network stream leg lawful is.exists is.of_stream in
    let place : get_or items stream d + (ports - leg) + (hop - 1) ≡ scheduler_of network stream leg hop =
    omega (arith, read, before, first) in
    let within = scheduler_within network stream leg hop is in
    let few = members_few network lawful in
    record {
      place = place;
      within = subst (λ (p : ℕ). p < length (members_of network)) (sym place) within;
      small = subst (λ (p : ℕ). p < 100000) (sym place) (omega (arith, within, few));
      member = ap (member_at (members_of network)) place ∙ scheduler_there network stream leg hop is;
    }

-- the first port of a leg, by the stream that was looked up
pub first_here : (network inside : DeclaredNetwork) (streams : List DeclaredStream) (stream leg ports : ℕ)
    (s : DeclaredStream) → network ≡ inside → streams ≡ inside.streams → s ≡ get_or streams stream s
    → stream < length network.streams → ports ≡ first_from 0 s.branches leg
    → ports ≡ first_from 0 (sender_at network stream).branches leg
unfolding stream_at
first_here network inside streams stream leg ports s e read is exists first =
    let all : streams ≡ network.streams = read ∙ sym (ap (λ (n : DeclaredNetwork). n.streams) e) in
    let below : stream < length streams =
    omega (arith, exists, ap (λ (ss : List DeclaredStream). length ss) all) in
    let same : s ≡ stream_at network stream =
    is ∙ get_or_default streams stream s no_stream below
    ∙ ap (λ (ss : List DeclaredStream). get_or ss stream no_stream) all in
    first
    ∙ ap (λ (t : Sender). first_from 0 t.branches leg)
    (ap stream_sender same ∙ sym (sender_is network stream exists))

-- a leg begins no earlier than it has a number
pub no_less : (network : DeclaredNetwork) (stream leg ports : ℕ) → IsNetwork network
    → stream < length network.streams → leg ≤ length (sender_at network stream).branches
    → ports ≡ first_from 0 (sender_at network stream).branches leg → leg ≤ ports
no_less network stream leg ports rules exists within first =
    omega (arith, before_is network stream leg rules exists within, first)

-- and that there is one
pub place_there : (network inside : DeclaredNetwork) (firsts items : List ℕ) (stream : ℕ) → network ≡ inside
    → items ≡ firsts → firsts ≡ firsts_of inside.topology inside.streams → stream < length network.streams
    → stream < length items
place_there network inside firsts items stream e i kept exists =
    let same = ap (λ (n : DeclaredNetwork). length n.streams) e in
    let long = firsts_long inside.topology inside.streams firsts kept in
    let read = ap (λ (places : List ℕ). length places) i in
    omega (arith, same, long, read, exists)

-- a stream's schedulers come before those of each later stream
before_later : (network : DeclaredNetwork) (stream other leg hop : ℕ) → IsHop network stream leg hop → stream < other
    → other < length network.streams
    → scheduler_of network stream leg hop < first_of network.topology network.streams other
unfolding stream_at
before_later network stream other leg hop is earlier within =
    let front : List DeclaredStream = take other network.streams in
    let long : length front ≡ other = length-take-within other network.streams within in
    let whole = length-flat_map-take (stream_members network.topology) front stream no_stream
    (omega (arith, long, earlier)) in
    let shorter : take stream front ≡ take stream network.streams =
    take_of_take stream other network.streams (omega arith) in
    let same : get_or front stream no_stream ≡ stream_at network stream =
    get_or-take other network.streams stream no_stream earlier in
    let first : length (flat_map (stream_members network.topology) (take stream front))
    ≡ first_of network.topology network.streams stream =
    ap (λ (streams : List DeclaredStream). length (flat_map (stream_members network.topology) streams)) shorter in
    let own : length (stream_members network.topology (get_or front stream no_stream))
    ≡ length (stream_members network.topology (stream_at network stream)) =
    ap (λ (s : DeclaredStream). length (stream_members network.topology s)) same in
    omega (arith, whole, first, own, (in_stream network stream leg hop is).within)
  where
    length-take-within : (n : ℕ) (streams : List DeclaredStream) → n < length streams → length (take n streams) ≡ n
    length-take-within n streams below = let cut = length-take n streams in omega (arith, cut)

    take_of_take : (i j : ℕ) (streams : List DeclaredStream) → i ≤ j → take i (take j streams) ≡ take i streams
    take_of_take zero j streams less = refl
    take_of_take (suc i) zero streams less = absurd (omega arith)
    take_of_take (suc i) (suc j) [] less = refl
    take_of_take (suc i) (suc j) (s ∷ streams) less =
        ap (λ (rest : List DeclaredStream). s ∷ rest) (take_of_take i j streams (omega arith))

-- and those of a leg before those of each later leg
leg_before : (network : DeclaredNetwork) (stream leg next hop : ℕ) → IsNetwork network → IsHop network stream leg hop
    → leg < next → next ≤ length (sender_at network stream).branches
    → first_in network.topology (sender_at network stream) leg + (hop - 1)
    < first_in network.topology (sender_at network stream) next
leg_before network stream leg next hop rules is earlier within =
    let s : Sender = sender_at network stream in
    let legs : List (List ℕ) = legs_of s.ports s.branches in
    let front : List (List ℕ) = take next legs in
    let long : length front ≡ next = omega (arith, length-take next legs, in_legs s next within) in
    let whole = length-flat_map-take (leg_members network.topology s) front leg [] (omega (arith, long, earlier)) in
    let shorter : take leg front ≡ take leg legs = take_of_legs leg next legs (omega (arith, earlier)) in
    let same : get_or front leg [] ≡ leg_at legs leg = get_or-take next legs leg [] earlier in
    omega (
      arith,
      whole,
      ap (λ (l : List (List ℕ)). length (flat_map (leg_members network.topology s) l)) shorter,
      ap (λ (l : List ℕ). length (leg_members network.topology s l)) same,
      (in_stream network stream leg hop is).own,
    )
  where
    take_of_legs : (i j : ℕ) (xs : List (List ℕ)) → i ≤ j → take i (take j xs) ≡ take i xs
    take_of_legs zero j xs less = refl
    take_of_legs (suc i) zero xs less = absurd (omega arith)
    take_of_legs (suc i) (suc j) [] less = refl
    take_of_legs (suc i) (suc j) (x ∷ xs) less =
        ap (λ (rest : List (List ℕ)). x ∷ rest) (take_of_legs i j xs (omega arith))

pub schedulers_are_apart : SchedulersAreApart
schedulers_are_apart network stream other leg next hop later rules is is_too same = by (cases_order stream other)
  where
    in_one : stream ≡ other → (stream ≡ other) × (leg ≡ next) × (hop ≡ later)
    in_one e =
        let there : IsHop network stream next later =
        subst (λ (n : ℕ). IsHop network n next later) (sym e) is_too in
        let equal : scheduler_of network stream leg hop ≡ scheduler_of network stream next later =
        same ∙ ap (λ (n : ℕ). scheduler_of network n next later) (sym e) in
        let own = legs (cases_order leg next) there equal in
        (e, own.0, own.1)
      where
        legs : (leg ≡ next) ⊎ ((leg < next) ⊎ (next < leg)) → IsHop network stream next later
            → scheduler_of network stream leg hop ≡ scheduler_of network stream next later
            → (leg ≡ next) × (hop ≡ later)
        legs (inl l) there equal = (
          l,
          omega (arith, equal, ap (first_in network.topology (sender_at network stream)) l, is.later, there.later),
        )
        legs (inr (inl l)) there equal =
            absurd (omega (arith, equal, leg_before network stream leg next hop rules is l there.of_stream))
        legs (inr (inr l)) there equal =
            absurd (omega (arith, equal, leg_before network stream next leg later rules there l is.of_stream))

    low : stream < other → (stream ≡ other) × (leg ≡ next) × (hop ≡ later)
    low l =
        let before = before_later network stream other leg hop is l is_too.exists in
        absurd (omega (arith, before, same))

    high : other < stream → (stream ≡ other) × (leg ≡ next) × (hop ≡ later)
    high l =
        let before = before_later network other stream next later is_too l is.exists in
        absurd (omega (arith, before, same))

    by : (stream ≡ other) ⊎ ((stream < other) ⊎ (other < stream)) → (stream ≡ other) × (leg ≡ next) × (hop ≡ later)
    by (inl e) = in_one e
    by (inr (inl l)) = low l
    by (inr (inr l)) = high l
