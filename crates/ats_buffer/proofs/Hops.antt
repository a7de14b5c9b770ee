-- The hops of a stream, leg by leg: its ports and classes there, and what the ways to them are.
use Rattle.std.proofs.Common.{◌≡◌, ℕ, zero, suc, ◌+◌, ◌-◌, ◌<◌, ◌≤◌, List, [], ◌∷◌, ◌++◌, length, get_or, map, take}
use Rattle.std.proofs.Common.{Some, None, eqb, refl, sym, ap, ◌∙◌, subst, add-one, arith, length-append}
use Rattle.std.specs.Prelude.{Option, unwrap_or}
use Rattle.std.specs.List.{concat}
use Rattle.std.proofs.Math.Seq.{take-append-add}
use Rattle.std.proofs.lemmas.List.{get_or-map, get_or_append_left, get_or_default, length-map, take_all}
use Rattle.std.proofs.lemmas.List.Folds.{list_any_at}
use Rattle.std.proofs.lemmas.Bool.{eq-eqb}
use Rattle.std.proofs.lemmas.Option.{same_Some}
use Rattle.ats_class_table.specs.Table.{Sets, Table, value_at}
use Rattle.ats_clock.specs.declared.committed.Committed.{Committed}
use Rattle.ats_topology.specs.Topology.{DeclaredTopology}
use Rattle.ats_streams.specs.Branches.{BeginsEarlier, leg_at, no_branch}
use Rattle.ats_streams.specs.Stream.{DeclaredStream}
use Rattle.ats_streams.specs.declared.branch.Branch.{Branch}
use Rattle.ats_streams.proofs.BranchLemmas.{begins_at, legs-length}
use Rattle.ats_network.specs.Sender.{Sender, stream_sender, flow_sender}
use Rattle.ats_network.specs.Class.{class_at, port_before}
use Rattle.ats_network.specs.Network.{DeclaredNetwork, IsNetwork, senders_of}
use Rattle.ats_network.specs.Edits.{no_stream}
use Rattle.ats_network.specs.Rates.{committed_at}
use Rattle.ats_network.specs.Senders.{IsSender, sender_at, no_sender}
use Rattle.ats_network.proofs.ClassLemmas.{class_at-stream}
use Rattle.ats_network.proofs.SenderLemmas.{sender_keeps}
use Rattle.ats_certificate.specs.declared.row.Row.{Row}
use Rattle.ats_trace.specs.Journey.{legs_at}
use Rattle.ats_trace.proofs.Legs.{concat-legs_of, place_first, place_is, place_next, place_of, place_within}
use Rattle.ats_route_law.specs.Laws.{before_hop, in_front_of, port_to, ports_of_leg}
use Rattle.ats_route_law.proofs.Before.{port_before_is_one}
use Rattle.ats_tally.proofs.Paths.{paths_apart}
use Rattle.ats_buffer.specs.Buffer.{counted_at, most_bits, stay_at, way_by, way_over, way_behind, way_to}
use Rattle.ats_buffer.specs.Buffer.{share_at, shares_at}
use Rattle.ats_buffer.specs.Sums.{AreAdding}
use Rattle.ats_buffer.proofs.ShareLemmas.{adding_more, before_port, stream_at}

-- the first senders are the streams
pub stream_is : (network : DeclaredNetwork) (n : ℕ) → n < length network.streams
    → sender_at network n ≡ stream_sender (stream_at network n)
stream_is network n h =
    get_or_append_left (map stream_sender network.streams) (map flow_sender network.flows) no_sender n
    (omega (arith, length-map network.streams stream_sender, h))
    ∙ get_or-map stream_sender network.streams n no_stream no_sender h

pub stream_exists : (network : DeclaredNetwork) (n : ℕ) → n < length network.streams
    → n < length (senders_of network)
stream_exists network n h =
    omega (
      arith,
      h,
      length-append (map stream_sender network.streams) (map flow_sender network.flows),
      length-map network.streams stream_sender,
    )

pub stream_keeps : (network : DeclaredNetwork) (n : ℕ) → IsNetwork network → n < length network.streams
    → IsSender network.topology (sender_at network n)
stream_keeps network n net h = sender_keeps network n net (stream_exists network n h)

-- the ports of the first legs are the first ports of all legs
front_ports : (legs : List (List ℕ)) (leg : ℕ) → leg ≤ length legs
    → concat (take leg legs) ≡ take (place_of legs leg 0) (concat legs)
front_ports [] zero within = refl
front_ports [] (suc leg) within = absurd (omega arith)
front_ports (path ∷ legs) zero within = refl
front_ports (path ∷ legs) (suc leg) within =
    ap (λ (l : List ℕ). path ++ l) (front_ports legs leg (omega arith))
    ∙ sym (take-append-add path (concat legs) (place_of legs leg 0))

-- the ports of a leg go up to those of the next one
next_leg : (legs : List (List ℕ)) (leg : ℕ) → leg < length legs
    → place_of legs leg (length (leg_at legs leg)) ≡ place_of legs (leg + 1) 0
next_leg [] leg within = absurd (omega arith)
next_leg (path ∷ legs) zero within = omega (arith, place_first legs 0)
next_leg (path ∷ legs) (suc leg) within =
    let next : suc (leg + 1) ≡ suc leg + 1 = omega arith in
    ap (λ (n : ℕ). length path + n) (next_leg legs leg (omega arith))
    ∙ ap (λ (n : ℕ). place_of (path ∷ legs) n 0) next

-- all ports of a stream, leg by leg
stream_ports : (network : DeclaredNetwork) (n : ℕ) → IsNetwork network → n < length network.streams
    → concat (legs_at network n) ≡ (stream_at network n).ports
stream_ports network n net h =
    let keeps : IsSender network.topology (sender_at network n) = stream_keeps network n net h in
    concat-legs_of (sender_at network n).ports (sender_at network n).branches keeps.branches
    ∙ ap (λ (s : Sender). s.ports) (stream_is network n h)

pub legs_many : (network : DeclaredNetwork) (n : ℕ)
    → length (legs_at network n) ≡ suc (length (sender_at network n).branches)
legs_many network n = legs-length 0 (sender_at network n).ports (sender_at network n).branches

-- before a leg those of the earlier ones are added
pub legs_before : (network : DeclaredNetwork) (rows : List Row) (n leg : ℕ) (table : Table ℕ) → IsNetwork network
    → n < length network.streams → leg ≤ length (sender_at network n).branches
    → AreAdding network rows n (concat (take leg (legs_at network n))) table
    → AreAdding network rows n (take (place_of (legs_at network n) leg 0) (stream_at network n).ports) table
legs_before network rows n leg table net h within adding =
    let legs : List (List ℕ) = legs_at network n in
    subst (λ (l : List ℕ). AreAdding network rows n l table)
    (front_ports legs leg (omega (arith, within, legs_many network n))
    ∙ ap (take (place_of legs leg 0)) (stream_ports network n net h))
    adding

-- and behind it its own
pub leg_added : (network : DeclaredNetwork) (rows : List Row) (n leg hop : ℕ) (items : List ℕ) (table : Table ℕ)
    → IsNetwork network → n < length network.streams → leg ≤ length (sender_at network n).branches
    → items ≡ leg_at (legs_at network n) leg → length items ≤ hop → hop ≤ length (leg_at (legs_at network n) leg)
    → AreAdding network rows n (take (place_of (legs_at network n) leg hop) (stream_at network n).ports) table
    → AreAdding network rows n (concat (take (leg + 1) (legs_at network n))) table
leg_added network rows n leg hop items table net h within are past least adding =
    let legs : List (List ℕ) = legs_at network n in
    let all : hop ≡ length (leg_at legs leg) =
    omega (arith, past, least, ap (λ (l : List ℕ). length l) are) in
    let below : leg < length legs = omega (arith, within, legs_many network n) in
    subst (λ (l : List ℕ). AreAdding network rows n l table)
    (ap (λ (k : ℕ). take (place_of legs leg k) (stream_at network n).ports) all
    ∙ ap (λ (k : ℕ). take k (stream_at network n).ports) (next_leg legs leg below)
    ∙ ap (take (place_of legs (leg + 1) 0)) (sym (stream_ports network n net h))
    ∙ sym (front_ports legs (leg + 1) (omega (arith, below))))
    adding

-- after the last leg all ports are added
pub legs_added : (network : DeclaredNetwork) (rows : List Row) (n leg : ℕ) (table : Table ℕ) → IsNetwork network
    → n < length network.streams → length (legs_at network n) ≤ leg
    → AreAdding network rows n (concat (take leg (legs_at network n))) table
    → AreAdding network rows n (stream_at network n).ports table
legs_added network rows n leg table net h past adding =
    subst (λ (l : List ℕ). AreAdding network rows n l table)
    (ap (λ (l : List (List ℕ)). concat l) (take_all leg (legs_at network n) past) ∙ stream_ports network n net h)
    adding

-- a hop of a leg of a stream: its port and the stream's class there, and the port's place among all of the stream's
pub record IsHop (network : DeclaredNetwork) (n leg hop port class : ℕ) : Type 0 where
  pub in_leg : hop < length (leg_at (legs_at network n) leg)
  pub within : place_of (legs_at network n) leg hop < length (stream_at network n).ports
  pub own : get_or (leg_at (legs_at network n) leg) hop 0 ≡ port
  pub there : get_or (stream_at network n).ports (place_of (legs_at network n) leg hop) 0 ≡ port
  pub inside : port < length network.topology.ports
  pub ranked : class_at (stream_sender (stream_at network n)) port ≡ class
  pub least : 1 ≤ class
  pub most : class ≤ 7

pub hop_is : (network : DeclaredNetwork) (n leg hop : ℕ) (items : List ℕ) (class : ℕ) → IsNetwork network
    → n < length network.streams → leg ≤ length (sender_at network n).branches
    → items ≡ leg_at (legs_at network n) leg → hop < length items
    → class ≡ class_at (sender_at network n) (get_or (leg_at (legs_at network n) leg) hop 0)
    → IsHop network n leg hop (get_or items hop 0) class
hop_is network n leg hop items class net h within are below class_is =
    let legs : List (List ℕ) = legs_at network n in
    let s : DeclaredStream = stream_at network n in
    let place : ℕ = place_of legs leg hop in
    let keeps : IsSender network.topology (sender_at network n) = stream_keeps network n net h in
    let in_legs : leg < length legs = omega (arith, within, legs_many network n) in
    let in_leg : hop < length (leg_at legs leg) =
    omega (arith, below, ap (λ (l : List ℕ). length l) are) in
    let own : get_or (leg_at legs leg) hop 0 ≡ get_or items hop 0 = ap (λ (l : List ℕ). get_or l hop 0) (sym are) in
    let inside : place < length s.ports =
    omega (
      arith,
      place_within legs leg hop in_legs in_leg,
      ap (λ (l : List ℕ). length l) (stream_ports network n net h),
    ) in
    let port : get_or s.ports place 0 ≡ get_or items hop 0 =
    ap (λ (l : List ℕ). get_or l place 0) (sym (stream_ports network n net h))
    ∙ place_is legs leg hop in_legs in_leg ∙ own in
    let same_ports : (sender_at network n).ports ≡ s.ports = ap (λ (x : Sender). x.ports) (stream_is network n h) in
    let among : place < length (sender_at network n).ports =
    omega (arith, inside, ap (λ (l : List ℕ). length l) same_ports) in
    let there : get_or (sender_at network n).ports place 0 ≡ get_or items hop 0 =
    ap (λ (l : List ℕ). get_or l place 0) same_ports ∙ port in
    let of_class = class_at-stream s (get_or items hop 0) (net.streams n no_stream h)
    (list_any_at (λ p. eqb p (get_or items hop 0)) s.ports place 0 inside
    (eq-eqb (get_or s.ports place 0) (get_or items hop 0) port)) in
    let ranked : class_at (stream_sender s) (get_or items hop 0) ≡ class =
    ap (λ (x : Sender). class_at x (get_or items hop 0)) (sym (stream_is network n h))
    ∙ ap (class_at (sender_at network n)) (sym own) ∙ sym class_is in
    record {
      in_leg = in_leg;
      within = inside;
      own = own;
      there = port;
      inside = subst (λ (p : ℕ). p < length network.topology.ports) there (keeps.ports place 0 among);
      ranked = ranked;
      least = omega (arith, ranked, of_class.least);
      most = omega (arith, ranked, of_class.most);
    }

-- the port before is the one in front of its hop
pub before_there : (network : DeclaredNetwork) (n leg hop port class : ℕ) (before : Option ℕ) → IsNetwork network
    → n < length network.streams → leg ≤ length (sender_at network n).branches → IsHop network n leg hop port class
    → before ≡ in_front_of (sender_at network n) leg hop
    → before ≡ port_before (stream_sender (stream_at network n)) port
before_there network n leg hop port class before net h within at is =
    let s : Sender = sender_at network n in
    is ∙ sym (port_before_is_one network.topology s leg hop (stream_keeps network n net h) within at.in_leg)
    ∙ ap (port_before s) at.own ∙ ap (λ (x : Sender). port_before x port) (stream_is network n h)

-- so the port at which the frames are counted is known
pub counted_there : (network : DeclaredNetwork) (n leg hop port class : ℕ) (before : Option ℕ) (counted : ℕ)
    → IsNetwork network → n < length network.streams → leg ≤ length (sender_at network n).branches
    → IsHop network n leg hop port class → before ≡ in_front_of (sender_at network n) leg hop
    → counted ≡ unwrap_or before port → counted ≡ counted_at (stream_sender (stream_at network n)) port
counted_there network n leg hop port class before counted net h within at is counted_is =
    counted_is ∙ ap (λ (o : Option ℕ). unwrap_or o port) (before_there network n leg hop port class before net h within
    at is)

-- and what is read is what that port sees of the stream
pub seen_there : (network : DeclaredNetwork) (n port : ℕ) (topology : DeclaredTopology) (declared : DeclaredStream)
    (counted : ℕ) (seen : Committed) → topology ≡ network.topology → declared ≡ stream_at network n
    → counted ≡ counted_at (stream_sender (stream_at network n)) port
    → seen ≡ committed_at topology counted (stream_sender declared)
    → seen ≡ committed_at network.topology (counted_at (stream_sender (stream_at network n)) port)
    (stream_sender (stream_at network n))
seen_there network n port topology declared counted seen same_topology same counted_is seen_is =
    seen_is
    ∙ ap (λ (t : DeclaredTopology). committed_at t counted (stream_sender declared)) same_topology
    ∙ ap (λ (x : DeclaredStream). committed_at network.topology counted (stream_sender x)) same
    ∙ ap (λ (p : ℕ). committed_at network.topology p (stream_sender (stream_at network n))) counted_is

-- the way to a port is that over the port before
pub way_there : (network : DeclaredNetwork) (rows : List Row) (n leg hop port class way : ℕ) → IsNetwork network
    → n < length network.streams → leg ≤ length (sender_at network n).branches → IsHop network n leg hop port class
    → way ≡ way_behind network rows (sender_at network n) (in_front_of (sender_at network n) leg hop)
    → way ≡ way_to network rows (stream_sender (stream_at network n)) port
way_there network rows n leg hop port class way net h within at is =
    let s : Sender = sender_at network n in
    is
    ∙ ap (way_behind network rows s)
    (before_there network n leg hop port class (in_front_of s leg hop) net h within at refl)
    ∙ ap (λ (x : Sender). way_behind network rows x (port_before (stream_sender (stream_at network n)) port))
    (stream_is network n h)

-- at the next hop it is this one's port
pub before_next : (network : DeclaredNetwork) (n leg hop port class : ℕ) → IsHop network n leg hop port class
    → Some port ≡ in_front_of (sender_at network n) leg (hop + 1)
before_next network n leg hop port class at =
    ap (λ (p : ℕ). Some p) (sym at.own) ∙ ap (in_front_of (sender_at network n) leg) (sym (add-one hop))

-- and the way is that over it
pub way_next : (network : DeclaredNetwork) (rows : List Row) (n leg hop port class way : ℕ)
    → n < length network.streams → IsHop network n leg hop port class → way ≡ way_by network rows port class
    → way ≡ way_behind network rows (sender_at network n) (in_front_of (sender_at network n) leg (hop + 1))
way_next network rows n leg hop port class way h at is =
    let s : Sender = sender_at network n in
    let ranked : class ≡ class_at s port =
    sym at.ranked ∙ ap (λ (x : Sender). class_at x port) (sym (stream_is network n h)) in
    is ∙ ap (way_by network rows port) ranked ∙ ap (way_over network rows s) (sym at.own)
    ∙ ap (λ (k : ℕ). way_behind network rows s (in_front_of s leg k)) (sym (add-one hop))

-- the stream that is read is that with the number
pub same_stream : (network : DeclaredNetwork) (streams : List DeclaredStream) (n : ℕ) (stream : DeclaredStream)
    → streams ≡ network.streams → n < length network.streams → stream ≡ get_or streams n stream
    → stream ≡ stream_at network n
same_stream network streams n stream same h is =
    is ∙ ap (λ (l : List DeclaredStream). get_or l n stream) same
    ∙ get_or_default network.streams n stream no_stream h

-- to the first port of a branch it is that over the port which leads to where the branch begins
front_of_branch : (s : Sender) (leg : ℕ) → 1 ≤ leg
    → in_front_of s leg 0 ≡ port_to s (get_or s.branches (leg - 1) no_branch)
front_of_branch s zero later = absurd (omega arith)
front_of_branch s (suc n) later =
    let same : n ≡ suc n - 1 = omega arith in
    ap (λ (k : ℕ). port_to s (get_or s.branches k no_branch)) same

-- to the talker nothing leads
pub none_leads_there : (network : DeclaredNetwork) (streams : List DeclaredStream) (n leg : ℕ)
    (stream : DeclaredStream) (b : Branch) → streams ≡ network.streams → n < length network.streams
    → stream ≡ get_or streams n stream → 1 ≤ leg → b ≡ get_or stream.branches (leg - 1) no_branch → b.hop ≡ 0
    → None ≡ in_front_of (sender_at network n) leg 0
none_leads_there network streams n leg stream b same h read later is first =
    let s : Sender = sender_at network n in
    let there : b ≡ get_or s.branches (leg - 1) no_branch =
    is ∙ ap (λ (x : DeclaredStream). get_or x.branches (leg - 1) no_branch)
    (same_stream network streams n stream same h read)
    ∙ ap (λ (x : Sender). get_or x.branches (leg - 1) no_branch) (sym (stream_is network n h)) in
    sym (front_of_branch s leg later ∙ ap (port_to s) (sym there)
    ∙ ap (before_hop (ports_of_leg s b.leg)) first)

-- the hop of this port
pub record LeadsThere (network : DeclaredNetwork) (n leg : ℕ) (b : Branch) : Type 0 where
  pub in_legs : b.leg ≤ length (sender_at network n).branches
  pub later : 1 ≤ b.hop
  pub in_leg : b.hop - 1 < length (leg_at (legs_at network n) b.leg)
  pub front : in_front_of (sender_at network n) leg 0
      ≡ Some (get_or (leg_at (legs_at network n) b.leg) (b.hop - 1) 0)

leads_there : (network : DeclaredNetwork) (n leg : ℕ) (b : Branch) → IsNetwork network
    → n < length network.streams → 1 ≤ leg → leg ≤ length (sender_at network n).branches
    → b ≡ get_or (stream_at network n).branches (leg - 1) no_branch → 1 ≤ b.hop → LeadsThere network n leg b
leads_there network n leg b net h later within is behind =
    let s : Sender = sender_at network n in
    let legs : List (List ℕ) = legs_at network n in
    let keeps : IsSender network.topology s = stream_keeps network n net h in
    let same : b ≡ get_or s.branches (leg - 1) no_branch =
    is ∙ ap (λ (x : Sender). get_or x.branches (leg - 1) no_branch) (sym (stream_is network n h)) in
    let begins : BeginsEarlier legs (1 + (leg - 1)) b =
    subst (BeginsEarlier legs (1 + (leg - 1))) (sym same)
    (begins_at legs 1 s.branches (leg - 1) keeps.branches.begin (omega (arith, later, within))) in
    let hop_is : b.hop ≡ suc (b.hop - 1) = omega (arith, behind) in
    record {
      in_legs = omega (arith, begins.earlier, later, within);
      later = behind;
      in_leg = omega (arith, begins.within, behind);
      front = front_of_branch s leg later ∙ ap (port_to s) (sym same)
          ∙ ap (before_hop (ports_of_leg s b.leg)) hop_is;
    }

pub leads_by : (network : DeclaredNetwork) (streams : List DeclaredStream) (n leg : ℕ) (stream : DeclaredStream)
    (b : Branch) → IsNetwork network → streams ≡ network.streams → n < length network.streams
    → stream ≡ get_or streams n stream → 1 ≤ leg → leg ≤ length (sender_at network n).branches
    → b ≡ get_or stream.branches (leg - 1) no_branch → 1 ≤ b.hop → LeadsThere network n leg b
leads_by network streams n leg stream b net same h read later within is behind =
    leads_there network n leg b net h later within
    (is ∙ ap (λ (s : DeclaredStream). get_or s.branches (leg - 1) no_branch)
    (same_stream network streams n stream same h read)) behind

-- so this port is in front of the leg
pub front_is : (network : DeclaredNetwork) (n leg : ℕ) (b : Branch) (items : List ℕ) (before : Option ℕ)
    → LeadsThere network n leg b → items ≡ leg_at (legs_at network n) b.leg
    → before ≡ Some (get_or items (b.hop - 1) 0) → before ≡ in_front_of (sender_at network n) leg 0
front_is network n leg b items before leads are is =
    is ∙ ap (λ (l : List ℕ). Some (get_or l (b.hop - 1) 0)) are ∙ sym leads.front

-- and the way over it is that to the leg
pub way_to_branch : (network : DeclaredNetwork) (rows : List Row) (n leg : ℕ) (b : Branch) (port class way : ℕ)
    → n < length network.streams → LeadsThere network n leg b → IsHop network n b.leg (b.hop - 1) port class
    → way ≡ way_by network rows port class
    → way ≡ way_behind network rows (sender_at network n) (in_front_of (sender_at network n) leg 0)
way_to_branch network rows n leg b port class way h leads at is =
    let s : Sender = sender_at network n in
    let ranked : class ≡ class_at s port =
    sym at.ranked ∙ ap (λ (x : Sender). class_at x port) (sym (stream_is network n h)) in
    is ∙ ap (way_by network rows port) ranked ∙ ap (way_over network rows s) (sym at.own)
    ∙ ap (way_behind network rows s) (sym leads.front)

-- what the code adds at a hop is the stream's share there
pub share_is : (network : DeclaredNetwork) (rows : List Row) (n port class : ℕ) (seen : Committed)
    (stay way bits : ℕ)
    → seen ≡ committed_at network.topology (counted_at (stream_sender (stream_at network n)) port)
    (stream_sender (stream_at network n))
    → stay ≡ stay_at network rows port class
    → way ≡ way_to network rows (stream_sender (stream_at network n)) port → bits ≡ most_bits seen (stay + way)
    → bits ≡ share_at network rows port class (stream_at network n)
share_is network rows n port class seen stay way bits seen_is stay_is way_is bits_are =
    let s : Sender = stream_sender (stream_at network n) in
    let c : Committed = committed_at network.topology (counted_at s port) s in
    bits_are ∙ ap (λ (t : Committed). most_bits t (stay + way)) seen_is
    ∙ ap (λ (k : ℕ). most_bits c (k + way)) stay_is
    ∙ ap (λ (k : ℕ). most_bits c (stay_at network rows port class + k)) way_is

-- what the table has there
pub sum_is : (network : DeclaredNetwork) (rows : List Row) (n leg hop port class : ℕ) (table : Table ℕ) (sum : ℕ)
    → IsNetwork network → n < length network.streams → IsHop network n leg hop port class
    → AreAdding network rows n (take (place_of (legs_at network n) leg hop) (stream_at network n).ports) table
    → value_at table port class ≡ Some sum
    → sum ≡ shares_at network rows port class (take n network.streams)
sum_is network rows n leg hop port class table sum net h at adding there =
    let path : List ℕ = (stream_at network n).ports in
    let place : ℕ = place_of (legs_at network n) leg hop in
    let Has : ℕ → Type 0 = λ (p : ℕ). value_at table p class
    ≡ Some (shares_at network rows p class (take n network.streams)) in
    same_Some sum (shares_at network rows port class (take n network.streams))
    (sym there
    ∙ subst Has at.there (before_port network rows n path place table (paths_apart network net n no_stream h) at.within
    (subst (λ (p : ℕ). p < length network.topology.ports) (sym at.there) at.inside) adding class at.least at.most))

-- so the table has the stream at one hop more
pub added_hop : (network : DeclaredNetwork) (rows : List Row) (n leg hop port class : ℕ) (old new : Table ℕ)
    (sum share : ℕ) → IsNetwork network → n < length network.streams → IsHop network n leg hop port class
    → AreAdding network rows n (take (place_of (legs_at network n) leg hop) (stream_at network n).ports) old
    → sum ≡ shares_at network rows port class (take n network.streams)
    → share ≡ share_at network rows port class (stream_at network n)
    → Sets port class (sum + share) old new
    → AreAdding network rows n (take (place_of (legs_at network n) leg (hop + 1)) (stream_at network n).ports) new
added_hop network rows n leg hop port class old new sum share net h at adding sum_same share_same sets =
    let s : DeclaredStream = stream_at network n in
    let legs : List (List ℕ) = legs_at network n in
    let place : ℕ = place_of legs leg hop in
    let Puts : ℕ → ℕ → Type 0 = λ (p c : ℕ). Sets p c (shares_at network rows p c (take n network.streams)
    + share_at network rows p c s) old new in
    let put : Puts port class = subst (λ (k : ℕ). Sets port class (k + share_at network rows port class s) old new)
    sum_same (subst (λ (k : ℕ). Sets port class (sum + k) old new) share_same sets) in
    let there : Puts (get_or s.ports place 0) (class_at (stream_sender s) (get_or s.ports place 0)) =
    subst (λ (p : ℕ). Puts p (class_at (stream_sender s) p)) (sym at.there)
    (subst (λ (c : ℕ). Puts port c) (sym at.ranked) put) in
    let next : place + 1 ≡ place_of legs leg (hop + 1) =
    add-one place ∙ sym (ap (place_of legs leg) (add-one hop) ∙ place_next legs leg hop) in
    subst (λ (k : ℕ). AreAdding network rows n (take k s.ports) new) next
    (adding_more network rows n s.ports place old new (paths_apart network net n no_stream h) at.within
    (subst (λ (p : ℕ). p < length network.topology.ports) (sym at.there) at.inside) adding there)
