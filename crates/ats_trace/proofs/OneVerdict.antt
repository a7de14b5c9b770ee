-- A bridge judges a frame once, and each port sends it once.
use Rattle.std.proofs.Common.{◌≡◌, ◌≢◌, ℕ, zero, suc, ◌+◌, ◌-◌, ◌<◌, ◌≤◌, ◌⊎◌, inl, inr, Bool, true, false, cond, eqb}
use Rattle.std.proofs.Common.{List, [], ◌∷◌, map, filter, length, drop, get_or, All, sum_by, refl, sym, ap, subst}
use Rattle.std.proofs.Common.{◌∙◌, arith}
use Rattle.std.specs.Prelude.{Option, Some, None, Contains, count_by}
use Rattle.std.specs.List.{AllPairs, AllZip, concat, slice_get, zip}
use Rattle.std.specs.Option.{option_map, option_or}
use Rattle.std.proofs.lemmas.Bool.{cases_eq, cases_order, eq-eqb, ne_eqb}
use Rattle.std.proofs.lemmas.Grind.{get_or_default_zero}
use Rattle.std.proofs.lemmas.List.{get_or-map, length-map}
use Rattle.std.proofs.lemmas.List.Elements.{All-head, All-tail}
use Rattle.std.proofs.lemmas.List.Sums.{sum_by-append, sum_by-cons}
use Rattle.std.proofs.lemmas.Slice.Zip.{AllZip-long, get_or-zip, length-zip}
use Rattle.ats_facts.proofs.Lists.{all_left, all_right, count_by-cons, pairs_head, pairs_tail}
use Rattle.ats_num.specs.declared.time.Ps.{Ps}
use Rattle.ats_num.specs.Wire.{bits_of}
use Rattle.ats_topology.specs.Port.{port_at}
use Rattle.ats_topology.specs.Topology.{DeclaredTopology}
use Rattle.ats_topology.specs.Walks.{IsWalk}
use Rattle.ats_topology.specs.declared.port.Port.{Port}
use Rattle.ats_streams.specs.Branches.{AreBranches, BeginsEarlier, leg_at, legs_of, no_branch}
use Rattle.ats_streams.specs.declared.branch.Branch.{Branch}
use Rattle.ats_streams.proofs.BranchLemmas.{begins_at, behind_or_talker, legs-length}
use Rattle.ats_network.specs.Network.{DeclaredNetwork, IsNetwork}
use Rattle.ats_network.specs.Path.{IsBranch, IsTree, node_of_branch, nodes_along}
use Rattle.ats_network.specs.Sender.{Sender}
use Rattle.ats_network.specs.Senders.{sender_at, no_sender, IsSender}
use Rattle.ats_network.proofs.SenderLemmas.{each_is_sender}
use Rattle.ats_network.proofs.ValidRoutes.{walk_first}
use Rattle.ats_group.specs.declared.verdict.Verdict.{Verdict}
use Rattle.ats_group.specs.declared.verdict.Verdict.TheVariants.{Eligible, Late, Size}
use Rattle.ats_port_rule.specs.Transmission.{Transmission}
use Rattle.ats_trace.specs.Journey.{Leg, Travel, BeginsAs, IsCopy, AreCopies, IsJourney, class_at, legs_in, no_leg}
use Rattle.ats_trace.specs.Journey.{record_at}
use Rattle.ats_trace.specs.Projections.{Hop, transmission_by, transmission_of, hop_at, hops_along, hops_over}
use Rattle.ats_trace.specs.Projections.{journey_hops, hops_from}
use Rattle.ats_trace.specs.OneVerdict.{record_along, record_over, judged_as, HasOneVerdict}
use Rattle.ats_trace.specs.OneVerdict.{OneVerdict}
use Rattle.ats_trace.specs.declared.journey.Release.{Release}
use Rattle.ats_trace.specs.HopRecord.{HopRecord}
use Rattle.ats_trace.proofs.Legs.{concat-legs_of, legs_cons, pairs_across, pairs_left, pairs_right, place_of, place_is}
use Rattle.ats_trace.proofs.Legs.{place_first, place_next, place_within, Stands, stands}

-- the record at a port

nowhere_along : (port : ℕ) (path : List ℕ) (hops : List HopRecord) → All (λ (p : ℕ). port ≢ p) path
    → record_along port path hops ≡ None
nowhere_along port [] hops away = refl
nowhere_along port (p ∷ path) [] away = refl
nowhere_along port (p ∷ path) (hop ∷ hops) away =
    ap (λ (t : Bool). cond t (Some hop) (record_along port path hops))
    (ne_eqb p port (λ same. All-head (λ (p : ℕ). port ≢ p) p path away (sym same)))
    ∙ nowhere_along port path hops (All-tail (λ (p : ℕ). port ≢ p) p path away)

found_along : (path : List ℕ) (hops : List HopRecord) (hop : ℕ) → AllPairs (λ p q. p ≢ q) path → hop < length path
    → record_along (get_or path hop 0) path hops ≡ slice_get hops hop
found_along [] hops hop apart within = absurd (omega arith)
found_along (p ∷ path) [] hop apart within = refl
found_along (p ∷ path) (h ∷ hops) zero apart within =
    ap (λ (t : Bool). cond t (Some h) (record_along p path hops)) (eq-eqb p p refl)
found_along (p ∷ path) (h ∷ hops) (suc hop) apart within =
    let other : p ≢ get_or path hop 0 = pairs_head (λ p q. p ≢ q) p path apart hop 0 (omega arith) in
    ap (λ (t : Bool). cond t (Some h) (record_along (get_or path hop 0) path hops)) (ne_eqb p (get_or path hop 0) other)
    ∙ found_along path hops hop (pairs_tail (λ p q. p ≢ q) p path apart) (omega arith)

nowhere_over : (port : ℕ) (paths : List (List ℕ)) (legs : List Leg) → All (λ (p : ℕ). port ≢ p) (concat paths)
    → record_over port paths legs ≡ None
nowhere_over port [] legs away = refl
nowhere_over port (path ∷ paths) [] away = refl
nowhere_over port (path ∷ paths) (leg ∷ legs) away =
    ap (λ (o : Option HopRecord). option_or o (record_over port paths legs))
    (nowhere_along port path leg.hops (all_left (λ (p : ℕ). port ≢ p) path (concat paths) away))
    ∙ nowhere_over port paths legs (all_right (λ (p : ℕ). port ≢ p) path (concat paths) away)

or_none : {X : Type 0} (o : Option X) → option_or o None ≡ o
or_none None = refl
or_none (Some x) = refl

-- the record of a frame at the port at a hop of a leg is that of the leg at this hop
pub found_over : (paths : List (List ℕ)) (legs : List Leg) (leg hop : ℕ) → AllPairs (λ p q. p ≢ q) (concat paths)
    → leg < length paths → leg < length legs → hop < length (leg_at paths leg)
    → record_over (get_or (leg_at paths leg) hop 0) paths legs ≡ slice_get (get_or legs leg no_leg).hops hop
found_over [] legs leg hop apart in_paths in_legs within = absurd (omega arith)
found_over (path ∷ paths) [] leg hop apart in_paths in_legs within = absurd (omega arith)
found_over (path ∷ paths) (l ∷ legs) zero hop apart in_paths in_legs within =
    let port : ℕ = get_or path hop 0 in
    ap (λ (o : Option HopRecord). option_or (record_along port path l.hops) o)
    (nowhere_over port paths legs (pairs_across (λ p q. p ≢ q) path (concat paths) apart hop 0 within))
    ∙ or_none (record_along port path l.hops)
    ∙ found_along path l.hops hop (pairs_left (λ p q. p ≢ q) path (concat paths) apart) within
found_over (path ∷ paths) (l ∷ legs) (suc leg) hop apart in_paths in_legs within =
    let port : ℕ = get_or (leg_at paths leg) hop 0 in
    let place : ℕ = place_of paths leg hop in
    let is : get_or (concat paths) place 0 ≡ port = place_is paths leg hop (omega arith) within in
    ap (λ (o : Option HopRecord). option_or o (record_over port paths legs))
    (nowhere_along port path l.hops
    (λ k d h same. pairs_across (λ p q. p ≢ q) path (concat paths) apart k d h place 0
    (place_within paths leg hop (omega arith) within) (sym (is ∙ same))))
    ∙ found_over paths legs leg hop (pairs_right (λ p q. p ≢ q) path (concat paths) apart) (omega arith) (omega arith)
    within

-- the nodes of a tree

-- each port of a walk leaves the node to which the one before leads
pub walk_on : (ports : List Port) (a b : ℕ) (path : List ℕ) (hop : ℕ) → IsWalk ports a b path
    → suc hop < length path
    → (port_at ports (get_or path (suc hop) 0)).from ≡ (port_at ports (get_or path hop 0)).to
walk_on ports a b [] hop walk within = absurd (omega arith)
walk_on ports a b (p ∷ []) hop walk within = absurd (omega arith)
walk_on ports a b (p ∷ q ∷ path) zero walk within = walk.1.0.from
walk_on ports a b (p ∷ q ∷ path) (suc hop) walk within =
    walk_on ports (port_at ports p).to b (q ∷ path) hop walk.1 (omega arith)

-- a leg is a walk
pub record Walks (topology : DeclaredTopology) (leg : List ℕ) : Type 0 where
  pub start : ℕ
  pub listener : ℕ
  pub walk : IsWalk topology.ports start listener leg

pub leg_walks : (topology : DeclaredTopology) (ports : List ℕ) (branches : List Branch)
    → IsTree topology ports branches → (n : ℕ) → n ≤ length branches
    → Walks topology (leg_at (legs_of ports branches) n)
leg_walks topology ports branches tree zero within =
    record { start = tree.trunk.talker; listener = tree.trunk.listener; walk = tree.trunk.walk }
leg_walks topology ports branches tree (suc n) within =
    let legs : List (List ℕ) = legs_of ports branches in
    let branch : IsBranch topology legs (get_or branches n no_branch) (leg_at legs (1 + n)) =
    tree.each n (omega arith) in
    subst (λ (k : ℕ). Walks topology (leg_at legs k)) (omega arith)
    (record {
      start = node_of_branch topology.ports legs (get_or branches n no_branch);
      listener = branch.listener;
      walk = branch.walk;
    })

node_first : (ports : List Port) (numbers : List ℕ) → 0 < length numbers
    → get_or (nodes_along ports numbers) 0 0 ≡ (port_at ports (get_or numbers 0 0)).from
node_first ports [] some = absurd (omega arith)
node_first ports (p ∷ numbers) some = refl

node_behind : (ports : List Port) (numbers : List ℕ) (k : ℕ) → k < length numbers
    → get_or (nodes_along ports numbers) (suc k) 0 ≡ (port_at ports (get_or numbers k 0)).to
node_behind ports [] k within = absurd (omega arith)
node_behind ports (p ∷ numbers) k within = get_or-map (λ q. (port_at ports q).to) (p ∷ numbers) k 0 0 within

nodes_many : (ports : List Port) (numbers : List ℕ) → 0 < length numbers
    → length (nodes_along ports numbers) ≡ suc (length numbers)
nodes_many ports [] some = absurd (omega arith)
nodes_many ports (p ∷ numbers) some = omega (arith, length-map (p ∷ numbers) (λ q. (port_at ports q).to))

-- copies

pub zip_at : {A B : Type 0} (R : A → B → Type 0) (xs : List A) (ys : List B) (n : ℕ) (d : A) (e : B) → AllZip R xs ys
    → n < length xs → R (get_or xs n d) (get_or ys n e)
zip_at R [] ys n d e all within = absurd (omega arith)
zip_at R (x ∷ xs) [] n d e all within = absurd all
zip_at R (x ∷ xs) (y ∷ ys) zero d e all within = all.0
zip_at R (x ∷ xs) (y ∷ ys) (suc n) d e all within = zip_at R xs ys n d e all.1 (omega arith)

judged_copy : (start : Option HopRecord) (path : List ℕ) (leg : Leg) → IsCopy start path leg
    → option_map judged_as (slice_get leg.hops 0) ≡ option_map judged_as start
judged_copy (Some start) path leg is = by leg.hops is.0
  where
    by : (hops : List HopRecord) → BeginsAs start hops
        → option_map judged_as (slice_get hops 0) ≡ option_map judged_as (Some start)
    by [] forwarded = absurd forwarded
    by (hop ∷ hops) forwarded =
        ap (λ (at : Ps). Some (at, hop.verdict)) forwarded.0 ∙ ap (λ (v : Verdict). Some (start.arrival, v)) forwarded.1
judged_copy None path leg is = ap (λ (hops : List HopRecord). option_map judged_as (slice_get hops 0)) is.0

-- there are as many branches with their ports as branches
branches_many : (ports : List ℕ) (branches : List Branch)
    → length (zip branches (drop 1 (legs_of ports branches))) ≡ length branches
branches_many ports branches =
    let legs : List (List ℕ) = legs_of ports branches in
    let many : length legs ≡ suc (length branches) = legs-length 0 ports branches in
    let rest : suc (length (drop 1 legs)) ≡ length legs = sym (ap (λ (l : List (List ℕ)). length l) (legs_cons ports
    branches)) in
    omega (arith, many, rest, length-zip branches (drop 1 legs))

-- and as many copies
pub copies_many : (s : Sender) (j : Travel) → AreCopies s j → length j.copies ≡ length s.branches
copies_many s j copied =
    AllZip-long (λ (branch : Branch × List ℕ) (leg : Leg). IsCopy (record_at (legs_in j) branch.0) branch.1 leg)
    (zip s.branches (drop 1 (legs_of s.ports s.branches))) j.copies copied
    ∙ branches_many s.ports s.branches

-- a copy has the verdict that the frame got where the branch begins
copy_judged : (s : Sender) (j : Travel) → AreCopies s j → (n : ℕ) → n < length s.branches
    → option_map judged_as (slice_get (get_or j.copies n no_leg).hops 0)
    ≡ option_map judged_as (record_at (legs_in j) (get_or s.branches n no_branch))
copy_judged s j copied n within =
    let rest : List (List ℕ) = drop 1 (legs_of s.ports s.branches) in
    let d : Branch × List ℕ = (no_branch, []) in
    let long : n < length (zip s.branches rest) = omega (arith, branches_many s.ports s.branches, within) in
    let many : suc (length rest) ≡ length (legs_of s.ports s.branches) =
    sym (ap (λ (l : List (List ℕ)). length l) (legs_cons s.ports s.branches)) in
    let at : get_or (zip s.branches rest) n d ≡ (get_or s.branches n no_branch, get_or rest n []) =
    get_or-zip s.branches rest n d within (omega (arith, many, legs-length 0 s.ports s.branches, within)) in
    let copy : IsCopy (record_at (legs_in j) (get_or (zip s.branches rest) n d).0) (get_or (zip s.branches rest) n d).1
    (get_or j.copies n no_leg) =
    zip_at (λ (branch : Branch × List ℕ) (leg : Leg). IsCopy (record_at (legs_in j) branch.0) branch.1 leg)
    (zip s.branches rest) j.copies n d no_leg copied long in
    judged_copy (record_at (legs_in j) (get_or (zip s.branches rest) n d).0) (get_or (zip s.branches rest) n d).1
    (get_or j.copies n no_leg) copy
    ∙ ap (λ (b : Branch × List ℕ). option_map judged_as (record_at (legs_in j) b.0)) at

-- a port that leaves the same node as another, with the same record of the frame, and stands behind the port that leads
-- to this node, or first of all

abbrev judged_at : Sender → Travel → ℕ → Option (Ps × Verdict)
judged_at s j port = option_map judged_as (record_over port (legs_of s.ports s.branches) (legs_in j))

record Anchor (topology : DeclaredTopology) (s : Sender) (j : Travel) (port : ℕ) : Type 0 where
  place : ℕ
  within : place < length s.ports
  node : get_or (nodes_along topology.ports s.ports) place 0 ≡ (port_at topology.ports port).from
  judged : judged_at s j port ≡ judged_at s j (get_or s.ports place 0)

-- the port at a hop of a leg, among all ports
at_hop : (s : Sender) → AreBranches s.ports s.branches → (leg hop : ℕ)
    → leg < length (legs_of s.ports s.branches) → hop < length (leg_at (legs_of s.ports s.branches) leg)
    → get_or s.ports (place_of (legs_of s.ports s.branches) leg hop) 0
    ≡ get_or (leg_at (legs_of s.ports s.branches) leg) hop 0
at_hop s are leg hop in_legs in_leg =
    let legs : List (List ℕ) = legs_of s.ports s.branches in
    ap (λ (l : List ℕ). get_or l (place_of legs leg hop) 0) (sym (concat-legs_of s.ports s.branches are))
    ∙ place_is legs leg hop in_legs in_leg

hop_within : (s : Sender) → AreBranches s.ports s.branches → (leg hop : ℕ)
    → leg < length (legs_of s.ports s.branches) → hop < length (leg_at (legs_of s.ports s.branches) leg)
    → place_of (legs_of s.ports s.branches) leg hop < length s.ports
hop_within s are leg hop in_legs in_leg =
    subst (λ (l : List ℕ). place_of (legs_of s.ports s.branches) leg hop < length l)
    (concat-legs_of s.ports s.branches are) (place_within (legs_of s.ports s.branches) leg hop in_legs in_leg)

-- a port behind the first of its leg is its own
anchor_later : (topology : DeclaredTopology) (s : Sender) (j : Travel) → IsSender topology s → (leg hop : ℕ)
    → leg < length (legs_of s.ports s.branches) → suc hop < length (leg_at (legs_of s.ports s.branches) leg)
    → Anchor topology s j (get_or (leg_at (legs_of s.ports s.branches) leg) (suc hop) 0)
anchor_later topology s j keeps leg hop in_legs in_leg =
    let legs : List (List ℕ) = legs_of s.ports s.branches in
    let place : ℕ = place_of legs leg hop in
    let before : get_or s.ports place 0 ≡ get_or (leg_at legs leg) hop 0 =
    at_hop s keeps.branches leg hop in_legs (omega (arith, in_leg)) in
    let next : get_or s.ports (suc place) 0 ≡ get_or (leg_at legs leg) (suc hop) 0 =
    ap (λ (k : ℕ). get_or s.ports k 0) (sym (place_next legs leg hop))
    ∙ at_hop s keeps.branches leg (suc hop) in_legs in_leg in
    let walks : Walks topology (leg_at legs leg) =
    leg_walks topology s.ports s.branches keeps.tree leg
    (omega (arith, in_legs, legs-length 0 s.ports s.branches)) in
    record {
      place = suc place;
      within = omega (
        arith,
        place_next legs leg hop,
        hop_within s keeps.branches leg (suc hop) in_legs in_leg,
      );
      node = node_behind topology.ports s.ports place
          (hop_within s keeps.branches leg hop in_legs (omega (arith, in_leg)))
          ∙ ap (λ (p : ℕ). (port_at topology.ports p).to) before
          ∙ sym (walk_on topology.ports walks.start walks.listener (leg_at legs leg) hop walks.walk in_leg);
      judged = ap (judged_at s j) (sym next);
    }

-- so is the first of the trunk
anchor_first : (topology : DeclaredTopology) (s : Sender) (j : Travel) → IsSender topology s
    → 0 < length (legs_of s.ports s.branches) → 0 < length (leg_at (legs_of s.ports s.branches) 0)
    → Anchor topology s j (get_or (leg_at (legs_of s.ports s.branches) 0) 0 0)
anchor_first topology s j keeps in_legs in_leg =
    let legs : List (List ℕ) = legs_of s.ports s.branches in
    let none : place_of legs 0 0 ≡ 0 = place_first legs 0 in
    let first : get_or s.ports 0 0 ≡ get_or (leg_at legs 0) 0 0 =
    ap (λ (k : ℕ). get_or s.ports k 0) (sym none) ∙ at_hop s keeps.branches 0 0 in_legs in_leg in
    let some : 0 < length s.ports = omega (arith, none, hop_within s keeps.branches 0 0 in_legs in_leg) in
    record {
      place = 0;
      within = some;
      node = node_first topology.ports s.ports some ∙ ap (λ (p : ℕ). (port_at topology.ports p).from) first;
      judged = ap (judged_at s j) (sym first);
    }

-- and so is the port at the hop where a branch begins
anchor_start : (topology : DeclaredTopology) (s : Sender) (j : Travel) → IsSender topology s → (n : ℕ) (b : Branch)
    → BeginsEarlier (legs_of s.ports s.branches) (1 + n) b → b.leg < length (legs_of s.ports s.branches)
    → Anchor topology s j (get_or (leg_at (legs_of s.ports s.branches) b.leg) b.hop 0)
anchor_start topology s j keeps n b begins in_legs =
    by (behind_or_talker (legs_of s.ports s.branches) (1 + n) b begins)
  where
    legs : List (List ℕ)
    legs = legs_of s.ports s.branches

    by : (1 ≤ b.hop) ⊎ ((b.leg ≡ 0) × (b.hop ≡ 0))
        → Anchor topology s j (get_or (leg_at (legs_of s.ports s.branches) b.leg) b.hop 0)
    by (inl later) =
        let hop_is : suc (b.hop - 1) ≡ b.hop = omega (arith, later) in
        subst (λ (k : ℕ). Anchor topology s j (get_or (leg_at legs b.leg) k 0)) hop_is
        (anchor_later topology s j keeps b.leg (b.hop - 1) in_legs (omega (arith, hop_is, begins.within)))
    by (inr at) =
        subst (λ (k : ℕ). Anchor topology s j (get_or (leg_at legs k) b.hop 0)) (sym at.0)
        (subst (λ (h : ℕ). Anchor topology s j (get_or (leg_at legs 0) h 0)) (sym at.1)
        (anchor_first topology s j keeps (omega (arith, in_legs)) keeps.tree.trunk.some))

-- that of the first port of a branch is the port at the hop where the branch begins
anchor_branch : (topology : DeclaredTopology) (s : Sender) (j : Travel) → IsSender topology s → AreCopies s j → (n : ℕ)
    → suc n < length (legs_of s.ports s.branches) → 0 < length (leg_at (legs_of s.ports s.branches) (suc n))
    → Anchor topology s j (get_or (leg_at (legs_of s.ports s.branches) (suc n)) 0 0)
anchor_branch topology s j keeps copied n in_legs in_leg =
    let ports : List Port = topology.ports in
    let legs : List (List ℕ) = legs_of s.ports s.branches in
    let b : Branch = get_or s.branches n no_branch in
    let many : length legs ≡ suc (length s.branches) = legs-length 0 s.ports s.branches in
    let copies : length j.copies ≡ length s.branches = copies_many s j copied in
    let below : n < length s.branches = omega (arith, in_legs, many) in
    let begins : BeginsEarlier legs (1 + n) b = begins_at legs 1 s.branches n keeps.branches.begin below in
    let start : ℕ = get_or (leg_at legs b.leg) b.hop 0 in
    let anchor : Anchor topology s j start =
    anchor_start topology s j keeps n b begins (omega (arith, begins.earlier, in_legs)) in
    let own : List ℕ = leg_at legs (suc n) in
    let branch : IsBranch topology legs b (leg_at legs (1 + n)) = keeps.tree.each n below in
    let walk : IsWalk ports (node_of_branch ports legs b) branch.listener own =
    subst (λ (k : ℕ). IsWalk ports (node_of_branch ports legs b) branch.listener (leg_at legs k)) (omega arith)
    branch.walk in
    let from : (port_at ports (get_or own 0 0)).from ≡ (port_at ports start).from =
    walk_first ports (node_of_branch ports legs b) branch.listener own walk in_leg in
    let apart : AllPairs (λ p q. p ≢ q) (concat legs) =
    subst (AllPairs (λ p q. p ≢ q)) (sym (concat-legs_of s.ports s.branches keeps.branches)) keeps.apart in
    let judged : judged_at s j (get_or own 0 0) ≡ judged_at s j start =
    ap (option_map judged_as) (found_over legs (legs_in j) (suc n) 0 apart in_legs (omega (arith, copies, below))
    in_leg)
    ∙ copy_judged s j copied n below
    ∙ sym (ap (option_map judged_as) (found_over legs (legs_in j) b.leg b.hop apart
    (omega (arith, begins.earlier, in_legs)) (omega (arith, begins.earlier, copies, below)) begins.within)) in
    record {
      place = anchor.place;
      within = anchor.within;
      node = anchor.node ∙ sym from;
      judged = judged ∙ anchor.judged;
    }

anchor_at : (topology : DeclaredTopology) (s : Sender) (j : Travel) → IsSender topology s → AreCopies s j
    → (leg hop : ℕ) → leg < length (legs_of s.ports s.branches)
    → hop < length (leg_at (legs_of s.ports s.branches) leg)
    → Anchor topology s j (get_or (leg_at (legs_of s.ports s.branches) leg) hop 0)
anchor_at topology s j keeps copied zero zero in_legs in_leg = anchor_first topology s j keeps in_legs in_leg
anchor_at topology s j keeps copied (suc n) zero in_legs in_leg =
    anchor_branch topology s j keeps copied n in_legs in_leg
anchor_at topology s j keeps copied leg (suc hop) in_legs in_leg =
    anchor_later topology s j keeps leg hop in_legs in_leg

anchor_of : (topology : DeclaredTopology) (s : Sender) (j : Travel) → IsSender topology s → AreCopies s j
    → (port : ℕ) → Contains s.ports port → Anchor topology s j port
anchor_of topology s j keeps copied port has =
    let legs : List (List ℕ) = legs_of s.ports s.branches in
    let whole : concat legs ≡ s.ports = concat-legs_of s.ports s.branches keeps.branches in
    let stand : Stands legs has.0 =
    stands legs has.0 (subst (λ (l : List ℕ). has.0 < length l) (sym whole) has.1) in
    let is : get_or (leg_at legs stand.leg) stand.hop 0 ≡ port =
    sym (at_hop s keeps.branches stand.leg stand.hop stand.in_legs stand.in_leg)
    ∙ ap (λ (k : ℕ). get_or s.ports k 0) stand.there
    ∙ sym (get_or_default_zero s.ports has.0 port has.1) ∙ has.2 in
    subst (Anchor topology s j) is
    (anchor_at topology s j keeps copied stand.leg stand.hop stand.in_legs stand.in_leg)

-- no node occurs twice, so ports that leave one node have one such port
one_place : (topology : DeclaredTopology) (s : Sender) (j : Travel) (p q : ℕ) → IsSender topology s
    → (a : Anchor topology s j p) → (b : Anchor topology s j q)
    → (port_at topology.ports p).from ≡ (port_at topology.ports q).from → a.place ≡ b.place
one_place topology s j p q keeps a b same = by (cases_order a.place b.place)
  where
    many : length (nodes_along topology.ports s.ports) ≡ suc (length s.ports)
    many = nodes_many topology.ports s.ports (omega (arith, a.within))

    by : (a.place ≡ b.place) ⊎ ((a.place < b.place) ⊎ (b.place < a.place)) → a.place ≡ b.place
    by (inl e) = e
    by (inr (inl below)) =
        absurd (keeps.tree.apart a.place b.place 0 below (omega (arith, many, b.within)) (a.node ∙ same ∙ sym b.node))
    by (inr (inr below)) =
        absurd (keeps.tree.apart b.place a.place 0 below (omega (arith, many, a.within))
        (b.node ∙ sym same ∙ sym a.node))

one_verdict_of : (network : DeclaredNetwork) (j : Travel) → IsNetwork network → IsJourney network j
    → HasOneVerdict network j
one_verdict_of network j net is p q has_p has_q same =
    let s : Sender = sender_at network j.release.sender in
    let keeps : IsSender network.topology s = each_is_sender network net j.release.sender no_sender is.sender in
    let a : Anchor network.topology s j p = anchor_of network.topology s j keeps is.copies p has_p in
    let b : Anchor network.topology s j q = anchor_of network.topology s j keeps is.copies q has_q in
    let place : a.place ≡ b.place = one_place network.topology s j p q keeps a b same in
    a.judged ∙ ap (λ (k : ℕ). judged_at s j (get_or s.ports k 0)) place ∙ sym b.judged

-- sums over the transmissions of a journey

-- where the transmission of each port weighs no more than the port, those along ports weigh no more than these
pub along-le : (w : Hop → ℕ) (f : ℕ → ℕ) (frame : ℕ) (release : Release) (sender : Sender)
    → ((p : ℕ) (hop : HopRecord)
    → sum_by w (hop_at p (transmission_of frame release (class_at sender p) hop)) ≤ f p)
    → (path : List ℕ) (hops : List HopRecord) → sum_by w (hops_along frame release sender path hops) ≤ sum_by f path
along-le w f frame release sender each [] hops = omega arith
along-le w f frame release sender each (p ∷ path) [] = omega arith
along-le w f frame release sender each (p ∷ path) (hop ∷ hops) =
    let here : List Hop = hop_at p (transmission_of frame release (class_at sender p) hop) in
    let later : List Hop = hops_along frame release sender path hops in
    omega (
      arith,
      each p hop,
      along-le w f frame release sender each path hops,
      sum_by-append w here later,
      sum_by-cons f p path,
    )

-- and so along legs
pub over-le : (w : Hop → ℕ) (f : ℕ → ℕ) (frame : ℕ) (release : Release) (sender : Sender)
    → ((p : ℕ) (hop : HopRecord)
    → sum_by w (hop_at p (transmission_of frame release (class_at sender p) hop)) ≤ f p)
    → (paths : List (List ℕ)) (legs : List Leg)
    → sum_by w (hops_over frame release sender paths legs) ≤ sum_by f (concat paths)
over-le w f frame release sender each [] legs = omega arith
over-le w f frame release sender each (path ∷ paths) [] = omega arith
over-le w f frame release sender each (path ∷ paths) (leg ∷ legs) =
    let here : List Hop = hops_along frame release sender path leg.hops in
    let later : List Hop = hops_over frame release sender paths legs in
    omega (
      arith,
      along-le w f frame release sender each path leg.hops,
      over-le w f frame release sender each paths legs,
      sum_by-append w here later,
      sum_by-append f path (concat paths),
    )

-- a transmission of a frame at a port weighs 1, any other nothing
abbrev weight : ℕ → ℕ → Hop → ℕ
weight port frame h = cond (eqb h.port port) (cond (eqb h.sent.frame frame) 1 0) 0

weighed : (port frame : ℕ) (hops : List Hop)
    → count_by (λ (x : Transmission). eqb x.frame frame)
    (map (λ (h : Hop). h.sent) (filter (λ (h : Hop). eqb h.port port) hops)) ≡ sum_by (weight port frame) hops
weighed port frame [] = refl
weighed port frame (h ∷ hops) =
    by (eqb h.port port) (weighed port frame hops) ∙ sym (sum_by-cons (weight port frame) h hops)
  where
    Is : Transmission → Bool
    Is x = eqb x.frame frame

    sent : List Hop → List Transmission
    sent hs = map (λ (h : Hop). h.sent) hs

    rest : List Hop
    rest = filter (λ (h : Hop). eqb h.port port) hops

    by : (t : Bool) → count_by Is (sent rest) ≡ sum_by (weight port frame) hops
        → count_by Is (sent (cond t (h ∷ rest) rest))
        ≡ cond t (cond (eqb h.sent.frame frame) 1 0) 0 + sum_by (weight port frame) hops
    by true more = count_by-cons Is h.sent (sent rest) ∙ ap (λ (n : ℕ). cond (eqb h.sent.frame frame) 1 0 + n) more
    by false more = more ∙ omega arith

weight-le : (port frame number p : ℕ) (release : Release) (class : ℕ) (verdict : Verdict) (sent : Option (Ps × Ps))
    → sum_by (weight port frame) (hop_at p (transmission_by number release class verdict sent))
    ≤ cond (eqb p port) (cond (eqb number frame) 1 0) 0
weight-le port frame number p release class (Eligible e) (Some times) =
    let hop : Hop = record {
      port = p;
      sent = record {
        frame = number;
        sender = release.sender;
        class = class;
        bits = bits_of release.octets;
        eligible = e.0;
        start = times.0.0;
        end = times.1.0;
      };
    } in
    omega (arith, sum_by-cons (weight port frame) hop [])
weight-le port frame number p release class (Eligible e) None = omega arith
weight-le port frame number p release class (Late e) sent = omega arith
weight-le port frame number p release class Size sent = omega arith

abbrev one_if : Bool → ℕ
one_if t = cond t 1 0

-- a list in which no number is twice has this one at most once
never : (port : ℕ) (ports : List ℕ) → All (λ (p : ℕ). port ≢ p) ports → count_by (λ (p : ℕ). eqb p port) ports ≡ 0
never port [] away = refl
never port (p ∷ ports) away =
    omega (
      arith,
      count_by-cons (λ (p : ℕ). eqb p port) p ports,
      ap one_if (ne_eqb p port (λ same. All-head (λ (p : ℕ). port ≢ p) p ports away (sym same))),
      never port ports (All-tail (λ (p : ℕ). port ≢ p) p ports away),
    )

pub at_most_once : (port : ℕ) (ports : List ℕ) → AllPairs (λ p q. p ≢ q) ports
    → count_by (λ (p : ℕ). eqb p port) ports ≤ 1
at_most_once port [] apart = omega arith
at_most_once port (p ∷ ports) apart = elim (cases_eq p port) as
    (λ _. count_by (λ (p : ℕ). eqb p port) (p ∷ ports) ≤ 1) [
      | inl same ↦ (
          let away : All (λ (q : ℕ). port ≢ q) ports =
          subst (λ (n : ℕ). All (λ (q : ℕ). n ≢ q) ports) same (pairs_head (λ p q. p ≢ q) p ports apart) in
          omega (
            arith,
            count_by-cons (λ (p : ℕ). eqb p port) p ports,
            ap one_if (eq-eqb p port same),
            never port ports away,
          ))
      | inr other ↦ omega (
        arith,
        count_by-cons (λ (p : ℕ). eqb p port) p ports,
        ap one_if (ne_eqb p port other),
        at_most_once port ports (pairs_tail (λ p q. p ≢ q) p ports apart),
      )
    ]

none_of : (xs : List ℕ) → sum_by (λ (p : ℕ). 0) xs ≡ 0
none_of [] = refl
none_of (x ∷ xs) = omega (arith, sum_by-cons (λ (p : ℕ). 0) x xs, none_of xs)

cond-le : (a b : Bool) → cond a (one_if b) 0 ≤ one_if a
cond-le true true = omega arith
cond-le true false = omega arith
cond-le false b = omega arith

-- a journey is sent once at a port
own_frame : (network : DeclaredNetwork) (port frame n : ℕ) (j : Travel) → IsNetwork network → IsJourney network j
    → sum_by (weight port frame) (journey_hops network n j) ≤ 1
own_frame network port frame n j net is =
    let s : Sender = sender_at network j.release.sender in
    let keeps : IsSender network.topology s = each_is_sender network net j.release.sender no_sender is.sender in
    let whole : concat (legs_of s.ports s.branches) ≡ s.ports = concat-legs_of s.ports s.branches keeps.branches in
    let most : sum_by (weight port frame) (journey_hops network n j)
    ≤ sum_by (λ (p : ℕ). cond (eqb p port) 1 0) (concat (legs_of s.ports s.branches)) =
    over-le (weight port frame) (λ (p : ℕ). cond (eqb p port) 1 0) n j.release s
    (λ p hop. (
    let one = weight-le port frame n p j.release (class_at s p) hop.verdict hop.sent in
    omega (arith, one, cond-le (eqb p port) (eqb n frame)))) (legs_of s.ports s.branches) (legs_in j) in
    let same : sum_by (λ (p : ℕ). cond (eqb p port) 1 0) (concat (legs_of s.ports s.branches))
    ≡ sum_by (λ (p : ℕ). cond (eqb p port) 1 0) s.ports =
    ap (sum_by (λ (p : ℕ). cond (eqb p port) 1 0)) whole in
    let once : sum_by (λ (p : ℕ). cond (eqb p port) 1 0) s.ports ≤ 1 = at_most_once port s.ports keeps.apart in
    omega (arith, most, same, once)

cond-none : (a : Bool) → cond a (one_if false) 0 ≡ 0
cond-none true = refl
cond-none false = refl

-- and has its own number alone
other_frame : (network : DeclaredNetwork) (port frame n : ℕ) (j : Travel) → n ≢ frame
    → sum_by (weight port frame) (journey_hops network n j) ≤ 0
other_frame network port frame n j other =
    let s : Sender = sender_at network j.release.sender in
    let legs : List (List ℕ) = legs_of s.ports s.branches in
    let none : eqb n frame ≡ false = ne_eqb n frame other in
    let most : sum_by (weight port frame) (journey_hops network n j) ≤ sum_by (λ (p : ℕ). 0) (concat legs) =
    over-le (weight port frame) (λ (p : ℕ). 0) n j.release s
    (λ p hop. (
    let one = weight-le port frame n p j.release (class_at s p) hop.verdict hop.sent in
    let nothing : cond (eqb p port) (cond (eqb n frame) 1 0) 0 ≡ 0 =
    ap (λ (t : Bool). cond (eqb p port) (one_if t) 0) none ∙ cond-none (eqb p port) in
    omega (arith, one, nothing))) legs (legs_in j) in
    omega (arith, most, none_of (concat legs))

later_frames : (network : DeclaredNetwork) (port frame n : ℕ) (run : List Travel) → frame < n
    → sum_by (weight port frame) (hops_from network n run) ≤ 0
later_frames network port frame n [] below = omega arith
later_frames network port frame n (j ∷ run) below =
    let here = other_frame network port frame n j (λ same. absurd (omega (arith, same, below))) in
    let rest = later_frames network port frame (n + 1) run (omega arith) in
    omega (
      arith,
      here,
      rest,
      sum_by-append (weight port frame) (journey_hops network n j) (hops_from network (n + 1) run),
    )

once_from : (network : DeclaredNetwork) (port frame n : ℕ) (run : List Travel) → IsNetwork network
    → All (IsJourney network) run → sum_by (weight port frame) (hops_from network n run) ≤ 1
once_from network port frame n [] net all = omega arith
once_from network port frame n (j ∷ run) net all =
    let both = sum_by-append (weight port frame) (journey_hops network n j) (hops_from network (n + 1) run) in
    elim (cases_eq n frame) as (λ _. sum_by (weight port frame) (hops_from network n (j ∷ run)) ≤ 1) [
      | inl same ↦ (
          let here = own_frame network port frame n j net (All-head (IsJourney network) j run all) in
          let rest = later_frames network port frame (n + 1) run (omega (arith, same)) in
          omega (arith, both, here, rest))
      | inr other ↦ (
          let here = other_frame network port frame n j other in
          let rest = once_from network port frame (n + 1) run net (All-tail (IsJourney network) j run all) in
          omega (arith, both, here, rest))
    ]

pub one_verdict : OneVerdict
one_verdict network run net journeys = record {
  judged = λ journey has. one_verdict_of network journey net
      (subst (IsJourney network) has.2 (journeys has.0 journey has.1));
  sent = λ port frame. (
      let once = once_from network port frame 0 run net journeys in
      omega (arith, once, weighed port frame (hops_from network 0 run)));
}
