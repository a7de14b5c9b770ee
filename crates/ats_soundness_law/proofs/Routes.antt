-- The way of a frame along each route of its sender: it is one, and what is told along it is told of the frame.
use Rattle.std.proofs.Common.{◌≡◌, ℕ, zero, suc, ◌+◌, ◌<◌, ◌≤◌, ◌⊎◌, inl, inr, List, [], ◌∷◌, ◌++◌, length, take}
use Rattle.std.proofs.Common.{get_or, refl, sym, ap, ◌∙◌, subst, arith, length-append, length-take}
use Rattle.std.specs.Prelude.{Option, Some, None}
use Rattle.std.specs.List.{slice_get}
use Rattle.std.proofs.Math.Seq.{take-append-add}
use Rattle.std.proofs.lemmas.List.{length-map, take_all}
use Rattle.std.proofs.lemmas.Option.{slice_get_past, slice_get_within}
use Rattle.ats_streams.specs.Branches.{AreBranches, BeginsEarlier, leads_from, leads_of, leg_at, legs_of, no_branch}
use Rattle.ats_streams.specs.declared.branch.Branch.{Branch}
use Rattle.ats_streams.proofs.BranchLemmas.{begins_at, legs-length}
use Rattle.ats_topology.specs.Topology.{DeclaredTopology}
use Rattle.ats_network.specs.Sender.{Sender}
use Rattle.ats_network.specs.Senders.{IsSender}
use Rattle.ats_trace.specs.Journey.{Leg, Travel, AreCopies, IsCopy, IsReleased, IsWay, legs_in}
use Rattle.ats_trace.specs.Journey.{class_at, no_leg}
use Rattle.ats_trace.specs.Projections.{Hop, Handed, crossings_along, handed_along, hops_along, handed_at}
use Rattle.ats_trace.specs.Projections.{hop_at, transmission_of}
use Rattle.ats_trace.specs.Ways.{records_in, route_to, way_to}
use Rattle.ats_trace.specs.declared.journey.Release.{Release}
use Rattle.ats_trace.specs.HopRecord.{HopRecord}
use Rattle.ats_trace.specs.declared.journey.Ending.{Ending}
use Rattle.ats_trace.proofs.OneVerdict.{copies_many}
use Rattle.ats_soundness_law.proofs.Along.{no_hops, none_handed}
use Rattle.ats_route_law.proofs.Leads.{copy_at, joined_at, lead_first, lead_next, leads-many, records_at}
use Rattle.ats_soundness_law.proofs.Over.{over, crossings_on, handed_on_leg, hops_on}
use Rattle.ats_soundness_law.proofs.Over.{over_first, over_one_more, over_some}
use Rattle.ats_soundness_law.proofs.Parts.{IsPart, part_append, part_of_part, part_same}
use Rattle.ats_soundness_law.proofs.Turns.{turned_crossings, turned_handed, turned_release, turned_way}

-- the ports in front of a leg, and the records in front of it
abbrev lead : Sender → ℕ → List ℕ
lead s m = leg_at (leads_of s.ports s.branches) m

abbrev before : Sender → Travel → ℕ → List HopRecord
before s j m = leg_at (leads_from (records_in j) ([] ∷ []) s.branches) m

-- the ports of a leg, and what happened there
abbrev pub own_ports : Sender → ℕ → List ℕ
own_ports s m = leg_at (legs_of s.ports s.branches) m

abbrev pub own_leg : Travel → ℕ → Leg
own_leg j m = get_or (legs_in j) m no_leg

-- what is told along the first legs, up to this one
abbrev up_to : {X : Type 0} → (List ℕ → Leg → List X) → Sender → Travel → ℕ → List X
up_to along s j m = over along (take (suc m) (legs_of s.ports s.branches)) (take (suc m) (legs_in j))

-- a way of a frame from its release on, along which nothing is told but what is told along the first legs
record Goes (s : Sender) (j : Travel) (m : ℕ) (path : List ℕ) (hops : List HopRecord) (ending : Ending)
    : Type 0 where
  way : IsWay path hops ending
  released : IsReleased j.release hops
  handed : (frame : ℕ) → IsPart (handed_along frame j.release s path hops)
      (up_to (handed_on_leg frame j.release s) s j m)
  crossings : (frame : ℕ) → IsPart (crossings_along frame j.release s path hops ending)
      (up_to (crossings_on frame j.release s) s j m)

-- with the leg of a branch more is told
one_more : {X : Type 0} (along : List ℕ → Leg → List X) (s : Sender) (j : Travel) (turned told : List X) (m n : ℕ)
    → m ≤ n → suc n < length (legs_of s.ports s.branches) → suc n < length (legs_in j)
    → IsPart turned (told ++ along (own_ports s (suc n)) (own_leg j (suc n))) → IsPart told (up_to along s j m)
    → IsPart turned (up_to along s j (suc n))
one_more along s j turned told m n h in_paths in_legs turns first =
    let paths : List (List ℕ) = legs_of s.ports s.branches in
    let legs : List Leg = legs_in j in
    subst (IsPart turned) (sym (over_one_more along paths legs (suc n) in_paths in_legs))
    (part_of_part turned (told ++ along (own_ports s (suc n)) (own_leg j (suc n)))
    (up_to along s j n ++ along (own_ports s (suc n)) (own_leg j (suc n))) turns
    (part_append told (up_to along s j n) (along (own_ports s (suc n)) (own_leg j (suc n)))
    (along (own_ports s (suc n)) (own_leg j (suc n)))
    (part_of_part told (up_to along s j m) (up_to along s j n) first
    (over_first along paths legs (suc m) (suc n) (omega (arith, h))))
    (part_same (along (own_ports s (suc n)) (own_leg j (suc n))))))

-- the way that turns into a branch
turned : (s : Sender) (j : Travel) (m n k : ℕ) (path : List ℕ) (hops : List HopRecord) (ending : Ending)
    → m ≤ n → suc n < length (legs_of s.ports s.branches) → suc n < length (legs_in j) → k < length path
    → IsCopy (slice_get hops k) (own_ports s (suc n)) (own_leg j (suc n)) → Goes s j m path hops ending
    → Goes s j (suc n) (take k path ++ own_ports s (suc n)) (take k hops ++ (own_leg j (suc n)).hops)
    (own_leg j (suc n)).ending
turned s j m n k path hops ending h in_paths in_legs within copy goes =
    let own : List ℕ = own_ports s (suc n) in
    let leg : Leg = own_leg j (suc n) in
    record {
      way = turned_way path hops ending k own leg within copy goes.way;
      released = turned_release j.release hops k own leg copy goes.released;
      handed = λ frame. one_more (handed_on_leg frame j.release s) s j
          (handed_along frame j.release s (take k path ++ own) (take k hops ++ leg.hops))
          (handed_along frame j.release s path hops) m n h in_paths in_legs
          (turned_handed frame j.release s path hops k own leg within copy) (goes.handed frame);
      crossings = λ frame. one_more (crossings_on frame j.release s) s j
          (crossings_along frame j.release s (take k path ++ own) (take k hops ++ leg.hops) leg.ending)
          (crossings_along frame j.release s path hops ending) m n h in_paths in_legs
          (turned_crossings frame j.release s path hops ending k own leg within copy goes.way)
          (goes.crossings frame);
    }

-- there is a record at each port in front of a leg, or none at the leg's own
record Reaches (ports : List ℕ) (records own : List HopRecord) : Type 0 where
  no_more : length records ≤ length ports
  comes : (length records ≡ length ports) ⊎ (own ≡ [])

-- so the records in front of a branch are the first of those on the way from which it turns
same_records : (ports : List ℕ) (records own : List HopRecord) (hop : ℕ) → Reaches ports records own
    → records ++ take hop own ≡ take (length ports + hop) (records ++ own)
same_records ports records own hop reaches = elim reaches.comes as
    (λ _. records ++ take hop own ≡ take (length ports + hop) (records ++ own)) [
      | inl all ↦ sym (take-append-add records own hop)
          ∙ ap (λ (n : ℕ). take (n + hop) (records ++ own)) all
      | inr none ↦ none_of hop own none
    ]
  where
    none_of : (hop : ℕ) (own : List HopRecord) → own ≡ []
        → records ++ take hop own ≡ take (length ports + hop) (records ++ own)
    none_of zero [] none =
        sym (take_all (length ports + 0) (records ++ [])
        (omega (arith, length-append records [], reaches.no_more)))
    none_of (suc hop) [] none =
        sym (take_all (length ports + suc hop) (records ++ [])
        (omega (arith, length-append records [], reaches.no_more)))
    none_of hop (h ∷ own) none = cc (none)

-- and so is the record where it begins
get-behind : (records own : List HopRecord) (hop : ℕ)
    → slice_get (records ++ own) (length records + hop) ≡ slice_get own hop
get-behind [] own hop =
    let none : 0 + hop ≡ hop = omega arith in
    ap (λ (n : ℕ). slice_get own n) none
get-behind (h ∷ records) own hop =
    let next : length (h ∷ records) + hop ≡ suc (length records + hop) = omega arith in
    ap (λ (n : ℕ). slice_get (h ∷ records ++ own) n) next ∙ get-behind records own hop

same_start : (ports : List ℕ) (records own : List HopRecord) (hop : ℕ) → Reaches ports records own
    → slice_get own hop ≡ slice_get (records ++ own) (length ports + hop)
same_start ports records own hop reaches = elim reaches.comes as
    (λ _. slice_get own hop ≡ slice_get (records ++ own) (length ports + hop)) [
      | inl all ↦ sym (get-behind records own hop)
          ∙ ap (λ (n : ℕ). slice_get (records ++ own) (n + hop)) all
      | inr none ↦ (
          let long : length own ≡ 0 = ap (λ (hs : List HopRecord). length hs) none in
          slice_get_past own hop (omega (arith, long))
          ∙ sym (slice_get_past (records ++ own) (length ports + hop)
          (omega (arith, length-append records own, long, reaches.no_more))))
    ]

-- the way along each route
record OnLeg (s : Sender) (j : Travel) (m : ℕ) : Type 0 where
  reaches : Reaches (lead s m) (before s j m) (own_leg j m).hops
  goes : Goes s j m (lead s m ++ own_ports s m) (before s j m ++ (own_leg j m).hops) (own_leg j m).ending

trunk_first : {X : Type 0} (along : List ℕ → Leg → List X) (s : Sender) (j : Travel)
    → IsPart (along (own_ports s 0) (own_leg j 0)) (up_to along s j 0)
trunk_first along s j =
    let told : over along (take 1 (legs_of s.ports s.branches)) (take 1 (legs_in j))
    ≡ along (own_ports s 0) (own_leg j 0) =
    over_one_more along (legs_of s.ports s.branches) (legs_in j) 0
    (omega (arith, legs-length 0 s.ports s.branches)) (omega arith) in
    subst (IsPart (along (own_ports s 0) (own_leg j 0))) (sym told) (part_same (along (own_ports s 0) (own_leg j 0)))

on_trunk : (s : Sender) (j : Travel) → IsWay (own_ports s 0) j.hops j.ending → IsReleased j.release j.hops
    → OnLeg s j 0
on_trunk s j way released =
    let no_ports : lead s 0 ≡ [] = lead_first (legs_of s.ports s.branches) s.branches in
    let no_records : before s j 0 ≡ [] = lead_first (records_in j) s.branches in
    let goes : Goes s j 0 (own_ports s 0) j.hops j.ending = record {
      way = way;
      released = released;
      handed = λ frame. trunk_first (handed_on_leg frame j.release s) s j;
      crossings = λ frame. trunk_first (crossings_on frame j.release s) s j;
    } in
    record {
      reaches = record {
        no_more = omega (arith, ap (λ (hs : List HopRecord). length hs) no_records);
        comes = inl (ap (λ (hs : List HopRecord). length hs) no_records
            ∙ sym (ap (λ (ps : List ℕ). length ps) no_ports));
      };
      goes = subst (λ (ps : List ℕ). Goes s j 0 (ps ++ own_ports s 0) (before s j 0 ++ j.hops) j.ending) (sym no_ports)
          (subst (λ (hs : List HopRecord). Goes s j 0 (own_ports s 0) (hs ++ j.hops) j.ending) (sym no_records) goes);
    }

on_branch : (s : Sender) (j : Travel) (n : ℕ) → AreBranches s.ports s.branches → AreCopies s j
    → n < length s.branches → OnLeg s j (get_or s.branches n no_branch).leg → OnLeg s j (suc n)
on_branch s j n are copied within on =
    let legs : List (List ℕ) = legs_of s.ports s.branches in
    let b : Branch = get_or s.branches n no_branch in
    let begins : BeginsEarlier legs (1 + n) b = begins_at legs 1 s.branches n are.begin within in
    let ports : List ℕ = lead s b.leg in
    let records : List HopRecord = before s j b.leg in
    let path : List ℕ = own_ports s b.leg in
    let hops : List HopRecord = (own_leg j b.leg).hops in
    let own : List ℕ = own_ports s (suc n) in
    let leg : Leg = own_leg j (suc n) in
    let k : ℕ = length ports + b.hop in
    let copy : IsCopy (slice_get hops b.hop) own leg = copy_at s j n copied within in
    let start : slice_get hops b.hop ≡ slice_get (records ++ hops) k =
    same_start ports records hops b.hop on.reaches in
    let lead_is : lead s (suc n) ≡ ports ++ take b.hop path = lead_next s.ports s.branches legs n are within in
    let before_is : before s j (suc n) ≡ records ++ take b.hop hops =
    lead_next s.ports s.branches (records_in j) n are within
    ∙ ap (λ (hs : List HopRecord). records ++ take b.hop hs) (records_at (legs_in j) b.leg) in
    let goes : Goes s j (suc n) (take k (ports ++ path) ++ own) (take k (records ++ hops) ++ leg.hops) leg.ending =
    turned s j b.leg n k (ports ++ path) (records ++ hops) (own_leg j b.leg).ending (omega (arith, begins.earlier))
    (omega (arith, legs-length 0 s.ports s.branches, within)) (omega (arith, copies_many s j copied, within))
    (omega (arith, length-append ports path, begins.within))
    (subst (λ (o : Option HopRecord). IsCopy o own leg) start copy) on.goes in
    let lead_long : length (lead s (suc n)) ≡ k =
    ap (λ (ps : List ℕ). length ps) lead_is
    ∙ omega (arith, length-append ports (take b.hop path), length-take b.hop path, begins.within) in
    let before_long : length (before s j (suc n)) ≡ length records + length (take b.hop hops) =
    ap (λ (hs : List HopRecord). length hs) before_is ∙ length-append records (take b.hop hops) in
    record {
      reaches = record {
        no_more = omega (arith, lead_long, before_long, length-take b.hop hops, on.reaches.no_more);
        comes = by (slice_get hops b.hop) refl copy lead_long before_long;
      };
      goes = subst (λ (ps : List ℕ). Goes s j (suc n) (ps ++ own) (before s j (suc n) ++ leg.hops) leg.ending)
          (take-append-add ports path b.hop ∙ sym lead_is)
          (subst (λ (hs : List HopRecord). Goes s j (suc n) (take k (ports ++ path) ++ own) (hs ++ leg.hops)
          leg.ending) (sym (same_records ports records hops b.hop on.reaches) ∙ sym before_is) goes);
    }
  where
    by : (o : Option HopRecord)
        → slice_get (own_leg j (get_or s.branches n no_branch).leg).hops (get_or s.branches n no_branch).hop ≡ o
        → IsCopy o (own_ports s (suc n)) (own_leg j (suc n))
        → length (lead s (suc n))
        ≡ length (lead s (get_or s.branches n no_branch).leg) + (get_or s.branches n no_branch).hop
        → length (before s j (suc n)) ≡ length (before s j (get_or s.branches n no_branch).leg)
        + length (take (get_or s.branches n no_branch).hop (own_leg j (get_or s.branches n no_branch).leg).hops)
        → (length (before s j (suc n)) ≡ length (lead s (suc n))) ⊎ ((own_leg j (suc n)).hops ≡ [])
    by None at copy lead_long before_long = inr copy.0
    by (Some start) at copy lead_long before_long =
        let b : Branch = get_or s.branches n no_branch in
        let hops : List HopRecord = (own_leg j b.leg).hops in
        let within : b.hop < length hops = slice_get_within hops b.hop start at in
        elim on.reaches.comes as
        (λ _. (length (before s j (suc n)) ≡ length (lead s (suc n))) ⊎ ((own_leg j (suc n)).hops ≡ [])) [
          | inl all ↦ inl (omega (arith, all, lead_long, before_long, length-take b.hop hops, within))
          | inr none ↦ absurd (omega (arith, within, ap (λ (hs : List HopRecord). length hs) none))
        ]

on_leg : (s : Sender) (j : Travel) → AreBranches s.ports s.branches → AreCopies s j
    → IsWay (own_ports s 0) j.hops j.ending → IsReleased j.release j.hops → (fuel m : ℕ) → m ≤ fuel
    → m ≤ length s.branches → OnLeg s j m
on_leg s j are copied way released fuel zero enough within = on_trunk s j way released
on_leg s j are copied way released zero (suc n) enough within = absurd (omega arith)
on_leg s j are copied way released (suc fuel) (suc n) enough within =
    let begins : BeginsEarlier (legs_of s.ports s.branches) (1 + n) (get_or s.branches n no_branch) =
    begins_at (legs_of s.ports s.branches) 1 s.branches n are.begin (omega (arith, within)) in
    on_branch s j n are copied (omega (arith, within))
    (on_leg s j are copied way released fuel (get_or s.branches n no_branch).leg
    (omega (arith, begins.earlier, enough)) (omega (arith, begins.earlier, within)))

-- the leg's own part of the way
own_hops_are : (frame : ℕ) (release : Release) (s : Sender) (ports path : List ℕ) (records hops : List HopRecord)
    → length records ≡ length ports → IsPart (hops_along frame release s path hops)
    (hops_along frame release s (ports ++ path) (records ++ hops))
own_hops_are frame release s [] path [] hops long = part_same (hops_along frame release s path hops)
own_hops_are frame release s [] path (h ∷ records) hops long = absurd (omega arith)
own_hops_are frame release s (p ∷ ports) path [] hops long = absurd (omega arith)
own_hops_are frame release s (p ∷ ports) path (h ∷ records) hops long =
    let here : List Hop = hop_at p (transmission_of frame release (class_at s p) h) in
    part_append [] here (hops_along frame release s path hops)
    (hops_along frame release s (ports ++ path) (records ++ hops)) tt
    (own_hops_are frame release s ports path records hops (omega (arith, long)))

own_handed_is : (frame : ℕ) (release : Release) (s : Sender) (ports path : List ℕ) (records hops : List HopRecord)
    → length records ≡ length ports → IsPart (handed_along frame release s path hops)
    (handed_along frame release s (ports ++ path) (records ++ hops))
own_handed_is frame release s [] path [] hops long = part_same (handed_along frame release s path hops)
own_handed_is frame release s [] path (h ∷ records) hops long = absurd (omega arith)
own_handed_is frame release s (p ∷ ports) path [] hops long = absurd (omega arith)
own_handed_is frame release s (p ∷ ports) path (h ∷ records) hops long =
    let here : List Handed = handed_at release.octets h.arrival.0 p (transmission_of frame release (class_at s p) h)
    (records ++ hops) in
    part_append [] here (handed_along frame release s path hops)
    (handed_along frame release s (ports ++ path) (records ++ hops)) tt
    (own_handed_is frame release s ports path records hops (omega (arith, long)))

own_hops_part : (frame : ℕ) (release : Release) (s : Sender) (ports path : List ℕ) (records hops : List HopRecord)
    → Reaches ports records hops → IsPart (hops_along frame release s path hops)
    (hops_along frame release s (ports ++ path) (records ++ hops))
own_hops_part frame release s ports path records hops reaches =
    let all : List Hop = hops_along frame release s (ports ++ path) (records ++ hops) in
    elim reaches.comes as (λ _. IsPart (hops_along frame release s path hops) all) [
      | inl long ↦ own_hops_are frame release s ports path records hops long
      | inr none ↦ subst (λ (hs : List Hop). IsPart hs all) (sym (ap (hops_along frame release s path) none
          ∙ no_hops frame release s path)) tt
    ]

own_handed_part : (frame : ℕ) (release : Release) (s : Sender) (ports path : List ℕ) (records hops : List HopRecord)
    → Reaches ports records hops → IsPart (handed_along frame release s path hops)
    (handed_along frame release s (ports ++ path) (records ++ hops))
own_handed_part frame release s ports path records hops reaches =
    let all : List Handed = handed_along frame release s (ports ++ path) (records ++ hops) in
    elim reaches.comes as (λ _. IsPart (handed_along frame release s path hops) all) [
      | inl long ↦ own_handed_is frame release s ports path records hops long
      | inr none ↦ subst (λ (hs : List Handed). IsPart hs all) (sym (ap (handed_along frame release s path) none
          ∙ none_handed frame release s path)) tt
    ]

-- the way of a frame along the route to a listener: it is one, from the release on; what is handed on along it, and
-- what crosses its ports, is some of what is told of the frame; and of what is told of the listener's leg all is told
-- along it
pub record OnRoute (s : Sender) (j : Travel) (m : ℕ) : Type 0 where
  pub way : IsWay (route_to s m) (way_to s j m).hops (way_to s j m).ending
  pub released : IsReleased j.release (way_to s j m).hops
  pub handed : (frame : ℕ) → IsPart (handed_along frame j.release s (route_to s m) (way_to s j m).hops)
      (over (handed_on_leg frame j.release s) (legs_of s.ports s.branches) (legs_in j))
  pub crossings : (frame : ℕ)
      → IsPart (crossings_along frame j.release s (route_to s m) (way_to s j m).hops (way_to s j m).ending)
      (over (crossings_on frame j.release s) (legs_of s.ports s.branches) (legs_in j))
  pub own_hops : (frame : ℕ) → IsPart (hops_on frame j.release s (own_ports s m) (own_leg j m))
      (hops_along frame j.release s (route_to s m) (way_to s j m).hops)
  pub own_handed : (frame : ℕ) → IsPart (handed_on_leg frame j.release s (own_ports s m) (own_leg j m))
      (handed_along frame j.release s (route_to s m) (way_to s j m).hops)

-- in other words
record Leads (s : Sender) (j : Travel) (m : ℕ) (route : List ℕ) (hops : List HopRecord) : Type 0 where
  way : IsWay route hops (own_leg j m).ending
  released : IsReleased j.release hops
  handed : (frame : ℕ) → IsPart (handed_along frame j.release s route hops)
      (over (handed_on_leg frame j.release s) (legs_of s.ports s.branches) (legs_in j))
  crossings : (frame : ℕ) → IsPart (crossings_along frame j.release s route hops (own_leg j m).ending)
      (over (crossings_on frame j.release s) (legs_of s.ports s.branches) (legs_in j))
  own_hops : (frame : ℕ) → IsPart (hops_on frame j.release s (own_ports s m) (own_leg j m))
      (hops_along frame j.release s route hops)
  own_handed : (frame : ℕ) → IsPart (handed_on_leg frame j.release s (own_ports s m) (own_leg j m))
      (handed_along frame j.release s route hops)

leads : (s : Sender) (j : Travel) (m : ℕ) → OnLeg s j m
    → Leads s j m (lead s m ++ own_ports s m) (before s j m ++ (own_leg j m).hops)
leads s j m on =
    let paths : List (List ℕ) = legs_of s.ports s.branches in
    let legs : List Leg = legs_in j in
    let route : List ℕ = lead s m ++ own_ports s m in
    let hops : List HopRecord = before s j m ++ (own_leg j m).hops in
    record {
      way = on.goes.way;
      released = on.goes.released;
      handed = λ frame. part_of_part (handed_along frame j.release s route hops)
          (up_to (handed_on_leg frame j.release s) s j m) (over (handed_on_leg frame j.release s) paths legs)
          (on.goes.handed frame) (over_some (handed_on_leg frame j.release s) paths legs (suc m));
      crossings = λ frame. part_of_part (crossings_along frame j.release s route hops (own_leg j m).ending)
          (up_to (crossings_on frame j.release s) s j m) (over (crossings_on frame j.release s) paths legs)
          (on.goes.crossings frame) (over_some (crossings_on frame j.release s) paths legs (suc m));
      own_hops = λ frame. own_hops_part frame j.release s (lead s m) (own_ports s m) (before s j m)
          (own_leg j m).hops on.reaches;
      own_handed = λ frame. own_handed_part frame j.release s (lead s m) (own_ports s m) (before s j m)
          (own_leg j m).hops on.reaches;
    }

on_route_by : (s : Sender) (j : Travel) (m : ℕ) → Leads s j m (route_to s m) (way_to s j m).hops → OnRoute s j m
on_route_by s j m all = record {
  way = all.way;
  released = all.released;
  handed = all.handed;
  crossings = all.crossings;
  own_hops = all.own_hops;
  own_handed = all.own_handed;
}

pub on_route : (topology : DeclaredTopology) (s : Sender) (j : Travel) (m : ℕ) → IsSender topology s → AreCopies s j
    → IsWay (own_ports s 0) j.hops j.ending → IsReleased j.release j.hops → m ≤ length s.branches → OnRoute s j m
on_route topology s j m keeps copied way released within =
    let paths : List (List ℕ) = legs_of s.ports s.branches in
    let records : List (List HopRecord) = records_in j in
    let on : OnLeg s j m = on_leg s j keeps.branches copied way released m m (omega arith) within in
    let many : length paths ≡ suc (length s.branches) = legs-length 0 s.ports s.branches in
    let told : length records ≡ suc (length s.branches) =
    length-map (legs_in j) (λ (leg : Leg). leg.hops) ∙ ap suc (copies_many s j copied) in
    let route_is : route_to s m ≡ lead s m ++ own_ports s m =
    joined_at (leads_of s.ports s.branches) paths m
    (omega (arith, leads-many paths ([] ∷ []) s.branches, within)) (omega (arith, many, within)) in
    let way_is : (way_to s j m).hops ≡ before s j m ++ (own_leg j m).hops =
    joined_at (leads_from records ([] ∷ []) s.branches) records m
    (omega (arith, leads-many records ([] ∷ []) s.branches, within)) (omega (arith, told, within))
    ∙ ap (λ (hs : List HopRecord). before s j m ++ hs) (records_at (legs_in j) m) in
    on_route_by s j m
    (subst (λ (ps : List ℕ). Leads s j m ps (way_to s j m).hops) (sym route_is)
    (subst (Leads s j m (lead s m ++ own_ports s m)) (sym way_is) (leads s j m on)))
