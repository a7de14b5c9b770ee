-- The crossings of a frame along the routes of its sender.
use Rattle.std.proofs.Common.{◌≡◌, ◌≢◌, ℕ, zero, suc, ◌+◌, ◌<◌, ◌≤◌, ◌⊎◌, inl, inr, List, [], ◌∷◌, ◌++◌, length, take}
use Rattle.std.proofs.Common.{get_or, All, sum_by, refl, sym, ap, ◌∙◌, subst, arith, length-append, length-take}
use Rattle.std.specs.Prelude.{Option, Some, None}
use Rattle.std.specs.List.{AllPairs, concat, slice_get}
use Rattle.std.proofs.lemmas.Option.{slice_get_within}
use Rattle.ats_streams.specs.Branches.{AreBranches, BeginsEarlier, leads_of, leg_at, legs_of, no_branch}
use Rattle.ats_streams.specs.declared.branch.Branch.{Branch}
use Rattle.ats_streams.proofs.BranchLemmas.{begins_at, legs-length, route-at, routes-length}
use Rattle.ats_network.specs.Network.{DeclaredNetwork, IsNetwork}
use Rattle.ats_network.specs.Sender.{Sender}
use Rattle.ats_network.specs.Senders.{sender_at, IsSender}
use Rattle.ats_port_law.proofs.Sums.{sum_by-none}
use Rattle.ats_trace.specs.Journey.{AreCopies, IsCopy, IsJourney, Leg, Travel, class_at, legs_in}
use Rattle.ats_trace.specs.Projections.{Crossing, Hop, crossing_at, crossings_along, journey_crossings, transmission_of}
use Rattle.ats_trace.specs.Stored.{leg_in}
use Rattle.ats_trace.specs.Ways.{listener_count, route_to, way_to}
use Rattle.ats_trace.specs.declared.journey.Ending.{Ending}
use Rattle.ats_trace.specs.HopRecord.{HopRecord}
use Rattle.ats_trace.specs.declared.journey.Release.{Release}
use Rattle.ats_trace.proofs.Legs.{concat-legs_of}
use Rattle.ats_route_law.proofs.Leads.{copy_at, lead_first, lead_next, records_at}
use Rattle.ats_route_law.proofs.Ways.{leads_in, way_at}
use Rattle.ats_trace.specs.Ways.{records_in}
use Rattle.ats_soundness_law.proofs.Along.{all_hops, all_were_sent}
use Rattle.ats_soundness_law.proofs.Journeys.{IsAt, journey_sender, leg_listener, listeners_many}
use Rattle.ats_soundness_law.proofs.Over.{crossings_are, crossings_on, over-le, over_all}
use Rattle.ats_soundness_law.proofs.Parts.{IsPart, part-le, part_all, part_append, part_same}

-- along a leg where a frame has a record, it has one at each port in front of the leg
abbrev IsReached : Sender → Travel → ℕ → Type 0
IsReached s j m = (length (leg_at (leads_in s j) m) ≡ length (leg_at (leads_of s.ports s.branches) m))
    ⊎ ((leg_in j m).hops ≡ [])

reached : (s : Sender) (j : Travel) → AreBranches s.ports s.branches → AreCopies s j → (fuel m : ℕ) → m ≤ fuel
    → m ≤ length s.branches → IsReached s j m
reached s j are copied fuel zero enough within =
    inl (ap (λ (hs : List HopRecord). length hs) (lead_first (records_in j) s.branches)
    ∙ sym (ap (λ (ps : List ℕ). length ps) (lead_first (legs_of s.ports s.branches) s.branches)))
reached s j are copied zero (suc n) enough within = absurd (omega arith)
reached s j are copied (suc fuel) (suc n) enough within =
    by (slice_get hops b.hop) refl (copy_at s j n copied (omega arith))
    (reached s j are copied fuel b.leg (omega (arith, begins.earlier, enough)) (omega (arith, begins.earlier, within)))
  where
    b : Branch
    b = get_or s.branches n no_branch

    begins : BeginsEarlier (legs_of s.ports s.branches) (1 + n) b
    begins = begins_at (legs_of s.ports s.branches) 1 s.branches n are.begin (omega arith)

    hops : List HopRecord
    hops = (leg_in j b.leg).hops

    path : List ℕ
    path = leg_at (legs_of s.ports s.branches) b.leg

    ports_long : length (leg_at (leads_of s.ports s.branches) (suc n))
        ≡ length (leg_at (leads_of s.ports s.branches) b.leg) + b.hop
    ports_long =
        ap (λ (ps : List ℕ). length ps)
        (lead_next s.ports s.branches (legs_of s.ports s.branches) n are (omega arith))
        ∙ omega (
          arith,
          length-append (leg_at (leads_of s.ports s.branches) b.leg) (take b.hop path),
          length-take b.hop path,
          begins.within,
        )

    records_long : length (leg_at (leads_in s j) (suc n))
        ≡ length (leg_at (leads_in s j) b.leg) + length (take b.hop hops)
    records_long =
        ap (λ (hs : List HopRecord). length hs) (lead_next s.ports s.branches (records_in j) n are (omega arith)
        ∙ ap (λ (hs : List HopRecord). leg_at (leads_in s j) b.leg ++ take b.hop hs) (records_at (legs_in j) b.leg))
        ∙ length-append (leg_at (leads_in s j) b.leg) (take b.hop hops)

    by : (start : Option HopRecord) → slice_get hops b.hop ≡ start
        → IsCopy (slice_get hops b.hop) (leg_at (legs_of s.ports s.branches) (suc n)) (leg_in j (suc n))
        → IsReached s j b.leg → IsReached s j (suc n)
    by None at copy before =
        inr (subst (λ (o : Option HopRecord). IsCopy o (leg_at (legs_of s.ports s.branches) (suc n))
        (leg_in j (suc n))) at copy).0
    by (Some start) at copy (inl all) =
        inl (omega (
          arith,
          all,
          ports_long,
          records_long,
          length-take b.hop hops,
          slice_get_within hops b.hop start at,
        ))
    by (Some start) at copy (inr none) =
        absurd (omega (
          arith,
          slice_get_within hops b.hop start at,
          ap (λ (hs : List HopRecord). length hs) none,
        ))

-- so what crosses along the leg crosses along the route
behind_lead : (n : ℕ) (r : Release) (s : Sender) (ports path : List ℕ) (records hops : List HopRecord)
    (ending : Ending) → length records ≡ length ports
    → IsPart (crossings_along n r s path hops ending) (crossings_along n r s (ports ++ path) (records ++ hops) ending)
behind_lead n r s [] path [] hops ending long = part_same (crossings_along n r s path hops ending)
behind_lead n r s [] path (h ∷ records) hops ending long = absurd (omega arith)
behind_lead n r s (p ∷ ports) path [] hops ending long = absurd (omega arith)
behind_lead n r s (p ∷ ports) path (h ∷ records) hops ending long =
    let here : List Crossing =
    crossing_at r.octets h.arrival.0 p (transmission_of n r (class_at s p) h) (records ++ hops) ending in
    part_append [] here (crossings_along n r s path hops ending)
    (crossings_along n r s (ports ++ path) (records ++ hops) ending) tt
    (behind_lead n r s ports path records hops ending (omega (arith, long)))

none_crossed : (n : ℕ) (r : Release) (s : Sender) (path : List ℕ) (ending : Ending)
    → crossings_along n r s path [] ending ≡ []
none_crossed n r s [] ending = refl
none_crossed n r s (p ∷ path) ending = refl

own_crossings : (network : DeclaredNetwork) (n : ℕ) (j : Travel) (m : ℕ) → IsNetwork network → IsJourney network j
    → m < listener_count (sender_at network j.release.sender)
    → IsPart (crossings_on n j.release (sender_at network j.release.sender)
    (leg_at (legs_of (sender_at network j.release.sender).ports (sender_at network j.release.sender).branches) m)
    (leg_in j m))
    (crossings_along n j.release (sender_at network j.release.sender)
    (route_to (sender_at network j.release.sender) m) (way_to (sender_at network j.release.sender) j m).hops
    (way_to (sender_at network j.release.sender) j m).ending)
own_crossings network n j m net is within =
    let r : Release = j.release in
    let s : Sender = sender_at network r.sender in
    let keeps : IsSender network.topology s = journey_sender network j net is in
    let many : m ≤ length s.branches = listeners_many s m within in
    let own : List ℕ = leg_at (legs_of s.ports s.branches) m in
    let lead : List ℕ = leg_at (leads_of s.ports s.branches) m in
    let front : List HopRecord = leg_at (leads_in s j) m in
    let leg : Leg = leg_in j m in
    let Part : List ℕ → List HopRecord → Type 0 = λ (path : List ℕ) (hops : List HopRecord).
    IsPart (crossings_on n r s own leg) (crossings_along n r s path hops leg.ending) in
    let there : Part (lead ++ own) (front ++ leg.hops) =
    elim (reached s j keeps.branches is.copies m m (omega arith) many)
    as (λ _. IsPart (crossings_along n r s own leg.hops leg.ending)
    (crossings_along n r s (lead ++ own) (front ++ leg.hops) leg.ending)) [
      | inl all ↦ behind_lead n r s lead own front leg.hops leg.ending all
      | inr none ↦ subst (λ (cs : List Crossing). IsPart cs
          (crossings_along n r s (lead ++ own) (front ++ leg.hops) leg.ending))
          (sym (ap (λ (hs : List HopRecord). crossings_along n r s own hs leg.ending) none
          ∙ none_crossed n r s own leg.ending)) tt
    ] in
    subst (λ (path : List ℕ). Part path (way_to s j m).hops) (sym (route-at s.ports s.branches m [] many))
    (subst (Part (lead ++ own)) (sym (way_at s j m is.copies many)) there)

-- what holds of each crossing along each route holds of all of the journey
pub crossings_by_routes : (P : Crossing → Type 0) (network : DeclaredNetwork) (n : ℕ) (j : Travel) → IsNetwork network
    → IsJourney network j
    → ((m : ℕ) → m < listener_count (sender_at network j.release.sender)
    → All P (crossings_along n j.release (sender_at network j.release.sender)
    (route_to (sender_at network j.release.sender) m) (way_to (sender_at network j.release.sender) j m).hops
    (way_to (sender_at network j.release.sender) j m).ending))
    → All P (journey_crossings network n j)
crossings_by_routes P network n j net is each =
    let r : Release = j.release in
    let s : Sender = sender_at network r.sender in
    let paths : List (List ℕ) = legs_of s.ports s.branches in
    subst (All P) (sym (crossings_are n r s paths (legs_in j)))
    (over_all P (crossings_on n r s) paths (legs_in j)
    (λ m in_paths in_legs. (
    let within : m < listener_count s =
    omega (arith, in_paths, legs-length 0 s.ports s.branches, routes-length s.ports s.branches) in
    part_all P (crossings_on n r s (leg_at paths m) (leg_in j m))
    (crossings_along n r s (route_to s m) (way_to s j m).hops (way_to s j m).ending)
    (own_crossings network n j m net is within) (each m within))))

-- what weighs at one port alone weighs nothing along ports of which none is this one
weightless : (f : Crossing → ℕ) (port n : ℕ) (r : Release) (s : Sender)
    → ((c : Crossing) → c.port ≢ port → f c ≤ 0) → (path : List ℕ) (leg : Leg) → All (λ (p : ℕ). port ≢ p) path
    → sum_by f (crossings_on n r s path leg) ≤ 0
weightless f port n r s alone path leg away =
    let elsewhere = all_were_sent (λ (g : Hop). g.port ≢ port) n r s path leg.hops leg.ending
    (all_hops (λ (g : Hop). g.port ≢ port) n r s path leg.hops (λ k d h e times same. away k d h (sym same))) in
    let none = sum_by-none f (crossings_on n r s path leg)
    (λ k d h. alone (get_or (crossings_on n r s path leg) k d) (elsewhere k d h)) in
    omega (arith, none)

-- so of a journey it weighs no more than along the route of the leg that has the port
pub weighs_on_route : (f : Crossing → ℕ) (network : DeclaredNetwork) (port n : ℕ) (j : Travel) (leg hop : ℕ)
    → ((c : Crossing) → c.port ≢ port → f c ≤ 0) → IsNetwork network → IsJourney network j
    → IsAt (sender_at network j.release.sender) port leg hop
    → sum_by f (journey_crossings network n j)
    ≤ sum_by f (crossings_along n j.release (sender_at network j.release.sender)
    (route_to (sender_at network j.release.sender) leg) (way_to (sender_at network j.release.sender) j leg).hops
    (way_to (sender_at network j.release.sender) j leg).ending)
weighs_on_route f network port n j leg hop alone net is at =
    let r : Release = j.release in
    let s : Sender = sender_at network r.sender in
    let paths : List (List ℕ) = legs_of s.ports s.branches in
    let keeps : IsSender network.topology s = journey_sender network j net is in
    let apart : AllPairs (λ p q. p ≢ q) (concat paths) =
    subst (AllPairs (λ p q. p ≢ q)) (sym (concat-legs_of s.ports s.branches keeps.branches)) keeps.apart in
    let Weightless : ℕ → Type 0 = λ (p : ℕ). (path : List ℕ) (own : Leg) → All (λ (q : ℕ). p ≢ q) path
    → sum_by f (crossings_on n r s path own) ≤ 0 in
    omega (
      arith,
      ap (λ (cs : List Crossing). sum_by f cs) (crossings_are n r s paths (legs_in j)),
      over-le f (crossings_on n r s) paths (legs_in j) leg hop
          (subst Weightless (sym at.is) (weightless f port n r s alone)) apart at.in_legs at.in_leg,
      part-le f (crossings_on n r s (leg_at paths leg) (leg_in j leg))
          (crossings_along n r s (route_to s leg) (way_to s j leg).hops (way_to s j leg).ending)
          (own_crossings network n j leg net is (leg_listener s port leg hop at)),
    )
