-- Rates and bursts, from a port to the next one.
use Rattle.std.proofs.Common.{◌≡◌, ℕ, zero, suc, ◌+◌, ◌<◌, ◌≤◌, ◌⊎◌, inl, inr, true, false, List, [], ◌∷◌, ◌++◌, map}
use Rattle.std.proofs.Common.{length, length-append, get_or, take, Some, None, refl, sym, ap, ◌∙◌, subst, arith}
use Rattle.std.proofs.Common.{add-one}
use Rattle.std.specs.List.{before_first, list_any, position_or_len}
use Rattle.std.proofs.lemmas.Bool.{cases_Bool, cases_lt, cond-false, eqb-true, true≢false}
use Rattle.std.proofs.lemmas.List.{get_or-append-add, map-append, take_more}
use Rattle.std.proofs.lemmas.List.Folds.{list_any_none}
use Rattle.std.proofs.lemmas.List.Sums.{fails_before_first, fold-append, passes_at_first}
use Rattle.std.proofs.lemmas.Option.{none-some, same_Some}
use Rattle.ats_clock.specs.Clock.{DeclaredClock}
use Rattle.ats_clock.specs.Laws.{IsNoGreater}
use Rattle.ats_clock.specs.Rates.{committed, output_behind, output_of, scheduler_for}
use Rattle.ats_clock.specs.declared.committed.Committed.{Committed}
use Rattle.ats_clock.proofs.Falling.{never_falls}
use Rattle.ats_streams.specs.Branches.{routes_of}
use Rattle.ats_streams.proofs.BranchLemmas.{legs-length, route-at, routes-length}
use Rattle.ats_topology.specs.Port.{port_at}
use Rattle.ats_topology.specs.Topology.{DeclaredTopology, IsTopology}
use Rattle.ats_topology.proofs.Rules.{node_is}
use Rattle.ats_network.specs.Class.{port_before}
use Rattle.ats_network.specs.Rates.{clock_behind, committed_at, in_front_on, ports_to, scheduled_at, talker_clock}
use Rattle.ats_network.specs.Sender.{Sender}
use Rattle.ats_network.specs.Senders.{IsSender}
use Rattle.ats_trace.specs.Ways.{route_to}
use Rattle.ats_route_law.specs.Laws.{RatesGoHopByHop, ports_of_leg}
use Rattle.ats_route_law.proofs.Before.{IsSomewhere, before_on_route, lead_on, somewhere}
use Rattle.ats_route_law.proofs.InFront.{comes_by, is_port, none_before}

-- a port is at a place of one of these routes
record IsOnSome (port : ℕ) (routes : List (List ℕ)) : Type 0 where
  route : ℕ
  place : ℕ
  in_routes : route < length routes
  in_route : place < length (get_or routes route [])
  is : get_or (get_or routes route []) place 0 ≡ port

-- so it is of a port that has one in front of it
on_some : (port : ℕ) (routes : List (List ℕ)) → IsOnSome port routes ⊎ (in_front_on port routes ≡ [])
on_some port [] = inr refl
on_some port (route ∷ routes) =
    elim (cases_Bool (list_any (is_port port) route))
    as (λ _. IsOnSome port (route ∷ routes) ⊎ (in_front_on port (route ∷ routes) ≡ [])) [
      | inl has ↦ inl (here has)
      | inr not ↦ further not (on_some port routes)
    ]
  where
    place : ℕ
    place = position_or_len (is_port port) route

    here : list_any (is_port port) route ≡ true → IsOnSome port (route ∷ routes)
    here has = elim (cases_lt place (length route)) as (λ _. IsOnSome port (route ∷ routes)) [
      | inl inside ↦ record {
        route = 0;
        place = place;
        in_routes = omega arith;
        in_route = inside;
        is = eqb-true (get_or route place 0) port (passes_at_first (is_port port) route 0 inside);
      }
      | inr past ↦ absurd (true≢false (sym has ∙ list_any_none (is_port port) route
          (λ k d w. fails_before_first (is_port port) route k d (omega (arith, past, w)))))
    ]

    further : list_any (is_port port) route ≡ false → IsOnSome port routes ⊎ (in_front_on port routes ≡ [])
        → IsOnSome port (route ∷ routes) ⊎ (in_front_on port (route ∷ routes) ≡ [])
    further not (inl at) = inl (record {
      route = suc at.route;
      place = at.place;
      in_routes = omega (arith, at.in_routes);
      in_route = at.in_route;
      is = at.is;
    })
    further not (inr none) = inr (cond-false (list_any (is_port port) route) (before_first (is_port port) route)
        (in_front_on port routes) not ∙ none)

-- a port at a place of a route, which is the first one or has one before it
record IsReached (s : Sender) (port : ℕ) : Type 0 where
  leg : ℕ
  place : ℕ
  in_legs : leg ≤ length s.branches
  within : place < length (route_to s leg)
  is : get_or (route_to s leg) place 0 ≡ port

reached : (topology : DeclaredTopology) (s : Sender) (port before : ℕ) → IsSender topology s
    → port_before s port ≡ Some before → IsReached s port
reached topology s port before is has =
    let at : IsSomewhere s port = somewhere topology s port before is has in
    let in_legs : at.leg ≤ length s.branches = omega (arith, at.at.in_legs, legs-length 0 s.ports s.branches) in
    let lead : List ℕ = lead_on s at.leg in
    let leg : List ℕ = ports_of_leg s at.leg in
    let route_is : route_to s at.leg ≡ lead ++ leg = route-at s.ports s.branches at.leg [] in_legs in
    record {
      leg = at.leg;
      place = length lead + at.hop;
      in_legs = in_legs;
      within = omega (arith, at.at.in_leg, ap (λ (l : List ℕ). length l) route_is, length-append lead leg);
      is = ap (λ (l : List ℕ). get_or l (length lead + at.hop) 0) route_is ∙ get_or-append-add lead leg at.hop 0
          ∙ at.at.is;
    }

-- to a port that has none before it frames come by no other
pub comes_first : (topology : DeclaredTopology) (s : Sender) (port : ℕ) → IsSender topology s
    → port_before s port ≡ None → ports_to s port ≡ []
comes_first topology s port is none =
    elim (on_some port (routes_of s.ports s.branches)) as (λ _. ports_to s port ≡ []) [
      | inl at ↦ by at.route at.place (omega (arith, at.in_routes, routes-length s.ports s.branches)) at.in_route at.is
      | inr nowhere ↦ nowhere
    ]
  where
    by : (n h : ℕ) → n ≤ length s.branches → h < length (route_to s n) → get_or (route_to s n) h 0 ≡ port
        → ports_to s port ≡ []
    by n zero in_n in_h at = ap (ports_to s) (sym at) ∙ comes_by topology s n 0 is in_n in_h
    by n (suc h) in_n in_h at = absurd (none-some (get_or (route_to s n) h 0)
        (sym none ∙ ap (port_before s) (sym at) ∙ before_on_route topology s n h is in_n in_h))

-- and to each other one by those to the port before, and by that one
pub comes_next : (topology : DeclaredTopology) (s : Sender) (port before : ℕ) → IsSender topology s
    → port_before s port ≡ Some before → ports_to s port ≡ ports_to s before ++ before ∷ []
comes_next topology s port before is has = by at.leg at.place at.in_legs at.within at.is
  where
    at : IsReached s port
    at = reached topology s port before is has

    by : (n h : ℕ) → n ≤ length s.branches → h < length (route_to s n) → get_or (route_to s n) h 0 ≡ port
        → ports_to s port ≡ ports_to s before ++ before ∷ []
    by n zero in_n in_h there = absurd (none-some before
        (sym (none_before topology s n is in_n) ∙ ap (port_before s) there ∙ has))
    by n (suc h) in_n in_h there =
        let path : List ℕ = route_to s n in
        let earlier : get_or path h 0 ≡ before = same_Some (get_or path h 0) before
        (sym (before_on_route topology s n h is in_n in_h) ∙ ap (port_before s) there ∙ has) in
        ap (ports_to s) (sym there) ∙ comes_by topology s n (suc h) is in_n in_h
        ∙ ap (λ (k : ℕ). take k path) (sym (add-one h)) ∙ take_more path h 0 (omega (arith, in_h))
        ∙ ap (λ (l : List ℕ). l ++ get_or path h 0 ∷ []) (sym (comes_by topology s n h is in_n (omega (arith, in_h))))
        ∙ ap (λ (p : ℕ). ports_to s p ++ p ∷ []) earlier

-- behind one more bridge
behind_last : (topology : DeclaredTopology) (ports : List ℕ) (port : ℕ) (c : Committed)
    → output_behind (map (clock_behind topology) (ports ++ port ∷ [])) c
    ≡ output_of (clock_behind topology port) (scheduler_for (clock_behind topology port)
    (output_behind (map (clock_behind topology) ports) c))
behind_last topology ports port c =
    ap (λ (clocks : List DeclaredClock). output_behind clocks c) (map-append (clock_behind topology) ports (port ∷ []))
    ∙ fold-append (λ (arriving : Committed) (clock : DeclaredClock). output_of clock (scheduler_for clock arriving)) c
    (map (clock_behind topology) ports) (clock_behind topology port ∷ [])

-- what a port sees of a sender is what the scheduler behind the port before lets through
pub committed_next : (topology : DeclaredTopology) (s : Sender) (port before : ℕ) → IsSender topology s
    → port_before s port ≡ Some before
    → committed_at topology port s ≡ output_of (clock_behind topology before) (scheduled_at topology before s)
committed_next topology s port before is has =
    let sent : Committed = output_of (talker_clock topology s) (committed s.rate s.burst_bits) in
    ap (λ (ports : List ℕ). output_behind (map (clock_behind topology) ports) sent)
    (comes_next topology s port before is has)
    ∙ behind_last topology (ports_to s before) before sent

-- and where there is none before, what its talker sends
pub committed_first : (topology : DeclaredTopology) (s : Sender) (port : ℕ) → IsSender topology s
    → port_before s port ≡ None
    → committed_at topology port s ≡ output_of (talker_clock topology s) (committed s.rate s.burst_bits)
committed_first topology s port is none =
    ap (λ (ports : List ℕ). output_behind (map (clock_behind topology) ports)
    (output_of (talker_clock topology s) (committed s.rate s.burst_bits))) (comes_first topology s port is none)

-- which is no less than what that scheduler has
pub scheduled_no_greater : (topology : DeclaredTopology) (s : Sender) (port before : ℕ) → IsTopology topology
    → IsSender topology s → port_before s port ≡ Some before
    → IsNoGreater (scheduled_at topology before s) (committed_at topology port s)
scheduled_no_greater topology s port before lawful is has =
    let deviation = (node_is topology.nodes lawful.each_node (port_at topology.ports before).to).clock.deviation in
    subst (IsNoGreater (scheduled_at topology before s)) (sym (committed_next topology s port before is has))
    (never_falls (clock_behind topology before) (scheduled_at topology before s) (omega arith)).output

pub rates_go_hop_by_hop : RatesGoHopByHop
rates_go_hop_by_hop topology s is = record {
  first = λ port none. committed_first topology s port is none;
  next = λ port before has. committed_next topology s port before is has;
}
