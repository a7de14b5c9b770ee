use Rattle.std.proofs.Common.{◌≡◌, ℕ, ◌∙◌, ◌↔◌, IfSome, IsSome, List, map, refl, subst, sym, take, ap, arith}
use Rattle.ats_clock.specs.Rates.{IsCommitted, output_behind}
use Rattle.ats_clock.specs.declared.committed.Committed.{Committed}
use Rattle.ats_streams.specs.Branches.{routes_of}
use Rattle.ats_streams.specs.Stream.{DeclaredStream}
use Rattle.ats_streams.proofs.BranchLemmas.{routes-length}
use Rattle.ats_network.specs.Rates.{clock_behind, ports_to}
use Rattle.ats_network.specs.Sender.{stream_sender}
use Rattle.ats_network.proofs.FrontLemmas.{told_at, told_later, told_nowhere}
use Rattle.ats_network.proofs.rates.seen_from.Goals as goal
use Rattle.ats_network.proofs.rates.seen_from.Goals.{After-seen_along}

-- the ports in front of it on this route are those by which frames come to the port
front : (c : After-seen_along) → take c.in-Some.hop c.as_slice-ports.result.now
    ≡ ports_to (stream_sender c.args.stream.now) c.args.port
front c =
    let s : DeclaredStream = c.args.stream.now in
    told_at c.args.port (routes_of s.ports s.branches) c.loop-leg.leg c.in-Some.hop c.as_slice-ports.result.now
    (omega (arith, c.loop-leg-test.true, c.legs-leg-end.ensures.listeners, routes-length s.ports s.branches))
    (c.as_slice-ports.ensures.value ∙ c.route-route.ensures.value) (sym c.in-Some.ensures.place)
    ∙ c.loop-leg.invariant

pub returns-in-Some-clause-fits : goal.returns-in-Some-clause-fits
returns-in-Some-clause-fits c =
    subst (λ (l : List ℕ). IsSome c.seen_along.result
    ↔ IsCommitted (output_behind (map (clock_behind c.args.topology.now) l) c.args.sent))
    (front c) c.seen_along.ensures.fits

pub returns-in-Some-clause-value : goal.returns-in-Some-clause-value
returns-in-Some-clause-value c =
    subst (λ (l : List ℕ). IfSome c.seen_along.result
    (λ (r : Committed). r ≡ output_behind (map (clock_behind c.args.topology.now) l) c.args.sent))
    (front c) c.seen_along.ensures.value

-- this route does not have it
pub loop-leg-preserved : goal.loop-leg-preserved
loop-leg-preserved c =
    let s : DeclaredStream = c.args.stream.now in
    sym (told_later c.args.port (routes_of s.ports s.branches) c.loop-leg.leg c.as_slice-ports.result.now
    (omega (arith, c.loop-leg-test.true, c.legs-leg-end.ensures.listeners, routes-length s.ports s.branches))
    (c.as_slice-ports.ensures.value ∙ c.route-route.ensures.value) (sym c.in_default.ensures.place))
    ∙ c.loop-leg.invariant

-- none has it
pub returns-clause-fits : goal.returns-clause-fits
returns-clause-fits c =
    let s : DeclaredStream = c.args.stream.now in
    let nowhere = told_nowhere c.args.port (routes_of s.ports s.branches) c.loop-leg.leg (omega (
      arith,
      c.loop-leg-test.false,
      c.legs-leg-end.ensures.listeners,
      routes-length s.ports s.branches,
    )) in (
      λ _. subst (λ (l : List ℕ). IsCommitted (output_behind (map (clock_behind c.args.topology.now) l) c.args.sent))
          (sym nowhere ∙ c.loop-leg.invariant) c.requires,
      λ _. refl,
    )

pub returns-clause-value : goal.returns-clause-value
returns-clause-value c =
    let s : DeclaredStream = c.args.stream.now in
    ap (λ (l : List ℕ). output_behind (map (clock_behind c.args.topology.now) l) c.args.sent)
    (sym (told_nowhere c.args.port (routes_of s.ports s.branches) c.loop-leg.leg (omega (
      arith,
      c.loop-leg-test.false,
      c.legs-leg-end.ensures.listeners,
      routes-length s.ports s.branches,
    )))
    ∙ c.loop-leg.invariant)
