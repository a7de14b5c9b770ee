use Rattle.std.proofs.Common.{◌≡◌, ℕ, ◌+◌, List, drop, get_or, map, refl, sym, ap, ◌∙◌, subst}
use Rattle.std.specs.Prelude.{is_some}
use Rattle.std.proofs.Math.ListN.{drop_of_length-le}
use Rattle.std.proofs.lemmas.Bool.{false≢true}
use Rattle.ats_clock.specs.Rates.{IsCommitted, output_behind, output_of, scheduler_for}
use Rattle.ats_clock.specs.Clock.{DeclaredClock}
use Rattle.ats_clock.specs.declared.committed.Committed.{Committed}
use Rattle.ats_topology.specs.Topology.{DeclaredTopology}
use Rattle.ats_network.specs.Rates.{clock_behind}
use Rattle.ats_network.proofs.RateLemmas.{over_one, positive_behind, within_before}
use Rattle.ats_network.proofs.rates.seen_along.Goals as goal

pub loop-port-init : goal.loop-port-init
loop-port-init c = record { so_far = c.requires; left = refl }

pub seen_behind-requires : goal.seen_behind-requires
seen_behind-requires c = c.loop-port.invariant.so_far

-- what is over the limits behind a bridge is over them at the end
pub returns-in_err-seen-clause-fits : goal.returns-in_err-seen-clause-fits
returns-in_err-seen-clause-fits c = (
  λ some. absurd (false≢true (ap is_some (sym c.from_residual.ensures) ∙ some)),
  λ end. absurd (false≢true (c.in_err-seen.ensures.fits.1 (subst (λ clock. IsCommitted (through clock))
      (sym c.clock_behind.ensures.value)
      (within_before topology (drop (k + 1) ports) (through (clock_behind topology port)) c.clock_behind.ensures.rules
      (positive_behind topology port c.loop-port.seen c.clock_behind.ensures.rules
      c.loop-port.invariant.so_far.rate.positive)
      (subst IsCommitted
      (sym c.loop-port.invariant.left ∙ over_one topology ports k 0 c.loop-port.seen c.loop-port-test.true) end))))),
)
  where
    topology : DeclaredTopology
    topology = c.args.topology.now

    ports : List ℕ
    ports = c.args.ports.now

    k : ℕ
    k = c.loop-port.port-index

    port : ℕ
    port = get_or ports k 0

    through : DeclaredClock → Committed
    through clock = output_of clock (scheduler_for clock c.loop-port.seen)

pub loop-port-preserved : goal.loop-port-preserved
loop-port-preserved c =
    let topology : DeclaredTopology = c.args.topology.now in
    let ports : List ℕ = c.args.ports.now in
    let k : ℕ = c.loop-port.port-index in
    let port : ℕ = get_or ports k 0 in
    let through : DeclaredClock → Committed = λ clock. output_of clock (scheduler_for clock c.loop-port.seen) in
    let is : c.in_ok-seen.seen ≡ through (clock_behind topology port) =
    c.in_ok-seen.ensures.value ∙ ap through c.clock_behind.ensures.value in
    record {
      so_far = subst IsCommitted (sym c.in_ok-seen.ensures.value) (c.in_ok-seen.ensures.fits.0 refl);
      left =
          ap (output_behind (map (clock_behind topology) (drop (k + 1) ports))) is
          ∙ sym (over_one topology ports k 0 c.loop-port.seen c.loop-port-test.true)
          ∙ c.loop-port.invariant.left;
    }

pub returns-clause-fits : goal.returns-clause-fits
returns-clause-fits c =
    let past = ap (λ (l : List ℕ). output_behind (map (clock_behind c.args.topology.now) l) c.loop-port.seen)
    (drop_of_length-le c.args.ports.now c.loop-port-test.false) in
    (λ _. subst IsCommitted (sym past ∙ c.loop-port.invariant.left) c.loop-port.invariant.so_far, λ _. refl)

pub returns-clause-value : goal.returns-clause-value
returns-clause-value c =
    let past = ap (λ (l : List ℕ). output_behind (map (clock_behind c.args.topology.now) l) c.loop-port.seen)
    (drop_of_length-le c.args.ports.now c.loop-port-test.false) in
    sym past ∙ c.loop-port.invariant.left
