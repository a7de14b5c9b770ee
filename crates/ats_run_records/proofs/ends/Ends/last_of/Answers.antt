use Rattle.std.proofs.Common.{◌<◌, ℕ, List, length, Some, ap, sym, ◌∙◌, arith}
use Rattle.ats_group.specs.declared.verdict.Verdict.{Verdict}
use Rattle.ats_trace.specs.Journey.{Leg}
use Rattle.ats_run_records.specs.LastVerdict.{last_verdict}
use Rattle.ats_run_records.proofs.Ended.{a-verdict, length-ends, no-verdict, told-in}
use Rattle.ats_run_records.proofs.ends.Ends.last_of.Goals as goal

pub row_of-requires : goal.row_of-requires
row_of-requires c = omega (
  arith,
  c.requires.frame,
  length-ends c.self.invariant c.self.view_is,
  ap (λ (ns : List ℕ). length ns) c.deref.ensures.value,
)

pub index-track-requires : goal.index-track-requires
index-track-requires c =
    let row = told-in c.deref.result.now c.self.invariant c.self.view_is c.requires.frame c.requires.leg
    c.deref.ensures.value c.row_of.ensures in
    omega (arith, row.within)

pub returns-then-hops-eq0 : goal.returns-then-hops-eq0
returns-then-hops-eq0 c =
    let row = told-in c.deref.result.now c.self.invariant c.self.view_is c.requires.frame c.requires.leg
    c.deref.ensures.value c.row_of.ensures in
    let leg = row.tells c.index-track.result.now c.index-track.ensures in
    sym (no-verdict _ (sym (ap (λ (l : Leg). length l.hops) leg) ∙ sym c.hops.ensures ∙ c.if-hops-eq0.true))

pub returns : goal.returns
returns c =
    let row = told-in c.deref.result.now c.self.invariant c.self.view_is c.requires.frame c.requires.leg
    c.deref.ensures.value c.row_of.ensures in
    let leg = row.tells c.index-track.result.now c.index-track.ensures in
    let track = c.index-track.result.now in
    let some : 0 < length track.hops = omega (arith, c.hops.ensures, c.if-hops-eq0.false) in
    ap (λ (v : Verdict). Some v) c.verdict.ensures ∙ sym (a-verdict track.hops some)
    ∙ ap (λ (l : Leg). last_verdict l.hops) leg
