use Rattle.std.proofs.Common.{List, ◌+◌, ◌≡◌, ◌-◌, ◌<◌, ◌≤◌, ℕ, Some, length, arith, ap, sym, subst, ◌∙◌}
use Rattle.ats_trace.specs.Stored.{row_of}
use Rattle.ats_run_records.specs.Progress.{Progress, progress_at}
use Rattle.ats_engine_steps.specs.Course.{sender_of}
use Rattle.ats_engine_steps.specs.Steps.{due_entries}
use Rattle.std.specs.Prelude.{⊤}
use Rattle.ats_events.specs.Contents.{Contents}
use Rattle.ats_engine.specs.Entering.{Enters}
use Rattle.ats_engine.specs.Told.{agenda_told}
use Rattle.ats_engine.proofs.Dues.{begun_to, legs-counted, has-begun, not-begun, row-there, begun-more, begun-same}
use Rattle.ats_engine.proofs.Dues.{begun-split, may-enter-due, enters-due, due_of}
use Rattle.ats_engine.proofs.entering.enter_begun.Goals as goal
use Rattle.ats_engine.proofs.entering.enter_begun.Goals.{in-Some, in_default}

pub row_begun-requires-clause-copy : goal.row_begun-requires-clause-copy
row_begun-requires-clause-copy g c =
    let legs = legs-counted c.args.net.now (progress_at c.args.records.now.legs c.args.row) _ _
    c.sender_legs-copy-end.ensures.value c.release-sender.ensures in
    (c.loop-copy.auto.copy, omega (arith, legs, c.loop-copy-test.true))

pub row_begun-requires-clause-there : goal.row_begun-requires-clause-there
row_begun-requires-clause-there g c =
    let p : Progress = progress_at c.args.records.now.legs c.args.row in
    let legs = legs-counted c.args.net.now p _ _ c.sender_legs-copy-end.ensures.value c.release-sender.ensures in
    λ begins. row-there c.args.net.now c.args.records.now.firsts p c.args.hop c.loop-copy.copy
    (λ (n : ℕ). n < length c.args.records.now.legs) c.loop-copy.auto.copy
    (omega (arith, legs, c.loop-copy-test.true)) begins c.requires.there

pub enter-requires : goal.enter-requires
enter-requires g c =
    let p : Progress = progress_at c.args.records.now.legs c.args.row in
    let legs = legs-counted c.args.net.now p _ _ c.sender_legs-copy-end.ensures.value c.release-sender.ensures in
    let begun = has-begun c.args.net.now c.args.records.now.firsts p c.args.hop c.loop-copy.copy c.in-Some.other
    c.row_begun.result c.row_begun.ensures c.in-Some.is in
    let split = begun-split c.args.net.now c.args.records.now.firsts p c.args.hop c.loop-copy.copy
    c.loop-copy.auto.copy (omega (arith, legs, c.loop-copy-test.true)) begun.begins in
    may-enter-due c.args.at _ (begun_to c.args.net.now c.args.records.now.firsts p c.args.hop
    (c.loop-copy.copy - 1)) split.others (row_of c.args.records.now.firsts p.frame c.loop-copy.copy)
    (c.at.ensures ∙ ap (λ (n : ℕ). due_of n c.args.at) begun.is) split.all c.requires.entries
    c.loop-copy.invariant

pub loop-copy-preserved : goal.loop-copy-preserved
loop-copy-preserved g c =
    let p : Progress = progress_at c.args.records.now.legs c.args.row in
    let old = agenda_told c.args.agenda.now in
    let some = c.loop-copy.auto.copy in
    elim c.match-row_begun.branch [
      | in-Some w ↦ (
          let begun = has-begun c.args.net.now c.args.records.now.firsts p c.args.hop c.loop-copy.copy w.in-Some.other
          c.row_begun.result c.row_begun.ensures w.in-Some.is in
          subst (λ (a : Contents g.row.O.Denot ⊤). Enters old (agenda_told a) (due_entries (Some c.args.at)
          (begun_to c.args.net.now c.args.records.now.firsts p c.args.hop (c.loop-copy.copy + 1 - 1))))
          (sym w.agenda-is)
          (enters-due c.args.at (begun_to c.args.net.now c.args.records.now.firsts p c.args.hop
          (c.loop-copy.copy - 1)) _ (row_of c.args.records.now.firsts p.frame c.loop-copy.copy)
          (w.at.ensures ∙ ap (λ (n : ℕ). due_of n c.args.at) begun.is)
          (begun-more c.args.net.now c.args.records.now.firsts p c.args.hop c.loop-copy.copy some
          begun.begins)
          c.loop-copy.invariant w.enter.ensures))
      | in_default w ↦ (
          let begins = not-begun c.args.net.now c.args.records.now.firsts p c.args.hop c.loop-copy.copy
          c.row_begun.result c.row_begun.ensures w.in_default.not-Some in
          subst (λ (a : Contents g.row.O.Denot ⊤). Enters old (agenda_told a) (due_entries (Some c.args.at)
          (begun_to c.args.net.now c.args.records.now.firsts p c.args.hop (c.loop-copy.copy + 1 - 1))))
          (sym w.agenda-is)
          (subst (λ (rows : List ℕ). Enters old (agenda_told c.loop-copy.agenda) (due_entries (Some c.args.at) rows))
          (sym (begun-same c.args.net.now c.args.records.now.firsts p c.args.hop c.loop-copy.copy some
          begins)) c.loop-copy.invariant))
    ]

pub returns : goal.returns
returns g c =
    let p : Progress = progress_at c.args.records.now.legs c.args.row in
    let legs = legs-counted c.args.net.now p _ _ c.sender_legs-copy-end.ensures.value c.release-sender.ensures in
    let end : c.loop-copy.copy ≤ c.sender_legs-copy-end.result = c.loop-copy.auto.copy-end (omega (arith, legs)) in
    let all : c.loop-copy.copy - 1 ≡ length (sender_of c.args.net.now p).branches =
    omega (arith, legs, end, c.loop-copy-test.false) in
    subst (λ (n : ℕ). Enters (agenda_told c.args.agenda.now) (agenda_told c.loop-copy.agenda)
    (due_entries (Some c.args.at) (begun_to c.args.net.now c.args.records.now.firsts p c.args.hop n))) all
    c.loop-copy.invariant
