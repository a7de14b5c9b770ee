use Rattle.std.proofs.Common.{take, drop, ap, sym, ◌∙◌, arith, take-append-drop}
use Rattle.std.proofs.lemmas.List.{take_rest}
use Rattle.ats_io.specs.Outside.{appended}
use Rattle.ats_io.proofs.Fronts.{take_two, on_err}
use Rattle.ats_io.proofs.Outside.{appended_twice}
use Rattle.ats_io.proofs.whole.write_all.Goals as goal

-- what was written so far is the front that was taken
pub returns-in_err-done-clause-cut_short : goal.returns-in_err-done-clause-cut_short
returns-in_err-done-clause-cut_short g c =
    on_err c.from_residual.result (record {
      front = take c.loop-done.done c.args.text.now;
      rest = drop c.loop-done.done c.args.text.now;
      parts = take-append-drop c.loop-done.done c.args.text.now;
      taken = c.in_err-done.ensures.unchanged ∙ c.loop-done.invariant.taken;
    })

pub loop-done-preserved : goal.loop-done-preserved
loop-done-preserved g c =
    let held = g.O.Sink.held c.args.out.now in
    let text = c.args.text.now in
    let done = c.loop-done.done in
    let count = c.in_ok-done.field-0 in
    record {
      within = omega (arith, c.in_ok-done.ensures.within);
      taken = (rw take_rest at c.in_ok-done.ensures.taken)
          ∙ ap (λ h. appended h (take count (drop done text))) c.loop-done.invariant.taken
          ∙ appended_twice held (take done text) (take count (drop done text))
          ∙ ap (λ xs. appended held xs) (sym (take_two done count text c.loop-done.invariant.within));
      untouched = λ none. absurd (omega (arith, c.in_ok-done.ensures.some));
      calm = c.in_ok-done.ensures.calm ∙ c.loop-done.invariant.calm;
      counts = omega (arith, c.in_ok-done.ensures.counts, c.loop-done.invariant.counts);
    }
