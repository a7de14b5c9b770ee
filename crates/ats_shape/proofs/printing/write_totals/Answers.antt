use Rattle.std.proofs.Common.{ℕ, ◌++◌, length, ap, ◌∙◌}
use Rattle.std.specs.Prelude.{codes, decimal, count_by}
use Rattle.ats_shape.specs.Text.{totals_text, is_eligible, is_late, is_size}
use Rattle.ats_shape.proofs.Lines.{four_written}
use Rattle.ats_shape.proofs.printing.write_totals.Goals as goal

pub returns : goal.returns
unfolding totals_text
returns c =
    let verdicts = c.args.verdicts.now in
    four_written c.args.out.now.items (codes "total frames ") (decimal (length verdicts)) (codes " eligible ")
    (decimal (count_by is_eligible verdicts)) (codes " late ") (decimal (count_by is_late verdicts))
    (codes " size ") (decimal (count_by is_size verdicts)) (codes "\n")
    c.write_word.new.out.items c.write_word-2.new.out.items c.write_word-3.new.out.items c.write_word-4.new.out.items
    c.extend_from_slice.new.self.items
    c.in_ok-write_word.ensures
    (c.in_ok-write_word-2.ensures
    ∙ ap (λ (n : ℕ). c.write_word.new.out.items ++ (codes " eligible " ++ decimal n)) c.count_eligible.ensures)
    (c.in_ok-write_word-3.ensures
    ∙ ap (λ (n : ℕ). c.write_word-2.new.out.items ++ (codes " late " ++ decimal n)) c.count_late.ensures)
    (c.in_ok-write_word-4.ensures
    ∙ ap (λ (n : ℕ). c.write_word-3.new.out.items ++ (codes " size " ++ decimal n)) c.count_size.ensures)
    c.in_ok-extend_from_slice.ensures.items
