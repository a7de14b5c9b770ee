use Rattle.std.proofs.Common.{List, ℕ, ap, length, eqb, ◌∙◌}
use Rattle.ats_io.specs.Text.{words_of}
use Rattle.ats_words.proofs.Spans.{words_counted}
use Rattle.ats_words.proofs.word_line.WordLine.has_words.Goals as goal

pub returns : goal.returns
returns c =
    words_counted c.self.inside.text.now c.self.inside.spans c.self.inside.count c.args.count c.self.invariant
    c.requires ∙ ap (λ (line : List ℕ). eqb (length (words_of line)) c.args.count) c.self.view_is
