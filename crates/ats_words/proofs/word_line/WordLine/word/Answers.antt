use Rattle.std.proofs.Common.{List, ℕ, ap, ◌∙◌}
use Rattle.ats_io.specs.Text.{words_of}
use Rattle.ats_words.specs.Words.{word}
use Rattle.ats_words.proofs.Spans.{word_cut, no_word}
use Rattle.ats_words.proofs.word_line.WordLine.word.Goals as goal

pub returns-then-place-self : goal.returns-then-place-self
returns-then-place-self c =
    no_word c.self.inside.text.now c.self.inside.spans c.self.inside.count c.args.place c.self.invariant
    c.if-place-self.true c.requires ∙ ap (λ (line : List ℕ). word (words_of line) c.args.place) c.self.view_is

pub returns : goal.returns
returns c =
    word_cut c.self.inside.text.now c.self.inside.spans c.self.inside.count c.args.place
    (record { begin = 0; end = 0 }) c.self.invariant c.if-place-self.false
    ∙ ap (λ (line : List ℕ). word (words_of line) c.args.place) c.self.view_is
