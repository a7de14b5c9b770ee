use Rattle.std.proofs.Common.{◌≡◌, ◌-◌, ◌≤◌, length, drop}
use Rattle.ats_io.specs.Text.{words_of}
use Rattle.ats_words.proofs.word_line.word_begin.Given as goal

-- only spaces are passed over
abbrev pub invariant-loop-at : goal.invariant-loop-at
invariant-loop-at l = record {
  rest : words_of (drop l.from l.text) ≡ words_of (drop l.at l.text);
  from : l.from ≤ l.at;
  within : l.at ≤ length l.text;
}

abbrev pub decreases-loop-at : goal.decreases-loop-at
decreases-loop-at l = length l.text - l.at
