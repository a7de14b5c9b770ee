use Rattle.std.proofs.Common.{◌-◌, ◌<◌, ◌≤◌, length, slice_range}
use Rattle.ats_words.proofs.Words.{IsWithoutSpace}
use Rattle.ats_words.proofs.word_line.word_end.Given as goal

-- no space comes before this place
abbrev pub invariant-loop-at : goal.invariant-loop-at
invariant-loop-at l = record {
  apart : IsWithoutSpace (slice_range l.text l.begin l.at);
  some : l.begin < l.at;
  within : l.at ≤ length l.text;
}

abbrev pub decreases-loop-at : goal.decreases-loop-at
decreases-loop-at l = length l.text - l.at
