use Rattle.std.proofs.Common.{◌≡◌, ◌≢◌, ◌<◌, ◌≤◌, length, slice_index, All}
use Rattle.ats_words.specs.Spans.{IsWithin}
use Rattle.ats_words.proofs.Spans.{CutSoFar}
use Rattle.ats_words.proofs.word_line.WordLine.new.Given as goal

-- the words before this place are cut out
abbrev pub invariant-loop-count : goal.invariant-loop-count
invariant-loop-count l = record {
  words : CutSoFar l.text l.spans l.count l.at;
  spans : All (IsWithin (length l.text)) l.spans;
  room : length l.spans ≡ 11;
  within : l.at ≤ length l.text;
  begins : l.at < length l.text → slice_index l.text l.at ≢ 32;
}
