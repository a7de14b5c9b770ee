use Rattle.std.proofs.Common.{◌≡◌, ℕ, length, arith, subst, ◌∙◌, length-set}
use Rattle.std.proofs.lemmas.List.Elements.{All-set}
use Rattle.ats_words.specs.Spans.{IsWithin}
use Rattle.ats_words.proofs.Spans.{CutSoFar, cut_more, all_cut, full_cut}
use Rattle.ats_words.specs.declared.word_line.Span.{Span}
use Rattle.ats_words.proofs.word_line.WordLine.new.Goals as goal

pub loop-count-preserved : goal.loop-count-preserved
loop-count-preserved c =
    let room : length c.loop-count.spans ≡ 11 = c.loop-count.invariant.room in
    let span : Span = record { begin = c.loop-count.at; end = c.word_end-end.result } in
    let some = c.word_end-end.ensures.some in
    record {
      words = cut_more c.args.text.now c.loop-count.spans c.loop-count.count c.loop-count.at c.word_end-end.result
          c.word_begin-at-in-loop-count.result (omega arith) c.loop-count.invariant.words c.word_end-end.ensures.word
          c.word_begin-at-in-loop-count.ensures.rest;
      spans = All-set (IsWithin (length c.args.text.now)) c.loop-count.spans c.loop-count.count span
          (record { ordered = omega arith; within = c.word_end-end.ensures.within }) c.loop-count.invariant.spans;
      room = length-set c.loop-count.spans c.loop-count.count span ∙ room;
      within = c.word_begin-at-in-loop-count.ensures.within;
      begins = c.word_begin-at-in-loop-count.ensures.begins;
    }

pub invariant_of-result : goal.invariant_of-result
invariant_of-result c =
    let here : ℕ → Type 0 = λ at. CutSoFar c.args.text.now c.loop-count.spans c.loop-count.count at in
    record {
      words = all_cut c.args.text.now c.loop-count.spans c.loop-count.count (omega arith) c.loop-count.invariant.room
          (subst here c.if-at-text.true c.loop-count.invariant.words);
      within = c.loop-count.invariant.spans;
      room = c.loop-count.invariant.room;
      few = omega arith;
    }

pub invariant_of-result-2 : goal.invariant_of-result-2
invariant_of-result-2 c =
    let full : c.loop-count.count ≡ 11 = omega arith in
    let so_far : ℕ → Type 0 = λ count. CutSoFar c.args.text.now c.loop-count.spans count c.loop-count.at in
    record {
      words = full_cut c.args.text.now c.loop-count.spans c.loop-count.at c.loop-count.invariant.room
          (subst so_far full c.loop-count.invariant.words);
      within = c.loop-count.invariant.spans;
      room = c.loop-count.invariant.room;
      few = omega arith;
    }
