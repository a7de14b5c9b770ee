use Rattle.std.proofs.Common.{arith}
use Rattle.ats_words.proofs.Words.{word_ended, word_longer, word_begun}
use Rattle.ats_words.proofs.word_line.word_end.Goals as goal

pub loop-at-init : goal.loop-at-init
loop-at-init c = record {
  apart = word_begun c.args.text.now c.args.begin c.requires.within c.requires.begins;
  some = omega arith;
  within = omega arith;
}

pub loop-at-preserved : goal.loop-at-preserved
loop-at-preserved c = record {
  apart = word_longer c.args.text.now c.args.begin c.loop-at.at (omega arith) (omega arith) c.if-text-at-eq32.false
      c.loop-at.invariant.apart;
  some = omega arith;
  within = omega arith;
}

pub returns-then-text-at-eq32-clause-word : goal.returns-then-text-at-eq32-clause-word
returns-then-text-at-eq32-clause-word c =
    word_ended c.args.text.now c.args.begin c.loop-at.at c.loop-at.invariant.some c.loop-at.invariant.within
    c.loop-at.invariant.apart (λ inside. c.if-text-at-eq32.true)

pub returns-clause-word : goal.returns-clause-word
returns-clause-word c =
    word_ended c.args.text.now c.args.begin c.loop-at.at c.loop-at.invariant.some c.loop-at.invariant.within
    c.loop-at.invariant.apart (λ inside. absurd (omega arith))
