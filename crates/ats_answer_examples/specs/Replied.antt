use Rattle.std.specs.Prelude.{ℕ, [], codes}
use Rattle.ats_network.specs.Network.{DeclaredNetwork, declared_network}
use Rattle.ats_network.specs.Pushes.{with_stream}
use Rattle.ats_requests.specs.declared.answer.Answer.TheVariants.{Admitted, Withdrawn, Refused}
use Rattle.ats_requests.specs.declared.denied.Denied.TheVariants.{NameTaken, NameUnknown, Limit, Because, NoClass}
use Rattle.ats_requests.specs.declared.request.Request.TheVariants.{Admit, Lowest, Withdraw}
use Rattle.ats_verdict_examples.specs.Requested.{asked, bridged, large, late_a, late_in_each, small}
use Rattle.ats_command_law.specs.AdmitMeaning.{AreAnswers}
use Rattle.ats_command_law.specs.Answered.{AnswerTells}

-- What an answer to a request says of the network before it and of the one after it, on the line with a deadline of
-- 30,000 ns: of each answer some of which it is so, beside others, with one thing changed, of which it is not.

-- with a stream of frames of 64 octets behind its own, in this class; and without any
abbrev pub and_small : ℕ → DeclaredNetwork
and_small class = with_stream bridged (small (codes "c") class)

abbrev pub emptied : DeclaredNetwork
emptied = declared_network bridged.topology [] []

-- a stream is admitted with its class and this sum: not with another sum or class, nor where the network stays as it is
-- or the stream has another class there. Its name is taken, where a stream has it, and then nothing changes. A sum of
-- another stream's is the reason against a larger one, and no other sum is; and there is room
pub record AdmitTellsIt : Type 0 where
  pub admitted : AnswerTells bridged (and_small 7) (Admit (small (codes "c") 7)) (Admitted 7 28016000)
  pub not_sum : ¬ AnswerTells bridged (and_small 7) (Admit (small (codes "c") 7)) (Admitted 7 28016001)
  pub not_class : ¬ AnswerTells bridged (and_small 7) (Admit (small (codes "c") 7)) (Admitted 6 28016000)
  pub not_same : ¬ AnswerTells bridged bridged (Admit (small (codes "c") 7)) (Admitted 7 28016000)
  pub not_there : ¬ AnswerTells bridged (and_small 6) (Admit (small (codes "c") 7)) (Admitted 7 28016000)
  pub taken : AnswerTells bridged bridged (Admit (small (codes "a") 7)) (Refused NameTaken)
  pub not_taken : ¬ AnswerTells bridged bridged (Admit (small (codes "c") 7)) (Refused NameTaken)
  pub not_changed : ¬ AnswerTells bridged emptied (Admit (small (codes "a") 7)) (Refused NameTaken)
  pub because : AnswerTells bridged bridged (Admit (large (codes "c") 5)) (Refused (Because (late_a 51344000)))
  pub not_because : ¬ AnswerTells bridged bridged (Admit (large (codes "c") 5)) (Refused (Because (late_a 51344001)))
  pub not_full : ¬ AnswerTells bridged bridged (Admit (small (codes "c") 7)) (Refused Limit)

-- a stream is admitted in the lowest class that will do: not in the next one, in which it would do too
pub record LowestTellsIt : Type 0 where
  pub admitted : AnswerTells bridged (and_small 1) (Lowest (small (codes "c") 1)) (Admitted 1 30757334)
  pub not_next : (sum : ℕ) → ¬ AnswerTells bridged (and_small 2) (Lowest (small (codes "c") 1)) (Admitted 2 sum)
  pub not_same : ¬ AnswerTells bridged bridged (Lowest (small (codes "c") 1)) (Admitted 1 30757334)
  pub no_class : AnswerTells bridged bridged (Lowest (large (codes "d") 1)) (Refused (NoClass late_in_each))
  pub not_none : ¬ AnswerTells bridged bridged (Lowest (large (codes "d") 1)) (Refused (NoClass []))

-- the line's stream is withdrawn by its name, and then it is gone; of another name there is none
pub record WithdrawTellsIt : Type 0 where
  pub withdrawn : AnswerTells bridged emptied (Withdraw (codes "a")) Withdrawn
  pub not_same : ¬ AnswerTells bridged bridged (Withdraw (codes "a")) Withdrawn
  pub not_other : ¬ AnswerTells emptied emptied (Withdraw (codes "a")) Withdrawn
  pub unknown : AnswerTells bridged bridged (Withdraw (codes "c")) (Refused NameUnknown)
  pub not_unknown : ¬ AnswerTells bridged bridged (Withdraw (codes "a")) (Refused NameUnknown)
  pub not_changed : ¬ AnswerTells bridged emptied (Withdraw (codes "c")) (Refused NameUnknown)

-- and so it is of the answers to eight requests, one after another
pub record RepliesAreShown : Type 0 where
  pub eight : AreAnswers bridged asked
  pub admit : AdmitTellsIt
  pub lowest : LowestTellsIt
  pub withdraw : WithdrawTellsIt
