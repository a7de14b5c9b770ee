use Rattle.std.specs.Prelude.{◌≡◌, ◌↔◌, ℕ, ◌<◌, ◌^◌, IsTrue, List, [], ◌∷◌, codes, length, replicate, Contains, Some}
use Rattle.std.specs.Prelude.{None}
use Rattle.ats_num.specs.Name.{is_name}
use Rattle.ats_tally.specs.declared.reason.Reason.{Reason}
use Rattle.ats_tally.specs.declared.reason.Reason.TheVariants.{Deadline, Overloaded, Residence}
use Rattle.ats_requests.specs.declared.answer.Answer.{Answer}
use Rattle.ats_requests.specs.declared.answer.Answer.TheVariants.{Admitted, Refused, Withdrawn}
use Rattle.ats_requests.specs.declared.denied.Denied.TheVariants.{Because, Limit, NameTaken, NameUnknown, NoClass}
use Rattle.ats_requests.specs.declared.request.Request.{Request}
use Rattle.ats_requests.specs.declared.request.Request.TheVariants.{Withdraw}
use Rattle.ats_text_law.specs.Answers.{AreAnswersTo, IsShortAnswer}
use Rattle.ats_number_examples.specs.Premises.{asked, given}

-- What it comes to that a text can hold answers to requests: in numbers, names and ports, and on closed answers.

-- of an answer that gives a class and a sum, both have at most 64 digits; one that gives no number may be any
pub record PlainAnswersAreMeant : Type 0 where
  pub admitted : (ports class sum : ℕ)
      → IsShortAnswer ports (Admitted class sum) ↔ ((class < 10 ^ 64) × (sum < 10 ^ 64))
  pub withdrawn : (ports : ℕ) → IsShortAnswer ports Withdrawn
  pub name_taken : (ports : ℕ) → IsShortAnswer ports (Refused NameTaken)
  pub name_unknown : (ports : ℕ) → IsShortAnswer ports (Refused NameUnknown)
  pub limit : (ports : ℕ) → IsShortAnswer ports (Refused Limit)

-- of one that gives a reason, the port is one of so many, the names are names, and the numbers have so few digits; so
-- it is of each of the seven reasons that are given where no class will do
pub record ReasonsAreMeant : Type 0 where
  pub overloaded : (ports port class load : ℕ)
      → IsShortAnswer ports (Refused (Because (Overloaded port class load)))
      ↔ ((port < ports) × (class < 10 ^ 64) × (load < 10 ^ 64))
  pub residence : (ports port class need : ℕ)
      → IsShortAnswer ports (Refused (Because (Residence port class need)))
      ↔ ((port < ports) × (class < 10 ^ 64) × (need < 10 ^ 64))
  pub deadline : (ports sum : ℕ) (stream : List ℕ)
      → IsShortAnswer ports (Refused (Because (Deadline stream None sum)))
      ↔ (IsTrue (is_name stream) × (sum < 10 ^ 64))
  pub for_listener : (ports sum : ℕ) (stream listener : List ℕ)
      → IsShortAnswer ports (Refused (Because (Deadline stream (Some listener) sum)))
      ↔ (IsTrue (is_name stream) × IsTrue (is_name listener) × (sum < 10 ^ 64))
  pub no_class : (ports : ℕ) (reasons : List Reason)
      → IsShortAnswer ports (Refused (NoClass reasons))
      ↔ ((length reasons ≡ 7)
      × ((reason : Reason) → Contains reasons reason → IsShortAnswer ports (Refused (Because reason))))

-- there are as many answers as requests, and each is such an answer
abbrev pub AnswersAreJustThese : Type 0
AnswersAreJustThese = (ports : ℕ) (requests : List Request) (answers : List Answer)
    → AreAnswersTo ports requests answers
    ↔ ((length answers ≡ length requests)
    × ((answer : Answer) → Contains answers answer → IsShortAnswer ports answer))

-- one request, and two
abbrev pub one_asked : List Request
one_asked = Withdraw (codes "c") ∷ []

abbrev pub two_asked : List Request
two_asked = Withdraw (codes "c") ∷ one_asked

-- the six answers are some to the six requests, and no answers are to none. With an answer less or more than there are
-- requests they are not; nor with a number of 65 digits, in the first place or behind it, a port past the last one, a
-- stream without a name, or a reason less than there are classes
pub record WorkedAnswersAreMeant : Type 0 where
  pub six : AreAnswersTo 8 asked given
  pub none : AreAnswersTo 0 [] []
  pub one_less : ¬ AreAnswersTo 8 two_asked (Withdrawn ∷ [])
  pub one_more : ¬ AreAnswersTo 8 [] (Withdrawn ∷ [])
  pub long_class : ¬ AreAnswersTo 8 one_asked (Admitted (10 ^ 64) 0 ∷ [])
  pub long_sum : ¬ AreAnswersTo 8 one_asked (Admitted 7 (10 ^ 64) ∷ [])
  pub long_second : ¬ AreAnswersTo 8 two_asked (Withdrawn ∷ Admitted 7 (10 ^ 64) ∷ [])
  pub no_port : ¬ AreAnswersTo 8 one_asked (Refused (Because (Residence 8 6 24000000)) ∷ [])
  pub no_name : ¬ AreAnswersTo 8 one_asked (Refused (Because (Deadline [] None 51344000)) ∷ [])
  pub six_reasons : ¬ AreAnswersTo 8 one_asked
      (Refused (NoClass (replicate 6 (Deadline (codes "z") (Some (codes "s2")) 51344000))) ∷ [])

pub record AnswersAreMeant : Type 0 where
  pub plain : PlainAnswersAreMeant
  pub reasons : ReasonsAreMeant
  pub all : AnswersAreJustThese
  pub worked : WorkedAnswersAreMeant
