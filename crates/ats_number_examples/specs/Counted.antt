use Rattle.std.specs.Prelude.{◌≡◌, [], ◌∷◌, codes}
use Rattle.ats_certificate.specs.Certificate.{bound_along}
use Rattle.ats_bound.specs.Least.{least_certificate}
use Rattle.ats_explain.specs.Totals.{late_count, over_count}
use Rattle.ats_requests.specs.Requests.{after_all, answers}
use Rattle.ats_requests.specs.declared.answer.Answer.TheVariants.{Admitted, Refused, Withdrawn}
use Rattle.ats_requests.specs.declared.denied.Denied.TheVariants.{NameTaken, NameUnknown}
use Rattle.ats_requests.specs.declared.request.Request.TheVariants.{Admit, Lowest, Withdraw}
use Rattle.ats_number_examples.specs.Networks.{first_alone, joined, line_with, small, until}

-- How many streams are late, at how many hops frames may have to stay too long, and what an admission leaves.

-- each stream that is late counts, and each hop of each stream
pub record EachCounts : Type 0 where
  pub none_late : late_count (joined 1000000 1000000) ≡ 0
  pub two_late : late_count (joined 1000000 1) ≡ 2
  pub one_late : late_count (first_alone 1000000 1) ≡ 1
  pub none_over : over_count (joined 1000000 1000000) ≡ 0
  pub two_of_one : over_count (first_alone 1 1000000) ≡ 2
  pub three_of_two : over_count (joined 1 1000000) ≡ 3

-- where a stream is admitted the flows stay, also behind one that is admitted later: their frames count in the sums,
-- and their names are taken
pub record FlowsStay : Type 0 where
  pub after_one : after_all (line_with []) (Admit (small (codes "c") 7) ∷ []) ≡ line_with (small (codes "c") 7 ∷ [])
  pub after_two : after_all (line_with []) (Admit (small (codes "c") 7) ∷ Admit (small (codes "d") 7) ∷ [])
      ≡ line_with (small (codes "c") 7 ∷ small (codes "d") 7 ∷ [])
  pub lowest : after_all (line_with []) (Lowest (small (codes "c") 1) ∷ []) ≡ line_with (small (codes "c") 1 ∷ [])
  pub withdrawn : after_all (line_with []) (Admit (small (codes "c") 7) ∷ Withdraw (codes "c") ∷ []) ≡ line_with []
  pub sum : bound_along (least_certificate (line_with (small (codes "c") 7 ∷ [])))
      (until 60000 (codes "a") (0 ∷ 2 ∷ []) (6 ∷ 6 ∷ [])) ≡ 53186426
  pub names : answers (line_with []) (Admit (small (codes "c") 7) ∷ Admit (small (codes "f") 7)
      ∷ Lowest (small (codes "g") 1) ∷ Withdraw (codes "f") ∷ Withdraw (codes "c") ∷ [])
      ≡ Admitted 7 28016000 ∷ Refused NameTaken ∷ Refused NameTaken ∷ Refused NameUnknown ∷ Withdrawn ∷ []

pub record NumbersAreCounted : Type 0 where
  pub explained : EachCounts
  pub admitted : FlowsStay
