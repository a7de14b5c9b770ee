use Rattle.std.proofs.Common.{◌≤◌, arith, lit≤}
use Rattle.ats_group.specs.declared.verdict.Verdict.TheVariants.{Eligible}
use Rattle.ats_soundness_law.specs.Laws.{IsHandedOn}
use Rattle.ats_examples.specs.Rows.{row_of_line}
use Rattle.ats_meaning_examples.specs.Handed.{HandingOnIsMeant, handed}

-- A frame that is handed on in time, and others.

not_later : ¬ IsHandedOn (row_of_line 0 13836000) (handed (Eligible (record { 0 = 13836006 })))
not_later on = let past : 13836006 ≤ 13836005 = on.0 in absurd (omega arith)

pub handing_on_is_meant : HandingOnIsMeant
handing_on_is_meant = record {
  in_time = (lit≤ tt, tt);
  later = not_later;
  late = λ on. on;
  of_size = λ on. on;
}
