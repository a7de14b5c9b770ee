use Rattle.std.proofs.Common.{◌≡◌, true, List, [], ◌∷◌, Some, None, refl, sym, ◌∙◌}
use Rattle.std.specs.Prelude.{codes, AllPairs}
use Rattle.std.proofs.lemmas.Option.{none-some}
use Rattle.ats_network.specs.Network.{DeclaredNetwork, IsNetwork}
use Rattle.ats_certificate.specs.Certificate.{IsBefore}
use Rattle.ats_certificate.specs.declared.row.Row.{Row}
use Rattle.ats_tally.specs.declared.reason.Reason.TheVariants.{Overloaded, Residence, Deadline}
use Rattle.ats_checker.specs.Refusal.{refusal_of}
use Rattle.ats_checker.specs.declared.refusal.Field.TheVariants as field
use Rattle.ats_checker.specs.declared.refusal.Refusal.{Refusal}
use Rattle.ats_checker.specs.declared.refusal.Refusal.TheVariants.{RowMissing, RowStray, FieldWrong, WaitTooSmall}
use Rattle.ats_checker.specs.declared.refusal.Refusal.TheVariants.{Network}
use Rattle.ats_checker.proofs.FirstRefusal.{each_refusal_is_the_first}
use Rattle.ats_checker.proofs.Refused.{refused_unless_holding}
use Rattle.ats_examples.specs.Networks.{line, fast, pair}
use Rattle.ats_examples.specs.Rows.{row_with, row_of_line, line_rows, pair_rows, fast_rows}
use Rattle.ats_examples.proofs.NetworkProofs.{line_is, fast_is}
use Rattle.ats_examples.proofs.RuleTest.{is_before, before_by}
use Rattle.ats_examples.proofs.Tests.{pairs_pass, pairs_by}
use Rattle.ats_verdict_examples.specs.Networks.{line_until}
use Rattle.ats_verdict_examples.specs.Refusals.{AreRefusedBy, with_second, short_row, RefusalsAreMet}
use Rattle.ats_verdict_examples.proofs.NetworkProofs.{line_late, pair_over}

-- Refusals by computation, and what the laws say of them.

refused_by : (network : DeclaredNetwork) (rows : List Row) (refusal : Refusal) → IsNetwork network
    → pairs_pass is_before rows ≡ true → refusal_of network rows ≡ Some refusal → AreRefusedBy network rows refusal
refused_by network rows refusal rules ordered given =
    let before : AllPairs IsBefore rows = pairs_by IsBefore is_before before_by rows ordered in
    record {
      rules = rules;
      ordered = before;
      given = given;
      first = (each_refusal_is_the_first network rows refusal rules before).0 given;
      not_held = λ holds.
          none-some refusal (sym ((refused_unless_holding network rows rules before).1 holds) ∙ given);
    }

pub refusals_are_met : RefusalsAreMet
refusals_are_met = record {
  accepted = refl;
  missing = refused_by line (row_of_line 0 13836000 ∷ []) (RowMissing 2 6) line_is refl refl;
  stray = refused_by line
      (row_of_line 0 13836000 ∷ row_with 2 5 0 0 0 0 0 0 0 ∷ row_of_line 2 12836000 ∷ []) (RowStray 2 5)
      line_is refl refl;
  wrong = refused_by line (with_second (row_of_line 2 12835999)) (FieldWrong 2 6 field.Bound 12836000) line_is refl
      refl;
  overloaded = refused_by fast (fast_rows 2000000000000) (Network (Overloaded 0 6 2000000000000)) fast_is refl refl;
  short = refused_by line (with_second short_row) (WaitTooSmall 2 6 11664000) line_is refl refl;
  overstays = refused_by (pair 12335) (pair_rows (row_with 0 6 0 150000000000 13008 0 672 12336000 14508000))
      (Network (Residence 0 6 12336000)) pair_over refl refl;
  late = refused_by (line_until 26671) line_rows (Network (Deadline (codes "a") None 26672000)) line_late refl refl;
}
