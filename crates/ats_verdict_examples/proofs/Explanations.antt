use Rattle.std.proofs.Common.{◌≡◌, ℕ, refl, sym, arith}
use Rattle.std.proofs.lemmas.Option.{none-some}
use Rattle.ats_network.specs.Network.{DeclaredNetwork, IsNetwork}
use Rattle.ats_certificate.specs.Certificate.{Holds}
use Rattle.ats_tally.specs.declared.reason.Reason.TheVariants.{Overloaded}
use Rattle.ats_explain.specs.Laws.{Carries, IsClear, EachStreamAddsUp, ClearWhereOneHolds}
use Rattle.ats_examples.specs.Networks.{pair}
use Rattle.ats_examples.specs.Rows.{line_rows}
use Rattle.ats_examples.proofs.RuleTest.{holds_by}
use Rattle.ats_verdict_examples.specs.Networks.{line_until, below_and_flow}
use Rattle.ats_verdict_examples.specs.Explained.{IsNotClear, ExplanationsAreMet}
use Rattle.ats_verdict_examples.proofs.NetworkProofs.{line_late, line_in_time, pair_over, below_is}

-- Parts of bounds by computation, and what the laws say of networks that are clear.

not_clear_by : ClearWhereOneHolds → (network : DeclaredNetwork) → IsNetwork network → Carries network
    → ¬ IsClear network → IsNotClear network
not_clear_by clear_where_one_holds network rules carries not_clear = record {
  rules = rules;
  carries = carries;
  not_clear = not_clear;
  none_holds = λ one. not_clear ((clear_where_one_holds network rules carries).1 one);
}

not_in_time : ¬ IsClear (line_until 26671)
not_in_time clear = let none : ◌≡◌ {A = ℕ} 1 0 = clear.in_time in absurd (omega arith)

not_within : ¬ IsClear (pair 12335)
not_within clear = let none : ◌≡◌ {A = ℕ} 2 0 = clear.stay in absurd (omega arith)

holds : Holds (line_until 26672) line_rows
holds = holds_by (line_until 26672) line_rows refl refl

pub explanations_met : EachStreamAddsUp → ClearWhereOneHolds → ExplanationsAreMet
explanations_met each_stream_adds_up clear_where_one_holds = record {
  rules = below_is;
  carries = refl;
  parts = refl;
  add_up = refl;
  not_with_more = λ same. (let e : ◌≡◌ {A = ℕ} 51516001 51516000 = same in absurd (omega arith));
  each = each_stream_adds_up below_and_flow below_is refl;
  clear = (clear_where_one_holds (line_until 26672) line_in_time refl).1 (line_rows, holds);
  one_holds = holds;
  late = refl;
  not_in_time = not_clear_by clear_where_one_holds (line_until 26671) line_late refl not_in_time;
  stay_clear = record { in_time = refl; stay = refl };
  over = refl;
  not_within = not_clear_by clear_where_one_holds (pair 12335) pair_over refl not_within;
  overloaded = λ carries. none-some (Overloaded 0 6 2000000000000) (sym carries);
}
