use Rattle.std.proofs.Common.{refl}
use Rattle.std.specs.Fmt.{digits}
use Rattle.ats_replay.specs.Report.{report_text, summary_text}
use Rattle.ats_replay.specs.Totals.{counts_text, totals_line}
use Rattle.ats_network_text.specs.Text.{port_line}
use Rattle.ats_number_examples.specs.Told.{EachIsTold, NumbersAreTold, SpreadIsTold}

-- Texts by computation.

each_is_told : EachIsTold
unfolding digits report_text summary_text counts_text totals_line
each_is_told = record {
  two = refl;
  totals = refl;
  report = refl;
}

spread_is_told : SpreadIsTold
unfolding digits port_line
spread_is_told = record {
  there = refl;
  back = refl;
}

pub numbers_are_told : NumbersAreTold
numbers_are_told = record {
  frames = each_is_told;
  ports = spread_is_told;
}
