-- Texts at edges of their forms, by computation.
use Rattle.std.proofs.Common.{refl}
use Rattle.std.specs.Fmt.{digits}
use Rattle.csv.specs.Machine.{next_record}
use Rattle.csv.specs.Reading.{records_from, strip_bom}
use Rattle.ats_csv.specs.Reading.{records_of, same_fields}
use Rattle.ats_certificate_file.specs.Reading.{header, row_in, row_after}
use Rattle.ats_network_text.specs.Text.{classes_text}
use Rattle.ats_schedule.specs.Reading.{header as release_header, release_after}
use Rattle.ats_edge_examples.specs.Texts.{ClassesAreTold, MarksArePassed, NumbersAreShort, QuotesAreCut, ShapesAreCut}
use Rattle.ats_edge_examples.specs.Texts.{TablesAreCut, TextsAreAtEdges}

tables_are_cut : TablesAreCut
unfolding next_record records_from strip_bom records_of same_fields header row_in row_after release_header release_after
tables_are_cut = record {
  ends = refl;
  returns = refl;
  no_end = refl;
  quotes = refl;
  blank = refl;
  number_sign = refl;
  space = refl;
  release_ends = refl;
  release_quotes = refl;
  release_blank = refl;
  release_sign = refl;
}

quotes_are_cut : QuotesAreCut
unfolding next_record records_from strip_bom records_of
quotes_are_cut = record {
  twice = refl;
  only = refl;
  backslash = refl;
  backslashes = refl;
  line = refl;
  inside = refl;
  behind = refl;
  unclosed = refl;
  single = refl;
}

marks_are_passed : MarksArePassed
unfolding next_record records_from strip_bom records_of
marks_are_passed = record { one = refl; two = refl; later = refl; part = refl }

shapes_are_cut : ShapesAreCut
shapes_are_cut = record { zero = refl; mark = refl }

numbers_are_short : NumbersAreShort
numbers_are_short = record {
  most = refl;
  class = refl;
  rate = refl;
  burst = refl;
  least = refl;
  greatest = refl;
  deadline = refl;
}

classes_are_told : ClassesAreTold
unfolding digits classes_text
classes_are_told = record { same = refl; last = refl; middle = refl }

pub texts_are_at_edges : TextsAreAtEdges
texts_are_at_edges = record {
  tables = tables_are_cut;
  quotes = quotes_are_cut;
  marks = marks_are_passed;
  shapes = shapes_are_cut;
  numbers = numbers_are_short;
  classes = classes_are_told;
}
