-- Shape files at edges, by computation.
use Rattle.std.proofs.Common.{◌≡◌, Option, None, Some, Result, Err, refl, ap}
use Rattle.std.specs.Fmt.{digits}
use Rattle.ats_num.specs.Failure.{◌>>=◌, or_fault}
use Rattle.ats_num.specs.Name.{name_of}
use Rattle.ats_num.specs.Number.{number_of}
use Rattle.ats_shape.specs.Text.{frame_text, totals_text}
use Rattle.ats_shape.specs.declared.fault.ShapeFault.TheVariants.{BadLine}
use Rattle.ats_edge_examples.specs.Shapes.{EachWordIsRead, NumbersHaveNoZeros, ResidenceIsSinceArrival}
use Rattle.ats_edge_examples.specs.Shapes.{ShapesAreAtEdges, TotalsAreOfAll, word_at}

since_arrival : ResidenceIsSinceArrival
unfolding digits frame_text totals_text
since_arrival = record {
  third_is_late = refl;
  verdict = λ declared residence_ns time last arrival octets. refl;
}

have_no_zeros : NumbersHaveNoZeros
have_no_zeros = record {
  rate = refl;
  burst = refl;
  least = refl;
  greatest = refl;
  least_sign = refl;
  greatest_sign = refl;
}

-- what is read of a word fails where the word is read as nothing
stops : {A B F : Type 0} (fault : F) (read : Option A) (rest : A → Result B F) → read ≡ None
    → (or_fault fault read >>= rest) ≡ Err fault
stops fault read rest none = ap (λ r. or_fault fault r >>= rest) none

-- and whatever it is read as, where all that comes after fails so
goes_on : {A B F : Type 0} (fault : F) (read : Option A) (rest : A → Result B F) → ((x : A) → rest x ≡ Err fault)
    → (or_fault fault read >>= rest) ≡ Err fault
goes_on fault None rest fails = refl
goes_on fault (Some x) rest fails = fails x

each_is_read : EachWordIsRead
each_is_read = record {
  name = λ n words none. stops (BadLine n) (name_of (word_at words 1)) _ none;
  rate = λ n words none. goes_on (BadLine n) (name_of (word_at words 1)) _ (λ name.
      stops (BadLine n) (number_of (word_at words 2)) _ none);
  burst = λ n words none. goes_on (BadLine n) (name_of (word_at words 1)) _ (λ name.
      goes_on (BadLine n) (number_of (word_at words 2)) _ (λ rate.
      stops (BadLine n) (number_of (word_at words 3)) _ none));
  least = λ n words none. goes_on (BadLine n) (name_of (word_at words 1)) _ (λ name.
      goes_on (BadLine n) (number_of (word_at words 2)) _ (λ rate.
      goes_on (BadLine n) (number_of (word_at words 3)) _ (λ burst.
      stops (BadLine n) (number_of (word_at words 4)) _ none)));
  greatest = λ n words none. goes_on (BadLine n) (name_of (word_at words 1)) _ (λ name.
      goes_on (BadLine n) (number_of (word_at words 2)) _ (λ rate.
      goes_on (BadLine n) (number_of (word_at words 3)) _ (λ burst.
      goes_on (BadLine n) (number_of (word_at words 4)) _ (λ least.
      stops (BadLine n) (number_of (word_at words 5)) _ none))));
}

of_all : TotalsAreOfAll
unfolding digits frame_text totals_text
of_all = record { first_is_long = refl; totals = λ verdicts. refl }

pub shapes_are_at_edges : ShapesAreAtEdges
shapes_are_at_edges = record {
  residence = since_arrival;
  numbers = have_no_zeros;
  words = each_is_read;
  totals = of_all;
}
