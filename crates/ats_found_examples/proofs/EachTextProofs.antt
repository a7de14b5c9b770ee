use Rattle.std.proofs.Common.{refl}
use Rattle.ats_witness_text.specs.Text.{found_text, title_line, witness_line, witness_text}
use Rattle.ats_found_examples.specs.EachText.{ListenersAreCalled, TextsAreOfTheirStream}

-- Texts as they are put together.

called : ListenersAreCalled
unfolding title_line witness_line
called = record {
  no_title = λ name. refl;
  title = λ name station. refl;
  alone = λ name delay bound. refl;
  with_station = λ name station delay bound. refl;
}

pub texts_are_of_their_stream : TextsAreOfTheirStream
unfolding found_text witness_text
texts_are_of_their_stream = record {
  called = called;
  station = λ network stream listener. refl;
  text = λ network stream listener found bound. refl;
  each = λ network stream founds bound. refl;
}
