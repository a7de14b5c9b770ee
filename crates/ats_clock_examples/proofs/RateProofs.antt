use Rattle.std.proofs.Common.{refl}
use Rattle.ats_clock_examples.specs.Rates.{RatesAreRounded}

-- Rates and bursts by computation, and behind any clocks by the words themselves.

pub rates_are_rounded : RatesAreRounded
rates_are_rounded = record {
  steps = record { scheduler = refl; output = refl };
  first = record { scheduler = refl; output = refl };
  picoseconds = record { scheduler = refl; output = refl; beside_step = refl };
  order = record { in_order = refl; turned = refl };
  next = record { no_clock = λ arriving. refl; next = λ clock clocks arriving. refl };
}
