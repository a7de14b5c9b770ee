use Rattle.std.proofs.Common.{◌≡◌, refl}
use Rattle.std.specs.Fmt.{digits}
use Rattle.ats_network_text.specs.Text.{show_text, port_line, classes_text, rates_line, sender_line, totals_line}
use Rattle.ats_text_examples.specs.Worked.{way}
use Rattle.ats_text_examples.specs.Shown.{shown}

-- What `show` prints, by computation.

pub show_is : show_text way ≡ shown
unfolding digits show_text port_line classes_text rates_line sender_line totals_line
show_is = refl
