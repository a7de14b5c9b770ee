use Rattle.std.specs.Prelude.{◌≡◌, ◌↔◌, ℕ, List, Ok}
use Rattle.ats_network_table.specs.declared.format.Format.TheVariants.{Three}
use Rattle.ats_network_toml.specs.Reading.{format_in}
use Rattle.ats_network_file.specs.Reading.{IsBeforeFormat3}

-- all texts are before format 3 but those in which that format is found, however long they are and whatever else is in
-- them
pub record FormatsArePlain : Type 0 where
  pub before : (text : List ℕ) → IsBeforeFormat3 text ↔ ¬ (format_in text ≡ Ok Three)
