use Rattle.std.proofs.Common.{ℕ, Option, ap, refl}
use Rattle.std.specs.Prelude.{unwrap_or}
use Rattle.std.specs.Option.{option_map}
use Rattle.ats_buffer.specs.Buffer.{way_over}
use Rattle.ats_exact_examples.specs.Held.{EachIsSetOnce, HeldIsExact}

pub held_is_exact : HeldIsExact
held_is_exact = record {
  occupancy = λ network run port class time. refl;
  stay = λ network rows port class. refl;
  behind = λ network rows s port before is.
      ap (λ (o : Option ℕ). unwrap_or (option_map (way_over network rows s) o) 0) is;
  first = λ network rows s port none.
      ap (λ (o : Option ℕ). unwrap_or (option_map (way_over network rows s) o) 0) none;
}

pub each_is_set_once : EachIsSetOnce
each_is_set_once = record { once = λ network sender place. refl; each = λ network sender. refl }
