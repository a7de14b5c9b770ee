use Rattle.std.proofs.Common.{ℕ, ◌*◌, Bool, cond, Option, Some, None, refl, ap, ◌∙◌}
use Rattle.std.specs.Option.{option_or}
use Rattle.std.proofs.lemmas.Bool.{le-ltb, lt-ltb}
use Rattle.ats_streams.specs.Stream.{DeclaredStream}
use Rattle.ats_network.specs.Listeners.{Listener}
use Rattle.ats_network.specs.Network.{DeclaredNetwork}
use Rattle.ats_certificate.specs.Certificate.{need_behind}
use Rattle.ats_certificate.specs.declared.row.Row.{Row}
use Rattle.ats_tally.specs.Reason.{first_some, late, overstay, overstay_by}
use Rattle.ats_tally.specs.declared.reason.Reason.{Reason}
use Rattle.ats_tally.specs.declared.reason.Reason.TheVariants.{Overloaded, Residence}
use Rattle.ats_bound.specs.Least.{least_certificate}
use Rattle.ats_bound.specs.Reason.{load_at}
use Rattle.ats_plain_bound_law.specs.Reasons.{FirstIsTold, LateIsReckoned, LoadsAreReckoned, ReasonsAreReckoned}
use Rattle.ats_plain_bound_law.specs.Reasons.{StaysAreReckoned, WhyIsReckoned}

-- Why no certificate holds for a network.

first : (A : Type 0) → FirstIsTold A
first A = record { none = λ given. refl; one = λ given x xs. refl }

-- a reason, where a test passes
abbrev told : Reason → Bool → Option Reason
told reason passes = cond passes (Some reason) None

loads : LoadsAreReckoned
loads = record {
  load = λ network port class. refl;
  over = λ network port class is. ap (told (Overloaded port class (load_at network (port, class))))
      (lt-ltb 1000000000000 (load_at network (port, class)) is);
  fits = λ network port class is. ap (told (Overloaded port class (load_at network (port, class))))
      (le-ltb 1000000000000 (load_at network (port, class)) is);
}

abbrev need : DeclaredNetwork → Row → ℕ
need network row = need_behind network row.port row.wait

stays : StaysAreReckoned
stays = record {
  station = λ network row none. ap (overstay_by row (need network row)) none;
  longer = λ network row ns there is. ap (overstay_by row (need network row)) there
      ∙ ap (told (Residence row.port row.class (need network row))) (lt-ltb (1000 * ns) (need network row) is);
  within = λ network row ns there is. ap (overstay_by row (need network row)) there
      ∙ ap (told (Residence row.port row.class (need network row))) (le-ltb (1000 * ns) (need network row) is);
}

lates : LateIsReckoned
lates topology rows stream = refl

-- the first row with too long a stay, and the first stream that is late
abbrev stayed : DeclaredNetwork → Option Reason
stayed network = first_some (overstay network) (least_certificate network)

abbrev overdue : DeclaredNetwork → Option Reason
overdue network = first_some (late network.topology (least_certificate network)) network.streams

why : WhyIsReckoned
why = record {
  overloaded = λ network reason is.
      ap (λ (o : Option Reason). option_or o (option_or (stayed network) (overdue network))) is;
  overstays = λ network reason none is.
      ap (λ (o : Option Reason). option_or o (option_or (stayed network) (overdue network))) none
      ∙ ap (λ (o : Option Reason). option_or o (overdue network)) is;
  overdue = λ network none no_stay.
      ap (λ (o : Option Reason). option_or o (option_or (stayed network) (overdue network))) none
      ∙ ap (λ (o : Option Reason). option_or o (overdue network)) no_stay;
}

pub reasons_are_reckoned : ReasonsAreReckoned
reasons_are_reckoned = record {
  places = first (ℕ × ℕ);
  rows = first Row;
  streams = first DeclaredStream;
  listeners = first Listener;
  loads = loads;
  stays = stays;
  late = lates;
  why = why;
}
