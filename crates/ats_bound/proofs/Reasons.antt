-- A place is overloaded exactly where its load does not fit the link.
use Rattle.std.proofs.Common.{◌≡◌, ℕ, ◌*◌, Option, Some, None, refl}
use Rattle.std.specs.Prelude.{nat_lt}
use Rattle.ats_num.specs.declared.time.TheConstants.{PS_PER_NS}
use Rattle.ats_network.specs.Network.{DeclaredNetwork}
use Rattle.ats_certificate.specs.declared.row.Row.{Row}
use Rattle.ats_tally.specs.Reason.{overstay_by}
use Rattle.ats_tally.specs.declared.reason.Reason.TheVariants.{Residence}
use Rattle.ats_tally.proofs.Reasons.{fits_by, by_fit}
use Rattle.ats_bound.specs.Reason.{load_at, overload}
use Rattle.ats_bound.proofs.Breaches.{true_if}
use Rattle.ats_bound.proofs.Waits.{Fits}

pub fits_from : (network : DeclaredNetwork) (port class : ℕ) → overload network (port, class) ≡ None
    → Fits network port class
fits_from network port class = fits_by port class (load_at network (port, class))

pub overload-none : (network : DeclaredNetwork) (port class : ℕ) → Fits network port class
    → overload network (port, class) ≡ None
overload-none network port class = by_fit port class (load_at network (port, class))

-- a row whose frames may not stay is told with what they need
pub stays_over : (row : Row) (need : ℕ) (residence : Option ℕ) → (overstay_by row need residence ≡ None → ⊥)
    → overstay_by row need residence ≡ Some (Residence row.port row.class need)
stays_over row need None some = absurd (some refl)
stays_over row need (Some residence_ns) some =
    true_if (nat_lt (PS_PER_NS * residence_ns) need) (Residence row.port row.class need) some
