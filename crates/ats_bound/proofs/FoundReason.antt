-- The reason that is found is the first.
use Rattle.std.proofs.Common.{◌≡◌, ℕ, ◌*◌, true, List, ◌∷◌, ◌++◌, get_or, Option, Some, None, refl, sym, subst}
use Rattle.std.proofs.Common.{◌∙◌, inl, inr, eqb, arith}
use Rattle.std.specs.Prelude.{nat_lt}
use Rattle.std.specs.List.{All, AllPairs, list_any}
use Rattle.std.proofs.lemmas.Bool.{and_parts, eqb-true, ltb-true, or_cases}
use Rattle.std.proofs.lemmas.List.Elements.{All-cons}
use Rattle.std.proofs.lemmas.List.Folds.{list_any-append}
use Rattle.std.proofs.lemmas.Option.{none-some}
use Rattle.ats_facts.proofs.Lists.{pairs_head}
use Rattle.ats_num.specs.declared.time.TheConstants.{PS_PER_SECOND, PS_PER_NS}
use Rattle.ats_streams.specs.Stream.{DeclaredStream}
use Rattle.ats_network.specs.Listeners.{Listener, listeners_of}
use Rattle.ats_network.specs.Network.{DeclaredNetwork, IsNetwork}
use Rattle.ats_network.specs.Residence.{residence_after}
use Rattle.ats_certificate.specs.PortSums.{is_used}
use Rattle.ats_certificate.specs.Certificate.{IsInTime, MeetsDeadline, bound_on}
use Rattle.ats_certificate.specs.Least.{IsLeastCertificate}
use Rattle.ats_certificate.specs.Used.{places_of}
use Rattle.ats_certificate.specs.declared.row.Row.{Row}
use Rattle.ats_tally.specs.Reason.{first_some, overstay_by, overstay, row_need, late, late_for}
use Rattle.ats_tally.specs.declared.reason.Reason.{Reason}
use Rattle.ats_tally.specs.declared.reason.Reason.TheVariants.{Overloaded, Residence, Deadline}
use Rattle.ats_tally.proofs.Lists.{any_gives}
use Rattle.ats_tally.proofs.Places.{IsUsedAt, Precedes, is_at, places_have, places_ordered, places_used}
use Rattle.ats_tally.proofs.Reasons.{stays_by, by_met, by_stay, in_time_from, by_time, meets_by}
use Rattle.ats_bound.specs.First.{IsFirstOverdue, IsFirstOverload, IsFirstReason, RowMayStay}
use Rattle.ats_bound.specs.Least.{least_certificate}
use Rattle.ats_bound.specs.Reason.{load_at, overload, reason_of}
use Rattle.ats_bound.proofs.Breaches.{StandsAt, stands_at, it_keeps, Tests, all_kept, breach_at, or_else, if_true}
use Rattle.ats_bound.proofs.Breaches.{pairs_right}
use Rattle.ats_bound.proofs.LeastHolds.{least_rows, each_is_least}
use Rattle.ats_bound.proofs.Reasons.{fits_from, overload-none}
use Rattle.ats_bound.proofs.Waits.{Fits}

-- the load of a place fits its link
abbrev pub FitsAt : DeclaredNetwork → ℕ × ℕ → Type 0
FitsAt network at = Fits network at.0 at.1

-- places in order: what comes before a place does not stand from it on
not_here : (at : ℕ × ℕ) (port class : ℕ) → Precedes (port, class) at → at.0 ≡ port → at.1 ≡ class → ⊥
not_here at port class (inl h) p c = omega (arith, h, p, c)
not_here at port class (inr h) p c = omega (arith, h.1, p, c)

not_later : (at b : ℕ × ℕ) (port class : ℕ) → Precedes (port, class) at → Precedes at b → b.0 ≡ port
    → b.1 ≡ class → ⊥
not_later at b port class (inl h) (inl k) p c = omega (arith, h, k, p, c)
not_later at b port class (inl h) (inr k) p c = omega (arith, h, k.0, p, c)
not_later at b port class (inr h) (inl k) p c = omega (arith, h.0, k, p, c)
not_later at b port class (inr h) (inr k) p c = omega (arith, h.0, h.1, k.0, k.1, p, c)

pub not_from : (before : List (ℕ × ℕ)) (at : ℕ × ℕ) (after : List (ℕ × ℕ)) (port class : ℕ)
    → AllPairs Precedes (before ++ at ∷ after) → Precedes (port, class) at
    → list_any (is_at port class) (at ∷ after) ≡ true → ⊥
not_from before at after port class ordered less any =
    let ahead : All (Precedes at) after =
    pairs_head Precedes at after (pairs_right Precedes before (at ∷ after) ordered) in
    any_gives (is_at port class) ⊥ (at ∷ after)
    (All-cons (λ (b : ℕ × ℕ). is_at port class b ≡ true → ⊥) at after
    (λ e. (let parts = and_parts (eqb at.0 port) (eqb at.1 class) e in
    not_here at port class less (eqb-true at.0 port parts.0) (eqb-true at.1 class parts.1)))
    (λ k d h e. (
    let b = get_or after k d in
    let parts = and_parts (eqb b.0 port) (eqb b.1 class) e in
    not_later at b port class less (ahead k d h) (eqb-true b.0 port parts.0) (eqb-true b.1 class parts.1))))
    any

-- a place among those that fit fits
fits_among : (network : DeclaredNetwork) (places : List (ℕ × ℕ)) (port class : ℕ) → All (FitsAt network) places
    → list_any (is_at port class) places ≡ true → Fits network port class
fits_among network places port class all any =
    any_gives (is_at port class) (Fits network port class) places
    (λ k d h e. (
    let at = get_or places k d in
    let parts = and_parts (eqb at.0 port) (eqb at.1 class) e in
    subst (λ (n : ℕ). Fits network n class) (eqb-true at.0 port parts.0)
    (subst (λ (n : ℕ). Fits network at.0 n) (eqb-true at.1 class parts.1) (all k d h))))
    any

-- the searches test what the rules say
module _ (network : DeclaredNetwork) where
  pub load_tests : (places : List (ℕ × ℕ)) → Tests (overload network) (FitsAt network) places
  load_tests places = λ k d h. (
      let at = get_or places k d in
      (λ none. fits_from network at.0 at.1 none, λ fits. overload-none network at.0 at.1 fits))

  pub stay_tests : (rows : List Row) → Tests (overstay network) (RowMayStay network) rows
  stay_tests rows = λ k d h. (
      let row : Row = get_or rows k d in (
        λ none. stays_by row (row_need network row) (residence_after network.topology row.port) none,
        λ stays. by_stay row (row_need network row) (residence_after network.topology row.port) stays,
      ))

  pub time_tests : (rows : List Row) → Tests (late network.topology rows) (IsInTime rows) network.streams
  time_tests rows = λ k d h. (
    λ none. in_time_from network.topology rows (get_or network.streams k d) none,
    λ time. by_time network.topology rows (get_or network.streams k d) time,
  )

-- the bounds along the route to a listener are within the deadline
abbrev pub InTimeAt : List Row → DeclaredStream → Listener → Type 0
InTimeAt rows stream l = MeetsDeadline stream (bound_on rows stream l.route)

pub listener_tests : (rows : List Row) (stream : DeclaredStream) (listeners : List Listener)
    → Tests (late_for rows stream) (InTimeAt rows stream) listeners
listener_tests rows stream listeners = λ k d h. (
    let l : Listener = get_or listeners k d in (
      λ none. meets_by stream l.name (bound_on rows stream l.route) none,
      λ met. by_met stream l.name (bound_on rows stream l.route) met,
    ))

-- a stream that is found late is the first that is, and so is its listener
pub of_overdue : (network : DeclaredNetwork) (rows : List Row) (P : Reason → Type 0)
    → ((name : List ℕ) (listener : Option (List ℕ)) (along : ℕ) → IsFirstOverdue network rows name listener along
    → P (Deadline name listener along))
    → (found : Reason) → first_some (late network.topology rows) network.streams ≡ Some found → P found
of_overdue network rows P so found e =
    let at = stands_at (late network.topology rows) network.streams found e in
    let stream : DeclaredStream = at.it in
    let listeners : List Listener = listeners_of network.topology stream in
    let there = stands_at (late_for rows stream) listeners found at.gives in
    let sum : ℕ = bound_on rows stream there.it.route in
    if_true P (nat_lt (PS_PER_NS * stream.deadline_ns) sum) (Deadline stream.name there.it.name sum) found
    (λ _. so stream.name there.it.name sum (record {
      stream = stream;
      name_is = refl;
      first = breach_at (late network.topology rows) (IsInTime rows) network.streams found (time_tests network rows) at;
      there = there.it;
      listener_is = refl;
      first_there = breach_at (late_for rows stream) (InTimeAt rows stream) listeners found
          (listener_tests rows stream listeners) there;
      along_is = refl;
    }))
    there.gives

module _ (network : DeclaredNetwork) (is : IsNetwork network) where
  -- where no place is overloaded, each that is used fits
  pub each_fits : first_some (overload network) (places_of network) ≡ None → (port class : ℕ)
      → is_used network port class ≡ true → Fits network port class
  each_fits none port class used =
      fits_among network (places_of network) port class
      (all_kept (overload network) (FitsAt network) (places_of network) (load_tests network (places_of network)) none)
      (places_have network port class is used)

  -- and so does each that comes before the first that is overloaded
  earlier_fits : (found : Reason) (at : StandsAt (overload network) (places_of network) found) (port class : ℕ)
      → is_used network port class ≡ true → Precedes (port, class) at.it → Fits network port class
  earlier_fits found at port class used less =
      let ordered : AllPairs Precedes (at.before ++ at.it ∷ at.after) =
      subst (λ (ps : List (ℕ × ℕ)). AllPairs Precedes ps) (sym at.cut) (places_ordered network) in
      let any : list_any (is_at port class) (at.before ++ at.it ∷ at.after) ≡ true =
      subst (λ (ps : List (ℕ × ℕ)). list_any (is_at port class) ps ≡ true) (sym at.cut)
      (places_have network port class is used) in
      elim (or_cases (list_any (is_at port class) at.before) (list_any (is_at port class) (at.it ∷ at.after))
      (sym (list_any-append (is_at port class) at.before (at.it ∷ at.after)) ∙ any)) as (λ _.
      Fits network port class) [
        | inl earlier ↦ fits_among network at.before port class
            (λ k d h. (load_tests network at.before k d h).0 (at.none k d h)) earlier
        | inr later ↦ absurd (not_from at.before at.it at.after port class ordered less later)
      ]

  pub of_load : (P : Reason → Type 0)
      → ((port class load : ℕ) → IsFirstOverload network port class load → P (Overloaded port class load))
      → (found : Reason) → first_some (overload network) (places_of network) ≡ Some found → P found
  of_load P so found e =
      let at = stands_at (overload network) (places_of network) found e in
      let load : ℕ = load_at network at.it in
      if_true P (nat_lt PS_PER_SECOND load) (Overloaded at.it.0 at.it.1 load) found
      (λ more. so at.it.0 at.it.1 load (record {
        used = it_keeps (overload network) (IsUsedAt network) (places_of network) found (places_used network) at;
        load_is = refl;
        over = ltb-true PS_PER_SECOND load more;
        before = λ p c used less. earlier_fits found at p c used less;
      }))
      at.gives

  pub least_is : first_some (overload network) (places_of network) ≡ None
      → IsLeastCertificate network (least_certificate network)
  least_is none = record {
    rows_of = least_rows network is;
    each = each_is_least network is (all_kept (overload network) (FitsAt network) (places_of network)
        (load_tests network (places_of network)) none);
  }

  stays_over : (row : Row) (need : ℕ) (residence : Option ℕ) (found : Reason)
      → IsFirstReason network (Residence row.port row.class need)
      → overstay_by row need residence ≡ Some found → IsFirstReason network found
  stays_over row need None found first h = absurd (none-some found h)
  stays_over row need (Some residence_ns) found first h = if_true (IsFirstReason network)
      (nat_lt (PS_PER_NS * residence_ns) need) (Residence row.port row.class need) found (λ _. first) h

  of_stay : (found : Reason) → IsLeastCertificate network (least_certificate network)
      → first_some (overstay network) (least_certificate network) ≡ Some found → IsFirstReason network found
  of_stay found least e =
      let rows : List Row = least_certificate network in
      let at = stands_at (overstay network) rows found e in
      stays_over at.it (row_need network at.it) (residence_after network.topology at.it.port) found
      (record {
        rows = rows;
        least = least;
        row = at.it;
        port_is = refl;
        class_is = refl;
        need_is = refl;
        first = breach_at (overstay network) (RowMayStay network) rows found (stay_tests network rows) at;
      })
      at.gives

  of_late : (found : Reason) → IsLeastCertificate network (least_certificate network)
      → All (RowMayStay network) (least_certificate network)
      → first_some (late network.topology (least_certificate network)) network.streams ≡ Some found
      → IsFirstReason network found
  of_late found least stay =
      of_overdue network (least_certificate network) (IsFirstReason network)
      (λ name listener along overdue. record {
        rows = least_certificate network;
        least = least;
        stay = stay;
        overdue = overdue;
      })
      found

  pub found_is_first : (found : Reason) → reason_of network ≡ Some found → IsFirstReason network found
  found_is_first found =
      let rows : List Row = least_certificate network in
      or_else (first_some (overload network) (places_of network)) _ found
      (of_load (IsFirstReason network) (λ port class load first. first) found) (λ no_load.
      or_else (first_some (overstay network) rows) _ found (of_stay found (least_is no_load)) (λ no_stay.
      of_late found (least_is no_load)
      (all_kept (overstay network) (RowMayStay network) rows (stay_tests network rows) no_stay)))
