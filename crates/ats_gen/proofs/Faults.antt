use Rattle.std.proofs.Common.{◌≡◌, ◌≢◌, ℕ, zero, suc, ◌<◌, ◌≤◌, Bool, true, false, [], ◌∷◌, length, get_or, All}
use Rattle.std.proofs.Common.{Option, Some, None, refl, ap, ◌∙◌, subst, inl, inr, arith}
use Rattle.std.specs.Prelude.{nat_lt, ◌||◌, if◌then◌else◌}
use Rattle.std.specs.List.{list_any}
use Rattle.std.proofs.lemmas.Bool.{cases_lt, eq-eqb, le-ltb, lt-ltb, ne_eqb}
use Rattle.std.proofs.lemmas.List.Folds.{list_any-append, list_any_none}
use Rattle.ats_num.specs.Failure.{IsDue}
use Rattle.ats_num.specs.declared.failure.Failure.{Failure}
use Rattle.ats_num.specs.declared.failure.Failure.TheVariants.{Fault, NoMemory}
use Rattle.ats_network.specs.Network.{DeclaredNetwork}
use Rattle.ats_trace.specs.Releases.{HaveFewPorts, ports_of_frames}
use Rattle.ats_trace.specs.declared.journey.Release.{Release}
use Rattle.ats_trace.specs.declared.run.TheConstants.{MAX_HOPS, MAX_RELEASE_PS}
use Rattle.ats_gen.specs.declared.fault.GenFault.{GenFault}
use Rattle.ats_gen.specs.declared.fault.GenFault.TheVariants.{NoStream, Limit}
use Rattle.ats_gen.specs.Made.{are_over, made, gen_fault}
use Rattle.ats_gen.specs.Making.{IsPast}
use Rattle.ats_gen.proofs.MadeParts.{next_release}

-- whether a release is past the limit
abbrev is_past : Release → Bool
is_past r = nat_lt MAX_RELEASE_PS r.at.0

-- without a stream
pub fault-none : (network : DeclaredNetwork) (seed count : ℕ) → length network.streams ≡ 0
    → gen_fault network seed count ≡ Some NoStream
fault-none network seed count h =
    ap (λ (b : Bool). if b then Some NoStream
    else if are_over network (made network seed count) then Some Limit else None)
    (eq-eqb (length network.streams) 0 h)

-- with streams it is told by the releases
fault-by : (network : DeclaredNetwork) (seed count : ℕ) → length network.streams ≢ 0 → (b : Bool)
    → are_over network (made network seed count) ≡ b
    → gen_fault network seed count ≡ (if b then Some Limit else None)
fault-by network seed count some b e =
    ap (λ (c : Bool). if c then Some NoStream
    else if are_over network (made network seed count) then Some Limit else None)
    (ne_eqb (length network.streams) 0 some)
    ∙ ap (λ (c : Bool). let limit : Option GenFault = if c then Some Limit else None in limit) e

within-not_past : (r : Release) → r.at.0 ≤ MAX_RELEASE_PS → is_past r ≡ false
within-not_past r h = grind arith

past-is : (r : Release) → MAX_RELEASE_PS < r.at.0 → is_past r ≡ true
past-is r h = grind arith

neither : (a b : Bool) → a ≡ false → b ≡ false → (a || b) ≡ false
neither a b e f = rw (e, f) refl

one : (a b : Bool) → a ≡ true → (a || b) ≡ true
one a b e = rw e refl

other : (a b : Bool) → b ≡ true → (a || b) ≡ true
other true b e = refl
other false b e = e

-- where none is past the limit, and the ports of their frames are not
pub fault-no : (network : DeclaredNetwork) (seed count : ℕ) → length network.streams ≢ 0
    → All (λ (r : Release). r.at.0 ≤ MAX_RELEASE_PS) (made network seed count)
    → HaveFewPorts network (made network seed count)
    → gen_fault network seed count ≡ None
fault-no network seed count some within few =
    fault-by network seed count some false
    (neither (list_any is_past (made network seed count)) _ (list_any_none is_past (made network seed count)
    (λ k d h. within-not_past (get_or (made network seed count) k d) (within k d h)))
    (le-ltb MAX_HOPS (ports_of_frames network (made network seed count)) few))

-- where these are
pub ports-due : (network : DeclaredNetwork) (seed count : ℕ) → length network.streams ≢ 0
    → MAX_HOPS < ports_of_frames network (made network seed count) → gen_fault network seed count ≡ Some Limit
ports-due network seed count some many =
    fault-by network seed count some true (other (list_any is_past (made network seed count)) _
    (lt-ltb MAX_HOPS (ports_of_frames network (made network seed count)) many))

-- where one of the first releases is past the limit, one of more is
past-later : (network : DeclaredNetwork) (seed k count : ℕ) → k < count
    → MAX_RELEASE_PS < (next_release network seed k).at.0 → list_any is_past (made network seed count) ≡ true
past-later network seed k zero h past = absurd (omega arith)
past-later network seed k (suc count) h past =
    list_any-append is_past (made network seed count) (next_release network seed count ∷ [])
    ∙ elim (cases_lt k count)
    as (λ _. (list_any is_past (made network seed count)
    || list_any is_past (next_release network seed count ∷ [])) ≡ true) [
      | inl less ↦ (let e = past-later network seed k count less past in rw e refl)
      | inr end ↦ (
          let last : k ≡ count = omega arith in
          let over : is_past (next_release network seed count) ≡ true =
          past-is (next_release network seed count)
          (subst (λ (n : ℕ). MAX_RELEASE_PS < (next_release network seed n).at.0) last past) in
          grind (arith, over))
    ]

-- a frame was not made: that is due
pub past-due : (network : DeclaredNetwork) (seed k count : ℕ) (failure : Failure GenFault)
    → length network.streams ≢ 0 → k < count → IsPast (next_release network seed k) failure
    → IsDue failure (gen_fault network seed count)
past-due network seed k count NoMemory some h past = tt
past-due network seed k count (Fault Limit) some h past =
    fault-by network seed count some true
    (one (list_any is_past (made network seed count)) _ (past-later network seed k count h past))
past-due network seed k count (Fault NoStream) some h past = absurd past
