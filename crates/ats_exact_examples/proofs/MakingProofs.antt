use Rattle.std.proofs.Common.{◌≡◌, ◌≢◌, ℕ, ◌<◌, ◌≤◌, Bool, true, false, List, length, get_or, Option, Some}
use Rattle.std.proofs.Common.{None, refl, sym, ap, ◌∙◌, subst, inl, inr, arith}
use Rattle.std.specs.Prelude.{◌⊎◌, ◌==◌, ◌||◌, nat_lt, if◌then◌else◌, All}
use Rattle.std.specs.List.{Any, list_any}
use Rattle.std.proofs.lemmas.Bool.{cases_lt, eq-eqb, eqb-true, false≢true, le-ltb, lt-ltb, ltb-true, ne_eqb}
use Rattle.std.proofs.lemmas.Bool.{or_cases}
use Rattle.std.proofs.lemmas.Bool.Decides.{nat_tests}
use Rattle.std.proofs.lemmas.List.Folds.{Any-from_list_any, list_any_at, list_any_none}
use Rattle.ats_network.specs.Network.{DeclaredNetwork}
use Rattle.ats_trace.specs.Releases.{HaveFewPorts, ports_of_frames}
use Rattle.ats_trace.specs.declared.journey.Release.{Release}
use Rattle.ats_trace.specs.declared.run.TheConstants.{MAX_HOPS, MAX_RELEASE_PS}
use Rattle.ats_gen.specs.Made.{are_over, gen_fault, made}
use Rattle.ats_gen.specs.declared.fault.GenFault.{GenFault}
use Rattle.ats_gen.specs.declared.fault.GenFault.TheVariants.{Limit, NoStream}
use Rattle.ats_exact_examples.specs.Making.{AreWithin, DrawsAreWritten, FaultsOfMakingAreMeant, MakingIsMeant}
use Rattle.ats_exact_examples.specs.Making.{OneIsPast}

-- When releases are made.

-- a fault by two tests
abbrev fault_by : Bool → Bool → Option GenFault
fault_by none over = if none then Some NoStream else if over then Some Limit else None

-- which of them passed
record Passed (none over one other : Bool) : Type 0 where
  first : none ≡ one
  second : over ≡ other

first_passed : (none over : Bool) → fault_by none over ≡ Some NoStream → none ≡ true
first_passed true over told = refl
first_passed false true told = absurd (cc told)
first_passed false false told = absurd (cc told)

second_passed : (none over : Bool) → fault_by none over ≡ Some Limit → Passed none over false true
second_passed true over told = absurd (cc told)
second_passed false true told = record { first = refl; second = refl }
second_passed false false told = absurd (cc told)

none_passed : (none over : Bool) → fault_by none over ≡ None → Passed none over false false
none_passed true over told = absurd (cc told)
none_passed false true told = absurd (cc told)
none_passed false false told = record { first = refl; second = refl }

-- a fault of a network without streams, and of one with some
without_stream : (network : DeclaredNetwork) (seed count : ℕ) → length network.streams ≡ 0
    → gen_fault network seed count ≡ Some NoStream
without_stream network seed count none =
    ap (λ (b : Bool). fault_by b (are_over network (made network seed count)))
    (eq-eqb (length network.streams) 0 none)

with_streams : (network : DeclaredNetwork) (seed count : ℕ) → length network.streams ≢ 0 → (over : Bool)
    → are_over network (made network seed count) ≡ over → gen_fault network seed count ≡ fault_by false over
with_streams network seed count some over e =
    ap (λ (b : Bool). fault_by b (are_over network (made network seed count)))
    (ne_eqb (length network.streams) 0 some)
    ∙ ap (λ (b : Bool). fault_by false b) e

-- a number that is not the same by the test is another one
not_same : (n m : ℕ) → (n == m) ≡ false → n ≢ m
not_same n m other = grind (arith, nat_tests)

abbrev is_past : Release → Bool
is_past r = nat_lt MAX_RELEASE_PS r.at.0

past_one : (releases : List Release) → list_any is_past releases ≡ true
    → Any (λ (r : Release). MAX_RELEASE_PS < r.at.0) releases
past_one releases found =
    let one = Any-from_list_any is_past releases found in
    (one.0, one.1, one.2, one.3, ltb-true MAX_RELEASE_PS one.1.at.0 one.4)

one_past : (releases : List Release) → Any (λ (r : Release). MAX_RELEASE_PS < r.at.0) releases
    → list_any is_past releases ≡ true
one_past releases one =
    list_any_at is_past releases one.0 one.1 one.2
    (subst (λ (r : Release). is_past r ≡ true) (sym one.3) (lt-ltb MAX_RELEASE_PS one.1.at.0 one.4))

none_past : (releases : List Release) → list_any is_past releases ≡ false
    → All (λ (r : Release). r.at.0 ≤ MAX_RELEASE_PS) releases
none_past releases none = λ k d within. elim (cases_lt MAX_RELEASE_PS (get_or releases k d).at.0)
    as (λ _. (get_or releases k d).at.0 ≤ MAX_RELEASE_PS) [
      | inl past ↦ absurd (false≢true (sym none
          ∙ list_any_at is_past releases k d within (lt-ltb MAX_RELEASE_PS (get_or releases k d).at.0 past)))
      | inr at_most ↦ at_most
    ]

many : (network : DeclaredNetwork) (releases : List Release)
    → nat_lt MAX_HOPS (ports_of_frames network releases) ≡ true → ¬ HaveFewPorts network releases
many network releases over few =
    let more : MAX_HOPS < ports_of_frames network releases =
    ltb-true MAX_HOPS (ports_of_frames network releases) over in
    omega (arith, more, few)

few : (network : DeclaredNetwork) (releases : List Release)
    → nat_lt MAX_HOPS (ports_of_frames network releases) ≡ false → HaveFewPorts network releases
few network releases over = elim (cases_lt MAX_HOPS (ports_of_frames network releases))
    as (λ _. HaveFewPorts network releases) [
      | inl more ↦ absurd (false≢true (sym over ∙ lt-ltb MAX_HOPS (ports_of_frames network releases) more))
      | inr at_most ↦ at_most
    ]

-- parts of a test of either
first_so : (a b : Bool) → a ≡ true → (a || b) ≡ true
first_so a b e = rw e refl

second_so : (a b : Bool) → b ≡ true → (a || b) ≡ true
second_so true b e = refl
second_so false b e = e

first_not : (a b : Bool) → (a || b) ≡ false → a ≡ false
first_not true b e = absurd (false≢true (sym e))
first_not false b e = refl

second_not : (a b : Bool) → (a || b) ≡ false → b ≡ false
second_not true b e = absurd (false≢true (sym e))
second_not false b e = e

both_not : (a b : Bool) → a ≡ false → b ≡ false → (a || b) ≡ false
both_not a b e f = rw (e, f) refl

module _ (network : DeclaredNetwork) (seed count : ℕ) where
  abbrev releases : List Release
  releases = made network seed count

  abbrev late : Bool
  late = list_any is_past releases

  abbrev wide : Bool
  wide = nat_lt MAX_HOPS (ports_of_frames network releases)

  abbrev no_stream : Bool
  no_stream = length network.streams == 0

  limit_told : gen_fault network seed count ≡ Some Limit
      → (length network.streams ≢ 0) × (OneIsPast network seed count ⊎ (¬ HaveFewPorts network releases))
  limit_told told =
      let passed = second_passed no_stream (late || wide) told in (
        not_same (length network.streams) 0 passed.first,
        elim (or_cases late wide passed.second)
            as (λ _. OneIsPast network seed count ⊎ (¬ HaveFewPorts network releases)) [
              | inl found ↦ inl (past_one releases found)
              | inr over ↦ inr (many network releases over)
            ],
      )

  limit_due : length network.streams ≢ 0 → (OneIsPast network seed count ⊎ (¬ HaveFewPorts network releases))
      → gen_fault network seed count ≡ Some Limit
  limit_due some (inl one) =
      with_streams network seed count some true (first_so late wide (one_past releases one))
  limit_due some (inr not_few) =
      with_streams network seed count some true (second_so late wide (by wide refl))
    where
      by : (b : Bool) → wide ≡ b → wide ≡ true
      by true e = e
      by false e = absurd (not_few (few network releases e))

  none_told : gen_fault network seed count ≡ None
      → (length network.streams ≢ 0) × AreWithin network seed count × HaveFewPorts network releases
  none_told told =
      let passed = none_passed no_stream (late || wide) told in (
        not_same (length network.streams) 0 passed.first,
        none_past releases (first_not late wide passed.second),
        few network releases (second_not late wide passed.second),
      )

  none_due : length network.streams ≢ 0 → AreWithin network seed count → HaveFewPorts network releases
      → gen_fault network seed count ≡ None
  none_due some within few_ports =
      with_streams network seed count some false
      (both_not late wide
      (list_any_none is_past releases
      (λ k d there. le-ltb MAX_RELEASE_PS (get_or releases k d).at.0 (within k d there)))
      (le-ltb MAX_HOPS (ports_of_frames network releases) few_ports))

faults : FaultsOfMakingAreMeant
faults = record {
  no_stream = λ network seed count. (
    λ told. eqb-true (length network.streams) 0
        (first_passed (length network.streams == 0) (are_over network (made network seed count)) told),
    λ none. without_stream network seed count none,
  );
  limit = λ network seed count. (
    λ told. limit_told network seed count told,
    λ why. limit_due network seed count why.0 why.1,
  );
  none = λ network seed count. (
    λ told. none_told network seed count told,
    λ so. none_due network seed count so.0 so.1 so.2,
  );
}

draws : DrawsAreWritten
draws = record {
  next = λ state. refl;
  upper = λ state. refl;
  seeded = λ seed. refl;
  later = λ seed n. refl;
  each = λ seed n. refl;
  begins = λ seed. refl;
  goes_on = λ seed frame. refl;
}

pub making_is_meant : MakingIsMeant
making_is_meant = record { faults = faults; draws = draws }
