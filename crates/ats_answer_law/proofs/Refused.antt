-- Why `generate` makes no releases.
use Rattle.std.proofs.Common.{◌≡◌, ◌<◌, Bool, true, false, List, length, Option, Some, None, refl}
use Rattle.std.proofs.Common.{inl, inr, arith, ap}
use Rattle.std.specs.Prelude.{nat_lt, ◌==◌, if◌then◌else◌}
use Rattle.std.specs.List.{Any, list_any}
use Rattle.std.proofs.lemmas.Bool.{eqb-true, ltb-true, or_cases}
use Rattle.std.proofs.lemmas.List.Folds.{Any-from_list_any}
use Rattle.ats_network.specs.Network.{DeclaredNetwork}
use Rattle.ats_trace.specs.Releases.{HaveFewPorts, ports_of_frames}
use Rattle.ats_trace.specs.declared.journey.Release.{Release}
use Rattle.ats_trace.specs.declared.run.TheConstants.{MAX_HOPS, MAX_RELEASE_PS}
use Rattle.ats_gen.specs.Made.{are_over, made}
use Rattle.ats_gen.specs.declared.fault.GenFault.{GenFault}
use Rattle.ats_gen.specs.declared.fault.GenFault.TheVariants.{NoStream, Limit}
use Rattle.ats_command_due.specs.Generated.{made_for, network_unless}
use Rattle.ats_answer_law.specs.NoneMade.{FaultsLeaveNone, IsWhyNoneMade, NoneAreMadeForFaults}

-- a fault by two tests
abbrev fault_by : Bool → Bool → Option GenFault
fault_by none over = if none then Some NoStream else if over then Some Limit else None

-- which of them passed
by_first : (none over : Bool) → fault_by none over ≡ Some NoStream → none ≡ true
by_first true over told = refl
by_first false true told = absurd (cc told)
by_first false false told = absurd (cc told)

by_second : (none over : Bool) → fault_by none over ≡ Some Limit → over ≡ true
by_second true over told = absurd (cc told)
by_second false true told = refl
by_second false false told = absurd (cc told)

-- a release that the test of the time finds
late_one : (releases : List Release) → list_any (λ (r : Release). nat_lt MAX_RELEASE_PS r.at.0) releases ≡ true
    → Any (λ (r : Release). MAX_RELEASE_PS < r.at.0) releases
late_one releases found =
    let one = Any-from_list_any (λ (r : Release). nat_lt MAX_RELEASE_PS r.at.0) releases found in
    (one.0, one.1, one.2, one.3, ltb-true MAX_RELEASE_PS one.1.at.0 one.4)

-- more ports are not few
many : (network : DeclaredNetwork) (releases : List Release)
    → nat_lt MAX_HOPS (ports_of_frames network releases) ≡ true → ¬ HaveFewPorts network releases
many network releases over few =
    let more : MAX_HOPS < ports_of_frames network releases =
    ltb-true MAX_HOPS (ports_of_frames network releases) over in
    omega (arith, more, few)

pub none_are_made_for_faults : NoneAreMadeForFaults
none_are_made_for_faults network seed count NoStream told =
    eqb-true (length network.streams) 0
    (by_first (length network.streams == 0) (are_over network (made network seed count)) told)
none_are_made_for_faults network seed count Limit told =
    elim (or_cases (list_any (λ (r : Release). nat_lt MAX_RELEASE_PS r.at.0) (made network seed count))
    (nat_lt MAX_HOPS (ports_of_frames network (made network seed count)))
    (by_second (length network.streams == 0) (are_over network (made network seed count)) told))
    as (λ _. IsWhyNoneMade network seed count Limit) [
      | inl late ↦ inl (late_one (made network seed count) late)
      | inr over ↦ inr (many network (made network seed count) over)
    ]

pub faults_leave_none : FaultsLeaveNone
unfolding made_for
faults_leave_none = record {
  faulted = λ network seed count fault is. ap (λ (o : Option GenFault). network_unless network o) is;
  faultless = λ network seed count is. ap (λ (o : Option GenFault). network_unless network o) is;
}
