-- A search finds nothing exactly where the network bears what is searched, and names ports that are there.
use Rattle.std.proofs.Common.{◌≡◌, ℕ, ◌*◌, ◌<◌, ◌≤◌, Bool, false, cond, List, [], length, get_or, Option, Some, None}
use Rattle.std.proofs.Common.{refl, sym, ap, subst, ◌∙◌, arith}
use Rattle.std.specs.Prelude.{nat_lt}
use Rattle.std.specs.Option.{ForSome}
use Rattle.std.proofs.lemmas.Bool.{le-ltb, lt-ltb, ltb-false}
use Rattle.std.proofs.lemmas.List.{get_or_default}
use Rattle.std.proofs.lemmas.Option.{none-some}
use Rattle.ats_facts.proofs.Options.{cond-none}
use Rattle.ats_num.specs.declared.time.TheConstants.{PS_PER_SECOND, PS_PER_NS}
use Rattle.ats_topology.specs.Topology.{DeclaredTopology}
use Rattle.ats_streams.specs.Branches.{leg_at, routes_of}
use Rattle.ats_streams.specs.Stream.{DeclaredStream}
use Rattle.ats_streams.proofs.BranchLemmas.{routes-length}
use Rattle.ats_network.specs.Listeners.{Listener, listeners_of}
use Rattle.ats_certificate.specs.Certificate.{IsInTime, MeetsDeadline, bound_on}
use Rattle.ats_certificate.specs.declared.row.Row.{Row}
use Rattle.ats_tally.specs.Listeners.{listener_at, no_listener}
use Rattle.ats_tally.specs.Reason.{overload_by, overstay_by, late, late_by, late_for, ReasonInside}
use Rattle.ats_tally.specs.declared.reason.Reason.{Reason}
use Rattle.ats_tally.specs.declared.reason.Reason.TheVariants.{Overloaded, Residence, Deadline}
use Rattle.ats_tally.proofs.Firsts.{where_failed}
use Rattle.ats_tally.proofs.ListenerLemmas.{listener_route-is, listeners-length}
use Rattle.ats_tally.proofs.Lists.{first_some-none, none_first}

pub some_none : {X : Type 0} (x : X) → Some x ≡ None → ⊥
some_none x h = cc

-- a test that fails gives nothing
pub by_fail : {X : Type 0} (b : Bool) (x : X) → b ≡ false → cond b (Some x) None ≡ None
by_fail b x e = ap (λ (t : Bool). cond t (Some x) None) e

-- loads
pub fits_by : (port class load : ℕ) → overload_by port class load ≡ None → load ≤ PS_PER_SECOND
fits_by port class load h =
    ltb-false PS_PER_SECOND load (cond-none (nat_lt PS_PER_SECOND load) (Overloaded port class load) h)

pub by_fit : (port class load : ℕ) → load ≤ PS_PER_SECOND → overload_by port class load ≡ None
by_fit port class load h =
    by_fail (nat_lt PS_PER_SECOND load) (Overloaded port class load) (le-ltb PS_PER_SECOND load h)

pub overload_inside : (topology : DeclaredTopology) (port class load : ℕ) (found : Reason)
    → port < length topology.ports
    → overload_by port class load ≡ Some found → ReasonInside topology found
overload_inside topology port class load found inside =
    where_failed (ReasonInside topology) (nat_lt PS_PER_SECOND load) (Overloaded port class load) found inside

-- needs of residence
pub stays_by : (row : Row) (need : ℕ) (residence : Option ℕ) → overstay_by row need residence ≡ None
    → ForSome residence (λ ns. need ≤ PS_PER_NS * ns)
stays_by row need None h ns is = absurd (let no : None ≡ Some ns = is in cc)
stays_by row need (Some residence_ns) h ns is =
    let same : residence_ns ≡ ns = cc is in
    let test : Bool = nat_lt (PS_PER_NS * residence_ns) need in
    let le = ltb-false (PS_PER_NS * residence_ns) need (cond-none test (Residence row.port row.class need) h) in
    omega (arith, le, same)

pub by_stay : (row : Row) (need : ℕ) (residence : Option ℕ) → ForSome residence (λ ns. need ≤ PS_PER_NS * ns)
    → overstay_by row need residence ≡ None
by_stay row need None h = refl
by_stay row need (Some residence_ns) h =
    by_fail (nat_lt (PS_PER_NS * residence_ns) need) (Residence row.port row.class need)
    (le-ltb (PS_PER_NS * residence_ns) need (h residence_ns refl))

pub overstay_inside : (topology : DeclaredTopology) (row : Row) (need : ℕ) (residence : Option ℕ) (found : Reason)
    → row.port < length topology.ports → overstay_by row need residence ≡ Some found → ReasonInside topology found
overstay_inside topology row need None found inside h = absurd (none-some found h)
overstay_inside topology row need (Some residence_ns) found inside h =
    where_failed (ReasonInside topology) (nat_lt (PS_PER_NS * residence_ns) need) (Residence row.port row.class need)
    found inside h

-- sums
pub meets_by : (stream : DeclaredStream) (listener : Option (List ℕ)) (sum : ℕ)
    → late_by stream listener sum ≡ None → MeetsDeadline stream sum
meets_by stream listener sum h =
    ltb-false (PS_PER_NS * stream.deadline_ns) sum
    (cond-none (nat_lt (PS_PER_NS * stream.deadline_ns) sum) (Deadline stream.name listener sum) h)

pub by_met : (stream : DeclaredStream) (listener : Option (List ℕ)) (sum : ℕ) → MeetsDeadline stream sum
    → late_by stream listener sum ≡ None
by_met stream listener sum h =
    by_fail (nat_lt (PS_PER_NS * stream.deadline_ns) sum) (Deadline stream.name listener sum)
    (le-ltb (PS_PER_NS * stream.deadline_ns) sum h)

-- for the listener to which a leg leads
pub late_past : (topology : DeclaredTopology) (rows : List Row) (stream : DeclaredStream) (leg sum : ℕ)
    → leg ≤ length stream.branches
    → sum ≡ bound_on rows stream (leg_at (routes_of stream.ports stream.branches) leg)
    → PS_PER_NS * stream.deadline_ns < sum → late_for rows stream (listener_at topology stream leg)
    ≡ Some (Deadline stream.name (listener_at topology stream leg).name sum)
late_past topology rows stream leg sum within is over =
    let l : Listener = listener_at topology stream leg in
    ap (λ (route : List ℕ). late_by stream l.name (bound_on rows stream route))
    (listener_route-is topology stream leg no_listener within)
    ∙ ap (late_by stream l.name) (sym is)
    ∙ ap (λ (t : Bool). cond t (Some (Deadline stream.name l.name sum)) None)
    (lt-ltb (PS_PER_NS * stream.deadline_ns) sum over)

pub not_late : (topology : DeclaredTopology) (rows : List Row) (stream : DeclaredStream) (leg sum : ℕ)
    → leg ≤ length stream.branches
    → sum ≡ bound_on rows stream (leg_at (routes_of stream.ports stream.branches) leg)
    → sum ≤ PS_PER_NS * stream.deadline_ns → late_for rows stream (listener_at topology stream leg) ≡ None
not_late topology rows stream leg sum within is met =
    let l : Listener = listener_at topology stream leg in
    ap (λ (route : List ℕ). late_by stream l.name (bound_on rows stream route))
    (listener_route-is topology stream leg no_listener within)
    ∙ ap (late_by stream l.name) (sym is) ∙ by_met stream l.name sum met

-- for each listener
pub in_time_from : (topology : DeclaredTopology) (rows : List Row) (stream : DeclaredStream)
    → late topology rows stream ≡ None → IsInTime rows stream
in_time_from topology rows stream h k d within =
    let legs : k ≤ length stream.branches =
    omega (arith, within, routes-length stream.ports stream.branches) in
    let l : Listener = listener_at topology stream k in
    let there : l.route ≡ leg_at (routes_of stream.ports stream.branches) k =
    listener_route-is topology stream k no_listener legs in
    let none : late_for rows stream l ≡ None =
    none_first (late_for rows stream) (listeners_of topology stream) h k no_listener
    (omega (arith, legs, listeners-length topology stream)) in
    subst (λ (route : List ℕ). MeetsDeadline stream (bound_on rows stream route))
    (there ∙ get_or_default (routes_of stream.ports stream.branches) k [] d within)
    (meets_by stream l.name (bound_on rows stream l.route) none)

pub by_time : (topology : DeclaredTopology) (rows : List Row) (stream : DeclaredStream) → IsInTime rows stream
    → late topology rows stream ≡ None
by_time topology rows stream h =
    first_some-none (late_for rows stream) (listeners_of topology stream)
    (λ k d within. (
    let legs : k ≤ length stream.branches = omega (arith, within, listeners-length topology stream) in
    let l : Listener = get_or (listeners_of topology stream) k d in
    by_met stream l.name (bound_on rows stream l.route)
    (subst (λ (route : List ℕ). MeetsDeadline stream (bound_on rows stream route))
    (sym (listener_route-is topology stream k d legs))
    (h k [] (omega (arith, legs, routes-length stream.ports stream.branches))))))

pub late_inside : (topology : DeclaredTopology) (stream : DeclaredStream) (listener : Option (List ℕ)) (sum : ℕ)
    (found : Reason) → late_by stream listener sum ≡ Some found → ReasonInside topology found
late_inside topology stream listener sum found =
    where_failed (ReasonInside topology) (nat_lt (PS_PER_NS * stream.deadline_ns) sum)
    (Deadline stream.name listener sum) found tt
