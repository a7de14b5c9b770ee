-- Rows are refused exactly where they do not hold.
use Rattle.std.proofs.Common.{◌≡◌, ℕ, ◌+◌, ◌-◌, ◌*◌, ◌≤◌, Bool, true, false, cond, List, get_or, Option, Some, None}
use Rattle.std.proofs.Common.{refl, sym, ap, ◌∙◌, eqb, arith}
use Rattle.std.specs.Prelude.{nat_lt, is_some}
use Rattle.std.specs.List.{All, AllPairs, list_any}
use Rattle.std.specs.Option.{option_or}
use Rattle.std.proofs.Math.Nat.{mul-le-mul_right}
use Rattle.std.proofs.lemmas.Bool.{and_parts, eqb-true, eq-eqb, ltb-false, le-ltb}
use Rattle.ats_facts.proofs.Options.{option_or-none, cond-none}
use Rattle.ats_num.specs.declared.time.TheConstants.{PS_PER_SECOND}
use Rattle.ats_topology.specs.Port.{port_at}
use Rattle.ats_topology.specs.declared.port.Port.{Port}
use Rattle.ats_network.specs.Network.{DeclaredNetwork, IsNetwork}
use Rattle.ats_network.specs.Residence.{residence_after}
use Rattle.ats_certificate.specs.PortSums.{PortSums, port_sums, is_used}
use Rattle.ats_certificate.specs.Used.{places_of}
use Rattle.ats_certificate.specs.Certificate.{Holds, FitsLink, IsEnough, IsBefore, row_of, bound_of}
use Rattle.ats_certificate.specs.declared.row.Row.{Row}
use Rattle.ats_tally.specs.Waits.{least_wait}
use Rattle.ats_bound.specs.Least.{least_row, least_certificate}
use Rattle.ats_tally.specs.Reason.{first_some, overload_in, overstay, row_need, late}
use Rattle.ats_tally.specs.declared.reason.Reason.{Reason}
use Rattle.ats_tally.proofs.Reasons.{some_none, by_fail, fits_by, by_fit, stays_by, by_stay, in_time_from}
use Rattle.ats_tally.proofs.Reasons.{by_time}
use Rattle.ats_tally.proofs.Lists.{any_gives, none_first, first_some-none}
use Rattle.ats_tally.proofs.Places.{IsPlace, is_at, is_place, places_used, places_have}
use Rattle.ats_bound.proofs.Waits.{Fits, work, work-is, least_wait-is, least_wait-le}
use Rattle.ats_bound.proofs.LeastHolds.{least_certificate_holds}
use Rattle.ats_checker.specs.First.{IsRight}
use Rattle.ats_checker.specs.Laws.{RefusedUnlessHolding, LeastIsAccepted}
use Rattle.ats_checker.specs.Refusal.{missing, stray, wrong, wrong_in, short, of_network, refusal_of}
use Rattle.ats_checker.specs.declared.refusal.Field.{Field}
use Rattle.ats_checker.specs.declared.refusal.Field.TheVariants as field
use Rattle.ats_checker.specs.declared.refusal.Refusal.TheVariants.{RowMissing, RowStray, FieldWrong, WaitTooSmall}
use Rattle.ats_checker.specs.declared.refusal.Refusal.TheVariants.{Network}

-- a test that gives no refusal where it passes
pub passes : {X : Type 0} (b : Bool) (x : X) → cond b None (Some x) ≡ None → b ≡ true
passes true x h = refl
passes false x h = absurd (some_none x h)

pub by_pass : {X : Type 0} (b : Bool) (x : X) → b ≡ true → cond b None (Some x) ≡ None
by_pass b x e = ap (λ (t : Bool). cond t None (Some x)) e

pub both_none : {X : Type 0} (a b : Option X) → a ≡ None → b ≡ None → option_or a b ≡ None
both_none {X} a b e f = ap (λ (o : Option X). option_or o b) e ∙ f

-- a place has its row
pub has_row : (rows : List Row) (port class : ℕ) → missing rows (port, class) ≡ None
    → is_some (row_of rows port class) ≡ true
has_row rows port class h = passes (is_some (row_of rows port class)) (RowMissing port class) h

-- and so has one that is among places that have theirs
pub has_row_among : (rows : List Row) (places : List (ℕ × ℕ)) (port class : ℕ)
    → All (λ (at : ℕ × ℕ). missing rows at ≡ None) places
    → list_any (is_at port class) places ≡ true → is_some (row_of rows port class) ≡ true
has_row_among rows places port class all any =
    any_gives (is_at port class) (is_some (row_of rows port class) ≡ true) places
    (λ k d h e. (
    let at = get_or places k d in
    let parts = and_parts (eqb at.0 port) (eqb at.1 class) e in
    let there : is_some (row_of rows at.0 at.1) ≡ true = has_row rows at.0 at.1 (all k d h) in
    ap (λ (n : ℕ). is_some (row_of rows port n)) (sym (eqb-true at.1 class parts.1))
    ∙ ap (λ (n : ℕ). is_some (row_of rows n at.1)) (sym (eqb-true at.0 port parts.0)) ∙ there))
    any

pub complete_from : (network : DeclaredNetwork) (rows : List Row) → IsNetwork network
    → first_some (missing rows) (places_of network) ≡ None
    → (port class : ℕ) → is_used network port class ≡ true → is_some (row_of rows port class) ≡ true
complete_from network rows is none port class used =
    has_row_among rows (places_of network) port class (none_first (missing rows) (places_of network) none)
    (places_have network port class is used)

-- where each used place has its row, none is missing
pub none_missing : (network : DeclaredNetwork) (rows : List Row)
    → ((port class : ℕ) → is_used network port class ≡ true → is_some (row_of rows port class) ≡ true)
    → first_some (missing rows) (places_of network) ≡ None
none_missing network rows complete =
    first_some-none (missing rows) (places_of network)
    (λ k d h. (let at = get_or (places_of network) k d in by_pass (is_some (row_of rows at.0 at.1))
    (RowMissing at.0 at.1) (complete at.0 at.1 (places_used network k d h))))

pub is_given : (row : Row) (field : Field) (given right : ℕ) → wrong row field given right ≡ None → given ≡ right
is_given row field given right h =
    eqb-true given right (passes (eqb given right) (FieldWrong row.port row.class field right) h)

pub by_given : (row : Row) (field : Field) (given right : ℕ) → given ≡ right → wrong row field given right ≡ None
by_given row field given right h =
    by_pass (eqb given right) (FieldWrong row.port row.class field right) (eq-eqb given right h)

pub right_from : (network : DeclaredNetwork) (row : Row) → wrong_in network row ≡ None → IsRight network row
right_from network row h =
    let sums : PortSums = port_sums network row.port row.class in
    let a = option_or-none (wrong row field.Higher row.higher sums.higher) _ h in
    let b = option_or-none (wrong row field.Equal row.equal sums.equal) _ a.1 in
    let c = option_or-none (wrong row field.Bursts row.bursts sums.bursts) _ b.1 in
    let d = option_or-none (wrong row field.Lower row.lower sums.lower) _ c.1 in
    let e = option_or-none (wrong row field.Least row.least sums.least) _ d.1 in
    record {
      sums = record {
        higher = is_given row field.Higher row.higher sums.higher a.0;
        equal = is_given row field.Equal row.equal sums.equal b.0;
        bursts = is_given row field.Bursts row.bursts sums.bursts c.0;
        lower = is_given row field.Lower row.lower sums.lower d.0;
        least = is_given row field.Least row.least sums.least e.0;
      };
      bound = is_given row field.Bound row.bound
          (bound_of (port_at network.topology.ports row.port) row.wait row.least) e.1;
    }

pub by_right : (network : DeclaredNetwork) (row : Row) → IsRight network row → wrong_in network row ≡ None
by_right network row h =
    let sums : PortSums = port_sums network row.port row.class in
    both_none _ _ (by_given row field.Higher row.higher sums.higher h.sums.higher)
    (both_none _ _ (by_given row field.Equal row.equal sums.equal h.sums.equal)
    (both_none _ _ (by_given row field.Bursts row.bursts sums.bursts h.sums.bursts)
    (both_none _ _ (by_given row field.Lower row.lower sums.lower h.sums.lower)
    (both_none _ _ (by_given row field.Least row.least sums.least h.sums.least)
    (by_given row field.Bound row.bound
    (bound_of (port_at network.topology.ports row.port) row.wait row.least) h.bound)))))

pub fits_from : (row : Row) → overload_in row ≡ None → FitsLink row
fits_from row = fits_by row.port row.class (row.higher + row.equal)

pub by_fits : (row : Row) → FitsLink row → overload_in row ≡ None
by_fits row = by_fit row.port row.class (row.higher + row.equal)

-- a right row that fits its link fits the sums of its place
pub place_fits : (network : DeclaredNetwork) (row : Row) → IsRight network row → FitsLink row
    → Fits network row.port row.class
place_fits network row right fits = omega (arith, fits, right.sums.higher, right.sums.equal)

pub long_from : (network : DeclaredNetwork) (row : Row) → short network row ≡ None
    → (least_row network (row.port, row.class)).wait ≤ row.wait
long_from network row h =
    let least : ℕ = least_wait (port_at network.topology.ports row.port) (port_sums network row.port row.class) in
    ltb-false row.wait least (cond-none (nat_lt row.wait least) (WaitTooSmall row.port row.class least) h)

pub by_long : (network : DeclaredNetwork) (row : Row) → (least_row network (row.port, row.class)).wait ≤ row.wait
    → short network row ≡ None
by_long network row h =
    let least : ℕ = least_wait (port_at network.topology.ports row.port) (port_sums network row.port row.class) in
    by_fail (nat_lt row.wait least) (WaitTooSmall row.port row.class least) (le-ltb row.wait least h)

pub enough_from : (network : DeclaredNetwork) (row : Row) → IsPlace network row.port row.class → IsRight network row
    → FitsLink row
    → (least_row network (row.port, row.class)).wait ≤ row.wait → IsEnough (port_at network.topology.ports row.port) row
enough_from network row at right fits long =
    let port : Port = port_at network.topology.ports row.port in
    let sums : PortSums = port_sums network row.port row.class in
    let c = least_wait-is network row.port row.class at (place_fits network row right fits) in
    let more : least_wait port sums * (PS_PER_SECOND - sums.higher) ≤ row.wait * (PS_PER_SECOND - sums.higher) =
    mul-le-mul_right (PS_PER_SECOND - sums.higher) long in
    let sent = work-is network row right.sums in
    let left : row.wait * (PS_PER_SECOND - row.higher) ≡ row.wait * (PS_PER_SECOND - sums.higher) =
    ap (λ (n : ℕ). row.wait * (PS_PER_SECOND - n)) right.sums.higher in
    let reach : work port sums ≤ least_wait port sums * (PS_PER_SECOND - sums.higher) = c.reaches in
    omega (arith, reach, more, sent, left)

-- a reason of the network, as a refusal
pub no_reason : (reason : Option Reason) → of_network reason ≡ None → reason ≡ None
no_reason None h = refl
no_reason (Some reason) h = absurd (some_none (Network reason) h)

-- what no refusal says of rows, clause by clause
pub record AreClear (network : DeclaredNetwork) (rows : List Row) : Type 0 where
  pub missing : first_some (missing rows) (places_of network) ≡ None
  pub stray : first_some (stray network) rows ≡ None
  pub wrong : first_some (wrong_in network) rows ≡ None
  pub overload : first_some overload_in rows ≡ None
  pub short : first_some (short network) rows ≡ None
  pub overstay : first_some (overstay network) rows ≡ None
  pub late : first_some (late network.topology rows) network.streams ≡ None

pub clear_none : (network : DeclaredNetwork) (rows : List Row) → AreClear network rows → refusal_of network rows ≡ None
clear_none network rows clear =
    both_none _ _ clear.missing (both_none _ _ clear.stray (both_none _ _ clear.wrong
    (both_none _ _ (ap of_network clear.overload) (both_none _ _ clear.short
    (both_none _ _ (ap of_network clear.overstay) (ap of_network clear.late))))))

pub none_clear : (network : DeclaredNetwork) (rows : List Row) → refusal_of network rows ≡ None → AreClear network rows
none_clear network rows none =
    let a = option_or-none (first_some (missing rows) (places_of network)) _ none in
    let b = option_or-none (first_some (stray network) rows) _ a.1 in
    let c = option_or-none (first_some (wrong_in network) rows) _ b.1 in
    let d = option_or-none (of_network (first_some overload_in rows)) _ c.1 in
    let e = option_or-none (first_some (short network) rows) _ d.1 in
    let f = option_or-none (of_network (first_some (overstay network) rows)) _ e.1 in
    record {
      missing = a.0;
      stray = b.0;
      wrong = c.0;
      overload = no_reason (first_some overload_in rows) d.0;
      short = e.0;
      overstay = no_reason (first_some (overstay network) rows) f.0;
      late = no_reason (first_some (late network.topology rows) network.streams) f.1;
    }

-- where no row is stray, each is used
pub all_used : (network : DeclaredNetwork) (rows : List Row) → first_some (stray network) rows ≡ None
    → All (λ (row : Row). is_used network row.port row.class ≡ true) rows
all_used network rows none =
    let all = none_first (stray network) rows none in
    λ k d h. passes (is_used network (get_or rows k d).port (get_or rows k d).class)
    (RowStray (get_or rows k d).port (get_or rows k d).class) (all k d h)

pub clear_holds : (network : DeclaredNetwork) (rows : List Row) → IsNetwork network → AllPairs IsBefore rows
    → AreClear network rows → Holds network rows
clear_holds network rows is ordered clear =
    let used = all_used network rows clear.stray in
    let right = none_first (wrong_in network) rows clear.wrong in
    let fit = none_first overload_in rows clear.overload in
    let long = none_first (short network) rows clear.short in
    let stay = none_first (overstay network) rows clear.overstay in
    let time = none_first (late network.topology rows) network.streams clear.late in
    record {
      rows_of = record { complete = complete_from network rows is clear.missing; used = used; ordered = ordered };
      each = λ k d h. (
          let row : Row = get_or rows k d in
          let rights : IsRight network row = right_from network row (right k d h) in
          let fits : FitsLink row = fits_from row (fit k d h) in
          record {
            covers = record {
              sums = rights.sums;
              bound = rights.bound;
              load = fits;
              wait = enough_from network row (is_place network row.port row.class is (used k d h)) rights fits
                  (long_from network row (long k d h));
            };
            residence = stays_by row (row_need network row) (residence_after network.topology row.port) (stay k d h);
          });
      deadlines = λ k d h. in_time_from network.topology rows (get_or network.streams k d) (time k d h);
    }

pub holds_clear : (network : DeclaredNetwork) (rows : List Row) → IsNetwork network → Holds network rows
    → AreClear network rows
holds_clear network rows is holds =
    record {
      missing = none_missing network rows holds.rows_of.complete;
      stray = first_some-none (stray network) rows
          (λ k d h. (let row : Row = get_or rows k d in
          by_pass (is_used network row.port row.class) (RowStray row.port row.class) (holds.rows_of.used k d h)));
      wrong = first_some-none (wrong_in network) rows
          (λ k d h. (let covers = (holds.each k d h).covers in
          by_right network (get_or rows k d) (record { sums = covers.sums; bound = covers.bound })));
      overload = first_some-none overload_in rows (λ k d h. by_fits (get_or rows k d) (holds.each k d h).covers.load);
      short = first_some-none (short network) rows
          (λ k d h. (let row : Row = get_or rows k d in
          by_long network row (least_wait-le network row
          (is_place network row.port row.class is (holds.rows_of.used k d h)) (holds.each k d h).covers)));
      overstay = first_some-none (overstay network) rows
          (λ k d h. (let row : Row = get_or rows k d in
          by_stay row (row_need network row) (residence_after network.topology row.port) (holds.each k d h).residence));
      late = first_some-none (late network.topology rows) network.streams
          (λ k d h. by_time network.topology rows (get_or network.streams k d) (holds.deadlines k d h));
    }

pub refused_unless_holding : RefusedUnlessHolding
refused_unless_holding network rows is ordered = (
  λ none. clear_holds network rows is ordered (none_clear network rows none),
  λ holds. clear_none network rows (holds_clear network rows is holds),
)

pub least_is_accepted : LeastIsAccepted
least_is_accepted network is none =
    clear_none network (least_certificate network)
    (holds_clear network (least_certificate network) is (least_certificate_holds network is none).holds)
