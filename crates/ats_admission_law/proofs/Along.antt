-- Where there was no reason, the first that a stream more brings is the first along its ports.
use Rattle.std.proofs.Common.{◌≡◌, ℕ, ◌<◌, ◌≤◌, Bool, true, false, cond, List, [], ◌∷◌, ◌++◌, length, map, filter}
use Rattle.std.proofs.Common.{get_or}
use Rattle.std.proofs.Common.{Option, None, refl, sym, ap, ◌∙◌, eqb, arith}
use Rattle.std.specs.Prelude.{◌||◌}
use Rattle.std.specs.List.{All, list_any}
use Rattle.std.specs.Option.{option_or}
use Rattle.std.proofs.lemmas.Bool.{true≢false, eq-eqb}
use Rattle.std.proofs.lemmas.List.Elements.{All-cons, All-append, All-head, All-tail}
use Rattle.ats_facts.proofs.Lists.{all_left, all_right}
use Rattle.ats_facts.proofs.Options.{option_or-none}
use Rattle.ats_streams.specs.Stream.{DeclaredStream, IsStream}
use Rattle.ats_streams.proofs.BranchLemmas.{some_port}
use Rattle.ats_network.specs.Network.{DeclaredNetwork, IsNetwork}
use Rattle.ats_network.specs.Residence.{residence_after}
use Rattle.ats_certificate.specs.PortSums.{PortSums, is_used}
use Rattle.ats_certificate.specs.Used.{places_of}
use Rattle.ats_certificate.specs.declared.row.Row.{Row}
use Rattle.ats_certificate.specs.Certificate.{need_behind}
use Rattle.ats_tally.specs.Reason.{first_some, overstay, row_need, late}
use Rattle.ats_tally.specs.declared.reason.Reason.{Reason}
use Rattle.ats_tally.proofs.Lists.{none_first}
use Rattle.ats_tally.proofs.Paths.{paths_inside}
use Rattle.ats_tally.proofs.Places.{places_used}
use Rattle.ats_tally.proofs.Reasons.{by_stay, by_time, in_time_from}
use Rattle.ats_bound.specs.Least.{least_row, least_certificate}
use Rattle.ats_bound.specs.Reason.{overload, reason_of}
use Rattle.ats_bound.proofs.FoundReason.{each_fits}
use Rattle.ats_bound.proofs.Reasons.{overload-none}
use Rattle.ats_bound.proofs.Waits.{Fits}
use Rattle.ats_admission_law.specs.Laws.{StaysSame, ReasonIsAlong, ReasonIsJudged}
use Rattle.ats_admission_law.specs.Lowest.{at_port_of, first_found, lowest_found}
use Rattle.ats_admission_law.specs.Near.{found_there, overstay_at, shares, streams_on, reason_along, late_near}
use Rattle.ats_admission_law.specs.Near.{reason_judged}
use Rattle.ats_admission_law.proofs.LeastRows.{may_stay}
use Rattle.ats_admission_law.proofs.Lists.{all_one}
use Rattle.ats_admission_law.proofs.Lowest.{path_finds_first}
use Rattle.ats_admission_law.proofs.Networks.{Parts, less, more, parts_of, by_parts, less_is}
use Rattle.ats_admission_law.proofs.Others.{stays_same, time_stays}

-- a search finds first what it finds among the elements that pass a test, where the others give nothing
pub first_among : {A B : Type 0} (given : A → Option B) (test : A → Bool) (xs : List A)
    → All (λ (x : A). test x ≡ false → given x ≡ None) xs → first_some given xs ≡ first_some given (filter test xs)
first_among given test [] all = refl
first_among {A} {B} given test (x ∷ xs) all =
    by (test x) (All-head (λ (y : A). test y ≡ false → given y ≡ None) x xs all)
    (first_among given test xs (All-tail (λ (y : A). test y ≡ false → given y ≡ None) x xs all))
  where
    by : (b : Bool) → (b ≡ false → given x ≡ None) → first_some given xs ≡ first_some given (filter test xs)
        → option_or (given x) (first_some given xs)
        ≡ first_some given (cond b (x ∷ filter test xs) (filter test xs))
    by true none rest = ap (λ (o : Option B). option_or (given x) o) rest
    by false none rest = ap (λ (o : Option B). option_or o (first_some given xs)) (none refl) ∙ rest

first_mapped : {A B C : Type 0} (given : B → Option C) (f : A → B) (xs : List A)
    → first_some given (map f xs) ≡ first_some (λ (x : A). given (f x)) xs
first_mapped given f [] = refl
first_mapped {A} {B} {C} given f (x ∷ xs) =
    ap (λ (o : Option C). option_or (given (f x)) o) (first_mapped given f xs)

-- some ports have a port of their own
own_port : (path : List ℕ) → 1 ≤ length path → list_any (λ port. list_any (λ q. eqb q port) path) path ≡ true
own_port [] some = absurd (omega arith)
own_port (port ∷ path) some =
    ap (λ (b : Bool). (b || list_any (λ q. eqb q port) path)
    || list_any (λ r. list_any (λ q. eqb q r) (port ∷ path)) path) (eq-eqb port port refl)

all_more : {X : Type 0} (P : X → Type 0) (xs : List X) (x : X) (ys : List X) → P x → All P (xs ++ ys)
    → All P (xs ++ x ∷ ys)
all_more P xs x ys here all =
    All-append P xs (x ∷ ys) (all_left P xs ys all) (All-cons P x ys here (all_right P xs ys all))

module _ (p : Parts) (x : DeclaredStream) (is : IsNetwork (more p x)) (none : reason_of (less p) ≡ None) where
  no_load : first_some (overload (less p)) (places_of (less p)) ≡ None
  no_load = (option_or-none (first_some (overload (less p)) (places_of (less p))) _ none).0

  no_stay : first_some (overstay (less p)) (least_certificate (less p)) ≡ None
  no_stay =
      let first = option_or-none (first_some (overload (less p)) (places_of (less p))) _ none in
      (option_or-none (first_some (overstay (less p)) (least_certificate (less p))) _ first.1).0

  no_late : first_some (late p.topology (least_certificate (less p))) (less p).streams ≡ None
  no_late =
      let first = option_or-none (first_some (overload (less p)) (places_of (less p))) _ none in
      (option_or-none (first_some (overstay (less p)) (least_certificate (less p))) _ first.1).1

  loads_along : first_some (overload (more p x)) (places_of (more p x))
      ≡ first_found (overload (more p x)) (more p x) x.ports
  loads_along = first_among (overload (more p x)) (at_port_of x.ports) (places_of (more p x)) (λ k d h off. (
      let at = get_or (places_of (more p x)) k d in
      let s : StaysSame (more p x) (less p) (at.0, at.1) = stays_same p x at.0 at.1 off in
      let used : is_used (less p) at.0 at.1 ≡ true = s.used ∙ places_used (more p x) k d h in
      let fits : Fits (less p) at.0 at.1 = each_fits (less p) (less_is p x is) no_load at.0 at.1 used in
      let higher = ap (λ (t : PortSums). t.higher) s.sums in
      let equal = ap (λ (t : PortSums). t.equal) s.sums in
      overload-none (more p x) at.0 at.1 (omega (arith, fits, higher, equal))))

  stays_along : first_some (overstay (more p x)) (least_certificate (more p x))
      ≡ first_found (overstay_at (more p x)) (more p x) x.ports
  stays_along =
      first_mapped (overstay (more p x)) (least_row (more p x)) (places_of (more p x))
      ∙ first_among (overstay_at (more p x)) (at_port_of x.ports) (places_of (more p x))
      (λ k d h off. (
      let at = get_or (places_of (more p x)) k d in
      let s : StaysSame (more p x) (less p) (at.0, at.1) = stays_same p x at.0 at.1 off in
      let used : is_used (less p) at.0 at.1 ≡ true = s.used ∙ places_used (more p x) k d h in
      let row : Row = least_row (more p x) at in
      by_stay row (row_need (more p x) row) (residence_after p.topology at.0)
      (λ ns residence. (
      let stay = may_stay (less p) at.0 at.1 (less_is p x is) no_stay used ns residence in
      let same = ap (λ (r : Row). need_behind (more p x) at.0 r.wait) s.row in
      omega (arith, stay, same)))))

  times_along : first_some (late p.topology (least_certificate (more p x))) (more p x).streams
      ≡ first_some (late p.topology (least_certificate (more p x))) (streams_on (more p x) x)
  times_along =
      let rows : List Row = least_certificate (more p x) in
      let before : List Row = least_certificate (less p) in
      let Quiet : DeclaredStream → Type 0 =
      λ (s : DeclaredStream). shares x s ≡ false → late p.topology rows s ≡ None in
      let rules : IsStream x = all_one IsStream p.front x p.back is.streams in
      first_among (late p.topology rows) (shares x) (more p x).streams
      (all_more Quiet p.front x p.back
      (λ apart. absurd (true≢false (sym (own_port x.ports (some_port x rules)) ∙ apart)))
      (λ k d h apart. (
      let s : DeclaredStream = get_or (less p).streams k d in
      by_time p.topology rows s (time_stays p x is s apart (in_time_from p.topology before s
      (none_first (late p.topology before) (less p).streams no_late k d h))))))

  pub reason_is : reason_of (more p x) ≡ reason_along (more p x) x
  reason_is =
      let stay : Option Reason = first_some (overstay (more p x)) (least_certificate (more p x)) in
      let time : Option Reason = first_some (late p.topology (least_certificate (more p x))) (more p x).streams in
      let load : Option Reason = first_found (overload (more p x)) (more p x) x.ports in
      let row : Option Reason = first_found (overstay_at (more p x)) (more p x) x.ports in
      ap (λ (o : Option Reason). option_or o (option_or stay time)) loads_along
      ∙ ap (λ (o : Option Reason). option_or load (option_or o time)) stays_along
      ∙ ap (λ (o : Option Reason). option_or load (option_or row o)) times_along

pub reason_is_along : ReasonIsAlong
reason_is_along old new x is =
    by_parts (λ (o n : DeclaredNetwork). IsNetwork o → reason_of n ≡ None → reason_of o ≡ reason_along o x) old new x
    is (λ rules none. reason_is (parts_of old new x is) x rules none)

-- the ports of one stream are ports of the network
path_inside : (p : Parts) (x : DeclaredStream) → IsNetwork (more p x)
    → All (λ port. port < length p.topology.ports) x.ports
path_inside p x is = all_one (λ (s : DeclaredStream). All (λ port. port < length p.topology.ports) s.ports) p.front x
    p.back (paths_inside (more p x) is)

pub reason_is_judged : ReasonIsJudged
reason_is_judged old new x is =
    by_parts (λ (o n : DeclaredNetwork). IsNetwork o → reason_of n ≡ None → reason_of o ≡ reason_judged o x) old new x
    is (λ rules none. judged (parts_of old new x is) rules none)
  where
    judged : (p : Parts) → IsNetwork (more p x) → reason_of (less p) ≡ None
        → reason_of (more p x) ≡ reason_judged (more p x) x
    judged p rules none =
        let network : DeclaredNetwork = more p x in
        let inside = path_inside p x rules in
        let stays : Option Reason = first_found (overstay_at network) network x.ports in
        let loads : Option Reason = found_there (lowest_found (overload network) network x.ports) in
        reason_is p x rules none
        ∙ ap (λ (o : Option Reason). option_or o (option_or stays (late_near network x)))
        (path_finds_first (overload network) network x.ports inside)
        ∙ ap (λ (o : Option Reason). option_or loads (option_or o (late_near network x)))
        (path_finds_first (overstay_at network) network x.ports inside)
