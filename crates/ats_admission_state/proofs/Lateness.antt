-- The late stream with the lowest number among those near the last one, found by routes.
use Rattle.std.proofs.Common.{◌≡◌, ℕ, ◌+◌, ◌*◌, ◌<◌, Bool, true, false, cond, List, []}
use Rattle.std.proofs.Common.{◌∷◌, ◌++◌, length, get_or}
use Rattle.std.proofs.Common.{Option, Some, None, Result, refl, sym, ap, subst, ◌∙◌, inl, inr, eqb, arith}
use Rattle.std.specs.Prelude.{nat_lt}
use Rattle.std.specs.List.{All, list_any}
use Rattle.std.specs.Option.{option_map}
use Rattle.std.proofs.lemmas.Bool.{cases_Bool, cases_order, le-ltb, lt-ltb, ltb-false, ltb-true, true≢false}
use Rattle.std.proofs.lemmas.List.{get_or_default}
use Rattle.std.proofs.lemmas.List.Elements.{All-nil}
use Rattle.std.proofs.lemmas.List.Folds.{list_any_at, list_any_none}
use Rattle.std.proofs.lemmas.List.Sums.{fold-append}
use Rattle.std.proofs.lemmas.Option.{none-some, same_Some}
use Rattle.ats_class_table.specs.Table.{Table}
use Rattle.ats_num.specs.Failure.{unless}
use Rattle.ats_num.specs.declared.time.TheConstants.{PS_PER_NS}
use Rattle.ats_streams.specs.Branches.{leg_at}
use Rattle.ats_streams.specs.Stream.{DeclaredStream}
use Rattle.ats_network.specs.Edits.{no_stream}
use Rattle.ats_network.specs.Network.{DeclaredNetwork, IsNetwork}
use Rattle.ats_certificate.specs.Certificate.{IsInTime, MeetsDeadline, bound_on}
use Rattle.ats_tally.specs.Reason.{first_some, late, overstay}
use Rattle.ats_tally.specs.declared.reason.Reason.{Reason}
use Rattle.ats_bound.specs.Least.{least_certificate}
use Rattle.ats_bound.specs.Reason.{overload, reason_of}
use Rattle.ats_tally.proofs.Lists.{none_first}
use Rattle.ats_tally.proofs.Reasons.{by_time, in_time_from}
use Rattle.ats_facts.proofs.Options.{option_or-none}
use Rattle.ats_certificate.specs.Used.{places_of}
use Rattle.ats_admission_law.proofs.Others.{other_times_stay}
use Rattle.ats_admission_law.specs.Lowest.{lower_of}
use Rattle.ats_admission_law.specs.Near.{IsNear, found_there, late_at, late_near, lowest_late, shares}
use Rattle.ats_admission_law.proofs.Lowest.{IsBest, best_along, of_one}
use Rattle.ats_admission_law.proofs.Near.{near_finds_late}
use Rattle.ats_admission_shares.specs.PortShares.{stream_at, stream_paths, without_at}
use Rattle.ats_admission_users.specs.Users.{has_port}
use Rattle.ats_admission_state.specs.Judging.{FindsFirstLate, meets}
use Rattle.ats_admission_state.specs.Judged.{sum_at}
use Rattle.ats_admission_state.specs.Kept.{AreLeast}
use Rattle.ats_admission_state.specs.Routes.{AreBounded, RouteState, is_late, is_over, no_route, places_along, route_of}
use Rattle.ats_admission_state.specs.Routes.{routes_of, sum_along, ways_of}
use Rattle.ats_admission_state.proofs.Last.{less_by, other_at, others-length}
use Rattle.ats_admission_state.proofs.Bounds.{route_ports}
use Rattle.ats_admission_state.proofs.Near.{along}
use Rattle.ats_admission_state.proofs.Nearby.{all_lower, all_near, each_route, in_numbers, near_are}
use Rattle.ats_admission_state.proofs.Nearby.{route_is, routes-length}
use Rattle.ats_admission_state.proofs.Routed.{bounded_at, sum_is}
use Rattle.ats_admission_state.proofs.Ways.{routes_to, ways_many}

abbrev number_of : Option (ℕ × Reason) → Option ℕ
number_of best = option_map (λ (b : ℕ × Reason). b.0) best

-- what is found behind some best, where nothing was
first_found : (n : ℕ) (o : Option Reason) → found_there (lower_of None n o) ≡ o
first_found n None = refl
first_found n (Some reason) = refl

-- a best of a lower number stays
lower_stays : (best : ℕ × Reason) (n : ℕ) (o : Option Reason) → best.0 < n → lower_of (Some best) n o ≡ Some best
lower_stays best n None less = refl
lower_stays best n (Some reason) less = by (nat_lt n best.0) refl
  where
    by : (b : Bool) → nat_lt n best.0 ≡ b → cond b (Some (n, reason)) (Some best) ≡ Some best
    by true lower = absurd (let under = ltb-true n best.0 lower in omega (arith, under, less))
    by false not_lower = refl

-- where no element passes, one does not
none_at : (test : List ℕ → Bool) (lists : List (List ℕ)) (k : ℕ) (d : List ℕ) → k < length lists
    → list_any test lists ≡ false → test (get_or lists k d) ≡ false
none_at test lists k d within none = by (test (get_or lists k d)) refl
  where
    by : (b : Bool) → test (get_or lists k d) ≡ b → b ≡ false
    by true over = absurd (true≢false (sym (list_any_at test lists k d within over) ∙ none))
    by false not_over = refl

module _ (network : DeclaredNetwork) (n : ℕ) (last : n + 1 ≡ length network.streams) (rules : IsNetwork network)
    (bounds : Table ℕ) (least : AreLeast network bounds) where
  abbrev x : DeclaredStream
  x = stream_at network n

  abbrev less : DeclaredNetwork
  less = without_at network n

  abbrev routes : List RouteState
  routes = routes_of (without_at network n)

  abbrev numbers : List ℕ
  numbers = along (stream_paths (without_at network n)) (stream_at network n).ports

  -- the places of the routes of the other streams have bounds of few digits
  pub routes_bounded : All (AreBounded bounds) routes
  routes_bounded = each_route network n last rules (AreBounded bounds) (bounded_at network rules bounds least)

  ways-length : (s : DeclaredStream) → length (ways_of (route_of s)) ≡ length (routes_to s.ports s.branches)
  ways-length s =
      ways_many (places_along s.ports s.classes) s.branches ∙ sym (ways_many s.ports s.branches)

  -- where no sum along a route is over the deadline, a stream is in time
  time_from : (m : ℕ) → m < length network.streams → is_late bounds (route_of (stream_at network m)) ≡ false
      → IsInTime (least_certificate network) (stream_at network m)
  time_from m within early k d h =
      let s : DeclaredStream = stream_at network m in
      let route : RouteState = route_of s in
      let ways : List (List ℕ) = ways_of route in
      let there : k < length ways = omega (arith, h, ways-length s) in
      let not_over : is_over bounds route (get_or ways k []) ≡ false =
      none_at (is_over bounds route) ways k [] there early in
      subst (λ (r : List ℕ). MeetsDeadline s (bound_on (least_certificate network) s r))
      (get_or_default (routes_to s.ports s.branches) k [] d h)
      (omega (
        arith,
        ltb-false (PS_PER_NS * s.deadline_ns) (sum_along bounds route k) not_over,
        sum_is network rules bounds least m k within,
      ))

  -- and where it is in time, none is
  early_from : (m : ℕ) → m < length network.streams → IsInTime (least_certificate network) (stream_at network m)
      → is_late bounds (route_of (stream_at network m)) ≡ false
  early_from m within time =
      let s : DeclaredStream = stream_at network m in
      let route : RouteState = route_of s in
      let ways : List (List ℕ) = ways_of route in
      list_any_none (is_over bounds route) ways (λ k d h.
      subst (λ (way : List ℕ). is_over bounds route way ≡ false) (get_or_default ways k [] d h)
      (le-ltb (PS_PER_NS * s.deadline_ns) (sum_along bounds route k)
      (let met : MeetsDeadline s (bound_on (least_certificate network) s (leg_at (routes_to s.ports s.branches) k)) =
      time k [] (omega (arith, h, ways-length s)) in
      omega (arith, met, sum_is network rules bounds least m k within))))

  abbrev step : Option (ℕ × Reason) → ℕ → Option (ℕ × Reason)
  step best m = lower_of best m (late_at network m)

  abbrev best : Option (ℕ × Reason)
  best = lowest_late network numbers

  best_is : IsBest (late_at network) numbers best
  best_is = best_along (late_at network) None [] numbers (All-nil (λ m. late_at network m ≡ None))

  -- a stream that is near the last one has a route that meets its path
  met_is : (m : ℕ) → m < n → shares x (stream_at network m) ≡ true → meets x.ports (get_or routes m no_route) ≡ true
  met_is m within shared =
      ap (λ (r : RouteState). meets x.ports r) (route_is network n last rules m within)
      ∙ ap (λ (ports : List ℕ). list_any (λ port. has_port port x.ports) ports)
      (route_ports (stream_at network m) (rules.streams m no_stream (omega (arith, within, last))))
      ∙ shared

  -- so has each that may be found
  found_met : (m : ℕ) → m < n → list_any (λ q. eqb q m) numbers ≡ true → meets x.ports (get_or routes m no_route) ≡ true
  found_met m within listed =
      met_is m within (of_one (λ k. IsNear network x k) numbers m (all_near network n last rules) listed).shares

  route_here : (m : ℕ) → m < n → is_late bounds (get_or routes m no_route)
      ≡ is_late bounds (route_of (stream_at network m))
  route_here m within = ap (is_late bounds) (route_is network n last rules m within)

  -- whether a stream is late, as its route tells
  late_false : (m : ℕ) → m < n → is_late bounds (get_or routes m no_route) ≡ false → late_at network m ≡ None
  late_false m within in_time =
      by_time network.topology (least_certificate network) (stream_at network m)
      (time_from m (omega (arith, within, last)) (sym (route_here m within) ∙ in_time))

  late_true : (m : ℕ) → m < n → is_late bounds (get_or routes m no_route) ≡ true → (reason : Reason)
      × (late_at network m ≡ Some reason)
  late_true m within late = by (late_at network m) refl
    where
      by : (o : Option Reason) → late_at network m ≡ o → (reason : Reason) × (late_at network m ≡ Some reason)
      by None none =
          absurd (true≢false (sym late ∙ route_here m within
          ∙ early_from m (omega (arith, within, last))
          (in_time_from network.topology (least_certificate network) (stream_at network m) none)))
      by (Some reason) some = (reason, some)

  -- where a certificate holds without the last stream, one that is not near it is not late
  module _ (free : reason_of less ≡ None) where
    quiet_far : (m : ℕ) → m < n → shares x (stream_at network m) ≡ false → late_at network m ≡ None
    quiet_far m within apart =
        let s : DeclaredStream = stream_at network m in
        let first = option_or-none (first_some (overload less) (places_of less)) _ free in
        let second = option_or-none (first_some (overstay less) (least_certificate less)) _ first.1 in
        let inside : m < length less.streams = omega (arith, within, others-length network n last) in
        let early : late network.topology (least_certificate less) (stream_at less m) ≡ None =
        none_first (late network.topology (least_certificate less)) less.streams second.1 m no_stream inside in
        let time : IsInTime (least_certificate less) s =
        in_time_from network.topology (least_certificate less) s
        (ap (late network.topology (least_certificate less)) (other_at network n last m within) ∙ early) in
        by_time network.topology (least_certificate network) s
        (other_times_stay network less x s (less_by network n (omega (arith, last))) rules apart time)

    -- so a first late one is the lowest late one near it
    is_found_best : (m : ℕ) → FindsFirstLate bounds routes x.ports (Some m) → number_of best ≡ Some m
    is_found_best m first = by best best_is
      where
        within : m < n
        within = omega (arith, (first.late m refl).within, routes-length network n last rules)

        late : (reason : Reason) × (late_at network m ≡ Some reason)
        late = late_true m within (first.late m refl).late

        near : IsNear network x m
        near = elim (cases_Bool (shares x (stream_at network m))) as (λ _. IsNear network x m) [
          | inl shared ↦ record { within = omega (arith, within, last); shares = shared }
          | inr apart ↦ absurd (none-some late.0 (sym (quiet_far m within apart) ∙ late.1))
        ]

        by : (o : Option (ℕ × Reason)) → IsBest (late_at network) numbers o → number_of o ≡ Some m
        by None none =
            absurd (none-some late.0
            (sym (of_one (λ k. late_at network k ≡ None) numbers m none
            (in_numbers network n last rules m within near)) ∙ late.1))
        by (Some found) is =
            let lower : found.0 < n = of_one (λ k. k < n) numbers found.0 (all_lower network n last rules) is.inside in
            elim (cases_order found.0 m) as (λ _. number_of (Some found) ≡ Some m) [
              | inl same ↦ ap (λ (k : ℕ). let o : Option ℕ = Some k in o) same
              | inr other ↦ elim other as (λ _. number_of (Some found) ≡ Some m) [
                | inl under ↦ absurd (none-some found.1
                    (sym (late_false found.0 lower (first.none_before found.0
                    (omega (arith, lower, routes-length network n last rules)) (lt-ltb found.0 m under)
                    (found_met found.0 lower is.inside))) ∙ is.is))
                | inr more ↦ absurd (none-some late.0
                    (sym (of_one (λ k. k < found.0 → late_at network k ≡ None) numbers m is.least
                    (in_numbers network n last rules m within near) more) ∙ late.1))
              ]
            ]

    none_best : FindsFirstLate bounds routes x.ports None → number_of best ≡ None
    none_best first = by best best_is
      where
        by : (o : Option (ℕ × Reason)) → IsBest (late_at network) numbers o → number_of o ≡ None
        by None is = refl
        by (Some found) is =
            let lower : found.0 < n = of_one (λ k. k < n) numbers found.0 (all_lower network n last rules) is.inside in
            absurd (none-some found.1
            (sym (late_false found.0 lower
            (first.none_before found.0 (omega (arith, lower, routes-length network n last rules)) refl
            (found_met found.0 lower is.inside))) ∙ is.is))

    first_is : (o : Option ℕ) → FindsFirstLate bounds routes x.ports o → o ≡ number_of best
    first_is None none = sym (none_best none)
    first_is (Some m) first = sym (is_found_best m first)

    -- what is found, as it is read
    read : (rs : List RouteState) (path : List ℕ) (o : Option ℕ) → rs ≡ routes → path ≡ x.ports
        → FindsFirstLate bounds rs path o → o ≡ number_of best
    read rs path o routes_are path_are is =
        first_is o (subst (λ (p : List ℕ). FindsFirstLate bounds routes p o) path_are
        (subst (λ (t : List RouteState). FindsFirstLate bounds t path o) routes_are is))

  near_is : late_near network x ≡ found_there (lower_of best n (late_at network n))
  near_is =
      near_finds_late network x (numbers ++ n ∷ []) (near_are network n last rules)
      ∙ ap found_there (fold-append step None numbers (n ∷ []))

  -- a late stream was found among the others
  pub record IsLate (m : ℕ) : Type 0 where
    pub within : m < n
    pub reason : Reason
    pub late : late_at network m ≡ Some reason
    pub near : late_near network x ≡ Some reason

  pub is_found : (m : ℕ) (rs : List RouteState) (path : List ℕ) (o : Option ℕ) → reason_of less ≡ None
      → rs ≡ routes → path ≡ x.ports → FindsFirstLate bounds rs path o → o ≡ Some m → IsLate m
  is_found m rs path o free routes_are path_are is some =
      by best best_is refl (sym (read free rs path o routes_are path_are is) ∙ some)
    where
      by : (o : Option (ℕ × Reason)) → IsBest (late_at network) numbers o → best ≡ o → number_of o ≡ Some m
          → IsLate m
      by None is e none = absurd (none-some m none)
      by (Some found) is e some =
          let same : found.0 ≡ m = same_Some found.0 m some in
          let within : found.0 < n = of_one (λ k. k < n) numbers found.0 (all_lower network n last rules) is.inside in
          record {
            within = omega (arith, within, same);
            reason = found.1;
            late = sym (ap (late_at network) same) ∙ is.is;
            near = near_is
                ∙ ap (λ (o : Option (ℕ × Reason)). found_there (lower_of o n (late_at network n))) e
                ∙ ap found_there (lower_stays found n (late_at network n) within);
          }

  -- none was
  pub none_found : (rs : List RouteState) (path : List ℕ) (o : Option ℕ) → reason_of less ≡ None → rs ≡ routes
      → path ≡ x.ports → FindsFirstLate bounds rs path o → o ≡ None → late_near network x ≡ late_at network n
  none_found rs path o free routes_are path_are is none =
      by best refl (sym (read free rs path o routes_are path_are is) ∙ none)
    where
      by : (o : Option (ℕ × Reason)) → best ≡ o → number_of o ≡ None → late_near network x ≡ late_at network n
      by None e none =
          near_is ∙ ap (λ (o : Option (ℕ × Reason)). found_there (lower_of o n (late_at network n))) e
          ∙ first_found n (late_at network n)
      by (Some found) e some = absurd (none-some found.0 (sym some))

  -- a route as it is read is that of the stream
  pub route_read : (m : ℕ) (rs : List RouteState) (route : RouteState) → m < n → rs ≡ routes
      → route ≡ get_or rs m route → route ≡ route_of (stream_at network m)
  route_read m rs route within routes_are is =
      is ∙ ap (λ (t : List RouteState). get_or t m route) routes_are
      ∙ get_or_default routes m route no_route (omega (arith, within, routes-length network n last rules))
      ∙ route_is network n last rules m within

  abbrev judged_by : Option Reason → ℕ → Result ℕ Reason
  judged_by late sum = unless (λ (reason : Reason). reason) late sum

  -- the judgement of a late stream that was found
  pub late_answer : (m : ℕ) → IsLate m
      → judged_by (late_at network m) (sum_at network m) ≡ judged_by (late_near network x) (sum_at network n)
  late_answer m late =
      ap (λ (o : Option Reason). judged_by o (sum_at network m)) late.late
      ∙ sym (ap (λ (o : Option Reason). judged_by o (sum_at network n)) late.near)

  -- that of the stream itself, where none was found
  pub own_answer : late_near network x ≡ late_at network n
      → judged_by (late_at network n) (sum_at network n) ≡ judged_by (late_near network x) (sum_at network n)
  own_answer near = sym (ap (λ (o : Option Reason). judged_by o (sum_at network n)) near)
