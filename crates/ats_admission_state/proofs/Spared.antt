-- Spares of routes, where bounds become others, and where routes come and go.
use Rattle.std.proofs.Common.{◌≡◌, ◌≢◌, ℕ, ◌+◌, ◌-◌, ◌/◌, ◌%◌, ◌<◌, ◌≤◌, true, false, List, [], ◌∷◌, ◌++◌}
use Rattle.std.proofs.Common.{length, get_or, take, drop, set, sum_by, Option, refl, sym, ap, subst, ◌∙◌, ◌⊎◌, inl}
use Rattle.std.proofs.Common.{inr, eqb, arith}
use Rattle.std.specs.Prelude.{unwrap_or}
use Rattle.std.specs.List.{All, AllPairs, list_any, remove}
use Rattle.std.proofs.lemmas.Bool.{cases_Bool, cases_eq, cases_lt, eq-eqb, eqb-true, le-ltb, or_cases, true≢false}
use Rattle.std.proofs.lemmas.List.{get_or-map, get_or-set_other, get_or-set_same, get_or_default}
use Rattle.std.proofs.lemmas.List.{length-map, length-set, take-append-le, take_all}
use Rattle.std.proofs.lemmas.Option.{unwrap_or-slice_get}
use Rattle.std.proofs.lemmas.List.Edits.{get_or-remove_above, get_or-remove_below, length-remove}
use Rattle.std.proofs.lemmas.List.Elements.{All-head, All-tail, All-weaker}
use Rattle.std.proofs.lemmas.List.Folds.{list_any_at, list_any_more, list_any_none}
use Rattle.std.proofs.lemmas.List.Sums.{sum_by-cons}
use Rattle.ats_facts.proofs.Lists.{pairs_head, pairs_tail}
use Rattle.ats_class_table.specs.Table.{AreValuesAt, Table, value_at}
use Rattle.ats_streams.proofs.RouteLemmas.{each_on_routes}
use Rattle.ats_admission_users.specs.Users.{ListsPaths, UsersState, has_port, users_of}
use Rattle.ats_admission_state.specs.Judging.{KeepsOthers}
use Rattle.ats_admission_state.specs.Routes.{RouteState, bound_of, is_late, is_over, no_route, ports_along, route_paths}
use Rattle.ats_admission_state.specs.Routes.{sum_along, ways_of}
use Rattle.ats_admission_state.specs.Spares.{AreApart, AreLowered, AreSpares, AreUsers, IsSpare}
use Rattle.ats_admission_state.specs.Spares.{KeepSpares, RiseBy}
use Rattle.ats_admission_state.proofs.Hops.{path_of}
use Rattle.ats_admission_state.proofs.Users.{is_listed}

-- a route whose spare says something is not late
pub not_late : (bounds : Table ℕ) (route : RouteState) (spare : ℕ) → IsSpare bounds route spare → 0 < spare
    → is_late bounds route ≡ false
not_late bounds route spare is some =
    list_any_none (is_over bounds route) (ways_of route)
    (λ k d h. le-ltb route.deadline (sum_by (bound_of bounds) (get_or (ways_of route) k d))
    (let below = is some k d h in omega (arith, below, some)))

-- where the sum for each listener is below the deadline by so much, that is a spare
pub all_below : (bounds : Table ℕ) (route : RouteState) (leg spare : ℕ)
    → ((k : ℕ) → k < leg → sum_along bounds route k + spare ≤ route.deadline + 1) → length (ways_of route) ≤ leg
    → IsSpare bounds route spare
all_below bounds route leg spare below past some k d h =
    subst (λ (way : List ℕ). sum_by (bound_of bounds) way + spare ≤ route.deadline + 1)
    (get_or_default (ways_of route) k [] d h) (below k (omega (arith, h, past)))

module _ (port rise : ℕ) (old new : Table ℕ) (keeps : KeepsOthers port old new) (rises : RiseBy rise port old new) where
  -- a place at another port keeps its bound
  same_at : (place : ℕ) → place / 8 ≢ port → bound_of new place ≡ bound_of old place
  same_at place other = ap (λ (o : Option ℕ). unwrap_or o 0) (keeps.others (place / 8) (place % 8) other)

  -- at this one it is greater by so much at most
  most_at : (place : ℕ) → place / 8 ≡ port → bound_of new place ≤ bound_of old place + rise
  most_at place same =
      subst (λ (p : ℕ). unwrap_or (value_at new p (place % 8)) 0 ≤ unwrap_or (value_at old p (place % 8)) 0 + rise)
      (sym same) (rises (place % 8) (omega arith))

  -- a way that has no place at the port has the same sum
  same_along : (way : List ℕ) → All (λ place. place / 8 ≢ port) way
      → sum_by (bound_of new) way ≡ sum_by (bound_of old) way
  same_along [] off = refl
  same_along (place ∷ way) off =
      omega (
        arith,
        same_at place (All-head (λ q. q / 8 ≢ port) place way off),
        same_along way (All-tail (λ q. q / 8 ≢ port) place way off),
        sum_by-cons (bound_of new) place way,
        sum_by-cons (bound_of old) place way,
      )

  -- one that has no two places at a port has a sum that is greater by so much at most
  most_along : (way : List ℕ) → AllPairs (λ p q. p / 8 ≢ q / 8) way
      → sum_by (bound_of new) way ≤ sum_by (bound_of old) way + rise
  most_along [] apart = omega arith
  most_along (place ∷ way) apart =
      elim (cases_eq (place / 8) port) as (λ _.
      sum_by (bound_of new) (place ∷ way) ≤ sum_by (bound_of old) (place ∷ way) + rise) [
        | inl same ↦ omega (
          arith,
          most_at place same,
          same_along way (All-weaker (λ q. place / 8 ≢ q / 8) (λ q. q / 8 ≢ port)
              (λ q other e. other (same ∙ sym e)) way
              (pairs_head (λ p q. p / 8 ≢ q / 8) place way apart)),
          sum_by-cons (bound_of new) place way,
          sum_by-cons (bound_of old) place way,
        )
        | inr other ↦ omega (
          arith,
          same_at place other,
          most_along way (pairs_tail (λ p q. p / 8 ≢ q / 8) place way apart),
          sum_by-cons (bound_of new) place way,
          sum_by-cons (bound_of old) place way,
        )
      ]

  -- a route without the port has no place there
  off_port : (route : RouteState) → has_port port (ports_along route) ≡ false
      → All (λ place. place / 8 ≢ port) route.places
  off_port route off k d h = λ same.
      true≢false (sym (list_any_at (λ p. eqb p port) (ports_along route) k (d / 8)
      (omega (arith, h, length-map route.places (λ (place : ℕ). place / 8)))
      (eq-eqb (get_or (ports_along route) k (d / 8)) port
      (get_or-map (λ (place : ℕ). place / 8) route.places k d (d / 8) h ∙ same))) ∙ off)

  -- a spare that was lowered by so much, where the route has the port, is a spare by the new bounds
  lowered : (route : RouteState) (before after : ℕ) → AreApart route → after ≤ before
      → (has_port port (ports_along route) ≡ true → 0 < after → after + rise ≤ before)
      → IsSpare old route before → IsSpare new route after
  lowered route before after apart most lower is some k d h =
      let way : List ℕ = get_or (ways_of route) k d in
      let below : sum_by (bound_of old) way + before ≤ route.deadline + 1 = is (omega (arith, most, some)) k d h in
      elim (cases_Bool (has_port port (ports_along route))) as (λ _.
      sum_by (bound_of new) way + after ≤ route.deadline + 1) [
        | inl on ↦ omega (arith, below, lower on some, most_along way (apart k d h))
        | inr off ↦ omega (
          arith,
          below,
          most,
          same_along way
              (each_on_routes (λ place. place / 8 ≢ port) route.places route.branches (off_port route off) k d h),
        )
      ]

-- where the spares of a port's users are lowered by what its bounds rose, spares are kept
pub keeps_lowered : (port rise : ℕ) (users : UsersState) (old new : Table ℕ) (before after : List ℕ)
    → KeepsOthers port old new → RiseBy rise port old new → AreUsers (length before) users
    → ((paths : List (List ℕ)) → ListsPaths (length users.lists) paths users
    → AreLowered (users_of paths port) rise before after)
    → KeepSpares users old new before after
keeps_lowered port rise users old new before after keeps rises some lowers = record {
  count = (lowers some.paths some.lists).count;
  each = λ routes are spared.
      let low : AreLowered (users_of (route_paths routes) port) rise before after =
      lowers (route_paths routes) are.lists in
      record {
        count = low.count ∙ spared.count;
        each = λ n within.
            lowered port rise old new keeps rises (get_or routes n no_route) (get_or before n 0) (get_or after n 0)
            (are.apart n no_route within) (low.most n)
            (λ on. low.lower n (is_listed port (route_paths routes) n (record {
              within = omega (arith, within, length-map routes ports_along);
              has = ap (has_port port) (path_of routes n within) ∙ on;
            })))
            (spared.each n within);
      };
}

-- how the bounds at a port rise over those that were read there
pub rises_over : (port rise : ℕ) (old new : Table ℕ) (before : List ℕ) → AreValuesAt old port before
    → ((class : ℕ) → class ≤ 7 → unwrap_or (value_at new port class) 0 ≤ get_or before class 0 + rise)
    → RiseBy rise port old new
rises_over port rise old new before values most class within =
    omega (
      arith,
      most class within,
      sym (unwrap_or-slice_get before class 0) ∙ ap (λ (o : Option ℕ). unwrap_or o 0) (values.each class within),
    )

-- spares that were written into a vector of as many are its items
pub written_back : (many : ℕ) (new old : List ℕ) → length new ≡ many → take many (new ++ drop (length new) old) ≡ new
written_back many new old same =
    take-append-le many new (drop (length new) old) (omega (arith, same)) ∙ take_all many new (omega (arith, same))

-- nothing is lowered by 0
pub lowered_none : (numbers xs : List ℕ) (rise : ℕ) → rise ≡ 0 → AreLowered numbers rise xs xs
lowered_none numbers xs rise none = record {
  count = refl;
  most = λ n. omega arith;
  lower = λ n listed some. omega (arith, none);
}

-- at first none is lowered
pub lowered_first : (numbers xs : List ℕ) (rise : ℕ) → AreLowered (take 0 numbers) rise xs xs
lowered_first numbers xs rise = record {
  count = refl;
  most = λ n. omega arith;
  lower = λ n listed some. absurd (true≢false (sym listed));
}

-- one number more
pub lowered_more : (numbers : List ℕ) (rank rise number : ℕ) (old now : List ℕ) → rank < length numbers
    → number ≡ get_or numbers rank 0 → number < length now → AreLowered (take rank numbers) rise old now
    → AreLowered (take (rank + 1) numbers) rise old (set now number (get_or now number 0 - rise))
lowered_more numbers rank rise number old now within is inside before = record {
  count = length-set now number (get_or now number 0 - rise) ∙ before.count;
  most = λ n. most n (cases_eq n number);
  lower = λ n listed some. lower n listed some (cases_eq n number);
}
  where
    next : List ℕ
    next = set now number (get_or now number 0 - rise)

    here : (n : ℕ) → n ≡ number → get_or next n 0 ≡ get_or now n 0 - rise
    here n same =
        ap (λ (k : ℕ). get_or next k 0) same ∙ get_or-set_same now number (get_or now number 0 - rise) 0 inside
        ∙ ap (λ (k : ℕ). get_or now k 0 - rise) (sym same)

    there : (n : ℕ) → n ≢ number → get_or next n 0 ≡ get_or now n 0
    there n other = get_or-set_other now number n (get_or now number 0 - rise) 0 other

    most : (n : ℕ) → (n ≡ number) ⊎ (n ≢ number) → get_or next n 0 ≤ get_or old n 0
    most n (inl same) = omega (arith, here n same, before.most n)
    most n (inr other) = omega (arith, there n other, before.most n)

    earlier : (n : ℕ) → n ≢ number
        → (list_any (λ q. eqb q n) (take rank numbers) ≡ true) ⊎ (eqb (get_or numbers rank 0) n ≡ true)
        → list_any (λ q. eqb q n) (take rank numbers) ≡ true
    earlier n other (inl listed) = listed
    earlier n other (inr same) = absurd (other (sym (is ∙ eqb-true (get_or numbers rank 0) n same)))

    lower : (n : ℕ) → list_any (λ q. eqb q n) (take (rank + 1) numbers) ≡ true → 0 < get_or next n 0
        → (n ≡ number) ⊎ (n ≢ number) → get_or next n 0 + rise ≤ get_or old n 0
    lower n listed some (inl same) = omega (arith, some, here n same, before.most n)
    lower n listed some (inr other) =
        omega (
          arith,
          there n other,
          before.lower n (earlier n other (or_cases (list_any (λ q. eqb q n) (take rank numbers))
              (eqb (get_or numbers rank 0) n) (sym (list_any_more (λ q. eqb q n) numbers rank 0 within) ∙ listed)))
              (omega (arith, some, there n other)),
        )

-- spares that are kept twice are kept
pub keeps_next : (users : UsersState) (a b c : Table ℕ) (xs ys zs : List ℕ) → KeepSpares users a b xs ys
    → KeepSpares users b c ys zs → KeepSpares users a c xs zs
keeps_next users a b c xs ys zs first second = record {
  count = second.count ∙ first.count;
  each = λ routes are spared. second.each routes are (first.each routes are spared);
}

module _ (bounds : Table ℕ) where
  -- a spare is known
  pub spare_set : (routes : List RouteState) (spares : List ℕ) (number spare : ℕ) → number < length routes
      → IsSpare bounds (get_or routes number no_route) spare → AreSpares bounds routes spares
      → AreSpares bounds routes (set spares number spare)
  spare_set routes spares number spare inside is before = record {
    count = length-set spares number spare ∙ before.count;
    each = λ n within. by n within (cases_eq n number);
  }
    where
      by : (n : ℕ) → n < length routes → (n ≡ number) ⊎ (n ≢ number)
          → IsSpare bounds (get_or routes n no_route) (get_or (set spares number spare) n 0)
      by n within (inl same) =
          subst (λ (k : ℕ). IsSpare bounds (get_or routes k no_route) (get_or (set spares number spare) k 0)) (sym same)
          (subst (IsSpare bounds (get_or routes number no_route))
          (sym (get_or-set_same spares number spare 0 (omega (arith, inside, before.count)))) is)
      by n within (inr other) =
          subst (IsSpare bounds (get_or routes n no_route)) (sym (get_or-set_other spares number n spare 0 other))
          (before.each n within)

  -- one route less
  pub spares_remove : (routes : List RouteState) (spares : List ℕ) (number : ℕ) → number < length routes
      → AreSpares bounds routes spares → AreSpares bounds (remove routes number) (remove spares number)
  spares_remove routes spares number inside before = record {
    count = omega (
      arith,
      length-remove spares number inside_spares,
      length-remove routes number inside,
      before.count,
    );
    each = λ n within. by n within (cases_lt n number);
  }
    where
      inside_spares : number < length spares
      inside_spares = omega (arith, inside, before.count)

      by : (n : ℕ) → n < length (remove routes number) → (n < number) ⊎ (number ≤ n)
          → IsSpare bounds (get_or (remove routes number) n no_route) (get_or (remove spares number) n 0)
      by n within (inl front) =
          subst (λ (r : RouteState). IsSpare bounds r (get_or (remove spares number) n 0))
          (sym (get_or-remove_below routes number no_route n front inside))
          (subst (IsSpare bounds (get_or routes n no_route))
          (sym (get_or-remove_below spares number 0 n front inside_spares))
          (before.each n (omega (arith, front, inside))))
      by n within (inr behind) =
          subst (λ (r : RouteState). IsSpare bounds r (get_or (remove spares number) n 0))
          (sym (get_or-remove_above routes number no_route n behind inside))
          (subst (IsSpare bounds (get_or routes (n + 1) no_route))
          (sym (get_or-remove_above spares number 0 n behind inside_spares))
          (before.each (n + 1) (omega (arith, within, length-remove routes number inside))))
