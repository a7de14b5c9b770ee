-- What is asked of a frame is asked of its way along each route.
use Rattle.std.proofs.Common.{◌≡◌, ℕ, zero, suc, ◌+◌, ◌<◌, List, [], ◌∷◌, length, get_or, refl, sym, ap, subst, ◌∙◌}
use Rattle.std.proofs.Common.{arith}
use Rattle.std.specs.Prelude.{◌↔◌}
use Rattle.std.specs.List.{AllZip}
use Rattle.std.proofs.lemmas.List.{length-map}
use Rattle.ats_streams.specs.Branches.{joined, leads_from, leg_at, with_leads}
use Rattle.ats_streams.specs.declared.branch.Branch.{Branch}
use Rattle.ats_streams.proofs.BranchLemmas.{routes-length}
use Rattle.ats_network.specs.Sender.{Sender, stream_sender}
use Rattle.ats_soundness_law.specs.Sound.{IsContainedOn, IsServedOn}
use Rattle.ats_route_law.proofs.Leads.{leads-many}
use Rattle.ats_trace.specs.Journey.{AreCopies, Leg, Travel, legs_in, no_leg}
use Rattle.ats_trace.specs.Ways.{listener_count, records_in, route_to, routes_by, way_to}
use Rattle.ats_trace.specs.HopRecord.{HopRecord}
use Rattle.ats_trace.proofs.OneVerdict.{copies_many, zip_at}
use Rattle.ats_checker.specs.InTime.{ArrivesInTimeOn}
use Rattle.ats_listener_law.specs.Ways.{EachWayIsInTime, EachWayIsServed, ended_as, ways_by}

-- what holds of the elements at each place of two lists that are as long holds of them one by one
zip_each : {A B : Type 0} (R : A → B → Type 0) (xs : List A) (ys : List B) (d : A) (e : B) → length xs ≡ length ys
    → ((n : ℕ) → n < length xs → R (get_or xs n d) (get_or ys n e)) → AllZip R xs ys
zip_each R [] [] d e same each = tt
zip_each R [] (y ∷ ys) d e same each = absurd (omega (arith, same))
zip_each R (x ∷ xs) [] d e same each = absurd (omega (arith, same))
zip_each R (x ∷ xs) (y ∷ ys) d e same each =
    (each 0 (omega arith), zip_each R xs ys d e (omega (arith, same)) (λ n below. each (suc n) (omega (arith, below))))

-- joined lists are as many as the first, where these are as many as the second
joined-many : {X : Type 0} (leads legs : List (List X)) → length leads ≡ length legs
    → length (joined leads legs) ≡ length leads
joined-many [] legs same = refl
joined-many (lead ∷ leads) [] same = absurd (omega (arith, same))
joined-many (lead ∷ leads) (leg ∷ legs) same = ap suc (joined-many leads legs (omega (arith, same)))

with_leads-many : {X : Type 0} (legs : List (List X)) (branches : List Branch) → length legs ≡ suc (length branches)
    → length (with_leads legs branches) ≡ suc (length branches)
with_leads-many legs branches many =
    let leads : length (leads_from legs ([] ∷ []) branches) ≡ 1 + length branches =
    leads-many legs ([] ∷ []) branches in
    joined-many (leads_from legs ([] ∷ []) branches) legs (omega (arith, leads, many)) ∙ (omega (arith, leads))

ended-many : (lists : List (List HopRecord)) (legs : List Leg) → length lists ≡ length legs
    → length (ended_as lists legs) ≡ length lists
ended-many [] legs same = refl
ended-many (hops ∷ lists) [] same = absurd (omega (arith, same))
ended-many (hops ∷ lists) (leg ∷ legs) same = ap suc (ended-many lists legs (omega (arith, same)))

-- the ways at each place
ended_at : (lists : List (List HopRecord)) (legs : List Leg) (n : ℕ) → n < length lists → length lists ≡ length legs
    → get_or (ended_as lists legs) n no_leg
    ≡ record { hops = leg_at lists n; ending = (get_or legs n no_leg).ending }
ended_at [] legs n within same = absurd (omega arith)
ended_at (hops ∷ lists) [] n within same = absurd (omega (arith, same))
ended_at (hops ∷ lists) (leg ∷ legs) zero within same = refl
ended_at (hops ∷ lists) (leg ∷ legs) (suc n) within same =
    ended_at lists legs n (omega (arith, within)) (omega (arith, same))

asked_of_each : (R : List ℕ → Leg → Type 0) (s : Sender) (j : Travel) → AreCopies s j
    → ((n : ℕ) → n < listener_count s → R (route_to s n) (way_to s j n)) ↔ AllZip R (routes_by s) (ways_by s j)
asked_of_each R s j copied = (
  λ each. zip_each R (routes_by s) (ways_by s j) [] no_leg as_many
      (λ n within. subst (R (route_to s n)) (sym (at n within)) (each n within)),
  λ all n within. subst (R (route_to s n)) (at n within)
      (zip_at R (routes_by s) (ways_by s j) n [] no_leg all within),
)
  where
    lists : List (List HopRecord)
    lists = with_leads (records_in j) s.branches

    copies : length j.copies ≡ length s.branches
    copies = copies_many s j copied

    records : length (records_in j) ≡ suc (length s.branches)
    records = length-map (legs_in j) (λ (leg : Leg). leg.hops) ∙ ap suc copies

    many : length lists ≡ suc (length s.branches)
    many = with_leads-many (records_in j) s.branches records

    same : length lists ≡ length (legs_in j)
    same = many ∙ ap suc (sym copies)

    routes : length (routes_by s) ≡ suc (length s.branches)
    routes = routes-length s.ports s.branches

    as_many : length (routes_by s) ≡ length (ways_by s j)
    as_many = routes ∙ sym many ∙ sym (ended-many lists (legs_in j) same)

    at : (n : ℕ) → n < length (routes_by s) → get_or (ways_by s j) n no_leg ≡ way_to s j n
    at n within = ended_at lists (legs_in j) n (omega (arith, within, routes, many)) same

pub each_way_is_served : EachWayIsServed
each_way_is_served rows s j copied = record {
  served = asked_of_each (IsServedOn rows s j.release) s j copied;
  contained = asked_of_each (IsContainedOn rows s) s j copied;
}

pub each_way_is_in_time : EachWayIsInTime
each_way_is_in_time rows stream j copied =
    asked_of_each (λ route way. ArrivesInTimeOn rows stream j.release route way.ending) (stream_sender stream) j copied
