-- A port that a stream does not use is the same with it and without it.
use Rattle.std.proofs.Common.{◌≡◌, ℕ, Bool, true, false, List, ◌∷◌, [], get_or, map, sum_by, sym, ap, ◌∙◌, refl, inl}
use Rattle.std.proofs.Common.{inr}
use Rattle.std.proofs.Common.{arith}
use Rattle.std.specs.Prelude.{◌||◌}
use Rattle.std.specs.List.{All, list_any}
use Rattle.std.proofs.lemmas.Bool.{cases_Bool}
use Rattle.std.proofs.lemmas.List.Elements.{All-nil, All-cons, All-head, All-tail}
use Rattle.std.proofs.lemmas.List.Sums.{sum_by-cons}
use Rattle.ats_topology.specs.Port.{port_at}
use Rattle.ats_topology.specs.declared.port.Port.{Port}
use Rattle.ats_streams.specs.Branches.{routes_of}
use Rattle.ats_streams.specs.Stream.{DeclaredStream}
use Rattle.ats_streams.proofs.RouteLemmas.{each_on_routes}
use Rattle.ats_network.specs.Sender.{Sender, stream_sender}
use Rattle.ats_network.specs.Class.{PortSender, class_at}
use Rattle.ats_network.specs.Network.{DeclaredNetwork, IsNetwork, senders_of}
use Rattle.ats_certificate.specs.PortSums.{PortSums, uses, is_of, senders_at, sums_over, port_sums, is_used}
use Rattle.ats_certificate.specs.Certificate.{IsInTime, bound_at, bound_of_hop, bound_on, sums_of}
use Rattle.ats_tally.specs.Waits.{least_wait}
use Rattle.ats_bound.specs.Least.{row_with, least_certificate}
use Rattle.ats_admission_law.specs.Less.{IsLessBy}
use Rattle.ats_admission_law.specs.Laws.{StaysSame, OtherPortsStay, OtherSumsStay}
use Rattle.ats_admission_law.specs.Near.{shares}
use Rattle.ats_admission_law.proofs.LeastRows.{bound_used, bound_unused}
use Rattle.ats_admission_law.proofs.Networks.{Parts, less, more, behind, senders_less, senders_more, parts_of, by_parts}
use Rattle.ats_admission_law.proofs.Networks.{less_is}
use Rattle.ats_tally.proofs.SeenLemmas.{at_same}
use Rattle.ats_admission_law.proofs.PortFalls.{streams_less, streams_more}

-- where no element passes, each fails
pub none_pass : {X : Type 0} (test : X → Bool) (xs : List X) → list_any test xs ≡ false
    → All (λ (x : X). test x ≡ false) xs
none_pass {X} test [] none = All-nil (λ (x : X). test x ≡ false)
none_pass {X} test (x ∷ xs) none =
    let both = parts (test x) (list_any test xs) none in
    All-cons (λ (y : X). test y ≡ false) x xs both.0 (none_pass test xs both.1)
  where
    parts : (a b : Bool) → (a || b) ≡ false → (a ≡ false) × (b ≡ false)
    parts true b h = absurd (let no : true ≡ false = h in cc)
    parts false b h = (refl, h)

-- sums of amounts that are the same
sum_same : {X : Type 0} (f g : X → ℕ) (xs : List X) → All (λ (x : X). f x ≡ g x) xs → sum_by f xs ≡ sum_by g xs
sum_same f g [] all = refl
sum_same {X} f g (x ∷ xs) all =
    let here : f x ≡ g x = All-head (λ (y : X). f y ≡ g y) x xs all in
    let later : sum_by f xs ≡ sum_by g xs = sum_same f g xs (All-tail (λ (y : X). f y ≡ g y) x xs all) in
    omega (arith, here, later, sum_by-cons f x xs, sum_by-cons g x xs)

-- images that are the same one by one
maps_same : {X Y : Type 0} (f g : X → Y) (xs : List X) → All (λ (x : X). f x ≡ g x) xs → map f xs ≡ map g xs
maps_same f g [] all = refl
maps_same {X} {Y} f g (x ∷ xs) all =
    ap (λ (y : Y). y ∷ map f xs) (All-head (λ (y : X). f y ≡ g y) x xs all)
    ∙ ap (λ (ys : List Y). g x ∷ ys) (maps_same f g xs (All-tail (λ (y : X). f y ≡ g y) x xs all))

module _ (p : Parts) (x : DeclaredStream) where
  pub stays_same : (port class : ℕ) → uses port (stream_sender x) ≡ false
      → StaysSame (more p x) (less p) (port, class)
  stays_same port class unused =
      let link : Port = port_at p.topology.ports port in
      let front : List Sender = map stream_sender p.front in
      let back : List Sender = map stream_sender p.back in
      let same : senders_at p.topology port (senders_of (less p)) ≡ senders_at p.topology port (senders_of (more p x)) =
      ap (senders_at p.topology port) (senders_less p)
      ∙ at_same p.topology port front (stream_sender x) (behind p) unused
      ∙ sym (ap (senders_at p.topology port) (senders_more p x)) in
      let streams : senders_at p.topology port (map stream_sender (less p).streams)
      ≡ senders_at p.topology port (map stream_sender (more p x).streams) =
      ap (senders_at p.topology port) (streams_less p) ∙ at_same p.topology port front (stream_sender x) back unused
      ∙ sym (ap (senders_at p.topology port) (streams_more p x)) in
      let sums : port_sums (less p) port class ≡ port_sums (more p x) port class =
      ap (λ (ss : List PortSender). sums_over link.ps_per_bit class ss) same in
      record {
        sums = sums;
        used = ap (λ (ss : List PortSender). list_any (is_of class) ss) streams;
        row = ap (λ (t : PortSums). row_with link port class t (least_wait link t)) sums;
      }

  bound_same : IsNetwork (more p x) → (port class : ℕ) → uses port (stream_sender x) ≡ false
      → bound_at (least_certificate (less p)) port class ≡ bound_at (least_certificate (more p x)) port class
  bound_same is port class unused =
      let s : StaysSame (more p x) (less p) (port, class) = stays_same port class unused in
      elim (cases_Bool (is_used (less p) port class)) as (λ _.
      bound_at (least_certificate (less p)) port class ≡ bound_at (least_certificate (more p x)) port class) [
        | inl used ↦ bound_used (less p) port class (less_is p x is) used ∙ ap (λ row. row.bound) s.row
            ∙ sym (bound_used (more p x) port class is (sym s.used ∙ used))
        | inr none ↦ bound_unused (less p) port class none ∙ sym (bound_unused (more p x) port class
            (sym s.used ∙ none))
      ]

  -- so is the sum along a route with none of its ports
  route_stays : IsNetwork (more p x) → (s : DeclaredStream) (route : List ℕ)
      → All (λ port. uses port (stream_sender x) ≡ false) route
      → bound_on (least_certificate (less p)) s route ≡ bound_on (least_certificate (more p x)) s route
  route_stays is s route off =
      let sender : Sender = stream_sender s in
      sum_same (bound_of_hop (least_certificate (less p)) sender) (bound_of_hop (least_certificate (more p x)) sender)
      route (λ k d h. bound_same is (get_or route k d) (class_at sender (get_or route k d)) (off k d h))

  -- and each sum of a stream that has none
  routes_stay : IsNetwork (more p x) → (s : DeclaredStream) → shares x s ≡ false
      → All (λ route. bound_on (least_certificate (less p)) s route ≡ bound_on (least_certificate (more p x)) s route)
      (routes_of s.ports s.branches)
  routes_stay is s apart k d h =
      route_stays is s (get_or (routes_of s.ports s.branches) k d)
      (each_on_routes (λ port. uses port (stream_sender x) ≡ false) s.ports s.branches
      (none_pass (λ port. uses port (stream_sender x)) s.ports apart) k d h)

  sums_stay : IsNetwork (more p x) → (s : DeclaredStream) → shares x s ≡ false
      → sums_of (least_certificate (less p)) s ≡ sums_of (least_certificate (more p x)) s
  sums_stay is s apart =
      maps_same (bound_on (least_certificate (less p)) s) (bound_on (least_certificate (more p x)) s)
      (routes_of s.ports s.branches) (routes_stay is s apart)

  -- so it stays in time
  pub time_stays : IsNetwork (more p x) → (s : DeclaredStream) → shares x s ≡ false
      → IsInTime (least_certificate (less p)) s → IsInTime (least_certificate (more p x)) s
  time_stays is s apart time k d h = omega (arith, time k d h, routes_stay is s apart k d h)

-- the laws
pub other_ports_stay : OtherPortsStay
other_ports_stay old new x port class is unused =
    by_parts (λ (o n : DeclaredNetwork). StaysSame o n (port, class)) old new x is
    (stays_same (parts_of old new x is) x port class unused)

pub other_sums_stay : OtherSumsStay
other_sums_stay old new x s is =
    by_parts (λ (o n : DeclaredNetwork). IsNetwork o → shares x s ≡ false
    → sums_of (least_certificate n) s ≡ sums_of (least_certificate o) s) old new x is
    (λ rules apart. sums_stay (parts_of old new x is) x rules s apart)

pub other_times_stay : (old new : DeclaredNetwork) (x s : DeclaredStream) → IsLessBy old new x → IsNetwork old
    → shares x s ≡ false → IsInTime (least_certificate new) s → IsInTime (least_certificate old) s
other_times_stay old new x s is =
    by_parts (λ (o n : DeclaredNetwork). IsNetwork o → shares x s ≡ false → IsInTime (least_certificate n) s
    → IsInTime (least_certificate o) s) old new x is
    (λ rules apart. time_stays (parts_of old new x is) x rules s apart)
