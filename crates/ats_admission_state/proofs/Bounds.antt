-- The least bounds as the bounds of the least certificate, and how great they are.
use Rattle.std.proofs.Common.{◌≡◌, ◌≢◌, ℕ, ◌+◌, ◌-◌, ◌*◌, ◌/◌, ◌%◌, ◌<◌, ◌≤◌, ◌^◌, Bool, cond, List, []}
use Rattle.std.proofs.Common.{◌∷◌, length, map, filter, get_or, sum_by, Option, Some, refl, sym, ap, subst}
use Rattle.std.proofs.Common.{◌∙◌, inl, inr, arith}
use Rattle.std.specs.Prelude.{unwrap_or}
use Rattle.std.specs.List.{All, AllPairs}
use Rattle.std.proofs.lemmas.List.{get_or_default}
use Rattle.std.proofs.lemmas.List.Elements.{All-head, All-tail}
use Rattle.std.proofs.lemmas.Nat.{div-mul-add}
use Rattle.std.proofs.Math.Nat.{div-le_self, mul-le-mul_left, mul-le-mul_right}
use Rattle.std.proofs.lemmas.Bool.{cases_Bool, cases_eq}
use Rattle.ats_num.specs.Division.{ceiling}
use Rattle.ats_num.specs.declared.time.TheConstants.{PS_PER_SECOND}
use Rattle.ats_num.specs.declared.wire.TheConstants.{MAX_WIRE_BITS}
use Rattle.ats_num.proofs.Ceiling.{ceiling-is}
use Rattle.ats_class_table.specs.Table.{Table, value_at}
use Rattle.ats_streams.specs.Branches.{AreBranches, leg_at, routes_of}
use Rattle.ats_streams.specs.Path.{IsPath}
use Rattle.ats_streams.specs.Stream.{DeclaredStream, IsClass, IsStream}
use Rattle.ats_topology.specs.Port.{port_at}
use Rattle.ats_topology.specs.declared.port.Port.{Port}
use Rattle.ats_network.specs.Class.{PortSender}
use Rattle.ats_network.specs.Network.{DeclaredNetwork, IsNetwork, senders_of}
use Rattle.ats_network.specs.Sender.{stream_sender}
use Rattle.ats_certificate.specs.Certificate.{bound_at, bound_of_hop, bound_on}
use Rattle.ats_tally.proofs.Paths.{hop_bound}
use Rattle.ats_certificate.specs.PortSums.{PortSums, greatest_where, is_above, is_below, is_of, is_used, least_of}
use Rattle.ats_certificate.specs.PortSums.{longest}
use Rattle.ats_certificate.specs.PortSums.{port_sums, senders_at, shortest, sum_where}
use Rattle.ats_tally.specs.Tally.{IsWithin, least_known}
use Rattle.ats_tally.specs.declared.tally.Tally.{Tally}
use Rattle.ats_tally.specs.declared.tally.TheConstants.{MAX_SENDERS}
use Rattle.ats_tally.proofs.Network.{all_within}
use Rattle.ats_tally.proofs.Places.{IsPlace, is_place}
use Rattle.ats_bound.specs.Least.{least_certificate, least_row}
use Rattle.ats_admission_law.proofs.LeastRows.{bound_used, bound_unused}
use Rattle.ats_admission_state.specs.Kept.{AreLeast, least_bound}
use Rattle.ats_admission_state.specs.Routes.{AreBounded, IsBounded, IsRoute, bound_of, places_along, ports_along}
use Rattle.ats_admission_state.specs.Routes.{route_of, route_paths, sum_along}
use Rattle.ats_admission_state.proofs.Places.{places-length, places_at}
use Rattle.ats_admission_state.proofs.Ways.{branches-map, paths-map, route-map, route_holds, sum-map}

-- a least bound is that of the least certificate
pub least_is : (network : DeclaredNetwork) (port class : ℕ) → IsNetwork network
    → least_bound network port class ≡ bound_at (least_certificate network) port class
least_is network port class is =
    elim (cases_Bool (is_used network port class)) as (λ _. least_bound network port class
    ≡ bound_at (least_certificate network) port class) [
      | inl used ↦ ap (λ (b : Bool). cond b (least_row network (port, class)).bound 0) used
          ∙ sym (bound_used network port class is used)
      | inr unused ↦
          ap (λ (b : Bool). cond b (least_row network (port, class)).bound 0) unused
          ∙ sym (bound_unused network port class unused)
    ]

-- at a hop of a stream's path, whose port and class stand at the same place of the path and of the classes
pub hop_is : (network : DeclaredNetwork) (stream : DeclaredStream) (bounds : Table ℕ) (hop port class : ℕ)
    → IsNetwork network → IsStream stream → All (λ p. p < length network.topology.ports) stream.ports
    → AreLeast network bounds → hop < length stream.ports → port ≡ get_or stream.ports hop 0
    → class ≡ get_or stream.classes hop 0
    → value_at bounds port class ≡ Some (bound_at (least_certificate network) port class)
hop_is network stream bounds hop port class rules is inside least within port_is class_is =
    let at : IsClass (get_or stream.classes hop 0) = is.classes hop 0 (omega (arith, is.each_port, within)) in
    least.each port class (omega (arith, port_is, inside hop 0 within)) (omega (arith, class_is, at.least))
    (omega (arith, class_is, at.most))
    ∙ ap Some (least_is network port class rules)

-- a quotient that is rounded up is at most the divided number
ceiling-le : (n d : ℕ) → ceiling n d ≤ n
ceiling-le n d = elim (cases_eq d 0) as (λ _. ceiling n d ≤ n) [
  | inl none ↦ omega (arith, ap (ceiling n) none, div-le_self (n + (0 - 1)) 0)
  | inr some ↦ (ceiling-is n d (omega arith)).least n
      (omega (arith, mul-le-mul_left n (let h : 1 ≤ d = omega arith in h)))
]

-- what all senders at a port make of a class
tally_at : DeclaredNetwork → ℕ → ℕ → Tally
tally_at network port class =
    let senders : List PortSender = senders_at network.topology port (senders_of network) in
    record {
      above = sum_where (is_above class) (λ s. s.rate) senders;
      equal = sum_where (is_of class) (λ s. s.rate) senders;
      bursts = (port_sums network port class).bursts;
      lower = greatest_where (is_below class) longest senders;
      least = least_known (map shortest (filter (is_of class) senders));
    }

least_same : (ns : List ℕ) → unwrap_or (least_known ns) 0 ≡ least_of ns
least_same [] = refl
least_same (n ∷ ns) = refl

module _ (network : DeclaredNetwork) (port class : ℕ) (is : IsNetwork network) where
  within : 1 ≤ class → IsWithin MAX_SENDERS (tally_at network port class)
  unfolding tally_at
  within some = all_within network port class (tally_at network port class) is some
      (record { above = refl; equal = refl; bursts = refl; lower = refl; least = refl })

  row_small : IsPlace network port class → (least_row network (port, class)).bound < 10 ^ 36
  unfolding tally_at
  row_small at =
      let link : Port = port_at network.topology.ports port in
      let sums : PortSums = port_sums network port class in
      let w : IsWithin MAX_SENDERS (tally_at network port class) = within at.least in
      let least : sums.least ≤ MAX_WIRE_BITS = omega (
        arith,
        w.least,
        least_same (map shortest (filter (is_of class) (senders_at network.topology port (senders_of network)))),
      ) in
      let bits : ℕ = sums.lower + sums.bursts - sums.least in
      let few : bits ≤ MAX_WIRE_BITS + MAX_SENDERS * 1000000000 = omega (arith, w.lower, w.bursts) in
      let sent : link.ps_per_bit * bits ≤ 100000 * bits = mul-le-mul_right bits at.is_port.rate.most in
      let first : link.ps_per_bit * sums.least ≤ 100000 * sums.least =
      mul-le-mul_right sums.least at.is_port.rate.most in
      let wait = ceiling-le (PS_PER_SECOND * (link.ps_per_bit * bits)) (PS_PER_SECOND - sums.higher) in
      omega (arith, wait, sent, few, first, least, at.is_port.latency)

  -- it has at most 36 digits
  pub bound_small : bound_at (least_certificate network) port class < 10 ^ 36
  bound_small =
      elim (cases_Bool (is_used network port class)) as (λ _.
      bound_at (least_certificate network) port class < 10 ^ 36) [
        | inl used ↦ omega (
          arith,
          bound_used network port class is used,
          row_small (is_place network port class is used),
        )
        | inr unused ↦ omega (arith, bound_unused network port class unused)
      ]

-- the bound at the place of a port and a class
bound_at_place : (bounds : Table ℕ) (port class : ℕ) → class ≤ 7
    → bound_of bounds (8 * port + class) ≡ unwrap_or (value_at bounds port class) 0
bound_at_place bounds port class most =
    let port_is : (8 * port + class) / 8 ≡ port = omega (arith, most) in
    let class_is : (8 * port + class) % 8 ≡ class = omega (arith, most) in
    ap (λ (p : ℕ). unwrap_or (value_at bounds p ((8 * port + class) % 8)) 0) port_is
    ∙ ap (λ (c : ℕ). unwrap_or (value_at bounds port c) 0) class_is

-- the ports of a stream's route are its path
ports_are : (path classes : List ℕ) → length classes ≡ length path → All IsClass classes
    → map (λ place. place / 8) (places_along path classes) ≡ path
ports_are [] classes same all = refl
ports_are (port ∷ path) [] same all = absurd (omega arith)
ports_are (port ∷ path) (class ∷ classes) same all =
    let is : IsClass class = All-head IsClass class classes all in
    let turned : 8 * port + class ≡ port * 8 + class = omega arith in
    ap (λ (p : ℕ). p ∷ map (λ place. place / 8) (places_along path classes))
    (ap (λ (n : ℕ). n / 8) turned ∙ div-mul-add port 8 class (let most = is.most in omega (arith, most)))
    ∙ ap (λ (ports : List ℕ). port ∷ ports)
    (ports_are path classes (omega arith) (All-tail IsClass class classes all))

pub route_ports : (stream : DeclaredStream) → IsStream stream → ports_along (route_of stream) ≡ stream.ports
route_ports stream is = ports_are stream.ports stream.classes is.each_port is.classes

-- each route of a stream has 1 to 64 places
pub route_rules : (stream : DeclaredStream) → IsStream stream → IsRoute (route_of stream)
route_rules stream is =
    let places : List ℕ = places_along stream.ports stream.classes in
    record {
      branches_are = branches-map (λ place. place / 8) places stream.branches
          (subst (λ (ports : List ℕ). AreBranches ports stream.branches) (sym (route_ports stream is)) is.branches);
      paths = paths-map (λ place. place / 8) places stream.branches
          (subst (λ (ports : List ℕ). All IsPath (routes_of ports stream.branches)) (sym (route_ports stream is))
          is.routes);
    }

module _ (network : DeclaredNetwork) (stream : DeclaredStream) (bounds : Table ℕ) (rules : IsNetwork network)
    (is : IsStream stream) (inside : All (λ p. p < length network.topology.ports) stream.ports)
    (least : AreLeast network bounds) where
  place_is : (hop : ℕ) → hop < length stream.ports
      → bound_of bounds (get_or (places_along stream.ports stream.classes) hop 0)
      ≡ bound_at (least_certificate network) (get_or stream.ports hop 0) (get_or stream.classes hop 0)
  place_is hop within =
      let class : IsClass (get_or stream.classes hop 0) = is.classes hop 0 (omega (arith, is.each_port, within)) in
      ap (bound_of bounds) (places_at stream.ports stream.classes hop 0 is.each_port within)
      ∙ bound_at_place bounds (get_or stream.ports hop 0) (get_or stream.classes hop 0) class.most
      ∙ ap (λ (o : Option ℕ). unwrap_or o 0)
      (hop_is network stream bounds hop (get_or stream.ports hop 0) (get_or stream.classes hop 0) rules is inside
      least within refl refl)

  abbrev hop_bound_of : ℕ → ℕ
  hop_bound_of = bound_of_hop (least_certificate network) (stream_sender stream)

  -- at each place stands the bound of the hop of its port
  all_hops : AllPairs (λ p q. p ≢ q) stream.ports
      → All (λ place. bound_of bounds place ≡ hop_bound_of (place / 8)) (places_along stream.ports stream.classes)
  all_hops apart k d h =
      let places : List ℕ = places_along stream.ports stream.classes in
      let within : k < length stream.ports =
      omega (arith, h, places-length stream.ports stream.classes is.each_port) in
      let class : IsClass (get_or stream.classes k 0) = is.classes k 0 (omega (arith, is.each_port, within)) in
      let port : get_or places k 0 / 8 ≡ get_or stream.ports k 0 =
      omega (arith, places_at stream.ports stream.classes k 0 is.each_port within, class.most) in
      subst (λ place. bound_of bounds place ≡ hop_bound_of (place / 8)) (get_or_default places k 0 d h)
      (place_is k within
      ∙ hop_bound (least_certificate network) stream k (get_or stream.ports k 0) (get_or stream.classes k 0) is
      apart within refl refl
      ∙ ap hop_bound_of (sym port))

  -- the sum along the route to a listener is the sum of the stream's bounds there
  pub route_sum : AllPairs (λ p q. p ≢ q) stream.ports → (leg : ℕ)
      → sum_along bounds (route_of stream) leg
      ≡ bound_on (least_certificate network) stream (leg_at (routes_of stream.ports stream.branches) leg)
  route_sum apart leg =
      let places : List ℕ = places_along stream.ports stream.classes in
      sum-map (λ place. place / 8) (bound_of bounds) hop_bound_of (leg_at (routes_of places stream.branches) leg)
      (route_holds (λ place. bound_of bounds place ≡ hop_bound_of (place / 8)) places stream.branches leg
      (all_hops apart))
      ∙ ap (sum_by hop_bound_of) (sym (route-map (λ place. place / 8) places stream.branches leg))
      ∙ ap (λ (ports : List ℕ). sum_by hop_bound_of (leg_at (routes_of ports stream.branches) leg))
      (route_ports stream is)

  -- its places have bounds of few digits
  pub route_bounded : AreBounded bounds (route_of stream)
  route_bounded k d h =
      let places : List ℕ = places_along stream.ports stream.classes in
      let within : k < length stream.ports =
      omega (arith, h, places-length stream.ports stream.classes is.each_port) in
      let at = places_at stream.ports stream.classes k 0 is.each_port within in
      let class : IsClass (get_or stream.classes k 0) = is.classes k 0 (omega (arith, is.each_port, within)) in
      subst (IsBounded bounds) (get_or_default places k 0 d h) (record {
        within = omega (arith, at, least.count, inside k 0 within, class.most);
        small = omega (
          arith,
          place_is k within,
          bound_small network (get_or stream.ports k 0) (get_or stream.classes k 0) rules,
        );
      })

pub all_route_paths : (streams : List DeclaredStream) → All IsStream streams
    → route_paths (map route_of streams) ≡ map (λ (s : DeclaredStream). s.ports) streams
all_route_paths [] all = refl
all_route_paths (s ∷ streams) all =
    ap (λ (path : List ℕ). path ∷ route_paths (map route_of streams))
    (route_ports s (All-head IsStream s streams all))
    ∙ ap (λ (paths : List (List ℕ)). s.ports ∷ paths)
    (all_route_paths streams (All-tail IsStream s streams all))
