-- How many legs a frame has, and how many hop records there may be along them.
use Rattle.std.proofs.Common.{◌≡◌, ℕ, zero, suc, ◌+◌, ◌-◌, ◌<◌, ◌≤◌, List, [], ◌∷◌, ◌++◌, length, map, get_or}
use Rattle.std.proofs.Common.{sum_by, refl, sym, ap, ◌∙◌, arith, length-append}
use Rattle.std.specs.List.{concat, range_with_len}
use Rattle.std.proofs.lemmas.List.FromFn.{length-map-range_with_len, map-range_with_len_more}
use Rattle.std.proofs.lemmas.List.FromFn.{take-map-range_with_len}
use Rattle.std.proofs.lemmas.List.Sums.{sum_by-cons, sum_by-take-le}
use Rattle.ats_streams.specs.Branches.{Ascend, leg_at, legs_of, routes_of, leads_of}
use Rattle.ats_streams.specs.declared.branch.Branch.{Branch}
use Rattle.ats_streams.specs.declared.branch.TheConstants.{MAX_BRANCHES}
use Rattle.ats_streams.proofs.BranchLemmas.{lead_of_trunk, legs-length, route-at, routes-length, trunk_within}
use Rattle.ats_network.specs.Network.{DeclaredNetwork, IsNetwork, senders_of}
use Rattle.ats_network.specs.Sender.{Sender}
use Rattle.ats_network.specs.Senders.{IsSender, sender_at}
use Rattle.ats_network.proofs.SenderLemmas.{sender_keeps}
use Rattle.ats_trace.specs.Journey.{legs_at}
use Rattle.ats_trace.specs.declared.journey.Release.{Release}
use Rattle.ats_trace.proofs.Legs.{concat-legs_of}
use Rattle.ats_run_records.specs.declared.opening.TheConstants.{MAX_ROOM}
use Rattle.ats_run_records.specs.Progress.{Progress, leg_opened, copies_count, copies_of_frame}
use Rattle.ats_run_records.proofs.Opens.{rooms_of}

-- how many ports a leg has
abbrev pub ports_along : List (List ℕ) → ℕ → ℕ
ports_along legs leg = length (leg_at legs leg)

-- legs have as many ports as all of them, one behind another
sum-legs : (f : ℕ → ℕ) (at : ℕ) (legs : List (List ℕ))
    → ((i : ℕ) → i < length legs → f (at + i) ≡ ports_along legs i)
    → sum_by f (range_with_len at (length legs)) ≡ length (concat legs)
sum-legs f at [] each = refl
sum-legs f at (l ∷ legs) each =
    let here : at + 0 ≡ at = omega arith in
    let first : f at ≡ length l = sym (ap f here) ∙ each 0 (omega arith) in
    let rest : sum_by f (range_with_len (at + 1) (length legs)) ≡ length (concat legs) =
    sum-legs f (at + 1) legs
    (λ i h. (let next : at + 1 + i ≡ at + suc i = omega arith in ap f next ∙ each (suc i) (omega arith))) in
    omega (
      arith,
      sum_by-cons f at (range_with_len (at + 1) (length legs)),
      first,
      rest,
      length-append l (concat legs),
    )

-- there is a port for each of them
few-branches : (at : ℕ) (branches : List Branch) (end : ℕ) → Ascend at branches end → at < end
    → at + length branches < end
few-branches at [] end ascend below = omega arith
few-branches at (b ∷ branches) end ascend below =
    omega (arith, ascend.0, few-branches b.first branches end ascend.2 ascend.1)

-- how many hop records there may be along copies
copies-room : (network : DeclaredNetwork) (frame : ℕ) (r : Release) (at n : ℕ)
    → rooms_of (map (leg_opened network frame r) (range_with_len at n))
    ≡ sum_by (ports_along (legs_at network r.sender)) (range_with_len at n)
copies-room network frame r at zero = refl
copies-room network frame r at (suc n) =
    omega (
      arith,
      sum_by-cons (ports_along (legs_at network r.sender)) at (range_with_len (at + 1) n),
      sum_by-cons (λ (leg : Progress). leg.room) (leg_opened network frame r at)
          (map (leg_opened network frame r) (range_with_len (at + 1) n)),
      copies-room network frame r (at + 1) n,
    )

-- along one frame's trunk, and along its copies
abbrev pub trunk_room : DeclaredNetwork → Release → ℕ
trunk_room network r = ports_along (legs_at network r.sender) 0

abbrev pub copies_room : DeclaredNetwork → Release → ℕ
copies_room network r =
    sum_by (ports_along (legs_at network r.sender)) (range_with_len 1 (copies_count network r))

pub rooms-copies : (network : DeclaredNetwork) (frame : ℕ) (r : Release)
    → rooms_of (copies_of_frame network frame r) ≡ copies_room network r
rooms-copies network frame r = copies-room network frame r 1 (copies_count network r)

-- along the first of them no more
pub rooms-front : (network : DeclaredNetwork) (frame : ℕ) (r : Release) (n : ℕ) → n ≤ copies_count network r
    → rooms_of (map (leg_opened network frame r) (range_with_len 1 n)) ≤ rooms_of (copies_of_frame network frame r)
rooms-front network frame r n within =
    omega (
      arith,
      ap rooms_of (take-map-range_with_len (leg_opened network frame r) 1 (copies_count network r) n within),
      sum_by-take-le (λ (leg : Progress). leg.room) (copies_of_frame network frame r) n,
    )

-- one copy more
pub copies-next : (network : DeclaredNetwork) (frame : ℕ) (r : Release) (leg : ℕ) → 1 ≤ leg
    → map (leg_opened network frame r) (range_with_len 1 (leg + 1 - 1))
    ≡ map (leg_opened network frame r) (range_with_len 1 (leg - 1)) ++ leg_opened network frame r leg ∷ []
copies-next network frame r leg some =
    let more : leg + 1 - 1 ≡ leg - 1 + 1 = omega arith in
    let last : 1 + (leg - 1) ≡ leg = omega arith in
    ap (λ (n : ℕ). map (leg_opened network frame r) (range_with_len 1 n)) more
    ∙ map-range_with_len_more (leg_opened network frame r) 1 (leg - 1) leg last

pub length-copies : (network : DeclaredNetwork) (frame : ℕ) (r : Release)
    → length (copies_of_frame network frame r) ≡ copies_count network r
length-copies network frame r =
    length-map-range_with_len (leg_opened network frame r) 1 (copies_count network r)

-- a frame has a hop record for each port of its sender at most, and a port for each leg
pub record IsCounted (network : DeclaredNetwork) (r : Release) : Type 0 where
  pub rooms : trunk_room network r + copies_room network r ≡ length (sender_at network r.sender).ports
  pub legs : copies_count network r < length (sender_at network r.sender).ports
  pub few : copies_count network r ≤ MAX_BRANCHES
  pub most : (leg : ℕ) → leg ≤ copies_count network r → ports_along (legs_at network r.sender) leg ≤ MAX_ROOM

pub frame-counted : (network : DeclaredNetwork) (r : Release) → IsNetwork network
    → r.sender < length (senders_of network) → IsCounted network r
frame-counted network r rules within =
    let sender : Sender = sender_at network r.sender in
    let keeps : IsSender network.topology sender = sender_keeps network r.sender rules within in
    let legs : List (List ℕ) = legs_of sender.ports sender.branches in
    let leads : List (List ℕ) = leads_of sender.ports sender.branches in
    let routes : List (List ℕ) = routes_of sender.ports sender.branches in
    let many : length legs ≡ suc (length sender.branches) = legs-length 0 sender.ports sender.branches in
    let all : length (concat legs) ≡ length sender.ports =
    ap (λ (l : List ℕ). length l) (concat-legs_of sender.ports sender.branches keeps.branches) in
    let as_many : length routes ≡ suc (length sender.branches) = routes-length sender.ports sender.branches in
    let total : sum_by (ports_along legs) (range_with_len 0 (length legs)) ≡ length (concat legs) =
    sum-legs (ports_along legs) 0 legs
    (λ i h. (let here : 0 + i ≡ i = omega arith in ap (ports_along legs) here)) in
    let first : sum_by (ports_along legs) (range_with_len 0 (suc (length sender.branches)))
    ≡ ports_along legs 0 + sum_by (ports_along legs) (range_with_len 1 (length sender.branches)) =
    sum_by-cons (ports_along legs) 0 (range_with_len 1 (length sender.branches)) in
    let split : sum_by (ports_along legs) (range_with_len 0 (length legs))
    ≡ sum_by (ports_along legs) (range_with_len 0 (suc (length sender.branches))) =
    ap (λ (n : ℕ). sum_by (ports_along legs) (range_with_len 0 n)) many in
    let whole : (leg : ℕ) → leg ≤ length sender.branches
    → length (get_or routes leg []) ≡ length (leg_at leads leg) + ports_along legs leg =
    λ leg h. ap (λ (l : List ℕ). length l) (route-at sender.ports sender.branches leg [] h)
    ∙ length-append (leg_at leads leg) (leg_at legs leg) in
    let some : 1 ≤ length (get_or routes 0 []) = (keeps.routes 0 [] (omega (arith, as_many))).least in
    let none : length (leg_at leads 0) ≡ 0 =
    ap (λ (l : List ℕ). length l) (lead_of_trunk sender.ports sender.branches) in
    let port : 0 < length sender.ports =
    omega (arith, some, whole 0 (omega arith), none, trunk_within sender.ports sender.branches) in
    record {
      rooms = omega (arith, total, split, first, all);
      legs = omega (arith, few-branches 0 sender.branches (length sender.ports) keeps.branches.places port);
      few = keeps.branches.few;
      most = λ leg h. omega (arith, whole leg h, (keeps.routes leg [] (omega (arith, as_many, h))).most);
    }
