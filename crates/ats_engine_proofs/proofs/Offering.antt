use Rattle.std.proofs.Common.{◌≡◌, ℕ, ◌+◌, ◌-◌, ◌<◌, ◌≤◌, Bool, true, cond, List, [], ◌∷◌, ◌++◌, map, filter, length}
use Rattle.std.proofs.Common.{get_or, take, refl, sym, ap, ◌∙◌, subst, inl, inr, arith, All, count_by}
use Rattle.std.specs.Prelude.{◌≢◌, ◌==◌, ◌&&◌, AllPairs, Contains, slice_index, None}
use Rattle.std.specs.List.{list_any}
use Rattle.std.proofs.lemmas.Bool.{cases_eq, eq-eqb, eqb-true, and_from}
use Rattle.std.proofs.lemmas.List.{get_or-map, get_or-take, get_or_default, length-map, length-take-le}
use Rattle.std.proofs.lemmas.List.{map-append}
use Rattle.std.proofs.lemmas.List.Elements.{All-append, All-cons, All-contains_itself, All-filter, All-map}
use Rattle.std.proofs.lemmas.List.Elements.{All-weaker, filter_passes}
use Rattle.std.proofs.lemmas.List.Folds.{list_any_at}
use Rattle.std.proofs.lemmas.List.Kept.{AllPairs-cons, AllPairs-filter}
use Rattle.std.proofs.lemmas.List.Sorted.{All-permutation, IsPermutation-sym}
use Rattle.std.proofs.lemmas.List.Sums.{length-filter, sum_by-append}
use Rattle.ats_facts.proofs.Lists.{all_unmapped, count_by-cons}
use Rattle.ats_streams.specs.Branches.{leg_at}
use Rattle.ats_network.specs.Class.{class_at}
use Rattle.ats_network.specs.Network.{DeclaredNetwork, IsNetwork, senders_of}
use Rattle.ats_network.specs.Sender.{Sender}
use Rattle.ats_network.specs.Senders.{sender_at}
use Rattle.ats_port_rule.specs.Transmission.{Transmission}
use Rattle.ats_transmit.specs.Sending.{transmission_of, transmissions}
use Rattle.ats_transmit.specs.State.{PortState, offered_of}
use Rattle.ats_transmit.specs.declared.offer.Offer.{Offer}
use Rattle.ats_transmit.specs.declared.sent.Sent.{Sent}
use Rattle.ats_trace.specs.Journey.{legs_at}
use Rattle.ats_trace.specs.Projections.{Hop}
use Rattle.ats_trace.specs.HopRecord.{HopRecord}
use Rattle.ats_trace.specs.declared.journey.Release.{Release}
use Rattle.ats_run_records.specs.Progress.{Progress, progress_at, no_progress}
use Rattle.ats_engine_steps.specs.Course.{Course, leg_hops, offer_at, path_of, place_of, place_at, sender_of}
use Rattle.ats_engine_steps.specs.Course.{sent_so_far, stage_at}
use Rattle.ats_engine_steps.specs.Frames.{IsUnsent}
use Rattle.ats_engine_steps.specs.Invariant.{IsShaped}
use Rattle.ats_engine_steps.specs.Ports.{IsPortOf, IsHeld, frames_at, passes, room_of}
use Rattle.ats_engine_steps.specs.declared.stage.Stage.TheVariants.{Waiting}
use Rattle.ats_engine_proofs.proofs.Counting.{places_passing}
use Rattle.ats_engine_proofs.proofs.Hops.{all_hops, not_sent_last, of_rows}
use Rattle.ats_engine_proofs.proofs.LegPorts.{leg-all, leg-apart}
use Rattle.ats_engine_proofs.proofs.Placed.{IsStanding, stands-at_most}
use Rattle.ats_engine_proofs.proofs.Rows.{firsts-are, frames-all, place-has, port-one, release-one, row-is}
use Rattle.ats_engine_proofs.proofs.Ways.{stands-some}

-- a relation of the pairs of images holds so of the pairs of elements
pairs_unmapped : {X Y : Type 0} (R : Y → Y → Type 0) (f : X → Y) (xs : List X) → AllPairs R (map f xs)
    → AllPairs (λ (x y : X). R (f x) (f y)) xs
pairs_unmapped R f xs pairs i j d below within =
    let at : ℕ → Type 0 = λ (k : ℕ). get_or (map f xs) k (f d) ≡ f (get_or xs k d) in
    let first : at i = get_or-map f xs i d (f d) (omega arith) in
    let second : at j = get_or-map f xs j d (f d) within in
    subst (λ y. R y (f (get_or xs j d))) first (subst (R (get_or (map f xs) i (f d))) second
    (pairs i j (f d) below (omega (arith, length-map xs f))))

-- elements with different numbers have different numbers in the list of these
pairs_mapped : {X : Type 0} (f : X → ℕ) (default : X) (xs : List X) → AllPairs (λ (x y : X). f x ≢ f y) xs
    → AllPairs (λ (a b : ℕ). a ≢ b) (map f xs)
pairs_mapped f default xs pairs i j d below within =
    let there : j < length xs = omega (arith, length-map xs f) in
    λ same. pairs i j default below there
    (sym (get_or-map f xs i default d (omega arith)) ∙ same ∙ get_or-map f xs j default d there)

-- the frames that a port was offered, each with its class
abbrev rows_of : {T : Type 0} → PortState T → List (ℕ × ℕ)
rows_of s =
    map (λ (o : Offer). (o.frame, o.class)) s.held ++ map (λ (x : Sent). (x.frame, x.class)) s.sent

-- two maps, one after the other, are one
map-map : {X Y Z : Type 0} (g : Y → Z) (f : X → Y) (xs : List X) → map g (map f xs) ≡ map (λ (x : X). g (f x)) xs
map-map g f [] = refl
map-map g f (x ∷ xs) = ap (λ l. g (f x) ∷ l) (map-map g f xs)

-- these are the frames that the port was offered
rows_frames : {T : Type 0} (s : PortState T) → map (λ (row : ℕ × ℕ). row.0) (rows_of s) ≡ frames_at s
rows_frames s =
    let held : List (ℕ × ℕ) = map (λ (o : Offer). (o.frame, o.class)) s.held in
    let sent : List (ℕ × ℕ) = map (λ (x : Sent). (x.frame, x.class)) s.sent in
    let first = map-map (λ (row : ℕ × ℕ). row.0) (λ (o : Offer). (o.frame, o.class)) s.held in
    let second = map-map (λ (row : ℕ × ℕ). row.0) (λ (x : Sent). (x.frame, x.class)) s.sent in
    map-append (λ (row : ℕ × ℕ). row.0) held sent
    ∙ ap (λ (l : List ℕ). l ++ map (λ (row : ℕ × ℕ). row.0) sent) first
    ∙ ap (λ (l : List ℕ). map (λ (o : Offer). o.frame) s.held ++ l) second

-- as many images pass as elements whose images pass
pub count_by-map : {X Y : Type 0} (test : Y → Bool) (f : X → Y) (xs : List X)
    → count_by test (map f xs) ≡ count_by (λ (x : X). test (f x)) xs
count_by-map test f [] = refl
count_by-map {X} test f (x ∷ xs) =
    count_by-cons test (f x) (map f xs) ∙ ap (λ (n : ℕ). cond (test (f x)) 1 0 + n) (count_by-map test f xs)
    ∙ sym (count_by-cons (λ (y : X). test (f y)) x xs)

-- how many of them are of a class
rows_count : {T : Type 0} (s : PortState T) (class : ℕ)
    → count_by (λ (row : ℕ × ℕ). row.1 == class) (rows_of s) ≡ offered_of s class
rows_count s class =
    let test : ℕ × ℕ → Bool = λ (row : ℕ × ℕ). row.1 == class in
    let held : List (ℕ × ℕ) = map (λ (o : Offer). (o.frame, o.class)) s.held in
    let sent : List (ℕ × ℕ) = map (λ (x : Sent). (x.frame, x.class)) s.sent in
    omega (
      arith,
      sum_by-append (λ (row : ℕ × ℕ). cond (row.1 == class) 1 0) held sent,
      count_by-map test (λ (o : Offer). (o.frame, o.class)) s.held,
      count_by-map test (λ (x : Sent). (x.frame, x.class)) s.sent,
    )

-- a frame passes a port in a class, where these are the rows of the trunks
record Passes (network : DeclaredNetwork) (trunks : List Progress) (port : ℕ) (row : ℕ × ℕ) : Type 0 where
  within : row.0 < length trunks
  there : passes network port row.1 (progress_at trunks row.0) ≡ true

-- where frames that pass a port and are pairwise different are all offered to it, and one more passes it, there is room
room_for : {T : Type 0} (network : DeclaredNetwork) (trunks : List Progress) (port frame class : ℕ) (s : PortState T)
    → AllPairs (λ (a b : ℕ). a ≢ b) (frames_at s) → All (Passes network trunks port) (rows_of s)
    → All (λ (row : ℕ × ℕ). row.0 ≢ frame) (rows_of s) → Passes network trunks port (frame, class)
    → offered_of s class < count_by (passes network port class) trunks
room_for network trunks port frame class s apart each others this =
    let rows : List (ℕ × ℕ) = rows_of s in
    let test : ℕ × ℕ → Bool = λ (row : ℕ × ℕ). row.1 == class in
    let here : List (ℕ × ℕ) = filter test rows in
    let name : ℕ × ℕ → ℕ = λ (row : ℕ × ℕ). row.0 in
    let frames : List ℕ = map name here in
    let Differ : ℕ × ℕ → ℕ × ℕ → Type 0 = λ (a b : ℕ × ℕ). a.0 ≢ b.0 in
    let pairs : AllPairs Differ rows = pairs_unmapped (λ (a b : ℕ). a ≢ b) name rows
    (subst (AllPairs (λ (a b : ℕ). a ≢ b)) (sym (rows_frames s)) apart) in
    let differ : AllPairs (λ (a b : ℕ). a ≢ b) frames =
    pairs_mapped name (0, 0) here (AllPairs-filter Differ test rows pairs) in
    let other : All (λ (f : ℕ). frame ≢ f) frames =
    All-map (λ (f : ℕ). frame ≢ f) name here (λ k d h e.
    All-filter test (λ (row : ℕ × ℕ). row.0 ≢ frame) rows others k d h (sym e)) in
    let Within : ℕ → Type 0 = λ (f : ℕ). f < length trunks in
    let There : ℕ → Type 0 = λ (f : ℕ). passes network port class (progress_at trunks f) ≡ true in
    let within : All Within frames =
    All-map Within name here (λ k d h. (All-filter test (Passes network trunks port) rows each k d h).within) in
    let there : All There frames =
    All-map There name here (λ k d h. subst (λ (c : ℕ). passes network port c
    (progress_at trunks (get_or here k d).0) ≡ true)
    (eqb-true (get_or here k d).1 class (filter_passes test rows k d h))
    (All-filter test (Passes network trunks port) rows each k d h).there) in
    let most : length (frame ∷ frames) ≤ count_by (passes network port class) trunks =
    places_passing (passes network port class) no_progress trunks (frame ∷ frames)
    (AllPairs-cons (λ (a b : ℕ). a ≢ b) frame frames other differ)
    (All-cons Within frame frames this.within within) (All-cons There frame frames this.there there) in
    omega (arith, length-map here name, length-filter test rows, rows_count s class)

-- an element of a list at a place
contains-at : (xs : List ℕ) (k x d : ℕ) → k < length xs → get_or xs k d ≡ x → Contains xs x
contains-at xs k x d within is = (k, within, get_or_default xs k x d within ∙ is)

-- a port of a leg is one of the sender's
pub contains-leg : (network : DeclaredNetwork) (sender leg port : ℕ) → IsNetwork network
    → sender < length (senders_of network) → leg ≤ length (sender_at network sender).branches
    → Contains (leg_at (legs_at network sender) leg) port → Contains (sender_at network sender).ports port
contains-leg network sender leg port rules known there has =
    let ports : List ℕ = (sender_at network sender).ports in
    subst (Contains ports) has.2
    (leg-all network sender leg rules known there (Contains ports) (All-contains_itself ports) has.0 port has.1)

-- the rows of the trunks
abbrev trunks_of : {T : Type 0} → Course T → List Progress
trunks_of course = take (length course.firsts) course.records

-- a frame passes the ports of its legs
frame-passes : {T : Type 0} {network : DeclaredNetwork} {releases : List Release} {course : Course T}
    → IsNetwork network → IsShaped network releases course → (row port class : ℕ) → row < length course.records
    → (progress_at course.records row).release.sender < length (senders_of network)
    → Contains (path_of network (progress_at course.records row)) port
    → class_at (sender_of network (progress_at course.records row)) port ≡ class
    → Passes network (trunks_of course) port ((progress_at course.records row).frame, class)
frame-passes {T} {network} {releases} {course} rules shape row port class within known has is =
    let p : Progress = progress_at course.records row in
    let s : Sender = sender_of network p in
    let frames : ℕ = length course.firsts in
    let below : p.frame < frames = omega (arith, (row-is shape row within).frame, frames-all shape) in
    let enough : frames ≤ length course.records = (firsts-are shape).trunks in
    let long : length (trunks_of course) ≡ frames = length-take-le frames course.records enough in
    let in_ports : Contains s.ports port = contains-leg network p.release.sender p.leg port rules known
    (row-is shape row within).leg has in
    let own : passes network port class p ≡ true =
    and_from (list_any (λ q. q == port) s.ports) (class_at s port == class)
    (list_any_at (λ q. q == port) s.ports in_ports.0 port in_ports.1
    (eq-eqb (get_or s.ports in_ports.0 port) port in_ports.2))
    (eq-eqb (class_at s port) class is) in
    let same : (progress_at (trunks_of course) p.frame).release ≡ p.release =
    ap (λ (q : Progress). q.release) (get_or-take frames course.records p.frame no_progress below)
    ∙ release-one shape row within in
    record {
      within = omega arith;
      there = subst (λ (r : Release). (list_any (λ q. q == port) (sender_at network r.sender).ports
          && class_at (sender_at network r.sender) port == class) ≡ true) (sym same) own;
    }

-- the sender of each leg's frame is one of the network
abbrev pub SendersAreKnown : {T : Type 0} → DeclaredNetwork → Course T → Type 0
SendersAreKnown network course = (row : ℕ) → row < length course.records
    → (progress_at course.records row).release.sender < length (senders_of network)

-- what holds of the run's transmissions at a port holds of those that it has sent
of_standing : {T : Type 0} {key : T → ℕ → ℕ → ℕ} {network : DeclaredNetwork} {course : Course T} {port : ℕ}
    {s : PortState T} (Q : Transmission → Type 0) → IsPortOf key network course port s
    → All Q (sent_so_far network course port) → All (λ (x : Sent). Q (transmission_of x)) s.sent
of_standing {T} {key} {network} {course} {port} {s} Q kept all =
    all_unmapped Q transmission_of s.sent
    (All-permutation Q (sent_so_far network course port) (transmissions s.sent)
    (IsPermutation-sym (transmissions s.sent) (sent_so_far network course port) kept.past.sent) all)

-- a frame that a port sent passes it
sent-passes : {T : Type 0} {key : T → ℕ → ℕ → ℕ} {network : DeclaredNetwork} {course : Course T} {port : ℕ}
    {s : PortState T} {releases : List Release} → IsNetwork network → IsShaped network releases course
    → SendersAreKnown network course → IsPortOf key network course port s
    → All (λ (x : Sent). Passes network (trunks_of course) port (x.frame, x.class)) s.sent
sent-passes {T} {key} {network} {course} {port} {s} rules shape known kept =
    let Q : Transmission → Type 0 =
    λ (x : Transmission). Passes network (trunks_of course) port (x.frame, x.class) in
    let P : Hop → Type 0 = λ (h : Hop). h.port ≡ port → Q h.sent in
    of_standing Q kept (of_rows Q network course port (λ row within. (
    let progress : Progress = progress_at course.records row in
    let sender : Sender = sender_of network progress in
    let path : List ℕ = path_of network progress in
    all_hops P progress.frame progress.release sender path progress.hops (λ k d h e times here.
    frame-passes rules shape row port (class_at sender (get_or path k d)) within (known row within)
    (contains-at path k port d h here) (ap (class_at sender) (sym here))))))

-- so does one that it holds
held-passes : {T : Type 0} {key : T → ℕ → ℕ → ℕ} {network : DeclaredNetwork} {course : Course T} {port : ℕ}
    {s : PortState T} {releases : List Release} → IsNetwork network → IsShaped network releases course
    → IsPortOf key network course port s
    → ((r : ℕ) → r < length course.records → stage_at course r ≡ Waiting
    → IsStanding network IsUnsent (progress_at course.records r))
    → All (λ (o : Offer). Passes network (trunks_of course) port (o.frame, o.class)) s.held
held-passes {T} {key} {network} {course} {port} {s} rules shape kept standing k d h =
    let o : Offer = get_or s.held k d in
    let held : IsHeld network course port o = kept.holding.held k d h in
    let p : Progress = progress_at course.records held.row in
    let at : IsStanding network IsUnsent p = standing held.row held.within held.stage in
    let some : 0 < length p.hops = stands-some IsUnsent (path_of network p) p.hops at.stands in
    let most : length p.hops ≤ length (path_of network p) =
    stands-at_most IsUnsent (path_of network p) p.hops at.stands in
    let has : Contains (path_of network p) port =
    subst (Contains (path_of network p)) held.place (place-has network p some most) in
    let class : class_at (sender_of network p) port ≡ o.class =
    ap (class_at (sender_of network p)) (sym held.place) ∙ ap (λ (x : Offer). x.class) held.same in
    subst (λ (f : ℕ). Passes network (trunks_of course) port (f, o.class)) (ap (λ (x : Offer). x.frame) held.same)
    (frame-passes rules shape held.row port o.class held.within at.sender has class)

-- a frame whose last record along a leg is without a transmission was not sent by the port of that record
pub not-sent-here : {T : Type 0} {key : T → ℕ → ℕ → ℕ} {network : DeclaredNetwork} {course : Course T} {port : ℕ}
    {s : PortState T} {releases : List Release} {Last : HopRecord → Type 0} (row : ℕ) → IsNetwork network
    → IsShaped network releases course → IsPortOf key network course port s → place_at network course row ≡ port
    → row < length course.records → ((hop : HopRecord) → Last hop → hop.sent ≡ None)
    → IsStanding network Last (progress_at course.records row)
    → All (λ (x : Sent). x.frame ≢ (progress_at course.records row).frame) s.sent
not-sent-here {T} {key} {network} {course} {port} {s} {releases} {Last} row rules shape kept place within none at =
    let p : Progress = progress_at course.records row in
    let path : List ℕ = path_of network p in
    let Q : Transmission → Type 0 = λ (x : Transmission). x.frame ≢ p.frame in
    let P : Hop → Type 0 = λ (h : Hop). h.port ≡ port → Q h.sent in
    let Along : ℕ → Type 0 = λ (r : ℕ). All P (leg_hops network (progress_at course.records r)) in
    let some : 0 < length p.hops = stands-some Last path p.hops at.stands in
    let most : length p.hops ≤ length path = stands-at_most Last path p.hops at.stands in
    let has : Contains path port = subst (Contains path) place (place-has network p some most) in
    let this : Along row = All-weaker (λ (h : Hop). h.port ≢ place_of network p) P
    (λ h other here. absurd (other (here ∙ sym place))) (leg_hops network p)
    (not_sent_last Last p.frame p.release (sender_of network p) path p.hops (length p.hops - 1) (omega arith) none
    (leg-apart network p.release.sender p.leg rules at.sender at.leg) at.stands) in
    of_standing Q kept (of_rows Q network course port (λ r there. elim (cases_eq r row) as (λ _. Along r) [
      | inl e ↦ subst Along (sym e) this
      | inr n ↦ (
          let q : Progress = progress_at course.records r in
          all_hops P q.frame q.release (sender_of network q) (path_of network q) q.hops
          (λ k d h e times here named. n (sym (port-one rules shape row r port within there at.sender (sym named) has
          (contains-at (path_of network q) k port d h here)))))
    ]))

-- so there is room for it
pub room-here : {T : Type 0} {key : T → ℕ → ℕ → ℕ} {network : DeclaredNetwork} {course : Course T} {port : ℕ}
    {s : PortState T} {releases : List Release} {Last : HopRecord → Type 0} (row : ℕ) → IsNetwork network
    → IsShaped network releases course → SendersAreKnown network course → IsPortOf key network course port s
    → place_at network course row ≡ port → row < length course.records
    → ((r : ℕ) → r < length course.records → stage_at course r ≡ Waiting
    → IsStanding network IsUnsent (progress_at course.records r))
    → IsStanding network Last (progress_at course.records row)
    → All (λ (o : Offer). o.frame ≢ (progress_at course.records row).frame) s.held
    → All (λ (x : Sent). x.frame ≢ (progress_at course.records row).frame) s.sent
    → (offer_at network course row).class ≤ 7
    → offered_of s (offer_at network course row).class
    < slice_index s.rooms (offer_at network course row).class
room-here {T} {key} {network} {course} {port} {s} {releases} {Last} row rules shape known kept place within stand at
    not_held not_sent few =
    let p : Progress = progress_at course.records row in
    let path : List ℕ = path_of network p in
    let class : ℕ = (offer_at network course row).class in
    let Row : ℕ × ℕ → Type 0 = Passes network (trunks_of course) port in
    let Other : ℕ × ℕ → Type 0 = λ (row : ℕ × ℕ). row.0 ≢ p.frame in
    let of_offer : Offer → ℕ × ℕ = λ (o : Offer). (o.frame, o.class) in
    let of_sent : Sent → ℕ × ℕ = λ (x : Sent). (x.frame, x.class) in
    let some : 0 < length p.hops = stands-some Last path p.hops at.stands in
    let most : length p.hops ≤ length path = stands-at_most Last path p.hops at.stands in
    let has : Contains path port = subst (Contains path) place (place-has network p some most) in
    let less : offered_of s class < room_of network course port class =
    room_for network (trunks_of course) port p.frame class s kept.holding.apart
    (All-append Row (map of_offer s.held) (map of_sent s.sent)
    (All-map Row of_offer s.held (held-passes rules shape kept stand))
    (All-map Row of_sent s.sent (sent-passes rules shape known kept)))
    (All-append Other (map of_offer s.held) (map of_sent s.sent) (All-map Other of_offer s.held not_held)
    (All-map Other of_sent s.sent not_sent))
    (frame-passes rules shape row port class within at.sender has (ap (class_at (sender_of network p)) (sym place))) in
    omega (arith, less, kept.of_network.rooms class few)
