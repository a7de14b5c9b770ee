-- Nothing is late or over exactly where some certificate holds.
use Rattle.std.proofs.Common.{◌≡◌, ◌*◌, ℕ, Bool, true, false, cond, List, [], ◌∷◌, get_or, map, sum_by}
use Rattle.std.proofs.Common.{count_by, Option, Some, None, sym, ap, ◌∙◌, refl, eqb, arith}
use Rattle.std.specs.Prelude.{nat_lt}
use Rattle.std.specs.List.{All}
use Rattle.std.proofs.lemmas.Bool.{and_parts, eqb-true}
use Rattle.std.proofs.lemmas.List.Elements.{All-cons, All-head, All-map, All-nil, All-tail}
use Rattle.std.proofs.lemmas.List.Sums.{sum_by-cons}
use Rattle.ats_facts.proofs.Lists.{all_unmapped, count_by-cons}
use Rattle.ats_facts.proofs.Options.{cond-none, option_or-none}
use Rattle.ats_num.specs.declared.time.TheConstants.{PS_PER_NS}
use Rattle.ats_streams.specs.Stream.{DeclaredStream}
use Rattle.ats_network.specs.Class.{class_at, seen_at}
use Rattle.ats_network.specs.Listeners.{Listener, listeners_of}
use Rattle.ats_network.specs.Network.{DeclaredNetwork, IsNetwork}
use Rattle.ats_network.specs.Residence.{residence_after}
use Rattle.ats_network.specs.Sender.{Sender, stream_sender}
use Rattle.ats_certificate.specs.Certificate.{Holds, bound_on}
use Rattle.ats_certificate.specs.PortSums.{is_of, is_used, uses}
use Rattle.ats_certificate.specs.Used.{places_of}
use Rattle.ats_certificate.specs.declared.row.Row.{Row}
use Rattle.ats_tally.specs.Reason.{first_some, late, late_for, overstay, overstay_by, row_need}
use Rattle.ats_tally.specs.declared.reason.Reason.TheVariants.{Deadline, Residence}
use Rattle.ats_tally.proofs.Lists.{any_gives, first_some-none, none_first}
use Rattle.ats_tally.proofs.Places.{is_at, places_have, places_used}
use Rattle.ats_tally.proofs.Reasons.{by_fail}
use Rattle.ats_bound.specs.Least.{least_row, least_certificate}
use Rattle.ats_bound.specs.Reason.{overload}
use Rattle.ats_bound.proofs.LeastHolds.{least_certificate_holds}
use Rattle.ats_bound.proofs.NoneHolds.{no_reason_held, reason_of-none}
use Rattle.ats_explain.specs.Laws.{Carries, ClearWhereOneHolds, IsClear}
use Rattle.ats_explain.specs.Margins.{StreamListener, all_listeners, is_late, margin_of, with_listeners}
use Rattle.ats_explain.specs.Parts.{HopIsUsed, is_over, parts_at, parts_of_hop, stay_by}
use Rattle.ats_explain.specs.Totals.{over_among, over_count}
use Rattle.ats_explain.specs.declared.margin.Margin.{Margin}
use Rattle.ats_explain.proofs.Hops.{hops_used, is_user, used_by}
use Rattle.ats_explain.proofs.Numbered.{all_joined, all_parted}

-- none passes a test exactly where their count is 0
count_none : {X : Type 0} (test : X → Bool) (xs : List X) → count_by test xs ≡ 0
    → All (λ (x : X). test x ≡ false) xs
count_none test [] none = All-nil (λ x. test x ≡ false)
count_none {X} test (x ∷ xs) none =
    let whole = count_by-cons test x xs in
    All-cons (λ (y : X). test y ≡ false) x xs (fails (test x) (omega (arith, whole, none)))
    (count_none test xs (omega (arith, whole, none)))
  where
    fails : (b : Bool) → ◌≡◌ {A = ℕ} (cond b 1 0) 0 → b ≡ false
    fails true h = absurd (omega arith)
    fails false h = refl

none_counts : {X : Type 0} (test : X → Bool) (xs : List X) → All (λ (x : X). test x ≡ false) xs
    → count_by test xs ≡ 0
none_counts test [] all = refl
none_counts {X} test (x ∷ xs) all =
    let rest = none_counts test xs (All-tail (λ (y : X). test y ≡ false) x xs all) in
    let first = ap {B = ℕ} (λ (b : Bool). cond b 1 0) (All-head (λ (y : X). test y ≡ false) x xs all) in
    omega (arith, count_by-cons test x xs, rest, first)

-- each is 0 exactly where their sum is
sum_none : {X : Type 0} (f : X → ℕ) (xs : List X) → sum_by f xs ≡ 0 → All (λ (x : X). f x ≡ 0) xs
sum_none f [] none = All-nil (λ x. f x ≡ 0)
sum_none {X} f (x ∷ xs) none =
    let whole = sum_by-cons f x xs in
    All-cons (λ (y : X). f y ≡ 0) x xs (omega (arith, whole, none)) (sum_none f xs (omega (arith, whole, none)))

none_sums : {X : Type 0} (f : X → ℕ) (xs : List X) → All (λ (x : X). f x ≡ 0) xs → sum_by f xs ≡ 0
none_sums f [] all = refl
none_sums {X} f (x ∷ xs) all =
    let rest = none_sums f xs (All-tail (λ (y : X). f y ≡ 0) x xs all) in
    omega (arith, sum_by-cons f x xs, rest, All-head (λ (y : X). f y ≡ 0) x xs all)

-- a stay that is not too long is no reason against a row
stays_from : (need : ℕ) (row : Row) (residence : Option ℕ) → is_over (stay_by need residence) ≡ false
    → overstay_by row need residence ≡ None
stays_from need row None h = refl
stays_from need row (Some ns) h = by_fail (nat_lt (PS_PER_NS * ns) need) (Residence row.port row.class need) h

stays_to : (need : ℕ) (row : Row) (residence : Option ℕ) → overstay_by row need residence ≡ None
    → is_over (stay_by need residence) ≡ false
stays_to need row None h = refl
stays_to need row (Some ns) h = cond-none (nat_lt (PS_PER_NS * ns) need) (Residence row.port row.class need) h

-- the stays of all hops are short enough exactly where no row of the least certificate has a reason against it
row_stays : (network : DeclaredNetwork) (port class : ℕ) → over_count network ≡ 0 → is_used network port class ≡ true
    → overstay network (least_row network (port, class)) ≡ None
row_stays network port class none used =
    any_gives (is_user network.topology port class) (overstay network (least_row network (port, class)) ≡ None)
    network.streams (λ k d h user. (
    let stream : DeclaredStream = get_or network.streams k d in
    let s : Sender = stream_sender stream in
    let both = and_parts (uses port s) (is_of class (seen_at network.topology port s)) user in
    let class_is : class_at (stream_sender stream) port ≡ class =
    eqb-true (class_at (stream_sender stream) port) class both.1 in
    let along : All (λ p. is_over (parts_of_hop network stream p).stay ≡ false) stream.ports =
    count_none (λ p. is_over (parts_of_hop network stream p).stay) stream.ports
    (sum_none (λ (s : DeclaredStream). over_among network s s.ports) network.streams none k d h) in
    any_gives (λ p. eqb p port) (overstay network (least_row network (port, class)) ≡ None) stream.ports
    (λ hop e inside there. stays_from (row_need network (least_row network (port, class)))
    (least_row network (port, class))
    (residence_after network.topology port)
    (ap (λ (n : ℕ). is_over (parts_at network port n).stay) (sym class_is)
    ∙ ap (λ (n : ℕ). is_over (parts_of_hop network stream n).stay)
    (sym (eqb-true (get_or stream.ports hop e) port there))
    ∙ along hop e inside)) both.0))
    (sym (used_by network port class) ∙ used)

hop_stays : (network : DeclaredNetwork) (port class : ℕ) → IsNetwork network
    → first_some (overstay network) (least_certificate network) ≡ None → is_used network port class ≡ true
    → is_over (parts_at network port class).stay ≡ false
hop_stays network port class is none used =
    let each : All (λ (at : ℕ × ℕ). overstay network (least_row network at) ≡ None) (places_of network) =
    all_unmapped (λ (row : Row). overstay network row ≡ None) (least_row network) (places_of network)
    (none_first (overstay network) (least_certificate network) none) in
    stays_to (row_need network (least_row network (port, class))) (least_row network (port, class))
    (residence_after network.topology port)
    (any_gives (is_at port class) (overstay network (least_row network (port, class)) ≡ None) (places_of network)
    (λ k d h there. (
    let at : ℕ × ℕ = get_or (places_of network) k d in
    let parts = and_parts (eqb at.0 port) (eqb at.1 class) there in
    ap (λ (n : ℕ). overstay network (least_row network (n, class))) (sym (eqb-true at.0 port parts.0))
    ∙ ap (λ (n : ℕ). overstay network (least_row network (at.0, n))) (sym (eqb-true at.1 class parts.1))
    ∙ each k d h))
    (places_have network port class is used))

-- a stream that is late for no listener has no reason against it
abbrev IsNotLate : DeclaredNetwork → StreamListener → Type 0
IsNotLate network one = is_late (margin_of network one) ≡ false

time_from : (network : DeclaredNetwork) (stream : DeclaredStream)
    → All (IsNotLate network) (with_listeners network stream)
    → late network.topology (least_certificate network) stream ≡ None
time_from network stream h =
    let rows : List Row = least_certificate network in
    let listeners : List Listener = listeners_of network.topology stream in
    let each : All (λ (l : Listener). is_late (margin_of network (stream, l)) ≡ false) listeners =
    all_unmapped (IsNotLate network) (λ (l : Listener). (stream, l)) listeners h in
    first_some-none (late_for rows stream) listeners
    (λ k d within. (
    let l : Listener = get_or listeners k d in
    by_fail (nat_lt (PS_PER_NS * stream.deadline_ns) (bound_on rows stream l.route))
    (Deadline stream.name l.name (bound_on rows stream l.route)) (each k d within)))

time_to : (network : DeclaredNetwork) (stream : DeclaredStream)
    → late network.topology (least_certificate network) stream ≡ None
    → All (IsNotLate network) (with_listeners network stream)
time_to network stream h =
    let rows : List Row = least_certificate network in
    let listeners : List Listener = listeners_of network.topology stream in
    All-map (IsNotLate network) (λ (l : Listener). (stream, l)) listeners
    (λ k d within. (
    let l : Listener = get_or listeners k d in
    cond-none (nat_lt (PS_PER_NS * stream.deadline_ns) (bound_on rows stream l.route))
    (Deadline stream.name l.name (bound_on rows stream l.route))
    (none_first (late_for rows stream) listeners h k d within)))

some_holds : (network : DeclaredNetwork) → IsNetwork network → Carries network → IsClear network
    → (rows : List Row) × Holds network rows
some_holds network is carries clear =
    let stays : first_some (overstay network) (least_certificate network) ≡ None =
    first_some-none (overstay network) (least_certificate network)
    (All-map (λ (row : Row). overstay network row ≡ None) (least_row network) (places_of network)
    (λ k d h. row_stays network (get_or (places_of network) k d).0 (get_or (places_of network) k d).1 clear.stay
    (places_used network k d h))) in
    let margins : All (IsNotLate network) (all_listeners network) =
    all_unmapped (λ (m : Margin). is_late m ≡ false) (margin_of network) (all_listeners network)
    (count_none is_late (map (margin_of network) (all_listeners network)) clear.in_time) in
    let each : All (λ (s : DeclaredStream). All (IsNotLate network) (with_listeners network s)) network.streams =
    all_parted (IsNotLate network) (with_listeners network) network.streams margins in
    let times : first_some (late network.topology (least_certificate network)) network.streams ≡ None =
    first_some-none (late network.topology (least_certificate network)) network.streams
    (λ k d h. time_from network (get_or network.streams k d) (each k d h)) in (
      least_certificate network,
      (least_certificate_holds network is (reason_of-none network carries stays times)).holds,
    )

is_clear : (network : DeclaredNetwork) (rows : List Row) → IsNetwork network → Holds network rows → IsClear network
is_clear network rows is holds =
    let first = option_or-none (first_some (overload network) (places_of network)) _
    (no_reason_held network rows is holds) in
    let second = option_or-none (first_some (overstay network) (least_certificate network)) _ first.1 in
    let times = none_first (late network.topology (least_certificate network)) network.streams second.1 in
    record {
      in_time = none_counts is_late (map (margin_of network) (all_listeners network))
          (All-map (λ (m : Margin). is_late m ≡ false) (margin_of network) (all_listeners network)
          (all_joined (IsNotLate network) (with_listeners network) network.streams
          (λ k d h. time_to network (get_or network.streams k d) (times k d h))));
      stay = none_sums (λ (s : DeclaredStream). over_among network s s.ports) network.streams
          (λ k d h. (
          let stream : DeclaredStream = get_or network.streams k d in
          let used : All (HopIsUsed network stream) stream.ports = hops_used network k d h in
          none_counts (λ port. is_over (parts_of_hop network stream port).stay) stream.ports
          (λ hop e inside. hop_stays network (get_or stream.ports hop e)
          (class_at (stream_sender stream) (get_or stream.ports hop e)) is second.0 (used hop e inside))));
    }

pub clear_where_one_holds : ClearWhereOneHolds
clear_where_one_holds network is carries =
    (some_holds network is carries, λ held. is_clear network held.0 is held.1)
