-- Shaping is free where each bridge goes by its own clock.
use Rattle.std.proofs.Common.{◌≡◌, ℕ, ◌+◌, ◌-◌, ◌*◌, ◌<◌, ◌≤◌, true, cond, List, [], ◌∷◌, map, filter}
use Rattle.std.proofs.Common.{length, get_or, All, sum_by, refl, sym, ap, ◌∙◌, subst, mul-le-mul_left, arith}
use Rattle.std.specs.Prelude.{◌==◌}
use Rattle.std.specs.List.{AllZip}
use Rattle.std.specs.List.Sorted.{IsNonDecreasing, IsNonDecreasingBy}
use Rattle.std.proofs.lemmas.List.{get_or-map, length-map}
use Rattle.std.proofs.lemmas.List.Elements.{All-contains, All-map, All-weaker}
use Rattle.std.proofs.lemmas.List.Kept.{IsNonDecreasingBy-filter}
use Rattle.std.proofs.lemmas.List.Sorted.{All-permutation, IsPermutation-sym}
use Rattle.ats_num.specs.Division.{ceiling}
use Rattle.ats_num.specs.Wire.{bits_of}
use Rattle.ats_num.specs.declared.time.TheConstants.{PS_PER_NS}
use Rattle.ats_num.proofs.Ceiling.{ceiling-is}
use Rattle.ats_bucket.specs.Conforming.{Frame}
use Rattle.ats_clock.specs.Clock.{DeclaredClock}
use Rattle.ats_clock.specs.Laws.{IsNoGreater}
use Rattle.ats_clock.specs.Rates.{output_of, scheduler_for}
use Rattle.ats_clock.specs.declared.clock.TheConstants.{MILLION}
use Rattle.ats_clock.specs.declared.committed.Committed.{Committed}
use Rattle.ats_clock_law.specs.Crossing as crossing
use Rattle.ats_clock_law.specs.Crossing.{ComeThrough, HasRoom, IsEligibleWithin, crossing_offers}
use Rattle.ats_clock_law.specs.Retiming.{ConformTo}
use Rattle.ats_clock_law.specs.TrueTime.{AreTrueVerdicts, IsTrueEligibility, committed_of}
use Rattle.ats_clock_law.proofs.Delayed.{free_by_clocks}
use Rattle.ats_clock_law.proofs.Pairs.{order-mapped}
use Rattle.ats_topology.specs.Port.{port_at}
use Rattle.ats_network.specs.Bridges.{IsBridgeAt}
use Rattle.ats_network.specs.Network.{DeclaredNetwork, IsNetwork, senders_of}
use Rattle.ats_network.specs.Rates.{clock_behind, declared_with}
use Rattle.ats_network.specs.Senders.{sender_at}
use Rattle.ats_certificate.specs.Certificate.{RowHolds, residence_needed}
use Rattle.ats_certificate.specs.PortSums.{is_used, uses}
use Rattle.ats_certificate.specs.declared.row.Row.{Row}
use Rattle.ats_streams.specs.Traffic.{IsRuled, is_declared_size}
use Rattle.ats_group.specs.Group.{Offer}
use Rattle.ats_group.specs.Judge.{ats_judge}
use Rattle.ats_group.specs.declared.verdict.Verdict.{Verdict}
use Rattle.ats_group_law.proofs.Order.{from_frames}
use Rattle.ats_group_law.proofs.Regulator.{ats_is_regulator}
use Rattle.ats_group_law.proofs.ShapingUse.{All-from_all_zip}
use Rattle.ats_port_rule.specs.Transmission.{Transmission}
use Rattle.ats_port_law.specs.PortLaw.{IsDeclared}
use Rattle.ats_port_law.proofs.Sums.{sum_by-filter}
use Rattle.ats_port_law.proofs.Used.{IsPlace, used_place}
use Rattle.ats_trace.specs.Clocks.{IsJudgedBy, IsLegal}
use Rattle.ats_trace.specs.Eligibility.{offer_of, residence_of_groups, scheduled_by}
use Rattle.ats_trace.specs.Journey.{Travel}
use Rattle.ats_trace.specs.Projections.{Handed, handed_by, sent_by}
use Rattle.ats_soundness_law.specs.Laws.{IsHandedOn, ShapingForFree}
use Rattle.ats_soundness_law.specs.Sound.{IsEligibleBy}
use Rattle.ats_soundness_law.specs.TrueTime.{KeepsBucketsIn}
use Rattle.ats_soundness_law.proofs.Arrivals.{HasArrived, arrived}
use Rattle.ats_soundness_law.proofs.Bits.{sum_by-map}
use Rattle.ats_soundness_law.proofs.ByClock.{HasTold, at_told}
use Rattle.ats_soundness_law.proofs.KeptIn.{KeptIn, kept_in, told_weight}
use Rattle.ats_soundness_law.proofs.Known.{Case}
use Rattle.ats_soundness_law.proofs.OfferedIn.{came_is, came_of, port_is_offered}
use Rattle.ats_soundness_law.proofs.Passages.{crossed-le, passage_weight}
use Rattle.ats_soundness_law.proofs.Paths.{sender_is}
use Rattle.ats_soundness_law.proofs.SentWith.{output_is, sent_with}
use Rattle.ats_soundness_law.proofs.Streams.{member_ruled}
use Rattle.ats_soundness_law.proofs.Timely.{AtRow, OnTime, at_row, in_order, may_stay, on_time}
use Rattle.ats_soundness_law.proofs.ToldTimes.{case_in, deviates, keeps_clock, node_clock, told_sent}

-- a frame that a port hands on, with its times there
abbrev pub crossing_of : (shows told : ℕ → ℕ) → Handed → crossing.Crossing
crossing_of shows told h = record {
  came = came_of shows (told h.crossing.sent.frame) h.crossing.sent.eligible;
  told = told h.crossing.sent.frame;
  eligible = h.crossing.sent.eligible;
  offer = offer_of h;
}

offers_are : (shows told : ℕ → ℕ) (arrivals : List Handed)
    → map offer_of arrivals ≡ crossing_offers (map (crossing_of shows told) arrivals)
offers_are shows told [] = refl
offers_are shows told (h ∷ hs) = ap (λ (os : List Offer). offer_of h ∷ os) (offers_are shows told hs)

abbrev told_frame : crossing.Crossing → Frame
told_frame x = record { at = x.told; bits = bits_of x.offer.octets }

-- a member's frames there, at the times that they were told, as a sum over what is handed on
told_before : (shows told : ℕ → ℕ) (i : ℕ) (weight : Frame → ℕ) (arrivals : List Handed)
    → sum_by weight (crossing.told_frames i (map (crossing_of shows told) arrivals))
    ≡ sum_by (passage_weight i (at_told told weight)) arrivals
told_before shows told i weight arrivals =
    let own = λ (x : crossing.Crossing). x.offer.member == i in
    let of_member : crossing.Crossing → ℕ = λ (x : crossing.Crossing).
    cond (x.offer.member == i) (weight (told_frame x)) 0 in
    sum_by-map told_frame weight (filter own (map (crossing_of shows told) arrivals))
    ∙ sum_by-filter (λ (x : crossing.Crossing). weight (told_frame x)) own (map (crossing_of shows told) arrivals)
    ∙ sum_by-map (crossing_of shows told) of_member arrivals

-- numbers of the elements of a list that do not descend
order_by : {X : Type 0} (n : X → ℕ) (xs : List X) → IsNonDecreasing (map n xs) → IsNonDecreasingBy n xs
order_by n xs o i j d le within =
    omega (
      arith,
      o i j (n d) le (omega (arith, within, length-map xs n)),
      get_or-map n xs i d (n d) (omega arith),
      get_or-map n xs j d (n d) within,
    )

-- enough by a fast clock
enough : (ppm step need stay most : ℕ) → need + step + ceiling (ppm * need) MILLION ≤ most → stay ≤ need
    → (MILLION + ppm) * stay + MILLION * step ≤ MILLION * most
enough ppm step need stay most within less =
    let reaches = (ceiling-is (ppm * need) MILLION (omega arith)).reaches in
    omega (
      arith,
      reaches,
      mul-le-mul_left MILLION within,
      mul-le-mul_left MILLION less,
      mul-le-mul_left ppm less,
    )

-- the frames of the row's class, where the node that the port leaves keeps its buckets
module _ (network : DeclaredNetwork) (run : List Travel) (row : Row) (net : IsNetwork network)
    (legal : IsLegal network run) (used : is_used network row.port row.class ≡ true)
    (bridge : IsBridgeAt network.topology (port_at network.topology.ports row.port).to)
    (holds : RowHolds network row)
    (keeps : KeepsBucketsIn network run legal (port_at network.topology.ports row.port).from) where
  abbrev node : ℕ
  node = (port_at network.topology.ports row.port).from

  abbrev next : ℕ
  next = (port_at network.topology.ports row.port).to

  abbrev shows : ℕ → ℕ
  shows = legal.clocks node

  abbrev told : ℕ → ℕ
  told = legal.told node

  abbrev c : Case network run
  c = case_in net legal

  place : IsPlace (length network.topology.ports) row.port row.class
  place = used_place network row.port row.class net used

  abbrev a : AtRow network run row
  a = at_row network run row c used bridge holds (port_is_offered network run row.port net legal place.within keeps)

  abbrev scheduled : ℕ → Committed
  scheduled member = sent_with network.topology (sender_at network member) row.port

  abbrev Came : Handed → Type 0
  Came = HasArrived network run row.port row.class

  abbrev Group : Type 0
  Group = IsJudgedBy (legal.clocks next) (legal.told next) network row.port (handed_by network run row.port row.class)

  came : (j : Group) → All Came j.arrivals
  came j = All-permutation Came (handed_by network run row.port row.class) j.arrivals j.same
      (arrived network run row.port row.class c)

  timely : (j : Group) → All (OnTime network row) j.arrivals
  timely j = All-weaker Came (OnTime network row) (on_time network run row a) j.arrivals (came j)

  has_told : (j : Group)
      → All (λ (h : Handed). HasTold shows (told h.crossing.sent.frame) h.crossing.sent.eligible) j.arrivals
  has_told j k d h = All-contains (λ (x : Transmission). HasTold shows (told x.frame) x.eligible)
      (sent_by network run row.port) (get_or j.arrivals k d).crossing.sent (told_sent network run net legal row.port)
      (came j k d h).sent

  abbrev crossings : Group → List crossing.Crossing
  crossings j = map (crossing_of shows told) j.arrivals

  ordered : (j : Group) → IsNonDecreasingBy (λ (x : crossing.Crossing). x.told) (crossings j)
  ordered j = order-mapped (λ (x : crossing.Crossing). x.told) (crossing_of shows told) j.arrivals
      (in_order network run row a j.arrivals (came j) j.in_order)

  -- a member's conform to that with which the node sends them
  conformed : (j : Group) (i : ℕ) → i < length network.streams
      → ConformTo (scheduled i) (crossing.told_frames i (crossings j))
  conformed j i h =
      let kept : KeptIn told network run row.port i = kept_in network run row.port i net legal keeps h in
      let own = λ (x : crossing.Crossing). x.offer.member == i in
      let frames : List Frame = crossing.told_frames i (crossings j) in
      ats_is_regulator.rule.fewer (declared_with (scheduled i) (sender_at network i)) frames kept.others kept.keeps
      (from_frames frames (order-mapped (λ (f : Frame). f.at) told_frame (filter own (crossings j))
      (IsNonDecreasingBy-filter (λ (x : crossing.Crossing). x.told) own (crossings j) (ordered j))))
      (λ weight. omega (
        arith,
        told_before shows told i weight j.arrivals,
        crossed-le network run row.port row.class c j.arrivals j.same i (at_told told weight),
        told_weight told i (sent_by network run row.port) weight,
        kept.no_more weight,
      ))

  come_through : (j : Group)
      → ComeThrough (node_clock network.topology node) shows scheduled row.bound (crossings j)
  come_through j = record {
    keeps = keeps_clock network run legal node;
    told = All-map (λ (x : crossing.Crossing). shows x.came ≤ x.told) (crossing_of shows told) j.arrivals
        (λ k d h. (came_is shows (told (get_or j.arrivals k d).crossing.sent.frame)
        (get_or j.arrivals k d).crossing.sent.eligible (has_told j k d h)).0);
    eligible = All-map (λ (x : crossing.Crossing). IsTrueEligibility shows x.came x.told x.eligible)
        (crossing_of shows told) j.arrivals
        (λ k d h. (came_is shows (told (get_or j.arrivals k d).crossing.sent.frame)
        (get_or j.arrivals k d).crossing.sent.eligible (has_told j k d h)).1);
    in_order = ordered j;
    conformed = All-map (λ (x : crossing.Crossing).
        ConformTo (scheduled x.offer.member) (crossing.told_frames x.offer.member (crossings j)))
        (crossing_of shows told) j.arrivals
        (λ k d h. conformed j (get_or j.arrivals k d).crossing.sent.sender (timely j k d h).stream);
    arrive_in_order = order-mapped (λ (x : crossing.Crossing). x.offer.arrival) (crossing_of shows told) j.arrivals
        (order_by (λ (h : Handed). h.crossing.arrival) j.arrivals j.in_order);
    arrives = All-map (λ (x : crossing.Crossing). x.offer.arrival ≤ x.eligible + row.bound) (crossing_of shows told)
        j.arrivals (λ k d h. (timely j k d h).arrives);
  }

  abbrev clock : DeclaredClock
  clock = clock_behind network.topology row.port

  abbrev arriving : ℕ → Committed
  arriving member = output_of (node_clock network.topology node) (scheduled member)

  -- the bridge behind the port has room for them
  has_room : (j : Group) → HasRoom clock (scheduled_by network row.port) (residence_of_groups network row.port) arriving
      row.bound (crossings j)
  has_room j = record {
    deviation = deviates network.topology next net.topology;
    ruled = All-map (λ (x : crossing.Crossing). IsRuled (scheduled_by network row.port x.offer.member))
        (crossing_of shows told) j.arrivals
        (λ k d h. member_ruled network net row.port (get_or j.arrivals k d).crossing.sent.sender
        (timely j k d h).exists (timely j k d h).shaped);
    sized = All-map (λ (x : crossing.Crossing).
        is_declared_size (scheduled_by network row.port x.offer.member) x.offer.octets ≡ true)
        (crossing_of shows told) j.arrivals (λ k d h. (timely j k d h).size);
    scheduled = All-map (λ (x : crossing.Crossing). IsNoGreater (scheduler_for clock (arriving x.offer.member))
        (committed_of (scheduled_by network row.port x.offer.member))) (crossing_of shows told) j.arrivals
        (λ k d h. as_scheduled (get_or j.arrivals k d).crossing.sent.sender (timely j k d h).exists
        (All-contains (IsDeclared network row.port) (sent_by network run row.port)
        (get_or j.arrivals k d).crossing.sent a.offered.offered.each (came j k d h).sent).uses);
    may_stay = All-map (λ (x : crossing.Crossing).
        (MILLION + clock.deviation_ppm) * (x.eligible + row.bound - x.offer.arrival) + MILLION * clock.step_ps
        ≤ MILLION * (PS_PER_NS * residence_of_groups network row.port)) (crossing_of shows told) j.arrivals
        (λ k d h. (
        let one : Handed = get_or j.arrivals k d in
        let need : ℕ = residence_needed (port_at network.topology.ports row.port) row.wait in
        let needs = (timely j k d h).needs in
        enough clock.deviation_ppm clock.step_ps need (one.crossing.sent.eligible + row.bound - one.crossing.arrival)
        (PS_PER_NS * residence_of_groups network row.port) (may_stay network run row a) (omega (arith, needs))));
  }
    where
      as_scheduled : (i : ℕ) → i < length (senders_of network) → uses row.port (sender_at network i) ≡ true
          → IsNoGreater (scheduler_for clock (arriving i)) (committed_of (scheduled_by network row.port i))
      as_scheduled i exists uses =
          subst (λ (seen : Committed). IsNoGreater (scheduler_for clock seen)
          (committed_of (scheduled_by network row.port i)))
          (sym (output_is network.topology (sender_at network i) row.port (sender_is network net i exists) uses))
          (record { rate = omega arith; burst = omega arith })

  handed_on : (h : Handed) → IsEligibleWithin row.bound (crossing_of shows told h) h.verdict → IsHandedOn row h
  handed_on h within =
      subst (λ (v : Verdict). IsEligibleBy (h.crossing.sent.eligible + row.bound) (λ e. Unit {0}) v)
      (sym within.1) (within.2, tt)

  pub shaped_in : All (IsHandedOn row) (handed_by network run row.port row.class)
  shaped_in =
      let j : Group = legal.groups row.port row.class place.within place.ranked in
      let Within : crossing.Crossing → Verdict → Type 0 = IsEligibleWithin row.bound in
      let verdicts : List Verdict = map (λ (h : Handed). h.verdict) j.arrivals in
      let truly : AreTrueVerdicts (legal.clocks next) ats_judge (scheduled_by network row.port)
      (residence_of_groups network row.port) (crossing_offers (crossings j)) verdicts =
      subst (λ (os : List Offer). AreTrueVerdicts (legal.clocks next) ats_judge (scheduled_by network row.port)
      (residence_of_groups network row.port) os verdicts) (offers_are shows told j.arrivals) j.verdicts in
      let free : AllZip Within (crossings j) verdicts =
      free_by_clocks (node_clock network.topology node) clock shows (legal.clocks next) scheduled ats_judge
      (scheduled_by network row.port) (residence_of_groups network row.port) row.bound (crossings j) verdicts
      (come_through j) (keeps_clock network run legal next) (has_room j) ats_is_regulator.regulator truly in
      All-permutation (IsHandedOn row) j.arrivals (handed_by network run row.port row.class)
      (IsPermutation-sym (handed_by network run row.port row.class) j.arrivals j.same)
      (All-weaker (λ (h : Handed). Within (crossing_of shows told h) h.verdict) (IsHandedOn row) handed_on j.arrivals
      (All-from_all_zip Within (crossing_of shows told) (λ (h : Handed). h.verdict) j.arrivals free))

pub shaping_for_free : ShapingForFree
shaping_for_free network run row net legal used bridge holds keeps =
    shaped_in network run row net legal used bridge holds keeps
