-- What verdicts on late frames tell is before the end of time, where each moment of the run is long before it.
use Rattle.std.proofs.Common.{◌≡◌, ℕ, suc, ◌+◌, ◌<◌, ◌≤◌, Bool, true, false, List, [], ◌∷◌, map, length, get_or}
use Rattle.std.proofs.Common.{All, refl, subst, sym, ap, arith, Option, Some, None, inl, inr}
use Rattle.std.specs.Prelude.{◌==◌, ◌&&◌, if◌then◌else◌, IfSome}
use Rattle.std.proofs.lemmas.Bool.{and_parts, and_from, cases_lt, eq-eqb, eqb-true}
use Rattle.std.proofs.lemmas.List.Elements.{All-nil, All-cons, All-head, All-tail, All-append, All-filter, All-map}
use Rattle.std.proofs.lemmas.List.Elements.{All-weaker, filter_passes}
use Rattle.std.proofs.lemmas.List.Sorted.{All-permutation, IsPermutation-sym}
use Rattle.std.proofs.lemmas.Option.{get_or_from_slice_get, slice_get_within}
use Rattle.ats_facts.proofs.Lists.{all_left, all_right, all_unmapped, All-from_filter}
use Rattle.ats_num.specs.declared.time.Ps.{Ps}
use Rattle.ats_num.specs.declared.time.TheConstants.{END}
use Rattle.ats_network.specs.Network.{DeclaredNetwork, IsNetwork}
use Rattle.ats_network.specs.Class.{class_at}
use Rattle.ats_network.specs.Sender.{Sender}
use Rattle.ats_network.specs.Senders.{IsSender, sender_at}
use Rattle.ats_network.proofs.RateLemmas.{scheduled_ruled}
use Rattle.ats_network.proofs.SenderLemmas.{sender_keeps}
use Rattle.ats_group.specs.Group.{Offer}
use Rattle.ats_streams.specs.Branches.{leg_at, legs_of}
use Rattle.ats_streams.specs.Traffic.{IsRuled}
use Rattle.ats_streams.proofs.BranchLemmas.{legs-length}
use Rattle.ats_group.specs.Judge.{ats_judge}
use Rattle.ats_group.specs.declared.verdict.Verdict.{Verdict}
use Rattle.ats_group.specs.declared.verdict.Verdict.TheVariants.{Eligible, Late, Size}
use Rattle.ats_group_law.proofs.Soon.{IsEligibleUntil, IsLateUntil, most_given, late_times_within}
use Rattle.ats_trace.specs.Journey.{BeginsAs, IsCopy, IsJourney, IsReleased, IsSentOrEnds, IsWay, Leg, Travel, legs_in}
use Rattle.ats_trace.specs.Projections.{Handed, transmission_by, transmission_of, handed_at, handed_along}
use Rattle.ats_trace.specs.Projections.{handed_over, journey_handed, handed_from, handed_by}
use Rattle.ats_trace.specs.Eligibility.{IsJudged, IsPassed, offer_of, residence_of_groups, scheduled_by}
use Rattle.ats_trace.specs.Run.{IsIdeal}
use Rattle.ats_trace.specs.declared.journey.Ending.{Ending}
use Rattle.ats_trace.specs.declared.journey.Ending.TheVariants.{Sink, Discard}
use Rattle.ats_trace.specs.HopRecord.{HopRecord}
use Rattle.ats_trace.specs.declared.journey.Release.{Release}
use Rattle.ats_trace.proofs.Legs.{legs_keep}
use Rattle.ats_trace.proofs.OneVerdict.{copies_many}
use Rattle.ats_engine_steps.specs.Bounds.{horizon, most_latency}
use Rattle.ats_engine_proofs.specs.InTime.{IsVerdictBefore, IsSentBefore, IsEndBefore, IsJourneyBefore, IsLegBefore}
use Rattle.ats_engine_proofs.specs.InTime.{IsRunInTime}
use Rattle.ats_engine_proofs.proofs.EachLeg.{IsRecordOf, each-leg, handed-at, leg_told}

-- an eligible frame is so before this time; that of a late one comes later
abbrev pub IsEligibleBefore : ℕ → Verdict → Type 0
IsEligibleBefore time (Eligible e) = e.0 < time
IsEligibleBefore time (Late e) = Unit {0}
IsEligibleBefore time Size = Unit {0}

-- so each moment at a hop is before it
pub record IsHopDoneBefore (time : ℕ) (hop : HopRecord) : Type 0 where
  pub arrival : hop.arrival.0 < time
  pub eligible : IsEligibleBefore time hop.verdict
  pub sent : IfSome hop.sent (IsSentBefore time)

-- and each moment along a leg
pub record IsLegDoneBefore (time : ℕ) (leg : Leg) : Type 0 where
  pub hops : All (IsHopDoneBefore time) leg.hops
  pub ending : IsEndBefore time leg.ending

-- and of a journey
pub record IsJourneyDoneBefore (time : ℕ) (journey : Travel) : Type 0 where
  pub release : journey.release.at.0 < time
  pub legs : All (IsLegDoneBefore time) (legs_in journey)

-- the last moment of a run and the latency of a port behind it are before this time, and long before the end of time
abbrev pub after_all : ℕ
after_all = horizon + most_latency + 1

-- what is known of a frame that came behind a port: the port and the member are those of the network, and its moments
-- are before this time
record IsCome (network : DeclaredNetwork) (time : ℕ) (h : Handed) : Type 0 where
  within : h.crossing.port < length network.topology.ports
  ruled : 1 ≤ h.crossing.sent.class → IsRuled (scheduled_by network h.crossing.port h.crossing.sent.sender)
  arrival : h.crossing.arrival < time
  eligible : IsEligibleBefore time h.verdict

come-at : (network : DeclaredNetwork) (time frame came p : ℕ) (release : Release) (class : ℕ) (verdict : Verdict)
    (sent : Option (Ps × Ps)) (hops : List HopRecord) → p < length network.topology.ports
    → (1 ≤ class → IsRuled (scheduled_by network p release.sender)) → All (IsHopDoneBefore time) hops
    → All (IsCome network time)
    (handed_at release.octets came p (transmission_by frame release class verdict sent) hops)
come-at network time frame came p release class (Eligible e) (Some times) (next ∷ hops) within ruled done =
    let first = All-head (IsHopDoneBefore time) next hops done in
    All-cons (IsCome network time) _ []
    (record { within = within; ruled = ruled; arrival = first.arrival; eligible = first.eligible })
    (All-nil (IsCome network time))
come-at network time frame came p release class (Eligible e) (Some times) [] within ruled done =
    All-nil (IsCome network time)
come-at network time frame came p release class (Eligible e) None hops within ruled done =
    All-nil (IsCome network time)
come-at network time frame came p release class (Late e) sent hops within ruled done = All-nil (IsCome network time)
come-at network time frame came p release class Size sent hops within ruled done = All-nil (IsCome network time)

come-along : (network : DeclaredNetwork) (time frame : ℕ) (release : Release) (s : Sender) (path : List ℕ)
    (hops : List HopRecord) → All (λ (p : ℕ). p < length network.topology.ports) path
    → ((p : ℕ) → 1 ≤ class_at s p → IsRuled (scheduled_by network p release.sender)) → All (IsHopDoneBefore time) hops
    → All (IsCome network time) (handed_along frame release s path hops)
come-along network time frame release s [] hops within ruled done = All-nil (IsCome network time)
come-along network time frame release s (p ∷ path) [] within ruled done = All-nil (IsCome network time)
come-along network time frame release s (p ∷ path) (hop ∷ hops) within ruled done =
    let rest : All (IsHopDoneBefore time) hops = All-tail (IsHopDoneBefore time) hop hops done in
    All-append (IsCome network time)
    (handed_at release.octets hop.arrival.0 p (transmission_of frame release (class_at s p) hop) hops)
    (handed_along frame release s path hops)
    (come-at network time frame hop.arrival.0 p release (class_at s p) hop.verdict hop.sent hops
    (All-head (λ (p : ℕ). p < length network.topology.ports) p path within) (ruled p) rest)
    (come-along network time frame release s path hops
    (All-tail (λ (p : ℕ). p < length network.topology.ports) p path within) ruled rest)

come-over : (network : DeclaredNetwork) (time frame : ℕ) (release : Release) (s : Sender) (paths : List (List ℕ))
    (legs : List Leg) → All (All (λ (p : ℕ). p < length network.topology.ports)) paths
    → ((p : ℕ) → 1 ≤ class_at s p → IsRuled (scheduled_by network p release.sender)) → All (IsLegDoneBefore time) legs
    → All (IsCome network time) (handed_over frame release s paths legs)
come-over network time frame release s [] legs within ruled done = All-nil (IsCome network time)
come-over network time frame release s (path ∷ paths) [] within ruled done = All-nil (IsCome network time)
come-over network time frame release s (path ∷ paths) (leg ∷ legs) within ruled done =
    let Within : List ℕ → Type 0 = All (λ (p : ℕ). p < length network.topology.ports) in
    All-append (IsCome network time) (handed_along frame release s path leg.hops)
    (handed_over frame release s paths legs)
    (come-along network time frame release s path leg.hops (All-head Within path paths within) ruled
    (All-head (IsLegDoneBefore time) leg legs done).hops)
    (come-over network time frame release s paths legs (All-tail Within path paths within) ruled
    (All-tail (IsLegDoneBefore time) leg legs done))

come-run : (network : DeclaredNetwork) (time n : ℕ) (run : List Travel) → IsNetwork network
    → All (IsJourney network) run → All (IsJourneyDoneBefore time) run
    → All (IsCome network time) (handed_from network n run)
come-run network time n [] rules journeys done = All-nil (IsCome network time)
come-run network time n (j ∷ run) rules journeys done =
    let is : IsJourney network j = All-head (IsJourney network) j run journeys in
    let s : Sender = sender_at network j.release.sender in
    let keeps : IsSender network.topology s = sender_keeps network j.release.sender rules is.sender in
    All-append (IsCome network time) (journey_handed network n j) (handed_from network (n + 1) run)
    (come-over network time n j.release s (legs_of s.ports s.branches) (legs_in j)
    (legs_keep (λ (p : ℕ). p < length network.topology.ports) 0 s.ports s.branches keeps.ports)
    (λ p some. scheduled_ruled network.topology s p keeps some)
    (All-head (IsJourneyDoneBefore time) j run done).legs)
    (come-run network time (n + 1) run rules (All-tail (IsJourney network) j run journeys)
    (All-tail (IsJourneyDoneBefore time) j run done))

-- a frame that came behind a port of a class that has a group
record IsOffered (network : DeclaredNetwork) (port limit : ℕ) (h : Handed) : Type 0 where
  ruled : IsRuled (scheduled_by network port h.crossing.sent.sender)
  arrival : h.crossing.arrival ≤ limit
  eligible : IsEligibleUntil limit h.verdict

until : (limit : ℕ) (v : Verdict) → IsEligibleBefore (limit + 1) v → IsEligibleUntil limit v
until limit (Eligible e) h = omega arith
until limit (Late e) h = tt
until limit Size h = tt

-- the verdict on a late frame tells a time up to this one
abbrev IsLateHanded : ℕ → Handed → Type 0
IsLateHanded limit h = IsLateUntil limit h.verdict

-- so of the frames of one group
group-late : (network : DeclaredNetwork) (port limit : ℕ) (handed : List Handed)
    → IsJudged ats_judge network port handed → All (IsOffered network port limit) handed
    → All (IsLateHanded (limit + most_given)) handed
group-late network port limit handed j offered =
    let there : All (IsOffered network port limit) j.arrivals =
    All-permutation (IsOffered network port limit) handed j.arrivals j.same offered in
    let told : List Verdict = map (λ (h : Handed). h.verdict) j.arrivals in
    let ruled = All-map (λ (o : Offer). IsRuled (scheduled_by network port o.member)) offer_of j.arrivals
    (λ k d h. (there k d h).ruled) in
    let arrived = All-map (λ (o : Offer). o.arrival ≤ limit) offer_of j.arrivals (λ k d h. (there k d h).arrival) in
    let eligible : All (IsEligibleUntil limit) told =
    All-map (IsEligibleUntil limit) (λ (h : Handed). h.verdict) j.arrivals (λ k d h. (there k d h).eligible) in
    let late : All (IsLateUntil (limit + most_given)) told =
    subst (All (IsLateUntil (limit + most_given))) (sym j.verdicts)
    (late_times_within (scheduled_by network port) (residence_of_groups network port) limit (map offer_of j.arrivals)
    ruled arrived
    (subst (All (IsEligibleUntil limit)) j.verdicts eligible)) in
    All-permutation (IsLateHanded (limit + most_given)) j.arrivals handed (IsPermutation-sym handed j.arrivals j.same)
    (all_unmapped (IsLateUntil (limit + most_given)) (λ (h : Handed). h.verdict) j.arrivals late)

-- no frame of a flow is late
passed-late : (network : DeclaredNetwork) (limit : ℕ) (h : Handed) → IsPassed network h → IsLateHanded limit h
passed-late network limit h passed = subst (IsLateUntil limit) (sym passed) (by _)
  where
    by : (sized : Bool) → IsLateUntil limit (if sized then Eligible (record { 0 = h.crossing.arrival }) else Size)
    by true = tt
    by false = tt

-- the frames of one port and class
place-late : (network : DeclaredNetwork) (limit : ℕ) (run : List Travel) → IsIdeal network run
    → All (IsCome network (limit + 1)) (handed_from network 0 run) → (port class : ℕ)
    → port < length network.topology.ports → All (IsLateHanded (limit + most_given)) (handed_by network run port class)
place-late network limit run legal come port class within =
    elim (cases_lt 0 class) as (λ _. All (IsLateHanded (limit + most_given)) (handed_by network run port class)) [
      | inl shaped ↦ group-late network port limit (handed_by network run port class)
          (legal.groups port class within shaped) (offered shaped)
      | inr none ↦ (
          let zero_class : class ≡ 0 = omega arith in
          let Goal : ℕ → Type 0 = λ (n : ℕ). All (IsLateHanded (limit + most_given)) (handed_by network run port n) in
          subst Goal (sym zero_class) (All-weaker (IsPassed network) (IsLateHanded (limit + most_given))
          (passed-late network (limit + most_given)) (handed_by network run port 0) (legal.flows port within)))
    ]
  where
    test : Handed → Bool
    test h = h.crossing.port == port && h.crossing.sent.class == class

    offered : 1 ≤ class → All (IsOffered network port limit) (handed_by network run port class)
    offered shaped k d h =
        let one = All-filter test (IsCome network (limit + 1)) (handed_from network 0 run) come k d h in
        let passes = filter_passes test (handed_from network 0 run) k d h in
        let handed : Handed = get_or (handed_by network run port class) k d in
        let parts = and_parts (handed.crossing.port == port) (handed.crossing.sent.class == class) passes in
        let of_class : handed.crossing.sent.class ≡ class = eqb-true handed.crossing.sent.class class parts.1 in
        let behind : handed.crossing.port ≡ port = eqb-true handed.crossing.port port parts.0 in
        record {
          ruled = subst (λ (n : ℕ). IsRuled (scheduled_by network n handed.crossing.sent.sender)) behind
              (one.ruled (omega arith));
          arrival = (let a = one.arrival in omega arith);
          eligible = until limit handed.verdict one.eligible;
        }

-- all frames that came behind a port
all-late : (network : DeclaredNetwork) (limit : ℕ) (run : List Travel) → IsIdeal network run
    → All (IsCome network (limit + 1)) (handed_from network 0 run)
    → All (IsLateHanded (limit + most_given)) (handed_from network 0 run)
all-late network limit run legal come k d h =
    let one : Handed = get_or (handed_from network 0 run) k d in
    let known : IsCome network (limit + 1) one = come k d h in
    All-from_filter
    (λ (h : Handed). h.crossing.port == one.crossing.port && h.crossing.sent.class == one.crossing.sent.class)
    (IsLateHanded (limit + most_given)) (handed_from network 0 run)
    (place-late network limit run legal come one.crossing.port one.crossing.sent.class known.within) k d h
    (and_from (one.crossing.port == one.crossing.port) (one.crossing.sent.class == one.crossing.sent.class)
    (eq-eqb one.crossing.port one.crossing.port refl) (eq-eqb one.crossing.sent.class one.crossing.sent.class refl))

-- each record of a way, where it is so of the first
abbrev IsLateHop : ℕ → HopRecord → Type 0
IsLateHop limit hop = IsLateUntil limit hop.verdict

abbrev IsLateFirst : ℕ → List HopRecord → Type 0
IsLateFirst limit [] = Unit {0}
IsLateFirst limit (hop ∷ hops) = IsLateHop limit hop

-- what follows a record of a way, and is known of the next one
record GoesOn (limit : ℕ) (path : List ℕ) (hops : List HopRecord) (ending : Ending) : Type 0 where
  first : IsLateFirst limit hops
  more : (next : HopRecord) (rest : List HopRecord) → hops ≡ next ∷ rest → IsWay path hops ending

nil-not_cons : (next : HopRecord) (rest : List HopRecord) → [] ≡ next ∷ rest → ⊥
nil-not_cons next rest e = absurd (omega (arith, ap (λ (hops : List HopRecord). length hops) e))

no-more : (limit : ℕ) (path : List ℕ) (hops : List HopRecord) (ending : Ending) → hops ≡ []
    → GoesOn limit path hops ending
no-more limit path [] ending none =
    record { first = tt; more = λ next rest e. absurd (nil-not_cons next rest e) }
no-more limit path (hop ∷ hops) ending none = absurd (nil-not_cons hop hops (sym none))

goes-on : (limit frame came p : ℕ) (release : Release) (class : ℕ) (path : List ℕ) (verdict : Verdict)
    (sent : Option (Ps × Ps)) (hops : List HopRecord) (ending : Ending)
    → IsSentOrEnds (IsWay path hops ending) verdict sent hops ending
    → All (IsLateHanded limit) (handed_at release.octets came p (transmission_by frame release class verdict sent) hops)
    → GoesOn limit path hops ending
goes-on limit frame came p release class path (Eligible e) (Some times) [] ending way late =
    record { first = tt; more = λ next rest e. way }
goes-on limit frame came p release class path (Eligible e) (Some times) (next ∷ hops) ending way late =
    record { first = All-head (IsLateHanded limit) _ [] late; more = λ next rest e. way }
goes-on limit frame came p release class path (Eligible e) None hops ending way late = absurd way
goes-on limit frame came p release class path (Late e) (Some times) hops ending way late = absurd way
goes-on limit frame came p release class path (Late e) None hops ending way late = no-more limit path hops ending way.0
goes-on limit frame came p release class path Size (Some times) hops ending way late = absurd way
goes-on limit frame came p release class path Size None hops ending way late = no-more limit path hops ending way.0

late-along : (limit frame : ℕ) (release : Release) (s : Sender) (path : List ℕ) (hops : List HopRecord)
    (ending : Ending) → ((next : HopRecord) (rest : List HopRecord) → hops ≡ next ∷ rest → IsWay path hops ending)
    → IsLateFirst limit hops → All (IsLateHanded limit) (handed_along frame release s path hops)
    → All (IsLateHop limit) hops
late-along limit frame release s path [] ending way first late = All-nil (IsLateHop limit)
late-along limit frame release s [] (hop ∷ hops) ending way first late = absurd (way hop hops refl)
late-along limit frame release s (p ∷ path) (hop ∷ hops) ending way first late =
    let here = handed_at release.octets hop.arrival.0 p (transmission_of frame release (class_at s p) hop) hops in
    let rest : List Handed = handed_along frame release s path hops in
    let on : GoesOn limit path hops ending =
    goes-on limit frame hop.arrival.0 p release (class_at s p) path hop.verdict hop.sent hops ending (way hop hops refl)
    (all_left (IsLateHanded limit) here rest late) in
    All-cons (IsLateHop limit) hop hops first
    (late-along limit frame release s path hops ending on.more on.first
    (all_right (IsLateHanded limit) here rest late))

-- a frame is not late at its station
released-late : (limit : ℕ) (release : Release) (hops : List HopRecord) → IsReleased release hops
    → IsLateFirst limit hops
released-late limit release [] released = tt
released-late limit release (hop ∷ hops) released = subst (IsLateUntil limit) (sym released.1) tt

-- nor is a copy where it begins, if the frame was not there
begun-late : (limit : ℕ) (start : HopRecord) (hops : List HopRecord) → IsLateHop limit start → BeginsAs start hops
    → IsLateFirst limit hops
begun-late limit start [] late begun = tt
begun-late limit start (hop ∷ hops) late begun = subst (IsLateUntil limit) (sym begun.1) late

-- no record of a leg is late
abbrev IsLateLeg : ℕ → Leg → Type 0
IsLateLeg limit leg = All (IsLateHop limit) leg.hops

copy-late : (limit frame : ℕ) (release : Release) (s : Sender) (path : List ℕ) (leg : Leg) (start : Option HopRecord)
    → IfSome start (IsRecordOf (IsLateLeg limit)) → IsCopy start path leg
    → All (IsLateHanded limit) (handed_along frame release s path leg.hops) → IsLateLeg limit leg
copy-late limit frame release s path leg None known copy late =
    subst (All (IsLateHop limit)) (sym copy.0) (All-nil (IsLateHop limit))
copy-late limit frame release s path leg (Some start) known copy late =
    let within : known.place < length known.leg.hops =
    slice_get_within known.leg.hops known.place start known.there in
    let first : IsLateHop limit start =
    subst (IsLateHop limit) (get_or_from_slice_get known.leg.hops known.place start start known.there)
    (known.keeps known.place start within) in
    late-along limit frame release s path leg.hops leg.ending (λ next rest e. copy.1)
    (begun-late limit start leg.hops first copy.0) late

late-journey : (network : DeclaredNetwork) (limit n : ℕ) (j : Travel) → IsNetwork network → IsJourney network j
    → All (IsLateHanded limit) (journey_handed network n j) → All (IsLateLeg limit) (legs_in j)
late-journey network limit n j rules is late =
    let s : Sender = sender_at network j.release.sender in
    let paths : List (List ℕ) = legs_of s.ports s.branches in
    let keeps : IsSender network.topology s = sender_keeps network j.release.sender rules is.sender in
    let many : length paths ≡ suc (length s.branches) = legs-length 0 s.ports s.branches in
    let copies : length j.copies ≡ length s.branches = copies_many s j is.copies in
    let at : (k : ℕ) → k ≤ length s.branches
    → All (IsLateHanded limit) (handed_along n j.release s (leg_at paths k) (leg_told j k).hops) =
    λ k within. handed-at (IsLateHanded limit) n j.release s paths (legs_in j) k (omega (arith, many))
    (omega (arith, copies)) late in
    each-leg s j (IsLateLeg limit) keeps.branches is.copies
    (late-along limit n j.release s (leg_at paths 0) j.hops j.ending (λ next rest e. is.way)
    (released-late limit j.release j.hops is.released) (at 0 (omega arith)))
    (λ copy start within known begins. copy-late limit n j.release s (leg_at paths (suc copy)) (leg_told j (suc copy))
    start known begins (at (suc copy) (omega arith)))

late-run : (network : DeclaredNetwork) → IsNetwork network → (limit n : ℕ) (run : List Travel)
    → All (IsJourney network) run → All (IsLateHanded limit) (handed_from network n run)
    → All (λ (j : Travel). All (IsLateLeg limit) (legs_in j)) run
late-run network rules limit n [] journeys late = All-nil (λ (j : Travel). All (IsLateLeg limit) (legs_in j))
late-run network rules limit n (j ∷ run) journeys late =
    let own : List Handed = journey_handed network n j in
    let others : List Handed = handed_from network (n + 1) run in
    All-cons (λ (j : Travel). All (IsLateLeg limit) (legs_in j)) j run
    (late-journey network limit n j rules (All-head (IsJourney network) j run journeys)
    (all_left (IsLateHanded limit) own others late))
    (late-run network rules limit (n + 1) run (All-tail (IsJourney network) j run journeys)
    (all_right (IsLateHanded limit) own others late))

-- both together
verdict-before : (v : Verdict) → IsEligibleBefore after_all v → IsLateUntil (horizon + most_latency + most_given) v
    → IsVerdictBefore END v
verdict-before (Eligible e) before late = omega arith
verdict-before (Late e) before late = omega arith
verdict-before Size before late = tt

sent-before : (given : Option (Ps × Ps)) → IfSome given (IsSentBefore after_all) → IfSome given (IsSentBefore END)
sent-before None before = tt
sent-before (Some times) before = record {
  start = (let s = before.start in omega arith);
  end = (let e = before.end in omega arith);
}

end-before : (ending : Ending) → IsEndBefore after_all ending → IsEndBefore END ending
end-before (Sink at) before = omega arith
end-before Discard before = tt

leg-in-time : (leg : Leg) → IsLegDoneBefore after_all leg → IsLateLeg (horizon + most_latency + most_given) leg
    → IsLegBefore END leg
leg-in-time leg done late = record {
  hops = λ k d h. (
      let one = done.hops k d h in
      let a = one.arrival in
      record {
        arrival = omega arith;
        verdict = verdict-before (get_or leg.hops k d).verdict one.eligible (late k d h);
        sent = sent-before (get_or leg.hops k d).sent one.sent;
      }
      );
  ending = end-before leg.ending done.ending;
}

journey-in-time : (j : Travel) → IsJourneyDoneBefore after_all j
    → All (IsLateLeg (horizon + most_latency + most_given)) (legs_in j) → IsJourneyBefore END j
journey-in-time j done late =
    let legs : All (IsLegBefore END) (legs_in j) =
    λ k d h. leg-in-time (get_or (legs_in j) k d) (done.legs k d h) (late k d h) in
    let trunk : Leg = record { hops = j.hops; ending = j.ending } in
    let own : IsLegBefore END trunk = All-head (IsLegBefore END) trunk j.copies legs in
    record {
      release = (let r = done.release in omega arith);
      hops = own.hops;
      ending = own.ending;
      copies = All-tail (IsLegBefore END) trunk j.copies legs;
    }

-- a legal run whose moments are all before that time tells no time that is not before the end of time
pub in-time-with-late : (network : DeclaredNetwork) (run : List Travel) → IsNetwork network
    → IsIdeal network run → All (IsJourneyDoneBefore after_all) run → IsRunInTime run
in-time-with-late network run rules legal done k d h =
    let limit : ℕ = horizon + most_latency in
    let come = come-run network after_all 0 run rules legal.journeys done in
    let late =
    late-run network rules (limit + most_given) 0 run legal.journeys (all-late network limit run legal come) in
    journey-in-time (get_or run k d) (done k d h) (late k d h)
