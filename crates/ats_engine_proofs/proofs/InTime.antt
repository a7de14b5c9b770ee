-- All that a finished run tells was before the time that no run reaches.
use Rattle.std.proofs.Common.{◌≡◌, ℕ, suc, ◌+◌, ◌<◌, ◌≤◌, List, [], ◌∷◌, filter, length, get_or, All, refl}
use Rattle.std.proofs.Common.{subst, sym, arith, Option, Some, None}
use Rattle.std.specs.Prelude.{◌==◌, IfSome}
use Rattle.std.proofs.lemmas.Bool.{eq-eqb}
use Rattle.std.proofs.lemmas.List.Elements.{All-nil, All-cons, All-head, All-tail}
use Rattle.std.proofs.lemmas.List.Sorted.{All-permutation}
use Rattle.std.proofs.lemmas.Option.{get_or_from_slice_get, slice_get_within}
use Rattle.ats_facts.proofs.Lists.{all_left, all_right, all_unmapped, All-from_filter}
use Rattle.ats_num.specs.declared.time.Ps.{Ps}
use Rattle.ats_topology.specs.Port.{port_at, no_port}
use Rattle.ats_topology.specs.Topology.{IsPort}
use Rattle.ats_topology.proofs.Rules.{ports_are_lawful}
use Rattle.ats_streams.specs.Branches.{leg_at, legs_of}
use Rattle.ats_streams.proofs.BranchLemmas.{legs-length}
use Rattle.ats_network.specs.Network.{DeclaredNetwork, IsNetwork}
use Rattle.ats_network.specs.Class.{class_at}
use Rattle.ats_network.specs.Sender.{Sender}
use Rattle.ats_network.specs.Senders.{IsSender, sender_at}
use Rattle.ats_network.proofs.SenderLemmas.{sender_keeps}
use Rattle.ats_group.specs.declared.verdict.Verdict.{Verdict}
use Rattle.ats_group.specs.declared.verdict.Verdict.TheVariants.{Eligible, Late, Size}
use Rattle.ats_port_rule.specs.PortRule.{KeepsPortRule}
use Rattle.ats_port_rule.specs.Transmission.{Transmission}
use Rattle.ats_trace.specs.Journey.{BeginsAs, IsCopy, IsJourney, IsReleased, IsSentOrEnds, IsWay, Leg, Travel, legs_in}
use Rattle.ats_trace.specs.Projections.{Hop, Crossing, transmission_by, transmission_of, hop_at, hops_along}
use Rattle.ats_trace.specs.Projections.{crossing_at, crossings_along, crossings_by, crossings_from, hops_from}
use Rattle.ats_trace.specs.Projections.{journey_crossings, journey_hops, sent_by}
use Rattle.ats_trace.specs.Run.{IsIdeal}
use Rattle.ats_trace.specs.declared.journey.Ending.{Ending}
use Rattle.ats_trace.specs.declared.journey.Ending.TheVariants.{Sink, Discard}
use Rattle.ats_trace.specs.HopRecord.{HopRecord}
use Rattle.ats_trace.specs.declared.journey.Release.{Release}
use Rattle.ats_trace.proofs.Legs.{legs_keep}
use Rattle.ats_trace.proofs.OneVerdict.{copies_many}
use Rattle.ats_events.specs.declared.moment.Moment.{Moment}
use Rattle.ats_transmit.specs.State.{PortState, opened}
use Rattle.ats_run_records.specs.Progress.{finished}
use Rattle.ats_engine_steps.specs.Course.{Course, crossings_so_far, travels}
use Rattle.ats_engine_steps.specs.Invariant.{Holds}
use Rattle.ats_engine_steps.specs.Ports.{port_state_at}
use Rattle.ats_engine_steps.specs.declared.event.Event.{Event}
use Rattle.ats_engine_proofs.specs.InTime.{IsSentBefore, IsEndBefore, IsRunInTime}
use Rattle.ats_engine_proofs.proofs.Conclusion.{ended-run, run-finished}
use Rattle.ats_engine_proofs.proofs.Crossed.{crossed-ended}
use Rattle.ats_engine_proofs.proofs.Finished.{ledger_in}
use Rattle.ats_engine_proofs.proofs.EachLeg.{IsRecordOf, crossings-at, each-leg, hops-at, leg_told}
use Rattle.ats_engine_proofs.proofs.LateTimes.{IsEligibleBefore, IsHopDoneBefore, IsJourneyDoneBefore, IsLegDoneBefore}
use Rattle.ats_engine_proofs.proofs.LateTimes.{after_all, in-time-with-late}
use Rattle.ats_engine_proofs.proofs.SoFar.{crossings-so_far}

-- a transmission starts when the frame is eligible or later, and ends when it starts or later
record IsLater (x : Transmission) : Type 0 where
  waits : x.eligible ≤ x.start
  takes : x.start ≤ x.end

-- so it does at each of these ports
abbrev IsLaterAt : ℕ → Hop → Type 0
IsLaterAt ports h = h.port < ports → IsLater h.sent

-- a frame was sent, and arrived behind the port, before this time
record IsCrossedBefore (time : ℕ) (x : Crossing) : Type 0 where
  end : x.sent.end < time
  arrival : x.arrival < time

-- so it did behind each of these ports
abbrev IsCrossedAt : ℕ → ℕ → Crossing → Type 0
IsCrossedAt time ports x = x.port < ports → IsCrossedBefore time x

-- a frame comes to the rest of its way before this time
abbrev ComesBefore : ℕ → List HopRecord → Ending → Type 0
ComesBefore time (hop ∷ hops) ending = hop.arrival.0 < time
ComesBefore time [] ending = IsEndBefore time ending

-- a hop record with this verdict and transmission tells times before this one, and the frame comes further before it
record IsHopDone (time : ℕ) (verdict : Verdict) (given : Option (Ps × Ps)) (hops : List HopRecord) (ending : Ending)
    : Type 0 where
  eligible : IsEligibleBefore time verdict
  sent : IfSome given (IsSentBefore time)
  comes : ComesBefore time hops ending

-- all that is left of a way is before this time
record IsWayBefore (time : ℕ) (records : List HopRecord) (end : Ending) : Type 0 where
  hops : All (IsHopDoneBefore time) records
  ending : IsEndBefore time end

-- nothing comes of a frame that was discarded
none-comes : (time : ℕ) (hops : List HopRecord) (ending : Ending) → hops ≡ [] → ending ≡ Discard
    → ComesBefore time hops ending
none-comes time hops ending none is = rw (none, is) tt

-- and nothing is left of its way
ended-before : (time : ℕ) (hops : List HopRecord) (ending : Ending) → hops ≡ [] → ending ≡ Discard
    → IsWayBefore time hops ending
ended-before time hops ending none is =
    let nothing : List HopRecord = [] in
    let over : IsWayBefore time nothing Discard = record { hops = All-nil (IsHopDoneBefore time); ending = tt } in
    rw (none, is) over

-- a frame that is released before this time comes to its first port before it
comes-released : (time : ℕ) (release : Release) (hops : List HopRecord) (ending : Ending) → release.at.0 < time
    → IsReleased release hops → ComesBefore time hops ending
comes-released time release [] ending before released = absurd released
comes-released time release (hop ∷ hops) ending before released =
    subst (λ (at : Ps). at.0 < time) (sym released.0) before

-- and so does a copy that begins before it
comes-begun : (time : ℕ) (start : HopRecord) (hops : List HopRecord) (ending : Ending) → start.arrival.0 < time
    → BeginsAs start hops → ComesBefore time hops ending
comes-begun time start [] ending before begun = absurd begun
comes-begun time start (hop ∷ hops) ending before begun =
    subst (λ (at : Ps). at.0 < time) (sym begun.0) before

-- a hop record of a frame that was sent and has crossed the port, or was discarded, tells times before this one, and
-- the frame comes further before it
hop-done : (time ports frame came p : ℕ) (release : Release) (class : ℕ) (path : List ℕ) (verdict : Verdict)
    (sent : Option (Ps × Ps)) (hops : List HopRecord) (ending : Ending) → p < ports
    → IsSentOrEnds (IsWay path hops ending) verdict sent hops ending
    → All (IsLaterAt ports) (hop_at p (transmission_by frame release class verdict sent))
    → All (IsCrossedAt time ports)
    (crossing_at release.octets came p (transmission_by frame release class verdict sent) hops ending)
    → IsHopDone time verdict sent hops ending
hop-done time ports frame came p release class path (Eligible e) (Some times) (next ∷ hops) ending within way later
    crossed =
    let is = All-head (IsLaterAt ports) _ [] later within in
    let has = All-head (IsCrossedAt time ports) _ [] crossed within in
    record {
      eligible = omega (arith, is.waits, is.takes, has.end);
      sent = record { start = omega (arith, is.takes, has.end); end = has.end };
      comes = has.arrival;
    }
hop-done time ports frame came p release class path (Eligible e) (Some times) [] (Sink at) within way later crossed =
    let is = All-head (IsLaterAt ports) _ [] later within in
    let has = All-head (IsCrossedAt time ports) _ [] crossed within in
    record {
      eligible = omega (arith, is.waits, is.takes, has.end);
      sent = record { start = omega (arith, is.takes, has.end); end = has.end };
      comes = has.arrival;
    }
hop-done time ports frame came p release class [] (Eligible e) (Some times) [] Discard within way later crossed =
    absurd way
hop-done time ports frame came p release class (q ∷ path) (Eligible e) (Some times) [] Discard within way later
    crossed = absurd way
hop-done time ports frame came p release class path (Eligible e) None hops ending within way later crossed =
    absurd way
hop-done time ports frame came p release class path (Late e) (Some times) hops ending within way later crossed =
    absurd way
hop-done time ports frame came p release class path (Late e) None hops ending within way later crossed =
    record { eligible = tt; sent = tt; comes = none-comes time hops ending way.0 way.1 }
hop-done time ports frame came p release class path Size (Some times) hops ending within way later crossed =
    absurd way
hop-done time ports frame came p release class path Size None hops ending within way later crossed =
    record { eligible = tt; sent = tt; comes = none-comes time hops ending way.0 way.1 }

-- what is left behind a hop record is before this time where it is so of a way that goes on there
onward-before : (time : ℕ) (path : List ℕ) (hops : List HopRecord) (ending : Ending) (verdict : Verdict)
    (given : Option (Ps × Ps)) → (IsWay path hops ending → IsWayBefore time hops ending)
    → IsSentOrEnds (IsWay path hops ending) verdict given hops ending → IsWayBefore time hops ending
onward-before time path hops ending (Eligible e) (Some times) further way = further way
onward-before time path hops ending (Eligible e) None further way = absurd way
onward-before time path hops ending (Late e) (Some times) further way = absurd way
onward-before time path hops ending (Late e) None further way = ended-before time hops ending way.0 way.1
onward-before time path hops ending Size (Some times) further way = absurd way
onward-before time path hops ending Size None further way = ended-before time hops ending way.0 way.1

-- so all that is left of a way is before this time where the frame comes to it before this time
way-before : (time ports frame : ℕ) (release : Release) (sender : Sender) (path : List ℕ) (hops : List HopRecord)
    (ending : Ending) → All (λ (p : ℕ). p < ports) path → IsWay path hops ending
    → All (IsLaterAt ports) (hops_along frame release sender path hops)
    → All (IsCrossedAt time ports) (crossings_along frame release sender path hops ending)
    → ComesBefore time hops ending → IsWayBefore time hops ending
way-before time ports frame release sender [] [] ending within way later crossed comes =
    record { hops = All-nil (IsHopDoneBefore time); ending = comes }
way-before time ports frame release sender [] (hop ∷ hops) ending within way later crossed comes = absurd way
way-before time ports frame release sender (p ∷ path) [] ending within way later crossed comes = absurd way
way-before time ports frame release sender (p ∷ path) (hop ∷ hops) ending within way later crossed comes =
    let sent : List Hop = hop_at p (transmission_of frame release (class_at sender p) hop) in
    let across : List Crossing = crossing_at release.octets hop.arrival.0 p
    (transmission_of frame release (class_at sender p) hop) hops ending in
    let done = hop-done time ports frame hop.arrival.0 p release (class_at sender p) path hop.verdict hop.sent hops
    ending (All-head (λ (p : ℕ). p < ports) p path within) way
    (all_left (IsLaterAt ports) sent (hops_along frame release sender path hops) later)
    (all_left (IsCrossedAt time ports) across (crossings_along frame release sender path hops ending) crossed) in
    let rest : IsWayBefore time hops ending = onward-before time path hops ending hop.verdict hop.sent
    (λ onward. way-before time ports frame release sender path hops ending
    (All-tail (λ (p : ℕ). p < ports) p path within) onward
    (all_right (IsLaterAt ports) sent (hops_along frame release sender path hops) later)
    (all_right (IsCrossedAt time ports) across (crossings_along frame release sender path hops ending) crossed)
    done.comes) way in
    record {
      hops = All-cons (IsHopDoneBefore time) hop hops
          (record { arrival = comes; eligible = done.eligible; sent = done.sent }) rest.hops;
      ending = rest.ending;
    }

-- a frame that was sent at its release was released before this time
release-before : (time ports frame : ℕ) (release : Release) (sender : Sender) (path : List ℕ) (hops : List HopRecord)
    (ending : Ending) → All (λ (p : ℕ). p < ports) path → IsWay path hops ending
    → All (IsLaterAt ports) (hops_along frame release sender path hops)
    → All (IsCrossedAt time ports) (crossings_along frame release sender path hops ending)
    → IsReleased release hops → release.at.0 < time
release-before time ports frame release sender path [] ending within way later crossed released = absurd released
release-before time ports frame release sender [] (hop ∷ hops) ending within way later crossed released = absurd way
release-before time ports frame release sender (p ∷ path) (hop ∷ hops) ending within way later crossed released =
    let sent : List Hop = hop_at p (transmission_of frame release (class_at sender p) hop) in
    let across : List Crossing = crossing_at release.octets hop.arrival.0 p
    (transmission_of frame release (class_at sender p) hop) hops ending in
    let done = hop-done time ports frame hop.arrival.0 p release (class_at sender p) path hop.verdict hop.sent hops
    ending (All-head (λ (p : ℕ). p < ports) p path within) way
    (all_left (IsLaterAt ports) sent (hops_along frame release sender path hops) later)
    (all_left (IsCrossedAt time ports) across (crossings_along frame release sender path hops ending) crossed) in
    subst (IsEligibleBefore time) released.1 done.eligible

-- where a copy comes to its first port before this time, each moment along it is
copy-before : (time ports frame : ℕ) (release : Release) (sender : Sender) (path : List ℕ) (leg : Leg)
    (start : Option HopRecord) → All (λ (p : ℕ). p < ports) path → IfSome start (IsRecordOf (IsLegDoneBefore time))
    → IsCopy start path leg → All (IsLaterAt ports) (hops_along frame release sender path leg.hops)
    → All (IsCrossedAt time ports) (crossings_along frame release sender path leg.hops leg.ending)
    → IsLegDoneBefore time leg
copy-before time ports frame release sender path leg None within known copy later crossed =
    let over = ended-before time leg.hops leg.ending copy.0 copy.1 in
    record { hops = over.hops; ending = over.ending }
copy-before time ports frame release sender path leg (Some start) within known copy later crossed =
    let there : known.place < length known.leg.hops =
    slice_get_within known.leg.hops known.place start known.there in
    let first : IsHopDoneBefore time start =
    subst (IsHopDoneBefore time) (get_or_from_slice_get known.leg.hops known.place start start known.there)
    (known.keeps.hops known.place start there) in
    let way = way-before time ports frame release sender path leg.hops leg.ending within copy.1 later crossed
    (comes-begun time start leg.hops leg.ending first.arrival copy.0) in
    record { hops = way.hops; ending = way.ending }

-- so a journey is before it
journey-before : (network : DeclaredNetwork) (time n : ℕ) (j : Travel) → IsNetwork network
    → IsJourney network j → All (IsLaterAt (length network.topology.ports)) (journey_hops network n j)
    → All (IsCrossedAt time (length network.topology.ports)) (journey_crossings network n j)
    → IsJourneyDoneBefore time j
journey-before network time n j rules is later crossed =
    let s : Sender = sender_at network j.release.sender in
    let ports : ℕ = length network.topology.ports in
    let paths : List (List ℕ) = legs_of s.ports s.branches in
    let keeps : IsSender network.topology s = sender_keeps network j.release.sender rules is.sender in
    let many : length paths ≡ suc (length s.branches) = legs-length 0 s.ports s.branches in
    let copies : length j.copies ≡ length s.branches = copies_many s j is.copies in
    let within : (k : ℕ) → k ≤ length s.branches → All (λ (p : ℕ). p < ports) (leg_at paths k) =
    λ k below. legs_keep (λ (p : ℕ). p < ports) 0 s.ports s.branches keeps.ports k [] (omega (arith, many)) in
    let sent : (k : ℕ) → k ≤ length s.branches
    → All (IsLaterAt ports) (hops_along n j.release s (leg_at paths k) (leg_told j k).hops) =
    λ k below. hops-at (IsLaterAt ports) n j.release s paths (legs_in j) k (omega (arith, many))
    (omega (arith, copies)) later in
    let across : (k : ℕ) → k ≤ length s.branches → All (IsCrossedAt time ports)
    (crossings_along n j.release s (leg_at paths k) (leg_told j k).hops (leg_told j k).ending) =
    λ k below. crossings-at (IsCrossedAt time ports) n j.release s paths (legs_in j) k (omega (arith, many))
    (omega (arith, copies)) crossed in
    let release : j.release.at.0 < time = release-before time ports n j.release s (leg_at paths 0) j.hops j.ending
    (within 0 (omega arith)) is.way (sent 0 (omega arith)) (across 0 (omega arith)) is.released in
    let way = way-before time ports n j.release s (leg_at paths 0) j.hops j.ending (within 0 (omega arith)) is.way
    (sent 0 (omega arith)) (across 0 (omega arith))
    (comes-released time j.release j.hops j.ending release is.released) in
    record {
      release = release;
      legs = each-leg s j (IsLegDoneBefore time) keeps.branches is.copies
          (record { hops = way.hops; ending = way.ending })
          (λ copy start below known begins. copy-before time ports n j.release s (leg_at paths (suc copy))
          (leg_told j (suc copy)) start (within (suc copy) (omega arith)) known begins (sent (suc copy) (omega arith))
          (across (suc copy) (omega arith)));
    }

-- and each journey of a run
run-before : (network : DeclaredNetwork) (time n : ℕ) (run : List Travel) → IsNetwork network
    → All (IsJourney network) run → All (IsLaterAt (length network.topology.ports)) (hops_from network n run)
    → All (IsCrossedAt time (length network.topology.ports)) (crossings_from network n run)
    → All (IsJourneyDoneBefore time) run
run-before network time n [] rules journeys later crossed = All-nil (IsJourneyDoneBefore time)
run-before network time n (j ∷ run) rules journeys later crossed =
    let ports : ℕ = length network.topology.ports in
    All-cons (IsJourneyDoneBefore time) j run
    (journey-before network time n j rules (All-head (IsJourney network) j run journeys)
    (all_left (IsLaterAt ports) (journey_hops network n j) (hops_from network (n + 1) run) later)
    (all_left (IsCrossedAt time ports) (journey_crossings network n j) (crossings_from network (n + 1) run) crossed))
    (run-before network time (n + 1) run rules (All-tail (IsJourney network) j run journeys)
    (all_right (IsLaterAt ports) (journey_hops network n j) (hops_from network (n + 1) run) later)
    (all_right (IsCrossedAt time ports) (journey_crossings network n j) (crossings_from network (n + 1) run) crossed))

-- what holds of those of each port holds of all that are of a port
each-of-port : {X : Type 0} (port : X → ℕ) (P : X → Type 0) (ports : ℕ) (xs : List X)
    → ((p : ℕ) → p < ports → All P (filter (λ (x : X). port x == p) xs)) → All (λ (x : X). port x < ports → P x) xs
each-of-port {X} port P ports xs each k d h within =
    let one : X = get_or xs k d in
    All-from_filter (λ (x : X). port x == port one) P xs (each (port one) within) k d h
    (eq-eqb (port one) (port one) refl)

-- the transmissions of a port that keeps the port rule start when their frames are eligible or later, and end later
each-later : (network : DeclaredNetwork) (run : List Travel)
    → ((port : ℕ) → port < length network.topology.ports
    → KeepsPortRule (port_at network.topology.ports port).ps_per_bit (sent_by network run port))
    → All (IsLaterAt (length network.topology.ports)) (hops_from network 0 run)
each-later network run rule =
    let hops : List Hop = hops_from network 0 run in
    let ports : ℕ = length network.topology.ports in
    each-of-port (λ (h : Hop). h.port) (λ (h : Hop). IsLater h.sent) ports hops (λ p within.
    all_unmapped IsLater (λ (h : Hop). h.sent) (filter (λ (h : Hop). h.port == p) hops)
    (λ k d h. record {
      waits = (rule p within).waits k d h;
      takes = omega (arith, (rule p within).takes k d h);
    }))

-- the run so far crosses each port before this time
each-crossed : {T : Type 0} {key : T → ℕ → ℕ → ℕ} {wait : ℕ → ℕ → ℕ} {network : DeclaredNetwork}
    {releases : List Release} {course : Course T} {entries : List (Moment × Event)}
    → Holds key wait network releases course entries
    → All (IsCrossedAt after_all (length network.topology.ports)) (crossings_from network 0 (travels course))
each-crossed {T} {key} {wait} {network} {releases} {course} {entries} holds =
    let crossings : List Crossing = crossings_from network 0 (travels course) in
    let ports : ℕ = length network.topology.ports in
    each-of-port (λ (x : Crossing). x.port) (IsCrossedBefore after_all) ports crossings (λ p within.
    let link : IsPort (length network.topology.nodes) (port_at network.topology.ports p) =
    (ports_are_lawful network.topology holds.rules.topology).each p no_port within in
    let s : PortState T = port_state_at course p in
    let last = holds.bounds.ends p (opened 0 [] course.tie) (omega (arith, within, holds.shape.ports)) in
    let so_far : List Crossing = crossings_so_far network course p in
    All-permutation (IsCrossedBefore after_all) so_far (crossings_by network (travels course) p)
    (crossings-so_far holds.shape p) (λ k d h. (
    let ends = crossed-ended key network course p s (holds.ports p within) k d h in
    let arrives = (holds.paces p within).rule.within k d h in
    record {
      end = omega (arith, ends, last);
      arrival = omega (arith, ends, arrives.latest, link.latency, last);
    })))

-- where it is legal, each of its moments was before it
run-done : {T : Type 0} {key : T → ℕ → ℕ → ℕ} {wait : ℕ → ℕ → ℕ} {network : DeclaredNetwork}
    {releases : List Release} {course : Course T} {entries : List (Moment × Event)}
    → Holds key wait network releases course entries → IsIdeal network (travels course)
    → All (IsJourneyDoneBefore after_all) (travels course)
run-done {T} {key} {wait} {network} {releases} {course} holds legal =
    run-before network after_all 0 (travels course) holds.rules legal.journeys
    (each-later network (travels course) legal.ports) (each-crossed holds)

-- so where nothing is to happen any more, all that the run tells was before the end of time
pub ended-in-time : {T : Type 0} {key : T → ℕ → ℕ → ℕ} {wait : ℕ → ℕ → ℕ} {network : DeclaredNetwork}
    {releases : List Release} {course : Course T} → Holds key wait network releases course []
    → IsRunInTime (finished (ledger_in course))
ended-in-time {T} {key} {wait} {network} {releases} {course} holds =
    let same : travels course ≡ finished (ledger_in course) = run-finished holds in
    let legal : IsIdeal network (travels course) =
    subst (IsIdeal network) (sym same) (ended-run holds).0.legal in
    subst IsRunInTime same
    (in-time-with-late network (travels course) holds.rules legal (run-done holds legal))
