-- What holds where a run begins.
use Rattle.std.proofs.Common.{◌≡◌, ℕ, zero, suc, ◌+◌, ◌-◌, ◌*◌, ◌<◌, ◌≤◌, List, [], ◌∷◌, ◌++◌, length, map, get_or, All}
use Rattle.std.proofs.Common.{Option, None, Some, refl, sym, ap, ◌∙◌, subst, inl, inr, arith, replicate, IsPermutation}
use Rattle.std.specs.Prelude.{Contains, IfSome, ℤ, pos, slice_get, ◌==◌, ◌&&◌}
use Rattle.std.specs.List.{filter, flat_map, zip, sum_by}
use Rattle.std.proofs.lemmas.Bool.{cases_lt}
use Rattle.std.proofs.lemmas.List.{get_or-map, get_or-replicate, get_or_append_left, get_or-append_right, get_or_past}
use Rattle.std.proofs.lemmas.List.{get_or_default}
use Rattle.std.proofs.lemmas.List.{length-append, length-map, length-replicate}
use Rattle.std.proofs.lemmas.List.Elements.{All-nil, All-cons, All-head, All-tail, All-append, All-map}
use Rattle.std.proofs.lemmas.List.FromFn.{length-map-range_with_len}
use Rattle.std.proofs.lemmas.List.Sorted.{IsPermutation-refl}
use Rattle.ats_num.specs.declared.time.Ps.{Ps}
use Rattle.ats_num.specs.declared.time.TheConstants.{END}
use Rattle.ats_topology.specs.Port.{port_at}
use Rattle.ats_topology.specs.declared.port.Port.{Port}
use Rattle.ats_streams.specs.Branches.{leg_at, no_branch}
use Rattle.ats_network.specs.Network.{DeclaredNetwork, IsNetwork}
use Rattle.ats_network.specs.Sender.{Sender}
use Rattle.ats_bucket.specs.Scheduler.{first_empty}
use Rattle.ats_group.specs.Group.{State, first}
use Rattle.ats_group.specs.GroupsState as groups
use Rattle.ats_group.specs.GroupsState.{GroupsState, AreMembers, empty_at, first_empties, no_member}
use Rattle.ats_group.specs.declared.member.Member.{Member}
use Rattle.ats_group.proofs.StepLemmas.{opened_first}
use Rattle.ats_schedulers.specs.Schedulers.{IsHop, group_behind, leg_ports, residence_of, residences_of, members_of}
use Rattle.ats_schedulers.specs.Schedulers.{scheduler_of}
use Rattle.ats_schedulers.proofs.Listing.{members_are}
use Rattle.ats_schedulers.proofs.Places.{scheduler_within, scheduler_there}
use Rattle.ats_port_rule.specs.Transmission.{Transmission}
use Rattle.ats_transmit.specs.Sending.{last_end}
use Rattle.ats_transmit.specs.State as standing
use Rattle.ats_transmit.specs.State.{PortState}
use Rattle.ats_transmit.specs.declared.offer.Offer.{Offer}
use Rattle.ats_transmit.proofs.Lawful.{lawful-open}
use Rattle.ats_events.specs.declared.moment.Moment.{Moment}
use Rattle.ats_trace.specs.Eligibility.{IsPassed, scheduled_by}
use Rattle.ats_trace.specs.Journey.{legs_at}
use Rattle.ats_trace.specs.Links.{KeepsLinkRule, KeepsPace, in_order_from}
use Rattle.ats_trace.specs.Projections.{Hop, Crossing, Handed, hops_along, crossings_along, handed_along}
use Rattle.ats_trace.specs.Releases.{AreReleases, HaveFewPorts, IsRelease}
use Rattle.ats_trace.specs.Stored.{row_of}
use Rattle.ats_trace.specs.declared.journey.Ending.{Ending}
use Rattle.ats_trace.specs.HopRecord.{HopRecord}
use Rattle.ats_trace.specs.declared.journey.Release.{Release}
use Rattle.ats_run_records.specs.Progress.{Progress, progress_at, no_progress, copies_opened, leg_opened, trunks_opened}
use Rattle.ats_run_records.proofs.AllCounts.{length-trunks, no_release}
use Rattle.ats_engine_steps.specs.Bounds.{EndsInTime}
use Rattle.ats_engine_steps.specs.Course.{Course, path_of, sender_of, stage_at, turn_at, arrives_from_at, leg_hops}
use Rattle.ats_engine_steps.specs.Course.{leg_crossings, leg_handed, sent_so_far, crossings_so_far, handed_so_far}
use Rattle.ats_engine_steps.specs.Entries.{AreAwaited, IsReached, moment_of, arrival_by, eligibility_by}
use Rattle.ats_engine_steps.specs.Entries.{selection_by}
use Rattle.ats_engine_steps.specs.Frames.{IsFrame, Goes, start_by}
use Rattle.ats_engine_steps.specs.Invariant.{Holds, IsShaped}
use Rattle.ats_engine_steps.specs.Judging.{AreGroupsOf, IsGroupOf, IsStateOf}
use Rattle.ats_engine_steps.specs.Paces.{IsPaced}
use Rattle.ats_engine_steps.specs.Ports.{IsPortOf, IsHeld, IsTurn, port_state_at, room_of}
use Rattle.ats_engine_steps.specs.declared.event.Event.{Event}
use Rattle.ats_engine_steps.specs.declared.event.Event.TheVariants.{Arrival, Eligibility, Selection}
use Rattle.ats_engine_steps.specs.declared.stage.Stage.{Stage}
use Rattle.ats_engine_steps.specs.declared.stage.Stage.TheVariants.{Apart, Coming, Waiting, Over}
use Rattle.ats_engine_steps.specs.declared.turn.Turn.{Turn}
use Rattle.ats_engine_steps.specs.declared.turn.Turn.TheVariants.{Resting}
use Rattle.ats_engine_proofs.specs.Opened.{IsOpened, IsFresh, released_from}
use Rattle.ats_engine_proofs.proofs.LegPorts.{leg-some}
use Rattle.ats_engine_proofs.proofs.OpenedRows.{trunk-at}
use Rattle.ats_engine_proofs.proofs.Beginning.{entry_of, IsFreshLeg, IsFreshCopy, IsEarly, trunks-fresh}
use Rattle.ats_engine_proofs.proofs.Beginning.{copies-fresh, opened-again, nothing-from}
use Rattle.ats_engine_proofs.proofs.Beginning.{length-released, entry-at, rooms-opened, most-early}

-- the rows of the copies
abbrev copies_in : DeclaredNetwork → List Release → List Progress
copies_in network releases = copies_opened network 0 releases

-- there are a row for each trunk and one for each copy
length-records : {T : Type 0} (network : DeclaredNetwork) (releases : List Release) (course : Course T)
    → IsOpened network releases course
    → length course.records ≡ length releases + length (copies_in network releases)
length-records network releases course opened =
    ap (λ (ps : List Progress). length ps) opened.records
    ∙ length-append (trunks_opened network 0 releases) (copies_in network releases)
    ∙ ap (λ (n : ℕ). n + length (copies_in network releases)) (length-trunks network 0 releases)

-- and as many stages
length-stages : {T : Type 0} (network : DeclaredNetwork) (releases : List Release) (course : Course T)
    → IsOpened network releases course
    → length course.stages ≡ length releases + length (copies_in network releases)
length-stages network releases course opened =
    let n : ℕ = length (copies_in network releases) in
    let comes : List Stage = map (λ (r : Release). Coming r.at) releases in
    let trunks = length-map releases (λ (r : Release). Coming r.at) in
    let copies : length (replicate n Apart) ≡ n = length-replicate n Apart in
    ap (λ (ss : List Stage). length ss) opened.stages
    ∙ omega (arith, length-append comes (replicate n Apart), trunks, copies)

-- each trunk is to come at the release
stage-is : {T : Type 0} (network : DeclaredNetwork) (releases : List Release) (course : Course T) (row : ℕ)
    → IsOpened network releases course → row < length releases
    → stage_at course row ≡ Coming (get_or releases row no_release).at
stage-is network releases course row opened within =
    let coming : Release → Stage = λ (r : Release). Coming r.at in
    ap (λ (ss : List Stage). get_or ss row Over) opened.stages
    ∙ get_or_append_left (map coming releases) (replicate (length (copies_in network releases)) Apart) Over row
    (omega (arith, length-map releases coming))
    ∙ get_or-map coming releases row no_release Over within

-- the copies are apart
stage-apart : {T : Type 0} (network : DeclaredNetwork) (releases : List Release) (course : Course T) (row : ℕ)
    → IsOpened network releases course → length releases ≤ row → row < length course.records
    → stage_at course row ≡ Apart
stage-apart network releases course row opened behind within =
    let coming : Release → Stage = λ (r : Release). Coming r.at in
    let n : ℕ = length (copies_in network releases) in
    let records = length-records network releases course opened in
    ap (λ (ss : List Stage). get_or ss row Over) opened.stages
    ∙ get_or-append_right (map coming releases) (replicate n Apart) (length releases) row Over
    (length-map releases coming) behind
    ∙ get_or-replicate n (row - length releases) Apart Over (omega arith)

-- so a row comes or is apart, and none is behind them
either-stage : {T : Type 0} (network : DeclaredNetwork) (releases : List Release) (course : Course T) (row : ℕ)
    (P : Stage → Type 0) → IsOpened network releases course
    → (row < length releases → P (Coming (get_or releases row no_release).at)) → P Apart → P Over
    → P (stage_at course row)
either-stage network releases course row P opened comes apart over =
    let stages = length-stages network releases course opened in
    let records = length-records network releases course opened in
    elim (cases_lt row (length releases)) as (λ _. P (stage_at course row)) [
      | inl within ↦ subst P (sym (stage-is network releases course row opened within)) (comes within)
      | inr behind ↦ elim (cases_lt row (length course.records)) as (λ _. P (stage_at course row)) [
        | inl within ↦ subst P (sym (stage-apart network releases course row opened behind within)) apart
        | inr past ↦ subst P (sym (get_or_past course.stages row Over (omega arith))) over
      ]
    ]

-- the record of each trunk
trunk-is : {T : Type 0} (network : DeclaredNetwork) (releases : List Release) (course : Course T) (row : ℕ)
    → IsOpened network releases course → row < length releases
    → progress_at course.records row ≡ leg_opened network row (get_or releases row no_release) 0
trunk-is network releases course row opened within =
    ap (λ (ps : List Progress). get_or ps row no_progress) opened.records
    ∙ get_or_append_left (trunks_opened network 0 releases) (copies_in network releases) no_progress row
    (omega (arith, length-trunks network 0 releases))
    ∙ trunk-at network 0 row releases no_progress no_release within
    ∙ ap (λ (n : ℕ). leg_opened network n (get_or releases row no_release) 0) (omega arith)

-- that of each copy
copy-is : {T : Type 0} (network : DeclaredNetwork) (releases : List Release) (course : Course T) (row : ℕ)
    → AreReleases network releases → IsOpened network releases course → length releases ≤ row
    → row < length course.records → IsFreshCopy network (progress_at course.records row)
copy-is network releases course row are opened behind within =
    let records = length-records network releases course opened in
    subst (IsFreshCopy network)
    (sym (ap (λ (ps : List Progress). get_or ps row no_progress) opened.records
    ∙ get_or-append_right (trunks_opened network 0 releases) (copies_in network releases) (length releases) row
    no_progress (length-trunks network 0 releases) behind))
    (copies-fresh network 0 releases are.each (row - length releases) no_progress (omega arith))

-- nothing has happened along any leg
all-fresh : {T : Type 0} (network : DeclaredNetwork) (releases : List Release) (course : Course T)
    → AreReleases network releases → IsOpened network releases course → All (IsFreshLeg network) course.records
all-fresh network releases course are opened =
    subst (All (IsFreshLeg network)) (sym opened.records)
    (All-append (IsFreshLeg network) (trunks_opened network 0 releases) (copies_in network releases)
    (trunks-fresh network 0 releases are.each)
    (λ i d h. (copies-fresh network 0 releases are.each i d h).fresh))

-- no port is to select
turn-is : {T : Type 0} (network : DeclaredNetwork) (releases : List Release) (course : Course T) (port : ℕ)
    → IsOpened network releases course → turn_at course port ≡ Resting
turn-is network releases course port opened =
    let n : ℕ = length network.topology.ports in
    let read : turn_at course port ≡ get_or (replicate n Resting) port Resting =
    ap (λ (ts : List Turn). get_or ts port Resting) opened.turns in
    elim (cases_lt port n) as (λ _. turn_at course port ≡ Resting) [
      | inl within ↦ read ∙ get_or-replicate n port Resting Resting within
      | inr past ↦
          let long : length (replicate n Resting) ≡ n = length-replicate n Resting in
          read ∙ get_or_past (replicate n Resting) port Resting (omega arith)
    ]

-- a leg without hop records was not sent
none-along : (frame : ℕ) (r : Release) (s : Sender) (path : List ℕ) (hops : List HopRecord) → hops ≡ []
    → hops_along frame r s path hops ≡ []
none-along frame r s [] hops none = refl
none-along frame r s (p ∷ path) hops none = ap (hops_along frame r s (p ∷ path)) none

-- it has not crossed a port
none-crossed_along : (frame : ℕ) (r : Release) (s : Sender) (path : List ℕ) (hops : List HopRecord) (ending : Ending)
    → hops ≡ [] → crossings_along frame r s path hops ending ≡ []
none-crossed_along frame r s [] hops ending none = refl
none-crossed_along frame r s (p ∷ path) hops ending none =
    ap (λ (hs : List HopRecord). crossings_along frame r s (p ∷ path) hs ending) none

-- and was not handed on
none-handed_along : (frame : ℕ) (r : Release) (s : Sender) (path : List ℕ) (hops : List HopRecord) → hops ≡ []
    → handed_along frame r s path hops ≡ []
none-handed_along frame r s [] hops none = refl
none-handed_along frame r s (p ∷ path) hops none = ap (handed_along frame r s (p ∷ path)) none

-- so no port has sent
sent-nothing : {T : Type 0} (network : DeclaredNetwork) (releases : List Release) (course : Course T) (port : ℕ)
    → AreReleases network releases → IsOpened network releases course → sent_so_far network course port ≡ []
sent-nothing network releases course port are opened =
    let fresh = all-fresh network releases course are opened in
    ap (λ (hs : List Hop). map (λ (h : Hop). h.sent) (filter (λ (h : Hop). h.port == port) hs))
    (nothing-from (leg_hops network) course.records
    (λ i d h. none-along (get_or course.records i d).frame (get_or course.records i d).release
    (sender_of network (get_or course.records i d)) (path_of network (get_or course.records i d))
    (get_or course.records i d).hops (fresh i d h).none))

-- no frame has crossed a port
none-crossed : (network : DeclaredNetwork) (stages : List Stage) (records : List Progress)
    → All (IsFreshLeg network) records → flat_map (leg_crossings network) (zip stages records) ≡ []
none-crossed network [] records fresh = refl
none-crossed network (s ∷ stages) [] fresh = refl
none-crossed network (s ∷ stages) (p ∷ records) fresh =
    ap (λ (xs : List Crossing). xs ++ flat_map (leg_crossings network) (zip stages records))
    (none-crossed_along p.frame p.release (sender_of network p) (path_of network p) p.hops _
    (All-head (IsFreshLeg network) p records fresh).none)
    ∙ none-crossed network stages records (All-tail (IsFreshLeg network) p records fresh)

crossed-nothing : {T : Type 0} (network : DeclaredNetwork) (releases : List Release) (course : Course T) (port : ℕ)
    → AreReleases network releases → IsOpened network releases course → crossings_so_far network course port ≡ []
crossed-nothing network releases course port are opened =
    ap (filter (λ (x : Crossing). x.port == port))
    (none-crossed network course.stages course.records (all-fresh network releases course are opened))

-- and none was handed on
handed-nothing : {T : Type 0} (network : DeclaredNetwork) (releases : List Release) (course : Course T)
    (port class : ℕ) → AreReleases network releases → IsOpened network releases course
    → handed_so_far network course port class ≡ []
handed-nothing network releases course port class are opened =
    let fresh = all-fresh network releases course are opened in
    ap (filter (λ (h : Handed). h.crossing.port == port && h.crossing.sent.class == class))
    (nothing-from (leg_handed network) course.records
    (λ i d h. none-handed_along (get_or course.records i d).frame (get_or course.records i d).release
    (sender_of network (get_or course.records i d)) (path_of network (get_or course.records i d))
    (get_or course.records i d).hops (fresh i d h).none))

-- the lists fit the network and the releases
opened-shape : {T : Type 0} (network : DeclaredNetwork) (releases : List Release) (course : Course T)
    → AreReleases network releases → HaveFewPorts network releases → IsOpened network releases course
    → IsShaped network releases course
opened-shape network releases course are few opened =
    let n : ℕ = length network.topology.ports in
    let nowhere : Ps = record { 0 = 0 } in
    record {
      legs = opened-again network course.records (all-fresh network releases course are opened) ∙ opened.records;
      firsts = opened.firsts;
      in_order = are.in_order;
      few = omega (arith, are.few);
      few_ports = few;
      stages = length-stages network releases course opened ∙ sym (length-records network releases course opened);
      ports = opened.count;
      turns = ap (λ (ts : List Turn). length ts) opened.turns ∙ length-replicate n Resting;
      arrives_from = ap (λ (ts : List Ps). length ts) opened.arrives_from ∙ length-replicate n nowhere;
    }

-- a path with a port goes on from nothing
goes-at-first : (path : List ℕ) → 1 ≤ length path → Goes path []
goes-at-first [] least = absurd (omega arith)
goes-at-first (p ∷ path) least = tt

-- no record leads to a leg where there is none
none-got : (hops : List HopRecord) (hop : ℕ) → hops ≡ [] → slice_get hops hop ≡ None
none-got [] hop none = refl
none-got (h ∷ hops) hop none = cc (none)

no-hops : (network : DeclaredNetwork) (records : List Progress) (row : ℕ) → All (IsFreshLeg network) records
    → (progress_at records row).hops ≡ []
no-hops network records row fresh = elim (cases_lt row (length records)) [
  | inl within ↦ (fresh row no_progress within).none
  | inr past ↦ ap (λ (p : Progress). p.hops) (get_or_past records row no_progress past)
]

no-start : (network : DeclaredNetwork) (firsts : List ℕ) (records : List Progress) (leg : ℕ) (p : Progress)
    → All (IsFreshLeg network) records → start_by network firsts records leg p ≡ None
no-start network firsts records zero p fresh = refl
no-start network firsts records (suc copy) p fresh =
    let row : ℕ = row_of firsts p.frame (get_or (sender_of network p).branches copy no_branch).leg in
    none-got (progress_at records row).hops (get_or (sender_of network p).branches copy no_branch).hop
    (no-hops network records row fresh)

-- each trunk is as far as its stage says
trunk-frame : {T : Type 0} (network : DeclaredNetwork) (releases : List Release) (course : Course T) (row : ℕ)
    → IsNetwork network → AreReleases network releases → IsOpened network releases course → row < length releases
    → IsFrame network course (progress_at course.records row) (stage_at course row)
trunk-frame network releases course row rules are opened within =
    let r : Release = get_or releases row no_release in
    let is : IsRelease network r = are.each row no_release within in
    let here : IsFrame network course (leg_opened network row r 0) (Coming r.at) = record {
      sender = is.sender;
      octets = is.octets;
      leg = omega arith;
      room = refl;
      stands = record {
        here = (
          goes-at-first (leg_at (legs_at network r.sender) 0)
              (leg-some network r.sender 0 rules is.sender (omega arith)),
          refl,
        );
        unended = refl;
      };
    } in
    subst (λ (p : Progress). IsFrame network course p (stage_at course row))
    (sym (trunk-is network releases course row opened within))
    (subst (IsFrame network course (leg_opened network row r 0))
    (sym (stage-is network releases course row opened within)) here)

-- and each copy
copy-frame : {T : Type 0} (network : DeclaredNetwork) (releases : List Release) (course : Course T) (row : ℕ)
    → AreReleases network releases → IsOpened network releases course → length releases ≤ row
    → row < length course.records → IsFrame network course (progress_at course.records row) (stage_at course row)
copy-frame network releases course row are opened behind within =
    let p : Progress = progress_at course.records row in
    let is : IsFreshCopy network p = copy-is network releases course row are opened behind within in
    let none = no-start network course.firsts course.records p.leg p (all-fresh network releases course are opened) in
    let here : IsFrame network course p Apart = record {
      sender = is.fresh.sender;
      octets = is.fresh.octets;
      leg = is.fresh.leg;
      room = is.fresh.room;
      stands = record {
        here = (is.fresh.none, none, is.copy);
        unended = sym (ap (λ (q : Progress). q.ending) is.fresh.again);
      };
    } in
    subst (IsFrame network course p) (sym (stage-apart network releases course row opened behind within)) here

opened-frames : {T : Type 0} (network : DeclaredNetwork) (releases : List Release) (course : Course T)
    → IsNetwork network → AreReleases network releases → IsOpened network releases course → (row : ℕ)
    → row < length course.records → IsFrame network course (progress_at course.records row) (stage_at course row)
opened-frames network releases course rules are opened row within =
    elim (cases_lt row (length releases)) [
      | inl trunk ↦ trunk-frame network releases course row rules are opened trunk
      | inr behind ↦ copy-frame network releases course row are opened behind within
    ]

-- each event that is to happen is the arrival of a frame
arrival-is : {T : Type 0} (network : DeclaredNetwork) (releases : List Release) (course : Course T) (frame : ℕ)
    → IsOpened network releases course → frame < length releases
    → moment_of course (Arrival frame) ≡ Some (entry_of frame (get_or releases frame no_release)).0
arrival-is network releases course frame opened within =
    ap (arrival_by frame) (stage-is network releases course frame opened within)

-- where there is no moment, nothing is to be there
nowhere-to-be : {X : Type 0} (o : Option X) (P : X → Type 0) → o ≡ None → IfSome o P
nowhere-to-be {X} o P none = subst (λ (x : Option X). IfSome x P) (sym none) tt

-- the arrivals of all frames are entries
opened-there : {T : Type 0} (network : DeclaredNetwork) (releases : List Release) (course : Course T)
    → IsOpened network releases course → (event : Event)
    → IfSome (moment_of course event) (λ moment. Contains (released_from 0 releases) (moment, event))
opened-there network releases course opened (Arrival frame) =
    let long = length-released 0 releases in
    either-stage network releases course frame
    (λ (s : Stage).
    IfSome (arrival_by frame s) (λ moment. Contains (released_from 0 releases) (moment, Arrival frame)))
    opened
    (λ within.
    (frame, omega arith, entry-at releases frame (entry_of frame (get_or releases frame no_release)) within)) tt tt
opened-there network releases course opened (Eligibility frame) =
    either-stage network releases course frame
    (λ (s : Stage).
    IfSome (eligibility_by frame s) (λ moment. Contains (released_from 0 releases) (moment, Eligibility frame)))
    opened (λ _. tt) tt tt
opened-there network releases course opened (Selection port) =
    nowhere-to-be (moment_of course (Selection port))
    (λ moment. Contains (released_from 0 releases) (moment, Selection port))
    (ap (selection_by port) (turn-is network releases course port opened))

-- arrivals of one frame are those of one number
same-arrival : (i j : ℕ) → Arrival i ≡ Arrival j → i ≡ j
same-arrival i j same = cc

-- the entries are the events that are to happen
opened-awaited : {T : Type 0} (network : DeclaredNetwork) (releases : List Release) (course : Course T)
    → IsOpened network releases course → AreAwaited course (released_from 0 releases)
opened-awaited network releases course opened =
    let long = length-released 0 releases in
    record {
      each = λ i d h.
          (let within : i < length releases = omega arith in
          subst (λ (entry : Moment × Event). moment_of course entry.1 ≡ Some entry.0)
          (sym (entry-at releases i d within)) (arrival-is network releases course i opened within));
      there = opened-there network releases course opened;
      apart = λ i j d less h same.
          (let other = same-arrival i j
          (sym (ap (λ (entry : Moment × Event). entry.1) (entry-at releases i d (omega arith))) ∙ same
          ∙ ap (λ (entry : Moment × Event). entry.1) (entry-at releases j d (omega arith))) in
          omega arith);
      reached = λ i d h. subst (λ (m : Moment). IsReached m (get_or (released_from 0 releases) i d).0)
          (sym opened.last) (record { time = omega arith; phase = λ _. omega arith });
    }

-- a port that was just opened holds and has sent nothing
fresh-port : {T : Type 0} (key : T → ℕ → ℕ → ℕ) (network : DeclaredNetwork) (releases : List Release)
    (course : Course T) (port : ℕ) (rooms : List ℕ) → AreReleases network releases → IsOpened network releases course
    → ((class : ℕ) → class ≤ 7 → get_or rooms class 0 ≡ room_of network course port class)
    → IsPortOf key network course port
    (standing.opened (port_at network.topology.ports port).ps_per_bit rooms course.tie)
fresh-port {T} key network releases course port rooms are opened each =
    let ps : ℕ = (port_at network.topology.ports port).ps_per_bit in
    let fresh : PortState T = standing.opened ps rooms course.tie in
    let nothing : List Transmission = [] in
    record {
      of_network = record {
        ps_per_bit = refl;
        tie = refl;
        rooms = each;
      };
      past = record {
        lawful = lawful-open (key course.tie) ps;
        sent = subst (IsPermutation nothing) (sym (sent-nothing network releases course port are opened))
            (IsPermutation-refl nothing);
      };
      holding = record {
        held = All-nil (IsHeld network course port);
        waiting = λ row within waits place. absurd (never-waits row waits);
        apart = λ i j d less h. absurd (omega arith);
      };
      turn = subst (IsTurn fresh) (sym (turn-is network releases course port opened)) refl;
      free = refl;
      times = record {
        started = λ some. absurd (omega arith);
        selected = λ some. absurd (omega arith);
        eligible = All-nil (λ (o : Offer). o.eligible.0 ≤ course.last.at.0);
      };
    }
  where
    never-waits : (row : ℕ) → stage_at course row ≡ Waiting → ⊥
    never-waits row waits =
        either-stage network releases course row (λ (s : Stage). s ≡ Waiting → ⊥) opened (λ _ h. cc (h)) (λ h. cc (h))
        (λ h. cc (h)) waits

-- so each port is as it has to be
opened-ports : {T : Type 0} (key : T → ℕ → ℕ → ℕ) (network : DeclaredNetwork) (releases : List Release)
    (course : Course T) → AreReleases network releases → IsOpened network releases course → (port : ℕ)
    → port < length network.topology.ports → IsPortOf key network course port (port_state_at course port)
opened-ports key network releases course are opened port within =
    let is : IsFresh network course port = opened.ports port within in
    subst (IsPortOf key network course port) (sym is.fresh)
    (fresh-port key network releases course port is.rooms are opened is.each)

-- behind no port has a frame arrived
arrives-from-is : {T : Type 0} (network : DeclaredNetwork) (releases : List Release) (course : Course T) (port : ℕ)
    → IsOpened network releases course → port < length network.topology.ports → arrives_from_at course port ≡ 0
arrives-from-is network releases course port opened within =
    let nowhere : Ps = record { 0 = 0 } in
    ap (λ (ts : List Ps). (get_or ts port nowhere).0) opened.arrives_from
    ∙ ap (λ (p : Ps). p.0) (get_or-replicate (length network.topology.ports) port nowhere nowhere within)

-- what is kept of the last arrival behind each port is so
opened-paces : {T : Type 0} (wait : ℕ → ℕ → ℕ) (network : DeclaredNetwork) (releases : List Release)
    (course : Course T) → AreReleases network releases → IsOpened network releases course → (port : ℕ)
    → port < length network.topology.ports → IsPaced wait network course port
opened-paces wait network releases course are opened port within =
    let link : Port = port_at network.topology.ports port in
    let none : [] ≡ crossings_so_far network course port =
    sym (crossed-nothing network releases course port are opened) in
    record {
      rule = subst (KeepsLinkRule link) none (record {
        within = λ k d h. absurd (omega arith);
        order = λ k d h. absurd (omega arith);
      });
      pace = subst (KeepsPace wait link) none (λ k d h. absurd (omega arith));
      next = arrives-from-is network releases course port opened within ∙ ap (in_order_from END) none;
    }

-- the groups at first
length-residences : (network : DeclaredNetwork)
    → length (residences_of network) ≡ 8 * length network.topology.ports
length-residences network =
    length-map-range_with_len (residence_of network) 0 (8 * length network.topology.ports)

-- they are those of the network
groups-opened : (network : DeclaredNetwork) → IsNetwork network
    → AreGroupsOf network (groups.opened (residences_of network) (members_of network))
groups-opened network rules =
    let nowhere : Ps = record { 0 = 0 } in
    record {
      lawful = record {
        times = length-replicate (length (residences_of network)) nowhere;
        empties = length-map (members_of network) (λ (m : Member). first_empty m.declared.burst_bits);
        members = subst (λ (n : ℕ). AreMembers n (members_of network)) (sym (length-residences network))
            (members_are network rules);
      };
      residences = refl;
      members = refl;
    }

-- each scheduler has the bucket that is its at first behind its port
empty-opened : (network : DeclaredNetwork) (stream leg hop : ℕ) → IsHop network stream leg hop
    → empty_at (first_empties (members_of network)) (scheduler_of network stream leg hop)
    ≡ first_empty (scheduled_by network (get_or (leg_ports network stream leg) (hop - 1) 0) stream).burst_bits
empty-opened network stream leg hop is =
    let place : ℕ = scheduler_of network stream leg hop in
    let empty : Member → ℤ = λ (m : Member). first_empty m.declared.burst_bits in
    get_or-map empty (members_of network) place no_member (pos 0) (scheduler_within network stream leg hop is)
    ∙ ap empty (scheduler_there network stream leg hop is)

-- and keep what their folds begin with
state-opened : (network : DeclaredNetwork) (port class : ℕ)
    → IsStateOf network (groups.opened (residences_of network) (members_of network)) port class
    (first (scheduled_by network port))
state-opened network port class = record {
  time = ap (λ (s : State). s.time)
      (opened_first (residences_of network) (members_of network) (group_behind port class));
  empties = λ stream leg hop is behind own. empty-opened network stream leg hop is
      ∙ ap (λ (p : ℕ). first_empty (scheduled_by network p stream).burst_bits) behind;
}

-- which is what nothing leaves
opened-groups : {T : Type 0} (network : DeclaredNetwork) (releases : List Release) (course : Course T)
    → AreReleases network releases → IsOpened network releases course → (port class : ℕ)
    → IsGroupOf network course port class
opened-groups network releases course are opened port class =
    let nothing : List Handed = [] in
    record {
      arrivals = [];
      same = subst (λ (hs : List Handed). IsPermutation hs nothing)
          (sym (handed-nothing network releases course port class are opened)) (IsPermutation-refl nothing);
      in_order = λ i j d less h. absurd (omega arith);
      verdicts = refl;
      state = subst (λ (g : GroupsState). IsStateOf network g port class (first (scheduled_by network port)))
          (sym opened.groups) (state-opened network port class);
      reached = All-nil (λ (h : Handed). h.crossing.arrival ≤ course.last.at.0);
    }

-- all is over in time
opened-bounds : {T : Type 0} (network : DeclaredNetwork) (releases : List Release) (course : Course T)
    → IsNetwork network → AreReleases network releases → HaveFewPorts network releases
    → IsOpened network releases course → EndsInTime course (released_from 0 releases)
opened-bounds {T} network releases course rules are few opened =
    let n : ℕ = length (copies_in network releases) in
    let comes : List Stage = map (λ (r : Release). Coming r.at) releases in
    let early : All IsEarly course.stages = subst (All IsEarly) (sym opened.stages)
    (All-append IsEarly comes (replicate n Apart)
    (All-map IsEarly (λ (r : Release). Coming r.at) releases (λ i d h p. omega arith))
    (apart-early n)) in
    let most = most-early course.stages course.records early in
    let rooms = ap (sum_by (λ (p : Progress). p.room)) opened.records ∙ rooms-opened network 0 0 releases rules are.each
    in
    let long = length-released 0 releases in
    let first : course.last.at.0 ≡ 0 = ap (λ (m : Moment). m.at.0) opened.last in
    record {
      last = omega (arith, few, most, rooms);
      each = λ i d h.
          (let within : i < length releases = omega arith in
          let at = ap (λ (entry : Moment × Event). entry.0.at.0) (entry-at releases i d within) in
          let time = (are.each i no_release within).time in
          omega (arith, few, most, rooms));
      ends = λ port d h.
          (let is : IsFresh network course port = opened.ports port (omega (arith, h, opened.count)) in
          let none = ap (λ (s : PortState T). last_end s.sent)
          (get_or_default course.ports port d (standing.opened 0 [] course.tie) h ∙ is.fresh) in
          omega (arith, few, most, rooms, none));
    }
  where
    apart-early : (n : ℕ) → All IsEarly (replicate n Apart)
    apart-early zero = All-nil IsEarly
    apart-early (suc n) = All-cons IsEarly Apart (replicate n Apart) (λ p. omega arith) (apart-early n)

-- a run that is to begin: each frame comes to the first port of its trunk at its release, nothing has happened yet
pub opened-holds : {T : Type 0} (key : T → ℕ → ℕ → ℕ) (wait : ℕ → ℕ → ℕ) (network : DeclaredNetwork)
    (releases : List Release) (course : Course T) (entries : List (Moment × Event)) → IsNetwork network
    → AreReleases network releases → HaveFewPorts network releases → IsOpened network releases course
    → entries ≡ released_from 0 releases → Holds key wait network releases course entries
opened-holds key wait network releases course entries rules are few opened entered =
    subst (Holds key wait network releases course) (sym entered) (record {
      rules = rules;
      shape = opened-shape network releases course are few opened;
      frames = opened-frames network releases course rules are opened;
      awaited = opened-awaited network releases course opened;
      ports = opened-ports key network releases course are opened;
      paces = opened-paces wait network releases course are opened;
      members = subst (AreGroupsOf network) (sym opened.groups) (groups-opened network rules);
      groups = λ port class within least most. opened-groups network releases course are opened port class;
      flows = λ port within. subst (All (IsPassed network))
          (sym (handed-nothing network releases course port 0 are opened)) (All-nil (IsPassed network));
      bounds = opened-bounds network releases course rules are few opened;
    })
