-- What a node sends of a stream, at the times that its clock told: it keeps the bucket with which the node sends it.
use Rattle.std.proofs.Common.{◌≡◌, ℕ, ◌<◌, Bool, true, false, cond, List, [], ◌∷◌, length, map, get_or, sum_by}
use Rattle.std.proofs.Common.{refl, sym, ap, ◌∙◌, subst, inl, inr, arith}
use Rattle.std.specs.Prelude.{◌==◌, filter}
use Rattle.std.specs.Option.{option_map_or}
use Rattle.std.proofs.Common.{Option}
use Rattle.std.proofs.lemmas.Bool.{cases_Bool, cases_eq}
use Rattle.std.proofs.lemmas.List.{get_or_default}
use Rattle.std.proofs.lemmas.List.Sums.{sum_by-cons}
use Rattle.std.proofs.lemmas.List.Sorted.{sum_by-IsPermutation}
use Rattle.ats_bucket.specs.Conforming.{Frame}
use Rattle.ats_clock.specs.Rates.{committed}
use Rattle.ats_clock.specs.declared.committed.Committed.{Committed}
use Rattle.ats_clock_law.specs.Retiming.{ConformTo}
use Rattle.ats_clock_law.specs.TrueTime.{stamped_offers}
use Rattle.ats_topology.specs.Port.{port_at}
use Rattle.ats_network.specs.Network.{DeclaredNetwork, IsNetwork}
use Rattle.ats_network.specs.Rates.{scheduled_at}
use Rattle.ats_network.specs.Sender.{Sender}
use Rattle.ats_network.specs.Senders.{IsSender, sender_at}
use Rattle.ats_certificate.specs.PortSums.{uses}
use Rattle.ats_group.specs.Group.{Offer}
use Rattle.ats_group.specs.Judge.{ats_judge}
use Rattle.ats_group_law.specs.Regulator.{AreNoMore, passed_by}
use Rattle.ats_group_law.proofs.Regulator.{ats_is_regulator}
use Rattle.ats_port_rule.specs.Transmission.{Transmission}
use Rattle.ats_trace.specs.Clocks.{IsJudgedBy, IsLegal}
use Rattle.ats_trace.specs.Eligibility.{offer_of, residence_of_groups, scheduled_by}
use Rattle.ats_trace.specs.Journey.{Travel}
use Rattle.ats_trace.specs.Projections.{handed_by, sent_by}
use Rattle.ats_trace.specs.Run.{releases_of}
use Rattle.ats_trace.specs.Stored.{travel_at}
use Rattle.ats_trace.specs.Talker.{frame_of, frames_of, read_by, talker_of}
use Rattle.ats_trace.specs.declared.journey.Release.{Release}
use Rattle.ats_soundness_law.specs.TrueTime.{KeepsBucketsIn}
use Rattle.ats_soundness_law.proofs.Bits.{sent_of, sum_by-map, through_weight, weight_of}
use Rattle.ats_soundness_law.proofs.ByClock.{at_told, through_told}
use Rattle.ats_soundness_law.proofs.Journeys.{IsAt, StandsAt, stands_at}
use Rattle.ats_soundness_law.proofs.LetThrough.{Comes, comes, group_class, group_port, none_weight, passed_weight}
use Rattle.ats_soundness_law.proofs.OwnFrames.{own_weight}
use Rattle.ats_soundness_law.proofs.Paths.{sender_is}
use Rattle.ats_soundness_law.proofs.SentWith.{own_with, sent_with}
use Rattle.ats_soundness_law.proofs.Streams.{stream_exists}
use Rattle.ats_soundness_law.proofs.ToldTimes.{case_in, group_is}

-- a transmission as a token bucket counts it, by the time that it was told
abbrev pub told_frame : (ℕ → ℕ) → Transmission → Frame
told_frame told x = record { at = told x.frame; bits = x.bits }

-- those of a sender
abbrev pub told_frames : (ℕ → ℕ) → ℕ → List Transmission → List Frame
told_frames told i sent = map (told_frame told) (sent_of i sent)

pub told_weight : (told : ℕ → ℕ) (i : ℕ) (sent : List Transmission) (weight : Frame → ℕ)
    → sum_by weight (told_frames told i sent) ≡ sum_by (weight_of (at_told told weight)) (sent_of i sent)
told_weight told i sent weight = sum_by-map (told_frame told) weight (sent_of i sent)

-- what a port was asked to send of a stream is, at the times that were told, no more than frames that conform to that
-- with which its node sends it
pub record KeptIn (told : ℕ → ℕ) (network : DeclaredNetwork) (run : List Travel) (port i : ℕ) : Type 0 where
  pub others : List Frame
  pub keeps : ConformTo (sent_with network.topology (sender_at network i) port) others
  pub no_more : AreNoMore (told_frames told i (sent_by network run port)) others

none_conform : (c : Committed) → ConformTo c []
none_conform c = record { in_order = λ i j d h k. absurd (omega arith); within = λ i j h k. absurd (omega arith) }

-- a weight of releases as a clock shows them
abbrev at_shown : (ℕ → ℕ) → (Frame → ℕ) → Frame → ℕ
at_shown shows weight f = weight (record { at = shows f.at; bits = f.bits })

read_weight : (shows : ℕ → ℕ) (i : ℕ) (weight : Frame → ℕ) (releases : List Release)
    → sum_by weight (frames_of i (read_by shows releases)) ≡ sum_by (at_shown shows weight) (frames_of i releases)
read_weight shows i weight [] = refl
read_weight shows i weight (r ∷ releases) = by (r.sender == i) (read_weight shows i weight releases)
  where
    shown : Release
    shown = record r { at = record { 0 = shows r.at.0 } }

    by : (b : Bool)
        → sum_by weight (frames_of i (read_by shows releases)) ≡ sum_by (at_shown shows weight) (frames_of i releases)
        → sum_by weight (map frame_of (cond b (shown ∷ filter (λ (x : Release). x.sender == i) (read_by shows releases))
        (filter (λ (x : Release). x.sender == i) (read_by shows releases))))
        ≡ sum_by (at_shown shows weight) (map frame_of (cond b
        (r ∷ filter (λ (x : Release). x.sender == i) releases)
        (filter (λ (x : Release). x.sender == i) releases)))
    by true rest = omega (
      arith,
      sum_by-cons weight (frame_of shown) (frames_of i (read_by shows releases)),
      sum_by-cons (at_shown shows weight) (frame_of r) (frames_of i releases),
      rest,
    )
    by false rest = rest

-- a stream that begins at the node: its releases, as the node's clock stamps them
own_kept : (network : DeclaredNetwork) (run : List Travel) (port i : ℕ) → IsNetwork network
    → (legal : IsLegal network run) → i < length network.streams
    → KeepsBucketsIn network run legal (port_at network.topology.ports port).from
    → uses port (sender_at network i) ≡ true
    → talker_of network i ≡ (port_at network.topology.ports port).from
    → KeptIn (legal.told (port_at network.topology.ports port).from) network run port i
own_kept network run port i net legal h keeps used begins =
    let node : ℕ = (port_at network.topology.ports port).from in
    let s : Sender = sender_at network i in
    let shows : ℕ → ℕ = legal.clocks node in
    let is : IsSender network.topology s = sender_is network net i (stream_exists network i h) in
    record {
      others = frames_of i (read_by shows (releases_of run));
      keeps = subst (λ (c : Committed). ConformTo c (frames_of i (read_by shows (releases_of run))))
          (sym (own_with network.topology s port is used begins)) (keeps.streams i h begins);
      no_more = λ weight. omega (
        arith,
        told_weight (legal.told node) i (sent_by network run port) weight,
        own_weight network run i port (at_told (legal.told node) weight) (at_shown shows weight) (case_in net legal)
            begins (λ n d within same. (
            let r : Release = (get_or run n d).release in
            let at : travel_at run n ≡ get_or run n d = get_or_default run n _ d within in
            let there : talker_of network r.sender ≡ node = ap (talker_of network) same ∙ begins in
            let own : legal.told (talker_of network r.sender) n ≡ legal.clocks (talker_of network r.sender) r.at.0 =
            subst (λ (j : Travel). legal.told (talker_of network j.release.sender) n
            ≡ legal.clocks (talker_of network j.release.sender) j.release.at.0) at (legal.own n within) in
            let here : legal.told node n ≡ shows r.at.0 =
            subst (λ (m : ℕ). legal.told m n ≡ legal.clocks m r.at.0) there own in
            omega (
              arith,
              ap (λ (t : ℕ). weight (record { at = t; bits = (frame_of r).bits })) here,
            ))),
        read_weight shows i weight (releases_of run),
      );
    }

-- and one that begins elsewhere: what the group of the node let through
passed_in : (network : DeclaredNetwork) (run : List Travel) (port i leg : ℕ) → IsNetwork network
    → (legal : IsLegal network run) → i < length network.streams
    → (talker_of network i ≡ (port_at network.topology.ports port).from → ⊥)
    → (hop : ℕ) → IsAt (sender_at network i) port leg hop
    → KeptIn (legal.told (port_at network.topology.ports port).from) network run port i
passed_in network run port i leg net legal h elsewhere hop at =
    let s : Sender = sender_at network i in
    let q : ℕ = group_port network port leg i in
    let class : ℕ = group_class network port leg i in
    let node : ℕ = (port_at network.topology.ports q).to in
    let before : Comes network port leg i = comes network port i leg hop net h elsewhere at in
    let j : IsJudgedBy (legal.clocks node) (legal.told node) network q (handed_by network run q class) =
    legal.groups q class before.within before.shaped in
    let offers : List Offer = stamped_offers (legal.clocks node) (map offer_of j.arrivals) in
    let others : List Frame = passed_by ats_judge (scheduled_by network q) (residence_of_groups network q) offers i in
    let with : sent_with network.topology s port ≡ scheduled_at network.topology q s =
    ap (λ (o : Option ℕ). option_map_or (λ before. scheduled_at network.topology before s) o
    (committed s.rate s.burst_bits)) before.before in
    subst (λ (n : ℕ). KeptIn (legal.told n) network run port i) (sym before.next)
    (record {
      others = others;
      keeps = subst (λ (c : Committed). ConformTo c others) (sym with)
          (ats_is_regulator.regulator.keeps (scheduled_by network q) (residence_of_groups network q) offers i
          before.ruled);
      no_more = λ weight. omega (
        arith,
        told_weight (legal.told node) i (sent_by network run port) weight,
        passed_weight network run i port (at_told (legal.told node) weight) (case_in net legal) elsewhere leg hop at,
        sum_by-IsPermutation (through_weight i (at_told (legal.told node) weight)) (handed_by network run q class)
            j.arrivals j.same,
        through_told (legal.clocks node) (legal.told node) (scheduled_by network q) i weight j.arrivals _
            (group_is network run legal q class j),
      );
    })

-- so of each stream
pub kept_in : (network : DeclaredNetwork) (run : List Travel) (port i : ℕ) → IsNetwork network
    → (legal : IsLegal network run)
    → KeepsBucketsIn network run legal (port_at network.topology.ports port).from → i < length network.streams
    → KeptIn (legal.told (port_at network.topology.ports port).from) network run port i
kept_in network run port i net legal keeps h =
    elim (cases_Bool (uses port (sender_at network i)))
    as (λ _. KeptIn (legal.told (port_at network.topology.ports port).from) network run port i) [
      | inl used ↦ elim (cases_eq (talker_of network i) (port_at network.topology.ports port).from)
          as (λ _. KeptIn (legal.told (port_at network.topology.ports port).from) network run port i) [
            | inl begins ↦ own_kept network run port i net legal h keeps used begins
            | inr elsewhere ↦ (
                let stands : StandsAt (sender_at network i) port =
                stands_at (sender_at network i) port (sender_is network net i (stream_exists network i h)).branches
                used in
                passed_in network run port i stands.leg net legal h elsewhere stands.hop stands.at)
          ]
      | inr unused ↦ record {
        others = [];
        keeps = none_conform (sent_with network.topology (sender_at network i) port);
        no_more = λ weight. omega (
          arith,
          told_weight (legal.told (port_at network.topology.ports port).from) i (sent_by network run port) weight,
          none_weight network run i port
              (at_told (legal.told (port_at network.topology.ports port).from) weight) (case_in net legal) unused,
        );
      }
    ]
