use Rattle.std.proofs.Common.{◌≡◌, ℕ, ◌+◌, ◌*◌, ◌≤◌, true, List, map, length, get_or, All, sym}
use Rattle.std.proofs.Common.{subst, arith}
use Rattle.std.specs.List.{AllZip}
use Rattle.std.specs.List.Sorted.{IsNonDecreasingBy}
use Rattle.std.proofs.lemmas.List.Elements.{All-map, All-weaker}
use Rattle.std.proofs.lemmas.List.Sorted.{All-permutation, IsPermutation-sym}
use Rattle.ats_num.specs.declared.time.TheConstants.{PS_PER_NS}
use Rattle.ats_topology.specs.Port.{port_at}
use Rattle.ats_network.specs.Bridges.{IsBridgeAt}
use Rattle.ats_network.specs.Network.{DeclaredNetwork}
use Rattle.ats_certificate.specs.Certificate.{RowHolds}
use Rattle.ats_certificate.specs.PortSums.{is_used}
use Rattle.ats_certificate.specs.declared.row.Row.{Row}
use Rattle.ats_group.specs.Group.{Offer}
use Rattle.ats_streams.specs.Traffic.{IsRuled, is_declared_size}
use Rattle.ats_group.specs.declared.verdict.Verdict.{Verdict}
use Rattle.ats_group_law.specs.Shaping.{Passage, frames_before, IsEligibleAgain}
use Rattle.ats_group.specs.Judge.{Judge}
use Rattle.ats_group_law.specs.Regulator.{IsDelayedBy}
use Rattle.ats_group_law.proofs.ShapingUse.{All-from_all_zip}
use Rattle.ats_port_law.proofs.ByEligibility.{by_eligibility}
use Rattle.ats_port_law.proofs.Used.{IsPlace, used_place}
use Rattle.ats_bucket.specs.Conforming.{Frame}
use Rattle.ats_streams.specs.declared.traffic.Declared.{Declared}
use Rattle.ats_trace.specs.Journey.{Travel}
use Rattle.ats_trace.specs.Projections.{Handed, sent_by, handed_by}
use Rattle.ats_trace.specs.Eligibility.{IsJudged, residence_of_groups, scheduled_by}
use Rattle.ats_soundness_law.specs.Laws.{IsHandedOn}
use Rattle.ats_soundness_law.specs.Sound.{IsEligibleBy}
use Rattle.ats_soundness_law.proofs.Arrivals.{HasArrived, arrived}
use Rattle.ats_soundness_law.proofs.Known.{CaseBy, case_of}
use Rattle.ats_soundness_law.proofs.Passages.{passage_of, offers_are, passages_keep}
use Rattle.ats_soundness_law.proofs.Offered.{IsFed}
use Rattle.ats_soundness_law.proofs.Streams.{member_ruled}
use Rattle.ats_soundness_law.proofs.Timely.{AtRow, OnTime, at_row, in_order, may_stay, on_time}
use Rattle.ats_clock_law.proofs.Pairs.{order-mapped}
use Rattle.ats_soundness_law.proofs.Wider.{committed_to_scheduled}

-- so a group delays none of them
delayed : {judge : Judge} {rule : Declared → List Frame → Type 0} (network : DeclaredNetwork) (run : List Travel)
    (row : Row) → CaseBy judge rule network run → is_used network row.port row.class ≡ true
    → IsBridgeAt network.topology (port_at network.topology.ports row.port).to
    → RowHolds network row → IsFed rule network run row.port
    → (j : IsJudged judge network row.port (handed_by network run row.port row.class))
    → IsDelayedBy rule (scheduled_by network row.port) (residence_of_groups network row.port) row.bound
    (map passage_of j.arrivals)
delayed {judge} {rule} network run row c used bridge holds fed j =
    let a : AtRow network run row = at_row network run row (case_of c) used bridge holds
    (by_eligibility network row.port (sent_by network run row.port) fed.offered) in
    let handed : List Handed = handed_by network run row.port row.class in
    let passages : List Passage = map passage_of j.arrivals in
    let Came : Handed → Type 0 = HasArrived network run row.port row.class in
    let came : All Came j.arrivals =
    All-permutation Came handed j.arrivals j.same (arrived network run row.port row.class a.known) in
    let timely : All (OnTime network row) j.arrivals =
    All-weaker Came (OnTime network row) (on_time network run row a) j.arrivals came in
    let order : IsNonDecreasingBy (λ (p : Passage). p.since) passages =
    order-mapped (λ (p : Passage). p.since) passage_of j.arrivals
    (in_order network run row a j.arrivals came j.in_order) in
    let stay = may_stay network run row a in
    record {
      ruled = All-map (λ (p : Passage). IsRuled (scheduled_by network row.port p.offer.member)) passage_of j.arrivals
          (λ k d h. member_ruled network c.net row.port (get_or j.arrivals k d).crossing.sent.sender
          (came k d h).told.exists (timely k d h).shaped);
      sized = All-map (λ (p : Passage).
          is_declared_size (scheduled_by network row.port p.offer.member) p.offer.octets ≡ true)
          passage_of j.arrivals (λ k d h. (timely k d h).size);
      in_order = order;
      kept =
          All-map (λ (p : Passage).
          rule (scheduled_by network row.port p.offer.member) (frames_before p.offer.member passages))
          passage_of j.arrivals
          (λ k d h. (
          let i : ℕ = (get_or j.arrivals k d).crossing.sent.sender in
          committed_to_scheduled network row.port i (frames_before i passages) c.rules c.net
          (passages_keep network run row.port row.class c j.arrivals j.same order i
          (fed.kept i (timely k d h).stream))));
      arrives = All-map (λ (p : Passage). p.offer.arrival ≤ p.since + row.bound) passage_of j.arrivals
          (λ k d h. (timely k d h).arrives);
      may_stay = All-map
          (λ (p : Passage). p.since + row.bound ≤ p.offer.arrival + PS_PER_NS * residence_of_groups network row.port)
          passage_of j.arrivals (λ k d h. (let needs = (timely k d h).needs in omega (arith, needs, stay)));
    }

handed_again : (row : Row) (h : Handed) → IsEligibleAgain row.bound (passage_of h) h.verdict → IsHandedOn row h
handed_again row h again =
    subst (λ (v : Verdict). IsEligibleBy (h.crossing.sent.eligible + row.bound) (λ e. Unit {0}) v)
    (sym again.1) (again.2, tt)

pub shaping_for_free_by : {judge : Judge} {rule : Declared → List Frame → Type 0} (network : DeclaredNetwork)
    (run : List Travel) (row : Row)
    → CaseBy judge rule network run
    → is_used network row.port row.class ≡ true
    → IsBridgeAt network.topology (port_at network.topology.ports row.port).to
    → RowHolds network row → IsFed rule network run row.port
    → All (IsHandedOn row) (handed_by network run row.port row.class)
shaping_for_free_by {judge} {rule} network run row known used bridge holds fed =
    let place : IsPlace (length network.topology.ports) row.port row.class =
    used_place network row.port row.class known.net used in
    let handed : List Handed = handed_by network run row.port row.class in
    let residence_ns : ℕ = residence_of_groups network row.port in
    let j : IsJudged judge network row.port handed =
    known.legal.groups row.port row.class place.within place.ranked in
    let Again : Passage → Verdict → Type 0 = IsEligibleAgain row.bound in
    let free = known.regulator.free (scheduled_by network row.port) residence_ns row.bound (map passage_of j.arrivals)
    (delayed network run row known used bridge holds fed j) in
    let ByOffers : List Offer → Type 0 =
    λ (os : List Offer).
    AllZip Again (map passage_of j.arrivals) (judge (scheduled_by network row.port) residence_ns os) in
    let judged : AllZip Again (map passage_of j.arrivals) (map (λ (h : Handed). h.verdict) j.arrivals) =
    subst (AllZip Again (map passage_of j.arrivals)) (sym j.verdicts) (subst ByOffers (offers_are j.arrivals) free) in
    All-permutation (IsHandedOn row) j.arrivals handed (IsPermutation-sym handed j.arrivals j.same)
    (All-weaker (λ (h : Handed). Again (passage_of h) h.verdict) (IsHandedOn row) (handed_again row) j.arrivals
    (All-from_all_zip Again passage_of (λ (h : Handed). h.verdict) j.arrivals judged))
