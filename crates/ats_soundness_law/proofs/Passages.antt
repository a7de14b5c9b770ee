use Rattle.std.proofs.Common.{◌≡◌, ℕ, ◌<◌, ◌≤◌, Bool, true, false, cond, List, [], ◌∷◌, map, filter, length, get_or}
use Rattle.std.proofs.Common.{sum_by, refl, sym, ap, ◌∙◌, arith}
use Rattle.std.specs.Prelude.{◌==◌, ◌&&◌, IsPermutation}
use Rattle.std.specs.List.Sorted.{IsNonDecreasing, IsNonDecreasingBy}
use Rattle.std.proofs.lemmas.List.{get_or-map, length-map}
use Rattle.std.proofs.lemmas.List.Kept.{IsNonDecreasingBy-filter}
use Rattle.std.proofs.lemmas.List.Sorted.{sum_by-IsPermutation}
use Rattle.ats_bucket.specs.Conforming.{Frame, times_of}
use Rattle.ats_streams.specs.declared.traffic.Declared.{Declared}
use Rattle.ats_network.specs.Network.{DeclaredNetwork}
use Rattle.ats_network.specs.Senders.{sender_at}
use Rattle.ats_group_law.specs.Shaping.{Passage, offers_of, frame_before, frames_before}
use Rattle.ats_port_law.specs.PortLaw.{frame_of, frames_by}
use Rattle.ats_port_law.proofs.Sums.{sum_by-filter, sum_by-le-all}
use Rattle.ats_trace.specs.Journey.{Travel, legs_at, legs_in}
use Rattle.ats_trace.specs.Projections.{Handed, handed_from, sent_by, handed_by}
use Rattle.ats_trace.specs.Eligibility.{committed_by, offer_of}
use Rattle.ats_group.specs.Group.{Offer}
use Rattle.ats_group.specs.Judge.{Judge}
use Rattle.ats_soundness_law.proofs.Along.{hop_of}
use Rattle.ats_soundness_law.proofs.Bits.{sum_by-map, hop_weight, sent_of, sent_weight, weight_of}
use Rattle.ats_soundness_law.proofs.Journeys.{each_handed-le}
use Rattle.ats_soundness_law.proofs.Known.{Case, CaseBy, IsTold, case_of, told}
use Rattle.ats_soundness_law.proofs.Lifts.{run_handed-le}
use Rattle.ats_soundness_law.proofs.Offered.{Kept}

-- a frame that a port hands on, with the time at which it was eligible there
abbrev pub passage_of : Handed → Passage
passage_of h = record { since = h.crossing.sent.eligible; offer = offer_of h }

pub offers_are : (arrivals : List Handed) → offers_of (map passage_of arrivals) ≡ map offer_of arrivals
offers_are [] = refl
offers_are (h ∷ hs) = ap (λ (os : List Offer). offer_of h ∷ os) (offers_are hs)

-- the weight of a sender's frame as it was eligible at the port before
abbrev pub passage_weight : ℕ → (ℕ → Frame → ℕ) → Handed → ℕ
passage_weight i weight h =
    cond (h.crossing.sent.sender == i) (weight h.crossing.sent.frame (frame_before (passage_of h))) 0

-- of its frames there, as a sum over what is handed on
before_weight : (i : ℕ) (weight : Frame → ℕ) (arrivals : List Handed)
    → sum_by weight (frames_before i (map passage_of arrivals)) ≡ sum_by (passage_weight i (λ n. weight)) arrivals
before_weight i weight arrivals =
    let own = λ (p : Passage). p.offer.member == i in
    let of_member : Passage → ℕ = λ (p : Passage). cond (p.offer.member == i) (weight (frame_before p)) 0 in
    sum_by-map frame_before weight (filter own (map passage_of arrivals))
    ∙ sum_by-filter (λ (p : Passage). weight (frame_before p)) own (map passage_of arrivals)
    ∙ sum_by-map passage_of of_member arrivals

fewer_tests : (there ranked : Bool) (m n : ℕ) → m ≡ n → cond (there && ranked) m 0 ≤ cond there n 0
fewer_tests true true m n e = omega (arith, e)
fewer_tests true false m n e = omega arith
fewer_tests false ranked m n e = omega arith

-- it is that of the transmission there
passage_hop : (network : DeclaredNetwork) (i port class : ℕ) (weight : ℕ → Frame → ℕ) (h : Handed) → IsTold network h
    → cond (h.crossing.port == port && h.crossing.sent.class == class) (passage_weight i weight h) 0
    ≤ hop_weight i port weight (hop_of h.crossing)
passage_hop network i port class weight h told =
    fewer_tests (h.crossing.port == port) (h.crossing.sent.class == class) (passage_weight i weight h) _
    (ap (λ (n : ℕ). cond (h.crossing.sent.sender == i)
    (weight h.crossing.sent.frame (record { at = h.crossing.sent.eligible; bits = n })) 0) (sym told.bits))

-- a sender's frames that a port hands on weigh no more than those that it sent
pub crossed-le : (network : DeclaredNetwork) (run : List Travel) (port class : ℕ) → Case network run
    → (arrivals : List Handed) → IsPermutation (handed_by network run port class) arrivals
    → (i : ℕ) (weight : ℕ → Frame → ℕ) → sum_by (passage_weight i weight) arrivals
    ≤ sum_by (weight_of weight) (sent_of i (sent_by network run port))
crossed-le network run port class c arrivals same i weight =
    let handed : List Handed = handed_from network 0 run in
    let told = told network run c in
    let moved = sum_by-IsPermutation (passage_weight i weight) (handed_by network run port class) arrivals same in
    let chosen = sum_by-filter (passage_weight i weight)
    (λ (h : Handed). h.crossing.port == port && h.crossing.sent.class == class) handed in
    let le = sum_by-le-all (λ (h : Handed). cond (h.crossing.port == port && h.crossing.sent.class == class)
    (passage_weight i weight h) 0) (λ (h : Handed). hop_weight i port weight (hop_of h.crossing)) handed
    (λ k d h. passage_hop network i port class weight (get_or handed k d) (told k d h)) in
    let sent = run_handed-le (hop_weight i port weight) network 0 run
    (λ n j. each_handed-le (hop_weight i port weight) n j.release (sender_at network j.release.sender)
    (legs_at network j.release.sender) (legs_in j)) in
    omega (arith, moved, chosen, le, sent, sent_weight network run i port weight)

-- so they are no more
passages-le : (network : DeclaredNetwork) (run : List Travel) (port class : ℕ) → Case network run
    → (arrivals : List Handed) → IsPermutation (handed_by network run port class) arrivals
    → (i : ℕ) (weight : Frame → ℕ) → sum_by weight (frames_before i (map passage_of arrivals))
    ≤ sum_by weight (frames_by i (sent_by network run port))
passages-le network run port class c arrivals same i weight =
    omega (
      arith,
      before_weight i weight arrivals,
      crossed-le network run port class c arrivals same i (λ n. weight),
      sum_by-map frame_of weight (sent_of i (sent_by network run port)),
    )

no_passage : Passage
no_passage = record { since = 0; offer = record { member = 0; arrival = 0; octets = 0 } }

-- in the order of their times there
times_before : (passages : List Passage) → IsNonDecreasingBy (λ (p : Passage). p.since) passages
    → IsNonDecreasing (times_of (map frame_before passages))
times_before passages o i j n le within =
    let frames : List Frame = map frame_before passages in
    let there : j < length passages =
    omega (arith, within, length-map frames (λ (f : Frame). f.at), length-map passages frame_before) in
    let none : Frame = frame_before no_passage in
    let time : (k : ℕ) → k < length passages → get_or (times_of frames) k n ≡ (get_or passages k no_passage).since =
    λ k h. get_or-map (λ (f : Frame). f.at) frames k none n (omega (arith, h, length-map passages frame_before))
    ∙ ap (λ (f : Frame). f.at) (get_or-map frame_before passages k no_passage none h) in
    omega (arith, time i (omega arith), time j there, o i j no_passage le there)

-- so they keep the rule of their stream
pub passages_keep : {judge : Judge} {rule : Declared → List Frame → Type 0} (network : DeclaredNetwork)
    (run : List Travel) (port class : ℕ) → CaseBy judge rule network run
    → (arrivals : List Handed) → IsPermutation (handed_by network run port class) arrivals
    → IsNonDecreasingBy (λ (p : Passage). p.since) (map passage_of arrivals)
    → (i : ℕ) → Kept rule network run port i
    → rule (committed_by network port i) (frames_before i (map passage_of arrivals))
passages_keep network run port class c arrivals same order i kept =
    let own = λ (p : Passage). p.offer.member == i in
    c.rules.fewer (committed_by network port i) (frames_before i (map passage_of arrivals)) kept.others kept.keeps
    (times_before (filter own (map passage_of arrivals))
    (IsNonDecreasingBy-filter (λ (p : Passage). p.since) own (map passage_of arrivals) order))
    (λ weight. omega (
      arith,
      passages-le network run port class (case_of c) arrivals same i weight,
      kept.no_more weight,
    ))
