-- What has crossed a port was sent by it, and so to its end by the end of its last transmission.
use Rattle.std.proofs.Common.{◌≡◌, ℕ, ◌-◌, ◌≤◌, List, length, get_or, All, sym, ap, subst, inl, inr, arith}
use Rattle.std.specs.List.{Contains}
use Rattle.std.proofs.lemmas.Bool.{cases_eq}
use Rattle.std.proofs.lemmas.List.{get_or-map, length-map}
use Rattle.std.proofs.lemmas.List.Elements.{All-contains, All-contains_itself}
use Rattle.std.proofs.lemmas.List.Sorted.{All-permutation}
use Rattle.ats_network.specs.Network.{DeclaredNetwork}
use Rattle.ats_port_rule.specs.Transmission.{Transmission}
use Rattle.ats_transmit.specs.Sending.{IsLawful, last_end, last_of, never, transmission_of, transmissions}
use Rattle.ats_transmit.specs.State.{PortState}
use Rattle.ats_transmit.specs.declared.offer.Offer.{Offer}
use Rattle.ats_transmit.specs.declared.sent.Sent.{Sent}
use Rattle.ats_trace.specs.Projections.{Crossing}
use Rattle.ats_engine_steps.specs.Course.{Course, crossings_so_far, sent_so_far}
use Rattle.ats_engine_steps.specs.Ports.{IsPortOf}
use Rattle.ats_engine_proofs.proofs.Gathered.{crossed-gathered, sent-gathered}
use Rattle.ats_engine_proofs.proofs.OwnParts.{crossings-of-sent}

-- whatever crossed a port was sent by it
crossings-are-sent : {T : Type 0} (network : DeclaredNetwork) (course : Course T) (port : ℕ)
    → All (λ (x : Crossing). Contains (sent_so_far network course port) x.sent) (crossings_so_far network course port)
crossings-are-sent network course port =
    let sent : List Transmission = sent_so_far network course port in
    subst (All (λ (x : Crossing). Contains sent x.sent)) (sym (crossed-gathered network course port))
    (crossings-of-sent (Contains sent) network port course.stages course.records
    (subst (All (Contains sent)) (sent-gathered network course port) (All-contains_itself sent)))

-- the transmissions of a port have ended by the end of the last
ended-by_last : (key : ℕ → ℕ → ℕ) (ps : ℕ) (held : List Offer) (sent : List Sent) → IsLawful key ps held sent
    → All (λ (t : Transmission). t.end ≤ last_end sent) (transmissions sent)
ended-by_last key ps held sent lawful i d h =
    let ts : List Transmission = transmissions sent in
    let n : length ts ≡ length sent = length-map sent transmission_of in
    let j : ℕ = length sent - 1 in
    let last : get_or ts j d ≡ transmission_of (last_of sent) =
    get_or-map transmission_of sent j never d (omega arith) in
    let end : (get_or ts j d).end ≡ last_end sent = ap (λ (t : Transmission). t.end) last in
    elim (cases_eq i j) as (λ _. (get_or ts i d).end ≤ last_end sent) [
      | inl e ↦ (let same = ap (λ (k : ℕ). (get_or ts k d).end) e in omega (arith, same, end))
      | inr apart ↦ (
          let before = (lawful.order.pairs i j d (omega arith) (omega arith)).ended in
          let takes = (lawful.order.each j d (omega arith)).takes in
          omega (arith, before, takes, end))
    ]

-- and so have those that crossed it
pub crossed-ended : {T : Type 0} (key : T → ℕ → ℕ → ℕ) (network : DeclaredNetwork) (course : Course T) (port : ℕ)
    (standing : PortState T) → IsPortOf key network course port standing
    → All (λ (x : Crossing). x.sent.end ≤ last_end standing.sent) (crossings_so_far network course port)
crossed-ended key network course port standing is k d h =
    let Ended : Transmission → Type 0 = λ (t : Transmission). t.end ≤ last_end standing.sent in
    let sent : List Transmission = sent_so_far network course port in
    let all : All Ended sent =
    All-permutation Ended (transmissions standing.sent) sent is.past.sent
    (ended-by_last (key standing.tie) standing.ps_per_bit standing.held standing.sent is.past.lawful) in
    All-contains Ended sent (get_or (crossings_so_far network course port) k d).sent all
    (crossings-are-sent network course port k d h)
