use Rattle.std.proofs.Common.{◌≡◌, ℕ, ◌<◌, ◌≤◌, List, length, get_or, All, ◌∙◌, ap, arith}
use Rattle.std.specs.Prelude.{max}
use Rattle.ats_queue.specs.declared.queued.Queued.{Queued}
use Rattle.ats_queue.specs.Contents.{Contents}
use Rattle.ats_queue.specs.Order.{IsNextTime}
use Rattle.ats_transmit.specs.declared.offer.Offer.{Offer}
use Rattle.ats_transmit.specs.declared.sent.Sent.{Sent}
use Rattle.ats_transmit.specs.Sending.{last_end}
use Rattle.ats_transmit.specs.PortQueues.{queued_of, held_of}
use Rattle.ats_transmit.specs.Picks.{IsFirstStart}
use Rattle.ats_transmit.proofs.Anys.{any-at}
use Rattle.ats_transmit.proofs.Held.{length-held, eligible-at}

-- the port is due when it is free and the least eligibility time has come
pub due_at : {T : Type 0} (qs : List (Contents T)) (sent : List Sent) (time due : ℕ) → IsNextTime (queued_of qs) time
    → due ≡ max time (last_end sent) → IsFirstStart (held_of qs) sent due
due_at qs sent time due next is =
    let n = length-held qs in
    let i : ℕ = next.reached.0 in
    let q : Queued = next.reached.1 in
    let o : Offer = record { frame = 0; sender = 0; class = 0; eligible = q.eligible; octets = 0 } in
    let found : (get_or (queued_of qs) i q).eligible.0 ≡ q.eligible.0 =
    ap (λ (x : Queued). x.eligible.0) next.reached.3 in
    let at : (get_or (held_of qs) i o).eligible.0 ≡ time =
    eligible-at qs i o q next.reached.2 ∙ found ∙ next.reached.4 in
    record {
      reached = record {
        free = omega arith;
        eligible = any-at (λ (x : Offer). x.eligible.0 ≤ due) (held_of qs) i o
            (omega (arith, next.reached.2)) (omega arith);
      };
      first = λ earlier may.
          let b = may.eligible in
          let e : (get_or (held_of qs) b.0 b.1).eligible.0 ≡ b.1.eligible.0 = ap (λ (x : Offer). x.eligible.0) b.3 in
          let least : time ≤ (get_or (queued_of qs) b.0 q).eligible.0 = next.least b.0 q (omega (arith, b.2)) in
          let same = eligible-at qs b.0 b.1 q (omega (arith, b.2)) in
          let reached : b.1.eligible.0 ≤ earlier = b.4 in
          let free : last_end sent ≤ earlier = may.free in
          omega arith;
    }

-- no held frame is eligible
pub none_held : {T : Type 0} (qs : List (Contents T)) (now : ℕ)
    → All (λ (q : Queued). now < q.eligible.0) (queued_of qs)
    → All (λ (o : Offer). now < o.eligible.0) (held_of qs)
none_held qs now none i d h =
    let q : Queued = record { frame = 0; sender = 0; eligible = d.eligible; octets = 0 } in
    let at : i < length (queued_of qs) = omega (arith, length-held qs) in
    omega (arith, eligible-at qs i d q at, none i q at)
