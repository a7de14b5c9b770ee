use Rattle.std.proofs.Common.{◌≡◌, ℕ, List, [], sym, ap, ◌∙◌, arith}
use Rattle.std.specs.Prelude.{fold}
use Rattle.ats_num.specs.Wire.{bits_of}
use Rattle.ats_bucket.specs.Conforming.{Frame}
use Rattle.ats_streams.specs.declared.traffic.Declared.{Declared}
use Rattle.ats_group.specs.Group.{Offer, first, state_after}
use Rattle.ats_streams.specs.Traffic.{IsRuled}
use Rattle.ats_group_law.specs.Accepted.{accepted, accepted_of}
use Rattle.ats_group_law.specs.Full.{FullState, full_first, full_judged, full_state_after, full_verdicts}
use Rattle.ats_group_law.specs.Laws.{passed, passed_of, next_verdict, IsLeastFor, EligibilityIsLeast, LateTimeIsLeast}
use Rattle.ats_group_law.specs.Laws.{GroupTimeIsLast, OutputConforms, OutputConformsByWindows, OutputAscends}
use Rattle.ats_group_law.proofs.FullStep.{first-one, judged-one}
use Rattle.ats_group_law.proofs.FullFold.{state-one, full_fold}
use Rattle.ats_group_law.proofs.Order.{from_frames}
use Rattle.ats_group_law.proofs.Output.{knows-from_first, Ascends, ascends-after, last-after}
use Rattle.ats_group_law.proofs.Tracked.{tracks-least}
use Rattle.ats_group_law.proofs.VerdictParts.{IsTimeOf, eligible-time, late-time}
use Rattle.ats_group_law.proofs.WindowPlaces.{places_from_windows}

-- the same frames by bucket-full times
passed_of-full : (declared : ℕ → Declared) (residence_ns : ℕ) (offers : List Offer) (member : ℕ) → passed_of declared
    residence_ns offers member ≡ accepted_of member offers (full_verdicts declared residence_ns full_first offers)
passed_of-full declared residence_ns offers member =
    ap (accepted_of member offers) (full_fold declared residence_ns offers).verdicts

passed-full : (declared : ℕ → Declared) (residence_ns : ℕ) (offers : List Offer)
    → passed declared residence_ns offers ≡ accepted offers (full_verdicts declared residence_ns full_first offers)
passed-full declared residence_ns offers = ap (accepted offers) (full_fold declared residence_ns offers).verdicts

pub next_verdict-full : (declared : ℕ → Declared) (residence_ns : ℕ) (offers : List Offer) (offer : Offer)
    → next_verdict declared residence_ns offers offer
    ≡ full_judged declared residence_ns (full_state_after declared residence_ns full_first offers) offer
next_verdict-full declared residence_ns offers offer =
    judged-one declared residence_ns (state_after declared residence_ns (first declared) offers)
    (full_state_after declared residence_ns full_first offers) offer
    (state-one declared residence_ns (first declared) full_first offers (first-one declared))

pub output_by_windows : OutputConformsByWindows
output_by_windows declared residence_ns offers member r =
    rw (passed_of-full declared residence_ns offers member)
    (knows-from_first declared residence_ns member offers r).conforms

pub output_conforms : OutputConforms
output_conforms declared residence_ns offers member r =
    places_from_windows (declared member).rate (declared member).burst_bits
    (passed_of declared residence_ns offers member) (output_by_windows declared residence_ns offers member r)

ascends_first : Ascends full_first []
ascends_first = record { in_order = λ i j d h k. absurd (omega arith); past = λ i d h. absurd (omega arith) }

pub output_ascends : OutputAscends
output_ascends declared residence_ns offers =
    rw (passed-full declared residence_ns offers)
    (from_frames (accepted offers (full_verdicts declared residence_ns full_first offers))
    (ascends-after declared residence_ns full_first [] offers ascends_first).in_order)

pub group_time_last : GroupTimeIsLast
group_time_last declared residence_ns offers =
    (full_fold declared residence_ns offers).time
    ∙ last-after declared residence_ns full_first offers
    ∙ ap (fold (λ (time : ℕ) (f : Frame). f.at) 0) (sym (passed-full declared residence_ns offers))

-- what is asked of the next frame gives the least time
least_from_time : (declared : ℕ → Declared) (residence_ns : ℕ) (offers : List Offer) (offer : Offer) (e : ℕ)
    → IsRuled (declared offer.member) → IsTimeOf (declared offer.member)
    (full_state_after declared residence_ns full_first offers) offer e → IsLeastFor declared residence_ns offers offer e
least_from_time declared residence_ns offers offer e r t =
    let d : Declared = declared offer.member in
    let state : FullState = full_state_after declared residence_ns full_first offers in
    rw (passed_of-full declared residence_ns offers offer.member, (full_fold declared residence_ns offers).time)
    (tracks-least d.rate d.burst_bits state.time (state.full offer.member) offer.arrival (bits_of offer.octets)
    e (accepted_of offer.member offers (full_verdicts declared residence_ns full_first offers))
    (knows-from_first declared residence_ns offer.member offers r) t.bits t.time)

pub eligibility_least : EligibilityIsLeast
eligibility_least declared residence_ns offers offer e r v =
    least_from_time declared residence_ns offers offer e.0 r
    (eligible-time declared residence_ns (full_state_after declared residence_ns full_first offers) offer e r
    (sym (next_verdict-full declared residence_ns offers offer) ∙ v))

pub late_time_least : LateTimeIsLeast
late_time_least declared residence_ns offers offer e r v =
    least_from_time declared residence_ns offers offer e.0 r
    (late-time declared residence_ns (full_state_after declared residence_ns full_first offers) offer e r
    (sym (next_verdict-full declared residence_ns offers offer) ∙ v))
