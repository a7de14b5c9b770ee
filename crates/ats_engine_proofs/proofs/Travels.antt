-- What each step does to what is projected from the legs of the run so far.
use Rattle.std.proofs.Common.{◌≡◌, ◌≢◌, ℕ, ◌+◌, ◌*◌, ◌<◌, Bool, true, false, List, [], ◌∷◌, ◌++◌, length, get_or}
use Rattle.std.proofs.Common.{All, IsPermutation, Some, refl, sym, ap, ◌∙◌, subst, inl, inr, arith}
use Rattle.std.specs.Prelude.{◌==◌, if◌then◌else◌, Option, ◌⊎◌}
use Rattle.std.specs.List.{flat_map, zip}
use Rattle.std.proofs.lemmas.Bool.{cases_lt}
use Rattle.std.proofs.lemmas.List.Elements.{All-head, All-tail}
use Rattle.std.proofs.lemmas.List.Sorted.{All-permutation}
use Rattle.ats_facts.proofs.Lists.{pairs_head}
use Rattle.ats_num.specs.declared.time.Ps.{Ps}
use Rattle.ats_num.specs.Wire.{bits_of}
use Rattle.ats_network.specs.Network.{DeclaredNetwork, senders_of}
use Rattle.ats_network.specs.Sender.{Sender}
use Rattle.ats_network.specs.Class.{class_at}
use Rattle.ats_group.specs.declared.verdict.Verdict.{Verdict}
use Rattle.ats_group.specs.declared.verdict.Verdict.TheVariants.{Eligible, Late, Size}
use Rattle.ats_events.specs.declared.moment.Moment.{Moment}
use Rattle.ats_port_rule.specs.Transmission.{Transmission}
use Rattle.ats_transmit.specs.Sending.{begun}
use Rattle.ats_transmit.specs.declared.offer.Offer.{Offer}
use Rattle.ats_trace.specs.Projections.{Crossing, Handed, crossing_of, crossings_along, hops_along, handed_along}
use Rattle.ats_trace.specs.declared.journey.Ending.{Ending}
use Rattle.ats_trace.specs.declared.journey.Ending.TheVariants.{Sink, Discard}
use Rattle.ats_trace.specs.HopRecord.{HopRecord}
use Rattle.ats_trace.specs.declared.journey.Release.{Release}
use Rattle.ats_run_records.specs.Progress.{Progress, progress_at, last_hop, no_hop, with_hop, with_sent}
use Rattle.ats_run_records.specs.Progress.{with_ending}
use Rattle.ats_engine_steps.specs.Course.{Course, place_at, place_of, stage_at, sender_of, path_of, offer_at, offer_of}
use Rattle.ats_engine_steps.specs.Course.{eligibility_of, ending_by, leg_hops, leg_crossings, leg_handed, sent_so_far}
use Rattle.ats_engine_steps.specs.Course.{crossings_so_far, handed_so_far}
use Rattle.ats_engine_steps.specs.Entries.{arrival_moment}
use Rattle.ats_engine_steps.specs.Frames.{IsFrame, Goes, IsSent, IsUnsent}
use Rattle.ats_engine_steps.specs.Ports.{port_state_at, IsHeld}
use Rattle.ats_engine_steps.specs.Steps.{Comes, BecomesEligible, Selects, verdict_now, class_behind, came}
use Rattle.ats_engine_steps.specs.Steps.{IsLegAt, Move, set_each, stage_by}
use Rattle.ats_engine_steps.specs.declared.event.Event.{Event}
use Rattle.ats_engine_steps.specs.declared.event.Event.TheVariants.{Arrival, Selection}
use Rattle.ats_engine_steps.specs.declared.stage.Stage.{Stage}
use Rattle.ats_engine_steps.specs.declared.stage.Stage.TheVariants.{Coming, Due, Waiting, Over}
use Rattle.ats_engine_proofs.specs.Next.{IsEligibleNow, IsNext, IsArrival, IsCrossing}
use Rattle.ats_engine_proofs.proofs.Begun.{IsApart, next-or-apart, rows_begun}
use Rattle.ats_engine_proofs.proofs.Gathered.{hops_at, crossings_at, handed_in, sent_part, crossings_part}
use Rattle.ats_engine_proofs.proofs.Gathered.{handed_part, sent-gathered, crossed-gathered, handed_on-gathered}
use Rattle.ats_engine_proofs.proofs.Parts.{IsLast, transmitted, port-of-last, record-of-last, set-last}
use Rattle.ats_engine_proofs.proofs.Placed.{stands-at_most}
use Rattle.ats_engine_proofs.proofs.Rows.{frames-all, named-one, next-apart, place-names}
use Rattle.ats_engine_proofs.proofs.Rows.{release-one, row-is}
use Rattle.ats_engine_proofs.proofs.Standing.{Advances, Enters, records-same, records-more, both-same, both-more}
use Rattle.ats_engine_proofs.proofs.Standing.{entered-same, entered-more, entered-both, arriving-within}
use Rattle.ats_engine_proofs.proofs.Standing.{arriving-frame, due-within, due-frame}
use Rattle.ats_engine_proofs.proofs.Standing.{selecting-within, stands-split, goes-split}
use Rattle.ats_engine_proofs.proofs.OwnParts.{pushed, hops_at-more, hops_at-same, crossings_at-more, crossings_at-same}
use Rattle.ats_engine_proofs.proofs.OwnParts.{handed_in-more, handed_in-same, sent-there, coming-hops, coming-crossings}
use Rattle.ats_engine_proofs.proofs.OwnParts.{coming-first, coming-handed, selected-hops, selected-crossings}
use Rattle.ats_engine_proofs.proofs.OwnParts.{selected-handed, sent-crossings, unmoved-sent}
use Rattle.ats_engine_proofs.proofs.OwnParts.{unmoved-crossings, unmoved-handed}
use Rattle.ats_engine_proofs.proofs.Stages.{next-coming, next-due}
use Rattle.ats_engine_proofs.proofs.Ways.{stands-some}

-- one element more, in lists that are these
permuted-by : {X : Type 0} (x : X) (xs ys us vs : List X) → xs ≡ us → ys ≡ vs → IsPermutation (x ∷ us) vs
    → IsPermutation (x ∷ xs) ys
permuted-by {X} x xs ys us vs same other more =
    subst (λ (zs : List X). IsPermutation (x ∷ zs) ys) (sym same)
    (subst (λ (zs : List X). IsPermutation (x ∷ us) zs) (sym other) more)

-- the record of a frame that comes now, by this verdict
abbrev with_came : {T : Type 0} → Course T → Moment → Verdict → ℕ → Progress
with_came course now v n = with_hop (progress_at course.records n) (came now.at v)

-- what is known of how a way ends is not changed by a verdict
ending-came : (v : Verdict) (ending : Ending) → ending_by (stage_by v) ending ≡ ending
ending-came (Eligible e) ending = refl
ending-came (Late e) ending = refl
ending-came Size ending = refl

module _ {T : Type 0} {key : T → ℕ → ℕ → ℕ} {wait : ℕ → ℕ → ℕ} {network : DeclaredNetwork} {releases : List Release}
    {old : Course T} {now : Moment} {row : ℕ} {entries : List (Moment × Event)} where
  -- the rows of the legs that begin where a frame comes next are others than the one along which it came
  begun-others : IsNext key wait network releases old now (Arrival row) entries
      → All (λ (n : ℕ). row ≢ n) (rows_begun network old row)
  begun-others next =
      pairs_head (λ (n m : ℕ). n ≢ m) row (rows_begun network old row)
      (next-apart next.holds.rules next.holds.shape row (arriving-within next) (arriving-frame next).sender)

  -- and nothing has happened along them
  begun-empty : IsNext key wait network releases old now (Arrival row) entries
      → All (IsApart network old) (rows_begun network old row)
  begun-empty next k d h =
      let rest : List ℕ = rows_begun network old row in
      let n : ℕ = get_or rest k d in
      elim (All-tail (λ (m : ℕ). (m ≡ row) ⊎ IsApart network old m) row rest
      (next-or-apart next.holds row (arriving-within next)) k d h) as (λ _. IsApart network old n) [
        | inl own ↦ absurd (begun-others next k d h (sym own))
        | inr apart ↦ apart
      ]

module _ {T : Type 0} {key : T → ℕ → ℕ → ℕ} {wait : ℕ → ℕ → ℕ} {network : DeclaredNetwork} {releases : List Release}
    {old new : Course T} {now : Moment} {row : ℕ} {entries : List (Moment × Event)} {due : Option Ps} where
  -- a frame goes on along the leg, and along those that begin there
  comes-enters : IsNext key wait network releases old now (Arrival row) entries
      → (step : Comes network old new now row due)
      → Enters old new row (rows_begun network old row) (stage_by step.verdict) (with_came old now step.verdict)
  comes-enters next step =
      record {
        within = arriving-within next;
        many = next.holds.shape.stages;
        apart = begun-others next;
        there = λ k d h. (begun-empty next k d h).within;
        stages = ap (λ (c : Course T). c.stages) step.becomes
            ∙ ap (λ (ns : List ℕ). set_each ns (λ (n : ℕ). stage_by step.verdict) old.stages) step.next;
        records = ap (λ (c : Course T). c.records) step.becomes
            ∙ ap (λ (ns : List ℕ). set_each ns (with_came old now step.verdict) old.records) step.next;
      }

-- no port has sent more than before when a frame comes
pub comes-sent : {T : Type 0} {key : T → ℕ → ℕ → ℕ} {wait : ℕ → ℕ → ℕ} {network : DeclaredNetwork}
    {releases : List Release}
    {old new : Course T} {now : Moment} {row : ℕ} {entries : List (Moment × Event)} {due : Option Ps}
    → IsNext key wait network releases old now (Arrival row) entries → Comes network old new now row due
    → (other : ℕ) → sent_so_far network new other ≡ sent_so_far network old other
comes-sent {network = network} {old = old} {new = new} {now = now} {row = row} next step other =
    let p : Progress = progress_at old.records row in
    let hop : HopRecord = came now.at step.verdict in
    let own = coming-hops p.frame p.release (sender_of network p) (path_of network p) p.hops hop
    (arriving-frame next).stands.here.0 refl in
    sent-gathered network new other
    ∙ entered-same (sent_part network other) (comes-enters next step)
    (λ k d h. unmoved-sent network other (progress_at old.records (get_or (rows_begun network old row) k d)) hop refl
    (begun-empty next k d h).is.stands.here.0) (ap (hops_at other) own)
    ∙ sym (sent-gathered network old other)

-- the crossings along a leg at a stage whose way is not over
crossings-open : (network : DeclaredNetwork) (stage at : Stage) (p : Progress) → stage ≡ at → p.ending ≡ Discard
    → leg_crossings network (stage, p)
    ≡ crossings_along p.frame p.release (sender_of network p) (path_of network p) p.hops (ending_by at Discard)
crossings-open network stage at p is unended =
    ap (λ (s : Stage). leg_crossings network (s, p)) is
    ∙ ap (λ (ending : Ending). crossings_along p.frame p.release (sender_of network p) (path_of network p) p.hops
    (ending_by at ending)) unended

-- nor has it crossed another one: what it crossed last, it crossed with this arrival
pub comes-crossings : {T : Type 0} {key : T → ℕ → ℕ → ℕ} {wait : ℕ → ℕ → ℕ} {network : DeclaredNetwork}
    {releases : List Release}
    {old new : Course T} {now : Moment} {row : ℕ} {entries : List (Moment × Event)} {due : Option Ps}
    → IsNext key wait network releases old now (Arrival row) entries → Comes network old new now row due
    → (other : ℕ) → crossings_so_far network new other ≡ crossings_so_far network old other
comes-crossings {network = network} {old = old} {new = new} {now = now} {row = row} next step other =
    let p : Progress = progress_at old.records row in
    let v : Verdict = step.verdict in
    let hop : HopRecord = came now.at v in
    let given : List HopRecord → Ending → List Crossing =
    crossings_along p.frame p.release (sender_of network p) (path_of network p) in
    let own = coming-crossings p.frame p.release (sender_of network p) (path_of network p) p.hops hop
    (arriving-frame next).stands.here.0 refl in
    let before = crossings-open network (stage_at old row) (Coming now.at) p (next-coming next)
    (arriving-frame next).stands.unended in
    let after : leg_crossings network (stage_by v, with_hop p hop) ≡ given (p.hops ++ hop ∷ []) Discard =
    ap (given (p.hops ++ hop ∷ [])) (ending-came v p.ending ∙ (arriving-frame next).stands.unended) in
    crossed-gathered network new other
    ∙ entered-both (crossings_part network other) (comes-enters next step)
    (λ k d h. let n : ℕ = get_or (rows_begun network old row) k d in
    unmoved-crossings network other (stage_at old n) (stage_by v) (progress_at old.records n) hop refl
    (begun-empty next k d h).is.stands.here.0) (ap (crossings_at other) (after ∙ own ∙ sym before))
    ∙ sym (crossed-gathered network old other)

-- what is handed on stays, where the frame's own leg hands on what it did
comes-kept : {T : Type 0} {key : T → ℕ → ℕ → ℕ} {wait : ℕ → ℕ → ℕ} {network : DeclaredNetwork}
    {releases : List Release}
    {old new : Course T} {now : Moment} {row : ℕ} {entries : List (Moment × Event)} {due : Option Ps}
    → IsNext key wait network releases old now (Arrival row) entries → (step : Comes network old new now row due)
    → (other class : ℕ)
    → handed_part network other class (with_came old now step.verdict row)
    ≡ handed_part network other class (progress_at old.records row)
    → handed_so_far network new other class ≡ handed_so_far network old other class
comes-kept {network = network} {old = old} {new = new} {now = now} {row = row} next step other class own =
    handed_on-gathered network new other class
    ∙ entered-same (handed_part network other class) (comes-enters next step)
    (λ k d h. unmoved-handed network other class (progress_at old.records (get_or (rows_begun network old row) k d))
    (came now.at step.verdict) (begun-empty next k d h).is.stands.here.0) own
    ∙ sym (handed_on-gathered network old other class)

-- at its own station it arrives behind no port
pub comes-first : {T : Type 0} {key : T → ℕ → ℕ → ℕ} {wait : ℕ → ℕ → ℕ} {network : DeclaredNetwork}
    {releases : List Release}
    {old new : Course T} {now : Moment} {row : ℕ} {entries : List (Moment × Event)} {due : Option Ps}
    → IsNext key wait network releases old now (Arrival row) entries → Comes network old new now row due
    → length (progress_at old.records row).hops ≡ 0
    → (other class : ℕ) → handed_so_far network new other class ≡ handed_so_far network old other class
comes-first {network = network} {old = old} {now = now} {row = row} next step none other class =
    let p : Progress = progress_at old.records row in
    comes-kept next step other class
    (ap (handed_in other class) (coming-first p.frame p.release (sender_of network p) (path_of network p) p.hops
    (came now.at step.verdict) none))

-- a frame as it was handed on by the port of a leg where it stands, with the record of its arrival behind it
abbrev came-behind : (network : DeclaredNetwork) (p : Progress) → HopRecord
    → IsLast IsSent (path_of network p) p.hops → Handed
came-behind network p hop at = record {
  crossing = crossing_of p.release.octets at.last.arrival.0 at.port
      (sent-there p.frame p.release (sender_of network p) at.port at.last at.here) hop.arrival.0;
  verdict = hop.verdict;
}

-- else behind the port of its last record, in its class there
pub comes-here : {T : Type 0} {key : T → ℕ → ℕ → ℕ} {wait : ℕ → ℕ → ℕ} {network : DeclaredNetwork}
    {releases : List Release}
    {old new : Course T} {now : Moment} {row : ℕ} {entries : List (Moment × Event)} {due : Option Ps}
    → IsNext key wait network releases old now (Arrival row) entries → Comes network old new now row due
    → 0 < length (progress_at old.records row).hops
    → (h : Handed) × IsArrival network (progress_at old.records row) now.at.0
    (verdict_now network old.groups (progress_at old.records row) now.at.0) h
    × IsPermutation (h ∷ handed_so_far network old (place_at network old row)
    (class_behind network (progress_at old.records row)))
    (handed_so_far network new (place_at network old row) (class_behind network (progress_at old.records row)))
comes-here {network = network} {old = old} {new = new} {now = now} {row = row} next step some =
    let p : Progress = progress_at old.records row in
    let sender : Sender = sender_of network p in
    let path : List ℕ = path_of network p in
    let hop : HopRecord = came now.at step.verdict in
    let at : IsLast IsSent path p.hops = goes-split path p.hops (arriving-frame next).stands.here.0 some in
    let place : at.port ≡ place_of network p = sym (port-of-last IsSent path p.hops at 0) in
    let h : Handed = came-behind network p hop at in
    let port : ℕ = place_of network p in
    let class : ℕ = class_behind network p in
    let ranked : class_at sender at.port ≡ class = ap (class_at sender) place in
    let part : Progress → List Handed = handed_part network port class in
    let kept = handed_in-more port class (leg_handed network p) h place ranked in
    let own = coming-handed p.frame p.release sender path p.hops hop at in (
      h,
      record {
        named = refl;
        of_sender = refl;
        octets = refl;
        behind = place;
        in_class = ranked;
        arrives = refl;
        judged = step.judged;
      },
      permuted-by h (handed_so_far network old port class) (handed_so_far network new port class)
          (flat_map part old.records) (flat_map part new.records) (handed_on-gathered network old port class)
          (handed_on-gathered network new port class)
          (entered-more part h (comes-enters next step)
          (λ k d i. unmoved-handed network port class
          (progress_at old.records (get_or (rows_begun network old row) k d)) hop
          (begun-empty next k d i).is.stands.here.0)
          (pushed (part p) (part (with_hop p hop)) h (ap (handed_in port class) own ∙ kept))),
    )

-- and nowhere else
pub comes-elsewhere : {T : Type 0} {key : T → ℕ → ℕ → ℕ} {wait : ℕ → ℕ → ℕ} {network : DeclaredNetwork}
    {releases : List Release}
    {old new : Course T} {now : Moment} {row : ℕ} {entries : List (Moment × Event)} {due : Option Ps}
    → IsNext key wait network releases old now (Arrival row) entries → Comes network old new now row due
    → (other class : ℕ)
    → ¬ ((other ≡ place_at network old row) × (class ≡ class_behind network (progress_at old.records row)))
    → handed_so_far network new other class ≡ handed_so_far network old other class
comes-elsewhere {network = network} {old = old} {new = new} {now = now} {row = row} next step other class apart =
    let p : Progress = progress_at old.records row in
    let sender : Sender = sender_of network p in
    let path : List ℕ = path_of network p in
    let hop : HopRecord = came now.at step.verdict in
    let goes : Goes path p.hops = (arriving-frame next).stands.here.0 in
    elim (cases_lt 0 (length p.hops)) as (λ _. handed_so_far network new other class
    ≡ handed_so_far network old other class) [
      | inr none ↦ comes-first next step (omega arith) other class
      | inl some ↦ (
          let at : IsLast IsSent path p.hops = goes-split path p.hops goes some in
          let place : at.port ≡ place_of network p = sym (port-of-last IsSent path p.hops at 0) in
          let kept = handed_in-same other class (leg_handed network p) (came-behind network p hop at)
          (λ both. apart (sym both.0 ∙ place, sym both.1 ∙ ap (class_at sender) place)) in
          comes-kept next step other class
          (ap (handed_in other class) (coming-handed p.frame p.release sender path p.hops hop at) ∙ kept))
    ]

module _ {T : Type 0} {key : T → ℕ → ℕ → ℕ} {wait : ℕ → ℕ → ℕ} {network : DeclaredNetwork} {releases : List Release}
    {old new : Course T} {now : Moment} {row : ℕ} {entries more : List (Moment × Event)} where
  -- a frame that becomes eligible goes on along the leg
  offered-advances : IsEligibleNow key wait network releases old now row entries
      → BecomesEligible key network old new now row more → Advances old new row Waiting (progress_at old.records row)
  offered-advances next step =
      record {
        within = due-within next;
        many = next.holds.shape.stages;
        stages = ap (λ (c : Course T). c.stages) step.becomes;
        records = ap (λ (c : Course T). c.records) step.becomes;
      }

  -- which changes no transmission of the run so far
  pub offered-sent : IsEligibleNow key wait network releases old now row entries
      → BecomesEligible key network old new now row more → (other : ℕ)
      → sent_so_far network new other ≡ sent_so_far network old other
  offered-sent next step other =
      sent-gathered network new other
      ∙ records-same (sent_part network other) (offered-advances next step) refl
      ∙ sym (sent-gathered network old other)

  -- no crossing
  pub offered-crossings : IsEligibleNow key wait network releases old now row entries
      → BecomesEligible key network old new now row more → (other : ℕ)
      → crossings_so_far network new other ≡ crossings_so_far network old other
  offered-crossings next step other =
      let p : Progress = progress_at old.records row in
      let was = crossings-open network (stage_at old row) (Due now.at) p (next-due next)
      (due-frame next).stands.unended in
      let is = crossings-open network Waiting Waiting p refl (due-frame next).stands.unended in
      crossed-gathered network new other
      ∙ both-same (crossings_part network other) (offered-advances next step)
      (ap (crossings_at other) (is ∙ sym was))
      ∙ sym (crossed-gathered network old other)

  -- and nothing that was handed on
  pub offered-handed : IsEligibleNow key wait network releases old now row entries
      → BecomesEligible key network old new now row more → (other class : ℕ)
      → handed_so_far network new other class ≡ handed_so_far network old other class
  offered-handed next step other class =
      handed_on-gathered network new other class
      ∙ records-same (handed_part network other class) (offered-advances next step) refl
      ∙ sym (handed_on-gathered network old other class)

-- a frame that leaves a port for the leg's listener, or else for the next port
abbrev leaves-if : Bool → ℕ → Progress → Ps → Move
leaves-if last row p arrival =
    if last then record { stage = Over; progress = with_ending p (Sink arrival); entries = [] }
    else record {
      stage = Coming arrival;
      progress = p;
      entries = (arrival_moment row arrival, Arrival row) ∷ [];
    }

-- counts as sunk when it arrives there, either way
leaves-crossings : (network : DeclaredNetwork) (last : Bool) (row : ℕ) (p : Progress) (arrival : Ps)
    → p.ending ≡ Discard
    → leg_crossings network ((leaves-if last row p arrival).stage, (leaves-if last row p arrival).progress)
    ≡ crossings_along p.frame p.release (sender_of network p) (path_of network p) p.hops (Sink arrival)
leaves-crossings network true row p arrival unended = refl
leaves-crossings network false row p arrival unended = refl

-- and has been sent and handed on as before
leaves-same : {X : Type 0} (f : Progress → X)
    → ((p : Progress) (ending : Ending) → f (with_ending p ending) ≡ f p) → (last : Bool) (row : ℕ) (p : Progress)
    (arrival : Ps) → f (leaves-if last row p arrival).progress ≡ f p
leaves-same f same true row p arrival = same p (Sink arrival)
leaves-same f same false row p arrival = refl

module _ {T : Type 0} {key : T → ℕ → ℕ → ℕ} {wait : ℕ → ℕ → ℕ} {network : DeclaredNetwork} {releases : List Release}
    {old new : Course T} {now : Moment} {port : ℕ} {entries more : List (Moment × Event)} where
  -- the frame that a port selects waited there
  pub selects-held : IsNext key wait network releases old now (Selection port) entries
      → (step : Selects key wait network old new now port more) → IsHeld network old port step.starts.started
  selects-held next step =
      All-head (IsHeld network old port) step.starts.started step.sending.held
      (All-permutation (IsHeld network old port) (port_state_at old port).held
      (step.starts.started ∷ step.sending.held) step.starts.held
      (next.holds.ports port (selecting-within next)).holding.held)

  -- along the leg that it and the port name
  pub selects-is : (next : IsNext key wait network releases old now (Selection port) entries)
      → (step : Selects key wait network old new now port more) → (selects-held next step).row ≡ step.row
  selects-is next step =
      let held : IsHeld network old port step.starts.started = selects-held next step in
      let p : Progress = progress_at old.records held.row in
      let is = row-is next.holds.shape held.row held.within in
      let frame : IsFrame network old p Waiting =
      subst (IsFrame network old p) held.stage (next.holds.frames held.row held.within) in
      let stands = frame.stands.here.0 in
      let some = stands-some IsUnsent (path_of network p) p.hops stands in
      let most = stands-at_most IsUnsent (path_of network p) p.hops stands in
      let named : p.frame ≡ step.frame = ap (λ (o : Offer). o.frame) held.same ∙ step.starts.named in
      let own : IsLegAt network old step.frame port held.row =
      subst (λ (f : ℕ). IsLegAt network old f port held.row) named
      (subst (λ (q : ℕ). IsLegAt network old p.frame q held.row) held.place
      (place-names next.holds.shape held.row held.within some most)) in
      let known : (progress_at old.records step.frame).release.sender < length (senders_of network) =
      subst (λ (f : ℕ). (progress_at old.records f).release.sender < length (senders_of network)) named
      (subst (λ (r : Release). r.sender < length (senders_of network))
      (sym (release-one next.holds.shape held.row held.within)) frame.sender) in
      named-one next.holds.rules next.holds.shape step.frame port held.row step.row
      (omega (arith, named, is.frame, frames-all next.holds.shape)) known own step.named

  -- which is one of the course
  pub selects-within : IsNext key wait network releases old now (Selection port) entries
      → (step : Selects key wait network old new now port more) → step.row < length old.records
  selects-within next step =
      subst (λ (n : ℕ). n < length old.records) (selects-is next step) (selects-held next step).within

  -- at this stage
  pub selects-stage : IsNext key wait network releases old now (Selection port) entries
      → (step : Selects key wait network old new now port more) → stage_at old step.row ≡ Waiting
  selects-stage next step =
      subst (λ (n : ℕ). stage_at old n ≡ Waiting) (selects-is next step) (selects-held next step).stage

  -- at this port
  pub selects-place : IsNext key wait network releases old now (Selection port) entries
      → (step : Selects key wait network old new now port more) → place_at network old step.row ≡ port
  selects-place next step =
      subst (λ (n : ℕ). place_at network old n ≡ port) (selects-is next step) (selects-held next step).place

  -- which holds it as it was offered
  pub selects-offer : IsNext key wait network releases old now (Selection port) entries
      → (step : Selects key wait network old new now port more) → offer_at network old step.row ≡ step.starts.started
  selects-offer next step =
      subst (λ (n : ℕ). offer_at network old n ≡ step.starts.started) (selects-is next step)
      (selects-held next step).same

  -- and stands so
  pub selects-frame : IsNext key wait network releases old now (Selection port) entries
      → (step : Selects key wait network old new now port more)
      → IsFrame network old (progress_at old.records step.row) Waiting
  selects-frame next step =
      subst (IsFrame network old (progress_at old.records step.row)) (selects-stage next step)
      (next.holds.frames step.row (selects-within next step))

  -- it goes on along this leg
  selects-advances : IsNext key wait network releases old now (Selection port) entries
      → (step : Selects key wait network old new now port more)
      → Advances old new step.row step.move.stage step.move.progress
  selects-advances next step =
      record {
        within = selects-within next step;
        many = next.holds.shape.stages;
        stages = ap (λ (c : Course T). c.stages) step.becomes;
        records = ap (λ (c : Course T). c.records) step.becomes;
      }

  -- with a last record that told of no transmission yet
  selects-at : IsNext key wait network releases old now (Selection port) entries
      → (step : Selects key wait network old new now port more)
      → IsLast IsUnsent (path_of network (progress_at old.records step.row)) (progress_at old.records step.row).hops
  selects-at next step =
      stands-split IsUnsent (path_of network (progress_at old.records step.row))
      (progress_at old.records step.row).hops (selects-frame next step).stands.here.0

-- the records of a frame that the port of the last one sends
abbrev sent-hops : (path : List ℕ) (p : Progress) → IsLast IsUnsent path p.hops → Ps → Ps → List HopRecord
sent-hops path p at start end = at.before ++ record at.last { sent = Some (start, end) } ∷ []

-- are those that it has then
selects-way : (path : List ℕ) (p : Progress) (at : IsLast IsUnsent path p.hops) (start end : Ps)
    → (with_sent p start end).hops ≡ sent-hops path p at start end
selects-way path p at start end =
    set-last IsUnsent path p.hops at (record (last_hop p) { sent = Some (start, end) })
    ∙ ap (λ (last : HopRecord). at.before ++ record last { sent = Some (start, end) } ∷ [])
    (record-of-last IsUnsent path p.hops at no_hop)

-- the last of them tells of the transmission
abbrev sent-at : (path : List ℕ) (p : Progress) (at : IsLast IsUnsent path p.hops) (start end : Ps)
    → IsLast IsSent path (with_sent p start end).hops
sent-at path p at start end = record {
  passed = at.passed;
  port = at.port;
  ahead = at.ahead;
  before = at.before;
  last = record at.last { sent = Some (start, end) };
  along = at.along;
  recorded = selects-way path p at start end;
  same = at.same;
  here = record { eligible = at.here.eligible; times = (start, end); verdict = at.here.verdict; sent = refl };
}

-- the transmission of a frame that was offered so begins as its port tells
transmission-begun : (network : DeclaredNetwork) (p : Progress)
    (at : IsLast IsUnsent (path_of network p) p.hops) (started : Offer) (ps : ℕ) (start end : Ps)
    → offer_of network p ≡ started → end.0 ≡ start.0 + ps * bits_of started.octets
    → transmitted p.frame p.release (class_at (sender_of network p) at.port) at.here.eligible (start, end)
    ≡ begun ps started start.0
transmission-begun network p at started ps start end same ends =
    let sender : Sender = sender_of network p in
    let path : List ℕ = path_of network p in
    let offer : Offer = offer_of network p in
    let Sent : ℕ → ℕ → ℕ → Transmission = λ class eligible until. record {
      frame = p.frame;
      sender = p.release.sender;
      class = class;
      bits = bits_of p.release.octets;
      eligible = eligible;
      start = start.0;
      end = until;
    } in
    let place : at.port ≡ place_of network p = sym (port-of-last IsUnsent path p.hops at 0) in
    let eligible : at.here.eligible.0 ≡ offer.eligible.0 =
    sym (ap (λ (h : HopRecord). (eligibility_of h.verdict).0) (record-of-last IsUnsent path p.hops at no_hop)
    ∙ ap (λ (v : Verdict). (eligibility_of v).0) at.here.verdict) in
    let until : end.0 ≡ start.0 + ps * bits_of offer.octets =
    ends ∙ ap (λ (o : Offer). start.0 + ps * bits_of o.octets) (sym same) in
    ap (λ (class : ℕ). Sent class at.here.eligible.0 end.0) (ap (class_at sender) place)
    ∙ ap (λ (e : ℕ). Sent (class_at sender (place_of network p)) e end.0) eligible
    ∙ ap (Sent (class_at sender (place_of network p)) offer.eligible.0) until
    ∙ ap (λ (o : Offer). begun ps o start.0) same

-- what a selection makes of what is told of a leg, whatever its ending
selects-same : {T X : Type 0} {key : T → ℕ → ℕ → ℕ} {wait : ℕ → ℕ → ℕ} {network : DeclaredNetwork}
    {old new : Course T} {now : Moment} {port : ℕ} {more : List (Moment × Event)} (f : Progress → X)
    → ((p : Progress) (ending : Ending) → f (with_ending p ending) ≡ f p)
    → (step : Selects key wait network old new now port more)
    → f step.move.progress ≡ f (with_sent (progress_at old.records step.row) now.at step.end)
selects-same {network = network} {old = old} {now = now} f same step =
    let q : Progress = with_sent (progress_at old.records step.row) now.at step.end in
    ap (λ (m : Move). f m.progress) step.is
    ∙ leaves-same f same (length q.hops == length (path_of network q)) step.row q step.arrival

-- a selection adds a transmission of its port
pub selects-here : {T : Type 0} {key : T → ℕ → ℕ → ℕ} {wait : ℕ → ℕ → ℕ} {network : DeclaredNetwork}
    {releases : List Release}
    {old new : Course T} {now : Moment} {port : ℕ} {entries more : List (Moment × Event)}
    → IsNext key wait network releases old now (Selection port) entries
    → (step : Selects key wait network old new now port more)
    → IsPermutation (begun (port_state_at old port).ps_per_bit step.starts.started now.at.0
    ∷ sent_so_far network old port) (sent_so_far network new port)
selects-here {network = network} {old = old} {new = new} {now = now} {port = port} next step =
    let p : Progress = progress_at old.records step.row in
    let q : Progress = with_sent p now.at step.end in
    let sender : Sender = sender_of network p in
    let path : List ℕ = path_of network p in
    let at : IsLast IsUnsent path p.hops = selects-at next step in
    let t : Transmission =
    transmitted p.frame p.release (class_at sender at.port) at.here.eligible (now.at, step.end) in
    let begins : Transmission = begun (port_state_at old port).ps_per_bit step.starts.started now.at.0 in
    let is : t ≡ begins =
    transmission-begun network p at step.starts.started (port_state_at old port).ps_per_bit now.at step.end
    (selects-offer next step) step.starts.ends in
    let place : at.port ≡ port = sym (port-of-last IsUnsent path p.hops at 0) ∙ selects-place next step in
    let part : Progress → List Transmission = sent_part network port in
    let own : part step.move.progress ≡ part p ++ begins ∷ [] =
    selects-same part (λ r ending. refl) step
    ∙ ap (λ (hs : List HopRecord). hops_at port (hops_along p.frame p.release sender path hs))
    (selects-way path p at now.at step.end)
    ∙ ap (hops_at port) (selected-hops p.frame p.release sender path p.hops at (now.at, step.end))
    ∙ hops_at-more port (leg_hops network p) (record { port = at.port; sent = t }) place
    ∙ ap (λ (x : Transmission). part p ++ x ∷ []) is in
    permuted-by begins (sent_so_far network old port) (sent_so_far network new port)
    (flat_map part old.records) (flat_map part new.records) (sent-gathered network old port)
    (sent-gathered network new port)
    (records-more part begins (selects-advances next step) (pushed (part p) (part step.move.progress) begins own))

-- and no other
pub selects-elsewhere : {T : Type 0} {key : T → ℕ → ℕ → ℕ} {wait : ℕ → ℕ → ℕ} {network : DeclaredNetwork}
    {releases : List Release}
    {old new : Course T} {now : Moment} {port : ℕ} {entries more : List (Moment × Event)}
    → IsNext key wait network releases old now (Selection port) entries → Selects key wait network old new now port more
    → (other : ℕ) → other ≢ port → sent_so_far network new other ≡ sent_so_far network old other
selects-elsewhere {network = network} {old = old} {new = new} {now = now} {port = port} next step other apart =
    let p : Progress = progress_at old.records step.row in
    let sender : Sender = sender_of network p in
    let path : List ℕ = path_of network p in
    let at : IsLast IsUnsent path p.hops = selects-at next step in
    let t : Transmission =
    transmitted p.frame p.release (class_at sender at.port) at.here.eligible (now.at, step.end) in
    let place : at.port ≡ port = sym (port-of-last IsUnsent path p.hops at 0) ∙ selects-place next step in
    let own : sent_part network other step.move.progress ≡ sent_part network other p =
    selects-same (sent_part network other) (λ r ending. refl) step
    ∙ ap (λ (hs : List HopRecord). hops_at other (hops_along p.frame p.release sender path hs))
    (selects-way path p at now.at step.end)
    ∙ ap (hops_at other) (selected-hops p.frame p.release sender path p.hops at (now.at, step.end))
    ∙ hops_at-same other (leg_hops network p) (record { port = at.port; sent = t }) (λ e. apart (sym e ∙ place)) in
    sent-gathered network new other
    ∙ records-same (sent_part network other) (selects-advances next step) own
    ∙ sym (sent-gathered network old other)

-- it hands nothing on
pub selects-handed : {T : Type 0} {key : T → ℕ → ℕ → ℕ} {wait : ℕ → ℕ → ℕ} {network : DeclaredNetwork}
    {releases : List Release}
    {old new : Course T} {now : Moment} {port : ℕ} {entries more : List (Moment × Event)}
    → IsNext key wait network releases old now (Selection port) entries → Selects key wait network old new now port more
    → (other class : ℕ) → handed_so_far network new other class ≡ handed_so_far network old other class
selects-handed {network = network} {old = old} {new = new} {now = now} next step other class =
    let p : Progress = progress_at old.records step.row in
    let sender : Sender = sender_of network p in
    let path : List ℕ = path_of network p in
    let at : IsLast IsUnsent path p.hops = selects-at next step in
    let own : handed_part network other class step.move.progress ≡ handed_part network other class p =
    selects-same (handed_part network other class) (λ r ending. refl) step
    ∙ ap (λ (hs : List HopRecord). handed_in other class (handed_along p.frame p.release sender path hs))
    (selects-way path p at now.at step.end)
    ∙ ap (handed_in other class) (selected-handed p.frame p.release sender path p.hops at (now.at, step.end)) in
    handed_on-gathered network new other class
    ∙ records-same (handed_part network other class) (selects-advances next step) own
    ∙ sym (handed_on-gathered network old other class)

-- the crossing of a frame that its port sends
abbrev crossed-last : (network : DeclaredNetwork) (p : Progress) (start end : Ps)
    → IsLast IsUnsent (path_of network p) p.hops → Ps → Crossing
crossed-last network p start end at arrival =
    crossing_of p.release.octets at.last.arrival.0 at.port
    (transmitted p.frame p.release (class_at (sender_of network p) at.port) at.here.eligible (start, end))
    arrival.0

-- along its leg it has crossed one port more then
selects-crosses : {T : Type 0} {key : T → ℕ → ℕ → ℕ} {wait : ℕ → ℕ → ℕ} {network : DeclaredNetwork}
    {releases : List Release}
    {old new : Course T} {now : Moment} {port : ℕ} {entries more : List (Moment × Event)}
    → (next : IsNext key wait network releases old now (Selection port) entries)
    → (step : Selects key wait network old new now port more)
    → leg_crossings network (step.move.stage, step.move.progress)
    ≡ leg_crossings network (stage_at old step.row, progress_at old.records step.row)
    ++ crossed-last network (progress_at old.records step.row) now.at step.end (selects-at next step) step.arrival ∷ []
selects-crosses {network = network} {old = old} {now = now} next step =
    let p : Progress = progress_at old.records step.row in
    let q : Progress = with_sent p now.at step.end in
    let sender : Sender = sender_of network p in
    let path : List ℕ = path_of network p in
    let at : IsLast IsUnsent path p.hops = selects-at next step in
    let x : Crossing = crossed-last network p now.at step.end at step.arrival in
    let unended = (selects-frame next step).stands.unended in
    let was = crossings-open network (stage_at old step.row) Waiting p (selects-stage next step) unended in
    let own =
    ap (λ (hs : List HopRecord). crossings_along p.frame p.release sender path hs Discard)
    (selects-way path p at now.at step.end)
    ∙ selected-crossings p.frame p.release sender path p.hops at (now.at, step.end) in
    ap (λ (m : Move). leg_crossings network (m.stage, m.progress)) step.is
    ∙ leaves-crossings network (length q.hops == length (path_of network q)) step.row q step.arrival unended
    ∙ sent-crossings p.frame p.release sender path q.hops step.arrival (sent-at path p at now.at step.end)
    ∙ ap (λ (xs : List Crossing). xs ++ x ∷ []) (own ∙ sym was)

-- so the selection adds this crossing of its port
pub selects-crossing : {T : Type 0} {key : T → ℕ → ℕ → ℕ} {wait : ℕ → ℕ → ℕ} {network : DeclaredNetwork}
    {releases : List Release}
    {old new : Course T} {now : Moment} {port : ℕ} {entries more : List (Moment × Event)}
    → IsNext key wait network releases old now (Selection port) entries
    → (step : Selects key wait network old new now port more)
    → (x : Crossing) × IsCrossing network (progress_at old.records step.row) step.end.0 step.arrival.0 x
    × IsPermutation (x ∷ crossings_so_far network old port) (crossings_so_far network new port)
selects-crossing {network = network} {old = old} {new = new} {now = now} {port = port} next step =
    let p : Progress = progress_at old.records step.row in
    let path : List ℕ = path_of network p in
    let at : IsLast IsUnsent path p.hops = selects-at next step in
    let place : at.port ≡ place_of network p = sym (port-of-last IsUnsent path p.hops at 0) in
    let x : Crossing = crossed-last network p now.at step.end at step.arrival in
    let part : Stage × Progress → List Crossing = crossings_part network port in
    let before : Stage × Progress = (stage_at old step.row, p) in
    let after : Stage × Progress = (step.move.stage, step.move.progress) in
    let own : part after ≡ part before ++ x ∷ [] =
    ap (crossings_at port) (selects-crosses next step)
    ∙ crossings_at-more port (leg_crossings network before) x (place ∙ selects-place next step) in (
      x,
      record { named = refl; behind = place; ends = refl; arrives = refl },
      permuted-by x (crossings_so_far network old port) (crossings_so_far network new port)
          (flat_map part (zip old.stages old.records)) (flat_map part (zip new.stages new.records))
          (crossed-gathered network old port) (crossed-gathered network new port)
          (both-more part x (selects-advances next step) (pushed (part before) (part after) x own)),
    )

-- and of no other
pub selects-uncrossed : {T : Type 0} {key : T → ℕ → ℕ → ℕ} {wait : ℕ → ℕ → ℕ} {network : DeclaredNetwork}
    {releases : List Release}
    {old new : Course T} {now : Moment} {port : ℕ} {entries more : List (Moment × Event)}
    → IsNext key wait network releases old now (Selection port) entries → Selects key wait network old new now port more
    → (other : ℕ) → other ≢ port → crossings_so_far network new other ≡ crossings_so_far network old other
selects-uncrossed {network = network} {old = old} {new = new} {now = now} {port = port} next step other apart =
    let p : Progress = progress_at old.records step.row in
    let path : List ℕ = path_of network p in
    let at : IsLast IsUnsent path p.hops = selects-at next step in
    let place : at.port ≡ port = sym (port-of-last IsUnsent path p.hops at 0) ∙ selects-place next step in
    let x : Crossing = crossed-last network p now.at step.end at step.arrival in
    let before : Stage × Progress = (stage_at old step.row, p) in
    let own : crossings_part network other (step.move.stage, step.move.progress)
    ≡ crossings_part network other before =
    ap (crossings_at other) (selects-crosses next step)
    ∙ crossings_at-same other (leg_crossings network before) x (λ e. apart (sym e ∙ place)) in
    crossed-gathered network new other
    ∙ both-same (crossings_part network other) (selects-advances next step) own
    ∙ sym (crossed-gathered network old other)
