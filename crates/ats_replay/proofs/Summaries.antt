-- The summaries of listeners with one frame more.
use Rattle.std.proofs.Common.{◌≡◌, ◌≢◌, ◌∙◌, ◌==◌, ℕ, ◌+◌, ◌<◌, ◌≤◌, inl, inr, max, List, [], ◌∷◌}
use Rattle.std.proofs.Common.{◌++◌, length, map, take, get_or, set, refl, sym, ap, subst, arith, length-append}
use Rattle.std.specs.Prelude.{All, replicate}
use Rattle.std.specs.List.{fold}
use Rattle.std.proofs.lemmas.Bool.{cases_eq, cases_lt, eq-eqb, ne_eqb}
use Rattle.std.proofs.lemmas.Grind.{get_or-set_at}
use Rattle.std.proofs.lemmas.List.{append-nil, get_or_default, get_or-set_other, length-map, length-set, length-take-le}
use Rattle.std.proofs.lemmas.List.{get_or-replicate, length-replicate, map-append, take_more}
use Rattle.std.proofs.lemmas.List.Elements.{filter-append}
use Rattle.std.proofs.lemmas.List.Sums.{count_by-le-length, fold_push, length-filter}
use Rattle.ats_network.specs.Network.{DeclaredNetwork, senders_of}
use Rattle.ats_network.specs.Sender.{Sender}
use Rattle.ats_network.specs.Senders.{sender_at}
use Rattle.ats_trace.specs.Journey.{IsJourney, Leg, Travel, legs_in}
use Rattle.ats_trace.specs.Stored.{no_travel, travel_at}
use Rattle.ats_trace.specs.declared.journey.Release.{Release}
use Rattle.ats_trace.specs.Ways.{listener_count, way_to}
use Rattle.ats_trace.specs.declared.run.TheConstants.{MAX_FRAMES}
use Rattle.ats_replay.specs.Inside.{AreSummaries, HaveRoom, no_summary, summary_at, with_frame}
use Rattle.ats_replay.specs.Totals.{is_late, is_oversize, is_sunk, totals_on}
use Rattle.ats_replay.specs.Summary.{delay_of, first_of, frames_of, place_of}
use Rattle.ats_replay.specs.Summary.{summary_for, summary_of, worst_of}
use Rattle.ats_replay.specs.declared.summary.Summary.{Summary}
use Rattle.ats_replay.specs.declared.totals.Totals.{Totals}
use Rattle.ats_replay.proofs.Counts.{way_push, ways_many}
use Rattle.ats_replay.proofs.Places.{places_behind, places_differ}

-- what came of some frames of a sender for a listener, and of one more
worst_push : (s : Sender) (listener : ℕ) (front : List Travel) (j : Travel)
    → worst_of s listener (front ++ j ∷ []) ≡ max (worst_of s listener front) (delay_of s listener j)
worst_push s listener front j =
    ap (λ (delays : List ℕ). fold max 0 delays) (map-append (delay_of s listener) front (j ∷ []))
    ∙ fold_push max 0 (map (delay_of s listener) front) (delay_of s listener j)

totals_push : (s : Sender) (listener : ℕ) (front : List Travel) (j : Travel)
    → (summary_of s listener (front ++ j ∷ [])).totals
    ≡ (with_frame (summary_of s listener front) j.release.at.0 (way_to s j listener)).totals
totals_push s listener front j =
    let ways : List Travel → List Leg = map (λ (t : Travel). way_to s t listener) in
    ap (λ (n : ℕ). totals_on n (ways (front ++ j ∷ []))) (length-append front (j ∷ []))
    ∙ ap (totals_on (length front + 1)) (map-append (λ (t : Travel). way_to s t listener) front (j ∷ []))
    ∙ way_push (length front + 1) (ways front) (way_to s j listener)

summary_push : (s : Sender) (listener : ℕ) (front : List Travel) (j : Travel)
    → summary_of s listener (front ++ j ∷ [])
    ≡ with_frame (summary_of s listener front) j.release.at.0 (way_to s j listener)
summary_push s listener front j =
    ap (λ (t : Totals). record { totals = t; worst = record { 0 = worst_of s listener (front ++ j ∷ []) } })
    (totals_push s listener front j)
    ∙ ap (λ (w : ℕ). record {
      totals = (with_frame (summary_of s listener front) j.release.at.0 (way_to s j listener)).totals;
      worst = record { 0 = w };
    }) (worst_push s listener front j)

-- the frames of a sender among the first ones of a run and the next, where that is this sender's, and where it is not
frames_kept : (run : List Travel) (frame sender : ℕ) → frame < length run
    → (travel_at run frame).release.sender ≡ sender
    → frames_of (take (frame + 1) run) sender ≡ frames_of (take frame run) sender ++ travel_at run frame ∷ []
frames_kept run frame sender within own =
    let j : Travel = travel_at run frame in
    ap (λ (frames : List Travel). frames_of frames sender) (take_more run frame no_travel within)
    ∙ filter-append (λ (t : Travel). t.release.sender == sender) (take frame run) (j ∷ [])
    ∙ rw (eq-eqb j.release.sender sender own) refl

frames_other : (run : List Travel) (frame sender : ℕ) → frame < length run
    → (travel_at run frame).release.sender ≢ sender
    → frames_of (take (frame + 1) run) sender ≡ frames_of (take frame run) sender
frames_other run frame sender within other =
    let j : Travel = travel_at run frame in
    ap (λ (frames : List Travel). frames_of frames sender) (take_more run frame no_travel within)
    ∙ filter-append (λ (t : Travel). t.release.sender == sender) (take frame run) (j ∷ [])
    ∙ rw (ne_eqb j.release.sender sender other) (append-nil (frames_of (take frame run) sender))

-- the summaries when the next frame of a run, that of a sender, has been counted for its first listeners
pub record IsCounted (network : DeclaredNetwork) (run : List Travel) (frame leg : ℕ) (summaries : List Summary)
    : Type 0 where
  pub all : length summaries ≡ first_of network (length (senders_of network))
  pub done : (listener : ℕ) → listener < leg
      → listener < listener_count (sender_at network (travel_at run frame).release.sender)
      → summary_at network summaries (travel_at run frame).release.sender listener
      ≡ summary_for network (take (frame + 1) run) (travel_at run frame).release.sender listener
  pub to_do : (listener : ℕ) → leg ≤ listener
      → listener < listener_count (sender_at network (travel_at run frame).release.sender)
      → summary_at network summaries (travel_at run frame).release.sender listener
      ≡ summary_for network (take frame run) (travel_at run frame).release.sender listener
  pub others : (sender listener : ℕ) → sender < length (senders_of network)
      → listener < listener_count (sender_at network sender) → (travel_at run frame).release.sender ≢ sender
      → summary_at network summaries sender listener ≡ summary_for network (take frame run) sender listener

-- before the first
pub none_counted : (network : DeclaredNetwork) (run : List Travel) (frame : ℕ) (summaries : List Summary)
    → IsJourney network (travel_at run frame) → AreSummaries network (take frame run) summaries
    → IsCounted network run frame 0 summaries
none_counted network run frame summaries is are = record {
  all = are.all;
  done = λ listener none listed. absurd (omega (arith, none));
  to_do = λ listener some listed. are.each (travel_at run frame).release.sender listener is.sender listed;
  others = λ sender listener within listed other. are.each sender listener within listed;
}

-- behind the last
pub all_counted : (network : DeclaredNetwork) (run : List Travel) (frame leg : ℕ) (summaries : List Summary)
    → IsJourney network (travel_at run frame) → frame < length run → length (legs_in (travel_at run frame)) ≤ leg
    → IsCounted network run frame leg summaries → AreSummaries network (take (frame + 1) run) summaries
all_counted network run frame leg summaries is within end counted = record { all = counted.all; each = each }
  where
    each : (sender listener : ℕ) → sender < length (senders_of network)
        → listener < listener_count (sender_at network sender)
        → summary_at network summaries sender listener ≡ summary_for network (take (frame + 1) run) sender listener
    each sender listener inside listed =
        let j : Travel = travel_at run frame in
        elim (cases_eq j.release.sender sender) [
          | inl own ↦
              subst (λ (s : ℕ). listener < listener_count (sender_at network s)
              → summary_at network summaries s listener ≡ summary_for network (take (frame + 1) run) s listener) own
              (λ known. counted.done listener (omega (arith, known, ways_many network j is, end)) known) listed
          | inr other ↦
              counted.others sender listener inside listed other
              ∙ ap (summary_of (sender_at network sender) listener) (sym (frames_other run frame sender within other))
        ]

-- what is set at a place of a sender's listener is there, and elsewhere nothing changes
set_here : (network : DeclaredNetwork) (summaries : List Summary) (sender listener : ℕ) (w : Summary)
    → place_of network sender listener < length summaries
    → summary_at network (set summaries (place_of network sender listener) w) sender listener ≡ w
set_here network summaries sender listener w inside =
    let place : ℕ = place_of network sender listener in
    get_or-set_at summaries place place w no_summary refl inside

set_there : (network : DeclaredNetwork) (summaries : List Summary) (place sender listener : ℕ) (w : Summary)
    → place_of network sender listener ≢ place
    → summary_at network (set summaries place w) sender listener ≡ summary_at network summaries sender listener
set_there network summaries place sender listener w other =
    get_or-set_other summaries place (place_of network sender listener) w no_summary other

-- the next listener
pub one_counted : (network : DeclaredNetwork) (run : List Travel) (frame leg : ℕ) (summaries : List Summary)
    (d w : Summary) → IsJourney network (travel_at run frame) → frame < length run
    → leg < length (legs_in (travel_at run frame))
    → w ≡ with_frame (get_or summaries (place_of network (travel_at run frame).release.sender leg) d)
    (travel_at run frame).release.at.0
    (way_to (sender_at network (travel_at run frame).release.sender) (travel_at run frame) leg)
    → IsCounted network run frame leg summaries
    → IsCounted network run frame (leg + 1)
    (set summaries (place_of network (travel_at run frame).release.sender leg) w)
one_counted network run frame leg summaries d w is within below made counted = record {
  all = length-set summaries place w ∙ counted.all;
  done = done;
  to_do = λ listener past listed.
      set_there network summaries place j.release.sender listener w (omega (arith, past))
      ∙ counted.to_do listener (omega (arith, past)) listed;
  others = λ sender listener known listed other.
      set_there network summaries place sender listener w
      (places_differ network sender listener j.release.sender leg known is.sender listed here
      (λ same. other (sym same)))
      ∙ counted.others sender listener known listed other;
}
  where
    j : Travel
    j = travel_at run frame

    s : Sender
    s = sender_at network j.release.sender

    place : ℕ
    place = place_of network j.release.sender leg

    here : leg < listener_count s
    here = omega (arith, below, ways_many network j is)

    inside : place < length summaries
    inside = omega (
      arith,
      counted.all,
      places_behind network j.release.sender leg (length (senders_of network)) is.sender here is.sender,
    )

    -- the new one
    new_is : w ≡ summary_for network (take (frame + 1) run) j.release.sender leg
    new_is =
        made
        ∙ ap (λ (one : Summary). with_frame one j.release.at.0 (way_to s j leg))
        (get_or_default summaries place d no_summary inside ∙ counted.to_do leg (omega arith) here)
        ∙ sym (summary_push s leg (frames_of (take frame run) j.release.sender) j)
        ∙ ap (summary_of s leg) (sym (frames_kept run frame j.release.sender within refl))

    done : (listener : ℕ) → listener < leg + 1 → listener < listener_count s
        → summary_at network (set summaries place w) j.release.sender listener
        ≡ summary_for network (take (frame + 1) run) j.release.sender listener
    done listener before listed =
        elim (cases_lt listener leg) [
          | inl less ↦
              set_there network summaries place j.release.sender listener w (omega (arith, less))
              ∙ counted.done listener less listed
          | inr more ↦
              (let same : leg ≡ listener = omega (arith, before, more) in
              subst (λ (l : ℕ). summary_at network (set summaries place w) j.release.sender l
              ≡ summary_for network (take (frame + 1) run) j.release.sender l) same
              (set_here network summaries j.release.sender leg w inside ∙ new_is))
        ]

-- the frames of a sender among the first of a run are fewer than a run may have
pub summary_fits : (network : DeclaredNetwork) (run : List Travel) (frame leg : ℕ) (summaries : List Summary)
    (d : Summary) → IsJourney network (travel_at run frame) → frame < length run → length run ≤ MAX_FRAMES
    → leg < length (legs_in (travel_at run frame)) → IsCounted network run frame leg summaries
    → HaveRoom (get_or summaries (place_of network (travel_at run frame).release.sender leg) d).totals
summary_fits network run frame leg summaries d is within few below counted =
    let j : Travel = travel_at run frame in
    let s : Sender = sender_at network j.release.sender in
    let own : List Travel = frames_of (take frame run) j.release.sender in
    let ways : List Leg = map (λ (t : Travel). way_to s t leg) own in
    let here : leg < listener_count s = omega (arith, below, ways_many network j is) in
    let inside : place_of network j.release.sender leg < length summaries =
    omega (
      arith,
      counted.all,
      places_behind network j.release.sender leg (length (senders_of network)) is.sender here is.sender,
    ) in
    let is_that : get_or summaries (place_of network j.release.sender leg) d ≡ summary_of s leg own =
    get_or_default summaries (place_of network j.release.sender leg) d no_summary inside
    ∙ counted.to_do leg (omega arith) here in
    let many : length own ≤ frame =
    omega (
      arith,
      length-filter (λ (t : Travel). t.release.sender == j.release.sender) (take frame run),
      count_by-le-length (λ (t : Travel). t.release.sender == j.release.sender) (take frame run),
      length-take-le frame run (omega (arith, within)),
    ) in
    let long : length ways ≤ frame = omega (arith, many, length-map own (λ (t : Travel). way_to s t leg)) in
    subst (λ (one : Summary). HaveRoom one.totals) (sym is_that) (record {
      frames = omega (arith, many, within, few);
      sunk = omega (arith, long, within, few, count_by-le-length (λ (w : Leg). is_sunk w.ending) ways);
      late = omega (arith, long, within, few, count_by-le-length (λ (w : Leg). is_late w.hops) ways);
      size = omega (arith, long, within, few, count_by-le-length (λ (w : Leg). is_oversize w.hops) ways);
    })

-- the place of a listener is there
pub place_inside : (network : DeclaredNetwork) (run : List Travel) (frame leg first : ℕ) (summaries : List Summary)
    → IsJourney network (travel_at run frame) → leg < length (legs_in (travel_at run frame))
    → first ≡ first_of network (travel_at run frame).release.sender → IsCounted network run frame leg summaries
    → first + leg < length summaries
place_inside network run frame leg first summaries is below begins counted =
    omega (
      arith,
      begins,
      counted.all,
      places_behind network (travel_at run frame).release.sender leg (length (senders_of network)) is.sender
          (omega (arith, below, ways_many network (travel_at run frame) is)) is.sender,
    )

-- the same of a summary that was read at its place
pub read_fits : (network : DeclaredNetwork) (run : List Travel) (frame leg first : ℕ) (summaries : List Summary)
    (one : Summary) → IsJourney network (travel_at run frame) → frame < length run → length run ≤ MAX_FRAMES
    → leg < length (legs_in (travel_at run frame)) → first ≡ first_of network (travel_at run frame).release.sender
    → one ≡ get_or summaries (first + leg) one → IsCounted network run frame leg summaries → HaveRoom one.totals
read_fits network run frame leg first summaries one is within few below begins read counted =
    subst (λ (s : Summary). HaveRoom s.totals)
    (sym (read ∙ ap (λ (n : ℕ). get_or summaries (n + leg) one) begins))
    (summary_fits network run frame leg summaries one is within few below counted)

pub read_counted : (network : DeclaredNetwork) (run : List Travel) (frame leg first : ℕ) (summaries : List Summary)
    (one w : Summary) → IsJourney network (travel_at run frame) → frame < length run
    → leg < length (legs_in (travel_at run frame)) → first ≡ first_of network (travel_at run frame).release.sender
    → one ≡ get_or summaries (first + leg) one
    → w ≡ with_frame one (travel_at run frame).release.at.0
    (way_to (sender_at network (travel_at run frame).release.sender) (travel_at run frame) leg)
    → IsCounted network run frame leg summaries
    → IsCounted network run frame (leg + 1) (set summaries (first + leg) w)
read_counted network run frame leg first summaries one w is within below begins read made counted =
    let j : Travel = travel_at run frame in
    let way : Leg = way_to (sender_at network j.release.sender) j leg in
    subst (λ (n : ℕ). IsCounted network run frame (leg + 1) (set summaries (n + leg) w)) (sym begins)
    (one_counted network run frame leg summaries one w is within below
    (made ∙ ap (λ (s : Summary). with_frame s j.release.at.0 way)
    (read ∙ ap (λ (n : ℕ). get_or summaries (n + leg) one) begins))
    counted)

-- no frame yet: nothing came of any
pub none_yet : (network : DeclaredNetwork) (all : ℕ) (summaries : List Summary)
    → all ≡ first_of network (length (senders_of network))
    → summaries ≡ replicate all no_summary → AreSummaries network [] summaries
none_yet network all summaries many made = record {
  all = ap length made ∙ length-replicate all no_summary ∙ many;
  each = λ sender listener within listed.
      ap (λ (list : List Summary). get_or list (place_of network sender listener) no_summary) made
      ∙ get_or-replicate all (place_of network sender listener) no_summary no_summary
      (omega (
        arith,
        many,
        places_behind network sender listener (length (senders_of network)) within listed within,
      ));
}

-- the sender of the next frame of a run is one of the network's
pub sender_inside : (network : DeclaredNetwork) (run : List Travel) (frame : ℕ) (r : Release)
    → All (IsJourney network) run → frame < length run → r ≡ (travel_at run frame).release
    → r.sender < length (senders_of network)
sender_inside network run frame r journeys within is =
    let own : r.sender ≡ (travel_at run frame).release.sender = ap (λ (one : Release). one.sender) is in
    omega (arith, own, (journeys frame no_travel within).sender)
