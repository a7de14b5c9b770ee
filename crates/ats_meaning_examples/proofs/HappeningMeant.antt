use Rattle.std.proofs.Common.{◌≡◌, ◌≢◌, ℕ, zero, suc, ◌+◌, ◌<◌, List, [], ◌∷◌, length, All, refl, sym, ap, subst, ◌∙◌}
use Rattle.std.proofs.Common.{arith, lit<}
use Rattle.std.specs.Prelude.{slice_index_or}
use Rattle.std.specs.List.{AllZip}
use Rattle.std.proofs.lemmas.List.Elements.{All-contains}
use Rattle.ats_num.specs.declared.time.Ps.{Ps}
use Rattle.ats_group.specs.Judge.{bucket_rule}
use Rattle.ats_network.specs.Network.{senders_of}
use Rattle.ats_network.specs.Senders.{sender_at}
use Rattle.ats_trace.specs.Eligibility.{declared_by}
use Rattle.ats_streams.specs.declared.branch.Branch.{Branch}
use Rattle.ats_trace.specs.Journey.{AreCopies, IsCopy, IsJourney, Leg, legs_in, no_leg, record_at}
use Rattle.ats_trace.specs.Run.{releases_of}
use Rattle.ats_trace.specs.Stored.{leg_in}
use Rattle.ats_trace.specs.Talker.{IsDeclaredSize, KeepsBuckets, frames_of, talker_of}
use Rattle.ats_trace.specs.declared.journey.Ending.{Ending}
use Rattle.ats_trace.specs.declared.journey.Ending.TheVariants.{Sink, Discard}
use Rattle.ats_trace.specs.declared.journey.Release.{Release}
use Rattle.ats_witness_law.specs.Laws.{CanHappen}
use Rattle.ats_examples.specs.BrokenRuns.{small}
use Rattle.ats_examples.specs.Networks.{line}
use Rattle.ats_examples.proofs.BucketTest.{keeps_by}
use Rattle.ats_examples.proofs.PartTest.{legal_by}
use Rattle.ats_meaning_examples.specs.Happening.{HappeningIsShown, HappeningIsMeant, ShownDelaysHappen}

-- What can happen is what runs show.

shown : HappeningIsShown
shown network stream listener delay can = record {
  legal = can.legal;
  keeps = can.keeps;
  there = can.there;
  sent = can.sent;
  arrives = can.took;
}

all_shown : ShownDelaysHappen
all_shown network stream listener delay run journey by = record {
  run = run;
  legal = by.legal;
  keeps = by.keeps;
  journey = journey;
  there = by.there;
  sent = by.sent;
  took = by.arrives;
}

-- the frame of 64 octets keeps the buckets of its talker, and no other station sends anything
own : KeepsBuckets line (releases_of (small 0 0 0 ∷ [])) (talker_of line 0)
own = keeps_by line (releases_of (small 0 0 0 ∷ [])) (talker_of line 0) refl refl

short_kept : (station : ℕ) → KeepsBuckets line (releases_of (small 0 0 0 ∷ [])) station
short_kept station = record { streams = streams; sizes = sizes }
  where
    streams : (i : ℕ) → i < length line.streams → talker_of line i ≡ station
        → bucket_rule (declared_by line i) (frames_of i (releases_of (small 0 0 0 ∷ [])))
    streams zero there begins = own.streams 0 there refl
    streams (suc i) there begins = absurd (omega arith)

    sizes : All (λ (r : Release). r.sender < length (senders_of line) → talker_of line r.sender ≡ station
        → IsDeclaredSize line r) (releases_of (small 0 0 0 ∷ []))
    sizes zero d within known begins = own.sizes 0 d within known refl
    sizes (suc i) d within known begins = absurd (omega arith)

of_short_frame : CanHappen line 0 0 3344000
of_short_frame = record {
  run = small 0 0 0 ∷ [];
  legal = legal_by line (small 0 0 0 ∷ []) refl;
  keeps = short_kept;
  journey = small 0 0 0;
  there = (0, lit< tt, refl);
  sent = refl;
  took = refl;
}

no_stream : (delay : ℕ) → ¬ CanHappen line 1 0 delay
no_stream delay can =
    let journey = All-contains (IsJourney line) can.run can.journey can.legal.journeys can.there in
    let one : can.journey.release.sender < 1 = journey.sender in
    omega (arith, one, can.sent)

-- where there are no branches, there is no leg past the trunk
no_leg_behind : {A : Type 0} (Is : A → Leg → Type 0) (trunk : Leg) (copies : List Leg) → AllZip Is [] copies
    → (slice_index_or (trunk ∷ copies) 1 no_leg).ending ≡ Discard
no_leg_behind Is trunk [] h = refl
no_leg_behind Is trunk (c ∷ copies) h = absurd h

no_arrival : (at : Ps) → Discard ≢ Sink at
no_arrival at same = let e : ◌≡◌ {A = ℕ} 0 1 = ap number same in absurd (omega arith)
  where
    number : Ending → ℕ
    number (Sink at) = 1
    number Discard = 0

no_listener : (delay : ℕ) → ¬ CanHappen line 0 1 delay
no_listener delay can =
    let journey = All-contains (IsJourney line) can.run can.journey can.legal.journeys can.there in
    let copies : AreCopies (sender_at line 0) can.journey =
    subst (λ (i : ℕ). AreCopies (sender_at line i) can.journey) can.sent journey.copies in
    let none : (leg_in can.journey 1).ending ≡ Discard =
    no_leg_behind {A = Branch × List ℕ}
    (λ (b : Branch × List ℕ) (leg : Leg). IsCopy (record_at (legs_in can.journey) b.0) b.1 leg)
    (record { hops = can.journey.hops; ending = can.journey.ending }) can.journey.copies copies in
    no_arrival (record { 0 = can.journey.release.at.0 + delay }) (sym none ∙ can.took)

pub happening_is_meant : HappeningIsMeant
happening_is_meant = record {
  shown = shown;
  all_shown = all_shown;
  of_short_frame = of_short_frame;
  no_stream = no_stream;
  no_listener = no_listener;
}
