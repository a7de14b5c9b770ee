use Rattle.std.proofs.Common.{◌≡◌, ℕ, ◌+◌, ◌-◌, ◌*◌, ◌≤◌, List, [], ◌∷◌, get_or, map, refl, ap, inl, arith}
use Rattle.ats_bucket.specs.Conforming.{Frame}
use Rattle.ats_group_law.proofs.Order.{by_frames}
use Rattle.ats_clock.specs.declared.clock.TheConstants.{MILLION}
use Rattle.ats_clock.specs.Clock.{DeclaredClock, KeepsClock}
use Rattle.ats_clock.specs.Rates.{output_of, scheduler_for}
use Rattle.ats_clock_law.specs.Retiming.{SentByClockConform, ShownConform}
use Rattle.ats_clock_law.proofs.Enough.{output_enough, scheduler_enough}
use Rattle.ats_clock_law.proofs.Retiming.{Gains, framed, retimed}
use Rattle.ats_clock_law.proofs.TrueTime.{told_gain}

-- the time of a frame, in true time and as the clock shows it, and its bits
abbrev at_of : Frame → ℕ
at_of f = f.at

abbrev shown_of : (ℕ → ℕ) → Frame → ℕ
shown_of shows f = shows f.at

abbrev wire_of : Frame → ℕ
wire_of f = f.bits

same_frames : (frames : List Frame) → map (framed at_of wire_of) frames ≡ frames
same_frames [] = refl
same_frames (f ∷ fs) = ap (λ (gs : List Frame). f ∷ gs) (same_frames fs)

gains_shown : (clock : DeclaredClock) (shows : ℕ → ℕ) → KeepsClock clock shows → (f g : Frame) → f.at ≤ g.at
    → Gains (MILLION - clock.deviation_ppm) MILLION (MILLION * clock.step_ps) at_of (shown_of shows) f g
gains_shown clock shows k f g h = let slow = k.no_slower f.at g.at h in omega arith

pub shown_conform : ShownConform
shown_conform clock shows c frames k below conforms =
    let o = by_frames frames conforms.in_order in
    retimed (MILLION - clock.deviation_ppm) MILLION (MILLION * clock.step_ps) c (scheduler_for clock c) at_of
    (shown_of shows) wire_of frames
    (λ i j d h l. k.in_order (get_or frames i d).at (get_or frames j d).at (o i j d h l))
    (λ i j d h l. gains_shown clock shows k (get_or frames i d) (get_or frames j d) (o i j d (omega arith) l))
    (scheduler_enough clock c below) (rw (same_frames frames) conforms)

pub sent_by_clock : SentByClockConform
sent_by_clock clock shows c frames k order conforms =
    let o = by_frames frames order in
    rw (← same_frames frames)
    (retimed MILLION (MILLION + clock.deviation_ppm) (MILLION * clock.step_ps + clock.deviation_ppm) c
    (output_of clock c) (shown_of shows) at_of wire_of frames o
    (λ i j d h l. told_gain clock shows (get_or frames i d).at (get_or frames j d).at (shows (get_or frames i d).at)
    (shows (get_or frames j d).at) k (o i j d (omega arith) l) (inl (omega arith)) (omega arith))
    (output_enough clock c) conforms)
