use Rattle.std.proofs.Common.{◌≡◌, ℕ, ◌+◌, ◌-◌, ◌*◌, ◌<◌, ◌≤◌, List, [], ◌∷◌, ◌++◌, length, map, filter}
use Rattle.std.proofs.Common.{All, refl, sym, ap, subst, ◌∙◌, inl, inr, mul-le-mul_right, arith}
use Rattle.std.specs.Prelude.{◌==◌}
use Rattle.std.proofs.lemmas.Bool.{cases_lt}
use Rattle.std.proofs.lemmas.List.{map-append}
use Rattle.std.proofs.lemmas.Simd.{map-map}
use Rattle.std.proofs.lemmas.List.Elements.{All-append, All-filter, All-head, All-tail, All-map}
use Rattle.ats_num.specs.declared.time.TheConstants.{PS_PER_SECOND}
use Rattle.ats_bucket.specs.Conforming.{Frame, Conforms}
use Rattle.ats_streams.specs.declared.traffic.Declared.{Declared}
use Rattle.ats_network.specs.Network.{senders_of}
use Rattle.ats_group_law.specs.Windows.{bits_within, KeepsWindows}
use Rattle.ats_group_law.proofs.WindowBits.{bits_in, bits_in-after, bits_in-before, bits_in-inside, bits_in-le}
use Rattle.ats_group_law.proofs.WindowBits.{bits_within-append, bits_within-cons}
use Rattle.ats_group_law.proofs.WindowPlaces.{by_windows}
use Rattle.ats_trace.specs.Eligibility.{declared_by}
use Rattle.ats_trace.specs.Run.{releases_of}
use Rattle.ats_trace.specs.Talker.{frame_of, frames_of, IsDeclaredSize, talker_of}
use Rattle.ats_trace.specs.declared.journey.Release.{Release}
use Rattle.ats_legal_law.specs.Later.{later_release}
use Rattle.ats_legal_law.specs.Rest.{FillsBy}
use Rattle.ats_legal_law.specs.InTurn.{KeptInTurn}
use Rattle.ats_legal_law.proofs.ListFacts.{ascends_behind, filter_behind}
use Rattle.ats_legal_law.proofs.InTurn.{releases_in_turn, released_by}

-- What conforms, and conforms again once the bucket is full, conforms as a whole.

abbrev later_frame : ℕ → Frame → Frame
later_frame by f = record { at = f.at + by; bits = f.bits }

-- a window that ends before these frames has nothing of them
none_before : (by from to : ℕ) (frames : List Frame) → to < by → bits_within (map (later_frame by) frames) from to ≡ 0
none_before by from to [] before = refl
none_before by from to (f ∷ fs) before =
    let rest = none_before by from to fs before in
    let here = bits_in-after from to (later_frame by f) (omega arith) in
    let sum = bits_within-cons (later_frame by f) (map (later_frame by) fs) from to in
    omega (arith, rest, here, sum)

-- nor one that begins behind them
none_behind : (over from to : ℕ) (frames : List Frame) → over < from → All (λ (f : Frame). f.at ≤ over) frames
    → bits_within frames from to ≡ 0
none_behind over from to [] after all = refl
none_behind over from to (f ∷ fs) after all =
    let rest = none_behind over from to fs after (All-tail (λ (f : Frame). f.at ≤ over) f fs all) in
    let last = All-head (λ (f : Frame). f.at ≤ over) f fs all in
    let here = bits_in-before from to f (omega (arith, last)) in
    let sum = bits_within-cons f fs from to in
    omega (arith, rest, here, sum)

-- one that ends behind them might end at the last
all_by_then : (over from to : ℕ) (frames : List Frame) → over ≤ to → All (λ (f : Frame). f.at ≤ over) frames
    → bits_within frames from to ≤ bits_within frames from over
all_by_then over from to [] after all = omega arith
all_by_then over from to (f ∷ fs) after all =
    let rest = all_by_then over from to fs after (All-tail (λ (f : Frame). f.at ≤ over) f fs all) in
    let last = All-head (λ (f : Frame). f.at ≤ over) f fs all in
    let wide = bits_within-cons f fs from to in
    let narrow = bits_within-cons f fs from over in
    let here : bits_in from to f ≤ bits_in from over f = elim (cases_lt f.at from) [
      | inl before ↦ (let none = bits_in-before from to f before in omega (arith, none))
      | inr inside ↦ (let e = bits_in-inside from over f inside last in
          let le = bits_in-le from to f in omega (arith, e, le))
    ] in
    omega (arith, rest, here, wide, narrow)

-- and of later frames a window holds what one holds that is so much earlier
moved_window : (by from to : ℕ) (frames : List Frame) → by ≤ to
    → bits_within (map (later_frame by) frames) from to ≤ bits_within frames (from - by) (to - by)
moved_window by from to [] after = omega arith
moved_window by from to (f ∷ fs) after =
    let rest = moved_window by from to fs after in
    let wide = bits_within-cons (later_frame by f) (map (later_frame by) fs) from to in
    let narrow = bits_within-cons f fs (from - by) (to - by) in
    let le = bits_in-le from to (later_frame by f) in
    let here : bits_in from to (later_frame by f) ≤ bits_in (from - by) (to - by) f = elim (cases_lt (f.at + by) from) [
      | inl before ↦ (let none = bits_in-before from to (later_frame by f) before in omega (arith, none))
      | inr inside ↦ elim (cases_lt to (f.at + by)) [
        | inl behind ↦ (let none = bits_in-after from to (later_frame by f) behind in omega (arith, none))
        | inr until ↦ (let e = bits_in-inside (from - by) (to - by) f (omega arith) (omega arith) in
            omega (arith, e, le))
      ]
    ] in
    omega (arith, rest, here, wide, narrow)

-- what a rate gives in two times it gives in the time of both
of_both : (a b c rate : ℕ) → a + b ≡ c → a * rate + b * rate ≡ c * rate
of_both a b c rate same = let e : (a + b) * rate ≡ c * rate = ap (λ (n : ℕ). n * rate) same in omega (arith, e)

windows_in_turn : (rate burst over by : ℕ) (first second : List Frame) → over < by
    → PS_PER_SECOND * burst + over * rate ≤ by * rate → All (λ (f : Frame). f.at ≤ over) first
    → KeepsWindows rate burst first → KeepsWindows rate burst second → (from to : ℕ) → from ≤ to
    → PS_PER_SECOND * bits_within (first ++ map (later_frame by) second) from to
    ≤ rate * (to - from) + PS_PER_SECOND * burst
windows_in_turn rate burst over by first second after fills past one two from to ordered =
    let sum = bits_within-append first (map (later_frame by) second) from to in
    elim (cases_lt to by) [
      | inl before ↦ (
          let none = none_before by from to second before in
          let le = one.within from to ordered in
          omega (arith, sum, none, le))
      | inr late ↦ (
          let moved = moved_window by from to second late in
          let le = two.within (from - by) (to - by) (omega arith) in
          elim (cases_lt over from) [
            | inl behind ↦ (
                let none = none_behind over from to first behind past in
                let shorter : (to - by - (from - by)) * rate ≤ (to - from) * rate =
                mul-le-mul_right rate (omega arith) in
                omega (arith, sum, none, moved, le, shorter))
            | inr inside ↦ (
                let all = all_by_then over from to first (omega arith) past in
                let first_le = one.within from over inside in
                let start : from - by ≡ 0 = omega arith in
                let whole = of_both (over - from) from over rate (omega arith) in
                let length_is = of_both (to - by - (from - by)) by to rate (omega arith) in
                let window = of_both (to - from) from to rate (omega arith) in
                omega (arith, sum, all, moved, le, first_le, whole, length_is, window, fills))
          ])
    ]

conforms_in_turn : (d : Declared) (over by : ℕ) (first second : List Frame) → over < by → FillsBy over by d
    → All (λ (f : Frame). f.at ≤ over) first → Conforms d.rate d.burst_bits first
    → Conforms d.rate d.burst_bits second → Conforms d.rate d.burst_bits (first ++ map (later_frame by) second)
conforms_in_turn d over by first second after fills past one two =
    let whole : List Frame = first ++ map (later_frame by) second in
    (by_windows d.rate d.burst_bits whole).1
    (record {
      in_order = ascends_behind (λ (f : Frame). f.at) (later_frame by) over by (omega arith) (λ f. refl) first second
          one.in_order two.in_order past;
      windows = record {
        within = windows_in_turn d.rate d.burst_bits over by first second after fills past
            ((by_windows d.rate d.burst_bits first).0 one).windows
            ((by_windows d.rate d.burst_bits second).0 two).windows;
      };
    })

-- the frames of a sender
frames_in_turn : (i by : ℕ) (first second : List Release)
    → frames_of i (first ++ map (later_release by) second)
    ≡ frames_of i first ++ map (later_frame by) (frames_of i second)
frames_in_turn i by first second =
    let own = λ (r : Release). r.sender == i in
    let one : List Release = filter own first in
    let two : List Release = filter own second in
    ap (λ (l : List Release). map frame_of l) (filter_behind own (later_release by) (λ r. refl) first second)
    ∙ map-append frame_of one (map (later_release by) two)
    ∙ ap (λ (l : List Frame). map frame_of one ++ l)
    (map-map frame_of (later_release by) two ∙ sym (map-map (later_frame by) frame_of two))

pub kept_in_turn : KeptInTurn
kept_in_turn network first second over by station one two all rests =
    let IsSized : Release → Type 0 = λ (r : Release). r.sender < length (senders_of network)
    → talker_of network r.sender ≡ station → IsDeclaredSize network r in
    let parts = releases_in_turn by first second in
    record {
      streams = λ i within there.
          (let d : Declared = declared_by network i in
          let own = λ (r : Release). r.sender == i in
          let past : All (λ (f : Frame). f.at ≤ over) (frames_of i (releases_of first)) =
          All-map (λ (f : Frame). f.at ≤ over) frame_of (filter own (releases_of first))
          (All-filter own (λ (r : Release). r.at.0 ≤ over) (releases_of first) (released_by over first all)) in
          let whole = conforms_in_turn d over by (frames_of i (releases_of first)) (frames_of i (releases_of second))
          rests.after (rests.filled i within) past (one.streams i within there) (two.streams i within there) in
          subst (λ (l : List Release). Conforms d.rate d.burst_bits (frames_of i l)) (sym parts)
          (subst (Conforms d.rate d.burst_bits) (sym (frames_in_turn i by (releases_of first) (releases_of second)))
          whole));
      sizes = subst (All IsSized) (sym parts)
          (All-append IsSized (releases_of first) (map (later_release by) (releases_of second)) one.sizes
          (All-map IsSized (later_release by) (releases_of second) two.sizes));
    }
