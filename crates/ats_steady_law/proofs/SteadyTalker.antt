use Rattle.std.proofs.Common.{◌≡◌, ℕ, zero, suc, ◌+◌, ◌-◌, ◌*◌, ◌<◌, ◌≤◌, List, ◌∷◌, length, get_or, take, drop}
use Rattle.std.proofs.Common.{All, refl, sym, ap, ◌∙◌, subst, arith}
use Rattle.std.proofs.lemmas.List.{get_or-map, length-take}
use Rattle.std.proofs.lemmas.List.Elements.{All-drop, All-take}
use Rattle.std.proofs.lemmas.List.Sums.{sum_by-le}
use Rattle.ats_bucket.specs.Conforming.{Conforms, Frame, bits_between, times_of}
use Rattle.ats_group.specs.Judge.{bucket_rule}
use Rattle.ats_network.specs.Network.{senders_of}
use Rattle.ats_trace.specs.Eligibility.{declared_by}
use Rattle.ats_trace.specs.Run.{releases_of}
use Rattle.ats_trace.specs.Talker.{IsDeclaredSize, KeepsBuckets, frames_of, talker_of}
use Rattle.ats_trace.specs.declared.journey.Release.{Release}
use Rattle.ats_legal_law.proofs.ListFacts.{of_pairs}
use Rattle.ats_legal_law.proofs.Rows.{all_row, length-row, pairs_row, row}
use Rattle.ats_steady_law.specs.Steady.{frame_ps, steady_from, steady_line}

-- The talker keeps its bucket where frames are released one frame time apart.

abbrev pub release_at : ℕ → ℕ → Release
release_at gap k = record { at = record { 0 = k * gap }; sender = 0; octets = 64 }

pub releases_are : (gap k n : ℕ) → releases_of (steady_from gap k n) ≡ row (release_at gap) k n
releases_are gap k zero = refl
releases_are gap k (suc n) = ap (λ (rs : List Release). release_at gap k ∷ rs) (releases_are gap (k + 1) n)

abbrev frame_at : ℕ → Frame
frame_at k = record { at = k * 672000; bits = 672 }

frames_are : (k n : ℕ) → frames_of 0 (row (release_at frame_ps) k n) ≡ row frame_at k n
frames_are k zero = refl
frames_are k (suc n) = ap (λ (fs : List Frame). frame_at k ∷ fs) (frames_are (k + 1) n)

get_or-row : {X : Type 0} (f : ℕ → X) (k n i : ℕ) (d : X) → i < n → get_or (row f k n) i d ≡ f (k + i)
get_or-row f k zero i d within = absurd (omega arith)
get_or-row f k (suc n) zero d within = ap f (omega arith)
get_or-row f k (suc n) (suc i) d within = get_or-row f (k + 1) n i d (omega arith) ∙ ap f (omega arith)

no_frame : Frame
no_frame = record { at = 0; bits = 0 }

time_is : (n i : ℕ) → i < n → get_or (times_of (row frame_at 0 n)) i 0 ≡ i * 672000
time_is n i within =
    let long = length-row frame_at 0 n in
    get_or-map (λ (f : Frame). f.at) (row frame_at 0 n) i no_frame 0 (omega (arith, long, within))
    ∙ ap (λ (f : Frame). f.at) (get_or-row frame_at 0 n i no_frame within) ∙ omega arith

few_bits : (n i j : ℕ) → bits_between (row frame_at 0 n) i j ≤ (j + 1 - i) * 672
few_bits n i j =
    let whole : List Frame = row frame_at 0 n in
    let Small : Frame → Type 0 = λ (f : Frame). f.bits ≤ 672 in
    let each : All Small whole = all_row Small frame_at 0 n (λ k from to. omega arith) in
    let some : All Small (take (j + 1 - i) (drop i whole)) =
    All-take Small (j + 1 - i) (drop i whole) (All-drop Small i whole each) in
    let sum = sum_by-le (λ (f : Frame). f.bits) 672 (take (j + 1 - i) (drop i whole)) some in
    let long = length-take (j + 1 - i) (drop i whole) in
    omega (arith, sum, long)

conforms : (n : ℕ) → Conforms 1000000000 12336 (row frame_at 0 n)
conforms n = record {
  in_order = of_pairs (λ (f : Frame). f.at) (row frame_at 0 n)
      (pairs_row (λ (x y : Frame). x.at ≤ y.at) frame_at 0 n (λ i j before. omega arith));
  within = λ i j before last.
      (let long = length-row frame_at 0 n in
      let first = time_is n i (omega (arith, long, before, last)) in
      let second = time_is n j (omega (arith, long, last)) in
      let bits = few_bits n i j in
      let enough : 1000000000000 * ((j + 1 - i) * 672)
      ≤ 1000000000 * (j * 672000 - i * 672000) + 1000000000000 * 12336 = omega (arith, before) in
      omega (arith, first, second, bits, enough));
}

pub talker_keeps : (n : ℕ) → KeepsBuckets steady_line (releases_of (steady_from frame_ps 0 n)) (talker_of steady_line 0)
talker_keeps n = record {
  streams = streams;
  sizes = subst (All Sized) (sym (releases_are frame_ps 0 n))
      (all_row Sized (release_at frame_ps) 0 n (λ i from to there begins. refl));
}
  where
    Sized : Release → Type 0
    Sized r = r.sender < length (senders_of steady_line) → talker_of steady_line r.sender ≡ talker_of steady_line 0
        → IsDeclaredSize steady_line r

    streams : (i : ℕ) → i < length steady_line.streams → talker_of steady_line i ≡ talker_of steady_line 0
        → bucket_rule (declared_by steady_line i) (frames_of i (releases_of (steady_from frame_ps 0 n)))
    streams zero there begins =
        subst (Conforms 1000000000 12336)
        (sym (ap (λ (rs : List Release). frames_of 0 rs) (releases_are frame_ps 0 n) ∙ frames_are 0 n)) (conforms n)
    streams (suc i) there begins = absurd (omega arith)
