use Rattle.std.proofs.Common.{◌≡◌, ℕ, zero, suc, ◌+◌, ◌-◌, ◌<◌, ◌≤◌, inl, inr, List, [], ◌∷◌, length, map}
use Rattle.std.proofs.Common.{get_or, set, refl, sym, ap, ◌∙◌, arith, length-append}
use Rattle.std.specs.List.{range_with_len, zip}
use Rattle.std.proofs.lemmas.Bool.{cases_lt}
use Rattle.std.proofs.lemmas.List.{get_or-map, get_or_append_left, get_or-append_right, get_or_default, length-map}
use Rattle.std.proofs.lemmas.List.FromFn.{get_or-range_with_len, length-range_with_len}
use Rattle.std.proofs.lemmas.Slice.Zip.{get_or-zip, length-zip}
use Rattle.ats_trace.specs.declared.journey.Release.{Release}
use Rattle.ats_trace.specs.declared.journey.Ending.TheVariants.{Discard}
use Rattle.ats_run_records.specs.Brief.{AreKept, frames_of, ledger_of, no_release, progress_by}
use Rattle.ats_run_records.specs.Progress.{Ledger, Progress, no_progress, progress_at, with_leg}
use Rattle.ats_run_records.specs.Track.{Along}

pub length-frames : (frames : ℕ) (copies : List ℕ) → length (frames_of frames copies) ≡ frames + length copies
length-frames frames copies =
    length-append (range_with_len 0 frames) copies ∙ ap (λ (n : ℕ). n + length copies) (length-range_with_len 0 frames)

-- the frame of a trunk's row is its own, and a copy's is listed
pub frame-of-trunk : (frames : ℕ) (copies : List ℕ) (row : ℕ) → row < frames
    → get_or (frames_of frames copies) row 0 ≡ row
frame-of-trunk frames copies row below =
    get_or_append_left (range_with_len 0 frames) copies 0 row (omega (arith, length-range_with_len 0 frames))
    ∙ get_or-range_with_len 0 frames row 0 below
    ∙ omega arith

pub frame-of-copy : (frames : ℕ) (copies : List ℕ) (row : ℕ) → frames ≤ row
    → get_or (frames_of frames copies) row 0 ≡ get_or copies (row - frames) 0
frame-of-copy frames copies row behind =
    get_or-append_right (range_with_len 0 frames) copies frames row 0 (length-range_with_len 0 frames) behind

-- Of records that are kept so.

-- each row has a frame and a leg
pub length-rows : {releases : List Release} {firsts copies : List ℕ} {tracks : List Along}
    → AreKept releases firsts copies tracks
    → length (zip (frames_of (length releases) copies) tracks) ≡ length tracks
length-rows {releases} {firsts} {copies} {tracks} kept =
    omega (
      arith,
      kept.framed,
      length-frames (length releases) copies,
      length-zip (frames_of (length releases) copies) tracks,
    )

pub length-legs : {ledger : Ledger} {releases : List Release} {firsts copies : List ℕ} {tracks : List Along}
    → AreKept releases firsts copies tracks → ledger_of releases firsts copies tracks ≡ ledger
    → length ledger.legs ≡ length tracks
length-legs {ledger} {releases} {firsts} {copies} {tracks} kept seen =
    sym (ap (λ (l : Ledger). length l.legs) seen)
    ∙ length-map (zip (frames_of (length releases) copies) tracks) (progress_by releases)
    ∙ length-rows kept

-- what is told of a row
pub progress-is : {ledger : Ledger} {releases : List Release} {firsts copies : List ℕ} {tracks : List Along}
    {row : ℕ} {track : Along} → AreKept releases firsts copies tracks
    → ledger_of releases firsts copies tracks ≡ ledger → row < length ledger.legs → track ≡ get_or tracks row track
    → progress_at ledger.legs row
    ≡ progress_by releases (get_or (frames_of (length releases) copies) row 0, track)
progress-is {ledger} {releases} {firsts} {copies} {tracks} {row} {track} kept seen within is =
    let frames : List ℕ = frames_of (length releases) copies in
    let below : row < length tracks = omega (arith, within, length-legs kept seen) in
    sym (ap (λ (l : Ledger). progress_at l.legs row) seen)
    ∙ get_or-map (progress_by releases) (zip frames tracks) row (0, track) no_progress
    (omega (arith, below, length-rows kept))
    ∙ ap (progress_by releases) (get_or-zip frames tracks row (0, track)
    (omega (arith, below, kept.framed, length-frames (length releases) copies)) below)
    ∙ ap (λ (t : Along). progress_by releases (get_or frames row 0, t)) (sym is)

-- for numbers past the last row
no_track : Along
no_track = record { leg = 0; room = 0; hops = []; ending = Discard }

-- its frame is listed, and the frame's release
pub frame-is : {ledger : Ledger} {releases : List Release} {firsts copies : List ℕ} {tracks : List Along} {row : ℕ}
    → AreKept releases firsts copies tracks → ledger_of releases firsts copies tracks ≡ ledger
    → row < length ledger.legs → get_or (frames_of (length releases) copies) row 0 ≡ (progress_at ledger.legs row).frame
frame-is {ledger} {releases} {firsts} {copies} {tracks} {row} kept seen within =
    let track : Along = get_or tracks row no_track in
    sym (ap (λ (p : Progress). p.frame) (progress-is kept seen within
    (get_or_default tracks row no_track track (omega (arith, within, length-legs kept seen)))))

pub release-is : {ledger : Ledger} {releases : List Release} {firsts copies : List ℕ} {tracks : List Along} {row : ℕ}
    → AreKept releases firsts copies tracks → ledger_of releases firsts copies tracks ≡ ledger
    → row < length ledger.legs
    → get_or releases (progress_at ledger.legs row).frame no_release ≡ (progress_at ledger.legs row).release
release-is {ledger} {releases} {firsts} {copies} {tracks} {row} kept seen within =
    let track : Along = get_or tracks row no_track in
    let told = progress-is kept seen within
    (get_or_default tracks row no_track track (omega (arith, within, length-legs kept seen))) in
    ap (λ (p : Progress). get_or releases p.frame no_release) told ∙ sym (ap (λ (p : Progress). p.release) told)

-- its frame is one of those that were released
pub frame-within : {releases : List Release} {firsts copies : List ℕ} {tracks : List Along} {row : ℕ}
    → AreKept releases firsts copies tracks → row < length tracks
    → get_or (frames_of (length releases) copies) row 0 < length releases
frame-within {releases} {firsts} {copies} {tracks} {row} kept within = elim (cases_lt row (length releases)) [
  | inl trunk ↦ omega (arith, trunk, frame-of-trunk (length releases) copies row trunk)
  | inr copy ↦
      (let behind : length releases ≤ row = omega arith in
      let listed : row - length releases < length copies = omega (arith, within, kept.framed) in
      omega (
        arith,
        frame-of-copy (length releases) copies row behind,
        kept.frames (row - length releases) 0 listed,
      ))
]

-- a leg that is written again is written again in its row
zip-set : (frames : List ℕ) (tracks : List Along) (row : ℕ) (track : Along)
    → zip frames (set tracks row track) ≡ set (zip frames tracks) row (get_or frames row 0, track)
zip-set [] tracks row track = refl
zip-set (f ∷ frames) [] row track = refl
zip-set (f ∷ frames) (t ∷ tracks) zero track = refl
zip-set (f ∷ frames) (t ∷ tracks) (suc row) track =
    ap (λ (rows : List (ℕ × Along)). (f, t) ∷ rows) (zip-set frames tracks row track)

map-set : (f : ℕ × Along → Progress) (rows : List (ℕ × Along)) (i : ℕ) (row : ℕ × Along)
    → map f (set rows i row) ≡ set (map f rows) i (f row)
map-set f [] i row = refl
map-set f (r ∷ rows) zero row = refl
map-set f (r ∷ rows) (suc i) row = ap (λ (ps : List Progress). f r ∷ ps) (map-set f rows i row)

-- so the change of a leg is the change of what is told of it
pub changed-track : {ledger : Ledger} {releases : List Release} {firsts copies : List ℕ} {tracks : List Along}
    {row : ℕ} {old new : Along} (f : Along → Along) (g : Progress → Progress)
    → AreKept releases firsts copies tracks → ledger_of releases firsts copies tracks ≡ ledger
    → row < length ledger.legs → old ≡ get_or tracks row old → new ≡ f old
    → ((frame : ℕ) (track : Along) → progress_by releases (frame, f track) ≡ g (progress_by releases (frame, track)))
    → ledger_of releases firsts copies (set tracks row new)
    ≡ with_leg ledger row (g (progress_at ledger.legs row))
changed-track {ledger} {releases} {firsts} {copies} {tracks} {row} {old} {new} f g kept seen within is changed same =
    let frames : List ℕ = frames_of (length releases) copies in
    let by : ℕ × Along → Progress = progress_by releases in
    let frame : ℕ = get_or frames row 0 in
    let told : by (frame, new) ≡ g (progress_at ledger.legs row) =
    ap (λ (t : Along). by (frame, t)) changed ∙ same frame old ∙ ap g (sym (progress-is kept seen within is)) in
    ap (λ (rows : List (ℕ × Along)). record { legs = map by rows; firsts = firsts }) (zip-set frames tracks row new)
    ∙ ap (λ (legs : List Progress). record { legs = legs; firsts = firsts })
    (map-set by (zip frames tracks) row (frame, new))
    ∙ ap (λ (p : Progress). record { legs = set (map by (zip frames tracks)) row p; firsts = firsts }) told
    ∙ ap (λ (l : Ledger). with_leg l row (g (progress_at ledger.legs row))) seen
