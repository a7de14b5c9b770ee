use Rattle.std.proofs.Common.{◌≡◌, ℕ, zero, suc, ◌+◌, ◌-◌, ◌<◌, List, [], ◌∷◌, length, map, get_or}
use Rattle.std.proofs.Common.{take, drop, None, Some, refl, sym, ap, subst, ◌∙◌, arith, length-take, length-drop}
use Rattle.std.specs.List.{slice_get}
use Rattle.std.specs.Option.{option_map}
use Rattle.std.proofs.lemmas.List.{get_or-map, get_or_default, length-map}
use Rattle.ats_trace.specs.Journey.{Leg, Travel, legs_in}
use Rattle.ats_trace.specs.Stored.{AreFirsts, end_of, leg_in, row_of, travel_at}
use Rattle.ats_trace.specs.HopRecord.{HopRecord}
use Rattle.ats_trace.specs.declared.journey.Release.{Release}
use Rattle.ats_trace.proofs.RowLemmas.{AreCounted, IsRow, length-gathered, no_row, placed, row-in, travel-at}
use Rattle.ats_run_records.specs.Brief.{AreKept, ledger_of, no_release}
use Rattle.ats_run_records.specs.LastVerdict.{last_verdict}
use Rattle.ats_run_records.specs.Progress.{Progress, finished, no_hop, no_progress, progress_at, told_of}
use Rattle.ats_run_records.specs.Track.{Along, last_in}
use Rattle.ats_run_records.proofs.Briefs.{frame-is, frame-of-trunk, length-legs, progress-is, release-is}

-- what is told of all legs
abbrev pub told_in : List Release → List ℕ → List ℕ → List Along → List (Release × Leg)
told_in releases firsts copies tracks = map told_of (ledger_of releases firsts copies tracks).legs

pub length-told : {releases : List Release} {firsts copies : List ℕ} {tracks : List Along}
    → AreKept releases firsts copies tracks → length (told_in releases firsts copies tracks) ≡ length tracks
length-told {releases} {firsts} {copies} {tracks} kept =
    length-map (ledger_of releases firsts copies tracks).legs told_of ∙ length-legs kept refl

-- there are as many frames as releases
pub length-ends : {run : List Travel} {releases : List Release} {firsts copies : List ℕ} {tracks : List Along}
    → AreKept releases firsts copies tracks → finished (ledger_of releases firsts copies tracks) ≡ run
    → length run ≡ length firsts
length-ends {run} {releases} {firsts} {copies} {tracks} kept seen =
    sym (ap (λ (r : List Travel). length r) seen)
    ∙ length-gathered (told_in releases firsts copies tracks) firsts
    (omega (arith, length-told kept, kept.copied.trunks))

-- what is told of a row
pub told-at : {releases : List Release} {firsts copies : List ℕ} {tracks : List Along} {row : ℕ} {track : Along}
    → AreKept releases firsts copies tracks → row < length tracks → track ≡ get_or tracks row track
    → get_or (told_in releases firsts copies tracks) row no_row
    ≡ (
      (progress_at (ledger_of releases firsts copies tracks).legs row).release,
      record { hops = track.hops; ending = track.ending },
    )
told-at {releases} {firsts} {copies} {tracks} {row} {track} kept within is =
    let legs : List Progress = (ledger_of releases firsts copies tracks).legs in
    let there : row < length legs = omega (arith, within, length-legs kept refl) in
    let told = progress-is kept refl there is in
    get_or-map told_of legs row no_progress no_row there
    ∙ ap (λ (l : Leg). ((progress_at legs row).release, l))
    (ap (λ (p : Progress). record { hops = p.hops; ending = p.ending }) told)

-- the release of a frame
pub release-at : {run : List Travel} {releases : List Release} {firsts copies : List ℕ} {tracks : List Along}
    {frame : ℕ} {release : Release} → AreKept releases firsts copies tracks
    → finished (ledger_of releases firsts copies tracks) ≡ run → frame < length run
    → release ≡ get_or releases frame release → release ≡ (travel_at run frame).release
release-at {run} {releases} {firsts} {copies} {tracks} {frame} {release} kept seen within is =
    let told : List (Release × Leg) = told_in releases firsts copies tracks in
    let legs : List Progress = (ledger_of releases firsts copies tracks).legs in
    let long = length-told kept in
    let below : frame < length firsts = omega (arith, within, length-ends kept seen) in
    let trunk : frame < length releases = omega (arith, below, kept.numbered) in
    let there : frame < length legs = omega (arith, below, length-legs kept refl, kept.copied.trunks) in
    let own : (progress_at legs frame).frame ≡ frame =
    sym (frame-is kept refl there) ∙ frame-of-trunk (length releases) copies frame trunk in
    is ∙ get_or_default releases frame release no_release trunk
    ∙ ap (λ (n : ℕ). get_or releases n no_release) (sym own)
    ∙ release-is kept refl there
    ∙ sym (ap (λ (r : Release × Leg). r.0) (get_or-map told_of legs frame no_progress no_row there))
    ∙ sym (ap (λ (t : Travel). t.release)
    (travel-at told firsts frame (omega (arith, long, kept.copied.trunks)) below))
    ∙ ap (λ (r : List Travel). (travel_at r frame).release) seen

-- the row of a leg, and what it tells
pub record IsTold (tracks : List Along) (row : ℕ) (leg : Leg) : Type 0 where
  pub within : row < length tracks
  pub tells : (track : Along) → track ≡ get_or tracks row track
      → record { hops = track.hops; ending = track.ending } ≡ leg

pub told-in : {run : List Travel} {releases : List Release} {firsts copies : List ℕ} {tracks : List Along}
    {frame leg row : ℕ} (held : List ℕ) → AreKept releases firsts copies tracks
    → finished (ledger_of releases firsts copies tracks) ≡ run → frame < length run
    → leg < length (legs_in (travel_at run frame)) → held ≡ firsts → row ≡ row_of held frame leg
    → IsTold tracks row (leg_in (travel_at run frame) leg)
told-in {run} {releases} {firsts} {copies} {tracks} {frame} {leg} {row} held kept seen within below same is =
    let told : List (Release × Leg) = told_in releases firsts copies tracks in
    let long = length-told kept in
    let own : IsRow told firsts frame leg (travel_at run frame) =
    subst (λ (r : List Travel). IsRow told firsts frame leg (travel_at r frame)) seen
    (row-in told firsts frame leg (omega (arith, long, kept.copied.trunks))
    (omega (arith, within, length-ends kept seen))
    (subst (λ (r : List Travel). leg < length (legs_in (travel_at r frame))) (sym seen) below)) in
    let place : row ≡ row_of firsts frame leg = is ∙ ap (λ (ns : List ℕ). row_of ns frame leg) same in
    let there : row < length tracks = omega (arith, own.within, long, place) in
    record {
      within = there;
      tells = λ track at.
          (sym (own.tells
          ∙ ap (λ (n : ℕ). (get_or told n no_row).1) (sym place)
          ∙ ap (λ (r : Release × Leg). r.1) (told-at kept there at)));
    }

-- how many legs a frame has
pub legs-counted : {run : List Travel} {releases : List Release} {firsts copies : List ℕ} {tracks : List Along}
    {frame first end rows : ℕ} (held : List ℕ) → AreKept releases firsts copies tracks
    → finished (ledger_of releases firsts copies tracks) ≡ run → frame < length run
    → first ≡ get_or firsts frame first → held ≡ firsts → rows ≡ length tracks → end ≡ end_of held rows frame
    → AreCounted first end (length (legs_in (travel_at run frame)))
legs-counted {run} {releases} {firsts} {copies} {tracks} {frame} {first} {end} {rows} held kept seen within is same
    many ends =
    let told : List (Release × Leg) = told_in releases firsts copies tracks in
    let long = length-told kept in
    let below : frame < length firsts = omega (arith, within, length-ends kept seen) in
    let begins : first ≡ get_or firsts frame 0 = is ∙ get_or_default firsts frame first 0 below in
    let stops : end ≡ end_of firsts (length told) frame =
    ends ∙ ap (λ (ns : List ℕ). end_of ns rows frame) same
    ∙ ap (λ (n : ℕ). end_of firsts n frame) (many ∙ sym long) in
    let place = placed (length told) firsts frame
    (subst (λ (n : ℕ). AreFirsts (length firsts) n firsts) (sym long) kept.copied) below in
    let from : ℕ = get_or firsts frame 0 in
    let to : ℕ = end_of firsts (length told) frame in
    let rest : List (Release × Leg) = take (to - from) (drop from told) in
    let all : length (legs_in (travel_at run frame)) ≡ 1 + (to - from) =
    ap (λ (r : List Travel). length (legs_in (travel_at r frame))) (sym seen)
    ∙ ap (λ (t : Travel). length (legs_in t))
    (travel-at told firsts frame (omega (arith, long, kept.copied.trunks)) below)
    ∙ omega (
      arith,
      length-map rest (λ (copy : Release × Leg). copy.1),
      length-take (to - from) (drop from told),
      length-drop from told,
      place.ascends,
      place.within,
    ) in
    record {
      ascends = omega (arith, begins, stops, place.ascends);
      all = ap (λ (n : ℕ). 1 + (n - first)) stops ∙ ap (λ (n : ℕ). 1 + (to - n)) begins ∙ sym all;
    }

-- the last verdict along a leg
pub no-verdict : (hops : List HopRecord) → length hops ≡ 0 → last_verdict hops ≡ None
no-verdict [] none = refl
no-verdict (h ∷ hops) none = absurd (omega arith)

found-at : (hops : List HopRecord) (i : ℕ) → i < length hops → slice_get hops i ≡ Some (get_or hops i no_hop)
found-at [] i within = absurd (omega arith)
found-at (h ∷ hops) zero within = refl
found-at (h ∷ hops) (suc i) within = found-at hops i (omega arith)

pub a-verdict : (hops : List HopRecord) → 0 < length hops → last_verdict hops ≡ Some (last_in hops).verdict
a-verdict hops some = ap (option_map (λ (hop : HopRecord). hop.verdict)) (found-at hops (length hops - 1) (omega arith))
