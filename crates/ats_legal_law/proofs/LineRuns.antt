use Rattle.std.proofs.Common.{◌≡◌, ℕ, zero, suc, ◌+◌, ◌*◌, ◌<◌, List, [], ◌∷◌, length, All, refl, ap, ◌∙◌}
use Rattle.std.proofs.Common.{arith, lit<, lit≤}
use Rattle.std.proofs.lemmas.List.{get_or-map, length-map}
use Rattle.std.proofs.lemmas.List.Elements.{All-nil, All-cons}
use Rattle.ats_trace.specs.Journey.{Travel}
use Rattle.ats_trace.specs.Eligibility.{declared_by}
use Rattle.ats_trace.specs.Releases.{AreReleases}
use Rattle.ats_trace.specs.Run.{releases_of}
use Rattle.ats_trace.specs.Stored.{travel_at, no_travel}
use Rattle.ats_trace.specs.Talker.{talker_of}
use Rattle.ats_trace.specs.HopRecord.{HopRecord}
use Rattle.ats_trace.specs.declared.journey.Release.{Release}
use Rattle.ats_trace.specs.declared.run.TheConstants.{MAX_FRAMES}
use Rattle.ats_examples.specs.Networks.{line}
use Rattle.ats_examples.specs.Runs.{hop, one_frame, sunk}
use Rattle.ats_examples.proofs.LegalProofs.{examples_legal}
use Rattle.ats_examples.proofs.NetworkProofs.{line_is}
use Rattle.ats_examples.proofs.TalkerProofs.{talkers_of_examples}
use Rattle.ats_legal_law.proofs.IdealRest.{ideal_rests, line_clocks}
use Rattle.ats_legal_law.specs.Later.{later_release, later_travel}
use Rattle.ats_legal_law.specs.Rest.{FillsBy, IsLegBy, IsRecordBy, IsOverBy, RestsUntil}
use Rattle.ats_legal_law.specs.Line.{gap_ps, frames_over_line, spaced_release, RunsAreOfAnyLength}
use Rattle.ats_legal_law.proofs.Repeated.{legal_when_repeated, kept_when_repeated, long_when_repeated}

-- Runs of any length over the line.

-- the frame is at the listener after 26672000 ps
one_over : All (IsOverBy 26672000) one_frame
one_over =
    let first : HopRecord = hop 0 0 0 12336000 in
    let second : HopRecord = hop 13836000 13836000 13836000 26172000 in
    All-cons (IsOverBy 26672000) (sunk 0 0 1522 (first ∷ second ∷ []) 26672000) []
    (record {
      released = lit≤ tt;
      hops = All-cons (IsRecordBy 26672000) first (second ∷ [])
          (record { arrival = lit≤ tt; eligible = lit≤ tt; sent = lit≤ tt })
          (All-cons (IsRecordBy 26672000) second []
          (record { arrival = lit≤ tt; eligible = lit≤ tt; sent = lit≤ tt })
          (All-nil (IsRecordBy 26672000)));
      ending = lit≤ tt;
      copies = All-nil (IsLegBy 26672000);
    })
    (All-nil (IsOverBy 26672000))

-- and the bucket full again long before the next
line_rests : RestsUntil line 26672000 gap_ps
line_rests = ideal_rests line 26672000 gap_ps line_clocks (lit< tt) filled
  where
    filled : (i : ℕ) → i < length line.streams → FillsBy 26672000 gap_ps (declared_by line i)
    filled zero within = lit≤ tt
    filled (suc i) within = absurd (omega arith)

long : (n : ℕ) → length (frames_over_line n) ≡ n
long n = let e = long_when_repeated one_frame gap_ps n in omega arith

released : (n k : ℕ) → k < n → (travel_at (frames_over_line n) k).release ≡ spaced_release k
released zero k within = absurd (omega arith)
released (suc n) zero within = refl
released (suc n) (suc k) within =
    let rest : List Travel = frames_over_line n in
    let before : k < length rest = (let e = long n in omega arith) in
    let next : k * gap_ps + gap_ps ≡ suc k * gap_ps = omega arith in
    ap (λ (j : Travel). j.release) (get_or-map (later_travel gap_ps) rest k no_travel no_travel before)
    ∙ ap (later_release gap_ps) (released n k (omega arith))
    ∙ ap (λ (at : ℕ). let r : Release = record { at = record { 0 = at }; sender = 0; octets = 1522 } in r) next

too_many : (n : ℕ) → MAX_FRAMES < n → ¬ AreReleases line (releases_of (frames_over_line n))
too_many n more releases =
    let few = releases.few in
    let same = length-map (frames_over_line n) (λ (j : Travel). j.release) in
    let all = long n in
    absurd (omega (arith, few, same, all, more))

pub any_length : RunsAreOfAnyLength
any_length = record {
  network = line_is;
  legal = λ n. legal_when_repeated line one_frame 26672000 gap_ps n line_is examples_legal.one_frame one_over
      line_rests;
  long = long;
  released = released;
  kept = λ n. kept_when_repeated line one_frame 26672000 gap_ps n (talker_of line 0) talkers_of_examples.one_frame
      one_over line_rests;
  beyond = too_many;
}
