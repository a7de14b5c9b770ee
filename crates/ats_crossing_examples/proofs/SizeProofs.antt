use Rattle.std.proofs.Common.{◌≡◌, ℕ, refl, arith, ap, lit<}
use Rattle.ats_num.specs.Tie.{late_key}
use Rattle.ats_group.specs.declared.verdict.Verdict.{Verdict}
use Rattle.ats_group.specs.declared.verdict.Verdict.TheVariants.{Eligible, Late, Size}
use Rattle.ats_trace.specs.Parts.{Keeps, released}
use Rattle.ats_trace.specs.Run.{IsRunBy}
use Rattle.ats_trace.specs.Stored.{no_travel}
use Rattle.ats_examples.specs.LegalRuns.{frame_key, greatest_wait, least_wait}
use Rattle.ats_examples.proofs.ChangeProofs.{no_crossing}
use Rattle.ats_examples.proofs.LegalProofs.{run_by}
use Rattle.ats_examples.proofs.PartTest.{others_by}
use Rattle.ats_crossing_examples.specs.Networks.{crossed}
use Rattle.ats_crossing_examples.specs.Sizes.{OwnFramesHaveAnySize, never_sent, own_long}

-- Own frames of undeclared sizes, by computation.

-- 1 for an eligible frame, else 0
abbrev is_eligible : Verdict → ℕ
is_eligible (Eligible e) = 1
is_eligible (Late e) = 0
is_eligible Size = 0

not_least : ¬ IsRunBy frame_key least_wait crossed (own_long 1380001 4108000)
not_least h =
    let due : ◌≡◌ {A = ℕ} 1380001 1380000 = h.pace 2 (lit< tt) 0 no_crossing (lit< tt) in
    absurd (omega arith)

not_greatest : ¬ IsRunBy late_key greatest_wait crossed (own_long 2180000 4907999)
not_greatest h =
    let due : ◌≡◌ {A = ℕ} 4907999 4908000 = h.pace 2 (lit< tt) 1 no_crossing (lit< tt) in
    absurd (omega arith)

not_discarded : (sender octets : ℕ) → ¬ Keeps released crossed (never_sent sender octets)
not_discarded sender octets keeps =
    let eligible : ◌≡◌ {A = ℕ} 0 1 = ap is_eligible (keeps 0 no_travel (lit< tt)).1 in
    absurd (omega arith)

pub own_frames_have_any_size : OwnFramesHaveAnySize
own_frames_have_any_size = record {
  least = run_by frame_key least_wait crossed (own_long 1380000 4108000) refl refl refl;
  greatest = run_by late_key greatest_wait crossed (own_long 2180000 4908000) refl refl refl;
  not_least = not_least;
  not_greatest = not_greatest;
  of_stream = record { broken = not_discarded 1 65; others = others_by released crossed (never_sent 1 65) refl };
  of_flow = record { broken = not_discarded 3 321; others = others_by released crossed (never_sent 3 321) refl };
  of_last = record { broken = not_discarded 2 65; others = others_by released crossed (never_sent 2 65) refl };
}
