use Rattle.std.proofs.Common.{ℕ, ◌/◌, ◌^◌, Bool, nat_lt, List, get_or, take, refl, lit≤}
use Rattle.std.specs.Prelude.{◌++◌}
use Rattle.std.proofs.lemmas.Bool.{ltb-true}
use Rattle.std.proofs.lemmas.List.Sums.{AllPass-from_list_all}
use Rattle.std.proofs.lemmas.List.Sorted.{IsNonDecreasingBy-push, IsNonDecreasingBy-short, IsPermutation-refl}
use Rattle.ats_port_rule.specs.Transmission.{Transmission}
use Rattle.ats_trace.specs.Projections.{sent_by}
use Rattle.ats_port_capture.specs.Capture.{IsCapture, header, nanos_of, record_bytes}
use Rattle.ats_port_capture.specs.Frame.{untagged}
use Rattle.ats_port_capture.specs.Numbers.{high_first16, high_first32, high_first48, low_first16, low_first32}
use Rattle.ats_port_capture_law.specs.Worked.{at_start, front_bytes, header_bytes, sender_bytes}
use Rattle.ats_port_capture_law.proofs.WorkedProofs.{short}
use Rattle.ats_examples.specs.OwnFrames.{own, own_frames}
use Rattle.ats_own_examples.specs.Captured.{OwnFramesAreCaptured, at_14508, at_672, small_bytes}

-- Captures of two frames, by computation.

-- a transmission starts in a second of 32 bits
abbrev seconds_fit : Transmission → Bool
seconds_fit t = nat_lt (nanos_of t / 1_000_000_000) (2 ^ 32)

abbrev start_of : Transmission → ℕ
start_of t = t.start

-- what a port sent, which is in the order of starts
abbrev sent : ℕ → List Transmission
sent port = sent_by own own_frames port

of_bridge_is : IsCapture own own_frames 2
    (header_bytes ++ small_bytes at_start 1 ++ front_bytes at_14508 14 ++ sender_bytes 0)
unfolding header record_bytes untagged high_first16 high_first32 high_first48 low_first16 low_first32
of_bridge_is = record {
  sent = sent 2;
  ordered = record {
    all = IsPermutation-refl (sent 2);
    in_order = IsNonDecreasingBy-push start_of (take 1 (sent 2)) _
        (IsNonDecreasingBy-short start_of (take 1 (sent 2)) (lit≤ tt)) (λ d some. lit≤ tt);
    fit = λ k d within. ltb-true (nanos_of (get_or (sent 2) k d) / 1_000_000_000) (2 ^ 32)
        (AllPass-from_list_all seconds_fit (sent 2) refl k d within);
  };
  written = refl;
}

to_bridge_is : IsCapture own own_frames 0
    (header_bytes ++ small_bytes at_start 2 ++ front_bytes at_672 14 ++ sender_bytes 0)
unfolding header record_bytes untagged high_first16 high_first32 high_first48 low_first16 low_first32
to_bridge_is = record {
  sent = sent 0;
  ordered = record {
    all = IsPermutation-refl (sent 0);
    in_order = IsNonDecreasingBy-push start_of (take 1 (sent 0)) _
        (IsNonDecreasingBy-short start_of (take 1 (sent 0)) (lit≤ tt)) (λ d some. lit≤ tt);
    fit = λ k d within. ltb-true (nanos_of (get_or (sent 0) k d) / 1_000_000_000) (2 ^ 32)
        (AllPass-from_list_all seconds_fit (sent 0) refl k d within);
  };
  written = refl;
}

back_is : IsCapture own own_frames 1 header_bytes
unfolding header record_bytes untagged high_first16 high_first32 high_first48 low_first16 low_first32
back_is = short own own_frames 1 header_bytes (lit≤ tt) refl refl

pub own_frames_are_captured : OwnFramesAreCaptured
own_frames_are_captured = record { of_bridge = of_bridge_is; to_bridge = to_bridge_is; back = back_is }
