-- A capture of a frame of the flow before one of the stream, by computation.
use Rattle.std.proofs.Common.{ℕ, ◌/◌, ◌^◌, Bool, nat_lt, List, get_or, take, refl, lit≤}
use Rattle.std.proofs.lemmas.Bool.{ltb-true}
use Rattle.std.proofs.lemmas.List.Sums.{AllPass-from_list_all}
use Rattle.std.proofs.lemmas.List.Sorted.{IsNonDecreasingBy-push, IsNonDecreasingBy-short, IsPermutation-refl}
use Rattle.ats_port_rule.specs.Transmission.{Transmission}
use Rattle.ats_trace.specs.Projections.{sent_by}
use Rattle.ats_port_capture.specs.Capture.{header, nanos_of, record_bytes}
use Rattle.ats_port_capture.specs.Frame.{tagged, untagged}
use Rattle.ats_port_capture.specs.Numbers.{high_first16, high_first32, high_first48, low_first16, low_first32}
use Rattle.ats_examples.specs.Networks.{line_and_flow}
use Rattle.ats_examples.specs.Runs.{behind_a_flow}
use Rattle.ats_edge_examples.specs.Captured.{SenderIsCaptured}

-- a transmission starts in a second of 32 bits
abbrev seconds_fit : Transmission → Bool
seconds_fit t = nat_lt (nanos_of t / 1_000_000_000) (2 ^ 32)

abbrev start_of : Transmission → ℕ
start_of t = t.start

-- what the port sent, in the order of starts
abbrev sent : List Transmission
sent = sent_by line_and_flow behind_a_flow 0

pub sender_is_captured : SenderIsCaptured
unfolding header record_bytes tagged untagged high_first16 high_first32 high_first48 low_first16 low_first32
sender_is_captured = record {
  sent = sent;
  ordered = record {
    all = IsPermutation-refl sent;
    in_order = IsNonDecreasingBy-push start_of (take 1 sent) _
        (IsNonDecreasingBy-short start_of (take 1 sent) (lit≤ tt)) (λ d some. lit≤ tt);
    fit = λ k d within. ltb-true (nanos_of (get_or sent k d) / 1_000_000_000) (2 ^ 32)
        (AllPass-from_list_all seconds_fit sent refl k d within);
  };
  written = refl;
}
