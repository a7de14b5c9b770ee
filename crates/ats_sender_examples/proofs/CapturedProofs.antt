-- A capture with frames of three senders, by computation.
use Rattle.std.proofs.Common.{ℕ, ◌/◌, ◌^◌, Bool, nat_lt, List, get_or, take, refl, lit≤}
use Rattle.std.proofs.lemmas.Bool.{ltb-true}
use Rattle.std.proofs.lemmas.List.Sums.{AllPass-from_list_all}
use Rattle.std.proofs.lemmas.List.Sorted.{IsNonDecreasingBy-push, IsNonDecreasingBy-short, IsPermutation-refl}
use Rattle.ats_port_rule.specs.Transmission.{Transmission}
use Rattle.ats_trace.specs.Projections.{sent_by}
use Rattle.ats_port_capture.specs.Capture.{IsCapture, header, nanos_of, record_bytes}
use Rattle.ats_port_capture.specs.Frame.{tagged, untagged}
use Rattle.ats_port_capture.specs.Numbers.{high_first16, high_first32, high_first48, low_first16, low_first32}
use Rattle.ats_sender_examples.specs.Senders.{three_senders}
use Rattle.ats_sender_examples.specs.Captured.{SendersAreCaptured, captured, one_of_each}

-- a transmission starts in a second of 32 bits
abbrev seconds_fit : Transmission → Bool
seconds_fit t = nat_lt (nanos_of t / 1_000_000_000) (2 ^ 32)

abbrev start_of : Transmission → ℕ
start_of t = t.start

-- what the port sent, in the order of starts
abbrev sent : List Transmission
sent = sent_by three_senders one_of_each 0

each_is : IsCapture three_senders one_of_each 0 captured
unfolding header record_bytes tagged untagged high_first16 high_first32 high_first48 low_first16 low_first32
each_is = record {
  sent = sent;
  ordered = record {
    all = IsPermutation-refl sent;
    in_order = IsNonDecreasingBy-push start_of (take 2 sent) _
        (IsNonDecreasingBy-push start_of (take 1 sent) _ (IsNonDecreasingBy-short start_of (take 1 sent) (lit≤ tt))
        (λ d some. lit≤ tt)) (λ d some. lit≤ tt);
    fit = λ k d within. ltb-true (nanos_of (get_or sent k d) / 1_000_000_000) (2 ^ 32)
        (AllPass-from_list_all seconds_fit sent refl k d within);
  };
  written = refl;
}

pub senders_are_captured : SendersAreCaptured
unfolding untagged high_first16 high_first32 high_first48
senders_are_captured = record { each = each_is; number = refl }
