-- The worked captures, by computation.
use Rattle.std.proofs.Common.{◌≡◌, ℕ, ◌/◌, ◌≤◌, ◌^◌, Bool, true, nat_lt, List, [], ◌∷◌, ◌++◌, length, get_or, take}
use Rattle.std.proofs.Common.{Some, Ok, refl, lit<, lit≤}
use Rattle.std.specs.List.{list_all}
use Rattle.std.specs.Prelude.{swap}
use Rattle.std.proofs.lemmas.Bool.{ltb-true}
use Rattle.std.proofs.lemmas.List.Sums.{AllPass-from_list_all}
use Rattle.std.proofs.lemmas.List.Sorted.{IsNonDecreasingBy-push, IsNonDecreasingBy-short, IsPermutation-refl}
use Rattle.std.proofs.lemmas.List.Sorted.{IsPermutation-swap}
use Rattle.ats_network.specs.Network.{DeclaredNetwork}
use Rattle.ats_port_rule.specs.Transmission.{Transmission}
use Rattle.ats_trace.specs.Journey.{Travel}
use Rattle.ats_trace.specs.Projections.{sent_by}
use Rattle.ats_port_capture.specs.Capture.{IsCapture, capture_of, header, nanos_of, record_bytes}
use Rattle.ats_port_capture.specs.Frame.{tagged, untagged}
use Rattle.ats_port_capture.specs.Numbers.{high_first16, high_first32, high_first48, low_first16, low_first32}
use Rattle.ats_examples.specs.Networks.{fork, line}
use Rattle.ats_examples.specs.Runs.{late, long_frame, one_frame, one_frame_at, second_goes_first}
use Rattle.ats_tree_examples.specs.Networks.{split}
use Rattle.ats_tree_examples.specs.Runs.{long_split, one_split}
use Rattle.ats_pcap.specs.Capture.{form_of, header_fault, is_whole, order_of, position_of, record_fault, record_of}
use Rattle.ats_pcap.specs.Capture.{records_of}
use Rattle.ats_pcap.specs.Identity.{address_of, identity_of}
use Rattle.ats_pcap.specs.Numbers.{number16, number32}
use Rattle.ats_port_capture_law.specs.Worked.{PortCapturesAreWorked, at_13836, at_26172, at_second, at_start}
use Rattle.ats_port_capture_law.specs.Worked.{at_12336, before_second, before_size}
use Rattle.ats_port_capture_law.specs.Worked.{front_bytes, header_bytes, of_class, of_classes, sender_bytes}
use Rattle.ats_port_capture_law.specs.Worked.{split_of_classes, with_frame}

-- a transmission starts in a second of 32 bits
abbrev seconds_fit : Transmission → Bool
seconds_fit t = nat_lt (nanos_of t / 1_000_000_000) (2 ^ 32)

-- a port that sends one frame at most
pub short : (network : DeclaredNetwork) (run : List Travel) (port : ℕ) (file : List ℕ)
    → length (sent_by network run port) ≤ 1
    → list_all seconds_fit (sent_by network run port) ≡ true
    → file ≡ capture_of network run (sent_by network run port) → IsCapture network run port file
short network run port file few fits written = record {
  sent = sent_by network run port;
  ordered = record {
    all = IsPermutation-refl (sent_by network run port);
    in_order = IsNonDecreasingBy-short (λ (t : Transmission). t.start) (sent_by network run port) few;
    fit = λ k d within. ltb-true (nanos_of (get_or (sent_by network run port) k d) / 1_000_000_000) (2 ^ 32)
        (AllPass-from_list_all seconds_fit (sent_by network run port) fits k d within);
  };
  written = written;
}

first_is : IsCapture of_class one_frame 0 (with_frame at_start 0xC0)
unfolding header record_bytes tagged untagged high_first16 high_first32 high_first48 low_first16 low_first32
first_is = short of_class one_frame 0 (with_frame at_start 0xC0) (lit≤ tt) refl refl

second_is : IsCapture of_class one_frame 2 (with_frame at_13836 0xC0)
unfolding header record_bytes tagged untagged high_first16 high_first32 high_first48 low_first16 low_first32
second_is = short of_class one_frame 2 (with_frame at_13836 0xC0) (lit≤ tt) refl refl

back_is : IsCapture of_class one_frame 1 header_bytes
unfolding header record_bytes tagged untagged high_first16 high_first32 high_first48 low_first16 low_first32
back_is = short of_class one_frame 1 header_bytes (lit≤ tt) refl refl

lowered_is : IsCapture of_classes one_frame 2 (with_frame at_13836 0xA0)
unfolding header record_bytes tagged untagged high_first16 high_first32 high_first48 low_first16 low_first32
lowered_is = short of_classes one_frame 2 (with_frame at_13836 0xA0) (lit≤ tt) refl refl

rounded_is : IsCapture of_class (one_frame_at 999_999_999_999) 0 (with_frame before_second 0xC0)
unfolding header record_bytes tagged untagged high_first16 high_first32 high_first48 low_first16 low_first32
rounded_is = short of_class (one_frame_at 999_999_999_999) 0 (with_frame before_second 0xC0) (lit≤ tt) refl refl

next_second_is : IsCapture of_class (one_frame_at 1_000_000_000_999) 0 (with_frame at_second 0xC0)
unfolding header record_bytes tagged untagged high_first16 high_first32 high_first48 low_first16 low_first32
next_second_is = short of_class (one_frame_at 1_000_000_000_999) 0 (with_frame at_second 0xC0) (lit≤ tt) refl refl

discarded_is : IsCapture line long_frame 2 header_bytes
unfolding header record_bytes tagged untagged high_first16 high_first32 high_first48 low_first16 low_first32
discarded_is = short line long_frame 2 header_bytes (lit≤ tt) refl refl

shared_is : IsCapture split_of_classes one_split 0 (with_frame at_start 0xC0)
unfolding header record_bytes tagged untagged high_first16 high_first32 high_first48 low_first16 low_first32
shared_is = short split_of_classes one_split 0 (with_frame at_start 0xC0) (lit≤ tt) refl refl

trunk_is : IsCapture split_of_classes one_split 2 (with_frame at_13836 0xC0)
unfolding header record_bytes tagged untagged high_first16 high_first32 high_first48 low_first16 low_first32
trunk_is = short split_of_classes one_split 2 (with_frame at_13836 0xC0) (lit≤ tt) refl refl

copied_is : IsCapture split_of_classes one_split 4 (with_frame at_13836 0xA0)
unfolding header record_bytes tagged untagged high_first16 high_first32 high_first48 low_first16 low_first32
copied_is = short split_of_classes one_split 4 (with_frame at_13836 0xA0) (lit≤ tt) refl refl

copy_discarded_is : IsCapture split long_split 4 header_bytes
unfolding header record_bytes tagged untagged high_first16 high_first32 high_first48 low_first16 low_first32
copy_discarded_is = short split long_split 4 header_bytes (lit≤ tt) refl refl

-- one frame of a sender without an address, and two of them
abbrev one_untagged : List ℕ
one_untagged = header_bytes ++ front_bytes at_13836 14 ++ sender_bytes 0

abbrev two_untagged : List ℕ
two_untagged = header_bytes ++ front_bytes at_13836 14 ++ sender_bytes 1 ++ front_bytes at_26172 14 ++ sender_bytes 0

-- a frame that the bridge discards for its size
before_size_is : IsCapture line long_frame 0 before_size
unfolding header record_bytes tagged untagged high_first16 high_first32 high_first48 low_first16 low_first32
before_size_is = short line long_frame 0 before_size (lit≤ tt) refl refl

-- and two frames, of which it discards the second as late
abbrev both_sent : List ℕ
both_sent = header_bytes ++ front_bytes at_start 14 ++ sender_bytes 0 ++ front_bytes at_12336 14 ++ sender_bytes 0

before_late_is : IsCapture line late 0 both_sent
unfolding header record_bytes tagged untagged high_first16 high_first32 high_first48 low_first16 low_first32
before_late_is =
    let sent : List Transmission = sent_by line late 0 in
    record {
      sent = sent;
      ordered = record {
        all = IsPermutation-refl sent;
        in_order = IsNonDecreasingBy-push (λ (t : Transmission). t.start) (take 1 sent) _
            (IsNonDecreasingBy-short (λ (t : Transmission). t.start) (take 1 sent) (lit≤ tt)) (λ d some. lit≤ tt);
        fit = λ k d within. ltb-true (nanos_of (get_or sent k d) / 1_000_000_000) (2 ^ 32)
            (AllPass-from_list_all seconds_fit sent refl k d within);
      };
      written = refl;
    }

late_is : IsCapture line late 2 one_untagged
unfolding header record_bytes tagged untagged high_first16 high_first32 high_first48 low_first16 low_first32
late_is = short line late 2 one_untagged (lit≤ tt) refl refl

-- two frames, the second of which starts first
abbrev exchanged : List Transmission
exchanged = swap (sent_by fork second_goes_first 2) 0 1

by_start_is : IsCapture fork second_goes_first 2 two_untagged
unfolding header record_bytes tagged untagged high_first16 high_first32 high_first48 low_first16 low_first32
by_start_is = record {
  sent = exchanged;
  ordered = record {
    all = IsPermutation-swap (sent_by fork second_goes_first 2) exchanged 0 1 (lit< tt) (lit< tt) refl;
    in_order = IsNonDecreasingBy-push (λ (t : Transmission). t.start) (take 1 exchanged) _
        (IsNonDecreasingBy-short (λ (t : Transmission). t.start) (take 1 exchanged) (lit≤ tt)) (λ d some. lit≤ tt);
    fit = λ k d within. ltb-true (nanos_of (get_or exchanged k d) / 1_000_000_000) (2 ^ 32)
        (AllPass-from_list_all seconds_fit exchanged refl k d within);
  };
  written = refl;
}

-- the record that is read of the last but one
read_is : records_of (with_frame at_13836 0xA0)
    ≡ Ok (record { nanos = 13836; octets = 1522; identity = Some (0x020000000001, 1) } ∷ [])
unfolding position_of header_fault order_of form_of number16 number32 record_fault is_whole
    record_of identity_of address_of
read_is = refl

pub port_captures_are_worked : PortCapturesAreWorked
port_captures_are_worked = record {
  first = first_is;
  second = second_is;
  back = back_is;
  lowered = lowered_is;
  rounded = rounded_is;
  next_second = next_second_is;
  by_start = by_start_is;
  discarded = discarded_is;
  late_discarded = late_is;
  shared = shared_is;
  trunk = trunk_is;
  copied = copied_is;
  copy_discarded = copy_discarded_is;
  before_discard = before_size_is;
  before_late = before_late_is;
  read = read_is;
}
