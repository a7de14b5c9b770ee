use Rattle.std.specs.Prelude.{ℕ, zero, suc, List, ◌++◌, length, Option, Some, None, codes, decimal, nat_lt, slice_get}
use Rattle.std.specs.Prelude.{if◌then◌else◌}
use Rattle.std.specs.List.{flat_map, range_with_len}
use Rattle.ats_network.specs.Listeners.{listener_text, station_of}
use Rattle.ats_network.specs.Network.{DeclaredNetwork, senders_of}
use Rattle.ats_network.specs.Senders.{sender_at}
use Rattle.ats_trace.specs.Journey.{Travel}
use Rattle.ats_trace.specs.Ways.{listener_count, route_to}
use Rattle.ats_replay.specs.Totals.{counts_text, totals_line, totals_of}
use Rattle.ats_replay.specs.Summary.{place_of, summary_for}
use Rattle.ats_replay.specs.declared.summary.Summary.{Summary}

-- what a sender is called: the streams are the first senders, and the flows follow
abbrev pub kind_text : DeclaredNetwork → ℕ → List ℕ
kind_text network sender = if nat_lt sender (length network.streams) then codes "stream " else codes "flow "

-- `stream NAME` or `flow NAME`; for the further listener with a number `listener NAME STATION`
abbrev pub title_text : DeclaredNetwork → ℕ → ℕ → List ℕ
title_text network sender zero = kind_text network sender ++ (sender_at network sender).name
title_text network sender (suc n) =
    codes "listener "
    ++ listener_text (sender_at network sender).name
    (Some (station_of network.topology (route_to (sender_at network sender) (suc n))))

-- the bound for the listener at a place: the sum there, where sums are given and the sender is a stream
abbrev pub bound_at : DeclaredNetwork → Option (List ℕ) → ℕ → ℕ → Option ℕ
bound_at network None sender place = None
bound_at network (Some sums) sender place =
    if nat_lt sender (length network.streams) then slice_get sums place else None

-- the bound for a listener, where sums are given, one for each listener, stream by stream
abbrev pub bound_of : DeclaredNetwork → Option (List ℕ) → ℕ → ℕ → Option ℕ
bound_of network sums sender listener = bound_at network sums sender (place_of network sender listener)

-- the same as it is written, `-` for none
abbrev pub bound_text : Option ℕ → List ℕ
bound_text None = codes "-"
bound_text (Some bound) = decimal bound

-- behind it ` frames F sunk K late L size S worst W bound B`
unfoldable pub summary_text : Summary → Option ℕ → List ℕ
summary_text summary bound =
    codes " " ++ counts_text summary.totals ++ codes " worst " ++ decimal summary.worst.0 ++ codes " bound "
    ++ bound_text bound ++ codes "\n"

-- the line of the listener with a number of a sender, where these are the summaries, by both numbers
abbrev pub listener_line : DeclaredNetwork → (ℕ → ℕ → Summary) → Option (List ℕ) → ℕ → ℕ → List ℕ
listener_line network summaries sums sender listener =
    title_text network sender listener
    ++ summary_text (summaries sender listener) (bound_of network sums sender listener)

-- the lines of a sender, one for each listener
abbrev pub sender_lines : DeclaredNetwork → (ℕ → ℕ → Summary) → Option (List ℕ) → ℕ → List ℕ
sender_lines network summaries sums sender =
    flat_map (listener_line network summaries sums sender)
    (range_with_len 0 (listener_count (sender_at network sender)))

-- what is printed of the senders of a run: for each stream and then for each flow a line for each of its listeners,
-- with what came of its frames there and, where sums of bounds are given, a stream's sum for it; and the totals
unfoldable pub report_text : DeclaredNetwork → List Travel → Option (List ℕ) → List ℕ
report_text network run sums =
    flat_map (sender_lines network (summary_for network run) sums) (range_with_len 0 (length (senders_of network)))
    ++ totals_line (totals_of network run)
