-- The lines of senders and listeners, one after another.
use Rattle.std.proofs.Common.{◌≡◌, ◌∙◌, ℕ, zero, suc, ◌+◌, ◌<◌, List, [], ◌++◌, length, refl, sym, ap, arith}
use Rattle.std.proofs.Common.{append_assoc, get_or, Option}
use Rattle.std.specs.List.{flat_map, range_with_len}
use Rattle.std.proofs.lemmas.List.{append-nil, get_or_default}
use Rattle.std.proofs.lemmas.List.Concat.{flat_map-cons}
use Rattle.ats_network.specs.Network.{DeclaredNetwork, senders_of}
use Rattle.ats_network.specs.Senders.{sender_at}
use Rattle.ats_trace.specs.Journey.{Travel}
use Rattle.ats_trace.specs.Ways.{listener_count}
use Rattle.ats_replay.specs.Inside.{AreSummaries, no_summary, summary_at}
use Rattle.ats_replay.specs.Report.{bound_at, bound_of, listener_line, report_text, sender_lines, summary_text}
use Rattle.ats_replay.specs.Report.{title_text}
use Rattle.ats_replay.specs.Summary.{first_of, summary_for}
use Rattle.ats_replay.specs.Totals.{totals_line, totals_of}
use Rattle.ats_replay.specs.declared.summary.Summary.{Summary}
use Rattle.ats_replay.specs.declared.totals.Totals.{Totals}

-- what is made of numbers, and of one more
made_more : (f : ℕ → List ℕ) (from n : ℕ)
    → flat_map f (range_with_len from (n + 1)) ≡ flat_map f (range_with_len from n) ++ f (from + n)
made_more f from zero =
    let same : from ≡ from + 0 = omega arith in
    flat_map-cons f from [] ∙ append-nil (f from) ∙ ap f same
made_more f from (suc n) =
    let further : List ℕ = flat_map f (range_with_len (from + 1) n) in
    let next : suc n + 1 ≡ suc (n + 1) = omega arith in
    let place : from + 1 + n ≡ from + suc n = omega arith in
    ap (λ (k : ℕ). flat_map f (range_with_len from k)) next
    ∙ flat_map-cons f from (range_with_len (from + 1) (n + 1))
    ∙ ap (λ (t : List ℕ). f from ++ t) (made_more f (from + 1) n)
    ∙ sym (append_assoc (f from) further (f (from + 1 + n)))
    ∙ ap (λ (t : List ℕ). t ++ f (from + 1 + n)) (sym (flat_map-cons f from (range_with_len (from + 1) n)))
    ∙ ap (λ (k : ℕ). flat_map f (range_with_len from (suc n)) ++ f k) place

-- the lines so far, and the next
pub next_lines : (f : ℕ → List ℕ) (n : ℕ) (x before after : List ℕ) → before ≡ x ++ flat_map f (range_with_len 0 n)
    → after ≡ before ++ f n → after ≡ x ++ flat_map f (range_with_len 0 (n + 1))
next_lines f n x before after so_far lines =
    let so : List ℕ = flat_map f (range_with_len 0 n) in
    let same : n ≡ 0 + n = omega arith in
    lines ∙ ap (λ (t : List ℕ). t ++ f n) so_far ∙ append_assoc x so (f n)
    ∙ ap (λ (k : ℕ). x ++ (so ++ f k)) same
    ∙ sym (ap (λ (t : List ℕ). x ++ t) (made_more f 0 n))

-- what is made alike of each number
pub made_alike : (f g : ℕ → List ℕ) (from n : ℕ) → ((k : ℕ) → k < from + n → f k ≡ g k)
    → flat_map f (range_with_len from n) ≡ flat_map g (range_with_len from n)
made_alike f g from zero alike = refl
made_alike f g from (suc n) alike =
    let rest : List ℕ = flat_map f (range_with_len (from + 1) n) in
    flat_map-cons f from (range_with_len (from + 1) n)
    ∙ ap (λ (t : List ℕ). t ++ rest) (alike from (omega arith))
    ∙ ap (λ (t : List ℕ). g from ++ t) (made_alike f g (from + 1) n (λ k below. alike k (omega (arith, below))))
    ∙ sym (flat_map-cons g from (range_with_len (from + 1) n))

-- by summaries of a run, the lines of a sender are those of the run
lines_alike : (network : DeclaredNetwork) (run : List Travel) (summaries : List Summary) (sums : Option (List ℕ))
    (sender : ℕ) → AreSummaries network run summaries → sender < length (senders_of network)
    → sender_lines network (summary_at network summaries) sums sender
    ≡ sender_lines network (summary_for network run) sums sender
lines_alike network run summaries sums sender are within =
    made_alike (listener_line network (summary_at network summaries) sums sender)
    (listener_line network (summary_for network run) sums sender) 0 (listener_count (sender_at network sender))
    (λ listener listed.
    ap (λ (one : Summary). title_text network sender listener ++ summary_text one
    (bound_of network sums sender listener))
    (are.each sender listener within (omega (arith, listed))))

-- so all lines, and the totals behind them, are what is printed of the run
pub report_written : (network : DeclaredNetwork) (run : List Travel) (summaries : List Summary)
    (sums : Option (List ℕ)) (senders : ℕ) (totals : Totals) (one two : List ℕ) → AreSummaries network run summaries
    → senders ≡ length (senders_of network) → totals ≡ totals_of network run
    → one ≡ [] ++ flat_map (sender_lines network (summary_at network summaries) sums) (range_with_len 0 senders)
    → two ≡ one ++ totals_line totals → two ≡ report_text network run sums
unfolding report_text
report_written network run summaries sums senders totals one two are many counted lines end =
    let f : ℕ → List ℕ = sender_lines network (summary_at network summaries) sums in
    let g : ℕ → List ℕ = sender_lines network (summary_for network run) sums in
    let n : ℕ = length (senders_of network) in
    end
    ∙ ap (λ (t : Totals). one ++ totals_line t) counted
    ∙ ap (λ (t : List ℕ). t ++ totals_line (totals_of network run))
    (lines ∙ ap (λ (k : ℕ). flat_map f (range_with_len 0 k)) many
    ∙ made_alike f g 0 n (λ k below. lines_alike network run summaries sums k are (omega (arith, below))))

-- the line of a listener
pub line_written : (network : DeclaredNetwork) (summaries : List Summary) (sums : Option (List ℕ))
    (sender listener first : ℕ) (d : Summary) (bound : Option ℕ) (x one two : List ℕ)
    → first ≡ first_of network sender → first + listener < length summaries
    → one ≡ x ++ title_text network sender listener
    → bound ≡ bound_at network sums sender (first + listener)
    → two ≡ one ++ summary_text (get_or summaries (first + listener) d) bound
    → two ≡ x ++ listener_line network (summary_at network summaries) sums sender listener
line_written network summaries sums sender listener first d bound x one two begins within titled bounded written =
    let one_of : ℕ → Summary = λ n. get_or summaries (n + listener) no_summary in
    written
    ∙ ap (λ (s : Summary). one ++ summary_text s bound)
    (get_or_default summaries (first + listener) d no_summary within)
    ∙ ap (λ (b : Option ℕ). one ++ summary_text (one_of first) b) bounded
    ∙ ap (λ (n : ℕ). one ++ summary_text (one_of n) (bound_at network sums sender (n + listener))) begins
    ∙ ap (λ (t : List ℕ). t ++ summary_text (one_of (first_of network sender)) (bound_of network sums sender listener))
    titled
    ∙ append_assoc x (title_text network sender listener)
    (summary_text (one_of (first_of network sender)) (bound_of network sums sender listener))
