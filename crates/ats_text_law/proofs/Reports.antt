-- The report on a run tells what came of each sender's frames, and its bound.
use Rattle.std.proofs.Common.{◌≡◌, ◌∙◌, ℕ, zero, suc, ◌+◌, ◌<◌, ◌≤◌, Bool, List, [], ◌∷◌, ◌++◌, length, Option, Some}
use Rattle.std.proofs.Common.{None, refl, sym, ap, arith, append_assoc, subst, cond, true, false, inl, inr}
use Rattle.std.specs.Prelude.{codes, decimal, All, nat_lt, slice_get}
use Rattle.std.specs.List.{flat_map, range_with_len}
use Rattle.std.specs.Int.{IsInRange}
use Rattle.std.specs.Str.Parse.{AllDigits}
use Rattle.std.proofs.lemmas.Fmt.{decimal_is_IsNumeral_wide}
use Rattle.std.proofs.lemmas.Str.Parse.{digit_from_value}
use Rattle.std.proofs.lemmas.List.{append_cancel_left}
use Rattle.std.proofs.lemmas.List.Elements.{All-head, All-tail}
use Rattle.std.proofs.lemmas.Bool.{cases_lt}
use Rattle.ats_network.specs.Network.{DeclaredNetwork, senders_of}
use Rattle.ats_network.specs.Senders.{sender_at}
use Rattle.ats_trace.specs.Journey.{Travel}
use Rattle.ats_trace.specs.Ways.{listener_count}
use Rattle.ats_replay.specs.Report.{bound_of, bound_text, listener_line, report_text, sender_lines, summary_text}
use Rattle.ats_replay.specs.Report.{title_text}
use Rattle.ats_replay.specs.Summary.{place_of, summary_for}
use Rattle.ats_replay.specs.Totals.{counts_text, totals_line, totals_of}
use Rattle.ats_replay.specs.declared.summary.Summary.{Summary}
use Rattle.ats_replay.specs.declared.totals.Totals.{Totals}
use Rattle.ats_text_law.specs.Short.{AreShort, AreShortCounts, HasShortNumbers, IsShort}
use Rattle.ats_text_law.specs.Laws.{IsReportable, ReportTellsAll, SaysTheSame}
use Rattle.ats_text_law.proofs.Words.{IsBehind, IsWord, cut, cut_numbers, decimal_tells, decimal_word}

-- counts and what stands behind them
record AreCounts (one two : Totals) (b y : List ℕ) : Type 0 where
  counts : one ≡ two
  rest : b ≡ y

same_counts : (one two : Totals) → one.frames ≡ two.frames → one.sunk ≡ two.sunk → one.late ≡ two.late
    → one.size ≡ two.size → one ≡ two
same_counts one two f k l s =
    ap (λ n. record { frames = n; sunk = one.sunk; late = one.late; size = one.size }) f
    ∙ ap (λ n. record { frames = two.frames; sunk = n; late = one.late; size = one.size }) k
    ∙ ap (λ n. record { frames = two.frames; sunk = two.sunk; late = n; size = one.size }) l
    ∙ ap (λ n. record { frames = two.frames; sunk = two.sunk; late = two.late; size = n }) s

sizes_then : Totals → List ℕ → List ℕ
sizes_then totals b = codes " size " ++ (decimal totals.size ++ b)

late_then : Totals → List ℕ → List ℕ
late_then totals b = codes " late " ++ (decimal totals.late ++ sizes_then totals b)

sunk_then : Totals → List ℕ → List ℕ
sunk_then totals b = codes " sunk " ++ (decimal totals.sunk ++ late_then totals b)

counts_parts : (totals : Totals) (b : List ℕ) → counts_text totals ++ b
    ≡ codes "frames " ++ (decimal totals.frames ++ sunk_then totals b)
unfolding counts_text sunk_then late_then sizes_then
counts_parts totals b = simp append_assoc refl

cut_counts : (one two : Totals) (b y : List ℕ) → AreShortCounts one → AreShortCounts two → IsBehind b → IsBehind y
    → counts_text one ++ b ≡ counts_text two ++ y → AreCounts one two b y
unfolding sunk_then late_then sizes_then
cut_counts one two b y short brief h k same =
    let frames = cut_numbers one.frames two.frames (sunk_then one b) (sunk_then two y) short.all_frames
    brief.all_frames refl refl
    (append_cancel_left (codes "frames ") _ _ (sym (counts_parts one b) ∙ same ∙ counts_parts two y)) in
    let sunk = cut_numbers one.sunk two.sunk (late_then one b) (late_then two y) short.all_sunk brief.all_sunk refl
    refl (append_cancel_left (codes " sunk ") _ _ frames.rest) in
    let late = cut_numbers one.late two.late (sizes_then one b) (sizes_then two y) short.all_late brief.all_late refl
    refl (append_cancel_left (codes " late ") _ _ sunk.rest) in
    let size = cut_numbers one.size two.size b y short.all_size brief.all_size h k
    (append_cancel_left (codes " size ") _ _ late.rest) in
    record {
      counts = same_counts one two frames.number sunk.number late.number size.number;
      rest = size.rest;
    }

-- a bound has at most 64 digits, if there is one
abbrev IsShortBound : Option ℕ → Type 0
IsShortBound None = Unit {0}
IsShortBound (Some bound) = IsShort bound

-- no number is written as `-`
no_dash : (n : ℕ) → IsShort n → codes "-" ≡ decimal n → ⊥
no_dash n short same =
    let digits : AllDigits 10 (45 ∷ []) =
    subst (AllDigits 10) (sym same) (decimal_is_IsNumeral_wide n short).0.1 in
    let range : IsInRange 48 57 45 = digit_from_value 45 digits.0 in
    omega (arith, range)

bound_word : (bound : Option ℕ) → IsShortBound bound → IsWord (bound_text bound)
bound_word None short = (refl, tt)
bound_word (Some bound) short = decimal_word bound short

same_bound : (one two : Option ℕ) → IsShortBound one → IsShortBound two → bound_text one ≡ bound_text two → one ≡ two
same_bound None None short brief same = refl
same_bound None (Some two) short brief same = absurd (no_dash two brief same)
same_bound (Some one) None short brief same = absurd (no_dash one short (sym same))
same_bound (Some one) (Some two) short brief same = ap (λ n. Some n) (decimal_tells one two short brief same)

module _ (network : DeclaredNetwork) (run other : List Travel) (sums others : Option (List ℕ)) where
  short_bounds : (given : Option (List ℕ)) → AreShort given → (sender listener : ℕ)
      → IsShortBound (bound_of network given sender listener)
  short_bounds None short sender listener = tt
  short_bounds (Some given) short sender listener = by (nat_lt sender (length network.streams))
    where
      found : (list : List ℕ) → All IsShort list → (i : ℕ) → IsShortBound (slice_get list i)
      found [] all i = tt
      found (n ∷ list) all zero = All-head IsShort n list all
      found (n ∷ list) all (suc i) = found list (All-tail IsShort n list all) i

      by : (is_stream : Bool)
          → IsShortBound (cond is_stream (slice_get given (place_of network sender listener)) None)
      by true = found given short (place_of network sender listener)
      by false = tt

  bound_then : Option (List ℕ) → ℕ → ℕ → List ℕ → List ℕ
  bound_then given n l b = codes " bound " ++ (bound_text (bound_of network given n l) ++ 10 ∷ b)

  worst_then : Option (List ℕ) → ℕ → ℕ → Summary → List ℕ → List ℕ
  worst_then given n l summary b = codes " worst " ++ (decimal summary.worst.0 ++ bound_then given n l b)

  -- what came of frames, by the numbers of a sender and a listener
  abbrev Summaries : Type 0
  Summaries = ℕ → ℕ → Summary

  line_parts : (given : Option (List ℕ)) (of : Summaries) (n l : ℕ) (b : List ℕ)
      → listener_line network of given n l ++ b
      ≡ (title_text network n l ++ codes " ") ++ (counts_text (of n l).totals ++ worst_then given n l (of n l) b)
  unfolding summary_text worst_then bound_then
  line_parts given of n l b =
      joined (title_text network n l) (codes " ") (counts_text (of n l).totals) (codes " worst ")
      (decimal (of n l).worst.0) (codes " bound ") (bound_text (bound_of network given n l)) (codes "\n") b
    where
      joined : (t a c d e f g h b : List ℕ) → (t ++ (a ++ c ++ d ++ e ++ f ++ g ++ h)) ++ b
          ≡ (t ++ a) ++ (c ++ (d ++ (e ++ (f ++ (g ++ (h ++ b))))))
      joined t a c d e f g h b = simp append_assoc

  -- two lines of a listener and what stands behind them
  record AreLines (n l : ℕ) (b y : List ℕ) : Type 0 where
    told : SaysTheSame network run other sums others n l
    rest : b ≡ y

  same_summary : (one two : Summary) → one.totals ≡ two.totals → one.worst.0 ≡ two.worst.0 → one ≡ two
  same_summary one two t w =
      ap (λ (x : Totals). record { totals = x; worst = one.worst }) t
      ∙ ap (λ n. record { totals = two.totals; worst = record { 0 = n } }) w

  cut_lines : (n l : ℕ) (b y : List ℕ) → HasShortNumbers (summary_for network run n l)
      → HasShortNumbers (summary_for network other n l) → AreShort sums → AreShort others
      → listener_line network (summary_for network run) sums n l ++ b
      ≡ listener_line network (summary_for network other) others n l ++ y → AreLines n l b y
  unfolding worst_then bound_then
  cut_lines n l b y short brief few less same =
      let one : Summary = summary_for network run n l in
      let two : Summary = summary_for network other n l in
      let counts = cut_counts one.totals two.totals (worst_then sums n l one b) (worst_then others n l two y)
      short.totals brief.totals refl refl
      (append_cancel_left (title_text network n l ++ codes " ") _ _
      (sym (line_parts sums (summary_for network run) n l b) ∙ same
      ∙ line_parts others (summary_for network other) n l y)) in
      let worst = cut_numbers one.worst.0 two.worst.0 (bound_then sums n l b) (bound_then others n l y) short.worst
      brief.worst refl refl (append_cancel_left (codes " worst ") _ _ counts.rest) in
      let bounds = cut (bound_text (bound_of network sums n l)) (bound_text (bound_of network others n l)) (10 ∷ b)
      (10 ∷ y) (bound_word (bound_of network sums n l) (short_bounds sums few n l))
      (bound_word (bound_of network others n l) (short_bounds others less n l)) refl refl
      (append_cancel_left (codes " bound ") _ _ worst.rest) in
      record {
        told = record {
          summary = same_summary one two counts.counts worst.number;
          bound = same_bound (bound_of network sums n l) (bound_of network others n l) (short_bounds sums few n l)
              (short_bounds others less n l) bounds.word;
        };
        rest = cc bounds.rest;
      }

  more_parts : (f : ℕ → List ℕ) (from n : ℕ) (b : List ℕ)
      → flat_map f (range_with_len from (suc n)) ++ b ≡ f from ++ (flat_map f (range_with_len (from + 1) n) ++ b)
  more_parts f from n b = append_assoc (f from) (flat_map f (range_with_len (from + 1) n)) b

  -- where texts of so many numbers, from one on, with something behind them, are the same, each tells its own
  record AllTold (Told : ℕ → Type 0) (from n : ℕ) (b y : List ℕ) : Type 0 where
    each : (k : ℕ) → from ≤ k → k < from + n → Told k
    rest : b ≡ y

  cut_all : (Told : ℕ → Type 0) (f g : ℕ → List ℕ) (from n : ℕ)
      → ((k : ℕ) (b y : List ℕ) → from ≤ k → k < from + n → f k ++ b ≡ g k ++ y → Told k × (b ≡ y)) → (b y : List ℕ)
      → flat_map f (range_with_len from n) ++ b ≡ flat_map g (range_with_len from n) ++ y → AllTold Told from n b y
  cut_all Told f g from zero one b y same =
      record { each = λ k above below. absurd (omega (arith, above, below)); rest = same }
  cut_all Told f g from (suc n) one b y same =
      let here : Told from
      × (flat_map f (range_with_len (from + 1) n) ++ b ≡ flat_map g (range_with_len (from + 1) n) ++ y) =
      one from (flat_map f (range_with_len (from + 1) n) ++ b) (flat_map g (range_with_len (from + 1) n) ++ y)
      (omega arith) (omega arith) (sym (more_parts f from n b) ∙ same ∙ more_parts g from n y) in
      let more = cut_all Told f g (from + 1) n
      (λ k c z above below. one k c z (omega (arith, above)) (omega (arith, below))) b y here.1 in
      record { each = by here.0 more.each; rest = more.rest }
    where
      first_is : (k : ℕ) → from ≤ k → k ≤ from → from ≡ k
      first_is k above same = omega (arith, above, same)

      by : Told from → ((k : ℕ) → from + 1 ≤ k → k < from + 1 + n → Told k) → (k : ℕ) → from ≤ k
          → k < from + suc n → Told k
      by first further k above below = elim (cases_lt from k) [
        | inl behind ↦ further k (omega (arith, behind)) (omega (arith, below))
        | inr same ↦ subst Told (first_is k above same) first
      ]

  -- the lines of a sender tell all of its listeners
  abbrev TellsSender : ℕ → Type 0
  TellsSender sender = (listener : ℕ) → listener < listener_count (sender_at network sender)
      → SaysTheSame network run other sums others sender listener

  cut_sender : (sender : ℕ) (b y : List ℕ) → sender < length (senders_of network) → IsReportable network run sums
      → IsReportable network other others
      → sender_lines network (summary_for network run) sums sender ++ b
      ≡ sender_lines network (summary_for network other) others sender ++ y → TellsSender sender × (b ≡ y)
  cut_sender sender b y within first second same =
      let all = cut_all (SaysTheSame network run other sums others sender)
      (listener_line network (summary_for network run) sums sender)
      (listener_line network (summary_for network other) others sender) 0
      (listener_count (sender_at network sender))
      (λ l c z above below.
      let listed : l < listener_count (sender_at network sender) = omega (arith, below) in
      let line = cut_lines sender l c z (first.summaries sender l within listed)
      (second.summaries sender l within listed) first.bounds second.bounds in
      λ texts. ((line texts).told, (line texts).rest)) b y same in
      (λ l listed. all.each l (omega arith) (omega (arith, listed)), all.rest)

  report_parts : (given : Option (List ℕ)) (runs : List Travel) → report_text network runs given
      ≡ flat_map (sender_lines network (summary_for network runs) given)
      (range_with_len 0 (length (senders_of network)))
      ++ totals_line (totals_of network runs)
  unfolding report_text
  report_parts given runs = refl

pub report_tells_all : ReportTellsAll
report_tells_all network run other sums others first second same =
    let all = cut_all network run other sums others (TellsSender network run other sums others)
    (sender_lines network (summary_for network run) sums) (sender_lines network (summary_for network other) others) 0
    (length (senders_of network))
    (λ sender b y above below. cut_sender network run other sums others sender b y (omega (arith, below)) first second)
    (totals_line (totals_of network run)) (totals_line (totals_of network other))
    (sym (report_parts network run other sums others sums run) ∙ same
    ∙ report_parts network run other sums others others other) in
    λ sender listener within listed. all.each sender (omega arith) (omega (arith, within)) listener listed
