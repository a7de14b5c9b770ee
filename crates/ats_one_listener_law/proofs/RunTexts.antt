-- The texts of runs where streams have one listener.
use Rattle.std.proofs.Common.{◌≡◌, ◌∙◌, ℕ, zero, suc, ◌+◌, ◌<◌, Bool, List, [], ◌∷◌, ◌++◌, length, map, take, Option}
use Rattle.std.proofs.Common.{refl}
use Rattle.std.proofs.Common.{append_assoc, sym, ap, arith}
use Rattle.std.specs.Prelude.{All, count_by, sum_by}
use Rattle.std.specs.List.{enumerate_from, flat_map, range_with_len, zip}
use Rattle.std.proofs.lemmas.List.{append-nil, length-take-le}
use Rattle.std.proofs.lemmas.List.Concat.{flat_map-cons}
use Rattle.std.proofs.lemmas.List.Elements.{All-head, All-tail}
use Rattle.std.proofs.lemmas.List.Sums.{sum_by-cons}
use Rattle.ats_facts.proofs.Lists.{count_by-cons}
use Rattle.ats_streams.specs.declared.branch.Branch.{Branch}
use Rattle.ats_network.specs.Network.{DeclaredNetwork, HasOneListener, senders_of}
use Rattle.ats_network.specs.Sender.{Sender}
use Rattle.ats_network.specs.Senders.{sender_at}
use Rattle.ats_network.proofs.SenderLemmas.{senders_alone}
use Rattle.ats_trace.specs.Journey.{IsJourney, Leg, Travel, trunk_at}
use Rattle.ats_trace.specs.Stored.{leg_in}
use Rattle.ats_trace.specs.Ways.{listener_count}
use Rattle.ats_trace.proofs.OneListener.{copies_alone, sender_alone, trunk_alone}
use Rattle.ats_replay.specs.Departures as replayed
use Rattle.ats_replay.specs.Report as reported
use Rattle.ats_replay.specs.Summary as summed
use Rattle.ats_replay.specs.Totals as counted
use Rattle.ats_replay.specs.declared.summary.Summary.{Summary}
use Rattle.ats_replay.specs.declared.totals.Totals.{Totals}
use Rattle.ats_replay.proofs.Reported.{made_alike}
use Rattle.ats_one_listener_law.specs.Laws.{GenerateTellsOneLine, ReplayTellsOneWay, came_of, counts_of, frame_lines}
use Rattle.ats_one_listener_law.specs.Laws.{line_of}

-- the one way of a frame
abbrev own : Travel → Leg
own j = record { hops = j.hops; ending = j.ending }

one_way : (s : Sender) (j : Travel) → s.branches ≡ [] → counted.ways_by s j ≡ own j ∷ []
one_way s j alone = ap (λ (branches : List Branch). counted.ways_by (record s { branches = branches }) j) alone

count-map : {X Y : Type 0} (test : Y → Bool) (f : X → Y) (xs : List X)
    → count_by test (map f xs) ≡ count_by (λ x. test (f x)) xs
count-map test f [] = refl
count-map test f (x ∷ xs) =
    omega (
      arith,
      count_by-cons test (f x) (map f xs),
      count_by-cons (λ y. test (f y)) x xs,
      count-map test f xs,
    )

-- counted by their ways, frames are counted by their records and endings
counts_same : (frames : List Travel) → counted.totals_on (length frames) (map own frames) ≡ counts_of frames
counts_same frames =
    rw (
      count-map (λ (w : Leg). counted.is_sunk w.ending) own frames,
      count-map (λ (w : Leg). counted.is_late w.hops) own frames,
      count-map (λ (w : Leg). counted.is_oversize w.hops) own frames,
    ) refl

all_ways : (network : DeclaredNetwork) (run : List Travel) → HasOneListener network
    → flat_map (counted.ways_in network) run ≡ map own run
all_ways network [] alone = refl
all_ways network (j ∷ run) alone =
    flat_map-cons (counted.ways_in network) j run
    ∙ ap (λ (ways : List Leg). ways ++ flat_map (counted.ways_in network) run)
    (one_way (sender_at network j.release.sender) j (sender_alone network alone j.release.sender))
    ∙ ap (λ (ways : List Leg). own j ∷ ways) (all_ways network run alone)

totals_same : (network : DeclaredNetwork) (run : List Travel) → HasOneListener network
    → counted.totals_of network run ≡ counts_of run
totals_same network run alone =
    ap (counted.totals_on (length run)) (all_ways network run alone) ∙ counts_same run

-- the lines of a frame
frame_same : (network : DeclaredNetwork) (n : ℕ) (j : Travel) → HasOneListener network → IsJourney network j
    → replayed.journey_text network (n, j) ≡ frame_lines network (n, j)
unfolding replayed.journey_text
frame_same network n j alone is =
    let s : Sender = sender_at network j.release.sender in
    let none : s.branches ≡ [] = sender_alone network alone j.release.sender in
    let first : List ℕ = replayed.frame_line network n j.release in
    let lines : List ℕ → List ℕ = λ path. replayed.leg_lines network.topology path (leg_in j 0) in
    let trunk : List ℕ = lines (trunk_at network j.release.sender) in
    ap (λ (copies : List Leg). (first ++ trunk)
    ++ flat_map (replayed.copy_text network.topology s) (enumerate_from 1 copies)) (copies_alone s j none is.copies)
    ∙ append-nil (first ++ trunk)
    ∙ ap (λ (path : List ℕ). first ++ lines path) (trunk_alone s none)
    ∙ sym (append_assoc first (flat_map (replayed.hop_line network.topology) (zip s.ports j.hops))
    (replayed.ending_line j.ending))

frames_same : (network : DeclaredNetwork) (n : ℕ) (run : List Travel) → HasOneListener network
    → All (IsJourney network) run
    → flat_map (replayed.journey_text network) (enumerate_from n run)
    ≡ flat_map (frame_lines network) (enumerate_from n run)
frames_same network n [] alone are = refl
frames_same network n (j ∷ run) alone are =
    flat_map-cons (replayed.journey_text network) (n, j) (enumerate_from (n + 1) run)
    ∙ ap (λ (t : List ℕ). t ++ flat_map (replayed.journey_text network) (enumerate_from (n + 1) run))
    (frame_same network n j alone (All-head (IsJourney network) j run are))
    ∙ ap (λ (t : List ℕ). frame_lines network (n, j) ++ t)
    (frames_same network (n + 1) run alone (All-tail (IsJourney network) j run are))
    ∙ sym (flat_map-cons (frame_lines network) (n, j) (enumerate_from (n + 1) run))

pub replay_tells_one_way : ReplayTellsOneWay
unfolding replayed.departures_text
replay_tells_one_way network run alone are =
    ap (λ (t : List ℕ). t ++ counted.totals_line (counted.totals_of network run)) (frames_same network 0 run alone are)
    ∙ ap (λ (t : Totals). flat_map (frame_lines network) (enumerate_from 0 run) ++ counted.totals_line t)
    (totals_same network run alone)

-- what came of a sender's frames for its one listener
came_same : (network : DeclaredNetwork) (run : List Travel) (i : ℕ) → HasOneListener network
    → summed.summary_for network run i 0 ≡ came_of run i
came_same network run i alone =
    let s : Sender = sender_at network i in
    let frames : List Travel = summed.frames_of run i in
    ap (λ (branches : List Branch). summed.summary_of (record s { branches = branches }) 0 frames)
    (sender_alone network alone i)
    ∙ ap (λ (t : Totals). record { totals = t; worst = (came_of run i).worst }) (counts_same frames)

-- each listener is the only one of its sender, so its place is the sender's number
alone_counts : (s : Sender) → s.branches ≡ [] → listener_count s ≡ 1
alone_counts s alone = ap (λ (branches : List Branch). listener_count (record s { branches = branches })) alone

sum_ones : (senders : List Sender) (i : ℕ) → All (λ (s : Sender). s.branches ≡ []) senders
    → sum_by listener_count (take i senders) ≡ length (take i senders)
sum_ones [] zero alone = refl
sum_ones [] (suc i) alone = refl
sum_ones (s ∷ senders) zero alone = refl
sum_ones (s ∷ senders) (suc i) alone =
    omega (
      arith,
      sum_by-cons listener_count s (take i senders),
      alone_counts s (All-head (λ (s : Sender). s.branches ≡ []) s senders alone),
      sum_ones senders i (All-tail (λ (s : Sender). s.branches ≡ []) s senders alone),
    )

place_same : (network : DeclaredNetwork) (i : ℕ) → HasOneListener network → i < length (senders_of network)
    → summed.place_of network i 0 ≡ i
place_same network i alone within =
    omega (
      arith,
      sum_ones (senders_of network) i (senders_alone network alone),
      length-take-le i (senders_of network) (omega (arith, within)),
    )

line_same : (network : DeclaredNetwork) (run : List Travel) (sums : Option (List ℕ)) (i : ℕ) → HasOneListener network
    → i < length (senders_of network)
    → reported.sender_lines network (summed.summary_for network run) sums i ≡ line_of network run sums i
line_same network run sums i alone within =
    let f : ℕ → List ℕ = reported.listener_line network (summed.summary_for network run) sums i in
    let title : List ℕ = reported.title_text network i 0 in
    ap (λ (n : ℕ). flat_map f (range_with_len 0 n)) (alone_counts (sender_at network i) (sender_alone network alone i))
    ∙ flat_map-cons f 0 [] ∙ append-nil (f 0)
    ∙ ap (λ (one : Summary). title ++ reported.summary_text one (reported.bound_of network sums i 0))
    (came_same network run i alone)
    ∙ ap (λ (n : ℕ). title ++ reported.summary_text (came_of run i) (reported.bound_at network sums i n))
    (place_same network i alone within)

pub generate_tells_one_line : GenerateTellsOneLine
unfolding reported.report_text
generate_tells_one_line network run sums alone are =
    let n : ℕ = length (senders_of network) in
    ap (λ (t : List ℕ). t ++ counted.totals_line (counted.totals_of network run))
    (made_alike (reported.sender_lines network (summed.summary_for network run) sums) (line_of network run sums) 0 n
    (λ i below. line_same network run sums i alone (omega (arith, below))))
    ∙ ap (λ (t : Totals). flat_map (line_of network run sums) (range_with_len 0 n) ++ counted.totals_line t)
    (totals_same network run alone)
