-- The totals of one frame more, and of one way more.
use Rattle.std.proofs.Common.{◌≡◌, ◌∙◌, ℕ, ◌+◌, ◌*◌, ◌^◌, ◌<◌, ◌≤◌, Bool, cond, List, [], ◌∷◌, ◌++◌, length, map, take}
use Rattle.std.proofs.Common.{refl}
use Rattle.std.proofs.Common.{sym, ap, subst, arith, append_assoc, length-append, All}
use Rattle.std.specs.List.{count_by, flat_map, range_with_len}
use Rattle.std.proofs.lemmas.Grind.{flat_map-append}
use Rattle.std.proofs.lemmas.List.{append-nil, length-take-le, take_more}
use Rattle.std.proofs.lemmas.List.Concat.{flat_map-cons, length-flat_map}
use Rattle.std.proofs.lemmas.List.Elements.{All-take}
use Rattle.std.proofs.lemmas.List.FromFn.{length-map-range_with_len, map-range_with_len_more}
use Rattle.std.proofs.lemmas.List.Sums.{count_by-le-length, sum_by_push, sum_by-le}
use Rattle.ats_streams.proofs.BranchLemmas.{routes-length}
use Rattle.ats_network.specs.Network.{DeclaredNetwork, IsNetwork}
use Rattle.ats_network.specs.Sender.{Sender}
use Rattle.ats_network.specs.Senders.{IsSender}
use Rattle.ats_network.proofs.SenderLemmas.{sender_keeps}
use Rattle.ats_trace.specs.Journey.{IsJourney, Leg, Travel, legs_in}
use Rattle.ats_trace.specs.Stored.{no_travel, travel_at}
use Rattle.ats_trace.specs.Ways.{listener_count, way_to}
use Rattle.ats_trace.specs.declared.run.TheConstants.{MAX_FRAMES}
use Rattle.ats_replay.specs.Inside.{HaveRoom, with_way}
use Rattle.ats_replay.specs.Totals.{is_late, is_oversize, is_sunk, totals_of, totals_on, ways_in}
use Rattle.ats_replay.specs.declared.totals.Totals.{Totals}
use Rattle.ats_replay.proofs.Legs.{legs_many, sender_of}

-- a frame has a way for each of its legs
pub ways_many : (network : DeclaredNetwork) (j : Travel) → IsJourney network j
    → listener_count (sender_of network j) ≡ length (legs_in j)
ways_many network j is =
    let s : Sender = sender_of network j in
    omega (arith, routes-length s.ports s.branches, legs_many network j is)

-- how many pass with one way more
counted : (test : Leg → Bool) (front : List Leg) (way : Leg)
    → count_by test (front ++ way ∷ []) ≡ count_by test front + cond (test way) 1 0
counted test front way = sum_by_push (λ (w : Leg). cond (test w) 1 0) front way

-- the totals with one way more
pub way_push : (frames : ℕ) (front : List Leg) (way : Leg)
    → totals_on frames (front ++ way ∷ []) ≡ with_way (totals_on frames front) way
way_push frames front way =
    rw (
      counted (λ (w : Leg). is_sunk w.ending) front way,
      counted (λ (w : Leg). is_late w.hops) front way,
      counted (λ (w : Leg). is_oversize w.hops) front way,
    ) refl

-- the ways of the first frames of a run, and of the next one those to the first listeners
abbrev pub ways_to : DeclaredNetwork → List Travel → ℕ → ℕ → List Leg
ways_to network run frame listener =
    flat_map (ways_in network) (take frame run)
    ++ map (way_to (sender_of network (travel_at run frame)) (travel_at run frame)) (range_with_len 0 listener)

-- one listener more
pub ways_more : (network : DeclaredNetwork) (run : List Travel) (frame listener : ℕ) (totals after : Totals)
    → totals ≡ totals_on (frame + 1) (ways_to network run frame listener)
    → after ≡ with_way totals (way_to (sender_of network (travel_at run frame)) (travel_at run frame) listener)
    → after ≡ totals_on (frame + 1) (ways_to network run frame (listener + 1))
ways_more network run frame listener totals after so_far more =
    let j : Travel = travel_at run frame in
    let s : Sender = sender_of network j in
    let front : List Leg = flat_map (ways_in network) (take frame run) in
    let own : List Leg = map (way_to s j) (range_with_len 0 listener) in
    more ∙ ap (λ (t : Totals). with_way t (way_to s j listener)) so_far
    ∙ sym (way_push (frame + 1) (front ++ own) (way_to s j listener))
    ∙ ap (totals_on (frame + 1)) (append_assoc front own (way_to s j listener ∷ [])
    ∙ ap (λ (ways : List Leg). front ++ ways)
    (sym (map-range_with_len_more (way_to s j) 0 listener listener (omega arith))))

-- no listener yet
pub ways_none : (network : DeclaredNetwork) (run : List Travel) (frame : ℕ) (totals : Totals) → frame < length run
    → totals ≡ totals_of network (take frame run)
    → record totals { frames = totals.frames + 1 } ≡ totals_on (frame + 1) (ways_to network run frame 0)
ways_none network run frame totals within so_far =
    let front : List Leg = flat_map (ways_in network) (take frame run) in
    let many : length (take frame run) ≡ frame = length-take-le frame run (omega (arith, within)) in
    ap (λ (t : Totals). record t { frames = t.frames + 1 }) so_far
    ∙ ap (λ (n : ℕ). totals_on (n + 1) front) many
    ∙ ap (totals_on (frame + 1)) (sym (append-nil front))

-- all listeners
pub ways_all : (network : DeclaredNetwork) (run : List Travel) (frame listener : ℕ) (totals : Totals)
    → IsJourney network (travel_at run frame) → frame < length run
    → listener ≡ length (legs_in (travel_at run frame))
    → totals ≡ totals_on (frame + 1) (ways_to network run frame listener)
    → totals ≡ totals_of network (take (frame + 1) run)
ways_all network run frame listener totals is within end so_far =
    let j : Travel = travel_at run frame in
    let front : List Leg = flat_map (ways_in network) (take frame run) in
    let more : take (frame + 1) run ≡ take frame run ++ j ∷ [] = take_more run frame no_travel within in
    let many : length (take (frame + 1) run) ≡ frame + 1 = length-take-le (frame + 1) run (omega (arith, within)) in
    so_far
    ∙ ap (λ (n : ℕ). totals_on (frame + 1) (ways_to network run frame n)) (end ∙ sym (ways_many network j is))
    ∙ ap (λ (ways : List Leg). totals_on (frame + 1) (front ++ ways))
    (sym (flat_map-cons (ways_in network) j [] ∙ append-nil (ways_in network j)))
    ∙ ap (totals_on (frame + 1)) (sym (flat_map-append (ways_in network) (take frame run) (j ∷ []))
    ∙ ap (flat_map (ways_in network)) (sym more))
    ∙ ap (λ (n : ℕ). totals_on n (flat_map (ways_in network) (take (frame + 1) run))) (sym many)

-- a frame has at most 65,536 ways
ways_few : (network : DeclaredNetwork) (j : Travel) → IsNetwork network → IsJourney network j
    → length (ways_in network j) ≤ 65536
ways_few network j rules is =
    let s : Sender = sender_of network j in
    let keeps : IsSender network.topology s = sender_keeps network j.release.sender rules is.sender in
    omega (
      arith,
      length-map-range_with_len (way_to s j) 0 (listener_count s),
      routes-length s.ports s.branches,
      keeps.branches.few,
    )

-- so their numbers have room for one more
pub ways_fit : (network : DeclaredNetwork) (run : List Travel) (frame listener : ℕ) (totals : Totals)
    → IsNetwork network → All (IsJourney network) run → frame < length run → length run ≤ MAX_FRAMES
    → listener < length (legs_in (travel_at run frame))
    → totals ≡ totals_on (frame + 1) (ways_to network run frame listener) → HaveRoom totals
ways_fit network run frame listener totals rules are within few below so_far =
    let j : Travel = travel_at run frame in
    let s : Sender = sender_of network j in
    let is : IsJourney network j = are frame no_travel within in
    let own : List Leg = map (way_to s j) (range_with_len 0 listener) in
    let front : List Leg = flat_map (ways_in network) (take frame run) in
    let firsts : All (λ (t : Travel). length (ways_in network t) ≤ 65536) (take frame run) =
    All-take (λ (t : Travel). length (ways_in network t) ≤ 65536) frame run
    (λ i d inside. ways_few network _ rules (are i d inside)) in
    let long : length front ≤ length (take frame run) * 65536 =
    omega (
      arith,
      length-flat_map (ways_in network) (take frame run),
      sum_by-le (λ (t : Travel). length (ways_in network t)) 65536 (take frame run) firsts,
    ) in
    let all : length (front ++ own) + 1 < 2 ^ 64 =
    omega (
      arith,
      long,
      length-append front own,
      length-map-range_with_len (way_to s j) 0 listener,
      length-take-le frame run (omega (arith, within)),
      within,
      few,
      below,
      ways_few network j rules is,
      ways_many network j is,
      length-map-range_with_len (way_to s j) 0 (listener_count s),
    ) in
    subst HaveRoom (sym so_far) (record {
      frames = omega (arith, within, few);
      sunk = omega (arith, all, count_by-le-length (λ (w : Leg). is_sunk w.ending) (front ++ own));
      late = omega (arith, all, count_by-le-length (λ (w : Leg). is_late w.hops) (front ++ own));
      size = omega (arith, all, count_by-le-length (λ (w : Leg). is_oversize w.hops) (front ++ own));
    })

joined : (x a b c d e f g h : List ℕ)
    → (((x ++ (a ++ b)) ++ (c ++ d)) ++ (e ++ f)) ++ (g ++ h) ≡ x ++ (a ++ b ++ c ++ d ++ e ++ f ++ g ++ h)
joined x a b c d e f g h = simp append_assoc

-- four words with a number each, written one after another
pub four_written : (x a b c d e f g h one two three four : List ℕ) → one ≡ x ++ (a ++ b) → two ≡ one ++ (c ++ d)
    → three ≡ two ++ (e ++ f) → four ≡ three ++ (g ++ h)
    → four ≡ x ++ (a ++ b ++ c ++ d ++ e ++ f ++ g ++ h)
four_written x a b c d e f g h one two three four p q r s =
    s ∙ ap (λ (z : List ℕ). z ++ (g ++ h)) (r ∙ ap (λ (z : List ℕ). z ++ (e ++ f)) (q
    ∙ ap (λ (z : List ℕ). z ++ (c ++ d)) p))
    ∙ joined x a b c d e f g h
