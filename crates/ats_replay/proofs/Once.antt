-- Of each frame and each of its listeners one of three numbers counts one.
use Rattle.std.proofs.Common.{◌≡◌, ◌∙◌, ℕ, zero, suc, ◌+◌, ◌<◌, ◌≤◌, cond, List, [], ◌∷◌, ◌++◌, length, get_or, Option}
use Rattle.std.proofs.Common.{Some, None, Bool, true, false, ◌==◌, map, refl, sym, ap, subst, arith, length-append}
use Rattle.std.specs.Prelude.{All}
use Rattle.std.specs.List.{count_by, flat_map, slice_get}
use Rattle.std.proofs.lemmas.Bool.Decides.{nat_tests}
use Rattle.std.proofs.lemmas.List.{length-map}
use Rattle.std.proofs.lemmas.List.Elements.{All-append, All-cons, All-head, All-nil, All-tail}
use Rattle.std.proofs.lemmas.List.FromFn.{get_or-map-range_with_len, length-map-range_with_len}
use Rattle.std.proofs.lemmas.List.Sums.{sum_by-cons}
use Rattle.std.proofs.lemmas.Option.{none-some}
use Rattle.ats_facts.proofs.Lists.{count_by-cons}
use Rattle.ats_num.specs.declared.time.Ps.{Ps}
use Rattle.ats_streams.specs.Branches.{BeginsEarlier, leg_at, legs_of, no_branch}
use Rattle.ats_streams.specs.declared.branch.Branch.{Branch}
use Rattle.ats_streams.proofs.BranchLemmas.{begins_at}
use Rattle.ats_network.specs.Network.{DeclaredNetwork, IsNetwork}
use Rattle.ats_network.specs.Sender.{Sender}
use Rattle.ats_network.specs.Senders.{IsSender, sender_at}
use Rattle.ats_network.proofs.SenderLemmas.{sender_keeps}
use Rattle.ats_group.specs.declared.verdict.Verdict.{Verdict}
use Rattle.ats_group.specs.declared.verdict.Verdict.TheVariants.{Eligible, Late, Size}
use Rattle.ats_trace.specs.Journey.{BeginsAs, IsCopy, IsJourney, IsSentOrEnds, IsWay, Leg, Travel, legs_at, legs_in}
use Rattle.ats_trace.specs.Journey.{no_leg, record_at}
use Rattle.ats_trace.specs.Stored.{leg_in}
use Rattle.ats_trace.specs.Ways.{listener_count, way_to}
use Rattle.ats_trace.specs.declared.journey.Ending.{Ending}
use Rattle.ats_trace.specs.declared.journey.Ending.TheVariants.{Sink, Discard}
use Rattle.ats_trace.specs.HopRecord.{HopRecord}
use Rattle.ats_route_law.proofs.Leads.{copy_at}
use Rattle.ats_route_law.proofs.Ways.{leads_in, way_at, way_before, way_first}
use Rattle.ats_replay.specs.Laws.{EachListenerCountsOnce, listeners_together}
use Rattle.ats_replay.specs.Summary.{frames_of}
use Rattle.ats_replay.specs.Totals.{is_late, is_late_verdict, is_oversize, is_size_verdict, is_sunk, last_of, passes}
use Rattle.ats_replay.specs.Totals.{ways_in}
use Rattle.ats_replay.proofs.Counts.{ways_many}
use Rattle.ats_replay.proofs.LastRecords.{last_behind}
use Rattle.ats_replay.proofs.Legs.{leg_has_port, leg_listed, sender_of}

-- what records and an ending add to the three numbers
abbrev tally : List HopRecord → Ending → ℕ
tally hops ending = cond (is_sunk ending) 1 0 + cond (is_late hops) 1 0 + cond (is_oversize hops) 1 0

-- a record with these parts
abbrev record_of : Ps → Verdict → Option (Ps × Ps) → HopRecord
record_of arrival verdict sent = record { arrival = arrival; verdict = verdict; sent = sent }

same_last : (hops others : List HopRecord) (ending : Ending) → last_of hops ≡ last_of others
    → tally hops ending ≡ tally others ending
same_last hops others ending same =
    ap (λ (o : Option HopRecord). cond (is_sunk ending) 1 0 + cond (passes is_late_verdict o) 1 0
    + cond (passes is_size_verdict o) 1 0) same

-- the last record of a way that ends here
ends_here : (hop : HopRecord) (hops : List HopRecord) (ending : Ending) → (hops ≡ []) × (ending ≡ Discard)
    → tally (hop ∷ []) Discard ≡ 1 → tally (hop ∷ hops) ending ≡ 1
ends_here hop hops ending end once =
    ap (λ (hs : List HopRecord). tally (hop ∷ hs) ending) end.0 ∙ ap (λ (e : Ending). tally (hop ∷ []) e) end.1 ∙ once

-- a way over some ports
once_behind : (path : List ℕ) (at : Ps) (verdict : Verdict) (sent : Option (Ps × Ps)) (hops : List HopRecord)
    (ending : Ending) → (0 < length path → IsWay path hops ending → tally hops ending ≡ 1)
    → IsSentOrEnds (IsWay path hops ending) verdict sent hops ending
    → tally (record_of at verdict sent ∷ hops) ending ≡ 1
once_behind [] at (Eligible e) (Some times) [] (Sink on) further way = refl
once_behind [] at (Eligible e) (Some times) [] Discard further way = absurd way
once_behind [] at (Eligible e) (Some times) (hop ∷ hops) (Sink on) further way = absurd way
once_behind [] at (Eligible e) (Some times) (hop ∷ hops) Discard further way = absurd way
once_behind (p ∷ path) at (Eligible e) (Some times) [] ending further way = absurd way
once_behind (p ∷ path) at (Eligible e) (Some times) (hop ∷ hops) ending further way =
    let first : HopRecord = record_of at (Eligible e) (Some times) in
    same_last (first ∷ hop ∷ hops) (hop ∷ hops) ending (last_behind (first ∷ []) (hop ∷ hops) (omega arith))
    ∙ further (omega arith) way
once_behind path at (Eligible e) None hops ending further way = absurd way
once_behind path at (Late e) (Some times) hops ending further way = absurd way
once_behind path at (Late e) None hops ending further way =
    ends_here (record_of at (Late e) None) hops ending way refl
once_behind path at Size (Some times) hops ending further way = absurd way
once_behind path at Size None hops ending further way = ends_here (record_of at Size None) hops ending way refl

once_along : (path : List ℕ) (hops : List HopRecord) (ending : Ending) → 0 < length path → IsWay path hops ending
    → tally hops ending ≡ 1
once_along [] hops ending some way = absurd (omega arith)
once_along (p ∷ path) [] ending some way = absurd way
once_along (p ∷ path) (hop ∷ hops) ending some way =
    once_behind path hop.arrival hop.verdict hop.sent hops ending (once_along path hops ending) way

-- a way that did not come to one of its ports ends with a discard
short_behind : (path : List ℕ) (verdict : Verdict) (sent : Option (Ps × Ps)) (hops : List HopRecord) (ending : Ending)
    → (IsWay path hops ending → ending ≡ Discard) → IsSentOrEnds (IsWay path hops ending) verdict sent hops ending
    → ending ≡ Discard
short_behind path (Eligible e) (Some times) hops ending further way = further way
short_behind path (Eligible e) None hops ending further way = absurd way
short_behind path (Late e) (Some times) hops ending further way = absurd way
short_behind path (Late e) None hops ending further way = way.1
short_behind path Size (Some times) hops ending further way = absurd way
short_behind path Size None hops ending further way = way.1

short_along : (path : List ℕ) (hops : List HopRecord) (ending : Ending) (k : ℕ) → IsWay path hops ending
    → k < length path → slice_get hops k ≡ None → ending ≡ Discard
short_along [] hops ending k way within none = absurd (omega arith)
short_along (p ∷ path) [] ending k way within none = absurd way
short_along (p ∷ path) (hop ∷ hops) ending zero way within none = absurd (none-some hop (sym none))
short_along (p ∷ path) (hop ∷ hops) ending (suc k) way within none =
    short_behind path hop.verdict hop.sent hops ending
    (λ onward. short_along path hops ending k onward (omega (arith, within)) none) way

short_copy : (start : Option HopRecord) (path : List ℕ) (leg : Leg) (k : ℕ) → IsCopy start path leg
    → k < length path → slice_get leg.hops k ≡ None → leg.ending ≡ Discard
short_copy (Some start) path leg k copy within none = short_along path leg.hops leg.ending k copy.1 within none
short_copy None path leg k copy within none = copy.1

some_begun : (start : HopRecord) (hops : List HopRecord) → BeginsAs start hops → 0 < length hops
some_begun start [] begins = absurd begins
some_begun start (hop ∷ hops) begins = omega arith

-- so with each leg of a frame
short_leg : (network : DeclaredNetwork) (j : Travel) (leg k : ℕ) → IsJourney network j → leg < length (legs_in j)
    → k < length (leg_at (legs_at network j.release.sender) leg) → slice_get (leg_in j leg).hops k ≡ None
    → (leg_in j leg).ending ≡ Discard
short_leg network j zero k is within below none =
    short_along (leg_at (legs_at network j.release.sender) 0) j.hops j.ending k is.way below none
short_leg network j (suc n) k is within below none =
    let s : Sender = sender_of network j in
    short_copy (record_at (legs_in j) (get_or s.branches n no_branch)) (leg_at (legs_of s.ports s.branches) (suc n))
    (get_or j.copies n no_leg) k
    (copy_at s j n is.copies (omega (arith, leg_listed network j (suc n) is within))) below none

-- what the way of a frame to the listener of a leg adds
abbrev adds : DeclaredNetwork → Travel → ℕ → ℕ
adds network j leg = tally (way_to (sender_of network j) j leg).hops (leg_in j leg).ending

-- where the frame came to the branch, and where it did not
once_copy : (network : DeclaredNetwork) (j : Travel) (n : ℕ) (start : Option HopRecord) → IsNetwork network
    → IsJourney network j → suc n < length (legs_in j)
    → record_at (legs_in j) (get_or (sender_of network j).branches n no_branch) ≡ start
    → ((leg : ℕ) → leg < suc n → leg < length (legs_in j) → adds network j leg ≡ 1)
    → IsCopy start (leg_at (legs_at network j.release.sender) (suc n)) (leg_in j (suc n))
    → adds network j (suc n) ≡ 1
once_copy network j n (Some start) rules is within came earlier copy =
    let s : Sender = sender_of network j in
    let own : Leg = leg_in j (suc n) in
    let lead : List HopRecord = leg_at (leads_in s j) (suc n) in
    let path : List ℕ = leg_at (legs_at network j.release.sender) (suc n) in
    ap (λ (hs : List HopRecord). tally hs own.ending)
    (way_at s j (suc n) is.copies (leg_listed network j (suc n) is within))
    ∙ same_last (lead ++ own.hops) own.hops own.ending (last_behind lead own.hops (some_begun start own.hops copy.0))
    ∙ once_along path own.hops own.ending (leg_has_port network j (suc n) rules is within) copy.1
once_copy network j n None rules is within came earlier copy =
    let s : Sender = sender_of network j in
    let keeps : IsSender network.topology s = sender_keeps network j.release.sender rules is.sender in
    let listed : suc n ≤ length s.branches = leg_listed network j (suc n) is within in
    let b : Branch = get_or s.branches n no_branch in
    let begins : BeginsEarlier (legs_of s.ports s.branches) (1 + n) b =
    begins_at (legs_of s.ports s.branches) 1 s.branches n keeps.branches.begin (omega (arith, listed)) in
    let before : b.leg < suc n = omega (arith, begins.earlier) in
    let inside : b.leg < length (legs_in j) = omega (arith, before, within) in
    let hops : List HopRecord = (way_to s j b.leg).hops in
    let ended : (leg_in j b.leg).ending ≡ Discard = short_leg network j b.leg b.hop is inside begins.within came in
    ap (λ (hs : List HopRecord). tally hs (leg_in j (suc n)).ending)
    (way_before s j n keeps.branches is.copies (omega (arith, listed)) copy.0 (omega (arith, before, listed)))
    ∙ ap (λ (e : Ending). tally hops e) (copy.1 ∙ sym ended)
    ∙ earlier b.leg before inside

once_to : (network : DeclaredNetwork) (j : Travel) (bound leg : ℕ) → IsNetwork network → IsJourney network j
    → leg < bound → leg < length (legs_in j) → adds network j leg ≡ 1
once_to network j zero leg rules is below within = absurd (omega arith)
once_to network j (suc bound) zero rules is below within =
    ap (λ (hs : List HopRecord). tally hs j.ending) (way_first (sender_of network j) j is.copies)
    ∙ once_along (leg_at (legs_at network j.release.sender) 0) j.hops j.ending
    (leg_has_port network j 0 rules is within) is.way
once_to network j (suc bound) (suc n) rules is below within =
    let s : Sender = sender_of network j in
    once_copy network j n (record_at (legs_in j) (get_or s.branches n no_branch)) rules is within refl
    (λ leg before inside. once_to network j bound leg rules is (omega (arith, before, below)) inside)
    (copy_at s j n is.copies (omega (arith, leg_listed network j (suc n) is within)))

abbrev Once : Leg → Type 0
Once way = tally way.hops way.ending ≡ 1

-- each way of a frame adds one
ways_once : (network : DeclaredNetwork) (j : Travel) → IsNetwork network → IsJourney network j
    → All Once (ways_in network j)
ways_once network j rules is i d within =
    let s : Sender = sender_of network j in
    let below : i < listener_count s =
    omega (arith, within, length-map-range_with_len (way_to s j) 0 (listener_count s)) in
    subst Once (sym (get_or-map-range_with_len (way_to s j) 0 (listener_count s) i i d below (omega arith)))
    (once_to network j (suc i) i rules is (omega arith) (omega (arith, below, ways_many network j is)))

all_once : (network : DeclaredNetwork) (run : List Travel) → IsNetwork network → All (IsJourney network) run
    → All Once (flat_map (ways_in network) run)
all_once network [] rules are = All-nil Once
all_once network (j ∷ run) rules are =
    All-append Once (ways_in network j) (flat_map (ways_in network) run)
    (ways_once network j rules (All-head (IsJourney network) j run are))
    (all_once network run rules (All-tail (IsJourney network) j run are))

-- so all together add as many as they are
summed : (ways : List Leg) → All Once ways
    → count_by (λ (w : Leg). is_sunk w.ending) ways + count_by (λ (w : Leg). is_late w.hops) ways
    + count_by (λ (w : Leg). is_oversize w.hops) ways ≡ length ways
summed [] all = refl
summed (way ∷ ways) all =
    omega (
      arith,
      count_by-cons (λ (w : Leg). is_sunk w.ending) way ways,
      count_by-cons (λ (w : Leg). is_late w.hops) way ways,
      count_by-cons (λ (w : Leg). is_oversize w.hops) way ways,
      All-head Once way ways all,
      summed ways (All-tail Once way ways all),
    )

many_ways : (network : DeclaredNetwork) (run : List Travel)
    → length (flat_map (ways_in network) run) ≡ listeners_together network run
many_ways network [] = refl
many_ways network (j ∷ run) =
    let s : Sender = sender_of network j in
    omega (
      arith,
      length-append (ways_in network j) (flat_map (ways_in network) run),
      length-map-range_with_len (way_to s j) 0 (listener_count s),
      sum_by-cons (λ (t : Travel). listener_count (sender_of network t)) j run,
      many_ways network run,
    )

-- the way of a frame to a listener of its sender, which has this number
way_once : (network : DeclaredNetwork) (sender listener : ℕ) (j : Travel) → IsNetwork network
    → listener < listener_count (sender_at network sender) → IsJourney network j → j.release.sender ≡ sender
    → Once (way_to (sender_at network sender) j listener)
way_once network sender listener j rules within is e =
    let own : listener < listener_count (sender_of network j) =
    subst (λ (n : ℕ). listener < listener_count (sender_at network n)) (sym e) within in
    subst (λ (n : ℕ). Once (way_to (sender_at network n) j listener)) e
    (once_to network j (suc listener) listener rules is (omega arith) (omega (arith, own, ways_many network j is)))

-- all ways to one listener of a sender
ways_to_once : (network : DeclaredNetwork) (sender listener : ℕ) (run : List Travel) → IsNetwork network
    → listener < listener_count (sender_at network sender) → All (IsJourney network) run
    → All Once (map (λ (j : Travel). way_to (sender_at network sender) j listener) (frames_of run sender))
ways_to_once network sender listener [] rules within are = All-nil Once
ways_to_once network sender listener (j ∷ run) rules within are =
    chosen (j.release.sender == sender) refl
    (ways_to_once network sender listener run rules within (All-tail (IsJourney network) j run are))
  where
    to : Travel → Leg
    to t = way_to (sender_at network sender) t listener

    chosen : (b : Bool) → (j.release.sender == sender) ≡ b → All Once (map to (frames_of run sender))
        → All Once (map to (cond b (j ∷ frames_of run sender) (frames_of run sender)))
    chosen true e rest = All-cons Once (to j) (map to (frames_of run sender))
        (way_once network sender listener j rules within (All-head (IsJourney network) j run are)
        (grind (arith, nat_tests)))
        rest
    chosen false e rest = rest

pub each_listener_counts_once : EachListenerCountsOnce
each_listener_counts_once network run rules are = record {
  together = summed (flat_map (ways_in network) run) (all_once network run rules are) ∙ many_ways network run;
  for_each = λ sender listener there within.
      summed (map (λ (j : Travel). way_to (sender_at network sender) j listener) (frames_of run sender))
      (ways_to_once network sender listener run rules within are)
      ∙ length-map (frames_of run sender) (λ (j : Travel). way_to (sender_at network sender) j listener);
}
