use Rattle.std.proofs.Common.{◌≡◌, ◌≢◌, ℕ, ◌<◌, ◌≤◌, Bool, true, false, ◌&&◌, ◌||◌, List, [], ◌∷◌, length, map, get_or}
use Rattle.std.proofs.Common.{lit<, Option, Some, None, All, refl, sym, ap, subst, ◌∙◌, inl, inr}
use Rattle.std.specs.Prelude.{nat_le, nat_lt, ◌==◌}
use Rattle.std.specs.List.{AllZip, list_all}
use Rattle.std.proofs.lemmas.Bool.{and_parts, false≢true}
use Rattle.std.proofs.lemmas.List.Sums.{AllPass-from_list_all}
use Rattle.ats_num.specs.declared.time.Ps.{Ps}
use Rattle.ats_num.specs.Wire.{IsFrameSize}
use Rattle.ats_network.specs.Network.{DeclaredNetwork, senders_of}
use Rattle.ats_network.specs.Senders.{sender_at}
use Rattle.ats_port_rule.specs.Transmission.{Transmission}
use Rattle.ats_group.specs.declared.verdict.Verdict.{Verdict}
use Rattle.ats_group.specs.declared.verdict.Verdict.TheVariants.{Eligible, Late, Size}
use Rattle.ats_streams.specs.Branches.{branches_of}
use Rattle.ats_streams.specs.declared.branch.Branch.{Branch}
use Rattle.ats_trace.specs.Journey.{Leg, Travel, IsWay, IsSentOrEnds, IsReleased, BeginsAs, IsCopy, AreCopies, legs_in}
use Rattle.ats_trace.specs.Journey.{record_at, trunk_at}
use Rattle.ats_trace.specs.Run.{releases_of, IsIdeal}
use Rattle.ats_trace.specs.declared.journey.Release.{Release}
use Rattle.ats_trace.specs.HopRecord.{HopRecord}
use Rattle.ats_trace.specs.declared.journey.Ending.{Ending}
use Rattle.ats_trace.specs.declared.journey.Ending.TheVariants.{Sink, Discard}
use Rattle.ats_trace.specs.Parts.{Part, in_order, octets, way, released, copies, links, waits, takes, apart, chosen}
use Rattle.ats_trace.specs.Parts.{prompt, groups, flows, Keeps}
use Rattle.ats_trace.proofs.PartProofs.{legal_is_each_part}
use Rattle.ats_examples.proofs.Tests.{le_of, lt_of, eq_of, either, all_by, pairs_pass}
use Rattle.ats_examples.proofs.PortTest.{waits_pass, takes_pass, apart_pass, chosen_pass, prompt_pass, waits_by}
use Rattle.ats_examples.proofs.PortTest.{takes_by, all_apart_by, all_chosen_by, all_prompt_by}
use Rattle.ats_examples.proofs.LegalTest.{ascending_by, each_port_passes, each_port_by, links_pass, links_by}
use Rattle.ats_examples.proofs.LegalTest.{groups_pass, groups_by, flows_pass, flows_by, same_verdict, verdict_is}

-- Tests of the parts of a legal run on closed networks and runs.

-- what follows from a verdict, and a frame's way
abbrev pub goes_on : Bool → Verdict → Option (Ps × Ps) → List HopRecord → Ending → Bool
goes_on onward (Eligible e) (Some times) hops ending = onward
goes_on onward (Late e) None [] Discard = true
goes_on onward Size None [] Discard = true
goes_on onward verdict times hops ending = false

abbrev pub goes_way : List ℕ → List HopRecord → Ending → Bool
goes_way [] [] (Sink at) = true
goes_way [] [] Discard = false
goes_way [] (hop ∷ hops) ending = false
goes_way (p ∷ path) [] ending = false
goes_way (p ∷ path) (hop ∷ hops) ending = goes_on (goes_way path hops ending) hop.verdict hop.sent hops ending

goes_on_by : (Onward : Type 0) (onward : Bool) → (onward ≡ true → Onward)
    → (verdict : Verdict) (sent : Option (Ps × Ps)) (hops : List HopRecord) (ending : Ending)
    → goes_on onward verdict sent hops ending ≡ true → IsSentOrEnds Onward verdict sent hops ending
goes_on_by Onward onward shows (Eligible e) (Some times) hops ending h = shows h
goes_on_by Onward onward shows (Eligible e) None hops ending h = absurd (false≢true h)
goes_on_by Onward onward shows (Late e) (Some times) hops ending h = absurd (false≢true h)
goes_on_by Onward onward shows Size (Some times) hops ending h = absurd (false≢true h)
goes_on_by Onward onward shows (Late e) None [] Discard h = (refl, refl)
goes_on_by Onward onward shows Size None [] Discard h = (refl, refl)
goes_on_by Onward onward shows (Late e) None [] (Sink at) h = absurd (false≢true h)
goes_on_by Onward onward shows Size None [] (Sink at) h = absurd (false≢true h)
goes_on_by Onward onward shows (Late e) None (hop ∷ hops) ending h = absurd (false≢true h)
goes_on_by Onward onward shows Size None (hop ∷ hops) ending h = absurd (false≢true h)

way_by : (path : List ℕ) (hops : List HopRecord) (ending : Ending) → goes_way path hops ending ≡ true
    → IsWay path hops ending
way_by [] [] (Sink at) h = tt
way_by [] [] Discard h = absurd (false≢true h)
way_by [] (hop ∷ hops) ending h = absurd (false≢true h)
way_by (p ∷ path) [] ending h = absurd (false≢true h)
way_by (p ∷ path) (hop ∷ hops) ending h =
    goes_on_by (IsWay path hops ending) (goes_way path hops ending) (way_by path hops ending)
    hop.verdict hop.sent hops ending h

same_time : (s t : Ps) → (s.0 == t.0) ≡ true → s ≡ t
same_time s t h = ap (λ (n : ℕ). record { 0 = n }) (eq_of s.0 t.0 h)

abbrev pub is_released : Release → List HopRecord → Bool
is_released release [] = false
is_released release (hop ∷ hops) = hop.arrival.0 == release.at.0 && same_verdict hop.verdict (Eligible release.at)

released_by : (release : Release) (hops : List HopRecord) → is_released release hops ≡ true → IsReleased release hops
released_by release [] h = absurd (false≢true h)
released_by release (hop ∷ hops) h =
    let parts = and_parts (hop.arrival.0 == release.at.0) (same_verdict hop.verdict (Eligible release.at)) h in
    (same_time hop.arrival release.at parts.0, verdict_is hop.verdict (Eligible release.at) parts.1)

abbrev pub has_way : DeclaredNetwork → Travel → Bool
has_way network j =
    nat_lt j.release.sender (length (senders_of network))
    && goes_way (trunk_at network j.release.sender) j.hops j.ending

has_way_by : (network : DeclaredNetwork) (j : Travel) → has_way network j ≡ true
    → (j.release.sender < length (senders_of network)) × IsWay (trunk_at network j.release.sender) j.hops j.ending
has_way_by network j h =
    let goes : Bool = goes_way (trunk_at network j.release.sender) j.hops j.ending in
    let parts = and_parts (nat_lt j.release.sender (length (senders_of network))) goes h in (
      lt_of j.release.sender (length (senders_of network)) parts.0,
      way_by (trunk_at network j.release.sender) j.hops j.ending parts.1,
    )

-- a copy begins as the frame's record where the branch begins
abbrev pub begins_as : HopRecord → List HopRecord → Bool
begins_as start [] = false
begins_as start (hop ∷ hops) = hop.arrival.0 == start.arrival.0 && same_verdict hop.verdict start.verdict

begins_by : (start : HopRecord) (hops : List HopRecord) → begins_as start hops ≡ true → BeginsAs start hops
begins_by start [] h = absurd (false≢true h)
begins_by start (hop ∷ hops) h =
    let parts = and_parts (hop.arrival.0 == start.arrival.0) (same_verdict hop.verdict start.verdict) h in
    (same_time hop.arrival start.arrival parts.0, verdict_is hop.verdict start.verdict parts.1)

-- nothing is told of it
abbrev pub is_none_told : List HopRecord → Ending → Bool
is_none_told [] Discard = true
is_none_told [] (Sink at) = false
is_none_told (hop ∷ hops) ending = false

none_told_by : (hops : List HopRecord) (ending : Ending) → is_none_told hops ending ≡ true
    → (hops ≡ []) × (ending ≡ Discard)
none_told_by [] Discard h = (refl, refl)
none_told_by [] (Sink at) h = absurd (false≢true h)
none_told_by (hop ∷ hops) ending h = absurd (false≢true h)

abbrev pub is_copy : Option HopRecord → List ℕ → Leg → Bool
is_copy (Some start) path leg = begins_as start leg.hops && goes_way path leg.hops leg.ending
is_copy None path leg = is_none_told leg.hops leg.ending

copy_by : (start : Option HopRecord) (path : List ℕ) (leg : Leg) → is_copy start path leg ≡ true
    → IsCopy start path leg
copy_by (Some start) path leg h =
    let parts = and_parts (begins_as start leg.hops) (goes_way path leg.hops leg.ending) h in
    (begins_by start leg.hops parts.0, way_by path leg.hops leg.ending parts.1)
copy_by None path leg h = none_told_by leg.hops leg.ending h

-- the copies are those of the branches, one by one, where these legs are told of the frame
abbrev pub are_copied : List Leg → List (Branch × List ℕ) → List Leg → Bool
are_copied told [] [] = true
are_copied told [] (leg ∷ legs) = false
are_copied told (branch ∷ branches) [] = false
are_copied told (branch ∷ branches) (leg ∷ legs) =
    is_copy (record_at told branch.0) branch.1 leg && are_copied told branches legs

copied_by : (told : List Leg) (branches : List (Branch × List ℕ)) (legs : List Leg)
    → are_copied told branches legs ≡ true
    → AllZip (λ (branch : Branch × List ℕ) (leg : Leg). IsCopy (record_at told branch.0) branch.1 leg) branches legs
copied_by told [] [] h = tt
copied_by told [] (leg ∷ legs) h = absurd (false≢true h)
copied_by told (branch ∷ branches) [] h = absurd (false≢true h)
copied_by told (branch ∷ branches) (leg ∷ legs) h =
    let parts = and_parts (is_copy (record_at told branch.0) branch.1 leg) (are_copied told branches legs) h in
    (copy_by (record_at told branch.0) branch.1 leg parts.0, copied_by told branches legs parts.1)

abbrev pub has_copies : DeclaredNetwork → Travel → Bool
has_copies network j =
    are_copied (legs_in j)
    (branches_of (sender_at network j.release.sender).ports (sender_at network j.release.sender).branches) j.copies

has_copies_by : (network : DeclaredNetwork) (j : Travel) → has_copies network j ≡ true
    → AreCopies (sender_at network j.release.sender) j
has_copies_by network j h =
    copied_by (legs_in j)
    (branches_of (sender_at network j.release.sender).ports (sender_at network j.release.sender).branches) j.copies h

abbrev pub is_frame : Travel → Bool
is_frame j = nat_le 64 j.release.octets && nat_le j.release.octets 2000

frame_by : (j : Travel) → is_frame j ≡ true → IsFrameSize j.release.octets
frame_by j h =
    let parts : (nat_le 64 j.release.octets ≡ true) × (nat_le j.release.octets 2000 ≡ true) =
    and_parts (nat_le 64 j.release.octets) (nat_le j.release.octets 2000) h in
    record { least = le_of 64 j.release.octets parts.0; most = le_of j.release.octets 2000 parts.1 }

-- the run keeps a part
abbrev pub passes : Part → DeclaredNetwork → List Travel → Bool
passes in_order network run = pairs_pass nat_le (map (λ (r : Release). r.at.0) (releases_of run))
passes octets network run = list_all is_frame run
passes way network run = list_all (has_way network) run
passes released network run = list_all (λ (j : Travel). is_released j.release j.hops) run
passes copies network run = list_all (has_copies network) run
passes links network run = links_pass network run
passes waits network run = each_port_passes waits_pass network run
passes takes network run = each_port_passes takes_pass network run
passes apart network run = each_port_passes apart_pass network run
passes chosen network run = each_port_passes chosen_pass network run
passes prompt network run = each_port_passes prompt_pass network run
passes groups network run = groups_pass network run
passes flows network run = flows_pass network run

pub kept_by : (part : Part) (network : DeclaredNetwork) (run : List Travel) → passes part network run ≡ true
    → Keeps part network run
kept_by in_order network run h = ascending_by (map (λ (r : Release). r.at.0) (releases_of run)) h
kept_by octets network run h = all_by (λ (j : Travel). IsFrameSize j.release.octets) is_frame frame_by run h
kept_by way network run h =
    all_by (λ (j : Travel). (j.release.sender < length (senders_of network))
    × IsWay (trunk_at network j.release.sender) j.hops j.ending) (has_way network) (has_way_by network) run h
kept_by released network run h = all_by (λ (j : Travel). IsReleased j.release j.hops)
    (λ (j : Travel). is_released j.release j.hops) (λ j. released_by j.release j.hops) run h
kept_by copies network run h = all_by (λ (j : Travel). AreCopies (sender_at network j.release.sender) j)
    (has_copies network) (has_copies_by network) run h
kept_by links network run h = links_by network run h
kept_by waits network run h =
    each_port_by (λ ps sent. All (λ (x : Transmission). x.eligible ≤ x.start) sent) waits_pass waits_by network run h
kept_by takes network run h = each_port_by _ takes_pass takes_by network run h
kept_by apart network run h = each_port_by _ apart_pass all_apart_by network run h
kept_by chosen network run h = each_port_by _ chosen_pass all_chosen_by network run h
kept_by prompt network run h = each_port_by _ prompt_pass all_prompt_by network run h
kept_by groups network run h = groups_by network run h
kept_by flows network run h = flows_by network run h

-- the parts in their order
abbrev pub parts : List Part
parts =
    in_order ∷ octets ∷ way ∷ released ∷ copies ∷ links ∷ waits ∷ takes ∷ apart ∷ chosen ∷ prompt ∷ groups ∷ flows ∷ []

abbrev pub number_of : Part → ℕ
number_of in_order = 0
number_of octets = 1
number_of way = 2
number_of released = 3
number_of copies = 4
number_of links = 5
number_of waits = 6
number_of takes = 7
number_of apart = 8
number_of chosen = 9
number_of prompt = 10
number_of groups = 11
number_of flows = 12

own : (part : Part) → get_or parts (number_of part) flows ≡ part
own in_order = refl
own octets = refl
own way = refl
own released = refl
own copies = refl
own links = refl
own waits = refl
own takes = refl
own apart = refl
own chosen = refl
own prompt = refl
own groups = refl
own flows = refl

below : (part : Part) → number_of part < length parts
below in_order = lit< tt
below octets = lit< tt
below way = lit< tt
below released = lit< tt
below copies = lit< tt
below links = lit< tt
below waits = lit< tt
below takes = lit< tt
below apart = lit< tt
below chosen = lit< tt
below prompt = lit< tt
below groups = lit< tt
below flows = lit< tt

-- the run keeps each part
abbrev pub all_pass : DeclaredNetwork → List Travel → Bool
all_pass network run = list_all (λ part. passes part network run) parts

pub all_kept : (network : DeclaredNetwork) (run : List Travel) → all_pass network run ≡ true → (part : Part)
    → Keeps part network run
all_kept network run h part =
    let test : Part → Bool = λ part. passes part network run in
    let there : test (get_or parts (number_of part) flows) ≡ true =
    AllPass-from_list_all test parts h (number_of part) flows (below part) in
    kept_by part network run (subst (λ (q : Part). test q ≡ true) (own part) there)

-- the run keeps each part but this one
abbrev pub others_pass : Part → DeclaredNetwork → List Travel → Bool
others_pass part network run = list_all (λ other. number_of other == number_of part || passes other network run) parts

pub others_by : (part : Part) (network : DeclaredNetwork) (run : List Travel) → others_pass part network run ≡ true
    → (other : Part) → other ≢ part → Keeps other network run
others_by part network run h other differ =
    let test : Part → Bool = λ other. number_of other == number_of part || passes other network run in
    let there : test (get_or parts (number_of other) flows) ≡ true =
    AllPass-from_list_all test parts h (number_of other) flows (below other) in
    let here : test other ≡ true = subst (λ (q : Part). test q ≡ true) (own other) there in
    elim (either (number_of other == number_of part) (passes other network run) here) [
      | inl same ↦ absurd (differ (sym (own other)
          ∙ ap (λ (n : ℕ). get_or parts n flows) (eq_of (number_of other) (number_of part) same) ∙ own part))
      | inr passed ↦ kept_by other network run passed
    ]

pub legal_by : (network : DeclaredNetwork) (run : List Travel) → all_pass network run ≡ true → IsIdeal network run
legal_by network run h = (legal_is_each_part network run).1 (all_kept network run h)
