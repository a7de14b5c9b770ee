use Rattle.std.proofs.Common.{◌≡◌, ℕ, ◌+◌, List, [], ◌∷◌, ◌++◌, map, length, drop, All, refl, sym, ap, ◌∙◌, subst}
use Rattle.std.proofs.Common.{arith}
use Rattle.std.specs.Prelude.{Option, Some, None}
use Rattle.std.specs.List.{AllZip, zip}
use Rattle.std.proofs.lemmas.List.{map-append}
use Rattle.std.proofs.lemmas.List.Elements.{All-head, All-tail}
use Rattle.ats_num.specs.declared.time.Ps.{Ps}
use Rattle.ats_streams.specs.Branches.{legs_of, trunk_of}
use Rattle.ats_streams.specs.declared.branch.Branch.{Branch}
use Rattle.ats_streams.proofs.BranchLemmas.{legs-length}
use Rattle.ats_network.specs.Sender.{Sender}
use Rattle.ats_network.specs.Network.{DeclaredNetwork}
use Rattle.ats_network.specs.Senders.{sender_at}
use Rattle.ats_group.specs.declared.verdict.Verdict.{Verdict}
use Rattle.ats_group.specs.declared.verdict.Verdict.TheVariants.{Eligible, Late, Size}
use Rattle.ats_trace.specs.Journey.{Leg, Travel, IsCopy, IsJourney, IsSentOrEnds, IsWay, class_at, legs_in, record_at}
use Rattle.ats_trace.specs.Projections.{Hop, Crossing, transmission_by, transmission_of, hop_at, crossing_at}
use Rattle.ats_trace.specs.Projections.{hops_along, crossings_along, journey_hops, journey_crossings, hops_from}
use Rattle.ats_trace.specs.Projections.{crossings_from, crossings_over, hops_over}
use Rattle.ats_trace.specs.declared.journey.Release.{Release}
use Rattle.ats_trace.specs.HopRecord.{HopRecord}
use Rattle.ats_trace.specs.declared.journey.Ending.{Ending}
use Rattle.ats_trace.specs.declared.journey.Ending.TheVariants.{Sink, Discard}
use Rattle.ats_trace.proofs.Legs.{legs_cons}
use Rattle.ats_soundness_law.proofs.Behind.{way_on}
use Rattle.ats_buffer_law.specs.Laws.{sent_over, EachTransmissionCrosses}

-- a frame that is sent at a port goes on, so it crosses the port
one_crosses : (frame class : ℕ) (release : Release) (came p : ℕ) (path : List ℕ) (verdict : Verdict)
    (sent : Option (Ps × Ps)) (hops : List HopRecord) (ending : Ending)
    → IsSentOrEnds (IsWay path hops ending) verdict sent hops ending
    → hop_at p (transmission_by frame release class verdict sent)
    ≡ map sent_over (crossing_at release.octets came p (transmission_by frame release class verdict sent) hops ending)
one_crosses frame class release came p path (Eligible e) (Some times) (next ∷ hops) ending way = refl
one_crosses frame class release came p path (Eligible e) (Some times) [] (Sink at) way = refl
one_crosses frame class release came p [] (Eligible e) (Some times) [] Discard way = absurd way
one_crosses frame class release came p (q ∷ path) (Eligible e) (Some times) [] Discard way = absurd way
one_crosses frame class release came p path (Eligible e) None hops ending way = absurd way
one_crosses frame class release came p path (Late e) (Some times) hops ending way = absurd way
one_crosses frame class release came p path (Late e) None hops ending way = refl
one_crosses frame class release came p path Size (Some times) hops ending way = absurd way
one_crosses frame class release came p path Size None hops ending way = refl

-- so along what is left of a way
abbrev CrossesAll : ℕ → Release → Sender → List ℕ → List HopRecord → Ending → Type 0
CrossesAll frame release s path hops ending =
    hops_along frame release s path hops ≡ map sent_over (crossings_along frame release s path hops ending)

nothing_left : (frame : ℕ) (release : Release) (s : Sender) (path : List ℕ) (ending : Ending)
    → CrossesAll frame release s path [] ending
nothing_left frame release s [] ending = refl
nothing_left frame release s (p ∷ path) ending = refl

both_cross : (hops more : List Hop) (crossings later : List Crossing) → hops ≡ map sent_over crossings
    → more ≡ map sent_over later → hops ++ more ≡ map sent_over (crossings ++ later)
both_cross hops more crossings later here rest =
    ap (λ (l : List Hop). l ++ more) here ∙ ap (λ (l : List Hop). map sent_over crossings ++ l) rest
    ∙ sym (map-append sent_over crossings later)

crosses_along : (frame : ℕ) (release : Release) (s : Sender) (path : List ℕ) (hops : List HopRecord) (ending : Ending)
    → IsWay path hops ending → CrossesAll frame release s path hops ending
crosses_along frame release s [] hops ending way = refl
crosses_along frame release s (p ∷ path) [] ending way = refl
crosses_along frame release s (p ∷ path) (hop ∷ hops) ending way =
    both_cross (hop_at p (transmission_of frame release (class_at s p) hop)) (hops_along frame release s path hops)
    (crossing_at release.octets hop.arrival.0 p (transmission_of frame release (class_at s p) hop) hops ending)
    (crossings_along frame release s path hops ending)
    (one_crosses frame (class_at s p) release hop.arrival.0 p path hop.verdict hop.sent hops ending way)
    (way_on (CrossesAll frame release s path hops ending) path hop.verdict hop.sent hops ending
    (crosses_along frame release s path hops ending)
    (λ none. subst (λ (l : List HopRecord). CrossesAll frame release s path l ending) (sym none)
    (nothing_left frame release s path ending)) way)

-- and where there is none
crosses_copy : (frame : ℕ) (release : Release) (s : Sender) (start : Option HopRecord) (path : List ℕ) (leg : Leg)
    → IsCopy start path leg → CrossesAll frame release s path leg.hops leg.ending
crosses_copy frame release s (Some start) path leg copy = crosses_along frame release s path leg.hops leg.ending copy.1
crosses_copy frame release s None path leg copy =
    subst (λ (l : List HopRecord). CrossesAll frame release s path l leg.ending) (sym copy.0)
    (nothing_left frame release s path leg.ending)

-- so along each leg
crosses_over : (frame : ℕ) (release : Release) (s : Sender) (legs : List Leg) (branches : List Branch)
    (paths : List (List ℕ)) (copies : List Leg) → length branches ≡ length paths
    → AllZip (λ (branch : Branch × List ℕ) (leg : Leg). IsCopy (record_at legs branch.0) branch.1 leg)
    (zip branches paths) copies
    → hops_over frame release s paths copies ≡ map sent_over (crossings_over frame release s paths copies)
crosses_over frame release s legs [] [] copies many copied = refl
crosses_over frame release s legs [] (path ∷ paths) copies many copied = absurd (omega arith)
crosses_over frame release s legs (b ∷ branches) [] copies many copied = absurd (omega arith)
crosses_over frame release s legs (b ∷ branches) (path ∷ paths) [] many copied = absurd copied
crosses_over frame release s legs (b ∷ branches) (path ∷ paths) (leg ∷ copies) many copied =
    both_cross (hops_along frame release s path leg.hops) (hops_over frame release s paths copies)
    (crossings_along frame release s path leg.hops leg.ending) (crossings_over frame release s paths copies)
    (crosses_copy frame release s (record_at legs b) path leg copied.0)
    (crosses_over frame release s legs branches paths copies (omega (arith, many)) copied.1)

crosses_legs : (network : DeclaredNetwork) (n : ℕ) (j : Travel) → IsJourney network j
    → journey_hops network n j ≡ map sent_over (journey_crossings network n j)
crosses_legs network n j is =
    let r : Release = j.release in
    let s : Sender = sender_at network r.sender in
    let paths : List (List ℕ) = legs_of s.ports s.branches in
    let rest : List (List ℕ) = drop 1 paths in
    let cons : paths ≡ trunk_of s.ports s.branches ∷ rest = legs_cons s.ports s.branches in
    let many : length s.branches ≡ length rest =
    omega (arith, legs-length 0 s.ports s.branches, ap (λ (l : List (List ℕ)). length l) cons) in
    let Crosses : List (List ℕ) → Type 0 = λ (l : List (List ℕ)). hops_over n r s l (legs_in j)
    ≡ map sent_over (crossings_over n r s l (legs_in j)) in
    subst Crosses (sym cons)
    (both_cross (hops_along n r s (trunk_of s.ports s.branches) j.hops) (hops_over n r s rest j.copies)
    (crossings_along n r s (trunk_of s.ports s.branches) j.hops j.ending) (crossings_over n r s rest j.copies)
    (crosses_along n r s (trunk_of s.ports s.branches) j.hops j.ending is.way)
    (crosses_over n r s (legs_in j) s.branches rest j.copies many is.copies))

crosses_from : (network : DeclaredNetwork) (n : ℕ) (run : List Travel) → All (IsJourney network) run
    → hops_from network n run ≡ map sent_over (crossings_from network n run)
crosses_from network n [] all = refl
crosses_from network n (j ∷ run) all =
    both_cross (journey_hops network n j) (hops_from network (n + 1) run) (journey_crossings network n j)
    (crossings_from network (n + 1) run)
    (crosses_legs network n j (All-head (IsJourney network) j run all))
    (crosses_from network (n + 1) run (All-tail (IsJourney network) j run all))

pub each_crosses : EachTransmissionCrosses
each_crosses network run legal = crosses_from network 0 run legal.journeys
