-- What a port sends of one frame, along one leg after another.
use Rattle.std.proofs.Common.{◌≡◌, ◌≢◌, ◌∙◌, ℕ, zero, suc, ◌+◌, ◌<◌, ◌≤◌, false, List, [], ◌∷◌, ◌++◌, length, drop, map}
use Rattle.std.proofs.Common.{refl, sym, ap, subst, eqb, Option, Some, None, arith, append_assoc}
use Rattle.std.specs.List.{All, AllPairs, AllZip, concat, position_from}
use Rattle.std.proofs.lemmas.List.{append-nil, drop_all, drop_more, map-append}
use Rattle.std.proofs.lemmas.List.Elements.{All-cons, All-head, All-nil, All-tail}
use Rattle.ats_topology.proofs.PositionLemmas.{all_fail}
use Rattle.ats_streams.specs.Branches.{branches_of, leg_at}
use Rattle.ats_streams.specs.declared.branch.Branch.{Branch}
use Rattle.ats_streams.proofs.BranchLemmas.{legs-length}
use Rattle.ats_network.specs.Network.{DeclaredNetwork, IsNetwork, senders_of}
use Rattle.ats_network.specs.Sender.{Sender}
use Rattle.ats_network.specs.Senders.{IsSender, sender_at}
use Rattle.ats_network.proofs.SenderLemmas.{sender_keeps}
use Rattle.ats_port_rule.specs.Transmission.{Transmission}
use Rattle.ats_trace.specs.Journey.{IsCopy, IsJourney, Leg, Travel, legs_at, legs_in, no_leg, record_at, trunk_at}
use Rattle.ats_trace.specs.Projections.{hops_along, hops_over}
use Rattle.ats_trace.specs.Stored.{leg_in, travel_at}
use Rattle.ats_trace.specs.HopRecord.{HopRecord}
use Rattle.ats_trace.specs.declared.journey.Release.{Release}
use Rattle.ats_trace.proofs.Legs.{concat-legs_of, legs_keep, pairs_left, pairs_right}
use Rattle.ats_trace.proofs.OneVerdict.{copies_many}
use Rattle.ats_port_capture.specs.Sightings.{sent_in, sent_of, sighting_of}
use Rattle.ats_port_capture.specs.declared.sighting.Sighting.{Sighting}
use Rattle.ats_port_capture.proofs.Along.{AgreesAt, none_along, picked, picked-append, way_agrees}

-- no port stands twice in a leg
legs_apart : (paths : List (List ℕ)) (leg : ℕ) → AllPairs (λ p q. p ≢ q) (concat paths) → leg < length paths
    → AllPairs (λ p q. p ≢ q) (leg_at paths leg)
legs_apart [] leg apart within = absurd (omega arith)
legs_apart (path ∷ paths) zero apart within = pairs_left (λ p q. p ≢ q) path (concat paths) apart
legs_apart (path ∷ paths) (suc leg) apart within =
    legs_apart paths leg (pairs_right (λ p q. p ≢ q) path (concat paths) apart) (omega arith)

pub leg_apart : (network : DeclaredNetwork) (sender leg : ℕ) → IsNetwork network → sender < length (senders_of network)
    → leg < length (legs_at network sender) → AllPairs (λ p q. p ≢ q) (leg_at (legs_at network sender) leg)
leg_apart network sender leg net there within =
    let s : Sender = sender_at network sender in
    let keeps : IsSender network.topology s = sender_keeps network sender net there in
    legs_apart (legs_at network sender) leg
    (subst (AllPairs (λ p q. p ≢ q)) (sym (concat-legs_of s.ports s.branches keeps.branches)) keeps.apart) within

-- a frame has as many legs as its sender
pub as_many : (network : DeclaredNetwork) (j : Travel) → IsJourney network j
    → length (legs_in j) ≡ length (legs_at network j.release.sender)
as_many network j is =
    let s : Sender = sender_at network j.release.sender in
    omega (arith, copies_many s j is.copies, legs-length 0 s.ports s.branches)

-- each record of each leg has the times of a transmission where its frame was eligible, and none elsewhere

abbrev Agree : Leg → Type 0
Agree leg = All AgreesAt leg.hops

copy_agrees : (start : Option HopRecord) (path : List ℕ) (leg : Leg) → IsCopy start path leg → Agree leg
copy_agrees (Some start) path leg copy = way_agrees path leg.hops leg.ending copy.1
copy_agrees None path leg copy = subst (All AgreesAt) (sym copy.0) (All-nil AgreesAt)

copies_agree : (legs : List Leg) (branches : List (Branch × List ℕ)) (copies : List Leg)
    → AllZip (λ (branch : Branch × List ℕ) (leg : Leg). IsCopy (record_at legs branch.0) branch.1 leg) branches copies
    → All Agree copies
copies_agree legs [] [] zipped = All-nil Agree
copies_agree legs [] (c ∷ copies) zipped = absurd zipped
copies_agree legs (b ∷ branches) [] zipped = absurd zipped
copies_agree legs (b ∷ branches) (c ∷ copies) zipped =
    All-cons Agree c copies (copy_agrees (record_at legs b.0) b.1 c zipped.0)
    (copies_agree legs branches copies zipped.1)

pub legs_agree : (network : DeclaredNetwork) (j : Travel) → IsJourney network j
    → All (λ (leg : Leg). All AgreesAt leg.hops) (legs_in j)
legs_agree network j is =
    let s : Sender = sender_at network j.release.sender in
    All-cons Agree (record { hops = j.hops; ending = j.ending }) j.copies
    (way_agrees (trunk_at network j.release.sender) j.hops j.ending is.way)
    (copies_agree (legs_in j) (branches_of s.ports s.branches) j.copies is.copies)

-- where no leg has the port, it sends nothing
none_over : (port frame : ℕ) (release : Release) (s : Sender) (paths : List (List ℕ)) (legs : List Leg)
    → All (All (λ p. eqb p port ≡ false)) paths → picked port (hops_over frame release s paths legs) ≡ []
none_over port frame release s [] legs none = refl
none_over port frame release s (path ∷ paths) [] none = refl
none_over port frame release s (path ∷ paths) (leg ∷ legs) none =
    picked-append port (hops_along frame release s path leg.hops) (hops_over frame release s paths legs)
    ∙ ap (λ (l : List Transmission). l ++ picked port (hops_over frame release s paths legs))
    (none_along port frame release s path leg.hops (All-head (All (λ p. eqb p port ≡ false)) path paths none))
    ∙ none_over port frame release s paths legs (All-tail (All (λ p. eqb p port ≡ false)) path paths none)

-- a frame whose sender does not have the port is not sent there
pub nothing_kept : (network : DeclaredNetwork) (run : List Travel) (port frame sender : ℕ) (ports : List ℕ)
    → sender ≡ (travel_at run frame).release.sender → ports ≡ (sender_at network sender).ports
    → position_from (λ p. eqb p port) 0 ports ≡ None
    → map (sighting_of run) (sent_of network port frame (travel_at run frame)) ≡ []
nothing_kept network run port frame sender ports same ports_are none =
    let j : Travel = travel_at run frame in
    let s : Sender = sender_at network j.release.sender in
    let are : ports ≡ s.ports = ports_are ∙ ap (λ (i : ℕ). (sender_at network i).ports) same in
    ap (map (sighting_of run)) (none_over port frame j.release s (legs_at network j.release.sender) (legs_in j)
    (legs_keep (λ p. eqb p port ≡ false) 0 s.ports s.branches
    (subst (All (λ p. eqb p port ≡ false)) are (all_fail (λ p. eqb p port) 0 ports none))))

-- what is kept of a frame along its legs from this one on
abbrev pub kept_over : DeclaredNetwork → List Travel → ℕ → ℕ → ℕ → List Sighting
kept_over network run port frame leg =
    map (sighting_of run) (picked port (hops_over frame (travel_at run frame).release
    (sender_at network (travel_at run frame).release.sender)
    (drop leg (legs_at network (travel_at run frame).release.sender)) (drop leg (legs_in (travel_at run frame)))))

-- what is so far, and that of the legs that are left, is that of the frame behind what was before
abbrev pub AreSoFar : DeclaredNetwork → List Travel → ℕ → ℕ → ℕ → List Sighting → List Sighting → Type 0
AreSoFar network run port frame leg before sent =
    sent ++ kept_over network run port frame leg
    ≡ before ++ map (sighting_of run) (sent_of network port frame (travel_at run frame))

over_next : (network : DeclaredNetwork) (run : List Travel) (port frame leg : ℕ)
    → IsJourney network (travel_at run frame) → leg < length (legs_in (travel_at run frame))
    → kept_over network run port frame leg
    ≡ map (sighting_of run) (sent_in network port frame (travel_at run frame) leg)
    ++ kept_over network run port frame (leg + 1)
over_next network run port frame leg is within =
    ap (λ (ls : List Leg). kept (drop leg paths) ls) (drop_more (legs_in j) leg no_leg within)
    ∙ ap (λ (ps : List (List ℕ)). kept ps (leg_in j leg ∷ drop (leg + 1) (legs_in j)))
    (drop_more paths leg [] (omega (arith, as_many network j is)))
    ∙ ap (map (sighting_of run)) (picked-append port
    (hops_along frame j.release s (leg_at paths leg) (leg_in j leg).hops)
    (hops_over frame j.release s (drop (leg + 1) paths) (drop (leg + 1) (legs_in j))))
    ∙ map-append (sighting_of run) (sent_in network port frame j leg)
    (picked port (hops_over frame j.release s (drop (leg + 1) paths) (drop (leg + 1) (legs_in j))))
  where
    j : Travel
    j = travel_at run frame

    s : Sender
    s = sender_at network j.release.sender

    paths : List (List ℕ)
    paths = legs_at network j.release.sender

    kept : List (List ℕ) → List Leg → List Sighting
    kept ps ls = map (sighting_of run) (picked port (hops_over frame j.release s ps ls))

-- one leg more
pub leg_more : (network : DeclaredNetwork) (run : List Travel) (port frame leg : ℕ) (before old new : List Sighting)
    → IsJourney network (travel_at run frame) → leg < length (legs_in (travel_at run frame))
    → new ≡ old ++ map (sighting_of run) (sent_in network port frame (travel_at run frame) leg)
    → AreSoFar network run port frame leg before old → AreSoFar network run port frame (leg + 1) before new
leg_more network run port frame leg before old new is within grown so_far =
    let here : List Sighting = map (sighting_of run) (sent_in network port frame (travel_at run frame) leg) in
    ap (λ (l : List Sighting). l ++ kept_over network run port frame (leg + 1)) grown
    ∙ append_assoc old here (kept_over network run port frame (leg + 1))
    ∙ ap (λ (l : List Sighting). old ++ l) (sym (over_next network run port frame leg is within))
    ∙ so_far

none_left : (port frame : ℕ) (release : Release) (s : Sender) (paths : List (List ℕ))
    → picked port (hops_over frame release s paths []) ≡ []
none_left port frame release s [] = refl
none_left port frame release s (path ∷ paths) = refl

-- and all of them
pub legs_over : (network : DeclaredNetwork) (run : List Travel) (port frame leg : ℕ) (before sent : List Sighting)
    → length (legs_in (travel_at run frame)) ≤ leg → AreSoFar network run port frame leg before sent
    → sent ≡ before ++ map (sighting_of run) (sent_of network port frame (travel_at run frame))
legs_over network run port frame leg before sent over so_far =
    let j : Travel = travel_at run frame in
    let s : Sender = sender_at network j.release.sender in
    let paths : List (List ℕ) = legs_at network j.release.sender in
    let none : kept_over network run port frame leg ≡ [] =
    ap (λ (ls : List Leg). map (sighting_of run) (picked port (hops_over frame j.release s (drop leg paths) ls)))
    (drop_all leg (legs_in j) over)
    ∙ ap (map (sighting_of run)) (none_left port frame j.release s (drop leg paths)) in
    sym (append-nil sent) ∙ ap (λ (l : List Sighting). sent ++ l) (sym none) ∙ so_far
