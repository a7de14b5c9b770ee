-- The legs of a frame: how many there are, their ports, and the lines of one copy more.
use Rattle.std.proofs.Common.{◌≡◌, ◌∙◌, ℕ, zero, suc, ◌+◌, ◌-◌, ◌<◌, ◌≤◌, List, [], ◌∷◌, ◌++◌, length, get_or, take}
use Rattle.std.proofs.Common.{sym, ap, arith, append_assoc, Option, Some, None}
use Rattle.std.specs.Prelude.{codes}
use Rattle.std.specs.List.{enumerate_from, flat_map}
use Rattle.std.proofs.lemmas.List.{flat_map_more, take_all, take_more}
use Rattle.std.proofs.lemmas.List.FromFn.{length-enumerate_from, get_or-enumerate_from}
use Rattle.ats_streams.specs.Branches.{leg_at, legs_of, no_branch}
use Rattle.ats_streams.proofs.BranchLemmas.{legs-length}
use Rattle.ats_topology.specs.Topology.{DeclaredTopology}
use Rattle.ats_topology.specs.Walks.{ArePorts}
use Rattle.ats_network.specs.Listeners.{station_of}
use Rattle.ats_network.specs.Network.{DeclaredNetwork, IsNetwork}
use Rattle.ats_network.specs.Sender.{Sender}
use Rattle.ats_network.specs.Senders.{IsSender, sender_at}
use Rattle.ats_network.proofs.SenderLemmas.{sender_keeps}
use Rattle.ats_trace.specs.Journey.{IsCopy, IsJourney, Leg, Travel, legs_at, legs_in, no_leg, record_at}
use Rattle.ats_trace.specs.Stored.{leg_in}
use Rattle.ats_trace.specs.Ways.{route_to}
use Rattle.ats_trace.specs.HopRecord.{HopRecord}
use Rattle.ats_trace.proofs.Legs.{legs_keep}
use Rattle.ats_trace.proofs.OneVerdict.{copies_many}
use Rattle.ats_route_law.proofs.Ends.{leg_some, station_at_end}
use Rattle.ats_route_law.proofs.Leads.{copy_at}
use Rattle.ats_replay.specs.Departures.{copy_text, frame_line, journey_text, leg_lines, station_line}
use Rattle.ats_replay.proofs.Journeys.{way_fits}

-- the sender of a frame
abbrev pub sender_of : DeclaredNetwork → Travel → Sender
sender_of network j = sender_at network j.release.sender

-- a frame has a leg for its trunk, and one for each branch of its sender
pub legs_many : (network : DeclaredNetwork) (j : Travel) → IsJourney network j
    → length (legs_in j) ≡ suc (length (sender_of network j).branches)
legs_many network j is = ap suc (copies_many (sender_of network j) j is.copies)

-- so a leg of the frame is one of its sender
pub leg_listed : (network : DeclaredNetwork) (j : Travel) (leg : ℕ) → IsJourney network j → leg < length (legs_in j)
    → leg ≤ length (sender_of network j).branches
leg_listed network j leg is within = omega (arith, legs_many network j is, within)

-- the ports of a leg are ports
pub leg_ports : (network : DeclaredNetwork) (j : Travel) (leg : ℕ) → IsNetwork network → IsJourney network j
    → leg < length (legs_in j)
    → ArePorts network.topology.ports (leg_at (legs_at network j.release.sender) leg)
leg_ports network j leg rules is within =
    let s : Sender = sender_of network j in
    let keeps : IsSender network.topology s = sender_keeps network j.release.sender rules is.sender in
    legs_keep (λ p. p < length network.topology.ports) 0 s.ports s.branches keeps.ports leg []
    (omega (arith, legs-length 0 s.ports s.branches, legs_many network j is, within))

-- and there is one
pub leg_has_port : (network : DeclaredNetwork) (j : Travel) (leg : ℕ) → IsNetwork network → IsJourney network j
    → leg < length (legs_in j) → 0 < length (leg_at (legs_at network j.release.sender) leg)
leg_has_port network j leg rules is within =
    leg_some network.topology (sender_of network j) leg (sender_keeps network j.release.sender rules is.sender)
    (leg_listed network j leg is within)

copy_fits : (start : Option HopRecord) (path : List ℕ) (leg : Leg) → IsCopy start path leg
    → length leg.hops ≤ length path
copy_fits (Some start) path leg copy = way_fits path leg.hops leg.ending copy.1
copy_fits None path leg copy =
    let none : length leg.hops ≡ 0 = ap (λ (hops : List HopRecord). length hops) copy.0 in omega (arith, none)

-- a frame has no more records along a leg than the leg has ports
pub leg_fits : (network : DeclaredNetwork) (j : Travel) (leg : ℕ) → IsJourney network j → leg < length (legs_in j)
    → length (leg_in j leg).hops ≤ length (leg_at (legs_at network j.release.sender) leg)
leg_fits network j zero is within = way_fits (leg_at (legs_at network j.release.sender) 0) j.hops j.ending is.way
leg_fits network j (suc n) is within =
    let s : Sender = sender_of network j in
    copy_fits (record_at (legs_in j) (get_or s.branches n no_branch)) (leg_at (legs_of s.ports s.branches) (suc n))
    (get_or j.copies n no_leg)
    (copy_at s j n is.copies (omega (arith, legs_many network j is, within)))

-- a copy is named after the station to which its leg leads
pub copy_station : (network : DeclaredNetwork) (j : Travel) (leg : ℕ) → IsNetwork network → IsJourney network j
    → leg < length (legs_in j)
    → station_of network.topology (leg_at (legs_at network j.release.sender) leg)
    ≡ station_of network.topology (route_to (sender_of network j) leg)
copy_station network j leg rules is within =
    sym (station_at_end network.topology (sender_of network j) leg
    (sender_keeps network j.release.sender rules is.sender) (leg_listed network j leg is within))

named_alike : (topology : DeclaredTopology) (path route : List ℕ) → station_of topology path ≡ station_of topology route
    → station_line topology path ≡ station_line topology route
unfolding station_line
named_alike topology path route same = ap (λ (name : List ℕ). codes "listener " ++ name ++ codes "\n") same

-- the lines of a copy, where its station was named by its leg
pub copy_written : (network : DeclaredNetwork) (j : Travel) (leg : ℕ) (path x one two : List ℕ) → IsNetwork network
    → IsJourney network j → leg < length (legs_in j) → path ≡ leg_at (legs_at network j.release.sender) leg
    → one ≡ x ++ station_line network.topology path
    → two ≡ one ++ leg_lines network.topology (leg_at (legs_at network j.release.sender) leg) (leg_in j leg)
    → two ≡ x ++ copy_text network.topology (sender_of network j) (leg, leg_in j leg)
copy_written network j leg path x one two rules is within along named lines =
    let own : List ℕ = leg_at (legs_at network j.release.sender) leg in
    let route : List ℕ = route_to (sender_of network j) leg in
    let behind : List ℕ = leg_lines network.topology own (leg_in j leg) in
    lines
    ∙ ap (λ (t : List ℕ). t ++ behind) (named ∙ ap (λ (p : List ℕ). x ++ station_line network.topology p) along
    ∙ ap (λ (t : List ℕ). x ++ t) (named_alike network.topology own route (copy_station network j leg rules is within)))
    ∙ append_assoc x (station_line network.topology route) behind

-- the lines of the copies, as far as the leg with a number
abbrev pub copies_to : DeclaredTopology → Sender → Travel → ℕ → List ℕ
copies_to topology s j leg = flat_map (copy_text topology s) (take (leg - 1) (enumerate_from 1 j.copies))

-- the lines of the next copy
pub next_copy : (topology : DeclaredTopology) (s : Sender) (j : Travel) (leg : ℕ) (x before after : List ℕ) → 1 ≤ leg
    → leg < length (legs_in j) → before ≡ x ++ copies_to topology s j leg
    → after ≡ before ++ copy_text topology s (leg, leg_in j leg) → after ≡ x ++ copies_to topology s j (leg + 1)
next_copy topology s j zero x before after some within so_far line = absurd (omega arith)
next_copy topology s j (suc n) x before after some within so_far line =
    let numbered : List (ℕ × Leg) = enumerate_from 1 j.copies in
    let own : n < length j.copies = omega (arith, within) in
    let here : get_or numbered n (0, no_leg) ≡ (suc n, leg_in j (suc n)) =
    get_or-enumerate_from 1 j.copies n (0, no_leg) own
    ∙ ap (λ (k : ℕ). (k, get_or j.copies n no_leg)) (omega arith) in
    let back : suc n - 1 ≡ n = omega arith in
    let next : (suc n + 1) - 1 ≡ n + 1 = omega arith in
    let more : take (n + 1) numbered ≡ take n numbered ++ (suc n, leg_in j (suc n)) ∷ [] =
    take_more numbered n (0, no_leg) (omega (arith, length-enumerate_from 1 j.copies, own))
    ∙ ap (λ (p : ℕ × Leg). take n numbered ++ p ∷ []) here in
    line
    ∙ ap (λ (t : List ℕ). t ++ copy_text topology s (suc n, leg_in j (suc n)))
    (so_far ∙ ap (λ (k : ℕ). x ++ flat_map (copy_text topology s) (take k numbered)) back)
    ∙ flat_map_more (copy_text topology s) x (take n numbered) (suc n, leg_in j (suc n))
    ∙ sym (ap (λ (l : List (ℕ × Leg)). x ++ flat_map (copy_text topology s) l) more)
    ∙ sym (ap (λ (k : ℕ). x ++ flat_map (copy_text topology s) (take k numbered)) next)

-- all copies are those of so many legs
pub all_copies : (topology : DeclaredTopology) (s : Sender) (j : Travel) (leg : ℕ) (x text : List ℕ)
    → length (legs_in j) ≤ leg → text ≡ x ++ copies_to topology s j leg
    → text ≡ x ++ flat_map (copy_text topology s) (enumerate_from 1 j.copies)
all_copies topology s j leg x text end written =
    written ∙ ap (λ (l : List (ℕ × Leg)). x ++ flat_map (copy_text topology s) l)
    (take_all (leg - 1) (enumerate_from 1 j.copies) (omega (arith, length-enumerate_from 1 j.copies, end)))

-- the lines of a frame: of its release, of its trunk, and of its copies
pub journey_written : (network : DeclaredNetwork) (frame leg : ℕ) (j : Travel) (x one two three : List ℕ)
    → length (legs_in j) ≤ leg → one ≡ x ++ frame_line network frame j.release
    → two ≡ one ++ leg_lines network.topology (leg_at (legs_at network j.release.sender) 0) (leg_in j 0)
    → three ≡ two ++ copies_to network.topology (sender_of network j) j leg
    → three ≡ x ++ journey_text network (frame, j)
unfolding journey_text
journey_written network frame leg j x one two three end first trunk copies =
    let s : Sender = sender_of network j in
    let a : List ℕ = frame_line network frame j.release in
    let b : List ℕ = leg_lines network.topology (leg_at (legs_at network j.release.sender) 0) (leg_in j 0) in
    let c : List ℕ = flat_map (copy_text network.topology s) (enumerate_from 1 j.copies) in
    all_copies network.topology s j leg two three end copies
    ∙ ap (λ (t : List ℕ). t ++ c) (trunk ∙ ap (λ (t : List ℕ). t ++ b) first)
    ∙ joined x a b c
  where
    joined : (x a b c : List ℕ) → ((x ++ a) ++ b) ++ c ≡ x ++ (a ++ b ++ c)
    joined x a b c = simp append_assoc
