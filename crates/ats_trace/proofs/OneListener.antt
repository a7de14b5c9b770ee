-- Where streams have one listener each, a journey is told along the ports of its sender.
use Rattle.std.proofs.Common.{◌≡◌, ℕ, ◌<◌, inl, inr, List, [], ◌∷◌, map, length, All, refl, sym, ap, subst}
use Rattle.std.proofs.Common.{◌∙◌}
use Rattle.std.proofs.lemmas.Bool.{cases_lt}
use Rattle.std.proofs.lemmas.List.{append-nil, get_or_past, nil_from_length}
use Rattle.std.proofs.lemmas.List.Elements.{All-nil, All-cons, All-head, All-tail, All-append}
use Rattle.ats_num.specs.Wire.{IsFrameSize}
use Rattle.ats_streams.specs.Branches.{legs_of, routes_of, trunk_of}
use Rattle.ats_streams.specs.Flow.{DeclaredFlow}
use Rattle.ats_streams.specs.Stream.{DeclaredStream}
use Rattle.ats_streams.specs.declared.branch.Branch.{Branch}
use Rattle.ats_network.specs.Network.{DeclaredNetwork, HasOneListener, senders_of}
use Rattle.ats_network.specs.Sender.{Sender, stream_sender, flow_sender}
use Rattle.ats_network.specs.Senders.{sender_at, no_sender}
use Rattle.ats_trace.specs.Journey.{Leg, Travel, AreCopies, IsJourney, IsReleased, IsWay, legs_in}
use Rattle.ats_trace.specs.Projections.{hops_along, crossings_along, handed_along, hops_over}
use Rattle.ats_trace.specs.Projections.{crossings_over, handed_over}
use Rattle.ats_trace.specs.OneListener.{OneListenerHasOneLeg, NoCopyNoBranch}
use Rattle.ats_trace.specs.Ways.{way_to}
use Rattle.ats_trace.specs.declared.journey.Release.{Release}
use Rattle.ats_trace.proofs.OneVerdict.{copies_many}

-- the sender of a stream has its branches, and that of a flow none

abbrev IsAlone : Sender → Type 0
IsAlone s = s.branches ≡ []

streams_alone : (streams : List DeclaredStream) → All (λ (s : DeclaredStream). s.branches ≡ []) streams
    → All IsAlone (map stream_sender streams)
streams_alone [] all = All-nil IsAlone
streams_alone (s ∷ streams) all =
    All-cons IsAlone (stream_sender s) (map stream_sender streams)
    (All-head (λ (s : DeclaredStream). s.branches ≡ []) s streams all)
    (streams_alone streams (All-tail (λ (s : DeclaredStream). s.branches ≡ []) s streams all))

flows_alone : (flows : List DeclaredFlow) → All IsAlone (map flow_sender flows)
flows_alone [] = All-nil IsAlone
flows_alone (f ∷ flows) = All-cons IsAlone (flow_sender f) (map flow_sender flows) refl (flows_alone flows)

-- where each stream has one listener, no sender has a branch
pub sender_alone : (network : DeclaredNetwork) → HasOneListener network → (i : ℕ)
    → (sender_at network i).branches ≡ []
sender_alone network one i =
    elim (cases_lt i (length (senders_of network))) as (λ _. (sender_at network i).branches ≡ []) [
      | inl within ↦ All-append IsAlone (map stream_sender network.streams) (map flow_sender network.flows)
          (streams_alone network.streams one) (flows_alone network.flows) i no_sender within
      | inr past ↦ ap (λ (s : Sender). s.branches) (get_or_past (senders_of network) i no_sender past)
    ]

-- the trunk has all ports
pub trunk_alone : (sender : Sender) → sender.branches ≡ [] → trunk_of sender.ports sender.branches ≡ sender.ports
trunk_alone sender alone = ap (trunk_of sender.ports) alone

-- and there are no copies
pub copies_alone : (sender : Sender) (j : Travel) → sender.branches ≡ [] → AreCopies sender j → j.copies ≡ []
copies_alone sender j alone copied =
    nil_from_length j.copies
    (copies_many sender j copied ∙ ap (λ (branches : List Branch). length branches) alone)

pub no_copies : (sender : Sender) (j : Travel) → sender.branches ≡ [] → j.copies ≡ [] → AreCopies sender j
no_copies sender j alone none = by sender.branches j.copies alone none
  where
    by : (branches : List Branch) (copies : List Leg) → branches ≡ [] → copies ≡ []
        → AreCopies (record sender { branches = branches }) (record j { copies = copies })
    by [] [] first second = tt
    by [] (c ∷ copies) first second = cc (second)
    by (b ∷ branches) copies first second = cc (first)

-- what is told along legs is told along the ports
pub hops_alone : (frame : ℕ) (release : Release) (sender : Sender) (j : Travel) → sender.branches ≡ []
    → hops_over frame release sender (legs_of sender.ports sender.branches) (legs_in j)
    ≡ hops_along frame release sender sender.ports j.hops
hops_alone frame release sender j alone =
    ap (λ (branches : List Branch). hops_over frame release sender (legs_of sender.ports branches) (legs_in j)) alone
    ∙ append-nil (hops_along frame release sender sender.ports j.hops)

pub crossings_alone : (frame : ℕ) (release : Release) (sender : Sender) (j : Travel) → sender.branches ≡ []
    → crossings_over frame release sender (legs_of sender.ports sender.branches) (legs_in j)
    ≡ crossings_along frame release sender sender.ports j.hops j.ending
crossings_alone frame release sender j alone =
    ap (λ (branches : List Branch). crossings_over frame release sender (legs_of sender.ports branches) (legs_in j))
    alone
    ∙ append-nil (crossings_along frame release sender sender.ports j.hops j.ending)

pub handed_alone : (frame : ℕ) (release : Release) (sender : Sender) (j : Travel) → sender.branches ≡ []
    → handed_over frame release sender (legs_of sender.ports sender.branches) (legs_in j)
    ≡ handed_along frame release sender sender.ports j.hops
handed_alone frame release sender j alone =
    ap (λ (branches : List Branch). handed_over frame release sender (legs_of sender.ports branches) (legs_in j)) alone
    ∙ append-nil (handed_along frame release sender sender.ports j.hops)

-- a journey whose sender has one listener, by what it is along the ports
pub journey_alone : (network : DeclaredNetwork) (j : Travel) → (sender_at network j.release.sender).branches ≡ []
    → j.copies ≡ [] → j.release.sender < length (senders_of network) → IsFrameSize j.release.octets
    → IsWay (sender_at network j.release.sender).ports j.hops j.ending → IsReleased j.release j.hops
    → IsJourney network j
journey_alone network j alone none within octets way released =
    let s : Sender = sender_at network j.release.sender in
    record {
      sender = within;
      octets = octets;
      way = subst (λ (path : List ℕ). IsWay path j.hops j.ending) (sym (trunk_alone s alone)) way;
      released = released;
      copies = no_copies s j alone none;
    }

pub way_alone : (network : DeclaredNetwork) (j : Travel) → (sender_at network j.release.sender).branches ≡ []
    → IsJourney network j → IsWay (sender_at network j.release.sender).ports j.hops j.ending
way_alone network j alone is =
    subst (λ (path : List ℕ). IsWay path j.hops j.ending)
    (trunk_alone (sender_at network j.release.sender) alone) is.way

-- a journey without copies is one of a sender without branches
pub no_branch : (sender : Sender) (j : Travel) → AreCopies sender j → j.copies ≡ [] → sender.branches ≡ []
no_branch sender j copied none =
    nil_from_length sender.branches
    (sym (copies_many sender j copied) ∙ ap (λ (copies : List Leg). length copies) none)

pub no_copy_no_branch : NoCopyNoBranch
no_copy_no_branch network j is none = no_branch (sender_at network j.release.sender) j is.copies none

-- with one listener, all is said of the ports
pub one_leg : OneListenerHasOneLeg
one_leg network j alone =
    let s : Sender = sender_at network j.release.sender in
    record {
      is = (
        λ is. record {
          sender = is.sender;
          octets = is.octets;
          way = way_alone network j alone is;
          released = is.released;
          no_copy = copies_alone s j alone is.copies;
        },
        λ is. journey_alone network j alone is.no_copy is.sender is.octets is.way is.released,
      );
      hops = λ frame. hops_alone frame j.release s j alone;
      crossings = λ frame. crossings_alone frame j.release s j alone;
      handed = λ frame. handed_alone frame j.release s j alone;
      routes = ap (λ (branches : List Branch). routes_of s.ports branches) alone;
      way = ap (λ (branches : List Branch). way_to (record s { branches = branches }) j 0) alone;
    }
