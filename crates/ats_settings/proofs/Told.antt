-- What a setting tells of the scheduler that judges a stream's frames.
use Rattle.std.proofs.Common.{◌≡◌, ℕ, ◌+◌, ◌-◌, List, length, map, Some, None, cond, Bool, sym, ap, subst, arith, ◌∙◌}
use Rattle.std.proofs.Common.{refl}
use Rattle.std.proofs.Common.{◌<◌, get_or, length-append}
use Rattle.std.proofs.lemmas.Bool.{lt-ltb}
use Rattle.std.proofs.lemmas.List.{length-map}
use Rattle.ats_streams.specs.Branches.{first_from}
use Rattle.ats_group.specs.GroupsState.{member_at}
use Rattle.ats_group.specs.declared.member.Member.{Member}
use Rattle.ats_network.specs.Network.{DeclaredNetwork, IsNetwork, senders_of}
use Rattle.ats_network.specs.Sender.{Sender, stream_sender, flow_sender}
use Rattle.ats_network.specs.Senders.{IsSender, sender_at}
use Rattle.ats_network.proofs.SenderLemmas.{sender_keeps}
use Rattle.ats_schedulers.specs.Schedulers.{IsHop, leg_ports, member_behind, members_of, scheduler_of}
use Rattle.ats_schedulers.proofs.LegPlaces.{IsLeg, leg_is}
use Rattle.ats_schedulers.proofs.Places.{scheduler_there}
use Rattle.ats_settings.specs.Before.{IsFrom}
use Rattle.ats_settings.specs.Laws.{SchedulersAreTold, Tells}
use Rattle.ats_settings.specs.Settings.{port_at_place, shaping_of}
use Rattle.ats_settings.proofs.BeforeLemmas.{ComesFrom, comes_from, some_port_of}
use Rattle.ats_settings.proofs.Places.{setting_from, setting_is}

-- a stream is a sender
is_sender : (network : DeclaredNetwork) (stream leg hop : ℕ) → IsHop network stream leg hop
    → stream < length (senders_of network)
is_sender network stream leg hop is =
    let streams : List Sender = map stream_sender network.streams in
    let flows : List Sender = map flow_sender network.flows in
    let long : length streams ≡ length network.streams = length-map network.streams stream_sender in
    omega (arith, is.exists, long, length-append streams flows)

-- the port in front of a hop of a leg, by its place among those of the stream
port_in_front : (network : DeclaredNetwork) (stream leg hop : ℕ) → IsNetwork network → IsHop network stream leg hop
    → get_or (leg_ports network stream leg) (hop - 1) 0
    ≡ port_at_place network stream (first_from 0 (sender_at network stream).branches leg + hop - 1)
port_in_front network stream leg hop is at =
    let s : Sender = sender_at network stream in
    let exists = is_sender network stream leg hop at in
    let keeps : IsSender network.topology s = sender_keeps network stream is exists in
    let leg_has : IsLeg s.ports (leg_ports network stream leg) (first_from 0 s.branches leg) =
    leg_is s.ports s.branches leg keeps.branches (some_port_of network stream is exists) at.of_stream in
    let place : first_from 0 s.branches leg + (hop - 1) ≡ first_from 0 s.branches leg + hop - 1 =
    omega (arith, at.later) in
    sym (leg_has.port (hop - 1) (omega (arith, at.later, at.within)))
    ∙ ap (λ (p : ℕ). port_at_place network stream p) place

pub schedulers_are_told : SchedulersAreTold
schedulers_are_told network stream leg hop place is on =
    let s : Sender = sender_at network stream in
    let before : ℕ = first_from 0 s.branches leg + hop - 1 in
    let next : first_from 0 s.branches leg + hop ≡ before + 1 = omega (arith, on.judged.later) in
    let from : ComesFrom network stream place before =
    comes_from network stream place before is (is_sender network stream leg hop on.judged) on.within
    (subst (IsFrom s.branches place) next on.from) in
    let there : member_at (members_of network) (scheduler_of network stream leg hop)
    ≡ member_behind network.topology s (port_at_place network stream before) =
    scheduler_there network stream leg hop on.judged
    ∙ ap (member_behind network.topology s) (port_in_front network stream leg hop is on.judged) in
    subst (λ x. Tells network x (member_at (members_of network) (scheduler_of network stream leg hop)))
    (sym (setting_is network stream place before from))
    (subst (λ (m : Member). Tells network (setting_from network stream place (port_at_place network stream before)) m)
    (sym there) (record {
      group = refl;
      scheduler = ap (λ (t : Bool). cond t
          (Some (shaping_of network (member_behind network.topology s (port_at_place network stream before)))) None)
          (lt-ltb stream (length network.streams) on.judged.exists);
    }))
