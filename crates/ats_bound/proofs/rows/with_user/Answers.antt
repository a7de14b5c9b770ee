use Rattle.std.proofs.Common.{◌≡◌, ℕ, List, length, Some, None, sym, ap, ◌∙◌, eqb, arith}
use Rattle.std.specs.List.{position_from}
use Rattle.ats_network.specs.Class.{PortSender}
use Rattle.ats_network.specs.Senders.{sender_at}
use Rattle.ats_tally.specs.Tally.{tally_with}
use Rattle.ats_tally.proofs.Network.{few_ports}
use Rattle.ats_bound.proofs.Hops.{more_at, no_more}
use Rattle.ats_bound.proofs.rows.with_user.Goals as goal

pub overflow_cast-hop : goal.overflow_cast-hop
overflow_cast-hop c =
    let long : length c.sender_ports.result.now ≡ length (sender_at c.args.network.now c.args.sender).ports =
    ap (λ (ports : List ℕ). length ports) c.sender_ports.ensures.value in
    let few = few_ports c.args.network.now c.args.sender c.sender_ports.ensures.rules c.requires.sender in
    omega (arith, long, few, c.in-Some.ensures.within)

pub returns-in-Some : goal.returns-in-Some
returns-in-Some c =
    let at : position_from (λ p. eqb p c.args.port) 0 (sender_at c.args.network.now c.args.sender).ports
    ≡ Some c.in-Some.hop = ap (position_from (λ p. eqb p c.args.port) 0) (sym c.sender_ports.ensures.value)
    ∙ sym c.hop_of.ensures.place ∙ c.in-Some.is in
    c.with_sender.ensures
    ∙ ap (λ (s : PortSender). tally_with c.args.class s c.args.tally) c.at.ensures.seen
    ∙ sym (more_at c.args.network.now.topology c.args.port c.args.class
    (sender_at c.args.network.now c.args.sender) c.args.tally c.in-Some.hop at)

pub returns-in-None : goal.returns-in-None
returns-in-None c =
    let at : position_from (λ p. eqb p c.args.port) 0 (sender_at c.args.network.now c.args.sender).ports ≡ None =
    ap (position_from (λ p. eqb p c.args.port) 0) (sym c.sender_ports.ensures.value)
    ∙ sym c.hop_of.ensures.place ∙ c.in-None.is in
    sym (no_more c.args.network.now.topology c.args.port c.args.class
    (sender_at c.args.network.now c.args.sender) c.args.tally at)
