use Rattle.std.proofs.Common.{◌≡◌, ℕ, List, Some, None, slice_index_or, sym, ap, ◌∙◌, eqb}
use Rattle.std.specs.List.{position_from}
use Rattle.ats_network.specs.Sender.{stream_sender}
use Rattle.ats_bound.proofs.Hops.{user_at, no_user}
use Rattle.ats_bound.proofs.rows.is_user.Goals as goal

pub returns-in-Some : goal.returns-in-Some
returns-in-Some c =
    let at : position_from (λ p. eqb p c.args.port) 0 c.args.stream.now.ports ≡ Some c.in-Some.hop =
    ap (position_from (λ p. eqb p c.args.port) 0) (sym c.ports.ensures.value)
    ∙ sym c.hop_of.ensures.place ∙ c.in-Some.is in
    ap (λ (classes : List ℕ). eqb (slice_index_or classes c.in-Some.hop 0) c.args.class) c.classes.ensures.value
    ∙ sym (user_at c.args.port c.args.class (stream_sender c.args.stream.now) c.in-Some.hop
    c.ports.ensures.rules.each_port at)

pub returns-in-None : goal.returns-in-None
returns-in-None c =
    let at : position_from (λ p. eqb p c.args.port) 0 c.args.stream.now.ports ≡ None =
    ap (position_from (λ p. eqb p c.args.port) 0) (sym c.ports.ensures.value)
    ∙ sym c.hop_of.ensures.place ∙ c.in-None.is in
    sym (no_user c.args.port c.args.class (stream_sender c.args.stream.now) at)
