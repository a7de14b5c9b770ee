use Rattle.std.proofs.Common.{sym, subst, arith}
use Rattle.ats_network.specs.Senders.{sender_at}
use Rattle.ats_settings.specs.Before.{IsFrom}
use Rattle.ats_settings.proofs.BeforeLemmas.{comes_behind, few_ports, starts_there}
use Rattle.ats_settings.proofs.before.place_before.Goals as goal

pub returns-then-from-eq0-clause-before : goal.returns-then-from-eq0-clause-before
returns-then-from-eq0-clause-before c =
    sym (starts_there c.args.network.now c.args.sender c.args.place c.place_from-from.ensures.rules c.requires.sender
    (subst (IsFrom (sender_at c.args.network.now c.args.sender).branches c.args.place)
    (omega (arith, c.if-from-eq0.true)) c.place_from-from.ensures.from))

pub overflow_cast-result : goal.overflow_cast-result
overflow_cast-result c = omega (
  arith,
  (comes_behind c.args.network.now c.args.sender c.args.place c.place_from-from.result
      c.place_from-from.ensures.rules c.requires.sender c.requires.place c.place_from-from.ensures.from
      (omega (arith, c.if-from-eq0.false))).within,
  few_ports c.args.network.now c.args.sender c.place_from-from.ensures.rules c.requires.sender,
)

pub returns-clause-within : goal.returns-clause-within
returns-clause-within c =
    (comes_behind c.args.network.now c.args.sender c.args.place c.place_from-from.result
    c.place_from-from.ensures.rules c.requires.sender c.requires.place c.place_from-from.ensures.from
    (omega (arith, c.if-from-eq0.false))).within

pub returns-clause-before : goal.returns-clause-before
returns-clause-before c =
    sym (comes_behind c.args.network.now c.args.sender c.args.place c.place_from-from.result
    c.place_from-from.ensures.rules c.requires.sender c.requires.place c.place_from-from.ensures.from
    (omega (arith, c.if-from-eq0.false))).is
