use Rattle.std.proofs.Common.{true≢false, sym, ap, ◌∙◌}
use Rattle.ats_streams.specs.Traffic.{is_declared_size}
use Rattle.ats_network.specs.Sender.{Sender, declared_of}
use Rattle.ats_conform.specs.Releases.{no_release, release_at}
use Rattle.ats_conform.proofs.Judged.{size-broken}
use Rattle.ats_conform.proofs.conformance.judge_size.Goals as goal

pub returns-clause-broken : goal.returns-clause-broken
returns-clause-broken c =
    size-broken c.args.network.now c.args.releases.now c.args.place c.requires.place c.requires.before
    (c.requires.releases.each c.args.place no_release c.requires.place).sender
    (λ sized. true≢false (sym sized
    ∙ ap (λ (s : Sender). is_declared_size (declared_of s) (release_at c.args.releases.now c.args.place).octets)
    (sym c.sender.ensures.value)
    ∙ sym c.allows.ensures ∙ c.if-allows.false))
