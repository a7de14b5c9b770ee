use Rattle.std.proofs.Common.{◌≡◌, ◌≤◌, List, length, get_or, ap, sym, ◌∙◌, arith}
use Rattle.std.proofs.lemmas.List.{get_or_default}
use Rattle.ats_streams.specs.Stream.{DeclaredStream}
use Rattle.ats_network.specs.Edits.{no_stream}
use Rattle.ats_network.specs.Listeners.{listeners_of}
use Rattle.ats_network.specs.Network.{DeclaredNetwork}
use Rattle.ats_tally.specs.Reason.{late_for}
use Rattle.ats_tally.proofs.Firsts.{first_end}
use Rattle.ats_tally.proofs.ListenerLemmas.{listeners-length}
use Rattle.ats_tally.proofs.searches.late.Goals as goal

pub returns : goal.returns
returns c =
    let network : DeclaredNetwork = c.args.delays.now.network in
    let s : DeclaredStream = get_or network.streams c.args.stream no_stream in
    let d : DeclaredStream = c.index-streams-stream.result in
    let streams : c.streams.result.now ≡ network.streams =
    c.streams.ensures.value ∙ ap (λ (n : DeclaredNetwork). n.streams) c.network.ensures.value in
    let item : d ≡ s =
    c.index-streams-stream.is
    ∙ ap (λ (streams : List DeclaredStream). get_or streams c.args.stream d) streams
    ∙ get_or_default network.streams c.args.stream d no_stream c.requires in
    let past : length (listeners_of network.topology s) ≤ c.loop-leg.leg = omega (
      arith,
      listeners-length network.topology s,
      c.loop-leg-test.false,
      c.legs-leg-end.ensures.value,
      ap (λ (s : DeclaredStream). length s.branches) item,
    ) in
    sym (c.loop-leg.invariant
    ∙ first_end (late_for c.args.delays.now.rows s) (listeners_of network.topology s) c.loop-leg.leg past)
