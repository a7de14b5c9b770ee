use Rattle.std.proofs.Common.{◌<◌, Some, List, ℕ, ap, sym, ◌∙◌, arith}
use Rattle.std.specs.Prelude.{slice_index_or}
use Rattle.ats_streams.specs.Branches.{leg_at, routes_of}
use Rattle.ats_streams.specs.Stream.{DeclaredStream}
use Rattle.ats_network.specs.Edits.{no_stream}
use Rattle.ats_tally.proofs.ListenerLemmas.{listener_name-is, named_after}
use Rattle.ats_tally.proofs.searches.listener_name.Goals as goal

pub returns : goal.returns
returns c =
    let s : DeclaredStream = slice_index_or c.args.network.now.streams c.args.stream no_stream in
    let route : List ℕ = leg_at (routes_of s.ports s.branches) c.args.leg in
    let behind : 0 < c.args.leg = omega (arith, c.if-leg-eq0.false) in
    ap (λ (name : List ℕ). Some name) c.listener.ensures.value
    ∙ sym (listener_name-is c.args.network.now.topology s c.args.leg c.requires.leg
    ∙ named_after c.args.network.now.topology c.args.leg route behind)
