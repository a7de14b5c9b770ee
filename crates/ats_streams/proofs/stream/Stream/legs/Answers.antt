use Rattle.std.proofs.Common.{◌≡◌, length, ap, ◌∙◌, arith, rules}
use Rattle.ats_streams.specs.Stream.{DeclaredStream}
use Rattle.ats_streams.proofs.BranchLemmas.{legs-length}
use Rattle.ats_streams.proofs.stream.Stream.legs.Goals as goal

pub returns-clause-listeners : goal.returns-clause-listeners
returns-clause-listeners c =
    let inside : c.len.result ≡ length c.self.inside.held.value.branches.items = search rules in
    let many : c.len.result ≡ length c.args.self.now.branches =
    inside ∙ ap (λ (s : DeclaredStream). length s.branches) c.self.view_is in
    omega (arith, many, legs-length 0 c.args.self.now.ports c.args.self.now.branches)
