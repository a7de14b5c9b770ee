use Rattle.std.proofs.Common.{ℕ, List, length, ap, arith}
use Rattle.ats_streams.proofs.OneListener.{alone_path}
use Rattle.ats_streams.specs.Path.{IsPath}
use Rattle.ats_streams.specs.Stream.{DeclaredStream}
use Rattle.ats_admission_state.proofs.routes.path_of.Goals as goal

pub returns-clause-few : goal.returns-clause-few
returns-clause-few c =
    let s : DeclaredStream = c.args.stream.now in
    let path : IsPath s.ports = alone_path s.ports s.branches c.requires c.ports.ensures.rules.routes in
    omega (arith, path.most, ap (λ (ports : List ℕ). length ports) c.ports.ensures.value)
