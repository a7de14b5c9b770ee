use Rattle.std.proofs.Common.{◌∙◌, ℕ, ◌*◌, List, length, ap}
use Rattle.std.proofs.lemmas.List.FromFn.{length-map-range_with_len}
use Rattle.ats_network.specs.Network.{DeclaredNetwork}
use Rattle.ats_schedulers.specs.Schedulers.{residence_of}
use Rattle.ats_schedulers.proofs.schedulers.Schedulers.residences.Goals as goal

pub returns-clause-each : goal.returns-clause-each
returns-clause-each c =
    let inside : DeclaredNetwork = c.self.inside.network.now in
    ap (λ (residences : List ℕ). length residences) (c.as_slice.ensures.value ∙ c.self.invariant.groups)
    ∙ length-map-range_with_len (residence_of inside) 0 (8 * length inside.topology.ports)
    ∙ ap (λ (n : DeclaredNetwork). 8 * length n.topology.ports) c.self.view_is
