use Rattle.std.proofs.Common.{◌≡◌, ◌≤◌, false, ℕ, List, length, ap, arith}
use Rattle.ats_topology.specs.Topology.{DeclaredTopology, IsTopology}
use Rattle.ats_topology.specs.declared.node.Node.{Node}
use Rattle.ats_network.specs.Path.{IsValidPath}
use Rattle.ats_network_file.specs.Routes.{is_valid}
use Rattle.ats_network_file.proofs.ValidPaths.{valid_passed, valid_passes, valid_short, same_test}
use Rattle.ats_network_file.proofs.routes.is_valid.Goals as goal

-- no path that has as many ports as there are nodes is valid
long_is_none : (topology : DeclaredTopology) (path : List ℕ) (nodes : List Node) → IsTopology topology
    → nodes ≡ topology.nodes → length nodes ≤ length path → IsValidPath topology path → ⊥
long_is_none topology path nodes is same long valid =
    absurd (omega (arith, valid_short topology path is valid, ap length same))

pub returns-then-path-nodes-clause-valid : goal.returns-then-path-nodes-clause-valid
returns-then-path-nodes-clause-valid c = (
  λ h. cc,
  λ valid. absurd (long_is_none c.args.topology.now c.args.path.now c.nodes.result.now c.nodes.ensures.rules
      c.nodes.ensures.value c.if-path-nodes.true valid),
)

pub returns-then-path-nodes-clause-test : goal.returns-then-path-nodes-clause-test
returns-then-path-nodes-clause-test c =
    same_test false (is_valid c.args.topology.now c.args.path.now) (λ h. cc)
    (λ h. absurd (long_is_none c.args.topology.now c.args.path.now c.nodes.result.now c.nodes.ensures.rules
    c.nodes.ensures.value c.if-path-nodes.true (valid_passed c.args.topology.now c.args.path.now h)))

pub returns-clause-test : goal.returns-clause-test
returns-clause-test c =
    same_test c.is_valid_path.result (is_valid c.args.topology.now c.args.path.now)
    (λ h. valid_passes c.args.topology.now c.args.path.now (c.is_valid_path.ensures.0 h))
    (λ h. c.is_valid_path.ensures.1 (valid_passed c.args.topology.now c.args.path.now h))
