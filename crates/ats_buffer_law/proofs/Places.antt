use Rattle.std.proofs.Common.{◌≡◌, ◌≢◌, ℕ, zero, suc, ◌<◌, List, [], ◌∷◌, length, get_or, sym, ap, ◌∙◌, subst, arith}
use Rattle.std.specs.List.{AllPairs}
use Rattle.ats_topology.specs.Port.{port_at}
use Rattle.ats_topology.specs.Topology.{DeclaredTopology}
use Rattle.ats_network.specs.Path.{IsValidPath}
use Rattle.ats_network.specs.Bridges.{IsBridgeAt, MeetAtBridge}
use Rattle.ats_network.specs.Senders.{AllNeighbours}
use Rattle.ats_trace.specs.Talker.{start_of}
use Rattle.ats_soundness_law.proofs.OwnFrames.{later_elsewhere}
use Rattle.ats_soundness_law.proofs.Paths.{later_bridges, port_before, port_before-is}

neighbours_at : (R : ℕ → ℕ → Type 0) (path : List ℕ) (k : ℕ) → AllNeighbours R path → suc k < length path
    → R (get_or path k 0) (get_or path (suc k) 0)
neighbours_at R [] k each h = absurd (omega arith)
neighbours_at R (p ∷ []) k each h = absurd (omega arith)
neighbours_at R (p ∷ q ∷ path) zero each h = each.0
neighbours_at R (p ∷ q ∷ path) (suc k) each h = neighbours_at R (q ∷ path) k each.1 (omega arith)

-- a port of a path is the first one, which leaves the node where the path begins, or one behind another, which leaves a
-- bridge, and another node
pub data IsPlaced (topology : DeclaredTopology) (path : List ℕ) (port : ℕ) : Type 0 where
  first : get_or path 0 0 ≡ port → start_of topology.ports path ≡ (port_at topology.ports port).from
      → IsPlaced topology path port
  behind : (k : ℕ) → suc k < length path → get_or path (suc k) 0 ≡ port → port_before port path ≡ get_or path k 0
      → (start_of topology.ports path ≡ (port_at topology.ports port).from → ⊥)
      → IsBridgeAt topology (port_at topology.ports port).from → IsPlaced topology path port

pub placed : (topology : DeclaredTopology) (port : ℕ) (path : List ℕ) (k : ℕ) → IsValidPath topology path
    → AllNeighbours (MeetAtBridge topology) path → AllPairs (λ a b. a ≢ b) path → k < length path
    → get_or path k 0 ≡ port → IsPlaced topology path port
placed topology port [] k valid meet apart h is = absurd (omega arith)
placed topology port (p ∷ path) zero valid meet apart h is =
    first is (ap (λ (q : ℕ). (port_at topology.ports q).from) is)
placed topology port (p ∷ path) (suc k) valid meet apart h is =
    behind k h is
    (sym (neighbours_at (λ a b. b ≡ port → a ≡ port_before port (p ∷ path)) (p ∷ path) k
    (port_before-is port (p ∷ path) apart) h is))
    (λ same. later_elsewhere topology p path valid k 0 (omega arith)
    (same ∙ ap (λ (q : ℕ). (port_at topology.ports q).from) (sym is)))
    (subst (λ (q : ℕ). IsBridgeAt topology (port_at topology.ports q).from) is
    (later_bridges topology p path meet k 0 (omega arith)))
