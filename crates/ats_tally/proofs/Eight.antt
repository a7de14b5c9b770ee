-- The eight shares of a port, and values by class.
use Rattle.std.proofs.Common.{◌≡◌, ◌≢◌, ℕ, ◌<◌, ◌≤◌, List, length, set, Some, sym, ap, ◌∙◌, arith, length-set}
use Rattle.std.specs.Prelude.{slice_get}
use Rattle.std.specs.List.{All}
use Rattle.std.proofs.lemmas.Grind.{get_or-set_at}
use Rattle.std.proofs.lemmas.List.{get_or-set_other}
use Rattle.std.proofs.lemmas.Option.{slice_get-get_or}
use Rattle.ats_class_table.specs.Table.{AreValuesAt, Table}
use Rattle.ats_topology.specs.Topology.{DeclaredTopology}
use Rattle.ats_network.specs.Class.{PortSender}
use Rattle.ats_network.specs.Network.{DeclaredNetwork, IsNetwork, senders_of}
use Rattle.ats_network.specs.Sender.{Sender}
use Rattle.ats_network.proofs.SenderLemmas.{each_is_sender}
use Rattle.ats_certificate.specs.PortSums.{senders_at}
use Rattle.ats_tally.proofs.SeenLemmas.{all_seen}
use Rattle.ats_tally.specs.Shares.{AreShares, AreSharesAt}
use Rattle.ats_tally.specs.declared.share.Share.{Share}

-- what stands at a place of a list where a value was put, and elsewhere
pub got_here : {X : Type 0} (xs : List X) (i k : ℕ) (x : X) → i < length xs → k ≡ i
    → slice_get (set xs i x) k ≡ Some x
got_here xs i k x within same =
    slice_get-get_or (set xs i x) k x (omega (arith, length-set xs i x, within, same))
    ∙ ap Some (get_or-set_at xs i k x x same within)

pub got_else : {X : Type 0} (xs : List X) (i k : ℕ) (x : X) → k < length xs → k ≢ i
    → slice_get (set xs i x) k ≡ slice_get xs k
got_else xs i k x within other =
    slice_get-get_or (set xs i x) k x (omega (arith, length-set xs i x, within))
    ∙ ap Some (get_or-set_other xs i k x x other)
    ∙ sym (slice_get-get_or xs k x within)

-- the values at a port are the shares of its classes
pub eight_are : (topology : DeclaredTopology) (senders : List Sender) (shares : Table Share) (port : ℕ)
    (eight : List Share)
    → AreSharesAt topology senders shares → port < length topology.ports → AreValuesAt shares port eight
    → AreShares (senders_at topology port senders) eight
eight_are topology senders shares port eight are within at class most =
    at.each class most ∙ are.each port class within most

-- a port sees each sender in a class of at most 7
pub classes_seen : (network : DeclaredNetwork) (port : ℕ) → IsNetwork network
    → All (λ (s : PortSender). s.class ≤ 7) (senders_at network.topology port (senders_of network))
classes_seen network port is k d inside =
    (all_seen network.topology port (senders_of network) (each_is_sender network is) k d inside).class
