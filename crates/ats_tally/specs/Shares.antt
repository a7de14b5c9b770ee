use Rattle.std.specs.Prelude.{◌≡◌, ℕ, ◌+◌, ◌*◌, ◌<◌, ◌≤◌, ◌==◌, ◌&&◌, max, if◌then◌else◌, List, map, filter, Some, None}
use Rattle.std.specs.Prelude.{length, slice_get}
use Rattle.std.specs.Option.{option_map}
use Rattle.ats_num.specs.declared.rate.TheConstants.{MAX_BPS, MAX_BURST_BITS}
use Rattle.ats_class_table.specs.Table.{Table, value_at}
use Rattle.ats_topology.specs.Topology.{DeclaredTopology}
use Rattle.ats_network.specs.Class.{PortSender, class_at, seen_at}
use Rattle.ats_network.specs.Network.{DeclaredNetwork, senders_of}
use Rattle.ats_network.specs.Sender.{Sender}
use Rattle.ats_certificate.specs.PortSums.{is_of, longest, shortest, sum_where, greatest_where, senders_at, uses}
use Rattle.ats_tally.specs.Tally.{least_with, least_known}
use Rattle.ats_tally.specs.declared.share.Share.{Share}
use Rattle.ats_tally.specs.declared.tally.TheConstants.{MAX_SENDERS}

-- no sender is counted
abbrev pub no_share : Share
no_share = record { rate = 0; bursts = 0; longest = 0; shortest = None }

-- a share with one sender more
abbrev pub share_with : PortSender → Share → Share
share_with s share = record {
  rate = share.rate + s.rate;
  bursts = share.bursts + s.burst_bits;
  longest = max share.longest (longest s);
  shortest = Some (least_with share.shortest (shortest s));
}

-- what those of the senders make that are of a class
abbrev pub share_of : ℕ → List PortSender → Share
share_of class senders = record {
  rate = sum_where (is_of class) (λ s. s.rate) senders;
  bursts = sum_where (is_of class) (λ s. s.burst_bits) senders;
  longest = greatest_where (is_of class) longest senders;
  shortest = least_known (map shortest (filter (is_of class) senders));
}

-- a list has what the senders make of each class from 0 to 7, at the class
abbrev pub AreShares : List PortSender → List Share → Type 0
AreShares senders shares = (class : ℕ) → class ≤ 7 → slice_get shares class ≡ Some (share_of class senders)

-- a table has what these senders make of each class from 0 to 7 at each port of a topology
pub record AreSharesAt (topology : DeclaredTopology) (senders : List Sender) (shares : Table Share) : Type 0 where
  pub count : shares.ports ≡ length topology.ports
  pub each : (port class : ℕ) → port < length topology.ports → class ≤ 7
      → value_at shares port class ≡ Some (share_of class (senders_at topology port senders))

-- the shares are those of a network's senders at each of its ports
abbrev pub AreSharesOf : DeclaredNetwork → Table Share → Type 0
AreSharesOf network = AreSharesAt network.topology (senders_of network)

-- a sender is counted in the share of its class at each port that it uses; all other shares stay
pub record Enters (topology : DeclaredTopology) (s : Sender) (old new : Table Share) : Type 0 where
  pub count : new.ports ≡ old.ports
  pub each : (port class : ℕ) → value_at new port class ≡ (
      if uses port s && class_at s port == class
      then option_map (share_with (seen_at topology port s)) (value_at old port class)
      else value_at old port class)

-- no more than so many senders can make
pub record IsLimited (count : ℕ) (share : Share) : Type 0 where
  pub rate : share.rate ≤ count * MAX_BPS
  pub bursts : share.bursts ≤ count * MAX_BURST_BITS

-- each share of a table has room for one sender more
abbrev pub HaveRoom : Table Share → Type 0
HaveRoom shares =
    (port class : ℕ) (share : Share) → value_at shares port class ≡ Some share → IsLimited MAX_SENDERS share
