-- No more than so many senders can make.
use Rattle.std.proofs.Common.{◌≡◌, ℕ, ◌*◌, ◌<◌, ◌≤◌, true, eqb, List, length, get_or, map, filter, take, sym, subst}
use Rattle.std.proofs.Common.{◌∙◌, arith}
use Rattle.std.specs.List.{All}
use Rattle.std.proofs.Math.Nat.{mul-le-mul_right}
use Rattle.std.proofs.lemmas.List.{length-take}
use Rattle.std.proofs.lemmas.Bool.{eqb-true}
use Rattle.std.proofs.lemmas.List.Elements.{All-append, All-filter, All-map, All-take, All-weaker, filter_passes}
use Rattle.std.proofs.lemmas.List.Sums.{sum_by-le, length-filter, count_by-le-length}
use Rattle.std.proofs.lemmas.Option.{get_or_from_slice_get, same_Some}
use Rattle.ats_num.specs.declared.rate.TheConstants.{MAX_BPS, MAX_BURST_BITS}
use Rattle.ats_class_table.specs.Table.{Table}
use Rattle.ats_class_table.proofs.Values.{value_inside}
use Rattle.ats_clock.specs.Rates.{committed}
use Rattle.ats_clock.specs.declared.committed.Committed.{Committed}
use Rattle.ats_topology.specs.Topology.{DeclaredTopology, IsTopology}
use Rattle.ats_streams.specs.Flow.{DeclaredFlow}
use Rattle.ats_streams.specs.Stream.{DeclaredStream}
use Rattle.ats_network.specs.Sender.{Sender, stream_sender, flow_sender}
use Rattle.ats_network.specs.Class.{PortSender, seen_at}
use Rattle.ats_network.specs.Network.{DeclaredNetwork, IsNetwork, senders_of}
use Rattle.ats_network.specs.Rates.{HasRates, IsRated, committed_at}
use Rattle.ats_network.proofs.RateLemmas.{flow_sees_nothing}
use Rattle.ats_certificate.specs.PortSums.{uses, is_of, senders_at, sum_where}
use Rattle.ats_tally.specs.declared.tally.TheConstants.{MAX_SENDERS}
use Rattle.ats_tally.proofs.Lists.{any_gives}
use Rattle.ats_tally.proofs.Network.{few_senders}
use Rattle.ats_tally.proofs.SeenLemmas.{few_at}
use Rattle.ats_tally.specs.Shares.{share_of, AreShares, AreSharesAt, HaveRoom, IsLimited}
use Rattle.ats_tally.specs.declared.share.Share.{Share}

-- a rate and a burst are no more than those of a scheduler may be
pub record IsSmall (rate burst : ℕ) : Type 0 where
  pub rate_most : rate ≤ MAX_BPS
  pub burst_most : burst ≤ MAX_BURST_BITS

-- so is what each of its ports sees of a sender
abbrev pub IsSmallAt : DeclaredTopology → Sender → Type 0
IsSmallAt topology s = (port : ℕ) → uses port s ≡ true
    → IsSmall (committed_at topology port s).rate (committed_at topology port s).burst_bits

abbrev pub AllSmall : DeclaredTopology → List Sender → Type 0
AllSmall topology senders = All (IsSmallAt topology) senders

stream_small : (topology : DeclaredTopology) (s : DeclaredStream) → HasRates topology s
    → IsSmallAt topology (stream_sender s)
stream_small topology s rates port used =
    let rated : IsRated topology (stream_sender s) port =
    any_gives (λ p. eqb p port) (IsRated topology (stream_sender s) port) s.ports
    (λ k d h e. subst (IsRated topology (stream_sender s)) (eqb-true (get_or s.ports k d) port e) (rates k d h)) used in
    record { rate_most = rated.seen.rate.within; burst_most = rated.seen.burst }

flow_small : (topology : DeclaredTopology) (f : DeclaredFlow) → IsTopology topology
    → IsSmallAt topology (flow_sender f)
flow_small topology f lawful port used =
    let none : committed_at topology port (flow_sender f) ≡ committed 0 0 =
    (flow_sees_nothing topology f port lawful).seen in
    subst (λ (c : Committed). IsSmall c.rate c.burst_bits) (sym none)
    (record { rate_most = omega arith; burst_most = omega arith })

-- so it is with each sender of a network
pub all_small : (network : DeclaredNetwork) → IsNetwork network → AllSmall network.topology (senders_of network)
all_small network is =
    All-append (IsSmallAt network.topology) (map stream_sender network.streams) (map flow_sender network.flows)
    (All-map (IsSmallAt network.topology) stream_sender network.streams
    (All-weaker (HasRates network.topology) (λ (s : DeclaredStream). IsSmallAt network.topology (stream_sender s))
    (stream_small network.topology) network.streams is.rates))
    (All-map (IsSmallAt network.topology) flow_sender network.flows
    (λ k d h. flow_small network.topology (get_or network.flows k d) is.topology))

sum_limited : (class most count : ℕ) (amount : PortSender → ℕ) (senders : List PortSender)
    → All (λ (s : PortSender). amount s ≤ most) senders → length senders ≤ count
    → sum_where (is_of class) amount senders ≤ count * most
sum_limited class most count amount senders all few =
    let total = sum_by-le amount most (filter (is_of class) senders)
    (All-filter (is_of class) (λ (s : PortSender). amount s ≤ most) senders all) in
    let fewer : length (filter (is_of class) senders) ≤ count =
    omega (arith, length-filter (is_of class) senders, count_by-le-length (is_of class) senders, few) in
    omega (arith, total, mul-le-mul_right most fewer)

-- what few senders make of a class at a port
pub limited_at : (topology : DeclaredTopology) (port class count : ℕ) (senders : List Sender)
    → AllSmall topology senders → length senders ≤ count
    → IsLimited count (share_of class (senders_at topology port senders))
limited_at topology port class count senders small few =
    let seen : All (λ (s : PortSender). IsSmall s.rate s.burst_bits) (senders_at topology port senders) =
    All-map (λ (s : PortSender). IsSmall s.rate s.burst_bits) (seen_at topology port) (filter (uses port) senders)
    (λ k d h. All-filter (uses port) (IsSmallAt topology) senders small k d h port
    (filter_passes (uses port) senders k d h)) in
    let fewer : length (senders_at topology port senders) ≤ count =
    omega (arith, few_at topology port senders, few) in
    record {
      rate = sum_limited class MAX_BPS count (λ (s : PortSender). s.rate) (senders_at topology port senders)
          (λ k d h. (seen k d h).rate_most) fewer;
      bursts = sum_limited class MAX_BURST_BITS count (λ (s : PortSender). s.burst_bits)
          (senders_at topology port senders) (λ k d h. (seen k d h).burst_most) fewer;
    }

-- so it is with the eight shares of a port
pub limited_eight : (topology : DeclaredTopology) (port count : ℕ) (senders : List Sender) (shares : List Share)
    → AllSmall topology senders → length senders ≤ count → length shares ≡ 8
    → AreShares (senders_at topology port senders) shares → All (IsLimited count) shares
limited_eight topology port count senders shares small few eight are class d within =
    subst (IsLimited count)
    (sym (get_or_from_slice_get shares class (share_of class (senders_at topology port senders)) d
    (are class (omega (arith, within, eight)))))
    (limited_at topology port class count senders small few)

-- and with the shares of all ports
limited_all : (topology : DeclaredTopology) (senders : List Sender) (shares : Table Share)
    → AllSmall topology senders → length senders ≤ MAX_SENDERS → AreSharesAt topology senders shares → HaveRoom shares
limited_all topology senders shares small few are port class share there =
    let inside = value_inside shares port class share there in
    let within : port < length topology.ports = omega (arith, inside.0, are.count) in
    subst (IsLimited MAX_SENDERS)
    (same_Some (share_of class (senders_at topology port senders)) share
    (sym (are.each port class within inside.1) ∙ there))
    (limited_at topology port class MAX_SENDERS senders small few)

-- the shares of the first senders of a network have room for one more
pub room_first : (network : DeclaredNetwork) (i : ℕ) (shares : Table Share) → IsNetwork network
    → AreSharesAt network.topology (take i (senders_of network)) shares → HaveRoom shares
room_first network i shares is are =
    limited_all network.topology (take i (senders_of network)) shares
    (All-take (IsSmallAt network.topology) i (senders_of network) (all_small network is))
    (omega (arith, length-take i (senders_of network), few_senders network is)) are

-- and so have those of all
pub room_all : (network : DeclaredNetwork) (shares : Table Share) → IsNetwork network
    → AreSharesAt network.topology (senders_of network) shares → HaveRoom shares
room_all network shares is are =
    limited_all network.topology (senders_of network) shares (all_small network is)
    (few_senders network is) are
