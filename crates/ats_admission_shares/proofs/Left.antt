-- A stream that has left a network, at a hop of its path.
use Rattle.std.proofs.Common.{◌≡◌, ℕ, ◌<◌, ◌≤◌, List, length, get_or, map, take, Option, Some, sym, ap, subst, ◌∙◌}
use Rattle.std.proofs.Common.{arith}
use Rattle.std.specs.List.{All}
use Rattle.std.proofs.lemmas.Option.{same_Some}
use Rattle.ats_class_table.specs.Table.{Table, value_at}
use Rattle.ats_topology.specs.Topology.{DeclaredTopology}
use Rattle.ats_streams.specs.Stream.{DeclaredStream, IsStream}
use Rattle.ats_network.specs.Class.{PortSender, seen_at}
use Rattle.ats_network.specs.Network.{DeclaredNetwork, IsNetwork, senders_of}
use Rattle.ats_network.specs.Rates.{HasRates}
use Rattle.ats_network.specs.Sender.{Sender, stream_sender}
use Rattle.ats_network.specs.Senders.{IsSender}
use Rattle.ats_network.proofs.ClassLemmas.{class_at-stream}
use Rattle.ats_network.proofs.SenderLemmas.{each_is_sender}
use Rattle.ats_certificate.specs.PortSums.{senders_at}
use Rattle.ats_admission_law.proofs.Lists.{all_one}
use Rattle.ats_admission_law.proofs.Networks.{Parts, behind, by_parts, more, parts_of, senders_more}
use Rattle.ats_tally.specs.Shares.{share_of, share_with}
use Rattle.ats_tally.specs.declared.share.Share.{Share}
use Rattle.ats_tally.proofs.Changed.{ChangesAlong}
use Rattle.ats_tally.proofs.Entries.{IsEntry, entry_is, same_until}
use Rattle.ats_admission_shares.specs.PortShares.{AreSharesBefore}
use Rattle.ats_admission_shares.proofs.Entered.{entry_used, share_left}

module _ (network : DeclaredNetwork) (x : DeclaredStream) (shares : Table Share)
    (b : AreSharesBefore network x shares) where
  -- it keeps what a sender keeps
  pub left_keeps : IsSender b.old.topology (stream_sender x)
  left_keeps = by_parts (λ o n. IsNetwork o → IsSender o.topology (stream_sender x)) b.old network x b.is_less
      (λ rules. all_one (IsSender b.old.topology) (map stream_sender parts.front) (stream_sender x) (behind parts)
      (subst (λ (ss : List Sender). All (IsSender b.old.topology) ss) (senders_more parts x)
      (each_is_sender (more parts x) rules))) b.rules
    where
      parts : Parts
      parts = parts_of b.old network x b.is_less

  -- and a scheduler may have its rates and bursts
  pub left_rates : HasRates network.topology x
  left_rates = subst (λ (t : DeclaredTopology). HasRates t x) (sym b.is_less.topology)
      (by_parts (λ o n. IsNetwork o → HasRates o.topology x) b.old network x b.is_less
      (λ rules. all_one (HasRates b.old.topology) parts.front x parts.back rules.rates) b.rules)
    where
      parts : Parts
      parts = parts_of b.old network x b.is_less

  pub leaving_entry : (topology : DeclaredTopology) (listed : List ℕ) (hop : ℕ) (seen : PortSender)
      → topology ≡ network.topology → listed ≡ x.ports → hop < length listed
      → seen ≡ seen_at topology (get_or x.ports hop 0) (stream_sender x)
      → IsEntry b.old (stream_sender x) (get_or listed hop 0) hop seen
  leaving_entry topology listed hop seen over same within is =
      entry_is b.old (stream_sender x) listed hop seen left_keeps same within
      (is ∙ ap (λ (t : DeclaredTopology). seen_at t (get_or x.ports hop 0) (stream_sender x))
      (over ∙ b.is_less.topology))

  -- its port is still there, and it is of a class of streams
  pub leaving_inside : (port hop : ℕ) (seen : PortSender) → IsEntry b.old (stream_sender x) port hop seen
      → port < length network.topology.ports
  leaving_inside port hop seen entry =
      omega (arith, entry.inside, ap (λ (t : DeclaredTopology). length t.ports) b.is_less.topology)

  pub leaving_class : (port hop : ℕ) (seen : PortSender) → IsStream x → IsEntry b.old (stream_sender x) port hop seen
      → 1 ≤ seen.class
  leaving_class port hop seen is entry = omega (
    arith,
    (class_at-stream x port is (entry_used b.old (stream_sender x) port hop seen entry)).least,
    ap (λ (t : PortSender). t.class) entry.is,
  )

  -- until its hop, its share is that without it and it
  pub leaving_share : (given : ℕ → ℕ → Option Share) (now : Table Share) (port hop : ℕ) (seen : PortSender)
      (share : Share) → IsEntry b.old (stream_sender x) port hop seen
      → ChangesAlong given (stream_sender x) (take hop x.ports) shares now → value_at now port seen.class ≡ Some share
      → share ≡ share_with seen (share_of seen.class (senders_at network.topology port (senders_of network)))
  leaving_share given now port hop seen share entry before there =
      same_Some share (share_with seen (share_of seen.class (senders_at network.topology port (senders_of network))))
      (sym there
      ∙ same_until b.old (stream_sender x) port hop seen shares now given entry before
      ∙ share_left b.old network x b.is_less shares now b.counted port seen.class entry.inside entry.most
      (entry_used b.old (stream_sender x) port hop seen entry) (sym (ap (λ (t : PortSender). t.class) entry.is))
      ∙ ap (λ (t : PortSender). Some (share_with t
      (share_of seen.class (senders_at network.topology port (senders_of network)))))
      (sym entry.is))
