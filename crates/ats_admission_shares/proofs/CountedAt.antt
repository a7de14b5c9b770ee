-- The shares of a port at a hop of a stream that is not counted in them.
use Rattle.std.proofs.Common.{ℕ, ◌<◌, List, length, get_or, set, sym, subst, ◌∙◌, length-set}
use Rattle.std.specs.List.{All}
use Rattle.std.proofs.lemmas.Option.{get_or_from_slice_get}
use Rattle.ats_class_table.specs.Table.{AreValuesAt, Table}
use Rattle.ats_network.specs.Class.{PortSender}
use Rattle.ats_network.specs.Network.{DeclaredNetwork, IsNetwork, senders_of}
use Rattle.ats_network.specs.Sender.{stream_sender}
use Rattle.ats_certificate.specs.PortSums.{senders_at}
use Rattle.ats_admission_law.proofs.Networks.{less_is_network}
use Rattle.ats_tally.specs.declared.tally.TheConstants.{MAX_SENDERS}
use Rattle.ats_tally.proofs.Network.{few_senders}
use Rattle.ats_tally.specs.Shares.{no_share, share_of, share_with, AreShares, AreSharesOf, IsLimited}
use Rattle.ats_tally.specs.declared.share.Share.{Share}
use Rattle.ats_tally.proofs.Eight.{eight_are}
use Rattle.ats_tally.proofs.Entries.{IsEntry}
use Rattle.ats_tally.proofs.Limits.{all_small, limited_at, limited_eight}
use Rattle.ats_admission_shares.specs.PortShares.{stream_at, without_at}
use Rattle.ats_admission_shares.proofs.Entered.{eight_entered, entry_used, less_by}

-- the eight shares of the port have room, and are those of the network with the stream once it is counted
pub record IsCountedAt (network : DeclaredNetwork) (port : ℕ) (seen : PortSender) (eight : List Share) : Type 0 where
  pub room : IsLimited MAX_SENDERS (get_or eight seen.class no_share)
  pub limits : All (IsLimited MAX_SENDERS) (set eight seen.class (share_with seen (get_or eight seen.class no_share)))
  pub counted : AreShares (senders_at network.topology port (senders_of network))
      (set eight seen.class (share_with seen (get_or eight seen.class no_share)))

pub counted_is : (network : DeclaredNetwork) (n port hop : ℕ) (seen : PortSender) (shares : Table Share)
    (eight : List Share) → IsNetwork network → n < length network.streams
    → IsEntry network (stream_sender (stream_at network n)) port hop seen → AreSharesOf (without_at network n) shares
    → AreValuesAt shares port eight → IsCountedAt network port seen eight
counted_is network n port hop seen shares eight rules within entry are at =
    record { room = room; limits = limits; counted = counted }
  where
    rest_rules : IsNetwork (without_at network n)
    rest_rules = less_is_network network (without_at network n) (stream_at network n) (less_by network n within) rules

    before : AreShares (senders_at network.topology port (senders_of (without_at network n))) eight
    before = eight_are network.topology (senders_of (without_at network n)) shares port eight are
        entry.inside at

    room : IsLimited MAX_SENDERS (get_or eight seen.class no_share)
    room = subst (IsLimited MAX_SENDERS) (sym (get_or_from_slice_get eight seen.class
        (share_of seen.class (senders_at network.topology port (senders_of (without_at network n)))) no_share
        (before seen.class entry.most)))
        (limited_at network.topology port seen.class MAX_SENDERS (senders_of (without_at network n))
        (all_small (without_at network n) rest_rules) (few_senders (without_at network n) rest_rules))

    counted : AreShares (senders_at network.topology port (senders_of network))
        (set eight seen.class (share_with seen (get_or eight seen.class no_share)))
    counted = eight_entered network (without_at network n) (stream_at network n) (less_by network n within) port seen
        eight at.count (entry_used network (stream_sender (stream_at network n)) port hop seen entry) entry.is
        entry.most before

    limits : All (IsLimited MAX_SENDERS) (set eight seen.class (share_with seen (get_or eight seen.class no_share)))
    limits = limited_eight network.topology port MAX_SENDERS (senders_of network)
        (set eight seen.class (share_with seen (get_or eight seen.class no_share)))
        (all_small network rules) (few_senders network rules)
        (length-set eight seen.class (share_with seen (get_or eight seen.class no_share)) ∙ at.count) counted
