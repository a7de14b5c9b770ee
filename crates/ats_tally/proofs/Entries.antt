-- A sender at a hop of its path.
use Rattle.std.proofs.Common.{◌≡◌, ℕ, ◌+◌, ◌<◌, ◌≤◌, List, length, get_or, take, Option, Some, sym, ap, subst, ◌∙◌}
use Rattle.std.proofs.Common.{arith}
use Rattle.std.specs.Option.{option_map}
use Rattle.ats_class_table.specs.Table.{Sets, Table, value_at}
use Rattle.ats_topology.specs.Topology.{DeclaredTopology}
use Rattle.ats_network.specs.Class.{PortSender, seen_at}
use Rattle.ats_network.specs.Network.{DeclaredNetwork}
use Rattle.ats_network.specs.Sender.{Sender}
use Rattle.ats_network.specs.Senders.{IsSender}
use Rattle.ats_network.proofs.ClassLemmas.{class_at-le}
use Rattle.ats_tally.specs.Shares.{share_with, Enters, HaveRoom, IsLimited}
use Rattle.ats_tally.specs.declared.share.Share.{Share}
use Rattle.ats_tally.specs.declared.tally.TheConstants.{MAX_SENDERS}
use Rattle.ats_tally.proofs.Changed.{ChangesAlong, changes_more, changes_not}

-- what is so of a hop of a sender's path, and of what the port there sees
pub record IsEntry (network : DeclaredNetwork) (s : Sender) (port hop : ℕ) (seen : PortSender) : Type 0 where
  pub keeps : IsSender network.topology s
  pub within : hop < length s.ports
  pub at : port ≡ get_or s.ports hop 0
  pub inside : port < length network.topology.ports
  pub is : seen ≡ seen_at network.topology port s
  pub most : seen.class ≤ 7

pub entry_is : (network : DeclaredNetwork) (s : Sender) (listed : List ℕ) (hop : ℕ) (seen : PortSender)
    → IsSender network.topology s → listed ≡ s.ports → hop < length listed
    → seen ≡ seen_at network.topology (get_or s.ports hop 0) s
    → IsEntry network s (get_or listed hop 0) hop seen
entry_is network s listed hop seen keeps same within is =
    let inside : hop < length s.ports = subst (λ (l : List ℕ). hop < length l) same within in
    let at : get_or listed hop 0 ≡ get_or s.ports hop 0 = ap (λ (l : List ℕ). get_or l hop 0) same in
    record {
      keeps = keeps;
      within = inside;
      at = at;
      inside = omega (arith, at, keeps.ports hop 0 inside);
      is = is ∙ ap (λ (p : ℕ). seen_at network.topology p s) (sym at);
      most = omega (arith, ap (λ (t : PortSender). t.class) is, class_at-le s (get_or s.ports hop 0) keeps.classes);
    }

-- what is given where a sender is counted
abbrev pub counted : DeclaredTopology → Sender → Table Share → ℕ → ℕ → Option Share
counted topology s old port class = option_map (share_with (seen_at topology port s)) (value_at old port class)

module _ (network : DeclaredNetwork) (s : Sender) (port hop : ℕ) (seen : PortSender) (old now : Table Share) where
  -- its share is as it was until then, and has room
  pub same_until : (given : ℕ → ℕ → Option Share) → IsEntry network s port hop seen
      → ChangesAlong given s (take hop s.ports) old now → value_at now port seen.class ≡ value_at old port seen.class
  same_until given entry before =
      changes_not given s old now hop port seen.class entry.within entry.keeps.apart entry.at before

  pub entry_room : (given : ℕ → ℕ → Option Share) (share : Share) → IsEntry network s port hop seen
      → ChangesAlong given s (take hop s.ports) old now → HaveRoom old → value_at now port seen.class ≡ Some share
      → IsLimited MAX_SENDERS share
  entry_room given share entry before room there =
      room port seen.class share (sym (same_until given entry before) ∙ there)

  -- its share changes
  pub entry_changed : (given : ℕ → ℕ → Option Share) (next : Table Share) (value : Share)
      → IsEntry network s port hop seen → ChangesAlong given s (take hop s.ports) old now
      → given port seen.class ≡ Some value → Sets port seen.class value now next
      → ChangesAlong given s (take (hop + 1) s.ports) old next
  entry_changed given next value entry before has sets =
      changes_more given s old now hop port seen.class next value entry.within entry.at
      (ap (λ (t : PortSender). t.class) entry.is) has sets before

  -- so it is where the sender is counted there
  pub entry_counted : (next : Table Share) (share value : Share) → IsEntry network s port hop seen
      → ChangesAlong (counted network.topology s old) s (take hop s.ports) old now
      → value_at now port seen.class ≡ Some share
      → value ≡ share_with seen share → Sets port seen.class value now next
      → ChangesAlong (counted network.topology s old) s (take (hop + 1) s.ports) old next
  entry_counted next share value entry before there is sets =
      entry_changed (counted network.topology s old) next value entry before
      (ap (option_map (share_with (seen_at network.topology port s)))
      (sym (same_until (counted network.topology s old) entry before) ∙ there)
      ∙ ap (λ (t : PortSender). Some (share_with t share)) (sym entry.is) ∙ ap Some (sym is))
      sets

-- a whole path is walked
pub entered_all : (topology : DeclaredTopology) (s : Sender) (old now : Table Share)
    → ChangesAlong (counted topology s old) s s.ports old now → Enters topology s old now
entered_all topology s old now changes = record { count = changes.count; each = changes.each }
