-- The shares of a network that a stream enters or leaves.
use Rattle.std.proofs.Common.{◌≡◌, ℕ, zero, suc, ◌<◌, ◌≤◌, Bool, true, false, eqb, [], ◌∷◌, ◌++◌, List, length, get_or}
use Rattle.std.proofs.Common.{set, map, take, drop, Some, refl, sym, ap, subst, ◌∙◌, ◌⊎◌, inl, inr, arith}
use Rattle.std.proofs.Common.{length-append}
use Rattle.std.specs.Prelude.{slice_get, ◌&&◌}
use Rattle.std.specs.List.{list_any}
use Rattle.std.proofs.lemmas.Bool.{cases_eq, eq-eqb, ne_eqb, or_left, or_right}
use Rattle.std.proofs.lemmas.Option.{get_or_from_slice_get}
use Rattle.std.proofs.Math.Seq.{split_at}
use Rattle.std.proofs.lemmas.List.{get_or_append_left, get_or-map, length-map}
use Rattle.ats_class_table.specs.Table.{Table, value_at}
use Rattle.ats_topology.specs.Topology.{DeclaredTopology}
use Rattle.ats_streams.specs.Stream.{DeclaredStream}
use Rattle.ats_network.specs.Class.{PortSender, class_at, seen_at}
use Rattle.ats_network.specs.Edits.{no_stream}
use Rattle.ats_network.specs.Network.{DeclaredNetwork, IsNetwork, senders_of}
use Rattle.ats_network.specs.Sender.{Sender, flow_sender, stream_sender}
use Rattle.ats_network.specs.Senders.{no_sender, sender_at}
use Rattle.ats_network.proofs.SenderLemmas.{sender_keeps}
use Rattle.ats_certificate.specs.PortSums.{senders_at, uses}
use Rattle.ats_admission_law.specs.Less.{IsLessBy}
use Rattle.ats_admission_law.proofs.Networks.{Parts, behind, by_parts, parts_of, senders_less}
use Rattle.ats_admission_law.proofs.Networks.{senders_more}
use Rattle.ats_tally.specs.Shares.{no_share, share_of, share_with, AreShares, AreSharesAt, AreSharesOf, Enters}
use Rattle.ats_tally.specs.declared.share.Share.{Share}
use Rattle.ats_tally.proofs.Changed.{ChangesAlong, entered_are, left_are, share_at, share_before}
use Rattle.ats_tally.proofs.Eight.{got_else, got_here}
use Rattle.ats_tally.proofs.Entries.{IsEntry, entry_is}
use Rattle.ats_admission_shares.specs.PortShares.{stream_at, without_at}

-- a network without one of its streams is less by it
pub less_by : (network : DeclaredNetwork) (n : ℕ) → n < length network.streams
    → IsLessBy network (without_at network n) (stream_at network n)
less_by network n within = record {
  topology = refl;
  most_ports = refl;
  flows = refl;
  streams = record {
    front = take n network.streams;
    back = drop (suc n) network.streams;
    old_is = split_at network.streams n no_stream within;
    new_is = refl;
  };
}

-- a stream is the sender with its number
pub stream_is : (network : DeclaredNetwork) (n : ℕ) → n < length network.streams
    → sender_at network n ≡ stream_sender (stream_at network n)
stream_is network n within =
    get_or_append_left (map stream_sender network.streams) (map flow_sender network.flows) no_sender n
    (omega (arith, within, length-map network.streams stream_sender))
    ∙ get_or-map stream_sender network.streams n no_stream no_sender within

module _ (old new : DeclaredNetwork) (x : DeclaredStream) (is : IsLessBy old new x) (before now : Table Share) where
  -- with a stream that enters along its path
  pub shares_entered : AreSharesOf new before → Enters old.topology (stream_sender x) before now → AreSharesOf old now
  shares_entered = by_parts Goes old new x is (λ are enters.
      subst (λ (ss : List Sender). AreSharesAt old.topology ss now) (sym (senders_more parts x))
      (entered_are old.topology (map stream_sender parts.front) (stream_sender x) (behind parts) before now
      (subst (λ (ss : List Sender). AreSharesAt old.topology ss before) (senders_less parts) are) enters))
    where
      parts : Parts
      parts = parts_of old new x is

      Goes : DeclaredNetwork → DeclaredNetwork → Type 0
      Goes o n = AreSharesOf n before → Enters o.topology (stream_sender x) before now → AreSharesOf o now

  -- and without one that leaves
  pub shares_left : AreSharesOf old before
      → ChangesAlong (λ port class. Some (share_of class (senders_at new.topology port (senders_of new))))
      (stream_sender x) x.ports
      before now → AreSharesOf new now
  shares_left = by_parts Goes old new x is (λ are changes.
      subst (λ (ss : List Sender). AreSharesAt old.topology ss now) (sym (senders_less parts))
      (left_are old.topology (map stream_sender parts.front) (stream_sender x) (behind parts) before now
      (subst (λ (ss : List Sender). AreSharesAt old.topology ss before) (senders_more parts x) are)
      (subst (λ (ss : List Sender). ChangesAlong (λ port class. Some (share_of class (senders_at old.topology port ss)))
      (stream_sender x) x.ports before now) (senders_less parts) changes)))
    where
      parts : Parts
      parts = parts_of old new x is

      Goes : DeclaredNetwork → DeclaredNetwork → Type 0
      Goes o n = AreSharesOf o before
          → ChangesAlong (λ port class. Some (share_of class (senders_at n.topology port (senders_of n))))
          (stream_sender x)
          x.ports before now → AreSharesOf n now

  -- what the share of a class at a port of the path of one that leaves is made of
  pub share_left : AreSharesOf old before → (port class : ℕ) → port < length old.topology.ports → class ≤ 7
      → uses port (stream_sender x) ≡ true → class_at (stream_sender x) port ≡ class → value_at before port class
      ≡ Some (share_with (seen_at old.topology port (stream_sender x))
      (share_of class (senders_at new.topology port (senders_of new))))
  share_left are port class within most used of = by_parts Goes old new x is (λ are.
      share_before old.topology (map stream_sender parts.front) (stream_sender x) (behind parts) before now
      (subst (λ (ss : List Sender). AreSharesAt old.topology ss before)
      (senders_more parts x) are) port class within most
      used of
      ∙ ap (λ (ss : List Sender).
      Some (share_with (seen_at old.topology port (stream_sender x))
      (share_of class (senders_at old.topology port ss))))
      (sym (senders_less parts))) are
    where
      parts : Parts
      parts = parts_of old new x is

      Goes : DeclaredNetwork → DeclaredNetwork → Type 0
      Goes o n = AreSharesOf o before → value_at before port class
          ≡ Some (share_with (seen_at o.topology port (stream_sender x))
          (share_of class (senders_at n.topology port (senders_of n))))

-- the shares of one port with a sender that uses it
shares_set : (topology : DeclaredTopology) (port : ℕ) (front : List Sender) (s : Sender) (back : List Sender)
    (seen : PortSender)
    (eight : List Share) → length eight ≡ 8 → uses port s ≡ true → seen ≡ seen_at topology port s → seen.class ≤ 7
    → AreShares (senders_at topology port (front ++ back)) eight
    → AreShares (senders_at topology port (front ++ s ∷ back))
    (set eight seen.class (share_with seen (get_or eight seen.class no_share)))
shares_set topology port front s back seen eight long used same low are class most = by (cases_eq class seen.class)
  where
    more : Share
    more = share_with seen (get_or eight seen.class no_share)

    class_is : seen.class ≡ class_at s port
    class_is = ap (λ (t : PortSender). t.class) same

    by : (class ≡ seen.class) ⊎ (class ≡ seen.class → ⊥)
        → slice_get (set eight seen.class more) class
        ≡ Some (share_of class (senders_at topology port (front ++ s ∷ back)))
    by (inl e) =
        got_here eight seen.class class more (omega (arith, low, long)) e
        ∙ ap (λ (x : Share). Some (share_with seen x))
        (get_or_from_slice_get eight seen.class
        (share_of seen.class (senders_at topology port (front ++ back))) no_share
        (are seen.class low))
        ∙ ap (λ (k : ℕ). Some (share_with seen (share_of k (senders_at topology port (front ++ back))))) (sym e)
        ∙ ap (λ (t : PortSender). Some (share_with t (share_of class (senders_at topology port (front ++ back))))) same
        ∙ ap Some (sym (share_at topology port class front s back true
        (ap (λ (u : Bool). u && eqb (class_at s port) class) used
        ∙ eq-eqb (class_at s port) class (sym class_is ∙ sym e))))
    by (inr other) =
        got_else eight seen.class class more (omega (arith, most, long)) other
        ∙ are class most
        ∙ ap Some (sym (share_at topology port class front s back false
        (ap (λ (u : Bool). u && eqb (class_at s port) class) used
        ∙ ne_eqb (class_at s port) class (λ e. other (sym (class_is ∙ e))))))

-- the eight shares of a port of its path with a stream more
pub eight_entered : (old new : DeclaredNetwork) (x : DeclaredStream) → IsLessBy old new x → (port : ℕ)
    (seen : PortSender) (eight : List Share) → length eight ≡ 8 → uses port (stream_sender x) ≡ true
    → seen ≡ seen_at old.topology port (stream_sender x) → seen.class ≤ 7
    → AreShares (senders_at new.topology port (senders_of new)) eight
    → AreShares (senders_at old.topology port (senders_of old))
    (set eight seen.class (share_with seen (get_or eight seen.class no_share)))
eight_entered old new x is port seen eight long used same low = by_parts Goes old new x is (λ are.
    subst (λ (ss : List Sender). AreShares (senders_at old.topology port ss)
    (set eight seen.class (share_with seen (get_or eight seen.class no_share)))) (sym (senders_more parts x))
    (shares_set old.topology port (map stream_sender parts.front) (stream_sender x)
    (behind parts) seen eight long used same low
    (subst (λ (ss : List Sender). AreShares (senders_at old.topology port ss) eight) (senders_less parts) are)))
  where
    parts : Parts
    parts = parts_of old new x is

    Goes : DeclaredNetwork → DeclaredNetwork → Type 0
    Goes o n = AreShares (senders_at n.topology port (senders_of n)) eight
        → AreShares (senders_at o.topology port (senders_of o))
        (set eight seen.class (share_with seen (get_or eight seen.class no_share)))

-- a port on a path
pub on_path : (path : List ℕ) (hop : ℕ) → hop < length path → list_any (λ p. eqb p (get_or path hop 0)) path ≡ true
on_path [] hop within = absurd (omega arith)
on_path (p ∷ path) zero within = or_left (eqb p p) (list_any (λ q. eqb q p) path) (eq-eqb p p refl)
on_path (p ∷ path) (suc hop) within =
    or_right (eqb p (get_or path hop 0)) (list_any (λ q. eqb q (get_or path hop 0)) path)
    (on_path path hop (omega arith))

-- so it is with the port of an entry
pub entry_used : (network : DeclaredNetwork) (s : Sender) (port hop : ℕ) (seen : PortSender)
    → IsEntry network s port hop seen → uses port s ≡ true
entry_used network s port hop seen entry =
    ap (λ (p : ℕ). uses p s) entry.at ∙ on_path s.ports hop entry.within

-- a stream of a network at a hop of its path
pub entering : (network : DeclaredNetwork) (n hop : ℕ) (listed : List ℕ) (seen : PortSender) → IsNetwork network
    → n < length network.streams → hop < length (stream_at network n).ports → listed ≡ (sender_at network n).ports
    → seen ≡ seen_at network.topology (get_or (sender_at network n).ports hop 0) (sender_at network n)
    → IsEntry network (stream_sender (stream_at network n)) (get_or listed hop 0) hop seen
entering network n hop listed seen rules within inside path_is is =
    let same = stream_is network n within in
    let many : n < length (senders_of network) =
    omega (
      arith,
      within,
      length-append (map stream_sender network.streams) (map flow_sender network.flows),
      length-map network.streams stream_sender,
    ) in
    let path_same : listed ≡ (stream_at network n).ports = path_is ∙ ap (λ (s : Sender). s.ports) same in
    subst (λ (s : Sender). IsEntry network s (get_or listed hop 0) hop seen) same
    (entry_is network (sender_at network n) listed hop seen (sender_keeps network n rules many) path_is
    (subst (λ (l : List ℕ). hop < length l) (sym path_same) inside) is)
