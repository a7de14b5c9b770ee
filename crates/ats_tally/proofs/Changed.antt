-- The shares of the ports on a path that a sender enters or leaves.
use Rattle.std.proofs.Common.{◌≡◌, ◌≢◌, ℕ, ◌+◌, ◌<◌, ◌≤◌, Bool, true, false, cond, eqb, List, [], ◌∷◌, ◌++◌, length}
use Rattle.std.proofs.Common.{get_or, take, Option, Some, refl, sym, ap, subst, ◌∙◌, ◌⊎◌, inl, inr, arith}
use Rattle.std.specs.Prelude.{◌&&◌, ◌||◌}
use Rattle.std.specs.List.{AllPairs, list_any}
use Rattle.std.specs.Option.{option_map}
use Rattle.std.proofs.Math.Bool.{and-false}
use Rattle.std.proofs.lemmas.Bool.{and_from, cases_eq, eq-eqb, ne_eqb, or_right}
use Rattle.std.proofs.lemmas.List.{append-nil, get_or-take, get_or_default, length-take-le, take_more}
use Rattle.std.proofs.lemmas.List.Folds.{list_any_more, list_any_none}
use Rattle.ats_class_table.specs.Table.{IsFilled, Sets, Table, value_at}
use Rattle.ats_topology.specs.Topology.{DeclaredTopology}
use Rattle.ats_network.specs.Class.{PortSender, class_at, seen_at}
use Rattle.ats_network.specs.Sender.{Sender}
use Rattle.ats_certificate.specs.PortSums.{uses, senders_at}
use Rattle.ats_tally.proofs.SeenLemmas.{at_more, at_same, senders_at-append}
use Rattle.ats_tally.specs.Shares.{no_share, share_of, share_with, AreSharesAt, Enters}
use Rattle.ats_tally.specs.declared.share.Share.{Share}
use Rattle.ats_tally.proofs.Inserted.{share_in}

or_false : (a : Bool) → (a || false) ≡ a
or_false true = refl
or_false false = refl

-- at each port of a path the share of the sender's class there has become what is given for it; all others stay
pub record ChangesAlong (given : ℕ → ℕ → Option Share) (s : Sender) (path : List ℕ) (old new : Table Share)
    : Type 0 where
  pub count : new.ports ≡ old.ports
  pub each : (port class : ℕ) → value_at new port class
      ≡ cond (list_any (λ p. eqb p port) path && eqb (class_at s port) class) (given port class)
      (value_at old port class)

-- on no port nothing changes
pub changes_none : (given : ℕ → ℕ → Option Share) (s : Sender) (shares : Table Share)
    → ChangesAlong given s [] shares shares
changes_none given s shares = record { count = refl; each = λ port class. refl }

-- of ports that are apart, none is among those before it
not_before : (path : List ℕ) (i : ℕ) → AllPairs (λ p q. p ≢ q) path → i < length path
    → list_any (λ p. eqb p (get_or path i 0)) (take i path) ≡ false
not_before path i apart h =
    list_any_none (λ p. eqb p (get_or path i 0)) (take i path)
    (λ k d below. (
    let short = length-take-le i path (omega arith) in
    let before : k < i = omega (arith, below, short) in
    let differ : get_or path k 0 ≢ get_or path i 0 = apart k i 0 before h in
    ne_eqb (get_or (take i path) k d) (get_or path i 0)
    (λ e. differ (get_or_default path k 0 d (omega (arith, before, h)) ∙ sym (get_or-take i path k d before) ∙ e))))

module _ (given : ℕ → ℕ → Option Share) (s : Sender) (old now : Table Share) (hop port class : ℕ) where
  -- until its own hop, the share of a port on the path is as it was
  pub changes_not : hop < length s.ports → AllPairs (λ p q. p ≢ q) s.ports → port ≡ get_or s.ports hop 0
      → ChangesAlong given s (take hop s.ports) old now → value_at now port class ≡ value_at old port class
  changes_not within apart at before =
      before.each port class
      ∙ ap (λ (b : Bool). cond (b && eqb (class_at s port) class) (given port class) (value_at old port class))
      (ap (λ (p : ℕ). list_any (λ q. eqb q p) (take hop s.ports)) at ∙ not_before s.ports hop apart within)

  -- then it changes, and the others stay
  pub changes_more : (next : Table Share) (value : Share) → hop < length s.ports → port ≡ get_or s.ports hop 0
      → class ≡ class_at s port → given port class ≡ Some value → Sets port class value now next
      → ChangesAlong given s (take hop s.ports) old now → ChangesAlong given s (take (hop + 1) s.ports) old next
  changes_more next value within at is has sets before = record {
    count = sets.count ∙ before.count;
    each = λ p c. by p c (cases_eq p port) (cases_eq c class);
  }
    where
      earlier : ℕ → Bool
      earlier p = list_any (λ q. eqb q p) (take hop s.ports)

      more : (p : ℕ) → list_any (λ q. eqb q p) (take (hop + 1) s.ports) ≡ (earlier p || eqb port p)
      more p = list_any_more (λ q. eqb q p) s.ports hop 0 within ∙ ap (λ (q : ℕ). earlier p || eqb q p) (sym at)

      chosen : ℕ → ℕ → Bool → Option Share
      chosen p c b = cond (b && eqb (class_at s p) c) (given p c) (value_at old p c)

      -- of another class nothing is given
      other_class : (p c : ℕ) (b : Bool) → p ≡ port → (c ≡ class → ⊥) → chosen p c b ≡ value_at old p c
      other_class p c b same other =
          ap (λ (t : Bool). cond (b && t) (given p c) (value_at old p c))
          (ne_eqb (class_at s p) c (λ e. other (sym e ∙ ap (λ (q : ℕ). class_at s q) same ∙ sym is)))
          ∙ ap (λ (t : Bool). cond t (given p c) (value_at old p c)) (and-false b)

      by : (p c : ℕ) → (p ≡ port) ⊎ (p ≡ port → ⊥) → (c ≡ class) ⊎ (c ≡ class → ⊥)
          → value_at next p c ≡ chosen p c (list_any (λ q. eqb q p) (take (hop + 1) s.ports))
      by p c (inl same) (inl own) =
          let on : list_any (λ q. eqb q p) (take (hop + 1) s.ports) ≡ true =
          more p ∙ or_right (earlier p) (eqb port p) (eq-eqb port p (sym same)) in
          let of : eqb (class_at s p) c ≡ true =
          eq-eqb (class_at s p) c (ap (λ (q : ℕ). class_at s q) same ∙ sym is ∙ sym own) in
          ap (λ (q : ℕ). value_at next q c) same ∙ ap (value_at next port) own ∙ sets.here ∙ sym has
          ∙ sym (ap (λ (q : ℕ). given q c) same ∙ ap (given port) own)
          ∙ sym (ap (λ (b : Bool). cond b (given p c) (value_at old p c))
          (and_from (list_any (λ q. eqb q p) (take (hop + 1) s.ports)) (eqb (class_at s p) c) on of))
      by p c (inl same) (inr other) =
          sets.others p c (inr other) ∙ before.each p c ∙ other_class p c (earlier p) same other
          ∙ sym (other_class p c (list_any (λ q. eqb q p) (take (hop + 1) s.ports)) same other)
      by p c (inr away) own =
          sets.others p c (inl away) ∙ before.each p c
          ∙ sym (ap (chosen p c) (more p ∙ ap (λ (b : Bool). earlier p || b) (ne_eqb port p (λ e. away (sym e)))
          ∙ or_false (earlier p)))

-- what a class makes at a port with a sender more, and without it
pub share_at : (topology : DeclaredTopology) (port class : ℕ) (front : List Sender) (s : Sender) (back : List Sender)
    (b : Bool)
    → (uses port s && eqb (class_at s port) class) ≡ b
    → share_of class (senders_at topology port (front ++ s ∷ back))
    ≡ cond b (share_with (seen_at topology port s) (share_of class (senders_at topology port (front ++ back))))
    (share_of class (senders_at topology port (front ++ back)))
share_at topology port class front s back b is = by (uses port s) (eqb (class_at s port) class) refl refl
  where
    seen : PortSender
    seen = seen_at topology port s

    xs : List PortSender
    xs = senders_at topology port front

    ys : List PortSender
    ys = senders_at topology port back

    by : (u v : Bool) → uses port s ≡ u → eqb (class_at s port) class ≡ v
        → share_of class (senders_at topology port (front ++ s ∷ back))
        ≡ cond b (share_with seen (share_of class (senders_at topology port (front ++ back))))
        (share_of class (senders_at topology port (front ++ back)))
    by true v used of =
        let same : b ≡ v = sym is ∙ ap (λ (u : Bool). u && eqb (class_at s port) class) used ∙ of in
        ap (share_of class) (at_more topology port front s back ∙ ap (λ (u : Bool). xs ++ cond u (seen ∷ ys) ys) used)
        ∙ share_in class xs seen ys v of
        ∙ ap (λ (t : Bool). cond t (share_with seen (share_of class (xs ++ ys))) (share_of class (xs ++ ys))) (sym same)
        ∙ sym (ap (λ (l : List PortSender). cond b (share_with seen (share_of class l)) (share_of class l))
        (senders_at-append topology port front back))
    by false v used of =
        let none : b ≡ false = sym is ∙ ap (λ (u : Bool). u && eqb (class_at s port) class) used in
        ap (share_of class) (sym (at_same topology port front s back used))
        ∙ ap (λ (t : Bool). cond t (share_with seen (share_of class (senders_at topology port (front ++ back))))
        (share_of class (senders_at topology port (front ++ back)))) (sym none)

-- no sender is counted at first
pub shares_none : (topology : DeclaredTopology) (shares : Table Share)
    → IsFilled (length topology.ports) no_share shares → AreSharesAt topology [] shares
shares_none topology shares filled = record { count = filled.count; each = filled.each }

module _ (topology : DeclaredTopology) (front : List Sender) (s : Sender) (back : List Sender)
    (old now : Table Share) where
  -- the shares with a sender that enters along its path
  pub entered_are : AreSharesAt topology (front ++ back) old → Enters topology s old now
      → AreSharesAt topology (front ++ s ∷ back) now
  entered_are before enters = record {
    count = enters.count ∙ before.count;
    each = λ port class within most. enters.each port class
        ∙ by port class (uses port s && eqb (class_at s port) class) refl (before.each port class within most);
  }
    where
      by : (port class : ℕ) (b : Bool) → (uses port s && eqb (class_at s port) class) ≡ b
          → value_at old port class ≡ Some (share_of class (senders_at topology port (front ++ back)))
          → cond b (option_map (share_with (seen_at topology port s)) (value_at old port class))
          (value_at old port class)
          ≡ Some (share_of class (senders_at topology port (front ++ s ∷ back)))
      by port class true is was =
          ap (option_map (share_with (seen_at topology port s))) was
          ∙ ap Some (sym (share_at topology port class front s back true is))
      by port class false is was = was ∙ ap Some (sym (share_at topology port class front s back false is))

  -- and those without one that leaves
  pub left_are : AreSharesAt topology (front ++ s ∷ back) old
      → ChangesAlong (λ port class. Some (share_of class (senders_at topology port (front ++ back)))) s s.ports old now
      → AreSharesAt topology (front ++ back) now
  left_are before changes = record {
    count = changes.count ∙ before.count;
    each = λ port class within most. changes.each port class
        ∙ by port class (uses port s && eqb (class_at s port) class) refl (before.each port class within most);
  }
    where
      by : (port class : ℕ) (b : Bool) → (uses port s && eqb (class_at s port) class) ≡ b
          → value_at old port class ≡ Some (share_of class (senders_at topology port (front ++ s ∷ back)))
          → cond b (Some (share_of class (senders_at topology port (front ++ back)))) (value_at old port class)
          ≡ Some (share_of class (senders_at topology port (front ++ back)))
      by port class true is was = refl
      by port class false is was = was ∙ ap Some (share_at topology port class front s back false is)

  -- what the share of a leaving sender is before
  pub share_before : AreSharesAt topology (front ++ s ∷ back) old → (port class : ℕ) → port < length topology.ports
      → class ≤ 7
      → uses port s ≡ true → class_at s port ≡ class → value_at old port class
      ≡ Some (share_with (seen_at topology port s) (share_of class (senders_at topology port (front ++ back))))
  share_before before port class within most used of =
      before.each port class within most
      ∙ ap Some (share_at topology port class front s back true
      (ap (λ (u : Bool). u && eqb (class_at s port) class) used ∙ eq-eqb (class_at s port) class of))

-- with the next sender of a list
pub entered_next : (topology : DeclaredTopology) (senders : List Sender) (i : ℕ) (d : Sender) (old now : Table Share)
    → i < length senders → AreSharesAt topology (take i senders) old → Enters topology (get_or senders i d) old now
    → AreSharesAt topology (take (i + 1) senders) now
entered_next topology senders i d old now within before enters =
    subst (λ (l : List Sender). AreSharesAt topology l now) (sym (take_more senders i d within))
    (entered_are topology (take i senders) (get_or senders i d) [] old now
    (subst (λ (l : List Sender). AreSharesAt topology l old) (sym (append-nil (take i senders))) before) enters)
