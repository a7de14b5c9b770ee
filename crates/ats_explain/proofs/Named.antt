-- The names of the senders of the longest lower frames.
use Rattle.std.proofs.Common.{◌≡◌, ◌≢◌, ◌+◌, ◌<◌, ◌≤◌, ℕ, Bool, true, false, cond, List, [], ◌∷◌, get_or}
use Rattle.std.proofs.Common.{drop, take, length, Option, Some, None, refl, sym, ap, ◌∙◌, inl, inr}
use Rattle.std.proofs.Common.{⊎_elim, eqb, arith, drop-cons}
use Rattle.std.proofs.Common.{add-one}
use Rattle.std.specs.Prelude.{◌&&◌, ◌||◌}
use Rattle.std.specs.List.{find, list_any}
use Rattle.std.proofs.lemmas.Bool.{cases_eq, eq-eqb, ne_eqb}
use Rattle.std.proofs.lemmas.List.{drop_all}
use Rattle.std.proofs.lemmas.List.Folds.{list_any_more}
use Rattle.ats_class_table.specs.Table.{IsFilled, Sets, Table, value_at}
use Rattle.ats_network.specs.Class.{PortSender, seen_at}
use Rattle.ats_network.specs.Network.{DeclaredNetwork, senders_of}
use Rattle.ats_network.specs.Sender.{Sender}
use Rattle.ats_network.specs.Senders.{no_sender, sender_at}
use Rattle.ats_certificate.specs.PortSums.{port_sums}
use Rattle.ats_explain.specs.Senders.{is_lower_of, name_of, sends_lower}
use Rattle.ats_explain.specs.Table.{NamesAt, NamesFrom}

-- no sender is named yet
pub named_none : (network : DeclaredNetwork) (names : Table (Option (List ℕ))) (count ports : ℕ)
    → IsFilled ports None names → ports ≡ length network.topology.ports → length (senders_of network) ≤ count
    → NamesFrom network count names
named_none network names count ports filled e past = record {
  count = filled.count ∙ e;
  each = λ port class within least most.
      filled.each port class (omega (arith, e, within)) most
      ∙ sym (ap (λ (l : List Sender). Some (name_of (find (sends_lower network.topology port class
      (port_sums network port class).lower) l))) (drop_all count (senders_of network) past));
}

-- no class has the name yet
pub at_none : (network : DeclaredNetwork) (port : ℕ) (sender : PortSender) (name : List ℕ)
    (table : Table (Option (List ℕ))) → NamesAt network port sender name 1 table table
at_none network port sender name table = record {
  count = refl;
  named = λ class least below. absurd (omega arith);
  kept = λ p class out. refl;
}

-- one class more, whose name is written
pub at_set : (network : DeclaredNetwork) (port : ℕ) (sender : PortSender) (name : List ℕ) (below : ℕ)
    (old new next : Table (Option (List ℕ))) → NamesAt network port sender name below old new
    → is_lower_of below (port_sums network port below).lower sender ≡ true → Sets port below (Some name) new next
    → NamesAt network port sender name (below + 1) old next
at_set network port sender name below old new next before is sets = record {
  count = sets.count ∙ before.count;
  named = λ class least low. ⊎_elim (here class) (elsewhere class least low) (cases_eq class below);
  kept = λ p class out. sets.others p class (⊎_elim (λ h. inl h) (λ h. inr (λ e. omega (arith, e, h))) out)
      ∙ before.kept p class (⊎_elim (λ h. inl h) (λ h. inr (omega (arith, h))) out);
}
  where
    due : ℕ → Bool
    due class = is_lower_of class (port_sums network port class).lower sender

    here : (class : ℕ) → class ≡ below
        → value_at next port class ≡ cond (due class) (Some (Some name)) (value_at old port class)
    here class same = ap (value_at next port) same ∙ sets.here
        ∙ ap (λ (b : Bool). cond b (Some (Some name)) (value_at old port below)) (sym is)
        ∙ ap (λ (n : ℕ). cond (due n) (Some (Some name)) (value_at old port n)) (sym same)

    elsewhere : (class : ℕ) → 1 ≤ class → class < below + 1 → (class ≡ below → ⊥)
        → value_at next port class ≡ cond (due class) (Some (Some name)) (value_at old port class)
    elsewhere class least low other =
        sets.others port class (inr other)
        ∙ before.named class least (let differ : class ≢ below = other in omega (arith, differ))

-- one class more, in which another name is due
pub at_kept : (network : DeclaredNetwork) (port : ℕ) (sender : PortSender) (name : List ℕ) (below : ℕ)
    (old new : Table (Option (List ℕ))) → NamesAt network port sender name below old new
    → is_lower_of below (port_sums network port below).lower sender ≡ false
    → NamesAt network port sender name (below + 1) old new
at_kept network port sender name below old new before is = record {
  count = before.count;
  named = λ class least low. ⊎_elim (here class) (elsewhere class least low) (cases_eq class below);
  kept = λ p class out. before.kept p class (⊎_elim (λ h. inl h) (λ h. inr (omega (arith, h))) out);
}
  where
    due : ℕ → Bool
    due class = is_lower_of class (port_sums network port class).lower sender

    here : (class : ℕ) → class ≡ below
        → value_at new port class ≡ cond (due class) (Some (Some name)) (value_at old port class)
    here class same = before.kept port class (inr (omega (arith, same)))
        ∙ ap (λ (b : Bool). cond b (Some (Some name)) (value_at old port class)) (sym (ap due same ∙ is))

    elsewhere : (class : ℕ) → 1 ≤ class → class < below + 1 → (class ≡ below → ⊥)
        → value_at new port class ≡ cond (due class) (Some (Some name)) (value_at old port class)
    elsewhere class least low other =
        before.named class least (let differ : class ≢ below = other in omega (arith, differ))

-- the names of the later senders, with that of a sender at these of its ports
pub record NamesAlong (network : DeclaredNetwork) (sender : Sender) (ports : List ℕ)
    (old new : Table (Option (List ℕ))) : Type 0 where
  pub count : new.ports ≡ old.ports
  pub each : (port class : ℕ) → port < length network.topology.ports → 1 ≤ class → class ≤ 7
      → value_at new port class
      ≡ cond (list_any (λ p. eqb p port) ports
      && is_lower_of class (port_sums network port class).lower (seen_at network.topology port sender))
      (Some (Some sender.name)) (value_at old port class)

pub along_none : (network : DeclaredNetwork) (sender : Sender) (table : Table (Option (List ℕ)))
    → NamesAlong network sender [] table table
along_none network sender table = record { count = refl; each = λ port class within least most. refl }

pub along_more : (network : DeclaredNetwork) (sender : Sender) (hop : ℕ) (old new next : Table (Option (List ℕ)))
    → hop < length sender.ports → NamesAlong network sender (take hop sender.ports) old new
    → NamesAt network (get_or sender.ports hop 0) (seen_at network.topology (get_or sender.ports hop 0) sender)
    sender.name 8 new next
    → NamesAlong network sender (take (hop + 1) sender.ports) old next
along_more network sender hop old new next inside before adds = record {
  count = adds.count ∙ before.count;
  each = λ port class within least most. ⊎_elim (here port class within least most)
      (elsewhere port class within least most) (cases_eq port at);
}
  where
    at : ℕ
    at = get_or sender.ports hop 0

    due : ℕ → ℕ → Bool
    due port class = is_lower_of class (port_sums network port class).lower (seen_at network.topology port sender)

    more : (port : ℕ) → list_any (λ p. eqb p port) (take (hop + 1) sender.ports)
        ≡ (list_any (λ p. eqb p port) (take hop sender.ports) || eqb at port)
    more port = list_any_more (λ p. eqb p port) sender.ports hop 0 inside

    both : (h t : Bool) (x y : Option (Option (List ℕ))) → cond t x (cond (h && t) x y) ≡ cond ((h || true) && t) x y
    both true true x y = refl
    both true false x y = refl
    both false true x y = refl
    both false false x y = refl

    same_or : (h t : Bool) (x y : Option (Option (List ℕ))) → cond (h && t) x y ≡ cond ((h || false) && t) x y
    same_or true t x y = refl
    same_or false t x y = refl

    here : (port class : ℕ) → port < length network.topology.ports → 1 ≤ class → class ≤ 7
        → port ≡ at → value_at next port class
        ≡ cond (list_any (λ p. eqb p port) (take (hop + 1) sender.ports) && due port class) (Some (Some sender.name))
        (value_at old port class)
    here port class within least most same =
        ap (λ (n : ℕ). value_at next n class) same
        ∙ adds.named class least (omega arith)
        ∙ ap (λ (n : ℕ). cond (due n class) (Some (Some sender.name)) (value_at new n class)) (sym same)
        ∙ ap (cond (due port class) (Some (Some sender.name))) (before.each port class within least most)
        ∙ both (list_any (λ p. eqb p port) (take hop sender.ports)) (due port class) (Some (Some sender.name))
        (value_at old port class)
        ∙ ap (λ (b : Bool). cond (b && due port class) (Some (Some sender.name)) (value_at old port class))
        (ap (λ (b : Bool). list_any (λ p. eqb p port) (take hop sender.ports) || b) (sym (eq-eqb at port (sym same)))
        ∙ sym (more port))

    elsewhere : (port class : ℕ) → port < length network.topology.ports → 1 ≤ class → class ≤ 7
        → (port ≡ at → ⊥) → value_at next port class
        ≡ cond (list_any (λ p. eqb p port) (take (hop + 1) sender.ports) && due port class) (Some (Some sender.name))
        (value_at old port class)
    elsewhere port class within least most other =
        adds.kept port class (inl other)
        ∙ before.each port class within least most
        ∙ same_or (list_any (λ p. eqb p port) (take hop sender.ports)) (due port class) (Some (Some sender.name))
        (value_at old port class)
        ∙ ap (λ (b : Bool). cond (b && due port class) (Some (Some sender.name)) (value_at old port class))
        (ap (λ (b : Bool). list_any (λ p. eqb p port) (take hop sender.ports) || b)
        (sym (ne_eqb at port (λ e. other (sym e)))) ∙ sym (more port))

-- a whole path is named, so the sender stands before the later ones
pub named_more : (network : DeclaredNetwork) (i : ℕ) (old new : Table (Option (List ℕ)))
    → i < length (senders_of network) → NamesFrom network (i + 1) old
    → NamesAlong network (sender_at network i) (sender_at network i).ports old new → NamesFrom network i new
named_more network i old new within later along = record {
  count = along.count ∙ later.count;
  each = λ port class inside least most.
      along.each port class inside least most
      ∙ ap (cond (sends port class sender) (Some (Some sender.name)))
      (later.each port class inside least most)
      ∙ chosen (sends port class sender) (find (sends port class) (drop (i + 1) (senders_of network)))
      ∙ ap (λ (l : List Sender). Some (name_of (find (sends port class) l)))
      (ap (λ (n : ℕ). sender ∷ drop n (senders_of network)) (add-one i)
      ∙ sym (drop-cons (senders_of network) i no_sender within));
}
  where
    sender : Sender
    sender = sender_at network i

    sends : ℕ → ℕ → Sender → Bool
    sends port class = sends_lower network.topology port class (port_sums network port class).lower

    chosen : (b : Bool) (o : Option Sender)
        → cond b (Some (Some sender.name)) (Some (name_of o)) ≡ Some (name_of (cond b (Some sender) o))
    chosen true o = refl
    chosen false o = refl
