-- What the senders at ports make of classes, put port by port, and whether some sender is of a class.
use Rattle.std.proofs.Common.{◌≡◌, ◌≢◌, ℕ, ◌+◌, ◌<◌, ◌≤◌, Bool, true, false, cond, List, [], ◌∷◌, length, get_or}
use Rattle.std.proofs.Common.{map, filter, Option, Some, refl, sym, ap, subst, ◌∙◌, ◌⊎◌, inl, inr, ⊎_elim, arith}
use Rattle.std.specs.Prelude.{is_some, slice_get, ◌||◌}
use Rattle.std.specs.List.{list_any}
use Rattle.std.proofs.lemmas.Bool.{cases_Bool, cases_eq}
use Rattle.std.proofs.lemmas.List.Folds.{list_any_none, list_any-append}
use Rattle.std.proofs.lemmas.Option.{slice_get-get_or}
use Rattle.ats_class_table.specs.Table.{Sets, Table, value_at}
use Rattle.ats_topology.specs.Topology.{DeclaredTopology}
use Rattle.ats_network.specs.Sender.{Sender, stream_sender, flow_sender}
use Rattle.ats_network.specs.Class.{PortSender}
use Rattle.ats_network.specs.Network.{DeclaredNetwork, IsNetwork, senders_of}
use Rattle.ats_certificate.specs.PortSums.{is_of, shortest, senders_at, is_used}
use Rattle.ats_tally.specs.Tally.{least_known, IsTally}
use Rattle.ats_tally.specs.declared.tally.Tally.{Tally}
use Rattle.ats_tally.proofs.Places.{IsPlace, is_place}
use Rattle.ats_tally.proofs.SeenLemmas.{senders_at-append, flows_class}
use Rattle.ats_tally.specs.Tallies.{AreClassTallies, AreTallies, IsTallied, SetsTallies}

-- no tally of a port is put at first
pub set_none : (port : ℕ) (tallies : List Tally) (table : Table Tally) → SetsTallies port 0 tallies table table
set_none port tallies table = record {
  count = refl;
  here = λ class below. absurd (omega arith);
  others = λ p class away. refl;
}

-- then that of the next class
pub set_more : (port class : ℕ) (tallies : List Tally) (old now next : Table Tally) (tally : Tally)
    → class < length tallies → tally ≡ get_or tallies class tally → Sets port class tally now next
    → SetsTallies port class tallies old now → SetsTallies port (class + 1) tallies old next
set_more port class tallies old now next tally within is sets before = record {
  count = sets.count ∙ before.count;
  here = λ k below. by k below (cases_eq k class);
  others = λ p k away. sets.others p k (inl away) ∙ before.others p k away;
}
  where
    by : (k : ℕ) → k < class + 1 → (k ≡ class) ⊎ (k ≡ class → ⊥) → value_at next port k ≡ slice_get tallies k
    by k below (inl e) =
        ap (value_at next port) e ∙ sets.here ∙ ap Some is ∙ sym (slice_get-get_or tallies class tally within)
        ∙ ap (slice_get tallies) (sym e)
    by k below (inr other) =
        let differ : k ≢ class = other in
        sets.others port k (inr other) ∙ before.here k (omega (arith, below, differ))

-- the tallies of the ports below one are there
pub record AreBelow (topology : DeclaredTopology) (below : ℕ) (senders : List Sender)
    (tallies : Table Tally) : Type 0 where
  pub count : tallies.ports ≡ length topology.ports
  pub each : (port class : ℕ) → port < below → 1 ≤ class → class ≤ 7
      → IsTallied class (senders_at topology port senders) (value_at tallies port class)

pub below_none : (topology : DeclaredTopology) (senders : List Sender) (tallies : Table Tally)
    → tallies.ports ≡ length topology.ports → AreBelow topology 0 senders tallies
below_none topology senders tallies count =
    record { count = count; each = λ port class below least most. absurd (omega arith) }

pub below_more : (topology : DeclaredTopology) (port : ℕ) (senders : List Sender) (old new : Table Tally)
    (tallies : List Tally)
    → AreBelow topology port senders old → AreClassTallies (senders_at topology port senders) tallies
    → SetsTallies port 8 tallies old new → AreBelow topology (port + 1) senders new
below_more topology port senders old new tallies before are sets = record {
  count = sets.count ∙ before.count;
  each = λ p class below least most. by p class below least most (cases_eq p port);
}
  where
    by : (p class : ℕ) → p < port + 1 → 1 ≤ class → class ≤ 7 → (p ≡ port) ⊎ (p ≡ port → ⊥)
        → IsTallied class (senders_at topology p senders) (value_at new p class)
    by p class below least most (inl e) =
        subst (λ (n : ℕ). IsTallied class (senders_at topology n senders) (value_at new n class)) (sym e)
        (subst (IsTallied class (senders_at topology port senders)) (sym (sets.here class (omega (arith, most))))
        (are class least most))
    by p class below least most (inr other) =
        let differ : p ≢ port = other in
        subst (IsTallied class (senders_at topology p senders)) (sym (sets.others p class other))
        (before.each p class (omega (arith, below, differ)) least most)

pub below_all : (topology : DeclaredTopology) (below : ℕ) (senders : List Sender) (tallies : Table Tally)
    → length topology.ports ≤ below → AreBelow topology below senders tallies → AreTallies topology senders tallies
below_all topology below senders tallies all are = record {
  count = are.count;
  each = λ port class within least most. are.each port class (omega (arith, within, all)) least most;
}

-- no stream is at a port that a network does not have
pub not_used : (network : DeclaredNetwork) (port class : ℕ) → IsNetwork network → length network.topology.ports ≤ port
    → is_used network port class ≡ false
not_used network port class is outside = ⊎_elim
    (λ used. absurd
    (let at : IsPlace network port class = is_place network port class is used in omega (arith, at.within, outside)))
    (λ unused. unused)
    (cases_Bool (is_used network port class))

-- a shortest frame is known where some sender is of the class
known_any : (class : ℕ) (senders : List PortSender)
    → is_some (least_known (map shortest (filter (is_of class) senders))) ≡ list_any (is_of class) senders
known_any class [] = refl
known_any class (s ∷ senders) = by (is_of class s) (known_any class senders)
  where
    by : (b : Bool)
        → is_some (least_known (map shortest (filter (is_of class) senders))) ≡ list_any (is_of class) senders
        → is_some
        (least_known (map shortest (cond b (s ∷ filter (is_of class) senders) (filter (is_of class) senders))))
        ≡ (b || list_any (is_of class) senders)
    by true h = refl
    by false h = h

pub used_is : (network : DeclaredNetwork) (port class : ℕ) (tally : Tally) → 1 ≤ class
    → IsTally class (senders_at network.topology port (senders_of network)) tally → is_some tally.least
    ≡ is_used network port class
used_is network port class tally shaped h =
    let streams : List Sender = map stream_sender network.streams in
    let flows : List Sender = map flow_sender network.flows in
    let none : list_any (is_of class) (senders_at network.topology port flows) ≡ false =
    list_any_none (is_of class) (senders_at network.topology port flows)
    (flows_class network.topology port class network.flows shaped) in
    ap (λ (o : Option ℕ). is_some o) h.least
    ∙ known_any class (senders_at network.topology port (senders_of network))
    ∙ ap (list_any (is_of class)) (senders_at-append network.topology port streams flows)
    ∙ list_any-append (is_of class) (senders_at network.topology port streams) (senders_at network.topology port flows)
    ∙ ap (λ (b : Bool). list_any (is_of class) (senders_at network.topology port streams) || b) none
    ∙ or_no (list_any (is_of class) (senders_at network.topology port streams))
  where
    or_no : (b : Bool) → (b || false) ≡ b
    or_no true = refl
    or_no false = refl
