use Rattle.std.proofs.Common.{◌≡◌, ℕ, ◌+◌, ◌<◌, ◌^◌, Bool, true, false, cond, List, [], ◌∷◌, ◌++◌, length, get_or, set}
use Rattle.std.proofs.Common.{Option, Some, None, refl, sym, ap, ◌∙◌, arith, eqb, length-append, get_or-set_same}
use Rattle.std.proofs.Common.{get_or-set_other, length-set, ⊎_elim}
use Rattle.std.specs.Prelude.{is_some}
use Rattle.std.specs.Global.{Vec}
use Rattle.std.specs.BTreeMap.{BTreeMap, get, Updates}
use Rattle.std.proofs.lemmas.Bool.{cases_eq, eqb-true, eq-eqb, ne_eqb, and_parts}
use Rattle.std.proofs.lemmas.List.{append-nil}
use Rattle.ats_facts.proofs.Options.{cond-is_some}
use Rattle.ats_facts.proofs.Lists.{position_from-push}
use Rattle.ats_topology.specs.Port.{goes, leaves, port_between, leaving, leaving_from}
use Rattle.ats_topology.specs.PortTable.{AreIndexed}
use Rattle.ats_topology.specs.declared.port.Port.{Port}
use Rattle.ats_topology.proofs.Pairs.{pair_cmp, is_eq-pair_cmp}

-- a port at the end is the last that leaves its node, and leaves the other nodes' lists as they are
pub leaving_from-push : (node k : ℕ) (ports : List Port) (port : Port) → leaving_from node k (ports ++ port ∷ [])
    ≡ leaving_from node k ports ++ cond (leaves node port) ((k + length ports) ∷ []) []
leaving_from-push node k [] port = ap (λ (n : ℕ). cond (leaves node port) (n ∷ []) []) (omega arith)
leaving_from-push node k (p ∷ ports) port = by (leaves node p) (leaving_from-push node (k + 1) ports port
    ∙ ap (λ (n : ℕ). leaving_from node (k + 1) ports ++ cond (leaves node port) (n ∷ []) []) (omega arith))
  where
    by : (b : Bool) → leaving_from node (k + 1) (ports ++ port ∷ [])
        ≡ leaving_from node (k + 1) ports ++ cond (leaves node port) ((k + length (p ∷ ports)) ∷ []) []
        → cond b (k ∷ leaving_from node (k + 1) (ports ++ port ∷ [])) (leaving_from node (k + 1) (ports ++ port ∷ []))
        ≡ cond b (k ∷ leaving_from node (k + 1) ports) (leaving_from node (k + 1) ports)
        ++ cond (leaves node port) ((k + length (p ∷ ports)) ∷ []) []
    by true h = ap (λ (t : List ℕ). k ∷ t) h
    by false h = h

-- a map with one port more
found_push : (ports : List Port) (port : Port) (old new : BTreeMap (ℕ × ℕ) ℕ)
    → ((a b : ℕ) → get pair_cmp old (a, b) ≡ port_between a b ports) → port_between port.from port.to ports ≡ None
    → Updates pair_cmp old new (port.from, port.to) (Some (length ports)) → (a b : ℕ)
    → get pair_cmp new (a, b) ≡ port_between a b (ports ++ port ∷ [])
found_push ports port old new found absent updates a b = by (goes a b port) refl
  where
    by : (t : Bool) → goes a b port ≡ t → get pair_cmp new (a, b) ≡ port_between a b (ports ++ port ∷ [])
    by true e =
        let parts : (eqb port.from a ≡ true) × (eqb port.to b ≡ true) = and_parts (eqb port.from a) (eqb port.to b) e in
        let here : port_between a b ports ≡ None =
        ap (λ (n : ℕ). port_between n b ports) (sym (eqb-true port.from a parts.0))
        ∙ ap (λ (n : ℕ). port_between port.from n ports) (sym (eqb-true port.to b parts.1)) ∙ absent in
        updates.0 (a, b) ∙ ap (λ (t : Bool). cond t (Some (length ports)) (get pair_cmp old (a, b)))
        (is_eq-pair_cmp (port.from, port.to) (a, b) ∙ e)
        ∙ sym (position_from-push (goes a b) 0 ports port
        ∙ ap (λ (o : Option ℕ). cond (is_some o) o (cond (goes a b port) (Some (0 + length ports)) None)) here
        ∙ ap (λ (t : Bool). cond t (Some (0 + length ports)) None) e ∙ ap Some (omega arith))
    by false e =
        updates.0 (a, b) ∙ ap (λ (t : Bool). cond t (Some (length ports)) (get pair_cmp old (a, b)))
        (is_eq-pair_cmp (port.from, port.to) (a, b) ∙ e) ∙ found a b
        ∙ sym (position_from-push (goes a b) 0 ports port ∙ ap (λ (t : Bool). cond (is_some (port_between a b ports))
        (port_between a b ports) (cond t (Some (0 + length ports)) None)) e ∙ cond-is_some (port_between a b ports))

-- the lists with one port more, of which the list of its node is written twice
lists_push : (ports : List Port) (port : Port) (lists : List (Vec ℕ)) (one two : Vec ℕ) → port.from < length lists
    → ((node : ℕ) (d : Vec ℕ) → node < length lists → (get_or lists node d).items ≡ leaving node ports)
    → one.items ≡ leaving port.from ports → two.items ≡ one.items ++ length ports ∷ []
    → (node : ℕ) (d : Vec ℕ) → node < length (set (set lists port.from one) port.from two)
    → (get_or (set (set lists port.from one) port.from two) node d).items ≡ leaving node (ports ++ port ∷ [])
lists_push ports port lists one two inside listed first second node d within =
    ⊎_elim here elsewhere (cases_eq node port.from)
  where
    more : leaving node (ports ++ port ∷ []) ≡ leaving node ports ++ cond (leaves node port) (length ports ∷ []) []
    more = leaving_from-push node 0 ports port
        ∙ ap (λ (n : ℕ). leaving node ports ++ cond (leaves node port) (n ∷ []) []) (omega arith)

    here : node ≡ port.from
        → (get_or (set (set lists port.from one) port.from two) node d).items ≡ leaving node (ports ++ port ∷ [])
    here same =
        let in_mid : port.from < length (set lists port.from one) = omega (arith, length-set {A = Vec ℕ}) in
        ap (λ (n : ℕ). (get_or (set (set lists port.from one) port.from two) n d).items) same
        ∙ ap (λ (v : Vec ℕ). v.items) (get_or-set_same (set lists port.from one) port.from two d in_mid)
        ∙ second ∙ ap (λ (t : List ℕ). t ++ length ports ∷ []) (first ∙ ap (λ (n : ℕ). leaving n ports) (sym same))
        ∙ ap (λ (t : Bool). leaving node ports ++ cond t (length ports ∷ []) [])
        (sym (eq-eqb port.from node (sym same)))
        ∙ sym more

    elsewhere : (node ≡ port.from → ⊥)
        → (get_or (set (set lists port.from one) port.from two) node d).items ≡ leaving node (ports ++ port ∷ [])
    elsewhere apart =
        ap (λ (v : Vec ℕ). v.items) (get_or-set_other (set lists port.from one) port.from node two d apart
        ∙ get_or-set_other lists port.from node one d apart)
        ∙ listed node d (omega (arith, length-set {A = Vec ℕ}))
        ∙ sym (more ∙ ap (λ (t : Bool). leaving node ports ++ cond t (length ports ∷ []) [])
        (ne_eqb port.from node (λ e. apart (sym e))) ∙ append-nil (leaving node ports))

-- a table with one port more
pub indexed_push : (ports : List Port) (port : Port) (old new : BTreeMap (ℕ × ℕ) ℕ) (lists : List (Vec ℕ))
    (one two : Vec ℕ) → AreIndexed ports old lists
    → port.from < length lists → port_between port.from port.to ports ≡ None → length ports + 1 < 2 ^ 32
    → Updates pair_cmp old new (port.from, port.to) (Some (length ports)) → one.items ≡ leaving port.from ports
    → two.items ≡ one.items ++ length ports ∷ []
    → AreIndexed (ports ++ port ∷ []) new (set (set lists port.from one) port.from two)
indexed_push ports port old new lists one two indexed inside absent room updates first second = record {
  found = found_push ports port old new indexed.found absent updates;
  leaving = lists_push ports port lists one two inside indexed.leaving first second;
  few = omega (arith, length-append ports (port ∷ []));
}
