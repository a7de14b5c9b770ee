use Rattle.std.proofs.Common.{◌≡◌, ℕ, ◌<◌, true, List, length, get_or, replicate, Option, Some, None, refl}
use Rattle.std.proofs.Common.{sym, ap, subst, ◌∙◌, arith}
use Rattle.std.specs.Prelude.{◌==◌, option_and_then, IfSome}
use Rattle.std.specs.List.{All}
use Rattle.std.specs.Str.{bytes_eq}
use Rattle.std.proofs.lemmas.Bool.{eqb-true, and_parts}
use Rattle.std.proofs.lemmas.List.{get_or_default, length-replicate}
use Rattle.std.proofs.lemmas.List.Elements.{All-get_or, All-replicate}
use Rattle.ats_facts.proofs.Bytes.{bytes_eq-true}
use Rattle.ats_num.specs.Places.{place_of}
use Rattle.ats_topology.specs.Node.{names_of, AreApart}
use Rattle.ats_topology.specs.Port.{port_at, port_between, no_port, GoesBetween}
use Rattle.ats_topology.specs.Topology.{DeclaredTopology, HasLawfulPorts, IsPort, node_at, no_node}
use Rattle.ats_topology.specs.declared.port.Port.{Port}
use Rattle.ats_topology.proofs.KeptRules.{goes_between}
use Rattle.ats_topology.proofs.NameLemmas.{name_at, length-names_of}
use Rattle.ats_network_file.specs.Routes.{port_to}
use Rattle.ats_network_file.specs.KeptSteps.{IsStep, AreSteps, goes_to}
use Rattle.ats_network_file.specs.declared.kept_steps.KeptSteps.{KeptSteps}
use Rattle.ats_network_file.specs.declared.kept_steps.TheConstants.{PLACES}

-- places where nothing is kept keep steps of any topology
pub none_kept : (topology : DeclaredTopology) (steps : KeptSteps) → steps.ports.items ≡ replicate PLACES None
    → AreSteps topology steps
none_kept topology steps is = let nothing : Option ℕ = None in record {
  long = ap length is ∙ length-replicate PLACES nothing;
  each = subst (All (λ (kept : Option ℕ). IfSome kept (IsStep topology.ports))) (sym is)
      (All-replicate (λ (kept : Option ℕ). IfSome kept (IsStep topology.ports)) PLACES None tt);
}

-- what is read at a place is a step
pub step_read : (topology : DeclaredTopology) (steps : KeptSteps) (place : ℕ) (read : Option ℕ) (p : ℕ)
    → AreSteps topology steps → place < PLACES → read ≡ get_or steps.ports.items place read → read ≡ Some p
    → IsStep topology.ports p
step_read topology steps place read p kept within is some =
    subst (λ (o : Option ℕ). IfSome o (IsStep topology.ports)) (sym is ∙ some)
    (All-get_or (λ (o : Option ℕ). IfSome o (IsStep topology.ports)) steps.ports.items place read
    (omega (arith, kept.long)) kept.each)

-- a step is one of the ports
pub step_within : (ports : List Port) (p : ℕ) → IsStep ports p → p < length ports
step_within ports p step =
    let goes : GoesBetween ports (port_at ports p).from (port_at ports p).to p =
    goes_between ports (port_at ports p).from (port_at ports p).to (Some p) (sym step) in
    goes.within

-- each port leads to a node
pub leads_within : (topology : DeclaredTopology) (p : ℕ) → HasLawfulPorts topology → p < length topology.ports
    → (port_at topology.ports p).to < length topology.nodes
leads_within topology p lawful within =
    let is : IsPort (length topology.nodes) (port_at topology.ports p) =
    All-get_or (IsPort (length topology.nodes)) topology.ports p no_port within lawful.each in
    is.between.to

-- a node has the number of its name
node_place : (topology : DeclaredTopology) (n : ℕ) → AreApart (names_of topology.nodes) → n < length topology.nodes
    → place_of (node_at topology.nodes n).name (names_of topology.nodes) ≡ Some n
node_place topology n apart within =
    ap (λ (name : List ℕ). place_of name (names_of topology.nodes))
    (sym (name_at topology.nodes n (node_at topology.nodes n) within
    (get_or_default topology.nodes n no_node (node_at topology.nodes n) within)))
    ∙ apart n (omega (arith, length-names_of topology.nodes))

-- a step that goes from a node to the one with a name is the port to it
pub step_is : (topology : DeclaredTopology) (p from : ℕ) (name : List ℕ) → AreApart (names_of topology.nodes)
    → HasLawfulPorts topology → IsStep topology.ports p → goes_to topology p from name ≡ true
    → port_to topology from name ≡ Some p
step_is topology p from name apart lawful step goes =
    let port = port_at topology.ports p in
    let parts : (port.from == from ≡ true) × (bytes_eq (node_at topology.nodes port.to).name name ≡ true) =
    and_parts (port.from == from) (bytes_eq (node_at topology.nodes port.to).name name) goes in
    let within : port.to < length topology.nodes =
    leads_within topology p lawful (step_within topology.ports p step) in
    let named : place_of name (names_of topology.nodes) ≡ Some port.to =
    ap (λ (n : List ℕ). place_of n (names_of topology.nodes))
    (sym (bytes_eq-true (node_at topology.nodes port.to).name name parts.1))
    ∙ node_place topology port.to apart within in
    ap (option_and_then (λ b. port_between from b topology.ports)) named
    ∙ ap (λ (n : ℕ). port_between n port.to topology.ports) (sym (eqb-true port.from from parts.0)) ∙ step

-- the port to a node is one of the ports
pub to_within : (topology : DeclaredTopology) (a p : ℕ) (name : List ℕ) → port_to topology a name ≡ Some p
    → p < length topology.ports
to_within topology a p name is = by (place_of name (names_of topology.nodes)) is
  where
    by : (place : Option ℕ) → option_and_then (λ b. port_between a b topology.ports) place ≡ Some p
        → p < length topology.ports
    by None e = cc
    by (Some b) e = (goes_between topology.ports a b (Some p) (sym e)).within

-- what only None fulfils is fulfilled by None alone
pub none_only : (C : Option ℕ → Type 0) → ((n : ℕ) → C (Some n) → ⊥) → (o : Option ℕ) → C o → o ≡ None
none_only C not_some None h = refl
none_only C not_some (Some n) h = absurd (not_some n h)
