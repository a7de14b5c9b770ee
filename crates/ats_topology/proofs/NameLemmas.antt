use Rattle.std.proofs.Common.{◌≡◌, ℕ, ◌+◌, ◌<◌, List, [], ◌∷◌, ◌++◌, length, get_or, take, Option, sym, ap, ◌∙◌, arith}
use Rattle.std.specs.Prelude.{is_some}
use Rattle.std.proofs.lemmas.List.{get_or-map, length-map, take_more}
use Rattle.ats_num.specs.Places.{place_of}
use Rattle.ats_topology.specs.Node.{names_of}
use Rattle.ats_topology.specs.Faults.{is_name_again}
use Rattle.ats_topology.specs.declared.node.Node.{Node}

-- the name at a place is that of the node there
pub name_at : (nodes : List Node) (i : ℕ) (node : Node) → i < length nodes → node ≡ get_or nodes i node
    → get_or (names_of nodes) i [] ≡ node.name
name_at nodes i node within read = get_or-map (λ (n : Node). n.name) nodes i node [] within
    ∙ ap (λ (n : Node). n.name) (sym read)

pub length-names_of : (nodes : List Node) → length (names_of nodes) ≡ length nodes
length-names_of nodes = length-map nodes (λ (n : Node). n.name)

-- what a look-up among the names before a place says of the name there
pub name_again : (nodes : List Node) (i : ℕ) (node : Node) (table : List (List ℕ)) (found : Option ℕ) → i < length nodes
    → node ≡ get_or nodes i node → table ≡ take i (names_of nodes)
    → found ≡ place_of node.name table → is_name_again (names_of nodes) i ≡ is_some found
name_again nodes i node table found within read so_far look_up =
    ap (λ (name : List ℕ). is_some (place_of name (take i (names_of nodes)))) (name_at nodes i node within read)
    ∙ sym (ap is_some (look_up ∙ ap (place_of node.name) so_far))

-- one name more
pub more_names : (nodes : List Node) (i : ℕ) (node : Node) (table : List (List ℕ)) → i < length nodes → node
    ≡ get_or nodes i node → table ≡ take i (names_of nodes) → table ++ node.name ∷ [] ≡ take (i + 1) (names_of nodes)
more_names nodes i node table within read so_far =
    let named : i < length (names_of nodes) = omega (arith, length-names_of nodes) in
    ap (λ (t : List (List ℕ)). t ++ node.name ∷ []) so_far
    ∙ sym (take_more (names_of nodes) i [] named
    ∙ ap (λ (name : List ℕ). take i (names_of nodes) ++ name ∷ []) (name_at nodes i node within read))
