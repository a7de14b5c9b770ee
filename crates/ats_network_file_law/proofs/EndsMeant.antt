-- What a route by its ends is, and one by the nodes along it.
use Rattle.std.proofs.Common.{◌≡◌, ◌∙◌, ℕ, List, Option, None, Some, refl, ap}
use Rattle.std.specs.Prelude.{option_and_then}
use Rattle.ats_num.specs.Places.{place_of}
use Rattle.ats_topology.specs.Node.{names_of}
use Rattle.ats_topology.specs.Topology.{DeclaredTopology}
use Rattle.ats_network.specs.Shortest.{shortest_of}
use Rattle.ats_network_file_law.specs.Ends.{EndsAreMeant, PathsAreMeant}
use Rattle.ats_network_file_law.proofs.Accepted.{no_fault}
use Rattle.ats_network_file_law.proofs.WrittenPaths.{path_back}

-- by the places of both
abbrev between : DeclaredTopology → Option ℕ → Option ℕ → Option (List ℕ)
between topology from to = option_and_then (λ a. option_and_then (λ b. shortest_of topology a b) to) from

-- with no last place there is none, whatever the first is
no_last : (topology : DeclaredTopology) (from : Option ℕ) → between topology from None ≡ None
no_last topology None = refl
no_last topology (Some a) = refl

pub ends_are_meant : EndsAreMeant
ends_are_meant topology from to =
    let names : List (List ℕ) = names_of topology.nodes in
    record {
      least = λ a b first last. ap (λ (o : Option ℕ). between topology o (place_of to names)) first
          ∙ ap (λ (o : Option ℕ). between topology (Some a) o) last;
      no_first = λ first. ap (λ (o : Option ℕ). between topology o (place_of to names)) first;
      no_last = λ last. ap (λ (o : Option ℕ). between topology (place_of from names) o) last
          ∙ no_last topology (place_of from names);
    }

-- and what a route by the nodes along it is
pub paths_are_meant : PathsAreMeant
paths_are_meant nodes links ports is once valid = path_back nodes links ports (no_fault nodes links is once) valid
