-- What is read of routes whose ports are known.
use Rattle.std.proofs.Common.{◌≡◌, ℕ, Bool, true, false, List, Option, Some, None, Result, Ok, Err, refl, ap, ◌∙◌}
use Rattle.std.specs.Prelude.{option_and_then}
use Rattle.std.specs.List.{All}
use Rattle.ats_num.specs.Failure.{◌>>=◌, ok_where, or_fault}
use Rattle.ats_streams.specs.Branches.{routes_of}
use Rattle.ats_network_table.specs.declared.format.Format.{Format}
use Rattle.ats_topology.specs.Topology.{DeclaredTopology}
use Rattle.ats_network.specs.Path.{IsValidPath}
use Rattle.ats_network_toml.specs.Document as file
use Rattle.ats_route_tree.specs.Legs.{DeclaredLegs}
use Rattle.ats_route_tree.specs.Steps.{legs_found}
use Rattle.ats_route_tree.proofs.Found.{have_valid}
use Rattle.ats_network_file.specs.Routes.{legs_with, may_declare, ports_of_each}
use Rattle.ats_network_file.specs.Senders.{legs_in}
use Rattle.ats_network_file.specs.declared.senders.Place.{Place}
use Rattle.ats_network_file.specs.declared.fault.NetFault.{NetFault}
use Rattle.ats_network_file.specs.declared.fault.NetFault.TheVariants as net
use Rattle.ats_network_file.proofs.Trees.{legs_by_steps, legs_have}

-- what becomes of the legs of an entry
abbrev judged : Format → DeclaredTopology → Place → Option DeclaredLegs → Result DeclaredLegs NetFault
judged format topology place legs = or_fault (net.BadPath place.table place.number) legs
    >>= λ l. ok_where (may_declare format topology (routes_of l.ports l.branches))
    (net.BadPath place.table place.number) l

-- the legs of these routes, where a file of the format may declare them
pub legs_are : (format : Format) (topology : DeclaredTopology) (place : Place) (routes : List file.DeclaredRoute)
    (paths : List (List ℕ)) (legs : DeclaredLegs) → ports_of_each topology routes ≡ Some paths
    → All (IsValidPath topology) paths → legs_found topology paths ≡ Some legs
    → may_declare format topology (routes_of legs.ports legs.branches) ≡ true
    → legs_in format topology place routes ≡ Ok legs
legs_are format topology place routes paths legs ports valid found may =
    ap (λ (o : Option (List (List ℕ))). judged format topology place (option_and_then (legs_with topology) o)) ports
    ∙ ap (judged format topology place) (legs_by_steps topology paths valid ∙ found)
    ∙ ap (λ (t : Bool). ok_where t (net.BadPath place.table place.number) legs) may

-- valid routes that are no tree
pub no_tree : (format : Format) (topology : DeclaredTopology) (place : Place) (routes : List file.DeclaredRoute)
    (paths : List (List ℕ)) → ports_of_each topology routes ≡ Some paths → All (IsValidPath topology) paths
    → legs_found topology paths ≡ None → legs_in format topology place routes ≡ Err
    (net.BadPath place.table place.number)
no_tree format topology place routes paths ports valid none =
    ap (λ (o : Option (List (List ℕ))). judged format topology place (option_and_then (legs_with topology) o)) ports
    ∙ ap (judged format topology place) (legs_by_steps topology paths valid ∙ none)

-- and legs that a file of the format may not declare
pub not_declared : (format : Format) (topology : DeclaredTopology) (place : Place) (routes : List file.DeclaredRoute)
    (paths : List (List ℕ)) (legs : DeclaredLegs) → ports_of_each topology routes ≡ Some paths
    → All (IsValidPath topology) paths → legs_found topology paths ≡ Some legs
    → may_declare format topology (routes_of legs.ports legs.branches) ≡ false
    → legs_in format topology place routes ≡ Err (net.BadPath place.table place.number)
not_declared format topology place routes paths legs ports valid found never =
    ap (λ (o : Option (List (List ℕ))). judged format topology place (option_and_then (legs_with topology) o)) ports
    ∙ ap (judged format topology place) (legs_by_steps topology paths valid ∙ found)
    ∙ ap (λ (t : Bool). ok_where t (net.BadPath place.table place.number) legs) never

-- and routes of which one is not valid
pub not_all_valid : (format : Format) (topology : DeclaredTopology) (place : Place) (routes : List file.DeclaredRoute)
    (paths : List (List ℕ)) → ports_of_each topology routes ≡ Some paths → ¬ All (IsValidPath topology) paths
    → legs_in format topology place routes ≡ Err (net.BadPath place.table place.number)
not_all_valid format topology place routes paths ports never =
    ap (λ (o : Option (List (List ℕ))). judged format topology place (option_and_then (legs_with topology) o)) ports
    ∙ ap (judged format topology place) (by (legs_with topology paths) refl)
  where
    by : (o : Option DeclaredLegs) → legs_with topology paths ≡ o → legs_with topology paths ≡ None
    by None e = e
    by (Some legs) e = absurd (never (have_valid topology paths legs (legs_have topology paths legs e)))
