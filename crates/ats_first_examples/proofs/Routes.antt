use Rattle.std.proofs.Common.{◌≡◌, ℕ, Bool, false, ◌&&◌, List, [], ◌∷◌, Option, Some, None, Err, refl, sym, ap}
use Rattle.std.proofs.Common.{subst, ◌∙◌}
use Rattle.std.specs.Prelude.{not, option_and_then}
use Rattle.std.specs.Option.{option_map}
use Rattle.std.proofs.lemmas.Bool.{and_from, false≢true}
use Rattle.std.proofs.lemmas.List.Elements.{All-cons, All-head, All-nil}
use Rattle.ats_topology.specs.Topology.{DeclaredTopology}
use Rattle.ats_network.specs.Path.{IsValidPath}
use Rattle.ats_network.specs.PathSteps.{comes_to, ends_of, part_ways}
use Rattle.ats_network.proofs.PathLemmas.{no_ends, talker_is, valid_never_back, valid_parts}
use Rattle.ats_network_table.specs.declared.format.Format.{Format}
use Rattle.ats_network_toml.specs.Document as file
use Rattle.ats_network_file.specs.Routes.{may_declare, ports_of, ports_of_each}
use Rattle.ats_network_file.specs.Senders.{legs_in}
use Rattle.ats_network_file.specs.declared.fault.NetFault.TheVariants.{BadPath}
use Rattle.ats_network_file.specs.declared.senders.Place.{Place}
use Rattle.ats_network_file.proofs.LegsFound.{not_all_valid, not_declared}
use Rattle.ats_file_examples.proofs.Steps.{one_leg}

-- Routes whose ports make no valid path, by a test of them, which computes.

-- what a walk between two nodes passes that is a valid path
abbrev pub passes : DeclaredTopology → List ℕ → ℕ → Bool
passes topology path a = not (comes_to topology.ports a path) && part_ways topology.ports path

-- one that does not is none
pub invalid_by : (topology : DeclaredTopology) (path : List ℕ) (a b : ℕ) → ends_of topology.ports path ≡ Some (a, b)
    → passes topology path a ≡ false → ¬ IsValidPath topology path
invalid_by topology path a b walk fails valid =
    let back : comes_to topology.ports a path ≡ false = subst (λ (n : ℕ). comes_to topology.ports n path ≡ false)
    (talker_is topology path a b walk valid) (valid_never_back topology path valid) in
    false≢true (sym fails ∙ and_from (not (comes_to topology.ports a path)) (part_ways topology.ports path)
    (ap not back) (valid_parts topology path valid))

-- the ports of one route
ports_of_one : (topology : DeclaredTopology) (route : file.DeclaredRoute) (path : List ℕ)
    → ports_of topology route ≡ Some path → ports_of_each topology (route ∷ []) ≡ Some (path ∷ [])
ports_of_one topology route path ports =
    ap (λ (o : Option (List ℕ)). option_and_then (λ ps. option_map (λ more. ps ∷ more)
    (ports_of_each topology [])) o) ports

-- a stream with one route, which is not valid
lost : (format : Format) (topology : DeclaredTopology) (n : Place) (route : file.DeclaredRoute) (path : List ℕ)
    → ports_of topology route ≡ Some path → ¬ IsValidPath topology path
    → legs_in format topology n (route ∷ []) ≡ Err (BadPath n.table n.number)
lost format topology n route path ports never =
    not_all_valid format topology n (route ∷ []) (path ∷ []) (ports_of_one topology route path ports)
    (λ all. never (All-head (IsValidPath topology) path [] all))

-- or which is valid, and which a file of its format may not declare
pub not_joined : (format : Format) (topology : DeclaredTopology) (n : Place) (route : file.DeclaredRoute)
    (path : List ℕ)
    → ports_of topology route ≡ Some path → IsValidPath topology path
    → may_declare format topology (path ∷ []) ≡ false
    → legs_in format topology n (route ∷ []) ≡ Err (BadPath n.table n.number)
not_joined format topology n route path ports valid never =
    not_declared format topology n (route ∷ []) (path ∷ []) (one_leg path) (ports_of_one topology route path ports)
    (All-cons (IsValidPath topology) path [] valid (All-nil (IsValidPath topology))) refl never

-- a route over links, which fails the test
pub no_path : (format : Format) (topology : DeclaredTopology) (n : Place) (route : file.DeclaredRoute) (path : List ℕ)
    (a b : ℕ) → ports_of topology route ≡ Some path → ends_of topology.ports path ≡ Some (a, b)
    → passes topology path a ≡ false → legs_in format topology n (route ∷ []) ≡ Err (BadPath n.table n.number)
no_path format topology n route path a b ports walk fails =
    lost format topology n route path ports (invalid_by topology path a b walk fails)

-- and one of no link
pub no_port : (format : Format) (topology : DeclaredTopology) (n : Place) (route : file.DeclaredRoute) (path : List ℕ)
    → ports_of topology route ≡ Some path → ends_of topology.ports path ≡ None
    → legs_in format topology n (route ∷ []) ≡ Err (BadPath n.table n.number)
no_port format topology n route path ports none = lost format topology n route path ports (no_ends topology path none)
