-- The legs that are read of an entry's routes are those that have the ports of these, and no other.
use Rattle.std.proofs.Common.{◌≡◌, ◌∙◌, ℕ, Bool, true, false, List, [], ◌∷◌, ◌++◌, Option, Some, None, Result, Ok, Err}
use Rattle.std.proofs.Common.{refl, sym, ap, subst}
use Rattle.std.specs.Prelude.{option_and_then}
use Rattle.std.specs.Option.{option_map}
use Rattle.std.specs.List.{AllZip}
use Rattle.std.proofs.lemmas.List.Elements.{All-head}
use Rattle.std.proofs.lemmas.Option.{none-some, same_Some}
use Rattle.ats_num.specs.Failure.{◌>>=◌, ok_where, or_fault}
use Rattle.ats_topology.specs.Topology.{DeclaredTopology}
use Rattle.ats_network.specs.Path.{IsValidPath}
use Rattle.ats_route_tree.specs.Legs.{DeclaredLegs, HaveRoutes}
use Rattle.ats_route_tree.proofs.Found.{have_valid, legs_once, trunk_have}
use Rattle.ats_streams.specs.Branches.{routes_of}
use Rattle.ats_network_table.specs.declared.format.Format.{Format}
use Rattle.ats_network_toml.specs.Document as file
use Rattle.ats_network_file.specs.Routes.{is_valid, legs_of, legs_with, may_declare, ports_of, ports_of_each}
use Rattle.ats_network_file.specs.Senders.{legs_in, path_in}
use Rattle.ats_network_file.specs.declared.senders.Place.{Place}
use Rattle.ats_network_file.specs.declared.fault.NetFault.{NetFault}
use Rattle.ats_network_file.specs.declared.fault.NetFault.TheVariants as net
use Rattle.ats_network_file.proofs.Steps.{Given, both, ok_where_ok, or_fault_ok}
use Rattle.ats_network_file.proofs.Trees.{legs_are_found, legs_declared, legs_kept}
use Rattle.ats_network_file.proofs.ValidPaths.{valid_passed, valid_passes}
use Rattle.ats_network_file_law.specs.SenderFaults.{HasPorts, IsRouted, SenderEntry, flow, place_in, routes_in, stream}

-- lists that are related place by place, with one more each
pub zipped_more : {A B : Type 0} (R : A → B → Type 0) (xs : List A) (ys : List B) (x : A) (y : B) → AllZip R xs ys
    → R x y → AllZip R (xs ++ x ∷ []) (ys ++ y ∷ [])
zipped_more R [] [] x y zipped one = (one, tt)
zipped_more R [] (w ∷ ys) x y zipped one = absurd zipped
zipped_more R (v ∷ xs) [] x y zipped one = absurd zipped
zipped_more R (v ∷ xs) (w ∷ ys) x y zipped one = (zipped.0, zipped_more R xs ys x y zipped.1 one)

-- where one has one fellow alone, two lists of fellows are the same
pub zipped_once : {A B : Type 0} (R : A → B → Type 0) → ((x : A) (y z : B) → R x y → R x z → y ≡ z) → (xs : List A)
    (ys zs : List B) → AllZip R xs ys → AllZip R xs zs → ys ≡ zs
zipped_once R once [] [] [] one other = refl
zipped_once R once [] [] (z ∷ zs) one other = absurd other
zipped_once R once [] (y ∷ ys) zs one other = absurd one
zipped_once R once (x ∷ xs) [] zs one other = absurd one
zipped_once R once (x ∷ xs) (y ∷ ys) [] one other = absurd other
zipped_once {A} {B} R once (x ∷ xs) (y ∷ ys) (z ∷ zs) one other =
    ap (λ (v : B). v ∷ ys) (once x y z one.0 other.0)
    ∙ ap (λ (vs : List B). z ∷ vs) (zipped_once R once xs ys zs one.1 other.1)

-- the ports of each route, one by one
pub each_has : (topology : DeclaredTopology) (routes : List file.DeclaredRoute) (paths : List (List ℕ))
    → ports_of_each topology routes ≡ Some paths → AllZip (HasPorts topology) routes paths
each_has topology [] paths h =
    subst (λ (ps : List (List ℕ)). AllZip (HasPorts topology) [] ps) (same_Some [] paths h) tt
each_has topology (route ∷ routes) paths h =
    by (ports_of topology route) refl (ports_of_each topology routes) h (each_has topology routes)
  where
    by : (o : Option (List ℕ)) → ports_of topology route ≡ o → (more : Option (List (List ℕ)))
        → option_and_then (λ ports. option_map (λ ps. ports ∷ ps) more) o ≡ Some paths
        → ((ps : List (List ℕ)) → more ≡ Some ps → AllZip (HasPorts topology) routes ps)
        → AllZip (HasPorts topology) (route ∷ routes) paths
    by None e more h rest = absurd (none-some paths h)
    by (Some ports) e None h rest = absurd (none-some paths h)
    by (Some ports) e (Some ps) h rest =
        subst (λ (qs : List (List ℕ)). AllZip (HasPorts topology) (route ∷ routes) qs)
        (same_Some (ports ∷ ps) paths h) (e, rest ps refl)

pub has_each : (topology : DeclaredTopology) (routes : List file.DeclaredRoute) (paths : List (List ℕ))
    → AllZip (HasPorts topology) routes paths → ports_of_each topology routes ≡ Some paths
has_each topology [] [] zipped = refl
has_each topology [] (ports ∷ paths) zipped = absurd zipped
has_each topology (route ∷ routes) [] zipped = absurd zipped
has_each topology (route ∷ routes) (ports ∷ paths) zipped =
    ap (λ (o : Option (List ℕ)). option_and_then (λ ps. option_map (λ more. ps ∷ more)
    (ports_of_each topology routes)) o) zipped.0
    ∙ ap (option_map (λ more. ports ∷ more)) (has_each topology routes paths zipped.1)

-- the legs of an entry are one
pub routed_once : (format : Format) (topology : DeclaredTopology) (entry : SenderEntry) (legs others : DeclaredLegs)
    → IsRouted format topology entry legs → IsRouted format topology entry others → legs ≡ others
routed_once format topology entry legs others one other =
    let same : one.routes ≡ other.routes =
    same_Some one.routes other.routes (sym (has_each topology (routes_in entry) one.routes one.ports)
    ∙ has_each topology (routes_in entry) other.routes other.ports) in
    same_Some legs others (sym (legs_once topology one.routes legs one.have)
    ∙ legs_once topology one.routes others
    (subst (λ (rs : List (List ℕ)). HaveRoutes topology rs others) (sym same) other.have))

-- what becomes of the legs of an entry
abbrev judged : Format → DeclaredTopology → Place → Option DeclaredLegs → Result DeclaredLegs NetFault
judged format topology n legs = or_fault (net.BadPath n.table n.number) legs
    >>= λ l. ok_where (may_declare format topology (routes_of l.ports l.branches)) (net.BadPath n.table n.number) l

-- what is read of the routes of an entry: its legs, or that no tree has these routes, or that they may not be declared
pub record Reads (format : Format) (topology : DeclaredTopology) (entry : SenderEntry)
    (read : Result DeclaredLegs NetFault) : Type 0 where
  pub some : (legs : DeclaredLegs) → read ≡ Ok legs → IsRouted format topology entry legs
  pub given : (legs : DeclaredLegs) → IsRouted format topology entry legs → read ≡ Ok legs
  pub fault : (f : NetFault) → read ≡ Err f → net.BadPath (place_in entry).table (place_in entry).number ≡ f

pub stream_reads : (format : Format) (topology : DeclaredTopology) (e : file.DeclaredStream) (n : Place)
    → Reads format topology (stream n e) (legs_in format topology n e.routes)
stream_reads format topology e n = record {
  some = λ legs h. (
      let kept = legs_kept format topology n e.routes legs h in
      record {
        routes = kept.paths;
        ports = each_has topology e.routes kept.paths kept.are;
        have = kept.have;
        may = ap (may_declare format topology) (sym kept.have.routes_are)
            ∙ (legs_declared format topology n e.routes legs h).may;
      });
  given = λ legs r. ap (λ (o : Option (List (List ℕ))). judged format topology n (option_and_then (legs_with topology)
      o)) (has_each topology e.routes r.routes r.ports)
      ∙ ap (judged format topology n) (legs_are_found topology r.routes legs r.have)
      ∙ ap (λ (t : Bool). ok_where t (net.BadPath n.table n.number) legs)
      (ap (may_declare format topology) r.have.routes_are ∙ r.may);
  fault = λ f h. lost (legs_of topology e.routes) f h;
}
  where
    refused : (legs : DeclaredLegs) (t : Bool) (f : NetFault) → ok_where t (net.BadPath n.table n.number) legs ≡ Err f
        → net.BadPath n.table n.number ≡ f
    refused legs true f h = cc h
    refused legs false f h = cc h

    lost : (o : Option DeclaredLegs) (f : NetFault) → judged format topology n o ≡ Err f → net.BadPath n.table n.number
        ≡ f
    lost None f h = cc h
    lost (Some legs) f h = refused legs (may_declare format topology (routes_of legs.ports legs.branches)) f h

-- a flow has one leg
abbrev pub alone : List ℕ → DeclaredLegs
alone path = record { ports = path; branches = [] }

-- what is read of the ports of a flow's route, of whether they are a valid path, and of whether a file of the format
-- may declare it
abbrev settled : Place → List ℕ → Bool → Result DeclaredLegs NetFault
settled n path t = ok_where t (net.BadPath n.table n.number) path >>= λ p. Ok (alone p)

abbrev tested : Format → DeclaredTopology → Place → List ℕ → Bool → Result DeclaredLegs NetFault
tested format topology n path b =
    (ok_where b (net.BadPath n.table n.number) path
    >>= λ v. ok_where (may_declare format topology (v ∷ [])) (net.BadPath n.table n.number) v) >>= λ p. Ok (alone p)

abbrev by_ports : Format → DeclaredTopology → Place → Option (List ℕ) → Result DeclaredLegs NetFault
by_ports format topology n o =
    (or_fault (net.BadPath n.table n.number) o >>= λ path. ok_where (is_valid topology path)
    (net.BadPath n.table n.number) path
    >>= λ v. ok_where (may_declare format topology (v ∷ [])) (net.BadPath n.table n.number) v)
    >>= λ path. Ok (alone path)

flow_read : (format : Format) (topology : DeclaredTopology) (e : file.DeclaredFlow) (n : Place) (legs : DeclaredLegs)
    → (path_in format topology n e.route >>= λ path. Ok (alone path)) ≡ Ok legs → IsRouted format topology
    (flow n e) legs
flow_read format topology e n legs h =
    let way = both (path_in format topology n e.route) (λ path. Ok (alone path)) legs h in
    let read = both (or_fault (net.BadPath n.table n.number) (ports_of topology e.route))
    (λ p. ok_where (is_valid topology p) (net.BadPath n.table n.number) p
    >>= λ v. ok_where (may_declare format topology (v ∷ [])) (net.BadPath n.table n.number) v) way.first way.is in
    let checked = both (ok_where (is_valid topology read.first) (net.BadPath n.table n.number) read.first)
    (λ v. ok_where (may_declare format topology (v ∷ [])) (net.BadPath n.table n.number) v) way.first read.then in
    let given : Given (is_valid topology read.first) read.first checked.first =
    ok_where_ok (is_valid topology read.first) (net.BadPath n.table n.number) read.first checked.first checked.is in
    let may : Given (may_declare format topology (checked.first ∷ [])) checked.first way.first =
    ok_where_ok (may_declare format topology (checked.first ∷ []))
    (net.BadPath n.table n.number) checked.first way.first
    checked.then in
    let path_is : read.first ≡ way.first = given.same ∙ may.same in
    let same : alone way.first ≡ legs = cc way.then in
    let valid : IsValidPath topology way.first =
    subst (IsValidPath topology) path_is (valid_passed topology read.first given.passed) in
    let ports : ports_of topology e.route ≡ Some way.first =
    or_fault_ok (net.BadPath n.table n.number) (ports_of topology e.route) read.first read.is ∙ ap Some path_is in
    record {
      routes = way.first ∷ [];
      ports = (ports, tt);
      have = subst (HaveRoutes topology (way.first ∷ [])) same (trunk_have topology way.first valid);
      may = ap (λ (p : List ℕ). may_declare format topology (p ∷ [])) (sym may.same) ∙ may.passed;
    }

flow_given : (format : Format) (topology : DeclaredTopology) (e : file.DeclaredFlow) (n : Place) (legs : DeclaredLegs)
    → IsRouted format topology (flow n e) legs
    → (path_in format topology n e.route >>= λ path. Ok (alone path)) ≡ Ok legs
flow_given format topology e n legs r = by r.routes r.ports r.have r.may
  where
    by : (routes : List (List ℕ)) → AllZip (HasPorts topology) (e.route ∷ []) routes
        → HaveRoutes topology routes legs → may_declare format topology routes ≡ true
        → (path_in format topology n e.route >>= λ path. Ok (alone path)) ≡ Ok legs
    by [] zipped have may = absurd zipped
    by (p ∷ q ∷ routes) zipped have may = absurd zipped.1
    by (p ∷ []) zipped have may =
        let valid : IsValidPath topology p =
        All-head (IsValidPath topology) p [] (have_valid topology (p ∷ []) legs have) in
        let same : alone p ≡ legs =
        same_Some (alone p) legs (sym (legs_once topology (p ∷ []) (alone p) (trunk_have topology p valid))
        ∙ legs_once topology (p ∷ []) legs have) in
        ap (by_ports format topology n) zipped.0 ∙ ap (tested format topology n p) (valid_passes topology p valid)
        ∙ ap (settled n p) may
        ∙ ap (λ (l : DeclaredLegs). let x : Result DeclaredLegs NetFault = Ok l in x) same

pub flow_reads : (format : Format) (topology : DeclaredTopology) (e : file.DeclaredFlow) (n : Place)
    → Reads format topology (flow n e) (path_in format topology n e.route >>= λ path. Ok (alone path))
flow_reads format topology e n = record {
  some = λ legs h. flow_read format topology e n legs h;
  given = λ legs r. flow_given format topology e n legs r;
  fault = λ f h. lost (ports_of topology e.route) f h;
}
  where
    unsettled : (p : List ℕ) (t : Bool) (f : NetFault) → settled n p t ≡ Err f → net.BadPath n.table n.number ≡ f
    unsettled p true f h = cc h
    unsettled p false f h = cc h

    refused : (p : List ℕ) (b : Bool) (f : NetFault) → tested format topology n p b ≡ Err f
        → net.BadPath n.table n.number ≡ f
    refused p true f h = unsettled p (may_declare format topology (p ∷ [])) f h
    refused p false f h = cc h

    lost : (o : Option (List ℕ)) (f : NetFault) → by_ports format topology n o ≡ Err f → net.BadPath n.table n.number
        ≡ f
    lost None f h = cc h
    lost (Some p) f h = refused p (is_valid topology p) f h
