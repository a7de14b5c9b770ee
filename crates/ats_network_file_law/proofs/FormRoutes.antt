-- The first fault of the routes in a table is the one that is given.
use Rattle.std.proofs.Common.{◌≡◌, ◌∙◌, ℕ, Bool, true, false, cond, List, [], ◌∷◌, length, Option, Some, None, Result}
use Rattle.std.proofs.Common.{Ok, Err, refl, sym, ap, subst, map}
use Rattle.std.specs.Prelude.{not, ◌&&◌, ◌||◌, nat_le, is_some, option_and_then}
use Rattle.std.specs.Option.{option_map, option_or}
use Rattle.std.proofs.lemmas.Bool.{false≢true}
use Rattle.toml.specs.Data.{Data, get_member}
use Rattle.ats_num.specs.Failure.{◌>>=◌, ok_where, or_fault}
use Rattle.ats_network_table.specs.Kinds.{list_in, name_in, names_in, one_or_more, paths_in, some_where}
use Rattle.ats_network_table.specs.Walk.{Entry, at, has, has_paths, is_missing, listeners_at, may_branch, name_at}
use Rattle.ats_network_table.specs.Walk.{path_at, paths_at, wrong_kind}
use Rattle.ats_network_table.specs.Words.{key_text}
use Rattle.ats_network_table.specs.declared.key.Key.{Key}
use Rattle.ats_network_table.specs.declared.key.Key.TheVariants as key
use Rattle.ats_network_table.specs.declared.fault.DocumentFault.{DocumentFault}
use Rattle.ats_network_toml.specs.Document as file
use Rattle.ats_network_toml.specs.Entries.{route_at, routes_at}
use Rattle.ats_network_file_law.specs.FormFaults.{is_kind, is_right, nodes_in, several_in}
use Rattle.ats_network_file_law.proofs.FormFirsts.{wrongs}
use Rattle.ats_network_file_law.proofs.FormKeys.{Any, absent, wrong}
use Rattle.ats_network_file_law.proofs.FormReaders.{next_key, skip_key}
use Rattle.ats_network_file_law.proofs.Told.{Told, chained, same_faults}

-- a fault that there is, or none
abbrev fault_where : Entry → Key → Bool → Option DocumentFault
fault_where e k b = cond b (Some (wrong_kind e k)) None

-- the names of a path that stands there, and where there are too few of them
abbrev names_read : Entry → Result (List (List ℕ)) DocumentFault
names_read e =
    at e key.Path (list_in name_in)
    >>= λ names. ok_where (nat_le 2 (length names)) (wrong_kind e key.Path) names

names_told : (e : Entry)
    → Told (λ (x : List (List ℕ)). Any x) (fault_where e key.Path (not (is_kind nodes_in e key.Path))) (names_read e)
names_told e = by (get_member (key_text key.Path) e.members)
  where
    few : (b : Bool) (names : List (List ℕ))
        → Told (λ (x : List (List ℕ)). Any x) (fault_where e key.Path (not (is_some (some_where b names))))
        (ok_where b (wrong_kind e key.Path) names)
    few true names = (refl, tt)
    few false names = refl

    listed : (o : Option (List (List ℕ)))
        → Told (λ (x : List (List ℕ)). Any x) (fault_where e key.Path
        (not (is_some (option_and_then (λ names. some_where (nat_le 2 (length names)) names) o))))
        (or_fault (wrong_kind e key.Path) o
        >>= λ names. ok_where (nat_le 2 (length names)) (wrong_kind e key.Path) names)
    listed None = refl
    listed (Some names) = few (nat_le 2 (length names)) names

    by : (o : Option Data)
        → Told (λ (x : List (List ℕ)). Any x) (fault_where e key.Path (not (is_some (option_and_then nodes_in o))))
        (or_fault (wrong_kind e key.Path) (option_and_then (list_in name_in) o)
        >>= λ names. ok_where (nat_le 2 (length names)) (wrong_kind e key.Path) names)
    by None = refl
    by (Some d) = listed (list_in name_in d)

-- three tests of which none passes, or one does
record NoneOf (a b c : Bool) : Type 0 where
  first : a ≡ false
  second : b ≡ false
  third : c ≡ false

none_of : (a b c : Bool) → (a || b || c) ≡ false → NoneOf a b c
none_of false false false h = record { first = refl; second = refl; third = refl }
none_of false false true h = absurd (false≢true (sym h))
none_of false true c h = absurd (false≢true (sym h))
none_of true b c h = absurd (false≢true (sym h))

-- what stands beside a path, and beside paths
abbrev beside_path : Entry → Bool
beside_path e = has e key.From || has e key.To || has e key.Paths

abbrev beside_paths : Entry → Bool
beside_paths e = has e key.Path || has e key.From || has e key.To

-- a path, beside which no other route may stand
path_told : {A : Type 0} (e : Entry) (ks : List Key) (given : List (List ℕ) → A) → has e key.Path ≡ true
    → (has e key.From ≡ false → has e key.To ≡ false → has e key.Paths ≡ false → wrongs e ks ≡ None)
    → Told (λ (x : A). Any x) (wrongs e (key.Path ∷ ks)) (path_at e >>= λ names. Ok (given names))
path_told {A} e ks given there absent = by (beside_path e) refl
  where
    G : A → Type 0
    G x = Any x

    read : Bool → Result A DocumentFault
    read b =
        (let r : Result (List (List ℕ)) DocumentFault = cond b (Err (wrong_kind e key.Path)) (names_read e) in r)
        >>= λ names. Ok (given names)

    wrong_path : (b : Bool) → beside_path e ≡ b
        → wrong e key.Path ≡ fault_where e key.Path (not (not b && is_kind nodes_in e key.Path))
    wrong_path b h =
        ap (λ c. fault_where e key.Path (c && not (not (beside_path e) && is_kind nodes_in e key.Path))) there
        ∙ ap (λ c. fault_where e key.Path (not (not c && is_kind nodes_in e key.Path))) h

    none : NoneOf (has e key.From) (has e key.To) (has e key.Paths) → wrongs e ks ≡ None
    none n = absent n.first n.second n.third

    by : (b : Bool) → beside_path e ≡ b → Told G (wrongs e (key.Path ∷ ks)) (read (beside_path e))
    by true h =
        subst (λ (c : Bool). Told G (wrongs e (key.Path ∷ ks)) (read c)) (sym h)
        (ap (λ (o : Option DocumentFault). option_or o (wrongs e ks)) (wrong_path true h))
    by false h =
        subst (λ (c : Bool). Told G (wrongs e (key.Path ∷ ks)) (read c)) (sym h)
        (chained (λ (x : List (List ℕ)). Any x) G (wrong e key.Path) (wrongs e ks) (names_read e)
        (λ names. Ok (given names))
        (same_faults (λ (x : List (List ℕ)). Any x) (fault_where e key.Path (not (is_kind nodes_in e key.Path)))
        (wrong e key.Path) (names_read e) (sym (wrong_path false h)) (names_told e))
        (λ names known. (none (none_of (has e key.From) (has e key.To) (has e key.Paths) h), tt)))

abbrev end_keys : List Key
end_keys = key.From ∷ key.To ∷ []

-- keys of which none stands there
ends_absent : (e : Entry) → has e key.From ≡ false → has e key.To ≡ false → wrongs e end_keys ≡ None
ends_absent e from to =
    ap (λ (o : Option DocumentFault). option_or o (option_or (wrong e key.To) None)) (absent e key.From from)
    ∙ ap (λ (o : Option DocumentFault). option_or o None) (absent e key.To to)

-- paths, beside which no other route may stand
paths_told : (e : Entry) → has e key.Paths ≡ true
    → Told (λ (x : List file.DeclaredRoute). Any x) (wrongs e (key.Paths ∷ end_keys))
    (paths_at e >>= λ paths. Ok (map file.path paths))
paths_told e there = by (beside_paths e) refl
  where
    G : List file.DeclaredRoute → Type 0
    G x = Any x

    read : Bool → Result (List file.DeclaredRoute) DocumentFault
    read b =
        (let r : Result (List (List (List ℕ))) DocumentFault =
        cond b (Err (wrong_kind e key.Paths)) (at e key.Paths paths_in) in r)
        >>= λ paths. Ok (map file.path paths)

    wrong_paths : beside_paths e ≡ true → wrong e key.Paths ≡ Some (wrong_kind e key.Paths)
    wrong_paths h =
        ap (λ c. fault_where e key.Paths (c && not (not (beside_paths e) && is_kind several_in e key.Paths))) there
        ∙ ap (λ c. fault_where e key.Paths (not (not c && is_kind several_in e key.Paths))) h

    right : beside_paths e ≡ false → is_right e key.Paths ≡ is_kind paths_in e key.Paths
    right h = ap (λ b. not b && is_kind several_in e key.Paths) h

    by : (b : Bool) → beside_paths e ≡ b → Told G (wrongs e (key.Paths ∷ end_keys)) (read (beside_paths e))
    by true h =
        subst (λ (c : Bool). Told G (wrongs e (key.Paths ∷ end_keys)) (read c)) (sym h)
        (ap (λ (o : Option DocumentFault). option_or o (wrongs e end_keys)) (wrong_paths h))
    by false h =
        let n = none_of (has e key.Path) (has e key.From) (has e key.To) h in
        subst (λ (c : Bool). Told G (wrongs e (key.Paths ∷ end_keys)) (read c)) (sym h)
        (next_key e key.Paths end_keys paths_in G (λ paths. Ok (map file.path paths)) there (right h)
        (λ paths is. (ends_absent e n.second n.third, tt)))

-- both ends, the second of which is of a kind
ends_told : {A B : Type 0} (e : Entry) (kind : Data → Option B) (given : List ℕ → B → A)
    → has e key.From ≡ true → has e key.To ≡ true → is_right e key.To ≡ is_kind kind e key.To
    → Told (λ (x : A). Any x) (wrongs e end_keys)
    (name_at e key.From >>= λ from. at e key.To kind >>= λ to. Ok (given from to))
ends_told {A} {B} e kind given from to right =
    let G : A → Type 0 = λ x. Any x in
    next_key e key.From (key.To ∷ []) name_in G (λ a. at e key.To kind >>= λ b. Ok (given a b)) from refl
    (λ a is. next_key e key.To [] kind G (λ b. Ok (given a b)) to right (λ b is. (refl, tt)))

-- what stands with an end is right where it is one name or, where several may stand there, some names
to_right : (e : Entry) → is_right e key.To ≡ is_kind (one_or_more (may_branch e.format e.table)) e key.To
to_right e = by (may_branch e.format e.table) (get_member (key_text key.To) e.members)
  where
    found : (several : Bool) (one : Option (List ℕ)) (more : Option (List (List ℕ)))
        → (is_some one || (several && is_some more))
        ≡ is_some (option_or (option_map (λ name. name ∷ []) one) (cond several more None))
    found several (Some name) more = refl
    found true None more = refl
    found false None more = refl

    by : (several : Bool) (o : Option Data)
        → (is_some (option_and_then name_in o) || (several && is_some (option_and_then (names_in 1) o)))
        ≡ is_some (option_and_then (one_or_more several) o)
    by true None = refl
    by false None = refl
    by several (Some d) = found several (name_in d) (names_in 1 d)

-- where one listener may stand there, it is right where it is a name
to_alone : (e : Entry) → may_branch e.format e.table ≡ false → is_right e key.To ≡ is_kind name_in e key.To
to_alone e one = by (is_kind name_in e key.To) (may_branch e.format e.table) one
  where
    by : (a several : Bool) → several ≡ false
        → (a || (several && is_kind (names_in 1) e key.To)) ≡ a
    by true several h = refl
    by false true h = absurd (false≢true (sym h))
    by false false h = refl

-- without a path and paths, both ends are there
record AreBoth (e : Entry) : Type 0 where
  from : has e key.From ≡ true
  to : has e key.To ≡ true

both_ends : (e : Entry) → is_missing e key.Path ≡ false → is_missing e key.From ≡ false
    → is_missing e key.To ≡ false → has e key.Path ≡ false → has_paths e ≡ false → AreBoth e
both_ends e path from to none others = by (has e key.From) (has e key.To) refl refl
  where
    by : (a b : Bool) → has e key.From ≡ a → has e key.To ≡ b → AreBoth e
    by true true f t = record { from = f; to = t }
    by true false f t = absurd (false≢true (sym to ∙ ap (λ c. c && not (has e key.To)) f ∙ ap not t))
    by false true f t = absurd (false≢true (sym from ∙ ap (λ c. c && not (has e key.From)) t ∙ ap not f))
    by false false f t =
        absurd (false≢true (sym path
        ∙ ap (λ c. not (c || has e key.To || has_paths e) && not (has e key.Path)) f
        ∙ ap (λ c. not (c || has_paths e) && not (has e key.Path)) t
        ∙ ap (λ c. not c && not (has e key.Path)) others ∙ ap not none))

-- the keys of a route
abbrev pub route_keys : List Key
route_keys = key.Path ∷ end_keys

-- the route of a table that may have one alone, whose keys are not missing
pub route_told : (e : Entry) → may_branch e.format e.table ≡ false → is_missing e key.Path ≡ false
    → is_missing e key.From ≡ false → is_missing e key.To ≡ false
    → Told (λ (x : file.DeclaredRoute). Any x) (wrongs e route_keys) (route_at e)
route_told e one path from to = by (has e key.Path) refl
  where
    G : file.DeclaredRoute → Type 0
    G x = Any x

    read : Bool → Result file.DeclaredRoute DocumentFault
    read b =
        cond b (path_at e >>= λ names. Ok (file.path names))
        (name_at e key.From >>= λ from. name_at e key.To >>= λ to. Ok (file.ends from to))

    by : (b : Bool) → has e key.Path ≡ b → Told G (wrongs e route_keys) (read (has e key.Path))
    by true h =
        subst (λ (c : Bool). Told G (wrongs e route_keys) (read c)) (sym h)
        (path_told e end_keys (λ names. file.path names) h (λ f t p. ends_absent e f t))
    by false h =
        let both : AreBoth e =
        both_ends e path from to h (ap (λ (b : Bool). b && has e key.Paths) one) in
        subst (λ (c : Bool). Told G (wrongs e route_keys) (read c)) (sym h)
        (skip_key e key.Path end_keys G (read false) h
        (ends_told e name_in (λ from to. file.ends from to) both.from both.to (to_alone e one)))

-- the keys of the routes of a table that may have several, or one alone
abbrev pub routes_keys : Bool → List Key
routes_keys true = key.Path ∷ key.Paths ∷ end_keys
routes_keys false = key.Path ∷ end_keys

-- the routes of a table whose keys are not missing
pub routes_told : (e : Entry) (several : Bool) → may_branch e.format e.table ≡ several
    → is_missing e key.Path ≡ false → is_missing e key.From ≡ false → is_missing e key.To ≡ false
    → Told (λ (x : List file.DeclaredRoute). Any x) (wrongs e (routes_keys several)) (routes_at e)
routes_told e several may path from to = by several may (has e key.Path) refl
  where
    G : List file.DeclaredRoute → Type 0
    G x = Any x

    by_ends : Result (List file.DeclaredRoute) DocumentFault
    by_ends = name_at e key.From >>= λ from. listeners_at e >>= λ to. Ok (map (file.ends from) to)

    others : Bool → Result (List file.DeclaredRoute) DocumentFault
    others b = cond b (paths_at e >>= λ paths. Ok (map file.path paths)) by_ends

    read : Bool → Result (List file.DeclaredRoute) DocumentFault
    read b = cond b (path_at e >>= λ names. Ok (file.path names ∷ [])) (others (has_paths e))

    ends : has e key.Path ≡ false → has_paths e ≡ false → Told G (wrongs e end_keys) by_ends
    ends none none_more =
        let both : AreBoth e = both_ends e path from to none none_more in
        ends_told e (one_or_more (may_branch e.format e.table)) (λ from to. map (file.ends from) to) both.from both.to
        (to_right e)

    -- where several paths may stand there
    with_paths : may_branch e.format e.table ≡ true → has e key.Path ≡ false → (b : Bool) → has e key.Paths ≡ b
        → Told G (wrongs e (key.Paths ∷ end_keys)) (others (has_paths e))
    with_paths m none true h =
        subst (λ (c : Bool). Told G (wrongs e (key.Paths ∷ end_keys)) (others c))
        (sym (ap (λ (b : Bool). b && has e key.Paths) m ∙ h)) (paths_told e h)
    with_paths m none false h =
        let no_paths : has_paths e ≡ false = ap (λ (b : Bool). b && has e key.Paths) m ∙ h in
        subst (λ (c : Bool). Told G (wrongs e (key.Paths ∷ end_keys)) (others c)) (sym no_paths)
        (skip_key e key.Paths end_keys G by_ends h (ends none no_paths))

    paths_absent : has e key.From ≡ false → has e key.To ≡ false → has e key.Paths ≡ false
        → wrongs e (key.Paths ∷ end_keys) ≡ None
    paths_absent f t p =
        ap (λ (o : Option DocumentFault). option_or o (wrongs e end_keys)) (absent e key.Paths p) ∙ ends_absent e f t

    by : (s : Bool) → may_branch e.format e.table ≡ s → (b : Bool) → has e key.Path ≡ b
        → Told G (wrongs e (routes_keys s)) (read (has e key.Path))
    by true m true h =
        subst (λ (c : Bool). Told G (wrongs e (routes_keys true)) (read c)) (sym h)
        (path_told e (key.Paths ∷ end_keys) (λ names. file.path names ∷ []) h paths_absent)
    by false m true h =
        subst (λ (c : Bool). Told G (wrongs e (routes_keys false)) (read c)) (sym h)
        (path_told e end_keys (λ names. file.path names ∷ []) h (λ f t p. ends_absent e f t))
    by true m false h =
        subst (λ (c : Bool). Told G (wrongs e (routes_keys true)) (read c)) (sym h)
        (skip_key e key.Path (key.Paths ∷ end_keys) G (read false) h (with_paths m h (has e key.Paths) refl))
    by false m false h =
        let no_paths : has_paths e ≡ false = ap (λ (b : Bool). b && has e key.Paths) m in
        subst (λ (c : Bool). Told G (wrongs e (routes_keys false)) (read c)) (sym h)
        (skip_key e key.Path end_keys G (read false) h
        (subst (λ (c : Bool). Told G (wrongs e end_keys) (others c)) (sym no_paths) (ends h no_paths)))
