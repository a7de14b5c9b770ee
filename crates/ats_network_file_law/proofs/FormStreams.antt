-- The first fault of a stream's or a flow's table is the one that is given.
use Rattle.std.proofs.Common.{◌≡◌, ◌∙◌, ℕ, ◌<◌, Bool, true, false, cond, List, [], ◌∷◌, ◌++◌, length, get_or, Option}
use Rattle.std.proofs.Common.{Some, None, Result, Ok, refl, sym, ap, subst, arith}
use Rattle.std.specs.Prelude.{not, ◌&&◌}
use Rattle.std.specs.List.{All}
use Rattle.std.specs.Option.{option_or}
use Rattle.std.proofs.lemmas.Bool.{false≢true}
use Rattle.std.proofs.lemmas.List.Elements.{All-get_or, All-head, All-tail}
use Rattle.toml.specs.Data.{Members}
use Rattle.ats_num.specs.Failure.{◌>>=◌, ok_where}
use Rattle.ats_network_table.specs.Kinds.{address_in, list_in, long_in, name_in, short_name_in, whole_in}
use Rattle.ats_network_table.specs.Walk.{Entry, at, classes_at, deadline_at, formed, has, identity_at, is_missing}
use Rattle.ats_network_table.specs.Walk.{lists_classes, long_at, may_branch, name_at, short_name_at, whole_at}
use Rattle.ats_network_table.specs.Walk.{wrong_kind}
use Rattle.ats_network_table.specs.declared.format.Format.{Format}
use Rattle.ats_network_table.specs.declared.format.Format.TheVariants.{One, Two, Three}
use Rattle.ats_network_table.specs.declared.table.Table.TheVariants.{Flow, LinkLocal, LinkLocalFlow, Stream}
use Rattle.ats_network_table.specs.declared.key.Key.{Key}
use Rattle.ats_network_table.specs.declared.key.Key.TheVariants as key
use Rattle.ats_network_table.specs.declared.fault.DocumentFault.{DocumentFault}
use Rattle.ats_network_toml.specs.Document as file
use Rattle.ats_network_toml.specs.Entries.{flow_in, link_local_flow_in, link_local_in, numbers_in, route_at, routes_at}
use Rattle.ats_network_toml.specs.Entries.{stream_in}
use Rattle.ats_network_toml.specs.declared.entries.StreamNumbers.{StreamNumbers}
use Rattle.ats_network_file_law.specs.FormFaults.{IsComplete, is_kind, is_right, keys_in}
use Rattle.ats_network_file_law.proofs.FormFirsts.{table_fault, wrongs}
use Rattle.ats_network_file_law.proofs.FormKeys.{Any, absent, chained_keys, leaf, not_missing, stands, value_at, wrong}
use Rattle.ats_network_file_law.proofs.FormReaders.{entry_of, next_key, skip_key, table_told}
use Rattle.ats_network_file_law.proofs.FormRoutes.{route_keys, route_told, routes_keys, routes_told}
use Rattle.ats_network_file_law.proofs.Told.{Told, chained, made, same_faults, weaker}

-- one class, beside which no others may stand
abbrev one_class : Entry → Result (List ℕ) DocumentFault
one_class e =
    at e key.Class long_in >>= λ class. ok_where (not (has e key.Classes)) (wrong_kind e key.Classes) (class ∷ [])

abbrev class_keys : List Key
class_keys = key.Class ∷ key.Classes ∷ []

one_told : (e : Entry) → has e key.Class ≡ true
    → Told (λ (x : List ℕ). Any x) (wrongs e class_keys) (one_class e)
one_told e there =
    next_key e key.Class (key.Classes ∷ []) long_in (λ (x : List ℕ). Any x)
    (λ class. ok_where (not (has e key.Classes)) (wrong_kind e key.Classes) (class ∷ [])) there refl
    (λ class is. by class (has e key.Classes) refl)
  where
    told : (b : Bool) → has e key.Classes ≡ b
        → wrong e key.Classes ≡ cond b (Some (wrong_kind e key.Classes)) None
    told b h =
        ap (λ c. let o : Option DocumentFault = cond (c && not (not (has e key.Class)
        && is_kind (list_in long_in) e key.Classes)) (Some (wrong_kind e key.Classes)) None in o) h
        ∙ ap (λ c. let o : Option DocumentFault = cond (b && not (not c
        && is_kind (list_in long_in) e key.Classes)) (Some (wrong_kind e key.Classes)) None in o) there
        ∙ last b
      where
        last : (c : Bool)
            → (let o : Option DocumentFault = cond (c && true) (Some (wrong_kind e key.Classes)) None in o)
            ≡ cond c (Some (wrong_kind e key.Classes)) None
        last true = refl
        last false = refl

    given : ℕ → Bool → Result (List ℕ) DocumentFault
    given class b = ok_where (not b) (wrong_kind e key.Classes) (class ∷ [])

    by : (class : ℕ) (b : Bool) → has e key.Classes ≡ b
        → Told (λ (x : List ℕ). Any x) (wrongs e (key.Classes ∷ [])) (given class (has e key.Classes))
    by class true h =
        subst (λ (c : Bool). Told (λ (x : List ℕ). Any x) (wrongs e (key.Classes ∷ [])) (given class c)) (sym h)
        (ap (λ (o : Option DocumentFault). option_or o None) (told true h))
    by class false h =
        subst (λ (c : Bool). Told (λ (x : List ℕ). Any x) (wrongs e (key.Classes ∷ [])) (given class c)) (sym h)
        (ap (λ (o : Option DocumentFault). option_or o None) (told false h), tt)

-- a list of classes in the place of one
list_told : (e : Entry) → has e key.Class ≡ false → has e key.Classes ≡ true
    → Told (λ (x : List ℕ). Any x) (wrongs e class_keys) (at e key.Classes (list_in long_in))
list_told e none there =
    skip_key e key.Class (key.Classes ∷ []) (λ (x : List ℕ). Any x) (at e key.Classes (list_in long_in)) none
    (same_faults (λ (x : List ℕ). Any x) (wrong e key.Classes) (wrongs e (key.Classes ∷ []))
    (at e key.Classes (list_in long_in)) (sym (alone (wrong e key.Classes)))
    (weaker (λ (x : List ℕ). value_at (list_in long_in) e key.Classes ≡ Some x) (λ (x : List ℕ). Any x)
    (wrong e key.Classes) (at e key.Classes (list_in long_in))
    (leaf e key.Classes (list_in long_in) there
    (ap (λ b. not b && is_kind (list_in long_in) e key.Classes) none)) (λ x is. tt)))
  where
    alone : (o : Option DocumentFault) → option_or o None ≡ o
    alone None = refl
    alone (Some f) = refl

classes_told : (e : Entry) → is_missing e key.Class ≡ false
    → Told (λ (x : List ℕ). Any x) (wrongs e class_keys) (classes_at e)
classes_told e due = by (has e key.Class) refl (has e key.Classes) refl
  where
    none : (b : Bool) → (b && false) ≡ false
    none true = refl
    none false = refl

    read : Bool → Result (List ℕ) DocumentFault
    read b = cond b (one_class e) (at e key.Classes (list_in long_in))

    by : (a : Bool) → has e key.Class ≡ a → (b : Bool) → has e key.Classes ≡ b
        → Told (λ (x : List ℕ). Any x) (wrongs e class_keys) (read (has e key.Class))
    by true h b g =
        subst (λ (c : Bool). Told (λ (x : List ℕ). Any x) (wrongs e class_keys) (read c)) (sym h) (one_told e h)
    by false h true g =
        subst (λ (c : Bool). Told (λ (x : List ℕ). Any x) (wrongs e class_keys) (read c)) (sym h) (list_told e h g)
    by false h false g =
        absurd (false≢true (sym due ∙ ap (λ c. not (lists_classes e.table && c) && not (has e key.Class)) g
        ∙ ap (λ c. not c && not (has e key.Class)) (none (lists_classes e.table)) ∙ ap not h))

-- a deadline may be absent
deadline_told : (e : Entry) → Told (λ (x : ℕ). Any x) (wrong e key.DeadlineNs) (deadline_at e)
deadline_told e = by (has e key.DeadlineNs) refl
  where
    read : Bool → Result ℕ DocumentFault
    read b = cond b (long_at e key.DeadlineNs) (Ok 1000000000)

    by : (b : Bool) → has e key.DeadlineNs ≡ b
        → Told (λ (x : ℕ). Any x) (wrong e key.DeadlineNs) (read (has e key.DeadlineNs))
    by true h =
        subst (λ (c : Bool). Told (λ (x : ℕ). Any x) (wrong e key.DeadlineNs) (read c)) (sym h)
        (weaker (λ (x : ℕ). value_at long_in e key.DeadlineNs ≡ Some x) (λ (x : ℕ). Any x) (wrong e key.DeadlineNs)
        (long_at e key.DeadlineNs) (leaf e key.DeadlineNs long_in h refl) (λ x is. tt))
    by false h =
        subst (λ (c : Bool). Told (λ (x : ℕ). Any x) (wrong e key.DeadlineNs) (read c)) (sym h)
        (absent e key.DeadlineNs h, tt)

abbrev number_keys : List Key
number_keys = key.RateBps ∷ key.BurstBits ∷ key.MinOctets ∷ key.MaxOctets ∷ key.DeadlineNs ∷ []

-- the numbers of a stream, as one
numbers_by : {N : Type 0} (e : Entry) (read : Result N DocumentFault) (last : ℕ → ℕ → ℕ → ℕ → ℕ → N)
    → read ≡ (long_at e key.RateBps >>= λ r. long_at e key.BurstBits >>= λ b. long_at e key.MinOctets
    >>= λ l. long_at e key.MaxOctets >>= λ m. deadline_at e >>= λ d. Ok (last r b l m d))
    → has e key.RateBps ≡ true → has e key.BurstBits ≡ true → has e key.MinOctets ≡ true
    → has e key.MaxOctets ≡ true → Told (λ (x : N). Any x) (wrongs e number_keys) read
numbers_by {N} e read last is rate burst least most =
    let G : N → Type 0 = λ x. Any x in
    subst (Told G (wrongs e number_keys)) (sym is)
    (next_key e key.RateBps (key.BurstBits ∷ key.MinOctets ∷ key.MaxOctets ∷ key.DeadlineNs ∷ []) long_in G
    (λ r. long_at e key.BurstBits >>= λ b. long_at e key.MinOctets >>= λ l. long_at e key.MaxOctets >>= λ m.
    deadline_at e >>= λ d. Ok (last r b l m d)) rate refl
    (λ r is. next_key e key.BurstBits (key.MinOctets ∷ key.MaxOctets ∷ key.DeadlineNs ∷ []) long_in G
    (λ b. long_at e key.MinOctets >>= λ l. long_at e key.MaxOctets >>= λ m.
    deadline_at e >>= λ d. Ok (last r b l m d)) burst refl
    (λ b is. next_key e key.MinOctets (key.MaxOctets ∷ key.DeadlineNs ∷ []) long_in G
    (λ l. long_at e key.MaxOctets >>= λ m. deadline_at e >>= λ d. Ok (last r b l m d)) least refl
    (λ l is. next_key e key.MaxOctets (key.DeadlineNs ∷ []) long_in G
    (λ m. deadline_at e >>= λ d. Ok (last r b l m d)) most refl
    (λ m is. chained (λ (x : ℕ). Any x) G (wrong e key.DeadlineNs) None (deadline_at e)
    (λ d. Ok (last r b l m d)) (deadline_told e) (λ d is. (refl, tt)))))))

-- the numbers of a stream's table, or of one for each port
numbers_told : (e : Entry) → has e key.RateBps ≡ true → has e key.BurstBits ≡ true → has e key.MinOctets ≡ true
    → has e key.MaxOctets ≡ true → Told (λ (x : StreamNumbers). Any x) (wrongs e number_keys) (numbers_in e)
numbers_told e rate burst least most =
    numbers_by e (numbers_in e) (λ r b l m d. record {
      rate_bps = r;
      burst_bits = b;
      min_octets = l;
      max_octets = m;
      deadline_ns = d;
    }) refl rate burst least most

abbrev identity_keys : List Key
identity_keys = key.Address ∷ key.Vlan ∷ []

-- both of address and VLAN, or neither
abbrev both_read : Entry → Result (Option (ℕ × ℕ)) DocumentFault
both_read e =
    at e key.Address address_in >>= λ address. whole_at e key.Vlan 1 4094 >>= λ vlan. Ok (Some (address, vlan))

identity_told : (e : Entry) → is_missing e key.Address ≡ false → is_missing e key.Vlan ≡ false
    → Told (λ (x : Option (ℕ × ℕ)). Any x) (wrongs e identity_keys) (identity_at e)
identity_told e address vlan = by (has e key.Address) refl (has e key.Vlan) refl
  where
    read : Bool → Result (Option (ℕ × ℕ)) DocumentFault
    read b = cond b (both_read e) (Ok None)

    by : (a : Bool) → has e key.Address ≡ a → (b : Bool) → has e key.Vlan ≡ b
        → Told (λ (x : Option (ℕ × ℕ)). Any x) (wrongs e identity_keys) (read (has e key.Address))
    by true h true g =
        subst (λ (c : Bool). Told (λ (x : Option (ℕ × ℕ)). Any x) (wrongs e identity_keys) (read c)) (sym h)
        (next_key e key.Address (key.Vlan ∷ []) address_in (λ (x : Option (ℕ × ℕ)). Any x)
        (λ address. whole_at e key.Vlan 1 4094 >>= λ vlan. Ok (Some (address, vlan))) h refl
        (λ a is. next_key e key.Vlan [] (whole_in 1 4094) (λ (x : Option (ℕ × ℕ)). Any x)
        (λ vlan. Ok (Some (a, vlan))) g refl (λ v is. (refl, tt))))
    by true h false g = absurd (false≢true (sym vlan ∙ ap (λ c. c && not (has e key.Vlan)) h ∙ ap not g))
    by false h true g = absurd (false≢true (sym address ∙ ap (λ c. c && not (has e key.Address)) g ∙ ap not h))
    by false h false g =
        subst (λ (c : Bool). Told (λ (x : Option (ℕ × ℕ)). Any x) (wrongs e identity_keys) (read c)) (sym h) (
          ap (λ (o : Option DocumentFault). option_or o (option_or (wrong e key.Vlan) None)) (absent e key.Address h)
              ∙ ap (λ (o : Option DocumentFault). option_or o None) (absent e key.Vlan g),
          tt,
        )

-- the keys of a stream behind those of its routes
abbrev behind_routes : List Key
behind_routes = key.Class ∷ key.Classes ∷ key.RateBps ∷ key.BurstBits ∷ key.MinOctets ∷ key.MaxOctets ∷ key.DeadlineNs
    ∷ key.Address ∷ key.Vlan ∷ []

-- the keys of a stream that may have several paths, or one alone
abbrev stream_keys : Bool → List Key
stream_keys several = key.Name ∷ routes_keys several ++ behind_routes

-- what is not missing in a stream's table
record IsWhole (e : Entry) : Type 0 where
  name : is_missing e key.Name ≡ false
  path : is_missing e key.Path ≡ false
  from : is_missing e key.From ≡ false
  to : is_missing e key.To ≡ false
  behind : All (λ (k : Key). is_missing e k ≡ false) behind_routes

-- of the keys behind the routes that at a place is not missing
behind_missing : (e : Entry) → IsWhole e → (i : ℕ) → i < length behind_routes
    → is_missing e (get_or behind_routes i key.Name) ≡ false
behind_missing e w i below = All-get_or (λ (k : Key). is_missing e k ≡ false) behind_routes i key.Name below w.behind

whole_from : (e : Entry) → is_missing e key.Name ≡ false → is_missing e key.Path ≡ false
    → All (λ (k : Key). is_missing e k ≡ false) (key.From ∷ key.To ∷ behind_routes) → IsWhole e
whole_from e name path rest =
    let P : Key → Type 0 = λ k. is_missing e k ≡ false in
    let behind : All P (key.To ∷ behind_routes) = All-tail P key.From (key.To ∷ behind_routes) rest in
    record {
      name = name;
      path = path;
      from = All-head P key.From (key.To ∷ behind_routes) rest;
      to = All-head P key.To behind_routes behind;
      behind = All-tail P key.To behind_routes behind;
    }

whole_alone : (e : Entry) → All (λ (k : Key). is_missing e k ≡ false) (stream_keys false) → IsWhole e
whole_alone e all =
    let P : Key → Type 0 = λ k. is_missing e k ≡ false in
    let routes : All P (routes_keys false ++ behind_routes) =
    All-tail P key.Name (routes_keys false ++ behind_routes) all in
    whole_from e (All-head P key.Name (routes_keys false ++ behind_routes) all)
    (All-head P key.Path (key.From ∷ key.To ∷ behind_routes) routes)
    (All-tail P key.Path (key.From ∷ key.To ∷ behind_routes) routes)

whole_several : (e : Entry) → All (λ (k : Key). is_missing e k ≡ false) (stream_keys true) → IsWhole e
whole_several e all =
    let P : Key → Type 0 = λ k. is_missing e k ≡ false in
    let routes : All P (routes_keys true ++ behind_routes) =
    All-tail P key.Name (routes_keys true ++ behind_routes) all in
    let paths : All P (key.Paths ∷ key.From ∷ key.To ∷ behind_routes) =
    All-tail P key.Path (key.Paths ∷ key.From ∷ key.To ∷ behind_routes) routes in
    whole_from e (All-head P key.Name (routes_keys true ++ behind_routes) all)
    (All-head P key.Path (key.Paths ∷ key.From ∷ key.To ∷ behind_routes) routes)
    (All-tail P key.Paths (key.From ∷ key.To ∷ behind_routes) paths)

-- which keys a stream's table has in a format, and what is not missing where it is complete
record IsOf (e : Entry) : Type 0 where
  name : is_right e key.Name ≡ is_kind name_in e key.Name
  several : Bool
  may : may_branch e.format e.table ≡ several
  keys : keys_in e ≡ stream_keys several
  whole : IsComplete e → IsWhole e

of_format : (f : Format) (n : ℕ) (ms : Members) → IsOf (entry_of f Stream n ms)
of_format One n ms =
    record {
      name = refl;
      several = false;
      may = refl;
      keys = refl;
      whole = λ c. whole_alone
          (entry_of One Stream n ms) c;
    }
of_format Two n ms =
    record {
      name = refl;
      several = false;
      may = refl;
      keys = refl;
      whole = λ c. whole_alone
          (entry_of Two Stream n ms) c;
    }
of_format Three n ms =
    record {
      name = refl;
      several = true;
      may = refl;
      keys = refl;
      whole = λ c. whole_several
          (entry_of Three Stream n ms) c;
    }

-- the keys of a stream, whose numbers are read as one
keys_told : {N : Type 0} (e : Entry) (several : Bool) (numbers : Result N DocumentFault)
    (last : List ℕ → List file.DeclaredRoute → List ℕ → N → Option (ℕ × ℕ) → file.DeclaredStream)
    → is_right e key.Name ≡ is_kind name_in e key.Name → may_branch e.format e.table ≡ several → IsWhole e
    → Told (λ (x : N). Any x) (wrongs e number_keys) numbers
    → Told (λ (x : file.DeclaredStream). Any x) (wrongs e (stream_keys several))
    (name_at e key.Name >>= λ name. routes_at e >>= λ routes. classes_at e >>= λ classes.
    numbers >>= λ m. identity_at e >>= λ identity. Ok (last name routes classes m identity))
keys_told {N} e several numbers last named may w told =
    let G : file.DeclaredStream → Type 0 = λ x. Any x in
    next_key e key.Name (routes_keys several ++ behind_routes) name_in G
    (λ name. routes_at e >>= λ routes. classes_at e >>= λ classes.
    numbers >>= λ m. identity_at e >>= λ identity. Ok (last name routes classes m identity))
    (stands (has e key.Name) w.name) named
    (λ name is. chained_keys e (λ (x : List file.DeclaredRoute). Any x) G (routes_keys several) behind_routes
    (routes_at e) (λ routes. classes_at e >>= λ classes. numbers >>= λ m. identity_at e
    >>= λ identity. Ok (last name routes classes m identity))
    (routes_told e several may w.path w.from w.to)
    (λ routes known. chained_keys e (λ (x : List ℕ). Any x) G class_keys (key.RateBps
    ∷ key.BurstBits ∷ key.MinOctets ∷ key.MaxOctets ∷ key.DeadlineNs ∷ key.Address ∷ key.Vlan ∷ []) (classes_at e)
    (λ classes. numbers >>= λ m. identity_at e >>= λ identity. Ok (last name routes classes m identity))
    (classes_told e (behind_missing e w 0 (omega arith)))
    (λ classes known. chained_keys e (λ (x : N). Any x) G number_keys (key.Address ∷ key.Vlan ∷ []) numbers
    (λ m. identity_at e >>= λ identity. Ok (last name routes classes m identity)) told
    (λ m known. chained_keys e (λ (x : Option (ℕ × ℕ)). Any x) G identity_keys [] (identity_at e)
    (λ identity. Ok (last name routes classes m identity))
    (identity_told e (behind_missing e w 7 (omega arith)) (behind_missing e w 8 (omega arith)))
    (λ identity known. (refl, tt))))))

-- a stream, whose numbers are read as one
stream_by : {N : Type 0} (e : Entry) (numbers : Result N DocumentFault)
    (last : List ℕ → List file.DeclaredRoute → List ℕ → N → Option (ℕ × ℕ) → file.DeclaredStream) → IsOf e
    → (IsWhole e → Told (λ (x : N). Any x) (wrongs e number_keys) numbers)
    → Told (λ (x : file.DeclaredStream). Any x) (table_fault e)
    (formed e >>= λ u. name_at e key.Name >>= λ name. routes_at e >>= λ routes. classes_at e >>= λ classes.
    numbers >>= λ m. identity_at e >>= λ identity. Ok (last name routes classes m identity))
stream_by {N} e numbers last of told =
    let read : Result file.DeclaredStream DocumentFault =
    name_at e key.Name >>= λ name. routes_at e >>= λ routes. classes_at e >>= λ classes.
    numbers >>= λ m. identity_at e >>= λ identity. Ok (last name routes classes m identity) in
    table_told e (λ u. read)
    (λ u c. subst (λ (ks : List Key). Told (λ (x : file.DeclaredStream). Any x) (wrongs e ks) read) (sym of.keys)
    (keys_told e of.several numbers last of.name of.may (of.whole c) (told (of.whole c))))

pub stream_told : (f : Format) (n : ℕ) (ms : Members)
    → Told (λ (x : file.DeclaredStream). Any x) (table_fault (entry_of f Stream n ms))
    (stream_in (entry_of f Stream n ms))
stream_told f n ms =
    let e : Entry = entry_of f Stream n ms in
    stream_by e (numbers_in e) (λ name routes classes m identity. record {
      name = name;
      routes = routes;
      classes = classes;
      rate_bps = m.rate_bps;
      burst_bits = m.burst_bits;
      min_octets = m.min_octets;
      max_octets = m.max_octets;
      deadline_ns = m.deadline_ns;
      identity = identity;
    }) (of_format f n ms)
    (λ w. numbers_told e (stands (has e key.RateBps) (behind_missing e w 2 (omega arith)))
    (stands (has e key.BurstBits) (behind_missing e w 3 (omega arith)))
    (stands (has e key.MinOctets) (behind_missing e w 4 (omega arith)))
    (stands (has e key.MaxOctets) (behind_missing e w 5 (omega arith))))

pub link_local_told : (f : Format) (n : ℕ) (ms : Members)
    → Told (λ (x : file.DeclaredLinkLocal). Any x) (table_fault (entry_of f LinkLocal n ms))
    (link_local_in (entry_of f LinkLocal n ms))
link_local_told f n ms =
    let e : Entry = entry_of f LinkLocal n ms in
    let G : file.DeclaredLinkLocal → Type 0 = λ x. Any x in
    let last : List ℕ → ℕ → StreamNumbers → file.DeclaredLinkLocal = λ name class m. record {
      name = name;
      class = class;
      rate_bps = m.rate_bps;
      burst_bits = m.burst_bits;
      min_octets = m.min_octets;
      max_octets = m.max_octets;
      deadline_ns = m.deadline_ns;
    } in
    table_told e (λ u. short_name_at e key.Name >>= λ name. long_at e key.Class >>= λ class. numbers_in e
    >>= λ m. Ok (last name class m))
    (λ u c. next_key e key.Name (key.Class ∷ number_keys) short_name_in G
    (λ name. long_at e key.Class >>= λ class. numbers_in e >>= λ m. Ok (last name class m))
    (stands (has e key.Name) (not_missing e 0 c (omega arith))) refl
    (λ name is. next_key e key.Class number_keys long_in G
    (λ class. numbers_in e >>= λ m. Ok (last name class m))
    (stands (has e key.Class) (not_missing e 1 c (omega arith))) refl
    (λ class is. made (λ (x : StreamNumbers). Any x) G (wrongs e number_keys) (numbers_in e) (λ m. last name class m)
    (numbers_told e (stands (has e key.RateBps) (not_missing e 2 c (omega arith)))
    (stands (has e key.BurstBits) (not_missing e 3 c (omega arith)))
    (stands (has e key.MinOctets) (not_missing e 4 c (omega arith)))
    (stands (has e key.MaxOctets) (not_missing e 5 c (omega arith)))) (λ m known. tt))))

pub link_local_flow_told : (f : Format) (n : ℕ) (ms : Members)
    → Told (λ (x : file.DeclaredLinkLocalFlow). Any x) (table_fault (entry_of f LinkLocalFlow n ms))
    (link_local_flow_in (entry_of f LinkLocalFlow n ms))
link_local_flow_told f n ms =
    let e : Entry = entry_of f LinkLocalFlow n ms in
    let G : file.DeclaredLinkLocalFlow → Type 0 = λ x. Any x in
    let last : List ℕ → ℕ → Result file.DeclaredLinkLocalFlow DocumentFault =
    λ name most. Ok (record { name = name; max_octets = most }) in
    table_told e (λ u. short_name_at e key.Name >>= λ name. long_at e key.MaxOctets >>= λ most. last name most)
    (λ u c. next_key e key.Name (key.MaxOctets ∷ []) short_name_in G
    (λ name. long_at e key.MaxOctets >>= λ most. last name most)
    (stands (has e key.Name) (not_missing e 0 c (omega arith))) refl
    (λ name is. next_key e key.MaxOctets [] long_in G (λ most. last name most)
    (stands (has e key.MaxOctets) (not_missing e 1 c (omega arith))) refl (λ most is. (refl, tt))))

-- a flow has one listener, in each format
flow_alone : (f : Format) → may_branch f Flow ≡ false
flow_alone One = refl
flow_alone Two = refl
flow_alone Three = refl

pub flow_told : (f : Format) (n : ℕ) (ms : Members)
    → Told (λ (x : file.DeclaredFlow). Any x) (table_fault (entry_of f Flow n ms)) (flow_in (entry_of f Flow n ms))
flow_told f n ms =
    let e : Entry = entry_of f Flow n ms in
    let G : file.DeclaredFlow → Type 0 = λ x. Any x in
    let last : List ℕ → file.DeclaredRoute → ℕ → Result file.DeclaredFlow DocumentFault =
    λ name route most. Ok (record { name = name; route = route; max_octets = most }) in
    table_told e (λ u. name_at e key.Name >>= λ name. route_at e >>= λ route. long_at e key.MaxOctets
    >>= λ most. last name route most)
    (λ u c. next_key e key.Name (key.Path ∷ key.From ∷ key.To ∷ key.MaxOctets ∷ []) name_in G
    (λ name. route_at e >>= λ route. long_at e key.MaxOctets >>= λ most. last name route most)
    (stands (has e key.Name) (not_missing e 0 c (omega arith))) refl
    (λ name is. chained_keys e (λ (x : file.DeclaredRoute). Any x) G route_keys (key.MaxOctets ∷ []) (route_at e)
    (λ route. long_at e key.MaxOctets >>= λ most. last name route most)
    (route_told e (flow_alone f) (not_missing e 1 c (omega arith)) (not_missing e 2 c (omega arith))
    (not_missing e 3 c (omega arith)))
    (λ route known. next_key e key.MaxOctets [] long_in G (λ most. last name route most)
    (stands (has e key.MaxOctets) (not_missing e 4 c (omega arith))) refl (λ most is. (refl, tt)))))
