-- What is read of a table stands there, key by key.
use Rattle.std.proofs.Common.{◌≡◌, ◌∙◌, ℕ, Bool, true, false, cond, List, [], ◌∷◌, length, Option, Some, None, Result}
use Rattle.std.proofs.Common.{Ok}
use Rattle.std.proofs.Common.{Err, refl, sym, ap, subst, inl, inr, ◌⊎◌}
use Rattle.std.specs.Prelude.{pos, map, nat_le, not, ◌||◌, is_some}
use Rattle.toml.specs.Data.{Data, Members, array, as_str, get_member, integer, string}
use Rattle.ats_num.specs.Failure.{◌>>=◌, ok_where}
use Rattle.ats_network_table.specs.Kinds.{address_in, address_of, list_in, long_in, name_in, one_or_more, paths_in}
use Rattle.ats_network_table.specs.Kinds.{short_name_in, whole_in}
use Rattle.ats_network_table.specs.Walk.{Entry, at, classes_at, clock_at, deadline_at, formed, has, has_paths}
use Rattle.ats_network_table.specs.Walk.{identity_at, listeners_at, long_at, may_branch, name_at, path_at, paths_at}
use Rattle.ats_network_table.specs.Walk.{short_at, short_name_at, whole_at, wrong_kind}
use Rattle.ats_network_table.specs.Words.{greatest_processing_key, key_text, least_processing_key}
use Rattle.ats_network_table.specs.declared.fault.DocumentFault.{DocumentFault}
use Rattle.ats_network_table.specs.declared.format.Format.{Format}
use Rattle.ats_network_table.specs.declared.format.Format.TheVariants.{One, Three, Two}
use Rattle.ats_network_table.specs.declared.key.Key.{Key}
use Rattle.ats_network_table.specs.declared.key.Key.TheVariants as key
use Rattle.ats_network_table.specs.declared.table.Table.{Table}
use Rattle.ats_network_toml.specs.Document as file
use Rattle.ats_network_toml.specs.Entries.{bridge_in, flow_in, link_in, link_local_flow_in, link_local_in, numbers_in}
use Rattle.ats_network_toml.specs.Entries.{route_at, routes_at, station_in, stream_in}
use Rattle.ats_network_toml.specs.declared.entries.BridgeEntry.{BridgeEntry}
use Rattle.ats_network_toml.specs.declared.entries.LinkEntry.{LinkEntry}
use Rattle.ats_network_toml.specs.declared.entries.StationEntry.{StationEntry}
use Rattle.ats_network_toml.specs.declared.entries.StreamNumbers.{StreamNumbers}
use Rattle.ats_network_file.proofs.Steps.{both, ok_where_ok}
use Rattle.ats_first_examples.specs.Entries.{HasClasses, HasClock, HasEnds, HasIdentity, HasNumber}
use Rattle.ats_first_examples.specs.Entries.{HasNumberOr, HasPath, HasRoutes, HasText, HasTexts, IsBridgeTable}
use Rattle.ats_first_examples.specs.Entries.{IsFlowTable, IsLinkLocalFlowTable, IsLinkLocalTable, IsLinkTable}
use Rattle.ats_first_examples.specs.Entries.{IsStationTable, IsStreamTable, greatest_key, items_of, least_key, texts}
use Rattle.ats_first_examples.proofs.ValuesStand.{AreListeners, left_out, list_back, listeners_back, name_back}
use Rattle.ats_first_examples.proofs.ValuesStand.{ok_same}
use Rattle.ats_first_examples.proofs.ValuesStand.{paths_back, read_at, short_name_back, stands_at, text_back, two}
use Rattle.ats_first_examples.proofs.ValuesStand.{whole_back}

-- a table of a file
abbrev pub entry_of : Format → Table → ℕ → Members → Entry
entry_of f t n ms = record { format = f; table = t; number = n; members = ms }

-- names and numbers
name_stands : (e : Entry) (k : Key) (name : List ℕ) → name_at e k ≡ Ok name → HasText e.members (key_text k) name
name_stands e k name h = stands_at e k name_in string name_back name h

short_name_stands : (e : Entry) (k : Key) (name : List ℕ) → short_name_at e k ≡ Ok name
    → HasText e.members (key_text k) name
short_name_stands e k name h = stands_at e k short_name_in string short_name_back name h

whole_stands : (e : Entry) (k : Key) (least most n : ℕ) → whole_at e k least most ≡ Ok n
    → HasNumber e.members (key_text k) n
whole_stands e k least most n h =
    stands_at e k (whole_in least most) (λ n. integer (pos n)) (whole_back least most) n h

short_stands : (e : Entry) (k : Key) (n : ℕ) → short_at e k ≡ Ok n → HasNumber e.members (key_text k) n
short_stands e k n h = whole_stands e k 0 4294967295 n h

long_stands : (e : Entry) (k : Key) (n : ℕ) → long_at e k ≡ Ok n → HasNumber e.members (key_text k) n
long_stands e k n h = whole_stands e k 0 9223372036854775807 n h

-- stations, bridges and links
pub station_stands : (f : Format) (t : Table) (n : ℕ) (ms : Members) (s : StationEntry)
    → station_in (entry_of f t n ms) ≡ Ok s → IsStationTable ms s
station_stands f t n ms s h =
    let e : Entry = entry_of f t n ms in
    let well = both (formed e) _ s h in
    let name = both (name_at e key.Name) _ s well.then in
    subst (λ (s : StationEntry). IsStationTable ms s) (ok_same _ s name.then)
    (record { name = name_stands e key.Name name.first name.is })

least_text : (f : Format) → key_text (least_processing_key f) ≡ least_key f
least_text One = refl
least_text Two = refl
least_text Three = refl

greatest_text : (f : Format) → key_text (greatest_processing_key f) ≡ greatest_key f
greatest_text One = refl
greatest_text Two = refl
greatest_text Three = refl

clock_stands : (f : Format) (t : Table) (n : ℕ) (ms : Members) (k : Key) (x : ℕ)
    → clock_at (entry_of f t n ms) k ≡ Ok x → HasClock f ms (key_text k) x
clock_stands One t n ms k x h = sym (ok_same 0 x h)
clock_stands Two t n ms k x h = sym (ok_same 0 x h)
clock_stands Three t n ms k x h =
    let e : Entry = entry_of Three t n ms in
    left_out (get_member (key_text k) ms) 0 x (λ n. integer (pos n)) (short_at e k) (short_stands e k x) h

pub bridge_stands : (f : Format) (t : Table) (n : ℕ) (ms : Members) (b : BridgeEntry)
    → bridge_in (entry_of f t n ms) ≡ Ok b → IsBridgeTable f ms b
bridge_stands f t n ms b h =
    let e : Entry = entry_of f t n ms in
    let well = both (formed e) _ b h in
    let name = both (name_at e key.Name) _ b well.then in
    let least = both (short_at e (least_processing_key f)) _ b name.then in
    let most = both (short_at e (greatest_processing_key f)) _ b least.then in
    let residence = both (short_at e key.ResidenceNs) _ b most.then in
    let ppm = both (clock_at e key.ClockPpm) _ b residence.then in
    let step = both (clock_at e key.ClockStepPs) _ b ppm.then in
    subst (λ (b : BridgeEntry). IsBridgeTable f ms b) (ok_same _ b step.then)
    (record {
      name = name_stands e key.Name name.first name.is;
      least = subst (λ (k : List ℕ). HasNumber ms k least.first) (least_text f)
          (short_stands e (least_processing_key f) least.first least.is);
      greatest = subst (λ (k : List ℕ). HasNumber ms k most.first) (greatest_text f)
          (short_stands e (greatest_processing_key f) most.first most.is);
      residence = short_stands e key.ResidenceNs residence.first residence.is;
      deviation = clock_stands f t n ms key.ClockPpm ppm.first ppm.is;
      step = clock_stands f t n ms key.ClockStepPs step.first step.is;
    })

pub link_stands : (f : Format) (t : Table) (n : ℕ) (ms : Members) (l : LinkEntry)
    → link_in (entry_of f t n ms) ≡ Ok l → IsLinkTable ms l
link_stands f t n ms l h =
    let e : Entry = entry_of f t n ms in
    let well = both (formed e) _ l h in
    let a = both (name_at e key.A) _ l well.then in
    let b = both (name_at e key.B) _ l a.then in
    let mbps = both (short_at e key.Mbps) _ l b.then in
    let propagation = both (short_at e key.PropagationNs) _ l mbps.then in
    subst (λ (l : LinkEntry). IsLinkTable ms l) (ok_same _ l propagation.then)
    (record {
      one_end = name_stands e key.A a.first a.is;
      other_end = name_stands e key.B b.first b.is;
      rate = short_stands e key.Mbps mbps.first mbps.is;
      propagation = short_stands e key.PropagationNs propagation.first propagation.is;
    })

-- the numbers of a stream
record NumbersStand (ms : Members) (ns : StreamNumbers) : Type 0 where
  pub rate : HasNumber ms (key_text key.RateBps) ns.rate_bps
  pub burst : HasNumber ms (key_text key.BurstBits) ns.burst_bits
  pub least : HasNumber ms (key_text key.MinOctets) ns.min_octets
  pub greatest : HasNumber ms (key_text key.MaxOctets) ns.max_octets
  pub deadline : HasNumberOr 1000000000 ms (key_text key.DeadlineNs) ns.deadline_ns

deadline_stands : (e : Entry) (x : ℕ) → deadline_at e ≡ Ok x
    → HasNumberOr 1000000000 e.members (key_text key.DeadlineNs) x
deadline_stands e x h =
    left_out (get_member (key_text key.DeadlineNs) e.members) 1000000000 x (λ n. integer (pos n))
    (long_at e key.DeadlineNs) (long_stands e key.DeadlineNs x) h

numbers_stand : (e : Entry) (ns : StreamNumbers) → numbers_in e ≡ Ok ns → NumbersStand e.members ns
numbers_stand e ns h =
    let rate = both (long_at e key.RateBps) _ ns h in
    let burst = both (long_at e key.BurstBits) _ ns rate.then in
    let least = both (long_at e key.MinOctets) _ ns burst.then in
    let most = both (long_at e key.MaxOctets) _ ns least.then in
    let deadline = both (deadline_at e) _ ns most.then in
    subst (λ (ns : StreamNumbers). NumbersStand e.members ns) (ok_same _ ns deadline.then)
    (record {
      rate = long_stands e key.RateBps rate.first rate.is;
      burst = long_stands e key.BurstBits burst.first burst.is;
      least = long_stands e key.MinOctets least.first least.is;
      greatest = long_stands e key.MaxOctets most.first most.is;
      deadline = deadline_stands e deadline.first deadline.is;
    })

-- routes
path_stands : (e : Entry) (names : List (List ℕ)) → path_at e ≡ Ok names
    → HasTexts e.members (key_text key.Path) names
path_stands e names h = by (has e key.From || has e key.To || has e key.Paths) h
  where
    fault : DocumentFault
    fault = wrong_kind e key.Path

    by : (b : Bool)
        → cond b (Err fault) (at e key.Path (list_in name_in)
        >>= λ names. ok_where (nat_le 2 (length names)) fault names) ≡ Ok names
        → HasTexts e.members (key_text key.Path) names
    by true h = cc h
    by false h =
        let read = both (at e key.Path (list_in name_in)) (λ names. ok_where (nat_le 2 (length names)) fault names)
        names h in
        let kept = ok_where_ok (nat_le 2 (length read.first)) fault read.first names read.then in
        stands_at e key.Path (list_in name_in) texts (list_back name_in string name_back) read.first read.is
        ∙ ap (λ (ts : List (List ℕ)). Some (texts ts)) kept.same

paths_stand : (e : Entry) (paths : List (List (List ℕ))) → paths_at e ≡ Ok paths
    → get_member (key_text key.Paths) e.members ≡ Some (array (items_of texts paths))
paths_stand e paths h = by (has e key.Path || has e key.From || has e key.To) h
  where
    by : (b : Bool) → cond b (Err (wrong_kind e key.Paths)) (at e key.Paths paths_in) ≡ Ok paths
        → get_member (key_text key.Paths) e.members ≡ Some (array (items_of texts paths))
    by true h = cc h
    by false h =
        stands_at e key.Paths paths_in (λ paths. array (items_of texts paths)) paths_back paths h

by_path : (e : Entry) (names : List (List ℕ)) (routes : List file.DeclaredRoute) → path_at e ≡ Ok names
    → routes ≡ file.path names ∷ [] → HasPath e.members routes
by_path e names routes h is = record { names = names; stand = path_stands e names h; are = is }

by_ends : (e : Entry) (routes : List file.DeclaredRoute) (from : List ℕ) (listeners : List (List ℕ))
    → name_at e key.From ≡ Ok from
    → AreListeners (get_member (key_text key.To) e.members) listeners → routes ≡ map (file.ends from) listeners
    → HasRoutes e.members routes
by_ends e routes from listeners begins (inl one) is =
    inr (inr (inl (record {
      from = from;
      to = one.0;
      begins = name_stands e key.From from begins;
      ends = one.1;
      are = is ∙ ap (λ (ls : List (List ℕ)). map (file.ends from) ls) one.2;
    })))
by_ends e routes from listeners begins (inr several) is =
    inr (inr (inr (record {
      from = from;
      listeners = listeners;
      begins = name_stands e key.From from begins;
      ends = several;
      are = is;
    })))

routes_stand : (e : Entry) (routes : List file.DeclaredRoute) → routes_at e ≡ Ok routes → HasRoutes e.members routes
routes_stand e routes h = by (has e key.Path) (has_paths e) h
  where
    along : Result (List file.DeclaredRoute) DocumentFault
    along = path_at e >>= λ names. Ok (file.path names ∷ [])

    several : Result (List file.DeclaredRoute) DocumentFault
    several = paths_at e >>= λ paths. Ok (map file.path paths)

    between : Result (List file.DeclaredRoute) DocumentFault
    between = name_at e key.From >>= λ from. listeners_at e >>= λ listeners. Ok (map (file.ends from) listeners)

    by : (path paths : Bool) → cond path along (cond paths several between) ≡ Ok routes → HasRoutes e.members routes
    by true paths h =
        let names = both (path_at e) (λ names. Ok (file.path names ∷ [])) routes h in
        inl (by_path e names.first routes names.is (sym (ok_same (file.path names.first ∷ []) routes names.then)))
    by false true h =
        let paths = both (paths_at e) (λ paths. Ok (map file.path paths)) routes h in
        inr (inl (record {
          paths = paths.first;
          stand = paths_stand e paths.first paths.is;
          are = sym (ok_same (map file.path paths.first) routes paths.then);
        }))
    by false false h =
        let from = both (name_at e key.From)
        (λ from. listeners_at e >>= λ listeners. Ok (map (file.ends from) listeners)) routes h in
        let listeners = both (listeners_at e) (λ listeners. Ok (map (file.ends from.first) listeners)) routes
        from.then in
        by_ends e routes from.first listeners.first from.is
        (listeners_back (may_branch e.format e.table) (get_member (key_text key.To) e.members) listeners.first
        (read_at e key.To (one_or_more (may_branch e.format e.table)) listeners.first listeners.is))
        (sym (ok_same (map (file.ends from.first) listeners.first) routes listeners.then))

-- classes
classes_stand : (e : Entry) (cs : List ℕ) → classes_at e ≡ Ok cs → HasClasses e.members cs
classes_stand e cs h = by (has e key.Class) h
  where
    one : Result (List ℕ) DocumentFault
    one = at e key.Class long_in
        >>= λ class. ok_where (not (has e key.Classes)) (wrong_kind e key.Classes) (class ∷ [])

    by : (b : Bool) → cond b one (at e key.Classes (list_in long_in)) ≡ Ok cs → HasClasses e.members cs
    by true h =
        let class = both (at e key.Class long_in)
        (λ class. ok_where (not (has e key.Classes)) (wrong_kind e key.Classes) (class ∷ [])) cs h in
        let kept = ok_where_ok (not (has e key.Classes)) (wrong_kind e key.Classes) (class.first ∷ []) cs
        class.then in
        inl (class.first, long_stands e key.Class class.first class.is, sym kept.same)
    by false h =
        inr (stands_at e key.Classes (list_in long_in) (λ ns. array (items_of (λ n. integer (pos n)) ns))
        (list_back long_in (λ n. integer (pos n)) (whole_back 0 9223372036854775807)) cs h)

-- addresses
identity_stands : (e : Entry) (identity : Option (ℕ × ℕ)) → identity_at e ≡ Ok identity
    → HasIdentity e.members identity
identity_stands e identity h = by (get_member (key_text key.Address) e.members) refl h
  where
    both_given : Result (Option (ℕ × ℕ)) DocumentFault
    both_given = at e key.Address address_in >>= λ address. whole_at e key.Vlan 1 4094
        >>= λ vlan. Ok (Some (address, vlan))

    by : (found : Option Data) → get_member (key_text key.Address) e.members ≡ found
        → cond (is_some found) both_given (Ok None) ≡ Ok identity → HasIdentity e.members identity
    by None none h = inr (none, sym (ok_same None identity h))
    by (Some d) is h =
        let address = both (at e key.Address address_in)
        (λ address. whole_at e key.Vlan 1 4094 >>= λ vlan. Ok (Some (address, vlan))) identity h in
        let vlan = both (whole_at e key.Vlan 1 4094) (λ vlan. Ok (Some (address.first, vlan))) identity
        address.then in
        let value = two (get_member (key_text key.Address) e.members) address_in address.first
        (read_at e key.Address address_in address.first address.is) in
        let text = two (as_str value.first) address_of address.first value.then in
        inl (record {
          text = text.first;
          address = address.first;
          vlan = vlan.first;
          stands = value.is ∙ ap Some (text_back value.first text.first text.is);
          writes = text.then;
          beside = whole_stands e key.Vlan 1 4094 vlan.first vlan.is;
          is = sym (ok_same (Some (address.first, vlan.first)) identity vlan.then);
        })

pub stream_stands : (f : Format) (t : Table) (n : ℕ) (ms : Members) (s : file.DeclaredStream)
    → stream_in (entry_of f t n ms) ≡ Ok s → IsStreamTable ms s
stream_stands f t n ms s h =
    let e : Entry = entry_of f t n ms in
    let well = both (formed e) _ s h in
    let name = both (name_at e key.Name) _ s well.then in
    let routes = both (routes_at e) _ s name.then in
    let classes = both (classes_at e) _ s routes.then in
    let numbers = both (numbers_in e) _ s classes.then in
    let identity = both (identity_at e) _ s numbers.then in
    let are = numbers_stand e numbers.first numbers.is in
    subst (λ (s : file.DeclaredStream). IsStreamTable ms s) (ok_same _ s identity.then)
    (record {
      name = name_stands e key.Name name.first name.is;
      routes = routes_stand e routes.first routes.is;
      classes = classes_stand e classes.first classes.is;
      rate = are.rate;
      burst = are.burst;
      least = are.least;
      greatest = are.greatest;
      deadline = are.deadline;
      identity = identity_stands e identity.first identity.is;
    })

pub link_local_stands : (f : Format) (t : Table) (n : ℕ) (ms : Members) (s : file.DeclaredLinkLocal)
    → link_local_in (entry_of f t n ms) ≡ Ok s → IsLinkLocalTable ms s
link_local_stands f t n ms s h =
    let e : Entry = entry_of f t n ms in
    let well = both (formed e) _ s h in
    let name = both (short_name_at e key.Name) _ s well.then in
    let class = both (long_at e key.Class) _ s name.then in
    let numbers = both (numbers_in e) _ s class.then in
    let are = numbers_stand e numbers.first numbers.is in
    subst (λ (s : file.DeclaredLinkLocal). IsLinkLocalTable ms s) (ok_same _ s numbers.then)
    (record {
      name = short_name_stands e key.Name name.first name.is;
      class = long_stands e key.Class class.first class.is;
      rate = are.rate;
      burst = are.burst;
      least = are.least;
      greatest = are.greatest;
      deadline = are.deadline;
    })

-- flows
abbrev IsRoute : Members → file.DeclaredRoute → Type 0
IsRoute ms route = HasPath ms (route ∷ []) ⊎ HasEnds ms (route ∷ [])

route_stands : (e : Entry) (route : file.DeclaredRoute) → route_at e ≡ Ok route → IsRoute e.members route
route_stands e route h = by (has e key.Path) h
  where
    along : Result file.DeclaredRoute DocumentFault
    along = path_at e >>= λ names. Ok (file.path names)

    between : Result file.DeclaredRoute DocumentFault
    between = name_at e key.From >>= λ from. name_at e key.To >>= λ to. Ok (file.ends from to)

    by : (b : Bool) → cond b along between ≡ Ok route → IsRoute e.members route
    by true h =
        let names = both (path_at e) (λ names. Ok (file.path names)) route h in
        inl (by_path e names.first (route ∷ []) names.is
        (ap (λ (r : file.DeclaredRoute). r ∷ []) (sym (ok_same (file.path names.first) route names.then))))
    by false h =
        let from = both (name_at e key.From) (λ from. name_at e key.To >>= λ to. Ok (file.ends from to)) route h in
        let to = both (name_at e key.To) (λ to. Ok (file.ends from.first to)) route from.then in
        inr (record {
          from = from.first;
          to = to.first;
          begins = name_stands e key.From from.first from.is;
          ends = name_stands e key.To to.first to.is;
          are = ap (λ (r : file.DeclaredRoute). r ∷ [])
              (sym (ok_same (file.ends from.first to.first) route to.then));
        })

pub flow_stands : (f : Format) (t : Table) (n : ℕ) (ms : Members) (x : file.DeclaredFlow)
    → flow_in (entry_of f t n ms) ≡ Ok x → IsFlowTable ms x
flow_stands f t n ms x h =
    let e : Entry = entry_of f t n ms in
    let well = both (formed e) _ x h in
    let name = both (name_at e key.Name) _ x well.then in
    let route = both (route_at e) _ x name.then in
    let most = both (long_at e key.MaxOctets) _ x route.then in
    subst (λ (x : file.DeclaredFlow). IsFlowTable ms x) (ok_same _ x most.then)
    (record {
      name = name_stands e key.Name name.first name.is;
      route = route_stands e route.first route.is;
      greatest = long_stands e key.MaxOctets most.first most.is;
    })

pub link_local_flow_stands : (f : Format) (t : Table) (n : ℕ) (ms : Members) (x : file.DeclaredLinkLocalFlow)
    → link_local_flow_in (entry_of f t n ms) ≡ Ok x → IsLinkLocalFlowTable ms x
link_local_flow_stands f t n ms x h =
    let e : Entry = entry_of f t n ms in
    let well = both (formed e) _ x h in
    let name = both (short_name_at e key.Name) _ x well.then in
    let most = both (long_at e key.MaxOctets) _ x name.then in
    subst (λ (x : file.DeclaredLinkLocalFlow). IsLinkLocalFlowTable ms x) (ok_same _ x most.then)
    (record {
      name = short_name_stands e key.Name name.first name.is;
      greatest = long_stands e key.MaxOctets most.first most.is;
    })
