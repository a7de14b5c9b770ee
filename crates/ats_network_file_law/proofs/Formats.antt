-- A text of format 3 that says nothing new declares, but for the format, what it does in format 2.
use Rattle.std.proofs.Common.{◌≡◌, ◌∙◌, ℕ, ◌+◌, ◌-◌, Bool, true, false, cond, List, [], ◌∷◌, length, Option, Some, None}
use Rattle.std.proofs.Common.{Result, Ok, Err, refl, sym, ap, subst}
use Rattle.std.specs.Prelude.{not, ◌&&◌, ◌||◌, pos, nat_le, nat_lt, is_some, find, map, option_and_then, unwrap_or}
use Rattle.std.specs.List.{All}
use Rattle.std.specs.Option.{option_map, option_or}
use Rattle.std.specs.Str.{bytes_eq}
use Rattle.std.proofs.lemmas.Bool.{true≢false}
use Rattle.std.proofs.lemmas.List.Elements.{All-cons, All-head, All-nil, All-tail, All-weaker}
use Rattle.std.proofs.lemmas.Option.{none-some}
use Rattle.toml.specs.Data.{Data, Items, Members, as_array, get_member, integer, member, no_members}
use Rattle.ats_facts.proofs.Bytes.{bytes_eq-true}
use Rattle.ats_num.specs.Failure.{◌>>=◌, ok_where, or_fault}
use Rattle.ats_network_table.specs.Kinds.{all_in, name_in, one_or_more, some_where, whole_in}
use Rattle.ats_network_table.specs.Walk.{Entry, classes_at, format_at, format_of, formed, has, has_paths}
use Rattle.ats_network_table.specs.Walk.{clock_at, has_unknown, short_at}
use Rattle.ats_network_table.specs.Walk.{identity_at, is_known, is_missing, listeners_at, missing_key, name_at}
use Rattle.ats_network_table.specs.Walk.{none_missing, path_at, paths_at}
use Rattle.ats_network_table.specs.Words.{bridge_keys, key_text, keys_behind_routes, keys_of, top_keys}
use Rattle.ats_network_table.specs.declared.format.Format.{Format}
use Rattle.ats_network_table.specs.declared.format.Format.TheVariants.{Three, Two}
use Rattle.ats_network_table.specs.declared.key.Key.{Key}
use Rattle.ats_network_table.specs.declared.key.Key.TheVariants as key
use Rattle.ats_network_table.specs.declared.fault.DocumentFault.{DocumentFault}
use Rattle.ats_network_table.specs.declared.fault.DocumentFault.TheVariants.{Limit, NotToml, Unknown, WrongKind}
use Rattle.ats_network_table.specs.declared.table.Table.{Table}
use Rattle.ats_network_table.specs.declared.table.Table.TheVariants.{Bridge, Flow, Link, LinkLocal, LinkLocalFlow}
use Rattle.ats_network_table.specs.declared.table.Table.TheVariants.{Station}
use Rattle.ats_network_table.specs.declared.table.Table.TheVariants.{Stream, Top}
use Rattle.ats_network_table.proofs.Places.{get_first}
use Rattle.ats_network_toml.specs.Document as file
use Rattle.ats_network_toml.specs.Entries.{bridge_in, flow_in, link_in, link_local_flow_in, link_local_in, numbers_in}
use Rattle.ats_network_toml.specs.Entries.{routes_at, station_in, stream_in}
use Rattle.ats_network_toml.specs.declared.entries.BridgeEntry.{BridgeEntry}
use Rattle.ats_network_toml.specs.Reading.{arrays_in, arrays_read, document_in, entries_from, entries_in}
use Rattle.ats_network_toml.specs.Reading.{entries_within, senders_for, tables_at, tables_in}
use Rattle.ats_network_file_law.specs.FormFaults.{tables_told, top_of}
use Rattle.ats_network_file_law.specs.Formats.{FormatThreeIsFormatTwo, SaysNoClock, SaysNothingNew, with_format}
use Rattle.ats_network_file_law.proofs.FormReaders.{entry_of}

-- The top tables.

-- another key has what it had
get_other : (n : ℕ) (text : List ℕ) (ms : Members) → bytes_eq (key_text key.Format) text ≡ false
    → get_member text (with_format n ms) ≡ get_member text ms
get_other n text no_members other = refl
get_other n text (member own d ms) other =
    get_first text own (cond (bytes_eq (key_text key.Format) own) (integer (pos n)) d) (with_format n ms)
    ∙ by (bytes_eq text own) refl (get_other n text ms other) ∙ sym (get_first text own d ms)
  where
    value : Bool → Data
    value b = cond b (integer (pos n)) d

    by : (same : Bool) → bytes_eq text own ≡ same → get_member text (with_format n ms) ≡ get_member text ms
        → cond same (Some (value (bytes_eq (key_text key.Format) own))) (get_member text (with_format n ms))
        ≡ cond same (Some d) (get_member text ms)
    by true e rest =
        ap (λ (b : Bool). Some (value b))
        (ap (bytes_eq (key_text key.Format)) (sym (bytes_eq-true text own e)) ∙ other)
    by false e rest = rest

-- and the format has the number
get_format : (n : ℕ) (d : Data) (ms : Members) → get_member (key_text key.Format) ms ≡ Some d
    → get_member (key_text key.Format) (with_format n ms) ≡ Some (integer (pos n))
get_format n d no_members there = absurd (none-some d there)
get_format n d (member own e ms) there =
    get_first (key_text key.Format) own (value (bytes_eq (key_text key.Format) own)) (with_format n ms)
    ∙ by (bytes_eq (key_text key.Format) own) (sym (get_first (key_text key.Format) own e ms) ∙ there)
    (get_format n d ms)
  where
    value : Bool → Data
    value b = cond b (integer (pos n)) e

    by : (same : Bool) → cond same (Some e) (get_member (key_text key.Format) ms) ≡ Some d
        → (get_member (key_text key.Format) ms ≡ Some d
        → get_member (key_text key.Format) (with_format n ms) ≡ Some (integer (pos n)))
        → cond same (Some (value same)) (get_member (key_text key.Format) (with_format n ms)) ≡ Some (integer (pos n))
    by true h rest = refl
    by false h rest = rest h

unknown_same : (n : ℕ) (ks : List Key) (ms : Members) → has_unknown ks (with_format n ms) ≡ has_unknown ks ms
unknown_same n ks no_members = refl
unknown_same n ks (member text d ms) = ap (λ (b : Bool). not (is_known ks text) || b) (unknown_same n ks ms)

-- a search among keys by two tests that are the same there
find_same : (t u : Key → Bool) (ks : List Key) → All (λ k. t k ≡ u k) ks → find t ks ≡ find u ks
find_same t u [] same = refl
find_same t u (k ∷ ks) same =
    ap (λ (b : Bool). cond b (Some k) (find t ks)) (All-head (λ (l : Key). t l ≡ u l) k ks same)
    ∙ ap (λ (o : Option Key). cond (u k) (Some k) o) (find_same t u ks (All-tail (λ (l : Key). t l ≡ u l) k ks same))

-- a top table, read in some format
abbrev top_in : Format → Members → Entry
top_in format tree = record { format = format; table = Top; number = 0; members = tree }

-- what the top table has
record IsTop (tree : Members) : Type 0 where
  has_format : has (top_in Two (with_format 2 tree)) key.Format ≡ has (top_in Three tree) key.Format
  others : (k : Key) → bytes_eq (key_text key.Format) (key_text k) ≡ false
      → get_member (key_text k) (with_format 2 tree) ≡ get_member (key_text k) tree

is_top : (tree : Members) → get_member (key_text key.Format) tree ≡ Some (integer (pos 3)) → IsTop tree
is_top tree three = record {
  has_format = ap (λ (o : Option Data). is_some o) (get_format 2 (integer (pos 3)) tree three)
      ∙ sym (ap (λ (o : Option Data). is_some o) three);
  others = λ k other. get_other 2 (key_text k) tree other;
}

-- a key that does not stand there is the text of no member
other_text : (text own : List ℕ) (d : Data) (ms : Members) → get_member text (member own d ms) ≡ None
    → (bytes_eq text own ≡ false) × (get_member text ms ≡ None)
other_text text own d ms none = by (bytes_eq text own) refl (sym (get_first text own d ms) ∙ none)
  where
    by : (b : Bool) → bytes_eq text own ≡ b → cond b (Some d) (get_member text ms) ≡ None
        → (bytes_eq text own ≡ false) × (get_member text ms ≡ None)
    by true e h = absurd (none-some d (sym h))
    by false e h = (e, h)

flipped : (own text : List ℕ) → bytes_eq own text ≡ false → bytes_eq text own ≡ false
flipped own text h = by (bytes_eq text own) refl
  where
    by : (b : Bool) → bytes_eq text own ≡ b → bytes_eq text own ≡ false
    by false e = e
    by true e =
        let same : text ≡ own = bytes_eq-true text own e in
        let back : bytes_eq own own ≡ true =
        sym (ap (λ (t : List ℕ). bytes_eq t own) same) ∙ e in
        let forth : bytes_eq own own ≡ false =
        sym (ap (λ (t : List ℕ). bytes_eq own t) same) ∙ h in
        absurd (true≢false (sym back ∙ forth))

-- no key is unknown for want of the tables for each port
top_unknown : (ms : Members) → get_member (key_text key.LinkLocal) ms ≡ None
    → get_member (key_text key.LinkLocalFlow) ms ≡ None
    → has_unknown (top_keys Three) ms ≡ has_unknown (top_keys Two) ms
top_unknown no_members streams flows = refl
top_unknown (member text d ms) streams flows =
    let a = other_text (key_text key.LinkLocal) text d ms streams in
    let b = other_text (key_text key.LinkLocalFlow) text d ms flows in
    ap (λ (p : Bool). not (known p (bytes_eq text (key_text key.LinkLocalFlow))) || has_unknown (top_keys Three) ms)
    (flipped (key_text key.LinkLocal) text a.0)
    ∙ ap (λ (q : Bool). not (known false q) || has_unknown (top_keys Three) ms)
    (flipped (key_text key.LinkLocalFlow) text b.0)
    ∙ ap (λ (u : Bool). not (known false false) || u) (top_unknown ms a.1 b.1)
  where
    known : Bool → Bool → Bool
    known p q =
        bytes_eq text (key_text key.Format) || (bytes_eq text (key_text key.Station)
        || (bytes_eq text (key_text key.Bridge) || (bytes_eq text (key_text key.Link)
        || (bytes_eq text (key_text key.Stream) || (p || (bytes_eq text (key_text key.Flow) || (q || false)))))))

formed_same : (tree : Members) → IsTop tree → get_member (key_text key.LinkLocal) tree ≡ None
    → get_member (key_text key.LinkLocalFlow) tree ≡ None
    → formed (top_in Two (with_format 2 tree)) ≡ formed (top_in Three tree)
formed_same tree is streams flows =
    let two : Entry = top_in Two (with_format 2 tree) in
    let three : Entry = top_in Three tree in
    let missing : missing_key two ≡ missing_key three =
    ap (λ (b : Bool). let o : Option Key = cond (not b) (Some key.Format) None in o) is.has_format in
    ap (λ (o : Option Key). none_missing two o
    >>= λ complete. ok_where (not (has_unknown (top_keys Two) (with_format 2 tree))) (Unknown Top 0) complete)
    missing
    ∙ ap (λ (b : Bool). none_missing three (missing_key three)
    >>= λ complete. ok_where (not b) (Unknown Top 0) complete)
    (unknown_same 2 (top_keys Two) tree ∙ sym (top_unknown tree streams flows))

tables_same : (tree : Members) (k : Key) → get_member (key_text k) (with_format 2 tree) ≡ get_member (key_text k) tree
    → tables_at (top_in Two (with_format 2 tree)) k ≡ tables_at (top_in Three tree) k
tables_same tree k same =
    ap (λ (o : Option Data). cond (is_some o) (or_fault (WrongKind Top 0 k) (option_and_then tables_in o)) (Ok [])) same

-- an array that does not stand there has no tables
no_tables : (e : Entry) (k : Key) → get_member (key_text k) e.members ≡ None → tables_at e k ≡ Ok []
no_tables e k none =
    ap (λ (o : Option Data). cond (is_some o) (or_fault (WrongKind e.table e.number k) (option_and_then tables_in o))
    (Ok [])) none

-- The tables of arrays.

abbrev AreSame : {A : Type 0} → (Entry → Result A DocumentFault) → Table → Members → Type 0
AreSame read t ms = (n : ℕ) → read (entry_of Three t n ms) ≡ read (entry_of Two t n ms)

entries_same : {A : Type 0} (read : Entry → Result A DocumentFault) (t : Table) (n : ℕ) (tables : List Members)
    → All (AreSame read t) tables → entries_from read Three t n tables ≡ entries_from read Two t n tables
entries_same read t n [] same = refl
entries_same {A} read t n (ms ∷ tables) same =
    ap (λ (r : Result A DocumentFault). r >>= λ entry. entries_from read Three t (n + 1) tables
    >>= λ more. Ok (entry ∷ more)) (All-head (AreSame read t) ms tables same n)
    ∙ ap (λ (r : Result (List A) DocumentFault). read (entry_of Two t n ms) >>= λ entry. r
    >>= λ more. Ok (entry ∷ more))
    (entries_same read t (n + 1) tables (All-tail (AreSame read t) ms tables same))

array_same : {A : Type 0} (read : Entry → Result A DocumentFault) (t : Table) (most : ℕ) (tables : List Members)
    → All (AreSame read t) tables → entries_in read Three t most tables ≡ entries_in read Two t most tables
array_same {A} read t most tables same =
    ap (λ (r : Result (List A) DocumentFault). cond (nat_lt most (length tables)) (Err (Limit t)) r)
    (entries_same read t 1 tables same)

-- where the tables of an array are the same in both formats, whatever they are
all_same : (P : Members → Type 0) → ((ms : Members) → P ms) → (tables : List Members) → All P tables
all_same P each [] = All-nil P
all_same P each (ms ∷ tables) = All-cons P ms tables (each ms) (all_same P each tables)

-- A stream's table.

-- no key is unknown for want of `paths`
stream_unknown : (ms : Members) → get_member (key_text key.Paths) ms ≡ None
    → has_unknown (keys_of Three Stream) ms ≡ has_unknown (keys_of Two Stream) ms
stream_unknown no_members none = refl
stream_unknown (member text d ms) none =
    let there = other_text (key_text key.Paths) text d ms none in
    ap (λ (b : Bool). not (known b) || has_unknown (keys_of Three Stream) ms)
    (flipped (key_text key.Paths) text there.0)
    ∙ ap (λ (b : Bool). not (known false) || b) (stream_unknown ms there.1)
  where
    known : Bool → Bool
    known paths =
        bytes_eq text (key_text key.Name)
        || (bytes_eq text (key_text key.Path) || (paths || is_known keys_behind_routes text))

stream_formed : (n : ℕ) (ms : Members) → get_member (key_text key.Paths) ms ≡ None
    → formed (entry_of Three Stream n ms) ≡ formed (entry_of Two Stream n ms)
stream_formed n ms none =
    let two : Entry = entry_of Two Stream n ms in
    let three : Entry = entry_of Three Stream n ms in
    let gone : has three key.Paths ≡ false = ap (λ (o : Option Data). is_some o) none in
    let missing : missing_key three ≡ missing_key two =
    ap (λ (b : Bool). cond (not (has two key.Name)) (Some key.Name)
    (cond (not (has two key.From || has two key.To || b) && not (has two key.Path)) (Some key.Path)
    (find (is_missing two) keys_behind_routes))) gone in
    ap (λ (o : Option Key). none_missing two o
    >>= λ complete. ok_where (not (has_unknown (keys_of Three Stream) ms)) (Unknown Stream n) complete) missing
    ∙ ap (λ (b : Bool). none_missing two (missing_key two)
    >>= λ complete. ok_where (not b) (Unknown Stream n) complete) (stream_unknown ms none)

-- what stands with `to` is read as one name
listeners_same : (n : ℕ) (ms : Members) → SaysNothingNew ms
    → listeners_at (entry_of Three Stream n ms) ≡ listeners_at (entry_of Two Stream n ms)
listeners_same n ms new =
    ap (or_fault (WrongKind Stream n key.To)) (by (get_member (key_text key.To) ms) new.to)
  where
    by : (o : Option Data) → ((d : Data) → o ≡ Some d → as_array d ≡ None)
        → option_and_then (one_or_more true) o ≡ option_and_then (one_or_more false) o
    by None no_array = refl
    by (Some d) no_array =
        ap (λ (items : Option Items). option_or (option_map (λ name. name ∷ []) (name_in d))
        (option_and_then (λ names. some_where (nat_le 1 (length names)) names)
        (option_and_then (all_in name_in) items))) (no_array d refl)

routes_same : (n : ℕ) (ms : Members) → SaysNothingNew ms
    → routes_at (entry_of Three Stream n ms) ≡ routes_at (entry_of Two Stream n ms)
routes_same n ms new =
    let two : Entry = entry_of Two Stream n ms in
    let three : Entry = entry_of Three Stream n ms in
    let gone : has_paths three ≡ false = ap (λ (o : Option Data). is_some o) new.paths in
    ap (λ (b : Bool). cond (has two key.Path) (path_at two >>= λ names. Ok (file.path names ∷ []))
    (cond b (paths_at two >>= λ paths. Ok (map file.path paths))
    (name_at two key.From >>= λ from. listeners_at three >>= λ to. Ok (map (file.ends from) to)))) gone
    ∙ ap (λ (r : Result (List (List ℕ)) DocumentFault). cond (has two key.Path)
    (path_at two >>= λ names. Ok (file.path names ∷ []))
    (name_at two key.From >>= λ from. r >>= λ to. Ok (map (file.ends from) to))) (listeners_same n ms new)

-- what is read with two steps that are the same
parts_same : {N F : Type 0} (f g : Result (Unit {0}) F) (name : Result (List ℕ) F)
    (r s : Result (List file.DeclaredRoute) F) (classes : Result (List ℕ) F) (numbers : Result N F)
    (identity : Result (Option (ℕ × ℕ)) F)
    (last : List ℕ → List file.DeclaredRoute → List ℕ → N → Option (ℕ × ℕ) → Result file.DeclaredStream F) → f ≡ g
    → r ≡ s
    → (f >>= λ u. name >>= λ n. r >>= λ routes. classes >>= λ cs. numbers >>= λ m. identity
    >>= λ o. last n routes cs m o)
    ≡ (g >>= λ u. name >>= λ n. s >>= λ routes. classes >>= λ cs. numbers >>= λ m. identity
    >>= λ o. last n routes cs m o)
parts_same {N} {F} f g name r s classes numbers identity last e h =
    ap (λ (x : Result (Unit {0}) F). x >>= λ u. name >>= λ n. r >>= λ routes. classes >>= λ cs. numbers
    >>= λ m. identity >>= λ o. last n routes cs m o) e
    ∙ ap (λ (x : Result (List file.DeclaredRoute) F). g >>= λ u. name >>= λ n. x >>= λ routes. classes
    >>= λ cs. numbers >>= λ m. identity >>= λ o. last n routes cs m o) h

stream_same : (ms : Members) → SaysNothingNew ms → AreSame stream_in Stream ms
stream_same ms new n =
    let two : Entry = entry_of Two Stream n ms in
    let three : Entry = entry_of Three Stream n ms in
    parts_same (formed three) (formed two) (name_at two key.Name) (routes_at three) (routes_at two) (classes_at two)
    (numbers_in two) (identity_at two) (λ name routes classes numbers identity. Ok (record {
      name = name;
      routes = routes;
      classes = classes;
      rate_bps = numbers.rate_bps;
      burst_bits = numbers.burst_bits;
      min_octets = numbers.min_octets;
      max_octets = numbers.max_octets;
      deadline_ns = numbers.deadline_ns;
      identity = identity;
    })) (stream_formed n ms new.paths) (routes_same n ms new)

streams_same : (tables : List Members) → All SaysNothingNew tables → All (AreSame stream_in Stream) tables
streams_same [] new = All-nil (AreSame stream_in Stream)
streams_same (ms ∷ tables) new =
    All-cons (AreSame stream_in Stream) ms tables (stream_same ms (All-head SaysNothingNew ms tables new))
    (streams_same tables (All-tail SaysNothingNew ms tables new))

-- A bridge's table.

-- no key is unknown for want of a clock's
bridge_unknown : (ms : Members) → SaysNoClock ms → has_unknown (bridge_keys Three) ms ≡ has_unknown (bridge_keys Two) ms
bridge_unknown no_members none = refl
bridge_unknown (member text d ms) none =
    let a = other_text (key_text key.ClockPpm) text d ms none.deviation in
    let b = other_text (key_text key.ClockStepPs) text d ms none.step in
    ap (λ (p : Bool). not (known p (bytes_eq text (key_text key.ClockStepPs))) || has_unknown (bridge_keys Three) ms)
    (flipped (key_text key.ClockPpm) text a.0)
    ∙ ap (λ (q : Bool). not (known false q) || has_unknown (bridge_keys Three) ms)
    (flipped (key_text key.ClockStepPs) text b.0)
    ∙ ap (λ (u : Bool). not (known false false) || u)
    (bridge_unknown ms (record { deviation = a.1; step = b.1 }))
  where
    known : Bool → Bool → Bool
    known p q =
        bytes_eq text (key_text key.Name) || (bytes_eq text (key_text key.ProcessingMinNs)
        || (bytes_eq text (key_text key.ProcessingMaxNs) || (bytes_eq text (key_text key.ResidenceNs)
        || (p || (q || false)))))

bridge_formed : (n : ℕ) (ms : Members) → SaysNoClock ms
    → formed (entry_of Three Bridge n ms) ≡ formed (entry_of Two Bridge n ms)
bridge_formed n ms none =
    let two : Entry = entry_of Two Bridge n ms in
    ap (λ (b : Bool). none_missing two (missing_key two)
    >>= λ complete. ok_where (not b) (Unknown Bridge n) complete) (bridge_unknown ms none)

-- a clock's number that does not stand there is 0
no_clock : (n : ℕ) (ms : Members) (k : Key) → get_member (key_text k) ms ≡ None
    → clock_at (entry_of Three Bridge n ms) k ≡ Ok 0
no_clock n ms k none =
    ap (λ (o : Option Data). cond (is_some o) (short_at (entry_of Three Bridge n ms) k) (Ok 0)) none

-- what is read with three steps that are the same
bridge_parts : {F : Type 0} (f g : Result (Unit {0}) F) (name : Result (List ℕ) F) (least most residence : Result ℕ F)
    (ppm step : Result ℕ F) (last : List ℕ → ℕ → ℕ → ℕ → ℕ → ℕ → Result BridgeEntry F) → f ≡ g → ppm ≡ Ok 0
    → step ≡ Ok 0
    → (f >>= λ u. name >>= λ n. least >>= λ a. most >>= λ b. residence >>= λ c. ppm >>= λ p. step
    >>= λ s. last n a b c p s)
    ≡ (g >>= λ u. name >>= λ n. least >>= λ a. most >>= λ b. residence >>= λ c. last n a b c 0 0)
bridge_parts {F} f g name least most residence ppm step last e h k = rw (e, h, k) refl

bridge_same : (ms : Members) → SaysNoClock ms → AreSame bridge_in Bridge ms
bridge_same ms none n =
    let two : Entry = entry_of Two Bridge n ms in
    let three : Entry = entry_of Three Bridge n ms in
    bridge_parts (formed three) (formed two) (name_at two key.Name) (short_at two key.ProcessingMinNs)
    (short_at two key.ProcessingMaxNs) (short_at two key.ResidenceNs) (clock_at three key.ClockPpm)
    (clock_at three key.ClockStepPs) (λ name least most residence ppm step. Ok (record {
      name = name;
      processing_min_ns = least;
      processing_max_ns = most;
      residence_ns = residence;
      clock_ppm = ppm;
      clock_step_ps = step;
    })) (bridge_formed n ms none) (no_clock n ms key.ClockPpm none.deviation)
    (no_clock n ms key.ClockStepPs none.step)

bridges_same : (tables : List Members) → All SaysNoClock tables → All (AreSame bridge_in Bridge) tables
bridges_same tables none = All-weaker SaysNoClock (AreSame bridge_in Bridge) bridge_same tables none

-- The arrays one after another.

abbrev as_three : file.DeclaredDocument → Result file.DeclaredDocument DocumentFault
as_three d = Ok (record d { format = Three })

both_same : {A : Type 0} (r s : Result A DocumentFault) (k l : A → Result file.DeclaredDocument DocumentFault) → r ≡ s
    → ((x : A) → k x ≡ (l x >>= as_three)) → (r >>= k) ≡ ((s >>= l) >>= as_three)
both_same {A} r s k l same onward =
    ap (λ (t : Result A DocumentFault). t >>= k) same ∙ by s
  where
    by : (t : Result A DocumentFault) → (t >>= k) ≡ ((t >>= l) >>= as_three)
    by (Err e) = refl
    by (Ok x) = onward x

-- what is read of arrays, where there are no tables for each port
abbrev arrays_with : Format → List Members → List Members → List Members → List Members → List Members
    → Result file.DeclaredDocument DocumentFault
arrays_with f stations bridges links streams flows = arrays_read (record {
  format = f;
  stations = stations;
  bridges = bridges;
  links = links;
  streams = streams;
  link_locals = [];
  flows = flows;
  link_local_flows = [];
})

arrays_same : (stations bridges links streams flows : List Members) → All SaysNoClock bridges
    → All SaysNothingNew streams
    → arrays_with Three stations bridges links streams flows
    ≡ (arrays_with Two stations bridges links streams flows >>= as_three)
arrays_same stations bridges links streams flows none new =
    both_same (entries_in station_in Three Station 1024 stations) (entries_in station_in Two Station 1024 stations) _ _
    (array_same station_in Station 1024 stations
    (all_same (AreSame station_in Station) (λ ms n. refl) stations))
    (λ a. both_same (entries_in bridge_in Three Bridge (1024 - length a) bridges)
    (entries_in bridge_in Two Bridge (1024 - length a) bridges) _ _
    (array_same bridge_in Bridge (1024 - length a) bridges (bridges_same bridges none))
    (λ b. both_same (entries_in link_in Three Link 2048 links) (entries_in link_in Two Link 2048 links) _ _
    (array_same link_in Link 2048 links (all_same (AreSame link_in Link) (λ ms n. refl) links))
    (λ c. both_same (entries_in stream_in Three Stream 4096 streams)
    (entries_in stream_in Two Stream 4096 streams) _ _
    (array_same stream_in Stream 4096 streams (streams_same streams new))
    (λ d. both_same (entries_within link_local_in Three LinkLocal 4096 (senders_for {B = Members} d [] c) [])
    (entries_within link_local_in Two LinkLocal 4096 (senders_for {B = Members} d [] c) []) _ _ refl
    (λ p. both_same (entries_in flow_in Three Flow 1024 flows) (entries_in flow_in Two Flow 1024 flows) _ _
    (array_same flow_in Flow 1024 flows (all_same (AreSame flow_in Flow) (λ ms n. refl) flows))
    (λ e. both_same (entries_within link_local_flow_in Three LinkLocalFlow 4096 (senders_for {B = Members} e [] c) [])
    (entries_within link_local_flow_in Two LinkLocalFlow 4096 (senders_for {B = Members} e [] c) []) _ _ refl
    (λ q. refl)))))))

-- what is read of the top table and then of its arrays
abbrev Tables : Type 0
Tables = Result (List Members) DocumentFault

abbrev by_parts : Result (Unit {0}) DocumentFault → Result Format DocumentFault → Tables → Tables → Tables → Tables
    → Tables → Tables → Tables → Result file.DeclaredDocument DocumentFault
by_parts well format stations bridges links streams locals flows local_flows =
    (well >>= λ u. format >>= λ f. stations >>= λ a. bridges >>= λ b. links >>= λ c. streams >>= λ d. locals
    >>= λ p. flows >>= λ e. local_flows >>= λ q. Ok (record {
      format = f;
      stations = a;
      bridges = b;
      links = c;
      streams = d;
      link_locals = p;
      flows = e;
      link_local_flows = q;
    }))
    >>= arrays_read

tables_alike : (w x : Result (Unit {0}) DocumentFault) (f g : Result Format DocumentFault)
    (a0 a1 b0 b1 c0 c1 d0 d1 p0 p1 e0 e1 q0 q1 : Tables) → w ≡ x → f ≡ g → a0 ≡ a1 → b0 ≡ b1 → c0 ≡ c1 → d0 ≡ d1
    → p0 ≡ p1 → e0 ≡ e1 → q0 ≡ q1 → by_parts w f a0 b0 c0 d0 p0 e0 q0 ≡ by_parts x g a1 b1 c1 d1 p1 e1 q1
tables_alike w x f g a0 a1 b0 b1 c0 c1 d0 d1 p0 p1 e0 e1 q0 q1 h0 h1 h2 h3 h4 h5 h6 h7 h8 =
    rw (h0, h1, h2, h3, h4, h5, h6, h7, h8) refl

formats_same : (well : Result (Unit {0}) DocumentFault) (stations bridges links streams flows : Tables)
    → ((tables : List Members) → bridges ≡ Ok tables → All SaysNoClock tables)
    → ((tables : List Members) → streams ≡ Ok tables → All SaysNothingNew tables)
    → by_parts well (Ok Three) stations bridges links streams (Ok []) flows (Ok [])
    ≡ (by_parts well (Ok Two) stations bridges links streams (Ok []) flows (Ok []) >>= as_three)
formats_same (Err e) stations bridges links streams flows none new = refl
formats_same (Ok u) (Err e) bridges links streams flows none new = refl
formats_same (Ok u) (Ok a) (Err e) links streams flows none new = refl
formats_same (Ok u) (Ok a) (Ok b) (Err e) streams flows none new = refl
formats_same (Ok u) (Ok a) (Ok b) (Ok c) (Err e) flows none new = refl
formats_same (Ok u) (Ok a) (Ok b) (Ok c) (Ok d) (Err e) none new = refl
formats_same (Ok u) (Ok a) (Ok b) (Ok c) (Ok d) (Ok e) none new = arrays_same a b c d e (none b refl) (new d refl)

-- the tables of an array that are read are those that are told
told_new : (P : Members → Type 0) (tree : Members) (k : Key) → All P (tables_told (top_of tree) k)
    → (tables : List Members) → tables_at (top_in Three tree) k ≡ Ok tables → All P tables
told_new P tree k new tables read = by (get_member (key_text k) tree) new read
  where
    found : (o : Option (List Members)) → All P (unwrap_or o [])
        → or_fault (WrongKind Top 0 k) o ≡ Ok tables → All P tables
    found None all h = cc h
    found (Some xs) all h = let same : xs ≡ tables = cc h in subst (All P) same all

    by : (o : Option Data) → All P (unwrap_or (option_and_then tables_in o) [])
        → (let r : Tables = cond (is_some o) (or_fault (WrongKind Top 0 k) (option_and_then tables_in o))
        (Ok []) in r) ≡ Ok tables → All P tables
    by None all h = let same : [] ≡ tables = cc h in subst (All P) same (All-nil P)
    by (Some d) all h = found (tables_in d) all h

document_same : (tree : Members) → get_member (key_text key.Format) tree ≡ Some (integer (pos 3))
    → All SaysNothingNew (tables_told (top_of tree) key.Stream)
    → All SaysNoClock (tables_told (top_of tree) key.Bridge) → get_member (key_text key.LinkLocal) tree ≡ None
    → get_member (key_text key.LinkLocalFlow) tree ≡ None
    → document_in tree ≡ (document_in (with_format 2 tree) >>= as_three)
document_same tree format new none no_locals no_local_flows =
    let three : Entry = top_in Three tree in
    let two : Entry = top_in Two (with_format 2 tree) in
    let is : IsTop tree = is_top tree format in
    let with_two = get_format 2 (integer (pos 3)) tree format in
    let told : Option Data → Format = λ o. format_of (unwrap_or (option_and_then (whole_in 1 3) o) 1) in
    let well : formed two ≡ formed three = formed_same tree is no_locals no_local_flows in
    let read : Option Data → Result Format DocumentFault =
    λ o. or_fault (WrongKind Top 0 key.Format) (option_and_then (whole_in 1 3) o) >>= λ n. Ok (format_of n) in
    let in_three : format_at three ≡ Ok Three = ap read format in
    let in_two : format_at two ≡ Ok Two = ap read with_two in
    let stations = tables_same tree key.Station (is.others key.Station refl) in
    let bridges = tables_same tree key.Bridge (is.others key.Bridge refl) in
    let links = tables_same tree key.Link (is.others key.Link refl) in
    let streams = tables_same tree key.Stream (is.others key.Stream refl) in
    let flows = tables_same tree key.Flow (is.others key.Flow refl) in
    let locals : tables_at three key.LinkLocal ≡ Ok [] = no_tables three key.LinkLocal no_locals in
    let local_flows : tables_at three key.LinkLocalFlow ≡ Ok [] = no_tables three key.LinkLocalFlow no_local_flows in
    let locals_two : tables_at two key.LinkLocal ≡ Ok [] =
    no_tables two key.LinkLocal (is.others key.LinkLocal refl ∙ no_locals) in
    let local_flows_two : tables_at two key.LinkLocalFlow ≡ Ok [] =
    no_tables two key.LinkLocalFlow (is.others key.LinkLocalFlow refl ∙ no_local_flows) in
    let there : document_in tree ≡ by_parts (formed three) (Ok Three) (tables_at three key.Station)
    (tables_at three key.Bridge) (tables_at three key.Link) (tables_at three key.Stream) (Ok [])
    (tables_at three key.Flow) (Ok []) =
    ap (λ (f : Format). arrays_in (top_in f tree) >>= arrays_read) (ap told format)
    ∙ tables_alike (formed three) (formed three) (format_at three) (Ok Three) (tables_at three key.Station)
    (tables_at three key.Station) (tables_at three key.Bridge) (tables_at three key.Bridge)
    (tables_at three key.Link) (tables_at three key.Link) (tables_at three key.Stream) (tables_at three key.Stream)
    (tables_at three key.LinkLocal) (Ok []) (tables_at three key.Flow) (tables_at three key.Flow)
    (tables_at three key.LinkLocalFlow) (Ok []) refl in_three refl refl refl refl locals refl local_flows in
    let here : document_in (with_format 2 tree) ≡ by_parts (formed three) (Ok Two) (tables_at three key.Station)
    (tables_at three key.Bridge) (tables_at three key.Link) (tables_at three key.Stream) (Ok [])
    (tables_at three key.Flow) (Ok []) =
    ap (λ (f : Format). arrays_in (top_in f (with_format 2 tree)) >>= arrays_read) (ap told with_two)
    ∙ tables_alike (formed two) (formed three) (format_at two) (Ok Two) (tables_at two key.Station)
    (tables_at three key.Station) (tables_at two key.Bridge) (tables_at three key.Bridge) (tables_at two key.Link)
    (tables_at three key.Link) (tables_at two key.Stream) (tables_at three key.Stream) (tables_at two key.LinkLocal)
    (Ok []) (tables_at two key.Flow) (tables_at three key.Flow) (tables_at two key.LinkLocalFlow) (Ok []) well in_two
    stations bridges links streams locals_two flows local_flows_two in
    there
    ∙ formats_same (formed three) (tables_at three key.Station) (tables_at three key.Bridge) (tables_at three key.Link)
    (tables_at three key.Stream) (tables_at three key.Flow)
    (told_new SaysNoClock tree key.Bridge none) (told_new SaysNothingNew tree key.Stream new)
    ∙ sym (ap (λ (r : Result file.DeclaredDocument DocumentFault). r >>= as_three) here)

pub format_three_is_format_two : FormatThreeIsFormatTwo
format_three_is_format_two three two m =
    ap (λ (o : Option Members). or_fault NotToml o >>= document_in) m.in_three
    ∙ document_same m.tree m.format m.nothing_new m.no_clocks m.no_streams_for_ports m.no_flows_for_ports
    ∙ sym (ap (λ (o : Option Members). (or_fault NotToml o >>= document_in) >>= as_three) m.in_two)
