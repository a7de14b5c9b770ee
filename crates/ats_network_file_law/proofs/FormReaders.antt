-- The first fault of a table of each array is the one that is given.
use Rattle.std.proofs.Common.{◌≡◌, ℕ, Bool, true, false, cond, List, [], ◌∷◌, Option, Some, None, Result, Ok, refl, sym}
use Rattle.std.proofs.Common.{ap, subst, arith}
use Rattle.std.specs.Option.{option_or}
use Rattle.toml.specs.Data.{Data, Members}
use Rattle.ats_num.specs.Failure.{◌>>=◌, or_fault}
use Rattle.ats_network_table.specs.Kinds.{name_in}
use Rattle.ats_network_table.specs.Walk.{Entry, at, clock_at, formed, has, name_at, short_at, wrong_kind}
use Rattle.ats_network_table.specs.declared.format.Format.{Format}
use Rattle.ats_network_table.specs.declared.format.Format.TheVariants.{One, Two, Three}
use Rattle.ats_network_table.specs.declared.table.Table.{Table}
use Rattle.ats_network_table.specs.declared.table.Table.TheVariants.{Bridge, Link, Station}
use Rattle.ats_network_table.specs.declared.key.Key.{Key}
use Rattle.ats_network_table.specs.declared.key.Key.TheVariants as key
use Rattle.ats_network_table.specs.declared.fault.DocumentFault.{DocumentFault}
use Rattle.ats_network_toml.specs.Entries.{bridge_in, link_in, station_in}
use Rattle.ats_network_toml.specs.declared.entries.StationEntry.{StationEntry}
use Rattle.ats_network_toml.specs.declared.entries.BridgeEntry.{BridgeEntry}
use Rattle.ats_network_toml.specs.declared.entries.LinkEntry.{LinkEntry}
use Rattle.ats_network_file_law.specs.FormFaults.{IsComplete, is_kind, is_right, keys_in, short_in}
use Rattle.ats_network_file_law.proofs.FormFirsts.{form_fault, table_fault, wrongs}
use Rattle.ats_network_file_law.proofs.FormKeys.{Any, IsFormed, absent, formed_told, leaf, not_missing, stands}
use Rattle.ats_network_file_law.proofs.FormKeys.{value_at, wrong}
use Rattle.ats_network_file_law.proofs.Told.{Told, chained, same_faults, weaker}

-- a table of an array
abbrev pub entry_of : Format → Table → ℕ → Members → Entry
entry_of f t n ms = record { format = f; table = t; number = n; members = ms }

-- one key that stands there, and then others
pub next_key : {A B : Type 0} (e : Entry) (k : Key) (ls : List Key) (kind : Data → Option A) (H : B → Type 0)
    (f : A → Result B DocumentFault) → has e k ≡ true → is_right e k ≡ is_kind kind e k
    → ((x : A) → value_at kind e k ≡ Some x → Told H (wrongs e ls) (f x))
    → Told H (wrongs e (k ∷ ls)) (at e k kind >>= f)
next_key {A} e k ls kind H f there right next =
    chained (λ (x : A). value_at kind e k ≡ Some x) H (wrong e k) (wrongs e ls) (at e k kind) f
    (leaf e k kind there right) next

-- a key that was read is read again
again : {A B : Type 0} (e : Entry) (k : Key) (kind : Data → Option A) (H : B → Type 0) (o : Option DocumentFault)
    (f : A → Result B DocumentFault) (x : A) → value_at kind e k ≡ Some x → Told H o (f x)
    → Told H o (at e k kind >>= f)
again {A} e k kind H o f x is t =
    subst (λ (v : Option A). Told H o (or_fault (wrong_kind e k) v >>= f)) (sym is) t

-- one key that does not stand there, and then others
pub skip_key : {B : Type 0} (e : Entry) (k : Key) (ls : List Key) (H : B → Type 0) (r : Result B DocumentFault)
    → has e k ≡ false → Told H (wrongs e ls) r → Told H (wrongs e (k ∷ ls)) r
skip_key e k ls H r none t =
    same_faults H (wrongs e ls) (wrongs e (k ∷ ls)) r
    (sym (ap (λ (o : Option DocumentFault). option_or o (wrongs e ls)) (absent e k none))) t

-- a table that is formed, and then its keys
pub table_told : {A : Type 0} (e : Entry) (read : Unit {0} → Result A DocumentFault)
    → ((u : Unit {0}) → IsComplete e → Told (λ (x : A). Any x) (wrongs e (keys_in e)) (read u))
    → Told (λ (x : A). Any x) (table_fault e) (formed e >>= read)
table_told {A} e read next =
    chained (λ (u : Unit {0}). IsFormed e) (λ (x : A). Any x) (form_fault e) (wrongs e (keys_in e)) (formed e) read
    (formed_told e) (λ u formed. next u formed.complete)

pub station_told : (f : Format) (n : ℕ) (ms : Members)
    → Told (λ (x : StationEntry). Any x) (table_fault (entry_of f Station n ms)) (station_in (entry_of f Station n ms))
station_told f n ms =
    let e : Entry = entry_of f Station n ms in
    let G : StationEntry → Type 0 = λ x. Any x in
    table_told e (λ u. name_at e key.Name >>= λ name. Ok (record { name = name }))
    (λ u c. next_key e key.Name [] name_in G (λ name. Ok (record { name = name }))
    (stands (has e key.Name) (not_missing e 0 c (omega arith))) refl (λ name is. (refl, tt)))

pub link_told : (f : Format) (n : ℕ) (ms : Members)
    → Told (λ (x : LinkEntry). Any x) (table_fault (entry_of f Link n ms)) (link_in (entry_of f Link n ms))
link_told f n ms =
    let e : Entry = entry_of f Link n ms in
    let G : LinkEntry → Type 0 = λ x. Any x in
    let last : List ℕ → List ℕ → ℕ → ℕ → Result LinkEntry DocumentFault =
    λ a b mbps propagation. Ok (record { a = a; b = b; mbps = mbps; propagation_ns = propagation }) in
    table_told e (λ u. name_at e key.A >>= λ a. name_at e key.B >>= λ b. short_at e key.Mbps
    >>= λ mbps. short_at e key.PropagationNs >>= λ propagation. last a b mbps propagation)
    (λ u c. next_key e key.A (key.B ∷ key.Mbps ∷ key.PropagationNs ∷ []) name_in G
    (λ a. name_at e key.B >>= λ b. short_at e key.Mbps
    >>= λ mbps. short_at e key.PropagationNs >>= λ propagation. last a b mbps propagation)
    (stands (has e key.A) (not_missing e 0 c (omega arith))) refl
    (λ a is. next_key e key.B (key.Mbps ∷ key.PropagationNs ∷ []) name_in G
    (λ b. short_at e key.Mbps >>= λ mbps. short_at e key.PropagationNs >>= λ propagation. last a b mbps propagation)
    (stands (has e key.B) (not_missing e 1 c (omega arith))) refl
    (λ b is. next_key e key.Mbps (key.PropagationNs ∷ []) short_in G
    (λ mbps. short_at e key.PropagationNs >>= λ propagation. last a b mbps propagation)
    (stands (has e key.Mbps) (not_missing e 2 c (omega arith))) refl
    (λ mbps is. next_key e key.PropagationNs [] short_in G (λ propagation. last a b mbps propagation)
    (stands (has e key.PropagationNs) (not_missing e 3 c (omega arith))) refl (λ propagation is. (refl, tt))))))

-- a bridge with what is read of it
abbrev made_bridge : List ℕ → ℕ → ℕ → ℕ → ℕ → ℕ → Result BridgeEntry DocumentFault
made_bridge name least most residence ppm step = Ok (record {
  name = name;
  processing_min_ns = least;
  processing_max_ns = most;
  residence_ns = residence;
  clock_ppm = ppm;
  clock_step_ps = step;
})

-- a number of a clock may be absent
clock_told : (n : ℕ) (ms : Members) (k : Key)
    → is_right (entry_of Three Bridge n ms) k ≡ is_kind short_in (entry_of Three Bridge n ms) k
    → Told (λ (x : ℕ). Any x) (wrong (entry_of Three Bridge n ms) k) (clock_at (entry_of Three Bridge n ms) k)
clock_told n ms k right = by (has e k) refl
  where
    e : Entry
    e = entry_of Three Bridge n ms

    read : Bool → Result ℕ DocumentFault
    read b = cond b (short_at e k) (Ok 0)

    by : (b : Bool) → has e k ≡ b → Told (λ (x : ℕ). Any x) (wrong e k) (read (has e k))
    by true h =
        subst (λ (c : Bool). Told (λ (x : ℕ). Any x) (wrong e k) (read c)) (sym h)
        (weaker (λ (x : ℕ). value_at short_in e k ≡ Some x) (λ (x : ℕ). Any x) (wrong e k) (short_at e k)
        (leaf e k short_in h right) (λ x is. tt))
    by false h =
        subst (λ (c : Bool). Told (λ (x : ℕ). Any x) (wrong e k) (read c)) (sym h) (absent e k h, tt)

-- a bridge, whose keys differ between the formats
bridge_one : (n : ℕ) (ms : Members) → Told (λ (x : BridgeEntry). Any x) (table_fault (entry_of One Bridge n ms))
    (bridge_in (entry_of One Bridge n ms))
bridge_one n ms =
    let e : Entry = entry_of One Bridge n ms in
    let G : BridgeEntry → Type 0 = λ x. Any x in
    let last : List ℕ → ℕ → ℕ → ℕ → Result BridgeEntry DocumentFault =
    λ name least most residence. made_bridge name least most residence 0 0 in
    table_told e (λ u. name_at e key.Name >>= λ name. short_at e key.ProcessingNs >>= λ least.
    short_at e key.ProcessingNs >>= λ most. short_at e key.ResidenceNs >>= λ residence. last name least most residence)
    (λ u c. next_key e key.Name (key.ProcessingNs ∷ key.ResidenceNs ∷ []) name_in G
    (λ name. short_at e key.ProcessingNs >>= λ least.
    short_at e key.ProcessingNs >>= λ most. short_at e key.ResidenceNs >>= λ residence. last name least most residence)
    (stands (has e key.Name) (not_missing e 0 c (omega arith))) refl
    (λ name is. next_key e key.ProcessingNs (key.ResidenceNs ∷ []) short_in G
    (λ least. short_at e key.ProcessingNs >>= λ most. short_at e key.ResidenceNs
    >>= λ residence. last name least most residence)
    (stands (has e key.ProcessingNs) (not_missing e 1 c (omega arith))) refl
    (λ least at. again e key.ProcessingNs short_in G (wrongs e (key.ResidenceNs ∷ []))
    (λ most. short_at e key.ResidenceNs >>= λ residence. last name least most residence) least at
    (next_key e key.ResidenceNs [] short_in G (λ residence. last name least least residence)
    (stands (has e key.ResidenceNs) (not_missing e 2 c (omega arith))) refl (λ residence is. (refl, tt))))))

bridge_two : (n : ℕ) (ms : Members) → Told (λ (x : BridgeEntry). Any x) (table_fault (entry_of Two Bridge n ms))
    (bridge_in (entry_of Two Bridge n ms))
bridge_two n ms =
    let e : Entry = entry_of Two Bridge n ms in
    let G : BridgeEntry → Type 0 = λ x. Any x in
    let last : List ℕ → ℕ → ℕ → ℕ → Result BridgeEntry DocumentFault =
    λ name least most residence. made_bridge name least most residence 0 0 in
    table_told e (λ u. name_at e key.Name >>= λ name. short_at e key.ProcessingMinNs >>= λ least.
    short_at e key.ProcessingMaxNs >>= λ most. short_at e key.ResidenceNs
    >>= λ residence. last name least most residence)
    (λ u c. next_key e key.Name (key.ProcessingMinNs ∷ key.ProcessingMaxNs ∷ key.ResidenceNs ∷ []) name_in G
    (λ name. short_at e key.ProcessingMinNs >>= λ least. short_at e key.ProcessingMaxNs >>= λ most.
    short_at e key.ResidenceNs >>= λ residence. last name least most residence)
    (stands (has e key.Name) (not_missing e 0 c (omega arith))) refl
    (λ name is. next_key e key.ProcessingMinNs (key.ProcessingMaxNs ∷ key.ResidenceNs ∷ []) short_in G
    (λ least. short_at e key.ProcessingMaxNs >>= λ most. short_at e key.ResidenceNs
    >>= λ residence. last name least most residence)
    (stands (has e key.ProcessingMinNs) (not_missing e 1 c (omega arith))) refl
    (λ least is. next_key e key.ProcessingMaxNs (key.ResidenceNs ∷ []) short_in G
    (λ most. short_at e key.ResidenceNs >>= λ residence. last name least most residence)
    (stands (has e key.ProcessingMaxNs) (not_missing e 2 c (omega arith))) refl
    (λ most is. next_key e key.ResidenceNs [] short_in G (λ residence. last name least most residence)
    (stands (has e key.ResidenceNs) (not_missing e 3 c (omega arith))) refl (λ residence is. (refl, tt))))))

bridge_three : (n : ℕ) (ms : Members) → Told (λ (x : BridgeEntry). Any x) (table_fault (entry_of Three Bridge n ms))
    (bridge_in (entry_of Three Bridge n ms))
bridge_three n ms =
    let e : Entry = entry_of Three Bridge n ms in
    let G : BridgeEntry → Type 0 = λ x. Any x in
    let clocked : List ℕ → ℕ → ℕ → ℕ → Result BridgeEntry DocumentFault =
    λ name least most residence. clock_at e key.ClockPpm >>= λ ppm. clock_at e key.ClockStepPs
    >>= λ step. made_bridge name least most residence ppm step in
    table_told e (λ u. name_at e key.Name >>= λ name. short_at e key.ProcessingMinNs >>= λ least.
    short_at e key.ProcessingMaxNs >>= λ most. short_at e key.ResidenceNs
    >>= λ residence. clocked name least most residence)
    (λ u c. next_key e key.Name
    (key.ProcessingMinNs ∷ key.ProcessingMaxNs ∷ key.ResidenceNs ∷ key.ClockPpm ∷ key.ClockStepPs ∷ []) name_in G
    (λ name. short_at e key.ProcessingMinNs >>= λ least. short_at e key.ProcessingMaxNs >>= λ most.
    short_at e key.ResidenceNs >>= λ residence. clocked name least most residence)
    (stands (has e key.Name) (not_missing e 0 c (omega arith))) refl
    (λ name is. next_key e key.ProcessingMinNs
    (key.ProcessingMaxNs ∷ key.ResidenceNs ∷ key.ClockPpm ∷ key.ClockStepPs ∷ []) short_in G
    (λ least. short_at e key.ProcessingMaxNs >>= λ most. short_at e key.ResidenceNs
    >>= λ residence. clocked name least most residence)
    (stands (has e key.ProcessingMinNs) (not_missing e 1 c (omega arith))) refl
    (λ least is. next_key e key.ProcessingMaxNs (key.ResidenceNs ∷ key.ClockPpm ∷ key.ClockStepPs ∷ []) short_in G
    (λ most. short_at e key.ResidenceNs >>= λ residence. clocked name least most residence)
    (stands (has e key.ProcessingMaxNs) (not_missing e 2 c (omega arith))) refl
    (λ most is. next_key e key.ResidenceNs (key.ClockPpm ∷ key.ClockStepPs ∷ []) short_in G
    (λ residence. clocked name least most residence)
    (stands (has e key.ResidenceNs) (not_missing e 3 c (omega arith))) refl
    (λ residence is. chained (λ (x : ℕ). Any x) G (wrong e key.ClockPpm) (wrongs e (key.ClockStepPs ∷ []))
    (clock_at e key.ClockPpm)
    (λ ppm. clock_at e key.ClockStepPs >>= λ step. made_bridge name least most residence ppm step)
    (clock_told n ms key.ClockPpm refl)
    (λ ppm any. chained (λ (x : ℕ). Any x) G (wrong e key.ClockStepPs) None (clock_at e key.ClockStepPs)
    (λ step. made_bridge name least most residence ppm step) (clock_told n ms key.ClockStepPs refl)
    (λ step any. (refl, tt))))))))

pub bridge_told : (f : Format) (n : ℕ) (ms : Members)
    → Told (λ (x : BridgeEntry). Any x) (table_fault (entry_of f Bridge n ms)) (bridge_in (entry_of f Bridge n ms))
bridge_told One n ms = bridge_one n ms
bridge_told Two n ms = bridge_two n ms
bridge_told Three n ms = bridge_three n ms
