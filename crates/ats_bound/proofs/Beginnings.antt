use Rattle.std.proofs.Common.{◌≡◌, ℕ, ◌+◌, ◌-◌, ◌<◌, Bool, true, false, cond, List, [], ◌∷◌, ◌++◌, length, get_or, map}
use Rattle.std.proofs.Common.{filter, drop, Option, Some, None, Ok, Err, refl, sym, ap, subst, ◌∙◌, arith}
use Rattle.std.proofs.Common.{length-append, append_assoc}
use Rattle.std.specs.Prelude.{nat_lt}
use Rattle.std.specs.Option.{option_or}
use Rattle.std.specs.List.{AllPairs}
use Rattle.std.proofs.lemmas.List.{append-nil, drop_more, get_or_append_left, get_or_at}
use Rattle.std.proofs.lemmas.Option.{slice_get_within, get_or_from_slice_get}
use Rattle.ats_num.specs.declared.time.TheConstants.{PS_PER_SECOND}
use Rattle.ats_topology.specs.Port.{no_port}
use Rattle.ats_network.specs.Network.{DeclaredNetwork, IsNetwork}
use Rattle.ats_certificate.specs.PortSums.{is_used}
use Rattle.ats_certificate.specs.Used.{stream_classes, place, places_from, places_of}
use Rattle.ats_certificate.specs.Certificate.{IsBefore}
use Rattle.ats_certificate.specs.Form.{ComesAfter}
use Rattle.ats_certificate.specs.declared.row.Row.{Row}
use Rattle.ats_bound.specs.Begun.{rows_at, overload_at, IsBegun}
use Rattle.ats_num.specs.Failure.{IsDue}
use Rattle.ats_num.specs.declared.failure.Failure.{Failure}
use Rattle.ats_num.specs.declared.failure.Failure.TheVariants.{Fault, NoMemory}
use Rattle.ats_bound.specs.Least.{least_row, least_certificate}
use Rattle.ats_tally.specs.Reason.{first_some}
use Rattle.ats_bound.specs.Reason.{load_at, overload}
use Rattle.ats_bound.specs.Row.{row_or_load}
use Rattle.ats_tally.specs.declared.reason.Reason.{Reason}
use Rattle.ats_tally.specs.declared.reason.Reason.TheVariants.{Overloaded}
use Rattle.ats_bound.proofs.LeastHolds.{least_rows}

-- what a row, and a load, say of a place
row_by : (b : Bool) (load : ℕ) (least row : Row) → cond b (Err load) (Ok least) ≡ Ok row → (b ≡ false) × (row ≡ least)
row_by true load least row h = absurd (let no : Err load ≡ Ok row = h in cc)
row_by false load least row h = (refl, sym (cc h))

load_by : (b : Bool) (load other : ℕ) (least : Row) → cond b (Err load) (Ok least) ≡ Err other
    → (b ≡ true) × (load ≡ other)
load_by true load other least h = (refl, cc h)
load_by false load other least h = absurd (let no : Ok least ≡ Err other = h in cc)

pub row_ok : (network : DeclaredNetwork) (at : ℕ × ℕ) (row : Row) → row_or_load network at ≡ Ok row
    → row ≡ least_row network at
row_ok network at row h =
    (row_by (nat_lt PS_PER_SECOND (load_at network at)) (load_at network at) (least_row network at) row h).1

pub overload-of_row : (network : DeclaredNetwork) (at : ℕ × ℕ) (row : Row) → row_or_load network at ≡ Ok row
    → overload network at ≡ None
overload-of_row network at row h =
    ap (λ (b : Bool). cond b (Some (Overloaded at.0 at.1 (load_at network at))) None)
    (row_by (nat_lt PS_PER_SECOND (load_at network at)) (load_at network at) (least_row network at) row h).0

pub overload-of_load : (network : DeclaredNetwork) (at : ℕ × ℕ) (load : ℕ) → row_or_load network at ≡ Err load
    → overload network at ≡ Some (Overloaded at.0 at.1 load)
overload-of_load network at load h =
    let by = load_by (nat_lt PS_PER_SECOND (load_at network at)) (load_at network at) load (least_row network at) h in
    ap (λ (b : Bool). cond b (Some (Overloaded at.0 at.1 (load_at network at))) None) by.0
    ∙ ap (λ (n : ℕ). Some (Overloaded at.0 at.1 n)) by.1

-- a place that is used, and one that is not
pub rows_at-used : (network : DeclaredNetwork) (at : ℕ × ℕ) → is_used network at.0 at.1 ≡ true
    → rows_at network at ≡ least_row network at ∷ []
rows_at-used network at used = ap (λ (b : Bool). cond b (least_row network at ∷ []) []) used

pub rows_at-unused : (network : DeclaredNetwork) (at : ℕ × ℕ) → is_used network at.0 at.1 ≡ false
    → rows_at network at ≡ []
rows_at-unused network at unused = ap (λ (b : Bool). cond b (least_row network at ∷ []) []) unused

pub overload_at-used : (network : DeclaredNetwork) (at : ℕ × ℕ) → is_used network at.0 at.1 ≡ true
    → overload_at network at ≡ overload network at
overload_at-used network at used = ap (λ (b : Bool). cond b (overload network at) None) used

pub overload_at-unused : (network : DeclaredNetwork) (at : ℕ × ℕ) → is_used network at.0 at.1 ≡ false
    → overload_at network at ≡ None
overload_at-unused network at unused = ap (λ (b : Bool). cond b (overload network at) None) unused

-- the places to come, of which this is the first where it is used
abbrev pub with_place : DeclaredNetwork → ℕ × ℕ → List (ℕ × ℕ) → List (ℕ × ℕ)
with_place network at left = cond (is_used network at.0 at.1) (at ∷ left) left

pub begun_next : (network : DeclaredNetwork) (at : ℕ × ℕ) (rows new : List Row) (left : List (ℕ × ℕ))
    → IsBegun network rows (with_place network at left)
    → new ≡ rows ++ rows_at network at → overload_at network at ≡ None → IsBegun network new left
begun_next network at rows new left begun more fits = by (is_used network at.0 at.1) begun more fits
  where
    by : (b : Bool) → IsBegun network rows (cond b (at ∷ left) left)
        → new ≡ rows ++ cond b (least_row network at ∷ []) [] → cond b (overload network at) None ≡ None
        → IsBegun network new left
    by true begun more fits = record {
      whole = ap (λ (t : List Row). t ++ map (least_row network) left) more
          ∙ append_assoc rows (least_row network at ∷ []) (map (least_row network) left) ∙ begun.whole;
      loads = sym (ap (λ (o : Option Reason). option_or o (first_some (overload network) left)) fits) ∙ begun.loads;
    }
    by false begun more fits = record {
      whole = ap (λ (t : List Row). t ++ map (least_row network) left) (more ∙ append-nil rows) ∙ begun.whole;
      loads = begun.loads;
    }

pub begun_due : (network : DeclaredNetwork) (at : ℕ × ℕ) (rows : List Row) (left : List (ℕ × ℕ))
    (answered : Failure Reason) → IsBegun network rows (with_place network at left)
    → IsDue answered (overload_at network at) → IsDue answered (first_some (overload network) (places_of network))
begun_due network at rows left NoMemory begun due = tt
begun_due network at rows left (Fault reason) begun due = by (is_used network at.0 at.1) begun due
  where
    by : (b : Bool) → IsBegun network rows (cond b (at ∷ left) left) → cond b (overload network at) None ≡ Some reason
        → first_some (overload network) (places_of network) ≡ Some reason
    by true begun due =
        sym begun.loads ∙ ap (λ (o : Option Reason). option_or o (first_some (overload network) left)) due
    by false begun due = absurd (let no : None ≡ Some reason = due in cc)

pub begun_after : (network : DeclaredNetwork) (at : ℕ × ℕ) (rows : List Row) (left : List (ℕ × ℕ)) → IsNetwork network
    → IsBegun network rows (with_place network at left)
    → is_used network at.0 at.1 ≡ true → ComesAfter rows (least_row network at)
begun_after network at rows left is begun used last last_is =
    let row : Row = least_row network at in
    let behind : List Row = map (least_row network) left in
    let whole : rows ++ row ∷ behind ≡ least_certificate network =
    sym (ap (λ (b : Bool). rows ++ map (least_row network) (cond b (at ∷ left) left)) used) ∙ begun.whole in
    let pairs : AllPairs IsBefore (rows ++ row ∷ behind) =
    subst (AllPairs IsBefore) (sym whole) (least_rows network is).ordered in
    let inside = slice_get_within rows (length rows - 1) last last_is in
    let first : get_or (rows ++ row ∷ behind) (length rows - 1) last ≡ last = get_or_append_left rows (row ∷ behind)
    last (length rows - 1) inside ∙ get_or_from_slice_get rows (length rows - 1) last last last_is in
    let second : get_or (rows ++ row ∷ behind) (length rows) last ≡ row =
    get_or_at rows row behind last (length rows) refl in
    let before : IsBefore (get_or (rows ++ row ∷ behind) (length rows - 1) last)
    (get_or (rows ++ row ∷ behind) (length rows) last) =
    pairs (length rows - 1) (length rows) last (omega arith) (omega (arith, length-append rows (row ∷ behind))) in
    subst (λ (r : Row). IsBefore r row) first
    (subst (λ (r : Row). IsBefore (get_or (rows ++ row ∷ behind) (length rows - 1) last) r) second before)

-- the places of a port and those behind it, from a class on
abbrev pub places_left : DeclaredNetwork → ℕ → ℕ → List (ℕ × ℕ)
places_left network port i =
    map (place port) (filter (λ class. is_used network port class) (drop i stream_classes))
    ++ places_from network (port + 1) (drop (port + 1) network.topology.ports)

pub places_left-first : (network : DeclaredNetwork) (port : ℕ) → port < length network.topology.ports
    → places_from network port (drop port network.topology.ports) ≡ places_left network port 0
places_left-first network port within =
    ap (places_from network port) (drop_more network.topology.ports port no_port within)

pub places_left-more : (network : DeclaredNetwork) (port i class d : ℕ)
    → i < length stream_classes → class ≡ get_or stream_classes i d
    → places_left network port i ≡ with_place network (port, class) (places_left network port (i + 1))
places_left-more network port i class d within is =
    let behind : List (ℕ × ℕ) = places_from network (port + 1) (drop (port + 1) network.topology.ports) in
    let more : drop i stream_classes ≡ class ∷ drop (i + 1) stream_classes =
    drop_more stream_classes i d within ∙ ap (λ (n : ℕ). n ∷ drop (i + 1) stream_classes) (sym is) in
    ap (λ (t : List ℕ). map (place port) (filter (λ c. is_used network port c) t) ++ behind) more
    ∙ by (is_used network port class)
  where
    by : (b : Bool) → map (place port)
        (cond b (class ∷ filter (λ c. is_used network port c) (drop (i + 1) stream_classes))
        (filter (λ c. is_used network port c) (drop (i + 1) stream_classes)))
        ++ places_from network (port + 1) (drop (port + 1) network.topology.ports)
        ≡ cond b ((port, class) ∷ places_left network port (i + 1)) (places_left network port (i + 1))
    by true = refl
    by false = refl

pub places_left-last : (network : DeclaredNetwork) (port : ℕ)
    → places_left network port 7 ≡ places_from network (port + 1) (drop (port + 1) network.topology.ports)
places_left-last network port = refl
