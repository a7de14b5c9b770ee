-- The places of the rows of the least certificate.
use Rattle.std.proofs.Common.{◌≡◌, ◌≢◌, ◌+◌, ◌<◌, ℕ, true, List, length, get_or, Some, sym, ap}
use Rattle.std.proofs.Common.{subst, ◌∙◌, inl, inr, ◌⊎◌, ⊎_elim, eqb, arith}
use Rattle.std.specs.List.{AllPairs}
use Rattle.std.proofs.lemmas.Bool.{and_parts, cases_eq, eqb-true}
use Rattle.std.proofs.lemmas.List.{get_or-map, get_or_default, length-map}
use Rattle.std.proofs.lemmas.Option.{same_Some}
use Rattle.ats_class_table.specs.Table.{Sets, Table, value_at}
use Rattle.ats_network.specs.Network.{DeclaredNetwork, IsNetwork}
use Rattle.ats_certificate.specs.Certificate.{IsBefore}
use Rattle.ats_certificate.specs.PortSums.{is_used}
use Rattle.ats_certificate.specs.Used.{places_of}
use Rattle.ats_certificate.specs.declared.row.Row.{Row}
use Rattle.ats_tally.proofs.Lists.{any_gives}
use Rattle.ats_tally.proofs.Places.{is_at, places_have}
use Rattle.ats_bound.specs.Least.{least_certificate, least_row}
use Rattle.ats_explain.specs.Table.{ArePlaced}

-- one row more
pub placed_more : (ports : ℕ) (rows : List Row) (below : ℕ) (row e : Row) (old new : Table ℕ) → AllPairs IsBefore rows
    → below < length rows → row ≡ get_or rows below e → ArePlaced ports rows below old
    → Sets row.port row.class below old new → ArePlaced ports rows (below + 1) new
placed_more ports rows below row e old new ordered within is before sets = record {
  count = sets.count ∙ before.count;
  each = λ place d low. ⊎_elim (here place d) (earlier place d low) (cases_eq place below);
}
  where
    at : ℕ → Row → Row
    at place d = get_or rows place d

    here : (place : ℕ) (d : Row) → place ≡ below → value_at new (at place d).port (at place d).class ≡ Some place
    here place d same =
        let item : at place d ≡ row =
        ap (λ (n : ℕ). at n d) same ∙ get_or_default rows below d e within ∙ sym is in
        ap (λ (r : Row). value_at new r.port r.class) item ∙ sets.here ∙ ap Some (sym same)

    apart : (a b : Row) → IsBefore a b → (a.port ≢ b.port) ⊎ (a.class ≢ b.class)
    apart a b (inl h) = inl (λ e. omega (arith, e, h))
    apart a b (inr h) = inr (λ e. omega (arith, e, h))

    earlier : (place : ℕ) (d : Row) → place < below + 1 → (place ≡ below → ⊥)
        → value_at new (at place d).port (at place d).class ≡ Some place
    earlier place d low other =
        let differ : place ≢ below = other in
        let first : place < below = omega (arith, differ) in
        let item : row ≡ at below d = is ∙ get_or_default rows below e d within in
        sets.others (at place d).port (at place d).class
        (subst (λ (r : Row). ((at place d).port ≢ r.port) ⊎ ((at place d).class ≢ r.class)) (sym item)
        (apart (at place d) (at below d) (ordered place below d first within)))
        ∙ before.each place d first

-- where a row is found, by port and class
pub record IsPlacedAt (network : DeclaredNetwork) (port class : ℕ) (place : ℕ) : Type 0 where
  pub within : place < length (least_certificate network)
  pub row : (d : Row) → get_or (least_certificate network) place d ≡ least_row network (port, class)

pub placed_at : (network : DeclaredNetwork) (places : Table ℕ) (port class place : ℕ) → IsNetwork network
    → ArePlaced (length network.topology.ports) (least_certificate network) (length (least_certificate network)) places
    → is_used network port class ≡ true → value_at places port class ≡ Some place
    → IsPlacedAt network port class place
placed_at network places port class place is placed used found =
    any_gives (is_at port class) (IsPlacedAt network port class place) (places_of network)
    (λ k d h e. (
    let all : List (ℕ × ℕ) = places_of network in
    let parts = and_parts (eqb (get_or all k d).0 port) (eqb (get_or all k d).1 class) e in
    let there : get_or all k d ≡ (port, class) =
    ap (λ (n : ℕ). (n, (get_or all k d).1)) (eqb-true (get_or all k d).0 port parts.0)
    ∙ ap (λ (n : ℕ). (port, n)) (eqb-true (get_or all k d).1 class parts.1) in
    let within : k < length (least_certificate network) = omega (arith, h, length-map all (least_row network)) in
    let row : (r : Row) → get_or (least_certificate network) k r ≡ least_row network (port, class) =
    λ r. get_or-map (least_row network) all k d r h ∙ ap (least_row network) there in
    let some : Row = least_row network (port, class) in
    let same : Some k ≡ Some place =
    sym (placed.each k some within)
    ∙ ap (λ (r : Row). value_at places r.port r.class) (row some) ∙ found in
    subst (IsPlacedAt network port class) (same_Some k place same) (record { within = within; row = row })))
    (places_have network port class is used)
