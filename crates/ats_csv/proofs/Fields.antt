-- The fields of a record by their places.
use Rattle.std.proofs.Common.{Bool, Bor, ◌≡◌, ◌≢◌, ◌∙◌, ◌<◌, ◌+◌, ℕ, zero, suc, List, [], ◌∷◌, get_or, length, map}
use Rattle.std.proofs.Common.{take, refl, sym, arith}
use Rattle.std.proofs.lemmas.List.{get_or-map, length-map, take_more_same}
use Rattle.std.proofs.lemmas.Option.{unwrap_or-slice_get}
use Rattle.std.specs.Bool.{Decides, one_answer}
use Rattle.std.specs.Cmp.Lexicographic.{pointwise}
use Rattle.std.specs.List.{slice_get}
use Rattle.std.specs.Str.{bytes_eq}
use Rattle.std.proofs.lemmas.Slice.Eq.{bytes_eq-Decides, slice_eq-Decides}
use Rattle.csv.specs.Records.{field_at}
use Rattle.ats_csv.specs.Reading.{field_of, same_fields}

-- what csv calls the field at a place is the element there
pub field_at_is : (fields : List (List ℕ)) (place : ℕ) → field_at fields place ≡ slice_get fields place
unfolding field_at
field_at_is [] place = refl
field_at_is (field ∷ fields) zero = refl
field_at_is (field ∷ fields) (suc place) = field_at_is fields place

-- the element of a list of slices at a place that it has
field_of_now : (fields : List (Bor (List ℕ))) (place : ℕ) (d : Bor (List ℕ)) → place < length fields
    → field_of (map (λ f. f.now) fields) place ≡ (get_or fields place d).now
field_of_now fields place d within = unwrap_or-slice_get (map (λ f. f.now) fields) place []
    ∙ get_or-map (λ f. f.now) fields place d [] within

-- one field more is the same
pub same_more : (xs : List (List ℕ)) (fields : List (Bor (List ℕ))) (place : ℕ) (d : Bor (List ℕ))
    → length xs ≡ length fields → place < length fields
    → take place xs ≡ take place (map (λ f. f.now) fields) → field_of xs place ≡ (get_or fields place d).now
    → take (place + 1) xs ≡ take (place + 1) (map (λ f. f.now) fields)
same_more xs fields place d even within so_far here =
    let there = field_of_now fields place d within in
    let long : length (map (λ (f : Bor (List ℕ)). f.now) fields) ≡ length fields = simp length-map in
    take_more_same xs (map (λ f. f.now) fields) place [] (omega arith) (omega arith) so_far
    (sym (unwrap_or-slice_get xs place []) ∙ here ∙ sym there ∙ unwrap_or-slice_get (map (λ f. f.now) fields) place [])

-- a field that differs makes the records differ
pub differs : (xs : List (List ℕ)) (fields : List (Bor (List ℕ))) (place : ℕ) (d : Bor (List ℕ)) → place < length fields
    → field_of xs place ≢ (get_or fields place d).now → xs ≡ map (λ f. f.now) fields → ⊥
differs xs fields place d within other same = other (rw same (field_of_now fields place d within))

-- a test that tells whether two records are equal is that of their fields
pub same_fields_from : (test : Bool) (some others : List (List ℕ)) → Decides test (some ≡ others)
    → test ≡ same_fields some others
unfolding same_fields
same_fields_from test some others decides =
    one_answer test (pointwise bytes_eq some others) decides
    (slice_eq-Decides bytes_eq-Decides some others (pointwise bytes_eq some others) refl)
