-- How the plain text of records is put together.
use Rattle.std.proofs.Common.{◌≡◌, ◌<◌, ◌+◌, ℕ, List, [], ◌∷◌, ◌++◌, get_or, length, map, take, refl, ap, append_assoc}
use Rattle.std.proofs.Common.{append-nil, drop, subst}
use Rattle.std.proofs.Math.Seq.{take-append_seam}
use Rattle.std.specs.List.{join_with_byte}
use Rattle.std.proofs.lemmas.Grind.{flat_map-append}
use Rattle.std.proofs.lemmas.List.{map_more, take-append-drop}
use Rattle.ats_csv.specs.Plain.{bytes_of, further}
use Rattle.ats_csv.specs.declared.writing.Field.{Field}

-- joined fields are the first one and those after it
pub join_is : (field : List ℕ) (fields : List (List ℕ)) → join_with_byte 44 (field ∷ fields) ≡ field ++ further fields
join_is field [] = simp append-nil
join_is field (next ∷ fields) = ap (λ text. field ++ (44 ∷ text)) (join_is next fields)

-- the same of fields to be written, behind a text
pub joined : (text : List ℕ) (fields : List Field) (first : Field) (rest : List Field) → fields ≡ first ∷ rest
    → text ++ join_with_byte 44 (map bytes_of fields) ≡ (text ++ bytes_of first) ++ further (map bytes_of rest)
joined text fields first rest e =
    rw (
      e,
      join_is (bytes_of first) (map bytes_of rest),
      append_assoc text (bytes_of first) (further (map bytes_of rest)),
    ) refl

-- one field more
pub further_more : (fields : List Field) (place : ℕ) (d : Field) → place < length fields
    → further (map bytes_of (take (place + 1) fields))
    ≡ further (map bytes_of (take place fields)) ++ (44 ∷ bytes_of (get_or fields place d))
further_more fields place d within =
    rw (map_more bytes_of fields place d within, flat_map-append (λ (field : List ℕ). 44 ∷ field))
    (ap (λ text. further (map bytes_of (take place fields)) ++ text) (simp append-nil))

-- what a text begins with is in front of all that the text is in front of
pub front_of : {A : Type 0} (xs ys all : List A) → take (length (xs ++ ys)) all ≡ xs ++ ys → take (length xs) all ≡ xs
front_of xs ys all kept =
    let rest = drop (length (xs ++ ys)) all in
    let whole : (xs ++ ys) ++ rest ≡ all
    = subst (λ text. text ++ rest ≡ all) kept (take-append-drop (length (xs ++ ys)) all) in
    let front : take (length xs) ((xs ++ ys) ++ rest) ≡ xs
    = rw (append_assoc xs ys rest) (take-append_seam xs (ys ++ rest)) in
    subst (λ text. take (length xs) text ≡ xs) whole front
