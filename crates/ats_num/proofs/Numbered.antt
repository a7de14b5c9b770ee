use Rattle.std.proofs.Common.{◌≡◌, ℕ, ◌+◌, ◌<◌, ◌^◌, Bool, true, false, cond, List, [], ◌∷◌, ◌++◌, length, Option, Some}
use Rattle.std.proofs.Common.{None, refl, sym, ◌∙◌, ap, arith, length-append}
use Rattle.std.specs.Prelude.{is_some, IfSome}
use Rattle.std.specs.Str.{bytes_eq}
use Rattle.std.specs.Ordering.{nat_cmp}
use Rattle.std.specs.Cmp.Lexicographic.{slice_cmp}
use Rattle.std.specs.BTreeMap.{BTreeMap, get, is_at, Updates}
use Rattle.std.proofs.lemmas.Map.Text.{is_eq-slice_cmp}
use Rattle.std.specs.Cmp.Lexicographic.{nat_list_eq_equiv}
use Rattle.ats_facts.proofs.Lists.{position_from-lt, position_from-push}
use Rattle.ats_facts.proofs.Options.{cond-is_some}
use Rattle.ats_facts.proofs.Bytes.{bytes_eq-true}
use Rattle.ats_num.specs.Places.{place_of, AreNumbered}

bytes_eq_symm : (xs ys : List ℕ) → bytes_eq xs ys ≡ bytes_eq ys xs
bytes_eq_symm xs ys = nat_list_eq_equiv.symm xs ys

-- after a new name is put at the end, the map that has its place finds each name at its place
pub numbered_push : (names : List (List ℕ)) (name : List ℕ) (old new : BTreeMap (List ℕ) ℕ)
    → AreNumbered names old → place_of name names ≡ None → length names < 2 ^ 32
    → Updates (slice_cmp nat_cmp) old new name (Some (length names)) → AreNumbered (names ++ name ∷ []) new
numbered_push names name old new numbered absent few updates = record {
  found = λ q. by q (bytes_eq q name) refl;
  few = omega (arith, length-append names (name ∷ []));
}
  where
    at_name : (q : List ℕ) → is_at (slice_cmp nat_cmp name) q ≡ bytes_eq q name
    at_name q = is_eq-slice_cmp name q ∙ bytes_eq_symm name q

    by : (q : List ℕ) (b : Bool) → bytes_eq q name ≡ b → get (slice_cmp nat_cmp) new q ≡ place_of q (names ++ name ∷ [])
    by q true e =
        let same : q ≡ name = bytes_eq-true q name e in
        updates.0 q ∙ ap (λ b. cond b (Some (length names)) (get (slice_cmp nat_cmp) old q)) (at_name q ∙ e)
        ∙ sym (position_from-push (bytes_eq q) 0 names name ∙ ap (λ o. cond (is_some o) o
        (cond (bytes_eq q name) (Some (0 + length names)) None)) (ap (λ p. place_of p names) same ∙ absent)
        ∙ ap (λ b. cond b (Some (0 + length names)) None) e ∙ ap Some (omega arith))
    by q false e =
        updates.0 q ∙ ap (λ b. cond b (Some (length names)) (get (slice_cmp nat_cmp) old q)) (at_name q ∙ e)
        ∙ numbered.found q
        ∙ sym (position_from-push (bytes_eq q) 0 names name ∙ ap (λ b. cond (is_some (place_of q names))
        (place_of q names) (cond b (Some (0 + length names)) None)) e ∙ cond-is_some (place_of q names))

-- a place that is found is one of the list
pub place_of-lt : (name : List ℕ) (names : List (List ℕ)) (place : ℕ) → place_of name names ≡ Some place
    → place < length names
place_of-lt name names place found = omega (arith, position_from-lt (bytes_eq name) 0 names place found)

pub found_within : (name : List ℕ) (names : List (List ℕ)) (found : Option ℕ) → found ≡ place_of name names
    → IfSome found (λ place. place < length names)
found_within name names None h = tt
found_within name names (Some place) h = place_of-lt name names place (sym h)
