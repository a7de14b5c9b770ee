-- A map whose keys are vectors of bytes, seen by their bytes.
use Rattle.std.proofs.Common.{◌≡◌, ℕ, Bool, true, false, cond, List, sym, subst, ◌∙◌, ⊎_elim}
use Rattle.std.specs.Global.{Vec}
use Rattle.std.specs.Str.{bytes_eq}
use Rattle.std.specs.Ordering.{nat_cmp, is_eq}
use Rattle.std.specs.Cmp.{eq_by_cmp_equiv}
use Rattle.std.specs.Cmp.Lexicographic.{nat_list_cmp_total, nat_list_eq_equiv, slice_cmp}
use Rattle.std.specs.BTreeMap.{BTreeMap, UpdatesBy}
use Rattle.std.specs.Map.{AreApart, IsKeyTest, KeepsOthers, lookup}
use Rattle.std.proofs.lemmas.Bool.{cases_Bool, cond-true, cond-false}
use Rattle.std.proofs.lemmas.Map.Text.{is_eq-slice_cmp}
use Rattle.std.proofs.lemmas.Slice.Eq.{bytes_eq-Decides}
use Rattle.ats_port_names.specs.Inside.{number_in}
use Rattle.std.specs.Prelude.{Option}

apart : (bs cs ks : List ℕ) → bytes_eq bs cs ≡ false → is_eq (slice_cmp nat_cmp bs ks) ≡ true
    → is_eq (slice_cmp nat_cmp cs ks) ≡ false
apart bs cs ks n y =
    is_eq-slice_cmp cs ks
    ∙ nat_list_eq_equiv.symm cs ks ∙ sym (nat_list_eq_equiv.congr bs ks cs (sym (is_eq-slice_cmp bs ks) ∙ y)) ∙ n

module _ {K : Type 0} (eq : K → K → Bool) (test : K → Bool) where
  other_entries : {X : Type 0} (old new : List (K × X)) → KeepsOthers eq test old new → (other : K → Bool)
      → IsKeyTest eq other → AreApart test other → lookup other new ≡ lookup other old
  unfolding KeepsOthers
  other_entries old new h = h

-- after a number is put at a key, the map has it at the key's bytes, and at others what it had
pub number_after : (key : Vec ℕ) (old new : BTreeMap (Vec ℕ) ℕ) (number : Option ℕ)
    → UpdatesBy (λ x y. slice_cmp nat_cmp x.items y.items) (λ k. slice_cmp nat_cmp key.items k.items) old new number
    → (text : List ℕ) → number_in new text ≡ cond (bytes_eq key.items text) number (number_in old text)
number_after key old new number updates text =
    ⊎_elim
    (λ y. subst (λ (t : List ℕ). number_in new t ≡ number) ((bytes_eq-Decides key.items text).0 y) updates.1
    ∙ sym (cond-true (bytes_eq key.items text) number (number_in old text) y))
    (λ n. other_entries _ _ _ _ updates.3 _ (λ x y. (eq_by_cmp_equiv nat_list_cmp_total).congr text x.items y.items)
    (λ k. apart key.items text k.items n)
    ∙ sym (cond-false (bytes_eq key.items text) number (number_in old text) n))
    (cases_Bool (bytes_eq key.items text))
