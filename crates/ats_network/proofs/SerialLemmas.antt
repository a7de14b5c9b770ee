use Rattle.std.proofs.Common.{◌≡◌, ◌≢◌, ℕ, zero, suc, ◌+◌, ◌<◌, Bool, true, false, cond, List, [], ◌∷◌, ◌++◌}
use Rattle.std.proofs.Common.{length, map, get_or, Option, Some, None, refl, sym, ap, ◌∙◌, arith}
use Rattle.std.specs.Prelude.{is_some}
use Rattle.std.specs.List.{All, position_from, remove}
use Rattle.std.specs.Option.{option_map}
use Rattle.std.proofs.lemmas.List.{get_or_default}
use Rattle.std.proofs.lemmas.List.Elements.{All-head, All-tail}
use Rattle.std.proofs.lemmas.Option.{none-some, same_Some}
use Rattle.ats_facts.proofs.Lists.{position_from-lt}
use Rattle.ats_facts.proofs.Options.{cond-is_some}
use Rattle.ats_network.specs.Tables.{serial_of}
use Rattle.ats_network.proofs.Appended.{position_from-later}

-- the serial number that is found stands at the place that is found
pub serial_place : {X : Type 0} (t : X → Bool) (xs : List X) (serials : List ℕ) → length serials ≡ length xs
    → serial_of t xs serials ≡ option_map (λ n. get_or serials n 0) (position_from t 0 xs)
serial_place t [] serials many = refl
serial_place t (x ∷ xs) [] many = absurd (omega arith)
serial_place t (x ∷ xs) (serial ∷ serials) many =
    by (t x) (serial_place t xs serials (omega arith) ∙ later (position_from t 0 xs)
    ∙ sym (ap (option_map (λ n. get_or (serial ∷ serials) n 0)) (position_from-later t 1 0 xs)))
  where
    later : (o : Option ℕ) → option_map (λ n. get_or serials n 0) o
        ≡ option_map (λ n. get_or (serial ∷ serials) n 0) (option_map (λ n. 1 + n) o)
    later None = refl
    later (Some n) = ap (λ (k : ℕ). Some (get_or (serial ∷ serials) k 0)) (next n)
      where
        next : (n : ℕ) → suc n ≡ 1 + n
        next n = omega arith

    by : (b : Bool) → serial_of t xs serials
        ≡ option_map (λ n. get_or (serial ∷ serials) n 0) (position_from t 1 xs)
        → cond b (Some serial) (serial_of t xs serials)
        ≡ option_map (λ n. get_or (serial ∷ serials) n 0) (cond b (Some 0) (position_from t 1 xs))
    by true h = refl
    by false h = h

-- where no serial number is found, no element passes
pub unfound : {X : Type 0} (t : X → Bool) (xs : List X) (serials : List ℕ) → length serials ≡ length xs
    → serial_of t xs serials ≡ None → position_from t 0 xs ≡ None
unfound t xs serials many none = by (position_from t 0 xs) (sym (serial_place t xs serials many) ∙ none)
  where
    by : (o : Option ℕ) → option_map (λ n. get_or serials n 0) o ≡ None → o ≡ None
    by None h = refl
    by (Some n) h = absurd (none-some (get_or serials n 0) (sym h))

-- where a serial number is found, an element passes
pub record IsNumbered {X : Type 0} (t : X → Bool) (xs : List X) (serials : List ℕ) (serial : ℕ) : Type 0 where
  pub place : ℕ
  pub is : position_from t 0 xs ≡ Some place
  pub within : place < length xs
  pub stands : get_or serials place 0 ≡ serial

pub numbered : {X : Type 0} (t : X → Bool) (xs : List X) (serials : List ℕ) (serial : ℕ)
    → length serials ≡ length xs → serial_of t xs serials ≡ Some serial → IsNumbered t xs serials serial
numbered t xs serials serial many found =
    by (position_from t 0 xs) refl (sym (serial_place t xs serials many) ∙ found)
  where
    by : (o : Option ℕ) → position_from t 0 xs ≡ o → option_map (λ n. get_or serials n 0) o ≡ Some serial
        → IsNumbered t xs serials serial
    by None e h = absurd (none-some serial h)
    by (Some n) e h = record {
      place = n;
      is = e;
      within = omega (arith, position_from-lt t 0 xs n e);
      stands = same_Some (get_or serials n 0) serial h;
    }

-- an element and a serial number more at the ends
serial_push : {X : Type 0} (t : X → Bool) (xs : List X) (serials : List ℕ) (x : X) (serial : ℕ)
    → length serials ≡ length xs
    → serial_of t (xs ++ x ∷ []) (serials ++ serial ∷ [])
    ≡ cond (is_some (serial_of t xs serials)) (serial_of t xs serials) (cond (t x) (Some serial) None)
serial_push t [] [] x serial many = refl
serial_push t [] (s ∷ serials) x serial many = absurd (omega arith)
serial_push t (y ∷ xs) [] x serial many = absurd (omega arith)
serial_push t (y ∷ xs) (s ∷ serials) x serial many = by (t y) (serial_push t xs serials x serial (omega arith))
  where
    by : (b : Bool) → serial_of t (xs ++ x ∷ []) (serials ++ serial ∷ [])
        ≡ cond (is_some (serial_of t xs serials)) (serial_of t xs serials) (cond (t x) (Some serial) None)
        → cond b (Some s) (serial_of t (xs ++ x ∷ []) (serials ++ serial ∷ []))
        ≡ cond (is_some (cond b (Some s) (serial_of t xs serials))) (cond b (Some s) (serial_of t xs serials))
        (cond (t x) (Some serial) None)
    by true h = refl
    by false h = h

-- a look-up that finds a new element's serial number, and all else as before, is right with the element at the end
pub found_push : {X : Type 0} (t : X → Bool) (xs : List X) (serials : List ℕ) (x : X) (serial : ℕ) (old new : Option ℕ)
    → length serials ≡ length xs → old ≡ serial_of t xs serials → (t x ≡ true → serial_of t xs serials ≡ None)
    → new ≡ cond (t x) (Some serial) old → new ≡ serial_of t (xs ++ x ∷ []) (serials ++ serial ∷ [])
found_push t xs serials x serial old new many was absent is =
    is ∙ by (t x) absent ∙ sym (serial_push t xs serials x serial many)
  where
    by : (b : Bool) → (b ≡ true → serial_of t xs serials ≡ None) → cond b (Some serial) old
        ≡ cond (is_some (serial_of t xs serials)) (serial_of t xs serials) (cond b (Some serial) None)
    by true h = sym (ap (λ (o : Option ℕ). cond (is_some o) o (Some serial)) (h refl))
    by false h = was ∙ sym (cond-is_some (serial_of t xs serials))

-- where no element passes, no serial number is found
serial_of-fails : {X : Type 0} (t : X → Bool) (xs : List X) (serials : List ℕ) → All (λ (x : X). t x ≡ false) xs
    → serial_of t xs serials ≡ None
serial_of-fails t [] serials fails = refl
serial_of-fails t (x ∷ xs) [] fails = refl
serial_of-fails t (x ∷ xs) (serial ∷ serials) fails =
    ap (λ (b : Bool). cond b (Some serial) (serial_of t xs serials)) (All-head (λ y. t y ≡ false) x xs fails)
    ∙ serial_of-fails t xs serials (All-tail (λ y. t y ≡ false) x xs fails)

-- an element that fails can be taken out with its serial number
serial_less : {X : Type 0} (t : X → Bool) (xs : List X) (serials : List ℕ) (n : ℕ) (d : X)
    → length serials ≡ length xs → n < length xs → t (get_or xs n d) ≡ false
    → serial_of t (remove xs n) (remove serials n) ≡ serial_of t xs serials
serial_less t [] serials n d many within fails = absurd (omega arith)
serial_less t (x ∷ xs) [] n d many within fails = absurd (omega arith)
serial_less t (x ∷ xs) (s ∷ serials) zero d many within fails =
    sym (ap (λ (b : Bool). cond b (Some s) (serial_of t xs serials)) fails)
serial_less t (x ∷ xs) (s ∷ serials) (suc n) d many within fails =
    ap (λ (o : Option ℕ). cond (t x) (Some s) o) (serial_less t xs serials n d (omega arith) (omega arith) fails)

-- where all others fail, none is found without the one that passes
serial_gone : {X : Type 0} (t : X → Bool) (xs : List X) (serials : List ℕ) (n : ℕ) (d : X) → n < length xs
    → ((k : ℕ) → k < length xs → k ≢ n → t (get_or xs k d) ≡ false) → serial_of t (remove xs n) serials ≡ None
serial_gone t [] serials n d within others = absurd (omega arith)
serial_gone t (x ∷ xs) serials zero d within others =
    serial_of-fails t xs serials (λ k e below. ap t (get_or_default xs k e d below)
    ∙ others (suc k) (omega arith) (λ h. absurd (omega (arith, h))))
serial_gone t (x ∷ xs) [] (suc n) d within others = refl
serial_gone t (x ∷ xs) (s ∷ serials) (suc n) d within others =
    ap (λ (b : Bool). cond b (Some s) (serial_of t (remove xs n) serials))
    (others zero (omega arith) (λ h. absurd (omega (arith, h))))
    ∙ serial_gone t xs serials n d (omega arith)
    (λ k below other. others (suc k) (omega arith) (λ h. other (omega (arith, h))))

-- a look-up that finds nothing for what is taken out, and all else as before, is right without it
pub found_less : {X : Type 0} (t : X → Bool) (xs : List X) (serials : List ℕ) (n : ℕ) (d : X) (old new : Option ℕ)
    → length serials ≡ length xs → n < length xs → old ≡ serial_of t xs serials
    → (t (get_or xs n d) ≡ true → (k : ℕ) → k < length xs → k ≢ n → t (get_or xs k d) ≡ false)
    → new ≡ cond (t (get_or xs n d)) None old → new ≡ serial_of t (remove xs n) (remove serials n)
found_less t xs serials n d old new many within was others is = is ∙ by (t (get_or xs n d)) refl
  where
    by : (b : Bool) → t (get_or xs n d) ≡ b → cond b None old ≡ serial_of t (remove xs n) (remove serials n)
    by true e = sym (serial_gone t xs (remove serials n) n d within (others e))
    by false e = was ∙ sym (serial_less t xs serials n d many within e)

-- a search by what elements show is one among what they show
pub position_from-map : {X Y : Type 0} (f : X → Y) (t : Y → Bool) (i : ℕ) (xs : List X)
    → position_from t i (map f xs) ≡ position_from (λ x. t (f x)) i xs
position_from-map f t i [] = refl
position_from-map f t i (x ∷ xs) = ap (λ (o : Option ℕ). cond (t (f x)) (Some i) o) (position_from-map f t (i + 1) xs)
