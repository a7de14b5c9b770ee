-- What stands where a name is found.
use Rattle.std.proofs.Common.{◌≡◌, ℕ, ◌<◌, Bool, List, length, slice_index_or, Some, position, String, Vec, option_map}
use Rattle.std.proofs.Common.{refl, sym, ◌∙◌, ap, arith}
use Rattle.std.specs.List.{position_or_len, find, slice_get}
use Rattle.std.specs.declared.alloc.Global.{Global}
use Rattle.std.proofs.lemmas.Grind.{common_steps}
use Rattle.std.proofs.lemmas.List.Folds.{find_at}
use Rattle.std.proofs.lemmas.Option.{slice_get_read, same_Some}
use Rattle.ats_io.specs.Memory.{pairs_of, has_name, bytes_of}
use Rattle.ats_io.proofs.Pairs.{bytes_of_pairs}

place_is : {X : Type 0} (p : X → Bool) (xs : List X) (i : ℕ) → position p xs ≡ Some i
    → (position_or_len p xs ≡ i) × (i < length xs)
place_is p xs i h = grind (arith, common_steps)

-- the bytes that are told are the ones that stand where the name is found
pub told_is : (files : List (String Global × Vec ℕ Global)) (name bytes found : List ℕ) (i : ℕ)
    (file : String Global × Vec ℕ Global) → position (has_name name) files ≡ Some i → file ≡ slice_index_or files i file
    → found ≡ file.1.items
    → bytes_of (pairs_of files) name ≡ Some bytes → found ≡ bytes
told_is files name bytes found i file place read content told =
    let both = place_is (has_name name) files i place in
    let first : find (has_name name) files ≡ Some file = find_at (has_name name) files
    ∙ ap (λ k. slice_get files k) both.0 ∙ slice_get_read files (length files) i file refl both.1 read in
    let held : bytes_of (pairs_of files) name ≡ Some file.1.items =
    bytes_of_pairs files name ∙ ap (λ o. option_map (λ f. f.1.items) o) first in
    content ∙ same_Some file.1.items bytes (sym held ∙ told)
