-- Look-ups in files, and in what contracts see of them.
use Rattle.std.proofs.Common.{◌≡◌, ℕ, ◌+◌, ◌∷◌, Bool, true, false, not, cond, length, nat_lt, List, [], Option, Some}
use Rattle.std.proofs.Common.{None, position, String, Vec, string_bytes, option_map, refl, ap, ◌∙◌}
use Rattle.std.proofs.lemmas.List.{length-map}
use Rattle.std.specs.List.{find, position_or_len}
use Rattle.std.specs.declared.alloc.Global.{Global}
use Rattle.ats_io.specs.Memory.{pairs_of, has_name, is_named, bytes_of}

first_step : (here : Bool) (file : String Global × Vec ℕ Global) (pair : Option (List ℕ × List ℕ))
    (found : Option (String Global × Vec ℕ Global)) → option_map (λ f. f.1) pair ≡ option_map (λ f. f.1.items) found
    → option_map (λ f. f.1) (cond here (Some (string_bytes file.0, file.1.items)) pair)
    ≡ option_map (λ f. f.1.items) (cond here (Some file) found)
first_step true file pair found h = refl
first_step false file pair found h = h

-- the bytes that are told are those of the first file of the name
pub bytes_of_pairs : (files : List (String Global × Vec ℕ Global)) (name : List ℕ)
    → bytes_of (pairs_of files) name ≡ option_map (λ file. file.1.items) (find (has_name name) files)
bytes_of_pairs [] name = refl
bytes_of_pairs (file ∷ files) name = first_step (has_name name file) file (find (is_named name) (pairs_of files))
    (find (has_name name) files) (bytes_of_pairs files name)

same_place : (files : List (String Global × Vec ℕ Global)) (name : List ℕ)
    → position_or_len (is_named name) (pairs_of files) ≡ position_or_len (has_name name) files
same_place [] name = refl
same_place (file ∷ files) name = ap (λ n. cond (not (has_name name file)) (1 + n) 0) (same_place files name)

-- a name stands at the same place in both
pub place_of_pairs : (files : List (String Global × Vec ℕ Global)) (name : List ℕ)
    → position (is_named name) (pairs_of files) ≡ position (has_name name) files
place_of_pairs files name =
    ap (λ n. cond (nat_lt n (length (pairs_of files))) (Some n) None) (same_place files name)
    ∙ ap (λ n. cond (nat_lt (position_or_len (has_name name) files) n) (Some (position_or_len (has_name name) files))
    None) (length-map files (λ file. (string_bytes file.0, file.1.items)))
