use Rattle.std.proofs.Common.{◌≡◌, ℕ, List, None, inl, inr}
use Rattle.std.proofs.lemmas.Bool.{cases_Bool}
use Rattle.std.proofs.lemmas.Str.{IsUtf8-from_is_utf8, is_utf8-from_IsUtf8}
use Rattle.std.specs.Str.{IsUtf8, is_utf8}
use Rattle.toml.specs.Parse.{parse_document}
use Rattle.ats_network_toml.specs.Reading.{tree_of}

-- bytes that are no UTF-8 are no document
pub no_utf8_no_tree : (text : List ℕ) → ¬ (IsUtf8 text) → tree_of text ≡ None
no_utf8_no_tree text not_utf8 = elim (cases_Bool (is_utf8 text)) [
  | inl is ↦
      absurd (not_utf8 (IsUtf8-from_is_utf8 text is))
  | inr is_not ↦ rw is_not
]

-- UTF-8 is read as TOML
pub utf8_tree : (text : List ℕ) → IsUtf8 text → tree_of text ≡ parse_document text
utf8_tree text utf8 = rw (is_utf8-from_IsUtf8 text utf8)
