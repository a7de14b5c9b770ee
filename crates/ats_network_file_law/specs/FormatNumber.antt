use Rattle.std.specs.Prelude.{◌≡◌, ℕ, List, pos, Some, Ok, codes}
use Rattle.toml.specs.Data.{Members, get_member, integer}
use Rattle.ats_network_table.specs.declared.format.Format.{Format}
use Rattle.ats_network_table.specs.declared.format.Format.TheVariants.{One, Two, Three}
use Rattle.ats_network_toml.specs.Document.{DeclaredDocument}
use Rattle.ats_network_toml.specs.Reading.{document_of, format_in, tree_of}

-- the number of a format
abbrev pub number_in : Format → ℕ
number_in One = 1
number_in Two = 2
number_in Three = 3

-- a document has the format whose number stands with `format` in the top table of its text
pub record HasItsNumber (text : List ℕ) (document : DeclaredDocument) : Type 0 where
  pub tree : Members
  pub toml : tree_of text ≡ Some tree
  pub number : get_member (codes "format") tree ≡ Some (integer (pos (number_in document.format)))
  pub given : format_in text ≡ Ok document.format

-- so has each document that a text declares
abbrev pub EachHasItsNumber : Type 0
EachHasItsNumber =
    (text : List ℕ) (document : DeclaredDocument) → document_of text ≡ Ok document → HasItsNumber text document
