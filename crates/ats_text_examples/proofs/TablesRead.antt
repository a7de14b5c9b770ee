use Rattle.std.proofs.Common.{◌≡◌, ℕ, Bool, true, false, cond, List, Option, None, refl, ap, ◌∙◌}
use Rattle.std.specs.Prelude.{Result, Err}
use Rattle.std.specs.Str.{is_utf8}
use Rattle.toml.specs.Data.{Members}
use Rattle.toml.specs.Parse.{parse_document}
use Rattle.ats_num.specs.Failure.{◌>>=◌, or_fault}
use Rattle.ats_network_table.specs.declared.fault.DocumentFault.{DocumentFault}
use Rattle.ats_network_table.specs.declared.fault.DocumentFault.TheVariants.{NotToml}
use Rattle.ats_network_toml.specs.Document.{DeclaredDocument}
use Rattle.ats_network_toml.specs.Reading.{document_in}
use Rattle.ats_text_examples.specs.Tables.{IsParsed, TablesAreRead}

-- Documents by computation, and the way of a text to its tables.

-- what tables declare, where there are some
read_of : Option Members → Result DeclaredDocument DocumentFault
read_of tree = or_fault NotToml tree >>= document_in

parsed : (bytes : List ℕ) → IsParsed bytes
unfolding read_of
parsed bytes = record {
  tables = λ members utf8 tree. ap read_where utf8 ∙ ap read_of tree;
  no_tables = λ none. either (is_utf8 bytes) none;
  no_text = λ other. ap read_where other;
}
  where
    read_where : Bool → Result DeclaredDocument DocumentFault
    read_where utf8 = or_fault NotToml (cond utf8 (parse_document bytes) None) >>= document_in

    either : (utf8 : Bool) → parse_document bytes ≡ None
        → (or_fault NotToml (cond utf8 (parse_document bytes) None) >>= document_in) ≡ Err NotToml
    either true none = ap (λ (tree : Option Members). or_fault NotToml tree >>= document_in) none
    either false none = refl

pub tables_are_read : TablesAreRead
tables_are_read = record { parsed = parsed; in_two = refl; in_one = refl }
