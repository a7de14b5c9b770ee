use Rattle.std.proofs.Common.{ℕ, List, Option}
use Rattle.std.specs.Str.{chars, is_utf8}
use Rattle.fast_float.specs.Text.{scan}
use Rattle.toml.specs.Data.{Members}
use Rattle.toml.specs.Parse.{after_element, atom, expression, header_key, items, key_equals, line, lines, members}
use Rattle.toml.specs.Parse.{parse_document, skip_bom, val}
use Rattle.toml.specs.Tables.{along_dots, along_header, at_key, define}
use Rattle.toml_parser.specs.Lexical.{skip_from, skip_ws}
use Rattle.toml_parser.specs.Numbers.{decimal_number, number, plain_number, prefixed_integer, underscore_fits, unquoted}
use Rattle.toml_parser.specs.Numbers.{word_len, word_value}
use Rattle.toml_parser.specs.Strings.{body, escape, escape_char, hex_escape, key_after, one_line, quoted, simple_key}
use Rattle.toml_parser.specs.Strings.{special}
use Rattle.ats_network_toml.specs.Reading.{tree_of}

-- What has to be computed with where a text of TOML is read: all that this definition names.

unfoldable pub parsed : List ℕ → Option Members
unfolding
    is_utf8 chars parse_document skip_bom lines line expression header_key key_equals val atom items members
    after_element define along_header along_dots at_key skip_ws skip_from quoted one_line body special escape
    escape_char hex_escape simple_key key_after unquoted word_len word_value number underscore_fits plain_number
    prefixed_integer decimal_number scan
parsed text = tree_of text
