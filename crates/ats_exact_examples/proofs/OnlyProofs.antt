use Rattle.std.proofs.Common.{◌≡◌, ℕ, Bool, true, false, List, ◌++◌, take, drop, Some, None, refl, sym, ◌∙◌, ap}
use Rattle.std.proofs.Common.{take-append-drop}
use Rattle.std.specs.Prelude.{Option, codes, nat_lt, if◌then◌else◌}
use Rattle.std.specs.Option.{option_and_then}
use Rattle.std.specs.Str.{bytes_eq}
use Rattle.std.proofs.lemmas.Option.{none-some, same_Some}
use Rattle.ats_facts.proofs.Bytes.{bytes_eq-true}
use Rattle.ats_num.specs.Number.{number_of}
use Rattle.ats_pcap.specs.Identity.{address_of, identity_of}
use Rattle.ats_pcap.specs.Numbers.{number16}
use Rattle.ats_command_input.specs.Order.{mixed_by, mixed_named}
use Rattle.ats_command_input.specs.declared.order.Order.{Order}
use Rattle.ats_command_input.specs.declared.order.Order.TheVariants.{Early, Late, Mixed}
use Rattle.ats_exact_examples.specs.Only.{IdentitiesAreWhole, NothingElseIsRead, OrdersAreWritten, RatesAreTen}
use Rattle.ats_exact_examples.specs.Only.{order_text}
use Rattle.ats_exact_examples.proofs.CommandProofs.{commands_are_twenty}
use Rattle.ats_exact_examples.proofs.NumberProofs.{numbers_are_written}

-- Words and bytes that are read.

rates_are_ten : RatesAreTen
rates_are_ten = record { all = refl; none = refl }

identities_are_whole : IdentitiesAreWhole
unfolding identity_of address_of number16
identities_are_whole = record { short = refl; whole = refl; tagged = refl; high = refl; low = refl }

-- the order of a number, where it is one, has the text of that number
by_number : (text : List ℕ) (order : Order) (n : Option ℕ) → number_of text ≡ n
    → option_and_then mixed_by n ≡ Some order → codes "mixed:" ++ text ≡ order_text order
by_number text order None read found = absurd (none-some order found)
by_number text order (Some n) read found = by (nat_lt 4294967295 n) found
  where
    by : (b : Bool) → (if b then None else Some (Mixed n)) ≡ Some order → codes "mixed:" ++ text ≡ order_text order
    by true none = absurd (none-some order none)
    by false some =
        ap (λ t. codes "mixed:" ++ t) (numbers_are_written text n read)
        ∙ ap order_text (same_Some (Mixed n) order some)

mixed_is_written : (word : List ℕ) (order : Order) → mixed_named word ≡ Some order → word ≡ order_text order
mixed_is_written word order found = by (bytes_eq (take 6 word) (codes "mixed:")) refl found
  where
    by : (b : Bool) → bytes_eq (take 6 word) (codes "mixed:") ≡ b
        → (if b then option_and_then mixed_by (number_of (drop 6 word)) else None) ≡ Some order
        → word ≡ order_text order
    by true begins given =
        sym (take-append-drop 6 word)
        ∙ ap (λ t. t ++ drop 6 word) (bytes_eq-true (take 6 word) (codes "mixed:") begins)
        ∙ by_number (drop 6 word) order (number_of (drop 6 word)) refl given
    by false other given = absurd (none-some order given)

pub orders_are_written : OrdersAreWritten
orders_are_written word order found = by (bytes_eq word (codes "early")) refl found
  where
    late : (b : Bool) → bytes_eq word (codes "late") ≡ b
        → (if b then Some Late else mixed_named word) ≡ Some order → word ≡ order_text order
    late true same given =
        bytes_eq-true word (codes "late") same ∙ ap order_text (same_Some Late order given)
    late false other given = mixed_is_written word order given

    by : (b : Bool) → bytes_eq word (codes "early") ≡ b
        → (if b then Some Early else if bytes_eq word (codes "late") then Some Late else mixed_named word) ≡ Some order
        → word ≡ order_text order
    by true same given =
        bytes_eq-true word (codes "early") same ∙ ap order_text (same_Some Early order given)
    by false other given = late (bytes_eq word (codes "late")) refl given

pub nothing_else_is_read : NothingElseIsRead
nothing_else_is_read = record {
  numbers = numbers_are_written;
  rates = rates_are_ten;
  orders = orders_are_written;
  commands = commands_are_twenty;
  identities = identities_are_whole;
}
