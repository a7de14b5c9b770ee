use Rattle.std.specs.Prelude.{◌≡◌, ◌≢◌, ℕ, Bool, true, false, ◌&&◌, IsTrue, List, [], ◌∷◌, ◌++◌, map, replicate, codes}
use Rattle.std.specs.Prelude.{decimal, Some, None}
use Rattle.std.specs.List.{list_any}
use Rattle.std.specs.Str.{bytes_eq}
use Rattle.ats_num.specs.Number.{number_of}
use Rattle.ats_topology.specs.Rates.{link_rates, ps_per_bit_of}
use Rattle.ats_pcap.specs.Identity.{identity_of}
use Rattle.ats_command_input.specs.Command.{Unknown, command_of}
use Rattle.ats_command_input.specs.Order.{order_named}
use Rattle.ats_command_input.specs.declared.order.Order.{Order}
use Rattle.ats_command_input.specs.declared.order.Order.TheVariants.{Early, Late, Mixed}

-- What is read is nothing but what the formats say.

-- a text is a number only as the number is written: the other half of `ReadsBack`. Refuses `007`
abbrev pub NumbersAreWritten : Type 0
NumbersAreWritten = (text : List ℕ) (n : ℕ) → number_of text ≡ Some n → text ≡ decimal n

-- the ten rates in Mb/s, and some near them. Refuses a link of 200 Mb/s or of 20 Gb/s
pub record RatesAreTen : Type 0 where
  pub all : map (λ (row : ℕ × ℕ). row.0) link_rates
      ≡ 10 ∷ 100 ∷ 1000 ∷ 2500 ∷ 5000 ∷ 10000 ∷ 25000 ∷ 40000 ∷ 50000 ∷ 100000 ∷ []
  pub none : map ps_per_bit_of (1 ∷ 200 ∷ 2000 ∷ 20000 ∷ 200000 ∷ [])
      ≡ None ∷ None ∷ None ∷ None ∷ None ∷ []

-- the word of an order
abbrev pub order_text : Order → List ℕ
order_text Early = codes "early"
order_text Late = codes "late"
order_text (Mixed n) = codes "mixed:" ++ decimal n

-- no other word names an order. Refuses `latest`
abbrev pub OrdersAreWritten : Type 0
OrdersAreWritten = (word : List ℕ) (order : Order) → order_named word ≡ Some order → word ≡ order_text order

-- the words that commands begin with, where there are as many words as these
abbrev pub openings : List (List ℕ) → List (List (List ℕ))
openings (a ∷ b ∷ []) =
    (codes "shape" ∷ []) ∷ (codes "show" ∷ []) ∷ (codes "bound" ∷ []) ∷ (codes "explain" ∷ [])
    ∷ (codes "settings" ∷ []) ∷ []
openings (a ∷ b ∷ c ∷ []) =
    (codes "check" ∷ []) ∷ (codes "buffers" ∷ []) ∷ (codes "conform" ∷ []) ∷ (codes "admit" ∷ [])
    ∷ (codes "witness" ∷ []) ∷ (codes "fit" ∷ []) ∷ (codes "lrq" ∷ codes "shape" ∷ [])
    ∷ (codes "lrq" ∷ codes "bound" ∷ []) ∷ []
openings (a ∷ b ∷ c ∷ d ∷ []) =
    (codes "replay" ∷ []) ∷ (codes "generate" ∷ []) ∷ (codes "releases" ∷ [])
    ∷ (codes "lrq" ∷ codes "check" ∷ []) ∷ []
openings (a ∷ b ∷ c ∷ d ∷ e ∷ []) =
    (codes "capture" ∷ []) ∷ (codes "buffers" ∷ []) ∷ (codes "record" ∷ []) ∷ []
openings words = []

-- the words begin with these
abbrev pub begins : List (List ℕ) → List (List ℕ) → Bool
begins words [] = true
begins [] (first ∷ others) = false
begins (word ∷ words) (first ∷ others) = bytes_eq word first && begins words others

-- words that begin otherwise are no command. Refuses `list` for `show`
abbrev pub CommandsAreTwenty : Type 0
CommandsAreTwenty = (words : List (List ℕ)) → command_of words ≢ Unknown
    → IsTrue (list_any (begins words) (openings words))

-- twelve bytes, a VLAN tag, and a byte of the identifier; and the second byte of it
abbrev pub of_15 : List ℕ
of_15 = replicate 12 1 ++ 0x81 ∷ 0 ∷ 0 ∷ []

abbrev pub of_16 : List ℕ
of_16 = of_15 ++ 5 ∷ []

-- the same with these two bytes in place of the tag's
abbrev pub of_type : ℕ → ℕ → List ℕ
of_type high low = replicate 12 1 ++ high ∷ low ∷ 0 ∷ 5 ∷ []

-- no frame shows a tag of which the last byte is not there, or either of the first two is another one. Refuses an
-- identity by 15 bytes, and one by 81 37
pub record IdentitiesAreWhole : Type 0 where
  pub short : identity_of of_15 ≡ None
  pub whole : identity_of of_16 ≡ Some (0x010101010101, 5)
  pub tagged : identity_of (of_type 0x81 0) ≡ Some (0x010101010101, 5)
  pub high : map (λ high. identity_of (of_type high 0)) (0 ∷ 1 ∷ 0x80 ∷ 0x82 ∷ 0x88 ∷ 0xC1 ∷ []) ≡ replicate 6 None
  pub low : map (λ low. identity_of (of_type 0x81 low)) (1 ∷ 0x37 ∷ 0x80 ∷ 0x81 ∷ 0xA8 ∷ 0xFF ∷ []) ≡ replicate 6 None

pub record NothingElseIsRead : Type 0 where
  pub numbers : NumbersAreWritten
  pub rates : RatesAreTen
  pub orders : OrdersAreWritten
  pub commands : CommandsAreTwenty
  pub identities : IdentitiesAreWhole
