use Rattle.std.specs.Prelude.{ℕ, nat_lt, List, take, drop, codes, Option, Some, None, if◌then◌else◌}
use Rattle.std.specs.Option.{option_and_then}
use Rattle.std.specs.Str.{bytes_eq}
use Rattle.ats_num.specs.Number.{number_of}
use Rattle.ats_num.specs.Pace.{drawn_wait}
use Rattle.ats_num.specs.Tie.{late_key, mixed_key}
use Rattle.ats_network.specs.Network.{DeclaredNetwork}
use Rattle.ats_trace.specs.Journey.{Travel}
use Rattle.ats_trace.specs.Run.{IsRunBy, HasReleases}
use Rattle.ats_trace.specs.declared.journey.Release.{Release}
use Rattle.ats_command_input.specs.declared.order.Order.{Order}
use Rattle.ats_command_input.specs.declared.order.Order.TheVariants.{Early, Late, Mixed}

-- the mixed order of a number, which is below 2 ^ 32
abbrev pub mixed_by : ℕ → Option Order
mixed_by n = if nat_lt 4294967295 n then None else Some (Mixed n)

-- the order that a word `mixed:N` names, if it is such a word
abbrev pub mixed_named : List ℕ → Option Order
mixed_named word =
    if bytes_eq (take 6 word) (codes "mixed:") then option_and_then mixed_by (number_of (drop 6 word)) else None

-- the order that a word names, if it names one
abbrev pub order_named : List ℕ → Option Order
order_named word =
    if bytes_eq word (codes "early") then Some Early
    else if bytes_eq word (codes "late") then Some Late
    else mixed_named word

-- the key by which an order breaks ties: of a sender and a frame, the least of which goes first
abbrev pub key_of : Order → ℕ → ℕ → ℕ
key_of Early = λ sender frame. frame
key_of Late = late_key
key_of (Mixed n) = mixed_key n

-- how long a frame takes more than it must to arrive behind a port with a spread
abbrev pub wait_of : Order → ℕ → ℕ → ℕ
wait_of Early = λ frame spread. 0
wait_of Late = λ frame spread. spread
wait_of (Mixed n) = drawn_wait n

-- a run by this key and this wait, with exactly these releases
pub record IsRunWith (key wait : ℕ → ℕ → ℕ) (network : DeclaredNetwork) (releases : List Release) (run : List Travel)
    : Type 0 where
  pub by_order : IsRunBy key wait network run
  pub exactly : HasReleases releases run

-- such a run by the key and the wait of an order
abbrev pub IsRunIn : Order → DeclaredNetwork → List Release → List Travel → Type 0
IsRunIn order = IsRunWith (key_of order) (wait_of order)
