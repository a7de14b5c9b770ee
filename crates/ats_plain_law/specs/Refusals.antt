use Rattle.std.specs.Prelude.{◌≡◌, ℕ, ◌+◌, ◌-◌, ◌*◌, ◌==◌, nat_lt, List, Option, Some, None, is_some, if◌then◌else◌}
use Rattle.std.specs.Option.{option_map, option_or}
use Rattle.ats_num.specs.Division.{ceiling}
use Rattle.ats_topology.specs.Port.{port_at}
use Rattle.ats_network.specs.Network.{DeclaredNetwork}
use Rattle.ats_certificate.specs.Certificate.{bound_of, row_of}
use Rattle.ats_certificate.specs.PortSums.{PortSums, is_used, port_sums}
use Rattle.ats_certificate.specs.Used.{places_of}
use Rattle.ats_certificate.specs.declared.row.Row.{Row}
use Rattle.ats_tally.specs.Reason.{first_some, late, overstay}
use Rattle.ats_tally.specs.declared.reason.Reason.TheVariants.{Overloaded}
use Rattle.ats_checker.specs.Refusal.{refusal_of}
use Rattle.ats_checker.specs.declared.refusal.Field.{Field}
use Rattle.ats_checker.specs.declared.refusal.Field.TheVariants.{Bound, Bursts, Equal, Higher, Least, Lower}
use Rattle.ats_checker.specs.declared.refusal.Refusal.{Refusal}
use Rattle.ats_checker.specs.declared.refusal.Refusal.TheVariants.{FieldWrong, Network, RowMissing, RowStray}
use Rattle.ats_checker.specs.declared.refusal.Refusal.TheVariants.{WaitTooSmall}

-- what is told of a field of a row that says one number, where another is right
abbrev pub told_of : Row → Field → ℕ → ℕ → Option Refusal
told_of row field given right = if given == right then None else Some (FieldWrong row.port row.class field right)

-- the first field that is wrong, in this order
abbrev pub wrong_field : DeclaredNetwork → Row → Option Refusal
wrong_field network row =
    option_or (told_of row Higher row.higher (port_sums network row.port row.class).higher)
    (option_or (told_of row Equal row.equal (port_sums network row.port row.class).equal)
    (option_or (told_of row Bursts row.bursts (port_sums network row.port row.class).bursts)
    (option_or (told_of row Lower row.lower (port_sums network row.port row.class).lower)
    (option_or (told_of row Least row.least (port_sums network row.port row.class).least)
    (told_of row Bound row.bound (bound_of (port_at network.topology.ports row.port) row.wait row.least))))))

-- how long a class waits at least for these sums: until the longest lower frame and all bursts but the shortest frame
-- are sent, at the rate that the higher classes leave
abbrev pub wait_by : ℕ → PortSums → ℕ
wait_by ps_per_bit sums =
    ceiling (1000000000000 * (ps_per_bit * (sums.lower + sums.bursts - sums.least))) (1000000000000 - sums.higher)

-- a wait that is shorter than that
abbrev pub short_wait : DeclaredNetwork → Row → Option Refusal
short_wait network row =
    let least = wait_by (port_at network.topology.ports row.port).ps_per_bit
    (port_sums network row.port row.class) in
    if nat_lt row.wait least then Some (WaitTooSmall row.port row.class least) else None

-- rows, be they in order or not, are refused for the first place without a row; else the first row that no stream uses;
-- else the first field that is wrong; else the first load of a row that is more than a second has; else the first wait
-- that is too short; else the first stay that is too long; else the first stream that is late
abbrev pub RefusalsArePlain : Type 0
RefusalsArePlain = (network : DeclaredNetwork) (rows : List Row) → refusal_of network rows
    ≡ option_or (first_some (λ (place : ℕ × ℕ). if is_some (row_of rows place.0 place.1) then None
    else Some (RowMissing place.0 place.1)) (places_of network))
    (option_or (first_some (λ (row : Row). if is_used network row.port row.class then None
    else Some (RowStray row.port row.class)) rows)
    (option_or (first_some (wrong_field network) rows)
    (option_or (option_map Network (first_some (λ (row : Row). if nat_lt 1000000000000 (row.higher + row.equal)
    then Some (Overloaded row.port row.class (row.higher + row.equal)) else None) rows))
    (option_or (first_some (short_wait network) rows)
    (option_or (option_map Network (first_some (overstay network) rows))
    (option_map Network (first_some (late network.topology rows) network.streams)))))))
