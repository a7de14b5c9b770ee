use Rattle.std.specs.Prelude.{◌≡◌, ◌≢◌, ℕ, ◌+◌, ◌*◌, ◌<◌, ◌≤◌, ◌⊎◌, ◌&&◌, nat_lt, if◌then◌else◌, List, length}
use Rattle.std.specs.Prelude.{slice_get, Option, Some, None}

-- a value for each of so many ports and each class from 0 to 7: they stand by port, the eight of each port by class
pub record Table (T : Type 0) : Type 0 where
  pub ports : ℕ
  pub values : List T

abbrev pub table_of : {T : Type 0} → ℕ → List T → Table T
table_of ports values = record { ports = ports; values = values }

-- the value at a port and a class; None where there is no such port or class
unfoldable pub value_at : {T : Type 0} → Table T → ℕ → ℕ → Option T
value_at table port class =
    if nat_lt port table.ports && nat_lt class 8 then slice_get table.values (8 * port + class) else None

-- a list has the eight values at a port, by class
pub record AreValuesAt {T : Type 0} (table : Table T) (port : ℕ) (values : List T) : Type 0 where
  pub count : length values ≡ 8
  pub each : (class : ℕ) → class ≤ 7 → slice_get values class ≡ value_at table port class

-- a table for so many ports has the same value everywhere
pub record IsFilled {T : Type 0} (ports : ℕ) (value : T) (table : Table T) : Type 0 where
  pub count : table.ports ≡ ports
  pub each : (port class : ℕ) → port < ports → class ≤ 7 → value_at table port class ≡ Some value

-- a table has become another by a value put at a port and a class
pub record Sets {T : Type 0} (port class : ℕ) (value : T) (old new : Table T) : Type 0 where
  pub count : new.ports ≡ old.ports
  pub here : value_at new port class ≡ Some value
  pub others : (p c : ℕ) → (p ≢ port) ⊎ (c ≢ class) → value_at new p c ≡ value_at old p c
