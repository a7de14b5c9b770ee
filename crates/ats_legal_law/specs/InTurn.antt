use Rattle.std.specs.Prelude.{◌≡◌, ℕ, ◌*◌, ◌≤◌, List, ◌++◌, length, All}
use Rattle.ats_network.specs.Network.{DeclaredNetwork, IsNetwork}
use Rattle.ats_trace.specs.Journey.{Travel}
use Rattle.ats_trace.specs.Run.{IsIdeal, releases_of}
use Rattle.ats_trace.specs.Talker.{KeepsBuckets}
use Rattle.ats_legal_law.specs.Later.{later_run, repeated}
use Rattle.ats_legal_law.specs.Rest.{IsOverBy, RestsUntil}

-- A run behind another one, where all nodes read true time. By clocks that differ two legal runs need not be one: a
-- clock that is put together of two has up to twice the step of each.

-- where one legal run is over, and the network has rested, another one may begin: together they are one legal run
abbrev pub LegalInTurn : Type 0
LegalInTurn = (network : DeclaredNetwork) (first second : List Travel) (over by : ℕ) → IsNetwork network
    → IsIdeal network first → IsIdeal network second → All (IsOverBy over) first → RestsUntil network over by
    → IsIdeal network (first ++ later_run by second)

-- and a node that keeps its buckets in both keeps them in the whole
abbrev pub KeptInTurn : Type 0
KeptInTurn = (network : DeclaredNetwork) (first second : List Travel) (over by station : ℕ)
    → KeepsBuckets network (releases_of first) station → KeepsBuckets network (releases_of second) station
    → All (IsOverBy over) first → RestsUntil network over by
    → KeepsBuckets network (releases_of (first ++ later_run by second)) station

-- so a legal run may happen any number of times
abbrev pub LegalWhenRepeated : Type 0
LegalWhenRepeated = (network : DeclaredNetwork) (run : List Travel) (over by n : ℕ) → IsNetwork network
    → IsIdeal network run → All (IsOverBy over) run → RestsUntil network over by → IsIdeal network (repeated by n run)

abbrev pub KeptWhenRepeated : Type 0
KeptWhenRepeated = (network : DeclaredNetwork) (run : List Travel) (over by n station : ℕ)
    → KeepsBuckets network (releases_of run) station → All (IsOverBy over) run → RestsUntil network over by
    → KeepsBuckets network (releases_of (repeated by n run)) station

-- with so many frames as its own, that many times
abbrev pub LongWhenRepeated : Type 0
LongWhenRepeated = (run : List Travel) (by n : ℕ) → length (repeated by n run) ≡ n * length run

-- each run is over at some time, and a network that rests long enough from then on is at rest
abbrev pub IsOnceOver : Type 0
IsOnceOver = (network : DeclaredNetwork) (run : List Travel) → IsNetwork network
    → (over : ℕ) × (least : ℕ) × All (IsOverBy over) run × ((by : ℕ) → least ≤ by → RestsUntil network over by)
