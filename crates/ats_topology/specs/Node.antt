use Rattle.std.specs.Prelude.{◌≡◌, ℕ, ◌<◌, Bool, true, false, List, [], length, map, slice_index_or, Some}
use Rattle.ats_num.specs.Places.{place_of}
use Rattle.ats_clock.specs.Clock.{DeclaredClock, declared_clock, ideal}
use Rattle.ats_topology.specs.declared.node.Kind.{Kind}
use Rattle.ats_topology.specs.declared.node.Kind.TheVariants.{Station, Bridge}
use Rattle.ats_topology.specs.declared.node.Node.{Node}

-- the node is a station
abbrev pub is_station : Kind → Bool
is_station Station = true
is_station (Bridge processing_min_ns processing_max_ns residence_ns clock_ppm clock_step_ps) = false

-- the least and the greatest time that a node takes to process a frame, in nanoseconds; a station takes none
abbrev pub least_processing_of : Kind → ℕ
least_processing_of Station = 0
least_processing_of (Bridge processing_min_ns processing_max_ns residence_ns clock_ppm clock_step_ps) =
    processing_min_ns

abbrev pub greatest_processing_of : Kind → ℕ
greatest_processing_of Station = 0
greatest_processing_of (Bridge processing_min_ns processing_max_ns residence_ns clock_ppm clock_step_ps) =
    processing_max_ns

-- the maximum residence time of a bridge in nanoseconds
abbrev pub residence_of : Kind → ℕ
residence_of Station = 0
residence_of (Bridge processing_min_ns processing_max_ns residence_ns clock_ppm clock_step_ps) = residence_ns

-- what a node declares of the clock that its schedulers go by; a station has the ideal one
abbrev pub clock_of : Kind → DeclaredClock
clock_of Station = ideal
clock_of (Bridge processing_min_ns processing_max_ns residence_ns clock_ppm clock_step_ps) =
    declared_clock clock_ppm clock_step_ps

-- the names of nodes
abbrev pub names_of : List Node → List (List ℕ)
names_of nodes = map (λ (node : Node). node.name) nodes

-- each name is found at its own place, so no two are the same
abbrev pub AreApart : List (List ℕ) → Type 0
AreApart names = (n : ℕ) → n < length names → place_of (slice_index_or names n []) names ≡ Some n
