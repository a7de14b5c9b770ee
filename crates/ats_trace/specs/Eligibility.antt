use Rattle.std.specs.Prelude.{◌≡◌, ℕ, List, map, IsPermutation, unwrap_or, if◌then◌else◌}
use Rattle.std.specs.List.Sorted.{IsNonDecreasing}
use Rattle.ats_network.specs.Sender.{declared_of}
use Rattle.ats_network.specs.Network.{DeclaredNetwork}
use Rattle.ats_network.specs.Rates.{committed_at, declared_with, scheduled_at}
use Rattle.ats_network.specs.Senders.{sender_at}
use Rattle.ats_network.specs.Residence.{residence_after}
use Rattle.ats_group.specs.Group.{Offer}
use Rattle.ats_streams.specs.Traffic.{is_declared_size}
use Rattle.ats_group.specs.Judge.{Judge}
use Rattle.ats_streams.specs.declared.traffic.Declared.{Declared}
use Rattle.ats_group.specs.declared.verdict.Verdict.TheVariants.{Eligible, Size}
use Rattle.ats_trace.specs.Projections.{Handed}

-- what the sender with a number declares of its rate, burst and sizes
abbrev pub declared_by : DeclaredNetwork → ℕ → Declared
declared_by network i = declared_of (sender_at network i)

-- the same sizes, with the rate and burst to which its frames conform in true time where they are eligible at a port
abbrev pub committed_by : DeclaredNetwork → ℕ → ℕ → Declared
committed_by network port i =
    declared_with (committed_at network.topology port (sender_at network i)) (sender_at network i)

-- and with those of its scheduler in the group behind a port
abbrev pub scheduled_by : DeclaredNetwork → ℕ → ℕ → Declared
scheduled_by network port i =
    declared_with (scheduled_at network.topology port (sender_at network i)) (sender_at network i)

-- a frame as it comes to the group behind a port
abbrev pub offer_of : Handed → Offer
offer_of h = record { member = h.crossing.sent.sender; arrival = h.crossing.arrival; octets = h.crossing.octets }

-- the maximum residence time of the groups behind a port, in nanoseconds; 0 behind a port to a station
abbrev pub residence_of_groups : DeclaredNetwork → ℕ → ℕ
residence_of_groups network port = unwrap_or (residence_after network.topology port) 0

-- frames of one class get their verdicts from one group behind a port, which judges them in the order of their arrivals
pub record IsJudged (judge : Judge) (network : DeclaredNetwork) (port : ℕ) (handed : List Handed) : Type 0 where
  pub arrivals : List Handed
  pub same : IsPermutation handed arrivals
  pub in_order : IsNonDecreasing (map (λ (h : Handed). h.crossing.arrival) arrivals)
  pub verdicts : map (λ (h : Handed). h.verdict) arrivals
      ≡ judge (scheduled_by network port) (residence_of_groups network port) (map offer_of arrivals)

-- a flow's frame behind a port: eligible at its arrival where it has a declared size, else discarded for its size
abbrev pub IsPassed : DeclaredNetwork → Handed → Type 0
IsPassed network h =
    h.verdict
    ≡ (if is_declared_size (declared_by network h.crossing.sent.sender) h.crossing.octets
    then Eligible (record { 0 = h.crossing.arrival }) else Size)
