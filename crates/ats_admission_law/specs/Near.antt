use Rattle.std.specs.Prelude.{ℕ, ◌<◌, Bool, ◌==◌, IsTrue, List, length, slice_index_or, filter, fold, All, Option, None}
use Rattle.std.specs.List.{list_any}
use Rattle.std.specs.Option.{option_or, option_map}
use Rattle.ats_streams.specs.Stream.{DeclaredStream}
use Rattle.ats_network.specs.Edits.{no_stream}
use Rattle.ats_network.specs.Sender.{stream_sender}
use Rattle.ats_network.specs.Network.{DeclaredNetwork}
use Rattle.ats_certificate.specs.PortSums.{uses}
use Rattle.ats_tally.specs.Reason.{first_some, overstay, late}
use Rattle.ats_tally.specs.declared.reason.Reason.{Reason}
use Rattle.ats_bound.specs.Least.{least_row, least_certificate}
use Rattle.ats_bound.specs.Reason.{overload}
use Rattle.ats_admission_law.specs.Lowest.{first_found, lower_of, lowest_found}

-- both streams use some port
abbrev pub shares : DeclaredStream → DeclaredStream → Bool
shares x s = list_any (λ port. uses port (stream_sender x)) s.ports

-- the streams that use one of a stream's ports, itself among them, in their order
abbrev pub streams_on : DeclaredNetwork → DeclaredStream → List DeclaredStream
streams_on network x = filter (shares x) network.streams

-- the need of residence of the least row of a port and a class, where that is over the residence time behind the port
abbrev pub overstay_at : DeclaredNetwork → ℕ × ℕ → Option Reason
overstay_at network place = overstay network (least_row network place)

-- the first stream that is late by the least bounds, of those that use one of a stream's ports
abbrev pub late_near : DeclaredNetwork → DeclaredStream → Option Reason
late_near network x = first_some (late network.topology (least_certificate network)) (streams_on network x)

-- the first reason that is found along a stream's ports: an overload at one of them; where there is none, a need of
-- residence there; where there is none either, a stream that uses one of its ports and is late
abbrev pub reason_along : DeclaredNetwork → DeclaredStream → Option Reason
reason_along network x =
    option_or (first_found (overload network) network x.ports)
    (option_or (first_found (overstay_at network) network x.ports) (late_near network x))

-- what is found at a port
abbrev pub found_there : Option (ℕ × Reason) → Option Reason
found_there found = option_map (λ best. best.1) found

-- the same reason, where the ports are searched in the stream's own order
abbrev pub reason_judged : DeclaredNetwork → DeclaredStream → Option Reason
reason_judged network x =
    option_or (found_there (lowest_found (overload network) network x.ports))
    (option_or (found_there (lowest_found (overstay_at network) network x.ports)) (late_near network x))

-- the number is that of a stream that uses one of a stream's ports
pub record IsNear (network : DeclaredNetwork) (x : DeclaredStream) (n : ℕ) : Type 0 where
  pub within : n < length network.streams
  pub shares : IsTrue (shares x (slice_index_or network.streams n no_stream))

-- the numbers are those of all streams that use one, in any order
pub record AreNear (network : DeclaredNetwork) (x : DeclaredStream) (numbers : List ℕ) : Type 0 where
  pub near : All (IsNear network x) numbers
  pub complete : (n : ℕ) → IsNear network x n → IsTrue (list_any (λ m. m == n) numbers)

-- the sum over its deadline of the stream with a number, where it is late by the least bounds, for its first listener
-- of those for which it is
abbrev pub late_at : DeclaredNetwork → ℕ → Option Reason
late_at network n = late network.topology (least_certificate network) (slice_index_or network.streams n no_stream)

-- of the streams with these numbers, the late one with the lowest number
abbrev pub lowest_late : DeclaredNetwork → List ℕ → Option (ℕ × Reason)
lowest_late network numbers = fold (λ best n. lower_of best n (late_at network n)) None numbers
