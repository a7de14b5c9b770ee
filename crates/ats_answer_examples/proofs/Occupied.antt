use Rattle.std.proofs.Common.{◌≡◌, ℕ, zero, suc, ◌+◌, ◌<◌, ◌≤◌, Bool, true, false, cond, ◌&&◌, List, [], ◌∷◌}
use Rattle.std.proofs.Common.{length, refl, ap, arith}
use Rattle.std.specs.Prelude.{nat_le, nat_lt, slice_index, sum_by}
use Rattle.std.proofs.lemmas.Bool.{and_parts, lt-leb}
use Rattle.ats_buffer.specs.Occupancy.{ArePeaks, IsPeak, is_held, occupancy, row_at}
use Rattle.ats_examples.specs.Rows.{line_rows}
use Rattle.ats_examples.specs.Runs.{hop, sunk}
use Rattle.ats_examples.proofs.Tests.{lt_of}
use Rattle.ats_trace.specs.Journey.{Travel}
use Rattle.ats_trace.specs.Projections.{Crossing}
use Rattle.ats_call_examples.proofs.Line.{line}

-- The run of two frames over the line, and what is held at its ports.

-- the second frame is released when the first is sent, comes to the bridge behind it, and waits there
abbrev pub two_journeys : List Travel
two_journeys =
    sunk 0 0 1522 (hop 0 0 0 12336000 ∷ hop 13836000 13836000 13836000 26172000 ∷ []) 26672000
    ∷ sunk 12336000 0 64 (hop 12336000 12336000 12336000 13008000 ∷ hop 14508000 20556000 26172000 26844000 ∷ [])
    27344000 ∷ []

-- a crossing in class 6, by its port, its bits, and when the frame came and was sent
abbrev crossing : ℕ → ℕ → ℕ → ℕ → ℕ → ℕ → ℕ → ℕ → ℕ → Crossing
crossing port octets came frame bits eligible start end arrival = record {
  port = port;
  octets = octets;
  came = came;
  sent = record {
    frame = frame;
    sender = 0;
    class = 6;
    bits = bits;
    eligible = eligible;
    start = start;
    end = end;
  };
  arrival = arrival;
}

abbrev first_at_station : Crossing
first_at_station = crossing 0 1522 0 0 12336 0 0 12336000 13836000

abbrev second_at_station : Crossing
second_at_station = crossing 0 64 12336000 1 672 12336000 12336000 13008000 14508000

abbrev first_at_bridge : Crossing
first_at_bridge = crossing 2 1522 13836000 0 12336 13836000 13836000 26172000 26672000

abbrev second_at_bridge : Crossing
second_at_bridge = crossing 2 64 14508000 1 672 20556000 26172000 26844000 27344000

-- the bits of those of two crossings that are held
abbrev bits_of_held : Bool → Bool → Crossing → Crossing → ℕ
bits_of_held p q x y =
    sum_by (λ (c : Crossing). c.sent.bits) (cond p (x ∷ cond q (y ∷ []) []) (cond q (y ∷ []) []))

-- they are at most those of both
both_at_most : (p q : Bool) (x y : Crossing) → bits_of_held p q x y ≤ x.sent.bits + y.sent.bits
both_at_most true true x y = omega arith
both_at_most true false x y = omega arith
both_at_most false true x y = omega arith
both_at_most false false x y = omega arith

-- and at most those of the longer, where both are not held together
one_at_most : (p q : Bool) (x y : Crossing) → (p ≡ true → q ≡ false) → y.sent.bits ≤ x.sent.bits
    → bits_of_held p q x y ≤ x.sent.bits
one_at_most true true x y apart less = let no : true ≡ false = apart refl in absurd (cc)
one_at_most true false x y apart less = omega arith
one_at_most false true x y apart less = omega arith
one_at_most false false x y apart less = omega arith

-- a frame that comes when another ends is not there with it
apart : (time : ℕ) → is_held 6 time first_at_station ≡ true → is_held 6 time second_at_station ≡ false
apart time h =
    let parts = and_parts (nat_le 0 time) (nat_lt time 12336000) h in
    let before : time < 12336000 = lt_of time 12336000 parts.1 in
    ap (λ (come : Bool). come && nat_lt time 13008000) (lt-leb 12336000 time before)

at_station : IsPeak (occupancy line two_journeys 0 6) 12336
at_station = record {
  most = λ time. one_at_most (is_held 6 time first_at_station) (is_held 6 time second_at_station) first_at_station
      second_at_station (apart time) (omega arith);
  reached = (0, refl);
}

at_bridge : IsPeak (occupancy line two_journeys 2 6) 13008
at_bridge = record {
  most = λ time. both_at_most (is_held 6 time first_at_bridge) (is_held 6 time second_at_bridge) first_at_bridge
      second_at_bridge;
  reached = (14508000, refl);
}

abbrev pub two_peaks : List ℕ
two_peaks = 12336 ∷ 13008 ∷ []

each_peak : (n : ℕ) → n < length line_rows
    → IsPeak (occupancy line two_journeys (row_at line_rows n).port (row_at line_rows n).class)
    (slice_index two_peaks n)
each_peak zero h = at_station
each_peak (suc zero) h = at_bridge
each_peak (suc (suc k)) h = absurd (omega arith)

pub peaks_are : ArePeaks line two_journeys line_rows two_peaks
peaks_are = record { count = refl; each = each_peak }
