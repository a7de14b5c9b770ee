use Rattle.std.specs.Prelude.{◌≡◌, ℕ, ◌+◌, ◌*◌, ◌≤◌, ◌||◌, min, max, fold, List, [], ◌∷◌, map, filter, Option, Some}
use Rattle.std.specs.Prelude.{None, unwrap_or, if◌then◌else◌}
use Rattle.ats_num.specs.declared.rate.TheConstants.{MAX_BPS, MAX_BURST_BITS}
use Rattle.ats_num.specs.declared.wire.TheConstants.{MAX_WIRE_BITS}
use Rattle.ats_network.specs.Class.{PortSender}
use Rattle.ats_certificate.specs.PortSums.{PortSums, is_above, is_of, is_below, longest, shortest, sum_where}
use Rattle.ats_certificate.specs.PortSums.{greatest_where}
use Rattle.ats_tally.specs.declared.tally.Tally.{Tally}

-- no sender is counted
abbrev pub no_tally : Tally
no_tally = record { above = 0; equal = 0; bursts = 0; lower = 0; least = None }

-- the smaller of a number and one that may be there
abbrev pub least_with : Option ℕ → ℕ → ℕ
least_with None n = n
least_with (Some m) n = min m n

-- the least of numbers, if there are any
abbrev pub least_known : List ℕ → Option ℕ
least_known [] = None
least_known (n ∷ ns) = Some (fold min n ns)

-- what a class is made of with one sender more
abbrev pub tally_with : ℕ → PortSender → Tally → Tally
tally_with class s tally =
    if is_below class s then record tally { lower = max tally.lower (longest s) }
    else if is_above class s then record tally { above = tally.above + s.rate; bursts = tally.bursts + s.burst_bits }
    else record tally {
      equal = tally.equal + s.rate;
      bursts = tally.bursts + s.burst_bits;
      least = Some (least_with tally.least (shortest s));
    }

-- what the senders make of a class
pub record IsTally (class : ℕ) (senders : List PortSender) (tally : Tally) : Type 0 where
  pub above : tally.above ≡ sum_where (is_above class) (λ s. s.rate) senders
  pub equal : tally.equal ≡ sum_where (is_of class) (λ s. s.rate) senders
  pub bursts : tally.bursts ≡ sum_where (λ s. is_above class s || is_of class s) (λ s. s.burst_bits) senders
  pub lower : tally.lower ≡ greatest_where (is_below class) longest senders
  pub least : tally.least ≡ least_known (map shortest (filter (is_of class) senders))

-- no more than this many senders can make of a class
pub record IsWithin (count : ℕ) (tally : Tally) : Type 0 where
  pub above : tally.above ≤ count * MAX_BPS
  pub equal : tally.equal ≤ count * MAX_BPS
  pub bursts : tally.bursts ≤ count * MAX_BURST_BITS
  pub lower : tally.lower ≤ MAX_WIRE_BITS
  pub least : unwrap_or tally.least 0 ≤ MAX_WIRE_BITS

-- the sums that they make at a port with so many picoseconds per bit
abbrev pub sums_of : ℕ → Tally → PortSums
sums_of ps_per_bit tally = record {
  higher = ps_per_bit * tally.above;
  equal = ps_per_bit * tally.equal;
  bursts = tally.bursts;
  lower = tally.lower;
  least = unwrap_or tally.least 0;
}
