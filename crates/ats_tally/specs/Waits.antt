use Rattle.std.specs.Prelude.{ℕ, ◌+◌, ◌-◌, ◌*◌, unwrap_or}
use Rattle.ats_num.specs.Division.{ceiling}
use Rattle.ats_num.specs.declared.time.TheConstants.{PS_PER_SECOND}
use Rattle.ats_topology.specs.declared.port.Port.{Port}
use Rattle.ats_certificate.specs.PortSums.{PortSums}
use Rattle.ats_tally.specs.declared.tally.Tally.{Tally}

-- the least wait that is enough for these sums: the time in which the longest lower frame and all bursts but the
-- shortest frame are sent, at the rate that the higher classes leave
abbrev pub least_wait : Port → PortSums → ℕ
least_wait port sums =
    ceiling (PS_PER_SECOND * (port.ps_per_bit * (sums.lower + sums.bursts - sums.least))) (PS_PER_SECOND - sums.higher)

-- the same by a tally, where a bit takes so many picoseconds and the higher classes so many of each second
abbrev pub wait_for : ℕ → ℕ → Tally → ℕ
wait_for ps higher tally =
    ceiling (PS_PER_SECOND * (ps * (tally.lower + tally.bursts - unwrap_or tally.least 0))) (PS_PER_SECOND - higher)
