use Rattle.std.specs.Prelude.{Option}
use Rattle.ats_num.specs.declared.time.Ps.{Ps}
use Rattle.ats_group.specs.declared.verdict.Verdict.{Verdict}
use Rattle.ats_group.specs.declared.verdict.Verdict.TheVariants.{Eligible, Late, Size}

-- what happened to a frame at one port of its sender: when it came to the node that the port leaves, at the first hop
-- of the trunk its release; what the node decided on it; and when its transmission started and ended, if it was sent
pub record HopRecord : Type 0 where
  pub arrival : Ps
  pub verdict : Verdict
  pub sent : Option (Ps × Ps)

-- a frame with this verdict goes on
abbrev pub IsEligible : Verdict → Type 0
IsEligible (Eligible at) = Unit {0}
IsEligible (Late at) = ⊥
IsEligible Size = ⊥
