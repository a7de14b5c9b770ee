use Rattle.std.proofs.Common.{◌≡◌, ◌*◌, ◌≤◌, ◌^◌, take}
use Rattle.ats_streams.specs.Branches.{leg_at, legs_of}
use Rattle.ats_certificate.specs.Certificate.{bound_on}
use Rattle.ats_tally.proofs.bounds.Bounds.on_leg.Given as goal

-- the sum of the bounds at the hops so far, of 36 digits each
abbrev pub invariant-loop-hop : goal.invariant-loop-hop
invariant-loop-hop l = record {
  sum : l.sum ≡ bound_on l.self.rows l.stream (take l.hop (leg_at (legs_of l.stream.ports l.stream.branches) l.leg));
  most : l.sum ≤ l.hop * 10 ^ 36;
}
