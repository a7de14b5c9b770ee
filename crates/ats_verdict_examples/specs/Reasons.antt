use Rattle.std.specs.Prelude.{◌≡◌, List, codes, Some, None}
use Rattle.ats_network.specs.Network.{DeclaredNetwork, IsNetwork}
use Rattle.ats_certificate.specs.Certificate.{Holds}
use Rattle.ats_certificate.specs.declared.row.Row.{Row}
use Rattle.ats_tally.specs.declared.reason.Reason.{Reason}
use Rattle.ats_tally.specs.declared.reason.Reason.TheVariants.{Overloaded, Residence, Deadline}
use Rattle.ats_bound.specs.First.{IsFirstReason}
use Rattle.ats_bound.specs.Laws.{IsAnswered}
use Rattle.ats_bound.specs.Reason.{reason_of}
use Rattle.ats_examples.specs.Networks.{fast, pair}
use Rattle.ats_verdict_examples.specs.Networks.{line_until}

-- Networks that have a reason against them, and some that have none.

-- this reason is given against the network and is the first, another is not, and no certificate holds
pub record HasReason (network : DeclaredNetwork) (reason other : Reason) : Type 0 where
  pub rules : IsNetwork network
  pub given : reason_of network ≡ Some reason
  pub first : IsFirstReason network reason
  pub not_first : ¬ IsFirstReason network other
  pub none_holds : (rows : List Row) → ¬ Holds network rows

-- there is no reason against the network, and its least certificate holds
pub record HasNoReason (network : DeclaredNetwork) : Type 0 where
  pub rules : IsNetwork network
  pub free : reason_of network ≡ None
  pub answered : IsAnswered network

-- a stream of twice the link's rate overloads both ports, of which the first is named. A small frame may have to stay
-- behind the first port for 12,336 ns, where it may stay for 1 ns less, or for just as long. And the bounds of the line
-- are together 26,672,000 ps, which is 1 ns over the deadline, or just the deadline
pub record ReasonsAreMet : Type 0 where
  pub overloaded : HasReason fast (Overloaded 0 6 2000000000000) (Overloaded 2 6 2000000000000)
  pub overstays : HasReason (pair 12335) (Residence 0 6 12336000) (Overloaded 0 6 150000000000)
  pub may_stay : HasNoReason (pair 12336)
  pub late : HasReason (line_until 26671) (Deadline (codes "a") None 26672000) (Deadline (codes "a") None 26671000)
  pub in_time : HasNoReason (line_until 26672)
