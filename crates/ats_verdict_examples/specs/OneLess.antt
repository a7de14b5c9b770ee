use Rattle.std.specs.Prelude.{◌≡◌, ◌<◌, ◌≤◌, true, false, [], ◌∷◌, codes, length, All, Some, None}
use Rattle.ats_network.specs.Network.{IsNetwork}
use Rattle.ats_network.specs.Sender.{stream_sender}
use Rattle.ats_certificate.specs.PortSums.{uses}
use Rattle.ats_certificate.specs.Certificate.{Holds, bound_along}
use Rattle.ats_tally.specs.declared.reason.Reason.TheVariants.{Overloaded, Deadline}
use Rattle.ats_bound.specs.Least.{least_certificate}
use Rattle.ats_bound.specs.Reason.{load_at, overload, reason_of}
use Rattle.ats_admission_law.specs.Laws.{Falls, StaysSame}
use Rattle.ats_admission_law.specs.Less.{IsLessBy}
use Rattle.ats_admission_law.specs.Lowest.{first_found, lowest_found}
use Rattle.ats_admission_law.specs.Near.{AreNear, found_there, late_near, lowest_late, reason_along, reason_judged}
use Rattle.ats_admission_law.specs.Near.{shares}
use Rattle.ats_verdict_examples.specs.Networks.{x_until, y, z, of_three, of_two, too_fast, with_too_fast}

-- Three streams, and what becomes of two of them without the one between them.

-- the bounds of x are 91,352,000 ps together with y, and 54,344,000 ps without it. With a deadline of its sum both
-- networks are free of reasons; what a port where x and y meet has to carry falls without y; and a port of z alone, and
-- its sum, stay the same
pub record LessIsMet : Type 0 where
  pub less : IsLessBy (of_three 91352) (of_two 91352) y
  pub rules : IsNetwork (of_three 91352)
  pub free : reason_of (of_three 91352) ≡ None
  pub rules_left : IsNetwork (of_two 91352)
  pub free_left : reason_of (of_two 91352) ≡ None
  pub held : Holds (of_three 91352) (least_certificate (of_three 91352))
  pub held_left : Holds (of_two 91352) (least_certificate (of_two 91352))
  pub load : load_at (of_three 91352) (4, 6) ≡ 200000000000
  pub load_left : load_at (of_two 91352) (4, 6) ≡ 100000000000
  pub falls : Falls (of_three 91352) (of_two 91352) (4, 6)
  pub sum : bound_along (least_certificate (of_three 91352)) (x_until 91352) ≡ 91352000
  pub sum_left : bound_along (least_certificate (of_two 91352)) (x_until 91352) ≡ 54344000
  pub no_more : bound_along (least_certificate (of_two 91352)) (x_until 91352)
      ≤ bound_along (least_certificate (of_three 91352)) (x_until 91352)
  pub meets : uses 4 (stream_sender y) ≡ true
  pub apart : uses 9 (stream_sender y) ≡ false
  pub same : StaysSame (of_three 91352) (of_two 91352) (9, 6)
  pub shares_some : shares y (x_until 91352) ≡ true
  pub shares_none : shares y z ≡ false
  pub sum_of_z : bound_along (least_certificate (of_two 91352)) z ≡ 54344000
  pub same_sum : bound_along (least_certificate (of_two 91352)) z ≡ bound_along (least_certificate (of_three 91352)) z

-- with a deadline 1 ns less x is late with y, and not without it: so the reason is found along the path of y, and x is
-- found among the streams that share a port with y, whatever their order
pub record LateIsMet : Type 0 where
  pub less : IsLessBy (of_three 91351) (of_two 91351) y
  pub rules : IsNetwork (of_three 91351)
  pub free_left : reason_of (of_two 91351) ≡ None
  pub reason : reason_of (of_three 91351) ≡ Some (Deadline (codes "x") None 91352000)
  pub along : reason_along (of_three 91351) y ≡ Some (Deadline (codes "x") None 91352000)
  pub judged : reason_judged (of_three 91351) y ≡ Some (Deadline (codes "x") None 91352000)
  pub near : AreNear (of_three 91351) y (1 ∷ 0 ∷ [])
  pub late : late_near (of_three 91351) y ≡ Some (Deadline (codes "x") None 91352000)
  pub lowest : found_there (lowest_late (of_three 91351) (1 ∷ 0 ∷ [])) ≡ Some (Deadline (codes "x") None 91352000)

-- a stream that overloads each of its ports, which stand in descending order: port 1 is found, which is the last of
-- them
pub record PathIsMet : Type 0 where
  pub rules : IsNetwork with_too_fast
  pub ports : All (λ port. port < length with_too_fast.topology.ports) too_fast.ports
  pub first : first_found (overload with_too_fast) with_too_fast too_fast.ports ≡ Some (Overloaded 1 6 2000000000000)
  pub lowest : found_there (lowest_found (overload with_too_fast) with_too_fast too_fast.ports)
      ≡ Some (Overloaded 1 6 2000000000000)

-- what the laws of admission ask is met
pub record AdmissionIsMet : Type 0 where
  pub less : LessIsMet
  pub late : LateIsMet
  pub path : PathIsMet
