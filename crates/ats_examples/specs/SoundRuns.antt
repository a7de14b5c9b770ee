use Rattle.std.specs.Prelude.{◌≡◌, ℕ, ◌+◌, List, [], ◌∷◌, sum_by, All}
use Rattle.ats_network.specs.Network.{DeclaredNetwork, IsNetwork}
use Rattle.ats_network.specs.Senders.{sender_at}
use Rattle.ats_certificate.specs.Certificate.{Holds}
use Rattle.ats_certificate.specs.declared.row.Row.{Row}
use Rattle.ats_trace.specs.Journey.{Travel}
use Rattle.ats_trace.specs.Clocks.{IsLegal}
use Rattle.ats_trace.specs.Run.{IsIdeal, releases_of}
use Rattle.ats_trace.specs.ExactLinks.{HaveOneLatency, IsLegalAt}
use Rattle.ats_trace.specs.Stored.{travel_at}
use Rattle.ats_trace.specs.Talker.{talker_of, KeepsBuckets}
use Rattle.ats_trace.specs.declared.journey.Ending.TheVariants.{Sink}
use Rattle.ats_soundness_law.specs.Sound.{IsServed, IsContained, IsSound, bounds_of}
use Rattle.ats_examples.specs.Networks.{line, fork, over_two, over_three, ranged_line}
use Rattle.ats_examples.specs.Runs.{one_frame}
use Rattle.ats_examples.specs.ChangedRuns.{sunk_late}
use Rattle.ats_examples.specs.BridgedRuns.{eligible_later, one_over_two, one_over_three, two_over_two, two_over_three}
use Rattle.ats_examples.specs.Babbler.{babbler}
use Rattle.ats_examples.specs.PacedRuns.{arriving}
use Rattle.ats_examples.specs.Rows.{two_rows, three_rows, fork_rows, turned_rows}

-- What the laws say of runs over more than one bridge, and of one with a babbler.

-- these rows are a certificate of the network
pub record IsCertified (network : DeclaredNetwork) (rows : List Row) : Type 0 where
  pub rules : IsNetwork network
  pub holds : Holds network rows

-- the sum of the bounds of a frame
abbrev pub sum_of : DeclaredNetwork → List Row → Travel → ℕ
sum_of network rows j =
    sum_by (bounds_of rows (sender_at network j.release.sender)) (sender_at network j.release.sender).ports

-- a frame of a legal run whose talker keeps its buckets: it is served, and arrives exactly when the sum of its bounds
-- is over
pub record IsServedExactly (network : DeclaredNetwork) (rows : List Row) (run : List Travel) (j : Travel) : Type 0 where
  pub legal : IsIdeal network run
  pub keeps : KeepsBuckets network (releases_of run) (talker_of network j.release.sender)
  pub served : IsServed rows (sender_at network j.release.sender) j
  pub whole : j.ending ≡ Sink (record { 0 = j.release.at.0 + sum_of network rows j })

-- a frame of a legal run whose talker does not: it is not served, but from the first bridge on it is contained
pub record IsContainedAlone (network : DeclaredNetwork) (rows : List Row) (run : List Travel)
    (j : Travel) : Type 0 where
  pub legal : IsIdeal network run
  pub not_kept : ¬ KeepsBuckets network (releases_of run) (talker_of network j.release.sender)
  pub not_served : ¬ IsServed rows (sender_at network j.release.sender) j
  pub contained : IsContained rows (sender_at network j.release.sender) j

-- and one that would not be contained, so that there is no such run
pub record IsContainedNever (network : DeclaredNetwork) (rows : List Row) (run : List Travel)
    (j : Travel) : Type 0 where
  pub not_contained : ¬ IsContained rows (sender_at network j.release.sender) j
  pub not_legal : ¬ IsLegal network run

-- over two bridges and over three one frame is served; of two at once the second is contained, and if it arrived 1 ps
-- later it would not be
pub record BridgedAreSound : Type 0 where
  pub two : IsCertified over_two two_rows
  pub three : IsCertified over_three three_rows
  pub one_over_two : IsServedExactly over_two two_rows (one_over_two ∷ []) one_over_two
  pub one_over_three : IsServedExactly over_three three_rows (one_over_three ∷ []) one_over_three
  pub second_over_two : IsContainedAlone over_two two_rows (two_over_two 163868000)
      (travel_at (two_over_two 163868000) 1)
  pub second_over_three : IsContainedAlone over_three three_rows (two_over_three 177704000)
      (travel_at (two_over_three 177704000) 1)
  pub eligible_later : IsContainedNever over_two two_rows eligible_later (travel_at eligible_later 1)
  pub later_over_two : IsContainedNever over_two two_rows (two_over_two 163868001)
      (travel_at (two_over_two 163868001) 1)
  pub later_over_three : IsContainedNever over_three three_rows (two_over_three 177704001)
      (travel_at (two_over_three 177704001) 1)

-- beside a babbler, whose last frame is discarded, the other station's frame is served; and each frame is contained
pub record BabblerIsContained : Type 0 where
  pub certified : IsCertified fork fork_rows
  pub legal : IsIdeal fork babbler
  pub babbles : ¬ KeepsBuckets fork (releases_of babbler) (talker_of fork 1)
  pub not_served : ¬ IsServed fork_rows (sender_at fork 1) (travel_at babbler 23)
  pub keeps : KeepsBuckets fork (releases_of babbler) (talker_of fork 0)
  pub served : IsServed fork_rows (sender_at fork 0) (travel_at babbler 0)
  pub sum : sum_of fork fork_rows (travel_at babbler 0) ≡ 39008000
  pub contained : All (λ (j : Travel). IsContained fork_rows (sender_at fork j.release.sender) j) babbler

-- a run that is legal where each port has one latency, and one that is not
pub record ExactExamples : Type 0 where
  pub exact : IsLegalAt line one_frame
  pub not_exact : ¬ IsLegalAt line sunk_late

-- that each port has one latency counts: where one has not, a run is legal whose frame takes less than the latency
pub record ExactnessCounts : Type 0 where
  pub network : IsNetwork ranged_line
  pub not_one : ¬ HaveOneLatency ranged_line.topology.ports
  pub legal : IsIdeal ranged_line (arriving 13036000)
  pub not_exact : ¬ IsLegalAt ranged_line (arriving 13036000)

-- the rows of the line in another order are no certificate, and sound
pub record OrderDoesNotCount : Type 0 where
  pub not_held : ¬ Holds line turned_rows
  pub sound : IsSound line turned_rows
