use Rattle.std.specs.Prelude.{◌≡◌, List, Contains}
use Rattle.ats_network.specs.Network.{IsNetwork}
use Rattle.ats_network.specs.Senders.{sender_at}
use Rattle.ats_certificate.specs.Certificate.{Holds}
use Rattle.ats_group.specs.Judge.{bucket_rule}
use Rattle.ats_trace.specs.Journey.{Travel, IsOfStream}
use Rattle.ats_trace.specs.Run.{IsIdeal, IsLegalBy, releases_of}
use Rattle.ats_trace.specs.Stored.{travel_at}
use Rattle.ats_trace.specs.Talker.{talker_of, KeepsBuckets, KeepsBucketsBy}
use Rattle.ats_trace.specs.declared.journey.Ending.TheVariants.{Sink}
use Rattle.ats_soundness_law.specs.Runs.{in_true_time}
use Rattle.ats_soundness_law.specs.Sound.{IsServed, IsSound, IsSoundBy}
use Rattle.ats_lrq.specs.Judge.{lrq_judge, spacing_rule}
use Rattle.ats_lrq.specs.Narrow.{narrowed}
use Rattle.ats_examples.specs.Networks.{line, line_and_flow, line_of_bursts}
use Rattle.ats_examples.specs.Rows.{line_rows}
use Rattle.ats_examples.specs.Runs.{out_of_order}
use Rattle.ats_examples.specs.SoundRuns.{sum_of}
use Rattle.ats_lrq_examples.specs.Runs.{spaced, too_soon, two_of_flow}

-- A network, a certificate and runs for which all that the law of narrowed bursts asks holds, or all but one part.

-- the second frame of a run
abbrev pub second_of : List Travel → Travel
second_of run = travel_at run 1

-- with narrowed bursts the network is the line, whose certificate holds for it. The run is legal, and its talker keeps
-- its spacing; the second frame is served, and arrives exactly when the sum of the bounds is over
pub record LawIsMet : Type 0 where
  pub network : IsNetwork line_of_bursts
  pub narrow : narrowed line_of_bursts ≡ line
  pub holds : Holds (narrowed line_of_bursts) line_rows
  pub sound : IsSoundBy (in_true_time lrq_judge spacing_rule) line_of_bursts line_rows
  pub legal : IsLegalBy lrq_judge line_of_bursts spaced
  pub among : Contains spaced (second_of spaced)
  pub of_stream : IsOfStream line_of_bursts (second_of spaced)
  pub keeps : KeepsBucketsBy spacing_rule line_of_bursts (releases_of spaced) (talker_of line_of_bursts 0)
  pub served : IsServed line_rows (sender_at line_of_bursts 0) (second_of spaced)
  pub sum : sum_of line_of_bursts line_rows (second_of spaced) ≡ 26672000
  pub whole : (second_of spaced).ending ≡ Sink (record { 0 = 150032000 })

-- the run with the second frame 1 ps sooner is legal too. Its talker keeps its bucket, and not its spacing, and the
-- frame is eligible 1 ps after the bound; so the bounds are not sound for talkers that keep their buckets
pub record SpacingCounts : Type 0 where
  pub legal : IsLegalBy lrq_judge line_of_bursts too_soon
  pub keeps : KeepsBuckets line_of_bursts (releases_of too_soon) (talker_of line_of_bursts 0)
  pub not_spaced :
      ¬ KeepsBucketsBy spacing_rule line_of_bursts (releases_of too_soon) (talker_of line_of_bursts 0)
  pub not_served : ¬ IsServed line_rows (sender_at line_of_bursts 0) (second_of too_soon)
  pub unsound : ¬ IsSoundBy (in_true_time lrq_judge bucket_rule) line_of_bursts line_rows

-- for the network as it is declared the certificate does not hold. Behind its schedulers two frames at once, which are
-- its burst, are legal, and the first of them waits for the other beyond its bound; so the bounds are not sound there
pub record RegulatorCounts : Type 0 where
  pub not_held : ¬ Holds line_of_bursts line_rows
  pub legal : IsIdeal line_of_bursts out_of_order
  pub keeps : KeepsBuckets line_of_bursts (releases_of out_of_order) (talker_of line_of_bursts 0)
  pub not_served : ¬ IsServed line_rows (sender_at line_of_bursts 0) (travel_at out_of_order 0)
  pub unsound : ¬ IsSound line_of_bursts line_rows

-- spacing is asked of streams alone: two frames of a flow at once break nothing
pub record FlowsAreFree : Type 0 where
  pub keeps : KeepsBucketsBy spacing_rule line_and_flow two_of_flow (talker_of line_and_flow 1)
  pub same_station : talker_of line_and_flow 1 ≡ talker_of line_and_flow 0
