use Rattle.std.specs.Prelude.{◌≡◌, ℕ, ◌+◌, suc, List, [], ◌∷◌, ◌++◌, length, map, codes, decimal, Option, Some, None}
use Rattle.std.specs.Prelude.{◌-◌, ◌==◌, count_by, if◌then◌else◌, nat_lt, slice_get, slice_index, slice_index_or, zip}
use Rattle.std.specs.List.{enumerate_from, flat_map, range_with_len}
use Rattle.ats_num.specs.declared.time.Ps.{Ps}
use Rattle.ats_topology.specs.Topology.{DeclaredTopology}
use Rattle.ats_port_names.specs.PortName.{port_name}
use Rattle.ats_streams.specs.Branches.{leg_at, legs_of}
use Rattle.ats_network.specs.Listeners.{listener_text, station_of}
use Rattle.ats_network.specs.Network.{DeclaredNetwork, senders_of}
use Rattle.ats_network.specs.Sender.{Sender}
use Rattle.ats_network.specs.Senders.{sender_at}
use Rattle.ats_group.specs.declared.verdict.Verdict.{Verdict}
use Rattle.ats_group.specs.declared.verdict.Verdict.TheVariants.{Eligible, Late, Size}
use Rattle.ats_trace.specs.HopRecord.{HopRecord}
use Rattle.ats_trace.specs.Journey.{Leg, Travel, trunk_at}
use Rattle.ats_trace.specs.Stored.{leg_in}
use Rattle.ats_trace.specs.Ways.{listener_count, route_to}
use Rattle.ats_trace.specs.declared.journey.Ending.TheVariants.{Discard, Sink}
use Rattle.ats_trace.specs.declared.journey.Release.{Release}
use Rattle.ats_replay.specs.Departures as run
use Rattle.ats_replay.specs.Report as report
use Rattle.ats_replay.specs.Summary.{place_of, summary_for}
use Rattle.ats_replay.specs.Totals.{counts_text, totals_line, totals_of}
use Rattle.ats_replay.specs.declared.summary.Summary.{Summary}
use Rattle.ats_replay.specs.declared.totals.Totals.{Totals}
use Rattle.ats_csv.specs.Plain.{text_of}
use Rattle.ats_schedule.specs.Text.{schedule_text}
use Rattle.ats_witness.specs.Found.{FoundDelays}
use Rattle.ats_witness_text.specs.Text as witness
use Rattle.ats_fit.specs.Over.{senders_over}
use Rattle.ats_fit.specs.declared.measured.Measured.{Measured}
use Rattle.ats_fit.specs.declared.measured.Sizes.{Sizes}
use Rattle.ats_fit_text.specs.Text as fit
use Rattle.ats_requests.specs.Requests.{after_all, answers}
use Rattle.ats_requests.specs.declared.answer.Answer.{Answer}
use Rattle.ats_requests.specs.declared.answer.Answer.TheVariants.{Refused}
use Rattle.ats_requests.specs.declared.denied.Denied.{Denied}
use Rattle.ats_requests.specs.declared.denied.Denied.TheVariants as denied
use Rattle.ats_requests.specs.declared.request.Request.{Request}
use Rattle.ats_requests.specs.declared.request.Request.TheVariants.{Admit, Lowest, Withdraw}
use Rattle.ats_streams.specs.Stream.{DeclaredStream}
use Rattle.ats_admission_text.specs.Text as admission
use Rattle.ats_shape.specs.Shape.{DeclaredShape}
use Rattle.ats_shape.specs.Text as shape
use Rattle.ats_shape.specs.Verdicts.{no_stream, verdicts_on}
use Rattle.ats_shape.specs.declared.shape.ShapeFrame.{ShapeFrame}
use Rattle.ats_shape.specs.declared.shape.ShapeStream.{ShapeStream}
use Rattle.ats_capture.specs.Counts as capture
use Rattle.ats_capture.specs.Traffic.{Traffic}
use Rattle.ats_conform.specs.declared.broken.Broken.TheVariants as broken
use Rattle.ats_command_due.specs.Conformed.{broken_text, conforms_text}

-- The lines that are printed of runs, requests and shapes, written out for all names, numbers and ports.

-- what `replay` prints of frames, hops, ends and copies
pub record DepartedLines : Type 0 where
  pub frame : (network : DeclaredNetwork) (n : ℕ) (r : Release) → run.frame_line network n r
      ≡ codes "frame " ++ decimal n ++ codes " " ++ (sender_at network r.sender).name ++ codes " " ++ decimal r.octets
      ++ codes " " ++ decimal r.at.0 ++ codes "\n"
  pub hop : (topology : DeclaredTopology) (port : ℕ) (h : HopRecord) → run.hop_line topology (port, h)
      ≡ codes "hop " ++ port_name topology port ++ codes " " ++ decimal h.arrival.0 ++ run.verdict_text h.verdict
      ++ run.sent_text h.sent ++ codes "\n"
  pub eligible : (e : Ps) → run.verdict_text (Eligible e) ≡ codes " eligible " ++ decimal e.0
  pub late : (e : Ps) → run.verdict_text (Late e) ≡ codes " late " ++ decimal e.0
  pub size : run.verdict_text Size ≡ codes " size"
  pub not_sent : run.sent_text None ≡ []
  pub sent : (start end : Ps) → run.sent_text (Some (start, end))
      ≡ codes " start " ++ decimal start.0 ++ codes " end " ++ decimal end.0
  pub sink : (at : Ps) → run.ending_line (Sink at) ≡ codes "sink " ++ decimal at.0 ++ codes "\n"
  pub discard : run.ending_line Discard ≡ codes "discard\n"
  pub leg : (topology : DeclaredTopology) (path : List ℕ) (leg : Leg) → run.leg_lines topology path leg
      ≡ flat_map (run.hop_line topology) (zip path leg.hops) ++ run.ending_line leg.ending
  pub copy : (topology : DeclaredTopology) (s : Sender) (n : ℕ) (leg : Leg) → run.copy_text topology s (n, leg)
      ≡ (codes "listener " ++ station_of topology (route_to s n) ++ codes "\n")
      ++ run.leg_lines topology (leg_at (legs_of s.ports s.branches) n) leg
  pub journey : (network : DeclaredNetwork) (n : ℕ) (j : Travel) → run.journey_text network (n, j)
      ≡ run.frame_line network n j.release
      ++ run.leg_lines network.topology (trunk_at network j.release.sender) (leg_in j 0)
      ++ flat_map (run.copy_text network.topology (sender_at network j.release.sender)) (enumerate_from 1 j.copies)
  pub run : (network : DeclaredNetwork) (journeys : List Travel) → run.departures_text network journeys
      ≡ flat_map (run.journey_text network) (enumerate_from 0 journeys) ++ totals_line (totals_of network journeys)

-- what `generate` prints of senders and their listeners, and the totals
pub record ReportedLines : Type 0 where
  pub counts : (t : Totals) → counts_text t
      ≡ codes "frames " ++ decimal t.frames ++ codes " sunk " ++ decimal t.sunk ++ codes " late " ++ decimal t.late
      ++ codes " size " ++ decimal t.size
  pub totals : (t : Totals) → totals_line t ≡ codes "total " ++ counts_text t ++ codes "\n"
  pub first : (network : DeclaredNetwork) (sender : ℕ) → report.title_text network sender 0
      ≡ (if nat_lt sender (length network.streams) then codes "stream " else codes "flow ")
      ++ (sender_at network sender).name
  pub further : (network : DeclaredNetwork) (sender n : ℕ) → report.title_text network sender (suc n)
      ≡ codes "listener " ++ (sender_at network sender).name ++ codes " "
      ++ station_of network.topology (route_to (sender_at network sender) (suc n))
  pub summary : (s : Summary) (bound : Option ℕ) → report.summary_text s bound
      ≡ codes " " ++ counts_text s.totals ++ codes " worst " ++ decimal s.worst.0 ++ codes " bound "
      ++ report.bound_text bound ++ codes "\n"
  pub no_bound : report.bound_text None ≡ codes "-"
  pub bound : (bound : ℕ) → report.bound_text (Some bound) ≡ decimal bound
  pub no_sums : (network : DeclaredNetwork) (sender listener : ℕ) → report.bound_of network None sender listener ≡ None
  pub sums : (network : DeclaredNetwork) (sums : List ℕ) (sender listener : ℕ)
      → report.bound_of network (Some sums) sender listener
      ≡ (if nat_lt sender (length network.streams) then slice_get sums (place_of network sender listener) else None)
  pub report : (network : DeclaredNetwork) (journeys : List Travel) (sums : Option (List ℕ))
      → report.report_text network journeys sums
      ≡ flat_map (λ sender. flat_map (λ listener. report.title_text network sender listener
      ++ report.summary_text (summary_for network journeys sender listener)
      (report.bound_of network sums sender listener))
      (range_with_len 0 (listener_count (sender_at network sender))))
      (range_with_len 0 (length (senders_of network)))
      ++ totals_line (totals_of network journeys)

-- what `witness` prints of hops and releases, `fit` of senders, `releases` as a schedule, `conform` of one, and
-- `capture` of its records
pub record MeasuredLines : Type 0 where
  pub delay : (topology : DeclaredTopology) (port delay : ℕ) → witness.hop_line topology (port, delay)
      ≡ codes "hop " ++ port_name topology port ++ codes " " ++ decimal delay ++ codes "\n"
  pub release : (network : DeclaredNetwork) (r : Release) → witness.release_line network r
      ≡ codes "release " ++ decimal r.at.0 ++ codes " " ++ (sender_at network r.sender).name ++ codes " "
      ++ decimal r.octets ++ codes "\n"
  pub sender : (s : Sender) (m : Measured) → fit.sender_line (s, m)
      ≡ fit.kind_text m.burst_bits ++ s.name ++ codes " frames " ++ decimal m.frames ++ codes " octets "
      ++ fit.sizes_text m.sizes ++ fit.burst_text s.burst_bits m.burst_bits ++ codes "\n"
  pub flow : fit.kind_text None ≡ codes "flow "
  pub stream : (burst : ℕ) → fit.kind_text (Some burst) ≡ codes "stream "
  pub no_sizes : fit.sizes_text None ≡ codes "- -"
  pub sizes : (s : Sizes) → fit.sizes_text (Some s) ≡ decimal s.least ++ codes " " ++ decimal s.greatest
  pub no_burst : (declared : ℕ) → fit.burst_text declared None ≡ []
  pub burst : (declared burst : ℕ) → fit.burst_text declared (Some burst)
      ≡ codes " burst " ++ decimal burst ++ codes " of " ++ decimal declared
  pub fit : (network : DeclaredNetwork) (releases : List Release) (measured : List Measured)
      → fit.fit_text network releases measured
      ≡ flat_map fit.sender_line (zip (senders_of network) measured)
      ++ (codes "total frames " ++ decimal (length releases) ++ codes " streams " ++ decimal (length network.streams)
      ++ codes " over " ++ decimal (senders_over network measured) ++ codes "\n")
  pub schedule : (network : DeclaredNetwork) (releases : List Release) → schedule_text network releases
      ≡ text_of ((codes "at_ps" ∷ codes "sender" ∷ codes "octets" ∷ [])
      ∷ map (λ (r : Release). decimal r.at.0 ∷ (sender_at network r.sender).name ∷ decimal r.octets ∷ []) releases)
  pub conforms : (count : ℕ) → conforms_text count ≡ codes "conforms " ++ decimal count ++ codes "\n"
  pub size : (frame : ℕ) → broken_text (broken.Size frame) ≡ codes "size " ++ decimal frame
  pub bucket : (since frame : ℕ) → broken_text (broken.Bucket since frame)
      ≡ codes "bucket " ++ decimal since ++ codes " " ++ decimal frame
  pub records : (t : Traffic) → capture.counts_text t
      ≡ codes "records " ++ decimal t.records ++ codes " unidentified " ++ decimal t.unidentified
      ++ codes " oversize " ++ decimal t.oversize ++ codes "\n"

-- what `admit` prints of an answer, about the stream that is asked for
pub record AnsweredLines : Type 0 where
  pub admit : (stream : DeclaredStream) → admission.name_asked (Admit stream) ≡ stream.name
  pub lowest : (stream : DeclaredStream) → admission.name_asked (Lowest stream) ≡ stream.name
  pub withdraw : (name : List ℕ) → admission.name_asked (Withdraw name) ≡ name
  pub refused : (topology : DeclaredTopology) (name : List ℕ) (why : Denied)
      → admission.answer_text topology name (Refused why)
      ≡ codes "denied " ++ name ++ admission.denied_text topology why
  pub taken : (topology : DeclaredTopology) → admission.denied_text topology denied.NameTaken ≡ codes " name-taken\n"
  pub unknown : (topology : DeclaredTopology)
      → admission.denied_text topology denied.NameUnknown ≡ codes " name-unknown\n"
  pub limit : (topology : DeclaredTopology) → admission.denied_text topology denied.Limit ≡ codes " limit\n"
  pub all : (topology : DeclaredTopology) (asked : List Request) (given : List Answer)
      → admission.lines_of topology asked given
      ≡ flat_map (λ (one : Request × Answer). admission.answer_text topology (admission.name_asked one.0) one.1)
      (zip asked given)

-- what `shape` prints of a frame and its verdict
pub record ShapedLines : Type 0 where
  pub frame : (n : ℕ) (name : List ℕ) (f : ShapeFrame) (v : Verdict) → shape.frame_text n name f v
      ≡ codes "frame " ++ decimal n ++ codes " " ++ name ++ codes " " ++ decimal f.octets ++ codes " "
      ++ decimal f.at.0 ++ codes " " ++ shape.verdict_text v ++ codes "\n"
  pub eligible : (e : Ps) → shape.verdict_text (Eligible e) ≡ codes "eligible " ++ decimal e.0
  pub late : (e : Ps) → shape.verdict_text (Late e) ≡ codes "late " ++ decimal e.0
  pub size : shape.verdict_text Size ≡ codes "size"
  pub no_frames : (streams : List ShapeStream) (n : ℕ) (vs : List Verdict) → shape.frames_text streams n [] vs ≡ []
  pub frames : (streams : List ShapeStream) (n : ℕ) (f : ShapeFrame) (fs : List ShapeFrame) (v : Verdict)
      (vs : List Verdict) → shape.frames_text streams n (f ∷ fs) (v ∷ vs)
      ≡ shape.frame_text n (slice_index_or streams f.stream no_stream).name f v
      ++ shape.frames_text streams (n + 1) fs vs
  pub report : (s : DeclaredShape) (vs : List Verdict) → shape.report_on s vs
      ≡ shape.frames_text s.streams 0 s.frames vs ++ shape.totals_text vs
  pub text : (s : DeclaredShape) → shape.text_of s ≡ shape.report_on s (verdicts_on s)

-- what `witness` prints of a stream, listener by listener, and the last lines of `admit` and `shape`
pub record FoundLines : Type 0 where
  pub station : (network : DeclaredNetwork) (stream listener : ℕ) → witness.station_at network stream listener
      ≡ (if listener == 0 then None
      else Some (station_of network.topology (route_to (sender_at network stream) listener)))
  pub no_title : (name : List ℕ) → witness.title_line name None ≡ []
  pub title : (name station : List ℕ) → witness.title_line name (Some station)
      ≡ codes "listener " ++ (name ++ codes " " ++ station) ++ codes "\n"
  pub gap : (name : List ℕ) (station : Option (List ℕ)) (delay bound : ℕ)
      → witness.witness_line name station delay bound
      ≡ codes "witness " ++ listener_text name station ++ codes " delay " ++ decimal delay ++ codes " bound "
      ++ decimal bound ++ codes " gap " ++ decimal (bound - delay) ++ codes "\n"
  pub found : (network : DeclaredNetwork) (stream listener bound : ℕ) (found : FoundDelays)
      → witness.found_text network stream listener found bound
      ≡ witness.title_line (sender_at network stream).name (witness.station_at network stream listener)
      ++ flat_map (witness.hop_line network.topology)
      (zip (route_to (sender_at network stream) listener) found.delays)
      ++ flat_map (witness.release_line network) found.releases
      ++ witness.witness_line (sender_at network stream).name (witness.station_at network stream listener)
      (slice_index found.delays found.hop) bound
  pub each : (network : DeclaredNetwork) (stream : ℕ) (founds : List FoundDelays) (bound : ℕ → ℕ)
      → witness.witness_text network stream founds bound
      ≡ flat_map (λ (f : ℕ × FoundDelays). witness.found_text network stream f.0 f.1 (bound f.0))
      (enumerate_from 0 founds)
  pub admission : (network : DeclaredNetwork) (asked : List Request)
      → admission.admission_text network asked
      ≡ admission.lines_of network.topology asked (answers network asked) ++ codes "streams "
      ++ decimal (length (after_all network asked).streams) ++ codes "\n"
  pub shapes : (verdicts : List Verdict) → shape.totals_text verdicts
      ≡ codes "total frames " ++ decimal (length verdicts) ++ codes " eligible "
      ++ decimal (count_by shape.is_eligible verdicts) ++ codes " late " ++ decimal (count_by shape.is_late verdicts)
      ++ codes " size " ++ decimal (count_by shape.is_size verdicts) ++ codes "\n"

pub record RunLinesAreTold : Type 0 where
  pub departed : DepartedLines
  pub reported : ReportedLines
  pub measured : MeasuredLines
  pub answered : AnsweredLines
  pub shaped : ShapedLines
  pub found : FoundLines
