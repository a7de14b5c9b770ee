use Rattle.std.specs.Prelude.{List, [], ◌∷◌}
use Rattle.ats_num.specs.Tie.{late_key}
use Rattle.ats_trace.specs.Journey.{Travel}
use Rattle.ats_trace.specs.Run.{IsIdeal, IsRunBy}
use Rattle.ats_trace.specs.declared.journey.Ending.TheVariants.{Discard}
use Rattle.ats_examples.specs.Networks.{line, line_and_flow, fork}
use Rattle.ats_examples.specs.Runs.{hop, sunk, first_goes_first, second_goes_first}
use Rattle.ats_examples.specs.LegalRuns.{frame_key, least_wait, greatest_wait}

-- Each of these runs is one of the legal examples with one number changed.

-- the frame in front is released 2 ps later, after the one behind it
abbrev pub released_later : List Travel
released_later =
    sunk 2 1 1522 (hop 0 0 0 12336000 ∷ hop 13836000 13836000 13836000 26172000 ∷ []) 26672000
    ∷ sunk 1 0 1522 (hop 1 1 12336000 24672000 ∷ hop 26172000 26172000 26172000 38508000 ∷ []) 39008000
    ∷ []

-- there is no sender 1
abbrev pub of_no_sender : List Travel
of_no_sender = sunk 0 1 1522 (hop 0 0 0 12336000 ∷ hop 13836000 13836000 13836000 26172000 ∷ []) 26672000 ∷ []

-- 63 octets make no frame
abbrev pub of_63_octets : List Travel
of_63_octets = sunk 0 0 63 (hop 0 0 0 12336000 ∷ hop 13836000 13836000 13836000 26172000 ∷ []) 26672000 ∷ []

-- the listener's arrival is not the end of the last transmission and the port's latency
abbrev pub sunk_late : List Travel
sunk_late = sunk 0 0 1522 (hop 0 0 0 12336000 ∷ hop 13836000 13836000 13836000 26172000 ∷ []) 26672001 ∷ []

-- and does not come there
abbrev pub not_received : List Travel
not_received =
    record {
      release = record { at = record { 0 = 0 }; sender = 0; octets = 1522 };
      hops = hop 0 0 0 12336000 ∷ hop 13836000 13836000 13836000 26172000 ∷ [];
      ending = Discard;
      copies = [];
    }
    ∷ []

-- the frame comes to its station's port 1 ps after its release
abbrev pub comes_late : List Travel
comes_late = sunk 0 0 1522 (hop 1 0 0 12336000 ∷ hop 13836000 13836000 13836000 26172000 ∷ []) 26672000 ∷ []

-- the station's own frame is eligible 1 ps after its release
abbrev pub held_at_station : List Travel
held_at_station =
    sunk 0 1 1522 (hop 0 0 0 12336000 ∷ hop 13836000 13836000 13836000 26172000 ∷ []) 26672000
    ∷ sunk 1 0 1522 (hop 1 2 12336000 24672000 ∷ hop 26172000 26172000 26172000 38508000 ∷ []) 39008000
    ∷ []

-- the bridge starts the frame before it is eligible
abbrev pub started_early : List Travel
started_early = sunk 0 0 1522 (hop 0 0 0 12336000 ∷ hop 13836000 13836000 13835999 26172000 ∷ []) 26672000 ∷ []

-- one octet less, and as long on the wire
abbrev pub sent_slowly : List Travel
sent_slowly = sunk 0 0 1521 (hop 0 0 0 12336000 ∷ hop 13836000 13836000 13836000 26172000 ∷ []) 26672000 ∷ []

-- the station starts the frame behind while it sends the one in front
abbrev pub overlapped : List Travel
overlapped =
    sunk 0 1 1522 (hop 0 0 0 12336000 ∷ hop 13836000 13836000 13836000 26172000 ∷ []) 26672000
    ∷ sunk 1 0 1522 (hop 1 1 12335999 24672000 ∷ hop 26172000 26172000 26172000 38508000 ∷ []) 39008000
    ∷ []

-- the frame of the higher class was eligible when the station started the other
abbrev pub passed_over : List Travel
passed_over =
    sunk 0 1 1522 (hop 0 0 0 12336000 ∷ hop 13836000 13836000 13836000 26172000 ∷ []) 26672000
    ∷ sunk 1 0 1522 (hop 1 0 12336000 24672000 ∷ hop 26172000 26172000 26172000 38508000 ∷ []) 39008000
    ∷ []

-- the bridge is idle for 1 ps while the frame is eligible
abbrev pub started_late : List Travel
started_late = sunk 0 0 1522 (hop 0 0 0 12336000 ∷ hop 13836000 13836000 13836001 26172000 ∷ []) 26672000 ∷ []

-- the stream's frame is eligible at the bridge 1 ps before its group allows it
abbrev pub eligible_early : List Travel
eligible_early =
    sunk 0 1 1522 (hop 0 0 0 12336000 ∷ hop 13836000 13836000 13836000 26172000 ∷ []) 26672000
    ∷ sunk 1 0 1522 (hop 1 1 12336000 24672000 ∷ hop 26172000 26171999 26172000 38508000 ∷ []) 39008000
    ∷ []

-- the flow's frame is eligible at the bridge 1 ps before it arrives there
abbrev pub flow_eligible_early : List Travel
flow_eligible_early =
    sunk 0 1 1522 (hop 0 0 0 12336000 ∷ hop 13836000 13835999 13836000 26172000 ∷ []) 26672000
    ∷ sunk 1 0 1522 (hop 1 1 12336000 24672000 ∷ hop 26172000 26172000 26172000 38508000 ∷ []) 39008000
    ∷ []

-- none of them is legal. Each field has the name of a field of a legal run, a journey or the port rule that the run
-- breaks, some of them beside others, and `came` that of what a release says besides: that the sender exists follows
-- from the way and the release, so a run without its sender breaks those too. And neither order of the two frames that
-- become eligible together is that of the other key
pub record ChangedExamplesAreNot : Type 0 where
  pub in_order : ¬ IsIdeal line_and_flow released_later
  pub sender : ¬ IsIdeal line of_no_sender
  pub octets : ¬ IsIdeal line of_63_octets
  pub way : ¬ IsIdeal line not_received
  pub links : ¬ IsIdeal line sunk_late
  pub came : ¬ IsIdeal line comes_late
  pub released : ¬ IsIdeal line_and_flow held_at_station
  pub waits : ¬ IsIdeal line started_early
  pub takes : ¬ IsIdeal line sent_slowly
  pub apart : ¬ IsIdeal line_and_flow overlapped
  pub chosen : ¬ IsIdeal line_and_flow passed_over
  pub prompt : ¬ IsIdeal line started_late
  pub groups : ¬ IsIdeal line_and_flow eligible_early
  pub flows : ¬ IsIdeal line_and_flow flow_eligible_early
  pub tie_by_frame : ¬ IsRunBy late_key greatest_wait fork first_goes_first
  pub tie_by_sender : ¬ IsRunBy frame_key least_wait fork second_goes_first
