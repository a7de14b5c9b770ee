use Rattle.std.proofs.Common.{ℕ, zero, suc, ◌<◌, ◌≤◌, [], ◌∷◌, length, All, None, arith, lit<}
use Rattle.std.proofs.Common.{◌≡◌, ◌∙◌, Bool, ap, cond, lit≤, refl, sym}
use Rattle.std.specs.Prelude.{◌==◌}
use Rattle.std.proofs.lemmas.Bool.{false≢true, ne_eqb}
use Rattle.std.proofs.lemmas.List.Elements.{All-nil, All-cons}
use Rattle.ats_group.specs.declared.verdict.Verdict.TheVariants.{Late}
use Rattle.ats_trace.specs.Eligibility.{declared_by, scheduled_by}
use Rattle.ats_topology.specs.Topology.{HasIdealClocks}
use Rattle.ats_network.specs.Class.{class_at}
use Rattle.ats_network.specs.Senders.{sender_at}
use Rattle.ats_trace.specs.Journey.{Travel}
use Rattle.ats_trace.specs.Stored.{no_travel}
use Rattle.ats_trace.specs.declared.journey.Ending.TheVariants.{Discard}
use Rattle.ats_trace.specs.HopRecord.{HopRecord}
use Rattle.ats_examples.specs.Networks.{below, fork, line, line_and_flow}
use Rattle.ats_examples.specs.Runs.{hop, one_frame, sunk}
use Rattle.ats_legal_law.proofs.IdealRest.{ideal_rests, line_clocks}
use Rattle.ats_legal_law.specs.Rest.{FillsBy, IsLegBy, IsOverBy, IsRecordBy, IsScheduledBehind}
use Rattle.ats_legal_law.specs.Rest.{RestsUntil}
use Rattle.ats_steady_law.specs.Resting.{EachSchedulerRests, EachStreamRests, RestsAreExact}
use Rattle.ats_steady_law.specs.Resting.{flow_alone, stepping_line}

-- When a run is over and a network has rested, to the picosecond.

-- the frames of the runs
abbrev arrived : Travel
arrived = sunk 0 0 1522 (hop 0 0 0 12336000 ∷ hop 13836000 13836000 13836000 26172000 ∷ []) 26672000

abbrev discarded : Travel
discarded = record {
  release = record { at = record { 0 = 0 }; sender = 0; octets = 1522 };
  hops = hop 0 0 12336000 24672000
      ∷ record { arrival = record { 0 = 26172000 }; verdict = Late (record { 0 = 137196000 }); sent = None } ∷ [];
  ending = Discard;
  copies = [];
}

line_rests : RestsUntil line 26672000 150032000
line_rests = ideal_rests line 26672000 150032000 line_clocks (lit< tt) filled
  where
    filled : (i : ℕ) → i < length line.streams → FillsBy 26672000 150032000 (declared_by line i)
    filled zero within = lit≤ tt
    filled (suc i) within = absurd (omega arith)

not_earlier : ¬ RestsUntil line 26672000 150031999
not_earlier rests =
    let full : 15003200000000000 ≤ 15003199900000000 = rests.filled 0 (lit< tt) in
    absurd (omega arith)

-- a record that is over by then, and a frame that arrives
sent_over : (a e s t : ℕ) → a ≤ 26672000 → e ≤ 26672000 → t ≤ 26672000 → IsRecordBy 26672000 (hop a e s t)
sent_over a e s t arrival eligible sent = record { arrival = arrival; eligible = eligible; sent = sent }

first_over : IsOverBy 26672000 arrived
first_over = record {
  released = lit≤ tt;
  hops = All-cons (IsRecordBy 26672000) (hop 0 0 0 12336000) (hop 13836000 13836000 13836000 26172000 ∷ [])
      (sent_over 0 0 0 12336000 (lit≤ tt) (lit≤ tt) (lit≤ tt))
      (All-cons (IsRecordBy 26672000) (hop 13836000 13836000 13836000 26172000) []
      (sent_over 13836000 13836000 13836000 26172000 (lit≤ tt) (lit≤ tt) (lit≤ tt)) (All-nil (IsRecordBy 26672000)));
  ending = lit≤ tt;
  copies = All-nil (IsLegBy 26672000);
}

-- the verdict of the second frame tells a later time
abbrev late_record : HopRecord
late_record = record { arrival = record { 0 = 26172000 }; verdict = Late (record { 0 = 137196000 }); sent = None }

second_over : IsOverBy 26672000 discarded
second_over = record {
  released = lit≤ tt;
  hops = All-cons (IsRecordBy 26672000) (hop 0 0 12336000 24672000) (late_record ∷ [])
      (sent_over 0 0 12336000 24672000 (lit≤ tt) (lit≤ tt) (lit≤ tt))
      (All-cons (IsRecordBy 26672000) late_record []
      (record { arrival = lit≤ tt; eligible = tt; sent = tt }) (All-nil (IsRecordBy 26672000)));
  ending = tt;
  copies = All-nil (IsLegBy 26672000);
}

not_before : ¬ All (IsOverBy 26671999) one_frame
not_before over =
    let arrives : 26672000 ≤ 26671999 = (over 0 no_travel (lit< tt)).ending in
    absurd (omega arith)

pub rests_are_exact : RestsAreExact
rests_are_exact = record {
  rests = line_rests;
  not_earlier = not_earlier;
  over = All-cons (IsOverBy 26672000) arrived [] first_over (All-nil (IsOverBy 26672000));
  not_before = not_before;
  over_late = All-cons (IsOverBy 26672000) arrived (discarded ∷ []) first_over
      (All-cons (IsOverBy 26672000) discarded [] second_over (All-nil (IsOverBy 26672000)));
}

fork_clocks : HasIdealClocks fork.topology
fork_clocks zero d within = refl
fork_clocks (suc zero) d within = refl
fork_clocks (suc (suc zero)) d within = refl
fork_clocks (suc (suc (suc zero))) d within = refl
fork_clocks (suc (suc (suc (suc k)))) d within = absurd (omega arith)

fork_rests : RestsUntil fork 39008000 162368000
fork_rests = ideal_rests fork 39008000 162368000 fork_clocks (lit< tt) filled
  where
    filled : (i : ℕ) → i < length fork.streams → FillsBy 39008000 162368000 (declared_by fork i)
    filled zero within = lit≤ tt
    filled (suc zero) within = lit≤ tt
    filled (suc (suc i)) within = absurd (omega arith)

fork_not_earlier : ¬ RestsUntil fork 39008000 162367999
fork_not_earlier rests =
    let full : 16236800000000000 ≤ 16236799900000000 = rests.filled 0 (lit< tt) in
    absurd (omega arith)

below_rests : RestsUntil below 0 24672000
below_rests = ideal_rests below 0 24672000 line_clocks (lit< tt) filled
  where
    filled : (i : ℕ) → i < length below.streams → FillsBy 0 24672000 (declared_by below i)
    filled zero within = lit≤ tt
    filled (suc zero) within = lit≤ tt
    filled (suc (suc i)) within = absurd (omega arith)

below_not_earlier : ¬ RestsUntil below 0 24671999
below_not_earlier rests =
    let full : 12336000000000000 ≤ 12335999500000000 = rests.filled 1 (lit< tt) in
    absurd (omega arith)

beside_flow_rests : RestsUntil line_and_flow 26672000 150032000
beside_flow_rests = ideal_rests line_and_flow 26672000 150032000 line_clocks (lit< tt) filled
  where
    filled : (i : ℕ) → i < length line_and_flow.streams → FillsBy 26672000 150032000 (declared_by line_and_flow i)
    filled zero within = lit≤ tt
    filled (suc i) within = absurd (omega arith)

pub each_stream_rests : EachStreamRests
each_stream_rests = record {
  of_two = fork_rests;
  of_two_not_earlier = fork_not_earlier;
  of_slower_last = below_rests;
  last_not_earlier = below_not_earlier;
  beside_flow = beside_flow_rests;
  of_none = ideal_rests flow_alone 5 6 line_clocks (lit< tt) (λ i within. absurd (omega (arith, within)));
  none_not_at_once = λ rests. (let later : 5 < 5 = rests.after in absurd (omega arith));
}

-- past port 2 the stream has no class
no_class : (port : ℕ) → class_at (sender_at stepping_line 0) (suc (suc (suc port))) ≡ 0
no_class port =
    let past : ℕ = suc (suc (suc port)) in
    ap (λ (first : Bool). cond first 6 (cond (2 == past) 6 0)) (ne_eqb 0 past (λ same. absurd (omega arith)))
    ∙ ap (λ (last : Bool). cond last 6 0) (ne_eqb 2 past (λ same. absurd (omega arith)))

stepping_rests : RestsUntil stepping_line 0 133360000
stepping_rests = record { after = lit< tt; filled = filled; scheduled = scheduled }
  where
    filled : (i : ℕ) → i < length stepping_line.streams → FillsBy 0 133360000 (declared_by stepping_line i)
    filled zero within = lit≤ tt
    filled (suc i) within = absurd (omega arith)

    scheduled : (i port : ℕ) → IsScheduledBehind stepping_line i port
        → FillsBy 0 133360000 (scheduled_by stepping_line port i)
    scheduled zero zero there = lit≤ tt
    scheduled zero (suc zero) there = let none : 1 ≤ 0 = there.class in absurd (omega arith)
    scheduled zero (suc (suc zero)) there = absurd (false≢true (sym there.bridge.bridge))
    scheduled zero (suc (suc (suc port))) there = absurd (omega (arith, there.class, no_class port))
    scheduled (suc i) port there = let exists : suc i < 1 = there.exists in absurd (omega (arith, exists))

stepping_not_earlier : ¬ RestsUntil stepping_line 0 133359999
stepping_not_earlier rests =
    let full : 13336000000000000 ≤ 13335999900000000 =
    rests.scheduled 0 0
    (record { exists = lit< tt; class = lit≤ tt; bridge = record { within = lit< tt; bridge = refl } }) in
    absurd (omega arith)

pub each_scheduler_rests : EachSchedulerRests
each_scheduler_rests = record { burst = refl; rests = stepping_rests; not_earlier = stepping_not_earlier }
