use Rattle.std.proofs.Common.{ℕ, ◌+◌, ◌*◌, ◌≤◌, max, List, [], ◌∷◌, All, mul-le-mul_right, arith}
use Rattle.std.specs.Prelude.{Option, Some, None}
use Rattle.std.proofs.lemmas.List.Elements.{All-nil, All-cons}
use Rattle.ats_num.specs.declared.time.TheConstants.{PS_PER_SECOND}
use Rattle.ats_num.specs.declared.rate.TheConstants.{MAX_BURST_BITS}
use Rattle.ats_num.specs.declared.time.Ps.{Ps}
use Rattle.ats_streams.specs.Traffic.{IsRuled}
use Rattle.ats_streams.specs.declared.traffic.Declared.{Declared}
use Rattle.ats_group.specs.Judge.{OnEligible}
use Rattle.ats_group.specs.declared.verdict.Verdict.{Verdict}
use Rattle.ats_group.specs.declared.verdict.Verdict.TheVariants.{Eligible, Late, Size}
use Rattle.ats_network.specs.Senders.{sender_at}
use Rattle.ats_network.proofs.RateLemmas.{scheduled_ruled}
use Rattle.ats_network.proofs.SenderLemmas.{sender_keeps}
use Rattle.ats_trace.specs.Journey.{Leg, Travel, legs_in}
use Rattle.ats_trace.specs.Eligibility.{declared_by, scheduled_by}
use Rattle.ats_trace.specs.HopRecord.{HopRecord}
use Rattle.ats_trace.specs.declared.journey.Ending.{Ending}
use Rattle.ats_trace.specs.declared.journey.Ending.TheVariants.{Sink, Discard}
use Rattle.ats_soundness_law.proofs.Streams.{stream_exists, stream_ruled}
use Rattle.ats_legal_law.specs.Rest.{AreTimesBy, IsRecordBy, IsEndingBy, IsLegBy, IsOverBy, FillsBy}
use Rattle.ats_legal_law.specs.InTurn.{IsOnceOver}

-- Each run is over at some time, and each bucket is full again some time later.

-- the greatest times of a record, of records, of an ending and of a run

abbrev verdict_over : Verdict → ℕ
verdict_over (Eligible e) = e.0
verdict_over (Late e) = 0
verdict_over Size = 0

abbrev times_over : Option (Ps × Ps) → ℕ
times_over (Some times) = times.1.0
times_over None = 0

abbrev ending_over : Ending → ℕ
ending_over (Sink at) = at.0
ending_over Discard = 0

abbrev records_over : List HopRecord → ℕ
records_over [] = 0
records_over (hop ∷ hops) =
    max (max (max hop.arrival.0 (verdict_over hop.verdict)) (times_over hop.sent)) (records_over hops)

abbrev legs_over : List Leg → ℕ
legs_over [] = 0
legs_over (leg ∷ legs) = max (max (records_over leg.hops) (ending_over leg.ending)) (legs_over legs)

abbrev run_over : List Travel → ℕ
run_over [] = 0
run_over (j ∷ run) = max (max j.release.at.0 (legs_over (legs_in j))) (run_over run)

verdict_by : (over : ℕ) (v : Verdict) → verdict_over v ≤ over → OnEligible v (λ e. e ≤ over)
verdict_by over (Eligible e) h = h
verdict_by over (Late e) h = tt
verdict_by over Size h = tt

times_by : (over : ℕ) (sent : Option (Ps × Ps)) → times_over sent ≤ over → AreTimesBy over sent
times_by over (Some times) h = h
times_by over None h = tt

ending_by : (over : ℕ) (ending : Ending) → ending_over ending ≤ over → IsEndingBy over ending
ending_by over (Sink at) h = h
ending_by over Discard h = tt

records_by : (over : ℕ) (hops : List HopRecord) → records_over hops ≤ over → All (IsRecordBy over) hops
records_by over [] h = All-nil (IsRecordBy over)
records_by over (hop ∷ hops) h =
    All-cons (IsRecordBy over) hop hops
    (record {
      arrival = omega arith;
      eligible = verdict_by over hop.verdict (omega arith);
      sent = times_by over hop.sent (omega arith);
    })
    (records_by over hops (omega arith))

legs_by : (over : ℕ) (legs : List Leg) → legs_over legs ≤ over → All (IsLegBy over) legs
legs_by over [] h = All-nil (IsLegBy over)
legs_by over (leg ∷ legs) h =
    All-cons (IsLegBy over) leg legs
    (record {
      hops = records_by over leg.hops (omega arith);
      ending = ending_by over leg.ending (omega arith);
    })
    (legs_by over legs (omega arith))

run_by : (over : ℕ) (run : List Travel) → run_over run ≤ over → All (IsOverBy over) run
run_by over [] h = All-nil (IsOverBy over)
run_by over (j ∷ run) h =
    All-cons (IsOverBy over) j run
    (record {
      released = omega arith;
      hops = records_by over j.hops (omega arith);
      ending = ending_by over j.ending (omega arith);
      copies = legs_by over j.copies (omega arith);
    })
    (run_by over run (omega arith))

-- a rate of one bit per second gives the greatest burst in the time of so many seconds
fills_at_last : (over by : ℕ) (d : Declared) → IsRuled d → over + PS_PER_SECOND * MAX_BURST_BITS ≤ by
    → FillsBy over by d
fills_at_last over by d ruled late =
    let rates : (over + PS_PER_SECOND * MAX_BURST_BITS) * d.rate ≤ by * d.rate = mul-le-mul_right d.rate late in
    omega (arith, rates, ruled.rate.positive, ruled.burst)

pub once_over : IsOnceOver
once_over network run net = (
  run_over run,
  run_over run + PS_PER_SECOND * MAX_BURST_BITS + 1,
  run_by (run_over run) run (omega arith),
  λ by late. record {
    after = omega arith;
    filled = λ i within. fills_at_last (run_over run) by (declared_by network i) (stream_ruled network net i within)
        (omega arith);
    scheduled = λ i port there. fills_at_last (run_over run) by (scheduled_by network port i)
        (scheduled_ruled network.topology (sender_at network i) port
        (sender_keeps network i net (stream_exists network i there.exists)) there.class) (omega arith);
  },
)
