use Rattle.std.specs.Prelude.{◌≡◌, ◌↔◌, ℕ, Bool, true, false, List, [], ◌∷◌, map, IsPermutation, None}
use Rattle.std.specs.List.{AllZip}
use Rattle.std.specs.List.Sorted.{IsNonDecreasing}
use Rattle.ats_num.specs.declared.time.Ps.{Ps}
use Rattle.ats_streams.specs.Traffic.{is_declared_size}
use Rattle.ats_network.specs.Network.{DeclaredNetwork}
use Rattle.ats_group.specs.Group.{Offer}
use Rattle.ats_group.specs.Judge.{Judge, ats_judge}
use Rattle.ats_group.specs.declared.verdict.Verdict.{Verdict}
use Rattle.ats_group.specs.declared.verdict.Verdict.TheVariants.{Eligible, Late, Size}
use Rattle.ats_clock_law.specs.TrueTime.{AreTrueVerdicts, IsTrueEligibility, IsTrueVerdict, stamped_offers}
use Rattle.ats_trace.specs.Clocks.{IsJudgedBy, WasTold}
use Rattle.ats_trace.specs.Eligibility.{IsJudged, IsPassed, declared_by, offer_of, residence_of_groups, scheduled_by}
use Rattle.ats_trace.specs.HopRecord.{HopRecord}
use Rattle.ats_trace.specs.Journey.{IsReleased, Travel}
use Rattle.ats_trace.specs.Parts.{flows, groups, released}
use Rattle.ats_trace.specs.Projections.{Handed}
use Rattle.ats_trace.specs.Run.{IsIdeal}
use Rattle.ats_trace.specs.declared.journey.Ending.TheVariants.{Discard}
use Rattle.ats_trace.specs.declared.journey.Release.{Release}
use Rattle.ats_examples.specs.BrokenRuns.{ended, too_long}
use Rattle.ats_examples.specs.Deviations.{BreaksAlone}
use Rattle.ats_examples.specs.Networks.{fork, line, line_and_flow}
use Rattle.ats_examples.specs.Runs.{hop, sunk}
use Rattle.ats_order_examples.specs.FlowBreaks.{sent_of}
use Rattle.ats_order_examples.specs.Discards.{discarded}

-- What is told of frames that come to a bridge: to eligible ones and to those that it discards.

-- the arrival of a frame, and what is told of it
abbrev pub arrival_of : Handed → ℕ
arrival_of h = h.crossing.arrival

abbrev pub verdict_of : Handed → Verdict
verdict_of h = h.verdict

-- a frame has a size that its sender declares
abbrev pub is_declared : DeclaredNetwork → Handed → Bool
is_declared network h = is_declared_size (declared_by network h.crossing.sent.sender) h.crossing.octets

-- frames that come to any group, in the order of their arrivals, are told what the judge says of each, the late and the
-- discarded ones too; of a flow the frames with a declared size are eligible at their arrivals, and no others. A node's
-- own frame, of a stream or a flow, comes to it and is eligible at its release
pub record VerdictsAreJudged : Type 0 where
  pub of_group : (judge : Judge) (network : DeclaredNetwork) (port : ℕ) (handed : List Handed)
      → IsJudged judge network port handed
      ↔ ((arrivals : List Handed) × IsPermutation handed arrivals × IsNonDecreasing (map arrival_of arrivals)
      × (map verdict_of arrivals
      ≡ judge (scheduled_by network port) (residence_of_groups network port) (map offer_of arrivals)))
  pub of_flow : (network : DeclaredNetwork) (h : Handed) → IsPassed network h
      ↔ ((is_declared network h ≡ true → h.verdict ≡ Eligible (record { 0 = h.crossing.arrival }))
      × (is_declared network h ≡ false → h.verdict ≡ Size))
  pub own : (release : Release) (first : HopRecord) (hops : List HopRecord) → IsReleased release (first ∷ hops)
      ↔ ((first.arrival ≡ release.at) × (first.verdict ≡ Eligible release.at))
  pub own_is_told : (release : Release) → ¬ IsReleased release []

-- and by any clock, where each of the judge's verdicts stays one of its kind, with the true time of its own
pub record VerdictsAreJudgedByClocks : Type 0 where
  pub of_group : (shows told : ℕ → ℕ) (network : DeclaredNetwork) (port : ℕ) (handed : List Handed)
      → IsJudgedBy shows told network port handed
      ↔ ((arrivals : List Handed) × IsPermutation handed arrivals × IsNonDecreasing (map arrival_of arrivals)
      × AreTrueVerdicts shows ats_judge (scheduled_by network port) (residence_of_groups network port)
      (map offer_of arrivals) (map verdict_of arrivals)
      × AllZip (WasTold told) arrivals (ats_judge (scheduled_by network port) (residence_of_groups network port)
      (stamped_offers shows (map offer_of arrivals))))
  pub eligible : (shows : ℕ → ℕ) (offer : Offer) (told : Ps) (verdict : Verdict)
      → IsTrueVerdict shows offer (Eligible told) verdict
      ↔ ((e : Ps) × (verdict ≡ Eligible e) × IsTrueEligibility shows offer.arrival told.0 e.0)
  pub late : (shows : ℕ → ℕ) (offer : Offer) (told : Ps) (verdict : Verdict)
      → IsTrueVerdict shows offer (Late told) verdict
      ↔ ((e : Ps) × (verdict ≡ Late e) × IsTrueEligibility shows offer.arrival told.0 e.0)
  pub size : (shows : ℕ → ℕ) (offer : Offer) (verdict : Verdict)
      → IsTrueVerdict shows offer Size verdict ↔ (verdict ≡ Size)

pub record VerdictsAreMeant : Type 0 where
  pub judged : VerdictsAreJudged
  pub by_clocks : VerdictsAreJudgedByClocks

-- the record of a frame that comes at this time, and is discarded with this verdict
abbrev pub told_at : ℕ → Verdict → HopRecord
told_at arrival verdict = record { arrival = record { 0 = arrival }; verdict = verdict; sent = None }

-- two frames at once, each as large as the burst; the bridge discards the second, with this verdict
abbrev pub second_told : Verdict → List Travel
second_told verdict =
    sunk 0 0 1522 (hop 0 0 0 12336000 ∷ hop 13836000 13836000 13836000 26172000 ∷ []) 26672000
    ∷ discarded 0 1522 (hop 0 0 12336000 24672000) (told_at 26172000 verdict)
    ∷ []

-- it is late for 137196000 ps, which is told, and nothing else; one that is too long is not late
pub record DiscardedAreTold : Type 0 where
  pub late : IsIdeal fork (second_told (Late (record { 0 = 137196000 })))
  pub late_before : BreaksAlone groups fork (second_told (Late (record { 0 = 137195999 })))
  pub late_after : BreaksAlone groups fork (second_told (Late (record { 0 = 137196001 })))
  pub late_for_size : BreaksAlone groups fork (second_told Size)
  pub size_as_late : BreaksAlone groups line
      (ended 1523 (hop 0 0 0 12344000 ∷ told_at 13844000 (Late (record { 0 = 13844000 })) ∷ []) Discard)

-- the bridge discards a frame of a flow that has a declared size, with this verdict
abbrev pub flow_told : Verdict → List Travel
flow_told verdict = sent_of 64 672000 (told_at 2172000 verdict ∷ []) Discard

-- the station discards it
abbrev pub never_released : List Travel
never_released =
    record {
      release = record { at = record { 0 = 0 }; sender = 1; octets = 64 };
      hops = too_long 0 ∷ [];
      ending = Discard;
      copies = [];
    }
    ∷ []

-- a bridge discards no frame of a flow that has a declared size, and one that is too long for its size; a station
-- discards none. Refuses runs in which fewer frames of flows go on
pub record FlowsAreTold : Type 0 where
  pub for_size : BreaksAlone flows line_and_flow (flow_told Size)
  pub as_late : BreaksAlone flows line_and_flow (flow_told (Late (record { 0 = 2172000 })))
  pub size_as_late : BreaksAlone flows line_and_flow
      (sent_of 1523 12344000 (told_at 13844000 (Late (record { 0 = 13844000 })) ∷ []) Discard)
  pub never_released : BreaksAlone released line_and_flow never_released

pub record VerdictsAreTold : Type 0 where
  pub discarded : DiscardedAreTold
  pub flows : FlowsAreTold
