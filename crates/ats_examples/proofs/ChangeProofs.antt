use Rattle.std.proofs.Common.{◌≡◌, ℕ, zero, suc, ◌+◌, ◌*◌, ◌<◌, ◌≤◌, List, [], ◌∷◌, length, get_or, map, refl, ap}
use Rattle.std.proofs.Common.{subst, arith, inl, inr, ◌⊎◌, lit<, lit≤}
use Rattle.std.specs.Prelude.{◌^◌, IsPermutation, Contains}
use Rattle.std.proofs.lemmas.List.Sorted.{length_permutation, Contains-permutation}
use Rattle.ats_num.specs.Tie.{late_key}
use Rattle.ats_num.specs.declared.time.Ps.{Ps}
use Rattle.ats_group.specs.Judge.{ats_judge}
use Rattle.ats_port_rule.specs.Transmission.{Transmission}
use Rattle.ats_port_rule.specs.PortRule.{StartsAfterGap, IsAhead}
use Rattle.ats_trace.specs.Eligibility.{IsJudged, offer_of, residence_of_groups, scheduled_by}
use Rattle.ats_group.specs.declared.verdict.Verdict.{Verdict}
use Rattle.ats_group.specs.declared.verdict.Verdict.TheVariants.{Eligible, Late, Size}
use Rattle.ats_trace.specs.Stored.{no_travel}
use Rattle.ats_trace.specs.Run.{IsIdeal, IsRunBy}
use Rattle.ats_trace.specs.Projections.{Crossing, Handed, sent_by, handed_by}
use Rattle.ats_examples.specs.Networks.{line, line_and_flow, fork}
use Rattle.ats_examples.specs.Runs.{first_goes_first, second_goes_first}
use Rattle.ats_examples.specs.LegalRuns.{frame_key, least_wait, greatest_wait}
use Rattle.ats_examples.specs.ChangedRuns.{released_later, of_no_sender, of_63_octets, sunk_late, not_received}
use Rattle.ats_examples.specs.ChangedRuns.{comes_late, held_at_station, started_early, sent_slowly, overlapped}
use Rattle.ats_examples.specs.ChangedRuns.{passed_over, started_late, eligible_early, flow_eligible_early}
use Rattle.ats_examples.specs.ChangedRuns.{ChangedExamplesAreNot}

pub no_transmission : Transmission
no_transmission = record { frame = 0; sender = 0; class = 0; bits = 0; eligible = 0; start = 0; end = 0 }

pub no_frame : Handed
no_frame =
    record { crossing = record { port = 0; octets = 0; came = 0; sent = no_transmission; arrival = 0 }; verdict = Size }

-- the time in a verdict
abbrev pub time_in : Verdict → ℕ
time_in (Eligible e) = e.0
time_in (Late e) = e.0
time_in Size = 0

not_in_order : ¬ IsIdeal line_and_flow released_later
not_in_order h =
    let back : 2 ≤ 1 = h.in_order 0 1 0 (lit≤ tt) (lit< tt) in
    absurd (omega arith)

not_a_sender : ¬ IsIdeal line of_no_sender
not_a_sender h =
    let beyond : 1 < 1 = (h.journeys 0 no_travel (lit< tt)).sender in
    absurd (omega arith)

not_octets : ¬ IsIdeal line of_63_octets
not_octets h =
    let short : 64 ≤ 63 = (h.journeys 0 no_travel (lit< tt)).octets.least in
    absurd (omega arith)

pub no_crossing : Crossing
no_crossing = record { port = 0; octets = 0; came = 0; sent = no_transmission; arrival = 0 }

not_a_way : ¬ IsIdeal line not_received
not_a_way h = (h.journeys 0 no_travel (lit< tt)).way

not_in_time : ¬ IsIdeal line sunk_late
not_in_time h =
    let late : 26672001 ≤ 26672000 = ((h.links 2 (lit< tt)).within 0 no_crossing (lit< tt)).latest in
    absurd (omega arith)

not_at_release : ¬ IsIdeal line comes_late
not_at_release h =
    let late : ◌≡◌ {A = ℕ} 1 0 = ap (λ (t : Ps). t.0) (h.journeys 0 no_travel (lit< tt)).released.0 in
    absurd (omega arith)

not_released : ¬ IsIdeal line_and_flow held_at_station
not_released h =
    let held : ◌≡◌ {A = ℕ} 2 1 = ap time_in (h.journeys 1 no_travel (lit< tt)).released.1 in
    absurd (omega arith)

not_waiting : ¬ IsIdeal line started_early
not_waiting h =
    let early : 13836000 ≤ 13835999 = (h.ports 2 (lit< tt)).waits 0 no_transmission (lit< tt) in
    absurd (omega arith)

not_taking : ¬ IsIdeal line sent_slowly
not_taking h =
    let slow : ◌≡◌ {A = ℕ} 12336000 12328000 = (h.ports 0 (lit< tt)).takes 0 no_transmission (lit< tt) in
    absurd (omega arith)

not_apart : ¬ IsIdeal line_and_flow overlapped
not_apart h =
    let overlap : (12336000 ≤ 12335999) ⊎ (24672000 ≤ 0) =
    (h.ports 0 (lit< tt)).apart 0 1 no_transmission (lit< tt) (lit< tt) in
    elim overlap [ inl e ↦ absurd (omega arith) | inr e ↦ absurd (omega arith) ]

-- at the station's port the flow's frame has class 0, and the frame behind it class 6
not_chosen : ¬ IsIdeal line_and_flow passed_over
not_chosen h =
    let ahead : IsAhead (get_or (sent_by line_and_flow passed_over 0) 0 no_transmission)
    (get_or (sent_by line_and_flow passed_over 0) 1 no_transmission) =
    (h.ports 0 (lit< tt)).chosen 0 no_transmission (lit< tt) 1 no_transmission (lit< tt) (lit< tt) (lit≤ tt) in
    let class : 6 ≤ 0 = ahead.class in
    absurd (omega arith)

-- at port 2 no transmission ends when the only one starts
gap_there : StartsAfterGap (sent_by line started_late 2) (get_or (sent_by line started_late 2) 0 no_transmission)
gap_there zero d within same = let e : ◌≡◌ {A = ℕ} 26172000 13836001 = same in absurd (omega arith)
gap_there (suc k) d within same = absurd (omega arith)

not_prompt : ¬ IsIdeal line started_late
not_prompt h =
    let idle : 13836001 ≤ 13836000 =
    (h.ports 2 (lit< tt)).prompt 0 no_transmission (lit< tt) 0 no_transmission (lit< tt) gap_there (lit≤ tt) in
    absurd (omega arith)

at_zero : {X : Type 0} (x y : X) → Contains (y ∷ []) x → y ≡ x
at_zero x y (zero, within, e) = e
at_zero x y (suc k, within, e) = absurd (omega arith)

-- a list with the elements of a list of one is that list
pub only : {X : Type 0} (x : X) (ys : List X) → IsPermutation (x ∷ []) ys → ys ≡ x ∷ []
only x [] p = let e : 0 ≡ length (x ∷ []) = length_permutation (x ∷ []) [] p in absurd (omega arith)
only x (y ∷ []) p =
    let found : Contains (y ∷ []) x = Contains-permutation (x ∷ []) (y ∷ []) x p (0, lit< tt, refl) in
    ap (λ z. z ∷ []) (at_zero x y found)
only x (y ∷ z ∷ ys) p = let e : length (y ∷ z ∷ ys) ≡ length (x ∷ []) = length_permutation (x ∷ []) (y ∷ z ∷ ys) p in
    absurd (omega arith)

-- the time in the first of some verdicts
abbrev pub first_time : List Verdict → ℕ
first_time [] = 0
first_time (v ∷ vs) = time_in v

abbrev early_frame : List Handed
early_frame = handed_by line_and_flow eligible_early 0 6

-- no group judges the stream's frame so, 1 ps before it would let it
pub not_early : ¬ IsJudged ats_judge line_and_flow 0 early_frame
not_early judged =
    let same : judged.arrivals ≡ early_frame = only (get_or early_frame 0 no_frame) judged.arrivals judged.same in
    let told : map (λ (f : Handed). f.verdict) early_frame ≡ ats_judge (scheduled_by line_and_flow 0)
    (residence_of_groups line_and_flow 0) (map offer_of early_frame)
    = subst (λ (frames : List Handed). map (λ (f : Handed). f.verdict) frames ≡ ats_judge (scheduled_by line_and_flow 0)
    (residence_of_groups line_and_flow 0) (map offer_of frames))
    same judged.verdicts in
    let early : ◌≡◌ {A = ℕ} 26171999 26172000 = ap first_time told in
    absurd (omega arith)

not_judged : ¬ IsIdeal line_and_flow eligible_early
not_judged h = not_early (h.groups 0 6 (lit< tt) (lit≤ tt))

not_passed : ¬ IsIdeal line_and_flow flow_eligible_early
not_passed h =
    let early : ◌≡◌ {A = ℕ} 13835999 13836000 = ap time_in (h.flows 0 (lit< tt) 0 no_frame (lit< tt)) in
    absurd (omega arith)

-- the second sender has the lesser key
not_by_sender : ¬ IsRunBy late_key greatest_wait fork first_goes_first
not_by_sender h =
    let less : 4294967295 * 2 ^ 32 + 0 < 4294967294 * 2 ^ 32 + 1 =
    (h.tie 2 (lit< tt)) 0 no_transmission (lit< tt) 1 no_transmission (lit< tt) refl refl (lit< tt) in
    absurd (omega arith)

-- the first frame has the lesser key
not_by_frame : ¬ IsRunBy frame_key least_wait fork second_goes_first
not_by_frame h =
    let less : 1 < 0 =
    (h.tie 2 (lit< tt)) 1 no_transmission (lit< tt) 0 no_transmission (lit< tt) refl refl (lit< tt) in
    absurd (omega arith)

pub changed_are_not : ChangedExamplesAreNot
changed_are_not =
    record {
      in_order = not_in_order;
      sender = not_a_sender;
      octets = not_octets;
      way = not_a_way;
      links = not_in_time;
      came = not_at_release;
      released = not_released;
      waits = not_waiting;
      takes = not_taking;
      apart = not_apart;
      chosen = not_chosen;
      prompt = not_prompt;
      groups = not_judged;
      flows = not_passed;
      tie_by_frame = not_by_sender;
      tie_by_sender = not_by_frame;
    }
