-- The lines of a frame's hops tell the hops.
use Rattle.std.proofs.Common.{◌≡◌, ◌∙◌, ℕ, List, [], ◌∷◌, ◌++◌, get_or, Option, Some, None, refl, sym}
use Rattle.std.proofs.Common.{ap, arith, append_assoc, inl, inr, subst, ◌⊎◌}
use Rattle.std.specs.Prelude.{codes, decimal, All}
use Rattle.std.specs.List.{flat_map, zip}
use Rattle.std.proofs.lemmas.List.{append_cancel_left}
use Rattle.std.proofs.lemmas.List.Elements.{All-head, All-tail}
use Rattle.ats_num.specs.declared.time.Ps.{Ps}
use Rattle.ats_topology.specs.Topology.{DeclaredTopology}
use Rattle.ats_port_names.specs.PortName.{port_name}
use Rattle.ats_group.specs.declared.verdict.Verdict.{Verdict}
use Rattle.ats_group.specs.declared.verdict.Verdict.TheVariants.{Eligible, Late, Size}
use Rattle.ats_trace.specs.Journey.{IsSentOrEnds, IsWay, Leg}
use Rattle.ats_trace.specs.HopRecord.{HopRecord}
use Rattle.ats_trace.specs.declared.journey.Ending.{Ending}
use Rattle.ats_trace.specs.declared.journey.Ending.TheVariants.{Sink, Discard}
use Rattle.ats_replay.specs.Departures.{ending_line, hop_line, leg_lines, sent_text, verdict_text}
use Rattle.ats_text_law.specs.Short.{IsShortEnding, IsShortHop, IsShortLeg, IsShortSent, IsShortVerdict}
use Rattle.ats_text_law.proofs.Words.{IsBehind, cut_numbers}

-- the second code of a text
abbrev second : List ℕ → ℕ
second text = get_or text 1 0

-- two verdicts and what stands behind them
record AreVerdicts (v w : Verdict) (b y : List ℕ) : Type 0 where
  verdict : v ≡ w
  rest : b ≡ y

cut_verdicts : (v w : Verdict) (b y : List ℕ) → IsShortVerdict v → IsShortVerdict w → IsBehind b → IsBehind y
    → verdict_text v ++ b ≡ verdict_text w ++ y → AreVerdicts v w b y
cut_verdicts (Eligible e) (Eligible f) b y short brief h k same =
    let tails : decimal e.0 ++ b ≡ decimal f.0 ++ y = append_cancel_left (codes " eligible ") _ _ same in
    let parts = cut_numbers e.0 f.0 b y short brief h k tails in
    record { verdict = ap (λ n. Eligible (record { 0 = n })) parts.number; rest = parts.rest }
cut_verdicts (Late e) (Late f) b y short brief h k same =
    let tails : decimal e.0 ++ b ≡ decimal f.0 ++ y = append_cancel_left (codes " late ") _ _ same in
    let parts = cut_numbers e.0 f.0 b y short brief h k tails in
    record { verdict = ap (λ n. Late (record { 0 = n })) parts.number; rest = parts.rest }
cut_verdicts Size Size b y short brief h k same =
    record { verdict = refl; rest = append_cancel_left (codes " size") b y same }
cut_verdicts (Eligible e) (Late f) b y short brief h k same = absurd (omega (arith, ap second same))
cut_verdicts (Eligible e) Size b y short brief h k same = absurd (omega (arith, ap second same))
cut_verdicts (Late e) (Eligible f) b y short brief h k same = absurd (omega (arith, ap second same))
cut_verdicts (Late e) Size b y short brief h k same = absurd (omega (arith, ap second same))
cut_verdicts Size (Eligible f) b y short brief h k same = absurd (omega (arith, ap second same))
cut_verdicts Size (Late f) b y short brief h k same = absurd (omega (arith, ap second same))

-- the ends of lines that hold what is known of a transmission
record AreSent (s t : Option (Ps × Ps)) (b y : List ℕ) : Type 0 where
  sent : s ≡ t
  rest : b ≡ y

-- the first code of a text
abbrev first : List ℕ → ℕ
first text = get_or text 0 0

one_pair : (times : Ps × Ps) (start end : ℕ) → times.0.0 ≡ start → times.1.0 ≡ end
    → Some times ≡ Some (record { 0 = start }, record { 0 = end })
one_pair times start end s t = rw (sym s, sym t) refl

cut_sent : (s t : Option (Ps × Ps)) (b y : List ℕ) → IsShortSent s → IsShortSent t
    → sent_text s ++ 10 ∷ b ≡ sent_text t ++ 10 ∷ y → AreSent s t b y
cut_sent None None b y short brief same = record { sent = refl; rest = cc same }
cut_sent None (Some times) b y short brief same = absurd (omega (arith, ap first same))
cut_sent (Some times) None b y short brief same = absurd (omega (arith, ap first same))
cut_sent (Some times) (Some others) b y short brief same =
    let left : sent_text (Some times) ++ 10 ∷ b
    ≡ codes " start " ++ (decimal times.0.0 ++ (codes " end " ++ (decimal times.1.0 ++ 10 ∷ b))) =
    simp append_assoc refl in
    let right : sent_text (Some others) ++ 10 ∷ y
    ≡ codes " start " ++ (decimal others.0.0 ++ (codes " end " ++ (decimal others.1.0 ++ 10 ∷ y))) =
    simp append_assoc refl in
    let starts = cut_numbers times.0.0 others.0.0 (codes " end " ++ (decimal times.1.0 ++ 10 ∷ b))
    (codes " end " ++ (decimal others.1.0 ++ 10 ∷ y)) short.0 brief.0 refl refl
    (append_cancel_left (codes " start ") _ _ (sym left ∙ same ∙ right)) in
    let ends = cut_numbers times.1.0 others.1.0 (10 ∷ b) (10 ∷ y) short.1 brief.1 refl refl
    (append_cancel_left (codes " end ") _ _ starts.rest) in
    record {
      sent = one_pair times others.0.0 others.1.0 starts.number ends.number;
      rest = cc ends.rest;
    }

-- what stands behind a time in the line of a hop
behind_verdict : (s : Option (Ps × Ps)) (b : List ℕ) → IsBehind (sent_text s ++ 10 ∷ b)
behind_verdict None b = refl
behind_verdict (Some times) b = refl

behind_arrival : (v : Verdict) (b : List ℕ) → IsBehind (verdict_text v ++ b)
behind_arrival (Eligible e) b = refl
behind_arrival (Late e) b = refl
behind_arrival Size b = refl

-- a hop record by its parts
same_record : (hop other : HopRecord) → hop.arrival.0 ≡ other.arrival.0 → hop.verdict ≡ other.verdict
    → hop.sent ≡ other.sent → hop ≡ other
same_record hop other a v s =
    ap (λ n. record { arrival = record { 0 = n }; verdict = hop.verdict; sent = hop.sent }) a
    ∙ ap (λ w. record { arrival = other.arrival; verdict = w; sent = hop.sent }) v
    ∙ ap (λ t. record { arrival = other.arrival; verdict = other.verdict; sent = t }) s

-- the line of a hop, with what stands behind it, as it is cut
hop_parts : (topology : DeclaredTopology) (p : ℕ) (hop : HopRecord) (b : List ℕ)
    → hop_line topology (p, hop) ++ b
    ≡ (codes "hop " ++ port_name topology p ++ codes " ")
    ++ (decimal hop.arrival.0 ++ (verdict_text hop.verdict ++ (sent_text hop.sent ++ 10 ∷ b)))
unfolding hop_line
hop_parts topology p hop b = simp append_assoc refl

-- two hops and what stands behind their lines
record AreHops (hop other : HopRecord) (b y : List ℕ) : Type 0 where
  hop_is : hop ≡ other
  rest : b ≡ y

cut_hops : (topology : DeclaredTopology) (p : ℕ) (hop other : HopRecord) (b y : List ℕ) → IsShortHop hop
    → IsShortHop other → hop_line topology (p, hop) ++ b ≡ hop_line topology (p, other) ++ y → AreHops hop other b y
cut_hops topology p hop other b y short brief same =
    let times = cut_numbers hop.arrival.0 other.arrival.0 (verdict_text hop.verdict ++ (sent_text hop.sent ++ 10 ∷ b))
    (verdict_text other.verdict ++ (sent_text other.sent ++ 10 ∷ y)) short.arrival brief.arrival
    (behind_arrival hop.verdict (sent_text hop.sent ++ 10 ∷ b))
    (behind_arrival other.verdict (sent_text other.sent ++ 10 ∷ y))
    (append_cancel_left (codes "hop " ++ port_name topology p ++ codes " ") _ _
    (sym (hop_parts topology p hop b) ∙ same ∙ hop_parts topology p other y)) in
    let verdicts = cut_verdicts hop.verdict other.verdict (sent_text hop.sent ++ 10 ∷ b)
    (sent_text other.sent ++ 10 ∷ y) short.verdict brief.verdict (behind_verdict hop.sent b)
    (behind_verdict other.sent y) times.rest in
    let ends = cut_sent hop.sent other.sent b y short.sent brief.sent verdicts.rest in
    record { hop_is = same_record hop other times.number verdicts.verdict ends.sent; rest = ends.rest }

-- two endings and what stands behind their lines
record AreEndings (ending other : Ending) (b y : List ℕ) : Type 0 where
  ending_is : ending ≡ other
  rest : b ≡ y

cut_sinks : (at on : Ps) (b y : List ℕ) → IsShortEnding (Sink at) → IsShortEnding (Sink on)
    → ending_line (Sink at) ++ b ≡ ending_line (Sink on) ++ y → AreEndings (Sink at) (Sink on) b y
cut_sinks at on b y short brief same =
    let left : ending_line (Sink at) ++ b ≡ codes "sink " ++ (decimal at.0 ++ 10 ∷ b) = simp append_assoc refl in
    let right : ending_line (Sink on) ++ y ≡ codes "sink " ++ (decimal on.0 ++ 10 ∷ y) = simp append_assoc refl in
    let times = cut_numbers at.0 on.0 (10 ∷ b) (10 ∷ y) short brief refl refl
    (append_cancel_left (codes "sink ") _ _ (sym left ∙ same ∙ right)) in
    record { ending_is = ap (λ n. Sink (record { 0 = n })) times.number; rest = cc times.rest }

-- the lines of a frame's hops and of its ending
abbrev pub way_lines : DeclaredTopology → List ℕ → List HopRecord → Ending → List ℕ
way_lines topology path hops ending = flat_map (hop_line topology) (zip path hops) ++ ending_line ending

-- two ways over one path, and what stands behind their lines
pub record AreWays (hops others : List HopRecord) (ending fin : Ending) (b y : List ℕ) : Type 0 where
  pub hops_are : hops ≡ others
  pub ending_is : ending ≡ fin
  pub rest : b ≡ y

-- a way with one hop more in front of it
with_hop : (hop other : HopRecord) (hops others : List HopRecord) (ending fin : Ending) (b y : List ℕ) → hop ≡ other
    → AreWays hops others ending fin b y → AreWays (hop ∷ hops) (other ∷ others) ending fin b y
with_hop hop other hops others ending fin b y same are = record {
  hops_are = rw (same, are.hops_are) refl;
  ending_is = are.ending_is;
  rest = are.rest;
}

-- a path without hops has no lines
zip_none : (path : List ℕ) → zip {X = HopRecord} path [] ≡ []
zip_none [] = refl
zip_none (p ∷ path) = refl

-- two ways that both end here
pub both_end : (topology : DeclaredTopology) (path : List ℕ) (hops others : List HopRecord) (ending fin : Ending)
    (b y : List ℕ) → (hops ≡ []) × (ending ≡ Discard) → (others ≡ []) × (fin ≡ Discard)
    → way_lines topology path hops ending ++ b ≡ way_lines topology path others fin ++ y
    → AreWays hops others ending fin b y
both_end topology path hops others ending fin b y one two same =
    let left : way_lines topology path hops ending ++ b ≡ codes "discard\n" ++ b =
    rw (one.0, one.1, zip_none path) refl in
    let right : way_lines topology path others fin ++ y ≡ codes "discard\n" ++ y =
    rw (two.0, two.1, zip_none path) refl in
    record {
      hops_are = one.0 ∙ sym two.0;
      ending_is = one.1 ∙ sym two.1;
      rest = append_cancel_left (codes "discard\n") b y (sym left ∙ same ∙ right);
    }

-- what is behind one hop: ways that are the same where they go on, and where they end
behind_hop : (topology : DeclaredTopology) (path : List ℕ) (v : Verdict) (s : Option (Ps × Ps))
    (hops others : List HopRecord) (ending fin : Ending) (b y : List ℕ)
    → (IsWay path hops ending → IsWay path others fin → AreWays hops others ending fin b y)
    → IsSentOrEnds (IsWay path hops ending) v s hops ending → IsSentOrEnds (IsWay path others fin) v s others fin
    → way_lines topology path hops ending ++ b ≡ way_lines topology path others fin ++ y
    → AreWays hops others ending fin b y
behind_hop topology path (Eligible e) (Some times) hops others ending fin b y further one two same = further one two
behind_hop topology path (Eligible e) None hops others ending fin b y further one two same = absurd one
behind_hop topology path (Late e) (Some times) hops others ending fin b y further one two same = absurd one
behind_hop topology path Size (Some times) hops others ending fin b y further one two same = absurd one
behind_hop topology path (Late e) None hops others ending fin b y further one two same =
    both_end topology path hops others ending fin b y one two same
behind_hop topology path Size None hops others ending fin b y further one two same =
    both_end topology path hops others ending fin b y one two same

-- the lines of a way in front of its first hop's
way_parts : (topology : DeclaredTopology) (p : ℕ) (path : List ℕ) (hop : HopRecord) (hops : List HopRecord)
    (ending : Ending) (b : List ℕ) → way_lines topology (p ∷ path) (hop ∷ hops) ending ++ b
    ≡ hop_line topology (p, hop) ++ (way_lines topology path hops ending ++ b)
way_parts topology p path hop hops ending b = simp append_assoc refl

-- where the lines of two ways over one path, with something behind them, are one text, the ways are the same
pub cut_ways : (topology : DeclaredTopology) (path : List ℕ) (hops others : List HopRecord) (ending fin : Ending)
    (b y : List ℕ) → IsWay path hops ending → IsWay path others fin → All IsShortHop hops → All IsShortHop others
    → IsShortEnding ending → IsShortEnding fin
    → way_lines topology path hops ending ++ b ≡ way_lines topology path others fin ++ y
    → AreWays hops others ending fin b y
cut_ways topology [] [] [] (Sink at) (Sink on) b y one two short brief ends closes same =
    let parts = cut_sinks at on b y ends closes same in
    record { hops_are = refl; ending_is = parts.ending_is; rest = parts.rest }
cut_ways topology [] [] [] (Sink at) Discard b y one two short brief ends closes same = absurd two
cut_ways topology [] [] [] Discard (Sink on) b y one two short brief ends closes same = absurd one
cut_ways topology [] [] [] Discard Discard b y one two short brief ends closes same = absurd one
cut_ways topology [] [] (other ∷ others) ending (Sink on) b y one two short brief ends closes same = absurd two
cut_ways topology [] [] (other ∷ others) ending Discard b y one two short brief ends closes same = absurd two
cut_ways topology [] (hop ∷ hops) others (Sink at) fin b y one two short brief ends closes same = absurd one
cut_ways topology [] (hop ∷ hops) others Discard fin b y one two short brief ends closes same = absurd one
cut_ways topology (p ∷ path) [] others ending fin b y one two short brief ends closes same = absurd one
cut_ways topology (p ∷ path) (hop ∷ hops) [] ending fin b y one two short brief ends closes same = absurd two
cut_ways topology (p ∷ path) (hop ∷ hops) (other ∷ others) ending fin b y one two short brief ends closes same =
    let lines = cut_hops topology p hop other (way_lines topology path hops ending ++ b)
    (way_lines topology path others fin ++ y) (All-head IsShortHop hop hops short)
    (All-head IsShortHop other others brief)
    (sym (way_parts topology p path hop hops ending b) ∙ same ∙ way_parts topology p path other others fin y) in
    let alike : IsSentOrEnds (IsWay path others fin) hop.verdict hop.sent others fin =
    subst (λ (h : HopRecord). IsSentOrEnds (IsWay path others fin) h.verdict h.sent others fin)
    (sym lines.hop_is) two in
    with_hop hop other hops others ending fin b y lines.hop_is
    (behind_hop topology path hop.verdict hop.sent hops others ending fin b y
    (λ goes on. cut_ways topology path hops others ending fin b y goes on (All-tail IsShortHop hop hops short)
    (All-tail IsShortHop other others brief) ends closes lines.rest) one alike lines.rest)

-- the lines of a way begin with another letter than that of a discard
no_discard : (topology : DeclaredTopology) (path : List ℕ) (hops : List HopRecord) (ending : Ending) (b y : List ℕ)
    → IsWay path hops ending → way_lines topology path hops ending ++ b ≡ codes "discard\n" ++ y → ⊥
no_discard topology [] [] (Sink at) b y way same = omega (arith, ap first same)
no_discard topology [] [] Discard b y way same = way
no_discard topology [] (hop ∷ hops) (Sink at) b y way same = way
no_discard topology [] (hop ∷ hops) Discard b y way same = way
no_discard topology (p ∷ path) [] ending b y way same = way
no_discard topology (p ∷ path) (hop ∷ hops) ending b y way same =
    let text = way_parts topology p path hop hops ending b
    ∙ hop_parts topology p hop (way_lines topology path hops ending ++ b) in
    omega (arith, ap first (sym text ∙ same))

-- a frame that never came to a leg, or its way along it
abbrev pub IsLegOver : List ℕ → Leg → Type 0
IsLegOver path leg = ((leg.hops ≡ []) × (leg.ending ≡ Discard)) ⊎ IsWay path leg.hops leg.ending

-- no line of a hop, and that of a discard
none_lines : (topology : DeclaredTopology) (path : List ℕ) (leg : Leg) (b : List ℕ)
    → (leg.hops ≡ []) × (leg.ending ≡ Discard) → leg_lines topology path leg ++ b ≡ codes "discard\n" ++ b
none_lines topology path leg b none = rw (none.0, none.1, zip_none path) refl

-- where the lines along two such legs, with something behind them, are one text, the legs are the same
pub cut_legs : (topology : DeclaredTopology) (path : List ℕ) (leg other : Leg) (b y : List ℕ) → IsLegOver path leg
    → IsLegOver path other → IsShortLeg leg → IsShortLeg other
    → leg_lines topology path leg ++ b ≡ leg_lines topology path other ++ y
    → AreWays leg.hops other.hops leg.ending other.ending b y
cut_legs topology path leg other b y (inl none) (inl nothing) short brief same =
    both_end topology path leg.hops other.hops leg.ending other.ending b y none nothing same
cut_legs topology path leg other b y (inl none) (inr way) short brief same =
    absurd (no_discard topology path other.hops other.ending y b way
    (sym same ∙ none_lines topology path leg b none))
cut_legs topology path leg other b y (inr way) (inl nothing) short brief same =
    absurd (no_discard topology path leg.hops leg.ending b y way
    (same ∙ none_lines topology path other y nothing))
cut_legs topology path leg other b y (inr way) (inr onward) short brief same =
    cut_ways topology path leg.hops other.hops leg.ending other.ending b y way onward short.hops brief.hops
    short.ending brief.ending same
