-- The lines of one hop more, and that a way has no more records than its path has ports.
use Rattle.std.proofs.Common.{◌≡◌, ◌∙◌, ℕ, zero, suc, ◌+◌, ◌<◌, ◌≤◌, List, [], ◌∷◌, ◌++◌, length, get_or, map}
use Rattle.std.proofs.Common.{take, sym, ap}
use Rattle.std.proofs.Common.{refl, add-one, arith, Option, Some, None}
use Rattle.std.specs.List.{flat_map, zip}
use Rattle.std.proofs.lemmas.List.{flat_map_more, get_or-map, length-map}
use Rattle.ats_num.specs.declared.time.Ps.{Ps}
use Rattle.ats_topology.specs.Topology.{DeclaredTopology}
use Rattle.ats_group.specs.declared.verdict.Verdict.{Verdict}
use Rattle.ats_group.specs.declared.verdict.Verdict.TheVariants.{Eligible, Late, Size}
use Rattle.ats_trace.specs.Journey.{IsSentOrEnds, IsWay, Travel}
use Rattle.ats_trace.specs.Stored.{journey_of, no_travel, travel_at}
use Rattle.ats_trace.specs.declared.journey.Journey.{Journey}
use Rattle.ats_trace.specs.HopRecord.{HopRecord}
use Rattle.ats_trace.specs.declared.journey.Ending.{Ending}
use Rattle.ats_trace.specs.declared.journey.Ending.TheVariants.{Sink, Discard}
use Rattle.ats_replay.specs.Departures.{hop_line}

-- the rows of a run
pub rows_long : (run : List Travel) (rows : List Journey) → rows ≡ map journey_of run → length rows ≡ length run
rows_long run rows e = rw e (length-map run journey_of)

pub row_at : (run : List Travel) (rows : List Journey) (frame : ℕ) (d : Journey) → rows ≡ map journey_of run
    → frame < length run → get_or rows frame d ≡ journey_of (travel_at run frame)
row_at run rows frame d e within = rw e (get_or-map journey_of run frame no_travel d within)

zip_none : (path : List ℕ) → zip {X = HopRecord} path [] ≡ []
zip_none [] = refl
zip_none (p ∷ path) = refl

-- one pair more of two lists, the first of which is as long
zip_more : (path : List ℕ) (hops : List HopRecord) (i p : ℕ) (h : HopRecord) → i < length hops
    → length hops ≤ length path
    → zip path (take (suc i) hops) ≡ zip path (take i hops) ++ (get_or path i p, get_or hops i h) ∷ []
zip_more path [] i p h within fit = absurd (omega arith)
zip_more [] (hop ∷ hops) i p h within fit = absurd (omega arith)
zip_more (q ∷ path) (hop ∷ hops) zero p h within fit =
    ap (λ (pairs : List (ℕ × HopRecord)). (q, hop) ∷ pairs) (zip_none path)
zip_more (q ∷ path) (hop ∷ hops) (suc i) p h within fit =
    ap (λ (pairs : List (ℕ × HopRecord)). (q, hop) ∷ pairs)
    (zip_more path hops i p h (omega arith) (omega arith))

-- the line of the next hop
pub next_hop : (topology : DeclaredTopology) (path : List ℕ) (hops : List HopRecord) (i p : ℕ) (h : HopRecord)
    (x before after : List ℕ) → i < length hops → length hops ≤ length path
    → before ≡ x ++ flat_map (hop_line topology) (zip path (take i hops))
    → after ≡ before ++ hop_line topology (get_or path i p, get_or hops i h)
    → after ≡ x ++ flat_map (hop_line topology) (zip path (take (i + 1) hops))
next_hop topology path hops i p h x before after within fit so_far line =
    line ∙ ap (λ (t : List ℕ). t ++ hop_line topology (get_or path i p, get_or hops i h)) so_far
    ∙ flat_map_more (hop_line topology) x (zip path (take i hops)) (get_or path i p, get_or hops i h)
    ∙ sym (ap (λ (pairs : List (ℕ × HopRecord)). x ++ flat_map (hop_line topology) pairs)
    (zip_more path hops i p h within fit))
    ∙ sym (ap (λ (k : ℕ). x ++ flat_map (hop_line topology) (zip path (take k hops))) (add-one i))

-- a way has no more records than the path has ports
pub way_fits : (path : List ℕ) (hops : List HopRecord) (ending : Ending) → IsWay path hops ending
    → length hops ≤ length path
way_fits [] [] ending way = omega arith
way_fits [] (hop ∷ hops) (Sink at) way = absurd way
way_fits [] (hop ∷ hops) Discard way = absurd way
way_fits (p ∷ path) [] ending way = omega arith
way_fits (p ∷ path) (hop ∷ hops) ending way =
    let rest = by hop.verdict hop.sent way (λ onward. way_fits path hops ending onward) in omega (arith, rest)
  where
    by : (verdict : Verdict) (sent : Option (Ps × Ps))
        → IsSentOrEnds (IsWay path hops ending) verdict sent hops ending
        → (IsWay path hops ending → length hops ≤ length path) → length hops ≤ length path
    by (Eligible e) (Some times) onward further = further onward
    by (Eligible e) None none further = absurd none
    by (Late e) (Some times) none further = absurd none
    by (Late e) None last further = let none = ap (λ (rest : List HopRecord). length rest) last.0 in omega (arith, none)
    by Size (Some times) none further = absurd none
    by Size None last further = let none = ap (λ (rest : List HopRecord). length rest) last.0 in omega (arith, none)
