-- The lines of the ports of a route.
use Rattle.std.proofs.Common.{◌≡◌, ℕ, zero, suc, ◌+◌, ◌<◌, ◌≤◌, List, [], ◌∷◌, ◌++◌, length, take, get_or, add-one}
use Rattle.std.proofs.Common.{refl, sym, ◌∙◌, ap, arith}
use Rattle.std.specs.List.{flat_map, zip}
use Rattle.std.proofs.lemmas.List.{flat_map_more}
use Rattle.ats_topology.specs.Topology.{DeclaredTopology}
use Rattle.ats_witness_text.specs.Text.{hop_line}

zip_none : (route : List ℕ) → let none : List ℕ = [] in zip route none ≡ []
zip_none [] = refl
zip_none (p ∷ route) = refl

-- the pairs with one more
zip_more : (route delays : List ℕ) (i : ℕ) → i < length delays → length delays ≤ length route
    → zip route (take (suc i) delays) ≡ zip route (take i delays) ++ (get_or route i 0, get_or delays i 0) ∷ []
zip_more route [] i within fit = absurd (omega arith)
zip_more [] (d ∷ delays) i within fit = absurd (omega arith)
zip_more (q ∷ route) (d ∷ delays) zero within fit = ap (λ (pairs : List (ℕ × ℕ)). (q, d) ∷ pairs) (zip_none route)
zip_more (q ∷ route) (d ∷ delays) (suc i) within fit =
    ap (λ (pairs : List (ℕ × ℕ)). (q, d) ∷ pairs) (zip_more route delays i (omega arith) (omega arith))

-- the line of the next port
pub next_hop : (topology : DeclaredTopology) (route delays : List ℕ) (i : ℕ) (x before after : List ℕ)
    → i < length delays → length delays ≤ length route
    → before ≡ x ++ flat_map (hop_line topology) (zip route (take i delays))
    → after ≡ before ++ hop_line topology (get_or route i 0, get_or delays i 0)
    → after ≡ x ++ flat_map (hop_line topology) (zip route (take (i + 1) delays))
next_hop topology route delays i x before after within fit so_far line =
    line ∙ ap (λ (t : List ℕ). t ++ hop_line topology (get_or route i 0, get_or delays i 0)) so_far
    ∙ flat_map_more (hop_line topology) x (zip route (take i delays)) (get_or route i 0, get_or delays i 0)
    ∙ sym (ap (λ (pairs : List (ℕ × ℕ)). x ++ flat_map (hop_line topology) pairs) (zip_more route delays i within fit))
    ∙ sym (ap (λ (k : ℕ). x ++ flat_map (hop_line topology) (zip route (take k delays))) (add-one i))
