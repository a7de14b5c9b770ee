-- The lines of a stream are those of its listeners.
use Rattle.std.proofs.Common.{◌≡◌, ℕ, zero, suc, ◌+◌, ◌<◌, ◌≤◌, List, [], ◌∷◌, ◌++◌, length, drop, get_or, sym}
use Rattle.std.proofs.Common.{ap, ◌∙◌, arith}
use Rattle.std.specs.List.{enumerate_from, flat_map, zip}
use Rattle.std.proofs.lemmas.List.{drop_all, drop_more}
use Rattle.std.proofs.lemmas.List.Concat.{flat_map-cons}
use Rattle.std.proofs.lemmas.Slice.Zip.{get_or-zip, length-zip}
use Rattle.ats_streams.specs.Branches.{leg_at, legs_of, routes_of}
use Rattle.ats_streams.specs.Stream.{DeclaredStream}
use Rattle.ats_streams.specs.declared.branch.Branch.{Branch}
use Rattle.ats_streams.proofs.BranchLemmas.{legs-length}
use Rattle.ats_topology.specs.Topology.{DeclaredTopology}
use Rattle.ats_network.specs.Listeners.{Listener, listeners_of}
use Rattle.ats_network_text.specs.Text.{listener_line, stream_line}
use Rattle.ats_tally.specs.Listeners.{no_listener}
use Rattle.ats_tally.proofs.ListenerLemmas.{listener-is, listener_by, listeners-length}
use Rattle.ats_show_law.specs.Laws.{ShowTellsEachListener, line_of}

-- what is made of the elements from a place on, made of their numbers
lines_from : {X Y : Type 0} (F : ℕ → List ℕ) (G : Y → List ℕ) (ys : List Y) (d : Y) (k : ℕ) (xs : List X)
    → length ys ≡ k + length xs → ((n : ℕ) → k ≤ n → n < length ys → F n ≡ G (get_or ys n d))
    → flat_map (λ (x : ℕ × X). F x.0) (enumerate_from k xs) ≡ flat_map G (drop k ys)
lines_from F G ys d k [] long each =
    ap (flat_map G) (sym (drop_all k ys (omega (arith, long))))
lines_from {X} {Y} F G ys d k (x ∷ xs) long each =
    let within : k < length ys = omega (arith, long) in
    flat_map-cons (λ (y : ℕ × X). F y.0) (k, x) (enumerate_from (k + 1) xs)
    ∙ ap (λ (l : List ℕ). l ++ flat_map (λ (y : ℕ × X). F y.0) (enumerate_from (k + 1) xs))
    (each k (omega arith) within)
    ∙ ap (λ (l : List ℕ). G (get_or ys k d) ++ l)
    (lines_from F G ys d (k + 1) xs (omega (arith, long))
    (λ n past below. each n (omega (arith, past)) below))
    ∙ sym (flat_map-cons G (get_or ys k d) (drop (k + 1) ys))
    ∙ ap (flat_map G) (sym (drop_more ys k d within))

-- each listener beside the classes of its leg
abbrev told : DeclaredTopology → DeclaredStream → List (Listener × List ℕ)
told topology s = zip (listeners_of topology s) (legs_of s.classes s.branches)

abbrev none_told : Listener × List ℕ
none_told = (no_listener, [])

-- there are as many as legs
told-many : (topology : DeclaredTopology) (s : DeclaredStream)
    → length (told topology s) ≡ suc (length s.branches)
told-many topology s = omega (
  arith,
  length-zip (listeners_of topology s) (legs_of s.classes s.branches),
  listeners-length topology s,
  legs-length 0 s.classes s.branches,
)

told_at : (topology : DeclaredTopology) (s : DeclaredStream) (n : ℕ) → n ≤ length s.branches
    → get_or (told topology s) n none_told
    ≡ (
      listener_by topology n (leg_at (legs_of s.ports s.branches) n) (leg_at (routes_of s.ports s.branches) n),
      leg_at (legs_of s.classes s.branches) n,
    )
told_at topology s n within =
    get_or-zip (listeners_of topology s) (legs_of s.classes s.branches) n none_told
    (omega (arith, within, listeners-length topology s)) (omega (arith, within, legs-length 0 s.classes s.branches))
    ∙ ap (λ (l : Listener). (l, leg_at (legs_of s.classes s.branches) n))
    (listener-is topology s n no_listener within)

-- the first has the line of the stream, and each further one that of a branch
first_line : (topology : DeclaredTopology) (s : DeclaredStream)
    → stream_line topology s ≡ line_of topology s (get_or (told topology s) 0 none_told)
first_line topology s = ap (line_of topology s) (sym (told_at topology s 0 (omega arith)))

further_line : (topology : DeclaredTopology) (s : DeclaredStream) (n : ℕ) → 1 ≤ n → n ≤ length s.branches
    → listener_line topology s n ≡ line_of topology s (get_or (told topology s) n none_told)
further_line topology s zero further within = absurd (omega (arith, further))
further_line topology s (suc n) further within =
    ap (line_of topology s) (sym (told_at topology s (suc n) within))

pub show_tells_each_listener : ShowTellsEachListener
show_tells_each_listener topology s =
    let all : List (Listener × List ℕ) = told topology s in
    let many : length all ≡ suc (length s.branches) = told-many topology s in
    ap (λ (l : List ℕ). l ++ flat_map (λ (b : ℕ × Branch). listener_line topology s b.0) (enumerate_from 1 s.branches))
    (first_line topology s)
    ∙ ap (λ (l : List ℕ). line_of topology s (get_or all 0 none_told) ++ l)
    (lines_from (listener_line topology s) (line_of topology s) all none_told 1 s.branches (omega (arith, many))
    (λ n past below. further_line topology s n past (omega (arith, below, many))))
    ∙ sym (flat_map-cons (line_of topology s) (get_or all 0 none_told) (drop 1 all))
    ∙ ap (flat_map (line_of topology s)) (sym (drop_more all 0 none_told (omega (arith, many))))
