-- The places at which the classes of a leg stand, the ports of legs and routes, and the lines of branches.
use Rattle.std.proofs.Common.{◌≡◌, ◌≢◌, ℕ, zero, suc, ◌+◌, ◌-◌, ◌<◌, ◌≤◌, List, [], ◌∷◌, ◌++◌, length, take, drop}
use Rattle.std.proofs.Common.{get_or, sym, ap, subst, ◌∙◌, arith, append_assoc, length-drop}
use Rattle.std.specs.List.{All, enumerate_from, flat_map}
use Rattle.std.proofs.lemmas.List.{flat_map_more, take_all, take_more}
use Rattle.std.proofs.lemmas.List.Elements.{All-drop, All-nil, All-take}
use Rattle.std.proofs.lemmas.List.FromFn.{length-enumerate_from, get_or-enumerate_from}
use Rattle.ats_topology.specs.Topology.{DeclaredTopology}
use Rattle.ats_topology.specs.Walks.{ArePorts}
use Rattle.ats_topology.specs.declared.port.Port.{Port}
use Rattle.ats_streams.specs.Branches.{Ascend, first_from, leg_at, legs_from, legs_of, no_branch, routes_of}
use Rattle.ats_streams.specs.Stream.{DeclaredStream, IsStream}
use Rattle.ats_streams.specs.declared.branch.Branch.{Branch}
use Rattle.ats_streams.proofs.BranchLemmas.{IsPlaced, Spans, leg_between, leg_last, placed, routes-length}
use Rattle.ats_streams.proofs.RouteLemmas.{each_on_routes}
use Rattle.ats_network_text.specs.Text.{listener_line}

leg_holds : (P : ℕ → Type 0) (at : ℕ) (ports : List ℕ) (branches : List Branch) (leg : ℕ) → All P ports
    → All P (leg_at (legs_from at ports branches) leg)
leg_holds P at ports [] zero all = All-drop P at ports all
leg_holds P at ports [] (suc n) all = All-nil P
leg_holds P at ports (b ∷ branches) zero all =
    All-take P (b.first - at) (drop at ports) (All-drop P at ports all)
leg_holds P at ports (b ∷ branches) (suc n) all = leg_holds P b.first ports branches n all

-- the ports of a leg are ports
pub ports_of_leg : (given : List Port) (ports : List ℕ) (branches : List Branch) (leg : ℕ) → ArePorts given ports
    → ArePorts given (leg_at (legs_of ports branches) leg)
ports_of_leg given ports branches leg are = leg_holds (λ p. p < length given) 0 ports branches leg are

-- and so are those of a route
pub ports_of_route : (given : List Port) (ports : List ℕ) (branches : List Branch) (leg : ℕ) → ArePorts given ports
    → leg ≤ length branches → ArePorts given (leg_at (routes_of ports branches) leg)
ports_of_route given ports branches leg are within =
    each_on_routes (λ p. p < length given) ports branches are leg []
    (omega (arith, routes-length ports branches, within))

-- the places of the classes of a stream ascend as those of its ports do
ascend_classes : (s : DeclaredStream) → IsStream s → Ascend 0 s.branches (length s.classes)
ascend_classes s is = subst (λ (end : ℕ). Ascend 0 s.branches end) (sym is.each_port) is.branches.places

-- the classes of a leg stand between its first place and that of the next one
pub classes_between : (s : DeclaredStream) (leg from legs : ℕ) (next : Branch) → IsStream s → leg ≤ length s.branches
    → from ≡ first_from 0 s.branches leg → legs ≡ 1 + length s.branches → leg + 1 ≢ legs
    → next ≡ get_or s.branches ((leg + 1) - 1) no_branch → Spans s.classes s.branches leg from next.first
classes_between s leg from legs next is listed first many before next_is =
    let within : leg < length s.branches = omega (arith, listed, many, before) in
    let b : Branch = get_or s.branches leg no_branch in
    let one : IsPlaced (first_from 0 s.branches leg) b.first (length s.classes) =
    placed 0 s.branches (length s.classes) leg (ascend_classes s is) within in
    let spans : Spans s.classes s.branches leg (first_from 0 s.branches leg) b.first = record {
      ordered = omega (arith, one.ascends);
      within = omega (arith, one.within);
      leg_is = sym (leg_between 0 s.classes s.branches leg within);
    } in
    let same : b ≡ next = sym (next_is ∙ ap (λ (n : ℕ). get_or s.branches n no_branch) (omega arith)) in
    subst (λ (to : Branch). Spans s.classes s.branches leg from to.first) same
    (subst (λ (n : ℕ). Spans s.classes s.branches leg n b.first) (sym first) spans)

first_within : (branches : List Branch) (end leg : ℕ) → Ascend 0 branches end → leg ≤ length branches
    → first_from 0 branches leg ≤ end
first_within branches end zero ascend within = omega arith
first_within branches end (suc n) ascend within =
    let one : IsPlaced (first_from 0 branches n) (get_or branches n no_branch).first end =
    placed 0 branches end n ascend (omega arith) in
    omega (arith, one.within)

classes_last : (s : DeclaredStream) → IsStream s → Spans s.classes s.branches (length s.branches)
    (first_from 0 s.branches (length s.branches)) (length s.classes)
classes_last s is =
    let from : ℕ = first_from 0 s.branches (length s.branches) in
    let within : from ≤ length s.classes =
    first_within s.branches (length s.classes) (length s.branches) (ascend_classes s is) (omega arith) in
    record {
      ordered = within;
      within = omega arith;
      leg_is = take_all (length s.classes - from) (drop from s.classes)
          (omega (arith, length-drop from s.classes, within)) ∙ sym (leg_last 0 s.classes s.branches);
    }

-- and those of the last leg up to the end
pub classes_behind : (s : DeclaredStream) (classes : List ℕ) (leg from legs : ℕ) → IsStream s
    → from ≡ first_from 0 s.branches leg → legs ≡ 1 + length s.branches → leg + 1 ≡ legs → classes ≡ s.classes
    → Spans s.classes s.branches leg from (length classes)
classes_behind s classes leg from legs is first many at classes_are =
    let last : leg ≡ length s.branches = omega (arith, many, at) in
    subst (λ (l : List ℕ). Spans s.classes s.branches leg from (length l)) (sym classes_are)
    (subst (λ (n : ℕ). Spans s.classes s.branches leg n (length s.classes)) (sym first)
    (subst (λ (l : ℕ). Spans s.classes s.branches l (first_from 0 s.branches l) (length s.classes)) (sym last)
    (classes_last s is)))

-- the lines of the branches, as far as the leg with a number
abbrev pub lines_to : DeclaredTopology → DeclaredStream → ℕ → List ℕ
lines_to topology s leg =
    flat_map (λ (b : ℕ × Branch). listener_line topology s b.0) (take (leg - 1) (enumerate_from 1 s.branches))

-- the line of the next branch
pub next_listener : (topology : DeclaredTopology) (s : DeclaredStream) (leg : ℕ) (x before after : List ℕ) → 1 ≤ leg
    → leg < 1 + length s.branches → before ≡ x ++ lines_to topology s leg
    → after ≡ before ++ listener_line topology s leg → after ≡ x ++ lines_to topology s (leg + 1)
next_listener topology s leg x before after some within so_far line =
    let Numbered : Type 0 = ℕ × Branch in
    let f : Numbered → List ℕ = λ (b : ℕ × Branch). listener_line topology s b.0 in
    let numbered : List Numbered = enumerate_from 1 s.branches in
    let n : ℕ = leg - 1 in
    let here : Numbered = get_or numbered n (0, no_branch) in
    let inside : n < length numbered = omega (arith, length-enumerate_from 1 s.branches, some, within) in
    let own : n < length s.branches = omega (arith, some, within) in
    let number : here.0 ≡ leg =
    ap (λ (b : ℕ × Branch). b.0) (get_or-enumerate_from 1 s.branches n (0, no_branch) own) ∙ omega (arith, some) in
    let next : (leg + 1) - 1 ≡ n + 1 = omega (arith, some) in
    let more : take ((leg + 1) - 1) numbered ≡ take n numbered ++ here ∷ [] =
    ap (λ (k : ℕ). take k numbered) next ∙ take_more numbered n (0, no_branch) inside in
    line ∙ ap (λ (k : ℕ). before ++ listener_line topology s k) (sym number)
    ∙ ap (λ (t : List ℕ). t ++ f here) so_far ∙ flat_map_more f x (take n numbered) here
    ∙ sym (ap (λ (l : List (ℕ × Branch)). x ++ flat_map f l) more)

-- all branches are the first so many
pub all_listeners : (topology : DeclaredTopology) (s : DeclaredStream) (leg : ℕ) (x text : List ℕ)
    → 1 + length s.branches ≤ leg → text ≡ x ++ lines_to topology s leg
    → text ≡ x ++ flat_map (λ (b : ℕ × Branch). listener_line topology s b.0) (enumerate_from 1 s.branches)
all_listeners topology s leg x text end written =
    written ∙ ap (λ (l : List (ℕ × Branch)). x ++ flat_map (λ (b : ℕ × Branch). listener_line topology s b.0) l)
    (take_all (leg - 1) (enumerate_from 1 s.branches) (omega (arith, length-enumerate_from 1 s.branches, end)))

named : (x word space name station classes path end : List ℕ)
    → (((((x ++ (word ++ space ++ name ++ space)) ++ station) ++ space) ++ classes) ++ path) ++ end
    ≡ x ++ (word ++ space ++ (name ++ space ++ station) ++ space ++ classes ++ path ++ end)
named x word space name station classes path end = simp append_assoc

-- a word, a name and that of a station, classes and ports, written one after another
pub named_written : (x word space name station classes path end one two three four five six : List ℕ)
    → one ≡ x ++ (word ++ space ++ name ++ space) → two ≡ one ++ station → three ≡ two ++ space
    → four ≡ three ++ classes → five ≡ four ++ path → six ≡ five ++ end
    → six ≡ x ++ (word ++ space ++ (name ++ space ++ station) ++ space ++ classes ++ path ++ end)
named_written x word space name station classes path end one two three four five six p q r s t u =
    u ∙ ap (λ (z : List ℕ). z ++ end) (t ∙ ap (λ (z : List ℕ). z ++ path) (s ∙ ap (λ (z : List ℕ). z ++ classes)
    (r ∙ ap (λ (z : List ℕ). z ++ space) (q ∙ ap (λ (z : List ℕ). z ++ station) p))))
    ∙ named x word space name station classes path end
