-- The texts of a stream with one listener.
use Rattle.std.proofs.Common.{◌≡◌, ℕ, List, [], ◌∷◌, ◌++◌, None, refl, ap, ◌∙◌}
use Rattle.std.specs.List.{flat_map, zip}
use Rattle.std.proofs.lemmas.List.{append-nil}
use Rattle.std.proofs.lemmas.List.Concat.{flat_map-cons}
use Rattle.ats_streams.specs.Branches.{legs_of}
use Rattle.ats_streams.specs.Stream.{DeclaredStream}
use Rattle.ats_streams.specs.declared.branch.Branch.{Branch}
use Rattle.ats_topology.specs.Topology.{DeclaredTopology}
use Rattle.ats_network.specs.Listeners.{Listener}
use Rattle.ats_certificate.specs.declared.row.Row.{Row}
use Rattle.ats_explain.specs.declared.margin.Margin.{Margin}
use Rattle.ats_verdict_text.specs.Text as checked
use Rattle.ats_explain_text.specs.Text as explained
use Rattle.ats_listener_law.proofs.Alone.{one_listener_has_all_ports}
use Rattle.ats_show_law.specs.Laws.{line_of}
use Rattle.ats_show_law.proofs.Lines as each
use Rattle.ats_one_listener_law.specs.Laws.{CheckTellsOneSum, ExplainTellsOneMargin, ShowTellsOneLine}
use Rattle.ats_one_listener_law.specs.Laws.{lines_and_sum, margin_along, margin_line}

-- what is made of one element
of_one : {X : Type 0} (f : X → List ℕ) (x : X) → flat_map f (x ∷ []) ≡ f x
of_one f x = flat_map-cons f x [] ∙ append-nil (f x)

-- the one listener of a stream without branches
abbrev alone_of : DeclaredStream → Listener
alone_of s = record { name = None; leg = s.ports; route = s.ports }

-- its lines in the text of `check`
checked_lines : (topology : DeclaredTopology) (rows : List Row) (s : DeclaredStream)
    → checked.listener_lines topology rows s (alone_of s) ≡ lines_and_sum topology rows s
unfolding checked.listener_lines
checked_lines topology rows s = refl

pub check_tells_one_sum : CheckTellsOneSum
check_tells_one_sum topology rows s alone =
    ap (flat_map (checked.listener_lines topology rows s)) (one_listener_has_all_ports topology s alone)
    ∙ of_one (checked.listener_lines topology rows s) (alone_of s)
    ∙ checked_lines topology rows s

-- its line in the text of `explain`
explained_line : (name : List ℕ) (margin : Margin) → explained.stream_line name None margin ≡ margin_line name margin
unfolding explained.stream_line
explained_line name margin = refl

pub explain_tells_one_margin : ExplainTellsOneMargin
explain_tells_one_margin network s alone =
    ap (flat_map (explained.listener_lines network s)) (one_listener_has_all_ports network.topology s alone)
    ∙ of_one (explained.listener_lines network s) (alone_of s)
    ∙ ap (λ (l : List ℕ). l ++ flat_map (explained.hop_text network s) s.ports)
    (explained_line s.name (margin_along network s))

pub show_tells_one_line : ShowTellsOneLine
show_tells_one_line topology s alone =
    each.show_tells_each_listener topology s
    ∙ ap (λ (ls : List Listener). flat_map (line_of topology s) (zip ls (legs_of s.classes s.branches)))
    (one_listener_has_all_ports topology s alone)
    ∙ ap (λ (bs : List Branch). flat_map (line_of topology s) (zip (alone_of s ∷ []) (legs_of s.classes bs))) alone
    ∙ of_one (line_of topology s) (alone_of s, s.classes)
