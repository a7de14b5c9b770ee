-- What a certificate that holds with narrowed bursts promises of the network as it is declared. No deadline and no line
-- of the text reads a burst.
use Rattle.std.proofs.Common.{◌≡◌, ◌∙◌, ℕ, List, [], ◌∷◌, ◌++◌, length, map, All, Result, Ok, Err, refl, ap}
use Rattle.std.proofs.Common.{subst, arith}
use Rattle.std.specs.Prelude.{codes, decimal, IfOk, OnOk}
use Rattle.std.specs.Global.{Vec}
use Rattle.std.specs.List.{flat_map}
use Rattle.std.proofs.lemmas.List.{length-map}
use Rattle.std.proofs.lemmas.List as lists
use Rattle.ats_topology.specs.Topology.{DeclaredTopology}
use Rattle.ats_streams.specs.Stream.{DeclaredStream}
use Rattle.ats_network.specs.Network.{DeclaredNetwork, IsNetwork}
use Rattle.ats_certificate.specs.Certificate.{Holds, IsInTime}
use Rattle.ats_certificate.specs.declared.row.Row.{Row}
use Rattle.ats_checker.specs.InTime.{FramesAreInTimeBy}
use Rattle.ats_checker.proofs.InTime.{sound_is_on_time}
use Rattle.ats_verdict_text.specs.Text.{accepted_text, hop_line, listener_lines, stream_lines}
use Rattle.ats_lrq.specs.Judge.{lrq_judge, spacing_rule}
use Rattle.ats_lrq.specs.Narrow.{narrowed, narrowed_stream}
use Rattle.ats_lrq_law.proofs.Narrowed.{narrowed_is_sound}
use Rattle.ats_command_input.specs.declared.outcome.Stop.{Stop}
use Rattle.ats_command_due.specs.Soundness.{IsSoundTextBy, lrq_runs}

-- streams are in time where they are with narrowed bursts
in_time_as_declared : (rows : List Row) (streams : List DeclaredStream)
    → All (IsInTime rows) (map narrowed_stream streams) → All (IsInTime rows) streams
in_time_as_declared rows streams all = λ i d h.
    subst (IsInTime rows) (lists.get_or-map narrowed_stream streams i d (narrowed_stream d) h)
    (all i (narrowed_stream d) (omega (arith, length-map streams narrowed_stream)))

-- by a certificate that holds with narrowed bursts frames are in time
pub narrowed_is_in_time : (network : DeclaredNetwork) (rows : List Row) → IsNetwork network
    → Holds (narrowed network) rows → FramesAreInTimeBy lrq_runs network rows
narrowed_is_in_time network rows is holds =
    sound_is_on_time lrq_runs network rows (narrowed_is_sound network rows is holds)
    (in_time_as_declared rows network.streams holds.deadlines)

same_lines : (topology : DeclaredTopology) (rows : List Row) (streams : List DeclaredStream)
    → flat_map (stream_lines topology rows) (map narrowed_stream streams)
    ≡ flat_map (stream_lines topology rows) streams
unfolding hop_line listener_lines
same_lines topology rows [] = refl
same_lines topology rows (s ∷ streams) =
    ap (λ (text : List ℕ). stream_lines topology rows s ++ text) (same_lines topology rows streams)

-- the text of rows is the same with narrowed bursts
pub same_text : (network : DeclaredNetwork) (rows : List Row)
    → accepted_text (narrowed network) rows ≡ accepted_text network rows
same_text network rows =
    ap (λ (text : List ℕ). text ++ codes "accepted " ++ decimal (length (map narrowed_stream network.streams))
    ++ codes "\n") (same_lines network.topology rows network.streams)
    ∙ ap (λ (n : ℕ). flat_map (stream_lines network.topology rows) network.streams ++ codes "accepted " ++ decimal n
    ++ codes "\n") (length-map network.streams narrowed_stream)

-- so the text of a certificate that holds with narrowed bursts is that of sound bounds
pub narrowed_text_is_sound : (network : DeclaredNetwork) (rows : List Row) (text : List ℕ) → IsNetwork network
    → Holds (narrowed network) rows → text ≡ accepted_text (narrowed network) rows
    → IsSoundTextBy lrq_runs network rows text
narrowed_text_is_sound network rows text is holds written = record {
  sound = narrowed_is_sound network rows is holds;
  in_time = narrowed_is_in_time network rows is holds;
  written = written ∙ same_text network rows;
}

-- what holds of the text of a certificate that holds
pub holding_then : (result : Result (Vec ℕ) Stop) (H : Type 0) (P Q : List ℕ → Type 0) → OnOk result H
    → IfOk result (λ (text : Vec ℕ). P text.items) → ((text : List ℕ) → H → P text → Q text)
    → IfOk result (λ (text : Vec ℕ). Q text.items)
holding_then (Ok text) H P Q holds p then = then text.items holds p
holding_then (Err stop) H P Q holds p then = tt
