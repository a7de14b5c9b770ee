-- The printed bounds and sums are those of which soundness speaks.
use Rattle.std.proofs.Common.{◌≡◌, ℕ, zero, suc, ◌+◌, List, [], ◌∷◌, ◌++◌, length, Some, refl, sym, ap, subst, ◌∙◌}
use Rattle.std.proofs.Common.{arith}
use Rattle.std.specs.Prelude.{codes, decimal, slice_get}
use Rattle.std.specs.List.{enumerate_from, flat_map}
use Rattle.ats_verdict_text.specs.Stream.{DeclaredStream}
use Rattle.ats_network.specs.Listeners.{listeners_by}
use Rattle.ats_network.specs.Sender.{Sender, stream_sender}
use Rattle.ats_streams.specs.Branches.{legs_of}
use Rattle.ats_topology.specs.Topology.{DeclaredTopology}
use Rattle.ats_certificate.specs.declared.row.Row.{Row}
use Rattle.ats_soundness_law.specs.Sound.{bounds_of}
use Rattle.ats_trace.specs.Ways.{routes_by}
use Rattle.ats_verdict_text.specs.Text.{hop_line, listener_lines, stream_lines}
use Rattle.ats_checker.proofs.InTime.{sender_of_stream}
use Rattle.ats_command_law.specs.Laws.{AcceptedTextIsSound, lines_by, PrintedBoundsAreSound, sound_lines}

-- the lines of a stream go by the bounds of its sender
lines_of_sender : (topology : DeclaredTopology) (rows : List Row) (stream : DeclaredStream)
    → stream_lines topology rows stream
    ≡ flat_map (lines_by topology stream.name (bounds_of rows (stream_sender stream)))
    (listeners_by topology (legs_of (stream_sender stream).ports (stream_sender stream).branches)
    (routes_by (stream_sender stream)))
unfolding listener_lines hop_line
lines_of_sender topology rows stream = refl

pub printed_bounds_are_sound : PrintedBoundsAreSound
printed_bounds_are_sound network rows i stream named =
    subst (λ (s : Sender). stream_lines network.topology rows stream
    ≡ flat_map (lines_by network.topology stream.name (bounds_of rows s))
    (listeners_by network.topology (legs_of s.ports s.branches) (routes_by s)))
    (sym (sender_of_stream network i stream named)) (lines_of_sender network.topology rows stream)

-- what is written of each element by itself, and by its number as well
by_number : {X A : Type 0} (f : X → List A) (g : ℕ × X → List A) (n : ℕ) (xs : List X)
    → ((k : ℕ) (x : X) → slice_get xs k ≡ Some x → f x ≡ g (n + k, x))
    → flat_map f xs ≡ flat_map g (enumerate_from n xs)
by_number f g n [] same = refl
by_number {X} f g n (x ∷ xs) same =
    let first : f x ≡ g (n, x) =
    same zero x refl ∙ ap (λ (m : ℕ). g (m, x)) (let e : n + zero ≡ n = omega arith in e) in
    let rest : flat_map f xs ≡ flat_map g (enumerate_from (n + 1) xs) =
    by_number f g (n + 1) xs
    (λ k y at. same (suc k) y at ∙ ap (λ (m : ℕ). g (m, y)) (let e : n + suc k ≡ n + 1 + k = omega arith in e)) in
    ap (λ t. t ++ flat_map f xs) first ∙ ap (λ t. g (n, x) ++ t) rest

pub accepted_text_is_sound : AcceptedTextIsSound
accepted_text_is_sound network rows =
    ap (λ (t : List ℕ). t ++ codes "accepted " ++ decimal (length network.streams) ++ codes "\n")
    (by_number (stream_lines network.topology rows) (sound_lines network rows) 0 network.streams
    (λ k stream named. printed_bounds_are_sound network rows k stream named
    ∙ ap (λ (m : ℕ). sound_lines network rows (m, stream)) (let e : k ≡ 0 + k = omega arith in e)))
