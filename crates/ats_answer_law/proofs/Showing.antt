-- What the answers to `shape` and `show` mean.
use Rattle.std.proofs.Common.{◌≡◌, ℕ, List, Result, Ok, Err, refl, sym, subst}
use Rattle.std.specs.Prelude.{MatchResult}
use Rattle.ats_num.specs.Failure.{◌>>=◌}
use Rattle.ats_network.specs.Network.{DeclaredNetwork, IsNetwork}
use Rattle.ats_network_text.specs.Text.{show_text}
use Rattle.ats_shape.specs.FaultText as shape
use Rattle.ats_shape.specs.Reading.{shape_of}
use Rattle.ats_shape.specs.Shape.{DeclaredShape}
use Rattle.ats_shape.specs.Text.{text_of}
use Rattle.ats_command_input.specs.Answer.{Answer, settled}
use Rattle.ats_command_input.specs.Input.{network_in, shape_in}
use Rattle.ats_command_due.specs.Due.{shape_answer, show_answer, told_bytes}
use Rattle.ats_command_law.proofs.Meanings.{IsInput, file_gives, network_gives, none_declared}
use Rattle.ats_answer_law.specs.Due.{ShapeIsDue, ShowIsDue}
use Rattle.ats_answer_law.specs.Shown.{ShapeSays, ShowSays}
use Rattle.ats_answer_law.proofs.Dues.{of_told}

shape_gives : (file bytes : List ℕ) → MatchResult (shape_in file bytes) (λ (shape : DeclaredShape). Unit {0}) IsInput
unfolding shape_in
shape_gives file bytes = file_gives 16777216 file bytes shape.fault_text shape_of (λ (shape : DeclaredShape). Unit {0})
    (λ text shape read. tt)

shape_says : (file bytes : List ℕ) (declared : Result DeclaredShape Answer) → shape_in file bytes ≡ declared
    → MatchResult declared (λ (shape : DeclaredShape). Unit {0}) IsInput
    → (let answer = settled (declared >>= λ shape. Ok (text_of shape)) in
    ShapeSays file bytes answer.text answer.status)
shape_says file bytes (Ok shape) is any = (shape, record { declared = is; written = refl })
shape_says file bytes (Err answer) is input =
    subst (ShapeSays file bytes answer.text) (sym input) (none_declared (shape_in file bytes) answer is)

shape_means : (file bytes : List ℕ)
    → ShapeSays file bytes (shape_answer file bytes).text (shape_answer file bytes).status
unfolding shape_answer
shape_means file bytes = shape_says file bytes (shape_in file bytes) refl (shape_gives file bytes)

pub shape_is_due : ShapeIsDue
shape_is_due file told answer due =
    let bytes : List ℕ = told_bytes told file in
    of_told told file (λ bytes. ShapeSays file bytes answer.text answer.status) due.is_told
    (subst (λ (a : Answer). ShapeSays file bytes a.text a.status) (sym due.answers) (shape_means file bytes))

show_says : (net bytes : List ℕ) (declared : Result DeclaredNetwork Answer) → network_in net bytes ≡ declared
    → MatchResult declared IsNetwork IsInput
    → (let answer = settled (declared >>= λ network. Ok (show_text network)) in
    ShowSays net bytes answer.text answer.status)
show_says net bytes (Ok network) is rules = (network, record { declared = is; rules = rules; written = refl })
show_says net bytes (Err answer) is input =
    subst (ShowSays net bytes answer.text) (sym input) (none_declared (network_in net bytes) answer is)

show_means : (net bytes : List ℕ) → ShowSays net bytes (show_answer net bytes).text (show_answer net bytes).status
unfolding show_answer
show_means net bytes = show_says net bytes (network_in net bytes) refl (network_gives net bytes)

pub show_is_due : ShowIsDue
show_is_due net told answer due =
    let bytes : List ℕ = told_bytes told net in
    of_told told net (λ bytes. ShowSays net bytes answer.text answer.status) due.is_told
    (subst (λ (a : Answer). ShowSays net bytes a.text a.status) (sym due.answers) (show_means net bytes))
