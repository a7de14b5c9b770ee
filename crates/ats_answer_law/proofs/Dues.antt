-- What each answer that is due says of the bytes that are told, by what the answers mean.
use Rattle.std.proofs.Common.{◌≡◌, ℕ, List, [], ◌∷◌, Option, Some, None, refl, sym, subst}
use Rattle.std.specs.Prelude.{All, IsSome, unwrap_or}
use Rattle.std.proofs.lemmas.List.Elements.{All-head, All-tail}
use Rattle.ats_command_input.specs.Answer.{Answer}
use Rattle.ats_command_due.specs.Due.{told_bytes}
use Rattle.ats_command_law.specs.AdmitMeaning.{AdmitMeans, AdmitSays}
use Rattle.ats_command_law.specs.BufferMeaning.{BuffersMean, BuffersSay, PeaksMean, PeaksSay}
use Rattle.ats_command_law.specs.CaptureMeaning.{CaptureMeans, CaptureSays}
use Rattle.ats_command_law.specs.ConformMeaning.{ConformMeans, ConformSays}
use Rattle.ats_command_law.specs.ExplainMeaning.{ExplainMeans, ExplainSays}
use Rattle.ats_command_law.specs.FitMeaning.{FitMeans, FitSays}
use Rattle.ats_command_law.specs.GenerateMeaning.{GenerateMeans, GenerateSays}
use Rattle.ats_command_law.specs.LrqMeaning.{LrqBoundMeans, LrqBoundSays, LrqCheckMeans, LrqCheckSays}
use Rattle.ats_command_law.specs.LrqMeaning.{LrqShapeMeans, LrqShapeSays}
use Rattle.ats_command_law.specs.Meaning.{BoundMeans, BoundSays, CheckMeans, CheckSays}
use Rattle.ats_command_law.specs.RecordMeaning.{RecordMeans, RecordSays}
use Rattle.ats_command_law.specs.ReleasesMeaning.{ReleasesMean, ReleasesSay}
use Rattle.ats_command_law.specs.ReplayMeaning.{ReplayMeans, ReplaySays}
use Rattle.ats_command_law.specs.SettingsMeaning.{SettingsMean, SettingsSay}
use Rattle.ats_command_law.specs.WitnessMeaning.{WitnessMeans, WitnessSays}
use Rattle.ats_answer_law.specs.Due.{Told, Of, OfBoth, BoundIsDue, ExplainIsDue, CheckIsDue, ConformIsDue, AdmitIsDue}
use Rattle.ats_answer_law.specs.Due.{ReplayIsDue, CaptureIsDue, GenerateIsDue, WordsAreDue, OfThree, SettingsAreDue}
use Rattle.ats_answer_law.specs.Due.{BuffersAreDue, PeaksAreDue, LrqShapeIsDue, LrqBoundIsDue, LrqCheckIsDue}
use Rattle.ats_answer_law.specs.Due.{RecordIsDue, WitnessIsDue, ReleasesAreDue, FitIsDue}

some_is : (o : Option (List ℕ)) → IsSome o → o ≡ Some (unwrap_or o [])
some_is None h = cc
some_is (Some bytes) h = refl

-- what holds of the bytes that are told, where some are
pub of_told : (told : Told) (file : List ℕ) (Holds : List ℕ → Type 0)
    → All (λ (name : List ℕ). IsSome (told name)) (file ∷ []) → Holds (told_bytes told file) → Of told file Holds
of_told told file Holds all holds =
    (told_bytes told file, some_is (told file) (All-head (λ (name : List ℕ). IsSome (told name)) file [] all), holds)

pub of_both : (told : Told) (net file : List ℕ) (Holds : List ℕ → List ℕ → Type 0)
    → All (λ (name : List ℕ). IsSome (told name)) (net ∷ file ∷ [])
    → Holds (told_bytes told net) (told_bytes told file) → OfBoth told net file Holds
of_both told net file Holds all holds = (
  told_bytes told net,
  some_is (told net) (All-head (λ (name : List ℕ). IsSome (told name)) net (file ∷ []) all),
  of_told told file (Holds (told_bytes told net)) (All-tail (λ (name : List ℕ). IsSome (told name)) net (file ∷ []) all)
      holds,
)

pub of_three : (told : Told) (net second third : List ℕ) (Holds : List ℕ → List ℕ → List ℕ → Type 0)
    → All (λ (name : List ℕ). IsSome (told name)) (net ∷ second ∷ third ∷ [])
    → Holds (told_bytes told net) (told_bytes told second) (told_bytes told third)
    → OfThree told net second third Holds
of_three told net second third Holds all holds = (
  told_bytes told net,
  some_is (told net) (All-head (λ (name : List ℕ). IsSome (told name)) net (second ∷ third ∷ []) all),
  of_both told second third (Holds (told_bytes told net))
      (All-tail (λ (name : List ℕ). IsSome (told name)) net (second ∷ third ∷ []) all) holds,
)

pub bound_is_due : BoundMeans → BoundIsDue
bound_is_due means net told answer due =
    let bytes : List ℕ = told_bytes told net in
    of_told told net (λ bytes. BoundSays net bytes answer.text answer.status) due.is_told
    (subst (λ (a : Answer). BoundSays net bytes a.text a.status) (sym due.answers) (means net bytes))

pub explain_is_due : ExplainMeans → ExplainIsDue
explain_is_due means net told answer due =
    let bytes : List ℕ = told_bytes told net in
    of_told told net (λ bytes. ExplainSays net bytes answer.text answer.status) due.is_told
    (subst (λ (a : Answer). ExplainSays net bytes a.text a.status) (sym due.answers) (means net bytes))

pub check_is_due : CheckMeans → CheckIsDue
check_is_due means net certificate told answer due =
    let net_bytes : List ℕ = told_bytes told net in
    let bytes : List ℕ = told_bytes told certificate in
    of_both told net certificate
    (λ net_bytes bytes. CheckSays net certificate net_bytes bytes answer.text answer.status) due.is_told
    (subst (λ (a : Answer). CheckSays net certificate net_bytes bytes a.text a.status) (sym due.answers)
    (means net certificate net_bytes bytes))

pub conform_is_due : ConformMeans → ConformIsDue
conform_is_due means net schedule told answer due =
    of_both told net schedule
    (λ net_bytes bytes. ConformSays net schedule net_bytes bytes answer.text answer.status) due.is_told
    (means net schedule (told_bytes told net) (told_bytes told schedule) answer due.answers)

pub admit_is_due : AdmitMeans → AdmitIsDue
admit_is_due means net requests told answer due =
    let net_bytes : List ℕ = told_bytes told net in
    let bytes : List ℕ = told_bytes told requests in
    of_both told net requests
    (λ net_bytes bytes. AdmitSays net requests net_bytes bytes answer.text answer.status) due.is_told
    (subst (λ (a : Answer). AdmitSays net requests net_bytes bytes a.text a.status) (sym due.answers)
    (means net requests net_bytes bytes))

pub replay_is_due : ReplayMeans → ReplayIsDue
replay_is_due means net schedule order told answer due =
    of_both told net schedule
    (λ net_bytes bytes. ReplaySays net schedule net_bytes bytes order answer.text answer.status) due.is_told
    (means net schedule (told_bytes told net) (told_bytes told schedule) order answer due.answers)

pub capture_is_due : CaptureMeans → CaptureIsDue
capture_is_due means net station file order told answer due =
    of_both told net file
    (λ net_bytes bytes. CaptureSays net station file net_bytes bytes order answer.text answer.status) due.is_told
    (means net station file (told_bytes told net) (told_bytes told file) order answer due.answers)

pub generate_is_due : GenerateMeans → GenerateIsDue
generate_is_due means net seed count told answer due =
    of_told told net (λ bytes. GenerateSays net bytes seed count answer.text answer.status) due.is_told
    (means net (told_bytes told net) seed count answer due.answers)

pub settings_are_due : SettingsMean → SettingsAreDue
settings_are_due means net told answer due =
    of_told told net (λ bytes. SettingsSay net bytes answer.text answer.status) due.is_told
    (means net (told_bytes told net) answer due.answers)

pub buffers_are_due : BuffersMean → BuffersAreDue
buffers_are_due means net certificate told answer due =
    let net_bytes : List ℕ = told_bytes told net in
    let bytes : List ℕ = told_bytes told certificate in
    of_both told net certificate
    (λ net_bytes bytes. BuffersSay net certificate net_bytes bytes answer.text answer.status) due.is_told
    (subst (λ (a : Answer). BuffersSay net certificate net_bytes bytes a.text a.status) (sym due.answers)
    (means net certificate net_bytes bytes))

pub peaks_are_due : PeaksMean → PeaksAreDue
peaks_are_due means net certificate schedule order told answer due =
    of_three told net certificate schedule
    (λ net_bytes rows_bytes bytes.
    PeaksSay net certificate schedule net_bytes rows_bytes bytes order answer.text answer.status) due.is_told
    (means net certificate schedule (told_bytes told net) (told_bytes told certificate) (told_bytes told schedule) order
    answer due.answers)

pub lrq_shape_is_due : LrqShapeMeans → LrqShapeIsDue
lrq_shape_is_due means file told answer due =
    let bytes : List ℕ = told_bytes told file in
    of_told told file (λ bytes. LrqShapeSays file bytes answer.text answer.status) due.is_told
    (subst (λ (a : Answer). LrqShapeSays file bytes a.text a.status) (sym due.answers) (means file bytes))

pub lrq_bound_is_due : LrqBoundMeans → LrqBoundIsDue
lrq_bound_is_due means net told answer due =
    let bytes : List ℕ = told_bytes told net in
    of_told told net (λ bytes. LrqBoundSays net bytes answer.text answer.status) due.is_told
    (subst (λ (a : Answer). LrqBoundSays net bytes a.text a.status) (sym due.answers) (means net bytes))

pub lrq_check_is_due : LrqCheckMeans → LrqCheckIsDue
lrq_check_is_due means net certificate told answer due =
    let net_bytes : List ℕ = told_bytes told net in
    let bytes : List ℕ = told_bytes told certificate in
    of_both told net certificate
    (λ net_bytes bytes. LrqCheckSays net certificate net_bytes bytes answer.text answer.status) due.is_told
    (subst (λ (a : Answer). LrqCheckSays net certificate net_bytes bytes a.text a.status) (sym due.answers)
    (means net certificate net_bytes bytes))

pub record_is_due : RecordMeans → RecordIsDue
record_is_due means net schedule port order told answer due =
    of_both told net schedule
    (λ net_bytes bytes. RecordSays net schedule port net_bytes bytes order answer.text answer.status) due.is_told
    (means net schedule port (told_bytes told net) (told_bytes told schedule) order answer due.answers)

pub witness_is_due : WitnessMeans → WitnessIsDue
witness_is_due means net name told answer due =
    of_told told net (λ bytes. WitnessSays net name bytes answer.text answer.status) due.is_told
    (means net name (told_bytes told net) answer due.answers)

pub releases_are_due : ReleasesMean → ReleasesAreDue
releases_are_due means net station file told answer due =
    let net_bytes : List ℕ = told_bytes told net in
    let bytes : List ℕ = told_bytes told file in
    of_both told net file
    (λ net_bytes bytes. ReleasesSay net station file net_bytes bytes answer.text answer.status) due.is_told
    (subst (λ (a : Answer). ReleasesSay net station file net_bytes bytes a.text a.status) (sym due.answers)
    (means net station file net_bytes bytes))

pub fit_is_due : FitMeans → FitIsDue
fit_is_due means net schedule told answer due =
    of_both told net schedule
    (λ net_bytes bytes. FitSays net schedule net_bytes bytes answer.text answer.status) due.is_told
    (means net schedule (told_bytes told net) (told_bytes told schedule) answer due.answers)

pub words_are_due : WordsAreDue
words_are_due told answer due = due.answers
