use Rattle.std.proofs.Common.{◌≡◌, ℕ, zero, suc, ◌<◌, List, [], ◌∷◌, length, All, Contains, IsSome, refl, arith}
use Rattle.std.specs.Prelude.{slice_index_or}
use Rattle.std.proofs.lemmas.List.Elements.{All-contains}
use Rattle.ats_command_input.specs.Command.{file_words}
use Rattle.ats_promise_law.specs.Told.{DueAnswersAreMeant}

-- Each file word by itself.

-- the element at a place stands there
stands : {A : Type 0} (xs : List A) (i : ℕ) (e : A) → i < length xs
    → slice_index_or xs i (slice_index_or xs i e) ≡ slice_index_or xs i e
stands {A} [] i e h = absurd (omega (arith, h))
stands {A} (x ∷ xs) zero e h = refl
stands {A} (x ∷ xs) (suc i) e h = stands xs i e (omega (arith, h))

-- what holds of each element that a list has holds of each place in it
of_each : {A : Type 0} (Is : A → Type 0) (xs : List A) → ((x : A) → Contains xs x → Is x) → All Is xs
of_each {A} Is xs is k d h = is (slice_index_or xs k d) (k, h, stands xs k d h)

pub due_answers_are_meant : DueAnswersAreMeant
due_answers_are_meant = record {
  told = λ told command. (
    λ is name among. All-contains (λ (name : List ℕ). IsSome (told name)) (file_words command) name is among,
    λ is. of_each (λ (name : List ℕ). IsSome (told name)) (file_words command) is,
  );
  bytes = λ told name. refl;
  due = λ told command answer. (
    λ is. (is.is_told, is.answers),
    λ is. record { is_told = is.0; answers = is.1 },
  );
}
