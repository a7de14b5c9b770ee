use Rattle.std.proofs.Common.{◌≡◌, ℕ, zero, suc, ◌<◌, ◌^◌, false, true, List, [], ◌∷◌, length, All, Contains, refl}
use Rattle.std.proofs.Common.{arith, lit<}
use Rattle.std.specs.Prelude.{slice_index_or}
use Rattle.std.proofs.lemmas.Bool.{false≢true}
use Rattle.std.proofs.lemmas.List.Elements.{All-contains}
use Rattle.ats_requests.specs.declared.answer.Answer.TheVariants.{Withdrawn}
use Rattle.ats_text_law.specs.Answers.{IsShortAnswer, IsShortReason}
use Rattle.ats_number_examples.specs.Answered.{AnswersAreJustThese, AnswersAreMeant, PlainAnswersAreMeant}
use Rattle.ats_number_examples.specs.Answered.{ReasonsAreMeant, WorkedAnswersAreMeant}
use Rattle.ats_number_examples.proofs.PremiseProofs.{premises_are_met}

-- What answers have to be so that a text can hold them.

-- the element at a place stands there
stands : {A : Type 0} (xs : List A) (i : ℕ) (e : A) → i < length xs
    → slice_index_or xs i (slice_index_or xs i e) ≡ slice_index_or xs i e
stands {A} [] i e h = absurd (omega (arith, h))
stands {A} (x ∷ xs) zero e h = refl
stands {A} (x ∷ xs) (suc i) e h = stands xs i e (omega (arith, h))

-- what holds of each element that a list has holds of each place in it
of_each : {A : Type 0} (Is : A → Type 0) (xs : List A) → ((x : A) → Contains xs x → Is x) → All Is xs
of_each {A} Is xs is k d h = is (slice_index_or xs k d) (k, h, stands xs k d h)

plain : PlainAnswersAreMeant
plain = record {
  admitted = λ ports class sum. (λ is. is, λ is. is);
  withdrawn = λ ports. tt;
  name_taken = λ ports. tt;
  name_unknown = λ ports. tt;
  limit = λ ports. tt;
}

reasons : ReasonsAreMeant
reasons = record {
  overloaded = λ ports port class load. (λ is. is, λ is. is);
  residence = λ ports port class need. (λ is. is, λ is. is);
  deadline = λ ports sum stream. (λ is. (is.0, is.2), λ is. (is.0, tt, is.1));
  for_listener = λ ports sum stream listener. (λ is. is, λ is. is);
  no_class = λ ports given. (
    λ is. (is.0, λ reason among. All-contains (IsShortReason ports) given reason is.1 among),
    λ is. (is.0, of_each (IsShortReason ports) given is.1),
  );
}

just_these : AnswersAreJustThese
just_these ports requests answers = (
  λ are. (are.one_each, λ answer among. All-contains (IsShortAnswer ports) answers answer are.short among),
  λ is. record { one_each = is.0; short = of_each (IsShortAnswer ports) answers is.1 },
)

-- a number of 65 digits has not at most 64
not_short : ¬ (10 ^ 64 < 10 ^ 64)
not_short h = absurd (omega (arith, h))

worked : WorkedAnswersAreMeant
worked = record {
  six = premises_are_met.answers.one;
  none = record { one_each = refl; short = λ k d h. absurd (omega (arith, h)) };
  one_less = λ are. (let e : ◌≡◌ {A = ℕ} 1 2 = are.one_each in absurd (omega arith));
  one_more = λ are. (let e : ◌≡◌ {A = ℕ} 1 0 = are.one_each in absurd (omega arith));
  long_class = λ are. not_short (are.short 0 Withdrawn (lit< tt)).0;
  long_sum = λ are. not_short (are.short 0 Withdrawn (lit< tt)).1;
  long_second = λ are. not_short (are.short 1 Withdrawn (lit< tt)).1;
  no_port = λ are. (let h : 8 < 8 = (are.short 0 Withdrawn (lit< tt)).0 in absurd (omega (arith, h)));
  no_name = λ are. (let h : false ≡ true = (are.short 0 Withdrawn (lit< tt)).0 in absurd (false≢true h));
  six_reasons = λ are. (let e : ◌≡◌ {A = ℕ} 6 7 = (are.short 0 Withdrawn (lit< tt)).0 in absurd (omega arith));
}

pub answers_are_meant : AnswersAreMeant
answers_are_meant = record { plain = plain; reasons = reasons; all = just_these; worked = worked }
