-- A command comes to a file behind another only where that one has no fault.
use Rattle.std.proofs.Common.{◌⊎◌, inl, inr}
use Rattle.ats_answer_law.specs.Reached.{LaterFilesWait}

-- of two cases the second, where the first is none
second : {A B : Type 0} → (A → ⊥) → A ⊎ B → B
second none (inl a) = absurd (none a)
second none (inr b) = b

pub later_files_wait : LaterFilesWait
later_files_wait = record {
  check = λ told net file other reaches. (second other reaches).1;
  buffers = λ told net file other reaches. (second other reaches).1;
  conform = λ told net file other reaches. (second other reaches).1;
  admit = λ told net file other reaches. (second other reaches).1;
  lrq_check = λ told net file other reaches. (second other reaches).1;
  replay = λ told net file order other reaches. (second other reaches).1;
  capture = λ told net station file order other reaches. (second other reaches).1;
  record_schedule = λ told net file port order other reaches. (second other reaches).1;
  releases = λ told net station file other reaches. (second other reaches).1;
  fit = λ told net file other reaches. (second other reaches).1;
  rows = λ told net file schedule order other apart reaches.
      elim (second other reaches) [
        | inl its ↦ its.1
        | inr last ↦ absurd (apart last.0)
      ];
  schedule = λ told net certificate file order other apart reaches.
      elim (second other reaches) [
        | inl its ↦ absurd (apart its.0)
        | inr last ↦ last.1
      ];
}
