use Rattle.std.specs.Prelude.{◌≡◌, ℕ}
use Rattle.ats_system.specs.declared.real_files.OpenWord.{OpenWord}

-- the open file is the one of the word at this place among the words, and stands at this place in its bytes
pub record Stands {F : Type 0} (word at : ℕ) (open-word : OpenWord F) : Type 0 where
  pub of_word : open-word.word ≡ word
  pub stands_at : open-word.at ≡ at
