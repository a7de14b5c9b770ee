use Rattle.std.proofs.Common.{◌⊎◌, inl, inr}

-- each of two cases goes to one
pub either : {A B C D : Type 0} → (A → C) → (B → D) → A ⊎ B → C ⊎ D
either to_first to_second (inl is) = inl (to_first is)
either to_first to_second (inr is) = inr (to_second is)
