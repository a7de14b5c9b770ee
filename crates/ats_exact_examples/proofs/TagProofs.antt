use Rattle.std.proofs.Common.{◌≡◌, ◌∙◌, ℕ, ◌+◌, ◌*◌, ◌<◌, ◌≤◌, [], ◌∷◌, ◌++◌, ap, refl, arith}
use Rattle.std.specs.Prelude.{◌/◌, ◌%◌}
use Rattle.ats_port_capture.specs.Frame.{tagged}
use Rattle.ats_port_capture.specs.Numbers.{high_first16, high_first48}
use Rattle.ats_exact_examples.specs.Tags.{TagsAreExact}

-- The two bytes of a tag.

high : (vlan class : ℕ) → vlan < 4096 → class ≤ 7
    → (class * 8192 + vlan) / 256 % 256 ≡ class * 32 + vlan / 256
high vlan class few_vlans few_classes = omega arith

low : (vlan class : ℕ) → (class * 8192 + vlan) % 256 ≡ vlan % 256
low vlan class = omega arith

all : (address vlan class : ℕ) → vlan < 4096 → class ≤ 7 → tagged address vlan class
    ≡ high_first48 address ++ 2 ∷ 0 ∷ 0 ∷ 0 ∷ 0 ∷ 0
    ∷ 0x81 ∷ 0 ∷ (class * 32 + vlan / 256) ∷ (vlan % 256) ∷ 0x88 ∷ 0xB5 ∷ []
unfolding tagged high_first16 high_first48
all address vlan class few_vlans few_classes =
    ap (λ (n : ℕ). high_first48 address ++ 2 ∷ 0 ∷ 0 ∷ 0 ∷ 0 ∷ 0
    ∷ 0x81 ∷ 0 ∷ n ∷ ((class * 8192 + vlan) % 256) ∷ 0x88 ∷ 0xB5 ∷ []) (high vlan class few_vlans few_classes)
    ∙ ap (λ (n : ℕ). high_first48 address ++ 2 ∷ 0 ∷ 0 ∷ 0 ∷ 0 ∷ 0
    ∷ 0x81 ∷ 0 ∷ (class * 32 + vlan / 256) ∷ n ∷ 0x88 ∷ 0xB5 ∷ []) (low vlan class)

pub tags_are_exact : TagsAreExact
unfolding tagged high_first16 high_first48
tags_are_exact = record { all = all; each = refl }
