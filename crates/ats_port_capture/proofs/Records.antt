-- A record is its front and the captured bytes.
use Rattle.std.proofs.Common.{◌≡◌, ◌∙◌, ℕ, ◌/◌, ◌%◌, List, ◌++◌, length, refl, sym, ap, append_assoc}
use Rattle.ats_port_capture.specs.Capture.{record_bytes}
use Rattle.ats_port_capture.specs.Frame.{tagged, untagged}
use Rattle.ats_port_capture.specs.Numbers.{low_first32, high_first16, high_first32, high_first48}

pub tagged_long : (address vlan class : ℕ) → length (tagged address vlan class) ≡ 18
unfolding tagged high_first16 high_first48
tagged_long address vlan class = refl

pub untagged_long : (sender : ℕ) → length (untagged sender) ≡ 14
unfolding untagged high_first16 high_first32 high_first48
untagged_long sender = refl

-- what is in front of the captured bytes, of which there are so many
abbrev pub front_of : ℕ → ℕ → ℕ → List ℕ
front_of nanos many octets =
    low_first32 (nanos / 1_000_000_000) ++ low_first32 (nanos % 1_000_000_000) ++ low_first32 many ++ low_first32 octets

pub record_written : (out front new : List ℕ) (nanos octets many : ℕ) (bytes : List ℕ) → length bytes ≡ many
    → front ≡ out ++ front_of nanos many octets → new ≡ front ++ bytes → new ≡ out ++ record_bytes nanos octets bytes
unfolding record_bytes
record_written out front new nanos octets many bytes long before after =
    after ∙ ap (λ (l : List ℕ). l ++ bytes) before
    ∙ append_assoc out (front_of nanos many octets) bytes
    ∙ ap (λ (n : ℕ). out ++ (front_of nanos n octets ++ bytes)) (sym long)
