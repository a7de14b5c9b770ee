use Rattle.std.specs.Prelude.{ℕ, ◌%◌, ◌==◌, ◌&&◌, nat_le, List, ◌∷◌, length, take, Option, Some, None}
use Rattle.std.specs.Prelude.{if◌then◌else◌}
use Rattle.std.specs.Int.{w64, from_be_bytes}
use Rattle.ats_pcap.specs.Numbers.{number16}
use Rattle.ats_pcap.specs.declared.form.ByteOrder.TheVariants.{HighFirst}

-- bytes 0 to 5 of a frame as one number, the first byte the highest
unfoldable pub address_of : List ℕ → ℕ
address_of frame = from_be_bytes w64 (0 ∷ 0 ∷ take 6 frame)

-- the VLAN identifier: the low 12 bits of bytes 14 and 15
abbrev pub vlan_of : List ℕ → ℕ
vlan_of frame = number16 HighFirst 14 frame % 4096

-- a frame's destination address and VLAN identifier, where the bytes that are there show a VLAN tag (81 00)
unfoldable pub identity_of : List ℕ → Option (ℕ × ℕ)
identity_of frame = if nat_le 16 (length frame) && (number16 HighFirst 12 frame == 0x8100)
    then Some (address_of frame, vlan_of frame) else None
