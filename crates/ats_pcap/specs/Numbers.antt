use Rattle.std.specs.Prelude.{ℕ, List, take, drop}
use Rattle.std.specs.Int.{w16, w32, from_le_bytes, from_be_bytes}
use Rattle.ats_pcap.specs.declared.form.ByteOrder.{ByteOrder}
use Rattle.ats_pcap.specs.declared.form.ByteOrder.TheVariants.{LowFirst, HighFirst}

-- the number of 32 bits that stands at a place, in this order of its bytes
unfoldable pub number32 : ByteOrder → ℕ → List ℕ → ℕ
number32 LowFirst place bytes = from_le_bytes w32 (take 4 (drop place bytes))
number32 HighFirst place bytes = from_be_bytes w32 (take 4 (drop place bytes))

-- the same of 16 bits
unfoldable pub number16 : ByteOrder → ℕ → List ℕ → ℕ
number16 LowFirst place bytes = from_le_bytes w16 (take 2 (drop place bytes))
number16 HighFirst place bytes = from_be_bytes w16 (take 2 (drop place bytes))
