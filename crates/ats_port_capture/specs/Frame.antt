use Rattle.std.specs.Prelude.{ℕ, ◌+◌, ◌*◌, List, ◌++◌, Option, Some, None, slice_get}
use Rattle.std.specs.Option.{option_and_then}
use Rattle.ats_streams.specs.Stream.{DeclaredStream}
use Rattle.ats_network.specs.Network.{DeclaredNetwork}
use Rattle.ats_port_capture.specs.Numbers.{high_first16, high_first32, high_first48}

-- the destination address and VLAN identifier that a sender declares: a stream may have them, a flow has none
abbrev pub identity_of : DeclaredNetwork → ℕ → Option (ℕ × ℕ)
identity_of network sender =
    option_and_then (λ (stream : DeclaredStream). stream.identity) (slice_get network.streams sender)

-- the source address of every frame, a locally administered one
abbrev pub source : List ℕ
source = high_first48 0x020000000000

-- the first bytes of a frame of a stream with this address and VLAN identifier, which is sent in a class: the two
-- addresses, a VLAN tag with the class as its priority, and the type of local experiments
unfoldable pub tagged : ℕ → ℕ → ℕ → List ℕ
tagged address vlan class =
    high_first48 address ++ source ++ high_first16 0x8100 ++ high_first16 (class * 8192 + vlan) ++ high_first16 0x88B5

-- those of a frame of a sender without these, whose number is in the destination address; it has no tag
unfoldable pub untagged : ℕ → List ℕ
untagged sender = high_first16 0x0600 ++ high_first32 sender ++ source ++ high_first16 0x88B5

-- those of a frame of a sender with this identity or none, which is sent in a class
abbrev pub captured_bytes : Option (ℕ × ℕ) → ℕ → ℕ → List ℕ
captured_bytes (Some identity) sender class = tagged identity.0 identity.1 class
captured_bytes None sender class = untagged sender
