use Rattle.std.specs.Prelude.{◌≡◌, ℕ, ◌+◌, ◌-◌, ◌*◌, List, length, map, slice_index_or, All}
use Rattle.ats_num.specs.Wire.{bits_of}
use Rattle.ats_port_rule.specs.Transmission.{Transmission}
use Rattle.ats_port_rule.specs.PortRule.{KeepsPortRule, KeepsTie}
use Rattle.ats_port_rule.specs.Order.{MayFollow, IsInOrder}
use Rattle.ats_transmit.specs.declared.offer.Offer.{Offer}
use Rattle.ats_transmit.specs.declared.sent.Sent.{Sent}

-- a transmission, counted in wire bits
abbrev pub transmission_of : Sent → Transmission
transmission_of x =
    record {
      frame = x.frame;
      sender = x.sender;
      class = x.class;
      bits = bits_of x.octets;
      eligible = x.eligible.0;
      start = x.start.0;
      end = x.end.0;
    }

abbrev pub transmissions : List Sent → List Transmission
transmissions sent = map transmission_of sent

-- an offered frame, once it is sent from this time on
abbrev pub sent_at : ℕ → Offer → ℕ → Sent
sent_at ps_per_bit offer start =
    record {
      frame = offer.frame;
      sender = offer.sender;
      class = offer.class;
      octets = offer.octets;
      eligible = offer.eligible;
      start = record { 0 = start };
      end = record { 0 = start + ps_per_bit * bits_of offer.octets };
    }

abbrev pub begun : ℕ → Offer → ℕ → Transmission
begun ps_per_bit offer start = transmission_of (sent_at ps_per_bit offer start)

-- stands in the place of the last transmission before the first
abbrev pub never : Sent
never =
    record {
      frame = 0;
      sender = 0;
      class = 0;
      octets = 0;
      eligible = record { 0 = 0 };
      start = record { 0 = 0 };
      end = record { 0 = 0 };
    }

abbrev pub last_of : List Sent → Sent
last_of sent = slice_index_or sent (length sent - 1) never

-- when the last transmission started and ended, 0 before the first
abbrev pub last_start : List Sent → ℕ
last_start sent = (last_of sent).start.0

abbrev pub last_end : List Sent → ℕ
last_end sent = (last_of sent).end.0

-- the last of these transmissions ends then, and is of this frame
pub record IsLast (sent : List Sent) (end frame : ℕ) : Type 0 where
  pub ends : last_end sent ≡ end
  pub named : (last_of sent).frame ≡ frame

-- whenever this frame is sent after these transmissions, it may follow each of them
abbrev pub FitsAfter : (ℕ → ℕ → ℕ) → ℕ → List Transmission → Offer → Type 0
FitsAfter key ps_per_bit sent offer =
    (start : ℕ) → All (λ (x : Transmission). MayFollow key sent x (begun ps_per_bit offer start)) sent

-- what a port has sent keeps the port rule and the order of its tie, and each frame that it holds fits after all of it
pub record IsLawful (key : ℕ → ℕ → ℕ) (ps_per_bit : ℕ) (held : List Offer) (sent : List Sent) : Type 0 where
  pub rule : KeepsPortRule ps_per_bit (transmissions sent)
  pub tie : KeepsTie key (transmissions sent)
  pub order : IsInOrder key ps_per_bit (transmissions sent)
  pub fits : All (λ (offer : Offer). FitsAfter key ps_per_bit (transmissions sent) offer) held
