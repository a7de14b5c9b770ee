use Rattle.std.proofs.Common.{◌≡◌, ℕ, suc, ◌<◌, Bool, true, false, ◌||◌, List, [], ◌∷◌, length, get_or}
use Rattle.std.proofs.Common.{Option, Some, None, eqb, refl, sym, ap, ◌∙◌, arith}
use Rattle.std.specs.Prelude.{Contains, ◌==◌, ◌&&◌, is_some}
use Rattle.std.specs.List.{list_any}
use Rattle.std.proofs.lemmas.Bool.{and_parts, eq-eqb, eqb-true, lt-ltb, ltb-true, true≢false}
use Rattle.std.proofs.lemmas.List.Folds.{list_any_at}
use Rattle.ats_num.specs.Wire.{bits_of}
use Rattle.ats_network.specs.Class.{PortSender, class_at, seen_at}
use Rattle.ats_network.specs.Network.{senders_of}
use Rattle.ats_network.specs.Sender.{Sender}
use Rattle.ats_certificate.specs.PortSums.{is_below, longest, port_sums, uses}
use Rattle.ats_tally.proofs.Lists.{is_some-find}
use Rattle.ats_explain.specs.Senders.{is_lower_of, lower_sender, name_of, sends_lower}
use Rattle.ats_meaning_examples.specs.Parts.{SendingLowerIsMeant, SomeIsNamed}

-- Senders of a lower class at a port, and that one of them is named.

-- a number that is found is in the list
found : (port : ℕ) (ports : List ℕ) → list_any (λ p. p == port) ports ≡ true → Contains ports port
found port [] h = absurd (true≢false (sym h))
found port (p ∷ ports) h = by (p == port) refl h (λ rest. found port ports rest)
  where
    by : (b : Bool) → (p == port) ≡ b → (b || list_any (λ q. q == port) ports) ≡ true
        → (list_any (λ q. q == port) ports ≡ true → Contains ports port) → Contains (p ∷ ports) port
    by true e h more = (0, omega arith, eqb-true p port e)
    by false e h more =
        let further : Contains ports port = more h in
        (suc further.0, (let within : further.0 < length ports = further.1 in omega (arith, within)), further.2)

both : (x y : Bool) → x ≡ true → y ≡ true → (x && y) ≡ true
both true y h k = k
both false y h k = h

pub sending_lower : SendingLowerIsMeant
sending_lower topology port class bits s = (λ h. parts h, λ h. sends h.0 h.1 h.2)
  where
    seen : PortSender
    seen = seen_at topology port s

    parts : sends_lower topology port class bits s ≡ true
        → Contains s.ports port × (class_at s port < class) × (bits_of s.max_octets ≡ bits)
    parts h =
        let used = and_parts (uses port s) (is_lower_of class bits seen) h in
        let lower = and_parts (is_below class seen) (eqb (longest seen) bits) used.1 in (
          found port s.ports used.0,
          ltb-true (class_at s port) class lower.0,
          eqb-true (bits_of s.max_octets) bits lower.1,
        )

    sends : Contains s.ports port → class_at s port < class → bits_of s.max_octets ≡ bits
        → sends_lower topology port class bits s ≡ true
    sends at lower longest_is =
        both (uses port s) (is_lower_of class bits seen)
        (list_any_at (λ p. p == port) s.ports at.0 port at.1 (eq-eqb (get_or s.ports at.0 port) port at.2))
        (both (is_below class seen) (eqb (longest seen) bits) (lt-ltb (class_at s port) class lower)
        (eq-eqb (bits_of s.max_octets) bits longest_is))

-- a sender that is found has a name
has_name : (o : Option Sender) → is_some (name_of o) ≡ is_some o
has_name None = refl
has_name (Some s) = refl

pub some_is_named : SomeIsNamed
some_is_named network port class s among at lower longest_is =
    let bits : ℕ = (port_sums network port class).lower in
    let test : Sender → Bool = sends_lower network.topology port class bits in
    let passes : test s ≡ true = (sending_lower network.topology port class bits s).1 (at, lower, longest_is) in
    has_name (lower_sender network port class) ∙ is_some-find test (senders_of network)
    ∙ list_any_at test (senders_of network) among.0 s among.1 (ap test among.2 ∙ passes)
