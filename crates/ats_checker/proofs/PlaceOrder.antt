-- The places that a certificate must have, port by port and class by class.
use Rattle.std.proofs.Common.{◌≡◌, ℕ, zero, suc, ◌+◌, ◌-◌, ◌<◌, ◌≤◌, Bool, true, false, cond, List, [], ◌∷◌, drop}
use Rattle.std.proofs.Common.{length, get_or, map, filter, Option, Some, None, refl, sym, ap, ◌∙◌, arith, drop-cons}
use Rattle.std.proofs.Common.{add-one}
use Rattle.std.specs.Option.{option_or}
use Rattle.ats_topology.specs.Port.{no_port}
use Rattle.ats_topology.specs.declared.port.Port.{Port}
use Rattle.ats_network.specs.Network.{DeclaredNetwork}
use Rattle.ats_certificate.specs.PortSums.{is_used}
use Rattle.ats_certificate.specs.Used.{stream_classes, place, places_at, places_from}
use Rattle.ats_certificate.specs.declared.row.Row.{Row}
use Rattle.ats_tally.specs.Reason.{first_some}
use Rattle.ats_checker.specs.Refusal.{missing, missing_at}
use Rattle.ats_checker.specs.declared.refusal.Refusal.{Refusal}
use Rattle.ats_tally.proofs.Firsts.{first_step, first_found, first_end, first_append}

ith_class : (i : ℕ) → i < 7 → get_or stream_classes i 0 ≡ i + 1
ith_class zero h = refl
ith_class (suc zero) h = refl
ith_class (suc (suc zero)) h = refl
ith_class (suc (suc (suc zero))) h = refl
ith_class (suc (suc (suc (suc zero)))) h = refl
ith_class (suc (suc (suc (suc (suc zero))))) h = refl
ith_class (suc (suc (suc (suc (suc (suc zero)))))) h = refl
ith_class (suc (suc (suc (suc (suc (suc (suc i))))))) h = absurd (omega arith)

class_is : (class : ℕ) → 1 ≤ class → class < 8 → get_or stream_classes (class - 1) 0 ≡ class
class_is class least most = ith_class (class - 1) (omega arith) ∙ omega arith

-- a class without a refusal, and one with a refusal
pub class_step : (given : ℕ → Option Refusal) (class : ℕ) → 1 ≤ class → class < 8 → given class ≡ None
    → first_some given (drop (class - 1) stream_classes) ≡ first_some given (drop (class + 1 - 1) stream_classes)
class_step given class least most none =
    first_step given stream_classes (class - 1) 0 (omega arith) (ap given (class_is class least most) ∙ none)
    ∙ ap (λ (n : ℕ). first_some given (drop n stream_classes)) (omega arith)

pub class_found : (given : ℕ → Option Refusal) (class : ℕ) (refusal : Refusal) → 1 ≤ class → class < 8
    → given class ≡ Some refusal → first_some given (drop (class - 1) stream_classes) ≡ Some refusal
class_found given class refusal least most some =
    first_found given stream_classes (class - 1) 0 refusal (omega arith) (ap given (class_is class least most) ∙ some)

pub class_end : (given : ℕ → Option Refusal) (class : ℕ) → 8 ≤ class
    → first_some given (drop (class - 1) stream_classes) ≡ None
class_end given class past = first_end given stream_classes (class - 1) (omega arith)

-- the places of a port, class by class
of_classes : (network : DeclaredNetwork) (rows : List Row) (port : ℕ) (cs : List ℕ)
    → first_some (missing rows) (map (place port) (filter (λ class. is_used network port class) cs))
    ≡ first_some (missing_at network rows port) cs
of_classes network rows port [] = refl
of_classes network rows port (class ∷ cs) = by (is_used network port class) (of_classes network rows port cs)
  where
    by : (b : Bool) → first_some (missing rows) (map (place port) (filter (λ class. is_used network port class) cs))
        ≡ first_some (missing_at network rows port) cs
        → first_some (missing rows) (map (place port) (cond b (class ∷ filter (λ class. is_used network port class) cs)
        (filter (λ class. is_used network port class) cs)))
        ≡ option_or (cond b (missing rows (port, class)) None) (first_some (missing_at network rows port) cs)
    by true h = ap (option_or (missing rows (port, class))) h
    by false h = h

pub at_classes : (network : DeclaredNetwork) (rows : List Row) (port : ℕ)
    → first_some (missing rows) (places_at network port) ≡ first_some (missing_at network rows port) stream_classes
at_classes network rows port = of_classes network rows port stream_classes

-- the places of the ports from one on
from_port : (network : DeclaredNetwork) (rows : List Row) (port : ℕ) → port < length network.topology.ports
    → first_some (missing rows) (places_from network port (drop port network.topology.ports))
    ≡ option_or (first_some (missing rows) (places_at network port))
    (first_some (missing rows) (places_from network (port + 1) (drop (port + 1) network.topology.ports)))
from_port network rows port within =
    ap (λ (ports : List Port). first_some (missing rows) (places_from network port ports))
    (drop-cons network.topology.ports port no_port within ∙ ap
    (λ (n : ℕ). get_or network.topology.ports port no_port ∷ drop n network.topology.ports) (sym (add-one port)))
    ∙ first_append (missing rows) (places_at network port)
    (places_from network (port + 1) (drop (port + 1) network.topology.ports))

pub port_step : (network : DeclaredNetwork) (rows : List Row) (port : ℕ) → port < length network.topology.ports
    → first_some (missing rows) (places_at network port) ≡ None
    → first_some (missing rows) (places_from network port (drop port network.topology.ports))
    ≡ first_some (missing rows) (places_from network (port + 1) (drop (port + 1) network.topology.ports))
port_step network rows port within none =
    from_port network rows port within ∙ ap (λ (o : Option Refusal). option_or o
    (first_some (missing rows) (places_from network (port + 1) (drop (port + 1) network.topology.ports)))) none

pub port_found : (network : DeclaredNetwork) (rows : List Row) (port : ℕ) (refusal : Refusal)
    → port < length network.topology.ports → first_some (missing rows) (places_at network port) ≡ Some refusal
    → first_some (missing rows) (places_from network port (drop port network.topology.ports)) ≡ Some refusal
port_found network rows port refusal within some =
    from_port network rows port within ∙ ap (λ (o : Option Refusal). option_or o
    (first_some (missing rows) (places_from network (port + 1) (drop (port + 1) network.topology.ports)))) some
