use Rattle.std.specs.Prelude.{◌≡◌, ℕ, ◌≤◌, Bool, List, ◌∷◌, map, length, Option, Some, None, IsTrue}
use Rattle.std.specs.Prelude.{if◌then◌else◌}
use Rattle.std.specs.Ordering.{nat_cmp, ordering_then}
use Rattle.std.specs.Cmp.Lexicographic.{slice_cmp}
use Rattle.std.specs.Str.{bytes_eq}
use Rattle.std.specs.BTreeMap.{BTreeMap, get}
use Rattle.ats_serials.specs.Serials.{AreRising}
use Rattle.ats_streams.specs.Stream.{DeclaredStream}
use Rattle.ats_streams.specs.Flow.{DeclaredFlow}
use Rattle.ats_network.specs.Pushes.{is_identity}
use Rattle.ats_network.specs.declared.network.TheConstants.{MAX_STREAMS, MAX_FLOWS}

-- the names of streams
abbrev pub stream_names : List DeclaredStream → List (List ℕ)
stream_names streams = map (λ (s : DeclaredStream). s.name) streams

-- the names of flows
abbrev pub flow_names : List DeclaredFlow → List (List ℕ)
flow_names flows = map (λ (f : DeclaredFlow). f.name) flows

-- the identities of streams, of each what it declares
abbrev pub stream_identities : List DeclaredStream → List (Option (ℕ × ℕ))
stream_identities streams = map (λ (s : DeclaredStream). s.identity) streams

-- of serial numbers that belong to the elements of a list, one by one, that of the first element that passes a test
abbrev pub serial_of : {X : Type 0} → (X → Bool) → List X → List ℕ → Option ℕ
serial_of test (x ∷ xs) (serial ∷ serials) = if test x then Some serial else serial_of test xs serials
serial_of test xs serials = None

-- the serial number that a map has for a name
abbrev pub serial_at : BTreeMap (List ℕ) ℕ → List ℕ → Option ℕ
serial_at names name = get (slice_cmp nat_cmp) names name

-- a new map has this serial number, or none, for a name, and for all other names what an old one has
abbrev pub Names : BTreeMap (List ℕ) ℕ → BTreeMap (List ℕ) ℕ → List ℕ → Option ℕ → Type 0
Names old new name given =
    (q : List ℕ) → serial_at new q ≡ (if bytes_eq q name then given else serial_at old q)

-- two maps have the same serial numbers for names
abbrev pub NamesSame : BTreeMap (List ℕ) ℕ → BTreeMap (List ℕ) ℕ → Type 0
NamesSame old new = (q : List ℕ) → serial_at new q ≡ serial_at old q

-- the serial number that a map has for a destination address and VLAN identifier
abbrev pub number_at : BTreeMap (ℕ × ℕ) ℕ → ℕ → ℕ → Option ℕ
number_at identities address vlan =
    get (λ x y. ordering_then (nat_cmp x.0 y.0) (nat_cmp x.1 y.1)) identities (address, vlan)

-- a map has no serial number for an identity that may be declared
abbrev pub IsUnidentified : BTreeMap (ℕ × ℕ) ℕ → Option (ℕ × ℕ) → Type 0
IsUnidentified identities declared = (address vlan : ℕ) → IsTrue (is_identity (address, vlan) declared)
    → number_at identities address vlan ≡ None

-- a new map has this serial number, or none, for an identity, where one is declared, and for all others what an old one
-- has
abbrev pub Identifies : BTreeMap (ℕ × ℕ) ℕ → BTreeMap (ℕ × ℕ) ℕ → Option (ℕ × ℕ) → Option ℕ → Type 0
Identifies old new declared given =
    (address vlan : ℕ) → number_at new address vlan
    ≡ (if is_identity (address, vlan) declared then given else number_at old address vlan)

-- two maps have the same serial numbers for identities
abbrev pub FindsSame : BTreeMap (ℕ × ℕ) ℕ → BTreeMap (ℕ × ℕ) ℕ → Type 0
FindsSame old new = (address vlan : ℕ) → number_at new address vlan ≡ number_at old address vlan

-- streams beside their serial numbers, which rise, and maps that find these by name and by identity
pub record AreStreams (streams : List DeclaredStream) (serials : List ℕ) (names : BTreeMap (List ℕ) ℕ)
    (identities : BTreeMap (ℕ × ℕ) ℕ) : Type 0 where
  pub named : (name : List ℕ) → serial_at names name ≡ serial_of (bytes_eq name) (stream_names streams) serials
  pub identified : (address vlan : ℕ) → number_at identities address vlan
      ≡ serial_of (is_identity (address, vlan)) (stream_identities streams) serials
  pub numbered : length serials ≡ length streams
  pub rising : AreRising serials
  pub few : length streams ≤ MAX_STREAMS

-- flows beside a table of their names
pub record AreFlows (flows : List DeclaredFlow) (names : List (List ℕ)) : Type 0 where
  pub named : names ≡ flow_names flows
  pub few : length flows ≤ MAX_FLOWS
