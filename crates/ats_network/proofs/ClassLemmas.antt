use Rattle.std.proofs.Common.{◌≡◌, ◌≢◌, ℕ, zero, suc, ◌<◌, ◌≤◌, Bool, true, false, cond, ◌||◌, List, [], ◌∷◌, length}
use Rattle.std.proofs.Common.{Option, Some, None, get_or, map, refl, sym, ap, ◌∙◌, arith, eqb}
use Rattle.std.specs.List.{All, AllPairs, list_any}
use Rattle.std.specs.Option.{option_or}
use Rattle.std.proofs.lemmas.Bool.{eq-eqb, ne_eqb, or_parts, false≢true}
use Rattle.std.proofs.lemmas.List.Elements.{All-head, All-tail}
use Rattle.ats_streams.specs.Branches.{routes_of}
use Rattle.ats_streams.specs.Stream.{DeclaredStream, IsStream, IsClass}
use Rattle.ats_streams.specs.declared.branch.Branch.{Branch}
use Rattle.ats_streams.specs.Flow.{DeclaredFlow}
use Rattle.ats_streams.specs.declared.stream.TheConstants.{MAX_CLASS}
use Rattle.ats_network.specs.Sender.{Sender, stream_sender, flow_sender}
use Rattle.ats_network.specs.Class.{before_along, before_on, class_along, class_at, port_before}
use Rattle.ats_network.specs.Laws.{ClassIsByHop}
use Rattle.ats_facts.proofs.Lists.{pairs_head, pairs_tail}

-- what holds of 0 and of each of the classes holds of the class at a port
along_keeps : (P : ℕ → Type 0) (port : ℕ) (path classes : List ℕ) → P 0 → All P classes
    → P (class_along port path classes)
along_keeps P port [] classes none each = none
along_keeps P port (p ∷ path) [] none each = none
along_keeps P port (p ∷ path) (class ∷ classes) none each =
    by (eqb p port) (All-head P class classes each)
    (along_keeps P port path classes none (All-tail P class classes each))
  where
    by : (t : Bool) → P class → P (class_along port path classes) → P (cond t class (class_along port path classes))
    by true here further = here
    by false here further = further

-- a sender's class at a port is at most 7
pub class_at-le : (s : Sender) (port : ℕ) → All (λ class. class ≤ MAX_CLASS) s.classes → class_at s port ≤ 7
class_at-le s port each = along_keeps (λ class. class ≤ MAX_CLASS) port s.ports s.classes (omega arith) each

-- a flow's class at a port is 0
pub class_at-flow : (f : DeclaredFlow) (port : ℕ) → class_at (flow_sender f) port ≡ 0
class_at-flow f port = along f.path
  where
    along : (path : List ℕ) → class_along port path (map (λ p. 0) path) ≡ 0
    along [] = refl
    along (p ∷ path) = by (eqb p port) (along path)
      where
        by : (t : Bool) → class_along port path (map (λ p. 0) path) ≡ 0
            → cond t 0 (class_along port path (map (λ p. 0) path)) ≡ 0
        by true further = refl
        by false further = further

-- a flow's class at a hop is 0
pub no_classes : (path : List ℕ) (hop : ℕ) → get_or {A = ℕ} (map (λ p. 0) path) hop 0 ≡ 0
no_classes [] hop = refl
no_classes (p ∷ path) zero = refl
no_classes (p ∷ path) (suc hop) = no_classes path hop

-- where the path does not have the port, the class there is 0
pub class_along-past : (port : ℕ) (path classes : List ℕ) → list_any (λ p. eqb p port) path ≡ false
    → class_along port path classes ≡ 0
class_along-past port [] classes none = refl
class_along-past port (p ∷ path) [] none = refl
class_along-past port (p ∷ path) (class ∷ classes) none =
    let parts : (eqb p port ≡ false) × (list_any (λ q. eqb q port) path ≡ false) =
    or_parts (eqb p port) (list_any (λ q. eqb q port) path) none in
    ap (λ (t : Bool). cond t class (class_along port path classes)) parts.0
    ∙ class_along-past port path classes parts.1

-- where the class at a port is not 0, the path has the port
pub class_along-has : (port : ℕ) (path classes : List ℕ) → 1 ≤ class_along port path classes
    → list_any (λ p. eqb p port) path ≡ true
class_along-has port path classes positive = by (list_any (λ p. eqb p port) path) refl
  where
    by : (t : Bool) → list_any (λ p. eqb p port) path ≡ t → list_any (λ p. eqb p port) path ≡ true
    by true has = has
    by false none = let zero_there : class_along port path classes ≡ 0 = class_along-past port path classes none in
        absurd (omega (arith, zero_there))

-- what holds of each of the classes holds of the class at a port of the path
along_holds : (P : ℕ → Type 0) (port : ℕ) (path classes : List ℕ) → length classes ≡ length path → All P classes
    → list_any (λ p. eqb p port) path ≡ true → P (class_along port path classes)
along_holds P port [] classes many each has = absurd (false≢true has)
along_holds P port (p ∷ path) [] many each has = absurd (omega arith)
along_holds P port (p ∷ path) (class ∷ classes) many each has =
    by (eqb p port) has (All-head P class classes each)
    (along_holds P port path classes (omega arith) (All-tail P class classes each))
  where
    by : (t : Bool) → (t || list_any (λ q. eqb q port) path) ≡ true → P class
        → (list_any (λ q. eqb q port) path ≡ true → P (class_along port path classes))
        → P (cond t class (class_along port path classes))
    by true has here further = here
    by false has here further = further has

-- a stream's class at a port of its path is 1 to 7
pub class_at-stream : (s : DeclaredStream) (port : ℕ) → IsStream s → list_any (λ p. eqb p port) s.ports ≡ true
    → IsClass (class_at (stream_sender s) port)
class_at-stream s port is has = along_holds IsClass port s.ports s.classes is.each_port is.classes has

-- where a list has no element twice, the class at the port at a place is the class at this place
pub class_along-at : (path classes : List ℕ) (hop : ℕ) → AllPairs (λ p q. p ≢ q) path → length classes ≡ length path
    → hop < length path → class_along (get_or path hop 0) path classes ≡ get_or classes hop 0
class_along-at [] classes hop apart many within = absurd (omega arith)
class_along-at (p ∷ path) [] hop apart many within = absurd (omega arith)
class_along-at (p ∷ path) (class ∷ classes) zero apart many within =
    ap (λ (t : Bool). cond t class (class_along p path classes)) (eq-eqb p p refl)
class_along-at (p ∷ path) (class ∷ classes) (suc hop) apart many within =
    let other : p ≢ get_or path hop 0 = pairs_head (λ p q. p ≢ q) p path apart hop 0 (omega arith) in
    ap (λ (t : Bool). cond t class (class_along (get_or path hop 0) path classes)) (ne_eqb p (get_or path hop 0) other)
    ∙ class_along-at path classes hop (pairs_tail (λ p q. p ≢ q) p path apart) (omega arith) (omega arith)

pub class_is_by_hop : ClassIsByHop
class_is_by_hop topology s hop is within = class_along-at s.ports s.classes hop is.apart is.each_port within

-- a stream's class at a hop is its class at the port there, where its ports and classes are given under other names
pub class_listed : (s : DeclaredStream) (ports classes : List ℕ) (hop : ℕ) → ports ≡ s.ports → classes ≡ s.classes
    → AllPairs (λ p q. p ≢ q) s.ports → length s.classes ≡ length s.ports → hop < length ports
    → get_or classes hop 0 ≡ class_at (stream_sender s) (get_or ports hop 0)
class_listed s ports classes hop path_is classes_are apart many within =
    let long : length ports ≡ length s.ports = ap (λ (l : List ℕ). length l) path_is in
    ap (λ (l : List ℕ). get_or l hop 0) classes_are
    ∙ sym (class_along-at s.ports s.classes hop apart many (omega (arith, long)))
    ∙ ap (λ (l : List ℕ). class_at (stream_sender s) (get_or l hop 0)) (sym path_is)

-- where a list has no element twice, the port before the one at a place but the first is the one at the place before
pub before_along-at : (path : List ℕ) (hop : ℕ) → AllPairs (λ p q. p ≢ q) path → suc hop < length path
    → before_along (get_or path (suc hop) 0) path ≡ Some (get_or path hop 0)
before_along-at [] hop apart within = absurd (omega arith)
before_along-at (p ∷ []) hop apart within = absurd (omega arith)
before_along-at (p ∷ q ∷ path) zero apart within =
    ap (λ (t : Bool). cond t (Some p) (before_along q (q ∷ path))) (eq-eqb q q refl)
before_along-at (p ∷ q ∷ path) (suc hop) apart within =
    let rest : AllPairs (λ p q. p ≢ q) (q ∷ path) = pairs_tail (λ p q. p ≢ q) p (q ∷ path) apart in
    let port : ℕ = get_or path hop 0 in
    let other : q ≢ port = pairs_head (λ p q. p ≢ q) q path rest hop 0 (omega arith) in
    ap (λ (t : Bool). cond t (Some p) (before_along port (q ∷ path))) (ne_eqb q port other)
    ∙ before_along-at (q ∷ path) hop rest (omega arith)

or_none : {X : Type 0} (o : Option X) → option_or o None ≡ o
or_none None = refl
or_none (Some x) = refl

-- the port before one of a sender with one listener is that on its path
pub port_before-one : (s : Sender) (port : ℕ) → s.branches ≡ [] → port_before s port ≡ before_along port s.ports
port_before-one s port alone =
    ap (λ (branches : List Branch). before_on port (routes_of s.ports branches)) alone
    ∙ or_none (before_along port s.ports)
