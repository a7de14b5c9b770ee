use Rattle.std.proofs.Common.{◌≡◌, ℕ, zero, suc, ◌<◌, ◌≤◌, Bool, true, cond, List, [], ◌∷◌, length, length-append}
use Rattle.std.proofs.Common.{get_or, map, filter, refl, subst, sym, ap, ◌∙◌, inl, inr, arith}
use Rattle.std.specs.List.{list_any}
use Rattle.std.proofs.lemmas.Bool.{cases_Bool, or_left, or_right, eq-eqb}
use Rattle.std.proofs.lemmas.List.{length-map, get_or_append_left}
use Rattle.ats_network.specs.Sender.{Sender, stream_sender, flow_sender, declared_of}
use Rattle.ats_streams.specs.Stream.{IsClass}
use Rattle.ats_network.specs.Class.{class_at, seen_at}
use Rattle.ats_network.proofs.ClassLemmas.{class_at-stream}
use Rattle.ats_network.proofs.RateLemmas.{scheduled_ruled, seen_ruled}
use Rattle.ats_network.specs.Network.{DeclaredNetwork, IsNetwork, senders_of}
use Rattle.ats_network.specs.Senders.{sender_at, no_sender}
use Rattle.ats_certificate.specs.PortSums.{uses, is_of, is_used}
use Rattle.ats_streams.specs.Traffic.{IsRuled}
use Rattle.ats_port_law.proofs.Senders.{no_stream, stream_at}
use Rattle.ats_trace.specs.Eligibility.{committed_by, declared_by, scheduled_by}
use Rattle.ats_soundness_law.proofs.Paths.{sender_is}

-- the first senders are the streams
first_senders : (network : DeclaredNetwork) (i : ℕ) → i < length network.streams
    → sender_at network i ≡ get_or (map stream_sender network.streams) i no_sender
first_senders network i h =
    get_or_append_left (map stream_sender network.streams) (map flow_sender network.flows) no_sender i
    (omega (arith, h, length-map network.streams stream_sender))

pub stream_exists : (network : DeclaredNetwork) (i : ℕ) → i < length network.streams → i < length (senders_of network)
stream_exists network i h = omega (
  arith,
  h,
  length-append (map stream_sender network.streams)
      (map flow_sender network.flows),
  length-map network.streams stream_sender,
)

-- a stream's class is 1 or more at each of its ports
pub stream_class : (network : DeclaredNetwork) → IsNetwork network → (port i : ℕ) → i < length network.streams
    → uses port (sender_at network i) ≡ true → 1 ≤ class_at (sender_at network i) port
stream_class network net port i h used =
    let same = stream_at network i h in
    let class = ap (λ (s : Sender). class_at s port) same in
    let of_class : IsClass (class_at (stream_sender (get_or network.streams i no_stream)) port) =
    class_at-stream (get_or network.streams i no_stream) port (net.streams i no_stream h)
    (ap (uses port) (sym same) ∙ used) in
    omega (arith, class, of_class.least)

-- and there it keeps the rules that a group asks of its members: as it is declared, as the port sees it, and by what
-- its scheduler has behind the port
pub sender_ruled : (network : DeclaredNetwork) → IsNetwork network → (port i : ℕ) → i < length (senders_of network)
    → 1 ≤ class_at (sender_at network i) port → IsRuled (declared_by network i)
sender_ruled network net port i h shaped = (sender_is network net i h).shaped port shaped

pub committed_ruled : (network : DeclaredNetwork) → IsNetwork network → (port i : ℕ) → i < length (senders_of network)
    → 1 ≤ class_at (sender_at network i) port → IsRuled (committed_by network port i)
committed_ruled network net port i h shaped =
    seen_ruled network.topology (sender_at network i) port (sender_is network net i h) shaped

pub member_ruled : (network : DeclaredNetwork) → IsNetwork network → (port i : ℕ) → i < length (senders_of network)
    → 1 ≤ class_at (sender_at network i) port → IsRuled (scheduled_by network port i)
member_ruled network net port i h shaped =
    scheduled_ruled network.topology (sender_at network i) port (sender_is network net i h) shaped

pub stream_ruled : (network : DeclaredNetwork) → IsNetwork network → (i : ℕ) → i < length network.streams
    → IsRuled (declared_by network i)
stream_ruled network net i h =
    subst (λ (s : Sender). IsRuled (declared_of s)) (sym (stream_at network i h)) (net.streams i no_stream h).rules

-- some image of an element that passes one test passes another
any_chosen : {X Y : Type 0} (test : Y → Bool) (seen : X → Y) (chosen : X → Bool) (xs : List X) (k : ℕ) (d : X)
    → k < length xs → chosen (get_or xs k d) ≡ true → test (seen (get_or xs k d)) ≡ true
    → list_any test (map seen (filter chosen xs)) ≡ true
any_chosen test seen chosen [] k d h c t = absurd (omega arith)
any_chosen {X} test seen chosen (x ∷ xs) zero d h c t =
    let kept : List X = filter chosen xs in
    let Goal : Bool → Type 0 = λ (b : Bool). list_any test (map seen (cond b (x ∷ kept) kept)) ≡ true in
    subst Goal (sym c) (or_left (test (seen x)) (list_any test (map seen kept)) t)
any_chosen {X} test seen chosen (x ∷ xs) (suc k) d h c t =
    let kept : List X = filter chosen xs in
    let Goal : Bool → Type 0 = λ (b : Bool). list_any test (map seen (cond b (x ∷ kept) kept)) ≡ true in
    let rest : list_any test (map seen kept) ≡ true = any_chosen test seen chosen xs k d (omega arith) c t in
    elim (cases_Bool (chosen x)) as (λ _. Goal (chosen x)) [
      | inl e ↦ subst Goal (sym e) (or_right (test (seen x)) (list_any test (map seen kept)) rest)
      | inr e ↦ subst Goal (sym e) rest
    ]

-- a stream's class at a port of its path is used there
pub stream_used : (network : DeclaredNetwork) (port i : ℕ) → i < length network.streams
    → uses port (sender_at network i) ≡ true → is_used network port (class_at (sender_at network i) port) ≡ true
stream_used network port i h used =
    let streams : List Sender = map stream_sender network.streams in
    let class : ℕ = class_at (sender_at network i) port in
    let same = first_senders network i h in
    any_chosen (is_of class) (seen_at network.topology port) (uses port) streams i no_sender
    (omega (arith, h, length-map network.streams stream_sender))
    (ap (uses port) (sym same) ∙ used)
    (ap (λ (s : Sender). is_of class (seen_at network.topology port s)) (sym same) ∙ eq-eqb class class refl)
