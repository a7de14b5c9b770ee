-- What a port keeps after a step.
use Rattle.std.proofs.Common.{◌≡◌, ℕ, ◌<◌, ◌≤◌, List, length, All, ◌⊎◌, ap, ◌∙◌, sym, subst, inl, inr, arith}
use Rattle.std.specs.Prelude.{◌≢◌, Contains, IsPermutation}
use Rattle.std.proofs.lemmas.Bool.{cases_eq}
use Rattle.std.proofs.lemmas.List.Elements.{All-weaker}
use Rattle.ats_port_rule.specs.Transmission.{Transmission}
use Rattle.ats_network.specs.Network.{DeclaredNetwork}
use Rattle.ats_transmit.specs.Sending.{last_start, transmissions}
use Rattle.ats_transmit.specs.State.{PortState}
use Rattle.ats_transmit.specs.declared.offer.Offer.{Offer}
use Rattle.ats_events.specs.declared.phase.TheConstants.{SELECTION}
use Rattle.ats_engine_steps.specs.Course.{Course, offer_at, offer_of, place_at, place_of, sent_so_far, stage_at}
use Rattle.ats_engine_steps.specs.Course.{turn_at}
use Rattle.ats_engine_steps.specs.Ports.{IsTurn, IsHeld, IsPortOf}
use Rattle.ats_engine_steps.specs.declared.stage.Stage.TheVariants.{Waiting}
use Rattle.ats_engine_proofs.proofs.Moving.{Changes}

-- a frame that waits at a port along a row's leg still does where the row stays
pub held-else : {T : Type 0} {network : DeclaredNetwork} {old new : Course T} {Stays : ℕ → Type 0} (port : ℕ)
    (o : Offer) → Changes network old new Stays → (h : IsHeld network old port o) → Stays h.row
    → IsHeld network new port o
held-else {T} {network} port o c h stays = record {
  row = h.row;
  within = subst (λ (n : ℕ). h.row < n) (sym c.count) h.within;
  stage = c.stages h.row stays ∙ h.stage;
  place = ap (place_of network) (c.records h.row stays) ∙ h.place;
  same = ap (offer_of network) (c.records h.row stays) ∙ h.same;
}

-- a port holds one that waits there, as it did
pub waiting-else : {T : Type 0} {network : DeclaredNetwork} {old new : Course T} {Stays : ℕ → Type 0}
    (key : T → ℕ → ℕ → ℕ) (port other : ℕ) (s : PortState T) → Changes network old new Stays → Stays other
    → IsPortOf key network old port s → other < length new.records → stage_at new other ≡ Waiting
    → place_at network new other ≡ port → Contains s.held (offer_at network new other)
waiting-else {T} {network} key port other s c stays is within stage place =
    subst (Contains s.held) (ap (offer_of network) (sym (c.records other stays)))
    (is.holding.waiting other (subst (λ (n : ℕ). other < n) c.count within) (sym (c.stages other stays) ∙ stage)
    (ap (place_of network) (sym (c.records other stays)) ∙ place))

-- a last start that was no later than the last event is still no later, and one at its time is of a selection's phase
pub selected-later : {T : Type 0} {network : DeclaredNetwork} {old new : Course T} {Stays : ℕ → Type 0}
    (key : T → ℕ → ℕ → ℕ) (port : ℕ) (s : PortState T) → Changes network old new Stays → IsPortOf key network old port s
    → 0 < length s.sent → last_start s.sent ≡ new.last.at.0 → SELECTION ≤ new.last.phase
selected-later {T} {network} {old} {new} key port s c is some now =
    let past : old.last.at.0 ≤ new.last.at.0 = c.reached.time in
    let started : last_start s.sent ≤ old.last.at.0 = is.times.started some in
    let equal : old.last.at.0 ≡ new.last.at.0 = omega arith in
    let later : old.last.phase ≤ new.last.phase = c.reached.phase equal in
    let first : SELECTION ≤ old.last.phase = is.times.selected some (omega arith) in
    omega arith

-- it is no later than the last event
pub started-later : {T : Type 0} {network : DeclaredNetwork} {old new : Course T} {Stays : ℕ → Type 0}
    (key : T → ℕ → ℕ → ℕ) (port : ℕ) (s : PortState T) → Changes network old new Stays → IsPortOf key network old port s
    → 0 < length s.sent → last_start s.sent ≤ new.last.at.0
started-later {T} {network} {old} {new} key port s c is some =
    let past : old.last.at.0 ≤ new.last.at.0 = c.reached.time in
    let started : last_start s.sent ≤ old.last.at.0 = is.times.started some in
    omega arith

-- the frames that a port holds were eligible by now
pub eligible-later : {T : Type 0} {network : DeclaredNetwork} {old new : Course T} {Stays : ℕ → Type 0}
    (key : T → ℕ → ℕ → ℕ) (port : ℕ) (s : PortState T) → Changes network old new Stays → IsPortOf key network old port s
    → All (λ (o : Offer). o.eligible.0 ≤ new.last.at.0) s.held
eligible-later {T} {network} {old} {new} key port s c is =
    let past : old.last.at.0 ≤ new.last.at.0 = c.reached.time in
    All-weaker (λ (o : Offer). o.eligible.0 ≤ old.last.at.0) (λ (o : Offer). o.eligible.0 ≤ new.last.at.0)
    (λ o before. omega arith) s.held is.times.eligible

-- a frame does not wait at a port along a row's leg
abbrev pub IsAway : {T : Type 0} → DeclaredNetwork → Course T → ℕ → ℕ → Type 0
IsAway network course port row = stage_at course row ≡ Waiting → place_at network course row ≢ port

-- so it is before and after a step
pub record PassesBy {T : Type 0} (network : DeclaredNetwork) (old new : Course T) (port row : ℕ) : Type 0 where
  pub before : IsAway network old port row
  pub after : IsAway network new port row

-- a port holds frames along rows that stay, where those that move are away from it
held-stays : {T : Type 0} {network : DeclaredNetwork} {old new : Course T} {Stays : ℕ → Type 0} (port : ℕ) (o : Offer)
    → Changes network old new Stays → ((row : ℕ) → Stays row ⊎ PassesBy network old new port row)
    → IsHeld network old port o → IsHeld network new port o
held-stays {T} {network} {old} {new} port o c moves h = elim (moves h.row) as (λ _. IsHeld network new port o) [
  | inl stays ↦ held-else port o c h stays
  | inr by ↦ absurd (by.before h.stage h.place)
]

-- a port stays what it was where the rows that move were away from it and are so still
pub port-stays : {T : Type 0} {network : DeclaredNetwork} {old new : Course T} {Stays : ℕ → Type 0}
    (key : T → ℕ → ℕ → ℕ) (port : ℕ) (s : PortState T) → Changes network old new Stays
    → IsPortOf key network old port s → ((row : ℕ) → Stays row ⊎ PassesBy network old new port row)
    → sent_so_far network new port ≡ sent_so_far network old port
    → turn_at new port ≡ turn_at old port → IsPortOf key network new port s
port-stays {T} {network} {old} {new} key port s c is moves sent turn = record {
  of_network = record {
    ps_per_bit = is.of_network.ps_per_bit;
    tie = is.of_network.tie ∙ sym c.tie;
    rooms = λ class within. is.of_network.rooms class within ∙ sym (c.rooms port class);
  };
  past = record {
    lawful = is.past.lawful;
    sent = subst (λ (ts : List Transmission). IsPermutation (transmissions s.sent) ts) (sym sent) is.past.sent;
  };
  holding = record {
    held = All-weaker (IsHeld network old port) (IsHeld network new port) (λ o h. held-stays port o c moves h) s.held
        is.holding.held;
    waiting = λ other within stage place. elim (moves other)
        as (λ _. Contains s.held (offer_at network new other)) [
          | inl stays ↦ waiting-else key port other s c stays is within stage place
          | inr by ↦ absurd (by.after stage place)
        ];
    apart = is.holding.apart;
  };
  turn = subst (IsTurn s) (sym turn) is.turn;
  free = is.free;
  times = record {
    started = started-later key port s c is;
    selected = selected-later key port s c is;
    eligible = eligible-later key port s c is;
  };
}

-- of one row that moves: another one stays
pub passes-one : {T : Type 0} {network : DeclaredNetwork} {old new : Course T} (port row : ℕ)
    → PassesBy network old new port row → (other : ℕ) → (other ≢ row) ⊎ PassesBy network old new port other
passes-one {T} {network} {old} {new} port row by other =
    elim (cases_eq other row) as (λ _. (other ≢ row) ⊎ PassesBy network old new port other) [
      | inl e ↦ inr (subst (PassesBy network old new port) (sym e) by)
      | inr apart ↦ inl apart
    ]
