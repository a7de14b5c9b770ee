use Rattle.std.proofs.Common.{◌≡◌, ℕ, ◌<◌, ◌≤◌, List, [], ◌∷◌, ◌++◌, length, All, ap, ◌∙◌, sym, subst}
use Rattle.std.proofs.Common.{inl, inr, max, arith, refl}
use Rattle.std.specs.Prelude.{◌≢◌, Any, AllPairs, Contains, IsPermutation, map}
use Rattle.std.proofs.lemmas.Bool.{cases_eq}
use Rattle.std.proofs.lemmas.List.Elements.{All-cons, All-append, All-map, All-weaker, All-contains}
use Rattle.std.proofs.lemmas.List.Sorted.{All-permutation}
use Rattle.ats_facts.proofs.Pairs.{pairs_more}
use Rattle.ats_num.specs.declared.time.Ps.{Ps}
use Rattle.ats_port_rule.specs.Transmission.{Transmission}
use Rattle.ats_network.specs.Network.{DeclaredNetwork}
use Rattle.ats_transmit.specs.Picks.{IsFirstStart, MaySend}
use Rattle.ats_transmit.specs.Sending.{last_end, transmissions}
use Rattle.ats_transmit.specs.State.{PortState, IsLawfulPort}
use Rattle.ats_transmit.specs.declared.offer.Offer.{Offer}
use Rattle.ats_transmit.specs.declared.sent.Sent.{Sent}
use Rattle.ats_run_records.specs.Progress.{progress_at}
use Rattle.ats_engine_steps.specs.Course.{Course, offer_at, offer_of, place_at, place_of, sent_so_far, stage_at}
use Rattle.ats_engine_steps.specs.Course.{turn_at}
use Rattle.ats_engine_steps.specs.Ports.{IsTurn, IsHeld, IsPortOf, frames_at}
use Rattle.ats_engine_steps.specs.Steps.{turn_once_offered}
use Rattle.ats_engine_steps.specs.declared.stage.Stage.TheVariants.{Due, Waiting}
use Rattle.ats_engine_steps.specs.declared.turn.Turn.{Turn}
use Rattle.ats_engine_steps.specs.declared.turn.Turn.TheVariants.{Resting, Selecting}
use Rattle.ats_engine_proofs.proofs.Moving.{Changes}
use Rattle.ats_engine_proofs.proofs.PortKept.{held-else, waiting-else}
use Rattle.ats_engine_proofs.proofs.PortKept.{started-later, selected-later, eligible-later}
use Rattle.ats_engine_proofs.proofs.PortLists.{flip, contains-more, contains-new, any-more, any-split, frames-offered}

-- a frame that was due along a leg is offered to a port now
pub record IsOffering {T : Type 0} (network : DeclaredNetwork) (old new : Course T) (now : Ps) (row port : ℕ)
    : Type 0 where
  pub changes : Changes network old new (λ (other : ℕ). other ≢ row)
  pub within : row < length old.records
  pub due : stage_at old row ≡ Due now
  pub waits : stage_at new row ≡ Waiting
  pub same : progress_at new.records row ≡ progress_at old.records row
  pub place : place_at network old row ≡ port
  pub eligible : (offer_at network old row).eligible ≡ now
  pub last : new.last.at ≡ now

-- a frame that is due does not wait
due-waiting : (at : Ps) → Due at ≡ Waiting → ⊥
due-waiting at e = cc

-- it waits at the port, to which it was offered as it is
held-offered : {T : Type 0} {network : DeclaredNetwork} {old new : Course T} {now : Ps} {row port : ℕ}
    → IsOffering network old new now row port → IsHeld network new port (offer_at network old row)
held-offered {T} {network} {old} {new} {now} {row} o = record {
  row = row;
  within = subst (λ (n : ℕ). row < n) (sym o.changes.count) o.within;
  stage = o.waits;
  place = ap (place_of network) o.same ∙ o.place;
  same = ap (offer_of network) o.same;
}

-- a frame that waits at a port does not so along the leg along which one is due
held-apart : {T : Type 0} {network : DeclaredNetwork} {old new : Course T} {now : Ps} {row port : ℕ} (x : Offer)
    → IsOffering network old new now row port → (h : IsHeld network old port x) → h.row ≢ row
held-apart {T} {network} {old} {new} {now} x o h e =
    due-waiting now (sym o.due ∙ ap (stage_at old) (sym e) ∙ h.stage)

-- all frames that it held, and the new one, wait there
all-held : {T : Type 0} {network : DeclaredNetwork} {old new : Course T} {now : Ps} {row port : ℕ}
    (held after : List Offer) → IsOffering network old new now row port
    → IsPermutation (offer_at network old row ∷ held) after
    → All (IsHeld network old port) held → All (IsHeld network new port) after
all-held {T} {network} {old} {new} {now} {row} {port} held after o p all =
    let offer : Offer = offer_at network old row in
    All-permutation (IsHeld network new port) (offer ∷ held) after p
    (All-cons (IsHeld network new port) offer held (held-offered o)
    (All-weaker (IsHeld network old port) (IsHeld network new port)
    (λ x h. held-else port x o.changes h (held-apart x o h)) held all))

-- all frames that wait there are held
all-there : {T : Type 0} {network : DeclaredNetwork} {old new : Course T} {now : Ps} {row port : ℕ}
    (key : T → ℕ → ℕ → ℕ) (s : PortState T) (held : List Offer) → IsOffering network old new now row port
    → IsPortOf key network old port s → IsPermutation (offer_at network old row ∷ s.held) held
    → (other : ℕ) → other < length new.records → stage_at new other ≡ Waiting → place_at network new other ≡ port
    → Contains held (offer_at network new other)
all-there {T} {network} {old} {new} {now} {row} {port} key s held o is p other within stage place =
    let offer : Offer = offer_at network old row in
    let Goal : Type 0 = Contains held (offer_at network new other) in
    elim (cases_eq other row) as (λ _. Goal) [
      | inl e ↦ (
          let same : offer ≡ offer_at network new other =
          sym (ap (offer_at network new) e ∙ ap (offer_of network) o.same) in
          subst (Contains held) same (contains-new offer s.held held p))
      | inr apart ↦ contains-more offer (offer_at network new other) s.held held p
          (waiting-else key port other s o.changes apart is within stage place)
    ]

-- no frame is there twice
all-apart : {T : Type 0} {network : DeclaredNetwork} {old : Course T} {port : ℕ} (row : ℕ) (key : T → ℕ → ℕ → ℕ)
    (s : PortState T) (held : List Offer) → IsPortOf key network old port s
    → IsPermutation (offer_at network old row ∷ s.held) held
    → All (λ (x : Offer). x.frame ≢ (progress_at old.records row).frame) s.held
    → All (λ (x : Sent). x.frame ≢ (progress_at old.records row).frame) s.sent
    → AllPairs (λ (x y : ℕ). x ≢ y) (map (λ (o : Offer). o.frame) held ++ map (λ (x : Sent). x.frame) s.sent)
all-apart {T} {network} {old} row key s held is p not_held not_sent =
    let frame : ℕ = (progress_at old.records row).frame in
    let Other : ℕ → Type 0 = λ (n : ℕ). frame ≢ n in
    let of_offer : Offer → ℕ = λ (x : Offer). x.frame in
    let of_sent : Sent → ℕ = λ (x : Sent). x.frame in
    let first : All Other (map of_offer s.held) =
    All-map Other of_offer s.held (All-weaker (λ (x : Offer). x.frame ≢ frame) (λ (x : Offer). frame ≢ x.frame)
    (λ x h. flip x.frame frame h) s.held not_held) in
    let second : All Other (map of_sent s.sent) =
    All-map Other of_sent s.sent (All-weaker (λ (x : Sent). x.frame ≢ frame) (λ (x : Sent). frame ≢ x.frame)
    (λ x h. flip x.frame frame h) s.sent not_sent) in
    pairs_more (λ (x y : ℕ). x ≢ y) flip frame (frames_at s) (map of_offer held ++ map of_sent s.sent)
    (frames-offered (offer_at network old row) s.held held s.sent p)
    (All-append Other (map of_offer s.held) (map of_sent s.sent) first second) is.holding.apart

-- one that is to select at some time does so still
turn-selecting : {T : Type 0} {network : DeclaredNetwork} {old new : Course T} {now : Ps} {row port : ℕ}
    (key : T → ℕ → ℕ → ℕ) (s : PortState T) (held : List Offer) (at : ℕ)
    → IsOffering network old new now row port
    → IsPortOf key network old port s → IsPermutation (offer_at network old row ∷ s.held) held
    → IsFirstStart s.held s.sent at → IsFirstStart held s.sent at
turn-selecting {T} {network} {old} {new} {now} {row} key s held at o is p was =
    let offer : Offer = offer_at network old row in
    let past : old.last.at.0 ≤ new.last.at.0 = o.changes.reached.time in
    let is_now : new.last.at.0 ≡ now.0 = ap (λ (at : Ps). at.0) o.last in
    let eligible : offer.eligible.0 ≡ now.0 = ap (λ (at : Ps). at.0) o.eligible in
    let some : Any (λ (x : Offer). x.eligible.0 ≤ at) s.held = was.reached.eligible in
    let held_before : some.1.eligible.0 ≤ old.last.at.0 =
    All-contains (λ (x : Offer). x.eligible.0 ≤ old.last.at.0) s.held some.1 is.times.eligible
    (some.0, some.2, some.3) in
    record {
      reached = record {
        free = was.reached.free;
        eligible = any-more (λ (x : Offer). x.eligible.0 ≤ at) offer s.held held p some;
      };
      first = λ earlier may. (
          let By : Offer → Type 0 = λ (x : Offer). x.eligible.0 ≤ earlier in
          elim (any-split By offer s.held held p may.eligible) as (λ _. at ≤ earlier) [
            | inl by ↦ was.first earlier (record {
              free = may.free;
              eligible = (some.0, some.1, some.2, some.3, omega arith);
            })
            | inr other ↦ was.first earlier (record { free = may.free; eligible = other })
          ]);
    }

-- one that held nothing selects the frame that it is offered, once it is eligible and the port is free
pub rested-at : (offer : Offer) (before held : List Offer) (sent : List Sent) (at : ℕ)
    → IsPermutation (offer ∷ before) held → before ≡ [] → IsFirstStart held sent at
    → at ≡ max offer.eligible.0 (last_end sent)
rested-at offer before held sent at p empty first =
    let By : Offer → Type 0 = λ (x : Offer). x.eligible.0 ≤ at in
    let soonest : ℕ = max offer.eligible.0 (last_end sent) in
    let there : Contains held offer = contains-new offer before held p in
    let may : MaySend held sent soonest = record {
      free = omega arith;
      eligible = (there.0, offer, there.1, there.2, omega arith);
    } in
    let soon : at ≤ soonest = first.first soonest may in
    let free : last_end sent ≤ at = first.reached.free in
    elim (any-split By offer before held p first.reached.eligible) as (λ _. at ≡ soonest) [
      | inl by ↦ omega arith
      | inr other ↦ (let none : Any By [] = subst (Any By) empty other in absurd (omega (arith, none.2)))
    ]

-- the port does next what its turn says then
turn-offered : {T : Type 0} {network : DeclaredNetwork} {old new : Course T} {now : Ps} {row port : ℕ}
    (key : T → ℕ → ℕ → ℕ) (s : PortState T) (held : List Offer) (at : Ps) → IsOffering network old new now row port
    → IsPortOf key network old port s → IsPermutation (offer_at network old row ∷ s.held) held
    → (turn : Turn) → (turn ≡ Resting → IsFirstStart held s.sent at.0) → IsTurn s turn
    → IsTurn (record s { held = held }) (turn_once_offered turn at)
turn-offered key s held at o is p Resting first t = first refl
turn-offered key s held at o is p (Selecting time) first t = turn-selecting key s held time.0 o is p t

-- the port holds the frame too
pub port-offered : {T : Type 0} {network : DeclaredNetwork} {old new : Course T} {now : Ps} {row port : ℕ}
    (key : T → ℕ → ℕ → ℕ) (s : PortState T) (held : List Offer) (at : Ps) → IsOffering network old new now row port
    → IsPortOf key network old port s → IsPermutation (offer_at network old row ∷ s.held) held
    → IsLawfulPort key (record s { held = held })
    → All (λ (x : Offer). x.frame ≢ (progress_at old.records row).frame) s.held
    → All (λ (x : Sent). x.frame ≢ (progress_at old.records row).frame) s.sent
    → sent_so_far network new port ≡ sent_so_far network old port
    → (turn_at old port ≡ Resting → IsFirstStart held s.sent at.0)
    → turn_at new port ≡ turn_once_offered (turn_at old port) at
    → IsPortOf key network new port (record s { held = held })
port-offered {T} {network} {old} {new} {now} {row} {port} key s held at o is p lawful not_held not_sent sent first turn
    =
    let c = o.changes in
    let t : PortState T = record s { held = held } in
    let offer : Offer = offer_at network old row in
    let past : old.last.at.0 ≤ new.last.at.0 = c.reached.time in
    let eligible : offer.eligible.0 ≡ new.last.at.0 = ap (λ (at : Ps). at.0) (o.eligible ∙ sym o.last) in
    let Eligible : Offer → Type 0 = λ (x : Offer). x.eligible.0 ≤ new.last.at.0 in
    record {
      of_network = record {
        ps_per_bit = is.of_network.ps_per_bit;
        tie = is.of_network.tie ∙ sym c.tie;
        rooms = λ class within. is.of_network.rooms class within ∙ sym (c.rooms port class);
      };
      past = record {
        lawful = lawful;
        sent = subst (λ (ts : List Transmission). IsPermutation (transmissions s.sent) ts) (sym sent) is.past.sent;
      };
      holding = record {
        held = all-held s.held held o p is.holding.held;
        waiting = all-there key s held o is p;
        apart = all-apart row key s held is p not_held not_sent;
      };
      turn = subst (IsTurn t) (sym turn) (turn-offered key s held at o is p (turn_at old port) first is.turn);
      free = is.free;
      times = record {
        started = started-later key port s c is;
        selected = selected-later key port s c is;
        eligible = All-permutation Eligible (offer ∷ s.held) held p
            (All-cons Eligible offer s.held (omega arith) (eligible-later key port s c is));
      };
    }
