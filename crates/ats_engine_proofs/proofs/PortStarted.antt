use Rattle.std.proofs.Common.{◌≡◌, ℕ, ◌<◌, ◌≤◌, false, List, [], ◌∷◌, ◌++◌, length, All, ap, ◌∙◌, sym}
use Rattle.std.proofs.Common.{subst}
use Rattle.std.proofs.Common.{refl, arith}
use Rattle.std.specs.Prelude.{◌≢◌, Contains, IsPermutation, map}
use Rattle.std.proofs.lemmas.List.{map_push}
use Rattle.std.proofs.lemmas.List.Elements.{All-tail}
use Rattle.std.proofs.lemmas.List.Sorted.{All-permutation, Contains-permutation, IsPermutation-trans}
use Rattle.std.proofs.lemmas.List.Sorted.{IsPermutation-cons}
use Rattle.std.proofs.lemmas.List.Sorted.{IsPermutation-to_front}
use Rattle.ats_facts.proofs.Lists.{all_left, all_unmapped}
use Rattle.ats_facts.proofs.Pairs.{AllPairs-permutation, pairs_less}
use Rattle.ats_num.specs.declared.time.Ps.{Ps}
use Rattle.ats_port_rule.specs.Transmission.{Transmission}
use Rattle.ats_network.specs.Network.{DeclaredNetwork}
use Rattle.ats_transmit.specs.Sending.{begun, last_of, last_start, sent_at, transmission_of, transmissions}
use Rattle.ats_transmit.specs.State.{PortState, IsLawfulPort}
use Rattle.ats_transmit.specs.declared.offer.Offer.{Offer}
use Rattle.ats_transmit.specs.declared.sent.Sent.{Sent}
use Rattle.ats_events.specs.declared.phase.TheConstants.{SELECTION}
use Rattle.ats_run_records.specs.Progress.{Progress, progress_at}
use Rattle.ats_engine_steps.specs.Course.{Course, offer_at, place_at, place_of, sent_so_far, stage_at, turn_at}
use Rattle.ats_engine_steps.specs.Ports.{IsTurn, IsHeld, IsPortOf, frames_at}
use Rattle.ats_engine_steps.specs.declared.stage.Stage.TheVariants.{Waiting}
use Rattle.ats_engine_proofs.proofs.Moving.{Changes}
use Rattle.ats_engine_proofs.proofs.PortKept.{IsAway, held-else, waiting-else, eligible-later}
use Rattle.ats_engine_proofs.proofs.PortLists.{flip, contains-rest, last-push, frames-taken, frames-started}

-- the transmission of the frame
abbrev starting : {T : Type 0} → PortState T → Offer → Ps → Sent
starting s started now = sent_at s.ps_per_bit started now.0

-- the port, once it has sent the frame
abbrev pub once_started : {T : Type 0} → PortState T → List Offer → Offer → Ps → PortState T
once_started s held started now = record s {
  held = held;
  sent = s.sent ++ starting s started now ∷ [];
  is_sending = false;
}

-- a port starts a frame that it held now, along the one leg that has it, and holds these then
pub record IsStarting {T : Type 0} (network : DeclaredNetwork) (old new : Course T) (now : Ps) (row port : ℕ)
    (s : PortState T) (held : List Offer) (started : Offer) : Type 0 where
  pub changes : Changes network old new (λ (other : ℕ). other ≢ row)
  pub within : row < length old.records
  pub offered : offer_at network old row ≡ started
  pub one : (other : ℕ) → other < length old.records → stage_at old other ≡ Waiting
      → place_at network old other ≡ port → (progress_at old.records other).frame ≡ started.frame → other ≡ row
  pub takes : IsPermutation s.held (started ∷ held)
  pub away : IsAway network new port row
  pub last : new.last.at ≡ now
  pub phase : SELECTION ≤ new.last.phase
  pub turn : IsTurn (once_started s held started now) (turn_at new port)

-- no frame that the port still holds is the one that starts
still-apart : {T : Type 0} {network : DeclaredNetwork} {old new : Course T} {now : Ps} {row port : ℕ}
    {s : PortState T} {held : List Offer} {started : Offer} (key : T → ℕ → ℕ → ℕ)
    → IsStarting network old new now row port s held started → IsPortOf key network old port s
    → All (λ (o : Offer). started.frame ≢ o.frame) held
still-apart {T} {network} {old} {new} {now} {row} {port} {s} {held} {started} key o is =
    let of_offer : Offer → ℕ = λ (x : Offer). x.frame in
    let of_sent : Sent → ℕ = λ (x : Sent). x.frame in
    let Other : ℕ → Type 0 = λ (n : ℕ). started.frame ≢ n in
    let rest : All Other (map of_offer held ++ map of_sent s.sent) =
    (pairs_less (λ (x y : ℕ). x ≢ y) flip started.frame (frames_at s) (map of_offer held ++ map of_sent s.sent)
    (frames-taken started s.held held s.sent o.takes) is.holding.apart).0 in
    all_unmapped Other of_offer held (all_left Other (map of_offer held) (map of_sent s.sent) rest)

-- those that it still holds wait there as before
still-held : {T : Type 0} {network : DeclaredNetwork} {old new : Course T} {now : Ps} {row port : ℕ}
    {s : PortState T} {held : List Offer} {started : Offer} (key : T → ℕ → ℕ → ℕ)
    → IsStarting network old new now row port s held started → IsPortOf key network old port s
    → All (IsHeld network new port) held
still-held {T} {network} {old} {new} {now} {row} {port} {s} {held} {started} key o is =
    let before : All (IsHeld network old port) held =
    All-tail (IsHeld network old port) started held
    (All-permutation (IsHeld network old port) s.held (started ∷ held) o.takes is.holding.held) in
    let apart = still-apart key o is in
    λ k d h. (
    let b = before k d h in
    held-else port _ o.changes b (λ e. apart k d h
    (ap (λ (x : Offer). x.frame) (sym o.offered ∙ ap (offer_at network old) (sym e) ∙ b.same))))

-- the transmissions are those of the run with the new one
more-sent : {T : Type 0} (s : PortState T) (started : Offer) (now : Ps) (before after : List Transmission)
    → IsPermutation (transmissions s.sent) before
    → IsPermutation (begun s.ps_per_bit started now.0 ∷ before) after
    → IsPermutation (transmissions (s.sent ++ starting s started now ∷ [])) after
more-sent s started now before after was more =
    let x : Transmission = begun s.ps_per_bit started now.0 in
    let To : List Transmission → Type 0 = λ (ts : List Transmission). IsPermutation ts after in
    subst To (sym (map_push transmission_of s.sent (starting s started now)))
    (IsPermutation-trans _ _ _ (IsPermutation-to_front (transmissions s.sent) x)
    (IsPermutation-trans _ _ _ (IsPermutation-cons x (transmissions s.sent) before was) more))

-- whatever waits there is still held
still-there : {T : Type 0} {network : DeclaredNetwork} {old new : Course T} {now : Ps} {row port : ℕ}
    {s : PortState T} {held : List Offer} {started : Offer} (key : T → ℕ → ℕ → ℕ)
    → IsStarting network old new now row port s held started → IsPortOf key network old port s
    → (other : ℕ) → other < length new.records → stage_at new other ≡ Waiting → place_at network new other ≡ port
    → Contains held (offer_at network new other)
still-there {T} {network} {old} {new} {now} {row} {port} {s} {held} {started} key o is other within stage
    place =
    let offer : Offer = offer_at network new other in
    let apart : other ≢ row =
    λ e. o.away (ap (stage_at new) (sym e) ∙ stage) (ap (place_at network new) (sym e) ∙ place) in
    contains-rest started offer held (Contains-permutation s.held (started ∷ held) offer o.takes
    (waiting-else key port other s o.changes apart is within stage place))
    (λ e. (
    let kept : progress_at new.records other ≡ progress_at old.records other = o.changes.records other apart in
    apart (o.one other (subst (λ (n : ℕ). other < n) o.changes.count within)
    (sym (o.changes.stages other apart) ∙ stage) (ap (place_of network) (sym kept) ∙ place)
    (ap (λ (p : Progress). p.frame) (sym kept) ∙ sym (ap (λ (x : Offer). x.frame) e)))))

-- the port sends the frame from now on, to its end
pub port-started : {T : Type 0} {network : DeclaredNetwork} {old new : Course T} {now : Ps} {row port : ℕ}
    {s : PortState T} {held : List Offer} {started : Offer} (key : T → ℕ → ℕ → ℕ)
    → IsStarting network old new now row port s held started → IsPortOf key network old port s
    → IsLawfulPort key (once_started s held started now)
    → IsPermutation (begun s.ps_per_bit started now.0 ∷ sent_so_far network old port)
    (sent_so_far network new port)
    → IsPortOf key network new port (once_started s held started now)
port-started {T} {network} {old} {new} {now} {row} {port} {s} {held} {started} key o is lawful more =
    let c = o.changes in
    let t : PortState T = once_started s held started now in
    let x : Sent = starting s started now in
    let last : last_of (s.sent ++ x ∷ []) ≡ x = last-push s.sent x in
    let start : last_start (s.sent ++ x ∷ []) ≡ new.last.at.0 =
    ap (λ (y : Sent). y.start.0) last ∙ ap (λ (at : Ps). at.0) (sym o.last) in
    let Eligible : Offer → Type 0 = λ (y : Offer). y.eligible.0 ≤ new.last.at.0 in
    record {
      of_network = record {
        ps_per_bit = is.of_network.ps_per_bit;
        tie = is.of_network.tie ∙ sym c.tie;
        rooms = λ class within. is.of_network.rooms class within ∙ sym (c.rooms port class);
      };
      past = record {
        lawful = lawful;
        sent = more-sent s started now (sent_so_far network old port) (sent_so_far network new port)
            is.past.sent more;
      };
      holding = record {
        held = still-held key o is;
        waiting = still-there key o is;
        apart = AllPairs-permutation (λ (a b : ℕ). a ≢ b) flip (frames_at s) (frames_at t)
            (frames-started started x s.held held s.sent o.takes refl) is.holding.apart;
      };
      turn = o.turn;
      free = refl;
      times = record {
        started = λ _. omega (arith, start);
        selected = λ _ _. o.phase;
        eligible = All-tail Eligible started held
            (All-permutation Eligible s.held (started ∷ held) o.takes (eligible-later key port s c is));
      };
    }
