use Rattle.std.proofs.Common.{◌≡◌, ℕ, ◌+◌, ◌<◌, List, length, All, sym, ap, ◌∙◌, subst, inl, inr, arith}
use Rattle.std.specs.Prelude.{Option}
use Rattle.std.proofs.lemmas.Bool.{cases_eq}
use Rattle.std.proofs.lemmas.List.{get_or-set_same, get_or-set_other}
use Rattle.ats_num.specs.Pace.{WaitsWithin}
use Rattle.ats_num.specs.declared.time.Ps.{Ps}
use Rattle.ats_num.specs.declared.time.TheConstants.{END}
use Rattle.ats_topology.specs.Port.{port_at}
use Rattle.ats_topology.specs.declared.port.Port.{Port}
use Rattle.ats_network.specs.Network.{DeclaredNetwork}
use Rattle.ats_transmit.specs.declared.offer.Offer.{Offer}
use Rattle.ats_events.specs.declared.moment.Moment.{Moment}
use Rattle.ats_trace.specs.Links.{KeepsLinkRule, KeepsPace, in_order_from}
use Rattle.ats_trace.specs.Projections.{Crossing}
use Rattle.ats_trace.specs.declared.journey.Release.{Release}
use Rattle.ats_engine_steps.specs.Course.{Course, crossings_so_far, arrives_from_at}
use Rattle.ats_engine_steps.specs.Paces.{IsPaced, arrival_behind}
use Rattle.ats_engine_steps.specs.Ports.{port_state_at}
use Rattle.ats_engine_steps.specs.Steps.{Comes, BecomesEligible, Selects}
use Rattle.ats_engine_steps.specs.declared.event.Event.{Event}
use Rattle.ats_engine_steps.specs.declared.event.Event.TheVariants.{Arrival, Selection}
use Rattle.ats_engine_proofs.specs.Next.{IsEligibleNow, IsNext}
use Rattle.ats_engine_proofs.proofs.Arriving.{IsNewest, rule-more, pace-more, from-more}
use Rattle.ats_engine_proofs.proofs.Crossed.{crossed-ended}
use Rattle.ats_engine_proofs.proofs.Lasting.{selects-free, selects-later, selects-soon}
use Rattle.ats_engine_proofs.proofs.Rows.{row-is}
use Rattle.ats_engine_proofs.proofs.Now.{next-in_time, next-port}
use Rattle.ats_engine_proofs.proofs.Standing.{selecting-within}
use Rattle.ats_engine_proofs.proofs.Travels.{comes-crossings, offered-crossings, selects-crossing, selects-offer}
use Rattle.ats_engine_proofs.proofs.Travels.{selects-uncrossed, selects-within}

-- a port behind which nothing happened
same_paces : {T : Type 0} (wait : ℕ → ℕ → ℕ) (network : DeclaredNetwork) (old new : Course T) (other : ℕ)
    → crossings_so_far network new other ≡ crossings_so_far network old other
    → arrives_from_at new other ≡ arrives_from_at old other → IsPaced wait network old other
    → IsPaced wait network new other
same_paces wait network old new other same from paced =
    let port : Port = port_at network.topology.ports other in
    record {
      rule = subst (KeepsLinkRule port) (sym same) paced.rule;
      pace = subst (KeepsPace wait port) (sym same) paced.pace;
      next = from ∙ paced.next ∙ sym (ap (in_order_from END) same);
    }

-- after an arrival all frames have crossed each port by its pace, and it is known when the next one may arrive
pub comes-paces : {T : Type 0} {key : T → ℕ → ℕ → ℕ} {wait : ℕ → ℕ → ℕ} {network : DeclaredNetwork}
    {releases : List Release} {old new : Course T} {now : Moment} {row : ℕ} {entries : List (Moment × Event)}
    {due : Option Ps} → IsNext key wait network releases old now (Arrival row) entries
    → Comes network old new now row due
    → (other : ℕ) → other < length network.topology.ports → IsPaced wait network new other
comes-paces {T} {key} {wait} {network} {releases} {old} {new} {now} {row} {entries} {due} next step other below =
    same_paces wait network old new other (comes-crossings next step other)
    (ap (λ (c : Course T). arrives_from_at c other) step.becomes) (next.holds.paces other below)

-- and so after a frame became eligible
pub offered-paces : {T : Type 0} {key : T → ℕ → ℕ → ℕ} {wait : ℕ → ℕ → ℕ} {network : DeclaredNetwork}
    {releases : List Release} {old new : Course T} {now : Moment} {row : ℕ} {entries more : List (Moment × Event)}
    → IsEligibleNow key wait network releases old now row entries
    → BecomesEligible key network old new now row more → (other : ℕ) → other < length network.topology.ports
    → IsPaced wait network new other
offered-paces {T} {key} {wait} {network} {releases} {old} {new} {now} {row} {entries} {more} next step other below =
    same_paces wait network old new other (offered-crossings next step other)
    (ap (λ (c : Course T). arrives_from_at c other) step.becomes) (next.holds.paces other below)

-- whatever has crossed a port was sent to its end before a transmission that starts now ends
crossed_before : {T : Type 0} {key : T → ℕ → ℕ → ℕ} {wait : ℕ → ℕ → ℕ} {network : DeclaredNetwork}
    {releases : List Release} {old new : Course T} {now : Moment} {port : ℕ} {entries more : List (Moment × Event)}
    → IsNext key wait network releases old now (Selection port) entries
    → (step : Selects key wait network old new now port more)
    → All (λ (y : Crossing). y.sent.end < step.end.0) (crossings_so_far network old port)
crossed_before {T} {key} {wait} {network} {releases} {old} {new} {now} {port} next step k d h =
    let ended = crossed-ended key network old port (port_state_at old port)
    (next.holds.ports port (selecting-within next)) k d h in
    omega (arith, ended, selects-free next, selects-later next step)

-- the frame is the newest behind its port
newest_here : {T : Type 0} {key : T → ℕ → ℕ → ℕ} {wait : ℕ → ℕ → ℕ} {network : DeclaredNetwork}
    {releases : List Release} {old new : Course T} {now : Moment} {port : ℕ} {entries more : List (Moment × Event)}
    → WaitsWithin wait → (next : IsNext key wait network releases old now (Selection port) entries)
    → (step : Selects key wait network old new now port more)
    → IsNewest wait (port_at network.topology.ports port) (arrives_from_at old port) (selects-crossing next step).0
    (crossings_so_far network old port)
newest_here {T} {key} {wait} {network} {releases} {old} {new} {now} {port} within next step =
    let link : Port = port_at network.topology.ports port in
    let from : ℕ = arrives_from_at old port in
    let x : Crossing = (selects-crossing next step).0 in
    let is = (selects-crossing next step).1 in
    let below : port < length network.topology.ports = selecting-within next in
    let rules = next-port next port below in
    let known = (row-is next.holds.shape step.row (selects-within next step)).frame in
    let time = next-in_time next in
    let named : x.sent.frame ≡ step.frame =
    is.named ∙ ap (λ (o : Offer). o.frame) (selects-offer next step) ∙ step.starts.named in
    record {
      later = λ k d h. omega (arith, is.ends, crossed_before next step k d h);
      allowed = (next.holds.paces port below).next;
      arrives = is.arrives ∙ step.arrives
          ∙ ap (λ (f : ℕ). arrival_behind wait link f step.end.0 from) (sym named)
          ∙ ap (λ (n : ℕ). arrival_behind wait link x.sent.frame n from) (sym is.ends);
      waits = within x.sent.frame _ (omega (arith, is.named, known, next.holds.shape.few)) rules.spread;
      ordered = rules.ordered;
      end = omega (arith, is.ends, selects-soon next step, time);
    }

-- behind the port that selects
paces_here : {T : Type 0} {key : T → ℕ → ℕ → ℕ} {wait : ℕ → ℕ → ℕ} {network : DeclaredNetwork}
    {releases : List Release} {old new : Course T} {now : Moment} {port : ℕ} {entries more : List (Moment × Event)}
    → WaitsWithin wait → IsNext key wait network releases old now (Selection port) entries
    → Selects key wait network old new now port more → IsPaced wait network new port
paces_here {T} {key} {wait} {network} {releases} {old} {new} {now} {port} within next step =
    let link : Port = port_at network.topology.ports port in
    let from : ℕ = arrives_from_at old port in
    let xs : List Crossing = crossings_so_far network old port in
    let ys : List Crossing = crossings_so_far network new port in
    let x : Crossing = (selects-crossing next step).0 in
    let is = (selects-crossing next step).1 in
    let moved = (selects-crossing next step).2 in
    let below : port < length network.topology.ports = selecting-within next in
    let paced : IsPaced wait network old port = next.holds.paces port below in
    let newest = newest_here within next step in
    let none : Ps = record { 0 = 0 } in
    let later : Ps = record { 0 = step.arrival.0 + 1 } in
    let there : port < length old.arrives_from = omega (arith, next.holds.shape.arrives_from, below) in
    record {
      rule = rule-more wait link from x xs ys newest moved paced.rule;
      pace = pace-more wait link from x xs ys newest moved paced.pace;
      next = ap (λ (c : Course T). arrives_from_at c port) step.becomes
          ∙ ap (λ (p : Ps). p.0) (get_or-set_same old.arrives_from port later none there)
          ∙ ap (λ (n : ℕ). n + 1) (sym is.arrives)
          ∙ from-more wait link from x xs ys newest moved;
    }

-- and after a selection, by which a frame arrives by the pace
pub selects-paces : {T : Type 0} {key : T → ℕ → ℕ → ℕ} {wait : ℕ → ℕ → ℕ} {network : DeclaredNetwork}
    {releases : List Release} {old new : Course T} {now : Moment} {port : ℕ} {entries more : List (Moment × Event)}
    → WaitsWithin wait → IsNext key wait network releases old now (Selection port) entries
    → Selects key wait network old new now port more → (other : ℕ) → other < length network.topology.ports
    → IsPaced wait network new other
selects-paces {T} {key} {wait} {network} {releases} {old} {new} {now} {port} within next step other below =
    let none : Ps = record { 0 = 0 } in
    let later : Ps = record { 0 = step.arrival.0 + 1 } in
    elim (cases_eq other port) as (λ _. IsPaced wait network new other) [
      | inl e ↦ subst (IsPaced wait network new) (sym e) (paces_here within next step)
      | inr apart ↦ same_paces wait network old new other (selects-uncrossed next step other apart)
          (ap (λ (c : Course T). arrives_from_at c other) step.becomes
          ∙ ap (λ (p : Ps). p.0) (get_or-set_other old.arrives_from port other later none apart))
          (next.holds.paces other below)
    ]
