-- How long a transmission takes that a port starts now.
use Rattle.std.proofs.Common.{◌≡◌, ℕ, ◌+◌, ◌*◌, ◌<◌, ◌≤◌, List, length, ◌∙◌, ap, subst, arith}
use Rattle.std.proofs.Math.Nat.{mul-le-mul_right}
use Rattle.ats_num.specs.Wire.{bits_of}
use Rattle.ats_topology.specs.Port.{port_at, no_port}
use Rattle.ats_topology.specs.Topology.{DeclaredTopology, IsTopology}
use Rattle.ats_topology.proofs.Rules.{ports_are_lawful}
use Rattle.ats_network.specs.Network.{DeclaredNetwork}
use Rattle.ats_transmit.specs.Picks.{IsFirstStart}
use Rattle.ats_transmit.specs.Sending.{last_end}
use Rattle.ats_transmit.specs.State.{PortState}
use Rattle.ats_transmit.specs.declared.offer.Offer.{Offer}
use Rattle.ats_events.specs.declared.moment.Moment.{Moment}
use Rattle.ats_trace.specs.declared.journey.Release.{Release}
use Rattle.ats_engine_steps.specs.Bounds.{most_sending}
use Rattle.ats_engine_steps.specs.Course.{Course}
use Rattle.ats_engine_steps.specs.Invariant.{Holds}
use Rattle.ats_engine_steps.specs.Ports.{IsHeld, IsTurn, port_state_at}
use Rattle.ats_engine_steps.specs.Steps.{Selects}
use Rattle.ats_engine_steps.specs.declared.event.Event.{Event}
use Rattle.ats_engine_steps.specs.declared.event.Event.TheVariants.{Selection}
use Rattle.ats_engine_proofs.specs.Next.{IsNext}
use Rattle.ats_engine_proofs.proofs.Stages.{next-selecting}
use Rattle.ats_engine_proofs.proofs.Standing.{selecting-within}
use Rattle.ats_engine_proofs.proofs.Travels.{selects-held}

-- a transmission takes some time
sending-takes : (topology : DeclaredTopology) (port octets : ℕ) → IsTopology topology → port < length topology.ports
    → 1 ≤ (port_at topology.ports port).ps_per_bit * bits_of octets
sending-takes topology port octets rules within =
    let rate = ((ports_are_lawful topology rules).each port no_port within).rate in
    let ps : ℕ = (port_at topology.ports port).ps_per_bit in
    let least : 1 ≤ ps = omega (arith, rate.least) in
    omega (arith, mul-le-mul_right (bits_of octets) least)

-- and no more than the bound
sending-most : (ps octets : ℕ) → ps ≤ 100000 → octets ≤ 2000 → ps * bits_of octets ≤ most_sending
sending-most ps octets rate size =
    let bits : bits_of octets ≤ 16160 = omega arith in
    omega (arith, mul-le-mul_right (bits_of octets) rate)

-- of a frame that a port holds too
pub held-most : {T : Type 0} {key : T → ℕ → ℕ → ℕ} {wait : ℕ → ℕ → ℕ} {network : DeclaredNetwork}
    {releases : List Release} {course : Course T} {entries : List (Moment × Event)}
    → Holds key wait network releases course entries → (port : ℕ) (o : Offer) → port < length network.topology.ports
    → IsHeld network course port o → (port_at network.topology.ports port).ps_per_bit * bits_of o.octets ≤ most_sending
held-most {T} {key} {wait} {network} {releases} {course} holds port o within held =
    let size : o.octets ≤ 2000 = omega (
      arith,
      (holds.frames held.row held.within).octets.most,
      ap (λ (x : Offer). x.octets) held.same,
    ) in
    let rate = ((ports_are_lawful network.topology holds.rules.topology).each port no_port within).rate in
    sending-most (port_at network.topology.ports port).ps_per_bit o.octets rate.most size

-- when a transmission that starts now ends
selects-end : {T : Type 0} {key : T → ℕ → ℕ → ℕ} {wait : ℕ → ℕ → ℕ} {network : DeclaredNetwork}
    {releases : List Release} {old new : Course T} {now : Moment} {port : ℕ} {entries more : List (Moment × Event)}
    → IsNext key wait network releases old now (Selection port) entries
    → (step : Selects key wait network old new now port more)
    → step.end.0 ≡ now.at.0 + (port_at network.topology.ports port).ps_per_bit * bits_of step.starts.started.octets
selects-end {T} {key} {wait} {network} {releases} {old} {new} {now} {port} next step =
    step.starts.ends ∙ ap (λ (ps : ℕ). now.at.0 + ps * bits_of step.starts.started.octets)
    (next.holds.ports port (selecting-within next)).of_network.ps_per_bit

-- later
pub selects-later : {T : Type 0} {key : T → ℕ → ℕ → ℕ} {wait : ℕ → ℕ → ℕ} {network : DeclaredNetwork}
    {releases : List Release} {old new : Course T} {now : Moment} {port : ℕ} {entries more : List (Moment × Event)}
    → IsNext key wait network releases old now (Selection port) entries
    → (step : Selects key wait network old new now port more) → now.at.0 < step.end.0
selects-later {T} {key} {wait} {network} {releases} {old} {new} {now} {port} next step =
    let takes = sending-takes network.topology port step.starts.started.octets next.holds.rules.topology
    (selecting-within next) in
    omega (arith, takes, selects-end next step)

-- but soon
pub selects-soon : {T : Type 0} {key : T → ℕ → ℕ → ℕ} {wait : ℕ → ℕ → ℕ} {network : DeclaredNetwork}
    {releases : List Release} {old new : Course T} {now : Moment} {port : ℕ} {entries more : List (Moment × Event)}
    → IsNext key wait network releases old now (Selection port) entries
    → (step : Selects key wait network old new now port more) → step.end.0 ≤ now.at.0 + most_sending
selects-soon {T} {key} {wait} {network} {releases} {old} {new} {now} {port} next step =
    let most = held-most next.holds port step.starts.started (selecting-within next) (selects-held next step) in
    omega (arith, selects-end next step, most)

-- those of the port before have ended
pub selects-free : {T : Type 0} {key : T → ℕ → ℕ → ℕ} {wait : ℕ → ℕ → ℕ} {network : DeclaredNetwork}
    {releases : List Release} {old : Course T} {now : Moment} {port : ℕ} {entries : List (Moment × Event)}
    → IsNext key wait network releases old now (Selection port) entries
    → last_end (port_state_at old port).sent ≤ now.at.0
selects-free {T} {key} {wait} {network} {releases} {old} {now} {port} next =
    let s : PortState T = port_state_at old port in
    let turn : IsFirstStart s.held s.sent now.at.0 =
    subst (IsTurn s) (next-selecting next) (next.holds.ports port (selecting-within next)).turn in
    turn.reached.free
