-- What is known of the time of the next event, and of the ports of its network.
use Rattle.std.proofs.Common.{ℕ, ◌+◌, ◌<◌, ◌≤◌, List, length, arith}
use Rattle.std.proofs.lemmas.List.Elements.{All-head}
use Rattle.ats_topology.specs.Port.{port_at, no_port}
use Rattle.ats_topology.specs.Topology.{IsPort}
use Rattle.ats_topology.proofs.Rules.{ports_are_lawful}
use Rattle.ats_network.specs.Network.{DeclaredNetwork}
use Rattle.ats_events.specs.declared.moment.Moment.{Moment}
use Rattle.ats_trace.specs.declared.journey.Release.{Release}
use Rattle.ats_engine_steps.specs.Bounds.{all_left, horizon}
use Rattle.ats_engine_steps.specs.Course.{Course}
use Rattle.ats_engine_steps.specs.Entries.{IsReached}
use Rattle.ats_engine_steps.specs.declared.event.Event.{Event}
use Rattle.ats_engine_proofs.specs.Next.{IsNext}

-- the next event is not before the last one
pub next-reached : {T : Type 0} {key : T → ℕ → ℕ → ℕ} {wait : ℕ → ℕ → ℕ} {network : DeclaredNetwork}
    {releases : List Release} {old : Course T} {now : Moment} {event : Event} {entries : List (Moment × Event)}
    → IsNext key wait network releases old now event entries → IsReached old.last now
next-reached {T} {key} {wait} {network} {releases} {old} {now} {event} {entries} next =
    All-head (λ (entry : Moment × Event). IsReached old.last entry.0) (now, event) entries next.holds.awaited.reached

-- and it is within the horizon
pub next-in_time : {T : Type 0} {key : T → ℕ → ℕ → ℕ} {wait : ℕ → ℕ → ℕ} {network : DeclaredNetwork}
    {releases : List Release} {old : Course T} {now : Moment} {event : Event} {entries : List (Moment × Event)}
    → IsNext key wait network releases old now event entries → now.at.0 ≤ horizon
next-in_time {T} {key} {wait} {network} {releases} {old} {now} {event} {entries} next =
    let most : now.at.0 + all_left old ≤ horizon =
    All-head (λ (entry : Moment × Event). entry.0.at.0 + all_left old ≤ horizon) (now, event) entries
    next.holds.bounds.each in
    omega arith

-- each port keeps the rules of a port
pub next-port : {T : Type 0} {key : T → ℕ → ℕ → ℕ} {wait : ℕ → ℕ → ℕ} {network : DeclaredNetwork}
    {releases : List Release} {old : Course T} {now : Moment} {event : Event} {entries : List (Moment × Event)}
    → IsNext key wait network releases old now event entries → (port : ℕ) → port < length network.topology.ports
    → IsPort (length network.topology.nodes) (port_at network.topology.ports port)
next-port {T} {key} {wait} {network} next port below =
    (ports_are_lawful network.topology next.holds.rules.topology).each port no_port below
