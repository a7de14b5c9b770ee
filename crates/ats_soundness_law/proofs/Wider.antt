-- Rates and bursts do not fall from the talker on: what keeps a rule by them at one hop keeps it at the next.
use Rattle.std.proofs.Common.{◌≡◌, ℕ, List, Some, refl}
use Rattle.ats_bucket.specs.Conforming.{Frame}
use Rattle.ats_clock.specs.Laws.{IsNoGreater}
use Rattle.ats_clock.specs.Rates.{committed}
use Rattle.ats_clock.specs.declared.committed.Committed.{Committed}
use Rattle.ats_group_law.specs.Regulator.{IsNoLess, IsRule}
use Rattle.ats_network.specs.Class.{port_before}
use Rattle.ats_network.specs.Network.{DeclaredNetwork, IsNetwork}
use Rattle.ats_network.specs.Rates.{committed_at, declared_with, scheduled_at}
use Rattle.ats_network.specs.Sender.{Sender}
use Rattle.ats_network.specs.Senders.{IsSender, sender_at}
use Rattle.ats_network.proofs.RateLemmas.{committed_no_greater, declared_no_greater}
use Rattle.ats_route_law.proofs.Steps.{scheduled_no_greater}
use Rattle.ats_streams.specs.declared.traffic.Declared.{Declared}
use Rattle.ats_trace.specs.Eligibility.{committed_by, declared_by, scheduled_by}

-- the same sizes, with no lower rate and no smaller burst
no_less : (s : Sender) (c greater : Committed) → IsNoGreater c greater
    → IsNoLess (declared_with c s) (declared_with greater s)
no_less s c greater h = record { rate = h.rate; burst = h.burst; least = refl; most = refl }

-- what keeps a rule as its talker declares keeps it as each port sees it
pub declared_to_committed : {rule : Declared → List Frame → Type 0} (network : DeclaredNetwork) (port i : ℕ)
    (frames : List Frame) → IsRule rule → IsNetwork network → rule (declared_by network i) frames
    → rule (committed_by network port i) frames
declared_to_committed network port i frames rules net kept =
    let s : Sender = sender_at network i in
    rules.wider (declared_by network i) (committed_by network port i) frames
    (no_less s (committed s.rate s.burst_bits) (committed_at network.topology port s)
    (declared_no_greater network.topology s port net.topology)) kept

-- what keeps it as a port sees it keeps it by its scheduler behind the port
pub committed_to_scheduled : {rule : Declared → List Frame → Type 0} (network : DeclaredNetwork) (port i : ℕ)
    (frames : List Frame) → IsRule rule → IsNetwork network → rule (committed_by network port i) frames
    → rule (scheduled_by network port i) frames
committed_to_scheduled network port i frames rules net kept =
    let s : Sender = sender_at network i in
    rules.wider (committed_by network port i) (scheduled_by network port i) frames
    (no_less s (committed_at network.topology port s) (scheduled_at network.topology port s)
    (committed_no_greater network.topology s port net.topology)) kept

-- and what keeps it by that scheduler keeps it as the next port sees it
pub scheduled_to_committed : {rule : Declared → List Frame → Type 0} (network : DeclaredNetwork) (port before i : ℕ)
    (frames : List Frame) → IsRule rule → IsNetwork network → IsSender network.topology (sender_at network i)
    → port_before (sender_at network i) port ≡ Some before → rule (scheduled_by network before i) frames
    → rule (committed_by network port i) frames
scheduled_to_committed network port before i frames rules net is has kept =
    let s : Sender = sender_at network i in
    rules.wider (scheduled_by network before i) (committed_by network port i) frames
    (no_less s (scheduled_at network.topology before s) (committed_at network.topology port s)
    (scheduled_no_greater network.topology s port before net.topology is has)) kept
