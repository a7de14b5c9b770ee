use Rattle.std.proofs.Common.{◌≡◌, ℕ, zero, suc, ◌<◌, length, refl, sym, subst, arith}
use Rattle.ats_clock.specs.Rates.{committed}
use Rattle.ats_clock.specs.declared.committed.Committed.{Committed}
use Rattle.ats_topology.specs.Topology.{HasIdealClocks}
use Rattle.ats_network.specs.Network.{DeclaredNetwork}
use Rattle.ats_network.specs.Rates.{declared_with, scheduled_at}
use Rattle.ats_network.specs.Sender.{Sender}
use Rattle.ats_network.specs.Senders.{sender_at}
use Rattle.ats_network.proofs.RateLemmas.{ideal_clocks_keep_rates}
use Rattle.ats_trace.specs.Eligibility.{declared_by}
use Rattle.ats_examples.specs.Networks.{line}
use Rattle.ats_legal_law.specs.Rest.{FillsBy, RestsUntil}

-- Where all clocks are ideal, the bucket of a scheduler fills with that of its stream.

scheduled_is : (network : DeclaredNetwork) (i port : ℕ) → HasIdealClocks network.topology
    → scheduled_at network.topology port (sender_at network i)
    ≡ committed (sender_at network i).rate (sender_at network i).burst_bits
scheduled_is network i port ideal =
    (ideal_clocks_keep_rates network.topology (sender_at network i) port ideal).scheduled

pub ideal_rests : (network : DeclaredNetwork) (over by : ℕ) → HasIdealClocks network.topology → over < by
    → ((i : ℕ) → i < length network.streams → FillsBy over by (declared_by network i)) → RestsUntil network over by
ideal_rests network over by ideal after filled = record {
  after = after;
  filled = filled;
  scheduled = λ i port there. (
      let s : Sender = sender_at network i in
      subst (λ (c : Committed). FillsBy over by (declared_with c s)) (sym (scheduled_is network i port ideal))
      (filled i there.exists));
}

-- the clocks of the line are
pub line_clocks : HasIdealClocks line.topology
line_clocks zero d within = refl
line_clocks (suc zero) d within = refl
line_clocks (suc (suc zero)) d within = refl
line_clocks (suc (suc (suc k))) d within = absurd (omega arith)
