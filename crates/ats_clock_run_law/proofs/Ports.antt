-- A port keeps the port rule by any times that order its frames no otherwise.
use Rattle.std.proofs.Common.{ℕ, ◌≤◌, List, All}
use Rattle.ats_port_rule.specs.PortRule.{KeepsPortRuleBy}
use Rattle.ats_port_rule.specs.Transmission.{Transmission}

pub retold : (told other : Transmission → ℕ) (ps_per_bit : ℕ) (sent : List Transmission)
    → All (λ (x : Transmission). All (λ (y : Transmission). told x ≤ told y → other x ≤ other y) sent) sent
    → KeepsPortRuleBy told ps_per_bit sent → KeepsPortRuleBy other ps_per_bit sent
retold told other ps_per_bit sent agree keeps = record {
  waits = keeps.waits;
  takes = keeps.takes;
  apart = keeps.apart;
  chosen = λ k d in_k l e in_l later eligible. (
      let ahead = keeps.chosen k d in_k l e in_l later eligible in
      record {
        class = ahead.class;
        no_later = λ same. agree k d in_k l e in_l (ahead.no_later same);
      });
  prompt = keeps.prompt;
}
