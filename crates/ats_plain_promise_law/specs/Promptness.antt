use Rattle.std.specs.Prelude.{◌≡◌, ◌↔◌, ℕ, ◌+◌, ◌≤◌, List, [], ◌∷◌}
use Rattle.ats_num.specs.declared.time.Ps.{Ps}
use Rattle.ats_network.specs.Sender.{Sender}
use Rattle.ats_group.specs.declared.verdict.Verdict.TheVariants.{Eligible}
use Rattle.ats_certificate.specs.Certificate.{bound_of_hop}
use Rattle.ats_certificate.specs.declared.row.Row.{Row}
use Rattle.ats_trace.specs.HopRecord.{HopRecord}
use Rattle.ats_trace.specs.Journey.{Leg}
use Rattle.ats_trace.specs.declared.journey.Ending.{Ending}
use Rattle.ats_trace.specs.declared.journey.Ending.TheVariants.{Discard, Sink}
use Rattle.ats_soundness_law.specs.Sound.{ArrivesBy, IsContainedOn, IsPrompt}

-- a frame is prompt where it is eligible at each port by the limit there, which at the next is this eligibility and the
-- port's bound after it, and arrives by the last
pub record PromptIsPlain : Type 0 where
  pub arrived : (bound : ℕ → ℕ) (limit : ℕ) (at : Ps) → IsPrompt bound limit [] [] (Sink at) ↔ (at.0 ≤ limit)
  pub discarded : (bound : ℕ → ℕ) (limit : ℕ) → IsPrompt bound limit [] [] Discard ↔ ⊥
  pub no_port : (bound : ℕ → ℕ) (limit : ℕ) (hop : HopRecord) (hops : List HopRecord) (ending : Ending)
      → IsPrompt bound limit [] (hop ∷ hops) ending ↔ ⊥
  pub no_record : (bound : ℕ → ℕ) (limit p : ℕ) (path : List ℕ) (ending : Ending)
      → IsPrompt bound limit (p ∷ path) [] ending ↔ ⊥
  pub next : (bound : ℕ → ℕ) (limit p : ℕ) (path : List ℕ) (hop : HopRecord) (hops : List HopRecord)
      (ending : Ending) → IsPrompt bound limit (p ∷ path) (hop ∷ hops) ending
      ↔ ((e : Ps) × (hop.verdict ≡ Eligible e) × (e.0 ≤ limit) × IsPrompt bound (e.0 + bound p) path hops ending)

-- a frame arrives by a time where it arrives no later, and where it is discarded by none; and it is contained on its
-- way where it is prompt from the second port on, if it is eligible there
pub record PromptnessIsPlain : Type 0 where
  pub prompt : PromptIsPlain
  pub arrives : (limit : ℕ) (at : Ps) → ArrivesBy limit (Sink at) ↔ (at.0 ≤ limit)
  pub discarded : (limit : ℕ) → ArrivesBy limit Discard ↔ ⊥
  pub contained : (rows : List Row) (sender : Sender) (route : List ℕ) (way : Leg)
      → IsContainedOn rows sender route way
      ↔ ((p q : ℕ) (path : List ℕ) (first hop : HopRecord) (later : List HopRecord) (e : Ps)
      → route ≡ p ∷ q ∷ path → way.hops ≡ first ∷ hop ∷ later → hop.verdict ≡ Eligible e
      → IsPrompt (λ port. bound_of_hop rows sender port) (e.0 + bound_of_hop rows sender q) path later way.ending)
