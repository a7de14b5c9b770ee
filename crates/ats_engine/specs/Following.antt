use Rattle.std.specs.Prelude.{⊤}
use Rattle.std.proofs.Common.{ℕ, List, IsPermutation, refl, ◌∙◌}
use Rattle.std.proofs.lemmas.List.Sorted.{IsPermutation-map}
use Rattle.ats_events.specs.declared.moment.Moment.{Moment}
use Rattle.ats_engine.specs.declared.runner.Runner.{Runner}
use Rattle.ats_engine.specs.Ready.{IsReady, Follows}
use Rattle.ats_engine.specs.Told.{with_event, told}
use Rattle.ats_engine_proofs.proofs.Entries.{holds-permuted}

-- a run goes on from itself
pub follows-itself : {T P S : Type 0} (runner : Runner T P S) → Follows runner runner
follows-itself runner = record { network = refl; releases = refl; tie = refl; pace = refl }

-- and from a run that went on from an earlier one it does so from that
pub follows-both : {T P S : Type 0} (third second first : Runner T P S) → Follows third second → Follows second first
    → Follows third first
follows-both third second first later earlier = record {
  network = later.network ∙ earlier.network;
  releases = later.releases ∙ earlier.releases;
  tie = later.tie ∙ earlier.tie;
  pace = later.pace ∙ earlier.pace;
}

-- what holds between two events does not depend on the order of the entries
pub ready-permuted : {T P S : Type 0} (key : T → ℕ → ℕ → ℕ) (wait : P → ℕ → ℕ → ℕ) (runner : Runner T P S)
    (entries other : List (Moment × ⊤)) (capacity : ℕ) → IsPermutation entries other
    → IsReady key wait runner (told entries) capacity → IsReady key wait runner (told other) capacity
ready-permuted key wait runner entries other capacity moved ready = record {
  holds = holds-permuted (IsPermutation-map with_event entries other moved) ready.holds;
  schedulers = ready.schedulers;
  room = ready.room;
}
