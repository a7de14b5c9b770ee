use Rattle.std.specs.Prelude.{◌≡◌, ◌≢◌, ◌↔◌, ◌⊎◌, ℕ, zero, suc, ◌+◌, ◌*◌, ◌/◌, ◌%◌, ◌^◌, ◌<◌, ◌≤◌, length}
use Rattle.std.specs.Prelude.{All, Some, None}
use Rattle.std.specs.List.{Any}
use Rattle.ats_network.specs.Network.{DeclaredNetwork}
use Rattle.ats_trace.specs.Releases.{HaveFewPorts}
use Rattle.ats_trace.specs.declared.journey.Release.{Release}
use Rattle.ats_trace.specs.declared.run.TheConstants.{MAX_RELEASE_PS}
use Rattle.ats_gen.specs.Draw.{draw, drawn, next_state, state_after}
use Rattle.ats_gen.specs.Made.{clock_of, gen_fault, made}
use Rattle.ats_gen.specs.declared.fault.GenFault.TheVariants.{Limit, NoStream}

-- When releases are made and when none are, and of what they are drawn.

-- each of the releases that would be made is within the greatest time, whichever of them is the last to be made
abbrev pub AreWithin : DeclaredNetwork → ℕ → ℕ → Type 0
AreWithin network seed count = All (λ (r : Release). r.at.0 ≤ MAX_RELEASE_PS) (made network seed count)

-- one of them is not
abbrev pub OneIsPast : DeclaredNetwork → ℕ → ℕ → Type 0
OneIsPast network seed count = Any (λ (r : Release). MAX_RELEASE_PS < r.at.0) (made network seed count)

-- why none are made, of any network and both ways. Refuses a limit of the release alone that is made last, and none on
-- the ports of frames
pub record FaultsOfMakingAreMeant : Type 0 where
  pub no_stream : (network : DeclaredNetwork) (seed count : ℕ)
      → gen_fault network seed count ≡ Some NoStream ↔ (length network.streams ≡ 0)
  pub limit : (network : DeclaredNetwork) (seed count : ℕ) → gen_fault network seed count ≡ Some Limit
      ↔ ((length network.streams ≢ 0)
      × (OneIsPast network seed count ⊎ (¬ HaveFewPorts network (made network seed count))))
  pub none : (network : DeclaredNetwork) (seed count : ℕ) → gen_fault network seed count ≡ None
      ↔ ((length network.streams ≢ 0) × AreWithin network seed count
      × HaveFewPorts network (made network seed count))

-- the generator of numbers and the clock, of any seed
pub record DrawsAreWritten : Type 0 where
  pub next : (state : ℕ) → next_state state ≡ (state * 6364136223846793005 + 1442695040888963407) % 2 ^ 64
  pub upper : (state : ℕ) → drawn state ≡ state / 2 ^ 33
  pub seeded : (seed : ℕ) → state_after seed zero ≡ seed
  pub later : (seed n : ℕ) → state_after seed (suc n) ≡ next_state (state_after seed n)
  pub each : (seed n : ℕ) → draw seed n ≡ drawn (state_after seed (n + 1))
  pub begins : (seed : ℕ) → clock_of seed zero ≡ 0
  pub goes_on : (seed frame : ℕ)
      → clock_of seed (suc frame) ≡ clock_of seed frame + draw seed (2 * frame + 1) % 2000000

pub record MakingIsMeant : Type 0 where
  pub faults : FaultsOfMakingAreMeant
  pub draws : DrawsAreWritten
