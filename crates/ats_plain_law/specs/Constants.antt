use Rattle.std.specs.Prelude.{◌≡◌, ◌-◌, ◌*◌, ◌^◌}
use Rattle.ats_streams.specs.declared.branch.TheConstants.{MAX_BRANCHES}
use Rattle.ats_network.specs.declared.network.TheConstants.{MAX_FLOWS, MAX_PORTS_TOGETHER, MAX_STREAMS}
use Rattle.ats_trace.specs.declared.run.TheConstants.{MAX_FRAMES, MAX_HOPS, MAX_RELEASE_PS}
use Rattle.ats_gen.specs.declared.generator.TheConstants.{MAX_PAUSE_PS}

-- how many streams and flows a network has at most, how many ports its streams have together, and how many branches a
-- stream has; how many frames a run has, how many ports they have together, and when the last is released; and how long
-- a pause between made releases is. What other constants are say the laws `constants_are` of their crates
pub record ConstantsArePlain : Type 0 where
  pub streams : MAX_STREAMS ≡ 4096
  pub flows : MAX_FLOWS ≡ 4096
  pub together : MAX_PORTS_TOGETHER ≡ 2 ^ 16
  pub branches : MAX_BRANCHES ≡ 2 ^ 16 - 1
  pub frames : MAX_FRAMES ≡ 200000
  pub hops : MAX_HOPS ≡ 16 * 200000
  pub release : MAX_RELEASE_PS ≡ 10 ^ 17
  pub pause : MAX_PAUSE_PS ≡ 2 * 10 ^ 6
