use Rattle.std.specs.Prelude.{◌≡◌, ◌⊎◌, List}
use Rattle.ats_network.specs.Network.{DeclaredNetwork}
use Rattle.ats_trace.specs.Releases.{AreReleases}
use Rattle.ats_trace.specs.declared.journey.Release.{Release}
use Rattle.ats_conform.specs.declared.broken.Broken.{Broken}
use Rattle.ats_conform.specs.Broken.{Breaks}
use Rattle.ats_conform.specs.Releases.{AllKeepBuckets}

-- where one release breaks what its sender declares, some node does not keep its buckets by all releases either
abbrev pub OneBreaksAll : Type 0
OneBreaksAll = (network : DeclaredNetwork) (releases : List Release) (broken : Broken) → Breaks network releases broken
    → ¬ AllKeepBuckets network releases

-- there is one answer to how the first frame breaks what its sender declares
abbrev pub BrokenIsOne : Type 0
BrokenIsOne = (network : DeclaredNetwork) (releases : List Release) (a b : Broken) → Breaks network releases a
    → Breaks network releases b → a ≡ b

-- every node keeps its buckets by releases that may be run, or one of them breaks what its sender declares
abbrev pub KeepOrBreak : Type 0
KeepOrBreak = (network : DeclaredNetwork) (releases : List Release) → AreReleases network releases
    → AllKeepBuckets network releases ⊎ ((broken : Broken) × Breaks network releases broken)
