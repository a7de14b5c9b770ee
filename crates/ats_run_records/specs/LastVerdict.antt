use Rattle.std.specs.Prelude.{◌-◌, List, length, Option, slice_get}
use Rattle.std.specs.Option.{option_map}
use Rattle.ats_group.specs.declared.verdict.Verdict.{Verdict}
use Rattle.ats_trace.specs.HopRecord.{HopRecord}

-- the verdict of the last of some hop records, where there is one
abbrev pub last_verdict : List HopRecord → Option Verdict
last_verdict hops = option_map (λ (hop : HopRecord). hop.verdict) (slice_get hops (length hops - 1))
