use Rattle.std.specs.Prelude.{ℕ, List, ◌++◌, codes, decimal}
use Rattle.ats_capture.specs.Traffic.{Traffic}

-- the line with the three counts
abbrev pub counts_text : Traffic → List ℕ
counts_text traffic =
    codes "records " ++ decimal traffic.records ++ codes " unidentified " ++ decimal traffic.unidentified
    ++ codes " oversize " ++ decimal traffic.oversize ++ codes "\n"
