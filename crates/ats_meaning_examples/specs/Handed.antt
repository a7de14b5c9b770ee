use Rattle.ats_group.specs.declared.verdict.Verdict.{Verdict}
use Rattle.ats_group.specs.declared.verdict.Verdict.TheVariants.{Eligible, Late, Size}
use Rattle.ats_trace.specs.Projections.{Handed}
use Rattle.ats_soundness_law.specs.Laws.{IsHandedOn}
use Rattle.ats_examples.specs.Rows.{row_of_line}

-- What it comes to that a frame is handed on within a bound.

-- a frame of the line's stream that was eligible at its port at 5, with this verdict behind it
abbrev pub handed : Verdict → Handed
handed verdict = record {
  crossing = record {
    port = 0;
    octets = 1522;
    came = 5;
    sent = record { frame = 0; sender = 0; class = 6; bits = 12336; eligible = 5; start = 7; end = 12336007 };
    arrival = 13836007;
  };
  verdict = verdict;
}

-- by a row with a bound of 13836000 ps it is eligible at most so long after it was eligible at the port, and neither
-- late nor discarded for its size
pub record HandingOnIsMeant : Type 0 where
  pub in_time : IsHandedOn (row_of_line 0 13836000) (handed (Eligible (record { 0 = 13836005 })))
  pub later : ¬ IsHandedOn (row_of_line 0 13836000) (handed (Eligible (record { 0 = 13836006 })))
  pub late : ¬ IsHandedOn (row_of_line 0 13836000) (handed (Late (record { 0 = 5 })))
  pub of_size : ¬ IsHandedOn (row_of_line 0 13836000) (handed Size)
