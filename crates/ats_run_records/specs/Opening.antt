use Rattle.std.specs.Prelude.{◌≡◌, ◌+◌, ◌++◌, List, map, sum_by}
use Rattle.ats_run_records.specs.Inside.{opened_row, spans_from}
use Rattle.ats_run_records.specs.Progress.{Progress}
use Rattle.ats_run_records.specs.declared.opening.Rows.{Rows}

-- these are the rows, the spans and the frames of legs along which nothing has happened yet, and there may be so many
-- hop records along them
pub record AreOpened (legs : List Progress) (rows : Rows) : Type 0 where
  pub journeys : rows.journeys.items ≡ map opened_row legs
  pub spans : rows.spans.items ≡ spans_from 0 legs
  pub frames : rows.frames.items ≡ map (λ (leg : Progress). leg.frame) legs
  pub room : rows.room ≡ sum_by (λ (leg : Progress). leg.room) legs

-- legs are added to them
pub record AreAdded (legs : List Progress) (old new : Rows) : Type 0 where
  pub journeys : new.journeys.items ≡ old.journeys.items ++ map opened_row legs
  pub spans : new.spans.items ≡ old.spans.items ++ spans_from old.room legs
  pub frames : new.frames.items ≡ old.frames.items ++ map (λ (leg : Progress). leg.frame) legs
  pub room : new.room ≡ old.room + sum_by (λ (leg : Progress). leg.room) legs
