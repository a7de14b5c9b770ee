use Rattle.std.specs.Prelude.{◌≡◌, ℕ, ◌+◌, ◌<◌, ◌≤◌, ◌^◌, List, [], ◌∷◌, length, map, slice_index_or, slice_range}
use Rattle.std.specs.List.{zip}
use Rattle.ats_trace.specs.Stored.{AreFirsts}
use Rattle.ats_trace.specs.HopRecord.{HopRecord}
use Rattle.ats_trace.specs.declared.journey.Ending.TheVariants.{Discard}
use Rattle.ats_trace.specs.declared.journey.Journey.{Journey}
use Rattle.ats_trace.specs.declared.journey.Span.{Span}
use Rattle.ats_trace.specs.declared.run.TheConstants.{MAX_FRAMES, MAX_HOPS}
use Rattle.ats_run_records.specs.declared.opening.TheConstants.{MAX_ROOM}
use Rattle.ats_run_records.specs.Progress.{Ledger, Progress}

-- what a leg's row, its span and its frame's number tell, with the records of all legs in one list
abbrev pub progress_of : List HopRecord → Journey × (Span × ℕ) → Progress
progress_of hops row = record {
  frame = row.1.1;
  leg = row.1.0.leg;
  release = row.0.release;
  room = row.1.0.room;
  hops = slice_range hops row.1.0.first (row.1.0.first + row.1.0.count);
  ending = row.0.ending;
}

-- what they tell of all legs
abbrev pub progresses : List Journey → List Span → List ℕ → List HopRecord → List Progress
progresses journeys spans frames hops = map (progress_of hops) (zip journeys (zip spans frames))

-- with the places of the first copies
abbrev pub ledger_of : List Journey → List Span → List ℕ → List ℕ → List HopRecord → Ledger
ledger_of journeys spans frames firsts hops =
    record { legs = progresses journeys spans frames hops; firsts = firsts }

-- for numbers past the last row
abbrev pub no_journey : Journey
no_journey = record { release = record { at = record { 0 = 0 }; sender = 0; octets = 0 }; ending = Discard }

abbrev pub no_span : Span
no_span = record { first = 0; leg = 0; count = 0; room = 0 }

abbrev pub span_at : List Span → ℕ → Span
span_at spans row = slice_index_or spans row no_span

-- where the room of a leg ends in the list of all records
abbrev pub end_of_room : List Span → ℕ → ℕ
end_of_room spans row = (span_at spans row).first + (span_at spans row).room

-- each row has a span and a frame, no leg has more records than its room, and the rooms are apart from each other, in
-- the list of all records
pub record IsLaid (journeys : List Journey) (spans : List Span) (frames : List ℕ) (hops : List HopRecord) : Type 0 where
  pub few : length journeys ≤ MAX_HOPS
  pub spanned : length spans ≡ length journeys
  pub framed : length frames ≡ length journeys
  pub counted : length hops < 2 ^ 32
  pub rooms : (i : ℕ) → i < length journeys → (span_at spans i).room ≤ MAX_ROOM
  pub counts : (i : ℕ) → i < length journeys → (span_at spans i).count ≤ (span_at spans i).room
  pub within : (i : ℕ) → i < length journeys → end_of_room spans i ≤ length hops
  pub apart : (i j : ℕ) → i < j → j < length journeys → end_of_room spans i ≤ (span_at spans j).first

-- so are those of a run, and the copies of each frame have their rows
pub record AreRecords (journeys : List Journey) (spans : List Span) (frames firsts : List ℕ) (hops : List HopRecord)
    : Type 0 where
  pub laid : IsLaid journeys spans frames hops
  pub few : length firsts ≤ MAX_FRAMES
  pub copies : AreFirsts (length firsts) (length journeys) firsts

-- the row of a leg along which nothing has happened yet
abbrev pub opened_row : Progress → Journey
opened_row leg = record { release = leg.release; ending = Discard }

-- its span, where the records before it end at this place
abbrev pub opened_span : ℕ → Progress → Span
opened_span first leg = record { first = first; leg = leg.leg; count = 0; room = leg.room }

-- empty spans for legs, the first of which begins at this place, and each later one where the room before ends
abbrev pub spans_from : ℕ → List Progress → List Span
spans_from first [] = []
spans_from first (leg ∷ legs) = opened_span first leg ∷ spans_from (first + leg.room) legs
