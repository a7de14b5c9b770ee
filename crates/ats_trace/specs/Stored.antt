use Rattle.std.specs.Prelude.{◌≡◌, ℕ, zero, suc, ◌+◌, ◌≤◌, List, [], ◌∷◌, length, map, take, All, slice_index_or}
use Rattle.std.specs.Prelude.{slice_range}
use Rattle.std.specs.List.{zip}
use Rattle.std.specs.List.Sorted.{IsNonDecreasing}
use Rattle.ats_trace.specs.Journey.{Leg, Travel, legs_in, no_leg}
use Rattle.ats_trace.specs.HopRecord.{HopRecord}
use Rattle.ats_trace.specs.declared.journey.Ending.TheVariants.{Discard}
use Rattle.ats_trace.specs.declared.journey.Journey.{Journey}
use Rattle.ats_trace.specs.declared.journey.Release.{Release}
use Rattle.ats_trace.specs.declared.journey.Span.{Span}
use Rattle.ats_trace.specs.declared.run.TheConstants.{MAX_FRAMES, MAX_HOPS}

-- for numbers past the last frame
abbrev pub no_travel : Travel
no_travel = record {
  release = record { at = record { 0 = 0 }; sender = 0; octets = 0 };
  hops = [];
  ending = Discard;
  copies = [];
}

-- what happened to the frame with a number
abbrev pub travel_at : List Travel → ℕ → Travel
travel_at run frame = slice_index_or run frame no_travel

-- along the leg with a number
abbrev pub leg_in : Travel → ℕ → Leg
leg_in journey leg = slice_index_or (legs_in journey) leg no_leg

-- what of it is in the row of the frame's trunk
abbrev pub journey_of : Travel → Journey
journey_of j = record { release = j.release; ending = j.ending }

-- A run is kept in a row for each leg: first the trunks, frame by frame, and then the copies, frame by frame.

-- of such rows, those of each frame's copies, where these are the places of the first one of each: they go up to where
-- those of the next frame begin, and those of the last frame to the end
abbrev pub copies_of : {X : Type 0} → List X → List ℕ → List (List X)
copies_of rows [] = []
copies_of rows (first ∷ firsts) =
    slice_range rows first (slice_index_or firsts 0 (length rows)) ∷ copies_of rows firsts

-- the place of the row of a frame's leg
abbrev pub row_of : List ℕ → ℕ → ℕ → ℕ
row_of firsts frame zero = frame
row_of firsts frame (suc copy) = slice_index_or firsts frame 0 + copy

-- the place behind those of its copies, among so many rows
abbrev pub end_of : List ℕ → ℕ → ℕ → ℕ
end_of firsts rows frame = slice_index_or firsts (suc frame) rows

-- what happened to a frame, by its trunk and its copies
abbrev pub travel_by : (Release × Leg) × List (Release × Leg) → Travel
travel_by row = record {
  release = row.0.0;
  hops = row.0.1.hops;
  ending = row.0.1.ending;
  copies = map (λ (copy : Release × Leg). copy.1) row.1;
}

-- what happened to all frames, where the first copies of each have these places
abbrev pub gathered : List (Release × Leg) → List ℕ → List Travel
gathered legs firsts = map travel_by (zip (take (length firsts) legs) (copies_of legs firsts))

-- what a row and its span tell of a leg, with the records of all legs in one list: `count` of them, from the one with
-- number `first` on, are its own
abbrev pub leg_of : List HopRecord → Journey × Span → Release × Leg
leg_of hops row = (
  row.0.release,
  record { hops = slice_range hops row.1.first (row.1.first + row.1.count); ending = row.0.ending },
)

-- what rows, spans and records tell of all legs
abbrev pub legs_told : List Journey → List Span → List HopRecord → List (Release × Leg)
legs_told journeys spans hops = map (leg_of hops) (zip journeys spans)

-- and of all frames
abbrev pub travels_of : List Journey → List Span → List ℕ → List HopRecord → List Travel
travels_of journeys spans firsts hops = gathered (legs_told journeys spans hops) firsts

-- the copies of frames, of which there are so many, begin at these places, among so many rows
pub record AreFirsts (frames rows : ℕ) (firsts : List ℕ) : Type 0 where
  pub all : length firsts ≡ frames
  pub in_order : IsNonDecreasing firsts
  pub behind : All (λ first. frames ≤ first) firsts
  pub within : All (λ first. first ≤ rows) firsts
  pub trunks : frames ≤ rows

-- there are no more frames and rows than a run may have, the copies of each frame have their rows, each row has a span,
-- and the records of each span are in the list
pub record AreRows (journeys : List Journey) (spans : List Span) (firsts : List ℕ) (hops : List HopRecord)
    : Type 0 where
  pub few : length firsts ≤ MAX_FRAMES
  pub few_legs : length journeys ≤ MAX_HOPS
  pub copies : AreFirsts (length firsts) (length journeys) firsts
  pub spanned : length spans ≡ length journeys
  pub within : All (λ (span : Span). span.first + span.count ≤ length hops) spans
