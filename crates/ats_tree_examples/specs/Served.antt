use Rattle.std.specs.Prelude.{◌≡◌, ℕ, ◌==◌, List, [], ◌∷◌, map, All, if◌then◌else◌}
use Rattle.ats_network.specs.Network.{DeclaredNetwork}
use Rattle.ats_network.specs.Senders.{sender_at}
use Rattle.ats_certificate.specs.declared.row.Row.{Row}
use Rattle.ats_soundness_law.specs.Rules.{bursts_are_right, frames_may_stay}
use Rattle.ats_soundness_law.specs.Sound.{IsContained, IsContainedOn, IsServed, IsServedOn, IsSound}
use Rattle.ats_trace.specs.Journey.{Leg, Travel, legs_in}
use Rattle.ats_trace.specs.Clocks.{IsLegal}
use Rattle.ats_trace.specs.Run.{IsIdeal, releases_of}
use Rattle.ats_trace.specs.Stored.{travel_at}
use Rattle.ats_trace.specs.Talker.{talker_of, KeepsBuckets}
use Rattle.ats_trace.specs.Ways.{route_to, way_to}
use Rattle.ats_trace.specs.declared.journey.Ending.{Ending}
use Rattle.ats_trace.specs.declared.journey.Ending.TheVariants.{Sink}
use Rattle.ats_examples.specs.Rows.{row_of_line, row_with}
use Rattle.ats_examples.specs.Runs.{hop, sunk}
use Rattle.ats_examples.specs.RuleBreaks.{BreaksAlone}
use Rattle.ats_examples.specs.SoundRuns.{IsCertified}
use Rattle.ats_tree_examples.specs.Networks.{split, split_and_flow, split_and_stream, crossed, tree, tree_and_flow}
use Rattle.ats_tree_examples.specs.Runs.{copied, copy, one_split, behind_flow, tied_first, crossed_babbler, over_tree}
use Rattle.ats_tree_examples.specs.Runs.{late_in_tree}
use Rattle.ats_tree_examples.specs.Copies.{late_one}
use Rattle.ats_tree_examples.specs.Bounds.{split_rows, rows_beside_flow, crossed_rows, tree_rows}

-- What the laws of soundness say of runs with copies.

-- what became of a frame for each of its listeners
abbrev pub endings_of : Travel → List Ending
endings_of j = map (λ (leg : Leg). leg.ending) (legs_in j)

-- that it arrives there at these times
abbrev pub arrivals : List ℕ → List Ending
arrivals times = map (λ at. Sink (record { 0 = at })) times

-- a frame of a legal run whose talker keeps its buckets is served at each listener, by the law, and arrives there at
-- these times
pub record IsServedAt (network : DeclaredNetwork) (rows : List Row) (run : List Travel) (frame : ℕ)
    (times : List ℕ) : Type 0 where
  pub certified : IsCertified network rows
  pub legal : IsIdeal network run
  pub keeps : KeepsBuckets network (releases_of run) (talker_of network (travel_at run frame).release.sender)
  pub served : IsServed rows (sender_at network (travel_at run frame).release.sender) (travel_at run frame)
  pub arrives : endings_of (travel_at run frame) ≡ arrivals times

-- over the tree where the copy to the last listener arrives 1 ps later
abbrev pub late_at_last : Travel
late_at_last =
    copied
    (sunk 0 0 1522
    (hop 0 0 0 12336000 ∷ hop 13836000 13836000 13836000 26172000 ∷ hop 27672000 27672000 27672000 40008000 ∷ [])
    40508000)
    (
    copy (hop 13836000 13836000 13836000 26172000 ∷ []) 26672000
    ∷ copy (hop 27672000 27672000 27672000 40008000 ∷ hop 41508000 41508000 41508000 53844000 ∷ []) 54344000
    ∷ copy (hop 41508000 41508000 41508000 53844000 ∷ []) 54344001
    ∷ []
    )

-- a frame and its copies are served, and arrive exactly when the sums for their listeners are over: over one bridge,
-- and over three; behind a flow's frame, which is released 1 ps before it, the first listener gets it 1 ps earlier. A
-- frame that came to one listener 1 ps later would not be served, so there is no such run
pub record ListenersAreServed : Type 0 where
  pub over_one : IsServedAt split split_rows one_split 0 (26672000 ∷ 26672000 ∷ [])
  pub over_three : IsServedAt tree tree_rows (over_tree ∷ []) 0 (40508000 ∷ 26672000 ∷ 54344000 ∷ 54344000 ∷ [])
  pub one_busy : IsServedAt split_and_flow rows_beside_flow behind_flow 1 (39008000 ∷ 26672001 ∷ [])
  pub not_later : ¬ IsServed tree_rows (sender_at tree 0) late_at_last
  pub no_such_run : ¬ IsLegal tree (late_at_last ∷ [])

-- the last frame of a babbler is discarded for both of its listeners, so it is not served; each frame is contained on
-- its way to each listener, and that of the other station is served
pub record BabblersAreContained : Type 0 where
  pub certified : IsCertified crossed crossed_rows
  pub legal : IsIdeal crossed crossed_babbler
  pub babbles : ¬ KeepsBuckets crossed (releases_of crossed_babbler) (talker_of crossed 1)
  pub not_served : ¬ IsServed crossed_rows (sender_at crossed 1) (travel_at crossed_babbler 23)
  pub served : IsServedAt crossed crossed_rows crossed_babbler 0 (27104000 ∷ [])
  pub contained : All (λ (j : Travel). IsContained crossed_rows (sender_at crossed j.release.sender) j) crossed_babbler

-- the row of the port to s3 beside another stream, with these bursts and what follows from them; and rows with it
abbrev pub rows_with_bursts : ℕ → ℕ → ℕ → List Row
rows_with_bursts bursts wait bound =
    row_of_line 0 13836000 ∷ row_of_line 2 12836000 ∷ row_of_line 3 13836000
    ∷ row_with 4 6 0 200000000000 bursts 0 672 wait bound ∷ []

-- at the ports of a branch the burst of the stream counts: rows that leave it out at the port to s3 break this rule
-- alone, and are not sound, since the copy comes there later than they say. With it the copy comes exactly when the sum
-- is over
pub record BranchesCount : Type 0 where
  pub left_out : BreaksAlone bursts_are_right split_and_stream (rows_with_bursts 12336 11664000 12836000)
  pub counted : IsServedAt split_and_stream (rows_with_bursts 24672 24000000 25172000) tied_first 1
      (26672000 ∷ 39008000 ∷ [])

-- the rows of the tree beside the flow from s3 to s2
abbrev pub rows_of_no_stay : List Row
rows_of_no_stay =
    row_of_line 0 13836000
    ∷ row_with 2 6 0 100000000000 12336 12336 672 24000000 26172000
    ∷ row_with 4 6 0 100000000000 12336 12336 672 24000000 25172000
    ∷ row_of_line 6 12836000 ∷ row_of_line 8 13836000 ∷ row_of_line 10 12836000 ∷ row_of_line 12 12836000 ∷ []

-- the third frame of the run in which it is late is served on its way to a listener
abbrev pub IsLateServed : ℕ → Type 0
IsLateServed listener = IsServedOn rows_of_no_stay (sender_at tree_and_flow 0) late_one.release
    (route_to (sender_at tree_and_flow 0) listener) (way_to (sender_at tree_and_flow 0) late_one listener)

-- rows break this rule alone where frames may not stay at the second bridge, and are not sound: in a run whose talker
-- keeps its buckets a frame is served at the listener before that bridge, and at none behind it
pub record StayCounts : Type 0 where
  pub alone : BreaksAlone frames_may_stay tree_and_flow rows_of_no_stay
  pub legal : IsIdeal tree_and_flow late_in_tree
  pub keeps : KeepsBuckets tree_and_flow (releases_of late_in_tree) (talker_of tree_and_flow 0)
  pub before : IsLateServed 1
  pub not_behind : All (λ listener. ¬ IsLateServed listener) (0 ∷ 2 ∷ 3 ∷ [])

-- rows where the bound of a port that leads to one listener alone is 1 ps too short: of the split, and of the tree
abbrev pub short_row : ℕ → Row
short_row port = row_of_line port 12835999

abbrev pub short_split_rows : List Row
short_split_rows = row_of_line 0 13836000 ∷ row_of_line 2 12836000 ∷ short_row 4 ∷ []

abbrev pub short_tree_rows : ℕ → List Row
short_tree_rows port = map (λ (row : Row). if row.port == port then short_row port else row) tree_rows

-- on its way to a listener a frame of the first sender is served, or it is contained
abbrev pub IsServedTo : DeclaredNetwork → List Row → Travel → ℕ → Type 0
IsServedTo network rows j listener = IsServedOn rows (sender_at network 0) j.release
    (route_to (sender_at network 0) listener) (way_to (sender_at network 0) j listener)

abbrev pub IsContainedTo : DeclaredNetwork → List Row → Travel → ℕ → Type 0
IsContainedTo network rows j listener = IsContainedOn rows (sender_at network 0)
    (route_to (sender_at network 0) listener) (way_to (sender_at network 0) j listener)

-- by these rows a frame of the first sender is served and contained on its way to each of these listeners, and neither
-- on its way to this one; so it is neither served nor contained
pub record IsLateFor (network : DeclaredNetwork) (rows : List Row) (j : Travel) (listener : ℕ) (others : List ℕ)
    : Type 0 where
  pub others_served : All (IsServedTo network rows j) others
  pub others_contained : All (IsContainedTo network rows j) others
  pub not_there : ¬ IsServedTo network rows j listener
  pub not_contained_there : ¬ IsContainedTo network rows j listener
  pub not_served : ¬ IsServed rows (sender_at network 0) j
  pub not_contained : ¬ IsContained rows (sender_at network 0) j

-- soundness asks for each listener: where the bound of a port that leads to one alone is 1 ps too short, the frame
-- comes too late there alone, whichever of its stream's listeners this is, and the rows are not sound. So a frame that
-- is served or contained on its way to the first listener, or to all but one, may not count as served or contained
pub record EachListenerCounts : Type 0 where
  pub over_one : IsLateFor split short_split_rows (travel_at one_split 0) 1 (0 ∷ [])
  pub not_sound : ¬ IsSound split short_split_rows
  pub for_first : IsLateFor tree (short_tree_rows 4) over_tree 0 (1 ∷ 2 ∷ 3 ∷ [])
  pub for_second : IsLateFor tree (short_tree_rows 6) over_tree 1 (0 ∷ 2 ∷ 3 ∷ [])
  pub for_third : IsLateFor tree (short_tree_rows 10) over_tree 2 (0 ∷ 1 ∷ 3 ∷ [])
  pub for_fourth : IsLateFor tree (short_tree_rows 12) over_tree 3 (0 ∷ 1 ∷ 2 ∷ [])
