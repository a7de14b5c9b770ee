use Rattle.std.specs.Prelude.{ℕ, List, [], ◌∷◌, ◌++◌, None}
use Rattle.ats_network.specs.Network.{DeclaredNetwork}
use Rattle.ats_network.specs.Senders.{sender_at}
use Rattle.ats_certificate.specs.declared.row.Row.{Row}
use Rattle.ats_group.specs.declared.verdict.Verdict.TheVariants.{Late}
use Rattle.ats_trace.specs.Journey.{Travel}
use Rattle.ats_trace.specs.Parts.{links}
use Rattle.ats_trace.specs.Run.{IsIdeal, releases_of}
use Rattle.ats_trace.specs.Stored.{travel_at}
use Rattle.ats_trace.specs.Talker.{talker_of, KeepsBuckets}
use Rattle.ats_trace.specs.declared.journey.Ending.TheVariants.{Discard}
use Rattle.ats_soundness_law.specs.Rules.{frames_may_stay}
use Rattle.ats_soundness_law.specs.Sound.{IsServed}
use Rattle.ats_examples.specs.Networks.{ranged, ranged_line, over_two_ranged}
use Rattle.ats_examples.specs.Rows.{line_rows, two_rows}
use Rattle.ats_examples.specs.Runs.{hop, sunk}
use Rattle.ats_examples.specs.PacedRuns.{arriving, arriving_next}
use Rattle.ats_examples.specs.Deviations as part
use Rattle.ats_examples.specs.RuleBreaks as rule
use Rattle.ats_examples.specs.SoundRuns.{IsCertified, IsServedExactly}

-- What the laws say of runs over a bridge that takes 200 to 1000 ns to process a frame.

-- a burst, and two small frames of its stream, each released as soon as the bucket allows. The burst and the first
-- small one take as long as they may; the second is sent at its release
abbrev pub before_last : List Travel
before_last =
    sunk 0 0 1522 (hop 0 0 0 12336000 ∷ hop 13836000 13836000 13836000 26172000 ∷ []) 26672000
    ∷ sunk 6720000 0 64
    (hop 6720000 6720000 12336000 13008000 ∷ hop 14508000 20556000 26172000 26844000 ∷ []) 27344000
    ∷ []

-- it arrives as early as it may, and stays for 12464000 ps, the wait at the port and the port's spread
abbrev pub last_stays : List Travel
last_stays = before_last
    ++ sunk 13440000 0 64
    (hop 13440000 13440000 13440000 14112000 ∷ hop 14812000 27276000 27276000 27948000 ∷ []) 28448000 ∷ []

-- where that is more than it may stay, or it arrives earlier, it is discarded
abbrev pub last_is_late : ℕ → List Travel
last_is_late arrival = before_last
    ++ record {
      release = record { at = record { 0 = 13440000 }; sender = 0; octets = 64 };
      hops =
          hop 13440000 13440000 13440000 14112000
          ∷ record { arrival = record { 0 = arrival }; verdict = Late (record { 0 = 27276000 }); sent = None }
          ∷ [];
      ending = Discard;
      copies = [];
    }
    ∷ []

-- two frames at once, which are the burst, and a small one as soon as the bucket allows; it overtakes the second, which
-- has to wait until the bridge's bucket has room again
abbrev pub overtaken : List Travel
overtaken =
    sunk 0 0 1438 (hop 0 0 0 11664000 ∷ hop 13164000 13164000 13164000 24828000 ∷ []) 25328000
    ∷ sunk 0 0 64 (hop 0 0 11664000 12336000 ∷ hop 13836000 19884000 25500000 26172000 ∷ []) 26672000
    ∷ sunk 6720000 0 64
    (hop 6720000 6720000 12336000 13008000 ∷ hop 13708000 13708000 24828000 25500000 ∷ []) 26000000
    ∷ []

-- the certificate holds where the residence is the wait and the spread, and not 1 ns below it. At one end of its
-- interval a frame arrives exactly when the sum of the bounds is over, and at the other one a frame stays as long as it
-- may. Over two bridges a frame is served that comes to the first as early as it may, and to the second as late
pub record PacesAreSound : Type 0 where
  pub certified : IsCertified ranged_line line_rows
  pub latest : IsServedExactly ranged_line line_rows (arriving 13836000) (travel_at (arriving 13836000) 0)
  pub over_two : IsCertified over_two_ranged two_rows
  pub next : IsServed two_rows (sender_at over_two_ranged 0) (travel_at (arriving_next 26872000) 0)
  pub next_late : ¬ IsServed two_rows (sender_at over_two_ranged 0) (travel_at (arriving_next 26872001) 0)
  pub legal : IsIdeal ranged_line last_stays
  pub keeps : KeepsBuckets ranged_line (releases_of last_stays) (talker_of ranged_line 0)
  pub served : IsServed line_rows (sender_at ranged_line 0) (travel_at last_stays 2)
  pub spread_counts : rule.BreaksAlone frames_may_stay (ranged 12463) line_rows

-- a run that breaks the link rule alone, and whose talker keeps its buckets; but this frame is not served
pub record IsUnserved (network : DeclaredNetwork) (rows : List Row) (run : List Travel) (frame : ℕ) : Type 0 where
  pub alone : part.BreaksAlone links network run
  pub keeps : KeepsBuckets network (releases_of run) (talker_of network 0)
  pub not_served : ¬ IsServed rows (sender_at network 0) (travel_at run frame)

-- bounds rest on both ends of the interval, and on the order of frames
pub record LinkRuleCounts : Type 0 where
  pub latest : IsUnserved ranged_line line_rows (arriving 13836001) 0
  pub earliest : IsUnserved ranged_line line_rows (last_is_late 14811999) 2
  pub order : IsUnserved ranged_line line_rows overtaken 1
