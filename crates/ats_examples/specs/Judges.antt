use Rattle.std.specs.Prelude.{[], ◌∷◌, map, None}
use Rattle.ats_network.specs.Senders.{sender_at}
use Rattle.ats_group.specs.Group.{Offer}
use Rattle.ats_group.specs.declared.verdict.Verdict.TheVariants.{Size}
use Rattle.ats_group.specs.Judge.{Judge, bucket_rule}
use Rattle.ats_group_law.specs.Regulator.{IsRegulator}
use Rattle.ats_trace.specs.Journey.{Travel}
use Rattle.ats_trace.specs.Run.{IsLegalBy, releases_of}
use Rattle.ats_trace.specs.Talker.{talker_of, KeepsBuckets}
use Rattle.ats_trace.specs.declared.journey.Ending.TheVariants.{Discard}
use Rattle.ats_soundness_law.specs.Runs.{in_true_time}
use Rattle.ats_soundness_law.specs.Sound.{IsServed, IsSoundBy}
use Rattle.ats_examples.specs.Networks.{line}
use Rattle.ats_examples.specs.Runs.{hop}
use Rattle.ats_examples.specs.Rows.{line_rows}

-- Bounds are not sound for every judge.

-- this one lets nothing through
abbrev pub discards : Judge
discards declared residence_ns offers = map (λ (o : Offer). Size) offers

-- so it discards the frame that runs over the line
abbrev pub discarded : Travel
discarded = record {
  release = record { at = record { 0 = 0 }; sender = 0; octets = 1522 };
  hops = hop 0 0 0 12336000 ∷ record { arrival = record { 0 = 13836000 }; verdict = Size; sent = None } ∷ [];
  ending = Discard;
  copies = [];
}

-- the run is legal by that judge, and the frame's talker keeps its buckets; but the certificate's bounds do not hold,
-- since this is no regulator: its shaping is not free
pub record RegulatorCounts : Type 0 where
  pub legal : IsLegalBy discards line (discarded ∷ [])
  pub keeps : KeepsBuckets line (releases_of (discarded ∷ [])) (talker_of line 0)
  pub not_served : ¬ IsServed line_rows (sender_at line 0) discarded
  pub unsound : ¬ IsSoundBy (in_true_time discards bucket_rule) line line_rows
  pub no_regulator : ¬ IsRegulator discards bucket_rule
