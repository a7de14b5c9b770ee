use Rattle.std.proofs.Common.{◌≡◌, ℕ, ◌<◌, ◌≤◌, Bool, true, false, ◌&&◌, cond, List, [], ◌∷◌, length, refl, ap, lit<}
use Rattle.std.specs.Prelude.{◌==◌}
use Rattle.std.proofs.lemmas.List.Sorted.{IsPermutation-refl}
use Rattle.ats_network.specs.Network.{DeclaredNetwork}
use Rattle.ats_network.specs.Senders.{sender_at}
use Rattle.ats_group.specs.declared.verdict.Verdict.{Verdict}
use Rattle.ats_group.specs.declared.verdict.Verdict.TheVariants.{Size}
use Rattle.ats_group.specs.Judge.{bucket_rule}
use Rattle.ats_trace.specs.Journey.{Travel}
use Rattle.ats_trace.specs.Projections.{Handed, handed_by}
use Rattle.ats_trace.specs.Eligibility.{IsJudged}
use Rattle.ats_trace.specs.Run.{IsLegalBy, releases_of}
use Rattle.ats_trace.specs.Talker.{talker_of, KeepsBuckets}
use Rattle.ats_trace.specs.Parts.{in_order, octets, way, released, copies, links, waits, takes, apart, chosen}
use Rattle.ats_trace.specs.Parts.{prompt, flows}
use Rattle.ats_soundness_law.specs.Runs.{in_true_time}
use Rattle.ats_soundness_law.specs.Sound.{IsServed, IsSoundBy}
use Rattle.ats_soundness_law.proofs.EachRule.{rule_of_holding}
use Rattle.ats_soundness_law.proofs.Soundness.{sound_by_rules}
use Rattle.ats_examples.specs.Networks.{line}
use Rattle.ats_examples.proofs.LegalTest.{ascending_by}
use Rattle.ats_examples.proofs.PartTest.{kept_by}
use Rattle.ats_examples.proofs.BucketTest.{keeps_by}
use Rattle.ats_examples.specs.Rows.{line_rows}
use Rattle.ats_examples.specs.Judges.{discards, discarded, RegulatorCounts}
use Rattle.ats_examples.proofs.NetworkProofs.{line_is}
use Rattle.ats_examples.proofs.LawsMetProofs.{laws_are_met}
use Rattle.ats_examples.proofs.StationTest.{from_stations_by}

abbrev run : List Travel
run = discarded ∷ []

-- a frame that is discarded for its size, or none, is judged so
one_judged : (network : DeclaredNetwork) (port : ℕ) (h : Handed) → h.verdict ≡ Size → (there : Bool)
    → IsJudged discards network port (cond there (h ∷ []) [])
one_judged network port h size true = record {
  arrivals = h ∷ [];
  same = IsPermutation-refl (h ∷ []);
  in_order = ascending_by (h.crossing.arrival ∷ []) refl;
  verdicts = ap (λ (v : Verdict). v ∷ []) size;
}
one_judged network port h size false =
    record { arrivals = []; same = IsPermutation-refl []; in_order = ascending_by [] refl; verdicts = refl }

groups : (port class : ℕ) → port < length line.topology.ports → 1 ≤ class
    → IsJudged discards line port (handed_by line run port class)
groups port class within least = one_judged line port _ refl (0 == port && 6 == class)

legal : IsLegalBy discards line run
legal = record {
  in_order = kept_by in_order line run refl;
  journeys = λ k d within. record {
    sender = (kept_by way line run refl k d within).0;
    octets = kept_by octets line run refl k d within;
    way = (kept_by way line run refl k d within).1;
    released = kept_by released line run refl k d within;
    copies = kept_by copies line run refl k d within;
  };
  ports = λ port within. record {
    waits = kept_by waits line run refl port within;
    takes = kept_by takes line run refl port within;
    apart = kept_by apart line run refl port within;
    chosen = kept_by chosen line run refl port within;
    prompt = kept_by prompt line run refl port within;
  };
  links = kept_by links line run refl;
  groups = groups;
  flows = kept_by flows line run refl;
}

keeps : KeepsBuckets line (releases_of run) (talker_of line 0)
keeps = keeps_by line (releases_of run) (talker_of line 0) refl refl

not_served : ¬ IsServed line_rows (sender_at line 0) discarded
not_served served = (served 0 (lit< tt)).arrives

unsound : ¬ IsSoundBy (in_true_time discards bucket_rule) line line_rows
unsound sound = not_served ((from_stations_by bucket_rule discards line line_rows refl sound).served run legal discarded
    (0, lit< tt, refl) (lit< tt) keeps)

pub regulator_counts : RegulatorCounts
regulator_counts = record {
  legal = legal;
  keeps = keeps;
  not_served = not_served;
  unsound = unsound;
  no_regulator = λ regulator. unsound
      (sound_by_rules discards line line_rows regulator line_is (rule_of_holding line line_rows laws_are_met.holds));
}
