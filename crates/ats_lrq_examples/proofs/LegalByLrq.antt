-- Runs of two frames of one port and class that length-rate-quotient regulators judge so.
use Rattle.std.proofs.Common.{◌≡◌, ℕ, ◌<◌, ◌≤◌, Bool, true, false, ◌&&◌, cond, List, [], ◌∷◌, length, refl, sym}
use Rattle.std.proofs.Common.{subst}
use Rattle.std.specs.Prelude.{◌==◌, nat_le}
use Rattle.std.proofs.lemmas.Bool.{and_parts}
use Rattle.std.proofs.lemmas.List.Sorted.{IsPermutation-refl}
use Rattle.ats_network.specs.Network.{DeclaredNetwork}
use Rattle.ats_trace.specs.Eligibility.{IsJudged, offer_of, residence_of_groups, scheduled_by}
use Rattle.ats_trace.specs.Journey.{Travel}
use Rattle.ats_trace.specs.Parts.{in_order, octets, way, released, copies, links, waits, takes, apart, chosen}
use Rattle.ats_trace.specs.Parts.{prompt, groups, flows}
use Rattle.ats_trace.specs.Projections.{Handed, handed_by}
use Rattle.ats_trace.specs.Run.{IsLegalBy}
use Rattle.ats_lrq.specs.Judge.{lrq_judge}
use Rattle.ats_examples.proofs.LegalTest.{ascending_by}
use Rattle.ats_examples.proofs.PartTest.{others_by, others_pass}
use Rattle.ats_examples.proofs.Tests.{eq_of, pairs_pass}

-- two frames of a port and a class get the verdicts of their group, and other groups judge none
pub two_judged : (network : DeclaredNetwork) (port own : ℕ) (h k : Handed)
    → pairs_pass nat_le (h.crossing.arrival ∷ k.crossing.arrival ∷ []) ≡ true
    → h.verdict ∷ k.verdict ∷ []
    ≡ lrq_judge (scheduled_by network own) (residence_of_groups network own) (offer_of h ∷ offer_of k ∷ [])
    → (there : Bool) → (there ≡ true → port ≡ own)
    → IsJudged lrq_judge network port (cond there (h ∷ cond there (k ∷ []) []) (cond there (k ∷ []) []))
two_judged network port own h k ordered told true is =
    subst (λ (p : ℕ). IsJudged lrq_judge network p (h ∷ k ∷ [])) (sym (is refl))
    (record {
      arrivals = h ∷ k ∷ [];
      same = IsPermutation-refl (h ∷ k ∷ []);
      in_order = ascending_by (h.crossing.arrival ∷ k.crossing.arrival ∷ []) ordered;
      verdicts = told;
    })
two_judged network port own h k ordered told false is =
    record { arrivals = []; same = IsPermutation-refl []; in_order = ascending_by [] refl; verdicts = refl }

-- a port that is this one
pub port_is : (port class : ℕ) → (0 == port && 6 == class) ≡ true → port ≡ 0
port_is port class h = sym (eq_of 0 port (and_parts (0 == port) (6 == class) h).0)

-- a run that keeps each part of a legal run but the groups', which judge so
pub legal_with : (network : DeclaredNetwork) (run : List Travel) → others_pass groups network run ≡ true
    → ((port class : ℕ) → port < length network.topology.ports → 1 ≤ class
    → IsJudged lrq_judge network port (handed_by network run port class))
    → IsLegalBy lrq_judge network run
legal_with network run passed judged =
    let kept = others_by groups network run passed in
    record {
      in_order = kept in_order (λ e. cc);
      journeys = λ k d within. record {
        sender = (kept way (λ e. cc) k d within).0;
        octets = kept octets (λ e. cc) k d within;
        way = (kept way (λ e. cc) k d within).1;
        released = kept released (λ e. cc) k d within;
        copies = kept copies (λ e. cc) k d within;
      };
      ports = λ port within. record {
        waits = kept waits (λ e. cc) port within;
        takes = kept takes (λ e. cc) port within;
        apart = kept apart (λ e. cc) port within;
        chosen = kept chosen (λ e. cc) port within;
        prompt = kept prompt (λ e. cc) port within;
      };
      links = kept links (λ e. cc);
      groups = judged;
      flows = kept flows (λ e. cc);
    }
