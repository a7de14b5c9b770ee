use Rattle.std.proofs.Common.{◌≡◌, ◌∙◌, ℕ, ◌-◌, ◌<◌, ◌≤◌, Bool, List, [], ◌++◌, Option, Some, None, cond, ap}
use Rattle.std.proofs.Common.{append-nil, append_assoc}
use Rattle.std.specs.Prelude.{codes, decimal, if◌then◌else◌}
use Rattle.std.proofs.lemmas.Bool.{le-ltb, lt-ltb}
use Rattle.ats_topology.specs.Topology.{DeclaredTopology}
use Rattle.ats_port_names.specs.PortName.{port_name}
use Rattle.ats_network.specs.Listeners.{listener_text}
use Rattle.ats_explain.specs.Loads.{port_load}
use Rattle.ats_explain.specs.declared.margin.Margin.{Margin}
use Rattle.ats_explain.specs.declared.parts.Parts.{Parts}
use Rattle.ats_explain.specs.declared.parts.Stay.{Stay}
use Rattle.ats_explain.specs.declared.totals.Tightest.{Tightest}
use Rattle.ats_explain.specs.declared.totals.Totals.{Totals}
use Rattle.ats_explain_text.specs.Text.{bound_text, counts_text, hop_line, kind_text, port_line, sender_text}
use Rattle.ats_explain_text.specs.Text.{slack_text, stay_text, stream_line, tightest_text, wait_text}
use Rattle.ats_plain_text_law.specs.Explains.{EndsAreExplained, ExplainIsWritten, HopsAreExplained}
use Rattle.ats_plain_text_law.specs.Explains.{ListenersAreExplained}

-- What `explain` prints.

-- what is left of a deadline, or how much is missing
slack : (m : Margin) → m.sum ≤ m.deadline → slack_text m ≡ codes " slack " ++ decimal (m.deadline - m.sum)
slack m within = ap (λ (b : Bool). cond b (codes " late " ++ decimal (m.sum - m.deadline))
    (codes " slack " ++ decimal (m.deadline - m.sum))) (le-ltb m.deadline m.sum within)

late : (m : Margin) → m.deadline < m.sum → slack_text m ≡ codes " late " ++ decimal (m.sum - m.deadline)
late m over = ap (λ (b : Bool). cond b (codes " late " ++ decimal (m.sum - m.deadline))
    (codes " slack " ++ decimal (m.deadline - m.sum))) (lt-ltb m.deadline m.sum over)

-- the line of a listener, by what stands behind its deadline
abbrev line_by : List ℕ → Option (List ℕ) → Margin → List ℕ → List ℕ
line_by name listener m end =
    kind_text listener ++ listener_text name listener ++ codes " sum " ++ decimal m.sum
    ++ codes " deadline " ++ decimal m.deadline ++ end ++ codes "\n"

two : (line a b end : List ℕ) → line ++ (a ++ b) ++ end ≡ line ++ a ++ b ++ end
two line a b end = simp append_assoc

-- the line of a stream up to its deadline
abbrev stream_by : List ℕ → Margin → List ℕ
stream_by name m = codes "stream " ++ name ++ codes " sum " ++ decimal m.sum ++ codes " deadline " ++ decimal m.deadline

listeners : ListenersAreExplained
unfolding stream_line
listeners = record {
  within = λ name m is. ap (line_by name None m) (slack m is)
      ∙ two (stream_by name m) (codes " slack ") (decimal (m.deadline - m.sum)) (codes "\n");
  late = λ name m is. ap (line_by name None m) (late m is)
      ∙ two (stream_by name m) (codes " late ") (decimal (m.sum - m.deadline)) (codes "\n");
  within_further = λ name station m is. ap (line_by name (Some station) m) (slack m is) ∙ simp append_assoc;
  late_further = λ name station m is. ap (line_by name (Some station) m) (late m is) ∙ simp append_assoc;
}

-- the line of a hop, by its stay
abbrev hop_by : DeclaredTopology → ℕ → ℕ → Parts → Option Stay → List ℕ
hop_by t port class parts stay =
    codes "hop " ++ port_name t port ++ codes " " ++ decimal class
    ++ (wait_text parts ++ bound_text parts ++ stay_text stay) ++ codes "\n"

-- texts in a row: those of the wait, those of the bound, and the stay
rows : (f a b c d e g h i j k l m n o stay end : List ℕ)
    → f ++ ((a ++ b ++ c ++ d ++ e ++ g ++ h ++ i) ++ (j ++ k ++ l ++ m ++ n ++ o) ++ stay) ++ end
    ≡ f ++ a ++ b ++ c ++ d ++ e ++ g ++ h ++ i ++ j ++ k ++ l ++ m ++ n ++ o ++ stay ++ end
rows f a b c d e g h i j k l m n o stay end = simp append_assoc

four : (f a b c d end : List ℕ) → f ++ (a ++ b ++ c ++ d) ++ end ≡ f ++ a ++ b ++ c ++ d ++ end
four f a b c d end = simp append_assoc

-- the line of a hop without its stay
abbrev front : DeclaredTopology → ℕ → ℕ → Parts → List ℕ
front t port class parts =
    codes "hop " ++ port_name t port ++ codes " " ++ decimal class ++ codes " lower " ++ decimal parts.lower
    ++ codes " " ++ sender_text parts.sender ++ codes " bursts " ++ decimal parts.bursts ++ codes " higher "
    ++ decimal parts.higher ++ codes " frame " ++ decimal parts.frame ++ codes " latency " ++ decimal parts.latency
    ++ codes " bound " ++ decimal parts.bound

in_a_row : (t : DeclaredTopology) (port class : ℕ) (parts : Parts) (stay : Option Stay)
    → hop_by t port class parts stay ≡ front t port class parts ++ stay_text stay ++ codes "\n"
unfolding wait_text bound_text
in_a_row t port class parts stay =
    rows (codes "hop " ++ port_name t port ++ codes " " ++ decimal class) (codes " lower ") (decimal parts.lower)
    (codes " ") (sender_text parts.sender) (codes " bursts ") (decimal parts.bursts) (codes " higher ")
    (decimal parts.higher) (codes " frame ") (decimal parts.frame) (codes " latency ") (decimal parts.latency)
    (codes " bound ") (decimal parts.bound) (stay_text stay) (codes "\n")

hops : HopsAreExplained
unfolding hop_line
hops = record {
  to_station = λ t port class parts none. ap (hop_by t port class parts) none
      ∙ in_a_row t port class parts None
      ∙ ap (λ (line : List ℕ). line ++ codes "\n") (append-nil (front t port class parts));
  to_bridge = λ t port class parts stay is. ap (hop_by t port class parts) is
      ∙ in_a_row t port class parts (Some stay)
      ∙ four (front t port class parts) (codes " stay ") (decimal stay.need) (codes " of ") (decimal stay.residence)
      (codes "\n");
}

-- the last line, by the tightest listener
abbrev totals_by : Totals → Option Tightest → List ℕ
totals_by totals tightest = counts_text totals ++ tightest_text tightest ++ codes "\n"

-- and by its slack
abbrev tightest_by : Totals → Tightest → List ℕ → List ℕ
tightest_by totals one end =
    counts_text totals ++ (codes " tightest " ++ listener_text one.name one.listener ++ end) ++ codes "\n"

tightest_row : (counts word name a b end : List ℕ) → counts ++ (word ++ name ++ (a ++ b)) ++ end
    ≡ counts ++ word ++ name ++ a ++ b ++ end
tightest_row counts word name a b end = simp append_assoc

ends : EndsAreExplained
unfolding port_line counts_text
ends = record {
  used = λ network n port is. ap (λ (b : Bool). if b then port_line network.topology n (port_load network n) else [])
      is;
  not_used = λ network n port is.
      ap (λ (b : Bool). if b then port_line network.topology n (port_load network n) else []) is;
  no_stream = λ totals none. ap (totals_by totals) none ∙ simp append_assoc;
  within = λ totals one is left. ap (totals_by totals) is ∙ ap (tightest_by totals one) (slack one.margin left)
      ∙ tightest_row (counts_text totals) (codes " tightest ") (listener_text one.name one.listener) (codes " slack ")
      (decimal (one.margin.deadline - one.margin.sum)) (codes "\n");
  late = λ totals one is missing. ap (totals_by totals) is ∙ ap (tightest_by totals one) (late one.margin missing)
      ∙ tightest_row (counts_text totals) (codes " tightest ") (listener_text one.name one.listener) (codes " late ")
      (decimal (one.margin.sum - one.margin.deadline)) (codes "\n");
}

pub explain_is_written : ExplainIsWritten
explain_is_written = record {
  listeners = listeners;
  hops = hops;
  ends = ends;
}
