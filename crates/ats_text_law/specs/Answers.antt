use Rattle.std.specs.Prelude.{◌≡◌, ℕ, ◌<◌, IsTrue, List, ◌++◌, length, All}
use Rattle.ats_num.specs.Name.{is_name}
use Rattle.ats_topology.specs.Topology.{ports_of, topology_of}
use Rattle.ats_topology.specs.declared.node.Node.{Node}
use Rattle.ats_topology.specs.declared.link.Link.{Link}
use Rattle.ats_port_names.specs.Laws.{AreSound}
use Rattle.ats_tally.specs.declared.reason.Reason.{Reason}
use Rattle.ats_tally.specs.declared.reason.Reason.TheVariants as reason
use Rattle.ats_requests.specs.declared.answer.Answer.{Answer}
use Rattle.ats_requests.specs.declared.answer.Answer.TheVariants.{Admitted, Withdrawn, Refused}
use Rattle.ats_requests.specs.declared.denied.Denied.{Denied}
use Rattle.ats_requests.specs.declared.denied.Denied.TheVariants.{NameTaken, NameUnknown, Limit, Because, NoClass}
use Rattle.ats_requests.specs.declared.request.Request.{Request}
use Rattle.ats_requests.specs.Requests.{after_all, answers}
use Rattle.ats_network.specs.Network.{DeclaredNetwork}
use Rattle.ats_admission_text.specs.Text.{admission_text, lines_of}
use Rattle.ats_text_law.specs.Explained.{IsNamed}
use Rattle.ats_text_law.specs.Short.{IsShort}

-- a reason names a port that is there, or a stream and, if a further one, its listener, and its numbers have at most 64
-- digits
abbrev pub IsShortReason : ℕ → Reason → Type 0
IsShortReason ports (reason.Overloaded port class load) = (port < ports) × IsShort class × IsShort load
IsShortReason ports (reason.Residence port class need) = (port < ports) × IsShort class × IsShort need
IsShortReason ports (reason.Deadline stream listener sum) = IsTrue (is_name stream) × IsNamed listener × IsShort sum

-- so does what a denial says; where no class will do, there is a reason for each of the seven
abbrev pub IsShortDenied : ℕ → Denied → Type 0
IsShortDenied ports NameTaken = Unit {0}
IsShortDenied ports NameUnknown = Unit {0}
IsShortDenied ports Limit = Unit {0}
IsShortDenied ports (Because reason) = IsShortReason ports reason
IsShortDenied ports (NoClass reasons) = (length reasons ≡ 7) × All (IsShortReason ports) reasons

-- and what an answer says
abbrev pub IsShortAnswer : ℕ → Answer → Type 0
IsShortAnswer ports (Admitted class sum) = IsShort class × IsShort sum
IsShortAnswer ports Withdrawn = Unit {0}
IsShortAnswer ports (Refused denied) = IsShortDenied ports denied

-- answers to requests, one to each, that a text can hold
pub record AreAnswersTo (ports : ℕ) (asked : List Request) (given : List Answer) : Type 0 where
  pub one_each : length given ≡ length asked
  pub short : All (IsShortAnswer ports) given

-- over one topology, what is printed of two lists of answers to the same requests is the same only where the answers
-- are
abbrev pub AnswersTellAll : Type 0
AnswersTellAll = (nodes : List Node) (links : List Link) → AreSound nodes links
    → (asked : List Request) (given others : List Answer) → AreAnswersTo (length (ports_of nodes links)) asked given
    → AreAnswersTo (length (ports_of nodes links)) asked others
    → lines_of (topology_of nodes links) asked given ≡ lines_of (topology_of nodes links) asked others
    → given ≡ others

-- so it is whatever stands behind both
abbrev pub AnswersTellAllBehind : Type 0
AnswersTellAllBehind = (nodes : List Node) (links : List Link) → AreSound nodes links
    → (asked : List Request) (given others : List Answer) (behind beyond : List ℕ)
    → AreAnswersTo (length (ports_of nodes links)) asked given
    → AreAnswersTo (length (ports_of nodes links)) asked others
    → lines_of (topology_of nodes links) asked given ++ behind
    ≡ lines_of (topology_of nodes links) asked others ++ beyond → (given ≡ others) × (behind ≡ beyond)

-- and so the whole text that `admit` prints tells the answers, and the number of streams at the end
abbrev pub AdmissionTellsAll : Type 0
AdmissionTellsAll = (nodes : List Node) (links : List Link) → AreSound nodes links
    → (asked : List Request) (network other : DeclaredNetwork)
    → network.topology ≡ topology_of nodes links → other.topology ≡ topology_of nodes links
    → AreAnswersTo (length (ports_of nodes links)) asked (answers network asked)
    → AreAnswersTo (length (ports_of nodes links)) asked (answers other asked)
    → IsShort (length (after_all network asked).streams) → IsShort (length (after_all other asked).streams)
    → admission_text network asked ≡ admission_text other asked
    → (answers network asked ≡ answers other asked)
    × (length (after_all network asked).streams ≡ length (after_all other asked).streams)

pub record AdmissionIsTold : Type 0 where
  pub behind : AnswersTellAllBehind
  pub all : AdmissionTellsAll
