use Rattle.std.specs.Prelude.{◌≡◌, ℕ, List, ◌++◌, length, codes, decimal}
use Rattle.std.specs.List.{flat_map, zip}
use Rattle.ats_topology.specs.Topology.{DeclaredTopology}
use Rattle.ats_network.specs.Network.{DeclaredNetwork}
use Rattle.ats_requests.specs.Requests.{after_all, answers}
use Rattle.ats_requests.specs.declared.answer.Answer.{Answer}
use Rattle.ats_requests.specs.declared.answer.Answer.TheVariants.{Refused}
use Rattle.ats_requests.specs.declared.denied.Denied.TheVariants.{Limit, NameTaken, NameUnknown}
use Rattle.ats_requests.specs.declared.request.Request.{Request}
use Rattle.ats_admission_text.specs.Text.{admission_text, answer_text, name_asked}

-- the answer about a name to a request that is refused before any bound is looked at: the name is taken, or unknown,
-- or there is no more room
pub record AnswersAreWritten : Type 0 where
  pub taken : (t : DeclaredTopology) (name : List ℕ) → answer_text t name (Refused NameTaken)
      ≡ codes "denied " ++ name ++ codes " name-taken\n"
  pub unknown : (t : DeclaredTopology) (name : List ℕ) → answer_text t name (Refused NameUnknown)
      ≡ codes "denied " ++ name ++ codes " name-unknown\n"
  pub limit : (t : DeclaredTopology) (name : List ℕ) → answer_text t name (Refused Limit)
      ≡ codes "denied " ++ name ++ codes " limit\n"

-- `admit` prints the answer to each request, in order, and how many streams there are at the end
pub record AdmitIsWritten : Type 0 where
  pub refusals : AnswersAreWritten
  pub all : (network : DeclaredNetwork) (requests : List Request) → admission_text network requests
      ≡ flat_map (λ (one : Request × Answer). answer_text network.topology (name_asked one.0) one.1)
      (zip requests (answers network requests))
      ++ codes "streams " ++ decimal (length (after_all network requests).streams) ++ codes "\n"
