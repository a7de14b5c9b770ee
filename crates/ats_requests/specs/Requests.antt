use Rattle.std.specs.Prelude.{◌≡◌, ℕ, List, [], ◌∷◌, slice_index_or, Option, Some, None, Result, Ok, Err}
use Rattle.ats_streams.specs.Stream.{DeclaredStream, IsStream}
use Rattle.ats_network.specs.Edits.{without_named}
use Rattle.ats_network.specs.Network.{DeclaredNetwork, HasShortRoutes}
use Rattle.ats_network.specs.Path.{IsTree}
use Rattle.ats_requests.specs.Admission.{admit, after_admit, admit_lowest, after_lowest, withdraw_fault}
use Rattle.ats_requests.specs.declared.answer.Answer.{Answer}
use Rattle.ats_requests.specs.declared.answer.Answer.TheVariants.{Admitted, Withdrawn, Refused}
use Rattle.ats_requests.specs.declared.denied.Denied.{Denied}
use Rattle.ats_requests.specs.declared.request.Request.{Request}
use Rattle.ats_requests.specs.declared.request.Request.TheVariants.{Admit, Lowest, Withdraw}

-- a stream that may be asked for over a network: it keeps a stream's rules, its legs make a tree, its routes
-- have no more ports than those of the network may, as yet it has no branch, and it declares no identity
pub record MayEnter (network : DeclaredNetwork) (stream : DeclaredStream) : Type 0 where
  pub rules : IsStream stream
  pub tree : IsTree network.topology stream.ports stream.branches
  pub short : HasShortRoutes network.most_ports stream
  pub one_listener : stream.branches ≡ []
  pub unidentified : stream.identity ≡ None

-- a request that may be made over a network
abbrev pub MayAsk : DeclaredNetwork → Request → Type 0
MayAsk network (Admit stream) = MayEnter network stream
MayAsk network (Lowest stream) = MayEnter network stream
MayAsk network (Withdraw name) = Unit {0}

-- the class at the first port of a stream
abbrev pub first_class_of : DeclaredStream → ℕ
first_class_of stream = slice_index_or stream.classes 0 0

-- results as answers
abbrev pub admit_answer : ℕ → Result ℕ Denied → Answer
admit_answer class (Ok sum) = Admitted class sum
admit_answer class (Err denied) = Refused denied

abbrev pub lowest_answer : Result (ℕ × ℕ) Denied → Answer
lowest_answer (Ok given) = Admitted given.0 given.1
lowest_answer (Err denied) = Refused denied

abbrev pub withdraw_answer : Option Denied → Answer
withdraw_answer None = Withdrawn
withdraw_answer (Some denied) = Refused denied

-- the answer of a network to a request
abbrev pub answer : DeclaredNetwork → Request → Answer
answer network (Admit stream) = admit_answer (first_class_of stream) (admit network stream)
answer network (Lowest stream) = lowest_answer (admit_lowest network stream)
answer network (Withdraw name) = withdraw_answer (withdraw_fault network name)

-- the network after a request
abbrev pub after : DeclaredNetwork → Request → DeclaredNetwork
after network (Admit stream) = after_admit network stream
after network (Lowest stream) = after_lowest network stream
after network (Withdraw name) = without_named network name

-- the network after requests, one after the other
abbrev pub after_all : DeclaredNetwork → List Request → DeclaredNetwork
after_all network [] = network
after_all network (request ∷ requests) = after_all (after network request) requests

-- the answers to requests, one after the other
abbrev pub answers : DeclaredNetwork → List Request → List Answer
answers network [] = []
answers network (request ∷ requests) = answer network request ∷ answers (after network request) requests
