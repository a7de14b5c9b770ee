use Rattle.std.specs.Prelude.{◌≡◌, ℕ, List, [], ◌∷◌, ◌++◌, length, codes, decimal, None}
use Rattle.ats_topology.specs.Topology.{DeclaredTopology}
use Rattle.ats_network.specs.Network.{DeclaredNetwork}
use Rattle.ats_conform.specs.declared.broken.Broken.TheVariants.{Size, Bucket}
use Rattle.ats_tally.specs.declared.reason.Reason.TheVariants.{Overloaded, Residence, Deadline}
use Rattle.ats_checker.specs.declared.refusal.Field.TheVariants as field
use Rattle.ats_checker.specs.declared.refusal.Refusal.TheVariants.{RowMissing, RowStray, FieldWrong, WaitTooSmall}
use Rattle.ats_checker.specs.declared.refusal.Refusal.TheVariants.{Network}
use Rattle.ats_requests.specs.Requests.{answers, after_all}
use Rattle.ats_requests.specs.declared.answer.Answer.{Answer}
use Rattle.ats_requests.specs.declared.answer.Answer.TheVariants.{Admitted, Withdrawn, Refused}
use Rattle.ats_requests.specs.declared.denied.Denied.TheVariants.{NameTaken, NameUnknown, Limit, Because, NoClass}
use Rattle.ats_requests.specs.declared.request.Request.{Request}
use Rattle.ats_requests.specs.declared.request.Request.TheVariants.{Admit, Lowest, Withdraw}
use Rattle.ats_verdict_text.specs.Text.{refusal_text, reason_text, refused_text}
use Rattle.ats_admission_text.specs.Text.{admission_text, lines_of}
use Rattle.ats_command_due.specs.Conformed.{conforms_text, broken_text}
use Rattle.ats_text_examples.specs.Worked.{way, u, v}

-- What is printed of each verdict, with the ports of the worked network.

abbrev pub over : DeclaredTopology
over = way.topology

-- each refusal, reason, column and breach, one of each; and how many releases conform
pub record VerdictsAreWritten : Type 0 where
  pub missing : refusal_text over (RowMissing 2 6) ≡ codes "row-missing b1>b2 6"
  pub stray : refusal_text over (RowStray 3 5) ≡ codes "row-stray b2>b1 5"
  pub higher : refusal_text over (FieldWrong 0 7 field.Higher 11) ≡ codes "field s1>b1 7 higher 11"
  pub equal : refusal_text over (FieldWrong 1 6 field.Equal 12) ≡ codes "field b1>s1 6 equal 12"
  pub bursts : refusal_text over (FieldWrong 2 5 field.Bursts 13) ≡ codes "field b1>b2 5 bursts 13"
  pub lower : refusal_text over (FieldWrong 3 4 field.Lower 14) ≡ codes "field b2>b1 4 lower 14"
  pub least : refusal_text over (FieldWrong 4 3 field.Least 15) ≡ codes "field b2>s2 3 least 15"
  pub bound : refusal_text over (FieldWrong 5 2 field.Bound 16) ≡ codes "field s2>b2 2 bound 16"
  pub wait : refusal_text over (WaitTooSmall 4 1 17) ≡ codes "wait b2>s2 1 17"
  pub of_network : refusal_text over (Network (Overloaded 0 6 18)) ≡ codes "overloaded s1>b1 6 18"
  pub overloaded : reason_text over (Overloaded 3 5 2000000000019) ≡ codes "overloaded b2>b1 5 2000000000019"
  pub residence : reason_text over (Residence 2 4 20) ≡ codes "residence b1>b2 4 20"
  pub deadline : reason_text over (Deadline (codes "v") None 21) ≡ codes "deadline v 21"
  pub refused : refused_text (codes "deadline v 21") ≡ codes "refused deadline v 21\n"
  pub size : broken_text (Size 22) ≡ codes "size 22"
  pub bucket : broken_text (Bucket 23 24) ≡ codes "bucket 23 24"
  pub conforms : conforms_text 25 ≡ codes "conforms 25\n"

-- requests, and answers of each kind to them, whichever are due
abbrev pub asked : List Request
asked =
    Admit u ∷ Lowest (v 300000) ∷ Withdraw (codes "w") ∷ Admit u ∷ Withdraw (codes "x") ∷ Lowest (v 300000) ∷ Admit u
    ∷ Lowest (v 300000) ∷ []

abbrev pub given : List Answer
given =
    Admitted 6 1001 ∷ Admitted 5 1002 ∷ Withdrawn ∷ Refused NameTaken ∷ Refused NameUnknown ∷ Refused Limit
    ∷ Refused (Because (Residence 0 5 1003))
    ∷ Refused (NoClass (Overloaded 0 1 1004 ∷ Deadline (codes "u") None 1005 ∷ Residence 2 3 1006 ∷ [])) ∷ []

abbrev pub lines : List ℕ
lines =
    codes "admitted u 6 1001\n" ++ codes "admitted v 5 1002\n" ++ codes "withdrawn w\n" ++ codes "denied u name-taken\n"
    ++ codes "denied x name-unknown\n" ++ codes "denied v limit\n" ++ codes "denied u residence s1>b1 5 1003\n"
    ++ codes "denied v no-class\n" ++ codes "class 1 overloaded s1>b1 1 1004\n" ++ codes "class 2 deadline u 1005\n"
    ++ codes "class 3 residence b1>b2 3 1006\n"

-- what `admit` prints is a line or more for each request, with the answer that it gets, and then the number of streams
-- that are left
abbrev pub AnswersThenStreams : Type 0
AnswersThenStreams = (network : DeclaredNetwork) (requests : List Request)
    → admission_text network requests
    ≡ lines_of network.topology requests (answers network requests)
    ++ codes "streams " ++ decimal (length (after_all network requests).streams) ++ codes "\n"

pub record AnswersAreWritten : Type 0 where
  pub each : lines_of over asked given ≡ lines
  pub joined : AnswersThenStreams
  pub streams : admission_text way (Withdraw (codes "x") ∷ Withdraw (codes "u") ∷ [])
      ≡ codes "denied x name-unknown\n" ++ codes "withdrawn u\n" ++ codes "streams 1\n"
