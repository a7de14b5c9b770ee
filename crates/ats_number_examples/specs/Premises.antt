use Rattle.std.specs.Prelude.{◌≢◌, ◌-◌, ◌^◌, List, [], ◌∷◌, codes, replicate, length, All, Some, None}
use Rattle.ats_topology.specs.Topology.{ports_of, topology_of}
use Rattle.ats_streams.specs.Stream.{declared_stream}
use Rattle.ats_network.specs.Network.{DeclaredNetwork, IsNetwork, declared_network}
use Rattle.ats_port_names.specs.Laws.{AreSound}
use Rattle.ats_tally.specs.declared.reason.Reason.TheVariants.{Deadline, Overloaded, Residence}
use Rattle.ats_requests.specs.declared.answer.Answer.{Answer}
use Rattle.ats_requests.specs.declared.answer.Answer.TheVariants.{Admitted, Refused, Withdrawn}
use Rattle.ats_requests.specs.declared.denied.Denied.TheVariants.{Because, Limit, NameTaken, NoClass}
use Rattle.ats_requests.specs.declared.request.Request.{Request}
use Rattle.ats_requests.specs.declared.request.Request.TheVariants.{Admit, Lowest, Withdraw}
use Rattle.ats_examples.specs.Networks.{flow, fork}
use Rattle.ats_examples.specs.Runs.{late}
use Rattle.ats_tree_examples.specs.Networks.{split}
use Rattle.ats_tree_examples.specs.Runs.{long_split, one_split}
use Rattle.ats_tree_examples.specs.Bounds.{split_rows}
use Rattle.ats_text_law.specs.Answers.{AreAnswersTo}
use Rattle.ats_text_law.specs.Explained.{AreAlike, IsExplainable}
use Rattle.ats_text_law.specs.Laws.{IsPrintable, IsReportable}
use Rattle.ats_text_law.specs.Short.{HasNames, HasShortBounds, IsShort}
use Rattle.ats_number_examples.specs.Networks.{joined, joined_links, joined_nodes, small}

-- What the laws on printed texts ask, met by numbers, runs, networks and answers that are not the same.

-- the greatest number of 64 digits is short, and the next one is not
pub record NumbersAreShort : Type 0 where
  pub greatest : IsShort (10 ^ 64 - 1)
  pub not_next : ¬ IsShort (10 ^ 64)

-- two runs over one network, of which one frame arrives at two listeners, and one is discarded for both; and what is
-- reported of the first with sums, and without. And a run with a frame that is late, and what is reported of it
pub record RunsArePrintable : Type 0 where
  pub rules : IsNetwork split
  pub names : HasNames split
  pub one : IsPrintable split one_split
  pub other : IsPrintable split long_split
  pub differ : one_split ≢ long_split
  pub reported : IsReportable split one_split (Some (26672000 ∷ 26672000 ∷ []))
  pub reported_alone : IsReportable split one_split None
  pub bounds : All (HasShortBounds split.topology split_rows) split.streams
  pub with_late : IsPrintable fork late
  pub with_late_reported : IsReportable fork late None

-- the network of two joined streams, which have the same names and ports, and differ from those in all else; with a
-- flow
abbrev pub joined_otherwise : DeclaredNetwork
joined_otherwise = declared_network (topology_of (joined_nodes 1000000) joined_links)
    (declared_stream (codes "a") (0 ∷ 2 ∷ 4 ∷ []) (5 ∷ 4 ∷ 3 ∷ []) 50000000 13000 100 1500 500000 (Some (2, 7))
    ∷ declared_stream (codes "z") (6 ∷ 4 ∷ []) (2 ∷ 1 ∷ []) 20000000 9000 70 1000 300000 (Some (3, 8))
    ∷ [])
    (flow (codes "f") (5 ∷ 7 ∷ []) ∷ [])

pub record NetworksAreAlike : Type 0 where
  pub alike : AreAlike (joined 1000000 1000000) joined_otherwise
  pub one : All (IsExplainable (joined 1000000 1000000)) (joined 1000000 1000000).streams
  pub other : All (IsExplainable joined_otherwise) joined_otherwise.streams
  pub differ : (joined 1000000 1000000).streams ≢ joined_otherwise.streams

-- six requests, and two lists of answers that may be given to them
abbrev pub asked : List Request
asked =
    Admit (small (codes "c") 7) ∷ Admit (small (codes "a") 7) ∷ Admit (small (codes "d") 6)
    ∷ Lowest (small (codes "e") 1) ∷ Withdraw (codes "c") ∷ Admit (small (codes "g") 7) ∷ []

abbrev pub given : List Answer
given =
    Admitted 7 28016000 ∷ Refused NameTaken ∷ Refused (Because (Residence 2 6 24000000))
    ∷ Refused (NoClass (replicate 7 (Deadline (codes "z") (Some (codes "s2")) 51344000))) ∷ Withdrawn ∷ Refused Limit
    ∷ []

abbrev pub given_otherwise : List Answer
given_otherwise =
    Refused (Because (Overloaded 7 5 1000000000001)) ∷ Admitted 1 1000000000 ∷ Admitted 6 672000
    ∷ Admitted 3 13836000 ∷ Refused NameTaken ∷ Withdrawn ∷ []

pub record AnswersAreShort : Type 0 where
  pub sound : AreSound (joined_nodes 1000000) joined_links
  pub one : AreAnswersTo (length (ports_of (joined_nodes 1000000) joined_links)) asked given
  pub other : AreAnswersTo (length (ports_of (joined_nodes 1000000) joined_links)) asked given_otherwise
  pub differ : given ≢ given_otherwise

pub record PremisesAreMet : Type 0 where
  pub numbers : NumbersAreShort
  pub runs : RunsArePrintable
  pub networks : NetworksAreAlike
  pub answers : AnswersAreShort
