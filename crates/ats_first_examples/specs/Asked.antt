use Rattle.std.specs.Prelude.{◌≡◌, ℕ, List, [], ◌∷◌, ◌++◌, codes, replicate, None, Result, Ok, Err}
use Rattle.ats_topology.specs.Topology.{topology_of}
use Rattle.ats_network.specs.Network.{DeclaredNetwork, declared_network}
use Rattle.ats_streams.specs.Stream.{declared_stream}
use Rattle.ats_streams.specs.declared.fault.StreamFault.TheVariants as rule
use Rattle.ats_requests.specs.declared.request.Request.{Request}
use Rattle.ats_requests.specs.declared.request.Request.TheVariants.{Admit, Withdraw}
use Rattle.ats_request_file.specs.Reading.{requests_from, requests_of}
use Rattle.ats_request_file.specs.declared.fault.RequestFault.{RequestFault}
use Rattle.ats_request_file.specs.declared.fault.RequestFault.TheVariants as request
use Rattle.ats_examples.specs.Networks.{bridge, link, station}
use Rattle.ats_text_examples.specs.Worked.{way}

-- Lines of request files with several faults at once, and which of them is named.

-- two stations between which no walk leads
abbrev pub parted : DeclaredNetwork
parted = declared_network (topology_of
    (station (codes "s1") ∷ station (codes "s2") ∷ bridge (codes "b1") 1 ∷ bridge (codes "b2") 1 ∷ [])
    (link (codes "s1") (codes "b1") ∷ link (codes "s2") (codes "b2") ∷ [])) [] []

-- what is read of these lines over the worked network, behind one
abbrev pub asked : List ℕ → Result (List Request) RequestFault
asked text = requests_of way (codes "withdraw a\n" ++ text)

-- and over those stations
abbrev pub asked_apart : List ℕ → Result (List Request) RequestFault
asked_apart text = requests_of parted text

-- an `admit` line has all faults, and one less each time: its form, its nodes, its path, and the rules of a stream in
-- their order
pub record AdmitLinesAreFirst : Type 0 where
  pub form : asked_apart (codes "admit b x s1 0 0 0 0 0\n") ≡ Err (request.BadLine 1)
  pub nodes : asked_apart (codes "admit b x s1 0 0 0 0 0 0\n") ≡ Err (request.UnknownNode 1)
  pub other_node : asked_apart (codes "admit b s1 y 0 0 0 0 0 0\n") ≡ Err (request.UnknownNode 1)
  pub path : asked_apart (codes "admit b s1 s2 0 0 0 0 0 0\n") ≡ Err (request.NoPath 1)
  pub same_node : asked (codes "admit b s1 s1 0 0 0 0 0 0\n") ≡ Err (request.NoPath 2)
  pub at_bridge : asked (codes "admit b s1 b2 0 0 0 0 0 0\n") ≡ Err (request.UnknownNode 2)
  pub from_bridge : asked (codes "admit b b1 s2 0 0 0 0 0 0\n") ≡ Err (request.UnknownNode 2)
  pub class : asked (codes "admit b s1 s2 0 0 0 0 0 0\n") ≡ Err (request.Stream 2 rule.BadClass)
  pub class_over : asked (codes "admit b s1 s2 8 0 0 0 0 0\n") ≡ Err (request.Stream 2 rule.BadClass)
  pub rate : asked (codes "admit b s1 s2 1 0 0 0 0 0\n") ≡ Err (request.Stream 2 rule.BadRate)
  pub rate_of_lowest : asked (codes "admit b s1 s2 lowest 0 0 0 0 0\n") ≡ Err (request.Stream 2 rule.BadRate)
  pub sizes : asked (codes "admit b s1 s2 1 1 0 0 0 0\n") ≡ Err (request.Stream 2 rule.BadSizes)
  pub burst : asked (codes "admit b s1 s2 1 1 0 64 64 0\n") ≡ Err (request.Stream 2 rule.BurstBelowFrame)
  pub over : asked (codes "admit b s1 s2 1 1 672 64 64 0\n") ≡ Err (request.Stream 2 rule.Limit)
  pub none : asked (codes "admit b s1 s2 7 1 672 64 64 1\n") ≡ Ok (Withdraw (codes "a")
      ∷ Admit (declared_stream (codes "b") (0 ∷ 2 ∷ 4 ∷ []) (7 ∷ 7 ∷ 7 ∷ []) 1 672 64 64 1 None) ∷ [])

-- each word of such a line is judged before its nodes; numbers are below 10^18
pub record WordsAreFirst : Type 0 where
  pub long : asked (codes "admit b x y 0 0 0 0 0 0 0\n") ≡ Err (request.BadLine 2)
  pub no_name : asked (codes "admit b. x y 0 0 0 0 0 0\n") ≡ Err (request.BadLine 2)
  pub class : asked (codes "admit b x y Lowest 0 0 0 0 0\n") ≡ Err (request.BadLine 2)
  pub rate : asked (codes "admit b x y 0 z 0 0 0 0\n") ≡ Err (request.BadLine 2)
  pub burst : asked (codes "admit b x y 0 0 z 0 0 0\n") ≡ Err (request.BadLine 2)
  pub least : asked (codes "admit b x y 0 0 0 z 0 0\n") ≡ Err (request.BadLine 2)
  pub greatest : asked (codes "admit b x y 0 0 0 0 z 0\n") ≡ Err (request.BadLine 2)
  pub deadline : asked (codes "admit b x y 0 0 0 0 0 z\n") ≡ Err (request.BadLine 2)
  pub most_digits : asked (codes "admit b x y 0 999999999999999999 0 0 0 0\n") ≡ Err (request.UnknownNode 2)
  pub digits : asked (codes "admit b x y 0 1000000000000000000 0 0 0 0\n") ≡ Err (request.BadLine 2)
  pub class_digits : asked (codes "admit b x y 1000000000000000000 0 0 0 0 0\n") ≡ Err (request.BadLine 2)

-- which lines there are: those that begin with `admit` or `withdraw`, and those that ask nothing; an earlier line comes
-- before a later one, whichever their faults are. A file may ask nothing
pub record OtherLinesAreFirst : Type 0 where
  pub no_line : asked [] ≡ Ok (Withdraw (codes "a") ∷ [])
  pub none_asked : requests_of way (codes "# a\n\n") ≡ Ok []
  pub withdraw_long : asked (codes "withdraw a b\n") ≡ Err (request.BadLine 2)
  pub withdraw_short : asked (codes "withdraw\n") ≡ Err (request.BadLine 2)
  pub withdraw_no_name : asked (codes "withdraw a.\n") ≡ Err (request.BadLine 2)
  pub capital : asked (codes "Withdraw a\n") ≡ Err (request.BadLine 2)
  pub other_word : asked (codes "lowest b\n") ≡ Err (request.BadLine 2)
  pub other_of_ten : asked (codes "enter b s1 s2 7 1 672 64 64 1\n") ≡ Err (request.BadLine 2)
  pub longer_word : asked (codes "admits b s1 s2 7 1 672 64 64 1\n") ≡ Err (request.BadLine 2)
  pub withdraw_of_ten : asked (codes "withdraw b s1 s2 7 1 672 64 64 1\n") ≡ Err (request.BadLine 2)
  pub comment_behind_space : asked (codes " # a\n") ≡ Err (request.BadLine 2)
  pub earlier : asked (codes "admit b s1 s1 0 0 0 0 0 0\nadmit\n") ≡ Err (request.NoPath 2)
  pub counted : asked (codes "\n# a\n \nadmit\n") ≡ Err (request.BadLine 5)

-- what is read of these lines behind so many requests
abbrev pub asked_behind : ℕ → List (List ℕ) → Result (List Request) RequestFault
asked_behind count lines = requests_from way (replicate count (Withdraw (codes "a"))) 5 lines

-- at most 10,000 requests are made; one more is told last of its line's faults, and a comment is none
pub record RequestsHaveLimit : Type 0 where
  pub last : asked_behind 9999 (codes "withdraw b" ∷ codes "withdraw" ∷ []) ≡ Err (request.BadLine 6)
  pub over : asked_behind 9999 (codes "withdraw b" ∷ codes "withdraw c" ∷ []) ≡ Err (request.Limit 6)
  pub comment : asked_behind 10000 (codes "# a" ∷ codes "withdraw b" ∷ []) ≡ Err (request.Limit 6)
  pub form : asked_behind 10000 (codes "withdraw" ∷ []) ≡ Err (request.BadLine 5)
  pub rules : asked_behind 10000 (codes "admit b s1 s2 1 1 672 64 64 0" ∷ []) ≡ Err (request.Stream 5 rule.Limit)

pub record RequestsAreFirst : Type 0 where
  pub admit : AdmitLinesAreFirst
  pub words : WordsAreFirst
  pub others : OtherLinesAreFirst
  pub limit : RequestsHaveLimit
