use Rattle.std.specs.Prelude.{◌≡◌, ℕ, List, [], ◌∷◌, ◌++◌, codes, None, Ok, Err}
use Rattle.ats_streams.specs.Stream.{declared_stream}
use Rattle.ats_requests.specs.declared.request.Request.{Request}
use Rattle.ats_requests.specs.declared.request.Request.TheVariants.{Admit, Lowest, Withdraw}
use Rattle.ats_request_file.specs.Reading.{requests_of}
use Rattle.ats_request_file.specs.declared.fault.RequestFault.TheVariants.{BadLine, UnknownNode}
use Rattle.ats_text_examples.specs.Worked.{way}

-- The text of a request file over the worked network, and what it asks.

abbrev pub request_file : List ℕ
request_file =
    codes "admit p s1 s2 3 40000001 9002 70 1100 500003\n" ++ codes "# and the other way\n"
    ++ codes "admit q s2 s1 lowest 40000011 9012 71 1101 500013\n" ++ codes "withdraw w\n"

abbrev pub requests : List Request
requests =
    Admit (declared_stream (codes "p") (0 ∷ 2 ∷ 4 ∷ []) (3 ∷ 3 ∷ 3 ∷ []) 40000001 9002 70 1100 500003 None)
    ∷ Lowest (declared_stream (codes "q") (5 ∷ 3 ∷ 1 ∷ []) (1 ∷ 1 ∷ 1 ∷ []) 40000011 9012 71 1101 500013 None)
    ∷ Withdraw (codes "w") ∷ []

-- each word stands in its place. Faults are told by their lines, those with a comment as well
pub record RequestsAreRead : Type 0 where
  pub read : requests_of way request_file ≡ Ok requests
  pub unknown : requests_of way (request_file ++ codes "admit r s1 s3 3 40000021 9022 72 1102 500023\n")
      ≡ Err (UnknownNode 5)
  pub short : requests_of way (request_file ++ codes "admit r s1 s2 3 40000021 9022 72 1102\n")
      ≡ Err (BadLine 5)
