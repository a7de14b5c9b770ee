use Rattle.std.specs.Prelude.{ℕ, ◌+◌, ◌==◌, nat_lt, List, [], ◌∷◌, ◌++◌, length, codes, Option, Some, None}
use Rattle.std.specs.Prelude.{Result, Ok, Err, unwrap_or, if◌then◌else◌}
use Rattle.std.specs.Str.{bytes_eq}
use Rattle.ats_num.specs.Failure.{◌>>=◌, or_fault, ok_where, unless}
use Rattle.ats_io.specs.Text.{lines_of, words_of}
use Rattle.ats_topology.specs.Topology.{DeclaredTopology, station_named}
use Rattle.ats_streams.specs.Stream.{DeclaredStream, declared_stream, classes_for, stream_fault_within}
use Rattle.ats_network.specs.Network.{DeclaredNetwork}
use Rattle.ats_network.specs.Shortest.{shortest_of}
use Rattle.ats_requests.specs.declared.request.Request.{Request}
use Rattle.ats_requests.specs.declared.request.Request.TheVariants.{Admit, Lowest, Withdraw}
use Rattle.ats_words.specs.Words.{word, is_skipped}
use Rattle.ats_request_file.specs.Words.{named, admit_in}
use Rattle.ats_request_file.specs.declared.fault.RequestFault.{RequestFault}
use Rattle.ats_request_file.specs.declared.fault.RequestFault.TheVariants.{BadLine, UnknownNode, NoPath, Limit}
use Rattle.ats_request_file.specs.declared.fault.RequestFault.TheVariants as faults
use Rattle.ats_request_file.specs.declared.line.AdmitWords.{AdmitWords}

-- the ports of the least walk from one station to another one
abbrev pub path_between : DeclaredTopology → ℕ → ℕ → Option (List ℕ)
path_between topology from to = if from == to then None else shortest_of topology from to

-- the path between the stations that an `admit` line names
abbrev pub path_in : DeclaredTopology → ℕ → List (List ℕ) → Result (List ℕ) RequestFault
path_in topology n words = do
  from ← or_fault (UnknownNode n) (station_named topology (word words 2))
  to ← or_fault (UnknownNode n) (station_named topology (word words 3))
  or_fault (NoPath n) (path_between topology from to)

-- the class that a stream is made with: 1 where the class is left open
abbrev pub made_class : AdmitWords → ℕ
made_class said = unwrap_or said.class 1

-- the stream that the words of an `admit` line declare over a path: its class is one at each port, it has no address
abbrev pub stream_over : List ℕ → AdmitWords → DeclaredStream
stream_over path said =
    declared_stream said.name path (classes_for (length path) (made_class said ∷ [])) said.rate_bps said.burst_bits
    said.min_octets said.max_octets said.deadline_ns None

-- that stream, or the first rule that it breaks, where a route may have so many ports
abbrev pub stream_made : ℕ → ℕ → AdmitWords → DeclaredStream → Result DeclaredStream RequestFault
stream_made most n said stream =
    unless (faults.Stream n) (stream_fault_within most (made_class said ∷ []) stream) stream

-- what is asked with a stream, with a class or with the class left open
abbrev pub asked : Option ℕ → DeclaredStream → Request
asked None stream = Lowest stream
asked (Some class) stream = Admit stream

-- an `admit` line: its words are judged first, then the ends, the path, and the rules of a stream
abbrev pub admit_line : DeclaredNetwork → ℕ → List (List ℕ) → Result Request RequestFault
admit_line network n words = do
  said ← admit_in n words
  path ← path_in network.topology n words
  stream ← stream_made network.most_ports n said (stream_over path said)
  Ok (asked said.class stream)

-- a line `withdraw NAME`
abbrev pub withdraw_line : ℕ → List (List ℕ) → Result Request RequestFault
withdraw_line n words = do
  name ← named n words 1
  ok_where (length words == 2) (BadLine n) (Withdraw name)

-- what the words of a line ask
abbrev pub request_in : DeclaredNetwork → ℕ → List (List ℕ) → Result Request RequestFault
request_in network n words =
    if bytes_eq (word words 0) (codes "admit") then admit_line network n words
    else if bytes_eq (word words 0) (codes "withdraw") then withdraw_line n words
    else Err (BadLine n)

-- what the words of a line ask after so many requests: at most 10,000 are made
abbrev pub asked_in : DeclaredNetwork → ℕ → ℕ → List (List ℕ) → Result Request RequestFault
asked_in network before n words = do
  request ← request_in network n words
  ok_where (nat_lt before 10000) (Limit n) request

-- the requests with what the line with number n asks after them, if it asks anything
abbrev pub with_line : DeclaredNetwork → List Request → ℕ → List ℕ → Result (List Request) RequestFault
with_line network requests n line =
    if is_skipped line then Ok requests
    else asked_in network (length requests) n (words_of line) >>= λ request. Ok (requests ++ request ∷ [])

-- these requests and those of these lines, the first of which has number n; or the first fault
abbrev pub requests_from : DeclaredNetwork → List Request → ℕ → List (List ℕ) → Result (List Request) RequestFault
requests_from network requests n [] = Ok requests
requests_from network requests n (line ∷ lines) =
    with_line network requests n line >>= λ more. requests_from network more (n + 1) lines

-- the requests that a text makes over a network, or its first fault
abbrev pub requests_of : DeclaredNetwork → List ℕ → Result (List Request) RequestFault
requests_of network text = requests_from network [] 1 (lines_of text)
