use Rattle.std.specs.Prelude.{◌≡◌, ℕ, ◌==◌, ◌&&◌, nat_le, nat_lt, List, [], ◌∷◌, length, replicate, codes, Option}
use Rattle.std.specs.Prelude.{Some}
use Rattle.std.specs.Prelude.{None, Ok, Err, unwrap_or, if◌then◌else◌}
use Rattle.std.specs.Str.{bytes_eq}
use Rattle.ats_num.specs.Failure.{◌>>=◌, ok_where, or_fault, unless}
use Rattle.ats_num.specs.Name.{name_of}
use Rattle.ats_num.specs.Number.{number_of}
use Rattle.ats_streams.specs.Fault.{rules_fault}
use Rattle.ats_streams.specs.Stream.{DeclaredStream, stream_fault_within}
use Rattle.ats_network.specs.Network.{DeclaredNetwork}
use Rattle.ats_words.specs.Words.{word}
use Rattle.ats_shape.specs.Reading.{frame_in, frame_of, residence_in, ruled, stream_in, stream_of}
use Rattle.ats_shape.specs.declared.fault.ShapeFault.TheVariants as line
use Rattle.ats_requests.specs.declared.request.Request.TheVariants.{Admit, Lowest, Withdraw}
use Rattle.ats_request_file.specs.Reading.{admit_line, asked, asked_in, path_in, request_in, stream_over}
use Rattle.ats_request_file.specs.Reading.{withdraw_line}
use Rattle.ats_request_file.specs.Words.{admit_in, class_in, named, numbered}
use Rattle.ats_request_file.specs.declared.fault.RequestFault.TheVariants as ask

-- What the lines of shape files and request files declare, written out for all words.

-- a line of each kind of a shape file: as many words as it takes, each of its kind and in its place
pub record ShapeLinesAreMeant : Type 0 where
  pub residence : (n : ℕ) (words : List (List ℕ)) → residence_in n words ≡ (do
    ns ← or_fault (line.BadLine n) (number_of (word words 1))
    ok_where (length words == 2 && bytes_eq (word words 0) (codes "residence") && nat_le ns 1000000000)
        (line.BadLine n) ns)
  pub stream : (n : ℕ) (words : List (List ℕ)) → stream_in n words ≡ (do
    name ← or_fault (line.BadLine n) (name_of (word words 1))
    rate ← or_fault (line.BadLine n) (number_of (word words 2))
    burst ← or_fault (line.BadLine n) (number_of (word words 3))
    least ← or_fault (line.BadLine n) (number_of (word words 4))
    most ← or_fault (line.BadLine n) (number_of (word words 5))
    ok_where (length words == 6) (line.BadLine n)
        (record { name = name; rate_bps = rate; burst_bits = burst; min_octets = least; max_octets = most }))
  pub frame : (n : ℕ) (words : List (List ℕ)) → frame_in n words ≡ (do
    at ← or_fault (line.BadLine n) (number_of (word words 1))
    name ← or_fault (line.BadLine n) (name_of (word words 2))
    octets ← or_fault (line.BadLine n) (number_of (word words 3))
    ok_where (length words == 4 && nat_le at 100000000000000000 && nat_le 64 octets && nat_le octets 2000)
        (line.BadLine n) (record { at = at; name = name; octets = octets }))
  pub declared : (name : List ℕ) (rate burst least most : ℕ)
      → stream_of (record {
        name = name;
        rate_bps = rate;
        burst_bits = burst;
        min_octets = least;
        max_octets = most;
      }) ≡ record {
        name = name;
        declared = record { rate = rate; burst_bits = burst; min_octets = least; max_octets = most };
      }
  pub ruled : (n : ℕ) (name : List ℕ) (rate burst least most : ℕ)
      → ruled n (record {
        name = name;
        rate_bps = rate;
        burst_bits = burst;
        min_octets = least;
        max_octets = most;
      }) ≡ unless (line.Stream n) (rules_fault rate burst least most) (record {
        name = name;
        declared = record { rate = rate; burst_bits = burst; min_octets = least; max_octets = most };
      })
  pub arrived : (at octets stream : ℕ) (name : List ℕ)
      → frame_of (record { at = at; name = name; octets = octets }) stream
      ≡ record { at = record { 0 = at }; stream = stream; octets = octets }

-- the words of a line that asks for a stream: a name, a class or `lowest`, and numbers below 10^18
pub record WordsOfRequestsAreMeant : Type 0 where
  pub name : (n : ℕ) (words : List (List ℕ)) (k : ℕ) → named n words k
      ≡ or_fault (ask.BadLine n) (name_of (word words k))
  pub number : (n : ℕ) (words : List (List ℕ)) (k : ℕ) → numbered n words k ≡ (do
    value ← or_fault (ask.BadLine n) (number_of (word words k))
    ok_where (nat_lt value 1000000000000000000) (ask.BadLine n) value)
  pub class : (n : ℕ) (words : List (List ℕ)) → class_in n words
      ≡ (if bytes_eq (word words 4) (codes "lowest") then Ok None
      else numbered n words 4 >>= λ class. Ok (Some class))
  pub admit : (n : ℕ) (words : List (List ℕ)) → admit_in n words ≡ (do
    name ← named n words 1
    class ← class_in n words
    rate ← numbered n words 5
    burst ← numbered n words 6
    least ← numbered n words 7
    most ← numbered n words 8
    deadline ← numbered n words 9
    ok_where (length words == 10) (ask.BadLine n) (record {
      name = name;
      class = class;
      rate_bps = rate;
      burst_bits = burst;
      min_octets = least;
      max_octets = most;
      deadline_ns = deadline;
    }))

-- what a line asks by its first word, and behind so many requests; and the stream that it asks for, whose class is 1
-- where it is left open, at each port of its path
pub record RequestLinesAreMeant : Type 0 where
  pub words : WordsOfRequestsAreMeant
  pub stream : (path name : List ℕ) (class : Option ℕ) (rate burst least most deadline : ℕ)
      → stream_over path (record {
        name = name;
        class = class;
        rate_bps = rate;
        burst_bits = burst;
        min_octets = least;
        max_octets = most;
        deadline_ns = deadline;
      }) ≡ record {
        name = name;
        ports = path;
        branches = [];
        classes = replicate (length path) (unwrap_or class 1);
        rate = rate;
        burst_bits = burst;
        min_octets = least;
        max_octets = most;
        deadline_ns = deadline;
        identity = None;
      }
  pub lowest : (stream : DeclaredStream) → asked None stream ≡ Lowest stream
  pub given : (class : ℕ) (stream : DeclaredStream) → asked (Some class) stream ≡ Admit stream
  pub admit : (network : DeclaredNetwork) (n : ℕ) (words : List (List ℕ)) → admit_line network n words ≡ (do
    said ← admit_in n words
    path ← path_in network.topology n words
    stream ← unless (ask.Stream n) (stream_fault_within network.most_ports (unwrap_or said.class 1 ∷ [])
        (stream_over path said)) (stream_over path said)
    Ok (asked said.class stream))
  pub withdraw : (n : ℕ) (words : List (List ℕ)) → withdraw_line n words ≡ (do
    name ← named n words 1
    ok_where (length words == 2) (ask.BadLine n) (Withdraw name))
  pub verb : (network : DeclaredNetwork) (n : ℕ) (words : List (List ℕ)) → request_in network n words
      ≡ (if bytes_eq (word words 0) (codes "admit") then admit_line network n words
      else if bytes_eq (word words 0) (codes "withdraw") then withdraw_line n words
      else Err (ask.BadLine n))
  pub counted : (network : DeclaredNetwork) (before n : ℕ) (words : List (List ℕ))
      → asked_in network before n words ≡ (do
        request ← request_in network n words
        ok_where (nat_lt before 10000) (ask.Limit n) request)

pub record LinesAreMeant : Type 0 where
  pub shapes : ShapeLinesAreMeant
  pub requests : RequestLinesAreMeant
