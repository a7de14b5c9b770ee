use Rattle.std.specs.Prelude.{ℕ, ◌==◌, nat_lt, List, length, codes, Option, Some, None, Result, Ok, if◌then◌else◌}
use Rattle.std.specs.Str.{bytes_eq}
use Rattle.ats_num.specs.Failure.{◌>>=◌, or_fault, ok_where}
use Rattle.ats_num.specs.Name.{name_of}
use Rattle.ats_num.specs.Number.{number_of}
use Rattle.ats_words.specs.Words.{word}
use Rattle.ats_request_file.specs.declared.fault.RequestFault.{RequestFault}
use Rattle.ats_request_file.specs.declared.fault.RequestFault.TheVariants.{BadLine}
use Rattle.ats_request_file.specs.declared.line.AdmitWords.{AdmitWords}

-- the word at a place is a name
abbrev pub named : ℕ → List (List ℕ) → ℕ → Result (List ℕ) RequestFault
named n words k = or_fault (BadLine n) (name_of (word words k))

-- the word at a place is a number below 10^18, so one of at most 18 digits
abbrev pub numbered : ℕ → List (List ℕ) → ℕ → Result ℕ RequestFault
numbered n words k = do
  value ← or_fault (BadLine n) (number_of (word words k))
  ok_where (nat_lt value 1000000000000000000) (BadLine n) value

-- the class of an `admit` line: none where it is left open by the word `lowest`, else a number
abbrev pub class_in : ℕ → List (List ℕ) → Result (Option ℕ) RequestFault
class_in n words =
    if bytes_eq (word words 4) (codes "lowest") then Ok None
    else numbered n words 4 >>= λ class. Ok (Some class)

-- the words of a line `admit NAME FROM TO CLASS RATE BURST MIN MAX DEADLINE_NS` give these, whatever the numbers are
abbrev pub admit_in : ℕ → List (List ℕ) → Result AdmitWords RequestFault
admit_in n words = do
  name ← named n words 1
  class ← class_in n words
  rate ← numbered n words 5
  burst ← numbered n words 6
  least ← numbered n words 7
  most ← numbered n words 8
  deadline ← numbered n words 9
  ok_where (length words == 10) (BadLine n) (record {
    name = name;
    class = class;
    rate_bps = rate;
    burst_bits = burst;
    min_octets = least;
    max_octets = most;
    deadline_ns = deadline;
  })
