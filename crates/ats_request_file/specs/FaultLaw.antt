use Rattle.std.specs.Prelude.{◌≡◌, ◌↔◌, ℕ, ◌+◌, false, not, List, ◌∷◌, ◌++◌, length, filter, Ok, Err}
use Rattle.ats_io.specs.Text.{lines_of, words_of}
use Rattle.ats_network.specs.Network.{DeclaredNetwork}
use Rattle.ats_requests.specs.declared.request.Request.{Request}
use Rattle.ats_words.specs.Words.{is_skipped}
use Rattle.ats_request_file.specs.Reading.{asked_in, requests_of}
use Rattle.ats_request_file.specs.declared.fault.RequestFault.{RequestFault}

-- the lines that ask something, in order
abbrev pub asking : List (List ℕ) → List (List ℕ)
asking lines = filter (λ line. not (is_skipped line)) lines

-- the line behind these lines asks something, and its words have this fault, as the words of a line with its number
-- behind so many that ask something
pub record HasFault (network : DeclaredNetwork) (before : List (List ℕ)) (line : List ℕ) (fault : RequestFault)
    : Type 0 where
  pub counts : is_skipped line ≡ false
  pub found : asked_in network (length (asking before)) (length before + 1) (words_of line) ≡ Err fault

-- no line has a fault behind those before it
abbrev pub AreFaultless : DeclaredNetwork → List (List ℕ) → Type 0
AreFaultless network lines = (before : List (List ℕ)) (line : List ℕ) (after : List (List ℕ)) (fault : RequestFault)
    → before ++ line ∷ after ≡ lines → HasFault network before line fault → ⊥

-- a line has this fault, and no line before it has any
pub record IsFirstFault (network : DeclaredNetwork) (lines : List (List ℕ)) (fault : RequestFault) : Type 0 where
  pub before : List (List ℕ)
  pub line : List ℕ
  pub after : List (List ℕ)
  pub cut : before ++ line ∷ after ≡ lines
  pub faultless : AreFaultless network before
  pub found : HasFault network before line fault

-- no line is at fault, and there is a request for each line that asks something
pub record AreRead (network : DeclaredNetwork) (lines : List (List ℕ)) (requests : List Request) : Type 0 where
  pub faultless : AreFaultless network lines
  pub many : length requests ≡ length (asking lines)

-- a text gives a fault exactly where this is its first one
abbrev pub EachFaultIsTheFirst : Type 0
EachFaultIsTheFirst = (network : DeclaredNetwork) (text : List ℕ) (fault : RequestFault)
    → requests_of network text ≡ Err fault ↔ IsFirstFault network (lines_of text) fault

-- a text that makes requests has no fault
abbrev pub EachRequestIsRead : Type 0
EachRequestIsRead = (network : DeclaredNetwork) (text : List ℕ) (requests : List Request)
    → requests_of network text ≡ Ok requests → AreRead network (lines_of text) requests
