use Rattle.std.specs.Prelude.{◌≡◌, ℕ, ◌+◌, List, [], ◌∷◌, ◌++◌, length, if◌then◌else◌}
use Rattle.ats_num.specs.Failure.{◌>>=◌}
use Rattle.ats_io.specs.Text.{words_of}
use Rattle.ats_words.specs.Words.{is_skipped}
use Rattle.ats_network.specs.Network.{DeclaredNetwork}
use Rattle.ats_requests.specs.declared.request.Request.{Request}
use Rattle.ats_request_file.specs.Reading.{asked_in, requests_from}

-- the requests of further lines, behind those of the lines before, up to the first fault: a line that is passed over
-- asks nothing, and any other is told its number and how many requests are before it
pub record RequestLinesAreRead : Type 0 where
  pub next : (network : DeclaredNetwork) (requests : List Request) (n : ℕ) (line : List ℕ) (lines : List (List ℕ))
      → requests_from network requests n (line ∷ lines)
      ≡ (if is_skipped line then requests_from network requests (n + 1) lines
      else asked_in network (length requests) n (words_of line)
      >>= λ request. requests_from network (requests ++ request ∷ []) (n + 1) lines)
