use Rattle.std.proofs.Common.{◌≡◌, Bool, true, false, cond, ◌+◌, [], ◌∷◌, ◌++◌, length, Result, Ok, Err, refl}
use Rattle.ats_num.specs.Failure.{◌>>=◌}
use Rattle.ats_io.specs.Text.{words_of}
use Rattle.ats_words.specs.Words.{is_skipped}
use Rattle.ats_request_file.specs.Reading.{asked_in, requests_from}
use Rattle.ats_plain_file_law.specs.Asked.{RequestLinesAreRead}

-- The requests of further lines.

-- a line that is passed over, or gives a request or a fault
each_way : {A B D F : Type 0} (skips : Bool) (before : A) (asked : Result B F) (with : B → A) (k : A → Result D F)
    → (cond skips (Ok before) (asked >>= λ request. Ok (with request)) >>= k)
    ≡ cond skips (k before) (asked >>= λ request. k (with request))
each_way true before asked with k = refl
each_way false before (Ok request) with k = refl
each_way false before (Err e) with k = refl

pub request_lines_are_read : RequestLinesAreRead
request_lines_are_read = record {
  next = λ network requests n line lines.
      each_way (is_skipped line) requests (asked_in network (length requests) n (words_of line))
      (λ request. requests ++ request ∷ []) (λ more. requests_from network more (n + 1) lines);
}
