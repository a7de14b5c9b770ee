-- Each stream that a text asks for has one class at each of its ports.
use Rattle.std.proofs.Common.{◌≡◌, ℕ, ◌+◌, Bool, true, false, cond, List, [], ◌∷◌, ◌++◌, length, Option, Some, None}
use Rattle.std.proofs.Common.{Ok, Err, refl, subst}
use Rattle.std.specs.Prelude.{◌==◌, nat_lt, codes}
use Rattle.std.specs.List.{All}
use Rattle.std.specs.Str.{bytes_eq}
use Rattle.std.proofs.lemmas.List.Elements.{All-nil, All-push}
use Rattle.ats_num.specs.Failure.{◌>>=◌, ok_where}
use Rattle.ats_io.specs.Text.{lines_of, words_of}
use Rattle.ats_network.specs.Network.{DeclaredNetwork}
use Rattle.ats_streams.specs.Stream.{DeclaredStream, classes_for, declared_stream, stream_fault_within, with_class}
use Rattle.ats_network_file.proofs.Steps.{Given, Sound, both, ok_where_ok, unless_ok}
use Rattle.ats_requests.specs.Requests.{first_class_of}
use Rattle.ats_requests.specs.declared.request.Request.{Request}
use Rattle.ats_requests.specs.declared.request.Request.TheVariants.{Admit, Lowest, Withdraw}
use Rattle.ats_request_file.specs.Reading.{admit_line, asked, asked_in, made_class, path_in, request_in, requests_from}
use Rattle.ats_request_file.specs.Reading.{requests_of, stream_made, stream_over, withdraw_line, with_line}
use Rattle.ats_request_file.specs.Words.{admit_in, named}
use Rattle.ats_words.specs.Words.{is_skipped, word}
use Rattle.ats_request_file.specs.declared.fault.RequestFault.TheVariants.{BadLine, Limit}
use Rattle.ats_request_file.specs.declared.fault.RequestFault.TheVariants as faults

-- a stream has at each port the class that it has at the first
abbrev pub IsOfOneClass : DeclaredStream → Type 0
IsOfOneClass stream = stream ≡ with_class stream (first_class_of stream)

-- so has a stream that is to be admitted with its class
abbrev pub AsksOneClass : Request → Type 0
AsksOneClass (Admit stream) = IsOfOneClass stream
AsksOneClass (Lowest stream) = Unit {0}
AsksOneClass (Withdraw name) = Unit {0}

-- that which a line declares over a path has it
over_one : (name path : List ℕ) (class rate burst least most deadline : ℕ)
    → IsOfOneClass (declared_stream name path (classes_for (length path) (class ∷ [])) rate burst least most deadline
    None)
over_one name [] class rate burst least most deadline = refl
over_one name (port ∷ path) class rate burst least most deadline = refl

asked_one : (class : Option ℕ) (stream : DeclaredStream) → IsOfOneClass stream → AsksOneClass (asked class stream)
asked_one None stream one = tt
asked_one (Some class) stream one = one

made_one : (class : Option ℕ) (stream made : DeclaredStream) (request : Request) → IsOfOneClass stream → stream ≡ made
    → asked class made ≡ request → AsksOneClass request
made_one class stream made request one same is =
    subst AsksOneClass is (asked_one class made (subst IsOfOneClass same one))

admit_one : (network : DeclaredNetwork) (n : ℕ) (words : List (List ℕ)) (request : Request)
    → admit_line network n words ≡ Ok request → AsksOneClass request
admit_one network n words request h =
    let said = both (admit_in n words)
    (λ said. path_in network.topology n words >>= λ path. stream_made network.most_ports n said (stream_over path said)
    >>= λ stream. Ok (asked said.class stream)) request h in
    let path = both (path_in network.topology n words)
    (λ path. stream_made network.most_ports n said.first (stream_over path said.first)
    >>= λ stream. Ok (asked said.first.class stream)) request said.then in
    let stream : DeclaredStream = stream_over path.first said.first in
    let made = both (stream_made network.most_ports n said.first stream)
    (λ s. Ok (asked said.first.class s)) request path.then in
    let sound : Sound (stream_fault_within network.most_ports (made_class said.first ∷ []) stream) stream made.first =
    unless_ok (faults.Stream n) (stream_fault_within network.most_ports (made_class said.first ∷ []) stream) stream
    made.first made.is in
    let is_asked : asked said.first.class made.first ≡ request = let e = made.then in cc in
    made_one said.first.class stream made.first request
    (over_one said.first.name path.first (made_class said.first) said.first.rate_bps said.first.burst_bits
    said.first.min_octets said.first.max_octets said.first.deadline_ns) sound.same is_asked

withdraw_one : (n : ℕ) (words : List (List ℕ)) (request : Request) → withdraw_line n words ≡ Ok request
    → AsksOneClass request
withdraw_one n words request h =
    let name = both (named n words 1)
    (λ name. ok_where (length words == 2) (BadLine n) (Withdraw name)) request h in
    let given : Given (length words == 2) (Withdraw name.first) request =
    ok_where_ok (length words == 2) (BadLine n) (Withdraw name.first) request name.then in
    subst AsksOneClass given.same tt

request_one : (network : DeclaredNetwork) (n : ℕ) (words : List (List ℕ)) (request : Request)
    → request_in network n words ≡ Ok request → AsksOneClass request
request_one network n words request =
    by (bytes_eq (word words 0) (codes "admit")) (bytes_eq (word words 0) (codes "withdraw"))
  where
    by : (a b : Bool)
        → cond a (admit_line network n words) (cond b (withdraw_line n words) (Err (BadLine n))) ≡ Ok request
        → AsksOneClass request
    by true b h = admit_one network n words request h
    by false true h = withdraw_one n words request h
    by false false h = cc

-- so do those so far, with the one that a line makes
line_one : (network : DeclaredNetwork) (requests : List Request) (n : ℕ) (line : List ℕ) (more : List Request)
    → All AsksOneClass requests → with_line network requests n line ≡ Ok more → All AsksOneClass more
line_one network requests n line more all = by (is_skipped line)
  where
    by : (b : Bool) → cond b (Ok requests) (asked_in network (length requests) n (words_of line)
        >>= λ request. Ok (requests ++ request ∷ [])) ≡ Ok more → All AsksOneClass more
    by true h = let same : requests ≡ more = cc in subst (All AsksOneClass) same all
    by false h =
        let made = both (asked_in network (length requests) n (words_of line))
        (λ request. Ok (requests ++ request ∷ [])) more h in
        let read = both (request_in network n (words_of line))
        (λ request. ok_where (nat_lt (length requests) 10000) (Limit n) request) made.first made.is in
        let given : Given (nat_lt (length requests) 10000) read.first made.first =
        ok_where_ok (nat_lt (length requests) 10000) (Limit n) read.first made.first read.then in
        let same : requests ++ made.first ∷ [] ≡ more = let e = made.then in cc in
        subst (All AsksOneClass) same
        (All-push AsksOneClass requests made.first all
        (subst AsksOneClass given.same (request_one network n (words_of line) read.first read.is)))

from_one : (network : DeclaredNetwork) (before : List Request) (n : ℕ) (lines : List (List ℕ))
    (requests : List Request) → All AsksOneClass before → requests_from network before n lines ≡ Ok requests
    → All AsksOneClass requests
from_one network before n [] requests all h =
    let same : before ≡ requests = cc in subst (All AsksOneClass) same all
from_one network before n (line ∷ lines) requests all h =
    let one = both (with_line network before n line) (λ more. requests_from network more (n + 1) lines) requests h in
    from_one network one.first (n + 1) lines requests (line_one network before n line one.first all one.is) one.then

pub requests_one : (network : DeclaredNetwork) (text : List ℕ) (requests : List Request)
    → requests_of network text ≡ Ok requests → All AsksOneClass requests
requests_one network text requests h =
    from_one network [] 1 (lines_of text) requests (All-nil AsksOneClass) h
