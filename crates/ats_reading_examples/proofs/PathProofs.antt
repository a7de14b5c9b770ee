-- The path of a request is the least between its stations.
use Rattle.std.proofs.Common.{◌≡◌, ◌≢◌, ◌∙◌, ℕ, ◌+◌, Bool, true, false, not, cond, List, [], ◌∷◌, ◌++◌, length}
use Rattle.std.proofs.Common.{Option, Some, None, Result, Ok, Err, refl, sym, ap, subst, arith, append_assoc}
use Rattle.std.proofs.lemmas.List.{append-nil}
use Rattle.std.specs.Prelude.{◌==◌, nat_lt, codes}
use Rattle.std.specs.List.{AllZip}
use Rattle.std.specs.Str.{bytes_eq}
use Rattle.std.proofs.lemmas.Bool.Decides.{nat_tests}
use Rattle.ats_io.specs.Text.{lines_of, words_of}
use Rattle.ats_num.specs.Failure.{◌>>=◌, or_fault}
use Rattle.ats_topology.specs.Topology.{DeclaredTopology, station_named}
use Rattle.ats_streams.specs.Stream.{DeclaredStream, stream_fault_within}
use Rattle.ats_network.specs.Network.{DeclaredNetwork}
use Rattle.ats_network.specs.Shortest.{shortest_of}
use Rattle.ats_requests.specs.declared.request.Request.{Request}
use Rattle.ats_requests.specs.declared.request.Request.TheVariants.{Withdraw}
use Rattle.ats_words.specs.Words.{is_skipped, word}
use Rattle.ats_request_file.specs.FaultLaw.{asking}
use Rattle.ats_request_file.specs.Reading.{admit_line, asked, asked_in, made_class, path_between, path_in, request_in}
use Rattle.ats_request_file.specs.Reading.{requests_from, stream_made, stream_over, withdraw_line}
use Rattle.ats_request_file.specs.Words.{admit_in, named}
use Rattle.ats_request_file.specs.declared.fault.RequestFault.{RequestFault}
use Rattle.ats_request_file.specs.declared.fault.RequestFault.TheVariants.{BadLine, Limit, NoPath, UnknownNode}
use Rattle.ats_request_file.specs.declared.fault.RequestFault.TheVariants as faults
use Rattle.ats_reading_examples.specs.Paths.{HasLeastPath, IsLeastBetween, RequestsGoLeastWays}
use Rattle.ats_reading_examples.proofs.Steps.{both, given, kept, passed}

-- the path between two stations, where both are there
abbrev between : DeclaredTopology → ℕ → Option ℕ → Option ℕ → Result (List ℕ) RequestFault
between topology n from to =
    or_fault (UnknownNode n) from >>= λ a. or_fault (UnknownNode n) to
    >>= λ b. or_fault (NoPath n) (path_between topology a b)

-- what such a path is
record IsBetween (topology : DeclaredTopology) (from to : Option ℕ) (path : List ℕ) : Type 0 where
  first : ℕ
  last : ℕ
  begins : from ≡ Some first
  ends : to ≡ Some last
  apart : first ≢ last
  least : shortest_of topology first last ≡ Some path

differ : (a b : ℕ) → (a == b) ≡ false → a ≢ b
differ a b h = λ same. grind (arith, nat_tests, same, h)

found : (topology : DeclaredTopology) (n : ℕ) (from to : Option ℕ) (path : List ℕ)
    → between topology n from to ≡ Ok path → IsBetween topology from to path
found topology n None to path h = cc h
found topology n (Some a) None path h = cc h
found topology n (Some a) (Some b) path h = by (a == b) refl h
  where
    by : (same : Bool) → (a == b) ≡ same
        → or_fault (NoPath n) (let o : Option (List ℕ) = cond same None (shortest_of topology a b) in o) ≡ Ok path
        → IsBetween topology (Some a) (Some b) path
    by true e h = cc h
    by false e h = record {
      first = a;
      last = b;
      begins = refl;
      ends = refl;
      apart = differ a b e;
      least = given (NoPath n) (shortest_of topology a b) path h;
    }

unequal : (a b : ℕ) → a ≢ b → (a == b) ≡ false
unequal a b h = grind (arith, nat_tests, h)

goes : (topology : DeclaredTopology) (n : ℕ) (from to : Option ℕ) (path : List ℕ)
    → IsBetween topology from to path → between topology n from to ≡ Ok path
goes topology n from to path h =
    ap (λ (o : Option ℕ). between topology n o to) h.begins
    ∙ ap (λ (o : Option ℕ). between topology n (Some h.first) o) h.ends
    ∙ ap (λ (same : Bool). or_fault (NoPath n)
    (let o : Option (List ℕ) = cond same None (shortest_of topology h.first h.last) in o))
    (unequal h.first h.last h.apart)
    ∙ ap (λ (o : Option (List ℕ)). or_fault (NoPath n) o) h.least

least_found : (topology : DeclaredTopology) (n : ℕ) (words : List (List ℕ)) (path : List ℕ)
    → path_in topology n words ≡ Ok path → IsLeastBetween topology (word words 2) (word words 3) path
least_found topology n words path h =
    let is = found topology n (station_named topology (word words 2)) (station_named topology (word words 3)) path h in
    record {
      first = is.first;
      last = is.last;
      begins = is.begins;
      ends = is.ends;
      apart = is.apart;
      least = is.least;
    }

least_goes : (topology : DeclaredTopology) (n : ℕ) (words : List (List ℕ)) (path : List ℕ)
    → IsLeastBetween topology (word words 2) (word words 3) path → path_in topology n words ≡ Ok path
least_goes topology n words path is =
    goes topology n (station_named topology (word words 2)) (station_named topology (word words 3)) path (record {
      first = is.first;
      last = is.last;
      begins = is.begins;
      ends = is.ends;
      apart = is.apart;
      least = is.least;
    })

-- what is asked with a stream that has its least path
asked_least : (topology : DeclaredTopology) (line : List ℕ) (class : Option ℕ) (stream : DeclaredStream)
    → IsLeastBetween topology (word (words_of line) 2) (word (words_of line) 3) stream.ports
    → HasLeastPath topology line (asked class stream)
asked_least topology line None stream is = is
asked_least topology line (Some class) stream is = is

admit_least : (network : DeclaredNetwork) (n : ℕ) (line : List ℕ) (request : Request)
    → admit_line network n (words_of line) ≡ Ok request → HasLeastPath network.topology line request
admit_least network n line request h =
    let words : List (List ℕ) = words_of line in
    let said = both (admit_in n words) _ request h in
    let path = both (path_in network.topology n words) _ request said.then in
    let stream = both (stream_made network.most_ports n said.first (stream_over path.first said.first)) _ request
    path.then in
    let over : stream_over path.first said.first ≡ stream.first =
    kept (faults.Stream n)
    (stream_fault_within network.most_ports (made_class said.first ∷ []) (stream_over path.first said.first))
    (stream_over path.first said.first) stream.first stream.is in
    let asks : asked said.first.class stream.first ≡ request = cc (stream.then) in
    subst (λ (r : Request). HasLeastPath network.topology line r) asks
    (asked_least network.topology line said.first.class stream.first
    (subst (λ (s : DeclaredStream). IsLeastBetween network.topology (word words 2) (word words 3) s.ports) over
    (least_found network.topology n words path.first path.is)))

withdraw_least : (topology : DeclaredTopology) (n : ℕ) (line : List ℕ) (request : Request)
    → withdraw_line n (words_of line) ≡ Ok request → HasLeastPath topology line request
withdraw_least topology n line request h =
    let words : List (List ℕ) = words_of line in
    let name = both (named n words 1) _ request h in
    let asks : Withdraw name.first ≡ request =
    passed (length words == 2) (BadLine n) (Withdraw name.first) request name.then in
    subst (λ (r : Request). HasLeastPath topology line r) asks tt

-- what a line asks
request_least : (network : DeclaredNetwork) (n : ℕ) (line : List ℕ) (request : Request)
    → request_in network n (words_of line) ≡ Ok request → HasLeastPath network.topology line request
request_least network n line request h =
    by (bytes_eq (word (words_of line) 0) (codes "admit")) (bytes_eq (word (words_of line) 0) (codes "withdraw")) h
  where
    by : (admits withdraws : Bool)
        → cond admits (admit_line network n (words_of line))
        (cond withdraws (withdraw_line n (words_of line)) (Err (BadLine n))) ≡ Ok request
        → HasLeastPath network.topology line request
    by true withdraws h = admit_least network n line request h
    by false true h = withdraw_least network.topology n line request h
    by false false h = cc h

asked_in_least : (network : DeclaredNetwork) (before n : ℕ) (line : List ℕ) (request : Request)
    → asked_in network before n (words_of line) ≡ Ok request → HasLeastPath network.topology line request
asked_in_least network before n line request h =
    let one = both (request_in network n (words_of line)) _ request h in
    let same : one.first ≡ request = passed (nat_lt before 10000) (Limit n) one.first request one.then in
    subst (λ (r : Request). HasLeastPath network.topology line r) same (request_least network n line one.first one.is)

-- lines make further requests, one for each that asks something
record AreBehind (network : DeclaredNetwork) (requests : List Request) (lines : List (List ℕ)) (all : List Request)
    : Type 0 where
  more : List Request
  joined : all ≡ requests ++ more
  each : AllZip (HasLeastPath network.topology) (asking lines) more

-- by the answer on the first of them
line_behind : (network : DeclaredNetwork) (requests : List Request) (n : ℕ) (line : List ℕ) (lines : List (List ℕ))
    (all : List Request) (skipped : Bool) → is_skipped line ≡ skipped
    → (r : Result Request RequestFault) → asked_in network (length requests) n (words_of line) ≡ r
    → ((before : List Request) → requests_from network before (n + 1) lines ≡ Ok all
    → AreBehind network before lines all)
    → ((cond skipped (Ok requests) (r >>= λ request. Ok (requests ++ request ∷ [])))
    >>= λ more. requests_from network more (n + 1) lines) ≡ Ok all
    → AreBehind network requests (line ∷ lines) all
line_behind network requests n line lines all true skip r is next h =
    let rest = next requests h in
    record {
      more = rest.more;
      joined = rest.joined;
      each = subst (λ (b : Bool). AllZip (HasLeastPath network.topology)
          (let ls : List (List ℕ) = cond (not b) (line ∷ asking lines) (asking lines) in ls) rest.more) (sym skip)
          rest.each;
    }
line_behind network requests n line lines all false asks (Err fault) is next h = cc h
line_behind network requests n line lines all false asks (Ok request) is next h =
    let rest = next (requests ++ request ∷ []) h in
    record {
      more = request ∷ rest.more;
      joined = rest.joined ∙ append_assoc requests (request ∷ []) rest.more;
      each = subst (λ (b : Bool). AllZip (HasLeastPath network.topology)
          (let ls : List (List ℕ) = cond (not b) (line ∷ asking lines) (asking lines) in ls) (request ∷ rest.more))
          (sym asks) (asked_in_least network (length requests) n line request is, rest.each);
    }

behind : (network : DeclaredNetwork) (requests : List Request) (n : ℕ) (lines : List (List ℕ)) (all : List Request)
    → requests_from network requests n lines ≡ Ok all → AreBehind network requests lines all
behind network requests n [] all h =
    let same : requests ≡ all = cc h in
    record { more = []; joined = sym same ∙ sym (append-nil requests); each = tt }
behind network requests n (line ∷ lines) all h =
    line_behind network requests n line lines all (is_skipped line) refl
    (asked_in network (length requests) n (words_of line)) refl
    (λ before known. behind network before (n + 1) lines all known) h

pub requests_go_least_ways : RequestsGoLeastWays
requests_go_least_ways = record {
  path = λ topology n words path. (least_found topology n words path, least_goes topology n words path);
  each = λ network text requests h.
      let all = behind network [] 1 (lines_of text) requests h in
      subst (λ (rs : List Request). AllZip (HasLeastPath network.topology) (asking (lines_of text)) rs) (sym all.joined)
      all.each;
}
