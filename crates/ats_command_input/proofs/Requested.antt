-- The requests that a text makes may be asked.
use Rattle.std.proofs.Common.{◌≡◌, ℕ, ◌+◌, ◌<◌, Bool, true, false, cond, List, [], ◌∷◌, ◌++◌, length, Option}
use Rattle.std.proofs.Common.{Some, None, Ok, Err, refl, sym, subst, arith, ◌∙◌}
use Rattle.std.specs.Prelude.{◌==◌, nat_lt, codes}
use Rattle.std.specs.List.{All}
use Rattle.std.specs.Option.{option_and_then}
use Rattle.std.proofs.lemmas.Bool.{eqb-false}
use Rattle.std.proofs.lemmas.List.{length-map}
use Rattle.std.proofs.lemmas.List.Elements.{All-nil, All-push}
use Rattle.std.proofs.lemmas.Option.{none-some, same_Some}
use Rattle.std.specs.Str.{bytes_eq}
use Rattle.ats_num.specs.Failure.{◌>>=◌, or_fault, ok_where}
use Rattle.ats_num.specs.Name.{name_of}
use Rattle.ats_num.specs.Places.{place_of}
use Rattle.ats_num.proofs.Numbered.{place_of-lt}
use Rattle.ats_io.specs.Text.{lines_of, words_of}
use Rattle.ats_topology.specs.Node.{is_station, names_of}
use Rattle.ats_topology.specs.Topology.{DeclaredTopology, IsTopology, node_at, if_station, station_named, IsStationAt}
use Rattle.ats_topology.specs.declared.node.Node.{Node}
use Rattle.ats_streams.specs.Stream.{DeclaredStream, classes_for, stream_fault_within}
use Rattle.ats_streams.proofs.OneListener.{alone_branches}
use Rattle.ats_network.specs.Network.{DeclaredNetwork}
use Rattle.ats_network.specs.Path.{IsValidPath}
use Rattle.ats_network.specs.Shortest.{shortest_of}
use Rattle.ats_network.proofs.RouteLemmas.{shortest_least}
use Rattle.ats_network.proofs.TreeLemmas.{alone_tree}
use Rattle.ats_network_file.proofs.SenderLemmas.{stream_faultless, stream_keeps, stream_short}
use Rattle.ats_network_file.proofs.Steps.{Given, Sound, both, ok_where_ok, or_fault_ok, unless_ok}
use Rattle.ats_requests.specs.Requests.{MayAsk, MayEnter}
use Rattle.ats_requests.specs.declared.request.Request.{Request}
use Rattle.ats_requests.specs.declared.request.Request.TheVariants.{Withdraw}
use Rattle.ats_request_file.specs.Reading.{admit_line, asked, asked_in, made_class, path_between, path_in}
use Rattle.ats_request_file.specs.Reading.{request_in, requests_from, requests_of, stream_made}
use Rattle.ats_request_file.specs.Reading.{stream_over, withdraw_line, with_line}
use Rattle.ats_request_file.specs.Words.{admit_in, named}
use Rattle.ats_words.specs.Words.{is_skipped, word}
use Rattle.ats_request_file.specs.declared.fault.RequestFault.TheVariants.{BadLine, UnknownNode, NoPath, Limit}
use Rattle.ats_request_file.specs.declared.fault.RequestFault.TheVariants as faults
use Rattle.ats_request_file.proofs.LeastWalks.{least_valid}

-- one after another: a value came from a value
record From {A B : Type 0} (f : A → Option B) (o : Option A) (y : B) : Type 0 where
  value : A
  is : o ≡ Some value
  gives : f value ≡ Some y

from : {A B : Type 0} (f : A → Option B) (o : Option A) (y : B) → option_and_then f o ≡ Some y → From f o y
from f None y h = absurd (none-some y h)
from f (Some x) y h = record { value = x; is = refl; gives = h }

-- a node that is a station
station_at : (topology : DeclaredTopology) (node n : ℕ) → node < length topology.nodes
    → if_station topology node ≡ Some n → IsStationAt topology n
station_at topology node n within = by (is_station (node_at topology.nodes node).kind) refl
  where
    by : (b : Bool) → is_station (node_at topology.nodes node).kind ≡ b → cond b (Some node) None ≡ Some n
        → IsStationAt topology n
    by true e h =
        let here : IsStationAt topology node =
        record { within = within; station = e } in
        subst (IsStationAt topology) (same_Some node n h) here
    by false e h = absurd (none-some n h)

station_is : (topology : DeclaredTopology) (text : List ℕ) (n : ℕ) → station_named topology text ≡ Some n
    → IsStationAt topology n
station_is topology text n h =
    let found = from (if_station topology)
    (option_and_then (λ name. place_of name (names_of topology.nodes)) (name_of text)) n h in
    let placed = from (λ name. place_of name (names_of topology.nodes)) (name_of text) found.value found.is in
    station_at topology found.value n
    (omega (
      arith,
      place_of-lt placed.value (names_of topology.nodes) found.value placed.gives,
      length-map topology.nodes (λ (node : Node). node.name),
    )) found.gives

-- the path between two stations is valid
between_valid : (topology : DeclaredTopology) (a b : ℕ) (path : List ℕ) → IsTopology topology → IsStationAt topology a
    → IsStationAt topology b → path_between topology a b ≡ Some path → IsValidPath topology path
between_valid topology a b path is begins ends = by (a == b) refl
  where
    by : (t : Bool) → (a == b) ≡ t → cond t None (shortest_of topology a b) ≡ Some path → IsValidPath topology path
    by true e h = absurd (none-some path h)
    by false e h =
        least_valid topology a b path ((shortest_least topology a b is begins.within ends.within).least path h)
        (eqb-false a b e)

path_valid : (topology : DeclaredTopology) (n : ℕ) (words : List (List ℕ)) (path : List ℕ) → IsTopology topology
    → path_in topology n words ≡ Ok path → IsValidPath topology path
path_valid topology n words path is h =
    let begins = both (or_fault (UnknownNode n) (station_named topology (word words 2)))
    (λ a. or_fault (UnknownNode n) (station_named topology (word words 3))
    >>= λ b. or_fault (NoPath n) (path_between topology a b)) path h in
    let ends = both (or_fault (UnknownNode n) (station_named topology (word words 3)))
    (λ b. or_fault (NoPath n) (path_between topology begins.first b)) path begins.then in
    between_valid topology begins.first ends.first path is
    (station_is topology (word words 2) begins.first
    (or_fault_ok (UnknownNode n) (station_named topology (word words 2)) begins.first begins.is))
    (station_is topology (word words 3) ends.first
    (or_fault_ok (UnknownNode n) (station_named topology (word words 3)) ends.first ends.is))
    (or_fault_ok (NoPath n) (path_between topology begins.first ends.first) path ends.then)

-- a stream with one listener over a valid path that breaks no rule and has no identity may be asked for
may_enter : (network : DeclaredNetwork) (given : List ℕ) (stream : DeclaredStream)
    → stream.classes ≡ classes_for (length stream.ports) given → stream.branches ≡ [] → stream.identity ≡ None
    → IsValidPath network.topology stream.ports → stream_fault_within network.most_ports given stream ≡ None
    → MayEnter network stream
may_enter network given stream along alone unidentified valid none = record {
  rules = stream_keeps given stream along (alone_branches stream.ports stream.branches alone)
      (λ pair identified. absurd (none-some pair (sym unidentified ∙ identified)))
      (stream_faultless network.most_ports given stream none);
  tree = alone_tree network.topology stream.ports stream.branches alone valid;
  short = stream_short network.most_ports given stream none;
  one_listener = alone;
  unidentified = unidentified;
}

may_ask : (network : DeclaredNetwork) (class : Option ℕ) (stream : DeclaredStream) → MayEnter network stream
    → MayAsk network (asked class stream)
may_ask network None stream may = may
may_ask network (Some class) stream may = may

admit_may : (network : DeclaredNetwork) (n : ℕ) (words : List (List ℕ)) (request : Request)
    → IsTopology network.topology → admit_line network n words ≡ Ok request → MayAsk network request
admit_may network n words request is h =
    let said = both (admit_in n words)
    (λ said. path_in network.topology n words >>= λ path. stream_made network.most_ports n said (stream_over path said)
    >>= λ stream. Ok (asked said.class stream)) request h in
    let path = both (path_in network.topology n words)
    (λ path. stream_made network.most_ports n said.first (stream_over path said.first)
    >>= λ stream. Ok (asked said.first.class stream)) request said.then in
    let stream : DeclaredStream = stream_over path.first said.first in
    let made = both (stream_made network.most_ports n said.first stream)
    (λ s. Ok (asked said.first.class s)) request path.then in
    let sound : Sound (stream_fault_within network.most_ports (made_class said.first ∷ []) stream) stream made.first =
    unless_ok (faults.Stream n) (stream_fault_within network.most_ports (made_class said.first ∷ []) stream) stream
    made.first made.is in
    let is_asked : asked said.first.class made.first ≡ request = let e = made.then in cc in
    subst (MayAsk network) is_asked
    (may_ask network said.first.class made.first
    (subst (MayEnter network) sound.same
    (may_enter network (made_class said.first ∷ []) stream refl refl refl
    (path_valid network.topology n words path.first is path.is) sound.none)))

withdraw_may : (network : DeclaredNetwork) (n : ℕ) (words : List (List ℕ)) (request : Request)
    → withdraw_line n words ≡ Ok request → MayAsk network request
withdraw_may network n words request h =
    let name = both (named n words 1)
    (λ name. ok_where (length words == 2) (BadLine n) (Withdraw name)) request h in
    let given : Given (length words == 2) (Withdraw name.first) request =
    ok_where_ok (length words == 2) (BadLine n) (Withdraw name.first) request name.then in
    subst (MayAsk network) given.same tt

request_may : (network : DeclaredNetwork) (n : ℕ) (words : List (List ℕ)) (request : Request)
    → IsTopology network.topology → request_in network n words ≡ Ok request → MayAsk network request
request_may network n words request is =
    by (bytes_eq (word words 0) (codes "admit")) (bytes_eq (word words 0) (codes "withdraw"))
  where
    by : (a b : Bool)
        → cond a (admit_line network n words) (cond b (withdraw_line n words) (Err (BadLine n))) ≡ Ok request
        → MayAsk network request
    by true b h = admit_may network n words request is h
    by false true h = withdraw_may network n words request h
    by false false h = cc

-- so may those so far, with the one that a line makes
line_may : (network : DeclaredNetwork) (requests : List Request) (n : ℕ) (line : List ℕ) (more : List Request)
    → IsTopology network.topology → All (MayAsk network) requests → with_line network requests n line ≡ Ok more
    → All (MayAsk network) more
line_may network requests n line more is all = by (is_skipped line)
  where
    by : (b : Bool) → cond b (Ok requests) (asked_in network (length requests) n (words_of line)
        >>= λ request. Ok (requests ++ request ∷ [])) ≡ Ok more → All (MayAsk network) more
    by true h = let same : requests ≡ more = cc in subst (All (MayAsk network)) same all
    by false h =
        let made = both (asked_in network (length requests) n (words_of line))
        (λ request. Ok (requests ++ request ∷ [])) more h in
        let read = both (request_in network n (words_of line))
        (λ request. ok_where (nat_lt (length requests) 10000) (Limit n) request) made.first made.is in
        let given : Given (nat_lt (length requests) 10000) read.first made.first =
        ok_where_ok (nat_lt (length requests) 10000) (Limit n) read.first made.first read.then in
        let same : requests ++ made.first ∷ [] ≡ more = let e = made.then in cc in
        subst (All (MayAsk network)) same
        (All-push (MayAsk network) requests made.first all
        (subst (MayAsk network) given.same
        (request_may network n (words_of line) read.first is read.is)))

from_may : (network : DeclaredNetwork) (before : List Request) (n : ℕ) (lines : List (List ℕ))
    (requests : List Request) → IsTopology network.topology → All (MayAsk network) before
    → requests_from network before n lines ≡ Ok requests → All (MayAsk network) requests
from_may network before n [] requests is all h =
    let same : before ≡ requests = cc in subst (All (MayAsk network)) same all
from_may network before n (line ∷ lines) requests is all h =
    let one = both (with_line network before n line) (λ more. requests_from network more (n + 1) lines) requests h in
    from_may network one.first (n + 1) lines requests is (line_may network before n line one.first is all one.is)
    one.then

pub requests_may : (network : DeclaredNetwork) (text : List ℕ) (requests : List Request)
    → IsTopology network.topology → requests_of network text ≡ Ok requests → All (MayAsk network) requests
requests_may network text requests is h =
    from_may network [] 1 (lines_of text) requests is (All-nil (MayAsk network)) h
