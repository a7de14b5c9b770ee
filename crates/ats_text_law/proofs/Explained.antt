-- What is printed of an explanation tells each stream's margin and each hop's parts.
use Rattle.std.proofs.Common.{◌≡◌, ◌∙◌, ℕ, zero, suc, List, [], ◌∷◌, ◌++◌, length, Some, sym, ap, arith, append_assoc}
use Rattle.std.proofs.Common.{subst}
use Rattle.std.specs.Prelude.{All, map, slice_get}
use Rattle.std.specs.List.{enumerate_from, flat_map}
use Rattle.std.proofs.lemmas.List.Elements.{All-cons, All-head, All-nil, All-tail}
use Rattle.ats_topology.specs.Topology.{DeclaredTopology}
use Rattle.ats_streams.specs.Branches.{legs_of, routes_of}
use Rattle.ats_streams.specs.Stream.{DeclaredStream}
use Rattle.ats_streams.specs.declared.branch.Branch.{Branch}
use Rattle.ats_network.specs.Listeners.{Listener, listeners_by, listeners_of}
use Rattle.ats_network.specs.Network.{DeclaredNetwork}
use Rattle.ats_explain.specs.Margins.{margin_on}
use Rattle.ats_explain.specs.Parts.{parts_of_hop}
use Rattle.ats_explain.specs.Totals.{totals_of}
use Rattle.ats_explain.specs.declared.margin.Margin.{Margin}
use Rattle.ats_explain_text.specs.Text.{explain_text, hop_line, hop_text, listener_lines, port_text, stream_line}
use Rattle.ats_explain_text.specs.Text.{stream_text, totals_line}
use Rattle.ats_text_law.specs.Explained.{ExplainedTheSame, ExplainTellsAll, HasShortLeg, HopTheSame, IsExplainable}
use Rattle.ats_text_law.specs.Explained.{IsShortHop, LegTheSame, class_of}
use Rattle.ats_text_law.proofs.Parts.{cut_hops, cut_margins}

module _ (network other : DeclaredNetwork) (over : network.topology ≡ other.topology) where
  -- hops of two streams, and what stands behind their lines
  record AllHops (stream twin : DeclaredStream) (path : List ℕ) (b y : List ℕ) : Type 0 where
    hops : All (HopTheSame network other stream twin) path
    rest : b ≡ y

  more_hops : (n : DeclaredNetwork) (s : DeclaredStream) (port : ℕ) (path : List ℕ) (b : List ℕ)
      → flat_map (hop_text n s) (port ∷ path) ++ b ≡ hop_text n s port ++ (flat_map (hop_text n s) path ++ b)
  more_hops n s port path b = append_assoc (hop_text n s port) (flat_map (hop_text n s) path) b

  cut_path : (stream twin : DeclaredStream) (path : List ℕ) (b y : List ℕ) → All (IsShortHop network stream) path
      → All (IsShortHop other twin) path
      → flat_map (hop_text network stream) path ++ b ≡ flat_map (hop_text other twin) path ++ y
      → AllHops stream twin path b y
  cut_path stream twin [] b y short brief same =
      record { hops = All-nil (HopTheSame network other stream twin); rest = same }
  cut_path stream twin (port ∷ path) b y short brief same =
      let one = All-head (IsShortHop network stream) port path short in
      let two = All-head (IsShortHop other twin) port path brief in
      let behind = flat_map (hop_text network stream) path ++ b in
      let beyond = flat_map (hop_text other twin) path ++ y in
      let here : hop_line network.topology port (class_of stream port) (parts_of_hop network stream port) ++ behind
      ≡ hop_line network.topology port (class_of twin port) (parts_of_hop other twin port) ++ beyond =
      sym (more_hops network stream port path b) ∙ same ∙ more_hops other twin port path y
      ∙ ap (λ (t : DeclaredTopology). hop_line t port (class_of twin port) (parts_of_hop other twin port) ++ beyond)
      (sym over) in
      let line = cut_hops network.topology port (class_of stream port) (class_of twin port)
      (parts_of_hop network stream port) (parts_of_hop other twin port) behind beyond one.class two.class one.parts
      two.parts here in
      let more = cut_path stream twin path b y (All-tail (IsShortHop network stream) port path short)
      (All-tail (IsShortHop other twin) port path brief) line.rest in
      record {
        hops = All-cons (HopTheSame network other stream twin) port path
            (record { class = line.class_is; parts = line.parts_are }) more.hops;
        rest = more.rest;
      }

  listener_parts : (n : DeclaredNetwork) (s : DeclaredStream) (l : Listener) (b : List ℕ) → listener_lines n s l ++ b
      ≡ stream_line s.name l.name (margin_on n s l.route) ++ (flat_map (hop_text n s) l.leg ++ b)
  listener_parts n s l b =
      append_assoc (stream_line s.name l.name (margin_on n s l.route)) (flat_map (hop_text n s) l.leg) b

  -- two streams for a listener of both, and what stands behind its lines
  record AreListeners (stream twin : DeclaredStream) (l : Listener) (b y : List ℕ) : Type 0 where
    told : LegTheSame network other stream twin l
    rest : b ≡ y

  cut_listener : (stream twin : DeclaredStream) (l : Listener) (b y : List ℕ) → stream.name ≡ twin.name
      → HasShortLeg network stream l → HasShortLeg other twin l
      → listener_lines network stream l ++ b ≡ listener_lines other twin l ++ y → AreListeners stream twin l b y
  cut_listener stream twin l b y named short brief same =
      let one : Margin = margin_on network stream l.route in
      let two : Margin = margin_on other twin l.route in
      let here : stream_line stream.name l.name one ++ (flat_map (hop_text network stream) l.leg ++ b)
      ≡ stream_line stream.name l.name two ++ (flat_map (hop_text other twin) l.leg ++ y) =
      sym (listener_parts network stream l b) ∙ same ∙ listener_parts other twin l y
      ∙ ap (λ n. stream_line n l.name two ++ (flat_map (hop_text other twin) l.leg ++ y)) (sym named) in
      let margins = cut_margins stream.name l.name one two (flat_map (hop_text network stream) l.leg ++ b)
      (flat_map (hop_text other twin) l.leg ++ y) short.sum brief.sum short.deadline brief.deadline here in
      let hops = cut_path stream twin l.leg b y short.hops brief.hops margins.rest in
      record { told = record { margin = margins.margin_is; hops = hops.hops }; rest = hops.rest }

  more_listeners : (n : DeclaredNetwork) (s : DeclaredStream) (l : Listener) (listeners : List Listener) (b : List ℕ)
      → flat_map (listener_lines n s) (l ∷ listeners) ++ b
      ≡ listener_lines n s l ++ (flat_map (listener_lines n s) listeners ++ b)
  more_listeners n s l listeners b = append_assoc (listener_lines n s l) (flat_map (listener_lines n s) listeners) b

  -- for each of some listeners
  record AllListeners (stream twin : DeclaredStream) (listeners : List Listener) (b y : List ℕ) : Type 0 where
    told : All (LegTheSame network other stream twin) listeners
    rest : b ≡ y

  cut_listeners : (stream twin : DeclaredStream) (listeners : List Listener) (b y : List ℕ) → stream.name ≡ twin.name
      → All (HasShortLeg network stream) listeners → All (HasShortLeg other twin) listeners
      → flat_map (listener_lines network stream) listeners ++ b ≡ flat_map (listener_lines other twin) listeners ++ y
      → AllListeners stream twin listeners b y
  cut_listeners stream twin [] b y named short brief same =
      record { told = All-nil (LegTheSame network other stream twin); rest = same }
  cut_listeners stream twin (l ∷ listeners) b y named short brief same =
      let one = cut_listener stream twin l (flat_map (listener_lines network stream) listeners ++ b)
      (flat_map (listener_lines other twin) listeners ++ y) named
      (All-head (HasShortLeg network stream) l listeners short) (All-head (HasShortLeg other twin) l listeners brief)
      (sym (more_listeners network stream l listeners b) ∙ same ∙ more_listeners other twin l listeners y) in
      let more = cut_listeners stream twin listeners b y named (All-tail (HasShortLeg network stream) l listeners short)
      (All-tail (HasShortLeg other twin) l listeners brief) one.rest in
      record { told = All-cons (LegTheSame network other stream twin) l listeners one.told more.told; rest = more.rest }

  -- streams with the same ports and branches have the same listeners
  same_listeners : (stream twin : DeclaredStream) → stream.ports ≡ twin.ports → stream.branches ≡ twin.branches
      → listeners_of network.topology stream ≡ listeners_of other.topology twin
  same_listeners stream twin along off =
      ap (λ (t : DeclaredTopology). listeners_of t stream) over
      ∙ ap (λ (p : List ℕ). listeners_by other.topology (legs_of p stream.branches) (routes_of p stream.branches)) along
      ∙ ap (λ (b : List Branch). listeners_by other.topology (legs_of twin.ports b) (routes_of twin.ports b)) off

  -- two streams and what stands behind their lines
  record AreStreams (stream twin : DeclaredStream) (b y : List ℕ) : Type 0 where
    told : ExplainedTheSame network other stream twin
    rest : b ≡ y

  cut_stream : (stream twin : DeclaredStream) (b y : List ℕ) → stream.name ≡ twin.name → stream.ports ≡ twin.ports
      → stream.branches ≡ twin.branches → IsExplainable network stream → IsExplainable other twin
      → stream_text network stream ++ b ≡ stream_text other twin ++ y → AreStreams stream twin b y
  cut_stream stream twin b y named along off short brief same =
      let listeners : List Listener = listeners_of network.topology stream in
      let as_there : listeners_of other.topology twin ≡ listeners = sym (same_listeners stream twin along off) in
      let all = cut_listeners stream twin listeners b y named short
      (subst (λ (l : List Listener). All (HasShortLeg other twin) l) as_there brief)
      (same ∙ ap (λ (l : List Listener). flat_map (listener_lines other twin) l ++ y) as_there) in
      record { told = all.told; rest = all.rest }

  more_streams : (n : DeclaredNetwork) (s : DeclaredStream) (streams : List DeclaredStream) (b : List ℕ)
      → flat_map (stream_text n) (s ∷ streams) ++ b ≡ stream_text n s ++ (flat_map (stream_text n) streams ++ b)
  more_streams n s streams b = append_assoc (stream_text n s) (flat_map (stream_text n) streams) b

  abbrev names : List DeclaredStream → List (List ℕ)
  names streams = map (λ (s : DeclaredStream). s.name) streams

  abbrev paths : List DeclaredStream → List (List ℕ)
  paths streams = map (λ (s : DeclaredStream). s.ports) streams

  abbrev forks : List DeclaredStream → List (List Branch)
  forks streams = map (λ (s : DeclaredStream). s.branches) streams

  cut_streams : (streams twins : List DeclaredStream) (b y : List ℕ) → names streams ≡ names twins
      → paths streams ≡ paths twins → forks streams ≡ forks twins → All (IsExplainable network) streams
      → All (IsExplainable other) twins
      → flat_map (stream_text network) streams ++ b ≡ flat_map (stream_text other) twins ++ y
      → (i : ℕ) (stream twin : DeclaredStream) → slice_get streams i ≡ Some stream → slice_get twins i ≡ Some twin
      → ExplainedTheSame network other stream twin
  cut_streams [] twins b y named along off short brief same i stream twin at on = absurd (none_at i stream at)
    where
      none_at : (i : ℕ) (stream : DeclaredStream) → slice_get {X = DeclaredStream} [] i ≡ Some stream → ⊥
      none_at i stream at = cc at
  cut_streams (s ∷ streams) [] b y named along off short brief same i stream twin at on =
      absurd (omega (arith, ap length named))
  cut_streams (s ∷ streams) (t ∷ twins) b y named along off short brief same i stream twin at on =
      let line = cut_stream s t (flat_map (stream_text network) streams ++ b) (flat_map (stream_text other) twins ++ y)
      (cc named) (cc along) (cc off) (All-head (IsExplainable network) s streams short)
      (All-head (IsExplainable other) t twins brief)
      (sym (more_streams network s streams b) ∙ same ∙ more_streams other t twins y) in
      by i at on line.told (λ j here there. cut_streams streams twins b y (cc named) (cc along) (cc off)
      (All-tail (IsExplainable network) s streams short) (All-tail (IsExplainable other) t twins brief) line.rest j
      stream twin here there)
    where
      by : (i : ℕ) → slice_get (s ∷ streams) i ≡ Some stream → slice_get (t ∷ twins) i ≡ Some twin
          → ExplainedTheSame network other s t
          → ((j : ℕ) → slice_get streams j ≡ Some stream → slice_get twins j ≡ Some twin
          → ExplainedTheSame network other stream twin) → ExplainedTheSame network other stream twin
      by zero at on told further =
          let one : s ≡ stream = cc at in
          let two : t ≡ twin = cc on in
          subst (λ (x : DeclaredStream). ExplainedTheSame network other x twin) one
          (subst (λ (x : DeclaredStream). ExplainedTheSame network other s x) two told)
      by (suc j) at on told further = further j at on

-- what stands behind the lines of the streams
behind_streams : DeclaredNetwork → List ℕ
behind_streams n = flat_map (port_text n) (enumerate_from 0 n.topology.ports) ++ totals_line (totals_of n)

explain_parts : (n : DeclaredNetwork) → explain_text n ≡ flat_map (stream_text n) n.streams ++ behind_streams n
unfolding explain_text behind_streams
explain_parts n =
    append_assoc (flat_map (stream_text n) n.streams) (flat_map (port_text n) (enumerate_from 0 n.topology.ports))
    (totals_line (totals_of n))

pub explain_tells_all : ExplainTellsAll
explain_tells_all network other alike short brief same =
    cut_streams network other alike.topology network.streams other.streams (behind_streams network)
    (behind_streams other) alike.names alike.paths alike.branches short brief
    (sym (explain_parts network) ∙ same ∙ explain_parts other)
