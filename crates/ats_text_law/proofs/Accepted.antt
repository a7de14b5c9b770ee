-- What is printed of an accepted certificate tells the bounds of each stream.
use Rattle.std.proofs.Common.{◌≡◌, ◌∙◌, ℕ, List, [], ◌∷◌, ◌++◌, refl, sym, append_assoc}
use Rattle.std.specs.Prelude.{codes, decimal, All, length}
use Rattle.std.specs.List.{flat_map}
use Rattle.std.proofs.lemmas.List.{append_cancel_left}
use Rattle.std.proofs.lemmas.List.Elements.{All-cons, All-head, All-nil, All-tail}
use Rattle.ats_topology.specs.Topology.{DeclaredTopology}
use Rattle.ats_streams.specs.Stream.{DeclaredStream}
use Rattle.ats_port_names.specs.PortName.{port_name}
use Rattle.ats_network.specs.Listeners.{Listener, listener_text, listeners_of}
use Rattle.ats_network.specs.Sender.{stream_sender}
use Rattle.ats_certificate.specs.Certificate.{bound_of_hop, bound_on}
use Rattle.ats_certificate.specs.declared.row.Row.{Row}
use Rattle.ats_verdict_text.specs.Text.{accepted_text, hop_line, listener_lines, stream_lines}
use Rattle.ats_text_law.specs.Short.{HasShortBounds, HasShortLines, IsShort}
use Rattle.ats_text_law.specs.Laws.{AcceptedTellsAll, BoundTheSame, LinesTheSame}
use Rattle.ats_text_law.proofs.Words.{cut_numbers}

module _ (topology : DeclaredTopology) (rows others : List Row) where
  -- the bound of a stream at a port
  abbrev bound_by : List Row → DeclaredStream → ℕ → ℕ
  bound_by given s port = bound_of_hop given (stream_sender s) port

  hop_parts : (given : List Row) (s : DeclaredStream) (port : ℕ) (b : List ℕ) → hop_line topology given s port ++ b
      ≡ (codes "hop " ++ s.name ++ codes " " ++ port_name topology port ++ codes " ")
      ++ (decimal (bound_by given s port) ++ 10 ∷ b)
  unfolding hop_line
  hop_parts given s port b =
      let front : List ℕ = codes "hop " ++ s.name ++ codes " " ++ port_name topology port ++ codes " " in
      append_assoc (front ++ decimal (bound_by given s port)) (codes "\n") b
      ∙ append_assoc front (decimal (bound_by given s port)) (codes "\n" ++ b)

  -- the bounds along what is left of a path, and what stands behind their lines
  record AreBounds (s : DeclaredStream) (path : List ℕ) (b y : List ℕ) : Type 0 where
    bounds : All (λ port. bound_by rows s port ≡ bound_by others s port) path
    rest : b ≡ y

  more_parts : (given : List Row) (s : DeclaredStream) (port : ℕ) (path : List ℕ) (b : List ℕ)
      → flat_map (hop_line topology given s) (port ∷ path) ++ b
      ≡ hop_line topology given s port ++ (flat_map (hop_line topology given s) path ++ b)
  more_parts given s port path b = simp append_assoc refl

  cut_hops : (s : DeclaredStream) (path : List ℕ) (b y : List ℕ)
      → All (λ port. IsShort (bound_by rows s port)) path → All (λ port. IsShort (bound_by others s port)) path
      → flat_map (hop_line topology rows s) path ++ b ≡ flat_map (hop_line topology others s) path ++ y
      → AreBounds s path b y
  cut_hops s [] b y short brief same =
      record { bounds = All-nil (λ port. bound_by rows s port ≡ bound_by others s port); rest = same }
  cut_hops s (port ∷ path) b y short brief same =
      let line = cut_numbers (bound_by rows s port) (bound_by others s port)
      (10 ∷ (flat_map (hop_line topology rows s) path ++ b)) (10 ∷ (flat_map (hop_line topology others s) path ++ y))
      (All-head (λ p. IsShort (bound_by rows s p)) port path short)
      (All-head (λ p. IsShort (bound_by others s p)) port path brief) refl refl
      (append_cancel_left (codes "hop " ++ s.name ++ codes " " ++ port_name topology port ++ codes " ") _ _
      (sym (hop_parts rows s port (flat_map (hop_line topology rows s) path ++ b))
      ∙ sym (more_parts rows s port path b) ∙ same ∙ more_parts others s port path y
      ∙ hop_parts others s port (flat_map (hop_line topology others s) path ++ y))) in
      let more = cut_hops s path b y (All-tail (λ p. IsShort (bound_by rows s p)) port path short)
      (All-tail (λ p. IsShort (bound_by others s p)) port path brief) (cc line.rest) in
      record {
        bounds = All-cons (λ p. bound_by rows s p ≡ bound_by others s p) port path line.number more.bounds;
        rest = more.rest;
      }

  listener_parts : (given : List Row) (s : DeclaredStream) (l : Listener) (b : List ℕ)
      → listener_lines topology given s l ++ b ≡ flat_map (hop_line topology given s) l.leg
      ++ ((codes "sum " ++ listener_text s.name l.name ++ codes " ") ++ (decimal (bound_on given s l.route) ++ 10 ∷ b))
  unfolding listener_lines
  listener_parts given s l b = simp append_assoc refl

  -- the bounds of a stream along a listener's leg and the sum there, and what stands behind these lines
  record AreOfListener (s : DeclaredStream) (l : Listener) (b y : List ℕ) : Type 0 where
    told : LinesTheSame rows others s l
    rest : b ≡ y

  cut_listener : (s : DeclaredStream) (l : Listener) (b y : List ℕ) → HasShortLines rows s l → HasShortLines others s l
      → listener_lines topology rows s l ++ b ≡ listener_lines topology others s l ++ y → AreOfListener s l b y
  cut_listener s l b y short brief same =
      let front : List ℕ = codes "sum " ++ listener_text s.name l.name ++ codes " " in
      let hops = cut_hops s l.leg (front ++ (decimal (bound_on rows s l.route) ++ 10 ∷ b))
      (front ++ (decimal (bound_on others s l.route) ++ 10 ∷ y)) short.bounds
      brief.bounds (sym (listener_parts rows s l b) ∙ same ∙ listener_parts others s l y) in
      let sums = cut_numbers (bound_on rows s l.route) (bound_on others s l.route) (10 ∷ b) (10 ∷ y) short.sum
      brief.sum refl refl (append_cancel_left front _ _ hops.rest) in
      record { told = record { bounds = hops.bounds; sum = sums.number }; rest = cc sums.rest }

  listeners_parts : (given : List Row) (s : DeclaredStream) (l : Listener) (listeners : List Listener) (b : List ℕ)
      → flat_map (listener_lines topology given s) (l ∷ listeners) ++ b
      ≡ listener_lines topology given s l ++ (flat_map (listener_lines topology given s) listeners ++ b)
  listeners_parts given s l listeners b = simp append_assoc refl

  -- so for each of some listeners of a stream
  record AreOfListeners (s : DeclaredStream) (listeners : List Listener) (b y : List ℕ) : Type 0 where
    told : All (LinesTheSame rows others s) listeners
    rest : b ≡ y

  cut_listeners : (s : DeclaredStream) (listeners : List Listener) (b y : List ℕ)
      → All (HasShortLines rows s) listeners → All (HasShortLines others s) listeners
      → flat_map (listener_lines topology rows s) listeners ++ b
      ≡ flat_map (listener_lines topology others s) listeners ++ y → AreOfListeners s listeners b y
  cut_listeners s [] b y short brief same = record { told = All-nil (LinesTheSame rows others s); rest = same }
  cut_listeners s (l ∷ listeners) b y short brief same =
      let one = cut_listener s l (flat_map (listener_lines topology rows s) listeners ++ b)
      (flat_map (listener_lines topology others s) listeners ++ y) (All-head (HasShortLines rows s) l listeners short)
      (All-head (HasShortLines others s) l listeners brief)
      (sym (listeners_parts rows s l listeners b) ∙ same ∙ listeners_parts others s l listeners y) in
      let more = cut_listeners s listeners b y (All-tail (HasShortLines rows s) l listeners short)
      (All-tail (HasShortLines others s) l listeners brief) one.rest in
      record { told = All-cons (LinesTheSame rows others s) l listeners one.told more.told; rest = more.rest }

  streams_parts : (given : List Row) (s : DeclaredStream) (streams : List DeclaredStream) (b : List ℕ)
      → flat_map (stream_lines topology given) (s ∷ streams) ++ b
      ≡ stream_lines topology given s ++ (flat_map (stream_lines topology given) streams ++ b)
  streams_parts given s streams b = simp append_assoc refl

  cut_streams : (streams : List DeclaredStream) (b y : List ℕ) → All (HasShortBounds topology rows) streams
      → All (HasShortBounds topology others) streams
      → flat_map (stream_lines topology rows) streams ++ b ≡ flat_map (stream_lines topology others) streams ++ y
      → All (BoundTheSame topology rows others) streams
  cut_streams [] b y short brief same = All-nil (BoundTheSame topology rows others)
  cut_streams (s ∷ streams) b y short brief same =
      let lines = cut_listeners s (listeners_of topology s) (flat_map (stream_lines topology rows) streams ++ b)
      (flat_map (stream_lines topology others) streams ++ y) (All-head (HasShortBounds topology rows) s streams short)
      (All-head (HasShortBounds topology others) s streams brief)
      (sym (streams_parts rows s streams b) ∙ same ∙ streams_parts others s streams y) in
      All-cons (BoundTheSame topology rows others) s streams lines.told
      (cut_streams streams b y (All-tail (HasShortBounds topology rows) s streams short)
      (All-tail (HasShortBounds topology others) s streams brief) lines.rest)

pub accepted_tells_all : AcceptedTellsAll
accepted_tells_all network rows others short brief same =
    let behind : List ℕ = codes "accepted " ++ decimal (length network.streams) ++ codes "\n" in
    let parts : (given : List Row) → accepted_text network given
    ≡ flat_map (stream_lines network.topology given) network.streams ++ behind = λ given. simp append_assoc refl in
    cut_streams network.topology rows others network.streams behind behind short brief
    (sym (parts rows) ∙ same ∙ parts others)
