-- Listeners by their numbers, counted stream by stream.
use Rattle.std.proofs.Common.{◌≡◌, ℕ, suc, ◌+◌, ◌-◌, ◌<◌, ◌≤◌, List, [], ◌∷◌, ◌++◌, length, map, take, get_or, Some}
use Rattle.std.proofs.Common.{zero, sym, ap, subst, ◌∙◌, inl, inr, append_assoc, length-append, arith}
use Rattle.std.specs.Prelude.{slice_get}
use Rattle.std.specs.List.{All, flat_map}
use Rattle.std.proofs.lemmas.Bool.{cases_lt}
use Rattle.std.proofs.lemmas.List.{flat_map_more, get_or-map, get_or_default, length-map, map-append, take_all}
use Rattle.std.proofs.lemmas.List.{take_more}
use Rattle.std.proofs.lemmas.List.Concat.{flat_map-cons, get_or-flat_map}
use Rattle.std.proofs.lemmas.List.Elements.{All-append, All-nil, All-head, All-tail}
use Rattle.std.proofs.lemmas.List.Folds.{length-flat_map-take}
use Rattle.std.proofs.lemmas.Option.{slice_get-get_or}
use Rattle.ats_facts.proofs.Lists.{all_left, all_right}
use Rattle.ats_streams.specs.Branches.{leg_at, routes_of}
use Rattle.ats_streams.specs.Stream.{DeclaredStream}
use Rattle.ats_network.specs.Edits.{no_stream}
use Rattle.ats_network.specs.Listeners.{Listener, listeners_of}
use Rattle.ats_network.specs.Network.{DeclaredNetwork}
use Rattle.ats_tally.specs.Listeners.{listener_at, no_listener}
use Rattle.ats_tally.proofs.ListenerLemmas.{listener_route-is, listeners-length}
use Rattle.ats_explain.specs.Margins.{StreamListener, all_listeners, margin_of, margin_on, margins_of, with_listeners}
use Rattle.ats_explain.specs.Numbers.{IsNumbered, listeners_before, stream_margins}
use Rattle.ats_explain.specs.declared.margin.Margin.{Margin}

-- one piece more of those that are joined
pub pieces_more : {X Y : Type 0} (f : X → List Y) (xs : List X) (i : ℕ) (d : X) → i < length xs
    → flat_map f (take (i + 1) xs) ≡ flat_map f (take i xs) ++ f (get_or xs i d)
pieces_more f xs i d within =
    ap (flat_map f) (take_more xs i d within) ∙ sym (flat_map_more f [] (take i xs) (get_or xs i d))

-- what holds of each element of each piece holds of each of all, and back
pub all_joined : {X Y : Type 0} (P : Y → Type 0) (f : X → List Y) (xs : List X) → All (λ (x : X). All P (f x)) xs
    → All P (flat_map f xs)
all_joined P f [] all = All-nil P
all_joined {X} {Y} P f (x ∷ xs) all =
    subst (λ (ys : List Y). All P ys) (sym (flat_map-cons f x xs))
    (All-append P (f x) (flat_map f xs) (All-head (λ (z : X). All P (f z)) x xs all)
    (all_joined P f xs (All-tail (λ (z : X). All P (f z)) x xs all)))

pub all_parted : {X Y : Type 0} (P : Y → Type 0) (f : X → List Y) (xs : List X) → All P (flat_map f xs)
    → All (λ (x : X). All P (f x)) xs
all_parted P f [] all k d within = absurd (omega arith)
all_parted {X} {Y} P f (x ∷ xs) all k d within =
    let both : All P (f x ++ flat_map f xs) = subst (λ (ys : List Y). All P ys) (flat_map-cons f x xs) all in
    at k within (all_left P (f x) (flat_map f xs) both) (all_parted P f xs (all_right P (f x) (flat_map f xs) both))
  where
    at : (k : ℕ) → k < length (x ∷ xs) → All P (f x) → All (λ (z : X). All P (f z)) xs
        → All P (f (get_or (x ∷ xs) k d))
    at zero within here behind = here
    at (suc k) within here behind = behind k d (omega arith)

-- a stream that is read from a list of them
pub stream_read : (listed streams : List DeclaredStream) (i : ℕ) (read : DeclaredStream) → listed ≡ streams
    → read ≡ get_or listed i read → i < length streams → read ≡ get_or streams i no_stream
stream_read listed streams i read same is within =
    is ∙ ap (λ (l : List DeclaredStream). get_or l i read) same ∙ get_or_default streams i read no_stream within

module _ (network : DeclaredNetwork) where
  -- a stream has a listener more than branches
  pub with-length : (stream : DeclaredStream) → length (with_listeners network stream) ≡ suc (length stream.branches)
  with-length stream =
      length-map (listeners_of network.topology stream) (λ (l : Listener). (stream, l))
      ∙ listeners-length network.topology stream

  pub with-at : (stream : DeclaredStream) (leg : ℕ) (d : StreamListener) → leg ≤ length stream.branches
      → get_or (with_listeners network stream) leg d ≡ (stream, listener_at network.topology stream leg)
  with-at stream leg d within =
      get_or-map (λ (l : Listener). (stream, l)) (listeners_of network.topology stream) leg no_listener d
      (omega (arith, within, listeners-length network.topology stream))

  -- the listeners of one stream more
  pub before_more : (n : ℕ) → n < length network.streams → listeners_before network (n + 1)
      ≡ listeners_before network n + (1 + length (get_or network.streams n no_stream).branches)
  before_more n within =
      let stream : DeclaredStream = get_or network.streams n no_stream in
      ap (λ (l : List StreamListener). length l)
      (pieces_more (with_listeners network) network.streams n no_stream within)
      ∙ omega (
        arith,
        length-append (flat_map (with_listeners network) (take n network.streams)) (with_listeners network stream),
        with-length stream,
      )

  -- the listener of a leg comes behind those of the streams before
  pub number_within : (stream leg : ℕ) → stream < length network.streams
      → leg ≤ length (get_or network.streams stream no_stream).branches
      → listeners_before network stream + leg < length (all_listeners network)
  number_within stream leg within listed = omega (
    arith,
    length-flat_map-take (with_listeners network) network.streams stream no_stream within,
    with-length (get_or network.streams stream no_stream),
    listed,
  )

  pub number_at : (stream leg : ℕ) (d : StreamListener) → stream < length network.streams
      → leg ≤ length (get_or network.streams stream no_stream).branches
      → get_or (all_listeners network) (listeners_before network stream + leg) d ≡ (
        get_or network.streams stream no_stream,
        listener_at network.topology (get_or network.streams stream no_stream) leg,
      )
  number_at stream leg d within listed =
      let s : DeclaredStream = get_or network.streams stream no_stream in
      get_or-flat_map (with_listeners network) network.streams stream leg no_stream d within
      (omega (arith, listed, with-length s)) ∙ with-at s leg d listed

  -- so its margin is found
  pub margin_within : (before stream leg : ℕ) → before ≡ listeners_before network stream
      → stream < length network.streams → leg ≤ length (get_or network.streams stream no_stream).branches
      → before + leg < length (margins_of network)
  margin_within before stream leg is within listed = omega (
    arith,
    is,
    number_within stream leg within listed,
    length-map (all_listeners network) (margin_of network),
  )

  pub margin_at : (before stream leg : ℕ) (d : Margin) → before ≡ listeners_before network stream
      → stream < length network.streams → leg ≤ length (get_or network.streams stream no_stream).branches
      → get_or (margins_of network) (before + leg) d
      ≡ margin_on network (get_or network.streams stream no_stream)
      (leg_at (routes_of (get_or network.streams stream no_stream).ports
      (get_or network.streams stream no_stream).branches) leg)
  margin_at before stream leg d is within listed =
      let s : DeclaredStream = get_or network.streams stream no_stream in
      let e : StreamListener = (s, no_listener) in
      ap (λ (n : ℕ). get_or (margins_of network) (n + leg) d) is
      ∙ get_or-map (margin_of network) (all_listeners network) (listeners_before network stream + leg) e d
      (number_within stream leg within listed)
      ∙ ap (margin_of network) (number_at stream leg e within listed)
      ∙ ap (margin_on network s) (listener_route-is network.topology s leg no_listener listed)

  -- a walk over the streams has come to one, and so many listeners are left
  pub record IsAhead (number stream left : ℕ) : Type 0 where
    pub within : stream < length network.streams
    pub is : listeners_before network stream + left ≡ number

  pub ahead_first : (number : ℕ) → number < length (all_listeners network) → IsAhead number 0 number
  ahead_first number below = record { within = some network.streams below; is = omega arith }
    where
      some : (streams : List DeclaredStream) → number < length (flat_map (with_listeners network) streams)
          → 0 < length streams
      some [] below = absurd (omega arith)
      some (s ∷ streams) below = omega arith

  pub ahead_next : (number stream left : ℕ) → number < length (all_listeners network) → IsAhead number stream left
      → 1 + length (get_or network.streams stream no_stream).branches ≤ left
      → IsAhead number (stream + 1) (left - (1 + length (get_or network.streams stream no_stream).branches))
  ahead_next number stream left below ahead past =
      let more = before_more stream ahead.within in
      record {
        within = elim (cases_lt (stream + 1) (length network.streams)) as (λ _. stream + 1 < length network.streams) [
          | inl less ↦ less
          | inr end ↦ absurd (
              let all : listeners_before network (stream + 1) ≡ length (all_listeners network) =
              ap (λ (l : List DeclaredStream). length (flat_map (with_listeners network) l))
              (take_all (stream + 1) network.streams end) in
              omega (arith, all, more, ahead.is, past, below))
        ];
        is = omega (arith, more, ahead.is, past);
      }

  -- it ends at the stream of the listener
  pub ahead_here : (number stream left : ℕ) → IsAhead number stream left
      → left < 1 + length (get_or network.streams stream no_stream).branches → IsNumbered network number stream left
  ahead_here number stream left ahead few =
      let s : DeclaredStream = get_or network.streams stream no_stream in
      let listed : left ≤ length s.branches = omega (arith, few) in
      let e : StreamListener = (s, no_listener) in
      record {
        stream_within = ahead.within;
        leg_within = listed;
        is = ap (slice_get (all_listeners network)) (sym ahead.is)
            ∙ slice_get-get_or (all_listeners network) (listeners_before network stream + left) e
            (number_within stream left ahead.within listed)
            ∙ ap (λ (one : StreamListener). Some one) (number_at stream left e ahead.within listed);
      }

  -- the margins of a stream's listeners, one by one
  pub stream-length : (stream : DeclaredStream) → length (stream_margins network stream) ≡ suc (length stream.branches)
  stream-length stream = length-map (with_listeners network stream) (margin_of network) ∙ with-length stream

  pub stream_more : (stream : DeclaredStream) (front now next : List Margin) (leg : ℕ) (margin : Margin)
      → leg ≤ length stream.branches → now ≡ front ++ take leg (stream_margins network stream)
      → margin ≡ margin_on network stream (leg_at (routes_of stream.ports stream.branches) leg)
      → next ≡ now ++ margin ∷ [] → next ≡ front ++ take (leg + 1) (stream_margins network stream)
  stream_more stream front now next leg margin within now_is margin_is next_is =
      let margins : List Margin = stream_margins network stream in
      let e : StreamListener = (stream, no_listener) in
      let here : get_or margins leg margin ≡ margin =
      get_or-map (margin_of network) (with_listeners network stream) leg e margin
      (omega (arith, within, with-length stream))
      ∙ ap (margin_of network) (with-at stream leg e within)
      ∙ ap (margin_on network stream) (listener_route-is network.topology stream leg no_listener within)
      ∙ sym margin_is in
      next_is ∙ ap (λ (l : List Margin). l ++ margin ∷ []) now_is
      ∙ append_assoc front (take leg margins) (margin ∷ [])
      ∙ ap (λ (m : Margin). front ++ (take leg margins ++ m ∷ [])) (sym here)
      ∙ ap (λ (l : List Margin). front ++ l)
      (sym (take_more margins leg margin (omega (arith, within, stream-length stream))))

  pub stream_all : (stream : DeclaredStream) (front now : List Margin) (leg : ℕ) → 1 + length stream.branches ≤ leg
      → now ≡ front ++ take leg (stream_margins network stream) → now ≡ front ++ stream_margins network stream
  stream_all stream front now leg past now_is =
      now_is ∙ ap (λ (l : List Margin). front ++ l)
      (take_all leg (stream_margins network stream) (omega (arith, past, stream-length stream)))

  -- and stream by stream
  pub margins_more : (now next : List Margin) (stream : ℕ) → stream < length network.streams
      → now ≡ map (margin_of network) (flat_map (with_listeners network) (take stream network.streams))
      → next ≡ now ++ stream_margins network (get_or network.streams stream no_stream)
      → next ≡ map (margin_of network) (flat_map (with_listeners network) (take (stream + 1) network.streams))
  margins_more now next stream within now_is next_is =
      let s : DeclaredStream = get_or network.streams stream no_stream in
      next_is ∙ ap (λ (l : List Margin). l ++ stream_margins network s) now_is
      ∙ sym (ap (map (margin_of network)) (pieces_more (with_listeners network) network.streams stream no_stream within)
      ∙ map-append (margin_of network) (flat_map (with_listeners network) (take stream network.streams))
      (with_listeners network s))
