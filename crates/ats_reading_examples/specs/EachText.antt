use Rattle.std.specs.Prelude.{◌≡◌, ℕ, ◌+◌, ◌-◌, ◌==◌, nat_le, nat_lt, is_none, List, [], ◌∷◌, ◌++◌, length, map}
use Rattle.std.specs.Prelude.{codes}
use Rattle.std.specs.Prelude.{◌≢◌, slice_index_or, true, false, Some, None, Result, Ok, Err, if◌then◌else◌}
use Rattle.ats_num.specs.Failure.{◌>>=◌, ok_where, or_fault}
use Rattle.ats_num.specs.Places.{place_of}
use Rattle.ats_io.specs.Text.{lines_of, words_of}
use Rattle.ats_topology.specs.Topology.{DeclaredTopology, station_named}
use Rattle.ats_network.specs.Network.{DeclaredNetwork}
use Rattle.ats_network.specs.Shortest.{shortest_of}
use Rattle.ats_words.specs.Words.{is_skipped, word}
use Rattle.ats_shape.specs.Reading.{frame_in, frame_of, residence_in, ruled, stream_in}
use Rattle.ats_shape.specs.Reading as shape
use Rattle.ats_shape.specs.declared.fault.ShapeFault.{ShapeFault}
use Rattle.ats_shape.specs.declared.fault.ShapeFault.TheVariants as fault
use Rattle.ats_shape.specs.declared.shape.ShapeFrame.{ShapeFrame}
use Rattle.ats_shape.specs.declared.shape.ShapeStream.{ShapeStream}
use Rattle.ats_requests.specs.declared.request.Request.{Request}
use Rattle.ats_request_file.specs.Reading.{asked_in}
use Rattle.ats_request_file.specs.Reading as requests
use Rattle.ats_request_file.specs.declared.fault.RequestFault.TheVariants as ask

-- What shape files and request files declare, line by line, written out for all texts.

-- the stream of a line: it stands before all frame lines, has a new name, keeps the rules of a stream, and is at most
-- the 4096th
abbrev pub stream_after : shape.DraftShape → ℕ → List (List ℕ) → Result ShapeStream ShapeFault
stream_after draft n words = do
  in_place ← ok_where (length draft.frames == 0) (fault.BadLine n) words
  said ← stream_in n in_place
  named ← ok_where (is_none (place_of said.name (map (λ (s : ShapeStream). s.name) draft.streams)))
      (fault.NameTwice n) said
  stream ← ruled n named
  ok_where (nat_lt (length draft.streams) 4096) (fault.Limit n) stream

-- the frame of a line: it is of a stream of before, arrives at the time of the last frame or later, and is at most the
-- 200,000th
abbrev pub frame_after : shape.DraftShape → ℕ → List (List ℕ) → Result ShapeFrame ShapeFault
frame_after draft n words = do
  said ← frame_in n words
  stream ← or_fault (fault.UnknownName n) (place_of said.name (map (λ (s : ShapeStream). s.name) draft.streams))
  frame ← ok_where (nat_le (shape.last_time draft.frames) said.at) (fault.TimeBack n) (frame_of said stream)
  ok_where (nat_lt (length draft.frames) 200000) (fault.Limit n) frame

-- the first line that counts is the residence; each further one is by its first word a stream or a frame
pub record ShapesAreDeclared : Type 0 where
  pub last : (frames : List ShapeFrame) → shape.last_time frames
      ≡ (slice_index_or frames (length frames - 1) (record { at = record { 0 = 0 }; stream = 0; octets = 0 })).at.0
  pub end : (draft : shape.DraftShape) (n : ℕ) → shape.shape_from draft n []
      ≡ (or_fault (fault.BadLine n) draft.residence
      >>= λ ns. Ok (record { residence_ns = ns; streams = draft.streams; frames = draft.frames }))
  pub skipped : (draft : shape.DraftShape) (n : ℕ) (text : List ℕ) (rest : List (List ℕ)) → is_skipped text ≡ true
      → shape.shape_from draft n (text ∷ rest) ≡ shape.shape_from draft (n + 1) rest
  pub residence : (draft : shape.DraftShape) (n : ℕ) (text : List ℕ) (rest : List (List ℕ))
      → is_skipped text ≡ false → draft.residence ≡ None
      → shape.shape_from draft n (text ∷ rest)
      ≡ (residence_in n (words_of text)
      >>= λ ns. shape.shape_from (record draft { residence = Some ns }) (n + 1) rest)
  pub stream : (draft : shape.DraftShape) (n ns : ℕ) (text : List ℕ) (rest : List (List ℕ))
      → is_skipped text ≡ false → draft.residence ≡ Some ns → word (words_of text) 0 ≡ codes "stream"
      → shape.shape_from draft n (text ∷ rest)
      ≡ (stream_after draft n (words_of text)
      >>= λ s. shape.shape_from (record draft { streams = draft.streams ++ s ∷ [] }) (n + 1) rest)
  pub frame : (draft : shape.DraftShape) (n ns : ℕ) (text : List ℕ) (rest : List (List ℕ))
      → is_skipped text ≡ false → draft.residence ≡ Some ns → word (words_of text) 0 ≡ codes "frame"
      → shape.shape_from draft n (text ∷ rest)
      ≡ (frame_after draft n (words_of text)
      >>= λ f. shape.shape_from (record draft { frames = draft.frames ++ f ∷ [] }) (n + 1) rest)
  pub other : (draft : shape.DraftShape) (n ns : ℕ) (text : List ℕ) (rest : List (List ℕ))
      → is_skipped text ≡ false → draft.residence ≡ Some ns → word (words_of text) 0 ≢ codes "stream"
      → word (words_of text) 0 ≢ codes "frame"
      → shape.shape_from draft n (text ∷ rest) ≡ Err (fault.BadLine n)
  pub text : (text : List ℕ) → shape.shape_of text
      ≡ shape.shape_from (record { residence = None; streams = []; frames = [] }) 1 (lines_of text)

-- the stations that a line names, which are two, the least walk between them, and requests one by one
pub record RequestsAreDeclared : Type 0 where
  pub path : (topology : DeclaredTopology) (n : ℕ) (words : List (List ℕ)) → requests.path_in topology n words ≡ (do
    from ← or_fault (ask.UnknownNode n) (station_named topology (word words 2))
    to ← or_fault (ask.UnknownNode n) (station_named topology (word words 3))
    or_fault (ask.NoPath n) (if from == to then None else shortest_of topology from to))
  pub lines : (network : DeclaredNetwork) (before : List Request) (n : ℕ) (text : List ℕ)
      → requests.with_line network before n text
      ≡ (if is_skipped text then Ok before
      else asked_in network (length before) n (words_of text) >>= λ request. Ok (before ++ request ∷ []))
  pub end : (network : DeclaredNetwork) (before : List Request) (n : ℕ)
      → requests.requests_from network before n [] ≡ Ok before
  pub next : (network : DeclaredNetwork) (before : List Request) (n : ℕ) (text : List ℕ) (rest : List (List ℕ))
      → requests.requests_from network before n (text ∷ rest)
      ≡ (requests.with_line network before n text >>= λ more. requests.requests_from network more (n + 1) rest)
  pub text : (network : DeclaredNetwork) (text : List ℕ) → requests.requests_of network text
      ≡ requests.requests_from network [] 1 (lines_of text)

pub record TextsAreDeclared : Type 0 where
  pub shapes : ShapesAreDeclared
  pub requests : RequestsAreDeclared
