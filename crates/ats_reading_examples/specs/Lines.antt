use Rattle.std.specs.Prelude.{◌≡◌, ℕ, ◌+◌, ◌≤◌, List, [], ◌∷◌, ◌++◌, length, codes, replicate, Result, Ok, Err}
use Rattle.ats_io.specs.Text.{lines_of, words_of}
use Rattle.ats_shape.specs.FaultLaw.{line_number}
use Rattle.ats_shape.specs.Reading.{shape_of}
use Rattle.ats_shape.specs.Shape.{DeclaredShape}
use Rattle.ats_shape.specs.declared.fault.ShapeFault.{ShapeFault}
use Rattle.ats_shape.specs.declared.fault.ShapeFault.TheVariants as line
use Rattle.ats_streams.specs.declared.fault.StreamFault.{StreamFault}
use Rattle.ats_streams.specs.declared.fault.StreamFault.TheVariants as rule
use Rattle.ats_network.specs.Network.{DeclaredNetwork}
use Rattle.ats_requests.specs.declared.request.Request.{Request}
use Rattle.ats_requests.specs.declared.request.Request.TheVariants.{Admit, Lowest, Withdraw}
use Rattle.ats_words.specs.Words.{word}
use Rattle.ats_request_file.specs.Reading.{request_in, requests_of}
use Rattle.ats_trace.specs.declared.journey.Release.{Release}
use Rattle.ats_schedule.specs.Reading.{release_after}
use Rattle.ats_schedule.specs.declared.fault.ScheduleFault.{ScheduleFault}
use Rattle.ats_schedule.specs.declared.fault.ScheduleFault.TheVariants as release
use Rattle.ats_examples.specs.Networks.{line_and_flow}

-- Comments and long numbers of files of lines, of requests and of releases.

-- a comment is any line that begins with a number sign, and needs nothing behind it
pub record CommentsAreAny : Type 0 where
  pub shape : shape_of (codes "#\n#a\n##\n#residence 5\nresidence 1000\n#stream\n#")
      ≡ Ok (record { residence_ns = 1000; streams = []; frames = [] })
  pub counted : shape_of (codes "#\n#a\n##\nresidence 1000\n#b\nx\n") ≡ Err (line.BadLine 6)
  pub requests : requests_of line_and_flow (codes "#\n#a\n##\n#withdraw b\nwithdraw a\n#")
      ≡ Ok (Withdraw (codes "a") ∷ [])

-- all bytes but the space and LF, and some of them twice
abbrev pub other_bytes : List ℕ
other_bytes =
    0 ∷ 1 ∷ 2 ∷ 3 ∷ 4 ∷ 5 ∷ 6 ∷ 7 ∷ 8 ∷ 9 ∷ 11 ∷ 12 ∷ 13 ∷ 14 ∷ 15 ∷ 16 ∷ 17 ∷ 18 ∷ 19 ∷ 20 ∷ 21 ∷ 22 ∷ 23 ∷ 24
    ∷ 25 ∷ 26 ∷ 27 ∷ 28 ∷ 29 ∷ 30 ∷ 31 ∷ 33
    ∷ codes "\"#$%&'()*+,-./0123456789:;<=>?@ABCDEFGHIJKLMNOPQRSTUVWXYZ[\\]^_`abcdefghijklmnopqrstuvwxyz{|}~"
    ++ 127 ∷ 128 ∷ 133 ∷ 160 ∷ 194 ∷ 195 ∷ 226 ∷ 239 ∷ 254 ∷ 255 ∷ []

-- nothing but the space parts words
abbrev pub SpacesPart : Type 0
SpacesPart = words_of (32 ∷ other_bytes ++ 32 ∷ 32 ∷ other_bytes ++ 32 ∷ []) ≡ other_bytes ∷ other_bytes ∷ []

-- what is read of this line behind a residence and a stream
abbrev pub behind_stream : List ℕ → Result DeclaredShape ShapeFault
behind_stream text = shape_of (codes "residence 1000\nstream a 1000 672 64 64\n" ++ text)

-- a number counts one of these lines from 1, or the one behind the last
abbrev pub IsNumbered : List (List ℕ) → ℕ → Type 0
IsNumbered lines n = (1 ≤ n) × (n ≤ length lines + 1)

-- 10^18, 10^21, and the greatest number of 36 digits
abbrev pub of_19 : List ℕ
of_19 = codes "1000000000000000000"

abbrev pub of_22 : List ℕ
of_22 = codes "1000000000000000000000"

abbrev pub nines : List ℕ
nines = replicate 36 57

-- a number of a shape file may have up to 36 digits, and is then judged by the rules of a stream; 37 digits make no
-- number
pub record StreamNumbersAreLong : Type 0 where
  pub rate_of_19 : behind_stream (codes "stream b " ++ of_19 ++ codes " 672 64 64\n") ≡ Err (line.Stream 3 rule.BadRate)
  pub rate_of_22 : behind_stream (codes "stream b " ++ of_22 ++ codes " 0 0 0\n") ≡ Err (line.Stream 3 rule.BadRate)
  pub rate_of_36 : behind_stream (codes "stream b " ++ nines ++ codes " 0 0 0\n") ≡ Err (line.Stream 3 rule.BadRate)
  pub rate_of_37 : behind_stream (codes "stream b 1" ++ nines ++ codes " 0 0 0\n") ≡ Err (line.BadLine 3)
  pub burst_of_19 : behind_stream (codes "stream b 1 " ++ of_19 ++ codes " 64 64\n") ≡ Err (line.Stream 3 rule.Limit)
  pub burst_of_22 : behind_stream (codes "stream b 1 " ++ of_22 ++ codes " 64 64\n") ≡ Err (line.Stream 3 rule.Limit)
  pub burst_of_36 : behind_stream (codes "stream b 1 " ++ nines ++ codes " 64 64\n") ≡ Err (line.Stream 3 rule.Limit)
  pub burst_of_37 : behind_stream (codes "stream b 1 1" ++ nines ++ codes " 64 64\n") ≡ Err (line.BadLine 3)
  pub least : behind_stream (codes "stream b 1 672 " ++ nines ++ codes " 64\n") ≡ Err (line.Stream 3 rule.BadSizes)
  pub greatest : behind_stream (codes "stream b 1 672 64 " ++ nines ++ codes "\n") ≡ Err (line.Stream 3 rule.BadSizes)
  pub greatest_of_19 : behind_stream (codes "stream b 1 672 64 " ++ of_19 ++ codes "\n")
      ≡ Err (line.Stream 3 rule.BadSizes)

-- what is read of a record of the flow with this time and these octets, behind a release at this time
abbrev pub release_behind : ℕ → List ℕ → List ℕ → Result Release ScheduleFault
release_behind last at octets = release_after line_and_flow
    (record { at = record { 0 = last }; sender = 0; octets = 64 } ∷ []) (at ∷ codes "f" ∷ octets ∷ [])

-- and so may the numbers of a schedule, which are judged by the order of times and the limits
pub record ReleaseNumbersAreLong : Type 0 where
  pub time_of_19 : release_behind 0 of_19 (codes "64") ≡ Err (release.Limit 3)
  pub time_of_22 : release_behind 0 of_22 (codes "64") ≡ Err (release.Limit 3)
  pub time_of_36 : release_behind 0 nines (codes "64") ≡ Err (release.Limit 3)
  pub time_of_37 : release_behind 0 (codes "1" ++ nines) (codes "64") ≡ Err (release.BadNumber 3)
  pub back : release_behind 1000000000000000001 of_19 (codes "64") ≡ Err (release.TimeBack 3)
  pub octets_of_19 : release_behind 0 (codes "1") of_19 ≡ Err (release.BadSize 3)
  pub octets_of_22 : release_behind 0 (codes "1") of_22 ≡ Err (release.BadSize 3)
  pub octets_of_36 : release_behind 0 (codes "1") nines ≡ Err (release.BadSize 3)
  pub octets_of_37 : release_behind 0 (codes "1") (codes "1" ++ nines) ≡ Err (release.BadNumber 3)

-- the line that a fault of a shape file is told of has the number that is told, whichever the fault. Refuses a number
-- of another line for frames, as that among the frames
pub record LinesAreNumbered : Type 0 where
  pub form : (n : ℕ) → line_number (line.BadLine n) ≡ n
  pub name : (n : ℕ) → line_number (line.NameTwice n) ≡ n
  pub broken : (n : ℕ) (broken : StreamFault) → line_number (line.Stream n broken) ≡ n
  pub unknown : (n : ℕ) → line_number (line.UnknownName n) ≡ n
  pub back : (n : ℕ) → line_number (line.TimeBack n) ≡ n
  pub limit : (n : ℕ) → line_number (line.Limit n) ≡ n
  pub first : (text : List ℕ) (fault : ShapeFault) → shape_of text ≡ Err fault
      → IsNumbered (lines_of text) (line_number fault)
  pub frame : behind_stream (codes "\n# a\nframe 5 a 64\nframe 6 a 64\n\nframe 7 b 64\n") ≡ Err (line.UnknownName 8)
  pub frame_back : behind_stream (codes "\n# a\nframe 5 a 64\nframe 6 a 64\n\nframe 4 a 64\n") ≡ Err (line.TimeBack 8)
  pub frame_form : behind_stream (codes "\n# a\nframe 5 a 64\nframe 6 a 64\n\nframe 7 a\n") ≡ Err (line.BadLine 8)

-- the word that a line begins with which asks this
abbrev pub verb_of : Request → List ℕ
verb_of (Admit stream) = codes "admit"
verb_of (Lowest stream) = codes "admit"
verb_of (Withdraw name) = codes "withdraw"

-- a line asks something only where it begins so, whatever its other words are. Refuses any first word in front of the
-- nine that `admit` takes
abbrev pub VerbsAreTwo : Type 0
VerbsAreTwo = (network : DeclaredNetwork) (n : ℕ) (words : List (List ℕ)) (request : Request)
    → request_in network n words ≡ Ok request → word words 0 ≡ verb_of request

pub record LinesAreRead : Type 0 where
  pub comments : CommentsAreAny
  pub words : SpacesPart
  pub numbered : LinesAreNumbered
  pub verbs : VerbsAreTwo
  pub streams : StreamNumbersAreLong
  pub releases : ReleaseNumbersAreLong
