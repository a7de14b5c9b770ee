use Rattle.std.specs.Prelude.{◌≡◌, ◌↔◌, ℕ, List, [], ◌∷◌, Option, Some, None, Result, Ok, Err, IfOk}
use Rattle.ats_streams.specs.Stream.{DeclaredStream, stream_fault_within}
use Rattle.ats_streams.specs.declared.fault.StreamFault.{StreamFault}
use Rattle.ats_network.specs.Network.{DeclaredNetwork}
use Rattle.ats_requests.specs.declared.request.Request.{Request}
use Rattle.ats_request_file.specs.Reading.{admit_line, asked, made_class, path_in, stream_over}
use Rattle.ats_request_file.specs.Words.{admit_in}
use Rattle.ats_request_file.specs.declared.fault.RequestFault.{RequestFault}
use Rattle.ats_request_file.specs.declared.fault.RequestFault.TheVariants as asking

-- Which rules of a stream a line is judged by that asks for one.

-- what a line with this number gives that asks for a stream, with a class or with the class left open: the rule that is
-- broken as its fault, or the request
pub record TellsBroken (line : Result Request RequestFault) (n : ℕ) (class : Option ℕ) (stream : DeclaredStream)
    (broken : Option StreamFault) : Type 0 where
  pub refused : (fault : StreamFault) → line ≡ Err (asking.Stream n fault) ↔ broken ≡ Some fault
  pub taken : line ≡ Ok (asked class stream) ↔ broken ≡ None

-- of a line whose words are those of a request, and whose stations have a path, this is the first rule of each stream
-- that is broken, or the limit on a route. No clock is asked: that a rate or a burst is over the limits of a scheduler,
-- by the clocks on the way, is no fault of the line, but a reason against the stream
abbrev pub LinesAreJudgedByThemselves : Type 0
LinesAreJudgedByThemselves = (network : DeclaredNetwork) (n : ℕ) (words : List (List ℕ)) (path : List ℕ)
    → path_in network.topology n words ≡ Ok path
    → IfOk (admit_in n words) (λ said. TellsBroken (admit_line network n words) n said.class (stream_over path said)
    (stream_fault_within network.most_ports (made_class said ∷ []) (stream_over path said)))
