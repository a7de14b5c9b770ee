-- Networks that differ by one stream: one that is added last, and one that is taken out by its name.
use Rattle.std.proofs.Common.{◌≡◌, ℕ, suc, ◌<◌, List, [], length, get_or, take, drop, Option, Some, refl, sym, ap}
use Rattle.std.proofs.Common.{arith}
use Rattle.std.proofs.Math.Seq.{split_at}
use Rattle.std.proofs.lemmas.List.{append-nil, length-map}
use Rattle.ats_num.specs.Places.{place_of}
use Rattle.ats_num.proofs.Numbered.{place_of-lt}
use Rattle.ats_streams.specs.Stream.{DeclaredStream}
use Rattle.ats_network.specs.Edits.{no_stream, less_at, without_named}
use Rattle.ats_network.specs.Network.{DeclaredNetwork}
use Rattle.ats_network.specs.Pushes.{with_stream}
use Rattle.ats_network.specs.Tables.{stream_names}
use Rattle.ats_admission_law.specs.Less.{IsLessBy}

-- a network is the one with a stream added last, less that stream
pub added_last : (network : DeclaredNetwork) (x : DeclaredStream) → IsLessBy (with_stream network x) network x
added_last network x = record {
  topology = refl;
  most_ports = refl;
  flows = refl;
  streams =
      record { front = network.streams; back = []; old_is = refl; new_is = sym (append-nil network.streams) };
}

-- a network without the stream of a name that stands at some place is less by the stream of that place
pub taken_out : (network : DeclaredNetwork) (name : List ℕ) (place : ℕ)
    → place_of name (stream_names network.streams) ≡ Some place
    → IsLessBy network (without_named network name) (get_or network.streams place no_stream)
taken_out network name place found =
    let streams : List DeclaredStream = network.streams in
    let long = length-map streams (λ (s : DeclaredStream). s.name) in
    let inside = place_of-lt name (stream_names streams) place found in
    let within : place < length streams = omega (arith, long, inside) in
    record {
      topology = refl;
      most_ports = refl;
      flows = refl;
      streams = record {
        front = take place streams;
        back = drop (suc place) streams;
        old_is = split_at streams place no_stream within;
        new_is = ap (λ (o : Option ℕ). less_at o streams) found;
      };
    }
