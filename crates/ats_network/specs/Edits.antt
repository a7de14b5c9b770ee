use Rattle.std.specs.Prelude.{◌≡◌, ℕ, List, [], ◌∷◌, ◌++◌, Option, Some, None, slice_index_or, slice_set}
use Rattle.std.specs.List.{remove}
use Rattle.std.specs.Option.{option_map}
use Rattle.ats_num.specs.Places.{place_of}
use Rattle.ats_streams.specs.Stream.{DeclaredStream, with_burst, with_class}
use Rattle.ats_network.specs.Network.{DeclaredNetwork}
use Rattle.ats_network.specs.Tables.{stream_names}

-- the stream at a number past the last one
abbrev pub no_stream : DeclaredStream
no_stream = record {
  name = [];
  ports = [];
  branches = [];
  classes = [];
  rate = 0;
  burst_bits = 0;
  min_octets = 0;
  max_octets = 0;
  deadline_ns = 0;
  identity = None;
}

-- streams, where the one with this number has this class at each of its ports
abbrev pub classed : List DeclaredStream → ℕ → ℕ → List DeclaredStream
classed streams n class = slice_set streams n (with_class (slice_index_or streams n no_stream) class)

-- the network, where the stream with this number has this class at each of its ports
abbrev pub with_class_at : DeclaredNetwork → ℕ → ℕ → DeclaredNetwork
with_class_at network n class = record network { streams = classed network.streams n class }

-- streams, where the one with this number has this committed burst, in bits
abbrev pub burst_changed : List DeclaredStream → ℕ → ℕ → List DeclaredStream
burst_changed streams n burst_bits = slice_set streams n (with_burst (slice_index_or streams n no_stream) burst_bits)

-- the network, where the stream with this number has this committed burst, in bits
abbrev pub with_burst_at : DeclaredNetwork → ℕ → ℕ → DeclaredNetwork
with_burst_at network n burst_bits = record network { streams = burst_changed network.streams n burst_bits }

-- the stream with this name, if there is one
abbrev pub stream_named : List DeclaredStream → List ℕ → Option DeclaredStream
stream_named streams name =
    option_map (λ n. slice_index_or streams n no_stream) (place_of name (stream_names streams))

-- a list without the element at a place, where one is given
abbrev pub less_at : Option ℕ → List DeclaredStream → List DeclaredStream
less_at None streams = streams
less_at (Some n) streams = remove streams n

-- streams without the one that has this name, where one has it; the others keep their order
abbrev pub less_named : List DeclaredStream → List ℕ → List DeclaredStream
less_named streams name = less_at (place_of name (stream_names streams)) streams

-- the network without the stream that has this name, where one has it
abbrev pub without_named : DeclaredNetwork → List ℕ → DeclaredNetwork
without_named network name = record network { streams = less_named network.streams name }

-- the new list is the old one without this element, which stood behind some elements and before the others
pub record IsLess (old new : List DeclaredStream) (stream : DeclaredStream) : Type 0 where
  pub front : List DeclaredStream
  pub back : List DeclaredStream
  pub old_is : old ≡ front ++ stream ∷ back
  pub new_is : new ≡ front ++ back
