use Rattle.std.specs.Prelude.{List, ℕ, [], ◌++◌, codes}
use Rattle.ats_command_input.specs.Command.{Witness}
use Rattle.ats_command_due.specs.Due.{IsDueAnswer}
use Rattle.ats_call_examples.specs.Files.{done_with, told}

-- the file of three stations at one bridge, with a stream to two of them and a flow between these, byte for byte
abbrev pub both_text : List ℕ
both_text =
    codes "format = 3\n" ++ codes "[[station]]\nname = \"s1\"\n" ++ codes "[[station]]\nname = \"s2\"\n"
    ++ codes "[[station]]\nname = \"s3\"\n"
    ++ codes "[[bridge]]\nname = \"b1\"\nprocessing_min_ns = 1000\nprocessing_max_ns = 1000\nresidence_ns = 1000000\n"
    ++ codes "[[link]]\na = \"s1\"\nb = \"b1\"\nmbps = 1000\npropagation_ns = 500\n"
    ++ codes "[[link]]\na = \"b1\"\nb = \"s2\"\nmbps = 1000\npropagation_ns = 500\n"
    ++ codes "[[link]]\na = \"b1\"\nb = \"s3\"\nmbps = 1000\npropagation_ns = 500\n"
    ++ codes "[[stream]]\nname = \"a\"\nfrom = \"s1\"\nto = [\"s2\", \"s3\"]\nclass = 6\nrate_bps = 100000000\n"
    ++ codes "burst_bits = 12336\nmin_octets = 64\nmax_octets = 1522\ndeadline_ns = 1000000\n"
    ++ codes "[[flow]]\nname = \"f\"\nfrom = \"s3\"\nto = \"s2\"\nmax_octets = 1522\n"

-- what is printed of its stream
abbrev pub to_both_text : List ℕ
to_both_text =
    codes "hop s1>b1 26672000\nhop b1>s2 39007999\nrelease 0 f 1522\nrelease 1 a 1522\n"
    ++ codes "witness a delay 39007999 bound 39008000 gap 1\n"
    ++ codes "listener a s3\nhop s1>b1 26672000\nhop b1>s3 26672000\nrelease 1 a 1522\n"
    ++ codes "witness a s3 delay 26672000 bound 26672000 gap 0\n"

-- a stream with two listeners, where the flow is in the way of the first: what is found for the second stands behind
-- what is found for the first, with its own ports, burst and bound
pub record BothAreAnswered : Type 0 where
  pub done : IsDueAnswer (told both_text [] []) (Witness (codes "n") (codes "a")) (done_with to_both_text)
