use Rattle.std.specs.Prelude.{List, ℕ, [], ◌++◌, codes}
use Rattle.ats_command_input.specs.Command.{Witness}
use Rattle.ats_command_due.specs.Due.{IsDueAnswer}
use Rattle.ats_call_examples.specs.Files.{done_with, refused_with, told}

-- the file of the line with a stream and a flow, byte for byte
abbrev pub flow_text : List ℕ
flow_text =
    codes "format = 1\n" ++ codes "[[station]]\nname = \"s1\"\n" ++ codes "[[station]]\nname = \"s2\"\n"
    ++ codes "[[bridge]]\nname = \"b1\"\nprocessing_ns = 1000\nresidence_ns = 1000000\n"
    ++ codes "[[link]]\na = \"s1\"\nb = \"b1\"\nmbps = 1000\npropagation_ns = 500\n"
    ++ codes "[[link]]\na = \"b1\"\nb = \"s2\"\nmbps = 1000\npropagation_ns = 500\n"
    ++ codes "[[stream]]\nname = \"a\"\nfrom = \"s1\"\nto = \"s2\"\nclass = 6\nrate_bps = 100000000\n"
    ++ codes "burst_bits = 12336\nmin_octets = 64\nmax_octets = 1522\ndeadline_ns = 1000000\n"
    ++ codes "[[flow]]\nname = \"f\"\nfrom = \"s1\"\nto = \"s2\"\nmax_octets = 1522\n"

-- what is printed of its stream
abbrev pub gap_text : List ℕ
gap_text =
    codes "hop s1>b1 39007999\nhop b1>s2 39007999\nrelease 0 f 1522\nrelease 1 a 1522\n"
    ++ codes "witness a delay 39007999 bound 51344000 gap 12336001\n"

-- a delay that is less than the bound: of the two hops, which have the same delay, it is the first whose burst is
-- printed, and the flow's frame goes ahead; and the word of the flow names no stream
pub record GapIsAnswered : Type 0 where
  pub done : IsDueAnswer (told flow_text [] []) (Witness (codes "n") (codes "a")) (done_with gap_text)
  pub refused : IsDueAnswer (told flow_text [] []) (Witness (codes "n") (codes "f"))
      (refused_with (codes "refused stream f\n"))
