use Rattle.std.specs.Prelude.{ℕ, List, [], ◌∷◌, ◌++◌, codes, Option, Some, None, if◌then◌else◌}
use Rattle.std.specs.Str.{bytes_eq}
use Rattle.ats_command_input.specs.Answer.{Answer}
use Rattle.ats_command_input.specs.declared.status.Status.TheVariants.{Done, Input, Refused}

-- The files of worked calls, byte for byte, and the answers to them.

-- a network of two stations and a bridge between them, with one stream, which has this rate and this deadline
abbrev pub line_text : List ℕ → List ℕ → List ℕ
line_text rate deadline =
    codes "format = 1\n" ++ codes "[[station]]\nname = \"s1\"\n" ++ codes "[[station]]\nname = \"s2\"\n"
    ++ codes "[[bridge]]\nname = \"b1\"\nprocessing_ns = 1000\nresidence_ns = 1000000\n"
    ++ codes "[[link]]\na = \"s1\"\nb = \"b1\"\nmbps = 1000\npropagation_ns = 500\n"
    ++ codes "[[link]]\na = \"b1\"\nb = \"s2\"\nmbps = 1000\npropagation_ns = 500\n"
    ++ codes "[[stream]]\nname = \"a\"\nfrom = \"s1\"\nto = \"s2\"\nclass = 6\nburst_bits = 12336\n"
    ++ codes "min_octets = 64\nmax_octets = 1522\naddress = \"00:00:00:00:00:01\"\nvlan = 5\n"
    ++ codes "rate_bps = " ++ rate ++ codes "\ndeadline_ns = " ++ deadline ++ codes "\n"

-- one whose deadline is just the sum of its bounds, one with 1 ns less, and one with twice the rate of the links
abbrev pub network : List ℕ
network = line_text (codes "100000000") (codes "26672")

abbrev pub late : List ℕ
late = line_text (codes "100000000") (codes "26671")

abbrev pub overloaded : List ℕ
overloaded = line_text (codes "2000000000") (codes "26672")

-- a network of three stations around a bridge, with two streams to one of them, in which the frames of either may stay
-- for just as long as they wait at most
abbrev pub fork_stream : List ℕ → List ℕ → List ℕ
fork_stream name from =
    codes "[[stream]]\nname = \"" ++ name ++ codes "\"\nfrom = \"" ++ from ++ codes "\"\nto = \"s2\"\nclass = 6\n"
    ++ codes "rate_bps = 100000000\nburst_bits = 12336\nmin_octets = 64\nmax_octets = 1522\ndeadline_ns = 1000000\n"

abbrev pub fork_text : List ℕ
fork_text =
    codes "format = 1\n" ++ codes "[[station]]\nname = \"s1\"\n" ++ codes "[[station]]\nname = \"s2\"\n"
    ++ codes "[[station]]\nname = \"s3\"\n"
    ++ codes "[[bridge]]\nname = \"b1\"\nprocessing_ns = 1000\nresidence_ns = 11664\n"
    ++ codes "[[link]]\na = \"s1\"\nb = \"b1\"\nmbps = 1000\npropagation_ns = 500\n"
    ++ codes "[[link]]\na = \"b1\"\nb = \"s2\"\nmbps = 1000\npropagation_ns = 500\n"
    ++ codes "[[link]]\na = \"s3\"\nb = \"b1\"\nmbps = 1000\npropagation_ns = 500\n"
    ++ fork_stream (codes "a") (codes "s1") ++ fork_stream (codes "z") (codes "s3")

-- no text at all
abbrev pub no_text : List ℕ
no_text = 0xFF ∷ []

-- a certificate of the first port's bound
abbrev pub rows_with : List ℕ → List ℕ
rows_with bound =
    codes "port,class,higher,equal,bursts,lower,least,wait,bound\n"
    ++ codes "s1>b1,6,0,100000000000,12336,0,672,11664000," ++ bound ++ codes "\n"
    ++ codes "b1>s2,6,0,100000000000,12336,0,672,11664000,12836000\n"

-- the least one, and one with 1 ps less
abbrev pub rows : List ℕ
rows = rows_with (codes "13836000")

abbrev pub short_rows : List ℕ
short_rows = rows_with (codes "13835999")

-- a schedule of one frame of so many octets
abbrev pub schedule_of : List ℕ → List ℕ
schedule_of octets = codes "at_ps,sender,octets\n" ++ codes "0,a," ++ octets ++ codes "\n"

-- the longest that the stream declares, and one that is an octet longer
abbrev pub schedule : List ℕ
schedule = schedule_of (codes "1522")

abbrev pub long_schedule : List ℕ
long_schedule = schedule_of (codes "1523")

-- and one of three frames, two of them at once
abbrev pub crowded_schedule : List ℕ
crowded_schedule = codes "at_ps,sender,octets\n" ++ codes "0,a,1522\n0,a,1522\n12336000,a,64\n"

-- what is told under three names: `n`, `c` and `s`
abbrev pub told : List ℕ → List ℕ → List ℕ → List ℕ → Option (List ℕ)
told net second third name =
    if bytes_eq name (codes "n") then Some net
    else if bytes_eq name (codes "c") then Some second
    else if bytes_eq name (codes "s") then Some third
    else None

-- and what is told under a fourth one, `p`
abbrev pub told_also : List ℕ → List ℕ → List ℕ → List ℕ → List ℕ → Option (List ℕ)
told_also net second third fourth name =
    if bytes_eq name (codes "p") then Some fourth else told net second third name

-- the answers, by their texts
abbrev pub done_with : List ℕ → Answer
done_with text = record { status = Done; text = text }

abbrev pub refused_with : List ℕ → Answer
refused_with text = record { status = Refused; text = text }

abbrev pub faulty_with : List ℕ → Answer
faulty_with text = record { status = Input; text = text }
