use Rattle.std.specs.Prelude.{ℕ, List, [], ◌∷◌}
use Rattle.ats_certificate.specs.declared.row.Row.{Row}

-- Rows and certificates of the worked networks.

-- a row by its columns
abbrev pub row_with : ℕ → ℕ → ℕ → ℕ → ℕ → ℕ → ℕ → ℕ → ℕ → Row
row_with port class higher equal bursts lower least wait bound =
    record {
      port = port;
      class = class;
      higher = higher;
      equal = equal;
      bursts = bursts;
      lower = lower;
      least = least;
      wait = wait;
      bound = bound;
    }

-- the row of a port that one stream of class 6 uses, as each port of the line, with this bound
abbrev pub row_of_line : ℕ → ℕ → Row
row_of_line port bound = row_with port 6 0 100000000000 12336 0 672 11664000 bound

-- the certificate of the line: the port to the bridge, whose latency has the bridge's processing time too, and the port
-- from the bridge to the listener
abbrev pub line_rows : List Row
line_rows = row_of_line 0 13836000 ∷ row_of_line 2 12836000 ∷ []

-- the same rows in another order
abbrev pub turned_rows : List Row
turned_rows = row_of_line 2 12836000 ∷ row_of_line 0 13836000 ∷ []

-- the certificates over two bridges and over three: each port that leads to a bridge has the bridge's processing time
-- in its bound
abbrev pub two_rows : List Row
two_rows = row_of_line 0 13836000 ∷ row_of_line 2 13836000 ∷ row_of_line 4 12836000 ∷ []

abbrev pub three_rows : List Row
three_rows = row_of_line 0 13836000 ∷ row_of_line 2 13836000 ∷ row_of_line 4 13836000 ∷ row_of_line 6 12836000 ∷ []

-- the row of the last port of the fork, where the bursts of both streams may meet, and its certificate
abbrev pub row_with_two : Row
row_with_two = row_with 2 6 0 200000000000 24672 0 672 24000000 25172000

abbrev pub fork_rows : List Row
fork_rows = row_of_line 0 13836000 ∷ row_with_two ∷ row_of_line 4 13836000 ∷ []

-- where the first stream is of class 5 at the bridge: its row there, and the certificate
abbrev pub row_of_lowered : Row
row_of_lowered = row_with 2 5 100000000000 100000000000 24672 0 672 26666667 27838667

abbrev pub hop_rows : List Row
hop_rows =
    row_of_line 0 13836000
    ∷ row_of_lowered
    ∷ row_with 2 6 0 100000000000 12336 12336 672 24000000 25172000
    ∷ row_of_line 4 13836000
    ∷ []

-- the rows of the line with a flow, at the station's port and at the bridge's
abbrev pub row_with_flow : Row
row_with_flow = row_with 0 6 0 100000000000 12336 12336 672 24000000 26172000

abbrev pub next_row_with_flow : Row
next_row_with_flow = row_with 2 6 0 100000000000 12336 12336 672 24000000 25172000

-- a row for flows, at the station's port
abbrev pub row_of_flows : Row
row_of_flows = row_with 0 0 100000000000 0 12336 0 672 12960000 15132000

-- the rows of the pair, of which the second is as it should be
abbrev pub pair_rows : Row → List Row
pair_rows first = first ∷ row_with 2 6 0 150000000000 13008 0 672 12336000 13508000 ∷ []

-- the rows of the fast stream, with these picoseconds of each second
abbrev pub fast_rows : ℕ → List Row
fast_rows equal =
    row_with 0 6 0 equal 12336 0 672 11664000 13836000 ∷ row_with 2 6 0 equal 12336 0 672 11664000 12836000 ∷ []
