use Rattle.std.specs.Prelude.{ℕ, List, [], ◌++◌, length, codes, decimal, Option, Some, None, slice_get, slice_index}
use Rattle.std.specs.List.{enumerate_from, flat_map}
use Rattle.ats_topology.specs.Topology.{DeclaredTopology}
use Rattle.ats_port_names.specs.PortName.{port_name}
use Rattle.ats_certificate.specs.declared.row.Row.{Row}

-- ` peak BITS`, where there is a peak
abbrev pub peak_text : Option ℕ → List ℕ
peak_text None = []
peak_text (Some peak) = codes " peak " ++ decimal peak

-- `buffer PORT CLASS BITS` for the port and the class of a row, and its peak, where there is one
unfoldable pub row_line : DeclaredTopology → Row → ℕ → Option ℕ → List ℕ
row_line topology row bits peak =
    codes "buffer " ++ port_name topology row.port ++ codes " " ++ decimal row.class ++ codes " " ++ decimal bits
    ++ peak_text peak ++ codes "\n"

-- the peak with a number, where peaks are given
abbrev pub peak_of : Option (List ℕ) → ℕ → Option ℕ
peak_of None n = None
peak_of (Some peaks) n = slice_get peaks n

-- the line of a row with its number
abbrev pub numbered_line : DeclaredTopology → List ℕ → Option (List ℕ) → ℕ × Row → List ℕ
numbered_line topology buffers peaks numbered =
    row_line topology numbered.1 (slice_index buffers numbered.0) (peak_of peaks numbered.0)

-- the lines of rows, in their order, with these buffers and peaks
abbrev pub row_lines : DeclaredTopology → List Row → List ℕ → Option (List ℕ) → List ℕ
row_lines topology rows buffers peaks = flat_map (numbered_line topology buffers peaks) (enumerate_from 0 rows)

-- what is printed of the buffers of rows, and of their peaks, where these are given: a line for each row, and
-- `rows ROWS`
unfoldable pub buffers_text : DeclaredTopology → List Row → List ℕ → Option (List ℕ) → List ℕ
buffers_text topology rows buffers peaks =
    row_lines topology rows buffers peaks ++ codes "rows " ++ decimal (length rows) ++ codes "\n"
