use Rattle.std.specs.Prelude.{◌≡◌, ℕ, ◌*◌, List, [], ◌∷◌, codes, Some, None}
use Rattle.ats_topology.specs.Topology.{topology_of}
use Rattle.ats_topology.specs.declared.node.Node.{Node}
use Rattle.ats_streams.specs.Stream.{DeclaredStream, declared_stream}
use Rattle.ats_network.specs.Network.{DeclaredNetwork, declared_network}
use Rattle.ats_certificate.specs.declared.row.Row.{Row}
use Rattle.ats_tally.specs.declared.reason.Reason.TheVariants.{Overloaded, Residence, Deadline}
use Rattle.ats_bound.specs.Reason.{reason_of}
use Rattle.ats_checker.specs.Refusal.{refusal_of}
use Rattle.ats_checker.specs.declared.refusal.Field.TheVariants as field
use Rattle.ats_checker.specs.declared.refusal.Refusal.TheVariants.{RowMissing, RowStray, FieldWrong, WaitTooSmall}
use Rattle.ats_checker.specs.declared.refusal.Refusal.TheVariants.{Network}
use Rattle.ats_examples.specs.Networks.{bridge, fork_links, line_links, nodes_with, station}
use Rattle.ats_examples.specs.Rows.{row_with}

-- Rows and networks with several causes against them at once, and which of them is named.

-- the fork, with this maximum residence time, and two streams with this rate and this deadline, which meet at port 2
abbrev pub fork_nodes : ℕ → List Node
fork_nodes residence_ns =
    station (codes "s1") ∷ station (codes "s2") ∷ station (codes "s3") ∷ bridge (codes "b1") residence_ns ∷ []

abbrev pub stream_with : ℕ → ℕ → List ℕ → List ℕ → DeclaredStream
stream_with rate deadline_ns name path =
    declared_stream name path (6 ∷ 6 ∷ []) rate 12336 64 1522 deadline_ns None

abbrev pub meeting : ℕ → ℕ → ℕ → DeclaredNetwork
meeting rate residence_ns deadline_ns = declared_network (topology_of (fork_nodes residence_ns) fork_links)
    (stream_with rate deadline_ns (codes "a") (0 ∷ 2 ∷ []) ∷ stream_with rate deadline_ns (codes "z") (4 ∷ 2 ∷ []) ∷ [])
    []

-- where they overload port 2, a frame may have to stay behind ports 0 and 4 for 1 ns too long, and both are late; and
-- the same without the first of these, without the first two, and without all of them
abbrev pub with_overload : DeclaredNetwork
with_overload = meeting 600000000 11663 1

abbrev pub with_overstay : DeclaredNetwork
with_overstay = meeting 100000000 11663 1

abbrev pub with_late : DeclaredNetwork
with_late = meeting 100000000 11664 1

abbrev pub with_none : DeclaredNetwork
with_none = meeting 100000000 11664 1000000

-- the rows of a network whose streams have this rate: of a port before the bridge, and of the one behind it
abbrev pub row_before : ℕ → ℕ → Row
row_before rate port = row_with port 6 0 (1000 * rate) 12336 0 672 11664000 13836000

abbrev pub row_behind : ℕ → Row
row_behind rate = row_with 2 6 0 (2000 * rate) 24672 0 672 24000000 25172000

-- with a bound that is not the one that follows, and with a wait that is 1 ps too short
abbrev pub wrong_before : ℕ → ℕ → Row
wrong_before rate port = row_with port 6 0 (1000 * rate) 12336 0 672 11664000 1

abbrev pub wrong_behind : ℕ → Row
wrong_behind rate = row_with 2 6 0 (2000 * rate) 24672 0 672 24000000 1

abbrev pub short_before : ℕ → ℕ → Row
short_before rate port = row_with port 6 0 (1000 * rate) 12336 0 672 11663999 13835999

abbrev pub short_behind : ℕ → Row
short_behind rate = row_with 2 6 0 (2000 * rate) 24672 0 672 23999999 25171999

-- a row of a port and a class that no stream has
abbrev pub stray_row : ℕ → ℕ → Row
stray_row port class = row_with port class 1 1 1 1 1 1 1

-- of the clauses the first that fails is named, whether the rows that break a later one stand before or behind: here on
-- both sides, or on either in turn
pub record ClausesAreFirst : Type 0 where
  pub missing : refusal_of with_overload
      (stray_row 0 5 ∷ wrong_before 600000000 0 ∷ wrong_before 600000000 4 ∷ stray_row 4 7 ∷ [])
      ≡ Some (RowMissing 2 6)
  pub stray : refusal_of with_overload
      (wrong_before 600000000 0 ∷ stray_row 1 6 ∷ row_behind 600000000 ∷ wrong_before 600000000 4 ∷ [])
      ≡ Some (RowStray 1 6)
  pub wrong_before_overload : refusal_of with_overload
      (wrong_before 600000000 0 ∷ row_behind 600000000 ∷ row_before 600000000 4 ∷ [])
      ≡ Some (FieldWrong 0 6 field.Bound 13836000)
  pub wrong_behind_overload : refusal_of with_overload
      (row_before 600000000 0 ∷ row_behind 600000000 ∷ wrong_before 600000000 4 ∷ [])
      ≡ Some (FieldWrong 4 6 field.Bound 13836000)
  pub wrong_behind_short : refusal_of with_overstay
      (short_before 100000000 0 ∷ wrong_behind 100000000 ∷ short_before 100000000 4 ∷ [])
      ≡ Some (FieldWrong 2 6 field.Bound 25172000)
  pub overload : refusal_of with_overload
      (short_before 600000000 0 ∷ row_behind 600000000 ∷ short_before 600000000 4 ∷ [])
      ≡ Some (Network (Overloaded 2 6 1200000000000))
  pub short : refusal_of with_overstay (row_before 100000000 0 ∷ short_behind 100000000 ∷ row_before 100000000 4 ∷ [])
      ≡ Some (WaitTooSmall 2 6 24000000)
  pub overstay : refusal_of with_overstay (row_before 100000000 0 ∷ row_behind 100000000 ∷ row_before 100000000 4 ∷ [])
      ≡ Some (Network (Residence 0 6 11664000))
  pub late : refusal_of with_late (row_before 100000000 0 ∷ row_behind 100000000 ∷ row_before 100000000 4 ∷ [])
      ≡ Some (Network (Deadline (codes "a") None 39008000))
  pub none : refusal_of with_none (row_before 100000000 0 ∷ row_behind 100000000 ∷ row_before 100000000 4 ∷ []) ≡ None

-- of two that break one clause the first is named
pub record FirstOfAClause : Type 0 where
  pub missing : refusal_of with_none (row_behind 100000000 ∷ []) ≡ Some (RowMissing 0 6)
  pub stray : refusal_of with_none
      (row_before 100000000 0 ∷ stray_row 1 6 ∷ row_behind 100000000 ∷ row_before 100000000 4 ∷ stray_row 5 6 ∷ [])
      ≡ Some (RowStray 1 6)
  pub wrong : refusal_of with_none (row_before 100000000 0 ∷ wrong_behind 100000000 ∷ wrong_before 100000000 4 ∷ [])
      ≡ Some (FieldWrong 2 6 field.Bound 25172000)
  pub short : refusal_of with_none (short_before 100000000 0 ∷ short_behind 100000000 ∷ row_before 100000000 4 ∷ [])
      ≡ Some (WaitTooSmall 0 6 11664000)

-- rows whose first one says this
abbrev pub first_row : Row → List Row
first_row row = row ∷ row_behind 100000000 ∷ row_before 100000000 4 ∷ []

-- of the fields of a row the first that is wrong is named, with what should stand there; all are wrong, and one less
-- each time
pub record FieldsAreFirst : Type 0 where
  pub higher : refusal_of with_none (first_row (row_with 0 6 1 1 1 1 1 11664000 1))
      ≡ Some (FieldWrong 0 6 field.Higher 0)
  pub equal : refusal_of with_none (first_row (row_with 0 6 0 1 1 1 1 11664000 1))
      ≡ Some (FieldWrong 0 6 field.Equal 100000000000)
  pub bursts : refusal_of with_none (first_row (row_with 0 6 0 100000000000 1 1 1 11664000 1))
      ≡ Some (FieldWrong 0 6 field.Bursts 12336)
  pub lower : refusal_of with_none (first_row (row_with 0 6 0 100000000000 12336 1 1 11664000 1))
      ≡ Some (FieldWrong 0 6 field.Lower 0)
  pub least : refusal_of with_none (first_row (row_with 0 6 0 100000000000 12336 0 1 11664000 1))
      ≡ Some (FieldWrong 0 6 field.Least 672)
  pub bound : refusal_of with_none (first_row (row_with 0 6 0 100000000000 12336 0 672 11664000 1))
      ≡ Some (FieldWrong 0 6 field.Bound 13836000)
  pub none : refusal_of with_none (first_row (row_with 0 6 0 100000000000 12336 0 672 11664000 13836000)) ≡ None

-- a longer wait, with the bound that follows, is enough as well
pub record WaitsMayBeLonger : Type 0 where
  pub longer : refusal_of with_none (first_row (row_with 0 6 0 100000000000 12336 0 672 11664001 13836001))
      ≡ Some (Network (Residence 0 6 11664001))
  pub may_stay : refusal_of (meeting 100000000 11665 1000000)
      (first_row (row_with 0 6 0 100000000000 12336 0 672 11664001 13836001)) ≡ None

-- two streams on the line with this maximum residence time and these rates, the first of class 6 and the second of
-- class 5
abbrev pub two_within : ℕ → ℕ → ℕ → DeclaredNetwork
two_within residence_ns upper lower = declared_network (topology_of (nodes_with residence_ns) line_links)
    (declared_stream (codes "a") (0 ∷ 2 ∷ []) (6 ∷ 6 ∷ []) upper 12336 64 1522 1000000 None
    ∷ declared_stream (codes "b") (0 ∷ 2 ∷ []) (5 ∷ 5 ∷ []) lower 12336 64 1522 1000000 None ∷ []) []

abbrev pub of_two_classes : ℕ → ℕ → DeclaredNetwork
of_two_classes upper lower = two_within 1000000 upper lower

-- against a network an overload is named before a need of residence, and this before a stream that is late, wherever
-- each is. Of overloads and of such needs the one of the lowest port is named, and there of the lowest class; so is a
-- missing row. The load of a class has that of the higher ones too, and a load of just the link is none too much
pub record ReasonsAreFirst : Type 0 where
  pub overload : reason_of with_overload ≡ Some (Overloaded 2 6 1200000000000)
  pub overstay : reason_of with_overstay ≡ Some (Residence 0 6 11664000)
  pub late : reason_of with_late ≡ Some (Deadline (codes "a") None 39008000)
  pub none : reason_of with_none ≡ None
  pub both_classes : reason_of (of_two_classes 1100000000 600000000) ≡ Some (Overloaded 0 5 1700000000000)
  pub staying_class : reason_of (two_within 1 100000000 100000000) ≡ Some (Residence 0 5 26666667)
  pub missing_class : refusal_of (of_two_classes 100000000 100000000) [] ≡ Some (RowMissing 0 5)
  pub lower_class : reason_of (of_two_classes 600000000 600000000) ≡ Some (Overloaded 0 5 1200000000000)
  pub just_more : reason_of (of_two_classes 400000000 600000001) ≡ Some (Overloaded 0 5 1000000001000)
  pub just_the_link : reason_of (of_two_classes 400000000 600000000) ≡ None

pub record CausesAreFirst : Type 0 where
  pub clauses : ClausesAreFirst
  pub of_a_clause : FirstOfAClause
  pub fields : FieldsAreFirst
  pub waits : WaitsMayBeLonger
  pub reasons : ReasonsAreFirst
