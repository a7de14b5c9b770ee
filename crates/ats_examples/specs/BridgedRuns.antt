use Rattle.std.specs.Prelude.{ℕ, List, [], ◌∷◌}
use Rattle.ats_trace.specs.Journey.{Travel}
use Rattle.ats_examples.specs.Runs.{hop, sunk}

-- Runs over more than one bridge.

-- one frame, which each bridge sends when it comes
abbrev pub one_over_two : Travel
one_over_two =
    sunk 0 0 1522
    (hop 0 0 0 12336000 ∷ hop 13836000 13836000 13836000 26172000 ∷ hop 27672000 27672000 27672000 40008000 ∷ [])
    40508000

abbrev pub one_over_three : Travel
one_over_three =
    sunk 0 0 1522
    (
    hop 0 0 0 12336000 ∷ hop 13836000 13836000 13836000 26172000
    ∷ hop 27672000 27672000 27672000 40008000 ∷ hop 41508000 41508000 41508000 53844000 ∷ []
    )
    54344000

-- and a second one at once, each as large as the burst, which its listener gets at this time: the first bridge holds
-- the second back until the rate has given the burst again, 123360000 ps after the first, and no later one has to
abbrev pub two_over_two : ℕ → List Travel
two_over_two arrival =
    one_over_two
    ∷ sunk 0 0 1522
    (hop 0 0 12336000 24672000 ∷ hop 26172000 137196000 137196000 149532000
    ∷ hop 151032000 151032000 151032000 163368000 ∷ [])
    arrival
    ∷ []

abbrev pub two_over_three : ℕ → List Travel
two_over_three arrival =
    one_over_three
    ∷ sunk 0 0 1522
    (
    hop 0 0 12336000 24672000 ∷ hop 26172000 137196000 137196000 149532000
    ∷ hop 151032000 151032000 151032000 163368000 ∷ hop 164868000 164868000 164868000 177204000 ∷ []
    )
    arrival
    ∷ []

-- the second frame over two bridges where the second of them makes it eligible 1 ps later, and all else is the same
abbrev pub eligible_later : List Travel
eligible_later =
    one_over_two
    ∷ sunk 0 0 1522
    (hop 0 0 12336000 24672000 ∷ hop 26172000 137196000 137196000 149532000
    ∷ hop 151032000 151032001 151032000 163368000 ∷ [])
    163868000
    ∷ []

-- a frame of 1522 octets and one of 64 of each of two streams, at once. The first bridge holds both small ones back
-- until 20556000, when they become eligible together, and so they do at 46728000 and at 60564000. That of the second
-- stream goes first at the first bridge and at the next, and that of the first stream at the last
abbrev pub by_two_keys : List Travel
by_two_keys =
    sunk 0 0 1522
    (
    hop 0 0 0 12336000 ∷ hop 13836000 13836000 13836000 26172000
    ∷ hop 27672000 27672000 27672000 40008000 ∷ hop 41508000 41508000 41508000 53844000 ∷ []
    )
    54344000
    ∷ sunk 0 0 64
    (
    hop 0 0 12336000 13008000 ∷ hop 14508000 20556000 39180000 39852000
    ∷ hop 41352000 46728000 53016000 53688000 ∷ hop 55188000 60564000 66180000 66852000 ∷ []
    )
    67352000
    ∷ sunk 0 1 1522
    (
    hop 0 0 0 12336000 ∷ hop 13836000 13836000 26172000 38508000
    ∷ hop 40008000 40008000 40008000 52344000 ∷ hop 53844000 53844000 53844000 66180000 ∷ []
    )
    66680000
    ∷ sunk 0 1 64
    (
    hop 0 0 12336000 13008000 ∷ hop 14508000 20556000 38508000 39180000
    ∷ hop 40680000 46728000 52344000 53016000 ∷ hop 54516000 60564000 66852000 67524000 ∷ []
    )
    68024000
    ∷ []
