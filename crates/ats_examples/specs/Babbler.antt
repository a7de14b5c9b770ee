use Rattle.std.specs.Prelude.{ℕ, ◌+◌, ◌*◌, List, [], ◌∷◌, ◌++◌, map, None}
use Rattle.ats_group.specs.declared.verdict.Verdict.TheVariants.{Late}
use Rattle.ats_trace.specs.Journey.{Travel}
use Rattle.ats_trace.specs.declared.journey.Ending.TheVariants.{Discard}
use Rattle.ats_examples.specs.Runs.{hop, sunk}

-- A station of the fork babbles: it releases 23 small frames of its stream at once, of which 18 fill its bucket. The
-- other stream's frame comes to the bridge among them.

-- the other's frame is eligible when it comes, and sent when that of the babbler's is over which the bridge was sending
abbrev pub beside : Travel
beside = sunk 0 0 1522 (hop 0 0 0 12336000 ∷ hop 13836000 13836000 14268000 26604000 ∷ []) 27104000

-- frame k of the babbler, which its station sends as the next one, comes to the bridge when the one before it is sent
-- on
abbrev pub at_station : ℕ → ℕ
at_station k = 672000 * k

abbrev pub at_bridge : ℕ → ℕ
at_bridge k = 2172000 + 672000 * k

-- it is eligible there at this time, and sent at that
abbrev pub babble : ℕ → ℕ → ℕ → Travel
babble k eligible start =
    sunk 0 1 64 (hop 0 0 (at_station k) (at_station k + 672000) ∷ hop (at_bridge k) eligible start (start + 672000)
    ∷ []) (start + 1172000)

-- the first of them go on at once
abbrev pub goes_on_at_once : ℕ → Travel
goes_on_at_once k = babble k (at_bridge k) (at_bridge k)

-- the last would have to stay too long
abbrev pub too_late : Travel
too_late = record {
  release = record { at = record { 0 = 0 }; sender = 1; octets = 64 };
  hops =
      hop 0 0 (at_station 22) (at_station 22 + 672000)
      ∷ record { arrival = record { 0 = at_bridge 22 }; verdict = Late (record { 0 = 33372000 }); sent = None }
      ∷ [];
  ending = Discard;
  copies = [];
}

-- the next two wait behind the other's frame, and two more until their bucket has room too
abbrev pub babbler : List Travel
babbler =
    beside
    ∷ map goes_on_at_once (0 ∷ 1 ∷ 2 ∷ 3 ∷ 4 ∷ 5 ∷ 6 ∷ 7 ∷ 8 ∷ 9 ∷ 10 ∷ 11 ∷ 12 ∷ 13 ∷ 14 ∷ 15 ∷ 16 ∷ 17 ∷ [])
    ++ babble 18 (at_bridge 18) 26604000
    ∷ babble 19 (at_bridge 19) 27276000
    ∷ babble 20 19932000 27948000
    ∷ babble 21 26652000 28620000
    ∷ too_late
    ∷ []
