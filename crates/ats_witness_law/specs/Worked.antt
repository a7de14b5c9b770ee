use Rattle.std.specs.Prelude.{◌≡◌, ℕ, List, [], ◌∷◌}
use Rattle.ats_network.specs.Network.{DeclaredNetwork, IsNetwork, long_network}
use Rattle.ats_bound.specs.Least.{least_certificate}
use Rattle.ats_trace.specs.Journey.{Travel}
use Rattle.ats_trace.specs.Run.{IsRunBy}
use Rattle.ats_trace.specs.declared.journey.Release.{Release}
use Rattle.ats_witness.specs.Burst.{IsBurstFor}
use Rattle.ats_witness.specs.Delay.{IsGreatestDelay}
use Rattle.ats_witness.specs.Found.{AreFound, IsFirstGreatest, IsFoundAt, bound_for, found_delays, greatest_wait}
use Rattle.ats_examples.specs.Networks.{flow, fork, line_and_flow, stream}
use Rattle.ats_examples.specs.Runs.{hop, sunk}
use Rattle.ats_tree_examples.specs.Networks.{split, split_and_flow, split_stream, split_topology, tree}
use Rattle.ats_tree_examples.specs.Runs.{behind_flow, copied, copy}
use Rattle.std.specs.Prelude.{codes}

-- the release of a sender's frame of 1522 octets
abbrev pub release : ℕ → ℕ → Release
release at sender = record { at = record { 0 = at }; sender = sender; octets = 1522 }

-- a frame of the fork's first stream that nothing delays
abbrev pub alone : List Travel
alone = sunk 1 0 1522 (hop 1 1 1 12336001 ∷ hop 13836001 13836001 13836001 26172001 ∷ []) 26672001 ∷ []

-- and one that comes to the last port together with a frame of the other stream, which goes first
abbrev pub behind_the_other : List Travel
behind_the_other =
    sunk 1 0 1522 (hop 1 1 1 12336001 ∷ hop 13836001 13836001 26172001 38508001 ∷ []) 39008001
    ∷ sunk 1 1 1522 (hop 1 1 1 12336001 ∷ hop 13836001 13836001 13836001 26172001 ∷ []) 26672001
    ∷ []

-- where it goes first
abbrev pub before_the_other : List Travel
before_the_other =
    sunk 1 0 1522 (hop 1 1 1 12336001 ∷ hop 13836001 13836001 13836001 26172001 ∷ []) 26672001
    ∷ sunk 1 1 1522 (hop 1 1 1 12336001 ∷ hop 13836001 13836001 26172001 38508001 ∷ []) 39008001
    ∷ []

-- at each of its ports the fork's first stream has a delay, and the burst there is this one; the second delay is
-- the greatest, and the sum of its least bounds. On the line a frame of the flow is a picosecond ahead at both ports,
-- and the delay found is less than the bound
pub record FoundDelaysAreMet : Type 0 where
  pub fork_rules : IsNetwork fork
  pub fork_first : IsBurstFor fork 0 0 (release 1 0 ∷ [])
  pub fork_second : IsBurstFor fork 0 2 (release 1 0 ∷ release 1 1 ∷ [])
  pub fork_alone : IsFoundAt fork 0 0 0 26672000
  pub fork_together : IsFoundAt fork 0 0 2 39008000
  pub fork_greatest : IsFirstGreatest (26672000 ∷ 39008000 ∷ []) 1
  pub fork_bound : bound_for (least_certificate fork) (stream (codes "a") (0 ∷ 2 ∷ [])) 0 ≡ 39008000
  pub line_rules : IsNetwork line_and_flow
  pub line_first : IsBurstFor line_and_flow 0 0 (release 0 1 ∷ release 1 0 ∷ [])
  pub line_second : IsBurstFor line_and_flow 0 2 (release 0 1 ∷ release 1 0 ∷ [])
  pub line_behind : IsFoundAt line_and_flow 0 0 0 39007999
  pub line_also : IsFoundAt line_and_flow 0 0 2 39007999
  pub line_greatest : IsFirstGreatest (39007999 ∷ 39007999 ∷ []) 0
  pub line_bound : bound_for (least_certificate line_and_flow) (stream (codes "a") (0 ∷ 2 ∷ [])) 0 ≡ 51344000

-- a frame for two listeners that nothing delays
abbrev pub alone_to_both : List Travel
alone_to_both =
    copied (sunk 1 0 1522 (hop 1 1 1 12336001 ∷ hop 13836001 13836001 13836001 26172001 ∷ []) 26672001)
    (copy (hop 13836001 13836001 13836001 26172001 ∷ []) 26672001 ∷ [])
    ∷ []

-- a stream has two listeners, and a flow is in the way at the port to the first. The greatest delay for the first is
-- found there, and is less than the sum of its bounds. The second has a delay for each port of the route to it, the
-- greatest at the first port, and this is the sum of its bounds; at the port to it the stream is alone. In the run in
-- which the first listener's frame waits for the flow's, the copy does not
pub record EachListenerIsFound : Type 0 where
  pub rules : IsNetwork split_and_flow
  pub first : AreFound split_and_flow 0 0
      (found_delays (26672000 ∷ 39007999 ∷ []) 1 (release 0 1 ∷ release 1 0 ∷ []))
  pub second : AreFound split_and_flow 0 1 (found_delays (26672000 ∷ 26672000 ∷ []) 0 (release 1 0 ∷ []))
  pub branch : IsBurstFor split_and_flow 0 4 (release 1 0 ∷ [])
  pub beside : IsFoundAt split_and_flow 0 1 2 26672000
  pub not_of_first : ¬ IsGreatestDelay behind_flow 0 1 39007999
  pub first_bound : bound_for (least_certificate split_and_flow) (split_stream (6 ∷ []) 1000000) 0 ≡ 39008000
  pub second_bound : bound_for (least_certificate split_and_flow) (split_stream (6 ∷ []) 1000000) 1 ≡ 26672000

-- the split with a flow from s2 to s3, which has number 1: it is in the way at the port to the second listener alone
abbrev pub split_and_flow_to_second : DeclaredNetwork
split_and_flow_to_second = long_network split_topology split.streams (flow (codes "f") (3 ∷ 4 ∷ []) ∷ [])

-- a frame of this flow, for which the copy to the second listener waits, and the frame to the first does not
abbrev pub copy_behind_flow : List Travel
copy_behind_flow =
    sunk 0 1 1522 (hop 0 0 0 12336000 ∷ hop 13836000 13836000 13836000 26172000 ∷ []) 26672000
    ∷ copied (sunk 1 0 1522 (hop 1 1 1 12336001 ∷ hop 13836001 13836001 13836001 26172001 ∷ []) 26672001)
    (copy (hop 13836001 13836001 26172000 38508000 ∷ []) 39008000 ∷ [])
    ∷ []

-- a frame over the tree that nothing delays
abbrev pub alone_over_tree : List Travel
alone_over_tree =
    copied
    (sunk 1 0 1522
    (hop 1 1 1 12336001 ∷ hop 13836001 13836001 13836001 26172001 ∷ hop 27672001 27672001 27672001 40008001 ∷ [])
    40508001)
    (
    copy (hop 13836001 13836001 13836001 26172001 ∷ []) 26672001
    ∷ copy (hop 27672001 27672001 27672001 40008001 ∷ hop 41508001 41508001 41508001 53844001 ∷ []) 54344001
    ∷ copy (hop 41508001 41508001 41508001 53844001 ∷ []) 54344001
    ∷ []
    )
    ∷ []

-- what is found for a further listener goes by the ports of its own route. Where a flow is in the way at the port to it
-- alone, its greatest delay is found there, and not at the trunk's; and where its route is longer than the trunk, it
-- has a delay for each port of the route
pub record FurtherListenersAreFound : Type 0 where
  pub rules : IsNetwork split_and_flow_to_second
  pub first : AreFound split_and_flow_to_second 0 0 (found_delays (26672000 ∷ 26672000 ∷ []) 0 (release 1 0 ∷ []))
  pub second : AreFound split_and_flow_to_second 0 1
      (found_delays (26672000 ∷ 39007999 ∷ []) 1 (release 0 1 ∷ release 1 0 ∷ []))
  pub trunk : IsBurstFor split_and_flow_to_second 0 2 (release 1 0 ∷ [])
  pub second_bound : bound_for (least_certificate split_and_flow_to_second) (split_stream (6 ∷ []) 1000000) 1
      ≡ 39008000
  pub tree_rules : IsNetwork tree
  pub third : AreFound tree 0 2
      (found_delays (54344000 ∷ 54344000 ∷ 54344000 ∷ 54344000 ∷ []) 0 (release 1 0 ∷ []))

-- a frame that is released a picosecond early makes releases no burst, and so does one in the wrong place; no frame of
-- the stream takes a picosecond longer in that run; and where the stream goes first, as by its number, it takes less
pub record BurstsCount : Type 0 where
  pub early : ¬ IsBurstFor fork 0 2 (release 0 1 ∷ release 1 0 ∷ [])
  pub turned : ¬ IsBurstFor fork 0 2 (release 1 1 ∷ release 1 0 ∷ [])
  pub no_longer : ¬ IsGreatestDelay behind_the_other 0 0 39008001
  pub goes_first : IsRunBy (λ sender frame. frame) greatest_wait fork before_the_other
  pub takes_less : IsGreatestDelay before_the_other 0 0 26672000
