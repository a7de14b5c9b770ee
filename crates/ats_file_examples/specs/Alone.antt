use Rattle.std.specs.Prelude.{◌≡◌, ℕ, List, [], ◌∷◌, ◌++◌, codes, None}
use Rattle.ats_topology.specs.Topology.{topology_of}
use Rattle.ats_streams.specs.Flow.{DeclaredFlow, declared_flow}
use Rattle.ats_streams.specs.Stream.{DeclaredStream, declared_stream}
use Rattle.ats_network.specs.Network.{DeclaredNetwork, declared_network}
use Rattle.ats_network_text.specs.Text.{show_text}
use Rattle.ats_explain_text.specs.Text.{explain_text}
use Rattle.ats_examples.specs.Networks.{fork_links, fork_nodes}

-- Networks with ports that flows alone use, and with senders that are alike in some way; and what is printed of them.

-- a stream from s1 to s2, by its class and its longest frame
abbrev pub one_stream : List ℕ → ℕ → ℕ → DeclaredStream
one_stream name class most =
    declared_stream name (0 ∷ 2 ∷ []) (class ∷ class ∷ []) 100000000 12336 64 most 1000000 None

-- a flow from s3 to s2, by its longest frame
abbrev pub one_flow : List ℕ → ℕ → DeclaredFlow
one_flow name most = declared_flow name (4 ∷ 2 ∷ []) most

-- the fork with these streams and flows
abbrev pub forked : List DeclaredStream → List DeclaredFlow → DeclaredNetwork
forked streams flows = declared_network (topology_of fork_nodes fork_links) streams flows

-- one stream and two flows with frames of one length, which use a port alone
abbrev pub flows_alone : DeclaredNetwork
flows_alone = forked (one_stream (codes "a") 6 1522 ∷ []) (one_flow (codes "f") 1000 ∷ one_flow (codes "g") 1000 ∷ [])

abbrev pub shown_alone : List ℕ
shown_alone =
    codes "port 0 s1>b1 1000 1500000\n" ++ codes "port 1 b1>s1 1000 500000\n" ++ codes "port 2 b1>s2 1000 500000\n"
    ++ codes "port 3 s2>b1 1000 1500000\n" ++ codes "port 4 s3>b1 1000 1500000\n" ++ codes "port 5 b1>s3 1000 500000\n"
    ++ codes "stream a 6 s1>b1 b1>s2\n" ++ codes "flow f 0 s3>b1 b1>s2\n" ++ codes "flow g 0 s3>b1 b1>s2\n"
    ++ codes "total ports 6 streams 1 flows 2\n"

-- of the flows the first is named; and no port but those of the stream is told
abbrev pub explained_alone : List ℕ
explained_alone =
    codes "stream a sum 34832000 deadline 1000000000 slack 965168000\n"
    ++ codes "hop s1>b1 6 lower 0 - bursts 11664000 higher 0 frame 672000 latency 1500000 bound 13836000 "
    ++ codes "stay 11664000 of 11664000\n"
    ++ codes "hop b1>s2 6 lower 8160000 f bursts 11664000 higher 0 frame 672000 latency 500000 bound 20996000\n"
    ++ codes "port s1>b1 load 100000000000\n" ++ codes "port b1>s2 load 100000000000\n"
    ++ codes "total streams 1 late 0 over 0 tightest a slack 965168000\n"

-- where the second flow has the longer frames
abbrev pub second_longer : DeclaredNetwork
second_longer =
    forked (one_stream (codes "a") 6 1522 ∷ []) (one_flow (codes "f") 999 ∷ one_flow (codes "g") 1000 ∷ [])

abbrev pub explained_second : List ℕ
explained_second =
    codes "stream a sum 34832000 deadline 1000000000 slack 965168000\n"
    ++ codes "hop s1>b1 6 lower 0 - bursts 11664000 higher 0 frame 672000 latency 1500000 bound 13836000 "
    ++ codes "stay 11664000 of 11664000\n"
    ++ codes "hop b1>s2 6 lower 8160000 g bursts 11664000 higher 0 frame 672000 latency 500000 bound 20996000\n"
    ++ codes "port s1>b1 load 100000000000\n" ++ codes "port b1>s2 load 100000000000\n"
    ++ codes "total streams 1 late 0 over 0 tightest a slack 965168000\n"

-- a stream of a lower class, whose frames are as long as those of the flows, is named before them, but for itself
abbrev pub lower_stream : DeclaredNetwork
lower_stream = forked (one_stream (codes "a") 6 1522 ∷ one_stream (codes "b") 5 1000 ∷ [])
    (one_flow (codes "f") 1000 ∷ one_flow (codes "g") 1000 ∷ [])

abbrev pub explained_lower : List ℕ
explained_lower =
    codes "stream a sum 42992000 deadline 1000000000 slack 957008000\n"
    ++ codes "hop s1>b1 6 lower 8160000 b bursts 11664000 higher 0 frame 672000 latency 1500000 bound 21996000 "
    ++ codes "stay 19824000 of 11664000\n"
    ++ codes "hop b1>s2 6 lower 8160000 b bursts 11664000 higher 0 frame 672000 latency 500000 bound 20996000\n"
    ++ codes "stream b sum 65744001 deadline 1000000000 slack 934255999\n"
    ++ codes "hop s1>b1 5 lower 0 - bursts 24000000 higher 2666667 frame 672000 latency 1500000 bound 28838667 "
    ++ codes "stay 26666667 of 11664000\n"
    ++ codes "hop b1>s2 5 lower 8160000 f bursts 24000000 higher 3573334 frame 672000 latency 500000 bound 36905334\n"
    ++ codes "port s1>b1 load 200000000000\n" ++ codes "port b1>s2 load 200000000000\n"
    ++ codes "total streams 2 late 0 over 2 tightest b slack 934255999\n"

-- two streams that differ in their names alone: the first is the tightest, and the port behind which both may stay too
-- long counts for each
abbrev pub alike : DeclaredNetwork
alike = forked (one_stream (codes "a") 6 1522 ∷ one_stream (codes "b") 6 1522 ∷ []) []

abbrev pub explained_alike : List ℕ
explained_alike =
    codes "stream a sum 51344000 deadline 1000000000 slack 948656000\n"
    ++ codes "hop s1>b1 6 lower 0 - bursts 24000000 higher 0 frame 672000 latency 1500000 bound 26172000 "
    ++ codes "stay 24000000 of 11664000\n"
    ++ codes "hop b1>s2 6 lower 0 - bursts 24000000 higher 0 frame 672000 latency 500000 bound 25172000\n"
    ++ codes "stream b sum 51344000 deadline 1000000000 slack 948656000\n"
    ++ codes "hop s1>b1 6 lower 0 - bursts 24000000 higher 0 frame 672000 latency 1500000 bound 26172000 "
    ++ codes "stay 24000000 of 11664000\n"
    ++ codes "hop b1>s2 6 lower 0 - bursts 24000000 higher 0 frame 672000 latency 500000 bound 25172000\n"
    ++ codes "port s1>b1 load 200000000000\n" ++ codes "port b1>s2 load 200000000000\n"
    ++ codes "total streams 2 late 0 over 2 tightest a slack 948656000\n"

-- flows and no stream
abbrev pub no_streams : DeclaredNetwork
no_streams = forked [] (one_flow (codes "f") 1000 ∷ [])

abbrev pub shown_without : List ℕ
shown_without =
    codes "port 0 s1>b1 1000 1500000\n" ++ codes "port 1 b1>s1 1000 500000\n" ++ codes "port 2 b1>s2 1000 500000\n"
    ++ codes "port 3 s2>b1 1000 1500000\n" ++ codes "port 4 s3>b1 1000 1500000\n" ++ codes "port 5 b1>s3 1000 500000\n"
    ++ codes "flow f 0 s3>b1 b1>s2\n" ++ codes "total ports 6 streams 0 flows 1\n"

-- to `show` and to `explain`
pub record FlowsAreWritten : Type 0 where
  pub show : show_text flows_alone ≡ shown_alone
  pub explain : explain_text flows_alone ≡ explained_alone
  pub second : explain_text second_longer ≡ explained_second
  pub lower : explain_text lower_stream ≡ explained_lower
  pub both : explain_text alike ≡ explained_alike
  pub show_without : show_text no_streams ≡ shown_without
  pub explain_without : explain_text no_streams ≡ codes "total streams 0 late 0 over 0\n"
