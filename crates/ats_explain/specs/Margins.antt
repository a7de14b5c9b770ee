use Rattle.std.specs.Prelude.{ℕ, ◌+◌, ◌*◌, Bool, nat_lt, nat_le, List, map, find, Option}
use Rattle.std.specs.List.{list_all, flat_map}
use Rattle.ats_num.specs.declared.time.TheConstants.{PS_PER_NS}
use Rattle.ats_streams.specs.Stream.{DeclaredStream}
use Rattle.ats_network.specs.Network.{DeclaredNetwork}
use Rattle.ats_network.specs.Listeners.{Listener, listeners_of}
use Rattle.ats_certificate.specs.Certificate.{bound_on}
use Rattle.ats_bound.specs.Least.{least_certificate}
use Rattle.ats_explain.specs.declared.margin.Margin.{Margin}

-- a stream and one of its listeners
abbrev pub StreamListener : Type 0
StreamListener = DeclaredStream × Listener

-- a stream with each of its listeners
abbrev pub with_listeners : DeclaredNetwork → DeclaredStream → List StreamListener
with_listeners network stream = map (λ l. (stream, l)) (listeners_of network.topology stream)

-- all listeners, stream by stream
abbrev pub all_listeners : DeclaredNetwork → List StreamListener
all_listeners network = flat_map (with_listeners network) network.streams

-- the sum of a stream's least bounds along a route, and its deadline, in picoseconds
abbrev pub margin_on : DeclaredNetwork → DeclaredStream → List ℕ → Margin
margin_on network stream route = record {
  sum = bound_on (least_certificate network) stream route;
  deadline = PS_PER_NS * stream.deadline_ns;
}

-- those of a listener
abbrev pub margin_of : DeclaredNetwork → StreamListener → Margin
margin_of network one = margin_on network one.0 one.1.route

-- those of each listener, stream by stream
abbrev pub margins_of : DeclaredNetwork → List Margin
margins_of network = map (margin_of network) (all_listeners network)

-- the sum is over the deadline
abbrev pub is_late : Margin → Bool
is_late margin = nat_lt margin.deadline margin.sum

-- the first margin's slack, the deadline less the sum, is no more than the second's; both may be less than 0
abbrev pub is_no_slacker : Margin → Margin → Bool
is_no_slacker a b = nat_le (a.deadline + b.sum) (b.deadline + a.sum)

-- no margin of these has less slack
abbrev pub is_tightest : List Margin → Margin → Bool
is_tightest margins margin = list_all (is_no_slacker margin) margins

-- the first listener of the least slack, if there are streams
abbrev pub tightest_listener : DeclaredNetwork → Option StreamListener
tightest_listener network =
    find (λ one. is_tightest (margins_of network) (margin_of network one)) (all_listeners network)
