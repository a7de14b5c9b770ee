use Rattle.ats_meaning_examples.specs.Kept.{BranchesAreKept, FlowsAreKept, KeptIsMeant, LinksAreKept}
use Rattle.ats_meaning_examples.specs.Kept.{NetworksAreKept, NodesAreKept, PathsAreKept, RatesAreKept, RulesAreKept}
use Rattle.ats_meaning_examples.specs.Kept.{StreamsAreKept, TopologiesAreKept, TreesAreKept}

-- What is kept, part by part.

rules_kept : RulesAreKept
rules_kept rate burst_bits min_octets max_octets = (
  λ k. (k.rate.positive, k.rate.within, k.sizes.least, k.sizes.ordered, k.sizes.most, k.covers, k.burst),
  λ p. record {
    rate = record { positive = p.0; within = p.1 };
    sizes = record { least = p.2; ordered = p.3; most = p.4 };
    covers = p.5;
    burst = p.6;
  },
)

streams_kept : StreamsAreKept
streams_kept s = (
  λ k. (
    λ i d within. (let class = k.classes i d within in (class.least, class.most)),
    k.each_port,
    k.rules,
    k.branches,
    λ i d within. (let route = k.routes i d within in (route.least, route.most)),
    k.deadline,
    k.identity,
  ),
  λ p. record {
    classes = λ i d within. (let class = p.0 i d within in record { least = class.0; most = class.1 });
    each_port = p.1;
    rules = p.2;
    branches = p.3;
    routes = λ i d within. (let route = p.4 i d within in record { least = route.0; most = route.1 });
    deadline = p.5;
    identity = p.6;
  },
)

flows_kept : FlowsAreKept
flows_kept f = (
  λ k. (k.size.least, k.size.most, k.path.least, k.path.most),
  λ p. record { size = record { least = p.0; most = p.1 }; path = record { least = p.2; most = p.3 } },
)

rates_kept : RatesAreKept
rates_kept topology stream = (
  λ k i d within. (
      let at = k i d within in (
        (at.seen.rate.positive, at.seen.rate.within, at.seen.burst),
        (at.scheduled.rate.positive, at.scheduled.rate.within, at.scheduled.burst),
      )),
  λ p i d within. (
      let at = p i d within in
      record {
        seen = record { rate = record { positive = at.0.0; within = at.0.1 }; burst = at.0.2 };
        scheduled = record { rate = record { positive = at.1.0; within = at.1.1 }; burst = at.1.2 };
      }),
)

nodes_kept : NodesAreKept
nodes_kept node = (
  λ k. (k.ordered, k.processing, k.residence, k.clock),
  λ p. record { ordered = p.0; processing = p.1; residence = p.2; clock = p.3 },
)

links_kept : LinksAreKept
links_kept nodes link = (
  λ k. (k.a, k.b, k.differ, k.rate, k.propagation),
  λ p. record { a = p.0; b = p.1; differ = p.2; rate = p.3; propagation = p.4 },
)

topologies_kept : TopologiesAreKept
topologies_kept t = (
  λ k. (k.numbered, k.names, k.few_nodes, k.few_links, k.each_node, k.each_link, k.stations),
  λ p. record {
    numbered = p.0;
    names = p.1;
    few_nodes = p.2;
    few_links = p.3;
    each_node = p.4;
    each_link = p.5;
    stations = p.6;
  },
)

paths_kept : PathsAreKept
paths_kept topology path = (
  λ k. (k.talker, k.listener, k.some, k.walk, k.apart),
  λ p. record { talker = p.0; listener = p.1; some = p.2; walk = p.3; apart = p.4 },
)

branches_kept : BranchesAreKept
branches_kept topology legs b path = (λ k. (k.listener, k.walk), λ p. record { listener = p.0; walk = p.1 })

trees_kept : TreesAreKept
trees_kept topology ports branches =
    (λ k. (k.trunk, k.each, k.apart), λ p. record { trunk = p.0; each = p.1; apart = p.2 })

networks_kept : NetworksAreKept
networks_kept network = (
  λ k. (
    k.topology,
    k.streams,
    k.flows,
    k.trees,
    k.names,
    k.identities,
    k.few_streams,
    k.few_flows,
    k.few_ports,
    k.most_ports,
    k.short_streams,
    k.short_flows,
    k.rates,
  ),
  λ p. record {
    topology = p.0;
    streams = p.1;
    flows = p.2;
    trees = p.3;
    names = p.4;
    identities = p.5;
    few_streams = p.6;
    few_flows = p.7;
    few_ports = p.8;
    most_ports = p.9;
    short_streams = p.10;
    short_flows = p.11;
    rates = p.12;
  },
)

pub kept_is_meant : KeptIsMeant
kept_is_meant = record {
  rules = rules_kept;
  streams = streams_kept;
  flows = flows_kept;
  rates = rates_kept;
  nodes = nodes_kept;
  links = links_kept;
  topologies = topologies_kept;
  paths = paths_kept;
  branches = branches_kept;
  trees = trees_kept;
  networks = networks_kept;
}
