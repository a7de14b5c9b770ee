use Rattle.std.proofs.Common.{◌≡◌, ℕ, zero, suc, ◌+◌, ◌<◌, List, [], ◌∷◌, length, get_or, refl, arith}
use Rattle.ats_topology.specs.Topology.{DeclaredTopology}
use Rattle.ats_network.specs.Bridges.{MeetAtBridge}
use Rattle.ats_network.specs.Senders.{AllNeighbours}
use Rattle.ats_network.specs.declared.sender.Sender.{Sender as SenderView}
use Rattle.ats_network.specs.declared.sender.Sender.TheVariants.{Stream, Flow}
use Rattle.ats_network.specs.SenderView.{deadline_of, is_stream, sender_of}
use Rattle.ats_meaning_examples.specs.Senders.{KeepingIsMeant, MeetingIsMeant, PathsAreMeant, RatesAreMeant}
use Rattle.ats_meaning_examples.specs.Senders.{SeeingIsMeant, SendersAreMeant, as_sender, deadline_in_ps, is_of_streams}

-- What is concluded of senders, part by part.

-- each two neighbours of a path, by their places
by_place : (t : DeclaredTopology) (path : List ℕ) → AllNeighbours (MeetAtBridge t) path
    → (n : ℕ) → n + 1 < length path → MeetAtBridge t (get_or path n 0) (get_or path (n + 1) 0)
by_place t [] all n within = absurd (omega arith)
by_place t (p ∷ []) all n within = absurd (omega arith)
by_place t (p ∷ q ∷ path) all zero within = all.0
by_place t (p ∷ q ∷ path) all (suc n) within =
    let later : n + 1 < length (q ∷ path) = omega arith in
    let next : suc n + 1 ≡ suc (n + 1) = omega arith in
    rw next (by_place t (q ∷ path) all.1 n later)

from_places : (t : DeclaredTopology) (path : List ℕ)
    → ((n : ℕ) → n + 1 < length path → MeetAtBridge t (get_or path n 0) (get_or path (n + 1) 0))
    → AllNeighbours (MeetAtBridge t) path
from_places t [] each = tt
from_places t (p ∷ []) each = tt
from_places t (p ∷ q ∷ path) each = (each 0 (omega arith), from_places t (q ∷ path) later)
  where
    later : (n : ℕ) → n + 1 < length (q ∷ path)
        → MeetAtBridge t (get_or (q ∷ path) n 0) (get_or (q ∷ path) (n + 1) 0)
    later n within =
        let next : suc n + 1 ≡ suc (n + 1) = omega arith in
        rw next at (each (suc n) (omega arith))

meeting : MeetingIsMeant
meeting = record {
  bridge = λ topology node. (λ is. (is.within, is.bridge), λ p. record { within = p.0; bridge = p.1 });
  meet = λ topology p q. (
    λ is. ((is.bridge.within, is.bridge.bridge), is.next),
    λ parts. record { bridge = record { within = parts.0.0; bridge = parts.0.1 }; next = parts.1 },
  );
  neighbours = λ topology path. (by_place topology path, from_places topology path);
}

keeping : KeepingIsMeant
keeping topology s = (
  λ k. (
    k.branches,
    λ i d within. (let route = k.routes i d within in (route.least, route.most)),
    k.tree,
    k.ports,
    k.apart,
    k.valid,
    k.bridges,
    k.each_port,
    k.classes,
    k.sizes.least,
    k.sizes.ordered,
    k.sizes.most,
    k.shaped,
    λ port some. (
        let at = k.rated port some in (
          (at.seen.rate.positive, at.seen.rate.within, at.seen.burst),
          (at.scheduled.rate.positive, at.scheduled.rate.within, at.scheduled.burst),
        )),
  ),
  λ p. record {
    branches = p.0;
    routes = λ i d within. (let route = p.1 i d within in record { least = route.0; most = route.1 });
    tree = p.2;
    ports = p.3;
    apart = p.4;
    valid = p.5;
    bridges = p.6;
    each_port = p.7;
    classes = p.8;
    sizes = record { least = p.9; ordered = p.10; most = p.11 };
    shaped = p.12;
    rated = λ port some. (
        let at = p.13 port some in
        record {
          seen = record { rate = record { positive = at.0.0; within = at.0.1 }; burst = at.0.2 };
          scheduled = record { rate = record { positive = at.1.0; within = at.1.1 }; burst = at.1.2 };
        });
  },
)

paths : PathsAreMeant
paths = record {
  path = λ topology s. (
    λ k. (k.one_listener, k.path.least, k.path.most, k.valid, k.bridges),
    λ p. record {
      one_listener = p.0;
      path = record { least = p.1; most = p.2 };
      valid = p.3;
      bridges = p.4;
    },
  );
  one_listener = λ network. (λ has. has, λ has. has);
  shortest = λ topology a b. (λ k. (k.least, k.none), λ p. record { least = p.0; none = p.1 });
}

rates : RatesAreMeant
rates = record {
  no_less = λ topology s port. (
    λ k. (k.seen.rate, k.seen.burst, k.scheduled.rate, k.scheduled.burst),
    λ p. record {
      seen = record { rate = p.0; burst = p.1 };
      scheduled = record { rate = p.2; burst = p.3 };
    },
  );
  declared = λ topology s port. (λ k. (k.seen, k.scheduled), λ p. record { seen = p.0; scheduled = p.1 });
  hop_by_hop = λ topology s. (λ k. (k.first, k.next), λ p. record { first = p.0; next = p.1 });
  scheduled = λ topology s port. refl;
  talker = λ topology s. refl;
}

deadline : (s : SenderView) → deadline_of s ≡ deadline_in_ps s
deadline (Stream s) = refl
deadline (Flow f) = refl

stream : (s : SenderView) → is_stream s ≡ is_of_streams s
stream (Stream s) = refl
stream (Flow f) = refl

sender : (s : SenderView) → sender_of s ≡ as_sender s
sender (Stream s) = refl
sender (Flow f) = refl

seeing : SeeingIsMeant
seeing = record { deadline = deadline; stream = stream; sender = sender }

pub senders_are_meant : SendersAreMeant
senders_are_meant = record {
  meeting = meeting;
  keeping = keeping;
  paths = paths;
  rates = rates;
  seeing = seeing;
}
