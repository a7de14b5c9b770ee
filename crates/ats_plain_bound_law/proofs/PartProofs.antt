use Rattle.std.proofs.Common.{refl, ap}
use Rattle.ats_network.specs.Sender.{stream_sender}
use Rattle.ats_certificate.specs.Certificate.{need_behind}
use Rattle.ats_certificate.specs.PortSums.{uses}
use Rattle.ats_tally.proofs.Lists.{list_any-map}
use Rattle.ats_bound.specs.Least.{least_row}
use Rattle.ats_explain.specs.Parts.{stay_by}
use Rattle.ats_plain_bound_law.specs.Parts.{HopsAndLoads, PartsAreReckoned, PartsOfBounds, StaysOfPorts}

-- How the bounds of hops are explained.

bounds : PartsOfBounds
bounds = record {
  lower = λ network port class. refl;
  bursts = λ network port class. refl;
  higher = λ network port class. refl;
  frame = λ network port class. refl;
  latency = λ network port class. refl;
  bound = λ network port class. refl;
  sender = λ network port class. refl;
}

stays : StaysOfPorts
stays = record {
  station = λ network port class none.
      ap (stay_by (need_behind network port (least_row network (port, class)).wait)) none;
  bridge = λ network port class ns is.
      ap (stay_by (need_behind network port (least_row network (port, class)).wait)) is;
  none_is_over = refl;
}

hops : HopsAndLoads
hops = record {
  hop = λ network s port. refl;
  has = λ network port. list_any-map (uses port) stream_sender network.streams;
  load = λ network port. refl;
}

pub parts_are_reckoned : PartsAreReckoned
parts_are_reckoned = record {
  bounds = bounds;
  stays = stays;
  hops = hops;
}
