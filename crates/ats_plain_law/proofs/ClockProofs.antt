use Rattle.std.proofs.Common.{refl}
use Rattle.ats_plain_law.specs.Clocks.{AllClocksArePlain, ClocksArePlain, NodesArePlain, RatesArePlain}

-- What nodes declare of their clocks, and what clocks make of rates.

nodes : NodesArePlain
nodes = record {
  bridge = λ least greatest residence ppm step. refl;
  least = λ least greatest residence ppm step. refl;
  greatest = λ least greatest residence ppm step. refl;
  residence = λ least greatest residence ppm step. refl;
  is_bridge = λ least greatest residence ppm step. refl;
  station = refl;
  at_once = refl;
  none_stays = refl;
  is_one = refl;
  linked = λ links node. ((λ is. is), (λ is. is));
}

clocks : ClocksArePlain
clocks = record {
  deviation = λ ppm step. refl;
  step = λ ppm step. refl;
  may = λ ppm step. ((λ is. (is.deviation, is.step)), (λ is. record { deviation = is.0; step = is.1 }));
  keeps = λ clock shows. (
    (λ is. (is.in_order, is.no_slower, is.no_faster)),
    (λ is. record { in_order = is.0; no_slower = is.1; no_faster = is.2 }),
  );
}

rates : RatesArePlain
rates = record {
  behind = λ topology port. refl;
  talker = λ topology s. refl;
  at = λ topology port s. refl;
  scheduled = λ topology port s. refl;
}

pub clocks_are_plain : AllClocksArePlain
clocks_are_plain = record {
  nodes = nodes;
  clocks = clocks;
  rates = rates;
}
