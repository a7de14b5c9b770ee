use Rattle.std.proofs.Common.{refl}
use Rattle.ats_plain_law.specs.Legs.{BranchesArePlain, LegsAreCut, LegsArePlain, TreesArePlain}

-- How a stream's ports are cut into legs, and when they make a tree.

legs : LegsAreCut
legs = record {
  all = λ ports branches. refl;
  last = λ at ports. refl;
  next = λ at ports b branches. refl;
  leg = λ legs n. refl;
  lead = λ legs leads b. refl;
  leads = λ legs leads b branches. refl;
  no_more = λ legs leads. refl;
  in_front = λ ports branches. refl;
  routes = λ ports branches. refl;
  route = λ lead leg leads legs. refl;
}

branches : BranchesArePlain
branches = record {
  begins = λ legs own b. (
    (λ is. (is.earlier, is.at_talker, is.within)),
    (λ is. record { earlier = is.0; at_talker = is.1; within = is.2 }),
  );
  begin = λ legs own b branches. ((λ is. is), (λ is. is));
  ascend = λ at end b branches. ((λ is. is), (λ is. is));
  are = λ ports branches. (
    (λ is. (is.places, is.begin, is.few)),
    (λ is. record { places = is.0; begin = is.1; few = is.2 }),
  );
}

trees : TreesArePlain
trees = record {
  none = λ ports. refl;
  nodes = λ ports p path. refl;
  path = λ t path. (
    (λ is. (is.talker, is.listener, is.some, is.walk, is.apart)),
    (λ is. record { talker = is.0; listener = is.1; some = is.2; walk = is.3; apart = is.4 }),
  );
  from = λ ports legs b. refl;
  branch = λ t legs b path. ((λ is. (is.listener, is.walk)), (λ is. record { listener = is.0; walk = is.1 }));
  tree = λ t ports branches. (
    (λ is. (is.trunk, is.each, is.apart)),
    (λ is. record { trunk = is.0; each = is.1; apart = is.2 }),
  );
}

pub legs_are_plain : LegsArePlain
legs_are_plain = record {
  legs = legs;
  branches = branches;
  trees = trees;
}
