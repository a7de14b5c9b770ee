use Rattle.std.proofs.Common.{refl}
use Rattle.ats_verdict_examples.specs.Admitted.{LowestIsHigher, NetworksFollow, StreamsAreAdmitted}

-- Requests and what comes of them, by computation.

lowest_is_higher : LowestIsHigher
lowest_is_higher = record { given = refl; after = refl; in_class_five = refl; in_class_six = refl }

networks_follow : NetworksFollow
networks_follow = record {
  admitted = refl;
  two = refl;
  denied = refl;
  late = refl;
  as_flow = refl;
  withdrawn = refl;
  first_withdrawn = refl;
  again = refl;
}

pub streams_are_admitted : StreamsAreAdmitted
streams_are_admitted = record { lowest = lowest_is_higher; networks = networks_follow }
