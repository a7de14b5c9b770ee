use Rattle.std.proofs.Common.{refl}
use Rattle.ats_reading_examples.specs.Keys.{KeysAreExact, NearlyAreUnknown, OthersAreUnknown}

-- Keys by computation.

nearly_are_unknown : NearlyAreUnknown
nearly_are_unknown = record {
  station = refl;
  bridge = refl;
  plain_bridge = refl;
  clocked_bridge = refl;
  link = refl;
  flow = refl;
  stream_route = refl;
  stream_numbers = refl;
  stream_others = refl;
  stream_paths = refl;
  link_local = refl;
  link_local_flow = refl;
  top = refl;
  top_of_three = refl;
}

others_are_unknown : OthersAreUnknown
others_are_unknown = record {
  station = refl;
  bridge = refl;
  plain_bridge = refl;
  clocked_bridge = refl;
  link = refl;
  flow = refl;
  stream = refl;
  stream_of_three = refl;
  link_local = refl;
  link_local_flow = refl;
  top = refl;
  top_of_three = refl;
}

pub keys_are_exact : KeysAreExact
keys_are_exact = record {
  nearly = nearly_are_unknown;
  others = others_are_unknown;
}
