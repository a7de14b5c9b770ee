use Rattle.std.proofs.Common.{[], refl}
use Rattle.ats_network.specs.Network.{IsNetwork}
use Rattle.ats_examples.proofs.NetworkTest.{long_network_by}
use Rattle.ats_tree_examples.specs.Networks.{split, split_links, split_nodes}
use Rattle.ats_lrq_examples.specs.Narrowed.{StreamsKeepOneFrame, with_bursts}

-- Narrowed bursts, by computation.

rules : IsNetwork (with_bursts 24672 split)
rules = long_network_by (split_nodes 1000000) split_links (with_bursts 24672 split).streams [] refl refl

pub streams_keep_one_frame : StreamsKeepOneFrame
streams_keep_one_frame = record { rules = rules; over_one = refl; over_three = refl; beside = refl }
