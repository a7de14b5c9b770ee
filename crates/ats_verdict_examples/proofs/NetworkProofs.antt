use Rattle.std.proofs.Common.{[], refl}
use Rattle.ats_network.specs.Network.{IsNetwork}
use Rattle.ats_examples.specs.Networks.{line_nodes, line_links, merged_nodes, merged_links, pair}
use Rattle.ats_examples.proofs.NetworkProofs.{pair_is}
use Rattle.ats_examples.proofs.NetworkTest.{network_by}
use Rattle.ats_verdict_examples.specs.Networks.{line_until, below_and_flow, of_three, with_too_fast}

-- The worked networks are networks.

pub line_late : IsNetwork (line_until 26671)
line_late = network_by line_nodes line_links (line_until 26671).streams [] refl refl

pub line_in_time : IsNetwork (line_until 26672)
line_in_time = network_by line_nodes line_links (line_until 26672).streams [] refl refl

pub pair_over : IsNetwork (pair 12335)
pair_over = pair_is 12335 refl refl

pub pair_fits : IsNetwork (pair 12336)
pair_fits = pair_is 12336 refl refl

pub below_is : IsNetwork below_and_flow
below_is = network_by line_nodes line_links below_and_flow.streams below_and_flow.flows refl refl

pub three_in_time : IsNetwork (of_three 91352)
three_in_time = network_by merged_nodes merged_links (of_three 91352).streams [] refl refl

pub three_late : IsNetwork (of_three 91351)
three_late = network_by merged_nodes merged_links (of_three 91351).streams [] refl refl

pub too_fast_is : IsNetwork with_too_fast
too_fast_is = network_by merged_nodes merged_links with_too_fast.streams [] refl refl
