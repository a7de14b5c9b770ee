use Rattle.std.proofs.Common.{[], refl}
use Rattle.std.specs.Fmt.{digits}
use Rattle.ats_explain_text.specs.Text.{bound_text, counts_text, explain_text, hop_line, port_line, stream_line}
use Rattle.ats_explain_text.specs.Text.{wait_text}
use Rattle.ats_examples.specs.Networks.{line_links}
use Rattle.ats_examples.proofs.NetworkTest.{network_by}
use Rattle.ats_clock_examples.specs.Explained.{ClocksAreExplained, ExplainedByClocks, ResidencesMayBeJust}
use Rattle.ats_clock_examples.specs.Explained.{TotalsAreOfEach}
use Rattle.ats_clock_examples.specs.Needs.{staying, staying_nodes}

-- Explanations by computation.

clocks : ClocksAreExplained
unfolding digits explain_text stream_line wait_text bound_text hop_line port_line counts_text
clocks = record {
  network =
      network_by (staying_nodes 11673 100 8000) line_links (staying 11673 100 8000).streams [] refl refl;
  over = refl;
}

just : ResidencesMayBeJust
unfolding digits explain_text stream_line wait_text bound_text hop_line port_line counts_text
just = record {
  network =
      network_by (staying_nodes 11674 100 8000) line_links (staying 11674 100 8000).streams [] refl refl;
  not_over = refl;
}

totals : TotalsAreOfEach
totals = record {
  streams = λ network. refl;
  late = λ network. refl;
  over = λ network. refl;
  over_of_hops = λ network. refl;
  is_over = λ stay. refl;
}

pub explained_by_clocks : ExplainedByClocks
explained_by_clocks = record { clocks = clocks; just = just; totals = totals }
