use Rattle.std.proofs.Common.{◌<◌, get_or, length, sym, ap, subst, arith}
use Rattle.ats_streams.specs.Rules.{CoversLongest}
use Rattle.ats_streams.specs.Stream.{DeclaredStream, with_burst}
use Rattle.ats_network.specs.Edits.{no_stream}
use Rattle.ats_network.specs.Network.{DeclaredNetwork, network_within}
use Rattle.ats_network.specs.Rates.{HasRates}
use Rattle.ats_network.proofs.Edited.{burst_changed_network}
use Rattle.ats_network.proofs.Rated.{burst_of_rates}
use Rattle.ats_network.proofs.network.Network.set_burst.Goals as goal

pub set_burst-requires-clause-most : goal.set_burst-requires-clause-most
set_burst-requires-clause-most c =
    let inside : DeclaredNetwork =
    network_within c.self.inside.shape c.self.inside.most_ports c.self.inside.stream_table c.self.inside.flow_table in
    let before : DeclaredStream = get_or inside.streams c.args.stream no_stream in
    let within : c.args.stream < length inside.streams =
    omega (arith, c.requires.stream, ap (λ (n : DeclaredNetwork). length n.streams) c.self.view_is) in
    burst_of_rates inside.topology before c.args.burst_bits c.self.invariant.topology
    (c.self.invariant.streams c.args.stream no_stream within)
    (subst (λ (n : DeclaredNetwork). HasRates n.topology (with_burst (get_or n.streams c.args.stream no_stream)
    c.args.burst_bits)) (sym c.self.view_is) c.requires.rates)

pub invariant_of-self : goal.invariant_of-self
invariant_of-self c =
    let inside : DeclaredNetwork =
    network_within c.self.inside.shape c.self.inside.most_ports c.self.inside.stream_table c.self.inside.flow_table in
    let within : c.args.stream < length inside.streams =
    omega (arith, c.requires.stream, ap (λ (n : DeclaredNetwork). length n.streams) c.self.view_is) in
    let covers : CoversLongest c.args.burst_bits (get_or inside.streams c.args.stream no_stream).max_octets =
    subst (λ (n : DeclaredNetwork). CoversLongest c.args.burst_bits
    (get_or n.streams c.args.stream no_stream).max_octets) (sym c.self.view_is) c.requires.covers in
    let before : DeclaredStream = get_or inside.streams c.args.stream no_stream in
    let rates : HasRates inside.topology (with_burst before c.args.burst_bits) =
    subst (λ (n : DeclaredNetwork). HasRates n.topology (with_burst (get_or n.streams c.args.stream no_stream)
    c.args.burst_bits)) (sym c.self.view_is) c.requires.rates in
    rw c.set_burst.ensures
    (burst_changed_network inside c.args.stream c.args.burst_bits c.self.invariant within covers rates)
