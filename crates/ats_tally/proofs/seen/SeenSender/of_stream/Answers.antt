use Rattle.std.proofs.Common.{◌≡◌, ℕ, List, get_or, sym, ap, ◌∙◌}
use Rattle.ats_clock.specs.declared.committed.Committed.{Committed}
use Rattle.ats_streams.specs.Stream.{DeclaredStream}
use Rattle.ats_streams.specs.declared.traffic.Declared.{Declared}
use Rattle.ats_network.specs.Class.{class_at}
use Rattle.ats_network.specs.Rates.{committed_at}
use Rattle.ats_network.specs.Sender.{stream_sender}
use Rattle.ats_network.proofs.ClassLemmas.{class_along-at}
use Rattle.ats_tally.proofs.SeenLemmas.{seen_parts}
use Rattle.ats_tally.proofs.seen.SeenSender.of_stream.Goals as goal

pub returns-clause-seen : goal.returns-clause-seen
returns-clause-seen c =
    let stream : DeclaredStream = c.args.stream.now in
    let port : ℕ = get_or stream.ports c.args.place 0 in
    let class : get_or c.classes.result.now c.args.place 0 ≡ class_at (stream_sender stream) port =
    ap (λ (l : List ℕ). get_or l c.args.place 0) c.classes.ensures.value
    ∙ sym (class_along-at stream.ports stream.classes c.args.place c.requires.apart c.classes.ensures.rules.each_port
    c.requires.place) in
    let same : get_or c.ports.result.now c.args.place 0 ≡ port =
    ap (λ (l : List ℕ). get_or l c.args.place 0) c.ports.ensures.value in
    let numbers : c.committed_at-committed.result ≡ committed_at c.args.topology.now port (stream_sender stream) =
    c.committed_at-committed.ensures
    ∙ ap (λ (p : ℕ). committed_at c.args.topology.now p (stream_sender stream)) same in
    seen_parts c.args.topology.now port (stream_sender stream) _ class
    (c.bps.ensures.value ∙ ap (λ (n : Committed). n.rate) numbers) (ap (λ (n : Committed). n.burst_bits) numbers)
    (ap (λ (d : Declared). d.min_octets) c.declared-declared.ensures.value)
    (ap (λ (d : Declared). d.max_octets) c.declared-declared.ensures.value)
