use Rattle.std.proofs.Common.{rules, ◌≡◌, ◌∙◌, ap, arith, sym, length, ◌+◌, ℕ, List, [], ◌∷◌, ◌++◌}
use Rattle.ats_network.specs.Network.{DeclaredNetwork}
use Rattle.ats_trace.specs.Releases.{ports_of_frames}
use Rattle.ats_trace.specs.declared.journey.Release.{Release}
use Rattle.ats_schedule.proofs.Releases.{one_more, ports_more}
use Rattle.ats_schedule.specs.Releases.{Follows}
use Rattle.ats_schedule.proofs.reading.releases_from.Goals as goal

-- with one release more the ports are counted further
pub loop-releases-preserved : goal.loop-releases-preserved
loop-releases-preserved c =
    let network : DeclaredNetwork = c.args.network.now in
    let before : List Release = c.loop-releases.releases.items in
    let r : Release = c.in_ok-release-in-Record.release in
    let follows : Follows network before r = search rules in
    let items : c.push.new.self.items ≡ before ++ r ∷ [] = search rules in
    let more = ports_more network before c.push.new.self.items r items in
    record {
      due = search rules;
      width = search rules;
      are = one_more network before c.push.new.self.items r c.loop-releases.invariant.are follows items;
      few_ports = omega (arith, more, follows.ports);
      ports = ap (λ (n : ℕ). n + length c.sender_ports.result.now) c.loop-releases.invariant.ports
          ∙ ap (λ (ports : List ℕ). ports_of_frames network before + length ports) c.sender_ports.ensures.value
          ∙ sym more;
    }
