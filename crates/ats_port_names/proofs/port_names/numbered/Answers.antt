use Rattle.std.proofs.Common.{◌≡◌, ◌∙◌, ◌-◌, ◌<◌, length, refl, ap, arith}
use Rattle.ats_port_names.proofs.Numbering.{numbers_more}
use Rattle.ats_port_names.specs.PortName.{port_name}
use Rattle.ats_port_names.proofs.port_names.numbered.Goals as goal

pub loop-port-preserved : goal.loop-port-preserved
loop-port-preserved c =
    let within : c.loop-port.port - 1 < length c.args.topology.now.ports =
    omega (arith, ap length c.ports.ensures.value) in
    let name : c.write_port.new.out.items ≡ port_name c.args.topology.now (c.loop-port.port - 1) =
    c.in_ok-write_port.ensures.written ∙ rw c.new-name.ensures.items refl in
    numbers_more c.args.topology.now (c.loop-port.port - 1)
    c.loop-port.port c.write_port.new.out c.loop-port.numbers c.insert.new.self
    within (omega arith) c.loop-port.invariant name c.in_ok-insert.ensures.updates
