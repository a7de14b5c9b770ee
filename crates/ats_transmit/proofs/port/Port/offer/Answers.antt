use Rattle.std.proofs.Common.{refl, arith}
use Rattle.ats_transmit.specs.declared.offer.Offer.{Offer}
use Rattle.ats_transmit.specs.State.{PortState}
use Rattle.ats_transmit.specs.PortQueues.{port_state}
use Rattle.ats_transmit.proofs.Kept.{eight-queues, may-offer, queue-room, queue-new, held-offer, kept-offer}
use Rattle.ats_transmit.proofs.port.Port.offer.Goals as goal

pub insert-requires-clause-class : goal.insert-requires-clause-class
insert-requires-clause-class g c =
    let i = c.self.inside in
    let s : PortState g.row.T.Denot = port_state i.ps_per_bit i.rooms i.tie i.waiting i.past i.is_sending in
    omega (arith, c.requires.class, eight-queues g.T.Tie.key s i.waiting c.self.invariant)

pub insert-requires-clause-room : goal.insert-requires-clause-room
insert-requires-clause-room g c =
    let i = c.self.inside in
    let o : Offer = c.args.offer in
    let s : PortState g.row.T.Denot = port_state i.ps_per_bit i.rooms i.tie i.waiting i.past i.is_sending in
    let r = c.requires in
    let may = may-offer s c.args.self.now o c.self.view_is r.not_held r.class r.room r.octets r.later in
    queue-room g.T.Tie.key s i.waiting o c.self.invariant refl may

pub insert-requires-clause-new : goal.insert-requires-clause-new
insert-requires-clause-new g c =
    let i = c.self.inside in
    let o : Offer = c.args.offer in
    let s : PortState g.row.T.Denot = port_state i.ps_per_bit i.rooms i.tie i.waiting i.past i.is_sending in
    let r = c.requires in
    let may = may-offer s c.args.self.now o c.self.view_is r.not_held r.class r.room r.octets r.later in
    queue-new g.T.Tie.key s i.waiting o c.self.invariant refl may

pub invariant_of-self : goal.invariant_of-self
invariant_of-self g c =
    let i = c.self.inside in
    let o : Offer = c.args.offer in
    let s : PortState g.row.T.Denot = port_state i.ps_per_bit i.rooms i.tie i.waiting i.past i.is_sending in
    let r = c.requires in
    let may = may-offer s c.args.self.now o c.self.view_is r.not_held r.class r.room r.octets r.later in
    kept-offer g.T.Tie.key s i.waiting c.insert.new.self o c.self.invariant refl may c.insert.ensures

pub returns-clause-held : goal.returns-clause-held
returns-clause-held g c =
    let i = c.self.inside in
    let o : Offer = c.args.offer in
    let s : PortState g.row.T.Denot = port_state i.ps_per_bit i.rooms i.tie i.waiting i.past i.is_sending in
    let r = c.requires in
    let may = may-offer s c.args.self.now o c.self.view_is r.not_held r.class r.room r.octets r.later in
    rw (← c.self.view_is)
    (held-offer g.T.Tie.key s i.waiting c.insert.new.self o c.self.invariant refl may c.insert.ensures)

pub returns-clause-lawful : goal.returns-clause-lawful
returns-clause-lawful g c = (invariant_of-self g c).lawful
