use Rattle.std.proofs.Common.{List, sym, subst}
use Rattle.ats_queue.specs.Contents.{Contents}
use Rattle.ats_transmit.specs.Waiting.{HasRoom, IsNew, Holds}
use Rattle.ats_transmit.proofs.Fronts.{none-new, front-holds, front-put}
use Rattle.ats_transmit.proofs.front.hold.Goals as goal

pub put-requires-clause-new : goal.put-requires-clause-new
put-requires-clause-new g c =
    let alone = rw c.in-Alone.is at c.requires.front in
    none-new c.args.queues.now.items c.in-Alone.first alone.empty alone.within

pub put-requires-in-Alone-clause-room : goal.put-requires-in-Alone-clause-room
put-requires-in-Alone-clause-room g c =
    let Room : List (Contents g.row.T.Denot) → Type 0 =
    λ (cs : List (Contents g.row.T.Denot)). HasRoom cs c.args.offer.class in
    let same = front-put c.args.front c.in-Alone.first c.args.queues.now.items c.put.new.queues.items c.in-Alone.is
    c.requires.front c.put.ensures in
    subst Room same c.requires.room

pub put-requires-in-Alone-clause-new : goal.put-requires-in-Alone-clause-new
put-requires-in-Alone-clause-new g c =
    let New : List (Contents g.row.T.Denot) → Type 0 = λ (cs : List (Contents g.row.T.Denot)). IsNew cs c.args.offer in
    let same = front-put c.args.front c.in-Alone.first c.args.queues.now.items c.put.new.queues.items c.in-Alone.is
    c.requires.front c.put.ensures in
    subst New same c.requires.new

pub returns-in-Nothing-clause-holds : goal.returns-in-Nothing-clause-holds
returns-in-Nothing-clause-holds g c =
    rw c.in-Nothing.is (front-holds c.args.queues.now.items c.args.offer c.requires.class)

pub returns-in-Alone-clause-holds : goal.returns-in-Alone-clause-holds
returns-in-Alone-clause-holds g c =
    let new = c.put-in-Alone.new.queues.items in
    let Held : List (Contents g.row.T.Denot) → Type 0 =
    λ (cs : List (Contents g.row.T.Denot)). Holds cs new c.args.offer in
    let same = front-put c.args.front c.in-Alone.first c.args.queues.now.items c.put.new.queues.items c.in-Alone.is
    c.requires.front c.put.ensures in
    subst Held (sym same) c.put-in-Alone.ensures
