use Rattle.std.proofs.Common.{◌≡◌, All, ◌<◌, ◌≤◌, ◌++◌, [], ◌∷◌, ℕ, List, ap, subst, sym, arith, refl, false}
use Rattle.ats_queue.specs.Contents.{Contents}
use Rattle.ats_transmit.specs.declared.offer.Offer.{Offer}
use Rattle.ats_transmit.specs.Sending.{sent_at, last_end}
use Rattle.ats_transmit.specs.State.{PortState}
use Rattle.ats_transmit.specs.Picks.{MaySend}
use Rattle.ats_transmit.specs.PortQueues.{port_state}
use Rattle.ats_transmit.proofs.Due.{none_held}
use Rattle.ats_transmit.proofs.Kept.{eight-queues}
use Rattle.ats_transmit.proofs.Started.{selected, kept-select, starts-select, started-size}
use Rattle.ats_transmit.proofs.port.Port.select.Goals as goal

pub take-requires : goal.take-requires
take-requires g c =
    let i = c.self.inside in
    let s : PortState g.row.T.Denot = port_state i.ps_per_bit i.rooms i.tie i.waiting i.past i.is_sending in
    omega (arith, eight-queues g.T.Tie.key s i.waiting c.self.invariant)

pub returns-in_default-clause-pick : goal.returns-in_default-clause-pick
returns-in_default-clause-pick g c =
    let now = c.args.now.0 in
    let i = c.self.inside in
    let s : List (Contents g.row.T.Denot) → PortState g.row.T.Denot =
    λ (waiting : List (Contents g.row.T.Denot)).
    port_state i.ps_per_bit i.rooms i.tie waiting i.past i.is_sending in
    let Free : PortState g.row.T.Denot → Type 0 =
    λ (old : PortState g.row.T.Denot).
    (old.is_sending ≡ false) × All (λ (o : Offer). now < o.eligible.0) old.held × (s c.take.new.self ≡ old) in
    let same : s c.take.new.self ≡ s i.waiting = ap s c.in_default.ensures.unchanged in
    subst Free c.self.view_is (c.if-self.false, none_held i.waiting now c.in_default.ensures.none, same)

pub sent_at-sent-requires-clause-size : goal.sent_at-sent-requires-clause-size
sent_at-sent-requires-clause-size g c =
    let i = c.self.inside in
    let s : PortState g.row.T.Denot = port_state i.ps_per_bit i.rooms i.tie i.waiting i.past i.is_sending in
    let started : Offer = c.in-Some.started in
    let now = c.args.now.0 in
    let new = c.take.new.self in
    let x = selected g.T.Tie.key now s i.waiting new started refl c.in-Some.ensures.found in
    started-size g.T.Tie.key now started.class s i.waiting new started c.self.invariant x

pub invariant_of-self-2 : goal.invariant_of-self-2
invariant_of-self-2 g c =
    let i = c.self.inside in
    let s : PortState g.row.T.Denot = port_state i.ps_per_bit i.rooms i.tie i.waiting i.past i.is_sending in
    let started : Offer = c.in-Some.started in
    let now = c.args.now.0 in
    let new = c.take.new.self in
    let x = selected g.T.Tie.key now s i.waiting new started refl c.in-Some.ensures.found in
    let is : c.sent_at-sent.result ≡ sent_at i.ps_per_bit started now = c.sent_at-sent.ensures in
    let pushed : c.push.new.self ≡ i.past ++ sent_at i.ps_per_bit started now ∷ [] =
    rw is at c.push.ensures in
    let Finished : PortState g.row.T.Denot → Type 0 =
    λ (p : PortState g.row.T.Denot). p.is_sending ≡ false → last_end p.sent ≤ now in
    let ended : last_end i.past ≤ now = subst Finished (sym c.self.view_is) c.requires.finished c.if-self.false in
    let Due : PortState g.row.T.Denot → Type 0 =
    λ (p : PortState g.row.T.Denot). (time : ℕ) → MaySend p.held p.sent time → now ≤ time in
    kept-select g.T.Tie.key now started.class s i.waiting new started c.push.new.self
    c.self.invariant x pushed ended (subst Due (sym c.self.view_is) c.requires.due)

pub returns-clause-pick : goal.returns-clause-pick
returns-clause-pick g c =
    let i = c.self.inside in
    let s : PortState g.row.T.Denot = port_state i.ps_per_bit i.rooms i.tie i.waiting i.past i.is_sending in
    let now = c.args.now.0 in
    let started : Offer = c.in-Some.started in
    let new = c.take.new.self in
    let after = c.push.new.self in
    let sent : after ≡ i.past ++ sent_at i.ps_per_bit started now ∷ [] =
    rw c.sent_at-sent.ensures at c.push.ensures in
    let starts = starts-select g.T.Tie.key now started.class s i.waiting new started after c.self.invariant
    (selected g.T.Tie.key now s i.waiting new started refl c.in-Some.ensures.found) sent in
    rw (← c.self.view_is, c.sent_at-sent.ensures) (c.if-self.false, starts)

pub returns-clause-lawful : goal.returns-clause-lawful
returns-clause-lawful g c = (invariant_of-self-2 g c).lawful
