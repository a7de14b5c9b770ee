use Rattle.std.proofs.Common.{◌-◌, ℕ, List, length, slice_index_or, refl, ap, arith}
use Rattle.ats_network.specs.Senders.{sender_at}
use Rattle.ats_buffer.specs.Buffer.{way_behind}
use Rattle.ats_buffer.proofs.Hops.{front_is, hop_is, leads_by, none_leads_there, way_to_branch}
use Rattle.ats_buffer.proofs.shares.way_to_leg.Goals as goal

pub sender_leg-requires-clause-leg : goal.sender_leg-requires-clause-leg
sender_leg-requires-clause-leg c =
    let leads = leads_by c.args.network.now c.streams.result.now c.args.stream c.args.leg c.index-streams-stream.result
    c.branch-branch.result c.streams.ensures.rules c.streams.ensures.value c.requires.stream c.index-streams-stream.is
    (omega (arith, c.if-leg-eq0.false)) c.requires.leg c.branch-branch.ensures.value
    (omega (arith, c.if-branch-eq0.false)) in
    leads.in_legs

pub overflow_sub-port : goal.overflow_sub-port
overflow_sub-port c =
    let leads = leads_by c.args.network.now c.streams.result.now c.args.stream c.args.leg c.index-streams-stream.result
    c.branch-branch.result c.streams.ensures.rules c.streams.ensures.value c.requires.stream c.index-streams-stream.is
    (omega (arith, c.if-leg-eq0.false)) c.requires.leg c.branch-branch.ensures.value
    (omega (arith, c.if-branch-eq0.false)) in
    leads.later

pub bounds-sender_leg-branch : goal.bounds-sender_leg-branch
bounds-sender_leg-branch c =
    let leads = leads_by c.args.network.now c.streams.result.now c.args.stream c.args.leg c.index-streams-stream.result
    c.branch-branch.result c.streams.ensures.rules c.streams.ensures.value c.requires.stream c.index-streams-stream.is
    (omega (arith, c.if-leg-eq0.false)) c.requires.leg c.branch-branch.ensures.value
    (omega (arith, c.if-branch-eq0.false)) in
    omega (arith, leads.in_leg, ap (λ (l : List ℕ). length l) c.sender_leg.ensures.value)

pub overflow_sub-branch : goal.overflow_sub-branch
overflow_sub-branch c =
    let leads = leads_by c.args.network.now c.streams.result.now c.args.stream c.args.leg c.index-streams-stream.result
    c.branch-branch.result c.streams.ensures.rules c.streams.ensures.value c.requires.stream c.index-streams-stream.is
    (omega (arith, c.if-leg-eq0.false)) c.requires.leg c.branch-branch.ensures.value
    (omega (arith, c.if-branch-eq0.false)) in
    leads.later

pub class_of-class-requires-clause-leg : goal.class_of-class-requires-clause-leg
class_of-class-requires-clause-leg c =
    let leads = leads_by c.args.network.now c.streams.result.now c.args.stream c.args.leg c.index-streams-stream.result
    c.branch-branch.result c.streams.ensures.rules c.streams.ensures.value c.requires.stream c.index-streams-stream.is
    (omega (arith, c.if-leg-eq0.false)) c.requires.leg c.branch-branch.ensures.value
    (omega (arith, c.if-branch-eq0.false)) in
    leads.in_legs

pub class_of-class-requires-clause-hop : goal.class_of-class-requires-clause-hop
class_of-class-requires-clause-hop c =
    let leads = leads_by c.args.network.now c.streams.result.now c.args.stream c.args.leg c.index-streams-stream.result
    c.branch-branch.result c.streams.ensures.rules c.streams.ensures.value c.requires.stream c.index-streams-stream.is
    (omega (arith, c.if-leg-eq0.false)) c.requires.leg c.branch-branch.ensures.value
    (omega (arith, c.if-branch-eq0.false)) in
    leads.in_leg

pub way_over-requires-clause-port : goal.way_over-requires-clause-port
way_over-requires-clause-port c =
    let leads = leads_by c.args.network.now c.streams.result.now c.args.stream c.args.leg c.index-streams-stream.result
    c.branch-branch.result c.streams.ensures.rules c.streams.ensures.value c.requires.stream c.index-streams-stream.is
    (omega (arith, c.if-leg-eq0.false)) c.requires.leg c.branch-branch.ensures.value
    (omega (arith, c.if-branch-eq0.false)) in
    let at = hop_is c.args.network.now c.args.stream c.branch-branch.result.leg (c.branch-branch.result.hop - 1)
    c.sender_leg.result.now c.class_of-class.result c.streams.ensures.rules c.requires.stream leads.in_legs
    c.sender_leg.ensures.value (omega (arith, leads.in_leg, ap (λ (l : List ℕ). length l) c.sender_leg.ensures.value))
    c.class_of-class.ensures in
    at.inside

pub way_over-requires-clause-class : goal.way_over-requires-clause-class
way_over-requires-clause-class c =
    let leads = leads_by c.args.network.now c.streams.result.now c.args.stream c.args.leg c.index-streams-stream.result
    c.branch-branch.result c.streams.ensures.rules c.streams.ensures.value c.requires.stream c.index-streams-stream.is
    (omega (arith, c.if-leg-eq0.false)) c.requires.leg c.branch-branch.ensures.value
    (omega (arith, c.if-branch-eq0.false)) in
    let at = hop_is c.args.network.now c.args.stream c.branch-branch.result.leg (c.branch-branch.result.hop - 1)
    c.sender_leg.result.now c.class_of-class.result c.streams.ensures.rules c.requires.stream leads.in_legs
    c.sender_leg.ensures.value (omega (arith, leads.in_leg, ap (λ (l : List ℕ). length l) c.sender_leg.ensures.value))
    c.class_of-class.ensures in
    at.most

pub returns-clause-port : goal.returns-clause-port
returns-clause-port c =
    let leads = leads_by c.args.network.now c.streams.result.now c.args.stream c.args.leg c.index-streams-stream.result
    c.branch-branch.result c.streams.ensures.rules c.streams.ensures.value c.requires.stream c.index-streams-stream.is
    (omega (arith, c.if-leg-eq0.false)) c.requires.leg c.branch-branch.ensures.value
    (omega (arith, c.if-branch-eq0.false)) in
    front_is c.args.network.now c.args.stream c.args.leg c.branch-branch.result c.sender_leg.result.now _ leads
    c.sender_leg.ensures.value refl

pub returns-clause-way : goal.returns-clause-way
returns-clause-way c =
    let leads = leads_by c.args.network.now c.streams.result.now c.args.stream c.args.leg c.index-streams-stream.result
    c.branch-branch.result c.streams.ensures.rules c.streams.ensures.value c.requires.stream c.index-streams-stream.is
    (omega (arith, c.if-leg-eq0.false)) c.requires.leg c.branch-branch.ensures.value
    (omega (arith, c.if-branch-eq0.false)) in
    let at = hop_is c.args.network.now c.args.stream c.branch-branch.result.leg (c.branch-branch.result.hop - 1)
    c.sender_leg.result.now c.class_of-class.result c.streams.ensures.rules c.requires.stream leads.in_legs
    c.sender_leg.ensures.value (omega (arith, leads.in_leg, ap (λ (l : List ℕ). length l) c.sender_leg.ensures.value))
    c.class_of-class.ensures in
    way_to_branch c.args.network.now c.args.rows.now.rows c.args.stream c.args.leg c.branch-branch.result
    (slice_index_or c.sender_leg.result.now (c.branch-branch.result.hop - 1) 0) c.class_of-class.result
    c.way_over.result c.requires.stream leads at c.way_over.ensures

pub returns-then-branch-eq0-clause-port : goal.returns-then-branch-eq0-clause-port
returns-then-branch-eq0-clause-port c =
    none_leads_there c.args.network.now c.streams.result.now c.args.stream c.args.leg
    c.index-streams-stream.result c.branch-branch.result c.streams.ensures.value c.requires.stream
    c.index-streams-stream.is (omega (arith, c.if-leg-eq0.false)) c.branch-branch.ensures.value
    (omega (arith, c.if-branch-eq0.true))

pub returns-then-branch-eq0-clause-way : goal.returns-then-branch-eq0-clause-way
returns-then-branch-eq0-clause-way c =
    ap (way_behind c.args.network.now c.args.rows.now.rows (sender_at c.args.network.now c.args.stream))
    (none_leads_there c.args.network.now c.streams.result.now c.args.stream c.args.leg
    c.index-streams-stream.result c.branch-branch.result c.streams.ensures.value c.requires.stream
    c.index-streams-stream.is (omega (arith, c.if-leg-eq0.false)) c.branch-branch.ensures.value
    (omega (arith, c.if-branch-eq0.true)))
