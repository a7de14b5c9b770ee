use Rattle.ats_network_text.proofs.Legs.{classes_behind, classes_between}
use Rattle.ats_network_text.proofs.printing.places_of.Goals as goal

pub returns-then-leg-legs-clause-ordered : goal.returns-then-leg-legs-clause-ordered
returns-then-leg-legs-clause-ordered c =
    (classes_behind c.args.stream.now c.classes.result.now c.args.leg c.first_place-first.result c.legs-legs.result
    c.classes.ensures.rules c.first_place-first.ensures c.legs-legs.ensures.value c.if-leg-legs.true
    c.classes.ensures.value).ordered

pub returns-then-leg-legs-clause-leg : goal.returns-then-leg-legs-clause-leg
returns-then-leg-legs-clause-leg c =
    (classes_behind c.args.stream.now c.classes.result.now c.args.leg c.first_place-first.result c.legs-legs.result
    c.classes.ensures.rules c.first_place-first.ensures c.legs-legs.ensures.value c.if-leg-legs.true
    c.classes.ensures.value).leg_is

pub returns-clause-ordered : goal.returns-clause-ordered
returns-clause-ordered c =
    (classes_between c.args.stream.now c.args.leg c.first_place-first.result c.legs-legs.result c.branch-stream.result
    c.branch-stream.ensures.rules c.requires c.first_place-first.ensures c.legs-legs.ensures.value c.if-leg-legs.false
    c.branch-stream.ensures.value).ordered

pub returns-clause-within : goal.returns-clause-within
returns-clause-within c =
    (classes_between c.args.stream.now c.args.leg c.first_place-first.result c.legs-legs.result c.branch-stream.result
    c.branch-stream.ensures.rules c.requires c.first_place-first.ensures c.legs-legs.ensures.value c.if-leg-legs.false
    c.branch-stream.ensures.value).within

pub returns-clause-leg : goal.returns-clause-leg
returns-clause-leg c =
    (classes_between c.args.stream.now c.args.leg c.first_place-first.result c.legs-legs.result c.branch-stream.result
    c.branch-stream.ensures.rules c.requires c.first_place-first.ensures c.legs-legs.ensures.value c.if-leg-legs.false
    c.branch-stream.ensures.value).leg_is
