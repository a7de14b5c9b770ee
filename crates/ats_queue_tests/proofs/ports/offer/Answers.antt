use Rattle.std.proofs.Common.{◌+◌, ◌<◌, All, arith}
use Rattle.std.proofs.lemmas.List.Elements.{All-cons}
use Rattle.std.proofs.lemmas.List.Sorted.{All-permutation, length_permutation}
use Rattle.ats_transmit.specs.declared.offer.Offer.{Offer}
use Rattle.ats_queue_tests.proofs.ports.offer.Goals as goal

pub returns-clause-count : goal.returns-clause-count
returns-clause-count g c = omega (arith, length_permutation _ _ c.offer.ensures.held)

pub returns-clause-frames : goal.returns-clause-frames
returns-clause-frames g c =
    let held = c.args.port.now.held in
    let IsBelow : Offer → Type 0 = λ o. o.frame < c.args.frame + 1 in
    let rest : All IsBelow held = λ i d h. omega (arith, c.requires.ascending i d h) in
    All-permutation IsBelow _ _ c.offer.ensures.held (All-cons IsBelow _ held (omega arith) rest)
