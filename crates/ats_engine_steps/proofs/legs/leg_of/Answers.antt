use Rattle.std.proofs.Common.{◌≡◌, ◌<◌, List, ap, arith, length, slice_index_or, subst, ℕ}
use Rattle.ats_engine_steps.proofs.LegLemmas.{leg_has}
use Rattle.ats_engine_steps.proofs.legs.leg_of.Goals as goal

pub overflow_cast-place_among : goal.overflow_cast-place_among
overflow_cast-place_among c =
    omega (arith, c.requires.few, c.place_among.ensures.within, ap (λ (l : List ℕ). length l) c.ports.ensures.value)

pub returns-clause-has : goal.returns-clause-has
returns-clause-has c =
    let stream = c.args.stream.now in
    let place = c.place_among.result in
    let within : place < length stream.ports =
    subst (λ (l : List ℕ). place < length l) c.ports.ensures.value c.place_among.ensures.within in
    let is : slice_index_or stream.ports place 0 ≡ c.args.port =
    subst (λ (l : List ℕ). slice_index_or l place 0 ≡ c.args.port) c.ports.ensures.value c.place_among.ensures.port in
    let found = c.leg_of_place.ensures in
    leg_has stream.ports stream.branches c.leg_of_place.result place c.args.port c.ports.ensures.rules.branches
    found.leg found.from found.below within is
