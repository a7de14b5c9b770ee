use Rattle.std.proofs.Common.{ℕ, List, take, filter, slice_index_or, sym, ◌∙◌}
use Rattle.std.proofs.lemmas.Option.{same_Some}
use Rattle.ats_buffer.specs.Levels.{level_of}
use Rattle.ats_buffer.specs.Moments.{is_of, IsInside}
use Rattle.ats_buffer.specs.declared.moments.Moment.{Moment}
use Rattle.ats_buffer.proofs.Cuts.{no_moment}
use Rattle.ats_buffer.proofs.LevelLemmas.{next_fits}
use Rattle.ats_buffer.proofs.levels.levels_after.Goals as goal

pub after-requires : goal.after-requires
after-requires c =
    let ms : List Moment = c.args.moments.now in
    let k : ℕ = c.loop-moment.moment-index in
    let m : Moment = slice_index_or ms k no_moment in
    let inside : IsInside c.args.ports m = c.requires.ordered.inside k no_moment c.loop-moment-test.true in
    next_fits c.args.ports ms c.requires.ordered k no_moment c.loop-moment-test.true c.get-level.result
    (same_Some c.get-level.result (level_of (filter (is_of m.port m.class) (take k ms)))
    (sym c.get-level.ensures ∙ c.loop-moment.invariant.each m.port m.class inside.port inside.class))
