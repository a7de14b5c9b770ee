use Rattle.std.proofs.Common.{ap, ◌∙◌}
use Rattle.ats_num.specs.Places.{place_of}
use Rattle.ats_num.proofs.Numbered.{found_within}
use Rattle.ats_num.proofs.name_table.NameTable.place.Goals as goal

pub returns-clause-within : goal.returns-clause-within
returns-clause-within c =
    found_within c.args.name.now c.args.self.now c.copied.result
    (c.copied.ensures ∙ c.get.ensures.value ∙ c.self.invariant.found c.args.name.now
    ∙ ap (place_of c.args.name.now) c.self.view_is)
