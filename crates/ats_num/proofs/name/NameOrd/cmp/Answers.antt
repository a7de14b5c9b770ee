use Rattle.std.proofs.Common.{ap₂, ◌∙◌, nat_cmp}
use Rattle.std.specs.Cmp.Lexicographic.{slice_cmp}
use Rattle.ats_num.proofs.NameOrder.{padded_cmp}
use Rattle.ats_num.proofs.name.NameOrd.cmp.Goals as goal

pub returns : goal.returns
returns c =
    c.order.ensures ∙ padded_cmp c.self.inside.text c.other.inside.text c.self.inside.size c.other.inside.size
    c.self.invariant c.other.invariant ∙ ap₂ (slice_cmp nat_cmp) c.self.view_is c.other.view_is
