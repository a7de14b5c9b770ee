use Rattle.std.proofs.Common.{ap, ap₂, sym, ◌∙◌, nat_cmp, is_eq}
use Rattle.std.specs.Cmp.Lexicographic.{slice_cmp, texts_ties}
use Rattle.ats_num.proofs.NameOrder.{padded_cmp}
use Rattle.ats_num.proofs.name.NamePartialEq.eq.Goals as goal

pub returns : goal.returns
returns c =
    c.is_eq.ensures ∙ ap is_eq (c.order.ensures ∙ padded_cmp c.self.inside.text c.other.inside.text c.self.inside.size
    c.other.inside.size c.self.invariant c.other.invariant
    ∙ ap₂ (slice_cmp nat_cmp) c.self.view_is c.other.view_is)
    ∙ sym (texts_ties c.args.self.now c.args.other.now)
