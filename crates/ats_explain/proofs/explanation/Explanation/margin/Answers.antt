use Rattle.std.proofs.Common.{◌≡◌, List, ◌+◌, length, get_or, ap, ◌∙◌, arith}
use Rattle.ats_explain.specs.Margins.{margins_of}
use Rattle.ats_explain.specs.declared.margin.Margin.{Margin}
use Rattle.ats_explain.proofs.Numbered.{margin_at, margin_within}
use Rattle.ats_explain.proofs.explanation.Explanation.margin.Goals as goal

pub overflow_add-result : goal.overflow_add-result
overflow_add-result c =
    let long : length c.margins.result.now ≡ length (margins_of c.args.self.now) =
    ap (λ (l : List Margin). length l) c.margins.ensures in
    omega (
      arith,
      long,
      c.margins.type_inv.0,
      margin_within c.args.self.now c.args.before c.args.stream c.args.leg c.requires.before c.requires.stream
          c.requires.leg,
    )

pub offset_bounds-margins-before : goal.offset_bounds-margins-before
offset_bounds-margins-before c =
    let long : length c.margins.result.now ≡ length (margins_of c.args.self.now) =
    ap (λ (l : List Margin). length l) c.margins.ensures in
    omega (
      arith,
      long,
      c.margins.type_inv.1,
      margin_within c.args.self.now c.args.before c.args.stream c.args.leg c.requires.before c.requires.stream
          c.requires.leg,
    )

pub bounds-margins-before : goal.bounds-margins-before
bounds-margins-before c =
    let long : length c.margins.result.now ≡ length (margins_of c.args.self.now) =
    ap (λ (l : List Margin). length l) c.margins.ensures in
    omega (
      arith,
      long,
      margin_within c.args.self.now c.args.before c.args.stream c.args.leg c.requires.before c.requires.stream
          c.requires.leg,
    )

pub returns : goal.returns
returns c =
    let m : Margin = record { sum = 0; deadline = 0 } in
    ap (λ (l : List Margin). get_or l (c.args.before + c.args.leg) m) c.margins.ensures
    ∙ margin_at c.args.self.now c.args.before c.args.stream c.args.leg m c.requires.before c.requires.stream
    c.requires.leg
