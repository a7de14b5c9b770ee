use Rattle.std.proofs.Common.{◌+◌, ◌*◌, ◌<◌, ◌++◌, ◌∷◌, [], ℕ, List, length, take, get_or, sym, ap, ◌∙◌, arith}
use Rattle.std.proofs.lemmas.List.{length-set}
use Rattle.ats_admission_state.specs.Routes.{places_along}
use Rattle.ats_admission_state.proofs.Places.{places_more, take_set}
use Rattle.ats_admission_state.proofs.routes.places_along.Goals as goal

pub loop-hop-preserved : goal.loop-hop-preserved
loop-hop-preserved c =
    let hop : ℕ = c.loop-hop.hop in
    let path : List ℕ = c.args.path.now in
    let classes : List ℕ = c.args.classes.now in
    let places : List ℕ = c.loop-hop.places in
    let value : ℕ = 8 * get_or path hop 0 + c.from.result in
    let within : hop < length path = c.loop-hop-test.true in
    record {
      long = length-set places hop value ∙ c.loop-hop.invariant.long;
      so_far =
          take_set places hop value (omega (arith, within, c.requires.few, c.loop-hop.invariant.long))
          ∙ ap (λ (so_far : List ℕ). so_far ++ value ∷ []) c.loop-hop.invariant.so_far
          ∙ ap (λ (class : ℕ). places_along (take hop path) (take hop classes)
          ++ (8 * get_or path hop 0 + class) ∷ []) c.from.ensures
          ∙ sym (places_more path classes hop c.requires.count within);
    }
