use Rattle.std.proofs.Common.{◌+◌, ◌*◌, ◌<◌, ◌++◌, ◌∷◌, [], ℕ, List, length, take, get_or, sym, ap, ◌∙◌}
use Rattle.ats_admission_state.specs.Routes.{places_along}
use Rattle.ats_admission_state.proofs.Places.{places_more}
use Rattle.ats_admission_state.proofs.routes.listed_places.Goals as goal

pub loop-hop-preserved : goal.loop-hop-preserved
loop-hop-preserved c =
    let hop : ℕ = c.loop-hop.hop in
    let ports : List ℕ = c.args.ports.now in
    let classes : List ℕ = c.args.classes.now in
    let value : ℕ = 8 * get_or ports hop 0 + c.from.result in
    let within : hop < length ports = c.loop-hop-test.true in
    c.in_ok-push.ensures.items
    ∙ ap (λ (so_far : List ℕ). so_far ++ value ∷ []) c.loop-hop.invariant
    ∙ ap (λ (class : ℕ). places_along (take hop ports) (take hop classes) ++ (8 * get_or ports hop 0 + class) ∷ [])
    c.from.ensures
    ∙ sym (places_more ports classes hop c.requires.count within)
