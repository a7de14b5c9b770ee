use Rattle.std.proofs.Common.{◌∙◌, ℕ, ◌≤◌, List, [], ◌∷◌, ◌++◌, map, ap, sym, subst}
use Rattle.std.specs.List.{All, range_with_len}
use Rattle.ats_group.specs.declared.member.TheConstants.{MAX_RESIDENCE_NS}
use Rattle.ats_schedulers.specs.Schedulers.{residence_of}
use Rattle.ats_schedulers.proofs.Listing.{most_more, residences_more}
use Rattle.ats_schedulers.proofs.lists.residences_of.Goals as goal

pub loop-group-preserved : goal.loop-group-preserved
loop-group-preserved c = record {
  value = c.in_ok-push.ensures.items
      ∙ ap (λ (front : List ℕ). front ++ c.residence.result ∷ []) c.loop-group.invariant.value
      ∙ ap (λ (r : ℕ). map (residence_of c.args.network.now) (range_with_len 0 c.loop-group.group) ++ r ∷ [])
      c.residence.ensures.value
      ∙ sym (residences_more c.args.network.now c.loop-group.group);
  most = subst (All (λ (r : ℕ). r ≤ MAX_RESIDENCE_NS)) (sym c.in_ok-push.ensures.items)
      (most_more c.loop-group.residences.items c.residence.result c.loop-group.invariant.most
      c.residence.ensures.most);
}
