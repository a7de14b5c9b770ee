use Rattle.std.proofs.Common.{◌≡◌, ℕ, ◌≤◌, map}
use Rattle.std.specs.List.{All, range_with_len}
use Rattle.ats_group.specs.declared.member.TheConstants.{MAX_RESIDENCE_NS}
use Rattle.ats_schedulers.specs.Schedulers.{residence_of}
use Rattle.ats_schedulers.proofs.lists.residences_of.Given as goal

-- the residences of the groups so far
abbrev pub invariant-loop-group : goal.invariant-loop-group
invariant-loop-group l = record {
  value : l.residences.items ≡ map (residence_of l.network) (range_with_len 0 l.group);
  most : All (λ (r : ℕ). r ≤ MAX_RESIDENCE_NS) l.residences.items;
}
