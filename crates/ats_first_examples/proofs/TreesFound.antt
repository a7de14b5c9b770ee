use Rattle.std.proofs.Common.{ℕ, List, [], ◌∷◌, refl}
use Rattle.std.specs.Prelude.{codes}
use Rattle.std.specs.List.{All}
use Rattle.std.proofs.lemmas.List.Elements.{All-cons, All-head, All-nil, All-tail}
use Rattle.ats_network.specs.Path.{IsValidPath}
use Rattle.ats_network_table.specs.declared.format.Format.TheVariants.{Three}
use Rattle.ats_network_file.specs.declared.senders.SenderTable.TheVariants.{Stream}
use Rattle.ats_network_file.proofs.LegsFound.{legs_are, no_tree, not_all_valid}
use Rattle.ats_examples.proofs.NetworkTest.{valid_from_by}
use Rattle.ats_examples.specs.Networks.{fork}
use Rattle.ats_first_examples.specs.Senders.{at_number, between, leg}
use Rattle.ats_first_examples.specs.Trees.{TreesAreFound, fork_of, through}
use Rattle.ats_first_examples.proofs.Routes.{invalid_by}

-- Trees by a test of the ports of their routes.

abbrev IsValid : List ℕ → Type 0
IsValid = IsValidPath fork.topology

to_second : IsValid (0 ∷ 2 ∷ [])
to_second = valid_from_by fork.topology 0 (0 ∷ 2 ∷ []) refl

to_third : IsValid (0 ∷ 5 ∷ [])
to_third = valid_from_by fork.topology 0 (0 ∷ 5 ∷ []) refl

from_third : IsValid (4 ∷ 2 ∷ [])
from_third = valid_from_by fork.topology 2 (4 ∷ 2 ∷ []) refl

to_first : IsValid (4 ∷ 1 ∷ [])
to_first = valid_from_by fork.topology 2 (4 ∷ 1 ∷ []) refl

to_bridge : IsValid (0 ∷ [])
to_bridge = valid_from_by fork.topology 0 (0 ∷ []) refl

both : (p q : List ℕ) → IsValid p → IsValid q → All IsValid (p ∷ q ∷ [])
both p q first second = All-cons IsValid p (q ∷ []) first (All-cons IsValid q [] second (All-nil IsValid))

not_second : (p q : List ℕ) → ¬ IsValid q → ¬ All IsValid (p ∷ q ∷ [])
not_second p q never all = never (All-head IsValid q [] (All-tail IsValid p (q ∷ []) all))

pub trees_are_found : TreesAreFound
trees_are_found = record {
  by_ends = legs_are Three fork.topology (at_number Stream)
      (between (codes "s1") (codes "s2") ∷ between (codes "s1") (codes "s3") ∷ [])
      ((0 ∷ 2 ∷ []) ∷ (0 ∷ 5 ∷ []) ∷ []) (fork_of 0 2 5) refl (both (0 ∷ 2 ∷ []) (0 ∷ 5 ∷ []) to_second to_third)
      refl refl;
  by_paths = legs_are Three fork.topology (at_number Stream)
      (through (codes "s1") (codes "s2") ∷ through (codes "s1") (codes "s3") ∷ [])
      ((0 ∷ 2 ∷ []) ∷ (0 ∷ 5 ∷ []) ∷ []) (fork_of 0 2 5) refl (both (0 ∷ 2 ∷ []) (0 ∷ 5 ∷ []) to_second to_third)
      refl refl;
  other_order = legs_are Three fork.topology (at_number Stream)
      (through (codes "s1") (codes "s3") ∷ through (codes "s1") (codes "s2") ∷ [])
      ((0 ∷ 5 ∷ []) ∷ (0 ∷ 2 ∷ []) ∷ []) (fork_of 0 5 2) refl (both (0 ∷ 5 ∷ []) (0 ∷ 2 ∷ []) to_third to_second)
      refl refl;
  one = legs_are Three fork.topology (at_number Stream) (through (codes "s1") (codes "s2") ∷ []) ((0 ∷ 2 ∷ []) ∷ [])
      (leg (0 ∷ 2 ∷ [])) refl
      (All-cons IsValid (0 ∷ 2 ∷ []) [] to_second (All-nil IsValid)) refl refl;
  none = no_tree Three fork.topology (at_number Stream) [] [] refl (All-nil IsValid) refl;
  twice = no_tree Three fork.topology (at_number Stream)
      (through (codes "s1") (codes "s2") ∷ between (codes "s1") (codes "s2") ∷ [])
      ((0 ∷ 2 ∷ []) ∷ (0 ∷ 2 ∷ []) ∷ []) refl (both (0 ∷ 2 ∷ []) (0 ∷ 2 ∷ []) to_second to_second) refl;
  two_talkers = no_tree Three fork.topology (at_number Stream)
      (through (codes "s1") (codes "s2") ∷ through (codes "s3") (codes "s2") ∷ [])
      ((0 ∷ 2 ∷ []) ∷ (4 ∷ 2 ∷ []) ∷ []) refl (both (0 ∷ 2 ∷ []) (4 ∷ 2 ∷ []) to_second from_third) refl;
  to_talker = no_tree Three fork.topology (at_number Stream)
      (through (codes "s1") (codes "s2") ∷ through (codes "s3") (codes "s1") ∷ [])
      ((0 ∷ 2 ∷ []) ∷ (4 ∷ 1 ∷ []) ∷ []) refl (both (0 ∷ 2 ∷ []) (4 ∷ 1 ∷ []) to_second to_first) refl;
  second_unknown = refl;
  second_invalid = not_all_valid Three fork.topology (at_number Stream)
      (through (codes "s1") (codes "s2") ∷ through (codes "s1") (codes "s1") ∷ []) ((0 ∷ 2 ∷ []) ∷ (0 ∷ 1 ∷ []) ∷ [])
      refl (not_second (0 ∷ 2 ∷ []) (0 ∷ 1 ∷ []) (invalid_by fork.topology (0 ∷ 1 ∷ []) 0 0 refl refl));
  on_the_way = no_tree Three fork.topology (at_number Stream)
      (through (codes "s1") (codes "s2") ∷ between (codes "s1") (codes "b1") ∷ []) ((0 ∷ 2 ∷ []) ∷ (0 ∷ []) ∷ []) refl
      (both (0 ∷ 2 ∷ []) (0 ∷ []) to_second to_bridge) refl;
}
