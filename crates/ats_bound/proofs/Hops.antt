-- The place of a port on a path.
use Rattle.std.proofs.Common.{◌≡◌, ℕ, zero, suc, ◌+◌, ◌<◌, Bool, true, false, cond, List, [], ◌∷◌, length, get_or}
use Rattle.std.proofs.Common.{Some, None, refl, sym, ap, ◌∙◌, eqb, arith}
use Rattle.std.specs.Prelude.{◌&&◌}
use Rattle.std.specs.List.{list_any, position_from}
use Rattle.std.proofs.lemmas.Bool.{eqb-true}
use Rattle.std.proofs.lemmas.List.Folds.{list_any_at, list_any_none}
use Rattle.std.proofs.lemmas.Option.{same_Some, none-some}
use Rattle.ats_topology.proofs.PositionLemmas.{IsFound, found, all_fail}
use Rattle.ats_topology.specs.Topology.{DeclaredTopology}
use Rattle.ats_network.specs.Sender.{Sender}
use Rattle.ats_network.specs.Class.{class_along, class_at, seen_at}
use Rattle.ats_tally.specs.Tally.{tally_with}
use Rattle.ats_tally.specs.declared.tally.Tally.{Tally}
use Rattle.ats_bound.specs.Users.{is_user, with_user}

-- the port stands at this place of the path
pub record IsHop (port : ℕ) (path : List ℕ) (hop : ℕ) : Type 0 where
  pub within : hop < length path
  pub is : get_or path hop 0 ≡ port
  pub uses : list_any (λ p. eqb p port) path ≡ true

pub hop_is : (port : ℕ) (path : List ℕ) (hop : ℕ) → position_from (λ p. eqb p port) 0 path ≡ Some hop
    → IsHop port path hop
hop_is port path hop at =
    let f : IsFound (λ p. eqb p port) path 0 0 hop = found (λ p. eqb p port) 0 path hop 0 at in
    let same : hop ≡ f.place = omega (arith, f.is) in
    record {
      within = omega (arith, f.within, same);
      is = ap (λ (n : ℕ). get_or path n 0) same ∙ eqb-true (get_or path f.place 0) port f.passes;
      uses = list_any_at (λ p. eqb p port) path f.place 0 f.within f.passes;
    }

-- a path that has no such place does not have the port
pub no_hop : (port : ℕ) (path : List ℕ) → position_from (λ p. eqb p port) 0 path ≡ None
    → list_any (λ p. eqb p port) path ≡ false
no_hop port path none = list_any_none (λ p. eqb p port) path (all_fail (λ p. eqb p port) 0 path none)

-- the class at a port is that at the port's first place
class_first : (port k : ℕ) (path classes : List ℕ) (hop : ℕ) → length classes ≡ length path
    → position_from (λ p. eqb p port) k path ≡ Some (k + hop) → class_along port path classes ≡ get_or classes hop 0
class_first port k [] classes hop many at = absurd (none-some (k + hop) at)
class_first port k (p ∷ path) [] hop many at = absurd (omega arith)
class_first port k (p ∷ path) (class ∷ classes) hop many at =
    by (eqb p port) refl at (λ n later. class_first port (k + 1) path classes n (omega arith) later)
  where
    here : (n : ℕ) → n ≡ zero → class ≡ get_or (class ∷ classes) n 0
    here n first = ap (λ (m : ℕ). get_or (class ∷ classes) m 0) (sym first)

    by : (b : Bool) → eqb p port ≡ b
        → cond b (Some k) (position_from (λ p. eqb p port) (k + 1) path) ≡ Some (k + hop)
        → ((n : ℕ) → position_from (λ p. eqb p port) (k + 1) path ≡ Some ((k + 1) + n)
        → class_along port path classes ≡ get_or classes n 0)
        → cond b class (class_along port path classes) ≡ get_or (class ∷ classes) hop 0
    by true e h more = let same : k ≡ k + hop = same_Some k (k + hop) h in here hop (omega (arith, same))
    by false e h more =
        let f : IsFound (λ p. eqb p port) path 0 (k + 1) (k + hop) =
        found (λ p. eqb p port) (k + 1) path (k + hop) 0 h in
        let next : hop ≡ suc f.place = omega (arith, f.is) in
        let later : k + hop ≡ (k + 1) + f.place = omega (arith, f.is) in
        more f.place (h ∙ ap Some later) ∙ ap (λ (n : ℕ). get_or (class ∷ classes) n 0) (sym next)

pub class_at_place : (port : ℕ) (path classes : List ℕ) (hop : ℕ) → length classes ≡ length path
    → position_from (λ p. eqb p port) 0 path ≡ Some hop → class_along port path classes ≡ get_or classes hop 0
class_at_place port path classes hop many at =
    let from : hop ≡ 0 + hop = omega arith in class_first port 0 path classes hop many (at ∙ ap Some from)

-- what the place of a port on a sender's path says of the sender there
pub user_at : (port class : ℕ) (s : Sender) (hop : ℕ) → length s.classes ≡ length s.ports
    → position_from (λ p. eqb p port) 0 s.ports ≡ Some hop → is_user port class s ≡ eqb (get_or s.classes hop 0) class
user_at port class s hop many at =
    ap (λ (b : Bool). b && eqb (class_at s port) class) (hop_is port s.ports hop at).uses
    ∙ ap (λ (n : ℕ). eqb n class) (class_at_place port s.ports s.classes hop many at)

pub no_user : (port class : ℕ) (s : Sender) → position_from (λ p. eqb p port) 0 s.ports ≡ None
    → is_user port class s ≡ false
no_user port class s none = ap (λ (b : Bool). b && eqb (class_at s port) class) (no_hop port s.ports none)

pub more_at : (topology : DeclaredTopology) (port class : ℕ) (s : Sender) (tally : Tally) (hop : ℕ)
    → position_from (λ p. eqb p port) 0 s.ports ≡ Some hop
    → with_user topology port class s tally ≡ tally_with class (seen_at topology (get_or s.ports hop 0) s) tally
more_at topology port class s tally hop at =
    let h : IsHop port s.ports hop = hop_is port s.ports hop at in
    ap (λ (b : Bool). cond b (tally_with class (seen_at topology port s) tally) tally) h.uses
    ∙ ap (λ (n : ℕ). tally_with class (seen_at topology n s) tally) (sym h.is)

pub no_more : (topology : DeclaredTopology) (port class : ℕ) (s : Sender) (tally : Tally)
    → position_from (λ p. eqb p port) 0 s.ports ≡ None → with_user topology port class s tally ≡ tally
no_more topology port class s tally none =
    ap (λ (b : Bool). cond b (tally_with class (seen_at topology port s) tally) tally) (no_hop port s.ports none)
