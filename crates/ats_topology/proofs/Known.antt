use Rattle.std.proofs.Common.{◌≡◌, ℕ, ◌+◌, ◌<◌, Bool, false, ◌||◌, List, [], length, get_or, take, Option, Some, None}
use Rattle.std.proofs.Common.{refl, sym, ap, ◌∙◌, arith, eqb, subst}
use Rattle.std.specs.Prelude.{is_some, is_none, IsSome}
use Rattle.std.specs.List.{All}
use Rattle.std.specs.Str.{bytes_eq}
use Rattle.std.proofs.lemmas.Bool.{false≢true, or_parts}
use Rattle.std.proofs.lemmas.Bool.Decides.{same_from_decides, Decides-eqb}
use Rattle.std.proofs.lemmas.Slice.Eq.{bytes_eq-Decides}
use Rattle.std.proofs.lemmas.Option.{same_Some, none-some}
use Rattle.ats_facts.proofs.Bytes.{bytes_eq-same, bytes_eq-true}
use Rattle.ats_facts.proofs.Options.{is_some-false}
use Rattle.ats_num.specs.Places.{place_of}
use Rattle.ats_topology.specs.Node.{names_of, AreApart}
use Rattle.ats_topology.specs.Link.{is_self_link, ends_at}
use Rattle.ats_topology.specs.Faults.{node_twice, unknown_node, self_link, is_name_again, fault_at, has_unknown_end}
use Rattle.ats_topology.specs.declared.fault.TopologyFault.{TopologyFault}
use Rattle.ats_topology.specs.declared.fault.TopologyFault.TheVariants.{NodeTwice, UnknownNode, SelfLink}
use Rattle.ats_topology.specs.declared.node.Node.{Node}
use Rattle.ats_topology.specs.declared.link.Link.{Link}
use Rattle.ats_topology.proofs.PositionLemmas.{position_from-some, all_fail, IsFound, found}
use Rattle.ats_topology.proofs.FirstBelow.{none_below}
use Rattle.ats_topology.proofs.NameLemmas.{length-names_of}

-- no fault, so no place
pub no_place : (fault : ℕ → TopologyFault) (place : Option ℕ) → fault_at fault place ≡ None → place ≡ None
no_place fault None h = refl
no_place fault (Some i) h = absurd (none-some (fault (i + 1)) (sym h))

some_of : (o : Option ℕ) → is_none o ≡ false → (n : ℕ) × (o ≡ Some n)
some_of None h = absurd (false≢true (sym h))
some_of (Some n) h = (n, refl)

pub apart : (nodes : List Node) → node_twice nodes ≡ None → AreApart (names_of nodes)
apart nodes none n within =
    let names : List (List ℕ) = names_of nodes in
    let name : List ℕ = get_or names n [] in
    let again : is_some (place_of name (take n names)) ≡ false = none_below (is_name_again names) (length nodes) n
    (no_place NodeTwice _ none) (omega (arith, length-names_of nodes)) in
    position_from-some (bytes_eq name) 0 names n [] (is_some-false (place_of name (take n names)) again) within
    (bytes_eq-same name)
    ∙ ap Some (omega arith)

-- the place where a name is found has that name
pub name_there : (names : List (List ℕ)) (name : List ℕ) (i : ℕ) → place_of name names ≡ Some i
    → (i < length names) × (name ≡ get_or names i [])
name_there names name i at =
    let f : IsFound (bytes_eq name) names [] 0 i = found (bytes_eq name) 0 names i [] at in
    let same : i ≡ f.place = omega (arith, f.is) in (
      omega (arith, f.within),
      bytes_eq-true name (get_or names f.place []) f.passes
          ∙ ap (λ (n : ℕ). get_or names n []) (sym same),
    )

-- a name has the number n where it is the name with that number
pub number_is : (names : List (List ℕ)) → AreApart names → (name : List ℕ) (i n : ℕ) → place_of name names ≡ Some i
    → n < length names → eqb i n ≡ bytes_eq name (get_or names n [])
number_is names separate name i n at within =
    same_from_decides (eqb i n) (bytes_eq name (get_or names n [])) (Decides-eqb i n) (
      λ h. let same : name ≡ get_or names n [] = bytes_eq-true name (get_or names n []) h in
          same_Some i n (sym at ∙ ap (λ (x : List ℕ). place_of x names) same ∙ separate n within),
      λ h. (bytes_eq-Decides name (get_or names n [])).1
          ((name_there names name i at).1 ∙ ap (λ (k : ℕ). get_or names k []) h),
    )

-- both ends of a link are names, and they differ
pub record IsOpen (names : List (List ℕ)) (link : Link) : Type 0 where
  pub a : ℕ
  pub b : ℕ
  pub a_at : place_of link.a names ≡ Some a
  pub b_at : place_of link.b names ≡ Some b
  pub differ : a ≡ b → ⊥

is_open : (names : List (List ℕ)) (link : Link) → has_unknown_end names link ≡ false → is_self_link link ≡ false
    → IsOpen names link
is_open names link known self =
    let parts : (is_none (place_of link.a names) ≡ false) × (is_none (place_of link.b names) ≡ false) =
    or_parts (is_none (place_of link.a names)) (is_none (place_of link.b names)) known in
    let a : (n : ℕ) × (place_of link.a names ≡ Some n) = some_of (place_of link.a names) parts.0 in
    let b : (n : ℕ) × (place_of link.b names ≡ Some n) = some_of (place_of link.b names) parts.1 in
    record {
      a = a.0;
      b = b.0;
      a_at = a.1;
      b_at = b.1;
      differ = λ same. false≢true (sym self ∙ (bytes_eq-Decides link.a link.b).1
          ((name_there names link.a a.0 a.1).1 ∙ ap (λ (n : ℕ). get_or names n []) same
          ∙ sym (name_there names link.b b.0 b.1).1));
    }

-- so are those of each link, where none is unknown and none leads to itself
pub all_open : (nodes : List Node) (links : List Link) → unknown_node nodes links ≡ None → self_link links ≡ None
    → All (IsOpen (names_of nodes)) links
all_open nodes links known self =
    let ends = all_fail (has_unknown_end (names_of nodes)) 0 links (no_place UnknownNode _ known) in
    let differ = all_fail is_self_link 0 links (no_place SelfLink _ self) in
    λ k d within. is_open (names_of nodes) (get_or links k d) (ends k d within) (differ k d within)

-- a link ends at the nodes of its two numbers
pub ends_at_is : (names : List (List ℕ)) → AreApart names → (link : Link) (o : IsOpen names link) (n : ℕ)
    → n < length names → ends_at (get_or names n []) link ≡ (eqb o.a n || eqb o.b n)
ends_at_is names separate link o n within =
    sym (ap (λ (t : Bool). t || eqb o.b n) (number_is names separate link.a o.a n o.a_at within)
    ∙ ap (λ (t : Bool). bytes_eq link.a (get_or names n []) || t) (number_is names separate link.b o.b n o.b_at within))

-- the same of a table of the nodes' names
pub table_apart : (table : List (List ℕ)) (nodes : List Node) → table ≡ names_of nodes → node_twice nodes ≡ None
    → AreApart table
table_apart table nodes e none = subst AreApart (sym e) (apart nodes none)

pub table_open : (table : List (List ℕ)) (nodes : List Node) (links : List Link) → table ≡ names_of nodes
    → unknown_node nodes links ≡ None → self_link links ≡ None → (i : ℕ) (link : Link) → i < length links
    → link ≡ get_or links i link → IsOpen table link
table_open table nodes links e known self i link within read =
    subst (IsOpen table) (sym read) (subst (λ (t : List (List ℕ)). IsOpen t (get_or links i link)) (sym e)
    (all_open nodes links known self i link within))

pub is_there : (o p : Option ℕ) (n : ℕ) → o ≡ p → p ≡ Some n → IsSome o
is_there None p n e h = absurd (none-some n (e ∙ h))
is_there (Some m) p n e h = refl

pub is_number : (o p : Option ℕ) (m n : ℕ) → o ≡ Some m → o ≡ p → p ≡ Some n → m ≡ n
is_number o p m n h e g = same_Some m n (sym h ∙ e ∙ g)
