use Rattle.std.proofs.Common.{◌≡◌, ℕ, Bool, true, false, cond, ◌&&◌, List, [], ◌∷◌, ◌++◌, Option, Some}
use Rattle.std.proofs.Common.{None, refl, sym, ap, ◌∙◌, arith, eqb}
use Rattle.std.specs.BTreeMap.{BTreeMap, Updates}
use Rattle.std.specs.Cmp.Lexicographic.{slice_cmp, nat_list_eq_equiv}
use Rattle.std.specs.Ordering.{nat_cmp}
use Rattle.std.specs.Str.{bytes_eq}
use Rattle.std.proofs.lemmas.Map.Text.{is_eq-slice_cmp}
use Rattle.std.proofs.lemmas.Bool.{eqb-true, and_parts, false≢true}
use Rattle.std.proofs.lemmas.List.Quantifiers.{all_pairs_push}
use Rattle.ats_facts.proofs.Options.{is_some-false}
use Rattle.ats_topology.proofs.Pairs.{pair_cmp, is_eq-pair_cmp}
use Rattle.ats_topology.proofs.PositionLemmas.{all_fail}
use Rattle.ats_streams.specs.Stream.{DeclaredStream}
use Rattle.ats_network.specs.Network.{Share, AreIdentified}
use Rattle.ats_network.specs.Pushes.{is_identity, has_identity, place_identified, is_identity_taken}
use Rattle.ats_network.specs.Tables.{number_at, serial_at, IsUnidentified, Identifies, FindsSame, Names}

-- a number put into the map for an identity
put : (old new : BTreeMap (ℕ × ℕ) ℕ) (identity : ℕ × ℕ) (given : Option ℕ) → Updates pair_cmp old new identity given
    → (address vlan : ℕ)
    → number_at new address vlan ≡ cond (is_identity (address, vlan) (Some identity)) given (number_at old address vlan)
put old new identity given updates address vlan =
    updates.0 (address, vlan)
    ∙ ap (λ (b : Bool). cond b given (number_at old address vlan)) (is_eq-pair_cmp identity (address, vlan))

pub identifies : (old new : BTreeMap (ℕ × ℕ) ℕ) (identity : ℕ × ℕ) (declared : Option (ℕ × ℕ)) (given : Option ℕ)
    → Some identity ≡ declared → Updates pair_cmp old new identity given → Identifies old new declared given
identifies old new identity declared given same updates address vlan =
    put old new identity given updates address vlan
    ∙ ap (λ (d : Option (ℕ × ℕ)). cond (is_identity (address, vlan) d) given (number_at old address vlan)) same

-- a map of names in which one name is given another number, or none
pub names_it : (old new : BTreeMap (List ℕ) ℕ) (asked name : List ℕ) (given : Option ℕ) → asked ≡ name
    → Updates (slice_cmp nat_cmp) old new asked given → Names old new name given
names_it old new asked name given same updates q =
    updates.0 q ∙ ap (λ (b : Bool). cond b given (serial_at old q))
    (is_eq-slice_cmp asked q ∙ nat_list_eq_equiv.symm asked q ∙ ap (bytes_eq q) same)

-- where an identity that a map did not have was put in and taken out again, the map has what it had
pub taken_back : (old mid new : BTreeMap (ℕ × ℕ) ℕ) (identity : ℕ × ℕ) (declared : Option (ℕ × ℕ)) (place : ℕ)
    → Some identity ≡ declared → IsUnidentified old declared
    → Updates pair_cmp old mid identity (Some place) → Updates pair_cmp mid new identity None → FindsSame old new
taken_back old mid new identity declared place same none there back address vlan =
    by (is_identity (address, vlan) (Some identity)) refl
  where
    out : number_at new address vlan
        ≡ cond (is_identity (address, vlan) (Some identity)) None (number_at mid address vlan)
    out = put mid new identity None back address vlan

    by : (b : Bool) → is_identity (address, vlan) (Some identity) ≡ b
        → number_at new address vlan ≡ number_at old address vlan
    by true e =
        out ∙ ap (λ (b : Bool). cond b None (number_at mid address vlan)) e
        ∙ sym (none address vlan (sym (ap (is_identity (address, vlan)) same) ∙ e))
    by false e =
        out ∙ ap (λ (b : Bool). cond b None (number_at mid address vlan)) e
        ∙ put old mid identity (Some place) there address vlan
        ∙ ap (λ (b : Bool). cond b (Some place) (number_at old address vlan)) e

-- an identity that is not taken is found nowhere
pub absent_identity : (streams : List DeclaredStream) (declared : Option (ℕ × ℕ))
    → is_identity_taken streams declared ≡ false
    → (address vlan : ℕ) → is_identity (address, vlan) declared ≡ true → place_identified (address, vlan) streams ≡ None
absent_identity streams None free address vlan same = absurd (false≢true same)
absent_identity streams (Some identity) free address vlan same =
    let parts : (eqb identity.0 address ≡ true) × (eqb identity.1 vlan ≡ true) =
    and_parts (eqb identity.0 address) (eqb identity.1 vlan) same in
    ap (λ (n : ℕ). place_identified (n, vlan) streams) (sym (eqb-true identity.0 address parts.0))
    ∙ ap (λ (n : ℕ). place_identified (identity.0, n) streams) (sym (eqb-true identity.1 vlan parts.1))
    ∙ is_some-false (place_identified identity streams) free

refl_eqb : (n : ℕ) → eqb n n ≡ true
refl_eqb n = grind arith

pub same_identity : (identity : ℕ × ℕ) → is_identity identity (Some identity) ≡ true
same_identity identity = ap (λ (b : Bool). b && eqb identity.1 identity.1) (refl_eqb identity.0) ∙ refl_eqb identity.1

-- streams of different identities and one more, whose identity is not taken, have different identities
pub share_push : (streams : List DeclaredStream) (stream : DeclaredStream) → AreIdentified streams
    → is_identity_taken streams stream.identity ≡ false → AreIdentified (streams ++ stream ∷ [])
share_push streams stream apart free =
    all_pairs_push (λ (s t : DeclaredStream). (identity : ℕ × ℕ) → ¬ Share s t identity) streams stream apart
    (λ k d below identity shared.
    let none : place_identified identity streams ≡ None =
    absent_identity streams stream.identity free identity.0 identity.1
    (ap (is_identity identity) shared.other ∙ same_identity identity) in
    false≢true (sym (all_fail (has_identity identity) 0 streams none k d below)
    ∙ (ap (is_identity identity) shared.one ∙ same_identity identity)))
