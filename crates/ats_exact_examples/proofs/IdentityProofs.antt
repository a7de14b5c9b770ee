use Rattle.std.proofs.Common.{◌≡◌, ℕ, zero, suc, true, List, [], ◌∷◌, get_or, Option, Some, None}
use Rattle.std.proofs.Common.{ap, arith, eqb, subst, ◌∙◌}
use Rattle.std.specs.Prelude.{slice_get}
use Rattle.std.specs.Option.{option_and_then}
use Rattle.std.proofs.lemmas.Bool.{and_parts, eqb-true, false≢true}
use Rattle.std.proofs.lemmas.Option.{none-some}
use Rattle.ats_topology.proofs.PositionLemmas.{found}
use Rattle.ats_streams.specs.Stream.{DeclaredStream}
use Rattle.ats_network.specs.Edits.{no_stream}
use Rattle.ats_network.specs.Pushes.{has_identity, is_identity, place_identified}
use Rattle.ats_exact_examples.specs.Named.{IdentitiesAreExact, IsStreamIdentified}

-- What stands at the place that a search by a destination address and a VLAN identifier finds.

pub declared_so : (identity : ℕ × ℕ) (o : Option (ℕ × ℕ)) → is_identity identity o ≡ true → o ≡ Some identity
declared_so identity None h = absurd (false≢true h)
declared_so identity (Some declared) h =
    let parts : (eqb declared.0 identity.0 ≡ true) × (eqb declared.1 identity.1 ≡ true) =
    and_parts (eqb declared.0 identity.0) (eqb declared.1 identity.1) h in
    ap (λ (n : ℕ). Some (n, declared.1)) (eqb-true declared.0 identity.0 parts.0)
    ∙ ap (λ (n : ℕ). Some (identity.0, n)) (eqb-true declared.1 identity.1 parts.1)

stream_is : (streams : List DeclaredStream) (identity : ℕ × ℕ) (n : ℕ) → place_identified identity streams ≡ Some n
    → IsStreamIdentified streams identity n
stream_is streams identity n placed =
    let at = found (has_identity identity) 0 streams n no_stream placed in
    let same : at.place ≡ n = omega (arith, at.is) in
    subst (IsStreamIdentified streams identity) same (record {
      there = at.within;
      so = declared_so identity (get_or streams at.place no_stream).identity at.passes;
    })

sender_is : (streams : List DeclaredStream) (n : ℕ) (identity : ℕ × ℕ)
    → option_and_then (λ (stream : DeclaredStream). stream.identity) (slice_get streams n) ≡ Some identity
    → IsStreamIdentified streams identity n
sender_is [] n identity h = absurd (none-some identity h)
sender_is (stream ∷ streams) zero identity h = record { there = omega arith; so = h }
sender_is (stream ∷ streams) (suc n) identity h =
    let behind = sender_is streams n identity h in
    record { there = omega (arith, behind.there); so = behind.so }

pub identities_are_exact : IdentitiesAreExact
identities_are_exact = record {
  stream = stream_is;
  sender = λ network n identity. sender_is network.streams n identity;
}
