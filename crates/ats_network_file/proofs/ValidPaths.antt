use Rattle.std.proofs.Common.{◌≡◌, ◌≢◌, ℕ, ◌<◌, Bool, true, false, List, [], ◌∷◌, length, refl, sym, subst}
use Rattle.std.proofs.Common.{◌⊎◌, inl, inr, arith}
use Rattle.std.specs.List.{AllPairs}
use Rattle.std.proofs.lemmas.Bool.{false≢true}
use Rattle.ats_topology.specs.Topology.{DeclaredTopology, IsTopology}
use Rattle.ats_network.specs.Path.{IsValidPath}
use Rattle.ats_network.proofs.BridgeLemmas.{talker_within}
use Rattle.ats_network.proofs.PathLemmas.{nodes_to}
use Rattle.ats_network.proofs.PathTests.{valid_or_not}
use Rattle.ats_network.proofs.SimpleWalks.{SimpleWalk, simple_short}
use Rattle.ats_network_file.specs.Routes.{holds, is_valid}

-- a decided statement whose test passes holds
passed : {A : Type 0} (decided : A ⊎ ¬ A) → holds decided ≡ true → A
passed (inl is) h = is
passed (inr never) h = absurd (false≢true h)

-- the test of a decided statement that holds passes
passes : {A : Type 0} (decided : A ⊎ ¬ A) → A → holds decided ≡ true
passes (inl is) a = refl
passes (inr never) a = absurd (never a)

-- what passes the test of a valid path is one
pub valid_passed : (topology : DeclaredTopology) (path : List ℕ) → is_valid topology path ≡ true
    → IsValidPath topology path
valid_passed topology path = passed (valid_or_not topology path)

-- a valid path passes its test
pub valid_passes : (topology : DeclaredTopology) (path : List ℕ) → IsValidPath topology path
    → is_valid topology path ≡ true
valid_passes topology path = passes (valid_or_not topology path)

-- two tests that pass for the same reason are the same
pub same_test : (a b : Bool) → (a ≡ true → b ≡ true) → (b ≡ true → a ≡ true) → a ≡ b
same_test true b f g = sym (f refl)
same_test false true f g = g refl
same_test false false f g = refl

-- a valid path of a topology has fewer ports than there are nodes
pub valid_short : (topology : DeclaredTopology) (path : List ℕ) → IsTopology topology → IsValidPath topology path
    → length path < length topology.nodes
valid_short topology [] is valid = absurd (omega (arith, valid.some))
valid_short topology (p ∷ path) is valid =
    let walk : SimpleWalk topology.ports valid.talker valid.listener = record {
      walk = p ∷ path;
      is = valid.walk;
      apart = subst (λ (n : ℕ). AllPairs (λ a b. a ≢ b) (n ∷ nodes_to topology.ports (p ∷ path)))
          valid.walk.0.from valid.apart;
    } in
    simple_short topology valid.talker valid.listener is (talker_within topology (p ∷ path) is valid) walk
