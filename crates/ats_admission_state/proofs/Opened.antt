-- The paths of a network's streams, as they are listed one by one.
use Rattle.std.proofs.Common.{◌≡◌, ◌≢◌, ℕ, ◌+◌, ◌<◌, List, [], ◌∷◌, ◌++◌, length, get_or, map, take, sym, ap, subst}
use Rattle.std.proofs.Common.{◌∙◌, arith}
use Rattle.std.specs.List.{All, AllPairs}
use Rattle.std.proofs.lemmas.List.{map_more}
use Rattle.ats_streams.specs.Stream.{DeclaredStream}
use Rattle.ats_network.specs.Network.{DeclaredNetwork, IsNetwork}
use Rattle.ats_tally.proofs.Paths.{paths_apart, paths_inside}

-- a path of different ports, of so many
pub record IsOver (ports : ℕ) (path : List ℕ) : Type 0 where
  pub inside : All (λ p. p < ports) path
  pub apart : AllPairs (λ p q. p ≢ q) path

pub streams_over : (network : DeclaredNetwork) → IsNetwork network
    → All (λ (s : DeclaredStream). IsOver (length network.topology.ports) s.ports) network.streams
streams_over network is k d h =
    record { inside = paths_inside network is k d h; apart = paths_apart network is k d h }

-- what is read in a loop over a list is one of its elements
pub read_is : {X : Type 0} (P : X → Type 0) (xs listed : List X) (i : ℕ) (x : X) → All P xs → i < length listed
    → listed ≡ xs → x ≡ get_or listed i x → P x
read_is {X} P xs listed i x all within same is =
    let long : length listed ≡ length xs = ap (λ (t : List X). length t) same in
    subst P (sym (is ∙ ap (λ (t : List X). get_or t i x) same)) (all i x (omega (arith, within, long)))

-- a path over so many ports is one over the ports of an index, as it is read
pub over_lists : (ports lists : ℕ) (path read : List ℕ) → IsOver ports path → lists ≡ ports → read ≡ path
    → IsOver lists read
over_lists ports lists path read over same is =
    subst (IsOver lists) (sym is) (subst (λ (n : ℕ). IsOver n path) (sym same) over)

-- with the next path, the paths of one element more
pub next_path : {X : Type 0} (f : X → List ℕ) (xs listed : List X) (i : ℕ) (x : X) (read : List ℕ) → i < length listed
    → listed ≡ xs → x ≡ get_or listed i x → read ≡ f x → map f (take i xs) ++ read ∷ [] ≡ map f (take (i + 1) xs)
next_path {X} f xs listed i x read within same is read_is =
    let long : length listed ≡ length xs = ap (λ (t : List X). length t) same in
    ap (λ (path : List ℕ). map f (take i xs) ++ path ∷ [])
    (read_is ∙ ap f (is ∙ ap (λ (t : List X). get_or t i x) same))
    ∙ sym (map_more f xs i x (omega (arith, within, long)))
