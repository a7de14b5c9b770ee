use Rattle.std.proofs.Common.{◌≡◌, ℕ, zero, suc, ◌+◌, ◌<◌, Bool, true, false, cond, eqb, List, [], ◌∷◌, ◌++◌, length}
use Rattle.std.proofs.Common.{get_or, Some, refl, sym, ap, ◌∙◌, subst, arith, append_assoc, length-append}
use Rattle.std.specs.Prelude.{◌&&◌, filter}
use Rattle.std.specs.List.{position_from, range_with_len}
use Rattle.std.specs.Str.{bytes_eq}
use Rattle.std.proofs.lemmas.Bool.{and_parts, eq-eqb, eqb-true, false≢true}
use Rattle.std.proofs.lemmas.Option.{none-some, same_Some}
use Rattle.std.proofs.Math.Seq.{get_or-append_seam}
use Rattle.ats_facts.proofs.Bytes.{bytes_eq-same, bytes_eq-true}
use Rattle.ats_topology.specs.Port.{goes, leaves, leaving_from, no_port, port_at}
use Rattle.ats_topology.specs.declared.port.Port.{Port}
use Rattle.ats_topology.proofs.PositionLemmas.{IsFound, found}
use Rattle.ats_plain_topology_law.specs.Places.{NamesAreFirst, PlacesAreGiven, PortsAreFirst}

-- At which places names and ports are found.

-- no place before the one that is found passes
before_fails : {X : Type 0} (t : X → Bool) (k : ℕ) (xs : List X) (n m : ℕ) (d : X) → position_from t k xs ≡ Some n
    → k + m < n → t (get_or xs m d) ≡ false
before_fails t k [] n m d h below = absurd (none-some n h)
before_fails t k (x ∷ xs) n m d h below =
    by (λ later m below. before_fails t (k + 1) xs n m d later below) (t x) refl h m below
  where
    by : (position_from t (k + 1) xs ≡ Some n → (m : ℕ) → k + 1 + m < n → t (get_or xs m d) ≡ false) → (b : Bool)
        → t x ≡ b → cond b (Some k) (position_from t (k + 1) xs) ≡ Some n → (m : ℕ) → k + m < n
        → t (get_or (x ∷ xs) m d) ≡ false
    by behind true e h m below = let here : k ≡ n = same_Some k n h in absurd (omega (arith, here, below))
    by behind false e h zero below = e
    by behind false e h (suc m) below = behind h m (omega (arith, below))

-- the first place of a list that passes a test
record IsFirstAt {X : Type 0} (t : X → Bool) (xs : List X) (d : X) (n : ℕ) : Type 0 where
  within : n < length xs
  passes : t (get_or xs n d) ≡ true
  before : (m : ℕ) → m < n → t (get_or xs m d) ≡ false

is_first : {X : Type 0} (t : X → Bool) (xs : List X) (d : X) (n : ℕ) → position_from t 0 xs ≡ Some n
    → IsFirstAt t xs d n
is_first t xs d n h =
    let at : IsFound t xs d 0 n = found t 0 xs n d h in
    let same : at.place ≡ n = omega (arith, at.is) in
    record {
      within = omega (arith, at.within, same);
      passes = sym (ap (λ (i : ℕ). t (get_or xs i d)) same) ∙ at.passes;
      before = λ m below. before_fails t 0 xs n m d h (omega (arith, below));
    }

found_from : {X : Type 0} (t : X → Bool) (k : ℕ) (xs : List X) (d : X) (n : ℕ) → n < length xs
    → t (get_or xs n d) ≡ true → ((m : ℕ) → m < n → t (get_or xs m d) ≡ false) → position_from t k xs ≡ Some (k + n)
found_from t k [] d n within passes before = absurd (omega arith)
found_from t k (x ∷ xs) d zero within passes before =
    ap (λ (b : Bool). cond b (Some k) (position_from t (k + 1) xs)) passes ∙ ap Some (omega arith)
found_from t k (x ∷ xs) d (suc n) within passes before =
    ap (λ (b : Bool). cond b (Some k) (position_from t (k + 1) xs)) (before zero (omega arith))
    ∙ found_from t (k + 1) xs d n (omega arith) passes (λ m below. before (suc m) (omega (arith, below)))
    ∙ ap Some (omega arith)

is_found : {X : Type 0} (t : X → Bool) (xs : List X) (d : X) (n : ℕ) → n < length xs
    → t (get_or xs n d) ≡ true → ((m : ℕ) → m < n → t (get_or xs m d) ≡ false) → position_from t 0 xs ≡ Some n
is_found t xs d n within passes before = found_from t 0 xs d n within passes before ∙ ap Some (omega arith)

fails : (b : Bool) → (b ≡ true → ⊥) → b ≡ false
fails true not_true = absurd (not_true refl)
fails false not_true = refl

same_bytes : (xs ys : List ℕ) → ys ≡ xs → bytes_eq xs ys ≡ true
same_bytes xs ys same = subst (λ (l : List ℕ). bytes_eq xs l ≡ true) (sym same) (bytes_eq-same xs)

names : NamesAreFirst
names = record {
  name = λ name names n. (
    λ h. (let first = is_first (bytes_eq name) names [] n h in (
      first.within,
      sym (bytes_eq-true name (get_or names n []) first.passes),
      λ k below same.
          false≢true (sym (first.before k below) ∙ same_bytes name (get_or names k []) same),
    )),
    λ is. is_found (bytes_eq name) names [] n is.0 (same_bytes name (get_or names n []) is.1) (λ k below.
        fails (bytes_eq name (get_or names k [])) (λ passes.
        is.2 k below (sym (bytes_eq-true name (get_or names k []) passes)))),
  );
}

-- the port leaves the first node and leads to the second
goes_both : (a b : ℕ) (port : Port) → goes a b port ≡ true → (port.from ≡ a) × (port.to ≡ b)
goes_both a b port h =
    let both = and_parts (eqb port.from a) (eqb port.to b) h in
    (eqb-true port.from a both.0, eqb-true port.to b both.1)

goes_so : (a b : ℕ) (port : Port) → port.from ≡ a → port.to ≡ b → goes a b port ≡ true
goes_so a b port from to =
    ap (λ (x : Bool). x && eqb port.to b) (eq-eqb port.from a from) ∙ eq-eqb port.to b to

-- the numbers of the ports that leave a node, where others stand in front
own_behind : (node : ℕ) (all before ports : List Port) → all ≡ before ++ ports
    → leaving_from node (length before) ports
    ≡ filter (λ p. eqb (port_at all p).from node) (range_with_len (length before) (length ports))
own_behind node all before [] whole = refl
own_behind node all before (port ∷ ports) whole =
    let more : List Port = before ++ port ∷ [] in
    let long : length more ≡ length before + 1 = length-append before (port ∷ []) in
    let here : port_at all (length before) ≡ port =
    ap (λ (l : List Port). port_at l (length before)) whole ∙ get_or-append_seam before port ports no_port in
    let later : leaving_from node (length before + 1) ports
    ≡ filter (λ p. eqb (port_at all p).from node) (range_with_len (length before + 1) (length ports)) =
    subst (λ (k : ℕ). leaving_from node k ports
    ≡ filter (λ p. eqb (port_at all p).from node) (range_with_len k (length ports))) long
    (own_behind node all more ports (whole ∙ sym (append_assoc before (port ∷ []) ports))) in
    ap (λ (l : List ℕ). cond (leaves node port) (length before ∷ l) l) later
    ∙ ap (λ (x : Port). cond (eqb x.from node)
    (length before
    ∷ filter (λ p. eqb (port_at all p).from node) (range_with_len (length before + 1) (length ports)))
    (filter (λ p. eqb (port_at all p).from node) (range_with_len (length before + 1) (length ports)))) (sym here)

ports : PortsAreFirst
ports = record {
  between = λ a b ports p. (
    λ h. (let first = is_first (goes a b) ports no_port p h in
        let both = goes_both a b (port_at ports p) first.passes in (
          first.within,
          both.0,
          both.1,
          λ q below does.
              false≢true (sym (first.before q below) ∙ goes_so a b (port_at ports q) does.0 does.1),
        )),
    λ is. is_found (goes a b) ports no_port p is.0 (goes_so a b (port_at ports p) is.1 is.2) (λ q below.
        fails (goes a b (port_at ports q)) (λ does. is.3 q below (goes_both a b (port_at ports q) does))),
  );
  own = λ node ports. own_behind node ports [] ports refl;
}

pub places_are_given : PlacesAreGiven
places_are_given = record { names = names; ports = ports }
