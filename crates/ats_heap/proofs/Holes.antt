use Rattle.std.proofs.Common.{◌≡◌, ℕ, ◌<◌, List, length, get_or, set, sym, ◌∙◌, ap}
use Rattle.std.proofs.Common.{arith, inl, inr}
use Rattle.std.specs.Prelude.{◌≢◌, IsPermutation}
use Rattle.std.specs.List.{swap}
use Rattle.std.proofs.lemmas.Bool.{cases_eq}
use Rattle.std.proofs.lemmas.Grind.{get_or-set_at}
use Rattle.std.proofs.lemmas.List.{get_or-set_other, get_or-set_same, length-set, set-set}
use Rattle.std.proofs.lemmas.List.Edits.{swap_is}
use Rattle.std.proofs.lemmas.List.Sorted.{IsPermutation-swap}
use Rattle.ats_heap.specs.Inside.{IsBelow, IsHeapAround, Fits}

-- the item at c moves to the hole, which moves to c: where another item stands in the hole, two change places
pub moved : {X : Type 0} (xs : List X) (h c : ℕ) (x v : X) → h < length xs → c < length xs → h ≢ c
    → ((d : X) → get_or xs c d ≡ v) → IsPermutation (set xs h x) (set (set xs h v) c x)
moved {X} xs h c x v hh hc apart at =
    let ys : List X = set xs h x in
    let above : get_or ys h x ≡ x = get_or-set_same xs h x x hh in
    let below : get_or ys c x ≡ v = get_or-set_other xs h c x x (λ e. apart (sym e)) ∙ at x in
    let lh : h < length ys = omega (arith, length-set xs h x) in
    let lc : c < length ys = omega (arith, length-set xs h x) in
    let first : set (set ys h v) c x ≡ swap ys h c = rw (below, above) at (swap_is ys h c x lh lc) in
    let second : set (set ys h v) c x ≡ set (set xs h v) c x = ap (λ (zs : List X). set zs c x) (set-set xs h x v) in
    IsPermutation-swap ys (set (set xs h v) c x) h c lh lc (sym second ∙ first)

module _ {X : Type 0} (leads : X → X → Type 0) where
  -- the first of the items below the hole moves up to it
  pub sinks : (xs : List X) (h c : ℕ) (v : X) → c < length xs → IsBelow h c → ((d : X) → get_or xs c d ≡ v)
      → ((k : ℕ) (d : X) → IsBelow h k → k < length xs → leads v (get_or xs k d))
      → IsHeapAround leads xs h → IsHeapAround leads (set xs h v) c
  sinks xs h c v hc below at first around =
      let hh : h < length xs = omega arith in
      let size : length (set xs h v) ≡ length xs = length-set xs h v in
      let old : (k : ℕ) (d : X) → k ≢ h → get_or (set xs h v) k d ≡ get_or xs k d =
      λ k d n. get_or-set_other xs h k v d n in
      let new : (k : ℕ) (d : X) → k ≡ h → get_or (set xs h v) k d ≡ v = λ k d e. get_or-set_at xs h k v d e hh in
      let At : ℕ → ℕ → X → Type 0 = λ j k d. leads (get_or (set xs h v) j d) (get_or (set xs h v) k d) in
      record {
        edges = λ j k d b l jn kn. (
            let within : k < length xs = omega arith in
            elim (cases_eq j h) as (λ _. At j k d) [
              | inl jh ↦ (let n : k ≢ h = λ e. omega arith in
                  rw (new j d jh, old k d n) (first k d (record { least = omega arith; most = omega arith }) within))
              | inr other ↦ elim (cases_eq k h) as (λ _. At j k d) [
                | inl kh ↦ rw (old j d other, new k d kh, ← at d)
                    (around.across j c d (record { least = omega arith; most = omega arith }) below hc)
                | inr n ↦ rw (old j d other, old k d n) (around.edges j k d b within other n)
              ]
            ]);
        across = λ j k d b e l. (
            let within : k < length xs = omega arith in
            let n : k ≢ h = λ z. omega arith in
            let cn : c ≢ h = λ z. omega arith in
            let jh : j ≡ h = omega arith in
            rw (new j d jh, old k d n, ← at d) (around.edges c k d e within cn n));
      }

  -- the item above the hole, which the item to be put there leads, moves down to it
  pub rises : (xs : List X) (h p : ℕ) (item v : X) → ((x y z : X) → leads x y → leads y z → leads x z)
      → h < length xs → IsBelow p h → ((d : X) → get_or xs p d ≡ v) → leads item v
      → IsHeapAround leads xs h → Fits leads xs h item
      → IsHeapAround leads (set xs h v) p × Fits leads (set xs h v) p item
  rises xs h p item v joins hh below at later around fits =
      let size : length (set xs h v) ≡ length xs = length-set xs h v in
      let old : (k : ℕ) (d : X) → k ≢ h → get_or (set xs h v) k d ≡ get_or xs k d =
      λ k d n. get_or-set_other xs h k v d n in
      let new : (k : ℕ) (d : X) → k ≡ h → get_or (set xs h v) k d ≡ v = λ k d e. get_or-set_at xs h k v d e hh in
      let At : ℕ → ℕ → X → Type 0 = λ j k d. leads (get_or (set xs h v) j d) (get_or (set xs h v) k d) in
      let pn : p ≢ h = λ e. omega arith in (
        record {
          edges = λ j k d b l jn kn. (
              let within : k < length xs = omega arith in
              let n : k ≢ h = λ e. jn (omega arith) in
              elim (cases_eq j h) as (λ _. At j k d) [
                | inl jh ↦ rw (new j d jh, old k d n, ← at d)
                    (around.across p k d below (record { least = omega arith; most = omega arith }) within)
                | inr other ↦ rw (old j d other, old k d n) (around.edges j k d b within other n)
              ]);
          across = λ j k d b e l. (
              let within : k < length xs = omega arith in
              let jn : j ≢ h = λ z. omega arith in
              let hp : p < length xs = omega arith in
              let above : leads (get_or xs j d) (get_or xs p d) = around.edges j p d b hp jn pn in
              elim (cases_eq k h) as (λ _. At j k d) [
                | inl kh ↦ rw (old j d jn, new k d kh, ← at d) above
                | inr n ↦ rw (old j d jn, old k d n) (joins _ _ _ above (around.edges p k d e within pn n))
              ]);
        },
        λ k d e l. (
            let within : k < length xs = omega arith in
            elim (cases_eq k h) as (λ _. leads item (get_or (set xs h v) k d)) [
              | inl kh ↦ rw (new k d kh) later
              | inr n ↦ rw (old k d n)
                  (joins item v _ later (rw (at d) at (around.edges p k d e within pn n)))
            ]),
      )
