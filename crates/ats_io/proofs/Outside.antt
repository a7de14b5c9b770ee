-- Lemmas for callers of the outside.
use Rattle.std.proofs.Common.{◌≡◌, ℕ, ◌≤◌, List, ◌++◌, Option, Some, None, refl, ◌∙◌, ap, arith, append_assoc}
use Rattle.ats_io.specs.Outside.{Rose, Continues, appended}

-- the outside goes on from where it stands
pub Continues-refl : {S : Type 0} {told : S → List ℕ → Option (List ℕ)} {faults : S → List ℕ → ℕ} (s : S)
    → Continues told faults s s
Continues-refl s = record { holds = refl; counts = λ name. omega arith }

-- two steps are one
pub Continues-trans : {S : Type 0} {told : S → List ℕ → Option (List ℕ)} {faults : S → List ℕ → ℕ} {r s t : S}
    → Continues told faults r s → Continues told faults s t → Continues told faults r t
Continues-trans {faults = faults} {r = r} {s = s} {t = t} h k = record {
  holds = k.holds ∙ h.holds;
  counts = λ name. let a : faults r name ≤ faults s name = h.counts name in
      let b : faults s name ≤ faults t name = k.counts name in omega arith;
}

-- a fault that came since a later count came since an earlier one
pub Rose-since : (before since now : ℕ) → before ≤ since → Rose since now → Rose before now
Rose-since before since now le h = omega arith

-- a fault that came until an earlier count came until a later one
pub Rose-until : (before until now : ℕ) → Rose before until → until ≤ now → Rose before now
Rose-until before until now h le = omega arith

-- what is appended in two pieces is appended in one
pub appended_twice : (held : Option (List ℕ)) (a b : List ℕ) → appended (appended held a) b ≡ appended held (a ++ b)
appended_twice None a b = refl
appended_twice (Some h) a b = ap Some (append_assoc h a b)
