-- The rows of a run in which nothing has happened yet: which leg of which frame each stands for.
use Rattle.std.proofs.Common.{◌≡◌, ℕ, zero, suc, ◌+◌, ◌-◌, ◌<◌, ◌≤◌, List, [], ◌∷◌, ◌++◌, length, get_or, All, inl, inr}
use Rattle.std.proofs.Common.{refl, ap, ◌∙◌, subst, arith, length-append, append_assoc}
use Rattle.std.specs.List.{range_with_len}
use Rattle.std.specs.List.Sorted.{IsNonDecreasing}
use Rattle.std.proofs.lemmas.Bool.{cases_lt}
use Rattle.std.proofs.lemmas.List.{get_or-append-add, get_or_append_left, get_or-map}
use Rattle.std.proofs.lemmas.List.Elements.{All-nil, All-cons}
use Rattle.std.proofs.lemmas.List.FromFn.{length-range_with_len, get_or-range_with_len}
use Rattle.ats_network.specs.Network.{DeclaredNetwork}
use Rattle.ats_trace.specs.Stored.{AreFirsts, row_of}
use Rattle.ats_trace.specs.declared.journey.Release.{Release}
use Rattle.ats_run_records.specs.Progress.{Progress, copies_count, copies_of_frame, copies_opened, firsts_from}
use Rattle.ats_run_records.specs.Progress.{leg_opened, opened, trunks_opened}
use Rattle.ats_run_records.proofs.AllCounts.{length-firsts, length-trunks}
use Rattle.ats_run_records.proofs.Counts.{length-copies}

-- the trunk of a frame
pub trunk-at : (network : DeclaredNetwork) (first frame : ℕ) (releases : List Release) (d : Progress) (r : Release)
    → frame < length releases
    → get_or (trunks_opened network first releases) frame d
    ≡ leg_opened network (first + frame) (get_or releases frame r) 0
trunk-at network first frame [] d r within = absurd (omega arith)
trunk-at network first zero (s ∷ releases) d r within =
    ap (λ (n : ℕ). leg_opened network n s 0) (omega arith)
trunk-at network first (suc frame) (s ∷ releases) d r within =
    trunk-at network (first + 1) frame releases d r (omega arith)
    ∙ ap (λ (n : ℕ). leg_opened network n (get_or releases frame r) 0) (omega arith)

-- a frame has a copy for each branch
copy-of : (network : DeclaredNetwork) (frame copy : ℕ) (r : Release) (d : Progress) → copy < copies_count network r
    → get_or (copies_of_frame network frame r) copy d ≡ leg_opened network frame r (suc copy)
copy-of network frame copy r d within =
    let count : ℕ = copies_count network r in
    get_or-map (leg_opened network frame r) (range_with_len 1 count) copy 0 d
    (omega (arith, length-range_with_len 1 count, within))
    ∙ ap (leg_opened network frame r) (get_or-range_with_len 1 count copy 0 within ∙ (omega arith))

-- its place among the rows, of which so many stand before all copies
pub record IsCopyAt (network : DeclaredNetwork) (rows : List Progress) (place frame copy : ℕ) (r : Release)
    : Type 0 where
  pub within : place < length rows
  pub is : (d : Progress) → get_or rows place d ≡ leg_opened network frame r (suc copy)

pub copy-at : (network : DeclaredNetwork) (front : List Progress) (first : ℕ) (releases : List Release)
    (frame copy : ℕ) (r : Release) → frame < length releases → copy < copies_count network (get_or releases frame r)
    → IsCopyAt network (front ++ copies_opened network first releases)
    (get_or (firsts_from network (length front) releases) frame 0 + copy) (first + frame) copy
    (get_or releases frame r)
copy-at network front first [] frame copy r within there = absurd (omega arith)
copy-at network front first (s ∷ releases) zero copy r within there =
    let own : List Progress = copies_of_frame network first s in
    let rest : List Progress = copies_opened network (first + 1) releases in
    let below : copy < length own = omega (arith, length-copies network first s, there) in
    record {
      within = omega (arith, length-append front (own ++ rest), length-append own rest, below);
      is = λ d. get_or-append-add front (own ++ rest) copy d
          ∙ get_or_append_left own rest d copy below
          ∙ copy-of network first copy s d there
          ∙ ap (λ (n : ℕ). leg_opened network n s (suc copy)) (omega arith);
    }
copy-at network front first (s ∷ releases) (suc frame) copy r within there =
    let own : List Progress = copies_of_frame network first s in
    let rest : List Progress = copies_opened network (first + 1) releases in
    let release : Release = get_or releases frame r in
    let more : length (front ++ own) ≡ length front + copies_count network s =
    omega (arith, length-append front own, length-copies network first s) in
    let next : IsCopyAt network ((front ++ own) ++ rest)
    (get_or (firsts_from network (length (front ++ own)) releases) frame 0 + copy) (first + 1 + frame) copy release =
    copy-at network (front ++ own) (first + 1) releases frame copy r (omega arith) there in
    subst (λ (n : ℕ). IsCopyAt network (front ++ (own ++ rest))
    (get_or (firsts_from network (length front + copies_count network s) releases) frame 0 + copy) n copy release)
    (omega arith)
    (subst (λ (n : ℕ). IsCopyAt network (front ++ (own ++ rest))
    (get_or (firsts_from network n releases) frame 0 + copy) (first + 1 + frame) copy release) more
    (subst (λ (rows : List Progress). IsCopyAt network rows
    (get_or (firsts_from network (length (front ++ own)) releases) frame 0 + copy) (first + 1 + frame) copy release)
    (append_assoc front own rest) next))

-- each row behind them is one of a copy
pub record IsFound (network : DeclaredNetwork) (releases : List Release) (at row : ℕ) : Type 0 where
  pub frame : ℕ
  pub copy : ℕ
  pub within : frame < length releases
  pub there : (r : Release) → copy < copies_count network (get_or releases frame r)
  pub is : get_or (firsts_from network at releases) frame 0 + copy ≡ row

pub found : (network : DeclaredNetwork) (front : List Progress) (first : ℕ) (releases : List Release) (row : ℕ)
    → length front ≤ row → row < length (front ++ copies_opened network first releases)
    → IsFound network releases (length front) row
found network front first [] row behind within =
    absurd (omega (arith, length-append front [], behind, within))
found network front first (s ∷ releases) row behind within =
    let own : List Progress = copies_of_frame network first s in
    let rest : List Progress = copies_opened network (first + 1) releases in
    let many : length own ≡ copies_count network s = length-copies network first s in
    let more : length (front ++ own) ≡ length front + copies_count network s =
    omega (arith, length-append front own, many) in
    elim (cases_lt row (length front + copies_count network s)) as (λ _. IsFound network (s ∷ releases) (length front)
    row) [
      | inl here ↦ record {
        frame = 0;
        copy = row - length front;
        within = omega arith;
        there = λ r. omega (arith, here, behind);
        is = omega (arith, behind);
      }
      | inr past ↦
          (let next : IsFound network releases (length (front ++ own)) row =
          found network (front ++ own) (first + 1) releases row (omega (arith, more, past))
          (omega (
            arith,
            within,
            length-append front (own ++ rest),
            length-append own rest,
            length-append (front ++ own) rest,
            length-append front own,
          )) in
          record {
            frame = suc next.frame;
            copy = next.copy;
            within = omega (arith, next.within);
            there = next.there;
            is = subst (λ (n : ℕ). get_or (firsts_from network n releases) next.frame 0 + next.copy ≡ row) more
                next.is;
          })
    ]

-- the row of a leg of a frame
pub record IsOpenedAs (network : DeclaredNetwork) (releases : List Release) (row frame leg : ℕ) : Type 0 where
  pub within : row < length (opened network releases).legs
  pub is : (d : Progress) (r : Release)
      → get_or (opened network releases).legs row d ≡ leg_opened network frame (get_or releases frame r) leg

pub opened-as : (network : DeclaredNetwork) (releases : List Release) (frame leg : ℕ) → frame < length releases
    → ((r : Release) → leg ≤ copies_count network (get_or releases frame r))
    → IsOpenedAs network releases (row_of (opened network releases).firsts frame leg) frame leg
opened-as network releases frame zero within there =
    let trunks : List Progress = trunks_opened network 0 releases in
    let copies : List Progress = copies_opened network 0 releases in
    let below : frame < length trunks = omega (arith, length-trunks network 0 releases, within) in
    record {
      within = omega (arith, length-append trunks copies, below);
      is = λ d r. get_or_append_left trunks copies d frame below
          ∙ trunk-at network 0 frame releases d r within
          ∙ ap (λ (n : ℕ). leg_opened network n (get_or releases frame r) 0) (omega arith);
    }
opened-as network releases frame (suc copy) within there =
    let trunks : List Progress = trunks_opened network 0 releases in
    let copies : List Progress = copies_opened network 0 releases in
    let many : length trunks ≡ length releases = length-trunks network 0 releases in
    let at : (r : Release) → IsCopyAt network (trunks ++ copies)
    (get_or (firsts_from network (length releases) releases) frame 0 + copy) (0 + frame) copy
    (get_or releases frame r) =
    λ r. subst (λ (n : ℕ). IsCopyAt network (trunks ++ copies)
    (get_or (firsts_from network n releases) frame 0 + copy) (0 + frame) copy (get_or releases frame r)) many
    (copy-at network trunks 0 releases frame copy r within (omega (arith, there r))) in
    record {
      within = (at (record { at = record { 0 = 0 }; sender = 0; octets = 0 })).within;
      is = λ d r. (at r).is d
          ∙ ap (λ (n : ℕ). leg_opened network n (get_or releases frame r) (suc copy)) (omega arith);
    }

-- and the leg of a row
pub record IsOpenedRow (network : DeclaredNetwork) (releases : List Release) (row : ℕ) : Type 0 where
  pub frame : ℕ
  pub leg : ℕ
  pub within : frame < length releases
  pub there : (r : Release) → leg ≤ copies_count network (get_or releases frame r)
  pub named : row_of (opened network releases).firsts frame leg ≡ row

pub opened-row : (network : DeclaredNetwork) (releases : List Release) (row : ℕ)
    → row < length (opened network releases).legs → IsOpenedRow network releases row
opened-row network releases row within =
    let trunks : List Progress = trunks_opened network 0 releases in
    let many : length trunks ≡ length releases = length-trunks network 0 releases in
    elim (cases_lt row (length releases)) as (λ _. IsOpenedRow network releases row) [
      | inl trunk ↦ record {
        frame = row;
        leg = 0;
        within = trunk;
        there = λ r. omega arith;
        named = refl;
      }
      | inr behind ↦
          (let at : IsFound network releases (length trunks) row =
          found network trunks 0 releases row (omega (arith, many, behind)) within in
          record {
            frame = at.frame;
            leg = suc at.copy;
            within = at.within;
            there = λ r. omega (arith, at.there r);
            named = subst (λ (n : ℕ). get_or (firsts_from network n releases) at.frame 0 + at.copy ≡ row) many at.is;
          })
    ]

-- the copies of each frame begin behind those of the one before, and within the rows
firsts-behind : (network : DeclaredNetwork) (least at : ℕ) (releases : List Release) → least ≤ at
    → All (λ (n : ℕ). least ≤ n) (firsts_from network at releases)
firsts-behind network least at [] behind = All-nil (λ (n : ℕ). least ≤ n)
firsts-behind network least at (r ∷ releases) behind =
    All-cons (λ (n : ℕ). least ≤ n) at (firsts_from network (at + copies_count network r) releases) behind
    (firsts-behind network least (at + copies_count network r) releases (omega arith))

firsts-rise : (network : DeclaredNetwork) (at : ℕ) (releases : List Release)
    → IsNonDecreasing (firsts_from network at releases)
firsts-rise network at [] i j d ordered within = omega arith
firsts-rise network at (r ∷ releases) zero zero d ordered within = omega arith
firsts-rise network at (r ∷ releases) (suc i) zero d ordered within = absurd (omega arith)
firsts-rise network at (r ∷ releases) zero (suc j) d ordered within =
    firsts-behind network at (at + copies_count network r) releases (omega arith) j d (omega arith)
firsts-rise network at (r ∷ releases) (suc i) (suc j) d ordered within =
    firsts-rise network (at + copies_count network r) releases i j d (omega arith) (omega arith)

firsts-within : (network : DeclaredNetwork) (front : List Progress) (first : ℕ) (releases : List Release)
    → All (λ (n : ℕ). n ≤ length (front ++ copies_opened network first releases))
    (firsts_from network (length front) releases)
firsts-within network front first [] =
    All-nil (λ (n : ℕ). n ≤ length (front ++ copies_opened network first []))
firsts-within network front first (s ∷ releases) =
    let own : List Progress = copies_of_frame network first s in
    let rest : List Progress = copies_opened network (first + 1) releases in
    let more : length (front ++ own) ≡ length front + copies_count network s =
    omega (arith, length-append front own, length-copies network first s) in
    let Within : ℕ → Type 0 = λ (n : ℕ). n ≤ length (front ++ (own ++ rest)) in
    let further : All (λ (n : ℕ). n ≤ length ((front ++ own) ++ rest))
    (firsts_from network (length (front ++ own)) releases) =
    firsts-within network (front ++ own) (first + 1) releases in
    All-cons Within (length front) (firsts_from network (length front + copies_count network s) releases)
    (omega (arith, length-append front (own ++ rest)))
    (subst (λ (n : ℕ). All Within (firsts_from network n releases)) more
    (subst (λ (rows : List Progress). All (λ (n : ℕ). n ≤ length rows)
    (firsts_from network (length (front ++ own)) releases)) (append_assoc front own rest) further))

pub opened-firsts : (network : DeclaredNetwork) (releases : List Release)
    → AreFirsts (length releases) (length (opened network releases).legs) (opened network releases).firsts
opened-firsts network releases =
    let trunks : List Progress = trunks_opened network 0 releases in
    let copies : List Progress = copies_opened network 0 releases in
    let many : length trunks ≡ length releases = length-trunks network 0 releases in
    record {
      all = length-firsts network (length releases) releases;
      in_order = firsts-rise network (length releases) releases;
      behind = firsts-behind network (length releases) (length releases) releases (omega arith);
      within = subst (λ (n : ℕ). All (λ (k : ℕ). k ≤ length (trunks ++ copies)) (firsts_from network n releases))
          many (firsts-within network trunks 0 releases);
      trunks = omega (arith, length-append trunks copies, many);
    }
