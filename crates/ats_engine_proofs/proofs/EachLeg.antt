-- What holds of the trunk of a journey, and of each copy where it holds of an earlier leg, holds of all legs.
use Rattle.std.proofs.Common.{◌≡◌, ℕ, zero, suc, ◌+◌, ◌<◌, ◌≤◌, List, [], ◌∷◌, length, get_or, drop, All, Option, Some}
use Rattle.std.proofs.Common.{None, refl, sym, ap, subst, inl, inr, arith}
use Rattle.std.specs.Prelude.{IfSome, slice_get}
use Rattle.std.specs.List.{zip}
use Rattle.std.proofs.lemmas.Bool.{cases_lt}
use Rattle.std.proofs.lemmas.List.{get_or_default}
use Rattle.std.proofs.lemmas.Slice.Zip.{get_or-zip, length-zip}
use Rattle.ats_facts.proofs.Lists.{all_left, all_right}
use Rattle.ats_streams.specs.Branches.{AreBranches, BeginsEarlier, leg_at, legs_of, no_branch}
use Rattle.ats_streams.specs.declared.branch.Branch.{Branch}
use Rattle.ats_streams.proofs.BranchLemmas.{begins_at, legs-length}
use Rattle.ats_network.specs.Sender.{Sender}
use Rattle.ats_trace.specs.Journey.{AreCopies, IsCopy, Leg, Travel, legs_in, no_leg, record_at}
use Rattle.ats_trace.specs.Projections.{Crossing, Handed, Hop, crossings_along, crossings_over, handed_along}
use Rattle.ats_trace.specs.Projections.{handed_over, hops_along, hops_over}
use Rattle.ats_trace.specs.HopRecord.{HopRecord}
use Rattle.ats_trace.specs.declared.journey.Release.{Release}
use Rattle.ats_trace.proofs.Legs.{legs_cons}
use Rattle.ats_trace.proofs.OneVerdict.{copies_many, zip_at}

-- the leg of a journey with a number
abbrev pub leg_told : Travel → ℕ → Leg
leg_told j n = get_or (legs_in j) n no_leg

-- the copy that a branch makes
copy-at : (s : Sender) (j : Travel) → AreCopies s j → (n : ℕ) → n < length s.branches
    → IsCopy (record_at (legs_in j) (get_or s.branches n no_branch)) (leg_at (legs_of s.ports s.branches) (suc n))
    (leg_told j (suc n))
copy-at s j copied n within =
    let legs : List (List ℕ) = legs_of s.ports s.branches in
    let rest : List (List ℕ) = drop 1 legs in
    let d : Branch × List ℕ = (no_branch, []) in
    let cons : legs ≡ get_or legs 0 [] ∷ rest = legs_cons s.ports s.branches in
    let many : length legs ≡ suc (length s.branches) = legs-length 0 s.ports s.branches in
    let long : length legs ≡ suc (length rest) = ap (λ (l : List (List ℕ)). length l) cons in
    let in_rest : n < length rest = omega (arith, many, long, within) in
    let at : get_or (zip s.branches rest) n d ≡ (get_or s.branches n no_branch, get_or rest n []) =
    get_or-zip s.branches rest n d within in_rest in
    let own : get_or rest n [] ≡ leg_at legs (suc n) = sym (ap (λ (l : List (List ℕ)). get_or l (suc n) []) cons) in
    let R : Branch × List ℕ → Leg → Type 0 =
    λ (branch : Branch × List ℕ) (leg : Leg). IsCopy (record_at (legs_in j) branch.0) branch.1 leg in
    let copy : R (get_or (zip s.branches rest) n d) (get_or j.copies n no_leg) =
    zip_at R (zip s.branches rest) j.copies n d no_leg copied (omega (arith, length-zip s.branches rest, in_rest)) in
    subst (λ (path : List ℕ). R (get_or s.branches n no_branch, path) (get_or j.copies n no_leg)) own
    (subst (λ (b : Branch × List ℕ). R b (get_or j.copies n no_leg)) at copy)

-- a record along a leg of which something holds
pub record IsRecordOf (Q : Leg → Type 0) (hop : HopRecord) : Type 0 where
  pub leg : Leg
  pub keeps : Q leg
  pub place : ℕ
  pub there : slice_get leg.hops place ≡ Some hop

from-leg : (Q : Leg → Type 0) (leg : Leg) (place : ℕ) (start : Option HopRecord) → Q leg
    → slice_get leg.hops place ≡ start → IfSome start (IsRecordOf Q)
from-leg Q leg place None keeps there = tt
from-leg Q leg place (Some hop) keeps there =
    record { leg = leg; keeps = keeps; place = place; there = there }

-- what each copy keeps, where the record with which it begins is of an earlier leg that does
abbrev pub KeptByCopies : Sender → Travel → (Leg → Type 0) → Type 0
KeptByCopies s j Q = (n : ℕ) (start : Option HopRecord) → n < length s.branches → IfSome start (IsRecordOf Q)
    → IsCopy start (leg_at (legs_of s.ports s.branches) (suc n)) (leg_told j (suc n)) → Q (leg_told j (suc n))

legs-up_to : (s : Sender) (j : Travel) (Q : Leg → Type 0) → AreBranches s.ports s.branches → AreCopies s j
    → Q (leg_told j 0) → KeptByCopies s j Q → (n : ℕ) → n ≤ length s.branches → (k : ℕ) → k ≤ n → Q (leg_told j k)
legs-up_to s j Q are copied first next zero within zero below = first
legs-up_to s j Q are copied first next zero within (suc k) below = absurd (omega arith)
legs-up_to s j Q are copied first next (suc n) within k below = elim (cases_lt n k) as (λ _. Q (leg_told j k)) [
  | inl last ↦ (
      let b : Branch = get_or s.branches n no_branch in
      let begins : BeginsEarlier (legs_of s.ports s.branches) (1 + n) b =
      begins_at (legs_of s.ports s.branches) 1 s.branches n are.begin (omega arith) in
      let same : suc n ≡ k = omega arith in
      let before : Q (leg_told j b.leg) =
      legs-up_to s j Q are copied first next n (omega arith) b.leg (omega (arith, begins.earlier)) in
      subst (λ (m : ℕ). Q (leg_told j m)) same
      (next n (record_at (legs_in j) b) (omega arith)
      (from-leg Q (leg_told j b.leg) b.hop (record_at (legs_in j) b) before refl)
      (copy-at s j copied n (omega arith))))
  | inr earlier ↦ legs-up_to s j Q are copied first next n (omega arith) k (omega arith)
]

pub each-leg : (s : Sender) (j : Travel) (Q : Leg → Type 0) → AreBranches s.ports s.branches → AreCopies s j
    → Q (leg_told j 0) → KeptByCopies s j Q → All Q (legs_in j)
each-leg s j Q are copied first next k d h =
    let many : length j.copies ≡ length s.branches = copies_many s j copied in
    subst Q (get_or_default (legs_in j) k no_leg d h)
    (legs-up_to s j Q are copied first next (length s.branches) (omega arith) k (omega arith))

-- what holds of all that legs give to a projection holds of what each gives
pub hops-at : (P : Hop → Type 0) (frame : ℕ) (release : Release) (s : Sender) (paths : List (List ℕ))
    (legs : List Leg) (k : ℕ) → k < length paths → k < length legs → All P (hops_over frame release s paths legs)
    → All P (hops_along frame release s (leg_at paths k) (get_or legs k no_leg).hops)
hops-at P frame release s [] legs k in_paths in_legs all = absurd (omega arith)
hops-at P frame release s (path ∷ paths) [] k in_paths in_legs all = absurd (omega arith)
hops-at P frame release s (path ∷ paths) (leg ∷ legs) zero in_paths in_legs all =
    all_left P (hops_along frame release s path leg.hops) (hops_over frame release s paths legs) all
hops-at P frame release s (path ∷ paths) (leg ∷ legs) (suc k) in_paths in_legs all =
    hops-at P frame release s paths legs k (omega arith) (omega arith)
    (all_right P (hops_along frame release s path leg.hops) (hops_over frame release s paths legs) all)

pub crossings-at : (P : Crossing → Type 0) (frame : ℕ) (release : Release) (s : Sender) (paths : List (List ℕ))
    (legs : List Leg) (k : ℕ) → k < length paths → k < length legs
    → All P (crossings_over frame release s paths legs)
    → All P (crossings_along frame release s (leg_at paths k) (get_or legs k no_leg).hops
    (get_or legs k no_leg).ending)
crossings-at P frame release s [] legs k in_paths in_legs all = absurd (omega arith)
crossings-at P frame release s (path ∷ paths) [] k in_paths in_legs all = absurd (omega arith)
crossings-at P frame release s (path ∷ paths) (leg ∷ legs) zero in_paths in_legs all =
    all_left P (crossings_along frame release s path leg.hops leg.ending) (crossings_over frame release s paths legs)
    all
crossings-at P frame release s (path ∷ paths) (leg ∷ legs) (suc k) in_paths in_legs all =
    crossings-at P frame release s paths legs k (omega arith) (omega arith)
    (all_right P (crossings_along frame release s path leg.hops leg.ending)
    (crossings_over frame release s paths legs) all)

pub handed-at : (P : Handed → Type 0) (frame : ℕ) (release : Release) (s : Sender) (paths : List (List ℕ))
    (legs : List Leg) (k : ℕ) → k < length paths → k < length legs → All P (handed_over frame release s paths legs)
    → All P (handed_along frame release s (leg_at paths k) (get_or legs k no_leg).hops)
handed-at P frame release s [] legs k in_paths in_legs all = absurd (omega arith)
handed-at P frame release s (path ∷ paths) [] k in_paths in_legs all = absurd (omega arith)
handed-at P frame release s (path ∷ paths) (leg ∷ legs) zero in_paths in_legs all =
    all_left P (handed_along frame release s path leg.hops) (handed_over frame release s paths legs) all
handed-at P frame release s (path ∷ paths) (leg ∷ legs) (suc k) in_paths in_legs all =
    handed-at P frame release s paths legs k (omega arith) (omega arith)
    (all_right P (handed_along frame release s path leg.hops) (handed_over frame release s paths legs) all)
