use Rattle.std.proofs.Common.{ℕ, zero, suc, ◌+◌, ◌<◌, List, [], ◌∷◌, length, map, get_or, refl, ap, subst, arith}
use Rattle.std.proofs.Common.{take}
use Rattle.std.specs.Prelude.{slice_index}
use Rattle.ats_streams.specs.Branches.{Ascend, BeginEarlier, BeginsEarlier, no_branch}
use Rattle.ats_streams.specs.declared.branch.Branch.{Branch}
use Rattle.ats_streams.proofs.BranchLemmas.{begins_at}
use Rattle.ats_plain_topology_law.specs.Leads.{BeginningsAreGiven, JoinsAreGiven, LeadsAreGiven, TrunksAreGiven}

-- At which places branches begin, and which ports the legs have.

behind : (at end : ℕ) (branches : List Branch) → Ascend at branches end → (n : ℕ) → n < length branches
    → (slice_index (at ∷ map (λ (b : Branch). b.first) branches) n
    < slice_index (map (λ (b : Branch). b.first) branches) n)
    × (slice_index (map (λ (b : Branch). b.first) branches) n < end)
behind at end [] ascend n within = absurd (omega arith)
behind at end (b ∷ branches) ascend zero within = (ascend.0, ascend.1)
behind at end (b ∷ branches) ascend (suc n) within = behind b.first end branches ascend.2 n (omega arith)

ascend : (at end : ℕ) (branches : List Branch)
    → ((n : ℕ) → n < length branches
    → (slice_index (at ∷ map (λ (b : Branch). b.first) branches) n
    < slice_index (map (λ (b : Branch). b.first) branches) n)
    × (slice_index (map (λ (b : Branch). b.first) branches) n < end))
    → Ascend at branches end
ascend at end [] behind = tt
ascend at end (b ∷ branches) behind =
    let first : (at < b.first) × (b.first < end) = behind zero (omega arith) in
    (first.0, first.1, ascend b.first end branches (λ n within. behind (suc n) (omega arith)))

begin : (legs : List (List ℕ)) (own : ℕ) (branches : List Branch)
    → ((n : ℕ) → n < length branches → BeginsEarlier legs (own + n) (get_or branches n no_branch))
    → BeginEarlier legs own branches
begin legs own [] each = tt
begin legs own (b ∷ branches) each = (
  subst (λ (k : ℕ). BeginsEarlier legs k b) (omega arith) (each zero (omega arith)),
  begin legs (own + 1) branches (λ n within. subst (λ (k : ℕ). BeginsEarlier legs k (get_or branches n no_branch))
      (omega arith) (each (suc n) (omega arith))),
)

beginnings : BeginningsAreGiven
beginnings = record {
  ascend = λ at end branches. (behind at end branches, ascend at end branches);
  begin = λ legs own branches. (λ is n within. begins_at legs own branches n is within, begin legs own branches);
  past = refl;
}

trunks : TrunksAreGiven
trunks = record {
  alone = λ ports. refl;
  trunk = λ ports b branches. ap (λ (n : ℕ). take n ports) (omega arith);
  branches = λ ports branches. refl;
}

joins : JoinsAreGiven
joins = record {
  leads = λ legs branches. refl;
  no_leg = λ lead leads. refl;
  no_lead = λ legs. refl;
}

pub leads_are_given : LeadsAreGiven
leads_are_given = record { beginnings = beginnings; trunks = trunks; joins = joins }
