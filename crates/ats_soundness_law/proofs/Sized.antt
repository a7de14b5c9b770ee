use Rattle.std.proofs.Common.{◌≡◌, ℕ, ◌<◌, true, List, map, length, get_or, All, refl, sym, subst, inl, inr, arith}
use Rattle.std.specs.Prelude.{◌==◌, ◌&&◌}
use Rattle.std.proofs.lemmas.Bool.{cases_lt, and_from, eq-eqb}
use Rattle.std.proofs.lemmas.List.Elements.{All-weaker}
use Rattle.std.proofs.lemmas.List.Sorted.{All-permutation, IsPermutation-sym}
use Rattle.ats_facts.proofs.Lists.{All-from_filter}
use Rattle.ats_network.specs.Network.{DeclaredNetwork}
use Rattle.ats_group.specs.Group.{Offer}
use Rattle.ats_streams.specs.Traffic.{is_declared_size}
use Rattle.ats_group.specs.declared.verdict.Verdict.{Verdict}
use Rattle.ats_group.specs.declared.verdict.Verdict.TheVariants.{Eligible}
use Rattle.ats_bucket.specs.Conforming.{Frame}
use Rattle.ats_streams.specs.declared.traffic.Declared.{Declared}
use Rattle.ats_trace.specs.Journey.{Travel}
use Rattle.ats_trace.specs.Projections.{Handed, handed_by, handed_from}
use Rattle.ats_trace.specs.Eligibility.{declared_by, offer_of, IsJudged, IsPassed, residence_of_groups, scheduled_by}
use Rattle.std.specs.List.{AllZip}
use Rattle.ats_group.specs.Judge.{OnEligible, Judge}
use Rattle.ats_group_law.specs.Regulator.{IsEligibleSized, IsRegulator}
use Rattle.ats_group_law.proofs.Regulator.{by_size}
use Rattle.ats_group_law.proofs.ShapingUse.{All-from_all_zip}
use Rattle.ats_soundness_law.proofs.Known.{CaseBy, IsTold, case_of, told}

-- where a frame that was handed on is eligible, it has a declared size
abbrev pub IsSized : DeclaredNetwork → Handed → Type 0
IsSized network h =
    OnEligible h.verdict (λ e. is_declared_size (declared_by network h.crossing.sent.sender) h.crossing.octets ≡ true)

-- so of the verdicts of a group that regulates
group_sized : {judge : Judge} {rule : Declared → List Frame → Type 0} (network : DeclaredNetwork) (port : ℕ)
    → IsRegulator judge rule
    → (arrivals : List Handed)
    → map (λ (h : Handed). h.verdict) arrivals
    ≡ judge (scheduled_by network port) (residence_of_groups network port) (map offer_of arrivals)
    → All (IsSized network) arrivals
group_sized network port regulator arrivals same =
    let Sized : Offer → Verdict → Type 0 = IsEligibleSized (scheduled_by network port) in
    All-from_all_zip Sized offer_of (λ (h : Handed). h.verdict) arrivals
    (subst (AllZip Sized (map offer_of arrivals)) (sym same)
    (regulator.sized (scheduled_by network port) (residence_of_groups network port) (map offer_of arrivals)))

-- and of those on flows
pub flow_sized : (network : DeclaredNetwork) (h : Handed) → IsPassed network h → IsSized network h
flow_sized network h passed =
    let Sized : Verdict → Type 0 = λ (v : Verdict).
    OnEligible v (λ e. is_declared_size (declared_by network h.crossing.sent.sender) h.crossing.octets ≡ true) in
    subst Sized (sym passed) (by_size (is_declared_size (declared_by network h.crossing.sent.sender) h.crossing.octets)
    (Eligible (record { 0 = h.crossing.arrival })))

place_sized : {judge : Judge} {rule : Declared → List Frame → Type 0} (network : DeclaredNetwork) (run : List Travel)
    → CaseBy judge rule network run
    → (port class : ℕ) → port < length network.topology.ports → All (IsSized network) (handed_by network run port class)
place_sized {judge} network run c port class within =
    elim (cases_lt 0 class) as (λ _. All (IsSized network) (handed_by network run port class)) [
      | inl shaped ↦ (
          let j : IsJudged judge network port (handed_by network run port class) =
          c.legal.groups port class within shaped in
          All-permutation (IsSized network) j.arrivals (handed_by network run port class)
          (IsPermutation-sym (handed_by network run port class) j.arrivals j.same)
          (group_sized network port c.regulator j.arrivals j.verdicts))
      | inr none ↦ (
          let zero_class : class ≡ 0 = omega arith in
          let Goal : ℕ → Type 0 = λ (n : ℕ). All (IsSized network) (handed_by network run port n) in
          subst Goal (sym zero_class) (All-weaker (IsPassed network) (IsSized network) (flow_sized network)
          (handed_by network run port 0) (c.legal.flows port within)))
    ]

-- so of all that is handed on in a legal run
pub sized : {judge : Judge} {rule : Declared → List Frame → Type 0} (network : DeclaredNetwork) (run : List Travel)
    → CaseBy judge rule network run
    → All (IsSized network) (handed_from network 0 run)
sized network run c k d h =
    let one : Handed = get_or (handed_from network 0 run) k d in
    let known : IsTold network one = told network run (case_of c) k d h in
    All-from_filter (λ (h : Handed). h.crossing.port == one.crossing.port && h.crossing.sent.class
    == one.crossing.sent.class) (IsSized network) (handed_from network 0 run)
    (place_sized network run c one.crossing.port one.crossing.sent.class known.within)
    k d h (and_from (one.crossing.port == one.crossing.port) (one.crossing.sent.class == one.crossing.sent.class)
    (eq-eqb one.crossing.port one.crossing.port refl) (eq-eqb one.crossing.sent.class one.crossing.sent.class refl))
