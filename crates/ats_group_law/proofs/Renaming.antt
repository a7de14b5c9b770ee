use Rattle.std.proofs.Common.{◌≡◌, ℕ, Bool, List, [], ◌∷◌, All, refl, sym, ap, subst, inl, inr, eq-eqb, ne_eqb}
use Rattle.std.specs.Prelude.{◌==◌, IsTrue, if◌then◌else◌}
use Rattle.std.proofs.lemmas.Bool.{cases_eq}
use Rattle.std.proofs.lemmas.List.Elements.{All-head, All-tail}
use Rattle.ats_streams.specs.declared.traffic.Declared.{Declared}
use Rattle.ats_group.specs.declared.verdict.Verdict.{Verdict}
use Rattle.ats_group.specs.declared.verdict.Verdict.TheVariants.{Eligible, Late, Size}
use Rattle.ats_group.specs.Group.{Offer, State, first, judged, after, next, verdicts_of, state_after, empty_once}
use Rattle.ats_bucket.specs.Scheduler.{first_empty}
use Rattle.ats_group_law.specs.Renaming.{IsRenaming, renamed_offer, renamed_offers, KeepsSame, VerdictsAreKept}

-- so they judge the same
same_verdict : (is_member : ℕ → Bool) (rename : ℕ → ℕ) (declared renamed : ℕ → Declared)
    → IsRenaming is_member rename declared renamed
    → (residence_ns : ℕ) (state other : State) → KeepsSame is_member rename state other → (offer : Offer)
    → IsTrue (is_member offer.member)
    → judged renamed residence_ns other (renamed_offer rename offer) ≡ judged declared residence_ns state offer
same_verdict is_member rename declared renamed is residence_ns state other kept offer there =
    let d = is.same offer.member there in
    let t = kept.time in
    let e = kept.empty offer.member there in
    rw (d, t, e) refl

-- a member's bucket after an eligible frame
bucket_after : (is_member : ℕ → Bool) (rename : ℕ → ℕ) (declared renamed : ℕ → Declared)
    → IsRenaming is_member rename declared renamed
    → (state other : State) → KeepsSame is_member rename state other → (offer : Offer) → IsTrue (is_member offer.member)
    → (e member : ℕ) → IsTrue (is_member member)
    → (if rename member == rename offer.member then empty_once (renamed (rename member)) (other.empty (rename member))
    e offer.octets else other.empty (rename member))
    ≡ (if member == offer.member then empty_once (declared member) (state.empty member) e offer.octets
    else state.empty member)
bucket_after is_member rename declared renamed is state other kept offer there e member here =
    let d = is.same member here in
    let b = kept.empty member here in
    elim (cases_eq member offer.member) [
      | inl same ↦ (
          let one = eq-eqb member offer.member same in
          let two = eq-eqb (rename member) (rename offer.member) (ap rename same) in
          rw (one, two, d, b) refl)
      | inr differ ↦ (
          let one = ne_eqb member offer.member differ in
          let two = ne_eqb (rename member) (rename offer.member)
          (λ same. differ (is.one_to_one member offer.member here there same)) in
          rw (one, two, b) refl)
    ]

kept_after : (is_member : ℕ → Bool) (rename : ℕ → ℕ) (declared renamed : ℕ → Declared)
    → IsRenaming is_member rename declared renamed
    → (state other : State) → KeepsSame is_member rename state other → (offer : Offer) → IsTrue (is_member offer.member)
    → (verdict : Verdict)
    → KeepsSame is_member rename (after declared state offer verdict)
    (after renamed other (renamed_offer rename offer) verdict)
kept_after is_member rename declared renamed is state other kept offer there (Eligible e) = record {
  time = refl;
  empty = λ member here. bucket_after is_member rename declared renamed is state other kept offer there e.0 member here;
}
kept_after is_member rename declared renamed is state other kept offer there (Late e) = kept
kept_after is_member rename declared renamed is state other kept offer there Size = kept

-- after one more frame they keep the same
kept_next : (is_member : ℕ → Bool) (rename : ℕ → ℕ) (declared renamed : ℕ → Declared)
    → IsRenaming is_member rename declared renamed → (residence_ns : ℕ) (state other : State)
    → KeepsSame is_member rename state other → (offer : Offer) → IsTrue (is_member offer.member)
    → KeepsSame is_member rename (next declared residence_ns state offer)
    (next renamed residence_ns other (renamed_offer rename offer))
kept_next is_member rename declared renamed is residence_ns state other kept offer there =
    let Kept : Verdict → Type 0 = λ (v : Verdict). KeepsSame is_member rename (next declared residence_ns state offer)
    (after renamed other (renamed_offer rename offer) v) in
    subst Kept (sym (same_verdict is_member rename declared renamed is residence_ns state other kept offer there))
    (kept_after is_member rename declared renamed is state other kept offer there
    (judged declared residence_ns state offer))

verdicts_from : (is_member : ℕ → Bool) (rename : ℕ → ℕ) (declared renamed : ℕ → Declared)
    → IsRenaming is_member rename declared renamed → (residence_ns : ℕ) (state other : State)
    → KeepsSame is_member rename state other → (offers : List Offer)
    → All (λ (o : Offer). IsTrue (is_member o.member)) offers
    → verdicts_of renamed residence_ns other (renamed_offers rename offers)
    ≡ verdicts_of declared residence_ns state offers
verdicts_from is_member rename declared renamed is residence_ns state other kept [] all = refl
verdicts_from is_member rename declared renamed is residence_ns state other kept (offer ∷ offers) all =
    let Members : Offer → Type 0 = λ (o : Offer). IsTrue (is_member o.member) in
    let there : IsTrue (is_member offer.member) = All-head Members offer offers all in
    let same : judged renamed residence_ns other (renamed_offer rename offer)
    ≡ judged declared residence_ns state offer =
    same_verdict is_member rename declared renamed is residence_ns state other kept offer there in
    let rest = verdicts_from is_member rename declared renamed is residence_ns (next declared residence_ns state offer)
    (next renamed residence_ns other (renamed_offer rename offer))
    (kept_next is_member rename declared renamed is residence_ns state other kept offer there) offers
    (All-tail Members offer offers all) in
    cc

states_from : (is_member : ℕ → Bool) (rename : ℕ → ℕ) (declared renamed : ℕ → Declared)
    → IsRenaming is_member rename declared renamed → (residence_ns : ℕ) (state other : State)
    → KeepsSame is_member rename state other → (offers : List Offer)
    → All (λ (o : Offer). IsTrue (is_member o.member)) offers
    → KeepsSame is_member rename (state_after declared residence_ns state offers)
    (state_after renamed residence_ns other (renamed_offers rename offers))
states_from is_member rename declared renamed is residence_ns state other kept [] all = kept
states_from is_member rename declared renamed is residence_ns state other kept (offer ∷ offers) all =
    let Members : Offer → Type 0 = λ (o : Offer). IsTrue (is_member o.member) in
    states_from is_member rename declared renamed is residence_ns (next declared residence_ns state offer)
    (next renamed residence_ns other (renamed_offer rename offer))
    (kept_next is_member rename declared renamed is residence_ns state other kept offer
    (All-head Members offer offers all))
    offers (All-tail Members offer offers all)

pub verdicts_kept : VerdictsAreKept
verdicts_kept is_member rename declared renamed is residence_ns offers all =
    let start : KeepsSame is_member rename (first declared) (first renamed) =
    record {
      time = refl;
      empty = λ member here. ap (λ (d : Declared). first_empty d.burst_bits) (is.same member here);
    } in
    record {
      verdicts = verdicts_from is_member rename declared renamed is residence_ns (first declared) (first renamed)
          start offers all;
      state = states_from is_member rename declared renamed is residence_ns (first declared) (first renamed)
          start offers all;
    }
