use Rattle.std.proofs.Common.{◌≡◌, ℕ, ◌+◌, ◌≤◌, List, [], ◌∷◌, refl, subst, sym}
use Rattle.ats_num.specs.declared.time.Ps.{Ps}
use Rattle.ats_network.specs.Sender.{Sender}
use Rattle.ats_group.specs.Judge.{OnEligible}
use Rattle.ats_group.specs.declared.verdict.Verdict.{Verdict}
use Rattle.ats_group.specs.declared.verdict.Verdict.TheVariants.{Eligible, Late, Size}
use Rattle.ats_certificate.specs.declared.row.Row.{Row}
use Rattle.ats_trace.specs.HopRecord.{HopRecord}
use Rattle.ats_trace.specs.declared.journey.Ending.{Ending}
use Rattle.ats_soundness_law.specs.Sound.{IsEligibleBy, IsPrompt, IsPromptIfEligible, all_but_first, bounds_of}
use Rattle.ats_plain_promise_law.specs.Promptness.{PromptIsPlain, PromptnessIsPlain}

-- When frames are contained on their way.

-- a frame is prompt behind the second port of a route, if it is eligible there
abbrev IsPromptBehind : List Row → Sender → List ℕ → List HopRecord → Ending → Type 0
IsPromptBehind rows sender route hops ending =
    IsPromptIfEligible (bounds_of rows sender) (all_but_first route) (all_but_first hops) ending

abbrev EachIsPrompt : List Row → Sender → List ℕ → List HopRecord → Ending → Type 0
EachIsPrompt rows sender route hops ending =
    (p q : ℕ) (path : List ℕ) (first hop : HopRecord) (later : List HopRecord) (e : Ps)
    → route ≡ p ∷ q ∷ path → hops ≡ first ∷ hop ∷ later → hop.verdict ≡ Eligible e
    → IsPrompt (bounds_of rows sender) (e.0 + bounds_of rows sender q) path later ending

forth : (rows : List Row) (sender : Sender) (route : List ℕ) (hops : List HopRecord) (ending : Ending)
    → IsPromptBehind rows sender route hops ending → EachIsPrompt rows sender route hops ending
forth rows sender route hops ending is p q path first hop later e route_is hops_are told =
    subst (λ (v : Verdict). OnEligible v (λ at. IsPrompt (bounds_of rows sender) (at + bounds_of rows sender q) path
    later ending)) told
    (subst (λ (h : List HopRecord). IsPromptBehind rows sender (p ∷ q ∷ path) h ending) hops_are
    (subst (λ (r : List ℕ). IsPromptBehind rows sender r hops ending) route_is is))

on_eligible : (verdict : Verdict) (P : ℕ → Type 0) → ((e : Ps) → verdict ≡ Eligible e → P e.0) → OnEligible verdict P
on_eligible (Eligible e) P says = says e refl
on_eligible (Late e) P says = tt
on_eligible Size P says = tt

back : (rows : List Row) (sender : Sender) (route : List ℕ) (hops : List HopRecord) (ending : Ending)
    → EachIsPrompt rows sender route hops ending → IsPromptBehind rows sender route hops ending
back rows sender [] hops ending says = tt
back rows sender (p ∷ []) hops ending says = tt
back rows sender (p ∷ q ∷ path) [] ending says = tt
back rows sender (p ∷ q ∷ path) (first ∷ []) ending says = tt
back rows sender (p ∷ q ∷ path) (first ∷ hop ∷ later) ending says =
    on_eligible hop.verdict (λ at. IsPrompt (bounds_of rows sender) (at + bounds_of rows sender q) path later ending)
    (λ e is. says p q path first hop later e refl refl is)

-- a verdict is eligible by a time, with what holds of its time
eligible_by : (limit : ℕ) (Next : ℕ → Type 0) (verdict : Verdict) → IsEligibleBy limit Next verdict
    → (e : Ps) × (verdict ≡ Eligible e) × (e.0 ≤ limit) × Next e.0
eligible_by limit Next (Eligible e) is = (e, refl, is.0, is.1)
eligible_by limit Next (Late e) is = absurd is
eligible_by limit Next Size is = absurd is

by_eligible : (limit : ℕ) (Next : ℕ → Type 0) (verdict : Verdict)
    → (e : Ps) × (verdict ≡ Eligible e) × (e.0 ≤ limit) × Next e.0 → IsEligibleBy limit Next verdict
by_eligible limit Next verdict (e, is, by, more) =
    subst (λ (v : Verdict). IsEligibleBy limit Next v) (sym is) (by, more)

prompt : PromptIsPlain
prompt = record {
  arrived = λ bound limit at. ((λ is. is), (λ is. is));
  discarded = λ bound limit. ((λ is. is), (λ is. is));
  no_port = λ bound limit hop hops ending. ((λ is. is), (λ is. is));
  no_record = λ bound limit p path ending. ((λ is. is), (λ is. is));
  next = λ bound limit p path hop hops ending. (
    (λ is. eligible_by limit (λ e. IsPrompt bound (e + bound p) path hops ending) hop.verdict is),
    (λ is. by_eligible limit (λ e. IsPrompt bound (e + bound p) path hops ending) hop.verdict is),
  );
}

pub promptness_is_plain : PromptnessIsPlain
promptness_is_plain = record {
  prompt = prompt;
  arrives = λ limit at. ((λ is. is), (λ is. is));
  discarded = λ limit. ((λ is. is), (λ is. is));
  contained = λ rows sender route way. (
    (λ is. forth rows sender route way.hops way.ending is),
    (λ is. back rows sender route way.hops way.ending is),
  );
}
