use Rattle.std.proofs.Common.{◌≡◌, ℕ, ◌+◌, ◌<◌, Bool, true, List, [], ◌∷◌, ◌++◌, length, map, get_or, drop, cond, refl}
use Rattle.std.proofs.Common.{sym, ap, ◌∙◌, arith, add-one, drop-cons, append_assoc}
use Rattle.std.specs.Prelude.{All, ◌==◌}
use Rattle.std.proofs.Math.Path.{fun_ext}
use Rattle.std.proofs.Math.ListN.{get_or-map}
use Rattle.std.proofs.lemmas.List.{length-map}
use Rattle.std.proofs.lemmas.List.Elements.{All-map}
use Rattle.ats_streams.specs.declared.traffic.Declared.{Declared}
use Rattle.ats_group.specs.declared.member.Member.{Member}
use Rattle.ats_group.specs.declared.verdict.Verdict.{Verdict}
use Rattle.ats_group.specs.declared.verdict.Verdict.TheVariants.{Eligible, Late, Size}
use Rattle.ats_group.specs.Group.{Offer}
use Rattle.ats_group.specs.GroupsState.{no_member}
use Rattle.ats_shape.specs.Shape.{DeclaredShape, IsShape}
use Rattle.ats_shape.specs.Verdicts.{no_stream, declared_in, member_of, offer_of}
use Rattle.ats_shape.specs.declared.shape.ShapeFrame.{ShapeFrame}
use Rattle.ats_shape.proofs.Folded.{are_members}
use Rattle.ats_lrq.specs.Fold.{State, first, verdicts_of}
use Rattle.ats_lrq.specs.GroupsState.{LrqState, AreLrqGroups, opened, declared_of, group_of, state_of, groups_after}
use Rattle.ats_lrq.specs.Laws.{verdict_at, groups_next, verdicts_in, offers_to, IsFold}
use Rattle.ats_lrq.proofs.FoldLemmas.{each_group}
use Rattle.ats_lrq.proofs.StepLemmas.{opened_first}
use Rattle.ats_lrq_shape.specs.Verdicts.{lrq_verdicts_on}

-- the verdicts on frames to any groups, one after another
abbrev pub verdict_list : LrqState → List Offer → List Verdict
verdict_list groups [] = []
verdict_list groups (offer ∷ offers) = verdict_at groups offer ∷ verdict_list (groups_next groups offer) offers

-- where the group of a shape stands at first
abbrev pub at_first : DeclaredShape → LrqState
at_first shape = opened (shape.residence_ns ∷ []) (map member_of shape.streams)

members_stay : (groups : LrqState) (member octets : ℕ) (verdict : Verdict)
    → (groups_after groups member octets verdict).members ≡ groups.members
members_stay groups member octets (Eligible e) = refl
members_stay groups member octets (Late e) = refl
members_stay groups member octets Size = refl

-- each member is of group 0
abbrev IsLone : LrqState → Type 0
IsLone groups = (member : ℕ) → group_of groups member ≡ 0

lone_next : (groups : LrqState) (offer : Offer) → IsLone groups → IsLone (groups_next groups offer)
lone_next groups offer lone = λ member. ap (λ (ms : List Member). (get_or ms member no_member).group)
    (members_stay groups offer.member offer.octets (verdict_at groups offer)) ∙ lone member

lone_test : (groups : LrqState) (member : ℕ) → IsLone groups → (group_of groups member == 0) ≡ true
lone_test groups member lone = ap (λ (g : ℕ). g == 0) (lone member)

lone_verdicts : (groups : LrqState) (offers : List Offer) → IsLone groups
    → verdicts_in groups 0 offers ≡ verdict_list groups offers
lone_verdicts groups [] lone = refl
lone_verdicts groups (offer ∷ offers) lone =
    let next : LrqState = groups_next groups offer in
    ap (λ (b : Bool). cond b (verdict_at groups offer ∷ verdicts_in next 0 offers) (verdicts_in next 0 offers))
    (lone_test groups offer.member lone)
    ∙ ap (λ (vs : List Verdict). verdict_at groups offer ∷ vs)
    (lone_verdicts (groups_next groups offer) offers (lone_next groups offer lone))

lone_offers : (groups : LrqState) (offers : List Offer) → IsLone groups → offers_to groups 0 offers ≡ offers
lone_offers groups [] lone = refl
lone_offers groups (offer ∷ offers) lone =
    ap (λ (b : Bool). cond b (offer ∷ offers_to groups 0 offers) (offers_to groups 0 offers))
    (lone_test groups offer.member lone)
    ∙ ap (λ (os : List Offer). offer ∷ os) (lone_offers groups offers lone)

at_first_lone : (shape : DeclaredShape) → IsLone (at_first shape)
at_first_lone shape = λ member. ap (λ (m : Member). m.group) (get_or-map member_of shape.streams member no_stream)

at_first_declared : (shape : DeclaredShape) → declared_of (at_first shape) ≡ declared_in shape.streams
at_first_declared shape =
    fun_ext (λ member. ap (λ (m : Member). m.declared) (get_or-map member_of shape.streams member no_stream))

at_first_stands : (shape : DeclaredShape) → IsShape shape → AreLrqGroups (at_first shape)
at_first_stands shape h = record {
  times = refl;
  lasts = length-map (map member_of shape.streams) _;
  members = are_members shape.streams h.ruled;
}

offers_within : (shape : DeclaredShape) → IsShape shape
    → All (λ (o : Offer). o.member < length (map member_of shape.streams)) (map offer_of shape.frames)
offers_within shape h = All-map (λ (o : Offer). o.member < length (map member_of shape.streams)) offer_of shape.frames
    (λ k d lt. let f = h.framed k d lt in omega (arith, f.stream, length-map shape.streams member_of))

-- the verdicts, frame by frame, are those of the group's fold
pub all_verdicts : (shape : DeclaredShape) → IsShape shape
    → verdict_list (at_first shape) (map offer_of shape.frames) ≡ lrq_verdicts_on shape
all_verdicts shape h =
    let offers : List Offer = map offer_of shape.frames in
    let fold : IsFold (at_first shape) offers 0 =
    each_group (at_first shape) offers 0 (at_first_stands shape h) (offers_within shape h) in
    sym (lone_verdicts (at_first shape) offers (at_first_lone shape))
    ∙ fold.verdicts
    ∙ ap (λ (os : List Offer). verdicts_of (declared_of (at_first shape)) shape.residence_ns
    (state_of (at_first shape) 0) os) (lone_offers (at_first shape) offers (at_first_lone shape))
    ∙ ap (λ (s : State). verdicts_of (declared_of (at_first shape)) shape.residence_ns s offers)
    (opened_first (shape.residence_ns ∷ []) (map member_of shape.streams) 0)
    ∙ ap (λ (d : ℕ → Declared). verdicts_of d shape.residence_ns first offers) (at_first_declared shape)

-- a verdict that is given leaves those on the frames behind it
pub judged_next : (groups next : LrqState) (frames : List ShapeFrame) (i : ℕ) (f : ShapeFrame)
    (before after : List Verdict) (verdict : Verdict) → i < length frames
    → verdict ≡ verdict_at groups (offer_of (get_or frames i f))
    → next ≡ groups_next groups (offer_of (get_or frames i f)) → after ≡ before ++ verdict ∷ []
    → after ++ verdict_list next (map offer_of (drop (i + 1) frames))
    ≡ before ++ verdict_list groups (map offer_of (drop i frames))
judged_next groups next frames i f before after verdict within given stands added =
    let frame : ShapeFrame = get_or frames i f in
    let rest : List ShapeFrame = drop (i + 1) frames in
    ap (λ (vs : List Verdict). vs ++ verdict_list next (map offer_of rest)) added
    ∙ append_assoc before (verdict ∷ []) (verdict_list next (map offer_of rest))
    ∙ ap (λ (s : LrqState). before ++ (verdict ∷ verdict_list s (map offer_of rest))) stands
    ∙ ap
    (λ (v : Verdict). before ++ (v ∷ verdict_list (groups_next groups (offer_of frame)) (map offer_of rest))) given
    ∙ ap (λ (fs : List ShapeFrame). before ++ verdict_list groups (map offer_of fs))
    (ap (λ (k : ℕ). frame ∷ drop k frames) (add-one i) ∙ sym (drop-cons frames i f within))
