-- The last record of a frame on its way to a listener, and its verdict.
use Rattle.std.proofs.Common.{◌≡◌, ◌∙◌, ℕ, zero, suc, ◌+◌, ◌-◌, ◌<◌, ◌≤◌, List, [], ◌∷◌, ◌++◌, length, get_or, sym, ap}
use Rattle.std.proofs.Common.{arith, inl, inr, ◌⊎◌, true, false, length-append, refl, subst, Option, Some}
use Rattle.std.proofs.lemmas.List.{get_or-append-add}
use Rattle.std.proofs.lemmas.Option.{slice_get-get_or}
use Rattle.std.specs.Prelude.{is_some}
use Rattle.std.specs.Option.{option_map}
use Rattle.ats_group.specs.declared.verdict.Verdict.{Verdict}
use Rattle.ats_streams.specs.Branches.{leg_at, no_branch}
use Rattle.ats_streams.proofs.BranchLemmas.{leg_falls}
use Rattle.ats_network.specs.Network.{DeclaredNetwork, IsNetwork}
use Rattle.ats_network.specs.Sender.{Sender}
use Rattle.ats_network.specs.Senders.{IsSender, sender_at}
use Rattle.ats_network.proofs.SenderLemmas.{sender_keeps}
use Rattle.ats_trace.specs.Journey.{IsJourney, Travel, legs_in}
use Rattle.ats_trace.specs.Stored.{leg_in}
use Rattle.ats_trace.specs.Ways.{way_to}
use Rattle.ats_trace.specs.HopRecord.{HopRecord}
use Rattle.ats_trace.specs.declared.journey.Release.{Release}
use Rattle.ats_route_law.proofs.Ways.{leads_in, way_at, way_before, way_first}
use Rattle.ats_run_records.specs.LastVerdict.{last_verdict}
use Rattle.ats_replay.specs.Totals.{last_of}
use Rattle.ats_replay.proofs.Legs.{leg_listed, sender_of}

-- the verdict of one record is that of the same
pub verdict_alike : {one other : Option HopRecord} → one ≡ other
    → option_map (λ (hop : HopRecord). hop.verdict) one ≡ option_map (λ (hop : HopRecord). hop.verdict) other
verdict_alike same = ap (λ (o : Option HopRecord). option_map (λ (hop : HopRecord). hop.verdict) o) same

-- the last of two joined lists is that of the second
pub last_behind : (front own : List HopRecord) → 0 < length own → last_of (front ++ own) ≡ last_of own
last_behind front [] some = absurd (omega arith)
last_behind front (hop ∷ hops) some =
    let own : List HopRecord = hop ∷ hops in
    let place : length (front ++ own) - 1 ≡ length front + (length own - 1) = omega (arith, length-append front own) in
    slice_get-get_or (front ++ own) (length (front ++ own) - 1) hop (omega (arith, length-append front own))
    ∙ ap (λ (h : HopRecord). Some h)
    (ap (λ (k : ℕ). get_or (front ++ own) k hop) place ∙ get_or-append-add front own (length own - 1) hop)
    ∙ sym (slice_get-get_or own (length own - 1) hop (omega arith))

-- the leg off which another one branches, which is a leg in front of it
pub record IsParent (network : DeclaredNetwork) (j : Travel) (leg parent : ℕ) : Type 0 where
  pub before : parent < leg
  pub within : parent < length (legs_in j)
  pub last : last_of (way_to (sender_of network j) j parent).hops ≡ last_of (way_to (sender_of network j) j leg).hops

-- where the frame never came to a branch, its last record is that on the way along the leg off which it branches
last_before : (network : DeclaredNetwork) (j : Travel) (leg parent : ℕ) → IsNetwork network → IsJourney network j
    → 0 < leg → leg < length (legs_in j) → (leg_in j leg).hops ≡ []
    → parent ≡ (get_or (sender_of network j).branches (leg - 1) no_branch).leg → IsParent network j leg parent
last_before network j zero parent rules is some within none found = absurd (omega arith)
last_before network j (suc n) parent rules is some within none found =
    let s : Sender = sender_of network j in
    let keeps : IsSender network.topology s = sender_keeps network j.release.sender rules is.sender in
    let listed : suc n ≤ length s.branches = leg_listed network j (suc n) is within in
    let back : suc n - 1 ≡ n = omega arith in
    let own : parent ≡ (get_or s.branches n no_branch).leg =
    found ∙ ap (λ (k : ℕ). (get_or s.branches k no_branch).leg) back in
    let falls : (get_or s.branches (suc n - 1) no_branch).leg < suc n =
    leg_falls s.ports s.branches (suc n) keeps.branches listed (omega arith) in
    record {
      before = omega (arith, found, falls);
      within = omega (arith, found, falls, within);
      last = ap (λ (k : ℕ). last_of (way_to s j k).hops) own
          ∙ sym (ap last_of (way_before s j n keeps.branches is.copies (omega (arith, listed)) none
          (omega (arith, found, falls, own, listed))));
    }

-- where it did, or at the trunk, it is the last one of the leg
last_own : (network : DeclaredNetwork) (j : Travel) (leg : ℕ) → IsJourney network j → leg < length (legs_in j)
    → 0 < length (leg_in j leg).hops
    → last_of (leg_in j leg).hops ≡ last_of (way_to (sender_of network j) j leg).hops
last_own network j leg is within some =
    let s : Sender = sender_of network j in
    sym (ap last_of (way_at s j leg is.copies (leg_listed network j leg is within))
    ∙ last_behind (leg_at (leads_in s j) leg) (leg_in j leg).hops some)

last_of_trunk : (network : DeclaredNetwork) (j : Travel) → IsJourney network j
    → last_of (leg_in j 0).hops ≡ last_of (way_to (sender_of network j) j 0).hops
last_of_trunk network j is = sym (ap last_of (way_first (sender_of network j) j is.copies))

-- what was decided last on a leg tells whether the frame came to a port of it
none_came : (hops : List HopRecord) (last : Option Verdict) → last ≡ last_verdict hops → is_some last ≡ false
    → hops ≡ []
none_came [] last is none = refl
none_came (hop ∷ hops) last is none =
    let own : List HopRecord = hop ∷ hops in
    let there : last ≡ Some (get_or own (length own - 1) hop).verdict =
    is ∙ verdict_alike (slice_get-get_or own (length own - 1) hop (omega arith)) in
    let some : is_some last ≡ true = ap (λ (o : Option Verdict). is_some o) there in absurd (cc)

some_came : (hops : List HopRecord) (last : Option Verdict) → last ≡ last_verdict hops → is_some last ≡ true
    → 0 < length hops
some_came [] last is some =
    let none : is_some last ≡ false = ap (λ (o : Option Verdict). is_some o) is in absurd (cc)
some_came (hop ∷ hops) last is some = omega arith

-- so where nothing was decided, the one to ask is the leg that was found for the frame's sender
pub parent_found : (network : DeclaredNetwork) (j : Travel) (leg parent : ℕ) (r : Release) (last : Option Verdict)
    → IsNetwork network → IsJourney network j → 0 < leg → leg < length (legs_in j) → r ≡ j.release
    → last ≡ last_verdict (leg_in j leg).hops → is_some last ≡ false
    → parent ≡ (get_or (sender_at network r.sender).branches (leg - 1) no_branch).leg → IsParent network j leg parent
parent_found network j leg parent r last rules is some within of_frame own none found =
    last_before network j leg parent rules is some within (none_came (leg_in j leg).hops last own none)
    (found ∙ ap (λ (one : Release). (get_or (sender_at network one.sender).branches (leg - 1) no_branch).leg) of_frame)

-- and where something was, or this is the trunk, it is what was decided last on the way
pub last_here : (network : DeclaredNetwork) (j : Travel) (leg : ℕ) (last : Option Verdict) → IsJourney network j
    → leg < length (legs_in j) → last ≡ last_verdict (leg_in j leg).hops → (leg ≡ 0) ⊎ (is_some last ≡ true)
    → last ≡ last_verdict (way_to (sender_of network j) j leg).hops
last_here network j leg last is within own (inl trunk) =
    own ∙ verdict_alike
    (subst (λ (k : ℕ). last_of (leg_in j k).hops ≡ last_of (way_to (sender_of network j) j k).hops) (sym trunk)
    (last_of_trunk network j is))
last_here network j leg last is within own (inr some) =
    own ∙ verdict_alike (last_own network j leg is within (some_came (leg_in j leg).hops last own some))
