-- A journey by the records at the hops of its legs.
use Rattle.std.proofs.Common.{◌≡◌, ◌≢◌, ℕ, zero, suc, ◌<◌, List, [], ◌∷◌, length, drop, get_or, refl, sym, ap}
use Rattle.std.proofs.Common.{subst, ◌∙◌, arith}
use Rattle.std.specs.Prelude.{Contains, Option, Some, None}
use Rattle.std.specs.List.{AllPairs, concat, slice_get, zip}
use Rattle.std.proofs.lemmas.Grind.{get_or_default_zero}
use Rattle.std.proofs.lemmas.Slice.Zip.{AllZip-long, get_or-zip}
use Rattle.ats_num.specs.declared.time.Ps.{Ps}
use Rattle.ats_topology.specs.Port.{port_at}
use Rattle.ats_streams.specs.Branches.{leg_at, legs_of, no_branch}
use Rattle.ats_streams.specs.declared.branch.Branch.{Branch}
use Rattle.ats_streams.proofs.BranchLemmas.{legs-length}
use Rattle.ats_network.specs.Network.{DeclaredNetwork, IsNetwork}
use Rattle.ats_network.specs.Sender.{Sender}
use Rattle.ats_network.specs.Senders.{IsSender, no_sender, sender_at}
use Rattle.ats_network.proofs.SenderLemmas.{each_is_sender}
use Rattle.ats_group.specs.declared.verdict.Verdict.{Verdict}
use Rattle.ats_group.specs.declared.verdict.Verdict.TheVariants.{Eligible, Late, Size}
use Rattle.ats_trace.specs.HopRecord.{HopRecord}
use Rattle.ats_trace.specs.Journey.{AreCopies, IsCopy, IsJourney, IsSentOrEnds, IsWay, Leg, Travel, legs_at, legs_in}
use Rattle.ats_trace.specs.Journey.{no_leg, record_at}
use Rattle.ats_trace.specs.OneVerdict.{record_of}
use Rattle.ats_trace.specs.declared.journey.Ending.{Ending}
use Rattle.ats_trace.proofs.Legs.{concat-legs_of, legs_cons, place_is, place_of, place_within}
use Rattle.ats_trace.proofs.OneVerdict.{Walks, copies_many, found_over, leg_walks, walk_on, zip_at}
use Rattle.ats_clock_run_law.proofs.Records.{IsSent}

pub nothing : {X : Type 0} (x : X) → None ≡ Some x → ⊥
nothing x h = cc

pub inside : {X : Type 0} (x y : X) → Some x ≡ Some y → x ≡ y
inside x y h = cc

-- a frame was sent, and goes on
record GoesOn (onward : Type 0) (own : HopRecord) : Type 0 where
  e : Ps
  times : Ps × Ps
  is : IsSent own e times
  way : onward

-- where there is a record of it further on
goes_on : (onward : Type 0) (own next : HopRecord) (hops : List HopRecord) (ending : Ending) (k : ℕ)
    → IsSentOrEnds onward own.verdict own.sent hops ending → slice_get hops k ≡ Some next → GoesOn onward own
goes_on onward own next hops ending k sent further = by own.verdict own.sent refl refl sent
  where
    ended : hops ≡ [] → ⊥
    ended none = nothing next (ap (λ (l : List HopRecord). slice_get l k) (sym none) ∙ further)

    by : (v : Verdict) (times : Option (Ps × Ps)) → own.verdict ≡ v → own.sent ≡ times
        → IsSentOrEnds onward v times hops ending → GoesOn onward own
    by (Eligible e) (Some times) v_is sent_is way =
        record { e = e; times = times; is = record { verdict = v_is; sent = sent_is }; way = way }
    by (Eligible e) None v_is sent_is way = absurd way
    by (Late e) (Some times) v_is sent_is way = absurd way
    by (Late e) None v_is sent_is way = absurd (ended way.0)
    by Size (Some times) v_is sent_is way = absurd way
    by Size None v_is sent_is way = absurd (ended way.0)

-- behind a record that is not the last, the path goes on, and the frame was sent
pub record GoesFurther (path : List ℕ) (hop : ℕ) (own : HopRecord) : Type 0 where
  pub within : suc hop < length path
  pub e : Ps
  pub times : Ps × Ps
  pub is : IsSent own e times

some_path : (path : List ℕ) (hops : List HopRecord) (ending : Ending) (next : HopRecord) → IsWay path hops ending
    → slice_get hops 0 ≡ Some next → 0 < length path
some_path [] [] ending next way at = absurd (nothing next at)
some_path [] (hop ∷ hops) ending next way at = absurd way
some_path (p ∷ path) hops ending next way at = omega arith

goes_further : (path : List ℕ) (hops : List HopRecord) (ending : Ending) (hop : ℕ) (own next : HopRecord)
    → IsWay path hops ending → slice_get hops hop ≡ Some own → slice_get hops (suc hop) ≡ Some next
    → GoesFurther path hop own
goes_further [] [] ending hop own next way at behind = absurd (nothing own at)
goes_further [] (first ∷ hops) ending hop own next way at behind = absurd way
goes_further (p ∷ path) [] ending hop own next way at behind = absurd (nothing own at)
goes_further (p ∷ path) (first ∷ hops) ending zero own next way at behind =
    let on = goes_on (IsWay path hops ending) first next hops ending 0 way behind in
    let some = some_path path hops ending next on.way behind in
    subst (GoesFurther (p ∷ path) 0) (inside first own at)
    (record { within = omega (arith, some); e = on.e; times = on.times; is = on.is })
goes_further (p ∷ path) (first ∷ hops) ending (suc hop) own next way at behind =
    let on = goes_on (IsWay path hops ending) first own hops ending hop way at in
    let further = goes_further path hops ending hop own next on.way at behind in
    record { within = omega (arith, further.within); e = further.e; times = further.times; is = further.is }

-- each copy is that of its branch
pub copy_is : (s : Sender) (j : Travel) (n : ℕ) → AreCopies s j → n < length s.branches
    → IsCopy (record_at (legs_in j) (get_or s.branches n no_branch)) (leg_at (legs_of s.ports s.branches) (suc n))
    (get_or j.copies n no_leg)
copy_is s j n copied within =
    let rest : List (List ℕ) = drop 1 (legs_of s.ports s.branches) in
    let d : Branch × List ℕ = (no_branch, []) in
    let each : Branch × List ℕ → Leg → Type 0 = λ branch leg. IsCopy (record_at (legs_in j) branch.0) branch.1 leg in
    let long : n < length (zip s.branches rest) = omega (
      arith,
      copies_many s j copied,
      AllZip-long each (zip s.branches rest) j.copies copied,
      within,
    ) in
    let many : suc (length rest) ≡ length (legs_of s.ports s.branches) =
    sym (ap (λ (l : List (List ℕ)). length l) (legs_cons s.ports s.branches)) in
    let at : get_or (zip s.branches rest) n d ≡ (get_or s.branches n no_branch, get_or rest n []) =
    get_or-zip s.branches rest n d within (omega (arith, many, legs-length 0 s.ports s.branches, within)) in
    let own : get_or rest n [] ≡ leg_at (legs_of s.ports s.branches) (suc n) =
    sym (ap (λ (l : List (List ℕ)). leg_at l (suc n)) (legs_cons s.ports s.branches)) in
    subst (λ (path : List ℕ). IsCopy (record_at (legs_in j) (get_or s.branches n no_branch)) path
    (get_or j.copies n no_leg)) own
    (subst (λ (b : Branch × List ℕ). IsCopy (record_at (legs_in j) b.0) b.1 (get_or j.copies n no_leg)) at
    (zip_at each (zip s.branches rest) j.copies n d no_leg copied long))

-- a copy makes its way where there is a record of it
way_of_copy : (start : Option HopRecord) (path : List ℕ) (leg : Leg) (hop : ℕ) (own : HopRecord)
    → IsCopy start path leg → slice_get leg.hops hop ≡ Some own → IsWay path leg.hops leg.ending
way_of_copy (Some start) path leg hop own is at = is.1
way_of_copy None path leg hop own is at =
    absurd (nothing own (ap (λ (l : List HopRecord). slice_get l hop) (sym is.0) ∙ at))

-- a record of a frame at a hop of a leg
pub record Stands (network : DeclaredNetwork) (j : Travel) (leg hop : ℕ) (own : HopRecord) : Type 0 where
  pub in_legs : leg < length (legs_at network j.release.sender)
  pub in_leg : hop < length (leg_at (legs_at network j.release.sender) leg)
  pub is : slice_get (get_or (legs_in j) leg no_leg).hops hop ≡ Some own

-- its port
abbrev pub port_of : DeclaredNetwork → Travel → ℕ → ℕ → ℕ
port_of network j leg hop = get_or (leg_at (legs_at network j.release.sender) leg) hop 0

pub sender_is : (network : DeclaredNetwork) (j : Travel) → IsNetwork network → IsJourney network j
    → IsSender network.topology (sender_at network j.release.sender)
sender_is network j net is = each_is_sender network net j.release.sender no_sender is.sender

pub legs_many : (network : DeclaredNetwork) (j : Travel) → IsJourney network j
    → length (legs_in j) ≡ length (legs_at network j.release.sender)
legs_many network j is =
    let s : Sender = sender_at network j.release.sender in
    omega (arith, copies_many s j is.copies, legs-length 0 s.ports s.branches)

-- is one of the sender's ports
pub has_port : (network : DeclaredNetwork) (j : Travel) (leg hop : ℕ) (own : HopRecord) → IsNetwork network
    → IsJourney network j → Stands network j leg hop own
    → Contains (sender_at network j.release.sender).ports (port_of network j leg hop)
has_port network j leg hop own net is at = (place, within, there)
  where
    s : Sender
    s = sender_at network j.release.sender

    legs : List (List ℕ)
    legs = legs_of s.ports s.branches

    whole : concat legs ≡ s.ports
    whole = concat-legs_of s.ports s.branches (sender_is network j net is).branches

    place : ℕ
    place = place_of legs leg hop

    within : place < length s.ports
    within = subst (λ (l : List ℕ). place < length l) whole (place_within legs leg hop at.in_legs at.in_leg)

    there : get_or s.ports place (port_of network j leg hop) ≡ port_of network j leg hop
    there =
        get_or_default_zero s.ports place (port_of network j leg hop) within
        ∙ ap (λ (l : List ℕ). get_or l place 0) (sym whole) ∙ place_is legs leg hop at.in_legs at.in_leg

-- and the record is that of the frame at this port
pub record_is : (network : DeclaredNetwork) (j : Travel) (leg hop : ℕ) (own : HopRecord) → IsNetwork network
    → IsJourney network j → Stands network j leg hop own → record_of network j (port_of network j leg hop) ≡ Some own
record_is network j leg hop own net is at =
    let s : Sender = sender_at network j.release.sender in
    let keeps : IsSender network.topology s = sender_is network j net is in
    let apart : AllPairs (λ p q. p ≢ q) (concat (legs_of s.ports s.branches)) =
    subst (AllPairs (λ p q. p ≢ q)) (sym (concat-legs_of s.ports s.branches keeps.branches)) keeps.apart in
    found_over (legs_of s.ports s.branches) (legs_in j) leg hop apart at.in_legs
    (omega (arith, legs_many network j is, at.in_legs)) at.in_leg
    ∙ at.is

-- the way along a leg on which there is a record
leg_way : (network : DeclaredNetwork) (j : Travel) (leg hop : ℕ) (own : HopRecord) → IsJourney network j
    → leg < length (legs_at network j.release.sender)
    → slice_get (get_or (legs_in j) leg no_leg).hops hop ≡ Some own
    → IsWay (leg_at (legs_at network j.release.sender) leg) (get_or (legs_in j) leg no_leg).hops
    (get_or (legs_in j) leg no_leg).ending
leg_way network j zero hop own is in_legs at = is.way
leg_way network j (suc n) hop own is in_legs at =
    let s : Sender = sender_at network j.release.sender in
    way_of_copy (record_at (legs_in j) (get_or s.branches n no_branch)) (leg_at (legs_of s.ports s.branches) (suc n))
    (get_or j.copies n no_leg) hop own
    (copy_is s j n is.copies (omega (arith, in_legs, legs-length 0 s.ports s.branches))) at

-- two records, one after the other: the frame was sent from the first port to the node that the second one leaves
pub record GoesFrom (network : DeclaredNetwork) (j : Travel) (leg hop : ℕ) (own next : HopRecord) : Type 0 where
  pub e : Ps
  pub times : Ps × Ps
  pub is : IsSent own e times
  pub first : Stands network j leg hop own
  pub second : Stands network j leg (suc hop) next
  pub node : (port_at network.topology.ports (port_of network j leg (suc hop))).from
      ≡ (port_at network.topology.ports (port_of network j leg hop)).to

pub goes_from : (network : DeclaredNetwork) (j : Travel) (leg hop : ℕ) (own next : HopRecord) → IsNetwork network
    → IsJourney network j → leg < length (legs_at network j.release.sender)
    → slice_get (get_or (legs_in j) leg no_leg).hops hop ≡ Some own
    → slice_get (get_or (legs_in j) leg no_leg).hops (suc hop) ≡ Some next → GoesFrom network j leg hop own next
goes_from network j leg hop own next net is in_legs at behind =
    let s : Sender = sender_at network j.release.sender in
    let path : List ℕ = leg_at (legs_of s.ports s.branches) leg in
    let further : GoesFurther path hop own =
    goes_further path (get_or (legs_in j) leg no_leg).hops (get_or (legs_in j) leg no_leg).ending hop own next
    (leg_way network j leg hop own is in_legs at) at behind in
    let walks : Walks network.topology path =
    leg_walks network.topology s.ports s.branches (sender_is network j net is).tree leg
    (omega (arith, in_legs, legs-length 0 s.ports s.branches)) in
    record {
      e = further.e;
      times = further.times;
      is = further.is;
      first = record { in_legs = in_legs; in_leg = omega (arith, further.within); is = at };
      second = record { in_legs = in_legs; in_leg = further.within; is = behind };
      node = walk_on network.topology.ports walks.start walks.listener path hop walks.walk further.within;
    }
