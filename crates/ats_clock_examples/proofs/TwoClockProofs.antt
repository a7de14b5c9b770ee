use Rattle.std.proofs.Common.{◌≡◌, ℕ, zero, suc, ◌+◌, ◌-◌, ◌*◌, ◌≤◌, List, [], ◌∷◌, get_or, map, refl, sym, ap}
use Rattle.std.proofs.Common.{subst, ◌∙◌, arith, lit<, lit≤}
use Rattle.std.specs.Prelude.{codes}
use Rattle.ats_num.specs.declared.time.Ps.{Ps}
use Rattle.ats_clock.specs.Clock.{KeepsClock, declared_clock}
use Rattle.ats_clock_law.specs.Examples.{ticking}
use Rattle.ats_clock_law.specs.TrueTime.{IsTrueEligibility, IsTrueVerdict}
use Rattle.ats_topology.specs.Topology.{node_at}
use Rattle.ats_topology.specs.declared.node.Node.{Node}
use Rattle.ats_bucket.specs.Scheduler.{first_empty}
use Rattle.ats_streams.specs.declared.traffic.Declared.{Declared}
use Rattle.ats_network.specs.Network.{DeclaredNetwork, IsNetwork}
use Rattle.ats_group.specs.Group.{Offer, first, verdicts_of}
use Rattle.ats_group.specs.declared.verdict.Verdict.{Verdict}
use Rattle.ats_group.specs.declared.verdict.Verdict.TheVariants.{Eligible, Late, Size}
use Rattle.ats_trace.specs.Clocks.{IsLegal, KeepsNodeClock}
use Rattle.ats_trace.specs.Eligibility.{offer_of, scheduled_by}
use Rattle.ats_trace.specs.Journey.{Travel}
use Rattle.ats_trace.specs.Projections.{Handed, handed_by}
use Rattle.ats_trace.specs.Run.{IsIdeal}
use Rattle.ats_clock_run_law.specs.Laws.{IsLegalInTrueTime}
use Rattle.ats_clock_run_law.proofs.TrueTime.{true_time_is_legal}
use Rattle.ats_examples.specs.ClockedRuns.{slow}
use Rattle.ats_examples.specs.Networks.{fork_links}
use Rattle.ats_examples.specs.SlowClocks.{slow_bridge}
use Rattle.ats_examples.proofs.ChangeProofs.{no_frame, time_in}
use Rattle.ats_examples.proofs.NetworkTest.{network_by}
use Rattle.ats_clock_examples.specs.Clocked.{IsLegalWith, clock_at, true_time}
use Rattle.ats_clock_examples.specs.TwoClocks.{BothGroupsHaveOneClock, EachDeclaresItsClock, EachHasItsClock}
use Rattle.ats_clock_examples.specs.TwoClocks.{both_held, bridges_show, held_at_fork, slow_fork, slow_fork_nodes}
use Rattle.ats_clock_examples.specs.TwoClocks.{deviating_bridge}
use Rattle.ats_clock_examples.specs.Overtaken.{ticking_bridge}
use Rattle.ats_clock_examples.specs.TwoClocks.{side_by_side_links, side_by_side_nodes, slow_lines, unlike_lines}
use Rattle.ats_clock_examples.proofs.ClockTest.{legal_with_by, told_verdicts}
use Rattle.ats_clock_examples.proofs.FromLegal.{second_judged}
use Rattle.ats_clock_examples.proofs.OneMember.{frame_of, verdicts_alike}
use Rattle.ats_clock_examples.proofs.OvertakenProofs.{ticking_keeps}

-- Runs in which two bridges go by different clocks, by computation.

pub slow_keeps : KeepsClock (declared_clock 100 1) slow
slow_keeps = record {
  in_order = λ s t h. omega (arith, h);
  no_slower = λ s t h. omega (arith, h);
  no_faster = λ s t h. omega (arith, h);
}

-- greater steps allow no less
slow_and_ticking_keeps : KeepsClock (declared_clock 100 8000) slow
slow_and_ticking_keeps = record {
  in_order = λ s t h. omega (arith, h);
  no_slower = λ s t h. omega (arith, h);
  no_faster = λ s t h. omega (arith, h);
}

exact_keeps : KeepsClock (declared_clock 100 8000) true_time
exact_keeps = record {
  in_order = λ s t h. h;
  no_slower = λ s t h. omega (arith, h);
  no_faster = λ s t h. omega (arith, h);
}

-- the nodes' clocks keep what they declare where the bridges' do
all_keep : (a b : Node) (first second : ℕ → ℕ) → KeepsNodeClock a.kind first → KeepsNodeClock b.kind second
    → (node : ℕ)
    → KeepsNodeClock (node_at (side_by_side_nodes a b) node).kind (clock_at (bridges_show first second) node)
all_keep a b first second one other zero = λ t. refl
all_keep a b first second one other (suc zero) = λ t. refl
all_keep a b first second one other (suc (suc zero)) = λ t. refl
all_keep a b first second one other (suc (suc (suc zero))) = λ t. refl
all_keep a b first second one other (suc (suc (suc (suc zero)))) = one
all_keep a b first second one other (suc (suc (suc (suc (suc zero))))) = other
all_keep a b first second one other (suc (suc (suc (suc (suc (suc node)))))) = λ t. refl

-- the bridges of the slow lines, and of the unlike ones
abbrev slow_first : Node
slow_first = slow_bridge (codes "b1")

abbrev slow_second : Node
slow_second = slow_bridge (codes "b2")

abbrev deviating : Node
deviating = deviating_bridge (codes "b1")

-- the times that nodes told the frames, where these are those of the bridges
abbrev told : List ℕ → List ℕ → List (List ℕ)
told first second = (0 ∷ 0 ∷ 6720000 ∷ []) ∷ [] ∷ (0 ∷ 0 ∷ 0 ∷ 6720000 ∷ []) ∷ [] ∷ first ∷ second ∷ []

slow_with : (first second : ℕ → ℕ) → KeepsClock (declared_clock 100 8000) first
    → KeepsClock (declared_clock 100 8000) second → (node : ℕ)
    → KeepsNodeClock (node_at slow_lines.topology.nodes node).kind (clock_at (bridges_show first second) node)
slow_with first second one other = all_keep slow_first slow_second first second one other

-- a frame with one told time is eligible at one time by clocks that show the same
no_later : (shown shows : ℕ → ℕ) → ((t : ℕ) → shown t ≡ shows t) → (arrival told e f : ℕ)
    → IsTrueEligibility shown arrival told e → IsTrueEligibility shows arrival told f → e ≤ f
no_later shown shows same arrival told e f is other =
    is.least f other.arrived (omega (arith, other.shown, same f))

once : (shown shows : ℕ → ℕ) → ((t : ℕ) → shown t ≡ shows t) → (arrival told e f : ℕ)
    → IsTrueEligibility shown arrival told e → IsTrueEligibility shows arrival told f → e ≡ f
once shown shows same arrival told e f is other =
    omega (
      arith,
      no_later shown shows same arrival told e f is other,
      no_later shows shown (λ t. sym (same t)) arrival told f e other is,
    )

-- 1 for an eligible frame, else 0
abbrev pub is_eligible : Verdict → ℕ
is_eligible (Eligible e) = 1
is_eligible (Late e) = 0
is_eligible Size = 0

eligible_once : (shown shows : ℕ → ℕ) → ((t : ℕ) → shown t ≡ shows t) → (offer other : Offer)
    → offer.arrival ≡ other.arrival → (v : Verdict) (e f : Ps) → IsTrueVerdict shown offer v (Eligible e)
    → IsTrueVerdict shows other v (Eligible f) → e.0 ≡ f.0
eligible_once shown shows same offer other at (Eligible told) e f h k =
    let first : e.0 ≡ h.0.0 = ap time_in h.1 in
    let second : f.0 ≡ k.0.0 = ap time_in k.1 in
    let both : h.0.0 ≡ k.0.0 = once shown shows same offer.arrival told.0 h.0.0 k.0.0 h.2
    (subst (λ (t : ℕ). IsTrueEligibility shows t told.0 k.0.0) (sym at) k.2) in
    first ∙ both ∙ sym second
eligible_once shown shows same offer other at (Late told) e f h k =
    let wrong : ◌≡◌ {A = ℕ} 1 0 = ap is_eligible h.1 in absurd (omega arith)
eligible_once shown shows same offer other at Size e f h k =
    let wrong : ◌≡◌ {A = ℕ} 1 0 = ap is_eligible h in absurd (omega arith)

abbrev apart : List Travel
apart = both_held 20546000 20545329

-- the frames as the first ports of both lines hand them on
abbrev on_first : List Handed
on_first = handed_by slow_lines apart 0 6

abbrev on_second : List Handed
on_second = handed_by slow_lines apart 4 6

-- two frames with one arrival are not eligible at these two times where groups told them the same time, by clocks that
-- show the same
not_at_both : (shown shows : ℕ → ℕ) → ((t : ℕ) → shown t ≡ shows t) → (offer other : Offer)
    → offer.arrival ≡ other.arrival → (v w : Verdict) → v ≡ w
    → IsTrueVerdict shown offer v (Eligible (record { 0 = 20546000 }))
    → IsTrueVerdict shows other w (Eligible (record { 0 = 20545329 })) → ⊥
not_at_both shown shows same offer other at v w alike late soon =
    let at_once : ◌≡◌ {A = ℕ} 20546000 20545329 =
    eligible_once shown shows same offer other at w (record { 0 = 20546000 }) (record { 0 = 20545329 })
    (subst (λ (u : Verdict). IsTrueVerdict shown offer u (Eligible (record { 0 = 20546000 }))) alike late) soon in
    absurd (omega arith)

-- what the groups behind the stations' ports of a network judge of these frames by a clock
abbrev judged_second : (ℕ → ℕ) → DeclaredNetwork → List Travel → ℕ → Verdict
judged_second shows network run port = get_or (told_verdicts shows network port (handed_by network run port 6)) 1 Size

-- the frames of both streams are as much to their groups, which judge alike by one clock
alike : (network : DeclaredNetwork) → scheduled_by network 0 0 ≡ scheduled_by network 4 1 → (shows : ℕ → ℕ)
    → verdicts_of (scheduled_by network 0) 1000000 (first (scheduled_by network 0))
    (map (frame_of 0) ((shows 13836000, 1522) ∷ (shows 14508000, 64) ∷ []))
    ≡ verdicts_of (scheduled_by network 4) 1000000 (first (scheduled_by network 4))
    (map (frame_of 1) ((shows 13836000, 1522) ∷ (shows 14508000, 64) ∷ []))
alike network same shows =
    verdicts_alike (scheduled_by network 0) (scheduled_by network 4) 1000000 0 1 refl refl same
    ((shows 13836000, 1522) ∷ (shows 14508000, 64) ∷ []) (first (scheduled_by network 0))
    (first (scheduled_by network 4))
    (record { time = refl; empty = ap (λ (d : Declared). first_empty d.burst_bits) same })

not_by_one : (legal : IsLegal slow_lines apart) → ¬ ((t : ℕ) → legal.clocks 4 t ≡ legal.clocks 5 t)
not_by_one legal same =
    let shows : ℕ → ℕ = legal.clocks 5 in
    let late : Handed = get_or on_first 1 no_frame in
    let soon : Handed = get_or on_second 1 no_frame in
    not_at_both (legal.clocks 4) shows same (offer_of late) (offer_of soon) refl
    (judged_second shows slow_lines apart 0) (judged_second shows slow_lines apart 4)
    (ap (λ (vs : List Verdict). get_or vs 1 Size) (alike slow_lines refl shows))
    (second_judged (legal.clocks 4) shows (legal.told 4) same slow_lines 0 (get_or on_first 0 no_frame) late (lit< tt)
    (legal.groups 0 6 (lit< tt) (lit≤ tt)))
    (second_judged shows shows (legal.told 5) (λ t. refl) slow_lines 4 (get_or on_second 0 no_frame) soon (lit< tt)
    (legal.groups 4 6 (lit< tt) (lit≤ tt)))

abbrev at_fork : List Travel
at_fork = held_at_fork 20546000 20545329

not_by_two : ¬ IsLegal slow_fork at_fork
not_by_two legal =
    let shows : ℕ → ℕ = legal.clocks 3 in
    let first_handed : List Handed = handed_by slow_fork at_fork 0 6 in
    let second_handed : List Handed = handed_by slow_fork at_fork 4 6 in
    let late : Handed = get_or first_handed 1 no_frame in
    let soon : Handed = get_or second_handed 1 no_frame in
    not_at_both shows shows (λ t. refl) (offer_of late) (offer_of soon) refl
    (judged_second shows slow_fork at_fork 0) (judged_second shows slow_fork at_fork 4)
    (ap (λ (vs : List Verdict). get_or vs 1 Size) (alike slow_fork refl shows))
    (second_judged shows shows (legal.told 3) (λ t. refl) slow_fork 0 (get_or first_handed 0 no_frame) late (lit< tt)
    (legal.groups 0 6 (lit< tt) (lit≤ tt)))
    (second_judged shows shows (legal.told 3) (λ t. refl) slow_fork 4 (get_or second_handed 0 no_frame) soon (lit< tt)
    (legal.groups 4 6 (lit< tt) (lit≤ tt)))

slow_are : IsNetwork slow_lines
slow_are =
    network_by (side_by_side_nodes slow_first slow_second) side_by_side_links slow_lines.streams [] refl refl

not_ideal : ¬ IsIdeal slow_lines apart
not_ideal ideal =
    let is : IsLegalInTrueTime slow_lines apart = true_time_is_legal slow_lines apart slow_are ideal in
    not_by_one is.legal (λ t. is.true_time 4 t ∙ sym (is.true_time 5 t))

-- the times that a bridge tells the two frames of its stream by the slow clock, by true time, and by the one that ticks
pub each_has_its_clock : EachHasItsClock
each_has_its_clock = record {
  network = slow_are;
  first_slow = legal_with_by (bridges_show slow true_time)
      (told (13834616 ∷ 0 ∷ 20543945 ∷ []) (0 ∷ 13836000 ∷ 0 ∷ 20545329 ∷ [])) slow_lines apart
      (slow_with slow true_time slow_and_ticking_keeps exact_keeps) refl;
  second_slow = legal_with_by (bridges_show true_time slow)
      (told (13836000 ∷ 0 ∷ 20545329 ∷ []) (0 ∷ 13834616 ∷ 0 ∷ 20543945 ∷ [])) slow_lines
      (both_held 20545329 20546000) (slow_with true_time slow exact_keeps slow_and_ticking_keeps) refl;
  both_slow = legal_with_by (bridges_show slow slow)
      (told (13834616 ∷ 0 ∷ 20543945 ∷ []) (0 ∷ 13834616 ∷ 0 ∷ 20543945 ∷ [])) slow_lines
      (both_held 20546000 20546000) (slow_with slow slow slow_and_ticking_keeps slow_and_ticking_keeps) refl;
  not_by_one = not_by_one;
  not_ideal = not_ideal;
}

-- the slow clock loses 100000 ps in a millisecond, and the one that ticks gains 8000 ps in one
loses_too_much : ¬ KeepsClock (declared_clock 0 8000) slow
loses_too_much keeps =
    let over : 1000000 * 1000000000 ≤ 1000000 * 999900000 + 1000000 * 8000 =
    keeps.no_slower 0 1000000000 (lit≤ tt) in
    absurd (omega arith)

gains_too_much : (shows : ℕ → ℕ) → shows 7999 ≡ 0 → shows 8000 ≡ 8000 → ¬ KeepsClock (declared_clock 100 1) shows
gains_too_much shows before after keeps =
    let over : 1000000 * (shows 8000 - shows 7999) ≤ 1000100 * 1 + 1000000 * 1 =
    keeps.no_faster 7999 8000 (lit≤ tt) in
    absurd (omega (arith, before, after, over))

not_turned : ¬ IsLegalWith (bridges_show ticking slow) unlike_lines (both_held 20544000 20546000)
not_turned h =
    gains_too_much (h.legal.clocks 4) (h.by_clocks 4 7999) (h.by_clocks 4 8000) (h.legal.keeps 4)

pub each_declares_its_clock : EachDeclaresItsClock
each_declares_its_clock = record {
  network = network_by (side_by_side_nodes deviating (ticking_bridge (codes "b2"))) side_by_side_links
      unlike_lines.streams [] refl refl;
  first_keeps = slow_keeps;
  second_keeps = ticking_keeps;
  not_second = loses_too_much;
  not_first = gains_too_much ticking refl refl;
  first_scheduler = refl;
  second_scheduler = refl;
  legal = legal_with_by (bridges_show slow ticking)
      (told (13834616 ∷ 0 ∷ 20543945 ∷ []) (0 ∷ 13832000 ∷ 0 ∷ 20542000 ∷ [])) unlike_lines
      (both_held 20546000 20544000)
      (all_keep deviating (ticking_bridge (codes "b2")) slow ticking slow_keeps ticking_keeps) refl;
  not_turned = not_turned;
}

-- the fork's bridge by the slow clock, and by true time
slow_fork_keeps : (node : ℕ) → KeepsNodeClock (node_at slow_fork.topology.nodes node).kind
    (clock_at (true_time ∷ true_time ∷ true_time ∷ slow ∷ []) node)
slow_fork_keeps zero = λ t. refl
slow_fork_keeps (suc zero) = λ t. refl
slow_fork_keeps (suc (suc zero)) = λ t. refl
slow_fork_keeps (suc (suc (suc zero))) = slow_and_ticking_keeps
slow_fork_keeps (suc (suc (suc (suc node)))) = λ t. refl

true_fork_keeps : (node : ℕ) → KeepsNodeClock (node_at slow_fork.topology.nodes node).kind (clock_at [] node)
true_fork_keeps zero = λ t. refl
true_fork_keeps (suc zero) = λ t. refl
true_fork_keeps (suc (suc zero)) = λ t. refl
true_fork_keeps (suc (suc (suc zero))) = exact_keeps
true_fork_keeps (suc (suc (suc (suc node)))) = λ t. refl

abbrev told_at_fork : List ℕ → List (List ℕ)
told_at_fork bridge = (0 ∷ 0 ∷ 6720000 ∷ []) ∷ [] ∷ (0 ∷ 0 ∷ 0 ∷ 6720000 ∷ []) ∷ bridge ∷ []

pub both_groups_have_one_clock : BothGroupsHaveOneClock
both_groups_have_one_clock = record {
  network = network_by slow_fork_nodes fork_links slow_fork.streams [] refl refl;
  slow = legal_with_by (true_time ∷ true_time ∷ true_time ∷ slow ∷ [])
      (told_at_fork (13834616 ∷ 13834616 ∷ 20543945 ∷ 20543945 ∷ [])) slow_fork (held_at_fork 20546000 20546000)
      slow_fork_keeps refl;
  in_true_time = legal_with_by [] (told_at_fork (13836000 ∷ 13836000 ∷ 20545329 ∷ 20545329 ∷ [])) slow_fork
      (held_at_fork 20545329 20545329) true_fork_keeps refl;
  not_by_two = not_by_two;
}
