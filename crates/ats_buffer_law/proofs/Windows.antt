use Rattle.std.proofs.Common.{◌≡◌, ℕ, ◌+◌, ◌-◌, ◌*◌, ◌<◌, ◌≤◌, Bool, true, false, cond, List, length, get_or}
use Rattle.std.proofs.Common.{sum_by, [], ◌++◌, length-append}
use Rattle.std.proofs.Common.{Option, Some, None, refl, sym, ap, ◌∙◌, subst, arith}
use Rattle.std.specs.Prelude.{◌==◌, ◌&&◌, nat_le, nat_lt, unwrap_or, Contains}
use Rattle.std.specs.Option.{option_map}
use Rattle.std.proofs.Math.Nat.{mul-le-mul_left}
use Rattle.std.proofs.lemmas.Bool.{and_parts, and_from, eqb-true, eq-eqb, leb-true, ltb-true, lt-ltb}
use Rattle.std.proofs.lemmas.List.Elements.{All-contains}
use Rattle.std.proofs.lemmas.List.{get_or-append-add}
use Rattle.ats_facts.proofs.Lists.{All-from_filter}
use Rattle.ats_num.specs.declared.time.TheConstants.{PS_PER_SECOND}
use Rattle.ats_clock.specs.declared.committed.Committed.{Committed}
use Rattle.ats_topology.specs.Port.{port_at}
use Rattle.ats_network.specs.Sender.{Sender}
use Rattle.ats_streams.specs.Branches.{leads_of, leg_at, legs_of}
use Rattle.ats_streams.proofs.BranchLemmas.{route-at}
use Rattle.ats_network.specs.Class.{port_before}
use Rattle.ats_network.specs.Network.{DeclaredNetwork}
use Rattle.ats_network.specs.Rates.{committed_at}
use Rattle.ats_network.specs.Senders.{sender_at, IsSender}
use Rattle.ats_network.proofs.ClassLemmas.{class_along-has}
use Rattle.ats_certificate.specs.PortSums.{uses, is_used}
use Rattle.ats_certificate.specs.Certificate.{bound_at, Holds}
use Rattle.ats_certificate.specs.declared.row.Row.{Row}
use Rattle.ats_group_law.specs.Windows.{is_within}
use Rattle.ats_group_law.proofs.WindowBits.{bits_in, within-is}
use Rattle.ats_port_law.specs.PortLaw.{IsOffered, frame_of}
use Rattle.ats_port_law.proofs.Sums.{sum_by-le-all}
use Rattle.ats_port_law.proofs.Used.{used_place}
use Rattle.ats_trace.specs.Journey.{Travel, class_at, legs_at, legs_in}
use Rattle.ats_trace.specs.Projections.{Crossing, Handed, hops_from, crossings_from, handed_from, sent_by}
use Rattle.ats_soundness_law.proofs.Along.{hop_of}
use Rattle.ats_soundness_law.proofs.Arrivals.{crossed_there}
use Rattle.ats_soundness_law.proofs.Bits.{hop_weight}
use Rattle.ats_trace.specs.Talker.{talker_of}
use Rattle.ats_trace.specs.Ways.{listener_count, route_to}
use Rattle.ats_route_law.proofs.Before.{before_on_route}
use Rattle.ats_route_law.proofs.InFront.{none_before}
use Rattle.ats_soundness_law.proofs.Journeys.{StandsAt, each_handed-le, each_on_route, leg_listener, listeners_many}
use Rattle.ats_soundness_law.proofs.Journeys.{route_apart, route_starts, stands_at}
use Rattle.ats_soundness_law.proofs.Known.{told}
use Rattle.ats_soundness_law.proofs.Lifts.{run_handed-le}
use Rattle.ats_soundness_law.proofs.Serving.{Promises}
use Rattle.ats_soundness_law.proofs.Paths.{sender_is, uses_own}
use Rattle.ats_soundness_law.proofs.Streams.{stream_exists, stream_used}
use Rattle.ats_buffer.specs.Occupancy.{is_there}
use Rattle.ats_buffer.specs.Buffer.{counted_at, stay_at, way_by, way_over, way_to, window_at}
use Rattle.ats_buffer_law.specs.Laws.{BridgeKeeps}
use Rattle.ats_buffer_law.proofs.Came.{all_own, all_known}
use Rattle.ats_buffer_law.proofs.Crossed.{run_crossed-le}
use Rattle.ats_buffer_law.proofs.Fed.{IsKept, fed_window}
use Rattle.ats_buffer_law.proofs.Passed.{soon_weight, passed_weight, passed_bits, run_soon, passed-le}
use Rattle.ats_buffer_law.proofs.Places.{IsPlaced, first, behind, placed}
use Rattle.ats_buffer_law.proofs.Stays.{IsBrief, all_brief, IsTimely, all_timely}

-- a stream with its class at a port, in a run by a certificate that holds, where the node that each port of the stream
-- leaves keeps what is asked, if a bridge does; and the bridge that this port leaves does, and that of the port before
pub record OfStream (Keeps : ℕ → Type 0) (network : DeclaredNetwork) (rows : List Row) (run : List Travel)
    (i port class : ℕ) : Type 0 where
  pub promises : Promises Keeps network run
  pub holds : Holds network rows
  pub exists : i < length network.streams
  pub some : 1 ≤ class
  pub ranked : class_at (sender_at network i) port ≡ class
  pub kept : (q : ℕ) → uses q (sender_at network i) ≡ true → BridgeKeeps Keeps network q → IsKept Keeps network q
  pub here : BridgeKeeps Keeps network port
  pub before : (q : ℕ) → port_before (sender_at network i) port ≡ Some q → BridgeKeeps Keeps network q

-- the bits of a stream's crossing of the port that is there at a time
abbrev pub held_weight : ℕ → ℕ → ℕ → Crossing → ℕ
held_weight i port time c =
    cond (c.port == port) (cond (c.sent.sender == i) (cond (is_there time c) c.sent.bits 0) 0) 0

-- a wider test counts no less
wider : (there own narrow wide : Bool) (n : ℕ) → (there ≡ true → own ≡ true → narrow ≡ true → wide ≡ true)
    → cond there (cond own (cond narrow n 0) 0) 0 ≤ cond there (cond own (cond wide n 0) 0) 0
wider true true true true n h = omega arith
wider true true true false n h = absurd (cc (h refl refl refl))
wider true true false wide n h = omega arith
wider true false narrow wide n h = omega arith
wider false own narrow wide n h = omega arith

-- what is no more than the bits of a window is no more than those of a longer one
in_window : (held sent rate span window burst : ℕ) → held ≤ sent
    → PS_PER_SECOND * sent ≤ rate * span + PS_PER_SECOND * burst → span ≤ window
    → PS_PER_SECOND * held ≤ rate * window + PS_PER_SECOND * burst
in_window held sent rate span window burst fewer bits short = omega (arith, fewer, bits, mul-le-mul_left rate short)

-- the bits of a window by what is seen of a sender, where that is the same
by_seen : (sent span : ℕ) (one other : Committed) → one ≡ other
    → PS_PER_SECOND * sent ≤ one.rate * span + PS_PER_SECOND * one.burst_bits
    → PS_PER_SECOND * sent ≤ other.rate * span + PS_PER_SECOND * other.burst_bits
by_seen sent span one other same h =
    subst (λ (c : Committed). PS_PER_SECOND * sent ≤ c.rate * span + PS_PER_SECOND * c.burst_bits) same h

-- larger numbers count no less
larger : (there own : Bool) (m n : ℕ) → (there ≡ true → own ≡ true → m ≤ n)
    → cond there (cond own m 0) 0 ≤ cond there (cond own n 0) 0
larger true true m n h = h refl refl
larger true false m n h = omega arith
larger false own m n h = omega arith

module _ (Keeps : ℕ → Type 0) (network : DeclaredNetwork) (rows : List Row) (run : List Travel) (i port class : ℕ)
    (o : OfStream Keeps network rows run i port class) where
  uses_port : uses port (sender_at network i) ≡ true
  uses_port = class_along-has port (sender_at network i).ports (sender_at network i).classes
      (omega (arith, o.ranked, o.some))

  used_here : is_used network port class ≡ true
  used_here = ap (is_used network port) (sym o.ranked) ∙ stream_used network port i o.exists uses_port

  keeps : IsSender network.topology (sender_at network i)
  keeps = sender_is network o.promises.case.net i (stream_exists network i o.exists)

  -- the leg that has the port
  stands : StandsAt (sender_at network i) port
  stands = stands_at (sender_at network i) port keeps.branches uses_port

  listener : stands.leg < listener_count (sender_at network i)
  listener = leg_listener (sender_at network i) port stands.leg stands.hop stands.at

  -- what is there at a time ends within the stay, so it became eligible not long before
  held_soon : (time : ℕ) → sum_by (held_weight i port time) (crossings_from network 0 run)
      ≤ sum_by (soon_weight i port time (stay_at network rows port class)) (crossings_from network 0 run)
  held_soon time =
      let stay : ℕ = stay_at network rows port class in
      let brief = all_brief network rows run port class o.promises o.holds used_here
      (o.kept port uses_port o.here) in
      let sent = All-from_filter (λ (c : Crossing). c.port == port)
      (λ (c : Crossing). Contains (sent_by network run port) c.sent) (crossings_from network 0 run)
      (crossed_there network run port) in
      let is_known = all_known network run o.promises.case in
      sum_by-le-all (held_weight i port time) (soon_weight i port time stay) (crossings_from network 0 run)
      (λ k d h. (
      let c : Crossing = get_or (crossings_from network 0 run) k d in
      wider (c.port == port) (c.sent.sender == i) (is_there time c)
      (nat_le c.came time && nat_lt time (c.sent.eligible + stay)) c.sent.bits
      (λ here own there. (
      let parts = and_parts (nat_le c.came time) (nat_lt time c.sent.end) there in
      let ranked : c.sent.class ≡ class =
      (is_known k d h).ranked
      ∙ ap (λ (n : ℕ). class_at (sender_at network n) c.port) (eqb-true c.sent.sender i own)
      ∙ ap (class_at (sender_at network i)) (eqb-true c.port port here) ∙ o.ranked in
      let ends = (All-contains (IsBrief network rows port class) (sent_by network run port) c.sent brief
      (sent k d h here)).ends ranked in
      and_from (nat_le c.came time) (nat_lt time (c.sent.eligible + stay)) parts.0
      (lt-ltb time (c.sent.eligible + stay)
      (omega (arith, ltb-true time c.sent.end parts.1, ends)))))))

  -- at a port of its talker it came when it became eligible
  soon_first : talker_of network i ≡ (port_at network.topology.ports port).from → (time stay : ℕ)
      → sum_by (soon_weight i port time stay) (crossings_from network 0 run)
      ≤ sum_by (hop_weight i port (λ n. bits_in (time - stay) time)) (hops_from network 0 run)
  soon_first begins time stay =
      let own_frames = all_own network run o.promises.case in
      let each = sum_by-le-all (soon_weight i port time stay)
      (λ (c : Crossing). hop_weight i port (λ n. bits_in (time - stay) time) (hop_of c)) (crossings_from network 0 run)
      (λ k d h. (
      let c : Crossing = get_or (crossings_from network 0 run) k d in
      wider (c.port == port) (c.sent.sender == i) (nat_le c.came time && nat_lt time (c.sent.eligible + stay))
      (is_within (time - stay) time (frame_of c.sent)) c.sent.bits
      (λ here own soon. (
      let parts = and_parts (nat_le c.came time) (nat_lt time (c.sent.eligible + stay)) soon in
      let came = leb-true c.came time parts.0 in
      let late = ltb-true time (c.sent.eligible + stay) parts.1 in
      let same : c.sent.eligible ≡ c.came = own_frames k d h
      (ap (talker_of network) (eqb-true c.sent.sender i own) ∙ begins
      ∙ ap (λ (p : ℕ). (port_at network.topology.ports p).from) (sym (eqb-true c.port port here))) in
      within-is (time - stay) time (frame_of c.sent) (omega (arith, late)) (omega (arith, came, same)))))) in
      omega (arith, each, run_crossed-le (hop_weight i port (λ n. bits_in (time - stay) time)) network 0 run)

  -- behind a port it was eligible there in the window
  passed_window : (q : ℕ) → uses q (sender_at network i) ≡ true → BridgeKeeps Keeps network q → (time stay : ℕ)
      → sum_by (passed_weight i q time stay) (handed_from network 0 run)
      ≤ sum_by (hop_weight i q (λ n. bits_in (time - (stay + bound_at rows q (class_at (sender_at network i) q)))
      (time - (bound_at rows q (class_at (sender_at network i) q)
      - way_by network rows q (class_at (sender_at network i) q))))) (hops_from network 0 run)
  passed_window q on kept time stay =
      let c : ℕ = class_at (sender_at network i) q in
      let bound : ℕ = bound_at rows q c in
      let soonest : ℕ = bound - way_by network rows q c in
      let weight = hop_weight i q (λ n. bits_in (time - (stay + bound)) (time - soonest)) in
      let timely = All-from_filter (λ (h : Handed). h.crossing.port == q && h.crossing.sent.class == c)
      (IsTimely network rows q c) (handed_from network 0 run)
      (all_timely network rows run q c o.promises o.holds (stream_used network q i o.exists on) (o.kept q on kept)) in
      let is_told = told network run o.promises.case in
      let each = sum_by-le-all (passed_weight i q time stay) (λ (h : Handed). weight (hop_of h.crossing))
      (handed_from network 0 run)
      (λ k d w. (
      let h : Handed = get_or (handed_from network 0 run) k d in
      larger (h.crossing.port == q) (h.crossing.sent.sender == i)
      (passed_bits time stay h.crossing.octets h.crossing.arrival h.verdict)
      (bits_in (time - (stay + bound)) (time - soonest) (frame_of h.crossing.sent))
      (λ here own. (
      let ranked : h.crossing.sent.class ≡ c =
      (is_told k d w).ranked
      ∙ ap (λ (n : ℕ). class_at (sender_at network n) h.crossing.port) (eqb-true h.crossing.sent.sender i own)
      ∙ ap (class_at (sender_at network i)) (eqb-true h.crossing.port q here) in
      let t : IsTimely network rows q c h = timely k d w (and_from (h.crossing.port == q) (h.crossing.sent.class == c)
      here (eq-eqb h.crossing.sent.class c ranked)) in
      passed-le time stay bound soonest h.crossing.octets h.crossing.arrival h.crossing.sent.bits
      h.crossing.sent.eligible h.verdict (is_told k d w).bits t.eligible (omega (arith, t.after, t.window)))))) in
      let sent = run_handed-le weight network 0 run
      (λ n j. each_handed-le weight n j.release (sender_at network j.release.sender)
      (legs_at network j.release.sender) (legs_in j)) in
      omega (arith, each, sent)

  -- what such a port is asked to send
  offered : (q c : ℕ) → is_used network q c ≡ true → IsKept Keeps network q
      → IsOffered network q (sent_by network run q)
  offered q c used kept = (o.promises.offered q (used_place network q c o.promises.case.net used).within kept).offered

  -- what is seen of the stream where its frames are counted
  abbrev pub seen : Committed
  seen = committed_at network.topology (counted_at (sender_at network i) port) (sender_at network i)

  -- so the bits of the stream that are there are within its rate in the window, and its burst
  by_window : IsPlaced network.topology (route_to (sender_at network i) stands.leg) port → (time : ℕ)
      → PS_PER_SECOND * sum_by (held_weight i port time) (crossings_from network 0 run)
      ≤ seen.rate * window_at network rows port class (sender_at network i) + PS_PER_SECOND * seen.burst_bits
  by_window (first is starts) time =
      let s : Sender = sender_at network i in
      let stay : ℕ = stay_at network rows port class in
      let soon = held_soon time in
      let begins : talker_of network i ≡ (port_at network.topology.ports port).from =
      sym (route_starts network.topology (sender_at network i) stands.leg keeps listener) ∙ starts in
      let sent = soon_first begins time stay in
      let window = fed_window network run port i (time - stay) time
      (offered port class used_here (o.kept port uses_port o.here)) o.exists (omega arith) in
      let none : port_before s port ≡ None =
      ap (port_before s) (sym is)
      ∙ none_before network.topology s stands.leg keeps (listeners_many s stands.leg listener) in
      let here : committed_at network.topology port s ≡ seen =
      ap (λ (o : Option ℕ). committed_at network.topology (unwrap_or o port) s) (sym none) in
      in_window (sum_by (held_weight i port time) (crossings_from network 0 run)) _ seen.rate
      (time - (time - stay)) (window_at network rows port class s) seen.burst_bits
      (omega (arith, soon, sent)) (by_seen _ _ (committed_at network.topology port s) seen here window) (omega arith)
  by_window (behind k within is group elsewhere bridge) time =
      let s : Sender = sender_at network i in
      let route : List ℕ = route_to s stands.leg in
      let q : ℕ = get_or route k 0 in
      let on : uses q s ≡ true =
      each_on_route (λ p. uses p s ≡ true) s stands.leg (uses_own s) listener k 0 (omega (arith, within)) in
      let stay : ℕ = stay_at network rows port class in
      let bound : ℕ = bound_at rows q (class_at s q) in
      let way : ℕ = way_by network rows q (class_at s q) in
      let soon = held_soon time in
      let passed : sum_by (soon_weight i port time stay) (crossings_from network 0 run)
      ≤ sum_by (passed_weight i q time stay) (handed_from network 0 run) =
      subst (λ (p : ℕ). sum_by (soon_weight i port time stay) (crossings_from network 0 run)
      ≤ sum_by (passed_weight i p time stay) (handed_from network 0 run)) group
      (run_soon network run i port stands.leg stands.hop time stay o.promises.case
      (λ begins. elsewhere (route_starts network.topology s stands.leg keeps listener ∙ begins)) stands.at) in
      let before : port_before s port ≡ Some q =
      ap (port_before s) (sym is) ∙ before_on_route network.topology s stands.leg k keeps
      (listeners_many s stands.leg listener) within in
      let kept : BridgeKeeps Keeps network q = o.before q before in
      let sent = passed_window q on kept time stay in
      let window = fed_window network run q i (time - (stay + bound)) (time - (bound - way))
      (offered q (class_at s q) (stream_used network q i o.exists on) (o.kept q on kept)) o.exists (omega arith) in
      let way_is : way_to network rows s port ≡ way =
      ap (λ (b : Option ℕ). unwrap_or (option_map (way_over network rows s) b) 0) before in
      let there : committed_at network.topology q s ≡ seen =
      ap (λ (o : Option ℕ). committed_at network.topology (unwrap_or o port) s) (sym before) in
      in_window (sum_by (held_weight i port time) (crossings_from network 0 run)) _ seen.rate
      (time - (bound - way) - (time - (stay + bound))) (window_at network rows port class s) seen.burst_bits
      (omega (arith, soon, passed, sent)) (by_seen _ _ (committed_at network.topology q s) seen there window)
      (omega (arith, way_is))

  pub within_window : (time : ℕ) → PS_PER_SECOND * sum_by (held_weight i port time) (crossings_from network 0 run)
      ≤ seen.rate * window_at network rows port class (sender_at network i) + PS_PER_SECOND * seen.burst_bits
  within_window time =
      let s : Sender = sender_at network i in
      let m : ℕ = stands.leg in
      let lead : List ℕ = leg_at (leads_of s.ports s.branches) m in
      let own : List ℕ = leg_at (legs_of s.ports s.branches) m in
      let whole : lead ++ own ≡ route_to s m =
      sym (route-at s.ports s.branches m [] (listeners_many s m listener)) in
      let long : length (lead ++ own) ≡ length (route_to s m) = ap (λ (l : List ℕ). length l) whole in
      let is : get_or (route_to s m) (length lead + stands.hop) 0 ≡ port =
      ap (λ (l : List ℕ). get_or l (length lead + stands.hop) 0) (sym whole)
      ∙ get_or-append-add lead own stands.hop 0 ∙ stands.at.is in
      by_window (placed network.topology port (route_to s m) (length lead + stands.hop) (keeps.valid m [] listener)
      (keeps.bridges m [] listener) (route_apart network.topology s m keeps listener)
      (omega (arith, long, length-append lead own, stands.at.in_leg)) is) time
