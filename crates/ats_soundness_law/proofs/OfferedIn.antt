-- What a node that keeps its buckets by its clock is asked to send, a station or a bridge.
use Rattle.std.proofs.Common.{◌≡◌, ℕ, ◌+◌, ◌-◌, ◌*◌, ◌<◌, ◌≤◌, Bool, true, false, cond, List, [], ◌∷◌, length, map}
use Rattle.std.proofs.Common.{get_or, All, sum_by, refl, sym, ap, subst, inl, inr, arith}
use Rattle.std.specs.Prelude.{◌==◌, ◌&&◌, nat_le}
use Rattle.std.proofs.lemmas.Bool.{cases_Bool, cases_lt, le-leb, leb-true, leb-false, false≢true}
use Rattle.std.proofs.lemmas.List.{get_or-map, length-map}
use Rattle.std.proofs.lemmas.List.Elements.{All-filter, All-map}
use Rattle.std.proofs.lemmas.List.Sorted.{All-permutation, sum_by-IsPermutation}
use Rattle.ats_num.specs.declared.time.TheConstants.{PS_PER_SECOND}
use Rattle.ats_bucket.specs.Conforming.{Frame}
use Rattle.ats_clock.specs.Clock.{DeclaredClock, KeepsClock}
use Rattle.ats_clock.specs.Rates.{output_of}
use Rattle.ats_clock.specs.declared.committed.Committed.{Committed}
use Rattle.ats_clock_law.specs.Counted.{Told, WereTold, at_told, bits_counted, is_counted}
use Rattle.ats_clock_law.specs.Retiming.{ConformTo}
use Rattle.ats_clock_law.specs.TrueTime.{IsTrueEligibility}
use Rattle.ats_clock_law.proofs.Counted.{counted_keep}
use Rattle.ats_clock_law.proofs.Pairs.{order-mapped}
use Rattle.ats_clock_law.proofs.TrueTime.{order_kept}
use Rattle.ats_group_law.proofs.Order.{from_frames}
use Rattle.ats_group_law.proofs.Regulator.{ats_is_regulator}
use Rattle.ats_group_law.proofs.WindowBits.{bits_in, bits_within-sum}
use Rattle.ats_group_law.proofs.WindowPlaces.{places_from_windows}
use Rattle.ats_topology.specs.Port.{port_at}
use Rattle.ats_network.specs.Network.{DeclaredNetwork, IsNetwork, senders_of}
use Rattle.ats_network.specs.Rates.{committed_at, declared_with}
use Rattle.ats_network.specs.Senders.{sender_at}
use Rattle.ats_certificate.specs.PortSums.{uses}
use Rattle.ats_port_rule.specs.Transmission.{Transmission}
use Rattle.ats_port_law.specs.PortLaw as port_law
use Rattle.ats_port_law.specs.PortLaw.{ConformsInOrder, IsDeclared, IsOffered, IsOfferedBy, frame_of, frames_by}
use Rattle.ats_port_law.proofs.Sums.{sum_by-filter, sum_by-le-all}
use Rattle.ats_trace.specs.Clocks.{IsLegal}
use Rattle.ats_trace.specs.Journey.{Travel}
use Rattle.ats_trace.specs.Projections.{sent_by}
use Rattle.ats_trace.specs.Run.{releases_of}
use Rattle.ats_trace.specs.Talker.{IsDeclaredSize, read_by, talker_of}
use Rattle.ats_trace.specs.declared.journey.Release.{Release}
use Rattle.ats_soundness_law.specs.Laws.{PortIsOffered}
use Rattle.ats_soundness_law.proofs.Bits.{sent_of, sum_by-map}
use Rattle.ats_soundness_law.proofs.ByClock.{HasTold}
use Rattle.ats_soundness_law.proofs.KeptIn.{KeptIn, kept_in, told_frame}
use Rattle.ats_soundness_law.proofs.Known.{Case}
use Rattle.ats_soundness_law.proofs.Lifts.{run_hops_by}
use Rattle.ats_soundness_law.proofs.Offered.{DeclaredAt, at_port, none_conforms, none_sent}
use Rattle.ats_soundness_law.proofs.Paths.{sender_is}
use Rattle.ats_soundness_law.proofs.SentWith.{output_is, sent_with}
use Rattle.ats_soundness_law.proofs.Sized.{IsSized}
use Rattle.ats_soundness_law.proofs.Sizes.{Paced, journey_declared, paced}
use Rattle.ats_soundness_law.proofs.Sorting.{InOrder, InOrderBy, in_order, in_order_by}
use Rattle.ats_soundness_law.proofs.Streams.{stream_exists}
use Rattle.ats_soundness_law.proofs.ToldTimes.{case_in, keeps_clock, node_clock, sized_in, told_sent}

-- when a frame may have come, by the time that it was told and its eligibility: then or a picosecond before
abbrev pub came_of : (ℕ → ℕ) → ℕ → ℕ → ℕ
came_of shows at eligible = cond (nat_le (shows eligible) at) eligible (eligible - 1)

pub came_is : (shows : ℕ → ℕ) (at eligible : ℕ) → HasTold shows at eligible
    → (shows (came_of shows at eligible) ≤ at)
    × IsTrueEligibility shows (came_of shows at eligible) at eligible
came_is shows at eligible has = by (nat_le (shows eligible) at) refl
  where
    Came : ℕ → Type 0
    Came t = (shows t ≤ at) × IsTrueEligibility shows t at eligible

    by : (b : Bool) → nat_le (shows eligible) at ≡ b → Came (cond b eligible (eligible - 1))
    by true e = (
      leb-true (shows eligible) at e,
      record { arrived = omega arith; shown = has.is.shown; least = λ t h k. h },
    )
    by false e =
        let later : at < shows eligible = leb-false (shows eligible) at e in
        let arrived = has.is.arrived in
        let no_later = has.no_later in
        let differ : has.came ≡ eligible → ⊥ = λ same. (
        let shown = ap shows same in absurd (omega (arith, shown, later, no_later))) in
        let before : has.came < eligible = elim (cases_lt has.came eligible) [
          | inl less ↦ less
          | inr not ↦ absurd (differ (omega (arith, not, arrived)))
        ] in
        let earlier : shows (eligible - 1) ≤ at = elim (cases_lt at (shows (eligible - 1))) [
          | inl over ↦ (
              let least = has.is.least (eligible - 1) (omega (arith, before)) (omega (arith, over)) in
              absurd (omega (arith, least, before)))
          | inr within ↦ within
        ] in (
          earlier,
          record {
            arrived = omega arith;
            shown = has.is.shown;
            least = λ t h k. has.is.least t (omega (arith, before, h)) k;
          },
        )

-- a transmission with its times
abbrev to_told : (shows told : ℕ → ℕ) → Transmission → Told
to_told shows told x = record {
  came = came_of shows (told x.frame) x.eligible;
  told = told x.frame;
  eligible = x.eligible;
  bits = x.bits;
}

frames_are : (shows told : ℕ → ℕ) (xs : List Transmission)
    → map (told_frame told) xs ≡ at_told (map (to_told shows told) xs)
frames_are shows told [] = refl
frames_are shows told (x ∷ xs) = ap (λ (fs : List Frame). told_frame told x ∷ fs) (frames_are shows told xs)

abbrev Tells : (shows told : ℕ → ℕ) → Transmission → Type 0
Tells shows told x = HasTold shows (told x.frame) x.eligible

-- a stream's transmissions at a port, in the order of the times that they were told, conform by these
were_told : (clock : DeclaredClock) (shows told : ℕ → ℕ) (network : DeclaredNetwork) (run : List Travel)
    (port i : ℕ) → KeepsClock clock shows → KeptIn told network run port i
    → All (Tells shows told) (sent_by network run port)
    → (o : InOrderBy (λ (x : Transmission). told x.frame) (sent_of i (sent_by network run port)))
    → WereTold clock shows (sent_with network.topology (sender_at network i) port) (map (to_told shows told) o.order)
were_told clock shows told network run port i keeps kept tells o =
    let sent : List Transmission = sent_by network run port in
    let c : Committed = sent_with network.topology (sender_at network i) port in
    let own : All (Tells shows told) o.order =
    All-permutation (Tells shows told) (sent_of i sent) o.order o.same
    (All-filter (λ (x : Transmission). x.sender == i) (Tells shows told) sent tells) in
    let frames : List Frame = map (told_frame told) o.order in
    record {
      keeps = keeps;
      told = All-map (λ (f : Told). shows f.came ≤ f.told) (to_told shows told) o.order
          (λ k d h. (came_is shows (told (get_or o.order k d).frame) (get_or o.order k d).eligible (own k d h)).0);
      eligible = All-map (λ (f : Told). IsTrueEligibility shows f.came f.told f.eligible) (to_told shows told) o.order
          (λ k d h. (came_is shows (told (get_or o.order k d).frame) (get_or o.order k d).eligible (own k d h)).1);
      conformed = subst (ConformTo c) (frames_are shows told o.order)
          (ats_is_regulator.rule.fewer (declared_with c (sender_at network i)) frames kept.others kept.keeps
          (from_frames frames (order-mapped (λ (f : Frame). f.at) (told_frame told) o.order o.ascends))
          (λ weight. omega (
            arith,
            sum_by-map (told_frame told) weight o.order,
            sum_by-IsPermutation (λ (x : Transmission). weight (told_frame told x)) (sent_of i sent) o.order o.same,
            sum_by-map (told_frame told) weight (sent_of i sent),
            kept.no_more weight,
          )));
    }

-- what counts of a transmission: its bits, where it was eligible since a time and told no later one than another
abbrev amount : (told : ℕ → ℕ) (from last : ℕ) → Transmission → ℕ
amount told from last x = cond (nat_le from x.eligible && nat_le (told x.frame) last) x.bits 0

-- of a stream that is no more than what the port sees gives
counted_in : (network : DeclaredNetwork) (run : List Travel) (port i : ℕ) (net : IsNetwork network)
    (legal : IsLegal network run) → i < length network.streams → uses port (sender_at network i) ≡ true
    → KeptIn (legal.told (port_at network.topology.ports port).from) network run port i
    → (from last eligible : ℕ) → from ≤ eligible
    → last ≤ legal.clocks (port_at network.topology.ports port).from eligible
    → PS_PER_SECOND * sum_by (amount (legal.told (port_at network.topology.ports port).from) from last)
    (sent_of i (sent_by network run port))
    ≤ (committed_at network.topology port (sender_at network i)).rate * (eligible - from)
    + PS_PER_SECOND * (committed_at network.topology port (sender_at network i)).burst_bits
counted_in network run port i net legal h used kept from last eligible le shown =
    let node : ℕ = (port_at network.topology.ports port).from in
    let shows : ℕ → ℕ = legal.clocks node in
    let told : ℕ → ℕ = legal.told node in
    let clock : DeclaredClock = node_clock network.topology node in
    let sent : List Transmission = sent_by network run port in
    let c : Committed = sent_with network.topology (sender_at network i) port in
    let o : InOrderBy (λ (x : Transmission). told x.frame) (sent_of i sent) =
    in_order_by (λ (x : Transmission). told x.frame) (sent_of i sent) in
    let frames : List Told = map (to_told shows told) o.order in
    let counts : Told → ℕ = λ (f : Told). cond (is_counted from last f) f.bits 0 in
    let keep : PS_PER_SECOND * bits_counted frames from last
    ≤ (output_of clock c).rate * (eligible - from) + PS_PER_SECOND * (output_of clock c).burst_bits =
    counted_keep clock shows c frames from last eligible
    (were_told clock shows told network run port i (keeps_clock network run legal node) kept
    (told_sent network run net legal port) o) le shown in
    let Goal : Committed → Type 0 = λ (seen : Committed).
    PS_PER_SECOND * sum_by (amount told from last) (sent_of i sent)
    ≤ seen.rate * (eligible - from) + PS_PER_SECOND * seen.burst_bits in
    subst Goal (output_is network.topology (sender_at network i) port
    (sender_is network net i (stream_exists network i h)) used)
    (omega (
      arith,
      keep,
      sum_by-filter (λ (f : Told). f.bits) (is_counted from last) frames,
      sum_by-map (to_told shows told) counts o.order,
      sum_by-IsPermutation (amount told from last) (sent_of i sent) o.order o.same,
    ))

-- tests that pass where others do count no less
test_le : (a b c : Bool) (n : ℕ) → (b ≡ true → c ≡ true) → cond (a && b) n 0 ≤ cond (a && c) n 0
test_le true true true n h = omega arith
test_le true true false n h = absurd (false≢true (h refl))
test_le true false c n h = omega arith
test_le false b c n h = omega arith

own_test : (own counts : Bool) (n : ℕ) → cond (own && counts) n 0 ≤ cond own (cond counts n 0) 0
own_test true counts n = omega arith
own_test false counts n = omega arith

-- a stream that has the port conforms in true time to what the port sees of it
conforming_in : (network : DeclaredNetwork) (run : List Travel) (port i : ℕ) (net : IsNetwork network)
    (legal : IsLegal network run) → i < length network.streams → uses port (sender_at network i) ≡ true
    → KeptIn (legal.told (port_at network.topology.ports port).from) network run port i
    → ConformsInOrder (committed_at network.topology port (sender_at network i)).rate
    (committed_at network.topology port (sender_at network i)).burst_bits (frames_by i (sent_by network run port))
conforming_in network run port i net legal h used kept =
    let node : ℕ = (port_at network.topology.ports port).from in
    let shows : ℕ → ℕ = legal.clocks node in
    let told : ℕ → ℕ = legal.told node in
    let sent : List Transmission = sent_by network run port in
    let seen : Committed = committed_at network.topology port (sender_at network i) in
    let frames : List Frame = frames_by i sent in
    let o : InOrder frames = in_order frames in
    let clock : KeepsClock (node_clock network.topology node) shows = keeps_clock network run legal node in
    let tells : All (Tells shows told) (sent_of i sent) =
    All-filter (λ (x : Transmission). x.sender == i) (Tells shows told) sent (told_sent network run net legal port) in
    record {
      order = o.order;
      same = o.same;
      conforms = places_from_windows seen.rate seen.burst_bits o.order (record {
        in_order = from_frames o.order o.ascends;
        windows = record {
          within = λ from to le. (
              let last : ℕ = shows to in
              let fewer = sum_by-le-all (λ (x : Transmission). bits_in from to (frame_of x)) (amount told from last)
              (sent_of i sent)
              (λ k d w. (
              let x : Transmission = get_or (sent_of i sent) k d in
              test_le (nat_le from x.eligible) (nat_le x.eligible to) (nat_le (told x.frame) last) x.bits
              (λ inside. (
              let before = clock.in_order x.eligible to (leb-true x.eligible to inside) in
              let shown = (tells k d w).is.shown in
              le-leb (told x.frame) last (omega (arith, before, shown)))))) in
              let keep = counted_in network run port i net legal h used kept from last to le (omega arith) in
              omega (
                arith,
                keep,
                fewer,
                bits_within-sum o.order from to,
                sum_by-IsPermutation (bits_in from to) frames o.order o.same,
                sum_by-map frame_of (bits_in from to) (sent_of i sent),
              ));
        };
      });
    }

-- what is asked of a port by the times that its node's clock told
pub offered_in : (network : DeclaredNetwork) (run : List Travel) (port : ℕ) (net : IsNetwork network)
    (legal : IsLegal network run) → All (IsDeclared network port) (sent_by network run port)
    → ((i : ℕ) → i < length network.streams
    → KeptIn (legal.told (port_at network.topology.ports port).from) network run port i)
    → IsOfferedBy (λ (x : Transmission). legal.told (port_at network.topology.ports port).from x.frame) network port
    (sent_by network run port)
offered_in network run port net legal each kept = record {
  offered = record {
    each = each;
    streams = λ i h.
        elim (cases_Bool (uses port (sender_at network i))) as (λ _. ConformsInOrder (seen i).rate (seen i).burst_bits
        (frames_by i sent)) [
          | inl used ↦ conforming_in network run port i net legal h used (kept i h)
          | inr unused ↦ subst (ConformsInOrder (seen i).rate (seen i).burst_bits)
              (sym (ap (λ (xs : List Transmission). map frame_of xs) (none_sent network port i sent each unused)))
              (none_conforms (seen i).rate (seen i).burst_bits)
        ];
  };
  in_order = λ k d h j e g class earlier. (
      let x : Transmission = get_or sent k d in
      let y : Transmission = get_or sent j e in
      let hx : HasTold shows (told x.frame) x.eligible = tells k d h in
      let hy : HasTold shows (told y.frame) y.eligible = tells j e g in
      order_kept (node_clock network.topology node) shows hx.came (told x.frame) x.eligible hy.came (told y.frame)
      y.eligible (keeps_clock network run legal node) hx.no_later hx.is hy.is earlier);
  counted = λ i from h k d w class le. (
      let x : Transmission = get_or sent k d in
      let own = fewer i from x in
      elim (cases_Bool (uses port (sender_at network i))) as (λ _.
      PS_PER_SECOND * port_law.bits_counted (λ (y : Transmission). told y.frame) i from x sent
      ≤ (seen i).rate * (x.eligible - from) + PS_PER_SECOND * (seen i).burst_bits) [
        | inl used ↦ (
            let keep = counted_in network run port i net legal h used (kept i h) from (told x.frame) x.eligible le
            (tells k d w).is.shown in
            omega (arith, keep, own))
        | inr unused ↦ (
            let none : sum_by (amount told from (told x.frame)) (sent_of i sent) ≡ 0 =
            ap (λ (xs : List Transmission). sum_by (amount told from (told x.frame)) xs)
            (none_sent network port i sent each unused) in
            omega (arith, none, own))
      ]);
}
  where
    node : ℕ
    node = (port_at network.topology.ports port).from

    shows : ℕ → ℕ
    shows = legal.clocks node

    told : ℕ → ℕ
    told = legal.told node

    sent : List Transmission
    sent = sent_by network run port

    seen : ℕ → Committed
    seen i = committed_at network.topology port (sender_at network i)

    tells : All (Tells shows told) sent
    tells = told_sent network run net legal port

    fewer : (i from : ℕ) (x : Transmission)
        → port_law.bits_counted (λ (y : Transmission). told y.frame) i from x sent
        ≤ sum_by (amount told from (told x.frame)) (sent_of i sent)
    fewer i from x = omega (
      arith,
      sum_by-filter (λ (y : Transmission). y.bits) (port_law.is_counted (λ (y : Transmission). told y.frame) i from x)
          sent,
      sum_by-le-all (λ (y : Transmission).
          cond (port_law.is_counted (λ (z : Transmission). told z.frame) i from x y) y.bits 0)
          (λ (y : Transmission). cond (y.sender == i) (amount told from (told x.frame) y) 0) sent
          (λ n e w. (let y : Transmission = get_or sent n e in
          own_test (y.sender == i) (nat_le from y.eligible && nat_le (told y.frame) (told x.frame)) y.bits)),
      sum_by-filter (amount told from (told x.frame)) (λ (y : Transmission). y.sender == i) sent,
    )

-- sizes are not of the clock
read_sizes : (network : DeclaredNetwork) (node : ℕ) (shows : ℕ → ℕ) (releases : List Release)
    → All (λ (r : Release). r.sender < length (senders_of network) → talker_of network r.sender ≡ node
    → IsDeclaredSize network r) (read_by shows releases)
    → All (λ (r : Release). r.sender < length (senders_of network) → talker_of network r.sender ≡ node
    → IsDeclaredSize network r) releases
read_sizes network node shows releases sizes k d h =
    let read : Release → Release = λ (r : Release). record r { at = record { 0 = shows r.at.0 } } in
    let Sized : Release → Type 0 = λ (r : Release). r.sender < length (senders_of network)
    → talker_of network r.sender ≡ node → IsDeclaredSize network r in
    subst Sized (get_or-map read releases k d d h) (sizes k d (omega (arith, h, length-map releases read)))

pub port_is_offered : PortIsOffered
port_is_offered network run port net legal within keeps =
    let from : ℕ = (port_at network.topology.ports port).from in
    let c : Case network run = case_in net legal in
    offered_in network run port net legal
    (at_port (IsDeclared network port) network run port
    (run_hops_by (Paced network from) (IsSized network) (DeclaredAt network port) network 0 run
    (journey_declared network run port c)
    (paced network run from c (read_sizes network from (legal.clocks from) (releases_of run) keeps.sizes))
    (sized_in network run net legal)))
    (λ i h. kept_in network run port i net legal keeps h)
