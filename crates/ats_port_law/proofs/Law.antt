use Rattle.std.proofs.Common.{◌≡◌, ℕ, ◌+◌, ◌-◌, ◌*◌, ◌<◌, ◌≤◌, List, length, get_or, All, sym, ◌∙◌, inl, inr, arith}
use Rattle.std.proofs.Math.Nat.{mul-le-mul_left, mul-le-mul_right}
use Rattle.std.proofs.lemmas.Bool.{cases_Bool, cases_lt, cond-false, lt-ltb, eq-eqb}
use Rattle.std.proofs.lemmas.List.Elements.{All-from_get_or}
use Rattle.std.proofs.lemmas.List.Sums.{get_or-le-sum_by}
use Rattle.ats_num.specs.declared.time.TheConstants.{PS_PER_SECOND}
use Rattle.ats_clock.specs.declared.committed.Committed.{Committed}
use Rattle.ats_topology.specs.Port.{port_at}
use Rattle.ats_topology.proofs.Rules.{ports_are_lawful}
use Rattle.ats_network.specs.Sender.{Sender}
use Rattle.ats_network.specs.Class.{PortSender, class_at}
use Rattle.ats_network.specs.Rates.{committed_at}
use Rattle.ats_network.specs.Network.{DeclaredNetwork, IsNetwork, senders_of}
use Rattle.ats_network.specs.Senders.{sender_at, no_sender}
use Rattle.ats_certificate.specs.PortSums.{is_above, is_of, is_below, longest, shortest, sum_where, senders_at}
use Rattle.ats_certificate.specs.Certificate.{Covers}
use Rattle.ats_certificate.specs.declared.row.Row.{Row}
use Rattle.ats_port_rule.specs.Transmission.{Transmission}
use Rattle.ats_port_rule.specs.PortRule.{KeepsPortRuleBy}
use Rattle.ats_group_law.proofs.WindowBits.{bits_in-inside}
use Rattle.ats_port_law.specs.PortLaw.{frame_of, IsOfferedBy, IsWithinBound, PortLaw, PortLawBy}
use Rattle.ats_port_law.proofs.Numbers.{Walk, ends_within}
use Rattle.ats_port_law.proofs.Pairs.{TakesTime, told_no_later}
use Rattle.ats_port_law.proofs.Sums.{sum_by-le-all}
use Rattle.ats_port_law.proofs.Used.{used_place}
use Rattle.ats_port_law.proofs.Walk.{bits_in_walk, walk_bits, is_in_walk, in_walk, in_walk-parts, Head, Walked, walk}
use Rattle.ats_port_law.proofs.Window.{eligible_bits}
use Rattle.ats_port_law.proofs.Totals.{shares_total, greatest_reaches, least_reaches, sum_reaches}
use Rattle.ats_port_law.proofs.Senders.{has_rate, counted, counted-above, counted-of, all_shares, told_bits}
use Rattle.ats_port_law.proofs.Senders.{told_bits-all}
use Rattle.ats_port_law.proofs.ByEligibility.{by_eligibility}

-- a port with a class that a row covers, which keeps the port rule with what it may be asked to send
record Case (told : Transmission → ℕ) (network : DeclaredNetwork) (row : Row) (sent : List Transmission) : Type 0 where
  net : IsNetwork network
  port : row.port < length network.topology.ports
  some : 1 ≤ row.class
  covers : Covers network row
  rule : KeepsPortRuleBy told (port_at network.topology.ports row.port).ps_per_bit sent
  offered : IsOfferedBy told network row.port sent

-- each transmission takes time
takes_time : {told : Transmission → ℕ} (network : DeclaredNetwork) (row : Row) (sent : List Transmission)
    → Case told network row sent
    → TakesTime (port_at network.topology.ports row.port).ps_per_bit sent
takes_time network row sent c k d h =
    let ps : ℕ = (port_at network.topology.ports row.port).ps_per_bit in
    let x : Transmission = get_or sent k d in
    let rate : 10 ≤ ps = ((ports_are_lawful network.topology c.net.topology).each row.port _ c.port).rate.least in
    let bits : 1 ≤ x.bits = omega (arith, (c.offered.offered.each k d h).least) in
    let product : 10 * x.bits ≤ ps * x.bits = mul-le-mul_right x.bits rate in
    omega (arith, product, bits)

-- a lower frame is no longer than the row says
lower_frames : {told : Transmission → ℕ} (network : DeclaredNetwork) (row : Row) (sent : List Transmission)
    → Case told network row sent
    → All (λ (y : Transmission). y.class < row.class → y.bits ≤ row.lower) sent
lower_frames network row sent c k d h below =
    let y : Transmission = get_or sent k d in
    let declared = c.offered.offered.each k d h in
    let reaches = greatest_reaches network.topology row.port (is_below row.class) longest (senders_of network)
    y.sender no_sender declared.exists declared.uses
    (lt-ltb (class_at (sender_at network y.sender) row.port) row.class (omega (arith, declared.class, below))) in
    omega (arith, declared.most, reaches, c.covers.sums.lower)

-- a frame of the class is no shorter than the row says
least_frame : {told : Transmission → ℕ} (network : DeclaredNetwork) (row : Row) (sent : List Transmission)
    → Case told network row sent
    → (k : ℕ) (d : Transmission) → k < length sent → (get_or sent k d).class ≡ row.class
    → row.least ≤ (get_or sent k d).bits
least_frame network row sent c k d h class =
    let x : Transmission = get_or sent k d in
    let declared = c.offered.offered.each k d h in
    let reaches = least_reaches network.topology row.port (is_of row.class) shortest (senders_of network)
    x.sender no_sender declared.exists declared.uses
    (eq-eqb (class_at (sender_at network x.sender) row.port) row.class (sym declared.class ∙ class)) in
    omega (arith, declared.least, reaches, c.covers.sums.least)

-- where there is one, the class has a rate
equal_rate : {told : Transmission → ℕ} (network : DeclaredNetwork) (row : Row) (sent : List Transmission)
    → Case told network row sent
    → (k : ℕ) (d : Transmission) → k < length sent → (get_or sent k d).class ≡ row.class → 1 ≤ row.equal
equal_rate network row sent c k d h class =
    let ps : ℕ = (port_at network.topology.ports row.port).ps_per_bit in
    let x : Transmission = get_or sent k d in
    let s : Sender = sender_at network x.sender in
    let declared = c.offered.offered.each k d h in
    let ranked : class_at s row.port ≡ row.class = sym declared.class ∙ class in
    let senders : List PortSender = senders_at network.topology row.port (senders_of network) in
    let rates : ℕ = sum_where (is_of row.class) (λ (s : PortSender). s.rate) senders in
    let seen : Committed = committed_at network.topology row.port s in
    let reaches : seen.rate ≤ rates =
    sum_reaches network.topology row.port (is_of row.class) (λ (s : PortSender). s.rate) (senders_of network)
    x.sender no_sender declared.exists declared.uses (eq-eqb (class_at s row.port) row.class ranked) in
    let rate : 1 ≤ seen.rate =
    has_rate network row.port x.sender c.net declared.exists (omega (arith, ranked, c.some)) in
    let fast : 10 ≤ ps = ((ports_are_lawful network.topology c.net.topology).each row.port _ c.port).rate.least in
    let product : 10 * rates ≤ ps * rates = mul-le-mul_right rates fast in
    let equal : row.equal ≡ ps * rates = c.covers.sums.equal in
    omega (arith, product, equal, reaches, rate)

-- the walk begins at the frame itself
first_head : {told : Transmission → ℕ} (network : DeclaredNetwork) (row : Row) (sent : List Transmission)
    → Case told network row sent
    → (k : ℕ) (d : Transmission) → k < length sent → (get_or sent k d).class ≡ row.class
    → Head (port_at network.topology.ports row.port).ps_per_bit row.class sent d (get_or sent k d)
    (get_or sent k d).start
first_head network row sent c k d h class =
    let ps : ℕ = (port_at network.topology.ports row.port).ps_per_bit in
    let x : Transmission = get_or sent k d in
    let takes : x.end ≡ x.start + ps * x.bits = c.rule.takes k d h in
    let itself = get_or-le-sum_by (bits_in_walk row.class x.start x.start) sent k d h in
    let own = in_walk row.class x.start x.start x (omega (arith, class)) (omega arith) (omega arith) in
    let bits : x.bits ≤ walk_bits row.class x.start x.start sent = omega (arith, itself, own) in
    record {
      place = k;
      within = h;
      limited = omega arith;
      ranked = omega (arith, class);
      before = omega arith;
      fills = omega (arith, takes, mul-le-mul_left ps bits);
    }

-- the bits of a walk became eligible since its moment: those of the class by the time of the frame, the others by its
-- start
walk_counts : {told : Transmission → ℕ} (network : DeclaredNetwork) (row : Row) (sent : List Transmission)
    → Case told network row sent
    → (k : ℕ) (d : Transmission) → k < length sent → (get_or sent k d).class ≡ row.class
    → (w : Walked (port_at network.topology.ports row.port).ps_per_bit row.class row.lower sent (get_or sent k d))
    → (j : ℕ) → j < length sent
    → bits_in_walk row.class w.first (get_or sent k d).start (get_or sent j d)
    ≤ counted told row.class w.since (get_or sent k d) (get_or sent k d).start (get_or sent j d)
walk_counts {told} network row sent c k d h class w j hj =
    let ps : ℕ = (port_at network.topology.ports row.port).ps_per_bit in
    let x : Transmission = get_or sent k d in
    let y : Transmission = get_or sent j d in
    let Goal : Type 0 = bits_in_walk row.class w.first x.start y ≤ counted told row.class w.since x x.start y in
    elim (cases_Bool (is_in_walk row.class w.first x.start y)) as (λ _. Goal) [
      | inr outside ↦ omega (arith, cond-false (is_in_walk row.class w.first x.start y) y.bits 0 outside)
      | inl inside ↦ (
          let part = in_walk-parts row.class w.first x.start y inside in
          let since : w.since ≤ y.eligible = w.late j d hj part.ranked part.after in
          let bits : bits_in_walk row.class w.first x.start y ≡ y.bits =
          in_walk row.class w.first x.start y part.ranked part.after part.before in
          elim (cases_lt row.class y.class) as (λ _. Goal) [
            | inl above ↦ (
                let waits : y.eligible ≤ y.start = c.rule.waits j d hj in
                let counts : counted told row.class w.since x x.start y ≡ eligible_bits w.since x.start y =
                counted-above told row.class w.since x x.start y above in
                let all : eligible_bits w.since x.start y ≡ y.bits =
                bits_in-inside w.since x.start (frame_of y) since (omega (arith, waits, part.before)) in
                omega (arith, bits, counts, all))
            | inr not_above ↦ (
                let same : y.class ≡ row.class = omega (arith, part.ranked, not_above) in
                let no_later : told y ≤ told x = told_no_later ps sent c.rule (takes_time network row sent c)
                c.offered.in_order j k d hj h (same ∙ sym class) part.before in
                let counts : counted told row.class w.since x x.start y ≡ told_bits told w.since x y =
                counted-of told row.class w.since x x.start y same in
                let all : told_bits told w.since x y ≡ y.bits = told_bits-all told w.since x y since no_later in
                omega (arith, bits, counts, all))
          ])
    ]

-- what the walk comes to, in numbers
walk_numbers : {told : Transmission → ℕ} (network : DeclaredNetwork) (row : Row) (sent : List Transmission) →
    (c : Case told network row sent)
    → (k : ℕ) (d : Transmission) → k < length sent → (get_or sent k d).class ≡ row.class
    → (w : Walked (port_at network.topology.ports row.port).ps_per_bit row.class row.lower sent (get_or sent k d))
    → Walk PS_PER_SECOND (port_at network.topology.ports row.port).ps_per_bit w.since (get_or sent k d).eligible
    (get_or sent k d).start (get_or sent k d).end
    (walk_bits row.class w.first (get_or sent k d).start sent)
    (sum_where (is_above row.class) (λ (s : PortSender). s.rate)
    (senders_at network.topology row.port (senders_of network)))
    (sum_where (is_of row.class) (λ (s : PortSender). s.rate)
    (senders_at network.topology row.port (senders_of network)))
    (get_or sent k d).bits row.higher row.equal row.bursts row.lower row.least row.wait
walk_numbers {told} network row sent c k d h class w =
    let x : Transmission = get_or sent k d in
    let eligible : w.since ≤ x.eligible = w.late k d h (omega (arith, class)) w.reaches in
    let waits : x.eligible ≤ x.start = c.rule.waits k d h in
    let counted_bits : Transmission → ℕ = counted told row.class w.since x x.start in
    let counts = sum_by-le-all (bits_in_walk row.class w.first x.start) counted_bits sent
    (All-from_get_or (λ (y : Transmission). bits_in_walk row.class w.first x.start y ≤ counted_bits y) sent d
    (walk_counts network row sent c k d h class w)) in
    let shares = all_shares told network row.port row.class w.since x.start sent c.offered c.some k d h class eligible
    (omega (arith, eligible, waits)) in
    let total =
    shares_total PS_PER_SECOND network.topology row.port row.class (x.start - w.since) (x.eligible - w.since)
    (senders_of network) in
    record {
      higher_is = c.covers.sums.higher;
      equal_is = c.covers.sums.equal;
      some = equal_rate network row sent c k d h class;
      load = c.covers.load;
      enough = c.covers.wait;
      eligible = eligible;
      waits = waits;
      takes = c.rule.takes k d h;
      shortest = least_frame network row sent c k d h class;
      fills = w.fills;
      within = omega (arith, counts, shares, total, c.covers.sums.bursts);
    }

law_at : {told : Transmission → ℕ} (network : DeclaredNetwork) (row : Row) (sent : List Transmission)
    → Case told network row sent
    → All (IsWithinBound network row) sent
law_at network row sent c k d h class =
    let ps : ℕ = (port_at network.topology.ports row.port).ps_per_bit in
    let x : Transmission = get_or sent k d in
    let head = first_head network row sent c k d h class in
    let w : Walked ps row.class row.lower sent x = walk ps row.class row.lower sent d x c.rule
    (takes_time network row sent c) (lower_frames network row sent c) x.start head in
    let within : x.end ≤ x.eligible + (row.wait + ps * row.least) =
    ends_within _ _ _ _ _ _ _ _ _ _ _ _ _ _ _ _ (walk_numbers network row sent c k d h class w) in
    omega (arith, within, c.covers.bound)

pub law_by : PortLawBy
law_by told network row sent net used covers rule offered =
    let place = used_place network row.port row.class net used in
    law_at network row sent (record {
      net = net;
      port = place.within;
      some = place.ranked;
      covers = covers;
      rule = rule;
      offered = offered;
    })

pub law : PortLaw
law network row sent net used covers rule offered =
    law_by (λ (x : Transmission). x.eligible) network row sent net used covers rule
    (by_eligibility network row.port sent offered)
