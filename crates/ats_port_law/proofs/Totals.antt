use Rattle.std.proofs.Common.{◌≡◌, ℕ, ◌+◌, ◌*◌, ◌<◌, ◌≤◌, Bool, true, false, cond, List, [], ◌∷◌, length, get_or, map}
use Rattle.std.proofs.Common.{filter, sum_by, All, ap, ◌∙◌, arith}
use Rattle.std.specs.Prelude.{fold, min, max, ◌||◌}
use Rattle.std.proofs.lemmas.List.Elements.{All-nil, All-cons, All-head, All-tail}
use Rattle.std.proofs.lemmas.List.Sums.{get_or-le-sum_by}
use Rattle.ats_facts.proofs.Lists.{All-from_filter}
use Rattle.ats_topology.specs.Topology.{DeclaredTopology}
use Rattle.ats_network.specs.Sender.{Sender}
use Rattle.ats_network.specs.Class.{PortSender, seen_at}
use Rattle.ats_certificate.specs.PortSums.{uses, is_above, is_of, sum_where, greatest_where, least_of, least_where}
use Rattle.ats_certificate.specs.PortSums.{senders_at}
use Rattle.ats_port_law.proofs.Sums.{sum_by-filter, sum_by-map, sum_by-three}

-- what holds of each image holds of the images
All-from_map : {X Y : Type 0} (f : X → Y) (P : Y → Type 0) (xs : List X) → All P (map f xs)
    → All (λ (x : X). P (f x)) xs
All-from_map {X} f P [] all = All-nil (λ (x : X). P (f x))
All-from_map {X} f P (x ∷ xs) all =
    All-cons (λ (x : X). P (f x)) x xs (All-head P (f x) (map f xs) all)
    (All-from_map f P xs (All-tail P (f x) (map f xs) all))

-- so of the senders that use a port and pass a test
pub at_sender_where : (topology : DeclaredTopology) (port : ℕ) (test : PortSender → Bool) (P : PortSender → Type 0)
    (senders : List Sender)
    → All P (filter test (senders_at topology port senders))
    → (i : ℕ) (d : Sender) → i < length senders → uses port (get_or senders i d) ≡ true
    → test (seen_at topology port (get_or senders i d)) ≡ true → P (seen_at topology port (get_or senders i d))
at_sender_where topology port test P senders all =
    All-from_filter (uses port)
    (λ (s : Sender). test (seen_at topology port s) ≡ true → P (seen_at topology port s)) senders
    (All-from_map (seen_at topology port) (λ (s : PortSender). test s ≡ true → P s) (filter (uses port) senders)
    (All-from_filter test P (senders_at topology port senders) all))

-- the greatest of numbers and a start is at least the start and each
greatest_bounds : (amount : PortSender → ℕ) (start : ℕ) (senders : List PortSender)
    → (start ≤ fold max start (map amount senders))
    × All (λ (s : PortSender). amount s ≤ fold max start (map amount senders)) senders
greatest_bounds amount start [] = (omega arith, All-nil (λ (s : PortSender). amount s ≤ start))
greatest_bounds amount start (s ∷ ss) =
    let rest = greatest_bounds amount (max start (amount s)) ss in (
      omega (arith, rest.0),
      All-cons (λ (t : PortSender). amount t ≤ fold max start (map amount (s ∷ ss))) s ss
          (omega (arith, rest.0)) rest.1,
    )

-- the least of numbers and a start is at most the start and each
least_bounds : (amount : PortSender → ℕ) (start : ℕ) (senders : List PortSender)
    → (fold min start (map amount senders) ≤ start)
    × All (λ (s : PortSender). fold min start (map amount senders) ≤ amount s) senders
least_bounds amount start [] = (omega arith, All-nil (λ (s : PortSender). start ≤ amount s))
least_bounds amount start (s ∷ ss) =
    let rest = least_bounds amount (min start (amount s)) ss in (
      omega (arith, rest.0),
      All-cons (λ (t : PortSender). fold min start (map amount (s ∷ ss)) ≤ amount t) s ss
          (omega (arith, rest.0)) rest.1,
    )

least_of_each : (amount : PortSender → ℕ) (senders : List PortSender)
    → All (λ (s : PortSender). least_of (map amount senders) ≤ amount s) senders
least_of_each amount [] = All-nil (λ (s : PortSender). 0 ≤ amount s)
least_of_each amount (s ∷ ss) =
    let bounds = least_bounds amount (amount s) ss in
    All-cons (λ (t : PortSender). fold min (amount s) (map amount ss) ≤ amount t) s ss bounds.0 bounds.1

-- a sender that is counted has at most the greatest amount, at least the least one, and at most the sum
pub greatest_reaches : (topology : DeclaredTopology) (port : ℕ) (test : PortSender → Bool) (amount : PortSender → ℕ)
    (senders : List Sender) (i : ℕ) (d : Sender) → i < length senders → uses port (get_or senders i d) ≡ true
    → test (seen_at topology port (get_or senders i d)) ≡ true
    → amount (seen_at topology port (get_or senders i d))
    ≤ greatest_where test amount (senders_at topology port senders)
greatest_reaches topology port test amount senders =
    at_sender_where topology port test
    (λ (s : PortSender). amount s ≤ greatest_where test amount (senders_at topology port senders)) senders
    (greatest_bounds amount 0 (filter test (senders_at topology port senders))).1

pub least_reaches : (topology : DeclaredTopology) (port : ℕ) (test : PortSender → Bool) (amount : PortSender → ℕ)
    (senders : List Sender) (i : ℕ) (d : Sender) → i < length senders → uses port (get_or senders i d) ≡ true
    → test (seen_at topology port (get_or senders i d)) ≡ true
    → least_where test amount (senders_at topology port senders) ≤ amount (seen_at topology port (get_or senders i d))
least_reaches topology port test amount senders =
    at_sender_where topology port test
    (λ (s : PortSender). least_where test amount (senders_at topology port senders) ≤ amount s) senders
    (least_of_each amount (filter test (senders_at topology port senders)))

pub sum_reaches : (topology : DeclaredTopology) (port : ℕ) (test : PortSender → Bool) (amount : PortSender → ℕ)
    (senders : List Sender) (i : ℕ) (d : Sender) → i < length senders → uses port (get_or senders i d) ≡ true
    → test (seen_at topology port (get_or senders i d)) ≡ true
    → amount (seen_at topology port (get_or senders i d)) ≤ sum_where test amount (senders_at topology port senders)
sum_reaches topology port test amount senders =
    at_sender_where topology port test
    (λ (s : PortSender). amount s ≤ sum_where test amount (senders_at topology port senders)) senders
    (λ i d h. get_or-le-sum_by amount (filter test (senders_at topology port senders)) i d h)

-- what a sender, as a port sees it, may add in two stretches of time: one of the senders above the class, one of those
-- of the class
abbrev pub share_seen : ℕ → ℕ → ℕ → ℕ → PortSender → ℕ
share_seen m class above of s =
    cond (is_above class s) (s.rate * above + m * s.burst_bits)
    (cond (is_of class s) (s.rate * of + m * s.burst_bits) 0)

-- what a sender may add at a port: nothing where it does not use it
abbrev pub share : ℕ → DeclaredTopology → ℕ → ℕ → ℕ → ℕ → Sender → ℕ
share m topology port class above of s = cond (uses port s) (share_seen m class above of (seen_at topology port s)) 0

share_le : (used is_above is_of : Bool) (m rate above of burst : ℕ)
    → cond used (cond is_above (rate * above + m * burst) (cond is_of (rate * of + m * burst) 0)) 0
    ≤ cond used (cond is_above rate 0) 0 * above + cond used (cond is_of rate 0) 0 * of
    + m * cond used (cond (is_above || is_of) burst 0) 0
share_le true true true m rate above of burst = omega arith
share_le true true false m rate above of burst = omega arith
share_le true false true m rate above of burst = omega arith
share_le true false false m rate above of burst = omega arith
share_le false a o m rate above of burst = omega arith

-- a sum over the senders that use a port and pass a test, as one over all senders
sum_where-all : (topology : DeclaredTopology) (port : ℕ) (test : PortSender → Bool) (amount : PortSender → ℕ)
    (senders : List Sender) → sum_where test amount (senders_at topology port senders)
    ≡ sum_by (λ (s : Sender).
    cond (uses port s) (cond (test (seen_at topology port s)) (amount (seen_at topology port s)) 0) 0) senders
sum_where-all topology port test amount senders =
    let counted : PortSender → ℕ = λ (s : PortSender). cond (test s) (amount s) 0 in
    sum_by-filter amount test (senders_at topology port senders)
    ∙ sum_by-map counted (seen_at topology port) (filter (uses port) senders)
    ∙ sum_by-filter (λ (s : Sender). counted (seen_at topology port s)) (uses port) senders

-- all shares together are at most the rates, each for its stretch, and the bursts
pub shares_total : (m : ℕ) (topology : DeclaredTopology) (port class above of : ℕ) (senders : List Sender)
    → sum_by (share m topology port class above of) senders
    ≤ sum_where (is_above class) (λ (s : PortSender). s.rate) (senders_at topology port senders) * above
    + sum_where (is_of class) (λ (s : PortSender). s.rate) (senders_at topology port senders) * of
    + m * sum_where (λ (s : PortSender). is_above class s || is_of class s) (λ (s : PortSender). s.burst_bits)
    (senders_at topology port senders)
shares_total m topology port class above of senders =
    let rates_above = sum_where-all topology port (is_above class) (λ (s : PortSender). s.rate) senders in
    let rates_of = sum_where-all topology port (is_of class) (λ (s : PortSender). s.rate) senders in
    let bursts = sum_where-all topology port (λ (s : PortSender). is_above class s || is_of class s)
    (λ (s : PortSender). s.burst_bits) senders in
    let seen : Sender → PortSender = seen_at topology port in
    let is_higher : Sender → Bool = λ (s : Sender). is_above class (seen s) in
    let is_equal : Sender → Bool = λ (s : Sender). is_of class (seen s) in
    let total = sum_by-three
    (λ (s : Sender). cond (uses port s) (cond (is_higher s) (seen s).rate 0) 0)
    (λ (s : Sender). cond (uses port s) (cond (is_equal s) (seen s).rate 0) 0)
    (λ (s : Sender). cond (uses port s) (cond (is_higher s || is_equal s) (seen s).burst_bits 0) 0)
    (share m topology port class above of) above of m senders
    (λ (s : Sender).
    share_le (uses port s) (is_higher s) (is_equal s) m (seen s).rate above of (seen s).burst_bits) in
    omega (
      arith,
      total,
      ap (λ (n : ℕ). n * above) rates_above,
      ap (λ (n : ℕ). n * of) rates_of,
      ap (λ (n : ℕ). m * n) bursts,
    )
