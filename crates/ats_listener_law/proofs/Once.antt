-- A sender is counted at a port once, and a stream's first sum is that of its trunk.
use Rattle.std.proofs.Common.{◌≡◌, ℕ, suc, ◌+◌, ◌<◌, Bool, true, false, ◌||◌, List, [], ◌∷◌, length}
use Rattle.std.proofs.Common.{map, drop, filter, cond, get_or, refl, sym, ap, ◌∙◌, arith}
use Rattle.std.specs.Prelude.{Contains, ◌==◌}
use Rattle.std.specs.List.{list_any, sum_by}
use Rattle.std.proofs.lemmas.Bool.{eq-eqb, eqb-true, true≢false}
use Rattle.std.proofs.lemmas.List.{length-map}
use Rattle.std.proofs.lemmas.List.Folds.{list_any_at}
use Rattle.std.proofs.lemmas.List.Sums.{length-filter, sum_by-cons}
use Rattle.ats_streams.specs.Branches.{leg_at, routes_of}
use Rattle.ats_streams.specs.Stream.{DeclaredStream}
use Rattle.ats_streams.proofs.BranchLemmas.{routes-length}
use Rattle.ats_network.specs.Class.{PortSender, seen_at}
use Rattle.ats_network.specs.Sender.{Sender, stream_sender}
use Rattle.ats_certificate.specs.Certificate.{bound_on}
use Rattle.ats_certificate.specs.PortSums.{uses}
use Rattle.ats_listener_law.specs.Once.{EachIsSeenOnce, FirstSumIsTheTrunks, RatesAreSeenOnce, UsesItsPorts}
use Rattle.ats_listener_law.proofs.Turns.{first_route}

-- a number that is found is in the list
found : (port : ℕ) (ports : List ℕ) → list_any (λ p. p == port) ports ≡ true → Contains ports port
found port [] h = absurd (true≢false (sym h))
found port (p ∷ ports) h = by (p == port) refl h (λ rest. found port ports rest)
  where
    by : (b : Bool) → (p == port) ≡ b → (b || list_any (λ q. q == port) ports) ≡ true
        → (list_any (λ q. q == port) ports ≡ true → Contains ports port) → Contains (p ∷ ports) port
    by true e h more = (0, omega arith, eqb-true p port e)
    by false e h more =
        let further : Contains ports port = more h in
        (suc further.0, (let within : further.0 < length ports = further.1 in omega (arith, within)), further.2)

pub uses_its_ports : UsesItsPorts
uses_its_ports port sender = (found port sender.ports, λ at. used at)
  where
    used : Contains sender.ports port → uses port sender ≡ true
    used at =
        list_any_at (λ p. p == port) sender.ports at.0 port at.1 (eq-eqb (get_or sender.ports at.0 port) port at.2)

pub each_is_seen_once : EachIsSeenOnce
each_is_seen_once topology port senders =
    length-map (filter (uses port) senders) (seen_at topology port) ∙ length-filter (uses port) senders

-- the rates that are seen of those that pass are summed up, and of the others nothing
rates_of : (seen : Sender → PortSender) (test : Sender → Bool) (streams : List DeclaredStream)
    → sum_by (λ (s : PortSender). s.rate) (map seen (filter test (map stream_sender streams)))
    ≡ sum_by (λ (s : DeclaredStream). cond (test (stream_sender s)) (seen (stream_sender s)).rate 0) streams
rates_of seen test [] = refl
rates_of seen test (s ∷ streams) =
    by (test (stream_sender s)) (rates_of seen test streams) ∙ sym (sum_by-cons amount s streams)
  where
    amount : DeclaredStream → ℕ
    amount t = cond (test (stream_sender t)) (seen (stream_sender t)).rate 0

    rest : List Sender
    rest = filter test (map stream_sender streams)

    by : (b : Bool) → sum_by (λ (t : PortSender). t.rate) (map seen rest) ≡ sum_by amount streams
        → sum_by (λ (t : PortSender). t.rate) (map seen (cond b (stream_sender s ∷ rest) rest))
        ≡ cond b (seen (stream_sender s)).rate 0 + sum_by amount streams
    by true so_far =
        sum_by-cons (λ (t : PortSender). t.rate) (seen (stream_sender s)) (map seen rest)
        ∙ ap (λ (n : ℕ). (seen (stream_sender s)).rate + n) so_far
    by false so_far = so_far ∙ (omega arith)

pub rates_are_seen_once : RatesAreSeenOnce
rates_are_seen_once network port = rates_of (seen_at network.topology port) (uses port) network.streams

-- a list that is not empty is its first element and the rest
first_and_rest : (lists : List (List ℕ)) (n : ℕ) → length lists ≡ suc n → lists ≡ leg_at lists 0 ∷ drop 1 lists
first_and_rest [] n some = absurd (omega (arith, some))
first_and_rest (l ∷ lists) n some = refl

pub first_sum_is_the_trunks : FirstSumIsTheTrunks
first_sum_is_the_trunks rows stream =
    let routes : List (List ℕ) = routes_of stream.ports stream.branches in
    ap (map (bound_on rows stream))
    (first_and_rest routes (length stream.branches) (routes-length stream.ports stream.branches))
    ∙ ap (λ (route : List ℕ). bound_on rows stream route ∷ map (bound_on rows stream) (drop 1 routes))
    (first_route stream.ports stream.branches)
