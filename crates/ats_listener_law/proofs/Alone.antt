-- Of a stream without branches all is told as of one path.
use Rattle.std.proofs.Common.{◌≡◌, ℕ, zero, suc, ◌+◌, List, [], ◌∷◌, ◌++◌, map, Option, Some, None}
use Rattle.std.proofs.Common.{Bool, true, false, cond}
use Rattle.std.proofs.Common.{refl, sym, ap, ◌∙◌, arith}
use Rattle.std.specs.Prelude.{◌↔◌}
use Rattle.std.specs.List.{All, flat_map, count_by, find}
use Rattle.std.specs.Option.{option_map, option_or}
use Rattle.std.proofs.lemmas.List.Concat.{flat_map-cons}
use Rattle.std.proofs.lemmas.List.Elements.{All-head, All-tail}
use Rattle.ats_facts.proofs.Lists.{count_by-cons}
use Rattle.ats_streams.specs.Branches.{routes_of}
use Rattle.ats_streams.specs.Stream.{DeclaredStream}
use Rattle.ats_streams.specs.declared.branch.Branch.{Branch}
use Rattle.ats_network.specs.Class.{before_along, before_on}
use Rattle.ats_network.specs.Listeners.{Listener}
use Rattle.ats_network.specs.Network.{DeclaredNetwork}
use Rattle.ats_tally.proofs.ListenerLemmas.{listeners_alone}
use Rattle.ats_explain.specs.Margins.{StreamListener, all_listeners, is_late, is_tightest, margin_of}
use Rattle.ats_explain.specs.Margins.{margin_on, margins_of, with_listeners}
use Rattle.ats_explain.specs.Totals.{tightest_with}
use Rattle.ats_explain.specs.declared.margin.Margin.{Margin}
use Rattle.ats_checker.specs.InTime.{ArrivesInTime, ArrivesInTimeOn}
use Rattle.ats_listener_law.specs.OneListener.{OneArrivalIsInTime, OneListenerHasAllPorts, OneMarginForEach}
use Rattle.ats_listener_law.specs.OneListener.{OnePathComesTo}

pub one_listener_has_all_ports : OneListenerHasAllPorts
one_listener_has_all_ports topology stream alone = listeners_alone topology stream alone

or_none : {X : Type 0} (o : Option X) → option_or o None ≡ o
or_none None = refl
or_none (Some x) = refl

pub one_path_comes_to : OnePathComesTo
one_path_comes_to sender port alone =
    ap (λ (branches : List Branch). before_on port (routes_of sender.ports branches)) alone
    ∙ or_none (before_along port sender.ports)

pub one_arrival_is_in_time : OneArrivalIsInTime
one_arrival_is_in_time rows stream j alone = by stream.branches alone
  where
    at : List Branch → DeclaredStream
    at branches = record stream { branches = branches }

    by : (branches : List Branch) → branches ≡ [] → ArrivesInTime rows (at branches) j
        ↔ ArrivesInTimeOn rows (at branches) j.release stream.ports j.ending
    by [] none = (λ each. each 0 (omega arith), λ one. each one)
      where
        each : ArrivesInTimeOn rows (at []) j.release stream.ports j.ending → ArrivesInTime rows (at []) j
        each one zero below = one
        each one (suc listener) below = absurd (omega arith)
    by (b ∷ branches) none = cc (none)

-- one listener for each
abbrev alone_in : DeclaredStream → StreamListener
alone_in s = (s, record { name = None; leg = s.ports; route = s.ports })

all_alone : (network : DeclaredNetwork) (streams : List DeclaredStream)
    → All (λ (s : DeclaredStream). s.branches ≡ []) streams
    → flat_map (with_listeners network) streams ≡ map alone_in streams
all_alone network [] alone = refl
all_alone network (s ∷ streams) alone =
    flat_map-cons (with_listeners network) s streams
    ∙ ap (λ (ls : List Listener). map (λ l. (s, l)) ls ++ flat_map (with_listeners network) streams)
    (listeners_alone network.topology s (All-head (λ (t : DeclaredStream). t.branches ≡ []) s streams alone))
    ∙ ap (λ (rest : List StreamListener). alone_in s ∷ rest)
    (all_alone network streams (All-tail (λ (t : DeclaredStream). t.branches ≡ []) s streams alone))

map_twice : {X Y Z : Type 0} (g : Y → Z) (f : X → Y) (xs : List X) → map g (map f xs) ≡ map (λ (x : X). g (f x)) xs
map_twice g f [] = refl
map_twice {X} {Y} {Z} g f (x ∷ xs) = ap (λ (zs : List Z). g (f x) ∷ zs) (map_twice g f xs)

-- the first of the images that passes
find_map : {X Y Z : Type 0} (g : Y → Z) (test : Y → Bool) (f : X → Y) (xs : List X)
    → option_map g (find test (map f xs)) ≡ option_map (λ (x : X). g (f x)) (find (λ (x : X). test (f x)) xs)
find_map g test f [] = refl
find_map {X} {Y} {Z} g test f (x ∷ xs) = by (test (f x)) (find_map g test f xs)
  where
    by : (b : Bool)
        → option_map g (find test (map f xs)) ≡ option_map (λ (y : X). g (f y)) (find (λ (y : X). test (f y)) xs)
        → option_map g (cond b (Some (f x)) (find test (map f xs)))
        ≡ option_map (λ (y : X). g (f y)) (cond b (Some x) (find (λ (y : X). test (f y)) xs))
    by true so_far = refl
    by false so_far = so_far

-- how many of the images pass
count_map : {X Y : Type 0} (test : Y → Bool) (f : X → Y) (xs : List X)
    → count_by test (map f xs) ≡ count_by (λ (x : X). test (f x)) xs
count_map test f [] = refl
count_map {X} test f (x ∷ xs) =
    count_by-cons test (f x) (map f xs)
    ∙ ap (λ (n : ℕ). cond (test (f x)) 1 0 + n) (count_map test f xs)
    ∙ sym (count_by-cons (λ (y : X). test (f y)) x xs)

pub one_margin_for_each : OneMarginForEach
one_margin_for_each network alone = record {
  margins = margins;
  late = ap (count_by is_late) margins ∙ count_map is_late margin network.streams;
  over = refl;
  tightest = ap (λ (ls : List StreamListener). option_map (tightest_with network) (find slackest ls)) each
      ∙ find_map (tightest_with network) slackest alone_in network.streams;
}
  where
    each : all_listeners network ≡ map alone_in network.streams
    each = all_alone network network.streams alone

    margin : DeclaredStream → Margin
    margin s = margin_on network s s.ports

    margins : margins_of network ≡ map margin network.streams
    margins = ap (map (margin_of network)) each ∙ map_twice (margin_of network) alone_in network.streams

    slackest : StreamListener → Bool
    slackest one = is_tightest (margins_of network) (margin_of network one)
