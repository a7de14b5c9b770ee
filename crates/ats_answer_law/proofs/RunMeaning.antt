-- What the words come to that say which runs, peaks, releases and delays are due.
use Rattle.std.proofs.Common.{◌≡◌, ◌∙◌, ℕ, zero, suc, ◌<◌, ◌≤◌, Bool, true, false, cond, List, [], ◌∷◌, length, filter}
use Rattle.std.proofs.Common.{refl, sym, ap, arith, inl, inr, get_or}
use Rattle.std.specs.Prelude.{nat_lt, not, ◌&&◌, ◌==◌, slice_index}
use Rattle.std.specs.List.{AllZip}
use Rattle.std.specs.Ordering.{is_lt, nat_cmp}
use Rattle.std.specs.declared.cmp.Ordering.TheVariants.{Less, Equal, Greater}
use Rattle.std.proofs.lemmas.Bool.{cases_lt, eq-eqb, le-ltb, lt-ltb, ne_eqb}
use Rattle.std.proofs.lemmas.List.{get_or_default, length_push}
use Rattle.std.proofs.lemmas.List.Elements.{AllZip-get_or, filter_agree, length_all_zip}
use Rattle.std.proofs.lemmas.List.Sorted.{length_permutation}
use Rattle.ats_network.specs.Network.{DeclaredNetwork}
use Rattle.ats_network.specs.Senders.{sender_at}
use Rattle.ats_trace.specs.Journey.{Travel}
use Rattle.ats_trace.specs.Ways.{route_to}
use Rattle.ats_trace.specs.declared.journey.Release.{Release}
use Rattle.ats_gen.specs.Made.{AreByTime, clock_of, made, octets_of, release_by, stream_of}
use Rattle.ats_witness.specs.Found.{AreFound, FoundDelays, IsFirstGreatest, IsFoundAt}
use Rattle.ats_command_input.specs.declared.order.Order.{Order}
use Rattle.ats_command_input.specs.declared.order.Order.TheVariants.{Early}
use Rattle.ats_command_due.specs.Replayed.{IsRunIn}
use Rattle.ats_answer_law.specs.RunMeaning.{AreInOrder, AreShown, FoundAreMeant, IsShown, MadeAreMeant}
use Rattle.ats_answer_law.specs.RunMeaning.{OrdersAreMeant, PeaksAreMeant, RunsAreMeant, RunsExactly, port_of_hop}

pub orders_are_meant : OrdersAreMeant
orders_are_meant = record {
  early_key = λ sender frame. refl;
  late_key = λ sender frame. refl;
  mixed_key = λ n sender frame. refl;
  early_wait = λ frame spread. refl;
  late_wait = λ frame spread. refl;
  mixed_wait = λ n frame spread. refl;
}

-- a run in an order
to_run : (order : Order) (network : DeclaredNetwork) (releases : List Release) (run : List Travel)
    → IsRunIn order network releases run → RunsExactly order network releases run
to_run order network releases run is = record { in_order = is.by_order; exactly = is.exactly }

from_run : (order : Order) (network : DeclaredNetwork) (releases : List Release) (run : List Travel)
    → RunsExactly order network releases run → IsRunIn order network releases run
from_run order network releases run is = record { by_order = is.in_order; exactly = is.exactly }

pub peaks_are_meant : PeaksAreMeant
peaks_are_meant network run rows peaks = (
  λ are. record {
    one_each = are.count;
    most = λ n below. (let peak = are.each n below in
        record { time = peak.reached.0; held = peak.reached.1; no_more = peak.most });
  },
  λ have. record {
    count = have.one_each;
    each = λ n below. (let most = have.most n below in
        record { most = most.no_more; reached = (most.time, most.held) });
  },
)

pub runs_are_meant : RunsAreMeant
runs_are_meant = record {
  replay = λ order network releases text run. (
    λ is. (to_run order network releases run is.is_run, is.written),
    λ is. record { is_run = from_run order network releases run is.0; written = is.1 },
  );
  capture = λ order network traffic text run. (
    λ is. (to_run order network traffic.releases run is.is_run, is.written),
    λ is. record { is_run = from_run order network traffic.releases run is.0; written = is.1 },
  );
  buffers = λ order h text run peaks. (
    λ is. (
      to_run order h.network h.releases run is.is_run,
      (peaks_are_meant h.network run h.rows peaks).0 is.are_peaks,
      is.written,
    ),
    λ is. record {
      is_run = from_run order h.network h.releases run is.0;
      are_peaks = (peaks_are_meant h.network run h.rows peaks).1 is.1;
      written = is.2;
    },
  );
  port_record = λ order network port releases file run. (
    λ is. (to_run order network releases run is.is_run, is.capture),
    λ is. record { is_run = from_run order network releases run is.0; capture = is.1 },
  );
  generate = λ network releases text run. (
    λ is. (to_run Early network releases run is.is_run, is.written),
    λ is. record { is_run = from_run Early network releases run is.0; written = is.1 },
  );
}

-- a number is less by the order of numbers where it is by the test
less_by : (x y : ℕ) → is_lt (nat_cmp x y) ≡ nat_lt x y
less_by x y = by (nat_lt x y) (x == y)
  where
    by : (less same : Bool) → is_lt (cond less Less (cond same Equal Greater)) ≡ less
    by true same = refl
    by false true = refl
    by false false = refl

-- two numbers tie where they are the same
tie_by : (x y : ℕ) → (not (nat_lt x y) && not (nat_lt y x)) ≡ (y == x)
tie_by x y = elim (cases_lt x y) as (λ _. (not (nat_lt x y) && not (nat_lt y x)) ≡ (y == x)) [
  | inl less ↦
      ap (λ (b : Bool). not b && not (nat_lt y x)) (lt-ltb x y less)
      ∙ sym (ne_eqb y x (λ (same : y ≡ x). absurd (omega (arith, less, same))))
  | inr no_less ↦
      ap (λ (b : Bool). not b && not (nat_lt y x)) (le-ltb x y no_less)
      ∙ elim (cases_lt y x) as (λ _. not (nat_lt y x) ≡ (y == x)) [
        | inl less ↦
            ap not (lt-ltb y x less)
            ∙ sym (ne_eqb y x (λ (same : y ≡ x). absurd (omega (arith, less, same))))
        | inr neither ↦ ap not (le-ltb y x neither) ∙ sym (eq-eqb y x (omega (arith, no_less, neither)))
      ]
]

tie : (x y : ℕ) → (not (is_lt (nat_cmp x y)) && not (is_lt (nat_cmp y x))) ≡ (y == x)
tie x y =
    ap (λ (b : Bool). not b && not (is_lt (nat_cmp y x))) (less_by x y)
    ∙ ap (λ (b : Bool). not (nat_lt x y) && not b) (less_by y x)
    ∙ tie_by x y

-- what is released at the time of a release
at_once : (x : Release) (releases : List Release)
    → filter (λ (r : Release). not (is_lt (nat_cmp x.at.0 r.at.0)) && not (is_lt (nat_cmp r.at.0 x.at.0))) releases
    ≡ filter (λ (r : Release). r.at.0 == x.at.0) releases
at_once x releases =
    filter_agree (λ (r : Release). not (is_lt (nat_cmp x.at.0 r.at.0)) && not (is_lt (nat_cmp r.at.0 x.at.0)))
    (λ (r : Release). r.at.0 == x.at.0) (λ r. tie x.at.0 r.at.0) releases

-- a release at this time
abbrev at_time : ℕ → Release
at_time time = record { at = record { 0 = time }; sender = 0; octets = 0 }

in_order : (earlier releases : List Release) → AreByTime earlier releases → AreInOrder earlier releases
in_order earlier releases are = record {
  same = are.same;
  by_time = are.by_time;
  at_once = λ time.
      sym (at_once (at_time time) releases) ∙ are.ties (at_time time) ∙ at_once (at_time time) earlier;
}

from_order : (earlier releases : List Release) → AreInOrder earlier releases → AreByTime earlier releases
from_order earlier releases are = record {
  same = are.same;
  by_time = are.by_time;
  ties = λ x. at_once x releases ∙ are.at_once x.at.0 ∙ sym (at_once x earlier);
}

-- the release that is made of a frame
abbrev last : DeclaredNetwork → ℕ → ℕ → Release
last network seed frame = release_by network (made network seed frame) (stream_of network frame)
    (octets_of network seed frame) (clock_of seed frame)

-- one is made of each frame
as_many : (network : DeclaredNetwork) (seed count : ℕ) → length (made network seed count) ≡ count
as_many network seed zero = refl
as_many network seed (suc frame) =
    omega (arith, length_push (made network seed frame) (last network seed frame), as_many network seed frame)

pub made_are_meant : MadeAreMeant
made_are_meant = record {
  counted = λ network seed count releases are.
      length_permutation (made network seed count) releases are.same ∙ as_many network seed count;
  parts = λ network seed count releases.
      (in_order (made network seed count) releases, from_order (made network seed count) releases);
}

to_shown : (network : DeclaredNetwork) (stream listener port delay : ℕ)
    → IsFoundAt network stream listener port delay → IsShown network stream listener port delay
to_shown network stream listener port delay found =
    (found.run, record { by = found.of_burst.by; burst = found.of_burst.burst; greatest = found.greatest })

from_shown : (network : DeclaredNetwork) (stream listener port delay : ℕ)
    → IsShown network stream listener port delay → IsFoundAt network stream listener port delay
from_shown network stream listener port delay shown = record {
  run = shown.0;
  of_burst = record { by = shown.1.by; burst = shown.1.burst };
  greatest = shown.1.greatest;
}

-- what holds at each place of two lists holds along them
along_both : (Both : ℕ → ℕ → Type 0) (xs ys : List ℕ) → length ys ≡ length xs
    → ((i : ℕ) → i < length ys → Both (slice_index xs i) (slice_index ys i)) → AllZip Both xs ys
along_both Both [] [] same each = tt
along_both Both [] (y ∷ ys) same each = absurd (omega (arith, same))
along_both Both (x ∷ xs) [] same each = absurd (omega (arith, same))
along_both Both (x ∷ xs) (y ∷ ys) same each = (
  each 0 (omega arith),
  along_both Both xs ys (omega (arith, same)) (λ i below. each (suc i) (omega (arith, below))),
)

-- a number stands at its place whatever is taken past the end
at_place : (xs : List ℕ) (i none : ℕ) → i < length xs → get_or xs i none ≡ slice_index xs i
at_place xs i none below = get_or_default xs i none 0 below

first_by : (numbers : List ℕ) (place : ℕ) → place < length numbers
    → ((i : ℕ) → i < length numbers → slice_index numbers i ≤ slice_index numbers place)
    → ((i : ℕ) → i < place → slice_index numbers i < slice_index numbers place)
    → IsFirstGreatest numbers place
first_by numbers place within none_longer before_shorter = (
  within,
  λ i none below. (
      let here : get_or numbers i none ≡ slice_index numbers i = at_place numbers i none below in
      let there : get_or numbers place none ≡ slice_index numbers place = at_place numbers place none within in
      let most : slice_index numbers i ≤ slice_index numbers place = none_longer i below in
      omega (arith, here, there, most)),
  λ i none before. (
      let here : get_or numbers i none ≡ slice_index numbers i =
      at_place numbers i none (omega (arith, before, within)) in
      let there : get_or numbers place none ≡ slice_index numbers place = at_place numbers place none within in
      let less : slice_index numbers i < slice_index numbers place = before_shorter i before in
      omega (arith, here, there, less)),
)

to_along : (network : DeclaredNetwork) (stream listener : ℕ) (found : FoundDelays)
    → AreFound network stream listener found → AreShown network stream listener found
to_along network stream listener found are = record {
  one_each = sym long;
  each = λ hop below. to_shown network stream listener (port_of_hop network stream listener hop)
      (slice_index found.delays hop)
      (AllZip-get_or (IsFoundAt network stream listener) route found.delays hop 0 0 are.each
      (omega (arith, below, long)));
  within = are.first.0;
  none_longer = λ hop below. are.first.1 hop 0 below;
  before_shorter = λ hop before. are.first.2 hop 0 before;
  burst = are.burst;
}
  where
    route : List ℕ
    route = route_to (sender_at network stream) listener

    long : length route ≡ length found.delays
    long = length_all_zip (IsFoundAt network stream listener) route found.delays are.each

from_along : (network : DeclaredNetwork) (stream listener : ℕ) (found : FoundDelays)
    → AreShown network stream listener found → AreFound network stream listener found
from_along network stream listener found are = record {
  each = along_both (IsFoundAt network stream listener) (route_to (sender_at network stream) listener) found.delays
      are.one_each
      (λ hop below. from_shown network stream listener (port_of_hop network stream listener hop)
      (slice_index found.delays hop) (are.each hop below));
  first = first_by found.delays found.hop are.within are.none_longer are.before_shorter;
  burst = are.burst;
}

pub found_are_meant : FoundAreMeant
found_are_meant = record {
  at_port = λ network stream listener port delay.
      (to_shown network stream listener port delay, from_shown network stream listener port delay);
  along = λ network stream listener found.
      (to_along network stream listener found, from_along network stream listener found);
}
