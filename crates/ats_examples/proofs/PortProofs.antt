use Rattle.std.proofs.Common.{◌≡◌, ℕ, zero, suc, ◌+◌, ◌*◌, ◌<◌, ◌≤◌, [], ◌∷◌, All, refl, arith}
use Rattle.std.specs.List.Sorted.{IsNonDecreasing}
use Rattle.std.proofs.lemmas.List.Elements.{All-nil, All-cons}
use Rattle.std.proofs.lemmas.List.Sorted.{IsPermutation-refl}
use Rattle.ats_num.specs.declared.time.TheConstants.{PS_PER_SECOND}
use Rattle.ats_bucket.specs.Conforming.{Frame, times_of, bits_between, time_between, Conforms}
use Rattle.ats_topology.specs.Port.{port_at}
use Rattle.ats_network.specs.Network.{DeclaredNetwork}
use Rattle.ats_certificate.specs.PortSums.{port_sums}
use Rattle.ats_certificate.specs.Certificate.{HasSums, Covers, FitsLink, IsEnough, bound_of}
use Rattle.ats_certificate.specs.declared.row.Row.{Row}
use Rattle.ats_port_law.specs.PortLaw.{IsDeclared, IsWithinBound, ConformsInOrder}
use Rattle.ats_examples.specs.Premises.{StreamsConform}
use Rattle.ats_examples.proofs.PortTest.{port_rule_by}
use Rattle.ats_examples.specs.Networks.{line_and_flow, fork, fork_of_classes}
use Rattle.ats_examples.specs.Rows.{row_with_flow, next_row_with_flow, row_of_line, row_with_two, row_of_lowered}
use Rattle.ats_examples.specs.Ports.{sent_behind_flow, sent_on_behind_flow, IsWorked, BehindFlow, sent_at_once, AtOnce}
use Rattle.ats_examples.specs.Ports.{sent_in_turn, InTurn, lowered_frame, sent_by_class, InClasses}
use Rattle.ats_examples.proofs.NetworkProofs.{with_flow_is, fork_is, classes_is}

-- of two elements
pub all_two : {X : Type 0} (P : X → Type 0) (a b : X) → P a → P b → All P (a ∷ b ∷ [])
all_two P a b p q = All-cons P a (b ∷ []) p (All-cons P b [] q (All-nil P))

-- one frame conforms where the burst covers it
one_ascends : (f : Frame) → IsNonDecreasing (times_of (f ∷ []))
one_ascends f zero zero d order h = omega arith
one_ascends f zero (suc j) d order h = absurd (omega arith)
one_ascends f (suc i) j d order h = absurd (omega arith)

one_within : (rate burst : ℕ) (f : Frame) → f.bits ≤ burst → (i j : ℕ) → i ≤ j → j < 1
    → PS_PER_SECOND * bits_between (f ∷ []) i j ≤ rate * time_between (f ∷ []) i j + PS_PER_SECOND * burst
one_within rate burst f h zero zero order k = omega arith
one_within rate burst f h zero (suc j) order k = absurd (omega arith)
one_within rate burst f h (suc i) j order k = absurd (omega arith)

one_conforms : (rate burst : ℕ) (f : Frame) → f.bits ≤ burst → Conforms rate burst (f ∷ [])
one_conforms rate burst f h = record { in_order = one_ascends f; within = one_within rate burst f h }

pub one_in_order : (rate burst : ℕ) (f : Frame) → f.bits ≤ burst → ConformsInOrder rate burst (f ∷ [])
one_in_order rate burst f h =
    record { order = f ∷ []; same = IsPermutation-refl (f ∷ []); conforms = one_conforms rate burst f h }

-- of one element
pub all_one : {X : Type 0} (P : X → Type 0) (a : X) → P a → All P (a ∷ [])
all_one P a p = All-cons P a [] p (All-nil P)

-- no frame conforms at all
pub none_in_order : (rate burst : ℕ) → ConformsInOrder rate burst []
none_in_order rate burst =
    record {
      order = [];
      same = IsPermutation-refl [];
      conforms =
          record { in_order = λ i j d order h. absurd (omega arith); within = λ i j order h. absurd (omega arith) };
    }

-- a row that says the sums of its port and class, and what follows from them
covers_by : (network : DeclaredNetwork) (row : Row) → HasSums row (port_sums network row.port row.class)
    → row.bound ≡ bound_of (port_at network.topology.ports row.port) row.wait row.least → FitsLink row
    → IsEnough (port_at network.topology.ports row.port) row → Covers network row
covers_by network row sums bound load wait = record { sums = sums; bound = bound; load = load; wait = wait }

flow_streams : StreamsConform line_and_flow 0 sent_behind_flow
flow_streams zero h = one_in_order 100000000 12336 (record { at = 1; bits = 12336 }) (omega arith)
flow_streams (suc i) h = absurd (omega arith)

pub at_station : IsWorked line_and_flow row_with_flow sent_behind_flow
at_station = record {
  valid = with_flow_is;
  used = refl;
  covers = covers_by _ _ (record { higher = refl; equal = refl; bursts = refl; lower = refl; least = refl }) refl
      (omega arith) (omega arith);
  rule = port_rule_by 1000 sent_behind_flow refl;
  offered = record {
    each = all_two (IsDeclared line_and_flow 0) _ _
        (record { exists = omega arith; uses = refl; class = refl; least = omega arith; most = omega arith })
        (record { exists = omega arith; uses = refl; class = refl; least = omega arith; most = omega arith });
    streams = flow_streams;
  };
  within = all_two (IsWithinBound line_and_flow row_with_flow) _ _ (λ class. absurd (cc)) (λ class. omega arith);
}

next_streams : StreamsConform line_and_flow 2 sent_on_behind_flow
next_streams zero h = one_in_order 100000000 12336 (record { at = 26172000; bits = 12336 }) (omega arith)
next_streams (suc i) h = absurd (omega arith)

at_bridge : IsWorked line_and_flow next_row_with_flow sent_on_behind_flow
at_bridge = record {
  valid = with_flow_is;
  used = refl;
  covers = covers_by _ _ (record { higher = refl; equal = refl; bursts = refl; lower = refl; least = refl }) refl
      (omega arith) (omega arith);
  rule = port_rule_by 1000 sent_on_behind_flow refl;
  offered = record {
    each = all_two (IsDeclared line_and_flow 2) _ _
        (record { exists = omega arith; uses = refl; class = refl; least = omega arith; most = omega arith })
        (record { exists = omega arith; uses = refl; class = refl; least = omega arith; most = omega arith });
    streams = next_streams;
  };
  within = all_two (IsWithinBound line_and_flow next_row_with_flow) _ _ (λ class. absurd (cc)) (λ class. omega arith);
}

pub behind_flow : BehindFlow
behind_flow = record { at_station = at_station; at_bridge = at_bridge }

two_streams : StreamsConform fork 2 sent_in_turn
two_streams zero h = one_in_order 100000000 12336 (record { at = 13836000; bits = 12336 }) (omega arith)
two_streams (suc zero) h = one_in_order 100000000 12336 (record { at = 13836000; bits = 12336 }) (omega arith)
two_streams (suc (suc i)) h = absurd (omega arith)

pub in_turn : InTurn
in_turn = record {
  worked = record {
    valid = fork_is;
    used = refl;
    covers = covers_by _ _ (record { higher = refl; equal = refl; bursts = refl; lower = refl; least = refl }) refl
        (omega arith) (omega arith);
    rule = port_rule_by 1000 sent_in_turn refl;
    offered = record {
      each = all_two (IsDeclared fork 2) _ _
          (record { exists = omega arith; uses = refl; class = refl; least = omega arith; most = omega arith })
          (record { exists = omega arith; uses = refl; class = refl; least = omega arith; most = omega arith });
      streams = two_streams;
    };
    within = all_two (IsWithinBound fork row_with_two) _ _ (λ class. omega arith) (λ class. omega arith);
  };
  whole = refl;
}

streams_at_s1 : StreamsConform fork 0 (sent_at_once 0)
streams_at_s1 zero h = one_in_order 100000000 12336 (record { at = 0; bits = 12336 }) (omega arith)
streams_at_s1 (suc zero) h = none_in_order 100000000 12336
streams_at_s1 (suc (suc i)) h = absurd (omega arith)

pub at_s1 : IsWorked fork (row_of_line 0 13836000) (sent_at_once 0)
at_s1 = record {
  valid = fork_is;
  used = refl;
  covers = covers_by _ _ (record { higher = refl; equal = refl; bursts = refl; lower = refl; least = refl }) refl
      (omega arith) (omega arith);
  rule = port_rule_by 1000 (sent_at_once 0) refl;
  offered = record {
    each = all_one (IsDeclared fork 0) _
        (record { exists = omega arith; uses = refl; class = refl; least = omega arith; most = omega arith });
    streams = streams_at_s1;
  };
  within = all_one (IsWithinBound fork (row_of_line 0 13836000)) _ (λ class. omega arith);
}

streams_at_s3 : StreamsConform fork 4 (sent_at_once 1)
streams_at_s3 zero h = none_in_order 100000000 12336
streams_at_s3 (suc zero) h = one_in_order 100000000 12336 (record { at = 0; bits = 12336 }) (omega arith)
streams_at_s3 (suc (suc i)) h = absurd (omega arith)

at_s3 : IsWorked fork (row_of_line 4 13836000) (sent_at_once 1)
at_s3 = record {
  valid = fork_is;
  used = refl;
  covers = covers_by _ _ (record { higher = refl; equal = refl; bursts = refl; lower = refl; least = refl }) refl
      (omega arith) (omega arith);
  rule = port_rule_by 1000 (sent_at_once 1) refl;
  offered = record {
    each = all_one (IsDeclared fork 4) _
        (record { exists = omega arith; uses = refl; class = refl; least = omega arith; most = omega arith });
    streams = streams_at_s3;
  };
  within = all_one (IsWithinBound fork (row_of_line 4 13836000)) _ (λ class. omega arith);
}

pub at_once : AtOnce
at_once = record { at_s1 = at_s1; at_s3 = at_s3; whole_at_s1 = refl; whole_at_s3 = refl }

class_streams : StreamsConform fork_of_classes 2 sent_by_class
class_streams zero h = one_in_order 100000000 12336 (record { at = 13836000; bits = 12336 }) (omega arith)
class_streams (suc zero) h = one_in_order 100000000 12336 (record { at = 13836000; bits = 12336 }) (omega arith)
class_streams (suc (suc i)) h = absurd (omega arith)

not_of_first_class : ¬ IsDeclared fork_of_classes 2 (lowered_frame 6)
not_of_first_class declared =
    let class : ◌≡◌ {A = ℕ} 6 5 = declared.class in
    absurd (omega arith)

pub in_classes : InClasses
in_classes = record {
  worked = record {
    valid = classes_is;
    used = refl;
    covers = covers_by _ _ (record { higher = refl; equal = refl; bursts = refl; lower = refl; least = refl }) refl
        (omega arith) (omega arith);
    rule = port_rule_by 1000 sent_by_class refl;
    offered = record {
      each = all_two (IsDeclared fork_of_classes 2) _ _
          (record { exists = omega arith; uses = refl; class = refl; least = omega arith; most = omega arith })
          (record { exists = omega arith; uses = refl; class = refl; least = omega arith; most = omega arith });
      streams = class_streams;
    };
    within = all_two (IsWithinBound fork_of_classes row_of_lowered) _ _ (λ class. absurd (cc)) (λ class. omega arith);
  };
  of_first_class = not_of_first_class;
}
