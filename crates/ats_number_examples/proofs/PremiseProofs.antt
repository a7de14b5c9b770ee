use Rattle.std.proofs.Common.{◌≡◌, ℕ, zero, suc, ◌<◌, Bool, true, ◌&&◌, List, [], ◌∷◌, length, All, refl}
use Rattle.std.proofs.Common.{ap, arith, lit<}
use Rattle.std.specs.Prelude.{nat_lt, ◌==◌}
use Rattle.std.specs.List.{list_all}
use Rattle.std.proofs.lemmas.Bool.{and_parts}
use Rattle.ats_num.specs.Name.{is_name}
use Rattle.ats_topology.specs.declared.node.Node.{Node}
use Rattle.ats_streams.specs.Stream.{DeclaredStream}
use Rattle.ats_network.specs.Network.{DeclaredNetwork, senders_of}
use Rattle.ats_network.specs.Sender.{Sender}
use Rattle.ats_network.specs.Senders.{sender_at}
use Rattle.ats_tally.specs.declared.reason.Reason.{Reason}
use Rattle.ats_tally.specs.declared.reason.Reason.TheVariants.{Deadline, Overloaded, Residence}
use Rattle.ats_requests.specs.declared.answer.Answer.{Answer}
use Rattle.ats_requests.specs.declared.answer.Answer.TheVariants.{Admitted, Refused, Withdrawn}
use Rattle.ats_requests.specs.declared.denied.Denied.{Denied}
use Rattle.ats_requests.specs.declared.denied.Denied.TheVariants.{Because, Limit, NameTaken, NameUnknown, NoClass}
use Rattle.ats_replay.specs.Summary.{summary_for}
use Rattle.ats_trace.specs.Journey.{Travel}
use Rattle.ats_trace.specs.Ways.{listener_count}
use Rattle.ats_examples.specs.Networks.{fork}
use Rattle.ats_examples.specs.Runs.{late}
use Rattle.ats_examples.proofs.LegalProofs.{regulated_legal}
use Rattle.ats_tree_examples.specs.Networks.{split}
use Rattle.ats_tree_examples.specs.Runs.{long_split, one_split}
use Rattle.ats_tree_examples.specs.Bounds.{split_rows}
use Rattle.ats_tree_examples.proofs.CopyProofs.{copies_are_legal}
use Rattle.ats_tree_examples.proofs.TreeProofs.{split_is}
use Rattle.ats_text_law.specs.Answers.{IsShortAnswer, IsShortDenied, IsShortReason}
use Rattle.ats_text_law.specs.Explained.{IsExplainable}
use Rattle.ats_text_law.specs.Short.{HasShortBounds, HasShortNumbers, HasShortTimes, IsShort}
use Rattle.ats_examples.proofs.Tests.{all_by, eq_of, lt_of}
use Rattle.ats_number_examples.specs.Networks.{joined, joined_nodes}
use Rattle.ats_number_examples.specs.Premises.{AnswersAreShort, NetworksAreAlike, NumbersAreShort, PremisesAreMet}
use Rattle.ats_number_examples.specs.Premises.{RunsArePrintable, given, given_otherwise, joined_otherwise}
use Rattle.ats_number_examples.proofs.ShortTest.{bounds_by, bounds_pass, explains, explains_by, is_short, journey_by}
use Rattle.ats_number_examples.proofs.ShortTest.{journey_passes, name_by, name_passes, short_by}

-- What the laws on printed texts ask, by tests that compute.

numbers : NumbersAreShort
numbers = record { greatest = lit< tt; not_next = λ h. absurd (omega (arith, h)) }

times_by : (run : List Travel) → list_all journey_passes run ≡ true → All HasShortTimes run
times_by = all_by HasShortTimes journey_passes journey_by

-- one frame was released and came to each of two listeners
reported : (sender listener : ℕ) → sender < length (senders_of split)
    → listener < listener_count (sender_at split sender) → HasShortNumbers (summary_for split one_split sender listener)
reported zero zero there within = record {
  totals = record { all_frames = lit< tt; all_sunk = lit< tt; all_late = lit< tt; all_size = lit< tt };
  worst = lit< tt;
}
reported zero (suc zero) there within = record {
  totals = record { all_frames = lit< tt; all_sunk = lit< tt; all_late = lit< tt; all_size = lit< tt };
  worst = lit< tt;
}
reported zero (suc (suc n)) there within = absurd (omega (arith, within))
reported (suc n) listener there within = absurd (omega (arith, there))

-- one frame of the first stream arrived, and one was late; the other stream has none
late_reported : (sender listener : ℕ) → sender < length (senders_of fork)
    → listener < listener_count (sender_at fork sender) → HasShortNumbers (summary_for fork late sender listener)
late_reported zero zero there within = record {
  totals = record { all_frames = lit< tt; all_sunk = lit< tt; all_late = lit< tt; all_size = lit< tt };
  worst = lit< tt;
}
late_reported (suc zero) zero there within = record {
  totals = record { all_frames = lit< tt; all_sunk = lit< tt; all_late = lit< tt; all_size = lit< tt };
  worst = lit< tt;
}
late_reported zero (suc n) there within = absurd (omega (arith, within))
late_reported (suc zero) (suc n) there within = absurd (omega (arith, within))
late_reported (suc (suc n)) listener there within = absurd (omega (arith, there))

-- how many octets the frames of a run have together
abbrev octets_in : List Travel → ℕ
octets_in [] = 0
octets_in (j ∷ run) = j.release.octets

runs : RunsArePrintable
runs = record {
  rules = split_is;
  names = all_by (λ (s : Sender). is_name s.name ≡ true) (λ (s : Sender). is_name s.name) (λ s h. h)
      (senders_of split) refl;
  one = record { journeys = copies_are_legal.one.journeys; times = times_by one_split refl };
  other = record { journeys = copies_are_legal.too_long.journeys; times = times_by long_split refl };
  differ = λ same. (let octets : ◌≡◌ {A = ℕ} 1522 1523 = ap octets_in same in absurd (omega arith));
  reported = record {
    summaries = reported;
    bounds = all_by IsShort is_short short_by (26672000 ∷ 26672000 ∷ []) refl;
  };
  reported_alone = record { summaries = reported; bounds = tt };
  bounds = all_by (HasShortBounds split.topology split_rows) (bounds_pass split.topology split_rows)
      (bounds_by split.topology split_rows) split.streams refl;
  with_late = record { journeys = regulated_legal.late.journeys; times = times_by late refl };
  with_late_reported = record { summaries = late_reported; bounds = tt };
}

explained : (network : DeclaredNetwork) → list_all (explains network) network.streams ≡ true
    → All (IsExplainable network) network.streams
explained network = all_by (IsExplainable network) (explains network) (explains_by network) network.streams

abbrev first_rate : List DeclaredStream → ℕ
first_rate [] = 0
first_rate (s ∷ streams) = s.rate

networks : NetworksAreAlike
networks = record {
  alike = record { topology = refl; names = refl; paths = refl; branches = refl };
  one = explained (joined 1000000 1000000) refl;
  other = explained joined_otherwise refl;
  differ = λ same. (let rates : ◌≡◌ {A = ℕ} 100000000 50000000 = ap first_rate same in absurd (omega arith));
}

-- answers whose numbers are short
abbrev reason_passes : ℕ → Reason → Bool
reason_passes ports (Overloaded port class load) = nat_lt port ports && (is_short class && is_short load)
reason_passes ports (Residence port class need) = nat_lt port ports && (is_short class && is_short need)
reason_passes ports (Deadline stream listener sum) = is_name stream && (name_passes listener && is_short sum)

port_by : (ports port class n : ℕ) → nat_lt port ports && (is_short class && is_short n) ≡ true
    → (port < ports) × IsShort class × IsShort n
port_by ports port class n h =
    let first = and_parts (nat_lt port ports) (is_short class && is_short n) h in
    let second = and_parts (is_short class) (is_short n) first.1 in
    (lt_of port ports first.0, short_by class second.0, short_by n second.1)

reason_by : (ports : ℕ) (reason : Reason) → reason_passes ports reason ≡ true → IsShortReason ports reason
reason_by ports (Overloaded port class load) h = port_by ports port class load h
reason_by ports (Residence port class need) h = port_by ports port class need h
reason_by ports (Deadline stream listener sum) h =
    let first = and_parts (is_name stream) (name_passes listener && is_short sum) h in
    let second = and_parts (name_passes listener) (is_short sum) first.1 in
    (first.0, name_by listener second.0, short_by sum second.1)

abbrev denied_passes : ℕ → Denied → Bool
denied_passes ports NameTaken = true
denied_passes ports NameUnknown = true
denied_passes ports Limit = true
denied_passes ports (Because reason) = reason_passes ports reason
denied_passes ports (NoClass reasons) = (length reasons == 7) && list_all (reason_passes ports) reasons

denied_by : (ports : ℕ) (denied : Denied) → denied_passes ports denied ≡ true → IsShortDenied ports denied
denied_by ports NameTaken h = tt
denied_by ports NameUnknown h = tt
denied_by ports Limit h = tt
denied_by ports (Because reason) h = reason_by ports reason h
denied_by ports (NoClass reasons) h =
    let parts = and_parts (length reasons == 7) (list_all (reason_passes ports) reasons) h in (
      eq_of (length reasons) 7 parts.0,
      all_by (IsShortReason ports) (reason_passes ports) (reason_by ports) reasons parts.1,
    )

abbrev answer_passes : ℕ → Answer → Bool
answer_passes ports (Admitted class sum) = is_short class && is_short sum
answer_passes ports Withdrawn = true
answer_passes ports (Refused denied) = denied_passes ports denied

answer_by : (ports : ℕ) (answer : Answer) → answer_passes ports answer ≡ true → IsShortAnswer ports answer
answer_by ports (Admitted class sum) h =
    let parts = and_parts (is_short class) (is_short sum) h in (short_by class parts.0, short_by sum parts.1)
answer_by ports Withdrawn h = tt
answer_by ports (Refused denied) h = denied_by ports denied h

short_answers : (answers : List Answer) → list_all (answer_passes 8) answers ≡ true → All (IsShortAnswer 8) answers
short_answers = all_by (IsShortAnswer 8) (answer_passes 8) (answer_by 8)

-- a number for the first of some answers
abbrev class_in_first : List Answer → ℕ
class_in_first (Admitted class sum ∷ answers) = class
class_in_first answers = 0

answers : AnswersAreShort
answers = record {
  sound = record {
    names = all_by (λ (node : Node). is_name node.name ≡ true) (λ (node : Node). is_name node.name) (λ node h. h)
        (joined_nodes 1000000) refl;
    sound = refl;
  };
  one = record { one_each = refl; short = short_answers given refl };
  other = record { one_each = refl; short = short_answers given_otherwise refl };
  differ = λ same. (let classes : ◌≡◌ {A = ℕ} 7 0 = ap class_in_first same in absurd (omega arith));
}

pub premises_are_met : PremisesAreMet
premises_are_met = record { numbers = numbers; runs = runs; networks = networks; answers = answers }
