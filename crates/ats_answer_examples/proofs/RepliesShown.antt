-- What answers to requests say of the network before and after, on closed networks.
use Rattle.std.proofs.Common.{◌≡◌, ◌≢◌, ℕ, zero, suc, ◌+◌, ◌<◌, ◌≤◌, List, [], ◌∷◌, ◌++◌, length, All}
use Rattle.std.proofs.Common.{Contains, Some, None, refl, ap, ◌∙◌, inl, inr, arith, lit<, lit≤}
use Rattle.std.specs.Prelude.{codes}
use Rattle.std.proofs.lemmas.List.{length-append}
use Rattle.std.proofs.lemmas.Option.{none-some}
use Rattle.ats_streams.specs.Stream.{DeclaredStream}
use Rattle.ats_network.specs.Network.{DeclaredNetwork, IsNetwork, names_of, senders_of}
use Rattle.ats_network.specs.Pushes.{with_stream}
use Rattle.ats_network.specs.Tables.{stream_names}
use Rattle.ats_tally.specs.declared.reason.Reason.{Reason}
use Rattle.ats_tally.specs.declared.reason.Reason.TheVariants.{Deadline, Overloaded, Residence}
use Rattle.ats_bound.proofs.FirstReason.{each_reason_is_the_first, first_reason_is_one}
use Rattle.ats_requests.specs.declared.answer.Answer.TheVariants.{Admitted, Refused}
use Rattle.ats_requests.specs.declared.denied.Denied.TheVariants.{NameTaken, Limit, Because, NoClass}
use Rattle.ats_requests.specs.declared.request.Request.TheVariants.{Admit, Lowest}
use Rattle.ats_examples.specs.Networks.{line_links, line_nodes}
use Rattle.ats_examples.proofs.NetworkTest.{network_by}
use Rattle.ats_verdict_examples.specs.Networks.{stream_until}
use Rattle.ats_verdict_examples.specs.Requested.{asked, bridged, large, late_a, late_in_each, small}
use Rattle.ats_verdict_examples.proofs.Requests.{requests_are_met}
use Rattle.ats_command_law.specs.AdmitMeaning.{AreAnswers}
use Rattle.ats_command_law.specs.Answered.{AnswerTells, HasReasonWith}
use Rattle.ats_command_law.proofs.Answered.{are_answers}
use Rattle.ats_command_law.proofs.OneClass.{AsksOneClass}
use Rattle.ats_answer_examples.specs.Replied.{AdmitTellsIt, LowestTellsIt, RepliesAreShown, WithdrawTellsIt, and_small}

-- each stream of the eight requests has one class
one_class : All AsksOneClass asked
one_class zero d h = refl
one_class (suc zero) d h = refl
one_class (suc (suc zero)) d h = refl
one_class (suc (suc (suc zero))) d h = tt
one_class (suc (suc (suc (suc zero)))) d h = tt
one_class (suc (suc (suc (suc (suc zero))))) d h = tt
one_class (suc (suc (suc (suc (suc (suc zero)))))) d h = tt
one_class (suc (suc (suc (suc (suc (suc (suc zero))))))) d h = tt
one_class (suc (suc (suc (suc (suc (suc (suc (suc k)))))))) d h =
    (let more : suc (suc (suc (suc (suc (suc (suc (suc k))))))) < 8 = h in absurd (omega (arith, more)))

-- how many streams a network has, and the class of the last of two at its first port
abbrev many : DeclaredNetwork → ℕ
many network = length network.streams

abbrev first_of : List ℕ → ℕ
first_of [] = 0
first_of (class ∷ classes) = class

abbrev second_class : List DeclaredStream → ℕ
second_class (a ∷ b ∷ streams) = first_of b.classes
second_class streams = 0

eight : AreAnswers bridged asked
eight = are_answers bridged asked requests_are_met.certified
    (record { may = requests_are_met.may_ask; one = one_class })

-- with a large stream the line is a network still, and late
with_large_is : IsNetwork (with_stream bridged (large (codes "c") 5))
with_large_is =
    network_by line_nodes line_links (with_stream bridged (large (codes "c") 5)).streams [] refl refl

late_first : HasReasonWith bridged (large (codes "c") 5) 5 (late_a 51344000)
late_first = record {
  rules = with_large_is;
  first = (each_reason_is_the_first (with_stream bridged (large (codes "c") 5)) (late_a 51344000) with_large_is).0
      refl;
}

-- the sum of a late stream
abbrev sum_in : Reason → ℕ
sum_in (Overloaded port class load) = 0
sum_in (Residence port class need) = 0
sum_in (Deadline stream listener sum) = sum

not_sum : ¬ AnswerTells bridged (and_small 7) (Admit (small (codes "c") 7)) (Admitted 7 28016001)
not_sum tells = let e : ◌≡◌ {A = ℕ} 28016001 28016000 = tells.came_in.sum_is in absurd (omega arith)

not_class : ¬ AnswerTells bridged (and_small 7) (Admit (small (codes "c") 7)) (Admitted 6 28016000)
not_class tells =
    let e : ◌≡◌ {A = ℕ} 7 6 = ap (λ (s : DeclaredStream). first_of s.classes) tells.asked in
    absurd (omega arith)

not_same : ¬ AnswerTells bridged bridged (Admit (small (codes "c") 7)) (Admitted 7 28016000)
not_same tells = let e : ◌≡◌ {A = ℕ} 1 2 = ap many tells.came_in.beside in absurd (omega arith)

not_there : ¬ AnswerTells bridged (and_small 6) (Admit (small (codes "c") 7)) (Admitted 7 28016000)
not_there tells =
    let e : ◌≡◌ {A = ℕ} 6 7 = ap (λ (n : DeclaredNetwork). second_class n.streams) tells.came_in.beside in
    absurd (omega arith)

-- one byte names the streams apart
not_taken : ¬ AnswerTells bridged bridged (Admit (small (codes "c") 7)) (Refused NameTaken)
not_taken tells = by tells.cause
  where
    by : Contains (names_of (senders_of bridged)) (codes "c") → ⊥
    by (zero, there, same) = (let e : ◌≡◌ {A = ℕ} 97 99 = ap first_of same in absurd (omega arith))
    by (suc k, there, same) = (let one : suc k < 1 = there in absurd (omega (arith, one)))

not_because : ¬ AnswerTells bridged bridged (Admit (large (codes "c") 5)) (Refused (Because (late_a 51344001)))
not_because tells =
    let same : late_a 51344000 ≡ late_a 51344001 =
    first_reason_is_one (with_stream bridged (large (codes "c") 5)) (late_a 51344000) (late_a 51344001)
    with_large_is late_first.first tells.cause.first in
    let e : ◌≡◌ {A = ℕ} 51344000 51344001 = ap sum_in same in
    absurd (omega arith)

-- nor is a rate or a burst of the small stream over a limit
with_small_is : IsNetwork (with_stream bridged (small (codes "c") 7))
with_small_is =
    network_by line_nodes line_links (with_stream bridged (small (codes "c") 7)).streams [] refl refl

not_full : ¬ AnswerTells bridged bridged (Admit (small (codes "c") 7)) (Refused Limit)
not_full tells = elim tells.cause.over as (λ _. ⊥) [
  | inl streams ↦ (let h : 4096 ≤ 1 = streams in absurd (omega (arith, h)))
  | inr more ↦ (elim more as (λ _. ⊥) [
    | inl ports ↦ (let h : 65536 < 2 + 2 = ports in absurd (omega (arith, h)))
    | inr over ↦ over (with_small_is.rates 1 (small (codes "c") 7) (lit< tt))
  ])
]

admit : AdmitTellsIt
admit = record {
  admitted = record { asked = refl; came_in = record { beside = refl; sum_is = refl } };
  not_sum = not_sum;
  not_class = not_class;
  not_same = not_same;
  not_there = not_there;
  taken = record { same = refl; cause = (0, lit< tt, refl) };
  not_taken = not_taken;
  not_changed = λ tells. (let e : ◌≡◌ {A = ℕ} 0 1 = ap many tells.same in absurd (omega arith));
  because = record { same = refl; cause = late_first };
  not_because = not_because;
  not_full = not_full;
}

-- against the line with the small stream in class 1 there is no reason
not_next : (sum : ℕ) → ¬ AnswerTells bridged (and_small 2) (Lowest (small (codes "c") 1)) (Admitted 2 sum)
not_next sum tells =
    let against = tells.lower 1 (lit≤ tt) (lit< tt) in
    let given : None ≡ Some against.0 =
    (each_reason_is_the_first (and_small 1) against.0 against.1.rules).1 against.1.first in
    none-some against.0 given

lowest : LowestTellsIt
lowest = record {
  admitted = record {
    is_class = record { least = lit≤ tt; most = lit≤ tt };
    came_in = record { beside = refl; sum_is = refl };
    lower = λ c some below. absurd (omega (arith, some, below));
  };
  not_next = not_next;
  not_same = λ tells. (let e : ◌≡◌ {A = ℕ} 1 2 = ap many tells.came_in.beside in absurd (omega arith));
  no_class = eight.each 7 (Lowest (large (codes "d") 1)) (Refused (NoClass late_in_each)) refl refl;
  not_none = λ tells. (let e : ◌≡◌ {A = ℕ} 0 7 = tells.cause.seven in absurd (omega arith));
}

-- a list without one of its elements is not as long
gone : (old new front back : List DeclaredStream) (x : DeclaredStream) → old ≡ front ++ x ∷ back → new ≡ front ++ back
    → length old ≡ length new → ⊥
gone old new front back x old_is new_is same =
    let long : length old ≡ length front + (length back + 1) =
    ap (λ (xs : List DeclaredStream). length xs) old_is ∙ length-append front (x ∷ back) ∙ (omega arith) in
    let short : length new ≡ length front + length back =
    ap (λ (xs : List DeclaredStream). length xs) new_is ∙ length-append front back in
    omega (arith, long, short, same)

unnamed : All (λ other. other ≢ codes "c") (stream_names bridged.streams)
unnamed zero d there same = let e : ◌≡◌ {A = ℕ} 97 99 = ap first_of same in absurd (omega arith)
unnamed (suc k) d there same = let one : suc k < 1 = there in absurd (omega (arith, one))

withdraw : WithdrawTellsIt
withdraw = record {
  withdrawn = record {
    stream = stream_until 30000 (codes "a") (0 ∷ 2 ∷ []) (6 ∷ 6 ∷ []);
    named = refl;
    less = record {
      topology = refl;
      most_ports = refl;
      flows = refl;
      streams = record { front = []; back = []; old_is = refl; new_is = refl };
    };
  };
  not_same = λ tells.
      gone bridged.streams bridged.streams tells.less.streams.front tells.less.streams.back tells.stream
      tells.less.streams.old_is tells.less.streams.new_is refl;
  not_other = λ tells.
      gone [] [] tells.less.streams.front tells.less.streams.back tells.stream tells.less.streams.old_is
      tells.less.streams.new_is refl;
  unknown = record { same = refl; cause = unnamed };
  not_unknown = λ tells. tells.cause 0 [] (lit< tt) refl;
  not_changed = λ tells. (let e : ◌≡◌ {A = ℕ} 0 1 = ap many tells.same in absurd (omega arith));
}

pub replies_are_shown : RepliesAreShown
replies_are_shown = record {
  eight = eight;
  admit = admit;
  lowest = lowest;
  withdraw = withdraw;
}
