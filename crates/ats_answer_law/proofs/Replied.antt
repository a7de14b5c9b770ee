-- What answers to requests, and to `bound`, come to.
use Rattle.std.proofs.Common.{◌≡◌, ◌≢◌, ℕ, zero, suc, ◌+◌, ◌<◌, ◌≤◌, List, [], ◌∷◌, ◌++◌, length, Some, All, Contains}
use Rattle.std.proofs.Common.{refl, sym, ap, ◌∙◌, arith}
use Rattle.std.specs.Prelude.{slice_get, slice_index_or}
use Rattle.std.proofs.lemmas.List.Elements.{All-contains}
use Rattle.ats_streams.specs.Stream.{DeclaredStream}
use Rattle.ats_network.specs.Network.{DeclaredNetwork, names_of, senders_of}
use Rattle.ats_network.specs.Tables.{stream_names}
use Rattle.ats_certificate.specs.Certificate.{bound_along}
use Rattle.ats_tally.specs.declared.reason.Reason.{Reason}
use Rattle.ats_bound.specs.Least.{least_certificate}
use Rattle.ats_command_law.specs.Answered as told
use Rattle.ats_command_law.specs.Answered.{AreFirstReasons, CameIn, IsAdmitted}
use Rattle.ats_answer_law.specs.Replied.{AdmitIsMeant, BoundIsMeant, IsPastLimit, IsReasonAgainst, LowestIsMeant}
use Rattle.ats_answer_law.specs.Replied.{RepliesAreMeant, StandsLast, WithdrawIsMeant, of_class}

-- a stream that came in with a class stands last with it
stands : (old new : DeclaredNetwork) (stream : DeclaredStream) (class sum : ℕ) → CameIn old new stream class sum
    → StandsLast old new (of_class stream class) sum
stands old new stream class sum came = record {
  topology = ap (λ (n : DeclaredNetwork). n.topology) came.beside;
  most_ports = ap (λ (n : DeclaredNetwork). n.most_ports) came.beside;
  streams = ap (λ (n : DeclaredNetwork). n.streams) came.beside;
  flows = ap (λ (n : DeclaredNetwork). n.flows) came.beside;
  along = came.sum_is;
}

-- where it has the class that it was asked for with, it stands so as it is
stands_itself : (old new : DeclaredNetwork) (stream : DeclaredStream) (class sum : ℕ)
    → IsAdmitted old new stream class sum → StandsLast old new stream sum
stands_itself old new stream class sum is =
    let last = stands old new stream class sum is.came_in in
    record {
      topology = last.topology;
      most_ports = last.most_ports;
      streams = last.streams ∙ ap (λ (s : DeclaredStream). old.streams ++ s ∷ []) (sym is.asked);
      flows = last.flows;
      along = last.along ∙ ap (λ (s : DeclaredStream). bound_along (least_certificate new) s) (sym is.asked);
    }

-- a name that differs from each is none of them
not_among : (names : List (List ℕ)) (name : List ℕ) → All (λ other. other ≢ name) names → ¬ Contains names name
not_among names name differ among = All-contains (λ other. other ≢ name) names name differ among refl

over_limit : (network : DeclaredNetwork) (stream : DeclaredStream) → told.IsOverLimit network stream
    → IsPastLimit network stream
over_limit network stream is = record {
  new_name = not_among (names_of (senders_of network)) stream.name is.free;
  over = is.over;
}

-- the reason at a place among some
there : (reasons : List Reason) (n : ℕ) (d : Reason) → n < length reasons
    → slice_get reasons n ≡ Some (slice_index_or reasons n d)
there [] n d h = absurd (omega (arith, h))
there (r ∷ reasons) zero d h = refl
there (r ∷ reasons) (suc n) d h = there reasons n d (omega (arith, h))

-- one of seven
at_each : (network : DeclaredNetwork) (stream : DeclaredStream) (reasons : List Reason) (n : ℕ)
    → AreFirstReasons network stream reasons → n < 7
    → (reason : Reason) × (slice_get reasons n ≡ Some reason)
    × IsReasonAgainst network (of_class stream (n + 1)) reason
at_each network stream [] n are below =
    absurd (let none : ◌≡◌ {A = ℕ} 0 7 = are.seven in omega (arith, none))
at_each network stream (r ∷ reasons) n are below =
    let at = are.each n r below in (
      slice_index_or (r ∷ reasons) n r,
      there (r ∷ reasons) n r (omega (arith, are.seven, below)),
      record { rules = at.rules; first = at.first },
    )

admit : AdmitIsMeant
admit = record {
  admitted = λ old new stream class sum is.
      (ap (λ (s : DeclaredStream). s.classes) is.asked, stands_itself old new stream class sum is);
  taken = λ old new stream is. (is.same, is.cause);
  full = λ old new stream is. (is.same, over_limit old stream is.cause);
  because = λ old new stream reason is.
      (is.same, record { rules = is.cause.rules; first = is.cause.first });
  not_withdrawn = λ old new stream is. is;
  not_unknown = λ old new stream is. is.cause;
  not_each = λ old new stream reasons is. is.cause;
}

lowest : LowestIsMeant
lowest = record {
  admitted = λ old new stream class sum is. (
    is.is_class.least,
    is.is_class.most,
    stands old new stream class sum is.came_in,
    λ lower some below.
        (let one = is.lower lower some below in (one.0, record { rules = one.1.rules; first = one.1.first })),
  );
  taken = λ old new stream is. (is.same, is.cause);
  full = λ old new stream is. (is.same, over_limit old stream is.cause);
  no_class = λ old new stream reasons is.
      (is.same, is.cause.seven, λ n below. at_each old stream reasons n is.cause below);
  not_withdrawn = λ old new stream is. is;
  not_unknown = λ old new stream is. is.cause;
  not_one = λ old new stream reason is. is.cause;
}

withdraw : WithdrawIsMeant
withdraw = record {
  withdrawn = λ old new name is. record {
    gone = is.stream;
    before = is.less.streams.front;
    behind = is.less.streams.back;
    named = is.named;
    were = is.less.streams.old_is;
    are = is.less.streams.new_is;
    topology = is.less.topology;
    most_ports = is.less.most_ports;
    flows = is.less.flows;
  };
  unknown = λ old new name is. (is.same, not_among (stream_names old.streams) name is.cause);
  not_admitted = λ old new name class sum is. is;
  not_taken = λ old new name is. is.cause;
  not_full = λ old new name is. is.cause;
  not_one = λ old new name reason is. is.cause;
  not_each = λ old new name reasons is. is.cause;
}

bound : BoundIsMeant
bound = record {
  done = λ net bytes text. (
    λ says. (
      says.0,
      record {
        declares = says.1.declared;
        is_network = says.1.rules;
        least_holds = says.1.holds;
        is_sound = says.1.sound;
        are_in_time = says.1.in_time;
        is_text = says.1.written;
      },
    ),
    λ says. (
      says.0,
      record {
        declared = says.1.declares;
        rules = says.1.is_network;
        holds = says.1.least_holds;
        sound = says.1.is_sound;
        in_time = says.1.are_in_time;
        written = says.1.is_text;
      },
    ),
  );
  input = λ net bytes text. (λ says. says, λ says. says);
  refused = λ net bytes text. (
    λ says. (
      says.0,
      says.1,
      record {
        declares = says.2.declared;
        is_network = says.2.rules;
        is_first = says.2.first;
        none = says.2.none_holds;
        is_text = says.2.written;
      },
    ),
    λ says. (
      says.0,
      says.1,
      record {
        declared = says.2.declares;
        rules = says.2.is_network;
        first = says.2.is_first;
        none_holds = says.2.none;
        written = says.2.is_text;
      },
    ),
  );
  not_words = λ net bytes text says. says;
  not_read = λ net bytes text says. says;
  not_written = λ net bytes text says. says;
  not_short = λ net bytes text says. says;
}

pub replies_are_meant : RepliesAreMeant
replies_are_meant = record { admit = admit; lowest = lowest; withdraw = withdraw; bound = bound }
