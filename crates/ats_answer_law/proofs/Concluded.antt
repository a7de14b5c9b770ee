-- What words come to that laws conclude.
use Rattle.std.proofs.Common.{◌≡◌, ℕ, zero, suc, ◌<◌, ◌≤◌, ◌⊎◌, List, [], ◌∷◌, length, Option, Some, None, refl, ap}
use Rattle.std.proofs.Common.{inl, inr, ◌∙◌, arith}
use Rattle.std.specs.Prelude.{slice_get, slice_index, slice_index_or, sum_by}
use Rattle.std.proofs.lemmas.Bool.{cases_lt}
use Rattle.std.proofs.lemmas.List.{nil_from_length}
use Rattle.std.proofs.lemmas.Option.{none-some, same_Some}
use Rattle.ats_network.specs.Network.{DeclaredNetwork, IsNetwork}
use Rattle.ats_network.specs.Senders.{sender_at}
use Rattle.ats_streams.specs.Stream.{DeclaredStream}
use Rattle.ats_trace.specs.declared.journey.Release.{Release}
use Rattle.ats_certificate.specs.Certificate.{Holds}
use Rattle.ats_tally.specs.declared.reason.Reason.{Reason}
use Rattle.ats_fit.specs.declared.measured.Measured.{Measured}
use Rattle.ats_gen.specs.Made.{made}
use Rattle.ats_bound.specs.Least.{least_certificate}
use Rattle.ats_bound.specs.Reason.{reason_of}
use Rattle.ats_bound.proofs.LeastHolds.{least_certificate_holds}
use Rattle.ats_bound.proofs.NoneHolds.{reason_leaves_none}
use Rattle.ats_soundness_law.proofs.TrueTime.{certificate_is_sound}
use Rattle.ats_checker.proofs.InTime.{holding_is_in_time}
use Rattle.ats_requests.specs.Laws.{IsCertified}
use Rattle.ats_buffer.specs.Buffer.{buffer_at}
use Rattle.ats_buffer.specs.Occupancy.{row_at}
use Rattle.ats_command_law.specs.AdmitMeaning.{IsSoundlyBounded}
use Rattle.ats_command_law.specs.BufferMeaning.{IsRoomAt}
use Rattle.ats_command_law.specs.FitMeaning.{IsJustEnough, StreamsHaveBursts}
use Rattle.ats_answer_law.specs.Concluded.{BuffersAreMeant, BurstsAreMeant, ConclusionsAreMeant, IsBurstOf}
use Rattle.ats_answer_law.specs.Concluded.{MadeRunsAreMeant, NeverHoldsMore, NoneMadeIsMeant, SoundBoundsAreMeant}
use Rattle.ats_answer_law.specs.Concluded.{TextsAreMeant}

-- a burst with which frames conform, and with no less, is the least one
is_least : (network : DeclaredNetwork) (releases : List Release) (i burst : ℕ)
    → IsJustEnough network releases i burst → IsBurstOf network releases i burst
is_least network releases i burst is = record {
  conforms = is.enough;
  least = λ other conforms. elim (cases_lt other burst) as (λ _. burst ≤ other) [
    | inl less ↦ absurd (is.no_less other less conforms)
    | inr enough ↦ enough
  ];
}

is_enough : (network : DeclaredNetwork) (releases : List Release) (i burst : ℕ)
    → IsBurstOf network releases i burst → IsJustEnough network releases i burst
is_enough network releases i burst is = record {
  enough = is.conforms;
  no_less = λ less below conforms. (let no : burst ≤ less = is.least less conforms in omega (arith, below, no));
}

-- for numbers past the last sender
abbrev no_measured : Measured
no_measured = record { frames = 0; sizes = None; burst_bits = None }

-- what has a burst wherever it is looked for stands among what is measured
found : (measured : List Measured) (i : ℕ) (Is : ℕ → Type 0)
    → ((d : Measured) → (burst : ℕ) × ((slice_index_or measured i d).burst_bits ≡ Some burst) × Is burst)
    → (m : Measured) × (burst : ℕ) × (slice_get measured i ≡ Some m) × (m.burst_bits ≡ Some burst) × Is burst
found [] i Is has = absurd (none-some (has no_measured).0 (has no_measured).1)
found (m ∷ measured) zero Is has = (m, (has m).0, refl, (has m).1, (has m).2)
found (m ∷ measured) (suc i) Is has = found measured i Is has

-- and what stands there is found
at : (measured : List Measured) (i : ℕ) (m d : Measured) → slice_get measured i ≡ Some m
    → slice_index_or measured i d ≡ m
at [] i m d is = absurd (none-some m is)
at (x ∷ measured) zero m d is = same_Some x m is
at (x ∷ measured) (suc i) m d is = at measured i m d is

each_found : (network : DeclaredNetwork) (releases : List Release) (measured : List Measured)
    → StreamsHaveBursts network releases measured → (i : ℕ) → i < length network.streams
    → (m : Measured) × (burst : ℕ) × (slice_get measured i ≡ Some m) × (m.burst_bits ≡ Some burst)
    × IsBurstOf network releases i burst
each_found network releases measured have i there =
    let one = found measured i (IsJustEnough network releases i) (λ d. have i d there) in
    (one.0, one.1, one.2, one.3, is_least network releases i one.1 one.4)

each_has : (network : DeclaredNetwork) (releases : List Release) (measured : List Measured)
    → ((i : ℕ) → i < length network.streams
    → (m : Measured) × (burst : ℕ) × (slice_get measured i ≡ Some m) × (m.burst_bits ≡ Some burst)
    × IsBurstOf network releases i burst)
    → StreamsHaveBursts network releases measured
each_has network releases measured each i d there =
    let one = each i there in (
      one.1,
      ap (λ (m : Measured). m.burst_bits) (at measured i one.0 d one.2) ∙ one.3,
      is_enough network releases i one.1 one.4,
    )

bursts : BurstsAreMeant
bursts = record {
  enough = λ network releases i burst is. is.enough;
  no_less = λ network releases i burst less is below. is.no_less less below;
  just = λ network releases i burst.
      (is_least network releases i burst, is_enough network releases i burst);
  each = λ network releases measured.
      (each_found network releases measured, each_has network releases measured);
}

-- more is not at most, and what is not at most is more
is_more : (most n : ℕ) → ¬ (n ≤ most) → most < n
is_more most n over = elim (cases_lt most n) as (λ _. most < n) [
  | inl more ↦ more
  | inr few ↦ absurd (over few)
]

not_most : (most n : ℕ) → most < n → ¬ (n ≤ most)
not_most most n more few = absurd (omega (arith, more, few))

-- the ports of the frames that would be made
abbrev ports_made : DeclaredNetwork → ℕ → ℕ → ℕ
ports_made network seed count =
    sum_by (λ (r : Release). length (sender_at network r.sender).ports) (made network seed count)

none_made : NoneMadeIsMeant
none_made = record {
  no_stream = λ network seed count. (
    λ none. nil_from_length network.streams none,
    λ none. ap (λ (streams : List DeclaredStream). length streams) none,
  );
  limit = λ network seed count. (
    λ why. elim why [
      | inl late ↦ inl (late.1, (late.0, late.2, late.3), late.4)
      | inr many ↦ inr (is_more 3200000 (ports_made network seed count) many)
    ],
    λ why. elim why [
      | inl late ↦ inl (late.1.0, late.0, late.1.1, late.1.2, late.2)
      | inr many ↦ inr (not_most 3200000 (ports_made network seed count) many)
    ],
  );
}

texts : TextsAreMeant
texts = record {
  of_talkers = λ told net certificate schedule order checked replayed network rows releases run. (
    λ are. (
      record {
        declares_network = are.accepted.network_declared;
        declares_rows = are.accepted.rows_declared;
        declares_releases = are.run_out.releases_declared;
        rules = are.accepted.rules;
        holds = are.accepted.holds;
        sound = are.accepted.sound;
        in_time = are.accepted.in_time;
        in_order = are.run_out.replay.is_run.by_order;
        exactly = are.run_out.replay.is_run.exactly;
        first = are.accepted.written;
        second = are.run_out.replay.written;
      },
      λ journey among stream is keeps listener below bridges.
          (let both = are.within journey among stream is keeps listener below bridges in (both.served, both.in_time)),
    ),
    λ are. record {
      accepted = record {
        network_declared = are.0.declares_network;
        rows_declared = are.0.declares_rows;
        rules = are.0.rules;
        holds = are.0.holds;
        sound = are.0.sound;
        in_time = are.0.in_time;
        written = are.0.first;
      };
      run_out = record {
        network_declared = are.0.declares_network;
        releases_declared = are.0.declares_releases;
        rules = are.0.rules;
        replay = record {
          is_run = record { by_order = are.0.in_order; exactly = are.0.exactly };
          written = are.0.second;
        };
      };
      within = λ journey among stream is keeps listener below bridges.
          (let both = are.1 journey among stream is keeps listener below bridges in
          record { served = both.0; in_time = both.1 });
    },
  );
  of_all = λ told net certificate schedule order checked replayed network rows releases run. (
    λ are. (
      record {
        declares_network = are.texts.accepted.network_declared;
        declares_rows = are.texts.accepted.rows_declared;
        declares_releases = are.texts.run_out.releases_declared;
        rules = are.texts.accepted.rules;
        holds = are.texts.accepted.holds;
        sound = are.texts.accepted.sound;
        in_time = are.texts.accepted.in_time;
        in_order = are.texts.run_out.replay.is_run.by_order;
        exactly = are.texts.run_out.replay.is_run.exactly;
        first = are.texts.accepted.written;
        second = are.texts.run_out.replay.written;
      },
      λ journey among stream is keeps listener below bridges.
          (let both = are.texts.within journey among stream is keeps listener below bridges in
          (both.served, both.in_time)),
      are.keeps,
      λ journey among stream is. (let both = are.within journey among stream is in (both.served, both.in_time)),
    ),
    λ are. record {
      texts = record {
        accepted = record {
          network_declared = are.0.declares_network;
          rows_declared = are.0.declares_rows;
          rules = are.0.rules;
          holds = are.0.holds;
          sound = are.0.sound;
          in_time = are.0.in_time;
          written = are.0.first;
        };
        run_out = record {
          network_declared = are.0.declares_network;
          releases_declared = are.0.declares_releases;
          rules = are.0.rules;
          replay = record {
            is_run = record { by_order = are.0.in_order; exactly = are.0.exactly };
            written = are.0.second;
          };
        };
        within = λ journey among stream is keeps listener below bridges.
            (let both = are.1 journey among stream is keeps listener below bridges in
            record { served = both.0; in_time = both.1 });
      };
      keeps = are.2;
      within = λ journey among stream is.
          (let both = are.3 journey among stream is in record { served = both.0; in_time = both.1 });
    },
  );
}

made_runs : MadeRunsAreMeant
made_runs net bytes seed count text network releases run = (
  λ is. record {
    declares = is.declared;
    rules = is.rules;
    are_made = is.made;
    keep = is.keeps;
    in_order = is.report.is_run.by_order;
    exactly = is.report.is_run.exactly;
    printed = is.report.written;
    by_least = λ rows holds journey among stream there.
        (let both = is.within (rows, holds) journey among stream there in (both.served, both.in_time));
    worst = is.worst;
  },
  λ is. record {
    declared = is.declares;
    rules = is.rules;
    made = is.are_made;
    keeps = is.keep;
    report = record {
      is_run = record { by_order = is.in_order; exactly = is.exactly };
      written = is.printed;
    };
    within = λ some journey among stream there.
        (let both = is.by_least some.0 some.1 journey among stream there in
        record { served = both.0; in_time = both.1 });
    worst = is.worst;
  },
)

-- what is said of room, by the nodes one by one
room_said : (network : DeclaredNetwork) (port class bits : ℕ) → IsRoomAt network port class bits
    → NeverHoldsMore network port class bits
room_said network port class bits room run legal keep time =
    room run legal (λ i there ranked.
    (let kept = keep i there ranked in record { talker = kept.0; here = kept.1; before = kept.2 })) time

room_given : (network : DeclaredNetwork) (port class bits : ℕ) → NeverHoldsMore network port class bits
    → IsRoomAt network port class bits
room_given network port class bits never run legal keep time =
    never run legal (λ i there ranked.
    (let kept = keep i there ranked in (kept.talker, kept.here, kept.before))) time

buffers : BuffersAreMeant
buffers network rows given = (
  λ are. record {
    hold = are.holds;
    one_each = are.count;
    of_rows = are.each;
    of_numbers = λ n below. room_said network (row_at rows n).port (row_at rows n).class (slice_index given n)
        (are.printed n below);
    of_ports = λ port class some. room_said network port class (buffer_at network rows port class)
        (are.everywhere port class some);
  },
  λ are. record {
    holds = are.hold;
    count = are.one_each;
    each = are.of_rows;
    printed = λ n below. room_given network (row_at rows n).port (row_at rows n).class (slice_index given n)
        (are.of_numbers n below);
    everywhere = λ port class some. room_given network port class (buffer_at network rows port class)
        (are.of_ports port class some);
  },
)

-- a network for which its least certificate holds has no reason against it
none_against : (network : DeclaredNetwork) (given : Option Reason) → reason_of network ≡ given → IsNetwork network
    → Holds network (least_certificate network) → reason_of network ≡ None
none_against network None is rules holds = is
none_against network (Some reason) is rules holds =
    absurd (reason_leaves_none network reason (least_certificate network) rules is holds)

bounded : (network : DeclaredNetwork) → IsCertified network → IsSoundlyBounded network
bounded network is =
    let holds = (least_certificate_holds network is.rules is.free).holds in
    record {
      rules = is.rules;
      holds = holds;
      sound = certificate_is_sound network (least_certificate network) is.rules holds;
      in_time = holding_is_in_time network (least_certificate network) is.rules holds;
    }

bounds : SoundBoundsAreMeant
bounds = record {
  parts = λ network is. (is.rules, is.holds, is.sound, is.in_time);
  exactly = λ network. (
    λ is. record { rules = is.rules; free = none_against network (reason_of network) refl is.rules is.holds },
    bounded network,
  );
  sound = λ network rows. (
    λ is. (is.served, is.contained),
    λ each. record { served = each.0; contained = each.1 },
  );
  in_time = λ network rows. (λ each. each, λ each. each);
}

pub conclusions_are_meant : ConclusionsAreMeant
conclusions_are_meant = record {
  bursts = bursts;
  none_made = none_made;
  texts = texts;
  made_runs = made_runs;
  buffers = buffers;
  bounds = bounds;
}
