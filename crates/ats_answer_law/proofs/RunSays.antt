use Rattle.ats_answer_law.proofs.Either.{either}
use Rattle.ats_answer_law.specs.RunSays.{CaptureIsMeant, ConformIsMeant, FitIsMeant, GenerateIsMeant, RecordIsMeant}
use Rattle.ats_answer_law.specs.RunSays.{ReleasesAreMeant, ReplayIsMeant, RunAnswersAreMeant, RunWordsAreMeant}
use Rattle.ats_answer_law.specs.RunSays.{WitnessIsMeant}

-- What an answer to each command that runs frames, makes them or judges a schedule says, by its status and both ways:
-- each part is written out, and there are no others.

replay_is_meant : ReplayIsMeant
replay_is_meant = record {
  done = λ net schedule net_bytes schedule_bytes order text. (
    λ is. (is.0, is.1, is.2, is.3.network_declared, is.3.releases_declared, is.3.rules, is.3.replay),
    λ is. (
      is.0,
      is.1,
      is.2,
      record {
        network_declared = is.3;
        releases_declared = is.4;
        rules = is.5;
        replay = is.6;
      },
    ),
  );
  input = λ net schedule net_bytes schedule_bytes order text. (
    λ is. either (λ is. is) (λ is. (is.0, is.1.network_declared, is.1.no_releases)) is,
    λ is. either (λ is. is) (λ is. (is.0, record { network_declared = is.1; no_releases = is.2 })) is,
  );
  not_refused = λ net schedule net_bytes schedule_bytes order text is. is;
  never = λ net schedule net_bytes schedule_bytes order text. (λ is. is, λ is. is, λ is. is, λ is. is);
}

capture_is_meant : CaptureIsMeant
capture_is_meant = record {
  done = λ net station file net_bytes file_bytes order text. (
    λ is. (is.0, is.1, is.2, is.3, is.4, is.5.network_declared, is.5.named, is.5.captured, is.5.rules, is.5.replay),
    λ is. (
      is.0,
      is.1,
      is.2,
      is.3,
      is.4,
      record {
        network_declared = is.5;
        named = is.6;
        captured = is.7;
        rules = is.8;
        replay = is.9;
      },
    ),
  );
  input = λ net station file net_bytes file_bytes order text. (
    λ is. either (λ is. is) (λ is. (is.0, is.1, is.2.network_declared, is.2.named, is.2.no_traffic)) is,
    λ is. either (λ is. is)
        (λ is. (is.0, is.1, record { network_declared = is.2; named = is.3; no_traffic = is.4 })) is,
  );
  refused = λ net station file net_bytes file_bytes order text. (
    λ is. (is.0, is.1.network_declared, is.1.no_station, is.1.written),
    λ is. (is.0, record { network_declared = is.1; no_station = is.2; written = is.3 }),
  );
  never = λ net station file net_bytes file_bytes order text. (λ is. is, λ is. is, λ is. is, λ is. is);
}

record_is_meant : RecordIsMeant
record_is_meant = record {
  done = λ net schedule port net_bytes schedule_bytes order text. (
    λ is. (
      is.0,
      is.1,
      is.2,
      is.3,
      is.4.network_declared,
      is.4.named,
      is.4.releases_declared,
      is.4.rules,
      is.4.recorded,
      is.4.reads_back,
    ),
    λ is. (
      is.0,
      is.1,
      is.2,
      is.3,
      record {
        network_declared = is.4;
        named = is.5;
        releases_declared = is.6;
        rules = is.7;
        recorded = is.8;
        reads_back = is.9;
      },
    ),
  );
  input = λ net schedule port net_bytes schedule_bytes order text. (
    λ is. either (λ is. is) (λ is. (is.0, is.1, is.2.network_declared, is.2.named, is.2.no_releases)) is,
    λ is. either (λ is. is)
        (λ is. (is.0, is.1, record { network_declared = is.2; named = is.3; no_releases = is.4 })) is,
  );
  refused = λ net schedule port net_bytes schedule_bytes order text. (
    λ is. (is.0, is.1.network_declared, is.1.no_port, is.1.written),
    λ is. (is.0, record { network_declared = is.1; no_port = is.2; written = is.3 }),
  );
  never = λ net schedule port net_bytes schedule_bytes order text. (λ is. is, λ is. is, λ is. is, λ is. is);
}

releases_are_meant : ReleasesAreMeant
releases_are_meant = record {
  done = λ net station file net_bytes file_bytes text. (
    λ is. (
      is.0,
      is.1,
      is.2,
      is.3,
      is.4.network_declared,
      is.4.named,
      is.4.captured,
      is.4.rules,
      is.4.may_be_run,
      is.4.few_ports,
      is.4.written,
      is.4.reads_back,
    ),
    λ is. (
      is.0,
      is.1,
      is.2,
      is.3,
      record {
        network_declared = is.4;
        named = is.5;
        captured = is.6;
        rules = is.7;
        may_be_run = is.8;
        few_ports = is.9;
        written = is.10;
        reads_back = is.11;
      },
    ),
  );
  input = λ net station file net_bytes file_bytes text. (
    λ is. either (λ is. is) (λ is. (is.0, is.1, is.2.network_declared, is.2.named, is.2.no_traffic)) is,
    λ is. either (λ is. is)
        (λ is. (is.0, is.1, record { network_declared = is.2; named = is.3; no_traffic = is.4 })) is,
  );
  refused = λ net station file net_bytes file_bytes text. (
    λ is. (is.0, is.1.network_declared, is.1.no_station, is.1.written),
    λ is. (is.0, record { network_declared = is.1; no_station = is.2; written = is.3 }),
  );
  never = λ net station file net_bytes file_bytes text. (λ is. is, λ is. is, λ is. is, λ is. is);
}

generate_is_meant : GenerateIsMeant
generate_is_meant = record {
  done = λ net bytes seed count text. (
    λ is. (is.0, is.1, is.2, is.3.declared, is.3.rules, is.3.made, is.3.keeps, is.3.report, is.3.within, is.3.worst),
    λ is. (
      is.0,
      is.1,
      is.2,
      record {
        declared = is.3;
        rules = is.4;
        made = is.5;
        keeps = is.6;
        report = is.7;
        within = is.8;
        worst = is.9;
      },
    ),
  );
  input = λ net bytes seed count text. (
    λ is. is,
    λ is. is,
  );
  refused = λ net bytes seed count text. (
    λ is. (is.0, is.1, is.2.declared, is.2.rules, is.2.none_made, is.2.written),
    λ is. (is.0, is.1, record { declared = is.2; rules = is.3; none_made = is.4; written = is.5 }),
  );
  never = λ net bytes seed count text. (λ is. is, λ is. is, λ is. is, λ is. is);
}

witness_is_meant : WitnessIsMeant
witness_is_meant = record {
  done = λ net name bytes text. (
    λ is. (is.0, is.1, is.2, is.3.declared, is.3.named, is.3.rules, is.3.holds, is.3.of_stream, is.3.for_each),
    λ is. (
      is.0,
      is.1,
      is.2,
      record {
        declared = is.3;
        named = is.4;
        rules = is.5;
        holds = is.6;
        of_stream = is.7;
        for_each = is.8;
      },
    ),
  );
  input = λ net name bytes text. (
    λ is. is,
    λ is. is,
  );
  refused = λ net name bytes text. (
    λ is. either (λ is. (is.0, is.1.declared, is.1.no_stream, is.1.written))
        (λ is. (is.0, is.1, is.2, is.3.named, is.3.none)) is,
    λ is. either (λ is. (is.0, record { declared = is.1; no_stream = is.2; written = is.3 }))
        (λ is. (is.0, is.1, is.2, record { named = is.3; none = is.4 })) is,
  );
  never = λ net name bytes text. (λ is. is, λ is. is, λ is. is, λ is. is);
}

conform_is_meant : ConformIsMeant
conform_is_meant = record {
  done = λ net schedule net_bytes schedule_bytes text. (
    λ is. (is.0, is.1, is.2.network_declared, is.2.releases_declared, is.2.rules, is.2.keeps, is.2.written),
    λ is. (
      is.0,
      is.1,
      record {
        network_declared = is.2;
        releases_declared = is.3;
        rules = is.4;
        keeps = is.5;
        written = is.6;
      },
    ),
  );
  input = λ net schedule net_bytes schedule_bytes text. (
    λ is. either (λ is. is) (λ is. (is.0, is.1.network_declared, is.1.no_releases)) is,
    λ is. either (λ is. is) (λ is. (is.0, record { network_declared = is.1; no_releases = is.2 })) is,
  );
  refused = λ net schedule net_bytes schedule_bytes text. (
    λ is. (
      is.0,
      is.1,
      is.2,
      is.3.network_declared,
      is.3.releases_declared,
      is.3.rules,
      is.3.breaks,
      is.3.not_kept,
      is.3.written,
    ),
    λ is. (
      is.0,
      is.1,
      is.2,
      record {
        network_declared = is.3;
        releases_declared = is.4;
        rules = is.5;
        breaks = is.6;
        not_kept = is.7;
        written = is.8;
      },
    ),
  );
  never = λ net schedule net_bytes schedule_bytes text. (λ is. is, λ is. is, λ is. is, λ is. is);
}

fit_is_meant : FitIsMeant
fit_is_meant = record {
  done = λ net schedule net_bytes schedule_bytes text. (
    λ is. (
      is.0,
      is.1,
      is.2,
      is.3.network_declared,
      is.3.releases_declared,
      is.3.rules,
      is.3.are_measured,
      is.3.bursts,
      is.3.none_over,
      is.3.written,
    ),
    λ is. (
      is.0,
      is.1,
      is.2,
      record {
        network_declared = is.3;
        releases_declared = is.4;
        rules = is.5;
        are_measured = is.6;
        bursts = is.7;
        none_over = is.8;
        written = is.9;
      },
    ),
  );
  input = λ net schedule net_bytes schedule_bytes text. (
    λ is. either (λ is. is) (λ is. (is.0, is.1.network_declared, is.1.no_releases)) is,
    λ is. either (λ is. is) (λ is. (is.0, record { network_declared = is.1; no_releases = is.2 })) is,
  );
  not_refused = λ net schedule net_bytes schedule_bytes text is. is;
  never = λ net schedule net_bytes schedule_bytes text. (λ is. is, λ is. is, λ is. is, λ is. is);
}

run_words_are_meant : RunWordsAreMeant
run_words_are_meant = record {
  counted = λ file bytes network place traffic records. (
    λ is. (is.read, is.none_over, is.counts),
    λ is. record { read = is.0; none_over = is.1; counts = is.2 },
  );
  shown = λ network stream listener found. (
    λ is. (is.happen, is.within, is.keeps),
    λ is. record { happen = is.0; within = is.1; keeps = is.2 },
  );
}

pub run_answers_are_meant : RunAnswersAreMeant
run_answers_are_meant = record {
  replay = replay_is_meant;
  capture = capture_is_meant;
  port_record = record_is_meant;
  releases = releases_are_meant;
  generate = generate_is_meant;
  witness = witness_is_meant;
  conform = conform_is_meant;
  fit = fit_is_meant;
  run_words = run_words_are_meant;
}
