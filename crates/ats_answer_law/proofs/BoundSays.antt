use Rattle.std.proofs.Common.{refl}
use Rattle.ats_answer_law.proofs.Either.{either}
use Rattle.ats_answer_law.specs.BoundSays.{AdmitIsMeant, BoundAnswersAreMeant, BoundWordsAreMeant}
use Rattle.ats_answer_law.specs.BoundSays.{BufferAnswersAreMeant, CheckIsMeant, ExplainIsMeant, LrqBoundIsMeant}
use Rattle.ats_answer_law.specs.BoundSays.{LrqCheckIsMeant, LrqShapeIsMeant, PeakAnswersAreMeant, SettingsAreMeant}
use Rattle.ats_answer_law.specs.BoundSays.{ShapeIsMeant, ShowIsMeant}

-- What an answer to each command that bounds, checks, admits or shows says, by its status and both ways: each part is
-- written out, and there are no others. Of `bound` this is `BoundIsMeant`.

check_is_meant : CheckIsMeant
check_is_meant = record {
  done = λ net certificate net_bytes certificate_bytes text. (
    λ is. (
      is.0,
      is.1,
      is.2.network_declared,
      is.2.rows_declared,
      is.2.rules,
      is.2.holds,
      is.2.sound,
      is.2.in_time,
      is.2.written,
    ),
    λ is. (
      is.0,
      is.1,
      record {
        network_declared = is.2;
        rows_declared = is.3;
        rules = is.4;
        holds = is.5;
        sound = is.6;
        in_time = is.7;
        written = is.8;
      },
    ),
  );
  input = λ net certificate net_bytes certificate_bytes text. (
    λ is. either (λ is. is) (λ is. (is.0, is.1.network_declared, is.1.no_rows)) is,
    λ is. either (λ is. is) (λ is. (is.0, record { network_declared = is.1; no_rows = is.2 })) is,
  );
  refused = λ net certificate net_bytes certificate_bytes text. (
    λ is. (
      is.0,
      is.1,
      is.2,
      is.3.network_declared,
      is.3.rows_declared,
      is.3.rules,
      is.3.first,
      is.3.fails,
      is.3.written,
    ),
    λ is. (
      is.0,
      is.1,
      is.2,
      record {
        network_declared = is.3;
        rows_declared = is.4;
        rules = is.5;
        first = is.6;
        fails = is.7;
        written = is.8;
      },
    ),
  );
  never = λ net certificate net_bytes certificate_bytes text. (λ is. is, λ is. is, λ is. is, λ is. is);
}

explain_is_meant : ExplainIsMeant
explain_is_meant = record {
  done = λ net bytes text. (
    λ is. (is.0, is.1.declared, is.1.rules, is.1.carries, is.1.adds_up, is.1.clear, is.1.written),
    λ is. (
      is.0,
      record {
        declared = is.1;
        rules = is.2;
        carries = is.3;
        adds_up = is.4;
        clear = is.5;
        written = is.6;
      },
    ),
  );
  input = λ net bytes text. (
    λ is. is,
    λ is. is,
  );
  refused = λ net bytes text. (
    λ is. (is.0, is.1, is.2, is.3, is.4.declared, is.4.rules, is.4.first, is.4.none_holds, is.4.written),
    λ is. (
      is.0,
      is.1,
      is.2,
      is.3,
      record {
        declared = is.4;
        rules = is.5;
        first = is.6;
        none_holds = is.7;
        written = is.8;
      },
    ),
  );
  never = λ net bytes text. (λ is. is, λ is. is, λ is. is, λ is. is);
}

admit_is_meant : AdmitIsMeant
admit_is_meant = record {
  done = λ net requests net_bytes requests_bytes text. (
    λ is. (is.0, is.1, is.2.network_declared, is.2.requests_made, is.2.sound, is.2.answered, is.2.written),
    λ is. (
      is.0,
      is.1,
      record {
        network_declared = is.2;
        requests_made = is.3;
        sound = is.4;
        answered = is.5;
        written = is.6;
      },
    ),
  );
  input = λ net requests net_bytes requests_bytes text. (
    λ is. either (λ is. is) (λ is. (is.0, is.1.network_declared, is.1.no_requests)) is,
    λ is. either (λ is. is) (λ is. (is.0, record { network_declared = is.1; no_requests = is.2 })) is,
  );
  refused = λ net requests net_bytes requests_bytes text. (
    λ is. (
      is.0,
      is.1,
      is.2,
      is.3.network_declared,
      is.3.requests_made,
      is.3.rules,
      is.3.first,
      is.3.none_holds,
      is.3.written,
    ),
    λ is. (
      is.0,
      is.1,
      is.2,
      record {
        network_declared = is.3;
        requests_made = is.4;
        rules = is.5;
        first = is.6;
        none_holds = is.7;
        written = is.8;
      },
    ),
  );
  never = λ net requests net_bytes requests_bytes text. (λ is. is, λ is. is, λ is. is, λ is. is);
}

buffer_answers_are_meant : BufferAnswersAreMeant
buffer_answers_are_meant = record {
  done = λ net certificate net_bytes certificate_bytes text. (
    λ is. (is.0, is.1, is.2.network_declared, is.2.rows_declared, is.2.rules, is.2.buffers, is.2.written),
    λ is. (
      is.0,
      is.1,
      record {
        network_declared = is.2;
        rows_declared = is.3;
        rules = is.4;
        buffers = is.5;
        written = is.6;
      },
    ),
  );
  input = λ net certificate net_bytes certificate_bytes text. (
    λ is. either (λ is. is) (λ is. (is.0, is.1.network_declared, is.1.no_rows)) is,
    λ is. either (λ is. is) (λ is. (is.0, record { network_declared = is.1; no_rows = is.2 })) is,
  );
  refused = λ net certificate net_bytes certificate_bytes text. (
    λ is. (
      is.0,
      is.1,
      is.2,
      is.3.network_declared,
      is.3.rows_declared,
      is.3.rules,
      is.3.first,
      is.3.fails,
      is.3.written,
    ),
    λ is. (
      is.0,
      is.1,
      is.2,
      record {
        network_declared = is.3;
        rows_declared = is.4;
        rules = is.5;
        first = is.6;
        fails = is.7;
        written = is.8;
      },
    ),
  );
  never = λ net certificate net_bytes certificate_bytes text. (λ is. is, λ is. is, λ is. is, λ is. is);
}

peak_answers_are_meant : PeakAnswersAreMeant
peak_answers_are_meant = record {
  done = λ net certificate schedule net_bytes certificate_bytes schedule_bytes order text. (
    λ is. (
      is.0,
      is.1,
      is.2,
      is.3,
      is.4,
      is.5.network_declared,
      is.5.rows_declared,
      is.5.releases_declared,
      is.5.rules,
      is.5.buffers,
      is.5.held_run,
      is.5.fit,
    ),
    λ is. (
      is.0,
      is.1,
      is.2,
      is.3,
      is.4,
      record {
        network_declared = is.5;
        rows_declared = is.6;
        releases_declared = is.7;
        rules = is.8;
        buffers = is.9;
        held_run = is.10;
        fit = is.11;
      },
    ),
  );
  input = λ net certificate schedule net_bytes certificate_bytes schedule_bytes order text. (
    λ is. either (λ is. is) (λ is. either (λ is. (is.0, is.1.network_declared, is.1.no_rows))
        (λ is. (is.0, is.1, is.2.network_declared, is.2.rows_declared, is.2.no_releases)) is) is,
    λ is. either (λ is. is) (λ is. either (λ is. (is.0, record { network_declared = is.1; no_rows = is.2 }))
        (λ is. (is.0, is.1, record { network_declared = is.2; rows_declared = is.3; no_releases = is.4 })) is) is,
  );
  refused = λ net certificate schedule net_bytes certificate_bytes schedule_bytes order text. (
    λ is. (is.0, is.1, is.2, is.3.refused, is.3.releases_declared),
    λ is. (is.0, is.1, is.2, record { refused = is.3; releases_declared = is.4 }),
  );
  never = λ net certificate schedule net_bytes certificate_bytes schedule_bytes order text.
      (λ is. is, λ is. is, λ is. is, λ is. is);
}

settings_are_meant : SettingsAreMeant
settings_are_meant = record {
  done = λ net bytes text. (
    λ is. (
      is.0,
      is.1,
      is.2.declared,
      is.2.rules,
      is.2.are,
      is.2.only,
      is.2.true_of,
      is.2.named,
      is.2.enough,
      is.2.written,
    ),
    λ is. (
      is.0,
      is.1,
      record {
        declared = is.2;
        rules = is.3;
        are = is.4;
        only = is.5;
        true_of = is.6;
        named = is.7;
        enough = is.8;
        written = is.9;
      },
    ),
  );
  input = λ net bytes text. (
    λ is. is,
    λ is. is,
  );
  not_refused = λ net bytes text is. is;
  never = λ net bytes text. (λ is. is, λ is. is, λ is. is, λ is. is);
}

show_is_meant : ShowIsMeant
show_is_meant = record {
  done = λ net bytes text. (
    λ is. (is.0, is.1.declared, is.1.rules, is.1.written),
    λ is. (is.0, record { declared = is.1; rules = is.2; written = is.3 }),
  );
  input = λ net bytes text. (
    λ is. is,
    λ is. is,
  );
  not_refused = λ net bytes text is. is;
  never = λ net bytes text. (λ is. is, λ is. is, λ is. is, λ is. is);
}

shape_is_meant : ShapeIsMeant
shape_is_meant = record {
  done = λ file bytes text. (
    λ is. (is.0, is.1.declared, is.1.written),
    λ is. (is.0, record { declared = is.1; written = is.2 }),
  );
  input = λ file bytes text. (
    λ is. is,
    λ is. is,
  );
  not_refused = λ file bytes text is. is;
  never = λ file bytes text. (λ is. is, λ is. is, λ is. is, λ is. is);
}

lrq_shape_is_meant : LrqShapeIsMeant
lrq_shape_is_meant = record {
  done = λ file bytes text. (
    λ is. (is.0, is.1.declared, is.1.conforms, is.1.written),
    λ is. (is.0, record { declared = is.1; conforms = is.2; written = is.3 }),
  );
  input = λ file bytes text. (
    λ is. is,
    λ is. is,
  );
  not_refused = λ file bytes text is. is;
  never = λ file bytes text. (λ is. is, λ is. is, λ is. is, λ is. is);
}

lrq_bound_is_meant : LrqBoundIsMeant
lrq_bound_is_meant = record {
  done = λ net bytes text. (
    λ is. (is.0, is.1.declared, is.1.rules, is.1.holds, is.1.sound, is.1.in_time, is.1.written),
    λ is. (
      is.0,
      record {
        declared = is.1;
        rules = is.2;
        holds = is.3;
        sound = is.4;
        in_time = is.5;
        written = is.6;
      },
    ),
  );
  input = λ net bytes text. (
    λ is. is,
    λ is. is,
  );
  refused = λ net bytes text. (
    λ is. (is.0, is.1, is.2.declared, is.2.rules, is.2.first, is.2.none_holds, is.2.written),
    λ is. (is.0, is.1, record { declared = is.2; rules = is.3; first = is.4; none_holds = is.5; written = is.6 }),
  );
  never = λ net bytes text. (λ is. is, λ is. is, λ is. is, λ is. is);
}

lrq_check_is_meant : LrqCheckIsMeant
lrq_check_is_meant = record {
  done = λ net certificate net_bytes certificate_bytes text. (
    λ is. (is.0, is.1, is.2.rules, is.2.holds, is.2.sound),
    λ is. (is.0, is.1, record { rules = is.2; holds = is.3; sound = is.4 }),
  );
  input = λ net certificate net_bytes certificate_bytes text. (
    λ is. either (λ is. is) (λ is. (is.0, is.1.network_declared, is.1.no_rows)) is,
    λ is. either (λ is. is) (λ is. (is.0, record { network_declared = is.1; no_rows = is.2 })) is,
  );
  refused = λ net certificate net_bytes certificate_bytes text. (
    λ is. (
      is.0,
      is.1,
      is.2,
      is.3.network_declared,
      is.3.rows_declared,
      is.3.rules,
      is.3.first,
      is.3.fails,
      is.3.written,
    ),
    λ is. (
      is.0,
      is.1,
      is.2,
      record {
        network_declared = is.3;
        rows_declared = is.4;
        rules = is.5;
        first = is.6;
        fails = is.7;
        written = is.8;
      },
    ),
  );
  never = λ net certificate net_bytes certificate_bytes text. (λ is. is, λ is. is, λ is. is, λ is. is);
}

bound_words_are_meant : BoundWordsAreMeant
bound_words_are_meant = record {
  promised = λ net certificate net_bytes certificate_bytes text network rows. (
    λ is. (is.network_declared, is.rows_declared, is.is_sound),
    λ is. record { network_declared = is.0; rows_declared = is.1; is_sound = is.2 },
  );
  answered = λ network asked. (
    λ is. (is.as_many, is.each),
    λ is. record { as_many = is.0; each = is.1 },
  );
  after = λ network asked k. refl;
}

pub bound_answers_are_meant : BoundAnswersAreMeant
bound_answers_are_meant = record {
  check = check_is_meant;
  explain = explain_is_meant;
  admit = admit_is_meant;
  buffers = buffer_answers_are_meant;
  peaks = peak_answers_are_meant;
  settings = settings_are_meant;
  show = show_is_meant;
  shape = shape_is_meant;
  lrq_shape = lrq_shape_is_meant;
  lrq_bound = lrq_bound_is_meant;
  lrq_check = lrq_check_is_meant;
  bound_words = bound_words_are_meant;
}
