use Rattle.ats_number_examples.specs.Parts.{PremisesAreMeant, RunsAreMeant, TimesAreMeant}

-- Each word and its parts, one way and the other.

times : TimesAreMeant
times = record {
  eligible = λ e. (λ is. is, λ is. is);
  late = λ e. (λ is. is, λ is. is);
  size = tt;
  not_sent = tt;
  sent = λ start end. (λ is. is, λ is. is);
  hop = λ hop. (
    λ is. (is.arrival, is.verdict, is.sent),
    λ is. record { arrival = is.0; verdict = is.1; sent = is.2 },
  );
  sink = λ at. (λ is. is, λ is. is);
  discard = tt;
  leg = λ leg. (λ is. (is.hops, is.ending), λ is. record { hops = is.0; ending = is.1 });
  journey = λ journey. (λ is. (is.release, is.legs), λ is. record { release = is.0; legs = is.1 });
}

runs : RunsAreMeant
runs = record {
  printable = λ network run. (λ is. (is.journeys, is.times), λ is. record { journeys = is.0; times = is.1 });
  counts = λ t. (
    λ is. (is.all_frames, is.all_sunk, is.all_late, is.all_size),
    λ is. record { all_frames = is.0; all_sunk = is.1; all_late = is.2; all_size = is.3 },
  );
  numbers = λ s. (λ is. (is.totals, is.worst), λ is. record { totals = is.0; worst = is.1 });
  no_sums = tt;
  sums = λ sums. (λ is. is, λ is. is);
  reportable = λ network run sums. (
    λ is. (is.summaries, is.bounds),
    λ is. record { summaries = is.0; bounds = is.1 },
  );
  reportable_alone = λ network run. (λ is. is.summaries, λ is. record { summaries = is; bounds = tt });
}

pub premises_are_meant : PremisesAreMeant
premises_are_meant = record { times = times; runs = runs }
