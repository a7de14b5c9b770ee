use Rattle.std.proofs.Common.{◌≡◌, ◌<◌, false, true, List, [], length, take, refl, inl, inr, lit<}
use Rattle.std.specs.Prelude.{codes, Ok, Err}
use Rattle.std.specs.Fmt.{digits}
use Rattle.std.specs.List.{list_all}
use Rattle.std.proofs.lemmas.Bool.{false≢true}
use Rattle.ats_network.specs.Network.{DeclaredNetwork, senders_of}
use Rattle.ats_network.specs.Senders.{sender_at}
use Rattle.ats_trace.specs.Talker.{IsDeclaredSize, frames_of, talker_of}
use Rattle.ats_trace.specs.declared.journey.Release.{Release}
use Rattle.ats_conform.specs.Broken.{Breaks}
use Rattle.ats_conform.specs.Releases.{AllKeepBuckets, no_release}
use Rattle.ats_conform.specs.declared.broken.Broken.TheVariants.{Size}
use Rattle.ats_command_due.specs.Conformed.{IsAnswerTo, JudgesScheduled}
use Rattle.ats_command_due.specs.Due.{IsConformAnswer}
use Rattle.ats_command_due.specs.Replayed.{scheduled_in}
use Rattle.ats_examples.proofs.BucketTest.{conforms_by, is_sized, stream_conforms}
use Rattle.ats_examples.proofs.Tests.{all_by, below_by, each_below}
use Rattle.ats_call_examples.specs.Files.{done_with, faulty_with, long_schedule, network, no_text, refused_with, rows}
use Rattle.ats_call_examples.specs.Files.{schedule, told}
use Rattle.ats_call_examples.specs.Judged.{ConformIsAnswered}
use Rattle.ats_call_examples.proofs.Line.{line, one_release}
use Rattle.ats_call_examples.proofs.Scheduled.{long_schedule_is, neither, no_schedule, schedule_is, scheduled}
use Rattle.ats_call_examples.proofs.Telling.{of_declared, two_told}

-- A schedule by which the station keeps its bucket, and one by which it does not.

-- each stream conforms, and each release has a declared size
all_keep_by : (over : DeclaredNetwork) (releases : List Release)
    → each_below (stream_conforms over releases) (length over.streams) ≡ true
    → list_all (is_sized over) releases ≡ true → AllKeepBuckets over releases
all_keep_by over releases conform sized station = record {
  streams = λ i there begins. conforms_by (sender_at over i).rate (sender_at over i).burst_bits
      (frames_of i releases) (below_by (stream_conforms over releases) (length over.streams) conform i there);
  sizes = all_by (λ (r : Release). r.sender < length (senders_of over) → talker_of over r.sender ≡ station
      → IsDeclaredSize over r) (is_sized over) (λ r h there begins. h) releases sized;
}

pub kept : AllKeepBuckets line (one_release 1522)
kept = all_keep_by line (one_release 1522) refl refl

not_sized : ¬ AllKeepBuckets line (take 1 (one_release 1523))
not_sized keeps =
    let fits : false ≡ true = (keeps 0).sizes 0 no_release (lit< tt) (lit< tt) refl in
    absurd (false≢true fits)

breaks : Breaks line (one_release 1523) (Size 0)
breaks = record {
  first = record {
    within = lit< tt;
    before = all_keep_by line (take 0 (one_release 1523)) refl refl;
    broken = not_sized;
  };
  size = false≢true;
}

pub conforms : IsConformAnswer (codes "n") (codes "s") network schedule (done_with (codes "conforms 1\n"))
unfolding digits
conforms = of_declared (IsAnswerTo JudgesScheduled) (scheduled_in (codes "n") (codes "s") network schedule)
    (Ok (scheduled 1522))
    (done_with (codes "conforms 1\n")) schedule_is (inl (record { keeps = kept; done = refl }))

is_broken : IsConformAnswer (codes "n") (codes "s") network long_schedule (refused_with (codes "refused size 0\n"))
unfolding digits
is_broken = of_declared (IsAnswerTo JudgesScheduled) (scheduled_in (codes "n") (codes "s") network long_schedule)
    (Ok (scheduled 1523))
    (refused_with (codes "refused size 0\n")) long_schedule_is
    (inr (Size 0, record { breaks = breaks; refused = refl }))

has_none : IsConformAnswer (codes "n") (codes "s") network rows (faulty_with (codes "input s bad-row 1\n"))
has_none = of_declared (IsAnswerTo JudgesScheduled) (scheduled_in (codes "n") (codes "s") network rows)
    (Err (faulty_with (codes "input s bad-row 1\n"))) (faulty_with (codes "input s bad-row 1\n")) no_schedule refl

has_no_network : IsConformAnswer (codes "n") (codes "s") no_text rows (faulty_with (codes "input n not-toml\n"))
has_no_network = of_declared (IsAnswerTo JudgesScheduled) (scheduled_in (codes "n") (codes "s") no_text rows)
    (Err (faulty_with (codes "input n not-toml\n"))) (faulty_with (codes "input n not-toml\n")) neither refl

pub conform_is_answered : ConformIsAnswered
conform_is_answered = record {
  done = record {
    is_told = two_told (told network [] schedule) (codes "n") (codes "s") refl refl;
    answers = conforms;
  };
  refused = record {
    is_told = two_told (told network [] long_schedule) (codes "n") (codes "s") refl refl;
    answers = is_broken;
  };
  faulty = record { is_told = two_told (told network [] rows) (codes "n") (codes "s") refl refl; answers = has_none };
  both_faulty = record {
    is_told = two_told (told no_text [] rows) (codes "n") (codes "s") refl refl;
    answers = has_no_network;
  };
}
