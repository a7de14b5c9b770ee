-- Talkers, journeys and runs at edges, by computation.
use Rattle.std.proofs.Common.{◌≡◌, ℕ, ◌<◌, ◌≤◌, Bool, true, false, ◌||◌, List, [], ◌∷◌, length, arith, ap}
use Rattle.std.proofs.Common.{lit<, lit≤, refl, subst}
use Rattle.std.specs.Prelude.{◌==◌, codes, not, slice_index_or}
use Rattle.std.specs.List.{list_all}
use Rattle.std.proofs.lemmas.Bool.{false≢true}
use Rattle.ats_network.specs.Network.{DeclaredNetwork, senders_of}
use Rattle.ats_network.specs.Path.{IsValidPath}
use Rattle.ats_network.specs.Sender.{stream_sender}
use Rattle.ats_network.specs.Senders.{sender_at}
use Rattle.ats_network_table.specs.declared.format.Format.TheVariants.{Two}
use Rattle.ats_network_toml.specs.Document.{path}
use Rattle.ats_certificate.specs.declared.row.Row.{Row}
use Rattle.ats_streams.specs.Stream.{DeclaredStream}
use Rattle.ats_trace.specs.Journey.{Travel}
use Rattle.ats_trace.specs.Run.{HasReleases}
use Rattle.ats_trace.specs.Talker.{IsDeclaredSize, KeepsBuckets, frames_of, talker_of}
use Rattle.ats_trace.specs.Ways.{listener_count, route_to, way_to}
use Rattle.ats_trace.specs.declared.journey.Release.{Release}
use Rattle.ats_checker.specs.InTime.{ArrivesInTime, ArrivesInTimeOn}
use Rattle.ats_examples.specs.Networks.{fork}
use Rattle.ats_examples.specs.Rows.{line_rows}
use Rattle.ats_examples.specs.Runs.{first_goes_first}
use Rattle.ats_examples.proofs.BucketTest.{conforms_by, is_sized, stream_conforms, stream_keeps}
use Rattle.ats_examples.proofs.NetworkTest.{valid_from_by}
use Rattle.ats_examples.proofs.PortTest.{of_eq}
use Rattle.ats_examples.proofs.Tests.{all_by, below_by, each_below, implied}
use Rattle.ats_file_examples.proofs.Steps.{legs_is, path_is}
use Rattle.ats_edge_examples.specs.Runs.{LastReleaseIsMade, LastVerdictCounts, LongMovesNothing, PathsAreShort}
use Rattle.ats_edge_examples.specs.Runs.{first_flow, first_stream}
use Rattle.ats_edge_examples.specs.Runs.{ReleasesAreInOrder, RunsAreAtEdges, TalkersAreApart, TimeIsOver}
use Rattle.ats_edge_examples.specs.Runs.{arrives, ends_early, pair, release, second_is_long, until}

-- a release of another station's stream passes
abbrev own_sized : DeclaredNetwork → ℕ → Release → Bool
own_sized network station r = not (talker_of network r.sender == station) || is_sized network r

own_keeps : (network : DeclaredNetwork) (releases : List Release) (station : ℕ)
    → each_below (stream_keeps network releases station) (length network.streams) ≡ true
    → list_all (own_sized network station) releases ≡ true → KeepsBuckets network releases station
own_keeps network releases station conform sized = record {
  streams = λ i there begins.
      conforms_by (sender_at network i).rate (sender_at network i).burst_bits (frames_of i releases)
      (implied (talker_of network i == station) (stream_conforms network releases i)
      (below_by (stream_keeps network releases station) (length network.streams) conform i there)
      (of_eq (talker_of network i) station begins));
  sizes = all_by (λ (r : Release). r.sender < length (senders_of network) → talker_of network r.sender ≡ station
      → IsDeclaredSize network r) (own_sized network station)
      (λ r h there begins. implied (talker_of network r.sender == station) (is_sized network r) h
      (of_eq (talker_of network r.sender) station begins)) releases sized;
}

no_release : Release
no_release = release 0 0 0

not_own : ¬ KeepsBuckets fork second_is_long 2
not_own h =
    let fits : false ≡ true = h.sizes 1 no_release (lit< tt) (lit< tt) refl in
    absurd (false≢true fits)

talkers_are_apart : TalkersAreApart
talkers_are_apart = record { other = own_keeps fork second_is_long 0 refl refl; own = not_own }

-- a frame of a stream with one listener arrives in time where it does so there
at_one : (rows : List Row) (stream : DeclaredStream) (journey : Travel) → listener_count (stream_sender stream) ≡ 1
    → ArrivesInTimeOn rows stream journey.release (route_to (stream_sender stream) 0)
    (way_to (stream_sender stream) journey 0).ending
    → ArrivesInTime rows stream journey
at_one rows stream journey one h = λ listener below.
    subst (λ (n : ℕ). ArrivesInTimeOn rows stream journey.release (route_to (stream_sender stream) n)
    (way_to (stream_sender stream) journey n).ending) (let e : 0 ≡ listener = omega (arith, one, below) in e) h

not_until : ¬ ArrivesInTime line_rows (until 26671) (arrives 0 26672000)
not_until h = let within : 26672000 ≤ 26671000 = (h 0 (lit< tt)).deadline in absurd (omega (arith, within))

not_later : ¬ ArrivesInTime line_rows (until 1000000) (arrives 0 26672001)
not_later h = let within : 26672001 ≤ 26672000 = (h 0 (lit< tt)).sum in absurd (omega (arith, within))

not_discarded : ¬ ArrivesInTime line_rows (until 1000000) ends_early
not_discarded h = absurd (h 0 (lit< tt)).sum

time_is_over : TimeIsOver
time_is_over = record {
  at_last = at_one line_rows (until 26672) (arrives 0 26672000) refl (record { sum = lit≤ tt; deadline = lit≤ tt });
  since = at_one line_rows (until 26672) (arrives 7 26672007) refl (record { sum = lit≤ tt; deadline = lit≤ tt });
  deadline = not_until;
  bounds = not_later;
  discarded = not_discarded;
}

-- the sender of the first of these releases
abbrev first_sender : List Release → ℕ
first_sender releases = (slice_index_or releases 0 no_release).sender

not_turned : ¬ HasReleases (release 0 1 1522 ∷ release 0 0 1522 ∷ []) first_goes_first
not_turned h = let same : 0 ≡ 1 = ap first_sender h in absurd (omega (arith, same))

releases_are_in_order : ReleasesAreInOrder
releases_are_in_order = record { so = refl; turned = not_turned }

last_verdict_counts : LastVerdictCounts
last_verdict_counts = record { late = refl; size = refl }

long_moves_nothing : LongMovesNothing
long_moves_nothing = record { verdicts = refl; waits = refl }

there_is : IsValidPath pair (0 ∷ [])
there_is = valid_from_by pair 0 (0 ∷ []) refl

back_is : IsValidPath pair (1 ∷ [])
back_is = valid_from_by pair 1 (1 ∷ []) refl

paths_are_short : PathsAreShort
paths_are_short = record {
  valid = there_is;
  stream = legs_is Two pair first_stream (path (codes "a" ∷ codes "b" ∷ []) ∷ []) (0 ∷ []) refl refl there_is;
  flow = path_is Two pair first_flow (path (codes "b" ∷ codes "a" ∷ [])) (1 ∷ []) refl refl back_is;
}

last_release_is_made : LastReleaseIsMade
last_release_is_made = record { at_last = refl; over = refl }

pub runs_are_at_edges : RunsAreAtEdges
runs_are_at_edges = record {
  talkers = talkers_are_apart;
  time = time_is_over;
  releases = releases_are_in_order;
  totals = last_verdict_counts;
  spacing = long_moves_nothing;
  paths = paths_are_short;
  made = last_release_is_made;
}
