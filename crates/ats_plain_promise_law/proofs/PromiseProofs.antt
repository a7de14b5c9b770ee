use Rattle.std.proofs.Common.{◌≡◌, ℕ, List, [], ◌∷◌, Option, refl, sym, subst, drop}
use Rattle.std.specs.Prelude.{Contains}
use Rattle.ats_network.specs.Network.{DeclaredNetwork}
use Rattle.ats_network.specs.Senders.{sender_at}
use Rattle.ats_certificate.specs.declared.row.Row.{Row}
use Rattle.ats_lrq.specs.Judge.{lrq_judge, spacing_rule}
use Rattle.ats_trace.specs.Journey.{Travel}
use Rattle.ats_trace.specs.Run.{releases_of}
use Rattle.ats_trace.specs.Talker.{KeepsBucketsBy}
use Rattle.ats_trace.specs.Ways.{route_to}
use Rattle.ats_trace.specs.declared.journey.Release.{Release}
use Rattle.ats_soundness_law.specs.Runs.{Runs, ats_runs, in_true_time}
use Rattle.ats_soundness_law.specs.Sound.{BridgesKeepIn, IsSoundBy, all_but_first}
use Rattle.ats_checker.specs.InTime.{FramesAreInTimeBy}
use Rattle.ats_command_input.specs.Command.{Admit, Bound, Buffers, Capture, Check, Command, Conform, Explain, Fit}
use Rattle.ats_command_input.specs.Command.{Generate, LrqBound, LrqCheck, LrqShape, Peaks, Record, Releases, Replay}
use Rattle.ats_command_input.specs.Command.{Settings, Shape, Show, Unknown, Witness}
use Rattle.ats_command_due.specs.Due.{IsTold}
use Rattle.ats_command_due.specs.Soundness.{Promises, PromisesBy}
use Rattle.ats_plain_promise_law.specs.Promises.{BridgesDo, ChecksOut, IsKept, KeepsSpacing, LrqChecksOut}
use Rattle.ats_plain_promise_law.specs.Promises.{PromisesArePlain}

-- What commands promise of their texts.

-- all but the first of a list are what is left without one
all_but_one : (xs : List ℕ) → all_but_first xs ≡ drop 1 xs
all_but_one [] = refl
all_but_one (x ∷ xs) = refl

-- in runs of some kind what is promised of each frame is kept, where a node that keeps what is asked of it does so
abbrev EachIsKept : Runs → DeclaredNetwork → List Row → Type 0
EachIsKept runs network rows = (run : List Travel) (legal : runs.legal network run) (journey : Travel)
    → Contains run journey → IsKept (runs.keeps network run legal) network rows journey

kept : (runs : Runs) (network : DeclaredNetwork) (rows : List Row) → IsSoundBy runs network rows
    → FramesAreInTimeBy runs network rows → EachIsKept runs network rows
kept runs network rows sound in_time run legal journey there = record {
  served = λ of keeps listener within bridges. sound.served run legal journey there of keeps listener within bridges;
  contained = λ of listener within bridges. sound.contained run legal journey there of listener within
      (subst (λ (ports : List ℕ). BridgesKeepIn runs network run legal ports)
      (sym (all_but_one (route_to (sender_at network journey.release.sender) listener))) bridges);
  in_time = λ stream is keeps listener within bridges.
      in_time run legal journey there stream is keeps listener within bridges;
}

sound_by : (runs : Runs) (network : DeclaredNetwork) (rows : List Row) → EachIsKept runs network rows
    → IsSoundBy runs network rows
sound_by runs network rows each = record {
  served = λ run legal journey there of keeps listener within bridges.
      (each run legal journey there).served of keeps listener within bridges;
  contained = λ run legal journey there of listener within bridges.
      (each run legal journey there).contained of listener within
      (subst (λ (ports : List ℕ). BridgesKeepIn runs network run legal ports)
      (all_but_one (route_to (sender_at network journey.release.sender) listener)) bridges);
}

in_time_by : (runs : Runs) (network : DeclaredNetwork) (rows : List Row) → EachIsKept runs network rows
    → FramesAreInTimeBy runs network rows
in_time_by runs network rows each run legal journey there stream is keeps listener within bridges =
    (each run legal journey there).in_time stream is keeps listener within bridges

-- to keep the rule of spacing is to keep one's spacing; and what is kept where nodes do one thing is kept where they do
-- another that is as much
spaced : (network : DeclaredNetwork) (releases : List Release) (node : ℕ)
    → KeepsBucketsBy spacing_rule network releases node → KeepsSpacing network releases node
spaced network releases node is = record { streams = is.streams; sizes = is.sizes }

as_rule : (network : DeclaredNetwork) (releases : List Release) (node : ℕ) → KeepsSpacing network releases node
    → KeepsBucketsBy spacing_rule network releases node
as_rule network releases node is = record { streams = is.streams; sizes = is.sizes }

bridges_do : (Keeps Others : ℕ → Type 0) (network : DeclaredNetwork) (ports : List ℕ)
    → ((node : ℕ) → Keeps node → Others node) → BridgesDo Keeps network ports → BridgesDo Others network ports
bridges_do Keeps Others network ports more do_so = λ k d within is_bridge. more _ (do_so k d within is_bridge)

kept_where : (Keeps Others : ℕ → Type 0) (network : DeclaredNetwork) (rows : List Row) (journey : Travel)
    → ((node : ℕ) → Others node → Keeps node) → IsKept Keeps network rows journey
    → IsKept Others network rows journey
kept_where Keeps Others network rows journey more is = record {
  served = λ of keeps listener within bridges. is.served of (more _ keeps) listener within
      (bridges_do Others Keeps network _ more bridges);
  contained = λ of listener within bridges. is.contained of listener within
      (bridges_do Others Keeps network _ more bridges);
  in_time = λ stream named keeps listener within bridges. is.in_time stream named (more _ keeps) listener within
      (bridges_do Others Keeps network _ more bridges);
}

abbrev lrq_like : Runs
lrq_like = in_true_time lrq_judge spacing_rule

checks_out : (told : List ℕ → Option (List ℕ)) (net certificate text : List ℕ)
    → PromisesBy ats_runs told net certificate text → ChecksOut told net certificate text
checks_out told net certificate text (network, rows, is) = (
  network,
  rows,
  is.network_declared,
  is.rows_declared,
  is.is_sound.written,
  kept ats_runs network rows is.is_sound.sound is.is_sound.in_time,
)

promised_by : (told : List ℕ → Option (List ℕ)) (net certificate text : List ℕ) → ChecksOut told net certificate text
    → PromisesBy ats_runs told net certificate text
promised_by told net certificate text (network, rows, net_is, rows_are, written, each) = (
  network,
  rows,
  record {
    network_declared = net_is;
    rows_declared = rows_are;
    is_sound = record {
      sound = sound_by ats_runs network rows each;
      in_time = in_time_by ats_runs network rows each;
      written = written;
    };
  },
)

lrq_checks_out : (told : List ℕ → Option (List ℕ)) (net certificate text : List ℕ)
    → PromisesBy lrq_like told net certificate text → LrqChecksOut told net certificate text
lrq_checks_out told net certificate text (network, rows, is) = (
  network,
  rows,
  is.network_declared,
  is.rows_declared,
  is.is_sound.written,
  λ run legal journey there. kept_where (KeepsBucketsBy spacing_rule network (releases_of run))
      (KeepsSpacing network (releases_of run)) network rows journey (as_rule network (releases_of run))
      (kept lrq_like network rows is.is_sound.sound is.is_sound.in_time run legal journey there),
)

lrq_promised_by : (told : List ℕ → Option (List ℕ)) (net certificate text : List ℕ)
    → LrqChecksOut told net certificate text → PromisesBy lrq_like told net certificate text
lrq_promised_by told net certificate text (network, rows, net_is, rows_are, written, each) =
    let all : EachIsKept lrq_like network rows = λ run legal journey there.
    kept_where (KeepsSpacing network (releases_of run)) (KeepsBucketsBy spacing_rule network (releases_of run))
    network rows journey (spaced network (releases_of run)) (each run legal journey there) in (
      network,
      rows,
      record {
        network_declared = net_is;
        rows_declared = rows_are;
        is_sound = record {
          sound = sound_by lrq_like network rows all;
          in_time = in_time_by lrq_like network rows all;
          written = written;
        };
      },
    )

-- what a command promises that is `check`, or `lrq check`
abbrev IfChecks : (List ℕ → Option (List ℕ)) → Command → List ℕ → Type 0
IfChecks told command text = ((net certificate : List ℕ) → command ≡ Check net certificate → IsTold told command
    → ChecksOut told net certificate text)
    × ((net certificate : List ℕ) → command ≡ LrqCheck net certificate → IsTold told command
    → LrqChecksOut told net certificate text)

promised : (told : List ℕ → Option (List ℕ)) (command : Command) (text : List ℕ) → IfChecks told command text
    → Promises told command text
promised told (Check net certificate) text is =
    λ there. promised_by told net certificate text (is.0 net certificate refl there)
promised told (LrqCheck net certificate) text is =
    λ there. lrq_promised_by told net certificate text (is.1 net certificate refl there)
promised told (Shape file) text is = tt
promised told (Show net) text is = tt
promised told (Bound net) text is = tt
promised told (Explain net) text is = tt
promised told (Settings net) text is = tt
promised told (Buffers net certificate) text is = tt
promised told (Conform net schedule) text is = tt
promised told (Admit net requests) text is = tt
promised told (Replay net schedule order) text is = tt
promised told (Capture net station file order) text is = tt
promised told (Generate net seed count) text is = tt
promised told (Peaks net certificate schedule order) text is = tt
promised told (LrqShape file) text is = tt
promised told (LrqBound net) text is = tt
promised told (Record net schedule order port) text is = tt
promised told (Witness net name) text is = tt
promised told (Releases net station file) text is = tt
promised told (Fit net schedule) text is = tt
promised told Unknown text is = tt

pub promises_are_plain : PromisesArePlain
promises_are_plain told command text = (
  λ is. (
    λ net certificate same there. checks_out told net certificate text
        (subst (λ (c : Command). Promises told c text) same is (subst (IsTold told) same there)),
    λ net certificate same there. lrq_checks_out told net certificate text
        (subst (λ (c : Command). Promises told c text) same is (subst (IsTold told) same there)),
  ),
  promised told command text,
)
