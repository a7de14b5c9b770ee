-- What the answers to `replay` mean, and what they have to do with those to `check`.
use Rattle.std.proofs.Common.{◌≡◌, ℕ, ◌<◌, List, Some, Result, Ok, Err, refl, sym, ap, subst, inl, inr, ◌∙◌}
use Rattle.std.specs.Prelude.{Contains, MatchResult, slice_get}
use Rattle.std.proofs.lemmas.Option.{slice_get_within}
use Rattle.ats_network.specs.Network.{DeclaredNetwork, IsNetwork}
use Rattle.ats_network.specs.Sender.{Sender, stream_sender}
use Rattle.ats_network.specs.Senders.{sender_at}
use Rattle.ats_verdict_text.specs.Stream.{DeclaredStream}
use Rattle.ats_group.specs.Judge.{bucket_rule}
use Rattle.ats_checker.proofs.InTime.{in_time_in_true_time, sender_of_stream}
use Rattle.ats_soundness_law.proofs.TrueTime.{sound_in_true_time}
use Rattle.ats_soundness_law.specs.Sound.{BridgesKeep}
use Rattle.ats_certificate.specs.declared.row.Row.{Row}
use Rattle.ats_trace.specs.Journey.{Travel}
use Rattle.ats_trace.specs.Run as runs
use Rattle.ats_trace.specs.Talker.{talker_of, KeepsBuckets}
use Rattle.ats_trace.specs.Ways.{listener_count, route_to}
use Rattle.ats_trace.specs.declared.journey.Release.{Release}
use Rattle.ats_schedule.specs.Reading.{releases_of}
use Rattle.ats_schedule.specs.FaultText as schedule
use Rattle.ats_num.specs.Failure.{◌>>=◌}
use Rattle.ats_command_input.specs.Answer.{Answer}
use Rattle.ats_command_input.specs.Input.{network_in, releases_in}
use Rattle.ats_command_input.specs.declared.order.Order.{Order}
use Rattle.ats_command_input.specs.declared.status.Status.TheVariants.{Done}
use Rattle.ats_command_due.specs.Due.{told_bytes}
use Rattle.ats_command_law.specs.Meaning.{CheckSays, IsAccepted}
use Rattle.ats_command_law.specs.ReplayMeaning.{DelaysAreWithin, IsRunOut, ReplaySays, ReplayMeans, ReplayKeepsBounds}
use Rattle.ats_command_law.specs.ReplayMeaning.{IsWithinBounds}
use Rattle.ats_command_due.specs.Replayed.{IsOneOf, IsReplayed, IsRunIn, scheduled_in}
use Rattle.ats_command_law.proofs.Meanings.{IsInput, file_gives, network_gives, none_declared, check_means}

-- where a schedule's file declares no releases, it has a fault
pub releases_give : (network : DeclaredNetwork) (file bytes : List ℕ)
    → MatchResult (releases_in network file bytes) (λ (releases : List Release). Unit {0}) IsInput
unfolding releases_in
releases_give network file bytes =
    file_gives 33554432 file bytes schedule.fault_text (releases_of network) (λ (releases : List Release). Unit {0})
    (λ text releases read. tt)

-- where both declare what they should
run_out_says : (net schedule net_bytes schedule_bytes : List ℕ) (order : Order) (network : DeclaredNetwork)
    (releases : List Release) (answer : Answer) → network_in net net_bytes ≡ Ok network
    → releases_in network schedule schedule_bytes ≡ Ok releases → IsNetwork network
    → (answer.status ≡ Done) × IsReplayed order (record { network = network; releases = releases }) answer.text
    → ReplaySays net schedule net_bytes schedule_bytes order answer.text answer.status
run_out_says net schedule net_bytes schedule_bytes order network releases answer declared scheduled rules is =
    subst (ReplaySays net schedule net_bytes schedule_bytes order answer.text) (sym is.0) (
      network,
      releases,
      is.1.0,
      record { network_declared = declared; releases_declared = scheduled; rules = rules; replay = is.1.1 },
    )

-- where the first declares a network
releases_say : (net schedule net_bytes schedule_bytes : List ℕ) (order : Order) (network : DeclaredNetwork)
    (declared : Result (List Release) Answer) (answer : Answer) → network_in net net_bytes ≡ Ok network
    → IsNetwork network → releases_in network schedule schedule_bytes ≡ declared
    → MatchResult declared (λ (releases : List Release). Unit {0}) IsInput
    → IsOneOf (IsReplayed order)
    (declared >>= λ releases. Ok (record { network = network; releases = releases })) answer
    → ReplaySays net schedule net_bytes schedule_bytes order answer.text answer.status
releases_say net schedule net_bytes schedule_bytes order network (Ok releases) answer declared rules is input one =
    run_out_says net schedule net_bytes schedule_bytes order network releases answer declared is rules one
releases_say net schedule net_bytes schedule_bytes order network (Err due) answer declared rules is input one =
    subst (ReplaySays net schedule net_bytes schedule_bytes order answer.text)
    (sym (ap (λ (a : Answer). a.status) one ∙ input))
    (inr (
      network,
      record {
        network_declared = declared;
        no_releases = none_declared (releases_in network schedule schedule_bytes) due is;
      },
    ))

replay_says : (net schedule net_bytes schedule_bytes : List ℕ) (order : Order)
    (declared : Result DeclaredNetwork Answer) (answer : Answer) → network_in net net_bytes ≡ declared
    → MatchResult declared IsNetwork IsInput
    → IsOneOf (IsReplayed order) (declared >>= λ network. releases_in network schedule schedule_bytes
    >>= λ releases. Ok (record { network = network; releases = releases })) answer
    → ReplaySays net schedule net_bytes schedule_bytes order answer.text answer.status
replay_says net schedule net_bytes schedule_bytes order (Ok network) answer is rules one =
    releases_say net schedule net_bytes schedule_bytes order network
    (releases_in network schedule schedule_bytes) answer
    is rules refl (releases_give network schedule schedule_bytes) one
replay_says net schedule net_bytes schedule_bytes order (Err due) answer is input one =
    subst (ReplaySays net schedule net_bytes schedule_bytes order answer.text)
    (sym (ap (λ (a : Answer). a.status) one ∙ input)) (inl (none_declared (network_in net net_bytes) due is))

pub replay_means : ReplayMeans
unfolding scheduled_in
replay_means net schedule net_bytes schedule_bytes order answer one =
    replay_says net schedule net_bytes schedule_bytes order (network_in net net_bytes) answer refl
    (network_gives net net_bytes) one

-- what a certificate that was accepted says of each legal run it says of the one that is printed
pub delays_within : (net certificate net_bytes certificate_bytes checked : List ℕ) (order : Order)
    (network : DeclaredNetwork) (rows : List Row) (releases : List Release) (run : List Travel)
    → IsAccepted net certificate net_bytes certificate_bytes checked network rows
    → IsRunIn order network releases run → DelaysAreWithin network rows releases run
delays_within net certificate net_bytes certificate_bytes checked order network rows releases run accepted is =
    λ journey there stream named keeps m within bridges.
    let legal = is.by_order.legal in
    let s : Sender = sender_at network journey.release.sender in
    let same : s ≡ stream_sender stream = sender_of_stream network journey.release.sender stream named in
    let kept : (node : ℕ) → KeepsBuckets network releases node → KeepsBuckets network (runs.releases_of run) node =
    λ node keeps. subst (λ (rs : List Release). KeepsBuckets network rs node) (sym is.exactly) keeps in
    let on_way : BridgesKeep bucket_rule network (runs.releases_of run) (route_to s m) =
    λ k d h bridge. kept _ (bridges k d h bridge) in
    record {
      served = (sound_in_true_time network rows accepted.rules accepted.sound).served run legal journey there
          (slice_get_within network.streams journey.release.sender stream named)
          (kept (talker_of network journey.release.sender) keeps) m within on_way;
      in_time = in_time_in_true_time network rows accepted.rules accepted.in_time run legal journey there stream named
          (kept (talker_of network journey.release.sender) keeps) m
          (subst (λ (x : Sender). m < listener_count x) same within)
          (subst (λ (x : Sender). BridgesKeep bucket_rule network (runs.releases_of run) (route_to x m)) same on_way);
    }

-- where every node keeps its buckets, it is within them at each listener
pub within_all : (network : DeclaredNetwork) (rows : List Row) (releases : List Release) (run : List Travel)
    → DelaysAreWithin network rows releases run → ((node : ℕ) → KeepsBuckets network releases node)
    → (journey : Travel) → Contains run journey → (stream : DeclaredStream)
    → slice_get network.streams journey.release.sender ≡ Some stream → IsWithinBounds network rows stream journey
within_all network rows releases run all keeps journey there stream named =
    let same : sender_at network journey.release.sender ≡ stream_sender stream =
    sender_of_stream network journey.release.sender stream named in
    record {
      served = λ m within. (all journey there stream named (keeps _) m within (λ k d h bridge. keeps _)).served;
      in_time = λ m within. (all journey there stream named (keeps _) m
          (subst (λ (x : Sender). m < listener_count x) (sym same) within) (λ k d h bridge. keeps _)).in_time;
    }

-- what bytes declare they declare once
pub same_declared : (declared : Result DeclaredNetwork Answer) (one other : DeclaredNetwork) → declared ≡ Ok one
    → declared ≡ Ok other → other ≡ one
same_declared declared one other h k = cc

pub replay_keeps_bounds : ReplayKeepsBounds
replay_keeps_bounds told net certificate schedule order checked replayed check_due replay_due =
    let net_bytes : List ℕ = told_bytes told net in
    let certificate_bytes : List ℕ = told_bytes told certificate in
    let schedule_bytes : List ℕ = told_bytes told schedule in
    let check : CheckSays net certificate net_bytes certificate_bytes checked Done =
    subst (λ (a : Answer). CheckSays net certificate net_bytes certificate_bytes a.text a.status)
    (sym check_due.answers) (check_means net certificate net_bytes certificate_bytes) in
    let replay : ReplaySays net schedule net_bytes schedule_bytes order replayed Done =
    replay_means net schedule net_bytes schedule_bytes order (record { status = Done; text = replayed })
    replay_due.answers in
    let network : DeclaredNetwork = check.0 in
    let run_out : IsRunOut net schedule net_bytes schedule_bytes order replayed network replay.1 replay.2 =
    subst (λ (n : DeclaredNetwork). IsRunOut net schedule net_bytes schedule_bytes order replayed n replay.1 replay.2)
    (same_declared (network_in net net_bytes) network replay.0 check.2.network_declared replay.3.network_declared)
    replay.3 in (
      network,
      check.1,
      replay.1,
      replay.2,
      record {
        accepted = check.2;
        run_out = run_out;
        within = delays_within net certificate net_bytes certificate_bytes checked order network check.1 replay.1
            replay.2 check.2 run_out.replay.is_run;
      },
    )
