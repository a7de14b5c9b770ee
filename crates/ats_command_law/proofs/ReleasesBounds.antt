-- What other commands make of the text that `releases` prints.
use Rattle.std.proofs.Common.{◌≡◌, ℕ, List, [], Option, Result, Ok, sym, ap, subst, ◌∙◌}
use Rattle.std.specs.Prelude.{unwrap_or}
use Rattle.ats_network.specs.Network.{DeclaredNetwork}
use Rattle.ats_trace.specs.Talker.{talker_of}
use Rattle.ats_trace.specs.declared.journey.Release.{Release}
use Rattle.ats_conform.specs.Releases.{AllKeepBuckets}
use Rattle.ats_pcap.specs.declared.record.Record.{Record}
use Rattle.ats_capture.specs.FaultText.{fault_text}
use Rattle.ats_capture.specs.Traffic.{Traffic, traffic_of}
use Rattle.ats_capture.specs.declared.fault.JoinFault.{JoinFault}
use Rattle.ats_num.specs.Failure.{◌>>=◌}
use Rattle.ats_command_input.specs.Answer.{Answer}
use Rattle.ats_command_input.specs.Input.{declared_in, network_in, records_in, releases_in, traffic_in}
use Rattle.ats_command_input.specs.Station.{station_in}
use Rattle.ats_command_input.specs.declared.status.Status.TheVariants.{Done}
use Rattle.ats_command_due.specs.Captured.{Captured, captured_in}
use Rattle.ats_command_due.specs.Conformed.{IsAnswerTo, JudgesScheduled}
use Rattle.ats_command_due.specs.Due.{IsConformAnswer, told_bytes}
use Rattle.ats_command_due.specs.Replayed.{Scheduled, scheduled_in}
use Rattle.ats_command_law.specs.CaptureMeaning.{IsCounted}
use Rattle.ats_command_law.specs.ConformBounds.{AreTextsWithin}
use Rattle.ats_command_law.specs.ReleasesBounds.{ReleasedIsScheduled, ReleasesKeepBounds}
use Rattle.ats_command_law.specs.ReleasesMeaning.{ReleasesSay}
use Rattle.ats_command_law.proofs.CaptureBounds.{capture_keeps_bounds}
use Rattle.ats_command_law.proofs.ConformBounds.{conform_keeps_bounds, done_keeps}
use Rattle.ats_command_law.proofs.ReleasesMeanings.{releases_mean, traffic_joined}

-- a network and releases that two files declare are to be run
pub scheduled_by : (net schedule net_bytes bytes : List ℕ) (network : DeclaredNetwork) (releases : List Release)
    → network_in net net_bytes ≡ Ok network → releases_in network schedule bytes ≡ Ok releases
    → scheduled_in net schedule net_bytes bytes ≡ Ok (record { network = network; releases = releases })
unfolding scheduled_in
scheduled_by net schedule net_bytes bytes network releases declared are =
    ap (λ (d : Result DeclaredNetwork Answer). d >>= λ n. releases_in n schedule bytes
    >>= λ rs. (let s : Result Scheduled Answer = Ok (record { network = n; releases = rs }) in s)) declared
    ∙ ap (λ (d : Result (List Release) Answer). d
    >>= λ rs. (let s : Result Scheduled Answer = Ok (record { network = network; releases = rs }) in s)) are

pub released_is_scheduled : ReleasedIsScheduled
released_is_scheduled told net station file schedule released h =
    let net_bytes : List ℕ = told_bytes told net in
    let file_bytes : List ℕ = told_bytes told file in
    let says : ReleasesSay net station file net_bytes file_bytes released Done =
    subst (λ (a : Answer). ReleasesSay net station file net_bytes file_bytes a.text a.status) (sym h.due.answers)
    (releases_mean net station file net_bytes file_bytes) in
    let bytes : told_bytes told schedule ≡ released = ap (λ (o : Option (List ℕ)). unwrap_or o []) h.told_on in (
      says.0,
      says.1,
      says.2,
      says.3,
      says.4,
      scheduled_by net schedule net_bytes (told_bytes told schedule) says.0 says.3.releases says.4.network_declared
          (ap (λ (b : List ℕ). releases_in says.0 schedule b) bytes ∙ says.4.reads_back schedule),
    )

-- records at a station are what was captured
captured_by : (net station file net_bytes file_bytes : List ℕ) (network : DeclaredNetwork) (place : ℕ)
    (records : List Record) (traffic : Traffic) → network_in net net_bytes ≡ Ok network
    → station_in network.topology station ≡ Ok place → IsCounted file file_bytes network place traffic records
    → captured_in net station file net_bytes file_bytes ≡ Ok (record { network = network; traffic = traffic })
unfolding captured_in traffic_in
captured_by net station file net_bytes file_bytes network place records traffic declared named counted =
    ap (λ (d : Result DeclaredNetwork Answer). d >>= λ n. station_in n.topology station
    >>= λ p. (records_in file file_bytes >>= λ rs. declared_in file fault_text (traffic_of n p rs))
    >>= λ t. (let c : Result Captured Answer = Ok (record { network = n; traffic = t }) in c)) declared
    ∙ ap (λ (d : Result ℕ Answer). d
    >>= λ p. (records_in file file_bytes >>= λ rs. declared_in file fault_text (traffic_of network p rs))
    >>= λ t. (let c : Result Captured Answer = Ok (record { network = network; traffic = t }) in c)) named
    ∙ ap (λ (d : Result (List Record) Answer). (d
    >>= λ rs. declared_in file fault_text (traffic_of network place rs))
    >>= λ t. (let c : Result Captured Answer = Ok (record { network = network; traffic = t }) in c)) counted.read
    ∙ ap (λ (d : Result Traffic JoinFault). declared_in file fault_text d
    >>= λ t. (let c : Result Captured Answer = Ok (record { network = network; traffic = t }) in c))
    (traffic_joined file file_bytes network place traffic records counted)

-- what is declared is declared once
one_captured : (due : Result Captured Answer) (one other : Captured) → due ≡ Ok one → due ≡ Ok other → one ≡ other
one_captured due one other h k = cc

one_scheduled : (due : Result Scheduled Answer) (one other : Scheduled) → due ≡ Ok one → due ≡ Ok other → one ≡ other
one_scheduled due one other h k = cc

-- where `conform` is done with the text, every node keeps its buckets by the releases of the capture
released_keeps : (told : List ℕ → Option (List ℕ)) (net schedule conformed : List ℕ) (network : DeclaredNetwork)
    (releases : List Release)
    → scheduled_in net schedule (told_bytes told net) (told_bytes told schedule)
    ≡ Ok (record { network = network; releases = releases })
    → IsConformAnswer net schedule (told_bytes told net) (told_bytes told schedule)
    (record { status = Done; text = conformed }) → AllKeepBuckets network releases
released_keeps told net schedule conformed network releases is judged =
    done_keeps network releases conformed
    (subst (λ (d : Result Scheduled Answer). IsAnswerTo JudgesScheduled d (record { status = Done; text = conformed }))
    is judged)

pub releases_keep_bounds : ReleasesKeepBounds
releases_keep_bounds = record {
  capture = λ told net certificate station file schedule order released conformed checked captured told_on conform_due
      check_due capture_due.
      let net_bytes : List ℕ = told_bytes told net in
      let file_bytes : List ℕ = told_bytes told file in
      let all = capture_keeps_bounds told net certificate station file order checked captured check_due capture_due in
      let text = released_is_scheduled told net station file schedule released told_on in
      let network : DeclaredNetwork = all.0 in
      let traffic : Traffic = all.4 in
      let same = one_captured (captured_in net station file net_bytes file_bytes)
      (record { network = text.0; traffic = text.3 }) (record { network = network; traffic = traffic })
      (captured_by net station file net_bytes file_bytes text.0 text.1 text.2 text.3 text.4.network_declared
      text.4.named text.4.captured)
      (captured_by net station file net_bytes file_bytes network all.2 all.3 traffic all.7.network_declared all.7.named
      all.7.captured) in
      let keeps : AllKeepBuckets network traffic.releases =
      subst (λ (c : Captured). AllKeepBuckets c.network c.traffic.releases) same
      (released_keeps told net schedule conformed text.0 text.3.releases text.5 conform_due.answers) in (
        network,
        all.1,
        all.2,
        all.3,
        traffic,
        all.5,
        record {
          accepted = all.6;
          of_capture = all.7;
          keeps = keeps;
          within = λ journey there stream named. all.8 journey there stream named (keeps _);
        },
      );
  replay = λ told net certificate station file schedule order released conformed checked replayed told_on conform_due
      check_due replay_due.
      let net_bytes : List ℕ = told_bytes told net in
      let bytes : List ℕ = told_bytes told schedule in
      let all = conform_keeps_bounds told net certificate schedule order conformed checked replayed
      conform_due check_due replay_due in
      let text = released_is_scheduled told net station file schedule released told_on in
      let run_out = all.4.texts.run_out in
      let same = one_scheduled (scheduled_in net schedule net_bytes bytes)
      (record { network = all.0; releases = all.2 }) (record { network = text.0; releases = text.3.releases })
      (scheduled_by net schedule net_bytes bytes all.0 all.2 run_out.network_declared run_out.releases_declared)
      text.5 in (
        text.0,
        all.1,
        text.1,
        text.2,
        text.3,
        all.3,
        text.4,
        subst (λ (s : Scheduled). AreTextsWithin told net certificate schedule order checked replayed s.network all.1
            s.releases all.3) same all.4,
      );
}
