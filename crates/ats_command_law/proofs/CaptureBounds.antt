-- What an answer to `capture` has to do with one to `check`.
use Rattle.std.proofs.Common.{◌≡◌, ℕ, ◌<◌, true, List, All, ap, sym, subst}
use Rattle.ats_topology.specs.Node.{is_station}
use Rattle.ats_topology.specs.Topology.{node_at}
use Rattle.ats_certificate.specs.declared.row.Row.{Row}
use Rattle.ats_capture.specs.Traffic.{Traffic}
use Rattle.ats_network.specs.Network.{DeclaredNetwork}
use Rattle.ats_network.specs.Sender.{Sender, stream_sender}
use Rattle.ats_network.specs.Senders.{sender_at}
use Rattle.ats_trace.specs.Journey.{Travel}
use Rattle.ats_trace.specs.Talker.{talker_of}
use Rattle.ats_trace.specs.Ways.{listener_count}
use Rattle.ats_trace.specs.declared.journey.Release.{Release}
use Rattle.ats_checker.proofs.InTime.{sender_of_stream}
use Rattle.ats_command_input.specs.Answer.{Answer}
use Rattle.ats_command_input.specs.Input.{network_in}
use Rattle.ats_command_input.specs.declared.status.Status.TheVariants.{Done}
use Rattle.ats_command_due.specs.Due.{told_bytes}
use Rattle.ats_command_law.specs.Meaning.{CheckSays}
use Rattle.ats_command_law.specs.CaptureBounds.{CaptureKeepsBounds, CapturedAreWithin}
use Rattle.ats_command_law.specs.CaptureMeaning.{CaptureSays, IsCapturedRun}
use Rattle.ats_command_law.specs.ReplayMeaning.{DelaysAreWithin}
use Rattle.ats_command_law.proofs.CaptureBridges.{bridge_is_quiet, captured_begin, station_is}
use Rattle.ats_command_law.proofs.CaptureMeanings.{capture_means}
use Rattle.ats_command_law.proofs.Meanings.{check_means}
use Rattle.ats_command_law.proofs.ReplayMeanings.{delays_within, same_declared}

-- where all releases are of one station's streams, each bridge keeps its buckets
captured_within : (network : DeclaredNetwork) (rows : List Row) (station : ℕ) (releases : List Release)
    (run : List Travel) → is_station (node_at network.topology.nodes station).kind ≡ true
    → All (λ (r : Release). talker_of network r.sender ≡ station) releases
    → DelaysAreWithin network rows releases run → CapturedAreWithin network rows releases run
captured_within network rows station releases run at all within journey there stream named keeps =
    let same : sender_at network journey.release.sender ≡ stream_sender stream =
    sender_of_stream network journey.release.sender stream named in
    record {
      served = λ m below. (within journey there stream named keeps m below
          (λ k d h bridge. bridge_is_quiet network station _ releases at bridge all)).served;
      in_time = λ m below. (within journey there stream named keeps m
          (subst (λ (x : Sender). m < listener_count x) (sym same) below)
          (λ k d h bridge. bridge_is_quiet network station _ releases at bridge all)).in_time;
    }

pub capture_keeps_bounds : CaptureKeepsBounds
capture_keeps_bounds told net certificate station file order checked captured check_due capture_due =
    let net_bytes : List ℕ = told_bytes told net in
    let certificate_bytes : List ℕ = told_bytes told certificate in
    let file_bytes : List ℕ = told_bytes told file in
    let check : CheckSays net certificate net_bytes certificate_bytes checked Done =
    subst (λ (a : Answer). CheckSays net certificate net_bytes certificate_bytes a.text a.status)
    (sym check_due.answers) (check_means net certificate net_bytes certificate_bytes) in
    let capture : CaptureSays net station file net_bytes file_bytes order captured Done =
    capture_means net station file net_bytes file_bytes order (record { status = Done; text = captured })
    capture_due.answers in
    let network : DeclaredNetwork = check.0 in
    let run_out : IsCapturedRun net station file net_bytes file_bytes order captured network capture.1 capture.2
    capture.3 capture.4 =
    subst (λ (n : DeclaredNetwork). IsCapturedRun net station file net_bytes file_bytes order captured n capture.1
    capture.2 capture.3 capture.4)
    (same_declared (network_in net net_bytes) network capture.0 check.2.network_declared capture.5.network_declared)
    capture.5 in (
      network,
      check.1,
      capture.1,
      capture.2,
      capture.3,
      capture.4,
      check.2,
      run_out,
      captured_within network check.1 capture.1 capture.3.releases capture.4
          (station_is network.topology station capture.1 run_out.named)
          (subst (λ (t : Traffic). All (λ (r : Release). talker_of network r.sender ≡ capture.1) t.releases)
          (sym run_out.captured.counts) (captured_begin network capture.1 capture.2))
          (delays_within net certificate net_bytes certificate_bytes checked order network check.1 capture.3.releases
          capture.4 check.2 run_out.replay.is_run),
    )
