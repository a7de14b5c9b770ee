-- What is found can happen, and is no more than sound bounds.
use Rattle.std.proofs.Common.{◌≡◌, ℕ, ◌+◌, ◌≤◌, ◌^◌, Bool, cond, length, Some, refl, ap, subst, ◌∙◌, arith}
use Rattle.std.proofs.Common.{sum_by}
use Rattle.std.specs.Prelude.{slice_get}
use Rattle.std.proofs.lemmas.Bool.{eq-eqb, ne_eqb}
use Rattle.std.proofs.lemmas.Option.{slice_get_within}
use Rattle.ats_network.specs.Sender.{Sender}
use Rattle.ats_network.specs.Class.{class_at}
use Rattle.ats_network.specs.Senders.{sender_at}
use Rattle.ats_clock_run_law.specs.Laws.{IsLegalInTrueTime}
use Rattle.ats_clock_run_law.proofs.TrueTime.{true_time_is_legal}
use Rattle.ats_checker.proofs.InTime.{sender_of_stream}
use Rattle.ats_soundness_law.specs.Sound.{ArrivesBy, bounds_of}
use Rattle.ats_soundness_law.proofs.TrueTime.{certificate_is_sound, kept_in_true_time}
use Rattle.ats_trace.specs.Journey.{Travel}
use Rattle.ats_trace.specs.Stored.{leg_in}
use Rattle.ats_trace.specs.Talker.{talker_of}
use Rattle.ats_trace.specs.Ways.{route_to}
use Rattle.ats_trace.specs.declared.journey.Ending.TheVariants.{Sink}
use Rattle.ats_witness.specs.Found.{bound_for}
use Rattle.ats_witness.proofs.FoundLemmas.{listener_of}
use Rattle.ats_witness.proofs.KeptLemmas.{burst_keeps}
use Rattle.ats_witness.proofs.StreamLemmas.{is_listener}
use Rattle.ats_witness_law.specs.Laws.{BurstKeepsBuckets, FoundDelaysHappen, FoundIsWithin, HappensLawfully}
use Rattle.ats_witness_law.specs.Laws.{HappensByClocks, HappensWithin, LastGoesLast, NoSoundBoundIsLess}
use Rattle.ats_witness_law.proofs.LateArrivals.{delays_are_exact}

pub last_goes_last : LastGoesLast
last_goes_last last sender frame next other small =
    let first = ap (λ (b : Bool). cond b (2 ^ 32 + frame) frame) (ne_eqb sender last other) in
    let second = ap (λ (b : Bool). cond b (2 ^ 32 + next) next) (eq-eqb last last refl) in
    omega (arith, first, second, small)

pub burst_keeps_buckets : BurstKeepsBuckets
burst_keeps_buckets network port class releases station net burst =
    burst_keeps network port class releases net burst station

pub found_delays_happen : FoundDelaysHappen
found_delays_happen network stream listener port delay net found =
    let one = found.greatest.one in
    record {
      run = found.run;
      legal = found.of_burst.by.legal;
      keeps = burst_keeps network port (class_at (sender_at network stream) port) _ net found.of_burst.burst;
      journey = found.greatest.journey;
      there = one.there;
      sent = one.sent;
      took = delays_are_exact network found.run stream listener delay found.greatest.journey net
          (true_time_is_legal network found.run net found.of_burst.by.legal).legal one;
    }

pub happens_lawfully : HappensLawfully
happens_lawfully network stream listener delay can = (can.legal, can.keeps)

pub happens_by_clocks : HappensByClocks
happens_by_clocks network stream listener delay net can =
    let made : IsLegalInTrueTime network can.run = true_time_is_legal network can.run net can.legal in
    record {
      run = can.run;
      legal = made.legal;
      keeps = λ node. kept_in_true_time network can.run made node (can.keeps node);
      journey = can.journey;
      there = can.there;
      sent = can.sent;
      took = can.took;
    }

-- a delay that can happen is no more than sound bounds together
pub happens_within : HappensWithin
happens_within network rows place listener delay stream sound named can =
    let j : Travel = can.journey in
    let i : ℕ = j.release.sender in
    let own : slice_get network.streams i ≡ Some stream = ap (slice_get network.streams) can.sent ∙ named in
    let s : Sender = sender_at network i in
    let there : listener ≤ length s.branches = listener_of network can.run listener j
    (record { 0 = j.release.at.0 + delay }) can.legal.journeys can.there can.took in
    let served = sound.served can.run can.legal j can.there (slice_get_within network.streams i stream own)
    (can.keeps (talker_of network i)) listener (is_listener s listener there) (λ k d h bridge. can.keeps _) in
    let by : ArrivesBy (j.release.at.0 + bound_for rows stream listener) (leg_in j listener).ending =
    subst (λ (x : Sender).
    ArrivesBy (j.release.at.0 + sum_by (bounds_of rows x) (route_to x listener)) (leg_in j listener).ending)
    (sender_of_stream network i stream own) served.arrives in
    let reached : ArrivesBy (j.release.at.0 + bound_for rows stream listener)
    (Sink (record { 0 = j.release.at.0 + delay })) =
    subst (ArrivesBy (j.release.at.0 + bound_for rows stream listener)) can.took by in
    omega (arith, reached)

pub no_sound_bound_is_less : NoSoundBoundIsLess
no_sound_bound_is_less network rows place listener port delay stream net sound named found =
    happens_within network rows place listener delay stream sound named
    (happens_by_clocks network place listener delay net
    (found_delays_happen network place listener port delay net found))

pub found_is_within : FoundIsWithin
found_is_within network rows place listener port delay stream net holds named found =
    no_sound_bound_is_less network rows place listener port delay stream net
    (certificate_is_sound network rows net holds) named found
