use Rattle.std.proofs.Common.{length, refl}
use Rattle.std.proofs.lemmas.List.Sums.{sum_by-cons}
use Rattle.ats_network.specs.Senders.{sender_at}
use Rattle.ats_trace.specs.declared.journey.Release.{Release}
use Rattle.ats_plain_run_law.specs.Releases.{FramesOfRunsAreTraced, IdealIsTraced, PortsOfFramesAreTraced}
use Rattle.ats_plain_run_law.specs.Releases.{ReleasesAreTraced}

-- Which releases a run has, how many ports their frames have, and what an ideal run is.

frames : FramesOfRunsAreTraced
frames = record {
  releases = λ run. refl;
  has = λ releases run. ((λ is. is), (λ is. is));
  frame = λ run frame. refl;
}

ports : PortsOfFramesAreTraced
ports = record {
  none = λ network. refl;
  more = λ network r releases. sum_by-cons (λ (one : Release). length (sender_at network one.sender).ports) r releases;
  few = λ network releases. ((λ is. is), (λ is. is));
}

ideal : IdealIsTraced
ideal network run = ((λ is. is), (λ is. is))

pub releases_are_traced : ReleasesAreTraced
releases_are_traced = record {
  frames = frames;
  ports = ports;
  ideal = ideal;
}
