use Rattle.std.proofs.Common.{◌≡◌, ℕ, List, [], ◌∷◌, refl}
use Rattle.ats_network.specs.Sender.{Sender}
use Rattle.ats_trace.specs.Projections.{crossings_along, handed_along, hops_along}
use Rattle.ats_trace.specs.declared.journey.Ending.{Ending}
use Rattle.ats_trace.specs.declared.journey.Ending.TheVariants.{Discard}
use Rattle.ats_trace.specs.declared.journey.Release.{Release}
use Rattle.ats_order_examples.specs.Journeys.{CopiesAreWritten, DiscardsTellNothing, GroupsAreTold, JourneysAreMeant}
use Rattle.ats_order_examples.specs.Journeys.{JourneysAreWritten, RecordsAreTold, RunsAreTold, WaysAreWritten}

-- What happens to one frame, and what is told of it, by the words themselves.

ways : WaysAreWritten
ways = record {
  arrives = λ at. tt;
  not_lost = λ h. h;
  no_more = λ hop hops ending h. h;
  comes = λ port path ending h. h;
  goes_on = λ port path came eligible start end hops ending. (λ h. h, λ h. h);
  is_sent = λ port path came eligible hops ending h. h;
  late = λ port path came at hops ending. (λ h. h, λ h. h);
  late_is_not_sent = λ port path came at start end hops ending h. h;
  size = λ port path came hops ending. (λ h. h, λ h. h);
  size_is_not_sent = λ port path came start end hops ending h. h;
}

copies : CopiesAreWritten
copies = record {
  at = λ legs b. refl;
  made = λ start first path hops ending. (λ h. h, λ h. h);
  is_made = λ start path ending h. h.0;
  none = λ path leg. (λ h. h, λ h. h);
  each = λ sender journey. (λ h. h, λ h. h);
}

journeys : JourneysAreWritten
journeys network release first hops ending others = (
  λ is. (is.sender, is.octets, is.way, is.released, is.copies),
  λ h. record { sender = h.0; octets = h.1; way = h.2; released = h.3; copies = h.4 },
)

-- nothing is told of ports without a record
no_hops : (frame : ℕ) (release : Release) (sender : Sender) (path : List ℕ)
    → hops_along frame release sender path [] ≡ []
no_hops frame release sender [] = refl
no_hops frame release sender (port ∷ path) = refl

no_crossings : (frame : ℕ) (release : Release) (sender : Sender) (path : List ℕ) (ending : Ending)
    → crossings_along frame release sender path [] ending ≡ []
no_crossings frame release sender [] ending = refl
no_crossings frame release sender (port ∷ path) ending = refl

none_handed : (frame : ℕ) (release : Release) (sender : Sender) (path : List ℕ)
    → handed_along frame release sender path [] ≡ []
none_handed frame release sender [] = refl
none_handed frame release sender (port ∷ path) = refl

records : RecordsAreTold
records = record {
  hop = λ frame release sender port path came eligible start end hops. refl;
  crossing = λ frame release sender port path came eligible start end next hops ending. refl;
  last = λ frame release sender port path came eligible start end at. refl;
  handed = λ frame release sender port path came eligible start end next hops. refl;
  nowhere = λ frame release sender port path came eligible start end. none_handed frame release sender path;
}

discards : DiscardsTellNothing
discards = record {
  late = λ frame release sender port path came at. (
    no_hops frame release sender path,
    no_crossings frame release sender path Discard,
    none_handed frame release sender path,
  );
  size = λ frame release sender port path came. (
    no_hops frame release sender path,
    no_crossings frame release sender path Discard,
    none_handed frame release sender path,
  );
}

runs : RunsAreTold
runs = record {
  hops = λ network frame j run. refl;
  crossings = λ network frame j run. refl;
  handed = λ network frame j run. refl;
  along_legs = λ frame release sender path paths leg legs. (refl, refl, refl);
  by_port = λ network run port. (refl, refl);
  by_class = λ network run port class. refl;
}

groups : GroupsAreTold
groups = record {
  offer = λ h. refl;
  scheduled = λ network port i. refl;
  declared = λ network i. refl;
  residence = λ network port. refl;
}

pub journeys_are_meant : JourneysAreMeant
journeys_are_meant = record {
  ways = ways;
  copies = copies;
  journeys = journeys;
  records = records;
  discards = discards;
  runs = runs;
  groups = groups;
}
