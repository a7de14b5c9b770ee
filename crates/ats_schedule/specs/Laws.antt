use Rattle.std.specs.Prelude.{◌≡◌, IsTrue, List, All, Ok}
use Rattle.ats_num.specs.Name.{is_name}
use Rattle.ats_network.specs.Network.{DeclaredNetwork, IsNetwork, senders_of}
use Rattle.ats_network.specs.Sender.{Sender}
use Rattle.ats_trace.specs.declared.journey.Release.{Release}
use Rattle.ats_schedule.specs.Reading.{releases_of}
use Rattle.ats_trace.specs.Releases.{AreReleases, HaveFewPorts}
use Rattle.ats_schedule.specs.Text.{schedule_text}

-- each sender has a proper name, as what is declared has
abbrev pub AreNamed : List Sender → Type 0
AreNamed senders = All (λ (s : Sender). IsTrue (is_name s.name)) senders

-- what is read from the text of releases that may be run on a network, whose frames have few ports, are these releases
abbrev pub ScheduleReadsBack : Type 0
ScheduleReadsBack = (network : DeclaredNetwork) → IsNetwork network → AreNamed (senders_of network)
    → (releases : List Release) → AreReleases network releases → HaveFewPorts network releases
    → releases_of network (schedule_text network releases) ≡ Ok releases
