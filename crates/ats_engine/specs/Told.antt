use Rattle.std.specs.Prelude.{⊤, List, map}
use Rattle.ats_events.specs.Contents.{Contents}
use Rattle.ats_events.specs.declared.moment.Moment.{Moment}
use Rattle.ats_engine_steps.specs.Entries.{event_of}
use Rattle.ats_engine_steps.specs.declared.event.Event.{Event}

-- a moment with the event that happens then
abbrev pub with_event : Moment × ⊤ → Moment × Event
with_event entry = (entry.0, event_of entry.0)

-- moments with their events
abbrev pub told : List (Moment × ⊤) → List (Moment × Event)
told entries = map with_event entries

-- an agenda that has moments alone, with their events
abbrev pub agenda_told : {O : Type 0} → Contents O ⊤ → Contents O Event
agenda_told agenda = record {
  entries = told agenda.entries;
  capacity = agenda.capacity;
  order = agenda.order;
  last = agenda.last;
}
