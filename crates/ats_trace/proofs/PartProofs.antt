use Rattle.std.proofs.Common.{List}
use Rattle.ats_network.specs.Network.{DeclaredNetwork}
use Rattle.ats_trace.specs.Journey.{Travel}
use Rattle.ats_trace.specs.Run.{IsIdeal}
use Rattle.ats_trace.specs.Parts.{Part, in_order, octets, way, released, copies, links, waits, takes, apart, chosen}
use Rattle.ats_trace.specs.Parts.{prompt, groups, flows, Keeps, LegalIsEachPart}

-- the parts of a legal run

part_of_legal : (network : DeclaredNetwork) (run : List Travel) → IsIdeal network run → (part : Part)
    → Keeps part network run
part_of_legal network run h in_order = h.in_order
part_of_legal network run h octets = λ k d within. (h.journeys k d within).octets
part_of_legal network run h way = λ k d within. ((h.journeys k d within).sender, (h.journeys k d within).way)
part_of_legal network run h released = λ k d within. (h.journeys k d within).released
part_of_legal network run h copies = λ k d within. (h.journeys k d within).copies
part_of_legal network run h links = h.links
part_of_legal network run h waits = λ port within. (h.ports port within).waits
part_of_legal network run h takes = λ port within. (h.ports port within).takes
part_of_legal network run h apart = λ port within. (h.ports port within).apart
part_of_legal network run h chosen = λ port within. (h.ports port within).chosen
part_of_legal network run h prompt = λ port within. (h.ports port within).prompt
part_of_legal network run h groups = h.groups
part_of_legal network run h flows = h.flows

legal_of_parts : (network : DeclaredNetwork) (run : List Travel) → ((part : Part) → Keeps part network run)
    → IsIdeal network run
legal_of_parts network run keeps =
    record {
      in_order = keeps in_order;
      journeys = λ k d within. record {
        sender = (keeps way k d within).0;
        octets = keeps octets k d within;
        way = (keeps way k d within).1;
        released = keeps released k d within;
        copies = keeps copies k d within;
      };
      ports = λ port within. record {
        waits = keeps waits port within;
        takes = keeps takes port within;
        apart = keeps apart port within;
        chosen = keeps chosen port within;
        prompt = keeps prompt port within;
      };
      links = keeps links;
      groups = keeps groups;
      flows = keeps flows;
    }

pub legal_is_each_part : LegalIsEachPart
legal_is_each_part network run = (part_of_legal network run, legal_of_parts network run)
