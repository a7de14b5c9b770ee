use Rattle.std.proofs.Common.{◌≡◌, ◌∙◌, ℕ, ◌+◌, Bool, List, [], ◌∷◌, ◌++◌, map, flat_map, Option, Result, refl, ap, ap₂}
use Rattle.std.specs.List.{enumerate_from}
use Rattle.ats_num.specs.Failure.{◌>>=◌, ok_where, or_fault, unless}
use Rattle.ats_streams.specs.Branches.{routes_of}
use Rattle.ats_streams.specs.Flow.{DeclaredFlow, flow_fault_within}
use Rattle.ats_streams.specs.Stream.{DeclaredStream}
use Rattle.ats_streams.specs.declared.fault.StreamFault.{StreamFault}
use Rattle.ats_network.specs.Network.{DeclaredNetwork}
use Rattle.ats_network.specs.Pushes.{flow_push_fault, stream_push_fault, with_flow, with_stream}
use Rattle.ats_network.specs.declared.fault.PushFault.{PushFault}
use Rattle.ats_route_tree.specs.Legs.{DeclaredLegs}
use Rattle.ats_network_table.specs.declared.format.Format.{Format}
use Rattle.ats_network_toml.specs.Document as file
use Rattle.ats_network_file.specs.LinkLocal.{flows_at, streams_at}
use Rattle.ats_network_file.specs.Routes.{is_valid, may_declare}
use Rattle.ats_network_file.specs.Senders.{alone, flow_over, placed, refusal_of, stream_fault_over, stream_over}
use Rattle.ats_network_file.specs.declared.fault.NetFault.{NetFault}
use Rattle.ats_network_file.specs.declared.fault.NetFault.TheVariants.{BadPath, Sender}
use Rattle.ats_network_file.specs.declared.senders.Place.{Place}
use Rattle.ats_network_file.specs.declared.senders.SenderTable.{SenderTable}
use Rattle.ats_network_file.specs.declared.senders.SenderTable.TheVariants.{Flow, LinkLocal, LinkLocalFlow, Stream}
use Rattle.ats_plain_document_law.specs.Senders.{AddedInTurn, FlowsAreAdded, RefusalsAreTold, SendersAreDeclared}
use Rattle.ats_plain_document_law.specs.Senders.{SendersAreInOrder, SendersAreOfEntries, StreamsAreAdded}

-- What senders are of their entries, in which order they come, and how each is added.

entries : SendersAreOfEntries
entries = record {
  name = λ legs e. refl;
  ports = λ legs e. refl;
  branches = λ legs e. refl;
  classes = λ legs e. refl;
  rate = λ legs e. refl;
  burst = λ legs e. refl;
  least = λ legs e. refl;
  greatest = λ legs e. refl;
  deadline = λ legs e. refl;
  identity = λ legs e. refl;
  flow_name = λ path e. refl;
  flow_path = λ path e. refl;
  flow_greatest = λ path e. refl;
}

-- a sender with its table and the number of its entry there
abbrev placed_at : {S : Type 0} → SenderTable → ℕ → S → Place × S
placed_at table n s = (record { table = table; number = n }, s)

-- entries that stand for themselves, and that stand for several senders
placed_alone : {E : Type 0} (table : SenderTable) (n : ℕ) (es : List E) → placed alone table n es
    ≡ map (λ (e : ℕ × E). placed_at table e.0 e.1) (enumerate_from n es)
placed_alone table n [] = refl
placed_alone {E} table n (e ∷ es) =
    ap (λ (ps : List (Place × E)). placed_at table n e ∷ ps) (placed_alone table (n + 1) es)

placed_each : {E S : Type 0} (each : E → List S) (table : SenderTable) (n : ℕ) (es : List E) → placed each table n es
    ≡ flat_map (λ (e : ℕ × E). map (λ (s : S). placed_at table e.0 s) (each e.1)) (enumerate_from n es)
placed_each each table n [] = refl
placed_each {E} {S} each table n (e ∷ es) =
    ap (λ (ps : List (Place × S)). map (λ (s : S). placed_at table n s) (each e) ++ ps)
    (placed_each each table (n + 1) es)

order : SendersAreInOrder
order = record {
  streams = λ t d. ap₂ (λ (ps qs : List (Place × file.DeclaredStream)). ps ++ qs) (placed_alone Stream 1 d.streams)
      (placed_each (streams_at t) LinkLocal 1 d.link_locals);
  flows = λ t d. ap₂ (λ (ps qs : List (Place × file.DeclaredFlow)). ps ++ qs) (placed_alone Flow 1 d.flows)
      (placed_each (flows_at t) LinkLocalFlow 1 d.link_local_flows);
}

-- what is looked at of a stream: its legs, its routes, its rules, and what the network says
abbrev of_push : DeclaredNetwork → Place → DeclaredStream → Option PushFault → Result DeclaredNetwork NetFault
of_push network place s reason = unless (refusal_of place) reason (with_stream network s)

abbrev of_rules : DeclaredNetwork → Place → DeclaredStream → Option StreamFault → Result DeclaredNetwork NetFault
of_rules network place s fault =
    unless (Sender place.table place.number) fault s >>= λ s. of_push network place s (stream_push_fault network s)

abbrev of_routes : DeclaredNetwork → Place → file.DeclaredStream → DeclaredLegs → Bool → Result DeclaredNetwork NetFault
of_routes network place e legs may =
    ok_where may (BadPath place.table place.number) legs
    >>= λ legs. of_rules network place (stream_over legs e)
    (stream_fault_over network.topology network.most_ports e.classes (stream_over legs e))

abbrev of_legs : Format → DeclaredNetwork → Place → file.DeclaredStream → Option DeclaredLegs
    → Result DeclaredNetwork NetFault
of_legs f network place e found =
    (or_fault (BadPath place.table place.number) found
    >>= λ legs. ok_where (may_declare f network.topology (routes_of legs.ports legs.branches))
    (BadPath place.table place.number) legs)
    >>= λ legs. of_rules network place (stream_over legs e)
    (stream_fault_over network.topology network.most_ports e.classes (stream_over legs e))

streams : StreamsAreAdded
streams = record {
  no_tree = λ f network place e none. ap (of_legs f network place e) none;
  no_routes = λ f network place e legs some may. ap (of_legs f network place e) some
      ∙ ap (of_routes network place e legs) may;
  breaks = λ f network place e legs fault some may breaks. ap (of_legs f network place e) some
      ∙ ap (of_routes network place e legs) may ∙ ap (of_rules network place (stream_over legs e)) breaks;
  refused = λ f network place e legs reason some may keeps refused. ap (of_legs f network place e) some
      ∙ ap (of_routes network place e legs) may ∙ ap (of_rules network place (stream_over legs e)) keeps
      ∙ ap (of_push network place (stream_over legs e)) refused;
  added = λ f network place e legs some may keeps taken. ap (of_legs f network place e) some
      ∙ ap (of_routes network place e legs) may ∙ ap (of_rules network place (stream_over legs e)) keeps
      ∙ ap (of_push network place (stream_over legs e)) taken;
}

-- and of a flow: its ports, its path, its route, its rules, and what the network says
abbrev flow_push : DeclaredNetwork → Place → DeclaredFlow → Option PushFault → Result DeclaredNetwork NetFault
flow_push network place s reason = unless (refusal_of place) reason (with_flow network s)

abbrev flow_rules : DeclaredNetwork → Place → DeclaredFlow → Option StreamFault → Result DeclaredNetwork NetFault
flow_rules network place s fault =
    unless (Sender place.table place.number) fault s >>= λ s. flow_push network place s (flow_push_fault network s)

abbrev flow_path : DeclaredNetwork → Place → file.DeclaredFlow → List ℕ → Result DeclaredNetwork NetFault
flow_path network place e path =
    flow_rules network place (flow_over path e) (flow_fault_within network.most_ports (flow_over path e))

abbrev flow_route : DeclaredNetwork → Place → file.DeclaredFlow → List ℕ → Bool → Result DeclaredNetwork NetFault
flow_route network place e path may =
    ok_where may (BadPath place.table place.number) path >>= λ path. flow_path network place e path

abbrev flow_valid : Format → DeclaredNetwork → Place → file.DeclaredFlow → List ℕ → Bool
    → Result DeclaredNetwork NetFault
flow_valid f network place e path valid =
    (ok_where valid (BadPath place.table place.number) path
    >>= λ path. ok_where (may_declare f network.topology (path ∷ [])) (BadPath place.table place.number) path)
    >>= λ path. flow_path network place e path

abbrev flow_ports : Format → DeclaredNetwork → Place → file.DeclaredFlow → Option (List ℕ)
    → Result DeclaredNetwork NetFault
flow_ports f network place e found =
    (or_fault (BadPath place.table place.number) found
    >>= λ path. ok_where (is_valid network.topology path) (BadPath place.table place.number) path
    >>= λ path. ok_where (may_declare f network.topology (path ∷ [])) (BadPath place.table place.number) path)
    >>= λ path. flow_path network place e path

flows : FlowsAreAdded
flows = record {
  no_ports = λ f network place e none. ap (flow_ports f network place e) none;
  no_path = λ f network place e path some valid. ap (flow_ports f network place e) some
      ∙ ap (flow_valid f network place e path) valid;
  no_route = λ f network place e path some valid may. ap (flow_ports f network place e) some
      ∙ ap (flow_valid f network place e path) valid ∙ ap (flow_route network place e path) may;
  breaks = λ f network place e path fault some valid may breaks. ap (flow_ports f network place e) some
      ∙ ap (flow_valid f network place e path) valid ∙ ap (flow_route network place e path) may
      ∙ ap (flow_rules network place (flow_over path e)) breaks;
  refused = λ f network place e path reason some valid may keeps refused. ap (flow_ports f network place e) some
      ∙ ap (flow_valid f network place e path) valid ∙ ap (flow_route network place e path) may
      ∙ ap (flow_rules network place (flow_over path e)) keeps
      ∙ ap (flow_push network place (flow_over path e)) refused;
  added = λ f network place e path some valid may keeps taken. ap (flow_ports f network place e) some
      ∙ ap (flow_valid f network place e path) valid ∙ ap (flow_route network place e path) may
      ∙ ap (flow_rules network place (flow_over path e)) keeps
      ∙ ap (flow_push network place (flow_over path e)) taken;
}

refusals : RefusalsAreTold
refusals = record {
  name = λ place. refl;
  identity = λ place. refl;
  limit = λ place. refl;
  stream = refl;
  link_local = refl;
  flow = refl;
  link_local_flow = refl;
}

in_turn : (E : Type 0) → AddedInTurn E
in_turn E = record {
  none = λ added network. refl;
  more = λ added network e entries. refl;
}

pub senders_are_declared : SendersAreDeclared
senders_are_declared = record {
  entries = entries;
  order = order;
  streams = streams;
  flows = flows;
  refusals = refusals;
  streams_in_turn = in_turn file.DeclaredStream;
  flows_in_turn = in_turn file.DeclaredFlow;
}
