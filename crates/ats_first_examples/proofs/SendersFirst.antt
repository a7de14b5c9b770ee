use Rattle.std.proofs.Common.{◌≡◌, ℕ, true, List, [], ◌∷◌, ◌++◌, Some, None, Result, Ok, Err, refl, ap, ◌∙◌}
use Rattle.std.specs.Prelude.{codes}
use Rattle.ats_num.specs.Failure.{◌>>=◌, unless}
use Rattle.ats_topology.specs.Topology.{DeclaredTopology, topology_of}
use Rattle.ats_streams.specs.Stream.{declared_stream}
use Rattle.ats_streams.specs.declared.fault.StreamFault.TheVariants as rule
use Rattle.ats_network.specs.Network.{DeclaredNetwork, declared_network, long_network}
use Rattle.ats_network.specs.Path.{IsValidPath}
use Rattle.ats_network.specs.Pushes.{stream_push_fault, with_stream}
use Rattle.ats_network_table.specs.declared.format.Format.TheVariants.{One, Three, Two}
use Rattle.ats_network_toml.specs.Document as file
use Rattle.ats_network_file.specs.Reading.{links_of, nodes_of}
use Rattle.ats_network_file.specs.Routes.{may_declare, ports_of_each}
use Rattle.ats_network_file.specs.Senders.{all_added, alone, flow_added, legs_in, path_in, placed, refusal_of}
use Rattle.ats_network_file.specs.Senders.{stream_added, stream_made, stream_over}
use Rattle.ats_network_file.specs.declared.senders.Place.{Place}
use Rattle.ats_network_file.specs.declared.fault.NetFault.{NetFault}
use Rattle.ats_network_file.specs.declared.fault.NetFault.TheVariants as fault
use Rattle.ats_network_file.specs.declared.senders.SenderTable.{SenderTable}
use Rattle.ats_network_file.specs.declared.senders.SenderTable.TheVariants.{Flow, LinkLocal, Stream}
use Rattle.ats_examples.proofs.NetworkTest.{valid_from_by}
use Rattle.ats_file_examples.proofs.Steps.{at_flow, at_stream, flow_is, legs_is, none_more, one_leg, one_more}
use Rattle.ats_file_examples.proofs.Steps.{path_is, stream_is}
use Rattle.ats_text_examples.specs.Worked.{way}
use Rattle.ats_first_examples.specs.Rules.{clocked, paced}
use Rattle.ats_first_examples.specs.Senders.{EntriesAreFirst, EntriesAreTold, FlowsAreFirst, RatesAreFirst}
use Rattle.ats_first_examples.specs.Senders.{RoutesAreJudged, SendersAreFirst, StreamsAreFirst, along, at_number}
use Rattle.ats_first_examples.specs.Senders.{at_rate, between, comes, file_with, first, flow, nowhere, stream, there}
use Rattle.ats_first_examples.specs.Senders.{with_senders}
use Rattle.ats_first_examples.proofs.Routes.{no_path, no_port, not_joined}

-- Routes by a test of their ports, and the senders of a file one after another.

routes_are_judged : RoutesAreJudged
routes_are_judged = record {
  right = legs_is Two way.topology (at_stream 5) (along (codes "s1" ∷ codes "b1" ∷ codes "b2" ∷ codes "s2" ∷ []) ∷ [])
      (0 ∷ 2 ∷ 4 ∷ []) refl refl (valid_from_by way.topology 0 (0 ∷ 2 ∷ 4 ∷ []) refl);
  back = legs_is Two way.topology (at_stream 5) (along (codes "s2" ∷ codes "b2" ∷ codes "b1" ∷ codes "s1" ∷ []) ∷ [])
      (5 ∷ 3 ∷ 1 ∷ []) refl refl (valid_from_by way.topology 1 (5 ∷ 3 ∷ 1 ∷ []) refl);
  shortest = legs_is Two way.topology (at_stream 5) (between (codes "s1") (codes "s2") ∷ []) (0 ∷ 2 ∷ 4 ∷ []) refl refl
      (valid_from_by way.topology 0 (0 ∷ 2 ∷ 4 ∷ []) refl);
  no_node = refl;
  no_first = refl;
  no_link = refl;
  from_bridge = not_joined Two way.topology (at_stream 5) (along (codes "b1" ∷ codes "b2" ∷ codes "s2" ∷ []))
      (2 ∷ 4 ∷ [])
      refl (valid_from_by way.topology 2 (2 ∷ 4 ∷ []) refl) refl;
  to_bridge = not_joined Two way.topology (at_stream 5) (along (codes "s1" ∷ codes "b1" ∷ codes "b2" ∷ []))
      (0 ∷ 2 ∷ []) refl
      (valid_from_by way.topology 0 (0 ∷ 2 ∷ []) refl) refl;
  and_back = no_path Two way.topology (at_stream 5) (along (codes "s1" ∷ codes "b1" ∷ codes "s1" ∷ []))
      (0 ∷ 1 ∷ []) 0 0 refl
      refl refl;
  twice = no_path Two way.topology (at_stream 5)
      (along (codes "s1" ∷ codes "b1" ∷ codes "b2" ∷ codes "b1" ∷ codes "b2" ∷ codes "s2" ∷ []))
      (0 ∷ 2 ∷ 3 ∷ 2 ∷ 4 ∷ []) 0 1 refl refl refl;
  one_node = no_port Two way.topology (at_stream 5) (along (codes "s1" ∷ [])) [] refl refl;
  one_end = no_port Two way.topology (at_stream 5) (between (codes "s1") (codes "s1")) [] refl refl;
  end_at_bridge = not_joined Two way.topology (at_stream 5) (between (codes "s1") (codes "b2")) (0 ∷ 2 ∷ []) refl
      (valid_from_by way.topology 0 (0 ∷ 2 ∷ []) refl) refl;
  begin_at_bridge = not_joined Two way.topology (at_stream 5) (between (codes "b1") (codes "s2")) (2 ∷ 4 ∷ []) refl
      (valid_from_by way.topology 2 (2 ∷ 4 ∷ []) refl) refl;
  no_from = refl;
  no_to = refl;
  from_bridge_in_one = not_joined One way.topology (at_stream 5) (along (codes "b1" ∷ codes "b2" ∷ codes "s2" ∷ []))
      (2 ∷ 4 ∷ [])
      refl (valid_from_by way.topology 2 (2 ∷ 4 ∷ []) refl) refl;
  from_bridge_in_three = legs_is Three way.topology (at_stream 5)
      (along (codes "b1" ∷ codes "b2" ∷ codes "s2" ∷ []) ∷ [])
      (2 ∷ 4 ∷ []) refl refl (valid_from_by way.topology 2 (2 ∷ 4 ∷ []) refl);
  to_bridge_in_three = legs_is Three way.topology (at_stream 5) (along (codes "s1" ∷ codes "b1" ∷ codes "b2" ∷ []) ∷ [])
      (0 ∷ 2 ∷ []) refl refl (valid_from_by way.topology 0 (0 ∷ 2 ∷ []) refl);
  bridges_in_three = legs_is Three way.topology (at_stream 5) (between (codes "b1") (codes "b2") ∷ [])
      (2 ∷ []) refl refl
      (valid_from_by way.topology 2 (2 ∷ []) refl);
  end_at_bridge_in_three = legs_is Three way.topology (at_stream 5) (between (codes "s1") (codes "b2") ∷ [])
      (0 ∷ 2 ∷ []) refl refl
      (valid_from_by way.topology 0 (0 ∷ 2 ∷ []) refl);
  begin_at_bridge_in_three = legs_is Three way.topology (at_stream 5) (between (codes "b1") (codes "s2") ∷ [])
      (2 ∷ 4 ∷ []) refl
      refl (valid_from_by way.topology 2 (2 ∷ 4 ∷ []) refl);
  and_back_in_three = no_path Three way.topology (at_stream 5) (along (codes "s1" ∷ codes "b1" ∷ codes "s1" ∷ []))
      (0 ∷ 1 ∷ []) 0 0
      refl refl refl;
}

-- the topology of the file, and the network with so many of the first stream
abbrev line : DeclaredTopology
line = topology_of (nodes_of (file_with [] [] [])) (links_of (file_with [] [] []))

abbrev none_yet : DeclaredNetwork
none_yet = declared_network line [] []

abbrev one_yet : DeclaredNetwork
one_yet = declared_network line
    (declared_stream (codes "a") (0 ∷ 2 ∷ []) (1 ∷ 1 ∷ []) 1 672 64 64 1 (Some (0xA1, 7)) ∷ []) []

found_there : (n : Place) → path_in Two line n there ≡ Ok (0 ∷ 2 ∷ [])
found_there n = path_is Two line n there (0 ∷ 2 ∷ []) refl refl (valid_from_by line 0 (0 ∷ 2 ∷ []) refl)

-- as a flow's path, and as the legs of a stream
legs_there : (n : Place) → legs_in Two line n (there ∷ []) ≡ Ok (one_leg (0 ∷ 2 ∷ []))
legs_there n = legs_is Two line n (there ∷ []) (0 ∷ 2 ∷ []) refl refl (valid_from_by line 0 (0 ∷ 2 ∷ []) refl)

first_added : stream_added Two none_yet (at_stream 1) first ≡ Ok one_yet
first_added =
    stream_is Two none_yet (at_stream 1) first (one_leg (0 ∷ 2 ∷ [])) (Ok one_yet) (legs_there (at_stream 1)) refl

-- behind the first stream
abbrev flows_of : List file.DeclaredFlow → List (Place × file.DeclaredFlow)
flows_of flows = placed alone Flow 1 flows ++ []

behind_first : (streams : List file.DeclaredStream) (flows : List file.DeclaredFlow)
    (due : Result DeclaredNetwork NetFault)
    → all_added (stream_added Two) one_yet (placed alone Stream 2 streams ++ []) ≡ due
    → with_senders streams flows ≡ (due >>= λ streamed. all_added (flow_added Two) streamed (flows_of flows))
behind_first streams flows due is =
    ap (λ (r : Result DeclaredNetwork NetFault). r >>= λ streamed. all_added (flow_added Two) streamed (flows_of flows))
    (one_more (stream_added Two) none_yet one_yet (at_stream 1) first (placed alone Stream 2 streams ++ []) first_added
    ∙ is)

-- a second stream has this fault, whatever comes behind it
second_fails : (entry : file.DeclaredStream) (streams : List file.DeclaredStream) (flows : List file.DeclaredFlow)
    (why : NetFault) → stream_added Two one_yet (at_stream 2) entry ≡ Err why
    → with_senders (entry ∷ streams) flows ≡ Err why
second_fails entry streams flows why is =
    behind_first (entry ∷ streams) flows (Err why)
    (none_more (stream_added Two) one_yet (at_stream 2) entry (placed alone Stream 3 streams ++ []) why is)

-- and so a first flow
flow_fails : (entry : file.DeclaredFlow) (flows : List file.DeclaredFlow) (why : NetFault)
    → flow_added Two one_yet (at_flow 1) entry ≡ Err why → with_senders [] (entry ∷ flows) ≡ Err why
flow_fails entry flows why is =
    behind_first [] (entry ∷ flows) (Ok one_yet) refl
    ∙ none_more (flow_added Two) one_yet (at_flow 1) entry (placed alone Flow 2 flows ++ []) why is

identity_twice : stream_added Two one_yet (at_stream 2) (stream (codes "b") there 1 (Some (0xA1, 7)))
    ≡ Err (fault.IdentityTwice 2)
identity_twice = stream_is Two one_yet (at_stream 2) (stream (codes "b") there 1 (Some (0xA1, 7)))
    (one_leg (0 ∷ 2 ∷ [])) (Err (fault.IdentityTwice 2)) (legs_there (at_stream 2)) refl

streams_are_first : StreamsAreFirst
streams_are_first = record {
  path = second_fails (stream (codes "a") nowhere 0 (Some (0xA1, 7))) [] [] (fault.BadPath Stream 2) refl;
  class = second_fails (stream (codes "a") there 0 (Some (0xA1, 7))) [] [] (fault.Sender Stream 2 rule.BadClass)
      (stream_is Two one_yet (at_stream 2) (stream (codes "a") there 0 (Some (0xA1, 7))) (one_leg (0 ∷ 2 ∷ []))
      (Err (fault.Sender Stream 2 rule.BadClass)) (legs_there (at_stream 2)) refl);
  name = second_fails (stream (codes "a") there 1 (Some (0xA1, 7))) [] [] (fault.SenderTwice Stream 2)
      (stream_is Two one_yet (at_stream 2) (stream (codes "a") there 1 (Some (0xA1, 7))) (one_leg (0 ∷ 2 ∷ []))
      (Err (fault.SenderTwice Stream 2)) (legs_there (at_stream 2)) refl);
  identity = second_fails (stream (codes "b") there 1 (Some (0xA1, 7))) [] [] (fault.IdentityTwice 2) identity_twice;
}

named_twice : flow_added Two one_yet (at_flow 1) (flow (codes "a") there 64) ≡ Err (fault.SenderTwice Flow 1)
named_twice = flow_is Two one_yet (at_flow 1) (flow (codes "a") there 64) (0 ∷ 2 ∷ []) (Err (fault.SenderTwice Flow 1))
    (found_there (at_flow 1)) refl

flows_are_first : FlowsAreFirst
flows_are_first = record {
  path = flow_fails (flow (codes "a") nowhere 63) [] (fault.BadPath Flow 1) refl;
  size = flow_fails (flow (codes "a") there 63) [] (fault.Sender Flow 1 rule.BadSizes)
      (flow_is Two one_yet (at_flow 1) (flow (codes "a") there 63) (0 ∷ 2 ∷ [])
      (Err (fault.Sender Flow 1 rule.BadSizes))
      (found_there (at_flow 1)) refl);
  name = flow_fails (flow (codes "a") there 64) [] (fault.SenderTwice Flow 1) named_twice;
}

-- over the bridge with the slow clock
abbrev slow : DeclaredTopology
slow = clocked 1000 10000000

abbrev one_slow : DeclaredNetwork
one_slow = long_network slow (paced (0 ∷ 2 ∷ []) 1 672 ∷ []) []

-- a stream by these ports
slow_is : (table : SenderTable) (route : file.DeclaredRoute) (rate : ℕ) (path : List ℕ)
    (due : Result DeclaredNetwork NetFault) → ports_of_each slow (route ∷ []) ≡ Some (path ∷ [])
    → may_declare Three slow (path ∷ []) ≡ true → IsValidPath slow path
    → (stream_made slow 64 (at_number table) (at_rate (stream (codes "w") route 1 None) rate)
    (stream_over (one_leg path) (at_rate (stream (codes "w") route 1 None) rate))
    >>= λ made. unless (refusal_of (at_number table)) (stream_push_fault one_slow made) (with_stream one_slow made))
    ≡ due → comes table (codes "w") route rate ≡ due
slow_is table route rate path due ports may valid is =
    stream_is Three one_slow (at_number table) (at_rate (stream (codes "w") route 1 None) rate) (one_leg path) due
    (legs_is Three slow (at_number table) (route ∷ []) path ports may valid) is

rates_are_first : RatesAreFirst
rates_are_first = record {
  path = refl;
  own = slow_is Stream there 100000000001 (0 ∷ 2 ∷ []) (Err (fault.Sender Stream 5 rule.BadRate)) refl refl over refl;
  over = slow_is Stream there 99800199801 (0 ∷ 2 ∷ []) (Err (fault.Sender Stream 5 rule.Limit)) refl refl over refl;
  most = slow_is Stream there 99800199800 (0 ∷ 2 ∷ []) (Err (fault.SenderTwice Stream 5)) refl refl over refl;
  from_bridge = slow_is LinkLocal behind 99900099901 (2 ∷ []) (Err (fault.Sender LinkLocal 5 rule.Limit)) refl refl
      from refl;
  from_bridge_most = slow_is LinkLocal behind 99900099900 (2 ∷ []) (Err (fault.SenderTwice LinkLocal 5)) refl refl
      from refl;
}
  where
    behind : file.DeclaredRoute
    behind = along (codes "b1" ∷ codes "s2" ∷ [])

    over : IsValidPath slow (0 ∷ 2 ∷ [])
    over = valid_from_by slow 0 (0 ∷ 2 ∷ []) refl

    from : IsValidPath slow (2 ∷ [])
    from = valid_from_by slow 2 (2 ∷ []) refl

entries_are_first : EntriesAreFirst
entries_are_first = record {
  links = refl;
  streams = second_fails (stream (codes "b") there 1 (Some (0xA1, 7))) [] (flow (codes "f") nowhere 64 ∷ [])
      (fault.IdentityTwice 2) identity_twice;
  earlier = second_fails (stream (codes "b") there 1 (Some (0xA1, 7))) (stream (codes "c") nowhere 1 None ∷ []) []
      (fault.IdentityTwice 2) identity_twice;
  earlier_flow = flow_fails (flow (codes "a") there 64) (flow (codes "f") nowhere 64 ∷ []) (fault.SenderTwice Flow 1)
      named_twice;
}

entries_are_told : EntriesAreTold
entries_are_told = record {
  stream_name = refl;
  stream_identity = refl;
  streams = refl;
  flow_name = refl;
  flows = refl;
  for_ports = refl;
  name_for_ports = refl;
}

pub senders_are_first : SendersAreFirst
senders_are_first = record {
  routes = routes_are_judged;
  streams = streams_are_first;
  flows = flows_are_first;
  rates = rates_are_first;
  entries = entries_are_first;
  told = entries_are_told;
}
