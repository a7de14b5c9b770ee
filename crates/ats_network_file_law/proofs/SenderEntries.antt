-- The entries of streams and flows, each behind those that were added.
use Rattle.std.proofs.Common.{◌≡◌, ◌∙◌, ◌⊎◌, ℕ, ◌+◌, ◌≤◌, ◌<◌, Bool, true, false, cond, List, [], ◌∷◌, ◌++◌, length}
use Rattle.std.proofs.Common.{map, Option, Some, None, Result, Ok, inl, inr, refl, sym, ap, subst, arith, append_assoc}
use Rattle.std.proofs.Common.{length-append}
use Rattle.std.specs.Prelude.{◌||◌, is_some, filter, nat_le, nat_lt}
use Rattle.std.specs.List.{AllZip, list_any, position_from}
use Rattle.std.proofs.lemmas.Bool.{false≢true, le-leb, leb-true, lt-ltb, ltb-true}
use Rattle.std.proofs.lemmas.List.{append-nil, map-append}
use Rattle.std.proofs.lemmas.List.Elements.{filter-append}
use Rattle.std.proofs.lemmas.List.Sums.{sum_by_push}
use Rattle.ats_facts.proofs.Options.{cond-none, option_or-none}
use Rattle.ats_num.specs.Failure.{◌>>=◌}
use Rattle.ats_num.specs.Places.{place_of}
use Rattle.ats_topology.specs.Topology.{DeclaredTopology}
use Rattle.ats_streams.specs.Stream.{DeclaredStream, stream_fault_within}
use Rattle.ats_streams.specs.Flow.{DeclaredFlow}
use Rattle.ats_streams.specs.declared.fault.StreamFault.TheVariants as rule
use Rattle.ats_network.specs.Network.{DeclaredNetwork, names_of, ports_together, senders_of}
use Rattle.ats_network.specs.Rates.{is_overrated}
use Rattle.ats_network.specs.Sender.{stream_sender}
use Rattle.ats_network.specs.Pushes.{flow_push_fault, has_identity, is_identity, is_identity_taken, stream_push_fault}
use Rattle.ats_network.specs.Pushes.{is_beyond, with_flow, with_stream}
use Rattle.ats_network.specs.Tables.{flow_names, stream_identities, stream_names}
use Rattle.ats_network.specs.declared.fault.PushFault.{PushFault}
use Rattle.ats_network.specs.declared.fault.PushFault.TheVariants.{NameTaken, IdentityTaken, Limit}
use Rattle.ats_network.specs.declared.network.TheConstants.{MAX_FLOWS, MAX_PORTS_TOGETHER, MAX_STREAMS}
use Rattle.ats_network.proofs.NameLemmas.{names_of-senders}
use Rattle.ats_route_tree.specs.Legs.{DeclaredLegs}
use Rattle.ats_network_toml.specs.Document as file
use Rattle.ats_network_table.specs.declared.format.Format.{Format}
use Rattle.ats_network_file.specs.Reading.{most_ports_of}
use Rattle.ats_network_file.specs.Senders.{flow_added, flow_over, legs_in, path_in, rate_fault, stream_added}
use Rattle.ats_network_file.specs.Senders.{stream_fault_over, stream_over}
use Rattle.ats_network_file.specs.declared.senders.Place.{Place}
use Rattle.ats_network_file.specs.declared.fault.NetFault.{NetFault}
use Rattle.ats_network_file_law.specs.SenderFaults as law
use Rattle.ats_network_file_law.specs.SenderFaults.{IsOverLimit, IsPortsPast, IsRouted, Kind, SenderEntry}
use Rattle.ats_network_file_law.specs.SenderFaults.{a_flow, a_stream, broken_over, count_in, flow}
use Rattle.ats_network_file_law.specs.SenderFaults.{identity_in, is_identity_given, name_in, stands_in, stream}
use Rattle.ats_network_file_law.proofs.Ends.{grouped}
use Rattle.ats_network_file_law.proofs.Entries.{AddsFlow, AddsStream, flow_stands, stream_stands}
use Rattle.ats_network_file_law.proofs.Routed.{Reads, alone, flow_reads, routed_once, stream_reads, zipped_more}
use Rattle.ats_network_file_law.proofs.Routed.{zipped_once}
use Rattle.ats_network_file_law.proofs.SenderSteps.{Judges, fault_had, had_given, onward}
use Rattle.ats_network_file_law.proofs.SenderWalks.{TellsOne}

-- a network has the streams of these entries
pub record StreamsStand (format : Format) (topology : DeclaredTopology) (done : List SenderEntry) (s : DeclaredNetwork)
    : Type 0
  where
    pub over : s.topology ≡ topology
    pub most : s.most_ports ≡ most_ports_of format
    pub names : stream_names s.streams ≡ map name_in done
    pub identities : stream_identities s.streams ≡ map identity_in done
    pub many : length s.streams ≡ count_in a_stream done
    pub legs : List DeclaredLegs
    pub routed : AllZip (IsRouted format topology) (filter (stands_in a_stream) done) legs
    pub ports : ports_together s.streams ≡ law.ports_together legs
    pub flows : s.flows ≡ []
    pub no_flows : count_in a_flow done ≡ 0

-- a network has the senders of these entries
pub record FlowsStand (format : Format) (topology : DeclaredTopology) (done : List SenderEntry) (s : DeclaredNetwork)
    : Type 0
  where
    pub over : s.topology ≡ topology
    pub most : s.most_ports ≡ most_ports_of format
    pub names : names_of (senders_of s) ≡ map name_in done
    pub many : length s.flows ≡ count_in a_flow done

-- the first three tests of a sender that are the same give the same
same_push : (a b c d e f : Bool) → a ≡ d → b ≡ e → c ≡ f
    → cond a (Some NameTaken) (cond b (Some IdentityTaken) (cond c (Some Limit) None))
    ≡ (let o : Option PushFault = cond d (Some NameTaken) (cond e (Some IdentityTaken) (cond f (Some Limit) None)) in o)
same_push a b c d e f p q r = rw (p, q, r) refl

-- a stream with an identity is found where one of the identities is this one
any_identity : (identity : ℕ × ℕ) (streams : List DeclaredStream) (from : ℕ)
    → is_some (position_from (has_identity identity) from streams)
    ≡ list_any (is_identity identity) (stream_identities streams)
any_identity identity [] from = refl
any_identity identity (s ∷ streams) from =
    by (is_identity identity s.identity) (any_identity identity streams (from + 1))
  where
    by : (b : Bool) → is_some (position_from (has_identity identity) (from + 1) streams)
        ≡ list_any (is_identity identity) (stream_identities streams)
        → is_some (cond b (Some from) (position_from (has_identity identity) (from + 1) streams))
        ≡ (b || list_any (is_identity identity) (stream_identities streams))
    by true rest = refl
    by false rest = rest

identity_taken : (streams : List DeclaredStream) (done : List SenderEntry) (identity : Option (ℕ × ℕ))
    → stream_identities streams ≡ map identity_in done
    → is_identity_taken streams identity ≡ is_identity_given done identity
identity_taken streams done None same = refl
identity_taken streams done (Some identity) same =
    any_identity identity streams 0 ∙ ap (list_any (is_identity identity)) same

-- one entry more
more : {B : Type 0} (f : SenderEntry → B) (done : List SenderEntry) (e : SenderEntry)
    → map f (done ++ e ∷ []) ≡ map f done ++ f e ∷ []
more f done e = map-append f done (e ∷ [])

count_more : (t : Kind) (done : List SenderEntry) (e : SenderEntry)
    → count_in t (done ++ e ∷ []) ≡ count_in t done + length (filter (stands_in t) (e ∷ []))
count_more t done e =
    ap (λ (es : List SenderEntry). length es) (filter-append (stands_in t) done (e ∷ []))
    ∙ length-append (filter (stands_in t) done) (filter (stands_in t) (e ∷ []))

-- the names of the senders where there are streams alone
pub names_there : (format : Format) (topology : DeclaredTopology) (done : List SenderEntry) (s : DeclaredNetwork)
    → StreamsStand format topology done s → names_of (senders_of s) ≡ map name_in done
names_there format topology done s h =
    names_of-senders s ∙ ap (λ fs. stream_names s.streams ++ flow_names fs) h.flows
    ∙ append-nil (stream_names s.streams) ∙ h.names

-- the legs of the streams with one more
legs_next : (format : Format) (topology : DeclaredTopology) (done : List SenderEntry) (legs : List DeclaredLegs)
    (n : Place) (e : file.DeclaredStream)
    (own : DeclaredLegs) → AllZip (IsRouted format topology) (filter (stands_in a_stream) done) legs
    → IsRouted format topology (stream n e) own
    → AllZip (IsRouted format topology) (filter (stands_in a_stream) (done ++ stream n e ∷ [])) (legs ++ own ∷ [])
legs_next format topology done legs n e own routed one =
    subst (λ (es : List SenderEntry). AllZip (IsRouted format topology) es (legs ++ own ∷ []))
    (sym (filter-append (stands_in a_stream) done (stream n e ∷ [])))
    (zipped_more (IsRouted format topology) (filter (stands_in a_stream) done) legs (stream n e) own routed one)

-- and their ports
together_more : (legs : List DeclaredLegs) (own : DeclaredLegs)
    → law.ports_together (legs ++ own ∷ []) ≡ law.ports_together legs + length own.ports
together_more legs own = sum_by_push (λ (l : DeclaredLegs). length l.ports) legs own

stream_next : (format : Format) (topology : DeclaredTopology) (done : List SenderEntry) (s : DeclaredNetwork)
    (n : Place)
    (e : file.DeclaredStream) (next : DeclaredNetwork) → StreamsStand format topology done s
    → AddsStream format n s next e → StreamsStand format topology (done ++ stream n e ∷ []) next
stream_next format topology done s n e next h a =
    let counts : count_in a_stream (done ++ stream n e ∷ []) ≡ count_in a_stream done + 1 =
    count_more a_stream done (stream n e) in
    let flows : count_in a_flow (done ++ stream n e ∷ []) ≡ count_in a_flow done + 0 = count_more a_flow done
    (stream n e) in
    let long : length (s.streams ++ a.stream ∷ []) ≡ length s.streams + 1 =
    length-append s.streams (a.stream ∷ []) in
    let many = h.many in
    let none = h.no_flows in
    let ports : ports_together next.streams ≡ ports_together s.streams + length a.stream.ports =
    ap (λ (m : DeclaredNetwork). ports_together m.streams) a.added
    ∙ sum_by_push (λ (t : DeclaredStream). length t.ports) s.streams a.stream in
    let own : length a.stream.ports ≡ length a.legs.ports = ap (λ (ps : List ℕ). length ps) a.ports in
    record {
      over = ap (λ (m : DeclaredNetwork). m.topology) a.added ∙ h.over;
      most = ap (λ (m : DeclaredNetwork). m.most_ports) a.added ∙ h.most;
      names = ap (λ (m : DeclaredNetwork). stream_names m.streams) a.added
          ∙ map-append (λ (t : DeclaredStream). t.name) s.streams (a.stream ∷ [])
          ∙ ap (λ ns. ns ++ a.stream.name ∷ []) h.names ∙ ap (λ x. map name_in done ++ x ∷ []) a.is_of.name
          ∙ sym (more name_in done (stream n e));
      identities = ap (λ (m : DeclaredNetwork). stream_identities m.streams) a.added
          ∙ map-append (λ (t : DeclaredStream). t.identity) s.streams (a.stream ∷ [])
          ∙ ap (λ is. is ++ a.stream.identity ∷ []) h.identities
          ∙ ap (λ x. map identity_in done ++ x ∷ []) a.is_of.identity
          ∙ sym (more identity_in done (stream n e));
      many = ap (λ (m : DeclaredNetwork). length m.streams) a.added ∙ long ∙ omega (arith, many, counts);
      legs = h.legs ++ a.legs ∷ [];
      routed = legs_next format topology done h.legs n e a.legs h.routed
          (subst (λ (t : DeclaredTopology). IsRouted format t (stream n e) a.legs) h.over a.routed);
      ports = omega (arith, ports, own, h.ports, together_more h.legs a.legs);
      flows = ap (λ (m : DeclaredNetwork). m.flows) a.added ∙ h.flows;
      no_flows = omega (arith, none, flows);
    }

-- no rate or burst of a stream that breaks no rule is over the limits of a scheduler
slow_enough : (topology : DeclaredTopology) (most : ℕ) (e : file.DeclaredStream) (legs : DeclaredLegs)
    → stream_fault_over topology most e.classes (stream_over legs e) ≡ None
    → is_overrated topology (stream_sender (stream_over legs e)) ≡ false
slow_enough topology most e legs ruled =
    cond-none (is_overrated topology (stream_sender (stream_over legs e))) rule.Limit
    (option_or-none (stream_fault_within most e.classes (stream_over legs e))
    (rate_fault topology (stream_over legs e)) ruled).1

-- a stream is over a limit just where its entry is
stream_past : (format : Format) (topology : DeclaredTopology) (done : List SenderEntry) (s : DeclaredNetwork)
    (n : Place)
    (e : file.DeclaredStream) (own : DeclaredLegs) → StreamsStand format topology done s
    → IsRouted format topology (stream n e) own
    → broken_over topology (most_ports_of format) (stream n e) own ≡ None → is_beyond s (stream_over own e) ≡ true
    → IsOverLimit format topology done (stream n e)
stream_past format topology done s n e own h routed ruled beyond =
    by (nat_le MAX_STREAMS (length s.streams)) refl
    (nat_lt MAX_PORTS_TOGETHER (ports_together s.streams + length own.ports)) refl beyond
  where
    together : nat_lt MAX_PORTS_TOGETHER (ports_together s.streams + length own.ports) ≡ true
        → MAX_PORTS_TOGETHER < law.ports_together (h.legs ++ own ∷ [])
    together f = omega (
      arith,
      ltb-true MAX_PORTS_TOGETHER (ports_together s.streams + length own.ports) f,
      h.ports,
      together_more h.legs own,
    )

    by : (b : Bool) → nat_le MAX_STREAMS (length s.streams) ≡ b
        → (c : Bool) → nat_lt MAX_PORTS_TOGETHER (ports_together s.streams + length own.ports) ≡ c
        → ((b || c) || is_overrated s.topology (stream_sender (stream_over own e))) ≡ true
        → IsOverLimit format topology done (stream n e)
    by true many c ports f = inl (omega (arith, leb-true MAX_STREAMS (length s.streams) many, h.many))
    by false few true ports f = inr (record {
      stands = refl;
      legs = h.legs ++ own ∷ [];
      routed = zipped_more (IsRouted format topology) (filter (stands_in a_stream) done) h.legs
          (stream n e) own h.routed routed;
      past = together ports;
    })
    by false few false ports f =
        absurd (false≢true (sym (slow_enough topology (most_ports_of format) e own ruled)
        ∙ ap (λ (t : DeclaredTopology). is_overrated t (stream_sender (stream_over own e))) (sym h.over) ∙ f))

-- the second of three tests passes
second : (b d : Bool) → ((b || true) || d) ≡ true
second true d = refl
second false d = refl

stream_over_limit : (format : Format) (topology : DeclaredTopology) (done : List SenderEntry) (s : DeclaredNetwork)
    (n : Place) (e : file.DeclaredStream) (own : DeclaredLegs) → StreamsStand format topology done s
    → IsRouted format topology (stream n e) own → IsOverLimit format topology done (stream n e)
    → is_beyond s (stream_over own e) ≡ true
stream_over_limit format topology done s n e own h routed over = by over
  where
    many : Bool
    many = nat_le MAX_STREAMS (length s.streams)

    ports : Bool
    ports = nat_lt MAX_PORTS_TOGETHER (ports_together s.streams + length own.ports)

    rates : Bool
    rates = is_overrated s.topology (stream_sender (stream_over own e))

    by : (MAX_STREAMS ≤ count_in a_stream done) ⊎ IsPortsPast format topology done (stream n e)
        → ((many || ports) || rates) ≡ true
    by (inl so_many) =
        ap (λ (b : Bool). (b || ports) || rates)
        (le-leb MAX_STREAMS (length s.streams) (omega (arith, so_many, h.many)))
    by (inr past) =
        let legs : past.legs ≡ h.legs ++ own ∷ [] =
        zipped_once (IsRouted format topology) (routed_once format topology)
        (filter (stands_in a_stream) done ++ stream n e ∷ [])
        past.legs (h.legs ++ own ∷ []) past.routed
        (zipped_more (IsRouted format topology) (filter (stands_in a_stream) done) h.legs
        (stream n e) own h.routed routed)
        in
        ap (λ (b : Bool). (many || b) || rates)
        (lt-ltb MAX_PORTS_TOGETHER (ports_together s.streams + length own.ports) (omega (
          arith,
          past.past,
          ap (λ (ls : List DeclaredLegs). law.ports_together ls) legs,
          h.ports,
          together_more h.legs own,
        ))) ∙ second many rates

-- what a network takes of a stream it takes of the entry
stream_judges : (format : Format) (topology : DeclaredTopology) (done : List SenderEntry) (s : DeclaredNetwork)
    (n : Place)
    (e : file.DeclaredStream) → StreamsStand format topology done s
    → Judges format topology done (stream n e) (λ legs. stream_over legs e) (stream_push_fault s)
stream_judges format topology done s n e h = record {
  beyond = λ legs. is_beyond s (stream_over legs e);
  pushes = λ legs. same_push (is_some (place_of e.name (names_of (senders_of s))))
      (is_identity_taken s.streams e.identity) (is_beyond s (stream_over legs e))
      (is_some (place_of e.name (map name_in done))) (is_identity_given done e.identity)
      (is_beyond s (stream_over legs e))
      (ap (λ ns. is_some (place_of e.name ns)) (names_there format topology done s h))
      (identity_taken s.streams done e.identity h.identities) refl;
  past = λ legs routed ruled beyond. stream_past format topology done s n e legs h routed ruled beyond;
  given = λ legs routed over. stream_over_limit format topology done s n e legs h routed over;
}

pub stream_tells : (format : Format) (topology : DeclaredTopology) (done : List SenderEntry) (s : DeclaredNetwork)
    (n : Place) (e : file.DeclaredStream) → StreamsStand format topology done s
    → TellsOne format topology done (stream n e) (stream_added format s n e)
    (λ next. StreamsStand format topology (done ++ stream n e ∷ []) next)
stream_tells format topology done s n e h = record {
  first = λ f is. fault_had format topology done (stream n e) (legs_in format s.topology n e.routes)
      (λ legs. stream_over legs e)
      (stream_push_fault s) (with_stream s) f reads (stream_judges format topology done s n e h) (as_most ∙ is);
  given = λ f had. sym as_most ∙ had_given format topology done (stream n e) (legs_in format s.topology n e.routes)
      (λ legs. stream_over legs e)
      (stream_push_fault s) (with_stream s) f reads (stream_judges format topology done s n e h) had;
  next = λ next is. stream_next format topology done s n e next h (stream_stands format s n e next is);
}
  where
    as_most : (legs_in format s.topology n e.routes
        >>= onward topology (most_ports_of format) (stream n e) (λ legs. stream_over legs e) (stream_push_fault s)
        (with_stream s)) ≡ stream_added format s n e
    as_most = ap (λ (most : ℕ). legs_in format s.topology n e.routes
        >>= onward topology most (stream n e) (λ legs. stream_over legs e) (stream_push_fault s) (with_stream s))
        (sym h.most)
        ∙ ap (λ (t : DeclaredTopology). legs_in format s.topology n e.routes
        >>= onward t s.most_ports (stream n e) (λ legs. stream_over legs e) (stream_push_fault s) (with_stream s))
        (sym h.over)

    reads : Reads format topology (stream n e) (legs_in format s.topology n e.routes)
    reads = subst (λ (t : DeclaredTopology). Reads format topology (stream n e) (legs_in format t n e.routes))
        (sym h.over)
        (stream_reads format topology e n)

flow_next : (format : Format) (topology : DeclaredTopology) (done : List SenderEntry) (s : DeclaredNetwork) (n : Place)
    (e : file.DeclaredFlow) (next : DeclaredNetwork) → FlowsStand format topology done s
    → AddsFlow s next e → FlowsStand format topology (done ++ flow n e ∷ []) next
flow_next format topology done s n e next h a =
    let counts : count_in a_flow (done ++ flow n e ∷ []) ≡ count_in a_flow done + 1 = count_more a_flow done
    (flow n e) in
    let long : length (s.flows ++ a.flow ∷ []) ≡ length s.flows + 1 = length-append s.flows (a.flow ∷ []) in
    let many = h.many in
    record {
      over = ap (λ (m : DeclaredNetwork). m.topology) a.added ∙ h.over;
      most = ap (λ (m : DeclaredNetwork). m.most_ports) a.added ∙ h.most;
      names = ap (λ (m : DeclaredNetwork). names_of (senders_of m)) a.added ∙ names_of-senders (with_flow s a.flow)
          ∙ ap (λ ns. stream_names s.streams ++ ns)
          (map-append (λ (t : DeclaredFlow). t.name) s.flows (a.flow ∷ []))
          ∙ sym (append_assoc (stream_names s.streams) (flow_names s.flows) (a.flow.name ∷ []))
          ∙ ap (λ ns. ns ++ a.flow.name ∷ []) (sym (names_of-senders s) ∙ h.names)
          ∙ ap (λ x. map name_in done ++ x ∷ []) a.is_of.name ∙ sym (more name_in done (flow n e));
      many = ap (λ (m : DeclaredNetwork). length m.flows) a.added ∙ long ∙ omega (arith, many, counts);
    }

flow_judges : (format : Format) (topology : DeclaredTopology) (done : List SenderEntry) (s : DeclaredNetwork)
    (n : Place)
    (e : file.DeclaredFlow) → FlowsStand format topology done s
    → Judges format topology done (flow n e) (λ legs. flow_over legs.ports e) (flow_push_fault s)
flow_judges format topology done s n e h = record {
  beyond = λ legs. nat_le MAX_FLOWS (count_in a_flow done);
  pushes = λ legs. same_push (is_some (place_of e.name (names_of (senders_of s)))) false
      (nat_le MAX_FLOWS (length s.flows)) (is_some (place_of e.name (map name_in done)))
      false (nat_le MAX_FLOWS (count_in a_flow done))
      (ap (λ ns. is_some (place_of e.name ns)) h.names) refl (ap (nat_le MAX_FLOWS) h.many);
  past = λ legs routed ruled beyond. inl (leb-true MAX_FLOWS (count_in a_flow done) beyond);
  given = λ legs routed over. by over;
}
  where
    by : (MAX_FLOWS ≤ count_in a_flow done) ⊎ IsPortsPast format topology done (flow n e)
        → nat_le MAX_FLOWS (count_in a_flow done) ≡ true
    by (inl many) = le-leb MAX_FLOWS (count_in a_flow done) many
    by (inr past) = cc (past.stands)

pub flow_tells : (format : Format) (topology : DeclaredTopology) (done : List SenderEntry) (s : DeclaredNetwork)
    (n : Place)
    (e : file.DeclaredFlow) → FlowsStand format topology done s
    → TellsOne format topology done (flow n e) (flow_added format s n e)
    (λ next. FlowsStand format topology (done ++ flow n e ∷ []) next)
flow_tells format topology done s n e h = record {
  first = λ f is. fault_had format topology done (flow n e) read (λ legs. flow_over legs.ports e) (flow_push_fault s)
      (with_flow s) f reads (flow_judges format topology done s n e h) (as_legs ∙ is);
  given = λ f had. sym as_legs ∙ had_given format topology done (flow n e) read (λ legs. flow_over legs.ports e)
      (flow_push_fault s) (with_flow s) f reads (flow_judges format topology done s n e h) had;
  next = λ next is. flow_next format topology done s n e next h (flow_stands format s n e next is);
}
  where
    read : Result DeclaredLegs NetFault
    read = path_in format s.topology n e.route >>= λ path. Ok (alone path)

    reads : Reads format topology (flow n e) read
    reads = subst (λ (t : DeclaredTopology). Reads format topology (flow n e)
        (path_in format t n e.route >>= λ path. Ok (alone path))) (sym h.over) (flow_reads format topology e n)

    as_legs : (read >>= onward topology (most_ports_of format) (flow n e) (λ legs. flow_over legs.ports e)
        (flow_push_fault s) (with_flow s)) ≡ flow_added format s n e
    as_legs = ap (λ (most : ℕ). read >>= onward topology most (flow n e) (λ legs. flow_over legs.ports e)
        (flow_push_fault s) (with_flow s)) (sym h.most)
        ∙ grouped (path_in format s.topology n e.route) (λ path. Ok (alone path))
        (onward topology s.most_ports (flow n e) (λ legs. flow_over legs.ports e) (flow_push_fault s) (with_flow s))
