use Rattle.std.proofs.Common.{◌≡◌, ◌∙◌, ℕ, zero, suc, ◌+◌, ◌<◌, Bool, true, false, cond, List, [], ◌∷◌, length, get_or}
use Rattle.std.proofs.Common.{Option, Some, None, refl, sym, ap, arith, inl, inr, subst}
use Rattle.std.specs.Prelude.{◌↔◌, ◌&&◌, ◌==◌, IsTrue, if◌then◌else◌, slice_get}
use Rattle.std.specs.List.{position_from}
use Rattle.std.specs.Option.{option_and_then}
use Rattle.std.specs.Str.{bytes_eq}
use Rattle.std.proofs.lemmas.Bool.{cases_lt, eq-eqb, eqb-true, false≢true}
use Rattle.std.proofs.lemmas.List.{get_or-map, length-map}
use Rattle.std.proofs.lemmas.Option.{none-some, same_Some}
use Rattle.ats_facts.proofs.Bytes.{bytes_eq-same, bytes_eq-true}
use Rattle.ats_num.specs.Name.{is_name}
use Rattle.ats_num.specs.Places.{place_of}
use Rattle.ats_topology.specs.Node.{is_station, names_of}
use Rattle.ats_topology.specs.Port.{no_port}
use Rattle.ats_topology.specs.Topology.{DeclaredTopology, if_station, no_node, node_at, station_named}
use Rattle.ats_topology.specs.declared.node.Node.{Node}
use Rattle.ats_topology.specs.declared.port.Port.{Port}
use Rattle.ats_topology.proofs.PositionLemmas.{IsFound, all_fail, found}
use Rattle.ats_streams.specs.Stream.{DeclaredStream}
use Rattle.ats_network.specs.Edits.{no_stream}
use Rattle.ats_network.specs.Network.{DeclaredNetwork, names_of as sender_names, senders_of}
use Rattle.ats_network.specs.Pushes.{has_identity, is_identity, place_identified}
use Rattle.ats_network.specs.Sender.{Sender}
use Rattle.ats_network.specs.Senders.{no_sender, sender_at}
use Rattle.ats_port_names.specs.PortName.{name_of as written, port_named}
use Rattle.ats_trace.specs.Talker.{talker_of}
use Rattle.ats_capture.specs.Traffic.{begun_at, stream_of}
use Rattle.ats_schedule.specs.Reading.{sender_named}
use Rattle.ats_command_input.specs.Stream.{stream_named}
use Rattle.ats_exact_examples.specs.Found.{FindsFirst, IdentitiesAreFound, IsFirst, IsFirstBegun, IsStationNamed}
use Rattle.ats_exact_examples.specs.Found.{IsSenderCalled, IsSenderNamed, NamesAreFound, RecordsBelong}
use Rattle.ats_exact_examples.specs.Named.{IsNodeNamed, IsPortNamed, IsStreamIdentified, IsStreamNamed}
use Rattle.ats_exact_examples.proofs.IdentityProofs.{declared_so, identities_are_exact}

-- What is there is found.

-- no place before the one that is found passes
before_fails : {X : Type 0} (t : X → Bool) (k : ℕ) (xs : List X) (n m : ℕ) (d : X) → position_from t k xs ≡ Some n
    → k + m < n → t (get_or xs m d) ≡ false
before_fails t k [] n m d h below = absurd (none-some n h)
before_fails t k (x ∷ xs) n m d h below =
    by (λ later m below. before_fails t (k + 1) xs n m d later below) (t x) refl h m below
  where
    by : (position_from t (k + 1) xs ≡ Some n → (m : ℕ) → k + 1 + m < n → t (get_or xs m d) ≡ false) → (b : Bool)
        → t x ≡ b → cond b (Some k) (position_from t (k + 1) xs) ≡ Some n → (m : ℕ) → k + m < n
        → t (get_or (x ∷ xs) m d) ≡ false
    by behind true e h m below = let here : k ≡ n = same_Some k n h in absurd (omega (arith, here, below))
    by behind false e h zero below = e
    by behind false e h (suc m) below = behind h m (omega (arith, below))

-- what a test passes stands at a place of a list
record Passes {X : Type 0} (t : X → Bool) (xs : List X) (d : X) (n : ℕ) : Type 0 where
  within : n < length xs
  passes : t (get_or xs n d) ≡ true

-- the first of two numbers of which each is the first is the other
first_is_one : (So : ℕ → Type 0) (n m : ℕ) → IsFirst So n → IsFirst So m → n ≡ m
first_is_one So n m one other = elim (cases_lt n m) as (λ _. n ≡ m) [
  | inl less ↦ absurd (other.none_before n less one.so)
  | inr no_less ↦ elim (cases_lt m n) as (λ _. n ≡ m) [
    | inl less ↦ absurd (one.none_before m less other.so)
    | inr neither ↦ omega (arith, no_less, neither)
  ]
]

module _ {X : Type 0} (t : X → Bool) (xs : List X) (d : X) where
  found_first : (n : ℕ) → position_from t 0 xs ≡ Some n → IsFirst (Passes t xs d) n
  found_first n h =
      let at : IsFound t xs d 0 n = found t 0 xs n d h in
      let same : at.place ≡ n = omega (arith, at.is) in
      record {
        so = subst (Passes t xs d) same (record { within = at.within; passes = at.passes });
        none_before = λ m below passes.
            false≢true (sym (before_fails t 0 xs n m d h (omega (arith, below))) ∙ passes.passes);
      }

  found_none : position_from t 0 xs ≡ None → (n : ℕ) → ¬ Passes t xs d n
  found_none h n passes = false≢true (sym (all_fail t 0 xs h n d passes.within) ∙ passes.passes)

  first_found : (o : Option ℕ) → position_from t 0 xs ≡ o → (n : ℕ) → IsFirst (Passes t xs d) n → o ≡ Some n
  first_found None h n first = absurd (found_none h n first.so)
  first_found (Some m) h n first = ap Some (first_is_one (Passes t xs d) m n (found_first m h) first)

  none_found : (o : Option ℕ) → position_from t 0 xs ≡ o → ((n : ℕ) → ¬ Passes t xs d n) → o ≡ None
  none_found None h none = refl
  none_found (Some m) h none = absurd (none m (found_first m h).so)

  -- of what says the same as that a place passes
  finds_first : (So : ℕ → Type 0) → ((n : ℕ) → Passes t xs d n → So n) → ((n : ℕ) → So n → Passes t xs d n)
      → FindsFirst (position_from t 0 xs) So
  finds_first So to from = record {
    one = λ n. (
      λ h. (let first = found_first n h in
          record { so = to n first.so; none_before = λ m below so. first.none_before m below (from m so) }),
      λ first. first_found (position_from t 0 xs) refl n
          (record { so = from n first.so; none_before = λ m below so. first.none_before m below (to m so) }),
    );
    none = (
      λ h n so. found_none h n (from n so),
      λ none. none_found (position_from t 0 xs) refl (λ n passes. none n (to n passes)),
    );
  }

-- bytes pass the test with the same bytes
bytes_same : (xs ys : List ℕ) → xs ≡ ys → bytes_eq xs ys ≡ true
bytes_same xs ys same = subst (λ (l : List ℕ). bytes_eq xs l ≡ true) same (bytes_eq-same xs)

stream_found : (streams : List DeclaredStream) (word : List ℕ)
    → FindsFirst (stream_named streams word) (IsStreamNamed streams word)
stream_found streams word =
    finds_first (λ (stream : DeclaredStream). bytes_eq stream.name word) streams no_stream (IsStreamNamed streams word)
    (λ n passes.
    record { there = passes.within; so = bytes_eq-true (get_or streams n no_stream).name word passes.passes })
    (λ n so. record { within = so.there; passes = bytes_same (get_or streams n no_stream).name word so.so })

port_found : (topology : DeclaredTopology) (text : List ℕ)
    → FindsFirst (port_named topology text) (IsPortNamed topology text)
port_found topology text =
    finds_first (λ (port : Port). bytes_eq text (written topology port)) topology.ports no_port
    (IsPortNamed topology text)
    (λ n passes. record {
      there = passes.within;
      so = sym (bytes_eq-true text (written topology (get_or topology.ports n no_port)) passes.passes);
    })
    (λ n so. record {
      within = so.there;
      passes = bytes_same text (written topology (get_or topology.ports n no_port)) (sym so.so);
    })

node_found : (topology : DeclaredTopology) (name : List ℕ)
    → FindsFirst (place_of name (names_of topology.nodes)) (IsNodeNamed topology name)
node_found topology name =
    finds_first (bytes_eq name) (names_of topology.nodes) [] (IsNodeNamed topology name) to from
  where
    long : length (names_of topology.nodes) ≡ length topology.nodes
    long = length-map topology.nodes (λ (node : Node). node.name)

    called : (n : ℕ) → n < length topology.nodes
        → get_or (names_of topology.nodes) n [] ≡ (get_or topology.nodes n no_node).name
    called n within = get_or-map (λ (node : Node). node.name) topology.nodes n no_node [] within

    to : (n : ℕ) → Passes (bytes_eq name) (names_of topology.nodes) [] n → IsNodeNamed topology name n
    to n passes =
        let within : n < length topology.nodes = omega (arith, passes.within, long) in
        record {
          there = within;
          so = sym (called n within)
              ∙ sym (bytes_eq-true name (get_or (names_of topology.nodes) n []) passes.passes);
        }

    from : (n : ℕ) → IsNodeNamed topology name n → Passes (bytes_eq name) (names_of topology.nodes) [] n
    from n so = record {
      within = omega (arith, so.there, long);
      passes = bytes_same name (get_or (names_of topology.nodes) n []) (sym (called n so.there ∙ so.so));
    }

-- a station that is found, by the place of its name
station_at : (topology : DeclaredTopology) (word : List ℕ) (n : ℕ) → IsTrue (is_name word) → (o : Option ℕ)
    → place_of word (names_of topology.nodes) ≡ o → option_and_then (if_station topology) o ≡ Some n
    → IsStationNamed topology word n
station_at topology word n name None placed h = absurd (none-some n h)
station_at topology word n name (Some m) placed h = by (is_station (node_at topology.nodes m).kind) refl h
  where
    by : (b : Bool) → is_station (node_at topology.nodes m).kind ≡ b → (if b then Some m else None) ≡ Some n
        → IsStationNamed topology word n
    by false e h = absurd (none-some n h)
    by true e h =
        let same : m ≡ n = same_Some m n h in
        subst (IsStationNamed topology word) same (record {
          name = name;
          first = ((node_found topology word).one m).0 placed;
          station = e;
        })

-- the number of the station that a word names, where it is a name or not
abbrev station_if : DeclaredTopology → List ℕ → Bool → Option ℕ
station_if topology word b =
    option_and_then (if_station topology)
    (option_and_then (λ name. place_of name (names_of topology.nodes)) (if b then Some word else None))

station_found : (topology : DeclaredTopology) (word : List ℕ) (n : ℕ)
    → (station_named topology word ≡ Some n) ↔ IsStationNamed topology word n
station_found topology word n = (
  λ named. to (is_name word) refl named,
  λ is.
      ap (station_if topology word) is.name
      ∙ ap (λ o. option_and_then (if_station topology) o) (((node_found topology word).one n).1 is.first)
      ∙ ap (λ (b : Bool). if b then Some n else None) is.station,
)
  where
    to : (b : Bool) → is_name word ≡ b → station_if topology word b ≡ Some n → IsStationNamed topology word n
    to false e h = absurd (none-some n h)
    to true e h = station_at topology word n e (place_of word (names_of topology.nodes)) refl h

called_found : (network : DeclaredNetwork) (name : List ℕ)
    → FindsFirst (place_of name (sender_names (senders_of network))) (IsSenderCalled network name)
called_found network name =
    finds_first (bytes_eq name) (sender_names (senders_of network)) [] (IsSenderCalled network name) to from
  where
    long : length (sender_names (senders_of network)) ≡ length (senders_of network)
    long = length-map (senders_of network) (λ (s : Sender). s.name)

    called : (n : ℕ) → n < length (senders_of network)
        → get_or (sender_names (senders_of network)) n [] ≡ (sender_at network n).name
    called n within = get_or-map (λ (s : Sender). s.name) (senders_of network) n no_sender [] within

    to : (n : ℕ) → Passes (bytes_eq name) (sender_names (senders_of network)) [] n → IsSenderCalled network name n
    to n passes =
        let within : n < length (senders_of network) = omega (arith, passes.within, long) in
        record {
          there = within;
          so = sym (called n within)
              ∙ sym (bytes_eq-true name (get_or (sender_names (senders_of network)) n []) passes.passes);
        }

    from : (n : ℕ) → IsSenderCalled network name n → Passes (bytes_eq name) (sender_names (senders_of network)) [] n
    from n so = record {
      within = omega (arith, so.there, long);
      passes = bytes_same name (get_or (sender_names (senders_of network)) n []) (sym (called n so.there ∙ so.so));
    }

-- the number of the sender that a word names, where it is a name or not
abbrev sender_if : DeclaredNetwork → List ℕ → Bool → Option ℕ
sender_if network word b =
    option_and_then (λ name. place_of name (sender_names (senders_of network))) (if b then Some word else None)

named_found : (network : DeclaredNetwork) (word : List ℕ) (n : ℕ)
    → (sender_named network word ≡ Some n) ↔ IsSenderNamed network word n
named_found network word n = (
  λ named. to (is_name word) refl named,
  λ is. ap (sender_if network word) is.name ∙ ((called_found network word).one n).1 is.first,
)
  where
    to : (b : Bool) → is_name word ≡ b → sender_if network word b ≡ Some n → IsSenderNamed network word n
    to false e h = absurd (none-some n h)
    to true e h = record { name = e; first = ((called_found network word).one n).0 h }

pub names_are_found : NamesAreFound
names_are_found =
    record { stream = stream_found; port = port_found; station = station_found; sender = named_found }

identity_passes : (identity : ℕ × ℕ) (o : Option (ℕ × ℕ)) → o ≡ Some identity → is_identity identity o ≡ true
identity_passes identity o same =
    subst (λ (p : Option (ℕ × ℕ)). is_identity identity p ≡ true) (sym same)
    (ap (λ (b : Bool). b && (identity.1 == identity.1)) (eq-eqb identity.0 identity.0 refl)
    ∙ eq-eqb identity.1 identity.1 refl)

identified_found : (streams : List DeclaredStream) (identity : ℕ × ℕ)
    → FindsFirst (place_identified identity streams) (IsStreamIdentified streams identity)
identified_found streams identity =
    finds_first (has_identity identity) streams no_stream (IsStreamIdentified streams identity)
    (λ n passes.
    record {
      there = passes.within;
      so = declared_so identity (get_or streams n no_stream).identity passes.passes;
    })
    (λ n so. record {
      within = so.there;
      passes = identity_passes identity (get_or streams n no_stream).identity so.so;
    })

-- what a sender declares that is a stream
sender_found : (streams : List DeclaredStream) (n : ℕ) (identity : ℕ × ℕ) → n < length streams
    → (get_or streams n no_stream).identity ≡ Some identity
    → option_and_then (λ (stream : DeclaredStream). stream.identity) (slice_get streams n) ≡ Some identity
sender_found [] n identity within so = absurd (omega arith)
sender_found (stream ∷ streams) zero identity within so = so
sender_found (stream ∷ streams) (suc n) identity within so = sender_found streams n identity (omega arith) so

-- a stream to which a record belongs, by the place of its identity
begun_to : (network : DeclaredNetwork) (station : ℕ) (identity : ℕ × ℕ) (n : ℕ) (o : Option ℕ)
    → place_identified identity network.streams ≡ o → option_and_then (begun_at network station) o ≡ Some n
    → IsFirstBegun network station identity n
begun_to network station identity n None placed h = absurd (none-some n h)
begun_to network station identity n (Some m) placed h = by (talker_of network m == station) refl h
  where
    by : (b : Bool) → (talker_of network m == station) ≡ b → (if b then Some m else None) ≡ Some n
        → IsFirstBegun network station identity n
    by false e h = absurd (none-some n h)
    by true e h =
        let same : m ≡ n = same_Some m n h in
        subst (IsFirstBegun network station identity) same (record {
          first = ((identified_found network.streams identity).one m).0 placed;
          begins = eqb-true (talker_of network m) station e;
        })

begun_from : (network : DeclaredNetwork) (station : ℕ) (identity : ℕ × ℕ) (n : ℕ)
    → IsFirstBegun network station identity n → stream_of network station (Some identity) ≡ Some n
begun_from network station identity n is =
    ap (λ o. option_and_then (begun_at network station) o)
    (((identified_found network.streams identity).one n).1 is.first)
    ∙ ap (λ (b : Bool). if b then Some n else None) (eq-eqb (talker_of network n) station is.begins)

belong : RecordsBelong
belong = record {
  by_first = λ network station identity n. (
    λ h. begun_to network station identity n (place_identified identity network.streams) refl h,
    λ is. begun_from network station identity n is,
  );
  declared = λ network identity n apart is. begun_from network (talker_of network n) identity n (record {
    first = record {
      so = is;
      none_before = λ m below so.
          apart m n no_stream below is.there identity (record { one = so.so; other = is.so });
    };
    begins = refl;
  });
  of_none = λ network station. refl;
  branched = refl;
}

pub identities_are_found : IdentitiesAreFound
identities_are_found = record {
  stream = identified_found;
  sender = λ network n identity. (
    λ h. identities_are_exact.sender network n identity h,
    λ is. sender_found network.streams n identity is.there is.so,
  );
  captured = belong;
}
