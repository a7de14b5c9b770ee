use Rattle.std.proofs.Common.{◌≡◌, ◌≢◌, ℕ, suc, ◌<◌, Bool, true, false, List, [], ◌∷◌, ◌++◌, map, length, get_or}
use Rattle.std.proofs.Common.{take, drop}
use Rattle.std.proofs.Common.{Option, Some, None, refl, sym, ap, subst, ◌∙◌, arith, length-append, ◌⊎◌, inl, inr}
use Rattle.std.proofs.Common.{eqb, ◌+◌}
use Rattle.std.specs.Prelude.{IfSome}
use Rattle.std.specs.BTreeMap.{BTreeMap}
use Rattle.std.specs.List.{All, AllPairs, remove}
use Rattle.std.specs.Option.{option_map}
use Rattle.std.specs.Str.{bytes_eq}
use Rattle.std.proofs.lemmas.Bool.{eqb-true, and_parts, false≢true, cases_order}
use Rattle.std.proofs.lemmas.List.{map-append, length-map, get_or-map, drop-map, take-map}
use Rattle.std.proofs.lemmas.List.Edits.{length-remove}
use Rattle.std.proofs.lemmas.List.Quantifiers.{all_pairs_push, all_pairs_remove}
use Rattle.ats_facts.proofs.Bytes.{bytes_eq-true}
use Rattle.ats_num.specs.Places.{place_of}
use Rattle.ats_topology.specs.Node.{AreApart}
use Rattle.ats_streams.specs.Stream.{DeclaredStream}
use Rattle.ats_network.specs.Edits.{no_stream}
use Rattle.ats_network.specs.Network.{AreIdentified}
use Rattle.ats_network.specs.Pushes.{is_identity, is_identity_taken, place_identified}
use Rattle.ats_network.specs.Tables.{AreStreams, FindsSame, Identifies, IsUnidentified, Names, NamesSame, number_at}
use Rattle.ats_network.specs.Tables.{serial_at, serial_of, stream_identities, stream_names}
use Rattle.ats_network.specs.declared.network.TheConstants.{MAX_STREAMS}
use Rattle.ats_network.proofs.IdentityLemmas.{absent_identity}
use Rattle.ats_network.proofs.NameLemmas.{bytes_ne, pairs_from_apart}
use Rattle.ats_network.proofs.SerialLemmas.{IsNumbered, serial_place, unfound, numbered, found_push, found_less}
use Rattle.ats_network.proofs.SerialLemmas.{position_from-map}

abbrev name : DeclaredStream → List ℕ
name s = s.name

abbrev identity : DeclaredStream → Option (ℕ × ℕ)
identity s = s.identity

-- an identity that is not taken has no serial number
pub no_serial : (streams : List DeclaredStream) (serials : List ℕ) (declared : Option (ℕ × ℕ)) (address vlan : ℕ)
    → length serials ≡ length streams → is_identity_taken streams declared ≡ false
    → is_identity (address, vlan) declared ≡ true
    → serial_of (is_identity (address, vlan)) (stream_identities streams) serials ≡ None
no_serial streams serials declared address vlan many free same =
    serial_place (is_identity (address, vlan)) (stream_identities streams) serials
    (many ∙ sym (length-map streams identity))
    ∙ ap (option_map (λ n. get_or serials n 0)) (position_from-map identity (is_identity (address, vlan)) 0 streams
    ∙ absent_identity streams declared free address vlan same)

-- nor has the map one for it
pub unidentified : (streams : List DeclaredStream) (serials : List ℕ) (names : BTreeMap (List ℕ) ℕ)
    (identities : BTreeMap (ℕ × ℕ) ℕ) (declared : Option (ℕ × ℕ)) → AreStreams streams serials names identities
    → is_identity_taken streams declared ≡ false → IsUnidentified identities declared
unidentified streams serials names identities declared table free address vlan same =
    table.identified address vlan ∙ no_serial streams serials declared address vlan table.numbered free same

-- a name that is not found has no serial number
unnamed : (streams : List DeclaredStream) (serials : List ℕ) (q asked : List ℕ) → length serials ≡ length streams
    → place_of asked (stream_names streams) ≡ None → bytes_eq q asked ≡ true
    → serial_of (bytes_eq q) (stream_names streams) serials ≡ None
unnamed streams serials q asked many absent same =
    serial_place (bytes_eq q) (stream_names streams) serials (many ∙ sym (length-map streams name))
    ∙ ap (option_map (λ n. get_or serials n 0))
    (ap (λ (t : List ℕ). place_of t (stream_names streams)) (bytes_eq-true q asked same) ∙ absent)

-- maps that find the same serve the same streams
pub same_table : (streams : List DeclaredStream) (serials : List ℕ) (names names' : BTreeMap (List ℕ) ℕ)
    (old new : BTreeMap (ℕ × ℕ) ℕ) → AreStreams streams serials names old → NamesSame names names'
    → FindsSame old new → AreStreams streams serials names' new
same_table streams serials names names' old new table same finds = record {
  named = λ q. same q ∙ table.named q;
  identified = λ address vlan. finds address vlan ∙ table.identified address vlan;
  numbered = table.numbered;
  rising = table.rising;
  few = table.few;
}

-- a table with one stream more
pub table_push : (streams : List DeclaredStream) (stream : DeclaredStream) (serials : List ℕ) (serial : ℕ)
    (names names' : BTreeMap (List ℕ) ℕ) (old new : BTreeMap (ℕ × ℕ) ℕ) → AreStreams streams serials names old
    → place_of stream.name (stream_names streams) ≡ None → is_identity_taken streams stream.identity ≡ false
    → length streams < MAX_STREAMS → All (λ s. s < serial) serials → Names names names' stream.name (Some serial)
    → Identifies old new stream.identity (Some serial)
    → AreStreams (streams ++ stream ∷ []) (serials ++ serial ∷ []) names' new
table_push streams stream serials serial names names' old new table absent free room above named identified = record {
  named = λ q. rw (map-append name streams (stream ∷ []))
      (found_push (bytes_eq q) (stream_names streams) serials stream.name serial (serial_at names q)
      (serial_at names' q)
      (table.numbered ∙ sym (length-map streams name)) (table.named q)
      (unnamed streams serials q stream.name table.numbered absent) (named q));
  identified = λ address vlan. rw (map-append identity streams (stream ∷ []))
      (found_push (is_identity (address, vlan)) (stream_identities streams) serials stream.identity serial
      (number_at old address vlan) (number_at new address vlan) (table.numbered ∙ sym (length-map streams identity))
      (table.identified address vlan) (no_serial streams serials stream.identity address vlan table.numbered free)
      (identified address vlan));
  numbered = omega (arith, table.numbered, length-append streams (stream ∷ []), length-append serials (serial ∷ []));
  rising = all_pairs_push (λ a b. a < b) serials serial table.rising above;
  few = omega (arith, length-append streams (stream ∷ []));
}

-- what streams show is the same where each shows what the one in its place shows
pub shown_table : (streams streams' : List DeclaredStream) (serials : List ℕ) (names : BTreeMap (List ℕ) ℕ)
    (identities : BTreeMap (ℕ × ℕ) ℕ) → AreStreams streams serials names identities
    → stream_names streams' ≡ stream_names streams → stream_identities streams' ≡ stream_identities streams
    → AreStreams streams' serials names identities
shown_table streams streams' serials names identities table same alike =
    let many : length streams' ≡ length streams =
    sym (length-map streams' name) ∙ ap length same ∙ length-map streams name in
    record {
      named = λ q. rw same (table.named q);
      identified = λ address vlan. rw alike (table.identified address vlan);
      numbered = table.numbered ∙ sym many;
      rising = table.rising;
      few = rw many table.few;
    }

-- what is shown without an element is what the others show
pub map-remove : {X Y : Type 0} (f : X → Y) (xs : List X) (n : ℕ) → map f (remove xs n) ≡ remove (map f xs) n
map-remove {X} {Y} f xs n =
    map-append f (take n xs) (drop (suc n) xs) ∙ ap (λ (ys : List Y). map f (take n xs) ++ ys) (sym (drop-map f
    (suc n) xs))
    ∙ ap (λ (ys : List Y). ys ++ drop (suc n) (map f xs)) (sym (take-map f n xs))

-- names that are apart: no other passes the test of one
other_names : (streams : List DeclaredStream) (n : ℕ) (q : List ℕ) → AreApart (stream_names streams)
    → n < length (stream_names streams) → bytes_eq q (get_or (stream_names streams) n []) ≡ true
    → (k : ℕ) → k < length (stream_names streams) → k ≢ n
    → bytes_eq q (get_or (stream_names streams) k []) ≡ false
other_names streams n q apart within passes k below other =
    bytes_ne q (get_or (stream_names streams) k []) (λ e. by (cases_order k n) (sym e ∙ is))
  where
    is : q ≡ get_or (stream_names streams) n []
    is = bytes_eq-true q (get_or (stream_names streams) n []) passes

    pairs : AllPairs (λ a b. a ≢ b) (stream_names streams)
    pairs = pairs_from_apart (stream_names streams) apart

    by : (k ≡ n) ⊎ ((k < n) ⊎ (n < k)) → get_or (stream_names streams) k [] ≡ get_or (stream_names streams) n [] → ⊥
    by (inl e) same = other e
    by (inr (inl before)) same = pairs k n [] before within same
    by (inr (inr after)) same = pairs n k [] after below (sym same)

-- what passes the test of an identity declares it
is_it : (declared : Option (ℕ × ℕ)) (address vlan : ℕ) → is_identity (address, vlan) declared ≡ true
    → declared ≡ Some (address, vlan)
is_it None address vlan pass = absurd (false≢true pass)
is_it (Some given) address vlan pass =
    let parts : (eqb given.0 address ≡ true) × (eqb given.1 vlan ≡ true) =
    and_parts (eqb given.0 address) (eqb given.1 vlan) pass in
    ap (λ (a : ℕ). Some (a, given.1)) (eqb-true given.0 address parts.0)
    ∙ ap (λ (v : ℕ). Some (address, v)) (eqb-true given.1 vlan parts.1)

-- identities that are apart: no other passes the test of one
other_identities : (streams : List DeclaredStream) (n address vlan : ℕ) → AreIdentified streams
    → n < length (stream_identities streams) → is_identity (address, vlan) (get_or
    (stream_identities streams) n None) ≡ true
    → (k : ℕ) → k < length (stream_identities streams) → k ≢ n
    → is_identity (address, vlan) (get_or (stream_identities streams) k None) ≡ false
other_identities streams n address vlan apart within passes k below other =
    against (is_identity (address, vlan) (get_or (stream_identities streams) k None)) refl
  where
    many : length (stream_identities streams) ≡ length streams
    many = length-map streams identity

    shown : (i : ℕ) → i < length (stream_identities streams)
        → is_identity (address, vlan) (get_or (stream_identities streams) i None) ≡ true
        → (get_or streams i no_stream).identity ≡ Some (address, vlan)
    shown i there pass =
        let at : get_or (stream_identities streams) i None ≡ (get_or streams i no_stream).identity =
        get_or-map identity streams i no_stream None (omega (arith, many, there)) in
        sym at ∙ is_it (get_or (stream_identities streams) i None) address vlan pass

    both : (i j : ℕ) → i < j → i < length (stream_identities streams) → j < length (stream_identities streams)
        → is_identity (address, vlan) (get_or (stream_identities streams) i None) ≡ true
        → is_identity (address, vlan) (get_or (stream_identities streams) j None) ≡ true → ⊥
    both i j before first second one two =
        apart i j no_stream before (omega (arith, many, second)) (address, vlan)
        (record { one = shown i first one; other = shown j second two })

    against : (b : Bool) → is_identity (address, vlan) (get_or (stream_identities streams) k None) ≡ b
        → is_identity (address, vlan) (get_or (stream_identities streams) k None) ≡ false
    against false e = e
    against true e = absurd (by (cases_order k n))
      where
        by : (k ≡ n) ⊎ ((k < n) ⊎ (n < k)) → ⊥
        by (inl same) = other same
        by (inr (inl before)) = both k n before below within e passes
        by (inr (inr after)) = both n k after within below passes e

-- a table without the stream at a place
pub table_less : (streams : List DeclaredStream) (n : ℕ) (serials : List ℕ) (names names' : BTreeMap (List ℕ) ℕ)
    (old new : BTreeMap (ℕ × ℕ) ℕ) → AreStreams streams serials names old → n < length streams
    → AreApart (stream_names streams) → AreIdentified streams
    → Names names names' (get_or streams n no_stream).name None
    → Identifies old new (get_or streams n no_stream).identity None
    → AreStreams (remove streams n) (remove serials n) names' new
table_less streams n serials names names' old new table within apart identities named identified = record {
  named = λ q. rw (map-remove name streams n)
      (found_less (bytes_eq q) (stream_names streams) serials n [] (serial_at names q) (serial_at names' q)
      (table.numbered ∙ sym (length-map streams name)) in_names (table.named q) (other_names streams n q apart in_names)
      (rw shown_name (named q)));
  identified = λ address vlan. rw (map-remove identity streams n)
      (found_less (is_identity (address, vlan)) (stream_identities streams) serials n None
      (number_at old address vlan) (number_at new address vlan) (table.numbered ∙ sym (length-map streams identity))
      in_identities (table.identified address vlan)
      (other_identities streams n address vlan identities in_identities)
      (rw shown_identity (identified address vlan)));
  numbered =
      let less : length (remove streams n) + 1 ≡ length streams = length-remove streams n within in
      let less_serials : length (remove serials n) + 1 ≡ length serials = length-remove serials n in_serials in
      omega (arith, less, less_serials, table.numbered);
  rising = all_pairs_remove (λ a b. a < b) serials n in_serials table.rising;
  few = let less : length (remove streams n) + 1 ≡ length streams = length-remove streams n within in
      omega (arith, less, table.few);
}
  where
    in_names : n < length (stream_names streams)
    in_names = omega (arith, length-map streams name, within)

    in_identities : n < length (stream_identities streams)
    in_identities = omega (arith, length-map streams identity, within)

    in_serials : n < length serials
    in_serials = omega (arith, table.numbered, within)

    shown_name : get_or (stream_names streams) n [] ≡ (get_or streams n no_stream).name
    shown_name = get_or-map name streams n no_stream [] within

    shown_identity : get_or (stream_identities streams) n None ≡ (get_or streams n no_stream).identity
    shown_identity = get_or-map identity streams n no_stream None within

-- a look-up by name that finds no serial number, and one that finds its place
pub place_none : (streams : List DeclaredStream) (serials : List ℕ) (names : BTreeMap (List ℕ) ℕ)
    (identities : BTreeMap (ℕ × ℕ) ℕ) (q : List ℕ) → AreStreams streams serials names identities
    → None ≡ serial_at names q → None ≡ place_of q (stream_names streams)
place_none streams serials names identities q table none =
    sym (unfound (bytes_eq q) (stream_names streams) serials (table.numbered ∙ sym (length-map streams name))
    (sym (none ∙ table.named q)))

pub place_some : (streams : List DeclaredStream) (serials : List ℕ) (names : BTreeMap (List ℕ) ℕ)
    (identities : BTreeMap (ℕ × ℕ) ℕ) (q : List ℕ) (serial : ℕ) (given : List ℕ) (result : Option ℕ)
    → AreStreams streams serials names identities → given ≡ serials → Some serial ≡ serial_at names q
    → ((n : ℕ) → n < length given → get_or given n 0 ≡ serial → result ≡ Some n)
    → IsNumbered (bytes_eq q) (stream_names streams) serials serial
    × (result ≡ place_of q (stream_names streams))
place_some streams serials names identities q serial given result table same some placed = (it, is)
  where
    many : length serials ≡ length (stream_names streams)
    many = table.numbered ∙ sym (length-map streams name)

    it : IsNumbered (bytes_eq q) (stream_names streams) serials serial
    it = numbered (bytes_eq q) (stream_names streams) serials serial many (sym (some ∙ table.named q))

    is : result ≡ place_of q (stream_names streams)
    is = placed it.place (omega (arith, ap length same, many, it.within))
        (ap (λ (xs : List ℕ). get_or xs it.place 0) same ∙ it.stands) ∙ sym it.is

-- the place that a look-up by name finds is one of the streams
pub place_within : (streams : List DeclaredStream) (serials : List ℕ) (names : BTreeMap (List ℕ) ℕ)
    (identities : BTreeMap (ℕ × ℕ) ℕ) (q : List ℕ) (serial : ℕ) (given : List ℕ) (result : Option ℕ)
    → AreStreams streams serials names identities → given ≡ serials → Some serial ≡ serial_at names q
    → ((n : ℕ) → n < length given → get_or given n 0 ≡ serial → result ≡ Some n)
    → IfSome result (λ place. place < length streams)
place_within streams serials names identities q serial given result table same some placed =
    let both : IsNumbered (bytes_eq q) (stream_names streams) serials serial
    × (result ≡ place_of q (stream_names streams)) =
    place_some streams serials names identities q serial given result table same some placed in
    let below : both.0.place < length streams = omega (arith, both.0.within, length-map streams name) in
    subst (λ (o : Option ℕ). IfSome o (λ place. place < length streams)) (sym (both.1 ∙ both.0.is)) below

-- a look-up by identity that finds no serial number, and one that finds its place
pub identity_none : (streams : List DeclaredStream) (serials : List ℕ) (names : BTreeMap (List ℕ) ℕ)
    (identities : BTreeMap (ℕ × ℕ) ℕ) (address vlan : ℕ) → AreStreams streams serials names identities
    → None ≡ number_at identities address vlan → None ≡ place_identified (address, vlan) streams
identity_none streams serials names identities address vlan table none =
    sym (sym (position_from-map identity (is_identity (address, vlan)) 0 streams)
    ∙ unfound (is_identity (address, vlan)) (stream_identities streams) serials
    (table.numbered ∙ sym (length-map streams identity)) (sym (none ∙ table.identified address vlan)))

pub identity_some : (streams : List DeclaredStream) (serials : List ℕ) (names : BTreeMap (List ℕ) ℕ)
    (identities : BTreeMap (ℕ × ℕ) ℕ) (address vlan serial : ℕ) (given : List ℕ) (result : Option ℕ)
    → AreStreams streams serials names identities → given ≡ serials → Some serial ≡ number_at identities address vlan
    → ((n : ℕ) → n < length given → get_or given n 0 ≡ serial → result ≡ Some n)
    → result ≡ place_identified (address, vlan) streams
identity_some streams serials names identities address vlan serial given result table same some placed =
    placed it.place (omega (arith, ap length same, many, it.within))
    (ap (λ (xs : List ℕ). get_or xs it.place 0) same ∙ it.stands)
    ∙ sym it.is ∙ position_from-map identity (is_identity (address, vlan)) 0 streams
  where
    many : length serials ≡ length (stream_identities streams)
    many = table.numbered ∙ sym (length-map streams identity)

    it : IsNumbered (is_identity (address, vlan)) (stream_identities streams) serials serial
    it = numbered (is_identity (address, vlan)) (stream_identities streams) serials serial many
        (sym (some ∙ table.identified address vlan))
