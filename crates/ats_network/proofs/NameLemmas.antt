use Rattle.std.proofs.Common.{◌≡◌, ◌≢◌, ℕ, zero, suc, ◌+◌, ◌<◌, Bool, true, false, cond, List, [], ◌∷◌, ◌++◌, map}
use Rattle.std.proofs.Common.{length, get_or, Option, Some, None, refl, sym, ap, ◌∙◌, arith, append_assoc}
use Rattle.std.specs.List.{All, AllPairs, position_from}
use Rattle.std.specs.Option.{option_or, option_map}
use Rattle.std.specs.Str.{bytes_eq}
use Rattle.std.proofs.lemmas.List.{map-append, get_or_default, length-map}
use Rattle.std.proofs.lemmas.List.Elements.{All-weaker}
use Rattle.std.proofs.lemmas.Option.{same_Some}
use Rattle.std.proofs.lemmas.Bool.{true≢false}
use Rattle.ats_facts.proofs.Bytes.{bytes_eq-true, bytes_eq-same}
use Rattle.ats_facts.proofs.Lists.{all_left, all_right, pairs_head, pairs_tail}
use Rattle.ats_num.specs.Places.{place_of}
use Rattle.ats_topology.specs.Node.{AreApart}
use Rattle.ats_topology.proofs.PositionLemmas.{all_fail}
use Rattle.ats_streams.specs.Stream.{DeclaredStream}
use Rattle.ats_network.specs.Sender.{Sender, stream_sender, flow_sender}
use Rattle.ats_network.specs.Network.{DeclaredNetwork, senders_of, names_of}
use Rattle.ats_network.specs.Tables.{stream_names, flow_names}
use Rattle.ats_network.proofs.Appended.{position_from-append, position_from-later, pairs_insert}

map-map : {X Y Z : Type 0} (f : X → Y) (g : Y → Z) (xs : List X) → map g (map f xs) ≡ map (λ x. g (f x)) xs
map-map f g [] = refl
map-map f g (x ∷ xs) = ap (λ t. g (f x) ∷ t) (map-map f g xs)

-- the senders' names are those of the streams and then those of the flows
pub names_of-senders : (network : DeclaredNetwork)
    → names_of (senders_of network) ≡ stream_names network.streams ++ flow_names network.flows
names_of-senders network =
    let name : Sender → List ℕ = λ s. s.name in
    map-append name (map stream_sender network.streams) (map flow_sender network.flows)
    ∙ ap (λ t. t ++ map name (map flow_sender network.flows)) (map-map stream_sender name network.streams)
    ∙ ap (λ t. stream_names network.streams ++ t) (map-map flow_sender name network.flows)

-- a name is looked up among the streams, and then among the flows
pub place_of-append : (name : List ℕ) (xs ys : List (List ℕ))
    → place_of name (xs ++ ys) ≡ option_or (place_of name xs) (option_map (λ n. length xs + n) (place_of name ys))
place_of-append name xs ys =
    position_from-append (bytes_eq name) 0 xs ys
    ∙ ap (option_or (place_of name xs)) (ap (λ (n : ℕ). position_from (bytes_eq name) n ys) (omega arith)
    ∙ position_from-later (bytes_eq name) (length xs) 0 ys)

-- names that differ fail the test
pub bytes_ne : (xs ys : List ℕ) → xs ≢ ys → bytes_eq xs ys ≡ false
bytes_ne xs ys ne = by (bytes_eq xs ys) refl
  where
    by : (b : Bool) → bytes_eq xs ys ≡ b → bytes_eq xs ys ≡ false
    by true e = absurd (ne (bytes_eq-true xs ys e))
    by false e = e

differ : (name other : List ℕ) → bytes_eq name other ≡ false → other ≢ name
differ name other h e = true≢false (sym (bytes_eq-same name) ∙ ap (bytes_eq name) (sym e) ∙ h)

-- a name that is not found differs from each
pub absent_differs : (name : List ℕ) (names : List (List ℕ)) → place_of name names ≡ None
    → All (λ other. other ≢ name) names
absent_differs name names none =
    All-weaker (λ other. bytes_eq name other ≡ false) (λ other. other ≢ name) (differ name) names
    (all_fail (bytes_eq name) 0 names none)

-- names that are found at their own places are pairwise different, and the other way round
pub pairs_from_apart : (names : List (List ℕ)) → AreApart names → AllPairs (λ a b. a ≢ b) names
pairs_from_apart names apart i j d below within same =
    let left : get_or names i [] ≡ get_or names j [] =
    get_or_default names i [] d (omega arith) ∙ same ∙ get_or_default names j d [] within in
    let one : i ≡ j =
    same_Some i j (sym (apart i (omega arith)) ∙ ap (λ (name : List ℕ). place_of name names) left ∙ apart j within) in
    omega arith

pub apart_from_pairs : (names : List (List ℕ)) → AllPairs (λ a b. a ≢ b) names → AreApart names
apart_from_pairs [] pairs n below = absurd (omega arith)
apart_from_pairs (x ∷ names) pairs zero below =
    ap (λ (b : Bool). cond b (Some 0) (position_from (bytes_eq x) 1 names)) (bytes_eq-same x)
apart_from_pairs (x ∷ names) pairs (suc n) below =
    let within : n < length names = omega arith in
    let name : List ℕ = get_or names n [] in
    ap (λ (b : Bool). cond b (Some 0) (position_from (bytes_eq name) 1 names))
    (bytes_ne name x (λ e. pairs_head (λ a b. a ≢ b) x names pairs n [] within (sym e)))
    ∙ position_from-later (bytes_eq name) 1 0 names
    ∙ ap (option_map (λ n. 1 + n)) (apart_from_pairs names (pairs_tail (λ a b. a ≢ b) x names pairs) n within)
    ∙ ap Some (omega arith)

-- a name that none has may stand anywhere
pub apart_insert : (xs ys : List (List ℕ)) (name : List ℕ) → AreApart (xs ++ ys) → place_of name (xs ++ ys) ≡ None
    → AreApart ((xs ++ name ∷ []) ++ ys)
apart_insert xs ys name apart none =
    let others : All (λ other. other ≢ name) (xs ++ ys) = absent_differs name (xs ++ ys) none in
    let after : All (λ other. name ≢ other) ys =
    All-weaker (λ other. other ≢ name) (λ other. name ≢ other) (λ other ne e. ne (sym e)) ys
    (all_right (λ other. other ≢ name) xs ys others) in
    rw append_assoc
    (apart_from_pairs (xs ++ name ∷ ys)
    (pairs_insert (λ a b. a ≢ b) xs ys name (pairs_from_apart (xs ++ ys) apart)
    (all_left (λ other. other ≢ name) xs ys others) after))

-- what a look-up among the streams, and then among the flows, says of the senders
pub found_first : (name : List ℕ) (network : DeclaredNetwork) (place : ℕ) → place_of name (stream_names network.streams)
    ≡ Some place → place_of name (names_of (senders_of network)) ≡ Some place
found_first name network place found =
    ap (place_of name) (names_of-senders network)
    ∙ place_of-append name (stream_names network.streams) (flow_names network.flows)
    ∙ ap (λ (o : Option ℕ). option_or o
    (option_map (λ n. length (stream_names network.streams) + n) (place_of name (flow_names network.flows)))) found

pub found_second : (name : List ℕ) (network : DeclaredNetwork) (found : Option ℕ)
    → place_of name (stream_names network.streams) ≡ None → place_of name (flow_names network.flows) ≡ found
    → place_of name (names_of (senders_of network)) ≡ option_map (λ n. length network.streams + n) found
found_second name network found none second =
    ap (place_of name) (names_of-senders network)
    ∙ place_of-append name (stream_names network.streams) (flow_names network.flows)
    ∙ ap (λ (o : Option ℕ). option_or o
    (option_map (λ n. length (stream_names network.streams) + n) (place_of name (flow_names network.flows)))) none
    ∙ ap (λ (o : Option ℕ). option_map (λ n. length (stream_names network.streams) + n) o) second
    ∙ ap (λ (k : ℕ). option_map (λ n. k + n) found) (length-map network.streams (λ (s : DeclaredStream). s.name))

some_none : (n : ℕ) → Some n ≡ None → ⊥
some_none n h = cc

-- where no sender has a name, no stream and no flow has it
pub none_first : (name : List ℕ) (network : DeclaredNetwork) → place_of name (names_of (senders_of network)) ≡ None
    → place_of name (stream_names network.streams) ≡ None
none_first name network none = by (place_of name (stream_names network.streams)) refl
  where
    by : (o : Option ℕ) → place_of name (stream_names network.streams) ≡ o
        → place_of name (stream_names network.streams) ≡ None
    by None e = e
    by (Some n) e = absurd (some_none n (sym (found_first name network n e) ∙ none))

pub none_second : (name : List ℕ) (network : DeclaredNetwork) → place_of name (names_of (senders_of network)) ≡ None
    → place_of name (flow_names network.flows) ≡ None
none_second name network none = by (place_of name (flow_names network.flows)) refl
  where
    by : (o : Option ℕ) → place_of name (flow_names network.flows) ≡ o → place_of name (flow_names network.flows) ≡ None
    by None e = e
    by (Some n) e = absurd (some_none (length network.streams + n)
        (sym (found_second name network (Some n) (none_first name network none) e) ∙ none))
