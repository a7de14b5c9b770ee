-- The number of the stream that has a name, from that of the sender that has it.
use Rattle.std.proofs.Common.{◌≡◌, ℕ, ◌+◌, ◌<◌, ◌≤◌, List, length, Option, Some, None, refl, sym, ◌∙◌, arith}
use Rattle.std.proofs.lemmas.List.{length-map}
use Rattle.std.proofs.lemmas.Option.{none-some, same_Some}
use Rattle.ats_num.specs.Places.{place_of}
use Rattle.ats_num.proofs.Numbered.{place_of-lt}
use Rattle.ats_streams.specs.Stream.{DeclaredStream}
use Rattle.ats_network.specs.Network.{DeclaredNetwork, names_of, senders_of}
use Rattle.ats_network.specs.Tables.{flow_names, stream_names}
use Rattle.ats_network.proofs.NameLemmas.{found_first, found_second}

-- where the number is that of a stream, the stream has it
pub is_stream : (name : List ℕ) (network : DeclaredNetwork) (n : ℕ)
    → place_of name (names_of (senders_of network)) ≡ Some n → n < length network.streams
    → place_of name (stream_names network.streams) ≡ Some n
is_stream name network n found within = by (place_of name (stream_names network.streams)) refl
  where
    later : (o : Option ℕ) → place_of name (flow_names network.flows) ≡ o
        → place_of name (stream_names network.streams) ≡ None → ⊥
    later None flow none = none-some n (sym (found_second name network None none flow) ∙ found)
    later (Some k) flow none =
        let at : length network.streams + k ≡ n =
        same_Some (length network.streams + k) n (sym (found_second name network (Some k) none flow) ∙ found) in
        omega (arith, at, within)

    by : (o : Option ℕ) → place_of name (stream_names network.streams) ≡ o → o ≡ Some n
    by (Some m) e = sym (found_first name network m e) ∙ found
    by None e = absurd (later (place_of name (flow_names network.flows)) refl e)

-- where it is past them, no stream has the name
pub is_flow : (name : List ℕ) (network : DeclaredNetwork) (n : ℕ)
    → place_of name (names_of (senders_of network)) ≡ Some n → length network.streams ≤ n
    → place_of name (stream_names network.streams) ≡ None
is_flow name network n found past = by (place_of name (stream_names network.streams)) refl
  where
    by : (o : Option ℕ) → place_of name (stream_names network.streams) ≡ o → o ≡ None
    by None e = refl
    by (Some m) e =
        let same : m ≡ n = same_Some m n (sym (found_first name network m e) ∙ found) in
        let long = length-map network.streams (λ (s : DeclaredStream). s.name) in
        let inside = place_of-lt name (stream_names network.streams) m e in
        absurd (omega (arith, same, long, inside, past))
