-- What the answers to `witness` mean.
use Rattle.std.proofs.Common.{◌≡◌, ℕ, zero, suc, ◌+◌, ◌<◌, List, [], ◌∷◌, length, Option, Some, None, Result, Ok, Err}
use Rattle.std.proofs.Common.{refl, sym, ap, subst, inl, inr, ◌∙◌, arith}
use Rattle.std.specs.Prelude.{MatchResult, All, slice_index_or}
use Rattle.std.specs.List.{AllZip, range_with_len}
use Rattle.std.specs.Option.{option_map}
use Rattle.std.specs.Str.{bytes_eq}
use Rattle.std.proofs.lemmas.Option.{slice_get-get_or}
use Rattle.ats_facts.proofs.Lists.{position_from-lt}
use Rattle.ats_streams.specs.Stream.{DeclaredStream}
use Rattle.ats_network.specs.Class.{class_at}
use Rattle.ats_network.specs.Edits.{no_stream}
use Rattle.ats_network.specs.Network.{DeclaredNetwork, IsNetwork}
use Rattle.ats_network.specs.Senders.{sender_at}
use Rattle.ats_certificate.specs.Certificate.{Holds}
use Rattle.ats_bound.specs.Least.{least_certificate}
use Rattle.ats_bound.specs.Reason.{reason_of}
use Rattle.ats_bound.proofs.FirstReason.{each_reason_is_the_first}
use Rattle.ats_bound.proofs.LeastHolds.{least_certificate_holds}
use Rattle.ats_bound.proofs.NoneHolds.{reason_leaves_none}
use Rattle.ats_tally.specs.declared.reason.Reason.{Reason}
use Rattle.ats_verdict_text.specs.Text.{reason_text}
use Rattle.ats_trace.specs.Ways.{listener_count, route_to}
use Rattle.ats_witness.specs.Burst.{port_on_route}
use Rattle.ats_witness.specs.Found.{AreFound, FoundDelays, IsFoundAt, IsWithinBound}
use Rattle.ats_witness_law.specs.Laws.{CanHappen}
use Rattle.ats_witness_law.proofs.FoundLaws.{burst_keeps_buckets, found_delays_happen, found_is_within}
use Rattle.ats_num.specs.Failure.{◌>>=◌, or_fault}
use Rattle.ats_command_input.specs.Answer.{Answer}
use Rattle.ats_command_input.specs.Input.{network_in}
use Rattle.ats_command_input.specs.Stream.{stream_answer, stream_in, stream_named}
use Rattle.ats_command_due.specs.Judged.{judged}
use Rattle.ats_command_due.specs.Replayed.{IsOneOf}
use Rattle.ats_command_due.specs.Witnessed.{IsWitnessOf, IsWitnessed, witness_judged, witnessed, witnessed_in}
use Rattle.ats_command_law.proofs.Meanings.{IsInput, network_gives, none_declared}
use Rattle.ats_command_law.specs.WitnessMeaning.{IsShownFor, WitnessMeans, WitnessSays}

-- what each element of a list has with its fellow in another, the fellows have
fellows : {A B : Type 0} (R : A → B → Type 0) (P : B → Type 0) (xs : List A) (ys : List B)
    → ((x : A) (y : B) → R x y → P y) → AllZip R xs ys → All P ys
fellows R P [] [] each zipped k d within = let no : ⊥ = omega (arith, within) in absurd no
fellows R P [] (y ∷ ys) each zipped k d within = absurd zipped
fellows R P (x ∷ xs) [] each zipped k d within = absurd zipped
fellows R P (x ∷ xs) (y ∷ ys) each zipped zero d within = each x y zipped.0
fellows R P (x ∷ xs) (y ∷ ys) each zipped (suc k) d within =
    fellows R P xs ys each zipped.1 k d (omega (arith, within))

-- what holds of two elements in place of another relation of them
each_pair : {A B : Type 0} (R S : A → B → Type 0) (xs : List A) (ys : List B) → ((x : A) (y : B) → R x y → S x y)
    → AllZip R xs ys → AllZip S xs ys
each_pair R S [] [] each zipped = tt
each_pair R S [] (y ∷ ys) each zipped = absurd zipped
each_pair R S (x ∷ xs) [] each zipped = absurd zipped
each_pair R S (x ∷ xs) (y ∷ ys) each zipped = (each x y zipped.0, each_pair R S xs ys each zipped.1)

-- what is found of a stream for a listener, by the laws of found delays
shown_for : (network : DeclaredNetwork) (stream listener : ℕ) (found : FoundDelays) → IsNetwork network
    → Holds network (least_certificate network) → stream < length network.streams
    → AreFound network stream listener found → IsShownFor network stream listener found
shown_for network stream listener found rules holds there are =
    let own : DeclaredStream = slice_index_or network.streams stream no_stream in
    let route : List ℕ = route_to (sender_at network stream) listener in
    let port : ℕ = port_on_route network stream listener found.hop in
    record {
      happen = fellows (IsFoundAt network stream listener) (CanHappen network stream listener) route found.delays
          (λ at delay is. found_delays_happen network stream listener at delay rules is) are.each;
      within = fellows (IsFoundAt network stream listener) (IsWithinBound network stream listener) route found.delays
          (λ at delay is. found_is_within network (least_certificate network) stream listener at delay own rules holds
          (slice_get-get_or network.streams stream no_stream there) is) are.each;
      keeps = λ station. burst_keeps_buckets network port (class_at (sender_at network stream) port) found.releases
          station rules are.burst;
    }

-- a word that is the name of no stream is answered so; another one names one that is there
abbrev IsNoStream : List ℕ → Answer → Type 0
IsNoStream name answer = answer ≡ stream_answer name

stream_gives : (streams : List DeclaredStream) (name : List ℕ)
    → MatchResult (stream_in streams name) (λ (place : ℕ). place < length streams) (IsNoStream name)
unfolding stream_in
stream_gives streams name = by (stream_named streams name) refl
  where
    by : (found : Option ℕ) → stream_named streams name ≡ found
        → MatchResult (or_fault (stream_answer name) found) (λ (place : ℕ). place < length streams) (IsNoStream name)
    by (Some place) is =
        let below : place < 0 + length streams =
        position_from-lt (λ (stream : DeclaredStream). bytes_eq stream.name name) 0 streams place is in
        omega (arith, below)
    by None is = refl

-- where the file declares a network in which the stream has the name
reason_says : (net name bytes : List ℕ) (network : DeclaredNetwork) (stream : ℕ) (reason : Option Reason)
    (answer : Answer) → network_in net bytes ≡ Ok network → IsNetwork network
    → stream_in network.streams name ≡ Ok stream → stream < length network.streams → reason_of network ≡ reason
    → IsOneOf IsWitnessed
    (judged (witnessed network stream) (option_map (reason_text network.topology) reason)) answer
    → WitnessSays net name bytes answer.text answer.status
reason_says net name bytes network stream None answer declared rules named there is one =
    let holds = (least_certificate_holds network rules is).holds in
    let founds : List FoundDelays = one.1.0 in
    let of_stream : IsWitnessOf network stream answer.text founds = one.1.1 in
    subst (WitnessSays net name bytes answer.text) (sym one.0) (
      network,
      stream,
      founds,
      record {
        declared = declared;
        named = named;
        rules = rules;
        holds = holds;
        of_stream = of_stream;
        for_each = each_pair (AreFound network stream) (IsShownFor network stream)
            (range_with_len 0 (listener_count (sender_at network stream))) founds
            (λ listener found are. shown_for network stream listener found rules holds there are)
            of_stream.are_found;
      },
    )
reason_says net name bytes network stream (Some reason) answer declared rules named there is one =
    subst (λ (a : Answer). WitnessSays net name bytes a.text a.status) (sym one)
    (inr (
      network,
      stream,
      reason,
      record {
        named = named;
        none = record {
          declared = declared;
          rules = rules;
          first = (each_reason_is_the_first network reason rules).0 is;
          none_holds = λ rows. reason_leaves_none network reason rows rules is;
          written = refl;
        };
      },
    ))

-- where the file declares a network
stream_says : (net name bytes : List ℕ) (network : DeclaredNetwork) (found : Result ℕ Answer) (answer : Answer)
    → network_in net bytes ≡ Ok network → IsNetwork network → stream_in network.streams name ≡ found
    → MatchResult found (λ (place : ℕ). place < length network.streams) (IsNoStream name)
    → IsOneOf IsWitnessed (found >>= λ stream. witness_judged network stream) answer
    → WitnessSays net name bytes answer.text answer.status
unfolding witness_judged
stream_says net name bytes network (Ok stream) answer declared rules is there one =
    reason_says net name bytes network stream (reason_of network) answer declared rules is there refl one
stream_says net name bytes network (Err due) answer declared rules is none one =
    subst (λ (a : Answer). WitnessSays net name bytes a.text a.status) (sym (one ∙ none))
    (inl (
      network,
      record {
        declared = declared;
        no_stream = none_declared (stream_in network.streams name) due is;
        written = refl;
      },
    ))

witness_says : (net name bytes : List ℕ) (declared : Result DeclaredNetwork Answer) (answer : Answer)
    → network_in net bytes ≡ declared → MatchResult declared IsNetwork IsInput
    → IsOneOf IsWitnessed (declared >>= λ network. stream_in network.streams name
    >>= λ stream. witness_judged network stream) answer
    → WitnessSays net name bytes answer.text answer.status
witness_says net name bytes (Ok network) answer is rules one =
    stream_says net name bytes network (stream_in network.streams name) answer is rules refl
    (stream_gives network.streams name) one
witness_says net name bytes (Err due) answer is input one =
    subst (WitnessSays net name bytes answer.text) (sym (ap (λ (a : Answer). a.status) one ∙ input))
    (none_declared (network_in net bytes) due is)

pub witness_means : WitnessMeans
unfolding witnessed_in
witness_means net name bytes answer one =
    witness_says net name bytes (network_in net bytes) answer refl (network_gives net bytes) one
