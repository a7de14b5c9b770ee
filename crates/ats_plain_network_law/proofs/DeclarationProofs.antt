use Rattle.std.proofs.Common.{◌≡◌, ℕ, suc, ◌+◌, Bool, true, false, cond, List, [], ◌∷◌, find, get_or, Option, Some}
use Rattle.std.proofs.Common.{None, option_map, refl, ap, ◌∙◌, arith}
use Rattle.std.specs.List.{position_from}
use Rattle.std.specs.Str.{bytes_eq}
use Rattle.ats_streams.specs.Stream.{DeclaredStream}
use Rattle.ats_network.specs.Edits.{no_stream, stream_named}
use Rattle.ats_network.proofs.Appended.{position_from-later}
use Rattle.ats_network.proofs.SerialLemmas.{position_from-map}
use Rattle.ats_plain_network_law.specs.Declarations.{DeclaredIsKnown, LimitsAreKnown, NamedAreKnown, AbsentAreKnown}
use Rattle.ats_plain_network_law.specs.Declarations.{DeclarationsAreKnown}

-- What senders declare, when they are over the limits, and which stream a name is of.

declarations : DeclaredIsKnown
declarations = record {
  rate = λ s. refl;
  burst = λ s. refl;
  least = λ s. refl;
  greatest = λ s. refl;
  rate_there = λ c s. refl;
  burst_there = λ c s. refl;
  least_there = λ c s. refl;
  greatest_there = λ c s. refl;
}

limits : LimitsAreKnown
limits = record { over = λ topology s. refl }

no_ones : AbsentAreKnown
no_ones = record { sender = refl; stream = refl }

-- the element at a place behind the first is that of the rest
behind : {X : Type 0} (d x : X) (xs : List X) (o : Option ℕ)
    → option_map (λ n. get_or (x ∷ xs) n d) (option_map (λ n. 1 + n) o) ≡ option_map (λ n. get_or xs n d) o
behind d x xs None = refl
behind d x xs (Some n) =
    let next : 1 + n ≡ suc n = omega arith in
    ap (λ k. Some (get_or (x ∷ xs) k d)) next

-- the element at the first place that passes is the first that does
found_first : {X : Type 0} (t : X → Bool) (d : X) (xs : List X)
    → option_map (λ n. get_or xs n d) (position_from t 0 xs) ≡ find t xs
found_first t d [] = refl
found_first {X} t d (x ∷ xs) = by (t x) (
    ap (option_map (λ n. get_or (x ∷ xs) n d)) (position_from-later t 1 0 xs)
    ∙ behind d x xs (position_from t 0 xs) ∙ found_first t d xs)
  where
    by : (b : Bool) → option_map (λ n. get_or (x ∷ xs) n d) (position_from t 1 xs) ≡ find t xs
        → option_map (λ n. get_or (x ∷ xs) n d) (cond b (Some 0) (position_from t 1 xs)) ≡ cond b (Some x) (find t xs)
    by true more = refl
    by false more = more

by_name : (streams : List DeclaredStream) (name : List ℕ)
    → stream_named streams name ≡ find (λ (s : DeclaredStream). bytes_eq name s.name) streams
by_name streams name =
    ap (option_map (λ n. get_or streams n no_stream))
    (position_from-map (λ (s : DeclaredStream). s.name) (bytes_eq name) 0 streams)
    ∙ found_first (λ (s : DeclaredStream). bytes_eq name s.name) no_stream streams

streams : NamedAreKnown
streams = record {
  named = by_name;
  stay = λ streams. refl;
  less = λ n streams. refl;
  without = λ network name. refl;
}

pub declarations_are_known : DeclarationsAreKnown
declarations_are_known = record {
  declarations = declarations;
  limits = limits;
  no_ones = no_ones;
  streams = streams;
}
