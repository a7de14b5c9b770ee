use Rattle.std.proofs.Common.{◌≡◌, ℕ, ◌+◌, Bool, true, false, cond, ◌&&◌, ◌||◌, List, [], ◌∷◌, Option, Some, None}
use Rattle.std.proofs.Common.{refl, ap, ap₂, ◌∙◌, eqb}
use Rattle.std.specs.Prelude.{IsTrue, is_some}
use Rattle.std.specs.List.{list_any, position_from}
use Rattle.std.specs.Str.{bytes_eq}
use Rattle.std.proofs.lemmas.Bool.{and_parts, eq-eqb, eqb-true, false≢true}
use Rattle.ats_network.specs.Network.{DeclaredNetwork, senders_of}
use Rattle.ats_network.specs.Pushes.{has_identity, is_identity, is_name_taken}
use Rattle.ats_network.specs.Sender.{Sender}
use Rattle.ats_network.proofs.SerialLemmas.{position_from-map}
use Rattle.ats_plain_network_law.specs.Entries.{EntriesAreKnown, FaultsAreKnown, NetworksAreKnown, TakenAreKnown}

-- What a network is made of, which names and identities are taken, and what is not added.

networks : NetworksAreKnown
networks = record {
  made = λ topology most streams flows. refl;
  stream = λ network s. refl;
  flow = λ network f. refl;
}

-- a place is found where an element passes
found_any : {X : Type 0} (t : X → Bool) (i : ℕ) (xs : List X) → is_some (position_from t i xs) ≡ list_any t xs
found_any t i [] = refl
found_any t i (x ∷ xs) = by (t x) (found_any t (i + 1) xs)
  where
    by : (b : Bool) → is_some (position_from t (i + 1) xs) ≡ list_any t xs
        → is_some (cond b (Some i) (position_from t (i + 1) xs)) ≡ (b || list_any t xs)
    by true more = refl
    by false more = more

by_name : (network : DeclaredNetwork) (name : List ℕ)
    → is_name_taken network name ≡ list_any (λ (s : Sender). bytes_eq name s.name) (senders_of network)
by_name network name =
    ap (λ (o : Option ℕ). is_some o)
    (position_from-map (λ (s : Sender). s.name) (bytes_eq name) 0 (senders_of network))
    ∙ found_any (λ (s : Sender). bytes_eq name s.name) 0 (senders_of network)

declares : (identity : ℕ × ℕ) (o : Option (ℕ × ℕ)) → IsTrue (is_identity identity o) → o ≡ Some identity
declares identity None h = absurd (false≢true h)
declares identity (Some declared) h =
    let parts = and_parts (eqb declared.0 identity.0) (eqb declared.1 identity.1) h in
    ap₂ (λ (a b : ℕ). Some (a, b)) (eqb-true declared.0 identity.0 parts.0) (eqb-true declared.1 identity.1 parts.1)

declared_is : (identity : ℕ × ℕ) (o : Option (ℕ × ℕ)) → o ≡ Some identity → IsTrue (is_identity identity o)
declared_is identity o h =
    ap (is_identity identity) h
    ∙ ap₂ (λ (a b : Bool). a && b) (eq-eqb identity.0 identity.0 refl) (eq-eqb identity.1 identity.1 refl)

taken : TakenAreKnown
taken = record {
  name = by_name;
  has = λ identity s. (declares identity s.identity, declared_is identity s.identity);
  none = λ streams. refl;
  identity = λ streams identity. found_any (has_identity identity) 0 streams;
}

faults : FaultsAreKnown
faults = record {
  together = λ streams. refl;
  beyond = λ network s. refl;
  stream = λ network s. refl;
  flow = λ network f. refl;
}

pub entries_are_known : EntriesAreKnown
entries_are_known = record {
  networks = networks;
  taken = taken;
  faults = faults;
}
