-- What a search finds at a port, class by class, and along a path, port by port.
use Rattle.std.proofs.Common.{◌≡◌, ℕ, zero, suc, ◌+◌, ◌<◌, ◌≤◌, Bool, true, false, cond, List, [], ◌∷◌, length}
use Rattle.std.proofs.Common.{get_or, map, filter, drop, Option, Some, None, refl, sym, ap, ◌∙◌, inl, inr, arith}
use Rattle.std.specs.Prelude.{fold, nat_lt}
use Rattle.std.specs.Option.{option_or}
use Rattle.std.proofs.lemmas.Bool.{cases_eq}
use Rattle.std.proofs.lemmas.List.{drop_more, drop_all}
use Rattle.std.proofs.lemmas.Option.{none-some}
use Rattle.ats_facts.proofs.Options.{option_or-none}
use Rattle.ats_topology.specs.declared.port.Port.{Port}
use Rattle.ats_network.specs.Network.{DeclaredNetwork}
use Rattle.ats_certificate.specs.PortSums.{is_used}
use Rattle.ats_certificate.specs.Used.{place, places_at, places_from, places_of, stream_classes}
use Rattle.ats_tally.specs.Reason.{first_some}
use Rattle.ats_tally.specs.declared.reason.Reason.{Reason}
use Rattle.ats_tally.proofs.Firsts.{first_append}
use Rattle.ats_bound.specs.Reason.{overload, reason_of}
use Rattle.ats_admission_law.specs.Lowest.{found_at, lower_of}
use Rattle.ats_admission_state.specs.Judging.{found_among, given_at}

-- the classes from this one on
abbrev pub classes_from : ℕ → List ℕ
classes_from class = drop class (0 ∷ stream_classes)

classes_more : (class : ℕ) → 1 ≤ class → class ≤ 7 → classes_from class ≡ class ∷ classes_from (class + 1)
classes_more zero some most = absurd (omega arith)
classes_more (suc zero) some most = refl
classes_more (suc (suc zero)) some most = refl
classes_more (suc (suc (suc zero))) some most = refl
classes_more (suc (suc (suc (suc zero)))) some most = refl
classes_more (suc (suc (suc (suc (suc zero))))) some most = refl
classes_more (suc (suc (suc (suc (suc (suc zero)))))) some most = refl
classes_more (suc (suc (suc (suc (suc (suc (suc zero))))))) some most = refl
classes_more (suc (suc (suc (suc (suc (suc (suc (suc n)))))))) some most = absurd (omega arith)

pub or_none : {X : Type 0} (o : Option X) → option_or o None ≡ o
or_none None = refl
or_none (Some x) = refl

pub or_assoc : {X : Type 0} (a b c : Option X) → option_or (option_or a b) c ≡ option_or a (option_or b c)
or_assoc None b c = refl
or_assoc (Some x) b c = refl

module _ (given : ℕ × ℕ → Option Reason) (network : DeclaredNetwork) (port : ℕ) where
  -- one class, and those behind it
  among_more : (class : ℕ) → 1 ≤ class → class ≤ 7
      → found_among given network port (classes_from class)
      ≡ option_or (given_at given network port class) (found_among given network port (classes_from (class + 1)))
  among_more class some most =
      ap (found_among given network port) (classes_more class some most) ∙ by (is_used network port class)
    where
      rest : List ℕ
      rest = filter (λ c. is_used network port c) (classes_from (class + 1))

      by : (b : Bool) → first_some given (map (place port) (cond b (class ∷ rest) rest))
          ≡ option_or (cond b (given (port, class)) None) (first_some given (map (place port) rest))
      by true = refl
      by false = refl

  -- where nothing is found at a class, the search goes on behind it
  pub pass_class : (class : ℕ) → 1 ≤ class → class ≤ 7
      → found_among given network port (classes_from class) ≡ found_at given network port
      → given_at given network port class ≡ None
      → found_among given network port (classes_from (class + 1)) ≡ found_at given network port
  pass_class class some most before none =
      sym (ap (λ (o : Option Reason). option_or o (found_among given network port (classes_from (class + 1)))) none)
      ∙ sym (among_more class some most) ∙ before

  -- where something is, it is what is found at the port
  pub find_class : (class : ℕ) (reason : Reason) → 1 ≤ class → class ≤ 7
      → found_among given network port (classes_from class) ≡ found_at given network port
      → given_at given network port class ≡ Some reason → found_at given network port ≡ Some reason
  find_class class reason some most before found =
      sym before ∙ among_more class some most
      ∙ ap (λ (o : Option Reason). option_or o (found_among given network port (classes_from (class + 1)))) found

  -- what was found so far, or else what is found at a class
  pub keep_class : (class : ℕ) (so_far here new : Option Reason) → 1 ≤ class → class ≤ 7
      → option_or so_far (found_among given network port (classes_from class)) ≡ found_at given network port
      → here ≡ given_at given network port class → new ≡ option_or so_far here
      → option_or new (found_among given network port (classes_from (class + 1))) ≡ found_at given network port
  keep_class class so_far here new some most before is more =
      let rest : Option Reason = found_among given network port (classes_from (class + 1)) in
      ap (λ (o : Option Reason). option_or o rest) more
      ∙ or_assoc so_far here rest
      ∙ ap (λ (o : Option Reason). option_or so_far (option_or o rest)) is
      ∙ sym (ap (option_or so_far) (among_more class some most)) ∙ before

  -- behind the last class nothing is left
  pub none_left : (class : ℕ) → 8 ≤ class → found_among given network port (classes_from class) ≡ None
  none_left class past = ap (found_among given network port) (drop_all class (0 ∷ stream_classes) (omega arith))

  pub whole_port : (class : ℕ) (so_far : Option Reason) → 8 ≤ class
      → option_or so_far (found_among given network port (classes_from class)) ≡ found_at given network port
      → so_far ≡ found_at given network port
  whole_port class so_far past before =
      sym (or_none so_far) ∙ sym (ap (option_or so_far) (none_left class past)) ∙ before

  -- where nothing is found at any place of the ports from k on, nothing is at one of these ports
  none_inside : (k : ℕ) (ports : List Port) → first_some given (places_from network k ports) ≡ None → k ≤ port
      → port < k + length ports → found_at given network port ≡ None
  none_inside k [] none from below = absurd (omega arith)
  none_inside k (one ∷ ports) none from below =
      let both = option_or-none (first_some given (places_at network k))
      (first_some given (places_from network (k + 1) ports))
      (sym (first_append given (places_at network k) (places_from network (k + 1) ports)) ∙ none) in
      elim (cases_eq k port) as (λ _. found_at given network port ≡ None) [
        | inl same ↦ sym (ap (found_at given network) same) ∙ both.0
        | inr other ↦ none_inside (k + 1) ports both.1 (omega (arith, from, other)) (omega (arith, below))
      ]

-- no port is overloaded where there is no reason against the network
pub no_overload : (network : DeclaredNetwork) (port : ℕ) → port < length network.topology.ports
    → reason_of network ≡ None → found_at (overload network) network port ≡ None
no_overload network port within none =
    none_inside (overload network) network port 0 network.topology.ports
    (option_or-none (first_some (overload network) (places_of network)) _ none).0 (omega arith) (omega (arith, within))

-- what is lower of something and of what was found before is something
pub lower_some : (best : Option (ℕ × Reason)) (port : ℕ) (reason : Reason) → lower_of best port (Some reason) ≡ None → ⊥
lower_some None port reason h = none-some (port, reason) (sym h)
lower_some (Some best) port reason h = by (nat_lt port best.0) h
  where
    by : (b : Bool) → cond b (Some (port, reason)) (Some best) ≡ None → ⊥
    by true h = none-some (port, reason) (sym h)
    by false h = none-some best (sym h)

-- so where nothing is lower, nothing was found before
pub lower_none : (best : Option (ℕ × Reason)) (port : ℕ) (found : Option Reason) → lower_of best port found ≡ None
    → best ≡ None
lower_none None port found h = refl
lower_none (Some best) port None h = h
lower_none (Some best) port (Some reason) h = absurd (lower_some (Some best) port reason h)

-- a fold over what is left of a list, one step on
pub fold_more : {A B : Type 0} (f : B → A → B) (b : B) (xs : List A) (i : ℕ) (d : A)
    → i < length xs → fold f (f b (get_or xs i d)) (drop (i + 1) xs) ≡ fold f b (drop i xs)
fold_more f b xs i d within = sym (ap (fold f b) (drop_more xs i d within))
