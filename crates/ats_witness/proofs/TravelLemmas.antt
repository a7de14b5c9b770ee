-- Travels to a port, and the greatest of them.
use Rattle.std.proofs.Common.{◌≡◌, ℕ, zero, suc, ◌+◌, ◌<◌, ◌≤◌, Bool, true, false, cond, List, [], ◌∷◌, ◌++◌, get_or}
use Rattle.std.proofs.Common.{map, fold, filter, length, take, Some, None, refl, sym, ap, ◌∙◌, arith, eqb}
use Rattle.std.specs.Prelude.{max, nat_lt, position}
use Rattle.std.specs.List.{before_first, list_any, position_or_len}
use Rattle.std.proofs.lemmas.Bool.{eqb-true, ltb-true, ltb-false}
use Rattle.std.proofs.lemmas.List.{map-append, take_more}
use Rattle.std.proofs.lemmas.List.Elements.{filter-append}
use Rattle.std.proofs.lemmas.List.Folds.{list_any_at, list_any_none}
use Rattle.std.proofs.lemmas.List.Sums.{fails_before_first, fold-append, passes_at_first}
use Rattle.std.proofs.lemmas.Option.{cond_some}
use Rattle.ats_facts.proofs.Options.{cond-none}
use Rattle.ats_network.specs.Sender.{Sender}
use Rattle.ats_network.specs.Network.{DeclaredNetwork}
use Rattle.ats_certificate.specs.PortSums.{uses}
use Rattle.ats_witness.specs.Burst.{travel_to}
use Rattle.ats_witness.specs.Made.{greatest_among, with_travel}

-- the number is this one
abbrev pub is_port : ℕ → ℕ → Bool
is_port port p = eqb p port

-- a port that a path does not have
pub not_on : (port : ℕ) (path : List ℕ) → position (is_port port) path ≡ None → list_any (is_port port) path ≡ false
not_on port path h =
    let place : ℕ = position_or_len (is_port port) path in
    let past : length path ≤ place = ltb-false place (length path) (cond-none (nat_lt place (length path)) place h) in
    list_any_none (is_port port) path (λ k d within. fails_before_first (is_port port) path k d (omega (arith, past)))

-- the place of a port on a path
pub record IsOn (port : ℕ) (path : List ℕ) (hop : ℕ) : Type 0 where
  pub within : hop < length path
  pub has : list_any (is_port port) path ≡ true
  pub there : get_or path hop 0 ≡ port
  pub before : take hop path ≡ before_first (is_port port) path

pub on_path : (port : ℕ) (path : List ℕ) (hop : ℕ) → position (is_port port) path ≡ Some hop → IsOn port path hop
on_path port path hop h =
    let place : ℕ = position_or_len (is_port port) path in
    let parts = cond_some (nat_lt place (length path)) place hop h in
    let inside : place < length path = ltb-true place (length path) parts.0 in
    let at : is_port port (get_or path place 0) ≡ true = passes_at_first (is_port port) path 0 inside in
    record {
      within = omega (arith, parts.1, inside);
      has = list_any_at (is_port port) path place 0 inside at;
      there = ap (λ (n : ℕ). get_or path n 0) (sym parts.1) ∙ eqb-true (get_or path place 0) port at;
      before = ap (λ (n : ℕ). take n path) (sym parts.1);
    }

-- the greatest travel with one sender more
greatest_push : (network : DeclaredNetwork) (port : ℕ) (senders : List Sender) (s : Sender)
    → greatest_among network port (senders ++ s ∷ [])
    ≡ with_travel network port (greatest_among network port senders) s
greatest_push network port senders s =
    ap (λ (l : List Sender). fold max 0 (map (travel_to network port) l)) (filter-append (uses port) senders (s ∷ []))
    ∙ ap (fold max 0) (map-append (travel_to network port) (filter (uses port) senders)
    (filter (uses port) (s ∷ [])))
    ∙ fold-append max 0 (map (travel_to network port) (filter (uses port) senders))
    (map (travel_to network port) (filter (uses port) (s ∷ [])))
    ∙ last (greatest_among network port senders) (uses port s)
  where
    last : (greatest : ℕ) (b : Bool)
        → fold max greatest (map (travel_to network port) (cond b (s ∷ []) []))
        ≡ cond b (max greatest (travel_to network port s)) greatest
    last greatest true = refl
    last greatest false = refl

pub greatest_more : (network : DeclaredNetwork) (port : ℕ) (senders : List Sender) (k : ℕ) (d : Sender)
    → k < length senders → greatest_among network port (take (k + 1) senders)
    ≡ with_travel network port (greatest_among network port (take k senders)) (get_or senders k d)
greatest_more network port senders k d h =
    ap (greatest_among network port) (take_more senders k d h)
    ∙ greatest_push network port (take k senders) (get_or senders k d)

-- the greatest travel is at least where it begins, and at least each travel
start_most : (network : DeclaredNetwork) (port a : ℕ) (senders : List Sender)
    → a ≤ fold max a (map (travel_to network port) (filter (uses port) senders))
start_most network port a [] = omega arith
start_most network port a (s ∷ senders) =
    by (uses port s) (start_most network port (max a (travel_to network port s)) senders)
    (start_most network port a senders)
  where
    by : (b : Bool)
        → max a (travel_to network port s)
        ≤ fold max (max a (travel_to network port s)) (map (travel_to network port) (filter (uses port) senders))
        → a ≤ fold max a (map (travel_to network port) (filter (uses port) senders))
        → a ≤ fold max a
        (map (travel_to network port) (cond b (s ∷ filter (uses port) senders) (filter (uses port) senders)))
    by true with_it without = omega (arith, with_it)
    by false with_it without = without

pub travel-le : (network : DeclaredNetwork) (port a : ℕ) (senders : List Sender) (k : ℕ) (d : Sender)
    → k < length senders → uses port (get_or senders k d) ≡ true
    → travel_to network port (get_or senders k d)
    ≤ fold max a (map (travel_to network port) (filter (uses port) senders))
travel-le network port a [] k d h used = absurd (omega (arith, h))
travel-le network port a (s ∷ senders) zero d h used =
    let most = start_most network port (max a (travel_to network port s)) senders in
    by (uses port s) used (omega (arith, most))
  where
    by : (b : Bool) → b ≡ true
        → travel_to network port s
        ≤ fold max (max a (travel_to network port s)) (map (travel_to network port) (filter (uses port) senders))
        → travel_to network port s ≤ fold max a
        (map (travel_to network port) (cond b (s ∷ filter (uses port) senders) (filter (uses port) senders)))
    by true is most = most
    by false is most = cc
travel-le network port a (s ∷ senders) (suc k) d h used =
    by (uses port s)
    (travel-le network port (max a (travel_to network port s)) senders k d (omega arith) used)
    (travel-le network port a senders k d (omega arith) used)
  where
    by : (b : Bool)
        → travel_to network port (get_or senders k d)
        ≤ fold max (max a (travel_to network port s)) (map (travel_to network port) (filter (uses port) senders))
        → travel_to network port (get_or senders k d)
        ≤ fold max a (map (travel_to network port) (filter (uses port) senders))
        → travel_to network port (get_or senders k d) ≤ fold max a
        (map (travel_to network port) (cond b (s ∷ filter (uses port) senders) (filter (uses port) senders)))
    by true with_it without = with_it
    by false with_it without = without
