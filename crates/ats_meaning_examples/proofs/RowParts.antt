use Rattle.std.proofs.Common.{◌≡◌, ℕ, zero, suc, Bool, true, false, cond, List, [], ◌∷◌}
use Rattle.std.proofs.Common.{map, filter, Option, Some, refl, sym, ap, subst, ◌∙◌, inl, inr, arith}
use Rattle.std.specs.Prelude.{◌&&◌, ◌==◌, Contains, is_some, unwrap_or}
use Rattle.std.specs.List.{AllPairs, find, list_any}
use Rattle.std.specs.Option.{option_map}
use Rattle.std.proofs.lemmas.Bool.{and_parts, cases_Bool, eq-eqb, eqb-true}
use Rattle.std.proofs.lemmas.List.Elements.{All-contains}
use Rattle.std.proofs.lemmas.List.Folds.{list_any_at}
use Rattle.ats_facts.proofs.Lists.{pairs_head, pairs_tail}
use Rattle.ats_topology.specs.Topology.{DeclaredTopology}
use Rattle.ats_streams.specs.Stream.{DeclaredStream}
use Rattle.ats_network.specs.Class.{class_at, seen_at}
use Rattle.ats_network.specs.Network.{DeclaredNetwork}
use Rattle.ats_network.specs.Sender.{Sender, stream_sender}
use Rattle.ats_certificate.specs.Certificate.{IsBefore, is_row_of, row_of}
use Rattle.ats_certificate.specs.PortSums.{is_of, is_used, uses}
use Rattle.ats_certificate.specs.declared.row.Row.{Row}
use Rattle.ats_tally.proofs.Lists.{Contains-found, found_is, is_some-find, list_any-filter, list_any-map}
use Rattle.ats_tally.proofs.Lists.{option_cases}
use Rattle.ats_listener_law.proofs.Once.{uses_its_ports}
use Rattle.ats_meaning_examples.specs.Rows.{FindingIsMeant, HoldingIsMeant, RowsAreMeant, UsingIsMeant, WaitsAreMeant}
use Rattle.ats_meaning_examples.proofs.RowSums.{and_both, sums_are_meant}

-- What rows say, which are found, and what is asked of their waits.

-- a place is used where some stream passes both tests
used_as : (network : DeclaredNetwork) (port class : ℕ) → is_used network port class
    ≡ list_any (λ (s : DeclaredStream). uses port (stream_sender s)
    && is_of class (seen_at network.topology port (stream_sender s))) network.streams
used_as network port class =
    let t : DeclaredTopology = network.topology in
    list_any-map (is_of class) (seen_at t port) (filter (uses port) (map stream_sender network.streams))
    ∙ list_any-filter (λ (s : Sender). is_of class (seen_at t port s)) (uses port) (map stream_sender network.streams)
    ∙ list_any-map (λ (s : Sender). uses port s && is_of class (seen_at t port s)) stream_sender network.streams

-- something that passes a test is found
pub some_passes : {X : Type 0} (test : X → Bool) (xs : List X) → list_any test xs ≡ true
    → (x : X) × Contains xs x × (test x ≡ true)
some_passes {X} test xs any = elim (option_cases (find test xs))
    as (λ _. (x : X) × Contains xs x × (test x ≡ true)) [
      | inl none ↦ absurd (let no : false ≡ true =
          sym (ap (λ (o : Option X). is_some o) none) ∙ is_some-find test xs ∙ any in cc)
      | inr some ↦ (some.0, Contains-found test xs some.0 some.1, (found_is test xs some.0 some.1).passes)
    ]

used : UsingIsMeant
used network port class = (gives, takes)
  where
    t : DeclaredTopology
    t = network.topology

    both : DeclaredStream → Bool
    both s = uses port (stream_sender s) && is_of class (seen_at t port (stream_sender s))

    gives : is_used network port class ≡ true
        → (s : DeclaredStream) × Contains network.streams s × Contains s.ports port
        × (class_at (stream_sender s) port ≡ class)
    gives is =
        let some = some_passes both network.streams (sym (used_as network port class) ∙ is) in
        let s : DeclaredStream = some.0 in
        let parts = and_parts (uses port (stream_sender s)) (is_of class (seen_at t port (stream_sender s))) some.2 in (
          s,
          some.1,
          (uses_its_ports port (stream_sender s)).0 parts.0,
          eqb-true (class_at (stream_sender s) port) class parts.1,
        )

    takes : (s : DeclaredStream) × Contains network.streams s × Contains s.ports port
        × (class_at (stream_sender s) port ≡ class) → is_used network port class ≡ true
    takes one =
        let s : DeclaredStream = one.0 in
        used_as network port class
        ∙ list_any_at both network.streams one.1.0 s one.1.1
        (ap both one.1.2
        ∙ and_both (uses port (stream_sender s)) (is_of class (seen_at t port (stream_sender s)))
        ((uses_its_ports port (stream_sender s)).1 one.2) (eq-eqb (class_at (stream_sender s) port) class one.3))

waits : WaitsAreMeant
waits = record {
  enough = λ port row. (λ is. is, λ is. is);
  stay = λ network port wait. (λ may ns is. may ns is, λ may ns is. may ns is);
  residence = λ t port. refl;
  of_bridge = λ processing_min_ns processing_max_ns residence_ns clock_ppm clock_step_ps. refl;
  of_station = refl;
  narrowed = λ s. refl;
}

-- the test of a place passes at a row of it, and at none before it in order
own_place : (row : Row) → is_row_of row.port row.class row ≡ true
own_place row = and_both (row.port == row.port) (row.class == row.class) (eq-eqb row.port row.port refl)
    (eq-eqb row.class row.class refl)

place_of : (port class : ℕ) (row : Row) → is_row_of port class row ≡ true
    → (row.port ≡ port) × (row.class ≡ class)
place_of port class row passes =
    let parts = and_parts (row.port == port) (row.class == class) passes in
    (eqb-true row.port port parts.0, eqb-true row.class class parts.1)

other_place : (row later : Row) → IsBefore row later → is_row_of later.port later.class row ≡ true → ⊥
other_place row later (inl lower) passes =
    let same = place_of later.port later.class row passes in
    omega (arith, lower, same.0)
other_place row later (inr there) passes =
    let same = place_of later.port later.class row passes in
    omega (arith, there.1, same.1)

found : (rows : List Row) (row : Row) → AllPairs IsBefore rows → Contains rows row
    → row_of rows row.port row.class ≡ Some row
found [] row ordered (k, within, is) = absurd (omega arith)
found (first ∷ rows) row ordered (zero, within, is) =
    ap (λ (b : Bool). cond b (Some first) (row_of rows row.port row.class))
    (subst (λ (r : Row). is_row_of r.port r.class first ≡ true) is (own_place first))
    ∙ ap (λ (r : Row). Some r) is
found (first ∷ rows) row ordered (suc k, within, is) =
    let at : Contains rows row = (k, omega arith, is) in
    let before : IsBefore first row =
    All-contains (IsBefore first) rows row (pairs_head IsBefore first rows ordered) at in
    elim (cases_Bool (is_row_of row.port row.class first))
    as (λ _. row_of (first ∷ rows) row.port row.class ≡ Some row) [
      | inl own ↦ absurd (other_place first row before own)
      | inr other ↦ ap (λ (b : Bool). cond b (Some first) (row_of rows row.port row.class)) other
          ∙ found rows row (pairs_tail IsBefore first rows ordered) at
    ]

finding : FindingIsMeant
finding = record {
  found = found;
  there = λ rows port class row is. (
      let place = place_of port class row (found_is (is_row_of port class) rows row is).passes in
      (Contains-found (is_row_of port class) rows row is, place.0, place.1));
  bound = λ rows port class row is.
      ap (λ (o : Option Row). unwrap_or (option_map (λ (r : Row). r.bound) o) 0) is;
  no_bound = λ rows port class none.
      ap (λ (o : Option Row). unwrap_or (option_map (λ (r : Row). r.bound) o) 0) none;
  hop = λ rows s port. refl;
  along = λ rows stream route. refl;
  trunk = λ rows stream. refl;
  sums = λ rows stream. refl;
  all_sums = λ network rows. refl;
}

holding : HoldingIsMeant
holding = record {
  rules = λ network given. (
    λ are. (are.kept, are.rest, are.enough),
    λ p. record { kept = p.0; rest = p.1; enough = p.2 },
  );
  rest = λ network given. (
    λ holds. (holds.used, holds.ordered, holds.in_time),
    λ p. record { used = p.0; ordered = p.1; in_time = p.2 },
  );
  before = λ a b. (λ is. is, λ is. is);
  answered = λ network. (λ is. (is.least, is.holds), λ p. record { least = p.0; holds = p.1 });
  one_sum = λ rows stream. (
    λ has. (has.sum, has.sums, has.in_time),
    λ p. record { sum = p.0; sums = p.1; in_time = p.2 },
  );
  overloaded = λ t port class load. (λ is. is, λ is. is);
  residence = λ t port class need. (λ is. is, λ is. is);
}

pub rows_are_meant : RowsAreMeant
rows_are_meant = record {
  sums = sums_are_meant;
  used = used;
  waits = waits;
  finding = finding;
  holding = holding;
}
