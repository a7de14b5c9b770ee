use Rattle.std.proofs.Common.{◌≡◌, ◌≢◌, ℕ, ◌+◌, ◌-◌, ◌*◌, ◌<◌, ◌≤◌, Bool, true, false, cond, ◌&&◌, ◌||◌, List, [], ◌∷◌}
use Rattle.std.proofs.Common.{length, map, get_or, All, Option, Some, None, refl, sym, ap, subst, ◌∙◌, inl, inr, ◌⊎◌}
use Rattle.std.proofs.Common.{lit<}
use Rattle.std.specs.Prelude.{nat_le, nat_lt, ◌==◌, is_some, IsSome, filter}
use Rattle.std.specs.List.{list_all, list_any}
use Rattle.std.proofs.lemmas.Bool.{and_parts, or_cases, cases_eq, eqb-true, false≢true}
use Rattle.std.proofs.lemmas.Option.{none-some, same_Some}
use Rattle.std.proofs.lemmas.List.Sums.{AllPass-from_list_all}
use Rattle.ats_num.specs.declared.time.TheConstants.{PS_PER_SECOND, PS_PER_NS}
use Rattle.ats_topology.specs.Port.{port_at}
use Rattle.ats_topology.specs.Topology.{DeclaredTopology}
use Rattle.ats_streams.specs.Branches.{routes_of}
use Rattle.ats_streams.specs.Stream.{DeclaredStream}
use Rattle.ats_network.specs.Sender.{Sender, stream_sender}
use Rattle.ats_network.specs.Class.{class_at, seen_at}
use Rattle.ats_network.specs.Network.{DeclaredNetwork}
use Rattle.ats_network.specs.Residence.{residence_after}
use Rattle.ats_certificate.specs.PortSums.{PortSums, port_sums, uses, is_of, is_used, senders_at}
use Rattle.ats_certificate.specs.Certificate.{row_of, IsBefore, FitsLink, bound_of, need_behind, bound_on}
use Rattle.ats_certificate.specs.Certificate.{IsInTime, MeetsDeadline, Holds}
use Rattle.ats_certificate.specs.declared.row.Row.{Row}
use Rattle.ats_soundness_law.specs.Rules.{Rule, rows_are_there, higher_is_right, equal_is_right, bursts_are_right}
use Rattle.ats_soundness_law.specs.Rules.{lower_is_right, least_is_right, bound_follows, load_fits, wait_is_enough}
use Rattle.ats_soundness_law.specs.Rules.{frames_may_stay, Keeps, RestHolds}
use Rattle.ats_soundness_law.proofs.EachRule.{holds_of_rules}
use Rattle.ats_examples.proofs.Tests.{le_of, lt_of, eq_of, either, all_by, pairs_pass, pairs_by}

-- Tests of the rules of a certificate on closed networks and rows.

-- each port of a path has a row of the class that the sender has there
abbrev has_rows_along : List Row → Sender → List ℕ → Bool
has_rows_along given s path = list_all (λ port. is_some (row_of given port (class_at s port))) path

along_by : (given : List Row) (port : ℕ) (s : Sender) (path : List ℕ) → has_rows_along given s path ≡ true
    → list_any (λ p. p == port) path ≡ true → IsSome (row_of given port (class_at s port))
along_by given port s [] passed goes = absurd (false≢true goes)
along_by given port s (p ∷ path) passed goes =
    let parts : (is_some (row_of given p (class_at s p)) ≡ true) × (has_rows_along given s path ≡ true) =
    and_parts (is_some (row_of given p (class_at s p))) (has_rows_along given s path) passed in
    elim (or_cases (p == port) (list_any (λ q. q == port) path) goes) [
      | inl here ↦ subst (λ (q : ℕ). IsSome (row_of given q (class_at s q))) (eqb-true p port here) parts.0
      | inr there ↦ along_by given port s path parts.1 there
    ]

-- each sender has its rows
abbrev are_covered : List Row → List Sender → Bool
are_covered given senders = list_all (λ (s : Sender). has_rows_along given s s.ports) senders

covered_by : (topology : DeclaredTopology) (given : List Row) (port class : ℕ) (senders : List Sender)
    → are_covered given senders ≡ true → list_any (is_of class) (senders_at topology port senders) ≡ true
    → IsSome (row_of given port class)
covered_by topology given port class [] passed used = absurd (false≢true used)
covered_by topology given port class (s ∷ senders) passed used = by (uses port s) refl
    (covered_by topology given port class senders) used
  where
    parts : (has_rows_along given s s.ports ≡ true) × (are_covered given senders ≡ true)
    parts = and_parts (has_rows_along given s s.ports) (are_covered given senders) passed

    by : (b : Bool) → uses port s ≡ b → (are_covered given senders ≡ true
        → list_any (is_of class) (senders_at topology port senders) ≡ true → IsSome (row_of given port class))
        → list_any (is_of class) (map (seen_at topology port) (cond b (s ∷ filter (uses port) senders)
        (filter (uses port) senders))) ≡ true
        → IsSome (row_of given port class)
    by true on rest h =
        elim (or_cases (is_of class (seen_at topology port s))
        (list_any (is_of class) (senders_at topology port senders)) h) [
          | inl same ↦ subst (λ (c : ℕ). IsSome (row_of given port c)) (eqb-true (class_at s port) class same)
              (along_by given port s s.ports parts.0 on)
          | inr later ↦ rest parts.1 later
        ]
    by false off rest h = rest parts.1 h

abbrev pub is_before : Row → Row → Bool
is_before a b = nat_lt a.port b.port || (a.port == b.port && nat_lt a.class b.class)

pub before_by : (a b : Row) → is_before a b ≡ true → IsBefore a b
before_by a b h = elim (either (nat_lt a.port b.port) (a.port == b.port && nat_lt a.class b.class) h) [
  | inl first ↦ inl (lt_of a.port b.port first)
  | inr more ↦ inr (
    eq_of a.port b.port (and_parts (a.port == b.port) (nat_lt a.class b.class) more).0,
    lt_of a.class b.class (and_parts (a.port == b.port) (nat_lt a.class b.class) more).1,
  )
]

abbrev are_used : DeclaredNetwork → List Row → Bool
are_used network given = list_all (λ (row : Row). is_used network row.port row.class) given

-- a column of each row is that of its sums
abbrev is_column : (Row → ℕ) → (PortSums → ℕ) → DeclaredNetwork → Row → Bool
is_column column sum network row = column row == sum (port_sums network row.port row.class)

column_by : (column : Row → ℕ) (sum : PortSums → ℕ) (network : DeclaredNetwork) (given : List Row)
    → list_all (is_column column sum network) given ≡ true
    → All (λ (row : Row). column row ≡ sum (port_sums network row.port row.class)) given
column_by column sum network given h =
    all_by (λ (row : Row). column row ≡ sum (port_sums network row.port row.class)) (is_column column sum network)
    (λ row. eq_of (column row) (sum (port_sums network row.port row.class))) given h

abbrev is_bound : DeclaredNetwork → Row → Bool
is_bound network row = row.bound == bound_of (port_at network.topology.ports row.port) row.wait row.least

abbrev fits : Row → Bool
fits row = nat_le (row.higher + row.equal) PS_PER_SECOND

abbrev is_enough : DeclaredNetwork → Row → Bool
is_enough network row = nat_le
    (PS_PER_SECOND * ((port_at network.topology.ports row.port).ps_per_bit * (row.lower + row.bursts - row.least)))
    (row.wait * (PS_PER_SECOND - row.higher))

-- so long a stay is within a residence, if there is one
abbrev stays : ℕ → Option ℕ → Bool
stays need None = true
stays need (Some ns) = nat_le need (PS_PER_NS * ns)

stays_by : (need : ℕ) (residence : Option ℕ) → stays need residence ≡ true → (ns : ℕ) → residence ≡ Some ns
    → need ≤ PS_PER_NS * ns
stays_by need None h ns given = absurd (none-some ns given)
stays_by need (Some limit) h ns given =
    subst (λ (n : ℕ). need ≤ PS_PER_NS * n) (same_Some limit ns given) (le_of need (PS_PER_NS * limit) h)

abbrev may_stay : DeclaredNetwork → Row → Bool
may_stay network row =
    stays (need_behind network row.port row.wait) (residence_after network.topology row.port)

-- the rows keep a rule
abbrev pub passes : Rule → DeclaredNetwork → List Row → Bool
passes rows_are_there network given = are_covered given (map stream_sender network.streams)
passes higher_is_right network given = list_all (is_column (λ row. row.higher) (λ sums. sums.higher) network) given
passes equal_is_right network given = list_all (is_column (λ row. row.equal) (λ sums. sums.equal) network) given
passes bursts_are_right network given = list_all (is_column (λ row. row.bursts) (λ sums. sums.bursts) network) given
passes lower_is_right network given = list_all (is_column (λ row. row.lower) (λ sums. sums.lower) network) given
passes least_is_right network given = list_all (is_column (λ row. row.least) (λ sums. sums.least) network) given
passes bound_follows network given = list_all (is_bound network) given
passes load_fits network given = list_all fits given
passes wait_is_enough network given = list_all (is_enough network) given
passes frames_may_stay network given = list_all (may_stay network) given

pub kept_by : (rule : Rule) (network : DeclaredNetwork) (given : List Row) → passes rule network given ≡ true
    → Keeps rule network given
kept_by rows_are_there network given h =
    λ port class used. covered_by network.topology given port class (map stream_sender network.streams) h used
kept_by higher_is_right network given h = column_by (λ row. row.higher) (λ sums. sums.higher) network given h
kept_by equal_is_right network given h = column_by (λ row. row.equal) (λ sums. sums.equal) network given h
kept_by bursts_are_right network given h = column_by (λ row. row.bursts) (λ sums. sums.bursts) network given h
kept_by lower_is_right network given h = column_by (λ row. row.lower) (λ sums. sums.lower) network given h
kept_by least_is_right network given h = column_by (λ row. row.least) (λ sums. sums.least) network given h
kept_by bound_follows network given h = all_by _ (is_bound network)
    (λ row. eq_of row.bound (bound_of (port_at network.topology.ports row.port) row.wait row.least)) given h
kept_by load_fits network given h = all_by FitsLink fits (λ row. le_of (row.higher + row.equal) PS_PER_SECOND) given h
kept_by wait_is_enough network given h =
    all_by _ (is_enough network) (λ row. le_of
    (PS_PER_SECOND * ((port_at network.topology.ports row.port).ps_per_bit * (row.lower + row.bursts - row.least)))
    (row.wait * (PS_PER_SECOND - row.higher))) given h
kept_by frames_may_stay network given h =
    all_by _ (may_stay network) (λ row. stays_by (need_behind network row.port row.wait)
    (residence_after network.topology row.port)) given h

-- the rows are of used ports and classes and in order, and the streams are in time
abbrev meets_deadline : List Row → DeclaredStream → List ℕ → Bool
meets_deadline given stream route = nat_le (bound_on given stream route) (PS_PER_NS * stream.deadline_ns)

abbrev is_in_time : List Row → DeclaredStream → Bool
is_in_time given stream = list_all (meets_deadline given stream) (routes_of stream.ports stream.branches)

in_time_by : (given : List Row) (stream : DeclaredStream) → is_in_time given stream ≡ true → IsInTime given stream
in_time_by given stream h =
    all_by (λ route. MeetsDeadline stream (bound_on given stream route)) (meets_deadline given stream)
    (λ route. le_of (bound_on given stream route) (PS_PER_NS * stream.deadline_ns))
    (routes_of stream.ports stream.branches) h

abbrev pub rest_passes : DeclaredNetwork → List Row → Bool
rest_passes network given =
    are_used network given && (pairs_pass is_before given && list_all (is_in_time given) network.streams)

pub rest_by : (network : DeclaredNetwork) (given : List Row) → rest_passes network given ≡ true
    → RestHolds network given
rest_by network given h =
    let all_in_time : Bool = list_all (is_in_time given) network.streams in
    let first : (are_used network given ≡ true) × ((pairs_pass is_before given && all_in_time) ≡ true) =
    and_parts (are_used network given) (pairs_pass is_before given && all_in_time) h in
    let second : (pairs_pass is_before given ≡ true) × (all_in_time ≡ true) =
    and_parts (pairs_pass is_before given) all_in_time first.1 in
    record {
      used = AllPass-from_list_all (λ (row : Row). is_used network row.port row.class) given first.0;
      ordered = pairs_by IsBefore is_before before_by given second.0;
      in_time = all_by (IsInTime given) (is_in_time given) (in_time_by given) network.streams second.1;
    }

-- the rules in their order
abbrev pub all_rules : List Rule
all_rules =
    rows_are_there ∷ higher_is_right ∷ equal_is_right ∷ bursts_are_right ∷ lower_is_right
    ∷ least_is_right ∷ bound_follows ∷ load_fits ∷ wait_is_enough ∷ frames_may_stay ∷ []

abbrev pub number_of : Rule → ℕ
number_of rows_are_there = 0
number_of higher_is_right = 1
number_of equal_is_right = 2
number_of bursts_are_right = 3
number_of lower_is_right = 4
number_of least_is_right = 5
number_of bound_follows = 6
number_of load_fits = 7
number_of wait_is_enough = 8
number_of frames_may_stay = 9

own : (rule : Rule) → get_or all_rules (number_of rule) rows_are_there ≡ rule
own rows_are_there = refl
own higher_is_right = refl
own equal_is_right = refl
own bursts_are_right = refl
own lower_is_right = refl
own least_is_right = refl
own bound_follows = refl
own load_fits = refl
own wait_is_enough = refl
own frames_may_stay = refl

there : (rule : Rule) → number_of rule < length all_rules
there rows_are_there = lit< tt
there higher_is_right = lit< tt
there equal_is_right = lit< tt
there bursts_are_right = lit< tt
there lower_is_right = lit< tt
there least_is_right = lit< tt
there bound_follows = lit< tt
there load_fits = lit< tt
there wait_is_enough = lit< tt
there frames_may_stay = lit< tt

-- the number of a rule tells which it is
is_by_number : (rule other : Rule) → number_of other ≡ number_of rule → other ≡ rule
is_by_number rule other same = sym (own other) ∙ ap (λ (n : ℕ). get_or all_rules n rows_are_there) same ∙ own rule

-- two rules are the same or differ
pub same_rule : (other rule : Rule) → (other ≡ rule) ⊎ (other ≢ rule)
same_rule other rule =
    elim (cases_eq (number_of other) (number_of rule)) [
      | inl same ↦ inl (is_by_number rule other same)
      | inr differ ↦ inr (λ same. differ (ap number_of same))
    ]

-- the rows keep each rule
abbrev pub all_pass : DeclaredNetwork → List Row → Bool
all_pass network given = list_all (λ rule. passes rule network given) all_rules

pub all_kept : (network : DeclaredNetwork) (given : List Row) → all_pass network given ≡ true → (rule : Rule)
    → Keeps rule network given
all_kept network given h rule =
    let test : Rule → Bool = λ rule. passes rule network given in
    let found : test (get_or all_rules (number_of rule) rows_are_there) ≡ true =
    AllPass-from_list_all test all_rules h (number_of rule) rows_are_there (there rule) in
    kept_by rule network given (subst (λ (q : Rule). test q ≡ true) (own rule) found)

-- the rows keep each rule but this one
abbrev pub others_pass : Rule → DeclaredNetwork → List Row → Bool
others_pass rule network given =
    list_all (λ other. number_of other == number_of rule || passes other network given) all_rules

pub others_by : (rule : Rule) (network : DeclaredNetwork) (given : List Row) → others_pass rule network given ≡ true
    → (other : Rule) → other ≢ rule → Keeps other network given
others_by rule network given h other differ =
    let test : Rule → Bool = λ other. number_of other == number_of rule || passes other network given in
    let found : test (get_or all_rules (number_of other) rows_are_there) ≡ true =
    AllPass-from_list_all test all_rules h (number_of other) rows_are_there (there other) in
    let here : test other ≡ true = subst (λ (q : Rule). test q ≡ true) (own other) found in
    elim (either (number_of other == number_of rule) (passes other network given) here) [
      | inl same ↦ absurd (differ (is_by_number rule other (eq_of (number_of other) (number_of rule) same)))
      | inr passed ↦ kept_by other network given passed
    ]

-- closed rows that pass each test are a certificate
pub holds_by : (network : DeclaredNetwork) (rows : List Row) → all_pass network rows ≡ true
    → rest_passes network rows ≡ true → Holds network rows
holds_by network rows kept rest = holds_of_rules network rows (all_kept network rows kept) (rest_by network rows rest)
