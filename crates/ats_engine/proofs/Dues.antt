-- The entries of a frame that becomes eligible along several legs are put in one by one.
use Rattle.std.proofs.Common.{◌≡◌, ℕ, zero, suc, ◌+◌, ◌-◌, ◌≤◌, Bool, true, false, List, [], ◌∷◌, ◌++◌, length, map}
use Rattle.std.proofs.Common.{All, Some, refl, sym, ap, ◌∙◌, subst, arith}
use Rattle.std.proofs.Common.{filter, Option, None}
use Rattle.std.specs.Prelude.{if◌then◌else◌}
use Rattle.std.specs.List.{range_with_len}
use Rattle.std.proofs.lemmas.Bool.{cond-true, cond-false}
use Rattle.std.proofs.lemmas.List.{append-nil, map-append}
use Rattle.std.proofs.lemmas.List.Elements.{All-head, filter-append}
use Rattle.std.proofs.lemmas.List.Sorted.{IsPermutation-refl}
use Rattle.std.proofs.lemmas.Option.{same_Some}
use Rattle.ats_facts.proofs.Lists.{all_right}
use Rattle.ats_num.specs.declared.time.Ps.{Ps}
use Rattle.ats_streams.proofs.BranchLemmas.{legs-length}
use Rattle.ats_network.specs.Network.{DeclaredNetwork}
use Rattle.ats_network.specs.Sender.{Sender}
use Rattle.ats_trace.specs.Journey.{legs_at}
use Rattle.ats_trace.specs.declared.journey.Release.{Release}
use Rattle.ats_events.specs.Contents.{Contents}
use Rattle.ats_events.specs.declared.moment.Moment.{Moment}
use Rattle.ats_trace.specs.Stored.{row_of}
use Rattle.ats_run_records.specs.Progress.{Progress}
use Rattle.ats_engine_steps.specs.Course.{sender_of}
use Rattle.ats_engine_steps.specs.Entries.{eligible_moment}
use Rattle.ats_engine_steps.specs.Steps.{begins_in, due_entries, row_begun}
use Rattle.ats_engine_steps.specs.declared.event.Event.{Event}
use Rattle.ats_engine_steps.specs.declared.event.Event.TheVariants.{Eligibility}
use Rattle.ats_engine.specs.Entering.{MayEnter, Enters, rows_begun}
use Rattle.ats_engine.proofs.Joining.{may-enter-next, enters-next}

-- Numbers in turn, and those of them that pass a test.

range-joined : (a m n : ℕ) → range_with_len a (m + n) ≡ range_with_len a m ++ range_with_len (a + m) n
range-joined a zero n =
    let none : zero + n ≡ n = omega arith in
    let here : a ≡ a + zero = omega arith in
    ap (range_with_len a) none ∙ ap (λ (k : ℕ). range_with_len k n) here
range-joined a (suc m) n =
    let next : suc m + n ≡ suc (m + n) = omega arith in
    let there : a + 1 + m ≡ a + suc m = omega arith in
    ap (range_with_len a) next
    ∙ ap (λ (ns : List ℕ). a ∷ ns) (range-joined (a + 1) m n
    ∙ ap (λ (k : ℕ). range_with_len (a + 1) m ++ range_with_len k n) there)

-- one number more
range-more : (k : ℕ) → 1 ≤ k → range_with_len 1 (k + 1 - 1) ≡ range_with_len 1 (k - 1) ++ k ∷ []
range-more k some =
    let more : k + 1 - 1 ≡ k - 1 + 1 = omega arith in
    let last : 1 + (k - 1) ≡ k = omega arith in
    ap (range_with_len 1) more ∙ range-joined 1 (k - 1) 1
    ∙ ap (λ (n : ℕ). range_with_len 1 (k - 1) ++ n ∷ []) last

-- which passes, or does not
one-passes : (p : ℕ → Bool) (k : ℕ) → p k ≡ true → filter p (k ∷ []) ≡ k ∷ []
one-passes p k yes-is = cond-true (p k) (k ∷ []) [] yes-is

none-passes : (p : ℕ → Bool) (k : ℕ) → p k ≡ false → filter p (k ∷ []) ≡ []
none-passes p k no-is = cond-false (p k) (k ∷ []) [] no-is

passing-more : (p : ℕ → Bool) (k : ℕ) → 1 ≤ k
    → filter p (range_with_len 1 (k + 1 - 1)) ≡ filter p (range_with_len 1 (k - 1)) ++ filter p (k ∷ [])
passing-more p k some =
    ap (filter p) (range-more k some) ∙ filter-append p (range_with_len 1 (k - 1)) (k ∷ [])

-- those up to a number that passes, it, and the others
passing-split : (p : ℕ → Bool) (k n : ℕ) → 1 ≤ k → k ≤ n → p k ≡ true
    → filter p (range_with_len 1 n)
    ≡ filter p (range_with_len 1 (k - 1)) ++ k ∷ filter p (range_with_len (k + 1) (n - k))
passing-split p k n some within passes =
    let parts : n ≡ k - 1 + suc (n - k) = omega arith in
    let here : 1 + (k - 1) ≡ k = omega arith in
    ap (λ (m : ℕ). filter p (range_with_len 1 m)) parts
    ∙ ap (filter p) (range-joined 1 (k - 1) (suc (n - k)))
    ∙ ap (λ (m : ℕ). filter p (range_with_len 1 (k - 1) ++ range_with_len m (suc (n - k)))) here
    ∙ filter-append p (range_with_len 1 (k - 1)) (k ∷ range_with_len (k + 1) (n - k))
    ∙ ap (λ (ns : List ℕ). filter p (range_with_len 1 (k - 1)) ++ ns)
    (cond-true (p k) (k ∷ filter p (range_with_len (k + 1) (n - k))) (filter p (range_with_len (k + 1) (n - k)))
    passes)

-- The legs that begin at a hop of a leg, up to one with a number.

abbrev pub begun_to : DeclaredNetwork → List ℕ → Progress → ℕ → ℕ → List ℕ
begun_to network firsts progress hop count =
    map (row_of firsts progress.frame) (filter (begins_in network progress hop) (range_with_len 1 count))

-- a sender has a leg more than branches
pub legs-counted : (network : DeclaredNetwork) (progress : Progress) (r : Release) (legs : ℕ)
    → legs ≡ length (legs_at network r.sender) → r ≡ progress.release
    → legs ≡ suc (length (sender_of network progress).branches)
legs-counted network progress r legs all is =
    let sender : Sender = sender_of network progress in
    all ∙ ap (λ (s : Release). length (legs_at network s.sender)) is
    ∙ legs-length 0 sender.ports sender.branches

-- where a row is found, its leg begins there
pub record HasBegun (network : DeclaredNetwork) (firsts : List ℕ) (progress : Progress) (hop copy other : ℕ)
    : Type 0 where
  pub begins : begins_in network progress hop copy ≡ true
  pub is : other ≡ row_of firsts progress.frame copy

pub has-begun : (network : DeclaredNetwork) (firsts : List ℕ) (progress : Progress) (hop copy other : ℕ)
    (found : Option ℕ) → found ≡ row_begun network firsts progress hop copy → found ≡ Some other
    → HasBegun network firsts progress hop copy other
has-begun network firsts progress hop copy other found is some =
    by (begins_in network progress hop copy) refl (sym is ∙ some)
  where
    by : (b : Bool) → begins_in network progress hop copy ≡ b
        → (if b then Some (row_of firsts progress.frame copy) else None) ≡ Some other
        → HasBegun network firsts progress hop copy other
    by true yes_is same = record { begins = yes_is; is = sym (same_Some _ _ same) }
    by false no_is same = absurd (cc same)

-- where none is, it does not
pub not-begun : (network : DeclaredNetwork) (firsts : List ℕ) (progress : Progress) (hop copy : ℕ)
    (found : Option ℕ) → found ≡ row_begun network firsts progress hop copy
    → ((other : ℕ) → found ≡ Some other → ⊥) → begins_in network progress hop copy ≡ false
not-begun network firsts progress hop copy found is none =
    by (begins_in network progress hop copy) refl
  where
    by : (b : Bool) → begins_in network progress hop copy ≡ b → begins_in network progress hop copy ≡ false
    by false no_is = no_is
    by true yes_is = absurd (none (row_of firsts progress.frame copy)
        (is ∙ ap (λ (b : Bool). if b then Some (row_of firsts progress.frame copy) else None) yes_is))

-- the next one begins there too
pub begun-more : (network : DeclaredNetwork) (firsts : List ℕ) (progress : Progress) (hop copy : ℕ) → 1 ≤ copy
    → begins_in network progress hop copy ≡ true
    → begun_to network firsts progress hop (copy + 1 - 1)
    ≡ begun_to network firsts progress hop (copy - 1) ++ row_of firsts progress.frame copy ∷ []
begun-more network firsts progress hop copy some begins =
    let p : ℕ → Bool = begins_in network progress hop in
    let name : ℕ → ℕ = row_of firsts progress.frame in
    ap (λ (ns : List ℕ). map name ns)
    (passing-more p copy some
    ∙ ap (λ (ns : List ℕ). filter p (range_with_len 1 (copy - 1)) ++ ns) (one-passes p copy begins))
    ∙ map-append name (filter p (range_with_len 1 (copy - 1))) (copy ∷ [])

-- or does not
pub begun-same : (network : DeclaredNetwork) (firsts : List ℕ) (progress : Progress) (hop copy : ℕ) → 1 ≤ copy
    → begins_in network progress hop copy ≡ false
    → begun_to network firsts progress hop (copy + 1 - 1) ≡ begun_to network firsts progress hop (copy - 1)
begun-same network firsts progress hop copy some begins =
    let p : ℕ → Bool = begins_in network progress hop in
    let name : ℕ → ℕ = row_of firsts progress.frame in
    ap (λ (ns : List ℕ). map name ns)
    (passing-more p copy some
    ∙ ap (λ (ns : List ℕ). filter p (range_with_len 1 (copy - 1)) ++ ns) (none-passes p copy begins)
    ∙ append-nil (filter p (range_with_len 1 (copy - 1))))

-- those before one that begins there, it, and the others
pub record IsSplit (network : DeclaredNetwork) (firsts : List ℕ) (progress : Progress) (hop copy : ℕ) : Type 0 where
  pub others : List ℕ
  pub all : rows_begun network firsts progress hop
      ≡ begun_to network firsts progress hop (copy - 1) ++ row_of firsts progress.frame copy ∷ others

pub begun-split : (network : DeclaredNetwork) (firsts : List ℕ) (progress : Progress) (hop copy : ℕ) → 1 ≤ copy
    → copy ≤ length (sender_of network progress).branches → begins_in network progress hop copy ≡ true
    → IsSplit network firsts progress hop copy
begun-split network firsts progress hop copy some within begins =
    let p : ℕ → Bool = begins_in network progress hop in
    let name : ℕ → ℕ = row_of firsts progress.frame in
    let count : ℕ = length (sender_of network progress).branches in
    let rest : List ℕ = filter p (range_with_len (copy + 1) (count - copy)) in
    record {
      others = map name rest;
      all = ap (λ (ns : List ℕ). map name ns) (passing-split p copy count some within begins)
          ∙ map-append name (filter p (range_with_len 1 (copy - 1))) (copy ∷ rest);
    }

-- so its row is one of all that those are
pub row-there : (network : DeclaredNetwork) (firsts : List ℕ) (progress : Progress) (hop copy : ℕ) (P : ℕ → Type 0)
    → 1 ≤ copy → copy ≤ length (sender_of network progress).branches → begins_in network progress hop copy ≡ true
    → All P (rows_begun network firsts progress hop) → P (row_of firsts progress.frame copy)
row-there network firsts progress hop copy P some within begins all =
    let split = begun-split network firsts progress hop copy some within begins in
    All-head P (row_of firsts progress.frame copy) split.others
    (all_right P (begun_to network firsts progress hop (copy - 1)) (row_of firsts progress.frame copy ∷ split.others)
    (subst (All P) split.all all))

-- The entries for legs, one of them for each.

dues-joined : (at : Ps) (rows more : List ℕ)
    → due_entries (Some at) (rows ++ more) ≡ due_entries (Some at) rows ++ due_entries (Some at) more
dues-joined at rows more = map-append (λ (row : ℕ). (eligible_moment row at, Eligibility row)) rows more

-- the one of a leg
abbrev pub due_of : ℕ → Ps → Moment × Event
due_of row at = (eligible_moment row at, Eligibility row)

-- none of them is put in at first
pub enters-none-due : {O : Type 0} (agenda : Contents O Event) (at : Ps)
    → Enters agenda agenda (due_entries (Some at) [])
enters-none-due agenda at =
    record { entries = IsPermutation-refl agenda.entries; last = refl; capacity = refl; order = refl }

-- each may be put in, when those before it are in
pub may-enter-due : {O : Type 0} {before : O → Moment → Moment → Type 0} {agenda next : Contents O Event} (at : Ps)
    (rows front others : List ℕ) (row : ℕ) {entry : Moment × Event} → entry ≡ due_of row at
    → rows ≡ front ++ row ∷ others → MayEnter before agenda (due_entries (Some at) rows)
    → Enters agenda next (due_entries (Some at) front) → MayEnter before next (entry ∷ [])
may-enter-due {O} {before} {agenda} {next} at rows front others row is all may enters =
    let parts : due_entries (Some at) rows
    ≡ due_entries (Some at) front ++ due_of row at ∷ due_entries (Some at) others =
    ap (due_entries (Some at)) all ∙ dues-joined at front (row ∷ others) in
    subst (λ (e : Moment × Event). MayEnter before next (e ∷ [])) (sym is)
    (may-enter-next (due_entries (Some at) front) (due_of row at) (due_entries (Some at) others)
    (subst (MayEnter before agenda) parts may) enters)

pub enters-due : {O : Type 0} {agenda next new : Contents O Event} (at : Ps) (front rows : List ℕ) (row : ℕ)
    {entry : Moment × Event} → entry ≡ due_of row at → rows ≡ front ++ row ∷ []
    → Enters agenda next (due_entries (Some at) front) → Enters next new (entry ∷ [])
    → Enters agenda new (due_entries (Some at) rows)
enters-due {O} {agenda} {next} {new} at front rows row is all first second =
    subst (Enters agenda new) (sym (ap (due_entries (Some at)) all ∙ dues-joined at front (row ∷ [])))
    (enters-next (due_entries (Some at) front) (due_of row at) first
    (subst (λ (e : Moment × Event). Enters next new (e ∷ [])) is second))
