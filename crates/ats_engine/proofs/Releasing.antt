use Rattle.std.proofs.Common.{◌≡◌, ℕ, suc, ◌+◌, ◌<◌, List, [], ◌∷◌, ◌++◌, length, get_or, take, All, IsPermutation}
use Rattle.std.proofs.Common.{refl, sym, ap, ◌∙◌, subst, arith, add-zero, length-append}
use Rattle.std.specs.Prelude.{◌≢◌}
use Rattle.std.specs.Option.{ForSome}
use Rattle.std.proofs.lemmas.List.{length-take-le, take_more}
use Rattle.std.proofs.lemmas.List.Elements.{All-cons, All-nil, All-weaker}
use Rattle.std.proofs.lemmas.List.Sorted.{All-permutation, IsPermutation-append_comm, IsPermutation-append_right}
use Rattle.std.proofs.lemmas.List.Sorted.{IsPermutation-trans, length_permutation}
use Rattle.ats_network.specs.Network.{DeclaredNetwork}
use Rattle.ats_events.specs.Contents.{Contents}
use Rattle.ats_events.specs.Steps.{Inserts}
use Rattle.ats_events.specs.declared.moment.Moment.{Moment}
use Rattle.ats_trace.specs.declared.journey.Release.{Release}
use Rattle.ats_run_records.specs.Progress.{copies_opened, trunks_opened}
use Rattle.ats_run_records.proofs.AllCounts.{length-trunks}
use Rattle.ats_engine_steps.specs.Entries.{arrival_moment}
use Rattle.ats_engine_steps.specs.declared.event.Event.{Event}
use Rattle.ats_engine_steps.specs.declared.event.Event.TheVariants.{Arrival}
use Rattle.ats_engine_proofs.specs.Opened.{released_from}
use Rattle.ats_engine.specs.Starts.{AreReleasedTo}

-- the arrivals of joined lists of releases
released-append : (frame : ℕ) (xs ys : List Release)
    → released_from frame (xs ++ ys) ≡ released_from frame xs ++ released_from (frame + length xs) ys
released-append frame [] ys = ap (λ (n : ℕ). released_from n ys) (sym (add-zero frame))
released-append frame (x ∷ xs) ys =
    ap (λ (l : List (Moment × Event)). (arrival_moment frame x.at, Arrival frame) ∷ l)
    (released-append (frame + 1) xs ys
    ∙ ap (λ (n : ℕ). released_from (frame + 1) xs ++ released_from n ys) (omega arith))

-- there is one for each release
length-released : (frame : ℕ) (xs : List Release) → length (released_from frame xs) ≡ length xs
length-released frame [] = refl
length-released frame (x ∷ xs) = ap suc (length-released (frame + 1) xs)

-- each has its frame's number
numbers-below : (frame : ℕ) (xs : List Release)
    → All (λ (entry : Moment × Event). entry.0.id < frame + length xs) (released_from frame xs)
numbers-below frame [] = All-nil (λ (entry : Moment × Event). entry.0.id < frame + 0)
numbers-below frame (x ∷ xs) =
    All-cons (λ (entry : Moment × Event). entry.0.id < frame + length (x ∷ xs))
    (arrival_moment frame x.at, Arrival frame) (released_from (frame + 1) xs) (omega arith)
    (All-weaker (λ (entry : Moment × Event). entry.0.id < frame + 1 + length xs)
    (λ (entry : Moment × Event). entry.0.id < frame + length (x ∷ xs)) (λ entry less. omega arith)
    (released_from (frame + 1) xs) (numbers-below (frame + 1) xs))

-- the arrivals of one release more
released-more : (releases : List Release) (n : ℕ) (r d : Release) → n < length releases → r ≡ get_or releases n d
    → released_from 0 (take (n + 1) releases)
    ≡ released_from 0 (take n releases) ++ (arrival_moment n r.at, Arrival n) ∷ []
released-more releases n r d within is =
    ap (released_from 0) (take_more releases n d within)
    ∙ released-append 0 (take n releases) (get_or releases n d ∷ [])
    ∙ ap (λ (k : ℕ). released_from 0 (take n releases) ++ released_from k (get_or releases n d ∷ []))
    (omega (arith, length-take-le n releases (omega arith)))
    ∙ ap (λ (x : Release). released_from 0 (take n releases) ++ (arrival_moment n x.at, Arrival n) ∷ []) (sym is)

-- an agenda with the arrivals of some releases has room for the next
pub released-room : {O : Type 0} (network : DeclaredNetwork) (releases : List Release) (order : O) (n : ℕ)
    (agenda : Contents O Event) → n < length releases → AreReleasedTo network releases order n agenda
    → length agenda.entries < agenda.capacity
released-room network releases order n agenda within are =
    omega (
      arith,
      length_permutation (released_from 0 (take n releases)) agenda.entries are.entries,
      length-released 0 (take n releases),
      length-take-le n releases (omega arith),
      are.capacity,
      length-append (trunks_opened network 0 releases) (copies_opened network 0 releases),
      length-trunks network 0 releases,
    )

-- which has another moment
pub released-apart : {O : Type 0} (network : DeclaredNetwork) (releases : List Release) (order : O) (n : ℕ)
    (agenda : Contents O Event) (moment : Moment) → n < length releases → moment.id ≡ n
    → AreReleasedTo network releases order n agenda
    → All (λ (entry : Moment × Event). entry.0 ≢ moment) agenda.entries
released-apart network releases order n agenda moment within is are =
    All-weaker (λ (entry : Moment × Event). entry.0.id < 0 + length (take n releases))
    (λ (entry : Moment × Event). entry.0 ≢ moment)
    (λ entry less same. omega (arith, ap (λ (m : Moment). m.id) same, length-take-le n releases (omega arith)))
    agenda.entries
    (All-permutation (λ (entry : Moment × Event). entry.0.id < 0 + length (take n releases))
    (released_from 0 (take n releases)) agenda.entries are.entries (numbers-below 0 (take n releases)))

-- nothing was popped yet
pub released-after : {O : Type 0} (network : DeclaredNetwork) (releases : List Release) (order : O) (n : ℕ)
    (agenda : Contents O Event) (P : Moment → Type 0) → AreReleasedTo network releases order n agenda
    → ForSome agenda.last P
released-after network releases order n agenda P are last is = absurd (cc (are.last, is))

-- with the next arrival it has those of one release more
pub released-inserted : {O : Type 0} (before : Moment → Moment → Type 0) (network : DeclaredNetwork)
    (releases : List Release) (order : O) (n : ℕ) (old new : Contents O Event) (r d : Release) → n < length releases
    → r ≡ get_or releases n d → AreReleasedTo network releases order n old
    → Inserts before old new (arrival_moment n r.at, Arrival n) → AreReleasedTo network releases order (n + 1) new
released-inserted before network releases order n old new r d within is are inserts =
    let entry : Moment × Event = (arrival_moment n r.at, Arrival n) in
    let listed : List (Moment × Event) = released_from 0 (take n releases) in
    record {
      entries = subst (λ (l : List (Moment × Event)). IsPermutation l new.entries)
          (sym (released-more releases n r d within is))
          (IsPermutation-trans (listed ++ entry ∷ []) (entry ∷ listed) new.entries
          (IsPermutation-append_comm listed (entry ∷ []))
          (IsPermutation-trans (entry ∷ listed) (entry ∷ old.entries) new.entries
          (IsPermutation-append_right (entry ∷ []) listed old.entries are.entries) inserts.entries));
      capacity = inserts.capacity ∙ are.capacity;
      ordered = inserts.order ∙ are.ordered;
      last = inserts.last ∙ are.last;
    }
