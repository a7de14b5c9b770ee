-- Senders with the places of their entries.
use Rattle.std.proofs.Common.{◌≡◌, ℕ, ◌+◌, List, [], ◌∷◌, ◌++◌, map, Result, Ok, Err, refl, sym, ap, subst, ◌∙◌}
use Rattle.std.specs.List.{All}
use Rattle.std.proofs.lemmas.List.Elements.{All-nil, All-append, All-cons, All-head, All-tail}
use Rattle.std.specs.Prelude.{IsErrAnd}
use Rattle.ats_num.specs.Failure.{◌>>=◌, Fails, GivesSeen}
use Rattle.ats_num.specs.declared.failure.Failure.{Failure}
use Rattle.ats_num.specs.declared.failure.Failure.TheVariants.{Fault, NoMemory}
use Rattle.ats_network.specs.Network.{DeclaredNetwork}
use Rattle.ats_network_file.specs.Senders.{all_added, alone, at_place, placed}
use Rattle.ats_network_file.specs.declared.fault.NetFault.{NetFault}
use Rattle.ats_network_file.specs.declared.senders.Place.{Place}
use Rattle.ats_network_file.specs.declared.senders.SenderTable.{SenderTable}

-- what holds of senders holds of them with a place
at_place_all : {S : Type 0} (P : S → Type 0) (place : Place) (senders : List S) → All P senders
    → All (λ x. P x.1) (map (at_place place) senders)
at_place_all P place [] each = All-nil (λ x. P x.1)
at_place_all P place (s ∷ senders) each =
    All-cons (λ x. P x.1) (place, s) (map (at_place place) senders) (All-head P s senders each)
    (at_place_all P place senders (All-tail P s senders each))

-- what each entry's senders keep
pub placed_all : {E S : Type 0} (P : S → Type 0) (each : E → List S) → ((e : E) → All P (each e))
    → (table : SenderTable) (n : ℕ) (entries : List E) → All (λ x. P x.1) (placed each table n entries)
placed_all P each keeps table n [] = All-nil (λ x. P x.1)
placed_all P each keeps table n (e ∷ entries) =
    let place : Place = record { table = table; number = n } in
    All-append (λ x. P x.1) (map (at_place place) (each e)) (placed each table (n + 1) entries)
    (at_place_all P place (each e) (keeps e)) (placed_all P each keeps table (n + 1) entries)

-- and what each entry keeps that stands for itself
pub alone_all : {E : Type 0} (P : E → Type 0) (table : SenderTable) (n : ℕ) (entries : List E) → All P entries
    → All (λ x. P x.1) (placed alone table n entries)
alone_all P table n [] each = All-nil (λ x. P x.1)
alone_all P table n (e ∷ entries) each =
    let place : Place = record { table = table; number = n } in
    All-cons (λ x. P x.1) (place, e) (placed alone table (n + 1) entries) (All-head P e entries each)
    (alone_all P table (n + 1) entries (All-tail P e entries each))

-- what is kept by each of what is made
pub made_all : {A B : Type 0} (P : B → Type 0) (make : A → B) → ((x : A) → P (make x)) → (xs : List A)
    → All P (map make xs)
made_all P make keeps [] = All-nil P
made_all P make keeps (x ∷ xs) = All-cons P (make x) (map make xs) (keeps x) (made_all P make keeps xs)

-- some senders and then others
pub added-append : {E : Type 0} (added : DeclaredNetwork → Place → E → Result DeclaredNetwork NetFault)
    (network : DeclaredNetwork) (xs ys : List (Place × E))
    → all_added added network (xs ++ ys) ≡ (all_added added network xs >>= λ next. all_added added next ys)
added-append added network [] ys = refl
added-append added network (x ∷ xs) ys = by (added network x.0 x.1) (λ next. added-append added next xs ys)
  where
    by : (r : Result DeclaredNetwork NetFault)
        → ((next : DeclaredNetwork) → all_added added next (xs ++ ys)
        ≡ (all_added added next xs >>= λ next. all_added added next ys))
        → (r >>= λ next. all_added added next (xs ++ ys))
        ≡ ((r >>= λ next. all_added added next xs) >>= λ next. all_added added next ys)
    by (Err e) more = refl
    by (Ok next) more = more next

-- where the first of them fail, all fail alike
pub both_fail : {E : Type 0} (added : DeclaredNetwork → Place → E → Result DeclaredNetwork NetFault)
    (network out : DeclaredNetwork) (xs ys : List (Place × E)) (result : Result (Unit {0}) (Failure NetFault))
    (failure : Failure NetFault) → IsErrAnd result (λ e. e ≡ failure)
    → Fails failure (all_added added network xs)
    → GivesSeen (λ (u : Unit {0}). out) result (all_added added network (xs ++ ys))
both_fail added network out xs ys (Ok x) failure is fails = absurd is
both_fail added network out xs ys (Err e) failure is fails =
    subst (λ (f : Failure NetFault). Fails f (all_added added network (xs ++ ys))) (sym is) (by failure fails)
  where
    by : (f : Failure NetFault) → Fails f (all_added added network xs) → Fails f (all_added added network (xs ++ ys))
    by NoMemory h = tt
    by (Fault f) h =
        added-append added network xs ys
        ∙ ap (λ (r : Result DeclaredNetwork NetFault). r >>= λ next. all_added added next ys) h

-- where the first of them are added, all give what the others give then
pub both_give : {E : Type 0} (added : DeclaredNetwork → Place → E → Result DeclaredNetwork NetFault)
    (network next out : DeclaredNetwork) (xs ys : List (Place × E)) (result : Result (Unit {0}) (Failure NetFault))
    → all_added added network xs ≡ Ok next → GivesSeen (λ (u : Unit {0}). out) result (all_added added next ys)
    → GivesSeen (λ (u : Unit {0}). out) result (all_added added network (xs ++ ys))
both_give added network next out xs ys result h given =
    subst (λ (due : Result DeclaredNetwork NetFault). GivesSeen (λ (u : Unit {0}). out) result due)
    (sym (added-append added network xs ys
    ∙ ap (λ (r : Result DeclaredNetwork NetFault). r >>= λ n. all_added added n ys) h)) given
