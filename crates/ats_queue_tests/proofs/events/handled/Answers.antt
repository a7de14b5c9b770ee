use Rattle.std.proofs.Common.{◌≡◌, ℕ, ◌+◌, ◌<◌, ◌^◌, List, [], ◌∷◌, length, All, sym, ap, subst, arith}
use Rattle.std.proofs.lemmas.List.Elements.{All-cons}
use Rattle.std.proofs.lemmas.List.Sorted.{All-permutation}
use Rattle.ats_events.specs.declared.moment.Moment.{Moment}
use Rattle.ats_events.specs.Contents.{opened}
use Rattle.ats_queue_tests.proofs.events.handled.Goals as goal

pub drive-requires : goal.drive-requires
drive-requires g c =
    let InTime : Moment × ℕ → Type 0 = λ entry. (entry.1 < c.args.event + 1) × (entry.0.at.0 + entry.1 < 2 ^ 64) in
    let entry : Moment × ℕ = (c.moment.result, c.args.event) in
    let i = c.insert.ensures.inserted in
    let before = c.open-agenda.result.entries in
    let agenda : c.open-agenda.result ≡ opened 1 c.args.order = c.open-agenda.ensures in
    let AllInTime : List (Moment × ℕ) → Type 0 = λ entries. All InTime entries in
    let empty : before ≡ [] = ap (λ a. a.entries) agenda in
    let capacity : c.open-agenda.result.capacity ≡ 1 = ap (λ a. a.capacity) agenda in
    let none : AllInTime before = subst AllInTime (sym empty) (λ k d h. absurd (omega arith)) in
    let one : InTime entry = (omega arith, omega arith) in (
      omega arith,
      omega (arith, ap length empty, c.insert.ensures.count),
      All-permutation InTime (entry ∷ before) c.insert.new.self.entries i.entries
          (All-cons InTime entry before one none),
      omega arith,
    )
