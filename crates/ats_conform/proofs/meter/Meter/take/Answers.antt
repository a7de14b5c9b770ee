use Rattle.std.proofs.Common.{◌≡◌, ℕ, ◌+◌, ◌*◌, ◌≤◌, [], ◌∷◌, ◌++◌, length, sum_by}
use Rattle.std.proofs.Common.{true≢false, sym, ◌∙◌, ap, refl, arith}
use Rattle.std.proofs.lemmas.List.Elements.{All-push}
use Rattle.std.proofs.lemmas.List.Sums.{sum_by-le, sum_by_push}
use Rattle.ats_num.specs.declared.wire.TheConstants.{MAX_WIRE_BITS}
use Rattle.ats_conform.specs.declared.meter.Metered.{Metered}
use Rattle.ats_conform.specs.Metering.{metered}
use Rattle.ats_conform.specs.MeterInside.{IsWorst}
use Rattle.ats_conform.proofs.Taken.{earlier, earlier_if, worst-push}
use Rattle.ats_conform.proofs.Found.{named, conform-on, named-breaks}
use Rattle.ats_conform.proofs.meter.Meter.take.Goals as goal

pub worst-worst-requires-clause-time : goal.worst-worst-requires-clause-time
worst-worst-requires-clause-time c =
    let s = c.self.inside in
    let order = rw (← c.self.view_is) at c.requires.order in
    earlier_if s.rate s.taken.items s.worst c.args.at.0 c.self.invariant.worst order

pub overflow_add-sent : goal.overflow_add-sent
overflow_add-sent c =
    let s = c.self.inside in
    let few = rw (← c.self.view_is) at c.requires.few in
    let most : sum_by (λ (m : Metered). m.bits) s.taken.items ≤ length s.taken.items * MAX_WIRE_BITS =
    sum_by-le (λ (m : Metered). m.bits) MAX_WIRE_BITS s.taken.items c.self.invariant.small in
    omega arith

pub is_over-requires-clause-time : goal.is_over-requires-clause-time
is_over-requires-clause-time c =
    let s = c.self.inside in
    let order = rw (← c.self.view_is) at c.requires.order in
    let w = worst-push s.rate s.taken.items s.worst c.args.frame c.args.at.0 c.args.bits s.sent
    c.self.invariant.worst order c.self.invariant.sent in
    rw c.worst-worst.ensures
    (earlier s.rate (s.taken.items ++ metered c.args.frame c.args.at.0 c.args.bits ∷ []) _ c.args.at.0 w
    (All-push (λ (m : Metered). m.at.0 ≤ c.args.at.0) s.taken.items (metered c.args.frame c.args.at.0 c.args.bits)
    order (omega arith)))

pub returns-then-is_over-clause-named : goal.returns-then-is_over-clause-named
returns-then-is_over-clause-named c =
    let s = c.self.inside in
    let order = rw (← c.self.view_is) at c.requires.order in
    let x : Metered = metered c.args.frame c.args.at.0 c.args.bits in
    let w : IsWorst s.rate (s.taken.items ++ x ∷ []) c.worst-worst.result =
    rw c.worst-worst.ensures
    (worst-push s.rate s.taken.items s.worst c.args.frame c.args.at.0 c.args.bits s.sent c.self.invariant.worst order
    c.self.invariant.sent) in
    rw (← c.self.view_is)
    (named s.rate s.burst_bits s.taken.items x s.sent c.worst-worst.result c.self.invariant.conforms order
    c.self.invariant.sent w (sym c.is_over.ensures ∙ c.if-is_over.true))

pub returns-then-is_over-clause-none : goal.returns-then-is_over-clause-none
returns-then-is_over-clause-none c =
    let s = c.self.inside in
    let order = rw (← c.self.view_is) at c.requires.order in
    let x : Metered = metered c.args.frame c.args.at.0 c.args.bits in
    let w : IsWorst s.rate (s.taken.items ++ x ∷ []) c.worst-worst.result =
    rw c.worst-worst.ensures
    (worst-push s.rate s.taken.items s.worst c.args.frame c.args.at.0 c.args.bits s.sent c.self.invariant.worst order
    c.self.invariant.sent) in
    let breaks = named-breaks s.rate s.burst_bits s.taken.items x _
    (named s.rate s.burst_bits s.taken.items x s.sent c.worst-worst.result c.self.invariant.conforms order
    c.self.invariant.sent w (sym c.is_over.ensures ∙ c.if-is_over.true)) in
    rw (← c.self.view_is) ((λ e. absurd (true≢false e)), (λ conforms. absurd (breaks conforms)))

pub returns-clause-none : goal.returns-clause-none
returns-clause-none c =
    let s = c.self.inside in
    let order = rw (← c.self.view_is) at c.requires.order in
    let x : Metered = metered c.args.frame c.args.at.0 c.args.bits in
    let w : IsWorst s.rate (s.taken.items ++ x ∷ []) c.worst-worst.result =
    rw c.worst-worst.ensures
    (worst-push s.rate s.taken.items s.worst c.args.frame c.args.at.0 c.args.bits s.sent c.self.invariant.worst order
    c.self.invariant.sent) in
    let conforms = conform-on s.rate s.burst_bits s.taken.items x s.sent c.worst-worst.result
    c.self.invariant.conforms order c.self.invariant.sent w (sym c.is_over.ensures ∙ c.if-is_over.false) in
    rw (← c.self.view_is) ((λ e. conforms), (λ h. refl))

pub invariant_of-self : goal.invariant_of-self
invariant_of-self c =
    let s = c.self.inside in
    let x : Metered = metered c.args.frame c.args.at.0 c.args.bits in
    let pushed : c.and-self-inside.result.items ≡ s.taken.items ++ x ∷ [] = c.and-self-inside.ensures in
    let order = rw (← c.self.view_is) at c.requires.order in
    let w : IsWorst s.rate (s.taken.items ++ x ∷ []) c.worst-worst.result =
    rw c.worst-worst.ensures
    (worst-push s.rate s.taken.items s.worst c.args.frame c.args.at.0 c.args.bits s.sent c.self.invariant.worst order
    c.self.invariant.sent) in
    let conforms = conform-on s.rate s.burst_bits s.taken.items x s.sent c.worst-worst.result
    c.self.invariant.conforms order c.self.invariant.sent w (sym c.is_over.ensures ∙ c.if-is_over.false) in
    rw pushed
    record {
      small = All-push (λ (m : Metered). m.bits ≤ MAX_WIRE_BITS) s.taken.items x c.self.invariant.small
          c.requires.in_frame;
      conforms = conforms;
      sent = sum_by_push (λ (m : Metered). m.bits) s.taken.items x
          ∙ ap (λ (n : ℕ). n + c.args.bits) c.self.invariant.sent;
      worst = w;
    }
