use Rattle.std.proofs.Common.{◌≡◌, ℕ, Bool, not, ◌||◌, List, length, get_or, set, Option, Some, None, sym, ap, ◌∙◌}
use Rattle.std.proofs.Common.{arith, length-set}
use Rattle.std.specs.Borrow.{Bor}
use Rattle.std.specs.Option.{option_or}
use Rattle.std.specs.String.{string_bytes}
use Rattle.toml.specs.View.{view, members_view}
use Rattle.toml.specs.declared.value.Value.{Value}
use Rattle.ats_network_table.specs.Walk.{has_unknown}
use Rattle.ats_network_table.specs.Slots.{Entries, all_keys}
use Rattle.ats_network_table.proofs.Places.{named, has_so_far, at_its_slot, no_slot}
use Rattle.ats_network_table.proofs.Others.{named_on, unnamed_on}
use Rattle.ats_network_table.proofs.slots.Slots.of.Goals as goal

pub at-requires : goal.at-requires
at-requires c =
    omega (
      arith,
      c.in-Some-slot_named.ensures.within,
      ap (λ (vs : List (Option (Bor Value))). length vs) c.as_slice.ensures,
      c.members.invariant.2,
    )

pub members-preserved-in-Some-slot_named : goal.members-preserved-in-Some-slot_named
members-preserved-in-Some-slot_named c =
    let values : List (Option (Bor Value)) = c.members.values in
    let slot : ℕ = c.in-Some-slot_named.slot in
    let text : List ℕ = string_bytes c.in-Some.text.now in
    let is : named text ≡ Some slot =
    ap named (sym c.as_str.ensures.value) ∙ sym c.slot_named.ensures.place ∙ c.in-Some-slot_named.is in
    let put : c.or.result ≡ option_or (get_or values slot None) (Some c.in-Some.value) =
    c.or.ensures ∙ ap (λ (o : Option (Bor Value)). option_or o (Some c.in-Some.value))
    (c.at.ensures ∙ ap (λ (vs : List (Option (Bor Value))). get_or vs slot None) c.as_slice.ensures) in (
      tt,
      tt,
      length-set values slot c.or.result ∙ c.members.invariant.2,
      λ k. ap (λ (o : Option (Bor Value)). has_so_far (set values slot o) (members_view c.next.new.self) k) put
          ∙ at_its_slot values text c.in-Some.value (members_view c.next.new.self) slot k c.members.invariant.2 is
          ∙ ap (λ (es : Entries). has_so_far values (members_view es) k) (sym c.in-Some.ensures.steps)
          ∙ c.members.invariant.3 k,
      ap (λ (b : Bool). not c.members.all_named || b)
          (sym (named_on text (view c.in-Some.value.now) (members_view c.next.new.self) slot is)
          ∙ ap (λ (es : Entries). has_unknown all_keys (members_view es)) (sym c.in-Some.ensures.steps))
          ∙ c.members.invariant.4,
    )

pub members-preserved : goal.members-preserved
members-preserved c =
    let values : List (Option (Bor Value)) = c.members.values in
    let text : List ℕ = string_bytes c.in-Some.text.now in
    let is : named text ≡ None =
    ap named (sym c.as_str.ensures.value) ∙ sym c.slot_named.ensures.place ∙ c.in-None-slot_named.is in (
      tt,
      tt,
      c.members.invariant.2,
      λ k. no_slot values text _ (members_view c.next.new.self) k is
          ∙ ap (λ (es : Entries). has_so_far values (members_view es) k) (sym c.in-Some.ensures.steps)
          ∙ c.members.invariant.3 k,
      sym (unnamed_on text (view c.in-Some.value.now) (members_view c.next.new.self) (not c.members.all_named) is)
          ∙ ap (λ (es : Entries). not c.members.all_named || has_unknown all_keys (members_view es))
          (sym c.in-Some.ensures.steps)
          ∙ c.members.invariant.4,
    )
