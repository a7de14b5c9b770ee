use Rattle.std.proofs.Common.{◌≢◌, Bool, true, false, [], ◌∷◌, refl}
use Rattle.std.specs.Prelude.{IsTrue, ◌&&◌, ◌||◌, codes, if◌then◌else◌}
use Rattle.std.specs.Str.{bytes_eq}
use Rattle.ats_command_input.specs.Command.{Command, Unknown, with_one, with_two, with_three, with_four}
use Rattle.ats_command_input.specs.Command.{lrq_with_one, lrq_with_two}
use Rattle.ats_exact_examples.specs.Only.{CommandsAreTwenty}

-- Words of commands.

-- where the words begin like this they are one of these; else what follows decides
or_else : (b : Bool) (command next : Command) (others : Bool) → (next ≢ Unknown → IsTrue others)
    → (if b then command else next) ≢ Unknown → IsTrue (b && true || others)
or_else true command next others rest h = refl
or_else false command next others rest h = rest h

-- behind one word the other has two forms, or one
two_behind : (b first second : Bool) (one other : Command)
    → (if b then (if first then one else if second then other else Unknown) else Unknown) ≢ Unknown
    → IsTrue (b && (first && true) || (b && (second && true) || false))
two_behind true true second one other h = refl
two_behind true false true one other h = refl
two_behind true false false one other h = absurd (h refl)
two_behind false first second one other h = absurd (h refl)

one_behind : (b first : Bool) (one : Command) → (if b then (if first then one else Unknown) else Unknown) ≢ Unknown
    → IsTrue (b && (first && true) || false)
one_behind true true one h = refl
one_behind true false one h = absurd (h refl)
one_behind false first one h = absurd (h refl)

pub commands_are_twenty : CommandsAreTwenty
unfolding with_one with_two with_three with_four lrq_with_one lrq_with_two
commands_are_twenty [] h = absurd (h refl)
commands_are_twenty (a ∷ []) h = absurd (h refl)
commands_are_twenty (a ∷ b ∷ []) h =
    or_else (bytes_eq a (codes "shape")) _ _ _
    (or_else (bytes_eq a (codes "show")) _ _ _
    (or_else (bytes_eq a (codes "bound")) _ _ _
    (or_else (bytes_eq a (codes "explain")) _ _ _
    (or_else (bytes_eq a (codes "settings")) _ _ _ (λ none. absurd (none refl)))))) h
commands_are_twenty (a ∷ b ∷ c ∷ []) h =
    or_else (bytes_eq a (codes "check")) _ _ _
    (or_else (bytes_eq a (codes "buffers")) _ _ _
    (or_else (bytes_eq a (codes "conform")) _ _ _
    (or_else (bytes_eq a (codes "admit")) _ _ _
    (or_else (bytes_eq a (codes "witness")) _ _ _
    (or_else (bytes_eq a (codes "fit")) _ _ _
    (two_behind (bytes_eq a (codes "lrq")) (bytes_eq b (codes "shape")) (bytes_eq b (codes "bound")) _ _)))))) h
commands_are_twenty (a ∷ b ∷ c ∷ d ∷ []) h =
    or_else (bytes_eq a (codes "replay")) _ _ _
    (or_else (bytes_eq a (codes "generate")) _ _ _
    (or_else (bytes_eq a (codes "releases")) _ _ _
    (one_behind (bytes_eq a (codes "lrq")) (bytes_eq b (codes "check")) _))) h
commands_are_twenty (a ∷ b ∷ c ∷ d ∷ e ∷ []) h =
    or_else (bytes_eq a (codes "capture")) _ _ _
    (or_else (bytes_eq a (codes "buffers")) _ _ _
    (or_else (bytes_eq a (codes "record")) _ _ _ (λ none. absurd (none refl)))) h
commands_are_twenty (a ∷ b ∷ c ∷ d ∷ e ∷ f ∷ rest) h = absurd (h refl)
