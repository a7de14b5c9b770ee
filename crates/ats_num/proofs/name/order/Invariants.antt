use Rattle.std.proofs.Common.{◌≡◌, ◌*◌, drop, nat_cmp}
use Rattle.std.specs.Cmp.Lexicographic.{slice_cmp}
use Rattle.ats_num.proofs.name.order.Given as goal

-- the words so far are the same
abbrev pub invariant-loop-place : goal.invariant-loop-place
invariant-loop-place l =
    slice_cmp nat_cmp (drop (8 * l.place) l.text) (drop (8 * l.place) l.other) ≡ slice_cmp nat_cmp l.text l.other
