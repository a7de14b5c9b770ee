use Rattle.std.proofs.Common.{◌≡◌, length}
use Rattle.ats_admission_users.specs.Lists.{Tells}
use Rattle.ats_admission_users.proofs.port_users.tell.Given as goal

-- the places before this one are told, and there are as many as before
abbrev pub invariant-loop-place : goal.invariant-loop-place
invariant-loop-place l = record {
  many : length l.places.items ≡ length l.initial.places.items;
  told : Tells l.slots l.places.items l.place;
}
