use Rattle.std.proofs.Common.{◌≡◌, ◌<◌, ◌+◌, ◌*◌, drop}
use Rattle.std.specs.Prelude.{fold, ◌%◌}
use Rattle.ats_network_file.specs.declared.kept_steps.TheConstants.{PLACES}
use Rattle.ats_network_file.proofs.kept_steps.step_place.Given as goal

-- the bytes left make of the place what all bytes make of the first
abbrev pub invariant-loop-byte : goal.invariant-loop-byte
invariant-loop-byte l = record {
  within : l.place < PLACES;
  onward : fold (λ place byte. (place * 37 + byte) % PLACES) l.place (drop l.byte-index l.bytes)
      ≡ fold (λ place byte. (place * 37 + byte) % PLACES) l.initial.place l.bytes;
}
