use Rattle.std.proofs.Common.{◌≡◌, ◌∙◌, ℕ, ◌<◌, ◌≤◌, true, false, List, Option, Some, None, Result, Err, ap, arith}
use Rattle.std.proofs.Common.{refl}
use Rattle.std.specs.Prelude.{length, nat_lt}
use Rattle.std.specs.Option.{option_or}
use Rattle.std.proofs.lemmas.Bool.Decides.{nat_tests}
use Rattle.ats_num.specs.Failure.{◌>>=◌}
use Rattle.ats_pcap.specs.Capture.{first_fault, header_fault, is_whole, link_fault, magic_fault, position_of}
use Rattle.ats_pcap.specs.Capture.{version_fault, without}
use Rattle.ats_pcap.specs.declared.fault.CaptureFault.{CaptureFault}
use Rattle.ats_capture.specs.Reading.{of_file, records_in}
use Rattle.ats_capture.specs.declared.fault.RecordsFault.TheVariants.{TooLong}
use Rattle.ats_plain_file_law.specs.Positions.{CaptureFilesAreRead, EndsAreRead, PositionsAreRead, ReadingGoesOn}
use Rattle.ats_plain_file_law.proofs.CaptureProofs.{where_false, where_true}

-- Where the bytes of a capture end.

-- the first of two faults is one or the other
is_either : (first next : Option CaptureFault) → first_fault first next ≡ option_or first next
is_either None next = refl
is_either (Some fault) next = refl

-- what is due where a fault stands against it, and where none does
refused : {A : Type 0} (found : Option CaptureFault) (fault : CaptureFault) (due : Result A CaptureFault)
    → found ≡ Some fault → without found due ≡ Err fault
refused found fault due is = ap (λ it. without it due) is

passed : {A : Type 0} (found : Option CaptureFault) (due : Result A CaptureFault) → found ≡ None
    → without found due ≡ due
passed found due is = ap (λ it. without it due) is

goes_on : ReadingGoesOn
unfolding header_fault
goes_on = record {
  header = λ bytes. is_either (magic_fault bytes) (first_fault (version_fault bytes) (link_fault bytes))
      ∙ ap (option_or (magic_fault bytes)) (is_either (version_fault bytes) (link_fault bytes));
  enough = λ form reach. refl;
  broken = λ turns form reach fault is. refused _ fault _ is;
  open_end = λ turns form reach is cut. passed _ _ is
      ∙ where_false (is_whole form (length reach.rest) reach.rest) _ _ cut;
  further = λ turns form reach is whole. passed _ _ is
      ∙ where_true (is_whole form (length reach.rest) reach.rest) _ _ whole;
}

ends : EndsAreRead
unfolding position_of
ends = record {
  faulty = λ bytes fault is. refused _ fault _ is;
  faultless = λ bytes is. passed _ _ is;
}

-- a file of so many bytes is short, or long
is_short : (bytes : List ℕ) → length bytes ≤ 268435456 → nat_lt 268435456 (length bytes) ≡ false
is_short bytes within = grind (arith, nat_tests, within)

is_long : (bytes : List ℕ) → 268435456 < length bytes → nat_lt 268435456 (length bytes) ≡ true
is_long bytes over = grind (arith, nat_tests, over)

files : CaptureFilesAreRead
unfolding records_in
files = record {
  read = λ bytes records within is. where_false (nat_lt 268435456 (length bytes)) _ _ (is_short bytes within)
      ∙ ap (λ it. of_file it) is;
  refused = λ bytes fault within is. where_false (nat_lt 268435456 (length bytes)) _ _ (is_short bytes within)
      ∙ ap (λ it. of_file it) is;
  long = λ bytes end over is. where_true (nat_lt 268435456 (length bytes)) _ _ (is_long bytes over)
      ∙ ap (λ it. of_file it >>= (λ _. Err TooLong)) is;
  long_refused = λ bytes fault over is. where_true (nat_lt 268435456 (length bytes)) _ _ (is_long bytes over)
      ∙ ap (λ it. of_file it >>= (λ _. Err TooLong)) is;
}

pub positions_are_read : PositionsAreRead
positions_are_read = record { goes_on = goes_on; ends = ends; files = files }
