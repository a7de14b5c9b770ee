use Rattle.std.proofs.Common.{◌≡◌, ◌^◌, ◌<◌, true, take}
use Rattle.std.specs.List.{list_all}
use Rattle.std.specs.Char.{is_ascii_digit}
use Rattle.ats_num.specs.Number.{value_of}
use Rattle.ats_num.proofs.numbers.short_number.Given as goal

-- what the digits so far stand for
abbrev pub invariant-loop-c : goal.invariant-loop-c
invariant-loop-c l = record {
  digits : list_all is_ascii_digit (take l.c-index l.text) ≡ true;
  value : l.value ≡ value_of (take l.c-index l.text);
  below : l.value < 10 ^ l.c-index;
}
