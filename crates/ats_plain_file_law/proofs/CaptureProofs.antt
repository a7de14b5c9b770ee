use Rattle.std.proofs.Common.{◌≡◌, ◌∙◌, ℕ, ◌<◌, ◌≤◌, Bool, true, false, Option, Ok, ap, arith, cond, refl}
use Rattle.std.specs.Prelude.{◌+◌, ◌*◌, ◌&&◌, length, nat_le, nat_lt}
use Rattle.std.proofs.lemmas.Bool.Decides.{nat_tests}
use Rattle.ats_num.specs.Failure.{◌>>=◌, ok_where}
use Rattle.ats_capture.specs.Traffic.{ports_with, with_release, with_stream}
use Rattle.ats_capture.specs.declared.fault.JoinFault.TheVariants.{Limit}
use Rattle.ats_plain_file_law.specs.Captures.{CaptureRecordsAreRead, RecordsAreRead}

-- What the records of a capture come to, one by one.

is_long : (octets : ℕ) → 2000 < octets → nat_lt 2000 octets ≡ true
is_long octets over = grind (arith, nat_tests, over)

is_short : (octets : ℕ) → octets ≤ 2000 → nat_lt 2000 octets ≡ false
is_short octets within = grind (arith, nat_tests, within)

-- a test, and then what is made of what passed it
tested : {A B F : Type 0} (passes : Bool) (e : F) (x : A) (f : A → B)
    → (ok_where passes e x >>= λ y. Ok (f y)) ≡ ok_where passes e (f x)
tested true e x f = refl
tested false e x f = refl

-- what stands in either branch of a test
pub where_true : {A : Type 0} (test : Bool) (a b : A) → test ≡ true → cond test a b ≡ a
where_true test a b is = ap (λ (t : Bool). cond t a b) is

pub where_false : {A : Type 0} (test : Bool) (a b : A) → test ≡ false → cond test a b ≡ b
where_false test a b is = ap (λ (t : Bool). cond t a b) is

records : RecordsAreRead
records = record {
  none = λ network station nanos traffic r is.
      ap (λ (stream : Option ℕ). with_stream network nanos traffic r.octets stream) is;
  long = λ network station nanos sender traffic r is over.
      ap (λ (stream : Option ℕ). with_stream network nanos traffic r.octets stream) is
      ∙ where_true (nat_lt 2000 r.octets) _ _ (is_long r.octets over);
  released = λ network station nanos sender traffic r is within.
      ap (λ (stream : Option ℕ). with_stream network nanos traffic r.octets stream) is
      ∙ where_false (nat_lt 2000 r.octets) _ _ (is_short r.octets within)
      ∙ tested (nat_le (nanos * 1000) 100000000000000000 && nat_lt (length traffic.releases) 200000
      && nat_le (ports_with network traffic.releases sender) 3200000) (Limit (traffic.records + 1))
      (record { at = record { 0 = nanos * 1000 }; sender = sender; octets = r.octets }) (with_release traffic);
}

pub capture_records_are_read : CaptureRecordsAreRead
capture_records_are_read = record {
  records = records;
  no_record = refl;
  first = λ r records. refl;
  next = λ network station first latest traffic r records. refl;
  capture = λ fault. refl;
}
