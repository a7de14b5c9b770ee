use Rattle.std.proofs.Common.{◌≡◌, ℕ, Bool, true, false, refl, ap, arith}
use Rattle.std.specs.Prelude.{nat_le, if◌then◌else◌}
use Rattle.std.proofs.lemmas.Bool.Decides.{nat_tests}
use Rattle.ats_group.specs.declared.verdict.Verdict.{Verdict}
use Rattle.ats_group.specs.declared.verdict.Verdict.TheVariants.{Eligible, Late}
use Rattle.ats_plain_law.specs.Verdicts.{BucketsArePlain, JudgingIsPlain, VerdictsArePlain}

-- When a frame is late, by either regulator, and what a bucket holds.

-- the verdict by whether a time is no later than the latest
abbrev by_test : ℕ → Bool → Verdict
by_test at test = if test then Eligible (record { 0 = at }) else Late (record { 0 = at })

judging : JudgingIsPlain
judging = record {
  in_time = λ latest at within. (let passes : nat_le at latest ≡ true = grind (arith, nat_tests) in
      ap (by_test at) passes);
  late = λ latest at over. (let fails : nat_le at latest ≡ false = grind (arith, nat_tests) in ap (by_test at) fails);
  sizes = λ declared octets. refl;
  on = λ declared residence time empty arrival octets. refl;
  lrq = λ declared residence time last arrival octets. refl;
}

buckets : BucketsArePlain
buckets = record {
  first = λ burst. refl;
  holds = λ empty bits. refl;
  eligible = λ rate empty group arrival bits at. (
    (λ is. (is.arrived, is.after_group, is.bucket, is.least)),
    (λ is. record { arrived = is.0; after_group = is.1; bucket = is.2; least = is.3 }),
  );
  computed = λ rate empty group arrival bits. refl;
  after = λ rate burst empty at bits. refl;
}

pub verdicts_are_plain : VerdictsArePlain
verdicts_are_plain = record {
  judging = judging;
  buckets = buckets;
}
