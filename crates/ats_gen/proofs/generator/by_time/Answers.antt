use Rattle.std.proofs.Common.{ℕ, rules}
use Rattle.std.proofs.lemmas.List.Sorted.{IsNonDecreasingBy-from_sort_by_key, answers_always}
use Rattle.ats_trace.specs.declared.journey.Release.{Release}
use Rattle.ats_gen.proofs.generator.by_time.Goals as goal

pub returns : goal.returns
returns c =
    let time : Release → ℕ = λ r. r.at.0 in
    record {
      same = c.in_ok-sort_by_key.ensures.permutation;
      by_time = IsNonDecreasingBy-from_sort_by_key time _ c.in_ok-sort_by_key.ensures.sorted
          (λ a r q k. search rules);
      ties = c.in_ok-sort_by_key.ensures.stable time (answers_always _ _ _ (λ f a r g h. search rules));
    }
