use Rattle.std.proofs.Common.{zero, suc, ◌+◌, ◌≤◌, arith, lit<, lit≤}
use Rattle.ats_network.specs.Senders.{sender_at}
use Rattle.ats_soundness_law.specs.Sound.{IsContained, IsServed}
use Rattle.ats_examples.specs.Networks.{over_two_ranged}
use Rattle.ats_examples.specs.Rows.{two_rows}
use Rattle.ats_order_examples.specs.Prompt.{EarlyIsPrompt, PromptIsByEachBound, PromptIsMeant, ServedIsMeant}
use Rattle.ats_order_examples.specs.Prompt.{early_until}

-- How soon a frame comes to each port: by the words themselves, and of one frame by computation.

prompt : PromptIsMeant
prompt = record {
  listener = λ bound limit at. (λ h. h, λ h. h);
  port = λ bound limit p path arrival e sent hops ending. (λ h. h, λ h. h);
  discarded = λ bound limit h. h;
  late = λ bound limit p path arrival e sent hops ending h. h;
  size = λ bound limit p path arrival sent hops ending h. h;
  more = λ bound limit hop hops ending h. h;
  less = λ bound limit p path ending h. h;
}

served : ServedIsMeant
served = record {
  served = λ rows sender release route way. (
    λ is. (is.prompt, is.arrives),
    λ h. record { prompt = h.0; arrives = h.1 },
  );
  contained = λ rows sender p q path first arrival e sent hops ending. (λ h. h, λ h. h);
}

-- there is one listener
last : IsServed two_rows (sender_at over_two_ranged 0) (early_until 26072000 38908000)
last zero h = record { prompt = (lit≤ tt, (lit≤ tt, (lit≤ tt, lit≤ tt))); arrives = lit≤ tt }
last (suc n) h = absurd (omega arith)

last_late : ¬ IsServed two_rows (sender_at over_two_ranged 0) (early_until 26072000 38908001)
last_late served =
    let late : 38908001 ≤ 26072000 + 12836000 = (served 0 (lit< tt)).prompt.1.1.1 in
    absurd (omega arith)

last_contained : IsContained two_rows (sender_at over_two_ranged 0) (early_until 26072000 38908000)
last_contained zero h = (lit≤ tt, lit≤ tt)
last_contained (suc n) h = absurd (omega arith)

last_not_contained : ¬ IsContained two_rows (sender_at over_two_ranged 0) (early_until 26072000 38908001)
last_not_contained contained =
    let late : 38908001 ≤ 26072000 + 12836000 = (contained 0 (lit< tt)).1 in
    absurd (omega arith)

next_contained : IsContained two_rows (sender_at over_two_ranged 0) (early_until 26872000 39708000)
next_contained zero h = (lit≤ tt, lit≤ tt)
next_contained (suc n) h = absurd (omega arith)

next_not_contained : ¬ IsContained two_rows (sender_at over_two_ranged 0) (early_until 26872001 39708001)
next_not_contained contained =
    let late : 26872001 ≤ 13036000 + 13836000 = (contained 0 (lit< tt)).0 in
    absurd (omega arith)

early : EarlyIsPrompt
early = record {
  last = last;
  last_late = last_late;
  last_contained = last_contained;
  last_not_contained = last_not_contained;
  next_contained = next_contained;
  next_not_contained = next_not_contained;
}

pub prompt_is_by_each_bound : PromptIsByEachBound
prompt_is_by_each_bound = record { prompt = prompt; served = served; early = early }
