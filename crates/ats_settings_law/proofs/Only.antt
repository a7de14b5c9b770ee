-- A network has just one list of settings.
use Rattle.std.proofs.Common.{ℕ, Bool, List}
use Rattle.std.specs.Cmp.{IsStrictWeakOrder, IsTotalOrder}
use Rattle.std.specs.Ordering.{is_lt}
use Rattle.std.proofs.lemmas.Cmp.{nat_cmp_total, on_total, then_total}
use Rattle.std.proofs.lemmas.List.Sorted.{ranks_by}
use Rattle.ats_settings.specs.Settings.{hop_settings, place_cmp, place_of}
use Rattle.ats_settings.specs.declared.setting.Setting.{Setting}
use Rattle.ats_settings_law.specs.Laws.{SettingsAreOne}
use Rattle.ats_settings_law.proofs.InOrder.{in_order, keeps-ties, one-result, permutes, sorts}

places_total : IsTotalOrder place_cmp
places_total = then_total (then_total (on_total (λ (t : ℕ × ℕ × ℕ). t.0) nat_cmp_total)
    (on_total (λ (t : ℕ × ℕ × ℕ). t.1) nat_cmp_total)) (on_total (λ (t : ℕ × ℕ × ℕ). t.2) nat_cmp_total)

ranks : IsStrictWeakOrder (λ (s t : Setting). is_lt (place_cmp (place_of s) (place_of t)))
ranks = ranks_by places_total place_of

pub settings_are_one : SettingsAreOne
settings_are_one network =
    let lt : Setting → Setting → Bool = λ (s t : Setting). is_lt (place_cmp (place_of s) (place_of t)) in
    let hops : List Setting = hop_settings network in
    let order : List Setting = in_order lt ranks hops in (
      order,
      record {
        are = record {
          same = permutes lt ranks hops;
          by_place = sorts lt ranks hops;
          ties = keeps-ties lt ranks hops;
        };
        only = λ others are. one-result lt ranks hops others order are.by_place (sorts lt ranks hops) are.ties
            (keeps-ties lt ranks hops);
      },
    )
