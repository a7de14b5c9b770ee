use Rattle.std.proofs.Common.{◌≡◌, ℕ, Bool, refl, subst}
use Rattle.std.specs.Cmp.{IsStrictWeakOrder, IsTotalOrder}
use Rattle.std.specs.Fmt.{digits}
use Rattle.std.specs.Ordering.{is_lt}
use Rattle.std.proofs.lemmas.Cmp.{nat_cmp_total, on_total, then_total}
use Rattle.std.proofs.lemmas.List.Sorted.{ranks_by}
use Rattle.ats_settings.specs.Settings.{AreSettings, hop_settings, place_cmp, place_of}
use Rattle.ats_settings.specs.declared.setting.Setting.{Setting}
use Rattle.ats_settings_law.proofs.InOrder.{in_order, keeps-ties, permutes, sorts}
use Rattle.ats_settings_text.specs.Text.{header}
use Rattle.ats_buffer_text.specs.Text.{buffers_text, row_line}
use Rattle.ats_text_examples.specs.Worked.{way}
use Rattle.ats_text_examples.specs.Set.{SettingsAreWritten, way_settings}

-- The settings of the worked network, and what `settings` and `buffers` print, by computation.

places_total : IsTotalOrder place_cmp
places_total = then_total (then_total (on_total (λ (t : ℕ × ℕ × ℕ). t.0) nat_cmp_total)
    (on_total (λ (t : ℕ × ℕ × ℕ). t.1) nat_cmp_total)) (on_total (λ (t : ℕ × ℕ × ℕ). t.2) nat_cmp_total)

abbrev before : Setting → Setting → Bool
before s t = is_lt (place_cmp (place_of s) (place_of t))

ranks : IsStrictWeakOrder before
ranks = ranks_by places_total place_of

way_is_set : AreSettings way way_settings
way_is_set =
    let is : in_order before ranks (hop_settings way) ≡ way_settings = refl in
    subst (AreSettings way) is (record {
      same = permutes before ranks (hop_settings way);
      by_place = sorts before ranks (hop_settings way);
      ties = keeps-ties before ranks (hop_settings way);
    })

pub settings_are_written : SettingsAreWritten
unfolding digits header buffers_text row_line
settings_are_written = record {
  are = way_is_set;
  by_bridge = refl;
  by_port = refl;
  worked = refl;
  settings = refl;
  none = refl;
  buffers = refl;
  peaks = refl;
}
