use Rattle.std.proofs.Common.{◌≡◌, Bool, ℕ, List, refl, sym, ◌∙◌, subst}
use Rattle.std.specs.Cmp.{IsStrictWeakOrder, IsTotalOrder}
use Rattle.std.specs.Fmt.{digits}
use Rattle.std.specs.Ordering.{is_lt}
use Rattle.std.proofs.lemmas.Cmp.{nat_cmp_total, on_total, then_total}
use Rattle.std.proofs.lemmas.List.Sorted.{ranks_by}
use Rattle.ats_network.specs.Network.{DeclaredNetwork}
use Rattle.ats_settings.specs.Settings.{AreSettings, hop_settings, place_cmp, place_of}
use Rattle.ats_settings.specs.declared.setting.Setting.{Setting}
use Rattle.ats_settings_law.specs.Laws.{AreOnlySettings}
use Rattle.ats_settings_law.proofs.InOrder.{in_order, keeps-ties, permutes, sorts}
use Rattle.ats_settings_law.proofs.Only.{settings_are_one}
use Rattle.ats_settings_text.specs.Text as settings
use Rattle.ats_settings_text.specs.Text.{settings_text}
use Rattle.ats_tree_examples.specs.Networks.{behind_bridge, from_bridge, split, split_by_class, tree, turned}
use Rattle.ats_tree_examples.proofs.TreeProofs.{split_is}
use Rattle.ats_tree_bound_examples.specs.Settings.{BridgesAreTold, behind_settings, own_settings, settings_by_class}
use Rattle.ats_tree_bound_examples.specs.Settings.{split_set, split_settings, tree_settings, turned_settings}

-- Settings by computation: those of all ports, in order.

places_total : IsTotalOrder place_cmp
places_total = then_total (then_total (on_total (λ (t : ℕ × ℕ × ℕ). t.0) nat_cmp_total)
    (on_total (λ (t : ℕ × ℕ × ℕ). t.1) nat_cmp_total)) (on_total (λ (t : ℕ × ℕ × ℕ). t.2) nat_cmp_total)

abbrev pub before : Setting → Setting → Bool
before s t = is_lt (place_cmp (place_of s) (place_of t))

pub ranks : IsStrictWeakOrder before
ranks = ranks_by places_total place_of

-- a network has no other settings than those in order
pub only : (network : DeclaredNetwork) (told : List Setting) → in_order before ranks (hop_settings network) ≡ told
    → AreOnlySettings network told
only network told is =
    let are : AreSettings network told = subst (AreSettings network) is (record {
      same = permutes before ranks (hop_settings network);
      by_place = sorts before ranks (hop_settings network);
      ties = keeps-ties before ranks (hop_settings network);
    }) in
    let one : AreOnlySettings network (settings_are_one network).0 = (settings_are_one network).1 in
    record { are = are; only = λ others set. one.only others set ∙ sym (one.only told are) }

split_written : settings_text split split_settings ≡ split_set
unfolding digits settings.header
split_written = refl

pub bridges_are_told : BridgesAreTold
bridges_are_told = record {
  rules = split_is;
  over_one = only split split_settings refl;
  by_class = only split_by_class settings_by_class refl;
  over_three = only tree tree_settings refl;
  in_another_order = only turned turned_settings refl;
  of_a_bridge = only from_bridge own_settings refl;
  behind_a_bridge = only behind_bridge behind_settings refl;
  written = split_written;
}
