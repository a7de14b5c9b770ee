-- What holds of the setting at each place holds of each setting.
use Rattle.std.proofs.Common.{◌≡◌, ℕ, zero, suc, ◌+◌, ◌<◌, ◌≤◌, List, [], ◌∷◌, ◌++◌, length, ap, ◌∙◌, sym, refl}
use Rattle.std.proofs.Common.{Bool, true, false, cond, append_assoc, arith, Option, None, subst}
use Rattle.std.specs.Prelude.{is_some, unwrap_or}
use Rattle.std.specs.List.{All, flat_map, range_with_len}
use Rattle.std.proofs.lemmas.List.{flat_map_more, map-id}
use Rattle.std.proofs.lemmas.List.FromFn.{map-range_with_len_more}
use Rattle.std.proofs.lemmas.List.Elements.{All-append, All-cons, All-nil}
use Rattle.std.proofs.lemmas.List.Sorted.{All-permutation}
use Rattle.ats_network.specs.Class.{class_at}
use Rattle.ats_network.specs.Network.{DeclaredNetwork, IsNetwork, senders_of}
use Rattle.ats_network.specs.Senders.{IsSender, sender_at}
use Rattle.ats_network.proofs.SenderLemmas.{sender_keeps}
use Rattle.ats_topology.specs.Port.{no_port, port_at}
use Rattle.ats_topology.specs.Topology.{HasLawfulPorts, IsPort}
use Rattle.ats_topology.proofs.Rules.{ports_are_lawful}
use Rattle.ats_settings.specs.Settings.{AreInOrder, AreSettings, IsSettingOf, LeavesBridge, hop_settings}
use Rattle.ats_settings.specs.Settings.{port_at_place, port_behind}
use Rattle.ats_settings.specs.Settings.{scheduler_behind, sender_settings, setting_at, settings_at}
use Rattle.ats_settings.specs.declared.setting.Setting.{Setting}
use Rattle.ats_settings.specs.declared.setting.Shaping.{Shaping}
use Rattle.ats_settings.proofs.BeforeLemmas.{ComesFrom, HasBefore, has_before}

all_along : (P : Setting → Type 0) (f : ℕ → List Setting) (a n : ℕ) → ((k : ℕ) → a ≤ k → k < a + n → All P (f k))
    → All P (flat_map f (range_with_len a n))
all_along P f a zero each = All-nil P
all_along P f a (suc n) each =
    All-append P (f a) (flat_map f (range_with_len (a + 1) n)) (each a (omega arith) (omega arith))
    (all_along P f (a + 1) n (λ k least below. each k (omega arith) (omega arith)))

-- of the settings in any order
pub each_of_ports : (P : Setting → Type 0) (network : DeclaredNetwork)
    → ((sender place : ℕ) → LeavesBridge network sender place → P (setting_at network sender place))
    → All P (hop_settings network)
each_of_ports P network each = all_along P (sender_settings network) 0 (length (senders_of network))
    (λ sender least exists. all_along P (settings_at network sender) 0 (length (sender_at network sender).ports)
    (λ place first within. by sender place (omega (arith, exists)) (omega (arith, within))
    (is_some (port_behind network sender place)) refl))
  where
    by : (sender place : ℕ) → sender < length (senders_of network) → place < length (sender_at network sender).ports
        → (t : Bool) → is_some (port_behind network sender place) ≡ t
        → All P (cond t (setting_at network sender place ∷ []) [])
    by sender place exists within true e = All-cons P (setting_at network sender place) []
        (each sender place (record { exists = exists; within = within; comes = e })) (All-nil P)
    by sender place exists within false e = All-nil P

-- and of those in order
pub each_setting : (P : Setting → Type 0) (network : DeclaredNetwork) (settings : List Setting)
    → AreSettings network settings
    → ((sender place : ℕ) → LeavesBridge network sender place → P (setting_at network sender place)) → All P settings
each_setting P network settings are each =
    All-permutation P (hop_settings network) settings are.same (each_of_ports P network each)

-- a setting by the port from which frames come to its bridge
abbrev pub setting_from : DeclaredNetwork → ℕ → ℕ → ℕ → Setting
setting_from network sender place received_from =
    record {
      bridge = (port_at network.topology.ports received_from).to;
      received_from = received_from;
      class = class_at (sender_at network sender) received_from;
      sender = sender;
      scheduler = scheduler_behind network sender received_from;
      max_octets = (sender_at network sender).max_octets;
      sent_to = port_at_place network sender place;
      class_there = class_at (sender_at network sender) (port_at_place network sender place);
    }

-- the setting at a place, by the port before
pub setting_is : (network : DeclaredNetwork) (sender place before : ℕ) → ComesFrom network sender place before
    → setting_at network sender place ≡ setting_from network sender place (port_at_place network sender before)
setting_is network sender place before from =
    ap (λ (o : Option ℕ). setting_from network sender place (unwrap_or o 0)) from.is

-- so it is where its parts are given under other names
pub setting_made : (network : DeclaredNetwork) (sender place before : ℕ) → ComesFrom network sender place before
    → (bridge received_from class most sent_to there : ℕ) (scheduler : Option Shaping)
    → received_from ≡ port_at_place network sender before
    → bridge ≡ (port_at network.topology.ports received_from).to
    → class ≡ class_at (sender_at network sender) (port_at_place network sender before)
    → scheduler ≡ scheduler_behind network sender received_from → most ≡ (sender_at network sender).max_octets
    → sent_to ≡ port_at_place network sender place
    → there ≡ class_at (sender_at network sender) (port_at_place network sender place)
    → record {
      bridge = bridge;
      received_from = received_from;
      class = class;
      sender = sender;
      scheduler = scheduler;
      max_octets = most;
      sent_to = sent_to;
      class_there = there;
    } ≡ setting_at network sender place
setting_made network sender place before from bridge received_from class most sent_to there scheduler r b c s m t d =
    rw (b, s, r, c, m, t, d) (sym (setting_is network sender place before from))

-- the numbers in it are of the network
pub setting_within : (network : DeclaredNetwork) → IsNetwork network → (sender place : ℕ)
    → LeavesBridge network sender place → IsSettingOf network (setting_at network sender place)
setting_within network is sender place at =
    let keeps : IsSender network.topology (sender_at network sender) = sender_keeps network sender is at.exists in
    let has : HasBefore network sender place = has_before network sender place is at in
    let from : ℕ = port_at_place network sender has.before in
    let below : from < length network.topology.ports = keeps.ports has.before 0 has.from.within in
    let lawful : HasLawfulPorts network.topology = ports_are_lawful network.topology is.topology in
    let port : IsPort (length network.topology.nodes) (port_at network.topology.ports from) =
    lawful.each from no_port below in
    subst (IsSettingOf network) (sym (setting_is network sender place has.before has.from)) (record {
      bridge = port.between.to;
      received_from = below;
      sender = at.exists;
      sent_to = keeps.ports place 0 at.within;
    })

range_more : (n : ℕ) → range_with_len 0 (n + 1) ≡ range_with_len 0 n ++ n ∷ []
range_more n = sym (map-id (range_with_len 0 (n + 1))) ∙ map-range_with_len_more (λ (k : ℕ). k) 0 n n (omega arith)
    ∙ ap (λ (l : List ℕ). l ++ n ∷ []) (map-id (range_with_len 0 n))

-- the settings of one sender more
pub sender_more : (f : ℕ → List Setting) (n : ℕ) (before after : List Setting)
    → before ≡ flat_map f (range_with_len 0 n) → after ≡ before ++ f n → after ≡ flat_map f (range_with_len 0 (n + 1))
sender_more f n before after so_far more =
    more ∙ ap (λ (l : List Setting). l ++ f n) so_far ∙ flat_map_more f [] (range_with_len 0 n) n
    ∙ sym (ap (flat_map f) (range_more n))

-- and of one port more, behind those of others
pub place_more : (front : List Setting) (f : ℕ → List Setting) (n : ℕ) (before after : List Setting)
    → before ≡ front ++ flat_map f (range_with_len 0 n) → after ≡ before ++ f n
    → after ≡ front ++ flat_map f (range_with_len 0 (n + 1))
place_more front f n before after so_far more =
    more ∙ ap (λ (l : List Setting). l ++ f n) so_far
    ∙ append_assoc front (flat_map f (range_with_len 0 n)) (f n)
    ∙ ap (λ (l : List Setting). front ++ l)
    (sender_more f n (flat_map f (range_with_len 0 n)) (flat_map f (range_with_len 0 n) ++ f n) refl refl)

-- the setting of a place, where there is one
pub one_there : (network : DeclaredNetwork) (sender place : ℕ) (x : Setting) → x ≡ setting_at network sender place
    → is_some (port_behind network sender place) ≡ true → x ∷ [] ≡ settings_at network sender place
one_there network sender place x is comes =
    ap (λ (y : Setting). y ∷ []) is
    ∙ sym (ap (λ (t : Bool). cond t (setting_at network sender place ∷ []) []) comes)

pub none_there : (network : DeclaredNetwork) (sender place : ℕ) → port_behind network sender place ≡ None
    → [] ≡ settings_at network sender place
none_there network sender place none =
    sym (ap (λ (o : Option ℕ). cond (is_some o) (setting_at network sender place ∷ []) []) none)

-- the settings that were made and put in order are of the network
pub each_within : (network : DeclaredNetwork) (n : ℕ) (made settings : List Setting) → IsNetwork network
    → n ≡ length (senders_of network)
    → made ≡ flat_map (sender_settings network) (range_with_len 0 n)
    → AreInOrder made settings → All (IsSettingOf network) settings
each_within network n made settings is all so_far order =
    let whole : made ≡ hop_settings network =
    so_far ∙ ap (λ (k : ℕ). flat_map (sender_settings network) (range_with_len 0 k)) all in
    All-permutation (IsSettingOf network) made settings order.same
    (subst (All (IsSettingOf network)) (sym whole)
    (each_of_ports (IsSettingOf network) network (setting_within network is)))
