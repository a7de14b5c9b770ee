use Rattle.std.specs.Prelude.{◌≡◌, ℕ, List, [], ◌∷◌, ◌++◌, codes, Option, Some, None}
use Rattle.std.specs.declared.cmp.Ordering.TheVariants.{Less}
use Rattle.ats_settings.specs.Settings.{AreSettings, place_cmp}
use Rattle.ats_settings.specs.declared.setting.Setting.{Setting}
use Rattle.ats_settings.specs.declared.setting.Shaping.{Shaping}
use Rattle.ats_buffer.specs.Buffer.{buffers_of}
use Rattle.ats_settings_text.specs.Text.{settings_text}
use Rattle.ats_buffer_text.specs.Text.{buffers_text}
use Rattle.ats_text_examples.specs.Worked.{way, wide}
use Rattle.ats_text_examples.specs.Ports.{wide_rows}

-- Settings and buffers over the worked network, and what is printed of them.

-- a stream's, with numbers that are all different, and a flow's
abbrev pub told : List Setting
told =
    record {
      bridge = 2;
      received_from = 0;
      class = 6;
      sender = 0;
      scheduler = Some (record { rate_bps = 11; burst_bits = 12; residence_ns = 14 });
      max_octets = 13;
      sent_to = 2;
      class_there = 5;
    } ∷ record {
      bridge = 3;
      received_from = 2;
      class = 0;
      sender = 2;
      scheduler = None;
      max_octets = 1522;
      sent_to = 4;
      class_there = 0;
    } ∷ []

abbrev pub told_text : List ℕ
told_text =
    codes "bridge,received_from,class,stream,rate_bps,burst_bits,max_octets,residence_ns,sent_to,class_there\n"
    ++ codes "b1,s1>b1,6,u,11,12,13,14,b1>b2,5\n"
    ++ codes "b2,b1>b2,0,f,,,1522,,b2>s2,0\n"

abbrev pub bits : List ℕ
bits = 21 ∷ 22 ∷ 23 ∷ 24 ∷ 25 ∷ []

abbrev pub most : List ℕ
most = 11 ∷ 12 ∷ 13 ∷ 14 ∷ 15 ∷ []

abbrev pub buffered : List ℕ
buffered =
    codes "buffer s1>b1 5 21\n" ++ codes "buffer s1>b1 6 22\n" ++ codes "buffer b1>b2 5 23\n"
    ++ codes "buffer b2>s2 4 24\n" ++ codes "buffer b2>s2 5 25\n" ++ codes "rows 5\n"

abbrev pub peaked : List ℕ
peaked =
    codes "buffer s1>b1 5 21 peak 11\n" ++ codes "buffer s1>b1 6 22 peak 12\n" ++ codes "buffer b1>b2 5 23 peak 13\n"
    ++ codes "buffer b2>s2 4 24 peak 14\n" ++ codes "buffer b2>s2 5 25 peak 15\n" ++ codes "rows 5\n"

-- a setting at the first bridge, from `s1>b1` to `b1>b2`, and one at the second, from there to `b2>s2`
abbrev pub at_first : ℕ → ℕ → Option Shaping → ℕ → ℕ → Setting
at_first sender class scheduler most class_there = record {
  bridge = 2;
  received_from = 0;
  class = class;
  sender = sender;
  scheduler = scheduler;
  max_octets = most;
  sent_to = 2;
  class_there = class_there;
}

abbrev pub at_second : ℕ → ℕ → Option Shaping → ℕ → ℕ → Setting
at_second sender class scheduler most class_there = record {
  bridge = 3;
  received_from = 2;
  class = class;
  sender = sender;
  scheduler = scheduler;
  max_octets = most;
  sent_to = 4;
  class_there = class_there;
}

-- a stream's rate and burst, and the residence of its group
abbrev pub shaped : ℕ → ℕ → ℕ → Option Shaping
shaped rate burst residence = Some (record { rate_bps = rate; burst_bits = burst; residence_ns = residence })

-- what is to be set in the bridges of the worked network: at each the flow, and then the streams by their classes there
abbrev pub way_settings : List Setting
way_settings =
    at_first 2 0 None 1400 0 ∷ at_first 1 5 (shaped 30000000 10003 30000) 1200 5
    ∷ at_first 0 6 (shaped 20000000 9001 30000) 1000 5
    ∷ at_second 2 0 None 1400 0 ∷ at_second 0 5 (shaped 20000000 9001 20000) 1000 4
    ∷ at_second 1 5 (shaped 30000000 10003 20000) 1200 5 ∷ []

-- the settings of the worked network, and the buffers of its rows; and what is printed to `settings`, and to `buffers`
-- with a certificate and with a run
pub record SettingsAreWritten : Type 0 where
  pub are : AreSettings way way_settings
  pub by_bridge : place_cmp (2, 5, 7) (3, 4, 6) ≡ Less
  pub by_port : place_cmp (2, 4, 7) (2, 5, 6) ≡ Less
  pub worked : buffers_of wide wide_rows ≡ 10931 ∷ 9408 ∷ 20944 ∷ 17862 ∷ 16777 ∷ []
  pub settings : settings_text way told ≡ told_text
  pub none : settings_text way []
      ≡ codes "bridge,received_from,class,stream,rate_bps,burst_bits,max_octets,residence_ns,sent_to,class_there\n"
  pub buffers : buffers_text way.topology wide_rows bits None ≡ buffered
  pub peaks : buffers_text way.topology wide_rows bits (Some most) ≡ peaked
