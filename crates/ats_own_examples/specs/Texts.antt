use Rattle.std.specs.Prelude.{◌≡◌, ℕ, List, [], ◌∷◌, ◌++◌, codes, slice_index_or}
use Rattle.std.specs.List.{flat_map}
use Rattle.ats_network.specs.Edits.{no_stream}
use Rattle.ats_settings.specs.declared.setting.Setting.{Setting}
use Rattle.ats_settings_law.specs.Laws.{AreOnlySettings}
use Rattle.ats_settings_text.specs.Text.{settings_text}
use Rattle.ats_network_text.specs.Text.{show_text, stream_lines}
use Rattle.ats_verdict_text.specs.Text.{accepted_text}
use Rattle.ats_explain_text.specs.Text.{explain_text}
use Rattle.ats_witness.specs.Found.{bound_for}
use Rattle.ats_witness_text.specs.Text.{witness_text}
use Rattle.ats_examples.specs.OwnFrames.{own, own_rows}
use Rattle.ats_tree_examples.specs.Networks.{behind_bridge, from_bridge}
use Rattle.ats_tree_bound_examples.specs.Settings.{told_of}
use Rattle.ats_own_examples.specs.Bursts.{found_at_bridge, found_beside, found_first, found_second}
use Rattle.ats_own_examples.specs.Networks.{behind_rows, bridge_rows, ending, local, local_rows}

-- What is printed of networks in which frames begin or end at bridges.

abbrev pub own_shown : List ℕ
own_shown =
    codes "port 0 s1>b1 1000 1500000\n"
    ++ codes "port 1 b1>s1 1000 500000\n"
    ++ codes "port 2 b1>s2 1000 500000\n"
    ++ codes "port 3 s2>b1 1000 1500000\n"
    ++ codes "stream a 6 s1>b1 b1>s2\n"
    ++ codes "stream g 7 b1>s2\n"
    ++ codes "stream h 7 s1>b1\n"
    ++ codes "total ports 4 streams 3 flows 0\n"

abbrev pub local_shown : List ℕ
local_shown =
    codes "port 0 s1>b1 1000 1500000\n"
    ++ codes "port 1 b1>s1 1000 500000\n"
    ++ codes "port 2 b1>s2 1000 500000\n"
    ++ codes "port 3 s2>b1 1000 1500000\n"
    ++ codes "stream a 6 s1>b1 b1>s2\n"
    ++ codes "stream g-0 7 s1>b1\n"
    ++ codes "stream g-1 7 b1>s1\n"
    ++ codes "stream g-2 7 b1>s2\n"
    ++ codes "stream g-3 7 s2>b1\n"
    ++ codes "flow l-0 0 s1>b1\n"
    ++ codes "flow l-1 0 b1>s1\n"
    ++ codes "flow l-2 0 b1>s2\n"
    ++ codes "flow l-3 0 s2>b1\n"
    ++ codes "total ports 4 streams 5 flows 4\n"

-- the lines of streams
abbrev pub bridge_lines : List ℕ
bridge_lines =
    codes "stream a 6 b2>s2\n"
    ++ codes "listener a s3 6 b2>b1 b1>s3\n"
    ++ codes "listener a b3 6 b2>b3\n"

abbrev pub behind_lines : List ℕ
behind_lines =
    codes "stream a 6 b2>s2\n"
    ++ codes "listener a s3 6 b2>b1 b1>s3\n"
    ++ codes "listener a s1 6 b1>s1\n"

-- what `show` prints: the path of a stream or flow begins with the port of its bridge, and ends with the one to it; a
-- further listener is named, a bridge too
pub record PathsAreShown : Type 0 where
  pub of_own : show_text own ≡ own_shown
  pub of_local : show_text local ≡ local_shown
  pub of_bridge : flat_map (stream_lines from_bridge.topology) from_bridge.streams ≡ bridge_lines
  pub of_behind : flat_map (stream_lines behind_bridge.topology) behind_bridge.streams ≡ behind_lines

abbrev pub own_accepted : List ℕ
own_accepted =
    codes "hop a s1>b1 14632607\n"
    ++ codes "hop a b1>s2 13632607\n"
    ++ codes "sum a 28265214\n"
    ++ codes "hop g b1>s2 13508000\n"
    ++ codes "sum g 13508000\n"
    ++ codes "hop h s1>b1 14508000\n"
    ++ codes "sum h 14508000\n"
    ++ codes "accepted 3\n"

abbrev pub bridge_accepted : List ℕ
bridge_accepted =
    codes "hop a b2>s2 12836000\n"
    ++ codes "sum a 12836000\n"
    ++ codes "hop a b2>b1 13836000\n"
    ++ codes "hop a b1>s3 12836000\n"
    ++ codes "sum a s3 26672000\n"
    ++ codes "hop a b2>b3 13836000\n"
    ++ codes "sum a b3 13836000\n"
    ++ codes "accepted 1\n"

abbrev pub behind_accepted : List ℕ
behind_accepted =
    codes "hop a b2>s2 12836000\n"
    ++ codes "sum a 12836000\n"
    ++ codes "hop a b2>b1 13836000\n"
    ++ codes "hop a b1>s3 12836000\n"
    ++ codes "sum a s3 26672000\n"
    ++ codes "hop a b1>s1 12836000\n"
    ++ codes "sum a s1 26672000\n"
    ++ codes "accepted 1\n"

abbrev pub local_accepted : List ℕ
local_accepted =
    codes "hop a s1>b1 17436135\n"
    ++ codes "hop a b1>s2 16436135\n"
    ++ codes "sum a 33872270\n"
    ++ codes "hop g-0 s1>b1 14716000\n"
    ++ codes "sum g-0 14716000\n"
    ++ codes "hop g-1 b1>s1 4100000\n"
    ++ codes "sum g-1 4100000\n"
    ++ codes "hop g-2 b1>s2 13716000\n"
    ++ codes "sum g-2 13716000\n"
    ++ codes "hop g-3 s2>b1 5100000\n"
    ++ codes "sum g-3 5100000\n"
    ++ codes "accepted 5\n"

-- what `check` prints of the certificates: each hop, also the one port of a stream from its bridge, or to it
pub record VerdictsAreWritten : Type 0 where
  pub of_own : accepted_text own own_rows ≡ own_accepted
  pub of_bridge : accepted_text from_bridge bridge_rows ≡ bridge_accepted
  pub of_behind : accepted_text behind_bridge behind_rows ≡ behind_accepted
  pub of_local : accepted_text local local_rows ≡ local_accepted

abbrev pub own_explained : List ℕ
own_explained =
    codes "stream a sum 28265214 deadline 1000000000 slack 971734786\n"
    ++ codes "hop s1>b1 6 lower 0 - bursts 12336000 higher 124607"
    ++ codes " frame 672000 latency 1500000 bound 14632607 stay 12460607 of 1000000000\n"
    ++ codes "hop b1>s2 6 lower 0 - bursts 12336000 higher 124607 frame 672000 latency 500000 bound 13632607\n"
    ++ codes "stream g sum 13508000 deadline 1000000000 slack 986492000\n"
    ++ codes "hop b1>s2 7 lower 12336000 a bursts 0 higher 0 frame 672000 latency 500000 bound 13508000\n"
    ++ codes "stream h sum 14508000 deadline 1000000000 slack 985492000\n"
    ++ codes "hop s1>b1 7 lower 12336000 a bursts 0 higher 0"
    ++ codes " frame 672000 latency 1500000 bound 14508000 stay 12336000 of 1000000000\n"
    ++ codes "port s1>b1 load 110000000000\n"
    ++ codes "port b1>s2 load 110000000000\n"
    ++ codes "total streams 3 late 0 over 0 tightest a slack 971734786\n"

abbrev pub bridge_explained : List ℕ
bridge_explained =
    codes "stream a sum 12836000 deadline 1000000000 slack 987164000\n"
    ++ codes "hop b2>s2 6 lower 0 - bursts 11664000 higher 0 frame 672000 latency 500000 bound 12836000\n"
    ++ codes "listener a s3 sum 26672000 deadline 1000000000 slack 973328000\n"
    ++ codes "hop b2>b1 6 lower 0 - bursts 11664000 higher 0"
    ++ codes " frame 672000 latency 1500000 bound 13836000 stay 11664000 of 1000000000\n"
    ++ codes "hop b1>s3 6 lower 0 - bursts 11664000 higher 0 frame 672000 latency 500000 bound 12836000\n"
    ++ codes "listener a b3 sum 13836000 deadline 1000000000 slack 986164000\n"
    ++ codes "hop b2>b3 6 lower 0 - bursts 11664000 higher 0"
    ++ codes " frame 672000 latency 1500000 bound 13836000 stay 11664000 of 1000000000\n"
    ++ codes "port b2>b1 load 100000000000\n"
    ++ codes "port b2>s2 load 100000000000\n"
    ++ codes "port b1>s3 load 100000000000\n"
    ++ codes "port b2>b3 load 100000000000\n"
    ++ codes "total streams 1 late 0 over 0 tightest a s3 slack 973328000\n"

-- where frames may stay at the bridge just as long as they need, and 1 ns less
abbrev pub ending_explained : List ℕ
ending_explained =
    codes "stream h sum 14508000 deadline 1000000000 slack 985492000\n"
    ++ codes "hop s1>b1 7 lower 12336000 f bursts 0 higher 0"
    ++ codes " frame 672000 latency 1500000 bound 14508000 stay 12336000 of 12336000\n"
    ++ codes "port s1>b1 load 10000000000\n"
    ++ codes "total streams 1 late 0 over 0 tightest h slack 985492000\n"

abbrev pub short_explained : List ℕ
short_explained =
    codes "stream h sum 14508000 deadline 1000000000 slack 985492000\n"
    ++ codes "hop s1>b1 7 lower 12336000 f bursts 0 higher 0"
    ++ codes " frame 672000 latency 1500000 bound 14508000 stay 12336000 of 12335000\n"
    ++ codes "port s1>b1 load 10000000000\n"
    ++ codes "total streams 1 late 0 over 1 tightest h slack 985492000\n"

abbrev pub local_explained : List ℕ
local_explained =
    codes "stream a sum 33872270 deadline 1000000000 slack 966127730\n"
    ++ codes "hop s1>b1 6 lower 2720000 l-0 bursts 12544000 higher 135"
    ++ codes " frame 672000 latency 1500000 bound 17436135 stay 15264135 of 1000000000\n"
    ++ codes "hop b1>s2 6 lower 2720000 l-2 bursts 12544000 higher 135"
    ++ codes " frame 672000 latency 500000 bound 16436135\n"
    ++ codes "stream g-0 sum 14716000 deadline 1000000000000 slack 999985284000\n"
    ++ codes "hop s1>b1 7 lower 12336000 a bursts 208000 higher 0"
    ++ codes " frame 672000 latency 1500000 bound 14716000 stay 12544000 of 1000000000\n"
    ++ codes "stream g-1 sum 4100000 deadline 1000000000000 slack 999995900000\n"
    ++ codes "hop b1>s1 7 lower 2720000 l-1 bursts 208000 higher 0 frame 672000 latency 500000 bound 4100000\n"
    ++ codes "stream g-2 sum 13716000 deadline 1000000000000 slack 999986284000\n"
    ++ codes "hop b1>s2 7 lower 12336000 a bursts 208000 higher 0 frame 672000 latency 500000 bound 13716000\n"
    ++ codes "stream g-3 sum 5100000 deadline 1000000000000 slack 999994900000\n"
    ++ codes "hop s2>b1 7 lower 2720000 l-3 bursts 208000 higher 0"
    ++ codes " frame 672000 latency 1500000 bound 5100000 stay 2928000 of 1000000000\n"
    ++ codes "port s1>b1 load 100008800000\n"
    ++ codes "port b1>s1 load 8800000\n"
    ++ codes "port b1>s2 load 100008800000\n"
    ++ codes "port s2>b1 load 8800000\n"
    ++ codes "total streams 5 late 0 over 0 tightest a slack 966127730\n"

-- what `explain` prints: a hop that leads to a bridge has its stay, also where the route ends there, be it a path or a
-- branch, and where no other frame goes on; and one that leads to a station has none
pub record StaysAreExplained : Type 0 where
  pub of_own : explain_text own ≡ own_explained
  pub of_bridge : explain_text from_bridge ≡ bridge_explained
  pub of_ending : explain_text (ending 12336) ≡ ending_explained
  pub too_short : explain_text (ending 12335) ≡ short_explained
  pub of_local : explain_text local ≡ local_explained

-- what the bridges are told
abbrev pub line_settings : List Setting
line_settings = told_of 0 100000000 1000000 2 0 2 6 ∷ []

abbrev pub bridge_settings : List Setting
bridge_settings = told_of 0 100000000 1000000 5 3 6 6 ∷ []

abbrev pub behind_settings : List Setting
behind_settings = told_of 0 100000000 1000000 5 3 6 6 ∷ told_of 0 100000000 1000000 5 3 1 6 ∷ []

abbrev pub line_set : List ℕ
line_set =
    codes "bridge,received_from,class,stream,rate_bps,burst_bits,max_octets,residence_ns,sent_to,class_there\n"
    ++ codes "b1,s1>b1,6,a,100000000,12336,1522,1000000,b1>s2,6\n"

abbrev pub bridge_set : List ℕ
bridge_set =
    codes "bridge,received_from,class,stream,rate_bps,burst_bits,max_octets,residence_ns,sent_to,class_there\n"
    ++ codes "b1,b2>b1,6,a,100000000,12336,1522,1000000,b1>s3,6\n"

abbrev pub behind_set : List ℕ
behind_set =
    codes "bridge,received_from,class,stream,rate_bps,burst_bits,max_octets,residence_ns,sent_to,class_there\n"
    ++ codes "b1,b2>b1,6,a,100000000,12336,1522,1000000,b1>s3,6\n"
    ++ codes "b1,b2>b1,6,a,100000000,12336,1522,1000000,b1>s1,6\n"

-- bridges are told of frames that come from one port and go on by another: a bridge is told nothing of those that it
-- sends itself, nor of those that end there
pub record OthersAreTold : Type 0 where
  pub of_own : AreOnlySettings own line_settings
  pub of_bridge : AreOnlySettings from_bridge bridge_settings
  pub of_behind : AreOnlySettings behind_bridge behind_settings
  pub of_local : AreOnlySettings local line_settings
  pub own_written : settings_text own line_settings ≡ line_set
  pub bridge_written : settings_text from_bridge bridge_settings ≡ bridge_set
  pub behind_written : settings_text behind_bridge behind_settings ≡ behind_set

abbrev pub local_found : List ℕ
local_found =
    codes "hop b1>s2 13715999\n"
    ++ codes "release 0 a 1522\n"
    ++ codes "release 13836000 l-2 320\n"
    ++ codes "release 13836001 g-2 90\n"
    ++ codes "witness g-2 delay 13715999 bound 13716000 gap 1\n"

abbrev pub bridge_found : List ℕ
bridge_found =
    codes "hop b2>s2 12836000\n"
    ++ codes "release 1 a 1522\n"
    ++ codes "witness a delay 12836000 bound 12836000 gap 0\n"
    ++ codes "listener a s3\n"
    ++ codes "hop b2>b1 26672000\n"
    ++ codes "hop b1>s3 26672000\n"
    ++ codes "release 1 a 1522\n"
    ++ codes "witness a s3 delay 26672000 bound 26672000 gap 0\n"
    ++ codes "listener a b3\n"
    ++ codes "hop b2>b3 13836000\n"
    ++ codes "release 1 a 1522\n"
    ++ codes "witness a b3 delay 13836000 bound 13836000 gap 0\n"

-- what `witness` prints of what is found: of a stream of a bridge by its own port, and for a listener that is a bridge
-- by its name
pub record DelaysAreTold : Type 0 where
  pub of_local : witness_text local 3 (found_beside ∷ [])
      (bound_for local_rows (slice_index_or local.streams 3 no_stream)) ≡ local_found
  pub of_bridge : witness_text from_bridge 0 (found_first ∷ found_second ∷ found_at_bridge ∷ [])
      (bound_for bridge_rows (slice_index_or from_bridge.streams 0 no_stream)) ≡ bridge_found

pub record TextsAreWritten : Type 0 where
  pub shown : PathsAreShown
  pub accepted : VerdictsAreWritten
  pub explained : StaysAreExplained
  pub settings : OthersAreTold
  pub delays : DelaysAreTold
