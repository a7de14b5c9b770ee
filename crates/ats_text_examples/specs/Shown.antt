use Rattle.std.specs.Prelude.{◌≡◌, ℕ, List, ◌++◌, codes}
use Rattle.ats_network_text.specs.Text.{show_text}
use Rattle.ats_explain_text.specs.Text.{explain_text}
use Rattle.ats_verdict_text.specs.Text.{accepted_text}
use Rattle.ats_text_examples.specs.Worked.{way, wide}
use Rattle.ats_text_examples.specs.Ports.{wide_rows}

-- What is printed of the worked network.

abbrev pub shown : List ℕ
shown =
    codes "port 0 s1>b1 1000 1600000 800000\n"
    ++ codes "port 1 b1>s1 1000 100000\n"
    ++ codes "port 2 b1>b2 400 2630000 2330000\n"
    ++ codes "port 3 b2>b1 400 1730000 930000\n"
    ++ codes "port 4 b2>s2 10000 45000\n"
    ++ codes "port 5 s2>b2 10000 2445000 2145000\n"
    ++ codes "stream u 6,5,4 s1>b1 b1>b2 b2>s2\n"
    ++ codes "stream v 5 s1>b1 b1>b2 b2>s2\n"
    ++ codes "flow f 0 s1>b1 b1>b2 b2>s2\n"
    ++ codes "total ports 6 streams 2 flows 1\n"

abbrev pub explained : List ℕ
explained =
    codes "stream u sum 467673029 deadline 900000000 slack 432326971\n"
    ++ codes "hop s1>b1 6 lower 11360000 f bursts 8329000 higher 0 frame 672000 latency 1600000 bound 21961000 "
    ++ codes "stay 20489000 of 30000000\n"
    ++ codes "hop b1>b2 5 lower 4544000 f bursts 7332800 higher 0 frame 268800 latency 2630000 bound 14775600 "
    ++ codes "stay 12176800 of 20000000\n"
    ++ codes "hop b2>s2 4 lower 113600000 f bursts 183320000 higher 127251429 frame 6720000 latency 45000 "
    ++ codes "bound 430936429\n"
    ++ codes "stream v sum 261014682 deadline 200000000 late 61014682\n"
    ++ codes "hop s1>b1 5 lower 11360000 f bursts 18044000 higher 600082 frame 960000 latency 1600000 "
    ++ codes "bound 32564082 stay 30804082 of 30000000\n"
    ++ codes "hop b1>b2 5 lower 4544000 f bursts 7332800 higher 0 frame 268800 latency 2630000 bound 14775600 "
    ++ codes "stay 12176800 of 20000000\n"
    ++ codes "hop b2>s2 5 lower 113600000 f bursts 90430000 higher 0 frame 9600000 latency 45000 bound 213675000\n"
    ++ codes "port s1>b1 load 50000000000\n"
    ++ codes "port b1>b2 load 20000000000\n"
    ++ codes "port b2>s2 load 500000000000\n"
    ++ codes "total streams 2 late 1 over 1 tightest v late 61014682\n"

abbrev pub accepted : List ℕ
accepted =
    codes "hop u s1>b1 21961000\n" ++ codes "hop u b1>b2 14775600\n" ++ codes "hop u b2>s2 430936429\n"
    ++ codes "sum u 467673029\n"
    ++ codes "hop v s1>b1 32564082\n" ++ codes "hop v b1>b2 14775600\n" ++ codes "hop v b2>s2 213675000\n"
    ++ codes "sum v 261014682\n"
    ++ codes "accepted 2\n"

-- to `show` and to `explain`, where one stream is late, and to `check` with rows that hold
pub record NetworksAreWritten : Type 0 where
  pub show : show_text way ≡ shown
  pub explain : explain_text way ≡ explained
  pub check : accepted_text wide wide_rows ≡ accepted
