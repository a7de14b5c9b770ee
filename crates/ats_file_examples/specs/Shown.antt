use Rattle.std.specs.Prelude.{◌≡◌, ℕ, List, ◌++◌, codes}
use Rattle.ats_network_text.specs.Text.{show_text}
use Rattle.ats_explain_text.specs.Text.{explain_text}
use Rattle.ats_verdict_text.specs.Text.{accepted_text}
use Rattle.ats_file_examples.specs.Network.{crowd}
use Rattle.ats_file_examples.specs.Records.{crowd_rows}

-- What is printed of the network with four streams and three flows.

abbrev pub shown : List ℕ
shown =
    codes "port 0 s1>b1 10000 1542000 742000\nport 1 b1>s1 10000 41000\n"
    ++ codes "port 2 s2>b2 1000 1644000 844000\nport 3 b2>s2 1000 42000\n"
    ++ codes "port 4 b3>s3 100 43000\nport 5 s3>b3 100 1746000 946000\n"
    ++ codes "port 6 b1>b2 400 1646000 846000\nport 7 b2>b1 400 1545000 745000\n"
    ++ codes "port 8 b2>b3 200 1748000 948000\nport 9 b3>b2 200 1647000 847000\n"
    ++ codes "port 10 s4>b1 40 1547000 747000\nport 11 b1>s4 40 46000\n"
    ++ codes "stream p 6,5,4,3 s1>b1 b1>b2 b2>b3 b3>s3\nstream q 5 s2>b2 b2>b1 b1>s4\n"
    ++ codes "stream r 3 s3>b3 b3>b2 b2>s2\nstream t 2,4,6,7 s4>b1 b1>b2 b2>b3 b3>s3\n"
    ++ codes "flow f 0 s1>b1 b1>s4\nflow g 0 s3>b3 b3>b2 b2>s2\n"
    ++ codes "flow h 0 s2>b2 b2>b1 b1>s4\ntotal ports 12 streams 4 flows 3\n"

abbrev pub accepted : List ℕ
accepted =
    codes "hop p s1>b1 243232000\nhop p b1>b2 12923200\nhop p b2>b3 9756816\nhop p b3>s3 4045453\n"
    ++ codes "sum p 269957469\nhop q s2>b2 25830000\nhop q b2>b1 11219400\nhop q b1>s4 1013440\n"
    ++ codes "sum q 38062840\nhop r s3>b3 4163900\nhop r b3>b2 6482800\nhop r b2>s2 24221000\n"
    ++ codes "sum r 34867700\nhop t s4>b1 2347160\nhop t b1>b2 17679273\nhop t b2>b3 7382400\n"
    ++ codes "hop t b3>s3 2860200\nsum t 30269033\naccepted 4\n"

-- no stream is late: the tightest has the least slack
abbrev pub explained : List ℕ
explained =
    codes "stream p sum 269957469 deadline 900001000 slack 630043531\n"
    ++ codes "hop s1>b1 6 lower 41680000 f bursts 190330000 higher 0 frame 9680000 latency 1542000 bound "
    ++ codes "243232000 stay 232810000 of 300001000\n"
    ++ codes "hop b1>b2 5 lower 3276800 t bursts 7613200 higher 0 frame 387200 latency 1646000 bound 12923200 "
    ++ codes "stay 11690000 of 300002000\n"
    ++ codes "hop b2>b3 4 lower 0 - bursts 7807400 higher 7816 frame 193600 latency 1748000 bound 9756816 stay "
    ++ codes "8615216 of 300003000\n"
    ++ codes "hop b3>s3 3 lower 0 - bursts 3903700 higher 1953 frame 96800 latency 43000 bound 4045453\n"
    ++ codes "stream q sum 38062840 deadline 1000000000000 slack 999961937160\n"
    ++ codes "hop s2>b2 5 lower 4184000 h bursts 19026000 higher 0 frame 976000 latency 1644000 bound 25830000 "
    ++ codes "stay 24010000 of 300002000\n"
    ++ codes "hop b2>b1 5 lower 1673600 h bursts 7610400 higher 0 frame 390400 latency 1545000 bound 11219400 "
    ++ codes "stay 10084000 of 300001000\n"
    ++ codes "hop b1>s4 5 lower 167360 h bursts 761040 higher 0 frame 39040 latency 46000 bound 1013440\n"
    ++ codes "stream r sum 34867700 deadline 900003000 slack 865135300\n"
    ++ codes "hop s3>b3 3 lower 417600 g bursts 1901900 higher 0 frame 98400 latency 1746000 bound 4163900 stay "
    ++ codes "3119500 of 300003000\n"
    ++ codes "hop b3>b2 3 lower 835200 g bursts 3803800 higher 0 frame 196800 latency 1647000 bound 6482800 stay "
    ++ codes "5439000 of 300002000\n"
    ++ codes "hop b2>s2 3 lower 4176000 g bursts 19019000 higher 0 frame 984000 latency 42000 bound 24221000\n"
    ++ codes "stream t sum 30269033 deadline 900004000 slack 869734967\n"
    ++ codes "hop s4>b1 2 lower 0 - bursts 760480 higher 0 frame 39680 latency 1547000 bound 2347160 stay 1560480 "
    ++ codes "of 300001000\n"
    ++ codes "hop b1>b2 4 lower 0 - bursts 15605200 higher 31273 frame 396800 latency 1646000 bound 17679273 stay "
    ++ codes "16436473 of 300002000\n"
    ++ codes "hop b2>b3 6 lower 1633600 p bursts 3802400 higher 0 frame 198400 latency 1748000 bound 7382400 stay "
    ++ codes "6236000 of 300003000\n"
    ++ codes "hop b3>s3 7 lower 816800 p bursts 1901200 higher 0 frame 99200 latency 43000 bound 2860200\n"
    ++ codes "port s1>b1 load 50000010000\n"
    ++ codes "port s2>b2 load 5000002000\n"
    ++ codes "port b2>s2 load 5000003000\n"
    ++ codes "port b3>s3 load 1000000500\n"
    ++ codes "port s3>b3 load 500000300\n"
    ++ codes "port b1>b2 load 4000002000\n"
    ++ codes "port b2>b1 load 2000000800\n"
    ++ codes "port b2>b3 load 2000001000\n"
    ++ codes "port b3>b2 load 1000000600\n"
    ++ codes "port s4>b1 load 200000160\n"
    ++ codes "port b1>s4 load 200000080\n"
    ++ codes "total streams 4 late 0 over 0 tightest p slack 630043531\n"

-- to `show`, to `check` with its least certificate, and to `explain`
pub record CrowdIsWritten : Type 0 where
  pub show : show_text crowd ≡ shown
  pub check : accepted_text crowd crowd_rows ≡ accepted
  pub explain : explain_text crowd ≡ explained
