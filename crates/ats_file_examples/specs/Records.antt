use Rattle.std.specs.Prelude.{◌≡◌, ℕ, List, [], ◌∷◌, ◌++◌, codes, Ok, Err}
use Rattle.ats_certificate.specs.declared.row.Row.{Row}
use Rattle.ats_certificate_file.specs.Reading.{rows_of}
use Rattle.ats_certificate_file.specs.Text.{certificate_text}
use Rattle.ats_certificate_file.specs.declared.fault.CertFault.TheVariants as row
use Rattle.ats_bound.specs.Least.{least_certificate}
use Rattle.ats_trace.specs.declared.journey.Release.{Release}
use Rattle.ats_schedule.specs.Reading.{releases_of}
use Rattle.ats_schedule.specs.Text.{schedule_text}
use Rattle.ats_schedule.specs.declared.fault.ScheduleFault.TheVariants as wrong
use Rattle.ats_text_examples.specs.Ports.{row_with}
use Rattle.ats_text_examples.specs.Runs.{release}
use Rattle.ats_file_examples.specs.Network.{crowd}

-- A certificate and a schedule of the network, with many records.

abbrev pub rows_text : List ℕ
rows_text =
    codes "port,class,higher,equal,bursts,lower,least,wait,bound\n"
    ++ codes "s1>b1,6,0,50000010000,20001,4168,968,232010000,243232000\n"
    ++ codes "s2>b2,5,0,5000002000,20002,4184,976,23210000,25830000\n"
    ++ codes "b2>s2,3,0,5000003000,20003,4176,984,23195000,24221000\n"
    ++ codes "b3>s3,3,500000400,500000100,40005,0,968,3905653,4045453\n"
    ++ codes "b3>s3,7,0,500000400,20004,8168,992,2718000,2860200\ns3>b3,3,0,500000300,20003,4176,984,2319500,4163900\n"
    ++ codes "b1>b2,4,2000000400,2000001600,40005,0,992,15636473,17679273\n"
    ++ codes "b1>b2,5,0,2000000400,20001,8192,968,10890000,12923200\n"
    ++ codes "b2>b1,5,0,2000000800,20002,4184,976,9284000,11219400\n"
    ++ codes "b2>b3,4,1000000800,1000000200,40005,0,968,7815216,9756816\n"
    ++ codes "b2>b3,6,0,1000000800,20004,8168,992,5436000,7382400\n"
    ++ codes "b3>b2,3,0,1000000600,20003,4176,984,4639000,6482800\ns4>b1,2,0,200000160,20004,0,992,760480,2347160\n"
    ++ codes "b1>s4,5,0,200000080,20002,4184,976,928400,1013440\n"

-- the row of each port and class that a stream uses
abbrev pub crowd_rows : List Row
crowd_rows =
    row_with 0 6 0 50000010000 20001 4168 968 232010000 243232000
    ∷ row_with 2 5 0 5000002000 20002 4184 976 23210000 25830000
    ∷ row_with 3 3 0 5000003000 20003 4176 984 23195000 24221000
    ∷ row_with 4 3 500000400 500000100 40005 0 968 3905653 4045453
    ∷ row_with 4 7 0 500000400 20004 8168 992 2718000 2860200
    ∷ row_with 5 3 0 500000300 20003 4176 984 2319500 4163900
    ∷ row_with 6 4 2000000400 2000001600 40005 0 992 15636473 17679273
    ∷ row_with 6 5 0 2000000400 20001 8192 968 10890000 12923200
    ∷ row_with 7 5 0 2000000800 20002 4184 976 9284000 11219400
    ∷ row_with 8 4 1000000800 1000000200 40005 0 968 7815216 9756816
    ∷ row_with 8 6 0 1000000800 20004 8168 992 5436000 7382400
    ∷ row_with 9 3 0 1000000600 20003 4176 984 4639000 6482800 ∷ row_with 10 2 0 200000160 20004 0 992 760480 2347160
    ∷ row_with 11 5 0 200000080 20002 4184 976 928400 1013440 ∷ []

-- they are read and written so, and are the least certificate. Of a record behind them the number is told: record 16
pub record RowsAreRead : Type 0 where
  pub read : rows_of crowd.topology rows_text ≡ Ok crowd_rows
  pub written : certificate_text crowd.topology crowd_rows ≡ rows_text
  pub least : least_certificate crowd ≡ crowd_rows
  pub back : rows_of crowd.topology (rows_text ++ codes "b1>s4,4,0,0,0,0,0,0,0\n") ≡ Err (row.RowOrder 16)
  pub port : rows_of crowd.topology (rows_text ++ codes "s4>b2,4,0,0,0,0,0,0,0\n") ≡ Err (row.UnknownPort 16)
  pub number : rows_of crowd.topology (rows_text ++ codes "b1>s4,6,0,0,0,0,0,0,-\n") ≡ Err (row.BadNumber 16)

abbrev pub releases_text : List ℕ
releases_text =
    codes "at_ps,sender,octets\n1001,h,401\n2002,q,902\n3003,p,203\n4004,f,304\n5005,t,805\n5005,r,106\n"

abbrev pub releases : List Release
releases =
    release 1001 6 401 ∷ release 2002 1 902 ∷ release 3003 0 203 ∷ release 4004 4 304 ∷ release 5005 3 805
    ∷ release 5005 2 106 ∷ []

-- the same of releases
pub record ReleasesAreRead : Type 0 where
  pub read : releases_of crowd releases_text ≡ Ok releases
  pub written : schedule_text crowd releases ≡ releases_text
  pub back : releases_of crowd (releases_text ++ codes "5004,p,64\n") ≡ Err (wrong.TimeBack 8)
  pub name : releases_of crowd (releases_text ++ codes "5006,s,64\n") ≡ Err (wrong.UnknownName 8)
  pub size : releases_of crowd (releases_text ++ codes "5006,p,63\n") ≡ Err (wrong.BadSize 8)
