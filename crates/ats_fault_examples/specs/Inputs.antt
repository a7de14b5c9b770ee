use Rattle.std.specs.Prelude.{◌≡◌, ℕ, List, [], ◌∷◌, ◌++◌, codes, Some, None, Ok, Err}
use Rattle.ats_network.specs.Network.{DeclaredNetwork, declared_network}
use Rattle.ats_streams.specs.Stream.{declared_stream}
use Rattle.ats_command_input.specs.Answer.{Answer}
use Rattle.ats_command_input.specs.Input.{network_in, records_in, releases_in, requests_in, rows_in, shape_in}
use Rattle.ats_command_input.specs.Input.{traffic_in}
use Rattle.ats_command_input.specs.declared.status.Status.TheVariants.{Input, Refused}
use Rattle.ats_command_due.specs.Generated.{made_for}
use Rattle.ats_gen.specs.Made.{gen_fault}
use Rattle.ats_gen.specs.declared.fault.GenFault.TheVariants.{NoStream, Limit}
use Rattle.ats_text_examples.specs.Captured.{low_header}
use Rattle.ats_text_examples.specs.Worked.{way}

-- What is printed where a file has a fault, one of each kind of file, and where no releases are made.

-- a line with the status of a fault of a file, and with that of a refusal
abbrev pub told : List ℕ → Answer
told line = record { status = Input; text = line }

abbrev pub refused : List ℕ → Answer
refused line = record { status = Refused; text = line }

-- the worked network with one stream alone, of this rate, burst and longest frame, which has an address and a VLAN
abbrev pub one_stream : ℕ → ℕ → ℕ → DeclaredNetwork
one_stream rate burst most = declared_network way.topology
    (declared_stream (codes "t") (0 ∷ 2 ∷ 4 ∷ []) (6 ∷ 5 ∷ 4 ∷ []) rate burst most most 900000
    (Some (0x0A0B0C0D0E0F, 0x2C3)) ∷ []) []

-- a record of a capture with these seconds, of a frame with this address and VLAN
abbrev pub record_at : List ℕ → List ℕ
record_at seconds =
    seconds ++ 0 ∷ 0 ∷ 0 ∷ 0 ∷ 18 ∷ 0 ∷ 0 ∷ 0 ∷ 60 ∷ 0 ∷ 0 ∷ 0
    ∷ 0x0A ∷ 0x0B ∷ 0x0C ∷ 0x0D ∷ 0x0E ∷ 0x0F ∷ 0x1A ∷ 0x1B ∷ 0x1C ∷ 0x1D ∷ 0x1E ∷ 0x1F
    ∷ 0x81 ∷ 0x00 ∷ 0xB2 ∷ 0xC3 ∷ 0x08 ∷ 0x00 ∷ []

-- two of them: at 1 s, and at 100,002 s, which is 100,001 s later
abbrev pub far_apart : List ℕ
far_apart = low_header ++ record_at (0x01 ∷ 0x00 ∷ 0x00 ∷ 0x00 ∷ []) ++ record_at (0xA2 ∷ 0x86 ∷ 0x01 ∷ 0x00 ∷ [])

-- the file by its name, and its first fault in its words
pub record InputsAreWritten : Type 0 where
  pub shape : shape_in (codes "a.txt") (codes "residence 20000\nframe 1001 a 880\n")
      ≡ Err (told (codes "input a.txt unknown-name 2\n"))
  pub network : network_in (codes "b/n.toml") (0xFF ∷ []) ≡ Err (told (codes "input b/n.toml not-toml\n"))
  pub certificate : rows_in way.topology (codes "c.csv") (codes "port,class\n")
      ≡ Err (told (codes "input c.csv bad-row 1\n"))
  pub schedule : releases_in way (codes "d.csv") (codes "at_ps,sender,octets\n1001,u,64\n2002,w,64\n")
      ≡ Err (told (codes "input d.csv unknown-name 3\n"))
  pub requests : requests_in way (codes "e.txt") (codes "withdraw w\n\nwithdraw\n")
      ≡ Err (told (codes "input e.txt bad-line 3\n"))
  pub capture : records_in (codes "f.pcap") (low_header ++ 0x04 ∷ []) ≡ Err (told (codes "input f.pcap cut-short 1\n"))
  pub traffic : traffic_in (one_stream 1000 672 64) 0 (codes "g.pcap") far_apart
      ≡ Err (told (codes "input g.pcap limit 2\n"))

-- why no releases are made: there is no stream, or a frame of 2000 octets takes 16,160 s at 1 bit per second, so that
-- the seventh is released at 96,960 s and the eighth over 100,000 s
pub record MakingIsRefused : Type 0 where
  pub no_stream : gen_fault (declared_network way.topology [] way.flows) 7 1 ≡ Some NoStream
  pub over : gen_fault (one_stream 1 16160 2000) 7 8 ≡ Some Limit
  pub within : gen_fault (one_stream 1 16160 2000) 7 7 ≡ None
  pub no_stream_told : made_for 7 1 (declared_network way.topology [] way.flows)
      ≡ Err (refused (codes "refused no-stream\n"))
  pub over_told : made_for 7 8 (one_stream 1 16160 2000) ≡ Err (refused (codes "refused limit\n"))
  pub made : made_for 7 7 (one_stream 1 16160 2000) ≡ Ok (one_stream 1 16160 2000)
