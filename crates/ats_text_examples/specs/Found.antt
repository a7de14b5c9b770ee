use Rattle.std.specs.Prelude.{◌≡◌, ℕ, List, [], ◌∷◌, ◌++◌, codes}
use Rattle.ats_network.specs.Network.{DeclaredNetwork}
use Rattle.ats_witness.specs.Found.{FoundDelays, found_delays}
use Rattle.ats_witness_text.specs.Text.{witness_text}
use Rattle.ats_command_due.specs.Witnessed.{IsWitnessOf, least_sum}
use Rattle.ats_text_examples.specs.Runs.{release}
use Rattle.ats_text_examples.specs.Worked.{way}

-- What is printed of delays over the worked network, whether they are found or not.

-- a delay for each port of the first stream, and releases of it and of the flow
abbrev pub found : FoundDelays
found = found_delays (1101 ∷ 2202 ∷ 1303 ∷ []) 1 (release 11 0 1001 ∷ release 12 2 1402 ∷ [])

abbrev pub found_text : List ℕ
found_text =
    codes "hop s1>b1 1101\n" ++ codes "hop b1>b2 2202\n" ++ codes "hop b2>s2 1303\n"
    ++ codes "release 11 u 1001\n" ++ codes "release 12 f 1402\n"
    ++ codes "witness u delay 2202 bound 3003 gap 801\n"

-- to `witness`, beside a bound; and the law of its answers speaks of such a text
pub record DelaysAreWritten : Type 0 where
  pub witness : witness_text way 0 (found ∷ []) (λ listener. 3003) ≡ found_text
  pub text : (network : DeclaredNetwork) (stream : ℕ) (text : List ℕ) (founds : List FoundDelays)
      → IsWitnessOf network stream text founds
      → text ≡ witness_text network stream founds (least_sum network stream)
