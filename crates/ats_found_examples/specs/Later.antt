use Rattle.std.specs.Prelude.{◌≡◌, ℕ, ◌+◌, [], ◌∷◌, ◌++◌, codes}
use Rattle.ats_trace.specs.declared.journey.Release.{Release}
use Rattle.ats_witness.specs.Found.{found_delays}
use Rattle.ats_witness_text.specs.Text.{found_text, witness_text}
use Rattle.ats_number_examples.specs.Networks.{joined}
use Rattle.ats_tree_examples.specs.Networks.{crossed, tree, turned}
use Rattle.ats_tree_bound_examples.specs.OrderTexts.{backward}

-- What is told of a later stream, and of later listeners.

-- a release at this time of the sender with this number
abbrev pub release : ℕ → ℕ → Release
release at sender = record { at = record { 0 = at }; sender = sender; octets = 1522 }

-- what is found of a stream is told by its own ports and its own name, and each release by the name of its sender
pub record LaterIsTold : Type 0 where
  pub second : witness_text (joined 1000000 1000000) 1
      (found_delays (11 ∷ 22 ∷ []) 1 (release 3 0 ∷ release 4 1 ∷ []) ∷ []) (λ listener. 33)
      ≡ codes "hop s3>b2 11\nhop b2>s2 22\nrelease 3 a 1522\nrelease 4 z 1522\n"
      ++ codes "witness z delay 22 bound 33 gap 11\n"
  pub first : witness_text (joined 1000000 1000000) 0 (found_delays (11 ∷ 22 ∷ 21 ∷ []) 1 [] ∷ []) (λ listener. 33)
      ≡ codes "hop s1>b1 11\nhop b1>b2 22\nhop b2>s2 21\nwitness a delay 22 bound 33 gap 11\n"

-- what is found for a further listener is told by the ports of the route there, the name of its station, and its own
-- bound: over the tree of the third and the fourth listener, whose legs begin at later bridges, and of the second
-- beside the first. Listeners are told leg by leg, whatever the order of their names, nodes and ports; and those of a
-- stream that is not the first by its own name and its own routes
pub record LaterListenersAreTold : Type 0 where
  pub third : found_text tree 0 2 (found_delays (11 ∷ 22 ∷ 33 ∷ 44 ∷ []) 3 (release 5 0 ∷ [])) 55
      ≡ codes "listener a s4\nhop s1>b1 11\nhop b1>b2 22\nhop b2>b3 33\nhop b3>s4 44\nrelease 5 a 1522\n"
      ++ codes "witness a s4 delay 44 bound 55 gap 11\n"
  pub fourth : found_text tree 0 3 (found_delays (11 ∷ 22 ∷ 44 ∷ 33 ∷ []) 2 []) 44
      ≡ codes "listener a s5\nhop s1>b1 11\nhop b1>b2 22\nhop b2>b3 44\nhop b3>s5 33\n"
      ++ codes "witness a s5 delay 44 bound 44 gap 0\n"
  pub beside : witness_text tree 0
      (found_delays (11 ∷ 22 ∷ 33 ∷ []) 2 (release 7 0 ∷ []) ∷ found_delays (15 ∷ 12 ∷ []) 0 [] ∷ [])
      (λ listener. 40 + listener)
      ≡ codes "hop s1>b1 11\nhop b1>b2 22\nhop b2>s2 33\nrelease 7 a 1522\nwitness a delay 33 bound 40 gap 7\n"
      ++ codes "listener a s3\nhop s1>b1 15\nhop b1>s3 12\nwitness a s3 delay 15 bound 41 gap 26\n"
  pub in_another_order : witness_text turned 0
      (found_delays (11 ∷ 12 ∷ []) 1 [] ∷ found_delays (21 ∷ 22 ∷ 23 ∷ []) 2 []
      ∷ found_delays (31 ∷ 32 ∷ 33 ∷ 34 ∷ []) 3 (release 5 0 ∷ []) ∷ found_delays (41 ∷ 42 ∷ 43 ∷ 44 ∷ []) 3 [] ∷ [])
      (λ listener. 50 + listener)
      ≡ codes "hop s1>b1 11\nhop b1>s3 12\nwitness a delay 12 bound 50 gap 38\n"
      ++ codes "listener a s2\nhop s1>b1 21\nhop b1>b2 22\nhop b2>s2 23\nwitness a s2 delay 23 bound 51 gap 28\n"
      ++ codes "listener a s5\nhop s1>b1 31\nhop b1>b2 32\nhop b2>b3 33\nhop b3>s5 34\nrelease 5 a 1522\n"
      ++ codes "witness a s5 delay 34 bound 52 gap 18\n"
      ++ codes "listener a s4\nhop s1>b1 41\nhop b1>b2 42\nhop b2>b3 43\nhop b3>s4 44\n"
      ++ codes "witness a s4 delay 44 bound 53 gap 9\n"
  pub in_backward_order : witness_text backward 0
      (found_delays (11 ∷ 12 ∷ 13 ∷ 14 ∷ []) 3 [] ∷ found_delays (21 ∷ 22 ∷ 23 ∷ 24 ∷ []) 3 []
      ∷ found_delays (31 ∷ 32 ∷ 33 ∷ []) 2 [] ∷ found_delays (41 ∷ 42 ∷ []) 1 (release 5 0 ∷ []) ∷ [])
      (λ listener. 50 + listener)
      ≡ codes "hop s1>b1 11\nhop b1>b2 12\nhop b2>b3 13\nhop b3>s4 14\nwitness a delay 14 bound 50 gap 36\n"
      ++ codes "listener a s5\nhop s1>b1 21\nhop b1>b2 22\nhop b2>b3 23\nhop b3>s5 24\n"
      ++ codes "witness a s5 delay 24 bound 51 gap 27\n"
      ++ codes "listener a s2\nhop s1>b1 31\nhop b1>b2 32\nhop b2>s2 33\nwitness a s2 delay 33 bound 52 gap 19\n"
      ++ codes "listener a s3\nhop s1>b1 41\nhop b1>s3 42\nrelease 5 a 1522\nwitness a s3 delay 42 bound 53 gap 11\n"
  pub of_later : witness_text crossed 1
      (found_delays (11 ∷ 22 ∷ []) 1 [] ∷ found_delays (31 ∷ 42 ∷ []) 1 (release 5 1 ∷ []) ∷ [])
      (λ listener. 50 + listener)
      ≡ codes "hop s3>b1 11\nhop b1>s2 22\nwitness z delay 22 bound 50 gap 28\n"
      ++ codes "listener z s1\nhop s3>b1 31\nhop b1>s1 42\nrelease 5 z 1522\nwitness z s1 delay 42 bound 51 gap 9\n"
