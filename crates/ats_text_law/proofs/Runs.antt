-- The text of a run tells the run.
use Rattle.std.proofs.Common.{◌≡◌, ◌∙◌, ℕ, ◌+◌, ◌<◌, List, [], ◌∷◌, ◌++◌, get_or, length, Option, Some, None, refl, sym}
use Rattle.std.proofs.Common.{ap, arith}
use Rattle.std.proofs.Common.{append_assoc, inl, inr, suc, subst}
use Rattle.std.specs.Prelude.{codes, decimal, All, IsTrue}
use Rattle.std.specs.List.{enumerate_from, flat_map}
use Rattle.std.proofs.lemmas.List.{append_cancel_left, get_or-map, length-map}
use Rattle.std.proofs.lemmas.List.Elements.{All-head, All-tail}
use Rattle.ats_num.specs.Name.{is_name}
use Rattle.ats_num.specs.Places.{place_of}
use Rattle.ats_streams.specs.Branches.{leg_at, legs_of, no_branch}
use Rattle.ats_topology.specs.Topology.{DeclaredTopology}
use Rattle.ats_network.specs.Network.{DeclaredNetwork, IsNetwork, names_of, senders_of}
use Rattle.ats_network.specs.Sender.{Sender}
use Rattle.ats_network.specs.Senders.{no_sender, sender_at}
use Rattle.ats_trace.specs.Journey.{IsCopy, IsJourney, IsWay, Leg, Travel, legs_in, no_leg, record_at, trunk_at}
use Rattle.ats_trace.specs.Stored.{leg_in}
use Rattle.ats_trace.specs.Ways.{route_to}
use Rattle.ats_trace.specs.declared.journey.Release.{Release}
use Rattle.ats_trace.specs.HopRecord.{HopRecord}
use Rattle.ats_trace.specs.declared.journey.Ending.{Ending}
use Rattle.ats_trace.proofs.OneVerdict.{copies_many}
use Rattle.ats_route_law.proofs.Leads.{copy_at}
use Rattle.ats_replay.specs.Departures.{copy_text, departures_text, frame_line, journey_text, leg_lines, station_line}
use Rattle.ats_replay.specs.Totals.{counts_text, totals_line, totals_of}
use Rattle.ats_text_law.specs.Short.{HasNames, HasShortTimes, IsShortLeg}
use Rattle.ats_text_law.specs.Laws.{AreTheSame, DeparturesTellAll}
use Rattle.ats_text_law.proofs.Words.{cut, cut_numbers, name_word}
use Rattle.ats_text_law.proofs.Hops.{IsLegOver, cut_legs}

-- senders of one name are one sender
one_sender : (network : DeclaredNetwork) → IsNetwork network → (m n : ℕ) → m < length (senders_of network)
    → n < length (senders_of network) → (sender_at network m).name ≡ (sender_at network n).name → m ≡ n
one_sender network rules m n inside within same =
    let long : length (names_of (senders_of network)) ≡ length (senders_of network) = simp length-map in
    let at : (k : ℕ) → k < length (senders_of network)
    → place_of (sender_at network k).name (names_of (senders_of network)) ≡ Some k =
    λ k small. ap (λ name. place_of name (names_of (senders_of network)))
    (sym (get_or-map (λ (s : Sender). s.name) (senders_of network) k no_sender [] small))
    ∙ rules.names k (omega arith) in
    let both : Some m ≡ Some n =
    sym (at m inside) ∙ ap (λ name. place_of name (names_of (senders_of network))) same ∙ at n within in
    cc both

-- two releases and what stands behind their lines
record AreReleased (release other : Release) (b y : List ℕ) : Type 0 where
  release_is : release ≡ other
  rest : b ≡ y

same_release : (release other : Release) → release.at.0 ≡ other.at.0 → release.sender ≡ other.sender
    → release.octets ≡ other.octets → release ≡ other
same_release release other a s o =
    ap (λ n. record { at = record { 0 = n }; sender = release.sender; octets = release.octets }) a
    ∙ ap (λ n. record { at = other.at; sender = n; octets = release.octets }) s
    ∙ ap (λ n. record { at = other.at; sender = other.sender; octets = n }) o

-- the leg of a copy is one that the frame never came to, or goes over its ports
over_copy : (start : Option HopRecord) (path : List ℕ) (leg : Leg) → IsCopy start path leg → IsLegOver path leg
over_copy (Some start) path leg copy = inr copy.1
over_copy None path leg copy = inl copy

same_leg : (one two : Leg) → one.hops ≡ two.hops → one.ending ≡ two.ending → one ≡ two
same_leg one two h e =
    ap (λ (hops : List HopRecord). record { hops = hops; ending = one.ending }) h
    ∙ ap (λ (ending : Ending). record { hops = two.hops; ending = ending }) e

-- copies and what stands behind their lines
record AreCopiesTold (copies others : List Leg) (b y : List ℕ) : Type 0 where
  copies_are : copies ≡ others
  rest : b ≡ y

module _ (topology : DeclaredTopology) (s : Sender) where
  -- copies go over the ports of the legs from one on
  abbrev GoOver : ℕ → List Leg → Type 0
  GoOver n copies =
      (i : ℕ) → i < length copies → IsLegOver (leg_at (legs_of s.ports s.branches) (n + i)) (get_or copies i no_leg)

  go_on : (n : ℕ) (copy : Leg) (copies : List Leg) → GoOver n (copy ∷ copies) → GoOver (n + 1) copies
  go_on n copy copies over i below =
      let next : n + suc i ≡ n + 1 + i = omega arith in
      subst (λ (k : ℕ). IsLegOver (leg_at (legs_of s.ports s.branches) k) (get_or copies i no_leg)) next
      (over (suc i) (omega (arith, below)))

  copy_parts : (n : ℕ) (copy : Leg) (copies : List Leg) (b : List ℕ)
      → flat_map (copy_text topology s) (enumerate_from n (copy ∷ copies)) ++ b
      ≡ station_line topology (route_to s n)
      ++ (leg_lines topology (leg_at (legs_of s.ports s.branches) n) copy
      ++ (flat_map (copy_text topology s) (enumerate_from (n + 1) copies) ++ b))
  copy_parts n copy copies b =
      joined (station_line topology (route_to s n)) (leg_lines topology (leg_at (legs_of s.ports s.branches) n) copy)
      (flat_map (copy_text topology s) (enumerate_from (n + 1) copies)) b
    where
      joined : (a c d e : List ℕ) → ((a ++ c) ++ d) ++ e ≡ a ++ (c ++ (d ++ e))
      joined a c d e = simp append_assoc

  cut_copies : (n : ℕ) (copies others : List Leg) (b y : List ℕ) → length copies ≡ length others → GoOver n copies
      → GoOver n others → All IsShortLeg copies → All IsShortLeg others
      → flat_map (copy_text topology s) (enumerate_from n copies) ++ b
      ≡ flat_map (copy_text topology s) (enumerate_from n others) ++ y → AreCopiesTold copies others b y
  cut_copies n [] [] b y long over onward short brief same = record { copies_are = refl; rest = same }
  cut_copies n [] (two ∷ others) b y long over onward short brief same = absurd (omega (arith, long))
  cut_copies n (one ∷ copies) [] b y long over onward short brief same = absurd (omega (arith, long))
  cut_copies n (one ∷ copies) (two ∷ others) b y long over onward short brief same =
      let path : List ℕ = leg_at (legs_of s.ports s.branches) n in
      let here : n + 0 ≡ n = omega arith in
      let behind : List ℕ = flat_map (copy_text topology s) (enumerate_from (n + 1) copies) ++ b in
      let beyond : List ℕ = flat_map (copy_text topology s) (enumerate_from (n + 1) others) ++ y in
      let legs = cut_legs topology path one two behind beyond
      (subst (λ (k : ℕ). IsLegOver (leg_at (legs_of s.ports s.branches) k) one) here (over 0 (omega arith)))
      (subst (λ (k : ℕ). IsLegOver (leg_at (legs_of s.ports s.branches) k) two) here (onward 0 (omega arith)))
      (All-head IsShortLeg one copies short) (All-head IsShortLeg two others brief)
      (append_cancel_left (station_line topology (route_to s n)) _ _
      (sym (copy_parts n one copies b) ∙ same ∙ copy_parts n two others y)) in
      let more = cut_copies (n + 1) copies others b y (omega (arith, long)) (go_on n one copies over)
      (go_on n two others onward) (All-tail IsShortLeg one copies short) (All-tail IsShortLeg two others brief)
      legs.rest in
      record {
        copies_are = rw (same_leg one two legs.hops_are legs.ending_is, more.copies_are) refl;
        rest = more.rest;
      }

module _ (network : DeclaredNetwork) (rules : IsNetwork network) (named : HasNames network) where
  word_of : (n : ℕ) → n < length (senders_of network) → IsTrue (is_name (sender_at network n).name)
  word_of n inside = named n no_sender inside

  -- what stands behind the name in the line of a frame
  sizes : Release → List ℕ → List ℕ
  sizes r b = codes " " ++ (decimal r.octets ++ (codes " " ++ (decimal r.at.0 ++ 10 ∷ b)))

  frame_parts : (n : ℕ) (r : Release) (b : List ℕ) → frame_line network n r ++ b
      ≡ (codes "frame " ++ decimal n ++ codes " ")
      ++ ((sender_at network r.sender).name ++ sizes r b)
  unfolding frame_line sizes
  frame_parts n r b = simp append_assoc refl

  cut_frames : (n : ℕ) (one two : Travel) (b y : List ℕ) → IsJourney network one → IsJourney network two
      → HasShortTimes one → HasShortTimes two
      → frame_line network n one.release ++ b ≡ frame_line network n two.release ++ y
      → AreReleased one.release two.release b y
  unfolding sizes
  cut_frames n one two b y first second short brief same =
      let names = cut (sender_at network one.release.sender).name (sender_at network two.release.sender).name
      (sizes one.release b) (sizes two.release y)
      (name_word (sender_at network one.release.sender).name (word_of one.release.sender first.sender))
      (name_word (sender_at network two.release.sender).name (word_of two.release.sender second.sender)) refl refl
      (append_cancel_left (codes "frame " ++ decimal n ++ codes " ") _ _
      (sym (frame_parts n one.release b) ∙ same ∙ frame_parts n two.release y)) in
      let octets = cut_numbers one.release.octets two.release.octets
      (codes " " ++ (decimal one.release.at.0 ++ 10 ∷ b)) (codes " " ++ (decimal two.release.at.0 ++ 10 ∷ y))
      (omega (arith, first.octets.most)) (omega (arith, second.octets.most)) refl refl
      (append_cancel_left (codes " ") _ _ names.rest) in
      let times = cut_numbers one.release.at.0 two.release.at.0 (10 ∷ b) (10 ∷ y) short.release brief.release refl
      refl (append_cancel_left (codes " ") _ _ octets.rest) in
      record {
        release_is = same_release one.release two.release times.number
            (one_sender network rules one.release.sender two.release.sender first.sender second.sender names.word)
            octets.number;
        rest = cc times.rest;
      }

  -- the sender of a frame, and the lines of its copies
  abbrev by : Travel → Sender
  by j = sender_at network j.release.sender

  copies_then : Travel → List ℕ → List ℕ
  copies_then j b = flat_map (copy_text network.topology (by j)) (enumerate_from 1 j.copies) ++ b

  journey_parts : (n : ℕ) (one : Travel) (b : List ℕ) → journey_text network (n, one) ++ b
      ≡ frame_line network n one.release
      ++ (leg_lines network.topology (trunk_at network one.release.sender) (leg_in one 0) ++ copies_then one b)
  unfolding journey_text copies_then
  journey_parts n one b = simp append_assoc refl

  -- two journeys and what stands behind their lines
  record AreJourneys (one two : Travel) (b y : List ℕ) : Type 0 where
    journey_is : one ≡ two
    rest : b ≡ y

  same_journey : (one two : Travel) → one.release ≡ two.release → one.hops ≡ two.hops → one.ending ≡ two.ending
      → one.copies ≡ two.copies → one ≡ two
  same_journey one two r h e c =
      ap (λ (x : Release). record { release = x; hops = one.hops; ending = one.ending; copies = one.copies }) r
      ∙ ap (λ (x : List HopRecord). record {
        release = two.release;
        hops = x;
        ending = one.ending;
        copies = one.copies;
      }) h
      ∙ ap (λ (x : Ending). record { release = two.release; hops = two.hops; ending = x; copies = one.copies }) e
      ∙ ap (λ (x : List Leg). record { release = two.release; hops = two.hops; ending = two.ending; copies = x }) c

  -- each copy of a frame goes over the ports of its leg
  copies_over : (j : Travel) → IsJourney network j → GoOver network.topology (by j) 1 j.copies
  copies_over j is i below =
      let s : Sender = by j in
      over_copy (record_at (legs_in j) (get_or s.branches i no_branch)) (leg_at (legs_of s.ports s.branches) (1 + i))
      (get_or j.copies i no_leg)
      (subst (λ (k : ℕ). IsCopy (record_at (legs_in j) (get_or s.branches i no_branch))
      (leg_at (legs_of s.ports s.branches) k) (get_or j.copies i no_leg)) (omega arith)
      (copy_at s j i is.copies (omega (arith, below, copies_many s j is.copies))))

  cut_journeys : (n : ℕ) (one two : Travel) (b y : List ℕ) → IsJourney network one → IsJourney network two
      → HasShortTimes one → HasShortTimes two
      → journey_text network (n, one) ++ b ≡ journey_text network (n, two) ++ y → AreJourneys one two b y
  unfolding copies_then
  cut_journeys n one two b y first second short brief same =
      let s : Sender = by one in
      let path : List ℕ = trunk_at network one.release.sender in
      let lines : Travel → List ℕ → List ℕ =
      λ (j : Travel) (t : List ℕ). leg_lines network.topology (trunk_at network j.release.sender) (leg_in j 0)
      ++ copies_then j t in
      let frames = cut_frames n one two (lines one b) (lines two y) first second short brief
      (sym (journey_parts n one b) ∙ same ∙ journey_parts n two y) in
      let sent : two.release.sender ≡ one.release.sender = sym (ap (λ (r : Release). r.sender) frames.release_is) in
      let onward : IsWay path two.hops two.ending =
      subst (λ (k : ℕ). IsWay (trunk_at network k) two.hops two.ending) sent second.way in
      let texts : leg_lines network.topology path (leg_in one 0) ++ copies_then one b
      ≡ leg_lines network.topology path (leg_in two 0)
      ++ (flat_map (copy_text network.topology s) (enumerate_from 1 two.copies) ++ y) =
      frames.rest ∙ ap (λ (k : ℕ). leg_lines network.topology (trunk_at network k) (leg_in two 0)
      ++ (flat_map (copy_text network.topology (sender_at network k)) (enumerate_from 1 two.copies) ++ y)) sent in
      let trunks = cut_legs network.topology path (leg_in one 0) (leg_in two 0) (copies_then one b)
      (flat_map (copy_text network.topology s) (enumerate_from 1 two.copies) ++ y) (inr first.way) (inr onward)
      (All-head IsShortLeg (leg_in one 0) one.copies short.legs)
      (All-head IsShortLeg (leg_in two 0) two.copies brief.legs) texts in
      let over : GoOver network.topology s 1 two.copies =
      subst (λ (k : ℕ). GoOver network.topology (sender_at network k) 1 two.copies) sent (copies_over two second) in
      let many : length two.copies ≡ length s.branches =
      copies_many (by two) two second.copies ∙ ap (λ (k : ℕ). length (sender_at network k).branches) sent in
      let copies = cut_copies network.topology s 1 one.copies two.copies b y
      (copies_many s one first.copies ∙ sym many) (copies_over one first) over
      (All-tail IsShortLeg (leg_in one 0) one.copies short.legs)
      (All-tail IsShortLeg (leg_in two 0) two.copies brief.legs) trunks.rest in
      record {
        journey_is = same_journey one two frames.release_is trunks.hops_are trunks.ending_is copies.copies_are;
        rest = copies.rest;
      }

  more_parts : (n : ℕ) (one : Travel) (run : List Travel) (b : List ℕ)
      → flat_map (journey_text network) (enumerate_from n (one ∷ run)) ++ b
      ≡ journey_text network (n, one) ++ (flat_map (journey_text network) (enumerate_from (n + 1) run) ++ b)
  more_parts n one run b = simp append_assoc refl

  -- a line that begins with another letter than the line of a frame
  no_frame : (n : ℕ) (one : Travel) (b y : List ℕ) → journey_text network (n, one) ++ b ≡ 116 ∷ y → ⊥
  no_frame n one b y same =
      let text = journey_parts n one b ∙ frame_parts n one.release
      (leg_lines network.topology (trunk_at network one.release.sender) (leg_in one 0) ++ copies_then one b) in
      let letter : 102 ≡ 116 = ap (λ t. get_or t 0 0) (sym text ∙ same) in
      omega (arith, letter)

  cut_runs : (n : ℕ) (run other : List Travel) (b y : List ℕ) → All (IsJourney network) run
      → All (IsJourney network) other → All HasShortTimes run → All HasShortTimes other
      → flat_map (journey_text network) (enumerate_from n run) ++ 116 ∷ b
      ≡ flat_map (journey_text network) (enumerate_from n other) ++ 116 ∷ y → AreTheSame run other b y
  cut_runs n [] [] b y first second short brief same = record { runs = refl; rests = cc same }
  cut_runs n [] (two ∷ other) b y first second short brief same =
      absurd (no_frame n two (flat_map (journey_text network) (enumerate_from (n + 1) other) ++ 116 ∷ y) b
      (sym (more_parts n two other (116 ∷ y)) ∙ sym same))
  cut_runs n (one ∷ run) [] b y first second short brief same =
      absurd (no_frame n one (flat_map (journey_text network) (enumerate_from (n + 1) run) ++ 116 ∷ b) y
      (sym (more_parts n one run (116 ∷ b)) ∙ same))
  cut_runs n (one ∷ run) (two ∷ other) b y first second short brief same =
      let lines = cut_journeys n one two (flat_map (journey_text network) (enumerate_from (n + 1) run) ++ 116 ∷ b)
      (flat_map (journey_text network) (enumerate_from (n + 1) other) ++ 116 ∷ y)
      (All-head (IsJourney network) one run first) (All-head (IsJourney network) two other second)
      (All-head HasShortTimes one run short) (All-head HasShortTimes two other brief)
      (sym (more_parts n one run (116 ∷ b)) ∙ same ∙ more_parts n two other (116 ∷ y)) in
      let more = cut_runs (n + 1) run other b y (All-tail (IsJourney network) one run first)
      (All-tail (IsJourney network) two other second) (All-tail HasShortTimes one run short)
      (All-tail HasShortTimes two other brief) lines.rest in
      record { runs = rw (lines.journey_is, more.runs) refl; rests = more.rests }

-- the totals of a run begin with a letter of their own
totals_rest : DeclaredNetwork → List Travel → List ℕ → List ℕ
totals_rest network run b = codes "otal " ++ (counts_text (totals_of network run) ++ 10 ∷ b)

totals_parts : (network : DeclaredNetwork) (run : List Travel) (b : List ℕ)
    → totals_line (totals_of network run) ++ b ≡ 116 ∷ totals_rest network run b
unfolding totals_line totals_rest
totals_parts network run b = simp append_assoc refl

departures_parts : (network : DeclaredNetwork) (run : List Travel) (b : List ℕ) → departures_text network run ++ b
    ≡ flat_map (journey_text network) (enumerate_from 0 run) ++ 116 ∷ totals_rest network run b
unfolding departures_text
departures_parts network run b =
    append_assoc (flat_map (journey_text network) (enumerate_from 0 run)) (totals_line (totals_of network run)) b
    ∙ ap (λ t. flat_map (journey_text network) (enumerate_from 0 run) ++ t) (totals_parts network run b)

-- what stands behind the totals of one run
behind_totals : (network : DeclaredNetwork) (run other : List Travel) (b y : List ℕ) → run ≡ other
    → totals_rest network run b ≡ totals_rest network other y → b ≡ y
unfolding totals_rest
behind_totals network run other b y same rests =
    let tails : counts_text (totals_of network run) ++ 10 ∷ b ≡ counts_text (totals_of network other) ++ 10 ∷ y =
    append_cancel_left (codes "otal ") _ _ rests in
    let lines : 10 ∷ b ≡ 10 ∷ y = append_cancel_left (counts_text (totals_of network run)) _ _
    (tails ∙ ap (λ (r : List Travel). counts_text (totals_of network r) ++ 10 ∷ y) (sym same)) in
    cc lines

pub departures_tell_all : DeparturesTellAll
departures_tell_all network rules named run other first second behind beyond same =
    let parts = cut_runs network rules named 0 run other (totals_rest network run behind)
    (totals_rest network other beyond)
    first.journeys second.journeys first.times second.times
    (sym (departures_parts network run behind) ∙ same ∙ departures_parts network other beyond) in
    record { runs = parts.runs; rests = behind_totals network run other behind beyond parts.runs parts.rests }
