-- What is printed of answers tells them.
use Rattle.std.proofs.Common.{◌≡◌, ◌∙◌, ℕ, ◌+◌, ◌<◌, List, [], ◌∷◌, ◌++◌, get_or, length, Option, Some, None}
use Rattle.std.proofs.Common.{refl, sym, ap, arith, append_assoc}
use Rattle.std.specs.Prelude.{codes, decimal, All, IsTrue}
use Rattle.std.specs.List.{enumerate_from, flat_map}
use Rattle.std.proofs.lemmas.List.{append_cancel_left}
use Rattle.std.proofs.lemmas.List.Elements.{All-head, All-tail}
use Rattle.ats_num.specs.Name.{is_name}
use Rattle.ats_topology.specs.Port.{no_port, port_at}
use Rattle.ats_topology.specs.Topology.{DeclaredTopology, IsPort, no_node, node_at, ports_of, topology_of}
use Rattle.ats_topology.specs.declared.node.Node.{Node}
use Rattle.ats_topology.specs.declared.link.Link.{Link}
use Rattle.ats_topology.proofs.Rules.{ports_are_lawful, topology_rules}
use Rattle.ats_port_names.specs.Laws.{AreSound}
use Rattle.ats_port_names.specs.PortName.{port_name, port_named}
use Rattle.ats_port_names.proofs.ReadsBack.{port_reads_back}
use Rattle.ats_tally.specs.declared.reason.Reason.{Reason}
use Rattle.ats_tally.specs.declared.reason.Reason.TheVariants as reason
use Rattle.ats_verdict_text.specs.Text.{measure_text, reason_text}
use Rattle.ats_requests.specs.declared.answer.Answer.{Answer}
use Rattle.ats_requests.specs.declared.answer.Answer.TheVariants.{Admitted, Withdrawn, Refused}
use Rattle.ats_requests.specs.declared.denied.Denied.{Denied}
use Rattle.ats_requests.specs.declared.denied.Denied.TheVariants.{NameTaken, NameUnknown, Limit, Because, NoClass}
use Rattle.ats_requests.specs.declared.request.Request.{Request}
use Rattle.ats_requests.specs.Requests.{after_all, answers}
use Rattle.ats_network.specs.Network.{DeclaredNetwork}
use Rattle.ats_admission_text.specs.Text.{admission_text, answer_text, class_line, class_lines, denied_text}
use Rattle.ats_admission_text.specs.Text.{given_text, lines_of}
use Rattle.ats_admission_text.specs.Text.{name_asked, reason_end}
use Rattle.ats_text_law.specs.Short.{IsShort}
use Rattle.ats_text_law.specs.Answers.{AdmissionIsTold, AdmissionTellsAll, AnswersTellAll, AnswersTellAllBehind}
use Rattle.ats_text_law.specs.Answers.{IsShortAnswer, IsShortDenied, IsShortReason}
use Rattle.ats_text_law.specs.Explained.{IsNamed}
use Rattle.ats_text_law.proofs.Words.{IsBehind, IsWord, cut, cut_numbers, decimal_word, name_word, word_append}

-- a code of a text
abbrev code_at : ℕ → List ℕ → ℕ
code_at i text = get_or text i 0

-- six texts, one behind the other
six : (a b c d e f : List ℕ) → a ++ b ++ c ++ d ++ e ++ f ≡ a ++ (b ++ (c ++ (d ++ (e ++ f))))
six a b c d e f = simp append_assoc refl

-- what stands behind the stream's name where a deadline is not met: the name of the listener, if a further one, and
-- the sum
abbrev deadline_rest : Option (List ℕ) → ℕ → List ℕ → List ℕ
deadline_rest None m b = codes " " ++ (decimal m ++ 10 ∷ b)
deadline_rest (Some station) m b = codes " " ++ (station ++ (codes " " ++ (decimal m ++ 10 ∷ b)))

deadline_parts : (topology : DeclaredTopology) (stream : List ℕ) (l : Option (List ℕ)) (m : ℕ) (b : List ℕ)
    → reason_text topology (reason.Deadline stream l m) ++ 10 ∷ b ≡ codes "deadline " ++ (stream ++ deadline_rest l m b)
deadline_parts topology stream None m b = simp append_assoc refl
deadline_parts topology stream (Some station) m b = simp append_assoc refl

behind_name : (l : Option (List ℕ)) (m : ℕ) (b : List ℕ) → IsBehind (deadline_rest l m b)
behind_name None m b = refl
behind_name (Some station) m b = refl

-- two listeners with a sum each, and what stands behind the ends of their lines
record AreRests (l k : Option (List ℕ)) (m n : ℕ) (b y : List ℕ) : Type 0 where
  listener_is : l ≡ k
  number_is : m ≡ n
  rest : b ≡ y

-- a sum at the end of a line is no name in front of a sum
no_station : (station : List ℕ) (m n : ℕ) (b y : List ℕ) → IsTrue (is_name station) → IsShort m
    → decimal m ++ 10 ∷ b ≡ station ++ (codes " " ++ (decimal n ++ 10 ∷ y)) → ⊥
no_station station m n b y named short same =
    let parts = cut (decimal m) station (10 ∷ b) (codes " " ++ (decimal n ++ 10 ∷ y)) (decimal_word m short)
    (name_word station named) refl refl same in
    omega (arith, ap (code_at 0) parts.rest)

cut_rests : (l k : Option (List ℕ)) (m n : ℕ) (b y : List ℕ) → IsNamed l → IsNamed k → IsShort m → IsShort n
    → deadline_rest l m b ≡ deadline_rest k n y → AreRests l k m n b y
cut_rests None None m n b y named called short brief same =
    let numbers = cut_numbers m n (10 ∷ b) (10 ∷ y) short brief refl refl (append_cancel_left (codes " ") _ _ same) in
    record { listener_is = refl; number_is = numbers.number; rest = cc numbers.rest }
cut_rests None (Some station) m n b y named called short brief same =
    absurd (no_station station m n b y called short (append_cancel_left (codes " ") _ _ same))
cut_rests (Some station) None m n b y named called short brief same =
    absurd (no_station station n m y b named brief (sym (append_cancel_left (codes " ") _ _ same)))
cut_rests (Some station) (Some other) m n b y named called short brief same =
    let names = cut station other (codes " " ++ (decimal m ++ 10 ∷ b)) (codes " " ++ (decimal n ++ 10 ∷ y))
    (name_word station named) (name_word other called) refl refl (append_cancel_left (codes " ") _ _ same) in
    let numbers = cut_numbers m n (10 ∷ b) (10 ∷ y) short brief refl refl
    (append_cancel_left (codes " ") _ _ names.rest) in
    record { listener_is = ap Some names.word; number_is = numbers.number; rest = cc numbers.rest }

module _ (nodes : List Node) (links : List Link) (sound : AreSound nodes links) where
  abbrev topology : DeclaredTopology
  topology = topology_of nodes links

  abbrev ports : ℕ
  ports = length (ports_of nodes links)

  each_port : (p : ℕ) → p < ports → IsPort (length nodes) (port_at (ports_of nodes links) p)
  each_port p inside = (ports_are_lawful topology (topology_rules nodes links sound.sound)).each p no_port inside

  -- a port is written as a word
  port_word : (p : ℕ) → p < ports → IsWord (port_name topology p)
  port_word p inside =
      let port = each_port p inside in
      let from = (port_at (ports_of nodes links) p).from in
      let to = (port_at (ports_of nodes links) p).to in
      word_append ((node_at nodes from).name ++ codes ">") (node_at nodes to).name
      (word_append (node_at nodes from).name (codes ">")
      (name_word (node_at nodes from).name (sound.names from no_node port.between.from)) (refl, tt))
      (name_word (node_at nodes to).name (sound.names to no_node port.between.to))

  one_port : (p q : ℕ) → p < ports → q < ports → port_name topology p ≡ port_name topology q → p ≡ q
  one_port p q inside within same =
      let both : Some p ≡ Some q =
      sym (port_reads_back nodes links sound p inside) ∙ ap (port_named topology) same
      ∙ port_reads_back nodes links sound q within in
      cc both

  -- a port, a class and a number, and what stands behind them
  record AreMeasures (p q c d m n : ℕ) (b y : List ℕ) : Type 0 where
    port_is : p ≡ q
    class_is : c ≡ d
    number_is : m ≡ n
    rest : b ≡ y

  cut_measures : (p q c d m n : ℕ) (b y : List ℕ) → p < ports → q < ports → IsShort c → IsShort d → IsShort m
      → IsShort n → IsBehind b → IsBehind y
      → measure_text topology p c m ++ b ≡ measure_text topology q d n ++ y → AreMeasures p q c d m n b y
  cut_measures p q c d m n b y inside within short brief few less h k same =
      let left = six (port_name topology p) (codes " ") (decimal c) (codes " ") (decimal m) b in
      let right = six (port_name topology q) (codes " ") (decimal d) (codes " ") (decimal n) y in
      let names = cut (port_name topology p) (port_name topology q)
      (codes " " ++ (decimal c ++ (codes " " ++ (decimal m ++ b))))
      (codes " " ++ (decimal d ++ (codes " " ++ (decimal n ++ y)))) (port_word p inside) (port_word q within) refl
      refl (sym left ∙ same ∙ right) in
      let classes = cut_numbers c d (codes " " ++ (decimal m ++ b)) (codes " " ++ (decimal n ++ y)) short brief refl
      refl (append_cancel_left (codes " ") _ _ names.rest) in
      let numbers = cut_numbers m n b y few less h k (append_cancel_left (codes " ") _ _ classes.rest) in
      record {
        port_is = one_port p q inside within names.word;
        class_is = classes.number;
        number_is = numbers.number;
        rest = numbers.rest;
      }

  -- two reasons and what stands behind the ends of their lines
  record AreReasons (r s : Reason) (b y : List ℕ) : Type 0 where
    reason_is : r ≡ s
    rest : b ≡ y

  cut_reasons : (r s : Reason) (b y : List ℕ) → IsShortReason ports r → IsShortReason ports s
      → reason_text topology r ++ 10 ∷ b ≡ reason_text topology s ++ 10 ∷ y → AreReasons r s b y
  cut_reasons (reason.Overloaded p c m) (reason.Overloaded q d n) b y short brief same =
      let parts = cut_measures p q c d m n (10 ∷ b) (10 ∷ y) short.0 brief.0 short.1 brief.1 short.2 brief.2 refl refl
      (append_cancel_left (codes "overloaded ") _ _ same) in
      record { reason_is = rw (parts.port_is, parts.class_is, parts.number_is) refl; rest = cc parts.rest }
  cut_reasons (reason.Residence p c m) (reason.Residence q d n) b y short brief same =
      let parts = cut_measures p q c d m n (10 ∷ b) (10 ∷ y) short.0 brief.0 short.1 brief.1 short.2 brief.2 refl refl
      (append_cancel_left (codes "residence ") _ _ same) in
      record { reason_is = rw (parts.port_is, parts.class_is, parts.number_is) refl; rest = cc parts.rest }
  cut_reasons (reason.Deadline stream l m) (reason.Deadline other k n) b y short brief same =
      let names = cut stream other (deadline_rest l m b) (deadline_rest k n y) (name_word stream short.0)
      (name_word other brief.0) (behind_name l m b) (behind_name k n y)
      (append_cancel_left (codes "deadline ") _ _
      (sym (deadline_parts topology stream l m b) ∙ same ∙ deadline_parts topology other k n y)) in
      let parts = cut_rests l k m n b y short.1 brief.1 short.2 brief.2 names.rest in
      record { reason_is = rw (names.word, parts.listener_is, parts.number_is) refl; rest = parts.rest }
  cut_reasons (reason.Overloaded p c m) (reason.Residence q d n) b y short brief same =
      absurd (omega (arith, ap (code_at 0) same))
  cut_reasons (reason.Overloaded p c m) (reason.Deadline other k n) b y short brief same =
      absurd (omega (arith, ap (code_at 0) same))
  cut_reasons (reason.Residence p c m) (reason.Overloaded q d n) b y short brief same =
      absurd (omega (arith, ap (code_at 0) same))
  cut_reasons (reason.Residence p c m) (reason.Deadline other k n) b y short brief same =
      absurd (omega (arith, ap (code_at 0) same))
  cut_reasons (reason.Deadline stream l m) (reason.Overloaded q d n) b y short brief same =
      absurd (omega (arith, ap (code_at 0) same))
  cut_reasons (reason.Deadline stream l m) (reason.Residence q d n) b y short brief same =
      absurd (omega (arith, ap (code_at 0) same))

  end_parts : (r : Reason) (b : List ℕ) → reason_end topology r ++ b
      ≡ codes " " ++ (reason_text topology r ++ 10 ∷ b)
  unfolding reason_end
  end_parts r b =
      append_assoc (codes " " ++ reason_text topology r) (codes "\n") b
      ∙ append_assoc (codes " ") (reason_text topology r) (codes "\n" ++ b)

  cut_ends : (r s : Reason) (b y : List ℕ) → IsShortReason ports r → IsShortReason ports s
      → reason_end topology r ++ b ≡ reason_end topology s ++ y → AreReasons r s b y
  cut_ends r s b y short brief same =
      cut_reasons r s b y short brief (append_cancel_left (codes " ") _ _ (sym (end_parts r b) ∙ same ∙ end_parts s y))

  -- two lists of reasons, and what stands behind their lines
  record AllReasons (rs ss : List Reason) (b y : List ℕ) : Type 0 where
    reasons_are : rs ≡ ss
    rest : b ≡ y

  line_parts : (n : ℕ) (r : Reason) (rs : List Reason) (b : List ℕ)
      → flat_map (class_line topology) (enumerate_from n (r ∷ rs)) ++ b
      ≡ (codes "class " ++ decimal n)
      ++ (reason_end topology r ++ (flat_map (class_line topology) (enumerate_from (n + 1) rs) ++ b))
  line_parts n r rs b =
      append_assoc (codes "class " ++ decimal n ++ reason_end topology r)
      (flat_map (class_line topology) (enumerate_from (n + 1) rs)) b
      ∙ append_assoc (codes "class " ++ decimal n) (reason_end topology r)
      (flat_map (class_line topology) (enumerate_from (n + 1) rs) ++ b)

  cut_classes : (n : ℕ) (rs ss : List Reason) (b y : List ℕ) → length rs ≡ length ss → All (IsShortReason ports) rs
      → All (IsShortReason ports) ss
      → flat_map (class_line topology) (enumerate_from n rs) ++ b
      ≡ flat_map (class_line topology) (enumerate_from n ss) ++ y → AllReasons rs ss b y
  cut_classes n [] [] b y long short brief same = record { reasons_are = refl; rest = same }
  cut_classes n [] (s ∷ ss) b y long short brief same = absurd (omega (arith, long))
  cut_classes n (r ∷ rs) [] b y long short brief same = absurd (omega (arith, long))
  cut_classes n (r ∷ rs) (s ∷ ss) b y long short brief same =
      let line = cut_ends r s (flat_map (class_line topology) (enumerate_from (n + 1) rs) ++ b)
      (flat_map (class_line topology) (enumerate_from (n + 1) ss) ++ y)
      (All-head (IsShortReason ports) r rs short) (All-head (IsShortReason ports) s ss brief)
      (append_cancel_left (codes "class " ++ decimal n) _ _
      (sym (line_parts n r rs b) ∙ same ∙ line_parts n s ss y)) in
      let more = cut_classes (n + 1) rs ss b y (omega (arith, long)) (All-tail (IsShortReason ports) r rs short)
      (All-tail (IsShortReason ports) s ss brief) line.rest in
      record { reasons_are = rw (line.reason_is, more.reasons_are) refl; rest = more.rest }

  -- the first two letters of a reason behind a blank are not those of the other causes
  not_letters : (r : Reason) (b : List ℕ) → code_at 1 (reason_end topology r ++ b) ≡ 110 → ⊥
  not_letters r b same = by r (sym (ap (code_at 1) (end_parts r b)) ∙ same)
    where
      by : (r : Reason) → code_at 1 (codes " " ++ (reason_text topology r ++ 10 ∷ b)) ≡ 110 → ⊥
      by (reason.Overloaded p c m) same = omega (arith, same)
      by (reason.Residence p c m) same = omega (arith, same)
      by (reason.Deadline stream l m) same = omega (arith, same)

  no_limit : (r : Reason) (b : List ℕ) → code_at 1 (reason_end topology r ++ b) ≡ 108 → ⊥
  no_limit r b same = by r (sym (ap (code_at 1) (end_parts r b)) ∙ same)
    where
      by : (r : Reason) → code_at 1 (codes " " ++ (reason_text topology r ++ 10 ∷ b)) ≡ 108 → ⊥
      by (reason.Overloaded p c m) same = omega (arith, same)
      by (reason.Residence p c m) same = omega (arith, same)
      by (reason.Deadline stream l m) same = omega (arith, same)

  -- two denials and what stands behind them
  record AreDenied (one two : Denied) (b y : List ℕ) : Type 0 where
    denied_is : one ≡ two
    rest : b ≡ y

  cut_denied : (one two : Denied) (b y : List ℕ) → IsShortDenied ports one → IsShortDenied ports two
      → denied_text topology one ++ b ≡ denied_text topology two ++ y → AreDenied one two b y
  cut_denied NameTaken NameTaken b y short brief same =
      record { denied_is = refl; rest = append_cancel_left (codes " name-taken\n") b y same }
  cut_denied NameUnknown NameUnknown b y short brief same =
      record { denied_is = refl; rest = append_cancel_left (codes " name-unknown\n") b y same }
  cut_denied Limit Limit b y short brief same =
      record { denied_is = refl; rest = append_cancel_left (codes " limit\n") b y same }
  cut_denied (Because r) (Because s) b y short brief same =
      let parts = cut_ends r s b y short brief same in
      record { denied_is = ap Because parts.reason_is; rest = parts.rest }
  cut_denied (NoClass rs) (NoClass ss) b y short brief same =
      let parts = cut_classes 1 rs ss b y (short.0 ∙ sym brief.0) short.1 brief.1
      (append_cancel_left (codes " no-class\n") _ _
      (sym (append_assoc (codes " no-class\n") (class_lines topology rs) b) ∙ same
      ∙ append_assoc (codes " no-class\n") (class_lines topology ss) y)) in
      record { denied_is = ap NoClass parts.reasons_are; rest = parts.rest }
  cut_denied NameTaken NameUnknown b y short brief same = absurd (omega (arith, ap (code_at 6) same))
  cut_denied NameTaken Limit b y short brief same = absurd (omega (arith, ap (code_at 1) same))
  cut_denied NameTaken (Because s) b y short brief same = absurd (not_letters s y (sym (ap (code_at 1) same)))
  cut_denied NameTaken (NoClass ss) b y short brief same = absurd (omega (arith, ap (code_at 2) same))
  cut_denied NameUnknown NameTaken b y short brief same = absurd (omega (arith, ap (code_at 6) same))
  cut_denied NameUnknown Limit b y short brief same = absurd (omega (arith, ap (code_at 1) same))
  cut_denied NameUnknown (Because s) b y short brief same = absurd (not_letters s y (sym (ap (code_at 1) same)))
  cut_denied NameUnknown (NoClass ss) b y short brief same = absurd (omega (arith, ap (code_at 2) same))
  cut_denied Limit NameTaken b y short brief same = absurd (omega (arith, ap (code_at 1) same))
  cut_denied Limit NameUnknown b y short brief same = absurd (omega (arith, ap (code_at 1) same))
  cut_denied Limit (Because s) b y short brief same = absurd (no_limit s y (sym (ap (code_at 1) same)))
  cut_denied Limit (NoClass ss) b y short brief same = absurd (omega (arith, ap (code_at 1) same))
  cut_denied (Because r) NameTaken b y short brief same = absurd (not_letters r b (ap (code_at 1) same))
  cut_denied (Because r) NameUnknown b y short brief same = absurd (not_letters r b (ap (code_at 1) same))
  cut_denied (Because r) Limit b y short brief same = absurd (no_limit r b (ap (code_at 1) same))
  cut_denied (Because r) (NoClass ss) b y short brief same = absurd (not_letters r b (ap (code_at 1) same))
  cut_denied (NoClass rs) NameTaken b y short brief same = absurd (omega (arith, ap (code_at 2) same))
  cut_denied (NoClass rs) NameUnknown b y short brief same = absurd (omega (arith, ap (code_at 2) same))
  cut_denied (NoClass rs) Limit b y short brief same = absurd (omega (arith, ap (code_at 1) same))
  cut_denied (NoClass rs) (Because s) b y short brief same = absurd (not_letters s y (sym (ap (code_at 1) same)))

  -- two answers and what stands behind them
  record AreAnswers (one two : Answer) (b y : List ℕ) : Type 0 where
    answer_is : one ≡ two
    rest : b ≡ y

  given_parts : (class sum : ℕ) (b : List ℕ) → given_text class sum ++ b
      ≡ codes " " ++ (decimal class ++ (codes " " ++ (decimal sum ++ 10 ∷ b)))
  unfolding given_text
  given_parts class sum b = simp append_assoc refl

  cut_answers : (name : List ℕ) (one two : Answer) (b y : List ℕ) → IsShortAnswer ports one
      → IsShortAnswer ports two
      → answer_text topology name one ++ b ≡ answer_text topology name two ++ y → AreAnswers one two b y
  cut_answers name (Admitted c m) (Admitted d n) b y short brief same =
      let tails = append_cancel_left (codes "admitted " ++ name) _ _
      (sym (append_assoc (codes "admitted " ++ name) (given_text c m) b) ∙ same
      ∙ append_assoc (codes "admitted " ++ name) (given_text d n) y) in
      let classes = cut_numbers c d (codes " " ++ (decimal m ++ 10 ∷ b)) (codes " " ++ (decimal n ++ 10 ∷ y)) short.0
      brief.0 refl refl
      (append_cancel_left (codes " ") _ _ (sym (given_parts c m b) ∙ tails ∙ given_parts d n y)) in
      let sums = cut_numbers m n (10 ∷ b) (10 ∷ y) short.1 brief.1 refl refl
      (append_cancel_left (codes " ") _ _ classes.rest) in
      record { answer_is = rw (classes.number, sums.number) refl; rest = cc sums.rest }
  cut_answers name Withdrawn Withdrawn b y short brief same =
      record { answer_is = refl; rest = append_cancel_left (codes "withdrawn " ++ name ++ codes "\n") b y same }
  cut_answers name (Refused d) (Refused e) b y short brief same =
      let parts = cut_denied d e b y short brief
      (append_cancel_left (codes "denied " ++ name) _ _
      (sym (append_assoc (codes "denied " ++ name) (denied_text topology d) b) ∙ same
      ∙ append_assoc (codes "denied " ++ name) (denied_text topology e) y)) in
      record { answer_is = ap Refused parts.denied_is; rest = parts.rest }
  cut_answers name (Admitted c m) Withdrawn b y short brief same = absurd (omega (arith, ap (code_at 0) same))
  cut_answers name (Admitted c m) (Refused e) b y short brief same = absurd (omega (arith, ap (code_at 0) same))
  cut_answers name Withdrawn (Admitted d n) b y short brief same = absurd (omega (arith, ap (code_at 0) same))
  cut_answers name Withdrawn (Refused e) b y short brief same = absurd (omega (arith, ap (code_at 0) same))
  cut_answers name (Refused d) (Admitted c n) b y short brief same = absurd (omega (arith, ap (code_at 0) same))
  cut_answers name (Refused d) Withdrawn b y short brief same = absurd (omega (arith, ap (code_at 0) same))

  -- two lists of answers and what stands behind them
  record AreLists (given others : List Answer) (b y : List ℕ) : Type 0 where
    answers_are : given ≡ others
    rest : b ≡ y

  cut_all : (asked : List Request) (given others : List Answer) (b y : List ℕ) → length given ≡ length asked
      → length others ≡ length asked → All (IsShortAnswer ports) given → All (IsShortAnswer ports) others
      → lines_of topology asked given ++ b ≡ lines_of topology asked others ++ y → AreLists given others b y
  cut_all [] [] [] b y long wide short brief same = record { answers_are = refl; rest = same }
  cut_all [] (one ∷ given) others b y long wide short brief same = absurd (omega (arith, long))
  cut_all [] [] (two ∷ others) b y long wide short brief same = absurd (omega (arith, wide))
  cut_all (a ∷ asked) [] others b y long wide short brief same = absurd (omega (arith, long))
  cut_all (a ∷ asked) (one ∷ given) [] b y long wide short brief same = absurd (omega (arith, wide))
  cut_all (a ∷ asked) (one ∷ given) (two ∷ others) b y long wide short brief same =
      let first = cut_answers (name_asked a) one two (lines_of topology asked given ++ b)
      (lines_of topology asked others ++ y)
      (All-head (IsShortAnswer ports) one given short) (All-head (IsShortAnswer ports) two others brief)
      (sym (append_assoc (answer_text topology (name_asked a) one) (lines_of topology asked given) b) ∙ same
      ∙ append_assoc (answer_text topology (name_asked a) two) (lines_of topology asked others) y) in
      let more = cut_all asked given others b y (omega (arith, long)) (omega (arith, wide))
      (All-tail (IsShortAnswer ports) one given short) (All-tail (IsShortAnswer ports) two others brief)
      first.rest in
      record { answers_are = rw (first.answer_is, more.answers_are) refl; rest = more.rest }

told_behind : AnswersTellAllBehind
told_behind nodes links sound asked given others b y first second same =
    let lists = cut_all nodes links sound asked given others b y first.one_each second.one_each first.short
    second.short same in
    (lists.answers_are, lists.rest)

pub answers_tell_all : AnswersTellAll
answers_tell_all nodes links sound asked given others first second same =
    (told_behind nodes links sound asked given others [] [] first second (ap (λ (text : List ℕ). text ++ []) same)).0

-- what stands behind the answers
abbrev behind_answers : ℕ → List ℕ
behind_answers count = codes "streams " ++ (decimal count ++ 10 ∷ [])

regrouped : (lines : List ℕ) (count : ℕ)
    → lines ++ codes "streams " ++ decimal count ++ codes "\n" ≡ lines ++ behind_answers count
regrouped lines count = simp append_assoc refl

text_parts : (nodes : List Node) (links : List Link) (asked : List Request) (network : DeclaredNetwork)
    → network.topology ≡ topology_of nodes links
    → admission_text network asked ≡ lines_of (topology_of nodes links) asked (answers network asked)
    ++ behind_answers (length (after_all network asked).streams)
text_parts nodes links asked network over =
    regrouped (lines_of network.topology asked (answers network asked)) (length (after_all network asked).streams)
    ∙ ap (λ (t : DeclaredTopology). lines_of t asked (answers network asked)
    ++ behind_answers (length (after_all network asked).streams)) over

told : AdmissionTellsAll
told nodes links sound asked network other over beside first second short brief same =
    let count = length (after_all network asked).streams in
    let number = length (after_all other asked).streams in
    let parts = told_behind nodes links sound asked (answers network asked) (answers other asked) (behind_answers count)
    (behind_answers number) first second
    (sym (text_parts nodes links asked network over) ∙ same ∙ text_parts nodes links asked other beside) in
    let numbers = cut_numbers count number (10 ∷ []) (10 ∷ []) short brief refl refl
    (append_cancel_left (codes "streams ") _ _ parts.1) in
    (parts.0, numbers.number)

pub admission_is_told : AdmissionIsTold
admission_is_told = record { behind = told_behind; all = told }
