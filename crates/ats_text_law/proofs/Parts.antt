-- The line of a hop that is explained tells its parts.
use Rattle.std.proofs.Common.{cond, true, false, Bool, ◌-◌}
use Rattle.std.proofs.Common.{◌≡◌, ◌∙◌, ℕ, List, ◌∷◌, ◌++◌, get_or, Option, Some, None, refl, sym, ap, arith}
use Rattle.std.proofs.Common.{append_assoc}
use Rattle.std.specs.Prelude.{codes, decimal}
use Rattle.std.proofs.lemmas.List.{append_cancel_left}
use Rattle.ats_topology.specs.Topology.{DeclaredTopology}
use Rattle.ats_port_names.specs.PortName.{port_name}
use Rattle.ats_network.specs.Listeners.{listener_text}
use Rattle.ats_explain.specs.Margins.{is_late}
use Rattle.ats_explain.specs.declared.margin.Margin.{Margin}
use Rattle.ats_explain.specs.declared.parts.Parts.{Parts}
use Rattle.ats_explain.specs.declared.parts.Stay.{Stay}
use Rattle.ats_explain_text.specs.Text.{bound_text, hop_line, kind_text, parts_text, sender_text, slack_text}
use Rattle.ats_explain_text.specs.Text.{stay_text, stream_line, wait_text}
use Rattle.ats_text_law.specs.Short.{IsShort}
use Rattle.ats_text_law.specs.Explained.{HasShortParts, IsNamed, IsShortStay, PartsTheSame}
use Rattle.ats_text_law.proofs.Words.{IsBehind, IsWord, cut, cut_numbers, name_word}

sender_word : (sender : Option (List ℕ)) → IsNamed sender → IsWord (sender_text sender)
sender_word None named = (refl, tt)
sender_word (Some name) named = name_word name named

-- two stays and what stands behind them
record AreStays (s t : Option Stay) (b y : List ℕ) : Type 0 where
  stay_is : s ≡ t
  rest : b ≡ y

abbrev first : List ℕ → ℕ
first text = get_or text 0 0

same_stay : (s t : Stay) → s.need ≡ t.need → s.residence ≡ t.residence → Some s ≡ Some t
same_stay s t n r =
    ap (λ k. Some (record { need = k; residence = s.residence })) n
    ∙ ap (λ k. Some (record { need = t.need; residence = k })) r

cut_stays : (s t : Option Stay) (b y : List ℕ) → IsShortStay s → IsShortStay t
    → stay_text s ++ 10 ∷ b ≡ stay_text t ++ 10 ∷ y → AreStays s t b y
cut_stays None None b y short brief same = record { stay_is = refl; rest = cc same }
cut_stays None (Some t) b y short brief same = absurd (omega (arith, ap first same))
cut_stays (Some s) None b y short brief same = absurd (omega (arith, ap first same))
cut_stays (Some s) (Some t) b y short brief same =
    let left : stay_text (Some s) ++ 10 ∷ b
    ≡ codes " stay " ++ (decimal s.need ++ (codes " of " ++ (decimal s.residence ++ 10 ∷ b))) =
    simp append_assoc refl in
    let right : stay_text (Some t) ++ 10 ∷ y
    ≡ codes " stay " ++ (decimal t.need ++ (codes " of " ++ (decimal t.residence ++ 10 ∷ y))) =
    simp append_assoc refl in
    let needs = cut_numbers s.need t.need (codes " of " ++ (decimal s.residence ++ 10 ∷ b))
    (codes " of " ++ (decimal t.residence ++ 10 ∷ y)) short.0 brief.0 refl refl
    (append_cancel_left (codes " stay ") _ _ (sym left ∙ same ∙ right)) in
    let times = cut_numbers s.residence t.residence (10 ∷ b) (10 ∷ y) short.1 brief.1 refl refl
    (append_cancel_left (codes " of ") _ _ needs.rest) in
    record { stay_is = same_stay s t needs.number times.number; rest = cc times.rest }

behind_bound : (s : Option Stay) (b : List ℕ) → IsBehind (stay_text s ++ 10 ∷ b)
behind_bound None b = refl
behind_bound (Some s) b = refl

bound_then : Parts → List ℕ → List ℕ
bound_then p b = codes " bound " ++ (decimal p.bound ++ (stay_text p.stay ++ 10 ∷ b))

latency_then : Parts → List ℕ → List ℕ
latency_then p b = codes " latency " ++ (decimal p.latency ++ bound_then p b)

frame_then : Parts → List ℕ → List ℕ
frame_then p b = codes " frame " ++ (decimal p.frame ++ latency_then p b)

higher_then : Parts → List ℕ → List ℕ
higher_then p b = codes " higher " ++ (decimal p.higher ++ frame_then p b)

bursts_then : Parts → List ℕ → List ℕ
bursts_then p b = codes " bursts " ++ (decimal p.bursts ++ higher_then p b)

sender_then : Parts → List ℕ → List ℕ
sender_then p b = codes " " ++ (sender_text p.sender ++ bursts_then p b)

lower_then : Parts → List ℕ → List ℕ
lower_then p b = codes " lower " ++ (decimal p.lower ++ sender_then p b)

-- seven texts and one more, as they are joined, and what stands behind
eight : (a b c d e f g h : List ℕ) → a ++ b ++ c ++ d ++ e ++ f ++ g ++ h
    ≡ a ++ (b ++ (c ++ (d ++ (e ++ (f ++ (g ++ h))))))
eight a b c d e f g h = simp append_assoc refl

five : (a b c d e : List ℕ) → a ++ b ++ c ++ d ++ e ≡ a ++ (b ++ (c ++ (d ++ e)))
five a b c d e = simp append_assoc refl

six : (a b c d e f : List ℕ) → a ++ b ++ c ++ d ++ e ++ f ≡ a ++ (b ++ (c ++ (d ++ (e ++ f))))
six a b c d e f = simp append_assoc refl

wait_parts : (p : Parts) (b : List ℕ) → wait_text p ++ frame_then p b ≡ lower_then p b
unfolding wait_text lower_then sender_then bursts_then higher_then
wait_parts p b =
    append_assoc (codes " lower " ++ decimal p.lower ++ codes " " ++ sender_text p.sender ++ codes " bursts "
    ++ decimal p.bursts ++ codes " higher ") (decimal p.higher) (frame_then p b)
    ∙ eight (codes " lower ") (decimal p.lower) (codes " ") (sender_text p.sender) (codes " bursts ")
    (decimal p.bursts) (codes " higher ") (decimal p.higher ++ frame_then p b)

bound_parts : (p : Parts) (b : List ℕ) → bound_text p ++ (stay_text p.stay ++ 10 ∷ b) ≡ frame_then p b
unfolding bound_text frame_then latency_then bound_then
bound_parts p b =
    append_assoc (codes " frame " ++ decimal p.frame ++ codes " latency " ++ decimal p.latency ++ codes " bound ")
    (decimal p.bound) (stay_text p.stay ++ 10 ∷ b)
    ∙ six (codes " frame ") (decimal p.frame) (codes " latency ") (decimal p.latency) (codes " bound ")
    (decimal p.bound ++ (stay_text p.stay ++ 10 ∷ b))

-- the line of a hop, with what stands behind it, as it is cut
hop_front : DeclaredTopology → ℕ → List ℕ
hop_front topology port = codes "hop " ++ port_name topology port ++ codes " "

hop_parts : (topology : DeclaredTopology) (port class : ℕ) (p : Parts) (b : List ℕ)
    → hop_line topology port class p ++ b ≡ hop_front topology port ++ (decimal class ++ lower_then p b)
unfolding hop_line hop_front
hop_parts topology port class p b =
    let front : List ℕ = codes "hop " ++ port_name topology port ++ codes " " in
    append_assoc (front ++ decimal class ++ parts_text p) (codes "\n") b
    ∙ append_assoc (front ++ decimal class) (parts_text p) (10 ∷ b)
    ∙ append_assoc front (decimal class) (parts_text p ++ 10 ∷ b)
    ∙ ap (λ t. front ++ (decimal class ++ t))
    (append_assoc (wait_text p ++ bound_text p) (stay_text p.stay) (10 ∷ b)
    ∙ append_assoc (wait_text p) (bound_text p) (stay_text p.stay ++ 10 ∷ b)
    ∙ ap (λ t. wait_text p ++ t) (bound_parts p b) ∙ wait_parts p b)

-- a class and parts, and what stands behind their line
pub record AreHops (class other : ℕ) (p q : Parts) (b y : List ℕ) : Type 0 where
  pub class_is : class ≡ other
  pub parts_are : PartsTheSame p q
  pub rest : b ≡ y

pub cut_hops : (topology : DeclaredTopology) (port class other : ℕ) (p q : Parts) (b y : List ℕ) → IsShort class
    → IsShort other → HasShortParts p → HasShortParts q
    → hop_line topology port class p ++ b ≡ hop_line topology port other q ++ y → AreHops class other p q b y
unfolding lower_then sender_then bursts_then higher_then frame_then latency_then bound_then
cut_hops topology port class other p q b y small few short brief same =
    let classes = cut_numbers class other (lower_then p b) (lower_then q y) small few refl refl
    (append_cancel_left (hop_front topology port) _ _
    (sym (hop_parts topology port class p b) ∙ same ∙ hop_parts topology port other q y)) in
    let lower = cut_numbers p.lower q.lower (sender_then p b) (sender_then q y) short.lower brief.lower refl refl
    (append_cancel_left (codes " lower ") _ _ classes.rest) in
    let senders = cut (sender_text p.sender) (sender_text q.sender) (bursts_then p b) (bursts_then q y)
    (sender_word p.sender short.sender) (sender_word q.sender brief.sender) refl refl
    (append_cancel_left (codes " ") _ _ lower.rest) in
    let bursts = cut_numbers p.bursts q.bursts (higher_then p b) (higher_then q y) short.bursts brief.bursts refl refl
    (append_cancel_left (codes " bursts ") _ _ senders.rest) in
    let higher = cut_numbers p.higher q.higher (frame_then p b) (frame_then q y) short.higher brief.higher refl refl
    (append_cancel_left (codes " higher ") _ _ bursts.rest) in
    let frames = cut_numbers p.frame q.frame (latency_then p b) (latency_then q y) short.frame brief.frame refl refl
    (append_cancel_left (codes " frame ") _ _ higher.rest) in
    let latency = cut_numbers p.latency q.latency (bound_then p b) (bound_then q y) short.latency brief.latency refl
    refl (append_cancel_left (codes " latency ") _ _ frames.rest) in
    let bounds = cut_numbers p.bound q.bound (stay_text p.stay ++ 10 ∷ b) (stay_text q.stay ++ 10 ∷ y) short.bound
    brief.bound (behind_bound p.stay b) (behind_bound q.stay y)
    (append_cancel_left (codes " bound ") _ _ latency.rest) in
    let stays = cut_stays p.stay q.stay b y short.stay brief.stay bounds.rest in
    record {
      class_is = classes.number;
      parts_are = record {
        lower = lower.number;
        sender = senders.word;
        bursts = bursts.number;
        higher = higher.number;
        frame = frames.number;
        latency = latency.number;
        bound = bounds.number;
        stay = stays.stay_is;
      };
      rest = stays.rest;
    }

-- two margins and what stands behind their lines
pub record AreMargins (m n : Margin) (b y : List ℕ) : Type 0 where
  pub margin_is : m ≡ n
  pub rest : b ≡ y

slack_then : Margin → List ℕ → List ℕ
slack_then m b = slack_text m ++ 10 ∷ b

deadline_then : Margin → List ℕ → List ℕ
deadline_then m b = codes " deadline " ++ (decimal m.deadline ++ slack_then m b)

stream_parts : (name : List ℕ) (listener : Option (List ℕ)) (m : Margin) (b : List ℕ) → stream_line name listener m ++ b
    ≡ (kind_text listener ++ listener_text name listener ++ codes " sum ") ++ (decimal m.sum ++ deadline_then m b)
unfolding stream_line deadline_then slack_then
stream_parts name listener m b =
    let front : List ℕ = kind_text listener ++ listener_text name listener ++ codes " sum " in
    append_assoc (front ++ decimal m.sum ++ codes " deadline " ++ decimal m.deadline ++ slack_text m) (codes "\n") b
    ∙ append_assoc (front ++ decimal m.sum ++ codes " deadline " ++ decimal m.deadline) (slack_text m) (10 ∷ b)
    ∙ five front (decimal m.sum) (codes " deadline ") (decimal m.deadline) (slack_text m ++ 10 ∷ b)

same_margin : (m n : Margin) → m.sum ≡ n.sum → m.deadline ≡ n.deadline → m ≡ n
same_margin m n s d =
    ap (λ k. record { sum = k; deadline = m.deadline }) s ∙ ap (λ k. record { sum = n.sum; deadline = k }) d

behind_slack : (m : Margin) (b : List ℕ) → IsBehind (slack_then m b)
unfolding slack_then
behind_slack m b = by (is_late m)
  where
    by : (late : Bool)
        → IsBehind (cond late (codes " late " ++ decimal (m.sum - m.deadline))
        (codes " slack " ++ decimal (m.deadline - m.sum)) ++ 10 ∷ b)
    by true = refl
    by false = refl

-- what stands behind the lines of one margin
behind_margin : (m n : Margin) (b y : List ℕ) → m ≡ n → slack_then m b ≡ slack_then n y → b ≡ y
unfolding slack_then
behind_margin m n b y one tails =
    let both : 10 ∷ b ≡ 10 ∷ y =
    append_cancel_left (slack_text m) _ _ (tails ∙ ap (λ (k : Margin). slack_text k ++ 10 ∷ y) (sym one)) in
    cc both

pub cut_margins : (name : List ℕ) (listener : Option (List ℕ)) (m n : Margin) (b y : List ℕ) → IsShort m.sum
    → IsShort n.sum → IsShort m.deadline → IsShort n.deadline
    → stream_line name listener m ++ b ≡ stream_line name listener n ++ y → AreMargins m n b y
unfolding deadline_then
cut_margins name listener m n b y short brief few less same =
    let sums = cut_numbers m.sum n.sum (deadline_then m b) (deadline_then n y) short brief refl refl
    (append_cancel_left (kind_text listener ++ listener_text name listener ++ codes " sum ") _ _
    (sym (stream_parts name listener m b) ∙ same ∙ stream_parts name listener n y)) in
    let deadlines = cut_numbers m.deadline n.deadline (slack_then m b) (slack_then n y) few less (behind_slack m b)
    (behind_slack n y) (append_cancel_left (codes " deadline ") _ _ sums.rest) in
    record {
      margin_is = same_margin m n sums.number deadlines.number;
      rest = behind_margin m n b y (same_margin m n sums.number deadlines.number) deadlines.rest;
    }
