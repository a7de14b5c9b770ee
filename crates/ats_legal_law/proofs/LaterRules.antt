use Rattle.std.proofs.Common.{◌≡◌, ℕ, ◌+◌, ◌*◌, ◌<◌, ◌≤◌, List, ◌++◌, map, get_or, All, inl, inr, arith}
use Rattle.std.specs.Prelude.{◌≢◌}
use Rattle.std.proofs.lemmas.List.Elements.{All-append, All-map, All-weaker}
use Rattle.ats_facts.proofs.Lists.{all_left, all_right, all_unmapped}
use Rattle.ats_port_rule.specs.Transmission.{Transmission}
use Rattle.ats_port_rule.specs.PortRule.{IsAhead, AreApart, StartsAfterGap, KeepsPortRule}
use Rattle.ats_trace.specs.Projections.{Crossing}
use Rattle.ats_trace.specs.Links.{ArrivesWithin, KeepsTimes}
use Rattle.ats_legal_law.proofs.LaterParts.{later_transmission, later_crossing}
use Rattle.ats_legal_law.proofs.ListFacts.{all_of_all-map, all_of_all-append, all_across, pairs-map, pairs-append}

-- The rules of a port and of a link, later, and of two lists one behind the other.

apart_later : (more by : ℕ) (x y : Transmission) → AreApart x y
    → AreApart (later_transmission more by x) (later_transmission more by y)
apart_later more by x y (inl before) = inl (omega arith)
apart_later more by x y (inr after) = inr (omega arith)

abbrev Chosen : Transmission → Transmission → Type 0
Chosen x y = x.start < y.start → y.eligible ≤ x.start → IsAhead x y

chosen_later : (more by : ℕ) (x y : Transmission) → Chosen x y
    → Chosen (later_transmission more by x) (later_transmission more by y)
chosen_later more by x y chosen before eligible =
    let ahead : IsAhead x y = chosen (omega arith) (omega arith) in
    record { class = ahead.class; no_later = λ same. (let le = ahead.no_later same in omega arith) }

gap_later : (more by : ℕ) (sent : List Transmission) (x : Transmission)
    → StartsAfterGap (map (later_transmission more by) sent) (later_transmission more by x) → StartsAfterGap sent x
gap_later more by sent x gap =
    let Differs : Transmission → Type 0 = λ (z : Transmission). z.end ≢ (later_transmission more by x).start in
    All-weaker (λ (z : Transmission). Differs (later_transmission more by z)) (λ (z : Transmission). z.end ≢ x.start)
    (λ z differs same. differs (omega arith)) sent
    (all_unmapped Differs (later_transmission more by) sent gap)

rule_later : (more by ps : ℕ) (sent : List Transmission) → KeepsPortRule ps sent
    → KeepsPortRule ps (map (later_transmission more by) sent)
rule_later more by ps sent rule =
    let moved : Transmission → Transmission = later_transmission more by in
    let Prompt : Transmission → Transmission → Type 0 = λ (x y : Transmission).
    StartsAfterGap (map moved sent) x → x.start ≤ y.start → x.start ≤ y.eligible in
    record {
      waits = All-map (λ (x : Transmission). x.eligible ≤ x.start) moved sent
          (λ k d h. (let le = rule.waits k d h in omega arith));
      takes = All-map (λ (x : Transmission). x.end ≡ x.start + ps * x.bits) moved sent
          (λ k d h. (let same = rule.takes k d h in omega (arith, same)));
      apart = pairs-map AreApart moved sent
          (λ i j d before within. apart_later more by (get_or sent i d) (get_or sent j d)
          (rule.apart i j d before within));
      chosen = all_of_all-map Chosen moved sent
          (λ k d h l e i. chosen_later more by (get_or sent k d) (get_or sent l e) (rule.chosen k d h l e i));
      prompt = all_of_all-map Prompt moved sent
          (λ k d h l e i gap first. (
          let le = rule.prompt k d h l e i (gap_later more by sent (get_or sent k d) gap) (omega arith) in
          omega arith));
    }

-- what has ended by one time, and what is not eligible before another, and takes its time
abbrev pub HasEndedBy : ℕ → Transmission → Type 0
HasEndedBy over x = x.end ≤ over

abbrev BeginsFrom : ℕ → Transmission → Type 0
BeginsFrom by x = (by ≤ x.eligible) × (x.eligible ≤ x.start)

abbrev EndsBy : ℕ → Transmission → Type 0
EndsBy over x = (x.end ≤ over) × (x.start ≤ x.end)

rule_joined : (ps over by : ℕ) (first second : List Transmission) → over < by → KeepsPortRule ps first
    → KeepsPortRule ps second → All (EndsBy over) first → All (BeginsFrom by) second
    → KeepsPortRule ps (first ++ second)
rule_joined ps over by first second after one two ended begun =
    let Prompt : Transmission → Transmission → Type 0 = λ (x y : Transmission).
    StartsAfterGap (first ++ second) x → x.start ≤ y.start → x.start ≤ y.eligible in
    record {
      waits = All-append (λ (x : Transmission). x.eligible ≤ x.start) first second one.waits two.waits;
      takes = All-append (λ (x : Transmission). x.end ≡ x.start + ps * x.bits) first second one.takes two.takes;
      apart = pairs-append AreApart first second one.apart two.apart
          (all_across (EndsBy over) (BeginsFrom by) AreApart (λ x y p q. inl (omega (arith, p.0, q.0, q.1)))
          first second ended begun);
      chosen = all_of_all-append Chosen first second one.chosen
          (all_across (EndsBy over) (BeginsFrom by) Chosen
          (λ x y p q before eligible. absurd (omega (arith, p.0, p.1, q.0))) first second ended begun)
          (all_across (BeginsFrom by) (EndsBy over) Chosen
          (λ x y p q before eligible. absurd (omega (arith, p.0, p.1, q.0, q.1))) second first begun ended)
          two.chosen;
      prompt = all_of_all-append Prompt first second
          (λ k d h l e i gap. one.prompt k d h l e i
          (all_left (λ (z : Transmission). z.end ≢ (get_or first k d).start) first second gap))
          (all_across (EndsBy over) (BeginsFrom by) Prompt
          (λ x y p q gap before. omega (arith, p.0, p.1, q.0)) first second ended begun)
          (all_across (BeginsFrom by) (EndsBy over) Prompt
          (λ x y p q gap before. absurd (omega (arith, p.0, p.1, q.0, q.1))) second first begun ended)
          (λ k d h l e i gap. two.prompt k d h l e i
          (all_right (λ (z : Transmission). z.end ≢ (get_or second k d).start) first second gap));
    }

-- a port's transmissions, and others later
pub rule_in_turn : (more ps over by : ℕ) (first second : List Transmission) → over < by → KeepsPortRule ps first
    → KeepsPortRule ps second → All (HasEndedBy over) first
    → KeepsPortRule ps (first ++ map (later_transmission more by) second)
rule_in_turn more ps over by first second after one two ended =
    let moved : Transmission → Transmission = later_transmission more by in
    rule_joined ps over by first (map moved second) after one (rule_later more by ps second two)
    (λ k d h. (ended k d h, (let takes = one.takes k d h in omega (arith, takes))))
    (All-map (BeginsFrom by) moved second (λ k d h. (omega arith, (let le = two.waits k d h in omega arith))))

abbrev pub HasArrivedBy : ℕ → Crossing → Type 0
HasArrivedBy over c = (c.sent.end ≤ over) × (c.arrival ≤ over)

-- a link's crossings, and others later
pub times_in_turn : (more least most over by : ℕ) (first second : List Crossing) → over < by
    → KeepsTimes least most first → KeepsTimes least most second → All (HasArrivedBy over) first
    → KeepsTimes least most (first ++ map (later_crossing more by) second)
times_in_turn more least most over by first second after one two arrived =
    let moved : Crossing → Crossing = later_crossing more by in
    let Order : Crossing → Crossing → Type 0 = λ (x y : Crossing). x.sent.end < y.sent.end → x.arrival < y.arrival in
    let Behind : Crossing → Type 0 = λ (c : Crossing). (by ≤ c.sent.end) × (by ≤ c.arrival) in
    let behind : All Behind (map moved second) = All-map Behind moved second (λ k d h. (omega arith, omega arith)) in
    record {
      within = All-append (ArrivesWithin least most) first (map moved second) one.within
          (All-map (ArrivesWithin least most) moved second
          (λ k d h. (
          let is = two.within k d h in
          record { earliest = omega (arith, is.earliest); latest = omega (arith, is.latest) })));
      order = all_of_all-append Order first (map moved second) one.order
          (all_across (HasArrivedBy over) Behind Order (λ x y p q before. omega (arith, p.1, q.1)) first
          (map moved second) arrived behind)
          (all_across Behind (HasArrivedBy over) Order (λ x y p q before. absurd (omega (arith, p.0, q.0)))
          (map moved second) first behind arrived)
          (all_of_all-map Order moved second
          (λ k d h l e i before. (let le = two.order k d h l e i (omega arith) in omega arith)));
    }
