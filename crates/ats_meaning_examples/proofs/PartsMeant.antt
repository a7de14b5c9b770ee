use Rattle.std.proofs.Common.{◌≡◌, ◌≢◌, ℕ, zero, suc, ◌+◌, ◌*◌, Bool, true, false, cond, List, [], ◌∷◌, ◌++◌, All}
use Rattle.std.proofs.Common.{Option, Some, None, get_or, take, drop, refl, sym, ap, subst, ◌∙◌, arith, lit<, sum_by}
use Rattle.std.specs.Prelude.{codes, find}
use Rattle.std.proofs.lemmas.Bool.{false≢true}
use Rattle.std.proofs.lemmas.List.Elements.{All-contains, All-head, All-tail}
use Rattle.ats_streams.specs.Branches.{routes_of}
use Rattle.ats_network.specs.Class.{class_at}
use Rattle.ats_network.specs.Edits.{no_stream}
use Rattle.ats_network.specs.Network.{DeclaredNetwork, senders_of}
use Rattle.ats_network.specs.Sender.{Sender, stream_sender}
use Rattle.ats_network.specs.Senders.{no_sender}
use Rattle.ats_certificate.specs.PortSums.{port_sums}
use Rattle.ats_certificate.specs.declared.row.Row.{Row}
use Rattle.ats_tally.proofs.Places.{IsPlace, is_place}
use Rattle.ats_bound.specs.First.{IsFirstBreach}
use Rattle.ats_bound.specs.Least.{least_row}
use Rattle.ats_bound.proofs.Waits.{least_row-only}
use Rattle.ats_explain.specs.Laws.{AreParts, EachStreamAddsUp, SendsLongest}
use Rattle.ats_explain.specs.Margins.{margin_on}
use Rattle.ats_explain.specs.Parts.{parts_at, parts_of_hop}
use Rattle.ats_explain.specs.Senders.{lower_name, name_of, sends_lower}
use Rattle.ats_explain.specs.declared.parts.Parts.{Parts}
use Rattle.ats_verdict_examples.specs.Networks.{below_and_flow}
use Rattle.ats_verdict_examples.proofs.NetworkProofs.{below_is}
use Rattle.ats_meaning_examples.specs.Parts.{ExplanationsAreMeant, NamesAreExact, PartsAreExact, line_and_flows}
use Rattle.ats_meaning_examples.specs.Parts.{of_flow, parts_of}
use Rattle.ats_meaning_examples.proofs.SendersMeant.{sending_lower, some_is_named}

-- Parts of bounds, and the names in them.

pub not_false : (b : Bool) → ¬ (b ≡ false) → b ≡ true
not_false true h = refl
not_false false h = absurd (h refl)

-- what stands behind those that fail a test, and passes it, is found
find_first : {X : Type 0} (test : X → Bool) (before after : List X) (x : X) → All (λ (y : X). test y ≡ false) before
    → test x ≡ true → find test (before ++ x ∷ after) ≡ Some x
find_first test [] after x kept passes = ap (λ (b : Bool). cond b (Some x) (find test after)) passes
find_first {X} test (y ∷ ys) after x kept passes =
    ap (λ (b : Bool). cond b (Some y) (find test (ys ++ x ∷ after)))
    (All-head (λ (z : X). test z ≡ false) y ys kept)
    ∙ find_first test ys after x (All-tail (λ (z : X). test z ≡ false) y ys kept) passes

-- so the name of the first sender with the longest frames is the one that is found
name_is : (network : DeclaredNetwork) (port class : ℕ) (name : List ℕ) → SendsLongest network port class name
    → lower_name network port class ≡ Some name
name_is network port class name longest =
    let test : Sender → Bool = sends_lower network.topology port class (port_sums network port class).lower in
    let first : IsFirstBreach (λ (s : Sender). test s ≡ false) (senders_of network) longest.sender = longest.first in
    let found : find test (first.before ++ longest.sender ∷ first.after) ≡ Some longest.sender =
    find_first test first.before first.after longest.sender first.kept
    (not_false (test longest.sender) first.breaks) in
    let among : find test (senders_of network) ≡ Some longest.sender =
    subst (λ (senders : List Sender). find test senders ≡ Some longest.sender) first.cut found in
    ap name_of among ∙ ap {B = Option (List ℕ)} (λ (name : List ℕ). Some name) longest.named

-- the first letter of a name
abbrev letter : Option (List ℕ) → ℕ
letter None = 0
letter (Some []) = 0
letter (Some (c ∷ cs)) = c

place : IsPlace below_and_flow 0 5
place = is_place below_and_flow 0 5 below_is refl

row_is : (parts : Parts) (h : AreParts below_and_flow 0 5 parts) → h.row ≡ least_row below_and_flow (0, 5)
row_is parts h =
    let at : IsPlace below_and_flow h.row.port h.row.class =
    subst (λ (p : ℕ). IsPlace below_and_flow p h.row.class) (sym h.port_is)
    (subst (λ (c : ℕ). IsPlace below_and_flow 0 c) (sym h.class_is) place) in
    least_row-only below_and_flow h.row at h.least
    ∙ ap (λ (p : ℕ). least_row below_and_flow (p, h.row.class)) h.port_is
    ∙ ap (λ (c : ℕ). least_row below_and_flow (0, c)) h.class_is

lower_is : (parts : Parts) → AreParts below_and_flow 0 5 parts → parts.lower ≡ 12336000
lower_is parts h = h.lower ∙ ap (λ (row : Row). 1000 * row.lower) (row_is parts h)

frame_is : (parts : Parts) → AreParts below_and_flow 0 5 parts → parts.frame ≡ 672000
frame_is parts h = h.frame ∙ ap (λ (row : Row). 1000 * row.least) (row_is parts h)

bursts_are : (parts : Parts) → AreParts below_and_flow 0 5 parts → parts.bursts + parts.frame ≡ 13008000
bursts_are parts h = h.bursts ∙ ap (λ (row : Row). 1000 * row.bursts) (row_is parts h)

wait_is : (parts : Parts) → AreParts below_and_flow 0 5 parts → parts.lower + parts.bursts + parts.higher ≡ 49344000
wait_is parts h = h.higher ∙ ap (λ (row : Row). row.wait) (row_is parts h)

bound_is : (parts : Parts) → AreParts below_and_flow 0 5 parts → parts.bound ≡ 51516000
bound_is parts h = h.bound_is ∙ ap (λ (row : Row). row.bound) (row_is parts h)

not_lower : ¬ AreParts below_and_flow 0 5 (parts_of 12336001 12336000 24671999 672000 1500000 51516000 of_flow)
not_lower h = let e : ◌≡◌ {A = ℕ} 12336001 12336000 = lower_is _ h in absurd (omega arith)

not_bursts : ¬ AreParts below_and_flow 0 5 (parts_of 12336000 12336001 24671999 672000 1500000 51516000 of_flow)
not_bursts h = let e : ◌≡◌ {A = ℕ} 13008001 13008000 = bursts_are _ h in absurd (omega arith)

not_higher : ¬ AreParts below_and_flow 0 5 (parts_of 12336000 12336000 24672001 672000 1500000 51516001 of_flow)
not_higher h = let e : ◌≡◌ {A = ℕ} 49344001 49344000 = wait_is _ h in absurd (omega arith)

not_frame : ¬ AreParts below_and_flow 0 5 (parts_of 12336000 12335999 24672001 672001 1500000 51516001 of_flow)
not_frame h = let e : ◌≡◌ {A = ℕ} 672001 672000 = frame_is _ h in absurd (omega arith)

not_latency : ¬ AreParts below_and_flow 0 5 (parts_of 12336000 12336000 24672000 672000 1500001 51516001 of_flow)
not_latency h = let e : ◌≡◌ {A = ℕ} 1500001 1500000 = h.latency in absurd (omega arith)

not_bound : ¬ AreParts below_and_flow 0 5 (parts_of 12336000 12336000 24672000 672000 1500000 51516001 of_flow)
not_bound h = let e : ◌≡◌ {A = ℕ} 51516001 51516000 = bound_is _ h in absurd (omega arith)

not_of_other : ¬ AreParts below_and_flow 0 5
    (parts_of 12336000 12336000 24672000 672000 1500000 51516000 (Some (codes "b")))
not_of_other h =
    let e : ◌≡◌ {A = ℕ} 102 98 = ap letter (name_is below_and_flow 0 5 (codes "b") h.sender) in
    absurd (omega arith)

not_of_none : ¬ AreParts below_and_flow 0 5 (parts_of 12336000 12336000 24672000 672000 1500000 51516000 None)
not_of_none h =
    let e : true ≡ false = h.sender 2 no_sender (lit< tt) in
    false≢true (sym e)

not_of_class : ¬ AreParts below_and_flow 0 5 (parts_at below_and_flow 0 6)
not_of_class h = let e : ◌≡◌ {A = ℕ} 26172000 51516000 = bound_is _ h in absurd (omega arith)

not_of_port : ¬ AreParts below_and_flow 0 5 (parts_at below_and_flow 2 5)
not_of_port h = let e : ◌≡◌ {A = ℕ} 50516000 51516000 = bound_is _ h in absurd (omega arith)

parts_are_exact : EachStreamAddsUp → PartsAreExact
parts_are_exact each_stream_adds_up = record {
  are = (each_stream_adds_up below_and_flow below_is refl 0 no_stream (lit< tt)).parts 0 0 (lit< tt);
  lower = not_lower;
  bursts = not_bursts;
  higher = not_higher;
  frame = not_frame;
  latency = not_latency;
  bound = not_bound;
  of_other = not_of_other;
  of_none = not_of_none;
  of_class = not_of_class;
  of_port = not_of_port;
}

-- the senders in front of the flow whose name it is
others_fail : All (λ (s : Sender). sends_lower line_and_flows.topology 0 6 12336 s ≡ false)
    (take 3 (senders_of line_and_flows))
others_fail zero d within = refl
others_fail (suc zero) d within = refl
others_fail (suc (suc zero)) d within = refl
others_fail (suc (suc (suc k))) d within = absurd (omega arith)

first_named : SendsLongest line_and_flows 0 6 (codes "f")
first_named = record {
  sender = get_or (senders_of line_and_flows) 3 no_sender;
  named = refl;
  uses = refl;
  lower = lit< tt;
  longest = refl;
  first = record {
    before = take 3 (senders_of line_and_flows);
    after = drop 4 (senders_of line_and_flows);
    cut = refl;
    kept = others_fail;
    breaks = λ h. false≢true (sym h);
  };
}

-- no other name is that of the sender
not_named : (name : List ℕ) → letter (Some name) ≢ 102 → ¬ SendsLongest line_and_flows 0 6 name
not_named name differ h = differ (sym (ap letter (name_is line_and_flows 0 6 name h)))

names_are_exact : NamesAreExact
names_are_exact = record {
  first = first_named;
  itself = not_named (codes "a") (λ e. (let e2 : ◌≡◌ {A = ℕ} 97 102 = e in absurd (omega arith)));
  elsewhere = not_named (codes "g") (λ e. (let e2 : ◌≡◌ {A = ℕ} 103 102 = e in absurd (omega arith)));
  shorter = not_named (codes "h") (λ e. (let e2 : ◌≡◌ {A = ℕ} 104 102 = e in absurd (omega arith)));
  next = not_named (codes "e") (λ e. (let e2 : ◌≡◌ {A = ℕ} 101 102 = e in absurd (omega arith)));
}

pub explanations_are_meant : EachStreamAddsUp → ExplanationsAreMeant
explanations_are_meant each_stream_adds_up = record {
  parts = parts_are_exact each_stream_adds_up;
  names = names_are_exact;
  sending = sending_lower;
  some = some_is_named;
  each_port = λ network stream port adds there. All-contains (λ (p : ℕ).
      AreParts network p (class_at (stream_sender stream) p) (parts_of_hop network stream p)) stream.ports port
      adds.parts there;
  sums = λ network stream route adds there. All-contains (λ (r : List ℕ).
      sum_by (λ p. (parts_of_hop network stream p).bound) r ≡ (margin_on network stream r).sum)
      (routes_of stream.ports stream.branches) route adds.sum there;
}
