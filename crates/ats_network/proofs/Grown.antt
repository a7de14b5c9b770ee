-- A stream with one branch more, the last of its legs.
use Rattle.std.proofs.Common.{◌≡◌, ℕ, suc, ◌+◌, ◌-◌, ◌<◌, ◌≤◌, List, [], ◌∷◌, ◌++◌, length, take, drop}
use Rattle.std.proofs.Common.{refl, sym, ap, subst, ◌∙◌, arith, length-append, length-drop}
use Rattle.std.specs.List.{slice_range}
use Rattle.std.proofs.Math.Seq.{drop-append_seam, take-append_seam}
use Rattle.std.proofs.lemmas.List.{drop-append-le, get_or_append_left, take-append-le}
use Rattle.ats_streams.specs.Branches.{AreBranches, Ascend, BeginEarlier, BeginsEarlier, joined, lead_to, leads_from}
use Rattle.ats_streams.specs.Branches.{leads_of, leg_at, legs_from, legs_of, routes_of}
use Rattle.ats_streams.specs.declared.branch.Branch.{Branch}
use Rattle.ats_streams.proofs.BranchLemmas.{leads-length, legs-length}

legs_grow : (at : ℕ) (ports own : List ℕ) (branches : List Branch) (b : Branch) → Ascend at branches (length ports)
    → at ≤ length ports → b.first ≡ length ports
    → legs_from at (ports ++ own) (branches ++ b ∷ []) ≡ legs_from at ports branches ++ own ∷ []
legs_grow at ports own [] b ascend within last =
    let rest : drop at (ports ++ own) ≡ drop at ports ++ own = drop-append-le at ports own within in
    let many : b.first - at ≡ length (drop at ports) = omega (arith, last, within, length-drop at ports) in
    let front : slice_range (ports ++ own) at b.first ≡ drop at ports =
    ap (λ (l : List ℕ). take (b.first - at) l) rest
    ∙ ap (λ (n : ℕ). take n (drop at ports ++ own)) many
    ∙ take-append_seam (drop at ports) own in
    let back : drop b.first (ports ++ own) ≡ own =
    ap (λ (n : ℕ). drop n (ports ++ own)) last ∙ drop-append_seam ports own in
    ap (λ (l : List ℕ). l ∷ drop b.first (ports ++ own) ∷ []) front
    ∙ ap (λ (l : List ℕ). drop at ports ∷ l ∷ []) back
legs_grow at ports own (c ∷ branches) b ascend within last =
    let rest : drop at (ports ++ own) ≡ drop at ports ++ own = drop-append-le at ports own within in
    let front : slice_range (ports ++ own) at c.first ≡ slice_range ports at c.first =
    ap (λ (l : List ℕ). take (c.first - at) l) rest
    ∙ take-append-le (c.first - at) (drop at ports) own (omega (arith, ascend.1, length-drop at ports)) in
    ap (λ (l : List ℕ). l ∷ legs_from c.first (ports ++ own) (branches ++ b ∷ [])) front
    ∙ ap (λ (l : List (List ℕ)). slice_range ports at c.first ∷ l)
    (legs_grow c.first ports own branches b ascend.2 (omega (arith, ascend.1)) last)

-- a leg behind the others does not change what leads to a branch of one of them
lead_stays : (legs leads : List (List ℕ)) (own : List ℕ) (b : Branch) → b.leg < length legs
    → lead_to (legs ++ own ∷ []) leads b ≡ lead_to legs leads b
lead_stays legs leads own b within =
    ap (λ (l : List ℕ). leg_at leads b.leg ++ take b.hop l) (get_or_append_left legs (own ∷ []) [] b.leg within)

leads_grow : (legs leads : List (List ℕ)) (own : List ℕ) (branches : List Branch) (b : Branch)
    → BeginEarlier legs (length leads) branches → length leads + length branches ≤ length legs → b.leg < length legs
    → leads_from (legs ++ own ∷ []) leads (branches ++ b ∷ [])
    ≡ leads_from legs leads branches ++ lead_to legs (leads_from legs leads branches) b ∷ []
leads_grow legs leads own [] b begin many within =
    ap (λ (l : List ℕ). leads ++ l ∷ []) (lead_stays legs leads own b within)
leads_grow legs leads own (c ∷ branches) b begin many within =
    let lead : List ℕ = lead_to legs leads c in
    let more : List (List ℕ) = leads ++ lead ∷ [] in
    let long : length more ≡ length leads + 1 = length-append leads (lead ∷ []) in
    let earlier : c.leg < length legs = omega (arith, begin.0.earlier, many) in
    ap (λ (l : List ℕ). leads_from (legs ++ own ∷ []) (leads ++ l ∷ []) (branches ++ b ∷ []))
    (lead_stays legs leads own c earlier)
    ∙ leads_grow legs more own branches b
    (subst (λ (k : ℕ). BeginEarlier legs k branches) (sym long) begin.1) (omega (arith, many, long)) within

joined_grow : (leads legs : List (List ℕ)) (lead leg : List ℕ) → length leads ≡ length legs
    → joined (leads ++ lead ∷ []) (legs ++ leg ∷ []) ≡ joined leads legs ++ (lead ++ leg) ∷ []
joined_grow [] [] lead leg same = refl
joined_grow [] (g ∷ legs) lead leg same = absurd (omega arith)
joined_grow (l ∷ leads) [] lead leg same = absurd (omega arith)
joined_grow (l ∷ leads) (g ∷ legs) lead leg same =
    ap (λ (rest : List (List ℕ)). (l ++ g) ∷ rest) (joined_grow leads legs lead leg (omega arith))

ascend_grow : (at : ℕ) (branches : List Branch) (b : Branch) (end later : ℕ) → Ascend at branches end → at < end
    → b.first ≡ end → end < later → Ascend at (branches ++ b ∷ []) later
ascend_grow at [] b end later ascend before last more =
    (omega (arith, before, last), omega (arith, last, more), tt)
ascend_grow at (c ∷ branches) b end later ascend before last more =
    (ascend.0, omega (arith, ascend.1, more), ascend_grow c.first branches b end later ascend.2 ascend.1 last more)

begin_grow : (legs : List (List ℕ)) (own : List ℕ) (number : ℕ) (branches : List Branch) (b : Branch)
    → BeginEarlier legs number branches → number + length branches ≤ length legs
    → BeginsEarlier legs (number + length branches) b → BeginEarlier (legs ++ own ∷ []) number (branches ++ b ∷ [])
begin_grow legs own number [] b begin many begins = (
  record {
    earlier = omega (arith, begins.earlier);
    at_talker = begins.at_talker;
    within = subst (λ (l : List ℕ). b.hop < length l)
        (sym (get_or_append_left legs (own ∷ []) [] b.leg (omega (arith, begins.earlier, many)))) begins.within;
  },
  tt,
)
begin_grow legs own number (c ∷ branches) b begin many begins = (
  record {
    earlier = begin.0.earlier;
    at_talker = begin.0.at_talker;
    within = subst (λ (l : List ℕ). c.hop < length l)
        (sym (get_or_append_left legs (own ∷ []) [] c.leg (omega (arith, begin.0.earlier, many)))) begin.0.within;
  },
  begin_grow legs own (number + 1) branches b begin.1 (omega (arith, many))
      (subst (λ (k : ℕ). BeginsEarlier legs k b) (omega arith) begins),
)

-- a branch that begins at a leg of a stream, and its ports
pub record Grows (ports own : List ℕ) (branches : List Branch) (b : Branch) : Type 0 where
  pub are : AreBranches (ports ++ own) (branches ++ b ∷ [])
  pub legs : legs_of (ports ++ own) (branches ++ b ∷ []) ≡ legs_of ports branches ++ own ∷ []
  pub routes : routes_of (ports ++ own) (branches ++ b ∷ [])
      ≡ routes_of ports branches ++ (lead_to (legs_of ports branches) (leads_of ports branches) b ++ own) ∷ []

pub grows : (ports own : List ℕ) (branches : List Branch) (b : Branch) → AreBranches ports branches
    → 1 ≤ length ports → 1 ≤ length own → b.first ≡ length ports
    → BeginsEarlier (legs_of ports branches) (1 + length branches) b → 1 + length branches ≤ 65535
    → Grows ports own branches b
grows ports own branches b are some own_some last begins few =
    let legs : List (List ℕ) = legs_of ports branches in
    let leads : List (List ℕ) = leads_of ports branches in
    let count : length legs ≡ suc (length branches) = legs-length 0 ports branches in
    let as_many : length leads ≡ 1 + length branches = leads-length legs ([] ∷ []) branches in
    let grown : legs_of (ports ++ own) (branches ++ b ∷ []) ≡ legs ++ own ∷ [] =
    legs_grow 0 ports own branches b are.places (omega arith) last in
    let led : leads_of (ports ++ own) (branches ++ b ∷ []) ≡ leads ++ lead_to legs leads b ∷ [] =
    ap (λ (l : List (List ℕ)). leads_from l ([] ∷ []) (branches ++ b ∷ [])) grown
    ∙ leads_grow legs ([] ∷ []) own branches b are.begin (omega (arith, count))
    (omega (arith, begins.earlier, count)) in
    record {
      are = record {
        places = ascend_grow 0 branches b (length ports) (length (ports ++ own)) are.places (omega (arith, some)) last
            (omega (arith, own_some, length-append ports own));
        begin = subst (λ (l : List (List ℕ)). BeginEarlier l 1 (branches ++ b ∷ [])) (sym grown)
            (begin_grow legs own 1 branches b are.begin (omega (arith, count)) begins);
        few = omega (arith, few, length-append branches (b ∷ []));
      };
      legs = grown;
      routes = ap (λ (l : List (List ℕ)). joined l (legs_of (ports ++ own) (branches ++ b ∷ []))) led
          ∙ ap (λ (l : List (List ℕ)). joined (leads ++ lead_to legs leads b ∷ []) l) grown
          ∙ joined_grow leads legs (lead_to legs leads b) own (omega (arith, count, as_many));
    }
