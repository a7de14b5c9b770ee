-- The fault that a text gives is its first one.
use Rattle.std.proofs.Common.{◌≡◌, ◌⊎◌, ℕ, ◌+◌, Bool, true, false, not, cond, List, [], ◌∷◌, ◌++◌, length}
use Rattle.std.proofs.Common.{Result, Ok, Err, refl, sym, ap, ◌∙◌, subst, inl, inr, arith, append_assoc, length-append}
use Rattle.std.proofs.lemmas.List.{append-nil}
use Rattle.std.proofs.lemmas.List.Elements.{filter-append}
use Rattle.std.proofs.lemmas.Bool.{false≢true}
use Rattle.ats_io.specs.Text.{lines_of, words_of}
use Rattle.ats_num.specs.Failure.{◌>>=◌}
use Rattle.ats_network.specs.Network.{DeclaredNetwork}
use Rattle.ats_requests.specs.declared.request.Request.{Request}
use Rattle.ats_words.specs.Words.{is_skipped}
use Rattle.ats_request_file.specs.Reading.{asked_in, with_line, requests_from, requests_of}
use Rattle.ats_request_file.specs.FaultLaw.{AreFaultless, AreRead, HasFault, IsFirstFault, asking}
use Rattle.ats_request_file.specs.declared.fault.RequestFault.{RequestFault}

-- with a line more, one more asks something, unless it is skipped
asking_more : (before : List (List ℕ)) (line : List ℕ) (b : Bool) → is_skipped line ≡ b
    → length (asking (before ++ line ∷ [])) ≡ length (asking before) + (cond b 0 1)
asking_more before line b e =
    ap (λ (ls : List (List ℕ)). length ls) (filter-append (λ l. not (is_skipped l)) before (line ∷ []))
    ∙ length-append (asking before) (asking (line ∷ [])) ∙ last b e
  where
    last : (t : Bool) → is_skipped line ≡ t
        → length (asking before) + length (asking (line ∷ [])) ≡ length (asking before) + (cond t 0 1)
    last true p =
        ap (λ (v : Bool). length (asking before) + length (let ls : List (List ℕ) = cond (not v) (line ∷ []) [] in ls))
        p
    last false p =
        ap (λ (v : Bool). length (asking before) + length (let ls : List (List ℕ) = cond (not v) (line ∷ []) [] in ls))
        p

-- what is known of a line by its answer
abbrev Told : DeclaredNetwork → List (List ℕ) → List ℕ → Result (List Request) RequestFault → Type 0
Told network before line (Ok more) = (length more ≡ length (asking (before ++ line ∷ [])))
    × ((fault : RequestFault) → HasFault network before line fault → ⊥)
Told network before line (Err fault) = HasFault network before line fault

told : (network : DeclaredNetwork) (requests : List Request) (before : List (List ℕ)) (line : List ℕ)
    → length requests ≡ length (asking before)
    → Told network before line (with_line network requests (length before + 1) line)
told network requests before line many =
    by (is_skipped line) refl (asked_in network (length requests) (length before + 1) (words_of line)) refl
  where
    by : (b : Bool) → is_skipped line ≡ b → (r : Result Request RequestFault)
        → asked_in network (length requests) (length before + 1) (words_of line) ≡ r
        → Told network before line (cond b (Ok requests) (r >>= λ request. Ok (requests ++ request ∷ [])))
    by true e r f = (
      let more = asking_more before line true e in omega (arith, many, more),
      λ fault h. absurd (false≢true (sym h.counts ∙ e)),
    )
    by false e (Err fault) f = record {
      counts = e;
      found = ap (λ (m : ℕ). asked_in network m (length before + 1) (words_of line)) (sym many) ∙ f;
    }
    by false e (Ok request) f = (
      let more = asking_more before line false e in
          let long : length (requests ++ request ∷ []) ≡ length requests + 1 = length-append requests (request ∷ []) in
          omega (arith, many, more, long),
      λ fault h. (
          let clash : Ok request ≡ Err fault =
          sym f ∙ ap (λ (m : ℕ). asked_in network m (length before + 1) (words_of line)) many ∙ h.found in cc),
    )

-- a list without lines has none at fault
not_nothing : (before : List (List ℕ)) (line : List ℕ) (after : List (List ℕ)) → before ++ line ∷ after ≡ [] → ⊥
not_nothing [] line after e = cc
not_nothing (x ∷ xs) line after e = cc

-- a line of a list with one line more is the last, or one of the list
record IsEarlier (before b : List (List ℕ)) (l : List ℕ) : Type 0 where
  after : List (List ℕ)
  cut : b ++ l ∷ after ≡ before

in_more : (b : List (List ℕ)) (l : List ℕ) (a : List (List ℕ)) (before : List (List ℕ)) (line : List ℕ)
    → b ++ l ∷ a ≡ before ++ line ∷ [] → ((b ≡ before) × (l ≡ line)) ⊎ IsEarlier before b l
in_more [] l a [] line e = inl (refl, cc)
in_more [] l a (x ∷ xs) line e = inr (record { after = xs; cut = cc })
in_more (y ∷ b) l a [] line e = absurd (not_nothing b l a cc)
in_more (y ∷ b) l a (x ∷ xs) line e =
    let same : y ≡ x = cc in
    let rest : b ++ l ∷ a ≡ xs ++ line ∷ [] = cc in
    elim (in_more b l a xs line rest) [
      | inl h ↦ (let p = h.0 in inl (cc, h.1))
      | inr h ↦ (let p = h.cut in inr (record { after = h.after; cut = cc }))
    ]

faultless_more : (network : DeclaredNetwork) (before : List (List ℕ)) (line : List ℕ) → AreFaultless network before
    → ((fault : RequestFault) → HasFault network before line fault → ⊥)
    → AreFaultless network (before ++ line ∷ [])
faultless_more network before line h sound = λ b l a fault e found.
    elim (in_more b l a before line e) [
      | inl p ↦ sound fault (subst (λ (ls : List (List ℕ)). HasFault network ls line fault) p.0
          (subst (λ (x : List ℕ). HasFault network b x fault) p.1 found))
      | inr p ↦ h b l p.after fault p.cut found
    ]

one_more : (before : List (List ℕ)) (line : List ℕ) → length (before ++ line ∷ []) + 1 ≡ (length before + 1) + 1
one_more before line = ap (λ (k : ℕ). k + 1) (length-append before (line ∷ []))

-- what is known where all lines are answered
abbrev Outcome : DeclaredNetwork → List (List ℕ) → Result (List Request) RequestFault → Type 0
Outcome network lines (Ok requests) = AreRead network lines requests
Outcome network lines (Err fault) = IsFirstFault network lines fault

-- the answer on a line, and then on those behind it
answered : (network : DeclaredNetwork) (before : List (List ℕ)) (line : List ℕ) (lines : List (List ℕ))
    (r : Result (List Request) RequestFault) → AreFaultless network before → Told network before line r
    → ((more : List Request) → length more ≡ length (asking (before ++ line ∷ []))
    → AreFaultless network (before ++ line ∷ []) → Outcome network ((before ++ line ∷ []) ++ lines)
    (requests_from network more (length (before ++ line ∷ []) + 1) lines))
    → Outcome network (before ++ line ∷ lines)
    (r >>= λ more. requests_from network more ((length before + 1) + 1) lines)
answered network before line lines (Err fault) faultless known next = record {
  before = before;
  line = line;
  after = lines;
  cut = refl;
  faultless = faultless;
  found = known;
}
answered network before line lines (Ok more) faultless known next =
    subst (λ (n : ℕ). Outcome network (before ++ line ∷ lines) (requests_from network more n lines))
    (one_more before line)
    (subst (λ (ls : List (List ℕ)). Outcome network ls
    (requests_from network more (length (before ++ line ∷ []) + 1) lines))
    (append_assoc before (line ∷ []) lines)
    (next more known.0 (faultless_more network before line faultless known.1)))

outcome_from : (network : DeclaredNetwork) (requests : List Request) (before lines : List (List ℕ))
    → length requests ≡ length (asking before) → AreFaultless network before
    → Outcome network (before ++ lines) (requests_from network requests (length before + 1) lines)
outcome_from network requests before [] many faultless =
    subst (λ (ls : List (List ℕ)). AreRead network ls requests) (sym (append-nil before))
    (record { faultless = faultless; many = many })
outcome_from network requests before (line ∷ lines) many faultless =
    answered network before line lines (with_line network requests (length before + 1) line) faultless
    (told network requests before line many)
    (λ more same f. outcome_from network more (before ++ line ∷ []) lines same f)

outcome : (network : DeclaredNetwork) (text : List ℕ)
    → Outcome network (lines_of text) (requests_of network text)
outcome network text =
    outcome_from network [] [] (lines_of text) refl (λ before line after fault e h. not_nothing before line after e)

pub request_is_read : (network : DeclaredNetwork) (text : List ℕ) (requests : List Request)
    → requests_of network text ≡ Ok requests → AreRead network (lines_of text) requests
request_is_read network text requests e =
    subst (λ (r : Result (List Request) RequestFault). Outcome network (lines_of text) r) e (outcome network text)

pub fault_is_first : (network : DeclaredNetwork) (text : List ℕ) (fault : RequestFault)
    → requests_of network text ≡ Err fault → IsFirstFault network (lines_of text) fault
fault_is_first network text fault e =
    subst (λ (r : Result (List Request) RequestFault). Outcome network (lines_of text) r) e (outcome network text)

-- the fault of a line is answered
at_fault : (network : DeclaredNetwork) (requests : List Request) (before : List (List ℕ)) (line : List ℕ)
    (fault : RequestFault) → length requests ≡ length (asking before) → HasFault network before line fault
    → with_line network requests (length before + 1) line ≡ Err fault
at_fault network requests before line fault many h =
    ap (λ (b : Bool). let r : Result (List Request) RequestFault = cond b (Ok requests)
    (asked_in network (length requests) (length before + 1) (words_of line)
    >>= λ request. Ok (requests ++ request ∷ [])) in r) h.counts
    ∙ ap (λ (m : ℕ). asked_in network m (length before + 1) (words_of line)
    >>= λ request. Ok (requests ++ request ∷ [])) many
    ∙ ap (λ (r : Result Request RequestFault). r >>= λ request. Ok (requests ++ request ∷ [])) h.found

passed : (network : DeclaredNetwork) (before : List (List ℕ)) (line : List ℕ) (lines : List (List ℕ))
    (fault : RequestFault) (r : Result (List Request) RequestFault)
    → ((f : RequestFault) → HasFault network before line f → ⊥) → Told network before line r
    → ((more : List Request) → length more ≡ length (asking (before ++ line ∷ []))
    → requests_from network more (length (before ++ line ∷ []) + 1) lines ≡ Err fault)
    → (r >>= λ more. requests_from network more ((length before + 1) + 1) lines) ≡ Err fault
passed network before line lines fault (Err f) sound known next = absurd (sound f known)
passed network before line lines fault (Ok more) sound known next =
    ap (λ (n : ℕ). requests_from network more n lines) (sym (one_more before line)) ∙ next more known.0

first_answered : (network : DeclaredNetwork) (requests : List Request) (before lines : List (List ℕ)) (line : List ℕ)
    (after : List (List ℕ)) (fault : RequestFault) → length requests ≡ length (asking before)
    → AreFaultless network (before ++ lines) → HasFault network (before ++ lines) line fault
    → requests_from network requests (length before + 1) (lines ++ line ∷ after) ≡ Err fault
first_answered network requests before [] line after fault many faultless found =
    let here : HasFault network before line fault =
    subst (λ (ls : List (List ℕ)). HasFault network ls line fault) (append-nil before) found in
    ap (λ (r : Result (List Request) RequestFault).
    r >>= λ more. requests_from network more ((length before + 1) + 1) after)
    (at_fault network requests before line fault many here)
first_answered network requests before (l ∷ lines) line after fault many faultless found =
    passed network before l (lines ++ line ∷ after) fault (with_line network requests (length before + 1) l)
    (λ f. faultless before l lines f refl) (told network requests before l many)
    (λ more same. first_answered network more (before ++ l ∷ []) lines line after fault same
    (subst (λ (ls : List (List ℕ)). AreFaultless network ls) (sym (append_assoc before (l ∷ []) lines)) faultless)
    (subst (λ (ls : List (List ℕ)). HasFault network ls line fault) (sym (append_assoc before (l ∷ []) lines)) found))

pub first_is_answered : (network : DeclaredNetwork) (text : List ℕ) (fault : RequestFault)
    → IsFirstFault network (lines_of text) fault → requests_of network text ≡ Err fault
first_is_answered network text fault h =
    ap (λ (ls : List (List ℕ)). requests_from network [] 1 ls) (sym h.cut)
    ∙ first_answered network [] [] h.before h.line h.after fault refl h.faultless h.found
