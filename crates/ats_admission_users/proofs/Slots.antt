-- The slots of the paths that have a port.
use Rattle.std.proofs.Common.{◌≡◌, ◌≢◌, ℕ, zero, suc, ◌+◌, ◌<◌, Bool, true, false, cond, not, ◌||◌, eqb, List, []}
use Rattle.std.proofs.Common.{◌∷◌, ◌++◌}
use Rattle.std.proofs.Common.{length, map, get_or, refl, sym, ap, ◌∙◌, arith}
use Rattle.std.specs.List.{All, AllPairs, remove}
use Rattle.std.proofs.lemmas.Bool.{eq-eqb, eqb-true, ne_eqb}
use Rattle.std.proofs.lemmas.List.Elements.{All-nil, All-cons, All-head, All-tail, All-weaker}
use Rattle.std.proofs.lemmas.List.Kept.{AllPairs-cons}
use Rattle.ats_facts.proofs.Lists.{pairs_head, pairs_tail}
use Rattle.ats_admission_users.specs.Users.{IsHop, entry_at, has_port, hop_of, users_from, users_of}
use Rattle.ats_admission_users.specs.Lists.{AllDiffer, EntriesDiffer, without}
use Rattle.ats_admission_users.specs.declared.entry.Entry.{Entry}
use Rattle.ats_admission_users.proofs.UserLemmas.{users_from-later}

-- of paths with these slots, one by one, the entries of those that have a port
abbrev pub slots_at : ℕ → List (List ℕ) → List ℕ → List Entry
slots_at port (path ∷ paths) (slot ∷ slots) =
    cond (has_port port path) (entry_at port slot path ∷ slots_at port paths slots) (slots_at port paths slots)
slots_at port paths slots = []

-- images of images
pub mapped : {X Y Z : Type 0} (f : X → Y) (g : Y → Z) (xs : List X) → map g (map f xs) ≡ map (λ (x : X). g (f x)) xs
mapped f g [] = refl
mapped {X} {Y} {Z} f g (x ∷ xs) = ap (λ (zs : List Z). g (f x) ∷ zs) (mapped f g xs)

-- they are the entries at the numbers of these paths
pub users_listed : (port : ℕ) (paths : List (List ℕ)) (slots : List ℕ) → length slots ≡ length paths
    → map (λ n. entry_at port (get_or slots n 0) (get_or paths n [])) (users_of paths port) ≡ slots_at port paths slots
users_listed port [] slots many = refl
users_listed port (path ∷ paths) [] many = absurd (omega arith)
users_listed port (path ∷ paths) (slot ∷ slots) many =
    by (has_port port path) (ap (map entry) (users_from-later 0 port paths)
    ∙ mapped (λ m. suc m) entry (users_of paths port)
    ∙ users_listed port paths slots (omega arith))
  where
    entry : ℕ → Entry
    entry n = entry_at port (get_or (slot ∷ slots) n 0) (get_or (path ∷ paths) n [])

    by : (b : Bool) → map entry (users_from (0 + 1) port paths) ≡ slots_at port paths slots
        → map entry (cond b (0 ∷ users_from (0 + 1) port paths) (users_from (0 + 1) port paths))
        ≡ cond b (entry_at port slot path ∷ slots_at port paths slots) (slots_at port paths slots)
    by true h = ap (λ (t : List Entry). entry_at port slot path ∷ t) h
    by false h = h

-- a path more at the end
pub slots_at-push : (port : ℕ) (paths : List (List ℕ)) (slots : List ℕ) (path : List ℕ) (slot : ℕ)
    → length slots ≡ length paths → slots_at port (paths ++ path ∷ []) (slots ++ slot ∷ [])
    ≡ cond (has_port port path) (slots_at port paths slots ++ entry_at port slot path ∷ []) (slots_at port paths slots)
slots_at-push port [] [] path slot many = refl
slots_at-push port [] (s ∷ slots) path slot many = absurd (omega arith)
slots_at-push port (p ∷ paths) [] path slot many = absurd (omega arith)
slots_at-push port (p ∷ paths) (s ∷ slots) path slot many =
    by (has_port port p) (has_port port path) (slots_at-push port paths slots path slot (omega arith))
  where
    first : Entry
    first = entry_at port s p

    last : Entry
    last = entry_at port slot path

    by : (b t : Bool) → slots_at port (paths ++ path ∷ []) (slots ++ slot ∷ [])
        ≡ cond t (slots_at port paths slots ++ last ∷ []) (slots_at port paths slots)
        → cond b (first ∷ slots_at port (paths ++ path ∷ []) (slots ++ slot ∷ []))
        (slots_at port (paths ++ path ∷ []) (slots ++ slot ∷ []))
        ≡ cond t (cond b (first ∷ slots_at port paths slots) (slots_at port paths slots) ++ last ∷ [])
        (cond b (first ∷ slots_at port paths slots) (slots_at port paths slots))
    by true true h = ap (λ (l : List Entry). first ∷ l) h
    by true false h = ap (λ (l : List Entry). first ∷ l) h
    by false true h = h
    by false false h = h

-- what holds of all slots holds of those of these entries
pub slots_at-all : (P : ℕ → Type 0) (port : ℕ) (paths : List (List ℕ)) (slots : List ℕ) → All P slots
    → All (λ (e : Entry). P e.slot) (slots_at port paths slots)
slots_at-all P port [] slots all = All-nil (λ (e : Entry). P e.slot)
slots_at-all P port (path ∷ paths) [] all = All-nil (λ (e : Entry). P e.slot)
slots_at-all P port (path ∷ paths) (slot ∷ slots) all =
    by (has_port port path) (slots_at-all P port paths slots (All-tail P slot slots all))
  where
    by : (b : Bool) → All (λ (e : Entry). P e.slot) (slots_at port paths slots)
        → All (λ (e : Entry). P e.slot)
        (cond b (entry_at port slot path ∷ slots_at port paths slots) (slots_at port paths slots))
    by true h = All-cons (λ (e : Entry). P e.slot) (entry_at port slot path) (slots_at port paths slots)
        (All-head P slot slots all) h
    by false h = h

-- they differ
pub slots_at-differ : (port : ℕ) (paths : List (List ℕ)) (slots : List ℕ) → AllDiffer slots
    → EntriesDiffer (slots_at port paths slots)
slots_at-differ port [] slots differ = λ i j d before within. absurd (omega (arith, within))
slots_at-differ port (path ∷ paths) [] differ = λ i j d before within. absurd (omega (arith, within))
slots_at-differ port (path ∷ paths) (slot ∷ slots) differ =
    by (has_port port path)
    (slots_at-all (λ s. slot ≢ s) port paths slots (pairs_head (λ a b. a ≢ b) slot slots differ))
    (slots_at-differ port paths slots (pairs_tail (λ a b. a ≢ b) slot slots differ))
  where
    by : (b : Bool) → All (λ (e : Entry). slot ≢ e.slot) (slots_at port paths slots)
        → EntriesDiffer (slots_at port paths slots)
        → EntriesDiffer (cond b (entry_at port slot path ∷ slots_at port paths slots) (slots_at port paths slots))
    by true other h =
        AllPairs-cons (λ (a b : Entry). a.slot ≢ b.slot) (entry_at port slot path) (slots_at port paths slots) other h
    by false other h = h

-- a slot that is not there leaves a list as it is
pub without_absent : (slot : ℕ) (list : List Entry) → All (λ (e : Entry). e.slot ≢ slot) list
    → without slot list ≡ list
without_absent slot [] absent = refl
without_absent slot (e ∷ list) absent =
    ap (λ (b : Bool). cond (not b) (e ∷ without slot list) (without slot list))
    (ne_eqb e.slot slot (All-head (λ (f : Entry). f.slot ≢ slot) e list absent))
    ∙ ap (λ (l : List Entry). e ∷ l)
    (without_absent slot list (All-tail (λ (f : Entry). f.slot ≢ slot) e list absent))

-- where slots differ, to take one out is to be without it
pub without_at : (list : List Entry) (slot n : ℕ) (d : Entry) → EntriesDiffer list → n < length list
    → (get_or list n d).slot ≡ slot → remove list n ≡ without slot list
without_at [] slot n d differ within stands = absurd (omega arith)
without_at (e ∷ list) slot zero d differ within stands =
    sym (ap (λ (b : Bool). cond (not b) (e ∷ without slot list) (without slot list)) (eq-eqb e.slot slot stands)
    ∙ without_absent slot list
    (All-weaker (λ (f : Entry). e.slot ≢ f.slot) (λ (f : Entry). f.slot ≢ slot)
    (λ f other same. other (stands ∙ sym same)) list
    (pairs_head (λ (a b : Entry). a.slot ≢ b.slot) e list differ)))
without_at (e ∷ list) slot (suc n) d differ within stands =
    let other : e.slot ≢ (get_or list n d).slot =
    pairs_head (λ (a b : Entry). a.slot ≢ b.slot) e list differ n d (omega arith) in
    ap (λ (l : List Entry). e ∷ l)
    (without_at list slot n d (pairs_tail (λ (a b : Entry). a.slot ≢ b.slot) e list differ) (omega arith) stands)
    ∙ sym (ap (λ (b : Bool). cond (not b) (e ∷ without slot list) (without slot list))
    (ne_eqb e.slot slot (λ same. other (same ∙ sym stands))))

-- a path less, which has the port
pub slots_at-less : (port : ℕ) (paths : List (List ℕ)) (slots : List ℕ) (n : ℕ) → length slots ≡ length paths
    → n < length slots → AllDiffer slots → slots_at port (remove paths n) (remove slots n)
    ≡ without (get_or slots n 0) (slots_at port paths slots)
slots_at-less port paths [] n many within differ = absurd (omega arith)
slots_at-less port [] (slot ∷ slots) n many within differ = absurd (omega arith)
slots_at-less port (path ∷ paths) (slot ∷ slots) zero many within differ =
    by (has_port port path) (without_absent slot (slots_at port paths slots)
    (slots_at-all (λ s. s ≢ slot) port paths slots
    (All-weaker (λ s. slot ≢ s) (λ s. s ≢ slot) (λ s other e. other (sym e)) slots
    (pairs_head (λ a b. a ≢ b) slot slots differ))))
  where
    first : Entry
    first = entry_at port slot path

    same : eqb slot slot ≡ true
    same = eq-eqb slot slot refl

    by : (b : Bool) → without slot (slots_at port paths slots) ≡ slots_at port paths slots
        → slots_at port paths slots
        ≡ without slot (cond b (first ∷ slots_at port paths slots) (slots_at port paths slots))
    by true h =
        sym (ap (λ (t : Bool). cond (not t) (first ∷ without slot (slots_at port paths slots))
        (without slot (slots_at port paths slots))) same ∙ h)
    by false h = sym h
slots_at-less port (path ∷ paths) (slot ∷ slots) (suc n) many within differ =
    by (has_port port path)
    (slots_at-less port paths slots n (omega arith) (omega arith) (pairs_tail (λ a b. a ≢ b) slot slots differ))
  where
    first : Entry
    first = entry_at port slot path

    other : eqb slot (get_or slots n 0) ≡ false
    other = ne_eqb slot (get_or slots n 0) (pairs_head (λ a b. a ≢ b) slot slots differ n 0 (omega arith))

    by : (b : Bool) → slots_at port (remove paths n) (remove slots n)
        ≡ without (get_or slots n 0) (slots_at port paths slots)
        → cond b (first ∷ slots_at port (remove paths n) (remove slots n))
        (slots_at port (remove paths n) (remove slots n))
        ≡ without (get_or slots n 0) (cond b (first ∷ slots_at port paths slots) (slots_at port paths slots))
    by true h =
        ap (λ (l : List Entry). first ∷ l) h
        ∙ sym (ap (λ (t : Bool). cond (not t)
        (first ∷ without (get_or slots n 0) (slots_at port paths slots))
        (without (get_or slots n 0) (slots_at port paths slots))) other)
    by false h = h

-- a path less, which does not have the port
pub slots_at-other : (port : ℕ) (paths : List (List ℕ)) (slots : List ℕ) (n : ℕ) → length slots ≡ length paths
    → n < length slots → has_port port (get_or paths n []) ≡ false
    → slots_at port (remove paths n) (remove slots n) ≡ slots_at port paths slots
slots_at-other port paths [] n many within none = absurd (omega arith)
slots_at-other port [] (slot ∷ slots) n many within none = absurd (omega arith)
slots_at-other port (path ∷ paths) (slot ∷ slots) zero many within none =
    sym (ap (λ (b : Bool). cond b (entry_at port slot path ∷ slots_at port paths slots) (slots_at port paths slots))
    none)
slots_at-other port (path ∷ paths) (slot ∷ slots) (suc n) many within none =
    ap (λ (l : List Entry). cond (has_port port path) (entry_at port slot path ∷ l) l)
    (slots_at-other port paths slots n (omega arith) (omega arith) none)

-- the hop of a port that a path has
pub hop_stands : (port : ℕ) (path : List ℕ) → has_port port path ≡ true → IsHop port path (hop_of port path)
hop_stands port [] has = absurd (let no : false ≡ true = has in cc)
hop_stands port (p ∷ path) has = by (eqb p port) refl has (hop_stands port path)
  where
    by : (b : Bool) → eqb p port ≡ b → (b || has_port port path) ≡ true
        → (has_port port path ≡ true → IsHop port path (hop_of port path))
        → IsHop port (p ∷ path) (cond b 0 (hop_of port path + 1))
    by true e h behind = record { within = omega arith; stands = eqb-true p port e }
    by false e h behind =
        let further : IsHop port path (hop_of port path) = behind h in
        let next : hop_of port path + 1 ≡ suc (hop_of port path) = omega arith in
        record {
          within = omega (arith, further.within);
          stands = ap (λ (k : ℕ). get_or (p ∷ path) k 0) next ∙ further.stands;
        }

-- the hop of a port that stands at a place of a path which has no port twice
pub hop_at : (path : List ℕ) (i : ℕ) → AllPairs (λ p q. p ≢ q) path → i < length path
    → hop_of (get_or path i 0) path ≡ i
hop_at [] i apart within = absurd (omega arith)
hop_at (p ∷ path) zero apart within =
    ap (λ (b : Bool). cond b 0 (hop_of p path + 1)) (eq-eqb p p refl)
hop_at (p ∷ path) (suc i) apart within =
    ap (λ (b : Bool). cond b 0 (hop_of (get_or path i 0) path + 1))
    (ne_eqb p (get_or path i 0) (pairs_head (λ p q. p ≢ q) p path apart i 0 (omega arith)))
    ∙ ap (λ (k : ℕ). k + 1) (hop_at path i (pairs_tail (λ p q. p ≢ q) p path apart) (omega arith))
    ∙ (let e : i + 1 ≡ suc i = omega arith in e)
