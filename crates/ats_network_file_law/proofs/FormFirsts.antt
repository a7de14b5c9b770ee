-- The first fault of a table, and of all that is judged of a file, by a search.
use Rattle.std.proofs.Common.{◌≡◌, ◌∙◌, ◌+◌, Bool, true, false, cond, List, [], ◌∷◌, ◌++◌, Option, Some}
use Rattle.std.proofs.Common.{None, refl, sym, ap, subst, arith}
use Rattle.std.specs.Prelude.{nat_lt, ◌<◌}
use Rattle.std.specs.List.{All}
use Rattle.std.specs.Option.{option_or}
use Rattle.std.proofs.lemmas.Bool.Decides.{nat_tests}
use Rattle.std.proofs.lemmas.List.Elements.{All-nil, All-cons, All-head, All-tail}
use Rattle.ats_network_table.specs.Walk.{Entry, has_unknown, is_missing, wrong_kind}
use Rattle.ats_network_table.specs.declared.key.Key.{Key}
use Rattle.ats_network_table.specs.declared.fault.DocumentFault.{DocumentFault}
use Rattle.ats_network_table.specs.declared.fault.DocumentFault.TheVariants.{NotToml, Missing, Unknown, WrongKind}
use Rattle.ats_network_table.specs.declared.fault.DocumentFault.TheVariants.{Limit}
use Rattle.ats_network_file_law.specs.First.{NoneIn}
use Rattle.ats_network_file_law.specs.FormFaults.{HasPieceFault, HasTableFault, IsComplete}
use Rattle.ats_network_file_law.specs.FormFaults.{IsFirstKey, IsFirstOf, IsWell, Names, Piece, array, is_wrong, keys_in}
use Rattle.ats_network_file_law.specs.FormFaults.{table}

-- the fault of a key that passes a test
abbrev pub key_fault : (Key → DocumentFault) → (Key → Bool) → Key → Option DocumentFault
key_fault kind test k = cond (test k) (Some (kind k)) None

-- the fault of the first key that passes
abbrev pub first_fault : (Key → DocumentFault) → (Key → Bool) → List Key → Option DocumentFault
first_fault kind test [] = None
first_fault kind test (k ∷ ks) = option_or (key_fault kind test k) (first_fault kind test ks)

pub joined : (kind : Key → DocumentFault) (test : Key → Bool) (ks ls : List Key)
    → option_or (first_fault kind test ks) (first_fault kind test ls) ≡ first_fault kind test (ks ++ ls)
joined kind test [] ls = refl
joined kind test (k ∷ ks) ls = by (key_fault kind test k) (joined kind test ks ls)
  where
    by : (o : Option DocumentFault)
        → option_or (first_fault kind test ks) (first_fault kind test ls) ≡ first_fault kind test (ks ++ ls)
        → option_or (option_or o (first_fault kind test ks)) (first_fault kind test ls)
        ≡ option_or o (first_fault kind test (ks ++ ls))
    by None rest = rest
    by (Some f) rest = refl

-- a fault of a key, which is the first
pub record Keyed (kind : Key → DocumentFault) (test : Key → Bool) (keys : List Key) (f : DocumentFault) : Type 0 where
  pub k : Key
  pub is : kind k ≡ f
  pub first : IsFirstKey test keys k

pub keyed : (kind : Key → DocumentFault) (test : Key → Bool) (keys : List Key) (f : DocumentFault)
    → first_fault kind test keys ≡ Some f → Keyed kind test keys f
keyed kind test [] f h = cc h
keyed kind test (k ∷ ks) f h = by (test k) refl (keyed kind test ks f) h
  where
    by : (b : Bool) → test k ≡ b → (first_fault kind test ks ≡ Some f → Keyed kind test ks f)
        → option_or (let o : Option DocumentFault = cond b (Some (kind k)) None in o) (first_fault kind test ks)
        ≡ Some f
        → Keyed kind test (k ∷ ks) f
    by true e rest g = record {
      k = k;
      is = cc g;
      first = record {
        number = 1;
        first = record {
          before = [];
          entry = k;
          after = ks;
          cut = refl;
          passes = e;
          earlier = All-nil (λ (x : Key). test x ≡ false);
          counted = refl;
        };
        is = refl;
      };
    }
    by false e rest g =
        let later = rest g in
        let counted = later.first.first.counted in
        record {
          k = later.k;
          is = later.is;
          first = record {
            number = later.first.number + 1;
            first = record {
              before = k ∷ later.first.first.before;
              entry = later.first.first.entry;
              after = later.first.first.after;
              cut = ap (λ (es : List Key). k ∷ es) later.first.first.cut;
              passes = later.first.first.passes;
              earlier = All-cons (λ (x : Key). test x ≡ false) k later.first.first.before e
                  later.first.first.earlier;
              counted = omega (arith, counted);
            };
            is = later.first.is;
          };
        }

-- behind keys that fail, one that passes is the first
key_found : (kind : Key → DocumentFault) (test : Key → Bool) (before : List Key) (k : Key) (after : List Key)
    → test k ≡ true → NoneIn test before → first_fault kind test (before ++ k ∷ after) ≡ Some (kind k)
key_found kind test [] k after passes none =
    ap (λ b. option_or (let o : Option DocumentFault = cond b (Some (kind k)) None in o) (first_fault kind test after))
    passes
key_found kind test (x ∷ before) k after passes none =
    ap (λ b. option_or (let o : Option DocumentFault = cond b (Some (kind x)) None in o)
    (first_fault kind test (before ++ k ∷ after))) (All-head (λ (y : Key). test y ≡ false) x before none)
    ∙ key_found kind test before k after passes (All-tail (λ (y : Key). test y ≡ false) x before none)

pub key_given : (kind : Key → DocumentFault) (test : Key → Bool) (keys : List Key) (k : Key) → IsFirstKey test keys k
    → first_fault kind test keys ≡ Some (kind k)
key_given kind test keys k h =
    let f = h.first in
    ap (first_fault kind test) (sym f.cut)
    ∙ key_found kind test f.before f.entry f.after f.passes f.earlier ∙ ap (λ (x : Key). Some (kind x)) h.is

pub keys_none : (kind : Key → DocumentFault) (test : Key → Bool) (keys : List Key)
    → first_fault kind test keys ≡ None → NoneIn test keys
keys_none kind test [] h = All-nil (λ (x : Key). test x ≡ false)
keys_none kind test (k ∷ ks) h = by (test k) refl (keys_none kind test ks) h
  where
    by : (b : Bool) → test k ≡ b → (first_fault kind test ks ≡ None → NoneIn test ks)
        → option_or (let o : Option DocumentFault = cond b (Some (kind k)) None in o) (first_fault kind test ks) ≡ None
        → NoneIn test (k ∷ ks)
    by true e rest g = cc g
    by false e rest g = All-cons (λ (x : Key). test x ≡ false) k ks e (rest g)

pub none_given : (kind : Key → DocumentFault) (test : Key → Bool) (keys : List Key) → NoneIn test keys
    → first_fault kind test keys ≡ None
none_given kind test [] h = refl
none_given kind test (k ∷ ks) h =
    ap (λ b. option_or (let o : Option DocumentFault = cond b (Some (kind k)) None in o) (first_fault kind test ks))
    (All-head (λ (x : Key). test x ≡ false) k ks h)
    ∙ none_given kind test ks (All-tail (λ (x : Key). test x ≡ false) k ks h)

-- the three searches of a table
abbrev pub missing_fault : Entry → Option DocumentFault
missing_fault e = first_fault (Missing e.table e.number) (is_missing e) (keys_in e)

abbrev pub unknown_fault : Entry → Option DocumentFault
unknown_fault e = cond (has_unknown (keys_in e) e.members) (Some (Unknown e.table e.number)) None

abbrev pub wrongs : Entry → List Key → Option DocumentFault
wrongs e ks = first_fault (wrong_kind e) (is_wrong e) ks

abbrev pub form_fault : Entry → Option DocumentFault
form_fault e = option_or (missing_fault e) (unknown_fault e)

abbrev pub table_fault : Entry → Option DocumentFault
table_fault e = option_or (form_fault e) (wrongs e (keys_in e))

-- a table names itself
itself : (e : Entry) → Names e e.table e.number
itself e = record { stands = refl; counted = refl }

table_had : (e : Entry) (f : DocumentFault) → table_fault e ≡ Some f → HasTableFault e f
table_had e f h = by (missing_fault e) refl (has_unknown (keys_in e) e.members) refl h
  where
    wrong : IsComplete e → has_unknown (keys_in e) e.members ≡ false → wrongs e (keys_in e) ≡ Some f
        → HasTableFault e f
    wrong complete known g =
        let first = keyed (wrong_kind e) (is_wrong e) (keys_in e) f g in
        subst (HasTableFault e) first.is
        (itself e, record { complete = complete; known = known; first = first.first })

    by : (o : Option DocumentFault) → missing_fault e ≡ o → (b : Bool) → has_unknown (keys_in e) e.members ≡ b
        → option_or (option_or o (cond b (Some (Unknown e.table e.number)) None)) (wrongs e (keys_in e)) ≡ Some f
        → HasTableFault e f
    by (Some g) m b u h =
        let same : g ≡ f = cc h in
        let first = keyed (Missing e.table e.number) (is_missing e) (keys_in e) g m in
        subst (HasTableFault e) (first.is ∙ same) (itself e, first.first)
    by None m true u h =
        let same : Unknown e.table e.number ≡ f = cc h in
        subst (HasTableFault e) same
        (itself e, record { complete = keys_none (Missing e.table e.number) (is_missing e) (keys_in e) m; unknown = u })
    by None m false u h = wrong (keys_none (Missing e.table e.number) (is_missing e) (keys_in e) m) u h

-- a table without a missing key
past_missing : (e : Entry) → IsComplete e → missing_fault e ≡ None
past_missing e h = none_given (Missing e.table e.number) (is_missing e) (keys_in e) h

table_given : (e : Entry) (f : DocumentFault) → HasTableFault e f → table_fault e ≡ Some f
table_given e (Missing t n k) h =
    ap (λ (o : Option DocumentFault). option_or (option_or o (unknown_fault e)) (wrongs e (keys_in e)))
    (key_given (Missing e.table e.number) (is_missing e) (keys_in e) k h.1)
    ∙ ap (λ u. Some (Missing u e.number k)) (sym h.0.stands) ∙ ap (λ u. Some (Missing t u k)) (sym h.0.counted)
table_given e (Unknown t n) h =
    ap (λ (o : Option DocumentFault). option_or (option_or o (unknown_fault e)) (wrongs e (keys_in e)))
    (past_missing e h.1.complete)
    ∙ ap (λ b. let o : Option DocumentFault = cond b (Some (Unknown e.table e.number)) None in
    option_or o (wrongs e (keys_in e))) h.1.unknown
    ∙ ap (λ u. Some (Unknown u e.number)) (sym h.0.stands) ∙ ap (λ u. Some (Unknown t u)) (sym h.0.counted)
table_given e (WrongKind t n k) h =
    ap (λ (o : Option DocumentFault). option_or (option_or o (unknown_fault e)) (wrongs e (keys_in e)))
    (past_missing e h.1.complete)
    ∙ ap (λ b. let o : Option DocumentFault = cond b (Some (Unknown e.table e.number)) None in
    option_or o (wrongs e (keys_in e))) h.1.known
    ∙ key_given (wrong_kind e) (is_wrong e) (keys_in e) k h.1.first
    ∙ ap (λ u. Some (WrongKind u e.number k)) (sym h.0.stands) ∙ ap (λ u. Some (WrongKind t u k)) (sym h.0.counted)
table_given e NotToml h = absurd h
table_given e (Limit t) h = absurd h

-- the fault of a piece, and the first of pieces
abbrev pub piece_fault : Piece → Option DocumentFault
piece_fault (array t most many) = cond (nat_lt most many) (Some (Limit t)) None
piece_fault (table e) = table_fault e

abbrev pub pieces_fault : List Piece → Option DocumentFault
pieces_fault [] = None
pieces_fault (p ∷ ps) = option_or (piece_fault p) (pieces_fault ps)

pub pieces_joined : (ps qs : List Piece)
    → option_or (pieces_fault ps) (pieces_fault qs) ≡ pieces_fault (ps ++ qs)
pieces_joined [] qs = refl
pieces_joined (p ∷ ps) qs = by (piece_fault p) (pieces_joined ps qs)
  where
    by : (o : Option DocumentFault) → option_or (pieces_fault ps) (pieces_fault qs) ≡ pieces_fault (ps ++ qs)
        → option_or (option_or o (pieces_fault ps)) (pieces_fault qs) ≡ option_or o (pieces_fault (ps ++ qs))
    by None rest = rest
    by (Some f) rest = refl

piece_had : (p : Piece) (f : DocumentFault) → piece_fault p ≡ Some f → HasPieceFault p f
piece_had (table e) f h = table_had e f h
piece_had (array t most many) f h = by (nat_lt most many) refl h
  where
    by : (b : Bool) → nat_lt most many ≡ b → (let o : Option DocumentFault = cond b (Some (Limit t)) None in o) ≡ Some f
        → HasPieceFault (array t most many) f
    by true e g =
        let same : Limit t ≡ f = cc g in
        let over : most < many = grind (arith, nat_tests) in
        subst (HasPieceFault (array t most many)) same (refl, over)
    by false e g = cc g

piece_given : (p : Piece) (f : DocumentFault) → HasPieceFault p f → piece_fault p ≡ Some f
piece_given (table e) f h = table_given e f h
piece_given (array t most many) (Limit u) h =
    let below : most < many = h.1 in
    let over : nat_lt most many ≡ true = grind (arith, nat_tests) in
    ap (λ b. let o : Option DocumentFault = cond b (Some (Limit t)) None in o) over ∙ ap (λ v. Some (Limit v)) (sym h.0)
piece_given (array t most many) NotToml h = absurd h
piece_given (array t most many) (Missing u n k) h = absurd h
piece_given (array t most many) (Unknown u n) h = absurd h
piece_given (array t most many) (WrongKind u n k) h = absurd h

pub pieces_had : (ps : List Piece) (f : DocumentFault) → pieces_fault ps ≡ Some f → IsFirstOf ps f
pieces_had [] f h = cc h
pieces_had (p ∷ ps) f h = by (piece_fault p) refl (pieces_had ps f) h
  where
    by : (o : Option DocumentFault) → piece_fault p ≡ o → (pieces_fault ps ≡ Some f → IsFirstOf ps f)
        → option_or o (pieces_fault ps) ≡ Some f → IsFirstOf (p ∷ ps) f
    by (Some g) e rest h =
        let same : g ≡ f = cc h in
        record {
          before = [];
          piece = p;
          after = ps;
          cut = refl;
          well = All-nil IsWell;
          found = piece_had p f (e ∙ ap Some same);
        }
    by None e rest h =
        let later = rest h in
        let sound : IsWell p = λ g had. cc (sym e ∙ piece_given p g had) in
        record {
          before = p ∷ later.before;
          piece = later.piece;
          after = later.after;
          cut = ap (λ (es : List Piece). p ∷ es) later.cut;
          well = All-cons IsWell p later.before sound later.well;
          found = later.found;
        }

-- a piece without a fault gives none
well_none : (p : Piece) → IsWell p → piece_fault p ≡ None
well_none p h = by (piece_fault p) refl
  where
    by : (o : Option DocumentFault) → piece_fault p ≡ o → piece_fault p ≡ None
    by None e = e
    by (Some g) e = absurd (h g (piece_had p g e))

behind_well : (before : List Piece) (p : Piece) (after : List Piece) (f : DocumentFault) → All IsWell before
    → HasPieceFault p f → pieces_fault (before ++ p ∷ after) ≡ Some f
behind_well [] p after f well had =
    ap (λ (o : Option DocumentFault). option_or o (pieces_fault after)) (piece_given p f had)
behind_well (x ∷ before) p after f well had =
    ap (λ (o : Option DocumentFault). option_or o (pieces_fault (before ++ p ∷ after)))
    (well_none x (All-head IsWell x before well))
    ∙ behind_well before p after f (All-tail IsWell x before well) had

pub pieces_given : (ps : List Piece) (f : DocumentFault) → IsFirstOf ps f → pieces_fault ps ≡ Some f
pieces_given ps f h =
    ap pieces_fault (sym h.cut) ∙ behind_well h.before h.piece h.after f h.well h.found
