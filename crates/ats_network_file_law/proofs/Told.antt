-- What is known of steps by the faults that they look for, one after another.
use Rattle.std.proofs.Common.{◌≡◌, Option, Some, None, Result, Ok, Err, sym, ap, subst}
use Rattle.std.specs.Option.{option_or}
use Rattle.ats_num.specs.Failure.{◌>>=◌}

-- a step ends at the fault that is looked for; where there is none, this is known of its value
abbrev pub Told : {A F : Type 0} → (A → Type 0) → Option F → Result A F → Type 0
Told G o (Ok x) = (o ≡ None) × G x
Told G o (Err f) = o ≡ Some f

-- two steps look for the faults of the first, and then of the second
pub chained : {A B F : Type 0} (G : A → Type 0) (H : B → Type 0) (o p : Option F) (r : Result A F)
    (k : A → Result B F) → Told G o r → ((x : A) → G x → Told H p (k x)) → Told H (option_or o p) (r >>= k)
chained {A} {B} {F} G H o p (Ok x) k t next =
    subst (λ (q : Option F). Told H (option_or q p) (k x)) (sym t.0) (next x t.1)
chained {A} {B} {F} G H o p (Err f) k t next = ap (λ (q : Option F). option_or q p) t

-- a last step that makes something of the value
pub made : {A B F : Type 0} (G : A → Type 0) (H : B → Type 0) (o : Option F) (r : Result A F) (g : A → B) → Told G o r
    → ((x : A) → G x → H (g x)) → Told H o (r >>= λ x. Ok (g x))
made G H o (Ok x) g t next = (t.0, next x t.1)
made G H o (Err f) g t next = t

-- the same with less that is known
pub weaker : {A F : Type 0} (G H : A → Type 0) (o : Option F) (r : Result A F) → Told G o r
    → ((x : A) → G x → H x) → Told H o r
weaker G H o (Ok x) t next = (t.0, next x t.1)
weaker G H o (Err f) t next = t

-- the same with faults that are the same
pub same_faults : {A F : Type 0} (G : A → Type 0) (o p : Option F) (r : Result A F) → o ≡ p → Told G o r → Told G p r
same_faults {A} {F} G o p r same t = subst (λ (q : Option F). Told G q r) same t
