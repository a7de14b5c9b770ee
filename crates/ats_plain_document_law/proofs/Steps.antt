-- What is read step by step, as far as the first fault.
use Rattle.std.proofs.Common.{◌≡◌, ◌∙◌, ◌↔◌, Option, Some, None, Result, Ok, Err, refl, sym, ap, subst}
use Rattle.std.specs.Option.{option_or}
use Rattle.ats_num.specs.Failure.{◌>>=◌}
use Rattle.ats_network_table.specs.declared.fault.DocumentFault.{DocumentFault}
use Rattle.ats_plain_document_law.specs.Faults.{fault_in}

-- something was read, of which this holds, and no fault was found; or this fault was
abbrev pub Told : {A : Type 0} → (A → Type 0) → Option DocumentFault → Result A DocumentFault → Type 0
Told G o (Ok x) = (o ≡ None) × G x
Told G o (Err f) = o ≡ Some f

-- one step in front of others
pub next : {A B : Type 0} (G : B → Type 0) (o : Option DocumentFault) (r : Result A DocumentFault)
    (k : A → Result B DocumentFault) → ((x : A) → r ≡ Ok x → Told G o (k x))
    → Told G (option_or (fault_in r) o) (r >>= k)
next G o (Ok x) k each = each x refl
next G o (Err f) k each = refl

-- a step that went well, in front of others
pub then_ok : {A B : Type 0} (r : Result A DocumentFault) (k : A → Result B DocumentFault) (x : A)
    (y : Result B DocumentFault) → r ≡ Ok x → k x ≡ y → (r >>= k) ≡ y
then_ok {A} r k x y is rest = ap (λ (s : Result A DocumentFault). s >>= k) is ∙ rest

-- what was read is what this holds of
pub read_only : {A : Type 0} (G : A → Type 0) (o : Option DocumentFault) (r : Result A DocumentFault) → Told G o r
    → (y : A) → r ≡ Ok y → G y
read_only G o (Ok x) t y h =
    let same : x ≡ y = cc h in
    subst G same t.1
read_only G o (Err f) t y h = cc h

-- and its fault is the one that was found
pub refused_by : {A : Type 0} (G : A → Type 0) (o : Option DocumentFault) (r : Result A DocumentFault) → Told G o r
    → (fault : DocumentFault) → r ≡ Err fault ↔ o ≡ Some fault
refused_by G o (Ok x) t fault = (
  (λ h. cc h),
  (λ h. (let no : None ≡ Some fault = sym t.0 ∙ h in cc no)),
)
refused_by G o (Err f) t fault = (
  (λ h. (let same : f ≡ fault = cc h in t ∙ ap Some same)),
  (λ h. (let same : f ≡ fault = cc (sym t ∙ h) in ap Err same)),
)
