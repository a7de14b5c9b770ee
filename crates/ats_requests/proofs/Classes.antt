-- The lowest class is the first that is accepted, and where there is none each class has a reason.
use Rattle.std.proofs.Common.{◌≡◌, ℕ, zero, suc, ◌+◌, ◌<◌, ◌≤◌, Bool, true, false, cond, List, [], ◌∷◌, length, get_or}
use Rattle.std.proofs.Common.{Option, Some, None, Result, Ok, Err, refl, sym, ap, subst, ◌∙◌, arith}
use Rattle.std.specs.List.{All, AllPairs, Contains}
use Rattle.std.specs.Option.{option_or, option_map}
use Rattle.std.proofs.lemmas.List.Elements.{All-cons, All-contains}
use Rattle.ats_facts.proofs.Lists.{pairs_head, pairs_tail}
use Rattle.ats_num.specs.Failure.{unless}
use Rattle.ats_streams.specs.Stream.{DeclaredStream, IsClass, with_class}
use Rattle.ats_network.specs.Network.{DeclaredNetwork}
use Rattle.ats_network.specs.Pushes.{is_beyond, is_name_taken}
use Rattle.ats_certificate.specs.Used.{stream_classes}
use Rattle.ats_tally.specs.declared.reason.Reason.{Reason}
use Rattle.ats_requests.specs.Admission.{admit, class_given, class_reason, entry_fault, first_class}
use Rattle.ats_requests.specs.Admission.{lowest_of, sum_given, sum_with}
use Rattle.ats_requests.specs.Laws.{AreReasons, IsFirstAccepted, LowestIsFirst, NoClassHasReasons}
use Rattle.ats_requests.specs.declared.denied.Denied.{Denied}
use Rattle.ats_requests.specs.declared.denied.Denied.TheVariants.{NameTaken, Limit, Because, NoClass}

-- the classes of streams in order
listed : (i d : ℕ) → i < 7 → get_or stream_classes i d ≡ i + 1
listed zero d h = refl
listed (suc zero) d h = refl
listed (suc (suc zero)) d h = refl
listed (suc (suc (suc zero))) d h = refl
listed (suc (suc (suc (suc zero)))) d h = refl
listed (suc (suc (suc (suc (suc zero))))) d h = refl
listed (suc (suc (suc (suc (suc (suc zero)))))) d h = refl
listed (suc (suc (suc (suc (suc (suc (suc i))))))) d h = absurd (omega arith)

pub ascend : AllPairs (λ a b. a < b) stream_classes
ascend i j d before within = omega (arith, listed i d (omega arith), listed j d (omega arith))

each_class : (P : ℕ → Type 0) (class : ℕ) → 1 ≤ class → class ≤ 7 → All P stream_classes → P class
each_class P zero least most all = absurd (omega arith)
each_class P (suc c) least most all =
    subst P (listed c 0 (omega arith) ∙ (let e : c + 1 ≡ suc c = omega arith in e)) (all c 0 (omega arith))

pub are_classes : All IsClass stream_classes
are_classes k d h =
    let is = listed k d h in record { least = omega (arith, is); most = omega (arith, is, h) }

module _ (network : DeclaredNetwork) (stream : DeclaredStream) where
  -- a class below another one brings a reason
  abbrev pub Before : ℕ → ℕ → Type 0
  Before class m = m < class → (reason : Reason) × (class_reason network stream m ≡ Some reason)

  -- what the search says of the classes of a list: the one that it finds brings no reason, and each that stands before
  -- it brings one
  pub record IsFirstFree (classes : List ℕ) (class : ℕ) : Type 0 where
    pub inside : Contains classes class
    pub free : class_reason network stream class ≡ None
    pub before : All (Before class) classes

  pub first_free : (classes : List ℕ) (class : ℕ) → AllPairs (λ a b. a < b) classes
      → lowest_of network stream classes ≡ Ok class → IsFirstFree classes class
  first_free [] class ordered h = absurd (let no : Err [] ≡ Ok class = h in cc)
  first_free (c ∷ classes) class ordered h =
      by (class_reason network stream c) refl (lowest_of network stream classes) refl h
      (first_free classes class (pairs_tail (λ a b. a < b) c classes ordered))
    where
      by : (o : Option Reason) → class_reason network stream c ≡ o → (r : Result ℕ (List Reason))
          → lowest_of network stream classes ≡ r → first_class c o r ≡ Ok class
          → (lowest_of network stream classes ≡ Ok class → IsFirstFree classes class)
          → IsFirstFree (c ∷ classes) class
      by None e r f h later =
          let same : c ≡ class = cc h in
          let ahead = pairs_head (λ a b. a < b) c classes ordered in
          record {
            inside = (zero, omega arith, same);
            free = ap (class_reason network stream) (sym same) ∙ e;
            before = All-cons (Before class) c classes (λ less. absurd (omega (arith, less, same)))
                (λ k d within less. absurd (omega (arith, less, same, ahead k d within)));
          }
      by (Some reason) e (Ok other) f h later =
          let rest : IsFirstFree classes class = later (f ∙ h) in
          record {
            inside = (suc rest.inside.0, omega (arith, rest.inside.1), rest.inside.2);
            free = rest.free;
            before = All-cons (Before class) c classes (λ less. (reason, e)) rest.before;
          }
      by (Some reason) e (Err reasons) f h later = absurd (let no : Err (reason ∷ reasons) ≡ Ok class = h in cc)

  -- the reasons that the search gives, one for each class
  pub record AreEach (classes : List ℕ) (reasons : List Reason) : Type 0 where
    pub many : length reasons ≡ length classes
    pub each : (k c : ℕ) (d : Reason) → k < length classes
        → class_reason network stream (get_or classes k c) ≡ Some (get_or reasons k d)

  all_reasons : (classes : List ℕ) (reasons : List Reason) → lowest_of network stream classes ≡ Err reasons
      → AreEach classes reasons
  all_reasons [] reasons h =
      let none : [] ≡ reasons = cc h in
      record { many = sym (ap length none); each = λ k c d within. absurd (omega arith) }
  all_reasons (c ∷ classes) reasons h =
      by (class_reason network stream c) refl (lowest_of network stream classes) refl h (all_reasons classes)
    where
      each : (reason : Reason) → class_reason network stream c ≡ Some reason → (rs : List Reason) → AreEach classes rs
          → (k a : ℕ) (d : Reason) → k < length (c ∷ classes)
          → class_reason network stream (get_or (c ∷ classes) k a) ≡ Some (get_or (reason ∷ rs) k d)
      each reason e rs rest zero a d within = e
      each reason e rs rest (suc k) a d within = rest.each k a d (omega arith)

      by : (o : Option Reason) → class_reason network stream c ≡ o → (r : Result ℕ (List Reason))
          → lowest_of network stream classes ≡ r → first_class c o r ≡ Err reasons
          → ((rs : List Reason) → lowest_of network stream classes ≡ Err rs → AreEach classes rs)
          → AreEach (c ∷ classes) reasons
      by None e r f h later = absurd (let no : Ok c ≡ Err reasons = h in cc)
      by (Some reason) e (Ok other) f h later = absurd (let no : Ok other ≡ Err reasons = h in cc)
      by (Some reason) e (Err rs) f h later =
          let rest : AreEach classes rs = later rs f in
          let whole : reason ∷ rs ≡ reasons = cc h in
          subst (λ (t : List Reason). AreEach (c ∷ classes) t) whole (record {
            many = omega (arith, rest.many);
            each = each reason e rs rest;
          })

  -- what is answered where the name is free and there is room
  refused_for : (class : ℕ) (reason : Reason) → entry_fault network stream ≡ None
      → class_reason network stream class ≡ Some reason
      → admit network (with_class stream class) ≡ Err (Because reason)
  refused_for class reason entry found =
      let sum : ℕ = sum_with network (with_class stream class) in
      ap (λ (o : Option Denied). unless (λ (d : Denied). d)
      (option_or o (option_map Because (class_reason network stream class))) sum) entry
      ∙ ap (λ (o : Option Reason). unless (λ (d : Denied). d) (option_map Because o) sum) found

  accepted_with : (class : ℕ) → entry_fault network stream ≡ None → class_reason network stream class ≡ None
      → admit network (with_class stream class) ≡ Ok (sum_with network (with_class stream class))
  accepted_with class entry none =
      let sum : ℕ = sum_with network (with_class stream class) in
      ap (λ (o : Option Denied). unless (λ (d : Denied). d)
      (option_or o (option_map Because (class_reason network stream class))) sum) entry
      ∙ ap (λ (o : Option Reason). unless (λ (d : Denied). d) (option_map Because o) sum) none

  first_accepted : (class : ℕ) → entry_fault network stream ≡ None → lowest_of network stream stream_classes ≡ Ok class
      → IsFirstAccepted network stream class (sum_with network (with_class stream class))
  first_accepted class entry found =
      let f : IsFirstFree stream_classes class = first_free stream_classes class ascend found in
      let is : IsClass class = All-contains IsClass stream_classes class are_classes f.inside in
      record {
        is_class = is;
        accepted = accepted_with class entry f.free;
        lower = λ c least less. (
            let r = each_class (Before class) c least
            (omega (arith, less, is.most)) f.before less in
            record { reason = r.0; refused = refused_for c r.0 entry r.1 });
      }

pub lowest_is_first : LowestIsFirst
lowest_is_first network stream class sum h =
    by (entry_fault network stream) refl (lowest_of network stream stream_classes) refl h
  where
    by : (o : Option Denied) → entry_fault network stream ≡ o → (r : Result ℕ (List Reason))
        → lowest_of network stream stream_classes ≡ r
        → sum_given network stream (class_given o r) ≡ Ok (class, sum) → IsFirstAccepted network stream class sum
    by (Some denied) e r f h = absurd (let no : Err denied ≡ Ok (class, sum) = h in cc)
    by None e (Err reasons) f h = absurd (let no : Err (NoClass reasons) ≡ Ok (class, sum) = h in cc)
    by None e (Ok c) f h =
        let pair : (c, sum_with network (with_class stream c)) ≡ (class, sum) = cc h in
        let first : c ≡ class = ap (λ (p : ℕ × ℕ). p.0) pair in
        let second : sum_with network (with_class stream c) ≡ sum = ap (λ (p : ℕ × ℕ). p.1) pair in
        subst (λ (s : ℕ). IsFirstAccepted network stream class s) second
        (subst (λ (n : ℕ). IsFirstAccepted network stream n (sum_with network (with_class stream c))) first
        (first_accepted network stream c e f))

-- what stands against an entry is no list of reasons
entry_other : (network : DeclaredNetwork) (stream : DeclaredStream) (reasons : List Reason) (P : Type 0)
    → entry_fault network stream ≡ Some (NoClass reasons) → P
entry_other network stream reasons P h =
    by (is_name_taken network stream.name) (is_beyond network stream) h
  where
    by : (a b : Bool) → cond a (Some NameTaken) (cond b (Some Limit) None) ≡ Some (NoClass reasons) → P
    by true b h = absurd (let no : Some NameTaken ≡ Some (NoClass reasons) = h in cc)
    by false true h = absurd (let no : Some Limit ≡ Some (NoClass reasons) = h in cc)
    by false false h = absurd (let no : None ≡ Some (NoClass reasons) = h in cc)

pub no_class_has_reasons : NoClassHasReasons
no_class_has_reasons network stream reasons h =
    by (entry_fault network stream) refl (lowest_of network stream stream_classes) refl h
  where
    by : (o : Option Denied) → entry_fault network stream ≡ o → (r : Result ℕ (List Reason))
        → lowest_of network stream stream_classes ≡ r
        → sum_given network stream (class_given o r) ≡ Err (NoClass reasons) → AreReasons network stream reasons
    by (Some denied) e r f h =
        let same : denied ≡ NoClass reasons = cc h in
        entry_other network stream reasons (AreReasons network stream reasons) (e ∙ ap Some same)
    by None e (Ok c) f h = absurd (let no : Ok (c, sum_with network (with_class stream c)) ≡ Err (NoClass reasons) = h
        in cc)
    by None e (Err rs) f h =
        let same : rs ≡ reasons = cc h in
        let all : AreEach network stream stream_classes reasons =
        all_reasons network stream stream_classes reasons (f ∙ ap Err same) in
        record {
          seven = all.many;
          each = λ class d within. refused_for network stream (class + 1) (get_or reasons class d) e
              (ap (class_reason network stream) (sym (listed class 0 within)) ∙ all.each class 0 d within);
        }
