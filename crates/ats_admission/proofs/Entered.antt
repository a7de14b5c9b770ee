-- What is answered to a stream, and what the network is then.
use Rattle.std.proofs.Common.{◌≡◌, ℕ, List, [], ◌∷◌, length, Option, Some, None, Result, Ok, Err}
use Rattle.std.proofs.Common.{refl, sym, ap, subst, ◌∙◌}
use Rattle.std.specs.Option.{option_map, option_or}
use Rattle.std.proofs.Math.Seq.{get_or-append_seam}
use Rattle.ats_num.specs.Failure.{Fails, IsDue, IsWithin, unless}
use Rattle.ats_num.specs.Places.{place_of}
use Rattle.ats_num.specs.declared.failure.Failure.{Failure}
use Rattle.ats_num.specs.declared.failure.Failure.TheVariants.{Fault, NoMemory}
use Rattle.ats_streams.specs.Stream.{DeclaredStream, with_class}
use Rattle.ats_network.specs.Edits.{no_stream, with_class_at}
use Rattle.ats_network.specs.Network.{DeclaredNetwork}
use Rattle.ats_network.specs.Pushes.{with_stream}
use Rattle.ats_network.specs.Tables.{stream_names}
use Rattle.ats_certificate.specs.Certificate.{bound_along}
use Rattle.ats_certificate.specs.Used.{stream_classes}
use Rattle.ats_tally.specs.declared.reason.Reason.{Reason}
use Rattle.ats_bound.specs.Least.{least_certificate}
use Rattle.ats_bound.specs.Reason.{reason_of}
use Rattle.ats_requests.proofs.Keeps.{admitted_keeps, entered, enters_with}
use Rattle.ats_requests.specs.Admission.{admit_lowest, class_given, class_reason, entry_fault, first_class, lowest_of}
use Rattle.ats_requests.specs.Admission.{admit, reason_with, sum_given, sum_with}
use Rattle.ats_requests.specs.Laws.{IsCertified}
use Rattle.ats_requests.specs.Requests.{MayEnter}
use Rattle.ats_requests.specs.declared.denied.Denied.{Denied}
use Rattle.ats_requests.specs.declared.denied.Denied.TheVariants.{Because, NoClass}
use Rattle.ats_admission_state.specs.Judged.{judged, sum_at}
use Rattle.ats_admission.specs.Judged.{AreSameBut, IsGiven, lowest_at, no_class}
use Rattle.ats_admission_shares.specs.PortShares.{without_at}
use Rattle.ats_admission.proofs.Classed.{classed_last, still_found, undone}
use Rattle.ats_admission.proofs.Judgements.{judged_err, judged_ok}

-- a stream came in: nothing stands against its entry, and it is the last, with this number
pub record IsIn (network : DeclaredNetwork) (stream : DeclaredStream) (n : ℕ) (between : DeclaredNetwork) : Type 0 where
  pub certified : IsCertified network
  pub may : MayEnter network stream
  pub free : entry_fault network stream ≡ None
  pub number : n ≡ length network.streams
  pub is : between ≡ with_stream network stream

-- where a sum is given for it, a certificate holds
pub in_certified : (network : DeclaredNetwork) (stream : DeclaredStream) (n : ℕ) (between : DeclaredNetwork) (sum : ℕ)
    → IsIn network stream n between → judged between n ≡ Ok sum → IsCertified between
in_certified network stream n between sum in' given =
    subst (λ (t : DeclaredNetwork). IsCertified t) (sym in'.is)
    (admitted_keeps network stream in'.certified in'.may in'.free
    (ap reason_of (sym in'.is) ∙ (judged_ok between n sum given).free)).certified

in_same : (network : DeclaredNetwork) (stream : DeclaredStream) (n : ℕ) (between after : DeclaredNetwork)
    → IsIn network stream n between → AreSameBut n between after
    → AreSameBut (length network.streams) (with_stream network stream) after
in_same network stream n between after in' same =
    subst (λ (m : ℕ). AreSameBut m (with_stream network stream) after) in'.number
    (subst (λ (t : DeclaredNetwork). AreSameBut n t after) in'.is same)

-- it is found by its name, whatever its classes
pub in_named : (network : DeclaredNetwork) (stream : DeclaredStream) (n : ℕ) (between after : DeclaredNetwork)
    (name : List ℕ) → IsIn network stream n between → AreSameBut n between after → name ≡ stream.name
    → place_of name (stream_names after.streams) ≡ Some n
in_named network stream n between after name in' same named =
    ap (λ (q : List ℕ). place_of q (stream_names after.streams)) named
    ∙ still_found network stream after (entered network stream in'.certified.rules in'.may in'.free)
    (in_same network stream n between after in' same)
    ∙ ap (λ (m : ℕ). Some m) (sym in'.number)

-- where it is taken out again, the network is what it was
pub out_again : (network : DeclaredNetwork) (stream : DeclaredStream) (n : ℕ) (between after new : DeclaredNetwork)
    → IsIn network stream n between → AreSameBut n between after → new ≡ without_at after n → new ≡ network
out_again network stream n between after new in' same taken =
    undone network stream after new (in_same network stream n between after in' same)
    (taken ∙ ap (without_at after) in'.number)

-- where it is refused, the answer is the reason
refused_answer : (network : DeclaredNetwork) (stream : DeclaredStream) (n : ℕ) (between : DeclaredNetwork)
    (reason : Reason) → IsIn network stream n between → judged between n ≡ Err reason
    → admit network stream ≡ Err (Because reason)
refused_answer network stream n between reason in' refused =
    let with_reason : reason_with network stream ≡ Some reason =
    ap reason_of (sym in'.is) ∙ judged_err between n reason refused in
    ap (λ (o : Option Denied). unless (λ (denied : Denied). denied)
    (option_or o (option_map Because (reason_with network stream))) (sum_with network stream)) in'.free
    ∙ ap (λ (o : Option Reason). unless (λ (denied : Denied). denied) (option_map Because o)
    (sum_with network stream)) with_reason

-- so it is told, unless memory ran out
pub refused_told : (network : DeclaredNetwork) (stream : DeclaredStream) (n : ℕ) (between : DeclaredNetwork)
    (failure : Failure Reason) (told : Failure Denied) → IsIn network stream n between
    → IsWithin (λ reason denied. denied ≡ Because reason) failure told → Fails failure (judged between n)
    → Fails told (admit network stream)
refused_told network stream n between NoMemory NoMemory in' within refused = tt
refused_told network stream n between NoMemory (Fault denied) in' within refused = absurd within
refused_told network stream n between (Fault reason) NoMemory in' within refused = tt
refused_told network stream n between (Fault reason) (Fault denied) in' within refused =
    refused_answer network stream n between reason in' refused
    ∙ ap (λ (d : Denied). let r : Result ℕ Denied = Err d in r) (sym within)

-- the search among the classes of the last stream is the one of admission
lowest_same : (network : DeclaredNetwork) (stream : DeclaredStream) (classes : List ℕ)
    → lowest_at (with_stream network stream) (length network.streams) classes ≡ lowest_of network stream classes
lowest_same network stream [] = refl
lowest_same network stream (class ∷ classes) =
    ap (λ (t : DeclaredNetwork). first_class class (reason_of t)
    (lowest_at (with_stream network stream) (length network.streams) classes)) (classed_last network stream class)
    ∙ ap (first_class class (class_reason network stream class)) (lowest_same network stream classes)

lowest_in : (network : DeclaredNetwork) (stream : DeclaredStream) (n : ℕ) (between : DeclaredNetwork)
    → IsIn network stream n between
    → lowest_at between n stream_classes ≡ lowest_of network stream stream_classes
lowest_in network stream n between in' =
    ap (λ (t : DeclaredNetwork). lowest_at t n stream_classes) in'.is
    ∙ ap (λ (m : ℕ). lowest_at (with_stream network stream) m stream_classes) in'.number
    ∙ lowest_same network stream stream_classes

-- the network with the class that is given
pub classed_in : (network : DeclaredNetwork) (stream : DeclaredStream) (n : ℕ) (between : DeclaredNetwork) (class : ℕ)
    → IsIn network stream n between → with_class_at between n class ≡ with_stream network (with_class stream class)
classed_in network stream n between class in' =
    ap (λ (t : DeclaredNetwork). with_class_at t n class) in'.is
    ∙ ap (λ (m : ℕ). with_class_at (with_stream network stream) m class) in'.number
    ∙ classed_last network stream class

-- what is answered with a class
pub given_answer : (network : DeclaredNetwork) (stream : DeclaredStream) (n : ℕ) (between : DeclaredNetwork)
    (class sum : ℕ) → IsIn network stream n between → IsGiven between n class sum
    → admit_lowest network stream ≡ Ok (class, sum)
given_answer network stream n between class sum in' given =
    ap (λ (o : Option Denied). sum_given network stream (class_given o (lowest_of network stream stream_classes)))
    in'.free
    ∙ ap (λ (r : Result ℕ (List Reason)). sum_given network stream (class_given None r))
    (sym (lowest_in network stream n between in') ∙ given.lowest)
    ∙ ap (λ (s : ℕ). Ok (class, s)) (sym sum_is)
  where
    last : DeclaredStream
    last = with_class stream class

    sum_is : sum ≡ bound_along (least_certificate (with_stream network last)) last
    sum_is =
        given.sum_is
        ∙ ap (λ (t : DeclaredNetwork). sum_at t n) (classed_in network stream n between class in')
        ∙ ap (sum_at (with_stream network last)) in'.number
        ∙ ap (bound_along (least_certificate (with_stream network last)))
        (get_or-append_seam network.streams last [] no_stream)

pub given_certified : (network : DeclaredNetwork) (stream : DeclaredStream) (n : ℕ) (between new : DeclaredNetwork)
    (class sum : ℕ) → IsIn network stream n between → IsGiven between n class sum
    → new ≡ with_class_at between n class → IsCertified new
given_certified network stream n between new class sum in' given is =
    let at : with_class_at between n class ≡ with_stream network (with_class stream class) =
    classed_in network stream n between class in' in
    subst (λ (t : DeclaredNetwork). IsCertified t) (sym (is ∙ at))
    (admitted_keeps network (with_class stream class) in'.certified
    (enters_with network stream class in'.may given.is_class) in'.free
    (ap reason_of (sym at) ∙ given.free)).certified

-- what is answered without one
none_answer : (network : DeclaredNetwork) (stream : DeclaredStream) (n : ℕ) (between : DeclaredNetwork)
    (denied : Denied) → IsIn network stream n between
    → no_class (lowest_at between n stream_classes) ≡ Some denied → admit_lowest network stream ≡ Err denied
none_answer network stream n between denied in' due =
    ap (λ (o : Option Denied). sum_given network stream (class_given o (lowest_of network stream stream_classes)))
    in'.free
    ∙ by (lowest_of network stream stream_classes)
    (ap no_class (sym (lowest_in network stream n between in')) ∙ due)
  where
    by : (r : Result ℕ (List Reason)) → no_class r ≡ Some denied
        → sum_given network stream (class_given None r) ≡ Err denied
    by (Ok class) h = absurd (let no : None ≡ Some denied = h in cc)
    by (Err reasons) h = let same : NoClass reasons ≡ denied = cc h in ap (λ (d : Denied). Err d) same

-- so it is told, unless memory ran out
pub none_told : (network : DeclaredNetwork) (stream : DeclaredStream) (n : ℕ) (between : DeclaredNetwork)
    (failure : Failure Denied) → IsIn network stream n between
    → IsDue failure (no_class (lowest_at between n stream_classes)) → Fails failure (admit_lowest network stream)
none_told network stream n between NoMemory in' due = tt
none_told network stream n between (Fault denied) in' due = none_answer network stream n between denied in' due
