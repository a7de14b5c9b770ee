-- What each answer to a request says of the network before it and of the one after it.
use Rattle.std.proofs.Common.{◌≡◌, ℕ, zero, suc, ◌+◌, Bool, true, false, cond, List, [], ◌∷◌, length, get_or}
use Rattle.std.proofs.Common.{Option, Some, None, Result, Ok, Err, refl, sym, ap, subst, ◌∙◌, inl, inr, arith}
use Rattle.std.specs.Prelude.{◌≤◌, ◌<◌, ◌⊎◌, ◌||◌, is_some, nat_le, nat_lt, slice_get}
use Rattle.std.specs.List.{All}
use Rattle.std.specs.Option.{option_map, option_or}
use Rattle.std.proofs.lemmas.Bool.{leb-true, ltb-true}
use Rattle.std.proofs.lemmas.List.{get_or_default, get_or-map, length-map}
use Rattle.std.proofs.lemmas.List.Elements.{All-head, All-tail}
use Rattle.std.proofs.lemmas.Option.{none-some, same_Some}
use Rattle.ats_facts.proofs.Options.{is_some-false}
use Rattle.ats_num.specs.Failure.{unless}
use Rattle.ats_num.specs.Places.{place_of}
use Rattle.ats_topology.proofs.Known.{name_there}
use Rattle.ats_streams.specs.Stream.{DeclaredStream, with_class}
use Rattle.ats_network.specs.Edits.{less_at, no_stream, without_named}
use Rattle.ats_network.specs.Network.{DeclaredNetwork, IsNetwork, names_of, ports_together, senders_of}
use Rattle.ats_network.specs.Pushes.{is_beyond, is_name_taken, with_stream}
use Rattle.ats_network.specs.Rates.{HasRates, is_overrated}
use Rattle.ats_network.specs.Sender.{stream_sender}
use Rattle.ats_network.proofs.Rated.{overrated}
use Rattle.ats_network.specs.Tables.{stream_names}
use Rattle.ats_network.specs.declared.network.TheConstants.{MAX_PORTS_TOGETHER, MAX_STREAMS}
use Rattle.ats_network.proofs.NameLemmas.{absent_differs}
use Rattle.ats_certificate.specs.Certificate.{bound_along}
use Rattle.ats_tally.specs.declared.reason.Reason.{Reason}
use Rattle.ats_bound.specs.Least.{least_certificate}
use Rattle.ats_bound.proofs.FirstReason.{each_reason_is_the_first}
use Rattle.ats_admission_law.proofs.Edits.{taken_out}
use Rattle.ats_requests.specs.Admission.{added_given, admit, admit_fault, class_given, entry_fault}
use Rattle.ats_requests.specs.Admission.{lowest_class, lowest_of, reason_with, sum_given, sum_with}
use Rattle.ats_certificate.specs.Used.{stream_classes}
use Rattle.ats_requests.specs.Laws.{IsCertified, AreReasons, IsFirstAccepted}
use Rattle.ats_requests.specs.Requests.{MayAsk, MayEnter, after, admit_answer, answer, answers}
use Rattle.ats_requests.specs.Requests.{first_class_of, lowest_answer, withdraw_answer}
use Rattle.ats_requests.specs.declared.answer.Answer.{Answer}
use Rattle.ats_requests.specs.declared.denied.Denied.{Denied}
use Rattle.ats_requests.specs.declared.denied.Denied.TheVariants.{NameTaken, NameUnknown, Limit, Because, NoClass}
use Rattle.ats_requests.specs.declared.request.Request.{Request}
use Rattle.ats_requests.specs.declared.request.Request.TheVariants.{Admit, Lowest, Withdraw}
use Rattle.ats_requests.proofs.Classes.{lowest_is_first, no_class_has_reasons}
use Rattle.ats_requests.proofs.Keeps.{entered, enters_with}
use Rattle.ats_requests.proofs.Requests.{may_still, request_keeps}
use Rattle.ats_command_law.specs.AdmitMeaning.{AreAnswers, network_after}
use Rattle.ats_command_law.specs.Answered.{AdmitDenied, AdmitTells, AreFirstReasons, HasFirstReason}
use Rattle.ats_command_law.specs.Answered.{IsNameFree, IsNameTaken, IsOverLimit, LowestDenied, LowestTells, AnswerTells}
use Rattle.ats_command_law.specs.Answered.{WithdrawTells}
use Rattle.ats_command_law.proofs.OneClass.{AsksOneClass, IsOfOneClass}

-- a name that is found is that of a sender, and one that is not is free
name_taken : (network : DeclaredNetwork) (name : List ℕ) → is_name_taken network name ≡ true
    → IsNameTaken network name
name_taken network name taken = by (place_of name (names_of (senders_of network))) refl taken
  where
    by : (o : Option ℕ) → place_of name (names_of (senders_of network)) ≡ o → is_some o ≡ true
        → IsNameTaken network name
    by None e h = absurd (let no : false ≡ true = h in cc)
    by (Some i) e h =
        let names : List (List ℕ) = names_of (senders_of network) in
        let there = name_there names name i e in
        (i, there.0, get_or_default names i name [] there.0 ∙ sym there.1)

name_free : (network : DeclaredNetwork) (name : List ℕ) → is_name_taken network name ≡ false → IsNameFree network name
name_free network name free =
    let names : List (List ℕ) = names_of (senders_of network) in
    absent_differs name names (is_some-false (place_of name names) free)

-- a stream that is not taken though its name is free is over a limit
over_limit : (network : DeclaredNetwork) (stream : DeclaredStream) → is_name_taken network stream.name ≡ false
    → is_beyond network stream ≡ true → IsOverLimit network stream
over_limit network stream free beyond = record {
  free = name_free network stream.name free;
  over = by (nat_le MAX_STREAMS (length network.streams)) refl (nat_lt MAX_PORTS_TOGETHER together) refl beyond;
}
  where
    together : ℕ
    together = ports_together network.streams + length stream.ports

    by : (many : Bool) → nat_le MAX_STREAMS (length network.streams) ≡ many
        → (ports : Bool) → nat_lt MAX_PORTS_TOGETHER together ≡ ports
        → ((many || ports) || is_overrated network.topology (stream_sender stream)) ≡ true
        → (MAX_STREAMS ≤ length network.streams) ⊎ (MAX_PORTS_TOGETHER < together)
        ⊎ (¬ HasRates network.topology stream)
    by true e ports f h = inl (leb-true MAX_STREAMS (length network.streams) e)
    by false e true f h = inr (inl (ltb-true MAX_PORTS_TOGETHER together f))
    by false e false f h = inr (inr (overrated network.topology stream h))

-- what stands against an entry is a taken name, or a limit
entry_denies : (P : Denied → Type 0) (network : DeclaredNetwork) (stream : DeclaredStream)
    → (IsNameTaken network stream.name → P NameTaken) → (IsOverLimit network stream → P Limit)
    → (denied : Denied) → entry_fault network stream ≡ Some denied → P denied
entry_denies P network stream taken over denied h =
    by (is_name_taken network stream.name) refl (is_beyond network stream) refl h
  where
    by : (a : Bool) → is_name_taken network stream.name ≡ a → (b : Bool) → is_beyond network stream ≡ b
        → cond a (Some NameTaken) (cond b (Some Limit) None) ≡ Some denied → P denied
    by true e b f h = subst P (same_Some NameTaken denied h) (taken (name_taken network stream.name e))
    by false e true f h = subst P (same_Some Limit denied h) (over (over_limit network stream e f))
    by false e false f h = absurd (none-some denied h)

-- where nothing stands against the entry of a stream, the reason that is found against the network with it is the first
reason_is_first : (network : DeclaredNetwork) (stream : DeclaredStream) (reason : Reason) → IsNetwork network
    → MayEnter network stream → entry_fault network stream ≡ None
    → reason_with network stream ≡ Some reason → HasFirstReason (with_stream network stream) reason
reason_is_first network stream reason is may none found =
    let rules : IsNetwork (with_stream network stream) = entered network stream is may none in
    record { rules = rules; first = (each_reason_is_the_first (with_stream network stream) reason rules).0 found }

admit_denies : (network : DeclaredNetwork) (stream : DeclaredStream) (denied : Denied) → IsNetwork network
    → MayEnter network stream → admit_fault network stream ≡ Some denied
    → AdmitDenied network stream denied
admit_denies network stream denied is may h =
    by (entry_fault network stream) refl (reason_with network stream) refl h
  where
    by : (o : Option Denied) → entry_fault network stream ≡ o → (r : Option Reason) → reason_with network stream ≡ r
        → option_or o (option_map Because r) ≡ Some denied → AdmitDenied network stream denied
    by (Some d) e r f h =
        entry_denies (AdmitDenied network stream) network stream (λ t. t) (λ t. t) denied (e ∙ h)
    by None e (Some reason) f h =
        subst (AdmitDenied network stream) (same_Some (Because reason) denied h)
        (reason_is_first network stream reason is may e f)
    by None e None f h = absurd (none-some denied h)

-- so it is where a stream is refused for a reason
refused_first : (network : DeclaredNetwork) (stream : DeclaredStream) (reason : Reason) → IsNetwork network
    → MayEnter network stream → admit network stream ≡ Err (Because reason)
    → HasFirstReason (with_stream network stream) reason
refused_first network stream reason is may h = by (admit_fault network stream) refl h
  where
    by : (o : Option Denied) → admit_fault network stream ≡ o
        → unless (λ (d : Denied). d) o (sum_with network stream) ≡ Err (Because reason)
        → HasFirstReason (with_stream network stream) reason
    by None e h = absurd (let no : Ok (sum_with network stream) ≡ Err (Because reason) = h in cc)
    by (Some d) e h =
        let same : d ≡ Because reason = cc h in
        admit_denies network stream (Because reason) is may (e ∙ ap Some same)

-- the answer to a stream with its class
admit_tells : (network : DeclaredNetwork) (stream : DeclaredStream) → IsNetwork network
    → MayEnter network stream → IsOfOneClass stream
    → AdmitTells network (after network (Admit stream)) stream (answer network (Admit stream))
admit_tells network stream is may one = by (admit_fault network stream) refl
  where
    by : (o : Option Denied) → admit_fault network stream ≡ o
        → AdmitTells network (cond (is_some o) network (with_stream network stream)) stream
        (admit_answer (first_class_of stream) (unless (λ (d : Denied). d) o (sum_with network stream)))
    by None e = record {
      asked = one;
      came_in = record {
        beside = ap (with_stream network) one;
        sum_is = ap (bound_along (least_certificate (with_stream network stream))) one;
      };
    }
    by (Some denied) e = record { same = refl; cause = admit_denies network stream denied is may e }

-- why a stream gets no class
lowest_denies : (network : DeclaredNetwork) (stream : DeclaredStream) (denied : Denied) → IsNetwork network
    → MayEnter network stream → lowest_class network stream ≡ Err denied
    → LowestDenied network stream denied
lowest_denies network stream denied is may h =
    by (entry_fault network stream) refl (lowest_of network stream stream_classes) h
  where
    none : (reasons : List Reason) → lowest_class network stream ≡ Err (NoClass reasons)
        → AreFirstReasons network stream reasons
    none reasons found =
        let are : AreReasons network stream reasons =
        no_class_has_reasons network stream reasons (ap (sum_given network stream) found) in
        record {
          seven = are.seven;
          each = λ n d below. refused_first network (with_class stream (n + 1)) (get_or reasons n d) is
              (enters_with network stream (n + 1) may
              (record { least = omega arith; most = omega (arith, below) })) (are.each n d below);
        }

    by : (o : Option Denied) → entry_fault network stream ≡ o → (r : Result ℕ (List Reason))
        → class_given o r ≡ Err denied → LowestDenied network stream denied
    by (Some d) e r g =
        let same : d ≡ denied = cc g in
        entry_denies (LowestDenied network stream) network stream (λ t. t) (λ t. t) denied
        (e ∙ ap Some same)
    by None e (Ok class) g = absurd (let no : Ok class ≡ Err denied = g in cc)
    by None e (Err reasons) g =
        let same : NoClass reasons ≡ denied = cc g in
        subst (LowestDenied network stream) same (none reasons (h ∙ ap Err (sym same)))

-- the answer to a stream with the lowest class
lowest_tells : (network : DeclaredNetwork) (stream : DeclaredStream) → IsNetwork network
    → MayEnter network stream
    → LowestTells network (after network (Lowest stream)) stream (answer network (Lowest stream))
lowest_tells network stream is may = by (lowest_class network stream) refl
  where
    by : (given : Result ℕ Denied) → lowest_class network stream ≡ given
        → LowestTells network (added_given network stream given) stream
        (lowest_answer (sum_given network stream given))
    by (Ok class) e =
        let first : IsFirstAccepted network stream class (sum_with network (with_class stream class)) =
        lowest_is_first network stream class (sum_with network (with_class stream class))
        (ap (sum_given network stream) e) in
        record {
          is_class = first.is_class;
          came_in = record { beside = refl; sum_is = refl };
          lower = λ c least less. (
              let refused = first.lower c least less in (
                refused.reason,
                refused_first network (with_class stream c) refused.reason is
                    (enters_with network stream c may
                    (record { least = least; most = omega (arith, less, first.is_class.most) })) refused.refused,
              ));
        }
    by (Err denied) e = record { same = refl; cause = lowest_denies network stream denied is may e }

-- the answer to a stream that is to be taken out
withdraw_tells : (network : DeclaredNetwork) (name : List ℕ)
    → WithdrawTells network (after network (Withdraw name)) name (answer network (Withdraw name))
withdraw_tells network name = by (place_of name (stream_names network.streams)) refl
  where
    by : (o : Option ℕ) → place_of name (stream_names network.streams) ≡ o
        → WithdrawTells network (without_named network name) name (withdraw_answer
        (cond (is_some (option_map (λ n. get_or network.streams n no_stream) o)) None (Some NameUnknown)))
    by None e = record {
      same = ap (λ (o : Option ℕ). record network { streams = less_at o network.streams }) e;
      cause = absent_differs name (stream_names network.streams) e;
    }
    by (Some n) e =
        let there = name_there (stream_names network.streams) name n e in
        let long = length-map network.streams (λ (s : DeclaredStream). s.name) in
        record {
          stream = get_or network.streams n no_stream;
          named = sym (there.1 ∙ get_or-map (λ (s : DeclaredStream). s.name) network.streams n no_stream []
              (omega (arith, there.0, long)));
          less = taken_out network name n e;
        }

tells : (network : DeclaredNetwork) (request : Request) → IsNetwork network
    → MayAsk network request → AsksOneClass request
    → AnswerTells network (after network request) request (answer network request)
tells network (Admit stream) is may one = admit_tells network stream is may one
tells network (Lowest stream) is may one = lowest_tells network stream is may
tells network (Withdraw name) is may one = withdraw_tells network name

-- requests that may be asked over a network, each for a stream with one class
pub record AreAsked (network : DeclaredNetwork) (asked : List Request) : Type 0 where
  pub may : All (MayAsk network) asked
  pub one : All AsksOneClass asked

-- what is answered to the first request, and to those behind it
answers_from : (network : DeclaredNetwork) (request : Request) (asked : List Request)
    → AnswerTells network (after network request) request (answer network request)
    → AreAnswers (after network request) asked
    → AreAnswers network (request ∷ asked)
answers_from network request asked first later =
    record { as_many = omega (arith, later.as_many); each = each }
  where
    each : (k : ℕ) (r : Request) (a : Answer) → slice_get (request ∷ asked) k ≡ Some r
        → slice_get (answers network (request ∷ asked)) k ≡ Some a
        → AnswerTells (network_after network (request ∷ asked) k) (network_after network (request ∷ asked) (k + 1)) r a
    each zero r a asks gives =
        subst (λ (q : Request). AnswerTells network (after network request) q a) (same_Some request r asks)
        (subst (AnswerTells network (after network request) request) (same_Some (answer network request) a gives) first)
    each (suc k) r a asks gives =
        subst (λ (n : ℕ). AnswerTells (network_after network (request ∷ asked) (suc k))
        (network_after network (request ∷ asked) n) r a)
        (let e : suc (k + 1) ≡ suc k + 1 = omega arith in e) (later.each k r a asks gives)

pub are_answers : (network : DeclaredNetwork) (asked : List Request) → IsCertified network
    → AreAsked network asked → AreAnswers network asked
are_answers network [] is are = record { as_many = refl; each = λ k r a asks gives. absurd (none-some r asks) }
are_answers network (request ∷ asked) is are =
    let next : DeclaredNetwork = after network request in
    let may : MayAsk network request = All-head (MayAsk network) request asked are.may in
    let keeps = request_keeps network request is may in
    let rest : All (MayAsk next) asked =
    may_still network next asked keeps.topology keeps.most_ports (All-tail (MayAsk network) request asked are.may) in
    answers_from network request asked
    (tells network request is.rules may (All-head AsksOneClass request asked are.one))
    (are_answers next asked keeps.certified (record {
      may = rest;
      one = All-tail AsksOneClass request asked are.one;
    }))
