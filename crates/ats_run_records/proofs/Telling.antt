use Rattle.std.proofs.Common.{◌≡◌, ℕ, ◌+◌, ◌-◌, List, [], ◌∷◌, ◌++◌, length, get_or, set, Some}
use Rattle.std.proofs.Common.{refl, sym, ap, subst, ◌∙◌, arith, length-append}
use Rattle.std.proofs.Math.Seq.{get_or-append_seam}
use Rattle.std.proofs.lemmas.List.{get_or-set_same, length-set}
use Rattle.ats_num.specs.declared.time.Ps.{Ps}
use Rattle.ats_trace.specs.HopRecord.{HopRecord}
use Rattle.ats_trace.specs.declared.journey.Ending.{Ending}
use Rattle.ats_run_records.specs.Progress.{no_hop}
use Rattle.ats_run_records.specs.Track.{Along, hops_after, hops_next, last_in}
use Rattle.ats_run_records.specs.TrackFields.{IsWhatIsTold, along_of, verdict_of}
use Rattle.ats_run_records.specs.declared.told.Told.{Told}
use Rattle.ats_run_records.specs.declared.told.Told.TheVariants.{Came, Sent}
use Rattle.ats_run_records.specs.declared.track.Decision.{Decision}

-- what is told last changes what all before it made
pub after-more : (hops : List HopRecord) (told : List Told) (next : Told)
    → hops_after hops (told ++ next ∷ []) ≡ hops_next (hops_after hops told) next
after-more hops [] next = refl
after-more hops (t ∷ told) next = after-more (hops_next hops t) told next

pub along-told : {leg room : ℕ} {ending : Ending} {more : List Told} {now : Along} (told : List Told) (next : Told)
    → along_of leg room ending told ≡ now → more ≡ told ++ next ∷ []
    → along_of leg room ending more
    ≡ record { leg = now.leg; room = now.room; hops = hops_next now.hops next; ending = now.ending }
along-told {leg} {room} {ending} told next seen is =
    ap (along_of leg room ending) is
    ∙ ap (λ (hops : List HopRecord). record { leg = leg; room = room; hops = hops; ending = ending })
    (after-more [] told next)
    ∙ ap (λ (a : Along). record { leg = a.leg; room = a.room; hops = hops_next a.hops next; ending = a.ending }) seen

-- a record that is added is the last one
last-more : (hops : List HopRecord) (hop : HopRecord) → last_in (hops ++ hop ∷ []) ≡ hop
last-more hops hop =
    let long : length (hops ++ hop ∷ []) - 1 ≡ length hops = omega (arith, length-append hops (hop ∷ [])) in
    ap (λ (i : ℕ). get_or (hops ++ hop ∷ []) i no_hop) long ∙ get_or-append_seam hops hop [] no_hop

-- and one that is sent keeps its verdict, and its place
last-sent : (hops : List HopRecord) (start end : Ps)
    → (last_in (hops_next hops (Sent start end))).verdict ≡ (last_in hops).verdict
last-sent [] start end = refl
last-sent (h ∷ hops) start end =
    let all : List HopRecord = h ∷ hops in
    let last : HopRecord = last_in all in
    let hop : HopRecord = record { arrival = last.arrival; verdict = last.verdict; sent = Some (start, end) } in
    ap (λ (n : ℕ). (get_or (set all (length all - 1) hop) (n - 1) no_hop).verdict) (length-set all (length all - 1) hop)
    ∙ ap (λ (h : HopRecord). h.verdict) (get_or-set_same all (length all - 1) hop no_hop (omega arith))

length-sent : (hops : List HopRecord) (start end : Ps) → length (hops_next hops (Sent start end)) ≡ length hops
length-sent hops start end =
    let last : HopRecord = last_in hops in
    length-set hops (length hops - 1)
    (record { arrival = last.arrival; verdict = last.verdict; sent = Some (start, end) })

-- so what is kept is what was told
pub kept-came : {count : ℕ} {was decision : Decision} {before decided : Ps} {told more : List Told} (hop : HopRecord)
    → IsWhatIsTold count was before told → more ≡ told ++ Came hop ∷ [] → verdict_of decision decided ≡ hop.verdict
    → IsWhatIsTold (count + 1) decision decided more
kept-came {count} {was} {decision} {before} {decided} {told} hop kept is says =
    let next : hops_after [] (told ++ Came hop ∷ []) ≡ hops_after [] told ++ hop ∷ [] =
    after-more [] told (Came hop) in
    subst (IsWhatIsTold (count + 1) decision decided) (sym is)
    record {
      counted = omega (
        arith,
        kept.counted,
        ap (λ (hs : List HopRecord). length hs) next,
        length-append (hops_after [] told) (hop ∷ []),
      );
      last = says ∙ sym (ap (λ (hs : List HopRecord). (last_in hs).verdict) next
          ∙ ap (λ (h : HopRecord). h.verdict) (last-more (hops_after [] told) hop));
    }

pub kept-sent : {count : ℕ} {decision : Decision} {decided : Ps} {told more : List Told} (start end : Ps)
    → IsWhatIsTold count decision decided told → more ≡ told ++ Sent start end ∷ []
    → IsWhatIsTold count decision decided more
kept-sent {count} {decision} {decided} {told} start end kept is =
    let next : hops_after [] (told ++ Sent start end ∷ []) ≡ hops_next (hops_after [] told) (Sent start end) =
    after-more [] told (Sent start end) in
    subst (IsWhatIsTold count decision decided) (sym is)
    record {
      counted = kept.counted ∙ sym (ap (λ (hs : List HopRecord). length hs) next
          ∙ length-sent (hops_after [] told) start end);
      last = kept.last ∙ sym (ap (λ (hs : List HopRecord). (last_in hs).verdict) next
          ∙ last-sent (hops_after [] told) start end);
    }
