-- What an entry makes of a page: a done call, and each step of its transfers.
use Rattle.std.specs.Prelude.{◌≡◌, ℕ, ◌+◌, ◌<◌, ◌≤◌, ◌≢◌, nat_eq, Bool, true, false, ◌==◌, ◌&&◌, ◌++◌, List, [], ◌∷◌, length, take, slice_index, slice_set, if◌then◌else◌, refl, OnOk}
use Rattle.std.specs.declared.option.Option.{Option}
use Rattle.std.specs.declared.option.Option.TheVariants.{Some, None}
use Rattle.std.specs.declared.result.Result.{Result}
use Rattle.std.specs.List.{cons_option}
use Rattle.std.specs.Option.{option_map}
use Rattle.std.proofs.Common.{ap, sym, ◌∙◌, arith, get_or}
use Rattle.std.proofs.lemmas.Bool.{eqb-true}
use Rattle.std.proofs.lemmas.Bool.Decides.{nat_tests}
use Rattle.std.proofs.lemmas.Grind.{get_or-set_at}
use Rattle.std.proofs.lemmas.Result.{on_ok_weaker}
use Rattle.std.proofs.lemmas.List.{get_or-set_other, length-take, take-take}
use Rattle.cc_entry.specs.declared.call.Call.{Call}
use Rattle.cc_entry.specs.declared.reply.Reply.{Reply}
use Rattle.cc_entry.specs.declared.entry.Entry.{Entry}
use Rattle.cc_entry.specs.declared.entry.End.{End}
use Rattle.cc_entry.specs.Place.{Range}
use Rattle.cc_events.specs.Events.{event_of_act}
use Rattle.cc_events.specs.declared.event.StreamEvent.{StreamEvent}
use Rattle.cc_events.specs.declared.event.StreamEvent.TheVariants as event
use Rattle.cc_model.specs.Acts.{Act, act_of, Opens, Closes, Resizes, Writes, Zeroes, Stores, Stamps, Discards, Looks}
use Rattle.cc_model.specs.Bytes.{content, on_disk, page_bytes}
use Rattle.cc_model.specs.History.{Effect, Did, CameIn, WentOut, Began, Ended, Synced, effect_of, history}
use Rattle.cc_model.specs.Images.{begun, image_after, image, settled, crash_pages}
use Rattle.cc_model.specs.Ranges.{span_has}
use Rattle.cc_model.specs.Sizes.{ended_ok}
use Rattle.cc_model.specs.Touches.{size_of, valid_of, is_dirty}
use Rattle.cc_laws.proofs.ImageSteps.{begun-began_page, begun-began_other, image-ended_page, image-ended_other, image-ended_good, image-ended_bad, crash_pages-began_page, crash_pages-began_other, crash_pages-synced}
use Rattle.cc_crash.specs.Effects.{effects, AreSizesOverJournal}
use Rattle.cc_crash.proofs.EffectSteps.{effects_back}
use Rattle.cc_crash.proofs.TouchSteps.{entries_next}
use Rattle.cc_crash.specs.declared.steps.Step.{Step}
use Rattle.cc_crash.specs.declared.steps.Step.TheVariants as step
use Rattle.cc_crash.specs.DiskPages.{PageState, bytes_by, page_state_of_history, at_first, changes, discards, called, begins, ended_with, ends, syncs, call_of, step_of}
use Rattle.cc_crash.proofs.PageBytes.{bytes-opening, discards_some, given-changed, given-dropped, given-kept, shown-is, held-none, held-good, held-bad, held-other}

-- ---- a done call

same-given : (pages : ℕ → List ℕ) (pass : ℕ) (call : Call) (reply : Reply) (h : List Effect) (p : ℕ) (given : List ℕ) → given ≡ bytes_by (content pages (Did pass call reply ∷ h)) p → record (page_state_of_history pages h p) { given = given } ≡ page_state_of_history pages (Did pass call reply ∷ h) p
unfolding on_disk crash_pages image begun
same-given pages pass call reply h p given is = λ i. record {
  given = is i;
  held = bytes_by (on_disk pages false h) p;
  may = crash_pages pages h p;
  known = image pages h p;
  sent = option_map (λ front. page_bytes pages front p) (begun h p);
}

pub page_state-called : (pages : ℕ → List ℕ) (pass : ℕ) (call : Call) (reply : Reply) (h : List Effect) (p : ℕ) → called (event_of_act (act_of call)) (act_of call) (size_of h) p (is_dirty h p) (page_state_of_history pages h p) ≡ page_state_of_history pages (Did pass call reply ∷ h) p
page_state-called pages pass call reply h p = go (act_of call) refl
  where
    changed : (a : Act) → act_of call ≡ a → discards_some a ≡ false → changes a (size_of h) p (page_state_of_history pages h p) ≡ page_state_of_history pages (Did pass call reply ∷ h) p
    changed a is none = same-given pages pass call reply h p (changes a (size_of h) p (page_state_of_history pages h p)).given (given-changed pages pass call reply h p a is none)

    go : (a : Act) → act_of call ≡ a → called (event_of_act a) a (size_of h) p (is_dirty h p) (page_state_of_history pages h p) ≡ page_state_of_history pages (Did pass call reply ∷ h) p
    go (Opens file given quota temporary) is = changed (Opens file given quota temporary) is refl
    go (Closes file truncate) is = changed (Closes file truncate) is refl
    go (Resizes allocation size) is = changed (Resizes allocation size) is refl
    go (Writes at bytes) is = changed (Writes at bytes) is refl
    go (Zeroes from to) is = changed (Zeroes from to) is refl
    go (Stores page bytes) is = changed (Stores page bytes) is refl
    go (Stamps hold lsn) is = changed (Stamps hold lsn) is refl
    go (Discards span) is = dropped (span_has span p && is_dirty h p) refl
      where
        dropped : (b : Bool) → (span_has span p && is_dirty h p) ≡ b → (if b then discards (page_state_of_history pages h p) else page_state_of_history pages h p) ≡ page_state_of_history pages (Did pass call reply ∷ h) p
        dropped true drops = same-given pages pass call reply h p (bytes_by (on_disk pages false h) p) (given-dropped pages pass call reply h p span is drops)
        dropped false keeps = same-given pages pass call reply h p (bytes_by (content pages h) p) (given-kept pages pass call reply h p span is keeps)
    go Looks is = changed Looks is refl

-- of a call that is no discard
pub called-rest : (a : Act) (what : StreamEvent) (size p : ℕ) (dirty : Bool) (page : PageState) → what ≡ event_of_act a → ((span : Option Range) → what ≡ event.Discards span → ⊥) → changes a size p page ≡ called (event_of_act a) a size p dirty page
called-rest (Discards span) what size p dirty page is other = absurd (other span is)
called-rest act what size p dirty page is other = refl

call-did : (o : Option Effect) (call : Call) → call_of o ≡ Some call → (pass : ℕ) × (reply : Reply) × (o ≡ Some (Did pass call reply))
call-did None call is = absurd (cc)
call-did (Some (Did pass it reply)) call is = let same : it ≡ call = cc in (pass, reply, ap (λ (c : Call). Some (Did pass c reply)) same)
call-did (Some (CameIn pass page from_disk)) call is = absurd (cc)
call-did (Some (WentOut pass page)) call is = absurd (cc)
call-did (Some (Began pass page)) call is = absurd (cc)
call-did (Some (Ended pass page how)) call is = absurd (cc)
call-did (Some (Synced pass how)) call is = absurd (cc)

pub page_state-call : (pages : ℕ → List ℕ) (o : Option Effect) (h : List Effect) (p : ℕ) (call : Call) (was : PageState) → call_of o ≡ Some call → was ≡ page_state_of_history pages h p → called (event_of_act (act_of call)) (act_of call) (size_of h) p (is_dirty h p) was ≡ page_state_of_history pages (cons_option o h) p
page_state-call pages o h p call was is before =
    let did = call-did o call is in
    ap (λ (page : PageState). called (event_of_act (act_of call)) (act_of call) (size_of h) p (is_dirty h p) page) before
    ∙ (page_state-called pages did.0 call did.1 h p ∙ sym (ap (λ (e : Option Effect). page_state_of_history pages (cons_option e h) p) did.2))

-- ---- the steps of transfers

-- the page after a step, given the valid data length before
abbrev pub after : Step → ℕ → ℕ → PageState → PageState
after step.Rests valid p page = page
after step.Begins valid p page = begins valid p page
after (step.Ends ok) valid p page = ends ok page
after step.Syncs valid p page = syncs page

ended-here : (pages : ℕ → List ℕ) (pass page : ℕ) (how : End) (h : List Effect) (p : ℕ) → (page == p) ≡ true → (o : Option (List Effect)) → begun h p ≡ o → (ok : Bool) → ended_ok how ≡ ok → page_state_of_history pages (Ended pass page how ∷ h) p ≡ ended_with ok (option_map (λ front. page_bytes pages front p) o) (page_state_of_history pages h p)
unfolding content crash_pages begun
ended-here pages pass page how h p here None none ok is = λ i. record {
  given = bytes_by (content pages h) p;
  held = held-none pages pass page how h p none i;
  may = crash_pages pages h p;
  known =
      (image-ended_page pages pass page how h p here
      ∙ ap (λ (o : Option (List Effect)). image_after pages p o (ended_ok how) (image pages h p)) none) i;
  sent = option_map (λ front. page_bytes pages front p) (begun h p);
}
ended-here pages pass page how h p here (Some front) began true good = λ i. record {
  given = bytes_by (content pages h) p;
  held = held-good pages pass page how h front p here good began i;
  may = crash_pages pages h p;
  known = image-ended_good pages pass page how h front p here good began i;
  sent = option_map (λ front. page_bytes pages front p) (begun h p);
}
ended-here pages pass page how h p here (Some front) began false bad = λ i. record {
  given = bytes_by (content pages h) p;
  held = held-bad pages pass page how h p bad i;
  may = crash_pages pages h p;
  known = image-ended_bad pages pass page how h front p here bad began i;
  sent = option_map (λ front. page_bytes pages front p) (begun h p);
}

pub page_state-step : (pages : ℕ → List ℕ) (o : Option Effect) (h : List Effect) (p : ℕ) → call_of o ≡ None → page_state_of_history pages (cons_option o h) p ≡ after (step_of o p) (valid_of h) p (page_state_of_history pages h p)
unfolding content on_disk crash_pages image begun
page_state-step pages None h p none = refl
page_state-step pages (Some (Did pass call reply)) h p none = absurd (cc)
page_state-step pages (Some (CameIn pass page from_disk)) h p none = refl
page_state-step pages (Some (WentOut pass page)) h p none = refl
page_state-step pages (Some (Began pass page)) h p none = go (page == p) refl
  where
    go : (b : Bool) → (page == p) ≡ b → page_state_of_history pages (Began pass page ∷ h) p ≡ after (if b then step.Begins else step.Rests) (valid_of h) p (page_state_of_history pages h p)
    go true here = λ i. record {
      given = bytes_by (content pages h) p;
      held = bytes_by (on_disk pages false h) p;
      may =
          (crash_pages-began_page pages pass page h p here
          ∙ ap (λ (bytes : List ℕ). crash_pages pages h p ++ bytes ∷ []) (shown-is pages h p)) i;
      known = image pages h p;
      sent =
          (ap (option_map (λ front. page_bytes pages front p)) (begun-began_page pass page h p here)
          ∙ ap (λ (bytes : List ℕ). Some bytes) (shown-is pages h p)) i;
    }
    go false other = λ i. record {
      given = bytes_by (content pages h) p;
      held = bytes_by (on_disk pages false h) p;
      may = crash_pages-began_other pages pass page h p other i;
      known = image pages h p;
      sent = ap (option_map (λ front. page_bytes pages front p)) (begun-began_other pass page h p other) i;
    }
page_state-step pages (Some (Ended pass page how)) h p none = go (page == p) refl
  where
    go : (b : Bool) → (page == p) ≡ b → page_state_of_history pages (Ended pass page how ∷ h) p ≡ after (if b then step.Ends (ended_ok how) else step.Rests) (valid_of h) p (page_state_of_history pages h p)
    go true here = ended-here pages pass page how h p here (begun h p) refl (ended_ok how) refl
    go false other = λ i. record {
      given = bytes_by (content pages h) p;
      held = held-other pages pass page how h p other i;
      may = crash_pages pages h p;
      known = image-ended_other pages pass page how h p other i;
      sent = option_map (λ front. page_bytes pages front p) (begun h p);
    }
page_state-step pages (Some (Synced pass how)) h p none = go (ended_ok how) refl
  where
    go : (b : Bool) → ended_ok how ≡ b → page_state_of_history pages (Synced pass how ∷ h) p ≡ after (if b then step.Syncs else step.Rests) (valid_of h) p (page_state_of_history pages h p)
    go true good = λ i. record {
      given = bytes_by (content pages h) p;
      held = bytes_by (on_disk pages false h) p;
      may = (crash_pages-synced pages pass how h p ∙ ap (λ (b : Bool). settled b (image pages h p) (crash_pages pages h p)) good) i;
      known = image pages h p;
      sent = option_map (λ front. page_bytes pages front p) (begun h p);
    }
    go false bad = λ i. record {
      given = bytes_by (content pages h) p;
      held = bytes_by (on_disk pages false h) p;
      may = (crash_pages-synced pages pass how h p ∙ ap (λ (b : Bool). settled b (image pages h p) (crash_pages pages h p)) bad) i;
      known = image pages h p;
      sent = option_map (λ front. page_bytes pages front p) (begun h p);
    }

-- the step that a journal's entry is
pub page_state-by : (pages : ℕ → List ℕ) (o : Option Effect) (h : List Effect) (p : ℕ) (is : Step) (valid : ℕ) (was : PageState) → call_of o ≡ None → is ≡ step_of o p → valid ≡ valid_of h → was ≡ page_state_of_history pages h p → after is valid p was ≡ page_state_of_history pages (cons_option o h) p
page_state-by pages o h p is valid was none step now before =
    ap (λ (it : Step). after it valid p was) step
    ∙ (ap (λ (n : ℕ). after (step_of o p) n p was) now
    ∙ (ap (λ (page : PageState). after (step_of o p) (valid_of h) p page) before
    ∙ sym (page_state-step pages o h p none)))

-- ---- the journal

-- before any entry, and after the next one
pub page_state-first : (pages : ℕ → List ℕ) (opening : List ℕ) (s p : ℕ) → length opening ≡ 4096 → pages p ≡ opening → at_first opening ≡ page_state_of_history pages (effects [] s) p
unfolding content on_disk crash_pages image begun history
page_state-first pages opening s p long is = λ i. record {
  given = bytes-opening opening pages p long is i;
  held = bytes-opening opening pages p long is i;
  may = sym is i ∷ [];
  known = Some (sym is i);
  sent = None;
}

pub page_state-next : (pages : ℕ → List ℕ) (journal : List Entry) (i : ℕ) (entry : Entry) (s p : ℕ) (now : PageState) → entry ≡ get_or journal i entry → i < length journal → now ≡ page_state_of_history pages (cons_option (effect_of entry s) (effects (take i journal) s)) p → now ≡ page_state_of_history pages (effects (take (i + 1) journal) s) p
page_state-next pages journal i entry s p now is in_range follows =
    follows
    ∙ ap (λ (h : List Effect). page_state_of_history pages h p) (sym (effects_back (take (i + 1) journal) (take i journal) entry s (entries_next journal i entry is in_range)))

-- the sizes of the entries so far
pub sizes-front : (found : List ℕ) (journal : List Entry) (s i : ℕ) → i ≤ length journal → AreSizesOverJournal found journal s → AreSizesOverJournal found (take i journal) s
sizes-front found journal s i within are = record {
  long = omega (arith, are.long, length-take i journal);
  each = λ j below.
      let first : j ≤ i = omega (arith, length-take i journal) in
      are.each j (omega arith) ∙ ap (λ (es : List Entry). size_of (effects es s)) (sym (take-take j i journal first));
}

-- one byte more of a page that is made byte by byte
pub bytes-more : (f : ℕ → ℕ) (bytes : List ℕ) (n byte : ℕ) → n < length bytes → byte ≡ f n → ((k : ℕ) → k < n → slice_index bytes k ≡ f k) → (k : ℕ) → k < n + 1 → slice_index (slice_set bytes n byte) k ≡ f k
bytes-more f bytes n byte within is before k below = go (nat_eq k n) refl
  where
    go : (same : Bool) → nat_eq k n ≡ same → slice_index (slice_set bytes n byte) k ≡ f k
    go true here =
        let at : k ≡ n = eqb-true k n here in
        get_or-set_at bytes n k byte 0 at within ∙ (is ∙ ap f (sym at))
    go false away =
        let other : k ≢ n = grind (arith, nat_tests) in
        get_or-set_other bytes n k byte 0 other ∙ before k (omega (arith, other, below))

-- ---- where memory was found

-- a page that a step left so, where that is what the effects make of it
pub left_as : {T E : Type 0} (r : Result T E) (left : PageState) (by to : PageState) → OnOk r (left ≡ by) → by ≡ to → OnOk r (left ≡ to)
left_as r left by to was is = on_ok_weaker {P = left ≡ by} {Q = left ≡ to} r (λ e. e ∙ is) was
