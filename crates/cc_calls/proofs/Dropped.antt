-- Why a discard is refused, and what it makes of its stream where it is done.
use Rattle.std.specs.Prelude.{◌≡◌, ℕ, ◌<◌, ◌⊎◌, Bool, true, false, not, List, [], ◌∷◌, None, Some, refl}
use Rattle.std.specs.declared.option.Option.{Option}
use Rattle.std.specs.Option.{option_map}
use Rattle.std.proofs.Common.{ap, sym, ◌∙◌, subst, inl, inr}
use Rattle.std.proofs.lemmas.Bool.{eq-eqb}
use Rattle.cc_entry.specs.Place.{File, Range}
use Rattle.cc_entry.specs.declared.call.Call.{Call}
use Rattle.cc_entry.specs.declared.call.Call.TheVariants as call
use Rattle.cc_entry.specs.declared.entry.Entry.{Entry}
use Rattle.cc_entry.specs.declared.entry.Entry.TheVariants as entry
use Rattle.cc_entry.specs.declared.error.CcError.{CcError}
use Rattle.cc_entry.specs.declared.error.CcError.TheVariants as error
use Rattle.cc_entry.specs.declared.reply.Outcome.TheVariants as outcome
use Rattle.cc_entry.specs.declared.reply.Reply.{Reply}
use Rattle.cc_entry.specs.declared.reply.Reply.TheVariants as reply
use Rattle.cc_effects.specs.Moments.{IsIdle}
use Rattle.cc_laws.proofs.CleanPages.{IsOnDisk-good}
use Rattle.cc_laws.proofs.DiscardLaws.{byte_of-discard_apart, byte_of-discard_clean, is_dirty-discarded, is_resident-discard_apart, is_resident-discarded, unwritten-discard_apart}
use Rattle.cc_laws.proofs.HistorySteps.{history-done, history-done_other}
use Rattle.cc_laws.proofs.ImageSteps.{image-done}
use Rattle.cc_laws.proofs.LeastPages.{grown-none, grown-page, unsettled-none, unsettled-page}
use Rattle.cc_laws.proofs.MapGone.{no_objects}
use Rattle.cc_laws.proofs.ObjectSteps.{objects-discards}
use Rattle.cc_laws.proofs.SizeSteps.{sizes-discards}
use Rattle.cc_laws.proofs.UnrefusedCalls.{refuse_if-none, unrefused}
use Rattle.cc_laws.specs.Facts.{IsOnDisk}
use Rattle.cc_model.specs.Conflicts.{has_page_of, held, held_by}
use Rattle.cc_model.specs.Discards.{grown, unsettled}
use Rattle.cc_model.specs.Good.{IsGoodSoFar}
use Rattle.cc_model.specs.History.{Did, Effect, history}
use Rattle.cc_model.specs.Holds.{holds_of, least_id}
use Rattle.cc_model.specs.Images.{open_of}
use Rattle.cc_model.specs.Numbers.{is_among}
use Rattle.cc_model.specs.Objects.{objects}
use Rattle.cc_model.specs.Reasons.{is_open, not_cached, refuse_if}
use Rattle.cc_model.specs.Refusals.{first_of, refusal}
use Rattle.cc_model.specs.Setup.{Setup}
use Rattle.cc_model.specs.Touches.{is_dirty, is_mapped, valid_of}
use Rattle.cc_calls.specs.Discards.{HasDropped, IsDiscarded, IsDiscardReason, DiscardIsRefused, SpanIsSettled, IsUnheld, MayDiscard}

-- ---- why it is refused

-- the first reason of a list is its head, or the first of the rest
first-reason : (o : Option CcError) (rest : List (Option CcError)) (e : CcError) → first_of (o ∷ rest) ≡ Some e → (o ≡ Some e) ⊎ ((o ≡ None) × (first_of rest ≡ Some e))
first-reason None rest e is = inr (refl, is)
first-reason (Some x) rest e is = inl is

-- a reason that names a number
named : (reason : ℕ → CcError) (o : Option ℕ) (e : CcError) → option_map reason o ≡ Some e → (n : ℕ) × ((o ≡ Some n) × (reason n ≡ e))
named reason None e is = absurd (cc)
named reason (Some n) e is = (n, (refl, cc))

none-named : (o : Option ℕ) → held_by o ≡ None → o ≡ None
none-named None is = refl
none-named (Some n) is = absurd (cc)

not-false : (b : Bool) → not b ≡ false → b ≡ true
not-false true is = refl
not-false false is = absurd (cc)

refused-if : (b : Bool) (e x : CcError) → refuse_if (not b) x ≡ Some e → (b ≡ false) × (x ≡ e)
refused-if true e x is = absurd (cc)
refused-if false e x is = (refl, cc)

module _ (u : Setup) (past : List Entry) (h : List Effect) (file : File) (span : Option Range) where
  abbrev it : Call
  it = call.Discard file span

  opened : not_cached h (Some file) ≡ None → is_open h file ≡ true
  opened none = not-false (is_open h file) (refuse_if-none (not (is_open h file)) error.NotCached none)

  by-page : SpanIsSettled h file span → (e : CcError) → grown h it ≡ Some e → IsDiscardReason h file span e
  by-page settled e is =
      let found = named (λ p. error.Grown p) _ e is in
      subst (λ (x : CcError). IsDiscardReason h file span x) found.1.1
      (settled, (grown-page h file span found.0).0 (is ∙ ap Some (sym found.1.1)))

  by-image : IsUnheld h file span → (e : CcError) → unsettled h it ≡ Some e → IsDiscardReason h file span e
  by-image unheld e is =
      let found = named (λ p. error.Unsettled p) _ e is in
      subst (λ (x : CcError). IsDiscardReason h file span x) found.1.1
      (unheld, (unsettled-page h file span found.0).0 (is ∙ ap Some (sym found.1.1)))

  by-hold : is_open h file ≡ true → (e : CcError) → held h it ≡ Some e → IsDiscardReason h file span e
  by-hold is_there e is =
      let found = named (λ n. error.Held n) (least_id (has_page_of span) (holds_of h)) e is in
      subst (λ (x : CcError). IsDiscardReason h file span x) found.1.1 (is_there, found.1.0)

  by-file : (e : CcError) → not_cached h (Some file) ≡ Some e → IsDiscardReason h file span e
  by-file e is =
      let found = refused-if (is_open h file) e error.NotCached is in
      subst (λ (x : CcError). IsDiscardReason h file span x) found.1 found.0

  in-images : IsUnheld h file span → (e : CcError) → first_of (unsettled h it ∷ (grown h it ∷ [])) ≡ Some e → IsDiscardReason h file span e
  in-images unheld e is = go (first-reason (unsettled h it) _ e is)
    where
      last : unsettled h it ≡ None → (grown h it ≡ Some e) ⊎ ((grown h it ≡ None) × (first_of [] ≡ Some e)) → IsDiscardReason h file span e
      last none (inl here) = by-page (record { unheld = unheld; settled = (unsettled-none h file span).0 none }) e here
      last none (inr (away, nothing)) = absurd (cc nothing)

      go : (unsettled h it ≡ Some e) ⊎ ((unsettled h it ≡ None) × (first_of (grown h it ∷ []) ≡ Some e)) → IsDiscardReason h file span e
      go (inl here) = by-image unheld e here
      go (inr (none, rest)) = last none (first-reason (grown h it) [] e rest)

  in-holds : is_open h file ≡ true → (e : CcError) → first_of (held h it ∷ (unsettled h it ∷ (grown h it ∷ []))) ≡ Some e → IsDiscardReason h file span e
  in-holds is_there e is = go (first-reason (held h it) _ e is)
    where
      go : (held h it ≡ Some e) ⊎ ((held h it ≡ None) × (first_of (unsettled h it ∷ (grown h it ∷ [])) ≡ Some e)) → IsDiscardReason h file span e
      go (inl here) = by-hold is_there e here
      go (inr (none, rest)) = in-images (record { opened = is_there; unheld = none-named (least_id (has_page_of span) (holds_of h)) none }) e rest

  -- what refuses a discard is the first of its four reasons that holds
  pub reason-of : (e : CcError) → refusal u past h it ≡ Some e → IsDiscardReason h file span e
  unfolding refusal
  reason-of e is = go (first-reason (not_cached h (Some file)) _ e is)
    where
      go : (not_cached h (Some file) ≡ Some e) ⊎ ((not_cached h (Some file) ≡ None) × (first_of (held h it ∷ (None ∷ (None ∷ (None ∷ (None ∷ (unsettled h it ∷ (grown h it ∷ []))))))) ≡ Some e)) → IsDiscardReason h file span e
      go (inl here) = by-file e here
      go (inr (none, rest)) = in-holds (opened none) e (without (held h it) rest)
        where
          without : (o : Option CcError) → first_of (o ∷ (None ∷ (None ∷ (None ∷ (None ∷ (unsettled h it ∷ (grown h it ∷ []))))))) ≡ Some e → first_of (o ∷ (unsettled h it ∷ (grown h it ∷ []))) ≡ Some e
          without None some = some
          without (Some x) some = some

  -- and it may be done where none does
  pub may-discard : refusal u past h it ≡ None → open_of h ≡ None → MayDiscard h file span
  may-discard is rest =
      let k = unrefused u past h it is in
      record {
        settled = record {
          unheld = record { opened = opened k.cached; unheld = none-named (least_id (has_page_of span) (holds_of h)) k.not_held };
          settled = (unsettled-none h file span).0 k.images_known;
        };
        none_grown = (grown-none h file span).0 k.none_grown;
        no_transfer = rest;
      }

-- ---- what it makes of its stream

-- a stream of which an object is open has a map
open-mapped : (h : List Effect) (object : ℕ) → is_among object (objects h) ≡ true → is_mapped h ≡ true
open-mapped h object among = go (is_mapped h) refl
  where
    go : (b : Bool) → is_mapped h ≡ b → b ≡ true
    go true is = refl
    go false is = absurd (cc (sym among ∙ ap (is_among object) (no_objects h is)))

module _ (pass : ℕ) (file : File) (span : Option Range) (r : Reply) (h : List Effect) where
  abbrev after : List Effect
  after = Did pass (call.Discard file span) r ∷ h

  still-mapped : is_open h file ≡ true → is_mapped after ≡ true
  still-mapped is_there =
      open-mapped after file.object (ap (is_among file.object) (objects-discards pass (call.Discard file span) r h refl) ∙ is_there)

  pub dropped : is_open h file ≡ true → (u : Setup) (past : List Entry) (s : ℕ) → IsGoodSoFar u past → history past s ≡ after → HasDropped h after span
  dropped is_there u past s good here = record {
    out = λ p has. is_resident-discarded pass (call.Discard file span) r h span p refl has;
    clean = λ p has. is_dirty-discarded pass (call.Discard file span) r h span p refl has;
    on_disk = λ pages p i has low high below. subst (λ (g : List Effect). IsOnDisk pages g p i) here
        (IsOnDisk-good u past s good pages p i (subst (λ (g : List Effect). is_dirty g p ≡ false) (sym here) (is_dirty-discarded pass (call.Discard file span) r h span p refl has)) low high
        (subst (λ (g : List Effect). i < valid_of g) (sym here) below));
    same_clean = λ pages p i is. byte_of-discard_clean pass (call.Discard file span) r h span pages p i refl is;
    same_bytes = λ pages p i apart. byte_of-discard_apart pass (call.Discard file span) r h span pages p i refl apart;
    same_pages = λ p apart. (
      is_resident-discard_apart pass (call.Discard file span) r h span p refl apart (still-mapped is_there),
      unwritten-discard_apart pass (call.Discard file span) r h span p refl apart,
    );
    same_sizes = sizes-discards pass (call.Discard file span) r h refl;
    same_disk = λ pages p. image-done pages pass (call.Discard file span) r h p;
  }

-- ---- what the call did that placed its entry

-- A discard that was done, behind a good front.
pub discarded : (u : Setup) (me nth : ℕ) (file : File) (span : Option Range) (old front : List Entry) → IsIdle me old front → refusal u front (history front file.stream) (call.Discard file span) ≡ None → open_of (history front file.stream) ≡ None → IsGoodSoFar u (entry.Call me nth (Some file.stream) (call.Discard file span) (outcome.Done reply.Unit) ∷ front) → IsDiscarded me file span old (entry.Call me nth (Some file.stream) (call.Discard file span) (outcome.Done reply.Unit) ∷ front)
discarded u me nth file span old front idle admitted rest good = record {
  alone = record { front = front; idle = idle; nth = nth; placed = refl };
  may = may;
  dropped = subst (λ (h : List Effect). HasDropped (history front file.stream) h span) (sym here)
      (dropped me file span reply.Unit (history front file.stream) may.settled.unheld.opened u _ file.stream good here);
  elsewhere = λ s away. history-done_other me nth file.stream (call.Discard file span) reply.Unit front s away;
}
  where
    may : MayDiscard (history front file.stream) file span
    may = may-discard u front (history front file.stream) file span admitted rest

    here : history (entry.Call me nth (Some file.stream) (call.Discard file span) (outcome.Done reply.Unit) ∷ front) file.stream ≡ Did me (call.Discard file span) reply.Unit ∷ history front file.stream
    here = history-done me nth file.stream (call.Discard file span) reply.Unit front file.stream (eq-eqb file.stream file.stream refl)

-- One that was refused.
pub refused : (u : Setup) (me nth : ℕ) (file : File) (span : Option Range) (e : CcError) (old front : List Entry) → IsIdle me old front → refusal u front (history front file.stream) (call.Discard file span) ≡ Some e → DiscardIsRefused me file span e old (entry.Call me nth (Some file.stream) (call.Discard file span) (outcome.Failed e) ∷ front)
refused u me nth file span e old front idle reason = record {
  alone = record { front = front; idle = idle; nth = nth; placed = refl };
  reason = reason-of u front (history front file.stream) file span e reason;
}
