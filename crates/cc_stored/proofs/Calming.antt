-- While a pass keeps the disk of a stream and flushes it, the stretch is calm; so behind the flush the lengths may be told.
use Rattle.std.specs.Prelude.{◌≡◌, ℕ, ◌+◌, ◌-◌, ◌≤◌, Bool, true, false, not, ◌||◌, ◌==◌, cond, List, [], ◌∷◌, ◌++◌, take, length, refl, if◌then◌else◌}
use Rattle.std.specs.List.{list_all, list_any}
use Rattle.std.specs.declared.option.Option.{Option}
use Rattle.std.specs.declared.option.Option.TheVariants.{Some, None}
use Rattle.std.proofs.Common.{ap, sym, subst, ◌∙◌, append_assoc, length-append, arith}
use Rattle.std.proofs.lemmas.Bool.{and_parts, and_from}
use Rattle.std.proofs.lemmas.List.Folds.{list_all-append}
use Rattle.cc_entry.specs.Place.{File}
use Rattle.cc_entry.specs.declared.call.Call.{Call}
use Rattle.cc_entry.specs.declared.call.Call.TheVariants as call
use Rattle.cc_entry.specs.declared.entry.End.TheVariants as how
use Rattle.cc_entry.specs.declared.entry.Entry.{Entry}
use Rattle.cc_entry.specs.declared.entry.Entry.TheVariants as entry
use Rattle.cc_entry.specs.declared.reply.Outcome.TheVariants as outcome
use Rattle.cc_entry.specs.declared.reply.Reply.TheVariants as reply
use Rattle.cc_effects.specs.Asked.{Calls}
use Rattle.cc_effects.specs.Calls.{CallLeft}
use Rattle.cc_effects.specs.Moments.{own, Others, EachOwn}
use Rattle.cc_effects.specs.Places.{MayPlace}
use Rattle.cc_effects.specs.Stops.{stops, IsUnstopped}
use Rattle.cc_keep.specs.Keeps.{leaves_disk, newer}
use Rattle.cc_laws.proofs.QuietSteps.{none_or, is_cached_call, effect_of-deviceless, is_quiet-first, is_quiet-rest}
use Rattle.cc_model.specs.Acts.{act_of}
use Rattle.cc_model.specs.Flushed.{settled_since}
use Rattle.cc_model.specs.Good.{IsGoodSoFar}
use Rattle.cc_model.specs.History.{Effect, Did, CameIn, WentOut, Began, Ended, Synced, effect_of, history}
use Rattle.cc_model.specs.Passes.{is_mine}
use Rattle.cc_model.specs.Records.{MayTellValid}
use Rattle.cc_model.specs.Setup.{Setup}
use Rattle.cc_model.specs.Sizes.{ended_ok}
use Rattle.cc_model.specs.Touches.{valid_of}
use Rattle.cc_model.specs.Turns.{Device, needs, is_quiet}
use Rattle.cc_records.proofs.Settling.{may-tell}
use Rattle.cc_records.specs.Calm.{IsCalm, is_calm_act, is_calm_in}

-- a call that does not need the disk is calm, and so is an entry that does not
calm-cached : (call : Call) → is_cached_call (Did 0 call reply.Unit) ≡ true → is_calm_act (act_of call) ≡ true
calm-cached (call.NcStore file page bytes) cached = absurd (cc)
calm-cached (call.Discard file span) cached = absurd (cc)
calm-cached (call.PreparePin file at len true exclusive) cached = refl
calm-cached (call.PreparePin file at len false exclusive) cached = refl
calm-cached other cached = refl

calm-effect : (o : Option Effect) → none_or is_cached_call o ≡ true → is_calm_in o ≡ true
calm-effect None cached = refl
calm-effect (Some (Did pass call reply)) cached = calm-cached call cached
calm-effect (Some (CameIn pass page from_disk)) cached = absurd (cc)
calm-effect (Some (WentOut pass page)) cached = refl
calm-effect (Some (Began pass page)) cached = refl
calm-effect (Some (Ended pass page how)) cached = absurd (cc)
calm-effect (Some (Synced pass how)) cached = refl

calm-unneeded : (e : Entry) (s : ℕ) → needs e (Device s) ≡ false → is_calm_in (effect_of e s) ≡ true
calm-unneeded e s free = calm-effect (effect_of e s) (effect_of-deviceless e s free)

calm-others : (me s : ℕ) (e : Entry) → is_mine me e ≡ false → leaves_disk me s e ≡ true → is_calm_in (effect_of e s) ≡ true
calm-others me s e other leaves = calm-unneeded e s (go (needs e (Device s)) (ap (λ (b : Bool). b || not (needs e (Device s))) (sym other) ∙ leaves))
  where
    go : (b : Bool) → (false || not b) ≡ true → b ≡ false
    go false is = refl
    go true is = absurd (cc)

-- what a flush places, and nothing stops, is calm
either : (b : Bool) (e : Effect) → is_calm_in (Some e) ≡ true → is_calm_in (if b then Some e else None) ≡ true
either true e calm = calm
either false e calm = refl

not-false : (b : Bool) → not b ≡ false → b ≡ true
not-false true is = refl
not-false false is = absurd (cc)

calm-placed : (me s : ℕ) (file : File) (old past : List Entry) (e : Entry) → MayPlace me (Calls (call.Flush file None)) old past e → stops e ≡ false → is_calm_in (effect_of e s) ≡ true
calm-placed me s file old past (entry.Call pass nth stream call ended) may goes = absurd may
calm-placed me s file old past (entry.PageIn pass page from_disk) may goes = absurd (cc)
calm-placed me s file old past (entry.PageOut pass page) may goes = either (page.stream == s) (WentOut pass page.page) refl
calm-placed me s file old past (entry.FillFailed pass page) may goes = refl
calm-placed me s file old past (entry.WriteBegin pass page) may goes = either (page.stream == s) (Began pass page.page) refl
calm-placed me s file old past (entry.WriteEnd pass page how) may goes = either (page.stream == s) (Ended pass page.page how) (not-false (ended_ok how) goes)
calm-placed me s file old past (entry.Sync pass stream how) may goes = either (stream == s) (Synced pass how) refl
calm-placed me s file old past other may goes = refl

-- so is each entry of a stretch in which the pass placed that, and others left the disk
calm-stretch : (me s : ℕ) (file : File) (base during old : List Entry) → EachOwn me (MayPlace me (Calls (call.Flush file None)) base) during old → IsUnstopped me during → list_all (leaves_disk me s) during ≡ true → IsCalm s during
calm-stretch me s file base [] old each unstopped leaves = refl
calm-stretch me s file base (e ∷ during) old each unstopped leaves =
    let parts = and_parts (leaves_disk me s e) (list_all (leaves_disk me s) during) leaves in
    go (is_mine me e) refl parts.0 (λ rest. calm-stretch me s file base during old each.1 rest parts.1)
  where
    first : (b : Bool) (l : List Entry) → list_any stops (e ∷ l) ≡ false → stops e ≡ false
    first b l none = parted (stops e) (list_any stops l) none
      where
        parted : (x y : Bool) → (x || y) ≡ false → x ≡ false
        parted false y is = refl
        parted true y is = absurd (cc)

    rest : (l : List Entry) → list_any stops (e ∷ l) ≡ false → list_any stops l ≡ false
    rest l none = parted (stops e) (list_any stops l) none
      where
        parted : (x y : Bool) → (x || y) ≡ false → y ≡ false
        parted false y is = is
        parted true y is = absurd (cc)

    go : (b : Bool) → is_mine me e ≡ b → leaves_disk me s e ≡ true → (IsUnstopped me during → IsCalm s during) → IsCalm s (e ∷ during)
    go true mine leaves_e more =
        let whole : list_any stops (e ∷ own me during) ≡ false = ap (λ (b : Bool). list_any stops (cond b (e ∷ own me during) (own me during))) (sym mine) ∙ unstopped in
        and_from (is_calm_in (effect_of e s)) (list_all (λ e. is_calm_in (effect_of e s)) during)
        (calm-placed me s file base (during ++ old) e (each.0 mine) (first true (own me during) whole)) (more (rest (own me during) whole))
    go false other leaves_e more =
        let whole : list_any stops (own me during) ≡ false = ap (λ (b : Bool). list_any stops (cond b (e ∷ own me during) (own me during))) (sym other) ∙ unstopped in
        and_from (is_calm_in (effect_of e s)) (list_all (λ e. is_calm_in (effect_of e s)) during) (calm-others me s e other leaves_e) (more whole)

calm-idle : (me s : ℕ) (l : List Entry) → Others me l → list_all (leaves_disk me s) l ≡ true → IsCalm s l
calm-idle me s [] others leaves = refl
calm-idle me s (e ∷ l) others leaves =
    let parts = and_parts (leaves_disk me s e) (list_all (leaves_disk me s) l) leaves in
    and_from (is_calm_in (effect_of e s)) (list_all (λ e. is_calm_in (effect_of e s)) l) (calm-others me s e others.0 parts.0) (calm-idle me s l others.1 parts.1)

calm-quiet : (s : ℕ) (l : List Entry) → is_quiet (Device s) l ≡ true → IsCalm s l
calm-quiet s [] quiet = refl
calm-quiet s (e ∷ l) quiet =
    and_from (is_calm_in (effect_of e s)) (list_all (λ e. is_calm_in (effect_of e s)) l) (calm-unneeded e s (is_quiet-first (Device s) e l quiet)) (calm-quiet s l (is_quiet-rest (Device s) e l quiet))

calm-append : (s : ℕ) (xs ys : List Entry) → IsCalm s xs → IsCalm s ys → IsCalm s (xs ++ ys)
calm-append s xs ys one other = list_all-append (λ e. is_calm_in (effect_of e s)) xs ys ∙ rw (one, other) refl

calm-parts : (s : ℕ) (xs ys : List Entry) → IsCalm s (xs ++ ys) → IsCalm s xs × IsCalm s ys
calm-parts s xs ys calm =
    and_parts (list_all (λ e. is_calm_in (effect_of e s)) xs) (list_all (λ e. is_calm_in (effect_of e s)) ys) (sym (list_all-append (λ e. is_calm_in (effect_of e s)) xs ys) ∙ calm)

-- the entry of the flush is calm
calm-flush : (me nth s : ℕ) (stream : Option ℕ) (file : File) → is_calm_in (effect_of (entry.Call me nth stream (call.Flush file None) (outcome.Done reply.Unit)) s) ≡ true
calm-flush me nth s None file = refl
calm-flush me nth s (Some stream) file = either (stream == s) (Did me (call.Flush file None) reply.Unit) refl

-- what is newer than a moment
newer-append : (l old : List Entry) → newer (length old) (l ++ old) ≡ l
newer-append l old = ap (λ (n : ℕ). take n (l ++ old)) (counted (length (l ++ old)) (length l) (length old) (length-append l old)) ∙ front l old
  where
    counted : (n a b : ℕ) → n ≡ a + b → n - b ≡ a
    counted n a b is = omega (arith, is)

    front : (l old : List Entry) → take (length l) (l ++ old) ≡ l
    front [] old = refl
    front (e ∷ l) old = ap (λ (m : List Entry). e ∷ m) (front l old)

-- ---- behind a flush that was done the lengths may be told

module _ (u : Setup) (me s : ℕ) (file : File) (same : file.stream ≡ s) (old new : List Entry) (left : CallLeft u me (call.Flush file None) (outcome.Done reply.Unit) old new) (leaves : list_all (leaves_disk me s) (newer (length old) new) ≡ true) where
  abbrev done : Entry
  done = entry.Call me left.placed.nth left.placed.stream (call.Flush file None) (outcome.Done reply.Unit)

  abbrev sync : Entry
  sync = entry.Sync me s how.Good

  grown : new ≡ (left.placed.later ++ done ∷ left.earlier) ++ old
  grown = left.placed.grew ∙ sym (append_assoc left.placed.later (done ∷ left.earlier) old)

  leaves_all : list_all (leaves_disk me s) (left.placed.later ++ done ∷ left.earlier) ≡ true
  leaves_all =
      ap (list_all (leaves_disk me s)) (sym (newer-append (left.placed.later ++ done ∷ left.earlier) old))
      ∙ (ap (λ (l : List Entry). list_all (leaves_disk me s) (newer (length old) l)) (sym grown) ∙ leaves)

  leaves_later : (list_all (leaves_disk me s) left.placed.later ≡ true) × (list_all (leaves_disk me s) (done ∷ left.earlier) ≡ true)
  leaves_later =
      and_parts (list_all (leaves_disk me s) left.placed.later) (list_all (leaves_disk me s) (done ∷ left.earlier))
      (sym (list_all-append (leaves_disk me s) left.placed.later (done ∷ left.earlier)) ∙ leaves_all)

  calm_earlier : IsCalm s left.earlier
  calm_earlier =
      calm-stretch me s file old left.earlier old left.placed.works.each left.unstopped
      (and_parts (leaves_disk me s done) (list_all (leaves_disk me s) left.earlier) leaves_later.1).1

  split : left.earlier ≡ left.has_done.after ++ sync ∷ left.has_done.before
  split = left.has_done.split ∙ ap (λ (n : ℕ). left.has_done.after ++ entry.Sync me n how.Good ∷ left.has_done.before) same

  calm_both : IsCalm s left.has_done.after × IsCalm s (sync ∷ left.has_done.before)
  calm_both = calm-parts s left.has_done.after (sync ∷ left.has_done.before) (subst (λ (l : List Entry). IsCalm s l) split calm_earlier)

  calm_before : IsCalm s left.has_done.before
  calm_before = (and_parts (is_calm_in (effect_of sync s)) (list_all (λ e. is_calm_in (effect_of e s)) left.has_done.before) calm_both.1).1

  abbrev since : List Entry → List Entry
  since later = later ++ (left.placed.later ++ done ∷ left.has_done.after)

  calm_since : (later : List Entry) → is_quiet (Device s) later ≡ true → IsCalm s (since later)
  calm_since later quiet =
      calm-append s later (left.placed.later ++ done ∷ left.has_done.after) (calm-quiet s later quiet)
      (calm-append s left.placed.later (done ∷ left.has_done.after) (calm-idle me s left.placed.later left.placed.quiet leaves_later.0)
      (and_from (is_calm_in (effect_of done s)) (list_all (λ e. is_calm_in (effect_of e s)) left.has_done.after) (calm-flush me left.placed.nth s left.placed.stream file) calm_both.0))

  whole : (later : List Entry) → later ++ new ≡ since later ++ sync ∷ (left.has_done.before ++ old)
  whole later =
      ap (λ (l : List Entry). later ++ l)
      (left.placed.grew
      ∙ (ap (λ (l : List Entry). left.placed.later ++ (done ∷ (l ++ old))) split
      ∙ (ap (λ (l : List Entry). left.placed.later ++ (done ∷ l)) (append_assoc left.has_done.after (sync ∷ left.has_done.before) old)
      ∙ sym (append_assoc left.placed.later (done ∷ left.has_done.after) (sync ∷ (left.has_done.before ++ old))))))
      ∙ sym (append_assoc later (left.placed.later ++ done ∷ left.has_done.after) (sync ∷ (left.has_done.before ++ old)))

  pub told-behind : (later : List Entry) → is_quiet (Device s) later ≡ true → IsGoodSoFar u (later ++ new) → (valid : ℕ) → valid ≤ valid_of (history old s) → valid ≤ valid_of (history (later ++ new) s) → MayTellValid (history (later ++ new) s) valid
  told-behind later quiet good valid before now =
      subst (λ (past : List Entry). MayTellValid (history past s) valid) (sym (whole later))
      (may-tell u me s old left.has_done.before (since later) (subst (λ (past : List Entry). IsGoodSoFar u past) (whole later) good) calm_before (calm_since later quiet)
      (subst (λ (n : ℕ). settled_since (length (history old n)) (history (left.has_done.before ++ old) n) None ≡ true) same left.has_done.settled) valid before
      (subst (λ (past : List Entry). valid ≤ valid_of (history past s)) (whole later) now))
