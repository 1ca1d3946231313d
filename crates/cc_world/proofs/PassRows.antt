-- What is kept of each pass goes on standing with an entry.
use Rattle.std.specs.Prelude.{◌≡◌, ℕ, suc, ◌+◌, ◌<◌, ◌≤◌, Bool, true, false, not, ◌&&◌, ◌||◌, ◌==◌, nat_eq, cond, is_some, List, [], ◌∷◌, ◌++◌, length, refl, if◌then◌else◌}
use Rattle.std.specs.declared.option.Option.{Option}
use Rattle.std.specs.declared.option.Option.TheVariants.{Some, None}
use Rattle.std.specs.List.{filter, list_any}
use Rattle.std.specs.Map.{lookup}
use Rattle.std.specs.Option.{option_map, option_or}
use Rattle.std.proofs.Common.{ap, sym, subst, ◌∙◌, arith}
use Rattle.std.proofs.lemmas.Bool.{eqb-true, eq-eqb}
use Rattle.cc_entry.specs.Place.{File, Page}
use Rattle.cc_entry.specs.declared.call.Call.{Call}
use Rattle.cc_entry.specs.declared.call.Call.TheVariants as call
use Rattle.cc_entry.specs.declared.entry.End.{End}
use Rattle.cc_entry.specs.declared.entry.End.TheVariants as how
use Rattle.cc_entry.specs.declared.entry.Entry.{Entry}
use Rattle.cc_entry.specs.declared.entry.Entry.TheVariants as entry
use Rattle.cc_entry.specs.declared.reply.Outcome.{Outcome}
use Rattle.cc_entry.specs.declared.reply.Outcome.TheVariants as outcome
use Rattle.cc_entry.specs.declared.reply.Reply.{Reply}
use Rattle.cc_laws.proofs.FaultSteps.{faults_since-fill_failed, faults_since-log_failed, faults_since-sync_ended, faults_since-sync_failed, faults_since-write_ended, faults_since-write_failed}
use Rattle.cc_laws.proofs.PassSteps.{faults_since-ended, faults_since-none, faults_since-not_mine, is_written_since-call, is_written_since-not_mine, is_written_since-ok_end, is_written_since-other, up_to_call-call, up_to_call-not_mine, up_to_call-other}
use Rattle.cc_model.specs.Faults.{Fault, faults_since, oldest}
use Rattle.cc_model.specs.Passes.{ends_call_of, is_call_of, is_mine, is_ok_end_of, is_pass, is_same_page, is_store, is_written_since, pass_of, store_of, stored_by, stored_page, up_to_call}
use Rattle.cc_world.specs.Faults.{fault_in}
use Rattle.cc_world.specs.declared.faults.Fault.{Fault as Told}
use Rattle.cc_world.specs.declared.faults.Fault.TheVariants as told
use Rattle.cc_world.specs.Passes.{HasRoomFor, IsPut, IsRowOfPass, PassesStand, has_row, is_page_stored, no_row, page_at, place_stored, row_after, row_or_none, row_stored, store_entry}
use Rattle.cc_world.specs.declared.blocks.PagePlace.{PagePlace}
use Rattle.cc_world.specs.declared.passes.PassRow.{PassRow}

-- a fault more is the oldest only where there was none
oldest-some : (it : Fault) (older : List Fault) → None ≡ oldest (it ∷ older) → ⊥
oldest-some it [] is = absurd (cc)
oldest-some it (next ∷ older) is = oldest-some next older is

oldest-with : (faults : List Fault) (known : Option Told) (f : Told) → option_map fault_in known ≡ oldest faults → option_map fault_in (option_or known (Some f)) ≡ oldest (fault_in f ∷ faults)
oldest-with [] None f is = refl
oldest-with [] (Some k) f is = absurd (cc)
oldest-with (it ∷ older) None f is = absurd (oldest-some it older is)
oldest-with (it ∷ older) (Some k) f is = is

and-off : (a : Bool) → (a && false) ≡ false
and-off true = refl
and-off false = refl

same-flipped : (a b : ℕ) → (a == b) ≡ (b == a)
same-flipped a b = go (a == b) refl (b == a) refl
  where
    go : (s : Bool) → (a == b) ≡ s → (t : Bool) → (b == a) ≡ t → (a == b) ≡ (b == a)
    go true is t other = is ∙ sym (eq-eqb b a (sym (eqb-true a b is)))
    go false is true other = absurd (cc (eq-eqb a b (sym (eqb-true b a other))))
    go false is false other = is ∙ sym other

place-page : (stream : Option ℕ) (it : Call) (ended : Outcome) → option_map page_at (place_stored stream it ended) ≡ stored_page stream it ended
place-page (Some s) (call.NcStore file page bytes) (outcome.Done reply) = refl
place-page stream it ended = refl

module _ (past : List Entry) (me : ℕ) (row : PassRow) (is : IsRowOfPass past me row) where
  -- an entry that is no call, no end of its transfer and no fault of the pass
  row-kept : (e : Entry) → is_call_of me e ≡ false → faults_since (e ∷ past) me ≡ faults_since past me → ((q : Page) → is_ok_end_of me q e ≡ false) → IsRowOfPass (e ∷ past) me row
  row-kept e no_call faults no_end =
      let up = up_to_call-other e past me no_call in
      record {
        called = is.called ∙ ap (λ (es : List Entry). length es) (sym up);
        stored = is.stored ∙ ap stored_by (sym up);
        written = λ q store. is.written q (ap stored_by (sym up) ∙ store) ∙ sym (is_written_since-other e past me q no_call (no_end q));
        fault = is.fault ∙ ap oldest (sym faults);
      }

  -- an entry of another pass
  row-other : (e : Entry) → is_mine me e ≡ false → IsRowOfPass (e ∷ past) me row
  row-other e other =
      let up = up_to_call-not_mine e past me other in
      record {
        called = is.called ∙ ap (λ (es : List Entry). length es) (sym up);
        stored = is.stored ∙ ap stored_by (sym up);
        written = λ q store. is.written q (ap stored_by (sym up) ∙ store) ∙ sym (is_written_since-not_mine e past me q other);
        fault = is.fault ∙ ap oldest (sym (faults_since-not_mine e past me other));
      }

  -- a fault of the pass
  faulted : (e : Entry) (f : Told) → is_call_of me e ≡ false → faults_since (e ∷ past) me ≡ fault_in f ∷ faults_since past me → ((q : Page) → is_ok_end_of me q e ≡ false) → IsRowOfPass (e ∷ past) me (record row { fault = option_or row.fault (Some f) })
  faulted e f no_call faults no_end =
      let up = up_to_call-other e past me no_call in
      record {
        called = is.called ∙ ap (λ (es : List Entry). length es) (sym up);
        stored = is.stored ∙ ap stored_by (sym up);
        written = λ q store. is.written q (ap stored_by (sym up) ∙ store) ∙ sym (is_written_since-other e past me q no_call (no_end q));
        fault = oldest-with (faults_since past me) row.fault f is.fault ∙ ap oldest (sym faults);
      }

  -- a call of the pass
  called-now : (pass nth : ℕ) (stream : Option ℕ) (it : Call) (ended : Outcome) (place : ℕ) → (pass == me) ≡ true → place ≡ length past + 1 → IsRowOfPass (entry.Call pass nth stream it ended ∷ past) me (row_after place row (entry.Call pass nth stream it ended))
  called-now pass nth stream it ended place same at =
      let up = up_to_call-call pass nth stream it ended past me same in
      record {
        called = at ∙ (one-more (length past) ∙ ap (λ (es : List Entry). length es) (sym up));
        stored = place-page stream it ended ∙ ap stored_by (sym up);
        written = λ q store. sym (is_written_since-call pass nth stream it ended past me q same);
        fault = by (is_store it ended) refl;
      }
    where
      one-more : (n : ℕ) → n + 1 ≡ suc n
      one-more n = omega arith

      e : Entry
      e = entry.Call pass nth stream it ended

      by : (b : Bool) → is_store it ended ≡ b → option_map fault_in (if is_store it ended then row.fault else None) ≡ oldest (faults_since (e ∷ past) me)
      by true stores =
          ap (λ (b : Bool). option_map fault_in (if b then row.fault else None)) stores
          ∙ (is.fault ∙ ap oldest (sym (faults_since-none e past me (ap (λ (b : Bool). pass == me && not b) stores ∙ and-off (pass == me)) refl)))
      by false other =
          ap (λ (b : Bool). option_map fault_in (if b then row.fault else None)) other
          ∙ ap oldest (sym (faults_since-ended e past me (ap (λ (b : Bool). pass == me && not b) other ∙ ap (λ (b : Bool). b && true) same)))

  -- a good end of a transfer of the pass
  written-now : (pass : ℕ) (page : Page) → (pass == me) ≡ true → IsRowOfPass (entry.WriteEnd pass page how.Good ∷ past) me (row_after 0 row (entry.WriteEnd pass page how.Good))
  written-now pass page same =
      let up = up_to_call-other e past me refl in
      record {
        called = is.called ∙ ap (λ (es : List Entry). length es) (sym up);
        stored = is.stored ∙ ap stored_by (sym up);
        written = λ q store. by row.stored q (is.stored ∙ (ap stored_by (sym up) ∙ store)) (is.written q (ap stored_by (sym up) ∙ store)) (is_same_page q page) refl;
        fault = is.fault ∙ ap oldest (sym (faults_since-write_ended pass page how.Good past me refl));
      }
    where
      e : Entry
      e = entry.WriteEnd pass page how.Good

      some : (a b : Page) → Some a ≡ Some b → a ≡ b
      some a b same = cc

      flipped : (a b : Page) → is_same_page a b ≡ is_same_page b a
      flipped a b =
          ap (λ (t : Bool). t && (a.page == b.page)) (same-flipped a.stream b.stream)
          ∙ ap (λ (t : Bool). (b.stream == a.stream) && t) (same-flipped a.page b.page)

      by : (stored : Option PagePlace) (q : Page) → option_map page_at stored ≡ Some q → row.written ≡ is_written_since past me q → (t : Bool) → is_same_page q page ≡ t → (is_page_stored page stored || row.written) ≡ is_written_since (e ∷ past) me q
      by None q store written t its = absurd (cc)
      by (Some place) q store written true its =
          ap (λ (t : Bool). t || row.written) (flipped page (page_at place) ∙ (ap (λ (p : Page). is_same_page p page) (some (page_at place) q store) ∙ its))
          ∙ sym (is_written_since-ok_end e past me q refl (ap (λ (t : Bool). pass == me && (t && true)) its ∙ ap (λ (t : Bool). t && true) same))
      by (Some place) q store written false its =
          ap (λ (t : Bool). t || row.written) (flipped page (page_at place) ∙ (ap (λ (p : Page). is_same_page p page) (some (page_at place) q store) ∙ its))
          ∙ (written ∙ sym (is_written_since-other e past me q refl (ap (λ (t : Bool). pass == me && (t && true)) its ∙ and-off (pass == me))))

  no-end : (pass : ℕ) (page : Page) (end : End) (q : Page) → (b : Bool) → b ≡ false → (pass == me && (is_same_page q page && b)) ≡ false
  no-end pass page end q true none = absurd (cc)
  no-end pass page end q false none = ap (λ (t : Bool). pass == me && t) (and-off (is_same_page q page)) ∙ and-off (pass == me)

  -- any entry of the pass
  pub row-after : (e : Entry) (place : ℕ) → pass_of e ≡ Some me → place ≡ length past + 1 → IsRowOfPass (e ∷ past) me (row_after place row e)
  row-after (entry.Call pass nth stream it ended) place its at = called-now pass nth stream it ended place (eq-eqb pass me (number pass me its)) at
    where
      number : (a b : ℕ) → Some a ≡ Some b → a ≡ b
      number a b same = cc
  row-after (entry.FillFailed pass page) place its at =
      faulted (entry.FillFailed pass page) (told.Read page.page) refl (faults_since-fill_failed pass page past me (eq-eqb pass me (number pass me its))) (λ q. refl)
    where
      number : (a b : ℕ) → Some a ≡ Some b → a ≡ b
      number a b same = cc
  row-after (entry.WriteEnd pass page how.Good) place its at = written-now pass page (eq-eqb pass me (number pass me its))
    where
      number : (a b : ℕ) → Some a ≡ Some b → a ≡ b
      number a b same = cc
  row-after (entry.WriteEnd pass page how.Failed) place its at =
      faulted (entry.WriteEnd pass page how.Failed) (told.Write page.page) refl (faults_since-write_failed pass page how.Failed past me (eq-eqb pass me (number pass me its)) refl) (λ q. no-end pass page how.Failed q false refl)
    where
      number : (a b : ℕ) → Some a ≡ Some b → a ≡ b
      number a b same = cc
  row-after (entry.WriteEnd pass page how.NoMemory) place its at =
      row-kept (entry.WriteEnd pass page how.NoMemory) refl (faults_since-write_ended pass page how.NoMemory past me refl) (λ q. no-end pass page how.NoMemory q false refl)
  row-after (entry.Sync pass stream how.Good) place its at = row-kept (entry.Sync pass stream how.Good) refl (faults_since-sync_ended pass stream how.Good past me refl) (λ q. refl)
  row-after (entry.Sync pass stream how.Failed) place its at =
      faulted (entry.Sync pass stream how.Failed) told.Sync refl (faults_since-sync_failed pass stream how.Failed past me (eq-eqb pass me (number pass me its)) refl) (λ q. refl)
    where
      number : (a b : ℕ) → Some a ≡ Some b → a ≡ b
      number a b same = cc
  row-after (entry.Sync pass stream how.NoMemory) place its at = row-kept (entry.Sync pass stream how.NoMemory) refl (faults_since-sync_ended pass stream how.NoMemory past me refl) (λ q. refl)
  row-after (entry.LogFailed pass handle) place its at =
      faulted (entry.LogFailed pass handle) (told.Log handle) refl (faults_since-log_failed pass handle past me (eq-eqb pass me (number pass me its))) (λ q. refl)
    where
      number : (a b : ℕ) → Some a ≡ Some b → a ≡ b
      number a b same = cc
  row-after other place its at = row-kept other refl (faults_since-none other past me refl refl) (λ q. refl)

-- A row that is put behind those of other passes.
put-kept : (pass : ℕ) (rows : List (ℕ × PassRow)) (q : ℕ) → nat_eq pass q ≡ false → lookup (nat_eq q) (filter (λ r. not (r.0 == pass)) rows) ≡ lookup (nat_eq q) rows
put-kept pass [] q apart = refl
put-kept pass (r ∷ rows) q apart = go (r.0 == pass) refl (nat_eq q r.0) refl (put-kept pass rows q apart)
  where
    go : (a : Bool) → (r.0 == pass) ≡ a → (b : Bool) → nat_eq q r.0 ≡ b → lookup (nat_eq q) (filter (λ x. not (x.0 == pass)) rows) ≡ lookup (nat_eq q) rows → lookup (nat_eq q) (filter (λ x. not (x.0 == pass)) (r ∷ rows)) ≡ lookup (nat_eq q) (r ∷ rows)
    go true its true here rest = absurd (cc (eq-eqb pass q (sym (eqb-true r.0 pass its) ∙ sym (eqb-true q r.0 here)), apart))
    go true its false away rest = rw (its, away) rest
    go false other true here rest = rw (other, here) refl
    go false other false away rest = rw (other, away) rest

put-dropped : (pass : ℕ) (rows : List (ℕ × PassRow)) (q : ℕ) → nat_eq pass q ≡ true → lookup (nat_eq q) (filter (λ r. not (r.0 == pass)) rows) ≡ None
put-dropped pass [] q same = refl
put-dropped pass (r ∷ rows) q same = go (r.0 == pass) refl (nat_eq q r.0) refl (put-dropped pass rows q same)
  where
    go : (a : Bool) → (r.0 == pass) ≡ a → (b : Bool) → nat_eq q r.0 ≡ b → lookup (nat_eq q) (filter (λ x. not (x.0 == pass)) rows) ≡ None → lookup (nat_eq q) (filter (λ x. not (x.0 == pass)) (r ∷ rows)) ≡ None
    go true its b here rest = rw its rest
    go false other true here rest = absurd (cc (eq-eqb r.0 pass (sym (eqb-true q r.0 here) ∙ sym (eqb-true pass q same)), other))
    go false other false away rest = rw (other, away) rest

lookup-append : (test : ℕ → Bool) (rows : List (ℕ × PassRow)) (r : ℕ × PassRow) → lookup test (rows ++ r ∷ []) ≡ option_or (lookup test rows) (cond (test r.0) (Some r.1) None)
lookup-append test [] r = go (test r.0) refl
  where
    go : (b : Bool) → test r.0 ≡ b → lookup test (r ∷ []) ≡ option_or None (cond (test r.0) (Some r.1) None)
    go true is = rw is refl
    go false is = rw is refl
lookup-append test (x ∷ rows) r = go (test x.0) refl (lookup-append test rows r)
  where
    go : (b : Bool) → test x.0 ≡ b → lookup test (rows ++ r ∷ []) ≡ option_or (lookup test rows) (cond (test r.0) (Some r.1) None) → lookup test (x ∷ (rows ++ r ∷ [])) ≡ option_or (lookup test (x ∷ rows)) (cond (test r.0) (Some r.1) None)
    go true is rest = rw is refl
    go false is rest = rw is rest

or-none : (o : Option PassRow) → option_or o None ≡ o
or-none None = refl
or-none (Some r) = refl

pub is-put : (old new : List (ℕ × PassRow)) (pass : ℕ) (row : PassRow) → new ≡ filter (λ r. not (r.0 == pass)) old ++ (pass, row) ∷ [] → IsPut old new pass row
is-put old new pass row is q =
    ap (λ (rows : List (ℕ × PassRow)). lookup (nat_eq q) rows) is
    ∙ (lookup-append (nat_eq q) (filter (λ r. not (r.0 == pass)) old) (pass, row) ∙ go (nat_eq pass q) refl)
  where
    go : (b : Bool) → nat_eq pass q ≡ b → option_or (lookup (nat_eq q) (filter (λ r. not (r.0 == pass)) old)) (cond (nat_eq q pass) (Some row) None) ≡ cond (nat_eq pass q) (Some row) (lookup (nat_eq q) old)
    go true same =
        ap (λ (o : Option PassRow). option_or o (cond (nat_eq q pass) (Some row) None)) (put-dropped pass old q same)
        ∙ (ap (λ (b : Bool). cond b (Some row) None) (eq-eqb q pass (sym (eqb-true pass q same)))
        ∙ sym (ap (λ (b : Bool). cond b (Some row) (lookup (nat_eq q) old)) same))
    go false apart =
        ap (λ (o : Option PassRow). option_or o (cond (nat_eq q pass) (Some row) None)) (put-kept pass old q apart)
        ∙ (ap (λ (b : Bool). option_or (lookup (nat_eq q) old) (cond b (Some row) None)) (same-flipped q pass ∙ apart)
        ∙ (or-none (lookup (nat_eq q) old) ∙ sym (ap (λ (b : Bool). cond b (Some row) (lookup (nat_eq q) old)) apart)))

-- A row is dropped where there is one of the pass, so there is a place.
fewer : (pass : ℕ) (rows : List (ℕ × PassRow)) → length (filter (λ r. not (r.0 == pass)) rows) ≤ length rows
fewer pass [] = omega arith
fewer pass (r ∷ rows) = go (r.0 == pass) refl (fewer pass rows)
  where
    go : (b : Bool) → (r.0 == pass) ≡ b → length (filter (λ x. not (x.0 == pass)) rows) ≤ length rows → length (filter (λ x. not (x.0 == pass)) (r ∷ rows)) ≤ suc (length rows)
    go true its less = rw its (omega (arith, less))
    go false other less = rw other (omega (arith, less))

one-fewer : (pass : ℕ) (rows : List (ℕ × PassRow)) → has_row rows pass ≡ true → length (filter (λ r. not (r.0 == pass)) rows) < length rows
one-fewer pass [] has = absurd (cc)
one-fewer pass (r ∷ rows) has = go (r.0 == pass) refl (fewer pass rows) (one-fewer pass rows)
  where
    go : (b : Bool) → (r.0 == pass) ≡ b → length (filter (λ x. not (x.0 == pass)) rows) ≤ length rows → (has_row rows pass ≡ true → length (filter (λ x. not (x.0 == pass)) rows) < length rows) → length (filter (λ x. not (x.0 == pass)) (r ∷ rows)) < suc (length rows)
    go true its less rest = rw its (omega (arith, less))
    go false other less rest = rw other (more (rest (sym (ap (λ (b : Bool). is_some (cond b (Some r.1) (lookup (nat_eq pass) rows))) (same-flipped pass r.0 ∙ other)) ∙ has)))
      where
        more : length (filter (λ x. not (x.0 == pass)) rows) < length rows → suc (length (filter (λ x. not (x.0 == pass)) rows)) < suc (length rows)
        more h = omega (arith, h)

pub has-place : (pass most : ℕ) (rows kept : List (ℕ × PassRow)) → kept ≡ filter (λ r. not (r.0 == pass)) rows → length rows ≤ most → HasRoomFor pass rows most → length kept < most
has-place pass most rows kept is within room = subst (λ (rs : List (ℕ × PassRow)). length rs < most) (sym is) (go (has_row rows pass) refl)
  where
    go : (b : Bool) → has_row rows pass ≡ b → length (filter (λ r. not (r.0 == pass)) rows) < most
    go true has = omega (arith, one-fewer pass rows has, within)
    go false none = omega (arith, fewer pass rows, room none)

module _ (old new : List (ℕ × PassRow)) (me : ℕ) (row : PassRow) (put : IsPut old new me row) where
  put-so : (q : ℕ) (b : Bool) → nat_eq me q ≡ b → lookup (nat_eq q) new ≡ cond b (Some row) (lookup (nat_eq q) old)
  put-so q b same = put q ∙ ap (λ (b : Bool). cond b (Some row) (lookup (nat_eq q) old)) same

  has-put : (q : ℕ) → has_row old q ≡ true → has_row new q ≡ true
  has-put q has = go (nat_eq me q) refl
    where
      go : (b : Bool) → nat_eq me q ≡ b → has_row new q ≡ true
      go true same = ap (λ (o : Option PassRow). is_some o) (put-so q true same)
      go false apart = ap (λ (o : Option PassRow). is_some o) (put-so q false apart) ∙ has

  has-its : has_row new me ≡ true
  has-its = ap (λ (o : Option PassRow). is_some o) (put-so me true (eq-eqb me me refl))

-- whether an entry is of a pass, by its pass
mine-of : (e : Entry) (me q : ℕ) → pass_of e ≡ Some me → is_mine q e ≡ nat_eq me q
mine-of e me q its = ap (λ (o : Option ℕ). is_pass q o) its

later-any : (e : Entry) (past : List Entry) (q : ℕ) → is_mine q e ≡ false → list_any (is_mine q) (e ∷ past) ≡ true → list_any (is_mine q) past ≡ true
later-any e past q other some = sym (ap (λ (b : Bool). b || list_any (is_mine q) past) other) ∙ some

-- an entry of a pass steps its row
pub passes-after : (past : List Entry) (old new : List (ℕ × PassRow)) (e : Entry) (me place : ℕ) → pass_of e ≡ Some me → place ≡ length past + 1 → IsPut old new me (row_after place (row_or_none (lookup (nat_eq me) old)) e) → PassesStand past old → PassesStand (e ∷ past) new
passes-after past old new e me place its at put stood = record {
  each = λ q. go q (nat_eq me q) refl;
  first = has-put old new me row put 0 stood.first;
  known = λ q some. by q (nat_eq me q) refl some;
}
  where
    row : PassRow
    row = row_after place (row_or_none (lookup (nat_eq me) old)) e

    go : (q : ℕ) (b : Bool) → nat_eq me q ≡ b → IsRowOfPass (e ∷ past) q (row_or_none (lookup (nat_eq q) new))
    go q true same =
        let here : IsRowOfPass (e ∷ past) me row = row-after past me (row_or_none (lookup (nat_eq me) old)) (stood.each me) e place its at in
        subst (λ (r : PassRow). IsRowOfPass (e ∷ past) q r) (sym (ap row_or_none (put-so old new me row put q true same)))
        (subst (λ (n : ℕ). IsRowOfPass (e ∷ past) n row) (eqb-true me q same) here)
    go q false apart =
        subst (λ (r : PassRow). IsRowOfPass (e ∷ past) q r) (sym (ap row_or_none (put-so old new me row put q false apart)))
        (row-other past q (row_or_none (lookup (nat_eq q) old)) (stood.each q) e (mine-of e me q its ∙ apart))

    by : (q : ℕ) (b : Bool) → nat_eq me q ≡ b → list_any (is_mine q) (e ∷ past) ≡ true → has_row new q ≡ true
    by q true same some = ap (λ (o : Option PassRow). is_some o) (put-so old new me row put q true same)
    by q false apart some = has-put old new me row put q (stood.known q (later-any e past q (mine-of e me q its ∙ apart) some))

-- a post is of no pass
pub passes-none : (past : List Entry) (rows : List (ℕ × PassRow)) (e : Entry) → pass_of e ≡ None → PassesStand past rows → PassesStand (e ∷ past) rows
passes-none past rows e none stood = record {
  each = λ q. row-other past q (row_or_none (lookup (nat_eq q) rows)) (stood.each q) e (other q);
  first = stood.first;
  known = λ q some. stood.known q (later-any e past q (other q) some);
}
  where
    other : (q : ℕ) → is_mine q e ≡ false
    other q = ap (λ (o : Option ℕ). is_pass q o) none

-- the begin of a transfer by a pass of which there is a row changes none
passes-begin : (past : List Entry) (rows : List (ℕ × PassRow)) (pass : ℕ) (page : Page) → has_row rows pass ≡ true → PassesStand past rows → PassesStand (entry.WriteBegin pass page ∷ past) rows
passes-begin past rows pass page has stood = record {
  each = λ q. row-kept past q (row_or_none (lookup (nat_eq q) rows)) (stood.each q) (entry.WriteBegin pass page) refl (faults_since-none (entry.WriteBegin pass page) past q refl refl) (λ p. refl);
  first = stood.first;
  known = λ q some. by q (pass == q) refl some;
}
  where
    by : (q : ℕ) (b : Bool) → (pass == q) ≡ b → list_any (is_mine q) (entry.WriteBegin pass page ∷ past) ≡ true → has_row rows q ≡ true
    by q true same some = subst (λ (n : ℕ). has_row rows n ≡ true) (eqb-true pass q same) has
    by q false apart some = stood.known q (later-any (entry.WriteBegin pass page) past q apart some)

-- a done noncached store, and the begin of the page's transfer
pub passes-store : (past : List Entry) (old new : List (ℕ × PassRow)) (me nth : ℕ) (page : Page) (file : File) (bytes : List ℕ) (reply : Reply) (place : ℕ) → place ≡ length past + 1 → IsPut old new me (row_stored place (row_or_none (lookup (nat_eq me) old)) page) → PassesStand past old → PassesStand (entry.WriteBegin me page ∷ store_entry me nth page file bytes reply ∷ past) new
passes-store past old new me nth page file bytes reply place at put stood =
    passes-begin (store_entry me nth page file bytes reply ∷ past) new me page (has-its old new me (row_stored place (row_or_none (lookup (nat_eq me) old)) page) put)
    (passes-after past old new (store_entry me nth page file bytes reply) me place refl at put stood)

-- nothing is kept of passes that did nothing, but that there is a row of pass 0
pub passes-fresh : (rows : List (ℕ × PassRow)) → IsPut [] rows 0 no_row → PassesStand [] rows
unfolding up_to_call faults_since is_written_since
passes-fresh rows put = record {
  each = λ q. go q (nat_eq 0 q) refl;
  first = has-its [] rows 0 no_row put;
  known = λ q some. absurd (cc);
}
  where
    fresh : (q : ℕ) → IsRowOfPass [] q no_row
    fresh q = record { called = refl; stored = refl; written = λ p store. absurd (cc); fault = refl }

    go : (q : ℕ) (b : Bool) → nat_eq 0 q ≡ b → IsRowOfPass [] q (row_or_none (lookup (nat_eq q) rows))
    go q true same = subst (λ (r : PassRow). IsRowOfPass [] q r) (sym (ap row_or_none (put-so [] rows 0 no_row put q true same))) (fresh q)
    go q false apart = subst (λ (r : PassRow). IsRowOfPass [] q r) (sym (ap row_or_none (put-so [] rows 0 no_row put q false apart))) (fresh q)

pub passes-begun : (old rows : List (ℕ × PassRow)) (row : PassRow) → old ≡ [] → row ≡ no_row → rows ≡ old ++ (0, row) ∷ [] → PassesStand [] rows
passes-begun old rows row empty is all =
    passes-fresh rows (is-put [] rows 0 no_row (all ∙ (ap (λ (rs : List (ℕ × PassRow)). rs ++ (0, row) ∷ []) empty ∙ ap (λ (r : PassRow). [] ++ (0, r) ∷ []) is)))
