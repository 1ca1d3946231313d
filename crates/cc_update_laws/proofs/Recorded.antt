-- Which updates have a record behind a stretch, and which of them are set dirty.
use Rattle.std.specs.Prelude.{◌≡◌, ℕ, Bool, true, false, cond, ◌||◌, List, [], ◌∷◌, ◌++◌, refl, ◌⊎◌}
use Rattle.std.specs.List.{list_any}
use Rattle.std.specs.declared.option.Option.{Option}
use Rattle.std.specs.declared.option.Option.TheVariants.{Some}
use Rattle.std.proofs.Common.{ap, sym, subst, ◌∙◌, inl, inr, append_assoc}
use Rattle.std.proofs.lemmas.Bool.{eq-eqb, or_from, or_parts}
use Rattle.std.proofs.lemmas.List.Folds.{list_any-append}
use Rattle.cc_entry.specs.declared.call.Call.{Call}
use Rattle.cc_entry.specs.declared.entry.Entry.{Entry}
use Rattle.cc_entry.specs.declared.entry.Entry.TheVariants as entry
use Rattle.cc_entry.specs.declared.error.CcError.{CcError}
use Rattle.cc_entry.specs.declared.error.CcError.TheVariants as error
use Rattle.cc_entry.specs.declared.reply.Outcome.{Outcome}
use Rattle.cc_entry.specs.declared.reply.Outcome.TheVariants as outcome
use Rattle.cc_model.specs.Passes.{is_mine}
use Rattle.cc_model.specs.Setup.{Setup}
use Rattle.cc_effects.specs.Asked.{Calls, Work}
use Rattle.cc_effects.specs.Calls.{CallLeft, IsPlaced, IsUnplaced}
use Rattle.cc_effects.specs.LogCalls.{AppendRefused}
use Rattle.cc_effects.specs.Moments.{IsIdle, PlacedOnly, EachOwn, own}
use Rattle.cc_effects.specs.Places.{MayPlace, Works}
use Rattle.cc_effects.proofs.FrontLaws.{placed-of}
use Rattle.cc_effects.proofs.Stretches.{own-append, own-others}
use Rattle.cc_redo.specs.Reading.{said_by}
use Rattle.cc_redo.specs.declared.record.LogRecord.{LogRecord}
use Rattle.cc_redo.specs.declared.record.LogRecord.TheVariants.{Update}
use Rattle.cc_restart_laws.specs.Updates.{WasStamped, is_update_of, records_update}
use Rattle.cc_update_laws.specs.Keeping.{AreStamped, OthersRecordNone}

clash : {b : Bool} → b ≡ true → b ≡ false → ⊥
clash a b = cc

-- ---- stretches in which the pass records no update

pub record RecordsNone (s log me : ℕ) (old new : List Entry) : Type 0 where
  pub during : List Entry
  pub grew : new ≡ during ++ old
  pub none : list_any (records_update s log) (own me during) ≡ false

pub none-then : (s log me : ℕ) (old between new : List Entry) → RecordsNone s log me old between → RecordsNone s log me between new → RecordsNone s log me old new
none-then s log me old between new first second = record {
  during = second.during ++ first.during;
  grew = second.grew ∙ (ap (λ (l : List Entry). second.during ++ l) first.grew ∙ sym (append_assoc second.during first.during old));
  none =
      ap (list_any (records_update s log)) (own-append me second.during first.during)
      ∙ (list_any-append (records_update s log) (own me second.during) (own me first.during) ∙ or_from _ _ second.none first.none);
}

pub none-idle : (s log me : ℕ) (old new : List Entry) → IsIdle me old new → RecordsNone s log me old new
none-idle s log me old new idle = record { during = idle.during; grew = idle.grew; none = ap (list_any (records_update s log)) (own-others me idle.during idle.others) }

pub none-entry : (s log me : ℕ) (e : Entry) (front : List Entry) → records_update s log e ≡ false → RecordsNone s log me front (e ∷ front)
none-entry s log me e front none = record { during = e ∷ []; grew = refl; none = by (is_mine me e) }
  where
    by : (b : Bool) → list_any (records_update s log) (cond b (e ∷ []) []) ≡ false
    by true = or_from (records_update s log e) false none refl
    by false = refl

pub none-only : (s log me : ℕ) (e : Entry) (old new : List Entry) → PlacedOnly me e old new → records_update s log e ≡ false → RecordsNone s log me old new
none-only s log me e old new only none =
    let front : List Entry = only.earlier ++ old in
    none-then s log me old (e ∷ front) new
    (none-then s log me old front (e ∷ front) (none-idle s log me old front (record { during = only.earlier; grew = refl; others = only.quiet_before })) (none-entry s log me e front none))
    (none-idle s log me (e ∷ front) new (record { during = only.later; grew = only.grew; others = only.quiet_after }))

placed-none : (s log me : ℕ) (work : Work) (old past : List Entry) (e : Entry) → MayPlace me work old past e → records_update s log e ≡ false
placed-none s log me work old past (entry.Append pass handle lsn bytes) may = absurd may
placed-none s log me work old past other may = refl

each-none : (s log me : ℕ) (work : Work) (base during old : List Entry) → EachOwn me (MayPlace me work base) during old → list_any (records_update s log) (own me during) ≡ false
each-none s log me work base [] old each = refl
each-none s log me work base (e ∷ during) old each = by (is_mine me e) refl (each-none s log me work base during old each.1)
  where
    by : (b : Bool) → is_mine me e ≡ b → list_any (records_update s log) (own me during) ≡ false → list_any (records_update s log) (cond b (e ∷ own me during) (own me during)) ≡ false
    by true is rest = or_from (records_update s log e) _ (placed-none s log me work base (during ++ old) e (each.0 is)) rest
    by false is rest = rest

none-works : (s log me : ℕ) (work : Work) (during old : List Entry) → Works me work during old → RecordsNone s log me old (during ++ old)
none-works s log me work during old works = record { during = during; grew = refl; none = each-none s log me work old during old works.each }

none-placed : (s log me : ℕ) (it : Call) (ended : Outcome) (earlier old new : List Entry) → IsPlaced me it ended earlier old new → RecordsNone s log me old new
none-placed s log me it ended earlier old new p =
    let e : Entry = entry.Call me p.nth p.stream it ended in
    let front : List Entry = earlier ++ old in
    none-then s log me old (e ∷ front) new
    (none-then s log me old front (e ∷ front) (none-works s log me (Calls it) earlier old p.works) (none-entry s log me e front refl))
    (none-idle s log me (e ∷ front) new (record { during = p.later; grew = p.grew; others = p.quiet }))

none-unplaced : (s log me : ℕ) (it : Call) (e : CcError) (old new : List Entry) → IsUnplaced me it e old new → RecordsNone s log me old new
none-unplaced s log me it e old new p = record { during = p.during; grew = p.grew; none = each-none s log me (Calls it) old p.during old p.works.each }

pub none-call : (u : Setup) (s log me : ℕ) (it : Call) (answered : Outcome) (old new : List Entry) → CallLeft u me it answered old new → RecordsNone s log me old new
none-call u s log me it (outcome.Done r) old new left = none-placed s log me it (outcome.Done r) left.earlier old new left.placed
none-call u s log me it (outcome.Failed (error.JournalFull entries)) old new left = none-unplaced s log me it _ old new left
none-call u s log me it (outcome.Failed error.NoMemory) old new left = none-unplaced s log me it _ old new left
none-call u s log me it (outcome.Failed e) old new left =
    let p = placed-of u me it (outcome.Failed e) old new left refl in none-placed s log me it (outcome.Failed e) p.0 old new p.1

pub none-refused : (u : Setup) (s log me handle : ℕ) (e : CcError) (old new : List Entry) → AppendRefused u me handle e old new → RecordsNone s log me old new
none-refused u s log me handle (error.NoLog missing) old new left = none-idle s log me old new left.2
none-refused u s log me handle (error.LogFull full) old new left = none-idle s log me old new left.2
none-refused u s log me handle (error.LogFault failed) old new left = none-only s log me (entry.LogFailed me handle) old new left.2.1 refl
none-refused u s log me handle (error.JournalFull entries) old new left = none-idle s log me old new left
none-refused u s log me handle error.NoMemory old new left = none-idle s log me old new left
none-refused u s log me handle other old new left = absurd left

-- ---- what is set dirty stays so

pub stamped-later : (s log lsn : ℕ) (old later : List Entry) → WasStamped s log lsn old → WasStamped s log lsn (later ++ old)
stamped-later s log lsn old later w = record {
  it = w.it;
  its_lsn = w.its_lsn;
  later = later ++ w.later;
  front = w.front;
  stamp = w.stamp;
  splits = ap (λ (l : List Entry). later ++ l) w.splits ∙ sym (append_assoc later w.later (w.stamp ∷ w.front));
  written = w.written;
  is = w.is;
}

-- where an entry of a stretch stands
pub record IsInside (e : Entry) (during front old : List Entry) : Type 0 where
  pub later : List Entry
  pub rest : List Entry
  pub is : during ≡ later ++ e ∷ rest
  pub behind : front ≡ rest ++ old

pub record IsBefore (e : Entry) (front old : List Entry) : Type 0 where
  pub rest : List Entry
  pub is : old ≡ rest ++ e ∷ front

pub cut-at : (e : Entry) (during later front old : List Entry) → during ++ old ≡ later ++ e ∷ front → IsInside e during front old ⊎ IsBefore e front old
cut-at e [] later front old is = inr (record { rest = later; is = is })
cut-at e (x ∷ during) [] front old is = inl (record { later = []; rest = during; is = ap (λ (y : Entry). y ∷ during) (head_of is); behind = sym (tail_of is) })
  where
    head_of : x ∷ (during ++ old) ≡ e ∷ front → x ≡ e
    head_of same = cc

    tail_of : x ∷ (during ++ old) ≡ e ∷ front → during ++ old ≡ front
    tail_of same = cc
cut-at e (x ∷ during) (y ∷ later) front old is = go (cut-at e during later front old (tail_of is))
  where
    tail_of : x ∷ (during ++ old) ≡ y ∷ (later ++ e ∷ front) → during ++ old ≡ later ++ e ∷ front
    tail_of same = cc

    go : IsInside e during front old ⊎ IsBefore e front old → IsInside e (x ∷ during) front old ⊎ IsBefore e front old
    go (inl k) = inl (record { later = x ∷ k.later; rest = k.rest; is = ap (λ (l : List Entry). x ∷ l) k.is; behind = k.behind })
    go (inr k) = inr k

-- an entry that records an update is none of a stretch in which nobody records one
pub own-inside : (me : ℕ) (test : Entry → Bool) (xs : List Entry) (e : Entry) (ys : List Entry) → list_any test (own me (xs ++ e ∷ ys)) ≡ false → is_mine me e ≡ true → test e ≡ true → ⊥
own-inside me test xs e ys none mine is =
    let both : (list_any test (own me xs) || list_any test (own me (e ∷ ys))) ≡ false = sym (ap (list_any test) (own-append me xs (e ∷ ys)) ∙ list_any-append test (own me xs) (own me (e ∷ ys))) ∙ none in
    let here : list_any test (own me (e ∷ ys)) ≡ false = (or_parts (list_any test (own me xs)) _ both).1 in
    first here
  where
    first : list_any test (own me (e ∷ ys)) ≡ false → ⊥
    first there = by (is_mine me e) mine there
      where
        by : (b : Bool) → b ≡ true → list_any test (cond b (e ∷ own me ys) (own me ys)) ≡ false → ⊥
        by true own_it there = clash is (or_parts (test e) (list_any test (own me ys)) there).0
        by false own_it there = clash own_it refl

pub is-record : (s log pass lsn at : ℕ) (bytes spelled : List ℕ) → said_by spelled ≡ Some (Update s at bytes) → records_update s log (entry.Append pass log lsn spelled) ≡ true
is-record s log pass lsn at bytes spelled said =
    let test : Option LogRecord → Bool = λ o. is_update_of s o in
    rw (eq-eqb log log refl) (ap test said ∙ eq-eqb s s refl)

-- A stretch in which the pass records none, nor others do.
pub stamped-over : (s log me : ℕ) (base old new : List Entry) → RecordsNone s log me old new → OthersRecordNone s log me base new → (since : List Entry) → old ≡ since ++ base → AreStamped s log old → AreStamped s log new
stamped-over s log me base old new k others since grew stamped lsn has =
    let e : Entry = entry.Append has.pass log lsn has.spelled in
    let records = is-record s log has.pass lsn has.at has.bytes has.spelled has.said in
    go e records (cut-at e k.during has.later has.front old (sym k.grew ∙ has.splits))
  where
    before : IsBefore (entry.Append has.pass log lsn has.spelled) has.front old → WasStamped s log lsn new
    before b =
        subst (λ (l : List Entry). WasStamped s log lsn l) (sym k.grew)
        (stamped-later s log lsn old k.during
        (stamped lsn (record { pass = has.pass; at = has.at; bytes = has.bytes; spelled = has.spelled; later = b.rest; front = has.front; splits = b.is; said = has.said })))

    inside : (e : Entry) → records_update s log e ≡ true → IsInside e k.during has.front old → (b : Bool) → is_mine me e ≡ b → ⊥
    inside e records i true mine = own-inside me (records_update s log) i.later e i.rest (ap (λ (l : List Entry). list_any (records_update s log) (own me l)) (sym i.is) ∙ k.none) mine records
    inside e records i false other =
        let whole : new ≡ i.later ++ e ∷ ((i.rest ++ since) ++ base) =
        k.grew ∙ (ap (λ (l : List Entry). l ++ old) i.is ∙ (append_assoc i.later (e ∷ i.rest) old
        ∙ ap (λ (l : List Entry). i.later ++ e ∷ l) (ap (λ (l : List Entry). i.rest ++ l) grew ∙ sym (append_assoc i.rest since base)))) in
        clash records (others i.later (i.rest ++ since) e whole other)

    go : (e : Entry) → records_update s log e ≡ true → IsInside e k.during has.front old ⊎ IsBefore (entry.Append has.pass log lsn has.spelled) has.front old → WasStamped s log lsn new
    go e records (inl i) = absurd (inside e records i (is_mine me e) refl)
    go e records (inr b) = before b

-- Behind an entry that records one, which was set dirty since.
pub stamped-behind : (s log me : ℕ) (e : Entry) (base front new : List Entry) → RecordsNone s log me (e ∷ front) new → OthersRecordNone s log me base new → (since : List Entry) → front ≡ since ++ base → AreStamped s log front →
    ((lsn at pass : ℕ) (bytes spelled : List ℕ) → e ≡ entry.Append pass log lsn spelled → said_by spelled ≡ Some (Update s at bytes) → WasStamped s log lsn new) → AreStamped s log new
stamped-behind s log me e base front new k others since grew stamped its lsn has =
    let a : Entry = entry.Append has.pass log lsn has.spelled in
    let records = is-record s log has.pass lsn has.at has.bytes has.spelled has.said in
    go a records refl (cut-at a k.during has.later has.front (e ∷ front) (sym k.grew ∙ has.splits))
  where
    head_of : (x y : Entry) (xs ys : List Entry) → x ∷ xs ≡ y ∷ ys → x ≡ y
    head_of x y xs ys is = cc

    tail_of : (x y : Entry) (xs ys : List Entry) → x ∷ xs ≡ y ∷ ys → xs ≡ ys
    tail_of x y xs ys is = cc

    before : (rest : List Entry) → e ∷ front ≡ rest ++ entry.Append has.pass log lsn has.spelled ∷ has.front → WasStamped s log lsn new
    before [] is = its lsn has.at has.pass has.bytes has.spelled (head_of e (entry.Append has.pass log lsn has.spelled) front has.front is) has.said
    before (x ∷ rest) is =
        subst (λ (l : List Entry). WasStamped s log lsn l) (sym k.grew)
        (stamped-later s log lsn (e ∷ front) k.during
        (stamped-later s log lsn front (e ∷ [])
        (stamped lsn (record { pass = has.pass; at = has.at; bytes = has.bytes; spelled = has.spelled; later = rest; front = has.front; splits = tail_of e x front (rest ++ entry.Append has.pass log lsn has.spelled ∷ has.front) is; said = has.said }))))

    inside : (a : Entry) → records_update s log a ≡ true → IsInside a k.during has.front (e ∷ front) → (b : Bool) → is_mine me a ≡ b → ⊥
    inside a records i true mine = own-inside me (records_update s log) i.later a i.rest (ap (λ (l : List Entry). list_any (records_update s log) (own me l)) (sym i.is) ∙ k.none) mine records
    inside a records i false other =
        let whole : new ≡ i.later ++ a ∷ ((i.rest ++ e ∷ since) ++ base) =
        k.grew ∙ (ap (λ (l : List Entry). l ++ e ∷ front) i.is ∙ (append_assoc i.later (a ∷ i.rest) (e ∷ front)
        ∙ ap (λ (l : List Entry). i.later ++ a ∷ l) (ap (λ (l : List Entry). i.rest ++ e ∷ l) grew ∙ sym (append_assoc i.rest (e ∷ since) base)))) in
        clash records (others i.later (i.rest ++ e ∷ since) a whole other)

    go : (a : Entry) → records_update s log a ≡ true → a ≡ entry.Append has.pass log lsn has.spelled → IsInside a k.during has.front (e ∷ front) ⊎ IsBefore a has.front (e ∷ front) → WasStamped s log lsn new
    go a records same (inl i) = absurd (inside a records i (is_mine me a) refl)
    go a records same (inr b) = before b.rest (b.is ∙ ap (λ (x : Entry). b.rest ++ x ∷ has.front) same)
