-- What is kept of the good syncs of each pass goes on standing with an entry.
use Rattle.std.specs.Prelude.{◌≡◌, ℕ, Bool, true, false, not, ◌&&◌, ◌==◌, cond, List, [], ◌∷◌, ◌++◌, length, refl}
use Rattle.std.specs.declared.option.Option.{Option}
use Rattle.std.specs.declared.option.Option.TheVariants.{Some, None}
use Rattle.std.specs.List.{filter, find, list_any}
use Rattle.std.specs.Option.{option_map, option_or}
use Rattle.std.proofs.Common.{ap, sym, subst, ◌∙◌}
use Rattle.std.proofs.lemmas.Bool.{and_from, and_parts, eqb-true, eq-eqb}
use Rattle.std.proofs.lemmas.List.Folds.{find-append}
use Rattle.cc_entry.specs.Place.{Page, Range}
use Rattle.cc_entry.specs.declared.call.Call.{Call}
use Rattle.cc_entry.specs.declared.entry.End.{End}
use Rattle.cc_entry.specs.declared.entry.End.TheVariants as how
use Rattle.cc_entry.specs.declared.entry.Entry.{Entry}
use Rattle.cc_entry.specs.declared.entry.Entry.TheVariants as entry
use Rattle.cc_entry.specs.declared.reply.Outcome.{Outcome}
use Rattle.cc_model.specs.Flushed.{is_flushed, is_ok_sync_of, synced_after}
use Rattle.cc_model.specs.History.{history}
use Rattle.cc_model.specs.Passes.{is_call_of, up_to_call}
use Rattle.cc_world.proofs.Synced.{flushed-call, flushed-other, flushed-sync}
use Rattle.cc_world.specs.Syncs.{AreUnsettled, IsSynced, SyncsStand, ends_row, good_sync, is_sync_row, unsettled_at}
use Rattle.cc_world.specs.declared.syncs.Synced.{Synced}

-- what is found behind a filter that drops all that is sought, and behind one that keeps it
find-dropped : {X : Type 0} (test keep : X → Bool) (xs : List X) → ((x : X) → test x ≡ true → keep x ≡ false) → find test (filter keep xs) ≡ None
find-dropped test keep [] drops = refl
find-dropped {X} test keep (x ∷ xs) drops = go (keep x) refl (test x) refl (find-dropped test keep xs drops)
  where
    go : (k : Bool) → keep x ≡ k → (t : Bool) → test x ≡ t → find test (filter keep xs) ≡ None → find test (filter keep (x ∷ xs)) ≡ None
    go false drop t is rest = rw drop rest
    go true keeps true is rest = absurd (cc (drops x is))
    go true keeps false is rest = rw (keeps, is) rest

find-kept : {X : Type 0} (test keep : X → Bool) (xs : List X) → ((x : X) → test x ≡ true → keep x ≡ true) → find test (filter keep xs) ≡ find test xs
find-kept test keep [] keeps = refl
find-kept {X} test keep (x ∷ xs) keeps = go (keep x) refl (test x) refl (find-kept test keep xs keeps)
  where
    go : (k : Bool) → keep x ≡ k → (t : Bool) → test x ≡ t → find test (filter keep xs) ≡ find test xs → find test (filter keep (x ∷ xs)) ≡ find test (x ∷ xs)
    go true kept true is rest = rw (kept, is) refl
    go true kept false is rest = rw (kept, is) rest
    go false drop true is rest = absurd (cc (keeps x is))
    go false drop false is rest = rw (drop, is) rest

find-last : {X : Type 0} (test : X → Bool) (xs : List X) (x : X) → find test xs ≡ None → test x ≡ true → find test (xs ++ x ∷ []) ≡ Some x
find-last {X} test xs x none is = find-append test xs (x ∷ []) ∙ (ap (λ (o : Option X). option_or o (find test (x ∷ []))) none ∙ rw is refl)

find-before : {X : Type 0} (test : X → Bool) (xs : List X) (x : X) → test x ≡ false → find test (xs ++ x ∷ []) ≡ find test xs
find-before {X} test xs x is = find-append test xs (x ∷ []) ∙ go (find test xs)
  where
    go : (o : Option X) → option_or o (find test (x ∷ [])) ≡ o
    go None = rw is refl
    go (Some y) = refl

and-off : (a : Bool) → (a && false) ≡ false
and-off true = refl
and-off false = refl

differ : true ≡ false → ⊥
differ is = absurd (cc)

true-not : (a : Bool) → a ≡ true → a ≡ false → ⊥
true-not a is off = differ (sym is ∙ off)

-- two numbers that are the same as a third are the same
same-so : (a b c : ℕ) → (a == b) ≡ true → (c == b) ≡ true → (a == c) ≡ true
same-so a b c one other = eq-eqb a c (eqb-true a b one ∙ sym (eqb-true c b other))

apart-so : (a b c : ℕ) → (a == b) ≡ true → (c == b) ≡ false → (a == c) ≡ false
apart-so a b c one other = go (a == c) refl
  where
    go : (t : Bool) → (a == c) ≡ t → (a == c) ≡ false
    go false is = is
    go true is = absurd (true-not (c == b) (eq-eqb c b (sym (eqb-true a c is) ∙ eqb-true a b one)) other)

-- where an entry is a call of the pass, or a good sync of the stream by it, it ends the row; any other entry does not
row-called : (me s : ℕ) (e : Entry) (row : Synced) → is_call_of me e ≡ true → is_sync_row me s row ≡ true → not (ends_row e row) ≡ false
row-called me s (entry.Call pass nth stream it ended) row calls its =
    ap not (same-so row.pass me pass (and_parts (row.pass == me) (row.stream == s) its).0 calls)
row-called me s other row calls its = absurd (cc)

row-kept : (me s : ℕ) (e : Entry) (row : Synced) → is_call_of me e ≡ false → is_ok_sync_of me s e ≡ false → is_sync_row me s row ≡ true → not (ends_row e row) ≡ true
row-kept me s (entry.Call pass nth stream it ended) row goes_on no_sync its =
    ap not (apart-so row.pass me pass (and_parts (row.pass == me) (row.stream == s) its).0 goes_on)
row-kept me s (entry.Sync pass stream how.Good) row goes_on no_sync its = go (row.pass == pass) refl (row.stream == stream) refl
  where
    parts : ((row.pass == me) ≡ true) × ((row.stream == s) ≡ true)
    parts = and_parts (row.pass == me) (row.stream == s) its

    go : (a : Bool) → (row.pass == pass) ≡ a → (b : Bool) → (row.stream == stream) ≡ b → not (true && (row.pass == pass && row.stream == stream)) ≡ true
    go true one true other =
        absurd (true-not (is_ok_sync_of me s (entry.Sync pass stream how.Good))
        (and_from _ _ (eq-eqb pass me (sym (eqb-true row.pass pass one) ∙ eqb-true row.pass me parts.0))
        (and_from _ _ (eq-eqb stream s (sym (eqb-true row.stream stream other) ∙ eqb-true row.stream s parts.1)) refl)) no_sync)
    go true one false other = rw (one, other) refl
    go false one b other = rw one refl
row-kept me s (entry.Sync pass stream how.Failed) row goes_on no_sync its = refl
row-kept me s (entry.Sync pass stream how.NoMemory) row goes_on no_sync its = refl
row-kept me s other row goes_on no_sync its = refl

-- what is kept where nothing of the pass and the stream changes
synced-same : (past : List Entry) (e : Entry) (me s : ℕ) → is_call_of me e ≡ false → is_ok_sync_of me s e ≡ false → (o : Option (List ℕ)) → IsSynced past me s o → IsSynced (e ∷ past) me s o
synced-same past e me s goes_on no_sync o is = λ span. flushed-other e past me s span goes_on no_sync ∙ is span

-- an entry that is no good sync
pub syncs-else : (past : List Entry) (e : Entry) (old new : List Synced) → ((me s : ℕ) → is_ok_sync_of me s e ≡ false) → new ≡ filter (λ row. not (ends_row e row)) old → SyncsStand past old → SyncsStand (e ∷ past) new
syncs-else past e old new no_sync is stood me s = go (is_call_of me e) refl
  where
    there : find (is_sync_row me s) new ≡ find (is_sync_row me s) (filter (λ row. not (ends_row e row)) old)
    there = ap (λ (rows : List Synced). find (is_sync_row me s) rows) is

    go : (b : Bool) → is_call_of me e ≡ b → IsSynced (e ∷ past) me s (unsettled_at new me s)
    go true calls =
        subst (λ (o : Option Synced). IsSynced (e ∷ past) me s (option_map (λ row. row.unsettled.items) o))
        (sym (there ∙ find-dropped (is_sync_row me s) (λ row. not (ends_row e row)) old (λ row its. row-called me s e row calls its)))
        (λ span. flushed-call e past me s span calls)
    go false goes_on =
        subst (λ (o : Option Synced). IsSynced (e ∷ past) me s (option_map (λ row. row.unsettled.items) o))
        (sym (there ∙ find-kept (is_sync_row me s) (λ row. not (ends_row e row)) old (λ row its. row-kept me s e row goes_on (no_sync me s) its)))
        (synced-same past e me s goes_on (no_sync me s) (unsettled_at old me s) (stood me s))

-- what is no good sync is none of any pass
no-sync : (e : Entry) → good_sync e ≡ None → (me s : ℕ) → is_ok_sync_of me s e ≡ false
no-sync (entry.Sync pass stream how.Good) none me s = absurd (cc)
no-sync (entry.Sync pass stream how.Failed) none me s = ap (λ (b : Bool). pass == me && b) (and-off (stream == s)) ∙ and-off (pass == me)
no-sync (entry.Sync pass stream how.NoMemory) none me s = ap (λ (b : Bool). pass == me && b) (and-off (stream == s)) ∙ and-off (pass == me)
no-sync e none me s = refl

pub syncs-no_sync : (past : List Entry) (e : Entry) (old new : List Synced) → good_sync e ≡ None → new ≡ filter (λ row. not (ends_row e row)) old → SyncsStand past old → SyncsStand (e ∷ past) new
syncs-no_sync past e old new none is stood = syncs-else past e old new (no-sync e none) is stood

-- what a good sync is
pub sync-is : (e : Entry) (pass stream : ℕ) → good_sync e ≡ Some (pass, stream) → e ≡ entry.Sync pass stream how.Good
sync-is (entry.Sync p s how.Good) pass stream is =
    let same = both (p, s) (pass, stream) is in
    ap (λ (n : ℕ). entry.Sync n s how.Good) (ap (λ (q : ℕ × ℕ). q.0) same) ∙ ap (λ (n : ℕ). entry.Sync pass n how.Good) (ap (λ (q : ℕ × ℕ). q.1) same)
  where
    both : (a b : ℕ × ℕ) → Some a ≡ Some b → a ≡ b
    both a b same = cc
sync-is (entry.Sync p s how.Failed) pass stream is = absurd (cc)
sync-is (entry.Sync p s how.NoMemory) pass stream is = absurd (cc)
sync-is e pass stream is = absurd (cc)

-- it is a good sync of its pass and its stream
pub sync-ok : (e : Entry) (pass stream : ℕ) → good_sync e ≡ Some (pass, stream) → is_ok_sync_of pass stream e ≡ true
sync-ok e pass stream is =
    ap (λ (x : Entry). is_ok_sync_of pass stream x) (sync-is e pass stream is)
    ∙ and-from (pass == pass) (stream == stream) (eq-eqb pass pass refl) (eq-eqb stream stream refl)
  where
    and-from : (a b : Bool) → a ≡ true → b ≡ true → (a && (b && true)) ≡ true
    and-from true true p q = refl
    and-from true false p q = absurd (cc)
    and-from false b p q = absurd (cc)

-- a good sync
pub syncs-sync : (past : List Entry) (pass stream : ℕ) (old new : List Synced) (row : Synced) → row.pass ≡ pass → row.stream ≡ stream → ((me s : ℕ) → is_ok_sync_of me s (entry.Sync pass stream how.Good) ≡ true → AreUnsettled past me s row.unsettled.items) → new ≡ filter (λ r. not (ends_row (entry.Sync pass stream how.Good) r)) old ++ row ∷ [] → SyncsStand past old → SyncsStand (entry.Sync pass stream how.Good ∷ past) new
syncs-sync past pass stream old new row of_pass of_stream settled is stood me s = go (is_ok_sync_of me s e) refl
  where
    e : Entry
    e = entry.Sync pass stream how.Good

    kept : List Synced
    kept = filter (λ r. not (ends_row e r)) old

    there : find (is_sync_row me s) new ≡ find (is_sync_row me s) (filter (λ r. not (ends_row (entry.Sync pass stream how.Good) r)) old ++ row ∷ [])
    there = ap (λ (rows : List Synced). find (is_sync_row me s) rows) is

    same-row : is_sync_row me s row ≡ (pass == me && stream == s)
    same-row = ap (λ (n : ℕ). n == me && row.stream == s) of_pass ∙ ap (λ (n : ℕ). pass == me && n == s) of_stream

    good : (a b t : Bool) → (a && (b && true)) ≡ t → (a && b) ≡ t
    good true true t is = is
    good true false t is = is
    good false b t is = is

    go : (t : Bool) → is_ok_sync_of me s (entry.Sync pass stream how.Good) ≡ t → IsSynced (entry.Sync pass stream how.Good ∷ past) me s (unsettled_at new me s)
    go true syncs =
        subst (λ (o : Option Synced). IsSynced (entry.Sync pass stream how.Good ∷ past) me s (option_map (λ r. r.unsettled.items) o))
        (sym (there ∙ find-last (is_sync_row me s) (filter (λ r. not (ends_row (entry.Sync pass stream how.Good) r)) old) row
        (find-dropped (is_sync_row me s) (λ r. not (ends_row (entry.Sync pass stream how.Good) r)) old (λ r its. dropped r its))
        (same-row ∙ good (pass == me) (stream == s) true syncs)))
        (λ span. flushed-sync (entry.Sync pass stream how.Good) past me s span refl syncs ∙ settled me s syncs span)
      where
        both : ((pass == me) ≡ true) × ((stream == s) ≡ true)
        both = and_parts (pass == me) (stream == s) (good (pass == me) (stream == s) true syncs)

        dropped : (r : Synced) → is_sync_row me s r ≡ true → not (true && (r.pass == pass && r.stream == stream)) ≡ false
        dropped r its =
            let parts = and_parts (r.pass == me) (r.stream == s) its in
            ap (λ (b : Bool). not (true && b)) (and_from _ _ (same-so r.pass me pass parts.0 both.0) (same-so r.stream s stream parts.1 both.1))
    go false other =
        subst (λ (o : Option Synced). IsSynced (entry.Sync pass stream how.Good ∷ past) me s (option_map (λ r. r.unsettled.items) o))
        (sym (there ∙ (find-before (is_sync_row me s) (filter (λ r. not (ends_row (entry.Sync pass stream how.Good) r)) old) row (same-row ∙ good (pass == me) (stream == s) false other)
        ∙ find-kept (is_sync_row me s) (λ r. not (ends_row (entry.Sync pass stream how.Good) r)) old (λ r its. row-kept me s (entry.Sync pass stream how.Good) r refl other its))))
        (synced-same past (entry.Sync pass stream how.Good) me s refl other (unsettled_at old me s) (stood me s))

-- the same of an entry that is one
pub syncs-good : (past : List Entry) (e : Entry) (pass stream : ℕ) (old kept new : List Synced) (row : Synced) → good_sync e ≡ Some (pass, stream) → kept ≡ filter (λ r. not (ends_row e r)) old → new ≡ kept ++ row ∷ [] → row.pass ≡ pass → row.stream ≡ stream → ((me s : ℕ) → is_ok_sync_of me s e ≡ true → AreUnsettled past me s row.unsettled.items) → SyncsStand past old → SyncsStand (e ∷ past) new
syncs-good past e pass stream old kept new row good filtered is of_pass of_stream settled stood =
    let its = sync-is e pass stream good in
    subst (λ (x : Entry). SyncsStand (x ∷ past) new) (sym its)
    (syncs-sync past pass stream old new row of_pass of_stream
    (λ me s syncs. settled me s (ap (λ (x : Entry). is_ok_sync_of me s x) its ∙ syncs))
    (is ∙ (ap (λ (rows : List Synced). rows ++ row ∷ []) filtered ∙ ap (λ (x : Entry). filter (λ r. not (ends_row x r)) old ++ row ∷ []) its)) stood)

-- a call of a pass drops the rows of the pass
pub syncs-call : (past : List Entry) (pass nth : ℕ) (stream : Option ℕ) (it : Call) (ended : Outcome) (old new : List Synced) → new ≡ filter (λ row. not (row.pass == pass)) old → SyncsStand past old → SyncsStand (entry.Call pass nth stream it ended ∷ past) new
syncs-call past pass nth stream it ended old new is stood = syncs-else past (entry.Call pass nth stream it ended) old new (λ me s. refl) is stood

-- the begin of a transfer changes none
pub syncs-begin : (past : List Entry) (pass : ℕ) (page : Page) (rows : List Synced) → SyncsStand past rows → SyncsStand (entry.WriteBegin pass page ∷ past) rows
syncs-begin past pass page rows stood me s = synced-same past (entry.WriteBegin pass page) me s refl refl (unsettled_at rows me s) (stood me s)

-- nobody has synced yet
pub syncs-fresh : (rows : List Synced) → rows ≡ [] → SyncsStand [] rows
unfolding is_flushed synced_after
syncs-fresh rows is me s = subst (λ (rs : List Synced). IsSynced [] me s (unsettled_at rs me s)) (sym is) (λ span. refl)
