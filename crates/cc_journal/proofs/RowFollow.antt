-- How the rows of the table follow a past, by the kind of entry.
use Rattle.std.specs.Prelude.{◌≡◌, ℕ, suc, ◌<◌, ◌==◌, nat_le, Bool, true, false, List, ◌∷◌, length, Option, None, Some, if◌then◌else◌, refl}
use Rattle.std.specs.List.{cons_option}
use Rattle.std.specs.Option.{option_map, option_and_then}
use Rattle.std.proofs.Common.{ap, sym, subst, ◌∙◌, arith}
use Rattle.std.proofs.lemmas.Bool.{eqb-true, eq-eqb, le-leb}
use Rattle.std.proofs.lemmas.Bool.Decides.{nat_tests}
use Rattle.cc_entry.specs.Place.{Page}
use Rattle.cc_entry.specs.declared.call.Call.{Call}
use Rattle.cc_entry.specs.declared.entry.End.{End}
use Rattle.cc_entry.specs.declared.entry.Entry.{Entry}
use Rattle.cc_entry.specs.declared.entry.Entry.TheVariants as entry
use Rattle.cc_entry.specs.declared.reply.Outcome.TheVariants as outcome
use Rattle.cc_entry.specs.declared.reply.Reply.{Reply}
use Rattle.cc_dirty.specs.declared.row.Row.{Row}
use Rattle.cc_dirty.specs.Order.{same_page}
use Rattle.cc_dirty.specs.Unwritten.{begun_row, ended_row, kept_row}
use Rattle.cc_dirty.specs.Table.{row_of, KeepsOtherRows}
use Rattle.cc_events.specs.declared.event.StreamEvent.{StreamEvent}
use Rattle.cc_events.specs.declared.event.StreamEvent.TheVariants as event
use Rattle.cc_events.specs.Events.{event_of, event_of_act, event_on}
use Rattle.cc_events.specs.Touchings.{touching_of}
use Rattle.cc_model.specs.Acts.{Act, act_of, Opens, Closes, Resizes, Writes, Zeroes, Stores, Stamps, Discards, Looks}
use Rattle.cc_model.specs.History.{Effect, Did, Began, Ended, effect_of, history}
use Rattle.cc_model.specs.Images.{open_of}
use Rattle.cc_model.specs.Sizes.{ended_ok}
use Rattle.cc_laws.proofs.HistorySteps.{history-effect, history-no_effect}
use Rattle.cc_journal.specs.Rows.{journal_place, is_under_way, IsRowOf, Follows, row_after, row_by, KeepsTransfers, ChangesRows}
use Rattle.cc_journal.proofs.RowSteps.{row-step, IsRowOf-alike}

-- the effects that a stream has had keep their places, and the next one has the place of the entry that comes
place-kept : (e : Entry) (past : List Entry) (s k : ℕ) → k < suc (length (history past s)) → journal_place (e ∷ past) s k ≡ journal_place past s k
place-kept e past s k low = rw (le-leb k (length (history past s)) (omega (arith, low))) refl

place-next : (e : Entry) (past : List Entry) (s : ℕ) → journal_place (e ∷ past) s (suc (length (history past s))) ≡ suc (length past)
place-next e past s = rw (above (length (history past s))) refl
  where
    above : (n : ℕ) → nat_le (suc n) n ≡ false
    above n = grind (arith, nat_tests)

abbrev StandsFor : List Entry → Page → List Row → Type 0
StandsFor past q rows = IsRowOf (journal_place past q.stream) (history past q.stream) q.page (row_of rows q)

-- the row that a page has, by the places with the entry that comes
stands-on : (e : Entry) (past : List Entry) (q : Page) (row : Option Row) → IsRowOf (journal_place past q.stream) (history past q.stream) q.page row → IsRowOf (journal_place (e ∷ past) q.stream) (history past q.stream) q.page row
stands-on e past q row is = IsRowOf-alike (journal_place past q.stream) (journal_place (e ∷ past) q.stream) (history past q.stream) q.page row (place-kept e past q.stream) is

-- one page, by the effect on its stream
at_effect : (o : Option Effect) (e : Entry) (past : List Entry) (q : Page) (old new : List Row) → effect_of e q.stream ≡ o → KeepsTransfers (event_of o) (history past q.stream) → row_of new q ≡ row_by (suc (length past)) (event_of o) (history past q.stream) q (row_of old q) → Follows past old → StandsFor (e ∷ past) q new
at_effect o e past q old new is keeps becomes follows =
    rw (history-effect e past q.stream o is, becomes)
    (subst (λ (n : ℕ). IsRowOf (journal_place (e ∷ past) q.stream) (cons_option o (history past q.stream)) q.page (row_by n (event_of o) (history past q.stream) q (row_of old q))) (place-next e past q.stream)
    (row-step (journal_place (e ∷ past) q.stream) o (history past q.stream) q (row_of old q) keeps (stands-on e past q (row_of old q) (follows q))))

-- one page of which the entry says nothing
at_none : (e : Entry) (past : List Entry) (q : Page) (old new : List Row) → effect_of e q.stream ≡ None → row_of new q ≡ row_of old q → Follows past old → StandsFor (e ∷ past) q new
at_none e past q old new none same follows = rw (history-no_effect e past q.stream none, same) (stands-on e past q (row_of old q) (follows q))

-- what a done call does is no end of a transfer
by_touching : (place : ℕ) (a : Act) (h : List Effect) (q : Page) (row : Option Row) → row_by place (event_of_act a) h q row ≡ row_after place (touching_of (event_of_act a) h q.page) q row
by_touching place (Opens file sizes quota temporary) h q row = refl
by_touching place (Closes file truncate) h q row = refl
by_touching place (Resizes allocation size) h q row = refl
by_touching place (Writes at bytes) h q row = refl
by_touching place (Zeroes from to) h q row = refl
by_touching place (Stores page bytes) h q row = refl
by_touching place (Stamps hold lsn) h q row = refl
by_touching place (Discards span) h q row = refl
by_touching place Looks h q row = refl

by_call : (a : Act) (h : List Effect) → KeepsTransfers (event_of_act a) h
by_call (Opens file sizes quota temporary) h = tt
by_call (Closes file truncate) h = tt
by_call (Resizes allocation size) h = tt
by_call (Writes at bytes) h = tt
by_call (Zeroes from to) h = tt
by_call (Stores page bytes) h = tt
by_call (Stamps hold lsn) h = tt
by_call (Discards span) h = tt
by_call Looks h = tt

-- a done call
pub follows_call : (pass nth stream : ℕ) (call : Call) (reply : Reply) (past : List Entry) (old new : List Row) → ChangesRows (suc (length past)) stream (λ p. touching_of (event_of_act (act_of call)) (history past stream) p) old new → Follows past old → Follows (entry.Call pass nth (Some stream) call (outcome.Done reply) ∷ past) new
follows_call pass nth stream call reply past old new changes follows q = go (q.stream == stream) refl
  where
    e : Entry
    e = entry.Call pass nth (Some stream) call (outcome.Done reply)

    go : (b : Bool) → (q.stream == stream) ≡ b → StandsFor (entry.Call pass nth (Some stream) call (outcome.Done reply) ∷ past) q new
    go true here =
        let s : q.stream ≡ stream = eqb-true q.stream stream here in
        let is : effect_of (entry.Call pass nth (Some stream) call (outcome.Done reply)) q.stream ≡ Some (Did pass call reply) = rw (eq-eqb stream q.stream (sym s)) refl in
        at_effect (Some (Did pass call reply)) _ past q old new is (by_call (act_of call) (history past q.stream))
        (changes q
        ∙ (ap (λ b. if b then row_after (suc (length past)) (touching_of (event_of_act (act_of call)) (history past stream) q.page) q (row_of old q) else row_of old q) here
        ∙ (ap (λ t. row_after (suc (length past)) (touching_of (event_of_act (act_of call)) (history past t) q.page) q (row_of old q)) (sym s)
        ∙ sym (by_touching (suc (length past)) (act_of call) (history past q.stream) q (row_of old q)))))
        follows
    go false away =
        let other : (stream == q.stream) ≡ false = grind (arith, nat_tests) in
        let none : effect_of (entry.Call pass nth (Some stream) call (outcome.Done reply)) q.stream ≡ None = rw other refl in
        at_none _ past q old new none
        (changes q ∙ ap (λ b. if b then row_after (suc (length past)) (touching_of (event_of_act (act_of call)) (history past stream) q.page) q (row_of old q) else row_of old q) away)
        follows

-- the begin of a page's transfer
pub follows_began : (pass : ℕ) (page : Page) (past : List Entry) (old new : List Row) → open_of (history past page.stream) ≡ None → row_of new page ≡ option_map begun_row (row_of old page) → KeepsOtherRows old new page → Follows past old → Follows (entry.WriteBegin pass page ∷ past) new
follows_began pass page past old new free begun others follows q = go (page.stream == q.stream) (page.page == q.page) refl refl
  where
    other_page : (b : Bool) → (page.page == q.page) ≡ b → b ≡ false → row_of old q ≡ row_by (suc (length past)) (event.Began page.page) (history past q.stream) q (row_of old q)
    other_page b is away = rw (is ∙ away) refl

    go : (a b : Bool) → (page.stream == q.stream) ≡ a → (page.page == q.page) ≡ b → StandsFor (entry.WriteBegin pass page ∷ past) q new
    go true true here at =
        let s : page.stream ≡ q.stream = eqb-true page.stream q.stream here in
        let p : page.page ≡ q.page = eqb-true page.page q.page at in
        let is : page ≡ q = ap (λ (n : ℕ). record { stream = n; page = page.page }) s ∙ ap (λ (n : ℕ). record { stream = q.stream; page = n }) p in
        at_effect (Some (Began pass page.page)) _ past q old new (rw here refl) (ap (λ t. open_of (history past t)) (sym s) ∙ free)
        (ap (row_of new) (sym is) ∙ (begun ∙ (ap (λ x. option_map begun_row (row_of old x)) is ∙ rw at refl)))
        follows
    go true false here away =
        let s : page.stream ≡ q.stream = eqb-true page.stream q.stream here in
        let other : same_page q page ≡ false = grind (arith, nat_tests) in
        at_effect (Some (Began pass page.page)) _ past q old new (rw here refl) (ap (λ t. open_of (history past t)) (sym s) ∙ free) (others q other ∙ other_page false away refl) follows
    go false b away at =
        let other : same_page q page ≡ false = grind (arith, nat_tests) in
        at_none _ past q old new (rw away refl) (others q other) follows

-- the end of a page's transfer
pub follows_ended : (pass : ℕ) (page : Page) (how : End) (past : List Entry) (old new : List Row) → is_under_way (open_of (history past page.stream)) page.page ≡ true → row_of new page ≡ option_and_then (λ r. kept_row (ended_row (ended_ok how) r)) (row_of old page) → KeepsOtherRows old new page → Follows past old → Follows (entry.WriteEnd pass page how ∷ past) new
follows_ended pass page how past old new under_way ended others follows q = go (page.stream == q.stream) (page.page == q.page) refl refl
  where
    go : (a b : Bool) → (page.stream == q.stream) ≡ a → (page.page == q.page) ≡ b → StandsFor (entry.WriteEnd pass page how ∷ past) q new
    go true true here at =
        let s : page.stream ≡ q.stream = eqb-true page.stream q.stream here in
        let p : page.page ≡ q.page = eqb-true page.page q.page at in
        let is : page ≡ q = ap (λ (n : ℕ). record { stream = n; page = page.page }) s ∙ ap (λ (n : ℕ). record { stream = q.stream; page = n }) p in
        at_effect (Some (Ended pass page.page how)) _ past q old new (rw here refl) (ap (λ t. is_under_way (open_of (history past t)) page.page) (sym s) ∙ under_way)
        (ap (row_of new) (sym is) ∙ (ended ∙ (ap (λ x. option_and_then (λ r. kept_row (ended_row (ended_ok how) r)) (row_of old x)) is ∙ rw at refl)))
        follows
    go true false here away =
        let s : page.stream ≡ q.stream = eqb-true page.stream q.stream here in
        let other : same_page q page ≡ false = grind (arith, nat_tests) in
        at_effect (Some (Ended pass page.page how)) _ past q old new (rw here refl) (ap (λ t. is_under_way (open_of (history past t)) page.page) (sym s) ∙ under_way) (others q other ∙ rw away refl) follows
    go false b away at =
        let other : same_page q page ≡ false = grind (arith, nat_tests) in
        at_none _ past q old new (rw away refl) (others q other) follows

-- the events that leave every row
abbrev pub keeps_rows : StreamEvent → Bool
keeps_rows event.Rests = true
keeps_rows (event.CameIn page) = true
keeps_rows (event.WentOut page) = true
keeps_rows other = false

row_kept : (place : ℕ) (what : StreamEvent) (h : List Effect) (q : Page) (row : Option Row) → keeps_rows what ≡ true → row ≡ row_by place what h q row
row_kept place event.Rests h q row kept = refl
row_kept place (event.CameIn page) h q row kept = refl
row_kept place (event.WentOut page) h q row kept = refl
row_kept place other h q row kept = absurd (cc)

transfers_kept : (what : StreamEvent) (h : List Effect) → keeps_rows what ≡ true → KeepsTransfers what h
transfers_kept event.Rests h kept = tt
transfers_kept (event.CameIn page) h kept = tt
transfers_kept (event.WentOut page) h kept = tt
transfers_kept other h kept = absurd (cc)

-- any other entry
pub follows_other : (e : Entry) (past : List Entry) (rows : List Row) → ((s : ℕ) → keeps_rows (event_on e s) ≡ true) → Follows past rows → Follows (e ∷ past) rows
follows_other e past rows kept follows q =
    at_effect (effect_of e q.stream) e past q rows rows refl (transfers_kept _ (history past q.stream) (kept q.stream)) (row_kept (suc (length past)) _ (history past q.stream) q (row_of rows q) (kept q.stream)) follows
