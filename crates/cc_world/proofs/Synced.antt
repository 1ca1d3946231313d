-- Fewer pages are unsettled later, so a flush by a pass may be done exactly where no page of its span was unsettled at the last
-- good sync of the stream by the pass after its last call.
use Rattle.std.specs.Prelude.{◌≡◌, ℕ, suc, ◌<◌, ◌≤◌, Bool, true, false, not, ◌||◌, ◌&&◌, ◌==◌, cond, nat_lt, List, [], ◌∷◌, ◌++◌, length, map, refl}
use Rattle.std.specs.declared.option.Option.{Option}
use Rattle.std.specs.declared.option.Option.TheVariants.{Some, None}
use Rattle.std.specs.List.{cons_option, filter, find, list_all, list_any}
use Rattle.std.proofs.Common.{ap, sym, subst, ◌∙◌, arith}
use Rattle.std.proofs.lemmas.Bool.{and_from, and_parts, eqb-true, lt-ltb}
use Rattle.cc_dirty.specs.Order.{same_page}
use Rattle.cc_dirty.specs.Table.{row_of}
use Rattle.cc_dirty.specs.declared.row.Row.{Row}
use Rattle.cc_dirty.specs.declared.row.Unwritten.{Unwritten}
use Rattle.cc_entry.specs.Place.{Page, Range}
use Rattle.cc_entry.specs.declared.entry.Entry.{Entry}
use Rattle.cc_events.proofs.TouchEvents.{touches-event}
use Rattle.cc_events.specs.Events.{event_of}
use Rattle.cc_events.specs.Touchings.{touches_after, touching_of}
use Rattle.cc_events.specs.declared.touching.Touching.{Touching}
use Rattle.cc_events.specs.declared.touching.Touching.TheVariants as touching
use Rattle.cc_journal.proofs.Since.{touches-since}
use Rattle.cc_journal.specs.Rows.{Follows, IsRowOf, journal_place, oldest_among}
use Rattle.cc_journal.specs.Since.{is_past, is_settled_page}
use Rattle.cc_laws.proofs.DirtyAmong.{dirty-among}
use Rattle.cc_laws.proofs.FlushSteps.{is_flushed-synced_after, synced_after-call, synced_after-other}
use Rattle.cc_laws.proofs.HistorySteps.{history-effect}
use Rattle.cc_laws.proofs.Lists1.{among-all, any-found}
use Rattle.cc_laws.proofs.PassSteps.{up_to_call-other}
use Rattle.cc_model.specs.Flushed.{is_flushed, is_ok_sync_of, settled_since, synced_after}
use Rattle.cc_model.specs.History.{Effect, effect_of, history}
use Rattle.cc_model.specs.Numbers.{is_empty}
use Rattle.cc_model.specs.Passes.{is_call_of, up_to_call}
use Rattle.cc_model.specs.Ranges.{span_has}
use Rattle.cc_model.specs.Sizes.{Touch}
use Rattle.cc_model.specs.Touches.{dirty_pages, is_dirty, touches, unwritten}
use Rattle.cc_world.specs.Syncs.{AreUnsettled, is_unsettled, unsettled_in}

-- what holds of the touches that are unwritten holds of those that are so where the page's transfer ended well after them
fewer : (test : Touch → Bool) (h : List Effect) (p : ℕ) → list_all test (touches false h p) ≡ true → list_all test (touches true h p) ≡ true
unfolding touches
fewer test [] p all = refl
fewer test (x ∷ h) p all =
    ap (λ (ts : List Touch). list_all test ts) (touches-event (Some x) true h p)
    ∙ go (touching_of (event_of (Some x)) h p) (sym (ap (λ (ts : List Touch). list_all test ts) (touches-event (Some x) false h p)) ∙ all) (fewer test h p)
  where
    go : (t : Touching) → list_all test (touches_after t false h p) ≡ true → (list_all test (touches false h p) ≡ true → list_all test (touches true h p) ≡ true) → list_all test (touches_after t true h p) ≡ true
    go touching.Rests each rest = rest each
    go (touching.Touches lsn) each rest = let parts = and_parts _ _ each in and_from _ _ parts.0 (rest parts.1)
    go touching.Cuts each rest = refl
    go touching.Begins each rest = refl
    go touching.Ends each rest = each

-- a page that is settled stays so
settled-more : (seen : ℕ) (x : Effect) (h : List Effect) (p : ℕ) → seen ≤ length h → is_settled_page seen h p ≡ true → is_settled_page seen (x ∷ h) p ≡ true
settled-more seen x h p within all =
    ap (λ (ts : List Touch). list_all test ts) (touches-event (Some x) false h p) ∙ go (touching_of (event_of (Some x)) h p)
  where
    test : Touch → Bool
    test touch = nat_lt seen touch.place

    go : (t : Touching) → list_all test (touches_after t false h p) ≡ true
    go touching.Rests = all
    go (touching.Touches lsn) = and_from _ _ (lt-ltb seen (suc (length h)) (omega (arith, within))) all
    go touching.Cuts = refl
    go touching.Begins = all
    go touching.Ends = fewer test h p all

-- each page of a span is settled
abbrev AreSettled : ℕ → List Effect → Option Range → Type 0
AreSettled seen h span = (p : ℕ) → span_has span p ≡ true → is_settled_page seen h p ≡ true

settled-all : (seen : ℕ) (h : List Effect) (span : Option Range) → AreSettled seen h span → settled_since seen h span ≡ true
settled-all seen h span settled = go (dirty_pages h)
  where
    here : (p : ℕ) (b : Bool) → span_has span p ≡ b → (not b || is_settled_page seen h p) ≡ true
    here p true has = settled p has
    here p false has = refl

    go : (pages : List ℕ) → list_all (λ p. not (span_has span p) || is_settled_page seen h p) pages ≡ true
    go [] = refl
    go (p ∷ pages) = and_from _ _ (here p (span_has span p) refl) (go pages)

-- a page that is not dirty is settled
clean-settled : (seen : ℕ) (ts : List Touch) → not (is_empty ts) ≡ false → list_all (λ touch. nat_lt seen touch.place) ts ≡ true
clean-settled seen [] none = refl
clean-settled seen (t ∷ ts) none = absurd (cc)

settled-each : (seen : ℕ) (h : List Effect) (span : Option Range) → settled_since seen h span ≡ true → AreSettled seen h span
settled-each seen h span all p has = go (is_dirty h p) refl
  where
    part : (b c : Bool) → b ≡ true → (not b || c) ≡ true → c ≡ true
    part true c is some = some
    part false c is some = absurd (cc)

    go : (b : Bool) → is_dirty h p ≡ b → is_settled_page seen h p ≡ true
    go true dirty =
        part (span_has span p) (is_settled_page seen h p) has
        (among-all (λ q. not (span_has span q) || is_settled_page seen h q) p (dirty_pages h) all (dirty-among h p dirty))
    go false clean = clean-settled seen (unwritten h p) clean

-- the effects at the pass's last call are no more than those of the whole
seen-within : (past : List Entry) (me s : ℕ) → length (history (up_to_call past me) s) ≤ length (history past s)
unfolding up_to_call history
seen-within [] me s = omega arith
seen-within (e ∷ past) me s = go (is_call_of me e) (effect_of e s) (seen-within past me s)
  where
    go : (b : Bool) (o : Option Effect) → length (history (up_to_call past me) s) ≤ length (history past s) → length (history (elim b as (λ x. List Entry) [ true ↦ e ∷ past | false ↦ up_to_call past me ]) s) ≤ length (cons_option (effect_of e s) (history past s))
    go true o le = omega arith
    go false o le = longer (effect_of e s)
      where
        longer : (x : Option Effect) → length (history (up_to_call past me) s) ≤ length (cons_option x (history past s))
        longer None = le
        longer (Some x) = omega (arith, le)

since-more : (seen : ℕ) (e : Entry) (past : List Entry) (s : ℕ) (span : Option Range) → seen ≤ length (history past s) → settled_since seen (history past s) span ≡ true → settled_since seen (history (e ∷ past) s) span ≡ true
since-more seen e past s span within all =
    ap (λ (h : List Effect). settled_since seen h span) (history-effect e past s (effect_of e s) refl) ∙ go (effect_of e s)
  where
    go : (o : Option Effect) → settled_since seen (cons_option o (history past s)) span ≡ true
    go None = all
    go (Some x) = settled-all seen (x ∷ history past s) span (λ p has. settled-more seen x (history past s) p within (settled-each seen (history past s) span all p has))

synced-step : (seen : ℕ) (e : Entry) (past : List Entry) (me s : ℕ) (span : Option Range) → is_call_of me e ≡ false → synced_after seen (e ∷ past) me s span ≡ ((is_ok_sync_of me s e && settled_since seen (history past s) span) || synced_after seen past me s span)
unfolding synced_after
synced-step seen e past me s span goes_on = rw (goes_on, synced_after) refl

synced-none : (seen me s : ℕ) (span : Option Range) → synced_after seen [] me s span ≡ false
unfolding synced_after
synced-none seen me s span = refl

-- where a sync of the pass settled a span, it is settled still
synced-settled : (past : List Entry) (me s seen : ℕ) (span : Option Range) → seen ≡ length (history (up_to_call past me) s) → synced_after seen past me s span ≡ true → settled_since seen (history past s) span ≡ true
synced-settled [] me s seen span is synced = absurd (cc (synced-none seen me s span, synced))
synced-settled (e ∷ past) me s seen span is synced = go (is_call_of me e) refl (synced-settled past me s seen span)
  where
    go : (b : Bool) → is_call_of me e ≡ b → (seen ≡ length (history (up_to_call past me) s) → synced_after seen past me s span ≡ true → settled_since seen (history past s) span ≡ true) → settled_since seen (history (e ∷ past) s) span ≡ true
    go true calls rest = absurd (cc (synced_after-call seen e past me s span calls, synced))
    go false goes_on rest =
        since-more seen e past s span within (by (is_ok_sync_of me s e) (settled_since seen (history past s) span) (synced_after seen past me s span) (sym (synced-step seen e past me s span goes_on) ∙ synced) refl (rest same))
      where
        same : seen ≡ length (history (up_to_call past me) s)
        same = is ∙ ap (λ (es : List Entry). length (history es s)) (up_to_call-other e past me goes_on)

        within : seen ≤ length (history past s)
        within = subst (λ (n : ℕ). n ≤ length (history past s)) (sym same) (seen-within past me s)

        by : (a b c : Bool) → ((a && b) || c) ≡ true → settled_since seen (history past s) span ≡ b → (c ≡ true → settled_since seen (history past s) span ≡ true) → settled_since seen (history past s) span ≡ true
        by true true c some now later = now
        by true false c some now later = later some
        by false b c some now later = later some

module _ (e : Entry) (past : List Entry) (me s : ℕ) (span : Option Range) where
  -- a call of the pass
  pub flushed-call : is_call_of me e ≡ true → is_flushed (e ∷ past) me s span ≡ false
  flushed-call calls = is_flushed-synced_after (e ∷ past) me s span ∙ synced_after-call (length (history (up_to_call (e ∷ past) me) s)) e past me s span calls

  -- neither a call of the pass, nor a good sync of the stream by it
  pub flushed-other : is_call_of me e ≡ false → is_ok_sync_of me s e ≡ false → is_flushed (e ∷ past) me s span ≡ is_flushed past me s span
  flushed-other goes_on no_sync =
      is_flushed-synced_after (e ∷ past) me s span
      ∙ (synced_after-other (length (history (up_to_call (e ∷ past) me) s)) e past me s span goes_on no_sync
      ∙ (ap (λ (es : List Entry). synced_after (length (history es s)) past me s span) (up_to_call-other e past me goes_on)
      ∙ sym (is_flushed-synced_after past me s span)))

  -- such a sync
  pub flushed-sync : is_call_of me e ≡ false → is_ok_sync_of me s e ≡ true → is_flushed (e ∷ past) me s span ≡ settled_since (length (history (up_to_call past me) s)) (history past s) span
  flushed-sync goes_on syncs =
      is_flushed-synced_after (e ∷ past) me s span
      ∙ (ap (λ (es : List Entry). synced_after (length (history es s)) (e ∷ past) me s span) (up_to_call-other e past me goes_on)
      ∙ (synced-step seen e past me s span goes_on
      ∙ (ap (λ (b : Bool). (b && settled_since seen (history past s) span) || synced_after seen past me s span) syncs
      ∙ by (settled_since seen (history past s) span) refl (synced_after seen past me s span) refl)))
    where
      seen : ℕ
      seen = length (history (up_to_call past me) s)

      by : (a : Bool) → settled_since seen (history past s) span ≡ a → (b : Bool) → synced_after seen past me s span ≡ b → ((true && a) || b) ≡ a
      by true all b is = refl
      by false none true is = absurd (cc (synced-settled past me s seen span refl is, none))
      by false none false is = refl

-- The rows of the dirty page table tell which pages are unsettled.
some-of : {X : Type 0} (test : X → Bool) (xs : List X) → list_any test xs ≡ true → (x : X) × (test x ≡ true)
some-of test [] some = absurd (cc)
some-of {X} test (x ∷ xs) some = go (test x) refl (some-of test xs) some
  where
    go : (b : Bool) → test x ≡ b → (list_any test xs ≡ true → (y : X) × (test y ≡ true)) → (b || list_any test xs) ≡ true → (y : X) × (test y ≡ true)
    go true is rest any = (x, is)
    go false is rest any = rest any

any-mapped : {X : Type 0} (test : X → Bool) (f : X → ℕ) (has : ℕ → Bool) (xs : List X) → list_any has (map f (filter test xs)) ≡ list_any (λ x. test x && has (f x)) xs
any-mapped test f has [] = refl
any-mapped {X} test f has (x ∷ xs) = go (test x) refl (any-mapped test f has xs)
  where
    go : (b : Bool) → test x ≡ b → list_any has (map f (filter test xs)) ≡ list_any (λ y. test y && has (f y)) xs → list_any has (map f (filter test (x ∷ xs))) ≡ ((test x && has (f x)) || list_any (λ y. test y && has (f y)) xs)
    go true is rest = rw (is, rest) refl
    go false is rest = rw (is, rest) refl

-- what is found passes the test
pub found-passes : {X : Type 0} (test : X → Bool) (xs : List X) (x : X) → find test xs ≡ Some x → test x ≡ true
found-passes test [] x found = absurd (cc)
found-passes {X} test (y ∷ xs) x found = go (test y) refl found (found-passes test xs x)
  where
    go : (b : Bool) → test y ≡ b → cond b (Some y) (find test xs) ≡ Some x → (find test xs ≡ Some x → test x ≡ true) → test x ≡ true
    go true passes it rest = let same : y ≡ x = cc in ap test (sym same) ∙ passes
    go false fails it rest = rest it

pub rows-unsettled : (later front : List Entry) (s : ℕ) (rows : List Row) (span : Option Range) → Follows (later ++ front) rows → settled_since (length (history front s)) (history (later ++ front) s) span ≡ not (list_any (span_has span) (unsettled_in front (later ++ front) s rows))
rows-unsettled later front s rows span follows =
    go (list_any both rows) refl ∙ ap not (sym (any-mapped test (λ row. row.page.page) (span_has span) rows))
  where
    past : List Entry
    past = later ++ front

    seen : ℕ
    seen = length (history front s)

    test : Row → Bool
    test row = row.page.stream == s && is_unsettled front (later ++ front) row.page

    both : Row → Bool
    both row = test row && span_has span row.page.page

    place : ℕ → ℕ
    place = journal_place (later ++ front) s

    -- an unsettled page of the span is dirty, so it has a row
    none-there : list_any both rows ≡ false → AreSettled seen (history (later ++ front) s) span
    none-there none p has = by (row_of rows q) refl (is_settled_page seen (history (later ++ front) s) p) refl
      where
        q : Page
        q = record { stream = s; page = p }

        by : (o : Option Row) → row_of rows q ≡ o → (b : Bool) → is_settled_page seen (history (later ++ front) s) p ≡ b → is_settled_page seen (history (later ++ front) s) p ≡ true
        by o is true settled = settled
        by None is false settled =
            let there : IsRowOf place (history (later ++ front) s) p None = subst (λ (o : Option Row). IsRowOf place (history (later ++ front) s) p o) is (follows q) in
            sym (touches-since later front s p) ∙ ap (is_past (length front)) (sym (ap (λ (u : Unwritten). u.oldest) there.unwritten))
        by (Some row) is false settled =
            let same = found-passes (λ (r : Row). same_page r.page q) rows row is in
            absurd (differ (sym (any-found (λ (r : Row). same_page r.page q) both rows row is (holds row same)) ∙ none))
          where
            differ : true ≡ false → ⊥
            differ e = absurd (cc)

            page-is : (x : Page) → (x.stream == s) ≡ true → (x.page == p) ≡ true → x ≡ q
            page-is x a b = let stream : x.stream ≡ s = eqb-true x.stream s a in let page : x.page ≡ p = eqb-true x.page p b in rw (← stream, ← page) refl

            holds : (r : Row) → same_page r.page q ≡ true → both r ≡ true
            holds r same =
                let parts = and_parts (r.page.stream == s) (r.page.page == p) same in
                let page : r.page ≡ q = page-is r.page parts.0 parts.1 in
                and_from _ _
                (and_from _ _ parts.0 (ap (λ (x : Page). is_unsettled front (later ++ front) x) page ∙ ap not settled))
                (ap (λ (x : Page). span_has span x.page) page ∙ has)

    go : (t : Bool) → list_any both rows ≡ t → settled_since seen (history (later ++ front) s) span ≡ not t
    go false none = settled-all seen (history (later ++ front) s) span (none-there none)
    go true some = by (settled_since seen (history (later ++ front) s) span) refl
      where
        found : (row : Row) × (both row ≡ true)
        found = some-of both rows some

        by : (b : Bool) → settled_since seen (history (later ++ front) s) span ≡ b → settled_since seen (history (later ++ front) s) span ≡ false
        by false is = is
        by true all = absurd (clash found.0 (and_parts (test found.0) _ found.1))
          where
            clash : (row : Row) → (test row ≡ true) × (span_has span row.page.page ≡ true) → ⊥
            clash row parts =
                let tests = and_parts (row.page.stream == s) _ parts.0 in
                apart _ (settled-each seen (history (later ++ front) s) span all row.page.page parts.1)
                (ap (λ (n : ℕ). not (is_settled_page (length (history front n)) (history (later ++ front) n) row.page.page)) (sym (eqb-true row.page.stream s tests.0)) ∙ tests.1)
              where
                differ : false ≡ true → ⊥
                differ e = absurd (cc)

                apart : (b : Bool) → b ≡ true → not b ≡ true → ⊥
                apart b is off = differ (sym (ap not is) ∙ off)

-- So they tell it for the front that a pass has seen with its last call.
front-called : (past : List Entry) (me : ℕ) → (later : List Entry) × (past ≡ later ++ up_to_call past me)
unfolding up_to_call
front-called [] me = ([], refl)
front-called (e ∷ past) me = go (is_call_of me e) (front-called past me)
  where
    go : (b : Bool) → (later : List Entry) × (past ≡ later ++ up_to_call past me) → (later : List Entry) × (e ∷ past ≡ later ++ elim b as (λ x. List Entry) [ true ↦ e ∷ past | false ↦ up_to_call past me ])
    go true front = ([], refl)
    go false front = (e ∷ front.0, ap (λ (l : List Entry). e ∷ l) front.1)

pub all-unsettled : (past : List Entry) (me s : ℕ) (rows : List Row) (pages : List ℕ) → Follows past rows → ((later front : List Entry) → past ≡ later ++ front → front ≡ up_to_call past me → pages ≡ unsettled_in front past s rows) → AreUnsettled past me s pages
all-unsettled past me s rows pages follows are span = by (front-called past me)
  where
    by : (later : List Entry) × (past ≡ later ++ up_to_call past me) → settled_since (length (history (up_to_call past me) s)) (history past s) span ≡ not (list_any (span_has span) pages)
    by (later, split) =
        subst (λ (es : List Entry). settled_since (length (history (up_to_call past me) s)) (history es s) span ≡ not (list_any (span_has span) (unsettled_in (up_to_call past me) es s rows))) (sym split)
        (rows-unsettled later (up_to_call past me) s rows span (subst (λ (es : List Entry). Follows es rows) split follows))
        ∙ ap (λ (ps : List ℕ). not (list_any (span_has span) ps)) (sym (are later (up_to_call past me) split refl))
