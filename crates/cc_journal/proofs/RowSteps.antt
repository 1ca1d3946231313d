-- How the row of a page steps at an event.
use Rattle.std.specs.Prelude.{◌≡◌, ℕ, suc, ◌+◌, ◌*◌, ◌<◌, Bool, true, false, not, is_some, ◌==◌, nat_le, nat_lt, List, [], ◌∷◌, length, Option, None, Some, min, max, if◌then◌else◌, refl}
use Rattle.std.specs.List.{cons_option, list_all}
use Rattle.std.specs.Option.{option_map, option_and_then}
use Rattle.std.proofs.Common.{ap, sym, subst, ◌∙◌, arith}
use Rattle.std.proofs.lemmas.Bool.{and_parts, and_from, ltb-true, lt-ltb}
use Rattle.std.proofs.lemmas.Bool.Decides.{nat_tests}
use Rattle.cc_entry.specs.Place.{Page}
use Rattle.cc_entry.specs.Lsns.{joined as joined_lsns, lsn_alone}
use Rattle.cc_entry.specs.Pages.{has_page}
use Rattle.cc_entry.specs.declared.entry.End.{End}
use Rattle.cc_dirty.specs.declared.row.Unwritten.{Unwritten}
use Rattle.cc_dirty.specs.declared.row.Row.{Row}
use Rattle.cc_dirty.specs.Unwritten.{nothing_unwritten, lower, joined_unwritten, with_touch, is_touched, touched_row, begun_row, ended_row, kept_row}
use Rattle.cc_events.specs.declared.touching.Touching.{Touching}
use Rattle.cc_events.specs.declared.touching.Touching.TheVariants as touching
use Rattle.cc_events.specs.Events.{event_of, event_of_act, truncation_by}
use Rattle.cc_events.specs.Touchings.{cut_by, touch_if, touching_of, touches_after}
use Rattle.cc_events.proofs.TouchEvents.{touches-event}
use Rattle.cc_model.specs.History.{Effect, Did, CameIn, WentOut, Began, Ended, Synced}
use Rattle.cc_model.specs.Acts.{Act, act_of, Opens, Closes, Resizes, Writes, Zeroes, Stores, Stamps, Discards, Looks}
use Rattle.cc_model.specs.Objects.{objects}
use Rattle.cc_model.specs.Holds.{holds_of, hold_at}
use Rattle.cc_model.specs.Ranges.{span_has}
use Rattle.cc_model.specs.Sizes.{Touch, stored_range, hold_has, ended_ok}
use Rattle.cc_model.specs.Touches.{touches, size_of}
use Rattle.cc_model.specs.Numbers.{is_empty}
use Rattle.cc_model.specs.Images.{Transfer, open_of}
use Rattle.cc_model.specs.Stamps.{lsns_among}
use Rattle.cc_laws.proofs.ImageSteps.{open_of-done, open_of-came_in, open_of-went_out, open_of-began, open_of-ended, open_of-synced}
use Rattle.cc_journal.specs.Rows.{oldest_among, summary, is_under_way, begun_in, later_in, IsRowOf, row_after, row_by, KeepsTransfers}

same_pair : (a b c d : ℕ) → a ≡ c → b ≡ d → ◌≡◌ {A = Option (ℕ × ℕ)} (Some (a, b)) (Some (c, d))
same_pair a b c d e f = cc

lsns-none : (a : Option (ℕ × ℕ)) → joined_lsns a None ≡ a
lsns-none None = refl
lsns-none (Some a) = refl

lsns-comm : (a b : Option (ℕ × ℕ)) → joined_lsns a b ≡ joined_lsns b a
lsns-comm None None = refl
lsns-comm None (Some b) = refl
lsns-comm (Some a) None = refl
lsns-comm (Some a) (Some b) = same_pair _ _ _ _ (least a.0 b.0) (greatest a.1 b.1)
  where
    least : (m n : ℕ) → min m n ≡ min n m
    least m n = omega arith

    greatest : (m n : ℕ) → max m n ≡ max n m
    greatest m n = omega arith

lsns-assoc : (a b c : Option (ℕ × ℕ)) → joined_lsns (joined_lsns a b) c ≡ joined_lsns a (joined_lsns b c)
lsns-assoc None b c = refl
lsns-assoc (Some a) None c = refl
lsns-assoc (Some a) (Some b) None = refl
lsns-assoc (Some a) (Some b) (Some c) = same_pair _ _ _ _ (least a.0 b.0 c.0) (greatest a.1 b.1 c.1)
  where
    least : (l m n : ℕ) → min (min l m) n ≡ min l (min m n)
    least l m n = omega arith

    greatest : (l m n : ℕ) → max (max l m) n ≡ max l (max m n)
    greatest l m n = omega arith

same_place : (a b : ℕ) → a ≡ b → ◌≡◌ {A = Option ℕ} (Some a) (Some b)
same_place a b e = cc

lower-none : (a : Option ℕ) → lower a None ≡ a
lower-none None = refl
lower-none (Some a) = refl

lower-comm : (a b : Option ℕ) → lower a b ≡ lower b a
lower-comm None None = refl
lower-comm None (Some b) = refl
lower-comm (Some a) None = refl
lower-comm (Some a) (Some b) = same_place _ _ (least a b)
  where
    least : (m n : ℕ) → min m n ≡ min n m
    least m n = omega arith

lower-assoc : (a b c : Option ℕ) → lower (lower a b) c ≡ lower a (lower b c)
lower-assoc None b c = refl
lower-assoc (Some a) None c = refl
lower-assoc (Some a) (Some b) None = refl
lower-assoc (Some a) (Some b) (Some c) = same_place _ _ (least a b c)
  where
    least : (l m n : ℕ) → min (min l m) n ≡ min l (min m n)
    least l m n = omega arith

same_unwritten : (a b : Unwritten) → a.oldest ≡ b.oldest → a.lsns ≡ b.lsns → a ≡ b
same_unwritten a b e f = let k : ◌≡◌ {A = Unwritten} (record { oldest = a.oldest; lsns = a.lsns }) (record { oldest = b.oldest; lsns = b.lsns }) = cc in k

joined-nothing : (a : Unwritten) → joined_unwritten a nothing_unwritten ≡ a
joined-nothing a = same_unwritten (joined_unwritten a nothing_unwritten) a (lower-none a.oldest) (lsns-none a.lsns)

-- a touch may come into the second part or into both together
joined-touch : (a b : Unwritten) (place : ℕ) (lsn : Option ℕ) → joined_unwritten a (with_touch b place lsn) ≡ with_touch (joined_unwritten a b) place lsn
joined-touch a b place lsn =
    same_unwritten (joined_unwritten a (with_touch b place lsn)) (with_touch (joined_unwritten a b) place lsn) (sym (lower-assoc a.oldest b.oldest (Some place))) (sym (lsns-assoc a.lsns b.lsns (lsn_alone lsn)))

-- touches whose effects have the same places sum up alike
summary-alike : (place other : ℕ → ℕ) (n : ℕ) → ((k : ℕ) → k < n → other k ≡ place k) → (ts : List Touch) → list_all (λ (t : Touch). nat_lt t.place n) ts ≡ true → summary other ts ≡ summary place ts
summary-alike place other n same ts all = same_unwritten (summary other ts) (summary place ts) (oldest ts all) refl
  where
    oldest : (ts : List Touch) → list_all (λ (t : Touch). nat_lt t.place n) ts ≡ true → oldest_among other ts ≡ oldest_among place ts
    oldest [] all = refl
    oldest (t ∷ ts) all =
        let parts = and_parts (nat_lt t.place n) _ all in
        rw (same t.place (ltb-true t.place n parts.0), oldest ts parts.1) refl

summary-touch : (place : ℕ → ℕ) (touch : Touch) (rest : List Touch) → with_touch (summary place rest) (place touch.place) touch.lsn ≡ summary place (touch ∷ rest)
summary-touch place touch rest =
    same_unwritten (with_touch (summary place rest) (place touch.place) touch.lsn) (summary place (touch ∷ rest))
    (lower-comm (oldest_among place rest) (Some (place touch.place))) (lsns-comm (lsns_among rest) (lsn_alone touch.lsn))

-- there is an oldest touch where there is a touch
pub some-oldest : (place : ℕ → ℕ) (ts : List Touch) → is_some (oldest_among place ts) ≡ not (is_empty ts)
some-oldest place [] = refl
some-oldest place (t ∷ ts) = some (oldest_among place ts)
  where
    some : (o : Option ℕ) → is_some (lower (Some (place t.place)) o) ≡ true
    some None = refl
    some (Some x) = refl

untouched : (place : ℕ → ℕ) (ts : List Touch) → is_some (oldest_among place ts) ≡ false → summary place ts ≡ nothing_unwritten
untouched place [] none = refl
untouched place (t ∷ ts) none = absurd (clash (some-oldest place (t ∷ ts)) none)
  where
    clash : {b : Bool} → b ≡ true → b ≡ false → ⊥
    clash is fails = absurd (cc)

-- what a row says of the touches of its page: of all, and of those since its open transfer began
record Stands (place : ℕ → ℕ) (under : Bool) (begun later : Unwritten) (all since : List Touch) : Type 0 where
  unwritten : joined_unwritten begun later ≡ summary place all
  under_way : under ≡ true → later ≡ summary place since
  at_rest : under ≡ false → begun ≡ nothing_unwritten

Stands-row : (place : ℕ → ℕ) (h : List Effect) (p : ℕ) (row : Option Row) → IsRowOf place h p row → Stands place (is_under_way (open_of h) p) (begun_in row) (later_in row) (touches false h p) (touches true h p)
Stands-row place h p row is = record { unwritten = is.unwritten; under_way = is.under_way; at_rest = is.at_rest }

row-Stands : (place : ℕ → ℕ) (h : List Effect) (p : ℕ) (row : Option Row) (under : Bool) (all since : List Touch) → is_under_way (open_of h) p ≡ under → touches false h p ≡ all → touches true h p ≡ since
    → Stands place under (begun_in row) (later_in row) all since → IsRowOf place h p row
row-Stands place h p row under all since o a s is = record {
  unwritten = is.unwritten ∙ ap (summary place) (sym a);
  under_way = λ yes. is.under_way (sym o ∙ yes) ∙ ap (summary place) (sym s);
  at_rest = λ no. is.at_rest (sym o ∙ no);
}

begun_touched : (q : Page) (at : ℕ) (lsn : Option ℕ) (row : Option Row) → begun_in (Some (touched_row q at lsn row)) ≡ begun_in row
begun_touched q at lsn None = refl
begun_touched q at lsn (Some r) = refl

later_touched : (q : Page) (at : ℕ) (lsn : Option ℕ) (row : Option Row) → later_in (Some (touched_row q at lsn row)) ≡ with_touch (later_in row) at lsn
later_touched q at lsn None = refl
later_touched q at lsn (Some r) = refl

Stands-touch : (place : ℕ → ℕ) (under : Bool) (q : Page) (touch : Touch) (row : Option Row) (all since : List Touch) → Stands place under (begun_in row) (later_in row) all since
    → Stands place under (begun_in (Some (touched_row q (place touch.place) touch.lsn row))) (later_in (Some (touched_row q (place touch.place) touch.lsn row))) (touch ∷ all) (touch ∷ since)
Stands-touch place under q touch row all since is = record {
  unwritten = rw (begun_touched q (place touch.place) touch.lsn row, later_touched q (place touch.place) touch.lsn row)
      (joined-touch (begun_in row) (later_in row) (place touch.place) touch.lsn ∙ (ap (λ u. with_touch u (place touch.place) touch.lsn) is.unwritten ∙ summary-touch place touch all));
  under_way = λ yes. later_touched q (place touch.place) touch.lsn row ∙ (ap (λ u. with_touch u (place touch.place) touch.lsn) (is.under_way yes) ∙ summary-touch place touch since);
  at_rest = λ no. begun_touched q (place touch.place) touch.lsn row ∙ is.at_rest no;
}

Stands-cut : (place : ℕ → ℕ) (under : Bool) → Stands place under nothing_unwritten nothing_unwritten [] []
Stands-cut place under = record { unwritten = refl; under_way = λ yes. refl; at_rest = λ no. refl }

begun_begun : (row : Option Row) → begun_in (option_map begun_row row) ≡ joined_unwritten (begun_in row) (later_in row)
begun_begun None = refl
begun_begun (Some r) = refl

later_begun : (row : Option Row) → later_in (option_map begun_row row) ≡ nothing_unwritten
later_begun None = refl
later_begun (Some r) = refl

Stands-begun : (place : ℕ → ℕ) (under : Bool) (row : Option Row) (all since : List Touch) → Stands place under (begun_in row) (later_in row) all since
    → Stands place true (begun_in (option_map begun_row row)) (later_in (option_map begun_row row)) all []
Stands-begun place under row all since is = record {
  unwritten = rw (begun_begun row, later_begun row) (joined-nothing (joined_unwritten (begun_in row) (later_in row)) ∙ is.unwritten);
  under_way = λ yes. later_begun row;
  at_rest = λ no. absurd (cc);
}

-- a row of which nothing is begun, kept while something of it is touched
Stands-kept : (place : ℕ → ℕ) (r : Row) (all since : List Touch) → r.begun ≡ nothing_unwritten → r.later ≡ summary place all → Stands place false (begun_in (kept_row r)) (later_in (kept_row r)) all since
Stands-kept place r all since begun later = go (is_touched r) refl
  where
    go : (t : Bool) → is_touched r ≡ t → Stands place false (begun_in (if t then Some r else None)) (later_in (if t then Some r else None)) all since
    go true is = record { unwritten = rw (begun, later) refl; under_way = λ yes. absurd (cc); at_rest = λ no. begun }
    go false is =
        let both : is_some (lower nothing_unwritten.oldest (summary place all).oldest) ≡ is_touched r =
        ap (λ (u : Unwritten). is_some (lower u.oldest (summary place all).oldest)) (sym begun) ∙ ap (λ (u : Unwritten). is_some (lower r.begun.oldest u.oldest)) (sym later) in
        record { unwritten = sym (untouched place all (both ∙ is)); under_way = λ yes. absurd (cc); at_rest = λ no. refl }

Stands-ended_ok : (place : ℕ → ℕ) (row : Option Row) (all since : List Touch) → Stands place true (begun_in row) (later_in row) all since
    → Stands place false (begun_in (option_and_then (λ r. kept_row (ended_row true r)) row)) (later_in (option_and_then (λ r. kept_row (ended_row true r)) row)) since since
Stands-ended_ok place None all since is = record { unwritten = is.under_way refl; under_way = λ yes. absurd (cc); at_rest = λ no. refl }
Stands-ended_ok place (Some r) all since is = Stands-kept place (ended_row true r) since since refl (is.under_way refl)

Stands-ended_bad : (place : ℕ → ℕ) (row : Option Row) (all since : List Touch) → Stands place true (begun_in row) (later_in row) all since
    → Stands place false (begun_in (option_and_then (λ r. kept_row (ended_row false r)) row)) (later_in (option_and_then (λ r. kept_row (ended_row false r)) row)) all since
Stands-ended_bad place None all since is = record { unwritten = is.unwritten; under_way = λ yes. absurd (cc); at_rest = λ no. refl }
Stands-ended_bad place (Some r) all since is = Stands-kept place (ended_row false r) all since refl is.unwritten

-- what an event does to the touches of a page where it begins and ends no transfer
abbrev IsQuiet : Touching → Type 0
IsQuiet touching.Begins = ⊥
IsQuiet touching.Ends = ⊥
IsQuiet other = Unit {0}

quiet-cut_by : (o : Option ℕ) (p : ℕ) → IsQuiet (cut_by o p)
quiet-cut_by None p = tt
quiet-cut_by (Some to) p = go (nat_le to (4096 * p))
  where
    go : (b : Bool) → IsQuiet (if b then touching.Cuts else touching.Rests)
    go true = tt
    go false = tt

quiet-touch_if : (has : Bool) (lsn : Option ℕ) → IsQuiet (touch_if has lsn)
quiet-touch_if true lsn = tt
quiet-touch_if false lsn = tt

quiet-drop : (has : Bool) → IsQuiet (if has then touching.Cuts else touching.Rests)
quiet-drop true = tt
quiet-drop false = tt

quiet-step : (place : ℕ → ℕ) (t : Touching) (h h' : List Effect) (q : Page) (row : Option Row) → IsQuiet t → open_of h' ≡ open_of h → ((ended : Bool) → touches ended h' q.page ≡ touches_after t ended h q.page)
    → IsRowOf place h q.page row → IsRowOf place h' q.page (row_after (place (suc (length h))) t q row)
quiet-step place touching.Rests h h' q row quiet same after is =
    row-Stands place h' q.page row (is_under_way (open_of h) q.page) (touches false h q.page) (touches true h q.page) (ap (λ o. is_under_way o q.page) same) (after false) (after true) (Stands-row place h q.page row is)
quiet-step place (touching.Touches lsn) h h' q row quiet same after is =
    row-Stands place h' q.page (Some (touched_row q (place (suc (length h))) lsn row)) (is_under_way (open_of h) q.page) (touch ∷ touches false h q.page) (touch ∷ touches true h q.page) (ap (λ o. is_under_way o q.page) same) (after false) (after true)
    (Stands-touch place (is_under_way (open_of h) q.page) q touch row (touches false h q.page) (touches true h q.page) (Stands-row place h q.page row is))
  where
    touch : Touch
    touch = record { place = suc (length h); lsn = lsn }
quiet-step place touching.Cuts h h' q row quiet same after is =
    row-Stands place h' q.page None (is_under_way (open_of h) q.page) [] [] (ap (λ o. is_under_way o q.page) same) (after false) (after true) (Stands-cut place (is_under_way (open_of h) q.page))
quiet-step place touching.Begins h h' q row quiet same after is = absurd quiet
quiet-step place touching.Ends h h' q row quiet same after is = absurd quiet

act-step : (place : ℕ → ℕ) (a : Act) (h h' : List Effect) (q : Page) (row : Option Row) → open_of h' ≡ open_of h → ((ended : Bool) → touches ended h' q.page ≡ touches_after (touching_of (event_of_act a) h q.page) ended h q.page)
    → IsRowOf place h q.page row → IsRowOf place h' q.page (row_by (place (suc (length h))) (event_of_act a) h q row)
act-step place (Opens file sizes quota temporary) h h' q row = quiet-step place touching.Rests h h' q row tt
act-step place (Closes file truncate) h h' q row =
    quiet-step place (cut_by (truncation_by file.object truncate (objects h) (size_of h)) q.page) h h' q row (quiet-cut_by (truncation_by file.object truncate (objects h) (size_of h)) q.page)
act-step place (Resizes allocation size) h h' q row = quiet-step place (cut_by (Some size) q.page) h h' q row (quiet-cut_by (Some size) q.page)
act-step place (Writes at bytes) h h' q row = quiet-step place (touch_if (has_page (record { from = at; to = at + length bytes }) q.page) None) h h' q row (quiet-touch_if (has_page (record { from = at; to = at + length bytes }) q.page) None)
act-step place (Zeroes from to) h h' q row = quiet-step place (touch_if (has_page (record { from = from; to = to }) q.page) None) h h' q row (quiet-touch_if (has_page (record { from = from; to = to }) q.page) None)
act-step place (Stores page bytes) h h' q row = quiet-step place (touch_if (has_page (stored_range page (size_of h)) q.page) None) h h' q row (quiet-touch_if (has_page (stored_range page (size_of h)) q.page) None)
act-step place (Stamps hold lsn) h h' q row = quiet-step place (touch_if (hold_has (hold_at (holds_of h) hold) q.page) lsn) h h' q row (quiet-touch_if (hold_has (hold_at (holds_of h) hold) q.page) lsn)
act-step place (Discards span) h h' q row = quiet-step place (if span_has span q.page then touching.Cuts else touching.Rests) h h' q row (quiet-drop (span_has span q.page))
act-step place Looks h h' q row = quiet-step place touching.Rests h h' q row tt

under_way-none : (o : Option Transfer) (p : ℕ) → o ≡ None → is_under_way o p ≡ false
under_way-none None p none = refl
under_way-none (Some transfer) p none = absurd (cc)

same_page : (m n p : ℕ) → (m == n) ≡ true → (n == p) ≡ true → (m == p) ≡ true
same_page m n p a b = grind (arith, nat_tests)

other_page : (m n p : ℕ) → (m == n) ≡ true → (n == p) ≡ false → (m == p) ≡ false
other_page m n p a b = grind (arith, nat_tests)

under_way-same : (o : Option Transfer) (page p : ℕ) → is_under_way o page ≡ true → (page == p) ≡ true → is_under_way o p ≡ true
under_way-same None page p under same = absurd (cc)
under_way-same (Some transfer) page p under same = same_page transfer.page page p under same

under_way-other : (o : Option Transfer) (page p : ℕ) → is_under_way o page ≡ true → (page == p) ≡ false → is_under_way o p ≡ false
under_way-other None page p under other = absurd (cc)
under_way-other (Some transfer) page p under other = other_page transfer.page page p under other

began-step : (place : ℕ → ℕ) (pass page : ℕ) (h : List Effect) (q : Page) (row : Option Row) (b : Bool) → (page == q.page) ≡ b → open_of h ≡ None → IsRowOf place h q.page row
    → IsRowOf place (Began pass page ∷ h) q.page (row_after (place (suc (length h))) (if b then touching.Begins else touching.Rests) q row)
began-step place pass page h q row true same none is =
    row-Stands place (Began pass page ∷ h) q.page (option_map begun_row row) true (touches false h q.page) []
    (rw (open_of-began pass page h) same)
    (touches-event (Some (Began pass page)) false h q.page ∙ rw same refl)
    (touches-event (Some (Began pass page)) true h q.page ∙ rw same refl)
    (Stands-begun place (is_under_way (open_of h) q.page) row (touches false h q.page) (touches true h q.page) (Stands-row place h q.page row is))
began-step place pass page h q row false other none is =
    row-Stands place (Began pass page ∷ h) q.page row (is_under_way (open_of h) q.page) (touches false h q.page) (touches true h q.page)
    (rw (open_of-began pass page h) (other ∙ sym (under_way-none (open_of h) q.page none)))
    (touches-event (Some (Began pass page)) false h q.page ∙ rw other refl)
    (touches-event (Some (Began pass page)) true h q.page ∙ rw other refl)
    (Stands-row place h q.page row is)

ended-step : (place : ℕ → ℕ) (pass page : ℕ) (how : End) (h : List Effect) (q : Page) (row : Option Row) (b ok : Bool) → (page == q.page) ≡ b → ended_ok how ≡ ok → is_under_way (open_of h) page ≡ true → IsRowOf place h q.page row
    → IsRowOf place (Ended pass page how ∷ h) q.page (if b then option_and_then (λ r. kept_row (ended_row ok r)) row else row)
ended-step place pass page how h q row true true same good under is =
    row-Stands place (Ended pass page how ∷ h) q.page (option_and_then (λ r. kept_row (ended_row true r)) row) false (touches true h q.page) (touches true h q.page)
    (rw (open_of-ended pass page how h) refl)
    (touches-event (Some (Ended pass page how)) false h q.page ∙ rw (same, good) refl)
    (touches-event (Some (Ended pass page how)) true h q.page ∙ rw (same, good) refl)
    (Stands-ended_ok place row (touches false h q.page) (touches true h q.page)
    (subst (λ (u : Bool). Stands place u (begun_in row) (later_in row) (touches false h q.page) (touches true h q.page)) (under_way-same (open_of h) page q.page under same) (Stands-row place h q.page row is)))
ended-step place pass page how h q row true false same bad under is =
    row-Stands place (Ended pass page how ∷ h) q.page (option_and_then (λ r. kept_row (ended_row false r)) row) false (touches false h q.page) (touches true h q.page)
    (rw (open_of-ended pass page how h) refl)
    (touches-event (Some (Ended pass page how)) false h q.page ∙ rw (same, bad) refl)
    (touches-event (Some (Ended pass page how)) true h q.page ∙ rw (same, bad) refl)
    (Stands-ended_bad place row (touches false h q.page) (touches true h q.page)
    (subst (λ (u : Bool). Stands place u (begun_in row) (later_in row) (touches false h q.page) (touches true h q.page)) (under_way-same (open_of h) page q.page under same) (Stands-row place h q.page row is)))
ended-step place pass page how h q row false ok other end under is =
    row-Stands place (Ended pass page how ∷ h) q.page row (is_under_way (open_of h) q.page) (touches false h q.page) (touches true h q.page)
    (rw (open_of-ended pass page how h) (sym (under_way-other (open_of h) page q.page under other)))
    (touches-event (Some (Ended pass page how)) false h q.page ∙ rw other refl)
    (touches-event (Some (Ended pass page how)) true h q.page ∙ rw other refl)
    (Stands-row place h q.page row is)

-- Each touch of a page is no later than the last effect of the stream, so what comes later moves no place of it.
abbrev pub AreBelow : ℕ → List Touch → Type 0
AreBelow n ts = list_all (λ (t : Touch). nat_lt t.place n) ts ≡ true

below-more : (n : ℕ) (ts : List Touch) → AreBelow n ts → AreBelow (suc n) ts
below-more n [] all = refl
below-more n (t ∷ ts) all =
    let parts = and_parts (nat_lt t.place n) _ all in
    let low : t.place < n = ltb-true t.place n parts.0 in
    and_from _ _ (lt-ltb t.place (suc n) (omega (arith, low))) (below-more n ts parts.1)

below-after : (what : Touching) (ended : Bool) (h : List Effect) (p : ℕ) → ((b : Bool) → AreBelow (suc (length h)) (touches b h p)) → AreBelow (suc (suc (length h))) (touches_after what ended h p)
below-after touching.Rests ended h p all = below-more (suc (length h)) (touches ended h p) (all ended)
below-after (touching.Touches lsn) ended h p all = and_from _ _ (lt-ltb (suc (length h)) (suc (suc (length h))) (omega arith)) (below-more (suc (length h)) (touches ended h p) (all ended))
below-after touching.Cuts ended h p all = refl
below-after touching.Begins true h p all = refl
below-after touching.Begins false h p all = below-more (suc (length h)) (touches false h p) (all false)
below-after touching.Ends ended h p all = below-more (suc (length h)) (touches true h p) (all true)

pub touches-below : (ended : Bool) (h : List Effect) (p : ℕ) → AreBelow (suc (length h)) (touches ended h p)
unfolding touches
touches-below ended [] p = refl
touches-below ended (e ∷ h) p =
    subst (AreBelow (suc (suc (length h)))) (sym (touches-event (Some e) ended h p)) (below-after (touching_of (event_of (Some e)) h p) ended h p (λ b. touches-below b h p))

-- a row stands for a page by any places that agree as far as the last effect
pub IsRowOf-alike : (place other : ℕ → ℕ) (h : List Effect) (p : ℕ) (row : Option Row) → ((k : ℕ) → k < suc (length h) → other k ≡ place k) → IsRowOf place h p row → IsRowOf other h p row
IsRowOf-alike place other h p row same is = record {
  unwritten = is.unwritten ∙ sym (alike false);
  under_way = λ yes. is.under_way yes ∙ sym (alike true);
  at_rest = is.at_rest;
}
  where
    alike : (ended : Bool) → summary other (touches ended h p) ≡ summary place (touches ended h p)
    alike ended = summary-alike place other (suc (length h)) same (touches ended h p) (touches-below ended h p)

-- a row that stands for a page before an effect gives the row that stands for it after the effect
pub row-step : (place : ℕ → ℕ) (o : Option Effect) (h : List Effect) (q : Page) (row : Option Row) → KeepsTransfers (event_of o) h → IsRowOf place h q.page row → IsRowOf place (cons_option o h) q.page (row_by (place (suc (length h))) (event_of o) h q row)
row-step place None h q row keeps is = is
row-step place (Some (Did pass call reply)) h q row keeps is =
    act-step place (act_of call) h (Did pass call reply ∷ h) q row (open_of-done pass call reply h) (λ ended. touches-event (Some (Did pass call reply)) ended h q.page) is
row-step place (Some (CameIn pass page from_disk)) h q row keeps is =
    quiet-step place touching.Rests h (CameIn pass page from_disk ∷ h) q row tt (open_of-came_in pass page from_disk h) (λ ended. touches-event (Some (CameIn pass page from_disk)) ended h q.page) is
row-step place (Some (WentOut pass page)) h q row keeps is =
    quiet-step place touching.Rests h (WentOut pass page ∷ h) q row tt (open_of-went_out pass page h) (λ ended. touches-event (Some (WentOut pass page)) ended h q.page) is
row-step place (Some (Began pass page)) h q row keeps is = began-step place pass page h q row (page == q.page) refl keeps is
row-step place (Some (Ended pass page how)) h q row keeps is = ended-step place pass page how h q row (page == q.page) (ended_ok how) refl refl keeps is
row-step place (Some (Synced pass how)) h q row keeps is =
    quiet-step place touching.Rests h (Synced pass how ∷ h) q row tt (open_of-synced pass how h) (λ ended. touches-event (Some (Synced pass how)) ended h q.page) is
