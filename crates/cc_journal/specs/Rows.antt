-- How the rows of the dirty page table stand for a past: each page's row says what is unwritten of it, and
-- what of that an open transfer took.
use Rattle.std.specs.Prelude.{◌≡◌, ℕ, suc, Bool, true, false, ◌==◌, nat_le, List, [], ◌∷◌, length, count_by, Option, None, Some, if◌then◌else◌}
use Rattle.std.specs.List.{range_with_len}
use Rattle.std.specs.Option.{option_map, option_and_then}
use Rattle.cc_entry.specs.Place.{Page, Range}
use Rattle.cc_entry.specs.Pages.{pages_of}
use Rattle.cc_entry.specs.declared.entry.Entry.{Entry}
use Rattle.cc_dirty.specs.declared.row.Unwritten.{Unwritten}
use Rattle.cc_dirty.specs.declared.row.Row.{Row}
use Rattle.cc_dirty.specs.Unwritten.{nothing_unwritten, lower, joined_unwritten, touched_row, begun_row, ended_row, kept_row}
use Rattle.cc_dirty.specs.Table.{row_of}
use Rattle.cc_events.specs.declared.event.StreamEvent.{StreamEvent}
use Rattle.cc_events.specs.declared.event.StreamEvent.TheVariants as event
use Rattle.cc_events.specs.declared.touching.Touching.{Touching}
use Rattle.cc_events.specs.declared.touching.Touching.TheVariants as touching
use Rattle.cc_events.specs.Touchings.{touching_of}
use Rattle.cc_model.specs.History.{Effect, history}
use Rattle.cc_model.specs.Sizes.{Touch}
use Rattle.cc_model.specs.Touches.{touches, unwritten}
use Rattle.cc_model.specs.Images.{Transfer, open_of}
use Rattle.cc_model.specs.Stamps.{lsns_among}

-- the place in the journal of a stream's effect of this number: how many entries there were with it
abbrev pub journal_place : List Entry → ℕ → ℕ → ℕ
journal_place [] s number = 0
journal_place (e ∷ past) s number =
    if nat_le number (length (history past s)) then journal_place past s number else suc (length past)

-- the least place of these touches, given the place of each effect
abbrev pub oldest_among : (ℕ → ℕ) → List Touch → Option ℕ
oldest_among place [] = None
oldest_among place (touch ∷ touches) = lower (Some (place touch.place)) (oldest_among place touches)

-- the place in the journal of the oldest touch of a page that is neither written nor cut
abbrev pub oldest_unwritten : List Entry → Page → Option ℕ
oldest_unwritten past q = oldest_among (journal_place past q.stream) (unwritten (history past q.stream) q.page)

-- what is unwritten where these touches are: the least of their places, and the least and greatest of their LSNs
abbrev pub summary : (ℕ → ℕ) → List Touch → Unwritten
summary place touches = record { oldest = oldest_among place touches; lsns = lsns_among touches }

-- whether a page is the one of the transfer, where there is one
abbrev pub is_under_way : Option Transfer → ℕ → Bool
is_under_way None p = false
is_under_way (Some transfer) p = transfer.page == p

-- what an open transfer took of a page, and what was touched since; nothing where the page has no row
abbrev pub begun_in : Option Row → Unwritten
begun_in None = nothing_unwritten
begun_in (Some row) = row.begun

abbrev pub later_in : Option Row → Unwritten
later_in None = nothing_unwritten
later_in (Some row) = row.later

-- A row stands for a page, given the place of each effect: both parts together are what is unwritten. While the page's
-- transfer is open, the later part is what a good end would leave; else nothing is begun.
pub record IsRowOf (place : ℕ → ℕ) (h : List Effect) (p : ℕ) (row : Option Row) : Type 0 where
  pub unwritten : joined_unwritten (begun_in row) (later_in row) ≡ summary place (touches false h p)
  pub under_way : is_under_way (open_of h) p ≡ true → later_in row ≡ summary place (touches true h p)
  pub at_rest : is_under_way (open_of h) p ≡ false → begun_in row ≡ nothing_unwritten

-- the rows stand for a past: each page has its row
abbrev pub Follows : List Entry → List Row → Type 0
Follows past rows = (q : Page) → IsRowOf (journal_place past q.stream) (history past q.stream) q.page (row_of rows q)

-- the row of a page after what befell its touches at a place
abbrev pub row_after : ℕ → Touching → Page → Option Row → Option Row
row_after place touching.Rests q row = row
row_after place (touching.Touches lsn) q row = Some (touched_row q place lsn row)
row_after place touching.Cuts q row = None
row_after place touching.Begins q row = option_map begun_row row
row_after place touching.Ends q row = row

-- the row of a page of the stream after an event at a place, given the stream before it
abbrev pub row_by : ℕ → StreamEvent → List Effect → Page → Option Row → Option Row
row_by place (event.Ended page ok) h q row = if page == q.page then option_and_then (λ r. kept_row (ended_row ok r)) row else row
row_by place other h q row = row_after place (touching_of other h q.page) q row

-- an event keeps one transfer at a time: one begins where none is open, and the open one ends
abbrev pub KeepsTransfers : StreamEvent → List Effect → Type 0
KeepsTransfers (event.Began page) h = open_of h ≡ None
KeepsTransfers (event.Ended page ok) h = is_under_way (open_of h) page ≡ true
KeepsTransfers other h = Unit {0}

-- whether a page has no row
abbrev pub is_absent : List Row → Page → Bool
is_absent rows page = elim (row_of rows page) [ None ↦ true | Some row ↦ false ]

-- how many pages of a range have no row yet
abbrev pub absent_count : List Row → ℕ → Range → ℕ
absent_count rows stream range = count_by (λ p. is_absent rows (record { stream = stream; page = p })) (pages_of range)

-- how many of n pages from a number on have no row yet
abbrev pub absent_count_from : List Row → ℕ → ℕ → ℕ → ℕ
absent_count_from rows stream from n = count_by (λ p. is_absent rows (record { stream = stream; page = p })) (range_with_len from n)

-- something befell the touches of each page of one stream at a place, and nothing those of others
abbrev pub ChangesRows : ℕ → ℕ → (ℕ → Touching) → List Row → List Row → Type 0
ChangesRows place stream what old new =
    (q : Page) → row_of new q ≡ (if q.stream == stream then row_after place (what q.page) q (row_of old q) else row_of old q)
