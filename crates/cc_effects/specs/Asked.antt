-- Which page steps a call that is under way may take: which pages it brings in, reads, writes and takes out.
use Rattle.std.specs.Prelude.{ℕ, Bool, true, false, not, ◌&&◌, ◌||◌, ◌==◌, List, is_some}
use Rattle.std.specs.declared.option.Option.{Option}
use Rattle.std.specs.declared.option.Option.TheVariants.{Some, None}
use Rattle.std.specs.List.{list_any, list_all, find, range_with_len}
use Rattle.cc_entry.specs.Place.{File, Page, Range}
use Rattle.cc_entry.specs.Pages.{has_page, block_of, blocks_of}
use Rattle.cc_entry.specs.Queries.{extent_of_query}
use Rattle.cc_entry.specs.declared.call.Call.{Call}
use Rattle.cc_entry.specs.declared.call.Call.TheVariants as call
use Rattle.cc_entry.specs.declared.entry.Entry.{Entry}
use Rattle.cc_model.specs.Numbers.{is_among}
use Rattle.cc_model.specs.History.{Effect, history}
use Rattle.cc_model.specs.Acts.{file_of}
use Rattle.cc_model.specs.Holds.{holds_of, held_blocks}
use Rattle.cc_model.specs.Ranges.{range_of, span_has}
use Rattle.cc_model.specs.Touches.{size_of, dirty_pages}
use Rattle.cc_model.specs.Refusals.{step_refusal}
use Rattle.cc_model.specs.Settings.{quota_of}
use Rattle.cc_model.specs.Residency.{is_resident, block_is_mapped, mapped_block_count, order_of_use}
use Rattle.cc_model.specs.Passes.{store_of, is_same_page, is_the_page, is_written_since}

-- what is under way: a call that has an entry of its own, or the writing of pages that the lazy writer
-- picked or that were named one by one
pub data Work : Type 0 where
  Calls : (call : Call) → Work
  Writes : (pages : List Page) → Work

-- whether the file is one of the page's stream
abbrev pub is_file_of_page : Option File → Page → Bool
is_file_of_page None page = false
is_file_of_page (Some file) page = file.stream == page.stream

-- whether the range, where there is one, has the page
abbrev pub range_has : Option Range → ℕ → Bool
range_has None p = false
range_has (Some r) p = has_page r p

-- whether nothing refuses a call with page steps, as its stream stands
abbrev pub is_admitted : Call → ℕ → List Entry → Bool
is_admitted it s past = not (is_some (step_refusal (history past s) it))

-- whether a page is of the range of a call, as the stream stands
abbrev pub reaches : Call → Page → List Entry → Bool
reaches it page past =
    is_file_of_page (file_of it) page && range_has (range_of (size_of (history past page.stream)) it) page.page

-- Whether a call brings in pages of its range. A noncached call brings none in, nor does a read that may
-- not wait; the other calls have no range.
abbrev pub brings_in : Call → Bool
brings_in (call.CopyRead file at len wait) = wait
brings_in (call.CopyWrite file at bytes) = true
brings_in (call.Zero file span) = true
brings_in (call.Map file at len) = true
brings_in (call.PinRead file at len exclusive) = true
brings_in (call.PreparePin file at len zero exclusive) = true
brings_in (call.MdlRead file at len) = true
brings_in (call.MdlWrite file at len) = true
brings_in (call.AheadStep request) = true
brings_in (call.Query query) = is_some (extent_of_query query)
brings_in other = false

-- whether a call is a page of a noncached read
abbrev pub reads_noncached : Call → Bool
reads_noncached (call.NcRead file page) = true
reads_noncached other = false

-- Whether a call may give a block up to map another one: one that brings pages in, and a noncached write,
-- whose store makes its page resident. A noncached read maps no block.
abbrev pub makes_room : Call → Bool
makes_room (call.NcStore file page bytes) = true
makes_room (call.NcWrite file page) = true
makes_room other = brings_in other

-- The first block by last use that has no open hold and is no block of the range: the one to give up.
abbrev pub block_to_go : List Effect → Range → Option ℕ
block_to_go h r =
    find (λ b. not (is_among b (held_blocks (holds_of h))) && not (is_among b (blocks_of r))) (order_of_use h)

-- whether a number is the one that may be there
abbrev pub is_number : ℕ → Option ℕ → Bool
is_number n None = false
is_number n (Some m) = m == n

-- Whether a page has to go so that a block of the range can be mapped: as many blocks as the quota are
-- mapped, a block of the range is not, and the page lies in the block to give up.
abbrev pub goes_for : List Effect → Option Range → ℕ → Bool
goes_for h None p = false
goes_for h (Some r) p =
    mapped_block_count h == quota_of h
    && (list_any (λ b. not (block_is_mapped h b)) (blocks_of r) && is_number (block_of p) (block_to_go h r))

-- whether a page goes, or is written before it goes, to make room for a call that nothing refuses
abbrev pub is_in_the_way : Call → Page → List Entry → Bool
is_in_the_way it page past =
    makes_room it
    && (is_file_of_page (file_of it) page
    && (is_admitted it page.stream past
    && (let h = history past page.stream in goes_for h (range_of (size_of h) it) page.page)))

-- Whether the writing of a page is what a call asks for: a flush and a purge write the pages of their
-- span, and a noncached read its page. A noncached write stores its page and puts that on the disk; before the
-- store it writes none but to make room.
abbrev pub names_write : Call → Page → List Entry → Bool
names_write (call.Flush file span) page past = file.stream == page.stream && span_has span page.page
names_write (call.Purge file span) page past = file.stream == page.stream && span_has span page.page
names_write (call.NcRead file number) page past = reaches (call.NcRead file number) page past
names_write other page past = false

-- and nothing refuses it
abbrev pub asks_write : Call → Page → List Entry → Bool
asks_write it page past = is_admitted it page.stream past && names_write it page past

-- whether a page is the one that a noncached write stores, which nothing refuses, and whose log is flushed before
abbrev pub stores : Work → Page → List Entry → Bool
stores (Calls (call.NcStore file number bytes)) page past =
    is_admitted (call.NcStore file number bytes) page.stream past && reaches (call.NcStore file number bytes) page past
stores (Calls (call.NcWrite file number)) page past =
    is_admitted (call.NcWrite file number) page.stream past && reaches (call.NcWrite file number) page past
stores (Calls other) page past = false
stores (Writes pages) page past = false

-- whether what is under way may write a page: to make room, or since it is asked for
abbrev pub may_write : Work → Page → List Entry → Bool
may_write (Calls it) page past = is_in_the_way it page past || asks_write it page past
may_write (Writes pages) page past = list_any (is_same_page page) pages

-- Whether a page is the next to go of those that go together: all of them are written, and no lesser one is
-- resident.
abbrev pub goes_next : List Effect → (ℕ → Bool) → ℕ → Bool
goes_next h together p =
    list_all (λ q. not (together q)) (dirty_pages h)
    && list_all (λ q. not (together q && is_resident h q)) (range_with_len 0 p)

-- Whether a page's going out is what a call of the pass asks for: a purge that nothing refuses takes out the pages of its
-- span, and a noncached write the page that it stored, once that is on the disk, whatever refuses it meanwhile.
abbrev pub asks_out : ℕ → Call → Page → List Entry → Bool
asks_out me (call.Purge file span) page past =
    is_admitted (call.Purge file span) page.stream past
    && ((file.stream == page.stream && span_has span page.page)
    && goes_next (history past page.stream) (λ q. span_has span q) page.page)
asks_out me (call.NcWrite file number) page past =
    (file.stream == page.stream && number == page.page)
    && (is_the_page page (store_of past me) && is_written_since past me page)
asks_out me other page past = false

-- whether a page goes now to make room for a call, as the next of its block
abbrev pub makes_way : Call → Page → List Entry → Bool
makes_way it page past =
    is_in_the_way it page past
    && goes_next (history past page.stream) (λ q. block_of q == block_of page.page) page.page

-- whether what is under way may take a page out
abbrev pub may_take_out : ℕ → Work → Page → List Entry → Bool
may_take_out me (Calls it) page past = makes_way it page past || asks_out me it page past
may_take_out me (Writes pages) page past = false

-- whether what is under way may bring a page in: one of the range as it is now, where nothing refuses the call
abbrev pub may_bring_in : Work → Page → List Entry → Bool
may_bring_in (Calls it) page past = brings_in it && (is_admitted it page.stream past && reaches it page past)
may_bring_in (Writes pages) page past = false

-- whether what is under way may sync the disk of the stream
abbrev pub may_sync : Work → ℕ → Bool
may_sync (Calls (call.Flush file span)) s = file.stream == s
may_sync (Calls other) s = false
may_sync (Writes pages) s = false
