-- Owed a stamp, or without room for its view block, a page may not be stored; any other, if whole, may where its log is
-- flushed to its newest LSN, of which a page without a row in the table has none.
use Rattle.std.specs.Prelude.{◌≡◌, ℕ, true, nat_le, None, Option}
use Rattle.std.proofs.Common.{ap, sym, ◌∙◌, subst}
use Rattle.std.proofs.lemmas.Bool.{le-leb}
use Rattle.cc_model.specs.Covered.{FlushedUpTo}
use Rattle.cc_model.specs.History.{history}
use Rattle.cc_model.specs.Images.{open_of}
use Rattle.cc_model.specs.Residency.{mapped_blocks_with}
use Rattle.cc_model.specs.Settings.{log_of, quota_of}
use Rattle.cc_model.specs.Stamps.{is_unstamped, newest_of}
use Rattle.cc_world.specs.Pages.{Says}
use Rattle.cc_world.proofs.Stores.{newest-none, stores, unstamped-log}
use Rattle.cc_world.proofs.Tests.{clash, newest-there}
use Rattle.cc_world.proofs.pages.may_store.Goals as goal

pub returns-then-is_unstamped : goal.returns-then-is_unstamped
returns-then-is_unstamped g c opening stands none may =
    let past = c.args.journal.now.entries in
    let h = history past c.args.book.now.stream in
    let owed : is_unstamped h c.args.page.page ≡ true =
    ap (λ (p : ℕ). is_unstamped h p) (sym c.page.ensures.same) ∙ (sym (c.is_unstamped.ensures opening past stands) ∙ c.if-is_unstamped.true) in
    clash (sym owed ∙ may.logged.stamped)

pub returns-then-not-has_room : goal.returns-then-not-has_room
returns-then-not-has_room g c opening stands none may =
    let past = c.args.journal.now.entries in
    let h = history past c.args.book.now.stream in
    let p = c.args.page.page in
    clash (sym (le-leb (mapped_blocks_with h p) (quota_of h) may.in_quota)
    ∙ (ap (λ (n : ℕ). nat_le (mapped_blocks_with h n) (quota_of h)) (sym c.page-2.ensures.same)
    ∙ (sym (c.has_room.ensures opening past stands) ∙ c.if-not-has_room.true)))

pub returns-in-Some : goal.returns-in-Some
returns-in-Some g c opening stands none =
    let past = c.args.journal.now.entries in
    let s = c.args.book.now.stream in
    let h = history past s in
    let p = c.args.page.page in
    let newest : c.newest_later.result ≡ newest_of h p =
    c.newest_later.ensures
    ∙ (newest-there past c.args.page c.dirty.result.now.rows c.in-Some.row c.dirty.ensures.follows
    (sym c.row_of.ensures.row ∙ c.in-Some.is) (ap (λ (n : ℕ). open_of (history past n)) c.requires.stream ∙ none)
    ∙ ap (λ (n : ℕ). newest_of (history past n) p) c.requires.stream) in
    stores past s p c.args.bytes.now c.is_flushed.result (sym c.len.ensures ∙ c.if-len-ne4096.false)
    (ap (λ (n : ℕ). is_unstamped h n) (sym c.page.ensures.same) ∙ (sym (c.is_unstamped.ensures opening past stands) ∙ c.if-is_unstamped.false))
    (sym c.if-not-has_room.false ∙ (c.has_room.ensures opening past stands ∙ ap (λ (n : ℕ). nat_le (mapped_blocks_with h n) (quota_of h)) c.page-2.ensures.same))
    none
    (subst (λ (lsn : Option ℕ). Says c.is_flushed.result (FlushedUpTo past (log_of h) lsn)) newest (c.is_flushed.ensures opening past stands c.requires.logs.1))

pub returns-in-None : goal.returns-in-None
returns-in-None g c opening stands none =
    let past = c.args.journal.now.entries in
    let s = c.args.book.now.stream in
    let h = history past s in
    let p = c.args.page.page in
    let newest : newest_of h p ≡ None =
    ap (λ (n : ℕ). newest_of (history past n) p) (sym c.requires.stream)
    ∙ newest-none past c.args.page c.dirty.result.now.rows c.dirty.ensures.follows (sym c.row_of.ensures.row ∙ c.in-None.is) in
    stores past s p c.args.bytes.now true (sym c.len.ensures ∙ c.if-len-ne4096.false)
    (ap (λ (n : ℕ). is_unstamped h n) (sym c.page.ensures.same) ∙ (sym (c.is_unstamped.ensures opening past stands) ∙ c.if-is_unstamped.false))
    (sym c.if-not-has_room.false ∙ (c.has_room.ensures opening past stands ∙ ap (λ (n : ℕ). nat_le (mapped_blocks_with h n) (quota_of h)) c.page-2.ensures.same))
    none (unstamped-log past (log_of h) (newest_of h p) newest)
