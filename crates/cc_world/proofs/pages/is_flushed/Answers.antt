-- Without a log nothing is to be flushed; the stream's log is among those that are given, and what it was flushed to is
-- what the past says.
use Rattle.std.specs.Prelude.{◌≡◌, ◌<◌, ℕ, Option, None, Some, length, slice_get, refl}
use Rattle.std.proofs.Common.{sym, ◌∙◌, subst, arith}
use Rattle.cc_model.specs.History.{history}
use Rattle.cc_model.specs.Settings.{log_of}
use Rattle.cc_world.proofs.Steps.{read-there}
use Rattle.cc_world.proofs.Tests.{log-within, reached, unlogged}
use Rattle.cc_world.proofs.pages.is_flushed.Goals as goal

none-is : (o : Option ℕ) → ((n : ℕ) → o ≡ Some n → ⊥) → o ≡ None
none-is None other = refl
none-is (Some n) other = absurd (other n refl)

pub bounds-logs-from : goal.bounds-logs-from
bounds-logs-from g c =
    let past = c.requires.0 in
    let is : log_of (history past c.args.book.now.stream) ≡ Some c.in-Some.handle = sym (c.log.ensures c.requires.1.0.0 past c.requires.1.0.1) ∙ c.in-Some.is in
    subst (λ n. n < length c.args.logs.now) (sym c.from.ensures) (log-within c.args.book.now.stream past c.args.logs.now c.in-Some.handle c.requires.1.1 is)

pub offset_bounds-logs-from : goal.offset_bounds-logs-from
offset_bounds-logs-from g c =
    let past = c.requires.0 in
    let is : log_of (history past c.args.book.now.stream) ≡ Some c.in-Some.handle = sym (c.log.ensures c.requires.1.0.0 past c.requires.1.0.1) ∙ c.in-Some.is in
    let within = log-within c.args.book.now.stream past c.args.logs.now c.in-Some.handle c.requires.1.1 is in
    omega (arith, c.from.ensures, within)

pub returns-in_default : goal.returns-in_default
returns-in_default g c opening past stands flushed =
    unlogged past (log_of (history past c.args.book.now.stream)) c.args.newest
    (sym (c.log.ensures opening past stands) ∙ none-is c.log.result c.in_default.not-Some)

pub returns : goal.returns
returns g c opening past stands flushed =
    let s = c.args.book.now.stream in
    let logs = c.args.logs.now in
    let is : log_of (history past s) ≡ Some c.in-Some.handle = sym (c.log.ensures opening past stands) ∙ c.in-Some.is in
    let within : c.from.result < length logs = subst (λ n. n < length logs) (sym c.from.ensures) (log-within s past logs c.in-Some.handle flushed is) in
    reached s past logs c.in-Some.handle c.in-Some-newest.lsn c.number.result c.flushed.result c.args.newest c.index-logs-from.result flushed is c.in-Some-newest.is c.number.ensures.same
    (subst (λ n. slice_get logs n ≡ Some c.index-logs-from.result) c.from.ensures (read-there logs c.from.result c.index-logs-from.result within c.index-logs-from.is))
    c.flushed.ensures.same
