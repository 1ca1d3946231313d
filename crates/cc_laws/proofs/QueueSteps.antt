-- How the queue of deferred writes and what the lazy writer's scans left step.
--
-- `cc_journal` keeps both, and cites it.
use Rattle.std.specs.Prelude.{◌≡◌, ℕ, suc, Bool, true, false, List, [], ◌∷◌, ◌++◌, length, drop, refl}
use Rattle.std.specs.declared.option.Option.TheVariants.{Some, None}
use Rattle.cc_entry.specs.Place.{Page, File}
use Rattle.cc_entry.specs.declared.entry.Entry.{Entry}
use Rattle.cc_entry.specs.declared.entry.Entry.TheVariants as entry
use Rattle.cc_entry.specs.declared.hold.Deferral.{Deferral}
use Rattle.cc_model.specs.Cache.{lazy_pages}
use Rattle.cc_model.specs.Pick.{last_total, last_of, cursor}
use Rattle.cc_model.specs.Throttle.{queue, deferred}

pub queue-deferred : (pass id : ℕ) (file : File) (pages : ℕ) (past : List Entry) → queue (entry.Defer pass id file pages false ∷ past) ≡ queue past ++ record { id = id; file = file; pages = pages } ∷ []
unfolding queue
queue-deferred pass id file pages past = refl

pub queue-retried : (pass id : ℕ) (file : File) (pages : ℕ) (past : List Entry) → queue (entry.Defer pass id file pages true ∷ past) ≡ record { id = id; file = file; pages = pages } ∷ queue past
unfolding queue
queue-retried pass id file pages past = refl

pub queue-posted : (id : ℕ) (past : List Entry) → queue (entry.Posted id ∷ past) ≡ drop 1 (queue past)
unfolding queue
queue-posted id past = refl

pub queue-posted_head : (id : ℕ) (past : List Entry) (head : Deferral) (rest : List Deferral) → queue past ≡ head ∷ rest → queue (entry.Posted id ∷ past) ≡ rest
unfolding queue
queue-posted_head id past head rest is = rw (is, queue) refl

pub deferred-deferred : (pass id : ℕ) (file : File) (pages : ℕ) (retrying : Bool) (past : List Entry) → deferred (entry.Defer pass id file pages retrying ∷ past) ≡ suc (deferred past)
unfolding deferred
deferred-deferred pass id file pages retrying past = refl

pub last_total-scan : (pass : ℕ) (picked : List Page) (past : List Entry) → last_total (entry.Scan pass picked ∷ past) ≡ length (lazy_pages past)
unfolding last_total
last_total-scan pass picked past = refl

pub cursor-scan_none : (pass : ℕ) (picked : List Page) (past : List Entry) → last_of picked ≡ None → cursor (entry.Scan pass picked ∷ past) ≡ cursor past
unfolding cursor
cursor-scan_none pass picked past none = rw (none, cursor) refl

pub cursor-scan : (pass : ℕ) (picked : List Page) (past : List Entry) (page : Page) → last_of picked ≡ Some page → cursor (entry.Scan pass picked ∷ past) ≡ Some page
unfolding cursor
cursor-scan pass picked past page last = rw (last, cursor) refl

-- the entries that change these
abbrev pub is_defer : Entry → Bool
is_defer (entry.Defer pass id file pages retrying) = true
is_defer other = false

abbrev pub is_defer_or_post : Entry → Bool
is_defer_or_post (entry.Defer pass id file pages retrying) = true
is_defer_or_post (entry.Posted id) = true
is_defer_or_post other = false

abbrev pub is_scan : Entry → Bool
is_scan (entry.Scan pass picked) = true
is_scan other = false

-- no other does
pub queue-other : (e : Entry) (past : List Entry) → is_defer_or_post e ≡ false → queue (e ∷ past) ≡ queue past
unfolding queue
queue-other (entry.Defer pass id file pages retrying) past kept = cc
queue-other (entry.Posted id) past kept = cc
queue-other other past kept = refl

pub deferred-other : (e : Entry) (past : List Entry) → is_defer e ≡ false → deferred (e ∷ past) ≡ deferred past
unfolding deferred
deferred-other (entry.Defer pass id file pages retrying) past kept = cc
deferred-other other past kept = refl

pub last_total-other : (e : Entry) (past : List Entry) → is_scan e ≡ false → last_total (e ∷ past) ≡ last_total past
unfolding last_total
last_total-other (entry.Scan pass picked) past kept = cc
last_total-other other past kept = refl

pub cursor-other : (e : Entry) (past : List Entry) → is_scan e ≡ false → cursor (e ∷ past) ≡ cursor past
unfolding cursor
cursor-other (entry.Scan pass picked) past kept = cc
cursor-other other past kept = refl
