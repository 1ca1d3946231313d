-- The throttle: which writes may go, and which are deferred (CcCanIWrite, CcDeferWrite).
use Rattle.std.specs.Prelude.{ℕ, suc, ◌+◌, ◌/◌, Bool, ◌&&◌, ◌||◌, ◌==◌, nat_lt, List, [], ◌∷◌, ◌++◌, drop, if◌then◌else◌}
use Rattle.cc_entry.specs.declared.entry.Entry.{Entry}
use Rattle.cc_entry.specs.declared.entry.Entry.TheVariants as entry
use Rattle.cc_entry.specs.declared.hold.Deferral.{Deferral}
use Rattle.cc_model.specs.Setup.{Setup}
use Rattle.cc_model.specs.History.{history}
use Rattle.cc_model.specs.Settings.{threshold_of}
use Rattle.cc_model.specs.Cache.{dirty_total, dirty_count}

-- the pages that a write of so many bytes counts: one for each 4096 begun
abbrev pub pages_for : ℕ → ℕ
pages_for bytes = (bytes + 4095) / 4096

-- Whether a write of n pages to the stream may go: the dirty pages of all streams with them stay below
-- the cache's threshold, and those of the stream below its own, where it has one.
unfoldable pub may_go : Setup → List Entry → ℕ → ℕ → Bool
may_go u past s n =
    let own = threshold_of (history past s) in
    nat_lt (dirty_total past + n) u.threshold && (own == 0 || nat_lt (dirty_count (history past s) + n) own)

-- The queue of deferred writes, its head first: one that is tried again goes to the head, any other to
-- the tail, and a post takes the head.
unfoldable pub queue : List Entry → List Deferral
queue [] = []
queue (entry.Defer pass id file pages retrying ∷ past) =
    let deferral : Deferral = record { id = id; file = file; pages = pages } in
    if retrying then deferral ∷ queue past else queue past ++ deferral ∷ []
queue (entry.Posted id ∷ past) = drop 1 (queue past)
queue (other ∷ past) = queue past

-- how many writes were ever deferred
unfoldable pub deferred : List Entry → ℕ
deferred [] = 0
deferred (entry.Defer pass id file pages retrying ∷ past) = suc (deferred past)
deferred (other ∷ past) = deferred past
