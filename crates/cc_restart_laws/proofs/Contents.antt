-- What a byte of an updated stream is, and its valid data length.
use Rattle.std.specs.Prelude.{◌≡◌, ℕ, ◌+◌, ◌-◌, ◌/◌, ◌%◌, ◌<◌, ◌≤◌, ◌⊎◌, Bool, true, false, not, nat_lt, List, [], ◌∷◌, ◌++◌, length, max, slice_index, refl, if◌then◌else◌}
use Rattle.std.specs.declared.option.Option.{Option}
use Rattle.std.specs.declared.option.Option.TheVariants.{Some, None}
use Rattle.std.proofs.Common.{ap, sym, subst, ◌∙◌, inl, inr, arith}
use Rattle.std.proofs.lemmas.Bool.{eq-eqb, ltb-true, ltb-false, or_left}
use Rattle.cc_entry.specs.Pages.{has_byte, has_page}
use Rattle.cc_entry.specs.Place.{Range}
use Rattle.cc_entry.specs.declared.call.Call.{Call}
use Rattle.cc_entry.specs.declared.call.Call.TheVariants as call
use Rattle.cc_entry.specs.declared.entry.Entry.{Entry}
use Rattle.cc_entry.specs.declared.entry.Entry.TheVariants as entry
use Rattle.cc_entry.specs.declared.reply.Outcome.TheVariants as outcome
use Rattle.cc_entry.specs.declared.reply.Reply.{Reply}
use Rattle.cc_effects.specs.Moments.{Others}
use Rattle.cc_laws.proofs.ByteSteps.{content-opens, content-closes, content-writes_covered, content-writes_past, content-stamps, content-looks, content-came_in, content-went_out, content-began, content-ended, content-synced}
use Rattle.cc_laws.proofs.CoveredBytes.{has_byte-between, has_page-byte}
use Rattle.cc_laws.proofs.HistorySteps.{history-effect, history-grown}
use Rattle.cc_laws.proofs.Lists1.{among-not_empty}
use Rattle.cc_laws.proofs.SizeSteps.{sizes-opens_mapped, sizes-closes_kept, sizes-writes, sizes-stamps, sizes-looks, sizes-came_in, sizes-went_out, sizes-began, sizes-ended, sizes-synced}
use Rattle.cc_laws.proofs.Steady.{BeginsWithin, IsSteady}
use Rattle.cc_laws.proofs.SteadyPasts.{IsSteady-good}
use Rattle.cc_model.specs.Acts.{Act, act_of, Opens, Closes, Resizes, Writes, Zeroes, Stores, Stamps, Discards, Looks}
use Rattle.cc_model.specs.Bytes.{content}
use Rattle.cc_model.specs.Good.{IsGoodSoFar}
use Rattle.cc_model.specs.History.{Effect, Did, CameIn, WentOut, Began, Ended, Synced, effect_of, history}
use Rattle.cc_model.specs.Numbers.{is_among, is_empty}
use Rattle.cc_model.specs.Objects.{had_map, objects}
use Rattle.cc_model.specs.Passes.{is_mine}
use Rattle.cc_model.specs.Records.{first_valid}
use Rattle.cc_model.specs.Setup.{Setup}
use Rattle.cc_model.specs.Sizes.{Sizes, raised}
use Rattle.cc_model.specs.Touches.{is_mapped, size_of, sizes, valid_of}
use Rattle.cc_records.proofs.FirstMaps.{valid-never, valid-opened}
use Rattle.cc_records.proofs.Settling.{first-stays, had-stays}
use Rattle.cc_restart_laws.proofs.Entries.{IsCall, call-effect, did-entry, good-tail, updated-head, updated-tail}
use Rattle.cc_restart_laws.proofs.Orders.{IsChange, IsChangeBy, order-of}
use Rattle.cc_restart_laws.proofs.Records.{range_of}
use Rattle.cc_restart_laws.proofs.Stamped.{no-truncation}
use Rattle.cc_restart_laws.specs.Updates.{HasRecord, IsUpdate, IsUpdated, IsUpdatedBy, MayActByUpdate, MayDoByUpdate, Updating}

clash : true ≡ false → ⊥
clash is = absurd (cc)

-- ---- a place has one record

abbrev lsn_given : Entry → ℕ
lsn_given (entry.Append pass handle lsn bytes) = lsn
lsn_given other = 0

abbrev last_lsn : ℕ → List Entry → ℕ
last_lsn me [] = 0
last_lsn me (e ∷ past) = if is_mine me e then lsn_given e else last_lsn me past

last-of : (me log lsn : ℕ) (bytes : List ℕ) (front during : List Entry) → Others me during → last_lsn me (during ++ entry.Append me log lsn bytes ∷ front) ≡ lsn
last-of me log lsn bytes front [] others = rw (eq-eqb me me refl) refl
last-of me log lsn bytes front (e ∷ during) others = rw others.0 (last-of me log lsn bytes front during others.1)

last-record : (s log : ℕ) (it : Updating) (past : List Entry) → HasRecord s log it past → last_lsn it.pass past ≡ it.lsn
last-record s log it past k = ap (last_lsn it.pass) k.idle.grew ∙ last-of it.pass log it.lsn k.spelled k.front k.idle.during k.idle.others

record-once : (s log : ℕ) (a b : Updating) (past : List Entry) → HasRecord s log a past → HasRecord s log b past → a.pass ≡ b.pass → a.lsn ≡ b.lsn
record-once s log a b past one other same = sym (last-record s log a past one) ∙ (ap (λ (n : ℕ). last_lsn n past) same ∙ last-record s log b past other)

-- ---- the last change that covers a byte decides it

pub record IsOpening (pages : ℕ → List ℕ) (s log : ℕ) (past : List Entry) (i : ℕ) : Type 0 where
  pub is : content pages (history past s) i ≡ slice_index (pages (i / 4096)) (i % 4096)
  pub none : (other : Updating) → IsChange s log other past → has_byte (range_of other) i ≡ true → ⊥

pub record IsDecidedBy (pages : ℕ → List ℕ) (s log : ℕ) (past : List Entry) (i : ℕ) : Type 0 where
  pub it : Updating
  pub change : IsChange s log it past
  pub covers : has_byte (range_of it) i ≡ true
  pub is : content pages (history past s) i ≡ slice_index it.bytes (i - it.at)
  pub last : (other : Updating) → IsChange s log other past → has_byte (range_of other) i ≡ true → other.lsn ≤ it.lsn

abbrev pub IsDecided : (ℕ → List ℕ) → ℕ → ℕ → List Entry → ℕ → Type 0
IsDecided pages s log past i = IsOpening pages s log past i ⊎ IsDecidedBy pages s log past i

by-effect : (s log : ℕ) (it : Updating) (past : List Entry) (e : Entry) (by : IsChangeBy s log it past e) → effect_of e s ≡ Some (Did it.pass (call.PinnedWrite it.hold it.at it.bytes) by.reply)
by-effect s log it past e by = ap (λ (x : Entry). effect_of x s) by.is ∙ call-effect it.pass by.nth s (call.PinnedWrite it.hold it.at it.bytes) by.reply

abbrev is_did : Effect → Bool
is_did (Did pass it reply) = true
is_did (CameIn pass page from_disk) = false
is_did (WentOut pass page) = false
is_did (Began pass page) = false
is_did (Ended pass page how) = false
is_did (Synced pass how) = false

some-is : {A : Type 0} (a b : A) → Some a ≡ Some b → a ≡ b
some-is a b is = cc

some-none : {A : Type 0} (b : A) → None ≡ Some b → ⊥
some-none b is = cc

no-change : (s log : ℕ) (past : List Entry) (e : Entry) (x : Effect) → effect_of e s ≡ Some x → is_did x ≡ false → (it : Updating) → IsChangeBy s log it past e → ⊥
no-change s log past e x effect not_did it by =
    clash (sym (ap is_did (some-is x (Did it.pass (call.PinnedWrite it.hold it.at it.bytes) by.reply) (sym effect ∙ by-effect s log it past e by))) ∙ not_did)

abbrev is_writes : Act → Bool
is_writes (Writes at bytes) = true
is_writes (Opens file given quota temporary) = false
is_writes (Closes file truncate) = false
is_writes (Resizes allocation size) = false
is_writes (Zeroes from to) = false
is_writes (Stores page bytes) = false
is_writes (Stamps hold lsn) = false
is_writes (Discards span) = false
is_writes Looks = false

call-is : (pass p : ℕ) (it c : Call) (reply r : Reply) → Did p c r ≡ Did pass it reply → c ≡ it
call-is pass p it c reply r is = cc

no-write : (s log : ℕ) (past : List Entry) (e : Entry) (pass : ℕ) (c : Call) (reply : Reply) (a : Act) → effect_of e s ≡ Some (Did pass c reply) → act_of c ≡ a → is_writes a ≡ false → (it : Updating) → IsChangeBy s log it past e → ⊥
no-write s log past e pass c reply a effect is_a not_writes it by =
    let same = call-is it.pass pass (call.PinnedWrite it.hold it.at it.bytes) c by.reply reply (some-is (Did pass c reply) (Did it.pass (call.PinnedWrite it.hold it.at it.bytes) by.reply) (sym effect ∙ by-effect s log it past e by)) in
    clash (sym (ap is_writes (ap act_of same)) ∙ (ap is_writes is_a ∙ not_writes))

decided-same : (pages : ℕ → List ℕ) (s log : ℕ) (past : List Entry) (e : Entry) (i : ℕ) → content pages (history (e ∷ past) s) i ≡ content pages (history past s) i → ((it : Updating) → IsChangeBy s log it past e → ⊥) →
    IsDecided pages s log past i → IsDecided pages s log (e ∷ past) i
decided-same pages s log past e i same none (inl k) = inl (record { is = same ∙ k.is; none = λ other is covers. go other is covers })
  where
    go : (other : Updating) → IsChange s log other (e ∷ past) → has_byte (range_of other) i ≡ true → ⊥
    go other (inl by) covers = none other by
    go other (inr before) covers = k.none other before covers
decided-same pages s log past e i same none (inr k) = inr (record { it = k.it; change = inr k.change; covers = k.covers; is = same ∙ k.is; last = λ other is covers. go other is covers })
  where
    go : (other : Updating) → IsChange s log other (e ∷ past) → has_byte (range_of other) i ≡ true → other.lsn ≤ k.it.lsn
    go other (inl by) covers = absurd (none other by)
    go other (inr before) covers = k.last other before covers

-- the pinned write of an update
module _ (u : Setup) (pages : ℕ → List ℕ) (s log : ℕ) (past : List Entry) (e : Entry) (pass : ℕ) (c : Call) (reply : Reply) (effect : effect_of e s ≡ Some (Did pass c reply)) (good : IsGoodSoFar u past)
    (its : IsUpdate s log past pass c) (i : ℕ) where
  abbrev it : Updating
  it = its.it

  entry-is : IsCall e s pass c reply
  entry-is = did-entry e s pass c reply effect

  same-entry : (nth : ℕ) → entry.Call pass nth (Some s) c (outcome.Done reply) ≡ entry.Call it.pass nth (Some s) (call.PinnedWrite it.hold it.at it.bytes) (outcome.Done reply)
  same-entry nth = ap (λ (n : ℕ). entry.Call n nth (Some s) c (outcome.Done reply)) (sym its.mine) ∙ ap (λ (x : Call). entry.Call it.pass nth (Some s) x (outcome.Done reply)) its.is

  pub by-its : IsChangeBy s log it past e
  by-its = record { nth = entry-is.nth; reply = reply; is = entry-is.is ∙ same-entry entry-is.nth; recorded = its.recorded }

  pub act-its : act_of c ≡ Writes it.at it.bytes
  act-its = ap act_of its.is

  pub now-its : history (e ∷ past) s ≡ Did pass c reply ∷ history past s
  now-its = history-effect e past s (Some (Did pass c reply)) effect

  parts : (other : Updating) (other_reply : Reply) → Did pass c reply ≡ Did other.pass (call.PinnedWrite other.hold other.at other.bytes) other_reply → other.pass ≡ pass
  parts other other_reply is = cc

  at-same : (a b : ℕ) (x y : List ℕ) (m n : ℕ) → call.PinnedWrite m a x ≡ call.PinnedWrite n b y → a ≡ b
  at-same a b x y m n is = cc

  bytes-same : (a b : ℕ) (x y : List ℕ) (m n : ℕ) → call.PinnedWrite m a x ≡ call.PinnedWrite n b y → x ≡ y
  bytes-same a b x y m n is = cc

  other-is : (other : Updating) (by : IsChangeBy s log other past e) → Did pass c reply ≡ Did other.pass (call.PinnedWrite other.hold other.at other.bytes) by.reply
  other-is other by = some-is (Did pass c reply) (Did other.pass (call.PinnedWrite other.hold other.at other.bytes) by.reply) (sym effect ∙ by-effect s log other past e by)

  other-call : (other : Updating) (by : IsChangeBy s log other past e) → call.PinnedWrite it.hold it.at it.bytes ≡ call.PinnedWrite other.hold other.at other.bytes
  other-call other by = sym its.is ∙ call-is other.pass pass (call.PinnedWrite other.hold other.at other.bytes) c by.reply reply (other-is other by)

  other-range : (other : Updating) (by : IsChangeBy s log other past e) → has_byte (range_of it) i ≡ has_byte (range_of other) i
  other-range other by =
      ap (λ (n : ℕ). has_byte (record { from = n; to = n + length it.bytes }) i) (at-same it.at other.at it.bytes other.bytes it.hold other.hold (other-call other by))
      ∙ ap (λ (l : List ℕ). has_byte (record { from = other.at; to = other.at + length l }) i) (bytes-same it.at other.at it.bytes other.bytes it.hold other.hold (other-call other by))

  other-lsn : (other : Updating) (by : IsChangeBy s log other past e) → other.lsn ≤ it.lsn
  other-lsn other by =
      let same : other.lsn ≡ it.lsn = record-once s log other it past by.recorded its.recorded (parts other by.reply (other-is other by) ∙ sym its.mine) in
      omega (arith, same)

  page-of : (r : Range) → has_byte r i ≡ true → has_page r (i / 4096) ≡ true
  page-of r has = has_page-byte r (i / 4096) i (omega arith) (omega arith) has

  last-lsn : has_byte (range_of it) i ≡ true → (other : Updating) → IsChange s log other (e ∷ past) → has_byte (range_of other) i ≡ true → other.lsn ≤ it.lsn
  last-lsn has other (inl by) covers = other-lsn other by
  last-lsn has other (inr before) covers = order-of u s log it past good its.recorded other (i / 4096) (page-of (range_of it) has) (page-of (range_of other) covers) before

  decided-writes : (b : Bool) → has_byte (range_of it) i ≡ b → IsDecided pages s log past i → IsDecided pages s log (e ∷ past) i
  decided-writes true has k = inr (record {
    it = it;
    change = inl by-its;
    covers = has;
    is = ap (λ (h : List Effect). content pages h i) now-its ∙ content-writes_covered pages {at = it.at} {bytes = it.bytes} pass c reply (history past s) i act-its has;
    last = last-lsn has;
  })
  decided-writes false none (inl k) = inl (record {
    is = ap (λ (h : List Effect). content pages h i) now-its ∙ (content-writes_past pages {at = it.at} {bytes = it.bytes} pass c reply (history past s) i act-its none ∙ k.is);
    none = λ other is covers. go other is covers;
  })
    where
      go : (other : Updating) → IsChange s log other (e ∷ past) → has_byte (range_of other) i ≡ true → ⊥
      go other (inl by) covers = clash (sym covers ∙ (sym (other-range other by) ∙ none))
      go other (inr before) covers = k.none other before covers
  decided-writes false none (inr k) = inr (record {
    it = k.it;
    change = inr k.change;
    covers = k.covers;
    is = ap (λ (h : List Effect). content pages h i) now-its ∙ (content-writes_past pages {at = it.at} {bytes = it.bytes} pass c reply (history past s) i act-its none ∙ k.is);
    last = λ other is covers. go other is covers;
  })
    where
      go : (other : Updating) → IsChange s log other (e ∷ past) → has_byte (range_of other) i ≡ true → other.lsn ≤ k.it.lsn
      go other (inl by) covers = absurd (clash (sym covers ∙ (sym (other-range other by) ∙ none)))
      go other (inr before) covers = k.last other before covers

may-do : (s log : ℕ) (e : Entry) (past : List Entry) (pass : ℕ) (c : Call) (reply : Reply) → effect_of e s ≡ Some (Did pass c reply) → IsUpdated s log (e ∷ past) → MayDoByUpdate s log past pass c
may-do s log e past pass c reply effect updated =
    let k = did-entry e s pass c reply effect in
    let by : IsUpdatedBy s log past (entry.Call pass k.nth (Some s) c (outcome.Done reply)) = subst (λ (x : Entry). IsUpdatedBy s log past x) k.is (updated-head s log e past updated).by in
    by refl

module _ (u : Setup) (pages : ℕ → List ℕ) (s log i : ℕ) where
  decided-did : (past : List Entry) (e : Entry) (pass : ℕ) (c : Call) (reply : Reply) → effect_of e s ≡ Some (Did pass c reply) → IsGoodSoFar u past → (a : Act) → act_of c ≡ a → MayActByUpdate s log past pass c a → IsDecided pages s log past i →
      IsDecided pages s log (e ∷ past) i
  decided-did past e pass c reply effect good (Opens file given quota temporary) a acts k =
      decided-same pages s log past e i (ap (λ (h : List Effect). content pages h i) (history-effect e past s (Some (Did pass c reply)) effect) ∙ content-opens pages pass c reply (history past s) i a)
      (no-write s log past e pass c reply (Opens file given quota temporary) effect a refl) k
  decided-did past e pass c reply effect good (Closes file truncate) a acts k =
      decided-same pages s log past e i (ap (λ (h : List Effect). content pages h i) (history-effect e past s (Some (Did pass c reply)) effect) ∙ content-closes pages pass c reply (history past s) i a)
      (no-write s log past e pass c reply (Closes file truncate) effect a refl) k
  decided-did past e pass c reply effect good (Resizes allocation size) a acts k = absurd acts
  decided-did past e pass c reply effect good (Writes at bytes) a acts k = decided-writes u pages s log past e pass c reply effect good acts i (has_byte (range_of acts.it) i) refl k
  decided-did past e pass c reply effect good (Zeroes from to) a acts k = absurd acts
  decided-did past e pass c reply effect good (Stores page bytes) a acts k = absurd acts
  decided-did past e pass c reply effect good (Stamps hold lsn) a acts k =
      decided-same pages s log past e i (ap (λ (h : List Effect). content pages h i) (history-effect e past s (Some (Did pass c reply)) effect) ∙ content-stamps pages pass c reply (history past s) i a)
      (no-write s log past e pass c reply (Stamps hold lsn) effect a refl) k
  decided-did past e pass c reply effect good (Discards span) a acts k = absurd acts
  decided-did past e pass c reply effect good Looks a acts k =
      decided-same pages s log past e i (ap (λ (h : List Effect). content pages h i) (history-effect e past s (Some (Did pass c reply)) effect) ∙ content-looks pages pass c reply (history past s) i a)
      (no-write s log past e pass c reply Looks effect a refl) k

  decided-other : (past : List Entry) (e : Entry) (x : Effect) → effect_of e s ≡ Some x → is_did x ≡ false → content pages (x ∷ history past s) i ≡ content pages (history past s) i → IsDecided pages s log past i → IsDecided pages s log (e ∷ past) i
  decided-other past e x effect not_did same k =
      decided-same pages s log past e i (ap (λ (h : List Effect). content pages h i) (history-effect e past s (Some x) effect) ∙ same) (no-change s log past e x effect not_did) k

  decided-step : (past : List Entry) (e : Entry) (o : Option Effect) → effect_of e s ≡ o → IsGoodSoFar u past → IsUpdated s log (e ∷ past) → IsDecided pages s log past i → IsDecided pages s log (e ∷ past) i
  decided-step past e None effect good updated k =
      decided-same pages s log past e i (ap (λ (h : List Effect). content pages h i) (history-effect e past s None effect)) (λ it by. some-none _ (sym effect ∙ by-effect s log it past e by)) k
  decided-step past e (Some (Did pass c reply)) effect good updated k = decided-did past e pass c reply effect good (act_of c) refl (may-do s log e past pass c reply effect updated).acts k
  decided-step past e (Some (CameIn pass page from_disk)) effect good updated k = decided-other past e (CameIn pass page from_disk) effect refl (content-came_in pages pass page from_disk (history past s) i) k
  decided-step past e (Some (WentOut pass page)) effect good updated k = decided-other past e (WentOut pass page) effect refl (content-went_out pages pass page (history past s) i) k
  decided-step past e (Some (Began pass page)) effect good updated k = decided-other past e (Began pass page) effect refl (content-began pages pass page (history past s) i) k
  decided-step past e (Some (Ended pass page how)) effect good updated k = decided-other past e (Ended pass page how) effect refl (content-ended pages pass page how (history past s) i) k
  decided-step past e (Some (Synced pass how)) effect good updated k = decided-other past e (Synced pass how) effect refl (content-synced pages pass how (history past s) i) k

  content-opening : content pages (history [] s) i ≡ slice_index (pages (i / 4096)) (i % 4096)
  unfolding history content
  content-opening = refl

  pub decided : (past : List Entry) → IsGoodSoFar u past → IsUpdated s log past → IsDecided pages s log past i
  decided [] good updated = inl (record { is = content-opening; none = λ other is covers. is })
  decided (e ∷ past) good updated =
      decided-step past e (effect_of e s) refl (good-tail u e past good) updated (decided past (good-tail u e past good) (updated-tail s log e past updated))

-- ---- sizes

pub record HasRaised (s log : ℕ) (past : List Entry) (e : Entry) : Type 0 where
  pub it : Updating
  pub by : IsChangeBy s log it past e
  pub sizes_are : sizes (history (e ∷ past) s) ≡ raised (it.at + length it.bytes) (sizes (history past s))
  pub within : it.at ≤ valid_of (history past s)

open-at : (s log : ℕ) (past : List Entry) → IsUpdated s log past → had_map (history past s) ≡ true → is_among 0 (objects (history past s)) ≡ true
unfolding history had_map
open-at s log [] updated had = absurd (cc)
open-at s log (e ∷ past) updated had = (updated-head s log e past updated).stays_open had

mapped-at : (s log : ℕ) (past : List Entry) → IsUpdated s log past → had_map (history past s) ≡ true → is_mapped (history past s) ≡ true
mapped-at s log past updated had =
    or_left (not (is_empty (objects (history past s)))) _ (go (is_empty (objects (history past s))) (among-not_empty 0 (objects (history past s)) (open-at s log past updated had)))
  where
    go : (b : Bool) → b ≡ false → not b ≡ true
    go false is = refl
    go true is = absurd (clash is)

none-had : (s : ℕ) → had_map (history [] s) ≡ false
unfolding history had_map
none-had s = refl

none-valid : (s : ℕ) → valid_of (history [] s) ≡ 0
unfolding history sizes
none-valid s = refl

module _ (u : Setup) (s log : ℕ) where
  abbrev Steps : List Entry → Entry → Type 0
  Steps past e = (sizes (history (e ∷ past) s) ≡ sizes (history past s)) ⊎ HasRaised s log past e

  within-of : (past : List Entry) (e : Entry) (pass : ℕ) (c : Call) (reply : Reply) → effect_of e s ≡ Some (Did pass c reply) → IsGoodSoFar u (e ∷ past) → BeginsWithin (valid_of (history past s)) (act_of c)
  within-of past e pass c reply effect good =
      let steady : IsSteady (Did pass c reply ∷ history past s) = subst (λ (h : List Effect). IsSteady h) (history-effect e past s (Some (Did pass c reply)) effect) (IsSteady-good u (e ∷ past) s good) in
      steady.0.within

  sizes-did : (past : List Entry) (e : Entry) (pass : ℕ) (c : Call) (reply : Reply) → effect_of e s ≡ Some (Did pass c reply) → IsGoodSoFar u (e ∷ past) → IsUpdated s log (e ∷ past) → had_map (history past s) ≡ true →
      (a : Act) → act_of c ≡ a → MayActByUpdate s log past pass c a → Steps past e
  sizes-did past e pass c reply effect good updated had (Opens file given quota temporary) a acts =
      inl (ap sizes (history-effect e past s (Some (Did pass c reply)) effect) ∙ sizes-opens_mapped pass c reply (history past s) a (mapped-at s log past (updated-tail s log e past updated) had))
  sizes-did past e pass c reply effect good updated had (Closes file truncate) a acts =
      let k = did-entry e s pass c reply effect in
      let none = no-truncation u s log past pass k.nth c reply (subst (λ (x : Entry). IsGoodSoFar u (x ∷ past)) k.is good) (subst (λ (x : Entry). IsUpdated s log (x ∷ past)) k.is updated) file truncate a in
      inl (ap sizes (history-effect e past s (Some (Did pass c reply)) effect) ∙ sizes-closes_kept pass c reply (history past s) a none)
  sizes-did past e pass c reply effect good updated had (Resizes allocation size) a acts = absurd acts
  sizes-did past e pass c reply effect good updated had (Writes at bytes) a acts =
      let is : act_of c ≡ Writes acts.it.at acts.it.bytes = ap act_of acts.is in
      let within : BeginsWithin (valid_of (history past s)) (Writes acts.it.at acts.it.bytes) = subst (λ (x : Act). BeginsWithin (valid_of (history past s)) x) is (within-of past e pass c reply effect good) in
      inr (record {
        it = acts.it;
        by = by-its u (λ n. []) s log past e pass c reply effect (good-tail u e past good) acts 0;
        sizes_are = ap sizes (history-effect e past s (Some (Did pass c reply)) effect) ∙ sizes-writes {at = acts.it.at} {bytes = acts.it.bytes} pass c reply (history past s) is;
        within = within;
      })
  sizes-did past e pass c reply effect good updated had (Zeroes from to) a acts = absurd acts
  sizes-did past e pass c reply effect good updated had (Stores page bytes) a acts = absurd acts
  sizes-did past e pass c reply effect good updated had (Stamps hold lsn) a acts = inl (ap sizes (history-effect e past s (Some (Did pass c reply)) effect) ∙ sizes-stamps pass c reply (history past s) a)
  sizes-did past e pass c reply effect good updated had (Discards span) a acts = absurd acts
  sizes-did past e pass c reply effect good updated had Looks a acts = inl (ap sizes (history-effect e past s (Some (Did pass c reply)) effect) ∙ sizes-looks pass c reply (history past s) a)

  sizes-effect : (past : List Entry) (e : Entry) (o : Option Effect) → effect_of e s ≡ o → IsGoodSoFar u (e ∷ past) → IsUpdated s log (e ∷ past) → had_map (history past s) ≡ true → Steps past e
  sizes-effect past e None effect good updated had = inl (ap sizes (history-effect e past s None effect))
  sizes-effect past e (Some (Did pass c reply)) effect good updated had = sizes-did past e pass c reply effect good updated had (act_of c) refl (may-do s log e past pass c reply effect updated).acts
  sizes-effect past e (Some (CameIn pass page from_disk)) effect good updated had = inl (ap sizes (history-effect e past s _ effect) ∙ sizes-came_in pass page from_disk (history past s))
  sizes-effect past e (Some (WentOut pass page)) effect good updated had = inl (ap sizes (history-effect e past s _ effect) ∙ sizes-went_out pass page (history past s))
  sizes-effect past e (Some (Began pass page)) effect good updated had = inl (ap sizes (history-effect e past s _ effect) ∙ sizes-began pass page (history past s))
  sizes-effect past e (Some (Ended pass page how)) effect good updated had = inl (ap sizes (history-effect e past s _ effect) ∙ sizes-ended pass page how (history past s))
  sizes-effect past e (Some (Synced pass how)) effect good updated had = inl (ap sizes (history-effect e past s _ effect) ∙ sizes-synced pass how (history past s))

  sizes-step : (past : List Entry) (e : Entry) → IsGoodSoFar u (e ∷ past) → IsUpdated s log (e ∷ past) → had_map (history past s) ≡ true → Steps past e
  sizes-step past e good updated had = sizes-effect past e (effect_of e s) refl good updated had

  pub had-more : (later past : List Entry) → had_map (history past s) ≡ true → had_map (history (later ++ past) s) ≡ true
  had-more later past had = ap had_map (history-grown later past s) ∙ had-stays (history later s) (history past s) had

  pub first-more : (later past : List Entry) → had_map (history past s) ≡ true → first_valid (history (later ++ past) s) ≡ first_valid (history past s)
  first-more later past had = ap first_valid (history-grown later past s) ∙ first-stays (history later s) (history past s) had

  pub never-valid : (past : List Entry) → IsGoodSoFar u past → had_map (history past s) ≡ false → valid_of (history past s) ≡ 0
  never-valid past good never = valid-never (history past s) (IsSteady-good u past s good) never

  -- the first map, which only a call makes
  had-same : (past : List Entry) (e : Entry) (x : Effect) → effect_of e s ≡ Some x → is_did x ≡ false → had_map (history (e ∷ past) s) ≡ had_map (history past s)
  unfolding had_map
  had-same past e (Did pass c reply) effect not_did = absurd (clash not_did)
  had-same past e (CameIn pass page from_disk) effect not_did = ap had_map (history-effect e past s _ effect)
  had-same past e (WentOut pass page) effect not_did = ap had_map (history-effect e past s _ effect)
  had-same past e (Began pass page) effect not_did = ap had_map (history-effect e past s _ effect)
  had-same past e (Ended pass page how) effect not_did = ap had_map (history-effect e past s _ effect)
  had-same past e (Synced pass how) effect not_did = ap had_map (history-effect e past s _ effect)

  opened-other : (past : List Entry) (e : Entry) (x : Effect) → effect_of e s ≡ Some x → is_did x ≡ false → had_map (history past s) ≡ false → had_map (history (e ∷ past) s) ≡ true → valid_of (history (e ∷ past) s) ≡ first_valid (history (e ∷ past) s)
  opened-other past e x effect not_did never had = absurd (clash (sym had ∙ (had-same past e x effect not_did ∙ never)))

  opened : (past : List Entry) (e : Entry) (o : Option Effect) → effect_of e s ≡ o → IsGoodSoFar u past → had_map (history past s) ≡ false → had_map (history (e ∷ past) s) ≡ true → valid_of (history (e ∷ past) s) ≡ first_valid (history (e ∷ past) s)
  opened past e None effect good never had = absurd (clash (sym had ∙ (ap had_map (history-effect e past s None effect) ∙ never)))
  opened past e (Some (Did pass c reply)) effect good never had =
      let now = history-effect e past s (Some (Did pass c reply)) effect in
      ap valid_of now ∙ (valid-opened pass c reply (history past s) (IsSteady-good u past s good) never (sym (ap had_map now) ∙ had) ∙ sym (ap first_valid now))
  opened past e (Some (CameIn pass page from_disk)) effect good never had = opened-other past e _ effect refl never had
  opened past e (Some (WentOut pass page)) effect good never had = opened-other past e _ effect refl never had
  opened past e (Some (Began pass page)) effect good never had = opened-other past e _ effect refl never had
  opened past e (Some (Ended pass page how)) effect good never had = opened-other past e _ effect refl never had
  opened past e (Some (Synced pass how)) effect good never had = opened-other past e _ effect refl never had

  -- the valid data length falls nowhere, and the size stays
  valid-step : (past : List Entry) (e : Entry) → IsGoodSoFar u (e ∷ past) → IsUpdated s log (e ∷ past) → valid_of (history past s) ≤ valid_of (history (e ∷ past) s)
  valid-step past e good updated = go (had_map (history past s)) refl
    where
      by : Steps past e → valid_of (history past s) ≤ valid_of (history (e ∷ past) s)
      by (inl same) = let valid : valid_of (history (e ∷ past) s) ≡ valid_of (history past s) = ap (λ (x : Sizes). x.valid) same in omega (arith, valid)
      by (inr k) = let valid : valid_of (history (e ∷ past) s) ≡ max (valid_of (history past s)) (k.it.at + length k.it.bytes) = ap (λ (x : Sizes). x.valid) k.sizes_are in omega (arith, valid)

      go : (b : Bool) → had_map (history past s) ≡ b → valid_of (history past s) ≤ valid_of (history (e ∷ past) s)
      go false never = let none = never-valid past (good-tail u e past good) never in omega (arith, none)
      go true had = by (sizes-step past e good updated had)

  pub valid-more : (later past : List Entry) → IsGoodSoFar u (later ++ past) → IsUpdated s log (later ++ past) → valid_of (history past s) ≤ valid_of (history (later ++ past) s)
  valid-more [] past good updated = omega arith
  valid-more (e ∷ later) past good updated =
      let rest = valid-more later past (good-tail u e (later ++ past) good) (updated-tail s log e (later ++ past) updated) in
      let step = valid-step (later ++ past) e good updated in
      omega (arith, rest, step)

  pub size-more : (later past : List Entry) → IsGoodSoFar u (later ++ past) → IsUpdated s log (later ++ past) → had_map (history past s) ≡ true → size_of (history (later ++ past) s) ≡ size_of (history past s)
  size-more [] past good updated had = refl
  size-more (e ∷ later) past good updated had =
      by (sizes-step (later ++ past) e good updated (had-more later past had)) ∙ size-more later past (good-tail u e (later ++ past) good) (updated-tail s log e (later ++ past) updated) had
    where
      by : Steps (later ++ past) e → size_of (history (e ∷ (later ++ past)) s) ≡ size_of (history (later ++ past) s)
      by (inl same) = ap (λ (x : Sizes). x.size) same
      by (inr k) = ap (λ (x : Sizes). x.size) k.sizes_are

  -- a change ends within the valid data
  pub written-valid : (it : Updating) (past : List Entry) → IsGoodSoFar u past → IsUpdated s log past → IsChange s log it past → it.at + length it.bytes ≤ valid_of (history past s)
  written-valid it [] good updated is = absurd is
  written-valid it (e ∷ past) good updated (inl by) =
      let now = history-effect e past s (Some (Did it.pass (call.PinnedWrite it.hold it.at it.bytes) by.reply)) (by-effect s log it past e by) in
      let valid : valid_of (history (e ∷ past) s) ≡ max (valid_of (history past s)) (it.at + length it.bytes) =
      ap (λ (x : Sizes). x.valid) (ap sizes now ∙ sizes-writes {at = it.at} {bytes = it.bytes} it.pass (call.PinnedWrite it.hold it.at it.bytes) by.reply (history past s) refl) in
      omega (arith, valid)
  written-valid it (e ∷ past) good updated (inr before) =
      let rest = written-valid it past (good-tail u e past good) (updated-tail s log e past updated) before in
      let step = valid-step past e good updated in
      omega (arith, rest, step)

  -- the first initialise made no more valid than there is now
  pub first-least : (past : List Entry) → IsGoodSoFar u past → IsUpdated s log past → had_map (history past s) ≡ true → first_valid (history past s) ≤ valid_of (history past s)
  first-least [] good updated had = absurd (clash (sym had ∙ none-had s))
  first-least (e ∷ past) good updated had = go (had_map (history past s)) refl (λ before. first-least past (good-tail u e past good) (updated-tail s log e past updated) before)
    where
      go : (b : Bool) → had_map (history past s) ≡ b → (had_map (history past s) ≡ true → first_valid (history past s) ≤ valid_of (history past s)) → first_valid (history (e ∷ past) s) ≤ valid_of (history (e ∷ past) s)
      go true before least =
          let rest = least before in
          let step = valid-step past e good updated in
          let first = first-more (e ∷ []) past before in
          omega (arith, rest, step, first)
      go false never least = let is = opened past e (effect_of e s) refl (good-tail u e past good) never had in omega (arith, is)

  -- a valid byte past what the first initialise made valid is covered by a change
  pub record IsCovered (past : List Entry) (i : ℕ) : Type 0 where
    pub it : Updating
    pub change : IsChange s log it past
    pub covers : has_byte (range_of it) i ≡ true

  pub valid-covered : (past : List Entry) (i : ℕ) → IsGoodSoFar u past → IsUpdated s log past → i < valid_of (history past s) → (i < first_valid (history past s)) ⊎ IsCovered past i
  valid-covered [] i good updated below = let none = none-valid s in absurd (omega (arith, none, below))
  valid-covered (e ∷ past) i good updated below = go (had_map (history past s)) refl (λ lt. valid-covered past i rest earlier lt)
    where
      rest : IsGoodSoFar u past
      rest = good-tail u e past good

      earlier : IsUpdated s log past
      earlier = updated-tail s log e past updated

      far : had_map (history past s) ≡ true → (i < first_valid (history past s)) ⊎ IsCovered past i → (i < first_valid (history (e ∷ past) s)) ⊎ IsCovered (e ∷ past) i
      far before (inl lt) = let first = first-more (e ∷ []) past before in inl (omega (arith, lt, first))
      far before (inr k) = inr (record { it = k.it; change = inr k.change; covers = k.covers })

      here : had_map (history past s) ≡ true → (k : HasRaised s log past e) → (i < valid_of (history past s) → (i < first_valid (history past s)) ⊎ IsCovered past i) → (b : Bool) → nat_lt i (valid_of (history past s)) ≡ b →
          (i < first_valid (history (e ∷ past) s)) ⊎ IsCovered (e ∷ past) i
      here before k covered true is = far before (covered (ltb-true i (valid_of (history past s)) is))
      here before k covered false is =
          let valid : valid_of (history (e ∷ past) s) ≡ max (valid_of (history past s)) (k.it.at + length k.it.bytes) = ap (λ (x : Sizes). x.valid) k.sizes_are in
          let above = ltb-false i (valid_of (history past s)) is in
          let within = k.within in
          inr (record { it = k.it; change = inl k.by; covers = has_byte-between (range_of k.it) i (omega (arith, above, within)) (omega (arith, valid, above, below)) })

      by : had_map (history past s) ≡ true → (i < valid_of (history past s) → (i < first_valid (history past s)) ⊎ IsCovered past i) → Steps past e → (i < first_valid (history (e ∷ past) s)) ⊎ IsCovered (e ∷ past) i
      by before covered (inl same) =
          let valid : valid_of (history (e ∷ past) s) ≡ valid_of (history past s) = ap (λ (x : Sizes). x.valid) same in
          far before (covered (omega (arith, valid, below)))
      by before covered (inr k) = here before k covered (nat_lt i (valid_of (history past s))) refl

      first : had_map (history past s) ≡ false → (b : Bool) → had_map (history (e ∷ past) s) ≡ b → (i < first_valid (history (e ∷ past) s)) ⊎ IsCovered (e ∷ past) i
      first never true had = let is = opened past e (effect_of e s) refl rest never had in inl (omega (arith, is, below))
      first never false none = let zero = never-valid (e ∷ past) good none in absurd (omega (arith, zero, below))

      go : (b : Bool) → had_map (history past s) ≡ b → (i < valid_of (history past s) → (i < first_valid (history past s)) ⊎ IsCovered past i) → (i < first_valid (history (e ∷ past) s)) ⊎ IsCovered (e ∷ past) i
      go true before covered = by before covered (sizes-step past e good updated before)
      go false never covered = first never (had_map (history (e ∷ past) s)) refl
