-- What a checkpoint shows of an update below the LSN from which a restart redoes: the disk has it, and a crash leaves nothing older.
use Rattle.std.specs.Prelude.{◌≡◌, ℕ, ◌*◌, ◌<◌, ◌≤◌, ◌⊎◌, Bool, true, false, not, ◌==◌, ◌&&◌, ◌||◌, List, [], ◌∷◌, ◌++◌, map, refl, if◌then◌else◌}
use Rattle.std.specs.List.{cons_option, filter_map, flat_map, list_any, range_with_len}
use Rattle.std.specs.Option.{option_map}
use Rattle.std.specs.declared.option.Option.{Option}
use Rattle.std.specs.declared.option.Option.TheVariants.{Some, None}
use Rattle.std.proofs.Common.{ap, sym, subst, ◌∙◌, inl, inr, arith, append_assoc}
use Rattle.std.proofs.lemmas.Bool.{eqb-true, eq-eqb, or_parts}
use Rattle.cc_entry.specs.Pages.{has_page}
use Rattle.cc_entry.specs.declared.call.Call.{Call}
use Rattle.cc_entry.specs.declared.call.Call.TheVariants as call
use Rattle.cc_entry.specs.declared.query.Query.TheVariants as query
use Rattle.cc_entry.specs.declared.entry.End.TheVariants as how
use Rattle.cc_entry.specs.declared.entry.Entry.{Entry}
use Rattle.cc_entry.specs.declared.entry.Entry.TheVariants as entry
use Rattle.cc_entry.specs.declared.place.DirtyRow.{DirtyRow}
use Rattle.cc_entry.specs.declared.reply.Outcome.TheVariants as outcome
use Rattle.cc_entry.specs.declared.reply.Reply.{Reply}
use Rattle.cc_laws.proofs.DirtyAmong.{dirty-among}
use Rattle.cc_laws.proofs.FirstMap.{IsFirst-steady}
use Rattle.cc_laws.proofs.Lists1.{among-range}
use Rattle.cc_laws.proofs.SteadyPasts.{IsSteady-good}
use Rattle.cc_format.specs.declared.log.OldestRow.{OldestRow}
use Rattle.cc_model.specs.Good.{IsGoodSoFar}
use Rattle.cc_model.specs.History.{Effect, history}
use Rattle.cc_model.specs.Holds.{Hold, hold_at, holds_of}
use Rattle.cc_model.specs.Numbers.{is_among, is_empty}
use Rattle.cc_model.specs.Objects.{had_map}
use Rattle.cc_model.specs.Settings.{log_of}
use Rattle.cc_model.specs.Setup.{Setup}
use Rattle.cc_model.specs.Sizes.{Touch}
use Rattle.cc_model.specs.Stamps.{dirty_table, is_log, dirty_row_of, dirty_rows_of}
use Rattle.cc_model.specs.Touches.{dirty_pages, size_of, touches, unwritten}
use Rattle.cc_redo.specs.Reading.{said_by}
use Rattle.cc_redo.specs.declared.record.LogRecord.{LogRecord}
use Rattle.cc_redo.specs.declared.record.LogRecord.TheVariants.{Update}
use Rattle.cc_restart_laws.proofs.Contents.{had-more}
use Rattle.cc_restart_laws.proofs.Entries.{good-tail, updated-rest, updated-tail}
use Rattle.cc_restart_laws.proofs.Fronts.{CrashLeaves, IsBegunSince, IsKnownAs, IsSince}
use Rattle.cc_restart_laws.proofs.Orders.{IsChange, change-more}
use Rattle.cc_restart_laws.proofs.Records.{IsAppended, good-rest', log-stays, owing-of, range_of, recorded-log}
use Rattle.cc_restart_laws.proofs.Redoing.{IsAmong}
use Rattle.cc_restart_laws.proofs.Safe.{stamp-set}
use Rattle.cc_restart_laws.proofs.Stamped.{has_stamp, stamp-between, stamp-open}
use Rattle.cc_restart_laws.proofs.Walks.{Behind, IsFrontOf, IsKnownBehind, crash-walk, front-rest, front-tail, known-walk, since-walk, synced-leaves}
use Rattle.cc_restart_laws.specs.Updates.{UpdateHasWritten, IsCheckpoint, IsUpdated, Updating, WasStamped, is_update_of, records_update}

-- ---- where an entry of the log was appended

pub record IsAppendAt (log lsn : ℕ) (bytes : List ℕ) (past : List Entry) : Type 0 where
  pub pass : ℕ
  pub later : List Entry
  pub front : List Entry
  pub splits : past ≡ later ++ entry.Append pass log lsn bytes ∷ front

pub append-at : (log lsn : ℕ) (bytes : List ℕ) (past : List Entry) → IsAppended log lsn bytes past → IsAppendAt log lsn bytes past
append-at log lsn bytes [] is = absurd is
append-at log lsn bytes (e ∷ past) (inl here) = record { pass = here.0; later = []; front = past; splits = ap (λ (x : Entry). x ∷ past) here.1 }
append-at log lsn bytes (e ∷ past) (inr before) =
    let k = append-at log lsn bytes past before in record { pass = k.pass; later = e ∷ k.later; front = k.front; splits = ap (λ (l : List Entry). e ∷ l) k.splits }

appended-in : (log lsn : ℕ) (bytes : List ℕ) (later rest : List Entry) → IsAppended log lsn bytes (later ++ rest) → IsAppended log lsn bytes later ⊎ IsAppended log lsn bytes rest
appended-in log lsn bytes [] rest is = inr is
appended-in log lsn bytes (e ∷ later) rest (inl here) = inl (inl here)
appended-in log lsn bytes (e ∷ later) rest (inr before) = go (appended-in log lsn bytes later rest before)
  where
    go : IsAppended log lsn bytes later ⊎ IsAppended log lsn bytes rest → IsAppended log lsn bytes (e ∷ later) ⊎ IsAppended log lsn bytes rest
    go (inl is) = inl (inr is)
    go (inr is) = inr is

clash : true ≡ false → ⊥
clash is = absurd (cc)

is-record : (s log pass lsn at : ℕ) (bytes spelled : List ℕ) → said_by spelled ≡ Some (Update s at bytes) → records_update s log (entry.Append pass log lsn spelled) ≡ true
is-record s log pass lsn at bytes spelled said =
    ap (λ (o : Option LogRecord). (log == log) && is_update_of s o) said ∙ rw (eq-eqb log log refl, eq-eqb s s refl) refl

none-recorded : (s log lsn at : ℕ) (bytes spelled : List ℕ) (later : List Entry) → said_by spelled ≡ Some (Update s at bytes) → list_any (records_update s log) later ≡ false → IsAppended log lsn spelled later → ⊥
none-recorded s log lsn at bytes spelled [] said none is = is
none-recorded s log lsn at bytes spelled (e ∷ later) said none (inl here) =
    let parts = or_parts (records_update s log e) (list_any (records_update s log) later) none in
    clash (sym (ap (records_update s log) here.1 ∙ is-record s log here.0 lsn at bytes spelled said) ∙ parts.0)
none-recorded s log lsn at bytes spelled (e ∷ later) said none (inr before) =
    let parts = or_parts (records_update s log e) (list_any (records_update s log) later) none in
    none-recorded s log lsn at bytes spelled later said parts.1 before

no-append : (pass nth log lister lsn : ℕ) (it : Call) (reply : Reply) (bytes : List ℕ) → entry.Call lister nth None it (outcome.Done reply) ≡ entry.Append pass log lsn bytes → ⊥
no-append pass nth log lister lsn it reply bytes is = cc

-- an update whose record stands before the checkpoint's was stamped before the table was listed
pub was-stamped : (s log lsn at : ℕ) (bytes spelled : List ℕ) (rows : List OldestRow) (past : List Entry) (k : IsCheckpoint s log rows past) → IsAppended log lsn spelled past → said_by spelled ≡ Some (Update s at bytes) →
    WasStamped s log lsn k.listed
was-stamped s log lsn at bytes spelled rows past k is said =
    go (appended-in log lsn spelled k.later (entry.Call k.pass k.nth None (call.Query (query.DirtyPages log)) (outcome.Done k.reply) ∷ k.listed) (subst (λ (l : List Entry). IsAppended log lsn spelled l) k.splits is))
  where
    stamped : IsAppended log lsn spelled k.listed → WasStamped s log lsn k.listed
    stamped here = let at_place = append-at log lsn spelled k.listed here in k.stamped lsn (record { pass = at_place.pass; at = at; bytes = bytes; spelled = spelled; later = at_place.later; front = at_place.front; splits = at_place.splits; said = said })

    go : IsAppended log lsn spelled k.later ⊎ IsAppended log lsn spelled (entry.Call k.pass k.nth None (call.Query (query.DirtyPages log)) (outcome.Done k.reply) ∷ k.listed) → WasStamped s log lsn k.listed
    go (inl since) = absurd (none-recorded s log lsn at bytes spelled k.later said k.none_since since)
    go (inr (inl here)) = absurd (no-append here.0 k.nth log k.pass lsn (call.Query (query.DirtyPages log)) k.reply spelled here.1)
    go (inr (inr before)) = stamped before

-- ---- the rows of the table

pub among-map : {A B : Type 0} (f : A → B) (xs : List A) (x : A) → IsAmong xs x → IsAmong (map f xs) (f x)
among-map f [] x among = absurd among
among-map f (y ∷ ys) x (inl same) = inl (ap f same)
among-map f (y ∷ ys) x (inr among) = inr (among-map f ys x among)

among-left : {A : Type 0} (xs ys : List A) (x : A) → IsAmong xs x → IsAmong (xs ++ ys) x
among-left [] ys x among = absurd among
among-left (z ∷ xs) ys x (inl same) = inl same
among-left (z ∷ xs) ys x (inr among) = inr (among-left xs ys x among)

among-right : {A : Type 0} (xs ys : List A) (x : A) → IsAmong ys x → IsAmong (xs ++ ys) x
among-right [] ys x among = among
among-right (z ∷ xs) ys x among = inr (among-right xs ys x among)

among-flat : {A : Type 0} (f : ℕ → List A) (ns : List ℕ) (n : ℕ) (x : A) → is_among n ns ≡ true → IsAmong (f n) x → IsAmong (flat_map f ns) x
among-flat f [] n x is among = absurd (cc)
among-flat f (m ∷ ns) n x is among = go (m == n) refl is (λ rest. among-flat f ns n x rest among)
  where
    go : (b : Bool) → (m == n) ≡ b → (b || is_among n ns) ≡ true → (is_among n ns ≡ true → IsAmong (flat_map f ns) x) → IsAmong (f m ++ flat_map f ns) x
    go true same is rest = among-left (f m) (flat_map f ns) x (subst (λ (k : ℕ). IsAmong (f k) x) (sym (eqb-true m n same)) among)
    go false other is rest = among-right (f m) (flat_map f ns) x (rest is)

first-option : {A : Type 0} (o : Option A) (xs : List A) (x : A) → o ≡ Some x → IsAmong (cons_option o xs) x
first-option None xs x some = absurd (cc)
first-option (Some y) xs x some = inl (same y x some)
  where
    same : {B : Type 0} (a b : B) → Some a ≡ Some b → b ≡ a
    same a b is = cc

later-option : {A : Type 0} (o : Option A) (xs : List A) (x : A) → IsAmong xs x → IsAmong (cons_option o xs) x
later-option None xs x among = among
later-option (Some y) xs x among = inr among

among-filtered : {A : Type 0} (f : ℕ → Option A) (ns : List ℕ) (n : ℕ) (x : A) → is_among n ns ≡ true → f n ≡ Some x → IsAmong (filter_map f ns) x
among-filtered f [] n x is gives = absurd (cc)
among-filtered f (m ∷ ns) n x is gives = go (m == n) refl is (λ rest. among-filtered f ns n x rest gives)
  where
    go : (b : Bool) → (m == n) ≡ b → (b || is_among n ns) ≡ true → (is_among n ns ≡ true → IsAmong (filter_map f ns) x) → IsAmong (filter_map f (m ∷ ns)) x
    go true same is rest = first-option (f m) (filter_map f ns) x (ap f (eqb-true m n same) ∙ gives)
    go false other is rest = later-option (f m) (filter_map f ns) x (rest is)

-- a row of the table, which has the page
pub record HasRow (s log n p : ℕ) (past : List Entry) : Type 0 where
  pub row : DirtyRow
  pub among : IsAmong (dirty_table past log) row
  pub stream : row.page.stream ≡ s
  pub oldest : row.oldest ≤ n

stamp-dirty : (n : ℕ) (ts : List Touch) → has_stamp n ts ≡ true → not (is_empty ts) ≡ true
stamp-dirty n [] is = absurd (cc)
stamp-dirty n (t ∷ ts) is = refl

pub has-row : (s log n p : ℕ) (past : List Entry) → s < 16 → log_of (history past s) ≡ Some log → has_stamp n (touches false (history past s) p) ≡ true → HasRow s log n p past
unfolding dirty_table
has-row s log n p past below its stamped =
    let between = stamp-between n (unwritten (history past s) p) stamped in
    let row : DirtyRow = record { page = record { stream = s; page = p }; oldest = between.pair.0; newest = between.pair.1 } in
    let is : dirty_row_of s (history past s) p ≡ Some row = ap (option_map (λ (lsns : ℕ × ℕ). record { page = record { stream = s; page = p }; oldest = lsns.0; newest = lsns.1 })) between.is in
    let dirty : is_among p (dirty_pages (history past s)) ≡ true = dirty-among (history past s) p (stamp-dirty n (touches false (history past s) p) stamped) in
    let mine : is_log log (log_of (history past s)) ≡ true = ap (is_log log) its ∙ eq-eqb log log refl in
    let here : IsAmong (dirty_rows_of past log s) row = chosen (is_log log (log_of (history past s))) mine row (among-filtered (dirty_row_of s (history past s)) (dirty_pages (history past s)) p row dirty is) in
    record {
      row = row;
      among = among-flat (dirty_rows_of past log) (range_with_len 0 16) s row (among-range s 0 16 (omega arith) (omega (arith, below))) here;
      stream = refl;
      oldest = between.least;
    }
  where
    chosen : (b : Bool) → b ≡ true → (row : DirtyRow) → IsAmong (filter_map (dirty_row_of s (history past s)) (dirty_pages (history past s))) row →
        IsAmong (if b then filter_map (dirty_row_of s (history past s)) (dirty_pages (history past s)) else []) row
    chosen true is row among = among
    chosen false is row among = absurd (clash (sym is))

-- ---- what a crash leaves behind the checkpoint

pub held-had : (u : Setup) (past : List Entry) (s id : ℕ) (hold : Hold) → IsGoodSoFar u past → hold_at (holds_of (history past s)) id ≡ Some hold → had_map (history past s) ≡ true
held-had u past s id hold good found = go (had_map (history past s)) refl
  where
    none : (holds : List Hold) → holds ≡ [] → hold_at holds id ≡ Some hold → ⊥
    none [] is some = cc
    none (x ∷ xs) is some = cc

    go : (b : Bool) → had_map (history past s) ≡ b → had_map (history past s) ≡ true
    go true is = is
    go false never = absurd (none (holds_of (history past s)) (IsFirst-steady (history past s) (IsSteady-good u past s good) never).unheld found)

module _ (u : Setup) (s log p : ℕ) (whole : List Entry) (pages : ℕ → List ℕ) (below : s < 16) where
  -- the moment of a set-dirty
  abbrev pub base_of : (lsn : ℕ) (past : List Entry) → WasStamped s log lsn past → List Entry
  base_of lsn past w = w.stamp ∷ w.front

  written-had : (it : Updating) (past : List Entry) → IsGoodSoFar u past → UpdateHasWritten s log it past → had_map (history past s) ≡ true
  written-had it past good k = let owing = owing-of u s log it past good k in held-had u past s it.hold owing.held.hold good owing.held.has.found

  pub written-log : (it : Updating) (past : List Entry) → IsUpdated s log past → UpdateHasWritten s log it past → log_of (history past s) ≡ Some log
  written-log it past updated k =
      let wrote : Entry = entry.Call it.pass k.nth (Some s) (call.PinnedWrite it.hold it.at it.bytes) (outcome.Done k.reply) in
      let all : IsUpdated s log (k.idle.during ++ wrote ∷ k.front) = subst (λ (l : List Entry). IsUpdated s log l) k.idle.grew updated in
      let there : IsUpdated s log (wrote ∷ k.front) = updated-rest s log k.idle.during (wrote ∷ k.front) all in
      ap (λ (l : List Entry). log_of (history l s)) k.idle.grew
      ∙ log-stays s log k.idle.during (wrote ∷ k.front) all (log-stays s log (wrote ∷ []) k.front there (recorded-log s log it k.front (updated-tail s log wrote k.front there) k.recorded))

  pub written-change : (it : Updating) (past : List Entry) → UpdateHasWritten s log it past → IsChange s log it past
  written-change it past k =
      let wrote : Entry = entry.Call it.pass k.nth (Some s) (call.PinnedWrite it.hold it.at it.bytes) (outcome.Done k.reply) in
      subst (λ (l : List Entry). IsChange s log it l) (sym k.idle.grew)
      (change-more s log it k.idle.during (wrote ∷ k.front) (inl (record { nth = k.nth; reply = k.reply; is = refl; recorded = k.recorded })))

  -- from a set-dirty on to a place where its stamp is gone
  since-listed : (lsn : ℕ) (listed : List Entry) (w : WasStamped s log lsn listed) → IsGoodSoFar u listed → IsUpdated s log listed → IsFrontOf whole listed → has_page (range_of w.it) p ≡ true →
      (has_stamp lsn (touches false (history listed s) p) ≡ true → ⊥) → IsKnownBehind u s log p whole (base_of lsn listed w) pages (history listed s)
  since-listed lsn listed w good updated within in_range gone = go walked
    where
      good-all : IsGoodSoFar u (w.later ++ w.stamp ∷ w.front)
      good-all = subst (λ (l : List Entry). IsGoodSoFar u l) w.splits good

      good-base : IsGoodSoFar u (w.stamp ∷ w.front)
      good-base = good-rest' u w.later (w.stamp ∷ w.front) good-all

      begun-stamp : has_stamp lsn (touches true (history (w.stamp ∷ w.front) s) p) ≡ true
      begun-stamp =
          subst (λ (n : ℕ). has_stamp n (touches true (history (w.stamp ∷ w.front) s) p) ≡ true) w.its_lsn
          (stamp-set u s log w.it p w.stamp w.front (good-tail u w.stamp w.front good-base) w.written w.is in_range true)

      walked : IsSince ⊥ (Behind u s log p whole (w.stamp ∷ w.front)) pages s p lsn (history listed s)
      walked =
          subst (λ (l : List Entry). IsSince ⊥ (Behind u s log p whole (w.stamp ∷ w.front)) pages s p lsn (history l s)) (sym w.splits)
          (since-walk u s log p whole (w.stamp ∷ w.front) pages lsn w.later good-all (subst (λ (l : List Entry). IsUpdated s log l) w.splits updated) (subst (λ (l : List Entry). IsFrontOf whole l) w.splits within) (inl begun-stamp))

      begins : (k : IsBegunSince ⊥ (Behind u s log p whole (w.stamp ∷ w.front)) pages s p lsn (history listed s)) → IsKnownBehind u s log p whole (w.stamp ∷ w.front) pages (history listed s)
      begins k = left k.left
        where
          some-is : (a b : List Effect) → Some a ≡ Some b → a ≡ b
          some-is a b is = cc

          left : (has_stamp lsn (touches false (history listed s) p) ≡ true) ⊎ IsKnownAs ⊥ (Behind u s log p whole (w.stamp ∷ w.front)) pages s p (history listed s) → IsKnownBehind u s log p whole (w.stamp ∷ w.front) pages (history listed s)
          left (inl stamped) = absurd (gone stamped)
          left (inr known) = record { begins = λ f is. record { front = k.front; is = some-is f (history k.front s) (sym is ∙ k.is); said = k.said }; known = known }

      go : IsSince ⊥ (Behind u s log p whole (w.stamp ∷ w.front)) pages s p lsn (history listed s) → IsKnownBehind u s log p whole (w.stamp ∷ w.front) pages (history listed s)
      go (inl stamped) = absurd (gone (stamp-open lsn (history listed s) p stamped))
      go (inr k) = begins k

  -- and on to the end, over the checkpoint's sync
  pub leaves-behind : (lsn : ℕ) (rows : List OldestRow) (later past : List Entry) (k : IsCheckpoint s log rows past) (w : WasStamped s log lsn k.listed) → IsGoodSoFar u (later ++ past) → IsUpdated s log (later ++ past) →
      IsFrontOf whole (later ++ past) → has_page (range_of w.it) p ≡ true → 4096 * p < size_of (history whole s) → ((front : List Entry) → IsFrontOf whole front → had_map (history front s) ≡ true → size_of (history front s) ≡ size_of (history whole s)) →
      (has_stamp lsn (touches false (history k.listed s) p) ≡ true → ⊥) → CrashLeaves ⊥ (Behind u s log p whole (base_of lsn k.listed w)) pages s p (history (later ++ past) s)
  leaves-behind lsn rows later past k w good updated within in_range in_size sizes gone =
      let listing : Entry = entry.Call k.pass k.nth None (call.Query (query.DirtyPages log)) (outcome.Done k.reply) in
      let base : List Entry = w.stamp ∷ w.front in
      let good_past : IsGoodSoFar u past = good-rest' u later past good in
      let updated_past : IsUpdated s log past = updated-rest s log later past updated in
      let within_past : IsFrontOf whole past = front-rest whole later past within in
      let good_listing : IsGoodSoFar u (listing ∷ k.listed) = good-rest' u k.later (listing ∷ k.listed) (subst (λ (l : List Entry). IsGoodSoFar u l) k.splits good_past) in
      let updated_listing : IsUpdated s log (listing ∷ k.listed) = updated-rest s log k.later (listing ∷ k.listed) (subst (λ (l : List Entry). IsUpdated s log l) k.splits updated_past) in
      let within_listing : IsFrontOf whole (listing ∷ k.listed) = front-rest whole k.later (listing ∷ k.listed) (subst (λ (l : List Entry). IsFrontOf whole l) k.splits within_past) in
      let good_listed : IsGoodSoFar u k.listed = good-tail u listing k.listed good_listing in
      let updated_listed : IsUpdated s log k.listed = updated-tail s log listing k.listed updated_listing in
      let within_listed : IsFrontOf whole k.listed = front-tail whole listing k.listed within_listing in
      let known_listed : IsKnownBehind u s log p whole base pages (history k.listed s) = since-listed lsn k.listed w good_listed updated_listed within_listed in_range gone in
      let good_front : IsGoodSoFar u w.front = good-tail u w.stamp w.front (good-rest' u w.later base (subst (λ (l : List Entry). IsGoodSoFar u l) w.splits good_listed)) in
      let had_front : had_map (history w.front s) ≡ true = written-had w.it w.front good_front w.written in
      let had_listed : had_map (history k.listed s) ≡ true =
      ap (λ (l : List Entry). had_map (history l s)) w.splits ∙ had-more u s log w.later base (had-more u s log (w.stamp ∷ []) w.front had_front) in
      let sync = k.synced had_listed in
      let before : List Entry = sync.since ++ listing ∷ k.listed in
      let synced : Entry = entry.Sync sync.pass s how.Good in
      let more : List Entry = sync.since ++ listing ∷ [] in
      let same : before ≡ more ++ (w.later ++ base) = ap (λ (l : List Entry). sync.since ++ listing ∷ l) w.splits ∙ sym (append_assoc sync.since (listing ∷ []) (w.later ++ base)) in
      let good_synced : IsGoodSoFar u (synced ∷ before) = good-rest' u sync.later (synced ∷ before) (subst (λ (l : List Entry). IsGoodSoFar u l) sync.splits good_past) in
      let updated_synced : IsUpdated s log (synced ∷ before) = updated-rest s log sync.later (synced ∷ before) (subst (λ (l : List Entry). IsUpdated s log l) sync.splits updated_past) in
      let within_synced : IsFrontOf whole (synced ∷ before) = front-rest whole sync.later (synced ∷ before) (subst (λ (l : List Entry). IsFrontOf whole l) sync.splits within_past) in
      let within_before : IsFrontOf whole before = front-tail whole synced before within_synced in
      let known_base : IsKnownBehind u s log p whole base pages (history (w.later ++ base) s) = subst (λ (l : List Entry). IsKnownBehind u s log p whole base pages (history l s)) w.splits known_listed in
      let known_before : IsKnownBehind u s log p whole base pages (history before s) =
      subst (λ (l : List Entry). IsKnownBehind u s log p whole base pages (history l s)) (sym same)
      (known-walk u s log p whole base pages more w.later (subst (λ (l : List Entry). IsGoodSoFar u l) same (good-tail u synced before good_synced))
      (subst (λ (l : List Entry). IsUpdated s log l) same (updated-tail s log synced before updated_synced)) (subst (λ (l : List Entry). IsFrontOf whole l) same within_before) known_base) in
      let had_before : had_map (history before s) ≡ true = had-more u s log sync.since (listing ∷ k.listed) (had-more u s log (listing ∷ []) k.listed had_listed) in
      let size_before : size_of (history before s) ≡ size_of (history whole s) = sizes before within_before had_before in
      let crash_synced : CrashLeaves ⊥ (Behind u s log p whole base) pages s p (history (synced ∷ before) s) =
      synced-leaves u s log p whole base pages sync.pass before (sync.known p (omega (arith, in_size, size_before))) known_before in
      let known_synced : IsKnownBehind u s log p whole base pages (history (synced ∷ before) s) =
      subst (λ (l : List Entry). IsKnownBehind u s log p whole base pages (history (synced ∷ l) s)) (sym same)
      (known-walk u s log p whole base pages (synced ∷ more) w.later (subst (λ (l : List Entry). IsGoodSoFar u (synced ∷ l)) same good_synced)
      (subst (λ (l : List Entry). IsUpdated s log (synced ∷ l)) same updated_synced) (subst (λ (l : List Entry). IsFrontOf whole (synced ∷ l)) same within_synced) known_base) in
      let since : List Entry = synced ∷ (more ++ w.later) in
      let same_since : since ++ base ≡ synced ∷ before = ap (λ (l : List Entry). synced ∷ l) (append_assoc more w.later base ∙ sym same) in
      let all : later ++ past ≡ (later ++ sync.later) ++ (since ++ base) =
      ap (λ (l : List Entry). later ++ l) sync.splits ∙ (sym (append_assoc later sync.later (synced ∷ before)) ∙ ap (λ (l : List Entry). (later ++ sync.later) ++ l) (sym same_since)) in
      subst (λ (l : List Entry). CrashLeaves ⊥ (Behind u s log p whole base) pages s p (history l s)) (sym all)
      (crash-walk u s log p whole base pages (later ++ sync.later) since (subst (λ (l : List Entry). IsGoodSoFar u l) all good) (subst (λ (l : List Entry). IsUpdated s log l) all updated) (subst (λ (l : List Entry). IsFrontOf whole l) all within)
      (subst (λ (l : List Entry). IsKnownBehind u s log p whole base pages (history l s)) (sym same_since) known_synced)
      (subst (λ (l : List Entry). CrashLeaves ⊥ (Behind u s log p whole base) pages s p (history l s)) (sym same_since) crash_synced))
