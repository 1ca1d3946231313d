-- What is kept of the entries goes on standing with what an event adds, for which there is room.
use Rattle.std.specs.Prelude.{◌≡◌, ◌⊎◌, ℕ, suc, ◌+◌, ◌<◌, Bool, true, false, not, ◌&&◌, ◌||◌, ◌==◌, is_some, List, [], ◌∷◌, length, slice_get, vec_capacity, vec_len, refl, if◌then◌else◌}
use Rattle.std.specs.declared.option.Option.{Option}
use Rattle.std.specs.declared.option.Option.TheVariants.{Some, None}
use Rattle.std.specs.List.{cons_option, list_any}
use Rattle.std.proofs.Common.{ap, sym, subst, ◌∙◌, arith, inl, inr}
use Rattle.std.proofs.lemmas.Bool.{eq-eqb, or_left, or_right}
use Rattle.cc_entry.specs.Place.{File, Page}
use Rattle.cc_entry.specs.declared.call.Call.TheVariants as call
use Rattle.cc_entry.specs.declared.entry.End.{End}
use Rattle.cc_entry.specs.declared.entry.Entry.{Entry}
use Rattle.cc_entry.specs.declared.entry.Entry.TheVariants as entry
use Rattle.cc_entry.specs.declared.reply.Outcome.TheVariants as outcome
use Rattle.cc_entry.specs.declared.reply.Reply.{Reply}
use Rattle.cc_effects.specs.Events.{IsWanting, beginner}
use Rattle.cc_effects.specs.declared.events.Event.{Event}
use Rattle.cc_effects.specs.declared.events.Event.TheVariants as event
use Rattle.cc_model.specs.History.{Effect, Began, Ended, effect_of, history}
use Rattle.cc_model.specs.Images.{Transfer, open_of}
use Rattle.cc_model.specs.Passes.{is_mine}
use Rattle.cc_laws.proofs.HistorySteps.{history-effect}
use Rattle.cc_world.proofs.Open.{leaves_open, open-kept}
use Rattle.cc_world.specs.Notes.{CanFollow, CanFollowAll, CanFollowEvent, NotesStand, OneFollows, StoreCame, StoreFollows, is_sync_of, may_bring, pass_admitted, pass_of_event}
use Rattle.cc_world.specs.Passes.{HasRoomFor, PassesStand, has_row, store_entry}
use Rattle.cc_world.specs.Syncs.{AreUnsettled}
use Rattle.cc_world.specs.Blocks.{BlocksStand}
use Rattle.cc_world.specs.Syncs.{SyncsStand}
use Rattle.cc_world.specs.declared.blocks.Blocks.{Blocks}
use Rattle.cc_world.specs.declared.notes.Notes.{Notes}
use Rattle.cc_world.specs.declared.passes.PassRow.{PassRow}
use Rattle.cc_world.specs.declared.passes.Passes.{Passes}
use Rattle.cc_world.specs.declared.syncs.Synced.{Synced}
use Rattle.cc_world.specs.declared.syncs.Syncs.{Syncs}

-- where memory may be wanting
pub admitted-wanting : {Q : Type 0} (past : List Entry) (it : Event Q) → is_some (pass_admitted it) ≡ true → IsWanting past it []
admitted-wanting past (event.WriteEnd page) some = absurd (cc)
admitted-wanting past (event.Sync pass stream) some = inr refl
admitted-wanting past it some = refl

pub bring-wanting : {Q : Type 0} (past : List Entry) (it : Event Q) → may_bring it ≡ true → IsWanting past it []
bring-wanting past (event.WriteEnd page) some = absurd (cc)
bring-wanting past (event.Sync pass stream) some = inr refl
bring-wanting past it some = refl

-- the pass that began the open transfer of a stream placed an entry
opened : (b : Bool) (pass page : ℕ) (h : List Effect) (t : Transfer) → open_of (cons_option (if b then Some (Began pass page) else None) h) ≡ Some t → (open_of h ≡ Some t) ⊎ (pass ≡ t.pass)
unfolding open_of
opened true pass page h t is = inr (by (record { pass = pass; page = page }) t is)
  where
    by : (a b : Transfer) → Some a ≡ Some b → a.pass ≡ b.pass
    by a b same = cc
opened false pass page h t is = inl is

ended : (b : Bool) (effect : Effect) (h : List Effect) (t : Transfer) → (open_of (effect ∷ h) ≡ None) → open_of (cons_option (if b then Some effect else None) h) ≡ Some t → open_of h ≡ Some t
ended true effect h t none is = absurd (cc (none, is))
ended false effect h t none is = is

no-end : (pass page : ℕ) (how : End) (h : List Effect) → open_of (Ended pass page how ∷ h) ≡ None
unfolding open_of
no-end pass page how h = refl

open-step : (e : Entry) (past : List Entry) (s : ℕ) (t : Transfer) → open_of (history (e ∷ past) s) ≡ Some t → (open_of (history past s) ≡ Some t) ⊎ (is_mine t.pass e ≡ true)
open-step (entry.WriteBegin pass page) past s t is =
    by (opened (page.stream == s) pass page.page (history past s) t (sym (ap open_of (history-effect (entry.WriteBegin pass page) past s (effect_of (entry.WriteBegin pass page) s) refl)) ∙ is))
  where
    by : (open_of (history past s) ≡ Some t) ⊎ (pass ≡ t.pass) → (open_of (history past s) ≡ Some t) ⊎ (is_mine t.pass (entry.WriteBegin pass page) ≡ true)
    by (inl was) = inl was
    by (inr same) = inr (eq-eqb pass t.pass same)
open-step (entry.WriteEnd pass page how) past s t is =
    inl (ended (page.stream == s) (Ended pass page.page how) (history past s) t (no-end pass page.page how (history past s))
    (sym (ap open_of (history-effect (entry.WriteEnd pass page how) past s (effect_of (entry.WriteEnd pass page how) s) refl)) ∙ is))
open-step e past s t is = inl (sym (open-kept e past s refl) ∙ is)

open-none : (s : ℕ) (t : Transfer) → open_of (history [] s) ≡ Some t → ⊥
unfolding open_of history
open-none s t is = absurd (cc)

opener-mine : (past : List Entry) (s : ℕ) (t : Transfer) → open_of (history past s) ≡ Some t → list_any (is_mine t.pass) past ≡ true
opener-mine [] s t is = absurd (open-none s t is)
opener-mine (e ∷ past) s t is = by (open-step e past s t is) (opener-mine past s t)
  where
    by : (open_of (history past s) ≡ Some t) ⊎ (is_mine t.pass e ≡ true) → (open_of (history past s) ≡ Some t → list_any (is_mine t.pass) past ≡ true) → list_any (is_mine t.pass) (e ∷ past) ≡ true
    by (inl was) rest = or_right (is_mine t.pass e) _ (rest was)
    by (inr its) rest = or_left _ _ its

beginner-row : (past : List Entry) (notes : Notes) (s : ℕ) → PassesStand past notes.passes.rows.items → has_row notes.passes.rows.items (beginner (open_of (history past s))) ≡ true
beginner-row past notes s stood = go (open_of (history past s)) refl
  where
    go : (o : Option Transfer) → open_of (history past s) ≡ o → has_row notes.passes.rows.items (beginner o) ≡ true
    go None is = stood.first
    go (Some t) is = stood.known t.pass (opener-mine past s t is)

-- There is room to follow an event where there is for the row of its pass, for a sync of its stream, and for the block of the page
-- that it may bring in.
pub can-follow : {Q : Type 0} (past : List Entry) (it : Event Q) (notes : Notes) (unsettled : List ℕ) → NotesStand past notes → ((me : ℕ) → pass_admitted it ≡ Some me → HasRoomFor me notes.passes.rows.items (vec_capacity notes.passes.rows)) → ((me s : ℕ) → is_sync_of me s it ≡ true → (vec_len notes.syncs.rows < vec_capacity notes.syncs.rows) × AreUnsettled past me s unsettled) → (may_bring it ≡ true → vec_len notes.blocks.pages < vec_capacity notes.blocks.pages) → CanFollowEvent notes unsettled past it
can-follow {Q} past it notes unsettled stood room sync block = record { pass = λ me its. by it me its room; sync = sync; block = block }
  where
    number : (a b : ℕ) → Some a ≡ Some b → a ≡ b
    number a b same = cc

    present : (me : ℕ) → has_row notes.passes.rows.items me ≡ true → HasRoomFor me notes.passes.rows.items (vec_capacity notes.passes.rows)
    present me has none = absurd (cc (has, none))

    by : (it : Event Q) (me : ℕ) → pass_of_event past it ≡ Some me → ((me : ℕ) → pass_admitted it ≡ Some me → HasRoomFor me notes.passes.rows.items (vec_capacity notes.passes.rows)) → HasRoomFor me notes.passes.rows.items (vec_capacity notes.passes.rows)
    by (event.WriteEnd page) me its room =
        present me (subst (λ (n : ℕ). has_row notes.passes.rows.items n ≡ true) (number _ me its) (beginner-row past notes page.stream stood.passes))
    by (event.Post pass) me its room = absurd (cc)
    by (event.Fill pass page) me its room = room me its
    by (event.Drop page) me its room = room me its
    by (event.WriteBegin pass page) me its room = room me its
    by (event.Sync pass stream) me its room = room me its
    by (event.Do pass call) me its room = room me its
    by (event.Fail pass call) me its room = room me its
    by (event.Append pass handle bytes) me its room = room me its
    by (event.LogFlush pass handle to) me its room = room me its
    by (event.Scan pass) me its room = room me its
    by (event.Defer pass file bytes retrying routine) me its room = room me its

-- an event that is no sync syncs no stream
pub no-sync-of : {Q : Type 0} (it : Event Q) → ((pass stream : ℕ) → it ≡ event.Sync pass stream → ⊥) → (me s : ℕ) → is_sync_of me s it ≡ true → ⊥
no-sync-of (event.Sync pass stream) other me s is = other pass stream refl
no-sync-of it other me s is = absurd (cc)

-- What is kept stands with more room, and without the blocks that are mapped no longer.
pub kept-passes : (past : List Entry) (notes : Notes) (passes : Passes) → passes.rows.items ≡ notes.passes.rows.items → NotesStand past notes → NotesStand past (record notes { passes = passes })
kept-passes past notes passes same stood = record {
  passes = subst (λ (rows : List (ℕ × PassRow)). PassesStand past rows) (sym same) stood.passes;
  syncs = stood.syncs;
  blocks = stood.blocks;
}

pub kept-blocks : (past : List Entry) (notes : Notes) (blocks : Blocks) → BlocksStand past blocks.pages.items → NotesStand past notes → NotesStand past (record notes { blocks = blocks })
kept-blocks past notes blocks stands stood = record { passes = stood.passes; syncs = stood.syncs; blocks = stands }

pub kept-syncs : (past : List Entry) (notes : Notes) (syncs : Syncs) → syncs.rows.items ≡ notes.syncs.rows.items → NotesStand past notes → NotesStand past (record notes { syncs = syncs })
kept-syncs past notes syncs same stood = record {
  passes = stood.passes;
  syncs = subst (λ (rows : List Synced). SyncsStand past rows) (sym same) stood.syncs;
  blocks = stood.blocks;
}

-- No entry came, one, or two.
pub count-none : (past now : List Entry) (notes : Notes) (unsettled : List ℕ) → CanFollowAll notes unsettled past now → length now ≡ length past → now ≡ past
count-none past now notes unsettled (inl same) counted = same
count-none past now notes unsettled (inr (inl came)) counted = absurd (omega (arith, ap (λ (es : List Entry). length es) came.came, counted))
count-none past now notes unsettled (inr (inr came)) counted = absurd (omega (arith, ap (λ (es : List Entry). length es) came.store.came, counted))

pub count-one : (past now : List Entry) (notes : Notes) (unsettled : List ℕ) → CanFollowAll notes unsettled past now → length now ≡ length past + 1 → OneFollows notes unsettled past now
count-one past now notes unsettled (inl same) counted = absurd (omega (arith, ap (λ (es : List Entry). length es) same, counted))
count-one past now notes unsettled (inr (inl came)) counted = came
count-one past now notes unsettled (inr (inr came)) counted = absurd (omega (arith, ap (λ (es : List Entry). length es) came.store.came, counted))

pub count-two : (past now : List Entry) (notes : Notes) (unsettled : List ℕ) → CanFollowAll notes unsettled past now → (length now ≡ length past → ⊥) → (length now ≡ length past + 1 → ⊥) → StoreFollows notes past now
count-two past now notes unsettled (inl same) no_none no_one = absurd (no_none (ap (λ (es : List Entry). length es) same))
count-two past now notes unsettled (inr (inl came)) no_none no_one = absurd (no_one (omega (arith, ap (λ (es : List Entry). length es) came.came)))
count-two past now notes unsettled (inr (inr came)) no_none no_one = came

-- A done store and the begin of its transfer came, of the pass and of the page that the last entry names.
pub follows-store : (past now : List Entry) (new : Notes) (pass : ℕ) (page : Page) → StoreCame past now → slice_get now 0 ≡ Some (entry.WriteBegin pass page) → ((nth : ℕ) (file : File) (bytes : List ℕ) (reply : Reply) → NotesStand (entry.WriteBegin pass page ∷ store_entry pass nth page file bytes reply ∷ past) new) → NotesStand now new
follows-store past now new pass page came last stands =
    subst (λ (es : List Entry). NotesStand es new) (sym (came.came ∙ same)) (stands came.nth came.file came.bytes came.reply)
  where
    begun : Some (entry.WriteBegin came.pass came.page) ≡ Some (entry.WriteBegin pass page)
    begun = sym (ap (λ (es : List Entry). slice_get es 0) came.came) ∙ last

    its-pass : (a b : ℕ) (p q : Page) → Some (entry.WriteBegin a p) ≡ Some (entry.WriteBegin b q) → a ≡ b
    its-pass a b p q is = cc

    its-page : (a b : ℕ) (p q : Page) → Some (entry.WriteBegin a p) ≡ Some (entry.WriteBegin b q) → p ≡ q
    its-page a b p q is = cc

    same : entry.WriteBegin came.pass came.page ∷ store_entry came.pass came.nth came.page came.file came.bytes came.reply ∷ past ≡ entry.WriteBegin pass page ∷ store_entry pass came.nth page came.file came.bytes came.reply ∷ past
    same =
        ap (λ (n : ℕ). entry.WriteBegin n came.page ∷ store_entry n came.nth came.page came.file came.bytes came.reply ∷ past) (its-pass came.pass pass came.page page begun)
        ∙ ap (λ (q : Page). entry.WriteBegin pass q ∷ store_entry pass came.nth q came.file came.bytes came.reply ∷ past) (its-page came.pass pass came.page page begun)
