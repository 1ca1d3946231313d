-- What the World keeps beside its journal as entries come, what it stands for, and what an event adds to the entries.
use Rattle.std.specs.Prelude.{◌≡◌, ◌⊎◌, ℕ, ◌<◌, Bool, true, false, ◌&&◌, ◌==◌, is_some, List, [], ◌∷◌, vec_capacity, vec_len}
use Rattle.std.specs.declared.option.Option.{Option}
use Rattle.std.specs.declared.option.Option.TheVariants.{Some, None}
use Rattle.cc_entry.specs.Place.{File, Page}
use Rattle.cc_entry.specs.declared.call.Call.{Call}
use Rattle.cc_entry.specs.declared.call.Call.TheVariants as call
use Rattle.cc_entry.specs.declared.entry.End.{End}
use Rattle.cc_entry.specs.declared.entry.Entry.{Entry}
use Rattle.cc_entry.specs.declared.entry.Entry.TheVariants as entry
use Rattle.cc_entry.specs.declared.reply.Reply.{Reply}
use Rattle.cc_effects.specs.Events.{beginner}
use Rattle.cc_effects.specs.declared.events.Event.{Event}
use Rattle.cc_effects.specs.declared.events.Event.TheVariants as event
use Rattle.cc_model.specs.Flushed.{is_ok_sync_of}
use Rattle.cc_model.specs.History.{history}
use Rattle.cc_model.specs.Images.{open_of}
use Rattle.cc_model.specs.Passes.{pass_of}
use Rattle.cc_world.specs.Blocks.{BlocksStand, page_brought}
use Rattle.cc_world.specs.Passes.{HasRoomFor, PassesStand, has_row, store_entry}
use Rattle.cc_world.specs.Syncs.{AreUnsettled, SyncsStand}
use Rattle.cc_world.specs.declared.notes.Notes.{Notes}

-- what is kept stands for a past
pub record NotesStand (past : List Entry) (notes : Notes) : Type 0 where
  pub passes : PassesStand past notes.passes.rows.items
  pub syncs : SyncsStand past notes.syncs.rows.items
  pub blocks : BlocksStand past notes.blocks.pages.items

-- There is room to follow an entry; where it is a good sync, these pages are unsettled.
pub record CanFollow (notes : Notes) (unsettled : List ℕ) (past : List Entry) (e : Entry) : Type 0 where
  pub pass : (me : ℕ) → pass_of e ≡ Some me → HasRoomFor me notes.passes.rows.items (vec_capacity notes.passes.rows)
  pub sync : (me s : ℕ) → is_ok_sync_of me s e ≡ true →
      (vec_len notes.syncs.rows < vec_capacity notes.syncs.rows) × AreUnsettled past me s unsettled
  pub block : is_some (page_brought e) ≡ true → vec_len notes.blocks.pages < vec_capacity notes.blocks.pages

-- a done noncached store of a page by a pass came, and the begin of the page's transfer
pub record StoreCame (past now : List Entry) : Type 0 where
  pub pass : ℕ
  pub nth : ℕ
  pub page : Page
  pub file : File
  pub bytes : List ℕ
  pub reply : Reply
  pub came : now ≡ entry.WriteBegin pass page ∷ store_entry pass nth page file bytes reply ∷ past

-- the pass of the entry that an event places, where it has one
abbrev pub pass_of_event : {Q : Type 0} → List Entry → Event Q → Option ℕ
pass_of_event past (event.Fill pass page) = Some pass
pass_of_event past (event.Drop page) = Some 1
pass_of_event past (event.WriteBegin pass page) = Some pass
pass_of_event past (event.WriteEnd page) = Some (beginner (open_of (history past page.stream)))
pass_of_event past (event.Sync pass stream) = Some pass
pass_of_event past (event.Do pass it) = Some pass
pass_of_event past (event.Fail pass it) = Some pass
pass_of_event past (event.Append pass handle bytes) = Some pass
pass_of_event past (event.LogFlush pass handle to) = Some pass
pass_of_event past (event.Scan pass) = Some pass
pass_of_event past (event.Defer pass file bytes retrying routine) = Some pass
pass_of_event past (event.Post pass) = None

-- the same, but for that of a transfer's end, which began it
abbrev pub pass_admitted : {Q : Type 0} → Event Q → Option ℕ
pass_admitted (event.Fill pass page) = Some pass
pass_admitted (event.Drop page) = Some 1
pass_admitted (event.WriteBegin pass page) = Some pass
pass_admitted (event.WriteEnd page) = None
pass_admitted (event.Sync pass stream) = Some pass
pass_admitted (event.Do pass it) = Some pass
pass_admitted (event.Fail pass it) = Some pass
pass_admitted (event.Append pass handle bytes) = Some pass
pass_admitted (event.LogFlush pass handle to) = Some pass
pass_admitted (event.Scan pass) = Some pass
pass_admitted (event.Defer pass file bytes retrying routine) = Some pass
pass_admitted (event.Post pass) = None

-- whether an event may bring a page in
abbrev pub may_bring : {Q : Type 0} → Event Q → Bool
may_bring (event.Fill pass page) = true
may_bring (event.Do pass (call.NcStore file page bytes)) = true
may_bring other = false

-- whether it syncs the stream for the pass
abbrev pub is_sync_of : {Q : Type 0} → ℕ → ℕ → Event Q → Bool
is_sync_of me s (event.Sync pass stream) = pass == me && stream == s
is_sync_of me s other = false

-- an entry is of a kind that an event may place
pub record IsPlacedBy {Q : Type 0} (past : List Entry) (it : Event Q) (e : Entry) : Type 0 where
  pub pass : pass_of e ≡ pass_of_event past it
  pub sync : (me s : ℕ) → is_ok_sync_of me s e ≡ true → is_sync_of me s it ≡ true
  pub block : is_some (page_brought e) ≡ true → may_bring it ≡ true

-- one entry came
pub record OneCame {Q : Type 0} (past now : List Entry) (it : Event Q) : Type 0 where
  pub entry : Entry
  pub came : now ≡ entry ∷ past
  pub placed : IsPlacedBy past it entry

-- a store of the event came
pub record ItsStoreCame {Q : Type 0} (past now : List Entry) (it : Event Q) : Type 0 where
  pub store : StoreCame past now
  pub pass : Some store.pass ≡ pass_of_event past it
  pub block : may_bring it ≡ true

-- What an event adds to the entries: nothing, one entry, or a done noncached store with the begin of the page's transfer.
abbrev pub Grew : {Q : Type 0} → List Entry → List Entry → Event Q → Type 0
Grew past now it = (now ≡ past) ⊎ (OneCame past now it ⊎ ItsStoreCame past now it)

-- There is room to follow what an event adds; where it is a sync, these pages are unsettled.
pub record CanFollowEvent {Q : Type 0} (notes : Notes) (unsettled : List ℕ) (past : List Entry) (it : Event Q) : Type 0 where
  pub pass : (me : ℕ) → pass_of_event past it ≡ Some me → HasRoomFor me notes.passes.rows.items (vec_capacity notes.passes.rows)
  pub sync : (me s : ℕ) → is_sync_of me s it ≡ true →
      (vec_len notes.syncs.rows < vec_capacity notes.syncs.rows) × AreUnsettled past me s unsettled
  pub block : may_bring it ≡ true → vec_len notes.blocks.pages < vec_capacity notes.blocks.pages

-- There is room to follow what came.
pub record OneFollows (notes : Notes) (unsettled : List ℕ) (past now : List Entry) : Type 0 where
  pub entry : Entry
  pub came : now ≡ entry ∷ past
  pub can : CanFollow notes unsettled past entry

pub record StoreFollows (notes : Notes) (past now : List Entry) : Type 0 where
  pub store : StoreCame past now
  pub pass : HasRoomFor store.pass notes.passes.rows.items (vec_capacity notes.passes.rows)
  pub block : vec_len notes.blocks.pages < vec_capacity notes.blocks.pages

abbrev pub CanFollowAll : Notes → List ℕ → List Entry → List Entry → Type 0
CanFollowAll notes unsettled past now =
    (now ≡ past) ⊎ (OneFollows notes unsettled past now ⊎ StoreFollows notes past now)
