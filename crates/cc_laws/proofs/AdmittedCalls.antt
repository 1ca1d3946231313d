-- Reasons that do not hold of a call that is done.
use Rattle.std.specs.Prelude.{◌≡◌, ℕ, ◌*◌, ◌<◌, nat_le, List}
use Rattle.std.proofs.lemmas.Bool.{leb-false}
use Rattle.std.specs.declared.option.Option.TheVariants.{None}
use Rattle.cc_entry.specs.declared.call.Call.{Call}
use Rattle.cc_entry.specs.declared.call.Call.TheVariants as call
use Rattle.cc_entry.specs.declared.error.CcError.{CcError}
use Rattle.cc_entry.specs.declared.entry.Entry.{Entry}
use Rattle.cc_model.specs.Setup.{Setup}
use Rattle.cc_model.specs.History.{Effect}
use Rattle.cc_model.specs.Touches.{size_of}
use Rattle.cc_model.specs.Reasons.{refuse_if, beyond_size}
use Rattle.cc_model.specs.Conflicts.{held}
use Rattle.cc_model.specs.Views.{no_vacbs}
use Rattle.cc_model.specs.Refusals.{refusal}
use Rattle.cc_model.specs.Legal.{IsAdmitted}
use Rattle.cc_laws.proofs.UnrefusedCalls.{unrefused, refuse_if-none}

-- no page past the size, no open hold and no want of views bars the call
pub record HasRoom (past : List Entry) (h : List Effect) (call : Call) : Type 0 where
  pub within : beyond_size (size_of h) call ≡ None
  pub unheld : held h call ≡ None
  pub in_pool : no_vacbs past h call ≡ None

HasRoom-unrefused : (u : Setup) (past : List Entry) (h : List Effect) (call : Call) → refusal u past h call ≡ None → HasRoom past h call
HasRoom-unrefused u past h call e =
    let free = unrefused u past h call e in
    record { within = free.within_size; unheld = free.not_held; in_pool = free.within_pool }

-- what a done call has room for; the end of a noncached write passed its tests at its store
abbrev pub HasRoomFor : List Entry → List Effect → Call → Type 0
HasRoomFor past h (call.NcWrite file page) = Unit {0}
HasRoomFor past h other = HasRoom past h other

pub HasRoomFor-admitted : (u : Setup) (past : List Entry) (h : List Effect) (call : Call) → IsAdmitted u past h call → HasRoomFor past h call
HasRoomFor-admitted u past h (call.NcWrite file page) e = tt
HasRoomFor-admitted u past h other e = HasRoom-unrefused u past h other e

-- a noncached store is of a page that begins below the size
pub stores_below : (size page : ℕ) (e : CcError) → refuse_if (nat_le size (4096 * page)) e ≡ None → 4096 * page < size
stores_below size page e is = leb-false size (4096 * page) (refuse_if-none (nat_le size (4096 * page)) e is)
