-- When what is kept of images may follow an entry.
use Rattle.std.specs.Prelude.{◌≡◌, ℕ, Bool, false, not, List, ◌∷◌, Some}
use Rattle.cc_entry.specs.Place.{File, Page}
use Rattle.cc_entry.specs.declared.place.FileSizes.{FileSizes}
use Rattle.cc_entry.specs.declared.call.Call.{Call}
use Rattle.cc_entry.specs.declared.call.Call.TheVariants as call
use Rattle.cc_entry.specs.declared.reply.Reply.{Reply}
use Rattle.cc_entry.specs.declared.reply.Outcome.TheVariants as outcome
use Rattle.cc_entry.specs.declared.entry.End.{End}
use Rattle.cc_entry.specs.declared.entry.Entry.{Entry}
use Rattle.cc_entry.specs.declared.entry.Entry.TheVariants as entry
use Rattle.cc_model.specs.Good.{IsGoodSoFar}
use Rattle.cc_model.specs.History.{Effect, Did, history}
use Rattle.cc_model.specs.Setup.{Setup}
use Rattle.cc_model.specs.Touches.{valid_of, is_mapped}
use Rattle.cc_images.specs.Images.{Images, ImagesStand}

-- whether a call makes the map, where it is done on such a stream
abbrev pub makes_map : List Effect → Call → Bool
makes_map h (call.Initialise file sizes quota temporary) = not (is_mapped h)
makes_map h other = false

-- A call of a stream that makes no map may be followed: the journal with it is good so far, the images stand
-- for the stream before it, and so do the valid data lengths before and after it.
pub record MayFollowImages (u : Setup) (past : List Entry) (pass nth s : ℕ) (call : Call) (reply : Reply)
    (i : Images) (was now : ℕ) : Type 0 where
  pub good : IsGoodSoFar u (entry.Call pass nth (Some s) call (outcome.Done reply) ∷ past)
  pub stands : ImagesStand (history past s) i
  pub makes_none : makes_map (history past s) call ≡ false
  pub was_is : was ≡ valid_of (history past s)
  pub now_is : now ≡ valid_of (Did pass call reply ∷ history past s)

-- there is a journal at whose end such a call may be followed
pub record IsFollowingImages (i : Images) (was now : ℕ) : Type 0 where
  pub u : Setup
  pub past : List Entry
  pub pass : ℕ
  pub nth : ℕ
  pub s : ℕ
  pub call : Call
  pub reply : Reply
  pub may : MayFollowImages u past pass nth s call reply i was now

-- an initialise that makes the map of a stream may be followed
pub record MayOpen (u : Setup) (past : List Entry) (pass nth s : ℕ) (file : File) (sizes : FileSizes)
    (quota : ℕ) (temporary : Bool) (reply : Reply) (i : Images) : Type 0 where
  pub good : IsGoodSoFar u
      (entry.Call pass nth (Some s) (call.Initialise file sizes quota temporary) (outcome.Done reply) ∷ past)
  pub stands : ImagesStand (history past s) i
  pub unmapped : is_mapped (history past s) ≡ false

-- the end of a page's transfer may be followed, at this valid data length
pub record MayEndTransfer (u : Setup) (past : List Entry) (pass : ℕ) (page : Page) (how : End) (i : Images)
    (valid : ℕ) : Type 0 where
  pub good : IsGoodSoFar u (entry.WriteEnd pass page how ∷ past)
  pub stands : ImagesStand (history past page.stream) i
  pub valid_is : valid ≡ valid_of (history past page.stream)

-- there is a journal at whose end it may be followed
pub record IsEnding (page : ℕ) (how : End) (i : Images) (valid : ℕ) : Type 0 where
  pub u : Setup
  pub past : List Entry
  pub pass : ℕ
  pub s : ℕ
  pub may : MayEndTransfer u past pass (record { stream = s; page = page }) how i valid
