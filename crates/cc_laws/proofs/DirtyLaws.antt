-- Which pages are dirty after a change, a set-dirty and a size step.
use Rattle.std.specs.Prelude.{◌≡◌, ℕ, ◌+◌, ◌*◌, Bool, true, false, not, ◌&&◌, ◌||◌, nat_le, List, [], ◌∷◌, length, refl, if◌then◌else◌}
use Rattle.std.specs.declared.option.Option.{Option}
use Rattle.std.specs.declared.option.Option.TheVariants.{Some}
use Rattle.cc_entry.specs.declared.call.Call.{Call}
use Rattle.cc_entry.specs.declared.reply.Reply.{Reply}
use Rattle.cc_entry.specs.Pages.{has_page}
use Rattle.cc_model.specs.Numbers.{is_empty}
use Rattle.cc_model.specs.History.{Effect, Did}
use Rattle.cc_model.specs.Acts.{act_of, Resizes, Writes, Zeroes, Stores, Stamps}
use Rattle.cc_model.specs.Holds.{holds_of, hold_at}
use Rattle.cc_model.specs.Sizes.{Touch, touched_if, cut_if, hold_has, stored_range}
use Rattle.cc_model.specs.Touches.{touches, size_of, is_dirty}
use Rattle.cc_laws.proofs.TouchSteps.{touches-resizes, touches-writes, touches-zeroes, touches-stores, touches-stamps}

dirty-touched : (b : Bool) (place : ℕ) (lsn : Option ℕ) (rest : List Touch) → not (is_empty (touched_if b place lsn rest)) ≡ (b || not (is_empty rest))
dirty-touched true place lsn rest = refl
dirty-touched false place lsn rest = refl

dirty-cut : (to p : ℕ) (rest : List Touch) → not (is_empty (cut_if (Some to) p rest)) ≡ (not (nat_le to (4096 * p)) && not (is_empty rest))
dirty-cut to p rest = go (nat_le to (4096 * p))
  where
    go : (b : Bool) → not (is_empty (if b then [] else rest)) ≡ (not b && not (is_empty rest))
    go true = refl
    go false = refl

pub is_dirty-written : (pass : ℕ) (call : Call) (reply : Reply) (h : List Effect) (at : ℕ) (bytes : List ℕ) (p : ℕ) → act_of call ≡ Writes at bytes → is_dirty (Did pass call reply ∷ h) p ≡ (has_page (record { from = at; to = at + length bytes }) p || is_dirty h p)
is_dirty-written pass call reply h at bytes p is = rw (touches-writes false pass call reply h p is, is_dirty) (dirty-touched _ _ _ (touches false h p))

pub is_dirty-zeroed : (pass : ℕ) (call : Call) (reply : Reply) (h : List Effect) (from to p : ℕ) → act_of call ≡ Zeroes from to → is_dirty (Did pass call reply ∷ h) p ≡ (has_page (record { from = from; to = to }) p || is_dirty h p)
is_dirty-zeroed pass call reply h from to p is = rw (touches-zeroes false pass call reply h p is, is_dirty) (dirty-touched _ _ _ (touches false h p))

pub is_dirty-stored : (pass : ℕ) (call : Call) (reply : Reply) (h : List Effect) (page : ℕ) (bytes : List ℕ) (p : ℕ) → act_of call ≡ Stores page bytes → is_dirty (Did pass call reply ∷ h) p ≡ (has_page (stored_range page (size_of h)) p || is_dirty h p)
is_dirty-stored pass call reply h page bytes p is = rw (touches-stores false pass call reply h p is, is_dirty) (dirty-touched _ _ _ (touches false h p))

pub is_dirty-stamped : (pass : ℕ) (call : Call) (reply : Reply) (h : List Effect) (hold : ℕ) (lsn : Option ℕ) (p : ℕ) → act_of call ≡ Stamps hold lsn → is_dirty (Did pass call reply ∷ h) p ≡ (hold_has (hold_at (holds_of h) hold) p || is_dirty h p)
is_dirty-stamped pass call reply h hold lsn p is = rw (touches-stamps false pass call reply h p is, is_dirty) (dirty-touched _ _ _ (touches false h p))

pub is_dirty-resized : (pass : ℕ) (call : Call) (reply : Reply) (h : List Effect) (allocation size p : ℕ) → act_of call ≡ Resizes allocation size → is_dirty (Did pass call reply ∷ h) p ≡ (not (nat_le size (4096 * p)) && is_dirty h p)
is_dirty-resized pass call reply h allocation size p is = rw (touches-resizes false pass call reply h p is, is_dirty) (dirty-cut size p (touches false h p))
