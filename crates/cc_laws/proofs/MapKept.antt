-- A change keeps the map of its stream, and a change of bytes keeps its resident pages.
use Rattle.std.specs.Prelude.{◌≡◌, ℕ, ◌+◌, Bool, true, false, not, ◌||◌, List, [], ◌∷◌, ◌++◌, length, refl}
use Rattle.std.specs.declared.option.Option.{Option}
use Rattle.std.proofs.Common.{sym, ◌∙◌}
use Rattle.std.proofs.lemmas.Bool.{or_right}
use Rattle.std.specs.List.{list_any}
use Rattle.cc_entry.specs.declared.call.Call.{Call}
use Rattle.cc_entry.specs.declared.reply.Reply.{Reply}
use Rattle.cc_entry.specs.Pages.{pages_of}
use Rattle.cc_model.specs.Numbers.{is_empty}
use Rattle.cc_model.specs.History.{Effect, Did}
use Rattle.cc_model.specs.Acts.{act_of, Writes, Zeroes, Stores, Stamps}
use Rattle.cc_model.specs.Objects.{objects}
use Rattle.cc_model.specs.Holds.{holds_of, hold_at}
use Rattle.cc_model.specs.Sizes.{Touch, touched_if, hold_pages}
use Rattle.cc_model.specs.Touches.{touched, touches, is_dirty, is_mapped}
use Rattle.cc_model.specs.Residency.{residents, moved_by}
use Rattle.cc_laws.proofs.ObjectSteps.{objects-writes, objects-zeroes, objects-stores, objects-stamps}
use Rattle.cc_laws.proofs.TouchedSteps.{touched-writes, touched-zeroes, touched-stores, touched-stamps}
use Rattle.cc_laws.proofs.TouchSteps.{touches-writes, touches-zeroes, touches-stores, touches-stamps}
use Rattle.cc_laws.proofs.ResidencySteps.{residents-mapped, residents-unmapped}

-- what passes a test passes a weaker one, and stands in a longer list
list_any-weaker : (test weaker : ℕ → Bool) → ((n : ℕ) → test n ≡ true → weaker n ≡ true) → (ns : List ℕ) → list_any test ns ≡ true → list_any weaker ns ≡ true
list_any-weaker test weaker weakens [] some = some
list_any-weaker test weaker weakens (n ∷ ns) some = go (test n) refl some (list_any-weaker test weaker weakens ns)
  where
    go : (t : Bool) → test n ≡ t → (t || list_any test ns) ≡ true → (list_any test ns ≡ true → list_any weaker ns ≡ true) → (weaker n || list_any weaker ns) ≡ true
    go true is some rest = rw (weakens n is) refl
    go false is some rest = or_right (weaker n) (list_any weaker ns) (rest some)

list_any-longer : (test : ℕ → Bool) (more ns : List ℕ) → list_any test ns ≡ true → list_any test (more ++ ns) ≡ true
list_any-longer test [] ns some = some
list_any-longer test (m ∷ more) ns some = or_right (test m) (list_any test (more ++ ns)) (list_any-longer test more ns some)

-- a touch more leaves a page dirty
touched_if-dirty : (b : Bool) (place : ℕ) (lsn : Option ℕ) (rest : List Touch) → not (is_empty rest) ≡ true → not (is_empty (touched_if b place lsn rest)) ≡ true
touched_if-dirty true place lsn rest dirty = refl
touched_if-dirty false place lsn rest dirty = dirty

-- an effect that closes no object and cleans no page keeps the map
is_mapped-grown : (e : Effect) (h : List Effect) (more : List ℕ) → objects (e ∷ h) ≡ objects h → touched (e ∷ h) ≡ more ++ touched h → ((p : ℕ) → is_dirty h p ≡ true → is_dirty (e ∷ h) p ≡ true) → is_mapped h ≡ true → is_mapped (e ∷ h) ≡ true
is_mapped-grown e h more same grown dirty mapped = rw (same, grown) (go (objects h) mapped)
  where
    go : (opened : List ℕ) → (not (is_empty opened) || list_any (is_dirty h) (touched h)) ≡ true → (not (is_empty opened) || list_any (is_dirty (e ∷ h)) (more ++ touched h)) ≡ true
    go [] mapped = list_any-longer (is_dirty (e ∷ h)) more (touched h) (list_any-weaker (is_dirty h) (is_dirty (e ∷ h)) dirty (touched h) mapped)
    go (object ∷ opened) mapped = refl

pub is_dirty-writes : {at : ℕ} {bytes : List ℕ} (pass : ℕ) (call : Call) (reply : Reply) (h : List Effect) (p : ℕ) → act_of call ≡ Writes at bytes → is_dirty h p ≡ true → is_dirty (Did pass call reply ∷ h) p ≡ true
is_dirty-writes pass call reply h p is dirty = rw (touches-writes false pass call reply h p is, is_dirty) (touched_if-dirty _ _ _ (touches false h p) dirty)

pub is_mapped-writes : {at : ℕ} {bytes : List ℕ} (pass : ℕ) (call : Call) (reply : Reply) (h : List Effect) → act_of call ≡ Writes at bytes → is_mapped h ≡ true → is_mapped (Did pass call reply ∷ h) ≡ true
is_mapped-writes {at} {bytes} pass call reply h is mapped =
    is_mapped-grown (Did pass call reply) h (pages_of (record { from = at; to = at + length bytes })) (objects-writes pass call reply h is) (touched-writes pass call reply h is) (λ p dirty. is_dirty-writes pass call reply h p is dirty) mapped

pub is_dirty-zeroes : {from to : ℕ} (pass : ℕ) (call : Call) (reply : Reply) (h : List Effect) (p : ℕ) → act_of call ≡ Zeroes from to → is_dirty h p ≡ true → is_dirty (Did pass call reply ∷ h) p ≡ true
is_dirty-zeroes pass call reply h p is dirty = rw (touches-zeroes false pass call reply h p is, is_dirty) (touched_if-dirty _ _ _ (touches false h p) dirty)

pub is_mapped-zeroes : {from to : ℕ} (pass : ℕ) (call : Call) (reply : Reply) (h : List Effect) → act_of call ≡ Zeroes from to → is_mapped h ≡ true → is_mapped (Did pass call reply ∷ h) ≡ true
is_mapped-zeroes {from} {to} pass call reply h is mapped =
    is_mapped-grown (Did pass call reply) h (pages_of (record { from = from; to = to })) (objects-zeroes pass call reply h is) (touched-zeroes pass call reply h is) (λ p dirty. is_dirty-zeroes pass call reply h p is dirty) mapped

pub is_dirty-stores : {page : ℕ} {bytes : List ℕ} (pass : ℕ) (call : Call) (reply : Reply) (h : List Effect) (p : ℕ) → act_of call ≡ Stores page bytes → is_dirty h p ≡ true → is_dirty (Did pass call reply ∷ h) p ≡ true
is_dirty-stores pass call reply h p is dirty = rw (touches-stores false pass call reply h p is, is_dirty) (touched_if-dirty _ _ _ (touches false h p) dirty)

pub is_mapped-stores : {page : ℕ} {bytes : List ℕ} (pass : ℕ) (call : Call) (reply : Reply) (h : List Effect) → act_of call ≡ Stores page bytes → is_mapped h ≡ true → is_mapped (Did pass call reply ∷ h) ≡ true
is_mapped-stores {page} {bytes} pass call reply h is mapped =
    is_mapped-grown (Did pass call reply) h (page ∷ []) (objects-stores pass call reply h is) (touched-stores pass call reply h is) (λ p dirty. is_dirty-stores pass call reply h p is dirty) mapped

pub is_dirty-stamps : {hold : ℕ} {lsn : Option ℕ} (pass : ℕ) (call : Call) (reply : Reply) (h : List Effect) (p : ℕ) → act_of call ≡ Stamps hold lsn → is_dirty h p ≡ true → is_dirty (Did pass call reply ∷ h) p ≡ true
is_dirty-stamps pass call reply h p is dirty = rw (touches-stamps false pass call reply h p is, is_dirty) (touched_if-dirty _ _ _ (touches false h p) dirty)

pub is_mapped-stamps : {hold : ℕ} {lsn : Option ℕ} (pass : ℕ) (call : Call) (reply : Reply) (h : List Effect) → act_of call ≡ Stamps hold lsn → is_mapped h ≡ true → is_mapped (Did pass call reply ∷ h) ≡ true
is_mapped-stamps {hold} {lsn} pass call reply h is mapped =
    is_mapped-grown (Did pass call reply) h (hold_pages (hold_at (holds_of h) hold)) (objects-stamps pass call reply h is) (touched-stamps pass call reply h is) (λ p dirty. is_dirty-stamps pass call reply h p is dirty) mapped

-- what moves no page keeps the resident pages, with a map or without one
residents-kept : (e : Effect) (h : List Effect) → moved_by e h (residents h) ≡ residents h → (is_mapped h ≡ true → is_mapped (e ∷ h) ≡ true) → residents (e ∷ h) ≡ residents h
residents-kept e h unmoved keeps = go (is_mapped h) (is_mapped (e ∷ h)) refl refl
  where
    go : (old new : Bool) → is_mapped h ≡ old → is_mapped (e ∷ h) ≡ new → residents (e ∷ h) ≡ residents h
    go old true is_old is_new = residents-mapped e h is_new ∙ unmoved
    go true false is_old is_new = let both : true ≡ false = sym (keeps is_old) ∙ is_new in cc
    go false false is_old is_new = residents-unmapped (e ∷ h) is_new ∙ sym (residents-unmapped h is_old)

pub residents-writes_kept : {at : ℕ} {bytes : List ℕ} (pass : ℕ) (call : Call) (reply : Reply) (h : List Effect) → act_of call ≡ Writes at bytes → residents (Did pass call reply ∷ h) ≡ residents h
residents-writes_kept pass call reply h is = residents-kept (Did pass call reply) h (rw (is, moved_by) refl) (is_mapped-writes pass call reply h is)

pub residents-zeroes_kept : {from to : ℕ} (pass : ℕ) (call : Call) (reply : Reply) (h : List Effect) → act_of call ≡ Zeroes from to → residents (Did pass call reply ∷ h) ≡ residents h
residents-zeroes_kept pass call reply h is = residents-kept (Did pass call reply) h (rw (is, moved_by) refl) (is_mapped-zeroes pass call reply h is)

pub residents-stamps_kept : {hold : ℕ} {lsn : Option ℕ} (pass : ℕ) (call : Call) (reply : Reply) (h : List Effect) → act_of call ≡ Stamps hold lsn → residents (Did pass call reply ∷ h) ≡ residents h
residents-stamps_kept pass call reply h is = residents-kept (Did pass call reply) h (rw (is, moved_by) refl) (is_mapped-stamps pass call reply h is)
