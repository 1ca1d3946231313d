-- How the resident pages of a stream, and the order of use of its view blocks, step.
use Rattle.std.specs.Prelude.{◌≡◌, ℕ, Bool, true, false, cond, not, List, [], ◌∷◌, ◌++◌, refl}
use Rattle.std.specs.declared.option.Option.{Option}
use Rattle.std.specs.declared.option.Option.TheVariants.{Some}
use Rattle.std.proofs.Common.{ap, sym, ◌∙◌}
use Rattle.std.specs.List.{filter}
use Rattle.cc_entry.specs.Place.{File, Range}
use Rattle.cc_entry.specs.declared.place.FileSizes.{FileSizes}
use Rattle.cc_entry.specs.declared.call.Call.{Call}
use Rattle.cc_entry.specs.declared.reply.Reply.{Reply}
use Rattle.cc_entry.specs.declared.entry.End.{End}
use Rattle.cc_entry.specs.Pages.{block_of}
use Rattle.cc_model.specs.Numbers.{without}
use Rattle.cc_model.specs.History.{Effect, Did, CameIn, WentOut, Began, Ended, Synced}
use Rattle.cc_model.specs.Acts.{act_of, Opens, Closes, Resizes, Writes, Zeroes, Stores, Stamps, Discards, Looks}
use Rattle.cc_model.specs.Objects.{objects, truncation}
use Rattle.cc_model.specs.Ranges.{span_has}
use Rattle.cc_model.specs.Touches.{size_of, is_mapped}
use Rattle.cc_model.specs.Residency.{below, moved_by, residents, block_is_mapped, used_by, used, order_of_use}
use Rattle.cc_laws.proofs.MapSteps.{is_mapped-opens, is_mapped-looks, is_mapped-came_in, is_mapped-went_out, is_mapped-began, is_mapped-synced}

-- with a map an effect moves the resident pages, and without one there are none
pub residents-mapped : (e : Effect) (h : List Effect) → is_mapped (e ∷ h) ≡ true → residents (e ∷ h) ≡ moved_by e h (residents h)
unfolding residents
residents-mapped e h mapped = rw (mapped, residents) refl

pub residents-unmapped : (h : List Effect) → is_mapped h ≡ false → residents h ≡ []
unfolding residents
residents-unmapped [] unmapped = refl
residents-unmapped (e ∷ h) unmapped = rw (unmapped, residents) refl

-- an effect that leaves the map as it was moves them
residents-moved : (e : Effect) (h : List Effect) → is_mapped (e ∷ h) ≡ is_mapped h → moved_by e h [] ≡ [] → residents (e ∷ h) ≡ moved_by e h (residents h)
residents-moved e h same none = go (is_mapped h) refl
  where
    go : (t : Bool) → is_mapped h ≡ t → residents (e ∷ h) ≡ moved_by e h (residents h)
    go true is = residents-mapped e h (same ∙ is)
    go false is = residents-unmapped (e ∷ h) (same ∙ is) ∙ sym (ap (moved_by e h) (residents-unmapped h is) ∙ none)

pub residents-looks : (pass : ℕ) (call : Call) (reply : Reply) (h : List Effect) → act_of call ≡ Looks → residents (Did pass call reply ∷ h) ≡ residents h
residents-looks pass call reply h is = residents-moved (Did pass call reply) h (is_mapped-looks pass call reply h is) (rw (is, moved_by) refl) ∙ rw (is, moved_by) refl

pub residents-opens : {file : File} {given : FileSizes} {quota : ℕ} {temporary : Bool} (pass : ℕ) (call : Call) (reply : Reply) (h : List Effect) → act_of call ≡ Opens file given quota temporary → residents (Did pass call reply ∷ h) ≡ residents h
residents-opens pass call reply h is = residents-mapped (Did pass call reply) h (is_mapped-opens pass call reply h is) ∙ rw (is, moved_by) refl

pub residents-closes : {file : File} {truncate : Option ℕ} (pass : ℕ) (call : Call) (reply : Reply) (h : List Effect) → act_of call ≡ Closes file truncate → is_mapped (Did pass call reply ∷ h) ≡ true → residents (Did pass call reply ∷ h) ≡ below (truncation (objects h) (size_of h) file truncate) (residents h)
residents-closes pass call reply h is mapped = residents-mapped (Did pass call reply) h mapped ∙ rw (is, moved_by) refl

pub residents-resizes : {allocation size : ℕ} (pass : ℕ) (call : Call) (reply : Reply) (h : List Effect) → act_of call ≡ Resizes allocation size → is_mapped (Did pass call reply ∷ h) ≡ true → residents (Did pass call reply ∷ h) ≡ below (Some size) (residents h)
residents-resizes pass call reply h is mapped = residents-mapped (Did pass call reply) h mapped ∙ rw (is, moved_by) refl

pub residents-writes : {at : ℕ} {bytes : List ℕ} (pass : ℕ) (call : Call) (reply : Reply) (h : List Effect) → act_of call ≡ Writes at bytes → is_mapped (Did pass call reply ∷ h) ≡ true → residents (Did pass call reply ∷ h) ≡ residents h
residents-writes pass call reply h is mapped = residents-mapped (Did pass call reply) h mapped ∙ rw (is, moved_by) refl

pub residents-zeroes : {from to : ℕ} (pass : ℕ) (call : Call) (reply : Reply) (h : List Effect) → act_of call ≡ Zeroes from to → is_mapped (Did pass call reply ∷ h) ≡ true → residents (Did pass call reply ∷ h) ≡ residents h
residents-zeroes pass call reply h is mapped = residents-mapped (Did pass call reply) h mapped ∙ rw (is, moved_by) refl

pub residents-stores : {page : ℕ} {bytes : List ℕ} (pass : ℕ) (call : Call) (reply : Reply) (h : List Effect) → act_of call ≡ Stores page bytes → is_mapped (Did pass call reply ∷ h) ≡ true → residents (Did pass call reply ∷ h) ≡ page ∷ without page (residents h)
residents-stores pass call reply h is mapped = residents-mapped (Did pass call reply) h mapped ∙ rw (is, moved_by) refl

pub residents-stamps : {hold : ℕ} {lsn : Option ℕ} (pass : ℕ) (call : Call) (reply : Reply) (h : List Effect) → act_of call ≡ Stamps hold lsn → is_mapped (Did pass call reply ∷ h) ≡ true → residents (Did pass call reply ∷ h) ≡ residents h
residents-stamps pass call reply h is mapped = residents-mapped (Did pass call reply) h mapped ∙ rw (is, moved_by) refl

pub residents-discards : {span : Option Range} (pass : ℕ) (call : Call) (reply : Reply) (h : List Effect) → act_of call ≡ Discards span → is_mapped (Did pass call reply ∷ h) ≡ true → residents (Did pass call reply ∷ h) ≡ filter (λ p. not (span_has span p)) (residents h)
residents-discards pass call reply h is mapped = residents-mapped (Did pass call reply) h mapped ∙ rw (is, moved_by) refl

pub residents-came_in : (pass page : ℕ) (from_disk : Bool) (h : List Effect) → is_mapped h ≡ true → residents (CameIn pass page from_disk ∷ h) ≡ page ∷ without page (residents h)
residents-came_in pass page from_disk h mapped = residents-mapped (CameIn pass page from_disk) h (is_mapped-came_in pass page from_disk h ∙ mapped)

pub residents-went_out : (pass page : ℕ) (h : List Effect) → residents (WentOut pass page ∷ h) ≡ without page (residents h)
residents-went_out pass page h = residents-moved (WentOut pass page) h (is_mapped-went_out pass page h) refl

pub residents-began : (pass page : ℕ) (h : List Effect) → residents (Began pass page ∷ h) ≡ residents h
residents-began pass page h = residents-moved (Began pass page) h (is_mapped-began pass page h) refl

pub residents-ended : (pass page : ℕ) (how : End) (h : List Effect) → is_mapped (Ended pass page how ∷ h) ≡ true → residents (Ended pass page how ∷ h) ≡ residents h
residents-ended pass page how h mapped = residents-mapped (Ended pass page how) h mapped

pub residents-synced : (pass : ℕ) (how : End) (h : List Effect) → residents (Synced pass how ∷ h) ≡ residents h
residents-synced pass how h = residents-moved (Synced pass how) h (is_mapped-synced pass how h) refl

-- the order of use
pub order_of_use-effect : (e : Effect) (h : List Effect) → order_of_use (e ∷ h) ≡ filter (block_is_mapped (e ∷ h)) (used (used_by e h) (order_of_use h))
unfolding order_of_use
order_of_use-effect e h = refl

filter-again : (test : ℕ → Bool) (ns : List ℕ) → filter test (filter test ns) ≡ filter test ns
filter-again test [] = refl
filter-again test (n ∷ ns) = go (test n) refl (filter-again test ns)
  where
    go : (t : Bool) → test n ≡ t → filter test (filter test ns) ≡ filter test ns → filter test (cond t (n ∷ filter test ns) (filter test ns)) ≡ cond t (n ∷ filter test ns) (filter test ns)
    go true is rest = rw (is, rest) refl
    go false is rest = rest

-- it has mapped blocks alone
order_of_use-mapped : (h : List Effect) → filter (block_is_mapped h) (order_of_use h) ≡ order_of_use h
unfolding order_of_use
order_of_use-mapped [] = refl
order_of_use-mapped (e ∷ h) = filter-again (block_is_mapped (e ∷ h)) (used (used_by e h) (order_of_use h))

-- what uses no block and moves no page leaves it
order_of_use-kept : (e : Effect) (h : List Effect) → used_by e h ≡ [] → residents (e ∷ h) ≡ residents h → order_of_use (e ∷ h) ≡ order_of_use h
order_of_use-kept e h unused kept = order_of_use-effect e h ∙ rw (unused, kept, block_is_mapped) (order_of_use-mapped h)

pub order_of_use-began : (pass page : ℕ) (h : List Effect) → order_of_use (Began pass page ∷ h) ≡ order_of_use h
order_of_use-began pass page h = order_of_use-kept (Began pass page) h refl (residents-began pass page h)

pub order_of_use-ended : (pass page : ℕ) (how : End) (h : List Effect) → is_mapped (Ended pass page how ∷ h) ≡ true → order_of_use (Ended pass page how ∷ h) ≡ order_of_use h
order_of_use-ended pass page how h mapped = order_of_use-kept (Ended pass page how) h refl (residents-ended pass page how h mapped)

pub order_of_use-synced : (pass : ℕ) (how : End) (h : List Effect) → order_of_use (Synced pass how ∷ h) ≡ order_of_use h
order_of_use-synced pass how h = order_of_use-kept (Synced pass how) h refl (residents-synced pass how h)

pub order_of_use-done : (pass : ℕ) (call : Call) (reply : Reply) (h : List Effect) → order_of_use (Did pass call reply ∷ h) ≡ filter (block_is_mapped (Did pass call reply ∷ h)) (used (used_by (Did pass call reply) h) (order_of_use h))
order_of_use-done pass call reply h = order_of_use-effect (Did pass call reply) h

pub order_of_use-came_in : (pass page : ℕ) (from_disk : Bool) (h : List Effect) → order_of_use (CameIn pass page from_disk ∷ h) ≡ filter (block_is_mapped (CameIn pass page from_disk ∷ h)) (without (block_of page) (order_of_use h) ++ block_of page ∷ [])
order_of_use-came_in pass page from_disk h = order_of_use-effect (CameIn pass page from_disk) h

pub order_of_use-went_out : (pass page : ℕ) (h : List Effect) → order_of_use (WentOut pass page ∷ h) ≡ filter (block_is_mapped (WentOut pass page ∷ h)) (order_of_use h)
order_of_use-went_out pass page h = order_of_use-effect (WentOut pass page) h

-- a call that uses no block and moves no page leaves it
pub order_of_use-unused : (pass : ℕ) (call : Call) (reply : Reply) (h : List Effect) → used_by (Did pass call reply) h ≡ [] → residents (Did pass call reply ∷ h) ≡ residents h → order_of_use (Did pass call reply ∷ h) ≡ order_of_use h
order_of_use-unused pass call reply h unused kept = order_of_use-kept (Did pass call reply) h unused kept
