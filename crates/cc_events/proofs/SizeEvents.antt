-- How the sizes of a stream step at an event.
use Rattle.std.specs.Prelude.{◌≡◌, ℕ, Bool, true, false, min, List, if◌then◌else◌, refl}
use Rattle.std.specs.declared.option.Option.{Option}
use Rattle.std.specs.declared.option.Option.TheVariants.{Some, None}
use Rattle.std.specs.List.{cons_option}
use Rattle.std.proofs.Common.{ap, ◌∙◌}
use Rattle.cc_model.specs.History.{Effect, Did, CameIn, WentOut, Began, Ended, Synced}
use Rattle.cc_model.specs.Acts.{Act, act_of, Opens, Closes, Resizes, Writes, Zeroes, Stores, Stamps, Discards, Looks}
use Rattle.cc_model.specs.Objects.{objects, truncation}
use Rattle.cc_model.specs.Sizes.{Sizes, resized_by}
use Rattle.cc_model.specs.Touches.{sizes, size_of, valid_of, is_mapped}
use Rattle.cc_events.specs.Events.{event_of, event_of_act, size_after, valid_after}
use Rattle.cc_laws.proofs.ActSteps.{sizes_by, sizes-done}

cut_size : (o : Option ℕ) (h : List Effect) → (resized_by o (sizes h)).size ≡ elim o [ None ↦ size_of h | Some to ↦ to ]
cut_size None h = refl
cut_size (Some to) h = refl

cut_valid : (o : Option ℕ) (h : List Effect) → (resized_by o (sizes h)).valid ≡ elim o [ None ↦ valid_of h | Some to ↦ min (valid_of h) to ]
cut_valid None h = refl
cut_valid (Some to) h = refl

opened_size : (b : Bool) (h : List Effect) (size valid : ℕ) → (elim b as (λ x. Sizes) [ true ↦ sizes h | false ↦ record { size = size; valid = valid } ]).size ≡ (if b then size_of h else size)
opened_size true h size valid = refl
opened_size false h size valid = refl

opened_valid : (b : Bool) (h : List Effect) (size valid : ℕ) → (elim b as (λ x. Sizes) [ true ↦ sizes h | false ↦ record { size = size; valid = valid } ]).valid ≡ (if b then valid_of h else valid)
opened_valid true h size valid = refl
opened_valid false h size valid = refl

size_by : (a : Act) (h : List Effect) → (sizes_by a h).size ≡ size_after (event_of_act a) h
size_by (Opens file given quota temporary) h = opened_size (is_mapped h) h given.size given.valid
size_by (Closes file None) h = refl
size_by (Closes file (Some to)) h = cut_size (truncation (objects h) (size_of h) file (Some to)) h
size_by (Resizes allocation size) h = refl
size_by (Writes at bytes) h = refl
size_by (Zeroes from to) h = refl
size_by (Stores page bytes) h = refl
size_by (Stamps hold lsn) h = refl
size_by (Discards span) h = refl
size_by Looks h = refl

valid_by : (a : Act) (h : List Effect) → (sizes_by a h).valid ≡ valid_after (event_of_act a) h
valid_by (Opens file given quota temporary) h = opened_valid (is_mapped h) h given.size given.valid
valid_by (Closes file None) h = refl
valid_by (Closes file (Some to)) h = cut_valid (truncation (objects h) (size_of h) file (Some to)) h
valid_by (Resizes allocation size) h = refl
valid_by (Writes at bytes) h = refl
valid_by (Zeroes from to) h = refl
valid_by (Stores page bytes) h = refl
valid_by (Stamps hold lsn) h = refl
valid_by (Discards span) h = refl
valid_by Looks h = refl

pub size-event : (o : Option Effect) (h : List Effect) → size_of (cons_option o h) ≡ size_after (event_of o) h
unfolding sizes
size-event None h = refl
size-event (Some (Did pass call reply)) h = ap (λ (s : Sizes). s.size) (sizes-done pass call reply h) ∙ size_by (act_of call) h
size-event (Some (CameIn pass page from_disk)) h = refl
size-event (Some (WentOut pass page)) h = refl
size-event (Some (Began pass page)) h = refl
size-event (Some (Ended pass page how)) h = refl
size-event (Some (Synced pass how)) h = refl

pub valid-event : (o : Option Effect) (h : List Effect) → valid_of (cons_option o h) ≡ valid_after (event_of o) h
unfolding sizes
valid-event None h = refl
valid-event (Some (Did pass call reply)) h = ap (λ (s : Sizes). s.valid) (sizes-done pass call reply h) ∙ valid_by (act_of call) h
valid-event (Some (CameIn pass page from_disk)) h = refl
valid-event (Some (WentOut pass page)) h = refl
valid-event (Some (Began pass page)) h = refl
valid-event (Some (Ended pass page how)) h = refl
valid-event (Some (Synced pass how)) h = refl
