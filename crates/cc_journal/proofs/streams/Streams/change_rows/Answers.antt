-- By kinds of event: a change touches its pages, a stamp those of its hold, a truncation cuts, and others leave all.
use Rattle.std.specs.Prelude.{ℕ, ◌≡◌, ◌+◌, ◌*◌, Option, Some, None}
use Rattle.std.proofs.Common.{ap, sym, ◌∙◌, subst, refl}
use Rattle.cc_entry.specs.Place.{Range}
use Rattle.cc_entry.specs.Pages.{has_page}
use Rattle.cc_events.specs.declared.event.StreamEvent.{StreamEvent}
use Rattle.cc_events.specs.Touchings.{touching_of, touch_if, cut_by}
use Rattle.cc_model.specs.History.{history}
use Rattle.cc_model.specs.Sizes.{stored_range}
use Rattle.cc_model.specs.Touches.{size_of}
use Rattle.cc_stream.specs.Stream.{Stream, StreamStands}
use Rattle.cc_journal.specs.Streams.{HasRoomForRows, no_state, state_in}
use Rattle.cc_journal.specs.Places.{held_at}
use Rattle.cc_journal.proofs.StreamsSteps.{changed_as, changed_none}
use Rattle.cc_journal.proofs.streams.Streams.change_rows.Goals as goal

-- the room that is asked of the caller, for the range of the event
pub touch_range-requires-clause-within : goal.touch_range-requires-clause-within
touch_range-requires-clause-within c = (rw c.in-Changes.is at c.requires.rows).numbered

pub touch_range-requires-clause-room : goal.touch_range-requires-clause-room
touch_range-requires-clause-room c = (rw c.in-Changes.is at c.requires.rows).room

stored : (c : goal.After-touch_range-arg-in-Stores-1) → HasRoomForRows c.args.self.now.dirty c.args.stream (record { from = 4096 * c.from-from.result; to = c.stored_end-to.result })
stored c =
    let size : c.size.result ≡ (state_in c.args.self.now.states.value c.args.stream).size = c.size.ensures.same ∙ ap (λ (s : Stream). s.size) (c.state.ensures.is no_state) in
    let range : record { from = 4096 * c.from-from.result; to = c.stored_end-to.result } ≡ stored_range c.in-Stores.page (state_in c.args.self.now.states.value c.args.stream).size =
    ap (λ (n : ℕ). record { from = 4096 * n; to = c.stored_end-to.result }) c.from-from.ensures
    ∙ (ap (λ (n : ℕ). record { from = 4096 * c.in-Stores.page; to = n }) c.stored_end-to.ensures
    ∙ ap (λ (n : ℕ). stored_range c.in-Stores.page n) size) in
    subst (λ (r : Range). HasRoomForRows c.args.self.now.dirty c.args.stream r) (sym range) (rw c.in-Stores.is at c.requires.rows)

pub touch_range-requires-in-Stores-clause-within : goal.touch_range-requires-in-Stores-clause-within
touch_range-requires-in-Stores-clause-within c = (stored c).numbered

pub touch_range-requires-in-Stores-clause-room : goal.touch_range-requires-in-Stores-clause-room
touch_range-requires-in-Stores-clause-room c = (stored c).room

stamped : (c : goal.After-from) → HasRoomForRows c.args.self.now.dirty c.args.stream (record { from = c.from-from-in-Some.result; to = c.from-from-in-Some.result + c.from.result })
stamped c =
    let held : held_at c.args.self.now.places.places.entries c.args.stream c.in-Stamps.hold ≡ Some (c.in-Some.at, c.in-Some.len) = sym c.of.ensures ∙ c.in-Some.is in
    rw (c.from-from-in-Some.ensures, c.from.ensures) (rw held at (rw c.in-Stamps.is at c.requires.rows))

pub touch_range-requires-in-Some-clause-within : goal.touch_range-requires-in-Some-clause-within
touch_range-requires-in-Some-clause-within c = (stamped c).numbered

pub touch_range-requires-in-Some-clause-room : goal.touch_range-requires-in-Some-clause-room
touch_range-requires-in-Some-clause-room c = (stamped c).room

pub returns-in-Stores-clause-rows : goal.returns-in-Stores-clause-rows
returns-in-Stores-clause-rows c past stands of_call =
    let h = history past c.args.stream in
    let state = subst (λ (s : Stream). StreamStands h s) (sym (c.state.ensures.is no_state)) (stands.each c.args.stream no_state c.state.ensures.numbered) in
    let range : record { from = 4096 * c.from-from.result; to = c.stored_end-to.result } ≡ stored_range c.in-Stores.page (size_of h) =
    ap (λ (n : ℕ). record { from = 4096 * n; to = c.stored_end-to.result }) c.from-from.ensures
    ∙ (ap (λ (n : ℕ). record { from = 4096 * c.in-Stores.page; to = n }) c.stored_end-to.ensures
    ∙ ap (λ (n : ℕ). stored_range c.in-Stores.page n) (c.size.ensures.stands h state)) in
    changed_as c.args.place c.args.stream (λ p. touch_if (has_page (record { from = 4096 * c.from-from.result; to = c.stored_end-to.result }) p) None) (λ p. touching_of c.args.what h p)
    c.args.self.now.dirty.rows c.touch_range-in-Stores.new.table.rows
    (λ p. ap (λ (r : Range). touch_if (has_page r p) None) range ∙ ap (λ (w : StreamEvent). touching_of w h p) (sym c.in-Stores.is))
    c.touch_range-in-Stores.ensures.rows

pub returns-in-Some-truncation-clause-rows : goal.returns-in-Some-truncation-clause-rows
returns-in-Some-truncation-clause-rows c past stands of_call =
    let h = history past c.args.stream in
    let state = subst (λ (s : Stream). StreamStands h s) (sym (c.state-in-Closes.ensures.is no_state)) (stands.each c.args.stream no_state c.state-in-Closes.ensures.numbered) in
    changed_as c.args.place c.args.stream (cut_by (Some c.in-Some-truncation.to)) (λ p. touching_of c.args.what h p) c.args.self.now.dirty.rows c.cut.new.table.rows
    (λ p. ap (λ (o : Option ℕ). cut_by o p) (sym c.in-Some-truncation.is ∙ c.truncation.ensures h state) ∙ ap (λ (w : StreamEvent). touching_of w h p) (sym c.in-Closes.is))
    (c.cut.ensures.rows c.args.place)

none_of : (o : Option ℕ) → ((x : ℕ) → o ≡ Some x → ⊥) → o ≡ None
none_of None not_some = refl
none_of (Some x) not_some = absurd (not_some x refl)

pub returns-in_default-truncation-clause-rows : goal.returns-in_default-truncation-clause-rows
returns-in_default-truncation-clause-rows c past stands of_call =
    let h = history past c.args.stream in
    let state = subst (λ (s : Stream). StreamStands h s) (sym (c.state-in-Closes.ensures.is no_state)) (stands.each c.args.stream no_state c.state-in-Closes.ensures.numbered) in
    changed_none c.args.place c.args.stream (λ p. touching_of c.args.what h p) c.args.self.now.dirty.rows
    (λ p. ap (λ (w : StreamEvent). touching_of w h p) c.in-Closes.is
    ∙ ap (λ (o : Option ℕ). cut_by o p) (sym (c.truncation.ensures h state) ∙ none_of c.truncation.result c.in_default-truncation.not-Some))
