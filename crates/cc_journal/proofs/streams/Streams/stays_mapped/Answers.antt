-- An object that stays open keeps the map; with none left a dirty row that is not cut keeps it, and nothing else.
use Rattle.std.specs.Prelude.{ℕ, ◌≡◌, ◌∷◌, false}
use Rattle.std.proofs.Common.{ap, sym, subst, ◌∙◌}
use Rattle.cc_entry.specs.declared.call.Call.TheVariants as call
use Rattle.cc_events.specs.Events.{truncation_by}
use Rattle.cc_model.specs.History.{Did, history}
use Rattle.cc_model.specs.Objects.{objects}
use Rattle.cc_model.specs.Touches.{is_mapped, size_of}
use Rattle.cc_journal.proofs.MapClosing.{is_mapped-closes}
use Rattle.cc_journal.proofs.StreamsSteps.{opened_by}
use Rattle.cc_journal.proofs.streams.Streams.stays_mapped.Goals as goal

pub returns-then-has_objects : goal.returns-then-has_objects
returns-then-has_objects c past pass reply stands =
    let it = call.Uninitialise c.args.file c.args.truncate in
    let h = history past c.stream-stream.result in
    let after = c.done.ensures.stands h pass reply (c.state-before.ensures.stands past stands) (c.is_mapped.ensures past stands) in
    let opened = c.has_objects.ensures.stands (Did pass it reply ∷ h) after in
    subst (λ (s : ℕ). c.has_objects.result ≡ is_mapped (Did pass it reply ∷ history past s)) c.stream-stream.ensures
    (c.if-has_objects.true ∙ sym (opened_by (Did pass it reply ∷ h) (sym opened ∙ c.if-has_objects.true)))

pub returns-else-has_objects : goal.returns-else-has_objects
returns-else-has_objects c past pass reply stands =
    let it = call.Uninitialise c.args.file c.args.truncate in
    let h = history past c.stream-stream.result in
    let before = c.state-before.ensures.stands past stands in
    let after = c.done.ensures.stands h pass reply before (c.is_mapped.ensures past stands) in
    let opened = sym c.if-has_objects.false ∙ c.has_objects.ensures.stands (Did pass it reply ∷ h) after in
    let cut = c.truncation-cut.ensures h before ∙ ap (λ (n : ℕ). truncation_by n c.args.truncate (objects h) (size_of h)) c.object.ensures.same in
    subst (λ (s : ℕ). c.has_dirty_left.result ≡ is_mapped (Did pass it reply ∷ history past s)) c.stream-stream.ensures
    (c.has_dirty_left.ensures.left
    ∙ is_mapped-closes past c.args.self.now.dirty.rows c.stream-stream.result pass c.args.file c.args.truncate c.truncation-cut.result reply false stands.unwritten c.has_dirty_left.ensures.sound cut opened)
