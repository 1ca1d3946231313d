-- What the book answers, with what was read, is the reply that the read may end with; the copy of it is the same.
use Rattle.std.specs.Prelude.{◌≡◌, [], ◌∷◌}
use Rattle.std.proofs.Common.{sym, subst}
use Rattle.cc_entry.specs.declared.call.Call.TheVariants as call
use Rattle.cc_entry.specs.declared.reply.Outcome.TheVariants as outcome
use Rattle.cc_entry.specs.declared.reply.Reply.{Reply}
use Rattle.cc_entry.specs.declared.reply.Reply.TheVariants as reply
use Rattle.cc_world.specs.Calls.{CallWent}
use Rattle.cc_effects.specs.Events.{call_entry}
use Rattle.cc_world.proofs.page_bytes.finish_read.Goals as goal

pub returns-clause-done : goal.returns-clause-done
returns-clause-done g c u may =
    let j = c.args.journal.now in
    subst (λ (r : Reply). CallWent u (call_entry j.entries c.args.pass (call.NcRead c.args.file c.args.page) (outcome.Done r) ∷ []) c.args.book.now c.done.new.book j c.done.new.journal) (sym c.in_ok-copy.ensures)
    (c.in_ok-done.ensures.placed u (record {
      unrefused = may.unrefused;
      may = record {
        reply_is = c.in_ok-read_noncached.ensures (u.opening c.args.book.now.stream) j.entries may.unrefused.made.stands.stand.stands may.read;
        may_end = (tt, may.ready);
      };
    }))
