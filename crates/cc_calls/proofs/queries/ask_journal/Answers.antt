-- What the function of the query left, told as its reply.
use Rattle.std.specs.Prelude.{refl}
use Rattle.std.proofs.Common.{sym, subst}
use Rattle.cc_entry.specs.declared.query.Query.{Query}
use Rattle.cc_entry.specs.declared.query.Query.TheVariants as query
use Rattle.cc_entry.specs.declared.reply.Reply.TheVariants as reply
use Rattle.cc_calls.specs.Answers.{flag_outcome, rows_outcome}
use Rattle.cc_calls.specs.Queries.{AskEnds, flag_reply}
use Rattle.cc_calls.proofs.Asking.{asked-so, never-asked}
use Rattle.cc_calls.proofs.queries.ask_journal.Goals as goal

pub returns-in-DirtyPages : goal.returns-in-DirtyPages
returns-in-DirtyPages g c =
    subst (λ (asked : Query). AskEnds (g.T.Turns.standing c.args.turns.now) (g.T.Turns.standing c.dirty_pages.new.turns) asked c.rows_reply.result) (sym c.in-DirtyPages.is)
    (asked-so reply.Rows rows_outcome (λ a. refl) (λ e. refl) _ _ (query.DirtyPages c.in-DirtyPages.handle) c.dirty_pages.result c.rows_reply.result c.rows_reply.ensures c.dirty_pages.ensures.ends)

pub returns-in-IsDirtyData : goal.returns-in-IsDirtyData
returns-in-IsDirtyData g c =
    subst (λ (asked : Query). AskEnds (g.T.Turns.standing c.args.turns.now) (g.T.Turns.standing c.is_dirty_data.new.turns) asked c.flag_reply.result) (sym c.in-IsDirtyData.is)
    (asked-so flag_reply flag_outcome (λ a. refl) (λ e. refl) _ _ query.IsDirtyData c.is_dirty_data.result c.flag_reply.result c.flag_reply.ensures c.is_dirty_data.ensures.ends)

pub unreachable-requires : goal.unreachable-requires
unreachable-requires g c = never-asked c.args.query c.requires.streamless c.in_default.not-DirtyPages c.in_default.not-IsDirtyData
