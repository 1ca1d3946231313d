use Rattle.std.proofs.Common.{ap, is_some, sym, ◌∙◌}
use Rattle.cc_world.proofs.BlockRows.{blocks-noted, blocks-same}
use Rattle.cc_world.proofs.blocks.Blocks.follow.Goals as goal

pub note-requires : goal.note-requires
note-requires c = record { room = c.requires.room (ap (λ o. is_some o) (sym c.page_brought.ensures ∙ c.in-Some.is)) }

pub returns-in-Some : goal.returns-in-Some
returns-in-Some c past stood =
    blocks-noted past c.args.entry.now _ _ _ (sym c.page_brought.ensures ∙ c.in-Some.is) c.note.ensures.others c.note.ensures.its stood

pub returns-in_default : goal.returns-in_default
returns-in_default c past stood = blocks-same past c.args.entry.now _ (sym c.page_brought.ensures ∙ c.in_default.is) stood
