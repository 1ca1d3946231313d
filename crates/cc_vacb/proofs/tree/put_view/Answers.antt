use Rattle.cc_vacb.proofs.Views.{put_view}
use Rattle.cc_vacb.proofs.tree.put_view.Goals as goal

pub returns-clause-ok : goal.returns-clause-ok
returns-clause-ok c = put_view c.args.top c.args.block c.args.view c.args.blocks.now.items _ _ c.in_ok-node.node c.in_ok-node.ensures.extends c.requires.root_in c.put_slot.ensures.put
