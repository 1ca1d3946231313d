use Rattle.std.proofs.Common.{arith}
use Rattle.cc_redo.proofs.Patches.{patch-whole}
use Rattle.cc_redo.proofs.pages.patch.Goals as goal

pub returns : goal.returns
returns c =
    patch-whole (record { at = c.args.at; bytes = c.args.bytes.now }) c.args.page c.max-from.result c.min-to.result c.args.content.now c.copy_from_slice.new.self
    (omega arith) (omega arith) (omega arith) c.requires.begins c.requires.ends c.copy_from_slice.ensures.after
