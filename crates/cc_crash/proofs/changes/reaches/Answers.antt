use Rattle.std.proofs.Common.{subst, sym}
use Rattle.cc_entry.specs.declared.call.Call.{Call}
use Rattle.cc_model.specs.Acts.{act_of}
use Rattle.cc_crash.specs.DiskPages.{LeavesPage}
use Rattle.cc_crash.proofs.changes.reaches.Goals as goal

pub returns-in-CopyWrite : goal.returns-in-CopyWrite
returns-in-CopyWrite c = λ none. subst (λ (it : Call). LeavesPage (act_of it) c.args.page.page) (sym c.in-CopyWrite.is) (c.meets_bytes.ensures none)

pub returns-in-PinnedWrite : goal.returns-in-PinnedWrite
returns-in-PinnedWrite c = λ none. subst (λ (it : Call). LeavesPage (act_of it) c.args.page.page) (sym c.in-PinnedWrite.is) (c.meets_bytes-in-PinnedWrite.ensures none)

pub returns-in-MdlStore : goal.returns-in-MdlStore
returns-in-MdlStore c = λ none. subst (λ (it : Call). LeavesPage (act_of it) c.args.page.page) (sym c.in-MdlStore.is) (c.meets_bytes-in-MdlStore.ensures none)
