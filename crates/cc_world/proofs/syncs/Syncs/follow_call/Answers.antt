use Rattle.std.specs.Prelude.{◌==◌, not}
use Rattle.std.proofs.Common.{rules}
use Rattle.std.proofs.lemmas.Fn.{filter_same}
use Rattle.cc_world.proofs.SyncRows.{syncs-call}
use Rattle.cc_world.specs.declared.syncs.Synced.{Synced}
use Rattle.cc_world.proofs.syncs.Syncs.follow_call.Goals as goal

pub returns : goal.returns
returns c past nth stream it ended stood =
    syncs-call past c.args.pass nth stream it ended _ _
    (filter_same _ (λ (row : Synced). not (row.pass == c.args.pass)) _ (λ x b f' k. search rules) _ _ c.retain.ensures.filtered) stood
