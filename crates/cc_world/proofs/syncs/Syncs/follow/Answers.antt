-- A good sync puts its row behind those that it does not end.
use Rattle.std.specs.Prelude.{not, refl}
use Rattle.std.proofs.Common.{rules, arith, subst, sym, ◌∙◌}
use Rattle.std.proofs.lemmas.Fn.{filter_same}
use Rattle.cc_world.specs.Syncs.{AreUnsettled, ends_row}
use Rattle.cc_world.specs.declared.syncs.Synced.{Synced}
use Rattle.cc_world.proofs.SyncRows.{sync-ok, syncs-good, syncs-no_sync}
use Rattle.cc_world.proofs.syncs.Syncs.follow.Goals as goal

pub push_reserved-requires : goal.push_reserved-requires
push_reserved-requires c =
    let room = c.requires.room _ _ (sync-ok c.args.entry.now _ _ c.in-Some.ensures.0) in
    omega (arith, room, c.retain.ensures.bound, c.retain.ensures.capacity)

pub returns-in-Some : goal.returns-in-Some
returns-in-Some c past settled stood =
    syncs-good past c.args.entry.now _ _ _ _ _ c.in-Some.row c.in-Some.ensures.0
    (filter_same _ (λ (row : Synced). not (ends_row c.args.entry.now row)) _ (λ x b f' k. search rules) _ _ c.retain.ensures.filtered)
    c.push_reserved.ensures.items refl refl
    (λ me s its. subst (λ v. AreUnsettled past me s v.items) (sym c.in-Some.ensures.1) (settled me s its)) stood

pub returns-in_default : goal.returns-in_default
returns-in_default c past settled stood =
    syncs-no_sync past c.args.entry.now _ _ c.in_default.ensures
    (filter_same _ (λ (row : Synced). not (ends_row c.args.entry.now row)) _ (λ x b f' k. search rules) _ _ c.retain.ensures.filtered) stood
