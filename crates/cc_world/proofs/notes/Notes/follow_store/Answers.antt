-- A done store is a call of its pass that brings its page in; the begin of the page's transfer changes neither syncs nor blocks.
use Rattle.std.specs.Prelude.{◌≡◌, ◌/◌, ◌∷◌, refl, true}
use Rattle.std.proofs.Common.{subst}
use Rattle.std.specs.declared.option.Option.TheVariants.{Some}
use Rattle.cc_entry.specs.declared.call.Call.TheVariants as call
use Rattle.cc_entry.specs.declared.entry.Entry.TheVariants as entry
use Rattle.cc_entry.specs.declared.reply.Outcome.TheVariants as outcome
use Rattle.cc_world.specs.Blocks.{has_block}
use Rattle.cc_world.specs.Passes.{store_entry}
use Rattle.cc_world.proofs.BlockRows.{blocks-noted, blocks-same}
use Rattle.cc_world.proofs.SyncRows.{syncs-begin}
use Rattle.cc_world.proofs.notes.Notes.follow_store.Goals as goal

pub returns : goal.returns
returns c past nth file bytes reply place stood =
    let page = c.args.page in
    let noted = subst (λ s. has_block c.note.new.self.pages.items s (page.page / 64) ≡ true) c.stream.ensures
    (subst (λ p. has_block c.note.new.self.pages.items c.stream.result (p / 64) ≡ true) c.page.ensures.same c.note.ensures.its) in
    let store = store_entry c.args.pass nth page file bytes reply in
    record {
      passes = c.follow_store.ensures past nth file bytes reply place stood.passes;
      syncs = syncs-begin (store ∷ past) c.args.pass page c.follow_call.new.self.rows.items
          (c.follow_call.ensures past nth (Some page.stream) (call.NcStore file page.page bytes) (outcome.Done reply) stood.syncs);
      blocks = blocks-same (store ∷ past) (entry.WriteBegin c.args.pass page) c.note.new.self.pages.items refl
          (blocks-noted past store c.args.self.now.blocks.pages.items c.note.new.self.pages.items (record { stream = page.stream; page = page.page }) refl c.note.ensures.others noted stood.blocks);
    }
