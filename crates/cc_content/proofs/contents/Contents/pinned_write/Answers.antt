use Rattle.std.proofs.Common.{refl}
use Rattle.cc_entry.specs.declared.call.Call.TheVariants as call
use Rattle.cc_model.specs.History.{history}
use Rattle.cc_content.proofs.DoneCalls.{called, uses-of, finds-written, kept-written, fits-written, starts-written}
use Rattle.cc_content.proofs.contents.Contents.pinned_write.Goals as goal

pub put-requires-clause-kept : goal.put-requires-clause-kept
put-requires-clause-kept c = kept-written c.requires.may.following.may refl

pub put-requires-clause-fits : goal.put-requires-clause-fits
put-requires-clause-fits c = fits-written c.requires.may.following.may refl

pub returns : goal.returns
returns c = record {
  stands = λ u past pass nth s hold reply size truncation mapped may.
      let it = call.PinnedWrite hold c.args.at c.args.bytes.now in
      called u past pass nth s it reply _
      (c.put.ensures (u.opening s) (history past s) pass it reply (finds-written may refl) refl
      (uses-of (history past s) pass it _ reply _ refl (record { blocks = refl })) (starts-written may refl));
}
