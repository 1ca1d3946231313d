-- By kinds of call: each asks what its own step needs, from what the call may do, and its contents stand after it.
use Rattle.std.proofs.Common.{◌≡◌, ◌∷◌, Some, refl, ap, sym, subst, ◌∙◌, arith}
use Rattle.cc_model.specs.Acts.{act_of, Zeroes}
use Rattle.cc_model.specs.History.{Did, history}
use Rattle.cc_content.specs.Contents.{ContentsStand}
use Rattle.cc_content.specs.Done.{UsesBlocks}
use Rattle.cc_content.proofs.DoneStands.{where_ok}
use Rattle.cc_content.proofs.DoneCalls.{called, uses-of, prepared, looks, finds-look, finds-written, kept-written, fits-written, starts-written, finds-zeroed, mapped-zeroed, fits-zeroed, starts-zeroed, finds-resized, finds-dropped, finds-closed, within-closed, mapped-called, finds-stored, starts-stored, valid-found, has_room-stored, whole-stored}
use Rattle.cc_content.proofs.OwnedStand.{owned-of, owned-prepared}
use Rattle.cc_content.proofs.contents.Contents.done.Goals as goal

pub looked-requires : goal.looked-requires
looked-requires c =
    let found = looks c.requires.may.may (sym c.is_look.ensures ∙ c.if-is_look.true) in
    rw c.looked_range.ensures found.mapped

pub returns-then-is_look-clause-stands : goal.returns-then-is_look-clause-stands
returns-then-is_look-clause-stands c = λ u past pass nth s may.
    let look = sym c.is_look.ensures ∙ c.if-is_look.true in
    let found = looks may look in
    let uses : UsesBlocks (history past s) pass c.args.call.now c.args.reply.now c.looked_range.result =
    rw c.looked_range.ensures found.uses in
    called u past pass nth s c.args.call.now c.args.reply.now _
    (c.looked.ensures (u.opening s) _ pass c.args.call.now c.args.reply.now (finds-look may look) look uses)

pub wrote-requires-clause-kept : goal.wrote-requires-clause-kept
wrote-requires-clause-kept c = kept-written c.requires.may.may (ap act_of c.in-CopyWrite.is)

pub wrote-requires-clause-fits : goal.wrote-requires-clause-fits
wrote-requires-clause-fits c = fits-written c.requires.may.may (ap act_of c.in-CopyWrite.is)

pub wrote-requires-in-PinnedWrite-clause-kept : goal.wrote-requires-in-PinnedWrite-clause-kept
wrote-requires-in-PinnedWrite-clause-kept c = kept-written c.requires.may.may (ap act_of c.in-PinnedWrite.is)

pub wrote-requires-in-PinnedWrite-clause-fits : goal.wrote-requires-in-PinnedWrite-clause-fits
wrote-requires-in-PinnedWrite-clause-fits c = fits-written c.requires.may.may (ap act_of c.in-PinnedWrite.is)

pub wrote-requires-in-MdlStore-clause-kept : goal.wrote-requires-in-MdlStore-clause-kept
wrote-requires-in-MdlStore-clause-kept c = kept-written c.requires.may.may (ap act_of c.in-MdlStore.is)

pub wrote-requires-in-MdlStore-clause-fits : goal.wrote-requires-in-MdlStore-clause-fits
wrote-requires-in-MdlStore-clause-fits c = fits-written c.requires.may.may (ap act_of c.in-MdlStore.is)

pub wrote-requires-clause-owned : goal.wrote-requires-clause-owned
wrote-requires-clause-owned c = owned-of c.args.self.now c.args.truncation c.args.call.now _ c.in-CopyWrite.is c.requires.owned

pub wrote-requires-in-PinnedWrite-clause-owned : goal.wrote-requires-in-PinnedWrite-clause-owned
wrote-requires-in-PinnedWrite-clause-owned c = owned-of c.args.self.now c.args.truncation c.args.call.now _ c.in-PinnedWrite.is c.requires.owned

pub wrote-requires-in-MdlStore-clause-owned : goal.wrote-requires-in-MdlStore-clause-owned
wrote-requires-in-MdlStore-clause-owned c = owned-of c.args.self.now c.args.truncation c.args.call.now _ c.in-MdlStore.is c.requires.owned

pub stored-requires-clause-room : goal.stored-requires-clause-room
stored-requires-clause-room c =
    has_room-stored c.requires.may.may c.in-NcStore.file c.in-NcStore.page c.in-NcStore.bytes c.in-NcStore.is

pub stored-requires-clause-whole : goal.stored-requires-clause-whole
stored-requires-clause-whole c =
    whole-stored c.requires.may.may c.in-NcStore.file c.in-NcStore.page c.in-NcStore.bytes c.in-NcStore.is

pub zeroed-requires-clause-mapped : goal.zeroed-requires-clause-mapped
zeroed-requires-clause-mapped c =
    rw (c.from.ensures.same, c.to.ensures.same) (mapped-zeroed c.requires.may.may (ap act_of c.in-Zero.is))

pub overflow_add-at : goal.overflow_add-at
overflow_add-at c =
    let w = c.in-PreparePin in
    let look = sym c.is_look.ensures ∙ c.if-is_look.false in
    let is = prepared c.args.call.now w.file w.at w.len w.zero w.exclusive w.is look in
    omega (arith, fits-zeroed c.requires.may.may is)

pub zeroed-requires-clause-owned : goal.zeroed-requires-clause-owned
zeroed-requires-clause-owned c = rw (c.from.ensures.same, c.to.ensures.same) (owned-of c.args.self.now c.args.truncation c.args.call.now _ c.in-Zero.is c.requires.owned)

pub zeroed-requires-in-PreparePin-clause-owned : goal.zeroed-requires-in-PreparePin-clause-owned
zeroed-requires-in-PreparePin-clause-owned c =
    let w = c.in-PreparePin in
    let look = sym c.is_look.ensures ∙ c.if-is_look.false in
    owned-prepared c.args.self.now c.args.truncation c.args.call.now w.file w.at w.len w.zero w.exclusive w.is look c.requires.owned

pub zeroed-requires-in-PreparePin-clause-mapped : goal.zeroed-requires-in-PreparePin-clause-mapped
zeroed-requires-in-PreparePin-clause-mapped c =
    let w = c.in-PreparePin in
    let look = sym c.is_look.ensures ∙ c.if-is_look.false in
    let is = prepared c.args.call.now w.file w.at w.len w.zero w.exclusive w.is look in
    mapped-zeroed c.requires.may.may is

pub returns-in-Initialise-clause-stands : goal.returns-in-Initialise-clause-stands
returns-in-Initialise-clause-stands c =
    where_ok c.opened.result _ _
    (λ stands u past pass nth s may.
    let w = c.in-Initialise in
    let call = c.args.call.now in
    let reply = c.args.reply.now in
    let opens =
    stands (u.opening s) (history past s) pass w.file w.sizes w.temporary reply may.stands refl refl in
    called u past pass nth s call reply _
    (subst (λ k. ContentsStand (u.opening s) (Did pass k reply ∷ history past s) c.opened.new.self) (sym w.is)
    opens))
    c.opened.ensures.stands

pub returns-in-SetSizes-clause-stands : goal.returns-in-SetSizes-clause-stands
returns-in-SetSizes-clause-stands c =
    where_ok c.resized.result _ _
    (λ stands u past pass nth s may.
    let w = c.in-SetSizes in
    let call = c.args.call.now in
    let reply = c.args.reply.now in
    let is = ap act_of w.is in
    called u past pass nth s call reply _
    (stands (u.opening s) (history past s) pass call reply w.allocation (finds-resized may is) is))
    c.resized.ensures.stands

pub returns-in-CopyWrite-clause-stands : goal.returns-in-CopyWrite-clause-stands
returns-in-CopyWrite-clause-stands c =
    where_ok c.wrote.result _ _
    (λ stands u past pass nth s may.
    let w = c.in-CopyWrite in
    let call = c.args.call.now in
    let reply = c.args.reply.now in
    let is = ap act_of w.is in
    called u past pass nth s call reply _
    (stands (u.opening s) (history past s) pass call reply (finds-written may is) is
    (uses-of (history past s) pass call _ reply _ w.is (record { blocks = refl })) (starts-written may is)))
    c.wrote.ensures.stands

pub returns-in-PinnedWrite-clause-stands : goal.returns-in-PinnedWrite-clause-stands
returns-in-PinnedWrite-clause-stands c =
    where_ok c.wrote-in-PinnedWrite.result _ _
    (λ stands u past pass nth s may.
    let w = c.in-PinnedWrite in
    let call = c.args.call.now in
    let reply = c.args.reply.now in
    let is = ap act_of w.is in
    called u past pass nth s call reply _
    (stands (u.opening s) (history past s) pass call reply (finds-written may is) is
    (uses-of (history past s) pass call _ reply _ w.is (record { blocks = refl })) (starts-written may is)))
    c.wrote-in-PinnedWrite.ensures.stands

pub returns-in-MdlStore-clause-stands : goal.returns-in-MdlStore-clause-stands
returns-in-MdlStore-clause-stands c =
    where_ok c.wrote-in-MdlStore.result _ _
    (λ stands u past pass nth s may.
    let w = c.in-MdlStore in
    let call = c.args.call.now in
    let reply = c.args.reply.now in
    let is = ap act_of w.is in
    called u past pass nth s call reply _
    (stands (u.opening s) (history past s) pass call reply (finds-written may is) is
    (uses-of (history past s) pass call _ reply _ w.is (record { blocks = refl })) (starts-written may is)))
    c.wrote-in-MdlStore.ensures.stands

pub returns-in-NcStore-clause-stands : goal.returns-in-NcStore-clause-stands
returns-in-NcStore-clause-stands c =
    where_ok c.stored.result _ _
    (λ stands u past pass nth s may.
    let w = c.in-NcStore in
    let call = c.args.call.now in
    let reply = c.args.reply.now in
    let is = ap act_of w.is in
    called u past pass nth s call reply _
    (stands (u.opening s) (history past s) pass call reply (finds-stored may is) is may.size_is
    (starts-stored may is) (valid-found may)))
    c.stored.ensures.stands

pub resized-requires : goal.resized-requires
resized-requires c = owned-of c.args.self.now c.args.truncation c.args.call.now _ c.in-SetSizes.is c.requires.owned

pub closed-requires-clause-owned : goal.closed-requires-clause-owned
closed-requires-clause-owned c = owned-of c.args.self.now c.args.truncation c.args.call.now _ c.in-Uninitialise.is c.requires.owned

pub closed-requires-clause-within : goal.closed-requires-clause-within
closed-requires-clause-within c =
    let w = c.in-Uninitialise in
    within-closed c.requires.may.may w.file w.truncate w.is

pub returns-in-Uninitialise-clause-stands : goal.returns-in-Uninitialise-clause-stands
returns-in-Uninitialise-clause-stands c = λ u past pass nth s may.
    let w = c.in-Uninitialise in
    let call = c.args.call.now in
    let reply = c.args.reply.now in
    let finds = finds-closed may w.file w.truncate w.is in
    called u past pass nth s call reply _
    (c.closed.ensures (u.opening s) (history past s) pass call reply finds (mapped-called may))

pub returns-in-Zero-clause-stands : goal.returns-in-Zero-clause-stands
returns-in-Zero-clause-stands c = λ u past pass nth s may.
    let w = c.in-Zero in
    let call = c.args.call.now in
    let reply = c.args.reply.now in
    let is : act_of call ≡ Zeroes c.from.result c.to.result =
    ap act_of w.is ∙ sym (rw (c.from.ensures.same, c.to.ensures.same) refl) in
    let uses : UsesBlocks (history past s) pass call reply
    (Some (record { from = c.from.result; to = c.to.result })) =
    rw (c.from.ensures.same, c.to.ensures.same)
    (uses-of (history past s) pass call _ reply _ w.is (record { blocks = refl })) in
    called u past pass nth s call reply _
    (c.zeroed.ensures (u.opening s) (history past s) pass call reply (finds-zeroed may is) is uses
    (starts-zeroed may is))

pub returns-in-PreparePin-clause-stands : goal.returns-in-PreparePin-clause-stands
returns-in-PreparePin-clause-stands c = λ u past pass nth s may.
    let w = c.in-PreparePin in
    let call = c.args.call.now in
    let reply = c.args.reply.now in
    let look = sym c.is_look.ensures ∙ c.if-is_look.false in
    let is = prepared call w.file w.at w.len w.zero w.exclusive w.is look in
    called u past pass nth s call reply _
    (c.zeroed-in-PreparePin.ensures (u.opening s) (history past s) pass call reply (finds-zeroed may is) is
    (uses-of (history past s) pass call _ reply _ w.is (record { blocks = refl })) (starts-zeroed may is))

pub returns-in-Discard-clause-stands : goal.returns-in-Discard-clause-stands
returns-in-Discard-clause-stands c = λ u past pass nth s may.
    let call = c.args.call.now in
    let reply = c.args.reply.now in
    let is = ap act_of c.in-Discard.is in
    called u past pass nth s call reply _
    (c.dropped.ensures (u.opening s) (history past s) pass call reply (finds-dropped may is) is)
