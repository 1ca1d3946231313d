-- The frame of the page in its block is shared, so its bytes stay; a block that is not mapped has none to share.
use Rattle.std.proofs.Common.{◌%◌, None, ap, sym}
use Rattle.cc_pages.specs.Pages.{bytes_at, page_at as page_in}
use Rattle.cc_resident.proofs.Kept.{page_from}
use Rattle.cc_resident.proofs.Shares.{SameBytes-reframed, SharesOnly-reframed, snapshot_bytes, snapshot_of, frame_unmapped}
use Rattle.cc_resident.proofs.steps.share.Goals as goal

pub returns-in-Ok-clause-snapshot : goal.returns-in-Ok-clause-snapshot
returns-in-Ok-clause-snapshot c =
    let i = c.args.page % 64 in
    snapshot_of c.args.views.now c.args.page c.in-Some.frames.now c.in-Ok.frame (sym c.in-Some.ensures.frames) (snapshot_bytes (page_in c.in-Some.frames.now i) (page_in c.share.new.self i) c.in-Ok.frame c.in-Ok.ensures.page).0

pub returns-in-Ok-clause-bytes : goal.returns-in-Ok-clause-bytes
returns-in-Ok-clause-bytes c =
    let i = c.args.page % 64 in
    SameBytes-reframed c.args.views.now c.args.page c.in-Some.frames.now c.share.new.self (sym c.in-Some.ensures.frames) c.share.ensures.others (snapshot_bytes (page_in c.in-Some.frames.now i) (page_in c.share.new.self i) c.in-Ok.frame c.in-Ok.ensures.page).1

pub returns-in-Ok-clause-others : goal.returns-in-Ok-clause-others
returns-in-Ok-clause-others c = SharesOnly-reframed c.args.views.now c.args.page c.in-Some.frames.now c.share.new.self (sym c.in-Some.ensures.frames) c.share.ensures.others

pub returns-in-Err-clause-bytes : goal.returns-in-Err-clause-bytes
returns-in-Err-clause-bytes c = SameBytes-reframed c.args.views.now c.args.page c.in-Some.frames.now c.share.new.self (sym c.in-Some.ensures.frames) c.share.ensures.others (ap (λ f. bytes_at f (c.args.page % 64)) c.in-Err.ensures.err)

pub returns-in-Err-clause-others : goal.returns-in-Err-clause-others
returns-in-Err-clause-others c = SharesOnly-reframed c.args.views.now c.args.page c.in-Some.frames.now c.share.new.self (sym c.in-Some.ensures.frames) c.share.ensures.others

pub returns-in-None-clause-snapshot : goal.returns-in-None-clause-snapshot
returns-in-None-clause-snapshot c = sym (page_from c.args.views.now c.args.page None (frame_unmapped c.args.views.now c.args.page (sym c.in-None.ensures.frames)))
