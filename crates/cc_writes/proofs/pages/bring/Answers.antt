-- A page with a byte below the valid data length is on the disk alone, and is read; any other lands without a read.
use Rattle.std.specs.Prelude.{◌≡◌, ℕ, ◌*◌, nat_lt, true, false, None, OnOk}
use Rattle.std.specs.Int.{div_ceil}
use Rattle.std.proofs.Common.{ap, sym, ◌∙◌, subst}
use Rattle.std.proofs.lemmas.Bool.{lt-ltb, le-ltb}
use Rattle.cc_model.specs.History.{history}
use Rattle.cc_model.specs.Touches.{valid_of}
use Rattle.cc_step.proofs.Found.{ceil-page}
use Rattle.cc_writes.proofs.Brought.{alone, apart, brought-unread, on-ok-weaker}
use Rattle.cc_writes.proofs.Disks.{both_still}
use Rattle.cc_writes.proofs.Kept.{lands}
use Rattle.cc_writes.proofs.pages.bring.Goals as goal

pub returns-else-page-div_ceil-clause-both : goal.returns-else-page-div_ceil-clause-both
returns-else-page-div_ceil-clause-both g c =
    let w = g.T.Turns.standing c.args.turns.now in
    let v = g.T.Turns.standing c.land_for_call.new.turns in
    both_still g.T.Disk.Told.told g.T.Disk.Told.faults 0 w v c.args.book.stream c.args.book c.land_for_call.result.0 c.args.disk.now
    c.requires.both c.land_for_call.ensures.book c.land_for_call.ensures.rest c.land_for_call.ensures.went c.land_for_call.ensures.disk

pub returns-then-page-div_ceil-clause-unread : goal.returns-then-page-div_ceil-clause-unread
returns-then-page-div_ceil-clause-unread g c elsewhere =
    let w = g.T.Turns.standing c.args.turns.now in
    let s = c.args.book.stream in
    let valid = valid_of (history w.seen s) in
    let ceil = subst (λ (n : ℕ). nat_lt c.args.page n ≡ nat_lt (4096 * c.args.page) valid)
    (sym (c.div_ceil.ensures ∙ ap (λ (n : ℕ). div_ceil n 4096) (c.valid.ensures (w.setup.opening s) w.seen c.requires.both.book.stands))) (ceil-page c.args.page valid) in
    let below : nat_lt (4096 * c.args.page) valid ≡ true = sym ceil ∙ lt-ltb c.args.page c.div_ceil.result c.if-page-div_ceil.true in
    apart _ (alone w.setup s c.args.call c.args.page w.seen c.requires.waited below) elsewhere

pub returns-else-page-div_ceil-clause-brought : goal.returns-else-page-div_ceil-clause-brought
returns-else-page-div_ceil-clause-brought g c =
    let w = g.T.Turns.standing c.args.turns.now in
    let s = c.args.book.stream in
    let valid = valid_of (history w.seen s) in
    let ceil = subst (λ (n : ℕ). nat_lt c.args.page n ≡ nat_lt (4096 * c.args.page) valid)
    (sym (c.div_ceil.ensures ∙ ap (λ (n : ℕ). div_ceil n 4096) (c.valid.ensures (w.setup.opening s) w.seen c.requires.both.book.stands))) (ceil-page c.args.page valid) in
    let above : nat_lt (4096 * c.args.page) valid ≡ false = sym ceil ∙ le-ltb c.args.page c.div_ceil.result c.if-page-div_ceil.false in
    on-ok-weaker c.land_for_call.result.1
    (brought-unread w s c.args.page c.args.call (g.T.Turns.standing c.land_for_call.new.turns).seen (ap (λ h. h.book) c.requires.both.book.held) c.requires.both.rest.device above)
    c.land_for_call.ensures.landed

pub bring_read-requires-clause-alone : goal.bring_read-requires-clause-alone
bring_read-requires-clause-alone g c =
    let w = g.T.Turns.standing c.args.turns.now in
    let s = c.args.book.stream in
    let valid = valid_of (history w.seen s) in
    let ceil = subst (λ (n : ℕ). nat_lt c.args.page n ≡ nat_lt (4096 * c.args.page) valid)
    (sym (c.div_ceil.ensures ∙ ap (λ (n : ℕ). div_ceil n 4096) (c.valid.ensures (w.setup.opening s) w.seen c.requires.both.book.stands))) (ceil-page c.args.page valid) in
    alone w.setup s c.args.call c.args.page w.seen c.requires.waited (sym ceil ∙ lt-ltb c.args.page c.div_ceil.result c.if-page-div_ceil.true)

pub returns-else-page-div_ceil-clause-kept : goal.returns-else-page-div_ceil-clause-kept
returns-else-page-div_ceil-clause-kept g c keeps room =
    let w = g.T.Turns.standing c.args.turns.now in
    let s = c.args.book.stream in
    let valid = valid_of (history w.seen s) in
    let ceil = subst (λ (n : ℕ). nat_lt c.args.page n ≡ nat_lt (4096 * c.args.page) valid)
    (sym (c.div_ceil.ensures ∙ ap (λ (n : ℕ). div_ceil n 4096) (c.valid.ensures (w.setup.opening s) w.seen c.requires.both.book.stands))) (ceil-page c.args.page valid) in
    let above : nat_lt (4096 * c.args.page) valid ≡ false = sym ceil ∙ le-ltb c.args.page c.div_ceil.result c.if-page-div_ceil.false in
    on-ok-weaker c.land_for_call.result.1
    (lands w s c.args.page c.args.call (g.T.Turns.standing c.land_for_call.new.turns).seen (ap (λ h. h.book) c.requires.both.book.held) c.requires.both.rest.device c.requires.brings c.requires.waited None room (λ is. above))
    c.land_for_call.ensures.landed
