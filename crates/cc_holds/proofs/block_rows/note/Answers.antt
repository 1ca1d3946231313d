use Rattle.std.proofs.Common.{sym, subst, arith}
use Rattle.cc_holds.specs.Blocks.{AreBlockRows, IsPlaceOf}
use Rattle.cc_holds.proofs.BlockRows.{IsTest, test-within, rows-noted}
use Rattle.cc_holds.proofs.block_rows.note.Goals as goal

pub index_mut-requires : goal.index_mut-requires
index_mut-requires c =
    let within = test-within c.args.block c.place_of-place.result c.deref-2.result.now c.is_at.result c.is_at.ensures c.if-is_at.true in
    omega (arith, within, c.deref-2.ensures.len)

pub returns-else-is_at-clause-rows : goal.returns-else-is_at-clause-rows
returns-else-is_at-clause-rows c =
    subst AreBlockRows (sym c.insert_reserved.ensures.items)
    (rows-noted c.args.block c.place_of-place.result c.args.rows.now.items c.is_at.result c.requires.rows
    (subst (λ rows. IsPlaceOf c.args.block rows c.place_of-place.result) c.deref.ensures.value c.place_of-place.ensures)
    (subst (λ rows. IsTest c.args.block c.place_of-place.result rows c.is_at.result) c.deref-2.ensures.value c.is_at.ensures) c.if-is_at.false)
