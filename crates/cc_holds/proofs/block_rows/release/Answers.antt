-- The row at the place is the block's, since a hold has a byte in it.
use Rattle.std.proofs.Common.{◌+◌, ◌-◌, ◌<◌, ◌==◌, if◌then◌else◌, List, ap, ◌∙◌, sym, subst, arith}
use Rattle.cc_holds.specs.Blocks.{AreBlockRows, IsPlaceOf, holds_at}
use Rattle.cc_holds.specs.declared.block_rows.BlockRow.{BlockRow}
use Rattle.cc_holds.proofs.BlockRows.{found-held, rows-removed, removed-at, lowered-at}
use Rattle.cc_holds.proofs.block_rows.release.Goals as goal

pub index-requires : goal.index-requires
index-requires c =
    let found = found-held c.args.block c.args.rows.now.items c.place_of-place.result c.requires.rows (subst (λ rows. IsPlaceOf c.args.block rows c.place_of-place.result) c.deref.ensures.value c.place_of-place.ensures) c.requires.held in
    omega (arith, found.within, c.args.rows.now.ok.0)

pub remove-requires : goal.remove-requires
remove-requires c =
    let found = found-held c.args.block c.args.rows.now.items c.place_of-place.result c.requires.rows (subst (λ rows. IsPlaceOf c.args.block rows c.place_of-place.result) c.deref.ensures.value c.place_of-place.ensures) c.requires.held in
    omega (arith, found.within, c.args.rows.now.ok.0)

pub index_mut-requires : goal.index_mut-requires
index_mut-requires c =
    let found = found-held c.args.block c.args.rows.now.items c.place_of-place.result c.requires.rows (subst (λ rows. IsPlaceOf c.args.block rows c.place_of-place.result) c.deref.ensures.value c.place_of-place.ensures) c.requires.held in
    omega (arith, found.within, c.args.rows.now.ok.0)

pub overflow_sub-index_mut : goal.overflow_sub-index_mut
overflow_sub-index_mut c =
    let found = found-held c.args.block c.args.rows.now.items c.place_of-place.result c.requires.rows (subst (λ rows. IsPlaceOf c.args.block rows c.place_of-place.result) c.deref.ensures.value c.place_of-place.ensures) c.requires.held in
    let some = subst (λ (row : BlockRow). 0 < row.holds) (sym c.index_mut.ensures.value) (c.requires.rows.held c.place_of-place.result c.index_mut.result.now found.within) in
    omega (arith, some)

pub returns-then-index-eq1-clause-rows : goal.returns-then-index-eq1-clause-rows
returns-then-index-eq1-clause-rows c =
    let found = found-held c.args.block c.args.rows.now.items c.place_of-place.result c.requires.rows (subst (λ rows. IsPlaceOf c.args.block rows c.place_of-place.result) c.deref.ensures.value c.place_of-place.ensures) c.requires.held in
    subst AreBlockRows (sym c.remove.ensures.items) (rows-removed c.args.rows.now.items c.place_of-place.result c.requires.rows found.within)

pub returns-then-index-eq1-clause-released : goal.returns-then-index-eq1-clause-released
returns-then-index-eq1-clause-released c = λ b.
    let found = found-held c.args.block c.args.rows.now.items c.place_of-place.result c.requires.rows (subst (λ rows. IsPlaceOf c.args.block rows c.place_of-place.result) c.deref.ensures.value c.place_of-place.ensures) c.requires.held in
    removed-at c.args.block c.place_of-place.result b c.args.rows.now.items c.index.result.now found (ap (λ (row : BlockRow). row.holds) (sym c.index.ensures) ∙ c.if-index-eq1.true)
    ∙ ap (λ (rows : List BlockRow). holds_at b rows + (if c.args.block == b then 1 else 0)) (sym c.remove.ensures.items)

pub returns-else-index-eq1-clause-released : goal.returns-else-index-eq1-clause-released
returns-else-index-eq1-clause-released c = λ b.
    let found = found-held c.args.block c.args.rows.now.items c.place_of-place.result c.requires.rows (subst (λ rows. IsPlaceOf c.args.block rows c.place_of-place.result) c.deref.ensures.value c.place_of-place.ensures) c.requires.held in
    lowered-at c.args.block c.place_of-place.result b c.args.rows.now.items c.index_mut.result.now _ found (c.requires.rows.held c.place_of-place.result c.index_mut.result.now found.within)
    (ap (λ (row : BlockRow). row.block) c.index_mut.ensures.value) (ap (λ (row : BlockRow). row.holds - 1) c.index_mut.ensures.value)
