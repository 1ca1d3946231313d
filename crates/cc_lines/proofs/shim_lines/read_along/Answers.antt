-- A read for which memory is wanting leaves nothing; one that asks two places asks no more than three.
use Rattle.std.specs.Prelude.{◌≡◌, ℕ, List, length, take, Ok, Err}
use Rattle.std.proofs.Common.{arith, rules, subst}
use Rattle.std.proofs.lemmas.Grind.{common_steps}
use Rattle.cc_entry.specs.Place.{File}
use Rattle.cc_entry.specs.declared.entry.Entry.{Entry}
use Rattle.cc_script.specs.declared.script.ReadPath.{ReadPath}
use Rattle.cc_model.specs.Setup.{Setup}
use Rattle.cc_pieces.specs.Locks.{LockedReadLeft}
use Rattle.cc_lines.proofs.ShimCalls.{read-wanting}
use Rattle.cc_lines.proofs.ShimServed.{full-three}
use Rattle.cc_lines.proofs.shim_lines.read_along.Goals as goal

pub returns-in_default-clause-answered : goal.returns-in_default-clause-answered
returns-in_default-clause-answered g c =
    let w = g.T.Turns.standing c.args.turns.now in
    read-wanting w.setup w.number c.args.file w.seen c.args.path c.args.at c.args.len

pub returns-in_default-new-clause-answered : goal.returns-in_default-new-clause-answered
returns-in_default-new-clause-answered g c =
    let w = g.T.Turns.standing c.args.turns.now in
    read-wanting w.setup w.number c.args.file w.seen c.args.path c.args.at c.args.len

pub returns-clause-full : goal.returns-clause-full
returns-clause-full g c =
    full-three (g.T.Turns.standing c.args.turns.now) (g.T.Turns.standing c.locked_read.new.turns) c.in-Err.error c.in-Err.ensures.ends.ends.full

-- the bytes that are answered are as many as were asked
as_read : (u : Setup) (me : ℕ) (file : File) (path : ReadPath) (at n m : ℕ) (xs ys : List ℕ) (old new : List Entry) → n ≡ m → xs ≡ ys → LockedReadLeft u me file path at n (Ok xs) old new → LockedReadLeft u me file path at m (Ok ys) old new
as_read u me file path at n m xs ys old new same are left =
    subst (λ (k : ℕ). LockedReadLeft u me file path at k (Ok ys) old new) same
    (subst (λ (l : List ℕ). LockedReadLeft u me file path at n (Ok l) old new) are left)

pub returns-in-Ok-locked_read-clause-answered : goal.returns-in-Ok-locked_read-clause-answered
returns-in-Ok-locked_read-clause-answered g c =
    let w = g.T.Turns.standing c.args.turns.now in
    let v = g.T.Turns.standing c.locked_read.new.turns in
    let same : length c.deref_mut.result.now ≡ c.args.len = search rules in
    let are : take c.in-Ok-locked_read.count c.locked_read.new.out ≡ c.keep.result = grind (arith, common_steps) in
    as_read w.setup w.number c.args.file c.args.path c.args.at (length c.deref_mut.result.now) c.args.len (take c.in-Ok-locked_read.count c.locked_read.new.out) c.keep.result w.seen v.seen same are c.in-Ok-locked_read.ensures.ends.ends.left

pub returns-clause-answered : goal.returns-clause-answered
returns-clause-answered g c =
    let w = g.T.Turns.standing c.args.turns.now in
    let v = g.T.Turns.standing c.locked_read.new.turns in
    let same : length c.deref_mut.result.now ≡ c.args.len = search rules in
    subst (λ (n : ℕ). LockedReadLeft w.setup w.number c.args.file c.args.path c.args.at n (Err c.in-Err.error) w.seen v.seen) same c.in-Err.ensures.ends.ends.left
