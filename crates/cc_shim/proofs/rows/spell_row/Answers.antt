use Rattle.std.proofs.Common.{◌∙◌, ap, ℕ, ◌++◌, ◌∷◌, []}
use Rattle.cc_pieces.specs.Checkpoints.{oldest_row}
use Rattle.cc_shim.proofs.Checkpointing.{row-spelled}
use Rattle.cc_shim.proofs.rows.spell_row.Goals as goal

pub returns : goal.returns
returns c =
    row-spelled (oldest_row c.args.row.now) c.args.out.now.items c.write_u8.new.self.items c.write_u64.new.self.items c.write_u64-2.new.self.items c.write_u64-2.result
    (c.in_ok-write_u8.ensures.bytes ∙ ap (λ (n : ℕ). c.args.out.now.items ++ (n ∷ [])) (c.number.ensures.same ∙ c.stream.ensures))
    (rw c.page.ensures.same at c.in_ok-write_u64.ensures.bytes) (rw c.number-2.ensures.same at c.write_u64-2.ensures.bytes)
