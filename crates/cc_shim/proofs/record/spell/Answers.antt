use Rattle.std.proofs.Common.{◌∙◌, ap, ℕ, ◌++◌, ◌∷◌, []}
use Rattle.cc_shim.proofs.Recording.{spelled}
use Rattle.cc_shim.proofs.record.spell.Goals as goal

pub returns : goal.returns
returns c =
    spelled c.args.file c.args.at c.args.piece.now c.args.out.now.items c.write_u8.new.self.items c.write_u64.new.self.items c.write_u32.new.self.items c.write_all.new.self.items c.write_all.result
    (c.in_ok-write_u8.ensures.bytes ∙ ap (λ (n : ℕ). c.args.out.now.items ++ (n ∷ [])) (c.number.ensures.same ∙ c.stream.ensures))
    c.in_ok-write_u64.ensures.bytes c.in_ok-write_u32.ensures.bytes c.write_all.ensures.bytes
