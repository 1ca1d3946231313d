-- Each part goes behind what was copied of those before it.
use Rattle.std.proofs.Common.{◌≡◌, ◌+◌, [], ◌++◌, length, take, drop, replicate, arith, ap, sym, ◌∙◌}
use Rattle.std.proofs.lemmas.List.{append-nil, length-append, length-replicate, take-append-drop, drop_all}
use Rattle.cc_entry.specs.Parts.{bytes_in}
use Rattle.cc_entry.proofs.Kept.{parts_next, plain_next, copied, behind_copied}
use Rattle.cc_entry.proofs.bytes.Bytes.copy_to.Goals as goal

pub split_at-requires : goal.split_at-requires
split_at-requires c =
    let parts = c.deref-part-items.result.now in let k = c.loop-part.part-index in
    (plain_next parts k c.part-item.result c.loop-part.plain.now (omega arith) c.part-item.is c.loop-part.invariant.whole).0

pub put-requires : goal.put-requires
put-requires c =
    let parts = c.deref-part-items.result.now in let k = c.loop-part.part-index in let p = c.part-item.result in
    let front = c.split_at.result.0.now in let behind = c.split_at.result.1.now in let rest = bytes_in (drop (k + 1) parts) behind in
    let next = ap length (parts_next parts k p c.loop-part.plain.now front behind (omega arith) c.part-item.is c.split_at.ensures.front c.split_at.ensures.back) in
    omega (arith, next, c.requires, c.loop-part.auto.out, c.loop-part.invariant.count, length-append front (replicate p.count p.byte ++ rest))

pub fill-requires : goal.fill-requires
fill-requires c =
    let parts = c.deref-part-items.result.now in let k = c.loop-part.part-index in let p = c.part-item.result in
    let front = c.split_at.result.0.now in let behind = c.split_at.result.1.now in let rest = bytes_in (drop (k + 1) parts) behind in
    let next = ap length (parts_next parts k p c.loop-part.plain.now front behind (omega arith) c.part-item.is c.split_at.ensures.front c.split_at.ensures.back) in
    omega (arith, next, c.requires, c.loop-part.auto.out, c.put.auto.out, c.loop-part.invariant.count, length-append front (replicate p.count p.byte ++ rest), length-append (replicate p.count p.byte) rest, length-replicate p.count p.byte)

pub loop-part-preserved : goal.loop-part-preserved
loop-part-preserved c =
    let parts = c.deref-part-items.result.now in let k = c.loop-part.part-index in let p = c.part-item.result in let at = c.loop-part.at in
    let front = c.split_at.result.0.now in let behind = c.split_at.result.1.now in let rest = bytes_in (drop (k + 1) parts) behind in
    let out = c.loop-part.out in
    let next = parts_next parts k p c.loop-part.plain.now front behind (omega arith) c.part-item.is c.split_at.ensures.front c.split_at.ensures.back in
    let long = ap length next in
    record {
      whole = (plain_next parts k p c.loop-part.plain.now (omega arith) c.part-item.is c.loop-part.invariant.whole).1 ∙ ap length (sym c.split_at.ensures.back);
      count = omega (arith, long, c.loop-part.invariant.count, length-append front (replicate p.count p.byte ++ rest), length-append (replicate p.count p.byte) rest, length-replicate p.count p.byte);
      front = copied out c.put.new.out c.fill.new.out front rest c.args.self.now at p.count p.byte c.put.ensures.front c.fill.ensures.front (ap (take at out ++◌) (sym next) ∙ c.loop-part.invariant.front);
      behind = behind_copied out c.put.new.out c.fill.new.out c.args.out.now at (length front) p.count c.put.ensures.behind c.fill.ensures.behind c.loop-part.invariant.behind;
    }

pub returns : goal.returns
returns c =
    let parts = c.deref-part-items.result.now in let k = c.loop-part.part-index in let out = c.loop-part.out in let at = c.loop-part.at in
    let none : bytes_in (drop k parts) c.loop-part.plain.now ≡ [] = ap (λ ps. bytes_in ps c.loop-part.plain.now) (drop_all k parts (omega arith)) in
    let all : take at out ≡ c.args.self.now = sym (append-nil (take at out)) ∙ ap (take at out ++◌) (sym none) ∙ c.loop-part.invariant.front in
    let n : at ≡ length c.args.self.now = omega (arith, c.loop-part.invariant.count, ap length none) in
    sym (take-append-drop at out) ∙ ap (λ l. l ++ drop at out) all ∙ ap (c.args.self.now ++◌) (c.loop-part.invariant.behind ∙ ap (λ m. drop m c.args.out.now) n)
