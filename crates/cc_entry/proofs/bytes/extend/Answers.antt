-- A last part with room grows at its end, else a part of one run comes behind; either way the bytes follow.
use Rattle.std.proofs.Common.{◌≡◌, ◌+◌, ◌-◌, ℕ, List, [], ◌∷◌, ◌++◌, length, get_or, set, take, replicate, arith, ap, sym, ◌∙◌}
use Rattle.std.proofs.lemmas.List.{take_all, append-nil, length-append, length-replicate, replicate-append-replicate}
use Rattle.cc_entry.specs.declared.part.Part.{Part}
use Rattle.cc_entry.specs.Parts.{bytes_in, plain_in}
use Rattle.cc_entry.proofs.Kept.{last_longer, plain_longer, part_behind, plain_behind, last_within}
use Rattle.cc_entry.proofs.bytes.extend.Goals as goal

pub overflow_add-last : goal.overflow_add-last
overflow_add-last c =
    let parts = c.args.parts.now.items in let last = c.index-last.result.now in
    let is : last ≡ get_or parts (c.len-n.result - 1) last = c.index-last.ensures in
    let counts = ap (λ (p : Part). p.count) is in let plains = ap (λ (p : Part). p.plain) is in
    let within = last_within parts (c.len-n.result - 1) last c.args.plain.now.items (omega arith) c.requires.whole in
    omega (arith, within, counts, plains, c.requires.fits)

pub returns-then-last-byte-clause-ok : goal.returns-then-last-byte-clause-ok
returns-then-last-byte-clause-ok c =
    let parts = c.args.parts.now.items in let plain = c.args.plain.now.items in let last = c.index-last.result.now in let i = c.len-n.result - 1 in
    let is : last ≡ get_or parts i last = c.index-last.ensures in
    let plains : c.new.result.plain ≡ (get_or parts i last).plain + 0 = omega (arith, c.new.ensures.plain, ap (λ (p : Part). p.plain) is) in
    let all : replicate c.new.result.count c.new.result.byte ≡ replicate (get_or parts i last).count (get_or parts i last).byte ++ replicate c.args.count c.args.byte =
    ap (λ n. replicate n c.new.result.byte) c.new.ensures.count ∙ ap (replicate (last.count + c.args.count)) c.new.ensures.byte
    ∙ sym (replicate-append-replicate last.count c.args.count c.args.byte)
    ∙ ap (λ b. replicate last.count b ++ replicate c.args.count c.args.byte) (sym c.if-last-byte.true)
    ∙ ap (λ (p : Part). replicate p.count p.byte ++ replicate c.args.count c.args.byte) is in
    ap (bytes_in (set parts i c.new.result)) (sym (append-nil plain))
    ∙ last_longer parts i last c.new.result plain [] (replicate c.args.count c.args.byte) (omega arith) c.requires.whole plains all

pub returns-then-last-byte-clause-whole : goal.returns-then-last-byte-clause-whole
returns-then-last-byte-clause-whole c =
    let parts = c.args.parts.now.items in let last = c.index-last.result.now in let i = c.len-n.result - 1 in
    let is : last ≡ get_or parts i last = c.index-last.ensures in
    let more = plain_longer parts i last c.new.result (omega arith) in
    omega (arith, more, c.requires.whole, c.new.ensures.plain, ap (λ (p : Part). p.plain) is)

pub overflow_add-last-then-last-lt-SHORT : goal.overflow_add-last-then-last-lt-SHORT
overflow_add-last-then-last-lt-SHORT c =
    let parts = c.args.parts.now.items in let last = c.index-last.result.now in
    let is : last ≡ get_or parts (c.len-n.result - 1) last = c.index-last.ensures in
    let counts = ap (λ (p : Part). p.count) is in let plains = ap (λ (p : Part). p.plain) is in
    let within = last_within parts (c.len-n.result - 1) last c.args.plain.now.items (omega arith) c.requires.whole in
    omega (arith, within, counts, plains, c.requires.fits)

-- the bytes as they are, with the last part's of one value behind them
grown : (now plain : List ℕ) (n len count byte : ℕ) → now ≡ take n plain ++ replicate (n - len) byte → len ≡ length plain → n ≡ len + count → now ≡ plain ++ replicate count byte
grown now plain n len count byte e long all =
    let more : n - len ≡ count = omega (arith, all) in
    e ∙ ap (λ front. front ++ replicate (n - len) byte) (take_all n plain (omega (arith, long, all))) ∙ ap (λ m. plain ++ replicate m byte) more

pub returns-then-last-lt-SHORT-clause-ok : goal.returns-then-last-lt-SHORT-clause-ok
returns-then-last-lt-SHORT-clause-ok c =
    let parts = c.args.parts.now.items in let plain = c.args.plain.now.items in let last = c.index-last.result.now in let i = c.len-n.result - 1 in
    let is : last ≡ get_or parts i last = c.index-last.ensures in
    let p = c.new-then-last-lt-SHORT.result in let few = replicate last.count last.byte in let more = replicate c.args.count c.args.byte in
    let now = grown c.resize.new.self.items plain (c.len.result + last.count) c.args.plain.now.len last.count last.byte c.in_ok-resize.ensures.items c.args.plain.now.ok.0 (omega (arith, c.len.ensures)) in
    let plains : p.plain ≡ (get_or parts i last).plain + length few = omega (arith, c.new-then-last-lt-SHORT.ensures.plain, ap (λ (q : Part). q.plain) is, length-replicate last.count last.byte) in
    let all : few ++ replicate p.count p.byte ≡ replicate (get_or parts i last).count (get_or parts i last).byte ++ more =
    ap (λ m. few ++ replicate m p.byte) c.new-then-last-lt-SHORT.ensures.count ∙ ap (λ b. few ++ replicate c.args.count b) c.new-then-last-lt-SHORT.ensures.byte
    ∙ ap (λ (q : Part). replicate q.count q.byte ++ more) is in
    ap (bytes_in (set parts i p)) now ∙ last_longer parts i last p plain few more (omega arith) c.requires.whole plains all

pub returns-then-last-lt-SHORT-clause-whole : goal.returns-then-last-lt-SHORT-clause-whole
returns-then-last-lt-SHORT-clause-whole c =
    let parts = c.args.parts.now.items in let plain = c.args.plain.now.items in let last = c.index-last.result.now in let i = c.len-n.result - 1 in
    let is : last ≡ get_or parts i last = c.index-last.ensures in
    let now = ap length (grown c.resize.new.self.items plain (c.len.result + last.count) c.args.plain.now.len last.count last.byte c.in_ok-resize.ensures.items c.args.plain.now.ok.0 (omega (arith, c.len.ensures))) in
    let more = plain_longer parts i last c.new-then-last-lt-SHORT.result (omega arith) in
    omega (arith, more, now, length-append plain (replicate last.count last.byte), length-replicate last.count last.byte, c.requires.whole, c.new-then-last-lt-SHORT.ensures.plain, ap (λ (q : Part). q.plain) is)

pub returns-clause-ok : goal.returns-clause-ok
returns-clause-ok c =
    let parts = c.args.parts.now.items in let plain = c.args.plain.now.items in let p = c.new-2.result in
    ap (λ ps. bytes_in ps plain) c.in_ok-push.ensures.items ∙ ap (bytes_in (parts ++ p ∷ [])) (sym (append-nil plain))
    ∙ part_behind parts p plain [] c.requires.whole c.new-2.ensures.plain
    ∙ ap (λ n. bytes_in parts plain ++ replicate n p.byte) c.new-2.ensures.count ∙ ap (λ b. bytes_in parts plain ++ replicate c.args.count b) c.new-2.ensures.byte

pub returns-clause-whole : goal.returns-clause-whole
returns-clause-whole c =
    let parts = c.args.parts.now.items in let all = ap plain_in c.in_ok-push.ensures.items in
    omega (arith, all, plain_behind parts c.new-2.result, c.requires.whole, c.new-2.ensures.plain)
