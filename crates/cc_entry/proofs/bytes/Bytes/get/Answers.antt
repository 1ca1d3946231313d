-- The place lies in the part at hand, in one of its two pieces, or past it.
use Rattle.std.proofs.Common.{◌<◌, ◌≤◌, ◌+◌, ◌-◌, ◌++◌, length, drop, replicate, slice_get, arith, ap, sym, ◌∙◌}
use Rattle.std.proofs.lemmas.List.{length-replicate}
use Rattle.std.proofs.lemmas.Option.{slice_get-get_or}
use Rattle.cc_entry.specs.Parts.{bytes_in}
use Rattle.cc_entry.proofs.Kept.{parts_next, plain_next, within_first, past_first, replicated_at}
use Rattle.cc_entry.proofs.bytes.Bytes.get.Goals as goal

pub split_at-requires : goal.split_at-requires
split_at-requires c =
    let parts = c.deref-part-items.result.now in let k = c.loop-part.part-index in
    (plain_next parts k c.part-item.result c.loop-part.plain.now (omega arith) c.part-item.is c.loop-part.invariant.whole).0

pub returns-then-at-front : goal.returns-then-at-front
returns-then-at-front c =
    let parts = c.deref-part-items.result.now in let k = c.loop-part.part-index in let p = c.part-item.result in let at = c.loop-part.at in
    let front = c.split_at.result.0.now in let behind = c.split_at.result.1.now in let rest = bytes_in (drop (k + 1) parts) behind in
    let next = parts_next parts k p c.loop-part.plain.now front behind (omega arith) c.part-item.is c.split_at.ensures.front c.split_at.ensures.back in
    let within : at < length front = omega (arith, c.if-at-front.true) in
    sym (c.loop-part.invariant.is ∙ ap (λ bytes. slice_get bytes at) next ∙ within_first front (replicate p.count p.byte ++ rest) at within ∙ slice_get-get_or front at 0 within)

pub returns-then-at-part : goal.returns-then-at-part
returns-then-at-part c =
    let parts = c.deref-part-items.result.now in let k = c.loop-part.part-index in let p = c.part-item.result in let at = c.loop-part.at in
    let front = c.split_at.result.0.now in let behind = c.split_at.result.1.now in let rest = bytes_in (drop (k + 1) parts) behind in
    let next = parts_next parts k p c.loop-part.plain.now front behind (omega arith) c.part-item.is c.split_at.ensures.front c.split_at.ensures.back in
    let same = replicate p.count p.byte in let left = at - length front in
    let past : length front ≤ at = omega (arith, c.if-at-front.false) in
    let within : left < p.count = omega (arith, c.if-at-part.true) in
    sym (c.loop-part.invariant.is ∙ ap (λ bytes. slice_get bytes at) next ∙ past_first front (same ++ rest) at past
    ∙ within_first same rest left (omega (arith, within, length-replicate p.count p.byte)) ∙ replicated_at p.byte p.count left within)

pub loop-part-preserved : goal.loop-part-preserved
loop-part-preserved c =
    let parts = c.deref-part-items.result.now in let k = c.loop-part.part-index in let p = c.part-item.result in let at = c.loop-part.at in
    let front = c.split_at.result.0.now in let behind = c.split_at.result.1.now in let rest = bytes_in (drop (k + 1) parts) behind in
    let next = parts_next parts k p c.loop-part.plain.now front behind (omega arith) c.part-item.is c.split_at.ensures.front c.split_at.ensures.back in
    let same = replicate p.count p.byte in let left = at - length front in
    let past : length front ≤ at = omega (arith, c.if-at-front.false) in
    let further : length same ≤ left = omega (arith, c.if-at-part.false, length-replicate p.count p.byte) in
    record {
      whole = (plain_next parts k p c.loop-part.plain.now (omega arith) c.part-item.is c.loop-part.invariant.whole).1 ∙ ap length (sym c.split_at.ensures.back);
      is = c.loop-part.invariant.is ∙ ap (λ bytes. slice_get bytes at) next ∙ past_first front (same ++ rest) at past
          ∙ past_first same rest left further ∙ ap (λ n. slice_get rest (left - n)) (length-replicate p.count p.byte);
    }
