-- The bytes handed over are the front of those that were left.
use Rattle.std.proofs.Common.{◌≡◌, ◌≤◌, ◌∙◌, ℕ, ◌+◌, ◌-◌, List, ◌++◌, length, take, drop, take-add, sym, ap, arith}
use Rattle.std.proofs.lemmas.List.{take-append-drop, take_at, drop-drop, length-take-le}
use Rattle.cc_memdev.proofs.stream.MemSourceSource.take.Goals as goal

-- the bytes from a place on are those that were copied from there, whatever else the buffer has, and
-- those after them
given : (bytes copied rest : List ℕ) (at n : ℕ) → copied ≡ take (at + n - at) (drop at bytes) → length copied ≡ n → drop at bytes ≡ take n (copied ++ rest) ++ drop (at + n) bytes
given bytes copied rest at n e len =
    let more : at + n - at ≡ n = omega arith in
    let p : copied ≡ take n (drop at bytes) = e ∙ ap (λ k. take k (drop at bytes)) more in
    let front : take n (copied ++ rest) ≡ take n (drop at bytes) = take_at copied rest n len ∙ p in
    sym (take-append-drop n (drop at bytes)) ∙ ap (λ xs. xs ++ drop n (drop at bytes)) (sym front) ∙ ap (λ xs. take n (copied ++ rest) ++ xs) (drop-drop n at bytes)

-- those that were given before and these are all up to the next place
noted : (bytes copied rest : List ℕ) (at n : ℕ) → copied ≡ take (at + n - at) (drop at bytes) → length copied ≡ n → take (at + n) bytes ≡ take at bytes ++ take n (copied ++ rest)
noted bytes copied rest at n e len =
    let more : at + n - at ≡ n = omega arith in
    let p : copied ≡ take n (drop at bytes) = e ∙ ap (λ k. take k (drop at bytes)) more in
    let front : take n (copied ++ rest) ≡ take n (drop at bytes) = take_at copied rest n len ∙ p in
    take-add at n bytes ∙ ap (λ xs. take at bytes ++ xs) (sym front)

pub returns-clause-noted : goal.returns-clause-noted
returns-clause-noted c =
    let i = c.self.inside in
    let n = c.min-n.result in
    let e = c.copy_from_slice.ensures.after ∙ ap (λ xs. take (i.at + n - i.at) (drop i.at xs)) c.deref.ensures.value in
    let fits : n ≤ length c.args.buf.now = omega arith in
    let len = c.copy_from_slice.ensures.len ∙ length-take-le n c.args.buf.now fits in
    noted i.bytes.items c.copy_from_slice.new.self (drop n c.args.buf.now) i.at n e len
    ∙ ap (λ s. s.given ++ take n (c.copy_from_slice.new.self ++ drop n c.args.buf.now)) c.self.view_is

pub returns-clause-given : goal.returns-clause-given
returns-clause-given c =
    let i = c.self.inside in
    let n = c.min-n.result in
    let e = c.copy_from_slice.ensures.after ∙ ap (λ xs. take (i.at + n - i.at) (drop i.at xs)) c.deref.ensures.value in
    let fits : n ≤ length c.args.buf.now = omega arith in
    let len = c.copy_from_slice.ensures.len ∙ length-take-le n c.args.buf.now fits in
    ap (λ s. s.left) (sym c.self.view_is) ∙ given i.bytes.items c.copy_from_slice.new.self (drop n c.args.buf.now) i.at n e len
