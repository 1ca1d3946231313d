-- One part more has the next bytes of the slice, so the parts kept so far are its front; there is room for each.
use Rattle.std.proofs.Common.{◌≡◌, ◌≤◌, [], ◌∷◌, ◌++◌, ◌+◌, ◌-◌, length, take, drop, replicate, cond, arith, ap, sym, ◌∙◌, inl, inr, append_assoc}
use Rattle.std.proofs.lemmas.List.{length-append, length-drop, length-take-le}
use Rattle.std.specs.Prelude.{IsOk}
use Rattle.cc_entry.specs.Parts.{bytes_in, plain_in}
use Rattle.cc_entry.proofs.Kept.{part_behind, plain_behind, take_add}
use Rattle.cc_entry.proofs.bytes.BytesRoom.keep.Goals as goal

pub loop-at-preserved : goal.loop-at-preserved
loop-at-preserved c =
    let slice = c.args.slice.now in let at = c.loop-at.at in let part = c.next-part.result in let inv = c.loop-at.invariant in
    let parts = c.loop-at.parts.items in let plain = c.loop-at.plain.items in let same = replicate part.count part.byte in
    let piece = take (at + part.plain - at) (drop at slice) in
    let n : at + part.plain - at ≡ part.plain = omega arith in
    let within : at + part.plain + part.count ≤ length slice = c.next-part.ensures.within in
    let long : length piece ≡ part.plain = length-take-le (at + part.plain - at) (drop at slice) (omega (arith, length-drop at slice, within)) ∙ n in
    let done : IsOk c.extend_from_slice-kept.result = c.extend_from_slice-kept.ensures.succeeds (omega (arith, long, inv.held, inv.space, within, c.loop-at.plain.ok.0)) in
    let grown : c.extend_from_slice-kept.new.self.items ≡ plain ++ piece = c.extend_from_slice-kept.ensures.items ∙ ap (λ b. cond b (plain ++ piece) plain) done in
    let pushed = c.push_reserved.ensures.items in
    let sum : at + part.plain + part.count ≡ at + (part.plain + part.count) = omega arith in
    let counts = ap length grown in let plains = ap plain_in pushed in
    record {
      within = omega (arith, within);
      kept =
          ap (λ ps. bytes_in ps c.extend_from_slice-kept.new.self.items) pushed ∙ ap (bytes_in (parts ++ part ∷ [])) grown
          ∙ part_behind parts part plain piece inv.whole (sym long) ∙ ap (λ front. front ++ (piece ++ same)) inv.kept
          ∙ sym (append_assoc (take at slice) piece same) ∙ ap (λ m. (take at slice ++ take m (drop at slice)) ++ same) n
          ∙ ap (λ front. front ++ same) (sym (take_add slice at part.plain)) ∙ sym c.next-part.ensures.same ∙ ap (λ m. take m slice) sum;
      whole = omega (arith, plains, plain_behind parts part, inv.whole, long, counts, length-append plain piece);
      room = omega (arith, inv.room, c.push_reserved.ensures.capacity);
      few = λ before. elim c.next-part.ensures.long [
        | inl last ↦ absurd (omega (arith, last, before, sum))
        | inr more ↦ omega (arith, more, sum, inv.few (omega (arith, before, sum)), ap length pushed, length-append parts (part ∷ []))
      ];
      space = omega (arith, inv.space, c.extend_from_slice-kept.ensures.capacity);
      held = omega (arith, counts, length-append plain piece, long, inv.held, sum);
    }
