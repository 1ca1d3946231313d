use Rattle.std.proofs.Common.{ℕ, ◌+◌, ◌-◌, ◌*◌, ◌/◌, length, ap, arith, length-append}
use Rattle.std.proofs.lemmas.List.FromFn.{length-map-range_with_len}
use Rattle.cc_images.specs.Changes.{with_page_of, starts}
use Rattle.cc_images.proofs.grown.raise.Goals as goal

pub push_starts-requires-clause-room : goal.push_starts-requires-clause-room
push_starts-requires-clause-room c =
    let first = c.args.was / 4096 + 1 in
    let last = (c.args.now - 1) / 4096 + 1 in
    omega (arith, c.requires.room, c.push_first.ensures.capacity, ap length c.push_first.ensures.bytes, length-append (with_page_of c.args.bytes.now.items c.args.was) (starts first last), length-map-range_with_len {X = ℕ} (λ page. 4096 * page) first (last - first))
