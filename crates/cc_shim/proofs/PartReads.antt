-- Parts of a range that were held, read and let go: one of them, and those of a range, put together.
use Rattle.std.specs.Prelude.{◌≡◌, ℕ, ◌+◌, ◌-◌, ◌*◌, ◌/◌, ◌<◌, ◌≤◌, Bool, max, min, List, [], ◌∷◌, ◌++◌, length, map, take, Result, Ok, Err, refl}
use Rattle.std.specs.List.{range_with_len}
use Rattle.std.proofs.Common.{ap, sym, ◌∙◌, subst, inl, inr, append_assoc, append-nil, arith}
use Rattle.std.proofs.Math.Nat.{div-add-mod, mod-lt}
use Rattle.std.proofs.lemmas.Bool.{lt-ltb}
use Rattle.std.proofs.lemmas.List.{take_all}
use Rattle.std.proofs.lemmas.List.FromFn.{map-range_with_len_more}
use Rattle.std.proofs.lemmas.Slice.{take-put_mid}
use borrow.Rule.Slice.PartMut.{put_mid}
use Rattle.cc_entry.specs.Place.{File, Range}
use Rattle.cc_entry.specs.declared.call.Call.TheVariants as call
use Rattle.cc_entry.specs.declared.entry.Entry.{Entry}
use Rattle.cc_entry.specs.declared.error.CcError.{CcError}
use Rattle.cc_entry.specs.declared.hold.HoldKind.{HoldKind}
use Rattle.cc_entry.specs.declared.reply.Outcome.TheVariants as outcome
use Rattle.cc_entry.specs.declared.reply.Reply.TheVariants as reply
use Rattle.cc_model.specs.Setup.{Setup}
use Rattle.cc_effects.specs.Calls.{CallLeft}
use Rattle.cc_effects.proofs.Stretches.{idle-none}
use Rattle.cc_turns.specs.Standing.{Standing}
use Rattle.cc_calls.specs.Ends.{HeldReadEnds, HoldEnded, MakingEnds, filled_outcome, hold_outcome}
use Rattle.cc_calls.specs.declared.held.Held.{Held}
use Rattle.cc_calls.proofs.Paging.{full-within, most_room}
use Rattle.cc_pieces.specs.Shim.{HoldPath, PartRead, PartRefused, PartsLeft, part_in, parts_of, whole_part}
use Rattle.cc_shim.specs.Ends.{CallListWasFull}
use Rattle.cc_shim.specs.Reads.{PartEnds, PartLeft, PartsEnds, filled_answer}
use Rattle.cc_shim.proofs.Going.{HasGone, ends-after, ends-more, ends-before, ends-here, full-now, gone-ended, gone-list, gone-none, gone-pages, gone-read, gone-then, moved}
use Rattle.cc_shim.proofs.Lists.{map-split}

-- ---- one part

module _ (w v : Standing) (path : HoldPath) (of_kind : HoldKind → Bool) (file : File) (r : Range) (most : most_room (path.make r) ≤ 2) where
  -- it could not be held
  pub part-unmade : (e : CcError) (now : List ℕ) → v.others ≤ v.most_others → MakingEnds w v of_kind file r.from (r.to - r.from) (path.make r) (Err e) → PartEnds w v path r (Err e) now now
  part-unmade e now few made =
      let gone = gone-pages w v (path.make r) (outcome.Failed e) made.pages in
      ends-here w v (PartLeft w.setup w.number path r) (Err e) gone
      (full-now {A = Held} w v (most_room (path.make r)) (Err e) gone few most (full-within {A = Held} (path.make r) w v (Err e) made.full))
      (inl made.pages.left)

  -- it was held, read and let go
  pub part-made : (x y : Standing) (held : Held) (answer : Result (Unit {0}) CcError) (was now : List ℕ) → MakingEnds w v of_kind file r.from (r.to - r.from) (path.make r) (Ok held) → x.others ≤ x.most_others → HeldReadEnds v x of_kind held (path.look held.id r) answer was now → HoldEnded x y held → PartEnds w y path r answer was now
  part-made x y held answer was now made few read ended =
      let first = gone-pages w v (path.make r) (hold_outcome (Ok held)) made.pages in
      let second = gone-read v x of_kind held (path.look held.id r) answer was now read in
      let third = gone-ended x y held ended in
      ends-after w v y (PartLeft w.setup w.number path r) (λ told old new. Looked v.setup v.number told old new) (filled_answer answer now) first
      (ends-before v x y (λ told old new. Looked v.setup v.number told old new) (λ told old new. CallLeft v.setup v.number (path.look held.id r) (filled_outcome answer now) old new) (filled_answer answer now)
      (ends-here v x (λ told old new. CallLeft v.setup v.number (path.look held.id r) (filled_outcome answer now) old new) (filled_answer answer now) second (by-full answer read) read.left)
      third
      (λ left. (x.seen, left, moved v x second.on (λ u me. CallLeft u me (call.EndHold held.id) (outcome.Done reply.Unit) x.seen y.seen) ended.left)))
      (λ left. whole answer (moved w v first.on (λ u me. Looked u me (filled_answer answer now) v.seen y.seen) left))
    where
      Looked : Setup → ℕ → Result (List ℕ) CcError → List Entry → List Entry → Type 0
      Looked u me told old new =
          (between : List Entry)
          × CallLeft u me (path.look held.id r) (filled_outcome answer now) old between
          × CallLeft u me (call.EndHold held.id) (outcome.Done reply.Unit) between new

      by-full : (answer : Result (Unit {0}) CcError) → HeldReadEnds v x of_kind held (path.look held.id r) answer was now → CallListWasFull v x (filled_answer answer now)
      by-full (Ok done) read = tt
      by-full (Err e) read = full-now {A = Unit {0}} v x 1 (Err e) (gone-read v x of_kind held (path.look held.id r) (Err e) was now read) few (omega arith) read.full

      whole : (answer : Result (Unit {0}) CcError) → ((between : List Entry) × CallLeft w.setup w.number (path.look held.id r) (filled_outcome answer now) v.seen between × CallLeft w.setup w.number (call.EndHold held.id) (outcome.Done reply.Unit) between y.seen) → PartLeft w.setup w.number path r (filled_answer answer now) w.seen y.seen
      whole (Ok done) left = (held.id, v.seen, left.0, made.pages.left, left.1, left.2)
      whole (Err e) left = inr (held.id, v.seen, left.0, made.pages.left, left.1, left.2)

-- ---- the parts of a range

-- what a read answers behind these bytes
abbrev pub behind : List ℕ → Result (List ℕ) CcError → Result (List ℕ) CcError
behind bytes (Ok rest) = Ok (bytes ++ rest)
behind bytes (Err e) = Err e

-- The first parts were read, so that what is left by the parts behind them is left by all.
abbrev pub FirstRead : Setup → ℕ → HoldPath → List Range → List ℕ → List Entry → List Entry → Type 0
FirstRead u me path parts bytes old new =
    (rest : List Range) (answered : Result (List ℕ) CcError) (last : List Entry) → PartsLeft u me path rest answered new last
    → PartsLeft u me path (parts ++ rest) (behind bytes answered) old last

module _ (u : Setup) (me : ℕ) (path : HoldPath) where
  pub first-unread : (old : List Entry) → FirstRead u me path [] [] old old
  first-unread old = λ rest answered last left. by rest answered last left
    where
      by : (rest : List Range) (answered : Result (List ℕ) CcError) (last : List Entry) → PartsLeft u me path rest answered old last → PartsLeft u me path rest (behind [] answered) old last
      by rest (Ok bytes) last left = left
      by rest (Err e) last left = left

  pub first-read : (parts : List Range) (r : Range) (bytes part : List ℕ) (old between new : List Entry) → FirstRead u me path parts bytes old between → PartRead u me path r part between new → FirstRead u me path (parts ++ r ∷ []) (bytes ++ part) old new
  first-read parts r bytes part old between new first read =
      λ rest answered last left.
      subst (λ (l : List Range). PartsLeft u me path l (behind (bytes ++ part) answered) old last) (sym (append_assoc parts (r ∷ []) rest)) (by rest answered last left)
    where
      by : (rest : List Range) (answered : Result (List ℕ) CcError) (last : List Entry) → PartsLeft u me path rest answered new last → PartsLeft u me path (parts ++ r ∷ rest) (behind (bytes ++ part) answered) old last
      by rest (Ok more) last left =
          subst (λ (l : List ℕ). PartsLeft u me path (parts ++ r ∷ rest) (Ok l) old last) (sym (append_assoc bytes part more))
          (first (r ∷ rest) (Ok (part ++ more)) last (new, part, more, refl, read, left))
      by rest (Err e) last left = first (r ∷ rest) (Err e) last (inr (new, part, read, left))

  pub first-unmade : (parts : List Range) (r : Range) (rest : List Range) (bytes : List ℕ) (e : CcError) (old between new : List Entry) → FirstRead u me path parts bytes old between → PartRefused u me path r e between new → PartsLeft u me path (parts ++ r ∷ rest) (Err e) old new
  first-unmade parts r rest bytes e old between new first refused = first (r ∷ rest) (Err e) new (inl refused)

  pub all-read : (parts : List Range) (bytes : List ℕ) (old new : List Entry) → FirstRead u me path parts bytes old new → PartsLeft u me path parts (Ok bytes) old new
  all-read parts bytes old new first =
      subst (λ (l : List Range). PartsLeft u me path l (Ok bytes) old new) (append-nil parts)
      (subst (λ (l : List ℕ). PartsLeft u me path (parts ++ []) (Ok l) old new) (append-nil bytes)
      (first [] (Ok []) new (refl, idle-none me new)))

-- a range as one part
pub whole-read : (w v : Standing) (path : HoldPath) (r : Range) (answer : Result (Unit {0}) CcError) (was now : List ℕ) → r.from < r.to → PartEnds w v path r answer was now → PartsEnds w v path (whole_part r) answer was now
whole-read w v path r answer was now some ends =
    rw (lt-ltb r.from r.to some)
    (ends-more w v (PartLeft w.setup w.number path r) (PartsLeft w.setup w.number path (r ∷ [])) (filled_answer answer now) (by answer) ends)
  where
    by : (answer : Result (Unit {0}) CcError) → PartLeft w.setup w.number path r (filled_answer answer now) w.seen v.seen → PartsLeft w.setup w.number path (r ∷ []) (filled_answer answer now) w.seen v.seen
    by (Ok done) left = (v.seen, now, [], sym (append-nil now), left, (refl, idle-none w.number v.seen))
    by (Err e) left = inl left

-- ---- block by block

-- as many bytes of a range as lie below a view block
abbrev pub below_block : Range → ℕ → ℕ
below_block r b = min r.to (262144 * b) - r.from

-- the parts in so many view blocks from the first on
abbrev pub first_parts : Range → ℕ → List Range
first_parts r n = map (part_in r) (range_with_len (r.from / 262144) n)

-- the parts below a view block were read
pub record HasRead (w v : Standing) (path : HoldPath) (r : Range) (b : ℕ) (now : List ℕ) : Type 0 where
  pub gone : HasGone w v
  pub first : FirstRead w.setup w.number path (first_parts r (b - r.from / 262144)) (take (below_block r b) now) w.seen v.seen

pub read-none : (w : Standing) (path : HoldPath) (r : Range) (now : List ℕ) → HasRead w w path r (r.from / 262144) now
read-none w path r now = record {
  gone = gone-none w;
  first =
      subst (λ (n : ℕ). FirstRead w.setup w.number path (first_parts r n) (take (below_block r (r.from / 262144)) now) w.seen w.seen) none
      (subst (λ (n : ℕ). FirstRead w.setup w.number path [] (take n now) w.seen w.seen) (before r.from r.to) (first-unread w.setup w.number path w.seen));
}
  where
    none : 0 ≡ r.from / 262144 - r.from / 262144
    none = omega arith

    before : (from to : ℕ) → 0 ≡ min to (262144 * (from / 262144)) - from
    before from to = omega (arith, div-add-mod from 262144)

module _ (w v x : Standing) (path : HoldPath) (r : Range) (b : ℕ) (now part_was part : List ℕ) (was : HasRead w v path r b now) (begins : 262144 * b < r.to) (ends : r.from < 262144 * b + 262144) (first_is : r.from / 262144 ≤ b) where
  abbrev begin : ℕ
  begin = max r.from (262144 * b) - r.from

  abbrev end : ℕ
  end = min r.to (262144 * b + 262144) - r.from

  begin-is : below_block r b ≡ begin
  begin-is = omega (arith, begins)

  end-is : below_block r (b + 1) ≡ end
  end-is = omega arith

  one-more : first_parts r (b + 1 - r.from / 262144) ≡ first_parts r (b - r.from / 262144) ++ part_in r b ∷ []
  one-more =
      let count : b + 1 - r.from / 262144 ≡ (b - r.from / 262144) + 1 = omega (arith, first_is) in
      let last : r.from / 262144 + (b - r.from / 262144) ≡ b = omega (arith, first_is) in
      ap (λ n. first_parts r n) count ∙ map-range_with_len_more (part_in r) (r.from / 262144) (b - r.from / 262144) b last

  -- the next one was read, and its bytes stand behind those before
  pub read-more : length part ≡ end - begin → end ≤ length now → PartEnds v x path (part_in r b) (Ok tt) part_was part → HasRead w x path r (b + 1) (put_mid begin (end - begin) now part)
  read-more long fits read =
      let gone = gone-list v x (PartLeft v.setup v.number path (part_in r b)) (Ok part) read in
      let order : begin ≤ end = omega (arith, begins, ends) in
      record {
        gone = gone-then w v x was.gone gone;
        first =
            subst (λ (l : List Range). FirstRead w.setup w.number path l (take (below_block r (b + 1)) (put_mid begin (end - begin) now part)) w.seen x.seen) (sym one-more)
            (subst (λ (l : List ℕ). FirstRead w.setup w.number path (first_parts r (b - r.from / 262144) ++ part_in r b ∷ []) l w.seen x.seen) (sym (bytes-are long fits order))
            (first-read w.setup w.number path (first_parts r (b - r.from / 262144)) (part_in r b) (take (below_block r b) now) part w.seen v.seen x.seen was.first
            (moved w v was.gone.on (λ u me. PartRead u me path (part_in r b) part v.seen x.seen) read.left)));
      }
    where
      sum : (b e n : ℕ) → b ≤ e → n ≡ e - b → e ≡ b + n
      sum b e n order is = omega (arith, order, is)

      at-most : (b e n : ℕ) → b ≤ e → e ≤ n → b ≤ n
      at-most b e n order fits = omega (arith, order, fits)

      bytes-are : length part ≡ end - begin → end ≤ length now → begin ≤ end → take (below_block r (b + 1)) (put_mid begin (end - begin) now part) ≡ take (below_block r b) now ++ part
      bytes-are long fits order =
          take-put_mid begin (end - begin) now part (below_block r (b + 1)) (end-is ∙ sum begin end (length part) order long) (at-most begin end (length now) order fits)
          ∙ ap (λ n. take n now ++ part) (sym begin-is)

  -- the same by where the part begins and ends
  pub read-more-at : (first from to : ℕ) → first ≡ r.from → from ≡ (part_in r b).from → to ≡ (part_in r b).to → length part ≡ to - from → to - first ≤ length now → PartEnds v x path (part_in r b) (Ok tt) part_was part → HasRead w x path r (b + 1) (put_mid (from - first) ((to - first) - (from - first)) now part)
  read-more-at first from to first_at from_at to_at long fits read =
      rw (first_at, from_at, to_at) (read-more (counted first from to first_at from_at to_at long) (within first to first_at to_at fits) read)
    where
      counted : (first from to : ℕ) → first ≡ r.from → from ≡ (part_in r b).from → to ≡ (part_in r b).to → length part ≡ to - from → length part ≡ end - begin
      counted first from to first_at from_at to_at long = omega (arith, first_at, from_at, to_at, long, begins, ends)

      within : (first to : ℕ) → first ≡ r.from → to ≡ (part_in r b).to → to - first ≤ length now → end ≤ length now
      within first to first_at to_at fits = omega (arith, first_at, to_at, fits)

  -- it was not
  pub read-refused : (e : CcError) (last : ℕ) (after was_out : List ℕ) → r.from < r.to → last ≡ (r.to - 1) / 262144 → b < last + 1 → PartEnds v x path (part_in r b) (Err e) part_was part → PartsEnds w x path (parts_of r) (Err e) was_out after
  read-refused e last after was_out some last_is below refused =
      let all = map-split (part_in r) (r.from / 262144) (b - r.from / 262144) ((r.to - 1) / 262144 + 1 - r.from / 262144) (within last_is) in
      let here : r.from / 262144 + (b - r.from / 262144) ≡ b = omega (arith, first_is) in
      rw (lt-ltb r.from r.to some)
      (ends-after w v x (PartsLeft w.setup w.number path (first_parts r ((r.to - 1) / 262144 + 1 - r.from / 262144))) (PartLeft v.setup v.number path (part_in r b)) (Err e) was.gone refused
      (λ left.
      subst (λ (l : List Range). PartsLeft w.setup w.number path l (Err e) w.seen x.seen) (sym all.1)
      (subst (λ (n : ℕ). PartsLeft w.setup w.number path (first_parts r (b - r.from / 262144) ++ part_in r n ∷ all.0) (Err e) w.seen x.seen) (sym here)
      (first-unmade w.setup w.number path (first_parts r (b - r.from / 262144)) (part_in r b) all.0 (take (below_block r b) now) e w.seen v.seen x.seen was.first
      (moved w v was.gone.on (λ u me. PartRefused u me path (part_in r b) e v.seen x.seen) left)))))
    where
      within : last ≡ (r.to - 1) / 262144 → b - r.from / 262144 < (r.to - 1) / 262144 + 1 - r.from / 262144
      within is = omega (arith, is, below, first_is)

-- a view block that a range reaches begins below its end, and ends behind its begin
pub block-begins : (to b : ℕ) → 0 < to → b < (to - 1) / 262144 + 1 → 262144 * b < to
block-begins to b some below = omega (arith, some, below, div-add-mod (to - 1) 262144)

pub block-ends : (from b : ℕ) → from / 262144 ≤ b → from < 262144 * b + 262144
block-ends from b least =
    let above : 0 < 262144 = omega arith in
    omega (arith, least, div-add-mod from 262144, mod-lt from above)

pub first-last : (from to : ℕ) → from < to → from / 262144 ≤ (to - 1) / 262144 + 1
first-last from to some =
    let above : 0 < 262144 = omega arith in
    omega (arith, some, div-add-mod from 262144, div-add-mod (to - 1) 262144, mod-lt (to - 1) above)

-- all were read
pub read-all : (w v : Standing) (path : HoldPath) (r : Range) (b : ℕ) (was now : List ℕ) → HasRead w v path r b now → r.from < r.to → length now ≡ r.to - r.from → b ≡ (r.to - 1) / 262144 + 1 → PartsEnds w v path (parts_of r) (Ok tt) was now
read-all w v path r b was now read some long last =
    rw (lt-ltb r.from r.to some)
    (ends-here w v (PartsLeft w.setup w.number path (first_parts r ((r.to - 1) / 262144 + 1 - r.from / 262144))) (Ok now) read.gone tt
    (all-read w.setup w.number path (first_parts r ((r.to - 1) / 262144 + 1 - r.from / 262144)) now w.seen v.seen
    (subst (λ (n : ℕ). FirstRead w.setup w.number path (first_parts r (n - r.from / 262144)) now w.seen v.seen) last
    (subst (λ (l : List ℕ). FirstRead w.setup w.number path (first_parts r (b - r.from / 262144)) l w.seen v.seen) (take_all (below_block r b) now (whole last)) read.first))))
  where
    whole : b ≡ (r.to - 1) / 262144 + 1 → length now ≤ below_block r b
    whole is =
        let above : 0 < 262144 = omega arith in
        omega (arith, is, long, div-add-mod (r.to - 1) 262144, mod-lt (r.to - 1) above)
