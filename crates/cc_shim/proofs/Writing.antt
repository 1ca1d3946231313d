-- A write that was told the state of its stream: its calls, put together.
use Rattle.std.specs.Prelude.{◌≡◌, ℕ, ◌+◌, ◌-◌, ◌*◌, ◌/◌, ◌%◌, ◌<◌, ◌≤◌, max, min, List, [], ◌∷◌, ◌++◌, length, map, Result, Ok, Err, refl}
use Rattle.std.specs.List.{range_with_len}
use Rattle.std.proofs.Common.{ap, sym, ◌∙◌, subst, inl, inr, arith}
use Rattle.std.proofs.Math.Nat.{div-add-mod, mod-lt}
use Rattle.std.proofs.lemmas.Bool.{lt-ltb, le-ltb}
use Rattle.std.proofs.lemmas.List.FromFn.{map-range_with_len_more}
use Rattle.cc_entry.specs.Place.{File, Range}
use Rattle.cc_entry.specs.declared.call.Call.{Call}
use Rattle.cc_entry.specs.declared.call.Call.TheVariants as call
use Rattle.cc_entry.specs.declared.query.Query.TheVariants as query
use Rattle.cc_entry.specs.declared.error.CcError.{CcError}
use Rattle.cc_entry.specs.declared.error.CcError.TheVariants as error
use Rattle.cc_entry.specs.declared.place.FileState.{FileState}
use Rattle.cc_entry.specs.declared.reply.Outcome.TheVariants as outcome
use Rattle.cc_effects.specs.Calls.{CallLeft}
use Rattle.cc_effects.proofs.Stretches.{idle-none}
use Rattle.cc_turns.specs.Standing.{Standing}
use Rattle.cc_calls.specs.Answers.{CallEnds, CallSets, outcome_of, state_outcome}
use Rattle.cc_calls.specs.Pages.{ChangeEnds}
use Rattle.cc_calls.proofs.Paging.{full-within, most_room}
use Rattle.cc_pieces.specs.Shim.{CallsLeft, ShortWriteLeft, ToldWriteLeft, extensions, write_calls, zeroings}
use Rattle.cc_shim.specs.Ends.{FirstLeft, ListEnds, ExtendingWriteLeft}
use Rattle.cc_shim.proofs.Going.{HasGone, ends-after, ends-more, ends-here, full-now, gone-ends, gone-list, gone-none, gone-pages, gone-then, moved, one-asked}
use Rattle.cc_shim.proofs.Lists.{first-call, first-more, first-none, first-refused, last-call, map-split}

-- ---- a list that goes on behind its first calls

module _ (w v x : Standing) (calls : List Call) (first : ListEnds w v (FirstLeft w.setup w.number calls) (Ok tt)) where
  -- the rest, and so the whole
  pub first-rest : (rest : List Call) (answered : Result (Unit {0}) CcError) → ListEnds v x (CallsLeft v.setup v.number rest) answered → ListEnds w x (CallsLeft w.setup w.number (calls ++ rest)) answered
  first-rest rest answered ends =
      let gone = gone-list w v (FirstLeft w.setup w.number calls) (Ok tt) first in
      ends-after w v x (CallsLeft w.setup w.number (calls ++ rest)) (CallsLeft v.setup v.number rest) answered gone ends
      (λ left. first.left rest answered x.seen (moved w v gone.on (λ u me. CallsLeft u me rest answered v.seen x.seen) left))

-- it was refused
pub first-ends : (w v : Standing) (calls rest : List Call) (e : CcError) → ListEnds w v (FirstLeft w.setup w.number calls) (Err e) → ListEnds w v (CallsLeft w.setup w.number (calls ++ rest)) (Err e)
first-ends w v calls rest e ends = record { left = ends.left rest; full = ends.full; goes_on = ends.goes_on; grew = ends.grew; good = ends.good }

-- ---- the calls of a write

-- the last call of a list, which changes bytes
pub change-last : (w v : Standing) (it : Call) (answered : Result (Unit {0}) CcError) → most_room it ≤ 2 → v.others ≤ v.most_others → ChangeEnds w v it answered → ListEnds w v (CallsLeft w.setup w.number (it ∷ [])) answered
change-last w v it answered most few ends =
    let gone = gone-pages w v it (outcome_of answered) ends.pages in
    ends-here w v (CallsLeft w.setup w.number (it ∷ [])) answered gone
    (full-now w v (most_room it) answered gone few most (full-within {A = Unit {0}} it w v answered ends.full))
    (last-call w.setup w.number it answered w.seen v.seen ends.pages.left)

-- the size is set where the end of the bytes is past it
pub extended : (w v : Standing) (file : File) (state : FileState) (end : ℕ) (answered : Result (Unit {0}) CcError) → state.sizes.size < end → v.others ≤ v.most_others → CallSets w v (call.SetSizes file (max end state.sizes.allocation) end) answered → ListEnds w v (FirstLeft w.setup w.number (extensions file state end)) answered
extended w v file state end answered past few ends =
    let it = call.SetSizes file (max end state.sizes.allocation) end in
    let gone = gone-ends outcome_of w v it answered ends in
    rw (lt-ltb state.sizes.size end past)
    (ends-here w v (FirstLeft w.setup w.number (it ∷ [])) answered gone
    (full-now w v 1 answered gone few (omega arith) ends.full)
    (first-call w.setup w.number it answered w.seen v.seen ends.left))

pub not-extended : (w : Standing) (file : File) (state : FileState) (end : ℕ) → end ≤ state.sizes.size → ListEnds w w (FirstLeft w.setup w.number (extensions file state end)) (Ok tt)
not-extended w file state end within =
    rw (le-ltb state.sizes.size end within)
    (ends-here w w (FirstLeft w.setup w.number []) (Ok tt) (gone-none w) tt (first-none w.setup w.number w.seen))

-- ---- the pieces of the gap

abbrev pub zeroing : File → ℕ → ℕ → ℕ → Call
zeroing file from to k = call.Zero file (record { from = from + 1048576 * k; to = min to (from + 1048576 * k + 1048576) })

-- so many pieces were zeroed
pub record HasZeroed (w v : Standing) (file : File) (from to k : ℕ) : Type 0 where
  pub gone : HasGone w v
  pub first : FirstLeft w.setup w.number (map (zeroing file from to) (range_with_len 0 k)) (Ok tt) w.seen v.seen

pub zeroed-none : (w : Standing) (file : File) (from to : ℕ) → HasZeroed w w file from to 0
zeroed-none w file from to = record { gone = gone-none w; first = first-none w.setup w.number w.seen }

module _ (w v x : Standing) (file : File) (from to k : ℕ) (was : HasZeroed w v file from to k) (span : Range) (begins : span.from ≡ from + 1048576 * k) (ends : span.to ≡ min to (from + 1048576 * k + 1048576)) where
  same-call : call.Zero file span ≡ zeroing file from to k
  same-call = ap (λ (r : Range). call.Zero file r) (same-range span _ _ begins ends)
    where
      same-range : (r : Range) (from to : ℕ) → r.from ≡ from → r.to ≡ to → r ≡ record { from = from; to = to }
      same-range r from to begin end =
          ap (λ (n : ℕ). record { from = n; to = r.to }) begin ∙ ap (λ (n : ℕ). record { from = from; to = n }) end

  from-zero : 0 + k ≡ k
  from-zero = omega arith

  left-of : (answered : Result (Unit {0}) CcError) → ChangeEnds v x (call.Zero file span) answered → CallLeft w.setup w.number (zeroing file from to k) (outcome_of answered) v.seen x.seen
  left-of answered change =
      subst (λ (it : Call). CallLeft w.setup w.number it (outcome_of answered) v.seen x.seen) same-call
      (moved w v was.gone.on (λ u me. CallLeft u me (call.Zero file span) (outcome_of answered) v.seen x.seen) change.pages.left)

  -- one more
  pub zeroed-more : ChangeEnds v x (call.Zero file span) (Ok tt) → HasZeroed w x file from to (k + 1)
  zeroed-more change = record {
    gone = gone-then w v x was.gone (gone-pages v x (call.Zero file span) (outcome_of (Ok tt)) change.pages);
    first =
        subst (λ (l : List Call). FirstLeft w.setup w.number l (Ok tt) w.seen x.seen) (sym (map-range_with_len_more (zeroing file from to) 0 k k from-zero))
        (first-more w.setup w.number (map (zeroing file from to) (range_with_len 0 k)) (zeroing file from to k) w.seen v.seen x.seen was.first (left-of (Ok tt) change));
  }

  -- one that was refused ends it
  pub zeroed-refused : (e : CcError) → k < ((to - from) + 1048575) / 1048576 → x.others ≤ x.most_others → ChangeEnds v x (call.Zero file span) (Err e) → ListEnds w x (FirstLeft w.setup w.number (zeroings file from to)) (Err e)
  zeroed-refused e below few change =
      let gone = gone-pages v x (call.Zero file span) (outcome.Failed e) change.pages in
      ends-after w v x (FirstLeft w.setup w.number (zeroings file from to)) (λ answered old new. CallLeft w.setup w.number (zeroing file from to k) (outcome_of answered) old new) (Err e) was.gone
      (ends-here v x (λ answered old new. CallLeft w.setup w.number (zeroing file from to k) (outcome_of answered) old new) (Err e) gone
      (full-now {A = Unit {0}} v x (most_room (call.Zero file span)) (Err e) gone few one-asked (full-within {A = Unit {0}} (call.Zero file span) v x (Err e) change.full))
      (left-of (Err e) change))
      (λ left.
      let split = map-split (zeroing file from to) 0 k (((to - from) + 1048575) / 1048576) below in
      let whole = split.1 ∙ ap (λ (n : ℕ). map (zeroing file from to) (range_with_len 0 k) ++ zeroing file from to n ∷ split.0) from-zero in
      subst (λ (l : List Call). FirstLeft w.setup w.number l (Err e) w.seen x.seen) (sym whole)
      (first-refused w.setup w.number (map (zeroing file from to) (range_with_len 0 k)) (zeroing file from to k) split.0 e w.seen v.seen x.seen was.first left))

-- how many pieces a gap has
pub pieces-are : (gap : ℕ) → gap / 1048576 + min 1 (gap % 1048576) ≡ (gap + 1048575) / 1048576
pieces-are gap =
    let above : 0 < 1048576 = omega arith in
    omega (arith, div-add-mod gap 1048576, div-add-mod (gap + 1048575) 1048576, mod-lt gap above, mod-lt (gap + 1048575) above)

-- all pieces
pub zeroed-all : (w v : Standing) (file : File) (from to k : ℕ) → HasZeroed w v file from to k → k ≡ ((to - from) + 1048575) / 1048576 → ListEnds w v (FirstLeft w.setup w.number (zeroings file from to)) (Ok tt)
zeroed-all w v file from to k was all =
    ends-here w v (FirstLeft w.setup w.number (zeroings file from to)) (Ok tt) was.gone tt
    (subst (λ (n : ℕ). FirstLeft w.setup w.number (map (zeroing file from to) (range_with_len 0 n)) (Ok tt) w.seen v.seen) all was.first)

-- ---- the whole write

module _ (w : Standing) (file : File) (at : ℕ) (bytes : List ℕ) (state : FileState) (near : at ≤ state.sizes.valid + 67108864) where
  abbrev zeros : List Call
  zeros = zeroings file state.sizes.valid at

  abbrev copy : Call
  copy = call.CopyWrite file at bytes

  told : (v : Standing) (answered : Result (Unit {0}) CcError) → ListEnds w v (CallsLeft w.setup w.number (write_calls file at bytes state)) answered → ListEnds w v (ToldWriteLeft w.setup w.number file at bytes state) answered
  told v answered ends =
      ends-more w v (CallsLeft w.setup w.number (write_calls file at bytes state)) (ToldWriteLeft w.setup w.number file at bytes state) answered (λ left. inr (near, left)) ends

  pub write-unextended : (v : Standing) (e : CcError) → ListEnds w v (FirstLeft w.setup w.number (extensions file state (at + length bytes))) (Err e) → ListEnds w v (ToldWriteLeft w.setup w.number file at bytes state) (Err e)
  write-unextended v e ends =
      told v (Err e) (first-ends w v (extensions file state (at + length bytes)) (zeros ++ copy ∷ []) e ends)

  module _ (v : Standing) (extended : ListEnds w v (FirstLeft w.setup w.number (extensions file state (at + length bytes))) (Ok tt)) where
    pub write-unzeroed : (x : Standing) (e : CcError) → ListEnds v x (FirstLeft v.setup v.number zeros) (Err e) → ListEnds w x (ToldWriteLeft w.setup w.number file at bytes state) (Err e)
    write-unzeroed x e ends =
        told x (Err e)
        (first-rest w v x (extensions file state (at + length bytes)) extended (zeros ++ copy ∷ []) (Err e)
        (first-ends v x zeros (copy ∷ []) e ends))

    pub write-copied : (x y : Standing) (answered : Result (Unit {0}) CcError) → ListEnds v x (FirstLeft v.setup v.number zeros) (Ok tt) → y.others ≤ y.most_others → ChangeEnds x y copy answered → ListEnds w y (ToldWriteLeft w.setup w.number file at bytes state) answered
    write-copied x y answered zeroed few copied =
        told y answered
        (first-rest w v y (extensions file state (at + length bytes)) extended (zeros ++ copy ∷ []) answered
        (first-rest v x y zeros zeroed (copy ∷ []) answered
        (change-last x y copy answered one-asked few copied)))

-- a gap that is too long
pub write-too_far : (w : Standing) (file : File) (at : ℕ) (bytes : List ℕ) (state : FileState) → state.sizes.valid + 67108864 < at → ListEnds w w (ToldWriteLeft w.setup w.number file at bytes state) (Err (error.GapTooLong 67108864))
write-too_far w file at bytes state far =
    ends-here w w (ToldWriteLeft w.setup w.number file at bytes state) (Err (error.GapTooLong 67108864)) (gone-none w) tt
    (inl (far, inl refl, idle-none w.number w.seen))

-- too many bytes
pub write-too_long : (w : Standing) (file : File) (at : ℕ) (bytes : List ℕ) → 1048576 < length bytes → ListEnds w w (ExtendingWriteLeft w.setup w.number file at bytes) (Err (error.TooLong 1048576))
write-too_long w file at bytes long =
    ends-here w w (ExtendingWriteLeft w.setup w.number file at bytes) (Err (error.TooLong 1048576)) (gone-none w) tt
    (rw (lt-ltb 1048576 (length bytes) long) (inl refl, idle-none w.number w.seen))

module _ (w v : Standing) (file : File) (at : ℕ) (bytes : List ℕ) (short : length bytes ≤ 1048576) where
  as-short : (x : Standing) (answered : Result (Unit {0}) CcError) → ListEnds w x (ShortWriteLeft w.setup w.number file at bytes) answered → ListEnds w x (ExtendingWriteLeft w.setup w.number file at bytes) answered
  as-short x answered ends =
      ends-more w x (ShortWriteLeft w.setup w.number file at bytes) (ExtendingWriteLeft w.setup w.number file at bytes) answered
      (λ left. rw (le-ltb 1048576 (length bytes) short) left) ends

  -- the state was not told
  pub write-untold : (e : CcError) → v.others ≤ v.most_others → CallEnds state_outcome w v (call.Query (query.State file)) (Err e) → ListEnds w v (ExtendingWriteLeft w.setup w.number file at bytes) (Err e)
  write-untold e few ends =
      let gone = gone-ends state_outcome w v (call.Query (query.State file)) (Err e) ends in
      as-short v (Err e)
      (ends-here w v (ShortWriteLeft w.setup w.number file at bytes) (Err e) gone (full-now {A = FileState} w v 1 (Err e) gone few (omega arith) ends.full)
      (inl (e, refl, ends.left)))

  -- it was, and the write went on
  pub write-told : (x : Standing) (state : FileState) (answered : Result (Unit {0}) CcError) → CallEnds state_outcome w v (call.Query (query.State file)) (Ok state) → ListEnds v x (ToldWriteLeft v.setup v.number file at bytes state) answered → ListEnds w x (ExtendingWriteLeft w.setup w.number file at bytes) answered
  write-told x state answered ends rest =
      let gone = gone-ends state_outcome w v (call.Query (query.State file)) (Ok state) ends in
      as-short x answered
      (ends-after w v x (ShortWriteLeft w.setup w.number file at bytes) (ToldWriteLeft v.setup v.number file at bytes state) answered gone rest
      (λ left. inr (v.seen, state, ends.left, moved w v gone.on (λ u me. ToldWriteLeft u me file at bytes state answered v.seen x.seen) left)))
