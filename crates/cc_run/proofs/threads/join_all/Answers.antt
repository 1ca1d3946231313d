-- The pass taken off is the last of those left, and its number goes with it; its answers stand turned round in a row.
use Rattle.std.proofs.Common.{◌≡◌, ◌+◌, ◌++◌, ◌∷◌, [], ℕ, List, length, map, reverse, sym, ap, ◌∙◌, arith}
use Rattle.std.proofs.lemmas.List.{append-nil, reverse-append, map_push}
use Rattle.std.specs.Global.{Global}
use Rattle.std.specs.declared.vec.Vec.{Vec}
use Rattle.cc_entry.specs.declared.answer.Answer.{Answer}
use Rattle.cc_board.specs.Board.{FirstState, IsOfBoard, after_join}
use Rattle.cc_lines.specs.Holds.{NamesState}
use Rattle.cc_run.specs.Lines.{IsCaller}
use Rattle.cc_run.specs.Threads.{under_way_of}
use Rattle.cc_run.specs.declared.callers.FinishedCaller.{FinishedCaller}
use Rattle.cc_run.proofs.Lists.{all-back}
use Rattle.cc_run.proofs.Rooms.{has-room, taken-next}
use Rattle.cc_run.proofs.RowSteps.{longer}
use Rattle.cc_run.proofs.threads.join_all.Goals as goal

-- pass 0 after these were joined
abbrev after : {D L Q : Type 0} → FirstState D L → List (FinishedCaller D L Q) → FirstState D L
after first gone = record first {
  knows = record first.knows {
    in_flight = first.knows.in_flight + under_way_of gone;
    ended = map (λ one. (one.pass.knows.number, one.pass.knows.seen)) gone ++ first.knows.ended;
  };
}

-- after none, and after one more
after-none : {D L : Type 0} (first : FirstState D L) → first ≡ record first { knows = record first.knows { in_flight = first.knows.in_flight + 0 } }
after-none first =
    let same : first.knows.in_flight ≡ first.knows.in_flight + 0 = omega arith in
    ap (λ n. record first { knows = record first.knows { in_flight = n } }) same

after-next : {D L Q : Type 0} (old at new : FirstState D L) (gone : List (FinishedCaller D L Q)) (one : FinishedCaller D L Q) →
    at ≡ after old gone → new ≡ after_join at one.pass → new ≡ after old (one ∷ gone)
after-next {D = D} {L = L} old at new gone one is joined =
    let more : old.knows.in_flight + under_way_of gone + one.pass.knows.in_flight ≡ old.knows.in_flight + under_way_of (one ∷ gone) = omega arith in
    let with : FirstState D L → FirstState D L = λ f. after_join f one.pass in
    joined ∙ (ap with is ∙ ap (λ n. record (after old (one ∷ gone)) { knows = record (after old (one ∷ gone)).knows { in_flight = n } }) more)

-- the number of a caller whose pass was taken from the end
numbered : {A : Type 0} (ended fewer : List A) (one : A) (number rows : ℕ) → ended ≡ fewer ++ one ∷ [] → length ended ≡ number →
    rows + number ≡ 16 → IsCaller number
numbered ended fewer one number rows is counted as_many =
    record { first = omega (arith, longer ended fewer one is, counted); last = omega (arith, as_many) }

-- one row more
rows-next : {D L Q : Type 0} (rows new : List (Vec Answer Global)) (row : Vec Answer Global) (gone : List (FinishedCaller D L Q)) (one : FinishedCaller D L Q) →
    map (λ row. row.items) rows ≡ map (λ one. reverse one.answers.items) (reverse gone) → row.items ≡ reverse one.answers.items →
    new ≡ rows ++ row ∷ [] → map (λ row. row.items) new ≡ map (λ one. reverse one.answers.items) (reverse (one ∷ gone))
rows-next {D = D} {L = L} {Q = Q} rows new row gone one before turned is =
    let items : Vec Answer Global → List Answer = λ row. row.items in
    let turn : FinishedCaller D L Q → List Answer = λ one. reverse one.answers.items in
    ap (map items) is ∙ (map_push items rows row ∙ (ap (λ l. l ++ row.items ∷ []) before ∙ (ap (λ l. map turn (reverse gone) ++ l ∷ []) turned
    ∙ sym (ap (map turn) (reverse-append (one ∷ []) gone) ∙ map_push turn (reverse gone) one))))

-- what is kept of one caller's words more
names-next : {D L Q : Type 0} (names new : List NamesState) (gone : List (FinishedCaller D L Q)) (one : FinishedCaller D L Q) →
    names ≡ map (λ one. one.names) (reverse gone) → new ≡ names ++ one.names ∷ [] → new ≡ map (λ one. one.names) (reverse (one ∷ gone))
names-next {D = D} {L = L} {Q = Q} names new gone one before is =
    let named : FinishedCaller D L Q → NamesState = λ one. one.names in
    is ∙ (ap (λ l. l ++ one.names ∷ []) before ∙ sym (ap (map named) (reverse-append (one ∷ []) gone) ∙ map_push named (reverse gone) one))

pub push_reserved-requires-in-Some : goal.push_reserved-requires-in-Some
push_reserved-requires-in-Some g c =
    let is = numbered c.loop-pass.ended.items c.pop.new.self.items c.in-Some.field-0 c.loop-pass.number (length c.loop-pass.rows.items)
    c.in-Some.ensures.items c.loop-pass.invariant.counted c.loop-pass.invariant.as_many in
    has-room c.loop-pass.names c.loop-pass.number is.first c.loop-pass.invariant.names_as_many c.loop-pass.invariant.names_room

pub loop-pass-init : goal.loop-pass-init
loop-pass-init g c = record {
  gone = [];
  left = append-nil c.args.ended.items;
  counted = omega (arith, c.requires.may.counted, c.from-number.ensures);
  as_many = omega (arith, ap length c.requires.room.empty, c.from-number.ensures);
  room = c.requires.room.room;
  first = after-none c.args.first.now;
  names_as_many = omega (arith, ap length c.requires.name_room.empty, c.from-number.ensures);
  names_room = c.requires.name_room.room;
  names_are = c.requires.name_room.empty;
  rows_are = ap (map (λ row. row.items)) c.requires.room.empty;
}

pub join-requires-clause-other_here : goal.join-requires-clause-other_here
join-requires-clause-other_here g c =
    let left : c.pop.new.self.items ++ c.in-Some.field-0 ∷ c.loop-pass.invariant.gone ≡ c.args.ended.items =
    taken-next _ _ _ _ _ c.in-Some.ensures.items c.loop-pass.invariant.left in
    (all-back (λ one. IsOfBoard c.args.board.now one.pass) c.pop.new.self.items (c.in-Some.field-0 ∷ c.loop-pass.invariant.gone) (rw left c.requires.may.each)).0

pub add-requires : goal.add-requires
add-requires g c = numbered c.loop-pass.ended.items c.pop.new.self.items c.in-Some.field-0 c.loop-pass.number (length c.loop-pass.rows.items)
    c.in-Some.ensures.items c.loop-pass.invariant.counted c.loop-pass.invariant.as_many

pub overflow_sub-number : goal.overflow_sub-number
overflow_sub-number g c =
    let is = numbered c.loop-pass.ended.items c.pop.new.self.items c.in-Some.field-0 c.loop-pass.number (length c.loop-pass.rows.items)
    c.in-Some.ensures.items c.loop-pass.invariant.counted c.loop-pass.invariant.as_many in
    is.first

pub push_reserved-requires : goal.push_reserved-requires
push_reserved-requires g c =
    let is = numbered c.loop-pass.ended.items c.pop.new.self.items c.in-Some.field-0 c.loop-pass.number (length c.loop-pass.rows.items)
    c.in-Some.ensures.items c.loop-pass.invariant.counted c.loop-pass.invariant.as_many in
    has-room c.loop-pass.rows c.loop-pass.number is.first c.loop-pass.invariant.as_many c.loop-pass.invariant.room

pub loop-pass-preserved : goal.loop-pass-preserved
loop-pass-preserved g c =
    let before = c.loop-pass.invariant in
    let longer-by-one : length c.loop-pass.ended.items ≡ length c.pop.new.self.items + 1 = longer _ _ _ c.in-Some.ensures.items in
    record {
      gone = c.in-Some.field-0 ∷ before.gone;
      left = taken-next _ _ _ _ _ c.in-Some.ensures.items before.left;
      counted = omega (arith, longer-by-one, before.counted);
      as_many = omega (arith, longer-by-one, before.counted, before.as_many, longer _ _ _ c.push_reserved.ensures.items);
      room = rw c.push_reserved.ensures.capacity before.room;
      first = after-next c.args.first.now c.loop-pass.first c.join.new.first before.gone c.in-Some.field-0 before.first c.join.ensures;
      names_as_many = omega (arith, longer-by-one, before.counted, before.names_as_many, longer _ _ _ c.push_reserved-in-Some.ensures.items);
      names_room = rw c.push_reserved-in-Some.ensures.capacity before.names_room;
      names_are = names-next c.loop-pass.names.items c.push_reserved-in-Some.new.self.items before.gone c.in-Some.field-0 before.names_are c.push_reserved-in-Some.ensures.items;
      rows_are = rows-next c.loop-pass.rows.items c.push_reserved.new.self.items c.reverse.new.self before.gone c.in-Some.field-0
          before.rows_are c.reverse.ensures.items c.push_reserved.ensures.items;
    }

pub loop-pass-smaller : goal.loop-pass-smaller
loop-pass-smaller g c = omega (arith, longer _ _ _ c.in-Some.ensures.items)
