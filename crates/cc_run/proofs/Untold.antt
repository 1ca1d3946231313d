-- What a later line tells is left out of the answers before it: the steps.
use Rattle.std.specs.Prelude.{◌≡◌, ℕ, zero, suc, nat_eq, ◌+◌, ◌-◌, ◌<◌, ◌≤◌, ◌==◌, ◌||◌, ◌⊎◌, Bool, true, false, List, [], ◌∷◌, ◌++◌, length, take, drop, slice_get, slice_set, refl, get_or}
use Rattle.std.specs.declared.option.Option.TheVariants.{Some}
use Rattle.std.specs.List.{IsDistinct, list_any}
use Rattle.std.proofs.Common.{sym, ap, subst, ◌∙◌, arith, append_assoc, inl, inr}
use Rattle.std.proofs.Math.Seq.{drop-cons}
use Rattle.std.proofs.lemmas.Bool.{eq-eqb, eqb-false, eqb-true, ne_eqb}
use Rattle.std.proofs.lemmas.List.{drop_all, drop-set, drop-set-lt, length-set, take-set, take_rest}
use Rattle.std.proofs.lemmas.List.Folds.{list_any-append}
use Rattle.std.proofs.lemmas.Option.{get_or_from_slice_get, same_Some, slice_get_within}
use Rattle.cc_entry.specs.declared.answer.Answer.{Answer}
use Rattle.cc_entry.specs.declared.answer.Answer.TheVariants as answer
use Rattle.cc_entry.specs.declared.answer.LineReply.{LineReply}
use Rattle.cc_script.specs.declared.script.Action.{Action}
use Rattle.cc_script.specs.declared.script.Action.TheVariants as action
use Rattle.cc_script.specs.declared.script.ActionLine.{ActionLine}
use Rattle.cc_pieces.specs.Explained.{posted_in}
use Rattle.cc_pieces.specs.Served.{posted_by}
use Rattle.cc_run.specs.Once.{AllTellPart, ArePart, IsAnswerPut, TellsPart, tells_it}
use Rattle.cc_run.proofs.PostSteps.{get-there}
use Rattle.cc_run.proofs.ToldOnce.{all-same, once-more, once-none, part-long, part-same, part-then, part-without}

-- ---- a number that is told again behind it

told-without : (n id : ℕ) (front back : List ℕ) → tells_it id back ≡ true → tells_it n (front ++ id ∷ back) ≡ tells_it n (front ++ back)
told-without n id [] back told = by (n == id) refl
  where
    by : (b : Bool) → (n == id) ≡ b → (b || tells_it n back) ≡ tells_it n back
    by false test = refl
    by true test = sym (subst (λ m. tells_it m back ≡ true) (sym (eqb-true n id test)) told)
told-without n id (m ∷ front) back told = ap (λ b. (n == m) || b) (told-without n id front back told)

-- it is left out
pub all-without : (n id : ℕ) (ids others : List ℕ) (at : ℕ) → drop at ids ≡ id ∷ drop (suc at) ids → tells_it id (drop (suc at) ids ++ others) ≡ true → tells_it n (ids ++ others) ≡ tells_it n ((take at ids ++ drop (suc at) ids) ++ others)
all-without n id ids others at there told =
    ap (λ l. tells_it n (l ++ others)) parts
    ∙ (ap (tells_it n) (append_assoc (take at ids) (id ∷ drop (suc at) ids) others)
    ∙ (told-without n id (take at ids) (drop (suc at) ids ++ others) told
    ∙ ap (tells_it n) (sym (append_assoc (take at ids) (drop (suc at) ids) others))))
  where
    whole : (k : ℕ) (xs : List ℕ) → xs ≡ take k xs ++ drop k xs
    whole zero xs = refl
    whole (suc k) [] = refl
    whole (suc k) (x ∷ xs) = ap (λ l. x ∷ l) (whole k xs)

    parts : ids ≡ take at ids ++ id ∷ drop (suc at) ids
    parts = whole at ids ∙ ap (λ l. take at ids ++ l) there

-- what stands from its place on
pub drop-without : (at : ℕ) (ids : List ℕ) → drop at (take at ids ++ drop (suc at) ids) ≡ drop (suc at) ids
drop-without zero ids = refl
drop-without (suc at) [] = refl
drop-without (suc at) (id ∷ ids) = drop-without at ids

pub long-without : (at : ℕ) (ids : List ℕ) → at < length ids → at ≤ length (take at ids ++ drop (suc at) ids)
long-without zero ids within = omega arith
long-without (suc at) [] within = absurd (omega (arith, within))
long-without (suc at) (id ∷ ids) within = let rest = long-without at ids (omega (arith, within)) in omega (arith, rest)

-- a number is among those where one of them is it
pub told-same : (id : ℕ) (ids : List ℕ) → list_any (λ told. told == id) ids ≡ tells_it id ids
told-same id [] = refl
told-same id (n ∷ ids) = ap (λ b. b || list_any (λ told. told == id) ids) (turned n id) ∙ ap (λ b. (id == n) || b) (told-same id ids)
  where
    turned : (n m : ℕ) → (n == m) ≡ (m == n)
    turned n m = by (n == m) refl
      where
        by : (b : Bool) → (n == m) ≡ b → (n == m) ≡ (m == n)
        by true test = test ∙ sym (eq-eqb m n (sym (eqb-true n m test)))
        by false test = test ∙ sym (ne_eqb m n (λ e. eqb-false n m test (sym e)))

pub either-told : (id : ℕ) (back others : List ℕ) (b : Bool) → tells_it id back ≡ b → (b ≡ true) ⊎ (tells_it id others ≡ true) → tells_it id (back ++ others) ≡ true
either-told id back others b is told = list_any-append (λ told. id == told) back others ∙ by b is told
  where
    by : (b : Bool) → tells_it id back ≡ b → (b ≡ true) ⊎ (tells_it id others ≡ true) → (tells_it id back || tells_it id others) ≡ true
    by true is told = ap (λ b. b || tells_it id others) is
    by false is (inl none) = absurd (cc none)
    by false is (inr told) = ap (λ b. b || tells_it id others) is ∙ told

pub neither-told : (id : ℕ) (back others : List ℕ) → tells_it id back ≡ false → tells_it id others ≡ false → tells_it id (back ++ others) ≡ false
neither-told id back others none more = list_any-append (λ told. id == told) back others ∙ rw (none, more) refl

-- what is left of the numbers of a line, where those from a place on were looked at
pub record UntoldFrom (ids others : List ℕ) (at : ℕ) (now : List ℕ) : Type 0 where
  pub within : at ≤ length now
  pub part : ArePart ids now
  pub once : IsDistinct nat_eq (drop at now ++ others)
  pub all : (id : ℕ) → tells_it id (ids ++ others) ≡ tells_it id (now ++ others)

pub untold-first : (ids others : List ℕ) (at : ℕ) → at ≡ length ids → IsDistinct nat_eq others → UntoldFrom ids others at ids
untold-first ids others at long apart = record {
  within = omega (arith, long);
  part = part-same ids;
  once = rw (drop_all at ids (omega (arith, long))) apart;
  all = λ id. refl;
}

module _ (ids others now : List ℕ) (before at id : ℕ) (next : before ≡ suc at) (here : drop at now ≡ id ∷ drop (suc at) now) (left : UntoldFrom ids others before now) where
  from : IsDistinct nat_eq (drop (suc at) now ++ others)
  from = subst (λ n. IsDistinct nat_eq (drop n now ++ others)) next left.once

  -- the number is told behind it
  pub untold-out : (new : List ℕ) → new ≡ take at now ++ drop (suc at) now → tells_it id (drop (suc at) now ++ others) ≡ true → UntoldFrom ids others at new
  untold-out new is told = subst (λ l. UntoldFrom ids others at l) (sym is) (record {
    within = long-without at now (omega (arith, next, left.within));
    part = part-then ids now (take at now ++ drop (suc at) now) left.part (part-without at now);
    once = subst (λ l. IsDistinct nat_eq (l ++ others)) (sym (drop-without at now)) from;
    all = λ n. left.all n ∙ all-without n id now others at here told;
  })

  -- it is not
  pub untold-kept : tells_it id (drop (suc at) now ++ others) ≡ false → UntoldFrom ids others at now
  untold-kept none = record {
    within = omega (arith, next, left.within);
    part = left.part;
    once = subst (λ l. IsDistinct nat_eq (l ++ others)) (sym here) (once-more id (drop (suc at) now ++ others) none from);
    all = left.all;
  }

-- ---- the answer of one line

tells-then : (asked : Action) (first told kept : Answer) → TellsPart asked first told → TellsPart asked told kept → TellsPart asked first kept
tells-then action.Post (answer.Posts ids) (answer.Posts some) (answer.Posts fewer) part more = part-then ids some fewer part more
tells-then action.Post (answer.Posts ids) (answer.Posts some) kept part more = absurd (cc more)
tells-then action.Post (answer.Posts ids) told kept part more = absurd (cc part)
tells-then action.Post first told kept part more = subst (λ t. TellsPart action.Post t kept) part more
tells-then asked first told kept part more = more ∙ part

-- a line's answer is put in place of another, of which it is a part
part-put : (lines : List ActionLine) (first now : List LineReply) (at : ℕ) (line : ActionLine) (reply : LineReply) (kept : Answer) → AllTellPart lines first now → drop at lines ≡ line ∷ drop (suc at) lines → slice_get now at ≡ Some reply → TellsPart line.action reply.answer kept → AllTellPart lines first (slice_set now at (record { line = reply.line; answer = kept }))
part-put [] first now zero line reply kept part here there tells = absurd (cc here)
part-put [] first now (suc at) line reply kept part here there tells = absurd (cc here)
part-put (l ∷ lines) [] now at line reply kept part here there tells = absurd part
part-put (l ∷ lines) (r ∷ first) [] at line reply kept part here there tells = absurd part
part-put (l ∷ lines) (r ∷ first) (one ∷ now) zero line reply kept part here there tells =
    (ap (λ x. x.line) (sym same) ∙ part.0, tells-then l.action r.answer one.answer kept part.1 (tells_now here), part.2)
  where
    same : one ≡ reply
    same = same_Some one reply there

    tells_now : l ∷ lines ≡ line ∷ lines → TellsPart l.action one.answer kept
    tells_now is =
        let at_head : l ≡ line = ap (λ xs. get_or xs 0 line) is in
        subst (λ x. TellsPart l.action x.answer kept) (sym same) (subst (λ x. TellsPart x.action reply.answer kept) (sym at_head) tells)
part-put (l ∷ lines) (r ∷ first) (one ∷ now) (suc at) line reply kept part here there tells =
    (part.0, part.1, part-put lines first now at line reply kept part.2 here there tells)

-- what the lines tell, before a place and from there on
posted-parts : (at : ℕ) (lines : List ActionLine) (replies : List LineReply) → length replies ≡ length lines → posted_in lines replies ≡ posted_in (take at lines) (take at replies) ++ posted_in (drop at lines) (drop at replies)
posted-parts zero lines replies long = refl
posted-parts (suc at) [] replies long = refl
posted-parts (suc at) (line ∷ lines) [] long = absurd (omega (arith, long))
posted-parts (suc at) (line ∷ lines) (reply ∷ replies) long =
    ap (λ l. posted_by line.action reply.answer ++ l) (posted-parts at lines replies (omega (arith, long)))
    ∙ sym (append_assoc (posted_by line.action reply.answer) (posted_in (take at lines) (take at replies)) (posted_in (drop at lines) (drop at replies)))

same-drop : {A B : Type 0} (n : ℕ) (xs : List A) (ys : List B) → length xs ≡ length ys → length (drop n xs) ≡ length (drop n ys)
same-drop zero xs ys long = long
same-drop (suc n) [] [] long = refl
same-drop (suc n) [] (y ∷ ys) long = absurd (omega (arith, long))
same-drop (suc n) (x ∷ xs) [] long = absurd (omega (arith, long))
same-drop (suc n) (x ∷ xs) (y ∷ ys) long = same-drop n xs ys (omega (arith, long))

-- what a slice from the next place on has
pub behind : {A : Type 0} (xs : List A) (at : ℕ) → take (length xs - (at + 1)) (drop (at + 1) xs) ≡ drop (suc at) xs
behind xs at = let on : at + 1 ≡ suc at = omega arith in take_rest xs (at + 1) ∙ ap (λ n. drop n xs) on

-- an answer was put in place of one, and another of that
set-twice : (xs : List LineReply) (at : ℕ) (x y : LineReply) → slice_set (slice_set xs at x) at y ≡ slice_set xs at y
set-twice [] at x y = refl
set-twice (z ∷ xs) zero x y = refl
set-twice (z ∷ xs) (suc at) x y = ap (λ l. z ∷ l) (set-twice xs at x y)

put-twice : (at : ℕ) (first second told other : Answer) (old mid new : List LineReply) → IsAnswerPut at first told old mid → IsAnswerPut at second other mid new → IsAnswerPut at second told old new
put-twice at first second told other old mid new one two = record {
  reply = one.reply;
  there = one.there;
  told_is = one.told_is;
  left = two.left
      ∙ (ap (λ l. slice_set mid at (record { line = l; answer = second })) (ap (λ x. x.line) same)
      ∙ (ap (λ l. slice_set l at (record { line = one.reply.line; answer = second })) one.left
      ∙ set-twice old at (record { line = one.reply.line; answer = first }) (record { line = one.reply.line; answer = second })));
}
  where
    same : two.reply ≡ record { line = one.reply.line; answer = first }
    same = same_Some two.reply (record { line = one.reply.line; answer = first })
        (sym two.there ∙ (ap (λ l. slice_get l at) one.left
        ∙ get-there old at (record { line = one.reply.line; answer = first }) (slice_get_within old at one.reply one.there)))

-- the answers, of which those from a line on tell no number twice
pub record OnceFrom (lines : List ActionLine) (first : List LineReply) (at : ℕ) (now : List LineReply) : Type 0 where
  pub within : at ≤ length lines
  pub part : AllTellPart lines first now
  pub once : IsDistinct nat_eq (posted_in (drop at lines) (drop at now))
  pub all : (id : ℕ) → tells_it id (posted_in lines first) ≡ tells_it id (posted_in lines now)

pub once-first : (lines : List ActionLine) (replies : List LineReply) (at : ℕ) → at ≡ length lines → length lines ≡ length replies → OnceFrom lines replies at replies
once-first lines replies at end long = record {
  within = omega (arith, end);
  part = all-same lines replies long;
  once = rw (drop_all at lines (omega (arith, end))) once-none;
  all = λ id. refl;
}

module _ (lines : List ActionLine) (first now mid : List LineReply) (before at : ℕ) (line : ActionLine) (told : Answer) (next : before ≡ suc at) (here : drop at lines ≡ line ∷ drop (suc at) lines) (left : OnceFrom lines first before now) (out : IsAnswerPut at answer.NoHold told now mid) where
  -- what stands behind the answer that was taken out
  behind_mid : drop (suc at) mid ≡ drop (suc at) now
  behind_mid = ap (λ l. drop (suc at) l) out.left ∙ drop-set-lt (suc at) now at (record { line = out.reply.line; answer = answer.NoHold }) (omega arith)

  -- what `untold` is asked with
  pub long-behind : length (drop (suc at) lines) ≡ length (drop (suc at) mid)
  long-behind = sym (ap length behind_mid ∙ same-drop (suc at) now lines (part-long lines first now left.part))

  pub apart-behind : IsDistinct nat_eq (posted_in (drop (suc at) lines) (drop (suc at) mid))
  apart-behind = subst (λ l. IsDistinct nat_eq (posted_in (drop (suc at) lines) l)) (sym behind_mid)
      (subst (λ n. IsDistinct nat_eq (posted_in (drop n lines) (drop n now))) next left.once)

  module _ (kept other : Answer) (new : List LineReply) (later : List ActionLine) (after : List LineReply) (later_is : later ≡ drop (suc at) lines) (after_is : after ≡ drop (suc at) mid) (part : TellsPart line.action told kept) (once : IsDistinct nat_eq (posted_by line.action kept ++ posted_in later after)) (all : (id : ℕ) → tells_it id (posted_by line.action told ++ posted_in later after) ≡ tells_it id (posted_by line.action kept ++ posted_in later after)) (back : IsAnswerPut at kept other mid new) where
    behind_now : after ≡ drop (suc at) now
    behind_now = after_is ∙ behind_mid

    once_now : IsDistinct nat_eq (posted_by line.action kept ++ posted_in (drop (suc at) lines) (drop (suc at) now))
    once_now = rw (later_is, behind_now) at once

    all_now : (id : ℕ) → tells_it id (posted_by line.action told ++ posted_in (drop (suc at) lines) (drop (suc at) now)) ≡ tells_it id (posted_by line.action kept ++ posted_in (drop (suc at) lines) (drop (suc at) now))
    all_now id = rw (later_is, behind_now) at all id

    put : IsAnswerPut at kept told now new
    put = put-twice at answer.NoHold kept told other now mid new out back

    abbrev rest : List ℕ
    rest = posted_in (drop (suc at) lines) (drop (suc at) now)

    abbrev one : LineReply
    one = record { line = put.reply.line; answer = kept }

    within : at < length now
    within = slice_get_within now at put.reply put.there

    there : drop at now ≡ put.reply ∷ drop (suc at) now
    there = drop-cons now at put.reply within ∙ ap (λ x. x ∷ drop (suc at) now) (get_or_from_slice_get now at put.reply put.reply put.there)

    there_new : drop at new ≡ one ∷ drop (suc at) now
    there_new =
        let on : at + 1 ≡ suc at = omega arith in
        ap (λ l. drop at l) put.left ∙ (drop-set now at one within ∙ ap (λ n. one ∷ drop n now) on)

    was : posted_in (drop at lines) (drop at now) ≡ posted_by line.action told ++ rest
    was = ap (λ l. posted_in l (drop at now)) here ∙ (ap (λ r. posted_in (line ∷ drop (suc at) lines) r) there ∙ ap (λ a. posted_by line.action a ++ rest) (sym put.told_is))

    is : posted_in (drop at lines) (drop at new) ≡ posted_by line.action kept ++ rest
    is = ap (λ l. posted_in l (drop at new)) here ∙ ap (λ r. posted_in (line ∷ drop (suc at) lines) r) there_new

    long : length now ≡ length lines
    long = part-long lines first now left.part

    long_new : length new ≡ length lines
    long_new = ap length put.left ∙ (length-set now at one ∙ long)

    pub once-step : OnceFrom lines first at new
    once-step = record {
      within = omega (arith, next, left.within);
      part = subst (λ l. AllTellPart lines first l) (sym put.left)
          (part-put lines first now at line put.reply kept left.part here put.there (subst (λ t. TellsPart line.action t kept) put.told_is part));
      once = subst (λ l. IsDistinct nat_eq l) (sym is) once_now;
      all = λ n.
          let front = posted_in (take at lines) (take at now) in
          left.all n
          ∙ (ap (tells_it n) (posted-parts at lines now long)
          ∙ (list_any-append (λ t. n == t) front (posted_in (drop at lines) (drop at now))
          ∙ (ap (λ b. tells_it n front || b) (ap (tells_it n) was ∙ (all_now n ∙ sym (ap (tells_it n) is)))
          ∙ (ap (λ l. tells_it n (posted_in (take at lines) l) || tells_it n (posted_in (drop at lines) (drop at new)))
          (sym (ap (λ l. take at l) put.left ∙ take-set now at one))
          ∙ sym (ap (tells_it n) (posted-parts at lines new long_new)
          ∙ list_any-append (λ t. n == t) (posted_in (take at lines) (take at new)) (posted_in (drop at lines) (drop at new)))))));
    }
