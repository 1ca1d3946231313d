-- The last entry of a journal, as a caller is told of it.
use Rattle.std.specs.Prelude.{◌≡◌, ℕ, List, [], ◌∷◌, slice_get, Option, None, Some, refl}
use Rattle.std.proofs.Common.{ap, sym, ◌∙◌, subst}
use Rattle.cc_entry.specs.declared.call.Call.{Call}
use Rattle.cc_entry.specs.declared.entry.Entry.{Entry}
use Rattle.cc_entry.specs.declared.entry.Entry.TheVariants as entry
use Rattle.cc_entry.specs.declared.reply.Outcome.TheVariants as outcome
use Rattle.cc_entry.specs.declared.reply.Reply.{Reply}
use Rattle.cc_writes.specs.Told.{HasAnswered, ToldLast, reply_of}
use Rattle.cc_writes.specs.Ways.{IsTold}
use Rattle.cc_writes.specs.declared.tell.Returned.{Returned}

first-is : (entries : List Entry) (e : Entry) → slice_get entries 0 ≡ Some e → (front : List Entry) × (entries ≡ e ∷ front)
first-is [] e is = absurd (cc)
first-is (x ∷ front) e is = (front, ap (λ l. l ∷ front) (inner is))
  where
    inner : Some x ≡ Some e → x ≡ e
    inner same = cc

-- an entry that has a reply is that of a call which was done with it
done-with : (e : Entry) (r : Reply) (entries front : List Entry) → entries ≡ e ∷ front → reply_of e ≡ Some r → HasAnswered r entries
done-with (entry.Call pass nth stream it (outcome.Done given)) r entries front is has = record { pass = pass; nth = nth; stream = stream; it = it; front = front; last = is ∙ ap (λ x. entry.Call pass nth stream it (outcome.Done x) ∷ front) (inner has) }
  where
    inner : Some given ≡ Some r → given ≡ r
    inner same = cc
done-with other r entries front is has = absurd (cc)

-- there is one last reply
pub same-reply : (entries : List Entry) (r x : Reply) → HasAnswered r entries → HasAnswered x entries → r ≡ x
same-reply entries r x a b = inner a.pass b.pass a.nth b.nth a.stream b.stream a.it b.it a.front b.front (sym a.last ∙ b.last)
  where
    inner : (p q m n : ℕ) (s t : Option ℕ) (i k : Call) (f g : List Entry) → entry.Call p m s i (outcome.Done r) ∷ f ≡ entry.Call q n t k (outcome.Done x) ∷ g → r ≡ x
    inner p q m n s t i k f g same = cc

-- the last entry of a journal has a reply
pub replied-last : (entries : List Entry) (e : Entry) (r : Reply) → slice_get entries 0 ≡ Some e → reply_of e ≡ Some r → HasAnswered r entries
replied-last entries e r last has =
    let first = first-is entries e last in
    done-with e r entries first.0 first.1 has

-- an entry that is the last, where a call was done with a reply, has it
answers : (entries : List Entry) (o : Option Entry) (r : Reply) → slice_get entries 0 ≡ o → HasAnswered r entries → (e : Entry) × (o ≡ Some e) × (reply_of e ≡ Some r)
answers entries o r first has = (
  entry.Call has.pass has.nth has.stream has.it (outcome.Done r),
  sym first ∙ ap (λ l. slice_get l 0) has.last,
  refl,
)

-- the reply that was told is the last one
pub told-last : (entries : List Entry) (e : Entry) (r : Reply) (told : Returned) (was now : List ℕ) → slice_get entries 0 ≡ Some e → reply_of e ≡ Some r → IsTold r told was now → ToldLast entries told was now
told-last entries e r told was now last has so x answered =
    subst (λ (y : Reply). IsTold y told was now) (same-reply entries r x (replied-last entries e r last has) answered) so

-- there is none, where the last entry has none
pub told-nothing : (entries : List Entry) (e : Entry) (told : Returned) (was now : List ℕ) → slice_get entries 0 ≡ Some e → reply_of e ≡ None → ToldLast entries told was now
told-nothing entries e told was now last none r has = absurd (clash found.0 (inner found.0 found.1) found.2)
  where
    found : (x : Entry) × (Some e ≡ Some x) × (reply_of x ≡ Some r)
    found = answers entries (Some e) r last has

    inner : (x : Entry) → Some e ≡ Some x → e ≡ x
    inner x same = cc

    clash : (x : Entry) → e ≡ x → reply_of x ≡ Some r → ⊥
    clash x same some = absurd (apart (sym none ∙ (ap reply_of same ∙ some)))
      where
        apart : None ≡ Some r → ⊥
        apart same = absurd (cc)

-- or there is no entry
pub told-empty : (entries : List Entry) (told : Returned) (was now : List ℕ) → slice_get entries 0 ≡ None → ToldLast entries told was now
told-empty entries told was now none r has = absurd (clash found.0 found.1)
  where
    found : (e : Entry) × (None ≡ Some e) × (reply_of e ≡ Some r)
    found = answers entries None r none has

    clash : (e : Entry) → None ≡ Some e → ⊥
    clash e same = absurd (cc)
