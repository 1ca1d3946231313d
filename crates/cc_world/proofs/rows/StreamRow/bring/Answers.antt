-- A page with no byte below the valid data length lands without a read, any other with what was read; a disk that
-- failed leaves the entry of that, and one that found no memory none.
use Rattle.std.specs.Prelude.{◌≡◌, ℕ, ◌+◌, ◌-◌, ◌*◌, ◌<◌, nat_lt, Bool, true, false, is_some, None, [], ◌∷◌, refl}
use Rattle.std.proofs.Common.{ap, sym, ◌∙◌, subst, arith}
use Rattle.std.proofs.lemmas.Bool.{ltb-true}
use Rattle.cc_entry.specs.Place.{Page}
use Rattle.cc_entry.specs.declared.entry.Entry.{Entry}
use Rattle.cc_entry.specs.declared.entry.Entry.TheVariants as entry
use Rattle.cc_content.specs.Filling.{IsReadFrom}
use Rattle.cc_model.specs.History.{history}
use Rattle.cc_model.specs.Images.{open_of}
use Rattle.cc_model.specs.Residency.{is_resident}
use Rattle.cc_model.specs.Touches.{valid_of}
use Rattle.cc_turns.specs.Disk.{DiskStands, opening_of}
use Rattle.cc_effects.specs.declared.events.Event.TheVariants as event
use Rattle.cc_world.proofs.Filling.{nothing-below, book-unread}
use Rattle.cc_world.proofs.Placing.{so-far}
use Rattle.cc_world.proofs.Open.{open-kept}
use Rattle.cc_world.proofs.Standing.{is-idle, is-resting, may-push, went-one, went-none, rests-as, gained-so, ended-since}
use Rattle.cc_world.proofs.rows.StreamRow.bring.Goals as goal

back : (k n owed : ℕ) → k ≡ n - 1 → n ≡ owed + 1 → k ≡ owed
back k n owed is was = omega arith

less-none : (a b : ℕ) → a ≡ b + 0 → a ≡ b
less-none a b is = omega arith

-- a page that is read has such a byte
apart : {A : Type 0} (b : Bool) → b ≡ true → b ≡ false → A
apart b is isnt = absurd (cc)

pub returns-then-not-has_valid_byte-clause-ended : goal.returns-then-not-has_valid_byte-clause-ended
returns-then-not-has_valid_byte-clause-ended g c u first stand =
    let past = c.args.journal.now.entries in
    let s = c.args.self.now.book.stream in
    let none : nat_lt (4096 * c.args.page.page) (valid_of (history past s)) ≡ false =
    sym (c.has_valid_byte.ensures (opening_of first.told) past stand.row_is.book) ∙ c.if-not-has_valid_byte.true in
    c.land_read.ensures.ended u first stand (λ pages told i within below. absurd (nothing-below (valid_of (history past s)) c.args.page.page none i below))

pub push-requires-clause-may : goal.push-requires-clause-may
push-requires-clause-may g c =
    let u = c.requires.standing.0 in
    let first = c.requires.standing.1 in
    let stand = c.requires.standing.2 in
    may-push g.D.Told.told g.D.Told.faults u first 1 c.args.self.now c.args.journal.now stand c.args.journal.now.entries (entry.FillFailed c.args.pass c.args.page) refl refl tt

pub returns-in-Ok-clause-ended : goal.returns-in-Ok-clause-ended
returns-in-Ok-clause-ended g c u first stand =
    let j = c.args.journal.now in
    let row = c.args.self.now in
    let past = j.entries in
    let s = row.book.stream in
    let may = c.requires.standing.3 in
    let none : open_of (history past s) ≡ None = ap (λ (n : ℕ). open_of (history past n)) (sym c.requires.stream) ∙ may.no_transfer in
    let idle : is_some row.kept ≡ false = is-idle g.D.Told.told g.D.Told.faults u first 1 row j stand none in
    let rest = is-resting g.D.Told.told g.D.Told.faults u first 1 row j stand idle in
    let absent : is_resident (history past s) c.page.result ≡ false =
    ap (λ (n : ℕ). is_resident (history past n) c.page.result) (sym c.requires.stream) ∙ (ap (λ (p : ℕ). is_resident (history past c.args.page.stream) p) c.page.ensures.same ∙ may.absent) in
    let mid = record row { disk = c.read.new.disk } in
    ended-since g.D.Told.told g.D.Told.faults u first (event.Fill c.args.pass c.args.page) c.land_read-in-Ok.result row mid c.land_read-in-Ok.new.self j c.land_read-in-Ok.new.journal refl
    (less-none _ _ c.in-Ok.ensures.counted)
    (c.land_read-in-Ok.ensures.ended u first (record {
      good = stand.good;
      opening = stand.opening;
      known = stand.known;
      limits = stand.limits;
      row_is = record {
        book = stand.row_is.book;
        disk = rests-as g.D.Told.told g.D.Told.faults first past s c.read.new.disk row.kept idle (c.in-Ok.ensures.kept first past s rest.stands) rest.no_transfer;
      };
      reserved = stand.reserved;
    }) (subst (λ (p : ℕ). IsReadFrom (opening_of first.told) (history past s) p c.read.new.raw) c.page.ensures.same
    (c.in-Ok.ensures.found u first past s (record { stands = rest.stands; good = so-far u past stand.good; absent = absent }))))

pub returns-in-Err-Failed-clause-ended : goal.returns-in-Err-Failed-clause-ended
returns-in-Err-Failed-clause-ended g c u first stand =
    let j = c.args.journal.now in
    let row = c.args.self.now in
    let past = j.entries in
    let s = row.book.stream in
    let may = c.requires.standing.3 in
    let none : open_of (history past s) ≡ None = ap (λ (n : ℕ). open_of (history past n)) (sym c.requires.stream) ∙ may.no_transfer in
    let idle : is_some row.kept ≡ false = is-idle g.D.Told.told g.D.Told.faults u first 1 row j stand none in
    let rest = is-resting g.D.Told.told g.D.Told.faults u first 1 row j stand idle in
    let e : Entry = entry.FillFailed c.args.pass c.args.page in
    let this : record { stream = s; page = c.page.result } ≡ c.args.page =
    ap (λ (n : ℕ). let p : Page = record { stream = n; page = c.page.result } in p) (sym c.requires.stream)
    ∙ ap (λ (q : ℕ). let p : Page = record { stream = c.args.page.stream; page = q } in p) c.page.ensures.same in
    let failed : DiskStands g.D.Told.told g.D.Told.faults first (e ∷ past) s c.read.new.disk =
    subst (λ (p : Page). DiskStands g.D.Told.told g.D.Told.faults first (entry.FillFailed c.args.pass p ∷ past) s c.read.new.disk) this
    ((rw c.in-Err-Failed.field-0-is at c.in-Err-Failed.ensures.failed) first past s c.args.pass rest.stands) in
    let below : 4096 * c.args.page.page < valid_of (history past s) =
    ltb-true (4096 * c.args.page.page) (valid_of (history past s)) (sym (c.has_valid_byte.ensures (opening_of first.told) past stand.row_is.book) ∙ c.if-not-has_valid_byte.false) in (
      subst (λ (n : ℕ). 4096 * c.args.page.page < valid_of (history past n)) (sym c.requires.stream) below,
      went-one g.D.Told.told g.D.Told.faults u first 1 row j stand 1 e (record row { disk = c.read.new.disk }) c.push.new.self refl refl tt (gained-so j.reserved e j j c.push.new.self refl c.push.ensures.placed)
          (back _ _ _ (ap (λ x. x.reserved) c.push.ensures.placed) stand.reserved) refl
          (book-unread (opening_of first.told) c.args.pass c.args.page past row.book stand.row_is.book)
          (rests-as g.D.Told.told g.D.Told.faults first (e ∷ past) s c.read.new.disk row.kept idle failed (open-kept e past s refl ∙ rest.no_transfer))
          (rw c.in-Err-Failed.field-0-is at c.in-Err-Failed.ensures.counted),
    )

pub returns-in-Err-NoMemory-clause-ended : goal.returns-in-Err-NoMemory-clause-ended
returns-in-Err-NoMemory-clause-ended g c u first stand =
    let j = c.args.journal.now in
    let row = c.args.self.now in
    let past = j.entries in
    let s = row.book.stream in
    let may = c.requires.standing.3 in
    let none : open_of (history past s) ≡ None = ap (λ (n : ℕ). open_of (history past n)) (sym c.requires.stream) ∙ may.no_transfer in
    let idle : is_some row.kept ≡ false = is-idle g.D.Told.told g.D.Told.faults u first 1 row j stand none in
    let rest = is-resting g.D.Told.told g.D.Told.faults u first 1 row j stand idle in
    let k = c.release.new.self in (
      [],
      refl,
      went-none g.D.Told.told g.D.Told.faults u first 1 row j stand 0 (record row { disk = c.read.new.disk }) k
          (c.release.ensures ∙ ap (λ (n : ℕ). record j { reserved = n }) (sym (ap (λ x. x.reserved) c.release.ensures)))
          (back _ _ _ (ap (λ x. x.reserved) c.release.ensures) stand.reserved) refl stand.row_is.book
          (rests-as g.D.Told.told g.D.Told.faults first past s c.read.new.disk row.kept idle (c.in-Err-NoMemory.ensures.kept first past s rest.stands) rest.no_transfer)
          (rw c.in-Err-NoMemory.field-0-is at c.in-Err-NoMemory.ensures.counted),
    )

pub returns-in-Ok-clause-unread : goal.returns-in-Ok-clause-unread
returns-in-Ok-clause-unread g c opening past stands above =
    apart _ (sym (c.has_valid_byte.ensures opening past stands) ∙ c.if-not-has_valid_byte.false) above

pub returns-in-Err-Failed-clause-unread : goal.returns-in-Err-Failed-clause-unread
returns-in-Err-Failed-clause-unread g c opening past stands above =
    apart _ (sym (c.has_valid_byte.ensures opening past stands) ∙ c.if-not-has_valid_byte.false) above

pub returns-in-Err-NoMemory-clause-unread : goal.returns-in-Err-NoMemory-clause-unread
returns-in-Err-NoMemory-clause-unread g c opening past stands above =
    apart _ (sym (c.has_valid_byte.ensures opening past stands) ∙ c.if-not-has_valid_byte.false) above
