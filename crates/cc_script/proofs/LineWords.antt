-- The words of a line, and what they are read as, one from the other.
use Rattle.std.proofs.Common.{◌≡◌, ℕ, ◌^◌, ◌<◌, ◌≤◌, Bool, true, false, not, Option, Some, None, option_map, List, [], ◌∷◌, ◌++◌, ◌↔◌, inl, inr, nat_le, codes, if◌then◌else◌, refl, ap, sym, ◌∙◌, subst, append-nil, arith}
use Rattle.std.specs.Str.{bytes_eq}
use Rattle.std.specs.Fmt.{decimal}
use Rattle.std.proofs.lemmas.Option.{same_Some}
use Rattle.std.proofs.lemmas.Slice.Eq.{bytes_eq-Decides}
use Rattle.std.proofs.lemmas.Bool.Decides.{nat_tests}
use Rattle.cc_script.specs.declared.script.Mode.{Mode}
use Rattle.cc_script.specs.declared.script.Mode.TheVariants as mode
use Rattle.cc_script.specs.declared.script.StreamLine.{StreamLine}
use Rattle.cc_script.specs.declared.script.Action.{Action}
use Rattle.cc_script.specs.declared.script.Action.TheVariants as action
use Rattle.cc_script.specs.Words.{parsed_number, number_between, is_name, name_of_word}
use Rattle.cc_script.specs.Actions.{next, flag, ended, parsed_file, parsed_quota, parsed_copy_read}
use Rattle.cc_script.specs.Grammar.{parsed_log, parsed_stored, parsed_stream, parsed_setting}
use Rattle.cc_script.specs.Modes.{IsStreamOf}
use Rattle.cc_script.specs.Laws.{SpellsQuota, SpellsLog, flag_words, IsStreamSpelling, IsReadSpelling, SpellsSetting}
use Rattle.cc_script.proofs.Numbers.{decimal-number_of, number_of-decimal}
use Rattle.cc_script.proofs.Steps.{then-gives, if-gives, next-gives, ended-gives, between-gives}

-- a number of a range is read from its decimal text
pub between-decimal : (low high n : ℕ) → low ≤ n → n ≤ high → high < 2 ^ 64 → number_between low high (decimal n) ≡ Some n
unfolding number_between
between-decimal low high n least most fits =
    let read : parsed_number (decimal n) ≡ Some n = number_of-decimal n (omega arith) in
    let s : nat_le low n ≡ true = grind (arith, nat_tests) in
    let t : nat_le n high ≡ true = grind (arith, nat_tests) in
    rw read (simp (s, t))

setting_spelled : (low high : ℕ) (ws : List (List ℕ)) (n : ℕ) → parsed_setting low high ws ≡ Some n → SpellsSetting low high ws n
unfolding parsed_setting
setting_spelled low high ws n e =
    let found = then-gives (next (number_between low high) ws) _ n e in
    let end = ended-gives _ _ n found.2 in
    let w = next-gives (number_between low high) ws found.0.0 found.0.1 found.1 in
    let b = between-gives low high w.word found.0.0 w.reads in
    let text : w.word ≡ decimal n = (decimal-number_of w.word found.0.0 b.number).1 ∙ ap decimal end.1 in
    (omega (arith, end.1, b.least), omega (arith, end.1, b.most), w.words ∙ rw (text, end.0) refl)

setting_read : (low high : ℕ) (ws : List (List ℕ)) (n : ℕ) → high < 2 ^ 64 → SpellsSetting low high ws n → parsed_setting low high ws ≡ Some n
unfolding parsed_setting
setting_read low high ws n fits s =
    let read : number_between low high (decimal n) ≡ Some n = between-decimal low high n s.0 s.1 fits in
    rw (s.2, read) refl

pub settings_spell : (low high : ℕ) (ws : List (List ℕ)) (n : ℕ) → high < 2 ^ 64 → (parsed_setting low high ws ≡ Some n) ↔ SpellsSetting low high ws n
settings_spell low high ws n fits = (setting_spelled low high ws n, setting_read low high ws n fits)

-- a flag is the given word, where that stands next
flag_spelled : (given : List ℕ) (ws : List (List ℕ)) → ws ≡ flag_words given (flag given ws).0 ++ (flag given ws).1
flag_spelled given [] = refl
flag_spelled given (word ∷ more) = either (bytes_eq word given) refl
  where
    either : (t : Bool) → bytes_eq word given ≡ t → word ∷ more ≡ flag_words given (flag given (word ∷ more)).0 ++ (flag given (word ∷ more)).1
    either true e = let same : word ≡ given = (bytes_eq-Decides word given).0 e in simp e (ap (λ (w : List ℕ). w ∷ more) same)
    either false e = simp e

-- and is read so at the end of the line
flag_read : (given : List ℕ) (is_set : Bool) → bytes_eq given given ≡ true → flag given (flag_words given is_set) ≡ (is_set, [])
flag_read given true e = simp e
flag_read given false e = refl

read_spelled : (streams : List StreamLine) (ws : List (List ℕ)) (asked : Action) → parsed_copy_read streams ws ≡ Some asked → IsReadSpelling streams ws asked
unfolding parsed_copy_read
read_spelled streams ws asked e =
    let file = then-gives (next (parsed_file streams) ws) _ asked e in
    let at = then-gives (next parsed_number file.0.1) _ asked file.2 in
    let len = then-gives (next (number_between 0 2097152) at.0.1) _ asked at.2 in
    let is_set = (flag (codes "nowait") len.0.1).0 in
    let end = ended-gives (flag (codes "nowait") len.0.1).1 (action.CopyRead file.0.0 at.0.0 len.0.0 (not is_set)) asked len.2 in
    let f = next-gives (parsed_file streams) ws file.0.0 file.0.1 file.1 in
    let a = next-gives parsed_number file.0.1 at.0.0 at.0.1 at.1 in
    let l = next-gives (number_between 0 2097152) at.0.1 len.0.0 len.0.1 len.1 in
    let b = between-gives 0 2097152 l.word len.0.0 l.reads in
    let at_is = decimal-number_of a.word at.0.0 a.reads in
    let len_is = decimal-number_of l.word len.0.0 b.number in
    let last : len.0.1 ≡ flag_words (codes "nowait") is_set ++ [] = flag_spelled (codes "nowait") len.0.1 ∙ ap (flag_words (codes "nowait") is_set ++◌) end.0 in
    record {
      name = f.word;
      file = file.0.0;
      at = at.0.0;
      len = len.0.0;
      wait = not is_set;
      words = f.words ∙ ap (f.word ∷◌) (a.words ∙ rw at_is.1 (ap (decimal at.0.0 ∷◌) (l.words ∙ rw len_is.1 (ap (decimal len.0.0 ∷◌) (last ∙ flag_end is_set)))));
      named = f.reads;
      at_fits = at_is.0;
      len_fits = b.most;
      asks = sym end.1;
    }
  where
    flag_end : (t : Bool) → flag_words (codes "nowait") t ++ [] ≡ flag_words (codes "nowait") (not (not t))
    flag_end true = refl
    flag_end false = refl

read_read : (streams : List StreamLine) (ws : List (List ℕ)) (asked : Action) → IsReadSpelling streams ws asked → parsed_copy_read streams ws ≡ Some asked
unfolding parsed_copy_read
read_read streams ws asked s =
    let named : parsed_file streams s.name ≡ Some s.file = s.named in
    let at : parsed_number (decimal s.at) ≡ Some s.at = number_of-decimal s.at s.at_fits in
    let len : number_between 0 2097152 (decimal s.len) ≡ Some s.len = between-decimal 0 2097152 s.len (omega arith) s.len_fits (omega arith) in
    rw (s.words, named, at, len) (last s.wait ∙ ap Some (sym s.asks))
  where
    last : (wait : Bool) → ended (flag (codes "nowait") (flag_words (codes "nowait") (not wait))).1 (action.CopyRead s.file s.at s.len (not (flag (codes "nowait") (flag_words (codes "nowait") (not wait))).0)) ≡ Some (action.CopyRead s.file s.at s.len wait)
    last true = refl
    last false = refl

pub reads_spell : (streams : List StreamLine) (ws : List (List ℕ)) (asked : Action) → (parsed_copy_read streams ws ≡ Some asked) ↔ IsReadSpelling streams ws asked
reads_spell streams ws asked = (read_spelled streams ws asked, read_read streams ws asked)

-- the words of a quota
record QuotaWords (ws : List (List ℕ)) (quota : ℕ) (more : List (List ℕ)) : Type 0 where
  own : List (List ℕ)
  words : ws ≡ own ++ more
  spells : SpellsQuota quota own

quota_spelled : (ws : List (List ℕ)) (quota : ℕ) (more : List (List ℕ)) → parsed_quota ws ≡ Some (quota, more) → QuotaWords ws quota more
unfolding parsed_quota
quota_spelled ws quota more e = either (flag (codes "quota") ws).0 (flag_spelled (codes "quota") ws) e
  where
    either : (t : Bool) → ws ≡ flag_words (codes "quota") t ++ (flag (codes "quota") ws).1 → (if t then next (number_between 8 64) (flag (codes "quota") ws).1 else Some (16, ws)) ≡ Some (quota, more) → QuotaWords ws quota more
    either true words g =
        let w = next-gives (number_between 8 64) (flag (codes "quota") ws).1 quota more g in
        let b = between-gives 8 64 w.word quota w.reads in
        let text : w.word ≡ decimal quota = (decimal-number_of w.word quota b.number).1 in
        record {
          own = codes "quota" ∷ decimal quota ∷ [];
          words = words ∙ ap (codes "quota" ∷◌) (w.words ∙ ap (λ (word : List ℕ). word ∷ more) text);
          spells = inr (b.least, b.most, refl);
        }
    either false words g =
        let pair : (let it : ℕ × List (List ℕ) = (16, ws) in it) ≡ (quota, more) = cc in
        record {
          own = [];
          words = ap (λ (it : ℕ × List (List ℕ)). it.1) pair;
          spells = inl (sym (ap (λ (it : ℕ × List (List ℕ)). it.0) pair), refl);
        }

-- and they are read so before other words
quota_read : (quota : ℕ) (own more : List (List ℕ)) → (flag (codes "quota") more) ≡ (false, more) → SpellsQuota quota own → parsed_quota (own ++ more) ≡ Some (quota, more)
unfolding parsed_quota
quota_read quota own more other (inl unsaid) = rw (unsaid.0, unsaid.1) (rw other refl)
quota_read quota own more other (inr said) =
    let read : number_between 8 64 (decimal quota) ≡ Some quota = between-decimal 8 64 quota said.0 said.1 (omega arith) in
    rw (said.2, read) refl

-- the words of a log
record LogWords (ws : List (List ℕ)) (log : Option ℕ) (more : List (List ℕ)) : Type 0 where
  own : List (List ℕ)
  words : ws ≡ own ++ more
  spells : SpellsLog log own

log_spelled : (ws : List (List ℕ)) (log : Option ℕ) (more : List (List ℕ)) → parsed_log ws ≡ Some (log, more) → LogWords ws log more
unfolding parsed_log
log_spelled ws log more e = either (flag (codes "log") ws).0 (flag_spelled (codes "log") ws) e
  where
    found : (o : Option (ℕ × List (List ℕ))) → next (number_between 0 3) (flag (codes "log") ws).1 ≡ o → ws ≡ codes "log" ∷ (flag (codes "log") ws).1 → option_map (λ (it : ℕ × List (List ℕ)). (let pair : Option ℕ × List (List ℕ) = (Some it.0, it.1) in pair)) o ≡ Some (log, more) → LogWords ws log more
    found (Some it) f words g =
        let pair : (let both : Option ℕ × List (List ℕ) = (Some it.0, it.1) in both) ≡ (log, more) = cc in
        let same : Some it.0 ≡ log = ap (λ (both : Option ℕ × List (List ℕ)). both.0) pair in
        let left : it.1 ≡ more = ap (λ (both : Option ℕ × List (List ℕ)). both.1) pair in
        let w = next-gives (number_between 0 3) (flag (codes "log") ws).1 it.0 it.1 f in
        let b = between-gives 0 3 w.word it.0 w.reads in
        let text : w.word ≡ decimal it.0 = (decimal-number_of w.word it.0 b.number).1 in
        record {
          own = codes "log" ∷ decimal it.0 ∷ [];
          words = words ∙ ap (codes "log" ∷◌) (w.words ∙ (ap (λ (word : List ℕ). word ∷ it.1) text ∙ ap (decimal it.0 ∷◌) left));
          spells = subst (λ (log : Option ℕ). SpellsLog log (codes "log" ∷ decimal it.0 ∷ [])) same (b.most, refl);
        }
    found None f words g = absurd (cc)

    either : (t : Bool) → ws ≡ flag_words (codes "log") t ++ (flag (codes "log") ws).1 → (if t then option_map (λ (it : ℕ × List (List ℕ)). (let pair : Option ℕ × List (List ℕ) = (Some it.0, it.1) in pair)) (next (number_between 0 3) (flag (codes "log") ws).1) else Some (None, ws)) ≡ Some (log, more) → LogWords ws log more
    either true words g = found (next (number_between 0 3) (flag (codes "log") ws).1) refl words g
    either false words g =
        let pair : (let it : Option ℕ × List (List ℕ) = (None, ws) in it) ≡ (log, more) = cc in
        let same : None ≡ log = ap (λ (it : Option ℕ × List (List ℕ)). it.0) pair in
        record {
          own = [];
          words = ap (λ (it : Option ℕ × List (List ℕ)). it.1) pair;
          spells = subst (λ (log : Option ℕ). SpellsLog log []) same refl;
        }

-- and they are read so before the last word
log_read : (log : Option ℕ) (stored : Bool) (own : List (List ℕ)) → SpellsLog log own → parsed_log (own ++ flag_words (codes "stored") stored) ≡ Some (log, flag_words (codes "stored") stored)
unfolding parsed_log
log_read None true own unsaid = rw unsaid refl
log_read None false own unsaid = rw unsaid refl
log_read (Some handle) stored own said =
    let read : number_between 0 3 (decimal handle) ≡ Some handle = between-decimal 0 3 handle (omega arith) said.0 (omega arith) in
    rw (said.1, read) refl

-- so is the last word
stored_read : (m : Mode) (stream : StreamLine) → IsStreamOf m stream → parsed_stored m (flag_words (codes "stored") stream.stored) ≡ (stream.stored, [])
unfolding parsed_stored
stored_read mode.Run stream of_mode = flag_read (codes "stored") stream.stored refl
stored_read mode.Steps stream of_mode = rw of_mode refl

-- what stands behind the words of a quota is no quota
no_quota : (temporary stored : Bool) (log : Option ℕ) (own : List (List ℕ)) → SpellsLog log own → flag (codes "quota") (flag_words (codes "temporary") temporary ++ (own ++ flag_words (codes "stored") stored)) ≡ (false, flag_words (codes "temporary") temporary ++ (own ++ flag_words (codes "stored") stored))
no_quota true stored log own said = refl
no_quota false true None own said = rw said refl
no_quota false false None own said = rw said refl
no_quota false stored (Some handle) own said = rw said.1 refl

-- and what stands in the place of `temporary` is that, the log or the last word
temporary_read : (temporary stored : Bool) (log : Option ℕ) (own : List (List ℕ)) → SpellsLog log own → flag (codes "temporary") (flag_words (codes "temporary") temporary ++ (own ++ flag_words (codes "stored") stored)) ≡ (temporary, own ++ flag_words (codes "stored") stored)
temporary_read true stored log own said = refl
temporary_read false true None own said = rw said refl
temporary_read false false None own said = rw said refl
temporary_read false stored (Some handle) own said = rw said.1 refl

-- the last word is the one that is read, and none in steps
stored_spelled : (m : Mode) (ws : List (List ℕ)) → (parsed_stored m ws).1 ≡ [] → ws ≡ flag_words (codes "stored") (parsed_stored m ws).0
unfolding parsed_stored
stored_spelled mode.Run ws ended =
    flag_spelled (codes "stored") ws ∙ (ap (flag_words (codes "stored") (flag (codes "stored") ws).0 ++◌) ended ∙ append-nil (flag_words (codes "stored") (flag (codes "stored") ws).0))
stored_spelled mode.Steps ws ended = ended

stored_of_mode : (m : Mode) (ws : List (List ℕ)) (stream : StreamLine) → stream.stored ≡ (parsed_stored m ws).0 → IsStreamOf m stream
unfolding parsed_stored
stored_of_mode mode.Run ws stream is = tt
stored_of_mode mode.Steps ws stream is = is

stream_spelled : (m : Mode) (n : ℕ) (ws : List (List ℕ)) (stream : StreamLine) → parsed_stream m n ws ≡ Some stream → IsStreamSpelling m n ws stream
unfolding parsed_stream name_of_word
stream_spelled m n ws stream e =
    let name = then-gives (next name_of_word ws) _ stream e in
    let size = then-gives (next parsed_number name.0.1) _ stream name.2 in
    let valid = then-gives (next parsed_number size.0.1) _ stream size.2 in
    let quota = then-gives (parsed_quota valid.0.1) _ stream valid.2 in
    let is_set = (flag (codes "temporary") quota.0.1).0 in
    let log = then-gives (parsed_log (flag (codes "temporary") quota.0.1).1) _ stream quota.2 in
    let end = ended-gives _ _ stream log.2 in
    let w = next-gives name_of_word ws name.0.0 name.0.1 name.1 in
    let s = next-gives parsed_number name.0.1 size.0.0 size.0.1 size.1 in
    let v = next-gives parsed_number size.0.1 valid.0.0 valid.0.1 valid.1 in
    let q = quota_spelled valid.0.1 quota.0.0 quota.0.1 quota.1 in
    let named = if-gives (is_name w.word) (Some w.word) name.0.0 w.reads in
    let same_name : w.word ≡ name.0.0 = same_Some w.word name.0.0 named.1 in
    let size_is = decimal-number_of s.word size.0.0 s.reads in
    let valid_is = decimal-number_of v.word valid.0.0 v.reads in
    let l = log_spelled (flag (codes "temporary") quota.0.1).1 log.0.0 log.0.1 log.1 in
    let behind : List (List ℕ) = flag_words (codes "stored") (parsed_stored m log.0.1).0 in
    let all : (flag (codes "temporary") quota.0.1).1 ≡ l.own ++ behind = l.words ∙ ap (l.own ++◌) (stored_spelled m log.0.1 end.0) in
    let last : quota.0.1 ≡ flag_words (codes "temporary") is_set ++ (l.own ++ behind) = flag_spelled (codes "temporary") quota.0.1 ∙ ap (flag_words (codes "temporary") is_set ++◌) all in
    subst (IsStreamSpelling m n ws) end.1
    (record {
      quota_words = q.own;
      log_words = l.own;
      words = w.words ∙ rw same_name (ap (name.0.0 ∷◌) (s.words ∙ rw size_is.1 (ap (decimal size.0.0 ∷◌) (v.words ∙ rw valid_is.1 (ap (decimal valid.0.0 ∷◌) (q.words ∙ ap (q.own ++◌) last))))));
      quota = q.spells;
      name = ap is_name (sym same_name) ∙ named.0;
      size = size_is.0;
      valid = valid_is.0;
      line = refl;
      log = l.spells;
      of_mode = stored_of_mode m log.0.1 _ refl;
    })

stream_read : (m : Mode) (n : ℕ) (ws : List (List ℕ)) (stream : StreamLine) → IsStreamSpelling m n ws stream → parsed_stream m n ws ≡ Some stream
unfolding parsed_stream name_of_word
stream_read m n ws stream s =
    let named : is_name stream.name ≡ true = s.name in
    let size : parsed_number (decimal stream.size) ≡ Some stream.size = number_of-decimal stream.size s.size in
    let valid : parsed_number (decimal stream.valid) ≡ Some stream.valid = number_of-decimal stream.valid s.valid in
    let behind = flag_words (codes "temporary") stream.temporary ++ (s.log_words ++ flag_words (codes "stored") stream.stored) in
    let quota = quota_read stream.quota s.quota_words behind (no_quota stream.temporary stream.stored stream.log s.log_words s.log) s.quota in
    let temporary = temporary_read stream.temporary stream.stored stream.log s.log_words s.log in
    let log = log_read stream.log stream.stored s.log_words s.log in
    let stored = stored_read m stream s.of_mode in
    rw (s.words, named, size, valid, quota, temporary, log, stored) (ap Some same)
  where
    same : (let made : StreamLine = record { line = n; name = stream.name; size = stream.size; valid = stream.valid; quota = stream.quota; temporary = stream.temporary; log = stream.log; stored = stream.stored } in made) ≡ stream
    same = rw (← s.line) refl

pub streams_spell : (m : Mode) (n : ℕ) (ws : List (List ℕ)) (stream : StreamLine) → (parsed_stream m n ws ≡ Some stream) ↔ IsStreamSpelling m n ws stream
streams_spell m n ws stream = (stream_spelled m n ws stream, stream_read m n ws stream)
