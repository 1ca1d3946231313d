-- What a summary counts is what begins with that word, by cases on the answer.
use Rattle.std.proofs.Common.{◌≡◌, Bool, true, false, List, [], ◌∷◌, Some, None, codes, take, refl}
use Rattle.std.specs.Str.{bytes_eq}
use Rattle.cc_entry.specs.declared.answer.AsyncStart.TheVariants as start
use Rattle.cc_entry.specs.declared.answer.Answer.{Answer}
use Rattle.cc_entry.specs.declared.answer.Answer.TheVariants as answer
use Rattle.cc_entry.specs.declared.reply.Reply.{Reply}
use Rattle.cc_entry.specs.declared.reply.Reply.TheVariants as reply
use Rattle.cc_script.specs.declared.script.StreamLine.{StreamLine}
use Rattle.cc_print.specs.Answers.{answer_text}
use Rattle.cc_print.specs.Summary.{is_ok, is_refused}

ok-given : (streams : List StreamLine) (r : Reply) → is_ok (answer.Given r) ≡ bytes_eq (take 2 (answer_text streams (answer.Given r))) (codes "ok")
ok-given streams reply.Unit = refl
ok-given streams (reply.Read bytes) = refl
ok-given streams (reply.Hold id) = refl
ok-given streams (reply.Value found) = refl
ok-given streams (reply.Rows rows) = refl
ok-given streams (reply.Ahead (Some request)) = refl
ok-given streams (reply.Ahead None) = refl
ok-given streams (reply.Whole whole) = refl

pub ok_printed : (streams : List StreamLine) (told : Answer) → is_ok told ≡ bytes_eq (take 2 (answer_text streams told)) (codes "ok")
ok_printed streams (answer.Given r) = ok-given streams r
ok_printed streams (answer.Refused e) = refl
ok_printed streams (answer.NcRefused done cause) = refl
ok_printed streams (answer.Count bytes) = refl
ok_printed streams (answer.NewLsn lsn) = refl
ok_printed streams (answer.Ticked tick) = refl
ok_printed streams (answer.Posts []) = refl
ok_printed streams (answer.Posts (id ∷ ids)) = refl
ok_printed streams (answer.Deferred id) = refl
ok_printed streams (answer.Levels levels) = refl
ok_printed streams (answer.Stepped (Some done)) = refl
ok_printed streams (answer.Stepped None) = refl
ok_printed streams (answer.Started (start.Ready bytes)) = refl
ok_printed streams (answer.Started (start.Queued id)) = refl
ok_printed streams (answer.Completed (Some done)) = refl
ok_printed streams (answer.Completed None) = refl
ok_printed streams (answer.Restarted updates) = refl
ok_printed streams (answer.LockId id) = refl
ok_printed streams answer.NoHold = refl
ok_printed streams answer.NotNow = refl
ok_printed streams answer.Faulted = refl

refused-given : (streams : List StreamLine) (r : Reply) → is_refused (answer.Given r) ≡ bytes_eq (take 5 (answer_text streams (answer.Given r))) (codes "error")
refused-given streams reply.Unit = refl
refused-given streams (reply.Read bytes) = refl
refused-given streams (reply.Hold id) = refl
refused-given streams (reply.Value found) = refl
refused-given streams (reply.Rows rows) = refl
refused-given streams (reply.Ahead (Some request)) = refl
refused-given streams (reply.Ahead None) = refl
refused-given streams (reply.Whole whole) = refl

pub refused_printed : (streams : List StreamLine) (told : Answer) → is_refused told ≡ bytes_eq (take 5 (answer_text streams told)) (codes "error")
refused_printed streams (answer.Given r) = refused-given streams r
refused_printed streams (answer.Refused e) = refl
refused_printed streams (answer.NcRefused done cause) = refl
refused_printed streams (answer.Count bytes) = refl
refused_printed streams (answer.NewLsn lsn) = refl
refused_printed streams (answer.Ticked tick) = refl
refused_printed streams (answer.Posts []) = refl
refused_printed streams (answer.Posts (id ∷ ids)) = refl
refused_printed streams (answer.Deferred id) = refl
refused_printed streams (answer.Levels levels) = refl
refused_printed streams (answer.Stepped (Some done)) = refl
refused_printed streams (answer.Stepped None) = refl
refused_printed streams (answer.Started (start.Ready bytes)) = refl
refused_printed streams (answer.Started (start.Queued id)) = refl
refused_printed streams (answer.Completed (Some done)) = refl
refused_printed streams (answer.Completed None) = refl
refused_printed streams (answer.Restarted updates) = refl
refused_printed streams (answer.LockId id) = refl
refused_printed streams answer.NoHold = refl
refused_printed streams answer.NotNow = refl
refused_printed streams answer.Faulted = refl
