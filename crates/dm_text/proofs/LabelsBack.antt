-- Heads of groups and steps of the kernel without machines, read back from their words.
use Rattle.dm_text.proofs.Names.{◌≡◌, refl, arith, Some, Label, Step, line_words, line_of_words, LineFits}
use Rattle.dm_onekernel.specs.declared.label.Label.TheVariants as label
use Rattle.dm_schedule.specs.declared.Step.TheVariants as step
use Rattle.dm_line.specs.declared.line.Line.TheVariants as line
use Rattle.dm_text.proofs.Pieces.{AreWords}
use Rattle.dm_text.proofs.WordsBack.{read_u8_back, read_u16_back, read_u32_back, read_u64_back, word_pid, read_pid_back, word_id, read_id_back, word_reply, read_reply_back, word_why, read_why_back, word_outcome, read_outcome_back}
use Rattle.dm_text.proofs.Fields.{word_u8, word_u16, word_u32, word_u64}

pub head_words_are : (x : Step) → LineFits (line.Head x) → AreWords (line_words (line.Head x))
head_words_are (step.Turn m) h = (refl, (word_u8 m h.1.0, tt))
head_words_are (step.Tick m) h = (refl, (word_u8 m h.1.0, tt))
head_words_are (step.Deliver a b k) h = (refl, (word_u8 a h.1.0, (word_u8 b h.1.1.0, (word_u64 k h.1.1.1.0, tt))))
head_words_are (step.Migrate p m) h = (refl, (word_pid 32 p (omega arith) h.1.0, (word_u8 m h.1.1.0, tt)))
head_words_are (step.CallOff p m) h = (refl, (word_pid 32 p (omega arith) h.1.0, (word_u8 m h.1.1.0, tt)))

pub head_back : (x : Step) → LineFits (line.Head x) → line_of_words (line_words (line.Head x)) ≡ Some (line.Head x)
head_back (step.Turn m) h = rw (read_u8_back m h.1.0) refl
head_back (step.Tick m) h = rw (read_u8_back m h.1.0) refl
head_back (step.Deliver a b k) h = rw (read_u8_back a h.1.0, read_u8_back b h.1.1.0, read_u64_back k h.1.1.1.0) refl
head_back (step.Migrate p m) h = rw (read_pid_back p h.1.0, read_u8_back m h.1.1.0) refl
head_back (step.CallOff p m) h = rw (read_pid_back p h.1.0, read_u8_back m h.1.1.0) refl

pub label_words_are : (x : Label) → LineFits (line.Label x) → AreWords (line_words (line.Label x))
label_words_are (label.Ran p k) h = (refl, (word_pid 32 p (omega arith) h.1.0, (word_u32 k h.1.1.0, tt)))
label_words_are (label.Call p n c) h = (refl, (word_pid 32 p (omega arith) h.1.0, (word_u8 n h.1.1.0, (word_reply c, tt))))
label_words_are (label.Send p i) h = (refl, (word_pid 32 p (omega arith) h.1.0, (word_id i h.1.1.0, tt)))
label_words_are (label.Wait p) h = (refl, (word_pid 32 p (omega arith) h.1.0, tt))
label_words_are (label.Out p w) h = (refl, (word_pid 32 p (omega arith) h.1.0, (word_u32 w h.1.1.0, tt)))
label_words_are (label.End p y) h = (refl, (word_pid 32 p (omega arith) h.1.0, (word_why y, tt)))
label_words_are (label.Receive p i) h = (refl, (word_pid 32 p (omega arith) h.1.0, (word_id i h.1.1.0, tt)))
label_words_are (label.Refuse p i c) h = (refl, (word_pid 32 p (omega arith) h.1.0, (word_id i h.1.1.0, (word_reply c, tt))))
label_words_are (label.Dropped i) h = (refl, (word_id i h.1.0, tt))
label_words_are (label.Served i) h = (refl, (word_id i h.1.0, tt))
label_words_are (label.Gone i) h = (refl, (word_id i h.1.0, tt))
label_words_are (label.Took i) h = (refl, (word_id i h.1.0, tt))
label_words_are (label.Created i p) h = (refl, (word_id i h.1.0, (word_pid 32 p (omega arith) h.1.1.0, tt)))
label_words_are (label.NoSpace i s b) h = (refl, (word_id i h.1.0, (word_u8 s h.1.1.0, (word_u16 b h.1.1.1.0, tt))))
label_words_are (label.Asked i) h = (refl, (word_id i h.1.0, tt))
label_words_are (label.Answered i o) h = (refl, (word_id i h.1.0, (word_outcome o, tt)))

pub label_back : (x : Label) → LineFits (line.Label x) → line_of_words (line_words (line.Label x)) ≡ Some (line.Label x)
label_back (label.Ran p k) h = rw (read_pid_back p h.1.0, read_u32_back k h.1.1.0) refl
label_back (label.Call p n c) h = rw (read_pid_back p h.1.0, read_u8_back n h.1.1.0, read_reply_back c) refl
label_back (label.Send p i) h = rw (read_pid_back p h.1.0, read_id_back i h.1.1.0) refl
label_back (label.Wait p) h = rw (read_pid_back p h.1.0) refl
label_back (label.Out p w) h = rw (read_pid_back p h.1.0, read_u32_back w h.1.1.0) refl
label_back (label.End p y) h = rw (read_pid_back p h.1.0, read_why_back y) refl
label_back (label.Receive p i) h = rw (read_pid_back p h.1.0, read_id_back i h.1.1.0) refl
label_back (label.Refuse p i c) h = rw (read_pid_back p h.1.0, read_id_back i h.1.1.0, read_reply_back c) refl
label_back (label.Dropped i) h = rw (read_id_back i h.1.0) refl
label_back (label.Served i) h = rw (read_id_back i h.1.0) refl
label_back (label.Gone i) h = rw (read_id_back i h.1.0) refl
label_back (label.Took i) h = rw (read_id_back i h.1.0) refl
label_back (label.Created i p) h = rw (read_id_back i h.1.0, read_pid_back p h.1.1.0) refl
label_back (label.NoSpace i s b) h = rw (read_id_back i h.1.0, read_u8_back s h.1.1.0, read_u16_back b h.1.1.1.0) refl
label_back (label.Asked i) h = rw (read_id_back i h.1.0) refl
label_back (label.Answered i o) h = rw (read_id_back i h.1.0, read_outcome_back o) refl
