-- Each line read back from its words.
use Rattle.dm_text.proofs.Names.{◌≡◌, refl, arith, Some, Line, line_words, line_of_words, LineFits}
use Rattle.dm_line.specs.declared.line.Line.TheVariants as line
use Rattle.dm_line.specs.declared.line.Load.TheVariants as load
use Rattle.dm_text.proofs.Pieces.{AreWords}
use Rattle.dm_text.proofs.WordsBack.{read_u8_back, read_u16_back, read_u32_back, read_u64_back, word_pid, read_pid_back, word_id, read_id_back, word_kind, read_kind_back}
use Rattle.dm_text.proofs.Fields.{word_u8, word_u16, word_u32, word_u64, word_stage, read_stage_back}
use Rattle.dm_text.proofs.LabelsBack.{head_words_are, head_back, label_words_are, label_back}

pub line_words-are : (l : Line) → LineFits l → AreWords (line_words l)
line_words-are (line.Head s) h = head_words_are s h
line_words-are (line.Idle m) h = (refl, (word_u8 m h.1.0, tt))
line_words-are (line.Label x) h = label_words_are x h
line_words-are (line.Put a b i k q) h = (refl, (word_u8 a h.1.0, (word_u8 b h.1.1.0, (word_id i h.1.1.1.0, (word_kind k, (word_pid 32 q (omega arith) h.1.1.1.1.1.0, tt))))))
line_words-are (line.Packet a b k (load.Data n)) h = (refl, (word_u8 a h.1.0, (word_u8 b h.1.1.0, (word_u64 k h.1.1.1.0, (refl, (word_u32 n h.1.1.1.1.1.0, tt))))))
line_words-are (line.Packet a b k (load.Ack n)) h = (refl, (word_u8 a h.1.0, (word_u8 b h.1.1.0, (word_u64 k h.1.1.1.0, (refl, (word_u32 n h.1.1.1.1.1.0, tt))))))
line_words-are (line.Taken a b n) h = (refl, (word_u8 a h.1.0, (word_u8 b h.1.1.0, (word_u32 n h.1.1.1.0, tt))))
line_words-are (line.Old a b n) h = (refl, (word_u8 a h.1.0, (word_u8 b h.1.1.0, (word_u32 n h.1.1.1.0, tt))))
line_words-are (line.Early a b n) h = (refl, (word_u8 a h.1.0, (word_u8 b h.1.1.0, (word_u32 n h.1.1.1.0, tt))))
line_words-are (line.Acked a b n) h = (refl, (word_u8 a h.1.0, (word_u8 b h.1.1.0, (word_u32 n h.1.1.1.0, tt))))
line_words-are line.Nothing h = (refl, tt)
line_words-are (line.Resent m n) h = (refl, (word_u8 m h.1.0, (word_u32 n h.1.1.0, tt)))
line_words-are (line.Queued i) h = (refl, (word_id i h.1.0, tt))
line_words-are (line.Held i) h = (refl, (word_id i h.1.0, tt))
line_words-are (line.Forwarded i m) h = (refl, (word_id i h.1.0, (word_u8 m h.1.1.0, tt)))
line_words-are (line.Updated i n) h = (refl, (word_id i h.1.0, (word_u32 n h.1.1.0, tt)))
line_words-are (line.Buried i n) h = (refl, (word_id i h.1.0, (word_u32 n h.1.1.0, tt)))
line_words-are (line.Migration s p) h = (refl, (word_stage s, (word_pid 32 p (omega arith) h.1.1.0, tt)))
line_words-are (line.SentOn p n) h = (refl, (refl, (word_pid 32 p (omega arith) h.1.1.0, (word_u32 n h.1.1.1.0, tt))))
line_words-are (line.Called p n) h = (refl, (word_pid 32 p (omega arith) h.1.0, (word_u32 n h.1.1.0, tt)))
line_words-are (line.Lacks p s b) h = (refl, (word_pid 32 p (omega arith) h.1.0, (word_u8 s h.1.1.0, (word_u16 b h.1.1.1.0, tt))))
line_words-are (line.Stays p) h = (refl, (word_pid 32 p (omega arith) h.1.0, tt))
line_words-are (line.Here i) h = (refl, (word_id i h.1.0, tt))
line_words-are (line.NoMove i) h = (refl, (word_id i h.1.0, tt))
line_words-are (line.Stale i) h = (refl, (word_id i h.1.0, tt))
line_words-are (line.Proto i) h = (refl, (word_id i h.1.0, tt))
line_words-are (line.NoChild p) h = (refl, (word_pid 32 p (omega arith) h.1.0, tt))
line_words-are (line.NoCall p) h = (refl, (word_pid 32 p (omega arith) h.1.0, tt))
line_words-are line.Away h = (refl, tt)

pub line_words-back : (l : Line) → LineFits l → line_of_words (line_words l) ≡ Some l
line_words-back (line.Head s) h = head_back s h
line_words-back (line.Idle m) h = rw (read_u8_back m h.1.0) refl
line_words-back (line.Label x) h = label_back x h
line_words-back (line.Put a b i k q) h = rw (read_u8_back a h.1.0, read_u8_back b h.1.1.0, read_id_back i h.1.1.1.0, read_kind_back k, read_pid_back q h.1.1.1.1.1.0) refl
line_words-back (line.Packet a b k (load.Data n)) h = rw (read_u8_back a h.1.0, read_u8_back b h.1.1.0, read_u64_back k h.1.1.1.0, read_u32_back n h.1.1.1.1.1.0) refl
line_words-back (line.Packet a b k (load.Ack n)) h = rw (read_u8_back a h.1.0, read_u8_back b h.1.1.0, read_u64_back k h.1.1.1.0, read_u32_back n h.1.1.1.1.1.0) refl
line_words-back (line.Taken a b n) h = rw (read_u8_back a h.1.0, read_u8_back b h.1.1.0, read_u32_back n h.1.1.1.0) refl
line_words-back (line.Old a b n) h = rw (read_u8_back a h.1.0, read_u8_back b h.1.1.0, read_u32_back n h.1.1.1.0) refl
line_words-back (line.Early a b n) h = rw (read_u8_back a h.1.0, read_u8_back b h.1.1.0, read_u32_back n h.1.1.1.0) refl
line_words-back (line.Acked a b n) h = rw (read_u8_back a h.1.0, read_u8_back b h.1.1.0, read_u32_back n h.1.1.1.0) refl
line_words-back line.Nothing h = refl
line_words-back (line.Resent m n) h = rw (read_u8_back m h.1.0, read_u32_back n h.1.1.0) refl
line_words-back (line.Queued i) h = rw (read_id_back i h.1.0) refl
line_words-back (line.Held i) h = rw (read_id_back i h.1.0) refl
line_words-back (line.Forwarded i m) h = rw (read_id_back i h.1.0, read_u8_back m h.1.1.0) refl
line_words-back (line.Updated i n) h = rw (read_id_back i h.1.0, read_u32_back n h.1.1.0) refl
line_words-back (line.Buried i n) h = rw (read_id_back i h.1.0, read_u32_back n h.1.1.0) refl
line_words-back (line.Migration s p) h = rw (read_stage_back s, read_pid_back p h.1.1.0) refl
line_words-back (line.SentOn p n) h = rw (read_pid_back p h.1.1.0, read_u32_back n h.1.1.1.0) refl
line_words-back (line.Called p n) h = rw (read_pid_back p h.1.0, read_u32_back n h.1.1.0) refl
line_words-back (line.Lacks p s b) h = rw (read_pid_back p h.1.0, read_u8_back s h.1.1.0, read_u16_back b h.1.1.1.0) refl
line_words-back (line.Stays p) h = rw (read_pid_back p h.1.0) refl
line_words-back (line.Here i) h = rw (read_id_back i h.1.0) refl
line_words-back (line.NoMove i) h = rw (read_id_back i h.1.0) refl
line_words-back (line.Stale i) h = rw (read_id_back i h.1.0) refl
line_words-back (line.Proto i) h = rw (read_id_back i h.1.0) refl
line_words-back (line.NoChild p) h = rw (read_pid_back p h.1.0) refl
line_words-back (line.NoCall p) h = rw (read_pid_back p h.1.0) refl
line_words-back line.Away h = refl
