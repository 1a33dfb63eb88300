-- The note of a call that was refused.
use Rattle.dm_chart.proofs.Names.{◌≡◌, ℕ, [], ◌∷◌, Bool, ap, codes, if◌then◌else◌, ne_eqb, decimal, Pid, pid_word, Note, note, no_note, call_note}

abbrev pub refused_call : Pid → ℕ → ℕ → Note
refused_call p n code = note (codes "c0") (pid_word p ∷ codes " call " ∷ decimal n ∷ codes " refused: " ∷ decimal code ∷ [])

pub call_is_refused : (p : Pid) (n code : ℕ) → (code ≡ 0 → ⊥) → call_note p n code ≡ refused_call p n code
call_is_refused p n code some = ap (λ (t : Bool). if t then no_note else refused_call p n code) (ne_eqb code 0 some)
