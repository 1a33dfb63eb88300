use Rattle.dm_chart.proofs.Names.{◌≡◌, List, ℕ, OnOk, codes, pid_word, subst}
use Rattle.dm_chart.proofs.Pieces.{named}
use Rattle.dm_chart.proofs.starts.put_number_and_name.Goals as goal

pub returns : goal.returns
returns c =
    subst (λ (t : List ℕ). OnOk c.put_bytes.result (c.put_bytes.new.into.items ≡ t))
    (named c.args.into.now.items c.put_words.new.into.items (pid_word c.args.process.now.pid) (codes " ") c.args.process.now.name c.in_ok-put_words.ensures)
    (rw c.as_slice.ensures at c.put_bytes.ensures)
